-- An answer, and a part of a sheet, as one number of 64 bits; and the promises of crate alpha with their answers so packed. The upper
-- 32 bits have the refusal's number, 0 where accepted, and the lower 32 the answer or the place; or a part's start and its length.
-- No place or answer reaches 2^32, a sheet having at most 65,536 bytes and 4,096 elements, so % takes nothing away. Assumes nothing.
use Rattle.std.specs.Prelude.{◌≡◌, ℕ, ◌+◌, ◌*◌, ◌%◌, List, length, ℤ}
use Rattle.alpha.specs.Answer.{Answer, accepted, refused, next}
use Rattle.alpha.specs.Check.{check}
use Rattle.alpha.specs.Run.{run}
use Rattle.alpha.specs.Normalise.{normalise}
use Rattle.alpha.specs.Ask.{Part}
use Rattle.alpha.specs.Promise.{total_of, lent_after}

abbrev pub packed : Answer ℕ → ℕ
packed (accepted n) = n % 4294967296
packed (refused n p) = n * 4294967296 + p % 4294967296

abbrev pub packed_part : Part → ℕ
packed_part p = p.start % 4294967296 * 4294967296 + p.len % 4294967296

-- run, as in crate alpha's Promise.Runs
pub record RunsPacked (sheet : List ℕ) (ins : List ℤ) (codes codes' : List ℕ) (values values' : List ℤ) (r : ℕ) : Type 0 where
  pub answer : r ≡ packed (next (run sheet ins (length codes) (length values)) (λ _. total_of (check sheet)))
  pub codes_after : codes' ≡ lent_after (run sheet ins (length codes) (length values)) (λ t. t.codes) codes
  pub values_after : values' ≡ lent_after (run sheet ins (length codes) (length values)) (λ t. t.values) values

-- normalise, as in crate alpha's Promise.Normalises
pub record NormalisesPacked (sheet : List ℕ) (out out' : List ℕ) (r : ℕ) : Type 0 where
  pub answer : r ≡ packed (next (normalise sheet (length out)) (λ bytes. accepted (length bytes)))
  pub out_after : out' ≡ lent_after (normalise sheet (length out)) (λ bytes. bytes) out
