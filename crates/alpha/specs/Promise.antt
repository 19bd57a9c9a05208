-- The promise of every public call: for all inputs, accepted or refused, its answer, its place, and every entry of every lent slice
-- before (x) and after (x'). Each field is an equation with a definition, so two results that keep one promise are the same
-- (proofs/Unique.antt). Assumes nothing.
use Rattle.alpha.specs.declared.Refusal.{Refusal}
use Rattle.std.specs.Prelude.{◌≡◌, ℕ, List, ◌++◌, length, drop, ℤ, Result}
use Rattle.alpha.specs.Answer.{Answer, accepted, refused, next}
use Rattle.alpha.specs.Sheet.{Sheet, Point}
use Rattle.alpha.specs.Check.{check, total}
use Rattle.alpha.specs.Run.{run}
use Rattle.alpha.specs.Normalise.{normalise}
use Rattle.alpha.specs.Ask.{element_number, body_part, bytes_in}
use Rattle.alpha.specs.Verdict.{told}

-- the element total of a sheet that is accepted
abbrev pub total_of : Answer Sheet → Answer ℕ
total_of a = next a (λ s. accepted (total s))

-- what is lent, after an answer: the new entries from its start, and beyond them the old; after a refusal it is as it was
abbrev pub lent_after : {A B : Type 0} → Answer A → (A → List B) → List B → List B
lent_after (accepted a) new old = new a ++ drop (length (new a)) old
lent_after (refused n p) new old = old

-- check: the element total, or refusal 1 to 11
pub record Checks (sheet : List ℕ) (r : Result ℕ Refusal) : Type 0 where
  pub answer : told r ≡ total_of (check sheet)

-- run: the element total and both tables filled, or a refusal
pub record Runs (sheet : List ℕ) (ins : List ℤ) (codes codes' : List ℕ) (values values' : List ℤ) (r : Result ℕ Refusal) : Type 0 where
  pub answer : told r ≡ next (run sheet ins (length codes) (length values)) (λ _. total_of (check sheet))
  pub codes_after : codes' ≡ lent_after (run sheet ins (length codes) (length values)) (λ t. t.codes) codes
  pub values_after : values' ≡ lent_after (run sheet ins (length codes) (length values)) (λ t. t.values) values

-- normalise: the length written and the normal form's bytes, or a refusal
pub record Normalises (sheet : List ℕ) (out out' : List ℕ) (r : Result ℕ Refusal) : Type 0 where
  pub answer : told r ≡ next (normalise sheet (length out)) (λ bytes. accepted (length bytes))
  pub out_after : out' ≡ lent_after (normalise sheet (length out)) (λ bytes. bytes) out

-- element number: the number, or a refusal
pub record Numbers (sheet : List ℕ) (variable : ℕ) (point : Point) (r : Result ℕ Refusal) : Type 0 where
  pub answer : told r ≡ element_number sheet variable point

-- body of a variable: that part of the sheet, or an empty part
pub record Finds (sheet : List ℕ) (variable : ℕ) (part : List ℕ) : Type 0 where
  pub answer : part ≡ bytes_in (body_part sheet variable) sheet
