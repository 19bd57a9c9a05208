-- What is written into a lent buffer. Assumes nothing.
use Rattle.std.specs.Prelude.{◌≡◌, ℕ, List, [], ◌++◌, length, drop, leb, Result, Ok, Err}
use Rattle.alpha.specs.Pick.{ifb}
use Rattle.alpha.specs.Answer.{refused}
use Rattle.alpha.specs.Program.{printed, answered, program}
use Rattle.alpha.specs.Verdict.{number_of, place_of}
use Rattle.alpha.specs.declared.Refusal.{Refusal}
use Rattle.text.specs.declared.writer.Writer.{Writer}
use Rattle.text.specs.Wrote.{WroteFew}

-- the output to the input bs where so many bytes are lent: nothing where they are fewer than any output may need
abbrev pub printed_in : ℕ → List ℕ → List ℕ
printed_in lent bs = ifb (leb 208910 lent) (λ _. program bs) (λ _. [])

-- the output stands at the start of what is lent, what lies beyond it is as it was, and r is its length
pub record Prints (bs out out' : List ℕ) (r : ℕ) : Type 0 where
  pub text : out' ≡ printed_in (length out) bs ++ drop (length (printed_in (length out) bs)) out
  pub long : r ≡ length (printed_in (length out) bs)

-- the output to the input bs is written, or nothing is and the input is refused
abbrev pub Reports : List ℕ → Writer → Writer → Result (Unit {0}) Refusal → Type 0
Reports bs before after (Ok u) = WroteFew 208910 before after (printed (answered bs))
Reports bs before after (Err why) = (after ≡ before) × (answered bs ≡ refused (number_of why) (place_of why))
