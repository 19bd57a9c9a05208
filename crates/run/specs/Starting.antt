-- The memo before the run. Assumes nothing.
use Rattle.std.specs.Prelude.{◌≡◌, Ok, Err, ℕ, ◌+◌, ◌≤◌, ◌<◌, Bool, List, length, get_or, ℤ, pos}
use Rattle.alpha.specs.declared.Outcome.TheVariants.{Outside, Value}
use Rattle.alpha.specs.Pick.{ifb}
use Rattle.alpha.specs.Sheet.{Sheet}
use Rattle.alpha.specs.Box.{index}
use Rattle.alpha.specs.Holds.{variable, is_input, in_domain}
use Rattle.alpha.specs.Check.{Element}
use Rattle.alpha.specs.Ask.{before}
use Rattle.alpha.specs.Run.{input_count}
use Rattle.alpha.specs.Outcome.{inputs_before}
use Rattle.laws.specs.Sheets.{vars_of, sheet_of}
use Rattle.tree.specs.Formed.{Formed}
use Rattle.domain.specs.declared.Ground.{Ground}
use Rattle.evaluate.specs.Memo.{Work, busy, unknown, Memo, code_at, value_at, code_of, value_of}
use Rattle.evaluate.specs.Working.{element_at}

-- what is stored of element m, by whether it lies in its declared domain and whether it is an input's, whose entry of the list is x: any
-- other has to be worked out
abbrev pub first_answer : Bool → Bool → ℤ → ℕ → Work
first_answer domain input x m = ifb domain (λ _. ifb input (λ _. Ok (Value x)) (λ _. Err (record { element = m }))) (λ _. Ok Outside)

-- where an element's entry in the input list stands
abbrev pub entry_place : Sheet → Element → ℕ
entry_place s e = inputs_before s e.who + index (variable s e.who).head.box e.at

-- what is stored of element e, of number m
abbrev pub start_answer : Sheet → List ℤ → Element → ℕ → Work
start_answer s ins e m =
    first_answer (in_domain (variable s e.who) e.at) (is_input (variable s e.who)) (get_or ins (entry_place s e) (pos 0)) m

-- the entries of the elements below n are those before the run, and no entry is in progress
pub record Started (s : Sheet) (ins : List ℤ) (memo : Memo) (n : ℕ) : Type 0 where
  pub codes_long : length memo.codes ≡ 4096
  pub values_long : length memo.values ≡ 4096
  pub low : (m : ℕ) → code_at memo m ≤ unknown
  pub idle : (m : ℕ) → code_at memo m ≡ busy → ⊥
  pub code : (m : ℕ) → m < n → code_at memo m ≡ code_of (start_answer s ins (element_at s m) m)
  pub value : (m : ℕ) → m < n → value_at memo m ≡ value_of (start_answer s ins (element_at s m) m)

-- ---- what is required

pub record Startable (g : Ground) (ins : List ℤ) : Type 0 where
  pub formed : Formed g.sheet.now g.table.now
  pub many : length ins ≡ input_count (sheet_of g.sheet.now)

-- the entries of the variables before v are those before the run
pub record StartedBefore (bs : List ℕ) (ins : List ℤ) (memo : Memo) (v : ℕ) : Type 0 where
  pub known : v < vars_of bs
  pub started : Started (sheet_of bs) ins memo (before (sheet_of bs) v)
