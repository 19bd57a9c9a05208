-- The evaluator before and after it works something out. Assumes nothing.
use Rattle.std.specs.Prelude.{◌≡◌, Result, ℕ, ◌+◌, List, set, ℤ}
use Rattle.alpha.specs.Sheet.{Sheet}
use Rattle.alpha.specs.declared.Outcome.{Outcome}
use Rattle.laws.specs.Sheets.{sheet_of}
use Rattle.tree.specs.Formed.{Formed}
use Rattle.evaluate.specs.declared.Evaluator.{Evaluator}
use Rattle.evaluate.specs.declared.settle.Stack.{Stack}
use Rattle.evaluate.specs.declared.Stop.{Stop}
use Rattle.evaluate.specs.declared.Worked.{Worked}
use Rattle.evaluate.specs.Memo as Memo
use Rattle.evaluate.specs.Memo.{Work, Thing, Memo, memo_of}
use Rattle.evaluate.specs.Working.{outcomes, WorksOut, EvaluatesAt}
use Rattle.evaluate.specs.Settling as Settling
use Rattle.evaluate.specs.Settling.{body_of, Settled}

-- the bytes of an evaluator's sheet, the sheet, and its memo
abbrev pub bytes : Evaluator → List ℕ
bytes g = g.ground.sheet.now

abbrev pub sheet : Evaluator → Sheet
sheet g = sheet_of (bytes g)

abbrev pub memo : Evaluator → Memo
memo g = memo_of g.memo.now

-- the sheet is formed
abbrev pub Stands : Evaluator → Type 0
Stands g = Formed (bytes g) g.ground.table.now

-- the same ground and ends, and the same memo, which may have other entries
pub record Same (g h : Evaluator) : Type 0 where
  pub ground : h.ground ≡ g.ground
  pub ends : h.ends ≡ g.ends
  pub memo : h.memo.ghost_name ≡ g.memo.ghost_name

-- the tree at p was worked out at z
abbrev pub Evaluates : Evaluator → Evaluator → ℕ → List ℤ → Result Worked Stop → Type 0
Evaluates g h p z r = EvaluatesAt (bytes g) p z (memo g) (memo h) r

-- element e was worked out
abbrev pub ElementDone : Evaluator → Evaluator → ℕ → Work → Type 0
ElementDone g h e r = WorksOut (sheet g) (memo g) (memo h) (λ ins. Memo.element (outcomes (sheet g) ins) e) r

-- the body of element e was
abbrev pub BodyDone : Evaluator → Evaluator → ℕ → Work → Type 0
BodyDone g h e r = WorksOut (sheet g) (memo g) (memo h) (body_of (sheet g) e) r

-- element e was settled, with the outcome o
abbrev pub Settles : Evaluator → Evaluator → ℕ → Outcome → Type 0
Settles g h e o = Settled (sheet g) e (memo g) (memo h) o

-- the stack has what is in progress
abbrev pub Stacked : Evaluator → Stack → Type 0
Stacked g k = Settling.StackedSome (sheet g) (memo g) k.entries k.high

-- element e was put on top
pub record Pushed (k l : Stack) (e : ℕ) : Type 0 where
  pub entries : l.entries ≡ set k.entries k.high e
  pub high : l.high ≡ k.high + 1

-- a turn was taken
abbrev pub Turned : Evaluator → Stack → Evaluator → Stack → Type 0
Turned g k h l = Settling.Turned (sheet g) (memo g) k.entries k.high (memo h) l.entries l.high
