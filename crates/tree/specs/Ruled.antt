-- What a rule over all variables answers, and what SHAPE of one variable does. Assumes nothing.
use Rattle.std.specs.Prelude.{◌≡◌, ℕ, ◌<◌, Bool, true, List, get_or, drop, eqb, leb, Option, Some, None, Result, Ok, Err}
use Rattle.alpha.specs.Pick.{ifb}
use Rattle.alpha.specs.Answer.{Answer, accepted, refused, next, TYPE, REACH}
use Rattle.alpha.specs.Sheet.{Declared, Variable, Sheet}
use Rattle.alpha.specs.Read.{no_head}
use Rattle.alpha.specs.Shape.{Bodied, body_of, bodies}
use Rattle.alpha.specs.Reach.{limit, top_reach, row_reach}
use Rattle.alpha.specs.Holds.{variable}
use Rattle.alpha.specs.Check.{first, typed, reached}
use Rattle.alpha.specs.declared.Refusal.{Refusal}
use Rattle.laws.specs.Sheets.{raw_of, heads_of, shaped_of}
use Rattle.tree.specs.declared.Rest.{Rest}

-- the nodes that are left after a body
abbrev pub rest_of : Bodied → Rest
rest_of b = record { next = b.next; left = b.left }

-- a body, as far as the walk goes
abbrev pub body_shape : Answer Bodied → Option Rest
body_shape (accepted b) = Some (rest_of b)
body_shape (refused n p) = None

-- the body of variable v, of the nodes that are left
abbrev pub body_at : List ℕ → ℕ → Rest → Answer Bodied
body_at bs v from = body_of (get_or (heads_of bs) v no_head).kind v (get_or (heads_of bs) v no_head) (heads_of bs) bs from.next from.left

-- SHAPE of the variables from number v on, of the nodes that are left
abbrev pub shapes_from : List ℕ → ℕ → Rest → Answer Sheet
shapes_from bs v from = bodies (raw_of bs) bs (drop v (heads_of bs)) v from.next from.left

-- only whether there is an answer
abbrev pub only : {A : Type 0} → Answer A → Answer (Unit {0})
only a = next a (λ _. accepted tt)

-- the declared constraint d does not concern variable v, or its row passes no limit
abbrev pub declared_passes : ℕ → Declared → Bool
declared_passes v d = ifb (eqb d.who v) (λ _. leb (row_reach top_reach d.what.row) limit) (λ _. true)

-- SHAPE, TYPE and REACH, each over all variables
abbrev pub forms_of : List ℕ → Answer (Unit {0})
forms_of bs = next (shaped_of bs) (λ s. next (first TYPE (typed (heads_of bs)) 0 s) (λ _. first REACH reached 0 s))

-- what a rule says of the variable numbered v
abbrev pub rule_at : ℕ → (Variable → Bool) → Sheet → ℕ → Answer (Unit {0})
rule_at code test s v = ifb (test (variable s v)) (λ _. accepted tt) (λ _. refused code v)

-- where P is what a rule answers at each number: it refuses first at `at`, by e
pub record RefusesFirst (P : ℕ → Result (Unit {0}) Refusal → Type 0) (n : ℕ) (e : Refusal) : Type 0 where
  pub at : ℕ
  pub below : at < n
  pub refuses : P at (Err e)
  pub before : (i : ℕ) → i < at → P i (Ok tt)

-- r is its first refusal below n, or that there is none
pub record FirstRefusal (P : ℕ → Result (Unit {0}) Refusal → Type 0) (n : ℕ) (r : Result (Unit {0}) Refusal) : Type 0 where
  pub passes : r ≡ Ok tt → (i : ℕ) → i < n → P i (Ok tt)
  pub refuses : (e : Refusal) → r ≡ Err e → RefusesFirst P n e
