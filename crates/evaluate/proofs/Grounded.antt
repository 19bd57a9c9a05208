-- What an evaluator stands on, after it has worked something out: its ground is the same. Assumes nothing.
use mathlib.Core.Path.{sym, ◌∙◌, subst}
use Prim.Native.Nat.{ℕ}
use mathlib.Core.List.{List}
use Rattle.std.specs.Prelude.{Result}
use lib.IntN.{ℤ}
use Rattle.tree.specs.Formed.{Formed}
use Rattle.domain.specs.Held.{Held}
use Rattle.evaluate.specs.declared.Evaluator.{Evaluator}
use Rattle.evaluate.specs.declared.Stop.{Stop}
use Rattle.evaluate.specs.declared.Worked.{Worked}
use Rattle.evaluate.specs.Memo.{Memo}
use Rattle.evaluate.specs.Working.{EvaluatesAt}
use Rattle.evaluate.specs.Evaluating.{Stands, bytes, memo, Same}

pub same_twice : (g h k : Evaluator) → Same g h → Same h k → Same g k
same_twice g h k S T = record { ground = T.ground ∙ S.ground; ends = T.ends ∙ S.ends; memo = T.memo ∙ S.memo }

module _ (g h : Evaluator) (S : Same g h) where
  pub on_ground : Stands g → Stands h
  on_ground F = subst (λ d. Formed d.sheet.now d.table.now) (sym S.ground) F

  pub held-on : (p left : ℕ) (z : List ℤ) → Held (bytes g) p left z → Held (bytes h) p left z
  held-on p left z H = subst (λ d. Held d.sheet.now p left z) (sym S.ground) H

  pub evaluates-on : (last : Memo) (p : ℕ) (z : List ℤ) (r : Result Worked Stop) → EvaluatesAt (bytes h) p z (memo h) last r →
      EvaluatesAt (bytes g) p z (memo h) last r
  evaluates-on last p z r E = subst (λ d. EvaluatesAt d.sheet.now p z (memo h) last r) S.ground E
