-- How the check of a sheet goes on after SHAPE, TYPE and REACH: a refusal of theirs is its answer, and otherwise the elements decide.
-- Assumes nothing.
use mathlib.Core.Path.{◌≡◌, ap, ◌∙◌}
use Prim.Native.Nat.{ℕ}
use mathlib.Core.List.{List}
use Rattle.alpha.specs.Answer.{Answer, accepted, refused, next, TYPE, REACH}
use Rattle.alpha.specs.Sheet.{Sheet}
use Rattle.alpha.specs.Check.{elements, first, typed, reached, faults, checked, after_read, check}
use Rattle.laws.specs.Sheets.{heads_of, shaped_of, sheet_of}
use Rattle.tree.specs.Prepared.{Prepared}
use Rattle.tree.specs.Ruled.{forms_of}
use Rattle.tree.specs.Formed.{Formed}
use Rattle.sheet.specs.declared.table.Table.{Table}

-- the elements of a sheet that has passed so far
abbrev pub elements_checked : Sheet → Answer Sheet
elements_checked s = next (faults s 0 (elements s)) (λ _. accepted s)

module _ (bs : List ℕ) (tab : Table) (h : Prepared bs tab) where
  -- the three rules, and then the elements
  check-is : check bs
      ≡ next (shaped_of bs) (λ s. next (first TYPE (typed (heads_of bs)) 0 s) (λ _. next (first REACH reached 0 s) (λ _. elements_checked s)))
  unfolding check after_read checked
  check-is = ap (after_read bs) h.accepted

  pub check-refused : (n p : ℕ) → forms_of bs ≡ refused n p → check bs ≡ refused n p
  check-refused n p e = check-is ∙ shapes (shaped_of bs) e
    where
      reaches : (s : Sheet) (a : Answer (Unit {0})) → a ≡ refused n p → next a (λ _. elements_checked s) ≡ refused n p
      reaches s (accepted u) e = absurd cc
      reaches s (refused m q) e = let x : m ≡ n = cc in let y : q ≡ p = cc in ap (λ i. refused i q) x ∙ ap (refused n) y

      types : (s : Sheet) (a : Answer (Unit {0})) → next a (λ _. first REACH reached 0 s) ≡ refused n p →
          next a (λ _. next (first REACH reached 0 s) (λ _. elements_checked s)) ≡ refused n p
      types s (accepted u) e = reaches s (first REACH reached 0 s) e
      types s (refused m q) e = let x : m ≡ n = cc in let y : q ≡ p = cc in ap (λ i. refused i q) x ∙ ap (refused n) y

      shapes : (a : Answer Sheet) → next a (λ s. next (first TYPE (typed (heads_of bs)) 0 s) (λ _. first REACH reached 0 s)) ≡ refused n p →
          next a (λ s. next (first TYPE (typed (heads_of bs)) 0 s) (λ _. next (first REACH reached 0 s) (λ _. elements_checked s))) ≡ refused n p
      shapes (accepted s) e = types s (first TYPE (typed (heads_of bs)) 0 s) e
      shapes (refused m q) e = let x : m ≡ n = cc in let y : q ≡ p = cc in ap (λ i. refused i q) x ∙ ap (refused n) y

pub check-formed : (bs : List ℕ) (tab : Table) → Formed bs tab → check bs ≡ elements_checked (sheet_of bs)
check-formed bs tab f =
    check-is bs tab f.placed.prepared
    ∙ ap (λ (a : Answer Sheet). next a
    (λ s. next (first TYPE (typed (heads_of bs)) 0 s) (λ _. next (first REACH reached 0 s) (λ _. elements_checked s)))) f.placed.shaped
    ∙ ap (λ (a : Answer (Unit {0})). next a (λ _. next (first REACH reached 0 (sheet_of bs)) (λ _. elements_checked (sheet_of bs)))) f.types
    ∙ ap (λ (a : Answer (Unit {0})). next a (λ _. elements_checked (sheet_of bs))) f.reaches
