-- The normal form's sheet has the sheet's records and declared constraints, and what depends on the records alone is the same of both: the
-- element total, the elements, the length of an input list, and which input lists are taken. Assumes nothing.
use mathlib.Core.Path.{◌≡◌, refl, sym, ap, ◌∙◌}
use Prim.Native.Nat.{ℕ, suc, ◌+◌}
use mathlib.Core.Bool.{Bool, true, false}
use mathlib.Core.List.{List, [], ◌∷◌, map}
use lib.ListN.{length}
use lib.IntN.{ℤ}
use Rattle.alpha.specs.Pick.{ifb}
use Rattle.alpha.specs.Sheet.{Head, Expr, Variable, Sheet, Expr.kase, Exprs.none}
use Rattle.alpha.specs.Holds.{is_input}
use Rattle.alpha.specs.Check.{elements_from, elements, total}
use Rattle.alpha.specs.Run.{input_count, entries, inputs}
use Rattle.alpha.specs.Written.{bytes}
use Rattle.alpha.specs.Normalise.{normal_body}
use Rattle.laws.specs.Normal.{placed, rewritten}

-- ---- what depends on the records alone

-- a sheet of those records, with nothing else
abbrev bare : List Head → Sheet
bare hs = map {B = Variable} (λ h. record { head = h; declared = []; body = kase none; start = 0; end = 0 }) hs

abbrev heads : Sheet → List Head
heads s = map (λ x. x.head) s

bare-total : (s : Sheet) → total (bare (heads s)) ≡ total s
bare-total [] = refl
bare-total (x ∷ s) = rw (bare-total s)

bare-count : (s : Sheet) → input_count (bare (heads s)) ≡ input_count s
bare-count [] = refl
bare-count (x ∷ s) = rw (bare-count s)

bare-entries : (s : Sheet) (i : ℕ) (ins : List ℤ) → entries (bare (heads s)) i ins ≡ entries s i ins
unfolding entries
bare-entries [] i ins = refl
bare-entries (x ∷ s) i ins = simp (bare-entries s)

bare-elements : (s : Sheet) (v : ℕ) → elements_from v (bare (heads s)) ≡ elements_from v s
unfolding elements_from
bare-elements [] v = refl
bare-elements (x ∷ s) v = rw (bare-elements s (suc v))

module _ (s t : Sheet) (same : map (λ x. x.head) t ≡ map (λ x. x.head) s) where
  by-records : {A : Type 0} (f : Sheet → A) → ((u : Sheet) → f (bare (heads u)) ≡ f u) → f t ≡ f s
  by-records f h = sym (h t) ∙ ap (λ hs. f (bare hs)) same ∙ h s

  pub total-same : total t ≡ total s
  total-same = by-records total bare-total

  pub elements_same : elements t ≡ elements s
  elements_same = by-records elements (λ u. bare-elements u 0)

  pub input_count-same : input_count t ≡ input_count s
  input_count-same = by-records input_count bare-count

  pub inputs-same : (ins : List ℤ) → inputs t ins ≡ inputs s ins
  unfolding inputs
  inputs-same ins = rw (input_count-same, by-records (λ u. entries u 0 ins) (λ u. bare-entries u 0 ins))

-- ---- the normal form's sheet

-- what of a variable does not depend on its body and its place
pub rewritten-map : {A : Type 0} (g : Variable → A) → ((x : Variable) (e : Expr) (p q : ℕ) → g (placed x e p q) ≡ g x) →
    (s xs : Sheet) (p : ℕ) → map g (rewritten s xs p) ≡ map g xs
rewritten-map g h s [] p = refl
rewritten-map {A} g h s (x ∷ xs) p = go (is_input x) (λ q. rewritten-map g h s xs q)
  where
    go : (t : Bool) → ((q : ℕ) → map g (rewritten s xs q) ≡ map g xs) →
        map g (ifb t (λ _. placed x (kase none) p p ∷ rewritten s xs p)
        (λ _. placed x (normal_body s x) p (p + length (bytes (normal_body s x))) ∷ rewritten s xs (p + length (bytes (normal_body s x)))))
        ≡ g x ∷ map g xs
    go true k = rw (h x (kase none) p p, k p)
    go false k = rw (h x (normal_body s x) p (p + length (bytes (normal_body s x))), k (p + length (bytes (normal_body s x))))

module _ (s : Sheet) (p : ℕ) where
  pub rewritten-heads : map (λ x. x.head) (rewritten s s p) ≡ map (λ x. x.head) s
  rewritten-heads = rewritten-map (λ x. x.head) (λ x e m n. refl) s s p

  pub rewritten-declared : map (λ x. x.declared) (rewritten s s p) ≡ map (λ x. x.declared) s
  rewritten-declared = rewritten-map (λ x. x.declared) (λ x e m n. refl) s s p
