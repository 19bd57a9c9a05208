-- GAP and CLASH element by element: the ways through one element, through the elements of a variable, and through all variables.
-- Assumes nothing.
use mathlib.Core.Path.{◌≡◌, refl, sym, ap, ◌∙◌, subst}
use Prim.Native.Nat.{ℕ, suc, ◌+◌, ◌-◌, ◌≤◌, ◌<◌}
use native.Mathlib.Omega.{arith}
use mathlib.Core.Bool.{Bool, true, false, not, ◌&&◌}
use mathlib.Core.List.{List, [], ◌∷◌, ◌++◌}
use lib.ListN.{length, drop, length-map, drop_of_length-le}
use lib.Seq.{drop-cons}
use Rattle.alpha.specs.Pick.{ifb}
use Rattle.alpha.specs.Answer.{Answer, accepted, refused, next, GAP, CLASH}
use Rattle.alpha.specs.Sheet.{Range, Sheet, Point}
use Rattle.alpha.specs.Box.{size, point_at}
use Rattle.alpha.specs.Holds.{no_variable, variable, is_input, in_domain, holds, clashes}
use Rattle.alpha.specs.Check.{Element, points_from, points, elements_from, elements, fault, faults}
use Rattle.alpha.specs.Ask.{before}
use Rattle.laws.proofs.Elements.{length-points, before-suc}
use Rattle.domain.specs.declared.Standing.{Standing}
use Rattle.domain.specs.declared.Standing.TheVariants.{Holds}
use Rattle.domain.specs.Standing.{rated}
use Rattle.domain.specs.Element.{elements_at, elements_of, fault_of, body_standing}

-- ---- one element

module _ (s : Sheet) (v n : ℕ) (z : Point) where
  abbrev element : Element
  element = record { who = v; at = z }

  pub body-fault : is_input (variable s v) ≡ false → fault s n element ≡ fault_of (body_standing s v z) n
  body-fault i = go (is_input (variable s v)) (in_domain (variable s v) z) (holds (variable s v).body s z) (clashes (variable s v).body s z) i
    where
      go : (i d h c : Bool) → i ≡ false →
          ifb (not i && d) (λ _. ifb h (λ _. ifb c (λ _. refused CLASH n) (λ _. accepted tt)) (λ _. refused GAP n)) (λ _. accepted tt)
          ≡ fault_of (ifb d (λ _. rated h c) (λ _. Holds)) n
      go true d h c e = let x : ◌≡◌ {A = ℕ} 0 1 = cc in absurd (omega arith)
      go false false h c e = refl
      go false true false c e = refl
      go false true true false e = refl
      go false true true true e = refl

  input-fault : is_input (variable s v) ≡ true → fault s n element ≡ accepted tt
  input-fault i = ap (λ b. ifb (not b && in_domain (variable s v) z) (λ _. fault-inside) (λ _. accepted tt)) i
    where
      fault-inside : Answer (Unit {0})
      fault-inside =
          ifb (holds (variable s v).body s z) (λ _. ifb (clashes (variable s v).body s z) (λ _. refused CLASH n) (λ _. accepted tt)) (λ _. refused GAP n)

-- ---- the elements of one variable

inputs-clear : (s : Sheet) (v : ℕ) → is_input (variable s v) ≡ true → (zs : List Point) (n : ℕ) → faults s n (elements_at v zs) ≡ accepted tt
unfolding faults
inputs-clear s v i [] n = refl
inputs-clear s v i (z ∷ zs) n = ap (λ a. next a (λ _. faults s (suc n) (elements_at v zs))) (input-fault s v n z i) ∙ inputs-clear s v i zs (suc n)

-- an input has no fault
pub input-clear : (s : Sheet) (v : ℕ) → is_input (variable s v) ≡ true → accepted tt ≡ faults s (before s v) (elements_of s v)
input-clear s v i = sym (inputs-clear s v i (points (variable s v).head.box) (before s v))

module _ (s : Sheet) (v : ℕ) where
  abbrev box : List Range
  box = (variable s v).head.box

  -- what is answered from the i-th point on is the answer
  pub record BodyReached (i : ℕ) : Type 0 where
    pub decides : faults s (before s v + i) (elements_at v (points_from box i (size box - i))) ≡ faults s (before s v) (elements_of s v)

  module _ (i : ℕ) (h : BodyReached i) where
    pub body_end : size box ≤ i → accepted tt ≡ faults s (before s v) (elements_of s v)
    unfolding faults points_from
    body_end l =
        let e : size box - i ≡ 0 = omega arith in
        sym (ap (λ k. faults s (before s v + i) (elements_at v (points_from box i k))) e) ∙ h.decides

    module _ (i-low : i < size box) (input : is_input (variable s v) ≡ false) (how : Standing) (is : how ≡ body_standing s v (point_at box i)) where
      fault-is : fault s (before s v + i) (record { who = v; at = point_at box i }) ≡ fault_of how (before s v + i)
      fault-is = body-fault s v (before s v + i) (point_at box i) input ∙ ap (λ x. fault_of x (before s v + i)) (sym is)

      -- the element, and then the others
      one : faults s (before s v + i) (elements_at v (points_from box i (size box - i)))
          ≡ next (fault_of how (before s v + i)) (λ _. faults s (suc (before s v + i)) (elements_at v (points_from box (suc i) (size box - suc i))))
      unfolding faults points_from
      one =
          let e : size box - i ≡ suc (size box - suc i) = omega arith in
          ap (λ k. faults s (before s v + i) (elements_at v (points_from box i k))) e
          ∙ ap (λ a. next a (λ _. faults s (suc (before s v + i)) (elements_at v (points_from box (suc i) (size box - suc i))))) fault-is

      -- a fault ends the search
      pub body-fails : (code place : ℕ) → refused code place ≡ fault_of how (before s v + i) → refused code place ≡ faults s (before s v) (elements_of s v)
      body-fails code place e =
          ap (λ a. next a (λ _. faults s (suc (before s v + i)) (elements_at v (points_from box (suc i) (size box - suc i))))) e ∙ sym one ∙ h.decides

      pub body-passes : accepted tt ≡ fault_of how (before s v + i) → BodyReached (i + 1)
      body-passes clear =
          let e : suc i ≡ i + 1 = omega arith in
          let f : suc (before s v + i) ≡ before s v + suc i = omega arith in
          let on = ap (λ a. next a (λ _. faults s (suc (before s v + i)) (elements_at v (points_from box (suc i) (size box - suc i))))) clear in
          let all = rw f at (on ∙ sym one ∙ h.decides) in
          record {
            decides =
                subst (λ j. faults s (before s v + j) (elements_at v (points_from box j (size box - j))) ≡ faults s (before s v) (elements_of s v)) e all;
          }

-- ---- all variables

faults-append : (s : Sheet) (xs ys : List Element) (n : ℕ) → faults s n (xs ++ ys) ≡ next (faults s n xs) (λ _. faults s (n + length xs) ys)
unfolding faults
faults-append s [] ys n = let e : n + 0 ≡ n = omega arith in rw e refl
faults-append s (x ∷ xs) ys n = go (fault s n x) (faults-append s xs ys (suc n))
  where
    go : (a : Answer (Unit {0})) → faults s (suc n) (xs ++ ys) ≡ next (faults s (suc n) xs) (λ _. faults s (suc n + length xs) ys) →
        next a (λ _. faults s (suc n) (xs ++ ys)) ≡ next (next a (λ _. faults s (suc n) xs)) (λ _. faults s (n + suc (length xs)) ys)
    go (accepted u) h = let e : suc n + length xs ≡ n + suc (length xs) = omega arith in rw e at h
    go (refused k p) h = refl

module _ (s : Sheet) where
  -- what is answered from variable v on is the answer
  pub record AllReached (v : ℕ) : Type 0 where
    pub decides : faults s (before s v) (elements_from v (drop v s)) ≡ faults s 0 (elements s)

  module _ (v : ℕ) (h : AllReached v) where
    pub all_end : length s ≤ v → accepted tt ≡ faults s 0 (elements s)
    unfolding faults elements_from
    all_end l = sym (ap (λ t. faults s (before s v) (elements_from v t)) (drop_of_length-le s l)) ∙ h.decides

    module _ (low : v < length s) where
      variable-first : faults s (before s v) (elements_from v (drop v s))
          ≡ next (faults s (before s v) (elements_of s v)) (λ _. faults s (before s (suc v)) (elements_from (suc v) (drop (suc v) s)))
      unfolding elements_from
      variable-first =
          let n : before s v + length (elements_of s v) ≡ before s (suc v) =
          omega (arith, before-suc s v low, length-map (points (variable s v).head.box) (λ z. element s v 0 z), length-points (variable s v).head.box) in
          ap (λ t. faults s (before s v) (elements_from v t)) (drop-cons s v no_variable low)
          ∙ faults-append s (elements_of s v) (elements_from (suc v) (drop (suc v) s)) (before s v)
          ∙ ap (λ k. next (faults s (before s v) (elements_of s v)) (λ _. faults s k (elements_from (suc v) (drop (suc v) s)))) n

      pub all-fail : (code place : ℕ) → refused code place ≡ faults s (before s v) (elements_of s v) → refused code place ≡ faults s 0 (elements s)
      all-fail code place e = ap (λ a. next a (λ _. faults s (before s (suc v)) (elements_from (suc v) (drop (suc v) s)))) e ∙ sym variable-first ∙ h.decides

      pub all_pass : accepted tt ≡ faults s (before s v) (elements_of s v) → AllReached (v + 1)
      all_pass e =
          let n : suc v ≡ v + 1 = omega arith in
          let on = ap (λ a. next a (λ _. faults s (before s (suc v)) (elements_from (suc v) (drop (suc v) s)))) e in
          record { decides = subst (λ w. faults s (before s w) (elements_from w (drop w s)) ≡ faults s 0 (elements s)) n (on ∙ sym variable-first ∙ h.decides) }
