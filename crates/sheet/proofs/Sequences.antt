-- Items one after another: what a step more adds, and that code whose steps answer as a reader does answers as that reader so many
-- times. Assumes nothing.
use mathlib.Core.Path.{◌≡◌, refl, sym, ap, ◌∙◌}
use mathlib.Core.List.{List, ◌∷◌}
use Prim.Native.Nat.{ℕ, zero, suc, ◌-◌, ◌<◌}
use native.Mathlib.Omega.{arith}
use Rattle.std.specs.Prelude.{Result, Ok, Err}
use lib.IntN.{nat_abs}
use Rattle.alpha.specs.Answer.{Answer, next}
use Rattle.alpha.specs.Field.{field}
use Rattle.alpha.specs.Read.{Reader, ◌>>=◌, repeat, count}
use Rattle.alpha.specs.declared.Refusal.{Refusal}
use Rattle.alpha.specs.Verdict.{told}
use Rattle.sheet.specs.Place.{place_after}
use Rattle.sheet.specs.Sequence.{Onward, Repeated, Counted}
use Rattle.sheet.proofs.Places.{pure-after}
use Rattle.sheet.proofs.Readers.{any_next, goes_on, stops, count_next}

module _ (Step : ℕ → Result ℕ Refusal → Type 0) where
  -- a step that refuses ends the work
  pub repeated-refused : (n p : ℕ) (e : Refusal) → 0 < n → Step p (Err e) → Repeated Step n p (Err e)
  repeated-refused zero p e h s = absurd (omega arith)
  repeated-refused (suc n) p e h s = (Err e, s, refl)

  -- a step that comes to a place goes on from there
  pub repeated-goes : (n p q : ℕ) (r : Result ℕ Refusal) → 0 < n → Step p (Ok q) → Repeated Step (n - 1) q r → Repeated Step n p r
  repeated-goes zero p q r h s rest = absurd (omega arith)
  repeated-goes (suc n) p q r h s rest = let e : suc n - 1 ≡ n = omega arith in (Ok q, s, rw e at rest)

-- what follows from a first answer is what follows from the place that a reader came to
pub onward-place : {m : Answer ℕ} (j : ℕ → Answer ℕ) (Next : ℕ → Result ℕ Refusal → Type 0) (q r : Result ℕ Refusal) →
    told q ≡ m → ((t : ℕ) → Next t r → told r ≡ j t) → Onward q Next r → told r ≡ next m j
onward-place j Next (Ok t) r says on rest = on t rest ∙ goes_on j says
onward-place j Next (Err e) r says on rest = ap told rest ∙ stops j says

-- where each step answers as a reader does, the steps answer as that reader so many times
module _ {A : Type 0} (reader : Reader A) (bs : List ℕ) (Step : ℕ → Result ℕ Refusal → Type 0)
    (says : (p : ℕ) (q : Result ℕ Refusal) → Step p q → told q ≡ place_after (reader bs p)) where
  pub repeated-place : (n p : ℕ) (r : Result ℕ Refusal) → Repeated Step n p r → told r ≡ place_after (repeat n reader bs p)
  repeated-place zero p r done = ap told done
  repeated-place (suc n) p r s =
      onward-place (λ t. place_after (repeat n reader bs t)) (Repeated Step n) s.0 r (says p s.0 s.1) (λ t rest. repeated-place n t r rest) s.2
      ∙ sym (any_next (reader bs p) _ (λ t. place_after (repeat n reader bs t)) (λ a t. pure-after (repeat n reader bs t) (λ l. a ∷ l)))

  pub counted-place : (most p : ℕ) (r : Result ℕ Refusal) → Counted Step bs p most r → told r ≡ place_after ((count 0 most >>= λ n. repeat n reader) bs p)
  counted-place most p r c =
      let n = nat_abs (field bs p) in
      onward-place (λ t. place_after (repeat n reader bs t)) (Repeated Step n) c.0 r c.1 (λ t rest. repeated-place n t r rest) c.2
      ∙ sym (count_next bs p 0 most _ (λ t. place_after (repeat n reader bs t)) (λ q. refl))
