-- Two results that keep one promise are the same: one law for each public call. A verdict is known from what it tells.
-- Assumes nothing.
use Rattle.std.specs.Prelude.{Result, Ok, Err}
use mathlib.Core.Path.{◌≡◌, refl, sym, ap, ◌∙◌}
use Prim.Native.Nat.{ℕ, ◌-◌}
use mathlib.Core.List.{List, [], ◌∷◌}
use lib.ListN.{get_or}
use lib.IntN.{ℤ}
use Rattle.alpha.specs.Answer.{Answer, accepted, refused}
use Rattle.alpha.specs.Sheet.{Point}
use Rattle.alpha.specs.Verdict.{number_of, place_of, told}
use Rattle.alpha.specs.Promise.{Checks, Runs, Normalises, Numbers, Finds}
use Rattle.alpha.specs.declared.Refusal.{Refusal}
use Rattle.alpha.specs.declared.Refusal.TheVariants.{Long, Cut, Count, Name, Number, Tail, Shape, Typing, Reach, Gap, Clash, Input, Wide, Room, Ask}

-- ---- a verdict from what it tells

abbrev refusal_of : ℕ → ℕ → Refusal
refusal_of n p =
    get_or (Long ∷ Cut p ∷ Count p ∷ Name p ∷ Number p ∷ Tail p ∷ Shape p ∷ Typing p ∷ Reach p ∷ Gap p ∷ Clash p ∷ Input p ∷ Wide p ∷ Room p ∷ Ask ∷ []) (n - 1) Long

abbrev untold : Answer ℕ → Result ℕ Refusal
untold (accepted n) = Ok n
untold (refused n p) = Err (refusal_of n p)

refusal-back : (r : Refusal) → refusal_of (number_of r) (place_of r) ≡ r
refusal-back Long = refl
refusal-back (Cut p) = refl
refusal-back (Count p) = refl
refusal-back (Name p) = refl
refusal-back (Number p) = refl
refusal-back (Tail p) = refl
refusal-back (Shape p) = refl
refusal-back (Typing p) = refl
refusal-back (Reach p) = refl
refusal-back (Gap p) = refl
refusal-back (Clash p) = refl
refusal-back (Input p) = refl
refusal-back (Wide p) = refl
refusal-back (Room p) = refl
refusal-back Ask = refl

untold-told : (r : Result ℕ Refusal) → untold (told r) ≡ r
untold-told (Ok n) = refl
untold-told (Err r) = ap Err (refusal-back r)

pub told-injective : (r r' : Result ℕ Refusal) → told r ≡ told r' → r ≡ r'
told-injective r r' e = sym (untold-told r) ∙ ap untold e ∙ untold-told r'

-- both tell what the definition answers
same : {a : Answer ℕ} (r r' : Result ℕ Refusal) → told r ≡ a → told r' ≡ a → r ≡ r'
same r r' e e' = told-injective r r' (e ∙ sym e')

-- ---- the calls

pub check-unique : {sheet : List ℕ} (r r' : Result ℕ Refusal) → Checks sheet r → Checks sheet r' → r ≡ r'
check-unique r r' h h' = same r r' h.answer h'.answer

pub run-unique : {sheet codes codes₁ codes₂ : List ℕ} {ins values values₁ values₂ : List ℤ} (r r' : Result ℕ Refusal) →
    Runs sheet ins codes codes₁ values values₁ r → Runs sheet ins codes codes₂ values values₂ r' → (r ≡ r') × (codes₁ ≡ codes₂) × (values₁ ≡ values₂)
run-unique r r' h h' = (same r r' h.answer h'.answer, h.codes_after ∙ sym h'.codes_after, h.values_after ∙ sym h'.values_after)

pub normalise-unique : {sheet out out₁ out₂ : List ℕ} (r r' : Result ℕ Refusal) →
    Normalises sheet out out₁ r → Normalises sheet out out₂ r' → (r ≡ r') × (out₁ ≡ out₂)
normalise-unique r r' h h' = (same r r' h.answer h'.answer, h.out_after ∙ sym h'.out_after)

pub element-unique : {sheet : List ℕ} {v : ℕ} {z : Point} (r r' : Result ℕ Refusal) → Numbers sheet v z r → Numbers sheet v z r' → r ≡ r'
element-unique r r' h h' = same r r' h.answer h'.answer

pub body-unique : {sheet part part' : List ℕ} {v : ℕ} → Finds sheet v part → Finds sheet v part' → part ≡ part'
body-unique h h' = h.answer ∙ sym h'.answer
