-- The law of quotient and remainder, for every divisor: a = b * (a div b) + (a mod b). Assumes nothing.
use Prim.Native.Nat.{ℕ, suc, ◌/◌, ◌%◌, ◌<◌}
use mathlib.Core.Path.{◌≡◌, refl, sym, ap, ◌∙◌}
use native.Mathlib.Omega.{arith}
use native.Mathlib.Nat.{div-add-mod, mod-lt}
use lib.IntN.{ℤ, pos, negsuc, neg_ℤ, nat_abs, ◌+ℤ◌, ◌*ℤ◌, neg_ℤ-+ℤ, neg_ℤ-neg_ℤ, *ℤ_comm}
use Rattle.alpha.specs.Outcome.{quotient, remainder}
use Rattle.laws.proofs.Ring.{negℤ-*ℤ}
use Rattle.laws.proofs.Sizes.{nat_abs-neg}

*ℤ-negℤ : (m x : ℤ) → m *ℤ neg_ℤ x ≡ neg_ℤ (m *ℤ x)
*ℤ-negℤ m x = *ℤ_comm m (neg_ℤ x) ∙ negℤ-*ℤ x m ∙ ap neg_ℤ (*ℤ_comm x m)

negℤ-*ℤ-negℤ : (m x : ℤ) → neg_ℤ m *ℤ neg_ℤ x ≡ m *ℤ x
negℤ-*ℤ-negℤ m x = negℤ-*ℤ m (neg_ℤ x) ∙ ap neg_ℤ (*ℤ-negℤ m x) ∙ neg_ℤ-neg_ℤ (m *ℤ x)

whole : (a b : ℕ) → pos a ≡ pos b *ℤ pos (a / b) +ℤ pos (a % b)
whole a b = ap pos (sym (div-add-mod a b))

-- both parts negated
opposite : (a b : ℕ) → neg_ℤ (pos a) ≡ neg_ℤ (pos b *ℤ pos (a / b)) +ℤ neg_ℤ (pos (a % b))
opposite a b = ap neg_ℤ (whole a b) ∙ neg_ℤ-+ℤ (pos b *ℤ pos (a / b)) (pos (a % b))

pub division : (a b : ℤ) → a ≡ b *ℤ quotient a b +ℤ remainder a b
division (pos a) (pos b) = whole a b
division (pos a) (negsuc b) =
    whole a (suc b) ∙ ap (λ t. t +ℤ pos (a % suc b)) (sym (negℤ-*ℤ-negℤ (pos (suc b)) (pos (a / suc b))))
division (negsuc a) (pos b) =
    opposite (suc a) b ∙ ap (λ t. t +ℤ neg_ℤ (pos (suc a % b))) (sym (*ℤ-negℤ (pos b) (pos (suc a / b))))
division (negsuc a) (negsuc b) = opposite (suc a) (suc b)

-- a remainder is smaller than the divisor
pub remainder-small : (a b : ℤ) → 0 < nat_abs b → nat_abs (remainder a b) < nat_abs b
remainder-small (pos a) b h = mod-lt a h
remainder-small (negsuc a) b h = let e = nat_abs-neg (pos (suc a % nat_abs b)) in let k = mod-lt (suc a) h in omega arith

-- at the end of the range the quotient leaves it, and the remainder is 0
pub quotient-end : quotient (neg_ℤ (pos 2147483648)) (neg_ℤ (pos 1)) ≡ pos 2147483648
quotient-end = refl

pub remainder-end : remainder (neg_ℤ (pos 2147483648)) (neg_ℤ (pos 1)) ≡ pos 0
remainder-end = refl
