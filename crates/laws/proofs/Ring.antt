-- The laws of the ring ℤ that `lib.IntN` lacks: the product distributes over the sum and is associative; sums are regrouped.
-- Assumes nothing.
use Prim.Native.Nat.{zero, suc}
use mathlib.Core.Path.{◌≡◌, sym, ap, ◌∙◌}
use lib.IntN.{ℤ, pos, negsuc, neg_ℤ, suc_ℤ, pred_ℤ, one, ◌+ℤ◌, ◌-ℤ◌, ◌*ℤ◌}
use lib.IntN.{+ℤ_idl, +ℤ_assoc, +ℤ_comm, +ℤ_invl, +ℤ-neg_ℤ_cancel, suc_ℤ-+ℤ, pred_ℤ-+ℤ, suc_ℤ-*ℤ, pred_ℤ-*ℤ, zero-*ℤ, *ℤ-one, *ℤ_comm}

-- ---- sums

pub +ℤ-swap : (a b c : ℤ) → a +ℤ b +ℤ c ≡ a +ℤ c +ℤ b
+ℤ-swap a b c = +ℤ_assoc a b c ∙ ap (λ t. a +ℤ t) (+ℤ_comm b c) ∙ sym (+ℤ_assoc a c b)

-- (a + b) + (c + d) = (a + c) + (b + d)
pub +ℤ-middle : (a b c d : ℤ) → a +ℤ b +ℤ (c +ℤ d) ≡ a +ℤ c +ℤ (b +ℤ d)
+ℤ-middle a b c d = sym (+ℤ_assoc (a +ℤ b) c d) ∙ ap (λ t. t +ℤ d) (+ℤ-swap a b c) ∙ +ℤ_assoc (a +ℤ c) b d

-- what adds up to zero is the negation
pub +ℤ-opposite : (a b : ℤ) → a +ℤ b ≡ pos 0 → a ≡ neg_ℤ b
+ℤ-opposite a b h = sym (+ℤ-neg_ℤ_cancel a b) ∙ ap (λ t. t -ℤ b) h ∙ +ℤ_idl (neg_ℤ b)

-- ---- the product distributes: one step up and one down in the first summand

module _ (m k x : ℤ) (h : (m +ℤ k) *ℤ x ≡ m *ℤ x +ℤ k *ℤ x) where
  distr-up : (suc_ℤ m +ℤ k) *ℤ x ≡ suc_ℤ m *ℤ x +ℤ k *ℤ x
  distr-up =
      ap (λ t. t *ℤ x) (suc_ℤ-+ℤ m k) ∙ suc_ℤ-*ℤ (m +ℤ k) x ∙ ap (λ t. t +ℤ x) h ∙ +ℤ-swap (m *ℤ x) (k *ℤ x) x
      ∙ ap (λ t. t +ℤ k *ℤ x) (sym (suc_ℤ-*ℤ m x))

  distr-down : (pred_ℤ m +ℤ k) *ℤ x ≡ pred_ℤ m *ℤ x +ℤ k *ℤ x
  distr-down =
      ap (λ t. t *ℤ x) (pred_ℤ-+ℤ m k) ∙ pred_ℤ-*ℤ (m +ℤ k) x ∙ ap (λ t. t -ℤ x) h ∙ +ℤ-swap (m *ℤ x) (k *ℤ x) (neg_ℤ x)
      ∙ ap (λ t. t +ℤ k *ℤ x) (sym (pred_ℤ-*ℤ m x))

distr-zero : (k x : ℤ) → (pos 0 +ℤ k) *ℤ x ≡ pos 0 *ℤ x +ℤ k *ℤ x
distr-zero k x = ap (λ t. t *ℤ x) (+ℤ_idl k) ∙ sym (+ℤ_idl (k *ℤ x)) ∙ ap (λ t. t +ℤ k *ℤ x) (sym (zero-*ℤ x))

pub *ℤ-distr : (m k x : ℤ) → (m +ℤ k) *ℤ x ≡ m *ℤ x +ℤ k *ℤ x
*ℤ-distr (pos zero) k x = distr-zero k x
*ℤ-distr (pos (suc n)) k x = distr-up (pos n) k x (*ℤ-distr (pos n) k x)
*ℤ-distr (negsuc zero) k x = distr-down (pos zero) k x (distr-zero k x)
*ℤ-distr (negsuc (suc n)) k x = distr-down (negsuc n) k x (*ℤ-distr (negsuc n) k x)

pub *ℤ-distl : (x m k : ℤ) → x *ℤ (m +ℤ k) ≡ x *ℤ m +ℤ x *ℤ k
*ℤ-distl x m k =
    *ℤ_comm x (m +ℤ k) ∙ *ℤ-distr m k x ∙ ap (λ t. t +ℤ k *ℤ x) (*ℤ_comm m x) ∙ ap (λ t. x *ℤ m +ℤ t) (*ℤ_comm k x)

pub negℤ-*ℤ : (m x : ℤ) → neg_ℤ m *ℤ x ≡ neg_ℤ (m *ℤ x)
negℤ-*ℤ m x = +ℤ-opposite (neg_ℤ m *ℤ x) (m *ℤ x) (sym (*ℤ-distr (neg_ℤ m) m x) ∙ ap (λ t. t *ℤ x) (+ℤ_invl m) ∙ zero-*ℤ x)

pub one-*ℤ : (x : ℤ) → pos 1 *ℤ x ≡ x
unfolding one
one-*ℤ x = *ℤ_comm (pos 1) x ∙ *ℤ-one x

-- ---- the product is associative, by the same steps

module _ (m k x : ℤ) (h : m *ℤ k *ℤ x ≡ m *ℤ (k *ℤ x)) where
  assoc-up : suc_ℤ m *ℤ k *ℤ x ≡ suc_ℤ m *ℤ (k *ℤ x)
  assoc-up =
      ap (λ t. t *ℤ x) (suc_ℤ-*ℤ m k) ∙ *ℤ-distr (m *ℤ k) k x ∙ ap (λ t. t +ℤ k *ℤ x) h ∙ sym (suc_ℤ-*ℤ m (k *ℤ x))

  assoc-down : pred_ℤ m *ℤ k *ℤ x ≡ pred_ℤ m *ℤ (k *ℤ x)
  assoc-down =
      ap (λ t. t *ℤ x) (pred_ℤ-*ℤ m k) ∙ *ℤ-distr (m *ℤ k) (neg_ℤ k) x ∙ ap (λ t. t +ℤ neg_ℤ k *ℤ x) h
      ∙ ap (λ t. m *ℤ (k *ℤ x) +ℤ t) (negℤ-*ℤ k x) ∙ sym (pred_ℤ-*ℤ m (k *ℤ x))

assoc-zero : (k x : ℤ) → pos 0 *ℤ k *ℤ x ≡ pos 0 *ℤ (k *ℤ x)
assoc-zero k x = ap (λ t. t *ℤ x) (zero-*ℤ k) ∙ zero-*ℤ x ∙ sym (zero-*ℤ (k *ℤ x))

pub *ℤ-assoc : (m k x : ℤ) → m *ℤ k *ℤ x ≡ m *ℤ (k *ℤ x)
*ℤ-assoc (pos zero) k x = assoc-zero k x
*ℤ-assoc (pos (suc n)) k x = assoc-up (pos n) k x (*ℤ-assoc (pos n) k x)
*ℤ-assoc (negsuc zero) k x = assoc-down (pos zero) k x (assoc-zero k x)
*ℤ-assoc (negsuc (suc n)) k x = assoc-down (negsuc n) k x (*ℤ-assoc (negsuc n) k x)
