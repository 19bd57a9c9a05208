-- Decimal text: enough digits are enough, a number is its last digit after the rest, and how long a number's text is. The digits are the
-- ones that std's `decimal` says. Assumes nothing.
use mathlib.Core.Path.{◌≡◌, refl, sym, ap, ◌∙◌}
use Prim.Native.Nat.{ℕ, zero, suc, ◌+◌, ◌*◌, ◌/◌, ◌%◌, ◌^◌, ◌≤◌, ◌<◌}
use native.Mathlib.Nat.{pow-suc}
use native.Mathlib.Decide.{dec_lt}
use native.Mathlib.Omega.{arith}
use mathlib.Core.Bool.{Bool, true, false}
use mathlib.Core.List.{List, [], ◌∷◌, ◌++◌}
use lib.ListN.{length, length-append}
use lib.IntN.{ℤ, pos, negsuc, nat_abs}
use lib.Signed.{mag, non_neg}
use lib.Dec.{ltb}
use borrow.Author.Tests.{lt-ltb, le-ltb}
use Rattle.std.specs.Fmt.{decimal, signed_decimal}
use Rattle.std.proofs.lemmas.Fmt.{decimal_by_steps}
use Rattle.alpha.specs.Pick.{ifb}
use Rattle.alpha.specs.Program.{digits, nat_text, int_text}

-- ---- digits

module _ (k n : ℕ) where
  digits-one : n < 10 → digits (suc k) n ≡ (48 + n) ∷ []
  unfolding digits
  digits-one h = rw (lt-ltb n 10 h)

  digits_more : 10 ≤ n → digits (suc k) n ≡ digits k (n / 10) ++ ((48 + n % 10) ∷ [])
  unfolding digits
  digits_more h = rw (le-ltb n 10 h)

tenth : (k n : ℕ) → n < 10 ^ suc (suc k) → n / 10 < 10 ^ suc k
tenth k n h = omega (arith, pow-suc 10 (suc k))

-- one digit more allowed than a number can have changes nothing
digits-enough : (k n : ℕ) → n < 10 ^ suc k → digits (suc (suc k)) n ≡ digits (suc k) n
digits-enough zero n h = digits-one 1 n h ∙ sym (digits-one 0 n h)
digits-enough (suc k) n h = go (dec_lt n 10) (digits-enough k (n / 10) (tenth k n h))
  where
    go : Dec (n < 10) → digits (suc (suc k)) (n / 10) ≡ digits (suc k) (n / 10) → digits (suc (suc (suc k))) n ≡ digits (suc (suc k)) n
    go (yes l) e = digits-one (suc (suc k)) n l ∙ sym (digits-one (suc k) n l)
    go (no l) e =
        digits_more (suc (suc k)) n (omega arith)
        ∙ ap (λ t. t ++ ((48 + n % 10) ∷ [])) e
        ∙ sym (digits_more (suc k) n (omega arith))

-- no more digits than are allowed
digits-few : (k n : ℕ) → length (digits k n) ≤ k
unfolding digits
digits-few zero n = omega arith
digits-few (suc k) n = go (ltb n 10) (digits-few k (n / 10))
  where
    go : (b : Bool) → length (digits k (n / 10)) ≤ k → length (ifb b (λ _. (48 + n) ∷ []) (λ _. digits k (n / 10) ++ ((48 + n % 10) ∷ []))) ≤ suc k
    go true h = omega arith
    go false h = omega (arith, length-append (digits k (n / 10)) ((48 + n % 10) ∷ []))

-- nor more than a number has
digits-length : (k j n : ℕ) → n < 10 ^ suc j → length (digits k n) ≤ suc j
unfolding digits
digits-length zero j n h = omega arith
digits-length (suc k) zero n h = omega (arith, ap length (digits-one k n h))
digits-length (suc k) (suc j) n h = go (dec_lt n 10) (digits-length k j (n / 10) (tenth j n h))
  where
    go : Dec (n < 10) → length (digits k (n / 10)) ≤ suc j → length (digits (suc k) n) ≤ suc (suc j)
    go (yes l) b = omega (arith, ap length (digits-one k n l))
    go (no l) b = omega (arith, ap length (digits_more k n (omega arith)), length-append (digits k (n / 10)) ((48 + n % 10) ∷ []))

-- nor fewer
digits-some : (k n : ℕ) → 0 < length (digits (suc k) n)
digits-some k n = go (dec_lt n 10)
  where
    go : Dec (n < 10) → 0 < length (digits (suc k) n)
    go (yes l) = omega (arith, ap length (digits-one k n l))
    go (no l) = omega (arith, ap length (digits_more k n (omega arith)), length-append (digits k (n / 10)) ((48 + n % 10) ∷ []))

tens : (j : ℕ) → 0 < 10 ^ j
tens zero = omega arith
tens (suc j) = omega (arith, pow-suc 10 j, tens j)

digits-many : (k j n : ℕ) → j < k → 10 ^ j ≤ n → j < length (digits k n)
digits-many zero j n l h = absurd (omega arith)
digits-many (suc k) zero n l h = digits-some k n
digits-many (suc k) (suc j) n l h =
    let p = pow-suc 10 j in
    omega (
      arith,
      ap length (digits_more k n (omega (arith, p, tens j))),
      length-append (digits k (n / 10)) ((48 + n % 10) ∷ []),
      digits-many k j (n / 10) (omega arith) (omega (arith, p)),
    )

-- ---- naturals below 2^64

pub nat_text-one : (n : ℕ) → n < 10 → nat_text n ≡ (48 + n) ∷ []
nat_text-one n h = digits-one 19 n h

pub nat_text-more : (n : ℕ) → n < 18446744073709551616 → 10 ≤ n → nat_text n ≡ nat_text (n / 10) ++ ((48 + n % 10) ∷ [])
nat_text-more n h l =
    digits_more 19 n l ∙ ap (λ t. t ++ ((48 + n % 10) ∷ [])) (sym (digits-enough 18 (n / 10) (omega arith)))

pub nat_text-longer : (n : ℕ) → n < 18446744073709551616 → 10 ≤ n → length (nat_text n) ≡ length (nat_text (n / 10)) + 1
nat_text-longer n h l = ap length (nat_text-more n h l) ∙ length-append (nat_text (n / 10)) ((48 + n % 10) ∷ [])

pub nat_text-few : (n : ℕ) → length (nat_text n) ≤ 20
nat_text-few n = digits-few 20 n

pub ruleset few_digits = nat_text-few

pub nat_text-length : (n j : ℕ) → n < 10 ^ suc j → length (nat_text n) ≤ suc j
nat_text-length n j h = digits-length 20 j n h

-- as many digits as the greatest power of ten says that is no greater
pub nat_text-count : (n k : ℕ) → k < 20 → 10 ^ k ≤ n → n < 10 * 10 ^ k → k + 1 ≡ length (nat_text n)
nat_text-count n k l h g = omega (arith, digits-many 20 k n l h, nat_text-length n k (omega (arith, pow-suc 10 k)))

pub nat_text-some : (n : ℕ) → 0 < length (nat_text n)
nat_text-some n = digits-some 19 n

-- ---- signed numbers

pub int_text-natural : (x : ℤ) → non_neg x ≡ true → int_text x ≡ nat_text (nat_abs x)
int_text-natural (pos n) h = refl
int_text-natural (negsuc n) h = let z : ◌≡◌ {A = ℕ} 0 1 = cc in absurd (omega arith)

pub int_text-negative : (x : ℤ) → non_neg x ≡ false → int_text x ≡ (45 ∷ []) ++ nat_text (nat_abs x)
int_text-negative (pos n) h = let z : ◌≡◌ {A = ℕ} 0 1 = cc in absurd (omega arith)
int_text-negative (negsuc n) h = refl

pub int_text-length : (x : ℤ) (j : ℕ) → nat_abs x < 10 ^ suc j → length (int_text x) ≤ suc (suc j)
int_text-length (pos n) j h = omega (arith, nat_text-length n j h)
int_text-length (negsuc n) j h = omega (arith, nat_text-length (suc n) j h)

-- ---- std's text

-- std's text of a number is its last digit after the rest, too
text_step : (n : ℕ) (ds : List ℕ) → 10 ≤ n → (n / 10 < 2 ^ 64 → nat_text (n / 10) ≡ ds) → n < 2 ^ 64 → nat_text n ≡ ds ++ ((48 + n % 10) ∷ [])
text_step n ds l e h = nat_text-more n (omega arith) l ∙ ap (λ t. t ++ ((48 + n % 10) ∷ [])) (e (omega arith))

pub nat_text-decimal : (n : ℕ) → n < 2 ^ 64 → nat_text n ≡ decimal n
nat_text-decimal n h = decimal_by_steps (λ m ds. m < 2 ^ 64 → nat_text m ≡ ds) (λ m l s. nat_text-one m l) text_step n h h

pub int_text-decimal : (x : ℤ) → mag x < 2 ^ 63 → int_text x ≡ signed_decimal x
int_text-decimal (pos n) h = nat_text-decimal n (omega arith)
int_text-decimal (negsuc n) h = ap (λ t. 45 ∷ t) (nat_text-decimal (suc n) (omega arith))
