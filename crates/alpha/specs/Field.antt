-- A field: eight bytes at a place, which are a number (two's complement, least byte first) or a name.
-- Assumes nothing.
use Rattle.std.specs.Prelude.{ℕ, zero, suc, ◌+◌, ◌*◌, ◌-◌, ◌/◌, ◌%◌, Bool, true, false, ◌&&◌, ◌||◌, List, [], ◌∷◌, get_or, ℤ, pos, negsuc, leb, ltb, eqb}
use Rattle.alpha.specs.Pick.{ifb}

-- ---- numbers

abbrev pub byte : List ℕ → ℕ → ℕ
byte bs p = get_or bs p 0

-- the eight bytes from p as one number, the least byte first
abbrev pub word_at : List ℕ → ℕ → ℕ
word_at bs p =
    byte bs p
    + 256 * (byte bs (p + 1) + 256 * (byte bs (p + 2) + 256 * (byte bs (p + 3) + 256 * (byte bs (p + 4) + 256 * (byte bs (p + 5) + 256 * (byte bs (p + 6) + 256 * byte bs (p + 7)))))))

-- two's complement: a word below 2^63 is itself, and any other is 2^64 less
abbrev pub signed_of : ℕ → ℤ
signed_of w = ifb (ltb w 9223372036854775808) (λ _. pos w) (λ _. negsuc (18446744073709551615 - w))

-- the number in the field at p
abbrev pub field : List ℕ → ℕ → ℤ
field bs p = signed_of (word_at bs p)

-- the k low bytes of a number, the least first
unfoldable pub bytes_of : ℕ → ℕ → List ℕ
bytes_of zero n = []
bytes_of (suc k) n = n % 256 ∷ bytes_of k (n / 256)

-- the word of a number in two's complement
abbrev pub word_of : ℤ → ℕ
word_of (pos n) = n
word_of (negsuc n) = 18446744073709551615 - n

-- the field of a number, and of a natural number
abbrev pub num : ℤ → List ℕ
num x = bytes_of 8 (word_of x)

abbrev pub nat : ℕ → List ℕ
nat n = bytes_of 8 n

-- ---- names

-- the eight bytes from p
abbrev pub eight : List ℕ → ℕ → List ℕ
eight bs p = byte bs p ∷ byte bs (p + 1) ∷ byte bs (p + 2) ∷ byte bs (p + 3) ∷ byte bs (p + 4) ∷ byte bs (p + 5) ∷ byte bs (p + 6) ∷ byte bs (p + 7) ∷ []

-- A to Z, a to z, or an underscore
abbrev pub letter : ℕ → Bool
letter b = leb 65 b && leb b 90 || leb 97 b && leb b 122 || eqb b 95

-- 0 to 9
abbrev pub digit : ℕ → Bool
digit b = leb 48 b && leb b 57

abbrev pub zeros : List ℕ → Bool
zeros [] = true
zeros (b ∷ bs) = eqb b 0 && zeros bs

-- letters, digits and underscores, then zero bytes to the end
abbrev pub name_tail : List ℕ → Bool
name_tail [] = true
name_tail (b ∷ bs) = (letter b || digit b) && name_tail bs || zeros (b ∷ bs)

-- a name is 1 to 8 such bytes, of which the first is no digit, then zero bytes to the end of the field
abbrev pub name_form : List ℕ → Bool
name_form [] = false
name_form (b ∷ bs) = letter b && name_tail bs

-- two names are one only if every byte is the same: a07, a7 and A7 are three names
abbrev pub same_bytes : List ℕ → List ℕ → Bool
same_bytes [] [] = true
same_bytes [] (y ∷ ys) = false
same_bytes (x ∷ xs) [] = false
same_bytes (x ∷ xs) (y ∷ ys) = eqb x y && same_bytes xs ys
