-- The program, from its input's bytes to its output's.
-- Assumes nothing.
use Rattle.std.specs.Prelude.{ℕ, zero, suc, ◌+◌, ◌*◌, ◌-◌, ◌/◌, ◌%◌, ◌&&◌, List, [], ◌∷◌, ◌++◌, map, length, take, drop, ℤ, pos, negsuc, nat_abs, leb, ltb, eqb}
use Prim.Native.Char.{code}
use Prim.Native.String.{String, [] as empty, ◌∷◌ as ◌then◌}
use Rattle.std.specs.Int.Signed.{le_z}
use Rattle.alpha.specs.Pick.{ifb}
use Rattle.alpha.specs.Answer.{Answer, accepted, refused, next, LONG, CUT, INPUT}
use Rattle.alpha.specs.Field.{byte, field}
use Rattle.alpha.specs.Sheet.{Sort, Sort.integer, Sort.boolean, Sheet, Point}
use Rattle.alpha.specs.Affine.{is_zero}
use Rattle.alpha.specs.Read.{room}
use Rattle.alpha.specs.Holds.{variable}
use Rattle.alpha.specs.Check.{Element, elements, total, check}
use Rattle.alpha.specs.Outcome.{Outcome, outside, value, divzero, overflow, loop}
use Rattle.alpha.specs.Run.{input_count, inputs, outcome_at}
use Rattle.alpha.specs.Written.{flat}

-- ---- fixed words

-- a text as its bytes
abbrev pub ascii : String → List ℕ
ascii empty = []
ascii (c then s) = code c ∷ ascii s

abbrev pub accepted_word : List ℕ
accepted_word = ascii "accepted "

abbrev pub refused_word : List ℕ
refused_word = ascii "refused "

abbrev pub place_word : List ℕ
place_word = ascii " place "

abbrev pub true_word : List ℕ
true_word = ascii "true"

abbrev pub false_word : List ℕ
false_word = ascii "false"

abbrev pub is_word : List ℕ
is_word = ascii " = "

abbrev pub outside_word : List ℕ
outside_word = ascii " -"

abbrev pub divzero_word : List ℕ
divzero_word = ascii " ! DIVZERO"

abbrev pub overflow_word : List ℕ
overflow_word = ascii " ! OVERFLOW"

abbrev pub loop_word : List ℕ
loop_word = ascii " ! LOOP"

abbrev pub newline : List ℕ
newline = 10 ∷ []

-- ---- numbers

-- the decimal digits of a number of at most k digits, the greatest first
unfoldable pub digits : ℕ → ℕ → List ℕ
digits zero n = []
digits (suc k) n = ifb (ltb n 10) (λ _. (48 + n) ∷ []) (λ _. digits k (n / 10) ++ ((48 + n % 10) ∷ []))

-- every number that is printed is below 2^64, which has 20 digits
abbrev pub nat_text : ℕ → List ℕ
nat_text n = digits 20 n

-- a minus before a negative number
abbrev pub int_text : ℤ → List ℕ
int_text (pos n) = nat_text n
int_text (negsuc n) = 45 ∷ nat_text (suc n)

-- ---- lines

-- a name without the zero bytes at its end
abbrev pub trimmed : List ℕ → List ℕ
trimmed [] = []
trimmed (b ∷ bs) = ifb (eqb b 0) (λ _. []) (λ _. b ∷ trimmed bs)

-- each coordinate after a space
abbrev pub spaced : Point → List ℕ
spaced [] = []
spaced (x ∷ z) = 32 ∷ int_text x ++ spaced z

abbrev pub value_text : Sort → ℤ → List ℕ
value_text integer x = int_text x
value_text boolean x = ifb (is_zero x) (λ _. false_word) (λ _. true_word)

abbrev pub outcome_text : Sort → Outcome → List ℕ
outcome_text t outside = outside_word
outcome_text t (value x) = is_word ++ value_text t x
outcome_text t divzero = divzero_word
outcome_text t overflow = overflow_word
outcome_text t loop = loop_word

-- name, coordinates, and the outcome
abbrev pub line : Sheet → List ℤ → Element → List ℕ
line s ins e =
    trimmed (variable s e.who).head.name ++ spaced e.at ++ outcome_text (variable s e.who).head.sort (outcome_at s ins e) ++ newline

-- `accepted` and the element total, then a line for each element
unfoldable pub report : Sheet → List ℤ → List ℕ
report s ins = accepted_word ++ nat_text (total s) ++ newline ++ flat (map (line s ins) (elements s))

unfoldable pub refusal : ℕ → ℕ → List ℕ
refusal n p = refused_word ++ nat_text n ++ place_word ++ nat_text p ++ newline

abbrev pub printed : Answer (List ℕ) → List ℕ
printed (accepted text) = text
printed (refused n p) = refusal n p

-- ---- the input: the sheet's length, the sheet, 4-byte values

-- a 4-byte value, least byte first, in two's complement
abbrev pub word4 : List ℕ → ℕ → ℕ
word4 bs p = byte bs p + 256 * (byte bs (p + 1) + 256 * (byte bs (p + 2) + 256 * byte bs (p + 3)))

abbrev pub value4 : ℕ → ℤ
value4 w = ifb (ltb w 2147483648) (λ _. pos w) (λ _. negsuc (4294967295 - w))

-- n values from p on
unfoldable pub values_at : ℕ → List ℕ → ℕ → List ℤ
values_at zero bs p = []
values_at (suc n) bs p = value4 (word4 bs p) ∷ values_at n bs (p + 4)

-- the input list, unless its last value is broken: that counts as a list of the wrong length
unfoldable pub inputs_from : Sheet → List ℕ → Answer (List ℤ)
inputs_from s rest =
    ifb (eqb (length rest % 4) 0) (λ _.
    let ins = values_at (length rest / 4) rest 0 in next (inputs s ins) (λ _. accepted ins))
    (λ _. refused INPUT (input_count s))

-- the sheet and the bytes after it
unfoldable pub framed : List ℕ → List ℕ → Answer (List ℕ)
framed sheet rest = next (check sheet) (λ s. next (inputs_from s rest) (λ ins. accepted (report s ins)))

-- the sheet's length n: LONG where it is over 65,536, CUT where it is missing, negative or past the input's end
unfoldable pub answered : List ℕ → Answer (List ℕ)
answered bs =
    ifb (room bs 0) (λ _.
    let n = field bs 0 in
    ifb (le_z n (pos 65536)) (λ _.
    ifb (le_z (pos 0) n && leb (8 + nat_abs n) (length bs)) (λ _. framed (take (nat_abs n) (drop 8 bs)) (drop (8 + nat_abs n) bs)) (λ _. refused CUT 0))
    (λ _. refused LONG 0))
    (λ _. refused CUT 0)

-- what the program writes on the input bs
unfoldable pub program : List ℕ → List ℕ
program bs = printed (answered bs)
