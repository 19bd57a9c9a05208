-- The values of the input: how the code lists them, and what INPUT says of the list. A list that no sheet asks for is refused with the
-- length that the sheet needs, whether a value is broken or there are too many. Assumes nothing.
use mathlib.Core.Path.{◌≡◌, refl, sym, ap, ◌∙◌}
use Prim.Native.Nat.{ℕ, zero, suc, ◌+◌, ◌*◌, ◌/◌, ◌%◌, ◌≤◌, ◌<◌}
use native.Mathlib.Omega.{arith}
use native.Mathlib.Decide.{dec_lt}
use mathlib.Core.Bool.{Bool, true, false}
use mathlib.Core.List.{List, [], ◌∷◌, ◌++◌}
use lib.ListN.{length, get_or, take, drop}
use lib.Seq.{drop-drop, get_or-take, get_or-drop}
use lib.IntN.{ℤ}
use mir.Syntax.{w32}
use mir.Val.{to_z}
use Rattle.std.specs.Int.{from_le_bytes}
use Rattle.std.specs.Simd.{first_chunks}
use lib.Dec.{eqb}
use borrow.Author.Tests.{eq-eqb, ne_eqb, eqb-true, eqb-false}
use Rattle.alpha.specs.Answer.{Answer, accepted, refused, next, INPUT}
use Rattle.alpha.specs.Sheet.{Sheet}
use Rattle.alpha.specs.Run.{input_count, inputs}
use Rattle.alpha.specs.Program.{word4, value4, values_at, inputs_from, report}
use Rattle.alpha.specs.Field.{byte}
use Rattle.integer.proofs.Complement.{to_z-value4}
use Rattle.program.specs.Given.{Lists}

-- ---- the list that the code makes

-- the first values of all, and the next one
pub values-next : (n : ℕ) (bs : List ℕ) (p : ℕ) → values_at (suc n) bs p ≡ values_at n bs p ++ (value4 (word4 bs (p + 4 * n)) ∷ [])
unfolding values_at
values-next zero bs p = let e : p + 4 * 0 ≡ p = omega arith in rw e
values-next (suc n) bs p =
    let e : p + 4 + 4 * n ≡ p + 4 * suc n = omega arith in
    ap (λ vs. value4 (word4 bs p) ∷ vs) (rw e at (values-next n bs (p + 4)))

length-values : (n : ℕ) (bs : List ℕ) (p : ℕ) → length (values_at n bs p) ≡ n
unfolding values_at
length-values zero bs p = refl
length-values (suc n) bs p = ap suc (length-values n bs (p + 4))

-- the bytes in fours, and a value read from its four
chunk-at : (k n : ℕ) (bs : List ℕ) → k < n → get_or (first_chunks 4 n bs) k [] ≡ take 4 (drop (4 * k) bs)
chunk-at k zero bs h = absurd (omega arith)
chunk-at zero (suc n) bs h = refl
chunk-at (suc k) (suc n) bs h =
    let e : 4 + 4 * k ≡ 4 * suc k = omega arith in
    chunk-at k n (drop 4 bs) (omega arith) ∙ ap (take 4) (drop-drop (4 * k) 4 bs ∙ ap (λ m. drop m bs) e)

byte-at : (bs : List ℕ) (p k : ℕ) → k < 4 → get_or (take 4 (drop p bs)) k 0 ≡ get_or bs (p + k) 0
byte-at bs p k h = get_or-take 4 (drop p bs) k 0 h ∙ get_or-drop p bs k 0

pub value-read : (bs : List ℕ) (k n : ℕ) → k < n → to_z w32 (from_le_bytes w32 (get_or (first_chunks 4 n bs) k [])) ≡ value4 (word4 bs (4 * k))
value-read bs k n h =
    let four = take 4 (drop (4 * k) bs) in
    let z : 4 * k + 0 ≡ 4 * k = omega arith in
    let a : get_or four 0 0 ≡ byte bs (4 * k) = byte-at bs (4 * k) 0 (omega arith) ∙ ap (byte bs) z in
    let b = byte-at bs (4 * k) 1 (omega arith) in
    let c = byte-at bs (4 * k) 2 (omega arith) in
    let d = byte-at bs (4 * k) 3 (omega arith) in
    let word : from_le_bytes w32 four ≡ word4 bs (4 * k) = omega (arith, a, b, c, d) in
    ap (λ xs. to_z w32 (from_le_bytes w32 xs)) (chunk-at k n bs h) ∙ ap (to_z w32) word ∙ to_z-value4 (word4 bs (4 * k))

-- ---- INPUT

inputs-other : (s : Sheet) (ins : List ℤ) → (length ins ≡ input_count s → ⊥) → inputs s ins ≡ refused INPUT (input_count s)
unfolding inputs
inputs-other s ins h = rw (ne_eqb (length ins) (input_count s) h)

module _ (s : Sheet) (rest : List ℕ) where
  from-whole : length rest % 4 ≡ 0 → inputs_from s rest
      ≡ next (inputs s (values_at (length rest / 4) rest 0)) (λ _. accepted (values_at (length rest / 4) rest 0))
  unfolding inputs_from
  from-whole e = rw (eq-eqb (length rest % 4) 0 e)

  from-broken : (length rest % 4 ≡ 0 → ⊥) → inputs_from s rest ≡ refused INPUT (input_count s)
  unfolding inputs_from
  from-broken h = rw (ne_eqb (length rest % 4) 0 h)

  -- more values than any sheet asks for, broken or not
  pub from-long : input_count s ≤ 4096 → 16384 < length rest → inputs_from s rest ≡ refused INPUT (input_count s)
  from-long few h = go (eqb (length rest % 4) 0) refl
    where
      go : (b : Bool) → eqb (length rest % 4) 0 ≡ b → inputs_from s rest ≡ refused INPUT (input_count s)
      go false e = from-broken (eqb-false (length rest % 4) 0 e)
      go true e =
          let w = eqb-true (length rest % 4) 0 e in
          let vs = values_at (length rest / 4) rest 0 in
          let other : length vs ≡ input_count s → ⊥ = λ q. omega (arith, length-values (length rest / 4) rest 0) in
          from-whole w ∙ ap (λ a. next a (λ _. accepted vs)) (inputs-other s vs other)

-- an answer that goes on, either way
next-next : (a : Answer (Unit {0})) (vs : List ℤ) (k : List ℤ → Answer (List ℕ)) → next (next a (λ _. accepted vs)) k ≡ next a (λ _. k vs)
next-next (accepted u) vs k = refl
next-next (refused n p) vs k = refl

module _ (s : Sheet) (rest : List ℕ) (ins : List ℤ) (few : input_count s ≤ 4096) (l : Lists rest ins) where
  abbrev reports : List ℤ → Answer (List ℕ)
  reports xs = accepted (report s xs)

  -- both are refused
  listed-other : length ins ≡ 4097 → inputs_from s rest ≡ refused INPUT (input_count s) →
      next (inputs_from s rest) reports ≡ next (inputs s ins) (λ _. reports ins)
  listed-other many e =
      let other : length ins ≡ input_count s → ⊥ = λ q. omega arith in
      ap (λ a. next a reports) e ∙ sym (ap (λ a. next a (λ _. reports ins)) (inputs-other s ins other))

  -- the run of the code's list answers for the input's values
  pub from-listed : next (inputs_from s rest) reports ≡ next (inputs s ins) (λ _. reports ins)
  from-listed = go (dec_lt 16384 (length rest)) (eqb (length rest % 4) 0) refl
    where
      go : Dec (16384 < length rest) → (b : Bool) → eqb (length rest % 4) 0 ≡ b → next (inputs_from s rest) reports ≡ next (inputs s ins) (λ _. reports ins)
      go (yes h) b e = listed-other (l.long h) (from-long s rest few h)
      go (no h) false e = let broken = eqb-false (length rest % 4) 0 e in listed-other (l.broken broken) (from-broken s rest broken)
      go (no h) true e =
          let w = eqb-true (length rest % 4) 0 e in
          let vs = values_at (length rest / 4) rest 0 in
          let is = l.whole w (omega arith) in
          ap (λ a. next a reports) (from-whole s rest w) ∙ next-next (inputs s vs) vs reports ∙ ap (λ xs. next (inputs s xs) (λ _. reports xs)) (sym is)
