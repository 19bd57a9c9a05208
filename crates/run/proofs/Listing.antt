-- The input list by its parts: how many entries each variable has, where they start, and INPUT from the variables one after another.
-- Assumes nothing.
use mathlib.Core.Path.{◌≡◌, refl, sym, ap, ◌∙◌}
use Prim.Native.Nat.{ℕ, zero, suc, ◌+◌, ◌-◌, ◌≤◌, ◌<◌}
use native.Mathlib.Omega.{arith}
use mathlib.Core.Bool.{Bool, true, false}
use mathlib.Core.List.{List, [], ◌∷◌}
use lib.ListN.{length, get_or, take, drop, length-drop, drop_of_length-le}
use lib.Seq.{drop-cons, drop-drop, length-take-le}
use lib.IntN.{ℤ, pos, negsuc}
use lib.Dec.{eqb}
use lib.Signed.{lt_z}
use borrow.Author.Tests.{eqb-true, eq-eqb, ltb-true, ltb-false, le-leb, lt-leb}
use Rattle.alpha.specs.Pick.{ifb}
use Rattle.alpha.specs.Answer.{Answer, accepted, refused, next, INPUT}
use Rattle.alpha.specs.Sheet.{Sort.integer, Sort.boolean, Sheet}
use Rattle.alpha.specs.Box.{within, size}
use Rattle.alpha.specs.declared.kind.Kind.{Kind}
use Rattle.alpha.specs.declared.kind.Kind.TheVariants.{Input, Output, Local}
use Rattle.alpha.specs.declared.kind.Sort.{Sort}
use Rattle.alpha.specs.declared.kind.Sort.TheVariants.{Integer, Boolean}
use Rattle.alpha.specs.contracts.kind.Kind.{the_type as the-kind}
use Rattle.alpha.specs.Kinds.{kind_meant, sort_meant}
use denote.Enum.Bare.{sameb}
use Rattle.alpha.specs.Holds.{no_variable, variable, is_input, is_input_kind}
use Rattle.alpha.specs.Check.{total}
use Rattle.alpha.specs.Outcome.{inputs_before}
use Rattle.alpha.specs.Run.{input_count, bits, entries_of, entries, inputs}
use Rattle.laws.proofs.Tests.{true-not-false, ifb-true, ifb-false}
use Rattle.alpha.specs.Verdict.{number_of, place_of}
use Rattle.alpha.specs.declared.Refusal.{Refusal}
use Rattle.run.specs.Entries.{input_size, entries_at}

-- ---- how many entries

-- one variable more
pub before-step : (s : Sheet) (v : ℕ) → v < length s → inputs_before s (suc v) ≡ inputs_before s v + input_size s v
before-step [] v h = absurd (omega arith)
before-step (x ∷ s) zero h = go (is_input x)
  where
    go : (b : Bool) → ifb b (λ _. size x.head.box + inputs_before s 0) (λ _. inputs_before s 0)
        ≡ inputs_before (x ∷ s) 0 + ifb b (λ _. size x.head.box) (λ _. 0)
    go true = omega arith
    go false = omega arith
before-step (x ∷ s) (suc v) h = go (is_input x) (before-step s v (omega arith))
  where
    go : (b : Bool) → inputs_before s (suc v) ≡ inputs_before s v + input_size s v →
        ifb b (λ _. size x.head.box + inputs_before s (suc v)) (λ _. inputs_before s (suc v))
        ≡ ifb b (λ _. size x.head.box + inputs_before s v) (λ _. inputs_before s v) + input_size s v
    go true e = omega (arith, e)
    go false e = e

pub before-all : (s : Sheet) → inputs_before s (length s) ≡ input_count s
before-all [] = refl
before-all (x ∷ s) = go (is_input x) (before-all s)
  where
    go : (b : Bool) → inputs_before s (length s) ≡ input_count s →
        ifb b (λ _. size x.head.box + inputs_before s (length s)) (λ _. inputs_before s (length s))
        ≡ ifb b (λ _. size x.head.box + input_count s) (λ _. input_count s)
    go true e = omega (arith, e)
    go false e = e

-- those before a variable are among all
pub before-count : (s : Sheet) (v : ℕ) → inputs_before s v ≤ input_count s
before-count s zero = omega arith
before-count [] (suc v) = omega arith
before-count (x ∷ s) (suc v) = go (is_input x) (before-count s v)
  where
    go : (b : Bool) → inputs_before s v ≤ input_count s →
        ifb b (λ _. size x.head.box + inputs_before s v) (λ _. inputs_before s v) ≤ ifb b (λ _. size x.head.box + input_count s) (λ _. input_count s)
    go true e = omega (arith, e)
    go false e = e

pub count-total : (s : Sheet) → input_count s ≤ total s
count-total [] = omega arith
count-total (x ∷ s) = go (is_input x) (count-total s)
  where
    go : (b : Bool) → input_count s ≤ total s → ifb b (λ _. size x.head.box + input_count s) (λ _. input_count s) ≤ size x.head.box + total s
    go true e = omega (arith, e)
    go false e = omega (arith, e)

-- ---- an input's entries by its type

pub integer-sort : (t : Sort) → t ≡ Integer → sort_meant t ≡ integer
integer-sort t e = rw e refl

pub boolean-sort : (t : Sort) → (t ≡ Integer → ⊥) → sort_meant t ≡ boolean
boolean-sort Integer n = absurd (n refl)
boolean-sort Boolean n = refl

-- the test of a kind
pub kind-test : (k : Kind) (b : Bool) → b ≡ sameb the-kind k Input → is_input_kind (kind_meant k) ≡ b
kind-test Input b e = sym e
kind-test Output b e = sym e
kind-test Local b e = sym e

module _ (s : Sheet) (v : ℕ) where
  pub size-input : is_input (variable s v) ≡ true → size (variable s v).head.box ≡ input_size s v
  size-input e = sym (ifb-true (is_input (variable s v)) _ _ e)

  pub size-other : is_input (variable s v) ≡ false → 0 ≡ input_size s v
  size-other e = sym (ifb-false (is_input (variable s v)) _ _ e)

  module _ (ins : List ℤ) where
    pub entries_none : is_input (variable s v) ≡ false → accepted tt ≡ entries_at s ins v
    entries_none e = sym (ifb-false (is_input (variable s v)) _ _ e)

    pub entries-integer : is_input (variable s v) ≡ true → (variable s v).head.sort ≡ integer → accepted tt ≡ entries_at s ins v
    entries-integer e t =
        sym (ifb-true (is_input (variable s v)) _ _ e
        ∙ ap (λ k. entries_of k (inputs_before s v) (take (size (variable s v).head.box) (drop (inputs_before s v) ins))) t)

    pub entries-boolean : is_input (variable s v) ≡ true → (variable s v).head.sort ≡ boolean →
        bits (inputs_before s v) (take (size (variable s v).head.box) (drop (inputs_before s v) ins)) ≡ entries_at s ins v
    entries-boolean e t =
        sym (ifb-true (is_input (variable s v)) _ _ e
        ∙ ap (λ k. entries_of k (inputs_before s v) (take (size (variable s v).head.box) (drop (inputs_before s v) ins))) t)

    -- the part of the list from a to b, where b is past the variable's entries
    pub bits-entries : is_input (variable s v) ≡ true → (variable s v).head.sort ≡ boolean → (a b : ℕ) → a ≡ inputs_before s v →
        b ≡ a + size (variable s v).head.box →
        (r : Answer (Unit {0})) → r ≡ bits a (take (b - a) (drop a ins)) → r ≡ entries_at s ins v
    bits-entries e t a b first last r is =
        let wide : b - a ≡ size (variable s v).head.box = omega (arith, last) in
        is ∙ ap (λ n. bits a (take n (drop a ins))) wide ∙ ap (λ n. bits n (take (size (variable s v).head.box) (drop n ins))) first ∙ entries-boolean e t

-- a part of a short list ends below the list's bound
pub part-few : (a b n : ℕ) (xs : List ℤ) → a ≤ b → b ≤ length xs → length xs ≤ n → a + length (take (b - a) (drop a xs)) ≤ n
part-few a b n xs l h k = omega (arith, length-take-le (b - a) (drop a xs) (omega (arith, length-drop a xs)))

-- ---- the entries of a boolean, one after another

-- what the entries from the i-th on say is what all say
abbrev pub BitsFrom : ℕ → List ℤ → ℕ → Type 0
BitsFrom first part i = bits (first + i) (drop i part) ≡ bits first part

pub bits-start : (first : ℕ) (part : List ℤ) → BitsFrom first part 0
bits-start first part = let e : first + 0 ≡ first = omega arith in ap (λ n. bits n part) e

bits-cons : (k i : ℕ) (part : List ℤ) → i < length part →
    bits k (drop i part) ≡ ifb (within (pos 0) (pos 1) (get_or part i (pos 0))) (λ _. bits (suc k) (drop (suc i) part)) (λ _. refused INPUT k)
unfolding bits
bits-cons k i part h = ap (bits k) (drop-cons part i (pos 0) h)

-- the two tests of an entry
pub under-bit : (x : ℤ) → lt_z x (pos 0) ≡ true → within (pos 0) (pos 1) x ≡ false
under-bit (pos n) e = absurd (omega (arith, ltb-true n 0 e))
under-bit (negsuc n) e = refl

pub over-bit : (x : ℤ) → lt_z (pos 1) x ≡ true → within (pos 0) (pos 1) x ≡ false
over-bit (pos n) e = rw (le-leb 0 n (omega arith), lt-leb n 1 (ltb-true 1 n e)) refl
over-bit (negsuc n) e = refl

pub one-bit : (x : ℤ) → lt_z x (pos 0) ≡ false → lt_z (pos 1) x ≡ false → within (pos 0) (pos 1) x ≡ true
one-bit (pos n) e f = rw (le-leb 0 n (omega arith), le-leb n 1 (ltb-false 1 n f)) refl
one-bit (negsuc n) e f = true-not-false {b = true} refl e

module _ (first i : ℕ) (part : List ℤ) (h : i < length part) (inv : BitsFrom first part i) where
  pub bits-fail : within (pos 0) (pos 1) (get_or part i (pos 0)) ≡ false → refused INPUT (first + i) ≡ bits first part
  bits-fail e = sym (bits-cons (first + i) i part h ∙ ifb-false _ _ _ e) ∙ inv

  pub bits-on : within (pos 0) (pos 1) (get_or part i (pos 0)) ≡ true → BitsFrom first part (i + 1)
  bits-on e =
      let a : first + (i + 1) ≡ suc (first + i) = omega arith in
      let b : i + 1 ≡ suc i = omega arith in
      rw (a, b) (sym (bits-cons (first + i) i part h ∙ ifb-true _ _ _ e) ∙ inv)

pub bits-end : (first i : ℕ) (part : List ℤ) → length part ≤ i → BitsFrom first part i → accepted tt ≡ bits first part
unfolding bits
bits-end first i part h inv = sym (ap (bits (first + i)) (drop_of_length-le part h)) ∙ inv

-- ---- the variables, one after another

-- what the variables from v on say is what all say
abbrev pub EntriesFrom : Sheet → List ℤ → ℕ → Type 0
EntriesFrom s ins v = entries (drop v s) (inputs_before s v) (drop (inputs_before s v) ins) ≡ entries s 0 ins

pub entries-start : (s : Sheet) (ins : List ℤ) → EntriesFrom s ins 0
entries-start s ins = refl

entries-cons : (s : Sheet) (v i : ℕ) (l : List ℤ) → v < length s → entries (drop v s) i l ≡
    ifb (is_input (variable s v))
    (λ _. next (entries_of (variable s v).head.sort i (take (size (variable s v).head.box) l))
    (λ _. entries (drop (suc v) s) (i + size (variable s v).head.box) (drop (size (variable s v).head.box) l)))
    (λ _. entries (drop (suc v) s) i l)
unfolding entries
entries-cons s v i l h = ap (λ t. entries t i l) (drop-cons s v no_variable h)

-- one variable, and then the others
entries-one : (s : Sheet) (ins : List ℤ) (v : ℕ) → v < length s →
    entries (drop v s) (inputs_before s v) (drop (inputs_before s v) ins)
    ≡ next (entries_at s ins v) (λ _. entries (drop (suc v) s) (inputs_before s (suc v)) (drop (inputs_before s (suc v)) ins))
entries-one s ins v h = entries-cons s v (inputs_before s v) (drop (inputs_before s v) ins) h ∙ go (is_input (variable s v)) refl
  where
    later : (i : ℕ) → inputs_before s (suc v) ≡ inputs_before s v + i → entries (drop (suc v) s) (inputs_before s v + i) (drop i (drop (inputs_before s v) ins)) ≡
        entries (drop (suc v) s) (inputs_before s (suc v)) (drop (inputs_before s (suc v)) ins)
    later i e =
        ap (entries (drop (suc v) s) (inputs_before s v + i)) (drop-drop i (inputs_before s v) ins)
        ∙ ap (λ n. entries (drop (suc v) s) n (drop n ins)) (sym e)

    go : (b : Bool) → is_input (variable s v) ≡ b →
        ifb b (λ _. next (entries_of (variable s v).head.sort (inputs_before s v) (take (size (variable s v).head.box) (drop (inputs_before s v) ins)))
        (λ _. entries (drop (suc v) s) (inputs_before s v + size (variable s v).head.box)
        (drop (size (variable s v).head.box) (drop (inputs_before s v) ins))))
        (λ _. entries (drop (suc v) s) (inputs_before s v) (drop (inputs_before s v) ins)) ≡
        next (ifb b (λ _. entries_of (variable s v).head.sort (inputs_before s v)
        (take (size (variable s v).head.box) (drop (inputs_before s v) ins))) (λ _. accepted tt))
        (λ _. entries (drop (suc v) s) (inputs_before s (suc v)) (drop (inputs_before s (suc v)) ins))
    go true e =
        let n : inputs_before s (suc v) ≡ inputs_before s v + size (variable s v).head.box =
        before-step s v h ∙ ap (λ k. inputs_before s v + k) (sym (size-input s v e)) in
        ap (λ r. next (entries_of (variable s v).head.sort (inputs_before s v) (take (size (variable s v).head.box) (drop (inputs_before s v) ins)))
        (λ _. r)) (later (size (variable s v).head.box) n)
    go false e =
        let n : inputs_before s (suc v) ≡ inputs_before s v = omega (arith, before-step s v h, size-other s v e) in
        ap (λ i. entries (drop (suc v) s) i (drop i ins)) (sym n)

module _ (s : Sheet) (ins : List ℤ) (v : ℕ) (h : v < length s) (inv : EntriesFrom s ins v) where
  failed : (n p : ℕ) → entries_at s ins v ≡ refused n p → refused n p ≡ entries s 0 ins
  failed n p e =
      sym (entries-one s ins v h ∙ ap (λ r. next r (λ _. entries (drop (suc v) s) (inputs_before s (suc v)) (drop (inputs_before s (suc v)) ins))) e)
      ∙ inv

  pub entries-fail : (why : Refusal) → refused (number_of why) (place_of why) ≡ entries_at s ins v → refused (number_of why) (place_of why) ≡ entries s 0 ins
  entries-fail why e = failed (number_of why) (place_of why) (sym e)

  pub entries-on : entries_at s ins v ≡ accepted tt → EntriesFrom s ins (v + 1)
  entries-on e =
      let b : v + 1 ≡ suc v = omega arith in
      rw b (sym (entries-one s ins v h ∙ ap (λ r. next r (λ _. entries (drop (suc v) s) (inputs_before s (suc v)) (drop (inputs_before s (suc v)) ins))) e) ∙ inv)

pub entries-end : (s : Sheet) (ins : List ℤ) (v : ℕ) → length s ≤ v → EntriesFrom s ins v → accepted tt ≡ entries s 0 ins
unfolding entries
entries-end s ins v h inv = sym (ap (λ t. entries t (inputs_before s v) (drop (inputs_before s v) ins)) (drop_of_length-le s h)) ∙ inv

-- ---- the length first

module _ (s : Sheet) (ins : List ℤ) where
  pub inputs_short : (n : ℕ) → n ≡ input_count s → (length ins ≡ n → ⊥) → refused INPUT n ≡ inputs s ins
  unfolding inputs
  inputs_short n is other = go (eqb (length ins) (input_count s)) refl
    where
      go : (b : Bool) → eqb (length ins) (input_count s) ≡ b → refused INPUT n ≡ ifb b (λ _. entries s 0 ins) (λ _. refused INPUT (input_count s))
      go true e = absurd (other (eqb-true (length ins) (input_count s) e ∙ sym is))
      go false e = ap (refused INPUT) is

  pub inputs_long : length ins ≡ input_count s → entries s 0 ins ≡ inputs s ins
  unfolding inputs
  inputs_long is = go (eqb (length ins) (input_count s)) refl
    where
      go : (b : Bool) → eqb (length ins) (input_count s) ≡ b → entries s 0 ins ≡ ifb b (λ _. entries s 0 ins) (λ _. refused INPUT (input_count s))
      go true e = refl
      go false e = absurd (let t : eqb (length ins) (input_count s) ≡ true = eq-eqb (length ins) (input_count s) is in true-not-false t e)

  -- a list that is taken has the length that is needed
  pub inputs-length : inputs s ins ≡ accepted tt → length ins ≡ input_count s
  unfolding inputs
  inputs-length h = go (eqb (length ins) (input_count s)) refl h
    where
      go : (b : Bool) → eqb (length ins) (input_count s) ≡ b → ifb b (λ _. entries s 0 ins) (λ _. refused INPUT (input_count s)) ≡ accepted tt →
          length ins ≡ input_count s
      go true e q = eqb-true (length ins) (input_count s) e
      go false e q = let x : ◌≡◌ {A = ℕ} 0 1 = cc in absurd (omega arith)
