-- The frame of the input: a law for each way through the code. Assumes nothing.
use mathlib.Core.Path.{◌≡◌, refl, ap, ◌∙◌}
use Prim.Native.Nat.{ℕ, ◌+◌, ◌≤◌, ◌<◌}
use native.Mathlib.Omega.{arith}
use mathlib.Core.Bool.{Bool, true, false, not, ◌&&◌, true≢false, false≢true}
use mathlib.Core.List.{List}
use lib.ListN.{length, take, drop, length-drop}
use lib.IntN.{ℤ, pos, negsuc, nat_abs}
use lib.Signed.{lt_z, le_z, non_neg}
use lib.Seq.{get_or-take, drop-drop}
use lib.Dec.{leb}
use borrow.Author.Tests.{le-leb, lt-leb, ltb-true, ltb-false}
use Rattle.std.specs.Prelude.{Option, None, Some, Result, Err}
use Rattle.std.specs.Option.{ok_or}
use Rattle.std.specs.Int.{from_le_bytes}
use mir.Syntax.{w64}
use mir.Val.{to_z, of_z, SFits}
use mir.Facts.{to_z-of_z}
use Rattle.alpha.specs.Pick.{ifb}
use Rattle.alpha.specs.Answer.{Answer, refused, LONG, CUT}
use Rattle.alpha.specs.Field.{word_at, field}
use Rattle.alpha.specs.Read.{room}
use Rattle.alpha.specs.Program.{framed, answered}
use Rattle.alpha.specs.declared.Refusal.{Refusal}
use Rattle.integer.proofs.Complement.{to_z-signed_of}
use Rattle.integer.proofs.Fields.{word_at-same}
use Rattle.integer.proofs.Order.{le_z-zero}

-- where a part is missing, the refusal is the one that stands for it
pub ok_or-none : {A : Type 0} (o : Option A) (x e : Refusal) → ◌≡◌ {A = Result A Refusal} (Err x) (ok_or o e) → o ≡ None → x ≡ e
ok_or-none None x e h n = cc
ok_or-none (Some y) x e h n = cc

-- ---- the number in the first eight bytes, as the code reads it

word-read : (xs : List ℕ) → from_le_bytes w64 xs ≡ word_at xs 0
word-read xs = omega arith

pub field_read : (bs : List ℕ) (n : ℤ) → SFits w64 n → n ≡ to_z w64 (from_le_bytes w64 (take 8 bs)) → to_z w64 (of_z w64 n) ≡ field bs 0
field_read bs n f e =
    let first = word_at-same (take 8 bs) bs 0 0 (λ k l. get_or-take 8 bs (0 + k) 0 (omega arith)) in
    to_z-of_z f ∙ e ∙ ap (to_z w64) (word-read (take 8 bs) ∙ first) ∙ to_z-signed_of (word_at bs 0)

-- ---- by the tests

-- a sheet of n bytes in the input bs, and the values after it
abbrev pub framed_at : List ℕ → ℕ → Answer (List ℕ)
framed_at bs n = framed (take n (drop 8 bs)) (drop (8 + n) bs)

-- by the tests: a length is there, it is not too large, and not negative or past the end
abbrev pub picked : List ℕ → Bool → Bool → Bool → Bool → Answer (List ℕ)
picked bs there small positive within =
    ifb there (λ _. ifb small (λ _. ifb (positive && within) (λ _. framed_at bs (nat_abs (field bs 0))) (λ _. refused CUT 0)) (λ _. refused LONG 0))
    (λ _. refused CUT 0)

pub answered-picked : (bs : List ℕ) →
    answered bs ≡ picked bs (room bs 0) (le_z (field bs 0) (pos 65536)) (non_neg (field bs 0)) (leb (8 + nat_abs (field bs 0)) (length bs))
unfolding answered
answered-picked bs =
    let n = field bs 0 in
    ap (λ b. picked bs (room bs 0) (le_z n (pos 65536)) b (leb (8 + nat_abs n) (length bs))) (le_z-zero n)

above : (n : ℤ) (b : Bool) → lt_z (pos 65536) n ≡ b → le_z n (pos 65536) ≡ not b
above (pos n) true e = lt-leb n 65536 (ltb-true 65536 n e)
above (pos n) false e = le-leb n 65536 (ltb-false 65536 n e)
above (negsuc n) true e = absurd (false≢true e)
above (negsuc n) false e = refl

below : (n : ℤ) (b : Bool) → lt_z n (pos 0) ≡ b → non_neg n ≡ not b
below (pos n) true e = let h = ltb-true n 0 e in absurd (omega arith)
below (pos n) false e = refl
below (negsuc n) true e = refl
below (negsuc n) false e = absurd (true≢false e)

module _ (bs : List ℕ) where
  -- how many bytes the length and the sheet have
  abbrev whole : ℕ
  whole = 8 + nat_abs (field bs 0)

  pub frame-short : length bs < 8 → answered bs ≡ refused CUT 0
  frame-short h = answered-picked bs ∙ rw (lt-leb 8 (length bs) h)

  module _ (there : 8 ≤ length bs) where
    pub frame-long : lt_z (pos 65536) (field bs 0) ≡ true → answered bs ≡ refused LONG 0
    frame-long l = answered-picked bs ∙ rw (le-leb 8 (length bs) there, above (field bs 0) true l)

    module _ (small : lt_z (pos 65536) (field bs 0) ≡ false) where
      pub frame-negative : lt_z (field bs 0) (pos 0) ≡ true → answered bs ≡ refused CUT 0
      frame-negative n = answered-picked bs ∙ rw (le-leb 8 (length bs) there, above (field bs 0) false small, below (field bs 0) true n)

      module _ (positive : lt_z (field bs 0) (pos 0) ≡ false) where
        framed-if : answered bs ≡ ifb (leb whole (length bs)) (λ _. framed_at bs (nat_abs (field bs 0))) (λ _. refused CUT 0)
        framed-if = answered-picked bs ∙ rw (le-leb 8 (length bs) there, above (field bs 0) false small, below (field bs 0) false positive)

        pub frame_past : length bs < whole → answered bs ≡ refused CUT 0
        frame_past h = framed-if ∙ rw (lt-leb whole (length bs) h)

        pub answered-framed : whole ≤ length bs → answered bs ≡ framed_at bs (nat_abs (field bs 0))
        answered-framed h = framed-if ∙ rw (le-leb whole (length bs) h)

        -- the bytes after the length are cut where the sheet ends
        pub frame-parts : (rest sheet values : List ℕ) (n : ℕ) → rest ≡ drop 8 bs → n ≡ nat_abs (field bs 0) → n ≤ length rest →
            sheet ≡ take n rest → values ≡ drop n rest → answered bs ≡ framed sheet values
        frame-parts rest sheet values n r is h s v =
            let fits : whole ≤ length bs = omega (arith, is, ap length r, length-drop 8 bs) in
            answered-framed fits ∙ rw (s, v, r, is, drop-drop (nat_abs (field bs 0)) 8 bs)
