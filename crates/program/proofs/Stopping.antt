-- The program may stop reading after 81,932 bytes: 8 for the length, 65,536 for the longest sheet, and 16,388 for one value more than any
-- sheet asks for. Assumes nothing.
use mathlib.Core.Path.{◌≡◌, refl, sym, ap, ◌∙◌}
use Prim.Native.Nat.{ℕ, ◌+◌, ◌≤◌, ◌<◌}
use native.Mathlib.Omega.{arith}
use native.Mathlib.Decide.{dec_lt}
use mathlib.Core.Bool.{Bool, true, false, true≢false}
use mathlib.Core.List.{List}
use lib.ListN.{length, take, drop, length-drop}
use lib.Seq.{take_all, take-take, take-add, drop_at, get_or-take, length-take-le}
use lib.IntN.{ℤ, pos, negsuc, nat_abs}
use lib.Signed.{lt_z}
use borrow.Author.Tests.{ltb-false}
use Rattle.alpha.specs.Answer.{Answer, accepted, refused, next}
use Rattle.alpha.specs.Field.{signed_of, field}
use Rattle.alpha.specs.Sheet.{Sheet}
use Rattle.alpha.specs.Check.{check}
use Rattle.alpha.specs.Run.{input_count}
use Rattle.alpha.specs.Program.{inputs_from, report, framed, answered, printed, program}
use Rattle.laws.proofs.Checked.{check_accepts, accepted-total}
use Rattle.integer.proofs.Fields.{word_at-same}
use Rattle.run.proofs.Listing.{count-total}
use Rattle.program.proofs.Framing.{framed_at, frame-long, frame-negative, answered-framed}
use Rattle.program.proofs.Listing.{from-long}

-- after a sheet, more values than any sheet asks for are all alike
framed-long : (sheet rest other : List ℕ) → 16384 < length rest → 16384 < length other → framed sheet rest ≡ framed sheet other
unfolding framed
framed-long sheet rest other h g = go (check sheet) refl
  where
    go : (a : Answer Sheet) → check sheet ≡ a →
        next a (λ s. next (inputs_from s rest) (λ ins. accepted (report s ins))) ≡ next a (λ s. next (inputs_from s other) (λ ins. accepted (report s ins)))
    go (refused n p) e = refl
    go (accepted s) e =
        let few : input_count s ≤ 4096 = omega (arith, count-total s, accepted-total (check_accepts e).holds-all) in
        ap (λ a. next a (λ ins. accepted (report s ins))) (from-long s rest few h ∙ sym (from-long s other few g))

small_size : (x : ℤ) → lt_z (pos 65536) x ≡ false → lt_z x (pos 0) ≡ false → nat_abs x ≤ 65536
small_size (pos n) h p = ltb-false 65536 n h
small_size (negsuc n) h p = absurd (true≢false p)

module _ (bs : List ℕ) (long : 81932 < length bs) where
  abbrev cut : List ℕ
  cut = take 81932 bs

  cut-length : length cut ≡ 81932
  cut-length = length-take-le 81932 bs (omega arith)

  field_cut : field cut 0 ≡ field bs 0
  field_cut = ap signed_of (word_at-same cut bs 0 0 (λ k l. get_or-take 81932 bs (0 + k) 0 (omega arith)))

  -- the sheet's bytes are among the first
  sheet-cut : (n : ℕ) → n ≤ 65536 → take n (drop 8 cut) ≡ take n (drop 8 bs)
  sheet-cut n h =
      let first = length-take-le 8 bs (omega arith) in
      ap (λ l. take n (drop 8 l)) (take-add 8 81924 bs)
      ∙ ap (take n) (drop_at (take 8 bs) (take 81924 (drop 8 bs)) 8 first)
      ∙ take-take n 81924 (drop 8 bs) (omega arith)

  framed-cut : (n : ℕ) → n ≤ 65536 → framed_at cut n ≡ framed_at bs n
  framed-cut n h =
      ap (λ t. framed t (drop (8 + n) cut)) (sheet-cut n h)
      ∙ framed-long (take n (drop 8 bs)) (drop (8 + n) cut) (drop (8 + n) bs)
      (omega (arith, length-drop (8 + n) cut, cut-length)) (omega (arith, length-drop (8 + n) bs))

  -- the tests come out the same
  answered-cut : answered cut ≡ answered bs
  answered-cut = go (lt_z (pos 65536) (field bs 0)) (lt_z (field bs 0) (pos 0)) refl refl
    where
      there : 8 ≤ length cut
      there = omega (arith, cut-length)

      go : (large negative : Bool) → lt_z (pos 65536) (field bs 0) ≡ large → lt_z (field bs 0) (pos 0) ≡ negative → answered cut ≡ answered bs
      go true negative l n = frame-long cut there (ap (lt_z (pos 65536)) field_cut ∙ l) ∙ sym (frame-long bs (omega arith) l)
      go false true l n =
          frame-negative cut there (ap (lt_z (pos 65536)) field_cut ∙ l) (ap (λ x. lt_z x (pos 0)) field_cut ∙ n)
          ∙ sym (frame-negative bs (omega arith) l n)
      go false false l n =
          let few = small_size (field bs 0) l n in
          let within : 8 + nat_abs (field cut 0) ≤ length cut = omega (arith, ap nat_abs field_cut, cut-length, few) in
          answered-framed cut there (ap (lt_z (pos 65536)) field_cut ∙ l) (ap (λ x. lt_z x (pos 0)) field_cut ∙ n) within
          ∙ ap (λ x. framed_at cut (nat_abs x)) field_cut
          ∙ framed-cut (nat_abs (field bs 0)) few
          ∙ sym (answered-framed bs (omega arith) l n (omega (arith, few)))

-- what the program writes for an input that is cut off after 81,932 bytes is what it writes for the input
pub program-stops : (bs : List ℕ) → program bs ≡ program (take 81932 bs)
unfolding program
program-stops bs = go (dec_lt 81932 (length bs))
  where
    go : Dec (81932 < length bs) → program bs ≡ program (take 81932 bs)
    go (yes h) = ap printed (sym (answered-cut bs h))
    go (no h) = ap program (sym (take_all 81932 bs (omega arith)))
