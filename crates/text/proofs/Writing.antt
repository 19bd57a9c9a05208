-- Texts written one after another are one text. `Going` follows a text while it is written: what is left of it, written from here on,
-- gives what the whole text gives from its start. `Backward` follows one that is written from its last byte to its first. Assumes nothing.
use mathlib.Core.Path.{◌≡◌, refl, sym, ap, ◌∙◌}
use Prim.Native.Nat.{ℕ, zero, suc, ◌+◌, ◌-◌, ◌≤◌, ◌<◌}
use native.Mathlib.Omega.{arith}
use mathlib.Core.List.{List, [], ◌∷◌, ◌++◌}
use lib.ListN.{length, set, length-append, length-set}
use lib.Seq.{sets, length-sets, set_comm}
use borrow.Rule.Slice.PartMut.{put_mid}
use Rattle.integer.proofs.Fields.{put_mid-sets}
use Rattle.laws.proofs.Written.{sets-append}
use Rattle.text.specs.declared.writer.Writer.{Writer}
use Rattle.text.specs.Wrote.{Wrote, Room}

-- bytes copied to a place
pub wrote_copied : (before after : Writer) (ys bs : List ℕ) → ys ≡ bs → Room (length bs) before →
    after.out.now ≡ put_mid before.at (before.at + length bs - before.at) before.out.now ys → after.at ≡ before.at + length bs →
    after.out.ghost_name ≡ before.out.ghost_name → Wrote before after bs
wrote_copied before after ys bs e h is ends same =
    let k = before.at + length bs - before.at in
    let many : length ys ≡ k = omega (arith, ap length e) in
    let fits : before.at + k ≤ length before.out.now = omega arith in
    let all = is ∙ put_mid-sets before.at k before.out.now ys many fits ∙ ap (sets before.out.now before.at) e in
    record { is = all; ends = ends; sized = ap length all ∙ length-sets before.out.now before.at bs; same = same }

-- ---- what was written

module _ {before after : Writer} {bytes : List ℕ} (w : Wrote before after bytes) where
  -- the length follows from what is written
  pub wrote-length : length after.out.now ≡ length before.out.now
  wrote-length = ap length w.is ∙ length-sets before.out.now before.at bytes

  -- one text after another
  pub wrote-more : {last : Writer} {more : List ℕ} → Wrote after last more → Wrote before last (bytes ++ more)
  wrote-more {last} {more} m = record {
    is = m.is ∙ rw (w.is, w.ends) (sym (sets-append before.out.now before.at bytes more));
    ends = omega (arith, length-append bytes more, m.ends, w.ends);
    sized = m.sized ∙ w.sized;
    same = m.same ∙ w.same;
  }

  -- the same text by another name
  pub wrote-is : {other : List ℕ} → bytes ≡ other → Wrote before after other
  wrote-is e = rw (← e) w

-- ---- what is left to write

pub record Going (before now : Writer) (whole left : List ℕ) : Type 0 where
  pub is : sets now.out.now now.at left ≡ sets before.out.now before.at whole
  pub place : now.at + length left ≡ before.at + length whole
  pub sized : length now.out.now ≡ length before.out.now
  pub same : now.out.ghost_name ≡ before.out.ghost_name

pub going_start : (before : Writer) (whole : List ℕ) → Going before before whole whole
going_start before whole = record { is = refl; place = refl; sized = refl; same = refl }

module _ {before now : Writer} {whole left : List ℕ} (g : Going before now whole left) where
  pub going-wrote : {after : Writer} {bytes : List ℕ} (more : List ℕ) → left ≡ bytes ++ more → Wrote now after bytes → Going before after whole more
  going-wrote {after} {bytes} more e w = record {
    is = rw (w.is, w.ends) (sym (sets-append now.out.now now.at bytes more)) ∙ ap (sets now.out.now now.at) (sym e) ∙ g.is;
    place = omega (arith, length-append bytes more, ap length e, w.ends, g.place);
    sized = w.sized ∙ g.sized;
    same = w.same ∙ g.same;
  }

  pub going_end : left ≡ [] → Wrote before now whole
  going_end e = record { is = ap (sets now.out.now now.at) (sym e) ∙ g.is; ends = omega (arith, ap length e, g.place); sized = g.sized; same = g.same }

  -- a text that is left has room where the whole has it
  pub going-room : (bytes more : List ℕ) → left ≡ bytes ++ more → Room (length whole) before → Room (length bytes) now
  going-room bytes more e room = omega (arith, length-append bytes more, ap length e, g.place, g.sized)

-- ---- from the end

-- what is stored before a byte may be stored after it
sets-apart : (l : List ℕ) (i j : ℕ) (xs : List ℕ) (b : ℕ) → i + length xs ≤ j → sets (set l j b) i xs ≡ set (sets l i xs) j b
sets-apart l i j [] b h = refl
sets-apart l i j (x ∷ xs) b h = ap (λ m. sets m (suc i) xs) (set_comm l j i b x (λ e. omega arith)) ∙ sets-apart (set l i x) (suc i) j xs b (omega arith)

-- all from the place p on is written, and what is left, written from the start on, gives what the whole text gives
pub record Backward (before now : Writer) (whole left : List ℕ) (p : ℕ) : Type 0 where
  pub is : sets now.out.now now.at left ≡ sets before.out.now before.at whole
  pub place : p ≡ now.at + length left
  pub fits : p ≤ before.at + length whole
  pub start : now.at ≡ before.at
  pub sized : length now.out.now ≡ length before.out.now
  pub same : now.out.ghost_name ≡ before.out.ghost_name

pub backward_start : (before : Writer) (whole : List ℕ) (p : ℕ) → p ≡ before.at + length whole → Backward before before whole whole p
backward_start before whole p e = record { is = refl; place = e; fits = omega arith; start = refl; sized = refl; same = refl }

module _ {before now : Writer} {whole left : List ℕ} {p : ℕ} (g : Backward before now whole left p) where
  -- the last byte that is left
  pub backward-byte : (after : Writer) (b q : ℕ) (rest : List ℕ) → left ≡ rest ++ (b ∷ []) → q ≡ p - 1 → after.out.now ≡ set now.out.now q b →
      after.at ≡ now.at → after.out.ghost_name ≡ now.out.ghost_name → Backward before after whole rest q
  backward-byte after b q rest e f is at same =
      let last : q ≡ now.at + length rest = omega (arith, g.place, ap length e, length-append rest (b ∷ [])) in
      record {
        is = rw (is, at) (sets-apart now.out.now now.at q rest b (omega arith))
            ∙ ap (λ k. set (sets now.out.now now.at rest) k b) last
            ∙ sym (sets-append now.out.now now.at rest (b ∷ []))
            ∙ ap (sets now.out.now now.at) (sym e)
            ∙ g.is;
        place = last ∙ ap (λ k. k + length rest) (sym at);
        fits = omega (arith, g.fits);
        start = at ∙ g.start;
        sized = ap length is ∙ length-set now.out.now q b ∙ g.sized;
        same = same ∙ g.same;
      }

  -- the first byte
  pub backward_end : (after : Writer) (b : ℕ) → left ≡ b ∷ [] → after.out.now ≡ set now.out.now now.at b → after.at ≡ before.at + length whole →
      after.out.ghost_name ≡ now.out.ghost_name → Wrote before after whole
  backward_end after b e is ends same = record {
    is = is ∙ ap (sets now.out.now now.at) (sym e) ∙ g.is;
    ends = ends;
    sized = ap length is ∙ length-set now.out.now now.at b ∙ g.sized;
    same = same ∙ g.same;
  }
