-- A sheet that was read is prepared: what `sheet::read` ensures where it accepts is what the walkers require. Assumes nothing.
use Rattle.std.specs.Prelude.{Ok}
use mathlib.Core.Path.{◌≡◌, refl, sym, ap, ◌∙◌, subst}
use Prim.Native.Nat.{ℕ}
use mathlib.Core.Bool.{Bool, true, false}
use mathlib.Core.List.{List, []}
use lib.ListN.{length}
use lib.Dec.{leb, eqb}
use borrow.Author.Tests.{eqb-true}
use Rattle.alpha.specs.Pick.{ifb}
use Rattle.alpha.specs.Answer.{accepted, LONG, TAIL}
use Rattle.alpha.specs.Sheet.{Raw}
use Rattle.alpha.specs.Read.{Got, got, bad, after, repeat, count, heads, declared, node, ended, sections, read}
use Rattle.laws.specs.Sheets.{got_raw, raw_of}
use Rattle.sheet.specs.declared.table.Table.{Table}
use Rattle.sheet.specs.Table.{Reads, answer_of}
use Rattle.tree.specs.Prepared.{Prepared}

module _ (bs : List ℕ) where
  -- the value ends where the bytes end, where there is one
  abbrev Whole : {A : Type 0} → Got A → Type 0
  Whole (got a q) = q ≡ length bs
  Whole (bad n q) = Unit {0}

  after-whole : {A B : Type 0} (m : Got A) (k : A → ℕ → Got B) → ((a : A) (q : ℕ) → Whole (k a q)) → Whole (after m k)
  after-whole (got a q) k h = h a q
  after-whole (bad n q) k h = tt

  ended-whole : (r : Raw) (q : ℕ) → Whole (ended r bs q)
  unfolding ended
  ended-whole r q = go (eqb q (length bs)) refl
    where
      go : (t : Bool) → eqb q (length bs) ≡ t → Whole (ifb t (λ _. got r q) (λ _. bad TAIL q))
      go true e = eqb-true q (length bs) e
      go false e = tt

  sections-whole : Whole (sections bs 0)
  unfolding sections
  sections-whole =
      after-whole (count 1 32 bs 0) _ (λ v q₁.
      after-whole (heads v [] 0 bs q₁) _ (λ hs q₂.
      after-whole (count 0 256 bs q₂) _ (λ c q₃.
      after-whole (repeat c (declared hs) bs q₃) _ (λ ds q₄.
      after-whole (count 0 2048 bs q₄) _ (λ n q₅.
      after-whole (repeat n (node (length hs)) bs q₅) _ (λ ns q₆.
      ended-whole (record { heads = hs; decls = ds; second = q₂; third = q₄; first = q₅; nodes = n }) q₆))))))

  read_whole : Whole (read bs)
  unfolding read
  read_whole = go (leb (length bs) 65536)
    where
      go : (t : Bool) → Whole (ifb t (λ _. sections bs 0) (λ _. bad LONG 0))
      go true = sections-whole
      go false = tt

  pub read-ends : (r : Raw) (q : ℕ) → read bs ≡ got r q → q ≡ length bs
  read-ends r q e = subst Whole e read_whole

  pub read-prepared : (tab : Table) (n : ℕ) → Reads bs tab (Ok n) → Prepared bs tab
  read-prepared tab n h = go (read bs) refl h.answer
    where
      go : (g : Got Raw) → read bs ≡ g → accepted n ≡ answer_of (read bs) → Prepared bs tab
      go (got r q) e a =
          let is : raw_of bs ≡ r = ap got_raw e in
          record {
            accepted = e ∙ ap (got r) (read-ends r q e) ∙ ap (λ x. got x (length bs)) (sym is);
            table = rw is (h.table r q e);
          }
      go (bad m q) e a = let x = a ∙ ap answer_of e in absurd cc
