-- The first section: a name field, a record, and the records one after another with the table that they fill. Assumes nothing.
use mathlib.Core.Path.{◌≡◌, refl, sym, ap, ◌∙◌, subst}
use mathlib.Core.Bool.{Bool, true, false, not, ◌&&◌, ◌||◌}
use mathlib.Core.List.{List, [], ◌∷◌, ◌++◌}
use Prim.Native.Nat.{ℕ, zero, suc, ◌+◌, ◌-◌, ◌*◌, ◌≤◌, ◌<◌}
use native.Mathlib.Omega.{arith}
use borrow.Author.Count.{below_more}
use borrow.Author.Tests.{le-leb, lt-leb, leb-true, leb-false}
use lib.ListN.{length, get_or, set, length-set}
use lib.Seq.{get_or-set_same, get_or-set_other, take-suc-set, take-append-le, take_at, take_all, length-take-le}
use lib.Dec.{leb}
use Rattle.std.specs.Prelude.{Result, Ok, Err}
use Rattle.alpha.specs.Pick.{ifb}
use Rattle.alpha.specs.Answer.{accepted, refused, CUT, COUNT, NAME}
use Rattle.alpha.specs.Field.{eight, name_form, same_bytes}
use Rattle.alpha.specs.Sheet.{Head}
use Rattle.alpha.specs.Box.{size}
use Rattle.alpha.specs.Read.{got, bad, after, room, repeat, taken, name_field, choice, count, range, head_record, heads}
use Rattle.alpha.specs.declared.Refusal.{Refusal}
use Rattle.alpha.specs.declared.Refusal.TheVariants.{Count}
use Rattle.alpha.specs.Verdict.{told}
use Rattle.sheet.specs.declared.table.Table.{Table}
use Rattle.sheet.specs.Place.{place_after}
use Rattle.sheet.specs.Name.{taken_at}
use Rattle.sheet.specs.Record.{box_at, dimension_at, head_at, heads_at, Recorded, Known, capped, points, before, places, Filled, Fills}
use Rattle.sheet.proofs.Places.{after-gave, refused-after, choice-passed, count-passed, choice-then, count-then, counted}
use Rattle.sheet.proofs.Readers.{next-accepted, box_place, dimension_place, sort_place, kind_place, head-place}
use Rattle.sheet.proofs.Heads.{heads-length, known-more}
use Rattle.sheet.proofs.Boxes.{ranges-came}

-- ---- a name field

taken-heads : (bs ps : List ℕ) (p : ℕ) → taken (eight bs p) (heads_at bs ps) ≡ taken_at bs p ps
unfolding head_at
taken-heads bs [] p = refl
taken-heads bs (q ∷ ps) p = ap (λ (b : Bool). same_bytes (eight bs p) (eight bs q) || b) (taken-heads bs ps p)

module _ (bs ps : List ℕ) (p : ℕ) where
  pub name-cut : false ≡ room bs p → refused CUT p ≡ place_after (name_field (heads_at bs ps) bs p)
  unfolding name_field
  name-cut r = rw (← r)

  module _ (r : true ≡ room bs p) where
    pub name-ill : false ≡ name_form (eight bs p) → refused NAME p ≡ place_after (name_field (heads_at bs ps) bs p)
    unfolding name_field
    name-ill f = rw (← r, ← f)

    pub name-taken : true ≡ name_form (eight bs p) → true ≡ taken_at bs p ps → refused NAME p ≡ place_after (name_field (heads_at bs ps) bs p)
    unfolding name_field
    name-taken f t = rw (← r, ← f, taken-heads bs ps p, ← t)

    pub name-fine : true ≡ name_form (eight bs p) → false ≡ taken_at bs p ps → accepted (p + 8) ≡ place_after (name_field (heads_at bs ps) bs p)
    unfolding name_field
    name-fine f t = rw (← r, ← f, taken-heads bs ps p, ← t)

-- a name field that was read
record NameRead (earlier : List Head) (bs : List ℕ) (p q : ℕ) : Type 0 where
  there : p + 8 ≤ length bs
  gives : name_field earlier bs p ≡ got (eight bs p) q
  next : q ≡ p + 8

name-came : (earlier : List Head) (bs : List ℕ) (p q : ℕ) → place_after (name_field earlier bs p) ≡ accepted q → NameRead earlier bs p q
unfolding name_field
name-came earlier bs p q e = go (room bs p) (name_form (eight bs p) && not (taken (eight bs p) earlier)) refl refl e
  where
    go : (b c : Bool) → room bs p ≡ b → name_form (eight bs p) && not (taken (eight bs p) earlier) ≡ c →
        place_after (ifb b (λ _. ifb c (λ _. got (eight bs p) (p + 8)) (λ _. bad NAME p)) (λ _. bad CUT p)) ≡ accepted q → NameRead earlier bs p q
    go true true r t k =
        let h : p + 8 ≡ q = cc in
        record { there = leb-true (p + 8) (length bs) r; gives = rw (r, t) (ap (got (eight bs p)) h); next = sym h }
    go true false r t k = absurd (let z : ◌≡◌ {A = ℕ} 0 1 = cc in omega arith)
    go false c r t k = absurd (let z : ◌≡◌ {A = ℕ} 0 1 = cc in omega arith)

-- ---- a record

-- a record that was read
pub record HeadRead (earlier : List Head) (bs : List ℕ) (p q : ℕ) : Type 0 where
  pub recorded : Recorded bs p
  pub gives : head_record earlier bs p ≡ got (head_at bs p) q
  pub next : q ≡ p + 32 + 16 * dimension_at bs p

pub head-came : (earlier : List Head) (bs : List ℕ) (p q : ℕ) → accepted q ≡ place_after (head_record earlier bs p) → HeadRead earlier bs p q
unfolding head_record head_at
head-came earlier bs p q says =
    let e = sym says in
    let one = next-accepted (place_after (name_field earlier bs p)) (kind_place bs) (sym (head-place bs p earlier) ∙ e) in
    let name = name-came earlier bs p one.0 one.1 in
    let two = next-accepted (place_after (choice 2 bs (p + 8))) (sort_place bs) (rw name.next at one.2) in
    let kind = choice-passed 2 bs (p + 8) two.0 two.1 in
    let at16 : two.0 ≡ p + 16 = let n = kind.next in omega arith in
    let three = next-accepted (place_after (choice 1 bs (p + 16))) (dimension_place bs) (rw at16 at two.2) in
    let sort = choice-passed 1 bs (p + 16) three.0 three.1 in
    let at24 : three.0 ≡ p + 24 = let n = sort.next in omega arith in
    let four = next-accepted (place_after (count 0 4 bs (p + 24))) (box_place bs (p + 24)) (rw at24 at three.2) in
    let dim = count-passed 0 4 bs (p + 24) four.0 four.1 in
    let at32 : four.0 ≡ p + 32 = let n = dim.next in omega arith in
    let room : p + 32 ≤ length bs = let h = dim.there in omega arith in
    let box = ranges-came bs (dimension_at bs p) (p + 32) q room (rw at32 at four.2) in
    record {
      recorded = record { fields = room; small = (counted 0 4 {bs = bs} {p = p + 24} {q = four.0} dim).1; ranges = box.ranges };
      gives =
          after-gave (name_field earlier bs p) _ (eight bs p) (p + 8) (rw name.next at name.gives)
          ∙ choice-then 2 bs (p + 8) _ (p + 16) (rw at16 at two.1)
          ∙ choice-then 1 bs (p + 16) _ (p + 24) (rw at24 at three.1)
          ∙ count-then 0 4 bs (p + 24) _ (p + 32) (rw at32 at four.1)
          ∙ after-gave (repeat (dimension_at bs p) range bs (p + 32)) _ (box_at bs (p + 32) (dimension_at bs p)) q box.gives;
      next = box.next;
    }

-- ---- records one after another

heads-step : (m : ℕ) (earlier : List Head) (total : ℕ) (bs : List ℕ) (p : ℕ) → 0 < m →
    heads m earlier total bs p ≡ after (head_record earlier bs p) (λ h q.
    ifb (leb (total + size h.box) 4096) (λ _. heads (m - 1) (earlier ++ (h ∷ [])) (total + size h.box) bs q) (λ _. bad COUNT p))
unfolding heads
heads-step zero earlier total bs p h = absurd (omega arith)
heads-step (suc m) earlier total bs p h = let e : suc m - 1 ≡ m = omega arith in rw e

capped_le : (n : ℕ) → capped n ≤ n
unfolding capped
capped_le n = go (leb n 4096) refl
  where
    go : (b : Bool) → leb n 4096 ≡ b → ifb b (λ _. n) (λ _. 4097) ≤ n
    go true e = omega arith
    go false e = let h = leb-false n 4096 e in omega arith

pub capped_small : (n : ℕ) {r : ℕ} → r ≡ capped n → r ≤ 4097
unfolding capped
capped_small n e = rw e (go (leb n 4096) refl)
  where
    go : (b : Bool) → leb n 4096 ≡ b → ifb b (λ _. n) (λ _. 4097) ≤ 4097
    go true t = let h = leb-true n 4096 t in omega arith
    go false t = omega arith

capped-exact : (n : ℕ) → capped n ≤ 4096 → capped n ≡ n
unfolding capped
capped-exact n = go (leb n 4096)
  where
    go : (b : Bool) → ifb b (λ _. n) (λ _. 4097) ≤ 4096 → ifb b (λ _. n) (λ _. 4097) ≡ n
    go true h = refl
    go false h = absurd (omega arith)

heads-last : (bs ps : List ℕ) (p : ℕ) → heads_at bs (ps ++ (p ∷ [])) ≡ heads_at bs ps ++ (head_at bs p ∷ [])
heads-last bs [] p = refl
heads-last bs (q ∷ ps) p = ap (λ (l : List Head). head_at bs q ∷ l) (heads-last bs ps p)

pub points-last : (hs : List Head) (h : Head) → points (hs ++ (h ∷ [])) ≡ points hs + size h.box
points-last [] h = omega arith
points-last (x ∷ hs) h = let e = points-last hs h in omega arith

head-size : (bs : List ℕ) (p : ℕ) → size (head_at bs p).box ≡ size (box_at bs (p + 32) (dimension_at bs p))
unfolding head_at
head-size bs p = refl

-- the table with a record's place and first element
abbrev pub stored : Table → ℕ → ℕ → ℕ → Table
stored tab k p total = record tab { records = set tab.records k p; firsts = set tab.firsts k total }

stored-places : (tab : Table) (k p total : ℕ) → k < length tab.records → places (stored tab k p total) (k + 1) ≡ places tab k ++ (p ∷ [])
stored-places tab k p total room = let e : k + 1 ≡ suc k = omega arith in rw e (take-suc-set tab.records k p room)

-- the first k of n records were read, up to p, and the table has their places and first elements
pub record Reading (bs : List ℕ) (at n : ℕ) (tab : Table) (k total p : ℕ) : Type 0 where
  pub up-to : k ≤ n
  pub all : n ≤ 32
  pub room : length tab.records ≡ 32
  pub firsts_room : length tab.firsts ≡ 33
  pub bodies_room : length tab.bodies ≡ 33
  pub known : Known bs (places tab k)
  pub decides : heads n [] 0 bs at ≡ heads (n - k) (heads_at bs (places tab k)) total bs p
  pub firsts : (i : ℕ) → i < k → get_or tab.firsts i 0 ≡ before (heads_at bs (places tab k)) i
  pub sum : total ≡ points (heads_at bs (places tab k))
  pub few : total ≤ 4096

module _ {bs : List ℕ} {at n : ℕ} {tab : Table} {k total p : ℕ} (inv : Reading bs at n tab k total p) where
  hs : List Head
  hs = heads_at bs (places tab k)

  listed : length (places tab k) ≡ k
  listed = let m = inv.up-to in let a = inv.all in let r = inv.room in length-take-le k tab.records (omega arith)

  counted-heads : length (heads_at bs (places tab k)) ≡ k
  counted-heads = heads-length bs (places tab k) ∙ listed

  module _ (more : k < n) where
    step : heads n [] 0 bs at ≡ after (head_record hs bs p) (λ h q.
        ifb (leb (total + size h.box) 4096) (λ _. heads (n - k - 1) (hs ++ (h ∷ [])) (total + size h.box) bs q) (λ _. bad COUNT p))
    unfolding hs
    step = inv.decides ∙ heads-step (n - k) (heads_at bs (places tab k)) total bs p (omega arith)

    -- a record is refused
    pub reading-stops : (r : Result ℕ Refusal) (e : Refusal) → r ≡ Err e →
        told (Err e) ≡ place_after (head_record (heads_at bs (places tab k)) bs p) → Fills bs at n tab r
    unfolding hs
    reading-stops r e is says = record {
      answer = ap told is ∙ sym (ap place_after step ∙ refused-after (head_record (heads_at bs (places tab k)) bs p) _ (sym says));
      filled = λ q to. absurd (let z : ◌≡◌ {A = ℕ} 0 1 = cc in omega arith);
    }

    module _ {q pts : ℕ} (read : HeadRead (heads_at bs (places tab k)) bs p q) (counts : pts ≡ capped (size (box_at bs (p + 32) (dimension_at bs p)))) where
      after-head : heads n [] 0 bs at ≡ ifb (leb (total + size (box_at bs (p + 32) (dimension_at bs p))) 4096)
          (λ _. heads (n - k - 1) (hs ++ (head_at bs p ∷ [])) (total + size (box_at bs (p + 32) (dimension_at bs p))) bs q) (λ _. bad COUNT p)
      unfolding hs head_at
      after-head = step ∙ after-gave (head_record (heads_at bs (places tab k)) bs p) _ (head_at bs p) q read.gives

      -- the boxes so far hold too many points
      pub reading-over : 4096 < total + pts → Fills bs at n tab (Err (Count p))
      reading-over over =
          let le = capped_le (size (box_at bs (p + 32) (dimension_at bs p))) in
          record {
            answer = sym (ap place_after (too_many (omega arith)));
            filled = λ t to. absurd (let z : ◌≡◌ {A = ℕ} 0 1 = cc in omega arith);
          }
        where
          too_many : 4096 < total + size (box_at bs (p + 32) (dimension_at bs p)) → heads n [] 0 bs at ≡ bad COUNT p
          too_many h = after-head ∙ rw (lt-leb (total + size (box_at bs (p + 32) (dimension_at bs p))) 4096 h)

      -- a record more
      pub reading-more : total + pts ≤ 4096 → Reading bs at n (stored tab k p total) (k + 1) (total + pts) q
      unfolding hs
      reading-more few =
          let all = inv.all in
          let room = inv.room in
          let box = box_at bs (p + 32) (dimension_at bs p) in
          let exact : pts ≡ size box = counts ∙ capped-exact (size box) (omega arith) in
          let places-more = stored-places tab k p total (omega arith) in
          let all-heads : heads_at bs (places (stored tab k p total) (k + 1)) ≡ hs ++ (head_at bs p ∷ []) =
          ap (heads_at bs) places-more ∙ heads-last bs (places tab k) p in
          record {
            up-to = omega arith;
            all = all;
            room = length-set tab.records k p ∙ room;
            firsts_room = length-set tab.firsts k total ∙ inv.firsts_room;
            bodies_room = inv.bodies_room;
            known = rw places-more (known-more inv.known (let l = listed in omega arith) read.recorded);
            decides = onward exact (omega arith) ∙ with-heads all-heads;
            firsts = below_more (λ i. get_or (set tab.firsts k total) i 0 ≡ before (heads_at bs (places (stored tab k p total) (k + 1))) i) k
                (λ i h.
                get_or-set_other tab.firsts k i total 0 (λ e. omega arith) ∙ inv.firsts i h
                ∙ sym (ap (λ (l : List Head). before l i) all-heads
                ∙ ap points (take-append-le i hs (head_at bs p ∷ []) (let l = counted-heads in omega arith))))
                (get_or-set_same tab.firsts k total 0 (let r = inv.firsts_room in omega arith) ∙ inv.sum
                ∙ sym (ap (λ (l : List Head). before l k) all-heads ∙ ap points (take_at hs (head_at bs p ∷ []) k counted-heads)));
            sum =
                let after = ap points all-heads ∙ points-last hs (head_at bs p) in
                let before = inv.sum in
                let own = head-size bs p in
                omega arith;
            few = few;
          }
        where
          onward : pts ≡ size (box_at bs (p + 32) (dimension_at bs p)) → total + size (box_at bs (p + 32) (dimension_at bs p)) ≤ 4096 →
              heads n [] 0 bs at ≡ heads (n - (k + 1)) (hs ++ (head_at bs p ∷ [])) (total + pts) bs q
          onward exact h =
              let e : n - k - 1 ≡ n - (k + 1) = omega arith in
              after-head ∙ rw (le-leb (total + size (box_at bs (p + 32) (dimension_at bs p))) 4096 h, e, exact)

          with-heads : {l : List Head} → l ≡ hs ++ (head_at bs p ∷ []) →
              heads (n - (k + 1)) (hs ++ (head_at bs p ∷ [])) (total + pts) bs q ≡ heads (n - (k + 1)) l (total + pts) bs q
          with-heads e = ap (λ (l : List Head). heads (n - (k + 1)) l (total + pts) bs q) (sym e)

  -- all records were read, and the total is stored
  pub reading-done : n ≤ k → Filled bs at n (record tab { firsts = set tab.firsts n total }) p
  unfolding hs heads
  reading-done h = done (let m = inv.up-to in omega arith)
    where
      done : k ≡ n → Filled bs at n (record tab { firsts = set tab.firsts n total }) p
      done e =
          let same : heads_at bs (places tab n) ≡ hs = ap (λ (m : ℕ). heads_at bs (places tab m)) (sym e) in
          let none : n - k ≡ 0 = omega arith in
          record {
            sized = inv.bodies_room;
            many = rw e at listed;
            known = rw e at inv.known;
            gives = inv.decides ∙ ap (λ (m : ℕ). heads m hs total bs p) none ∙ ap (λ (l : List Head). got l p) (sym same);
            firsts = λ i l. below_more (λ j. get_or (set tab.firsts n total) j 0 ≡ before (heads_at bs (places tab n)) j) n
                (λ j m.
                get_or-set_other tab.firsts n j total 0 (λ r. omega arith) ∙ inv.firsts j (omega arith)
                ∙ sym (ap (λ (x : List Head). before x j) same))
                (get_or-set_same tab.firsts n total 0 (let r = inv.firsts_room in let a = inv.all in omega arith) ∙ inv.sum
                ∙ sym (ap (λ (x : List Head). before x n) same ∙ ap points (take_all n hs (let l = counted-heads in omega arith))))
                i (omega arith);
            few = let a = ap points same in let t = inv.sum in let f = inv.few in omega arith;
          }

pub filled-fills : {bs : List ℕ} {p n : ℕ} {tab : Table} {q : ℕ} → Filled bs p n tab q → Fills bs p n tab (Ok q)
filled-fills {bs} {p} {n} {tab} {q} f = record {
  answer = sym (ap place_after f.gives);
  filled = λ t to. let same : q ≡ t = cc in subst (λ (r : ℕ). Filled bs p n tab r) same f;
}
