-- What is read where a range, a variable's record or a declared constraint stands. Assumes nothing.
use mathlib.Core.Path.{◌≡◌, refl, sym, ap, ◌∙◌, subst}
use Prim.Native.Nat.{ℕ, zero, suc, ◌+◌, ◌*◌, ◌-◌, ◌≤◌, ◌<◌}
use native.Mathlib.Omega.{arith}
use mathlib.Core.Bool.{Bool, true, false, not, ◌&&◌}
use mathlib.Core.List.{List, [], ◌∷◌, ◌++◌, append_assoc, append-nil}
use lib.ListN.{length, get_or}
use lib.IntN.{pos, neg_ℤ, nat_abs}
use lib.Signed.{le_z}
use lib.Dec.{leb}
use borrow.Author.Tests.{leb-true, not-true}
use Rattle.alpha.specs.Pick.{ifb}
use Rattle.alpha.specs.Answer.{CUT, NAME, NUMBER, COUNT}
use Rattle.alpha.specs.Field.{field, eight, name_form}
use Rattle.alpha.specs.Sheet.{Range, Head, Declared}
use Rattle.alpha.specs.Box.{within, size}
use Rattle.alpha.specs.Read.{Got, got, bad, Reader, after, repeat, room, count, choice, number, taken, name_field, kind_of, sort_of, range, head_record, heads, dimension, constraint, declared}
use Rattle.laws.specs.Box.{read_range, read_box}
use Rattle.laws.specs.Heads.{head_len, declared_len, InRow, HeadsAt, points_of}
use Rattle.laws.proofs.Tests.{&&-left, &&-right, &&-true}
use Rattle.laws.proofs.Readers.{Gives, given, gives-map, then-gives, Passed, passing-gives, Counted, counted_is, count_gives, choice-gives, There, Items, repeat-gives}
use Rattle.laws.proofs.Rows.{Chosen, chosen, ConstraintAt, constraint-gives}

-- ---- ranges

-- the range r stands at p: lo, then hi
pub record RangeAt (bs : List ℕ) (p : ℕ) (r : Range) : Type 0 where
  pub lo-is : r.lo ≡ field bs p
  pub hi-is : r.hi ≡ field bs (p + 8)
  pub fine : read_range r ≡ true
  pub there : p + 16 ≤ length bs

pub range_gives : (bs : List ℕ) (p : ℕ) → Gives (RangeAt bs p) (p + 16) (range bs p)
unfolding range
range_gives bs p =
    then-gives (Passed (within (neg_ℤ (pos 32768)) (pos 32767)) bs p) (p + 8) (RangeAt bs p) (p + 16) (number (neg_ℤ (pos 32768)) (pos 32767) bs p) _
    (passing-gives NUMBER (within (neg_ℤ (pos 32768)) (pos 32767)) bs p) (λ lo _ h.
    then-gives (Passed (within lo (pos 32767)) bs (p + 8)) (p + 8 + 8) (RangeAt bs p) (p + 16) (number lo (pos 32767) bs (p + 8)) _
    (passing-gives NUMBER (within lo (pos 32767)) bs (p + 8)) (λ hi _ k.
    let low : le_z (neg_ℤ (pos 32768)) lo ≡ true = rw h.is (&&-left (le_z (neg_ℤ (pos 32768)) (field bs p)) (le_z (field bs p) (pos 32767)) h.fine) in
    let up : le_z lo hi ≡ true = rw k.is (&&-left (le_z lo (field bs (p + 8))) (le_z (field bs (p + 8)) (pos 32767)) k.fine) in
    let high : le_z hi (pos 32767) ≡ true = rw k.is (&&-right (le_z lo (field bs (p + 8))) (le_z (field bs (p + 8)) (pos 32767)) k.fine) in
    record {
      what = record { lo-is = h.is; hi-is = k.is; fine = &&-true (&&-true low up) high; there = omega (arith, k.there) };
      next = omega arith;
    }))

range-takes : (bs : List ℕ) (p : ℕ) → Gives (There 16 bs p) (p + 16) (range bs p)
range-takes bs p = gives-map (RangeAt bs p) (There 16 bs p) (p + 16) (λ r h. record { there = h.there }) (range bs p) (range_gives bs p)

-- ---- names

-- the eight bytes at p are a name, and no earlier record has it
pub record NameAt (earlier : List Head) (bs : List ℕ) (p : ℕ) (name : List ℕ) : Type 0 where
  pub is : name ≡ eight bs p
  pub formed : name_form (eight bs p) ≡ true
  pub new : taken (eight bs p) earlier ≡ false
  pub there : p + 8 ≤ length bs

pub name_field-gives : (earlier : List Head) (bs : List ℕ) (p : ℕ) → Gives (NameAt earlier bs p) (p + 8) (name_field earlier bs p)
unfolding name_field
name_field-gives earlier bs p = go (room bs p) (name_form (eight bs p) && not (taken (eight bs p) earlier)) refl refl
  where
    go : (b c : Bool) → room bs p ≡ b → name_form (eight bs p) && not (taken (eight bs p) earlier) ≡ c →
        Gives (NameAt earlier bs p) (p + 8) (ifb b (λ _. ifb c (λ _. got (eight bs p) (p + 8)) (λ _. bad NAME p)) (λ _. bad CUT p))
    go true true e f = record {
      what = record {
        is = refl;
        formed = &&-left (name_form (eight bs p)) (not (taken (eight bs p) earlier)) f;
        new = not-true (taken (eight bs p) earlier) (&&-right (name_form (eight bs p)) (not (taken (eight bs p) earlier)) f);
        there = leb-true (p + 8) (length bs) e;
      };
      next = refl;
    }
    go true false e f = tt
    go false c e f = tt

-- ---- a variable's record

-- the record h stands at p: name, kind, type, dimension, and the ranges
pub record HeadAt (earlier : List Head) (bs : List ℕ) (p : ℕ) (h : Head) : Type 0 where
  pub named : NameAt earlier bs p h.name
  pub kind-is : Chosen kind_of 2 bs (p + 8) h.kind
  pub sort-is : Chosen sort_of 1 bs (p + 16) h.sort
  pub dim : Counted 0 4 bs (p + 24) (length h.box)
  pub item : (i : ℕ) → i < length h.box → (r : Range) → range bs (p + 32 + i * 16) ≡ got (get_or h.box i r) (p + 32 + i * 16 + 16)
  pub place_is : h.place ≡ p
  pub there : p + head_len bs p ≤ length bs

module _ (earlier : List Head) (bs : List ℕ) (p : ℕ) where
  on : (k : ℕ) → p + k + 8 ≡ p + (k + 8)
  on k = omega arith

  chooses : (hi k : ℕ) → Gives (Counted 0 hi bs (p + k)) (p + (k + 8)) (choice hi bs (p + k))
  chooses hi k = rw (on k) at (choice-gives hi bs (p + k))

  then-head : {A : Type 0} (P : A → Type 0) (q : ℕ) (m : Got A) (k : A → ℕ → Got Head) →
      Gives P q m → ((a : A) → m ≡ got a q → P a → Gives (HeadAt earlier bs p) (p + head_len bs p) (k a q)) → Gives (HeadAt earlier bs p) (p + head_len bs p) (after m k)
  then-head P q m k g h = then-gives P q (HeadAt earlier bs p) (p + head_len bs p) m k g h

  pub head-gives : Gives (HeadAt earlier bs p) (p + head_len bs p) (head_record earlier bs p)
  unfolding head_record
  head-gives =
      then-head (NameAt earlier bs p) (p + 8) (name_field earlier bs p) _ (name_field-gives earlier bs p) (λ name _ a.
      then-head (Counted 0 2 bs (p + 8)) (p + 16) (choice 2 bs (p + 8)) _ (chooses 2 8) (λ kind _ b.
      then-head (Counted 0 1 bs (p + 16)) (p + 24) (choice 1 bs (p + 16)) _ (chooses 1 16) (λ sort _ c.
      then-head (Counted 0 4 bs (p + 24)) (p + 32) (count 0 4 bs (p + 24)) _ (rw (on 24) at (count_gives 0 4 bs (p + 24))) (λ n _ d.
      then-head (Items range 16 n bs (p + 32)) (p + 32 + n * 16) (repeat n range bs (p + 32)) _ (repeat-gives range 16 bs (range-takes bs) n (p + 32)) (λ box _ l.
      let m = l.many in
      let s = counted_is d in
      record {
        what = record {
          named = a;
          kind-is = chosen kind_of 2 bs (p + 8) kind b;
          sort-is = chosen sort_of 1 bs (p + 16) sort c;
          dim = rw m d;
          item = rw m l.item;
          place_is = refl;
          there = omega (arith, l.there (omega (arith, d.there)));
        };
        next = omega arith;
      })))))

module _ (earlier : List Head) (bs : List ℕ) (p : ℕ) (h : Head) (q : ℕ) (e : head_record earlier bs p ≡ got h q) where
  pub head_at : HeadAt earlier bs p h
  head_at = (given (HeadAt earlier bs p) (p + head_len bs p) (head-gives earlier bs p) e).what

pub head-range : {earlier : List Head} {bs : List ℕ} {p : ℕ} {h : Head} → HeadAt earlier bs p h → (i : ℕ) → i < length h.box → (r : Range) →
    RangeAt bs (p + 32 + i * 16) (get_or h.box i r)
head-range {bs = bs} {p = p} a i lt r =
    let at = p + 32 + i * 16 in
    (given (RangeAt bs at) (at + 16) (range_gives bs at) (a.item i lt r)).what

read_box-by-item : (box : List Range) (d : Range) → ((i : ℕ) → i < length box → read_range (get_or box i d) ≡ true) → read_box box ≡ true
read_box-by-item [] d h = refl
read_box-by-item (r ∷ rs) d h = &&-true (h 0 (omega arith)) (read_box-by-item rs d (λ i lt. h (suc i) (omega arith)))

pub head-box : {earlier : List Head} {bs : List ℕ} {p : ℕ} {h : Head} → HeadAt earlier bs p h → read_box h.box ≡ true
head-box {h = h} a = read_box-by-item h.box (record { lo = pos 0; hi = pos 0 }) (λ i lt. (head-range a i lt (record { lo = pos 0; hi = pos 0 })).fine)

-- ---- the first section

-- k new records stand from p up to q after the earlier ones, and with the points before they have at most 4,096
pub record HeadsRead (earlier : List Head) (k points : ℕ) (bs : List ℕ) (p : ℕ) (all : List Head) (q : ℕ) : Type 0 where
  pub new : List Head
  pub is : all ≡ earlier ++ new
  pub many : length new ≡ k
  pub stand : HeadsAt new earlier bs p q
  pub small : points ≤ 4096 → points + points_of new ≤ 4096

-- what `heads` must give
abbrev HeadsGood : List Head → ℕ → ℕ → List ℕ → ℕ → Got (List Head) → Type 0
HeadsGood earlier k points bs p (got all q) = HeadsRead earlier k points bs p all q
HeadsGood earlier k points bs p (bad n q) = Unit {0}

module _ (earlier : List Head) (k points : ℕ) (bs : List ℕ) (p : ℕ) where
  -- the records after the first, where their points fit
  more-heads : (h : Head) (m : ℕ) → head_record earlier bs p ≡ got h m → points + size h.box ≤ 4096 →
      (g : Got (List Head)) → HeadsGood (earlier ++ (h ∷ [])) k (points + size h.box) bs m g → HeadsGood earlier (suc k) points bs p g
  unfolding HeadsAt
  more-heads h m e l (bad n q) r = tt
  more-heads h m e l (got all q) r = record {
    new = h ∷ r.new;
    is = r.is ∙ append_assoc earlier (h ∷ []) r.new;
    many = ap suc r.many;
    stand = record { next = m; here = e; after = r.stand };
    small = λ _. omega (arith, r.small l);
  }

  -- one record, and then the rest
  abbrev rest : Head → ℕ → Got (List Head)
  rest h q = heads k (earlier ++ (h ∷ [])) (points + size h.box) bs q

  one-head : ((h : Head) (q : ℕ) → HeadsGood (earlier ++ (h ∷ [])) k (points + size h.box) bs q (rest h q)) →
      (g : Got Head) → head_record earlier bs p ≡ g →
      HeadsGood earlier (suc k) points bs p (after g (λ h q. ifb (leb (points + size h.box) 4096) (λ _. rest h q) (λ _. bad COUNT p)))
  one-head ih (bad n q) e = tt
  one-head ih (got h q) e = go (leb (points + size h.box) 4096) refl
    where
      go : (t : Bool) → leb (points + size h.box) 4096 ≡ t → HeadsGood earlier (suc k) points bs p (ifb t (λ _. rest h q) (λ _. bad COUNT p))
      go true l = more-heads h q e (leb-true (points + size h.box) 4096 l) (rest h q) (ih h q)
      go false l = tt

heads-good : (k : ℕ) (earlier : List Head) (points : ℕ) (bs : List ℕ) (p : ℕ) → HeadsGood earlier k points bs p (heads k earlier points bs p)
unfolding heads HeadsAt
heads-good zero earlier points bs p = record { new = []; is = sym (append-nil earlier); many = refl; stand = refl; small = λ h. omega arith }
heads-good (suc k) earlier points bs p =
    one-head earlier k points bs p (λ h q. heads-good k (earlier ++ (h ∷ [])) (points + size h.box) bs q) (head_record earlier bs p) refl

pub heads-read : {k points : ℕ} {earlier : List Head} {bs : List ℕ} {p : ℕ} {all : List Head} {q : ℕ} →
    heads k earlier points bs p ≡ got all q → HeadsRead earlier k points bs p all q
heads-read {k} {points} {earlier} {bs} {p} e = subst (HeadsGood earlier k points bs p) e (heads-good k earlier points bs p)

-- ---- a declared constraint

-- the declared constraint d stands at p: its variable, then its constraint, of that variable's dimension
pub record DeclaredAt (hs : List Head) (bs : List ℕ) (p : ℕ) (d : Declared) : Type 0 where
  pub who-is : Counted 0 (length hs - 1) bs p d.who
  pub what-is : ConstraintAt (dimension hs d.who) bs (p + 8) d.what
  pub there : p + declared_len hs bs p ≤ length bs

pub declared-gives : (hs : List Head) (bs : List ℕ) (p : ℕ) → Gives (DeclaredAt hs bs p) (p + declared_len hs bs p) (declared hs bs p)
unfolding declared
declared-gives hs bs p =
    then-gives (Counted 0 (length hs - 1) bs p) (p + 8) (DeclaredAt hs bs p) (p + declared_len hs bs p) (choice (length hs - 1) bs p) _
    (choice-gives (length hs - 1) bs p) (λ v _ h.
    then-gives (ConstraintAt (dimension hs v) bs (p + 8)) (p + 8 + (16 + 8 * dimension hs v)) (DeclaredAt hs bs p) (p + declared_len hs bs p)
    (constraint (dimension hs v) bs (p + 8)) _ (constraint-gives (dimension hs v) bs (p + 8)) (λ c _ k.
    let s : dimension hs v ≡ dimension hs (nat_abs (field bs p)) = ap (dimension hs) (counted_is h) in
    record { what = record { who-is = h; what-is = k; there = omega (arith, s, k.there) }; next = omega (arith, s) }))

module _ (hs : List Head) (bs : List ℕ) (p : ℕ) (d : Declared) (q : ℕ) (e : declared hs bs p ≡ got d q) where
  pub declared-at : DeclaredAt hs bs p d
  declared-at = (given (DeclaredAt hs bs p) (p + declared_len hs bs p) (declared-gives hs bs p) e).what

  pub declared-next : q ≡ p + declared_len hs bs p
  declared-next = (given (DeclaredAt hs bs p) (p + declared_len hs bs p) (declared-gives hs bs p) e).next

-- ---- the same reader again and again

pub record RowRead {A : Type 0} (r : Reader A) (n : ℕ) (bs : List ℕ) (p : ℕ) (l : List A) (q : ℕ) : Type 0 where
  pub many : length l ≡ n
  pub row : InRow l r bs p q

abbrev RowGood : {A : Type 0} → Reader A → ℕ → List ℕ → ℕ → Got (List A) → Type 0
RowGood r n bs p (got l q) = RowRead r n bs p l q
RowGood r n bs p (bad k q) = Unit {0}

module _ {A : Type 0} (r : Reader A) (n : ℕ) (bs : List ℕ) (p : ℕ) where
  row_more : (a : A) (m : ℕ) → r bs p ≡ got a m → (g : Got (List A)) → RowGood r n bs m g → RowGood r (suc n) bs p (after g (λ l q. got (a ∷ l) q))
  unfolding InRow
  row_more a m e (got l q) h = record { many = ap suc h.many; row = record { next = m; here = e; after = h.row } }
  row_more a m e (bad k q) h = tt

  row_one : ((m : ℕ) → RowGood r n bs m (repeat n r bs m)) → (g : Got A) → r bs p ≡ g →
      RowGood r (suc n) bs p (after g (λ a m. after (repeat n r bs m) (λ l q. got (a ∷ l) q)))
  row_one ih (got a m) e = row_more a m e (repeat n r bs m) (ih m)
  row_one ih (bad k m) e = tt

row-good : {A : Type 0} (r : Reader A) (n : ℕ) (bs : List ℕ) (p : ℕ) → RowGood r n bs p (repeat n r bs p)
unfolding InRow
row-good r zero bs p = record { many = refl; row = refl }
row-good r (suc n) bs p = row_one r n bs p (λ m. row-good r n bs m) (r bs p) refl

pub repeat-row : {A : Type 0} (r : Reader A) (n : ℕ) (bs : List ℕ) (p : ℕ) {l : List A} {q : ℕ} → repeat n r bs p ≡ got l q → RowRead r n bs p l q
repeat-row r n bs p e = subst (RowGood r n bs p) e (row-good r n bs p)
