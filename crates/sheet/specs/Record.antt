-- The variables' records by their places: a record that was read is what the bytes from its place on say. Assumes nothing.
use Rattle.std.specs.Prelude.{ℕ, zero, suc, ◌+◌, ◌*◌, ◌≤◌, ◌<◌, ◌≡◌, true, List, [], ◌∷◌, map, length, get_or, take, leb, pos, neg_ℤ, nat_abs, Result, Ok}
use Rattle.alpha.specs.Pick.{ifb}
use Rattle.alpha.specs.Field.{field, eight}
use Rattle.alpha.specs.Sheet.{Head, Range}
use Rattle.alpha.specs.Box.{within, side, size}
use Rattle.alpha.specs.Read.{got, kind_of, sort_of, heads}
use Rattle.alpha.specs.declared.Refusal.{Refusal}
use Rattle.alpha.specs.Verdict.{told}
use Rattle.sheet.specs.declared.table.Table.{Table}
use Rattle.sheet.specs.Place.{place_after}

-- the range at p
abbrev pub range_at : List ℕ → ℕ → Range
range_at bs p = record { lo = field bs p; hi = field bs (p + 8) }

-- the n ranges from p on
unfoldable pub box_at : List ℕ → ℕ → ℕ → List Range
box_at bs p zero = []
box_at bs p (suc n) = range_at bs p ∷ box_at bs (p + 16) n

-- the dimension that the record at p says
abbrev pub dimension_at : List ℕ → ℕ → ℕ
dimension_at bs p = nat_abs (field bs (p + 24))

-- the record at p
unfoldable pub head_at : List ℕ → ℕ → Head
head_at bs p = record {
  name = eight bs p;
  kind = kind_of (nat_abs (field bs (p + 8)));
  sort = sort_of (nat_abs (field bs (p + 16)));
  box = box_at bs (p + 32) (dimension_at bs p);
  place = p;
}

-- the records at these places
abbrev pub heads_at : List ℕ → List ℕ → List Head
heads_at bs ps = map (head_at bs) ps

-- n ranges stand from p on, each -32768 <= lo <= hi <= 32767
pub record Ranges (bs : List ℕ) (p n : ℕ) : Type 0 where
  pub there : p + 16 * n ≤ length bs
  pub low : (i : ℕ) → i < n → within (neg_ℤ (pos 32768)) (pos 32767) (field bs (p + 16 * i)) ≡ true
  pub high : (i : ℕ) → i < n → within (field bs (p + 16 * i)) (pos 32767) (field bs (p + 16 * i + 8)) ≡ true

-- r is how many numbers the range at p has, and small
pub record Side (bs : List ℕ) (p r : ℕ) : Type 0 where
  pub is : r ≡ side (range_at bs p)
  pub small : r ≤ 65537

-- a number of points, and 4,097 for any over 4,096
unfoldable pub capped : ℕ → ℕ
capped n = ifb (leb n 4096) (λ _. n) (λ _. 4097)

-- a record stands at p: its fields are there, its dimension is at most 4, and its ranges are as they must be
pub record Recorded (bs : List ℕ) (p : ℕ) : Type 0 where
  pub fields : p + 32 ≤ length bs
  pub small : dimension_at bs p ≤ 4
  pub ranges : Ranges bs (p + 32) (dimension_at bs p)

-- records stand at these places
pub record Known (bs ps : List ℕ) : Type 0 where
  pub few : length ps ≤ 32
  pub recorded : (i : ℕ) → i < length ps → Recorded bs (get_or ps i 0)

-- and there is at least one
pub record KnownSome (bs ps : List ℕ) : Type 0 where
  pub some : 1 ≤ length ps
  pub known : Known bs ps

-- how many points the boxes of these records hold
abbrev pub points : List Head → ℕ
points [] = 0
points (h ∷ hs) = size h.box + points hs

-- and those before record v
abbrev pub before : List Head → ℕ → ℕ
before hs v = points (take v hs)

-- the places of the first n records of a table
abbrev pub places : Table → ℕ → List ℕ
places tab n = take n tab.records

-- the records of n variables were read from p to q, and the table has their places, first elements and total
pub record Filled (bs : List ℕ) (p n : ℕ) (tab : Table) (q : ℕ) : Type 0 where
  pub sized : length tab.bodies ≡ 33
  pub many : length (places tab n) ≡ n
  pub known : Known bs (places tab n)
  pub gives : heads n [] 0 bs p ≡ got (heads_at bs (places tab n)) q
  pub firsts : (i : ℕ) → i ≤ n → get_or tab.firsts i 0 ≡ before (heads_at bs (places tab n)) i
  pub few : points (heads_at bs (places tab n)) ≤ 4096

-- reading n records: how far it comes, and the table where it comes to the end
pub record Fills (bs : List ℕ) (p n : ℕ) (tab' : Table) (r : Result ℕ Refusal) : Type 0 where
  pub answer : told r ≡ place_after (heads n [] 0 bs p)
  pub filled : (q : ℕ) → r ≡ Ok q → Filled bs p n tab' q
