-- What following a branch requires and answers: the node or the nodes at a place, with the map composed so far, and the pen with which
-- the branch's constraints or its tree are written, or only measured. Assumes nothing.
use Rattle.std.specs.Prelude.{◌≡◌, ℕ, ◌+◌, ◌^◌, ◌≤◌, ◌<◌, min, max, true, List, length}
use Rattle.std.proofs.lemmas.List.Edits.{sets}
use Rattle.alpha.specs.Sheet.{Expr, Exprs}
use Rattle.alpha.specs.Affine.{map_after}
use Rattle.alpha.specs.Shape.{fits, all_fit}
use Rattle.alpha.specs.Reach.{limit, top_reach, map_reach, reach, reach_all}
use Rattle.alpha.specs.Written.{branch_count, node_count, node_counts}
use Rattle.laws.specs.At.{node_read, At, AllAt}
use Rattle.laws.specs.Sheets.{heads_of, vars_of}
use Rattle.affine.specs.declared.Map.{Map}
use Rattle.affine.specs.Value.{line, map_of, Neat}
use Rattle.affine.specs.Size.{FitAfter}
use Rattle.affine.specs.Reading.{MapRead, MapThere}
use Rattle.normal.specs.declared.Choice.{Choice}
use Rattle.normal.specs.declared.Half.{Half}
use Rattle.normal.specs.declared.Mode.{Mode}
use Rattle.normal.specs.declared.Mode.TheVariants.{Measure, Store}
use Rattle.normal.specs.declared.Pen.{Pen}
use Rattle.normal.specs.declared.Walk.{Walk}
use Rattle.normal.specs.Count.{count_of, product_of}
use Rattle.normal.specs.Part.{Part, own, part_of, parts_of}
use Rattle.normal.specs.Spot.{Stop}

-- ---- the pen

-- after a part
abbrev pub advance : Pen → Part → Pen
advance z p = record { to = z.to + length p.out; things = z.things + p.things; deep = max z.deep p.deep }

-- what is lent, after bytes at a place: as it was where they are only measured
abbrev pub laid : Mode → List ℕ → ℕ → List ℕ → List ℕ
laid Measure out to new = out
laid Store out to new = sets out to new

-- how far the pen may go
abbrev pub room_of : Mode → List ℕ → ℕ
room_of Measure out = 2 ^ 40
room_of Store out = min (2 ^ 40) (length out)

-- ---- the map composed so far

-- m has the rows that it says, and reaches at most the bound from the top of a body, which keeps the limit
pub record Carried (m : Map) (bound : ℕ) : Type 0 where
  pub neat : Neat m
  pub within : map_reach top_reach (map_of m).rows ≤ bound
  pub high : bound ≤ limit

-- the fields of a dependence stand at p, and its map can be composed with m
pub record Composes (bs : List ℕ) (p : ℕ) (m : Map) : Type 0 where
  pub there : MapThere bs p
  pub neat : Neat m
  pub dims : (g : Map) → MapRead bs p g → g.width ≡ m.height
  pub fit : (g : Map) → MapRead bs p g → (i : ℕ) → FitAfter m (line g i)

-- r is that map after m
pub record Lowers (bs : List ℕ) (p : ℕ) (m r : Map) : Type 0 where
  pub by : Map
  pub read : MapRead bs p by
  pub is : map_of r ≡ map_after (map_of m) (map_of by)
  pub neat : Neat r
  pub high : r.height ≡ by.height

-- ---- what is required

-- a tree of at most `left` nodes stands at p and has `of` branches, at most 64; the part of branch b keeps within the room; t says which part
pub record Route (bs : List ℕ) (p left : ℕ) (m : Map) (b of : ℕ) (t : Half) (level : ℕ) (pen : Pen) (room : ℕ) : Type 0 where
  pub tree : Expr
  pub end : ℕ
  pub bound : ℕ
  pub at : At tree (vars_of bs) bs p end
  pub few : node_count tree ≤ left
  pub left_low : left ≤ 2048
  pub level_low : level + left ≤ 4096
  pub fitting : fits tree (heads_of bs) m.height ≡ true
  pub reaches : reach tree bound ≡ true
  pub carried : Carried m bound
  pub branches : count_of tree ≡ of
  pub low : of ≤ 64
  pub some : b < of
  pub things_low : pen.things ≤ pen.to
  pub fits_room : pen.to + length (part_of t tree (map_of m) level b).out ≤ room

-- so many operands, which have `of` combinations
pub record RouteAll (bs : List ℕ) (p left many : ℕ) (m : Map) (b of : ℕ) (t : Half) (level : ℕ) (pen : Pen) (room : ℕ) : Type 0 where
  pub trees : Exprs
  pub end : ℕ
  pub bound : ℕ
  pub at : AllAt trees (vars_of bs) bs p end
  pub few : node_counts trees ≤ left
  pub left_low : left ≤ 2048
  pub level_low : level + left ≤ 4096
  pub count : branch_count trees ≡ many
  pub many_low : many ≤ 64
  pub fitting : all_fit trees (heads_of bs) m.height ≡ true
  pub reaches : reach_all trees bound ≡ true
  pub carried : Carried m bound
  pub combinations : product_of trees ≡ of
  pub low : of ≤ 64
  pub some : b < of
  pub things_low : pen.things ≤ pen.to
  pub fits_room : pen.to + length (parts_of t trees (map_of m) level b).out ≤ room

-- ---- what is answered

-- the pen and what is lent, after the part
pub record Wrote (mode : Mode) (pen : Pen) (out out' : List ℕ) (r : Pen) (part : Part) : Type 0 where
  pub pen_is : r ≡ advance pen part
  pub out_is : out' ≡ laid mode out pen.to part.out

-- of the node at p alone
abbrev pub Visits : List ℕ → ℕ → Map → Half → ℕ → Mode → Pen → List ℕ → List ℕ → Pen → Type 0
Visits bs p m t level mode pen out out' r = Wrote mode pen out out' r (own t (node_read (vars_of bs) bs p) (map_of m) level)

-- of branch b of the tree at p, which has `of`
abbrev pub Follows : List ℕ → ℕ → Map → ℕ → ℕ → Half → ℕ → Mode → Pen → List ℕ → List ℕ → Pen → Type 0
Follows bs p m b of t level mode pen out out' r =
    (e : Expr) (q : ℕ) → At e (vars_of bs) bs p q → count_of e ≡ of → Wrote mode pen out out' r (part_of t e (map_of m) level b)

-- of combination b of so many operands, which have `of`
abbrev pub FollowsAll : List ℕ → ℕ → ℕ → Map → ℕ → ℕ → Half → ℕ → Mode → Pen → List ℕ → List ℕ → Pen → Type 0
FollowsAll bs p many m b of t level mode pen out out' r =
    (es : Exprs) (q : ℕ) → AllAt es (vars_of bs) bs p q → branch_count es ≡ many → product_of es ≡ of →
    Wrote mode pen out out' r (parts_of t es (map_of m) level b)

-- ---- of a walk over a sheet, where `out` is lent: what is required, and what is answered

-- at one node
abbrev pub MayVisit : Walk → ℕ → Map → ℕ → List ℕ → Pen → Type 0
MayVisit w p m level out pen = Stop w.sheet.now p m w.half level pen (room_of w.mode out)

abbrev pub Visited : Walk → ℕ → Map → ℕ → List ℕ → List ℕ → Pen → Pen → Type 0
Visited w p m level out out' pen r = Visits w.sheet.now p m w.half level w.mode pen out out' r

-- along a branch of the tree at p
abbrev pub MayFollow : Walk → ℕ → ℕ → Choice → Map → ℕ → List ℕ → Pen → Type 0
MayFollow w p left x m level out pen = Route w.sheet.now p left m x.number x.of w.half level pen (room_of w.mode out)

abbrev pub Followed : Walk → ℕ → Choice → Map → ℕ → List ℕ → List ℕ → Pen → Pen → Type 0
Followed w p x m level out out' pen r = Follows w.sheet.now p m x.number x.of w.half level w.mode pen out out' r

-- along a combination of so many operands
abbrev pub MayFollowAll : Walk → ℕ → ℕ → ℕ → Choice → Map → ℕ → List ℕ → Pen → Type 0
MayFollowAll w p left many x m level out pen = RouteAll w.sheet.now p left many m x.number x.of w.half level pen (room_of w.mode out)

abbrev pub FollowedAll : Walk → ℕ → ℕ → Choice → Map → ℕ → List ℕ → List ℕ → Pen → Pen → Type 0
FollowedAll w p many x m level out out' pen r = FollowsAll w.sheet.now p many m x.number x.of w.half level w.mode pen out out' r
