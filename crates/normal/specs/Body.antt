-- What the branches of a body take in the normal form: nodes, bytes, constraints and depth, of one branch and of all of them; the body, or
-- the children of a case, that stand at a place; and how their branches are added to those so far, measured or stored. Assumes nothing.
use Rattle.std.specs.Prelude.{◌≡◌, ℕ, ◌+◌, ◌≤◌, ◌<◌, max, true, List, [], ◌∷◌, length, get_or, drop}
use Rattle.alpha.specs.Field.{nat}
use Rattle.alpha.specs.Sheet.{Expr, Exprs, Expr.restr, Expr.kase, Exprs.none}
use Rattle.alpha.specs.Read.{dimension}
use Rattle.alpha.specs.Shape.{fits, all_fit}
use Rattle.alpha.specs.Reach.{top_reach, reach, reach_all}
use Rattle.alpha.specs.Written.{bytes, all_bytes, branch_count, node_count, node_counts, depth}
use Rattle.alpha.specs.Normal.{Branch, norm, norms, as_exprs}
use Rattle.laws.specs.At.{At, AllAt}
use Rattle.laws.specs.Sheets.{heads_of, vars_of}
use Rattle.normal.specs.declared.Body.{Body}
use Rattle.normal.specs.declared.Choice.{Choice}
use Rattle.normal.specs.declared.Half.{Half}
use Rattle.normal.specs.declared.Half.TheVariants.{Constraints, Tree}
use Rattle.normal.specs.declared.Mode.{Mode}
use Rattle.normal.specs.declared.Pen.{Pen}
use Rattle.normal.specs.declared.Taken.{Taken}
use Rattle.normal.specs.Count.{count_of, sum_of}
use Rattle.normal.specs.Part.{Part, tree_part, given_part}
use Rattle.normal.specs.Followed.{laid, room_of, Wrote}

-- ---- sizes

-- a branch as it is written
abbrev pub written : ℕ → Branch → Expr
written n x = restr n x.given x.term

abbrev pub taken_by : ℕ → Branch → Taken
taken_by n x = record { nodes = node_count (written n x); bytes = length (bytes (written n x)); limits = length x.given; deep = depth x.term }

abbrev pub nothing : Taken
nothing = record { nodes = 0; bytes = 0; limits = 0; deep = 0 }

-- sums of nodes and bytes, and the most constraints and levels of the trees
abbrev pub both : Taken → Taken → Taken
both a b = record { nodes = a.nodes + b.nodes; bytes = a.bytes + b.bytes; limits = max a.limits b.limits; deep = max a.deep b.deep }

abbrev pub total : ℕ → List Branch → Taken
total n [] = nothing
total n (x ∷ xs) = both (taken_by n x) (total n xs)

-- ---- the body

-- the branches of e, where the sheet is bs
abbrev pub branches_in : List ℕ → Expr → List Branch
branches_in bs e = norm e (dimension (heads_of bs))

-- branch b
abbrev pub branch_in : List ℕ → Expr → ℕ → Branch
branch_in bs e b = get_or (branches_in bs e) b (record { given = []; term = kase none })

-- a body of dimension n and at most `left` nodes stands at p, and has so many branches
pub record BodyAt (bs : List ℕ) (p left n many : ℕ) : Type 0 where
  pub tree : Expr
  pub end : ℕ
  pub at : At tree (vars_of bs) bs p end
  pub few : node_count tree ≤ left
  pub left_low : left ≤ 2048
  pub fitting : fits tree (heads_of bs) n ≡ true
  pub reaches : reach tree top_reach ≡ true
  pub narrow : n ≤ 4
  pub count : count_of tree ≡ many
  pub low : many ≤ 64

-- the branch is one of it
pub record BranchAt (bs : List ℕ) (p left n : ℕ) (x : Choice) : Type 0 where
  pub body : BodyAt bs p left n x.of
  pub some : x.number < x.of

-- any tree at p is such a body
pub record IsBody (bs : List ℕ) (p n many : ℕ) (e : Expr) : Type 0 where
  pub end : ℕ
  pub at : At e (vars_of bs) bs p end
  pub fitting : fits e (heads_of bs) n ≡ true
  pub count : count_of e ≡ many

-- ---- what is added

-- so much more, of the bytes l, is added to what is taken so far, and stored after it or only measured
pub record Added (mode : Mode) (sofar : Taken) (out out' : List ℕ) (r more : Taken) (l : List ℕ) : Type 0 where
  pub taken_is : r ≡ both sofar more
  pub out_is : out' ≡ laid mode out sofar.bytes l

-- branch b is added
abbrev pub PutsBranch : List ℕ → ℕ → ℕ → Choice → Mode → Taken → List ℕ → List ℕ → Taken → Type 0
PutsBranch bs p n x mode sofar out out' r =
    (e : Expr) → IsBody bs p n x.of e →
    Added mode sofar out out' r (taken_by n (branch_in bs e x.number)) (bytes (written n (branch_in bs e x.number)))

-- the branches xs are added
abbrev pub AddedAll : Mode → Taken → List ℕ → List ℕ → Taken → ℕ → List Branch → Type 0
AddedAll mode sofar out out' r n xs = Added mode sofar out out' r (total n xs) (all_bytes (as_exprs n xs))

-- the branches from number b on are added
abbrev pub PutsFrom : List ℕ → ℕ → ℕ → ℕ → ℕ → Mode → Taken → List ℕ → List ℕ → Taken → Type 0
PutsFrom bs p n many b mode sofar out out' r = (e : Expr) → IsBody bs p n many e → AddedAll mode sofar out out' r n (drop b (branches_in bs e))

-- ---- room for it

-- there are few more nodes than bytes so far, and l keeps within the room
pub record Fits (sofar : Taken) (l : List ℕ) (room : ℕ) : Type 0 where
  pub nodes_low : sofar.nodes ≤ 4096 + sofar.bytes
  pub fits_room : sofar.bytes + length l ≤ room

-- branch b does, and the branches from number b on
abbrev pub BranchFits : List ℕ → ℕ → ℕ → Choice → Taken → ℕ → Type 0
BranchFits bs p n x sofar room = (e : Expr) → IsBody bs p n x.of e → Fits sofar (bytes (written n (branch_in bs e x.number))) room

abbrev pub BodyFits : List ℕ → ℕ → ℕ → ℕ → ℕ → Taken → ℕ → Type 0
BodyFits bs p n many b sofar room = (e : Expr) → IsBody bs p n many e → Fits sofar (all_bytes (as_exprs n (drop b (branches_in bs e)))) room

-- ---- one half of a branch

-- a half of the branch x, as it is written
abbrev pub half_of : Half → Branch → Part
half_of Tree x = tree_part x.term 0
half_of Constraints x = given_part x.given

-- it can be followed from the place `to` on
-- it can be followed from the place `to` on
pub record HalfAt (bs : List ℕ) (p left n : ℕ) (x : Choice) (half : Half) (to room : ℕ) : Type 0 where
  pub at : BranchAt bs p left n x
  pub fits_room : (e : Expr) → IsBody bs p n x.of e → to + length (half_of half (branch_in bs e x.number)).out ≤ room

-- and is, to its end
abbrev pub PutsHalf : List ℕ → ℕ → ℕ → Choice → Half → Mode → ℕ → List ℕ → List ℕ → Pen → Type 0
PutsHalf bs p n x half mode to out out' r =
    (e : Expr) → IsBody bs p n x.of e → Wrote mode (record { to = to; things = 0; deep = 0 }) out out' r (half_of half (branch_in bs e x.number))

-- ---- the children of a case

-- the branches of trees one after another
abbrev pub all_branches_in : List ℕ → Exprs → List Branch
all_branches_in bs es = norms es (dimension (heads_of bs))

-- any trees from p on, so many of them, which have `of` branches
pub record AreBodies (bs : List ℕ) (p n many of : ℕ) (es : Exprs) : Type 0 where
  pub end : ℕ
  pub at : AllAt es (vars_of bs) bs p end
  pub fitting : all_fit es (heads_of bs) n ≡ true
  pub count : branch_count es ≡ many
  pub sum : sum_of es ≡ of

-- such trees stand from p on, at least one, of at most `left` nodes in all
pub record BodiesAt (bs : List ℕ) (p left n many of : ℕ) : Type 0 where
  pub trees : Exprs
  pub are : AreBodies bs p n many of trees
  pub some : 1 ≤ many
  pub few : node_counts trees ≤ left
  pub left_low : left ≤ 2048
  pub reaches : reach_all trees top_reach ≡ true
  pub narrow : n ≤ 4
  pub low : of ≤ 64

-- there is room for their branches
abbrev pub BodiesFit : List ℕ → ℕ → ℕ → ℕ → ℕ → Taken → ℕ → Type 0
BodiesFit bs p n many of sofar room = (es : Exprs) → AreBodies bs p n many of es → Fits sofar (all_bytes (as_exprs n (all_branches_in bs es))) room

-- which are added
abbrev pub PutsAll : List ℕ → ℕ → ℕ → ℕ → ℕ → Mode → Taken → List ℕ → List ℕ → Taken → Type 0
PutsAll bs p n many of mode sofar out out' r = (es : Exprs) → AreBodies bs p n many of es → AddedAll mode sofar out out' r n (all_branches_in bs es)

-- ---- of a body of the sheet, where `out` is lent: what is required, and what is answered

-- where a number goes
abbrev pub MayPut : Body → List ℕ → ℕ → Type 0
MayPut b out to = to + 8 ≤ room_of b.mode out

abbrev pub Put : Body → List ℕ → List ℕ → ℕ → ℕ → Type 0
Put b out out' to n = out' ≡ laid b.mode out to (nat n)

-- one half of a branch of the tree at p
abbrev pub MayHalve : Body → Half → ℕ → ℕ → Choice → List ℕ → ℕ → Type 0
MayHalve b half p left x out to = HalfAt b.sheet.now p left b.dimension x half to (room_of b.mode out)

abbrev pub Halved : Body → Half → ℕ → Choice → List ℕ → List ℕ → ℕ → Pen → Type 0
Halved b half p x out out' to r = PutsHalf b.sheet.now p b.dimension x half b.mode to out out' r

-- the branch
abbrev pub MayBranch : Body → ℕ → ℕ → Choice → List ℕ → Taken → Type 0
MayBranch b p left x out sofar = BranchAt b.sheet.now p left b.dimension x × BranchFits b.sheet.now p b.dimension x sofar (room_of b.mode out)

abbrev pub Branched : Body → ℕ → Choice → List ℕ → List ℕ → Taken → Taken → Type 0
Branched b p x out out' sofar r = PutsBranch b.sheet.now p b.dimension x b.mode sofar out out' r

-- all branches of the tree
abbrev pub MayTurn : Body → ℕ → ℕ → ℕ → List ℕ → Taken → Type 0
MayTurn b p left of out sofar = BodyAt b.sheet.now p left b.dimension of × BodyFits b.sheet.now p b.dimension of 0 sofar (room_of b.mode out)

abbrev pub Turned : Body → ℕ → ℕ → List ℕ → List ℕ → Taken → Taken → Type 0
Turned b p of out out' sofar r = PutsFrom b.sheet.now p b.dimension of 0 b.mode sofar out out' r

-- those of so many trees
abbrev pub MayTurnAll : Body → ℕ → ℕ → ℕ → ℕ → List ℕ → Taken → Type 0
MayTurnAll b p left many of out sofar =
    BodiesAt b.sheet.now p left b.dimension many of × BodiesFit b.sheet.now p b.dimension many of sofar (room_of b.mode out)

abbrev pub TurnedAll : Body → ℕ → ℕ → ℕ → List ℕ → List ℕ → Taken → Taken → Type 0
TurnedAll b p many of out out' sofar r = PutsAll b.sheet.now p b.dimension many of b.mode sofar out out' r
