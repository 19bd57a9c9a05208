-- What is known of a sheet that is accepted, as the code that runs or rewrites it uses it: where the sections and the bodies stand in the
-- bytes, and what the checks have shown. Assumes nothing.
use Rattle.std.specs.Prelude.{◌≡◌, ℕ, suc, ◌+◌, ◌≤◌, ◌<◌, true, false, List, [], ◌∷◌, map, length, pos}
use Rattle.alpha.specs.Field.{field}
use Rattle.alpha.specs.Sheet.{Kind, Kind.input, Kind.output, Kind.local, Node, Raw, Variable, Sheet, Point, Expr.kase, Exprs.none}
use Rattle.alpha.specs.Read.{declared, node}
use Rattle.alpha.specs.Shape.{fits, of_variable}
use Rattle.alpha.specs.Holds.{variable, is_input, in_domain, holds, clashes}
use Rattle.alpha.specs.Check.{typed, reached}
use Rattle.alpha.specs.Written.{node_count, depth}
use Rattle.laws.specs.At.{At}
use Rattle.laws.specs.Heads.{InRow, HeadsAt, points_of}

-- ---- the sections

-- the three sections stand one after another, and their counts keep the limits
pub record Sections (bs : List ℕ) (r : Raw) : Type 0 where
  pub heads_count : field bs 0 ≡ pos (length r.heads)
  pub some : 1 ≤ length r.heads
  pub few : length r.heads ≤ 32
  pub heads_stand : HeadsAt r.heads [] bs 8 r.second
  pub small : points_of r.heads ≤ 4096
  pub declared_count : field bs r.second ≡ pos (length r.decls)
  pub few_declared : length r.decls ≤ 256
  pub declared_stand : InRow r.decls (declared r.heads) bs (r.second + 8) r.third
  pub node-count : field bs r.third ≡ pos r.nodes
  pub few_nodes : r.nodes ≤ 2048
  pub first_is : r.first ≡ r.third + 8
  pub first_there : r.first ≤ length bs
  pub listed : List Node
  pub listed_count : length listed ≡ r.nodes
  pub nodes_stand : InRow listed (node (length r.heads)) bs r.first (length bs)

-- ---- the bodies

-- the body of x is a tree from p on, which leaves n of m nodes
pub record TreeAt (r : Raw) (bs : List ℕ) (x : Variable) (p m n : ℕ) : Type 0 where
  pub at : At x.body (length r.heads) bs p x.end
  pub count : m ≡ node_count x.body + n
  pub deep : depth x.body ≤ 32
  pub fitting : fits x.body r.heads (length x.head.box) ≡ true

-- an input has no body
pub record NoTree (x : Variable) (p m n : ℕ) : Type 0 where
  pub is : x.body ≡ kase none
  pub end_is : x.end ≡ p
  pub left_is : n ≡ m

abbrev pub BodyAt : Kind → Raw → List ℕ → Variable → ℕ → ℕ → ℕ → Type 0
BodyAt input r bs x p m n = NoTree x p m n
BodyAt output r bs x p m n = TreeAt r bs x p m n
BodyAt local r bs x p m n = TreeAt r bs x p m n

-- the variable x, numbered v, has its body from p on, and the others follow
pub record VariableAt (r : Raw) (bs : List ℕ) (v : ℕ) (x : Variable) (p m : ℕ) (rest : ℕ → ℕ → Type 0) : Type 0 where
  pub declared_is : x.declared ≡ of_variable v r.decls
  pub start_is : x.start ≡ p
  pub left : ℕ
  pub body-at : BodyAt x.head.kind r bs x p m left
  pub after : rest x.end left

-- the bodies of the variables from number v on stand one after another from p on, and have m nodes in all
unfoldable pub BodiesAt : Sheet → Raw → List ℕ → ℕ → ℕ → ℕ → Type 0
BodiesAt [] r bs v p m = m ≡ 0
BodiesAt (x ∷ s) r bs v p m = VariableAt r bs v x p m (λ q n. BodiesAt s r bs (suc v) q n)

-- ---- the whole sheet

pub record Accepted (bs : List ℕ) (r : Raw) (s : Sheet) : Type 0 where
  pub short : length bs ≤ 65536
  pub parts : Sections bs r
  pub heads_are : map (λ x. x.head) s ≡ r.heads
  pub stand : BodiesAt s r bs 0 r.first r.nodes
  pub types : (v : ℕ) → v < length s → typed r.heads (variable s v) ≡ true
  pub reaches : (v : ℕ) → v < length s → reached (variable s v) ≡ true
  -- no GAP and no CLASH
  pub covered : (v : ℕ) (z : Point) → v < length s → is_input (variable s v) ≡ false → in_domain (variable s v) z ≡ true → holds (variable s v).body s z ≡ true
  pub clear : (v : ℕ) (z : Point) → v < length s → is_input (variable s v) ≡ false → in_domain (variable s v) z ≡ true → clashes (variable s v).body s z ≡ false
