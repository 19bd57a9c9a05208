-- What the layers above know of a sheet that passes SHAPE, TYPE and REACH, and of the table that has the places of its bodies: entry
-- v of these is where the body of variable v starts, and the next one where it ends. Assumes nothing.
use Rattle.std.specs.Prelude.{◌≡◌, ℕ, ◌+◌, ◌≤◌, ◌<◌, true, false, List, length, get_or, Result, Ok}
use Rattle.alpha.specs.Answer.{accepted, TYPE, REACH}
use Rattle.alpha.specs.Sheet.{Declared, Variable, Sheet}
use Rattle.alpha.specs.Read.{got, no_head, declared}
use Rattle.alpha.specs.Shape.{fits, of_variable}
use Rattle.alpha.specs.Reach.{top_reach, reach}
use Rattle.alpha.specs.Holds.{variable, is_input}
use Rattle.alpha.specs.Check.{first, typed, reached}
use Rattle.alpha.specs.Written.{node_count, depth}
use Rattle.alpha.specs.declared.Refusal.{Refusal}
use Rattle.alpha.specs.Verdict.{told}
use Rattle.laws.specs.At.{At}
use Rattle.laws.specs.Sheets.{raw_of, heads_of, vars_of, shaped_of, sheet_of}
use Rattle.tree.specs.declared.Rest.{Rest}
use Rattle.sheet.specs.Table.{SameSheet}
use Rattle.tree.specs.Prepared.{Prepared}
use Rattle.tree.specs.Ruled.{shapes_from, only, forms_of}
use Rattle.sheet.specs.declared.table.Table.{Table}

-- the body of x is the tree that stands from its start to its end, small enough, and of its variable's dimension
pub record BodyStands (bs : List ℕ) (x : Variable) : Type 0 where
  pub at : At x.body (vars_of bs) bs x.start x.end
  pub few : node_count x.body ≤ 2048
  pub deep : depth x.body ≤ 32
  pub fitting : fits x.body (heads_of bs) (length x.head.box) ≡ true

-- from entry v of the bodies on the table has the places of the variables of s, whose first body starts at p
pub record PlacesFrom (tab : Table) (v p : ℕ) (s : Sheet) : Type 0 where
  pub here : get_or tab.bodies v 0 ≡ p
  pub starts : (i : ℕ) → i < length s → get_or tab.bodies (v + i) 0 ≡ (variable s i).start
  pub ends : (i : ℕ) → i < length s → get_or tab.bodies (v + i + 1) 0 ≡ (variable s i).end

-- a declared constraint was read at p
pub record DeclaredRead (bs : List ℕ) (p : ℕ) : Type 0 where
  pub what : Declared
  pub next : ℕ
  pub read : declared (heads_of bs) bs p ≡ got what next

-- SHAPE of the variables from number v on: the answer, and the table, where nothing but their places has changed
pub record ShapesFrom (bs : List ℕ) (v : ℕ) (from : Rest) (tab tab' : Table) (r : Result (Unit {0}) Refusal) : Type 0 where
  pub answer : told r ≡ only (shapes_from bs v from)
  pub same : SameSheet tab tab'
  pub kept : (i : ℕ) → i < v → get_or tab'.bodies i 0 ≡ get_or tab.bodies i 0
  pub places : (s : Sheet) → shapes_from bs v from ≡ accepted s → PlacesFrom tab' v from.next s

-- after SHAPE
pub record BodiesPlaced (bs : List ℕ) (tab : Table) : Type 0 where
  pub prepared : Prepared bs tab
  pub shaped : shaped_of bs ≡ accepted (sheet_of bs)
  pub many : length (sheet_of bs) ≡ vars_of bs
  pub head_is : (v : ℕ) → v < vars_of bs → (variable (sheet_of bs) v).head ≡ get_or (heads_of bs) v no_head
  pub declared_is : (v : ℕ) → v < vars_of bs → (variable (sheet_of bs) v).declared ≡ of_variable v (raw_of bs).decls
  pub starts : (v : ℕ) → v < vars_of bs → get_or tab.bodies v 0 ≡ (variable (sheet_of bs) v).start
  pub ends : (v : ℕ) → v < vars_of bs → get_or tab.bodies (v + 1) 0 ≡ (variable (sheet_of bs) v).end
  pub body : (v : ℕ) → v < vars_of bs → is_input (variable (sheet_of bs) v) ≡ false → BodyStands bs (variable (sheet_of bs) v)

-- there is a variable v
pub record PlacedVariable (bs : List ℕ) (tab : Table) (v : ℕ) : Type 0 where
  pub placed : BodiesPlaced bs tab
  pub known : v < vars_of bs

-- the answer of SHAPE, and what it leaves where it passes
pub record ShapesAll (bs : List ℕ) (tab' : Table) (r : Result (Unit {0}) Refusal) : Type 0 where
  pub answer : told r ≡ only (shaped_of bs)
  pub placed : r ≡ Ok tt → BodiesPlaced bs tab'

-- after SHAPE, TYPE and REACH
pub record Formed (bs : List ℕ) (tab : Table) : Type 0 where
  pub placed : BodiesPlaced bs tab
  pub types : first TYPE (typed (heads_of bs)) 0 (sheet_of bs) ≡ accepted tt
  pub reaches : first REACH reached 0 (sheet_of bs) ≡ accepted tt
  pub typing : (v : ℕ) → v < vars_of bs → typed (heads_of bs) (variable (sheet_of bs) v) ≡ true
  pub reaching : (v : ℕ) → v < vars_of bs → reached (variable (sheet_of bs) v) ≡ true
  pub body_reach : (v : ℕ) → v < vars_of bs → is_input (variable (sheet_of bs) v) ≡ false → reach (variable (sheet_of bs) v).body top_reach ≡ true

-- the promise of the check of SHAPE, TYPE and REACH: refusals 7, 8 and 9 with their places, and what is known where there is none
pub record Forms (bs : List ℕ) (tab' : Table) (r : Result (Unit {0}) Refusal) : Type 0 where
  pub answer : told r ≡ forms_of bs
  pub formed : r ≡ Ok tt → Formed bs tab'
