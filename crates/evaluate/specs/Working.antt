-- Elements and expressions as things that are worked out, and what working one out answers, for every input list: the code holds no
-- list, since the memo has an entry for each input element from the start. Assumes nothing.
use Rattle.std.specs.Prelude.{◌≡◌, Result, Ok, Err, ℕ, ◌+◌, ◌≤◌, ◌<◌, true, false, List, [], length, get_or, ℤ}
use Rattle.alpha.specs.Field.{field}
use Rattle.alpha.specs.declared.Outcome as Declared
use Rattle.alpha.specs.declared.Outcome.TheVariants as Outcomes
use Rattle.alpha.specs.Sheet.{Expr, Sheet, Point}
use Rattle.alpha.specs.Box.{in_box}
use Rattle.alpha.specs.Shape.{fits}
use Rattle.alpha.specs.Read.{dimension}
use Rattle.alpha.specs.Holds.{variable, is_input, in_domain}
use Rattle.alpha.specs.Check.{Element, elements, total}
use Rattle.alpha.specs.Outcome.{eval, outcome}
use Rattle.alpha.specs.Ask.{number_of}
use Rattle.laws.specs.At.{code_of, node_read, node_end, At}
use Rattle.laws.specs.Sheets.{heads_of, vars_of, sheet_of}
use Rattle.affine.specs.Value.{point_of, Padded}
use Rattle.tree.specs.declared.Class.{Class}
use Rattle.tree.specs.declared.Class.TheVariants.{Leaf, Operator}
use Rattle.tree.specs.declared.LeafKind.{LeafKind}
use Rattle.tree.specs.declared.OperatorKind.{OperatorKind}
use Rattle.tree.specs.Classes.{class_at, leaf_code, operator_code}
use Rattle.domain.specs.declared.Standing.TheVariants.{Holds}
use Rattle.domain.specs.Standing.{standing}
use Rattle.domain.specs.Held.{Held}
use Rattle.evaluate.specs.declared.Stop.{Stop}
use Rattle.evaluate.specs.declared.Stop.TheVariants.{NoValue, Awaits}
use Rattle.evaluate.specs.declared.Worked.{Worked}
use Rattle.evaluate.specs.Memo.{unknown, Work, Thing, Elements, Memo, code_at, Right, Waits, Said, Kept, Wanted, Small}

-- the constant at p was read: its value is its second field's
pub record ConstantRead (bs : List ℕ) (p : ℕ) (r : Worked) : Type 0 where
  pub says : r.value ≡ field bs (p + 8)
  pub next : r.next ≡ node_end (vars_of bs) bs p

-- element number m of a sheet
abbrev pub element_at : Sheet → ℕ → Element
element_at s m = get_or (elements s) m (record { who = 0; at = [] })

-- the outcome of each element by depth, and of an expression at a point
abbrev pub outcomes : Sheet → List ℤ → Elements
outcomes s ins k m = outcome k s ins (element_at s m).who (element_at s m).at

abbrev pub expression : Sheet → List ℤ → Expr → Point → Thing
expression s ins e z k = eval e s (outcome k s ins) z

-- an element that is worked out by its body, which holds there without a clash
pub record Bodied (s : Sheet) (e : Element) : Type 0 where
  pub known : e.who < length s
  pub domain : in_domain (variable s e.who) e.at ≡ true
  pub no_input : is_input (variable s e.who) ≡ false
  pub clear : standing (variable s e.who).body s e.at ≡ Holds

-- a memo to work with: 4,096 entries, in which each element that is not settled has a body
pub record Ready (s : Sheet) (memo : Memo) : Type 0 where
  pub codes_long : length memo.codes ≡ 4096
  pub values_long : length memo.values ≡ 4096
  pub few : total s ≤ 4096
  pub low : (m : ℕ) → code_at memo m ≤ unknown
  pub opens : (m : ℕ) → m < total s → 4 < code_at memo m → Bodied s (element_at s m)

-- from one memo to the next, the thing f of each input list was worked out, with an answer
pub record WorksOut (s : Sheet) (memo last : Memo) (f : List ℤ → Thing) (r : Work) : Type 0 where
  pub kept : Kept memo last
  pub wanted : Wanted (total s) last r
  pub small : Small r
  pub said : (ins : List ℤ) → Right (outcomes s ins) (total s) memo → Waits (outcomes s ins) (total s) memo (f ins) →
      Said (outcomes s ins) (total s) last (f ins) r

-- z is the point of element e, of variable v
pub record ElementIs (bs : List ℕ) (v e : ℕ) (z : List ℤ) : Type 0 where
  pub known : v < vars_of bs
  pub in-box : in_box (variable (sheet_of bs) v).head.box (point_of (dimension (heads_of bs) v) z) ≡ true
  pub number : e ≡ number_of (sheet_of bs) v (point_of (dimension (heads_of bs) v) z)
  pub rest : Padded (dimension (heads_of bs) v) z

-- what working out an expression answers: its value's outcome, one that is no value, or the element that has to be worked out first
abbrev pub answer_of : Result Worked Stop → Work
answer_of (Ok w) = Ok (Outcomes.Value w.value)
answer_of (Err (NoValue o)) = Ok o
answer_of (Err (Awaits d)) = Err d

-- where an expression has a value, the next place is q; where it has none, its answer is no value's
pub record Ends (q : ℕ) (r : Result Worked Stop) : Type 0 where
  pub next : (w : Worked) → r ≡ Ok w → w.next ≡ q
  pub none : (s : Stop) → r ≡ Err s → (x : ℤ) → answer_of r ≡ Ok (Outcomes.Value x) → ⊥

-- the outcome o is given, and q is the next place
pub record Gives (o : Declared.Outcome) (q : ℕ) (r : Result Worked Stop) : Type 0 where
  pub answer : answer_of r ≡ Ok o
  pub ends : Ends q r

-- an expression that ends at q was worked out
pub record Evaluated (bs : List ℕ) (e : Expr) (q : ℕ) (z : Point) (memo last : Memo) (r : Result Worked Stop) : Type 0 where
  pub done : WorksOut (sheet_of bs) memo last (λ ins. expression (sheet_of bs) ins e z) (answer_of r)
  pub ends : Ends q r

-- the tree at p was worked out at z
abbrev pub EvaluatesAt : List ℕ → ℕ → List ℤ → Memo → Memo → Result Worked Stop → Type 0
EvaluatesAt bs p z memo last r =
    (e : Expr) (q n : ℕ) → At e (vars_of bs) bs p q → fits e (heads_of bs) n ≡ true → Evaluated bs e q (point_of n z) memo last r

-- ---- what the evaluators require of the place and the point, besides that a tree holds there: that its node is of a class,
pub record HeldAs (class : Class) (bs : List ℕ) (p left : ℕ) (z : List ℤ) : Type 0 where
  pub held : Held bs p left z
  pub class_is : class_at bs p ≡ class

-- a leaf of that kind,
pub record HeldLeaf (kind : LeafKind) (bs : List ℕ) (p left : ℕ) (z : List ℤ) : Type 0 where
  pub leaf : HeldAs Leaf bs p left z
  pub code_is : code_of (node_read (vars_of bs) bs p) ≡ leaf_code kind

-- an operator of that kind
pub record HeldOperator (kind : OperatorKind) (bs : List ℕ) (p left : ℕ) (z : List ℤ) : Type 0 where
  pub operator : HeldAs Operator bs p left z
  pub code_is : code_of (node_read (vars_of bs) bs p) ≡ operator_code kind
