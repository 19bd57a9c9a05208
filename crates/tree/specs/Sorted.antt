-- What the walk that judges TYPE answers: the tree's type with the place after it, or that a type rule is broken. Assumes nothing.
use Rattle.std.specs.Prelude.{◌≡◌, ℕ, List, Option, Some, None}
use Rattle.std.proofs.Math.Option.{some}
use Rattle.std.proofs.Math.Option as Maybe
use Rattle.alpha.specs.Sheet.{Sort, Sort.integer, Sort.boolean, Expr, Exprs, Expr.ite, Exprs.none, Exprs.more}
use Rattle.alpha.specs.Typing.{agree, type_of, types_of}
use Rattle.alpha.specs.Written.{branch_count}
use Rattle.laws.specs.At.{At, AllAt}
use Rattle.laws.specs.Sheets.{heads_of, vars_of}
use Rattle.alpha.specs.declared.kind.Sort as Code
use Rattle.alpha.specs.declared.kind.Sort.TheVariants.{Integer, Boolean}
use Rattle.alpha.specs.Kinds.{sort_meant}
use Rattle.tree.specs.declared.Typed.{Typed}

-- a type, or none, of what ends at q
abbrev pub typed_at : Maybe.Option Sort → ℕ → Option Typed
typed_at (some integer) q = Some (record { sort = Integer; next = q })
typed_at (some boolean) q = Some (record { sort = Boolean; next = q })
typed_at Maybe.Option.none q = None

-- t, where its type is the wanted one
abbrev pub wanted : Typed → Code.Sort → Option Typed
wanted t x = typed_at (agree (some (sort_meant x)) (some (sort_meant t.sort))) t.next

-- r is the type of each if whose parts stand from p on
abbrev pub IfAt : List ℕ → ℕ → Option Typed → Type 0
IfAt bs p r = (a b c : Expr) (q : ℕ) → AllAt (more a (more b (more c none))) (vars_of bs) bs p q → r ≡ typed_at (type_of (ite a b c) (heads_of bs)) q

-- t is the type of each tree that stands from p on
abbrev pub TreeTyped : List ℕ → ℕ → Option Typed → Type 0
TreeTyped bs p t = (e : Expr) (q : ℕ) → At e (vars_of bs) bs p q → t ≡ typed_at (type_of e (heads_of bs)) q

-- t is the type that each n trees have which stand from p on
abbrev pub TreesTyped : List ℕ → ℕ → ℕ → Option Typed → Type 0
TreesTyped bs p n t = (es : Exprs) (q : ℕ) → AllAt es (vars_of bs) bs p q → branch_count es ≡ n → t ≡ typed_at (types_of es (heads_of bs)) q

-- x is the type of each leaf that stands at p
abbrev pub LeafTyped : List ℕ → ℕ → Code.Sort → Type 0
LeafTyped bs p x = (e : Expr) (q : ℕ) → At e (vars_of bs) bs p q → type_of e (heads_of bs) ≡ some (sort_meant x)
