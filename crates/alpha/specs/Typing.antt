-- TYPE, refusal 8: the type of an expression, or none where a type rule is broken.
-- Assumes nothing.
use Rattle.std.specs.Prelude.{Bool, true, false, List, get_or}
use Rattle.std.proofs.Math.Option.{Option, Option.none, some}
use Rattle.alpha.specs.Sheet.{Sort, Sort.integer, Sort.boolean, Unary, Binary, Head, Expr, Exprs}
use Rattle.alpha.specs.Sheet.{Expr.var, Expr.int, Expr.boo, Expr.un, Expr.bin, Expr.ite, Expr.kase, Expr.restr, Expr.dep, Exprs.none, Exprs.more}
use Rattle.alpha.specs.Sheet.{Unary.negate, Unary.complement, Binary.plus, Binary.minus, Binary.times, Binary.quot, Binary.rem, Binary.least, Binary.most, Binary.same, Binary.differ, Binary.under, Binary.up_to, Binary.over, Binary.from, Binary.both, Binary.either, Binary.one}
use Rattle.alpha.specs.Read.{no_head}

-- the type that both have, if they have one
abbrev pub agree : Option Sort → Option Sort → Option Sort
agree (some integer) (some integer) = some integer
agree (some integer) (some boolean) = Option.none
agree (some integer) Option.none = Option.none
agree (some boolean) (some integer) = Option.none
agree (some boolean) (some boolean) = some boolean
agree (some boolean) Option.none = Option.none
agree Option.none y = Option.none

-- t where the operands have a type
abbrev pub giving : Option Sort → Sort → Option Sort
giving (some s) t = some t
giving Option.none t = Option.none

abbrev pub integers : Option Sort → Option Sort
integers a = agree (some integer) a

abbrev pub booleans : Option Sort → Option Sort
booleans a = agree (some boolean) a

-- what an operator gives for operands of one type: arithmetic, min and max take integers; order relations take integers and give
-- a boolean; = and <> take any one type and give a boolean; and, or, xor and not take booleans
abbrev pub unary_sort : Unary → Option Sort → Option Sort
unary_sort negate a = integers a
unary_sort complement a = booleans a

abbrev pub binary_sort : Binary → Option Sort → Option Sort
binary_sort plus a = integers a
binary_sort minus a = integers a
binary_sort times a = integers a
binary_sort quot a = integers a
binary_sort rem a = integers a
binary_sort least a = integers a
binary_sort most a = integers a
binary_sort same a = giving a boolean
binary_sort differ a = giving a boolean
binary_sort under a = giving (integers a) boolean
binary_sort up_to a = giving (integers a) boolean
binary_sort over a = giving (integers a) boolean
binary_sort from a = giving (integers a) boolean
binary_sort both a = booleans a
binary_sort either a = booleans a
binary_sort one a = booleans a

-- an if takes a boolean and two of one type
abbrev pub if_sort : Option Sort → Option Sort → Option Sort
if_sort (some boolean) t = t
if_sort (some integer) t = Option.none
if_sort Option.none t = Option.none

unfoldable mutual
  pub type_of : Expr → List Head → Option Sort
  type_of (var v) hs = some (get_or hs v no_head).sort
  type_of (int c) hs = some integer
  type_of (boo b) hs = some boolean
  type_of (un o a) hs = unary_sort o (type_of a hs)
  type_of (bin o a b) hs = binary_sort o (agree (type_of a hs) (type_of b hs))
  type_of (ite a b c) hs = if_sort (type_of a hs) (agree (type_of b hs) (type_of c hs))
  type_of (kase es) hs = types_of es hs
  type_of (restr d cs a) hs = type_of a hs
  type_of (dep f a) hs = type_of a hs

  -- the type that all branches have
  pub types_of : Exprs → List Head → Option Sort
  types_of none hs = Option.none
  types_of (more e es) hs = agreeing es hs (type_of e hs)

  pub agreeing : Exprs → List Head → Option Sort → Option Sort
  agreeing none hs s = s
  agreeing (more e es) hs s = agreeing es hs (agree s (type_of e hs))

-- a type is there, and it is the one wanted
abbrev pub is_sort : Sort → Option Sort → Bool
is_sort integer (some integer) = true
is_sort integer (some boolean) = false
is_sort integer Option.none = false
is_sort boolean (some integer) = false
is_sort boolean (some boolean) = true
is_sort boolean Option.none = false
