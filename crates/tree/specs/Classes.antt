-- What kind of node each node is: the one classification that walks over nodes go by, in code and in proof. Assumes nothing.
use Rattle.std.specs.Prelude.{ℕ, List}
use Rattle.alpha.specs.Sheet.{Node}
use Rattle.alpha.specs.Sheet.{Node.n_var, Node.n_int, Node.n_bool, Node.n_unary, Node.n_binary, Node.n_if, Node.n_case, Node.n_restr, Node.n_dep}
use Rattle.laws.specs.At.{node_read}
use Rattle.laws.specs.Sheets.{vars_of}
use Rattle.tree.specs.declared.Class.{Class}
use Rattle.tree.specs.declared.Class.TheVariants.{Leaf, Operator, Case, Restriction, Dependence}
use Rattle.tree.specs.declared.LeafKind.{LeafKind}
use Rattle.tree.specs.declared.LeafKind.TheVariants.{Variable, Integer, Boolean}
use Rattle.tree.specs.declared.OperatorKind.{OperatorKind}
use Rattle.tree.specs.declared.OperatorKind.TheVariants.{Unary, Binary, If}

abbrev pub class_of : Node → Class
class_of (n_var v) = Leaf
class_of (n_int c) = Leaf
class_of (n_bool b) = Leaf
class_of (n_unary o) = Operator
class_of (n_binary o) = Operator
class_of n_if = Operator
class_of (n_case n) = Case
class_of (n_restr d cs) = Restriction
class_of (n_dep f) = Dependence

-- of the node that is read at p
abbrev pub class_at : List ℕ → ℕ → Class
class_at bs p = class_of (node_read (vars_of bs) bs p)

-- the code of each leaf, and of each operator
abbrev pub leaf_code : LeafKind → ℕ
leaf_code Variable = 0
leaf_code Integer = 1
leaf_code Boolean = 2

abbrev pub operator_code : OperatorKind → ℕ
operator_code Unary = 3
operator_code Binary = 4
operator_code If = 5
