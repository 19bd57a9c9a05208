-- A node's class, and which leaf or operator it is, from the number in its code field. Assumes nothing.
use mathlib.Core.Path.{◌≡◌, refl, subst}
use Prim.Native.Nat.{ℕ, ◌≤◌}
use native.Mathlib.Omega.{arith}
use mathlib.Core.List.{List, [], ◌∷◌}
use lib.ListN.{get_or}
use lib.IntN.{ℤ}
use Rattle.alpha.specs.Sheet.{Unary, Binary, Constraint, Map, Node}
use Rattle.alpha.specs.Sheet.{Node.n_var, Node.n_int, Node.n_bool, Node.n_unary, Node.n_binary, Node.n_if, Node.n_case, Node.n_restr, Node.n_dep}
use Rattle.laws.specs.At.{code_of}
use Rattle.tree.specs.declared.Class.TheVariants.{Leaf, Operator, Case, Restriction, Dependence}
use Rattle.tree.specs.Classes.{class_of}
use Rattle.tree.proofs.Classes.{leaf-node, operator-node}

-- ---- the node that goes with a code

abbrev pub Coded : Node → ℕ → Type 0
Coded nd code =
    get_or (
    ((v : ℕ) × (nd ≡ n_var v)) ∷ ((c : ℤ) × (nd ≡ n_int c)) ∷ ((b : ℕ) × (nd ≡ n_bool b)) ∷ ((o : Unary) × (nd ≡ n_unary o)) ∷
    ((o : Binary) × (nd ≡ n_binary o)) ∷
    (nd ≡ n_if) ∷ ((n : ℕ) × (nd ≡ n_case n)) ∷ ((d : ℕ) × (cs : List Constraint) × (nd ≡ n_restr d cs)) ∷ ((f : Map) × (nd ≡ n_dep f)) ∷ []) code ⊥

coded-self : (nd : Node) → Coded nd (code_of nd)
coded-self (n_var v) = (v, refl)
coded-self (n_int c) = (c, refl)
coded-self (n_bool b) = (b, refl)
coded-self (n_unary o) = (o, refl)
coded-self (n_binary o) = (o, refl)
coded-self n_if = refl
coded-self (n_case n) = (n, refl)
coded-self (n_restr d cs) = (d, cs, refl)
coded-self (n_dep f) = (f, refl)

pub node_of : (nd : Node) (code : ℕ) → code_of nd ≡ code → Coded nd code
node_of nd code e = subst (Coded nd) e (coded-self nd)

-- ---- the class of a code

pub leaf-coded : (nd : Node) → code_of nd ≤ 2 → Leaf ≡ class_of nd
leaf-coded (n_var v) h = refl
leaf-coded (n_int c) h = refl
leaf-coded (n_bool b) h = refl
leaf-coded (n_unary o) h = absurd (omega arith)
leaf-coded (n_binary o) h = absurd (omega arith)
leaf-coded n_if h = absurd (omega arith)
leaf-coded (n_case n) h = absurd (omega arith)
leaf-coded (n_restr d cs) h = absurd (omega arith)
leaf-coded (n_dep f) h = absurd (omega arith)

pub operator-coded : (nd : Node) → 3 ≤ code_of nd → code_of nd ≤ 5 → Operator ≡ class_of nd
operator-coded (n_var v) l h = absurd (omega arith)
operator-coded (n_int c) l h = absurd (omega arith)
operator-coded (n_bool b) l h = absurd (omega arith)
operator-coded (n_unary o) l h = refl
operator-coded (n_binary o) l h = refl
operator-coded n_if l h = refl
operator-coded (n_case n) l h = absurd (omega arith)
operator-coded (n_restr d cs) l h = absurd (omega arith)
operator-coded (n_dep f) l h = absurd (omega arith)

pub case-coded : (nd : Node) → code_of nd ≡ 6 → Case ≡ class_of nd
case-coded nd e = let w = node_of nd 6 e in rw w.1

pub restriction-coded : (nd : Node) → code_of nd ≡ 7 → Restriction ≡ class_of nd
restriction-coded nd e = let w = node_of nd 7 e in rw w.2

pub dependence-coded : (nd : Node) → code_of nd ≡ 8 → Dependence ≡ class_of nd
dependence-coded nd e = let w = node_of nd 8 e in rw w.1

-- no code is higher
pub code-most : (nd : Node) → code_of nd ≤ 8
code-most (n_var v) = omega arith
code-most (n_int c) = omega arith
code-most (n_bool b) = omega arith
code-most (n_unary o) = omega arith
code-most (n_binary o) = omega arith
code-most n_if = omega arith
code-most (n_case n) = omega arith
code-most (n_restr d cs) = omega arith
code-most (n_dep f) = omega arith

-- ---- the codes of a class

pub leaf-code : (nd : Node) → class_of nd ≡ Leaf → code_of nd ≤ 2
leaf-code = leaf-node (λ nd. code_of nd ≤ 2) (λ v. omega arith) (λ c. omega arith) (λ b. omega arith)

pub operator-low : (nd : Node) → class_of nd ≡ Operator → 3 ≤ code_of nd
operator-low = operator-node (λ nd. 3 ≤ code_of nd) (λ o. omega arith) (λ o. omega arith) (omega arith)

pub operator-high : (nd : Node) → class_of nd ≡ Operator → code_of nd ≤ 5
operator-high = operator-node (λ nd. code_of nd ≤ 5) (λ o. omega arith) (λ o. omega arith) (omega arith)
