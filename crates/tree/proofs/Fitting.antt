-- What the walk that judges SHAPE says of one node: whether it may stand where so many dimensions are wanted, and how many are wanted of its
-- children, by its class. Assumes nothing.
use mathlib.Core.Path.{◌≡◌, sym, ap, ◌∙◌}
use Prim.Native.Nat.{ℕ, ◌+◌, ◌<◌}
use native.Mathlib.Omega.{arith}
use mathlib.Core.List.{List}
use mathlib.Core.Logic.{◌⊎◌, inl, inr}
use lib.IntN.{nat_abs}
use lib.Dec.{eqb}
use Rattle.alpha.specs.Field.{field}
use Rattle.alpha.specs.Sheet.{Node, Head}
use Rattle.alpha.specs.Read.{dimension}
use Rattle.laws.specs.At.{code_of, node_read}
use Rattle.laws.specs.Children.{fits_here, wanted}
use Rattle.laws.specs.Sheets.{vars_of}
use Rattle.laws.proofs.Readers.{counted_is}
use Rattle.laws.proofs.Nodes.{NodeAt}
use Rattle.tree.specs.declared.Class.{Class}
use Rattle.tree.specs.declared.Class.TheVariants.{Restriction, Dependence}
use Rattle.tree.specs.Classes.{class_at}
use Rattle.tree.specs.Standing.{Noded, NodedAs}
use Rattle.tree.proofs.Classes.{restriction-node, dependence-node, node-here}
use Rattle.tree.proofs.Noding.{node_of}

module _ (bs : List ℕ) (p : ℕ) where
  abbrev nd : Node
  nd = node_read (vars_of bs) bs p

  -- ---- a variable

  number-known : (nd : Node) → NodeAt (vars_of bs) bs p nd → code_of nd ≡ 0 → 0 < vars_of bs → nat_abs (field bs (p + 8)) < vars_of bs
  number-known nd h e some = let v = node_of nd 0 e in let f = (rw v.1 at h).fields in omega (arith, counted_is f, f.high)

  pub variable-known : Noded (vars_of bs) bs p → code_of nd ≡ 0 → 0 < vars_of bs → nat_abs (field bs (p + 8)) < vars_of bs
  variable-known h e some = number-known nd (node-here bs p h) e some

  module _ (hs : List Head) (n : ℕ) where
    dims-of : (nd : Node) → NodeAt (vars_of bs) bs p nd → code_of nd ≡ 0 → eqb (dimension hs (nat_abs (field bs (p + 8)))) n ≡ fits_here nd hs n
    dims-of nd h e = let v = node_of nd 0 e in rw v.1 (ap (λ x. eqb (dimension hs x) n) (sym (counted_is (rw v.1 at h).fields)))

    pub variable-fits : Noded (vars_of bs) bs p → code_of nd ≡ 0 → eqb (dimension hs (nat_abs (field bs (p + 8)))) n ≡ fits_here nd hs n
    variable-fits h e = dims-of nd (node-here bs p h) e

    -- ---- every other node

    abbrev AsField : Node → Type 0
    AsField nd = NodeAt (vars_of bs) bs p nd → eqb (nat_abs (field bs (p + 8))) n ≡ fits_here nd hs n

    pub wide-fits : Noded (vars_of bs) bs p → (x : Class) → x ≡ class_at bs p → (x ≡ Restriction) ⊎ (x ≡ Dependence) →
        eqb (nat_abs (field bs (p + 8))) n ≡ fits_here nd hs n
    wide-fits h x told (inl r) =
        restriction-node AsField (λ d cs at. ap (λ x. eqb x n) (sym (counted_is at.fields.dim))) nd (sym told ∙ r) (node-here bs p h)
    wide-fits h x told (inr d) =
        dependence-node AsField (λ f at. ap (λ x. eqb x n) (sym (counted_is at.fields.width))) nd (sym told ∙ d) (node-here bs p h)

  -- ---- what is wanted of the children

  module _ (n : ℕ) where
    pub dependence-wants : NodedAs bs p Dependence → nat_abs (field bs (p + 16)) ≡ wanted nd n
    dependence-wants h =
        dependence-node (λ nd. NodeAt (vars_of bs) bs p nd → nat_abs (field bs (p + 16)) ≡ wanted nd n) (λ f at. sym (counted_is at.fields.many))
        nd h.class_is (node-here bs p h.noded)
