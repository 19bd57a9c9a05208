-- TYPE of a tree, from its children up. Assumes nothing.
use mathlib.Core.Path.{sym, ap, ◌∙◌}
use native.Mathlib.Omega.{arith}
use Rattle.alpha.specs.Read.{unary_of, binary_of}
use Rattle.alpha.specs.declared.kind.Sort.TheVariants.{Boolean}
use Rattle.tree.specs.Classes.{operator_code}
use Rattle.tree.proofs.Classes.{noded-as, case-some, child-arity}
use Rattle.tree.proofs.Standings.{standing-noded, standing-some, standing-children, first-standing, rest-standing}
use Rattle.tree.proofs.Sorting.{leaf-typed, case-typed, child-typed}
use Rattle.tree.proofs.Sorting.{unary-typed, unary-mistyped, binary-typed, binary-mistyped, if-typed}
use Rattle.tree.proofs.Sorting.{unary-there, unary-arity, binary-there, binary-arity, if-arity}
use Rattle.tree.proofs.Sorting.{wanted-none, wanted-some, wanted-sort, wanted-ends, types-begin, types-none, types-end, types-stop, types-on, if-none, if-boolean}
use Rattle.tree.proofs.typing.+typing.Goals as goal

pub operator_type-node_end-next-requires : goal.operator_type-node_end-next-requires
operator_type-node_end-next-requires t c = standing-noded _ _ _ _ c.requires.1.stands

pub operator_type-operator_of-requires : goal.operator_type-operator_of-requires
operator_type-operator_of-requires t c =
    let h = c.requires.1 in
    record { noded = standing-noded _ _ _ _ h.stands; class_is = h.class_is }

pub operator_type-overflow_sub-left : goal.operator_type-overflow_sub-left
operator_type-overflow_sub-left t c = omega (arith, standing-some _ _ _ _ c.requires.1.stands)

pub operator_type-type_of-requires : goal.operator_type-type_of-requires
operator_type-type_of-requires t c =
    let is = c.decreases in
    let h = c.requires.1.stands in
    let some = standing-some _ _ _ _ h in
    let code = c.operator_of.ensures ∙ ap operator_code c.in-Unary.is in
    let below = standing-children _ _ _ _ h _ _ c.node_end-next.ensures (unary-arity _ _ code) in
    (omega arith, (c.requires.0, first-standing _ _ _ _ _ (omega arith) below))

pub operator_type-returns-in_err-t-in-Unary : goal.operator_type-returns-in_err-t-in-Unary
operator_type-returns-in_err-t-in-Unary t c =
    let none = c.from_residual.ensures in
    let code = c.operator_of.ensures ∙ ap operator_code c.in-Unary.is in
    rw none (unary-mistyped _ _ _ c.node_end-next.ensures code c.in_err-t-in-Unary.ensures)

pub operator_type-overflow_add-at : goal.operator_type-overflow_add-at
operator_type-overflow_add-at t c =
    let code = c.operator_of.ensures ∙ ap operator_code c.in-Unary.is in
    omega (arith, unary-there _ _ (standing-noded _ _ _ _ c.requires.1.stands) code)

pub operator_type-natural-requires : goal.operator_type-natural-requires
operator_type-natural-requires t c =
    let code = c.operator_of.ensures ∙ ap operator_code c.in-Unary.is in
    omega (arith, unary-there _ _ (standing-noded _ _ _ _ c.requires.1.stands) code)

pub operator_type-overflow_sub-left-in-Binary : goal.operator_type-overflow_sub-left-in-Binary
operator_type-overflow_sub-left-in-Binary t c = omega (arith, standing-some _ _ _ _ c.requires.1.stands)

pub operator_type-type_all-requires : goal.operator_type-type_all-requires
operator_type-type_all-requires t c =
    let is = c.decreases in
    let h = c.requires.1.stands in
    let some = standing-some _ _ _ _ h in
    let code = c.operator_of.ensures ∙ ap operator_code c.in-Binary.is in
    let below = standing-children _ _ _ _ h _ _ c.node_end-next.ensures (binary-arity _ _ code) in
    (omega arith, (c.requires.0, record { all = below; some = omega arith }))

pub operator_type-returns-in_err-t-in-Binary : goal.operator_type-returns-in_err-t-in-Binary
operator_type-returns-in_err-t-in-Binary t c =
    let none = c.from_residual-in_err-t-in-Binary.ensures in
    let code = c.operator_of.ensures ∙ ap operator_code c.in-Binary.is in
    rw none (binary-mistyped _ _ _ c.node_end-next.ensures code c.in_err-t-in-Binary.ensures)

pub operator_type-overflow_add-at-in-Binary : goal.operator_type-overflow_add-at-in-Binary
operator_type-overflow_add-at-in-Binary t c =
    let code = c.operator_of.ensures ∙ ap operator_code c.in-Binary.is in
    omega (arith, binary-there _ _ (standing-noded _ _ _ _ c.requires.1.stands) code)

pub operator_type-natural-requires-in-Binary : goal.operator_type-natural-requires-in-Binary
operator_type-natural-requires-in-Binary t c =
    let code = c.operator_of.ensures ∙ ap operator_code c.in-Binary.is in
    omega (arith, binary-there _ _ (standing-noded _ _ _ _ c.requires.1.stands) code)

pub operator_type-overflow_sub-left-in-If : goal.operator_type-overflow_sub-left-in-If
operator_type-overflow_sub-left-in-If t c = omega (arith, standing-some _ _ _ _ c.requires.1.stands)

pub operator_type-type_if-requires : goal.operator_type-type_if-requires
operator_type-type_if-requires t c =
    let is = c.decreases in
    let h = c.requires.1.stands in
    let some = standing-some _ _ _ _ h in
    let code = c.operator_of.ensures ∙ ap operator_code c.in-If.is in
    (omega arith, (c.requires.0, standing-children _ _ _ _ h _ _ c.node_end-next.ensures (if-arity _ _ code)))

pub operator_type-returns-in_ok-t-in-Unary : goal.operator_type-returns-in_ok-t-in-Unary
operator_type-returns-in_ok-t-in-Unary t c =
    let code = c.operator_of.ensures ∙ ap operator_code c.in-Unary.is in
    let says = c.in_ok-t-in-Unary.ensures in
    unary-typed _ _ _ c.node_end-next.ensures code _ says _ (c.from.ensures ∙ ap unary_of c.natural.ensures) _ c.unary_type.ensures

pub operator_type-returns-in_ok-t-in-Binary : goal.operator_type-returns-in_ok-t-in-Binary
operator_type-returns-in_ok-t-in-Binary t c =
    let code = c.operator_of.ensures ∙ ap operator_code c.in-Binary.is in
    let says = c.in_ok-t-in-Binary.ensures in
    binary-typed _ _ _ c.node_end-next.ensures code _ says _ (c.from-in-Binary.ensures ∙ ap binary_of c.natural-in-Binary.ensures) _ c.binary_type.ensures

pub operator_type-returns-in-If : goal.operator_type-returns-in-If
operator_type-returns-in-If t c =
    let code = c.operator_of.ensures ∙ ap operator_code c.in-If.is in
    if-typed _ _ _ c.node_end-next.ensures code _ c.type_if.ensures

pub type_all-type_of-requires : goal.type_all-type_of-requires
type_all-type_of-requires t c =
    let is = c.decreases in
    let h = c.requires in
    (omega arith, (h.0, first-standing _ _ _ _ _ h.1.some h.1.all))

pub type_all-returns-in_err-sort : goal.type_all-returns-in_err-sort
type_all-returns-in_err-sort t c =
    let none = c.from_residual.ensures in
    rw none (types-none _ c.args.left _ _ c.requires.1.some c.in_err-sort.ensures)

pub type_all-loop-init : goal.type_all-loop-init
type_all-loop-init t c = types-begin _ _ _ _ c.requires.1.some _ c.in_ok-sort.ensures c.requires.1.all

pub type_all-type_of-requires-in-loop : goal.type_all-type_of-requires-in-loop
type_all-type_of-requires-in-loop t c =
    let is = c.decreases in
    (omega arith, (c.requires.0, first-standing _ _ _ _ _ (omega arith) c.loop.invariant.stand))

pub type_all-returns-in_err-t : goal.type_all-returns-in_err-t
type_all-returns-in_err-t t c =
    let none = c.from_residual-in_err-t.ensures in
    rw none (types-stop _ _ _ _ _ _ c.loop.invariant (omega arith) (wanted-none _ _ c.in_ok-sort.field-0.sort c.in_err-t.ensures))

pub type_all-returns-in_err-next : goal.type_all-returns-in_err-next
type_all-returns-in_err-next t c =
    let none = c.from_residual-in_err-next.ensures in
    let says = wanted-some _ _ c.in_ok-sort.field-0.sort _ c.in_ok-t.ensures in
    rw none (types-stop _ _ _ _ _ _ c.loop.invariant (omega arith) (rw (sym c.wanted.ensures ∙ c.in_err-next.was) at says))

pub type_all-loop-preserved : goal.type_all-loop-preserved
type_all-loop-preserved t c =
    let says = wanted-some _ _ c.in_ok-sort.field-0.sort _ c.in_ok-t.ensures in
    let is = sym c.wanted.ensures ∙ c.in_ok-next.was in
    types-on _ _ _ _ _ _ c.loop.invariant (omega arith) _ (wanted-sort _ _ _ is) (rw is at says) _ (omega arith)

pub type_all-returns : goal.type_all-returns
type_all-returns t c = types-end _ _ _ _ _ _ c.loop.invariant (omega arith)

pub type_if-type_of-requires : goal.type_if-type_of-requires
type_if-type_of-requires t c =
    let is = c.decreases in
    let h = c.requires in
    (omega arith, (h.0, first-standing _ _ _ _ _ (omega arith) h.1))

pub type_if-returns-in_err-t : goal.type_if-returns-in_err-t
type_if-returns-in_err-t t c =
    let none = c.from_residual.ensures in
    rw none (if-none _ _ (wanted-none _ _ Boolean c.in_err-t.ensures))

pub type_if-returns-in_err-test : goal.type_if-returns-in_err-test
type_if-returns-in_err-test t c =
    let none = c.from_residual-in_err-test.ensures in
    let says = wanted-some _ _ Boolean _ c.in_ok-t.ensures in
    rw none (if-none _ _ (rw (sym c.wanted.ensures ∙ c.in_err-test.was) at says))

pub type_if-type_all-requires : goal.type_if-type_all-requires
type_if-type_all-requires t c =
    let is = c.decreases in
    let h = c.requires in
    let says = wanted-some _ _ Boolean _ c.in_ok-t.ensures in
    let ends = wanted-ends _ _ Boolean _ (rw (sym c.wanted.ensures ∙ c.in_ok-test.was) at says) in
    (omega arith, (h.0, record { all = rest-standing _ _ _ _ _ (omega arith) h.1 _ ends; some = omega arith }))

pub type_if-returns : goal.type_if-returns
type_if-returns t c =
    let says = wanted-some _ _ Boolean _ c.in_ok-t.ensures in
    if-boolean _ _ _ (rw (sym c.wanted.ensures ∙ c.in_ok-test.was) at says) _ c.type_all.ensures

pub type_of-node_end-after-requires : goal.type_of-node_end-after-requires
type_of-node_end-after-requires t c = standing-noded _ _ _ _ c.requires.1

pub type_of-class_of-requires : goal.type_of-class_of-requires
type_of-class_of-requires t c = standing-noded _ _ _ _ c.requires.1

pub type_of-leaf_sort-requires : goal.type_of-leaf_sort-requires
type_of-leaf_sort-requires t c =
    let h = c.requires in
    (h.0, noded-as _ _ (standing-noded _ _ _ _ h.1) _ _ c.class_of.ensures c.in-Leaf.is)

pub type_of-overflow_sub-left : goal.type_of-overflow_sub-left
type_of-overflow_sub-left t c = omega (arith, standing-some _ _ _ _ c.requires.1)

pub type_of-children-requires : goal.type_of-children-requires
type_of-children-requires t c = standing-noded _ _ _ _ c.requires.1

pub type_of-type_all-requires : goal.type_of-type_all-requires
type_of-type_all-requires t c =
    let is = c.decreases in
    let h = c.requires in
    let some = standing-some _ _ _ _ h.1 in
    let noded = noded-as _ _ (standing-noded _ _ _ _ h.1) _ _ c.class_of.ensures c.in-Case.is in
    let below = standing-children _ _ _ _ h.1 _ _ c.node_end-after.ensures c.children.ensures in
    (omega arith, (h.0, record { all = below; some = omega (arith, c.children.ensures, case-some _ _ noded) }))

pub type_of-returns-in-Leaf : goal.type_of-returns-in-Leaf
type_of-returns-in-Leaf t c =
    let class = sym c.class_of.ensures ∙ c.in-Leaf.is in
    leaf-typed _ _ _ c.node_end-after.ensures class _ c.leaf_sort.ensures

pub type_of-returns-in_err-type_all-in-Case : goal.type_of-returns-in_err-type_all-in-Case
type_of-returns-in_err-type_all-in-Case t c =
    let none = c.from_residual-in_err-type_all-in-Case.ensures in
    let class = sym c.class_of.ensures ∙ c.in-Case.is in
    rw none (case-typed _ _ _ c.node_end-after.ensures class _ c.children.ensures _ c.in_err-type_all-in-Case.ensures)

pub type_of-returns-in_ok-type_all-in-Case : goal.type_of-returns-in_ok-type_all-in-Case
type_of-returns-in_ok-type_all-in-Case t c =
    let class = sym c.class_of.ensures ∙ c.in-Case.is in
    case-typed _ _ _ c.node_end-after.ensures class _ c.children.ensures _ c.in_ok-type_all-in-Case.ensures

pub type_of-overflow_sub-left-in-Restriction : goal.type_of-overflow_sub-left-in-Restriction
type_of-overflow_sub-left-in-Restriction t c = omega (arith, standing-some _ _ _ _ c.requires.1)

pub type_of-type_of-requires : goal.type_of-type_of-requires
type_of-type_of-requires t c =
    let is = c.decreases in
    let h = c.requires in
    let some = standing-some _ _ _ _ h.1 in
    let class = c.class_of.ensures in
    let below = standing-children _ _ _ _ h.1 _ _ c.node_end-after.ensures (child-arity _ _ (standing-noded _ _ _ _ h.1) _ class c.in-Restriction.is) in
    (omega arith, (h.0, first-standing _ _ _ _ _ (omega arith) below))

pub type_of-returns-in_err-sort-in-Restriction : goal.type_of-returns-in_err-sort-in-Restriction
type_of-returns-in_err-sort-in-Restriction t c =
    let none = c.from_residual-in_err-sort-in-Restriction.ensures in
    rw none (child-typed _ _ _ c.node_end-after.ensures _ c.class_of.ensures c.in-Restriction.is _ c.in_err-sort-in-Restriction.ensures)

pub type_of-returns-in_ok-sort-in-Restriction : goal.type_of-returns-in_ok-sort-in-Restriction
type_of-returns-in_ok-sort-in-Restriction t c =
    child-typed _ _ _ c.node_end-after.ensures _ c.class_of.ensures c.in-Restriction.is _ c.in_ok-sort-in-Restriction.ensures
