-- The evaluators of `evaluate::Evaluator` meet their contracts, together: each answer is the definition's outcome. The measure is the
-- remaining depth, and then the remaining nodes. Each answer cites one law: the ways through a node (proofs/Ways.antt), its operands or its
-- child (proofs/Operands.antt), and elements with their bodies (proofs/Elements.antt). Assumes nothing.
use Rattle.std.proofs.Common.{inl, inr}
use Rattle.std.proofs.lemmas.Result.{err_from_is_err_and}
use mathlib.Core.Path.{sym, ap, ◌∙◌, subst}
use Prim.Native.Nat.{ℕ, ◌+◌, ◌≤◌}
use native.Mathlib.Omega.{arith}
use lib.IntN.{pos}
use Rattle.laws.specs.Sheets.{sheet_of}
use Rattle.tree.specs.declared.Class.TheVariants.{Leaf, Dependence}
use Rattle.tree.specs.Classes.{leaf_code}
use Rattle.tree.specs.Standing.{NodedAs}
use Rattle.tree.proofs.Classes.{leaf-there, dependence-fields}
use Rattle.alpha.specs.Read.{unary_of, binary_of}
use Rattle.std.proofs.Common.{rules}
use Rattle.integer.proofs.Complement.{bits-zero}
use Rattle.integer.proofs.Machine.{small-same, small_held}
use Rattle.tree.proofs.Sorting.{unary-there, binary-there}
use Rattle.domain.proofs.Walks.{map-stands, image-fits}
use Rattle.domain.proofs.Carried.{held-restricted, held-image}
use Rattle.domain.proofs.Records.{VariableLaid, laid-variable}
use Rattle.evaluate.specs.Memo as Memo
use Rattle.evaluate.specs.Memo.{busy, memo_of, noted}
use Rattle.evaluate.specs.Working.{outcomes, WorksOut, EvaluatesAt}
use Rattle.evaluate.proofs.Doing.{ready-kept}
use Rattle.evaluate.proofs.Operands.{held-noded, held-some}
use Rattle.evaluate.proofs.Operands.{only-operand, left-operand, right_operand, test-operand, first-arm, second-arm}
use Rattle.evaluate.proofs.Operands.{small-value, operand-ends}
use Rattle.evaluate.proofs.Grounded.{on_ground, held-on, evaluates-on, same_twice}
use Rattle.evaluate.proofs.Ways.{integer-at, boolean-at, constant-way, one-back, one_way, left_back, right-back, two-way}
use Rattle.evaluate.proofs.Ways.{test_back, first_back, second_back, three-way, branch-back, branch-way, restriction-way, image-way}
use Rattle.evaluate.proofs.Elements.{element-low, had-answer, late-code, ready_marked, open-held, body-done, worked-way}
use Rattle.evaluate.proofs.Elements.{number-known, off-way, named-element, number-few, variable-way, variable-awaits}
use Rattle.evaluate.proofs.Evaluator.+branch_dependence_element_expression_leaf_one_operator_restriction_three_two_variable.Goals.{element-then-is_ok-via-then-is_ok, element-then-is_ok-via-else-is_ok+then-depth-eq0}
use Rattle.evaluate.proofs.Evaluator.+branch_dependence_element_expression_leaf_one_operator_restriction_three_two_variable.Goals.{dependence-Start, element-After-expression, element-After-note, element-Else-is_ok}
use Rattle.evaluate.proofs.Evaluator.+branch_dependence_element_expression_leaf_one_operator_restriction_three_two_variable.Goals.{leaf-Start, variable-After-natural-v, variable-Start}
use Rattle.evaluate.proofs.Evaluator.+branch_dependence_element_expression_leaf_one_operator_restriction_three_two_variable.Goals as goal

-- a dependence's fields are there
dependence-noded : (t : ℕ) (c : dependence-Start t) → NodedAs c.args.self.now.ground.sheet.now c.args.at Dependence
dependence-noded t c =
    let node = c.requires.1 in record { noded = held-noded _ _ _ _ node.held; class_is = node.class_is }

-- a leaf's node was read
leaf-noded : (t : ℕ) (c : leaf-Start t) → NodedAs c.args.self.now.ground.sheet.now c.args.at Leaf
leaf-noded t c =
    let node = c.requires.1 in record { noded = held-noded _ _ _ _ node.held; class_is = node.class_is }

-- its fields are there, and the number in the second is a variable's
variable-there : (t : ℕ) (c : variable-Start t) → NodedAs c.args.self.now.ground.sheet.now c.args.at Leaf
variable-there t c =
    let leaf = c.requires.1.leaf in record { noded = held-noded _ _ _ _ leaf.held; class_is = leaf.class_is }

variable-laid : (t : ℕ) (c : variable-After-natural-v t) → VariableLaid c.args.self.now.ground.sheet.now c.args.self.now.ground.table.now c.natural-v.result
variable-laid t c =
    let p = c.requires in
    laid-variable _ _ p.0.placed _ (number-known _ _ p.0 _ _ _ p.1 _ c.natural-v.ensures)

-- what was worked out of the body, from the memo in which the element is marked
element-body : (t : ℕ) (c : element-After-expression t) → EvaluatesAt c.args.self.now.ground.sheet.now c.body_place-at.result c.args.z
    (noted (memo_of c.args.self.now.memo.now) c.args.e busy (pos 0)) (memo_of c.expression.new.self.memo.now) c.expression.result
element-body t c =
    subst (λ m. EvaluatesAt c.args.self.now.ground.sheet.now c.body_place-at.result c.args.z m (memo_of c.expression.new.self.memo.now) c.expression.result)
    c.mark.ensures c.expression.ensures.done

-- the memo has no outcome of the element
element-late : (t : ℕ) (c : element-Else-is_ok t) → Memo.unknown ≤ Memo.code_at (memo_of c.args.self.now.memo.now) c.args.e
element-late t c =
    let p = c.requires in
    late-code _ _ p.0 _ _ _ p.1 _ c.args.self.now.ready _ c.known-had.ensures (sym c.if-is_ok.ensures.value)

-- what was stored of it
element-worked : (t : ℕ) (c : element-After-note t) → WorksOut (sheet_of c.args.self.now.ground.sheet.now) (memo_of c.args.self.now.memo.now)
    (memo_of c.note.new.memo) (λ ins. Memo.element (outcomes (sheet_of c.args.self.now.ground.sheet.now) ins) c.args.e) c.answer_of-r.result
element-worked t c =
    let p = c.requires in
    let late = element-late t (goal.at.element-invariant_of-self-3-clause-ready t c).Else-is_ok in
    let body = element-body t (goal.at.element-invariant_of-self-3-clause-ready t c).After-expression in
    let worked =
    worked-way _ _ p.0 _ _ _ p.1 _ c.args.self.now.ready late _ c.body_place-at.ensures _ _ body _ c.answer_of-r.ensures in
    rw c.note.ensures worked

pub branch-expression-requires : goal.branch-expression-requires
branch-expression-requires t c =
    let is = c.decreases in
    let some = held-some _ _ _ _ c.requires.1.held in
    (omega arith, (c.requires.0, c.holding-taken.ensures.held))

pub branch-overflow_sub-n : goal.branch-overflow_sub-n
branch-overflow_sub-n t c = omega (arith, held-some _ _ _ _ c.requires.1.held)

pub branch-returns-clause-done : goal.branch-returns-clause-done
branch-returns-clause-done t c =
    let small = small-value _ _ _ _ c.holding-taken.ensures.held _ _ _ c.in_ok-r.ensures.done in
    let end = rw c.in_ok-r.ensures.same.ground at c.end_of-end.ensures in
    rw (small-same c.in_ok-r.r.value small)
    (branch-way _ _ c.args.z _ c.requires.1.class_is _ c.holding-taken.ensures _ _ _ c.in_ok-r.ensures.done _ end)

pub branch-returns-in_err-r-clause-done : goal.branch-returns-in_err-r-clause-done
branch-returns-in_err-r-clause-done t c =
    let back = err_from_is_err_and c.from_residual.result c.from_residual.ensures.1 in
    rw (back.1, back.2) (branch-back _ _ c.args.z _ c.requires.1.class_is _ c.holding-taken.ensures _ _ _ c.in_err-r.ensures.done)

pub dependence-expression-requires : goal.dependence-expression-requires
dependence-expression-requires t c =
    let is = c.decreases in
    let node = c.requires.1 in
    let some = held-some _ _ _ _ node.held in
    let image = c.image_at-y.ensures in
    let next = c.node_end-child.ensures in
    (omega arith, (c.requires.0, held-image _ _ _ _ node.held _ next node.class_is _ image.read _ image.is image.rest))

pub dependence-image_at-y-requires : goal.dependence-image_at-y-requires
dependence-image_at-y-requires t c =
    let node = c.requires.1 in
    (map-stands _ _ _ _ node.held.walk node.class_is, image-fits _ _ _ _ node.held.walk node.class_is)

pub dependence-node_end-child-requires : goal.dependence-node_end-child-requires
dependence-node_end-child-requires t c = held-noded _ _ _ _ c.requires.1.held

pub dependence-overflow_add-at : goal.dependence-overflow_add-at
dependence-overflow_add-at t c =
    omega (arith, (dependence-fields _ _ (dependence-noded t (goal.at.dependence-overflow_add-at t c).Start)).there)

pub dependence-overflow_sub-n : goal.dependence-overflow_sub-n
dependence-overflow_sub-n t c = omega (arith, held-some _ _ _ _ c.requires.1.held)

pub dependence-returns-clause-done : goal.dependence-returns-clause-done
dependence-returns-clause-done t c =
    let image = c.image_at-y in
    image-way _ _ c.args.z c.requires.1.class_is _ c.node_end-child.ensures image.result image.ensures _ _ _
    c.expression.ensures.done

pub element-body_place-at-requires : goal.element-body_place-at-requires
element-body_place-at-requires t c =
    let p = c.requires in
    omega (arith, (laid-variable _ _ p.0.placed _ p.1.known).low)

pub element-expression-requires : goal.element-expression-requires
element-expression-requires t c =
    let p = c.requires in
    let is = c.decreases in
    let some = c.if-depth-eq0.false in
    let late = element-late t (goal.at.element-expression-requires t c).Else-is_ok in
    let held = open-held _ _ p.0 _ _ _ p.1 _ c.args.self.now.ready late _ c.body_place-at.ensures in
    (omega arith, (p.0, held))

pub element-known-had-requires : goal.element-known-had-requires
element-known-had-requires t c =
    let p = c.requires in
    omega (arith, element-low _ _ p.0 _ _ _ p.1, c.args.self.now.ready.few)

pub element-mark-requires : goal.element-mark-requires
element-mark-requires t c =
    let p = c.requires in
    omega (arith, element-low _ _ p.0 _ _ _ p.1, c.args.self.now.ready.few)

pub element-note-requires : goal.element-note-requires
element-note-requires t c =
    let p = c.requires in
    let late = element-late t (goal.at.element-note-requires t c).Else-is_ok in
    let place = c.body_place-at.ensures in
    let worked = element-body t (goal.at.element-note-requires t c).After-expression in
    let body = body-done _ _ p.0 _ _ _ p.1 _ c.args.self.now.ready late _ place _ _ worked _ c.answer_of-r.ensures in
    (omega (arith, element-low _ _ p.0 _ _ _ p.1, c.args.self.now.ready.few), body.small)

pub element-returns-clause-done : goal.element-returns-clause-done
element-returns-clause-done t c = element-worked t (goal.at.element-returns-clause-done t c).After-note

pub element-returns-then-is_ok-clause-done : goal.element-returns-then-is_ok-clause-done
element-returns-then-is_ok-clause-done t c =
    let p = c.requires in
    let had = had-answer _ _ p.0 _ _ _ p.1 _ c.args.self.now.ready _ c.known-had.ensures in
    elim c.then-is_ok.branch [
      | element-then-is_ok-via-then-is_ok w ↦ rw w.self-is had
      | element-then-is_ok-via-else-is_ok+then-depth-eq0 w ↦ rw w.self-is had
    ]

pub element-invariant_of-self-2-clause-ready : goal.element-invariant_of-self-2-clause-ready
element-invariant_of-self-2-clause-ready t c =
    let p = c.requires in
    let late = element-late t (goal.at.element-invariant_of-self-2-clause-ready t c).Else-is_ok in
    rw c.mark.ensures (ready_marked _ _ p.0 _ _ _ p.1 _ c.args.self.now.ready late)

pub element-invariant_of-self-3-clause-ready : goal.element-invariant_of-self-3-clause-ready
element-invariant_of-self-3-clause-ready t c =
    let worked = element-worked t (goal.at.element-invariant_of-self-3-clause-ready t c).After-note in
    rw c.expression.ensures.same.ground (ready-kept _ _ _ c.args.self.now.ready worked.kept)

pub expression-class_of-class-requires : goal.expression-class_of-class-requires
expression-class_of-class-requires t c = held-noded _ _ _ _ c.requires.1

pub leaf-constant-requires : goal.leaf-constant-requires
leaf-constant-requires t c = leaf-noded t (goal.at.leaf-constant-requires t c).Start

pub leaf-leaf_of-kind-requires : goal.leaf-leaf_of-kind-requires
leaf-leaf_of-kind-requires t c = leaf-noded t (goal.at.leaf-leaf_of-kind-requires t c).Start

pub leaf-returns-in-Integer-clause-done : goal.leaf-returns-in-Integer-clause-done
leaf-returns-in-Integer-clause-done t c =
    let code = c.leaf_of-kind.ensures in
    elim c.in-Integer.is [
      | inl is ↦ constant-way _ _ c.args.z (integer-at _ _ c.args.z (code ∙ ap leaf_code is)) _ _ c.constant.ensures
      | inr is ↦ constant-way _ _ c.args.z (boolean-at _ _ c.args.z (code ∙ ap leaf_code is)) _ _ c.constant.ensures
    ]

pub one-expression-requires : goal.one-expression-requires
one-expression-requires t c =
    let is = c.decreases in
    let node = c.requires.1 in
    let next = c.node_end-from.ensures in
    let some = held-some _ _ _ _ node.operator.held in
    (omega arith, (c.requires.0, only-operand _ _ _ _ _ next node))

pub one-natural-requires : goal.one-natural-requires
one-natural-requires t c =
    let node = c.requires.1 in
    omega (arith, unary-there _ _ (held-noded _ _ _ _ node.operator.held) node.code_is)

pub one-node_end-from-requires : goal.one-node_end-from-requires
one-node_end-from-requires t c = held-noded _ _ _ _ c.requires.1.operator.held

pub one-overflow_add-at : goal.one-overflow_add-at
one-overflow_add-at t c =
    let node = c.requires.1 in
    omega (arith, unary-there _ _ (held-noded _ _ _ _ node.operator.held) node.code_is)

pub one-overflow_sub-n : goal.one-overflow_sub-n
one-overflow_sub-n t c =
    let node = c.requires.1 in
    omega (arith, held-some _ _ _ _ node.operator.held)

pub one-returns-clause-done : goal.one-returns-clause-done
one-returns-clause-done t c =
    let node = c.requires.1 in
    let next = c.node_end-from.ensures in
    let small = small-value _ _ _ _ (only-operand _ _ _ _ _ next node) _ _ _ c.in_ok-a.ensures.done in
    let says = rw (small-same c.in_ok-a.a.value small) at c.unary.ensures in
    one_way _ _ c.args.z node.code_is _ next _ _ _ c.in_ok-a.ensures.done _ _ (c.from.ensures ∙ ap unary_of c.natural.ensures) says _ c.worked.ensures

pub one-returns-in_err-a-clause-done : goal.one-returns-in_err-a-clause-done
one-returns-in_err-a-clause-done t c =
    let back = err_from_is_err_and c.from_residual.result c.from_residual.ensures.1 in
    rw (back.1, back.2) (one-back _ _ c.args.z c.requires.1.code_is _ c.node_end-from.ensures _ _ _ c.in_err-a.ensures.done)

pub one-unary-requires : goal.one-unary-requires
one-unary-requires t c =
    let node = c.requires.1 in
    let next = c.node_end-from.ensures in
    let small = small-value _ _ _ _ (only-operand _ _ _ _ _ next node) _ _ _ c.in_ok-a.ensures.done in
    small_held c.in_ok-a.a.value small

pub operator-operator_of-kind-requires : goal.operator-operator_of-kind-requires
operator-operator_of-kind-requires t c =
    let node = c.requires.1 in
    record { noded = held-noded _ _ _ _ node.held; class_is = node.class_is }

pub restriction-expression-requires : goal.restriction-expression-requires
restriction-expression-requires t c =
    let is = c.decreases in
    let node = c.requires.1 in
    let some = held-some _ _ _ _ node.held in
    (omega arith, (c.requires.0, held-restricted _ _ _ _ node.held _ c.node_end-child.ensures node.class_is))

pub restriction-node_end-child-requires : goal.restriction-node_end-child-requires
restriction-node_end-child-requires t c = held-noded _ _ _ _ c.requires.1.held

pub restriction-overflow_sub-n : goal.restriction-overflow_sub-n
restriction-overflow_sub-n t c = omega (arith, held-some _ _ _ _ c.requires.1.held)

pub restriction-returns-clause-done : goal.restriction-returns-clause-done
restriction-returns-clause-done t c =
    restriction-way _ _ c.args.z c.requires.1.class_is _ c.node_end-child.ensures _ _ _ c.expression.ensures.done

pub three-choose-requires : goal.three-choose-requires
three-choose-requires t c =
    let node = c.requires.1 in
    let next = c.node_end-from.ensures in
    let a = c.in_ok-test.ensures in
    let b = evaluates-on _ _ a.same _ _ _ _ c.in_ok-then.ensures.done in
    let d = evaluates-on _ _ (same_twice _ _ _ a.same c.in_ok-then.ensures.same) _ _ _ _ c.in-Ok.ensures.done in
    let tested = operand-ends _ _ _ _ (test-operand _ _ _ _ _ next node) _ _ _ a.done in
    let first = first-arm _ _ _ _ _ next node _ tested in
    let second = second-arm _ _ _ _ _ next node _ tested _ (operand-ends _ _ _ _ first _ _ _ b) in
    (small_held c.in_ok-then.then.value (small-value _ _ _ _ first _ _ _ b), small_held c.in-Ok.other.value (small-value _ _ _ _ second _ _ _ d))

pub three-expression-requires : goal.three-expression-requires
three-expression-requires t c =
    let is = c.decreases in
    let node = c.requires.1 in
    let next = c.node_end-from.ensures in
    let some = held-some _ _ _ _ node.operator.held in
    (omega arith, (c.requires.0, test-operand _ _ _ _ _ next node))

pub three-expression-requires-2 : goal.three-expression-requires-2
three-expression-requires-2 t c =
    let is = c.decreases in
    let node = c.requires.1 in
    let next = c.node_end-from.ensures in
    let some = held-some _ _ _ _ node.operator.held in
    let a = c.in_ok-test.ensures in
    let test = test-operand _ _ _ _ _ next node in
    (omega arith, (on_ground _ _ a.same c.requires.0, held-on _ _ a.same _ _ _ (first-arm _ _ _ _ _ next node _ (operand-ends _ _ _ _ test _ _ _ a.done))))

pub three-expression-requires-3 : goal.three-expression-requires-3
three-expression-requires-3 t c =
    let is = c.decreases in
    let node = c.requires.1 in
    let next = c.node_end-from.ensures in
    let some = held-some _ _ _ _ node.operator.held in
    let a = c.in_ok-test.ensures in
    let b = evaluates-on _ _ a.same _ _ _ _ c.in_ok-then.ensures.done in
    let same = same_twice _ _ _ a.same c.in_ok-then.ensures.same in
    let test = test-operand _ _ _ _ _ next node in
    let tested = operand-ends _ _ _ _ test _ _ _ a.done in
    let first = first-arm _ _ _ _ _ next node _ tested in
    (omega arith, (on_ground _ _ same c.requires.0, held-on _ _ same _ _ _ (second-arm _ _ _ _ _ next node _ tested _ (operand-ends _ _ _ _ first _ _ _ b))))

pub three-node_end-from-requires : goal.three-node_end-from-requires
three-node_end-from-requires t c = held-noded _ _ _ _ c.requires.1.operator.held

pub three-overflow_sub-n : goal.three-overflow_sub-n
three-overflow_sub-n t c =
    let node = c.requires.1 in
    omega (arith, held-some _ _ _ _ node.operator.held)

pub three-returns-in-Ok-clause-done : goal.three-returns-in-Ok-clause-done
three-returns-in-Ok-clause-done t c =
    let node = c.requires.1 in
    let next = c.node_end-from.ensures in
    let a = c.in_ok-test.ensures in
    let b = evaluates-on _ _ a.same _ _ _ _ c.in_ok-then.ensures.done in
    let d = evaluates-on _ _ (same_twice _ _ _ a.same c.in_ok-then.ensures.same) _ _ _ _ c.in-Ok.ensures.done in
    let tested = operand-ends _ _ _ _ (test-operand _ _ _ _ _ next node) _ _ _ a.done in
    let first = first-arm _ _ _ _ _ next node _ tested in
    let second = second-arm _ _ _ _ _ next node _ tested _ (operand-ends _ _ _ _ first _ _ _ b) in
    let same = small-same c.in_ok-then.then.value (small-value _ _ _ _ first _ _ _ b) in
    let too = small-same c.in-Ok.other.value (small-value _ _ _ _ second _ _ _ d) in
    let says = rw (same, too, bits-zero c.in_ok-test.test.value (search rules)) at c.choose.ensures in
    three-way _ _ c.args.z node.code_is _ next _ _ _ a.done _ _ b _ _ d _ says _ c.worked.ensures

pub three-returns-in-Err-clause-done : goal.three-returns-in-Err-clause-done
three-returns-in-Err-clause-done t c =
    let a = c.in_ok-test.ensures in
    let b = evaluates-on _ _ a.same _ _ _ _ c.in_ok-then.ensures.done in
    let d = evaluates-on _ _ (same_twice _ _ _ a.same c.in_ok-then.ensures.same) _ _ _ _ c.in-Err.ensures.done in
    second_back _ _ c.args.z c.requires.1.code_is _ c.node_end-from.ensures _ _ _ a.done _ _ b _ _ d

pub three-returns-in_err-test-clause-done : goal.three-returns-in_err-test-clause-done
three-returns-in_err-test-clause-done t c =
    let back = err_from_is_err_and c.from_residual.result c.from_residual.ensures.1 in
    rw (back.1, back.2) (test_back _ _ c.args.z c.requires.1.code_is _ c.node_end-from.ensures _ _ _ c.in_err-test.ensures.done)

pub three-returns-in_err-then-clause-done : goal.three-returns-in_err-then-clause-done
three-returns-in_err-then-clause-done t c =
    let back = err_from_is_err_and c.from_residual-in_err-then.result c.from_residual-in_err-then.ensures.1 in
    let a = c.in_ok-test.ensures in
    let b = evaluates-on _ _ a.same _ _ _ _ c.in_err-then.ensures.done in
    rw (back.1, back.2) (first_back _ _ c.args.z c.requires.1.code_is _ c.node_end-from.ensures _ _ _ a.done _ _ b)

pub two-binary-requires : goal.two-binary-requires
two-binary-requires t c =
    let node = c.requires.1 in
    let next = c.node_end-from.ensures in
    let a = c.in_ok-a.ensures in
    let b = evaluates-on _ _ a.same _ _ _ _ c.in-Ok.ensures.done in
    let left = left-operand _ _ _ _ _ next node in
    let right = right_operand _ _ _ _ _ next node _ (operand-ends _ _ _ _ left _ _ _ a.done) in
    (small_held c.in_ok-a.a.value (small-value _ _ _ _ left _ _ _ a.done), small_held c.in-Ok.b.value (small-value _ _ _ _ right _ _ _ b))

pub two-expression-requires : goal.two-expression-requires
two-expression-requires t c =
    let is = c.decreases in
    let node = c.requires.1 in
    let next = c.node_end-from.ensures in
    let some = held-some _ _ _ _ node.operator.held in
    (omega arith, (c.requires.0, left-operand _ _ _ _ _ next node))

pub two-expression-requires-2 : goal.two-expression-requires-2
two-expression-requires-2 t c =
    let is = c.decreases in
    let node = c.requires.1 in
    let next = c.node_end-from.ensures in
    let some = held-some _ _ _ _ node.operator.held in
    let a = c.in_ok-a.ensures in
    let left = left-operand _ _ _ _ _ next node in
    (omega arith, (on_ground _ _ a.same c.requires.0, held-on _ _ a.same _ _ _ (right_operand _ _ _ _ _ next node _ (operand-ends _ _ _ _ left _ _ _ a.done))))

pub two-natural-requires : goal.two-natural-requires
two-natural-requires t c =
    let node = c.requires.1 in
    omega (arith, binary-there _ _ (held-noded _ _ _ _ node.operator.held) node.code_is)

pub two-node_end-from-requires : goal.two-node_end-from-requires
two-node_end-from-requires t c = held-noded _ _ _ _ c.requires.1.operator.held

pub two-overflow_add-at : goal.two-overflow_add-at
two-overflow_add-at t c =
    let node = c.requires.1 in
    omega (arith, c.well_formed, binary-there _ _ (held-noded _ _ _ _ node.operator.held) node.code_is)

pub two-overflow_sub-n : goal.two-overflow_sub-n
two-overflow_sub-n t c =
    let node = c.requires.1 in
    omega (arith, held-some _ _ _ _ node.operator.held)

pub two-returns-in-Ok-clause-done : goal.two-returns-in-Ok-clause-done
two-returns-in-Ok-clause-done t c =
    let node = c.requires.1 in
    let next = c.node_end-from.ensures in
    let a = c.in_ok-a.ensures in
    let b = evaluates-on _ _ a.same _ _ _ _ c.in-Ok.ensures.done in
    let left = left-operand _ _ _ _ _ next node in
    let right = right_operand _ _ _ _ _ next node _ (operand-ends _ _ _ _ left _ _ _ a.done) in
    let same = small-same c.in_ok-a.a.value (small-value _ _ _ _ left _ _ _ a.done) in
    let too = small-same c.in-Ok.b.value (small-value _ _ _ _ right _ _ _ b) in
    let says = rw (same, too) at c.binary.ensures in
    two-way _ _ c.args.z node.code_is _ next _ _ _ a.done _ _ b _ _ (c.from.ensures ∙ ap binary_of c.natural.ensures) says _ c.worked.ensures

pub two-returns-in_err-a-clause-done : goal.two-returns-in_err-a-clause-done
two-returns-in_err-a-clause-done t c =
    let back = err_from_is_err_and c.from_residual.result c.from_residual.ensures.1 in
    rw (back.1, back.2) (left_back _ _ c.args.z c.requires.1.code_is _ c.node_end-from.ensures _ _ _ c.in_err-a.ensures.done)

pub two-returns-in-Err-clause-done : goal.two-returns-in-Err-clause-done
two-returns-in-Err-clause-done t c =
    let a = c.in_ok-a.ensures in
    let b = evaluates-on _ _ a.same _ _ _ _ c.in-Err.ensures.done in
    right-back _ _ c.args.z c.requires.1.code_is _ c.node_end-from.ensures _ _ _ a.done _ _ b

pub variable-element-requires : goal.variable-element-requires
variable-element-requires t c =
    let p = c.requires in
    let is = c.decreases in
    let number = c.natural-v.ensures in
    let found = rw c.record_place.ensures at (sym c.in-Some.is ∙ c.index-found.ensures) in
    let here = ap (λ x. x + c.in-Some.i) c.first_element.ensures in
    (omega arith, (p.0, named-element _ _ p.0 _ _ _ p.1 _ number _ found _ here))

pub variable-first_element-requires : goal.variable-first_element-requires
variable-first_element-requires t c =
    omega (arith, (variable-laid t (goal.at.variable-first_element-requires t c).After-natural-v).low)

pub variable-index-found-requires : goal.variable-index-found-requires
variable-index-found-requires t c =
    let l = variable-laid t (goal.at.variable-index-found-requires t c).After-natural-v in
    rw c.record_place.ensures (l.recorded, rw l.box-is (omega (arith, l.few)))

pub variable-natural-v-requires : goal.variable-natural-v-requires
variable-natural-v-requires t c =
    omega (arith, leaf-there _ _ (variable-there t (goal.at.variable-natural-v-requires t c).Start))

pub variable-node_end-next-requires : goal.variable-node_end-next-requires
variable-node_end-next-requires t c =
    held-noded _ _ _ _ c.requires.1.leaf.held

pub variable-overflow_add-at : goal.variable-overflow_add-at
variable-overflow_add-at t c =
    omega (arith, leaf-there _ _ (variable-there t (goal.at.variable-overflow_add-at t c).Start))

pub variable-overflow_add-e : goal.variable-overflow_add-e
variable-overflow_add-e t c =
    let p = c.requires in
    let number = c.natural-v.ensures in
    let found = rw c.record_place.ensures at (sym c.in-Some.is ∙ c.index-found.ensures) in
    omega (arith, number-few _ _ p.0 _ _ _ p.1 _ number _ found, c.first_element.ensures)

pub variable-record_place-requires : goal.variable-record_place-requires
variable-record_place-requires t c = (variable-laid t (goal.at.variable-record_place-requires t c).After-natural-v).low

pub variable-returns-clause-done : goal.variable-returns-clause-done
variable-returns-clause-done t c =
    let p = c.requires in
    let number = c.natural-v.ensures in
    let found = rw c.record_place.ensures at (sym c.in-Some.is ∙ c.index-found.ensures) in
    let here = ap (λ x. x + c.in-Some.i) c.first_element.ensures in
    variable-way _ _ p.0 _ _ _ p.1 _ number _ found _ here _ _ _ c.in_ok-o.ensures.done _ c.node_end-next.ensures _ c.worked.ensures

pub variable-returns-in_default-clause-done : goal.variable-returns-in_default-clause-done
variable-returns-in_default-clause-done t c =
    let p = c.requires in
    let number = c.natural-v.ensures in
    let off = rw c.record_place.ensures at (sym c.in_default.is ∙ c.index-found.ensures) in
    off-way _ _ p.0 _ _ _ p.1 _ number _ off

pub variable-returns-in_err-o-clause-done : goal.variable-returns-in_err-o-clause-done
variable-returns-in_err-o-clause-done t c =
    let back = err_from_is_err_and c.from_residual.result c.from_residual.ensures.1 in
    let p = c.requires in
    let number = c.natural-v.ensures in
    let found = rw c.record_place.ensures at (sym c.in-Some.is ∙ c.index-found.ensures) in
    let here = ap (λ x. x + c.in-Some.i) c.first_element.ensures in
    rw (back.1, back.2) (variable-awaits _ _ p.0 _ _ _ p.1 _ number _ found _ here _ _ _ c.in_err-o.ensures.done)
