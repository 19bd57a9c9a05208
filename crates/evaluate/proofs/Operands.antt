-- What the evaluator of expressions may do at a node: its fields are there, and it may go on at each operand, which holds as the node
-- does, the later ones where the one before ends. Assumes nothing.
use mathlib.Core.Path.{◌≡◌, refl}
use Prim.Native.Nat.{ℕ, ◌-◌, ◌≤◌, ◌<◌}
use native.Mathlib.Omega.{arith}
use mathlib.Core.List.{List}
use lib.IntN.{ℤ}
use Rattle.laws.specs.At.{node_read, node_end}
use Rattle.laws.specs.Children.{arity}
use Rattle.laws.specs.Sheets.{vars_of}
use Rattle.integer.specs.Range.{In32}
use Rattle.tree.specs.declared.OperatorKind.{OperatorKind}
use Rattle.tree.specs.declared.OperatorKind.TheVariants.{Unary, Binary, If}
use Rattle.tree.specs.Standing.{Noded, Standing}
use Rattle.tree.specs.Formed.{Formed}
use Rattle.tree.proofs.Heading.{prepared-sections}
use Rattle.tree.proofs.Sorting.{unary-arity, binary-arity, if-arity}
use Rattle.tree.proofs.Standings.{standing-noded, standing-some}
use Rattle.domain.specs.Walk.{Ends}
use Rattle.domain.specs.Held.{Held, HeldAll}
use Rattle.domain.proofs.Walks.{walk-standing}
use Rattle.domain.proofs.Carried.{held-operands, held_first, held-rest}
use Rattle.std.specs.Prelude.{Ok}
use Rattle.evaluate.specs.declared.Worked.{Worked}
use Rattle.evaluate.specs.Memo.{Memo}
use Rattle.evaluate.specs.Working.{HeldOperator, EvaluatesAt}
use Rattle.sheet.specs.declared.table.Table.{Table}

-- a sheet that is formed has a variable
pub some-variable : (bs : List ℕ) (tab : Table) → Formed bs tab → 0 < vars_of bs
some-variable bs tab F = (prepared-sections bs tab F.placed.prepared).some

-- ---- a tree that holds, and its operands

module _ (bs : List ℕ) (p left : ℕ) (z : List ℤ) (h : Held bs p left z) where
  pub held-standing : Standing (vars_of bs) bs p left
  held-standing = walk-standing bs p left z h.walk

  pub held-noded : Noded (vars_of bs) bs p
  held-noded = standing-noded (vars_of bs) bs p left held-standing

  pub held-some : 1 ≤ left
  held-some = standing-some (vars_of bs) bs p left held-standing

module _ (bs : List ℕ) (p left : ℕ) (z : List ℤ) (k : ℕ) (next : k ≡ node_end (vars_of bs) bs p) where
  -- those of an operator of a kind, n of them, stand after its node
  operands : (kind : OperatorKind) → HeldOperator kind bs p left z → (n : ℕ) → n ≡ arity (node_read (vars_of bs) bs p) → HeldAll bs k (left - 1) n z
  operands kind t n many = held-operands bs p left z t.operator.held k next t.operator.class_is n many

  pub only-operand : HeldOperator Unary bs p left z → Held bs k (left - 1) z
  only-operand t = held_first bs k (left - 1) 1 z (omega arith) (operands Unary t 1 (unary-arity bs p t.code_is))

  module _ (t : HeldOperator Binary bs p left z) where
    two : HeldAll bs k (left - 1) 2 z
    two = operands Binary t 2 (binary-arity bs p t.code_is)

    pub left-operand : Held bs k (left - 1) z
    left-operand = held_first bs k (left - 1) 2 z (omega arith) two

    pub right_operand : (r : ℕ) → Ends bs k r → Held bs r (left - 1) z
    right_operand r ends = held_first bs r (left - 1) 1 z (omega arith) (held-rest bs k (left - 1) 2 z (omega arith) two r ends)

  module _ (t : HeldOperator If bs p left z) where
    parts : HeldAll bs k (left - 1) 3 z
    parts = operands If t 3 (if-arity bs p t.code_is)

    pub test-operand : Held bs k (left - 1) z
    test-operand = held_first bs k (left - 1) 3 z (omega arith) parts

    module _ (r : ℕ) (ends : Ends bs k r) where
      arms : HeldAll bs r (left - 1) 2 z
      arms = held-rest bs k (left - 1) 3 z (omega arith) parts r ends

      pub first-arm : Held bs r (left - 1) z
      first-arm = held_first bs r (left - 1) 2 z (omega arith) arms

      pub second-arm : (q : ℕ) → Ends bs r q → Held bs q (left - 1) z
      second-arm q ended = held_first bs q (left - 1) 1 z (omega arith) (held-rest bs r (left - 1) 2 z (omega arith) arms q ended)

-- ---- what is known of an operand that was worked out

module _ (bs : List ℕ) (p left : ℕ) (z : List ℤ) (h : Held bs p left z) (memo last : Memo) (w : Worked) (E : EvaluatesAt bs p z memo last (Ok w)) where
  pub small-value : In32 w.value
  small-value = let t = h.walk in (E t.tree t.end t.dims t.at t.fitting).done.small

  pub operand-ends : Ends bs p w.next
  operand-ends e q d h f = (E e q d h f).ends.next w refl
