-- `tree::shape` and `tree::shape_all` meet their contracts: a tree is judged by its node and then by its children. Assumes nothing.
use Prim.Native.Nat.{◌+◌, ◌-◌, ◌*◌}
use mathlib.Core.Path.{◌≡◌}
use Rattle.tree.specs.Judged.{Flat, trees_judged}
use Rattle.tree.proofs.shape.+shape_shape_all.Given as goal

abbrev pub decreases-shape : goal.decreases-shape
decreases-shape l = 2 * l.deep

abbrev pub decreases-shape_all : goal.decreases-shape_all
decreases-shape_all l = 2 * l.deep + 1

-- what the trees from here on are judged is what all of them are, and the nodes that are left stand from here on
abbrev pub invariant-shape_all-loop : goal.invariant-shape_all-loop
invariant-shape_all-loop l = record {
  judged : trees_judged l.s l.rest l.deep l.want (l.count - l.counter) ≡ trees_judged l.s l.fn.from l.deep l.want l.count;
  flat : Flat l.s l.rest.next l.rest.left;
}
