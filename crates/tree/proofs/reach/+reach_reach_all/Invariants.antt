-- `tree::reach` and `tree::reach_all` meet their contracts: a tree by its node and then by its children. Assumes nothing.
use Rattle.std.specs.Prelude.{Option}
use Prim.Native.Nat.{ℕ, ◌+◌, ◌-◌, ◌*◌}
use Rattle.laws.specs.Sheets.{vars_of}
use Rattle.tree.specs.Standing.{StandingAll}
use Rattle.tree.specs.Bounding.{TreesBounded}
use Rattle.tree.proofs.reach.+reach_reach_all.Given as goal

abbrev pub decreases-reach : goal.decreases-reach
decreases-reach l = 2 * l.left

abbrev pub decreases-reach_all : goal.decreases-reach_all
decreases-reach_all l = 2 * l.left + 1

-- what the trees from here on come to is what all of them do
abbrev pub invariant-reach_all-loop : goal.invariant-reach_all-loop
invariant-reach_all-loop l = record {
  stand : StandingAll (vars_of l.s) l.s l.next l.left (l.count - l.counter);
  decide : (r : Option ℕ) → TreesBounded l.s l.next l.around (l.count - l.counter) r → TreesBounded l.s l.at l.around l.count r;
}
