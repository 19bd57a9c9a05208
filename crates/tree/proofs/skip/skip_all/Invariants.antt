-- `tree::skip_all` meets its contract: the trees that are left from here on end where all of them end. Assumes nothing.
use Prim.Native.Nat.{ℕ, ◌-◌}
use lib.ListN.{length}
use Rattle.laws.specs.Sheets.{vars_of}
use Rattle.tree.specs.Standing.{StandingAll}
use Rattle.tree.specs.Ends.{AllEnd}
use Rattle.tree.proofs.skip.skip_all.Given as goal

abbrev pub invariant-loop-need : goal.invariant-loop-need
invariant-loop-need l =
    StandingAll (vars_of l.s) l.s l.p l.left l.need × ((r : ℕ) → AllEnd (vars_of l.s) l.s l.p l.need r → AllEnd (vars_of l.s) l.s l.at l.count r)

abbrev pub decreases-loop-need : goal.decreases-loop-need
decreases-loop-need l = length l.s - l.p
