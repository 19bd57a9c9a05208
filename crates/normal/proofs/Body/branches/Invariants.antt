-- `normal::branches` meets its contract. The loop's invariant: adding the branches from here on is adding all of them from the start.
-- Assumes nothing.
use Prim.Native.Nat.{ℕ}
use mathlib.Core.List.{List}
use Rattle.normal.specs.declared.Taken.{Taken}
use Rattle.normal.specs.Followed.{room_of}
use Rattle.normal.specs.Body.{BodyFits, PutsFrom}
use Rattle.normal.proofs.Body.branches.Given as goal

abbrev pub invariant-loop-number : goal.invariant-loop-number
invariant-loop-number l =
    let s = l.self.sheet.now in
    let n = l.self.dimension in
    let mode = l.self.mode in
    BodyFits s l.at n l.of l.number l.sum (room_of mode l.out)
    × ((d : List ℕ) (r : Taken) → PutsFrom s l.at n l.of l.number mode l.sum l.out d r → PutsFrom s l.at n l.of 0 mode l.initial.sum l.initial.out d r)
