-- `domain::Ground::holding` meets its contract: the branches of the case stand after its node, and the first is spared at first.
-- Assumes nothing.
use Prim.Native.Nat.{ℕ, ◌-◌}
use Rattle.domain.specs.Walk.{Walk, WalkAll}
use Rattle.domain.specs.Holding.{Sought}
use Rattle.domain.proofs.Ground.holding.Given as goal

-- what is taken of the branches from here on, and of the one that is spared here, is what the case takes
abbrev pub invariant-loop : goal.invariant-loop
invariant-loop l = record {
  spared_walk : Walk l.self.sheet.now l.spared.start l.n l.z;
  others : WalkAll l.self.sheet.now l.next l.n (l.end - l.counter) l.z;
  taken : (r : ℕ) → Sought l.self.sheet.now l.next l.n (l.end - l.counter) l.z l.spared.start r
      → Sought l.self.sheet.now l.initial.next l.n (l.end - 1) l.z l.initial.spared.start r;
}
