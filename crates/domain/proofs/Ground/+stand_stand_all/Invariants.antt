-- `domain::Ground::stand` and `stand_all` meet their contracts: a tree stands as its node says of its children. Assumes nothing.
use Prim.Native.Nat.{◌+◌, ◌-◌, ◌*◌}
use Rattle.domain.specs.Walk.{WalkAll}
use Rattle.domain.proofs.Ways.{SoFar}
use Rattle.domain.proofs.Ground.+stand_stand_all.Given as goal

abbrev pub decreases-stand : goal.decreases-stand
decreases-stand l = 2 * l.left

abbrev pub decreases-stand_all : goal.decreases-stand_all
decreases-stand_all l = 2 * l.left + 1

-- ---- several trees
-- those from here on are left, and those before come to `how`
abbrev pub invariant-stand_all-loop : goal.invariant-stand_all-loop
invariant-stand_all-loop l = record {
  left : WalkAll l.self.sheet.now l.next l.left (l.count - l.counter) l.z;
  before : SoFar l.self.sheet.now l.z l.together l.at l.count l.how l.next (l.count - l.counter);
}
