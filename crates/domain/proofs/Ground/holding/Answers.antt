-- `domain::Ground::holding` meets its contract: the branches of the case stand after its node, and the first is spared at first.
-- Assumes nothing.
use mathlib.Core.Path.{◌≡◌, refl, sym, ap, ◌∙◌}
use mathlib.Core.Logic.{inl, inr}
use Prim.Native.Nat.{ℕ, ◌+◌, ◌-◌, ◌≤◌}
use native.Mathlib.Omega.{arith}
use Rattle.domain.specs.Walk.{WalkAll}
use Rattle.domain.specs.Holding.{Sought, Chooses}
use Rattle.domain.proofs.Walks.{walk-standing, walk-noded, walk-some, walk_first, walk-rest}
use Rattle.domain.proofs.Choices.{OneTried, none-sought, tried-walk, kept-walk, tried-held, tried-lacks, walk-branches, some-branch, chooses}
use Rattle.domain.proofs.Ground.holding.Goals.{After-children-end, At-loop, In-loop, Joined-len, then-len, else-len}
use Rattle.domain.proofs.Ground.holding.Goals as goal

-- ---- before the loop

pub overflow_sub-n : goal.overflow_sub-n
overflow_sub-n c = walk-some _ _ _ _ c.requires.held.walk

pub node_end-first-requires : goal.node_end-first-requires
node_end-first-requires c = walk-noded _ _ _ _ c.requires.held.walk

pub end_of-requires : goal.end_of-requires
end_of-requires c =
    let held = c.requires.held in
    let all = walk-branches _ _ _ _ _ _ held c.requires.is_case c.node_end-first.ensures refl in
    (walk-standing _ _ _ _ (walk_first _ _ _ _ _ (some-branch _ _ _ _ _ _ held c.requires.is_case refl refl) all), c.requires.kept)

pub children-end-requires : goal.children-end-requires
children-end-requires c = walk-noded _ _ _ _ c.requires.held.walk

module _ (c : After-children-end) where
  some : 1 ≤ c.children-end.result
  some = some-branch _ _ _ _ _ _ c.requires.held c.requires.is_case refl c.children-end.ensures

  branches : WalkAll c.args.self.now.sheet.now c.node_end-first.result (c.args.left - 1) c.children-end.result c.args.z
  branches = walk-branches _ _ _ _ _ _ c.requires.held c.requires.is_case c.node_end-first.ensures c.children-end.ensures

  -- what is taken of the first branch, which is spared, and of the others
  case-chooses : (r : ℕ) →
      Sought c.args.self.now.sheet.now c.end_of.result (c.args.left - 1) (c.children-end.result - 1) c.args.z c.node_end-first.result r →
      Chooses c.args.self.now.sheet.now c.args.at (c.args.left - 1) c.args.z r
  case-chooses r x =
      chooses _ _ _ _ _ _ c.requires.held c.requires.is_case c.node_end-first.ensures c.children-end.ensures _ c.end_of.ensures r x

pub loop-init : goal.loop-init
loop-init c =
    let all = branches (goal.at.loop-init c).After-children-end in
    let one = some (goal.at.loop-init c).After-children-end in
    let ends = c.end_of.ensures in
    record {
      spared_walk = walk_first _ _ _ _ _ one all;
      others = walk-rest _ _ _ _ _ one all _ (λ e q n h f. ends e q h);
      taken = λ r x. x;
    }

-- ---- in the loop

pub end_of-requires-in-loop : goal.end_of-requires-in-loop
end_of-requires-in-loop c =
    (walk-standing _ _ _ _ (walk_first _ _ _ _ _ (omega (arith, c.loop-test.true)) c.loop.invariant.others), c.requires.kept)

module _ (c : Joined-len) where
  more : 1 ≤ c.children-end.result - c.loop.counter
  more = omega (arith, c.loop-test.true)

  -- which branch is tried
  which : OneTried c.loop.next c.loop.spared.start c.if-len.tried.start c.if-len.spared.start
  which = elim c.if-len.branch [
    | then-len w ↦ inr (ap (λ r. r.start) (w.tried-is ∙ w.swap.ensures.y_after), ap (λ r. r.start) (w.spared-is ∙ w.swap.ensures.x_after))
    | else-len w ↦ inl (ap (λ r. r.start) w.tried-is, ap (λ r. r.start) w.spared-is)
  ]

pub holds-requires : goal.holds-requires
holds-requires c =
    let way = (goal.at.holds-requires c).Joined-len in
    tried-walk _ _ _ _ _ (more way) c.loop.invariant.others _ c.loop.invariant.spared_walk _ _ (which way)

pub returns-then-holds : goal.returns-then-holds
returns-then-holds c =
    let way = goal.at.returns-then-holds c in
    case-chooses way.After-children-end _
    (c.loop.invariant.taken _
    (tried-held _ _ _ _ _ (more way.Joined-len) c.loop.invariant.others _ c.loop.invariant.spared_walk _ _ (which way.Joined-len)
    (λ e q n h f. sym c.if-holds.true ∙ c.holds.ensures e q n h f)))

pub loop-preserved : goal.loop-preserved
loop-preserved c =
    let way = (goal.at.loop-preserved c).Joined-len in
    let loop = c.loop.invariant in
    let ends = c.end_of-in-loop.ensures in
    let lacks = tried-lacks _ _ _ _ _ (more way) loop.others _ loop.spared_walk _ _ (which way) (λ e q n h f. sym c.if-holds.false ∙ c.holds.ensures e q n h f)
    _ ends in
    let fewer : c.children-end.result - (c.loop.counter + 1) ≡ c.children-end.result - c.loop.counter - 1 = omega arith in
    rw fewer (record {
      spared_walk = kept-walk _ _ _ _ _ (more way) loop.others _ loop.spared_walk _ _ (which way);
      others = walk-rest _ _ _ _ _ (more way) loop.others _ (λ e q n h f. ends e q h);
      taken = λ r x. loop.taken r (lacks r x);
    })

pub returns : goal.returns
returns c =
    let loop = c.loop in
    let none = none-sought _ _ c.args.z loop.next (c.children-end.result - loop.counter) (omega (arith, c.loop-test.false)) _ loop.invariant.spared_walk in
    case-chooses (goal.at.returns c).After-children-end _ (loop.invariant.taken _ none)
