-- How an expression stands at a point: it does not hold, it holds, or it holds and a case that is reached clashes. How the standing of a
-- node follows from its children's is in proofs/Standings.antt. Assumes nothing.
use Rattle.std.specs.Prelude.{Bool, true, List, ◌≡◌, ℕ, ℤ}
use Rattle.alpha.specs.Pick.{ifb}
use Rattle.alpha.specs.Sheet.{Expr, Exprs, Exprs.none, Exprs.more, Sheet, Point}
use Rattle.alpha.specs.Shape.{fits, all_fit}
use Rattle.alpha.specs.Holds.{holds, clashes}
use Rattle.alpha.specs.Written.{branch_count}
use Rattle.laws.specs.At.{At, AllAt}
use Rattle.laws.specs.Sheets.{heads_of, vars_of, sheet_of}
use Rattle.affine.specs.Value.{point_of}
use Rattle.domain.specs.declared.Standing.{Standing}
use Rattle.domain.specs.declared.Standing.TheVariants.{Not, Holds, Clash}
use Rattle.domain.specs.declared.Together.{Together}
use Rattle.domain.specs.declared.Together.TheVariants.{Branches, Operands}
use Rattle.domain.specs.declared.Stood.{Stood}

-- whether it holds, and whether a case clashes
abbrev pub rated : Bool → Bool → Standing
rated held clash = ifb held (λ _. ifb clash (λ _. Clash) (λ _. Holds)) (λ _. Not)

abbrev pub standing : Expr → Sheet → Point → Standing
standing e s z = rated (holds e s z) (clashes e s z)

-- ---- of several

-- operands: not where one does not hold, and else a clash where one has it
abbrev pub both : Standing → Standing → Standing
both Not b = Not
both Holds b = b
both Clash Not = Not
both Clash Holds = Clash
both Clash Clash = Clash

-- branches: a clash where both hold, and else as the one that holds
abbrev pub either : Standing → Standing → Standing
either Not b = b
either Holds Not = Holds
either Holds Holds = Clash
either Holds Clash = Clash
either Clash b = Clash

-- two branches of a case, or two operands
abbrev pub joined : Together → Standing → Standing → Standing
joined Branches a b = either a b
joined Operands a b = both a b

-- no branches, or no operands
abbrev pub alone : Together → Standing
alone Branches = Not
alone Operands = Holds

-- the branches of a case, or operands, together
unfoldable pub together : Together → Exprs → Sheet → Point → Standing
together which none s z = alone which
together which (more e es) s z = joined which (standing e s z) (together which es s z)

-- ---- what a walk answers

-- r says how the tree at p stands at z, and where it ends
abbrev pub StandsAt : List ℕ → ℕ → List ℤ → Stood → Type 0
StandsAt bs p z r =
    (e : Expr) (q n : ℕ) → At e (vars_of bs) bs p q → fits e (heads_of bs) n ≡ true →
    (r.next ≡ q) × (r.how ≡ standing e (sheet_of bs) (point_of n z))

-- r says how `count` trees one after another from p on stand together at z, and where they end
abbrev pub StandTogether : List ℕ → ℕ → ℕ → List ℤ → Together → Stood → Type 0
StandTogether bs p count z which r =
    (es : Exprs) (q n : ℕ) → AllAt es (vars_of bs) bs p q → branch_count es ≡ count → all_fit es (heads_of bs) n ≡ true →
    (r.next ≡ q) × (r.how ≡ together which es (sheet_of bs) (point_of n z))
