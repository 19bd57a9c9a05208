-- What an answer says of a thing, from what the answers to its parts say. Assumes nothing.
use mathlib.Core.Path.{◌≡◌, refl, sym, ap, ◌∙◌}
use Prim.Native.Nat.{ℕ, ◌+◌, ◌≤◌}
use native.Mathlib.Omega.{arith}
use lib.IntN.{ℤ}
use Rattle.alpha.specs.Outcome.{Outcome, outside, value, divzero, overflow, loop, and_then}
use Rattle.alpha.specs.declared.Outcome as Declared
use Rattle.alpha.specs.declared.Outcome.TheVariants as Outcomes
use Rattle.alpha.specs.Verdict.{outcome_of}
use Rattle.laws.specs.Under.{Under}
use Rattle.std.specs.Prelude.{Ok, Err}
use Rattle.evaluate.specs.Memo.{Work, Thing, Elements, Grows, Says}

-- ---- one thing that is another

pub says_same : (out : Elements) (f g : Thing) (c : ℕ) (r : Work) → ((k : ℕ) → f k ≡ g k) → Says out g c r → Says out f c r
unfolding Says
says_same out f g c (Ok o) h s = record { is = h c ∙ s.is; stuck = λ l k. h k ∙ s.stuck l k }
says_same out f g c (Err d) h s = λ k l. h k ∙ s k l

-- ---- a thing that has a value, and what follows it

-- at k it is a loop, or o
pub data AtDepth (f : Thing) (o : Outcome) (k : ℕ) : Type 0 where
  loops : f k ≡ loop → AtDepth f o k
  is : f k ≡ o → AtDepth f o k

-- a value at one depth: at any depth it is a loop or that value
pub value-or-loop : (f : Thing) → Grows f → (c : ℕ) (x : ℤ) → f c ≡ value x → (k : ℕ) → AtDepth f (value x) k
value-or-loop f g c x e k = go (f k) refl (g k (c + k) (omega arith))
  where
    top : f (c + k) ≡ value x
    top = rw e at (g c (c + k) (omega arith))

    go : (o : Outcome) → f k ≡ o → Under o (f (c + k)) → AtDepth f (value x) k
    go outside q u = is (q ∙ sym u ∙ top)
    go (value y) q u = is (q ∙ sym u ∙ top)
    go divzero q u = is (q ∙ sym u ∙ top)
    go overflow q u = is (q ∙ sym u ∙ top)
    go loop q u = loops q

-- and it keeps its value at greater depths
pub value_stays : (f : Thing) → Grows f → (c d : ℕ) (x : ℤ) → c ≤ d → f c ≡ value x → f d ≡ value x
value_stays f g c d x h e = rw e at (g c d h)

module _ (out : Elements) (f : Thing) (grows : Grows f) (next : ℤ → Thing) where
  -- f, and then what follows its value
  abbrev after : Thing
  after k = and_then (f k) (λ x. next x k)

  module _ (c d : ℕ) (x : ℤ) (h : c ≤ d) (e : f c ≡ value x) where
    at_last : after d ≡ next x d
    at_last = ap (λ o. and_then o (λ y. next y d)) (value_stays f grows c d x h e)

    -- where what follows loops, so does all
    pub never : (k : ℕ) → next x k ≡ loop → after k ≡ loop
    never k l = go (value-or-loop f grows c x e k)
      where
        go : AtDepth f (value x) k → after k ≡ loop
        go (loops q) = ap (λ o. and_then o (λ y. next y k)) q
        go (is q) = ap (λ o. and_then o (λ y. next y k)) q ∙ l

    -- f has a value, and what follows it says r
    pub says-next : (r : Work) → Says out (next x) d r → Says out after d r
    unfolding Says
    says-next (Ok o) s = record { is = at_last ∙ s.is; stuck = λ l k. never k (s.stuck l k) }
    says-next (Err m) s = λ k l. never k (s k l)

  -- f has no value: what it says is handed on
  pub says_first : (c : ℕ) (r : Work) → ((x : ℤ) → r ≡ Ok (Outcomes.Value x) → ⊥) → Says out f c r → Says out after c r
  unfolding Says
  says_first c (Ok o) n s =
      record { is = handed c s.is ∙ no_value o (λ x. n x) c; stuck = λ l k. handed k (s.stuck l k) }
    where
      handed : (k : ℕ) {p : Outcome} → f k ≡ p → after k ≡ and_then p (λ y. next y k)
      handed k q = ap (λ p. and_then p (λ y. next y k)) q

      no_value : (o : Declared.Outcome) → ((x : ℤ) → ◌≡◌ {A = Work} (Ok o) (Ok (Outcomes.Value x)) → ⊥) → (k : ℕ) →
          and_then (outcome_of o) (λ y. next y k) ≡ outcome_of o
      no_value Outcomes.Outside none k = refl
      no_value (Outcomes.Value x) none k = absurd (none x refl)
      no_value Outcomes.DivZero none k = refl
      no_value Outcomes.Overflow none k = refl
      no_value Outcomes.Loop none k = refl
  says_first c (Err d) n s = λ k l. ap (λ o. and_then o (λ y. next y k)) (s k l)
