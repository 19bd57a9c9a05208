-- Things that are worked out one after another, for every input list: nothing to do, another thing first, a thing that is handed back.
-- Assumes nothing.
use mathlib.Core.Path.{◌≡◌, refl, sym, ap, ◌∙◌}
use Prim.Native.Nat.{ℕ}
use native.Mathlib.Omega.{arith}
use mathlib.Core.List.{List}
use lib.IntN.{ℤ}
use Rattle.alpha.specs.declared.Outcome as Declared
use Rattle.alpha.specs.declared.Outcome.TheVariants as Outcomes
use Rattle.alpha.specs.Sheet.{Expr, Sheet, Point}
use Rattle.alpha.specs.Check.{total}
use Rattle.alpha.specs.Outcome.{Outcome, outside, value, loop, and_then}
use Rattle.laws.proofs.Growth.{outcome-under, eval-grows}
use Rattle.integer.specs.Range as Range
use Rattle.integer.specs.Range.{In32}
use Rattle.std.specs.Prelude.{Ok}
use Rattle.evaluate.specs.Memo.{Work, Thing, Grows, element, Memo, count, Sized, Waits, Says, Kept}
use Rattle.evaluate.specs.Working.{element_at, outcomes, expression, Ready, WorksOut}
use Rattle.evaluate.proofs.Answers.{says_same, says-next, says_first, never}
use Rattle.evaluate.proofs.Stores.{kept_same, kept-two, waits-sub, waits_kept}

module _ (s : Sheet) where
  pub element-grows : (ins : List ℤ) (m : ℕ) → Grows (element (outcomes s ins) m)
  element-grows ins m j k h = outcome-under s ins j k (element_at s m).who (element_at s m).at h

  pub expression-grows : (ins : List ℤ) (e : Expr) (z : Point) → Grows (expression s ins e z)
  expression-grows ins e z j k h = eval-grows s ins j k e z h

  -- ---- the memo

  pub ready-sized : (memo : Memo) → Ready s memo → Sized (total s) memo
  ready-sized memo r = record { room = omega (arith, r.few, r.codes_long); pairs = r.values_long ∙ sym r.codes_long }

  pub ready-kept : (memo last : Memo) → Ready s memo → Kept memo last → Ready s last
  ready-kept memo last r K = record {
    codes_long = K.long ∙ r.codes_long;
    values_long = K.paired ∙ r.values_long;
    few = r.few;
    low = K.low r.low;
    opens = λ m h u. r.opens m h (K.opened m u);
  }

  module _ (ins : List ℤ) where
    sub : (memo : Memo) (f g : Thing) → Waits (outcomes s ins) (total s) memo f → ((k : ℕ) → g k ≡ loop → f k ≡ loop) →
        Waits (outcomes s ins) (total s) memo g
    sub memo f g W h = waits-sub (outcomes s ins) (element-grows ins) (total s) memo f g W h

    later : (memo last : Memo) (f : Thing) → Waits (outcomes s ins) (total s) memo f → Kept memo last → Waits (outcomes s ins) (total s) last f
    later memo last f W K = waits_kept (outcomes s ins) (element-grows ins) (total s) memo last f W K

  -- ---- one thing that is another

  pub done-same : (memo last : Memo) (f g : List ℤ → Thing) (r : Work) → ((ins : List ℤ) (k : ℕ) → f ins k ≡ g ins k) → WorksOut s memo last g r →
      WorksOut s memo last f r
  done-same memo last f g r is D = record {
    kept = D.kept;
    wanted = D.wanted;
    small = D.small;
    said = λ ins R W.
        let S = D.said ins R (sub ins memo (f ins) (g ins) W (λ k q. is ins k ∙ q)) in
        record { right = S.right; says = says_same (outcomes s ins) (f ins) (g ins) (count last) r (is ins) S.says };
  }

  -- ---- nothing to do

  -- a thing that is the same at every depth, and an outcome says it
  pub done-known : (memo : Memo) (o : Declared.Outcome) (defined : Outcome) → Range.Says o defined → WorksOut s memo memo (λ ins k. defined) (Ok o)
  unfolding Says
  done-known memo o defined h = record {
    kept = kept_same memo;
    wanted = tt;
    small = h.small;
    said = λ ins R W. record { right = R; says = record { is = sym h.is; stuck = λ l k. sym h.is ∙ l } };
  }

  pub done-value : (memo : Memo) (x : ℤ) → In32 x → WorksOut s memo memo (λ ins k. value x) (Ok (Outcomes.Value x))
  done-value memo x h = done-known memo (Outcomes.Value x) (value x) (record { is = refl; small = h })

  pub done-outside : (memo : Memo) → WorksOut s memo memo (λ ins k. outside) (Ok Outcomes.Outside)
  done-outside memo = done-known memo Outcomes.Outside outside (record { is = refl; small = tt })

  -- ---- a thing, and then what follows its value

  module _ (f : List ℤ → Thing) (grows : (ins : List ℤ) → Grows (f ins)) (next : ℤ → List ℤ → Thing) where
    abbrev after : List ℤ → Thing
    after ins k = and_then (f ins k) (λ x. next x ins k)

    first-loops : (ins : List ℤ) (k : ℕ) → f ins k ≡ loop → after ins k ≡ loop
    first-loops ins k q = ap (λ o. and_then o (λ x. next x ins k)) q

    -- it has no value: it is handed back
    pub done_first : (memo last : Memo) (r : Work) → ((x : ℤ) → r ≡ Ok (Outcomes.Value x) → ⊥) → WorksOut s memo last f r → WorksOut s memo last after r
    done_first memo last r none D = record {
      kept = D.kept;
      wanted = D.wanted;
      small = D.small;
      said = λ ins R W.
          let S = D.said ins R (sub ins memo (after ins) (f ins) W (first-loops ins)) in
          record { right = S.right; says = says_first (outcomes s ins) (f ins) (grows ins) (λ x. next x ins) (count last) r none S.says };
    }

    -- it has the value x, and then what follows is worked out
    pub done_next : (memo mid last : Memo) (x : ℤ) (r : Work) → WorksOut s memo mid f (Ok (Outcomes.Value x)) → WorksOut s mid last (next x) r →
        WorksOut s memo last after r
    unfolding Says
    done_next memo mid last x r D E = record {
      kept = kept-two D.kept E.kept;
      wanted = E.wanted;
      small = E.small;
      said = λ ins R W.
          let out = outcomes s ins in
          let S = D.said ins R (sub ins memo (after ins) (f ins) W (first-loops ins)) in
          let c = count mid in
          let W2 = later ins memo mid (after ins) W D.kept in
          let T =
          E.said ins S.right (sub ins mid (after ins) (next x ins) W2
          (never out (f ins) (grows ins) (λ y. next y ins) c c x (omega arith) S.says.is)) in
          record {
            right =
                T.right;
            says = says-next out (f ins) (grows ins) (λ y. next y ins) c (count last) x E.kept.more S.says.is r T.says;
          };
    }
