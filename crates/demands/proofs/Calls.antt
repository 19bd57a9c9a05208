-- Demand 3 of the calls: what the normaliser has written is checked as the sheet is, runs as the sheet runs, and is written again. Assumes
-- nothing.
use Rattle.std.specs.Prelude.{Ok}
use mathlib.Core.Path.{◌≡◌, sym, ap, ◌∙◌, subst}
use Prim.Native.Nat.{ℕ}
use native.Mathlib.Omega.{arith}
use mathlib.Core.List.{List}
use lib.ListN.{length}
use Rattle.alpha.specs.Answer.{accepted, next}
use Rattle.alpha.specs.Sheet.{Sheet}
use Rattle.alpha.specs.Check.{check}
use Rattle.alpha.specs.Run.{run}
use Rattle.alpha.specs.Promise.{total_of, lent_after, Normalises}
use Rattle.alpha.proofs.Unique.{told-injective}
use Rattle.demands.specs.Demands.{NormalFormOf, RewrittenCalls}
use Rattle.demands.proofs.Records.{total-same}
use Rattle.demands.proofs.Kept.{normalise-wrote}

module _ (bs : List ℕ) (s : Sheet) (o : List ℕ) (c : check bs ≡ accepted s) (f : NormalFormOf bs s o) where
  totals-same : total_of (check o) ≡ total_of (check bs)
  totals-same = ap total_of f.accepts ∙ ap accepted (total-same s f.sheet f.same_heads) ∙ sym (ap total_of c)

  pub rewritten-calls : (n : ℕ) → length o ≡ n → RewrittenCalls bs o n
  rewritten-calls n long = record {
    same_check = λ r r' h h'. told-injective r' r (h'.answer ∙ totals-same ∙ sym h.answer);
    same_run = λ ins codes codes₁ codes₂ values values₁ values₂ r r' h h'.
        let e = f.same_run ins (length codes) (length values) in (
          told-injective r' r
              (h'.answer ∙ ap (λ m. next m (λ _. total_of (check o))) e ∙ ap (λ t. next (run bs ins (length codes) (length values)) (λ _. t)) totals-same ∙ sym h.answer),
          h'.codes_after ∙ ap (λ m. lent_after m (λ t. t.codes) codes) e ∙ sym h.codes_after,
          h'.values_after ∙ ap (λ m. lent_after m (λ t. t.values) values) e ∙ sym h.values_after,
        );
    again = λ out out' r l h.
        let e = f.again (length out) (omega (arith, long)) in
        let is : r ≡ Ok n = told-injective r (Ok n) (h.answer ∙ ap (λ m. next m (λ b. accepted (length b))) e ∙ ap accepted long) in
        let w = normalise-wrote o out out' n (subst (Normalises o out out') is h) in
        (is, let k = sym w.0 ∙ e in cc);
  }
