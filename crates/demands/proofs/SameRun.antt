-- The bytes of the normal form run as the sheet's do: for every input list and every length lent, the same tables or the same refusal; and
-- the program reports the same of both. Assumes nothing.
use mathlib.Core.Path.{◌≡◌, refl, ap, ◌∙◌, fun_ext}
use Prim.Native.Nat.{ℕ, ◌/◌}
use mathlib.Core.List.{List, map}
use lib.ListN.{length}
use lib.IntN.{ℤ}
use Rattle.alpha.specs.Answer.{Answer, accepted, refused, next}
use Rattle.alpha.specs.Sheet.{Raw, Sheet}
use Rattle.alpha.specs.Check.{Element, elements, total, check}
use Rattle.alpha.specs.Outcome.{deepest}
use Rattle.alpha.specs.Run.{outcome_at, code_of, value_of, Tables, tables, inputs, room, admitted, run}
use Rattle.alpha.specs.Program.{line, report, values_at, inputs_from, framed}
use Rattle.laws.specs.Accepted.{Accepted}
use Rattle.laws.specs.Normal.{rewritten}
use Rattle.laws.proofs.NormalAccepted.{place_of, outcome-rewritten}
use Rattle.demands.proofs.Records.{total-same, elements_same, input_count-same, inputs-same, rewritten-heads}

-- the run of an accepted sheet whose input list is taken
abbrev filled : List ℤ → ℕ → ℕ → Sheet → Answer Tables
filled ins codes values t = next (room (total t) codes) (λ _. next (room (total t) values) (λ _. accepted (tables t ins)))

module _ {bs : List ℕ} {r : Raw} {s : Sheet} (a : Accepted bs r s) (p : ℕ) where
  pub outcomes-same : (ins : List ℤ) (e : Element) → outcome_at (rewritten s s p) ins e ≡ outcome_at s ins e
  outcomes-same ins e = outcome-rewritten a p ins deepest e.who e.at

  pub tables-same : (ins : List ℤ) → tables (rewritten s s p) ins ≡ tables s ins
  tables-same ins =
      let es = elements_same s (rewritten s s p) (rewritten-heads s p) in
      let os : outcome_at (rewritten s s p) ins ≡ outcome_at s ins = fun_ext (outcomes-same ins) in
      ap {B = Tables} (λ l. record { codes = map (λ e. code_of (outcome_at (rewritten s s p) ins e)) l; values = map (λ e. value_of (outcome_at (rewritten s s p) ins e)) l }) es
      ∙ ap {B = Tables} (λ f. record { codes = map (λ e. code_of (f e)) (elements s); values = map (λ e. value_of (f e)) (elements s) }) os

  pub report-same : (ins : List ℤ) → report (rewritten s s p) ins ≡ report s ins
  unfolding report
  report-same ins =
      let lines : line (rewritten s s p) ins ≡ line s ins = fun_ext (λ e.
      rw (ap (λ x. x.head) (place_of a p e.who).is, outcome-rewritten a p ins deepest e.who e.at)) in
      rw (total-same s (rewritten s s p) (rewritten-heads s p), elements_same s (rewritten s s p) (rewritten-heads s p), lines)

  inputs_from-same : (rest : List ℕ) → inputs_from (rewritten s s p) rest ≡ inputs_from s rest
  unfolding inputs_from
  inputs_from-same rest =
      let hs = rewritten-heads s p in
      rw (inputs-same s (rewritten s s p) hs (values_at (length rest / 4) rest 0), input_count-same s (rewritten s s p) hs)

  -- bytes that are accepted as that sheet
  module _ (o : List ℕ) (old : check bs ≡ accepted s) (new : check o ≡ accepted (rewritten s s p)) where
    pub run-same : (ins : List ℤ) (codes values : ℕ) → run o ins codes values ≡ run bs ins codes values
    unfolding run admitted
    run-same ins codes values = rw (new, old, inputs-same s (rewritten s s p) (rewritten-heads s p) ins) (go (inputs s ins))
      where
        go : (m : Answer (Unit {0})) → next (next m (λ _. accepted (rewritten s s p))) (filled ins codes values)
            ≡ next (next m (λ _. accepted s)) (filled ins codes values)
        go (accepted u) = rw (total-same s (rewritten s s p) (rewritten-heads s p), tables-same ins)
        go (refused n q) = refl

    pub framed-same : (rest : List ℕ) → framed o rest ≡ framed bs rest
    unfolding framed
    framed-same rest =
        rw (new, old, inputs_from-same rest) (ap (λ f. next (inputs_from s rest) (λ ins. accepted (f ins))) (fun_ext report-same))
