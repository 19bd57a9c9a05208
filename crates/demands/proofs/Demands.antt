-- The three demands of the minutes, met. The statements are in specs/Demands.antt.
--
-- `demand-1`: every call has an answer, whatever bytes, input list, lengths or point it is given; a result that keeps its promise and
-- refuses gives the number and the place that the definition gives, and every entry that was lent is as it was.
--
-- `demand-2`: the check accepts exactly the sheets whose sections and bodies stand in their bytes and that pass every test of document 01; a
-- result that keeps its promise accepts exactly then. The run's entry at every element's number is the code, and the value, of that
-- element's outcome at depth 4,096. The normaliser accepts exactly where the normal form keeps the limits and has room, and writes it.
-- Nothing beyond the answer changes.
--
-- `demand-3`: an accepted sheet whose normal form keeps the limits and fits the room lent is rewritten; what is written is accepted, declares
-- the same variables, has every body in form, takes the same input lists, gives the same outcome at every element, errors by kind included,
-- and is rewritten to itself.
--
-- That each public call of the crates keeps its promise is that call's own contract. Assumes nothing.
use mathlib.Core.Path.{◌≡◌, sym, ap, ◌∙◌}
use Prim.Native.Nat.{ℕ, ◌+◌}
use native.Mathlib.Omega.{arith}
use mathlib.Core.Bool.{false}
use mathlib.Core.List.{List}
use lib.ListN.{length, take}
use Rattle.alpha.specs.Answer.{accepted}
use Rattle.alpha.specs.Sheet.{Raw, Sheet}
use Rattle.alpha.specs.Read.{got, read}
use Rattle.alpha.specs.Holds.{variable, is_input}
use Rattle.alpha.specs.Check.{check}
use Rattle.alpha.specs.Outcome.{deepest}
use Rattle.alpha.specs.Normalise.{normal_form, normalise}
use Rattle.laws.specs.Accepted.{Accepted}
use Rattle.laws.specs.Normal.{rewritten}
use Rattle.laws.specs.Sheets.{got_raw}
use Rattle.laws.proofs.Checked.{check_accepts}
use Rattle.laws.proofs.NormalSheet.{body-form}
use Rattle.laws.proofs.NormalAccepted.{body_new, same_kind, rewritten-length, outcome-rewritten}
use Rattle.demands.specs.Demands.{NormalFormOf, Demand1, Demand2, Demand3}
use Rattle.demands.proofs.Records.{elements_same, inputs-same, rewritten-heads, rewritten-declared}
use Rattle.demands.proofs.SameRun.{run-same, framed-same}
use Rattle.demands.proofs.Again.{normal-of, normalise-again, normalise-form}
use Rattle.demands.proofs.Limits.{kept-written}
use Rattle.demands.proofs.Listed.{check_answers, run_answers, normalise_answers, number_answers, body_answers}
use Rattle.demands.proofs.Passes.{passes-exactly}
use Rattle.demands.proofs.Kept.{check_refuses, check-accepts-only, check_accepted, run_refuses, run_accepts, run_accepted}
use Rattle.demands.proofs.Kept.{normalise_refuses, normalise-wrote, normalise_accepts, normalise_accepted, number_refuses, number_accepts, number_accepted}
use Rattle.demands.proofs.Kept.{body_refuses, body_found, body_absent}
use Rattle.demands.proofs.Calls.{rewritten-calls}

-- ---- demand 1

pub demand-1 : Demand1
demand-1 = record {
  check_answers = check_answers;
  run_answers = run_answers;
  normalise_answers = normalise_answers;
  number_answers = number_answers;
  body_answers = body_answers;
  check_refuses = check_refuses;
  run_refuses = run_refuses;
  normalise_refuses = normalise_refuses;
  number_refuses = number_refuses;
  body_refuses = body_refuses;
}

-- ---- demand 2

pub demand-2 : Demand2
demand-2 = record {
  passes = passes-exactly;
  check_accepts = check-accepts-only;
  check_accepted = check_accepted;
  run_accepts = run_accepts;
  run_accepted = run_accepted;
  normalise_accepts = normalise_accepts;
  normalise_accepted = normalise_accepted;
  number_accepts = number_accepts;
  number_accepted = number_accepted;
  body_found = body_found;
  body_absent = body_absent;
}

-- ---- demand 3

module _ {bs : List ℕ} {r : Raw} {s : Sheet} {q : ℕ} (a : Accepted bs r s) (is : read bs ≡ got r q) (c : check bs ≡ accepted s) where
  normal-form-of : (o : List ℕ) → normal_form bs r s ≡ accepted o → NormalFormOf bs s o
  normal-form-of o e =
      let p = r.third + 8 in
      let t = rewritten s s p in
      let n = normal-of a o e in
      let hs = rewritten-heads s p in
      record {
        sheet = t;
        accepts = n.accepts;
        same_sections = ap (λ g. take (got_raw g).third o) n.read_is ∙ n.sections-copied ∙ sym (ap (λ g. take (got_raw g).third bs) is);
        same_heads = hs;
        same_declared = rewritten-declared s p;
        in_form = λ v lt i.
            let old : is_input (variable s v) ≡ false = sym (same_kind a p v) ∙ i in
            rw (body_new a p v old) (body-form a v (omega (arith, rewritten-length s s p)) old);
        bodies_are = body_new a p;
        same_inputs = inputs-same s t hs;
        same_elements = elements_same s t hs;
        same_outcome = λ ins v z. outcome-rewritten a p ins deepest v z;
        same_run = run-same a p o c n.accepts;
        same_report = framed-same a p o c n.accepts;
        again = normalise-again o n.again;
      }

normal-form-written : (bs : List ℕ) (s : Sheet) (lent : ℕ) (o : List ℕ) → check bs ≡ accepted s → normalise bs lent ≡ accepted o → NormalFormOf bs s o
normal-form-written bs s lent o c e = let f = check_accepts c in normal-form-of f.holds-all f.read_is c o (normalise-form f lent o c e).form

pub demand-3 : Demand3
demand-3 = record {
  writes = kept-written;
  holds = normal-form-written;
  calls = λ sheet out out' n h.
      let w = normalise-wrote sheet out out' n h in
      let r = normalise_accepts sheet out out' n h in
      let f = normal-form-written sheet r.sheet_is (length out) (take n out') r.checked w.0 in
      rewritten-calls sheet r.sheet_is (take n out') r.checked f n w.1;
}
