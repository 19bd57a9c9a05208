-- What the run's answer says of the program's: a refusal is the program's, and where it accepts, its tables give the report.
-- Assumes nothing.
use Rattle.std.specs.Prelude.{Result, Ok, Err}
use mathlib.Core.Path.{◌≡◌, refl, sym, ap, ◌∙◌}
use Prim.Native.Nat.{ℕ, ◌≤◌}
use native.Mathlib.Omega.{arith}
use mathlib.Core.List.{List}
use lib.ListN.{length, drop}
use lib.IntN.{ℤ}
use borrow.Author.Tests.{le-leb}
use Rattle.alpha.specs.Answer.{Answer, accepted, refused, next}
use Rattle.alpha.specs.Sheet.{Sheet}
use Rattle.alpha.specs.Check.{check, total}
use Rattle.alpha.specs.Run.{input_count, inputs, room, tables, run, admitted}
use Rattle.alpha.specs.Program.{inputs_from, report, framed}
use Rattle.alpha.specs.Promise.{total_of, lent_after, Runs}
use Rattle.alpha.specs.Verdict.{number_of, place_of, told}
use Rattle.alpha.specs.declared.Refusal.{Refusal}
use Rattle.laws.specs.Sheets.{sheet_of}
use Rattle.laws.proofs.Checked.{check_accepts, accepted-total}
use Rattle.run.proofs.Listing.{count-total}
use Rattle.text.specs.Lines.{report_in}
use Rattle.text.proofs.Lines.{report-told}
use Rattle.program.specs.Given.{Lists}
use Rattle.program.proofs.Listing.{from-listed}

-- ---- the run

-- where a step and the next one accept, the next one's answer is the last
next_last : {A : Type 0} (a : Answer A) (b : Answer ℕ) (n : ℕ) → accepted n ≡ next a (λ _. b) → accepted n ≡ b
next_last (accepted x) b n e = e
next_last (refused m p) b n e = let z : ◌≡◌ {A = ℕ} 0 1 = cc in absurd (omega arith)

-- the same refusal of another step
refused-same : {A B : Type 0} (n p m o : ℕ) → ◌≡◌ {A = Answer A} (refused n p) (refused m o) → ◌≡◌ {A = Answer B} (refused m o) (refused n p)
refused-same n p m o q = let a : m ≡ n = cc in let b : o ≡ p = cc in rw (a, b)

module _ (sheet : List ℕ) (ins : List ℤ) where
  -- there is always room for 4,096 elements
  run-checked : (s : Sheet) → check sheet ≡ accepted s → run sheet ins 4096 4096 ≡ next (inputs s ins) (λ _. accepted (tables s ins))
  unfolding run admitted
  run-checked s c =
      let few = accepted-total (check_accepts c).holds-all in
      ap
      (λ a.
      next (next a (λ t. next (inputs t ins) (λ _. accepted t))) (λ t.
      next (room (total t) 4096) (λ _.
      next (room (total t) 4096) (λ _. accepted (tables t ins))))) c
      ∙ go (inputs s ins) (rw (le-leb (total s) 4096 few))
    where
      go : (a : Answer (Unit {0})) →
          next (room (total s) 4096) (λ _. next (room (total s) 4096) (λ _. accepted (tables s ins))) ≡ accepted (tables s ins) →
          next (next a (λ _. accepted s)) (λ t. next (room (total t) 4096) (λ _. next (room (total t) 4096) (λ _. accepted (tables t ins))))
          ≡ next a (λ _. accepted (tables s ins))
      go (accepted u) h = h
      go (refused n p) h = refl

  run-refused : (n p : ℕ) → check sheet ≡ refused n p → run sheet ins 4096 4096 ≡ refused n p
  unfolding run admitted
  run-refused n p c =
      ap
      (λ a.
      next (next a (λ t. next (inputs t ins) (λ _. accepted t))) (λ t.
      next (room (total t) 4096) (λ _.
      next (room (total t) 4096) (λ _. accepted (tables t ins))))) c

  module _ (rest : List ℕ) (l : Lists rest ins) where
    framed-checked : (s : Sheet) → check sheet ≡ accepted s → framed sheet rest ≡ next (inputs s ins) (λ _. accepted (report s ins))
    unfolding framed
    framed-checked s c =
        let few : input_count s ≤ 4096 = omega (arith, count-total s, accepted-total (check_accepts c).holds-all) in
        ap (λ a. next a (λ t. next (inputs_from t rest) (λ xs. accepted (report t xs)))) c ∙ from-listed s rest ins few l

    framed-refused : (n p : ℕ) → check sheet ≡ refused n p → framed sheet rest ≡ refused n p
    unfolding framed
    framed-refused n p c = ap (λ a. next a (λ t. next (inputs_from t rest) (λ xs. accepted (report t xs)))) c

    -- a refusal of the run is the program's
    pub refused-framed : (n p : ℕ) → refused n p ≡ next (run sheet ins 4096 4096) (λ _. total_of (check sheet)) → framed sheet rest ≡ refused n p
    refused-framed n p e = go (check sheet) refl
      where
        by : (s : Sheet) → check sheet ≡ accepted s → (a : Answer (Unit {0})) →
            refused n p ≡ next (next a (λ _. accepted (tables s ins))) (λ _. total_of (check sheet)) → next a (λ _. accepted (report s ins)) ≡ refused n p
        by s c (accepted u) q = let z : refused n p ≡ accepted (total s) = q ∙ ap total_of c in let y : ◌≡◌ {A = ℕ} 0 1 = cc in absurd (omega arith)
        by s c (refused m o) q = refused-same n p m o q

        go : (a : Answer Sheet) → check sheet ≡ a → framed sheet rest ≡ refused n p
        go (refused m o) c = framed-refused m o c ∙ refused-same n p m o (e ∙ ap (λ a. next a (λ _. total_of (check sheet))) (run-refused m o c))
        go (accepted s) c = framed-checked s c ∙ by s c (inputs s ins) (e ∙ ap (λ a. next a (λ _. total_of (check sheet))) (run-checked s c))

    -- where the run accepts, the program reports it by its tables
    pub accepted-framed : (s : Sheet) (n : ℕ) (codes : List ℕ) (values : List ℤ) → check sheet ≡ accepted s →
        accepted n ≡ next (run sheet ins 4096 4096) (λ _. total_of (check sheet)) →
        framed sheet rest
        ≡ accepted (report_in s (lent_after (run sheet ins 4096 4096) (λ t. t.codes) codes) (lent_after (run sheet ins 4096 4096) (λ t. t.values) values))
    accepted-framed s n codes values c e = go (inputs s ins) refl
      where
        go : (a : Answer (Unit {0})) → inputs s ins ≡ a →
            framed sheet rest
            ≡ accepted (report_in s (lent_after (run sheet ins 4096 4096) (λ t. t.codes) codes) (lent_after (run sheet ins 4096 4096) (λ t. t.values) values))
        go (refused m o) q =
            let k = run-checked s c ∙ ap (λ a. next a (λ _. accepted (tables s ins))) q in
            let y = e ∙ ap (λ a. next a (λ _. total_of (check sheet))) k in
            let z : ◌≡◌ {A = ℕ} 0 1 = cc in absurd (omega arith)
        go (accepted u) q =
            let k = run-checked s c ∙ ap (λ a. next a (λ _. accepted (tables s ins))) q in
            framed-checked s c ∙ ap (λ a. next a (λ _. accepted (report s ins))) q
            ∙ ap accepted (sym (report-told s ins (drop (length (tables s ins).codes) codes) (drop (length (tables s ins).values) values)))
            ∙ sym (ap (λ a. accepted (report_in s (lent_after a (λ t. t.codes) codes) (lent_after a (λ t. t.values) values))) k)

-- ---- the code's verdict

module _ (sheet : List ℕ) (ins : List ℤ) (rest codes codes' : List ℕ) (values values' : List ℤ) (r : Result ℕ Refusal)
    (l : Lists rest ins) (c-many : length codes ≡ 4096) (v-many : length values ≡ 4096) (h : Runs sheet ins codes codes' values values' r) where
  answer-is : told r ≡ next (run sheet ins 4096 4096) (λ _. total_of (check sheet))
  answer-is = rw (c-many, v-many) at h.answer

  pub refused-verdict : (why : Refusal) → r ≡ Err why → framed sheet rest ≡ refused (number_of why) (place_of why)
  refused-verdict why e = refused-framed sheet ins rest l (number_of why) (place_of why) (sym (ap told e) ∙ answer-is)

  pub accepted-total-is : (n : ℕ) → r ≡ Ok n → accepted n ≡ total_of (check sheet)
  accepted-total-is n e = next_last (run sheet ins 4096 4096) (total_of (check sheet)) n (sym (ap told e) ∙ answer-is)

  pub accepted-verdict : (n : ℕ) → r ≡ Ok n → check sheet ≡ accepted (sheet_of sheet) →
      framed sheet rest ≡ accepted (report_in (sheet_of sheet) codes' values')
  accepted-verdict n e c =
      let k = rw (c-many, v-many) at h.codes_after in
      let w = rw (c-many, v-many) at h.values_after in
      accepted-framed sheet ins rest l (sheet_of sheet) n codes values c (sym (ap told e) ∙ answer-is)
      ∙ ap (λ t. accepted (report_in (sheet_of sheet) t (lent_after (run sheet ins 4096 4096) (λ t. t.values) values))) (sym k)
      ∙ ap (λ t. accepted (report_in (sheet_of sheet) codes' t)) (sym w)
