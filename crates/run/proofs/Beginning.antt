-- The memo before the run: what is stored for an element, that the entries so far are those before the run, and that the
-- memo is then ready and right. Assumes nothing.
use mathlib.Core.Path.{◌≡◌, refl, sym, ap, ◌∙◌, subst}
use Prim.Native.Nat.{ℕ, zero, suc, ◌+◌, ◌≤◌, ◌<◌}
use native.Mathlib.Decide.{ℕ_discrete}
use native.Mathlib.Omega.{arith}
use mathlib.Core.Bool.{Bool, true, false, ◌&&◌}
use mathlib.Core.List.{List, [], ◌∷◌}
use lib.ListN.{length, get_or, replicate, length-set, length-replicate}
use lib.IntN.{ℤ, pos}
use Rattle.alpha.specs.declared.Outcome.TheVariants.{Outside, Value}
use Rattle.alpha.specs.Sheet.{Range, Sheet, Point}
use Rattle.alpha.specs.Affine.{meets_all}
use Rattle.alpha.specs.Box.{size, in_box, index, point_at}
use Rattle.alpha.specs.Holds.{variable, is_input, in_domain}
use Rattle.alpha.specs.Answer.{accepted}
use Rattle.alpha.specs.Check.{Element, total, check}
use Rattle.alpha.specs.Ask.{before, number_of}
use Rattle.alpha.specs.Outcome.{Outcome, outside, value, inputs_before}
use Rattle.laws.specs.Coded.{decoded}
use Rattle.laws.specs.Sheets.{sheet_of}
use Rattle.laws.proofs.Tests.{ifb-true, ifb-false}
use Rattle.laws.proofs.Boxes.{index-point_at, point_at-in_box, read_box-ordered}
use Rattle.laws.proofs.Elements.{element-at, number-of-element}
use Rattle.laws.proofs.Growth.{outcome-outside, outcome-input}
use Rattle.laws.proofs.Checked.{check_accepts}
use Rattle.tree.specs.Ends.{EndsKept}
use Rattle.domain.specs.Inside.{Inside}
use Rattle.domain.specs.declared.Standing.TheVariants.{Holds}
use Rattle.domain.specs.Standing.{standing}
use Rattle.domain.proofs.Records.{VariableLaid}
use Rattle.std.specs.Prelude.{Ok, Err}
use Rattle.evaluate.specs.Memo.{Work, element, Memo, code_in, code_at, saved_at, memo_of, sum, busy_one, count, Tells, Right, code_of, value_of, stored}
use Rattle.evaluate.specs.Working.{element_at, outcomes, Bodied, Ready}
use Rattle.evaluate.specs.Settling.{Idle}
use Rattle.evaluate.proofs.Entries.{unmarked, answer-idle, answer-low, codes-many, values-many, entry-code}
use Rattle.evaluate.proofs.Stores.{decide, code_same, code_other, value_same, value-other}
use Rattle.run.specs.Starting.{first_answer, entry_place, start_answer, Started}
use Rattle.sheet.specs.declared.table.Table.{Table}

-- ---- by what the table says of the declared domain

module _ (domain input : Bool) (x : ℤ) (m : ℕ) where
  pub outside-first : domain ≡ false → Ok Outside ≡ first_answer domain input x m
  outside-first n = sym (ifb-false domain _ _ n)

  module _ (is : domain ≡ true) where
    pub input-first : input ≡ true → Ok (Value x) ≡ first_answer domain input x m
    input-first b = sym (ifb-true domain _ _ is ∙ ifb-true input _ _ b)

    pub other-first : input ≡ false → Err (record { element = m }) ≡ first_answer domain input x m
    other-first b = sym (ifb-true domain _ _ is ∙ ifb-false input _ _ b)

-- ---- tables of zeros

get_or-zeros : {X : Type 0} (n m : ℕ) (x : X) → get_or (replicate n x) m x ≡ x
get_or-zeros zero m x = refl
get_or-zeros (suc n) zero x = refl
get_or-zeros (suc n) (suc m) x = get_or-zeros n m x

pub started_none : (s : Sheet) (ins : List ℤ) → Started s ins (memo_of (replicate 4096 0)) 0
started_none s ins = record {
  codes_long = codes-many (replicate 4096 0) ∙ length-replicate {A = ℕ} 4096 0;
  values_long = values-many (replicate 4096 0) ∙ length-replicate {A = ℕ} 4096 0;
  low = λ m. let z = zeros m in omega (arith, z);
  idle = λ m b. let z = zeros m in omega (arith, z, b);
  code = λ m h. absurd (omega arith);
  value = λ m h. absurd (omega arith);
}
  where
    zeros : (m : ℕ) → code_at (memo_of (replicate 4096 0)) m ≡ 0
    zeros m = entry-code (replicate 4096 0) m ∙ ap code_in (get_or-zeros {X = ℕ} 4096 m 0)

-- a table that keeps no end
pub no-end-kept : (bs : List ℕ) → EndsKept bs (replicate 8192 0)
no-end-kept bs = record {
  sized = length-replicate {A = ℕ} 8192 0;
  low = λ i. let z = get_or-zeros {X = ℕ} 8192 i 0 in omega (arith, z);
  right = λ i some. let z = get_or-zeros {X = ℕ} 8192 i 0 in absurd (omega (arith, z, some));
}

-- ---- one element more

module _ (bs : List ℕ) (tab : Table) (v i : ℕ) (h : VariableLaid bs tab v) (low : i < size (variable (sheet_of bs) v).head.box) (inside : List Bool)
    (I : Inside (sheet_of bs) inside) where
  abbrev sheet : Sheet
  sheet = sheet_of bs

  abbrev box : List Range
  box = (variable sheet v).head.box

  abbrev e : ℕ
  e = before sheet v + i

  element-is : element_at sheet e ≡ record { who = v; at = point_at box i }
  element-is = element-at sheet v i (record { who = 0; at = [] }) h.known low

  in-box : in_box box (point_at box i) ≡ true
  in-box = point_at-in_box box i (read_box-ordered box h.box_read) low

  -- the table says whether it lies in its declared domain
  domain-is : get_or inside e false ≡ in_domain (variable sheet v) (point_at box i)
  domain-is =
      let n : number_of sheet v (point_at box i) ≡ e = omega (arith, index-point_at box i low) in
      rw n at (I.says v (point_at box i) h.known in-box) ∙ sym (ap (λ b. b && meets_all (variable sheet v).declared (point_at box i)) in-box)

  answer-is : (ins : List ℤ) →
      first_answer (get_or inside e false) (is_input (variable sheet v)) (get_or ins (inputs_before sheet v + i) (pos 0)) e
      ≡ start_answer sheet ins (element_at sheet e) e
  answer-is ins =
      let place : inputs_before sheet v + i ≡ inputs_before sheet v + index box (point_at box i) =
      ap (λ n. inputs_before sheet v + n) (sym (index-point_at box i low)) in
      ap (λ b. first_answer b (is_input (variable sheet v)) (get_or ins (inputs_before sheet v + i) (pos 0)) e) domain-is
      ∙ ap (λ n. first_answer (in_domain (variable sheet v) (point_at box i)) (is_input (variable sheet v)) (get_or ins n (pos 0)) e) place
      ∙ ap (λ x. start_answer sheet ins x e) (sym element-is)

  module _ (ins : List ℤ) (memo : Memo) (S : Started sheet ins memo e) (input : Bool) (same : input ≡ is_input (variable sheet v)) where
    abbrev answer : Work
    answer = first_answer (get_or inside e false) input (get_or ins (inputs_before sheet v + i) (pos 0)) e

    is-first : answer ≡ start_answer sheet ins (element_at sheet e) e
    is-first = ap (λ b. first_answer (get_or inside e false) b (get_or ins (inputs_before sheet v + i) (pos 0)) e) same ∙ answer-is ins

    in_codes : e < length memo.codes
    in_codes = omega (arith, S.codes_long, h.few)

    in_values : e < length memo.values
    in_values = omega (arith, S.values_long, h.few)

    -- below the next number: below this one, or this one
    upto : (m : ℕ) → m < before sheet v + (i + 1) → (m ≡ e → ⊥) → m < e
    upto m l n = omega (arith, n)

    pub started-next : Started sheet ins (stored memo e answer) (before sheet v + (i + 1))
    started-next = record {
      codes_long = simp length-set S.codes_long;
      values_long = simp length-set S.values_long;
      low = λ m. decide m e (ℕ_discrete m e)
          (λ is. rw (is, code_same memo e (code_of answer) (value_of answer) in_codes) (answer-low answer))
          (λ other. rw (code_other memo e (code_of answer) (value_of answer) m other) (S.low m));
      idle = λ m b. decide m e (ℕ_discrete m e)
          (λ is. answer-idle answer (sym (code_same memo e (code_of answer) (value_of answer) in_codes) ∙ rw is at b))
          (λ other. S.idle m (sym (code_other memo e (code_of answer) (value_of answer) m other) ∙ b));
      code = λ m l. decide m e (ℕ_discrete m e)
          (λ is. rw is (code_same memo e (code_of answer) (value_of answer) in_codes ∙ ap code_of is-first))
          (λ other. code_other memo e (code_of answer) (value_of answer) m other ∙ S.code m (upto m l other));
      value = λ m l. decide m e (ℕ_discrete m e)
          (λ is. rw is (value_same memo e (code_of answer) (value_of answer) in_values ∙ ap value_of is-first))
          (λ other. value-other memo e (code_of answer) (value_of answer) m other ∙ S.value m (upto m l other));
    }

pub started-at : (s : Sheet) (ins : List ℤ) (memo : Memo) (m n : ℕ) → m ≡ n → Started s ins memo m → Started s ins memo n
started-at s ins memo m n e S = subst (Started s ins memo) e S

-- ---- the memo before the run

-- no entry is in progress
sum-none : (w : ℕ → ℕ) (cs : List ℕ) → ((m : ℕ) → w (get_or cs m 0) ≡ 0) → sum w cs ≡ 0
unfolding sum
sum-none w [] h = refl
sum-none w (c ∷ cs) h = let here : w c ≡ 0 = h 0 in omega (arith, sum-none w cs (λ m. h (suc m)))

-- each body holds in its variable's declared domain, and no case of it clashes there
abbrev Covered : Sheet → Type 0
Covered s =
    (v : ℕ) (z : Point) → v < length s → is_input (variable s v) ≡ false → in_domain (variable s v) z ≡ true → standing (variable s v).body s z ≡ Holds

pub accepted-covered : (bs : List ℕ) → check bs ≡ accepted (sheet_of bs) → Covered (sheet_of bs)
accepted-covered bs e v z known body inside =
    let a = (check_accepts e).holds-all in
    rw (a.covered v z known body inside, a.clear v z known body inside) refl

module _ (s : Sheet) (ins : List ℤ) (memo : Memo) (few : total s ≤ 4096) (S : Started s ins memo (total s)) where
  pub started-idle : Idle memo
  started-idle = sum-none busy_one memo.codes (λ m. unmarked (code_at memo m) (S.idle m))

  -- what is stored before the run, case by case
  module _ (m : ℕ) (lt : m < total s) where
    abbrev here : Element
    here = element_at s m

    first-cases : (P : Work → Type 0) →
        (in_domain (variable s here.who) here.at ≡ false → P (Ok Outside)) →
        (in_domain (variable s here.who) here.at ≡ true → is_input (variable s here.who) ≡ true →
        P (Ok (Value (get_or ins (entry_place s here) (pos 0))))) →
        (in_domain (variable s here.who) here.at ≡ true → is_input (variable s here.who) ≡ false →
        P (Err (record { element = m }))) → P (start_answer s ins here m)
    first-cases P f g k = go (in_domain (variable s here.who) here.at) (is_input (variable s here.who)) refl refl
      where
        go : (d i : Bool) → in_domain (variable s here.who) here.at ≡ d → is_input (variable s here.who) ≡ i →
            P (first_answer d i (get_or ins (entry_place s here) (pos 0)) m)
        go false i p q = f p
        go true true p q = g p q
        go true false p q = k p q

    bodied : Covered s → 4 < code_at memo m → Bodied s here
    bodied covered u =
        first-cases (λ r. 4 < code_of r → Bodied s here) (λ d l. absurd (omega arith)) (λ d i l. absurd (omega arith))
        (λ d i l.
        let known = (number-of-element s m (record { who = 0; at = [] }) lt).known in
        record { known = known; domain = d; no_input = i; clear = covered here.who here.at known i d })
        (rw (S.code m lt) at u)

    settled : code_at memo m ≤ 4 → Tells (element (outcomes s ins) m) (count memo) (saved_at memo m)
    settled l =
        rw (S.code m lt, S.value m lt)
        (first-cases (λ r. code_of r ≤ 4 → Tells (element (outcomes s ins) m) (count memo) (decoded (code_of r) (value_of r)))
        (λ d l. always outside (λ k. outcome-outside s ins k here.who here.at d))
        (λ d i l. always (value (get_or ins (entry_place s here) (pos 0))) (λ k. outcome-input s ins k here.who here.at d i))
        (λ d i l. absurd (omega arith)) (rw (S.code m lt) at l))
      where
        always : (o : Outcome) → ((k : ℕ) → outcomes s ins k m ≡ o) → Tells (element (outcomes s ins) m) (count memo) o
        always o is = record { is = is (count memo); stuck = λ l k. is k ∙ l }

  pub started-ready : Covered s → Ready s memo
  started-ready covered = record { codes_long = S.codes_long; values_long = S.values_long; few = few; low = S.low; opens = λ m lt u. bodied m lt covered u }

  pub started-right : Right (outcomes s ins) (total s) memo
  started-right = record { settled = λ m lt l. settled m lt l }
