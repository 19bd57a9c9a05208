-- The three demands of the minutes, each as one statement. The promises of the public calls are equations with the definitions of
-- document 01; demands 1 and 2 say what a result that keeps its promise is, and demand 3 says what the normal form is. Assumes nothing.
use Rattle.std.specs.Prelude.{◌≡◌, ◌↔◌, ℕ, ◌-◌, ◌≤◌, ◌<◌, true, false, List, [], ◌++◌, map, length, get_or, take, drop, ℤ, pos, Result, Ok, Err}
use Rattle.alpha.specs.Answer.{accepted, refused}
use Rattle.alpha.specs.Field.{nat}
use Rattle.alpha.specs.Sheet.{Raw, Variable, Sheet, Point}
use Rattle.alpha.specs.Box.{in_box}
use Rattle.alpha.specs.Holds.{variable, is_input}
use Rattle.alpha.specs.Check.{Element, elements, total, check}
use Rattle.alpha.specs.Outcome.{outcome, deepest}
use Rattle.alpha.specs.Run.{inputs, code_of, value_of, outcome_at, run}
use Rattle.alpha.specs.Written.{depth}
use Rattle.alpha.specs.Normal.{Branch}
use Rattle.alpha.specs.Normalise.{branches_of, normal_body, normalise}
use Rattle.alpha.specs.Ask.{element_number}
use Rattle.alpha.specs.Ask as Ask
use Rattle.alpha.specs.Program.{framed}
use Rattle.alpha.specs.Verdict.{number_of, place_of}
use Rattle.alpha.specs.Promise.{Checks, Runs, Normalises, Numbers, Finds}
use Rattle.alpha.specs.declared.Refusal.{Refusal}
use Rattle.laws.specs.Accepted as Checked
use Rattle.laws.specs.Normal.{body_form, body_bytes, body_nodes}
use Rattle.laws.specs.Sheets.{raw_of}

-- ---- the normal form of a sheet, and the limits that it keeps

-- the first two sections
abbrev pub sections : List ℕ → List ℕ
sections bs = take (raw_of bs).third bs

-- the first two sections copied, the number of nodes, the bodies
abbrev pub normal_bytes : List ℕ → Sheet → List ℕ
normal_bytes bs s = sections bs ++ nat (body_nodes s s) ++ body_bytes s s

-- at most 64 branches, 64 constraints in each, and depth 32
pub record BodyKeeps (s : Sheet) (x : Variable) : Type 0 where
  pub branches : length (branches_of s x) ≤ 64
  pub constraints : (i : ℕ) (b : Branch) → i < length (branches_of s x) → length (get_or (branches_of s x) i b).given ≤ 64
  pub deep : depth (normal_body s x) ≤ 32

-- each body does, and all together have at most 2,048 nodes and make at most 65,536 bytes
pub record KeepsLimits (bs : List ℕ) (s : Sheet) : Type 0 where
  pub bodies : (v : ℕ) → v < length s → is_input (variable s v) ≡ false → BodyKeeps s (variable s v)
  pub nodes : body_nodes s s ≤ 2048
  pub long : length (normal_bytes bs s) ≤ 65536

-- ---- demand 1: every call has an answer, a refusal gives its number and its place, and no lent entry differs from before

pub record Demand1 : Type 0 where
  -- every call has an answer for all that it is given
  pub check_answers : (sheet : List ℕ) → (r : Result ℕ Refusal) × Checks sheet r
  pub run_answers : (sheet : List ℕ) (ins : List ℤ) (codes : List ℕ) (values : List ℤ) →
      (r : Result ℕ Refusal) × (codes' : List ℕ) × (values' : List ℤ) × Runs sheet ins codes codes' values values' r
  pub normalise_answers : (sheet out : List ℕ) → (r : Result ℕ Refusal) × (out' : List ℕ) × Normalises sheet out out' r
  pub number_answers : (sheet : List ℕ) (v : ℕ) (z : Point) → (r : Result ℕ Refusal) × Numbers sheet v z r
  pub body_answers : (sheet : List ℕ) (v : ℕ) → (part : List ℕ) × Finds sheet v part
  -- the refusals
  pub check_refuses : (sheet : List ℕ) (k : Refusal) → Checks sheet (Err k) → check sheet ≡ refused (number_of k) (place_of k)
  pub run_refuses : (sheet : List ℕ) (ins : List ℤ) (codes codes' : List ℕ) (values values' : List ℤ) (k : Refusal) →
      Runs sheet ins codes codes' values values' (Err k) →
      (run sheet ins (length codes) (length values) ≡ refused (number_of k) (place_of k)) × (codes' ≡ codes) × (values' ≡ values)
  pub normalise_refuses : (sheet out out' : List ℕ) (k : Refusal) → Normalises sheet out out' (Err k) →
      (normalise sheet (length out) ≡ refused (number_of k) (place_of k)) × (out' ≡ out)
  pub number_refuses : (sheet : List ℕ) (v : ℕ) (z : Point) (k : Refusal) → Numbers sheet v z (Err k) →
      element_number sheet v z ≡ refused (number_of k) (place_of k)
  pub body_refuses : (sheet part : List ℕ) (v n p : ℕ) → check sheet ≡ refused n p → Finds sheet v part → part ≡ []

-- ---- demand 2: accepted exactly when the checks pass, each outcome the definition's, the normal form exactly

-- the run has filled the tables: the outcome at depth 4,096 of every element at its number, and nothing beyond
pub record Ran (sheet : List ℕ) (ins : List ℤ) (codes codes' : List ℕ) (values values' : List ℤ) (n : ℕ) : Type 0 where
  pub sheet_is : Sheet
  pub checked : check sheet ≡ accepted sheet_is
  pub taken : inputs sheet_is ins ≡ accepted tt
  pub total_is : n ≡ total sheet_is
  pub codes_are : (v : ℕ) (z : Point) → v < length sheet_is → in_box (variable sheet_is v).head.box z ≡ true →
      get_or codes' (Ask.number_of sheet_is v z) 0 ≡ code_of (outcome deepest sheet_is ins v z)
  pub values_are : (v : ℕ) (z : Point) → v < length sheet_is → in_box (variable sheet_is v).head.box z ≡ true →
      get_or values' (Ask.number_of sheet_is v z) (pos 0) ≡ value_of (outcome deepest sheet_is ins v z)
  pub codes_by_number : (i : ℕ) (e : Element) → i < n → get_or codes' i 0 ≡ code_of (outcome_at sheet_is ins (get_or (elements sheet_is) i e))
  pub values_by_number : (i : ℕ) (e : Element) → i < n → get_or values' i (pos 0) ≡ value_of (outcome_at sheet_is ins (get_or (elements sheet_is) i e))
  pub codes_beyond : drop n codes' ≡ drop n codes
  pub values_beyond : drop n values' ≡ drop n values
  pub codes_length : length codes' ≡ length codes
  pub values_length : length values' ≡ length values

-- the normaliser has written the normal form, and nothing beyond
pub record Rewrote (sheet out out' : List ℕ) (n : ℕ) : Type 0 where
  pub sheet_is : Sheet
  pub checked : check sheet ≡ accepted sheet_is
  pub keeps : KeepsLimits sheet sheet_is
  pub length_is : n ≡ length (normal_bytes sheet sheet_is)
  pub bytes_are : take n out' ≡ normal_bytes sheet sheet_is
  pub beyond : drop n out' ≡ drop n out
  pub out_length : length out' ≡ length out

-- the element z of variable v has number n
pub record HasNumber (sheet : List ℕ) (v : ℕ) (z : Point) (n : ℕ) : Type 0 where
  pub sheet_is : Sheet
  pub checked : check sheet ≡ accepted sheet_is
  pub known : v < length sheet_is
  pub inside : in_box (variable sheet_is v).head.box z ≡ true
  pub number_is : n ≡ Ask.number_of sheet_is v z

pub record Demand2 : Type 0 where
  -- the check accepts exactly the sheets that stand in their bytes as document 01 says and pass its tests
  pub passes : (bs : List ℕ) (s : Sheet) → (check bs ≡ accepted s) ↔ ((r : Raw) × Checked.Accepted bs r s)
  -- check
  pub check_accepts : (sheet : List ℕ) (n : ℕ) → Checks sheet (Ok n) → (s : Sheet) × (check sheet ≡ accepted s) × (n ≡ total s)
  pub check_accepted : (sheet : List ℕ) (s : Sheet) (r : Result ℕ Refusal) → check sheet ≡ accepted s → Checks sheet r → r ≡ Ok (total s)
  -- run
  pub run_accepts : (sheet : List ℕ) (ins : List ℤ) (codes codes' : List ℕ) (values values' : List ℤ) (n : ℕ) →
      Runs sheet ins codes codes' values values' (Ok n) → Ran sheet ins codes codes' values values' n
  pub run_accepted : (sheet : List ℕ) (ins : List ℤ) (codes codes' : List ℕ) (values values' : List ℤ) (s : Sheet) (r : Result ℕ Refusal) →
      check sheet ≡ accepted s → inputs s ins ≡ accepted tt → total s ≤ length codes → total s ≤ length values →
      Runs sheet ins codes codes' values values' r → r ≡ Ok (total s)
  -- normalise
  pub normalise_accepts : (sheet out out' : List ℕ) (n : ℕ) → Normalises sheet out out' (Ok n) → Rewrote sheet out out' n
  pub normalise_accepted : (sheet out out' : List ℕ) (s : Sheet) (r : Result ℕ Refusal) → check sheet ≡ accepted s → KeepsLimits sheet s →
      length (normal_bytes sheet s) ≤ length out → Normalises sheet out out' r → r ≡ Ok (length (normal_bytes sheet s))
  -- the element number
  pub number_accepts : (sheet : List ℕ) (v : ℕ) (z : Point) (n : ℕ) → Numbers sheet v z (Ok n) → HasNumber sheet v z n
  pub number_accepted : (sheet : List ℕ) (v : ℕ) (z : Point) (s : Sheet) (r : Result ℕ Refusal) → check sheet ≡ accepted s → v < length s →
      in_box (variable s v).head.box z ≡ true → Numbers sheet v z r → r ≡ Ok (Ask.number_of s v z)
  -- the body of a variable: its bytes; and nothing for an input or an unknown number
  pub body_found : (sheet part : List ℕ) (v : ℕ) (s : Sheet) → check sheet ≡ accepted s → is_input (variable s v) ≡ false → Finds sheet v part →
      part ≡ take ((variable s v).end - (variable s v).start) (drop (variable s v).start sheet)
  pub body_absent : (sheet part : List ℕ) (v : ℕ) (s : Sheet) → check sheet ≡ accepted s → is_input (variable s v) ≡ true → Finds sheet v part → part ≡ []

-- ---- demand 3: the normal form

-- what the normal form o of the accepted sheet s of the bytes bs is
pub record NormalFormOf (bs : List ℕ) (s : Sheet) (o : List ℕ) : Type 0 where
  -- it is accepted
  pub sheet : Sheet
  pub accepts : check o ≡ accepted sheet
  -- it declares the same variables
  pub same_sections : sections o ≡ sections bs
  pub same_heads : map (λ x. x.head) sheet ≡ map (λ x. x.head) s
  pub same_declared : map (λ x. x.declared) sheet ≡ map (λ x. x.declared) s
  -- every body is a case of restrictions of operators and ifs whose leaves are one dependence over a variable or a constant
  pub in_form : (v : ℕ) → v < length sheet → is_input (variable sheet v) ≡ false → body_form (variable sheet v).body ≡ true
  pub bodies_are : (v : ℕ) → is_input (variable s v) ≡ false → (variable sheet v).body ≡ normal_body s (variable s v)
  -- it takes the same input lists, and gives the same outcome at every element, errors by kind included
  pub same_inputs : (ins : List ℤ) → inputs sheet ins ≡ inputs s ins
  pub same_elements : elements sheet ≡ elements s
  pub same_outcome : (ins : List ℤ) (v : ℕ) (z : Point) → outcome deepest sheet ins v z ≡ outcome deepest s ins v z
  pub same_run : (ins : List ℤ) (codes values : ℕ) → run o ins codes values ≡ run bs ins codes values
  pub same_report : (values : List ℕ) → framed o values ≡ framed bs values
  -- rewriting it writes the same bytes again
  pub again : (lent : ℕ) → length o ≤ lent → normalise o lent ≡ accepted o

-- the same of the calls: o is what the normaliser has written of the sheet in n bytes
pub record RewrittenCalls (sheet o : List ℕ) (n : ℕ) : Type 0 where
  pub same_check : (r r' : Result ℕ Refusal) → Checks sheet r → Checks o r' → r' ≡ r
  pub same_run : (ins : List ℤ) (codes codes₁ codes₂ : List ℕ) (values values₁ values₂ : List ℤ) (r r' : Result ℕ Refusal) →
      Runs sheet ins codes codes₁ values values₁ r → Runs o ins codes codes₂ values values₂ r' → (r' ≡ r) × (codes₂ ≡ codes₁) × (values₂ ≡ values₁)
  pub again : (out out' : List ℕ) (r : Result ℕ Refusal) → n ≤ length out → Normalises o out out' r → (r ≡ Ok n) × (take n out' ≡ o)

pub record Demand3 : Type 0 where
  -- every accepted sheet whose normal form keeps the limits and fits the room lent is rewritten
  pub writes : (bs : List ℕ) (s : Sheet) (lent : ℕ) → check bs ≡ accepted s → KeepsLimits bs s → length (normal_bytes bs s) ≤ lent →
      normalise bs lent ≡ accepted (normal_bytes bs s)
  -- what is written is as demanded
  pub holds : (bs : List ℕ) (s : Sheet) (lent : ℕ) (o : List ℕ) → check bs ≡ accepted s → normalise bs lent ≡ accepted o → NormalFormOf bs s o
  -- and so are the calls
  pub calls : (sheet out out' : List ℕ) (n : ℕ) → Normalises sheet out out' (Ok n) → RewrittenCalls sheet (take n out') n
