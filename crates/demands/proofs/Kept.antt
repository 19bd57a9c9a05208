-- What a result that keeps its promise is: a refusal is the definition's, with every lent entry as it was; an acceptance comes exactly where
-- the definition accepts, and what is lent then begins with the definition's entries and goes on as it was. Assumes nothing.
use Rattle.std.specs.Prelude.{Result, Ok, Err}
use mathlib.Core.Path.{◌≡◌, refl, sym, ap, ◌∙◌, subst}
use Prim.Native.Nat.{ℕ, ◌-◌, ◌≤◌, ◌<◌}
use native.Mathlib.Omega.{arith}
use mathlib.Core.Bool.{Bool, true, false}
use mathlib.Core.List.{List, [], ◌++◌, map}
use lib.ListN.{length, get_or, take, drop, length-append, length-drop, length-map, get_or-append}
use lib.Seq.{take-append_seam, drop-append_seam}
use lib.IntN.{ℤ, pos}
use lib.Dec.{ltb}
use borrow.Author.Tests.{ltb-true, lt-ltb}
use Rattle.alpha.specs.Pick.{ifb}
use Rattle.alpha.specs.Answer.{accepted, refused, next, ASK}
use Rattle.alpha.specs.Sheet.{Raw, Sheet, Point}
use Rattle.alpha.specs.Box.{in_box}
use Rattle.alpha.specs.Read.{Got, got, bad, read}
use Rattle.alpha.specs.Holds.{variable, is_input}
use Rattle.alpha.specs.Check.{Element, elements, total, checked, after_read, check}
use Rattle.alpha.specs.Run.{inputs, code_of, value_of, outcome_at, room, Tables, tables, admitted, run}
use Rattle.alpha.specs.Normalise.{normal_form, normal_after, normalise}
use Rattle.alpha.specs.Ask.{asks, element_number, body_part, part_in, bytes_in}
use Rattle.alpha.specs.Ask as Ask
use Rattle.alpha.specs.Verdict.{number_of, place_of}
use Rattle.alpha.specs.Promise.{total_of, lent_after, Checks, Runs, Normalises, Numbers, Finds}
use Rattle.alpha.specs.declared.Refusal.{Refusal}
use Rattle.alpha.proofs.Unique.{told-injective}
use Rattle.laws.proofs.Tests.{&&-left, &&-right}
use Rattle.laws.proofs.Elements.{get_or-map_below, length-elements, number-low, element-of-number}
use Rattle.laws.proofs.Checked.{check_accepts}
use Rattle.demands.specs.Demands.{normal_bytes, KeepsLimits, Ran, Rewrote, HasNumber}
use Rattle.demands.proofs.Steps.{next-accepted, next-refused, room-enough, room-there}
use Rattle.demands.proofs.Again.{normalise-form}
use Rattle.demands.proofs.Limits.{kept-form, form-kept, kept-written}

-- ---- what is lent, after an acceptance

module _ {A : Type 0} (front old new : List A) (is : new ≡ front ++ drop (length front) old) where
  front-written : take (length front) new ≡ front
  front-written = rw is (take-append_seam front (drop (length front) old))

  rest-same : drop (length front) new ≡ drop (length front) old
  rest-same = rw is (drop-append_seam front (drop (length front) old))

  length-same : length front ≤ length old → length new ≡ length old
  length-same l = rw is (omega (arith, length-append front (drop (length front) old), length-drop (length front) old))

-- a table of the elements
module _ {A : Type 0} (s : Sheet) (f : Element → A) (d : A) (old new : List A) (is : new ≡ map f (elements s) ++ drop (length (map f (elements s))) old) where
  table-length : length (map f (elements s)) ≡ total s
  table-length = length-map (elements s) f ∙ length-elements s

  by_number : (i : ℕ) (e : Element) → i < total s → get_or new i d ≡ f (get_or (elements s) i e)
  by_number i e lt =
      ap (λ l. get_or l i d) is
      ∙ get_or-append (map f (elements s)) (drop (length (map f (elements s))) old) d i (omega (arith, table-length))
      ∙ get_or-map_below f (elements s) i e d (omega (arith, length-elements s))

  by-element : (v : ℕ) (z : Point) → v < length s → in_box (variable s v).head.box z ≡ true → get_or new (Ask.number_of s v z) d ≡ f (record { who = v; at = z })
  by-element v z lt b =
      let e : Element = record { who = v; at = z } in
      by_number (Ask.number_of s v z) e (number-low s v z lt b) ∙ ap f (element-of-number s v z e lt b)

  table-beyond : drop (total s) new ≡ drop (total s) old
  table-beyond = rw (← table-length) (rest-same (map f (elements s)) old new is)

  table_same : total s ≤ length old → length new ≡ length old
  table_same l = length-same (map f (elements s)) old new is (omega (arith, table-length))

-- ---- check

pub check_refuses : (sheet : List ℕ) (k : Refusal) → Checks sheet (Err k) → check sheet ≡ refused (number_of k) (place_of k)
check_refuses sheet k h = next-refused (check sheet) _ (number_of k) (place_of k) (λ s e. (total s, refl)) (sym h.answer)

pub check-accepts-only : (sheet : List ℕ) (n : ℕ) → Checks sheet (Ok n) → (s : Sheet) × (check sheet ≡ accepted s) × (n ≡ total s)
check-accepts-only sheet n h = let a = next-accepted (check sheet) _ n (sym h.answer) in let e = a.2 in (a.0, a.1, cc)

pub check_accepted : (sheet : List ℕ) (s : Sheet) (r : Result ℕ Refusal) → check sheet ≡ accepted s → Checks sheet r → r ≡ Ok (total s)
check_accepted sheet s r c h = told-injective r (Ok (total s)) (h.answer ∙ ap total_of c)

-- ---- run

-- where the run accepts
record RunAccepts (sheet : List ℕ) (ins : List ℤ) (codes values : ℕ) (t : Tables) : Type 0 where
  of : Sheet
  checked : check sheet ≡ accepted of
  taken : inputs of ins ≡ accepted tt
  codes-fit : total of ≤ codes
  values-fit : total of ≤ values
  tables-are : tables of ins ≡ t

module _ (sheet : List ℕ) (ins : List ℤ) (codes values : ℕ) where
  run-accepts-parts : (t : Tables) → run sheet ins codes values ≡ accepted t → RunAccepts sheet ins codes values t
  unfolding run admitted
  run-accepts-parts t h =
      let a = next-accepted (admitted sheet ins) _ t h in
      let s = a.0 in
      let b = next-accepted (check sheet) (λ s. next (inputs s ins) (λ _. accepted s)) s a.1 in
      let c = next-accepted (inputs b.0 ins) (λ _. accepted b.0) s b.2 in
      let same : b.0 ≡ s = let e = c.2 in cc in
      let d = next-accepted (room (total s) codes) _ t a.2 in
      let f = next-accepted (room (total s) values) _ t d.2 in
      let g = f.2 in
      record {
        of = s;
        checked = b.1 ∙ ap accepted same;
        taken = subst (λ u. inputs u ins ≡ accepted tt) same c.1;
        codes-fit = room-there (total s) codes d.1;
        values-fit = room-there (total s) values f.1;
        tables-are = cc;
      }

  run-made : (s : Sheet) → check sheet ≡ accepted s → inputs s ins ≡ accepted tt → total s ≤ codes → total s ≤ values →
      run sheet ins codes values ≡ accepted (tables s ins)
  unfolding run admitted
  run-made s c i k l = rw (c, i, room-enough (total s) codes k, room-enough (total s) values l)

module _ (sheet : List ℕ) (ins : List ℤ) (codes codes' : List ℕ) (values values' : List ℤ) where
  pub run_refuses : (k : Refusal) → Runs sheet ins codes codes' values values' (Err k) →
      (run sheet ins (length codes) (length values) ≡ refused (number_of k) (place_of k)) × (codes' ≡ codes) × (values' ≡ values)
  run_refuses k h =
      let e = next-refused (run sheet ins (length codes) (length values)) (λ _. total_of (check sheet)) (number_of k) (place_of k) (λ t a.
      let r = run-accepts-parts sheet ins (length codes) (length values) t a in (total r.of, ap total_of r.checked)) (sym h.answer) in
      (e, h.codes_after ∙ ap (λ a. lent_after a (λ t. t.codes) codes) e, h.values_after ∙ ap (λ a. lent_after a (λ t. t.values) values) e)

  ran : (s : Sheet) (n : ℕ) → check sheet ≡ accepted s → inputs s ins ≡ accepted tt → total s ≤ length codes → total s ≤ length values → total s ≡ n →
      run sheet ins (length codes) (length values) ≡ accepted (tables s ins) → Runs sheet ins codes codes' values values' (Ok n) →
      Ran sheet ins codes codes' values values' n
  ran s n c i k l n-is made h =
      let cs = h.codes_after ∙ ap (λ m. lent_after m (λ t. t.codes) codes) made in
      let vs = h.values_after ∙ ap (λ m. lent_after m (λ t. t.values) values) made in
      let code : Element → ℕ = λ e. code_of (outcome_at s ins e) in
      let val : Element → ℤ = λ e. value_of (outcome_at s ins e) in
      record {
        sheet_is = s;
        checked = c;
        taken = i;
        total_is = sym n-is;
        codes_are = by-element s code 0 codes codes' cs;
        values_are = by-element s val (pos 0) values values' vs;
        codes_by_number = λ j e lt. by_number s code 0 codes codes' cs j e (omega (arith, n-is));
        values_by_number = λ j e lt. by_number s val (pos 0) values values' vs j e (omega (arith, n-is));
        codes_beyond = rw n-is at (table-beyond s code 0 codes codes' cs);
        values_beyond = rw n-is at (table-beyond s val (pos 0) values values' vs);
        codes_length = table_same s code 0 codes codes' cs k;
        values_length = table_same s val (pos 0) values values' vs l;
      }

  pub run_accepts : (n : ℕ) → Runs sheet ins codes codes' values values' (Ok n) → Ran sheet ins codes codes' values values' n
  run_accepts n h =
      let a = next-accepted (run sheet ins (length codes) (length values)) (λ _. total_of (check sheet)) n (sym h.answer) in
      let r = run-accepts-parts sheet ins (length codes) (length values) a.0 a.1 in
      let n-is : total r.of ≡ n = let e = sym (ap total_of r.checked) ∙ a.2 in cc in
      ran r.of n r.checked r.taken r.codes-fit r.values-fit n-is (a.1 ∙ ap accepted (sym r.tables-are)) h

  pub run_accepted : (s : Sheet) (r : Result ℕ Refusal) →
      check sheet ≡ accepted s → inputs s ins ≡ accepted tt → total s ≤ length codes → total s ≤ length values →
      Runs sheet ins codes codes' values values' r → r ≡ Ok (total s)
  run_accepted s r c i k l h =
      told-injective r (Ok (total s))
      (h.answer ∙ ap (λ m. next m (λ _. total_of (check sheet))) (run-made sheet ins (length codes) (length values) s c i k l) ∙ ap total_of c)

-- ---- normalise

-- where the normaliser accepts
record NormaliseAccepts (sheet : List ℕ) (lent : ℕ) (o : List ℕ) : Type 0 where
  of : Sheet
  checked : check sheet ≡ accepted of
  keeps : KeepsLimits sheet of
  bytes_are : normal_bytes sheet of ≡ o
  fits : length o ≤ lent

normalise-accepts-parts : (sheet : List ℕ) (lent : ℕ) (o : List ℕ) → normalise sheet lent ≡ accepted o → NormaliseAccepts sheet lent o
normalise-accepts-parts sheet lent o h =
    let s = sheet-of h in
    let c = s.1 in
    let f = check_accepts c in
    let n = normalise-form f lent o c h in
    let keeps = form-kept f.holds-all f.read_is o n.form in
    let form = kept-form f.holds-all f.read_is keeps in
    let same : accepted (normal_bytes sheet s.0) ≡ accepted o = sym form ∙ n.form in
    record { of = s.0; checked = c; keeps = keeps; bytes_are = cc; fits = n.room-is }
  where
    sheet-of : normalise sheet lent ≡ accepted o → (s : Sheet) × (check sheet ≡ accepted s)
    sheet-of e = unfold normalise check in
        let a = next-accepted (normal_after sheet (read sheet)) (λ out. next (room (length out) lent) (λ _. accepted out)) o e in
        go (read sheet) a.0 a.1
      where
        go : (g : Got Raw) (out : List ℕ) → normal_after sheet g ≡ accepted out → (s : Sheet) × (after_read sheet g ≡ accepted s)
        go (got r p) out e = unfold normal_after after_read in let b = next-accepted (checked sheet r) (λ s. normal_form sheet r s) out e in (b.0, b.1)
        go (bad n p) out e = unfold normal_after in let z : ◌≡◌ {A = ℕ} 0 1 = cc in absurd (omega arith)

module _ (sheet out out' : List ℕ) where
  pub normalise_refuses : (k : Refusal) → Normalises sheet out out' (Err k) →
      (normalise sheet (length out) ≡ refused (number_of k) (place_of k)) × (out' ≡ out)
  normalise_refuses k h =
      let e = next-refused (normalise sheet (length out)) (λ o. accepted (length o)) (number_of k) (place_of k) (λ o a. (length o, refl)) (sym h.answer) in
      (e, h.out_after ∙ ap (λ a. lent_after a (λ o. o) out) e)

  rewrote : (n : ℕ) (o : List ℕ) → length o ≡ n → out' ≡ o ++ drop (length o) out → NormaliseAccepts sheet (length out) o → Rewrote sheet out out' n
  rewrote n o n-is os r = record {
    sheet_is = r.of;
    checked = r.checked;
    keeps = r.keeps;
    length_is = sym n-is ∙ ap length (sym r.bytes_are);
    bytes_are = rw (← n-is) (front-written o out out' os ∙ sym r.bytes_are);
    beyond = rw (← n-is) (rest-same o out out' os);
    out_length = length-same o out out' os r.fits;
  }

  -- what was written
  pub normalise-wrote : (n : ℕ) → Normalises sheet out out' (Ok n) → (normalise sheet (length out) ≡ accepted (take n out')) × (length (take n out') ≡ n)
  normalise-wrote n h =
      let a = next-accepted (normalise sheet (length out)) (λ o. accepted (length o)) n (sym h.answer) in
      let n-is : length a.0 ≡ n = let e = a.2 in cc in
      let os = h.out_after ∙ ap (λ m. lent_after m (λ o. o) out) a.1 in
      let is : take n out' ≡ a.0 = ap (λ m. take m out') (sym n-is) ∙ front-written a.0 out out' os in
      (a.1 ∙ ap accepted (sym is), ap length is ∙ n-is)

  pub normalise_accepts : (n : ℕ) → Normalises sheet out out' (Ok n) → Rewrote sheet out out' n
  normalise_accepts n h =
      let w = normalise-wrote n h in
      let o = take n out' in
      rewrote n o w.1 (h.out_after ∙ ap (λ m. lent_after m (λ o. o) out) w.0) (normalise-accepts-parts sheet (length out) o w.0)

  pub normalise_accepted : (s : Sheet) (r : Result ℕ Refusal) → check sheet ≡ accepted s → KeepsLimits sheet s → length (normal_bytes sheet s) ≤ length out →
      Normalises sheet out out' r → r ≡ Ok (length (normal_bytes sheet s))
  normalise_accepted s r c k l h =
      told-injective r (Ok (length (normal_bytes sheet s))) (h.answer ∙ ap (λ m. next m (λ o. accepted (length o))) (kept-written sheet s (length out) c k l))

-- ---- the element number

module _ (sheet : List ℕ) (v : ℕ) (z : Point) where
  pub number_refuses : (k : Refusal) → Numbers sheet v z (Err k) → element_number sheet v z ≡ refused (number_of k) (place_of k)
  number_refuses k h = sym h.answer

  pub number_accepts : (n : ℕ) → Numbers sheet v z (Ok n) → HasNumber sheet v z n
  unfolding element_number
  number_accepts n h =
      let a = next-accepted (check sheet) (λ s. ifb (asks s v z) (λ _. accepted (Ask.number_of s v z)) (λ _. refused ASK 0)) n (sym h.answer) in
      go a.0 a.1 (asks a.0 v z) refl a.2
    where
      go : (s : Sheet) → check sheet ≡ accepted s → (t : Bool) → asks s v z ≡ t →
          ifb t (λ _. accepted (Ask.number_of s v z)) (λ _. refused ASK 0) ≡ accepted n → HasNumber sheet v z n
      go s c true e h = record {
        sheet_is = s;
        checked = c;
        known = ltb-true v (length s) (&&-left (ltb v (length s)) (in_box (variable s v).head.box z) e);
        inside = &&-right (ltb v (length s)) (in_box (variable s v).head.box z) e;
        number_is = cc;
      }
      go s c false e h = let w : ◌≡◌ {A = ℕ} 0 1 = cc in absurd (omega arith)

  pub number_accepted : (s : Sheet) (r : Result ℕ Refusal) → check sheet ≡ accepted s → v < length s → in_box (variable s v).head.box z ≡ true →
      Numbers sheet v z r → r ≡ Ok (Ask.number_of s v z)
  number_accepted s r c lt b h = told-injective r (Ok (Ask.number_of s v z)) (h.answer ∙ unfold element_number in rw (c, lt-ltb v (length s) lt, b))

-- ---- the body of a variable

module _ (sheet part : List ℕ) (v : ℕ) where
  pub body_refuses : (n p : ℕ) → check sheet ≡ refused n p → Finds sheet v part → part ≡ []
  body_refuses n p c h = h.answer ∙ unfold body_part in ap (λ a. bytes_in (part_in a v) sheet) c

  pub body_found : (s : Sheet) → check sheet ≡ accepted s → is_input (variable s v) ≡ false → Finds sheet v part →
      part ≡ take ((variable s v).end - (variable s v).start) (drop (variable s v).start sheet)
  body_found s c i h = h.answer ∙ unfold body_part in rw (c, i)

  pub body_absent : (s : Sheet) → check sheet ≡ accepted s → is_input (variable s v) ≡ true → Finds sheet v part → part ≡ []
  body_absent s c i h = h.answer ∙ unfold body_part in rw (c, i)
