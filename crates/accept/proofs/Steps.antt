-- The check step by step: what each step's answer makes of the whole. Assumes nothing.
use Rattle.std.specs.Prelude.{Result, Ok, Err}
use mathlib.Core.Path.{◌≡◌, refl, sym, ap, subst, ◌∙◌}
use Prim.Native.Nat.{ℕ, ◌+◌}
use native.Mathlib.Omega.{arith}
use mathlib.Core.Bool.{Bool, true}
use mathlib.Core.List.{List, [], ◌∷◌, map}
use lib.ListN.{length}
use lib.Dec.{ltb}
use borrow.Author.Tests.{ltb-true}
use Rattle.alpha.specs.Answer.{Answer, accepted, refused, next, LONG}
use Rattle.alpha.specs.Sheet.{Raw, Sheet}
use Rattle.alpha.specs.Box.{size}
use Rattle.alpha.specs.Read.{Got, got, bad, read}
use Rattle.alpha.specs.Check.{check, after_read, faults, elements, total}
use Rattle.alpha.specs.Promise.{total_of}
use Rattle.alpha.specs.Verdict.{number_of, place_of, told}
use Rattle.alpha.specs.declared.Refusal.{Refusal}
use Rattle.alpha.specs.declared.Refusal.TheVariants.{Long}
use Rattle.laws.specs.Sheets.{raw_of, heads_of, sheet_of}
use Rattle.laws.proofs.Bodies.{bodies-read}
use Rattle.sheet.specs.declared.table.Table.{Table}
use Rattle.sheet.specs.Record as Record
use Rattle.sheet.specs.Table.{answer_of, read_answer, Reads}
use Rattle.sheet.proofs.Sections.{read-long}
use Rattle.tree.proofs.Preparing.{read-prepared}
use Rattle.tree.specs.Formed.{Formed}
use Rattle.tree.specs.Ruled.{forms_of}
use Rattle.domain.specs.Inside.{Inside}
use Rattle.accept.specs.Admits.{Begins, Admits, Accepts}
use Rattle.tree.specs.Prepared.{Prepared}
use Rattle.tree.proofs.Checking.{check-refused, check-formed}

-- reading refused
pub read-refuses : (bs : List ℕ) (n p : ℕ) → refused n p ≡ read_answer bs → refused n p ≡ total_of (check bs)
unfolding check after_read
read-refuses bs n p e = go (read bs) e
  where
    go : (g : Got Raw) → refused n p ≡ answer_of g → refused n p ≡ total_of (after_read bs g)
    go (got r q) h = absurd (let z : ◌≡◌ {A = ℕ} 0 1 = cc in omega arith)
    go (bad m q) h = h

-- the sheet is too long, which `sheet::too_long` says by its answer t: the check refuses it with LONG
pub long-refuses : (bs : List ℕ) {t : Bool} → t ≡ ltb 65536 (length bs) → t ≡ true → told (Err Long) ≡ total_of (check bs)
long-refuses bs says is = read-refuses bs LONG 0 (sym (read-long bs (ltb-true 65536 (length bs) (sym says ∙ is))))

-- SHAPE, TYPE or REACH refused
pub forms-refuse : (bs : List ℕ) (tab : Table) → Prepared bs tab → (n p : ℕ) → refused n p ≡ forms_of bs → refused n p ≡ total_of (check bs)
forms-refuse bs tab h n p e = sym (ap total_of (check-refused bs tab h n p (sym e)))

module _ (bs : List ℕ) (tab : Table) (f : Formed bs tab) where
  -- GAP or CLASH refused
  pub faults-refuse : (n p : ℕ) → refused n p ≡ faults (sheet_of bs) 0 (elements (sheet_of bs)) → refused n p ≡ total_of (check bs)
  faults-refuse n p e =
      sym (ap total_of (check-formed bs tab f ∙ ap (λ (a : Answer (Unit {0})). next a (λ _. accepted (sheet_of bs))) (sym e)))

  -- nothing refused
  pub all_pass : accepted tt ≡ faults (sheet_of bs) 0 (elements (sheet_of bs)) → check bs ≡ accepted (sheet_of bs)
  all_pass e = check-formed bs tab f ∙ ap (λ (a : Answer (Unit {0})). next a (λ _. accepted (sheet_of bs))) (sym e)

  points-total : (s : Sheet) → Record.points (map (λ x. x.head) s) ≡ total s
  points-total [] = refl
  points-total (x ∷ s) = ap (λ n. size x.head.box + n) (points-total s)

  pub total_is : (n : ℕ) → accepted n ≡ read_answer bs → n ≡ total (sheet_of bs)
  total_is n e =
      let read_is = f.placed.prepared.accepted in
      let heads = (bodies-read (raw_of bs) bs f.placed.shaped).heads_are in
      let told : accepted n ≡ accepted (Record.points (heads_of bs)) = e ∙ ap answer_of read_is in
      let same : n ≡ Record.points (heads_of bs) = cc in
      same ∙ ap Record.points (sym heads) ∙ points-total (sheet_of bs)

  pub total-told : (n : ℕ) → accepted n ≡ read_answer bs → accepted tt ≡ faults (sheet_of bs) 0 (elements (sheet_of bs)) →
      accepted n ≡ total_of (check bs)
  total-told n e g = ap accepted (total_is n e) ∙ sym (ap total_of (all_pass g))

-- ---- what a refusal and an acceptance leave

pub refused-admits : (bs : List ℕ) (tab : Table) (inside : List Bool) (r : Result ℕ Refusal) (k : Refusal) → r ≡ Err k →
    refused (number_of k) (place_of k) ≡ total_of (check bs) →
    Admits bs tab inside r
refused-admits bs tab inside r k e a =
    record { answer = ap told e ∙ a; admitted = λ n q. absurd (let z : ◌≡◌ {A = ℕ} 0 1 = cc in omega arith) }

-- a refusal before the elements are looked at
refused-forms : (bs : List ℕ) (tab : Table) (r : Result ℕ Refusal) (k : Refusal) → r ≡ Err k → refused (number_of k) (place_of k) ≡ total_of (check bs) → Begins bs tab r
refused-forms bs tab r k e a = record {
  refuses = λ j q. subst (λ (v : Result ℕ Refusal). told v ≡ total_of (check bs)) (sym e ∙ q) a;
  formed = λ n q. absurd (let z : ◌≡◌ {A = ℕ} 0 1 = cc in omega arith);
  read = λ n q. absurd (let z : ◌≡◌ {A = ℕ} 0 1 = cc in omega arith);
}

-- reading refused
pub read-forms : (bs : List ℕ) (tab : Table) (r : Result ℕ Refusal) (k : Refusal) → r ≡ Err k → told r ≡ read_answer bs → Begins bs tab r
read-forms bs tab r k e a = refused-forms bs tab r k e (read-refuses bs (number_of k) (place_of k) (sym (ap told e) ∙ a))

-- SHAPE, TYPE or REACH refused
pub rules-form : (bs : List ℕ) (tab₀ tab : Table) (f : Result (Unit {0}) Refusal) (k : Refusal) → Prepared bs tab₀ → f ≡ Err k → told f ≡ forms_of bs →
    Begins bs tab (Err k)
rules-form bs tab₀ tab f k h e a =
    refused-forms bs tab (Err k) k refl (forms-refuse bs tab₀ h (number_of k) (place_of k) (sym (ap told e) ∙ a))

-- none did
pub all-form : (bs : List ℕ) (tab : Table) (r : Result ℕ Refusal) (n : ℕ) → Formed bs tab → r ≡ Ok n → told r ≡ read_answer bs → Begins bs tab (Ok n)
all-form bs tab r n f e a = record {
  refuses = λ k q. absurd (let z : ◌≡◌ {A = ℕ} 0 1 = cc in omega arith);
  formed = λ m q. f;
  read = λ m q. subst (λ (v : Result ℕ Refusal). told v ≡ read_answer bs) (e ∙ q) a;
}

-- GAP or CLASH refused
pub faults-admit : (bs : List ℕ) (tab : Table) (inside : List Bool) (g : Result (Unit {0}) Refusal) (k : Refusal) → Formed bs tab → g ≡ Err k →
    told g ≡ faults (sheet_of bs) 0 (elements (sheet_of bs)) → Admits bs tab inside (Err k)
faults-admit bs tab inside g k f e a =
    refused-admits bs tab inside (Err k) k refl (faults-refuse bs tab f (number_of k) (place_of k) (sym (ap told e) ∙ a))

-- nothing refused
pub all-admit : (bs : List ℕ) (tab : Table) (inside : List Bool) (n : ℕ) (g : Result (Unit {0}) Refusal) → Formed bs tab → Inside (sheet_of bs) inside →
    accepted n ≡ read_answer bs → g ≡ Ok tt → told g ≡ faults (sheet_of bs) 0 (elements (sheet_of bs)) → Admits bs tab inside (Ok n)
all-admit bs tab inside n g f i a p q =
    let pass : accepted tt ≡ faults (sheet_of bs) 0 (elements (sheet_of bs)) = sym (ap told p) ∙ q in
    record {
      answer = total-told bs tab f n a pass;
      admitted = λ m h. record { sheet_is = all_pass bs tab f pass; formed = f; filled = i };
    }

-- after reading, the walkers may walk
pub prepared-after : (bs : List ℕ) (tab : Table) (r : Result ℕ Refusal) (n : ℕ) → r ≡ Ok n → Reads bs tab r → Prepared bs tab
prepared-after bs tab r n e h = read-prepared bs tab n (subst (Reads bs tab) e h)

-- what was told before the elements were looked at is told of the whole
pub forms-accept : (bs : List ℕ) (tab : Table) (r : Result ℕ Refusal) (k : Refusal) → r ≡ Err k → Begins bs tab r → Accepts bs tab r
forms-accept bs tab r k e h = record { inside = []; admits = refused-admits bs tab [] r k e (h.refuses k e) }
