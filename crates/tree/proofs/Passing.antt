-- A rule over all variables in order, variable by variable; and what is known of a variable of a sheet whose bodies are placed.
-- Assumes nothing.
use Rattle.std.specs.Prelude.{Result, Ok, Err}
use mathlib.Core.Path.{◌≡◌, refl, sym, ap, ◌∙◌, subst}
use Prim.Native.Nat.{ℕ, zero, suc, ◌+◌, ◌≤◌, ◌<◌}
use native.Mathlib.Omega.{arith}
use mathlib.Core.Bool.{Bool, true, false, ◌||◌}
use mathlib.Core.List.{List}
use lib.ListN.{length, get_or, drop, drop_of_length-le}
use lib.Seq.{drop-cons}
use Rattle.alpha.specs.Pick.{ifb}
use Rattle.alpha.specs.Answer.{Answer, accepted, refused}
use Rattle.alpha.specs.Sheet.{Variable, Sheet}
use Rattle.alpha.specs.Read.{no_head}
use Rattle.alpha.specs.declared.kind.Kind.{Kind}
use Rattle.alpha.specs.declared.kind.Kind.TheVariants.{Input, Output, Local}
use Rattle.alpha.specs.Kinds.{kind_meant}
use Rattle.alpha.specs.Reach.{top_reach, all_reach, reach}
use Rattle.alpha.specs.Holds.{no_variable, variable, is_input_kind, is_input}
use Rattle.alpha.specs.Check.{first, reached}
use Rattle.alpha.specs.Verdict.{told}
use Rattle.alpha.specs.declared.Refusal.{Refusal}
use Rattle.laws.specs.Sheets.{heads_of, vars_of, sheet_of}
use Rattle.laws.proofs.Tests.{&&-right}
use Rattle.tree.specs.Ruled.{rule_at, FirstRefusal}
use Rattle.tree.specs.Standing.{Standing}
use Rattle.tree.specs.Formed.{BodiesPlaced}
use Rattle.tree.proofs.Heading.{prepared-sections}
use Rattle.sheet.specs.declared.table.Table.{Table}

-- ---- all variables

module _ (code : ℕ) (test : Variable → Bool) (s : Sheet) where
  -- what is answered from variable v on is the answer
  pub record Reached (v : ℕ) : Type 0 where
    pub decides : first code test v (drop v s) ≡ first code test 0 s

  pub none-tested : Reached 0
  none-tested = record { decides = refl }

  module _ (v : ℕ) (h : Reached v) where
    pub all_pass : length s ≤ v → accepted tt ≡ first code test 0 s
    unfolding first
    all_pass l = sym (ap (first code test v) (drop_of_length-le s l)) ∙ h.decides

    module _ (lt : v < length s) where
      one : first code test v (drop v s) ≡ ifb (test (variable s v)) (λ _. first code test (suc v) (drop (suc v) s)) (λ _. refused code v)
      unfolding first
      one = ap (first code test v) (drop-cons s v no_variable lt)

      pub one-fails : test (variable s v) ≡ false → refused code v ≡ first code test 0 s
      one-fails e = sym (one ∙ rw e) ∙ h.decides

      pub one_passes : test (variable s v) ≡ true → Reached (v + 1)
      one_passes e =
          let n : suc v ≡ v + 1 = omega arith in
          record { decides = subst (λ w. first code test w (drop w s) ≡ first code test 0 s) n (sym (one ∙ rw e) ∙ h.decides) }

  -- P is what the rule answers at each variable
  module _ (P : ℕ → Result (Unit {0}) Refusal → Type 0)
      (says : (v : ℕ) → v < length s → (r : Result (Unit {0}) Refusal) → P v r → told r ≡ rule_at code test s v) where
    passes : (v : ℕ) → v < length s → P v (Ok tt) → test (variable s v) ≡ true
    passes v lt p = go (test (variable s v)) (says v lt (Ok tt) p)
      where
        go : (b : Bool) → ◌≡◌ {A = Answer (Unit {0})} (accepted tt) (ifb b (λ _. accepted tt) (λ _. refused code v)) → b ≡ true
        go true e = refl
        go false e = cc

    abbrev tells : Refusal → Answer (Unit {0})
    tells e = told (Err e)

    refuses : (v : ℕ) (e : Refusal) → v < length s → P v (Err e) → (test (variable s v) ≡ false) × (tells e ≡ refused code v)
    refuses v e lt p = go (test (variable s v)) (says v lt (Err e) p)
      where
        go : (b : Bool) → tells e ≡ ifb b (λ _. accepted tt) (λ _. refused code v) → (b ≡ false) × (tells e ≡ refused code v)
        go true h = absurd cc
        go false h = (refl, h)

    reached-at : (v : ℕ) → v ≤ length s → ((j : ℕ) → j < v → P j (Ok tt)) → Reached v
    reached-at zero l h = none-tested
    reached-at (suc v) l h =
        let e : v + 1 ≡ suc v = omega arith in
        rw e at (one_passes v (reached-at v (omega arith) (λ j lt. h j (omega arith))) (omega arith) (passes v (omega arith) (h v (omega arith))))

    first-of : (n : ℕ) → n ≡ length s → (r : Result (Unit {0}) Refusal) → FirstRefusal P n r → told r ≡ first code test 0 s
    first-of n e (Ok u) h = all_pass n (reached-at n (omega arith) (h.passes refl)) (omega arith)
    first-of n e (Err x) h =
        let f = h.refuses x refl in
        let refused = refuses f.at x (omega (arith, f.below)) f.refuses in
        refused.1 ∙ one-fails f.at (reached-at f.at (omega (arith, f.below)) f.before) (omega (arith, f.below)) refused.0

-- where P is what a rule answers at each variable, its first refusal is the answer
pub first-decides : {P : ℕ → Result (Unit {0}) Refusal → Type 0} (n : ℕ) (r : Result (Unit {0}) Refusal) → FirstRefusal P n r →
    (code : ℕ) (test : Variable → Bool) (s : Sheet) → n ≡ length s →
    ((v : ℕ) → v < length s → (r : Result (Unit {0}) Refusal) → P v r → told r ≡ rule_at code test s v) → told r ≡ first code test 0 s
first-decides n r h code test s e says = first-of code test s _ says n e r h

-- ---- a variable of a sheet whose bodies are placed

pub input-is : (k : Kind) → k ≡ Input → is_input_kind (kind_meant k) ≡ true
input-is k e = rw e

pub other-is : (k : Kind) → (k ≡ Input → ⊥) → is_input_kind (kind_meant k) ≡ false
other-is Input n = absurd (n refl)
other-is Output n = refl
other-is Local n = refl

module _ (bs : List ℕ) (tab : Table) (h : BodiesPlaced bs tab) (v : ℕ) (lt : v < vars_of bs) where
  pub few : v ≤ 32
  few = omega (arith, (prepared-sections bs tab h.prepared).few)

  pub is-input : (k : Kind) → (get_or (heads_of bs) v no_head).kind ≡ kind_meant k → k ≡ Input → is_input (variable (sheet_of bs) v) ≡ true
  is-input k e z = ap (λ x. is_input_kind x.kind) (h.head_is v lt) ∙ ap is_input_kind e ∙ input-is k z

  pub no_input : (k : Kind) → (get_or (heads_of bs) v no_head).kind ≡ kind_meant k → (k ≡ Input → ⊥) → is_input (variable (sheet_of bs) v) ≡ false
  no_input k e n = ap (λ x. is_input_kind x.kind) (h.head_is v lt) ∙ ap is_input_kind e ∙ other-is k n

  -- the body stands where the table says
  pub body-standing : is_input (variable (sheet_of bs) v) ≡ false → (p : ℕ) → p ≡ get_or tab.bodies v 0 → Standing (vars_of bs) bs p 2048
  body-standing i p e =
      let b = h.body v lt i in
      rw (e ∙ h.starts v lt) (record { tree = (variable (sheet_of bs) v).body; end = (variable (sheet_of bs) v).end; at = b.at; few = b.few; most = omega arith })

-- a body that passes REACH does so from the top
pub body-reaches : (x : Variable) → is_input x ≡ false → reached x ≡ true → reach x.body top_reach ≡ true
body-reaches x i h = rw i at (&&-right (all_reach top_reach x.declared) (is_input x || reach x.body top_reach) h)
