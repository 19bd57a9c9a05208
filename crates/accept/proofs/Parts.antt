-- Where a variable's body stands. Assumes nothing.
use Rattle.std.specs.Prelude.{Option, Some, None, Result, Ok, Err}
use Rattle.std.specs.Result.{result_ok}
use mathlib.Core.Path.{◌≡◌, refl, sym, ap, ◌∙◌}
use Prim.Native.Nat.{ℕ, ◌+◌, ◌-◌, ◌≤◌, ◌<◌}
use native.Mathlib.Omega.{arith}
use mathlib.Core.Bool.{false}
use mathlib.Core.List.{List}
use lib.ListN.{length, get_or, get_or-eq_default}
use Rattle.alpha.specs.Pick.{ifb}
use Rattle.alpha.specs.Answer.{Answer, accepted, refused}
use Rattle.alpha.specs.Sheet.{Sheet}
use Rattle.alpha.specs.Read.{no_head}
use Rattle.alpha.specs.Kinds.{kind_meant}
use Rattle.alpha.specs.declared.kind.Kind.{Kind}
use Rattle.alpha.specs.declared.kind.Kind.TheVariants.{Input}
use Rattle.alpha.specs.Holds.{no_variable, variable, is_input, is_input_kind}
use Rattle.alpha.specs.Check.{check}
use Rattle.alpha.specs.Ask as Ask
use Rattle.alpha.specs.Ask.{no_part, part_of, part_in, body_part}
use Rattle.alpha.specs.Promise.{total_of}
use Rattle.alpha.specs.Verdict.{number_of, place_of, told}
use Rattle.alpha.specs.declared.Refusal.{Refusal}
use Rattle.laws.specs.Sheets.{heads_of, vars_of, sheet_of}
use Rattle.laws.proofs.Shapes.{at_long, at_there}
use Rattle.tree.specs.Formed.{Formed}
use Rattle.tree.proofs.Passing.{input-is, other-is}
use Rattle.accept.specs.declared.Part.{Part}
use Rattle.accept.specs.Shown.{IsPart}
use Rattle.sheet.specs.declared.table.Table.{Table}

abbrev made : Ask.Part → Option Part
made x = Some (record { start = x.start; len = x.len })

-- two answers that tell of the same part of a sheet are the same
pub part-one : (bs : List ℕ) (part : Ask.Part) (p q : Option Part) → IsPart bs part p → IsPart bs part q → p ≡ q
part-one bs part (Some p) (Some q) a b = ap made (sym a.is ∙ b.is)
part-one bs part (Some p) None a b = absurd (omega (arith, ap (λ x. x.len) (sym a.is ∙ b.is), a.there.0))
part-one bs part None (Some q) a b = absurd (omega (arith, ap (λ x. x.len) (sym b.is ∙ a.is), b.there.0))
part-one bs part None None a b = refl

module _ (bs : List ℕ) (tab : Table) (f : Formed bs tab) (v : ℕ) where
  pub unknown-part : vars_of bs ≤ v → part_of (sheet_of bs) v ≡ no_part
  unknown-part h =
      ap (λ x. ifb (is_input x) (λ _. no_part) (λ _. record { start = x.start; len = x.end - x.start }))
      (get_or-eq_default (sheet_of bs) no_variable {n = v} (omega (arith, f.placed.many)))

  module _ (lt : v < vars_of bs) (k : Kind) (is : (get_or (heads_of bs) v no_head).kind ≡ kind_meant k) where
    kind-is : is_input (variable (sheet_of bs) v) ≡ is_input_kind (kind_meant k)
    kind-is = ap (λ h. is_input_kind h.kind) (f.placed.head_is v lt) ∙ ap is_input_kind is

    pub input-part : k ≡ Input → part_of (sheet_of bs) v ≡ no_part
    input-part e = rw (kind-is ∙ input-is k e) refl

    module _ (n : k ≡ Input → ⊥) where
      no_input : is_input (variable (sheet_of bs) v) ≡ false
      no_input = kind-is ∙ other-is k n

      long : (variable (sheet_of bs) v).start + 8 ≤ (variable (sheet_of bs) v).end
      long =
          let b = f.placed.body v lt no_input in
          at_long (vars_of bs) bs (variable (sheet_of bs) v).body (variable (sheet_of bs) v).start (variable (sheet_of bs) v).end b.at

      inside : (variable (sheet_of bs) v).end ≤ length bs
      inside =
          let b = f.placed.body v lt no_input in at_there (vars_of bs) bs (variable (sheet_of bs) v).body (variable (sheet_of bs) v).start
          (variable (sheet_of bs) v).end b.at

      start_is : get_or tab.bodies v 0 ≡ (variable (sheet_of bs) v).start
      start_is = f.placed.starts v lt

      end_is : get_or tab.bodies (v + 1) 0 ≡ (variable (sheet_of bs) v).end
      end_is = f.placed.ends v lt

      pub places-ordered : get_or tab.bodies v 0 ≤ get_or tab.bodies (v + 1) 0
      places-ordered = omega (arith, start_is, end_is, long)

      pub body-part : (p : Part) → p.start ≡ get_or tab.bodies v 0 → p.len ≡ get_or tab.bodies (v + 1) 0 - get_or tab.bodies v 0 →
          IsPart bs (part_of (sheet_of bs) v) (Some p)
      body-part p a b =
          let len : p.len ≡ (variable (sheet_of bs) v).end - (variable (sheet_of bs) v).start = omega (arith, b, start_is, end_is) in
          record {
            is = rw (no_input, a ∙ start_is, len) refl;
            there = (omega (arith, len, long), omega (arith, a, len, start_is, long, inside));
          }

-- no part
pub no-part : (bs : List ℕ) (part : Ask.Part) (p : Option Part) → part ≡ no_part → IsPart bs no_part p → IsPart bs part p
no-part bs part p e h = record { is = e ∙ h.is; there = h.there }

-- the sheet is refused, or accepted
pub refused-part : (bs : List ℕ) (v : ℕ) (r : Result ℕ Refusal) (k : Refusal) → r ≡ Err k → told r ≡ total_of (check bs) → body_part bs v ≡ no_part
unfolding body_part
refused-part bs v r k e a = go (check bs) (sym (ap told e) ∙ a)
  where
    go : (c : Answer Sheet) → refused (number_of k) (place_of k) ≡ total_of c → part_in c v ≡ no_part
    go (accepted s) h = absurd (let z : ◌≡◌ {A = ℕ} 0 1 = cc in omega arith)
    go (refused n p) h = refl

pub refused-none : (bs : List ℕ) (v : ℕ) (r : Result ℕ Refusal) → None ≡ result_ok r → told r ≡ total_of (check bs) → body_part bs v ≡ no_part
refused-none bs v (Ok n) e a = absurd (let z : ◌≡◌ {A = ℕ} 0 1 = cc in omega arith)
refused-none bs v (Err k) e a = refused-part bs v (Err k) k refl a

pub ok-some : (r : Result ℕ Refusal) (n : ℕ) → Some n ≡ result_ok r → r ≡ Ok n
ok-some (Ok m) n e = cc
ok-some (Err k) n e = absurd (let z : ◌≡◌ {A = ℕ} 0 1 = cc in omega arith)

pub accepted-part : (bs : List ℕ) (v : ℕ) → check bs ≡ accepted (sheet_of bs) → body_part bs v ≡ part_of (sheet_of bs) v
unfolding body_part
accepted-part bs v e = ap (λ c. part_in c v) e
