-- The whole normaliser against its promise: the sheet's refusals, WIDE, ROOM, and the bytes. Assumes nothing.
use mathlib.Core.Path.{◌≡◌, refl, sym, ap, ap₂, ◌∙◌, subst}
use Prim.Native.Nat.{ℕ, ◌+◌, ◌^◌, ◌≤◌, ◌<◌, min}
use native.Mathlib.Nat.{zero-add}
use native.Mathlib.Omega.{arith}
use mathlib.Core.Bool.{true, false}
use mathlib.Core.List.{List, [], ◌++◌}
use lib.ListN.{length, drop, take, length-append}
use lib.Seq.{sets, sets-eq, length-sets, length-take-le}
use lib.Dec.{leb}
use borrow.Author.Tests.{le-leb, lt-leb}
use Rattle.std.specs.Prelude.{Result, Ok, Err}
use Rattle.alpha.specs.Answer.{Answer, accepted, refused, next}
use Rattle.alpha.specs.Field.{nat}
use Rattle.alpha.specs.Sheet.{Raw, Sheet}
use Rattle.alpha.specs.Read.{Got, got, bad, read}
use Rattle.alpha.specs.Check.{after_read, check}
use Rattle.alpha.specs.Normalise.{Body, write_bodies, normal_form, normal_after, normalise}
use Rattle.alpha.specs.Verdict.{number_of, place_of, told}
use Rattle.alpha.specs.Promise.{total_of, Normalises}
use Rattle.alpha.specs.declared.Refusal.{Refusal}
use Rattle.alpha.specs.declared.Refusal.TheVariants.{Room}
use Rattle.laws.specs.Sheets.{got_raw, raw_of, sheet_of}
use Rattle.laws.specs.Normal.{body_bytes}
use Rattle.laws.proofs.Rewritten.{Wrote, write-wrote}
use Rattle.laws.proofs.NormalAccepted.{kept_at}
use Rattle.tree.specs.Formed.{Formed}
use Rattle.tree.proofs.Heading.{prepared-sections}
use Rattle.normal.specs.declared.Totals.{Totals}
use Rattle.normal.specs.Plan.{front_of, sized, Small, PlansFrom}
use Rattle.normal.specs.Stored.{bodies_from, Stored, WritesFrom}
use Rattle.normal.specs.Planned.{Planned}
use Rattle.normal.proofs.Laying.{sets-after, length-nat}
use Rattle.sheet.specs.declared.table.Table.{Table}

-- ---- after the check

module _ (bs : List ℕ) where
  after_check : normal_after bs (read bs) ≡ next (check bs) (λ s. normal_form bs (raw_of bs) s)
  unfolding normal_after check after_read
  after_check = go (read bs)
    where
      go : (g : Got Raw) → normal_after bs g ≡ next (after_read bs g) (λ s. normal_form bs (got_raw g) s)
      go (got r p) = refl
      go (bad n p) = refl

  -- a refusal of the sheet, or of the totals
  refuses : (out : List ℕ) (k : Refusal) → normal_after bs (read bs) ≡ refused (number_of k) (place_of k) → Normalises bs out out (Err k)
  unfolding normalise
  refuses out k e = record { answer = rw e refl; out_after = rw e refl }

  refused-check : (n p : ℕ) → refused n p ≡ total_of (check bs) → check bs ≡ refused n p
  refused-check n p e = go (check bs) e
    where
      go : (a : Answer Sheet) → refused n p ≡ total_of a → a ≡ refused n p
      go (accepted s) h = absurd (let z : ◌≡◌ {A = ℕ} 0 1 = cc in omega arith)
      go (refused i j) h = ap again (sym h)
        where
          again : Answer ℕ → Answer Sheet
          again (accepted x) = accepted []
          again (refused a b) = refused a b

  pub check_refuses : (out : List ℕ) (r : Result ℕ Refusal) (k : Refusal) → r ≡ Err k → told r ≡ total_of (check bs) → Normalises bs out out (Err k)
  check_refuses out r k e h =
      refuses out k (after_check
      ∙ ap (λ a. next a (λ s. normal_form bs (raw_of bs) s)) (refused-check (number_of k) (place_of k) (sym (ap told e) ∙ h)))

  -- ---- an accepted sheet

  module _ (tab : Table) (f : Formed bs tab) (accepts : check bs ≡ accepted (sheet_of bs)) where
    form-is : normal_after bs (read bs) ≡ next (write_bodies (sheet_of bs) (front_of bs) 0 (sheet_of bs) (record { nodes = 0; out = [] })) (λ w.
        accepted (take (raw_of bs).third bs ++ nat w.nodes ++ w.out))
    unfolding normal_form
    form-is = after_check ∙ ap (λ a. next a (λ s. normal_form bs (raw_of bs) s)) accepts

    pub front-there : ((raw_of bs).third + 8 ≤ length bs)
    front-there = let s = prepared-sections bs tab f.placed.prepared in omega (arith, s.first_is, s.first_there)

    module _ (third : ℕ) (place : third ≡ tab.third) (p : Result Totals Refusal) (plans : PlansFrom bs 0 0 (third + 8) p) where
      third-is : third ≡ (raw_of bs).third
      third-is = place ∙ f.placed.prepared.table.third

      told-size : told p ≡ sized (front_of bs) (write_bodies (sheet_of bs) (front_of bs) 0 (sheet_of bs) (record { nodes = 0; out = [] }))
      told-size = plans.is (record { nodes = 0; out = [] }) refl (omega (arith, third-is))

      -- a refusal of the totals
      pub wide-refuses : (out : List ℕ) (k : Refusal) → p ≡ Err k → Normalises bs out out (Err k)
      wide-refuses out k e =
          refuses out k (form-is ∙ ap (λ a. next a (λ w. accepted (take (raw_of bs).third bs ++ nat w.nodes ++ w.out))) wide)
        where
          go : (a : Answer Body) → refused (number_of k) (place_of k) ≡ sized (front_of bs) a → a ≡ refused (number_of k) (place_of k)
          go (accepted w) h = absurd (let z : ◌≡◌ {A = ℕ} 0 1 = cc in omega arith)
          go (refused i j) h = ap again (sym h)
            where
              again : Answer Totals → Answer Body
              again (accepted x) = accepted (record { nodes = 0; out = [] })
              again (refused a b) = refused a b

          wide : write_bodies (sheet_of bs) (front_of bs) 0 (sheet_of bs) (record { nodes = 0; out = [] }) ≡ refused (number_of k) (place_of k)
          wide = go (write_bodies (sheet_of bs) (front_of bs) 0 (sheet_of bs) (record { nodes = 0; out = [] })) (sym (ap told e) ∙ told-size)

      pub plan-holds : (sum : Totals) → p ≡ Ok sum → Planned bs tab sum.nodes sum.bytes
      plan-holds sum e =
          go (write_bodies (sheet_of bs) (front_of bs) 0 (sheet_of bs) (record { nodes = 0; out = [] })) refl (sym (ap told e) ∙ told-size)
        where
          size_in : Answer Totals → Totals
          size_in (accepted z) = z
          size_in (refused i j) = record { nodes = 0; bytes = 0 }

          go : (a : Answer Body) → write_bodies (sheet_of bs) (front_of bs) 0 (sheet_of bs) (record { nodes = 0; out = [] }) ≡ a →
              ◌≡◌ {A = Answer Totals} (accepted sum) (sized (front_of bs) a) → Planned bs tab sum.nodes sum.bytes
          go (accepted w) i h = record {
            formed = f;
            sheet_is = accepts;
            whole = w;
            wrote = i;
            nodes_are = sym (ap (λ a. (size_in a).nodes) h);
            size_is = sym (ap (λ a. (size_in a).bytes) h);
            small = (subst Small e plans.small).1;
          }
          go (refused i j) k h = absurd (let z : ◌≡◌ {A = ℕ} 0 1 = cc in omega arith)

  -- ---- the bytes

  module _ (tab : Table) (nodes size : ℕ) (h : Planned bs tab nodes size) where
    whole_is : Wrote (sheet_of bs) (front_of bs) (sheet_of bs) (record { nodes = 0; out = [] }) h.whole
    whole_is = write-wrote (sheet_of bs) (front_of bs) 0 h.wrote

    is-form : normal_after bs (read bs) ≡ accepted (take (raw_of bs).third bs ++ nat nodes ++ body_bytes (sheet_of bs) (sheet_of bs))
    is-form =
        form-is tab h.formed h.sheet_is
        ∙ ap (λ a. next a (λ w. accepted (take (raw_of bs).third bs ++ nat w.nodes ++ w.out))) h.wrote
        ∙ ap₂ (λ k l. accepted (take (raw_of bs).third bs ++ nat k ++ l)) h.nodes_are whole_is.out_is

    third-long : length (take (raw_of bs).third bs) ≡ (raw_of bs).third
    third-long = length-take-le (raw_of bs).third bs (omega (arith, front-there tab h.formed h.sheet_is))

    form-long : length (take (raw_of bs).third bs ++ nat nodes ++ body_bytes (sheet_of bs) (sheet_of bs)) ≡ size
    form-long =
        length-append (take (raw_of bs).third bs ++ nat nodes) (body_bytes (sheet_of bs) (sheet_of bs))
        ∙ omega (arith, length-append (take (raw_of bs).third bs) (nat nodes), third-long, length-nat nodes, h.size_is, ap length whole_is.out_is)

    pub bodies-long : (raw_of bs).third + 8 + length (bodies_from bs 0) ≡ size
    bodies-long = omega (arith, h.size_is, ap length whole_is.out_is)

    pub writes-all : WritesFrom bs tab 0
    writes-all = record {
      formed = h.formed;
      known = omega arith;
      few = λ u lt body. (kept_at (sheet_of bs) (sheet_of bs) whole_is.kept u (omega (arith, h.formed.placed.many)) body).few-branches;
    }

    pub room-refuses : (out : List ℕ) → length out < size → Normalises bs out out (Err (Room size))
    unfolding normalise
    room-refuses out lt =
        let o = take (raw_of bs).third bs ++ nat nodes ++ body_bytes (sheet_of bs) (sheet_of bs) in
        let short : leb (length o) (length out) ≡ false = lt-leb (length o) (length out) (omega (arith, form-long)) in
        record { answer = rw (is-form, short, form-long) refl; out_after = rw (is-form, short) refl }

    module _ (out : List ℕ) (enough : size ≤ length out) (third : ℕ) (place : third ≡ tab.third) where
      at-third : third ≡ (raw_of bs).third
      at-third = place ∙ h.formed.placed.prepared.table.third

      -- what is copied is as long in the sheet as it is in what is lent
      pub copied-long : third ≡ length (take third bs)
      copied-long = sym (length-take-le third bs (omega (arith, at-third, front-there tab h.formed h.sheet_is)))

      pub lent-long : third ≡ length (take third out)
      lent-long = sym (length-take-le third out (omega (arith, at-third, form-long, bodies-long)))

      pub counted-room : (count : ℕ) (a b : List ℕ) → a ≡ sets out 0 (take count bs) → b ≡ sets a third (nat nodes) →
          third + 8 + length (bodies_from bs 0) ≤ min (2 ^ 40) (length b)
      counted-room count a b first second =
          let one = ap length first ∙ length-sets out 0 (take count bs) in
          let two = ap length second ∙ length-sets a third (nat nodes) in
          omega (arith, at-third, bodies-long, h.small, one, two)

      -- so many bytes of the sheet were copied, as many as stand before its third section
      module _ (count : ℕ) (whole : count ≡ third) where
        pub written_all : {a b d : List ℕ} {r : ℕ} → a ≡ sets out 0 (take count bs) → b ≡ sets a third (nat nodes) →
            Stored (bodies_from bs 0) (third + 8) b d r → Normalises bs out d (Ok r)
        unfolding normalise
        written_all {a} {b} {d} {r} first second stored =
            let front = take (raw_of bs).third bs in
            let all = body_bytes (sheet_of bs) (sheet_of bs) in
            let o = front ++ nat nodes ++ all in
            let lent : leb (length o) (length out) ≡ true = le-leb (length o) (length out) (omega (arith, form-long)) in
            let one : a ≡ sets out 0 front = first ∙ ap (λ k. sets out 0 (take k bs)) (whole ∙ at-third) in
            let two_at : b ≡ sets a (0 + (raw_of bs).third) (nat nodes) = second ∙ ap (λ k. sets a k (nat nodes)) (omega (arith, at-third)) in
            let two = sets-after out 0 (raw_of bs).third front (nat nodes) third-long one two_at in
            let two-long : length (front ++ nat nodes) ≡ (raw_of bs).third + 8 =
            length-append front (nat nodes) ∙ omega (arith, third-long, length-nat nodes) in
            let three-at : d ≡ sets b (0 + ((raw_of bs).third + 8)) all = stored.0 ∙ ap (λ k. sets b k all) (omega (arith, at-third)) in
            let three = sets-after out 0 ((raw_of bs).third + 8) (front ++ nat nodes) all two-long two three-at in
            let end : r ≡ length o = stored.1 ∙ omega (arith, at-third, form-long, bodies-long) in
            record {
              answer = ap accepted end ∙ rw (is-form, lent) refl;
              out_after =
                  three ∙ sets-eq o out 0 (omega (arith, form-long)) ∙ ap (λ k. o ++ drop k out) (zero-add (length o)) ∙ rw (is-form, lent) refl;
            }
