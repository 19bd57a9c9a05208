-- The bodies of the normal form, stored one after another: the ways through. Assumes nothing.
use mathlib.Core.Path.{◌≡◌, refl, sym, ap, ◌∙◌, subst}
use Prim.Native.Nat.{ℕ, ◌+◌, ◌^◌, ◌≤◌, ◌<◌}
use native.Mathlib.Omega.{arith}
use mathlib.Core.Bool.{true, false}
use mathlib.Core.List.{List, ◌++◌}
use lib.ListN.{length, get_or, length-append}
use lib.Seq.{sets, length-sets}
use Rattle.alpha.specs.Pick.{ifb}
use Rattle.alpha.specs.Field.{nat}
use Rattle.alpha.specs.Read.{dimension}
use Rattle.alpha.specs.Holds.{variable, is_input}
use Rattle.alpha.specs.Written.{bytes, all_bytes}
use Rattle.alpha.specs.Normal.{Branch, as_exprs}
use Rattle.alpha.specs.Normalise.{branches_of}
use Rattle.laws.specs.Sheets.{heads_of, vars_of, sheet_of}
use Rattle.laws.specs.Normal.{body_bytes}
use Rattle.laws.proofs.Trees.{at-unique}
use Rattle.laws.proofs.NormalWritable.{branch_count-as_exprs}
use Rattle.tree.specs.Formed.{Formed}
use Rattle.normal.specs.Counted.{Counts}
use Rattle.normal.specs.declared.Mode.TheVariants.{Store}
use Rattle.normal.specs.declared.Taken.{Taken}
use Rattle.normal.specs.Followed.{room_of}
use Rattle.normal.specs.Body.{branches_in, IsBody, PutsFrom, BodyFits}
use Rattle.normal.specs.Stored.{Room, Stored, body_of, bodies_from, Writes, WritesFrom}
use Rattle.normal.proofs.Laying.{sets-after, length-nat, two-long}
use Rattle.normal.proofs.Bodies.{bytes_are}
use Rattle.normal.proofs.Plans.{body_is, count-capped, branches-are, normal-is, split-variables, no-variables}
use Rattle.sheet.specs.declared.table.Table.{Table}

module _ (bs : List ℕ) (tab : Table) (v : ℕ) (h : Writes bs tab v) (at n : ℕ) (place : at ≡ get_or tab.bodies v 0) (dim : n ≡ dimension (heads_of bs) v) (many : ℕ)
    (counted : Counts bs at many) where
  x : List Branch
  x = branches_of (sheet_of bs) (variable (sheet_of bs) v)

  many_is : many ≡ length (branches_of (sheet_of bs) (variable (sheet_of bs) v))
  many_is = let c = count-capped bs tab h.formed v h.known h.body at n place dim many counted in omega (arith, h.few)

  pub few-branches : many ≤ 64
  few-branches = omega (arith, many_is, h.few)

  -- the two numbers of the case, and its branches
  body-cut : body_of bs v ≡ nat 6 ++ nat many ++ all_bytes (as_exprs n (branches_in bs (variable (sheet_of bs) v).body))
  unfolding bytes
  body-cut =
      let xs = branches_of (sheet_of bs) (variable (sheet_of bs) v) in
      ap bytes (sym (normal-is bs tab h.formed v h.known h.body at n place dim many counted))
      ∙ ap (λ k. nat 6 ++ nat k ++ all_bytes (as_exprs n xs)) (branch_count-as_exprs n xs ∙ sym many_is)
      ∙ ap (λ l. nat 6 ++ nat many ++ all_bytes (as_exprs n l)) (sym (branches-are bs tab h.formed v h.known h.body at n place dim))

  body-long : length (body_of bs v) ≡ 16 + length (all_bytes (as_exprs n (branches_in bs (variable (sheet_of bs) v).body)))
  body-long =
      ap length body-cut ∙ length-append (nat 6 ++ nat many) (all_bytes (as_exprs n (branches_in bs (variable (sheet_of bs) v).body)))
      ∙ omega (arith, two-long 6 many)

  here : IsBody bs at n many (variable (sheet_of bs) v).body
  here = body_is bs tab h.formed v h.known h.body at n place dim many counted few-branches

  pub body-stored : (l : List ℕ) (to : ℕ) {a b d : List ℕ} {r : Taken} → a ≡ sets l to (nat 6) → b ≡ sets a (to + 8) (nat many) →
      PutsFrom bs at n many 0 Store (record { nodes = 0; bytes = to + 16; limits = 0; deep = 0 }) b d r → Stored (body_of bs v) to l d r.bytes
  body-stored l to first second put =
      let xs = branches_in bs (variable (sheet_of bs) v).body in
      let stored = put (variable (sheet_of bs) v).body here in (
        sets-after l to 16 (nat 6 ++ nat many) (all_bytes (as_exprs n xs)) (two-long 6 many)
            (sets-after l to 8 (nat 6) (nat many) (length-nat 6) first second) stored.out_is
            ∙ ap (sets l to) (sym body-cut),
        omega (arith, ap (λ z. z.bytes) stored.taken_is, bytes_are n xs, body-long),
      )

  pub head-room : (l : List ℕ) (to : ℕ) → Room (body_of bs v) to l → (to + 16 ≤ 2 ^ 40) × (to + 16 ≤ length l)
  head-room l to room = (omega (arith, room, body-long), omega (arith, room, body-long))

  -- room for all of its branches, whatever tree the code may take it for
  pub branch-rooms : (l b : List ℕ) (to : ℕ) → length b ≡ length l → Room (body_of bs v) to l →
      BodyFits bs at n many 0 (record { nodes = 0; bytes = to + 16; limits = 0; deep = 0 }) (room_of Store b)
  branch-rooms l b to same room e i =
      let one = (at-unique (vars_of bs) bs at e (variable (sheet_of bs) v).body i.end here.end i.at here.at).tree_is in
      let long = ap (λ t. length (all_bytes (as_exprs n (branches_in bs t)))) one in
      record { nodes_low = omega arith; fits_room = omega (arith, room, body-long) }

-- ---- the variables one after another

pub bodies-none : (bs : List ℕ) (tab : Table) → Formed bs tab → (v : ℕ) (l : List ℕ) (to : ℕ) → vars_of bs ≤ v → Stored (bodies_from bs v) to l l to
bodies-none bs tab formed v l to le =
    let none = ap (body_bytes (sheet_of bs)) (no-variables bs tab formed v 0 0 le) in
    (ap (sets l to) (sym none), omega (arith, ap length none))

module _ (bs : List ℕ) (tab : Table) (v : ℕ) (h : WritesFrom bs tab v) where
  module _ (lt : v < vars_of bs) where
    pub next-writes : WritesFrom bs tab (v + 1)
    next-writes = record { formed = h.formed; known = omega arith; few = h.few }

    bodies_are : bodies_from bs v ≡ ifb (is_input (variable (sheet_of bs) v)) (λ _. bodies_from bs (v + 1)) (λ _. body_of bs v ++ bodies_from bs (v + 1))
    bodies_are = ap (body_bytes (sheet_of bs)) (split-variables bs tab h.formed v 0 0 lt)

    module _ (input : is_input (variable (sheet_of bs) v) ≡ true) where
      passed : bodies_from bs v ≡ bodies_from bs (v + 1)
      passed = bodies_are ∙ ap (λ t. ifb t (λ _. bodies_from bs (v + 1)) (λ _. body_of bs v ++ bodies_from bs (v + 1))) input

      pub input-room : (l : List ℕ) (to : ℕ) → Room (bodies_from bs v) to l → Room (bodies_from bs (v + 1)) to l
      input-room l to room = subst (λ x. Room x to l) passed room

      pub input-stored : (l : List ℕ) (to : ℕ) {d : List ℕ} {r : ℕ} → Stored (bodies_from bs (v + 1)) to l d r → Stored (bodies_from bs v) to l d r
      input-stored l to {d} {r} stored = subst (λ x. Stored x to l d r) (sym passed) stored

    module _ (body : is_input (variable (sheet_of bs) v) ≡ false) where
      pub writes_body : Writes bs tab v
      writes_body = record { formed = h.formed; known = lt; body = body; few = h.few v lt body }

      cut : bodies_from bs v ≡ body_of bs v ++ bodies_from bs (v + 1)
      cut = bodies_are ∙ ap (λ t. ifb t (λ _. bodies_from bs (v + 1)) (λ _. body_of bs v ++ bodies_from bs (v + 1))) body

      long : length (bodies_from bs v) ≡ length (body_of bs v) + length (bodies_from bs (v + 1))
      long = ap length cut ∙ length-append (body_of bs v) (bodies_from bs (v + 1))

      pub body-room : (l : List ℕ) (to : ℕ) → Room (bodies_from bs v) to l → Room (body_of bs v) to l
      body-room l to room = omega (arith, room, long)

      pub rest-room : (l a : List ℕ) (to next : ℕ) → Room (bodies_from bs v) to l → Stored (body_of bs v) to l a next →
          Room (bodies_from bs (v + 1)) next a
      rest-room l a to next room stored =
          let same = ap length stored.0 ∙ length-sets l to (body_of bs v) in
          omega (arith, room, long, stored.1)

      pub more-stored : (l : List ℕ) (to next : ℕ) {a d : List ℕ} {r : ℕ} → Stored (body_of bs v) to l a next →
          Stored (bodies_from bs (v + 1)) next a d r → Stored (bodies_from bs v) to l d r
      more-stored l to next {a} first rest = (
        sets-after l to (length (body_of bs v)) (body_of bs v) (bodies_from bs (v + 1)) refl first.0
            (rest.0 ∙ ap (λ k. sets a k (bodies_from bs (v + 1))) first.1)
            ∙ ap (sets l to) (sym cut),
        omega (arith, first.1, rest.1, long),
      )
