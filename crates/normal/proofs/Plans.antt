-- The totals of the normal form: what a body's branches take together is what its normal form takes, against the limits; and the ways
-- through the totals over the variables. Assumes nothing.
use mathlib.Core.Path.{◌≡◌, refl, sym, ap, ap₂, ◌∙◌, subst, fun_ext}
use Prim.Native.Nat.{ℕ, suc, ◌+◌, ◌≤◌, ◌<◌}
use native.Mathlib.Omega.{arith}
use mathlib.Core.Logic.{⊎_elim}
use mathlib.Core.Bool.{Bool, true, false}
use mathlib.Core.List.{List, [], ◌∷◌, ◌++◌}
use lib.ListN.{length, get_or, drop, length-append, get_or-eq_default, drop_of_length-le}
use lib.Seq.{drop-cons}
use lib.Dec.{leb}
use borrow.Author.Tests.{leb-true, le-leb}
use Rattle.std.specs.Prelude.{Result, Ok, Err}
use Rattle.alpha.specs.Pick.{ifb}
use Rattle.alpha.specs.Answer.{Answer, accepted, refused, WIDE}
use Rattle.alpha.specs.Field.{nat}
use Rattle.alpha.specs.Read.{no_head, dimension}
use Rattle.alpha.specs.Holds.{no_variable, variable, is_input}
use Rattle.alpha.specs.Written.{branch_count, bytes, all_bytes, node_count, node_counts, depth, depths}
use Rattle.alpha.specs.Verdict.{number_of, place_of}
use Rattle.alpha.specs.declared.Refusal.{Refusal}
use Rattle.alpha.specs.declared.Refusal.TheVariants.{Wide}
use Rattle.alpha.specs.Normal.{Branch, norm, as_exprs, body_case}
use Rattle.alpha.specs.Normalise.{dims, branches_of, normal_body, narrow, keeps_limits, Body, written, write_bodies}
use Rattle.laws.specs.Sheets.{heads_of, vars_of, sheet_of}
use Rattle.laws.proofs.Rewritten.{limits}
use Rattle.laws.proofs.Tests.{&&-left, &&-right, &&-true}
use Rattle.affine.proofs.Several.{lt-or-le}
use Rattle.tree.specs.Standing.{Standing}
use Rattle.tree.specs.Formed.{BodyStands, Formed}
use Rattle.normal.specs.declared.Mode.TheVariants.{Measure}
use Rattle.normal.specs.declared.Taken.{Taken}
use Rattle.normal.specs.declared.Totals.{Totals}
use Rattle.normal.specs.Count.{capped}
use Rattle.normal.specs.Counted.{Counts}
use Rattle.normal.specs.Body.{both, total, branches_in, BodyAt, IsBody, PutsFrom}
use Rattle.normal.specs.Plan.{front_of, sized, Small, Grows, PlansFrom}
use Rattle.normal.proofs.Numbered.{count-is}
use Rattle.normal.proofs.Bodies.{bytes_are}
use Rattle.normal.proofs.Laying.{two-long}
use Rattle.sheet.specs.declared.table.Table.{Table}

-- ---- branches together

module _ (n : ℕ) where
  nodes_are : (xs : List Branch) → node_counts (as_exprs n xs) ≡ (total n xs).nodes
  unfolding node_counts
  nodes_are [] = refl
  nodes_are (x ∷ xs) = omega (arith, nodes_are xs)

  narrow-yes : (xs : List Branch) → (total n xs).limits ≤ 64 → narrow xs ≡ true
  narrow-yes [] h = refl
  narrow-yes (x ∷ xs) h = &&-true (le-leb (length x.given) 64 (omega arith)) (narrow-yes xs (omega arith))

  narrow-no : (xs : List Branch) → narrow xs ≡ true → (total n xs).limits ≤ 64
  narrow-no [] h = omega arith
  narrow-no (x ∷ xs) h =
      omega (
        arith,
        leb-true (length x.given) 64 (&&-left (leb (length x.given) 64) (narrow xs) h),
        narrow-no xs (&&-right (leb (length x.given) 64) (narrow xs) h),
      )

  deep-yes : (xs : List Branch) → (total n xs).deep ≤ 30 → depths (as_exprs n xs) ≤ 31
  unfolding depths
  deep-yes [] h = omega arith
  deep-yes (x ∷ xs) h = omega (arith, deep-yes xs (omega arith))

  deep-no : (xs : List Branch) → depths (as_exprs n xs) ≤ 31 → (total n xs).deep ≤ 30
  unfolding depths
  deep-no [] h = omega arith
  deep-no (x ∷ xs) h = omega (arith, deep-no xs (omega arith))

  body-nodes : (xs : List Branch) → node_count (body_case n xs) ≡ 1 + (total n xs).nodes
  unfolding node_count
  body-nodes xs = omega (arith, nodes_are xs)

  body_bytes : (xs : List Branch) → length (bytes (body_case n xs)) ≡ 16 + (total n xs).bytes
  unfolding bytes
  body_bytes xs =
      length-append (nat 6 ++ nat (branch_count (as_exprs n xs))) (all_bytes (as_exprs n xs))
      ∙ omega (arith, two-long 6 (branch_count (as_exprs n xs)), bytes_are n xs)

  body-depth : (xs : List Branch) → depth (body_case n xs) ≡ suc (depths (as_exprs n xs))
  unfolding depth
  body-depth xs = refl

  -- ---- the five limits

  pub keeps : (xs : List Branch) (k b : ℕ) → k ≤ 2048 → length xs ≤ 64 → (total n xs).limits ≤ 64 → (total n xs).deep ≤ 30 → b ≤ 65536 →
      keeps_limits xs (body_case n xs) k b ≡ true
  keeps xs k b a c d e f =
      &&-true (&&-true (&&-true (&&-true (le-leb k 2048 a) (le-leb (length xs) 64 c)) (narrow-yes xs d))
      (le-leb (depth (body_case n xs)) 32 (omega (arith, body-depth xs, deep-yes xs e)))) (le-leb b 65536 f)

  pub breaks : (xs : List Branch) (k b : ℕ) →
      ((k ≤ 2048) → (length xs ≤ 64) → ((total n xs).limits ≤ 64) → ((total n xs).deep ≤ 30) → (b ≤ 65536) → ⊥) →
      keeps_limits xs (body_case n xs) k b ≡ false
  breaks xs k b bad = go (keeps_limits xs (body_case n xs) k b) refl
    where
      kept : keeps_limits xs (body_case n xs) k b ≡ true → ⊥
      kept h =
          let l = limits xs (body_case n xs) k b h in
          bad l.nodes_low l.branches-low (narrow-no xs l.tight) (deep-no xs (omega (arith, l.deep-low, body-depth xs))) l.bytes_low

      go : (d : Bool) → keeps_limits xs (body_case n xs) k b ≡ d → d ≡ false
      go true e = absurd (kept e)
      go false e = refl

-- ---- a body of the sheet

module _ (bs : List ℕ) (tab : Table) (f : Formed bs tab) where
  dims-are : dims (sheet_of bs) ≡ (λ v. dimension (heads_of bs) v)
  dims-are = fun_ext (λ v. ⊎_elim (λ lt. ap (λ h. length h.box) (f.placed.head_is v lt)) (λ le. past v le) (lt-or-le v (vars_of bs)))
    where
      past : (v : ℕ) → vars_of bs ≤ v → length (variable (sheet_of bs) v).head.box ≡ dimension (heads_of bs) v
      past v le =
          ap (λ x. length x.head.box) (get_or-eq_default (sheet_of bs) no_variable {n = v} (omega (arith, f.placed.many)))
          ∙ ap (λ h. length h.box) (sym (get_or-eq_default (heads_of bs) no_head {n = v} le))

  module _ (v : ℕ) (lt : v < vars_of bs) (body : is_input (variable (sheet_of bs) v) ≡ false) where
    stands : BodyStands bs (variable (sheet_of bs) v)
    stands = f.placed.body v lt body

    -- its place and its dimension, as the code has them
    module _ (at n : ℕ) (place : at ≡ get_or tab.bodies v 0) (dim : n ≡ dimension (heads_of bs) v) where
      start_is : at ≡ (variable (sheet_of bs) v).start
      start_is = place ∙ f.placed.starts v lt

      dim-is : n ≡ length (variable (sheet_of bs) v).head.box
      dim-is = dim ∙ ap (λ h. length h.box) (sym (f.placed.head_is v lt))

      pub body-standing : Standing (vars_of bs) bs at 2048
      body-standing = record {
        tree = (variable (sheet_of bs) v).body;
        end = (variable (sheet_of bs) v).end;
        at = rw start_is stands.at;
        few = stands.few;
        most = omega arith;
      }

      pub branches-are : branches_in bs (variable (sheet_of bs) v).body ≡ branches_of (sheet_of bs) (variable (sheet_of bs) v)
      branches-are = ap (norm (variable (sheet_of bs) v).body) (sym dims-are)

      module _ (many : ℕ) (counted : Counts bs at many) where
        pub count-capped : many ≡ capped (length (branches_of (sheet_of bs) (variable (sheet_of bs) v)))
        count-capped =
            counted.1 (variable (sheet_of bs) v).body (variable (sheet_of bs) v).end (rw start_is stands.at)
            ∙ ap capped (count-is (dimension (heads_of bs)) (variable (sheet_of bs) v).body ∙ ap length branches-are)

        pub body-at : many ≤ 64 → n ≤ 4 → BodyAt bs at 2048 n many
        body-at low few = record {
          tree = (variable (sheet_of bs) v).body;
          end = (variable (sheet_of bs) v).end;
          at = rw start_is stands.at;
          few = stands.few;
          left_low = omega arith;
          fitting = rw dim-is stands.fitting;
          reaches = f.body_reach v lt body;
          narrow = few;
          count = let c = counted.1 (variable (sheet_of bs) v).body (variable (sheet_of bs) v).end (rw start_is stands.at) in omega arith;
          low = low;
        }

        pub body_is : many ≤ 64 → IsBody bs at n many (variable (sheet_of bs) v).body
        body_is low = record {
          end = (variable (sheet_of bs) v).end;
          at = rw start_is stands.at;
          fitting = rw dim-is stands.fitting;
          count = let c = counted.1 (variable (sheet_of bs) v).body (variable (sheet_of bs) v).end (rw start_is stands.at) in omega arith;
        }

        pub normal-is : body_case n (branches_of (sheet_of bs) (variable (sheet_of bs) v)) ≡ normal_body (sheet_of bs) (variable (sheet_of bs) v)
        normal-is = ap (λ k. body_case k (branches_of (sheet_of bs) (variable (sheet_of bs) v))) dim-is

        module _ (nodes size : ℕ) where
          wide_at : keeps_limits (branches_of (sheet_of bs) (variable (sheet_of bs) v)) (normal_body (sheet_of bs) (variable (sheet_of bs) v))
              (nodes + node_count (normal_body (sheet_of bs) (variable (sheet_of bs) v)))
              (size + length (bytes (normal_body (sheet_of bs) (variable (sheet_of bs) v)))) ≡ false →
              Grows bs v nodes size (Err (Wide v))
          wide_at e = record { is = rw e refl; small = tt }

          breaks-at : ((nodes + node_count (normal_body (sheet_of bs) (variable (sheet_of bs) v)) ≤ 2048) →
              (length (branches_of (sheet_of bs) (variable (sheet_of bs) v)) ≤ 64) →
              ((total n (branches_of (sheet_of bs) (variable (sheet_of bs) v))).limits ≤ 64) →
              ((total n (branches_of (sheet_of bs) (variable (sheet_of bs) v))).deep ≤ 30) →
              (size + length (bytes (normal_body (sheet_of bs) (variable (sheet_of bs) v))) ≤ 65536) → ⊥) → Grows bs v nodes size (Err (Wide v))
          breaks-at bad =
              wide_at (subst (λ e. keeps_limits (branches_of (sheet_of bs) (variable (sheet_of bs) v)) e
              (nodes + node_count (normal_body (sheet_of bs) (variable (sheet_of bs) v)))
              (size + length (bytes (normal_body (sheet_of bs) (variable (sheet_of bs) v)))) ≡ false) normal-is
              (breaks n (branches_of (sheet_of bs) (variable (sheet_of bs) v)) (nodes + node_count (normal_body (sheet_of bs) (variable (sheet_of bs) v)))
              (size + length (bytes (normal_body (sheet_of bs) (variable (sheet_of bs) v)))) bad))

          pub many-way : 64 < many → Grows bs v nodes size (Err (Wide v))
          many-way h = breaks-at (λ a c d e g. omega (arith, count-capped))

          -- the branches are added to the totals so far, with the case's own node and numbers
          module _ (low : many ≤ 64) (few : n ≤ 4) (l d : List ℕ) (all : Taken)
              (put : PutsFrom bs at n many 0 Measure (record { nodes = nodes + 1; bytes = size + 16; limits = 0; deep = 0 }) l d all) where
            sums : all ≡ both (record { nodes = nodes + 1; bytes = size + 16; limits = 0; deep = 0 })
                (total n (branches_of (sheet_of bs) (variable (sheet_of bs) v)))
            sums =
                (put (variable (sheet_of bs) v).body (body_is low)).taken_is
                ∙ ap (λ xs. both (record { nodes = nodes + 1; bytes = size + 16; limits = 0; deep = 0 }) (total n xs)) branches-are

            all-nodes : nodes + node_count (normal_body (sheet_of bs) (variable (sheet_of bs) v)) ≡ all.nodes
            all-nodes =
                omega (
                  arith,
                  ap node_count normal-is,
                  body-nodes n (branches_of (sheet_of bs) (variable (sheet_of bs) v)),
                  ap (λ z. z.nodes) sums,
                )

            all-bytes : size + length (bytes (normal_body (sheet_of bs) (variable (sheet_of bs) v))) ≡ all.bytes
            all-bytes =
                omega (
                  arith,
                  ap (λ e. length (bytes e)) normal-is,
                  body_bytes n (branches_of (sheet_of bs) (variable (sheet_of bs) v)),
                  ap (λ z. z.bytes) sums,
                )

            pub wide-way : ((all.nodes ≤ 2048) → (all.limits ≤ 64) → (all.deep ≤ 30) → (all.bytes ≤ 65536) → ⊥) → Grows bs v nodes size (Err (Wide v))
            wide-way bad =
                breaks-at (λ a c d e g.
                let limits-are = ap (λ z. z.limits) sums in
                let deep_is = ap (λ z. z.deep) sums in
                bad (omega (arith, all-nodes)) (omega arith) (omega arith) (omega (arith, all-bytes)))

            pub fits-way : all.nodes ≤ 2048 → all.limits ≤ 64 → all.deep ≤ 30 → all.bytes ≤ 65536 →
                Grows bs v nodes size (Ok (record { nodes = all.nodes; bytes = all.bytes }))
            fits-way a b c d =
                let limits-are = ap (λ z. z.limits) sums in
                let deep_is = ap (λ z. z.deep) sums in
                let short : length (branches_of (sheet_of bs) (variable (sheet_of bs) v)) ≤ 64 = omega (arith, count-capped) in
                let kept =
                subst (λ e. keeps_limits (branches_of (sheet_of bs) (variable (sheet_of bs) v)) e all.nodes all.bytes ≡ true) normal-is
                (keeps n (branches_of (sheet_of bs) (variable (sheet_of bs) v)) all.nodes all.bytes a short (omega (arith, b)) (omega (arith, c)) d) in
                record { is = rw (all-nodes, all-bytes, kept) refl; small = (a, d) }

-- ---- the variables one after another

abbrev IsRefused : Answer Totals → Type 0
IsRefused (accepted z) = ⊥
IsRefused (refused i j) = Unit {0}

told-apart : {i j : ℕ} {z : Totals} → ◌≡◌ {A = Answer Totals} (refused i j) (accepted z) → ⊥
told-apart p = subst IsRefused p tt

abbrev size_in : Answer Totals → Totals
size_in (accepted z) = z
size_in (refused i j) = record { nodes = 0; bytes = 0 }

module _ (bs : List ℕ) (tab : Table) (f : Formed bs tab) (v nodes size : ℕ) where
  -- the first of those from number v on
  pub split-variables : v < vars_of bs → drop v (sheet_of bs) ≡ variable (sheet_of bs) v ∷ drop (v + 1) (sheet_of bs)
  split-variables lt =
      let step : suc v ≡ v + 1 = omega arith in
      drop-cons (sheet_of bs) v no_variable (omega (arith, f.placed.many)) ∙ ap (λ k. variable (sheet_of bs) v ∷ drop k (sheet_of bs)) step

  pub no-variables : vars_of bs ≤ v → drop v (sheet_of bs) ≡ []
  no-variables le = drop_of_length-le (sheet_of bs) {i = v} (omega (arith, f.placed.many))

  pub plan-none : vars_of bs ≤ v → nodes ≤ 2048 → size ≤ 65536 → PlansFrom bs v nodes size (Ok (record { nodes = nodes; bytes = size }))
  unfolding write_bodies
  plan-none le a b = record {
    is = λ w n s. ap₂ (λ i j. accepted (record { nodes = i; bytes = j })) (sym n) (sym s)
        ∙ ap (λ l. sized (front_of bs) (write_bodies (sheet_of bs) (front_of bs) v l w)) (sym (no-variables le));
    small = (a, b);
  }

  module _ (lt : v < vars_of bs) where
    step : (w : Body) → write_bodies (sheet_of bs) (front_of bs) v (variable (sheet_of bs) v ∷ drop (v + 1) (sheet_of bs)) w
        ≡ ifb (is_input (variable (sheet_of bs) v)) (λ _. write_bodies (sheet_of bs) (front_of bs) (v + 1) (drop (v + 1) (sheet_of bs)) w) (λ _.
        ifb (keeps_limits (branches_of (sheet_of bs) (variable (sheet_of bs) v)) (normal_body (sheet_of bs) (variable (sheet_of bs) v))
        (w.nodes + node_count (normal_body (sheet_of bs) (variable (sheet_of bs) v)))
        (front_of bs + length (w.out ++ bytes (normal_body (sheet_of bs) (variable (sheet_of bs) v)))))
        (λ _. write_bodies (sheet_of bs) (front_of bs) (v + 1) (drop (v + 1) (sheet_of bs))
        (written w (normal_body (sheet_of bs) (variable (sheet_of bs) v)))) (λ _. refused WIDE v))
    unfolding write_bodies
    step w = let e : suc v ≡ v + 1 = omega arith in
        ap (λ k. ifb (is_input (variable (sheet_of bs) v)) (λ _. write_bodies (sheet_of bs) (front_of bs) k (drop (v + 1) (sheet_of bs)) w) (λ _.
        ifb (keeps_limits (branches_of (sheet_of bs) (variable (sheet_of bs) v)) (normal_body (sheet_of bs) (variable (sheet_of bs) v))
        (w.nodes + node_count (normal_body (sheet_of bs) (variable (sheet_of bs) v)))
        (front_of bs + length (w.out ++ bytes (normal_body (sheet_of bs) (variable (sheet_of bs) v)))))
        (λ _. write_bodies (sheet_of bs) (front_of bs) k (drop (v + 1) (sheet_of bs)) (written w (normal_body (sheet_of bs) (variable (sheet_of bs) v))))
        (λ _. refused WIDE v))) e

    pub plan-input : (r : Result Totals Refusal) → is_input (variable (sheet_of bs) v) ≡ true → PlansFrom bs (v + 1) nodes size r → PlansFrom bs v nodes size r
    plan-input r i h = record {
      is = λ w n s. h.is w n s ∙ ap (sized (front_of bs)) (sym (skipped w));
      small = h.small;
    }
      where
        skipped : (w : Body) → write_bodies (sheet_of bs) (front_of bs) v (drop v (sheet_of bs)) w
            ≡ write_bodies (sheet_of bs) (front_of bs) (v + 1) (drop (v + 1) (sheet_of bs)) w
        skipped w = ap (λ l. write_bodies (sheet_of bs) (front_of bs) v l w) (split-variables lt) ∙ step w ∙ rw i refl

    module _ (body : is_input (variable (sheet_of bs) v) ≡ false) where
      -- what the definition does with the body
      grown-is : (w : Body) → w.nodes ≡ nodes → front_of bs + length w.out ≡ size → (t : Bool) →
          keeps_limits (branches_of (sheet_of bs) (variable (sheet_of bs) v)) (normal_body (sheet_of bs) (variable (sheet_of bs) v))
          (nodes + node_count (normal_body (sheet_of bs) (variable (sheet_of bs) v)))
          (size + length (bytes (normal_body (sheet_of bs) (variable (sheet_of bs) v)))) ≡ t →
          write_bodies (sheet_of bs) (front_of bs) v (drop v (sheet_of bs)) w
          ≡ ifb t (λ _. write_bodies (sheet_of bs) (front_of bs) (v + 1) (drop (v + 1) (sheet_of bs))
          (written w (normal_body (sheet_of bs) (variable (sheet_of bs) v)))) (λ _. refused WIDE v)
      grown-is w n s t e =
          let x = normal_body (sheet_of bs) (variable (sheet_of bs) v) in
          let long : front_of bs + length (w.out ++ bytes x) ≡ size + length (bytes x) = omega (arith, length-append w.out (bytes x)) in
          ap (λ l. write_bodies (sheet_of bs) (front_of bs) v l w) (split-variables lt) ∙ step w ∙ rw (body, n, long, e) refl

      pub plan-wide : (k : Refusal) → Grows bs v nodes size (Err k) → PlansFrom bs v nodes size (Err k)
      plan-wide k g = go (keeps_limits (branches_of (sheet_of bs) (variable (sheet_of bs) v)) (normal_body (sheet_of bs) (variable (sheet_of bs) v))
          (nodes + node_count (normal_body (sheet_of bs) (variable (sheet_of bs) v)))
          (size + length (bytes (normal_body (sheet_of bs) (variable (sheet_of bs) v))))) refl g.is
        where
          go : (t : Bool) → keeps_limits (branches_of (sheet_of bs) (variable (sheet_of bs) v)) (normal_body (sheet_of bs) (variable (sheet_of bs) v))
              (nodes + node_count (normal_body (sheet_of bs) (variable (sheet_of bs) v)))
              (size + length (bytes (normal_body (sheet_of bs) (variable (sheet_of bs) v)))) ≡ t →
              ◌≡◌ {A = Answer Totals} (refused (number_of k) (place_of k)) (ifb t (λ _. accepted (record {
                nodes = nodes + node_count (normal_body (sheet_of bs) (variable (sheet_of bs) v));
                bytes = size + length (bytes (normal_body (sheet_of bs) (variable (sheet_of bs) v)));
              })) (λ _. refused WIDE v)) → PlansFrom bs v nodes size (Err k)
          go true e h = absurd (told-apart h)
          go false e h = record { is = λ w n s. h ∙ sym (ap (sized (front_of bs)) (grown-is w n s false e)); small = tt }

      pub plan-more : (sum : Totals) (r : Result Totals Refusal) → Grows bs v nodes size (Ok sum) → PlansFrom bs (v + 1) sum.nodes sum.bytes r →
          PlansFrom bs v nodes size r
      plan-more sum r g rest = go (keeps_limits (branches_of (sheet_of bs) (variable (sheet_of bs) v)) (normal_body (sheet_of bs) (variable (sheet_of bs) v))
          (nodes + node_count (normal_body (sheet_of bs) (variable (sheet_of bs) v)))
          (size + length (bytes (normal_body (sheet_of bs) (variable (sheet_of bs) v))))) refl g.is
        where
          go : (t : Bool) → keeps_limits (branches_of (sheet_of bs) (variable (sheet_of bs) v)) (normal_body (sheet_of bs) (variable (sheet_of bs) v))
              (nodes + node_count (normal_body (sheet_of bs) (variable (sheet_of bs) v)))
              (size + length (bytes (normal_body (sheet_of bs) (variable (sheet_of bs) v)))) ≡ t →
              ◌≡◌ {A = Answer Totals} (accepted sum) (ifb t (λ _. accepted (record {
                nodes = nodes + node_count (normal_body (sheet_of bs) (variable (sheet_of bs) v));
                bytes = size + length (bytes (normal_body (sheet_of bs) (variable (sheet_of bs) v)));
              })) (λ _. refused WIDE v)) → PlansFrom bs v nodes size r
          go true e h =
              let z = normal_body (sheet_of bs) (variable (sheet_of bs) v) in
              let xs : sum.nodes ≡ nodes + node_count z = ap (λ a. (size_in a).nodes) h in
              let ys : sum.bytes ≡ size + length (bytes z) = ap (λ a. (size_in a).bytes) h in
              record {
                is =
                    λ w n s. rest.is (written w z) (omega arith) (omega (arith, length-append w.out (bytes z)))
                    ∙ sym (ap (sized (front_of bs)) (grown-is w n s true e));
                small = rest.small;
              }
          go false e h = absurd (told-apart (sym h))

      -- as the code has the answer
      pub plan-stops : (p : Result Totals Refusal) (k : Refusal) → p ≡ Err k → Grows bs v nodes size p → PlansFrom bs v nodes size p
      plan-stops p k e g = subst (PlansFrom bs v nodes size) (sym e) (plan-wide k (subst (Grows bs v nodes size) e g))

      pub plan-goes : (p : Result Totals Refusal) (sum : Totals) (r : Result Totals Refusal) → p ≡ Ok sum → Grows bs v nodes size p →
          PlansFrom bs (v + 1) sum.nodes sum.bytes r → PlansFrom bs v nodes size r
      plan-goes p sum r e g rest = plan-more sum r (subst (Grows bs v nodes size) e g) rest

pub small-total : (p : Result Totals Refusal) (sum : Totals) → p ≡ Ok sum → Small p → (sum.nodes ≤ 2048) × (sum.bytes ≤ 65536)
small-total p sum e h = subst Small e h
