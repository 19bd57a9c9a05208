-- Elements by their numbers: what an element is, its body, and the ways through the evaluator of elements and through a variable.
-- Assumes nothing.
use mathlib.Core.Path.{◌≡◌, refl, sym, ap, ◌∙◌, subst}
use Prim.Native.Nat.{ℕ, suc, ◌+◌, ◌≤◌, ◌<◌}
use native.Mathlib.Decide.{ℕ_discrete}
use native.Mathlib.Omega.{arith}
use mathlib.Core.Bool.{true, false, ◌&&◌}
use mathlib.Core.List.{List, []}
use lib.ListN.{length, get_or, length-set}
use lib.IntN.{ℤ, pos, nat_abs}
use borrow.Author.Tests.{eqb-true}
use Rattle.alpha.specs.declared.Outcome as Declared
use Rattle.alpha.specs.declared.Outcome.TheVariants as Outcomes
use Rattle.alpha.specs.Field.{field}
use Rattle.alpha.specs.Sheet.{Expr, Expr.var, Sheet, Point, Range}
use Rattle.alpha.specs.Affine.{meets_all}
use Rattle.alpha.specs.Box.{in_box, index, point_at}
use Rattle.alpha.specs.Read.{dimension}
use Rattle.alpha.specs.Shape.{fits}
use Rattle.alpha.specs.Holds.{variable, is_input, in_domain}
use Rattle.alpha.specs.Check.{total}
use Rattle.alpha.specs.Outcome.{outside, loop, eval, outcome}
use Rattle.laws.specs.At.{node_end, At}
use Rattle.laws.specs.Sheets.{heads_of, vars_of, sheet_of}
use Rattle.laws.proofs.Boxes.{index-low, point_at-index}
use Rattle.laws.proofs.Elements.{number-low, element-of-number}
use Rattle.laws.proofs.Growth.{outcome-outside, outcome-none, outcome-body}
use Rattle.laws.proofs.Readers.{counted_is}
use Rattle.laws.proofs.Shapes.{at-var}
use Rattle.laws.proofs.Tests.{true-not-false}
use Rattle.integer.specs.Range as Range
use Rattle.affine.specs.Value.{point_of, Padded}
use Rattle.sheet.specs.declared.table.Table.{Table}
use Rattle.sheet.specs.Record.{dimension_at}
use Rattle.points.specs.Number.{box_of, number_in}
use Rattle.tree.specs.declared.LeafKind.TheVariants.{Variable}
use Rattle.tree.specs.Classes.{leaf_code}
use Rattle.tree.specs.Formed.{Formed}
use Rattle.tree.proofs.Classes.{coded-field}
use Rattle.tree.proofs.Fitting.{variable-known}
use Rattle.domain.specs.Walk.{Walk}
use Rattle.domain.specs.Held.{Held}
use Rattle.domain.proofs.Records.{VariableLaid, laid-of, laid-variable}
use Rattle.domain.proofs.Leaves.{Numbered, at-numbered, off-outside, number_is}
use Rattle.domain.proofs.Bodying.{body-walk}
use Rattle.domain.proofs.Carried.{held_by}
use Rattle.std.specs.Prelude.{Result, Ok, Err, Some, None, is_ok}
use Rattle.evaluate.specs.declared.Awaited.{Awaited}
use Rattle.evaluate.specs.declared.Stop.{Stop}
use Rattle.evaluate.specs.declared.Stop.TheVariants.{NoValue, Awaits}
use Rattle.evaluate.specs.declared.Worked.{Worked}
use Rattle.evaluate.specs.Memo.{Work, busy, unknown, element, Memo, code_at, value_at, saved_at, count, Tells, Right, Waits, Says, Known}
use Rattle.evaluate.specs.Memo.{noted, stored}
use Rattle.evaluate.specs.Working.{element_at, outcomes, expression, Bodied, Ready, WorksOut, ElementIs, HeldLeaf, answer_of, Ends, Gives, EvaluatesAt}
use Rattle.evaluate.specs.Settling.{body_of}
use Rattle.evaluate.proofs.Entries.{loop-decoded}
use Rattle.evaluate.proofs.Stores.{decide, code_same, code_other, kept_same, kept-stored, still-busy, in-last, wanted-stored, sized-noted}
use Rattle.evaluate.proofs.Stores.{sized-kept, busy-loops, right-mark, waits-mark, said-stored}
use Rattle.evaluate.proofs.Doing.{element-grows, ready-sized, done-same, done-outside}
use Rattle.evaluate.proofs.Operands.{some-variable, held-noded}

module _ (bs : List ℕ) (tab : Table) (F : Formed bs tab) (v e : ℕ) (z : List ℤ) (I : ElementIs bs v e z) where
  abbrev sheet : Sheet
  sheet = sheet_of bs

  abbrev point : Point
  point = point_of (dimension (heads_of bs) v) z

  abbrev box : List Range
  box = (variable sheet v).head.box

  laid : VariableLaid bs tab v
  laid = laid-variable bs tab F.placed v I.known

  -- ---- what the element is

  pub element-is : element_at sheet e ≡ record { who = v; at = point }
  element-is = ap (element_at sheet) I.number ∙ element-of-number sheet v point (record { who = 0; at = [] }) laid.known I.in-box

  pub element-low : e < total sheet
  element-low = omega (arith, I.number, number-low sheet v point laid.known I.in-box)

  pub outcome-is : (ins : List ℤ) (k : ℕ) → outcomes sheet ins k e ≡ outcome k sheet ins v point
  outcome-is ins k = ap (λ x. outcome k sheet ins x.who x.at) element-is

  -- ---- its body

  module _ (B : Bodied sheet (element_at sheet e)) where
    bodied : Bodied sheet (record { who = v; at = point })
    bodied = subst (Bodied sheet) element-is B

    pub no_input : is_input (variable sheet v) ≡ false
    no_input = bodied.no_input

    pub starts : (ins : List ℤ) → outcomes sheet ins 0 e ≡ loop
    starts ins = outcome-is ins 0 ∙ outcome-none sheet ins v point bodied.domain bodied.no_input

    pub steps : (ins : List ℤ) (k : ℕ) → outcomes sheet ins (suc k) e ≡ expression sheet ins (variable sheet v).body point k
    steps ins k = outcome-is ins (suc k) ∙ outcome-body sheet ins v point bodied.domain bodied.no_input k

    element-walk : (place : ℕ) → place ≡ get_or tab.bodies v 0 → Walk bs place 2048 z
    element-walk place is =
        body-walk bs tab v (index box point) laid (index-low box point I.in-box) F (record { known = I.known; no_input = no_input }) z
        (record {
          is =
              ap (λ n. point_of n z) laid.dims-are ∙ sym (point_at-index box point I.in-box)
              ∙ ap (λ b. point_at b (index box point)) (sym laid.box-is);
          rest = subst (λ n. Padded n z) (sym laid.dims-are) I.rest;
        })
        place is

    -- it holds there, and what was worked out at its place
    module _ (place : ℕ) (place_is : place ≡ get_or tab.bodies v 0) where
      body-at : At (variable sheet v).body (vars_of bs) bs place (variable sheet v).end
      body-at = rw (place_is ∙ F.placed.starts v I.known) (F.placed.body v I.known no_input).at

      body-fits : fits (variable sheet v).body (heads_of bs) (dimension (heads_of bs) v) ≡ true
      body-fits =
          let wide : length box ≡ dimension (heads_of bs) v = ap (λ x. length x.box) laid.head_is in
          rw wide at (F.placed.body v I.known no_input).fitting

      pub element-held : Held bs place 2048 z
      element-held =
          held_by bs place 2048 z (variable sheet v).body (variable sheet v).end (dimension (heads_of bs) v) body-at body-fits
          (element-walk place place_is) bodied.clear

      pub body-evaluated : (memo last : Memo) (r : Result Worked Stop) → EvaluatesAt bs place z memo last r →
          WorksOut sheet memo last (λ ins. expression sheet ins (variable sheet v).body point) (answer_of r)
      body-evaluated memo last r E = (E (variable sheet v).body (variable sheet v).end (dimension (heads_of bs) v) body-at body-fits).done

    pub body-by-number : (memo last : Memo) (r : Work) → WorksOut sheet memo last (λ ins. expression sheet ins (variable sheet v).body point) r →
        WorksOut sheet memo last (body_of sheet e) r
    body-by-number memo last r D =
        done-same sheet memo last (body_of sheet e) (λ ins. expression sheet ins (variable sheet v).body point) r
        (λ ins k. ap (λ x. expression sheet ins (variable sheet x.who).body x.at k) element-is) D

  -- ---- the ways

  module _ (memo : Memo) (M : Ready sheet memo) where
    in-memo : e < length memo.codes
    in-memo = omega (arith, M.few, M.codes_long, element-low)

    -- what the memo has: a settled element's outcome, and an element in progress waits for itself
    known-way : (o : Declared.Outcome) → code_at memo e ≤ busy → Range.Says o (saved_at memo e) →
        WorksOut sheet memo memo (λ ins. element (outcomes sheet ins) e) (Ok o)
    unfolding Says
    known-way o l says = record {
      kept = kept_same memo;
      wanted = tt;
      small = says.small;
      said = λ ins R W. record { right = R; says = subst (Tells (element (outcomes sheet ins) e) (count memo)) (sym says.is) (tells ins R W) };
    }
      where
        tells : (ins : List ℤ) → Right (outcomes sheet ins) (total sheet) memo →
            Waits (outcomes sheet ins) (total sheet) memo (element (outcomes sheet ins) e) →
            Tells (element (outcomes sheet ins) e) (count memo) (saved_at memo e)
        tells ins R W = decide (code_at memo e) busy (ℕ_discrete (code_at memo e) busy)
            (λ is.
            let loops =
            busy-loops (outcomes sheet ins) (element-grows sheet ins) (total sheet) memo e element-low is
            (starts (M.opens e element-low (omega (arith, is))) ins) W in
            record { is = loops (count memo) ∙ loop-decoded (code_at memo e) (value_at memo e) (omega (arith, is)); stuck = λ _. loops })
            (λ other. R.settled e element-low (omega (arith, l, other)))

    -- an unknown element
    pub late-code : (r : Work) → Known memo e r → is_ok r ≡ false → unknown ≤ code_at memo e
    late-code (Ok o) k is = true-not-false {b = true} refl is
    late-code (Err d) k is = k.0

    module _ (late : unknown ≤ code_at memo e) where
      fresh : code_at memo e ≡ unknown
      fresh = omega (arith, M.low e)

      open-body : Bodied sheet (element_at sheet e)
      open-body = M.opens e element-low (omega (arith, late))

      -- that has to be worked out first
      deep-way : (d : Awaited) → d.element ≡ e → WorksOut sheet memo memo (λ ins. element (outcomes sheet ins) e) (Err d)
      unfolding Says
      deep-way d is = record {
        kept = kept_same memo;
        wanted = rw is (element-low, fresh);
        small = tt;
        said = λ ins R W. record { right = R; says = λ k l. ap (outcomes sheet ins k) (sym is) ∙ l };
      }

      abbrev marked : Memo
      marked = noted memo e busy (pos 0)

      pub ready_marked : Ready sheet marked
      ready_marked = record {
        codes_long = simp length-set M.codes_long;
        values_long = simp length-set M.values_long;
        few = M.few;
        low = λ m. decide m e (ℕ_discrete m e)
            (λ same. rw (same, code_same memo e busy (pos 0) in-memo) (omega arith))
            (λ other. rw (code_other memo e busy (pos 0) m other) (M.low m));
        opens = λ m h u. decide m e (ℕ_discrete m e)
            (λ same. rw same open-body)
            (λ other. M.opens m h (rw (code_other memo e busy (pos 0) m other) at u));
      }

      pub open-held : (place : ℕ) → place ≡ get_or tab.bodies v 0 → Held bs place 2048 z
      open-held place is = element-held open-body place is

      -- that is worked out by its body
      module _ (place : ℕ) (place_is : place ≡ get_or tab.bodies v 0) (last : Memo) (a : Result Worked Stop)
          (E : EvaluatesAt bs place z marked last a) (r : Work) (is : r ≡ answer_of a) where
        pub body-done : WorksOut sheet marked last (λ ins. expression sheet ins (variable sheet v).body point) r
        body-done = rw is (body-evaluated open-body place place_is marked last a E)

        pub worked-way : WorksOut sheet memo (stored last e r) (λ ins. element (outcomes sheet ins) e) r
        worked-way = record {
          kept = kept-stored memo e in-memo fresh last body-done.kept r;
          wanted = wanted-stored (total sheet) last e r (in-last memo e in-memo fresh last body-done.kept) body-done.wanted;
          small = body-done.small;
          said = λ ins R W.
              let out = outcomes sheet ins in
              let grows = element-grows sheet ins in
              let body = expression sheet ins (variable sheet v).body point in
              let S = ready-sized sheet memo M in
              let marked-sized = sized-noted (total sheet) memo e busy (pos 0) S in
              let first = starts open-body ins in
              let then = steps open-body ins in
              let D = body-done.said ins (right-mark out grows (total sheet) e element-low body first then memo S fresh R)
              (waits-mark out grows (total sheet) e element-low body first then memo S fresh W) in
              said-stored out grows (total sheet) e element-low body first then last
              (sized-kept (total sheet) marked last marked-sized body-done.kept)
              (still-busy memo e in-memo fresh last body-done.kept) r D;
        }

    -- what the memo answers
    pub had-answer : (r : Work) → Known memo e r → WorksOut sheet memo memo (λ ins. element (outcomes sheet ins) e) r
    had-answer (Ok o) k = known-way o k.0 k.1
    had-answer (Err d) k = deep-way k.0 d k.1

-- ---- a variable at a point

module _ (bs : List ℕ) (tab : Table) (F : Formed bs tab) (p left : ℕ) (z : List ℤ) (t : HeldLeaf Variable bs p left z) (v : ℕ)
    (number : v ≡ nat_abs (field bs (p + 8))) where
  -- any tree there is this variable
  record Named (e : Expr) (q n : ℕ) : Type 0 where
    is : e ≡ var v
    end : node_end (vars_of bs) bs p ≡ q
    wide : dimension (heads_of bs) v ≡ n

  named : (e : Expr) (q n : ℕ) → At e (vars_of bs) bs p q → fits e (heads_of bs) n ≡ true → Named e q n
  named e q n h f =
      let x = at-var (vars_of bs) bs e p q h (coded-field bs e p q h (leaf_code Variable) t.code_is) in
      let same : x.number ≡ v = counted_is x.stands ∙ sym number in
      record { is = x.is ∙ ap var same; end = x.end; wide = wide (rw (x.is ∙ ap var same) at f) }
    where
      wide : fits (var v) (heads_of bs) n ≡ true → dimension (heads_of bs) v ≡ n
      wide g = unfold fits in eqb-true (dimension (heads_of bs) v) n g

  pub number-known : v < vars_of bs
  number-known = omega (arith, number, variable-known bs p (held-noded bs p left z t.leaf.held) t.code_is (some-variable bs tab F))

  there : VariableLaid bs tab v
  there = laid-variable bs tab F.placed v number-known

  abbrev here : Point
  here = point_of (dimension (heads_of bs) v) z

  -- the tree by the variable's outcome
  variable-same : (e : Expr) (q n : ℕ) → Named e q n → (ins : List ℤ) (k : ℕ) →
      expression (sheet_of bs) ins e (point_of n z) k ≡ outcome k (sheet_of bs) ins v here
  unfolding eval
  variable-same e q n x ins k =
      ap (λ t. expression (sheet_of bs) ins t (point_of n z) k) x.is ∙ ap (λ d. outcome k (sheet_of bs) ins v (point_of d z)) (sym x.wide)

  -- off its box
  pub off-way : (memo : Memo) → None ≡ number_in (box_of bs (get_or tab.records v 0)) (point_of (dimension_at bs (get_or tab.records v 0)) z) →
      EvaluatesAt bs p z memo memo (Err (NoValue Outcomes.Outside))
  off-way memo off e q n h f =
      let x = named e q n h f in
      let outer : in_box (variable (sheet_of bs) v).head.box here ≡ false =
      off-outside (variable (sheet_of bs) v).head.box here (number_is bs tab v z (laid-of there) None off) in
      let undeclared : in_domain (variable (sheet_of bs) v) here ≡ false = ap (λ b. b && meets_all (variable (sheet_of bs) v).declared here) outer in
      record {
        done = done-same (sheet_of bs) memo memo (λ ins. expression (sheet_of bs) ins e (point_of n z)) (λ ins k. outside) (Ok Outcomes.Outside)
            (λ ins k. variable-same e q n x ins k ∙ outcome-outside (sheet_of bs) ins k v here undeclared) (done-outside (sheet_of bs) memo);
        ends = record { next = λ w g. cc; none = λ s g y is. cc };
      }

  -- at an element
  module _ (i : ℕ) (at : Some i ≡ number_in (box_of bs (get_or tab.records v 0)) (point_of (dimension_at bs (get_or tab.records v 0)) z)) where
    numbered : Numbered (variable (sheet_of bs) v).head.box here i
    numbered = at-numbered (variable (sheet_of bs) v).head.box here i (number_is bs tab v z (laid-of there) (Some i) at)

    pub named-element : (e : ℕ) → e ≡ get_or tab.firsts v 0 + i → ElementIs bs v e z
    named-element e is = record {
      known = number-known;
      in-box = numbered.inside;
      number = omega (arith, is, there.first_is, numbered.is);
      rest = let w = t.leaf.held.walk in rw (named w.tree w.end w.dims w.at w.fitting).wide w.point.padded;
    }

    pub number-few : get_or tab.firsts v 0 + i < 4096
    number-few = omega (arith, numbered.is, there.first_is, index-low (variable (sheet_of bs) v).head.box here numbered.inside, there.few)

    module _ (e : ℕ) (is : e ≡ get_or tab.firsts v 0 + i) (memo last : Memo) where
      variable-done : (r : Work) → WorksOut (sheet_of bs) memo last (λ ins. element (outcomes (sheet_of bs) ins) e) r →
          (tree : Expr) (q n : ℕ) → Named tree q n → WorksOut (sheet_of bs) memo last (λ ins. expression (sheet_of bs) ins tree (point_of n z)) r
      variable-done r D tree q n x =
          done-same (sheet_of bs) memo last (λ ins. expression (sheet_of bs) ins tree (point_of n z)) (λ ins. element (outcomes (sheet_of bs) ins) e) r
          (λ ins k. variable-same tree q n x ins k ∙ sym (outcome-is bs tab F v e z (named-element e is) ins k)) D

      -- it has an outcome
      pub variable-way : (o : Declared.Outcome) → WorksOut (sheet_of bs) memo last (λ ins. element (outcomes (sheet_of bs) ins) e) (Ok o) →
          (k : ℕ) → k ≡ node_end (vars_of bs) bs p → (r : Result Worked Stop) → Gives o k r → EvaluatesAt bs p z memo last r
      variable-way o D k next r g tree q n h f =
          let x = named tree q n h f in
          record { done = rw g.answer (variable-done (Ok o) D tree q n x); ends = subst (λ j. Ends j r) (next ∙ x.end) g.ends }

      -- another has to be worked out first
      pub variable-awaits : (d : Awaited) → WorksOut (sheet_of bs) memo last (λ ins. element (outcomes (sheet_of bs) ins) e) (Err d) →
          EvaluatesAt bs p z memo last (Err (Awaits d))
      variable-awaits d D tree q n h f =
          record { done = variable-done (Err d) D tree q n (named tree q n h f); ends = record { next = λ w g. cc; none = λ s g y same. cc } }
