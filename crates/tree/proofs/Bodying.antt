-- The ways through SHAPE over all variables: what one body, the end of the variables and a step to the next say, from what the code has
-- found; and what is known of each variable where all pass. Assumes nothing.
use Rattle.std.specs.Prelude.{Some, None, Result, Ok, Err}
use mathlib.Core.Path.{◌≡◌, refl, sym, ap, ◌∙◌, subst}
use Prim.Native.Nat.{ℕ, zero, suc, ◌+◌, ◌≤◌, ◌<◌}
use native.Mathlib.Omega.{arith}
use mathlib.Core.Bool.{Bool, true, false}
use mathlib.Core.List.{List, [], ◌∷◌}
use lib.ListN.{length, get_or, set, drop, length-map, get_or-map, drop_of_length-le}
use lib.Seq.{drop-cons}
use Rattle.alpha.specs.Pick.{ifb}
use Rattle.alpha.specs.Answer.{Answer, accepted, refused, next, SHAPE}
use Rattle.alpha.specs.Sheet.{Kind, Kind.input, Kind.output, Kind.local, Head, Expr, Variable, Sheet}
use Rattle.alpha.specs.Read.{no_head, dimension}
use Rattle.alpha.specs.declared.kind.Kind.{Kind as Declared}
use Rattle.alpha.specs.declared.kind.Kind.TheVariants.{Input, Output, Local}
use Rattle.alpha.specs.Kinds.{kind_meant}
use Rattle.alpha.specs.Shape.{Parsed, tree, ill, expr_at, fits, of_variable, Bodied, shaped, body_of, bodies}
use Rattle.alpha.specs.Holds.{no_variable, variable, is_input}
use Rattle.alpha.specs.declared.Refusal.TheVariants.{Shape}
use Rattle.alpha.specs.declared.Refusal.{Refusal}
use Rattle.alpha.specs.Verdict.{told}
use Rattle.laws.specs.Accepted.{TreeAt, BodiesAt}
use Rattle.laws.specs.Sheets.{raw_of, heads_of, vars_of, shaped_of, accepted_sheet, sheet_of}
use Rattle.laws.proofs.Bodies.{BodiesRead, bodies-read}
use Rattle.laws.proofs.Checked.{left-fewer, not-input}
use Rattle.tree.specs.declared.Rest.{Rest}
use Rattle.sheet.specs.Table.{with_body}
use Rattle.tree.specs.Prepared.{Prepared}
use Rattle.tree.specs.Judged.{judged, tree_judged}
use Rattle.tree.specs.Ruled.{rest_of, body_shape, body_at, shapes_from, only}
use Rattle.tree.specs.Formed.{BodyStands, PlacesFrom, ShapesFrom, BodiesPlaced}
use Rattle.tree.proofs.Heading.{prepared-sections}
use Rattle.tree.proofs.Placing.{stored-sized, stored-same, stored-kept, stored_here}
use Rattle.sheet.specs.declared.table.Table.{Table}

-- ---- one body

shaped-judged : (v : ℕ) (h : Head) (hs : List Head) (t : Parsed Expr) → judged (λ e. fits e hs (length h.box)) t ≡ body_shape (shaped v h hs t)
unfolding shaped
shaped-judged v h hs ill = refl
shaped-judged v h hs (tree e q n) = go (fits e hs (length h.box))
  where
    go : (b : Bool) → ifb b (λ _. Some (record { next = q; left = n })) (λ _. None)
        ≡ body_shape (ifb b (λ _. accepted (record { expr = e; next = q; left = n })) (λ _. refused SHAPE v))
    go true = refl
    go false = refl

-- a body that is refused is refused by SHAPE at its variable
shaped-refusal : (v : ℕ) (h : Head) (hs : List Head) (t : Parsed Expr) (n p : ℕ) → shaped v h hs t ≡ refused n p → (n ≡ SHAPE) × (p ≡ v)
unfolding shaped
shaped-refusal v h hs ill n p e = (cc, cc)
shaped-refusal v h hs (tree x q m) n p e = go (fits x hs (length h.box)) e
  where
    go : (b : Bool) → ◌≡◌ {A = Answer Bodied} (ifb b (λ _. accepted (record { expr = x; next = q; left = m })) (λ _. refused SHAPE v)) (refused n p) →
        (n ≡ SHAPE) × (p ≡ v)
    go true e = absurd cc
    go false e = (cc, cc)

body-refusal : (k : Kind) (v : ℕ) (h : Head) (hs : List Head) (bs : List ℕ) (p m a b : ℕ) → body_of k v h hs bs p m ≡ refused a b → (a ≡ SHAPE) × (b ≡ v)
body-refusal input v h hs bs p m a b e = absurd cc
body-refusal output v h hs bs p m a b e = shaped-refusal v h hs (expr_at 32 (length hs) bs p m) a b e
body-refusal local v h hs bs p m a b e = shaped-refusal v h hs (expr_at 32 (length hs) bs p m) a b e

module _ (bs : List ℕ) (v : ℕ) (from : Rest) where
  by_kind : (k : Kind) → (get_or (heads_of bs) v no_head).kind ≡ k →
      body_shape (body_at bs v from) ≡ body_shape (body_of k v (get_or (heads_of bs) v no_head) (heads_of bs) bs from.next from.left)
  by_kind k e = ap (λ x. body_shape (body_of x v (get_or (heads_of bs) v no_head) (heads_of bs) bs from.next from.left)) e

  of_tree : tree_judged bs from 32 (dimension (heads_of bs) v)
      ≡ body_shape (shaped v (get_or (heads_of bs) v no_head) (heads_of bs) (expr_at 32 (vars_of bs) bs from.next from.left))
  of_tree = shaped-judged v (get_or (heads_of bs) v no_head) (heads_of bs) (expr_at 32 (vars_of bs) bs from.next from.left)

  pub body-tree : (k : Declared) → (get_or (heads_of bs) v no_head).kind ≡ kind_meant k → (k ≡ Input → ⊥) →
      tree_judged bs from 32 (dimension (heads_of bs) v) ≡ body_shape (body_at bs v from)
  body-tree Input e n = absurd (n refl)
  body-tree Output e n = of_tree ∙ sym (by_kind output e)
  body-tree Local e n = of_tree ∙ sym (by_kind local e)

  -- ---- after the last variable

  module _ (end : vars_of bs ≤ v) where
    no_more : shapes_from bs v from ≡ bodies (raw_of bs) bs [] v from.next from.left
    no_more = ap (λ hs. bodies (raw_of bs) bs hs v from.next from.left) (drop_of_length-le (heads_of bs) end)

    pub none_over : from.left ≡ 0 → shapes_from bs v from ≡ accepted []
    unfolding bodies
    none_over e = no_more ∙ rw e refl

    pub left_over : 1 ≤ from.left → shapes_from bs v from ≡ refused SHAPE v
    unfolding bodies
    left_over l = no_more ∙ go from.left l
      where
        go : (k : ℕ) → 1 ≤ k → bodies (raw_of bs) bs [] v from.next k ≡ refused SHAPE v
        go zero l = absurd (omega arith)
        go (suc k) l = refl

  -- ---- a variable, and then the others

  abbrev made : Bodied → Variable
  made b = record { head = get_or (heads_of bs) v no_head; declared = of_variable v (raw_of bs).decls; body = b.expr; start = from.next; end = b.next }

  module _ (known : v < vars_of bs) where
    one : bodies (raw_of bs) bs (get_or (heads_of bs) v no_head ∷ drop (suc v) (heads_of bs)) v from.next from.left
        ≡ next (body_at bs v from) (λ b. next (shapes_from bs (suc v) (rest_of b)) (λ vs. accepted (made b ∷ vs)))
    unfolding bodies
    one = refl

    step : shapes_from bs v from ≡ next (body_at bs v from) (λ b. next (shapes_from bs (v + 1) (rest_of b)) (λ vs. accepted (made b ∷ vs)))
    step =
        let e : suc v ≡ v + 1 = omega arith in
        ap (λ hs. bodies (raw_of bs) bs hs v from.next from.left) (drop-cons (heads_of bs) v no_head known) ∙ one
        ∙ ap (λ w. next (body_at bs v from) (λ b. next (shapes_from bs w (rest_of b)) (λ vs. accepted (made b ∷ vs)))) e

    -- by what the body was found to be
    step_by : (a : Answer Bodied) → body_at bs v from ≡ a →
        shapes_from bs v from ≡ next a (λ b. next (shapes_from bs (v + 1) (rest_of b)) (λ vs. accepted (made b ∷ vs)))
    step_by a e = step ∙ ap (λ x. next x (λ b. next (shapes_from bs (v + 1) (rest_of b)) (λ vs. accepted (made b ∷ vs)))) e

    pub body_refused : None ≡ body_shape (body_at bs v from) → shapes_from bs v from ≡ refused SHAPE v
    body_refused h = go (body_at bs v from) refl h
      where
        go : (a : Answer Bodied) → body_at bs v from ≡ a → None ≡ body_shape a → shapes_from bs v from ≡ refused SHAPE v
        go (accepted b) e h = absurd cc
        go (refused n q) e h =
            let r = body-refusal (get_or (heads_of bs) v no_head).kind v (get_or (heads_of bs) v no_head) (heads_of bs) bs from.next from.left n q e in
            step_by (refused n q) e ∙ ap (λ x. refused x q) r.0 ∙ ap (refused SHAPE) r.1

    -- the body, after which those nodes are left
    pub record BodyFound (rest : Rest) : Type 0 where
      pub what : Bodied
      pub is : body_at bs v from ≡ accepted what
      pub leaves : rest_of what ≡ rest

    found : (rest : Rest) → Some rest ≡ body_shape (body_at bs v from) → BodyFound rest
    found rest h = go (body_at bs v from) refl h
      where
        go : (a : Answer Bodied) → body_at bs v from ≡ a → Some rest ≡ body_shape a → BodyFound rest
        go (accepted b) e h = record { what = b; is = e; leaves = cc }
        go (refused n x) e h = absurd cc

    module _ (rest : Rest) (h : Some rest ≡ body_shape (body_at bs v from)) where
      goes : shapes_from bs v from ≡ next (shapes_from bs (v + 1) rest) (λ vs. accepted (made (found rest h).what ∷ vs))
      goes =
          let f = found rest h in
          step_by (accepted f.what) f.is
          ∙ ap (λ x. next (shapes_from bs (v + 1) x) (λ vs. accepted (made f.what ∷ vs))) f.leaves

      pub same_answer : only (shapes_from bs (v + 1) rest) ≡ only (shapes_from bs v from)
      same_answer = go (shapes_from bs (v + 1) rest) ∙ ap only (sym goes)
        where
          go : (a : Answer Sheet) → only a ≡ only (next a (λ vs. accepted (made (found rest h).what ∷ vs)))
          go (accepted s) = refl
          go (refused n x) = refl

      -- the variables are this one and the others
      pub record Split (s : Sheet) : Type 0 where
        pub first : Variable
        pub others : Sheet
        pub is : s ≡ first ∷ others
        pub start_is : first.start ≡ from.next
        pub end_is : first.end ≡ rest.next
        pub others-are : shapes_from bs (v + 1) rest ≡ accepted others

      pub split : (s : Sheet) → shapes_from bs v from ≡ accepted s → Split s
      split s e = go (shapes_from bs (v + 1) rest) refl (sym goes ∙ e)
        where
          go : (a : Answer Sheet) → shapes_from bs (v + 1) rest ≡ a → next a (λ vs. accepted (made (found rest h).what ∷ vs)) ≡ accepted s → Split s
          go (refused n x) f g = absurd cc
          go (accepted r) f g = record {
            first = made (found rest h).what;
            others = r;
            is = cc;
            start_is = refl;
            end_is = ap (λ x. x.next) (found rest h).leaves;
            others-are = f;
          }

-- ---- the answer and the table, way by way

module _ (bs : List ℕ) (tab : Table) (v : ℕ) (from : Rest) (sized : length tab.bodies ≡ 33) (few : v ≤ 32) where
  -- a refusal leaves no places
  refusal : (a b : ℕ) → shapes_from bs v from ≡ refused a b → (r : Result (Unit {0}) Refusal) → told r ≡ refused a b →
      ShapesFrom bs v from tab (with_body tab v from.next) r
  refusal a b e r is = record {
    answer = is ∙ ap only (sym e);
    same = stored-same tab v from.next;
    kept = stored-kept tab v from.next;
    places = λ s f. absurd cc;
  }

  pub ends-well : vars_of bs ≤ v → from.left ≡ 0 → ShapesFrom bs v from tab (with_body tab v from.next) (Ok tt)
  ends-well end l =
      let e = none_over bs v from end l in
      record {
        answer = ap only (sym e);
        same = stored-same tab v from.next;
        kept = stored-kept tab v from.next;
        places = λ s f.
            let none : s ≡ [] = cc in
            rw none (record { here = stored_here tab v from.next sized few; starts = λ i lt. absurd (omega arith); ends = λ i lt. absurd (omega arith) });
      }

  pub ends-left : vars_of bs ≤ v → 1 ≤ from.left → ShapesFrom bs v from tab (with_body tab v from.next) (Err (Shape v))
  ends-left end l = refusal SHAPE v (left_over bs v from end l) (Err (Shape v)) refl

  pub ends-bad : v < vars_of bs → None ≡ body_shape (body_at bs v from) → ShapesFrom bs v from tab (with_body tab v from.next) (Err (Shape v))
  ends-bad known h = refusal SHAPE v (body_refused bs v from known h) (Err (Shape v)) refl

  -- the places of this variable and of the others
  module _ (tab' : Table) (q : ℕ) (here : get_or tab'.bodies v 0 ≡ from.next) (x : Variable) (rest : Sheet)
      (start_is : x.start ≡ from.next) (end_is : x.end ≡ q)
      (h : PlacesFrom tab' (v + 1) q rest) where
    start-at : (i : ℕ) → i < suc (length rest) → get_or tab'.bodies (v + i) 0 ≡ (variable (x ∷ rest) i).start
    start-at zero lt = let e : v + 0 ≡ v = omega arith in rw e (here ∙ sym start_is)
    start-at (suc i) lt = let e : v + suc i ≡ v + 1 + i = omega arith in rw e (h.starts i (omega arith))

    end-at : (i : ℕ) → i < suc (length rest) → get_or tab'.bodies (v + i + 1) 0 ≡ (variable (x ∷ rest) i).end
    end-at zero lt = let e : v + 0 + 1 ≡ v + 1 = omega arith in rw e (h.here ∙ sym end_is)
    end-at (suc i) lt = let e : v + suc i ≡ v + 1 + i = omega arith in rw e (h.ends i (omega arith))

    placed : PlacesFrom tab' v from.next (x ∷ rest)
    placed = record { here = here; starts = start-at; ends = end-at }

  pub goes_on : (known : v < vars_of bs) (rest : Rest) → Some rest ≡ body_shape (body_at bs v from) → (tab' : Table) (r : Result (Unit {0}) Refusal) →
      ShapesFrom bs (v + 1) rest (with_body tab v from.next) tab' r → ShapesFrom bs v from tab tab' r
  goes_on known rest h tab' r after = record {
    answer = after.answer ∙ same_answer bs v from known rest h;
    same =
        let s = after.same in
        record { records = s.records; firsts = s.firsts; variables = s.variables; second = s.second; third = s.third; nodes = s.nodes; sized = s.sized ∙ stored-sized tab v from.next };
    kept = λ i lt. after.kept i (omega arith) ∙ stored-kept tab v from.next i lt;
    places = λ s e.
        let f = split bs v from known rest h s e in
        let here : get_or tab'.bodies v 0 ≡ from.next = after.kept v (omega arith) ∙ stored_here tab v from.next sized few in
        rw f.is (placed tab' rest.next here f.first f.others f.start_is f.end_is (after.places f.others f.others-are));
  }

-- ---- each variable, where all pass

module _ (bs : List ℕ) where
  -- what is known of the variable numbered v
  record Known (v m : ℕ) (x : Variable) : Type 0 where
    declared_is : x.declared ≡ of_variable v (raw_of bs).decls
    tree-at : is_input x ≡ false → (k : ℕ) × (n : ℕ) × (k ≤ m) × TreeAt (raw_of bs) bs x x.start k n

  each : (s : Sheet) (w p m : ℕ) → BodiesAt s (raw_of bs) bs w p m → (v : ℕ) → v < length s → Known (w + v) m (variable s v)
  unfolding BodiesAt
  each [] w p m h v lt = absurd (omega arith)
  each (x ∷ s) w p m h zero lt =
      let e : w + 0 ≡ w = omega arith in
      rw e (record {
        declared_is = h.declared_is;
        tree-at =
            λ i. (
              m,
              h.left,
              omega arith,
              subst (λ q. TreeAt (raw_of bs) bs x q m h.left) (sym h.start_is)
                  (not-input (raw_of bs) bs x.head.kind x p m h.left i h.body-at),
            );
      })
  each (x ∷ s) w p m h (suc v) lt =
      let e : w + suc v ≡ suc w + v = omega arith in
      let r = each s (suc w) x.end h.left h.after v (omega arith) in
      let l = left-fewer (raw_of bs) bs x.head.kind x p m h.left h.body-at in
      rw e (record { declared_is = r.declared_is; tree-at = λ i. let t = r.tree-at i in (t.0, t.1, omega (arith, t.2), t.3) })

  module _ (tab : Table) (prepared : Prepared bs tab) (s : Sheet) (is : shaped_of bs ≡ accepted s) (places : PlacesFrom tab 0 (raw_of bs).first s) where
    same-sheet : sheet_of bs ≡ s
    same-sheet = ap accepted_sheet is

    read : BodiesRead (raw_of bs) bs (heads_of bs) 0 (raw_of bs).first (raw_of bs).nodes s
    read = bodies-read (raw_of bs) bs is

    count : length s ≡ vars_of bs
    count = sym (length-map s (λ x. x.head)) ∙ ap length read.heads_are

    known : (v : ℕ) → v < vars_of bs → Known v (raw_of bs).nodes (variable s v)
    known v lt =
        let e : 0 + v ≡ v = omega arith in
        subst (λ w. Known w (raw_of bs).nodes (variable s v)) e (each s 0 (raw_of bs).first (raw_of bs).nodes read.stand v (omega (arith, count)))

    stands : (v : ℕ) → v < vars_of bs → is_input (variable s v) ≡ false → BodyStands bs (variable s v)
    stands v lt i =
        let t = (known v lt).tree-at i in
        let few = (prepared-sections bs tab prepared).few_nodes in
        record { at = t.3.at; few = omega (arith, t.2, t.3.count); deep = t.3.deep; fitting = t.3.fitting }

    pub all_placed : BodiesPlaced bs tab
    all_placed = record {
      prepared = prepared;
      shaped = is ∙ ap accepted (sym same-sheet);
      many = ap length same-sheet ∙ count;
      head_is = λ v lt. rw same-sheet (sym (get_or-map (λ x. x.head) s v no_variable) ∙ ap (λ l. get_or l v no_head) read.heads_are);
      declared_is = λ v lt. rw same-sheet (known v lt).declared_is;
      starts = λ v lt. rw same-sheet (start v (omega (arith, count)));
      ends = λ v lt. rw same-sheet (end v (omega (arith, count)));
      body = rw same-sheet stands;
    }
      where
        start : (v : ℕ) → v < length s → get_or tab.bodies v 0 ≡ (variable s v).start
        start v lt = let e : 0 + v ≡ v = omega arith in rw e at (places.starts v lt)

        end : (v : ℕ) → v < length s → get_or tab.bodies (v + 1) 0 ≡ (variable s v).end
        end v lt = let e : 0 + v ≡ v = omega arith in rw e at (places.ends v lt)
