-- The branches of a body in turn: those of a case are its children's, those of trees one after another the first one's and then the
-- others'. Assumes nothing.
use mathlib.Core.Path.{◌≡◌, refl, sym, ap, ◌∙◌, subst}
use Prim.Native.Nat.{ℕ, suc, ◌+◌, ◌-◌, ◌≤◌, ◌<◌}
use native.Mathlib.Omega.{arith}
use mathlib.Core.Bool.{true, ◌&&◌}
use mathlib.Core.List.{List, [], ◌++◌}
use Rattle.alpha.specs.Sheet.{Node.n_case, Expr, Expr.kase, Exprs, Exprs.more}
use Rattle.alpha.specs.Read.{got, dimension}
use Rattle.alpha.specs.Shape.{fits, all_fit}
use Rattle.alpha.specs.Reach.{top_reach, reach, reach_all}
use Rattle.alpha.specs.Written.{bytes, branch_count, node_count, node_counts}
use Rattle.alpha.specs.Normal.{norm, norms}
use Rattle.laws.specs.At.{node_of, node_read, node_end, At, AllAt}
use Rattle.laws.specs.Children.{children_of, arity}
use Rattle.laws.specs.Sheets.{heads_of, vars_of}
use Rattle.laws.proofs.Tests.{&&-left, &&-right}
use Rattle.laws.proofs.Trees.{at-unique}
use Rattle.laws.proofs.Shapes.{at-got, MoreAt, all_at-none}
use Rattle.tree.specs.declared.Class.TheVariants.{Case}
use Rattle.tree.specs.Classes.{class_at}
use Rattle.tree.proofs.Classes.{case_at}
use Rattle.tree.proofs.Standings.{children-at, children-counted, one_more}
use Rattle.normal.specs.declared.Mode.{Mode}
use Rattle.normal.specs.declared.Taken.{Taken}
use Rattle.normal.specs.Count.{count_of, sum_of}
use Rattle.tree.specs.Ends.{EndsAt}
use Rattle.tree.specs.Standing.{StandingAll}
use Rattle.normal.specs.Counted.{Counts}
use Rattle.normal.specs.Followed.{room_of}
use Rattle.normal.specs.Body.{branches_in, all_branches_in, BodyAt, IsBody, BodiesAt, AreBodies, AddedAll, PutsFrom, PutsAll, BodyFits, BodiesFit}
use Rattle.normal.proofs.Counting.{sum-none, sum_more}
use Rattle.normal.proofs.Bodies.{is_body, added_nothing, added-append, append-fits, first-append}

-- ---- a case, of k bytes and so many children

module _ (bs : List ℕ) (p n of k many : ℕ) (class_is : class_at bs p ≡ Case) (next : k ≡ node_end (vars_of bs) bs p)
    (arity-is : many ≡ arity (node_read (vars_of bs) bs p)) where
  opened : (e : Expr) → IsBody bs p n of e → Exprs
  opened e i = (case_at bs e p i.end i.at class_is).branches

  opened-is : (e : Expr) (i : IsBody bs p n of e) → e ≡ kase (opened e i)
  unfolding opened
  opened-is e i = (case_at bs e p i.end i.at class_is).is

  opened_some : (e : Expr) (i : IsBody bs p n of e) → 1 ≤ branch_count (opened e i)
  unfolding opened
  opened_some e i = (case_at bs e p i.end i.at class_is).many.low

  opened-count : (e : Expr) (i : IsBody bs p n of e) → branch_count (opened e i) ≡ many
  opened-count e i =
      ap (λ f. branch_count (children_of f)) (sym (opened-is e i)) ∙ children-counted (vars_of bs) bs p k many next arity-is e i.end i.at

  children-are : (e : Expr) (i : IsBody bs p n of e) → AreBodies bs k n many of (opened e i)
  unfolding fits count_of
  children-are e i = record {
    end = i.end;
    at = subst (λ f. AllAt (children_of f) (vars_of bs) bs k i.end) (opened-is e i)
        (children-at (vars_of bs) bs p k many next arity-is e i.end i.at);
    fitting = subst (λ f. fits f (heads_of bs) n ≡ true) (opened-is e i) i.fitting;
    count = opened-count e i;
    sum = ap count_of (sym (opened-is e i)) ∙ i.count;
  }

  branches-are : (e : Expr) (i : IsBody bs p n of e) → branches_in bs e ≡ all_branches_in bs (opened e i)
  unfolding norm
  branches-are e i = ap (λ f. norm f (dimension (heads_of bs))) (opened-is e i)

  pub case-puts : (mode : Mode) (sofar : Taken) (l d : List ℕ) (r : Taken) → PutsAll bs k n many of mode sofar l d r → PutsFrom bs p n of 0 mode sofar l d r
  case-puts mode sofar l d r put e i = subst (AddedAll mode sofar l d r n) (sym (branches-are e i)) (put (opened e i) (children-are e i))

  module _ (left : ℕ) (h : BodyAt bs p left n of) where
    case-some : 1 ≤ many
    case-some =
        let tree = is_body bs p left n of h in
        omega (arith, opened_some h.tree tree, opened-count h.tree tree)

    pub case-bodies : BodiesAt bs k (left - 1) n many of
    unfolding node_count reach
    case-bodies =
        let is = opened-is h.tree (is_body bs p left n of h) in
        let nodes : node_count h.tree ≡ suc (node_counts (opened h.tree (is_body bs p left n of h))) = ap node_count is in
        record {
          trees = opened h.tree (is_body bs p left n of h);
          are = children-are h.tree (is_body bs p left n of h);
          some = case-some;
          few = omega (arith, h.few, nodes);
          left_low = omega (arith, h.left_low);
          reaches = subst (λ f. reach f top_reach ≡ true) is h.reaches;
          narrow = h.narrow;
          low = h.low;
        }

    -- a case of any such children stands there
    kase-there : (es : Exprs) → AreBodies bs k n many of es → IsBody bs p n of (kase es)
    unfolding At fits count_of
    kase-there es i =
        let tree = is_body bs p left n of h in
        let read = at-got (vars_of bs) bs h.tree p h.end h.at in
        let counts = opened-count h.tree tree ∙ sym i.count in
        record {
          end = i.end;
          at = record {
            next = node_end (vars_of bs) bs p;
            here =
                read ∙ ap (λ f. got (node_of f) (node_end (vars_of bs) bs p)) (opened-is h.tree tree)
                ∙ ap (λ c. got (n_case c) (node_end (vars_of bs) bs p)) counts;
            below = rw (← next) i.at;
          };
          fitting = i.fitting;
          count = i.sum;
        }

    pub case-fits : (sofar : Taken) (room : ℕ) → BodyFits bs p n of 0 sofar room → BodiesFit bs k n many of sofar room
    unfolding norm
    case-fits sofar room there es i = there (kase es) (kase-there es i)

-- ---- no trees

module _ (bs : List ℕ) (p n many of : ℕ) (few : many < 1) where
  no-branches : (es : Exprs) → AreBodies bs p n many of es → all_branches_in bs es ≡ []
  unfolding norm
  no-branches es i = ap (λ f. norms f (dimension (heads_of bs))) (all_at-none (vars_of bs) bs es p i.end i.at (omega (arith, i.count))).is

  none-puts : (mode : Mode) (sofar : Taken) (l : List ℕ) → PutsAll bs p n many of mode sofar l l sofar
  unfolding bytes
  none-puts mode sofar l es i = subst (AddedAll mode sofar l l sofar n) (sym (no-branches es i)) (added_nothing mode sofar l)

-- ---- trees one after another

module _ (bs : List ℕ) (p left n many of : ℕ) (h : BodiesAt bs p left n many of) where
  pub trees-standing : StandingAll (vars_of bs) bs p left many
  trees-standing = record { trees = h.trees; end = h.are.end; at = h.are.at; few = h.few; most = h.left_low; many = h.are.count }

  split : MoreAt h.trees (vars_of bs) bs p h.are.end (many - 1)
  split = one_more (vars_of bs) bs h.trees p h.are.end many h.some h.are.at h.are.count

  sums : count_of split.first + sum_of split.rest ≡ of
  sums = sym (sum_more h.trees split.first split.rest split.is) ∙ h.are.sum

  -- a count did not stop at 65
  pub counted-exact : (k : ℕ) → Counts bs p k → (e : Expr) (q : ℕ) → At e (vars_of bs) bs p q → count_of e ≡ k
  counted-exact k counted e q at = omega (arith, counted.1 e q at, counted.1 split.first split.middle split.before, sums, h.low)

  -- the first has k branches and ends at `next`
  module _ (k next : ℕ) (exact : (e : Expr) (q : ℕ) → At e (vars_of bs) bs p q → count_of e ≡ k) (ends : EndsAt (vars_of bs) bs p next) where
    pub first-low : k ≤ of
    first-low = omega (arith, exact split.first split.middle split.before, sums)

    -- any such trees are the first and the others
    record InTurn (es : Exprs) : Type 0 where
      pub first : Expr
      pub others : Exprs
      pub is : es ≡ more first others
      pub is-first : IsBody bs p n k first
      pub are-others : AreBodies bs next n (many - 1) (of - k) others
      pub in-turn : all_branches_in bs es ≡ branches_in bs first ++ all_branches_in bs others

    in_turns : (es : Exprs) → AreBodies bs p n many of es → InTurn es
    unfolding all_fit norm
    in_turns es i =
        let x = one_more (vars_of bs) bs es p i.end many h.some i.at i.count in
        let fit = subst (λ f. all_fit f (heads_of bs) n ≡ true) x.is i.fitting in
        let count = exact x.first x.middle x.before in
        record {
          first = x.first;
          others = x.rest;
          is = x.is;
          is-first = record {
            end = x.middle;
            at = x.before;
            fitting = &&-left (fits x.first (heads_of bs) n) (all_fit x.rest (heads_of bs) n) fit;
            count = count;
          };
          are-others = record {
            end = i.end;
            at = subst (λ j. AllAt x.rest (vars_of bs) bs j i.end) (sym (ends x.first x.middle x.before)) x.after;
            fitting = &&-right (fits x.first (heads_of bs) n) (all_fit x.rest (heads_of bs) n) fit;
            count = x.many;
            sum = omega (arith, sum_more es x.first x.rest x.is, i.sum);
          };
          in-turn = ap (λ f. norms f (dimension (heads_of bs))) x.is;
        }

    whole : InTurn h.trees
    whole = in_turns h.trees h.are

    -- and a first with others are such trees
    together : (e : Expr) (es : Exprs) → IsBody bs p n k e → AreBodies bs next n (many - 1) (of - k) es → AreBodies bs p n many of (more e es)
    unfolding At all_fit
    together e es i j = record {
      end = j.end;
      at = record { middle = next; before = subst (λ q. At e (vars_of bs) bs p q) (sym (ends e i.end i.at)) i.at; after = j.at };
      fitting = rw i.fitting j.fitting;
      count = omega (arith, j.count);
      sum = omega (arith, sum_more (more e es) e es refl, i.count, j.sum, first-low);
    }

    nodes : node_counts h.trees ≡ node_count whole.first + node_counts whole.others
    unfolding node_counts
    nodes = ap node_counts whole.is

    all-reach : reach whole.first top_reach && reach_all whole.others top_reach ≡ true
    unfolding reach_all
    all-reach = subst (λ f. reach_all f top_reach ≡ true) whole.is h.reaches

    pub first_body : BodyAt bs p left n k
    first_body = record {
      tree = whole.first;
      end = whole.is-first.end;
      at = whole.is-first.at;
      few = omega (arith, h.few, nodes);
      left_low = h.left_low;
      fitting = whole.is-first.fitting;
      reaches = &&-left (reach whole.first top_reach) (reach_all whole.others top_reach) all-reach;
      narrow = h.narrow;
      count = whole.is-first.count;
      low = omega (arith, first-low, h.low);
    }

    pub rest-bodies : 1 < many → BodiesAt bs next left n (many - 1) (of - k)
    rest-bodies others = record {
      trees = whole.others;
      are = whole.are-others;
      some = omega arith;
      few = omega (arith, h.few, nodes);
      left_low = h.left_low;
      reaches = &&-right (reach whole.first top_reach) (reach_all whole.others top_reach) all-reach;
      narrow = h.narrow;
      low = omega (arith, h.low);
    }

    pub first-fits : (sofar : Taken) (room : ℕ) → BodiesFit bs p n many of sofar room → BodyFits bs p n k 0 sofar room
    unfolding norm
    first-fits sofar room there e i =
        let others = whole.others in
        first-append sofar n (branches_in bs e) (all_branches_in bs others) room (there (more e others) (together e others i whole.are-others))

    module _ (mode : Mode) (sofar taken : Taken) (l a : List ℕ) (put : PutsFrom bs p n k 0 mode sofar l a taken) where
      pub rest-fit : BodiesFit bs p n many of sofar (room_of mode l) → BodiesFit bs next n (many - 1) (of - k) taken (room_of mode a)
      unfolding norm
      rest-fit there es i =
          let first = whole.first in
          append-fits mode sofar l n (branches_in bs first) (all_branches_in bs es) (put first whole.is-first)
          (there (more first es) (together first es whole.is-first i))

      pub more-puts : (d : List ℕ) (r : Taken) → PutsAll bs next n (many - 1) (of - k) mode taken a d r → PutsAll bs p n many of mode sofar l d r
      more-puts d r rest es i =
          let x = in_turns es i in
          subst (AddedAll mode sofar l d r n) (sym x.in-turn)
          (added-append mode sofar l n (branches_in bs x.first) (all_branches_in bs x.others) (put x.first x.is-first) (rest x.others x.are-others))

  -- the last has the branches that are left
  module _ (few : many < 2) where
    last-is : count_of split.first ≡ of
    last-is =
        let none_left = all_at-none (vars_of bs) bs split.rest split.middle h.are.end split.after (omega (arith, split.many)) in
        omega (arith, sums, sum-none split.rest none_left.is)

    last-exact : (e : Expr) (q : ℕ) → At e (vars_of bs) bs p q → count_of e ≡ of
    last-exact e q at = ap count_of (at-unique (vars_of bs) bs p e split.first q split.middle at split.before).tree_is ∙ last-is

    last-ends : EndsAt (vars_of bs) bs p split.middle
    last-ends e q at = (at-unique (vars_of bs) bs p split.first e split.middle q split.before at).end_is

    pub last-body : BodyAt bs p left n of
    last-body = first_body of split.middle last-exact last-ends

    pub last-fits : (sofar : Taken) (room : ℕ) → BodiesFit bs p n many of sofar room → BodyFits bs p n of 0 sofar room
    last-fits = first-fits of split.middle last-exact last-ends

    pub last-puts : (mode : Mode) (sofar r : Taken) (l d : List ℕ) → PutsFrom bs p n of 0 mode sofar l d r → PutsAll bs p n many of mode sofar l d r
    last-puts mode sofar r l d put =
        more-puts of split.middle last-exact last-ends mode sofar r l d put d r
        (none-puts bs split.middle n (many - 1) (of - of) (omega arith) mode r d)
