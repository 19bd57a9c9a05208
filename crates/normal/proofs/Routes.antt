-- What following a branch knows at a node, and that it may go on at the children: at the child that a case picks, below a dependence with
-- the maps composed, and at operands one after another; and that no sum on the way leaves an i64 or the room. Assumes nothing.
use mathlib.Core.Path.{◌≡◌, refl, sym, ap, ap₂, ◌∙◌, subst}
use Prim.Native.Nat.{ℕ, suc, ◌+◌, ◌*◌, ◌-◌, ◌/◌, ◌%◌, ◌≤◌, ◌<◌}
use native.Mathlib.Nat.{le_trans, mod-lt, div-lt_iff_lt-mul}
use native.Mathlib.Omega.{arith}
use mathlib.Core.Bool.{true, ◌&&◌}
use mathlib.Core.List.{List, [], ◌∷◌}
use lib.ListN.{length, length-append}
use lib.IntN.{nat_abs}
use lib.Dec.{leb, eqb}
use borrow.Author.Tests.{leb-true, eqb-true}
use Rattle.alpha.specs.Field.{field}
use Rattle.alpha.specs.Sheet as Sheet
use Rattle.alpha.specs.Sheet.{Expr, Exprs, Exprs.none, Expr.kase, Constraint}
use Rattle.alpha.specs.Affine.{map_after}
use Rattle.alpha.specs.Shape.{fits, all_fit}
use Rattle.alpha.specs.Reach.{limit, top_reach, row_reach, map_reach, all_reach, reach, reach_all}
use Rattle.alpha.specs.Written.{branch_count, node_count, node_counts}
use Rattle.laws.specs.At.{node_of, node_read, node_end, At, AllAt}
use Rattle.laws.specs.Children.{children_of, arity, fits_here, wanted, reach_below, reach_here}
use Rattle.laws.specs.Sheets.{heads_of, vars_of}
use Rattle.laws.proofs.Tests.{&&-left, &&-right}
use Rattle.laws.proofs.Readers.{counted_is}
use Rattle.laws.proofs.Nodes.{restr-constraint}
use Rattle.laws.proofs.Shapes.{at_read, KaseAt, DepAt, RestrAt, MoreAt, all_at-none}
use Rattle.laws.proofs.Children.{children-count, fits-children, reach-children}
use Rattle.laws.proofs.NormalReach.{map-reach}
use Rattle.affine.specs.declared.Map.{Map}
use Rattle.affine.specs.Value.{line, map_of}
use Rattle.affine.specs.Size.{FitAfter}
use Rattle.affine.specs.Reading.{MapRead}
use Rattle.affine.proofs.Meaning.{height-length, width-cols}
use Rattle.affine.proofs.Fetched.{map-there}
use Rattle.affine.proofs.Bounds.{row_reach-more, compose-fits}
use Rattle.domain.proofs.Restrictions.{Each, each_first, each-rest, constraint-is}
use Rattle.tree.specs.declared.Class.TheVariants.{Leaf, Operator, Case, Restriction, Dependence}
use Rattle.tree.specs.Classes.{class_of, class_at}
use Rattle.tree.specs.Standing.{Standing}
use Rattle.tree.proofs.Classes.{operator-tree, leaf-at, operator-at, case_at, restriction-at, dependence-at}
use Rattle.tree.proofs.Standings.{standing-noded, standing-some, children-few, children-at, children-counted, one_more}
use Rattle.normal.specs.declared.Chosen.{Chosen}
use Rattle.normal.specs.declared.Half.{Half}
use Rattle.normal.specs.declared.Mode.{Mode}
use Rattle.normal.specs.declared.Pen.{Pen}
use Rattle.normal.specs.declared.Split.{Split}
use Rattle.normal.specs.Count.{count_of, sum_of, product_of, pick}
use Rattle.normal.specs.Counted.{ChildrenAt, Picks, OperandAt, SplitsOf, Splits}
use Rattle.normal.specs.Part.{Part, nothing, beside, own, part_of, chosen_of, parts_of}
use Rattle.normal.specs.Rows.{AllComposable}
use Rattle.normal.specs.Spot.{Limits, Stop}
use Rattle.normal.specs.Followed.{room_of, Composes, Lowers, Route, RouteAll, Wrote, Visits, Follows, FollowsAll}
use Rattle.normal.proofs.Counting.{operator-count, case_count, Factors, factors, only-split}
use Rattle.normal.proofs.Parts.{beside_nothing, leaf-part, operator-part, pick-kept, wrote_then, room-same, things_low, part-things}
use Rattle.normal.proofs.Laid.{wrote_nothing}
use Rattle.normal.proofs.Spots.{own_out, own-things}

-- ---- reaches

map_reach-more : {r s : ℕ} (ws : List Sheet.Row) → r ≤ s → map_reach r ws ≤ map_reach s ws
map_reach-more [] l = omega arith
map_reach-more (w ∷ ws) l = omega (arith, row_reach-more w l, map_reach-more ws l)

-- constraints within reach can be composed
composable : (n : ℕ) (bs : List ℕ) (m : Map) (bound : ℕ) (cs : List Constraint) (p : ℕ) → map_reach top_reach (map_of m).rows ≤ bound → Each n bs cs p →
    all_reach bound cs ≡ true → AllComposable (length cs) bs p n m
unfolding AllComposable
composable n bs m bound [] p w h r = tt
composable n bs m bound (c ∷ cs) p w h r =
    let first = each_first n bs c cs p h in
    let low = leb-true (row_reach bound c.row) limit (&&-left (leb (row_reach bound c.row) limit) (all_reach bound cs) r) in
    let reached = subst (λ x. row_reach (map_reach top_reach (map_of m).rows) x.row ≤ limit) (constraint-is n bs p c first)
    (le_trans (row_reach-more c.row w) low) in (
      record { there = first.there; relation = first.relation.high; small = reached },
      composable n bs m bound cs (p + (16 + 8 * n)) w (each-rest n bs c cs p h)
          (&&-right (leb (row_reach bound c.row) limit) (all_reach bound cs) r),
    )

-- the operands of an operator are asked for the same, and given the same
operands_same : (n r : ℕ) (e : Expr) → class_of (node_of e) ≡ Operator → (wanted (node_of e) n ≡ n) × (reach_below (node_of e) r ≡ r)
operands_same n r =
    operator-tree (λ e. (wanted (node_of e) n ≡ n) × (reach_below (node_of e) r ≡ r)) (λ o a. (refl, refl)) (λ o a b. (refl, refl)) (λ a b c. (refl, refl))

module _ (bs : List ℕ) where
  module _ (p left : ℕ) (m : Map) (b of : ℕ) (t : Half) (level : ℕ) (pen : Pen) (room : ℕ) (h : Route bs p left m b of t level pen room) where
    pub route-standing : Standing (vars_of bs) bs p left
    route-standing = record { tree = h.tree; end = h.end; at = h.at; few = h.few; most = h.left_low }

    -- ---- a case

    module _ (class_is : class_at bs p ≡ Case) where
      cases : KaseAt h.tree (vars_of bs) bs p h.end
      cases = case_at bs h.tree p h.end h.at class_is

      branches-are : count_of h.tree ≡ sum_of cases.branches
      branches-are = case_count h.tree cases.branches cases.is

      case-nodes : node_count h.tree ≡ suc (node_counts cases.branches)
      unfolding node_count
      case-nodes = ap node_count cases.is

      case-fits : all_fit cases.branches (heads_of bs) m.height ≡ true
      unfolding fits
      case-fits = rw cases.is at h.fitting

      case-reaches : reach_all cases.branches h.bound ≡ true
      unfolding reach
      case-reaches = rw cases.is at h.reaches

      case-part : part_of t h.tree (map_of m) level b ≡ chosen_of t cases.branches (map_of m) level b
      unfolding part_of
      case-part = ap (λ e. part_of t e (map_of m) level b) cases.is

      module _ (k n : ℕ) (next : k ≡ node_end (vars_of bs) bs p) (many : n ≡ arity (node_read (vars_of bs) bs p)) where
        below-case : AllAt cases.branches (vars_of bs) bs k h.end
        below-case = rw next cases.below

        case-many : branch_count cases.branches ≡ n
        case-many =
            ap (λ e. branch_count (children_of e)) (sym cases.is) ∙ children-counted (vars_of bs) bs p k n next many h.tree h.end h.at

        pub route-choice : ChildrenAt bs k (left - 1) n b of
        route-choice = record {
          trees = cases.branches;
          end = h.end;
          at = below-case;
          few = omega (arith, h.few, case-nodes);
          left_low = omega (arith, h.left_low);
          count = case-many;
          sum = sym branches-are ∙ h.branches;
          low = h.low;
          some = h.some;
        }

        pub route-chosen : (r : Chosen) → Picks bs k n b of r → Route bs r.at (left - 1) m r.choice.number r.choice.of t level pen room
        route-chosen r picks =
            let some : b < sum_of cases.branches = omega (arith, h.some, h.branches, branches-are) in
            let found = picks cases.branches h.end below-case case-many (sym branches-are ∙ h.branches) in
            let kept = pick-kept cases.branches b some in
            let same =
            case-part ∙ kept.part-is t (map_of m) level ∙ ap (part_of t (pick cases.branches b).child (map_of m) level) (sym found.branch) in
            record {
              tree = (pick cases.branches b).child;
              end = found.end;
              bound = h.bound;
              at = found.at;
              few = omega (arith, h.few, case-nodes, kept.few);
              left_low = omega (arith, h.left_low);
              level_low = omega (arith, h.level_low);
              fitting = kept.fits-too (heads_of bs) m.height case-fits;
              reaches = kept.reaches-too h.bound case-reaches;
              carried = h.carried;
              branches = found.count;
              low = omega (arith, found.count, kept.no_more, branches-are, h.branches, h.low);
              some = omega (arith, found.branch, kept.some, found.count);
              things_low = h.things_low;
              fits_room = subst (λ x. pen.to + length x.out ≤ room) same h.fits_room;
            }

    -- ---- a dependence

    module _ (class_is : class_at bs p ≡ Dependence) where
      below : DepAt h.tree (vars_of bs) bs p h.end
      below = dependence-at bs h.tree p h.end h.at class_is

      dep-fits : eqb below.by.cols m.height && fits below.child (heads_of bs) (length below.by.rows) ≡ true
      unfolding fits
      dep-fits = rw below.is at h.fitting

      dep-reaches : leb (map_reach h.bound below.by.rows) limit && reach below.child (map_reach h.bound below.by.rows) ≡ true
      unfolding reach
      dep-reaches = rw below.is at h.reaches

      dep-nodes : node_count h.tree ≡ suc (node_count below.child)
      unfolding node_count
      dep-nodes = ap node_count below.is

      dep-count : count_of h.tree ≡ count_of below.child
      unfolding count_of
      dep-count = ap count_of below.is

      dep-part : part_of t h.tree (map_of m) level b ≡ part_of t below.child (map_after (map_of m) below.by) level b
      unfolding part_of
      dep-part = ap (λ e. part_of t e (map_of m) level b) below.is

      dep-limit : map_reach h.bound below.by.rows ≤ limit
      dep-limit = leb-true (map_reach h.bound below.by.rows) limit
          (&&-left (leb (map_reach h.bound below.by.rows) limit) (reach below.child (map_reach h.bound below.by.rows)) dep-reaches)

      -- its map is g
      module _ (g : Map) (read : MapRead bs (p + 8) g) where
        map_is : map_of g ≡ below.by
        map_is = read.is below.by below.fields.next below.fields.read

        dep-dims : g.width ≡ m.height
        dep-dims = width-cols g map_is
            ∙ eqb-true below.by.cols m.height
            (&&-left (eqb below.by.cols m.height) (fits below.child (heads_of bs) (length below.by.rows)) dep-fits)

        dep-composes : (i : ℕ) → FitAfter m (line g i)
        dep-composes =
            compose-fits top_reach m h.carried.neat (omega arith) g read.neat dep-dims
            (subst (λ f. map_reach (map_reach top_reach (map_of m).rows) f.rows ≤ limit) (sym map_is)
            (le_trans (map_reach-more below.by.rows h.carried.within) dep-limit))

      pub route-composes : Composes bs (p + 8) m
      route-composes = record { there = map-there bs (p + 8) below.fields.read; neat = h.carried.neat; dims = dep-dims; fit = dep-composes }

      -- w is its map after m
      module _ (k : ℕ) (next : k ≡ node_end (vars_of bs) bs p) (w : Map) (l : Lowers bs (p + 8) m w) where
        by : map_of l.by ≡ below.by
        by = map_is l.by l.read

        by-is : map_of w ≡ map_after (map_of m) below.by
        by-is = l.is ∙ ap (map_after (map_of m)) by

        pub route-below : Route bs k (left - 1) w b of t level pen room
        route-below = record {
          tree = below.child;
          end = h.end;
          bound = map_reach h.bound below.by.rows;
          at = rw next below.below;
          few = omega (arith, h.few, dep-nodes);
          left_low = omega (arith, h.left_low);
          level_low = omega (arith, h.level_low);
          fitting = subst (λ n. fits below.child (heads_of bs) n ≡ true) (sym (l.high ∙ height-length l.by by))
              (&&-right (eqb below.by.cols m.height) (fits below.child (heads_of bs) (length below.by.rows)) dep-fits);
          reaches =
              &&-right (leb (map_reach h.bound below.by.rows) limit) (reach below.child (map_reach h.bound below.by.rows)) dep-reaches;
          carried = record {
            neat = l.neat;
            within = subst (λ f. map_reach top_reach f.rows ≤ map_reach h.bound below.by.rows) (sym by-is)
                (le_trans (map-reach (map_of m) below.by.rows top_reach) (map_reach-more below.by.rows h.carried.within));
            high = dep-limit;
          };
          branches = sym dep-count ∙ h.branches;
          low = h.low;
          some = h.some;
          things_low = h.things_low;
          fits_room = subst (λ x. pen.to + length x.out ≤ room) (dep-part ∙ ap (λ f. part_of t below.child f level b) (sym by-is)) h.fits_room;
        }

    -- ---- a node that is visited

    restr-fits : (x : RestrAt h.tree (vars_of bs) bs p h.end) → eqb x.dim m.height && fits x.child (heads_of bs) m.height ≡ true
    unfolding fits
    restr-fits x = rw x.is at h.fitting

    restr-reaches : (x : RestrAt h.tree (vars_of bs) bs p h.end) → all_reach h.bound x.given && reach x.child h.bound ≡ true
    unfolding reach
    restr-reaches x = rw x.is at h.reaches

    spot-limits : class_at bs p ≡ Restriction → Limits bs p m
    spot-limits class_is =
        let x = restriction-at bs h.tree p h.end h.at class_is in
        let dim : x.dim ≡ m.height =
        eqb-true x.dim m.height (&&-left (eqb x.dim m.height) (fits x.child (heads_of bs) m.height) (restr-fits x)) in
        let all = composable x.dim bs m h.bound x.given (p + 24) h.carried.within (λ i lt c. restr-constraint x.fields i lt c)
        (&&-left (all_reach h.bound x.given) (reach x.child h.bound) (restr-reaches x)) in (
          sym (counted_is x.fields.dim) ∙ dim,
          subst (λ i. AllComposable i bs (p + 24) (nat_abs (field bs (p + 8))) m) (counted_is x.fields.many)
              (subst (λ i. AllComposable (length x.given) bs (p + 24) i m) (counted_is x.fields.dim) all),
        )

    -- its own part is within the branch's
    module _ (rest : Part) (parts : part_of t h.tree (map_of m) level b ≡ beside (own t (node_of h.tree) (map_of m) level) rest) where
      read_is : node_read (vars_of bs) bs p ≡ node_of h.tree
      read_is = at_read (vars_of bs) bs h.tree p h.end h.at

      lengths : length (part_of t h.tree (map_of m) level b).out ≡ length (own t (node_of h.tree) (map_of m) level).out + length rest.out
      lengths = ap (λ x. length x.out) parts ∙ length-append (own t (node_of h.tree) (map_of m) level).out rest.out

      stop : Stop bs p m t level pen room
      stop = record {
        spot = record {
          noded = standing-noded (vars_of bs) bs p left route-standing;
          neat = h.carried.neat;
          limits = spot-limits;
          fits_room = omega (
            arith,
            h.fits_room,
            lengths,
            ap length (own_out t (node_of h.tree) (map_of m) level),
            ap (λ nd. length (own t nd (map_of m) 0).out) read_is,
          );
        };
        level_low = omega (arith, h.level_low);
        things_low = h.things_low;
      }

      -- the pen, after the visit
      module _ (mode : Mode) (after : Pen) (out out' : List ℕ) (visited : Visits bs p m t level mode pen out out' after) where
        own-wrote : Wrote mode pen out out' after (own t (node_of h.tree) (map_of m) level)
        own-wrote = subst (λ nd. Wrote mode pen out out' after (own t nd (map_of m) level)) read_is visited

        own-low : after.things ≤ after.to
        own-low =
            things_low mode pen out (own t (node_of h.tree) (map_of m) level) own-wrote h.things_low (own-things t (node_of h.tree) (map_of m) level)

        own-fits : after.to + length rest.out ≤ room
        own-fits = omega (arith, h.fits_room, lengths, ap (λ z. z.to) own-wrote.pen_is)

        own_room : room ≡ room_of mode out → room ≡ room_of mode out'
        own_room e = e ∙ sym (room-same mode pen out (own t (node_of h.tree) (map_of m) level) own-wrote)

    -- ---- a leaf

    pub route-leaf : class_at bs p ≡ Leaf → Stop bs p m t level pen room
    route-leaf class_is =
        let is = (leaf-at bs h.tree p h.end h.at class_is).class_is in
        stop nothing (leaf-part t (map_of m) level b h.tree is ∙ beside_nothing (own t (node_of h.tree) (map_of m) level))

    -- ---- an operator

    module _ (class_is : class_at bs p ≡ Operator) where
      operates : class_of (node_of h.tree) ≡ Operator
      operates = (operator-at bs h.tree p h.end h.at class_is).class_is

      operands : part_of t h.tree (map_of m) level b
          ≡ beside (own t (node_of h.tree) (map_of m) level) (parts_of t (children_of h.tree) (map_of m) (level + 1) b)
      operands = operator-part t (map_of m) level b h.tree operates

      pub route-operator : Stop bs p m t level pen room
      route-operator = stop (parts_of t (children_of h.tree) (map_of m) (level + 1) b) operands

      module _ (k n : ℕ) (next : k ≡ node_end (vars_of bs) bs p) (many : n ≡ arity (node_read (vars_of bs) bs p)) (mode : Mode) (after : Pen)
          (out out' : List ℕ)
          (visited : Visits bs p m t level mode pen out out' after) where
        route-children : RouteAll bs k (left - 1) n m b of t (level + 1) after room
        route-children =
            let e = h.tree in
            let all = parts_of t (children_of e) (map_of m) (level + 1) b in
            let same = operands_same m.height h.bound e operates in
            let some_left = standing-some (vars_of bs) bs p left route-standing in
            record {
              trees = children_of e;
              end = h.end;
              bound = h.bound;
              at = children-at (vars_of bs) bs p k n next many e h.end h.at;
              few = omega (arith, h.few, children-count e);
              left_low = omega (arith, h.left_low);
              level_low = omega (arith, h.level_low);
              count = children-counted (vars_of bs) bs p k n next many e h.end h.at;
              many_low = children-few (vars_of bs) bs p left route-standing k n next many;
              fitting = rw same.0 at
                  (&&-right (fits_here (node_of e) (heads_of bs) m.height) (all_fit (children_of e) (heads_of bs) (wanted (node_of e) m.height))
                  (sym (fits-children (heads_of bs) m.height e) ∙ h.fitting));
              reaches = rw same.1 at
                  (&&-right (reach_here (node_of e) h.bound) (reach_all (children_of e) (reach_below (node_of e) h.bound))
                  (sym (reach-children e h.bound) ∙ h.reaches));
              carried = h.carried;
              combinations = sym (operator-count e operates) ∙ h.branches;
              low = h.low;
              some = h.some;
              things_low = own-low all operands mode after out out' visited;
              fits_room = own-fits all operands mode after out out' visited;
            }

        pub route-operands : room ≡ room_of mode out → RouteAll bs k (left - 1) n m b of t (level + 1) after (room_of mode out')
        route-operands e =
            subst (RouteAll bs k (left - 1) n m b of t (level + 1) after)
            (own_room (parts_of t (children_of h.tree) (map_of m) (level + 1) b) operands mode after out out' visited e) route-children

    -- ---- a restriction

    module _ (class_is : class_at bs p ≡ Restriction) where
      limited : RestrAt h.tree (vars_of bs) bs p h.end
      limited = restriction-at bs h.tree p h.end h.at class_is

      inside : part_of t h.tree (map_of m) level b
          ≡ beside (own t (node_of h.tree) (map_of m) level) (part_of t limited.child (map_of m) level b)
      unfolding part_of
      inside =
          subst (λ e. part_of t e (map_of m) level b ≡ beside (own t (node_of e) (map_of m) level) (part_of t limited.child (map_of m) level b))
          (sym limited.is) refl

      pub route-restriction : Stop bs p m t level pen room
      route-restriction = stop (part_of t limited.child (map_of m) level b) inside

      limited-nodes : node_count h.tree ≡ suc (node_count limited.child)
      unfolding node_count
      limited-nodes = ap node_count limited.is

      limited-count : count_of h.tree ≡ count_of limited.child
      unfolding count_of
      limited-count = ap count_of limited.is

      module _ (k : ℕ) (next : k ≡ node_end (vars_of bs) bs p) (mode : Mode) (after : Pen) (out out' : List ℕ)
          (visited : Visits bs p m t level mode pen out out' after) where
        route-child : Route bs k (left - 1) m b of t level after room
        route-child = record {
          tree = limited.child;
          end = h.end;
          bound = h.bound;
          at = rw next limited.below;
          few = omega (arith, h.few, limited-nodes);
          left_low = omega (arith, h.left_low);
          level_low = omega (arith, h.level_low);
          fitting = &&-right (eqb limited.dim m.height) (fits limited.child (heads_of bs) m.height) (restr-fits limited);
          reaches = &&-right (all_reach h.bound limited.given) (reach limited.child h.bound) (restr-reaches limited);
          carried = h.carried;
          branches = sym limited-count ∙ h.branches;
          low = h.low;
          some = h.some;
          things_low = own-low (part_of t limited.child (map_of m) level b) inside mode after out out' visited;
          fits_room = own-fits (part_of t limited.child (map_of m) level b) inside mode after out out' visited;
        }

        pub route-inside : room ≡ room_of mode out → Route bs k (left - 1) m b of t level after (room_of mode out')
        route-inside e =
            subst (Route bs k (left - 1) m b of t level after)
            (own_room (part_of t limited.child (map_of m) level b) inside mode after out out' visited e) route-child

  -- ---- so many operands

  module _ (p left many : ℕ) (m : Map) (b of : ℕ) (t : Half) (level : ℕ) (pen : Pen) (room : ℕ) (some : 1 ≤ many)
      (h : RouteAll bs p left many m b of t level pen room) where
    split : MoreAt h.trees (vars_of bs) bs p h.end (many - 1)
    split = one_more (vars_of bs) bs h.trees p h.end many some h.at h.count

    nodes : node_counts h.trees ≡ node_count split.first + node_counts split.rest
    unfolding node_counts
    nodes = ap node_counts split.is

    product : count_of split.first * product_of split.rest ≡ of
    unfolding product_of
    product = ap product_of (sym split.is) ∙ h.combinations

    pub route-operand : OperandAt bs p left b of
    route-operand = record {
      tree = split.first;
      others = split.rest;
      end = split.middle;
      at = split.before;
      few = omega (arith, nodes, h.few);
      left_low = h.left_low;
      product = product;
      low = h.low;
      some = h.some;
    }

    all-fit : fits split.first (heads_of bs) m.height && all_fit split.rest (heads_of bs) m.height ≡ true
    unfolding all_fit
    all-fit = rw split.is at h.fitting

    all-reach : reach split.first h.bound && reach_all split.rest h.bound ≡ true
    unfolding reach_all
    all-reach = rw split.is at h.reaches

    each : Factors (count_of split.first) (product_of split.rest) of
    each = factors (count_of split.first) (product_of split.rest) of product (omega (arith, h.some))

    both-parts : parts_of t h.trees (map_of m) level b
        ≡ beside (part_of t split.first (map_of m) level (b / product_of split.rest))
        (parts_of t split.rest (map_of m) level (b % product_of split.rest))
    unfolding parts_of
    both-parts = ap (λ es. parts_of t es (map_of m) level b) split.is

    both_long : length (parts_of t h.trees (map_of m) level b).out
        ≡ length (part_of t split.first (map_of m) level (b / product_of split.rest)).out
        + length (parts_of t split.rest (map_of m) level (b % product_of split.rest)).out
    both_long = ap (λ x. length x.out) both-parts ∙ length-append (part_of t split.first (map_of m) level (b / product_of split.rest)).out
        (parts_of t split.rest (map_of m) level (b % product_of split.rest)).out

    module _ (r : Split) (taken : SplitsOf split.first split.rest split.middle b r) where
      after_first : AllAt split.rest (vars_of bs) bs r.next h.end
      after_first = subst (λ i. AllAt split.rest (vars_of bs) bs i h.end) (sym taken.ends) split.after

      route-part : Route bs p left m r.first.number r.first.of t level pen room
      route-part = record {
        tree = split.first;
        end = split.middle;
        bound = h.bound;
        at = split.before;
        few = omega (arith, nodes, h.few);
        left_low = h.left_low;
        level_low = h.level_low;
        fitting = &&-left (fits split.first (heads_of bs) m.height) (all_fit split.rest (heads_of bs) m.height) all-fit;
        reaches = &&-left (reach split.first h.bound) (reach_all split.rest h.bound) all-reach;
        carried = h.carried;
        branches = taken.first_count;
        low = omega (arith, taken.first_count, each.left_low, h.low);
        some = rw (taken.first_branch, ← taken.first_count) ((div-lt_iff_lt-mul each.right-some).1 (subst (λ i. b < i) (sym product) h.some));
        things_low = h.things_low;
        fits_room =
            subst (λ i. pen.to + length (part_of t split.first (map_of m) level i).out ≤ room) (sym taken.first_branch)
            (omega (arith, h.fits_room, both_long));
      }

      module _ (mode : Mode) (after : Pen) (out out' : List ℕ)
          (followed : Follows bs p m r.first.number r.first.of t level mode pen out out' after) where
        wrote : Wrote mode pen out out' after (part_of t split.first (map_of m) level r.first.number)
        wrote = followed split.first split.middle split.before taken.first_count

        route-rest : RouteAll bs r.next left (many - 1) m r.rest.number r.rest.of t level after room
        route-rest =
            let first = part_of t split.first (map_of m) level r.first.number in
            let to_is = ap (λ z. z.to) wrote.pen_is in
            let first-long = ap (λ i. length (part_of t split.first (map_of m) level i).out) taken.first_branch in
            record {
              trees = split.rest;
              end = h.end;
              bound = h.bound;
              at = after_first;
              few = omega (arith, nodes, h.few);
              left_low = h.left_low;
              level_low = h.level_low;
              count = split.many;
              many_low = omega (arith, h.many_low);
              fitting = &&-right (fits split.first (heads_of bs) m.height) (all_fit split.rest (heads_of bs) m.height) all-fit;
              reaches = &&-right (reach split.first h.bound) (reach_all split.rest h.bound) all-reach;
              carried = h.carried;
              combinations = taken.rest_count;
              low = omega (arith, taken.rest_count, each.right-low, h.low);
              some = rw (taken.rest_branch, ← taken.rest_count) (mod-lt b each.right-some);
              things_low = things_low mode pen out first wrote h.things_low (part-things t split.first (map_of m) level r.first.number);
              fits_room =
                  subst (λ i. after.to + length (parts_of t split.rest (map_of m) level i).out ≤ room) (sym taken.rest_branch)
                  (omega (arith, h.fits_room, both_long));
            }

        rest-after : room ≡ room_of mode out → RouteAll bs r.next left (many - 1) m r.rest.number r.rest.of t level after (room_of mode out')
        rest-after e =
            subst (RouteAll bs r.next left (many - 1) m r.rest.number r.rest.of t level after)
            (e ∙ sym (room-same mode pen out (part_of t split.first (map_of m) level r.first.number) wrote)) route-rest

    -- one operand alone has the branch that the combination has
    pub route-only : many < 2 → Route bs p left m b of t level pen room
    route-only few =
        let last = all_at-none (vars_of bs) bs split.rest split.middle h.end split.after (omega (arith, split.many)) in
        route-part _ (only-split split.first split.rest split.middle b of last.is product)

    -- the first operand, and then the others from where it ends
    module _ (r : Split) (splits : Splits bs p b of r) where
      first_taken : SplitsOf split.first split.rest split.middle b r
      first_taken = splits split.first split.rest split.middle split.before product

      pub route-first : Route bs p left m r.first.number r.first.of t level pen room
      route-first = route-part r first_taken

      module _ (mode : Mode) (after : Pen) (out out' : List ℕ)
          (followed : Follows bs p m r.first.number r.first.of t level mode pen out out' after) where
        pub route-next : room ≡ room_of mode out → RouteAll bs r.next left (many - 1) m r.rest.number r.rest.of t level after (room_of mode out')
        route-next = rest-after r first_taken mode after out out' followed

-- ---- the ways through the walk

module _ (bs : List ℕ) (p : ℕ) (m : Map) (b of : ℕ) (t : Half) (level : ℕ) (mode : Mode) (pen : Pen) (out : List ℕ) where
  own-visited : (e : Expr) (q : ℕ) → At e (vars_of bs) bs p q → {a : List ℕ} {y : Pen} → Visits bs p m t level mode pen out a y →
      Wrote mode pen out a y (own t (node_of e) (map_of m) level)
  own-visited e q h {a} {y} visited = subst (λ nd. Wrote mode pen out a y (own t nd (map_of m) level)) (at_read (vars_of bs) bs e p q h) visited

  -- a leaf: its own part
  pub leaf-way : {out' : List ℕ} {z : Pen} → class_at bs p ≡ Leaf → Visits bs p m t level mode pen out out' z →
      Follows bs p m b of t level mode pen out out' z
  leaf-way {out'} {z} class_is visited e q h has =
      subst (Wrote mode pen out out' z) (sym (leaf-part t (map_of m) level b e (leaf-at bs e p q h class_is).class_is)) (own-visited e q h visited)

  -- the next place is k
  module _ (k : ℕ) (next : k ≡ node_end (vars_of bs) bs p) where
    module _ (n : ℕ) (many : n ≡ arity (node_read (vars_of bs) bs p)) where
      -- an operator: its own part, and then its operands'
      pub operator-way : {a out' : List ℕ} {y z : Pen} → class_at bs p ≡ Operator → Visits bs p m t level mode pen out a y →
          FollowsAll bs k n m b of t (level + 1) mode y a out' z → Follows bs p m b of t level mode pen out out' z
      operator-way {a} {out'} {y} {z} class_is visited followed e q h has =
          let is = (operator-at bs e p q h class_is).class_is in
          let rest =
          followed (children_of e) q (children-at (vars_of bs) bs p k n next many e q h) (children-counted (vars_of bs) bs p k n next many e q h)
          (sym (operator-count e is) ∙ has) in
          let both =
          wrote_then mode pen out (own t (node_of e) (map_of m) level) (parts_of t (children_of e) (map_of m) (level + 1) b) (own-visited e q h visited) rest in
          subst (Wrote mode pen out out' z) (sym (operator-part t (map_of m) level b e is)) both

      -- a case: the branch of the child that it picks
      pub case-way : (r : Chosen) {out' : List ℕ} {z : Pen} → class_at bs p ≡ Case → b < of → Picks bs k n b of r →
          Follows bs r.at m r.choice.number r.choice.of t level mode pen out out' z →
          Follows bs p m b of t level mode pen out out' z
      case-way r {out'} {z} class_is low picks followed e q h has =
          let x = case_at bs e p q h class_is in
          let es = x.branches in
          let sum : sum_of es ≡ of = sym (case_count e es x.is) ∙ has in
          let some : b < sum_of es = omega arith in
          let count = ap (λ f. branch_count (children_of f)) (sym x.is) ∙ children-counted (vars_of bs) bs p k n next many e q h in
          let found = picks es q (rw next x.below) count sum in
          let kept = pick-kept es b some in
          let part =
          ap (part_of t (pick es b).child (map_of m) level) found.branch ∙ sym (kept.part-is t (map_of m) level) ∙ sym (parted es x.is) in
          subst (Wrote mode pen out out' z) part
          (followed (pick es b).child found.end found.at found.count)
        where
          parted : (es : Exprs) → e ≡ kase es → part_of t e (map_of m) level b ≡ chosen_of t es (map_of m) level b
          parted es i = unfold part_of in ap (λ f. part_of t f (map_of m) level b) i

    -- a restriction: its own part, and then the child's
    pub restriction-way : {a out' : List ℕ} {y z : Pen} → class_at bs p ≡ Restriction → Visits bs p m t level mode pen out a y →
        Follows bs k m b of t level mode y a out' z → Follows bs p m b of t level mode pen out out' z
    restriction-way {a} {out'} {y} {z} class_is visited followed e q h has =
        let x = restriction-at bs e p q h class_is in
        let rest = followed x.child q (rw next x.below) (sym (counts x) ∙ has) in
        let both = wrote_then mode pen out (own t (node_of e) (map_of m) level) (part_of t x.child (map_of m) level b) (own-visited e q h visited) rest in
        subst (Wrote mode pen out out' z) (sym (parted x)) both
      where
        counts : (x : RestrAt e (vars_of bs) bs p q) → count_of e ≡ count_of x.child
        counts x = unfold count_of in ap count_of x.is

        parted : (x : RestrAt e (vars_of bs) bs p q) →
            part_of t e (map_of m) level b ≡ beside (own t (node_of e) (map_of m) level) (part_of t x.child (map_of m) level b)
        parted x = unfold part_of in
            subst (λ f. part_of t f (map_of m) level b ≡ beside (own t (node_of f) (map_of m) level) (part_of t x.child (map_of m) level b)) (sym x.is) refl

    -- a dependence: the child's branch, with the maps composed
    pub dependence-way : (w : Map) {out' : List ℕ} {z : Pen} → class_at bs p ≡ Dependence → Lowers bs (p + 8) m w →
        Follows bs k w b of t level mode pen out out' z → Follows bs p m b of t level mode pen out out' z
    dependence-way w {out'} {z} class_is l followed e q h has =
        let x = dependence-at bs e p q h class_is in
        let by = l.read.is x.by x.fields.next x.fields.read in
        let part = ap (λ f. part_of t x.child f level b) (l.is ∙ ap (map_after (map_of m)) by) ∙ sym (parted x) in
        subst (Wrote mode pen out out' z) part (followed x.child q (rw next x.below) (sym (counts x) ∙ has))
      where
        counts : (x : DepAt e (vars_of bs) bs p q) → count_of e ≡ count_of x.child
        counts x = unfold count_of in ap count_of x.is

        parted : (x : DepAt e (vars_of bs) bs p q) → part_of t e (map_of m) level b ≡ part_of t x.child (map_after (map_of m) x.by) level b
        parted x = unfold part_of in ap (λ f. part_of t f (map_of m) level b) x.is

  pub none-way : (many : ℕ) → many < 1 → FollowsAll bs p many m b of t level mode pen out out pen
  none-way many l es q h c has =
      let x = all_at-none (vars_of bs) bs es p q h (omega arith) in
      subst (Wrote mode pen out out pen) (parted x.is) (wrote_nothing mode pen out)
    where
      parted : es ≡ none → nothing ≡ parts_of t es (map_of m) level b
      parted i = unfold parts_of in ap (λ f. parts_of t f (map_of m) level b) (sym i)

  -- the first operand, and then the others from where it ends
  split-way : (es : Exprs) (many q : ℕ) (x : MoreAt es (vars_of bs) bs p q (many - 1)) (r : Split) {a out' : List ℕ} {y z : Pen} →
      SplitsOf x.first x.rest x.middle b r → Follows bs p m r.first.number r.first.of t level mode pen out a y →
      FollowsAll bs r.next (many - 1) m r.rest.number r.rest.of t level mode y a out' z →
      Wrote mode pen out out' z (parts_of t es (map_of m) level b)
  split-way es many q x r {out' = out'} {z = z} taken first rest =
      let e = x.first in
      let fs = x.rest in
      let after = subst (λ i. AllAt fs (vars_of bs) bs i q) (sym taken.ends) x.after in
      let one = first e x.middle x.before taken.first_count in
      let others = rest fs q after x.many taken.rest_count in
      let both = wrote_then mode pen out (part_of t e (map_of m) level r.first.number) (parts_of t fs (map_of m) level r.rest.number) one others in
      let same =
      ap₂ (λ i j. beside (part_of t e (map_of m) level i) (parts_of t fs (map_of m) level j)) taken.first_branch taken.rest_branch ∙ sym parted in
      subst (Wrote mode pen out out' z) same both
    where
      parted : parts_of t es (map_of m) level b
          ≡ beside (part_of t x.first (map_of m) level (b / product_of x.rest)) (parts_of t x.rest (map_of m) level (b % product_of x.rest))
      parted = unfold parts_of in ap (λ f. parts_of t f (map_of m) level b) x.is

  products : (es : Exprs) (n q : ℕ) (x : MoreAt es (vars_of bs) bs p q n) → product_of es ≡ of → count_of x.first * product_of x.rest ≡ of
  unfolding product_of
  products es n q x has = ap product_of (sym x.is) ∙ has

  pub more-way : (many : ℕ) (r : Split) {a out' : List ℕ} {y z : Pen} → 1 ≤ many → Splits bs p b of r →
      Follows bs p m r.first.number r.first.of t level mode pen out a y → FollowsAll bs r.next (many - 1) m r.rest.number r.rest.of t level mode y a out' z →
      FollowsAll bs p many m b of t level mode pen out out' z
  more-way many r some splits first rest es q h c has =
      let x = one_more (vars_of bs) bs es p q many some h c in
      split-way es many q x r (splits x.first x.rest x.middle x.before (products es (many - 1) q x has)) first rest

module _ (bs : List ℕ) (p : ℕ) (m : Map) (b of : ℕ) (t : Half) (level : ℕ) (mode : Mode) (pen : Pen) (out : List ℕ) where
  -- one operand alone: its branch of the combination's number
  pub one_way : (many : ℕ) {out' : List ℕ} {z : Pen} → 1 ≤ many → many < 2 → Follows bs p m b of t level mode pen out out' z →
      FollowsAll bs p many m b of t level mode pen out out' z
  one_way many {out'} {z} some few only es q h c has =
      let x = one_more (vars_of bs) bs es p q many some h c in
      let last = all_at-none (vars_of bs) bs x.rest x.middle q x.after (omega (arith, x.many)) in
      let product = products bs p m b of t level mode pen out es (many - 1) q x has in
      split-way bs p m b of t level mode pen out es many q x _ (only-split x.first x.rest x.middle b of last.is product) only
      (none-way bs x.middle m 0 1 t level mode z out' (many - 1) (omega arith))
