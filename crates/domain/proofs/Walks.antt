-- What a walk at a point knows at a node, and that it may go on at the children: at the same point, or at the image below a dependence;
-- and that no sum of a constraint or of an image leaves an i64. Assumes nothing.
use mathlib.Core.Path.{◌≡◌, refl, sym, ap, ◌∙◌, subst}
use Prim.Native.Nat.{ℕ, suc, ◌+◌, ◌-◌, ◌≤◌}
use native.Mathlib.Omega.{arith}
use mathlib.Core.Bool.{Bool, true, ◌&&◌}
use mathlib.Core.List.{List}
use lib.ListN.{length}
use lib.Dec.{leb, eqb}
use borrow.Author.Tests.{leb-true, eqb-true}
use lib.IntN.{ℤ}
use Rattle.alpha.specs.Sheet.{Expr}
use Rattle.alpha.specs.Sheet.{Expr.var, Expr.int, Expr.boo, Expr.un, Expr.bin, Expr.ite, Expr.kase, Expr.restr, Expr.dep}
use Rattle.alpha.specs.Affine.{image}
use Rattle.alpha.specs.Shape.{fits, all_fit}
use Rattle.alpha.specs.Reach.{limit, map_reach, reach, reach_all}
use Rattle.alpha.specs.Written.{node_count, node_counts}
use Rattle.laws.specs.At.{node_of, node_read, node_end, At}
use Rattle.laws.specs.Children.{children_of, arity, fits_here, wanted, reach_here, reach_below}
use Rattle.laws.specs.Sheets.{heads_of, vars_of}
use Rattle.laws.proofs.Tests.{&&-left, &&-right}
use Rattle.laws.proofs.Shapes.{RestrAt, DepAt, MoreAt}
use Rattle.laws.proofs.Children.{children-count, fits-children, reach-children}
use Rattle.laws.proofs.NormalReach.{map_reach-pos}
use Rattle.affine.specs.declared.Map.{Map}
use Rattle.affine.specs.Value.{point_of, map_of, Padded}
use Rattle.affine.specs.Size.{Fit}
use Rattle.affine.specs.Reading.{MapRead, MapThere}
use Rattle.affine.proofs.Meaning.{height-length, width-cols}
use Rattle.affine.proofs.Fetched.{map-there}
use Rattle.affine.proofs.Bounds.{image-near, map-fits}
use Rattle.tree.specs.declared.Class.{Class}
use Rattle.tree.specs.declared.Class.TheVariants.{Leaf, Operator, Case, Restriction, Dependence}
use Rattle.tree.specs.Classes.{class_of, class_at}
use Rattle.tree.specs.Standing.{Standing, Noded}
use Rattle.tree.proofs.Classes.{class_same, dependence-at}
use Rattle.tree.proofs.Standings.{standing-noded, standing-some, children-at, children-counted, one_more}
use Rattle.domain.specs.Walk.{Ends, Walk, WalkAll}

-- the children of a node of this class stand at its own point
abbrev pub SamePoint : Class → Type 0
SamePoint Leaf = Unit {0}
SamePoint Operator = Unit {0}
SamePoint Case = Unit {0}
SamePoint Restriction = Unit {0}
SamePoint Dependence = ⊥

-- and so the same is asked of them, and given to them
pub same-below : (e : Expr) (n r : ℕ) → SamePoint (class_of (node_of e)) → (wanted (node_of e) n ≡ n) × (reach_below (node_of e) r ≡ r)
same-below (var v) n r h = (refl, refl)
same-below (int c) n r h = (refl, refl)
same-below (boo b) n r h = (refl, refl)
same-below (un o a) n r h = (refl, refl)
same-below (bin o a b) n r h = (refl, refl)
same-below (ite a b c) n r h = (refl, refl)
same-below (kase es) n r h = (refl, refl)
same-below (restr d cs a) n r h = (refl, refl)
same-below (dep f a) n r h = absurd h

-- ---- a restriction and a dependence at p, of dimension n: the dimension that they name, and their child's

module _ (bs : List ℕ) (e : Expr) (p q n : ℕ) (f : fits e (heads_of bs) n ≡ true) where
  module _ (x : RestrAt e (vars_of bs) bs p q) where
    restriction-fits : eqb x.dim n && fits x.child (heads_of bs) n ≡ true
    unfolding fits
    restriction-fits = rw x.is at f

    pub restriction-dims : x.dim ≡ n
    restriction-dims = eqb-true x.dim n (&&-left (eqb x.dim n) (fits x.child (heads_of bs) n) restriction-fits)

    pub restricted-fits : fits x.child (heads_of bs) n ≡ true
    restricted-fits = &&-right (eqb x.dim n) (fits x.child (heads_of bs) n) restriction-fits

  module _ (x : DepAt e (vars_of bs) bs p q) where
    abbrev child_fits : Bool
    child_fits = fits x.child (heads_of bs) (length x.by.rows)

    dependence-fits : eqb x.by.cols n && child_fits ≡ true
    unfolding fits
    dependence-fits = rw x.is at f

    dependence-dims : x.by.cols ≡ n
    dependence-dims = eqb-true x.by.cols n (&&-left (eqb x.by.cols n) child_fits dependence-fits)

    pub mapped-fits : fits x.child (heads_of bs) (length x.by.rows) ≡ true
    mapped-fits = &&-right (eqb x.by.cols n) child_fits dependence-fits

    -- where its map is m
    module _ (m : Map) (r : MapRead bs (p + 8) m) where
      pub map_is : map_of m ≡ x.by
      map_is = r.is x.by x.fields.next x.fields.read

      pub width_is : m.width ≡ n
      width_is = width-cols m map_is ∙ dependence-dims

      -- y is the image of z
      pub image-is : (z y : List ℤ) → point_of m.height y ≡ image (map_of m).rows (point_of m.width z) →
          point_of (length x.by.rows) y ≡ image x.by.rows (point_of n z)
      image-is z y is = rw (height-length m map_is, width_is) at (is ∙ ap (λ w. image w.rows (point_of m.width z)) map_is)

module _ (bs : List ℕ) where
  module _ (p : ℕ) (e : Expr) (q : ℕ) (h : At e (vars_of bs) bs p q) (same : SamePoint (class_at bs p)) where
    same_here : SamePoint (class_of (node_of e))
    same_here = subst SamePoint (class_same bs e p q h) same

    -- the children of any tree at p have its dimension
    pub children-fit : (n : ℕ) → fits e (heads_of bs) n ≡ true → all_fit (children_of e) (heads_of bs) n ≡ true
    children-fit n f =
        rw (same-below e n 0 same_here).0 at
        (&&-right (fits_here (node_of e) (heads_of bs) n) (all_fit (children_of e) (heads_of bs) (wanted (node_of e) n))
        (sym (fits-children (heads_of bs) n e) ∙ f))

    -- and its reach
    pub children-reach : (r : ℕ) → reach e r ≡ true → reach_all (children_of e) r ≡ true
    children-reach r f =
        rw (same-below e 0 r same_here).1 at
        (&&-right (reach_here (node_of e) r) (reach_all (children_of e) (reach_below (node_of e) r)) (sym (reach-children e r) ∙ f))

  module _ (p left : ℕ) (z : List ℤ) (h : Walk bs p left z) where
    pub walk-standing : Standing (vars_of bs) bs p left
    walk-standing = record { tree = h.tree; end = h.end; at = h.at; few = h.few; most = h.most }

    pub walk-noded : Noded (vars_of bs) bs p
    walk-noded = standing-noded (vars_of bs) bs p left walk-standing

    -- there is a node left
    pub walk-some : 1 ≤ left
    walk-some = standing-some (vars_of bs) bs p left walk-standing

    -- ---- the children at the same point, where the code has n of them and the next place is k

    module _ (k n : ℕ) (next : k ≡ node_end (vars_of bs) bs p) (many : n ≡ arity (node_read (vars_of bs) bs p)) where
      unfoldable pub walk-children : SamePoint (class_at bs p) → WalkAll bs k (left - 1) n z
      walk-children same =
          let e = h.tree in
          record {
            trees = children_of e;
            end = h.end;
            dims = h.dims;
            bound = h.bound;
            at = children-at (vars_of bs) bs p k n next many e h.end h.at;
            few = omega (arith, h.few, children-count e);
            most = omega (arith, h.most);
            many = children-counted (vars_of bs) bs p k n next many e h.end h.at;
            fitting = children-fit p e h.end h.at same h.dims h.fitting;
            reaches = children-reach p e h.end h.at same h.bound h.reaches;
            point = h.point;
          }

    -- ---- a dependence

    module _ (class_is : class_at bs p ≡ Dependence) where
      below : DepAt h.tree (vars_of bs) bs p h.end
      below = dependence-at bs h.tree p h.end h.at class_is

      reach-below : leb (map_reach h.bound below.by.rows) limit && reach below.child (map_reach h.bound below.by.rows) ≡ true
      unfolding reach
      reach-below = rw below.is at h.reaches

      count-below : node_count h.tree ≡ suc (node_count below.child)
      unfolding node_count
      count-below = ap node_count below.is

      within-limit : map_reach h.bound below.by.rows ≤ limit
      within-limit =
          leb-true _ _ (&&-left (leb (map_reach h.bound below.by.rows) limit) (reach below.child (map_reach h.bound below.by.rows)) reach-below)

      -- its map can be read
      pub map-stands : MapThere bs (p + 8)
      map-stands = map-there bs (p + 8) below.fields.read

      -- where its map is m
      module _ (m : Map) (r : MapRead bs (p + 8) m) where
        by-is : map_of m ≡ below.by
        by-is = map_is bs h.tree p h.end h.dims h.fitting below m r

        rows_are : (map_of m).rows ≡ below.by.rows
        rows_are = ap (λ f. f.rows) by-is

        dims-are : m.width ≡ h.dims
        dims-are = width_is bs h.tree p h.end h.dims h.fitting below m r

        -- the image can be computed
        pub image-fits : Fit m z
        image-fits = map-fits h.bound m z r.neat (rw dims-are h.point.near) (rw rows_are within-limit)

        -- and the child, at the next place, may be walked there
        pub walk-image : (k : ℕ) → k ≡ node_end (vars_of bs) bs p → (y : List ℤ) →
            point_of m.height y ≡ image (map_of m).rows (point_of m.width z) → Padded m.height y → Walk bs k (left - 1) y
        walk-image k next y is rest = record {
          tree = below.child;
          end = h.end;
          dims = m.height;
          bound = map_reach h.bound below.by.rows;
          at = rw next below.below;
          few = omega (arith, h.few, count-below);
          most = omega (arith, h.most);
          fitting = rw (height-length m by-is) (mapped-fits bs h.tree p h.end h.dims h.fitting below);
          reaches = &&-right (leb (map_reach h.bound below.by.rows) limit) (reach below.child (map_reach h.bound below.by.rows)) reach-below;
          point = record {
            padded = rest;
            near = rw (is, rows_are, dims-are) (image-near h.bound below.by.rows (point_of h.dims z) h.point.near);
            low = map_reach-pos h.bound below.by.rows;
            high = within-limit;
          };
        }

  -- ---- so many trees

  module _ (p left n : ℕ) (z : List ℤ) (some : 1 ≤ n) (h : WalkAll bs p left n z) where
    pub walks-split : MoreAt h.trees (vars_of bs) bs p h.end (n - 1)
    walks-split = one_more (vars_of bs) bs h.trees p h.end n some h.at h.many

    pub count-all : node_counts h.trees ≡ node_count walks-split.first + node_counts walks-split.rest
    unfolding node_counts
    count-all = ap node_counts walks-split.is

    pub fit_all : fits walks-split.first (heads_of bs) h.dims && all_fit walks-split.rest (heads_of bs) h.dims ≡ true
    unfolding all_fit
    fit_all = rw walks-split.is at h.fitting

    pub reach-all : reach walks-split.first h.bound && reach_all walks-split.rest h.bound ≡ true
    unfolding reach_all
    reach-all = rw walks-split.is at h.reaches

    pub fit-first : fits walks-split.first (heads_of bs) h.dims ≡ true
    fit-first = &&-left (fits walks-split.first (heads_of bs) h.dims) (all_fit walks-split.rest (heads_of bs) h.dims) fit_all

    unfoldable pub walk_first : Walk bs p left z
    walk_first = record {
      tree = walks-split.first;
      end = walks-split.middle;
      dims = h.dims;
      bound = h.bound;
      at = walks-split.before;
      few = omega (arith, count-all, h.few);
      most = h.most;
      fitting = fit-first;
      reaches = &&-left (reach walks-split.first h.bound) (reach_all walks-split.rest h.bound) reach-all;
      point = h.point;
    }

    -- the others, from where the first ends
    unfoldable pub walk-rest : (r : ℕ) → Ends bs p r → WalkAll bs r left (n - 1) z
    walk-rest r ends = record {
      trees = walks-split.rest;
      end = h.end;
      dims = h.dims;
      bound = h.bound;
      at = rw (ends walks-split.first walks-split.middle h.dims walks-split.before fit-first) walks-split.after;
      few = omega (arith, count-all, h.few);
      most = h.most;
      many = walks-split.many;
      fitting = &&-right (fits walks-split.first (heads_of bs) h.dims) (all_fit walks-split.rest (heads_of bs) h.dims) fit_all;
      reaches = &&-right (reach walks-split.first h.bound) (reach_all walks-split.rest h.bound) reach-all;
      point = h.point;
    }
