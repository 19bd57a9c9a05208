-- The branches of a body: how long a branch can be, that following it from the identity gives that branch of the normal form, and the ways
-- through what measures and stores one branch after another. Assumes nothing.
use mathlib.Core.Path.{◌≡◌, refl, sym, ap, ◌∙◌, subst}
use Prim.Native.Nat.{ℕ, zero, suc, ◌+◌, ◌*◌, ◌-◌, ◌/◌, ◌%◌, ◌^◌, ◌≤◌, ◌<◌, max}
use native.Mathlib.Nat.{mul-le-mul_right, mul-le-mul_left, zero-add}
use native.Mathlib.Omega.{arith}
use mathlib.Core.Bool.{Bool, true, false}
use mathlib.Core.List.{List, [], ◌∷◌, ◌++◌, map, append_assoc}
use lib.ListN.{length, get_or, drop, length-append, length-map, drop_of_length-le}
use lib.Seq.{drop-cons}
use lib.Dec.{ltb}
use Rattle.alpha.specs.Pick.{ifb}
use Rattle.alpha.specs.Field.{num, nat}
use Rattle.alpha.specs.Sheet as Sheet
use Rattle.alpha.specs.Sheet.{Node, Expr, Exprs}
use Rattle.alpha.specs.Sheet.{Node.n_var, Node.n_int, Node.n_bool, Node.n_unary, Node.n_binary, Node.n_if, Node.n_case, Node.n_restr, Node.n_dep}
use Rattle.alpha.specs.Sheet.{Expr.var, Expr.int, Expr.boo, Expr.un, Expr.bin, Expr.ite, Expr.kase, Expr.restr, Expr.dep, Exprs.none, Exprs.more}
use Rattle.alpha.specs.Affine.{row_after, constraint_after, map_after, identity, id_rows}
use Rattle.alpha.specs.Read.{dimension}
use Rattle.alpha.specs.Reach.{top_reach, map_reach}
use Rattle.alpha.specs.Written.{flat, unary_code, binary_code, row_bytes, constraint_bytes, bytes, all_bytes, branch_count, node_count, node_counts, depth}
use Rattle.alpha.specs.Normal.{Branch, push_branch, as_exprs}
use Rattle.laws.specs.Sheets.{heads_of, vars_of}
use Rattle.laws.specs.Wide.{RowsWide, Wide}
use Rattle.laws.specs.Writable.{Writable, AllWritable}
use Rattle.laws.proofs.Branches.{AllBranches, norm-all}
use Rattle.laws.proofs.NormalChecks.{HasForm, form-rules, FitsToo, AllFitToo, fits-rules}
use Rattle.laws.proofs.NormalAgain.{WideToo, AllWideToo, wide-rules, id_rows-wide, rows-after-wide, constraints-after-wide}
use Rattle.laws.proofs.NormalReach.{identity-reach}
use Rattle.laws.proofs.NormalWritable.{at-writable}
use Rattle.laws.proofs.Widths.{at_wide}
use Rattle.laws.proofs.Trees.{at-unique}
use Rattle.affine.specs.declared.Map.{Map}
use Rattle.affine.specs.Value.{map_of, Neat}
use Rattle.laws.proofs.Written.{length-num}
use Rattle.tree.specs.Standing.{Standing}
use Rattle.normal.specs.declared.Choice.{Choice}
use Rattle.normal.specs.declared.Half.{Half}
use Rattle.normal.specs.declared.Half.TheVariants.{Constraints, Tree}
use Rattle.normal.specs.declared.Mode.{Mode}
use Rattle.normal.specs.declared.Mode.TheVariants.{Measure}
use Rattle.normal.specs.declared.Pen.{Pen}
use Rattle.normal.specs.declared.Taken.{Taken}
use Rattle.normal.specs.Count.{count_of}
use Rattle.normal.specs.Part.{Part, beside, tree_part, given_part, given_by, own, part_of, chosen_of}
use Rattle.normal.specs.Followed.{laid, room_of, Route, Wrote, Follows}
use Rattle.normal.specs.Body.{written, taken_by, nothing, both, total, branches_in, branch_in, BodyAt, BranchAt, IsBody}
use Rattle.normal.specs.Body.{Added, AddedAll, PutsBranch, PutsFrom, Fits, BranchFits, BodyFits, half_of, HalfAt, PutsHalf}
use Rattle.normal.proofs.Numbered.{count-is}
use Rattle.normal.proofs.Composing.{branch-first}
use Rattle.normal.proofs.Branched.{Branched, branched}
use Rattle.normal.proofs.Laying.{length-nat, two-long, three-long, rows_long, constraints-long}
use Rattle.normal.proofs.Laid.{laid_nothing, laid-after, laid-past, laid_room, room-high}

-- ---- how long a branch can be

module _ (m : Sheet.Map) (few : m.cols ≤ 4) (high : length m.rows ≤ 4) (wide : RowsWide m.cols m.rows) where
  leaf-short : (a b : List ℕ) → length a ≡ 8 → length b ≡ 8 →
      length (nat 8 ++ nat m.cols ++ nat (length m.rows) ++ flat (map row_bytes m.rows) ++ (a ++ b)) ≤ 3104
  leaf-short a b x y =
      let front = nat 8 ++ nat m.cols ++ nat (length m.rows) in
      omega (
        arith,
        length-append (front ++ flat (map row_bytes m.rows)) (a ++ b),
        length-append front (flat (map row_bytes m.rows)),
        length-append a b,
        three-long 8 m.cols (length m.rows),
        rows_long m.cols m.rows wide,
        mul-le-mul_right (8 * m.cols + 8) high,
      )

  own-short : (t : Half) (nd : Node) (l : ℕ) → length (given_by nd) ≤ 64 → length (own t nd m l).out ≤ 3104
  unfolding bytes
  own-short Tree (n_var v) l c = leaf-short (nat 0) (nat v) (length-nat 0) (length-nat v)
  own-short Tree (n_int x) l c = leaf-short (nat 1) (num x) (length-nat 1) (length-num x)
  own-short Tree (n_bool b) l c = leaf-short (nat 2) (nat b) (length-nat 2) (length-nat b)
  own-short Tree (n_unary o) l c = omega (arith, two-long 3 (unary_code o))
  own-short Tree (n_binary o) l c = omega (arith, two-long 4 (binary_code o))
  own-short Tree n_if l c = omega (arith, length-nat 5)
  own-short Tree (n_case n) l c = omega arith
  own-short Tree (n_restr d cs) l c = omega arith
  own-short Tree (n_dep f) l c = omega arith
  own-short Constraints (n_var v) l c = omega arith
  own-short Constraints (n_int x) l c = omega arith
  own-short Constraints (n_bool b) l c = omega arith
  own-short Constraints (n_unary o) l c = omega arith
  own-short Constraints (n_binary o) l c = omega arith
  own-short Constraints n_if l c = omega arith
  own-short Constraints (n_case n) l c = omega arith
  own-short Constraints (n_restr d cs) l c =
      omega (
        arith,
        constraints-long m.cols (map (constraint_after m) cs) (constraints-after-wide m cs wide),
        length-map cs (constraint_after m),
        mul-le-mul_right (16 + 8 * m.cols) c,
        ap (λ n. n * (16 + 8 * m.cols)) (length-map cs (constraint_after m)),
      )
  own-short Constraints (n_dep f) l c = omega arith

two-short : (p q : Part) (a b : ℕ) → length p.out ≤ a → length q.out ≤ b → length (beside p q).out ≤ a + b
two-short p q a b h g = omega (arith, length-append p.out q.out)

module _ (vars : ℕ) where
  mutual
    unfolding part_of node_count Writable

    pub part-short : (t : Half) (e : Expr) (m : Sheet.Map) (l b : ℕ) → Writable e vars → m.cols ≤ 4 → length m.rows ≤ 4 →
        RowsWide m.cols m.rows →
        length (part_of t e m l b).out ≤ 3104 * node_count e
    part-short t (var v) m l b w f h r = omega (arith, own-short m f h r t (n_var v) l (omega arith))
    part-short t (int c) m l b w f h r = omega (arith, own-short m f h r t (n_int c) l (omega arith))
    part-short t (boo c) m l b w f h r = omega (arith, own-short m f h r t (n_bool c) l (omega arith))
    part-short t (un o a) m l b w f h r =
        omega (
          arith,
          two-short (own t (n_unary o) m l) (part_of t a m (l + 1) b) 3104 (3104 * node_count a)
              (own-short m f h r t (n_unary o) l (omega arith))
              (part-short t a m (l + 1) b w f h r),
        )
    part-short t (bin o x y) m l b w f h r =
        let i = b / count_of y in
        let j = b % count_of y in
        omega (
          arith,
          two-short (own t (n_binary o) m l) (beside (part_of t x m (l + 1) i) (part_of t y m (l + 1) j)) 3104 (3104 * node_count x + 3104 * node_count y)
              (own-short m f h r t (n_binary o) l (omega arith))
              (two-short (part_of t x m (l + 1) i) (part_of t y m (l + 1) j) (3104 * node_count x) (3104 * node_count y)
              (part-short t x m (l + 1) i w.0 f h r) (part-short t y m (l + 1) j w.1 f h r)),
        )
    part-short t (ite x y z) m l b w f h r =
        let n = count_of y * count_of z in
        let i = b / n in
        let j = b % n / count_of z in
        let k = b % n % count_of z in
        omega (
          arith,
          two-short (own t n_if m l) (beside (part_of t x m (l + 1) i) (beside (part_of t y m (l + 1) j) (part_of t z m (l + 1) k))) 3104
              (3104 * node_count x + (3104 * node_count y + 3104 * node_count z)) (own-short m f h r t n_if l (omega arith))
              (two-short (part_of t x m (l + 1) i) (beside (part_of t y m (l + 1) j) (part_of t z m (l + 1) k)) (3104 * node_count x)
              (3104 * node_count y + 3104 * node_count z)
              (part-short t x m (l + 1) i w.0 f h r)
              (two-short (part_of t y m (l + 1) j) (part_of t z m (l + 1) k) (3104 * node_count y) (3104 * node_count z)
              (part-short t y m (l + 1) j w.1 f h r)
              (part-short t z m (l + 1) k w.2 f h r))),
        )
    part-short t (kase es) m l b w f h r = omega (arith, chosen-short t es m l b w.2 f h r)
    part-short t (restr i cs a) m l b w f h r =
        omega (
          arith,
          two-short (own t (n_restr i cs) m l) (part_of t a m l b) 3104 (3104 * node_count a)
              (own-short m f h r t (n_restr i cs) l w.1) (part-short t a m l b w.3 f h r),
        )
    part-short t (dep g a) m l b w f h r =
        omega (
          arith,
          part-short t a (map_after m g) l b w.3 f (omega (arith, length-map g.rows (row_after m), w.1))
              (rows-after-wide m g.rows r),
        )

    chosen-short : (t : Half) (es : Exprs) (m : Sheet.Map) (l b : ℕ) → AllWritable es vars → m.cols ≤ 4 → length m.rows ≤ 4 →
        RowsWide m.cols m.rows → length (chosen_of t es m l b).out ≤ 3104 * node_counts es
    chosen-short t none m l b w f h r = omega arith
    chosen-short t (more e es) m l b w f h r =
        go (ltb b (count_of e)) (part-short t e m l b w.0 f h r) (chosen-short t es m l (b - count_of e) w.1 f h r)
      where
        go : (s : Bool) → length (part_of t e m l b).out ≤ 3104 * node_count e →
            length (chosen_of t es m l (b - count_of e)).out ≤ 3104 * node_counts es →
            length (ifb s (λ _. part_of t e m l b) (λ _. chosen_of t es m l (b - count_of e))).out ≤ 3104 * (node_count e + node_counts es)
        go true x y = omega arith
        go false x y = omega arith

-- ---- the branch that is followed

all-at : (P : Branch → Type 0) (bs : List Branch) (b : ℕ) (d : Branch) → AllBranches P bs → b < length bs → P (get_or bs b d)
all-at P [] b d h lt = absurd (omega arith)
all-at P (x ∷ bs) zero d h lt = h.0
all-at P (x ∷ bs) (suc b) d h lt = all-at P bs b d h.1 (omega arith)

module _ (bs : List ℕ) (p n many : ℕ) (e : Expr) (h : IsBody bs p n many e) (b : ℕ) (lt : b < many) where
  hs : List Sheet.Head
  hs = heads_of bs

  some : b < count_of e
  some = omega (arith, h.count)

  wide : Wide e
  wide = at_wide (vars_of bs) bs e p h.end h.at

  x : Branch
  x = branch_in bs e b

  listed : b < length (branches_in bs e)
  listed = omega (arith, some, count-is (dimension (heads_of bs)) e)

  -- the identity first changes nothing of a branch
  same_branch : push_branch (identity n) x ≡ x
  unfolding x hs
  same_branch =
      let d : Branch = record { given = []; term = kase none } in
      let form =
      all-at HasForm (branches_in bs e) b d (norm-all (dimension hs) (λ _ c. HasForm c) (λ _ c. HasForm c) (form-rules (dimension hs)) e) listed in
      let fit = all-at (FitsToo hs e) (branches_in bs e) b d (norm-all (dimension hs) (FitsToo hs) (AllFitToo hs) (fits-rules hs) e) listed in
      let widths =
      all-at (WideToo hs e) (branches_in bs e) b d (norm-all (dimension hs) (WideToo hs) (AllWideToo hs) (wide-rules hs) e) listed wide n
      h.fitting in
      branch-first n hs (branch_in bs e b) form (fit n h.fitting) widths.given-wide widths.term-wide

  rows-long-are : length (identity n).rows ≡ n
  rows-long-are = length-id_rows n
    where
      length-id_rows : (k : ℕ) → length (id_rows k) ≡ k
      length-id_rows zero = refl
      length-id_rows (suc k) = ap suc (length-map (id_rows k) Rattle.alpha.specs.Affine.wider ∙ length-id_rows k)

  from-identity : Branched e (identity n) 0 b x
  unfolding x hs
  from-identity = branched hs e (identity n) 0 b wide (id_rows-wide n) (rw rows-long-are h.fitting) some

  pub tree-part : part_of Tree e (identity n) 0 b ≡ tree_part (branch_in bs e b).term 0
  unfolding x
  tree-part = from-identity.tree_is ∙ ap (λ y. tree_part y.term 0) same_branch

  pub given-part : part_of Constraints e (identity n) 0 b ≡ given_part (branch_in bs e b).given
  unfolding x
  given-part = from-identity.given_is ∙ ap (λ y. given_part y.given) same_branch

  pub half-part : (t : Half) → part_of t e (identity n) 0 b ≡ half_of t (branch_in bs e b)
  half-part Tree = tree-part
  half-part Constraints = given-part

-- ---- sums

taken-same : {a b : Taken} → a.nodes ≡ b.nodes → a.bytes ≡ b.bytes → a.limits ≡ b.limits → a.deep ≡ b.deep → a ≡ b
taken-same p q r s = λ i. record { nodes = p i; bytes = q i; limits = r i; deep = s i }

pub both-assoc : (a b c : Taken) → both (both a b) c ≡ both a (both b c)
both-assoc a b c = taken-same (omega arith) (omega arith) (omega arith) (omega arith)

pub both-nothing : (a : Taken) → a ≡ both a nothing
both-nothing a = taken-same (omega arith) (omega arith) (omega arith) (omega arith)

pub nothing-both : (a : Taken) → a ≡ both nothing a
nothing-both a = taken-same (omega arith) (omega arith) (omega arith) (omega arith)

-- an expression is at least as long as it has nodes
mutual
  unfolding bytes node_count

  node-low : (e : Expr) → node_count e ≤ length (bytes e)
  node-low (var v) = omega (arith, two-long 0 v)
  node-low (int c) = omega (arith, length-append (nat 1) (num c), length-nat 1)
  node-low (boo b) = omega (arith, two-long 2 b)
  node-low (un o a) =
      let k = unary_code o in
      omega (arith, length-append (nat 3 ++ nat k) (bytes a), two-long 3 k, node-low a)
  node-low (bin o a b) =
      let k = binary_code o in
      omega (
        arith,
        length-append (nat 4 ++ nat k ++ bytes a) (bytes b),
        length-append (nat 4 ++ nat k) (bytes a),
        two-long 4 k,
        node-low a,
        node-low b,
      )
  node-low (ite a b c) =
      omega (
        arith,
        length-append (nat 5 ++ bytes a ++ bytes b) (bytes c),
        length-append (nat 5 ++ bytes a) (bytes b),
        length-append (nat 5) (bytes a),
        length-nat 5,
        node-low a,
        node-low b,
        node-low c,
      )
  node-low (kase es) =
      let k = branch_count es in
      omega (arith, length-append (nat 6 ++ nat k) (all_bytes es), two-long 6 k, nodes-low es)
  node-low (restr d cs a) =
      let front = nat 7 ++ nat d ++ nat (length cs) in
      omega (
        arith,
        length-append (front ++ flat (map constraint_bytes cs)) (bytes a),
        length-append front (flat (map constraint_bytes cs)),
        three-long 7 d (length cs),
        node-low a,
      )
  node-low (dep f a) =
      let front = nat 8 ++ nat f.cols ++ nat (length f.rows) in
      omega (
        arith,
        length-append (front ++ flat (map row_bytes f.rows)) (bytes a),
        length-append front (flat (map row_bytes f.rows)),
        three-long 8 f.cols (length f.rows),
        node-low a,
      )

  nodes-low : (es : Exprs) → node_counts es ≤ length (all_bytes es)
  nodes-low none = omega arith
  nodes-low (more e es) = omega (arith, length-append (bytes e) (all_bytes es), node-low e, nodes-low es)

module _ (n : ℕ) where
  total-append : (xs ys : List Branch) → total n (xs ++ ys) ≡ both (total n xs) (total n ys)
  total-append [] ys = nothing-both (total n ys)
  total-append (x ∷ xs) ys = ap (both (taken_by n x)) (total-append xs ys) ∙ sym (both-assoc (taken_by n x) (total n xs) (total n ys))

  bytes-append : (xs ys : List Branch) → all_bytes (as_exprs n (xs ++ ys)) ≡ all_bytes (as_exprs n xs) ++ all_bytes (as_exprs n ys)
  unfolding bytes
  bytes-append [] ys = refl
  bytes-append (x ∷ xs) ys =
      let first = bytes (written n x) in
      ap (λ l. first ++ l) (bytes-append xs ys) ∙ sym (append_assoc first (all_bytes (as_exprs n xs)) (all_bytes (as_exprs n ys)))

  pub bytes_are : (xs : List Branch) → (total n xs).bytes ≡ length (all_bytes (as_exprs n xs))
  unfolding bytes
  bytes_are [] = refl
  bytes_are (x ∷ xs) = omega (arith, length-append (bytes (written n x)) (all_bytes (as_exprs n xs)), bytes_are xs)

  nodes_few : (xs : List Branch) → (total n xs).nodes ≤ (total n xs).bytes
  nodes_few [] = omega arith
  nodes_few (x ∷ xs) = omega (arith, node-low (written n x), nodes_few xs)

-- ---- what is added, part after part

pub added_nothing : (mode : Mode) (sofar : Taken) (l : List ℕ) → Added mode sofar l l sofar nothing []
added_nothing mode sofar l = record { taken_is = both-nothing sofar; out_is = laid_nothing mode l sofar.bytes }

module _ (mode : Mode) (sofar : Taken) (l : List ℕ) {a : List ℕ} {y : Taken} where
  module _ (p : Taken) (xs ys : List ℕ) (long : p.bytes ≡ length xs) (first : Added mode sofar l a y p xs) where
    added_then : (q : Taken) {b : List ℕ} {z : Taken} → Added mode y a b z q ys → Added mode sofar l b z (both p q) (xs ++ ys)
    added_then q rest = record {
      taken_is = rest.taken_is ∙ ap (λ x. both x q) first.taken_is ∙ both-assoc sofar p q;
      out_is =
          laid-after mode l sofar.bytes p.bytes xs ys (sym long) first.out_is (rest.out_is ∙ ap (λ x. laid mode a x.bytes ys) first.taken_is);
    }

    -- there is room for the rest
    then-fits : p.nodes ≤ p.bytes → Fits sofar (xs ++ ys) (room_of mode l) → Fits y ys (room_of mode a)
    then-fits few fits_in = record {
      nodes_low = omega (arith, fits_in.nodes_low, ap (λ x. x.nodes) first.taken_is, ap (λ x. x.bytes) first.taken_is);
      fits_room =
          omega (
            arith,
            fits_in.fits_room,
            length-append xs ys,
            ap (λ x. x.bytes) first.taken_is,
            laid_room mode l sofar.bytes xs first.out_is,
          );
    }

  -- branches, and then others
  module _ (n : ℕ) (xs ys : List Branch) (first : AddedAll mode sofar l a y n xs) where
    pub added-append : {b : List ℕ} {z : Taken} → AddedAll mode y a b z n ys → AddedAll mode sofar l b z n (xs ++ ys)
    added-append rest =
        let both-are = added_then (total n xs) (all_bytes (as_exprs n xs)) (all_bytes (as_exprs n ys)) (bytes_are n xs) first (total n ys) rest in
        record {
          taken_is = both-are.taken_is ∙ ap (both sofar) (sym (total-append n xs ys));
          out_is = both-are.out_is ∙ ap (laid mode l sofar.bytes) (sym (bytes-append n xs ys));
        }

    pub append-fits : Fits sofar (all_bytes (as_exprs n (xs ++ ys))) (room_of mode l) → Fits y (all_bytes (as_exprs n ys)) (room_of mode a)
    append-fits fits_in =
        then-fits (total n xs) (all_bytes (as_exprs n xs)) (all_bytes (as_exprs n ys)) (bytes_are n xs) first (nodes_few n xs)
        (subst (λ k. Fits sofar k (room_of mode l)) (bytes-append n xs ys) fits_in)

pub first-append : (sofar : Taken) (n : ℕ) (xs ys : List Branch) (room : ℕ) → Fits sofar (all_bytes (as_exprs n (xs ++ ys))) room →
    Fits sofar (all_bytes (as_exprs n xs)) room
first-append sofar n xs ys room fits_in = record {
  nodes_low = fits_in.nodes_low;
  fits_room =
      omega (
        arith,
        fits_in.fits_room,
        ap length (bytes-append n xs ys),
        length-append (all_bytes (as_exprs n xs)) (all_bytes (as_exprs n ys)),
      );
}

-- ---- the body

module _ (bs : List ℕ) (p left n many : ℕ) (h : BodyAt bs p left n many) where
  pub is_body : IsBody bs p n many h.tree
  is_body = record { end = h.end; at = h.at; fitting = h.fitting; count = h.count }

  pub tree-standing : Standing (vars_of bs) bs p left
  tree-standing = record { tree = h.tree; end = h.end; at = h.at; few = h.few; most = h.left_low }

-- a branch's own fields, its constraints and its tree
written-long : (n : ℕ) (x : Branch) → length (bytes (written n x)) ≡ 24 + length (flat (map constraint_bytes x.given)) + length (bytes x.term)
unfolding bytes
written-long n x =
    let front = nat 7 ++ nat n ++ nat (length x.given) in
    length-append (front ++ flat (map constraint_bytes x.given)) (bytes x.term)
    ∙ omega (arith, length-append front (flat (map constraint_bytes x.given)), three-long 7 n (length x.given))

-- ---- a branch

module _ (bs : List ℕ) (p left n : ℕ) (x : Choice) (h : BranchAt bs p left n x) where
  body_is : IsBody bs p n x.of h.body.tree
  body_is = is_body bs p left n x.of h.body

  -- one half, followed from the identity
  module _ (m : Map) (is : map_of m ≡ identity n) (neat : Neat m) (high : m.height ≡ n) where
    pub half-route : (t : Half) (to room : ℕ) → HalfAt bs p left n x t to room →
        Route bs p left m x.number x.of t 0 (record { to = to; things = 0; deep = 0 }) room
    half-route t to room at = record {
      tree = h.body.tree;
      end = h.body.end;
      bound = top_reach;
      at = h.body.at;
      few = h.body.few;
      left_low = h.body.left_low;
      level_low = omega (arith, h.body.left_low);
      fitting = rw high h.body.fitting;
      reaches = h.body.reaches;
      carried = record {
        neat = neat;
        within = subst (λ f. map_reach top_reach f.rows ≤ top_reach) (sym is) (identity-reach top_reach n (omega arith));
        high = omega arith;
      };
      branches = h.body.count;
      low = h.body.low;
      some = h.some;
      things_low = omega arith;
      fits_room =
          let part = ap (λ f. part_of t h.body.tree f 0 x.number) is ∙ half-part bs p n x.of h.body.tree body_is x.number h.some t in
          subst (λ y. to + length y.out ≤ room) (sym part) (at.fits_room h.body.tree body_is);
    }

    pub half-put : (t : Half) (mode : Mode) (to : ℕ) (l d : List ℕ) (r : Pen) →
        Follows bs p m x.number x.of t 0 mode (record { to = to; things = 0; deep = 0 }) l d r → PutsHalf bs p n x t mode to l d r
    half-put t mode to l d r followed e i =
        subst (Wrote mode (record { to = to; things = 0; deep = 0 }) l d r)
        (ap (λ f. part_of t e f 0 x.number) is ∙ half-part bs p n x.of e i x.number h.some t) (followed e i.end i.at i.count)

  module _ (mode : Mode) (sofar : Taken) (l : List ℕ) (room : BranchFits bs p n x sofar (room_of mode l)) where
    -- there is room for the restriction's own numbers
    pub head-room : (sofar.bytes + 24 ≤ 2 ^ 40) × (sofar.bytes + 24 ≤ room_of mode l)
    head-room =
        let fits_in = (room h.body.tree body_is).fits_room in
        let long = written-long n (branch_in bs h.body.tree x.number) in
        (omega (arith, fits_in, long, room-high mode l), omega (arith, fits_in, long))

    module _ (a b : List ℕ) (seven : a ≡ laid mode l sofar.bytes (nat 7)) (dim : b ≡ laid mode a (sofar.bytes + 8) (nat n)) where
      head_is : b ≡ laid mode l sofar.bytes (nat 7 ++ nat n)
      head_is = laid-after mode l sofar.bytes 8 (nat 7) (nat n) (length-nat 7) seven dim

      pub given-at : HalfAt bs p left n x Constraints (sofar.bytes + 24) (room_of mode b)
      given-at = record {
        at = h;
        fits_room = λ e i.
            omega (
              arith,
              (room e i).fits_room,
              written-long n (branch_in bs e x.number),
              laid_room mode l sofar.bytes (nat 7 ++ nat n) head_is,
            );
      }

      module _ (c : List ℕ) (given : Pen) (first : PutsHalf bs p n x Constraints mode (sofar.bytes + 24) b c given) where
        pub count-room : sofar.bytes + 24 ≤ room_of mode c
        count-room =
            let x-is = branch_in bs h.body.tree x.number in
            omega (
              arith,
              head-room,
              laid_room mode l sofar.bytes (nat 7 ++ nat n) head_is,
              laid_room mode b (sofar.bytes + 24) (half_of Constraints x-is).out (first h.body.tree body_is).out_is,
            )

        module _ (d : List ℕ) (count : d ≡ laid mode c (sofar.bytes + 16) (nat given.things)) where
          pub term-at : HalfAt bs p left n x Tree given.to (room_of mode d)
          term-at = record {
            at = h;
            fits_room = λ e i.
                let y = branch_in bs e x.number in
                omega (
                  arith,
                  (room e i).fits_room,
                  written-long n y,
                  ap (λ z. z.to) (first e i).pen_is,
                  laid_room mode l sofar.bytes (nat 7 ++ nat n) head_is,
                  laid_room mode b (sofar.bytes + 24) (half_of Constraints y).out (first e i).out_is,
                  laid_room mode c (sofar.bytes + 16) (nat given.things) count,
                );
          }

          module _ (u : List ℕ) (term : Pen) (second : PutsHalf bs p n x Tree mode given.to d u term) where
            pub nodes-fit : sofar.nodes + 1 + term.things ≤ 2 ^ 41
            nodes-fit =
                let y = branch_in bs h.body.tree x.number in
                let here = room h.body.tree body_is in
                omega (
                  arith,
                  here.nodes_low,
                  here.fits_room,
                  written-long n y,
                  node-low y.term,
                  ap (λ z. z.things) (second h.body.tree body_is).pen_is,
                  room-high mode l,
                )

            pub branch-put : PutsBranch bs p n x mode sofar l u (record {
              nodes = sofar.nodes + 1 + term.things;
              bytes = term.to;
              limits = max sofar.limits given.things;
              deep = max sofar.deep term.deep;
            })
            unfolding bytes node_count depth
            branch-put e i =
                let y = branch_in bs e x.number in
                let to = sofar.bytes in
                let g = first e i in
                let t = second e i in
                let cs = flat (map constraint_bytes y.given) in
                let k = nat (length y.given) in
                let front = nat 7 ++ nat n ++ k in
                let limits : given.things ≡ length y.given = ap (λ z. z.things) g.pen_is ∙ zero-add (length y.given) in
                let gto : given.to ≡ to + 24 + length cs = ap (λ z. z.to) g.pen_is in
                let tto : term.to ≡ given.to + length (bytes y.term) = ap (λ z. z.to) t.pen_is in
                let tmany = ap (λ z. z.things) t.pen_is in
                let tdeep = ap (λ z. z.deep) t.pen_is in
                let front_is : laid mode b (to + 16) k ≡ laid mode l to front =
                laid-after mode l to 16 (nat 7 ++ nat n) k (two-long 7 n) head_is refl in
                let counted : d ≡ laid mode (laid mode b (to + 16) k) (to + 24) cs =
                count ∙ ap (λ j. laid mode c (to + 16) (nat j)) limits ∙ ap (λ r. laid mode r (to + 16) k) g.out_is
                ∙ laid-past mode b (to + 16) (to + 24) k cs (omega (arith, length-nat (length y.given))) in
                let front-cs = laid-after mode l to 24 front cs (three-long 7 n (length y.given)) front_is counted in
                let next : given.to ≡ to + (24 + length cs) = omega arith in
                let last : u ≡ laid mode d (to + (24 + length cs)) (bytes y.term) = t.out_is ∙ ap (λ j. laid mode d j (bytes y.term)) next in
                let front_long : length (front ++ cs) ≡ 24 + length cs = length-append front cs ∙ omega (arith, three-long 7 n (length y.given)) in
                record {
                  taken_is = taken-same (omega arith) (omega (arith, written-long n y)) (omega arith) (omega arith);
                  out_is = laid-after mode l to (24 + length cs) (front ++ cs) (bytes y.term) front_long front-cs last;
                }

-- ---- one branch after another

-- the first of those from number b on
split-branches : (bs : List ℕ) (p n many b : ℕ) (e : Expr) → IsBody bs p n many e → b < many →
    drop b (branches_in bs e) ≡ branch_in bs e b ∷ drop (b + 1) (branches_in bs e)
split-branches bs p n many b e i lt =
    let listed : b < length (branches_in bs e) = omega (arith, i.count, count-is (dimension (heads_of bs)) e) in
    let step : suc b ≡ b + 1 = omega arith in
    drop-cons (branches_in bs e) b (record { given = []; term = kase none }) listed ∙ ap (λ k. branch_in bs e b ∷ drop k (branches_in bs e)) step

no-branches : (bs : List ℕ) (p n many b : ℕ) (e : Expr) → IsBody bs p n many e → many ≤ b → drop b (branches_in bs e) ≡ []
no-branches bs p n many b e i le = drop_of_length-le (branches_in bs e) {i = b} (omega (arith, i.count, count-is (dimension (heads_of bs)) e))

module _ (bs : List ℕ) (p n many b : ℕ) where
  pub none-puts : (mode : Mode) (sofar : Taken) (l : List ℕ) → many ≤ b → PutsFrom bs p n many b mode sofar l l sofar
  unfolding bytes
  none-puts mode sofar l le e i = subst (AddedAll mode sofar l l sofar n) (sym (no-branches bs p n many b e i le)) (added_nothing mode sofar l)

  module _ (lt : b < many) where
    cut : (e : Expr) → IsBody bs p n many e →
        all_bytes (as_exprs n (drop b (branches_in bs e))) ≡ bytes (written n (branch_in bs e b))
        ++ all_bytes (as_exprs n (drop (b + 1) (branches_in bs e)))
    unfolding bytes
    cut e i = ap (λ x. all_bytes (as_exprs n x)) (split-branches bs p n many b e i lt)

    pub cut-long : (e : Expr) → IsBody bs p n many e →
        length (all_bytes (as_exprs n (drop b (branches_in bs e))))
        ≡ length (bytes (written n (branch_in bs e b))) + length (all_bytes (as_exprs n (drop (b + 1) (branches_in bs e))))
    cut-long e i =
        ap length (cut e i) ∙ length-append (bytes (written n (branch_in bs e b))) (all_bytes (as_exprs n (drop (b + 1) (branches_in bs e))))

    pub first-fits : (sofar : Taken) (room : ℕ) → BodyFits bs p n many b sofar room → BranchFits bs p n (record { number = b; of = many }) sofar room
    first-fits sofar room h e i = record { nodes_low = (h e i).nodes_low; fits_room = omega (arith, (h e i).fits_room, cut-long e i) }

    module _ (mode : Mode) (sofar next : Taken) (l a : List ℕ) (put : PutsBranch bs p n (record { number = b; of = many }) mode sofar l a next) where
      pub rest-fits : BodyFits bs p n many b sofar (room_of mode l) → BodyFits bs p n many (b + 1) next (room_of mode a)
      rest-fits h e i =
          let x = branch_in bs e b in
          then-fits mode sofar l (taken_by n x) (bytes (written n x)) (all_bytes (as_exprs n (drop (b + 1) (branches_in bs e)))) refl (put e i)
          (node-low (written n x)) (subst (λ k. Fits sofar k (room_of mode l)) (cut e i) (h e i))

      pub more-puts : (d : List ℕ) (r : Taken) → PutsFrom bs p n many (b + 1) mode next a d r → PutsFrom bs p n many b mode sofar l d r
      unfolding bytes
      more-puts d r rest e i =
          let x = branch_in bs e b in
          let xs = drop (b + 1) (branches_in bs e) in
          subst (AddedAll mode sofar l d r n) (sym (split-branches bs p n many b e i lt))
          (added_then mode sofar l (taken_by n x) (bytes (written n x)) (all_bytes (as_exprs n xs)) refl (put e i) (total n xs) (rest e i))

-- ---- how long all of them can be

module _ (bs : List ℕ) (p left n many : ℕ) (h : BodyAt bs p left n many) where
  half-short : (b : ℕ) → b < many → (t : Half) → length (half_of t (branch_in bs h.tree b)).out ≤ 3104 * 2048
  half-short b lt t =
      omega (
        arith,
        ap (λ y. length y.out) (half-part bs p n many h.tree (is_body bs p left n many h) b lt t),
        part-short (vars_of bs) t h.tree (identity n) 0 b (at-writable (vars_of bs) bs h.tree p h.end h.at) h.narrow
            (omega (arith, h.narrow, rows-long-are bs p n many h.tree (is_body bs p left n many h) b lt)) (id_rows-wide n),
        mul-le-mul_left 3104 h.few,
        h.left_low,
      )

  branches-short : (k b : ℕ) → b + k ≡ many → length (all_bytes (as_exprs n (drop b (branches_in bs h.tree)))) ≤ k * 2 ^ 24
  unfolding bytes
  branches-short zero b e =
      let none = no-branches bs p n many b h.tree (is_body bs p left n many h) (omega arith) in
      omega (arith, ap (λ x. length (all_bytes (as_exprs n x))) none)
  branches-short (suc k) b e =
      let x = branch_in bs h.tree b in
      omega (
        arith,
        cut-long bs p n many b (omega arith) h.tree (is_body bs p left n many h),
        written-long n x,
        half-short b (omega arith) Constraints,
        half-short b (omega arith) Tree,
        branches-short k (b + 1) (omega arith),
      )

  -- measured, there is room for all of them
  pub measure-fits : (sofar : Taken) → sofar.nodes ≤ 4096 → sofar.bytes ≤ 2 ^ 24 → BodyFits bs p n many 0 sofar (2 ^ 40)
  measure-fits sofar few low e i =
      let one = (at-unique (vars_of bs) bs p e h.tree i.end h.end i.at h.at).tree_is in
      record {
        nodes_low = omega arith;
        fits_room =
            omega (
              arith,
              branches-short many 0 (zero-add many),
              ap (λ f. length (all_bytes (as_exprs n (drop 0 (branches_in bs f))))) one,
              mul-le-mul_right (2 ^ 24) h.low,
            );
      }

-- ---- a branch measured from the start

module _ (bs : List ℕ) (p left n : ℕ) (x : Choice) (h : BranchAt bs p left n x) (m : Map) (is : map_of m ≡ identity n) (neat : Neat m)
    (high : m.height ≡ n) where
  -- there is always room
  pub measure-route : (t : Half) → Route bs p left m x.number x.of t 0 (record { to = 0; things = 0; deep = 0 }) (2 ^ 40)
  measure-route t = half-route bs p left n x h m is neat high t 0 (2 ^ 40) (record {
    at = h;
    fits_room = λ e i.
        let one = (at-unique (vars_of bs) bs p e h.body.tree i.end h.body.end i.at h.body.at).tree_is in
        omega (arith, half-short bs p left n x.of h.body x.number h.some t, ap (λ f. length (half_of t (branch_in bs f x.number)).out) one);
  })

  module _ (none none' none'' : List ℕ) (given term : Pen)
      (first : Follows bs p m x.number x.of Constraints 0 Measure (record { to = 0; things = 0; deep = 0 }) none none' given)
      (second : Follows bs p m x.number x.of Tree 0 Measure (record { to = 0; things = 0; deep = 0 }) none' none'' term) where
    pub measured-low : (given.to ≤ 3104 * 2048) × (term.to ≤ 3104 * 2048) × (term.things ≤ term.to)
    measured-low =
        let e = h.body.tree in
        let i = is_body bs p left n x.of h.body in
        let g = (half-put bs p left n x h m is neat high Constraints Measure 0 none none' given first e i).pen_is in
        let t = (half-put bs p left n x h m is neat high Tree Measure 0 none' none'' term second e i).pen_is in
        let gto = ap (λ z. z.to) g in
        let tto = ap (λ z. z.to) t in
        let tmany = ap (λ z. z.things) t in
        let few = node-low (branch_in bs e x.number).term in (
          omega (arith, half-short bs p left n x.of h.body x.number h.some Constraints),
          omega (arith, half-short bs p left n x.of h.body x.number h.some Tree),
          omega arith,
        )
