-- The ways through the walk that judges TYPE: what an operator gives, and for each way the type of the tree or trees from what the code
-- has found. Assumes nothing.
use Rattle.std.specs.Prelude.{Option, Some, None}
use mathlib.Core.Path.{◌≡◌, refl, sym, ap, subst, ◌∙◌}
use Prim.Native.Nat.{ℕ, ◌+◌, ◌-◌, ◌≤◌}
use native.Mathlib.Omega.{arith}
use mathlib.Core.List.{List}
use mathlib.Core.Logic.{◌⊎◌, inl, inr}
use mathlib.Core.Option.{some}
use mathlib.Core.Option as Maybe
use lib.ListN.{length, get_or}
use lib.IntN.{nat_abs}
use Rattle.alpha.specs.Field.{field}
use Rattle.alpha.specs.Sheet.{Sort, Sort.integer, Sort.boolean, Unary, Unary.negate, Unary.complement, Binary, Node, Expr, Exprs}
use Rattle.alpha.specs.Sheet.{Binary.plus, Binary.minus, Binary.times, Binary.quot, Binary.rem, Binary.least, Binary.most, Binary.same, Binary.differ}
use Rattle.alpha.specs.Sheet.{Binary.under, Binary.up_to, Binary.over, Binary.from, Binary.both, Binary.either, Binary.one}
use Rattle.alpha.specs.Sheet.{Expr.ite, Exprs.none, Exprs.more}
use Rattle.alpha.specs.Read.{no_head, unary_of, binary_of}
use Rattle.alpha.specs.Typing.{agree, booleans, unary_sort, binary_sort, if_sort, type_of, types_of, agreeing}
use Rattle.alpha.specs.Written.{branch_count}
use Rattle.laws.specs.At.{code_of, node_size, node_read, node_end, At, AllAt}
use Rattle.laws.specs.Children.{children_of, arity}
use Rattle.laws.specs.Sheets.{heads_of, vars_of}
use Rattle.laws.proofs.Readers.{counted_is}
use Rattle.laws.proofs.Shapes.{at-var, at-int, at-boo, at-un, at-bin, at-ite, all_at-none}
use Rattle.laws.proofs.Children.{at-children}
use Rattle.laws.proofs.Nodes.{NodeAt}
use Rattle.alpha.specs.declared.kind.Sort as Code
use Rattle.alpha.specs.declared.kind.Sort.TheVariants.{Integer, Boolean}
use Rattle.alpha.specs.declared.kind.Unary.{Unary as UnaryCase}
use Rattle.alpha.specs.declared.kind.Binary.{Binary as BinaryCase}
use Rattle.alpha.specs.Kinds.{sort_meant, unary_meant, binary_meant}
use Rattle.tree.specs.declared.Typed.{Typed}
use Rattle.tree.specs.declared.Class.{Class}
use Rattle.tree.specs.declared.Class.TheVariants.{Leaf, Case, Restriction, Dependence}
use Rattle.tree.specs.Classes.{class_at}
use Rattle.tree.specs.Standing.{Noded, StandingAll}
use Rattle.tree.specs.Ends.{EndsAt}
use Rattle.tree.specs.Sorted.{typed_at, wanted, LeafTyped, IfAt, TreeTyped, TreesTyped}
use Rattle.tree.proofs.Classes.{leaf-at, case_at, restriction-at, dependence-at, coded-field, node-here}
use Rattle.tree.proofs.Noding.{node_of}
use Rattle.tree.proofs.Standings.{children-at, children-counted, one_more, rest-standing}

-- ---- answers

-- an answer with a type says it, and where the tree ends
pub record Ends (t : Typed) (o : Maybe.Option Sort) (q : ℕ) : Type 0 where
  pub sort-is : o ≡ some (sort_meant t.sort)
  pub end_is : t.next ≡ q

pub typed-ends : (t : Typed) (o : Maybe.Option Sort) (q : ℕ) → Some t ≡ typed_at o q → Ends t o q
typed-ends t (some integer) q h =
    let e : t ≡ record { sort = Integer; next = q } = cc in
    rw e (record { sort-is = refl; end_is = refl })
typed-ends t (some boolean) q h =
    let e : t ≡ record { sort = Boolean; next = q } = cc in
    rw e (record { sort-is = refl; end_is = refl })
typed-ends t Maybe.Option.none q h = absurd cc

pub mistyped-is : (o : Maybe.Option Sort) (q : ℕ) → None ≡ typed_at o q → o ≡ Maybe.Option.none
mistyped-is (some integer) q h = absurd cc
mistyped-is (some boolean) q h = absurd cc
mistyped-is Maybe.Option.none q h = refl

-- a type with its place
pub typed-made : (x : Code.Sort) (q : ℕ) → Some (record { sort = x; next = q }) ≡ typed_at (some (sort_meant x)) q
typed-made Integer q = refl
typed-made Boolean q = refl

-- ---- operators

-- an operator gives no type for none
unary-none : (o : Unary) → unary_sort o Maybe.Option.none ≡ Maybe.Option.none
unary-none negate = refl
unary-none complement = refl

binary-none : (o : Binary) → binary_sort o Maybe.Option.none ≡ Maybe.Option.none
binary-none plus = refl
binary-none minus = refl
binary-none times = refl
binary-none quot = refl
binary-none rem = refl
binary-none least = refl
binary-none most = refl
binary-none same = refl
binary-none differ = refl
binary-none under = refl
binary-none up_to = refl
binary-none over = refl
binary-none from = refl
binary-none both = refl
binary-none either = refl
binary-none one = refl

-- where a type is wanted: w is the answer on each tree that stands at p
abbrev pub WantedAt : List ℕ → ℕ → Code.Sort → Option Typed → Type 0
WantedAt bs p x w = (e : Expr) (q : ℕ) → At e (vars_of bs) bs p q → w ≡ typed_at (agree (some (sort_meant x)) (type_of e (heads_of bs))) q

agree-none : (x : Sort) → agree (some x) Maybe.Option.none ≡ Maybe.Option.none
agree-none integer = refl
agree-none boolean = refl

module _ (bs : List ℕ) (p : ℕ) (x : Code.Sort) where
  pub wanted-none : TreeTyped bs p None → WantedAt bs p x None
  wanted-none says e q h = rw (mistyped-is (type_of e (heads_of bs)) q (says e q h)) (ap (λ o. typed_at o q) (sym (agree-none (sort_meant x))))

  pub wanted-some : (t : Typed) → TreeTyped bs p (Some t) → WantedAt bs p x (wanted t x)
  wanted-some t says e q h =
      let f = typed-ends t (type_of e (heads_of bs)) q (says e q h) in
      ap (typed_at (agree (some (sort_meant x)) (some (sort_meant t.sort)))) f.end_is
      ∙ ap (λ o. typed_at (agree (some (sort_meant x)) o) q) (sym f.sort-is)

-- where a type is wanted, the answer has it
pub wanted-sort : (t : Typed) (x : Code.Sort) (w : Typed) → wanted t x ≡ Some w → w.sort ≡ x
wanted-sort t x w h = go x t.sort t.next w h
  where
    go : (x y : Code.Sort) (q : ℕ) (w : Typed) → typed_at (agree (some (sort_meant x)) (some (sort_meant y))) q ≡ Some w → w.sort ≡ x
    go Integer Integer q w h = let e : w ≡ record { sort = Integer; next = q } = cc in rw e
    go Boolean Boolean q w h = let e : w ≡ record { sort = Boolean; next = q } = cc in rw e
    go Integer Boolean q w h = absurd cc
    go Boolean Integer q w h = absurd cc

-- ---- a tree, by its class

module _ (bs : List ℕ) (p : ℕ) where
  abbrev nd : Node
  nd = node_read (vars_of bs) bs p

  -- ---- a leaf

  module _ (e : Expr) (q : ℕ) (h : At e (vars_of bs) bs p q) where
    pub type-variable : code_of nd ≡ 0 → type_of e (heads_of bs) ≡ some (get_or (heads_of bs) (nat_abs (field bs (p + 8))) no_head).sort
    unfolding type_of
    type-variable c =
        let v = at-var (vars_of bs) bs e p q h (coded-field bs e p q h 0 c) in
        let n = counted_is v.stands in
        rw (v.is, n)

    pub type-integer : code_of nd ≡ 1 → type_of e (heads_of bs) ≡ some integer
    unfolding type_of
    type-integer c = let v = at-int (vars_of bs) bs e p q h (coded-field bs e p q h 1 c) in rw v.is

    pub type-boolean : code_of nd ≡ 2 → type_of e (heads_of bs) ≡ some boolean
    unfolding type_of
    type-boolean c = let v = at-boo (vars_of bs) bs e p q h (coded-field bs e p q h 2 c) in rw v.is

  module _ (k : ℕ) (next : k ≡ node_end (vars_of bs) bs p) where
    -- it ends with its node
    pub leaf-typed : class_at bs p ≡ Leaf → (x : Code.Sort) → LeafTyped bs p x → TreeTyped bs p (Some (record { sort = x; next = k }))
    leaf-typed c x says e q h =
        let end : k ≡ q = next ∙ (leaf-at bs e p q h c).end in
        typed-made x k ∙ ap (typed_at (some (sort_meant x))) end ∙ ap (λ o. typed_at o q) (sym (says e q h))

    -- ---- a node that has the type of its children

    pub case-typed : class_at bs p ≡ Case → (n : ℕ) → n ≡ arity nd → (t : Option Typed) → TreesTyped bs k n t → TreeTyped bs p t
    unfolding type_of
    case-typed c n many t all e q h =
        let x = case_at bs e p q h c in
        all (children_of e) q (children-at (vars_of bs) bs p k n next many e q h) (children-counted (vars_of bs) bs p k n next many e q h)
        ∙ ap (λ f. typed_at (types_of (children_of f) (heads_of bs)) q) x.is
        ∙ ap (λ f. typed_at (type_of f (heads_of bs)) q) (sym x.is)

    pub child-typed : (x : Class) → x ≡ class_at bs p → (x ≡ Restriction) ⊎ (x ≡ Dependence) → (t : Option Typed) → TreeTyped bs k t → TreeTyped bs p t
    unfolding type_of
    child-typed x is (inl r) t says e q h =
        let y = restriction-at bs e p q h (sym is ∙ r) in
        says y.child q (rw next y.below) ∙ ap (λ f. typed_at (type_of f (heads_of bs)) q) (sym y.is)
    child-typed x is (inr d) t says e q h =
        let y = dependence-at bs e p q h (sym is ∙ d) in
        says y.child q (rw next y.below) ∙ ap (λ f. typed_at (type_of f (heads_of bs)) q) (sym y.is)

    -- ---- operators

    pub unary-typed : code_of nd ≡ 3 → (t : Typed) → TreeTyped bs k (Some t) → (op : UnaryCase) → unary_meant op ≡ unary_of (nat_abs (field bs (p + 8))) →
        (r : Option Typed) → r ≡ typed_at (unary_sort (unary_meant op) (some (sort_meant t.sort))) t.next → TreeTyped bs p r
    unfolding type_of
    unary-typed c t says op number r is e q h =
        let x = at-un (vars_of bs) bs e p q h (coded-field bs e p q h 3 c) in
        let f = typed-ends t (type_of x.child (heads_of bs)) q (says x.child q (rw next x.below)) in
        is ∙ ap (typed_at (unary_sort (unary_meant op) (some (sort_meant t.sort)))) f.end_is
        ∙ ap (λ y. typed_at (unary_sort (unary_meant op) y) q) (sym f.sort-is)
        ∙ ap (λ o. typed_at (unary_sort o (type_of x.child (heads_of bs))) q) (number ∙ sym x.chosen.is)
        ∙ ap (λ f. typed_at (type_of f (heads_of bs)) q) (sym x.is)

    pub unary-mistyped : code_of nd ≡ 3 → TreeTyped bs k None → TreeTyped bs p None
    unfolding type_of
    unary-mistyped c says e q h =
        let x = at-un (vars_of bs) bs e p q h (coded-field bs e p q h 3 c) in
        let none = mistyped-is (type_of x.child (heads_of bs)) q (says x.child q (rw next x.below)) in
        let gives = unary-none (unary_of (nat_abs (field bs (p + 8)))) in
        let o = x.chosen.is in
        rw (x.is, none, o, gives)

    pub binary-typed : code_of nd ≡ 4 → (t : Typed) → TreesTyped bs k 2 (Some t) → (op : BinaryCase) →
        binary_meant op ≡ binary_of (nat_abs (field bs (p + 8))) → (r : Option Typed) →
        r ≡ typed_at (binary_sort (binary_meant op) (some (sort_meant t.sort))) t.next → TreeTyped bs p r
    unfolding type_of
    binary-typed c t says op number r is e q h =
        let x = at-bin (vars_of bs) bs e p q h (coded-field bs e p q h 4 c) in
        let both = more x.left (more x.right none) in
        let below : AllAt both (vars_of bs) bs (node_end (vars_of bs) bs p) q = rw x.is at (at-children (vars_of bs) bs e p q h) in
        let f = typed-ends t (types_of both (heads_of bs)) q (says both q (rw next below) refl) in
        is ∙ ap (typed_at (binary_sort (binary_meant op) (some (sort_meant t.sort)))) f.end_is
        ∙ ap (λ y. typed_at (binary_sort (binary_meant op) y) q) (sym f.sort-is)
        ∙ ap (λ o. typed_at (binary_sort o (types_of both (heads_of bs))) q) (number ∙ sym x.chosen.is)
        ∙ ap (λ f. typed_at (type_of f (heads_of bs)) q) (sym x.is)

    pub binary-mistyped : code_of nd ≡ 4 → TreesTyped bs k 2 None → TreeTyped bs p None
    unfolding type_of
    binary-mistyped c says e q h =
        let x = at-bin (vars_of bs) bs e p q h (coded-field bs e p q h 4 c) in
        let both = more x.left (more x.right none) in
        let below : AllAt both (vars_of bs) bs (node_end (vars_of bs) bs p) q = rw x.is at (at-children (vars_of bs) bs e p q h) in
        let nothing = mistyped-is (types_of both (heads_of bs)) q (says both q (rw next below) refl) in
        ap (λ o. typed_at o q) (sym (binary-none (binary_of (nat_abs (field bs (p + 8))))))
        ∙ ap (λ o. typed_at (binary_sort (binary_of (nat_abs (field bs (p + 8)))) o) q) (sym nothing)
        ∙ ap (λ o. typed_at (binary_sort o (types_of both (heads_of bs))) q) (sym x.chosen.is)
        ∙ ap (λ f. typed_at (type_of f (heads_of bs)) q) (sym x.is)

    pub if-typed : code_of nd ≡ 5 → (t : Option Typed) → IfAt bs k t → TreeTyped bs p t
    if-typed c t says e q h =
        let v = at-ite (vars_of bs) bs e p q h (coded-field bs e p q h 5 c) in
        let parts : AllAt (children_of (ite v.test v.left v.right)) (vars_of bs) bs (node_end (vars_of bs) bs p) q =
        rw v.is at (at-children (vars_of bs) bs e p q h) in
        rw v.is (says v.test v.left v.right q (rw next parts))

  -- ---- the field of an operator that has one, and the operands

  high-of : (nd : Node) → NodeAt (vars_of bs) bs p nd → code_of nd ≡ 3 → nat_abs (field bs (p + 8)) ≤ 1
  high-of nd h e = (rw (node_of nd 3 e).1 at h).fields.high

  high-of-two : (nd : Node) → NodeAt (vars_of bs) bs p nd → code_of nd ≡ 4 → nat_abs (field bs (p + 8)) ≤ 15
  high-of-two nd h e = (rw (node_of nd 4 e).1 at h).fields.high

  pub unary-size : code_of nd ≡ 3 → 16 ≡ node_size nd
  unary-size e = let o = node_of nd 3 e in rw o.1

  pub binary-size : code_of nd ≡ 4 → 16 ≡ node_size nd
  binary-size e = let o = node_of nd 4 e in rw o.1

  pub if-size : code_of nd ≡ 5 → 8 ≡ node_size nd
  if-size e = rw (node_of nd 5 e)

  module _ (h : Noded (vars_of bs) bs p) where
    pub unary-known : code_of nd ≡ 3 → nat_abs (field bs (p + 8)) ≤ 1
    unary-known e = high-of nd (node-here bs p h) e

    pub binary-known : code_of nd ≡ 4 → nat_abs (field bs (p + 8)) ≤ 15
    binary-known e = high-of-two nd (node-here bs p h) e

    pub unary-there : code_of nd ≡ 3 → p + 16 ≤ length bs
    unary-there e = omega (arith, (node-here bs p h).there, unary-size e)

    pub binary-there : code_of nd ≡ 4 → p + 16 ≤ length bs
    binary-there e = omega (arith, (node-here bs p h).there, binary-size e)

  pub unary-arity : code_of nd ≡ 3 → 1 ≡ arity nd
  unary-arity e = let o = node_of nd 3 e in rw o.1

  pub binary-arity : code_of nd ≡ 4 → 2 ≡ arity nd
  binary-arity e = let o = node_of nd 4 e in rw o.1

  pub if-arity : code_of nd ≡ 5 → 3 ≡ arity nd
  if-arity e = rw (node_of nd 5 e)

-- ---- so many trees

-- r is the type that trees of the type `all` have together with each n trees that stand where those end
abbrev pub RestTyped : List ℕ → Typed → ℕ → Option Typed → Type 0
RestTyped bs all n r =
    (es : Exprs) (q : ℕ) → AllAt es (vars_of bs) bs all.next q → branch_count es ≡ n → r ≡ typed_at (agreeing es (heads_of bs) (some (sort_meant all.sort))) q

-- of the trees that stand from p on, those of the type `all` end where `more` others stand, and with these they decide
pub record TypesLeft (bs : List ℕ) (left p n : ℕ) (all : Typed) (more : ℕ) : Type 0 where
  pub stand : StandingAll (vars_of bs) bs all.next left more
  pub decide : (r : Option Typed) → RestTyped bs all more r → TreesTyped bs p n r

agreeing-none : (es : Exprs) (bs : List ℕ) → agreeing es (heads_of bs) Maybe.Option.none ≡ Maybe.Option.none
unfolding agreeing
agreeing-none none bs = refl
agreeing-none (more e es) bs = agreeing-none es bs

module _ (bs : List ℕ) (left p n : ℕ) where
  module _ (enough : 1 ≤ n) where
    pub types-begin : (all : Typed) → TreeTyped bs p (Some all) → StandingAll (vars_of bs) bs p left n → TypesLeft bs left p n all (n - 1)
    unfolding type_of
    types-begin all says h = record {
      stand = rest-standing (vars_of bs) bs p left n enough h all.next (λ e q at. (typed-ends all (type_of e (heads_of bs)) q (says e q at)).end_is);
      decide = λ r rest es q at m.
          let f = one_more (vars_of bs) bs es p q n enough at m in
          let x = typed-ends all (type_of f.first (heads_of bs)) f.middle (says f.first f.middle f.before) in
          rest f.rest q (rw x.end_is f.after) f.many
          ∙ ap (λ o. typed_at (agreeing f.rest (heads_of bs) o) q) (sym x.sort-is)
          ∙ ap (λ l. typed_at (types_of l (heads_of bs)) q) (sym f.is);
    }

    pub types-none : TreeTyped bs p None → TreesTyped bs p n None
    unfolding type_of
    types-none says es q at m =
        let f = one_more (vars_of bs) bs es p q n enough at m in
        let nothing = mistyped-is (type_of f.first (heads_of bs)) f.middle (says f.first f.middle f.before) in
        ap (λ o. typed_at o q) (sym (agreeing-none f.rest bs))
        ∙ ap (λ o. typed_at (agreeing f.rest (heads_of bs) o) q) (sym nothing)
        ∙ ap (λ l. typed_at (types_of l (heads_of bs)) q) (sym f.is)

  module _ (all : Typed) (more : ℕ) (h : TypesLeft bs left p n all more) where
    pub types-end : more ≡ 0 → TreesTyped bs p n (Some all)
    unfolding type_of
    types-end e = h.decide (Some all)
        (λ es q at m.
        let z = all_at-none (vars_of bs) bs es all.next q at (omega arith) in
        typed-made all.sort all.next ∙ ap (typed_at (some (sort_meant all.sort))) z.end
        ∙ ap (λ x. typed_at (agreeing x (heads_of bs) (some (sort_meant all.sort))) q) (sym z.is))

    module _ (some_more : 1 ≤ more) where
      -- one tree more breaks the rule
      pub types-stop : WantedAt bs all.next all.sort None → TreesTyped bs p n None
      unfolding type_of
      types-stop says = h.decide None
          (λ es q at m.
          let f = one_more (vars_of bs) bs es all.next q more some_more at m in
          let nothing = mistyped-is (agree (some (sort_meant all.sort)) (type_of f.first (heads_of bs))) f.middle (says f.first f.middle f.before) in
          ap (λ o. typed_at o q) (sym (agreeing-none f.rest bs))
          ∙ ap (λ o. typed_at (agreeing f.rest (heads_of bs) o) q) (sym nothing)
          ∙ ap (λ l. typed_at (agreeing l (heads_of bs) (some (sort_meant all.sort))) q) (sym f.is))

      -- one tree more has the type too
      pub types-go : (t : Typed) → WantedAt bs all.next all.sort (Some t) → (k : ℕ) → k + 1 ≡ more → TypesLeft bs left p n t k
      unfolding type_of
      types-go t says k less =
          let e : k ≡ more - 1 = omega arith in
          let ends : EndsAt (vars_of bs) bs all.next t.next =
          λ e q at. (typed-ends t (agree (some (sort_meant all.sort)) (type_of e (heads_of bs))) q (says e q at)).end_is in
          record {
            stand = rw e (rest-standing (vars_of bs) bs all.next left more some_more h.stand t.next ends);
            decide = λ r rest. h.decide r
                (λ es q at m.
                let f = one_more (vars_of bs) bs es all.next q more some_more at m in
                let x = typed-ends t (agree (some (sort_meant all.sort)) (type_of f.first (heads_of bs))) f.middle (says f.first f.middle f.before) in
                rest f.rest q (rw x.end_is f.after) (omega (arith, f.many))
                ∙ ap (λ o. typed_at (agreeing f.rest (heads_of bs) o) q) (sym x.sort-is)
                ∙ ap (λ l. typed_at (agreeing l (heads_of bs) (some (sort_meant all.sort))) q) (sym f.is));
          }

      -- the type stays, and the place is the next one
      pub types-on : (t : Typed) → t.sort ≡ all.sort → WantedAt bs all.next all.sort (Some t) → (k : ℕ) → k + 1 ≡ more →
          TypesLeft bs left p n (record { sort = all.sort; next = t.next }) k
      types-on t is says k less = subst (λ (x : Code.Sort). TypesLeft bs left p n (record { sort = x; next = t.next }) k) is (types-go t says k less)

-- ---- the parts of an if

module _ (bs : List ℕ) (p : ℕ) where
  -- the first part, and the two others after it
  pub record Three (a b c : Expr) (q : ℕ) : Type 0 where
    pub middle : ℕ
    pub before : At a (vars_of bs) bs p middle
    pub after : AllAt (more b (more c none)) (vars_of bs) bs middle q

  three : (a b c : Expr) (q : ℕ) → AllAt (more a (more b (more c none))) (vars_of bs) bs p q → Three a b c q
  unfolding At
  three a b c q h = record { middle = h.middle; before = h.before; after = h.after }

  if-type : (a b c : Expr) → type_of (ite a b c) (heads_of bs) ≡ if_sort (type_of a (heads_of bs)) (types_of (more b (more c none)) (heads_of bs))
  unfolding type_of
  if-type a b c = refl

  -- the first part is no boolean
  pub if-none : WantedAt bs p Boolean None → IfAt bs p None
  if-none says a b c q h =
      let f = three a b c q h in
      go (type_of a (heads_of bs)) (mistyped-is (booleans (type_of a (heads_of bs))) f.middle (says a f.middle f.before))
      ∙ ap (λ o. typed_at o q) (sym (if-type a b c))
    where
      go : (o : Maybe.Option Sort) → booleans o ≡ Maybe.Option.none → None ≡ typed_at (if_sort o (types_of (more b (more c none)) (heads_of bs))) q
      go (some integer) e = refl
      go (some boolean) e = absurd cc
      go Maybe.Option.none e = refl

  pub if-boolean : (t : Typed) → WantedAt bs p Boolean (Some t) → (u : Option Typed) → TreesTyped bs t.next 2 u → IfAt bs p u
  if-boolean t says u rest a b c q h =
      let f = three a b c q h in
      let x = typed-ends t (booleans (type_of a (heads_of bs))) f.middle (says a f.middle f.before) in
      rest (more b (more c none)) q (rw x.end_is f.after) refl
      ∙ ap (λ o. typed_at o q) (sym (if-type a b c ∙ go (type_of a (heads_of bs)) t x.sort-is))
    where
      go : (o : Maybe.Option Sort) (t : Typed) → booleans o ≡ some (sort_meant t.sort) →
          if_sort o (types_of (more b (more c none)) (heads_of bs)) ≡ types_of (more b (more c none)) (heads_of bs)
      go (some boolean) t e = refl
      go (some integer) t e = absurd cc
      go Maybe.Option.none t e = absurd cc

-- a tree where a type was wanted ends where the answer says
pub wanted-ends : (bs : List ℕ) (p : ℕ) (x : Code.Sort) (t : Typed) → WantedAt bs p x (Some t) → EndsAt (vars_of bs) bs p t.next
wanted-ends bs p x t says e q at = (typed-ends t (agree (some (sort_meant x)) (type_of e (heads_of bs))) q (says e q at)).end_is
