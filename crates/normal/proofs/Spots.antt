-- One node's own bytes and sizes, by its class and its fields. Assumes nothing.
use mathlib.Core.Path.{◌≡◌, refl, sym, ap, ap₂, ◌∙◌}
use Prim.Native.Nat.{ℕ, zero, suc, ◌+◌, ◌*◌, ◌-◌, ◌^◌, ◌≤◌, max}
use native.Mathlib.Omega.{arith}
use mathlib.Core.List.{List, [], ◌∷◌, ◌++◌, map}
use lib.ListN.{length, length-append, length-map}
use lib.IntN.{ℤ, pos, nat_abs}
use lib.Seq.{sets}
use Rattle.alpha.specs.Field.{field, num, nat}
use Rattle.alpha.specs.Sheet as Sheet
use Rattle.alpha.specs.Sheet.{Node, Expr.var, Expr.int, Expr.boo}
use Rattle.alpha.specs.Sheet.{Node.n_var, Node.n_int, Node.n_bool, Node.n_unary, Node.n_binary, Node.n_if, Node.n_case, Node.n_restr, Node.n_dep}
use Rattle.alpha.specs.Affine.{constraint_after}
use Rattle.alpha.specs.Read.{unary_of, binary_of}
use Rattle.alpha.specs.Written.{flat, relation_code, unary_code, binary_code, row_bytes, constraint_bytes, bytes}
use Rattle.laws.specs.At.{code_of, node_size, node_read, node_end}
use Rattle.laws.specs.Sheets.{vars_of}
use Rattle.laws.proofs.Readers.{counted_is}
use Rattle.laws.proofs.Nodes.{NodeAt}
use Rattle.laws.proofs.NormalAgain.{constraints-after-wide}
use Rattle.laws.proofs.Written.{length-num}
use Rattle.affine.specs.declared.Map.{Map}
use Rattle.affine.specs.Value.{map_of}
use Rattle.tree.specs.declared.Class.TheVariants.{Leaf, Operator, Case, Restriction, Dependence}
use Rattle.tree.specs.Classes.{class_of, class_at}
use Rattle.tree.specs.Standing.{NodedAs}
use Rattle.tree.proofs.Classes.{leaf-node, operator-node, case-node, restriction-node, dependence-node, node-here, size-here, end-far}
use Rattle.domain.specs.Constraints.{constraints_fields}
use Rattle.domain.proofs.Restrictions.{restriction-says}
use Rattle.normal.specs.declared.Half.{Half}
use Rattle.normal.specs.declared.Half.TheVariants.{Constraints, Tree}
use Rattle.normal.specs.declared.Mode.{Mode}
use Rattle.normal.specs.declared.Mode.TheVariants.{Measure, Store}
use Rattle.normal.specs.declared.Pen.{Pen}
use Rattle.normal.specs.Part.{Part, nothing, map_bytes, of_tree, given_by, own}
use Rattle.normal.specs.Followed.{laid, room_of, Visits}
use Rattle.normal.specs.Rows.{limit_bytes}
use Rattle.normal.specs.Spot.{two_fields, Spot, Stop, OperatorFits, Stores}
use Rattle.normal.proofs.Laying.{sets-after, length-nat, two-long, three-long, rows_long, constraints-long}
use Rattle.normal.proofs.Composed.{map-wide, map-high}
use Rattle.normal.proofs.Laid.{room-high}

-- how far a part moves the pen
abbrev pub moves : Part → Pen
moves p = record { to = length p.out; things = p.things; deep = p.deep }

-- the own part of the node at p moves it so far
abbrev pub Sizes : List ℕ → ℕ → Map → Half → ℕ → Pen → Type 0
Sizes bs p m t level r = r ≡ moves (own t (node_read (vars_of bs) bs p) (map_of m) level)

-- ---- operators by their numbers

unary-again : (k : ℕ) → k ≤ 1 → unary_code (unary_of k) ≡ k
unary-again zero h = refl
unary-again (suc zero) h = refl
unary-again (suc (suc k)) h = absurd (omega arith)

binary-again : (k : ℕ) → k ≤ 15 → binary_code (binary_of k) ≡ k
binary-again zero h = refl
binary-again (suc zero) h = refl
binary-again (suc (suc zero)) h = refl
binary-again (suc (suc (suc zero))) h = refl
binary-again (suc (suc (suc (suc zero)))) h = refl
binary-again (suc (suc (suc (suc (suc zero))))) h = refl
binary-again (suc (suc (suc (suc (suc (suc zero)))))) h = refl
binary-again (suc (suc (suc (suc (suc (suc (suc zero))))))) h = refl
binary-again (suc (suc (suc (suc (suc (suc (suc (suc zero)))))))) h = refl
binary-again (suc (suc (suc (suc (suc (suc (suc (suc (suc zero))))))))) h = refl
binary-again (suc (suc (suc (suc (suc (suc (suc (suc (suc (suc zero)))))))))) h = refl
binary-again (suc (suc (suc (suc (suc (suc (suc (suc (suc (suc (suc zero))))))))))) h = refl
binary-again (suc (suc (suc (suc (suc (suc (suc (suc (suc (suc (suc (suc zero)))))))))))) h = refl
binary-again (suc (suc (suc (suc (suc (suc (suc (suc (suc (suc (suc (suc (suc zero))))))))))))) h = refl
binary-again (suc (suc (suc (suc (suc (suc (suc (suc (suc (suc (suc (suc (suc (suc zero)))))))))))))) h = refl
binary-again (suc (suc (suc (suc (suc (suc (suc (suc (suc (suc (suc (suc (suc (suc (suc zero))))))))))))))) h = refl
binary-again (suc (suc (suc (suc (suc (suc (suc (suc (suc (suc (suc (suc (suc (suc (suc (suc k)))))))))))))))) h = absurd (omega arith)

-- ---- the bytes

module _ (bs : List ℕ) (p : ℕ) where
  -- by what the two fields say
  two-are : (code : ℕ) (x : ℤ) → field bs p ≡ pos code → field bs (p + 8) ≡ x → two_fields bs p ≡ nat code ++ num x
  two-are code x c e = ap₂ (λ y z. nat (nat_abs y) ++ num z) c e

  two-fields-long : length (two_fields bs p) ≡ 16
  two-fields-long =
      length-append (nat (nat_abs (field bs p))) (num (field bs (p + 8)))
      ∙ omega (arith, length-nat (nat_abs (field bs p)), length-num (field bs (p + 8)))

  abbrev Here : Node → Type 0
  Here nd = NodeAt (vars_of bs) bs p nd

  module _ (m : Sheet.Map) where
    leaf-out : (nd : Node) → class_of nd ≡ Leaf → Here nd → (of_tree nd m 0).out ≡ map_bytes m ++ two_fields bs p
    unfolding bytes
    leaf-out =
        leaf-node (λ nd. Here nd → (of_tree nd m 0).out ≡ map_bytes m ++ two_fields bs p)
        (λ v h. ap (λ l. map_bytes m ++ l) (sym (two-are 0 (pos v) h.code h.fields.field_is)))
        (λ c h. ap (λ l. map_bytes m ++ l) (sym (two-are 1 c h.code (sym h.fields.is))))
        (λ b h. ap (λ l. map_bytes m ++ l) (sym (two-are 2 (pos b) h.code h.fields.field_is)))

    operator-out : (nd : Node) → class_of nd ≡ Operator → (code_of nd ≡ 5 → ⊥) → Here nd → (of_tree nd m 0).out ≡ two_fields bs p
    operator-out =
        operator-node (λ nd. (code_of nd ≡ 5 → ⊥) → Here nd → (of_tree nd m 0).out ≡ two_fields bs p)
        (λ o other h.
        let k = nat_abs (field bs (p + 8)) in
        ap (λ i. nat 3 ++ nat i) (ap unary_code h.fields.is ∙ unary-again k h.fields.high) ∙ sym (two-are 3 (pos k) h.code h.fields.field_is))
        (λ o other h.
        let k = nat_abs (field bs (p + 8)) in
        ap (λ i. nat 4 ++ nat i) (ap binary_code h.fields.is ∙ binary-again k h.fields.high) ∙ sym (two-are 4 (pos k) h.code h.fields.field_is))
        (λ other h. absurd (other refl))

if-out : (m : Sheet.Map) (nd : Node) → class_of nd ≡ Operator → code_of nd ≡ 5 → (of_tree nd m 0).out ≡ nat 5
if-out m = operator-node (λ nd. code_of nd ≡ 5 → (of_tree nd m 0).out ≡ nat 5) (λ o e. absurd (omega arith)) (λ o e. absurd (omega arith)) (λ e. refl)

-- ---- sizes

map-long : (m : Map) → length (map_bytes (map_of m)) ≡ 24 + m.height * (8 * m.width + 8)
map-long m =
    length-append (nat 8 ++ nat m.width ++ nat (length (map_of m).rows)) (flat (map row_bytes (map_of m).rows))
    ∙ ap₂ ◌+◌ (three-long 8 m.width (length (map_of m).rows))
    (rows_long m.width (map_of m).rows (map-wide m) ∙ ap (λ n. n * (8 * m.width + 8)) (map-high m))

leaf-long : (m : Map) (a b : List ℕ) → length a ≡ 8 → length b ≡ 8 → length (map_bytes (map_of m) ++ (a ++ b)) ≡ 40 + m.height * (8 * m.width + 8)
leaf-long m a b x y = length-append (map_bytes (map_of m)) (a ++ b) ∙ omega (arith, map-long m, length-append a b)

module _ (m : Map) (level : ℕ) where
  leaf-moves : (nd : Node) → class_of nd ≡ Leaf → record { to = 40 + m.height * (8 * m.width + 8); things = 2; deep = level + 2 }
      ≡ moves (of_tree nd (map_of m) level)
  unfolding bytes
  leaf-moves =
      leaf-node (λ nd. record { to = 40 + m.height * (8 * m.width + 8); things = 2; deep = level + 2 } ≡ moves (of_tree nd (map_of m) level))
      (λ v. ap (λ n. record { to = n; things = 2; deep = level + 2 }) (sym (leaf-long m (nat 0) (nat v) (length-nat 0) (length-nat v))))
      (λ c. ap (λ n. record { to = n; things = 2; deep = level + 2 }) (sym (leaf-long m (nat 1) (num c) (length-nat 1) (length-num c))))
      (λ b. ap (λ n. record { to = n; things = 2; deep = level + 2 }) (sym (leaf-long m (nat 2) (nat b) (length-nat 2) (length-nat b))))

  -- an operator is as long as it stands
  operator-moves : (nd : Node) → class_of nd ≡ Operator → record { to = node_size nd; things = 1; deep = 0 } ≡ moves (of_tree nd (map_of m) level)
  operator-moves =
      operator-node (λ nd. record { to = node_size nd; things = 1; deep = 0 } ≡ moves (of_tree nd (map_of m) level))
      (λ o. ap (λ n. record { to = n; things = 1; deep = 0 }) (sym (two-long 3 (unary_code o))))
      (λ o. ap (λ n. record { to = n; things = 1; deep = 0 }) (sym (two-long 4 (binary_code o))))
      (ap (λ n. record { to = n; things = 1; deep = 0 }) (sym (length-nat 5)))

-- ---- constraints

module _ (bs : List ℕ) (p : ℕ) where
  limits-are : (nd : Node) → class_of nd ≡ Restriction → Here bs p nd →
      (given_by nd ≡ constraints_fields (nat_abs (field bs (p + 16))) (nat_abs (field bs (p + 8))) bs (p + 24))
      × (length (given_by nd) ≡ nat_abs (field bs (p + 16)))
  limits-are =
      restriction-node
      (λ nd. Here bs p nd → (given_by nd ≡ constraints_fields (nat_abs (field bs (p + 16))) (nat_abs (field bs (p + 8))) bs (p + 24))
      × (length (given_by nd) ≡ nat_abs (field bs (p + 16))))
      (λ d cs h. (restriction-says bs p d cs h.fields, counted_is h.fields.many))

  module _ (nd : Node) (is : class_of nd ≡ Restriction) (h : Here bs p nd) (m : Map) where
    limits-out : (own Constraints nd (map_of m) 0).out ≡ limit_bytes m (nat_abs (field bs (p + 16))) (nat_abs (field bs (p + 8))) bs (p + 24)
    limits-out = ap (λ cs. flat (map constraint_bytes (map (constraint_after (map_of m)) cs))) (limits-are nd is h).0

    limits-long : length (own Constraints nd (map_of m) 0).out ≡ nat_abs (field bs (p + 16)) * (16 + 8 * m.width)
    limits-long =
        constraints-long m.width (map (constraint_after (map_of m)) (given_by nd)) (constraints-after-wide (map_of m) (given_by nd) (map-wide m))
        ∙ ap (λ n. n * (16 + 8 * m.width)) (length-map (given_by nd) (constraint_after (map_of m)) ∙ (limits-are nd is h).1)

    limits-moves : (k : ℕ) → k ≡ nat_abs (field bs (p + 16)) →
        record { to = k * (16 + 8 * m.width); things = k; deep = 0 } ≡ moves (own Constraints nd (map_of m) 0)
    limits-moves k e =
        ap (λ n. record { to = n * (16 + 8 * m.width); things = n; deep = 0 }) e
        ∙ ap₂ (λ x y. record { to = x; things = y; deep = 0 }) (sym limits-long) (sym (limits-are nd is h).1)

-- ---- parts do not depend on the level but for their depth, and are at least as long as they have things

pub own_out : (t : Half) (nd : Node) (m : Sheet.Map) (l : ℕ) → (own t nd m l).out ≡ (own t nd m 0).out
own_out Tree (n_var v) m l = refl
own_out Tree (n_int c) m l = refl
own_out Tree (n_bool b) m l = refl
own_out Tree (n_unary o) m l = refl
own_out Tree (n_binary o) m l = refl
own_out Tree n_if m l = refl
own_out Tree (n_case n) m l = refl
own_out Tree (n_restr d cs) m l = refl
own_out Tree (n_dep f) m l = refl
own_out Constraints nd m l = refl

limits-many : (cs : List Sheet.Constraint) → length cs ≤ length (flat (map constraint_bytes cs))
limits-many [] = omega arith
limits-many (c ∷ cs) =
    let long = length-append (constraint_bytes c) (flat (map constraint_bytes cs)) in
    omega (arith, limits-many cs, length-append (nat (relation_code c.rel)) (row_bytes c.row), length-nat (relation_code c.rel))

leaf-many : (m : Sheet.Map) (e : List ℕ) → 2 ≤ length (map_bytes m ++ e)
leaf-many m e =
    omega (
      arith,
      length-append (map_bytes m) e,
      length-append (nat 8 ++ nat m.cols ++ nat (length m.rows)) (flat (map row_bytes m.rows)),
      three-long 8 m.cols (length m.rows),
    )

pub own-things : (t : Half) (nd : Node) (m : Sheet.Map) (l : ℕ) → (own t nd m l).things ≤ length (own t nd m l).out
unfolding bytes
own-things Tree (n_var v) m l = leaf-many m (bytes (var v))
own-things Tree (n_int c) m l = leaf-many m (bytes (int c))
own-things Tree (n_bool b) m l = leaf-many m (bytes (boo b))
own-things Tree (n_unary o) m l = omega (arith, two-long 3 (unary_code o))
own-things Tree (n_binary o) m l = omega (arith, two-long 4 (binary_code o))
own-things Tree n_if m l = omega (arith, length-nat 5)
own-things Tree (n_case n) m l = omega arith
own-things Tree (n_restr d cs) m l = omega arith
own-things Tree (n_dep f) m l = omega arith
own-things Constraints nd m l = omega (arith, limits-many (map (constraint_after m) (given_by nd)), length-map (given_by nd) (constraint_after m))

-- ---- an operator as it is stored

module _ (bs : List ℕ) (p : ℕ) (h : NodedAs bs p Operator) where
  abbrev operator : Node
  operator = node_read (vars_of bs) bs p

  -- its code, at least
  pub operator-long : 8 ≤ node_size operator
  operator-long = omega (arith, size-here bs p h.noded, end-far bs p h.noded)

  pub if-stores : (to : ℕ) (out : List ℕ) {a : List ℕ} → code_of operator ≡ 5 → a ≡ sets out to (nat 5) → (m : Map) → Stores bs p m Tree to out a
  if-stores to out five first m = first ∙ ap (sets out to) (sym (if-out (map_of m) operator h.class_is five))

  -- and but for an if one field more
  module _ (other : code_of operator ≡ 5 → ⊥) where
    pub two-long-here : node_size operator ≡ 16
    two-long-here =
        operator-node (λ nd. (code_of nd ≡ 5 → ⊥) → node_size nd ≡ 16) (λ o e. refl) (λ o e. refl) (λ e. absurd (e refl)) operator h.class_is other

    pub two-there : p + 16 ≤ length bs
    two-there = omega (arith, two-long-here, (node-here bs p h.noded).there)

    pub two-stores : (to : ℕ) (out : List ℕ) {a : List ℕ} → a ≡ sets out to (two_fields bs p) → (m : Map) → Stores bs p m Tree to out a
    two-stores to out first m =
        first ∙ ap (sets out to) (sym (operator-out bs p (map_of m) operator h.class_is other (node-here bs p h.noded)))

-- ---- the ways through what stores and measures a node

module _ (bs : List ℕ) (p : ℕ) (m : Map) where
  -- the node that is read there
  abbrev here : Node
  here = node_read (vars_of bs) bs p

  -- it gives nothing to that half of a branch
  pub record Silent (t : Half) : Type 0 where
    pub is : (l : ℕ) → own t here (map_of m) l ≡ nothing

  pub leaf-free : class_at bs p ≡ Leaf → Silent Constraints
  leaf-free c = record { is = λ l. leaf-node (λ nd. own Constraints nd (map_of m) l ≡ nothing) (λ v. refl) (λ x. refl) (λ b. refl) here c }

  pub operator-free : class_at bs p ≡ Operator → Silent Constraints
  operator-free c = record { is = λ l. operator-node (λ nd. own Constraints nd (map_of m) l ≡ nothing) (λ o. refl) (λ o. refl) refl here c }

  pub restriction-bare : class_at bs p ≡ Restriction → Silent Tree
  restriction-bare c = record { is = λ l. restriction-node (λ nd. own Tree nd (map_of m) l ≡ nothing) (λ d cs. refl) here c }

  pub case-silent : (t : Half) → class_at bs p ≡ Case → Silent t
  case-silent Tree c = record { is = λ l. case-node (λ nd. own Tree nd (map_of m) l ≡ nothing) (λ n. refl) here c }
  case-silent Constraints c = record { is = λ l. case-node (λ nd. own Constraints nd (map_of m) l ≡ nothing) (λ n. refl) here c }

  pub dependence-silent : (t : Half) → class_at bs p ≡ Dependence → Silent t
  dependence-silent Tree c = record { is = λ l. dependence-node (λ nd. own Tree nd (map_of m) l ≡ nothing) (λ f. refl) here c }
  dependence-silent Constraints c = record { is = λ l. dependence-node (λ nd. own Constraints nd (map_of m) l ≡ nothing) (λ f. refl) here c }

  pub nothing_stored : {t : Half} → Silent t → (to : ℕ) (out : List ℕ) → Stores bs p m t to out out
  nothing_stored silent to out = ap (λ x. sets out to x.out) (sym (silent.is 0))

  pub nothing-sized : {t : Half} → Silent t → (level : ℕ) {r : Pen} → r ≡ record { to = 0; things = 0; deep = 0 } → Sizes bs p m t level r
  nothing-sized silent level none = none ∙ ap moves (sym (silent.is level))

  module _ (h : NodedAs bs p Leaf) where
    leaf-is : (of_tree here (map_of m) 0).out ≡ map_bytes (map_of m) ++ two_fields bs p
    leaf-is = leaf-out bs p (map_of m) here h.class_is (node-here bs p h.noded)

    -- below the map's dependence
    pub leaf-stores : (to : ℕ) (out : List ℕ) {a b : List ℕ} → a ≡ sets out to (map_bytes (map_of m)) →
        b ≡ sets a (to + (24 + m.height * (8 * m.width + 8))) (two_fields bs p) → Stores bs p m Tree to out b
    leaf-stores to out first second =
        sets-after out to (24 + m.height * (8 * m.width + 8)) (map_bytes (map_of m)) (two_fields bs p) (map-long m) first second
        ∙ ap (sets out to) (sym leaf-is)

    pub leaf-sizes : (level : ℕ) → Sizes bs p m Tree level (record { to = 40 + m.height * (8 * m.width + 8); things = 2; deep = level + 2 })
    leaf-sizes level = leaf-moves m level here h.class_is

    pub leaf_room : (to room : ℕ) → Spot bs p m Tree to room → to + (24 + m.height * (8 * m.width + 8)) + 16 ≤ room
    leaf_room to room s =
        omega (arith, s.fits_room, ap length leaf-is, length-append (map_bytes (map_of m)) (two_fields bs p), map-long m, two-fields-long bs p)

  module _ (h : NodedAs bs p Operator) where
    operator-size : (level : ℕ) → record { to = node_size here; things = 1; deep = 0 } ≡ moves (of_tree here (map_of m) level)
    operator-size level = operator-moves m level here h.class_is

    pub operator-sizes : (level k : ℕ) → k ≡ node_end (vars_of bs) bs p → Sizes bs p m Tree level (record { to = k - p; things = 1; deep = 0 })
    operator-sizes level k next =
        let size : k - p ≡ node_size here = omega (arith, size-here bs p h.noded) in
        ap (λ n. record { to = n; things = 1; deep = 0 }) size ∙ operator-size level

    pub operator-room : (to room : ℕ) → Spot bs p m Tree to room → to + node_size here ≤ room
    operator-room to room s = omega (arith, s.fits_room, ap (λ z. z.to) (operator-size 0))

    pub operator-fits : (level : ℕ) (pen : Pen) (room : ℕ) → Stop bs p m Tree level pen room → OperatorFits bs p pen room
    operator-fits level pen room s =
        record { operator = h; fits_room = operator-room pen.to room s.spot; things_low = s.things_low }

  module _ (h : NodedAs bs p Restriction) where
    pub limits-stores : (to k n : ℕ) (out : List ℕ) {a : List ℕ} → k ≡ nat_abs (field bs (p + 16)) → n ≡ nat_abs (field bs (p + 8)) →
        a ≡ sets out to (limit_bytes m k n bs (p + 24)) → Stores bs p m Constraints to out a
    limits-stores to k n out many dim first =
        first ∙ ap₂ (λ i j. sets out to (limit_bytes m i j bs (p + 24))) many dim
        ∙ ap (sets out to) (sym (limits-out bs p here h.class_is (node-here bs p h.noded) m))

    pub limits-sizes : (k : ℕ) → k ≡ nat_abs (field bs (p + 16)) → Sizes bs p m Constraints 0 (record { to = k * (16 + 8 * m.width); things = k; deep = 0 })
    limits-sizes k e = limits-moves bs p here h.class_is (node-here bs p h.noded) m k e

    pub limits-room : (to room : ℕ) → Spot bs p m Constraints to room → to + nat_abs (field bs (p + 16)) * (16 + 8 * m.width) ≤ room
    limits-room to room s = omega (arith, s.fits_room, limits-long bs p here h.class_is (node-here bs p h.noded) m)

  -- nothing is stored where it is only measured
  module _ (mode : Mode) (to : ℕ) (out : List ℕ) (t : Half) where
    pub dry-laid : mode ≡ Measure → out ≡ laid mode out to (own t here (map_of m) 0).out
    dry-laid e = ap (λ d. laid d out to (own t here (map_of m) 0).out) (sym e)

    pub stored-laid : (out' : List ℕ) → mode ≡ Store → Stores bs p m t to out out' → out' ≡ laid mode out to (own t here (map_of m) 0).out
    stored-laid out' e h = h ∙ ap (λ d. laid d out to (own t here (map_of m) 0).out) (sym e)

  -- ---- both

  module _ (t : Half) (level : ℕ) (pen size : Pen) (sized : Sizes bs p m t level size) where
    -- a pen may go on by what fits
    pub visit-room : (mode : Mode) (out : List ℕ) → pen.to + size.to ≤ room_of mode out → pen.things ≤ pen.to →
        (pen.to + size.to ≤ 2 ^ 40) × (pen.things + size.things ≤ 2 ^ 40)
    visit-room mode out fits_in low =
        let to_is = ap (λ z. z.to) sized in
        let things-are = ap (λ z. z.things) sized in
        let few = own-things t here (map_of m) level in
        let high = room-high mode out in
        (omega arith, omega arith)

    pub spot-room : (room : ℕ) → Spot bs p m t pen.to room → pen.to + size.to ≤ room
    spot-room room h = omega (arith, h.fits_room, ap (λ z. z.to) sized, ap length (own_out t here (map_of m) level))

    -- the pen goes on by the size, and the own bytes are laid
    module _ (mode : Mode) (out : List ℕ) (r : Pen)
        (moved : r ≡ record { to = pen.to + size.to; things = pen.things + size.things; deep = max pen.deep size.deep }) where
      pub visit-is : (out' : List ℕ) → out' ≡ laid mode out pen.to (own t here (map_of m) 0).out → Visits bs p m t level mode pen out out' r
      visit-is out' stored = record {
        pen_is = moved ∙ ap (λ z. record { to = pen.to + z.to; things = pen.things + z.things; deep = max pen.deep z.deep }) sized;
        out_is = stored ∙ ap (laid mode out pen.to) (sym (own_out t here (map_of m) level));
      }

      pub measured-visits : mode ≡ Measure → Visits bs p m t level mode pen out out r
      measured-visits e = visit-is out (dry-laid mode pen.to out t e)

      pub stored-visits : {out' : List ℕ} → mode ≡ Store → Stores bs p m t pen.to out out' → Visits bs p m t level mode pen out out' r
      stored-visits {out'} e h = visit-is out' (stored-laid mode pen.to out t out' e h)

pub stores_as : (bs : List ℕ) (p : ℕ) (m : Map) (to : ℕ) (out : List ℕ) {t u : Half} {out' : List ℕ} → t ≡ u → Stores bs p m u to out out' →
    Stores bs p m t to out out'
stores_as bs p m to out e h = h ∙ ap (λ x. sets out to (own x (node_read (vars_of bs) bs p) (map_of m) 0).out) (sym e)

-- where the walk stores, there is room in what is lent
pub stored-spot : (bs : List ℕ) (p : ℕ) (m : Map) (t : Half) (to : ℕ) (out : List ℕ) (mode : Mode) → mode ≡ Store →
    Spot bs p m t to (room_of mode out) → Spot bs p m t to (length out)
stored-spot bs p m t to out mode e h = record {
  noded = h.noded;
  neat = h.neat;
  limits = h.limits;
  fits_room = let low = h.fits_room in let is = ap (λ d. room_of d out) e in omega arith;
}
