-- The ways through the evaluator of expressions, one for each kind of node: what is worked out of the tree at a place, from what was
-- worked out of its operands. Assumes nothing.
use mathlib.Core.Path.{◌≡◌, refl, sym, ap, ◌∙◌, subst}
use Prim.Native.Nat.{ℕ, ◌+◌}
use native.Mathlib.Omega.{arith}
use mathlib.Core.Bool.{true, ◌&&◌}
use mathlib.Core.List.{List}
use mathlib.Core.Option.{some}
use lib.ListN.{length}
use lib.IntN.{ℤ, nat_abs}
use lib.Dec.{eqb}
use borrow.Author.Tests.{eqb-true}
use Rattle.alpha.specs.declared.Outcome as Declared
use Rattle.alpha.specs.declared.Outcome.TheVariants as Outcomes
use Rattle.alpha.specs.Field.{field}
use Rattle.alpha.specs.Sheet.{Expr, Exprs, Sheet, Point, Unary, Binary}
use Rattle.alpha.specs.Sheet.{Expr.un, Expr.bin, Expr.ite, Expr.kase, Expr.restr, Expr.dep}
use Rattle.alpha.specs.declared.kind.Unary.{Unary as UnaryCase}
use Rattle.alpha.specs.declared.kind.Binary.{Binary as BinaryCase}
use Rattle.alpha.specs.Kinds.{unary_meant, binary_meant}
use Rattle.alpha.specs.Affine.{image}
use Rattle.alpha.specs.Read.{unary_of, binary_of}
use Rattle.alpha.specs.Shape.{fits}
use Rattle.alpha.specs.Outcome.{value, and_then, unary, binary, choose, is_true, eval, outcome}
use Rattle.laws.specs.At.{code_of, node_read, node_end, At}
use Rattle.laws.specs.Sheets.{heads_of, vars_of, sheet_of}
use Rattle.laws.proofs.Tests.{&&-left, &&-right}
use Rattle.laws.proofs.Shapes.{UnAt, BinAt, IteAt, KaseAt, RestrAt, DepAt, at-int, at-boo, at-un, at-bin, at-ite}
use Rattle.integer.specs.Range.{In32}
use Rattle.integer.specs.Range as Range
use Rattle.integer.proofs.Order.{within-32}
use Rattle.affine.specs.Value.{point_of}
use Rattle.affine.specs.Reading.{ImageAt}
use Rattle.affine.proofs.Meaning.{height-length, width-cols}
use Rattle.tree.specs.declared.Class.TheVariants.{Case, Restriction, Dependence}
use Rattle.tree.specs.declared.LeafKind.TheVariants.{Integer, Boolean}
use Rattle.tree.specs.declared.OperatorKind.TheVariants as Operators
use Rattle.tree.specs.Classes.{class_at, leaf_code, operator_code}
use Rattle.tree.specs.Ends.{EndsAt}
use Rattle.tree.proofs.Classes.{case_at, restriction-at, dependence-at, coded-field}
use Rattle.domain.specs.Holding.{first_holding, Taken, Chooses}
use Rattle.domain.proofs.Choices.{outcome_of, first-outcome}
use Rattle.std.specs.Prelude.{Result, Ok, Err}
use Rattle.evaluate.specs.declared.Stop.{Stop}
use Rattle.evaluate.specs.declared.Worked.{Worked}
use Rattle.evaluate.specs.Memo.{Work, Thing, Memo}
use Rattle.evaluate.specs.Working.{expression, WorksOut, ConstantRead, answer_of, Ends, Gives, Evaluated, EvaluatesAt}
use Rattle.evaluate.proofs.Doing.{expression-grows, done-same, done-known, done-value, done_first, done_next}

-- ---- what an expression's outcome is, by its operands'

module _ (s : Sheet) (ins : List ℤ) (z : Point) (k : ℕ) where
  one-is : (o : Unary) (a : Expr) → expression s ins (un o a) z k ≡ and_then (expression s ins a z k) (λ x. unary o x)
  unfolding eval
  one-is o a = refl

  two_is : (o : Binary) (a b : Expr) → expression s ins (bin o a b) z k
      ≡ and_then (expression s ins a z k) (λ x. and_then (expression s ins b z k) (λ y. binary o x y))
  unfolding eval
  two_is o a b = refl

  three-is : (a b c : Expr) → expression s ins (ite a b c) z k
      ≡ and_then (expression s ins a z k) (λ t. and_then (expression s ins b z k) (λ x. and_then (expression s ins c z k) (λ y. choose (is_true t) x y)))
  unfolding eval
  three-is a b c = refl

  case-is : (es : Exprs) → expression s ins (kase es) z k ≡ outcome_of (first_holding es s z) s (outcome k s ins) z
  unfolding eval
  case-is es = first-outcome es s (outcome k s ins) z

-- a case by the branch that it takes
taken_is : (s : Sheet) (es : Exprs) (z : Point) (t : Expr) → first_holding es s z ≡ some t → (ins : List ℤ) (k : ℕ) →
    expression s ins (kase es) z k ≡ expression s ins t z k
taken_is s es z t h ins k = case-is s ins z k es ∙ ap (λ o. outcome_of o s (outcome k s ins) z) h

restricted-is : (s : Sheet) (d : ℕ) (cs : List _) (a : Expr) (z : Point) (ins : List ℤ) (k : ℕ) →
    expression s ins (restr d cs a) z k ≡ expression s ins a z k
unfolding eval
restricted-is s d cs a z ins k = refl

imaged-is : (s : Sheet) (f : _) (a : Expr) (z : Point) (ins : List ℤ) (k : ℕ) →
    expression s ins (dep f a) z k ≡ expression s ins a (image f.rows z) k
unfolding eval
imaged-is s f a z ins k = refl

module _ (bs : List ℕ) (p : ℕ) (z : List ℤ) where
  abbrev sheet : Sheet
  sheet = sheet_of bs

  -- ---- what was worked out

  -- what has no value has no end
  stopped_ends : (k q : ℕ) (s : Stop) → Ends k (Err s) → Ends q (Err s)
  stopped_ends k q s E = record { next = λ w is. cc; none = E.none }

  -- a tree by another one
  done-tree : (e f : Expr) (y : Point) (memo last : Memo) (r : Work) → e ≡ f → WorksOut sheet memo last (λ ins. expression sheet ins f y) r →
      WorksOut sheet memo last (λ ins. expression sheet ins e y) r
  done-tree e f y memo last r is D = subst (λ t. WorksOut sheet memo last (λ ins. expression sheet ins t y) r) (sym is) D

  module _ (e : Expr) (q : ℕ) (y : Point) (memo last : Memo) where
    -- an outcome was given, with the place after the tree
    given : (o : Declared.Outcome) (r : Result Worked Stop) (k : ℕ) → Gives o k r → k ≡ q →
        WorksOut sheet memo last (λ ins. expression sheet ins e y) (Ok o) → Evaluated bs e q y memo last r
    given o r k g is D = record { done = rw g.answer D; ends = subst (λ i. Ends i r) is g.ends }

    -- a part has no value
    stopped : (s : Stop) (k : ℕ) → Ends k (Err s) → WorksOut sheet memo last (λ ins. expression sheet ins e y) (answer_of (Err s)) →
        Evaluated bs e q y memo last (Err s)
    stopped s k E D = record { done = D; ends = stopped_ends k q s E }

    -- an expression that is another one, ending at the same place
    evaluated-same : (f : Expr) (x : Point) (r : Result Worked Stop) →
        ((ins : List ℤ) (k : ℕ) → expression sheet ins e y k ≡ expression sheet ins f x k) →
        Evaluated bs f q x memo last r → Evaluated bs e q y memo last r
    evaluated-same f x r is E = record {
      done = done-same sheet memo last (λ ins. expression sheet ins e y) (λ ins. expression sheet ins f x) (answer_of r) is E.done;
      ends = E.ends;
    }

    evaluated-tree : (f : Expr) (r : Result Worked Stop) → e ≡ f → Evaluated bs f q y memo last r → Evaluated bs e q y memo last r
    evaluated-tree f r is E = subst (λ t. Evaluated bs t q y memo last r) (sym is) E

  -- what stands after the node stands at the next place
  after-node : (t : Expr) (k q : ℕ) → k ≡ node_end (vars_of bs) bs p → At t (vars_of bs) bs (node_end (vars_of bs) bs p) q → At t (vars_of bs) bs k q
  after-node t k q next = subst (λ i. At t (vars_of bs) bs i q) (sym next)

  -- ---- constants

  -- a constant at p, whose second field has its value
  pub record ConstantAt (e : Expr) (q : ℕ) : Type 0 where
    pub value-is : (y : Point) (ins : List ℤ) (k : ℕ) → expression sheet ins e y k ≡ value (field bs (p + 8))
    pub small : In32 (field bs (p + 8))
    pub end : node_end (vars_of bs) bs p ≡ q

  pub integer-at : code_of (node_read (vars_of bs) bs p) ≡ leaf_code Integer → (e : Expr) (q : ℕ) → At e (vars_of bs) bs p q → ConstantAt e q
  unfolding eval
  integer-at code e q h =
      let x = at-int (vars_of bs) bs e p q h (coded-field bs e p q h (leaf_code Integer) code) in
      record {
        value-is = λ y ins k. ap (λ t. expression sheet ins t y k) x.is ∙ ap value x.stands.is;
        small = within-32 (field bs (p + 8)) x.stands.fine;
        end = x.end;
      }

  pub boolean-at : code_of (node_read (vars_of bs) bs p) ≡ leaf_code Boolean → (e : Expr) (q : ℕ) → At e (vars_of bs) bs p q → ConstantAt e q
  unfolding eval
  boolean-at code e q h =
      let x = at-boo (vars_of bs) bs e p q h (coded-field bs e p q h (leaf_code Boolean) code) in
      record {
        value-is = λ y ins k. ap (λ t. expression sheet ins t y k) x.is ∙ ap value (sym x.stands.field_is);
        small = rw x.stands.field_is (omega (arith, x.stands.high));
        end = x.end;
      }

  pub constant-way : ((e : Expr) (q : ℕ) → At e (vars_of bs) bs p q → ConstantAt e q) → (memo : Memo) (w : Worked) → ConstantRead bs p w →
      EvaluatesAt bs p z memo memo (Ok w)
  constant-way constant memo w c e q n h f =
      let x = constant e q h in
      let d = done-value sheet memo w.value (rw c.says x.small) in
      let is : (ins : List ℤ) (k : ℕ) → expression sheet ins e (point_of n z) k ≡ value w.value =
      λ ins k. x.value-is (point_of n z) ins k ∙ ap value (sym c.says) in
      record {
        done = done-same sheet memo memo (λ ins. expression sheet ins e (point_of n z)) (λ ins k. value w.value) (Ok (Outcomes.Value w.value)) is d;
        ends = record { next = λ v g. sym (ap (λ o. next_in w.next o) g) ∙ c.next ∙ x.end; none = λ s g. cc };
      }
    where
      next_in : ℕ → Result Worked Stop → ℕ
      next_in k (Ok v) = v.next
      next_in k (Err s) = k

  -- ---- a unary operator

  module _ (code : code_of (node_read (vars_of bs) bs p) ≡ operator_code Operators.Unary) (k : ℕ) (next : k ≡ node_end (vars_of bs) bs p) where
    here-one : (e : Expr) (q : ℕ) → At e (vars_of bs) bs p q → UnAt e (vars_of bs) bs p q
    here-one e q h = at-un (vars_of bs) bs e p q h (coded-field bs e p q h (operator_code Operators.Unary) code)

    fit-one : (e : Expr) (q n : ℕ) (h : At e (vars_of bs) bs p q) → fits e (heads_of bs) n ≡ true → fits (here-one e q h).child (heads_of bs) n ≡ true
    unfolding fits
    fit-one e q n h f = rw (here-one e q h).is at f

    module _ (memo last : Memo) where
      operand-done : (a : Result Worked Stop) → EvaluatesAt bs k z memo last a → (e : Expr) (q n : ℕ) (h : At e (vars_of bs) bs p q) →
          fits e (heads_of bs) n ≡ true → Evaluated bs (here-one e q h).child q (point_of n z) memo last a
      operand-done a A e q n h f =
          let x = here-one e q h in A x.child q n (after-node x.child k q next x.below) (fit-one e q n h f)

      -- the tree by its operand, and then the operator
      one-done : (e : Expr) (q n : ℕ) (h : At e (vars_of bs) bs p q) (r : Work) →
          WorksOut sheet memo last (λ ins k. and_then (expression sheet ins (here-one e q h).child (point_of n z) k) (λ v. unary (here-one e q h).op v)) r →
          WorksOut sheet memo last (λ ins. expression sheet ins e (point_of n z)) r
      one-done e q n h r d =
          let x = here-one e q h in
          let y = point_of n z in
          done-tree e (un x.op x.child) y memo last r x.is (done-same sheet memo last _ _ r (λ ins k. one-is sheet ins y k x.op x.child) d)

      -- the operand has no value
      pub one-back : (s : Stop) → EvaluatesAt bs k z memo last (Err s) → EvaluatesAt bs p z memo last (Err s)
      one-back s A e q n h f =
          let x = here-one e q h in
          let y = point_of n z in
          let E = operand-done (Err s) A e q n h f in
          stopped e q y memo last s q E.ends
          (one-done e q n h (answer_of (Err s))
          (done_first sheet (λ ins. expression sheet ins x.child y) (λ ins. expression-grows sheet ins x.child y)
          (λ v ins k. unary x.op v) memo last (answer_of (Err s)) (E.ends.none s refl) E.done))

      pub one_way : (w : Worked) → EvaluatesAt bs k z memo last (Ok w) → (op : UnaryCase) (o : Declared.Outcome) →
          unary_meant op ≡ unary_of (nat_abs (field bs (p + 8))) →
          Range.Says o (unary (unary_meant op) w.value) → (r : Result Worked Stop) → Gives o w.next r → EvaluatesAt bs p z memo last r
      one_way w A op o number says r g e q n h f =
          let x = here-one e q h in
          let y = point_of n z in
          let E = operand-done (Ok w) A e q n h f in
          let same : x.op ≡ unary_meant op = x.chosen.is ∙ sym number in
          let said : Range.Says o (unary x.op w.value) = rw same says in
          given e q y memo last o r w.next g (E.ends.next w refl)
          (one-done e q n h (Ok o)
          (done_next sheet (λ ins. expression sheet ins x.child y) (λ ins. expression-grows sheet ins x.child y) (λ v ins k. unary x.op v)
          memo last last w.value (Ok o) E.done (done-known sheet last o (unary x.op w.value) said)))

  -- ---- a binary operator

  module _ (code : code_of (node_read (vars_of bs) bs p) ≡ operator_code Operators.Binary) (k : ℕ) (next : k ≡ node_end (vars_of bs) bs p) where
    here-two : (e : Expr) (q : ℕ) → At e (vars_of bs) bs p q → BinAt e (vars_of bs) bs p q
    here-two e q h = at-bin (vars_of bs) bs e p q h (coded-field bs e p q h (operator_code Operators.Binary) code)

    fit-two : (e : Expr) (q n : ℕ) (h : At e (vars_of bs) bs p q) → fits e (heads_of bs) n ≡ true →
        fits (here-two e q h).left (heads_of bs) n && fits (here-two e q h).right (heads_of bs) n ≡ true
    unfolding fits
    fit-two e q n h f = rw (here-two e q h).is at f

    module _ (memo mid : Memo) where
      -- the left operand of any such tree
      left-done : (a : Result Worked Stop) → EvaluatesAt bs k z memo mid a → (e : Expr) (q n : ℕ) (h : At e (vars_of bs) bs p q) →
          fits e (heads_of bs) n ≡ true → Evaluated bs (here-two e q h).left (here-two e q h).middle (point_of n z) memo mid a
      left-done a A e q n h f =
          let x = here-two e q h in
          A x.left x.middle n (after-node x.left k x.middle next x.before)
          (&&-left (fits x.left (heads_of bs) n) (fits x.right (heads_of bs) n) (fit-two e q n h f))

      -- the tree by its left operand, and what follows it
      two-done : (e : Expr) (q n : ℕ) (h : At e (vars_of bs) bs p q) (last : Memo) (r : Work) →
          WorksOut sheet memo last (λ ins k. and_then (expression sheet ins (here-two e q h).left (point_of n z) k)
          (λ u. and_then (expression sheet ins (here-two e q h).right (point_of n z) k) (λ w. binary (here-two e q h).op u w))) r →
          WorksOut sheet memo last (λ ins. expression sheet ins e (point_of n z)) r
      two-done e q n h last r d =
          let x = here-two e q h in
          let y = point_of n z in
          done-tree e (bin x.op x.left x.right) y memo last r x.is (done-same sheet memo last _ _ r (λ ins k. two_is sheet ins y k x.op x.left x.right) d)

      -- the left operand has no value
      pub left_back : (s : Stop) → EvaluatesAt bs k z memo mid (Err s) → EvaluatesAt bs p z memo mid (Err s)
      left_back s A e q n h f =
          let x = here-two e q h in
          let y = point_of n z in
          let E = left-done (Err s) A e q n h f in
          stopped e q y memo mid s x.middle E.ends
          (two-done e q n h mid (answer_of (Err s))
          (done_first sheet (λ ins. expression sheet ins x.left y) (λ ins. expression-grows sheet ins x.left y)
          (λ u ins k. and_then (expression sheet ins x.right y k) (λ w. binary x.op u w)) memo mid (answer_of (Err s)) (E.ends.none s refl) E.done))

      module _ (v : Worked) (A : EvaluatesAt bs k z memo mid (Ok v)) (last : Memo) where
        right-done : (b : Result Worked Stop) → EvaluatesAt bs v.next z mid last b → (e : Expr) (q n : ℕ) (h : At e (vars_of bs) bs p q) →
            fits e (heads_of bs) n ≡ true → Evaluated bs (here-two e q h).right q (point_of n z) mid last b
        right-done b B e q n h f =
            let x = here-two e q h in
            let at : At x.right (vars_of bs) bs v.next q = rw ((left-done (Ok v) A e q n h f).ends.next v refl) x.after in
            B x.right q n at (&&-right (fits x.left (heads_of bs) n) (fits x.right (heads_of bs) n) (fit-two e q n h f))

        -- the tree, from what follows the left operand's value
        both-done : (e : Expr) (q n : ℕ) (h : At e (vars_of bs) bs p q) (f : fits e (heads_of bs) n ≡ true) (r : Work) →
            WorksOut sheet mid last (λ ins k. and_then (expression sheet ins (here-two e q h).right (point_of n z) k)
            (λ w. binary (here-two e q h).op v.value w)) r →
            WorksOut sheet memo last (λ ins. expression sheet ins e (point_of n z)) r
        both-done e q n h f r d =
            let x = here-two e q h in
            let y = point_of n z in
            two-done e q n h last r
            (done_next sheet (λ ins. expression sheet ins x.left y) (λ ins. expression-grows sheet ins x.left y)
            (λ u ins k. and_then (expression sheet ins x.right y k) (λ w. binary x.op u w)) memo mid last v.value r (left-done (Ok v) A e q n h f).done d)

        -- the right operand has no value
        pub right-back : (s : Stop) → EvaluatesAt bs v.next z mid last (Err s) → EvaluatesAt bs p z memo last (Err s)
        right-back s B e q n h f =
            let x = here-two e q h in
            let y = point_of n z in
            let E = right-done (Err s) B e q n h f in
            stopped e q y memo last s q E.ends
            (both-done e q n h f (answer_of (Err s))
            (done_first sheet (λ ins. expression sheet ins x.right y) (λ ins. expression-grows sheet ins x.right y)
            (λ w ins k. binary x.op v.value w) mid last (answer_of (Err s)) (E.ends.none s refl) E.done))

        pub two-way : (w : Worked) → EvaluatesAt bs v.next z mid last (Ok w) → (op : BinaryCase) (o : Declared.Outcome) →
            binary_meant op ≡ binary_of (nat_abs (field bs (p + 8))) →
            Range.Says o (binary (binary_meant op) v.value w.value) → (r : Result Worked Stop) → Gives o w.next r → EvaluatesAt bs p z memo last r
        two-way w B op o number says r g e q n h f =
            let x = here-two e q h in
            let y = point_of n z in
            let E = right-done (Ok w) B e q n h f in
            let same : x.op ≡ binary_meant op = x.chosen.is ∙ sym number in
            let said : Range.Says o (binary x.op v.value w.value) = rw same says in
            given e q y memo last o r w.next g (E.ends.next w refl)
            (both-done e q n h f (Ok o)
            (done_next sheet (λ ins. expression sheet ins x.right y) (λ ins. expression-grows sheet ins x.right y)
            (λ u ins k. binary x.op v.value u) mid last last w.value (Ok o) E.done
            (done-known sheet last o (binary x.op v.value w.value) said)))

  -- ---- an if

  module _ (code : code_of (node_read (vars_of bs) bs p) ≡ operator_code Operators.If) (k : ℕ) (next : k ≡ node_end (vars_of bs) bs p) where
    here-three : (e : Expr) (q : ℕ) → At e (vars_of bs) bs p q → IteAt e (vars_of bs) bs p q
    here-three e q h = at-ite (vars_of bs) bs e p q h (coded-field bs e p q h (operator_code Operators.If) code)

    fit-three : (e : Expr) (q n : ℕ) (h : At e (vars_of bs) bs p q) → fits e (heads_of bs) n ≡ true →
        fits (here-three e q h).test (heads_of bs) n && fits (here-three e q h).left (heads_of bs) n && fits (here-three e q h).right (heads_of bs) n
        ≡ true
    unfolding fits
    fit-three e q n h f = rw (here-three e q h).is at f

    -- what follows the test's value t, and then the first arm's value u
    abbrev arms : Expr → Expr → Point → ℤ → List ℤ → Thing
    arms b c y t ins k = and_then (expression sheet ins b y k) (λ x. and_then (expression sheet ins c y k) (λ w. choose (is_true t) x w))

    abbrev arm : Expr → Point → ℤ → ℤ → List ℤ → Thing
    arm c y t x ins k = and_then (expression sheet ins c y k) (λ w. choose (is_true t) x w)

    module _ (memo one : Memo) where
      test-done : (a : Result Worked Stop) → EvaluatesAt bs k z memo one a → (e : Expr) (q n : ℕ) (h : At e (vars_of bs) bs p q) →
          fits e (heads_of bs) n ≡ true → Evaluated bs (here-three e q h).test (here-three e q h).middle (point_of n z) memo one a
      test-done a A e q n h f =
          let x = here-three e q h in
          A x.test x.middle n (after-node x.test k x.middle next x.tested)
          (&&-left (fits x.test (heads_of bs) n) (fits x.left (heads_of bs) n)
          (&&-left (fits x.test (heads_of bs) n && fits x.left (heads_of bs) n) (fits x.right (heads_of bs) n) (fit-three e q n h f)))

      -- the tree by its test, and what follows it
      three-done : (e : Expr) (q n : ℕ) (h : At e (vars_of bs) bs p q) (last : Memo) (r : Work) →
          WorksOut sheet memo last (λ ins k. and_then (expression sheet ins (here-three e q h).test (point_of n z) k)
          (λ t. arms (here-three e q h).left (here-three e q h).right (point_of n z) t ins k)) r →
          WorksOut sheet memo last (λ ins. expression sheet ins e (point_of n z)) r
      three-done e q n h last r d =
          let x = here-three e q h in
          let y = point_of n z in
          done-tree e (ite x.test x.left x.right) y memo last r x.is
          (done-same sheet memo last _ _ r (λ ins k. three-is sheet ins y k x.test x.left x.right) d)

      -- the test has no value
      pub test_back : (s : Stop) → EvaluatesAt bs k z memo one (Err s) → EvaluatesAt bs p z memo one (Err s)
      test_back s A e q n h f =
          let x = here-three e q h in
          let y = point_of n z in
          let E = test-done (Err s) A e q n h f in
          stopped e q y memo one s x.middle E.ends
          (three-done e q n h one (answer_of (Err s))
          (done_first sheet (λ ins. expression sheet ins x.test y) (λ ins. expression-grows sheet ins x.test y) (arms x.left x.right y)
          memo one (answer_of (Err s)) (E.ends.none s refl) E.done))

      module _ (t : Worked) (A : EvaluatesAt bs k z memo one (Ok t)) (two : Memo) where
        first_done : (b : Result Worked Stop) → EvaluatesAt bs t.next z one two b → (e : Expr) (q n : ℕ) (h : At e (vars_of bs) bs p q) →
            fits e (heads_of bs) n ≡ true → Evaluated bs (here-three e q h).left (here-three e q h).last (point_of n z) one two b
        first_done b B e q n h f =
            let x = here-three e q h in
            let at : At x.left (vars_of bs) bs t.next x.last = rw ((test-done (Ok t) A e q n h f).ends.next t refl) x.before in
            B x.left x.last n at
            (&&-right (fits x.test (heads_of bs) n) (fits x.left (heads_of bs) n)
            (&&-left (fits x.test (heads_of bs) n && fits x.left (heads_of bs) n) (fits x.right (heads_of bs) n) (fit-three e q n h f)))

        -- the tree, from what follows the test's value
        tested-done : (e : Expr) (q n : ℕ) (h : At e (vars_of bs) bs p q) (f : fits e (heads_of bs) n ≡ true) (last : Memo) (r : Work) →
            WorksOut sheet one last (arms (here-three e q h).left (here-three e q h).right (point_of n z) t.value) r →
            WorksOut sheet memo last (λ ins. expression sheet ins e (point_of n z)) r
        tested-done e q n h f last r d =
            let x = here-three e q h in
            let y = point_of n z in
            three-done e q n h last r
            (done_next sheet (λ ins. expression sheet ins x.test y) (λ ins. expression-grows sheet ins x.test y)
            (arms x.left x.right y) memo one last t.value r (test-done (Ok t) A e q n h f).done d)

        -- the first arm has no value
        pub first_back : (s : Stop) → EvaluatesAt bs t.next z one two (Err s) → EvaluatesAt bs p z memo two (Err s)
        first_back s B e q n h f =
            let x = here-three e q h in
            let y = point_of n z in
            let E = first_done (Err s) B e q n h f in
            stopped e q y memo two s x.last E.ends
            (tested-done e q n h f two (answer_of (Err s))
            (done_first sheet (λ ins. expression sheet ins x.left y) (λ ins. expression-grows sheet ins x.left y) (arm x.right y t.value) one
            two (answer_of (Err s)) (E.ends.none s refl) E.done))

        module _ (u : Worked) (B : EvaluatesAt bs t.next z one two (Ok u)) (last : Memo) where
          second-done : (c : Result Worked Stop) → EvaluatesAt bs u.next z two last c → (e : Expr) (q n : ℕ) (h : At e (vars_of bs) bs p q) →
              fits e (heads_of bs) n ≡ true → Evaluated bs (here-three e q h).right q (point_of n z) two last c
          second-done c C e q n h f =
              let x = here-three e q h in
              let at : At x.right (vars_of bs) bs u.next q = rw ((first_done (Ok u) B e q n h f).ends.next u refl) x.after in
              C x.right q n at (&&-right (fits x.test (heads_of bs) n && fits x.left (heads_of bs) n) (fits x.right (heads_of bs) n)
              (fit-three e q n h f))

          -- the tree, from what follows the first arm's value
          armed-done : (e : Expr) (q n : ℕ) (h : At e (vars_of bs) bs p q) (f : fits e (heads_of bs) n ≡ true) (r : Work) →
              WorksOut sheet two last (arm (here-three e q h).right (point_of n z) t.value u.value) r →
              WorksOut sheet memo last (λ ins. expression sheet ins e (point_of n z)) r
          armed-done e q n h f r d =
              let x = here-three e q h in
              let y = point_of n z in
              tested-done e q n h f last r
              (done_next sheet (λ ins. expression sheet ins x.left y) (λ ins. expression-grows sheet ins x.left y) (arm x.right y t.value) one
              two last u.value r (first_done (Ok u) B e q n h f).done d)

          -- the second arm has no value
          pub second_back : (s : Stop) → EvaluatesAt bs u.next z two last (Err s) → EvaluatesAt bs p z memo last (Err s)
          second_back s C e q n h f =
              let x = here-three e q h in
              let y = point_of n z in
              let E = second-done (Err s) C e q n h f in
              stopped e q y memo last s q E.ends
              (armed-done e q n h f (answer_of (Err s))
              (done_first sheet (λ ins. expression sheet ins x.right y) (λ ins. expression-grows sheet ins x.right y)
              (λ w ins k. choose (is_true t.value) u.value w) two last (answer_of (Err s)) (E.ends.none s refl) E.done))

          pub three-way : (w : Worked) → EvaluatesAt bs u.next z two last (Ok w) → (o : Declared.Outcome) →
              Range.Says o (choose (is_true t.value) u.value w.value) →
              (r : Result Worked Stop) → Gives o w.next r → EvaluatesAt bs p z memo last r
          three-way w C o says r g e q n h f =
              let x = here-three e q h in
              let y = point_of n z in
              let E = second-done (Ok w) C e q n h f in
              given e q y memo last o r w.next g (E.ends.next w refl)
              (armed-done e q n h f (Ok o)
              (done_next sheet (λ ins. expression sheet ins x.right y) (λ ins. expression-grows sheet ins x.right y)
              (λ v ins k. choose (is_true t.value) u.value v) two last last w.value (Ok o) E.done
              (done-known sheet last o (choose (is_true t.value) u.value w.value) says)))

  -- ---- a case

  module _ (left : ℕ) (class_is : class_at bs p ≡ Case) (place : ℕ) (C : Chooses bs p left z place) where
    here-case : (e : Expr) (q : ℕ) → At e (vars_of bs) bs p q → KaseAt e (vars_of bs) bs p q
    here-case e q h = case_at bs e p q h class_is

    taken : (e : Expr) (q n : ℕ) (h : At e (vars_of bs) bs p q) → fits e (heads_of bs) n ≡ true → Taken bs (here-case e q h).branches n z place
    taken e q n h f = let x = here-case e q h in C.says x.branches q n (rw x.is at h) (rw x.is at f)

    module _ (memo last : Memo) where
      -- the tree by the branch that it takes
      branch-done : (r : Result Worked Stop) → EvaluatesAt bs place z memo last r → (e : Expr) (q n : ℕ) → At e (vars_of bs) bs p q →
          fits e (heads_of bs) n ≡ true → WorksOut sheet memo last (λ ins. expression sheet ins e (point_of n z)) (answer_of r)
      branch-done r R e q n h f =
          let x = here-case e q h in
          let y = point_of n z in
          let t = taken e q n h f in
          done-tree e (kase x.branches) y memo last (answer_of r) x.is
          (done-same sheet memo last (λ ins. expression sheet ins (kase x.branches) y) (λ ins. expression sheet ins t.tree y) (answer_of r)
          (taken_is sheet x.branches y t.tree t.first) (R t.tree t.end n t.at t.fitting).done)

      -- the branch has no value
      pub branch-back : (s : Stop) → EvaluatesAt bs place z memo last (Err s) → EvaluatesAt bs p z memo last (Err s)
      branch-back s R e q n h f =
          let t = taken e q n h f in
          stopped e q (point_of n z) memo last s t.end (R t.tree t.end n t.at t.fitting).ends (branch-done (Err s) R e q n h f)

      -- it has the value of its branch, and its own end
      pub branch-way : (w : Worked) → EvaluatesAt bs place z memo last (Ok w) → (next : ℕ) → EndsAt (vars_of bs) bs p next →
          EvaluatesAt bs p z memo last (Ok (record { value = w.value; next = next }))
      branch-way w R next ends e q n h f = record {
        done = branch-done (Ok w) R e q n h f;
        ends = record { next = λ v g. sym (ap next_of g) ∙ ends e q h; none = λ s g. cc };
      }
        where
          next_of : Result Worked Stop → ℕ
          next_of (Ok v) = v.next
          next_of (Err s) = next

  -- ---- a restriction

  pub restriction-way : class_at bs p ≡ Restriction → (k : ℕ) → k ≡ node_end (vars_of bs) bs p → (memo last : Memo) (r : Result Worked Stop) →
      EvaluatesAt bs k z memo last r → EvaluatesAt bs p z memo last r
  restriction-way class_is k next memo last r R e q n h f =
      let x = restriction-at bs e p q h class_is in
      let y = point_of n z in
      let E =
      R x.child q n (after-node x.child k q next x.below)
      (&&-right (eqb x.dim n) (fits x.child (heads_of bs) n) (parts x)) in
      evaluated-tree e q y memo last (restr x.dim x.given x.child) r x.is
      (evaluated-same (restr x.dim x.given x.child) q y memo last x.child y r (restricted-is sheet x.dim x.given x.child y) E)
    where
      parts : (x : RestrAt e (vars_of bs) bs p q) → eqb x.dim n && fits x.child (heads_of bs) n ≡ true
      parts x = unfold fits in rw x.is at f

  -- ---- a dependence

  pub image-way : class_at bs p ≡ Dependence → (k : ℕ) → k ≡ node_end (vars_of bs) bs p → (y : List ℤ) → ImageAt bs (p + 8) z y →
      (memo last : Memo) (r : Result Worked Stop) → EvaluatesAt bs k y memo last r → EvaluatesAt bs p z memo last r
  image-way class_is k next y i memo last r R e q n h f =
      let x = dependence-at bs e p q h class_is in
      let m = i.map in
      let map_is = i.read.is x.by x.fields.next x.fields.read in
      let cols = eqb-true x.by.cols n (&&-left (eqb x.by.cols n) (fits x.child (heads_of bs) (length x.by.rows)) (parts x)) in
      let point : point_of (length x.by.rows) y ≡ image x.by.rows (point_of n z) =
      rw (height-length m map_is, width-cols m map_is, cols) at (i.is ∙ ap (λ w. image w.rows (point_of m.width z)) map_is) in
      let E = R x.child q (length x.by.rows) (after-node x.child k q next x.below)
      (&&-right (eqb x.by.cols n) (fits x.child (heads_of bs) (length x.by.rows)) (parts x)) in
      evaluated-tree e q (point_of n z) memo last (dep x.by x.child) r x.is
      (evaluated-same (dep x.by x.child) q (point_of n z) memo last x.child (image x.by.rows (point_of n z)) r
      (imaged-is sheet x.by x.child (point_of n z))
      (subst (λ w. Evaluated bs x.child q w memo last r) point E))
    where
      parts : (x : DepAt e (vars_of bs) bs p q) → eqb x.by.cols n && fits x.child (heads_of bs) (length x.by.rows) ≡ true
      parts x = unfold fits in rw x.is at f
