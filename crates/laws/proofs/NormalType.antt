-- A normal form has the type that its expression has. Assumes nothing.
use mathlib.Core.Path.{◌≡◌, refl, sym, ap, ◌∙◌, subst}
use Prim.Native.Nat.{ℕ, ◌≤◌}
use native.Mathlib.Omega.{arith}
use mathlib.Core.List.{List, [], ◌∷◌, ◌++◌, map}
use lib.ListN.{length}
use mathlib.Core.Option.{Option, Option.none, some}
use Rattle.alpha.specs.Sheet.{Sort, Sort.integer, Sort.boolean, Unary, Binary, Map, Head, Expr, Exprs}
use Rattle.alpha.specs.Sheet.{Expr.var, Expr.int, Expr.boo, Expr.un, Expr.bin, Expr.ite, Expr.kase, Expr.restr, Expr.dep, Exprs.none, Exprs.more}
use Rattle.alpha.specs.Sheet.{Unary.negate, Unary.complement, Binary.plus, Binary.minus, Binary.times, Binary.quot, Binary.rem, Binary.least, Binary.most, Binary.same, Binary.differ, Binary.under, Binary.up_to, Binary.over, Binary.from, Binary.both, Binary.either, Binary.one}
use Rattle.alpha.specs.Typing.{agree, giving, integers, unary_sort, binary_sort, if_sort, type_of, types_of, agreeing}
use Rattle.alpha.specs.Normal.{Branch, push, push_branch, restrict, under1, pairs, triples, norm, norms, as_exprs, body_case}
use Rattle.laws.proofs.Branches.{AllBranches, all_same, Rules, norm-all}

-- ---- types that are there

-- there is a type
abbrev Typed : Option Sort → Type 0
Typed (some t) = Unit {0}
Typed Option.none = ⊥

-- two that agree are one, and each is there
record Same (a b : Option Sort) : Type 0 where
  left : Typed a
  right : Typed b
  is : a ≡ b

agree_same : (a b : Option Sort) → Typed (agree a b) → Same a b
agree_same (some integer) (some integer) h = record { left = tt; right = tt; is = refl }
agree_same (some integer) (some boolean) h = absurd h
agree_same (some integer) Option.none h = absurd h
agree_same (some boolean) (some integer) h = absurd h
agree_same (some boolean) (some boolean) h = record { left = tt; right = tt; is = refl }
agree_same (some boolean) Option.none h = absurd h
agree_same Option.none b h = absurd h

agree_refl : (a : Option Sort) → agree a a ≡ a
agree_refl (some integer) = refl
agree_refl (some boolean) = refl
agree_refl Option.none = refl

unary-typed : (o : Unary) (a : Option Sort) → Typed (unary_sort o a) → Typed a
unary-typed negate a h = (agree_same (some integer) a h).right
unary-typed complement a h = (agree_same (some boolean) a h).right

giving-typed : (a : Option Sort) (t : Sort) → Typed (giving a t) → Typed a
giving-typed (some s) t h = tt
giving-typed Option.none t h = h

binary-typed : (o : Binary) (a : Option Sort) → Typed (binary_sort o a) → Typed a
binary-typed plus a h = (agree_same (some integer) a h).right
binary-typed minus a h = (agree_same (some integer) a h).right
binary-typed times a h = (agree_same (some integer) a h).right
binary-typed quot a h = (agree_same (some integer) a h).right
binary-typed rem a h = (agree_same (some integer) a h).right
binary-typed least a h = (agree_same (some integer) a h).right
binary-typed most a h = (agree_same (some integer) a h).right
binary-typed same a h = giving-typed a boolean h
binary-typed differ a h = giving-typed a boolean h
binary-typed under a h = (agree_same (some integer) a (giving-typed (integers a) boolean h)).right
binary-typed up_to a h = (agree_same (some integer) a (giving-typed (integers a) boolean h)).right
binary-typed over a h = (agree_same (some integer) a (giving-typed (integers a) boolean h)).right
binary-typed from a h = (agree_same (some integer) a (giving-typed (integers a) boolean h)).right
binary-typed both a h = (agree_same (some boolean) a h).right
binary-typed either a h = (agree_same (some boolean) a h).right
binary-typed one a h = (agree_same (some boolean) a h).right

if-typed : (a t : Option Sort) → Typed (if_sort a t) → Typed a × Typed t
if-typed (some boolean) t h = (tt, h)
if-typed (some integer) t h = absurd h
if-typed Option.none t h = absurd h

-- ---- lists that have a branch

abbrev Some : List Branch → Type 0
Some [] = ⊥
Some (b ∷ bs) = Unit {0}

some-map : (F : Branch → Branch) (bs : List Branch) → Some bs → Some (map F bs)
some-map F [] h = h
some-map F (b ∷ bs) h = tt

some-append : (xs ys : List Branch) → Some xs → Some (xs ++ ys)
some-append [] ys h = absurd h
some-append (x ∷ xs) ys h = tt

some_pairs : (k : Expr → Expr → Expr) (xs ys : List Branch) → Some xs → Some ys → Some (pairs k xs ys)
some_pairs k [] ys h g = h
some_pairs k (x ∷ xs) [] h g = absurd g
some_pairs k (x ∷ xs) (y ∷ ys) h g = tt

some-triples : (k : Expr → Expr → Expr → Expr) (xs ys zs : List Branch) → Some xs → Some ys → Some zs → Some (triples k xs ys zs)
some-triples k [] ys zs h g f = h
some-triples k (x ∷ xs) ys zs h g f =
    some-append (map (restrict x.given) (pairs (k x.term) ys zs)) (triples k xs ys zs)
    (some-map (restrict x.given) (pairs (k x.term) ys zs) (some_pairs (k x.term) ys zs g f))

-- ---- expressions

module _ (hs : List Head) where
  push-type : (e : Expr) (f : Map) → type_of (push e f) hs ≡ type_of e hs
  unfolding type_of push
  push-type (var v) f = refl
  push-type (int c) f = refl
  push-type (boo b) f = refl
  push-type (un o a) f = rw (push-type a f)
  push-type (bin o a b) f = rw (push-type a f, push-type b f)
  push-type (ite a b c) f = rw (push-type a f, push-type b f, push-type c f)
  push-type (kase es) f = refl
  push-type (restr d cs a) f = refl
  push-type (dep g a) f = refl

  -- every branch of a case has the type t
  abbrev AllAre : Exprs → Option Sort → Type 0
  AllAre none t = Unit {0}
  AllAre (more e es) t = (type_of e hs ≡ t) × AllAre es t

  -- where branches agree with t, that is the type of all
  record Agreed (es : Exprs) (t : Option Sort) : Type 0 where
    given : Typed t
    is : agreeing es hs t ≡ t
    all : AllAre es t

  agreeing-all : (es : Exprs) (t : Option Sort) → Typed (agreeing es hs t) → Agreed es t
  unfolding type_of
  agreeing-all none t h = record { given = h; is = refl; all = tt }
  agreeing-all (more e es) t h =
      let k = agreeing-all es (agree t (type_of e hs)) h in
      let s = agree_same t (type_of e hs) k.given in
      let same : agree t (type_of e hs) ≡ t = ap (agree t) (sym s.is) ∙ agree_refl t in
      record { given = s.left; is = k.is ∙ same; all = (sym s.is, subst (AllAre es) same k.all) }

  -- a branch has the expression's type, where it has one
  abbrev TypedToo : Expr → Branch → Type 0
  TypedToo e b = Typed (type_of e hs) → type_of b.term hs ≡ type_of e hs

  abbrev AllTypedToo : Exprs → Branch → Type 0
  AllTypedToo es b = (t : Option Sort) → Typed t → AllAre es t → type_of b.term hs ≡ t

  kase-typed : (es : Exprs) (b : Branch) → AllTypedToo es b → TypedToo (kase es) b
  unfolding type_of
  kase-typed none b q h = absurd h
  kase-typed (more e es) b q h =
      let k = agreeing-all es (type_of e hs) h in
      q (type_of e hs) k.given (refl, k.all) ∙ sym k.is

  type-rules : (dims : ℕ → ℕ) → Rules dims TypedToo AllTypedToo
  unfolding type_of
  type-rules dims = record {
    of-var = λ v h. refl;
    of-int = λ c h. refl;
    of-boo = λ b h. refl;
    of-un = λ o e a q h. ap (unary_sort o) (q (unary-typed o (type_of e hs) h));
    of-bin = λ o e f a b q p h.
        let s = agree_same (type_of e hs) (type_of f hs) (binary-typed o (agree (type_of e hs) (type_of f hs)) h) in
        rw (q s.left, p s.right);
    of-ite = λ e f g a b c q p o h.
        let t = if-typed (type_of e hs) (agree (type_of f hs) (type_of g hs)) h in
        let s = agree_same (type_of f hs) (type_of g hs) t.1 in
        rw (q t.0, p s.left, o s.right);
    of-kase = λ es a q. kase-typed es a q;
    of-restr = λ d cs e a q. q;
    of-dep = λ f e a q h. push-type a.term f ∙ q h;
    of-first = λ e es a q t h k. q (subst Typed (sym k.0) h) ∙ k.0;
    of-rest = λ e es a q t h k. q t h k.1;
  }

  branches-type : (n : ℕ) (bs : List Branch) (t : Option Sort) → AllBranches (λ b. type_of b.term hs ≡ t) bs → agreeing (as_exprs n bs) hs t ≡ t
  unfolding type_of
  branches-type n [] t h = refl
  branches-type n (b ∷ bs) t h = ap (agreeing (as_exprs n bs) hs) (ap (agree t) h.0 ∙ agree_refl t) ∙ branches-type n bs t h.1

  -- ---- an expression with a type has a branch

  mutual
    unfolding norm type_of

    some-norm : (e : Expr) (dims : ℕ → ℕ) → Typed (type_of e hs) → Some (norm e dims)
    some-norm (var v) dims h = tt
    some-norm (int c) dims h = tt
    some-norm (boo b) dims h = tt
    some-norm (un o a) dims h = some-map (under1 (un o)) (norm a dims) (some-norm a dims (unary-typed o (type_of a hs) h))
    some-norm (bin o a b) dims h =
        let s = agree_same (type_of a hs) (type_of b hs) (binary-typed o (agree (type_of a hs) (type_of b hs)) h) in
        some_pairs (bin o) (norm a dims) (norm b dims) (some-norm a dims s.left) (some-norm b dims s.right)
    some-norm (ite a b c) dims h =
        let t = if-typed (type_of a hs) (agree (type_of b hs) (type_of c hs)) h in
        let s = agree_same (type_of b hs) (type_of c hs) t.1 in
        some-triples ite (norm a dims) (norm b dims) (norm c dims) (some-norm a dims t.0) (some-norm b dims s.left) (some-norm c dims s.right)
    some-norm (kase es) dims h = some-norms es dims h
    some-norm (restr d cs a) dims h = some-map (restrict cs) (norm a dims) (some-norm a dims h)
    some-norm (dep f a) dims h = some-map (push_branch f) (norm a dims) (some-norm a dims h)

    some-norms : (es : Exprs) (dims : ℕ → ℕ) → Typed (types_of es hs) → Some (norms es dims)
    some-norms none dims h = h
    some-norms (more e es) dims h = some-append (norm e dims) (norms es dims) (some-norm e dims (agreeing-all es (type_of e hs) h).given)

  body-type : (n : ℕ) (bs : List Branch) (t : Option Sort) → Some bs → AllBranches (λ b. type_of b.term hs ≡ t) bs → type_of (body_case n bs) hs ≡ t
  unfolding type_of
  body-type n [] t s h = absurd s
  body-type n (b ∷ bs) t s h = ap (agreeing (as_exprs n bs) hs) h.0 ∙ branches-type n bs t h.1

  pub normal-type : (n : ℕ) (e : Expr) (dims : ℕ → ℕ) (t : Sort) → type_of e hs ≡ some t → type_of (body_case n (norm e dims)) hs ≡ some t
  normal-type n e dims t h =
      let k : Typed (type_of e hs) = rw h tt in
      body-type n (norm e dims) (some t) (some-norm e dims k)
      (all_same (TypedToo e) (λ b. type_of b.term hs ≡ some t) (λ b q. q k ∙ h) (norm e dims) (norm-all dims TypedToo AllTypedToo (type-rules dims) e))

  pub norm-some : (e : Expr) (dims : ℕ → ℕ) (t : Sort) → type_of e hs ≡ some t → 1 ≤ length (norm e dims)
  norm-some e dims t h = go (norm e dims) (some-norm e dims (rw h tt))
    where
      go : (bs : List Branch) → Some bs → 1 ≤ length bs
      go [] s = absurd s
      go (b ∷ bs) s = omega arith
