-- A sheet that `check` accepts is `Accepted`: what each of its tests has shown; and what follows for each variable. Assumes nothing.
use mathlib.Core.Path.{◌≡◌, refl, sym, ap, ◌∙◌, subst}
use Prim.Native.Nat.{ℕ, zero, suc, ◌≤◌, ◌<◌}
use native.Mathlib.Omega.{arith}
use mathlib.Core.Bool.{Bool, true, false, not}
use mathlib.Core.List.{List, [], ◌∷◌, ◌++◌, map}
use lib.ListN.{length, get_or, length-map, get_or-map}
use borrow.Author.Tests.{not-true}
use Rattle.alpha.specs.Pick.{ifb}
use Rattle.alpha.specs.Answer.{Answer, accepted, refused, TYPE, REACH, GAP, CLASH}
use Rattle.alpha.specs.Sheet.{Kind, Kind.input, Kind.output, Kind.local, Head, Raw, Variable, Sheet, Point}
use Rattle.alpha.specs.Affine.{meets_all}
use Rattle.alpha.specs.Box.{in_box}
use Rattle.alpha.specs.Read.{Got, got, bad, read, no_head, dimension}
use Rattle.alpha.specs.Shape.{fits, bodies}
use Rattle.alpha.specs.Holds.{no_variable, variable, is_input_kind, is_input, in_domain, holds, clashes}
use Rattle.alpha.specs.Check.{Element, elements, total, first, typed, reached, tested, fault, faults, checked, after_read, check}
use Rattle.alpha.specs.Written.{node_count, depth}
use Rattle.alpha.specs.Ask.{number_of}
use Rattle.laws.specs.At.{At}
use Rattle.laws.specs.Heads.{HeadsAt, points_of}
use Rattle.laws.specs.Accepted.{TreeAt, BodyAt, BodiesAt, Accepted}
use Rattle.laws.proofs.Tests.{true-not-false, &&-left, &&-right}
use Rattle.laws.proofs.Elements.{length-elements, number-low, element-of-number}
use Rattle.laws.proofs.Heads.{HeadAt, head_at}
use Rattle.laws.proofs.Bodies.{SheetRead, read-says, Tells, next-tells, BodiesRead, bodies-tell}

-- ---- the tests of each variable

-- every variable of the sheet passes
abbrev pub AllPass : (Variable → Bool) → Sheet → Type 0
AllPass test s = (i : ℕ) → i < length s → test (variable s i) ≡ true

first-tells : (code : ℕ) (test : Variable → Bool) (v : ℕ) (s : Sheet) → Tells (λ _. AllPass test s) (first code test v s)
unfolding first
first-tells code test v [] = λ i lt. absurd (omega arith)
first-tells code test v (x ∷ s) = go (test x) refl (first code test (suc v) s) (first-tells code test (suc v) s)
  where
    more : test x ≡ true → AllPass test s → (i : ℕ) → i < suc (length s) → test (variable (x ∷ s) i) ≡ true
    more e h zero lt = e
    more e h (suc i) lt = h i (omega arith)

    go : (t : Bool) → test x ≡ t → (m : Answer (Unit {0})) → Tells (λ _. AllPass test s) m → Tells (λ _. AllPass test (x ∷ s)) (ifb t (λ _. m) (λ _. refused code v))
    go true e (accepted u) h = more e h
    go true e (refused n p) h = tt
    go false e m h = tt

-- where all pass, each does
pub each-passes : (code : ℕ) (test : Variable → Bool) (v : ℕ) (s : Sheet) → first code test v s ≡ accepted tt → AllPass test s
each-passes code test v s h = subst (Tells (λ _. AllPass test s)) h (first-tells code test v s)

pub first_passes : (code : ℕ) (test : Variable → Bool) (v : ℕ) (s : Sheet) → AllPass test s → first code test v s ≡ accepted tt
unfolding first
first_passes code test v [] h = refl
first_passes code test v (x ∷ s) h = rw (h 0 (omega arith)) (first_passes code test (suc v) s (λ i lt. h (suc i) (omega arith)))

-- ---- the tests of each element

-- where the element is tested, its variable's body holds and no case clashes
pub record Faultless (s : Sheet) (e : Element) : Type 0 where
  pub covered : tested s e ≡ true → holds (variable s e.who).body s e.at ≡ true
  pub clear : tested s e ≡ true → clashes (variable s e.who).body s e.at ≡ false

-- an element is tested in the declared domain of a variable that has a body
pub tested-body : (s : Sheet) (e : Element) → tested s e ≡ true → is_input (variable s e.who) ≡ false
tested-body s e t =
    let x = variable s e.who in
    not-true (is_input x) (&&-left (not (is_input x)) (in_domain x e.at) t)

pub tested-inside : (s : Sheet) (e : Element) → tested s e ≡ true → in_domain (variable s e.who) e.at ≡ true
tested-inside s e t = let x = variable s e.who in &&-right (not (is_input x)) (in_domain x e.at) t

fault-tells : (s : Sheet) (n : ℕ) (e : Element) → Tells (λ _. Faultless s e) (fault s n e)
fault-tells s n e = go (tested s e) (holds (variable s e.who).body s e.at) (clashes (variable s e.who).body s e.at) refl refl refl
  where
    go : (t h c : Bool) → tested s e ≡ t → holds (variable s e.who).body s e.at ≡ h → clashes (variable s e.who).body s e.at ≡ c →
        Tells (λ _. Faultless s e) (ifb t (λ _. ifb h (λ _. ifb c (λ _. refused CLASH n) (λ _. accepted (tt {0}))) (λ _. refused GAP n)) (λ _. accepted (tt {0})))
    go true true true x y z = tt
    go true true false x y z = record { covered = λ _. y; clear = λ _. z }
    go true false c x y z = tt
    go false h c x y z = record { covered = λ k. true-not-false k x; clear = λ k. true-not-false k x }

abbrev pub AllFaultless : Sheet → List Element → Type 0
AllFaultless s es = (i : ℕ) → i < length es → (d : Element) → Faultless s (get_or es i d)

faults-tell : (s : Sheet) (n : ℕ) (es : List Element) → Tells (λ _. AllFaultless s es) (faults s n es)
unfolding faults
faults-tell s n [] = λ i lt d. absurd (omega arith)
faults-tell s n (e ∷ es) =
    next-tells (λ _. Faultless s e) (λ _. AllFaultless s (e ∷ es)) (fault s n e) (λ _. faults s (suc n) es) (fault-tells s n e) (λ _ f.
    go f (faults s (suc n) es) (faults-tell s (suc n) es))
  where
    more : Faultless s e → AllFaultless s es → (i : ℕ) → i < suc (length es) → (d : Element) → Faultless s (get_or (e ∷ es) i d)
    more f h zero lt d = f
    more f h (suc i) lt d = h i (omega arith) d

    go : Faultless s e → (m : Answer (Unit {0})) → Tells (λ _. AllFaultless s es) m → Tells (λ _. AllFaultless s (e ∷ es)) m
    go f (accepted u) h = more f h
    go f (refused n p) h = tt

fault-passes : (s : Sheet) (n : ℕ) (e : Element) → Faultless s e → fault s n e ≡ accepted tt
fault-passes s n e h = go (tested s e) refl
  where
    go : (t : Bool) → tested s e ≡ t →
        ifb t (λ _.
        ifb (holds (variable s e.who).body s e.at) (λ _.
        ifb (clashes (variable s e.who).body s e.at) (λ _. refused CLASH n) (λ _. accepted (tt {0}))) (λ _. refused GAP n)) (λ _. accepted (tt {0}))
        ≡ accepted tt
    go true k = rw (h.covered k, h.clear k)
    go false k = refl

pub faults-pass : (s : Sheet) (n : ℕ) (es : List Element) → AllFaultless s es → faults s n es ≡ accepted tt
unfolding faults
faults-pass s n [] h = refl
faults-pass s n (e ∷ es) h = rw (fault-passes s n e (h 0 (omega arith) e)) (faults-pass s (suc n) es (λ i lt d. h (suc i) (omega arith) d))

-- ---- the whole check

module _ (bs : List ℕ) (r : Raw) where
  accepted-from : SheetRead bs r → (s : Sheet) → BodiesRead r bs r.heads 0 r.first r.nodes s →
      AllPass (typed r.heads) s → AllPass reached s → AllFaultless s (elements s) → Accepted bs r s
  accepted-from sh s b t c f = record {
    short = sh.short;
    parts = sh.parts;
    heads_are = b.heads_are;
    stand = b.stand;
    types = t;
    reaches = c;
    covered = λ v z lt i d. (at-element v z lt d).covered (is-tested v z i d);
    clear = λ v z lt i d. (at-element v z lt d).clear (is-tested v z i d);
  }
    where
      in-box : (v : ℕ) (z : Point) → in_domain (variable s v) z ≡ true → in_box (variable s v).head.box z ≡ true
      in-box v z d = &&-left (in_box (variable s v).head.box z) (meets_all (variable s v).declared z) d

      at-element : (v : ℕ) (z : Point) → v < length s → in_domain (variable s v) z ≡ true → Faultless s (record { who = v; at = z })
      at-element v z lt d =
          let e : Element = record { who = v; at = z } in
          subst (Faultless s) (element-of-number s v z e lt (in-box v z d))
          (f (number_of s v z) (omega (arith, length-elements s, number-low s v z lt (in-box v z d))) e)

      is-tested : (v : ℕ) (z : Point) → is_input (variable s v) ≡ false → in_domain (variable s v) z ≡ true → tested s (record { who = v; at = z }) ≡ true
      is-tested v z i d = rw (i, d)

  checked-tells : SheetRead bs r → Tells (Accepted bs r) (checked bs r)
  unfolding checked
  checked-tells sh =
      next-tells (BodiesRead r bs r.heads 0 r.first r.nodes) (Accepted bs r) (bodies r bs r.heads 0 r.first r.nodes) _
      (bodies-tell r bs r.heads 0 r.first r.nodes) (λ s b.
      next-tells (λ _. AllPass (typed r.heads) s) (Accepted bs r) (first TYPE (typed r.heads) 0 s) _ (first-tells TYPE (typed r.heads) 0 s) (λ _ t.
      next-tells (λ _. AllPass reached s) (Accepted bs r) (first REACH reached 0 s) _ (first-tells REACH reached 0 s) (λ _ c.
      next-tells (λ _. AllFaultless s (elements s)) (Accepted bs r) (faults s 0 (elements s)) _ (faults-tell s 0 (elements s)) (λ _ f.
      accepted-from sh s b t c f))))

-- an accepted sheet, with what was read of it
pub record Found (bs : List ℕ) (s : Sheet) : Type 0 where
  pub raw : Raw
  pub end : ℕ
  pub read_is : read bs ≡ got raw end
  pub holds-all : Accepted bs raw s

found : (bs : List ℕ) (s : Sheet) (g : Got Raw) → read bs ≡ g → after_read bs g ≡ accepted s → Found bs s
unfolding after_read
found bs s (got r q) e f = record { raw = r; end = q; read_is = e; holds-all = subst (Tells (Accepted bs r)) f (checked-tells bs r (read-says e)) }
found bs s (bad n q) e f = let z : ◌≡◌ {A = ℕ} 0 1 = cc in absurd (omega arith)

pub check_accepts : {bs : List ℕ} {s : Sheet} → check bs ≡ accepted s → Found bs s
unfolding check
check_accepts {bs} {s} e = found bs s (read bs) refl e

-- ---- what follows for each variable

-- whatever holds of each record that is read holds of each of the list
pub heads_at-each : (P : Head → Type 0) (bs : List ℕ) → ((earlier : List Head) (p : ℕ) (h : Head) → HeadAt earlier bs p h → P h) →
    (hs earlier : List Head) (p q : ℕ) → HeadsAt hs earlier bs p q → (i : ℕ) → i < length hs → (d : Head) → P (get_or hs i d)
unfolding HeadsAt
heads_at-each P bs f [] earlier p q h i lt d = absurd (omega arith)
heads_at-each P bs f (x ∷ hs) earlier p q h zero lt d = f earlier p x (head_at earlier bs p x h.next h.here)
heads_at-each P bs f (x ∷ hs) earlier p q h (suc i) lt d = heads_at-each P bs f hs (earlier ++ (x ∷ [])) h.next q h.after i (omega arith) d

-- the tree of variable v's body
pub record BodyOf (bs : List ℕ) (r : Raw) (s : Sheet) (v : ℕ) : Type 0 where
  pub at : At (variable s v).body (length s) bs (variable s v).start (variable s v).end
  pub few_nodes : node_count (variable s v).body ≤ r.nodes
  pub deep : depth (variable s v).body ≤ 32
  pub fitting : fits (variable s v).body r.heads (length (variable s v).head.box) ≡ true

-- the body of x is a tree where it starts, of at most m nodes
record HasTree (r : Raw) (bs : List ℕ) (x : Variable) (m : ℕ) : Type 0 where
  nodes : ℕ
  left : ℕ
  fewer : nodes ≤ m
  stands : TreeAt r bs x x.start nodes left

module _ (r : Raw) (bs : List ℕ) where
  pub left-fewer : (k : Kind) (x : Variable) (p m n : ℕ) → BodyAt k r bs x p m n → n ≤ m
  left-fewer input x p m n h = omega (arith, h.left_is)
  left-fewer output x p m n h = omega (arith, h.count)
  left-fewer local x p m n h = omega (arith, h.count)

  pub not-input : (k : Kind) (x : Variable) (p m n : ℕ) → is_input_kind k ≡ false → BodyAt k r bs x p m n → TreeAt r bs x p m n
  not-input input x p m n i h = true-not-false {b = true} refl i
  not-input output x p m n i h = h
  not-input local x p m n i h = h

  bodies_at-tree : (s : Sheet) (w p m : ℕ) → BodiesAt s r bs w p m → (v : ℕ) → v < length s → is_input (variable s v) ≡ false → HasTree r bs (variable s v) m
  unfolding BodiesAt
  bodies_at-tree [] w p m h v lt i = absurd (omega arith)
  bodies_at-tree (x ∷ s) w p m h zero lt i =
      let t = not-input x.head.kind x p m h.left i h.body-at in
      record { nodes = m; left = h.left; fewer = omega arith; stands = subst (λ q. TreeAt r bs x q m h.left) (sym h.start_is) t }
  bodies_at-tree (x ∷ s) w p m h (suc v) lt i =
      let t = bodies_at-tree s (suc w) x.end h.left h.after v (omega arith) i in
      record { nodes = t.nodes; left = t.left; fewer = omega (arith, t.fewer, left-fewer x.head.kind x p m h.left h.body-at); stands = t.stands }

points_of-total : (s : Sheet) → points_of (map (λ x. x.head) s) ≡ total s
points_of-total [] = refl
points_of-total (x ∷ s) = rw (points_of-total s)

module _ {bs : List ℕ} {r : Raw} {s : Sheet} (a : Accepted bs r s) where
  pub accepted-length : length s ≡ length r.heads
  accepted-length = sym (length-map s (λ x. x.head)) ∙ ap length a.heads_are

  pub accepted-total : total s ≤ 4096
  accepted-total = rw (← points_of-total s, a.heads_are) a.parts.small

  pub accepted-head : (v : ℕ) → (variable s v).head ≡ get_or r.heads v no_head
  accepted-head v = sym (get_or-map (λ x. x.head) s v no_variable) ∙ ap (λ l. get_or l v no_head) a.heads_are

  pub accepted-dimension : (v : ℕ) → length (variable s v).head.box ≡ dimension r.heads v
  accepted-dimension v = ap (λ h. length h.box) (accepted-head v)

  module _ (v : ℕ) (lt : v < length s) where
    in-heads : v < length r.heads
    in-heads = omega (arith, accepted-length)

    pub accepted-few : length (variable s v).head.box ≤ 4
    accepted-few =
        rw (accepted-head v)
        (heads_at-each (λ h. length h.box ≤ 4) bs (λ e p h k. k.dim.high) r.heads [] 8 r.second a.parts.heads_stand v in-heads no_head)

    pub accepted-body : is_input (variable s v) ≡ false → BodyOf bs r s v
    accepted-body i =
        let t = bodies_at-tree r bs s 0 r.first r.nodes a.stand v lt i in
        let k = t.stands in
        record { at = rw accepted-length k.at; few_nodes = omega (arith, t.fewer, k.count); deep = k.deep; fitting = k.fitting }
