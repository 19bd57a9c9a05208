-- What is read of a sheet as a whole: its sections, and the bodies of its variables one after another. Assumes nothing.
use mathlib.Core.Path.{◌≡◌, refl, sym, ap, ◌∙◌, subst}
use Prim.Native.Nat.{ℕ, zero, suc, ◌+◌, ◌≤◌}
use native.Mathlib.Nat.{zero-add}
use native.Mathlib.Omega.{arith}
use mathlib.Core.Bool.{Bool, true, false}
use mathlib.Core.List.{List, [], ◌∷◌, map}
use lib.ListN.{length}
use lib.Dec.{leb, eqb}
use borrow.Author.Tests.{leb-true, eqb-true}
use Rattle.alpha.specs.Pick.{ifb}
use Rattle.alpha.specs.Answer.{Answer, accepted, refused, next, LONG, TAIL, SHAPE}
use Rattle.alpha.specs.Sheet.{Kind, Kind.input, Kind.output, Kind.local, Head, Raw, Expr, Variable, Sheet}
use Rattle.alpha.specs.Read.{Got, got, bad, after, repeat, count, heads, declared, node, ended, sections, read}
use Rattle.alpha.specs.Shape.{Parsed, tree, ill, expr_at, fits, of_variable, Bodied, shaped, body_of, bodies}
use Rattle.laws.specs.Heads.{points_of}
use Rattle.laws.specs.Accepted.{Sections, TreeAt, BodyAt, BodiesAt}
use Rattle.laws.proofs.Readers.{Upto, given, Counted, count_gives}
use Rattle.laws.proofs.Trees.{expr_at-read}
use Rattle.laws.proofs.Heads.{heads-read, repeat-row}

-- ---- the sections

-- P holds of the value, where there is one
abbrev Says : {A : Type 0} → (A → Type 0) → Got A → Type 0
Says P (got a q) = P a
Says P (bad n q) = Unit {0}

after-says : {A B : Type 0} (P : B → Type 0) (m : Got A) (k : A → ℕ → Got B) → ((a : A) (q : ℕ) → m ≡ got a q → Says P (k a q)) → Says P (after m k)
after-says P (got a q) k h = h a q refl
after-says P (bad n q) k h = tt

module _ (bs : List ℕ) where
  ended-says : (r : Raw) (q : ℕ) → (q ≡ length bs → Sections bs r) → Says (Sections bs) (ended r bs q)
  unfolding ended
  ended-says r q h = go (eqb q (length bs)) refl
    where
      go : (t : Bool) → eqb q (length bs) ≡ t → Says (Sections bs) (ifb t (λ _. got r q) (λ _. bad TAIL q))
      go true e = h (eqb-true q (length bs) e)
      go false e = tt

  counted-at : {lo hi p n q : ℕ} → count lo hi bs p ≡ got n q → Upto (Counted lo hi bs p) (p + 8) n q
  counted-at {lo} {hi} {p} e = given (Counted lo hi bs p) (p + 8) (count_gives lo hi bs p) e

  sections-say : Says (Sections bs) (sections bs 0)
  unfolding sections
  sections-say =
      after-says (Sections bs) (count 1 32 bs 0) _ (λ v q₁ e₁.
      after-says (Sections bs) (heads v [] 0 bs q₁) _ (λ hs q₂ e₂.
      after-says (Sections bs) (count 0 256 bs q₂) _ (λ c q₃ e₃.
      after-says (Sections bs) (repeat c (declared hs) bs q₃) _ (λ ds q₄ e₄.
      after-says (Sections bs) (count 0 2048 bs q₄) _ (λ n q₅ e₅.
      after-says (Sections bs) (repeat n (node (length hs)) bs q₅) _ (λ ns q₆ e₆.
      ended-says (record { heads = hs; decls = ds; second = q₂; third = q₄; first = q₅; nodes = n }) q₆ (λ end.
      let a = counted-at e₁ in
      let h = heads-read e₂ in
      let b = counted-at e₃ in
      let d = repeat-row (declared hs) c bs q₃ e₄ in
      let m = counted-at e₅ in
      let l = repeat-row (node (length hs)) n bs q₅ e₆ in
      let new : h.new ≡ hs = sym h.is in
      let long : length hs ≡ v = ap length h.is ∙ h.many in
      record {
        heads_count = rw long a.what.field_is;
        some = omega (arith, a.what.low);
        few = omega (arith, a.what.high);
        heads_stand = rw (new, a.next) at h.stand;
        small = rw (new, zero-add (points_of hs)) at (h.small (omega arith));
        declared_count = rw d.many b.what.field_is;
        few_declared = omega (arith, d.many, b.what.high);
        declared_stand = rw b.next at d.row;
        node-count = m.what.field_is;
        few_nodes = m.what.high;
        first_is = m.next;
        first_there = omega (arith, m.next, m.what.there);
        listed = ns;
        listed_count = l.many;
        nodes_stand = rw end at l.row;
      })))))))

-- the sheet was short enough, and had its sections
pub record SheetRead (bs : List ℕ) (r : Raw) : Type 0 where
  pub short : length bs ≤ 65536
  pub parts : Sections bs r

pub read-says : {bs : List ℕ} {r : Raw} {q : ℕ} → read bs ≡ got r q → SheetRead bs r
read-says {bs} e = subst (Says (SheetRead bs)) e (all bs)
  where
    go : (bs : List ℕ) (t : Bool) → leb (length bs) 65536 ≡ t → (g : Got Raw) → Says (Sections bs) g → Says (SheetRead bs) (ifb t (λ _. g) (λ _. bad LONG 0))
    go bs true e (got r q) h = record { short = leb-true (length bs) 65536 e; parts = h }
    go bs true e (bad n q) h = tt
    go bs false e g h = tt

    all : (bs : List ℕ) → Says (SheetRead bs) (read bs)
    all bs = unfold read in go bs (leb (length bs) 65536) refl (sections bs 0) (sections-say bs)

-- ---- the bodies

-- P holds of the answer, if it is not a refusal
abbrev pub Tells : {A : Type 0} → (A → Type 0) → Answer A → Type 0
Tells P (accepted a) = P a
Tells P (refused n p) = Unit {0}

pub next-tells : {A B : Type 0} (P : A → Type 0) (Q : B → Type 0) (m : Answer A) (k : A → Answer B) → Tells P m → ((a : A) → P a → Tells Q (k a)) → Tells Q (next m k)
next-tells P Q (accepted a) k h g = g a h
next-tells P Q (refused n p) k h g = tt

module _ (r : Raw) (bs : List ℕ) where
  -- the variable that a record and its body make
  abbrev made : Head → ℕ → ℕ → Bodied → Variable
  made h v p b = record { head = h; declared = of_variable v r.decls; body = b.expr; start = p; end = b.next }

  module _ (h : Head) (v p m : ℕ) where
    tree-tells : (t : Parsed Expr) → expr_at 32 (length r.heads) bs p m ≡ t → Tells (λ b. TreeAt r bs (made h v p b) p m b.left) (shaped v h r.heads t)
    unfolding shaped
    tree-tells ill e = tt
    tree-tells (tree x q n) e = go (fits x r.heads (length h.box)) refl
      where
        go : (t : Bool) → fits x r.heads (length h.box) ≡ t →
            Tells (λ b. TreeAt r bs (made h v p b) p m b.left) (ifb t (λ _. accepted (record { expr = x; next = q; left = n })) (λ _. refused SHAPE v))
        go true f = let g = expr_at-read e in record { at = g.at; count = g.count; deep = g.deep; fitting = f }
        go false f = tt

    body-tells : (k : Kind) → Tells (λ b. BodyAt k r bs (made h v p b) p m b.left) (body_of k v h r.heads bs p m)
    body-tells input = record { is = refl; end_is = refl; left_is = refl }
    body-tells output = tree-tells (expr_at 32 (length r.heads) bs p m) refl
    body-tells local = tree-tells (expr_at 32 (length r.heads) bs p m) refl

  -- the variables of s have the records hs, and their bodies stand from p on
  pub record BodiesRead (hs : List Head) (v p m : ℕ) (s : Sheet) : Type 0 where
    pub heads_are : map (λ x. x.head) s ≡ hs
    pub stand : BodiesAt s r bs v p m

  pub bodies-tell : (hs : List Head) (v p m : ℕ) → Tells (BodiesRead hs v p m) (bodies r bs hs v p m)
  unfolding bodies BodiesAt
  bodies-tell [] v p zero = record { heads_are = refl; stand = refl }
  bodies-tell [] v p (suc m) = tt
  bodies-tell (h ∷ hs) v p m =
      next-tells (λ b. BodyAt h.kind r bs (made h v p b) p m b.left) (BodiesRead (h ∷ hs) v p m) (body_of h.kind v h r.heads bs p m) _ (body-tells h v p m h.kind) (λ b a.
      next-tells (BodiesRead hs (suc v) b.next b.left) (BodiesRead (h ∷ hs) v p m) (bodies r bs hs (suc v) b.next b.left) _ (bodies-tell hs (suc v) b.next b.left) (λ s t.
      record {
        heads_are = ap (λ l. h ∷ l) t.heads_are;
        stand = record { declared_is = refl; start_is = refl; left = b.left; body-at = a; after = t.stand };
      }))

  pub bodies-read : {hs : List Head} {v p m : ℕ} {s : Sheet} → bodies r bs hs v p m ≡ accepted s → BodiesRead hs v p m s
  bodies-read {hs} {v} {p} {m} e = subst (Tells (BodiesRead hs v p m)) e (bodies-tell hs v p m)
