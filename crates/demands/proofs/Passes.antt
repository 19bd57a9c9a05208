-- A sheet is accepted exactly when its sections and bodies stand in its bytes and it passes the tests of type, reach, GAP and CLASH: what the
-- crate laws proves of an accepted sheet is also enough. Assumes nothing.
use mathlib.Core.Path.{◌≡◌, refl, sym, ap, ◌∙◌, subst}
use mathlib.Core.Logic.{◌↔◌}
use Prim.Native.Nat.{ℕ, suc, ◌+◌, ◌≤◌, ◌<◌}
use native.Mathlib.Omega.{arith}
use mathlib.Core.List.{List, [], ◌∷◌, map}
use lib.ListN.{length, get_or}
use borrow.Author.Tests.{le-leb, eq-eqb}
use Rattle.alpha.specs.Answer.{Answer, accepted, TYPE, REACH}
use Rattle.alpha.specs.Sheet.{Kind, Kind.input, Kind.output, Kind.local, Raw, Variable, Sheet}
use Rattle.alpha.specs.Read.{Got, got, repeat, heads, declared, node, ended, sections, read}
use Rattle.alpha.specs.Shape.{expr_at, Bodied, shaped, body_of, bodies}
use Rattle.alpha.specs.Check.{Element, elements, typed, reached, checked, after_read, check}
use Rattle.laws.specs.Accepted.{Sections, TreeAt, BodyAt, BodiesAt, Accepted}
use Rattle.laws.proofs.Elements.{length-elements, number-of-element}
use Rattle.laws.proofs.Trees.{at-expr_at}
use Rattle.laws.proofs.Local.{local-heads, local-repeat, local-declared}
use Rattle.laws.proofs.Prefix.{row-repeat}
use Rattle.laws.proofs.SectionsAgain.{heads_at-got, count-known}
use Rattle.laws.proofs.Checked.{Faultless, tested-body, tested-inside, first_passes, faults-pass, check_accepts}

-- ---- the sections

module _ {bs : List ℕ} {r : Raw} (s : Sections bs r) where
  heads-got : heads (length r.heads) [] 0 bs 8 ≡ got r.heads r.second
  heads-got = heads_at-got r.heads [] 0 bs 8 r.second s.heads_stand (omega (arith, s.small))

  declared-got : repeat (length r.decls) (declared r.heads) bs (r.second + 8) ≡ got r.decls r.third
  declared-got = row-repeat (declared r.heads) bs r.decls (r.second + 8) r.third s.declared_stand

  nodes-got : repeat r.nodes (node (length r.heads)) bs (r.third + 8) ≡ got s.listed (length bs)
  nodes-got =
      rw (← s.first_is)
      (subst (λ n. repeat n (node (length r.heads)) bs r.first ≡ got s.listed (length bs)) s.listed_count
      (row-repeat (node (length r.heads)) bs s.listed r.first (length bs) s.nodes_stand))

  sections-back : sections bs 0 ≡ got r (length bs)
  unfolding sections ended
  sections-back =
      let on₁ = (local-heads bs bs (length r.heads) [] 0 8 r.heads r.second heads-got).onward in
      let on₂ = (local-repeat bs bs (length r.decls) (declared r.heads) (local-declared bs bs r.heads) (r.second + 8) r.decls r.third declared-got).onward in
      let there : r.third + 8 ≤ length bs = omega (arith, s.first_is, s.first_there) in
      let e₁ = count-known 1 32 (length r.heads) bs 0 (omega arith) s.heads_count s.some s.few in
      let e₂ = count-known 0 256 (length r.decls) bs r.second (omega arith) s.declared_count (omega arith) s.few_declared in
      let e₃ = count-known 0 2048 r.nodes bs r.third there s.node-count (omega arith) s.few_nodes in
      rw (e₁, heads-got, e₂, declared-got, e₃, nodes-got, eq-eqb (length bs) (length bs) refl)
      (ap {B = Got Raw} (λ p. got (record { heads = r.heads; decls = r.decls; second = r.second; third = r.third; first = p; nodes = r.nodes }) (length bs))
      (sym s.first_is))

  read_back : length bs ≤ 65536 → read bs ≡ got r (length bs)
  unfolding read
  read_back l = rw (le-leb (length bs) 65536 l) sections-back

-- ---- the bodies

module _ (r : Raw) (bs : List ℕ) where
  abbrev bodied : Variable → ℕ → Bodied
  bodied x n = record { expr = x.body; next = x.end; left = n }

  tree-back : (x : Variable) (v p m n : ℕ) → TreeAt r bs x p m n →
      shaped v x.head r.heads (expr_at 32 (length r.heads) bs p m) ≡ accepted (bodied x n)
  unfolding shaped
  tree-back x v p m n h = rw (h.count, at-expr_at (length r.heads) bs x.body 32 p x.end n h.at h.deep, h.fitting)

  body_back : (k : Kind) (x : Variable) (v p m n : ℕ) → BodyAt k r bs x p m n → body_of k v x.head r.heads bs p m ≡ accepted (bodied x n)
  body_back input x v p m n h = rw (h.is, h.end_is, h.left_is)
  body_back output x v p m n h = tree-back x v p m n h
  body_back local x v p m n h = tree-back x v p m n h

  bodies-back : (s : Sheet) (v p m : ℕ) → BodiesAt s r bs v p m → bodies r bs (map (λ x. x.head) s) v p m ≡ accepted s
  unfolding bodies BodiesAt
  bodies-back [] v p m h = rw h
  bodies-back (x ∷ s) v p m h =
      rw (body_back x.head.kind x v p m h.left h.body-at, bodies-back s (suc v) x.end h.left h.after)
      (ap {B = Answer Sheet} (λ cs. accepted (record { head = x.head; declared = cs; body = x.body; start = p; end = x.end } ∷ s)) (sym h.declared_is)
      ∙ ap {B = Answer Sheet} (λ q. accepted (record { head = x.head; declared = x.declared; body = x.body; start = q; end = x.end } ∷ s)) (sym h.start_is))

-- ---- the whole check

module _ {bs : List ℕ} {r : Raw} {s : Sheet} (a : Accepted bs r s) where
  faultless : (e : Element) → e.who < length s → Faultless s e
  faultless e lt = record {
    covered = λ t. a.covered e.who e.at lt (tested-body s e t) (tested-inside s e t);
    clear = λ t. a.clear e.who e.at lt (tested-body s e t) (tested-inside s e t);
  }

  pub passing-accepted : check bs ≡ accepted s
  unfolding check after_read checked
  passing-accepted =
      let stand : bodies r bs r.heads 0 r.first r.nodes ≡ accepted s =
      subst (λ hs. bodies r bs hs 0 r.first r.nodes ≡ accepted s) a.heads_are (bodies-back r bs s 0 r.first r.nodes a.stand) in
      rw (
        read_back a.parts a.short,
        stand,
        first_passes TYPE (typed r.heads) 0 s a.types,
        first_passes REACH reached 0 s a.reaches,
        faults-pass s 0 (elements s) (λ i lt d. faultless (get_or (elements s) i d) (number-of-element s i d (omega (arith, length-elements s))).known),
      )

pub passes-exactly : (bs : List ℕ) (s : Sheet) → (check bs ≡ accepted s) ↔ ((r : Raw) × Accepted bs r s)
passes-exactly bs s = (λ c. let f = check_accepts c in (f.raw, f.holds-all), λ a. passing-accepted a.1)
