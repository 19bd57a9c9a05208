-- Bytes that begin with the first two sections of a sheet, and go on with a count and as many nodes, are read as those. Assumes nothing.
use mathlib.Core.Path.{◌≡◌, refl, sym, ap, ◌∙◌, subst}
use Prim.Native.Nat.{ℕ, ◌+◌, ◌≤◌}
use native.Mathlib.Omega.{arith}
use mathlib.Core.List.{List, [], ◌∷◌, ◌++◌, append-nil, append_assoc}
use lib.ListN.{length}
use lib.IntN.{pos, nat_abs}
use borrow.Author.Tests.{le-leb, eq-eqb}
use Rattle.alpha.specs.Answer.{COUNT}
use Rattle.alpha.specs.Field.{field, nat}
use Rattle.alpha.specs.Sheet.{Node, Head, Raw}
use Rattle.alpha.specs.Box.{within, size}
use Rattle.alpha.specs.Read.{got, repeat, count, heads, declared, node, ended, sections, read}
use Rattle.laws.specs.Heads.{InRow, HeadsAt, points_of}
use Rattle.laws.specs.Accepted.{Sections}
use Rattle.laws.specs.Stands.{Stands}
use Rattle.laws.proofs.Tests.{pos-within}
use Rattle.laws.proofs.Local.{Agree, agree_less, field-agree, Again, local-heads, local-repeat, local-declared}
use Rattle.laws.proofs.Prefix.{row-repeat}
use Rattle.laws.proofs.Written.{passing-got, count-got}

-- records that stand in a row are read, where their points fit
pub heads_at-got : (hs earlier : List Head) (points : ℕ) (bs : List ℕ) (p q : ℕ) → HeadsAt hs earlier bs p q → points + points_of hs ≤ 4096 →
    heads (length hs) earlier points bs p ≡ got (earlier ++ hs) q
unfolding HeadsAt heads
heads_at-got [] earlier points bs p q h l = ap (λ o. got earlier o) h ∙ ap (λ hs. got hs q) (sym (append-nil earlier))
heads_at-got (h ∷ hs) earlier points bs p q k l =
    let fit : points + size h.box ≤ 4096 = omega arith in
    rw (k.here, le-leb (points + size h.box) 4096 fit)
    (heads_at-got hs (earlier ++ (h ∷ [])) (points + size h.box) bs k.next q k.after (omega arith)
    ∙ ap (λ l. got l q) (append_assoc earlier (h ∷ []) hs))

-- a count is read where its field is known
pub count-known : (lo hi n : ℕ) (bs : List ℕ) (p : ℕ) → p + 8 ≤ length bs → field bs p ≡ pos n → lo ≤ n → n ≤ hi → count lo hi bs p ≡ got n (p + 8)
count-known lo hi n bs p t f l u =
    rw (passing-got COUNT (within (pos lo) (pos hi)) bs p t (ap (within (pos lo) (pos hi)) f ∙ pos-within lo hi n l u)) (ap (λ x. got (nat_abs x) (p + 8)) f)

module _ (bs : List ℕ) (r : Raw) (s : Sections bs r) (cs : List ℕ) (n : ℕ) (ns : List Node) (alike : Agree bs cs r.third)
    (counted : Stands (nat n) cs r.third) (few : n ≤ 2048) (many : length ns ≡ n)
    (row : InRow ns (node (length r.heads)) cs (r.third + 8) (length cs)) where
  declared-again : Again (repeat (length r.decls) (declared r.heads)) bs cs (r.second + 8) r.decls r.third
  declared-again =
      local-repeat bs cs (length r.decls) (declared r.heads) (local-declared bs cs r.heads) (r.second + 8) r.decls r.third
      (row-repeat (declared r.heads) bs r.decls (r.second + 8) r.third s.declared_stand)

  heads-again : Again (heads (length r.heads) [] 0) bs cs 8 r.heads r.second
  heads-again =
      local-heads bs cs (length r.heads) [] 0 8 r.heads r.second
      (heads_at-got r.heads [] 0 bs 8 r.second s.heads_stand (omega (arith, s.small)))

  -- a field before the third section
  field-again : (p : ℕ) → p + 8 ≤ r.third → (p + 8 ≤ length cs) × (field cs p ≡ field bs p)
  field-again p l = let a = agree_less (p + 8) l alike in (a.there, field-agree bs cs p a)

  pub sections-again : sections cs 0 ≡ got (record { heads = r.heads; decls = r.decls; second = r.second; third = r.third; first = r.third + 8; nodes = n }) (length cs)
  unfolding sections ended
  sections-again =
      let l₁ = heads-again.onward in
      let l₂ = declared-again.onward in
      let f₁ = field-again 0 (omega arith) in
      let f₂ = field-again r.second (omega arith) in
      let e₁ : count 1 32 cs 0 ≡ got (length r.heads) 8 = count-known 1 32 (length r.heads) cs 0 f₁.0 (f₁.1 ∙ s.heads_count) s.some s.few in
      let e₂ = heads-again.again (agree_less r.second (omega arith) alike) in
      let e₃ = count-known 0 256 (length r.decls) cs r.second f₂.0 (f₂.1 ∙ s.declared_count) (omega arith) s.few_declared in
      let e₄ = declared-again.again alike in
      let e₅ = count-got 0 2048 n cs r.third (omega arith) few (omega arith) counted in
      let e₆ = subst (λ m. repeat m (node (length r.heads)) cs (r.third + 8) ≡ got ns (length cs)) many
      (row-repeat (node (length r.heads)) cs ns (r.third + 8) (length cs) row) in
      rw (e₁, e₂, e₃, e₄, e₅, e₆, eq-eqb (length cs) (length cs) refl)

  pub read_again : length cs ≤ 65536 →
      read cs ≡ got (record { heads = r.heads; decls = r.decls; second = r.second; third = r.third; first = r.third + 8; nodes = n }) (length cs)
  unfolding read
  read_again l = rw (le-leb (length cs) 65536 l) sections-again
