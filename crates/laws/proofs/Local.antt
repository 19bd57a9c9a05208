-- A reader that gives a value looks at no byte from its next place on: over bytes that agree up to there it gives the same. Assumes nothing.
use mathlib.Core.Path.{◌≡◌, refl, sym, ap, ◌∙◌, subst}
use Prim.Native.Nat.{ℕ, zero, suc, ◌+◌, ◌-◌, ◌≤◌, ◌<◌}
use native.Mathlib.Omega.{arith}
use mathlib.Core.Bool.{Bool, true, false, not, ◌&&◌}
use mathlib.Core.List.{List, [], ◌∷◌, ◌++◌}
use lib.ListN.{length, get_or, take, length-append, get_or-append}
use lib.Seq.{length-take-le, get_or-take}
use lib.IntN.{ℤ, pos, neg_ℤ, nat_abs}
use lib.Dec.{leb}
use borrow.Author.Tests.{le-leb}
use Rattle.alpha.specs.Pick.{ifb}
use Rattle.alpha.specs.Answer.{COUNT, NUMBER}
use Rattle.alpha.specs.Field.{word_at, signed_of, field, eight, name_form}
use Rattle.alpha.specs.Sheet.{Head}
use Rattle.alpha.specs.Box.{within, size}
use Rattle.alpha.specs.Read.{Got, got, bad, Reader, after, ◌>>=◌, pure, repeat, here, passing, count, number, choice, free, taken, name_field, kind_of, sort_of, range, head_record, heads, relation_of, row_of, constraint, declared, dimension}
use Rattle.laws.proofs.Tests.{&&-true}
use Rattle.laws.proofs.Heads.{NameAt, name_field-gives}
use Rattle.laws.proofs.Readers.{given, Passed, passing-gives}

-- the bytes agree below q, and reach there
pub record Agree (bs cs : List ℕ) (q : ℕ) : Type 0 where
  pub there : q ≤ length cs
  pub same : (i : ℕ) → i < q → get_or cs i 0 ≡ get_or bs i 0

pub agree_less : {bs cs : List ℕ} {q : ℕ} (p : ℕ) → p ≤ q → Agree bs cs q → Agree bs cs p
agree_less p l h = record { there = omega (arith, h.there); same = λ i lt. h.same i (omega arith) }

word-agree : (bs cs : List ℕ) (p : ℕ) → Agree bs cs (p + 8) → word_at cs p ≡ word_at bs p
word-agree bs cs p h =
    rw (
      h.same p (omega arith),
      h.same (p + 1) (omega arith),
      h.same (p + 2) (omega arith),
      h.same (p + 3) (omega arith),
      h.same (p + 4) (omega arith),
      h.same (p + 5) (omega arith),
      h.same (p + 6) (omega arith),
      h.same (p + 7) (omega arith),
    )

pub field-agree : (bs cs : List ℕ) (p : ℕ) → Agree bs cs (p + 8) → field cs p ≡ field bs p
field-agree bs cs p h = ap signed_of (word-agree bs cs p h)

-- what a reader gave over bs it gives over cs
pub record Again {A : Type 0} (r : Reader A) (bs cs : List ℕ) (p : ℕ) (a : A) (q : ℕ) : Type 0 where
  pub onward : p ≤ q
  pub again : Agree bs cs q → r cs p ≡ got a q

abbrev pub Local : {A : Type 0} → Reader A → List ℕ → List ℕ → Type 0
Local {A} r bs cs = (p : ℕ) (a : A) (q : ℕ) → r bs p ≡ got a q → Again r bs cs p a q

module _ (bs cs : List ℕ) where
  pub local-passing : (n : ℕ) (test : ℤ → Bool) → Local (passing n test) bs cs
  unfolding passing
  local-passing n test p x q e =
      let g = given (Passed test bs p) (p + 8) (passing-gives n test bs p) e in
      let k = g.what in
      record {
        onward = omega (arith, g.next);
        again = λ h.
            let h₈ : Agree bs cs (p + 8) = rw g.next at h in
            let f = field-agree bs cs p h₈ in
            rw (le-leb (p + 8) (length cs) h₈.there, f, k.fine, k.is, g.next);
      }

  pub local-pure : {A : Type 0} (a : A) → Local (pure a) bs cs
  local-pure a p b q e = let x : a ≡ b = cc in let y : p ≡ q = cc in record { onward = omega arith; again = λ _. e }

  pub local-then : {A B : Type 0} (m : Reader A) (k : A → Reader B) → Local m bs cs → ((a : A) → Local (k a) bs cs) → Local (m >>= k) bs cs
  local-then m k f g p b q e = go (m bs p) refl e
    where
      go : (x : Got _) → m bs p ≡ x → after x (λ a o. k a bs o) ≡ got b q → Again (m >>= k) bs cs p b q
      go (got a o) u v =
          let s = f p a o u in
          let t = g a o b q v in
          record {
            onward = omega (arith, s.onward, t.onward);
            again = λ h. rw (s.again (agree_less o t.onward h)) (t.again h);
          }
      go (bad n o) u v = let z : ◌≡◌ {A = ℕ} 0 1 = cc in absurd (omega arith)

  pub local-repeat : {A : Type 0} (n : ℕ) (r : Reader A) → Local r bs cs → Local (repeat n r) bs cs
  local-repeat zero r f p l q e = let y : p ≡ q = cc in record { onward = omega arith; again = λ _. e }
  local-repeat (suc n) r f p l q e =
      local-then r (λ a. repeat n r >>= λ k. pure (a ∷ k)) f (λ a. local-then (repeat n r) (λ k. pure (a ∷ k)) (local-repeat n r f) (λ k. local-pure (a ∷ k))) p l q e

  pub local-here : Local here bs cs
  local-here p a q e = let y : p ≡ q = cc in record { onward = omega arith; again = λ _. e }

  pub local-count : (lo hi : ℕ) → Local (count lo hi) bs cs
  local-count lo hi =
      local-then (passing COUNT (within (pos lo) (pos hi))) (λ x. pure (nat_abs x))
      (local-passing COUNT (within (pos lo) (pos hi))) (λ x. local-pure (nat_abs x))

  pub local-choice : (hi : ℕ) → Local (choice hi) bs cs
  local-choice hi = local-then (number (pos 0) (pos hi)) (λ x. pure (nat_abs x)) (local-passing NUMBER (within (pos 0) (pos hi))) (λ x. local-pure (nat_abs x))

  pub local_free : Local free bs cs
  local_free = local-passing NUMBER _

  pub local-range : Local range bs cs
  unfolding range
  local-range =
      local-then (number (neg_ℤ (pos 32768)) (pos 32767)) _ (local-passing NUMBER _) (λ lo.
      local-then (number lo (pos 32767)) _ (local-passing NUMBER _) (λ hi. local-pure (record { lo = lo; hi = hi })))

  pub local-row : (n : ℕ) → Local (row_of n) bs cs
  unfolding row_of
  local-row n = local-then (repeat n free) _ (local-repeat n free local_free) (λ cs'. local-then free _ local_free (λ c. local-pure (record { coefs = cs'; const = c })))

  pub local-constraint : (n : ℕ) → Local (constraint n) bs cs
  unfolding constraint
  local-constraint n = local-then (choice 1) _ (local-choice 1) (λ k. local-then (row_of n) _ (local-row n) (λ w. local-pure (record { rel = relation_of k; row = w })))

  pub local-declared : (hs : List Head) → Local (declared hs) bs cs
  unfolding declared
  local-declared hs =
      local-then (choice (length hs - 1)) _ (local-choice (length hs - 1)) (λ v.
      local-then (constraint (dimension hs v)) _ (local-constraint (dimension hs v)) (λ c. local-pure (record { who = v; what = c })))

  eight-agree : (p : ℕ) → Agree bs cs (p + 8) → eight cs p ≡ eight bs p
  eight-agree p h =
      rw (
        h.same p (omega arith),
        h.same (p + 1) (omega arith),
        h.same (p + 2) (omega arith),
        h.same (p + 3) (omega arith),
        h.same (p + 4) (omega arith),
        h.same (p + 5) (omega arith),
        h.same (p + 6) (omega arith),
        h.same (p + 7) (omega arith),
      )

  -- a name that is well formed and new is read
  name-got : (earlier : List Head) (ds : List ℕ) (p : ℕ) → p + 8 ≤ length ds → name_form (eight ds p) && not (taken (eight ds p) earlier) ≡ true →
      name_field earlier ds p ≡ got (eight ds p) (p + 8)
  unfolding name_field
  name-got earlier ds p t h = rw (le-leb (p + 8) (length ds) t, h)

  pub local-name : (earlier : List Head) → Local (name_field earlier) bs cs
  local-name earlier p x q e =
      let g = given (NameAt earlier bs p) (p + 8) (name_field-gives earlier bs p) e in
      let k = g.what in
      let fine : name_form (eight bs p) && not (taken (eight bs p) earlier) ≡ true = &&-true k.formed (ap not k.new) in
      record {
        onward = omega (arith, g.next);
        again = λ h.
            let h₈ : Agree bs cs (p + 8) = rw g.next at h in
            let same = eight-agree p h₈ in
            name-got earlier cs p h₈.there (subst (λ l. name_form l && not (taken l earlier) ≡ true) (sym same) fine)
            ∙ ap (λ l. got l (p + 8)) (same ∙ sym k.is)
            ∙ ap (got x) (sym g.next);
      }

  pub local-head : (earlier : List Head) → Local (head_record earlier) bs cs
  unfolding head_record
  local-head earlier =
      local-then here _ local-here (λ p.
      local-then (name_field earlier) _ (local-name earlier) (λ name.
      local-then (choice 2) _ (local-choice 2) (λ kind.
      local-then (choice 1) _ (local-choice 1) (λ sort.
      local-then (count 0 4) _ (local-count 0 4) (λ n.
      local-then (repeat n range) _ (local-repeat n range local-range) (λ box.
      local-pure (record { name = name; kind = kind_of kind; sort = sort_of sort; box = box; place = p })))))))

  pub local-heads : (k : ℕ) (earlier : List Head) (points : ℕ) → Local (heads k earlier points) bs cs
  unfolding heads
  local-heads zero earlier points p l q e = let y : p ≡ q = cc in record { onward = omega arith; again = λ _. e }
  local-heads (suc k) earlier points p l q e = go (head_record earlier bs p) refl (λ h. local-heads k (earlier ++ (h ∷ [])) (points + size h.box)) e
    where
      rest : List ℕ → Head → ℕ → Got (List Head)
      rest ds h o = ifb (leb (points + size h.box) 4096) (λ _. heads k (earlier ++ (h ∷ [])) (points + size h.box) ds o) (λ _. bad COUNT p)

      fits : (h : Head) (t : Bool) → leb (points + size h.box) 4096 ≡ t → (g : Got (List Head)) → ifb t (λ _. g) (λ _. bad COUNT p) ≡ got l q → (t ≡ true) × (g ≡ got l q)
      fits h true e g f = (refl, f)
      fits h false e g f = let z : ◌≡◌ {A = ℕ} 0 1 = cc in absurd (omega arith)

      go : (g : Got Head) → head_record earlier bs p ≡ g → ((h : Head) → Local (heads k (earlier ++ (h ∷ [])) (points + size h.box)) bs cs) →
          after g (λ h o. rest bs h o) ≡ got l q → Again (heads (suc k) earlier points) bs cs p l q
      go (bad n o) u f v = let z : ◌≡◌ {A = ℕ} 0 1 = cc in absurd (omega arith)
      go (got h o) u f v =
          let b = leb (points + size h.box) 4096 in
          let x = fits h b refl (heads k (earlier ++ (h ∷ [])) (points + size h.box) bs o) v in
          let s = local-head earlier p h o u in
          let t = f h o l q x.1 in
          record {
            onward = omega (arith, s.onward, t.onward);
            again = λ a. rw (s.again (agree_less o t.onward a), x.0) (t.again a);
          }

-- ---- bytes that begin alike

pub agree-take : (n : ℕ) (bs rest : List ℕ) → n ≤ length bs → Agree bs (take n bs ++ rest) n
agree-take n bs rest h = record {
  there = omega (arith, length-append (take n bs) rest, length-take-le n bs h);
  same = λ i lt. get_or-append (take n bs) rest 0 i (omega (arith, length-take-le n bs h)) ∙ get_or-take n bs i 0 lt;
}
