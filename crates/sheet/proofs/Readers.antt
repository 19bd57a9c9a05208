-- How far each reader of crate alpha comes, field by field: one equation for each. Assumes nothing.
use mathlib.Core.Path.{◌≡◌, refl, sym, ap, ◌∙◌}
use mathlib.Core.List.{List}
use Prim.Native.Nat.{ℕ, ◌-◌}
use native.Mathlib.Omega.{arith}
use lib.ListN.{length, get_or}
use lib.IntN.{ℤ, pos, neg_ℤ, nat_abs}
use Rattle.std.specs.Prelude.{Result, Err}
use Rattle.std.specs.Result.{IsErrAnd}
use Rattle.std.proofs.lemmas.Result.{err_from_is_err_and}
use Rattle.alpha.specs.Answer.{Answer, accepted, refused, next, NUMBER}
use Rattle.alpha.specs.Field.{field}
use Rattle.alpha.specs.Box.{within}
use Rattle.alpha.specs.Sheet.{Head, Node.n_if}
use Rattle.alpha.specs.Read.{Got, got, bad, Reader, after, ◌>>=◌, repeat, pure, count, number, choice, free}
use Rattle.alpha.specs.Read.{name_field, range, head_record, row_of, constraint, dimension, declared, restriction, dependence, nodes, node}
use Rattle.alpha.specs.declared.Refusal.{Refusal}
use Rattle.alpha.specs.Verdict.{told}
use Rattle.sheet.specs.Place.{place_after}
use Rattle.sheet.proofs.Places.{pure-after, passing-then, count-then, choice-then}

-- ---- one reader after another, by places

-- what follows does not go by the value
pub any_next : {A B : Type 0} (m : Got A) (k : A → ℕ → Got B) (j : ℕ → Answer ℕ) →
    ((a : A) (q : ℕ) → place_after (k a q) ≡ j q) → place_after (after m k) ≡ next (place_after m) j
any_next (got a q) k j h = h a q
any_next (bad n p) k j h = refl

-- what follows goes by a value that is known wherever there is one
pub known_next : {A B : Type 0} (m : Got A) (x : A) (k : A → ℕ → Got B) (j : ℕ → Answer ℕ) →
    ((q : ℕ) → place_after m ≡ accepted q → after m k ≡ k x q) →
    ((q : ℕ) → place_after m ≡ accepted q → place_after (k x q) ≡ j q) → place_after (after m k) ≡ next (place_after m) j
known_next (got a q) x k j e h = ap place_after (e q refl) ∙ h q refl
known_next (bad n p) x k j e h = refl

module _ {B : Type 0} (bs : List ℕ) (p : ℕ) where
  pub number-next : (lo hi : ℤ) (k : ℤ → ℕ → Got B) (j : ℕ → Answer ℕ) →
      ((q : ℕ) → place_after (k (field bs p) q) ≡ j q) → place_after (after (number lo hi bs p) k) ≡ next (place_after (number lo hi bs p)) j
  number-next lo hi k j h = known_next (number lo hi bs p) (field bs p) k j (passing-then NUMBER (within lo hi) bs p k) (λ q _. h q)

  pub count_next : (lo hi : ℕ) (k : ℕ → ℕ → Got B) (j : ℕ → Answer ℕ) →
      ((q : ℕ) → place_after (k (nat_abs (field bs p)) q) ≡ j q) → place_after (after (count lo hi bs p) k) ≡ next (place_after (count lo hi bs p)) j
  count_next lo hi k j h = known_next (count lo hi bs p) (nat_abs (field bs p)) k j (count-then lo hi bs p k) (λ q _. h q)

  pub choice-next : (hi : ℕ) (k : ℕ → ℕ → Got B) (j : ℕ → Answer ℕ) →
      ((q : ℕ) → place_after (k (nat_abs (field bs p)) q) ≡ j q) → place_after (after (choice hi bs p) k) ≡ next (place_after (choice hi bs p)) j
  choice-next hi k j h = known_next (choice hi bs p) (nat_abs (field bs p)) k j (choice-then hi bs p k) (λ q _. h q)

-- what a result says of the first reader decides whether the next one runs
module _ {m : Answer ℕ} (j : ℕ → Answer ℕ) where
  pub goes_on : {q : ℕ} → accepted q ≡ m → j q ≡ next m j
  goes_on e = ap (λ (a : Answer ℕ). next a j) e

  pub stops : {n p : ℕ} → refused n p ≡ m → refused n p ≡ next m j
  stops e = ap (λ (a : Answer ℕ). next a j) e

-- the refusal that a `?` hands on
pub handed : (r : Result ℕ Refusal) (e : Refusal) → IsErrAnd r (λ y. y ≡ e) → r ≡ Err e
handed r e is = let f = err_from_is_err_and r is in rw (f.1, f.2)

pub handed-on : {m : Answer ℕ} (r : Result ℕ Refusal) (e : Refusal) → IsErrAnd r (λ y. y ≡ e) → told (Err e) ≡ m → told r ≡ m
handed-on r e is says = ap told (handed r e is) ∙ says

-- a sequence that came to a place came to one after its first part
pub next-accepted : (m : Answer ℕ) (j : ℕ → Answer ℕ) {q : ℕ} → next m j ≡ accepted q → (t : ℕ) × (m ≡ accepted t) × (j t ≡ accepted q)
next-accepted (accepted t) j e = (t, refl, e)
next-accepted (refused n p) j e = absurd (let z : ◌≡◌ {A = ℕ} 0 1 = cc in omega arith)

-- ---- the readers

-- where a record comes to from its ranges, dimension, type and kind on
abbrev pub box_place : List ℕ → ℕ → ℕ → Answer ℕ
box_place bs p q = place_after (repeat (nat_abs (field bs p)) range bs q)

abbrev pub dimension_place : List ℕ → ℕ → Answer ℕ
dimension_place bs p = next (place_after (count 0 4 bs p)) (box_place bs p)

abbrev pub sort_place : List ℕ → ℕ → Answer ℕ
sort_place bs p = next (place_after (choice 1 bs p)) (dimension_place bs)

abbrev pub kind_place : List ℕ → ℕ → Answer ℕ
kind_place bs p = next (place_after (choice 2 bs p)) (sort_place bs)

-- a value made of so many items changes no place
counted_same : {A B : Type 0} (bs : List ℕ) (p most : ℕ) (item : Reader A) (f : ℕ → List A → B) →
    place_after ((count 0 most >>= λ n. repeat n item >>= λ l. pure (f n l)) bs p) ≡ place_after ((count 0 most >>= λ n. repeat n item) bs p)
counted_same bs p most item f =
    count_next bs p 0 most _ _ (λ q. pure-after (repeat (nat_abs (field bs p)) item bs q) (f (nat_abs (field bs p))))
    ∙ sym (count_next bs p 0 most _ _ (λ q. refl))

module _ (bs : List ℕ) (p : ℕ) where
  pub range-place : place_after (range bs p) ≡
      next (place_after (number (neg_ℤ (pos 32768)) (pos 32767) bs p)) (λ q. place_after (number (field bs p) (pos 32767) bs q))
  unfolding range
  range-place =
      number-next bs p (neg_ℤ (pos 32768)) (pos 32767) _ _ (λ q.
      pure-after (number (field bs p) (pos 32767) bs q) (λ hi. record { lo = field bs p; hi = hi }))

  pub head-place : (earlier : List Head) → place_after (head_record earlier bs p) ≡ next (place_after (name_field earlier bs p)) (kind_place bs)
  unfolding head_record
  head-place earlier =
      any_next (name_field earlier bs p) _ _ (λ name q.
      choice-next bs q 2 _ _ (λ t.
      choice-next bs t 1 _ _ (λ u.
      count_next bs u 0 4 _ _ (λ v.
      pure-after (repeat (nat_abs (field bs u)) range bs v) _))))

  pub row-place : (n : ℕ) → place_after (row_of n bs p) ≡ next (place_after (repeat n free bs p)) (λ q. place_after (free bs q))
  unfolding row_of
  row-place n = any_next (repeat n free bs p) _ _ (λ cs q. pure-after (free bs q) (λ c. record { coefs = cs; const = c }))

  pub constraint-place : (n : ℕ) → place_after (constraint n bs p) ≡ next (place_after (choice 1 bs p)) (λ q. place_after (row_of n bs q))
  unfolding constraint
  constraint-place n = choice-next bs p 1 _ _ (λ q. pure-after (row_of n bs q) _)

  pub declared-place : (hs : List Head) → place_after (declared hs bs p) ≡
      next (place_after (choice (length hs - 1) bs p)) (λ q. place_after (constraint (dimension hs (nat_abs (field bs p))) bs q))
  unfolding declared
  declared-place hs = choice-next bs p (length hs - 1) _ _ (λ q. pure-after (constraint (dimension hs (nat_abs (field bs p))) bs q) _)

  pub restriction-place : place_after (restriction bs p) ≡
      next (place_after (count 0 4 bs p)) (λ q. place_after ((count 0 64 >>= λ n. repeat n (constraint (nat_abs (field bs p)))) bs q))
  unfolding restriction
  restriction-place = count_next bs p 0 4 _ _ (λ q. counted_same bs q 64 (constraint (nat_abs (field bs p))) _)

  pub dependence-place : place_after (dependence bs p) ≡
      next (place_after (count 0 4 bs p)) (λ q. place_after ((count 0 4 >>= λ n. repeat n (row_of (nat_abs (field bs p)))) bs q))
  unfolding dependence
  dependence-place = count_next bs p 0 4 _ _ (λ q. counted_same bs q 4 (row_of (nat_abs (field bs p))) _)

  pub node-place : (vars : ℕ) → place_after (node vars bs p) ≡
      next (place_after (choice 8 bs p)) (λ q. place_after (get_or (nodes vars) (nat_abs (field bs p)) (pure n_if) bs q))
  unfolding node
  node-place vars = choice-next bs p 8 _ _ (λ q. refl)

-- the fields of a node, by its code
module _ (vars : ℕ) (bs : List ℕ) (p code : ℕ) where
  -- where the node's fields come to
  abbrev pub fields_place : Answer ℕ
  fields_place = place_after (get_or (nodes vars) code (pure n_if) bs p)

  of_code : (n : ℕ) → code ≡ n → fields_place ≡ place_after (get_or (nodes vars) n (pure n_if) bs p)
  of_code n e = ap (λ (k : ℕ). place_after (get_or (nodes vars) k (pure n_if) bs p)) e

  pub variable-fields : code ≡ 0 → fields_place ≡ place_after (choice (vars - 1) bs p)
  unfolding nodes
  variable-fields e = of_code 0 e ∙ pure-after (choice (vars - 1) bs p) _

  pub integer-fields : code ≡ 1 → fields_place ≡ place_after (number (neg_ℤ (pos 2147483648)) (pos 2147483647) bs p)
  unfolding nodes
  integer-fields e = of_code 1 e ∙ pure-after (number (neg_ℤ (pos 2147483648)) (pos 2147483647) bs p) _

  pub boolean-fields : code ≡ 2 → fields_place ≡ place_after (choice 1 bs p)
  unfolding nodes
  boolean-fields e = of_code 2 e ∙ pure-after (choice 1 bs p) _

  pub unary-fields : code ≡ 3 → fields_place ≡ place_after (choice 1 bs p)
  unfolding nodes
  unary-fields e = of_code 3 e ∙ pure-after (choice 1 bs p) _

  pub binary-fields : code ≡ 4 → fields_place ≡ place_after (choice 15 bs p)
  unfolding nodes
  binary-fields e = of_code 4 e ∙ pure-after (choice 15 bs p) _

  pub if-fields : code ≡ 5 → fields_place ≡ accepted p
  unfolding nodes
  if-fields e = of_code 5 e

  pub case-fields : code ≡ 6 → fields_place ≡ place_after (count 1 64 bs p)
  unfolding nodes
  case-fields e = of_code 6 e ∙ pure-after (count 1 64 bs p) _

  pub restriction-fields : code ≡ 7 → fields_place ≡ place_after (restriction bs p)
  unfolding nodes
  restriction-fields e = of_code 7 e

  pub dependence-fields : code ≡ 8 → fields_place ≡ place_after (dependence bs p)
  unfolding nodes
  dependence-fields e = of_code 8 e
