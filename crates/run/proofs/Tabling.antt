-- The tables: an entry of the memo that is settled is its element's outcome, and the stretches one after another are the tables.
-- Assumes nothing.
use mathlib.Core.Path.{◌≡◌, refl, sym, ap, ◌∙◌, subst}
use Prim.Native.Nat.{ℕ, ◌+◌, ◌-◌, ◌≤◌, ◌<◌}
use native.Mathlib.Decide.{ℕ_discrete, dec_lt}
use native.Mathlib.Omega.{arith}
use mathlib.Core.List.{List, [], ◌∷◌, ◌++◌}
use lib.ListN.{length, get_or, set, take, drop, length-set, length-append, length-drop, get_or-append}
use lib.Seq.{get_or-set_same, get_or-set_other, length-take-le, get_or-append-add, get_or-take, get_or-drop}
use lib.IntN.{ℤ, pos}
use mir.Syntax.{w32}
use mir.Val.{to_z, of_z, SFits}
use mir.Facts.{to_z-of_z}
use Rattle.alpha.specs.declared.Outcome as Declared
use Rattle.alpha.specs.Sheet.{Sheet}
use Rattle.alpha.specs.Box.{size}
use Rattle.alpha.specs.Holds.{variable}
use Rattle.alpha.specs.Check.{total}
use Rattle.alpha.specs.Ask.{before}
use Rattle.alpha.specs.Outcome.{deepest}
use Rattle.alpha.specs.Run.{code_of, value_of, outcome_at}
use Rattle.alpha.specs.Verdict.{outcome_of, code_for, value_for}
use Rattle.integer.specs.Range.{In32}
use Rattle.evaluate.specs.Memo.{element, Memo, saved_at, sum, settled_one, count, Right}
use Rattle.evaluate.specs.Working.{element_at, outcomes, Ready}
use Rattle.evaluate.specs.Settling.{Idle, Settled}
use Rattle.evaluate.proofs.Entries.{settled-one}
use Rattle.evaluate.proofs.Stores.{decide, tells-later}
use Rattle.evaluate.proofs.Doing.{element-grows}
use Rattle.run.specs.Filling.{Advances, Shows, FillsVariable, FillsAll}

-- a number of 32 bits is kept whole
pub kept32 : (y x : ℤ) → In32 x → y ≡ x → to_z w32 (of_z w32 y) ≡ x
kept32 y x h e = let f : SFits w32 x = record { sfits = h } in rw e (to_z-of_z f)

-- ---- a settled entry is its element's outcome

-- no more are settled than there are
count-few : (cs : List ℕ) → sum settled_one cs ≤ length cs
unfolding sum
count-few [] = omega arith
count-few (c ∷ cs) = omega (arith, settled-one c, count-few cs)

-- the outcome of a settled element is the run's
settled-outcome : (s : Sheet) (ins : List ℤ) (e : ℕ) (memo memo' : Memo) (o : Declared.Outcome) → Settled s e memo memo' o →
    Right (outcomes s ins) (total s) memo' → e < total s → outcome_of o ≡ outcome_at s ins (element_at s e)
settled-outcome s ins e memo memo' o S R lt =
    let few : count memo' ≤ deepest = omega (arith, count-few memo'.codes, S.ready.codes_long) in
    let tells = tells-later (element (outcomes s ins) e) (element-grows s ins e) (count memo') deepest (saved_at memo' e) few
    (R.settled e lt S.settled) in
    S.says.is ∙ sym tells.is

-- ---- the stretch of one variable

-- its first i entries are filled
pub record FillsBelow (s : Sheet) (v : ℕ) (memo memo' : Memo) (codes : List ℕ) (values : List ℤ) (i : ℕ) : Type 0 where
  pub advances : Advances s memo memo'
  pub codes_long : length codes ≡ size (variable s v).head.box
  pub values_long : length values ≡ size (variable s v).head.box
  pub shows : (ins : List ℤ) → Right (outcomes s ins) (total s) memo → (j : ℕ) → j < i → Shows s ins codes values j (before s v + j)

pub advances-none : (s : Sheet) (memo : Memo) → Ready s memo → Idle memo → Advances s memo memo
advances-none s memo M I = record { ready = M; idle = I; right = λ ins R. R }

pub advances-on : (s : Sheet) (memo memo' memo'' : Memo) → Advances s memo memo' → Advances s memo' memo'' → Advances s memo memo''
advances-on s memo memo' memo'' A B = record { ready = B.ready; idle = B.idle; right = λ ins R. B.right ins (A.right ins R) }

pub advances-settled : (s : Sheet) (e : ℕ) (memo memo' : Memo) (o : Declared.Outcome) → Settled s e memo memo' o → Advances s memo memo'
advances-settled s e memo memo' o S = record { ready = S.ready; idle = S.idle; right = S.right }

module _ (s : Sheet) (v : ℕ) (memo : Memo) where
  abbrev stretch : ℕ
  stretch = size (variable s v).head.box

  pub fills-none : (codes : List ℕ) (values : List ℤ) → Ready s memo → Idle memo → length codes ≡ stretch → length values ≡ stretch →
      FillsBelow s v memo memo codes values 0
  fills-none codes values M I c w = record { advances = advances-none s memo M I; codes_long = c; values_long = w; shows = λ ins R j h. absurd (omega arith) }

  pub fills-next : (memo' memo'' : Memo) (codes : List ℕ) (values : List ℤ) (i : ℕ) → FillsBelow s v memo memo' codes values i → i < stretch →
      before s v + i < total s → (o : Declared.Outcome) →
      Settled s (before s v + i) memo' memo'' o → (codes' : List ℕ) (values' : List ℤ) → codes' ≡ set codes i (code_for o) →
      values' ≡ set values i (value_for o) → FillsBelow s v memo memo'' codes' values' (i + 1)
  fills-next memo' memo'' codes values i F low lt o S codes' values' ce ve = rw (ce, ve) (record {
    advances = advances-on s memo memo' memo'' F.advances (advances-settled s (before s v + i) memo' memo'' o S);
    codes_long = simp length-set F.codes_long;
    values_long = simp length-set F.values_long;
    shows = λ ins R j h. decide j i (ℕ_discrete j i)
        (λ same.
        let is = settled-outcome s ins (before s v + i) memo' memo'' o S (S.right ins (F.advances.right ins R)) lt in
        rw same (record {
          code = get_or-set_same codes i (code_for o) 0 (omega (arith, F.codes_long)) ∙ ap code_of is;
          value = get_or-set_same values i (value_for o) (pos 0) (omega (arith, F.values_long)) ∙ ap value_of is;
        }))
        (λ other.
        let old = F.shows ins R j (under j h other) in
        record {
          code = get_or-set_other codes i j (code_for o) 0 other ∙ old.code;
          value = get_or-set_other values i j (value_for o) (pos 0) other ∙ old.value;
        });
  })
    where
      under : (j : ℕ) → j < i + 1 → (j ≡ i → ⊥) → j < i
      under j h n = omega (arith, n)

  pub fills-whole : (memo' : Memo) (codes : List ℕ) (values : List ℤ) (i : ℕ) → FillsBelow s v memo memo' codes values i → stretch ≤ i →
      FillsVariable s v memo memo' codes values
  fills-whole memo' codes values i F l =
      record { advances = F.advances; codes_long = F.codes_long; values_long = F.values_long; shows = λ ins R j h. F.shows ins R j (omega arith) }

-- ---- a middle part that was lent on

-- the list with ys in the place of its k elements from a on
abbrev pub put_middle : {X : Type 0} → ℕ → ℕ → List X → List X → List X
put_middle a k xs ys = take a xs ++ (ys ++ drop k (drop a xs))

module _ {X : Type 0} (a k : ℕ) (xs ys : List X) (d : X) (long : length ys ≡ k) (there : a + k ≤ length xs) where
  front : length (take a xs) ≡ a
  front = length-take-le a xs (omega arith)

  put-before : (m : ℕ) → m < a → get_or (put_middle a k xs ys) m d ≡ get_or xs m d
  put-before m h = get_or-append (take a xs) (ys ++ drop k (drop a xs)) d m (omega (arith, front)) ∙ get_or-take a xs m d h

  -- from a on
  put-from : (m : ℕ) → get_or (put_middle a k xs ys) (a + m) d ≡ get_or (ys ++ drop k (drop a xs)) m d
  put-from m = ap (λ n. get_or (put_middle a k xs ys) (n + m) d) (sym front) ∙ get_or-append-add (take a xs) (ys ++ drop k (drop a xs)) m d

  put-within : (m : ℕ) → m < k → get_or (put_middle a k xs ys) (a + m) d ≡ get_or ys m d
  put-within m h = put-from m ∙ get_or-append ys (drop k (drop a xs)) d m (omega (arith, long))

  put-after : (m : ℕ) → get_or (put_middle a k xs ys) (a + (k + m)) d ≡ get_or xs (a + (k + m)) d
  put-after m =
      put-from (k + m)
      ∙ ap (λ n. get_or (ys ++ drop k (drop a xs)) (n + m) d) (sym long)
      ∙ get_or-append-add ys (drop k (drop a xs)) m d
      ∙ get_or-drop k (drop a xs) m d
      ∙ get_or-drop a xs (k + m) d

  put-past : (m : ℕ) → a + k ≤ m → get_or (put_middle a k xs ys) m d ≡ get_or xs m d
  put-past m h = let e : a + (k + (m - (a + k))) ≡ m = omega arith in subst (λ i. get_or (put_middle a k xs ys) i d ≡ get_or xs i d) e (put-after (m - (a + k)))

  put-length : length (put_middle a k xs ys) ≡ length xs
  put-length =
      length-append (take a xs) (ys ++ drop k (drop a xs))
      ∙ omega (arith, front, long, length-append ys (drop k (drop a xs)), length-drop k (drop a xs), length-drop a xs)

-- a middle part that is lent has as many elements as its bounds say
pub part-long : {X : Type 0} (a b n : ℕ) (xs : List X) → b - a ≡ n → b ≤ length xs → a ≤ b → length (take (b - a) (drop a xs)) ≡ n
part-long a b n xs is there l = length-take-le (b - a) (drop a xs) (omega (arith, length-drop a xs)) ∙ is

-- ---- the stretches one after another

module _ (s : Sheet) (v a b : ℕ) (first : a ≡ before s v) (last : b ≡ before s v + size (variable s v).head.box) (memo memo' memo'' : Memo)
    (A : Advances s memo memo')
    (codes codes' part : List ℕ) (values values' number : List ℤ) (F : FillsAll s memo (before s v) codes codes' values values')
    (P : FillsVariable s v memo' memo'' part number)
    (room : b ≤ length codes) (space : b ≤ length values) where
  abbrev wide : ℕ
  wide = b - a

  long : length part ≡ wide
  long = omega (arith, P.codes_long, first, last)

  tall : length number ≡ wide
  tall = omega (arith, P.values_long, first, last)

  in_codes : a + wide ≤ length codes'
  in_codes = omega (arith, F.codes_long, first, last)

  in_values : a + wide ≤ length values'
  in_values = omega (arith, F.values_long, first, last)

  pub fills-on : FillsAll s memo b codes (put_middle a wide codes' part) values (put_middle a wide values' number)
  fills-on = record {
    codes_long = put-length a wide codes' part 0 long in_codes ∙ F.codes_long;
    values_long = put-length a wide values' number (pos 0) tall in_values ∙ F.values_long;
    shows = λ ins R m h. split m h
        (λ l. let old = F.shows ins R m (omega (arith, first)) in
        record {
          code = put-before a wide codes' part 0 long in_codes m l ∙ old.code;
          value = put-before a wide values' number (pos 0) tall in_values m l ∙ old.value;
        })
        (λ j is l.
        let new = P.shows ins (A.right ins R) j (omega (arith, first, last)) in
        let here : before s v + j ≡ m = omega (arith, first, is) in
        rw (← is) (record {
          code = put-within a wide codes' part 0 long in_codes j l ∙ new.code ∙ ap (λ n. code_of (outcome_at s ins (element_at s n))) (here ∙ sym is);
          value =
              put-within a wide values' number (pos 0) tall in_values j l ∙ new.value
              ∙ ap (λ n. value_of (outcome_at s ins (element_at s n))) (here ∙ sym is);
        }));
    codes_stay = λ m h. put-past a wide codes' part 0 long in_codes m (omega (arith, first, last)) ∙ F.codes_stay m (omega (arith, first, last));
    values_stay = λ m h. put-past a wide values' number (pos 0) tall in_values m (omega (arith, first, last)) ∙ F.values_stay m (omega (arith, first, last));
  }
    where
      -- an element below b is before the stretch, or in it
      split : {Y : Type 0} (m : ℕ) → m < b → (m < a → Y) → ((j : ℕ) → a + j ≡ m → j < wide → Y) → Y
      split {Y = Y} m h f g = go (dec_lt m a)
        where
          go : Dec (m < a) → Y
          go (yes l) = f l
          go (no l) = g (m - a) (omega arith) (omega arith)

pub fills-at : (s : Sheet) (memo : Memo) (m n : ℕ) (codes codes' : List ℕ) (values values' : List ℤ) → m ≡ n →
    FillsAll s memo m codes codes' values values' → FillsAll s memo n codes codes' values values'
fills-at s memo m n codes codes' values values' e F = subst (λ k. FillsAll s memo k codes codes' values values') e F

pub fills-start : (s : Sheet) (memo : Memo) (codes : List ℕ) (values : List ℤ) → FillsAll s memo 0 codes codes values values
fills-start s memo codes values = record {
  codes_long = refl;
  values_long = refl;
  shows = λ ins R m h. absurd (omega arith);
  codes_stay = λ m h. refl;
  values_stay = λ m h. refl;
}
