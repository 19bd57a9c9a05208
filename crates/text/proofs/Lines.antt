-- The lines of a variable's elements one after another, those of all variables, and the report that they make where the tables have the
-- run's outcomes. Assumes nothing.
use mathlib.Core.Path.{◌≡◌, refl, sym, ap, ◌∙◌}
use Prim.Native.Nat.{ℕ, suc, ◌+◌, ◌-◌, ◌≤◌, ◌<◌}
use native.Mathlib.Nat.{add-zero}
use native.Mathlib.Omega.{arith}
use mathlib.Core.List.{List, [], ◌∷◌, ◌++◌, map, append_assoc}
use lib.ListN.{length, get_or, drop, length-map, drop_of_length-le, get_or-append}
use lib.Seq.{drop-cons}
use lib.IntN.{ℤ, pos}
use Rattle.alpha.specs.Sheet.{Range, Sheet}
use Rattle.alpha.specs.Box.{size}
use Rattle.alpha.specs.Holds.{no_variable, variable}
use Rattle.alpha.specs.Check.{Element, points_from, points, elements_from, elements, total}
use Rattle.alpha.specs.Ask.{before}
use Rattle.alpha.specs.Outcome.{Outcome, outside, value, divzero, overflow, loop}
use Rattle.alpha.specs.Run.{code_of, value_of, outcome_at}
use Rattle.alpha.specs.Written.{flat}
use Rattle.alpha.specs.Program.{accepted_word, nat_text, newline, line, report}
use Rattle.laws.specs.Coded.{decoded}
use Rattle.laws.proofs.Elements.{length-points, before-suc, get_or-map_below}
use Rattle.domain.specs.Element.{elements_at, elements_of}
use Rattle.text.specs.Lines.{outcome_in, line_of, line_in, lines_from, report_in}

module _ (s : Sheet) (codes : List ℕ) (values : List ℤ) where
  lines-append : (xs ys : List Element) (n : ℕ) →
      lines_from s codes values n (xs ++ ys) ≡ lines_from s codes values n xs ++ lines_from s codes values (n + length xs) ys
  unfolding lines_from
  lines-append [] ys n = let e : n + 0 ≡ n = omega arith in rw e
  lines-append (x ∷ xs) ys n =
      let e : suc n + length xs ≡ n + suc (length xs) = omega arith in
      let first = line_of s x (outcome_in codes values n) in
      ap (λ t. first ++ t) (rw e at (lines-append xs ys (suc n)))
      ∙ sym (append_assoc first (lines_from s codes values (suc n) xs) (lines_from s codes values (n + suc (length xs)) ys))

  -- ---- the elements of one variable

  module _ (v : ℕ) where
    abbrev box : List Range
    box = (variable s v).head.box

    -- the lines of the elements from the i-th point on
    abbrev pub point_lines : ℕ → List ℕ
    point_lines i = lines_from s codes values (before s v + i) (elements_at v (points_from box i (size box - i)))

    pub points-start : point_lines 0 ≡ lines_from s codes values (before s v) (elements_of s v)
    points-start =
        let e : before s v + 0 ≡ before s v = omega arith in
        let f : size box - 0 ≡ size box = omega arith in
        rw (e, f)

    pub points-end : (i : ℕ) → size box ≤ i → point_lines i ≡ []
    unfolding lines_from points_from
    points-end i h =
        let e : size box - i ≡ 0 = omega arith in
        ap (λ k. lines_from s codes values (before s v + i) (elements_at v (points_from box i k))) e

    pub points-more : (i : ℕ) → i < size box → point_lines i ≡ line_in s codes values v i ++ point_lines (i + 1)
    unfolding lines_from points_from
    points-more i h =
        let e : size box - i ≡ suc (size box - (i + 1)) = omega arith in
        let f : suc i ≡ i + 1 = omega arith in
        let g : suc (before s v + i) ≡ before s v + (i + 1) = omega arith in
        ap (λ k. lines_from s codes values (before s v + i) (elements_at v (points_from box i k))) e
        ∙ ap (λ n. line_in s codes values v i ++ lines_from s codes values n (elements_at v (points_from box (suc i) (size box - (i + 1))))) g
        ∙ ap (λ j. line_in s codes values v i ++ lines_from s codes values (before s v + (i + 1))
        (elements_at v (points_from box j (size box - (i + 1))))) f

  -- ---- all variables

  -- the lines of the elements of the variables from v on
  abbrev pub variable_lines : ℕ → List ℕ
  variable_lines v = lines_from s codes values (before s v) (elements_from v (drop v s))

  pub variables-end : (v : ℕ) → length s ≤ v → variable_lines v ≡ []
  unfolding lines_from elements_from
  variables-end v h = ap (λ t. lines_from s codes values (before s v) (elements_from v t)) (drop_of_length-le s h)

  pub variables-more : (v : ℕ) → v < length s → variable_lines v ≡ lines_from s codes values (before s v) (elements_of s v) ++ variable_lines (v + 1)
  unfolding elements_from
  variables-more v h =
      let many =
      length-map {B = Element} (points (variable s v).head.box) (λ z. record { who = v; at = z }) ∙ length-points (variable s v).head.box in
      let n : before s v + length (elements_of s v) ≡ before s (suc v) = omega (arith, before-suc s v h, many) in
      let f : suc v ≡ v + 1 = omega arith in
      ap (λ t. lines_from s codes values (before s v) (elements_from v t)) (drop-cons s v no_variable h)
      ∙ lines-append (elements_of s v) (elements_from (suc v) (drop (suc v) s)) (before s v)
      ∙ ap (λ k. lines_from s codes values (before s v) (elements_of s v) ++ lines_from s codes values k (elements_from (suc v) (drop (suc v) s))) n
      ∙ ap (λ w. lines_from s codes values (before s v) (elements_of s v) ++ variable_lines w) f

-- ---- the run's tables

-- an outcome is the one with its code and its value
outcome-told : (o : Outcome) → decoded (code_of o) (value_of o) ≡ o
outcome-told outside = refl
outcome-told (value x) = refl
outcome-told divzero = refl
outcome-told overflow = refl
outcome-told loop = refl

module _ (s : Sheet) (ins : List ℤ) where
  lines-told : (codes : List ℕ) (values : List ℤ) (d : Element) (es : List Element) (n : ℕ) →
      ((j : ℕ) → j < length es → outcome_in codes values (n + j) ≡ outcome_at s ins (get_or es j d)) →
      lines_from s codes values n es ≡ flat (map (line s ins) es)
  unfolding lines_from line_of
  lines-told codes values d [] n h = refl
  lines-told codes values d (e ∷ es) n h =
      let first = ap (outcome_in codes values) (sym (add-zero n)) ∙ h 0 (omega arith) in
      let on : (j : ℕ) → suc n + j ≡ n + suc j = λ j. omega arith in
      ap (λ o. line_of s e o ++ lines_from s codes values (suc n) es) first
      ∙ ap (λ t. line s ins e ++ t) (lines-told codes values d es (suc n) (λ j l. ap (outcome_in codes values) (on j) ∙ h (suc j) (omega arith)))

  module _ (more_codes : List ℕ) (more_values : List ℤ) where
    abbrev codes_of : List ℕ
    codes_of = map (λ e. code_of (outcome_at s ins e)) (elements s)

    abbrev values_of : List ℤ
    values_of = map (λ e. value_of (outcome_at s ins e)) (elements s)

    entry-told : (d : Element) (j : ℕ) → j < length (elements s) →
        outcome_in (codes_of ++ more_codes) (values_of ++ more_values) j ≡ outcome_at s ins (get_or (elements s) j d)
    entry-told d j l =
        let es = elements s in
        let code = get_or-append codes_of more_codes 0 j (omega (arith, length-map es (λ e. code_of (outcome_at s ins e)))) in
        let worth = get_or-append values_of more_values (pos 0) j (omega (arith, length-map es (λ e. value_of (outcome_at s ins e)))) in
        rw
        (code, worth, get_or-map_below (λ e. code_of (outcome_at s ins e)) es j d 0 l, get_or-map_below (λ e. value_of (outcome_at s ins e)) es j d (pos 0) l)
        (outcome-told (outcome_at s ins (get_or es j d)))

    -- the report by the tables is the report of the run
    pub report-told : report_in s (codes_of ++ more_codes) (values_of ++ more_values) ≡ report s ins
    unfolding report_in report
    report-told =
        let none : Element = record { who = 0; at = [] } in
        let zero-on : (j : ℕ) → 0 + j ≡ j = λ j. omega arith in
        let codes = codes_of ++ more_codes in
        let values = values_of ++ more_values in
        ap (λ t. accepted_word ++ nat_text (total s) ++ newline ++ t)
        (lines-told codes values none (elements s) 0 (λ j l. ap (outcome_in codes values) (zero-on j) ∙ entry-told none j l))
