-- The element number, with ASK; and the body of a variable as that part of the sheet.
-- Assumes nothing.
use Rattle.std.specs.Prelude.{ℕ, ◌+◌, ◌-◌, Bool, ◌&&◌, List, length, take, drop, ltb}
use Rattle.alpha.specs.Pick.{ifb}
use Rattle.alpha.specs.Answer.{Answer, accepted, refused, next, ASK}
use Rattle.alpha.specs.Sheet.{Sheet, Point}
use Rattle.alpha.specs.Box.{in_box, index}
use Rattle.alpha.specs.Holds.{variable, is_input}
use Rattle.alpha.specs.Check.{check, total}

-- the elements of the variables before v
abbrev pub before : Sheet → ℕ → ℕ
before s v = total (take v s)

abbrev pub number_of : Sheet → ℕ → Point → ℕ
number_of s v z = before s v + index (variable s v).head.box z

-- there is such a variable, and z is a point of its box
abbrev pub asks : Sheet → ℕ → Point → Bool
asks s v z = ltb v (length s) && in_box (variable s v).head.box z

-- the element number of a sheet that is accepted, or ASK
abbrev pub numbered : Sheet → ℕ → Point → Answer ℕ
numbered s v z = ifb (asks s v z) (λ _. accepted (number_of s v z)) (λ _. refused ASK 0)

unfoldable pub element_number : List ℕ → ℕ → Point → Answer ℕ
element_number bs v z = next (check bs) (λ s. numbered s v z)

-- a part of the sheet: where it starts, and how long it is
pub record Part : Type 0 where
  pub start : ℕ
  pub len : ℕ

abbrev pub no_part : Part
no_part = record { start = 0; len = 0 }

-- the bytes that a body's nodes occupy; an input has none, and an unknown number is taken for an input
abbrev pub part_of : Sheet → ℕ → Part
part_of s v =
    ifb (is_input (variable s v)) (λ _. no_part) (λ _. record { start = (variable s v).start; len = (variable s v).end - (variable s v).start })

abbrev pub part_in : Answer Sheet → ℕ → Part
part_in (accepted s) v = part_of s v
part_in (refused n p) v = no_part

unfoldable pub body_part : List ℕ → ℕ → Part
body_part bs v = part_in (check bs) v

-- the part's bytes
abbrev pub bytes_in : Part → List ℕ → List ℕ
bytes_in p bs = take p.len (drop p.start bs)
