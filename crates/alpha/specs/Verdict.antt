-- Document 01's number and place for each refusal, its code and value for each outcome, and its answer for each verdict: what the
-- cases of the enums of src/ mean. Assumes nothing.
use Rattle.std.specs.Prelude.{ℕ, ℤ, Result, Ok, Err}
use Rattle.alpha.specs.Answer.{Answer, accepted, refused, LONG, CUT, COUNT, NAME, NUMBER, TAIL, SHAPE, TYPE, REACH, GAP, CLASH, INPUT, WIDE, ROOM, ASK}
use Rattle.alpha.specs.Outcome as Outcomes
use Rattle.alpha.specs.Run.{code_of, value_of}
use Rattle.alpha.specs.declared.Refusal.{Refusal}
use Rattle.alpha.specs.declared.Refusal.TheVariants.{Long, Cut, Count, Name, Number, Tail, Shape, Typing, Reach, Gap, Clash, Input, Wide, Room, Ask}
use Rattle.alpha.specs.declared.Outcome.{Outcome}
use Rattle.alpha.specs.declared.Outcome.TheVariants.{Outside, Value, DivZero, Overflow, Loop}

abbrev pub number_of : Refusal → ℕ
number_of Long = LONG
number_of (Cut p) = CUT
number_of (Count p) = COUNT
number_of (Name p) = NAME
number_of (Number p) = NUMBER
number_of (Tail p) = TAIL
number_of (Shape v) = SHAPE
number_of (Typing v) = TYPE
number_of (Reach v) = REACH
number_of (Gap e) = GAP
number_of (Clash e) = CLASH
number_of (Input i) = INPUT
number_of (Wide v) = WIDE
number_of (Room n) = ROOM
number_of Ask = ASK

abbrev pub place_of : Refusal → ℕ
place_of Long = 0
place_of (Cut p) = p
place_of (Count p) = p
place_of (Name p) = p
place_of (Number p) = p
place_of (Tail p) = p
place_of (Shape v) = v
place_of (Typing v) = v
place_of (Reach v) = v
place_of (Gap e) = e
place_of (Clash e) = e
place_of (Input i) = i
place_of (Wide v) = v
place_of (Room n) = n
place_of Ask = 0

-- what a result says, whatever is answered where nothing is refused
abbrev pub told : {A : Type 0} → Result A Refusal → Answer A
told (Ok a) = accepted a
told (Err r) = refused (number_of r) (place_of r)

-- what an outcome says
abbrev pub outcome_of : Outcome → Outcomes.Outcome
outcome_of Outside = Outcomes.outside
outcome_of (Value x) = Outcomes.value x
outcome_of DivZero = Outcomes.divzero
outcome_of Overflow = Outcomes.overflow
outcome_of Loop = Outcomes.loop

abbrev pub code_for : Outcome → ℕ
code_for o = code_of (outcome_of o)

abbrev pub value_for : Outcome → ℤ
value_for o = value_of (outcome_of o)
