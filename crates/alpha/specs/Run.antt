-- The run: INPUT, ROOM, and the two tables.
-- Assumes nothing.
use Rattle.std.specs.Prelude.{ℕ, suc, ◌+◌, List, [], ◌∷◌, map, length, take, drop, ℤ, pos, leb, eqb}
use Rattle.alpha.specs.Pick.{ifb}
use Rattle.alpha.specs.Answer.{Answer, accepted, refused, next, INPUT, ROOM}
use Rattle.alpha.specs.Sheet.{Sort, Sort.integer, Sort.boolean, Sheet}
use Rattle.alpha.specs.Box.{size, within}
use Rattle.alpha.specs.Holds.{is_input}
use Rattle.alpha.specs.Check.{Element, elements, total, check}
use Rattle.alpha.specs.Outcome.{Outcome, outside, value, divzero, overflow, loop, outcome, deepest}

-- ---- INPUT

-- the points of all input boxes: the length that an input list must have
abbrev pub input_count : Sheet → ℕ
input_count [] = 0
input_count (x ∷ s) = ifb (is_input x) (λ _. size x.head.box + input_count s) (λ _. input_count s)

-- the first entry that is not 0 or 1, the list's first having index i
unfoldable pub bits : ℕ → List ℤ → Answer (Unit {0})
bits i [] = accepted tt
bits i (x ∷ xs) = ifb (within (pos 0) (pos 1) x) (λ _. bits (suc i) xs) (λ _. refused INPUT i)

abbrev pub entries_of : Sort → ℕ → List ℤ → Answer (Unit {0})
entries_of integer i xs = accepted tt
entries_of boolean i xs = bits i xs

-- the input variables' entries in order, from index i on: a boolean's are 0 or 1
unfoldable pub entries : Sheet → ℕ → List ℤ → Answer (Unit {0})
entries [] i ins = accepted tt
entries (x ∷ s) i ins =
    ifb (is_input x) (λ _.
    next (entries_of x.head.sort i (take (size x.head.box) ins)) (λ _. entries s (i + size x.head.box) (drop (size x.head.box) ins)))
    (λ _. entries s i ins)

-- the length first, then the entries
unfoldable pub inputs : Sheet → List ℤ → Answer (Unit {0})
inputs s ins = ifb (eqb (length ins) (input_count s)) (λ _. entries s 0 ins) (λ _. refused INPUT (input_count s))

-- ---- ROOM: so many entries are needed, and so many are lent
abbrev pub room : ℕ → ℕ → Answer (Unit {0})
room needed lent = ifb (leb needed lent) (λ _. accepted tt) (λ _. refused ROOM needed)

-- ---- the tables

-- an outcome's code, and its value: 0 where it has none
abbrev pub code_of : Outcome → ℕ
code_of outside = 0
code_of (value x) = 1
code_of divzero = 2
code_of overflow = 3
code_of loop = 4

abbrev pub value_of : Outcome → ℤ
value_of outside = pos 0
value_of (value x) = x
value_of divzero = pos 0
value_of overflow = pos 0
value_of loop = pos 0

-- the run's outcome at an element
abbrev pub outcome_at : Sheet → List ℤ → Element → Outcome
outcome_at s ins e = outcome deepest s ins e.who e.at

-- one entry for each element, in order
pub record Tables : Type 0 where
  pub codes : List ℕ
  pub values : List ℤ

abbrev pub tables : Sheet → List ℤ → Tables
tables s ins =
    record { codes = map (λ e. code_of (outcome_at s ins e)) (elements s); values = map (λ e. value_of (outcome_at s ins e)) (elements s) }

-- a sheet with its input list: the check, then INPUT
unfoldable pub admitted : List ℕ → List ℤ → Answer Sheet
admitted bs ins = next (check bs) (λ s. next (inputs s ins) (λ _. accepted s))

-- the run, where so many codes and so many values are lent
unfoldable pub run : List ℕ → List ℤ → ℕ → ℕ → Answer Tables
run bs ins codes values =
    next (admitted bs ins) (λ s.
    next (room (total s) codes) (λ _.
    next (room (total s) values) (λ _. accepted (tables s ins))))
