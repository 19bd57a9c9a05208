-- What a call answers: an answer, or a refusal with its number and its place. The order: LONG; then 2 to 5 as the fields come, the
-- first fault deciding; TAIL; SHAPE, TYPE and REACH, each over all variables; GAP then CLASH at each element; then the call's own.
-- Assumes nothing.
use Rattle.std.specs.Prelude.{ℕ}

pub data Answer (A : Type 0) : Type 0 where
  accepted : A → Answer A
  -- the refusal's number, and its place
  refused : ℕ → ℕ → Answer A

-- a refusal ends the work; an answer goes on to the next step
abbrev pub next : {A B : Type 0} → Answer A → (A → Answer B) → Answer B
next (accepted a) k = k a
next (refused n p) k = refused n p

-- the sheet has over 65,536 bytes
abbrev pub LONG : ℕ
LONG = 1

-- fewer than 8 bytes remain for a field; the place is the field's offset
abbrev pub CUT : ℕ
CUT = 2

-- a count or a dimension is off its limits, at the field; or the boxes so far hold over 4,096 points, at the record's first byte
abbrev pub COUNT : ℕ
COUNT = 3

-- a name is ill formed, or an earlier record has it; the place is the field's offset
abbrev pub NAME : ℕ
NAME = 4

-- any other number is off its values; the place is the field's offset
abbrev pub NUMBER : ℕ
NUMBER = 5

-- bytes follow the last section; the place is their offset
abbrev pub TAIL : ℕ
TAIL = 6

-- a body is no tree of its variable's dimension and at most 32 deep, at the variable's number; or nodes are left over, at the number of variables
abbrev pub SHAPE : ℕ
SHAPE = 7

-- a type rule is broken; the place is the variable's number
abbrev pub TYPE : ℕ
TYPE = 8

-- the bound on a coordinate or on a constraint's row passes 2^40; the place is the variable's number
abbrev pub REACH : ℕ
REACH = 9

-- a body does not hold at an element; the place is the element's number
abbrev pub GAP : ℕ
GAP = 10

-- a case reached there has two branches that hold; the place is the element's number
abbrev pub CLASH : ℕ
CLASH = 11

-- the input list has the wrong length, and the place is the right one; else a boolean entry is not 0 or 1, at its index
abbrev pub INPUT : ℕ
INPUT = 12

-- the normal form passes a limit; the place is the number of the first variable at whose body it does
abbrev pub WIDE : ℕ
WIDE = 13

-- a lent output is too short; the place is the length needed
abbrev pub ROOM : ℕ
ROOM = 14

-- there is no such variable, or it has no such point; the place is 0
abbrev pub ASK : ℕ
ASK = 15
