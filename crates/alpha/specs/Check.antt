-- The check of a sheet, refusals 1 to 11 in order, and the elements with their numbers.
-- Assumes nothing.
use Rattle.std.specs.Prelude.{ℕ, zero, suc, ◌+◌, Bool, not, ◌&&◌, ◌||◌, List, [], ◌∷◌, ◌++◌, map}
use Rattle.alpha.specs.Pick.{ifb}
use Rattle.alpha.specs.Answer.{Answer, accepted, refused, next, TYPE, REACH, GAP, CLASH}
use Rattle.alpha.specs.Sheet.{Head, Raw, Variable, Sheet, Point, Range}
use Rattle.alpha.specs.Box.{size, point_at}
use Rattle.alpha.specs.Read.{Got, got, bad, read}
use Rattle.alpha.specs.Shape.{bodies}
use Rattle.alpha.specs.Typing.{type_of, is_sort}
use Rattle.alpha.specs.Reach.{reach, all_reach, top_reach}
use Rattle.alpha.specs.Holds.{variable, is_input, in_domain, holds, clashes}

-- ---- TYPE and REACH: the first variable that fails a test

unfoldable pub first : ℕ → (Variable → Bool) → ℕ → Sheet → Answer (Unit {0})
first code test v [] = accepted tt
first code test v (x ∷ s) = ifb (test x) (λ _. first code test (suc v) s) (λ _. refused code v)

-- a body has its variable's type
abbrev pub typed : List Head → Variable → Bool
typed hs x = is_input x || is_sort x.head.sort (type_of x.body hs)

-- declared constraints count at their variable, an input's too
abbrev pub reached : Variable → Bool
reached x = all_reach top_reach x.declared && (is_input x || reach x.body top_reach)

-- ---- elements

-- an element: a variable's number, and a point of its box
pub record Element : Type 0 where
  pub who : ℕ
  pub at : Point

-- the points of a box from the i-th on, n of them
unfoldable pub points_from : List Range → ℕ → ℕ → List Point
points_from box i zero = []
points_from box i (suc n) = point_at box i ∷ points_from box (suc i) n

abbrev pub points : List Range → List Point
points box = points_from box 0 (size box)

-- the elements of the variables from number v on, in order: an element's number is its index here
unfoldable pub elements_from : ℕ → Sheet → List Element
elements_from v [] = []
elements_from v (x ∷ s) = map {B = Element} (λ z. record { who = v; at = z }) (points x.head.box) ++ elements_from (suc v) s

abbrev pub elements : Sheet → List Element
elements s = elements_from 0 s

-- how many elements a sheet has
abbrev pub total : Sheet → ℕ
total [] = 0
total (x ∷ s) = size x.head.box + total s

-- ---- GAP before CLASH at each element, the elements in order

-- tested in the declared domain of an output or a local
abbrev pub tested : Sheet → Element → Bool
tested s e = not (is_input (variable s e.who)) && in_domain (variable s e.who) e.at

-- the fault of the element numbered n
abbrev pub fault : Sheet → ℕ → Element → Answer (Unit {0})
fault s n e =
    ifb (tested s e) (λ _.
    ifb (holds (variable s e.who).body s e.at) (λ _.
    ifb (clashes (variable s e.who).body s e.at) (λ _. refused CLASH n) (λ _. accepted tt))
    (λ _. refused GAP n))
    (λ _. accepted tt)

unfoldable pub faults : Sheet → ℕ → List Element → Answer (Unit {0})
faults s n [] = accepted tt
faults s n (e ∷ es) = next (fault s n e) (λ _. faults s (suc n) es)

-- ---- the check: reading, then SHAPE, TYPE and REACH, each over all variables, then the elements

unfoldable pub checked : List ℕ → Raw → Answer Sheet
checked bs r =
    next (bodies r bs r.heads 0 r.first r.nodes) (λ s.
    next (first TYPE (typed r.heads) 0 s) (λ _.
    next (first REACH reached 0 s) (λ _.
    next (faults s 0 (elements s)) (λ _. accepted s))))

unfoldable pub after_read : List ℕ → Got Raw → Answer Sheet
after_read bs (got r p) = checked bs r
after_read bs (bad n p) = refused n p

-- the sheet that the bytes are, or the first refusal
unfoldable pub check : List ℕ → Answer Sheet
check bs = after_read bs (read bs)
