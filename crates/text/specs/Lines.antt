-- The lines of a report, with each outcome as the two tables of the run give it: by its code and its value. Assumes nothing.
use Rattle.std.specs.Prelude.{ℕ, suc, ◌+◌, List, [], ◌∷◌, ◌++◌, get_or, ℤ, pos}
use Rattle.alpha.specs.Sheet.{Sheet}
use Rattle.alpha.specs.Box.{point_at}
use Rattle.alpha.specs.Holds.{variable}
use Rattle.alpha.specs.Check.{Element, elements, total}
use Rattle.alpha.specs.Ask.{before}
use Rattle.alpha.specs.Outcome.{Outcome}
use Rattle.alpha.specs.Program.{accepted_word, nat_text, trimmed, spaced, outcome_text, newline}
use Rattle.laws.specs.Coded.{decoded}

-- ---- one element

-- the element of variable v at the i-th point of its box
abbrev pub element_of : Sheet → ℕ → ℕ → Element
element_of s v i = record { who = v; at = point_at (variable s v).head.box i }

-- its name and its coordinates
abbrev pub element_text : Sheet → Element → List ℕ
element_text s e = trimmed (variable s e.who).head.name ++ spaced e.at

-- the outcome of the element numbered n, by the tables
abbrev pub outcome_in : List ℕ → List ℤ → ℕ → Outcome
outcome_in codes values n = decoded (get_or codes n 0) (get_or values n (pos 0))

-- the line of the element e with the outcome o
unfoldable pub line_of : Sheet → Element → Outcome → List ℕ
line_of s e o = element_text s e ++ outcome_text (variable s e.who).head.sort o ++ newline

-- the line of the element of variable v at the i-th point of its box, by the tables
abbrev pub line_in : Sheet → List ℕ → List ℤ → ℕ → ℕ → List ℕ
line_in s codes values v i = line_of s (element_of s v i) (outcome_in codes values (before s v + i))

-- ---- several

-- the lines of these elements, numbered from n on
unfoldable pub lines_from : Sheet → List ℕ → List ℤ → ℕ → List Element → List ℕ
lines_from s codes values n [] = []
lines_from s codes values n (e ∷ es) = line_of s e (outcome_in codes values n) ++ lines_from s codes values (suc n) es

-- `accepted` and the element total, then a line for each element
unfoldable pub report_in : Sheet → List ℕ → List ℤ → List ℕ
report_in s codes values = accepted_word ++ nat_text (total s) ++ newline ++ lines_from s codes values 0 (elements s)
