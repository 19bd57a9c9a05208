-- Document 01's starred examples, 1 to 10: one table of what it claims of them, and one theorem, that no row fails. The sheets are
-- written as trees and turned into bytes here, so that every claim is one about bytes. Assumes nothing.
use Rattle.std.specs.Prelude.{◌≡◌, refl, ℕ, suc, ◌+◌, ◌^◌, ◌%◌, Bool, true, false, ◌&&◌, List, [], ◌∷◌, ◌++◌, map, length, replicate, take, ℤ, pos, neg_ℤ, ◌-ℤ◌, eqb}
use Prim.Native.String.{String}
use Rattle.alpha.specs.Pick.{ifb}
use Rattle.alpha.specs.Answer.{Answer, accepted, refused, GAP, REACH, NAME}
use Rattle.alpha.specs.Field.{nat, num, bytes_of, word_of, same_bytes}
use Rattle.alpha.specs.Sheet.{Kind, Kind.input, Kind.output, Kind.local, Sort, Sort.integer, Sort.boolean, Relation, Relation.at_least, Relation.equal, Row, Constraint, Range, Head, Expr, Variable, Sheet}
use Rattle.alpha.specs.Sheet.{Expr.var, Expr.int, Expr.boo, Expr.bin, Expr.ite, Expr.kase, Expr.restr, Expr.dep, Exprs.none, Exprs.more, Binary.plus, Binary.quot, Binary.rem}
use Rattle.alpha.specs.Affine.{is_zero}
use Rattle.alpha.specs.Read.{passing, name_field, range, head_record, heads, row_of, constraint, declared, restriction, dependence, nodes, node, ended, sections, read}
use Rattle.alpha.specs.Shape.{branches, with_node, at_node, expr_at, fits, shaped, bodies}
use Rattle.alpha.specs.Typing.{type_of}
use Rattle.alpha.specs.Reach.{reach}
use Rattle.alpha.specs.Holds.{is_input, holds, two_hold, clashes}
use Rattle.alpha.specs.Check.{first, points_from, elements_from, faults, checked, after_read, check}
use Rattle.alpha.specs.Outcome.{eval, outcome}
use Rattle.alpha.specs.Run.{Tables, bits, entries, inputs, admitted, run}
use Rattle.alpha.specs.Written.{bytes, node_count, depth, flat, constraint_bytes}
use Rattle.alpha.specs.Normal.{push, norm}
use Rattle.alpha.specs.Normalise.{write_bodies, normal_form, normal_after, normalise}
use Rattle.alpha.specs.Program.{ascii, digits, report, refusal, values_at, inputs_from, framed, answered, program}

-- ---- a sheet's bytes

abbrev kind_code : Kind → ℕ
kind_code input = 0
kind_code output = 1
kind_code local = 2

abbrev sort_code : Sort → ℕ
sort_code integer = 0
sort_code boolean = 1

abbrev head_bytes : Head → List ℕ
head_bytes h =
    h.name ++ nat (kind_code h.kind) ++ nat (sort_code h.sort) ++ nat (length h.box) ++ flat (map (λ r. num r.lo ++ num r.hi) h.box)

abbrev declared_bytes : ℕ → Sheet → List ℕ
declared_bytes v [] = []
declared_bytes v (x ∷ s) = flat (map (λ c. nat v ++ constraint_bytes c) x.declared) ++ declared_bytes (suc v) s

abbrev own_nodes : Variable → ℕ
own_nodes x = ifb (is_input x) (λ _. 0) (λ _. node_count x.body)

abbrev own_bytes : Variable → List ℕ
own_bytes x = ifb (is_input x) (λ _. []) (λ _. bytes x.body)

abbrev sum : List ℕ → ℕ
sum [] = 0
sum (x ∷ xs) = x + sum xs

abbrev sheet_bytes : Sheet → List ℕ
sheet_bytes s =
    nat (length s) ++ flat (map (λ x. head_bytes x.head) s)
    ++ nat (sum (map (λ x. length x.declared) s)) ++ declared_bytes 0 s
    ++ nat (sum (map own_nodes s)) ++ flat (map own_bytes s)

-- the program's input: the sheet's length, the sheet, the values
abbrev input_bytes : List ℕ → List ℤ → List ℕ
input_bytes bs ins = nat (length bs) ++ bs ++ flat (map (λ x. bytes_of 4 (word_of x % 2 ^ 32)) ins)

-- ---- words for sheets

abbrev minus : ℕ → ℤ
minus n = neg_ℤ (pos n)

-- a variable: a name of at most 8 bytes with zero bytes to the end, kind, type, box, declared constraints, body
abbrev of : String → Kind → Sort → List Range → List Constraint → Expr → Variable
of n k t box cs e =
    record { head = record { name = take 8 (ascii n ++ replicate 8 0); kind = k; sort = t; box = box; place = 0 }; declared = cs; body = e; start = 0; end = 0 }

-- lo..hi
abbrev to : ℕ → ℕ → List Range
to lo hi = record { lo = pos lo; hi = pos hi } ∷ []

-- a * i + c
abbrev line : ℤ → ℤ → Row
line a c = record { coefs = a ∷ []; const = c }

-- a * i + c >= 0, or = 0
abbrev where1 : Relation → ℤ → ℤ → List Constraint
where1 r a c = record { rel = r; row = line a c } ∷ []

-- e.(i -> a * i + c)
abbrev shift : ℤ → ℤ → Expr → Expr
shift a c e = dep (record { cols = 1; rows = line a c ∷ [] }) e

-- an input over 1..3
abbrev given : String → List Constraint → Variable
given n cs = of n input integer (to 1 3) cs (kase none)

-- over lo..3, the case of {i=1}: variable 0 and {i>=start}: variable 1.(i->i-1) + variable 0
abbrev summed : String → ℕ → ℕ → Variable
summed n lo start =
    of n output integer (to lo 3) []
    (kase
    (more (restr 1 (where1 equal (pos 1) (minus 1)) (var 0))
    (more (restr 1 (where1 at_least (pos 1) (minus start)) (bin plus (shift (pos 1) (minus 1) (var 1)) (var 0)))
    none)))

abbrev running_sum : Sheet
running_sum = given "x" [] ∷ summed "y" 1 2 ∷ []

-- a sheet of one output without dimensions
abbrev scalar : Expr → Sheet
scalar e = of "u" output integer [] [] e ∷ []

-- ---- what is claimed of a sheet

pub data Claim : Type 0 where
  is_accepted : Claim
  -- the refusal's number, and its place
  is_refused : ℕ → ℕ → Claim
  -- with an input list: the codes, and the values
  gives : List ℤ → List ℕ → List ℤ → Claim
  -- so many bytes, and so many of its normal form
  lengths : ℕ → ℕ → Claim
  -- with an input list: what the program prints
  prints : List ℤ → String → Claim

pub record Example : Type 0 where
  pub sheet : Sheet
  pub claim : Claim

-- ---- the table

pub table : List Example
table =
    -- 1: the running sum
    record { sheet = running_sum; claim = lengths 336 416 } ∷
    record { sheet = running_sum; claim = gives (pos 5 ∷ minus 2 ∷ pos 4 ∷ []) (1 ∷ 1 ∷ 1 ∷ 1 ∷ 1 ∷ 1 ∷ []) (pos 5 ∷ minus 2 ∷ pos 4 ∷ pos 5 ∷ pos 3 ∷ pos 7 ∷ []) } ∷
    record { sheet = running_sum; claim = prints (pos 5 ∷ minus 2 ∷ pos 4 ∷ []) "accepted 6\nx 1 = 5\nx 2 = -2\nx 3 = 4\ny 1 = 5\ny 2 = 3\ny 3 = 7\n" } ∷
    -- 2: its second branch with i>=1
    record { sheet = given "x" [] ∷ summed "y" 1 1 ∷ []; claim = is_accepted } ∷
    -- 3: y's box 0..3
    record { sheet = given "x" [] ∷ summed "y" 0 2 ∷ []; claim = is_refused GAP 3 } ∷
    -- 4: -7 div 2, -7 mod 2
    record { sheet = scalar (bin quot (int (minus 7)) (int (pos 2))); claim = gives [] (1 ∷ []) (minus 3 ∷ []) } ∷
    record { sheet = scalar (bin rem (int (minus 7)) (int (pos 2))); claim = gives [] (1 ∷ []) (minus 1 ∷ []) } ∷
    -- 5: -2147483648 div -1, mod -1
    record { sheet = scalar (bin quot (int (minus 2147483648)) (int (minus 1))); claim = gives [] (3 ∷ []) (pos 0 ∷ []) } ∷
    record { sheet = scalar (bin rem (int (minus 2147483648)) (int (minus 1))); claim = gives [] (1 ∷ []) (pos 0 ∷ []) } ∷
    -- 6: z = z.(i->4-i) on 1..3
    record { sheet = of "z" output integer (to 1 3) [] (shift (minus 1) (pos 4) (var 0)) ∷ []; claim = gives [] (4 ∷ 4 ∷ 4 ∷ []) (pos 0 ∷ pos 0 ∷ pos 0 ∷ []) } ∷
    -- 7: (1 div 0) + (2147483647 + 1)
    record { sheet = scalar (bin plus (bin quot (int (pos 1)) (int (pos 0))) (bin plus (int (pos 2147483647)) (int (pos 1)))); claim = gives [] (2 ∷ []) (pos 0 ∷ []) } ∷
    -- 8: u = if false then u else 0
    record { sheet = scalar (ite (boo 0) (var 0) (int (pos 0))); claim = gives [] (4 ∷ []) (pos 0 ∷ []) } ∷
    -- 9: x declared with 2^25 * i + 0 >= 0, and with constant 1
    record { sheet = given "x" (where1 at_least (pos (2 ^ 25)) (pos 0)) ∷ summed "y" 1 2 ∷ []; claim = is_accepted } ∷
    record { sheet = given "x" (where1 at_least (pos (2 ^ 25)) (pos 1)) ∷ summed "y" 1 2 ∷ []; claim = is_refused REACH 0 } ∷
    -- 10: names a07 and a7, and a7 twice
    record { sheet = given "a07" [] ∷ summed "a7" 1 2 ∷ []; claim = is_accepted } ∷
    record { sheet = given "a7" [] ∷ summed "a7" 1 2 ∷ []; claim = is_refused NAME 56 } ∷
    []

-- ---- the test

same_numbers : List ℤ → List ℤ → Bool
same_numbers [] [] = true
same_numbers [] (y ∷ ys) = false
same_numbers (x ∷ xs) [] = false
same_numbers (x ∷ xs) (y ∷ ys) = is_zero (x -ℤ y) && same_numbers xs ys

is_given : Answer Tables → List ℕ → List ℤ → Bool
unfolding same_numbers
is_given (accepted t) codes values = same_bytes t.codes codes && same_numbers t.values values
is_given (refused n p) codes values = false

is_taken : Answer Sheet → Bool
is_taken (accepted s) = true
is_taken (refused n p) = false

is_refusal : Answer Sheet → ℕ → ℕ → Bool
is_refusal (accepted s) n p = false
is_refusal (refused m q) n p = eqb m n && eqb q p

has_length : Answer (List ℕ) → ℕ → Bool
has_length (accepted out) n = eqb (length out) n
has_length (refused m q) n = false

met : List ℕ → Claim → Bool
unfolding is_given is_taken is_refusal has_length
met bs is_accepted = is_taken (check bs)
met bs (is_refused n p) = is_refusal (check bs) n p
met bs (gives ins codes values) = is_given (run bs ins 4096 4096) codes values
met bs (lengths a b) = eqb (length bs) a && has_length (normalise bs 65536) b
met bs (prints ins text) = same_bytes (program (input_bytes bs ins)) (ascii text)

-- the numbers of the rows that fail
pub failing : ℕ → List Example → List ℕ
unfolding met
failing n [] = []
failing n (r ∷ rs) = ifb (met (sheet_bytes r.sheet) r.claim) (λ _. failing (suc n) rs) (λ _. n ∷ failing (suc n) rs)

pub examples : failing 0 table ≡ []
unfolding failing table
    bytes_of bytes node_count depth
    passing name_field range head_record heads row_of constraint declared restriction dependence nodes node ended sections read
    branches with_node at_node expr_at fits shaped bodies type_of reach holds two_hold clashes
    first points_from elements_from faults checked after_read check
    eval outcome bits entries inputs admitted run
    push norm write_bodies normal_form normal_after normalise
    digits report refusal values_at inputs_from framed answered program
examples = refl
