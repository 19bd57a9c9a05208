-- Reading a sheet's fields in order: refusals 1 to 6. A reader takes the bytes and a place; it gives a value and the next place,
-- or a refusal's number and place. The first fault decides. Every reader recurs on a count that it has read, so none needs fuel.
-- Assumes nothing.
use Rattle.std.specs.Prelude.{ℕ, zero, suc, ◌+◌, ◌-◌, ◌^◌, Bool, false, not, ◌&&◌, ◌||◌, List, [], ◌∷◌, ◌++◌, length, get_or, ℤ, pos, neg_ℤ, nat_abs, leb, eqb}
use Rattle.alpha.specs.Pick.{ifb}
use Rattle.alpha.specs.Answer.{LONG, CUT, COUNT, NAME, NUMBER, TAIL}
use Rattle.alpha.specs.Field.{field, eight, name_form, same_bytes}
use Rattle.alpha.specs.Sheet.{Kind, Sort, Relation, Unary, Binary, Row, Constraint, Range, Node, Head, Declared, Raw}
use Rattle.alpha.specs.Box.{within, size}

pub data Got (A : Type 0) : Type 0 where
  -- the value, and the next place
  got : A → ℕ → Got A
  -- the refusal's number, and its place
  bad : ℕ → ℕ → Got A

abbrev pub Reader : Type 0 → Type 0
Reader A = List ℕ → ℕ → Got A

abbrev pub after : {A B : Type 0} → Got A → (A → ℕ → Got B) → Got B
after (got a q) k = k a q
after (bad n at) k = bad n at

infixl 1 ◌>>=◌
abbrev pub ◌>>=◌ : {A B : Type 0} → Reader A → (A → Reader B) → Reader B
◌>>=◌ m k bs p = after (m bs p) (λ a q. k a bs q)

abbrev pub pure : {A : Type 0} → A → Reader A
pure a bs p = got a p

-- the same reader n times
abbrev pub repeat : {A : Type 0} → ℕ → Reader A → Reader (List A)
repeat zero r bs p = got [] p
repeat (suc n) r bs p = after (r bs p) (λ a q. after (repeat n r bs q) (λ l q'. got (a ∷ l) q'))

-- the place of the next field
abbrev pub here : Reader ℕ
here bs p = got p p

-- ---- fields

-- eight bytes remain at p
abbrev pub room : List ℕ → ℕ → Bool
room bs p = leb (p + 8) (length bs)

-- a field that is a number and must pass a test: CUT where it is not there, refusal n where it fails
unfoldable pub passing : ℕ → (ℤ → Bool) → Reader ℤ
passing n test bs p = ifb (room bs p) (λ _. ifb (test (field bs p)) (λ _. got (field bs p) (p + 8)) (λ _. bad n p)) (λ _. bad CUT p)

-- a count from lo to hi
abbrev pub count : ℕ → ℕ → Reader ℕ
count lo hi = passing COUNT (within (pos lo) (pos hi)) >>= λ x. pure (nat_abs x)

-- a number from lo to hi
abbrev pub number : ℤ → ℤ → Reader ℤ
number lo hi = passing NUMBER (within lo hi)

-- a choice from 0 to hi
abbrev pub choice : ℕ → Reader ℕ
choice hi = number (pos 0) (pos hi) >>= λ x. pure (nat_abs x)

-- a number that has no listed values: at most 2^40 in size
abbrev pub free : Reader ℤ
free = number (neg_ℤ (pos (2 ^ 40))) (pos (2 ^ 40))

-- ---- the first section: variables

abbrev pub taken : List ℕ → List Head → Bool
taken n [] = false
taken n (h ∷ hs) = same_bytes n h.name || taken n hs

-- a name that is well formed and that no earlier record has
unfoldable pub name_field : List Head → Reader (List ℕ)
name_field earlier bs p =
    ifb (room bs p) (λ _.
    ifb (name_form (eight bs p) && not (taken (eight bs p) earlier)) (λ _. got (eight bs p) (p + 8)) (λ _. bad NAME p))
    (λ _. bad CUT p)

abbrev pub kind_of : ℕ → Kind
kind_of n = get_or (Kind.input ∷ Kind.output ∷ Kind.local ∷ []) n Kind.input

abbrev pub sort_of : ℕ → Sort
sort_of n = get_or (Sort.integer ∷ Sort.boolean ∷ []) n Sort.integer

-- lo from -32768 to 32767, then hi from lo to 32767
unfoldable pub range : Reader Range
range = do
  lo ← number (neg_ℤ (pos 32768)) (pos 32767)
  hi ← number lo (pos 32767)
  pure (record { lo = lo; hi = hi })

-- name; kind; type; dimension 0 to 4; the box
unfoldable pub head_record : List Head → Reader Head
head_record earlier = do
  p ← here
  name ← name_field earlier
  kind ← choice 2
  sort ← choice 1
  n ← count 0 4
  box ← repeat n range
  pure (record { name = name; kind = kind_of kind; sort = sort_of sort; box = box; place = p })

-- k records after the earlier ones, whose boxes hold so many points; with each record's box they may hold at most 4,096
unfoldable pub heads : ℕ → List Head → ℕ → Reader (List Head)
heads zero earlier points bs p = got earlier p
heads (suc k) earlier points bs p =
    after (head_record earlier bs p) (λ h q.
    ifb (leb (points + size h.box) 4096) (λ _. heads k (earlier ++ (h ∷ [])) (points + size h.box) bs q) (λ _. bad COUNT p))

-- ---- the second section: declared constraints

abbrev pub relation_of : ℕ → Relation
relation_of n = get_or (Relation.at_least ∷ Relation.equal ∷ []) n Relation.at_least

-- n coefficients, then the constant
unfoldable pub row_of : ℕ → Reader Row
row_of n = do
  cs ← repeat n free
  c ← free
  pure (record { coefs = cs; const = c })

unfoldable pub constraint : ℕ → Reader Constraint
constraint n = do
  rel ← choice 1
  row ← row_of n
  pure (record { rel = relation_of rel; row = row })

abbrev pub no_head : Head
no_head = record { name = []; kind = Kind.input; sort = Sort.integer; box = []; place = 0 }

-- the dimension of variable v
abbrev pub dimension : List Head → ℕ → ℕ
dimension hs v = length (get_or hs v no_head).box

unfoldable pub declared : List Head → Reader Declared
declared hs = do
  v ← choice (length hs - 1)
  c ← constraint (dimension hs v)
  pure (record { who = v; what = c })

-- ---- the third section: nodes

abbrev pub unary_of : ℕ → Unary
unary_of n = get_or (Unary.negate ∷ Unary.complement ∷ []) n Unary.negate

abbrev pub binaries : List Binary
binaries =
    Binary.plus ∷ Binary.minus ∷ Binary.times ∷ Binary.quot ∷ Binary.rem ∷ Binary.least ∷ Binary.most ∷ Binary.same ∷ Binary.differ ∷
    Binary.under ∷ Binary.up_to ∷ Binary.over ∷ Binary.from ∷ Binary.both ∷ Binary.either ∷ Binary.one ∷ []

abbrev pub binary_of : ℕ → Binary
binary_of n = get_or binaries n Binary.plus

-- dimension 0 to 4, constraint count 0 to 64, the constraints
unfoldable pub restriction : Reader Node
restriction = do
  d ← count 0 4
  n ← count 0 64
  cs ← repeat n (constraint d)
  pure (Node.n_restr d cs)

-- columns 0 to 4, rows 0 to 4, the rows
unfoldable pub dependence : Reader Node
dependence = do
  c ← count 0 4
  r ← count 0 4
  rows ← repeat r (row_of c)
  pure (Node.n_dep (record { cols = c; rows = rows }))

-- the fields of a node, by its code, where there are so many variables
unfoldable pub nodes : ℕ → List (Reader Node)
nodes vars =
    (choice (vars - 1) >>= λ v. pure (Node.n_var v)) ∷
    (number (neg_ℤ (pos 2147483648)) (pos 2147483647) >>= λ c. pure (Node.n_int c)) ∷
    (choice 1 >>= λ b. pure (Node.n_bool b)) ∷
    (choice 1 >>= λ o. pure (Node.n_unary (unary_of o))) ∷
    (choice 15 >>= λ o. pure (Node.n_binary (binary_of o))) ∷
    pure Node.n_if ∷
    (count 1 64 >>= λ n. pure (Node.n_case n)) ∷
    restriction ∷
    dependence ∷ []

-- a code from 0 to 8, then that node's fields
unfoldable pub node : ℕ → Reader Node
node vars = choice 8 >>= λ c. get_or (nodes vars) c (pure Node.n_if)

-- ---- the sheet

-- the bytes end here
unfoldable pub ended : {A : Type 0} → A → Reader A
ended a bs p = ifb (eqb p (length bs)) (λ _. got a p) (λ _. bad TAIL p)

-- 1 to 32 variables, 0 to 256 declared constraints, 0 to 2,048 nodes, and nothing more
unfoldable pub sections : Reader Raw
sections = do
  v ← count 1 32
  hs ← heads v [] 0
  second ← here
  c ← count 0 256
  ds ← repeat c (declared hs)
  third ← here
  n ← count 0 2048
  first ← here
  ns ← repeat n (node (length hs))
  ended (record { heads = hs; decls = ds; second = second; third = third; first = first; nodes = n })

-- the length first, then the rest
unfoldable pub read : List ℕ → Got Raw
read bs = ifb (leb (length bs) 65536) (λ _. sections bs 0) (λ _. bad LONG 0)
