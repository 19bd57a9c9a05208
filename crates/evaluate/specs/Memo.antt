-- The memo: for each element by its number a code and a value. Codes 0 to 4 are document 01's, of elements that are settled; 5 marks
-- an element in progress, 6 an unknown one. `out k m` is the outcome of element m at depth k; a thing that is worked out is its outcome
-- by depth. Assumes nothing.
use Rattle.std.specs.Prelude.{◌≡◌, Result, Ok, Err, ℕ, suc, ◌+◌, ◌/◌, ◌%◌, ◌≤◌, ◌<◌, List, [], ◌∷◌, map, length, get_or, set, ℤ, pos, ◌-ℤ◌, leb, eqb}
use Rattle.alpha.specs.Pick.{ifb}
use Rattle.alpha.specs.Outcome.{Outcome, loop}
use Rattle.alpha.specs.declared.Outcome as Declared
use Rattle.alpha.specs.Verdict.{outcome_of, code_for, value_for}
use Rattle.laws.specs.Under.{Under}
use Rattle.laws.specs.Coded.{decoded}
use Rattle.integer.specs.Range as Range
use Rattle.evaluate.specs.declared.Awaited.{Awaited}

abbrev pub busy : ℕ
busy = 5

abbrev pub unknown : ℕ
unknown = 6

-- what a thing that is worked out answers: its outcome, or the element that has to be worked out first
abbrev pub Work : Type 0
Work = Result Declared.Outcome Awaited

-- the outcome by depth of one thing, and of each element
abbrev pub Thing : Type 0
Thing = ℕ → Outcome

abbrev pub Elements : Type 0
Elements = ℕ → ℕ → Outcome

-- not LOOP at a depth: the same at every greater one
abbrev pub Grows : Thing → Type 0
Grows f = (j k : ℕ) → j ≤ k → Under (f j) (f k)

-- element m by depth
abbrev pub element : Elements → ℕ → Thing
element out m k = out k m

pub record Memo : Type 0 where
  pub codes : List ℕ
  pub values : List ℤ

abbrev pub code_at : Memo → ℕ → ℕ
code_at memo m = get_or memo.codes m 0

-- entries as numbers: the code in the low three bits, and above them 32 bits of the value, counted from -2147483648
abbrev pub code_in : ℕ → ℕ
code_in n = n % 8

abbrev pub value_in : ℕ → ℤ
value_in n = pos (n / 8 % 4294967296) -ℤ pos 2147483648

abbrev pub value_at : Memo → ℕ → ℤ
value_at memo m = get_or memo.values m (value_in 0)

-- the outcome that the entry of element m stands for: an element in progress is LOOP
abbrev pub saved_at : Memo → ℕ → Outcome
saved_at memo m = decoded (code_at memo m) (value_at memo m)

unfoldable pub memo_of : List ℕ → Memo
memo_of entries = record { codes = map code_in entries; values = map value_in entries }

-- ---- how many entries of a kind there are: each code counts as w says
unfoldable pub sum : (ℕ → ℕ) → List ℕ → ℕ
sum w [] = 0
sum w (c ∷ cs) = w c + sum w cs

-- settled, and no loop
abbrev pub settled_one : ℕ → ℕ
settled_one c = ifb (leb c 3) (λ _. 1) (λ _. 0)

-- in progress
abbrev pub busy_one : ℕ → ℕ
busy_one c = ifb (eqb c busy) (λ _. 1) (λ _. 0)

-- still to be done: an unknown element is marked, and then settled
abbrev pub to_do : ℕ → ℕ
to_do c = ifb (eqb c busy) (λ _. 1) (λ _. ifb (eqb c unknown) (λ _. 2) (λ _. 0))

abbrev pub count : Memo → ℕ
count memo = sum settled_one memo.codes

-- ---- what is true of a memo

-- it has an entry for each of n elements
pub record Sized (n : ℕ) (memo : Memo) : Type 0 where
  pub room : n ≤ length memo.codes
  pub pairs : length memo.values ≡ length memo.codes

-- the outcome o tells what f is at depth c, and a loop what it is at every depth
pub record Tells (f : Thing) (c : ℕ) (o : Outcome) : Type 0 where
  pub is : f c ≡ o
  pub stuck : o ≡ loop → (k : ℕ) → f k ≡ loop

-- every entry of the n elements is right: a settled one tells what its element is at a depth of as many as are settled
pub record Right (out : Elements) (n : ℕ) (memo : Memo) : Type 0 where
  pub settled : (m : ℕ) → m < n → code_at memo m ≤ 4 → Tells (element out m) (count memo) (saved_at memo m)

-- every element in progress waits for f: where f loops at a depth, it loops at the next
pub record Waits (out : Elements) (n : ℕ) (memo : Memo) (f : Thing) : Type 0 where
  pub waits : (m : ℕ) → m < n → code_at memo m ≡ busy → (k : ℕ) → f k ≡ loop → out (suc k) m ≡ loop

-- ---- what an answer says of f, where c entries are settled: an outcome tells what f is at depth c, and f loops where the element that
-- has to be worked out first does
unfoldable pub Says : Elements → Thing → ℕ → Work → Type 0
Says out f c (Ok o) = Tells f c (outcome_of o)
Says out f c (Err d) = (k : ℕ) → out k d.element ≡ loop → f k ≡ loop

pub record Said (out : Elements) (n : ℕ) (last : Memo) (f : Thing) (r : Work) : Type 0 where
  pub right : Right out n last
  pub says : Says out f (count last) r

-- ---- what working something out changes in the memo: as many entries, no fewer settled, the same elements in progress, no entry
-- unsettled that was settled, no code past the last, and no more to do
pub record Kept (memo last : Memo) : Type 0 where
  pub long : length last.codes ≡ length memo.codes
  pub paired : length last.values ≡ length memo.values
  pub more : count memo ≤ count last
  pub still : (m : ℕ) → code_at memo m ≡ busy → code_at last m ≡ busy
  pub idle : (m : ℕ) → code_at last m ≡ busy → code_at memo m ≡ busy
  pub opened : (m : ℕ) → 4 < code_at last m → 4 < code_at memo m
  pub low : ((m : ℕ) → code_at memo m ≤ unknown) → (m : ℕ) → code_at last m ≤ unknown
  pub marks : sum busy_one last.codes ≡ sum busy_one memo.codes
  pub less : sum to_do last.codes ≤ sum to_do memo.codes

-- an element that is to be worked out first is one of the n, and unknown
abbrev pub Wanted : ℕ → Memo → Work → Type 0
Wanted n memo (Ok o) = Unit {0}
Wanted n memo (Err d) = (d.element < n) × (code_at memo d.element ≡ unknown)

-- a value is in the 32-bit range
abbrev pub Small : Work → Type 0
Small (Ok o) = Range.Small o
Small (Err d) = Unit {0}

-- ---- entries read and stored

-- what the memo answers for element e: the outcome of its entry, or that it has to be worked out first where it is unknown
abbrev pub Known : Memo → ℕ → Work → Type 0
Known memo e (Ok o) = (code_at memo e ≤ busy) × Range.Says o (saved_at memo e)
Known memo e (Err d) = (unknown ≤ code_at memo e) × (d.element ≡ e)

-- the memo with another entry at m
abbrev pub noted : Memo → ℕ → ℕ → ℤ → Memo
noted memo m c x = record { codes = set memo.codes m c; values = set memo.values m x }

-- the entry of an answer: document 01's code and value of its outcome; an element that waits for another is unknown again
abbrev pub code_of : Work → ℕ
code_of (Ok o) = code_for o
code_of (Err d) = unknown

abbrev pub value_of : Work → ℤ
value_of (Ok o) = value_for o
value_of (Err d) = pos 0

-- the memo with the entry of an answer at m
abbrev pub stored : Memo → ℕ → Work → Memo
stored memo m r = noted memo m (code_of r) (value_of r)
