-- Elements that are worked out one before another: those in progress stand on a stack, each waiting for the next. Assumes nothing.
use Rattle.std.specs.Prelude.{◌≡◌, ℕ, suc, ◌+◌, ◌≤◌, ◌<◌, List, length, get_or, ℤ}
use Rattle.alpha.specs.Sheet.{Sheet}
use Rattle.alpha.specs.Holds.{variable}
use Rattle.alpha.specs.Check.{total}
use Rattle.alpha.specs.Outcome.{loop}
use Rattle.alpha.specs.declared.Outcome.{Outcome}
use Rattle.laws.specs.Sheets.{vars_of}
use Rattle.integer.specs.Range as Range
use Rattle.evaluate.specs.Memo.{busy, unknown, Thing, Memo, code_at, saved_at, sum, busy_one, to_do, Right}
use Rattle.evaluate.specs.Working.{element_at, outcomes, expression, Ready}
use Rattle.sheet.specs.declared.table.Table.{Table}

-- v is the variable of element e, by the table of places
pub record Owns (bs : List ℕ) (tab : Table) (e v : ℕ) : Type 0 where
  pub known : v < vars_of bs
  pub from : get_or tab.firsts v 0 ≤ e
  pub below_next : e < get_or tab.firsts (v + 1) 0

-- the body of element m by depth
abbrev pub body_of : Sheet → ℕ → List ℤ → Thing
body_of s m ins = expression s ins (variable s (element_at s m).who).body (element_at s m).at

-- the element at place j of a stack
abbrev pub standing : List ℕ → ℕ → ℕ
standing stack j = get_or stack j 0

-- the elements in progress are those on the stack up to its height, each once
pub record Stacked (s : Sheet) (memo : Memo) (stack : List ℕ) (high : ℕ) : Type 0 where
  pub sized : length stack ≡ 4096
  pub height : high ≡ sum busy_one memo.codes
  pub element : (j : ℕ) → j < high → standing stack j < total s
  pub marked : (j : ℕ) → j < high → code_at memo (standing stack j) ≡ busy
  pub found : (m : ℕ) → m < total s → code_at memo m ≡ busy → (j : ℕ) × (j < high) × (standing stack j ≡ m)
  pub apart : (i j : ℕ) → i < j → j < high → standing stack i ≡ standing stack j → ⊥

-- and there is one at least
pub record StackedSome (s : Sheet) (memo : Memo) (stack : List ℕ) (high : ℕ) : Type 0 where
  pub stacked : Stacked s memo stack high
  pub some : 1 ≤ high

-- each waits for the next: where the next loops, its body does
pub record Linked (s : Sheet) (ins : List ℤ) (stack : List ℕ) (high : ℕ) : Type 0 where
  pub link : (j : ℕ) → suc j < high → (k : ℕ) → outcomes s ins k (standing stack (suc j)) ≡ loop → body_of s (standing stack j) ins k ≡ loop

-- what a turn leaves of a stack: less to do, the same first element, which is settled where none is left
pub record Turned (s : Sheet) (memo : Memo) (stack : List ℕ) (high : ℕ) (memo' : Memo) (stack' : List ℕ) (high' : ℕ) : Type 0 where
  pub ready : Ready s memo'
  pub stacked : Stacked s memo' stack' high'
  pub less : sum to_do memo'.codes < sum to_do memo.codes
  pub first : standing stack' 0 ≡ standing stack 0
  pub settled : high' ≡ 0 → code_at memo' (standing stack 0) ≤ 4
  pub right : (ins : List ℤ) → Right (outcomes s ins) (total s) memo → Linked s ins stack high →
      Right (outcomes s ins) (total s) memo' × Linked s ins stack' high'

-- no element is in progress
abbrev pub Idle : Memo → Type 0
Idle memo = sum busy_one memo.codes ≡ 0

-- element e, while none is in progress
pub record Alone (s : Sheet) (memo : Memo) (e : ℕ) : Type 0 where
  pub idle : Idle memo
  pub element : e < total s

-- an unknown one
pub record Open (s : Sheet) (memo : Memo) (e : ℕ) : Type 0 where
  pub alone : Alone s memo e
  pub late : unknown ≤ code_at memo e

-- one in progress
pub record Busy (s : Sheet) (memo : Memo) (e : ℕ) : Type 0 where
  pub element : e < total s
  pub marked : code_at memo e ≡ busy

-- element e is settled, with the outcome o, and every entry is right where every one was
pub record Settled (s : Sheet) (e : ℕ) (memo memo' : Memo) (o : Outcome) : Type 0 where
  pub ready : Ready s memo'
  pub idle : Idle memo'
  pub settled : code_at memo' e ≤ 4
  pub says : Range.Says o (saved_at memo' e)
  pub right : (ins : List ℤ) → Right (outcomes s ins) (total s) memo → Right (outcomes s ins) (total s) memo'
