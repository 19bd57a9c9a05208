-- The tables that a run fills from the memo: for every input list whose outcomes the memo's entries are right about. Assumes nothing.
use Rattle.std.specs.Prelude.{◌≡◌, ℕ, ◌+◌, ◌≤◌, ◌<◌, List, length, get_or, ℤ, pos}
use Rattle.alpha.specs.Sheet.{Sheet}
use Rattle.alpha.specs.Box.{size}
use Rattle.alpha.specs.Holds.{variable}
use Rattle.alpha.specs.Check.{total}
use Rattle.alpha.specs.Run.{code_of, value_of, outcome_at}
use Rattle.alpha.specs.Ask.{before}
use Rattle.evaluate.specs.Memo.{Memo, Right}
use Rattle.evaluate.specs.Working.{element_at, outcomes, Ready}
use Rattle.evaluate.specs.Settling.{Idle}

-- what the memo becomes while tables are filled from it
pub record Advances (s : Sheet) (memo memo' : Memo) : Type 0 where
  pub ready : Ready s memo'
  pub idle : Idle memo'
  pub right : (ins : List ℤ) → Right (outcomes s ins) (total s) memo → Right (outcomes s ins) (total s) memo'

-- places j of a code and a value table are the outcome of element m
pub record Shows (s : Sheet) (ins : List ℤ) (codes : List ℕ) (values : List ℤ) (j m : ℕ) : Type 0 where
  pub code : get_or codes j 0 ≡ code_of (outcome_at s ins (element_at s m))
  pub value : get_or values j (pos 0) ≡ value_of (outcome_at s ins (element_at s m))

-- the stretch of variable v is filled
pub record FillsVariable (s : Sheet) (v : ℕ) (memo memo' : Memo) (codes : List ℕ) (values : List ℤ) : Type 0 where
  pub advances : Advances s memo memo'
  pub codes_long : length codes ≡ size (variable s v).head.box
  pub values_long : length values ≡ size (variable s v).head.box
  pub shows : (ins : List ℤ) → Right (outcomes s ins) (total s) memo → (j : ℕ) → j < size (variable s v).head.box →
      Shows s ins codes values j (before s v + j)

-- the entries of both tables below n are filled, and the others are as before
pub record FillsAll (s : Sheet) (memo : Memo) (n : ℕ) (codes codes' : List ℕ) (values values' : List ℤ) : Type 0 where
  pub codes_long : length codes' ≡ length codes
  pub values_long : length values' ≡ length values
  pub shows : (ins : List ℤ) → Right (outcomes s ins) (total s) memo → (m : ℕ) → m < n → Shows s ins codes' values' m m
  pub codes_stay : (m : ℕ) → n ≤ m → get_or codes' m 0 ≡ get_or codes m 0
  pub values_stay : (m : ℕ) → n ≤ m → get_or values' m (pos 0) ≡ get_or values m (pos 0)

-- ---- what is required

-- the two parts are the stretch of variable v, and no element is in progress
pub record Stretch (s : Sheet) (memo : Memo) (v : ℕ) (codes : List ℕ) (values : List ℤ) : Type 0 where
  pub idle : Idle memo
  pub known : v < length s
  pub codes_long : length codes ≡ size (variable s v).head.box
  pub values_long : length values ≡ size (variable s v).head.box

-- both tables have an entry for each element, and none is in progress
pub record Room (s : Sheet) (memo : Memo) (codes : List ℕ) (values : List ℤ) : Type 0 where
  pub idle : Idle memo
  pub in_codes : total s ≤ length codes
  pub in_values : total s ≤ length values
