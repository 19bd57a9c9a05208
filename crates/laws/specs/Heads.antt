-- The records of the first two sections in the bytes, one after another, and how long each is. Assumes nothing.
use Rattle.std.specs.Prelude.{◌≡◌, ℕ, ◌+◌, ◌*◌, List, [], ◌∷◌, ◌++◌, nat_abs}
use Rattle.alpha.specs.Field.{field}
use Rattle.alpha.specs.Sheet.{Head}
use Rattle.alpha.specs.Box.{size}
use Rattle.alpha.specs.Read.{Reader, got, head_record, dimension}

-- the bytes of the variable's record at p: four fields, and two for each dimension
abbrev pub head_len : List ℕ → ℕ → ℕ
head_len bs p = 32 + nat_abs (field bs (p + 24)) * 16

-- the bytes of the declared constraint at p: its variable, its relation, a coefficient for each dimension, its constant
abbrev pub declared_len : List Head → List ℕ → ℕ → ℕ
declared_len hs bs p = 24 + 8 * dimension hs (nat_abs (field bs p))

-- a thing is read at p, and from its next place on stands the rest
pub record Before {A : Type 0} (r : Reader A) (bs : List ℕ) (p : ℕ) (a : A) (rest : ℕ → Type 0) : Type 0 where
  pub next : ℕ
  pub here : r bs p ≡ got a next
  pub after : rest next

-- the reader gives the list's items one after another from p up to q
unfoldable pub InRow : {A : Type 0} → List A → Reader A → List ℕ → ℕ → ℕ → Type 0
InRow [] r bs p q = p ≡ q
InRow (a ∷ l) r bs p q = Before r bs p a (λ m. InRow l r bs m q)

-- the records stand one after another from p up to q, where the earlier ones have their names
unfoldable pub HeadsAt : List Head → List Head → List ℕ → ℕ → ℕ → Type 0
HeadsAt [] earlier bs p q = p ≡ q
HeadsAt (h ∷ hs) earlier bs p q = Before (head_record earlier) bs p h (λ m. HeadsAt hs (earlier ++ (h ∷ [])) bs m q)

-- the points of the boxes
abbrev pub points_of : List Head → ℕ
points_of [] = 0
points_of (h ∷ hs) = size h.box + points_of hs
