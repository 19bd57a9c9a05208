-- The one conditional of these definitions: neither branch runs before the test is known, and a proof can rewrite the test.
-- Assumes nothing.
use Rattle.std.specs.Prelude.{Bool, true, false}

abbrev pub ifb : {A : Type 0} → Bool → (Unit {0} → A) → (Unit {0} → A) → A
ifb true x y = x tt
ifb false x y = y tt
