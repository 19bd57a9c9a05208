-- A prepared sheet stays prepared where the table changes only in the places of the bodies. Assumes nothing.
use mathlib.Core.Path.{◌≡◌, refl, ◌∙◌}
use Prim.Native.Nat.{ℕ, ◌+◌, ◌≤◌, ◌<◌}
use native.Mathlib.Omega.{arith}
use mathlib.Core.List.{List}
use lib.ListN.{length, get_or, length-set}
use lib.Seq.{get_or-set_other, get_or-set_same}
use Rattle.sheet.specs.Table.{SameSheet, with_body}
use Rattle.tree.specs.Prepared.{Prepared}
use Rattle.sheet.specs.declared.table.Table.{Table}

pub prepared-kept : (bs : List ℕ) (tab tab' : Table) → Prepared bs tab → SameSheet tab tab' → Prepared bs tab'
prepared-kept bs tab tab' h same =
    let t = h.table in
    record {
      accepted = h.accepted;
      table = record {
        sized = same.sized ∙ t.sized;
        few = t.few;
        record_at = λ v lt. rw same.records (t.record_at v lt);
        first-element = λ v lt. rw same.firsts (t.first-element v lt);
        variables = same.variables ∙ t.variables;
        second = same.second ∙ t.second;
        third = same.third ∙ t.third;
        nodes = same.nodes ∙ t.nodes;
        first_node = t.first_node;
      };
    }

-- after a body's place was stored
module _ (tab : Table) (v p : ℕ) where
  pub stored-sized : length (with_body tab v p).bodies ≡ length tab.bodies
  stored-sized = length-set tab.bodies v p

  pub stored-same : SameSheet tab (with_body tab v p)
  stored-same = record { records = refl; firsts = refl; variables = refl; second = refl; third = refl; nodes = refl; sized = stored-sized }

  pub stored-kept : (i : ℕ) → i < v → get_or (with_body tab v p).bodies i 0 ≡ get_or tab.bodies i 0
  stored-kept i lt = get_or-set_other tab.bodies v i p 0 (λ e. omega arith)

  pub stored_here : length tab.bodies ≡ 33 → v ≤ 32 → get_or (with_body tab v p).bodies v 0 ≡ p
  stored_here sized few = get_or-set_same tab.bodies v p 0 (omega arith)

  pub stored-prepared : (bs : List ℕ) → Prepared bs tab → Prepared bs (with_body tab v p)
  stored-prepared bs h = prepared-kept bs tab (with_body tab v p) h stored-same
