-- `domain::domains` meets its contract: once the table is filled, the sheet's trees may be walked. Assumes nothing.
use Rattle.domain.proofs.Records.{placed-grounds}
use Rattle.domain.proofs.domains.Goals as goal

pub invariant_of-ground : goal.invariant_of-ground
invariant_of-ground c = record { grounds = placed-grounds _ _ _ c.requires.0.placed c.fill.ensures }
