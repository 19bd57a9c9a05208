-- `accept::admit` meets its contract. Assumes nothing.
use mathlib.Core.Path.{refl}
use Rattle.std.proofs.lemmas.Result.{err_from_is_err_and}
use Rattle.accept.proofs.Steps.{faults-admit, all-admit}
use Rattle.accept.proofs.admit.Goals as goal

pub returns-in_err-domains : goal.returns-in_err-domains
returns-in_err-domains c =
    let p = err_from_is_err_and c.from_residual.result c.from_residual.ensures.1 in
    rw (p.1, p.2) (faults-admit _ _ _ _ _ c.requires.0 refl c.in_err-domains.ensures.1)

pub returns : goal.returns
returns c =
    let walked = c.in_ok-domains.ensures in
    all-admit _ _ _ _ _ c.requires.0 walked.0 c.requires.1 refl walked.1
