-- `map_read` meets its contract: where a dependence stands at p no guard stops, and its fields are read. Assumes nothing.
use Rattle.std.proofs.Common.{arith}
use Rattle.affine.proofs.Fetched.{span_same, no-map, rows-map}
use Rattle.affine.proofs.map_read.Goals.{then-len-lt16-via-then-len-lt16, then-len-lt16-via-else-len-lt16+then-len-p}
use Rattle.affine.proofs.map_read.Goals.{then-n-gt4-via-then-n-gt4, then-n-gt4-via-else-n-gt4+then-k-gt4}
use Rattle.affine.proofs.map_read.Goals.{then-n-gt4-via-else-n-gt4+else-k-gt4+then-len-p-2}
use Rattle.affine.proofs.map_read.Goals as goal

pub returns-then-len-lt16 : goal.returns-then-len-lt16
returns-then-len-lt16 c =
    no-map c.args.b.now c.args.p c.identity.result c.identity.ensures.1
    (λ f q g. elim c.then-len-lt16.branch [
      | then-len-lt16-via-then-len-lt16 w ↦ omega arith
      | then-len-lt16-via-else-len-lt16+then-len-p w ↦ omega arith
    ])

pub returns-then-n-gt4 : goal.returns-then-n-gt4
returns-then-n-gt4 c =
    let span = span_same c.size_at-n.ensures c.size_at-k.ensures in
    no-map c.args.b.now c.args.p c.identity-then-n-gt4.result c.identity-then-n-gt4.ensures.1
    (λ f q g. elim c.then-n-gt4.branch [
      | then-n-gt4-via-then-n-gt4 w ↦ omega arith
      | then-n-gt4-via-else-n-gt4+then-k-gt4 w ↦ omega arith
      | then-n-gt4-via-else-n-gt4+else-k-gt4+then-len-p-2 w ↦ omega (arith, g.next, g.inside)
    ])

pub returns : goal.returns
returns c =
    rows-map c.args.b.now c.args.p c.size_at-n.result c.size_at-k.result c.size_at-n.ensures c.size_at-k.ensures c.rows_read.result c.rows_read.ensures
