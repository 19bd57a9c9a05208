-- `normal::put_row` meets its contract. The loop's invariant: storing the coefficients that are left, and the constant, gives what storing
-- the whole row gives at the start. Assumes nothing.
use mathlib.Core.Path.{◌≡◌, refl, sym, ap, ◌∙◌}
use mathlib.Core.List.{◌++◌}
use Prim.Native.Nat.{◌+◌, ◌*◌}
use native.Mathlib.Omega.{arith}
use lib.ListN.{length}
use lib.Seq.{sets, length-sets}
use Rattle.std.proofs.Common.{rules, w64}
use Rattle.std.proofs.lemmas.Int.{to_z-of_z}
use Rattle.alpha.specs.Field.{num}
use Rattle.alpha.specs.Written.{flat}
use Rattle.affine.specs.Value.{at}
use Rattle.affine.proofs.Several.{map-several}
use Rattle.laws.proofs.Written.{length-num}
use Rattle.normal.proofs.Laying.{run, run-start, run-again, run-over}
use Rattle.normal.proofs.rows.put_row.Invariants.{coefficient}
use Rattle.normal.proofs.rows.put_row.Goals as goal

pub loop-j-init : goal.loop-j-init
loop-j-init c =
    let all = run-start c.args.n (coefficient c.args.r.now.coef) ∙ sym (ap flat (map-several num c.args.n (at c.args.r.now.coef))) in
    let start : c.args.to + 8 * 0 ≡ c.args.to = omega arith in
    let last = num c.args.r.now.constant in (
      ap (λ p. sets c.args.out.now p (run 0 c.args.n (coefficient c.args.r.now.coef) ++ last)) start
          ∙ ap (λ l. sets c.args.out.now c.args.to (l ++ last)) all,
      refl,
    )

pub loop-j-preserved : goal.loop-j-preserved
loop-j-preserved c =
    let l = c.loop-j in
    let put = rw (to_z-of_z w64 (at c.args.r.now.coef l.j) (search rules)) at c.put.ensures in
    let f = coefficient c.args.r.now.coef in
    let last = num c.args.r.now.constant in
    let next : c.args.to + 8 * (l.j + 1) ≡ c.args.to + 8 * l.j + 8 = omega arith in (
      ap (λ p. sets c.put.new.b p (run (l.j + 1) c.args.n f ++ last)) next
          ∙ run-again c.args.n f l.out _ (c.args.to + 8 * l.j) l.j 8 last c.loop-j-test.true put (length-num (at c.args.r.now.coef l.j))
          ∙ l.invariant.0,
      ap length put ∙ length-sets l.out (c.args.to + 8 * l.j) (f l.j) ∙ l.invariant.1,
    )

pub returns : goal.returns
returns c =
    let l = c.loop-j in
    let last = num c.args.r.now.constant in
    let over : c.args.n ≡ l.j = omega (arith, c.loop-j-test.false) in
    rw (to_z-of_z w64 c.args.r.now.constant (search rules)) at c.put-2.ensures ∙ ap (λ i. sets l.out (c.args.to + 8 * i) last) over
    ∙ run-over c.args.n (coefficient c.args.r.now.coef) l.out (c.args.to + 8 * l.j) l.j last (omega arith) ∙ l.invariant.0
