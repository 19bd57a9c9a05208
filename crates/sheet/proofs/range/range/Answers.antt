-- `range` meets its contract: lo, then hi from lo on. Assumes nothing.
use mathlib.Core.Path.{sym, ap, ◌∙◌}
use lib.IntN.{ℤ, pos, neg_ℤ}
use Rattle.std.proofs.Common.{rules, w64}
use Rattle.std.proofs.lemmas.Int.{to_z-of_z}
use Rattle.alpha.specs.Read.{number}
use Rattle.sheet.specs.Place.{place_after}
use Rattle.sheet.proofs.Readers.{range-place, goes_on, stops, handed-on}
use Rattle.sheet.proofs.Places.{number-came}
use Rattle.sheet.proofs.range.range.Goals as goal

pub returns-in_err-p : goal.returns-in_err-p
returns-in_err-p c = handed-on _ _ c.from_residual.ensures.1 (stops _ c.in_err-p.ensures ∙ sym (range-place _ _))

pub number_at-lo-requires : goal.number_at-lo-requires
number_at-lo-requires c = (number-came _ _ (neg_ℤ (pos 32768)) (pos 32767) c.in_ok-p.ensures).there

pub returns : goal.returns
returns c =
    let s = c.args.s.now in
    c.number_field-2.ensures
    ∙ ap (λ (x : ℤ). place_after (number x (pos 32767) s c.in_ok-p.p)) (to_z-of_z w64 c.number_at-lo.result (search rules) ∙ c.number_at-lo.ensures)
    ∙ goes_on _ c.in_ok-p.ensures ∙ sym (range-place _ _)
