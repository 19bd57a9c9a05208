-- `tree::shapes` meets its contract: what the variables from v on answer is what all of them answer. Assumes nothing.
use Rattle.std.specs.Prelude.{Option, Some, None, Ok, Err}
use Rattle.std.specs.Option.{ok_or}
use Rattle.std.proofs.lemmas.Result.{err_from_is_err_and}
use mathlib.Core.Path.{◌≡◌, refl, sym, ap, ◌∙◌}
use Prim.Native.Nat.{◌+◌, ◌<◌}
use native.Mathlib.Omega.{arith}
use Rattle.alpha.specs.declared.Refusal.{Refusal}
use Rattle.tree.specs.declared.Rest.{Rest}
use Rattle.laws.specs.Sheets.{vars_of}
use Rattle.tree.proofs.Heading.{prepared-sections}
use Rattle.tree.proofs.Forming.{all_left, all-shaped, kept-prepared, shapes-bad, shapes-go, shapes-end, shapes-over}
use Rattle.tree.proofs.shapes.shapes.Goals as goal

-- what `ok_or` answers says whether there was a body
refused-none : (o : Option Rest) (e r : Refusal) → Err r ≡ ok_or o e → (None ≡ o) × (r ≡ e)
refused-none None e r h = (refl, cc)
refused-none (Some x) e r h = absurd cc

passed-some : (o : Option Rest) (e : Refusal) (x : Rest) → Ok x ≡ ok_or o e → Some x ≡ o
passed-some None e x h = absurd cc
passed-some (Some y) e x h = cc

pub overflow_add-rest : goal.overflow_add-rest
overflow_add-rest c =
    let h = c.requires in
    let s = prepared-sections _ _ h in
    omega (arith, s.first_there, s.first_is, c.third_place.ensures, h.table.third)

pub loop-v-init : goal.loop-v-init
loop-v-init c =
    all_left _ _ c.requires _ (ap (λ x. x + 8) c.third_place.ensures) c.node_count.ensures

pub keep_body-requires : goal.keep_body-requires
keep_body-requires c =
    let h = c.requires in
    omega (arith, (prepared-sections _ _ h).few, c.variable_count-n.ensures, h.table.variables)

pub body-requires : goal.body-requires
body-requires c =
    let h = c.requires in
    let known : c.loop-v.v < vars_of c.args.s.now = omega (arith, c.variable_count-n.ensures, h.table.variables) in
    let kept = kept-prepared _ _ _ _ _ _ c.loop-v.invariant (omega arith) in
    (record { prepared = rw c.keep_body.ensures kept; known = known }, c.loop-v.invariant.flat)

pub returns-in_err-rest : goal.returns-in_err-rest
returns-in_err-rest c =
    let h = c.requires in
    let known : c.loop-v.v < vars_of c.args.s.now = omega (arith, c.variable_count-n.ensures, h.table.variables) in
    let p = err_from_is_err_and c.from_residual.result c.from_residual.ensures.1 in
    let none = refused-none _ _ _ c.in_err-rest.ensures.value in
    let bad = shapes-bad _ _ _ _ _ _ c.loop-v.invariant known (none.0 ∙ c.body.ensures.is) in
    let first = ap (λ x. x + 8) c.third_place.ensures in
    all-shaped _ _ h _ first c.node_count.ensures _ _ (rw (c.keep_body.ensures, p.1, p.2, none.1) bad)

pub loop-v-preserved : goal.loop-v-preserved
loop-v-preserved c =
    let h = c.requires in
    let known : c.loop-v.v < vars_of c.args.s.now = omega (arith, c.variable_count-n.ensures, h.table.variables) in
    let some = passed-some _ _ _ c.in_ok-rest.ensures.value in
    let body = c.body.ensures in
    rw c.keep_body.ensures (shapes-go _ _ _ _ _ _ c.loop-v.invariant known _ (some ∙ body.is) (body.flat _ (sym some)))

pub keep_body-requires-2 : goal.keep_body-requires-2
keep_body-requires-2 c =
    let h = c.requires in
    omega (arith, (prepared-sections _ _ h).few, c.variable_count-n.ensures, h.table.variables)

pub returns-then-rest-eq0 : goal.returns-then-rest-eq0
returns-then-rest-eq0 c =
    let h = c.requires in
    let first = ap (λ x. x + 8) c.third_place.ensures in
    let all : c.loop-v.v ≡ c.variable_count-n.result = omega arith in
    let known : c.loop-v.v ≡ vars_of c.args.s.now = all ∙ c.variable_count-n.ensures ∙ h.table.variables in
    let ends = shapes-end _ _ _ _ _ _ c.loop-v.invariant known c.if-rest-eq0.true in
    all-shaped _ _ h _ first c.node_count.ensures _ _ (rw (c.keep_body-2.ensures, ← all) ends)

pub returns-else-rest-eq0 : goal.returns-else-rest-eq0
returns-else-rest-eq0 c =
    let h = c.requires in
    let first = ap (λ x. x + 8) c.third_place.ensures in
    let all : c.loop-v.v ≡ c.variable_count-n.result = omega arith in
    let known : c.loop-v.v ≡ vars_of c.args.s.now = all ∙ c.variable_count-n.ensures ∙ h.table.variables in
    let over = shapes-over _ _ _ _ _ _ c.loop-v.invariant known (omega arith) in
    all-shaped _ _ h _ first c.node_count.ensures _ _ (rw (c.keep_body-2.ensures, ← all) over)
