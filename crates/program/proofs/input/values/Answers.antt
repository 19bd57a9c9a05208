-- `program::values` meets its contract: each entry is the value of its four bytes. Assumes nothing.
use Rattle.std.proofs.Common.{◌≡◌, ◌+◌, ◌*◌, ◌<◌, ◌/◌, length, take, [], ◌∷◌, ◌++◌, add-one, refl, sym, ap, ◌∙◌, arith, rules}
use lib.Seq.{length-take-le}
use Rattle.std.proofs.lemmas.List.{take_more_set}
use mir.Syntax.{w32}
use mir.Val.{to_z, of_z}
use mir.Facts.{to_z-of_z}
use borrow.Author.Rules.{sfits_of}
use Rattle.alpha.specs.Program.{word4, value4, values_at}
use Rattle.program.proofs.Listing.{values-next, value-read}
use Rattle.program.proofs.input.values.Goals.{then-words-gt4096-via-then-words-gt4096, then-words-gt4096-via-else-words-gt4096+then-not-is_empty}
use Rattle.program.proofs.input.values.Goals as goal

pub loop-i-init : goal.loop-i-init
unfolding values_at
loop-i-init c = (search rules, refl)

pub loop-i-preserved : goal.loop-i-preserved
loop-i-preserved c =
    let l = c.loop-i in
    let rest = c.args.rest.now in
    let low : l.i < length rest / 4 = omega (arith, c.loop-i-test.true, c.as_chunks.ensures.front_len) in
    let read = rw c.as_chunks.ensures.front at c.from_le_bytes.ensures in
    let value : to_z w32 (of_z w32 c.from_le_bytes.result) ≡ value4 (word4 rest (4 * l.i)) =
    to_z-of_z {w = w32} (sfits_of c.from_le_bytes.type_inv) ∙ read ∙ value-read rest l.i _ low in
    let stored = take_more_set l.ins l.i (value4 (word4 rest (4 * l.i))) (omega arith) in
    let start : 0 + 4 * l.i ≡ 4 * l.i = omega arith in
    let all : values_at (l.i + 1) rest 0 ≡ values_at l.i rest 0 ++ (value4 (word4 rest (4 * l.i)) ∷ []) =
    rw (add-one, ← start) (values-next l.i rest 0) in
    (search rules, rw value (stored ∙ ap (λ vs. vs ++ (value4 (word4 rest (4 * l.i)) ∷ [])) l.invariant.1 ∙ sym all))

pub returns-then-words-gt4096 : goal.returns-then-words-gt4096
returns-then-words-gt4096 c =
    let many : length (take 4097 c.args.ins.now) ≡ 4097 = length-take-le 4097 c.args.ins.now c.requires in
    let n = c.as_chunks.ensures.front_len in
    let left = c.as_chunks.ensures.back_len in (
      record {
        whole = λ w f. absurd (elim c.then-words-gt4096.branch [
          | then-words-gt4096-via-then-words-gt4096 v ↦ omega (arith, n, v.if-words-gt4096.true)
          | then-words-gt4096-via-else-words-gt4096+then-not-is_empty v ↦ let none : length c.as_chunks.result.1.now ≡ 0 = left ∙ w in search rules
        ]);
        broken = λ h. many;
        long = λ h. many;
      },
      omega arith,
    )

pub returns : goal.returns
returns c =
    let l = c.loop-i in
    let n = c.as_chunks.ensures.front_len in
    let left = c.as_chunks.ensures.back_len in
    let none : length c.as_chunks.result.1.now ≡ 0 = search rules in
    let last : length c.as_chunks.result.0.now ≡ l.i = omega arith in
    let all : l.i ≡ length c.args.rest.now / 4 = omega (arith, n) in
    let are = ap (λ k. take k l.ins) last ∙ l.invariant.1 ∙ ap (λ k. values_at k c.args.rest.now 0) all in
    (record { whole = λ w f. are; broken = λ h. absurd (h (sym left ∙ none)); long = λ h. absurd (omega (arith, n, left, none)) }, omega arith)
