-- The program from what is read to what is written: the read bytes are the input's first, and the output to these is the output to the
-- input. Assumes nothing.
use Rattle.std.proofs.Common.{◌≡◌, ℕ, List, ◌++◌, length, take, drop, Option, None, Some, Result, Ok, Err, IfSome, OnOk, refl, sym, ap, ◌∙◌, subst}
use Rattle.std.proofs.lemmas.List.{take_at}
use Rattle.std.specs.Io.KnownBytes.{Appends}
use Rattle.alpha.specs.Program.{program}
use Rattle.program.specs.Printed.{printed_in}
use Rattle.program.proofs.Stopping.{program-stops}

-- where 208,910 bytes are lent, the part of them that is told is the output
pub told-part : (bs out out' : List ℕ) (r : ℕ) → out' ≡ printed_in (length out) bs ++ drop (length (printed_in (length out) bs)) out
    → r ≡ length (printed_in (length out) bs) → length out ≡ 208910 → take r out' ≡ program bs
told-part bs out out' r text long lent =
    let written = printed_in (length out) bs in
    ap (take r) text ∙ ap (λ n. take n (written ++ drop (length written) out)) long ∙ take_at written _ _ refl ∙ ap (λ n. printed_in n bs) lent

-- what is written for the part that is read is what is written for the whole input
pub writes-whole : {A E : Type 0} (left held new : Option (List ℕ)) (read text : List ℕ) (r : Result A E) → IfSome left (λ bs. read ≡ take 81932 bs)
    → text ≡ program read → OnOk r (Appends held new text) → OnOk r (IfSome left (λ bs. Appends held new (program bs)))
writes-whole left held new read text (Err e) from is w = tt
writes-whole None held new read text (Ok x) from is w = tt
writes-whole (Some bs) held new read text (Ok x) from is w = subst (Appends held new) (is ∙ ap program from ∙ sym (program-stops bs)) w
