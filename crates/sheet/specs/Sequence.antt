-- Items one after another, as code reads them: what each step answered, and what the whole answers by that. Assumes nothing.
use Rattle.std.specs.Prelude.{ℕ, zero, suc, ◌≡◌, List, nat_abs, Result, Ok, Err}
use Rattle.alpha.specs.Field.{field}
use Rattle.alpha.specs.Read.{count}
use Rattle.alpha.specs.declared.Refusal.{Refusal}
use Rattle.alpha.specs.Verdict.{told}
use Rattle.sheet.specs.Place.{place_after}

-- after a step's answer: what follows from the place that it came to, or its refusal
abbrev pub Onward : Result ℕ Refusal → (ℕ → Result ℕ Refusal → Type 0) → Result ℕ Refusal → Type 0
Onward (Ok p) Next r = Next p r
Onward (Err e) Next r = r ≡ Err e

-- a step taken n times from p on, each from where the one before came to, answers r
abbrev pub Repeated : (ℕ → Result ℕ Refusal → Type 0) → ℕ → ℕ → Result ℕ Refusal → Type 0
Repeated Step zero p r = r ≡ Ok p
Repeated Step (suc n) p r = (q : Result ℕ Refusal) × Step p q × Onward q (Repeated Step n) r

-- a count up to `most` is read at p, then a step is taken so many times: answers r
abbrev pub Counted : (ℕ → Result ℕ Refusal → Type 0) → List ℕ → ℕ → ℕ → Result ℕ Refusal → Type 0
Counted Step bs p most r =
    (q : Result ℕ Refusal) × (told q ≡ place_after (count 0 most bs p)) × Onward q (Repeated Step (nat_abs (field bs p))) r
