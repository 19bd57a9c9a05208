-- The normaliser: the normal form's bytes, WIDE, ROOM.
-- Assumes nothing.
use Rattle.std.specs.Prelude.{ℕ, suc, ◌+◌, Bool, true, ◌&&◌, List, [], ◌∷◌, ◌++◌, length, take, leb}
use Rattle.alpha.specs.Pick.{ifb}
use Rattle.alpha.specs.Answer.{Answer, accepted, refused, next, WIDE}
use Rattle.alpha.specs.Field.{nat}
use Rattle.alpha.specs.Sheet.{Raw, Expr, Variable, Sheet}
use Rattle.alpha.specs.Read.{Got, got, bad, read}
use Rattle.alpha.specs.Holds.{variable, is_input}
use Rattle.alpha.specs.Check.{checked}
use Rattle.alpha.specs.Run.{room}
use Rattle.alpha.specs.Written.{bytes, node_count, depth}
use Rattle.alpha.specs.Normal.{Branch, norm, body_case}

abbrev pub dims : Sheet → ℕ → ℕ
dims s v = length (variable s v).head.box

-- the branches of a variable's body, and the body written from them
abbrev pub branches_of : Sheet → Variable → List Branch
branches_of s x = norm x.body (dims s)

abbrev pub normal_body : Sheet → Variable → Expr
normal_body s x = body_case (length x.head.box) (branches_of s x)

-- every branch has at most 64 constraints
abbrev pub narrow : List Branch → Bool
narrow [] = true
narrow (b ∷ bs) = leb (length b.given) 64 && narrow bs

-- a body keeps the limits, with the nodes so far and the bytes so far, its own included
abbrev pub keeps_limits : List Branch → Expr → ℕ → ℕ → Bool
keeps_limits bs e nodes bytes = leb nodes 2048 && leb (length bs) 64 && narrow bs && leb (depth e) 32 && leb bytes 65536

-- what is written so far: how many nodes, and their bytes
pub record Body : Type 0 where
  pub nodes : ℕ
  pub out : List ℕ

abbrev pub written : Body → Expr → Body
written w e = record { nodes = w.nodes + node_count e; out = w.out ++ bytes e }

-- the bodies of the variables from number v on. The first two sections and the node count have `front` bytes
unfoldable pub write_bodies : Sheet → ℕ → ℕ → Sheet → Body → Answer Body
write_bodies s front v [] w = accepted w
write_bodies s front v (x ∷ xs) w =
    ifb (is_input x) (λ _. write_bodies s front (suc v) xs w) (λ _.
    let w' = written w (normal_body s x) in
    ifb (keeps_limits (branches_of s x) (normal_body s x) w'.nodes (front + length w'.out)) (λ _. write_bodies s front (suc v) xs w') (λ _. refused WIDE v))

-- the first two sections are copied; the third is its count and the bodies
unfoldable pub normal_form : List ℕ → Raw → Sheet → Answer (List ℕ)
normal_form bs r s =
    next (write_bodies s (r.third + 8) 0 s (record { nodes = 0; out = [] })) (λ w.
    accepted (take r.third bs ++ nat w.nodes ++ w.out))

unfoldable pub normal_after : List ℕ → Got Raw → Answer (List ℕ)
normal_after bs (got r p) = next (checked bs r) (λ s. normal_form bs r s)
normal_after bs (bad n p) = refused n p

-- the bytes of the normal form, where so many bytes are lent
unfoldable pub normalise : List ℕ → ℕ → Answer (List ℕ)
normalise bs lent = next (normal_after bs (read bs)) (λ out. next (room (length out) lent) (λ _. accepted out))
