-- Every refusal that the definitions give is one of document 01's fifteen with its place, so there is an answer to every call, whatever it is
-- given. Assumes nothing.
use Rattle.std.specs.Prelude.{Result, Ok, Err}
use mathlib.Core.Path.{◌≡◌, refl, ap, ◌∙◌}
use Prim.Native.Nat.{ℕ, zero, suc, ◌+◌, ◌-◌, ◌^◌}
use mathlib.Core.Bool.{Bool, true, false, not, ◌&&◌}
use mathlib.Core.List.{List, [], ◌∷◌, ◌++◌}
use lib.ListN.{length, get_or, take, drop}
use lib.IntN.{ℤ, pos, nat_abs, neg_ℤ}
use lib.Dec.{leb, eqb}
use Rattle.alpha.specs.Pick.{ifb}
use Rattle.alpha.specs.Answer.{Answer, accepted, refused, next, COUNT, NAME, NUMBER, CUT, TYPE, REACH}
use Rattle.alpha.specs.Sheet.{Kind, Kind.input, Kind.output, Kind.local, Sort, Sort.integer, Sort.boolean, Node, Head, Raw, Expr, Variable, Sheet, Point}
use Rattle.alpha.specs.Field.{field, eight, name_form}
use Rattle.alpha.specs.Box.{within, size}
use Rattle.alpha.specs.Read as Read
use Rattle.alpha.specs.Read.{Got, got, bad, Reader, after, ◌>>=◌, pure, repeat, passing, count, number, choice, free, taken, name_field, range, head_record}
use Rattle.alpha.specs.Read.{heads, row_of, constraint, declared, restriction, dependence, nodes, node, ended, sections, read}
use Rattle.alpha.specs.Shape.{Parsed, tree, ill, expr_at, fits, shaped, body_of, bodies}
use Rattle.alpha.specs.Holds.{variable, is_input, holds, clashes}
use Rattle.alpha.specs.Check.{Element, elements, total, first, typed, reached, tested, fault, faults, checked, after_read, check}
use Rattle.alpha.specs.Run.{input_count, bits, entries_of, entries, inputs, room, admitted, run}
use Rattle.alpha.specs.Normalise.{branches_of, normal_body, keeps_limits, Body, written, write_bodies, normal_form, normal_after, normalise}
use Rattle.alpha.specs.Ask.{asks, element_number, body_part, bytes_in}
use Rattle.alpha.specs.Ask as Ask
use Rattle.alpha.specs.Verdict.{number_of, place_of, told}
use Rattle.alpha.specs.Promise.{total_of, lent_after, Checks, Runs, Normalises, Numbers, Finds}
use Rattle.alpha.specs.declared.Refusal.{Refusal}
use Rattle.alpha.specs.declared.Refusal.TheVariants.{Long, Cut, Count, Name, Number, Tail, Shape, Typing, Reach, Gap, Clash, Input, Wide, Room, Ask}
use Rattle.laws.specs.Writable.{All}

-- number n and place p are those of a refusal
record Listed (n p : ℕ) : Type 0 where
  refusal : Refusal
  number_is : number_of refusal ≡ n
  place_is : place_of refusal ≡ p

abbrev the : (k : Refusal) → Listed (number_of k) (place_of k)
the k = record { refusal = k; number_is = refl; place_is = refl }

-- ---- readers

abbrev Fair : {A : Type 0} → Got A → Type 0
Fair (got a q) = Unit {0}
Fair (bad n p) = Listed n p

abbrev FairReader : {A : Type 0} → Reader A → Type 0
FairReader r = (bs : List ℕ) (p : ℕ) → Fair (r bs p)

fair-after : {A B : Type 0} (m : Got A) (k : A → ℕ → Got B) → Fair m → ((a : A) (q : ℕ) → Fair (k a q)) → Fair (after m k)
fair-after (got a q) k h f = f a q
fair-after (bad n p) k h f = h

fair-then : {A B : Type 0} (m : Reader A) (k : A → Reader B) → FairReader m → ((a : A) → FairReader (k a)) → FairReader (m >>= k)
fair-then m k h f bs p = fair-after (m bs p) (λ a q. k a bs q) (h bs p) (λ a q. f a bs q)

fair-pure : {A : Type 0} (a : A) → FairReader (pure a)
fair-pure a bs p = tt

fair-repeat : {A : Type 0} (n : ℕ) (r : Reader A) → FairReader r → FairReader (repeat n r)
fair-repeat zero r h bs p = tt
fair-repeat (suc n) r h bs p =
    fair-after (r bs p) _ (h bs p) (λ a q. fair-after (repeat n r bs q) _ (fair-repeat n r h bs q) (λ l q'. tt))

fair-passing : (n : ℕ) (test : ℤ → Bool) → ((p : ℕ) → Listed n p) → FairReader (passing n test)
unfolding passing
fair-passing n test l bs p = go (Read.room bs p) (test (field bs p))
  where
    go : (a b : Bool) → Fair (ifb a (λ _. ifb b (λ _. got (field bs p) (p + 8)) (λ _. bad n p)) (λ _. bad CUT p))
    go true true = tt
    go true false = l p
    go false b = the (Cut p)

fair-count : (lo hi : ℕ) → FairReader (count lo hi)
fair-count lo hi = fair-then (passing COUNT (within (pos lo) (pos hi))) _ (fair-passing COUNT (within (pos lo) (pos hi)) (λ p. the (Count p))) (λ x. fair-pure (nat_abs x))

fair-number : (lo hi : ℤ) → FairReader (number lo hi)
fair-number lo hi = fair-passing NUMBER (within lo hi) (λ p. the (Number p))

fair-choice : (hi : ℕ) → FairReader (choice hi)
fair-choice hi = fair-then (number (pos 0) (pos hi)) _ (fair-number (pos 0) (pos hi)) (λ x. fair-pure (nat_abs x))

fair-free : FairReader free
fair-free = fair-number (neg_ℤ (pos (2 ^ 40))) (pos (2 ^ 40))

fair-name : (earlier : List Head) → FairReader (name_field earlier)
unfolding name_field
fair-name earlier bs p = go (Read.room bs p) (name_form (eight bs p) && not (taken (eight bs p) earlier))
  where
    go : (a b : Bool) → Fair (ifb a (λ _. ifb b (λ _. got (eight bs p) (p + 8)) (λ _. bad NAME p)) (λ _. bad CUT p))
    go true true = tt
    go true false = the (Name p)
    go false b = the (Cut p)

fair-range : FairReader range
unfolding range
fair-range =
    fair-then (number (neg_ℤ (pos 32768)) (pos 32767)) _ (fair-number (neg_ℤ (pos 32768)) (pos 32767)) (λ lo.
    fair-then (number lo (pos 32767)) _ (fair-number lo (pos 32767)) (λ hi bs p. tt))

fair-head : (earlier : List Head) → FairReader (head_record earlier)
unfolding head_record
fair-head earlier bs p =
    fair-after (name_field earlier bs p) _ (fair-name earlier bs p) (λ name q₁.
    fair-after (choice 2 bs q₁) _ (fair-choice 2 bs q₁) (λ kind q₂.
    fair-after (choice 1 bs q₂) _ (fair-choice 1 bs q₂) (λ sort q₃.
    fair-after (count 0 4 bs q₃) _ (fair-count 0 4 bs q₃) (λ n q₄.
    fair-after (repeat n range bs q₄) _ (fair-repeat n range fair-range bs q₄) (λ box q₅. tt)))))

fair-heads : (k : ℕ) (earlier : List Head) (points : ℕ) → FairReader (heads k earlier points)
unfolding heads
fair-heads zero earlier points bs p = tt
fair-heads (suc k) earlier points bs p =
    fair-after (head_record earlier bs p) _ (fair-head earlier bs p) (λ h q.
    go (leb (points + size h.box) 4096) (heads k (earlier ++ (h ∷ [])) (points + size h.box) bs q) (fair-heads k (earlier ++ (h ∷ [])) (points + size h.box) bs q))
  where
    go : (t : Bool) (m : Got (List Head)) → Fair m → Fair (ifb t (λ _. m) (λ _. bad COUNT p))
    go true m h = h
    go false m h = the (Count p)

fair-row : (n : ℕ) → FairReader (row_of n)
unfolding row_of
fair-row n = fair-then (repeat n free) _ (fair-repeat n free fair-free) (λ cs. fair-then free _ fair-free (λ c bs p. tt))

fair-constraint : (n : ℕ) → FairReader (constraint n)
unfolding constraint
fair-constraint n = fair-then (choice 1) _ (fair-choice 1) (λ rel. fair-then (row_of n) _ (fair-row n) (λ row bs p. tt))

fair-declared : (hs : List Head) → FairReader (declared hs)
unfolding declared
fair-declared hs =
    fair-then (choice (length hs - 1)) _ (fair-choice (length hs - 1)) (λ v.
    fair-then (constraint (Read.dimension hs v)) _ (fair-constraint (Read.dimension hs v)) (λ c bs p. tt))

fair-restriction : FairReader restriction
unfolding restriction
fair-restriction =
    fair-then (count 0 4) _ (fair-count 0 4) (λ d.
    fair-then (count 0 64) _ (fair-count 0 64) (λ n.
    fair-then (repeat n (constraint d)) _ (fair-repeat n (constraint d) (fair-constraint d)) (λ cs bs p. tt)))

fair-dependence : FairReader dependence
unfolding dependence
fair-dependence =
    fair-then (count 0 4) _ (fair-count 0 4) (λ c.
    fair-then (count 0 4) _ (fair-count 0 4) (λ r.
    fair-then (repeat r (row_of c)) _ (fair-repeat r (row_of c) (fair-row c)) (λ rows bs p. tt)))

-- one of several
fair-one : {A : Type 0} (l : List (Reader A)) (d : Reader A) (i : ℕ) → All FairReader l → FairReader d → FairReader (get_or l i d)
fair-one [] d i h f = f
fair-one (r ∷ l) d zero h f = h.0
fair-one (r ∷ l) d (suc i) h f = fair-one l d i h.1 f

fair-nodes : (vars : ℕ) → All FairReader (nodes vars)
unfolding nodes
fair-nodes vars = (
  fair-then (choice (vars - 1)) _ (fair-choice (vars - 1)) (λ v bs p. tt),
  (
    fair-then (number (neg_ℤ (pos 2147483648)) (pos 2147483647)) _ (fair-number (neg_ℤ (pos 2147483648)) (pos 2147483647)) (λ c bs p. tt),
    (
      fair-then (choice 1) _ (fair-choice 1) (λ b bs p. tt),
      (
        fair-then (choice 1) _ (fair-choice 1) (λ o bs p. tt),
        (
          fair-then (choice 15) _ (fair-choice 15) (λ o bs p. tt),
          (
            fair-pure Node.n_if,
            (
              fair-then (count 1 64) _ (fair-count 1 64) (λ n bs p. tt),
              (
                fair-restriction,
                (fair-dependence, tt),
              ),
            ),
          ),
        ),
      ),
    ),
  ),
)

fair-node : (vars : ℕ) → FairReader (node vars)
unfolding node
fair-node vars = fair-then (choice 8) _ (fair-choice 8) (λ c. fair-one (nodes vars) (pure Node.n_if) c (fair-nodes vars) (fair-pure Node.n_if))

fair-ended : {A : Type 0} (a : A) → FairReader (ended a)
unfolding ended
fair-ended a bs p = go (eqb p (length bs))
  where
    go : (t : Bool) → Fair (ifb t (λ _. got a p) (λ _. bad 6 p))
    go true = tt
    go false = the (Tail p)

fair-sections : FairReader sections
unfolding sections
fair-sections bs p =
    fair-after (count 1 32 bs p) _ (fair-count 1 32 bs p) (λ v q₁.
    fair-after (heads v [] 0 bs q₁) _ (fair-heads v [] 0 bs q₁) (λ hs q₂.
    fair-after (count 0 256 bs q₂) _ (fair-count 0 256 bs q₂) (λ c q₃.
    fair-after (repeat c (declared hs) bs q₃) _ (fair-repeat c (declared hs) (fair-declared hs) bs q₃) (λ ds q₄.
    fair-after (count 0 2048 bs q₄) _ (fair-count 0 2048 bs q₄) (λ n q₅.
    fair-after (repeat n (node (length hs)) bs q₅) _ (fair-repeat n (node (length hs)) (fair-node (length hs)) bs q₅) (λ ns q₆.
    fair-ended (record { heads = hs; decls = ds; second = q₂; third = q₄; first = q₅; nodes = n }) bs q₆))))))

fair-read : (bs : List ℕ) → Fair (read bs)
unfolding read
fair-read bs = go (leb (length bs) 65536)
  where
    go : (t : Bool) → Fair (ifb t (λ _. sections bs 0) (λ _. bad 1 0))
    go true = fair-sections bs 0
    go false = the Long

-- ---- answers

abbrev Told : {A : Type 0} → Answer A → Type 0
Told (accepted a) = Unit {0}
Told (refused n p) = Listed n p

told-next : {A B : Type 0} (m : Answer A) (k : A → Answer B) → Told m → ((a : A) → Told (k a)) → Told (next m k)
told-next (accepted a) k h f = f a
told-next (refused n p) k h f = h

told-if : {A : Type 0} (t : Bool) (m : Answer A) (n p : ℕ) → Told m → Listed n p → Told (ifb t (λ _. m) (λ _. refused n p))
told-if true m n p h l = h
told-if false m n p h l = l

told-either : {A : Type 0} (t : Bool) (m k : Answer A) → Told m → Told k → Told (ifb t (λ _. m) (λ _. k))
told-either true m k h l = h
told-either false m k h l = l

-- ---- the check

told-shaped : (v : ℕ) (h : Head) (hs : List Head) (t : Parsed Expr) → Told (shaped v h hs t)
unfolding shaped
told-shaped v h hs (tree e q n) = told-if (fits e hs (length h.box)) (accepted (record { expr = e; next = q; left = n })) 7 v tt (the (Shape v))
told-shaped v h hs ill = the (Shape v)

told-body : (k : Kind) (v : ℕ) (h : Head) (hs : List Head) (bs : List ℕ) (p m : ℕ) → Told (body_of k v h hs bs p m)
told-body input v h hs bs p m = tt
told-body output v h hs bs p m = told-shaped v h hs (expr_at 32 (length hs) bs p m)
told-body local v h hs bs p m = told-shaped v h hs (expr_at 32 (length hs) bs p m)

told-bodies : (r : Raw) (bs : List ℕ) (hs : List Head) (v p m : ℕ) → Told (bodies r bs hs v p m)
unfolding bodies
told-bodies r bs [] v p zero = tt
told-bodies r bs [] v p (suc m) = the (Shape v)
told-bodies r bs (h ∷ hs) v p m =
    told-next (body_of h.kind v h r.heads bs p m) _ (told-body h.kind v h r.heads bs p m) (λ b.
    told-next (bodies r bs hs (suc v) b.next b.left) _ (told-bodies r bs hs (suc v) b.next b.left) (λ vs. tt))

told-first : (code : ℕ) (test : Variable → Bool) → ((v : ℕ) → Listed code v) → (v : ℕ) (s : Sheet) → Told (first code test v s)
unfolding first
told-first code test l v [] = tt
told-first code test l v (x ∷ s) = told-if (test x) (first code test (suc v) s) code v (told-first code test l (suc v) s) (l v)

told-fault : (s : Sheet) (n : ℕ) (e : Element) → Told (fault s n e)
told-fault s n e = go (tested s e) (holds (variable s e.who).body s e.at) (clashes (variable s e.who).body s e.at)
  where
    go : (t h c : Bool) → Told (ifb t (λ _. ifb h (λ _. ifb c (λ _. refused 11 n) (λ _. accepted (tt {0}))) (λ _. refused 10 n)) (λ _. accepted (tt {0})))
    go true true true = the (Clash n)
    go true true false = tt
    go true false c = the (Gap n)
    go false h c = tt

told-faults : (s : Sheet) (n : ℕ) (es : List Element) → Told (faults s n es)
unfolding faults
told-faults s n [] = tt
told-faults s n (e ∷ es) = told-next (fault s n e) _ (told-fault s n e) (λ _. told-faults s (suc n) es)

told-checked : (bs : List ℕ) (r : Raw) → Told (checked bs r)
unfolding checked
told-checked bs r =
    told-next (bodies r bs r.heads 0 r.first r.nodes) _ (told-bodies r bs r.heads 0 r.first r.nodes) (λ s.
    told-next (first TYPE (typed r.heads) 0 s) _ (told-first TYPE (typed r.heads) (λ v. the (Typing v)) 0 s) (λ _.
    told-next (first REACH reached 0 s) _ (told-first REACH reached (λ v. the (Reach v)) 0 s) (λ _.
    told-next (faults s 0 (elements s)) _ (told-faults s 0 (elements s)) (λ _. tt))))

told-check : (bs : List ℕ) → Told (check bs)
unfolding check
told-check bs = go (read bs) (fair-read bs)
  where
    go : (g : Got Raw) → Fair g → Told (after_read bs g)
    go (got r p) h = unfold after_read in told-checked bs r
    go (bad n p) h = unfold after_read in h

-- ---- the run

told-bits : (i : ℕ) (xs : List ℤ) → Told (bits i xs)
unfolding bits
told-bits i [] = tt
told-bits i (x ∷ xs) = told-if (within (pos 0) (pos 1) x) (bits (suc i) xs) 12 i (told-bits (suc i) xs) (the (Input i))

told-entries_of : (t : Sort) (i : ℕ) (xs : List ℤ) → Told (entries_of t i xs)
told-entries_of integer i xs = tt
told-entries_of boolean i xs = told-bits i xs

told_entries : (s : Sheet) (i : ℕ) (ins : List ℤ) → Told (entries s i ins)
unfolding entries
told_entries [] i ins = tt
told_entries (x ∷ s) i ins =
    told-either (is_input x)
    (next (entries_of x.head.sort i (take (size x.head.box) ins)) (λ _. entries s (i + size x.head.box) (drop (size x.head.box) ins)))
    (entries s i ins)
    (told-next (entries_of x.head.sort i (take (size x.head.box) ins)) _ (told-entries_of x.head.sort i (take (size x.head.box) ins)) (λ _.
    told_entries s (i + size x.head.box) (drop (size x.head.box) ins)))
    (told_entries s i ins)

told-inputs : (s : Sheet) (ins : List ℤ) → Told (inputs s ins)
unfolding inputs
told-inputs s ins = told-if (eqb (length ins) (input_count s)) (entries s 0 ins) 12 (input_count s) (told_entries s 0 ins) (the (Input (input_count s)))

told-room : (needed lent : ℕ) → Told (room needed lent)
told-room needed lent = told-if (leb needed lent) (accepted tt) 14 needed tt (the (Room needed))

told-run : (bs : List ℕ) (ins : List ℤ) (codes values : ℕ) → Told (run bs ins codes values)
unfolding run admitted
told-run bs ins codes values =
    told-next (admitted bs ins) _ (told-next (check bs) _ (told-check bs) (λ s. told-next (inputs s ins) _ (told-inputs s ins) (λ _. tt))) (λ s.
    told-next (room (total s) codes) _ (told-room (total s) codes) (λ _. told-next (room (total s) values) _ (told-room (total s) values) (λ _. tt)))

-- ---- the normaliser and the element number

told-write : (s : Sheet) (front v : ℕ) (xs : Sheet) (w : Body) → Told (write_bodies s front v xs w)
unfolding write_bodies
told-write s front v [] w = tt
told-write s front v (x ∷ xs) w =
    let e = normal_body s x in
    let kept = keeps_limits (branches_of s x) e (written w e).nodes (front + length (written w e).out) in
    told-either (is_input x) (write_bodies s front (suc v) xs w) (ifb kept (λ _. write_bodies s front (suc v) xs (written w e)) (λ _. refused 13 v))
    (told-write s front (suc v) xs w)
    (told-if kept (write_bodies s front (suc v) xs (written w e)) 13 v (told-write s front (suc v) xs (written w e)) (the (Wide v)))

told-normal : (bs : List ℕ) (g : Got Raw) → Fair g → Told (normal_after bs g)
unfolding normal_after normal_form
told-normal bs (got r p) h =
    told-next (checked bs r) _ (told-checked bs r) (λ s.
    told-next (write_bodies s (r.third + 8) 0 s (record { nodes = 0; out = [] })) _ (told-write s (r.third + 8) 0 s (record { nodes = 0; out = [] })) (λ w. tt))
told-normal bs (bad n p) h = h

told-normalise : (bs : List ℕ) (lent : ℕ) → Told (normalise bs lent)
unfolding normalise
told-normalise bs lent =
    told-next (normal_after bs (read bs)) _ (told-normal bs (read bs) (fair-read bs)) (λ o. told-next (room (length o) lent) _ (told-room (length o) lent) (λ _. tt))

told-number : (bs : List ℕ) (v : ℕ) (z : Point) → Told (element_number bs v z)
unfolding element_number
told-number bs v z = told-next (check bs) _ (told-check bs) (λ s. told-if (asks s v z) (accepted (Ask.number_of s v z)) 15 0 tt (the Ask))

-- ---- a verdict for each answer

verdict-for : (a : Answer ℕ) → Told a → (r : Result ℕ Refusal) × (told r ≡ a)
verdict-for (accepted n) h = (Ok n, refl)
verdict-for (refused n p) h =
    (Err h.refusal, ap (λ m. refused m (place_of h.refusal)) h.number_is ∙ ap (λ q. refused n q) h.place_is)

told-total : (bs : List ℕ) → Told (total_of (check bs))
told-total bs = told-next (check bs) _ (told-check bs) (λ s. tt)

pub check_answers : (sheet : List ℕ) → (r : Result ℕ Refusal) × Checks sheet r
check_answers sheet = let v = verdict-for (total_of (check sheet)) (told-total sheet) in (v.0, record { answer = v.1 })

pub run_answers : (sheet : List ℕ) (ins : List ℤ) (codes : List ℕ) (values : List ℤ) →
    (r : Result ℕ Refusal) × (codes' : List ℕ) × (values' : List ℤ) × Runs sheet ins codes codes' values values' r
run_answers sheet ins codes values =
    let a = run sheet ins (length codes) (length values) in
    let v = verdict-for (next a (λ _. total_of (check sheet))) (told-next a _ (told-run sheet ins (length codes) (length values)) (λ _. told-total sheet)) in
    (v.0, lent_after a (λ t. t.codes) codes, lent_after a (λ t. t.values) values, record { answer = v.1; codes_after = refl; values_after = refl })

pub normalise_answers : (sheet out : List ℕ) → (r : Result ℕ Refusal) × (out' : List ℕ) × Normalises sheet out out' r
normalise_answers sheet out =
    let a = normalise sheet (length out) in
    let v = verdict-for (next a (λ o. accepted (length o))) (told-next a _ (told-normalise sheet (length out)) (λ o. tt)) in
    (v.0, lent_after a (λ o. o) out, record { answer = v.1; out_after = refl })

pub number_answers : (sheet : List ℕ) (v : ℕ) (z : Point) → (r : Result ℕ Refusal) × Numbers sheet v z r
number_answers sheet v z = let w = verdict-for (element_number sheet v z) (told-number sheet v z) in (w.0, record { answer = w.1 })

pub body_answers : (sheet : List ℕ) (v : ℕ) → (part : List ℕ) × Finds sheet v part
body_answers sheet v = (bytes_in (body_part sheet v) sheet, record { answer = refl })
