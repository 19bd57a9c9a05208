-- The whole of reading, section by section: what `read` of crate alpha gives on each way through. Assumes nothing.
use mathlib.Core.Path.{◌≡◌, refl, sym, ap, ◌∙◌, subst}
use mathlib.Core.List.{List, []}
use mathlib.Core.Logic.{◌⊎◌, inl, inr, ⊎_elim}
use Prim.Native.Nat.{ℕ, ◌+◌, ◌≤◌, ◌<◌}
use native.Mathlib.Omega.{arith}
use borrow.Author.Tests.{le-leb, lt-leb, eq-eqb, ne_eqb}
use lib.ListN.{length, get_or}
use lib.Seq.{get_or-take, take-length}
use lib.IntN.{nat_abs}
use Rattle.std.specs.Prelude.{Result, Ok, Err}
use Rattle.alpha.specs.Answer.{Answer, accepted, refused, next, LONG, TAIL}
use Rattle.alpha.specs.Field.{field}
use Rattle.alpha.specs.Sheet.{Head, Declared, Raw}
use Rattle.alpha.specs.Read.{Got, got, bad, after, repeat, count, heads, declared, node, ended, sections, read}
use Rattle.alpha.specs.declared.Refusal.{Refusal}
use Rattle.alpha.specs.Verdict.{told}
use Rattle.sheet.specs.declared.table.Table.{Table}
use Rattle.sheet.specs.Place.{place_after}
use Rattle.sheet.specs.Record.{points, heads_at, head_at, places, Filled}
use Rattle.sheet.specs.Section.{second_section, third_section}
use Rattle.sheet.specs.Table.{answer_of, read_answer, TableOf, Reads, noted}
use Rattle.sheet.proofs.Places.{gave, after-gave, count-then, count-passed}
use Rattle.sheet.proofs.Readers.{count_next, next-accepted}
use Rattle.sheet.proofs.Heads.{heads-length, heads-at}

-- ---- the sections by places

pub second-place : (hs : List Head) (bs : List ℕ) (p : ℕ) → place_after (second_section hs bs p) ≡
    next (place_after (count 0 256 bs p)) (λ q. place_after (repeat (nat_abs (field bs p)) (declared hs) bs q))
unfolding second_section
second-place hs bs p = count_next bs p 0 256 _ _ (λ q. refl)

pub third-place : (vars : ℕ) (bs : List ℕ) (p : ℕ) → place_after (third_section vars bs p) ≡
    next (place_after (count 0 2048 bs p)) (λ q. place_after (repeat (nat_abs (field bs p)) (node vars) bs q))
unfolding third_section
third-place vars bs p = count_next bs p 0 2048 _ _ (λ q. refl)

pub third-there : (vars : ℕ) (bs : List ℕ) (p q : ℕ) → place_after (third_section vars bs p) ≡ accepted q → p + 8 ≤ length bs
third-there vars bs p q e =
    let parts = next-accepted (place_after (count 0 2048 bs p))
    (λ t. place_after (repeat (nat_abs (field bs p)) (node vars) bs t)) (sym (third-place vars bs p) ∙ e) in
    (count-passed 0 2048 bs p parts.0 parts.1).there

-- ---- the whole

-- what was read, by its parts
abbrev pub raw_of : List Head → List Declared → ℕ → ℕ → ℕ → ℕ → Raw
raw_of hs ds second third first n = record { heads = hs; decls = ds; second = second; third = third; first = first; nodes = n }

after-assoc : {A B C : Type 0} (m : Got A) (k : A → ℕ → Got B) (l : B → ℕ → Got C) → after m (λ a q. after (k a q) l) ≡ after (after m k) l
after-assoc (got a q) k l = refl
after-assoc (bad n p) k l = refl

answer-refused : {A : Type 0} (m : Got A) (k : A → ℕ → Got Raw) {n p : ℕ} → place_after m ≡ refused n p → answer_of (after m k) ≡ refused n p
answer-refused (got a q) k e = absurd (let z : ◌≡◌ {A = ℕ} 0 1 = cc in omega arith)
answer-refused (bad n q) k e = e

-- a sequence that is refused is refused in its first part, or after it
next-refused : (m : Answer ℕ) (j : ℕ → Answer ℕ) {n p : ℕ} → next m j ≡ refused n p → (m ≡ refused n p) ⊎ ((t : ℕ) × (m ≡ accepted t) × (j t ≡ refused n p))
next-refused (accepted t) j e = inr (t, refl, e)
next-refused (refused n p) j e = inl e

-- what follows the second section, and what follows the first
module _ (bs : List ℕ) (hs : List Head) (second : ℕ) where
  unfoldable pub from_third : List Declared → ℕ → Got Raw
  from_third ds third =
      after (count 0 2048 bs third) (λ n first. after (repeat n (node (length hs)) bs first) (λ ns q. ended (raw_of hs ds second third first n) bs q))

  unfoldable pub from_second : Got Raw
  from_second = after (count 0 256 bs second) (λ n q. after (repeat n (declared hs) bs q) from_third)

module _ (bs : List ℕ) where
  pub read-long : 65536 < length bs → read_answer bs ≡ refused LONG 0
  unfolding read
  read-long h = rw (lt-leb (length bs) 65536 h)

  pub read-sections : length bs ≤ 65536 → read bs ≡ after (count 1 32 bs 0) (λ n p. after (heads n [] 0 bs p) (from_second bs))
  unfolding read sections from_second from_third
  read-sections h = rw (le-leb (length bs) 65536 h)

  -- a part that is refused
  pub part-stops : {A : Type 0} (m : Got A) (k : A → ℕ → Got Raw) → read bs ≡ after m k → {n p : ℕ} → refused n p ≡ place_after m → refused n p ≡ read_answer bs
  part-stops m k reads says = sym (ap answer_of reads ∙ answer-refused m k (sym says))

  -- the count of variables was read
  pub first_goes : (p : ℕ) → read bs ≡ after (count 1 32 bs 0) (λ n q. after (heads n [] 0 bs q) (from_second bs)) →
      place_after (count 1 32 bs 0) ≡ accepted p →
      read bs ≡ after (heads (nat_abs (field bs 0)) [] 0 bs p) (from_second bs)
  first_goes p reads came = reads ∙ count-then 1 32 bs 0 (λ n q. after (heads n [] 0 bs q) (from_second bs)) p came

  -- the records were read
  pub heads-go : (m : Got (List Head)) (hs : List Head) (second : ℕ) → read bs ≡ after m (from_second bs) → m ≡ got hs second →
      read bs ≡ after (second_section hs bs second) (from_third bs hs second)
  unfolding from_second second_section
  heads-go m hs second reads gives =
      reads ∙ after-gave m (from_second bs) hs second gives
      ∙ after-assoc (count 0 256 bs second) (λ n q. repeat n (declared hs) bs q) (from_third bs hs second)

  module _ (hs : List Head) (second : ℕ) where
    -- the declared constraints were read
    pub second-goes : (third : ℕ) → read bs ≡ after (second_section hs bs second) (from_third bs hs second) →
        place_after (second_section hs bs second) ≡ accepted third →
        (ds : List Declared) × (read bs ≡ from_third bs hs second ds third)
    second-goes third reads came =
        let g = gave (second_section hs bs second) came in
        (g.0, reads ∙ after-gave (second_section hs bs second) (from_third bs hs second) g.0 third g.1)

    module _ (ds : List Declared) (third : ℕ) (reads : read bs ≡ from_third bs hs second ds third) where
      nodes_from : ℕ → ℕ → Got Raw
      nodes_from n first = after (repeat n (node (length hs)) bs first) (λ ns q. ended (raw_of hs ds second third first n) bs q)

      -- a node is refused, or their count
      third-refused : {n p : ℕ} → place_after (third_section (length hs) bs third) ≡ refused n p → answer_of (from_third bs hs second ds third) ≡ refused n p
      unfolding from_third nodes_from
      third-refused e =
          ⊎_elim
          (λ first. answer-refused (count 0 2048 bs third) nodes_from first)
          (λ later.
          ap answer_of (count-then 0 2048 bs third nodes_from later.0 later.1)
          ∙ answer-refused (repeat (nat_abs (field bs third)) (node (length hs)) bs later.0) _ later.2)
          (next-refused (place_after (count 0 2048 bs third))
          (λ q. place_after (repeat (nat_abs (field bs third)) (node (length hs)) bs q)) (sym (third-place (length hs) bs third) ∙ e))

      pub third-stops : {n p : ℕ} → refused n p ≡ place_after (third_section (length hs) bs third) → refused n p ≡ read_answer bs
      third-stops says = sym (ap answer_of reads ∙ third-refused (sym says))

      -- the nodes were read
      pub third-goes : (end : ℕ) → place_after (third_section (length hs) bs third) ≡ accepted end →
          read bs ≡ ended (raw_of hs ds second third (third + 8) (nat_abs (field bs third))) bs end
      unfolding from_third nodes_from
      third-goes end came =
          let n = nat_abs (field bs third) in
          let parts = next-accepted (place_after (count 0 2048 bs third))
          (λ q. place_after (repeat n (node (length hs)) bs q)) (sym (third-place (length hs) bs third) ∙ came) in
          let g = gave (repeat n (node (length hs)) bs parts.0) parts.2 in
          reads
          ∙ count-then 0 2048 bs third nodes_from parts.0 parts.1
          ∙ after-gave (repeat n (node (length hs)) bs parts.0) _ g.0 end g.1
          ∙ ap (λ (first : ℕ). ended (raw_of hs ds second third first n) bs end) (count-passed 0 2048 bs third parts.0 parts.1).next

  -- bytes follow, or none
  module _ (raw : Raw) (end : ℕ) (reads : read bs ≡ ended raw bs end) where
    pub tail-refused : (end ≡ length bs → ⊥) → refused TAIL end ≡ read_answer bs
    unfolding ended
    tail-refused ne = sym (ap answer_of reads ∙ rw (ne_eqb end (length bs) ne))

    pub read-ends : end ≡ length bs → read bs ≡ got raw end
    unfolding ended
    read-ends e = reads ∙ rw (eq-eqb end (length bs) e)

-- ---- the promise

pub reads-refused : {bs : List ℕ} {tab : Table} (r : Result ℕ Refusal) (e : Refusal) → r ≡ Err e → told (Err e) ≡ read_answer bs → Reads bs tab r
reads-refused r e is says = record {
  answer = ap told is ∙ says;
  table = λ raw q reads. absurd (let k = says ∙ ap answer_of reads in let z : ◌≡◌ {A = ℕ} 0 1 = cc in omega arith);
}

pub reads-accepted : {bs : List ℕ} {tab : Table} {raw : Raw} {p t : ℕ} → read bs ≡ got raw p → t ≡ points raw.heads → TableOf tab raw → Reads bs tab (Ok t)
reads-accepted {bs} {tab} {raw} {p} {t} reads total table = record {
  answer = ap accepted total ∙ sym (ap answer_of reads);
  table = λ other q also. let same : raw ≡ other = cc in subst (TableOf tab) same table;
}

pub noted-table : {bs : List ℕ} {p n : ℕ} {tab : Table} {second : ℕ} (ds : List Declared) (third nodes : ℕ) → Filled bs p n tab second →
    TableOf (noted tab n second third nodes) (raw_of (heads_at bs (places tab n)) ds second third (third + 8) nodes)
unfolding head_at
noted-table {bs} {p} {n} {tab} {second} ds third nodes f =
    let listed = f.many in
    let many = heads-length bs (places tab n) in
    record {
      sized = f.sized;
      few = let k = f.known.few in omega arith;
      record_at = λ v h.
          sym (ap (λ (x : Head). x.place) (heads-at bs (places tab n) v (omega arith)) ∙ get_or-take n tab.records v 0 (omega arith));
      first-element = λ v h. f.firsts v (omega arith);
      variables = sym (many ∙ listed);
      second = refl;
      third = refl;
      nodes = refl;
      first_node = refl;
    }

-- the entry after the last variable's is the element total
pub table-total : {tab : Table} {raw : Raw} → TableOf tab raw → get_or tab.firsts (length raw.heads) 0 ≡ points raw.heads
table-total {tab} {raw} t = t.first-element (length raw.heads) (omega arith) ∙ ap points (take-length raw.heads)
