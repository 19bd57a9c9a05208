-- `read` meets its contract: one law for each way through the sections. Assumes nothing.
use borrow.Author.Tests.{ltb-true, ltb-false}
use native.Mathlib.Omega.{arith}
use mathlib.Core.Path.{◌≡◌, refl, sym, ap, ◌∙◌, subst}
use mathlib.Core.List.{List, []}
use Prim.Native.Nat.{ℕ, ◌+◌, ◌≤◌, ◌<◌}
use lib.ListN.{length, get_or}
use lib.IntN.{pos, nat_abs}
use Rattle.alpha.specs.Answer.{accepted}
use Rattle.alpha.specs.Field.{field}
use Rattle.alpha.specs.Sheet.{Declared, Head, Raw}
use Rattle.alpha.specs.Box.{within}
use Rattle.alpha.specs.Read.{after, count, heads, ended, read}
use Rattle.sheet.specs.declared.table.Table.{Table}
use Rattle.sheet.specs.Place.{place_after}
use Rattle.sheet.specs.Record.{heads_at, places, Filled}
use Rattle.sheet.specs.Section.{VariableCount, second_section, third_section}
use Rattle.sheet.specs.Table.{TableOf, noted}
use Rattle.sheet.proofs.Places.{Passed, count-came, counted}
use Rattle.sheet.proofs.Readers.{handed}
use Rattle.sheet.proofs.Heads.{heads-length}
use Rattle.sheet.proofs.Sections.{raw_of, from_second, from_third}
use Rattle.sheet.proofs.Sections.{read-long, read-sections, part-stops, first_goes, heads-go, second-goes, third-stops, third-goes}
use Rattle.sheet.proofs.Sections.{third-there, tail-refused, read-ends}
use Rattle.sheet.proofs.Sections.{reads-refused, reads-accepted, noted-table, table-total}
use Rattle.sheet.proofs.read.Goals.{After-count_at-n, Else-too_long, In_ok-first, In_ok-second, In_ok-third, In_ok-end, Then-too_long}
use Rattle.sheet.proofs.read.Goals as goal

-- ---- what is known of a sheet s as its sections are read

-- the records that the first n entries of a table lead to
abbrev records : List ℕ → ℕ → Table → List Head
records s n table = heads_at s (places table n)

-- the count was read: n records are read from p on
abbrev Opened : List ℕ → ℕ → ℕ → Type 0
Opened s n p = read s ≡ after (heads n [] 0 s p) (from_second s)

-- the records hs were read: the second section is read from p on
abbrev Listed : List ℕ → List Head → ℕ → Type 0
Listed s hs p = read s ≡ after (second_section hs s p) (from_third s hs p)

-- the constraints, too: the third section is read from q on
abbrev Bound : List ℕ → List Head → ℕ → ℕ → Type 0
Bound s hs p q = (ds : List Declared) × (read s ≡ from_third s hs p ds q)

-- ---- the sheet's length

-- it is not too long, and reading goes on
short : (c : Else-too_long) → length c.args.s.now ≤ 65536
short c = ltb-false 65536 (length c.args.s.now) (sym c.too_long.ensures ∙ c.if-too_long.false)

-- it is too long
long : (c : Then-too_long) → 65536 < length c.args.s.now
long c = ltb-true 65536 (length c.args.s.now) (sym c.too_long.ensures ∙ c.if-too_long.true)

-- ---- the count of variables

counts : (c : In_ok-first) → Passed (within (pos 1) (pos 32)) c.args.s.now 0 c.in_ok-first.first
counts c = count-came c.args.s.now 0 1 32 c.in_ok-first.ensures

how-many : (c : After-count_at-n) → Passed (within (pos 1) (pos 32)) c.args.s.now 0 c.in_ok-first.first → VariableCount c.count_at-n.result
how-many c came =
    let e = c.count_at-n.ensures in
    let h = counted 1 32 came in
    record { some = omega arith; few = omega arith }

opened : (c : After-count_at-n) → length c.args.s.now ≤ 65536 → Opened c.args.s.now c.count_at-n.result c.in_ok-first.first
opened c not-long =
    let s = c.args.s.now in
    let p = c.in_ok-first.first in
    first_goes s p (read-sections s not-long) (sym c.in_ok-first.ensures) ∙ ap (λ (n : ℕ). after (heads n [] 0 s p) (from_second s)) (sym c.count_at-n.ensures)

-- ---- the records

filled : (c : In_ok-second) → Filled c.args.s.now c.in_ok-first.first c.count_at-n.result c.heads.new.table c.in_ok-second.second
filled c = c.in_ok-second.ensures.filled c.in_ok-second.second refl

listed : (c : In_ok-second) → Opened c.args.s.now c.count_at-n.result c.in_ok-first.first →
    Listed c.args.s.now (records c.args.s.now c.count_at-n.result c.heads.new.table) c.in_ok-second.second
listed c begun = heads-go c.args.s.now _ (records c.args.s.now c.count_at-n.result c.heads.new.table) c.in_ok-second.second begun (filled c).gives

many : (c : In_ok-second) → length (records c.args.s.now c.count_at-n.result c.heads.new.table) ≡ c.count_at-n.result
many c = heads-length c.args.s.now (places c.heads.new.table c.count_at-n.result) ∙ (filled c).many

-- ---- the declared constraints

bound : (c : In_ok-third) →
    let hs = records c.args.s.now c.count_at-n.result c.heads.new.table in
    Listed c.args.s.now hs c.in_ok-second.second → Bound c.args.s.now hs c.in_ok-second.second c.in_ok-third.third
bound c came-second =
    let s = c.args.s.now in
    let hs = records s c.count_at-n.result c.heads.new.table in
    second-goes s hs c.in_ok-second.second c.in_ok-third.third came-second (sym c.in_ok-third.ensures)

-- ---- the nodes

-- the sheet that was read, of records hs and constraints ds
abbrev raw : In_ok-end → List Head → List Declared → Raw
raw c hs ds =
    let t = c.in_ok-third.third in
    raw_of hs ds c.in_ok-second.second t (t + 8) (nat_abs (field c.args.s.now t))

read_all : (c : In_ok-end) (hs : List Head) (b : Bound c.args.s.now hs c.in_ok-second.second c.in_ok-third.third) → length hs ≡ c.count_at-n.result →
    read c.args.s.now ≡ ended (raw c hs b.0) c.args.s.now c.in_ok-end.end
read_all c hs b many =
    let s = c.args.s.now in
    let t = c.in_ok-third.third in
    let all = subst (λ (n : ℕ). place_after (third_section n s t) ≡ accepted c.in_ok-end.end) (sym many) (sym c.in_ok-end.ensures) in
    third-goes s hs c.in_ok-second.second b.0 t b.1 c.in_ok-end.end all

-- ---- the answers

pub returns-then-too_long : goal.returns-then-too_long
returns-then-too_long c = reads-refused _ _ refl (sym (read-long _ (long (goal.at.returns-then-too_long c).Then-too_long)))

pub returns-in_err-first : goal.returns-in_err-first
returns-in_err-first c =
    let way = goal.at.returns-in_err-first c in
    let s = c.args.s.now in
    let stops = part-stops s (count 1 32 s 0) _ (read-sections s (short way.Else-too_long)) c.in_err-first.ensures in
    reads-refused _ _ (handed _ _ c.from_residual.ensures.1) stops

pub count_at-n-requires : goal.count_at-n-requires
count_at-n-requires c = (counts (goal.at.count_at-n-requires c).In_ok-first).there

pub heads-requires : goal.heads-requires
heads-requires c =
    let way = goal.at.heads-requires c in
    (how-many way.After-count_at-n (counts way.In_ok-first)).few

pub returns-in_err-second : goal.returns-in_err-second
returns-in_err-second c =
    let way = goal.at.returns-in_err-second c in
    let s = c.args.s.now in
    let begun = opened way.After-count_at-n (short way.Else-too_long) in
    let stops = part-stops s (heads c.count_at-n.result [] 0 s c.in_ok-first.first) (from_second s) begun c.in_err-second.ensures.answer in
    reads-refused _ _ (handed _ _ c.from_residual-in_err-second.ensures.1) stops

pub second_section-requires : goal.second_section-requires
second_section-requires c =
    let way = goal.at.second_section-requires c in
    let some = (how-many way.After-count_at-n (counts way.In_ok-first)).some in
    let full = filled way.In_ok-second in
    record { some = rw full.many some; known = full.known }

pub returns-in_err-third : goal.returns-in_err-third
returns-in_err-third c =
    let way = goal.at.returns-in_err-third c in
    let s = c.args.s.now in
    let begun = opened way.After-count_at-n (short way.Else-too_long) in
    let second = second_section (records s c.count_at-n.result c.heads.new.table) s c.in_ok-second.second in
    let stops = part-stops s second _ (listed way.In_ok-second begun) c.in_err-third.ensures in
    reads-refused _ _ (handed _ _ c.from_residual-in_err-third.ensures.1) stops

pub third_section-requires : goal.third_section-requires
third_section-requires c =
    let way = goal.at.third_section-requires c in how-many way.After-count_at-n (counts way.In_ok-first)

pub returns-in_err-end : goal.returns-in_err-end
returns-in_err-end c =
    let way = goal.at.returns-in_err-end c in
    let s = c.args.s.now in
    let hs = records s c.count_at-n.result c.heads.new.table in
    let b = bound way.In_ok-third (listed way.In_ok-second (opened way.After-count_at-n (short way.Else-too_long))) in
    let says = rw (← many way.In_ok-second) at c.in_err-end.ensures in
    let stops = third-stops s hs c.in_ok-second.second b.0 c.in_ok-third.third b.1 says in
    reads-refused _ _ (handed _ _ c.from_residual-in_err-end.ensures.1) stops

pub returns-then-end-s : goal.returns-then-end-s
returns-then-end-s c =
    let way = goal.at.returns-then-end-s c in
    let hs = records c.args.s.now c.count_at-n.result c.heads.new.table in
    let b = bound way.In_ok-third (listed way.In_ok-second (opened way.After-count_at-n (short way.Else-too_long))) in
    let all = read_all way.In_ok-end hs b (many way.In_ok-second) in
    reads-refused _ _ refl (tail-refused _ _ _ all c.if-end-s.true)

pub count_at-requires : goal.count_at-requires
count_at-requires c = third-there _ _ _ _ (sym c.in_ok-end.ensures)

pub returns : goal.returns
returns c =
    let way = goal.at.returns c in
    let full = filled way.In_ok-second in
    let hs = records c.args.s.now c.count_at-n.result c.heads.new.table in
    let b = bound way.In_ok-third (listed way.In_ok-second (opened way.After-count_at-n (short way.Else-too_long))) in
    let count = many way.In_ok-second in
    let all = read_all way.In_ok-end hs b count in
    let t = c.in_ok-third.third in
    let nodes = nat_abs (field c.args.s.now t) in
    let stored = c.note.ensures ∙ ap (noted c.heads.new.table c.count_at-n.result c.in_ok-second.second t) c.count_at.ensures in
    let table = subst (λ (t : Table). TableOf t (raw way.In_ok-end hs b.0)) (sym stored) (noted-table b.0 t nodes full) in
    let last = ap (λ (k : ℕ). get_or c.note.new.self.firsts k 0) (sym count) in
    reads-accepted (read-ends _ _ _ all c.if-end-s.false) (c.first_element.ensures ∙ last ∙ table-total table) table
