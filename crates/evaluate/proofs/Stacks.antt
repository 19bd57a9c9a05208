-- The stack of the elements in progress: they wait for the body of the one on top, and what a turn leaves of the stack and of the memo.
-- Assumes nothing.
use mathlib.Core.Path.{◌≡◌, refl, sym, ap, ◌∙◌, subst}
use Prim.Native.Nat.{ℕ, zero, suc, ◌+◌, ◌-◌, ◌≤◌, ◌<◌}
use native.Mathlib.Decide.{ℕ_discrete}
use native.Mathlib.Omega.{arith}
use mathlib.Core.List.{List, [], ◌∷◌}
use lib.ListN.{length, get_or, set, length-set}
use lib.Seq.{get_or-set_same, get_or-set_other}
use lib.IntN.{ℤ, pos}
use Rattle.alpha.specs.Sheet.{Sheet}
use Rattle.alpha.specs.Check.{total}
use Rattle.alpha.specs.declared.Outcome as Declared
use Rattle.alpha.specs.declared.Outcome.TheVariants as Outcomes
use Rattle.std.specs.Result.{result_unwrap_or}
use Rattle.alpha.specs.Outcome.{loop}
use Rattle.alpha.specs.Verdict.{outcome_of, code_for}
use Rattle.laws.proofs.Growth.{outcome-none, outcome-body}
use Rattle.std.specs.Prelude.{Ok, Err}
use Rattle.evaluate.specs.declared.Awaited.{Awaited}
use Rattle.evaluate.specs.Memo.{Work, busy, unknown, Memo, code_at, sum, busy_one, to_do, Right, Waits, Says, Said, Known, noted, code_of}
use Rattle.evaluate.specs.Memo.{value_of, stored}
use Rattle.evaluate.specs.Memo as Memo
use Rattle.evaluate.specs.Working.{element_at, outcomes, Bodied, Ready, WorksOut}
use Rattle.evaluate.specs.Settling.{body_of, standing, Stacked, Linked, Turned, Idle, Alone, StackedSome, Settled}
use Rattle.evaluate.proofs.Entries.{code-few, busy-one, none-to-do, answer-unmarked}
use Rattle.evaluate.proofs.Stores.{decide, code_same, code_other, sum-store, loop_down, right-set, said-stored}
use Rattle.evaluate.proofs.Doing.{element-grows, ready-sized, ready-kept}

-- ---- sums over the entries

-- each entry counts
pub entry-counts : (w : ℕ → ℕ) → w 0 ≡ 0 → (cs : List ℕ) (i : ℕ) → w (get_or cs i 0) ≤ sum w cs
unfolding sum
entry-counts w z [] i = omega (arith, z)
entry-counts w z (c ∷ cs) zero = omega arith
entry-counts w z (c ∷ cs) (suc i) = omega (arith, entry-counts w z cs i)

marks-few : (cs : List ℕ) → sum busy_one cs ≤ length cs
unfolding sum
marks-few [] = omega arith
marks-few (c ∷ cs) = omega (arith, busy-one c, marks-few cs)

-- where an entry is unknown, not all are marked
pub marks-fewer : (memo : Memo) (d : ℕ) → d < length memo.codes → code_at memo d ≡ unknown → sum busy_one memo.codes < length memo.codes
marks-fewer memo d h is =
    let l : length (set memo.codes d busy) ≡ length memo.codes = simp length-set in
    omega (arith, sum-store busy_one memo d unknown busy (pos 0) h is, marks-few (set memo.codes d busy), l)

-- where none is marked, no element is in progress
pub idle-none : (memo : Memo) → Idle memo → (m : ℕ) → code_at memo m ≡ busy → ⊥
idle-none memo h m is = let c : busy_one (code_at memo m) ≡ 1 = ap busy_one is in omega (arith, entry-counts busy_one refl memo.codes m, h)

-- ---- an entry that is stored

module _ (s : Sheet) (memo : Memo) (M : Ready s memo) (e c : ℕ) (x : ℤ) (lt : e < total s) where
  pub in_codes : e < length memo.codes
  in_codes = omega (arith, M.few, M.codes_long)

  pub ready-noted : c ≤ unknown → (4 < c → Bodied s (element_at s e)) → Ready s (noted memo e c x)
  ready-noted small body = record {
    codes_long = simp length-set M.codes_long;
    values_long = simp length-set M.values_long;
    few = M.few;
    low = λ m. decide m e (ℕ_discrete m e)
        (λ same. rw (same, code_same memo e c x in_codes) small)
        (λ other. rw (code_other memo e c x m other) (M.low m));
    opens = λ m h u. decide m e (ℕ_discrete m e)
        (λ same. rw same (body (rw (same, code_same memo e c x in_codes) at u)))
        (λ other. M.opens m h (rw (code_other memo e c x m other) at u));
  }

-- the code of an answer that is an outcome
settled-code : (r : Work) (o : Declared.Outcome) → r ≡ Ok o → (code_of r ≤ 4) × (to_do (code_of r) ≡ 0)
settled-code r o is = let few = code-few (outcome_of o) in rw is (few, none-to-do (code_for o) few)

module _ (s : Sheet) (memo : Memo) (M : Ready s memo) (stack : List ℕ) (high : ℕ) (Top : StackedSome s memo stack high) where
  abbrev St : Stacked s memo stack high
  St = Top.stacked

  abbrev top : ℕ
  top = standing stack (high - 1)

  -- an element on the stack has a body
  module _ (j : ℕ) (lt : j < high) where
    body-there : Bodied s (element_at s (standing stack j))
    body-there = M.opens (standing stack j) (St.element j lt) (omega (arith, St.marked j lt))

    starts : (ins : List ℤ) → outcomes s ins 0 (standing stack j) ≡ loop
    starts ins =
        outcome-none s ins (element_at s (standing stack j)).who (element_at s (standing stack j)).at body-there.domain body-there.no_input

    steps : (ins : List ℤ) (k : ℕ) → outcomes s ins (suc k) (standing stack j) ≡ body_of s (standing stack j) ins k
    steps ins k =
        outcome-body s ins (element_at s (standing stack j)).who (element_at s (standing stack j)).at body-there.domain body-there.no_input k

  pub high-few : high ≤ 4096
  high-few = omega (arith, St.height, M.codes_long, marks-few memo.codes)

  pub top-element : top < total s
  top-element = St.element (high - 1) (omega (arith, Top.some))

  pub top-marked : code_at memo top ≡ busy
  top-marked = St.marked (high - 1) (omega (arith, Top.some))

  -- each on the stack loops after the body of the one on top
  module _ (ins : List ℤ) (L : Linked s ins stack high) where
    down : (d j : ℕ) → j + d ≡ high - 1 → (k : ℕ) → body_of s top ins k ≡ loop → outcomes s ins (suc k) (standing stack j) ≡ loop
    down zero j is k q =
        let here : j ≡ high - 1 = omega (arith, Top.some) in
        subst (λ i. outcomes s ins (suc k) (standing stack i) ≡ loop) (sym here) (steps (high - 1) (omega (arith, Top.some)) ins k ∙ q)
    down (suc d) j is k q =
        let above : outcomes s ins (suc k) (standing stack (suc j)) ≡ loop = down d (suc j) (omega (arith, Top.some)) k q in
        steps j (omega (arith, Top.some)) ins k
        ∙ L.link j (omega (arith, Top.some)) k
        (loop_down (outcomes s ins) (element-grows s ins) (total s) k (suc k) (standing stack (suc j)) (omega (arith, Top.some)) above)

    waits-top : Waits (outcomes s ins) (total s) memo (body_of s top ins)
    waits-top = record {
      waits = λ m h b k q.
          let f = St.found m h b in
          subst (λ i. outcomes s ins (suc k) i ≡ loop) f.2 (down (high - 1 - f.0) f.0 (omega (arith, f.1)) k q);
    }

  module _ (last : Memo) (r : Work) (D : WorksOut s memo last (body_of s top) r) where
    ready-last : Ready s last
    ready-last = ready-kept s memo last M D.kept

    codes-last : length last.codes ≡ 4096
    codes-last = ready-last.codes_long

    in-last : (m : ℕ) → m < total s → m < length last.codes
    in-last m h = in_codes s last ready-last m 0 (pos 0) h

    still : (j : ℕ) → j < high → code_at last (standing stack j) ≡ busy
    still j h = D.kept.still (standing stack j) (St.marked j h)

    said : (ins : List ℤ) → Right (outcomes s ins) (total s) memo → Linked s ins stack high →
        Said (outcomes s ins) (total s) last (body_of s top ins) r
    said ins R L = D.said ins R (waits-top ins L)

    -- ---- the one on top is settled

    module _ (o : Declared.Outcome) (is : r ≡ Ok o) where
      abbrev popped : Memo
      popped = stored last top r

      pub popped-turn : Turned s memo stack high popped stack (high - 1)
      popped-turn = record {
        ready =
            ready-noted s last ready-last top (code_of r) (value_of r) top-element (omega (arith, (settled-code r o is).0))
            (λ l. absurd (omega (arith, (settled-code r o is).0)));
        stacked = record {
          sized = St.sized;
          height =
              omega (
                arith,
                St.height,
                D.kept.marks,
                sum-store busy_one last top busy (code_of r) (value_of r) (in-last top top-element) (still (high - 1) (omega (arith, Top.some))),
                answer-unmarked r,
              );
          element = λ j h. St.element j (omega (arith, Top.some));
          marked =
              λ j h. code_other last top (code_of r) (value_of r) (standing stack j) (λ e. St.apart j (high - 1) h (omega (arith, Top.some)) e)
              ∙ still j (omega (arith, Top.some));
          found = λ m h b. decide m top (ℕ_discrete m top)
              (λ same. absurd (let c : code_of r ≡ busy = sym (code_same last top (code_of r) (value_of r) (in-last top top-element))
              ∙ rw same at b in omega (arith, (settled-code r o is).0)))
              (λ other.
              let f = St.found m h (D.kept.idle m (sym (code_other last top (code_of r) (value_of r) m other) ∙ b)) in
              (f.0, before f.0 f.1 (λ e. other (sym f.2 ∙ ap (standing stack) e)), f.2));
          apart = λ i j l h e. St.apart i j l (omega (arith, Top.some)) e;
        };
        less =
            omega (
              arith,
              D.kept.less,
              sum-store to_do last top busy (code_of r) (value_of r) (in-last top top-element) (still (high - 1) (omega (arith, Top.some))),
              (settled-code r o is).1,
            );
        first = refl;
        settled = λ none.
            let one : high - 1 ≡ 0 = none in
            let stored : code_at popped top ≡ code_of r = code_same last top (code_of r) (value_of r) (in-last top top-element) in
            subst (λ i. code_at popped (standing stack i) ≤ 4) one (omega (arith, stored, (settled-code r o is).0));
        right = λ ins R L. (
          (said-stored (outcomes s ins) (element-grows s ins) (total s) top top-element (body_of s top ins) (starts (high - 1) (omega (arith, Top.some)) ins)
              (steps (high - 1) (omega (arith, Top.some)) ins)
              last (ready-sized s last ready-last) (still (high - 1) (omega (arith, Top.some))) r (said ins R L)).right,
          record { link = λ j h k q. L.link j (omega (arith, Top.some)) k q },
        );
      }
        where
          before : (j : ℕ) → j < high → (j ≡ high - 1 → ⊥) → j < high - 1
          before j h ne = omega (arith, ne)

  -- ---- one that it waits for comes on top

  module _ (last : Memo) (a : Awaited) (D : WorksOut s memo last (body_of s top) (Err a)) where
    abbrev d : ℕ
    d = a.element

    pub wanted-element : d < total s
    wanted-element = D.wanted.0

    pub high-low : high < 4096
    high-low =
        omega (
          arith,
          St.height,
          D.kept.marks,
          codes-last last (Err a) D,
          marks-fewer last d (in-last last (Err a) D d wanted-element) D.wanted.1,
        )

    abbrev pushed : Memo
    pushed = noted last d busy (pos 0)

    abbrev taller : List ℕ
    taller = set stack high d

    on-top : standing taller high ≡ d
    on-top = get_or-set_same stack high d 0 (omega (arith, St.sized, high-low))

    under : (j : ℕ) → j < high → standing taller j ≡ standing stack j
    under j h = get_or-set_other stack high j d 0 (λ e. omega (arith, e))

    -- it was not there
    new : (j : ℕ) → j < high → standing stack j ≡ d → ⊥
    new j h e =
        let b : code_at last d ≡ busy = subst (λ i. code_at last i ≡ busy) e (still last (Err a) D j h) in
        omega (arith, b, D.wanted.1)

    -- a place on the taller stack is the top or one below
    either : (P : ℕ → Type 0) (j : ℕ) → j < high + 1 → (j < high → P j) → P high → P j
    either P j h f g = decide j high (ℕ_discrete j high) (λ e. subst P (sym e) g) (λ n. f (omega (arith, n)))

    pub pushed-turn : Turned s memo stack high pushed taller (high + 1)
    unfolding Says
    pushed-turn = record {
      ready = ready-noted s last (ready-last last (Err a) D) d busy (pos 0) wanted-element (omega (arith, Top.some))
          (λ l. (ready-last last (Err a) D).opens d wanted-element (omega (arith, D.wanted.1)));
      stacked = record {
        sized = simp length-set St.sized;
        height =
            omega (
              arith,
              St.height,
              D.kept.marks,
              sum-store busy_one last d unknown busy (pos 0) (in-last last (Err a) D d wanted-element) D.wanted.1,
            );
        element = λ j h. either (λ i. standing taller i < total s) j h (λ l. rw (under j l) (St.element j l)) (rw on-top wanted-element);
        marked = λ j h. either (λ i. code_at pushed (standing taller i) ≡ busy) j h
            (λ l. rw (under j l) (code_other last d busy (pos 0) (standing stack j) (λ e. new j l e) ∙ still last (Err a) D j l))
            (rw on-top (code_same last d busy (pos 0) (in-last last (Err a) D d wanted-element)));
        found = λ m h b. decide m d (ℕ_discrete m d)
            (λ same. (high, omega (arith, Top.some), on-top ∙ sym same))
            (λ other.
            let f = St.found m h (D.kept.idle m (sym (code_other last d busy (pos 0) m other) ∙ b)) in
            (f.0, omega (arith, f.1), under f.0 f.1 ∙ f.2));
        apart = λ i j l h e. decide j high (ℕ_discrete j high)
            (λ last_one. new i (omega (arith, Top.some)) (sym (under i (omega (arith, Top.some))) ∙ e ∙ ap (standing taller) last_one ∙ on-top))
            (λ n. let k : j < high = omega (arith, n) in St.apart i j l k (sym (under i (omega (arith, Top.some))) ∙ e ∙ under j k));
      };
      less = omega (arith, D.kept.less, sum-store to_do last d unknown busy (pos 0) (in-last last (Err a) D d wanted-element) D.wanted.1);
      first = under 0 (omega (arith, Top.some));
      settled = λ none. absurd (omega (arith, Top.some));
      right = λ ins R L.
          let S = said last (Err a) D ins R L in (
            right-set (outcomes s ins) (element-grows s ins) (total s) last (ready-sized s last (ready-last last (Err a) D)) S.right d unknown
                busy (pos 0) wanted-element D.wanted.1 refl (λ h. absurd (omega (arith, Top.some))),
            record {
              link = λ j h k q. decide (suc j) high (ℕ_discrete (suc j) high)
                  (λ is.
                  let at : j ≡ high - 1 = omega (arith, Top.some) in
                  let loops : outcomes s ins k d ≡ loop = subst (λ i. outcomes s ins k i ≡ loop) (ap (standing taller) is ∙ on-top) q in
                  subst (λ i. body_of s i ins k ≡ loop) (sym (under j (omega (arith, Top.some)) ∙ ap (standing stack) at)) (S.says k loops))
                  (λ n.
                  let l : suc j < high = omega (arith, n) in
                  subst (λ i. body_of s i ins k ≡ loop) (sym (under j (omega (arith, Top.some))))
                  (L.link j l k (subst (λ i. outcomes s ins k i ≡ loop) (under (suc j) l) q)));
            },
          );
    }

-- ---- from the first turn to the last

-- a code that is no unknown element's, and none in progress, is a settled one's
under-busy : (c : ℕ) → c ≤ busy → (c ≡ busy → ⊥) → c ≤ 4
under-busy c l ne = omega (arith, ne)

-- element e was put on an empty stack, which left memo, and so far
pub record Going (s : Sheet) (e : ℕ) (memo memo' : Memo) (stack : List ℕ) (high : ℕ) : Type 0 where
  pub ready : Ready s memo'
  pub stacked : Stacked s memo' stack high
  pub first : standing stack 0 ≡ e
  pub settled : high ≡ 0 → code_at memo' e ≤ 4
  pub right : (ins : List ℤ) → Right (outcomes s ins) (total s) memo → Right (outcomes s ins) (total s) memo' × Linked s ins stack high

pub going_on : (s : Sheet) (e : ℕ) (memo memo' memo'' : Memo) (stack stack' : List ℕ) (high high' : ℕ) →
    Going s e memo memo' stack high → Turned s memo' stack high memo'' stack' high' → Going s e memo memo'' stack' high'
going_on s e memo memo' memo'' stack stack' high high' G T = record {
  ready = T.ready;
  stacked = T.stacked;
  first = T.first ∙ G.first;
  settled = λ none. subst (λ i. code_at memo'' i ≤ 4) G.first (T.settled none);
  right = λ ins R. let g = G.right ins R in T.right ins g.0 g.1;
}

module _ (s : Sheet) (e : ℕ) (memo : Memo) (M : Ready s memo) (A : Alone s memo e) where
  -- it is settled already
  pub settled_before : (o : Declared.Outcome) → Known memo e (Ok o) → Settled s e memo memo o
  settled_before o k = record {
    ready = M;
    idle = A.idle;
    settled = under-busy (code_at memo e) k.0 (idle-none memo A.idle e);
    says = k.1;
    right = λ ins R. R;
  }

  -- after one attempt at it
  module _ (last : Memo) (r : Work) (D : WorksOut s memo last (λ ins. Memo.element (outcomes s ins) e) r) where
    idle-after : Idle last
    idle-after = D.kept.marks ∙ A.idle

    pub alone-after : Alone s last e
    alone-after = record { idle = idle-after; element = A.element }

    -- every entry is right, since no element waits for this one
    attempt-right : (ins : List ℤ) → Right (outcomes s ins) (total s) memo → Right (outcomes s ins) (total s) last
    attempt-right ins R = (D.said ins R (record { waits = λ m h b k q. absurd (idle-none memo A.idle m b) })).right

    -- it is settled, or unknown still
    pub attempted : (o : Declared.Outcome) → Known last e (Ok o) → Settled s e memo last o
    attempted o k = record {
      ready = ready-kept s memo last M D.kept;
      idle = idle-after;
      settled = under-busy (code_at last e) k.0 (idle-none last idle-after e);
      says = k.1;
      right = attempt-right;
    }

    pub settled-after : (memo' : Memo) (o : Declared.Outcome) → Settled s e last memo' o → Settled s e memo memo' o
    settled-after memo' o S = record {
      ready = S.ready;
      idle = S.idle;
      settled = S.settled;
      says = S.says;
      right = λ ins R. S.right ins (attempt-right ins R);
    }

  -- it is marked, and put on the stack
  module _ (late : unknown ≤ code_at memo e) where
    fresh : code_at memo e ≡ unknown
    fresh = omega (arith, M.low e)

    abbrev marked : Memo
    marked = noted memo e busy (pos 0)

    only : (stack : List ℕ) → length stack ≡ 4096 → (j : ℕ) → j < 1 → standing (set stack 0 e) j ≡ e
    only stack sized j h = subst (λ i. standing (set stack 0 e) i ≡ e) (zero_is j h) (get_or-set_same stack 0 e 0 (omega arith))
      where
        zero_is : (j : ℕ) → j < 1 → 0 ≡ j
        zero_is j h = omega arith

    pub going-first : (stack : List ℕ) → length stack ≡ 4096 → Going s e marked marked (set stack 0 e) 1
    going-first stack sized = record {
      ready = ready-noted s memo M e busy (pos 0) A.element (omega arith) (λ l. M.opens e A.element (omega (arith, fresh)));
      stacked = record {
        sized = simp length-set sized;
        height = omega (arith, sum-store busy_one memo e unknown busy (pos 0) (in_codes s memo M e busy (pos 0) A.element) fresh, A.idle);
        element = λ j h. rw (only stack sized j h) A.element;
        marked = λ j h. rw (only stack sized j h) (code_same memo e busy (pos 0) (in_codes s memo M e busy (pos 0) A.element));
        found = λ m h b. decide m e (ℕ_discrete m e)
            (λ same. (0, omega arith, only stack sized 0 (omega arith) ∙ sym same))
            (λ other. absurd (idle-none memo A.idle m (sym (code_other memo e busy (pos 0) m other) ∙ b)));
        apart = λ i j l h q. omega arith;
      };
      first = only stack sized 0 (omega arith);
      settled = λ none. absurd (omega arith);
      right = λ ins R. (R, record { link = λ j h k q. absurd (omega arith) });
    }

    -- the stack is empty again
    module _ (memo' : Memo) (stack : List ℕ) (high : ℕ) (G : Going s e marked memo' stack high) (none : high ≤ 0) where
      -- the memo has its outcome, and does not answer that it has to be worked out first
      pub last-known : (d : Awaited) {X : Type 0} → Known memo' e (Err d) → X
      last-known d k = let l = G.settled (omega arith) in absurd (omega (arith, k.0, l))

      pub going-last : (r : Work) → Known memo' e r → Settled s e memo memo' (result_unwrap_or r Outcomes.Loop)
      going-last (Err d) k = last-known d k
      going-last (Ok o) k = record {
        ready = G.ready;
        idle = omega (arith, G.stacked.height);
        settled = G.settled (omega arith);
        says = k.1;
        right = λ ins R.
            (G.right ins
            (right-set (outcomes s ins) (element-grows s ins) (total s) memo (ready-sized s memo M) R e unknown busy (pos 0) A.element fresh refl
            (λ h. absurd (omega arith)))
            ).0;
      }
