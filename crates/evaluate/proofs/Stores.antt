-- What the memo's stores keep: an element is marked as in progress, its body is worked out, and its entry is stored. Assumes nothing.
use mathlib.Core.Path.{◌≡◌, refl, sym, ap, ◌∙◌}
use Prim.Native.Nat.{ℕ, zero, suc, ◌+◌, ◌≤◌, ◌<◌}
use native.Mathlib.Nat.{le_refl, le_trans}
use native.Mathlib.Decide.{ℕ_discrete}
use native.Mathlib.Omega.{arith}
use mathlib.Core.List.{List, [], ◌∷◌}
use lib.ListN.{length, get_or, set, length-set}
use lib.Seq.{get_or-set_same, get_or-set_other}
use lib.IntN.{ℤ, pos}
use Rattle.alpha.specs.declared.Outcome as Declared
use Rattle.alpha.specs.Outcome.{Outcome, loop}
use Rattle.alpha.specs.Verdict.{outcome_of, code_for, value_for}
use Rattle.laws.specs.Coded.{decoded}
use Rattle.laws.proofs.Growth.{under-loop}
use Rattle.std.specs.Prelude.{Ok, Err}
use Rattle.evaluate.specs.Memo.{Work, busy, unknown, Thing, Elements, Grows, element, Memo, code_at, value_in, value_at, saved_at}
use Rattle.evaluate.specs.Memo.{sum, settled_one, busy_one, to_do, count, Sized, Tells, Right, Waits, Says, Said, Kept, Wanted}
use Rattle.evaluate.specs.Memo.{noted, code_of, value_of, stored}
use Rattle.evaluate.proofs.Entries.{by_loop, decoded-coded, under_same, settled-low, answer-idle, answer-unmarked, answer-low, answer-to-do}

pub decide {ℓ} : {X : Type ℓ} (m e : ℕ) → Dec (m ≡ e) → (m ≡ e → X) → (¬ (m ≡ e) → X) → X
decide m e (yes p) f g = f p
decide m e (no p) f g = g p

-- ---- an entry after a store

module _ (memo : Memo) (e c : ℕ) (x : ℤ) where
  pub code_same : e < length memo.codes → code_at (noted memo e c x) e ≡ c
  code_same h = get_or-set_same memo.codes e c 0 h

  pub code_other : (m : ℕ) → ¬ (m ≡ e) → code_at (noted memo e c x) m ≡ code_at memo m
  code_other m n = get_or-set_other memo.codes e m c 0 n

  pub value_same : e < length memo.values → value_at (noted memo e c x) e ≡ x
  value_same h = get_or-set_same memo.values e x (value_in 0) h

  pub value-other : (m : ℕ) → ¬ (m ≡ e) → value_at (noted memo e c x) m ≡ value_at memo m
  value-other m n = get_or-set_other memo.values e m x (value_in 0) n

-- a sum over the entries goes by the one that is stored
pub sum-set : (w : ℕ → ℕ) (cs : List ℕ) (i c : ℕ) → i < length cs → sum w (set cs i c) + w (get_or cs i 0) ≡ sum w cs + w c
unfolding sum
sum-set w [] i c h = absurd (omega arith)
sum-set w (d ∷ cs) zero c h = omega arith
sum-set w (d ∷ cs) (suc i) c h = let q : i < length cs = omega arith in omega (arith, sum-set w cs i c q)

-- where the entry's old code is known
pub sum-store : (w : ℕ → ℕ) (memo : Memo) (e old c : ℕ) (x : ℤ) → e < length memo.codes → code_at memo e ≡ old →
    sum w (noted memo e c x).codes + w old ≡ sum w memo.codes + w c
sum-store w memo e old c x h is = rw (← is) (sum-set w memo.codes e c h)

-- ---- nothing stored, and one after another

pub kept_same : (memo : Memo) → Kept memo memo
kept_same memo = record {
  long = refl;
  paired = refl;
  more = le_refl (count memo);
  still = λ m h. h;
  idle = λ m h. h;
  opened = λ m h. h;
  low = λ l. l;
  marks = refl;
  less = le_refl (sum to_do memo.codes);
}

pub kept-two : {a b c : Memo} → Kept a b → Kept b c → Kept a c
kept-two K L = record {
  long = L.long ∙ K.long;
  paired = L.paired ∙ K.paired;
  more = le_trans K.more L.more;
  still = λ m h. L.still m (K.still m h);
  idle = λ m h. K.idle m (L.idle m h);
  opened = λ m h. K.opened m (L.opened m h);
  low = λ l. L.low (K.low l);
  marks = L.marks ∙ K.marks;
  less = le_trans L.less K.less;
}

pub sized-kept : (n : ℕ) (memo last : Memo) → Sized n memo → Kept memo last → Sized n last
sized-kept n memo last S K = record { room = omega (arith, S.room, K.long); pairs = K.paired ∙ S.pairs ∙ sym K.long }

pub sized-noted : (n : ℕ) (memo : Memo) (e c : ℕ) (x : ℤ) → Sized n memo → Sized n (noted memo e c x)
sized-noted n memo e c x S = record { room = simp length-set S.room; pairs = simp length-set S.pairs }

-- ---- an element is marked, something is worked out, and the element's entry is stored

module _ (memo : Memo) (e : ℕ) (in-memo : e < length memo.codes) (fresh : code_at memo e ≡ unknown) (last : Memo)
    (K : Kept (noted memo e busy (pos 0)) last) where
  pub still-busy : code_at last e ≡ busy
  still-busy = K.still e (code_same memo e busy (pos 0) in-memo)

  pub in-last : e < length last.codes
  in-last = let l : length last.codes ≡ length memo.codes = simp length-set at K.long in omega arith

  marked-low : ((m : ℕ) → code_at memo m ≤ unknown) → (m : ℕ) → code_at (noted memo e busy (pos 0)) m ≤ unknown
  marked-low l m = decide m e (ℕ_discrete m e)
      (λ same. rw (same, code_same memo e busy (pos 0) in-memo) (omega arith))
      (λ other. rw (code_other memo e busy (pos 0) m other) (l m))

  module _ (r : Work) where
    pub kept-stored : Kept memo (stored last e r)
    kept-stored = record {
      long = simp length-set (K.long ∙ simp length-set);
      paired = simp length-set (K.paired ∙ simp length-set);
      more = omega (
        arith,
        sum-store settled_one memo e unknown busy (pos 0) in-memo fresh,
        K.more,
        sum-store settled_one last e busy (code_of r) (value_of r) in-last still-busy,
      );
      still = λ m h. decide m e (ℕ_discrete m e)
          (λ same. absurd (let b : code_at memo e ≡ busy = rw same at h in omega (arith, b, fresh)))
          (λ other. code_other last e (code_of r) (value_of r) m other ∙ K.still m (code_other memo e busy (pos 0) m other ∙ h));
      idle = λ m h. decide m e (ℕ_discrete m e)
          (λ same. absurd (answer-idle r (sym (code_same last e (code_of r) (value_of r) in-last) ∙ rw same at h)))
          (λ other. sym (code_other memo e busy (pos 0) m other) ∙ K.idle m (sym (code_other last e (code_of r) (value_of r) m other) ∙ h));
      opened = λ m h. decide m e (ℕ_discrete m e)
          (λ same. rw same (omega (arith, fresh)))
          (λ other. let l = K.opened m (rw (code_other last e (code_of r) (value_of r) m other) at h) in rw (code_other memo e busy (pos 0) m other) at l);
      low = λ l m. decide m e (ℕ_discrete m e)
          (λ same. rw (same, code_same last e (code_of r) (value_of r) in-last) (answer-low r))
          (λ other. rw (code_other last e (code_of r) (value_of r) m other) (K.low (marked-low l) m));
      marks = omega (
        arith,
        sum-store busy_one memo e unknown busy (pos 0) in-memo fresh,
        K.marks,
        sum-store busy_one last e busy (code_of r) (value_of r) in-last still-busy,
        answer-unmarked r,
      );
      less = omega (
        arith,
        sum-store to_do memo e unknown busy (pos 0) in-memo fresh,
        K.less,
        sum-store to_do last e busy (code_of r) (value_of r) in-last still-busy,
        answer-to-do r,
      );
    }

-- an element that was wanted is still unknown where another entry is stored, or its own as unknown again
pub wanted-stored : (n : ℕ) (last : Memo) (e : ℕ) (r : Work) → e < length last.codes → Wanted n last r →
    Wanted n (stored last e r) r
wanted-stored n last e (Ok o) h w = tt
wanted-stored n last e (Err d) h w = (
  w.0,
  decide d.element e (ℕ_discrete d.element e)
      (λ same. rw same (code_same last e unknown (pos 0) h))
      (λ other. code_other last e unknown (pos 0) d.element other ∙ w.1),
)

-- ---- what an outcome tells of a thing it tells at greater depths too
pub tells-later : (f : Thing) → Grows f → (j k : ℕ) (o : Outcome) → j ≤ k → Tells f j o → Tells f k o
tells-later f grows j k o h t =
    record { is = under_same o (f k) (rw t.is at (grows j k h)) (λ l. t.stuck l k); stuck = t.stuck }

-- ---- right entries

module _ (out : Elements) (grows : (m : ℕ) → Grows (element out m)) (n : ℕ) where
  pub loop_down : (j k m : ℕ) → j ≤ k → out k m ≡ loop → out j m ≡ loop
  loop_down j k m h l = under-loop (out j m) (rw l at (grows m j k h))

  -- a store at e, where nothing was settled
  module _ (memo : Memo) (S : Sized n memo) (R : Right out n memo) (e old c : ℕ) (x : ℤ) (lt : e < n) (is : code_at memo e ≡ old)
      (un : settled_one old ≡ 0) where
    in_codes : e < length memo.codes
    in_codes = omega (arith, S.room)

    in_values : e < length memo.values
    in_values = omega (arith, S.room, S.pairs)

    count-more : count memo ≤ count (noted memo e c x)
    count-more = omega (arith, sum-store settled_one memo e old c x in_codes is, un)

    pub right-set : (c ≤ 4 → Tells (element out e) (count (noted memo e c x)) (decoded c x)) → Right out n (noted memo e c x)
    right-set p = record {
      settled = λ m h s. decide m e (ℕ_discrete m e)
          (λ same. rw (same, code_same memo e c x in_codes, value_same memo e c x in_values) (p (rw (same, code_same memo e c x in_codes) at s)))
          (λ other.
          let code = code_other memo e c x m other in
          rw (code, value-other memo e c x m other)
          (tells-later (element out m) (grows m) (count memo) (count (noted memo e c x)) (saved_at memo m) count-more (R.settled m h (rw code at s))));
    }

  -- ---- waiting

  -- an element in progress that waits for itself loops at every depth
  pub busy-loops : (memo : Memo) (e : ℕ) → e < n → code_at memo e ≡ busy → out 0 e ≡ loop → Waits out n memo (element out e) → (k : ℕ) → out k e ≡ loop
  busy-loops memo e lt b start W zero = start
  busy-loops memo e lt b start W (suc k) = W.waits e lt b k (busy-loops memo e lt b start W k)

  -- what waits for f waits for each thing that makes f loop
  pub waits-sub : (memo : Memo) (f g : Thing) → Waits out n memo f → ((k : ℕ) → g k ≡ loop → f k ≡ loop) → Waits out n memo g
  waits-sub memo f g W s = record { waits = λ m h b k q. W.waits m h b k (s k q) }

  pub waits_kept : (memo last : Memo) (f : Thing) → Waits out n memo f → Kept memo last → Waits out n last f
  waits_kept memo last f W K = record { waits = λ m h b k q. W.waits m h (K.idle m b) k q }

  -- ---- an element and its body: at the next depth the element is what its body is, and at depth 0 a loop

  module _ (e : ℕ) (lt : e < n) (body : Thing) (start : out 0 e ≡ loop) (step : (k : ℕ) → out (suc k) e ≡ body k) where
    -- marked as in progress
    module _ (memo : Memo) (S : Sized n memo) (fresh : code_at memo e ≡ unknown) where
      pub right-mark : Right out n memo → Right out n (noted memo e busy (pos 0))
      right-mark R = right-set memo S R e unknown busy (pos 0) lt fresh refl (λ h. absurd (omega arith))

      pub waits-mark : Waits out n memo (element out e) → Waits out n (noted memo e busy (pos 0)) body
      waits-mark W = record {
        waits = λ m h b k q.
            let here : out (suc k) e ≡ loop = step k ∙ q in
            decide m e (ℕ_discrete m e)
            (λ same. rw same here)
            (λ other.
            loop_down (suc k) (suc (suc k)) m (omega arith) (W.waits m h (rw (code_other memo e busy (pos 0) m other) at b) (suc k) here));
      }

    -- its body was worked out: its entry is stored
    module _ (last : Memo) (S : Sized n last) (b : code_at last e ≡ busy) where
      in-codes-last : e < length last.codes
      in-codes-last = omega (arith, S.room)

      right_kept : (r : Work) → Right out n last →
          (code_of r ≤ 4 → Tells (element out e) (count (stored last e r)) (decoded (code_of r) (value_of r))) →
          Right out n (stored last e r)
      right_kept r R p = right-set last S R e busy (code_of r) (value_of r) lt b refl p

      -- what tells of the body at a depth tells of the element at the next, and a loop at every depth
      module _ (o : Declared.Outcome) (T : Tells body (count last) (outcome_of o)) where
        abbrev kept : Memo
        kept = stored last e (Ok o)

        loops : outcome_of o ≡ loop → (k : ℕ) → out k e ≡ loop
        loops l zero = start
        loops l (suc k) = step k ∙ T.stuck l k

        one_more : code_for o ≤ 3 → count kept ≡ suc (count last)
        one_more h = omega (arith, sum-store settled_one last e busy (code_for o) (value_for o) in-codes-last b, settled-low (code_for o) h)

        element-tells : Tells (element out e) (count kept) (outcome_of o)
        element-tells = record {
          is = by_loop (outcome_of o)
              (λ l. loops l (count kept) ∙ sym l)
              (λ h. ap (λ k. out k e) (one_more h) ∙ step (count last) ∙ T.is);
          stuck = loops;
        }

      pub said-stored : (r : Work) → Said out n last body r → Said out n (stored last e r) (element out e) r
      unfolding Says
      said-stored (Ok o) D =
          let T = element-tells o D.says in
          record { right = right_kept (Ok o) D.right (λ h. rw (decoded-coded (outcome_of o)) T); says = T }
      said-stored (Err d) D = record {
        right = right_kept (Err d) D.right (λ h. absurd (omega arith));
        says = λ k l. loop_down k (suc k) e (omega arith) (step k ∙ D.says k l);
      }
