-- What the run promises, way by way: each refusal in its order, and both tables. Assumes nothing.
use Rattle.std.specs.Prelude.{Result, Ok, Err}
use mathlib.Core.Path.{◌≡◌, refl, sym, ap, ◌∙◌}
use Prim.Native.Nat.{ℕ, ◌+◌, ◌-◌, ◌≤◌, ◌<◌}
use native.Mathlib.Decide.{dec_lt}
use native.Mathlib.Omega.{arith}
use mathlib.Core.List.{List, [], ◌++◌, map}
use lib.ListN.{length, get_or, drop, length-append, length-drop, length-map, get_or-append}
use lib.Seq.{ext_get_or, get_or-append-add, get_or-drop}
use lib.IntN.{ℤ, pos}
use lib.Dec.{leb}
use borrow.Author.Tests.{le-leb, lt-leb}
use Rattle.alpha.specs.Answer.{Answer, accepted, refused, next, ROOM}
use Rattle.alpha.specs.Sheet.{Sheet}
use Rattle.alpha.specs.Check.{Element, check, elements, total}
use Rattle.alpha.specs.Run.{inputs, room, code_of, value_of, outcome_at, Tables, tables, admitted, run}
use Rattle.alpha.specs.Verdict.{told, number_of, place_of}
use Rattle.alpha.specs.declared.Refusal.{Refusal}
use Rattle.alpha.specs.declared.Refusal.TheVariants.{Room}
use Rattle.alpha.specs.Promise.{total_of, lent_after, Runs}
use Rattle.laws.proofs.Tests.{ifb-true, ifb-false}
use Rattle.laws.proofs.Elements.{get_or-map_below, length-elements}
use Rattle.evaluate.specs.Memo.{Memo, Right}
use Rattle.evaluate.specs.Working.{element_at, outcomes}
use Rattle.run.specs.Filling.{FillsAll}

-- ---- the run by its steps

module _ (bs : List ℕ) (ins : List ℤ) (c w : ℕ) where
  run-unread : (n p : ℕ) → check bs ≡ refused n p → run bs ins c w ≡ refused n p
  unfolding run admitted
  run-unread n p e = rw e refl

  module _ (s : Sheet) (is : check bs ≡ accepted s) where
    run-inputs : (n p : ℕ) → inputs s ins ≡ refused n p → run bs ins c w ≡ refused n p
    unfolding run admitted
    run-inputs n p e = rw (is, e) refl

    module _ (taken : inputs s ins ≡ accepted tt) where
      run_room : run bs ins c w ≡ next (room (total s) c) (λ _. next (room (total s) w) (λ _. accepted (tables s ins)))
      unfolding run admitted
      run_room = rw (is, taken) refl

      room-short : (n : ℕ) → n < total s → room (total s) n ≡ refused ROOM (total s)
      room-short n h = ifb-false (leb (total s) n) _ _ (lt-leb (total s) n h)

      room-there : (n : ℕ) → total s ≤ n → room (total s) n ≡ accepted tt
      room-there n h = ifb-true (leb (total s) n) _ _ (le-leb (total s) n h)

      run-codes : c < total s → run bs ins c w ≡ refused ROOM (total s)
      run-codes h = run_room ∙ ap (λ a. next a (λ _. next (room (total s) w) (λ _. accepted (tables s ins)))) (room-short c h)

      run-values : total s ≤ c → w < total s → run bs ins c w ≡ refused ROOM (total s)
      run-values h k =
          run_room
          ∙ ap (λ a. next a (λ _. next (room (total s) w) (λ _. accepted (tables s ins)))) (room-there c h)
          ∙ ap (λ a. next a (λ _. accepted (tables s ins))) (room-short w k)

      run-all : total s ≤ c → total s ≤ w → run bs ins c w ≡ accepted (tables s ins)
      run-all h k =
          run_room
          ∙ ap (λ a. next a (λ _. next (room (total s) w) (λ _. accepted (tables s ins)))) (room-there c h)
          ∙ ap (λ a. next a (λ _. accepted (tables s ins))) (room-there w k)

-- ---- the promise

module _ (bs : List ℕ) (ins : List ℤ) (codes : List ℕ) (values : List ℤ) where
  abbrev ran : Answer Tables
  ran = run bs ins (length codes) (length values)

  refused-runs : (n p : ℕ) → ran ≡ refused n p → (r : Result ℕ Refusal) → told r ≡ refused n p → Runs bs ins codes codes values values r
  refused-runs n p is r e = record {
    answer = e ∙ sym (ap (λ a. next a (λ _. total_of (check bs))) is);
    codes_after = sym (ap (λ a. lent_after a (λ t. t.codes) codes) is);
    values_after = sym (ap (λ a. lent_after a (λ t. t.values) values) is);
  }

  -- the sheet is refused
  pub unread-runs : (why : Refusal) → refused (number_of why) (place_of why) ≡ total_of (check bs) → Runs bs ins codes codes values values (Err why)
  unread-runs why e = go (check bs) refl (sym e)
    where
      go : (a : Answer Sheet) → check bs ≡ a → total_of a ≡ refused (number_of why) (place_of why) → Runs bs ins codes codes values values (Err why)
      go (accepted s) q f = let x : ◌≡◌ {A = ℕ} 0 1 = cc in absurd (omega arith)
      go (refused n p) q f = refused-runs n p (run-unread bs ins (length codes) (length values) n p q) (Err why) (sym f)

  module _ (s : Sheet) (is : check bs ≡ accepted s) where
    pub inputs-runs : (why : Refusal) → refused (number_of why) (place_of why) ≡ inputs s ins → Runs bs ins codes codes values values (Err why)
    inputs-runs why e =
        refused-runs (number_of why) (place_of why) (run-inputs bs ins (length codes) (length values) s is (number_of why) (place_of why) (sym e))
        (Err why) refl

    -- the total that the check answered
    pub total_is : (n : ℕ) → accepted n ≡ total_of (check bs) → n ≡ total s
    total_is n e = let f : accepted n ≡ accepted (total s) = e ∙ ap total_of is in cc

    module _ (taken : accepted tt ≡ inputs s ins) (n : ℕ) (many : n ≡ total s) where
      pub codes-runs : length codes < n → Runs bs ins codes codes values values (Err (Room n))
      codes-runs h =
          refused-runs ROOM (total s) (run-codes bs ins (length codes) (length values) s is (sym taken) (omega (arith, many))) (Err (Room n))
          (ap (refused ROOM) many)

      pub values-runs : n ≤ length codes → length values < n → Runs bs ins codes codes values values (Err (Room n))
      values-runs h k =
          refused-runs ROOM (total s) (run-values bs ins (length codes) (length values) s is (sym taken) (omega (arith, many)) (omega (arith, many)))
          (Err (Room n)) (ap (refused ROOM) many)

      -- ---- both tables

      module _ (h : n ≤ length codes) (k : n ≤ length values) (memo : Memo) (R : Right (outcomes s ins) (total s) memo) (codes' : List ℕ) (values' : List ℤ)
          (F : FillsAll s memo (total s) codes codes' values values') where
        code : Element → ℕ
        code e = code_of (outcome_at s ins e)

        number : Element → ℤ
        number e = value_of (outcome_at s ins e)

        -- a table of one entry for each element, and beyond it what was there
        filled : {X : Type 0} (f : Element → X) (d : X) (old new : List X) → total s ≤ length old → length new ≡ length old →
            ((m : ℕ) → m < total s → get_or new m d ≡ f (element_at s m)) → ((m : ℕ) → total s ≤ m → get_or new m d ≡ get_or old m d) →
            new ≡ map f (elements s) ++ drop (length (map f (elements s))) old
        filled f d old new room long shows stay = ext_get_or d new (map f (elements s) ++ drop (length (map f (elements s))) old) whole each
          where
            many-entries : length (map f (elements s)) ≡ total s
            many-entries = length-map (elements s) f ∙ length-elements s

            whole : length new ≡ length (map f (elements s) ++ drop (length (map f (elements s))) old)
            whole =
                omega (
                  arith,
                  long,
                  many-entries,
                  length-append (map f (elements s)) (drop (length (map f (elements s))) old),
                  length-drop (length (map f (elements s))) old,
                )

            each : (m : ℕ) → m < length new → get_or new m d ≡ get_or (map f (elements s) ++ drop (length (map f (elements s))) old) m d
            each m l = go (dec_lt m (total s))
              where
                go : Dec (m < total s) → get_or new m d ≡ get_or (map f (elements s) ++ drop (length (map f (elements s))) old) m d
                go (yes low) =
                    shows m low
                    ∙ sym (get_or-append (map f (elements s)) (drop (length (map f (elements s))) old) d m (omega (arith, many-entries))
                    ∙ get_or-map_below f (elements s) m (record { who = 0; at = [] }) d (omega (arith, length-elements s)))
                go (no high) =
                    let n = length (map f (elements s)) in
                    let at : n + (m - n) ≡ m = omega (arith, many-entries) in
                    stay m (omega arith)
                    ∙ sym (ap (λ i. get_or (map f (elements s) ++ drop n old) i d) (sym at)
                    ∙ get_or-append-add (map f (elements s)) (drop n old) (m - n) d
                    ∙ get_or-drop n old (m - n) d
                    ∙ ap (λ i. get_or old i d) at)

        pub all_runs : Runs bs ins codes codes' values values' (Ok n)
        unfolding code number
        all_runs =
            let done = run-all bs ins (length codes) (length values) s is (sym taken) (omega (arith, many)) (omega (arith, many)) in
            record {
              answer = ap accepted many ∙ sym (ap (λ a. next a (λ _. total_of (check bs))) done ∙ ap total_of is);
              codes_after =
                  filled code 0 codes codes' (omega (arith, many)) F.codes_long (λ m l. (F.shows ins R m l).code) F.codes_stay
                  ∙ sym (ap (λ a. lent_after a (λ t. t.codes) codes) done);
              values_after =
                  filled number (pos 0) values values' (omega (arith, many)) F.values_long (λ m l. (F.shows ins R m l).value) F.values_stay
                  ∙ sym (ap (λ a. lent_after a (λ t. t.values) values) done);
            }
