-- The branch that a case takes: one holds and no other does, so it is the spared one where none of the others is found to hold; and its
-- outcome is the case's. Assumes nothing.
use mathlib.Core.Path.{◌≡◌, refl, sym, ap, ◌∙◌, subst}
use mathlib.Core.Logic.{◌⊎◌, ⊎_elim}
use Prim.Native.Nat.{ℕ, ◌-◌, ◌≤◌, ◌<◌}
use native.Mathlib.Omega.{arith}
use mathlib.Core.Bool.{Bool, true, false, ◌&&◌}
use mathlib.Core.List.{List}
use mathlib.Core.Option.{Option, some}
use lib.IntN.{ℤ}
use Rattle.alpha.specs.Pick.{ifb}
use Rattle.alpha.specs.Sheet.{Expr, Expr.kase, Exprs, Exprs.none, Exprs.more, Sheet, Point}
use Rattle.alpha.specs.Shape.{fits, all_fit}
use Rattle.alpha.specs.Holds.{holds, clashes}
use Rattle.alpha.specs.Outcome.{Outcome, outside, eval, eval_first}
use Rattle.alpha.specs.Written.{branch_count}
use Rattle.laws.specs.At.{node_read, node_end, At, AllAt}
use Rattle.laws.specs.Children.{children_of, arity}
use Rattle.laws.specs.Sheets.{heads_of, vars_of, sheet_of}
use Rattle.laws.proofs.Tests.{&&-left, &&-right, true-not-false}
use Rattle.laws.proofs.Shapes.{MoreAt}
use Rattle.affine.specs.Value.{point_of}
use Rattle.tree.specs.declared.Class.TheVariants.{Case}
use Rattle.tree.specs.Classes.{class_at}
use Rattle.tree.specs.Ends.{EndsAt}
use Rattle.tree.proofs.Classes.{case_at}
use Rattle.tree.proofs.Standings.{children-at, children-counted, one_more}
use Rattle.domain.specs.declared.Standing.{Standing}
use Rattle.domain.specs.declared.Standing.TheVariants.{Not, Holds, Clash}
use Rattle.domain.specs.declared.Together.TheVariants.{Branches}
use Rattle.domain.specs.declared.Stood.{Stood}
use Rattle.domain.specs.Walk.{Walk, WalkAll}
use Rattle.domain.specs.Held.{Held}
use Rattle.domain.specs.Standing.{rated, standing, either, together, StandsAt}
use Rattle.domain.specs.Holding.{is_held, first_holding, HoldsAt, StandsSo, Taken, Sought, Chooses}
use Rattle.domain.proofs.Standings.{branches-stand}
use Rattle.domain.proofs.Walks.{SamePoint, walk-children, walk_first, children-fit}
use Rattle.domain.proofs.Carried.{not-held, held_by, held-tree}

-- ---- the outcome of a case

-- a case has the outcome of the branch that it takes, and none where it takes none
abbrev pub outcome_of : Option Expr → Sheet → (ℕ → Point → Outcome) → Point → Outcome
outcome_of (some e) s look z = eval e s look z
outcome_of Option.none s look z = outside

pub first-outcome : (es : Exprs) (s : Sheet) (look : ℕ → Point → Outcome) (z : Point) → eval_first es s look z ≡ outcome_of (first_holding es s z) s look z
unfolding eval first_holding
first-outcome none s look z = refl
first-outcome (more e es) s look z = go (holds e s z) (first-outcome es s look z)
  where
    go : (b : Bool) → eval_first es s look z ≡ outcome_of (first_holding es s z) s look z →
        ifb b (λ _. eval e s look z) (λ _. eval_first es s look z) ≡ outcome_of (ifb b (λ _. some e) (λ _. first_holding es s z)) s look z
    go true h = refl
    go false h = h

-- ---- one of two

held-is : (e : Expr) (s : Sheet) (z : Point) → is_held (standing e s z) ≡ holds e s z
held-is e s z = go (holds e s z) (clashes e s z)
  where
    go : (h c : Bool) → is_held (rated h c) ≡ h
    go false c = refl
    go true false = refl
    go true true = refl

clash-holds : {X : Type 0} → Clash ≡ Holds → X
clash-holds e = let z : ◌≡◌ {A = ℕ} 0 1 = cc in absurd (omega arith)

clash-not : {X : Type 0} → Clash ≡ Not → X
clash-not e = let z : ◌≡◌ {A = ℕ} 0 1 = cc in absurd (omega arith)

-- where one of two holds without a clash, the other does not hold
one_holds : {X : Type 0} (a b : Standing) → either a b ≡ Holds → (a ≡ Holds → b ≡ Not → X) → (a ≡ Not → b ≡ Holds → X) → X
one_holds Not b e first second = second refl e
one_holds Holds Not e first second = first refl refl
one_holds Holds Holds e first second = clash-holds e
one_holds Holds Clash e first second = clash-holds e
one_holds Clash b e first second = clash-holds e

neither-holds : (a b : Standing) → either a b ≡ Not → (a ≡ Not) × (b ≡ Not)
neither-holds Not b e = (refl, e)
neither-holds Holds Not e = (e, refl)
neither-holds Holds Holds e = clash-not e
neither-holds Holds Clash e = clash-not e
neither-holds Clash b e = clash-not e

-- a tree holds as it stands
pub held_at : (bs : List ℕ) (p : ℕ) (z : List ℤ) (t : Stood) (r : Bool) → StandsAt bs p z t → r ≡ is_held t.how → HoldsAt bs p z r
held_at bs p z t r stands is e q n h f = is ∙ ap is_held (stands e q n h f).1 ∙ held-is e (sheet_of bs) (point_of n z)

-- what is found at a place is so of any tree there
found-so : (bs : List ℕ) (p : ℕ) (z : List ℤ) (r : Bool) (how : Standing) → HoldsAt bs p z r → StandsSo bs p z how → r ≡ is_held how
found-so bs p z r how found x =
    found x.tree x.end x.dims x.at x.fitting ∙ sym (held-is x.tree (sheet_of bs) (point_of x.dims z)) ∙ ap is_held x.so

-- ---- the ways through the search

-- of the branch at p and the one that is spared one is tried, and the other is spared from then on
abbrev pub OneTried : ℕ → ℕ → ℕ → ℕ → Type 0
OneTried p spared tried kept = ((tried ≡ p) × (kept ≡ spared)) ⊎ ((tried ≡ spared) × (kept ≡ p))

module _ (bs : List ℕ) (left : ℕ) (z : List ℤ) where
  abbrev stands : Expr → ℕ → Standing
  stands e n = standing e (sheet_of bs) (point_of n z)

  abbrev branches : Exprs → ℕ → Standing
  branches es n = together Branches es (sheet_of bs) (point_of n z)

  -- no branch is left
  pub none-sought : (p count : ℕ) → count < 1 → (spared : ℕ) → Walk bs spared left z → Sought bs p left count z spared spared
  unfolding together
  none-sought p count l spared w = record {
    walk = w;
    itself = λ x es q n h m f none. refl;
    another = λ x es q n h m f one. not-held (sym (empty es n m) ∙ one);
  }
    where
      empty : (es : Exprs) (n : ℕ) → branch_count es ≡ count → branches es n ≡ Not
      empty none n m = refl
      empty (more e es) n m = absurd (omega arith)

  module _ (p count : ℕ) (some : 1 ≤ count) (w : WalkAll bs p left count z) where
    module _ (es : Exprs) (q n : ℕ) (h : AllAt es (vars_of bs) bs p q) (m : branch_count es ≡ count) (f : all_fit es (heads_of bs) n ≡ true) where
      split : MoreAt es (vars_of bs) bs p q (count - 1)
      split = one_more (vars_of bs) bs es p q count some h m

      abbrev first : Expr
      first = split.first

      abbrev rest : Exprs
      rest = split.rest

      parts : fits first (heads_of bs) n && all_fit rest (heads_of bs) n ≡ true
      unfolding fits
      parts = sym (ap (λ t. all_fit t (heads_of bs) n) split.is) ∙ f

      fit-first : fits first (heads_of bs) n ≡ true
      fit-first = &&-left (fits first (heads_of bs) n) (all_fit rest (heads_of bs) n) parts

      fit-rest : all_fit rest (heads_of bs) n ≡ true
      fit-rest = &&-right (fits first (heads_of bs) n) (all_fit rest (heads_of bs) n) parts

      first_so : (how : Standing) → stands first n ≡ how → StandsSo bs p z how
      first_so how e = record { tree = first; end = split.middle; dims = n; at = split.before; fitting = fit-first; so = e }

      rest_at : (next : ℕ) → EndsAt (vars_of bs) bs p next → AllAt rest (vars_of bs) bs next q
      rest_at next ends = rw (ends first split.middle split.before) split.after

      joined_is : branches es n ≡ either (stands first n) (branches rest n)
      unfolding together
      joined_is = ap (λ t. branches t n) split.is

      first_by : (b : Bool) → is_held (stands first n) ≡ b →
          first_holding es (sheet_of bs) (point_of n z) ≡ ifb b (λ _. Option.some first) (λ _. first_holding rest (sheet_of bs) (point_of n z))
      unfolding first_holding
      first_by b e =
          ap (λ t. first_holding t (sheet_of bs) (point_of n z)) split.is
          ∙ ap (λ c. ifb c (λ _. Option.some first) (λ _. first_holding rest (sheet_of bs) (point_of n z)))
          (sym (held-is first (sheet_of bs) (point_of n z)) ∙ e)

      -- it is taken where it holds
      taken-first : stands first n ≡ Holds → Taken bs es n z p
      taken-first g = record {
        tree = first;
        end = split.middle;
        at = split.before;
        fitting = fit-first;
        clear = g;
        first = first_by true (ap is_held g);
      }

      -- and else what is taken of the others
      taken-rest : (r : ℕ) → stands first n ≡ Not → Taken bs rest n z r → Taken bs es n z r
      taken-rest r g y = record {
        tree = y.tree;
        end = y.end;
        at = y.at;
        fitting = y.fitting;
        clear = y.clear;
        first = first_by false (ap is_held g) ∙ y.first;
      }

      -- where one branch holds, and the first is spared from here on
      pub taken-by : (next : ℕ) → EndsAt (vars_of bs) bs p next → (r : ℕ) → Sought bs next left (count - 1) z p r →
          branches es n ≡ Holds → Taken bs es n z r
      taken-by next ends r x g =
          one_holds (stands first n) (branches rest n) (sym joined_is ∙ g)
          (λ one none.
          let same = x.itself (first_so Holds one) rest q n (rest_at next ends) split.many fit-rest none in
          subst (Taken bs es n z) (sym same) (taken-first one))
          (λ not one. taken-rest r not (x.another (first_so Not not) rest q n (rest_at next ends) split.many fit-rest one))

    module _ (spared : ℕ) where
      -- the spared one holds
      spared-held : Walk bs spared left z → HoldsAt bs spared z true → Sought bs p left count z spared spared
      spared-held v found = record {
        walk = v;
        itself = λ x es q n h m f none. refl;
        another = λ x es q n h m f one. true-not-false refl (found-so bs spared z true Not found x);
      }

      -- the first of the others does
      this-held : HoldsAt bs p z true → Sought bs p left count z spared p
      this-held found = record {
        walk = walk_first bs p left count z some w;
        itself = λ x es q n h m f none.
            let not = (neither-holds (stands (first es q n h m f) n) (branches (rest es q n h m f) n) (sym (joined_is es q n h m f) ∙ none)).0 in
            true-not-false refl (found-so bs p z true Not found (first_so es q n h m f Not not));
        another = λ x es q n h m f one.
            one_holds (stands (first es q n h m f) n) (branches (rest es q n h m f) n) (sym (joined_is es q n h m f) ∙ one)
            (λ held none. taken-first es q n h m f held)
            (λ not held. true-not-false refl (found-so bs p z true Not found (first_so es q n h m f Not not)));
      }

      module _ (next : ℕ) (ends : EndsAt (vars_of bs) bs p next) (r : ℕ) where
        -- the spared one does not, and the first of the others is spared instead
        spared-lacks : HoldsAt bs spared z false → Sought bs next left (count - 1) z p r → Sought bs p left count z spared r
        spared-lacks found y = record {
          walk = y.walk;
          itself = λ x es q n h m f none. true-not-false (found-so bs spared z false Holds found x) refl;
          another = λ x es q n h m f one. taken-by es q n h m f next ends r y one;
        }

        -- the first of the others does not
        this-lacks : HoldsAt bs p z false → Sought bs next left (count - 1) z spared r → Sought bs p left count z spared r
        this-lacks found y = record {
          walk = y.walk;
          itself = λ x es q n h m f none.
              let no = neither-holds (stands (first es q n h m f) n) (branches (rest es q n h m f) n) (sym (joined_is es q n h m f) ∙ none) in
              y.itself x (rest es q n h m f) q n (rest_at es q n h m f next ends) (split es q n h m f).many (fit-rest es q n h m f) no.1;
          another = λ x es q n h m f one.
              one_holds (stands (first es q n h m f) n) (branches (rest es q n h m f) n) (sym (joined_is es q n h m f) ∙ one)
              (λ held none. true-not-false (found-so bs p z false Holds found (first_so es q n h m f Holds held)) refl)
              (λ not held.
              taken-rest es q n h m f r not
              (y.another x (rest es q n h m f) q n (rest_at es q n h m f next ends) (split es q n h m f).many (fit-rest es q n h m f) held));
        }

    module _ (spared : ℕ) (walk : Walk bs spared left z) (tried kept : ℕ) (which : OneTried p spared tried kept) where
      pub tried-walk : Walk bs tried left z
      tried-walk = ⊎_elim (λ a. rw a.0 (walk_first bs p left count z some w)) (λ a. rw a.0 walk) which

      pub kept-walk : Walk bs kept left z
      kept-walk = ⊎_elim (λ a. rw a.1 walk) (λ a. rw a.1 (walk_first bs p left count z some w)) which

      pub tried-held : HoldsAt bs tried z true → Sought bs p left count z spared tried
      tried-held found =
          ⊎_elim (λ a. rw a.0 (this-held spared (rw a.0 at found))) (λ a. rw a.0 (spared-held spared walk (rw a.0 at found))) which

      pub tried-lacks : HoldsAt bs tried z false → (next : ℕ) → EndsAt (vars_of bs) bs p next →
          (r : ℕ) → Sought bs next left (count - 1) z kept r → Sought bs p left count z spared r
      tried-lacks found next ends r x =
          ⊎_elim (λ a. this-lacks spared next ends r (rw a.0 at found) (rw a.1 at x)) (λ a. spared-lacks spared next ends r (rw a.0 at found) (rw a.1 at x))
          which

-- ---- a case

module _ (bs : List ℕ) (p left k count : ℕ) (z : List ℤ) (held : Held bs p left z) (class_is : class_at bs p ≡ Case)
    (next : k ≡ node_end (vars_of bs) bs p) (many : count ≡ arity (node_read (vars_of bs) bs p)) where
  abbrev w : Walk bs p left z
  w = held.walk

  same : SamePoint (class_at bs p)
  same = rw class_is tt

  pub walk-branches : WalkAll bs k (left - 1) count z
  walk-branches = walk-children bs p left z w k count next many same

  pub some-branch : 1 ≤ count
  some-branch =
      let x = case_at bs w.tree p w.end w.at class_is in
      let counted = children-counted (vars_of bs) bs p k count next many w.tree w.end w.at in
      omega (arith, x.many.low, ap (λ t. branch_count (children_of t)) x.is, counted)

  -- where its first branch is spared at first
  module _ (after : ℕ) (ends : EndsAt (vars_of bs) bs k after) (r : ℕ) (x : Sought bs after (left - 1) (count - 1) z k r) where
    taken : (es : Exprs) (q n : ℕ) → At (kase es) (vars_of bs) bs p q → fits (kase es) (heads_of bs) n ≡ true → Taken bs es n z r
    taken es q n a f =
        taken-by bs (left - 1) z k count some-branch walk-branches es q n
        (children-at (vars_of bs) bs p k count next many (kase es) q a)
        (children-counted (vars_of bs) bs p k count next many (kase es) q a)
        (children-fit bs p (kase es) q a same n f) after ends r x
        (sym (branches-stand (sheet_of bs) (point_of n z) es) ∙ held-tree bs p left z (kase es) q n a f held)

    pub chooses : Chooses bs p (left - 1) z r
    chooses =
        let c = case_at bs w.tree p w.end w.at class_is in
        let here : At (kase c.branches) (vars_of bs) bs p w.end = subst (λ t. At t (vars_of bs) bs p w.end) c.is w.at in
        let y = taken c.branches w.end w.dims here (sym (ap (λ t. fits t (heads_of bs) w.dims) c.is) ∙ w.fitting) in
        record { says = taken; held = held_by bs r (left - 1) z y.tree y.end w.dims y.at y.fitting x.walk y.clear }
