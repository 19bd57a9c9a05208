-- The case of the constants 7 and 9 that the calls are made on: what is read there, and the tree that stands there. Assumes nothing.
use mathlib.Core.Path.{◌≡◌, refl, sym, ap, ◌∙◌}
use Prim.Native.Nat.{ℕ}
use native.Mathlib.Omega.{arith}
use mathlib.Core.List.{List, [], ◌∷◌}
use lib.ListN.{length}
use lib.IntN.{pos}
use Rattle.alpha.specs.Sheet.{Expr, Node.n_int, Node.n_case, Expr.int, Expr.kase, Exprs.none, Exprs.more}
use Rattle.alpha.specs.Read.{got, passing, nodes, node}
use Rattle.alpha.specs.Shape.{fits}
use Rattle.alpha.specs.Reach.{reach}
use Rattle.alpha.specs.Written.{bytes, node_count}
use Rattle.alpha.specs.Field.{bytes_of}
use Rattle.alpha.specs.Normal.{push, norm}
use Rattle.normal.specs.Count.{count_of}
use Rattle.laws.specs.At.{At, node_read, read_node}
use Rattle.tree.specs.declared.Class.TheVariants.{Restriction}
use Rattle.laws.specs.Sheets.{vars_of}
use Rattle.laws.proofs.Trees.{at-unique}
use Rattle.affine.specs.declared.Map.{Map}
use Rattle.affine.specs.Value.{map_of, Neat}
use Rattle.alpha.specs.Affine.{identity}
use Rattle.tree.specs.Classes.{class_of}
use Rattle.normal.specs.declared.Half.TheVariants.{Tree}
use Rattle.normal.specs.Part.{own}
use Rattle.normal.specs.Spot.{Stop}
use Rattle.normal.specs.Body.{BodyAt, HalfAt, half_of, branch_in}

abbrev eight : ℕ → List ℕ → List ℕ
eight n rest = n ∷ 0 ∷ 0 ∷ 0 ∷ 0 ∷ 0 ∷ 0 ∷ 0 ∷ rest

abbrev fields : List ℕ
fields = eight 6 (eight 2 (eight 1 (eight 7 (eight 1 (eight 9 [])))))

head_read : (vars : ℕ) → node vars fields 0 ≡ got (n_case 2) 16
unfolding node nodes passing
head_read vars = refl

seven_read : (vars : ℕ) → node vars fields 16 ≡ got (n_int (pos 7)) 32
unfolding node nodes passing
seven_read vars = refl

nine_read : (vars : ℕ) → node vars fields 32 ≡ got (n_int (pos 9)) 48
unfolding node nodes passing
nine_read vars = refl

abbrev tree : Expr
tree = kase (more (int (pos 7)) (more (int (pos 9)) none))

stands : (vars : ℕ) → At tree vars fields 0 48
unfolding At
stands vars = record {
  next = 16;
  here = head_read vars;
  below = record { middle = 32; before = seven_read vars; after = record { middle = 48; before = nine_read vars; after = refl } };
}

pub case_body : BodyAt fields 0 3 0 2
unfolding fits reach node_count count_of
case_body = record {
  tree = tree;
  end = 48;
  at = stands (vars_of fields);
  few = omega arith;
  left_low = omega arith;
  fitting = refl;
  reaches = refl;
  narrow = omega arith;
  count = refl;
  low = omega arith;
}

-- ---- the second branch, at the top of a body

second_long : length (half_of Tree (branch_in fields tree 1)).out ≡ 40
unfolding norm push bytes bytes_of
second_long = refl

pub second_fits : HalfAt fields 0 3 0 (record { number = 1; of = 2 }) Tree 0 40
second_fits = record {
  at = record { body = case_body; some = omega arith };
  fits_room = λ e i.
      let same = at-unique (vars_of fields) fields 0 e tree i.end 48 i.at (stands (vars_of fields)) in
      omega (arith, ap (λ x. length (half_of Tree (branch_in fields x 1)).out) same.tree_is, second_long);
}

-- ---- the first constant alone, where the map so far is the identity of no dimensions

seven_node : node_read (vars_of fields) fields 16 ≡ n_int (pos 7)
unfolding node_read
seven_node = ap read_node (seven_read (vars_of fields))

seven_long : length (own Tree (n_int (pos 7)) (identity 0) 0).out ≡ 40
unfolding bytes bytes_of
seven_long = refl

no_restriction : class_of (n_int (pos 7)) ≡ Restriction → ⊥
no_restriction e = cc

pub seven_stop : (m : Map) → map_of m ≡ identity 0 → Neat m → Stop fields 16 m Tree 3 (record { to = 0; things = 0; deep = 0 }) 40
seven_stop m is neat = record {
  spot = record {
    noded = record { what = n_int (pos 7); next = 32; read = seven_read (vars_of fields) };
    neat = neat;
    limits = λ e. absurd (no_restriction (ap class_of (sym seven_node) ∙ e));
    fits_room =
        let node_is = ap (λ x. length (own Tree x (map_of m) 0).out) seven_node in
        let map_is = ap (λ f. length (own Tree (n_int (pos 7)) f 0).out) is in
        omega (arith, node_is, map_is, seven_long);
  };
  level_low = omega arith;
  things_low = omega arith;
}
