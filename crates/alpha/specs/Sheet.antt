-- The data of a sheet: variables, constraints, nodes as they stand in the third section, and expressions as trees.
-- Assumes nothing.
use Rattle.std.specs.Prelude.{ℕ, List, ℤ}

pub data Kind : Type 0 where
  input output local : Kind

-- the type of a variable or an expression
pub data Sort : Type 0 where
  integer boolean : Sort

-- a constraint's relation to 0: at least it, or equal to it
pub data Relation : Type 0 where
  at_least equal : Relation

pub data Unary : Type 0 where
  negate complement : Unary

-- + - * div mod min max = <> < <= > >= and or xor
pub data Binary : Type 0 where
  plus minus times quot rem least most same differ under up_to over from both either one : Binary

-- a point: its coordinates
abbrev pub Point : Type 0
Point = List ℤ

-- coefficients and a constant
pub record Row : Type 0 where
  pub coefs : List ℤ
  pub const : ℤ

pub record Constraint : Type 0 where
  pub rel : Relation
  pub row : Row

-- an affine map from points of `cols` coordinates: a row for each coordinate of the image
pub record Map : Type 0 where
  pub cols : ℕ
  pub rows : List Row

-- the whole numbers from lo to hi
pub record Range : Type 0 where
  pub lo : ℤ
  pub hi : ℤ

-- a node of the third section, with its fields and without its children: the table's codes 0 to 8 in order
pub data Node : Type 0 where
  n_var : ℕ → Node
  n_int : ℤ → Node
  n_bool : ℕ → Node
  n_unary : Unary → Node
  n_binary : Binary → Node
  n_if : Node
  n_case : ℕ → Node
  n_restr : ℕ → List Constraint → Node
  n_dep : Map → Node

mutual
  pub data Expr : Type 0 where
    -- a variable's number
    var : ℕ → Expr
    int : ℤ → Expr
    -- 0 is false, 1 true
    boo : ℕ → Expr
    un : Unary → Expr → Expr
    bin : Binary → Expr → Expr → Expr
    -- if, then, else
    ite : Expr → Expr → Expr → Expr
    kase : Exprs → Expr
    -- its dimension, its constraints, its child
    restr : ℕ → List Constraint → Expr → Expr
    dep : Map → Expr → Expr

  -- the branches of a case
  pub data Exprs : Type 0 where
    none : Exprs
    more : Expr → Exprs → Exprs

-- a variable's record: its name's eight bytes, its kind, type and box, and the offset of the record's first byte, by which the code's
-- table of places is stated
pub record Head : Type 0 where
  pub name : List ℕ
  pub kind : Kind
  pub sort : Sort
  pub box : List Range
  pub place : ℕ

-- a declared constraint as it is read: the variable's number, and the constraint
pub record Declared : Type 0 where
  pub who : ℕ
  pub what : Constraint

-- what reading gives, before the bodies are made into trees: the first two sections, where the second and third begin (the second
-- for the code's table of places), where the first node stands, and how many nodes there are
pub record Raw : Type 0 where
  pub heads : List Head
  pub decls : List Declared
  pub second : ℕ
  pub third : ℕ
  pub first : ℕ
  pub nodes : ℕ

-- a variable of a sheet: its record, its declared constraints, and its body, whose bytes stand from `start` to `end`
pub record Variable : Type 0 where
  pub head : Head
  pub declared : List Constraint
  pub body : Expr
  pub start : ℕ
  pub end : ℕ

abbrev pub Sheet : Type 0
Sheet = List Variable
