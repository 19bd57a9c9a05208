-- The elements of a sheet in order, and their numbers: the element at a number, the number of an element, and how many there are.
-- Assumes nothing.
use mathlib.Core.Path.{◌≡◌, refl, sym, ap, ◌∙◌, subst}
use Prim.Native.Nat.{ℕ, zero, suc, ◌+◌, ◌-◌, ◌≤◌, ◌<◌}
use native.Mathlib.Nat.{zero-add, add-zero}
use native.Mathlib.Omega.{arith}
use native.Mathlib.Decide.{dec_lt}
use mathlib.Core.Bool.{true}
use mathlib.Core.List.{List, [], ◌∷◌, map}
use lib.ListN.{length, get_or, length-append, length-map, get_or-append}
use lib.Seq.{get_or-append-add, take-length}
use Rattle.alpha.specs.Sheet.{Range, Point, Sheet}
use Rattle.alpha.specs.Box.{size, in_box, index, point_at}
use Rattle.alpha.specs.Holds.{variable}
use Rattle.alpha.specs.Check.{Element, points_from, points, elements_from, elements, total}
use Rattle.alpha.specs.Ask.{before, number_of}
use Rattle.laws.specs.Box.{ordered}
use Rattle.laws.proofs.Boxes.{index-low, index-point_at, point_at-index, point_at-in_box}

-- ---- the points of a box

pub length-points_from : (box : List Range) (i n : ℕ) → length (points_from box i n) ≡ n
unfolding points_from
length-points_from box i zero = refl
length-points_from box i (suc n) = ap suc (length-points_from box (suc i) n)

pub length-points : (box : List Range) → length (points box) ≡ size box
length-points box = length-points_from box 0 (size box)

pub get_or-points_from : (box : List Range) (i n j : ℕ) (d : Point) → j < n → get_or (points_from box i n) j d ≡ point_at box (i + j)
unfolding points_from
get_or-points_from box i zero j d h = absurd (omega arith)
get_or-points_from box i (suc n) zero d h = ap (point_at box) (sym (add-zero i))
get_or-points_from box i (suc n) (suc j) d h =
    let on : suc i + j ≡ i + suc j = omega arith in
    get_or-points_from box (suc i) n j d (omega arith) ∙ ap (point_at box) on

pub get_or-points : (box : List Range) (j : ℕ) (d : Point) → j < size box → get_or (points box) j d ≡ point_at box j
get_or-points box j d h = get_or-points_from box 0 (size box) j d h ∙ ap (point_at box) (zero-add j)

-- ---- the elements before a variable

-- the points of variable v
abbrev pub size_of : Sheet → ℕ → ℕ
size_of s v = size (variable s v).head.box

pub before-suc : (s : Sheet) (v : ℕ) → v < length s → before s (suc v) ≡ before s v + size_of s v
before-suc [] v h = absurd (omega arith)
before-suc (x ∷ s) zero h = omega arith
before-suc (x ∷ s) (suc v) h = omega (arith, before-suc s v (omega arith))

pub before-all : (s : Sheet) → before s (length s) ≡ total s
before-all s = ap total (take-length s)

pub before-fits : (s : Sheet) (v : ℕ) → v < length s → before s v + size_of s v ≤ total s
before-fits [] v h = absurd (omega arith)
before-fits (x ∷ s) zero h = omega arith
before-fits (x ∷ s) (suc v) h = omega (arith, before-fits s v (omega arith))

-- ---- the elements

pub get_or-map_below : {A B : Type 0} (f : A → B) (l : List A) (i : ℕ) (a : A) (b : B) → i < length l → get_or (map f l) i b ≡ f (get_or l i a)
get_or-map_below f [] i a b h = absurd (omega arith)
get_or-map_below f (x ∷ l) zero a b h = refl
get_or-map_below f (x ∷ l) (suc i) a b h = get_or-map_below f l i a b (omega arith)

-- the elements of one variable, numbered w
of_one : ℕ → List Range → List Element
of_one w box = map {B = Element} (λ z. record { who = w; at = z }) (points box)

length-of_one : (w : ℕ) (box : List Range) → length (of_one w box) ≡ size box
unfolding of_one
length-of_one w box = length-map (points box) (λ z. record { who = w; at = z }) ∙ length-points box

get_or-of_one : (w : ℕ) (box : List Range) (i : ℕ) (d : Element) → i < size box → get_or (of_one w box) i d ≡ record { who = w; at = point_at box i }
unfolding of_one
get_or-of_one w box i d h =
    get_or-map_below (λ z. record { who = w; at = z }) (points box) i [] d (omega (arith, length-points box))
    ∙ ap {B = Element} (λ z. record { who = w; at = z }) (get_or-points box i [] h)

length-elements_from : (w : ℕ) (s : Sheet) → length (elements_from w s) ≡ total s
unfolding elements_from of_one
length-elements_from w [] = refl
length-elements_from w (x ∷ s) =
    length-append (of_one w x.head.box) (elements_from (suc w) s) ∙ omega (arith, length-of_one w x.head.box, length-elements_from (suc w) s)

pub length-elements : (s : Sheet) → length (elements s) ≡ total s
length-elements s = length-elements_from 0 s

element_from-at : (w : ℕ) (s : Sheet) (v i : ℕ) (d : Element) → v < length s → i < size_of s v →
    get_or (elements_from w s) (before s v + i) d ≡ record { who = w + v; at = point_at (variable s v).head.box i }
unfolding elements_from of_one
element_from-at w [] v i d h l = absurd (omega arith)
element_from-at w (x ∷ s) zero i d h l =
    let box = x.head.box in
    let first : i < length (of_one w box) = omega (arith, length-of_one w box) in
    rw (zero-add i, get_or-append (of_one w box) (elements_from (suc w) s) d i first, get_or-of_one w box i d l, add-zero w)
element_from-at w (x ∷ s) (suc v) i d h l =
    let box = x.head.box in
    let on : size box + before s v + i ≡ length (of_one w box) + (before s v + i) = omega (arith, length-of_one w box) in
    let who : suc w + v ≡ w + suc v = omega arith in
    rw (on, get_or-append-add (of_one w box) (elements_from (suc w) s) (before s v + i) d, element_from-at (suc w) s v i d (omega arith) l, who)

-- the element whose number is that of point i of variable v
pub element-at : (s : Sheet) (v i : ℕ) (d : Element) → v < length s → i < size_of s v →
    get_or (elements s) (before s v + i) d ≡ record { who = v; at = point_at (variable s v).head.box i }
element-at s v i d h l = rw (element_from-at 0 s v i d h l, zero-add v)

-- ---- each number is of one element

-- number n is that of point i of variable v
pub record Located (s : Sheet) (n v i : ℕ) : Type 0 where
  pub known : v < length s
  pub low : i < size_of s v
  pub number : n ≡ before s v + i

pub locate : (s : Sheet) (n : ℕ) → n < total s → (v : ℕ) × (i : ℕ) × Located s n v i
locate [] n h = absurd (omega arith)
locate (x ∷ s) n h = go (dec_lt n (size x.head.box)) (λ l. locate s (n - size x.head.box) l)
  where
    go : Dec (n < size x.head.box) → (n - size x.head.box < total s → (v : ℕ) × (i : ℕ) × Located s (n - size x.head.box) v i) →
        (v : ℕ) × (i : ℕ) × Located (x ∷ s) n v i
    go (yes l) f = (0, n, record { known = omega arith; low = l; number = omega arith })
    go (no l) f =
        let r = f (omega arith) in
        let k = r.2 in
        (suc r.0, r.1, record { known = omega (arith, k.known); low = k.low; number = omega (arith, k.number) })

-- ---- an element and its number

pub number-low : (s : Sheet) (v : ℕ) (z : Point) → v < length s → in_box (variable s v).head.box z ≡ true → number_of s v z < total s
number-low s v z h b = omega (arith, before-fits s v h, index-low (variable s v).head.box z b)

pub element-of-number : (s : Sheet) (v : ℕ) (z : Point) (d : Element) → v < length s → in_box (variable s v).head.box z ≡ true →
    get_or (elements s) (number_of s v z) d ≡ record { who = v; at = z }
element-of-number s v z d h b =
    let box = (variable s v).head.box in
    element-at s v (index box z) d h (index-low box z b) ∙ ap {B = Element} (λ y. record { who = v; at = y }) (point_at-index box z b)

-- the element e has number n
pub record Numbered (s : Sheet) (n : ℕ) (e : Element) : Type 0 where
  pub known : e.who < length s
  pub number : number_of s e.who e.at ≡ n
  pub inside : ordered (variable s e.who).head.box ≡ true → in_box (variable s e.who).head.box e.at ≡ true

pub number-of-element : (s : Sheet) (n : ℕ) (d : Element) → n < total s → Numbered s n (get_or (elements s) n d)
number-of-element s n d h =
    let r = locate s n h in
    let v = r.0 in
    let i = r.1 in
    let k = r.2 in
    let box = (variable s v).head.box in
    let is : get_or (elements s) n d ≡ record { who = v; at = point_at box i } = ap (λ m. get_or (elements s) m d) k.number ∙ element-at s v i d k.known k.low in
    let here : Numbered s n (record { who = v; at = point_at box i }) = record {
      known = k.known;
      number = rw (index-point_at box i k.low) (sym k.number);
      inside = λ o. point_at-in_box box i o k.low;
    } in
    subst (Numbered s n) (sym is) here
