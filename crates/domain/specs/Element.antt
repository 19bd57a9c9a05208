-- The elements of a variable, how its body stands at one, and what GAP and CLASH say of that. Assumes nothing.
use Rattle.std.specs.Prelude.{◌≡◌, ℕ, ◌<◌, false, List, map}
use Rattle.alpha.specs.Pick.{ifb}
use Rattle.alpha.specs.Answer.{Answer, accepted, refused, GAP, CLASH}
use Rattle.alpha.specs.Sheet.{Sheet, Point}
use Rattle.alpha.specs.Box.{size}
use Rattle.alpha.specs.Holds.{variable, is_input, in_domain}
use Rattle.alpha.specs.Check.{Element, points, faults}
use Rattle.alpha.specs.Ask.{before}
use Rattle.laws.specs.Sheets.{vars_of, sheet_of}
use Rattle.domain.specs.declared.Standing.{Standing}
use Rattle.domain.specs.declared.Standing.TheVariants.{Not, Holds, Clash}
use Rattle.domain.specs.Standing.{standing}

-- the points zs as elements of variable v
abbrev pub elements_at : ℕ → List Point → List Element
elements_at v zs = map {B = Element} (λ z. record { who = v; at = z }) zs

abbrev pub elements_of : Sheet → ℕ → List Element
elements_of s v = elements_at v (points (variable s v).head.box)

-- what GAP and CLASH say of the elements of variable v
abbrev pub faults_of : Sheet → ℕ → Answer (Unit {0})
faults_of s v = faults s (before s v) (elements_of s v)

-- what is said of the element numbered n
abbrev pub fault_of : Standing → ℕ → Answer (Unit {0})
fault_of Not n = refused GAP n
fault_of Holds n = accepted tt
fault_of Clash n = refused CLASH n

-- how the body of variable v stands at z; outside the declared domain it is not asked
abbrev pub body_standing : Sheet → ℕ → Point → Standing
body_standing s v z = ifb (in_domain (variable s v) z) (λ _. standing (variable s v).body s z) (λ _. Holds)

-- ---- what is needed to say it

-- v is a variable that has a body
pub record HasBody (bs : List ℕ) (v : ℕ) : Type 0 where
  pub known : v < vars_of bs
  pub no_input : is_input (variable (sheet_of bs) v) ≡ false

-- i is the number of a point in the box of variable v
pub record PointOf (bs : List ℕ) (v i : ℕ) : Type 0 where
  pub known : v < vars_of bs
  pub low : i < size (variable (sheet_of bs) v).head.box

-- and v has a body
pub record BodyPoint (bs : List ℕ) (v i : ℕ) : Type 0 where
  pub has_body : HasBody bs v
  pub low : i < size (variable (sheet_of bs) v).head.box
