-- The radii of the parts of a shape, and the greatest of a kind.
use Rattle.std.specs.Prelude.{◌≡◌, ◌+◌, ◌*◌, ◌-◌, ◌/◌, ◌≤◌, ℕ, List, Option, Some, None, min, max, pos, codes}
use Rattle.spot_terms.specs.Lists.{Includes}
use Rattle.spot_terms.specs.Whole.{square}
use Rattle.spot_terms.specs.Bodies.{IsLeast, IsGreatest}
use Rattle.spot_terms.specs.declared.plain.Pt.{Pt}
use Rattle.spot_claims.specs.Tree.{Element, all_named}
use Rattle.spot_claims.specs.Radii.{Holds, HoldsPt, IsOffset}
use Rattle.scenario.specs.declared.shapes.Radii.{Radii}
use Rattle.scenario.specs.declared.shapes.Part.{Part}
use Rattle.scenario.specs.declared.shapes.Part.TheVariants.{Circle, Rectangle, Polygon}
use Rattle.scenario.specs.Has.{HasCircle, HasRectangle, HasCorners}

pub record CircleIs (tree : List Element) (e big small : ℕ) : Type 0 where
  pub r : ℕ
  pub c : ℕ
  pub radius : Holds tree e (codes "radius") 6 (pos r)
  pub offset : IsOffset tree e c
  pub big_is : big ≡ r + c
  pub small_is : small ≡ r - c

pub record RectangleIs (tree : List Element) (e big small : ℕ) : Type 0 where
  pub l : ℕ
  pub w : ℕ
  pub r : ℕ
  pub c : ℕ
  pub length : Holds tree e (codes "length") 6 (pos l)
  pub width : Holds tree e (codes "width") 6 (pos w)
  pub half : IsLeast (λ q. l * l + w * w ≤ 4 * (q * q)) r
  pub offset : IsOffset tree e c
  pub big_is : big ≡ r + c
  pub small_is : small ≡ min l w / 2 - c

-- r is the least number that no corner is farther away than
abbrev pub IsReach : List Element → List ℕ → ℕ → Type 0
IsReach tree ns r = IsLeast (λ q. (n : ℕ) (p : Pt) → Includes ns n → HoldsPt tree n p → square p.x + square p.y ≤ q * q) r

pub record PolygonIs (tree : List Element) (e big small : ℕ) : Type 0 where
  pub reach : IsReach tree (all_named tree (codes "point") e) big
  pub small_is : small ≡ 0

-- the greatest of each of the radii of a kind
pub record IsGreatestOf (P : ℕ → ℕ → Type 0) (r : Radii) : Type 0 where
  pub enclosing : IsGreatest (λ big. (small : ℕ) × P big small) r.enclosing
  pub inscribed : IsGreatest (λ small. (big : ℕ) × P big small) r.inscribed

abbrev pub Greatest : (ℕ → ℕ → Type 0) → Option Radii → Type 0
Greatest P None = (big small : ℕ) → P big small → ⊥
Greatest P (Some r) = IsGreatestOf P r

abbrev pub greater_of : Option Radii → Option Radii → Option Radii
greater_of None b = b
greater_of (Some f) None = Some f
greater_of (Some f) (Some g) = Some (record { enclosing = max f.enclosing g.enclosing; inscribed = max f.inscribed g.inscribed })

-- one of a list has these radii
pub record PartOf (P : ℕ → ℕ → ℕ → Type 0) (es : List ℕ) (big small : ℕ) : Type 0 where
  pub item : ℕ
  pub listed : Includes es item
  pub holds : P item big small

-- ---- by the kind of part

abbrev pub name_of : Part → List ℕ
name_of Circle = codes "circle"
name_of Rectangle = codes "rectangle"
name_of Polygon = codes "polygon"

abbrev pub PartIs : Part → List Element → ℕ → ℕ → ℕ → Type 0
PartIs Circle tree e = CircleIs tree e
PartIs Rectangle tree e = RectangleIs tree e
PartIs Polygon tree e = PolygonIs tree e

abbrev pub HasPart : Part → List Element → ℕ → Type 0
HasPart Circle tree e = HasCircle tree e
HasPart Rectangle tree e = HasRectangle tree e
HasPart Polygon tree e = HasCorners tree (all_named tree (codes "point") e)

-- the radii of the parts of one kind
abbrev pub PartsAre : Part → List Element → ℕ → ℕ → ℕ → Type 0
PartsAre part tree shape = PartOf (PartIs part tree) (all_named tree (name_of part) shape)

abbrev pub IsSmall : Radii → Type 0
IsSmall r = (r.enclosing ≤ 250_000_000) × (r.inscribed ≤ 250_000_000)
