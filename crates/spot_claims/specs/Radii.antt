-- The numbers and points that elements hold, and the radii of shapes by their inequalities.
use Rattle.spot_terms.specs.Lists.{Includes}
use Rattle.std.specs.Prelude.{◌≡◌, ◌⊎◌, ℕ, ◌+◌, ◌*◌, ◌-◌, ◌/◌, ◌≤◌, List, Some, None, ℤ, pos, codes, min}
use Rattle.spot_terms.specs.Whole.{square, IsRootCeiling}
use Rattle.spot_terms.specs.Decimal.{Reads}
use Rattle.spot_terms.specs.Bodies.{IsLeast, IsGreatest}
use Rattle.spot_claims.specs.Tree.{Element, all_named, first_named, text_at}
use Rattle.spot_terms.specs.declared.plain.Pt.{Pt}

-- the number in the first child of a name
abbrev pub Holds : List Element → ℕ → List ℕ → ℕ → ℤ → Type 0
Holds tree e name places r = (n : ℕ) × (first_named tree name e ≡ Some n) × Reads places (text_at tree n) r

-- the point in the children x and y
pub record HoldsPt (tree : List Element) (e : ℕ) (p : Pt) : Type 0 where
  pub x : Holds tree e (codes "x") 6 p.x
  pub y : Holds tree e (codes "y") 6 p.y

-- the distance of a shape's part from its position: 0 without a centre, else the least whole number at least as great
abbrev pub IsOffset : List Element → ℕ → ℕ → Type 0
IsOffset tree e c = ((first_named tree (codes "center") e ≡ None) × (c ≡ 0))
    ⊎ ((n : ℕ) × (p : Pt) × (first_named tree (codes "center") e ≡ Some n) × HoldsPt tree n p × IsRootCeiling (square p.x + square p.y) c)

-- the enclosing and the inscribed radius of one part of a shape: a rectangle or a circle may have an offset, a polygon has
-- none
pub data PartRadii (tree : List Element) (shape : ℕ) : ℕ → ℕ → Type 0 where
  circle : (e r c : ℕ) → Includes (all_named tree (codes "circle") shape) e → Holds tree e (codes "radius") 6 (pos r) → IsOffset tree e c → PartRadii tree shape (r + c) (r - c)
  rectangle : (e l w r c : ℕ) → Includes (all_named tree (codes "rectangle") shape) e → Holds tree e (codes "length") 6 (pos l) → Holds tree e (codes "width") 6 (pos w)
      → IsLeast (λ q. l * l + w * w ≤ 4 * (q * q)) r → IsOffset tree e c → PartRadii tree shape (r + c) (min l w / 2 - c)
  polygon : (e r : ℕ) → Includes (all_named tree (codes "polygon") shape) e
      → IsLeast (λ q. (n : ℕ) (p : Pt) → Includes (all_named tree (codes "point") e) n → HoldsPt tree n p → square p.x + square p.y ≤ q * q) r → PartRadii tree shape r 0

abbrev pub IsEnclosing : List Element → ℕ → ℕ → Type 0
IsEnclosing tree shape big = (small : ℕ) × PartRadii tree shape big small

abbrev pub IsInscribed : List Element → ℕ → ℕ → Type 0
IsInscribed tree shape small = (big : ℕ) × PartRadii tree shape big small

-- of several parts the greatest of each radius counts
pub record HasRadii (tree : List Element) (shape enclosing inscribed : ℕ) : Type 0 where
  pub enclosing_is : IsGreatest (IsEnclosing tree shape) enclosing
  pub inscribed_is : IsGreatest (IsInscribed tree shape) inscribed

-- ---- examples: a rectangle of 4.5 m by 1.800001 m whose centre is 500 µm or 1 m off

row_odd : (tree : List Element) (shape e r : ℕ) → Includes (all_named tree (codes "rectangle") shape) e → Holds tree e (codes "length") 6 (pos 4_500_000) → Holds tree e (codes "width") 6 (pos 1_800_001)
    → IsLeast (λ q. 4_500_000 * 4_500_000 + 1_800_001 * 1_800_001 ≤ 4 * (q * q)) r → IsOffset tree e 500 → PartRadii tree shape (r + 500) 899_500
row_odd tree shape e r listed long wide least off = rectangle e 4_500_000 1_800_001 r 500 listed long wide least off

row_far : (tree : List Element) (shape e r : ℕ) → Includes (all_named tree (codes "rectangle") shape) e → Holds tree e (codes "length") 6 (pos 4_500_000) → Holds tree e (codes "width") 6 (pos 1_800_001)
    → IsLeast (λ q. 4_500_000 * 4_500_000 + 1_800_001 * 1_800_001 ≤ 4 * (q * q)) r → IsOffset tree e 1_000_000 → PartRadii tree shape (r + 1_000_000) 0
row_far tree shape e r listed long wide least off = rectangle e 4_500_000 1_800_001 r 1_000_000 listed long wide least off
