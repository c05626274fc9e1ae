-- Points that are far from each other, and their boxes.
use Rattle.std.proofs.Common.{◌≡◌, ◌⊎◌, inl, inr, ◌<◌, arith, List}
use Rattle.std.proofs.lemmas.Int.{ints}
use Rattle.std.specs.Prelude.{nat_abs}
use lib.IntN.{ℤ, ◌-ℤ◌}
use lib.Signed.{◌≤ℤ◌}
use Rattle.spot_terms.specs.declared.plain.Pt.{Pt}
use Rattle.spot_terms.specs.Gaps.{AreFar, IsFarFrom}
use Rattle.spot_terms.specs.Lists.{Includes}
use Rattle.convex_poly.specs.declared.boxes.BoundingBox.{BoundingBox}
use Rattle.convex_poly.specs.Boxes.{IsBoxOf, IsHighest, IsLowest}

-- corners of the boxes that are far from each other, in one coordinate
far_sides : (coordinate : Pt → ℤ) (a b : List Pt) (low high : ℤ) → IsLowest coordinate a low → IsHighest coordinate b high → 1_000_000_000 < nat_abs (high -ℤ low) → (p q : Pt) × Includes a p × Includes b q × (1_000_000_000 < nat_abs (coordinate p -ℤ coordinate q))
far_sides coordinate a b low high l h far = (l.one.0, h.one.0, l.one.1, h.one.1, swapped (coordinate l.one.0) (coordinate h.one.0) low high l.one.2 h.one.2 far)
  where
    swapped : (s t low high : ℤ) → s ≡ low → t ≡ high → 1_000_000_000 < nat_abs (high -ℤ low) → 1_000_000_000 < nat_abs (s -ℤ t)
    swapped s t low high e f far = omega (arith, ints)

-- points that are far from each other, in one coordinate
far_points : (s t low_s high_s low_t high_t : ℤ) → low_s ≤ℤ s → s ≤ℤ high_s → low_t ≤ℤ t → t ≤ℤ high_t → 1_000_000_000 < nat_abs (s -ℤ t) → (1_000_000_000 < nat_abs (high_s -ℤ low_t)) ⊎ (1_000_000_000 < nat_abs (high_t -ℤ low_s))
far_points s t low_s high_s low_t high_t h k l m far = grind (arith, ints)

-- the boxes tell whether some are
pub far_boxes : (a b : List Pt) (box other : BoundingBox) → IsBoxOf a box → IsBoxOf b other → AreFar a b → IsFarFrom box.high other.low ⊎ IsFarFrom other.high box.low
far_boxes a b box other h k (p, q, i, j, inl far) = elim (far_points p.x q.x box.low.x box.high.x other.low.x other.high.x (h.left.each p i) (h.right.each p i) (k.left.each q j) (k.right.each q j) far) [ inl f ↦ inl (inl f) | inr f ↦ inr (inl f) ]
far_boxes a b box other h k (p, q, i, j, inr far) = elim (far_points p.y q.y box.low.y box.high.y other.low.y other.high.y (h.bottom.each p i) (h.top.each p i) (k.bottom.each q j) (k.top.each q j) far) [ inl f ↦ inl (inr f) | inr f ↦ inr (inr f) ]

pub far_first : (a b : List Pt) (box other : BoundingBox) → IsBoxOf a box → IsBoxOf b other → IsFarFrom box.high other.low → AreFar a b
far_first a b box other h k (inl far) = let (q, p, j, i, f) = far_sides (λ p. p.x) b a other.low.x box.high.x k.left h.right far in (p, q, i, j, inl (turned q.x p.x f))
  where
    turned : (s t : ℤ) → 1_000_000_000 < nat_abs (s -ℤ t) → 1_000_000_000 < nat_abs (t -ℤ s)
    turned s t f = omega (arith, ints)
far_first a b box other h k (inr far) = let (q, p, j, i, f) = far_sides (λ p. p.y) b a other.low.y box.high.y k.bottom h.top far in (p, q, i, j, inr (turned q.y p.y f))
  where
    turned : (s t : ℤ) → 1_000_000_000 < nat_abs (s -ℤ t) → 1_000_000_000 < nat_abs (t -ℤ s)
    turned s t f = omega (arith, ints)

pub far_second : (a b : List Pt) (box other : BoundingBox) → IsBoxOf a box → IsBoxOf b other → IsFarFrom other.high box.low → AreFar a b
far_second a b box other h k (inl far) = let (p, q, i, j, f) = far_sides (λ p. p.x) a b box.low.x other.high.x h.left k.right far in (p, q, i, j, inl f)
far_second a b box other h k (inr far) = let (p, q, i, j, f) = far_sides (λ p. p.y) a b box.low.y other.high.y h.bottom k.top far in (p, q, i, j, inr f)
