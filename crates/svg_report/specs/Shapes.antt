-- What the program's shapes stand for, and how far they may reach.
use Rattle.spot_terms.specs.BaseSets.{Rect}
use Rattle.spot_terms.specs.Drawings.{DrawnShape, polygon, rectangle}
use Rattle.spot_terms.specs.Whole.{SizeAtMost}
use Rattle.svg_report.specs.declared.shape.Shape.{Shape}
use Rattle.svg_report.specs.declared.shape.Shape.TheVariants.{Lane, Rect as rect}

abbrev pub drawn_of : Shape → DrawnShape
drawn_of (Lane corners) = polygon corners
drawn_of (rect a b c d) = rectangle (record { xlo = a; xhi = b; ylo = c; yhi = d })

-- each end is at most 10^14 in size
pub record IsNear (r : Rect) : Type 0 where
  pub xlo : SizeAtMost 100_000_000_000_000 r.xlo
  pub xhi : SizeAtMost 100_000_000_000_000 r.xhi
  pub ylo : SizeAtMost 100_000_000_000_000 r.ylo
  pub yhi : SizeAtMost 100_000_000_000_000 r.yhi

-- the positions of a polygon are near by its type
abbrev pub IsNearShape : Shape → Type 0
IsNearShape (Lane corners) = Unit {0}
IsNearShape (rect a b c d) = IsNear (record { xlo = a; xhi = b; ylo = c; yhi = d })
