-- Vectors between points: their products, and their two widths.
use Rattle.std.specs.Prelude.{ℤ, ◌+ℤ◌, ◌-ℤ◌, ◌*ℤ◌}
use Rattle.spot_terms.specs.declared.plain.Pt.{Pt}
use Rattle.spot_terms.specs.Whole.{SizeAtMost}

-- the vector from q to p
abbrev pub minus : Pt → Pt → Pt
minus p q = record { x = p.x -ℤ q.x; y = p.y -ℤ q.y }

-- twice the area of the triangle of 0, u and v: positive where v is left of u
abbrev pub turn_of : Pt → Pt → ℤ
turn_of u v = (u.x *ℤ v.y) -ℤ (u.y *ℤ v.x)

abbrev pub inner_product : Pt → Pt → ℤ
inner_product u v = (u.x *ℤ v.x) +ℤ (u.y *ℤ v.y)

-- both coordinates are at most 10^14 in size
pub record IsVector (v : Pt) : Type 0 where
  pub x : SizeAtMost 100_000_000_000_000 v.x
  pub y : SizeAtMost 100_000_000_000_000 v.y

-- both coordinates are at most 10^9 in size, so that products are within 64 bits
pub record IsShort (v : Pt) : Type 0 where
  pub x : SizeAtMost 1_000_000_000 v.x
  pub y : SizeAtMost 1_000_000_000 v.y
