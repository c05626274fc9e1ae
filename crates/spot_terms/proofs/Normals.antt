-- The eight normals: what holds of each, and the value of each at a point.
use Rattle.std.proofs.Common.{◌≡◌, ℕ, ◌<◌, pos, neg_ℤ, ◌+ℤ◌, ◌-ℤ◌, arith}
use Rattle.std.proofs.lemmas.Int.{ints}
use Rattle.spot_terms.specs.Lists.{Includes}
use Rattle.spot_terms.proofs.ListLemmas.{all_included, includes_at}
use Rattle.spot_terms.specs.Reach.{Normal, normals, normal_at, minus_one, along}
use Rattle.spot_terms.specs.declared.plain.Pt.{Pt}

-- the normal of a number below 8
pub normal_at-included : (k : ℕ) → k < 8 → Includes normals (normal_at k)
normal_at-included k l = includes_at normals k (pos 0, pos 0) l

-- a fact of each of the eight normals
pub each_normal : (P : Normal → Type 0) → P (pos 1, pos 0) → P (pos 1, pos 1) → P (pos 0, pos 1) → P (minus_one, pos 1) → P (minus_one, pos 0) → P (minus_one, minus_one) → P (pos 0, minus_one) → P (pos 1, minus_one) → (n : Normal) → Includes normals n → P n
each_normal P a b c d e f g h n i = all_included P normals n (a, (b, (c, (d, (e, (f, (g, (h, tt)))))))) i

-- ---- the value at a point

pub along-east : (p : Pt) → along (pos 1, pos 0) p ≡ p.x
along-east p = omega (arith, ints)

pub along-north_east : (p : Pt) → along (pos 1, pos 1) p ≡ p.x +ℤ p.y
along-north_east p = omega (arith, ints)

pub along-north : (p : Pt) → along (pos 0, pos 1) p ≡ p.y
along-north p = omega (arith, ints)

pub along-north_west : (p : Pt) → along (minus_one, pos 1) p ≡ p.y -ℤ p.x
along-north_west p = omega (arith, ints)

pub along-west : (p : Pt) → along (minus_one, pos 0) p ≡ neg_ℤ p.x
along-west p = omega (arith, ints)

pub along-south_west : (p : Pt) → along (minus_one, minus_one) p ≡ neg_ℤ (p.x +ℤ p.y)
along-south_west p = omega (arith, ints)

pub along-south : (p : Pt) → along (pos 0, minus_one) p ≡ neg_ℤ p.y
along-south p = omega (arith, ints)

pub along-south_east : (p : Pt) → along (pos 1, minus_one) p ≡ p.x -ℤ p.y
along-south_east p = omega (arith, ints)
