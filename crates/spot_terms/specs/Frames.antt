-- Polygons of a plane of position and speed by eight numbers, one for each frame normal.
use Rattle.std.specs.Prelude.{ℕ, ℤ, pos, neg_ℤ, ◌+ℤ◌, ◌-ℤ◌, ◌*ℤ◌, ◌≤ℤ◌, List, [], ◌∷◌, ◌++◌, slice_index_or}
use Rattle.spot_terms.specs.declared.plain.Pt.{Pt}
use Rattle.spot_terms.specs.Hull.{IsSupport}
use Rattle.spot_terms.specs.Lists.{Pairwise}
use Rattle.spot_terms.specs.Reach.{Normal, along, minus_one}
use Rattle.spot_terms.specs.Whole.{SizeAtMost, quotient_floor, quotient_ceiling}

-- ---- the eight numbers

-- the frame normals of a step of k ticks: for positions, for speeds, and for the two sums of both that a step mixes
abbrev pub frame_normals : ℤ → List Normal
frame_normals k = (pos 0, pos 1) ∷ (pos 1, pos 0) ∷ (pos 2, neg_ℤ k) ∷ (pos 1, neg_ℤ k) ∷ (pos 0, minus_one) ∷ (minus_one, pos 0) ∷ (neg_ℤ (pos 2), k) ∷ (minus_one, k) ∷ []

-- the number of a normal
abbrev pub number : List ℤ → ℕ → ℤ
number numbers i = slice_index_or numbers i (pos 0)

-- the point is within the numbers: n · q is at most the number, for each of the eight
abbrev pub InFrame : ℤ → List ℤ → Pt → Type 0
InFrame k numbers q = Pairwise (λ n h. along n q ≤ℤ h) (frame_normals k) numbers

-- the numbers are the supports of the corners
abbrev pub AreFrameSupports : ℤ → List Pt → List ℤ → Type 0
AreFrameSupports k corners numbers = Pairwise (λ n h. IsSupport corners n.0 n.1 h) (frame_normals k) numbers

-- each number is at most what its two neighbours allow, and opposite numbers leave room
pub record IsFrameInOrder (k : ℤ) (f : List ℤ) : Type 0 where
  pub n0 : (k *ℤ number f 0) ≤ℤ (number f 7 +ℤ number f 1)
  pub n1 : (pos 2 *ℤ number f 1) ≤ℤ (k *ℤ number f 0 +ℤ number f 2)
  pub n2 : number f 2 ≤ℤ (number f 1 +ℤ number f 3)
  pub n3 : (pos 2 *ℤ number f 3) ≤ℤ (number f 2 +ℤ k *ℤ number f 4)
  pub n4 : (k *ℤ number f 4) ≤ℤ (number f 3 +ℤ number f 5)
  pub n5 : (pos 2 *ℤ number f 5) ≤ℤ (k *ℤ number f 4 +ℤ number f 6)
  pub n6 : number f 6 ≤ℤ (number f 5 +ℤ number f 7)
  pub n7 : (pos 2 *ℤ number f 7) ≤ℤ (number f 6 +ℤ k *ℤ number f 0)
  pub n04 : pos 0 ≤ℤ (number f 0 +ℤ number f 4)
  pub n15 : pos 0 ≤ℤ (number f 1 +ℤ number f 5)
  pub n26 : pos 0 ≤ℤ (number f 2 +ℤ number f 6)
  pub n37 : pos 0 ≤ℤ (number f 3 +ℤ number f 7)

-- speeds are at most 10^6 in size, positions 4·10^13, and the slanted numbers 10^14
pub record IsFrameInRange (f : List ℤ) : Type 0 where
  pub n0 : SizeAtMost 1_000_000 (number f 0)
  pub n1 : SizeAtMost 40_000_000_000_000 (number f 1)
  pub n2 : SizeAtMost 100_000_000_000_000 (number f 2)
  pub n3 : SizeAtMost 100_000_000_000_000 (number f 3)
  pub n4 : SizeAtMost 1_000_000 (number f 4)
  pub n5 : SizeAtMost 40_000_000_000_000 (number f 5)
  pub n6 : SizeAtMost 100_000_000_000_000 (number f 6)
  pub n7 : SizeAtMost 100_000_000_000_000 (number f 7)

-- ---- the polygon of eight numbers

-- the point of a position and a speed
abbrev pub at : ℤ → ℤ → Pt
at p v = record { x = p; y = v }

-- the points of a position and the speed v / k, rounded down and rounded up
abbrev pub rounded : ℤ → ℤ → ℤ → List Pt
rounded k p v = at p (quotient_floor v k) ∷ at p (quotient_ceiling v k) ∷ []

-- where neighbouring lines meet, from the lines 0 and 1 on; positions are whole there, speeds are rounded both ways
abbrev pub frame_points : ℤ → List ℤ → List Pt
frame_points k f = at (number f 1) (number f 0) ∷ []
    ++ rounded k (number f 1) (pos 2 *ℤ number f 1 -ℤ number f 2)
    ++ rounded k (number f 2 -ℤ number f 3) (number f 2 -ℤ pos 2 *ℤ number f 3)
    ++ at (number f 3 -ℤ k *ℤ number f 4) (neg_ℤ (number f 4)) ∷ []
    ++ at (neg_ℤ (number f 5)) (neg_ℤ (number f 4)) ∷ []
    ++ rounded k (neg_ℤ (number f 5)) (number f 6 -ℤ pos 2 *ℤ number f 5)
    ++ rounded k (number f 7 -ℤ number f 6) (pos 2 *ℤ number f 7 -ℤ number f 6)
    ++ at (k *ℤ number f 0 -ℤ number f 7) (number f 0) ∷ []
