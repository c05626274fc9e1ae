-- What is known of a gap without its being computed.
use Rattle.std.specs.Prelude.{◌≡◌, ◌⊎◌, ℕ, List}
use Rattle.spot_terms.specs.Bodies.{IsGreatest}
use Rattle.spot_terms.specs.Gaps.{AreFar}
use Rattle.spot_terms.specs.declared.plain.Pt.{Pt}
use Rattle.convex_poly.specs.Boxes.{LieBeside}

-- n is the greatest whole number by which the points lie beside each other, or 0 where some are far from each other
abbrev pub IsGapBound : List Pt → List Pt → ℕ → Type 0
IsGapBound a b n = (AreFar a b × (n ≡ 0)) ⊎ ((AreFar a b → ⊥) × IsGreatest (LieBeside a b) n)
