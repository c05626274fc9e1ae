-- The spans of corners along the normals of a step.
use Rattle.std.specs.Prelude.{ℤ, pos, neg_ℤ, List}
use Rattle.spot_terms.specs.Hull.{IsSupport}
use Rattle.spot_terms.specs.declared.plain.Pt.{Pt}
use Rattle.propagate.specs.declared.ways.Span.{Span}
use Rattle.propagate.specs.declared.ways.Ways.{Ways}

-- the least and the greatest nx·x + ny·y of the corners
pub record IsSpan (corners : List Pt) (nx ny : ℤ) (s : Span) : Type 0 where
  pub least : IsSupport corners (neg_ℤ nx) (neg_ℤ ny) (neg_ℤ s.least)
  pub greatest : IsSupport corners nx ny s.greatest

pub record AreWays (k : ℤ) (corners : List Pt) (w : Ways) : Type 0 where
  pub speed : IsSpan corners (pos 0) (pos 1) w.speed
  pub place : IsSpan corners (pos 1) (pos 0) w.place
  pub next : IsSpan corners (pos 1) k w.next
  pub both : IsSpan corners (pos 2) k w.both
