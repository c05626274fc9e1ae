-- Pieces of lanelets, as the code hands them over.
use Rattle.std.specs.Prelude.{◌≡◌, ℕ, ◌+◌, List, [], ◌∷◌, Some, slice_get}
use Rattle.spot_terms.specs.Cells.{Portal}
use Rattle.spot_terms.specs.Ranges.{IsPairInRange}
use Rattle.spot_terms.specs.Whole.{SizeAtMost}
use Rattle.spot_terms.specs.declared.plain.Pt.{Pt}
use Rattle.spot_terms.specs.declared.scenario.RawLane.{RawLane}
use Rattle.lanelets.specs.declared.piece.Piece.{Piece}

-- its points are at most 10^13 in size
pub record IsPieceInRange (p : Piece) : Type 0 where
  pub left : IsPairInRange p.left
  pub left_end : IsPairInRange p.left_end
  pub right : IsPairInRange p.right
  pub right_end : IsPairInRange p.right_end

-- the piece between the points q and q + 1 of both bounds
pub record IsPieceAt (l : RawLane) (q : ℕ) (p : Piece) : Type 0 where
  pub left : slice_get l.left q ≡ Some p.left
  pub left_end : slice_get l.left (q + 1) ≡ Some p.left_end
  pub right : slice_get l.right q ≡ Some p.right
  pub right_end : slice_get l.right (q + 1) ≡ Some p.right_end

-- both coordinates are at most 10^13 in size
pub record IsNear (p : Pt) : Type 0 where
  pub x : SizeAtMost 10_000_000_000_000 p.x
  pub y : SizeAtMost 10_000_000_000_000 p.y

-- of both points
pub record AreNear (p : Portal) : Type 0 where
  pub left : IsNear p.0
  pub right : IsNear p.1

-- the points of two portals
abbrev pub corners_between : Portal → Portal → List Pt
corners_between p q = p.0 ∷ p.1 ∷ q.0 ∷ q.1 ∷ []
