-- What a network keeps of lanelets.
use Rattle.std.specs.Prelude.{◌≡◌, true, length}
use Rattle.spot_terms.specs.Cells.{Lane}
use Rattle.spot_terms.specs.Network.{Overlaps, are_neighbours}
use Rattle.spot_terms.specs.declared.network.Origin.{Origin}
use Rattle.lanelets.specs.declared.kept.KeptLane.{KeptLane}

-- the lanelet's id, how many points its bounds have, and the ids of its neighbours
pub record IsKept (l : Lane) (k : KeptLane) : Type 0 where
  pub id : k.id ≡ l.0
  pub points : k.points ≡ length l.1.left
  pub sides : k.sides ≡ l.1.sides

-- neighbours, and cells that come from there overlap, where the lanelets have equal numbers of points
pub record AreBeside (l m : Lane) (a b : Origin) : Type 0 where
  pub neighbours : are_neighbours l m ≡ true
  pub beside : length l.1.left ≡ length m.1.left → Overlaps a b
