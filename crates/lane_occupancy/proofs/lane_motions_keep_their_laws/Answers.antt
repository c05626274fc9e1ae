use Rattle.lane_occupancy.proofs.LaneBodies.{holds_bodies}
use Rattle.lane_occupancy.proofs.Lengths.{trip_long, gap_le}
use Rattle.lane_occupancy.proofs.lane_motions_keep_their_laws.Goals as goal

pub returns : goal.returns
returns c = record { pieces = trip_long; portals = gap_le; polygons = holds_bodies }
