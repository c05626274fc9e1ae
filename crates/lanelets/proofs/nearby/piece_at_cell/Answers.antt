use Rattle.std.proofs.Common.{◌∙◌, ℕ, length, sym, subst}
use Rattle.spot_terms.specs.declared.network.Origin.TheVariants.{Part}
use Rattle.lanelets.specs.Nearby.{IsPieceNumber}
use Rattle.lanelets.specs.Steps.{net_of}
use Rattle.lanelets.proofs.NearbyLaws.{part_number, bridge_number}
use Rattle.lanelets.proofs.PairLists.{net_many}
use Rattle.lanelets.proofs.StepLists.{origin_inside}
use Rattle.lanelets.proofs.nearby.piece_at_cell.Goals as goal

pub piece_number-requires-clause-within : goal.piece_number-requires-clause-within
piece_number-requires-clause-within c = origin_inside (length c.args.parts.now) c.args.cells.now c.args.c (Part c.in-Part.lane c.in-Part.piece _ _) c.requires.inside c.in-Part.ensures.is

pub returns-in-Part : goal.returns-in-Part
returns-in-Part c = part_number c.args.parts.now (net_of c.args.cells.now) c.args.c c.in-Part.lane c.in-Part.piece _ _ c.piece_number.result c.in-Part.ensures.is
    (subst (λ (n : ℕ). IsPieceNumber c.args.parts.now n c.in-Part.lane c.in-Part.piece c.piece_number.result) (c.len.ensures.is ∙ sym (net_many c.args.cells.now)) c.piece_number.ensures.is)

pub returns-in-Bridge : goal.returns-in-Bridge
returns-in-Bridge c = bridge_number c.args.parts.now (net_of c.args.cells.now) c.args.c _ _ c.in-Bridge.ensures.is
