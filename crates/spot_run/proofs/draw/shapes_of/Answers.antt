use Rattle.std.proofs.Common.{◌∙◌, ◌∷◌, [], map}
use Rattle.std.proofs.lemmas.List.{map-append}
use Rattle.spot_terms.proofs.ListLemmas.{all_append}
use Rattle.participants.specs.Pieces.{pieces_at}
use Rattle.svg_report.specs.Shapes.{drawn_of, IsNearShape}
use Rattle.spot_run.proofs.Shapes.{one_more}
use Rattle.spot_run.proofs.draw.shapes_of.Goals as goal

pub loop-piece-preserved : goal.loop-piece-preserved
loop-piece-preserved c = record {
  drawn = rw c.in_ok-push.ensures.items (map-append drawn_of c.loop-piece.shapes.items (c.shape_of.result ∷ [])
      ∙ one_more (pieces_at c.args.prediction.now c.args.step) c.loop-piece.piece (map drawn_of c.loop-piece.shapes.items) (drawn_of c.shape_of.result) c.loop-piece.invariant.drawn c.shape_of.ensures.drawn);
  near = rw c.in_ok-push.ensures.items (all_append IsNearShape c.loop-piece.shapes.items _ c.loop-piece.invariant.near (c.shape_of.ensures.near, tt));
}
