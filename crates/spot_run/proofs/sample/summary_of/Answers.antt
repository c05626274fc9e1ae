use Rattle.std.proofs.Common.{◌∙◌, ◌≤◌, List, length, sym, ap, subst}
use Rattle.std.specs.Prelude.{sum_by}
use Rattle.spot_terms.specs.Cells.{Lane, cells}
use Rattle.spot_terms.specs.declared.limits.TheConstants.{MOST_LANE_POLYGONS}
use Rattle.participants.specs.declared.participant.Participant.{Participant}
use Rattle.participants.proofs.Pairs.{polygons_of}
use Rattle.spot_run.proofs.Summing.{summed, few_polygons, area_stops, limit_stops}
use Rattle.spot_run.proofs.sample.summary_of.Goals as goal

pub returns-in-Err-network_of-clause-err : goal.returns-in-Err-network_of-clause-err
returns-in-Err-network_of-clause-err c = limit_stops c.args.scenario.now c.args.command.now c.requires.task c.in-Ok.ego c.in-Err-network_of.status c.in-Ok.ensures.ok (c.in-Err-network_of.ensures.err c.args.command.now.steps)

pub polygon_count-requires : goal.polygon_count-requires
polygon_count-requires c = record {
  few = subst (λ (ps : List Participant). sum_by polygons_of ps ≤ MOST_LANE_POLYGONS) (sym c.list.ensures)
      (few_polygons c.args.scenario.now c.args.command.now c.requires.task c.in-Ok.ego c.in-Ok.ensures.ok c.in-Ok-predict_over.prediction c.in-Ok-predict_over.ensures.ok);
}

pub returns-in-Ok-total_over-clause-ok : goal.returns-in-Ok-total_over-clause-ok
returns-in-Ok-total_over-clause-ok c =
    summed c.args.scenario.now c.args.command.now c.requires.task c.in-Ok.ego c.in-Ok.ensures.ok c.in-Ok-predict_over.prediction c.in-Ok-predict_over.ensures.ok c.args.bytes c.len.result c.polygon_count.result c.in-Ok-total_over.total
    (c.len.ensures ∙ ap (λ (ls : List Lane). length (cells ls)) c.in-Ok-network_of.ensures.ok.0) (c.polygon_count.ensures ∙ ap (sum_by polygons_of) c.list.ensures) c.in-Ok-total_over.ensures.ok

pub returns-clause-err : goal.returns-clause-err
returns-clause-err c = area_stops c.args.scenario.now c.args.command.now c.requires.task c.in-Ok.ego c.in-Ok.ensures.ok c.in-Ok-predict_over.prediction c.in-Ok-predict_over.ensures.ok c.in-Err-total_over.status c.in-Err-total_over.ensures.err
