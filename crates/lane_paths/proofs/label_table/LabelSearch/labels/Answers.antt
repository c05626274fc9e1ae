use Rattle.std.proofs.lemmas.Result.{IfOk-weaker}
use Rattle.spot_terms.specs.Routes.{IsStartCell}
use Rattle.spot_terms.proofs.ListLemmas.{all_of}
use Rattle.lane_paths.proofs.ClosedLaws.{all_none}
use Rattle.lane_paths.proofs.LabelLaws.{begun_places, search_labels}
use Rattle.lane_paths.proofs.label_table.LabelSearch.labels.Goals as goal

pub relax_start-requires-clause-places : goal.relax_start-requires-clause-places
relax_start-requires-clause-places c = begun_places c.args.net.now c.len.result c.begin.new.self c.in_ok-begin.ensures.count c.len.ensures c.in_ok-begin.ensures.lengths c.in_ok-begin.ensures.frontier

pub relax_start-requires-clause-starts : goal.relax_start-requires-clause-starts
relax_start-requires-clause-starts c = all_of (IsStartCell c.args.net.now c.args.start) c.args.starts.now c.requires.starts.each

pub relax_start-requires-clause-closed : goal.relax_start-requires-clause-closed
relax_start-requires-clause-closed c = all_none c.args.net.now c.begin.new.self.lengths c.new-closed.result c.new-closed.ensures.blocks c.new-closed.ensures.classes

pub returns : goal.returns
returns c = IfOk-weaker c.label_table.result _ _ (λ table is.
    search_labels c.args.net.now c.args.start c.args.limit c.len.result c.args.starts.now c.begin.new.self c.relax_start.new.search c.relax_all.new.search table
    c.in_ok-begin.ensures.count c.len.ensures c.in_ok-begin.ensures.limit c.in_ok-begin.ensures.lengths c.in_ok-begin.ensures.frontier c.requires.starts.all
    c.in_ok-relax_start.ensures.relaxes c.in_ok-relax_all.ensures.settled c.in_ok-relax_all.ensures.places is) c.label_table.ensures
