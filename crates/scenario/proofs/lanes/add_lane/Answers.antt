use Rattle.std.proofs.Common.{◌≡◌, sym, ◌∙◌, nat_eq, true, false}
use Rattle.indexmap.proofs.CallerLemmas.{insert_entry-new}
use Rattle.scenario.proofs.Finds.{some_lane, none_there, one_there}
use Rattle.scenario.proofs.lanes.add_lane.Goals as goal

pub returns-clause-added : goal.returns-clause-added
returns-clause-added c = λ added.
    let yes : c.is_none.result ≡ true = cc in
    let whole = some_lane c.args.tree.now c.args.e c.in_ok-lane.field-0 c.in-Some-2.lane c.in-Some-2.is c.in_ok-lane.ensures in
    let lane = whole.is in
    let none = none_there c.in_ok-other.other c.is_none.result c.is_none.ensures yes in
    record {
      has = whole.has;
      entry = (c.in-Some.id, c.in-Some-2.lane);
      is = record { id = sym c.id_at.ensures ∙ c.in-Some.is; left = lane.left; right = lane.right; successors = lane.successors; predecessors = lane.predecessors; sides = lane.sides };
      within = whole.within;
      after_is = c.in_ok-other.ensures.entries ∙ insert_entry-new nat_eq c.args.lanes.now c.in-Some.id c.in-Some-2.lane (sym c.in_ok-other.ensures.old ∙ none);
    }

pub returns-clause-not : goal.returns-clause-not
returns-clause-not c = λ added has fresh.
    let not_yes : c.is_none.result ≡ false = cc in
    one_there c.in_ok-other.other c.is_none.result c.is_none.ensures not_yes (c.in_ok-other.ensures.old ∙ fresh c.in-Some.id (sym c.id_at.ensures ∙ c.in-Some.is))
