use Rattle.std.proofs.Common.{◌∙◌, ap, sym, length, take}
use Rattle.std.specs.List.{filter_map}
use Rattle.spot_claims.specs.Tree.{first_named}
use Rattle.scenario.proofs.Paths.{filter_map_more, all_more, all_same, added_some, added_none}
use Rattle.scenario.proofs.walk.first_child.Goals as goal
use Rattle.scenario.proofs.walk.first_child.Goals.{in-Some+in_ok-push, in_default}

pub loop-e-preserved : goal.loop-e-preserved
loop-e-preserved c =
    let more = filter_map_more (first_named c.args.tree.now c.args.name.now) c.args.elements.now c.loop-e.e-index 0 c.child.result c.loop-e-test.true (sym c.child.ensures.first) in
    elim c.match-child.branch [
      | in-Some+in_ok-push w ↦ record {
        found = added_some c.child.result w.in-Some.c (filter_map (first_named c.args.tree.now c.args.name.now) (take c.loop-e.e-index c.args.elements.now)) _ c.loop-e.found.items c.match-child.found.items w.in-Some.is more c.loop-e.invariant.found (ap (λ v. v.items) w.found-is ∙ w.in_ok-push.ensures.items);
        within = all_more (length c.args.tree.now) c.loop-e.found.items c.match-child.found.items w.in-Some.c (ap (λ v. v.items) w.found-is ∙ w.in_ok-push.ensures.items) c.loop-e.invariant.within w.in-Some.ensures.within;
      }
      | in_default w ↦ record {
        found = added_none c.child.result (filter_map (first_named c.args.tree.now c.args.name.now) (take c.loop-e.e-index c.args.elements.now)) _ c.loop-e.found.items c.match-child.found.items w.in_default.is more c.loop-e.invariant.found (ap (λ v. v.items) w.found-is);
        within = all_same (length c.args.tree.now) c.loop-e.found.items c.match-child.found.items (ap (λ v. v.items) w.found-is) c.loop-e.invariant.within;
      }
    ]
