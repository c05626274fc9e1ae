use Rattle.std.proofs.Common.{sym, ap, ◌∙◌, take}
use Rattle.std.specs.List.{filter_map}
use Rattle.scenario.specs.Lanes.{link_of}
use Rattle.scenario.proofs.Paths.{filter_map_more, added_behind, kept_behind}
use Rattle.scenario.proofs.lanes.add_links.Goals as goal
use Rattle.scenario.proofs.lanes.add_links.Goals.{in-Some+in_ok-push, in_default}

pub loop-c-preserved : goal.loop-c-preserved
loop-c-preserved c =
    let f = link_of c.args.link c.args.tree.now in
    let xs = filter_map (link_of c.args.link c.args.tree.now) (take c.loop-c.c-index c.deref-c-items.result.now) in
    let more = filter_map_more (link_of c.args.link c.args.tree.now) c.deref-c-items.result.now c.loop-c.c-index 0 c.link_at.result c.loop-c-test.true (sym c.link_at.ensures) in
    elim c.match-link_at.branch [
      | in-Some+in_ok-push w ↦ added_behind c.link_at.result w.in-Some.id c.args.ids.now.items xs _ c.loop-c.ids.items c.match-link_at.ids.items w.in-Some.is more c.loop-c.invariant (ap (λ v. v.items) w.ids-is ∙ w.in_ok-push.ensures.items)
      | in_default w ↦ kept_behind c.link_at.result c.args.ids.now.items xs _ c.loop-c.ids.items c.match-link_at.ids.items w.in_default.is more c.loop-c.invariant (ap (λ v. v.items) w.ids-is)
    ]
