use Rattle.std.proofs.Common.{◌≡◌, ◌++◌, take}
use Rattle.std.specs.List.{filter_map}
use Rattle.scenario.specs.Lanes.{link_of}
use Rattle.scenario.proofs.lanes.add_links.Given as goal

abbrev pub invariant-loop-c : goal.invariant-loop-c
invariant-loop-c l = l.ids.items ≡ l.initial.ids.items ++ filter_map (link_of l.link l.tree) (take l.c-index l.c-items)
