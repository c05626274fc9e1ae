use Rattle.std.proofs.Common.{◌≡◌, drop}
use Rattle.spot_terms.specs.Types.{type_named}
use Rattle.scenario.specs.Kinds.{kind_in}
use Rattle.scenario.proofs.items.kind_of.Given as goal

abbrev pub invariant-loop-named : goal.invariant-loop-named
invariant-loop-named l = kind_in (drop l.named-index l.named-items) l.text ≡ (type_named l.text).kind
