use Rattle.std.proofs.Common.{take}
use Rattle.std.specs.List.{AllByRecursion}
use Rattle.spot_terms.specs.Lists.{Pairwise}
use Rattle.participants.specs.Predictions.{IsFixedOctagon, IsSmall}
use Rattle.participants.proofs.prediction.fixed_of.Given as goal

-- the octagons of the obstacles so far
abbrev pub invariant-loop-f : goal.invariant-loop-f
invariant-loop-f l = record {
  exact : Pairwise IsFixedOctagon (take l.f-index l.s.fixed) l.fixed.items;
  small : AllByRecursion (λ f. IsSmall f.1) l.fixed.items;
}
