use Rattle.std.proofs.Common.{ℕ, take, IfSome, IfNone}
use Rattle.spot_terms.specs.Lists.{Includes}
use Rattle.scenario.specs.Radii.{Greatest, PartOf, PartIs, IsSmall}
use Rattle.scenario.proofs.shapes.parts_of.Given as goal

abbrev pub invariant-loop-e : goal.invariant-loop-e
invariant-loop-e l = record {
  most : Greatest (PartOf (PartIs l.part l.tree) (take l.e-index l.e-items)) l.most;
  few : IfSome l.most (λ r. IsSmall r);
  none : IfNone l.most ((e : ℕ) → Includes (take l.e-index l.e-items) e → ⊥);
}
