use Rattle.std.proofs.Common.{subst}
use Rattle.spot_terms.specs.Avoidance.{HoldsOrStrikes}
use Rattle.area_run.specs.Plans.{course_of}
use Rattle.area_run.proofs.run.AreaRun.sets.Goals as goal

pub returns-clause-holds : goal.returns-clause-holds
returns-clause-holds g c = subst (λ v. HoldsOrStrikes (course_of v.plan) (g.O.Occupied.count v.o) (g.O.Occupied.hits v.o) v.at v.sets) c.self.view_is c.self.invariant.1.holds
