use Rattle.std.proofs.Common.{ap, subst}
use Rattle.lanelets.specs.declared.cell.Placed.{Placed}
use Rattle.lanelets.specs.Steps.{net_of, HasOrigin}
use Rattle.lanelets.proofs.Places.{read_at}
use Rattle.lanelets.proofs.StepLists.{net_at}
use Rattle.lanelets.proofs.steps.origin_at.Goals as goal

pub returns-clause-is : goal.returns-clause-is
returns-clause-is c =
    subst (HasOrigin (net_of c.args.cells.now) c.args.c) (ap (λ (p : Placed). p.origin) c.index-list-c.is)
    (net_at c.args.cells.now c.args.c c.index-list-c.result (read_at c.args.cells.now c.args.c c.index-list-c.result c.requires (rw c.list.ensures.is at c.index-list-c.is)))
