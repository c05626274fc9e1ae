use Rattle.std.proofs.Common.{◌≡◌, List, subst}
use Rattle.std.specs.Prelude.{Some, slice_get}
use Rattle.spot_terms.specs.Cells.{Lane, cells}
use Rattle.spot_terms.specs.Network.{IsAhead}
use Rattle.spot_terms.specs.Lists.{Lists}
use Rattle.lanelets.proofs.network.Network.ahead.Goals as goal

pub returns : goal.returns
returns c =
    let at : slice_get c.self.inside.ahead.items c.args.c ≡ Some c.list_at.result.now = rw c.deref.ensures.value at c.list_at.ensures in
    subst (λ (lanes : List Lane). Lists (IsAhead lanes (cells lanes) c.args.c) c.list_at.result.now) c.self.view_is (c.self.invariant.ahead.each c.args.c c.list_at.result.now at)
