use Rattle.std.proofs.Common.{◌≡◌, ◌∙◌, List, subst, sym}
use Rattle.std.specs.Prelude.{Some, slice_get}
use Rattle.spot_terms.specs.Cells.{Lane, cells}
use Rattle.spot_terms.specs.Network.{IsAhead}
use Rattle.spot_terms.specs.Lists.{Lists}
use Rattle.lanelets.proofs.Disjunctions.{any_includes}
use Rattle.lanelets.proofs.network.Network.is_ahead.Goals as goal

pub returns : goal.returns
returns c =
    let at : slice_get c.self.inside.ahead.items c.args.c ≡ Some c.list_at.result.now = rw c.deref.ensures.value at c.list_at.ensures in
    let all : Lists (IsAhead c.args.self.now (cells c.args.self.now) c.args.c) c.list_at.result.now =
    subst (λ (lanes : List Lane). Lists (IsAhead lanes (cells lanes) c.args.c) c.list_at.result.now) c.self.view_is (c.self.invariant.ahead.each c.args.c c.list_at.result.now at) in
    let any = any_includes c.list_at.result.now c.args.d in
    ((λ t. all.each c.args.d (any.0 (sym c.has_number.ensures ∙ t))), (λ a. c.has_number.ensures ∙ any.1 (all.all c.args.d a)))
