use Rattle.std.proofs.Common.{ℕ, List, subst}
use Rattle.spot_terms.specs.Cells.{Lane}
use Rattle.lanelets.specs.Holding.{HoldsAt}
use Rattle.spot_terms.specs.Routes.{IsStartCell}
use Rattle.spot_terms.specs.Lists.{Lists}
use Rattle.convex_poly.specs.Polygons.{IsPosition}
use Rattle.lanelets.proofs.Holds.{holding_is, start_position}
use Rattle.lanelets.proofs.network.Network.cells_at.Goals as goal

pub returns-clause-list : goal.returns-clause-list
returns-clause-list c =
    let list : Lists (HoldsAt c.self.inside.cells c.args.p) c.in_ok-list.list = c.in_ok-list.ensures in
    subst (λ (lanes : List Lane). Lists (IsStartCell lanes c.args.p) c.in_ok-list.list) c.self.view_is
    (holding_is c.self.inside.built_from.value.entries c.self.inside.cells c.args.p c.in_ok-list.list c.self.invariant.placed list)

pub returns-clause-near : goal.returns-clause-near
returns-clause-near c =
    subst (λ (lanes : List Lane). (n : ℕ) → IsStartCell lanes c.args.p n → IsPosition c.args.p) c.self.view_is
    (λ n. start_position c.self.inside.built_from.value.entries c.self.inside.cells c.args.p n c.self.invariant.placed)

pub returns-in_err-list-clause-near : goal.returns-in_err-list-clause-near
returns-in_err-list-clause-near c =
    subst (λ (lanes : List Lane). (n : ℕ) → IsStartCell lanes c.args.p n → IsPosition c.args.p) c.self.view_is
    (λ n. start_position c.self.inside.built_from.value.entries c.self.inside.cells c.args.p n c.self.invariant.placed)
