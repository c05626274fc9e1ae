use Rattle.std.proofs.Common.{◌≡◌, ◌∙◌, ℕ, length, get_or, true, false, ap, sym, arith}
use Rattle.std.specs.Prelude.{Some}
use Rattle.spot_terms.specs.Cells.{Lane, same_portal}
use Rattle.lanelets.specs.Bridges.{bridges_of}
use Rattle.lanelets.proofs.LaneCells.{buildable_few}
use Rattle.lanelets.proofs.BridgeLists.{bridges_over, over_all, follower_low, bridge_made, no_bridge, few_bridges, count_next, count_end}
use Rattle.lanelets.proofs.bridges.bridge_count_from.Goals as goal
use Rattle.lanelets.proofs.bridges.bridge_count_from.Goals.{then-not-is_same_portal, else-not-is_same_portal}

pub lane_at-requires-in-loop-to-clause-within : goal.lane_at-requires-in-loop-to-clause-within
lane_at-requires-in-loop-to-clause-within c = follower_low c.args.lanes.now.entries c.args.from c.args.after.now c.loop-to.to-index c.requires.after c.loop-to-test.true

pub loop-to-preserved : goal.loop-to-preserved
loop-to-preserved c =
    let lanes = c.args.lanes.now.entries in
    let f : ℕ = get_or c.args.after.now c.loop-to.to-index 0 in
    let m : Lane = (c.lane_at-in-loop-to.result.0, c.lane_at-in-loop-to.result.1.now) in
    let p = c.last_portal-entry.result in
    let q = c.first_portal.result in
    let was = c.loop-to.invariant.0 in
    let low = c.loop-to.invariant.1 in
    elim c.if-not-is_same_portal.branch [
      | then-not-is_same_portal w ↦ (let differ : same_portal (Some p) (Some q) ≡ false = sym c.is_same_portal.ensures ∙ w.if-not-is_same_portal.true in let i = w.count-is in (
        count_next lanes c.args.from (Some p) c.args.after.now c.loop-to.to-index c.loop-to.count c.if-not-is_same_portal.count 1 _ c.loop-to-test.true was
            (ap length (bridge_made lanes c.args.from f m p q c.lane_at-in-loop-to.ensures.is (c.first_portal.ensures.is m.0) differ)) i,
        omega (arith, i, low),
      ))
      | else-not-is_same_portal w ↦ (let same : same_portal (Some p) (Some q) ≡ true = sym c.is_same_portal.ensures ∙ w.if-not-is_same_portal.false in let i = w.count-is in (
        count_next lanes c.args.from (Some p) c.args.after.now c.loop-to.to-index c.loop-to.count c.if-not-is_same_portal.count 0 _ c.loop-to-test.true was
            (ap length (no_bridge lanes c.args.from f m p q c.lane_at-in-loop-to.ensures.is (c.first_portal.ensures.is m.0) same)) (omega (arith, i)),
        omega (arith, i, low),
      ))
    ]

pub returns : goal.returns
returns c =
    let lanes = c.args.lanes.now.entries in
    let l : Lane = (c.lane_at.result.0, c.lane_at.result.1.now) in
    let all : bridges_of lanes c.args.from ≡ bridges_over lanes c.args.from (Some c.last_portal-entry.result) c.args.after.now =
    over_all lanes c.args.from l c.last_portal-entry.result c.args.after.now c.lane_at.ensures.is (c.last_portal-entry.ensures.is l.0) c.requires.after in
    let value : c.loop-to.count ≡ length (bridges_of lanes c.args.from) =
    count_end lanes c.args.from (Some c.last_portal-entry.result) c.args.after.now c.loop-to.to-index c.loop-to.count _ c.loop-to-test.false c.loop-to.invariant.0 ∙ ap length (sym all) in
    let few = few_bridges lanes c.args.from l c.lane_at.ensures.is in
    let most = buildable_few lanes c.requires.buildable in
    record { value = value; few = omega (arith, value, few, most) }
