use Rattle.std.proofs.Common.{◌≡◌, ◌∙◌, ◌+◌, ℕ, List, true, false, get_or, drop, refl, sym}
use Rattle.std.specs.Prelude.{Some, slice_get}
use Rattle.spot_terms.specs.Cells.{Lane, NetCell, same_portal}
use Rattle.lanelets.specs.Made.{Adds, IsPlaced}
use Rattle.lanelets.proofs.Adding.{along_step, along_end, adds_none, adds_same}
use Rattle.lanelets.proofs.BridgeLists.{bridges_over, bridge_onto, over_all, over_next, over_end, follower_low, bridge_made, no_bridge, bridge_placed}
use Rattle.lanelets.proofs.bridges.add_bridges_from.Goals as goal
use Rattle.lanelets.proofs.bridges.add_bridges_from.Goals.{then-not-is_same_portal+in_ok-push, else-not-is_same_portal}

pub lane_at-requires-clause-within : goal.lane_at-requires-clause-within
lane_at-requires-clause-within c = follower_low c.args.lanes.now.entries c.args.from c.args.after.now c.loop-to.to-index c.requires.after c.loop-to-test.true

pub loop-to-preserved : goal.loop-to-preserved
loop-to-preserved c =
    let lanes = c.args.lanes.now.entries in
    let f : ℕ = get_or c.args.after.now c.loop-to.to-index 0 in
    let m : Lane = (c.lane_at.result.0, c.lane_at.result.1.now) in
    let p = c.last_portal-entry.result in
    let q = c.first_portal-exit.result in
    let l : Lane = (c.lane_at-id.result.0, c.lane_at-id.result.1.now) in
    let onto : List NetCell = bridge_onto c.args.from (Some p) f (slice_get lanes f) in
    let adds : Adds (IsPlaced lanes) onto c.loop-to.made.items c.if-not-is_same_portal.made.items = elim c.if-not-is_same_portal.branch [
      | then-not-is_same_portal+in_ok-push w ↦ (let differ : same_portal (Some p) (Some q) ≡ false = sym c.is_same_portal.ensures ∙ w.if-not-is_same_portal.true in
          adds_same (IsPlaced lanes) onto _ c.loop-to.made.items _ _ (bridge_made lanes c.args.from f m p q c.lane_at.ensures.is (c.first_portal-exit.ensures.is m.0) differ) (rw w.made-is w.in_ok-push.ensures.items)
          (bridge_placed lanes c.args.from f l p q c.loop-to.made.items w.bridge_between.result c.lane_at-id.ensures.is w.bridge_between.ensures))
      | else-not-is_same_portal w ↦ (let same : same_portal (Some p) (Some q) ≡ true = sym c.is_same_portal.ensures ∙ w.if-not-is_same_portal.false in
          adds_same (IsPlaced lanes) onto _ c.loop-to.made.items _ c.loop-to.made.items (no_bridge lanes c.args.from f m p q c.lane_at.ensures.is (c.first_portal-exit.ensures.is m.0) same) (rw w.made-is refl) (adds_none (IsPlaced lanes) c.loop-to.made.items))
    ] in
    along_step (IsPlaced lanes) _ _ onto (bridges_over lanes c.args.from (Some p) (drop (c.loop-to.to-index + 1) c.args.after.now)) c.args.made.now.items c.loop-to.made.items c.if-not-is_same_portal.made.items c.loop-to.invariant
    (over_next lanes c.args.from (Some p) c.args.after.now c.loop-to.to-index c.loop-to-test.true) adds

pub returns : goal.returns
returns c =
    let lanes = c.args.lanes.now.entries in
    let l : Lane = (c.lane_at-id.result.0, c.lane_at-id.result.1.now) in
    let all = over_all lanes c.args.from l c.last_portal-entry.result c.args.after.now c.lane_at-id.ensures.is (c.last_portal-entry.ensures.is l.0) c.requires.after in
    rw all (along_end (IsPlaced lanes) _ _ c.args.made.now.items c.loop-to.made.items c.loop-to.invariant (over_end lanes c.args.from (Some c.last_portal-entry.result) c.args.after.now c.loop-to.to-index c.loop-to-test.false))
