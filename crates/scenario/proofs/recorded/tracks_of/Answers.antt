use Rattle.std.proofs.Common.{ℕ, get_or, List, subst, ◌∙◌, arith, take_all}
use Rattle.spot_terms.specs.Lists.{Includes, Pairwise}
use Rattle.scenario.specs.Found.{IsTrack, HasStates}
use Rattle.scenario.proofs.Accepts.{has_mover}
use Rattle.scenario.proofs.Finds.{some_track, no_track, all_recorded}
use Rattle.scenario.proofs.Members.{item_in, each_taken, pair_taken}
use Rattle.scenario.proofs.recorded.tracks_of.Goals as goal

pub returns-in_default : goal.returns-in_default
returns-in_default c = λ ok.
    let e = get_or c.deref-e-items.result.now c.loop-e.e-index 0 in
    let P : List ℕ → Type 0 = λ l. Includes l e in
    no_track c.args.tree.now e c.in_ok-track.field-0 c.in_default.is c.in_ok-track.ensures (has_mover c.args.tree.now ok e (subst P (c.deref-e-items.ensures.value ∙ c.in_ok-elements.ensures.found) (item_in c.deref-e-items.result.now c.loop-e.e-index 0 c.loop-e-test.true)))

pub loop-e-preserved : goal.loop-e-preserved
loop-e-preserved c =
    let track = some_track c.args.tree.now (get_or c.deref-e-items.result.now c.loop-e.e-index 0) c.in_ok-track.field-0 c.in-Some.track c.in-Some.is c.in_ok-track.ensures in
    record {
      has = each_taken (λ e. HasStates c.args.tree.now e) c.deref-e-items.result.now c.loop-e.e-index 0 c.loop-e-test.true c.loop-e.invariant.has track.has;
      are = pair_taken (IsTrack c.args.tree.now) c.deref-e-items.result.now c.loop-e.tracks.items c.push.new.self.items c.loop-e.e-index 0 c.in-Some.track c.loop-e-test.true c.in_ok-push.ensures.items c.loop-e.invariant.are track.is;
    }

pub returns : goal.returns
returns c =
    let P : List ℕ → Type 0 = λ l. Pairwise (IsTrack c.args.tree.now) l c.loop-e.tracks.items in
    let Q : List ℕ → Type 0 = λ l. (e : ℕ) → Includes l e → HasStates c.args.tree.now e in
    let all = take_all c.loop-e.e-index c.deref-e-items.result.now (omega arith) ∙ (c.deref-e-items.ensures.value ∙ c.in_ok-elements.ensures.found) in
    record { has = all_recorded c.args.tree.now (subst Q all c.loop-e.invariant.has); are = subst P all c.loop-e.invariant.are }
