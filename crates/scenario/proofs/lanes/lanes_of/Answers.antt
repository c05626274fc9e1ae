use Rattle.std.proofs.Common.{Ok, ◌∙◌, ℕ, List, [], ◌+◌, take, get_or, sym, ap, subst, arith, codes}
use Rattle.std.specs.List.{filter}
use Rattle.std.specs.Str.{bytes_eq}
use Rattle.spot_terms.specs.Lists.{Includes, Pairwise}
use Rattle.spot_terms.specs.declared.scenario.RawLane.{RawLane}
use Rattle.spot_claims.specs.Paths.{at_path, lanelets}
use Rattle.spot_claims.specs.Scenario.{IsLane}
use Rattle.scenario.specs.Lanes.{AddsLane, AreInRange}
use Rattle.scenario.proofs.Accepts.{has_lane}
use Rattle.scenario.proofs.Members.{item_in}
use Rattle.scenario.proofs.Rises.{IsLanelet, fresh_lane, lanes_more, lanes_same, ranges_more, lanes_end, lanelet_in, filter_in, bounds_more, bounds_end}
use Rattle.spot_terms.proofs.Orders.{true_not_false}
use Rattle.scenario.proofs.lanes.lanes_of.Goals as goal
use Rattle.scenario.proofs.lanes.lanes_of.Goals.{else-eq-via-then-eq+in_ok-add_lane+else-not-branch, else-eq-via-else-eq}

pub loop-e-init : goal.loop-e-init
loop-e-init c =
    let P : List (ℕ × RawLane) → Type 0 = λ es. Pairwise (IsLane c.args.tree.now) [] es in
    record {
      has = λ e h. absurd h;
      are = subst P (sym c.new-lanes.ensures.empty) tt;
      within = subst AreInRange (sym c.new-lanes.ensures.empty) tt;
    }

pub returns-then-not-branch : goal.returns-then-not-branch
returns-then-not-branch c = λ ok.
    let called = ap (λ n. bytes_eq n (codes "lanelet")) (sym c.name.ensures) ∙ (sym c.eq.ensures ∙ c.if-eq.true) in
    let e = get_or c.children-e-items.result.now c.loop-e.e-index 0 in
    let inside : (x : ℕ) → Includes (filter (IsLanelet c.args.tree.now) c.children-e-items.result.now) x → Includes (at_path c.args.tree.now lanelets) x = λ x h. let P : List ℕ → Type 0 = λ cs. Includes (filter (IsLanelet c.args.tree.now) cs) x in lanelet_in c.args.tree.now x (subst P c.children-e-items.ensures.same h) in
    let here = inside e (filter_in (IsLanelet c.args.tree.now) c.children-e-items.result.now e (item_in c.children-e-items.result.now c.loop-e.e-index 0 c.loop-e-test.true) called) in
    c.in_ok-add_lane.ensures.not (ap Ok c.if-not-branch.true) (has_lane c.args.tree.now ok e here) (λ i has. fresh_lane c.args.tree.now ok c.children-e-items.result.now c.loop-e.e-index i c.loop-e.lanes.entries inside c.children-e-items.ensures.rising c.loop-e-test.true called here has c.loop-e.invariant.are)

pub loop-e-preserved : goal.loop-e-preserved
loop-e-preserved c = elim c.else-eq.branch [
  | else-eq-via-then-eq+in_ok-add_lane+else-not-branch w ↦
      let called = ap (λ n. bytes_eq n (codes "lanelet")) (sym c.name.ensures) ∙ (sym c.eq.ensures ∙ w.if-eq.true) in
      let P : List (ℕ × RawLane) → Type 0 = λ es. AddsLane c.args.tree.now (get_or c.children-e-items.result.now c.loop-e.e-index 0) c.loop-e.lanes.entries es in
      let adds = subst P (sym (ap (λ m. m.entries) w.lanes-is)) (w.in_ok-add_lane.ensures.added (ap Ok w.if-not-branch.false)) in
      record {
        has = bounds_more c.args.tree.now c.children-e-items.result.now c.loop-e.e-index c.loop-e-test.true (λ t. adds.has) c.loop-e.invariant.has;
        are = lanes_more c.args.tree.now c.children-e-items.result.now c.loop-e.e-index c.loop-e.lanes.entries c.else-eq.lanes.entries c.loop-e-test.true called adds c.loop-e.invariant.are;
        within = ranges_more c.args.tree.now (get_or c.children-e-items.result.now c.loop-e.e-index 0) c.loop-e.lanes.entries c.else-eq.lanes.entries adds c.loop-e.invariant.within;
      }
  | else-eq-via-else-eq w ↦
      let called = ap (λ n. bytes_eq n (codes "lanelet")) (sym c.name.ensures) ∙ (sym c.eq.ensures ∙ w.if-eq.false) in
      let same = sym (ap (λ m. m.entries) w.lanes-is) in
      let P : List (ℕ × RawLane) → Type 0 = λ es. Pairwise (IsLane c.args.tree.now) (filter (IsLanelet c.args.tree.now) (take (c.loop-e.e-index + 1) c.children-e-items.result.now)) es in
      record {
        has = bounds_more c.args.tree.now c.children-e-items.result.now c.loop-e.e-index c.loop-e-test.true (λ t. absurd (true_not_false _ t called)) c.loop-e.invariant.has;
        are = subst P same (lanes_same c.args.tree.now c.children-e-items.result.now c.loop-e.e-index c.loop-e.lanes.entries c.loop-e-test.true called c.loop-e.invariant.are);
        within = subst AreInRange same c.loop-e.invariant.within;
      }
]

pub returns : goal.returns
returns c =
    let same = ap (filter (IsLanelet c.args.tree.now)) c.children-e-items.ensures.same in
    record {
      has = bounds_end c.args.tree.now c.children-e-items.result.now c.loop-e.e-index (omega arith) same c.loop-e.invariant.has;
      are = lanes_end c.args.tree.now c.children-e-items.result.now c.loop-e.e-index c.loop-e.lanes.entries (omega arith) same c.loop-e.invariant.are;
      within = c.loop-e.invariant.within;
    }
