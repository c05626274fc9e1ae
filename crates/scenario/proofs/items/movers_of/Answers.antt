use Rattle.std.proofs.Common.{ℕ, ℤ, List, [], get_or, subst, sym, arith}
use Rattle.std.specs.List.{AllByRecursion}
use Rattle.std.specs.Vec.Iter.{into_iter_items}
use Rattle.spot_terms.proofs.ListLemmas.{pairwise_length}
use Rattle.spot_terms.specs.Lists.{Pairwise}
use Rattle.spot_terms.specs.declared.scenario.Mover.{Mover}
use Rattle.spot_terms.specs.Ranges.{IsMoverInRange}
use Rattle.spot_claims.specs.Scenario.{IsMover}
use Rattle.scenario.specs.Found.{IsTrack}
use Rattle.scenario.proofs.Finds.{next_left}
use Rattle.scenario.proofs.Members.{item_in, pair_taken, each_more}
use Rattle.scenario.proofs.items.movers_of.Goals as goal

pub loop-e-init : goal.loop-e-init
loop-e-init c =
    let P : List (List (ℕ × ℤ × ℤ)) → Type 0 = λ l. Pairwise (IsTrack c.args.tree.now) c.args.elements.now l in
    let Q : List Mover → Type 0 = λ l. Pairwise (IsMover c.args.tree.now) [] l in
    let R : List Mover → Type 0 = λ l. AllByRecursion IsMoverInRange l in
    let n = pairwise_length (IsTrack c.args.tree.now) c.args.elements.now c.args.tracks.items c.requires.tracks in
    let held = c.args.tracks.ok.0 in
    let len = c.into_iter-tracks.ensures.len in
    record {
      left = subst P (sym c.into_iter-tracks.ensures.rest) c.requires.tracks;
      count = omega (arith, n, held, len);
      are = subst Q (sym c.new-movers.ensures.items) tt;
      within = subst R (sym c.new-movers.ensures.items) tt;
    }

pub unreachable-requires : goal.unreachable-requires
unreachable-requires c =
    let none = c.in_default.ensures.cases.0 in
    let count = c.loop-e.invariant.count in omega (arith, none, count)

pub mover_at-requires-clause-has : goal.mover_at-requires-clause-has
mover_at-requires-clause-has c = c.requires.has (get_or c.args.elements.now c.loop-e.e-index 0) (item_in c.args.elements.now c.loop-e.e-index 0 c.loop-e-test.true)

pub mover_at-requires-clause-track : goal.mover_at-requires-clause-track
mover_at-requires-clause-track c = (next_left (IsTrack c.args.tree.now) c.args.elements.now c.loop-e.e-index 0 c.in-Some.recorded (into_iter_items c.loop-e.tracks) (into_iter_items c.next.new.self) c.loop-e-test.true c.loop-e.invariant.left c.in-Some.ensures.cases.0).0

pub loop-e-preserved : goal.loop-e-preserved
loop-e-preserved c = record {
  left = (next_left (IsTrack c.args.tree.now) c.args.elements.now c.loop-e.e-index 0 c.in-Some.recorded (into_iter_items c.loop-e.tracks) (into_iter_items c.next.new.self) c.loop-e-test.true c.loop-e.invariant.left c.in-Some.ensures.cases.0).1;
  count = (let less = c.in-Some.ensures.cases.1 in let count = c.loop-e.invariant.count in omega (arith, less, count));
  are = pair_taken (IsMover c.args.tree.now) c.args.elements.now c.loop-e.movers.items c.push.new.self.items c.loop-e.e-index 0 c.in_ok-mover_at.field-0 c.loop-e-test.true c.in_ok-push.ensures.items c.loop-e.invariant.are c.in_ok-mover_at.ensures.is;
  within = each_more IsMoverInRange c.loop-e.movers.items c.push.new.self.items c.in_ok-mover_at.field-0 c.in_ok-push.ensures.items c.loop-e.invariant.within c.in_ok-mover_at.ensures.within;
}
