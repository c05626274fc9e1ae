use Rattle.std.proofs.Common.{◌≡◌, ◌∙◌, ◌≤◌, ◌++◌, ap, arith, length, map, take, sym, subst, List, [], refl}
use Rattle.std.specs.List.{AllByRecursion, flat_map}
use Rattle.std.proofs.lemmas.List.{take_all}
use Rattle.spot_terms.specs.OccupiedPieces.{discs, discs_of, fixed_disc}
use Rattle.spot_terms.specs.Ranges.{AreStatesInRange}
use Rattle.spot_terms.specs.declared.scenario.Mover.{Mover}
use Rattle.spot_terms.proofs.Places.{all_at, all_by_index, same_index}
use Rattle.replay_sets.specs.Discs.{AreSmall}
use Rattle.replay_sets.proofs.SmallDiscs.{step_small}
use Rattle.replay_sets.proofs.recorded.Recorded.make.Goals as goal

pub put_states-requires-clause-states : goal.put_states-requires-clause-states
put_states-requires-clause-states c = subst AreStatesInRange (sym c.m-item.is) (all_at AreStatesInRange c.list-m-items.result.now c.loop-m.m-index c.m-item.result (subst (λ (ms : List Mover). AllByRecursion AreStatesInRange ms) (sym c.list-m-items.ensures) c.args.s.now.in_range.each_state) c.loop-m-test.true)

pub invariant_of-result : goal.invariant_of-result
invariant_of-result c =
    let all : take c.loop-m.m-index c.args.s.now.movers ≡ c.args.s.now.movers = take_all c.loop-m.m-index c.args.s.now.movers (subst (λ (ms : List Mover). length ms ≤ c.loop-m.m-index) c.list-m-items.ensures (omega (arith, c.loop-m-test.false))) in
    let range = c.args.s.now.in_range in
    let few = range.few in let count = range.few_recorded in let long = c.loop-m.invariant.long in record {
      some = omega (arith, long);
      small = all_by_index AreSmall c.loop-m.all.items (λ k d less. subst AreSmall (sym (same_index c.loop-m.all.items k k d [] less refl ∙ (c.loop-m.invariant.each k (omega (arith, long, less)) ∙ ap (λ (ms : List Mover). map (fixed_disc c.args.ego_radius) c.args.s.now.fixed ++ flat_map (discs_of c.args.ego_radius k) ms) all)))
          (step_small c.args.ego_radius c.requires.radius k c.args.s.now.fixed c.args.s.now.movers range.each_fixed range.each_mover range.each_state (omega (arith, few)) (omega (arith, count))));
    }

pub returns-clause-discs : goal.returns-clause-discs
unfolding discs
returns-clause-discs c = λ i h.
    let all : take c.loop-m.m-index c.args.s.now.movers ≡ c.args.s.now.movers = take_all c.loop-m.m-index c.args.s.now.movers (subst (λ (ms : List Mover). length ms ≤ c.loop-m.m-index) c.list-m-items.ensures (omega (arith, c.loop-m-test.false))) in
    c.loop-m.invariant.each i (omega (arith, h)) ∙ ap (λ (ms : List Mover). map (fixed_disc c.args.ego_radius) c.args.s.now.fixed ++ flat_map (discs_of c.args.ego_radius i) ms) all
