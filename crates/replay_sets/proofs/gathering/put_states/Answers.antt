use Rattle.std.proofs.Common.{◌≡◌, ◌∙◌, ◌<◌, ◌≤◌, ap, arith, length, pos, sym, ℕ, ℤ, List, [], get_or, subst, refl, FitsSigned, w64, to_z-of_z}
use Rattle.spot_terms.proofs.Places.{all_at, same_index}
use Rattle.std.proofs.lemmas.Int.{ints}
use Rattle.std.specs.List.{AllByRecursion}
use Rattle.spot_terms.specs.Ranges.{IsStateInRange}
use Rattle.replay_sets.proofs.Gathered.{put_here_in, put_past}
use Rattle.replay_sets.proofs.gathering.put_states.Goals as goal
use Rattle.replay_sets.proofs.gathering.put_states.Goals.{then-step-len+in_ok-push, else-step-len}

state_small : (recorded items : List (ℕ × ℤ × ℤ)) (j : ℕ) → items ≡ recorded → AllByRecursion IsStateInRange recorded → j < length items → FitsSigned w64 (get_or items j (0, pos 0, pos 0)).1 × FitsSigned w64 (get_or items j (0, pos 0, pos 0)).2
state_small recorded items j e h less =
    let at : IsStateInRange (get_or items j (0, pos 0, pos 0)) = all_at IsStateInRange items j (0, pos 0, pos 0) (subst (λ (xs : List (ℕ × ℤ × ℤ)). AllByRecursion IsStateInRange xs) (sym e) h) less in
    (let a = at.x in omega (arith, ints), let b = at.y in omega (arith, ints))

pub loop-state-preserved : goal.loop-state-preserved
loop-state-preserved c = elim c.if-step-len.branch [
  | then-step-len+in_ok-push w ↦ put_here_in c.args.radius c.args.m.now c.list-state-items.result.now c.list-state-items.ensures c.args.all.now.items c.loop-state.all.items c.if-step-len.all.items c.loop-state.state-index (0, pos 0, pos 0)
      w.index_mut.result.now w.push.new.self c.loop-state-test.true
      (let long = c.loop-state.all.ok.0 in omega (arith, long, c.len.ensures, w.if-step-len.true)) (w.index_mut.ensures.value ∙ same_index c.loop-state.all.items (get_or c.list-state-items.result.now c.loop-state.state-index (0, pos 0, pos 0)).0 (get_or c.list-state-items.result.now c.loop-state.state-index (0, pos 0, pos 0)).0 w.index_mut.result.now [] (let long = c.loop-state.all.ok.0 in omega (arith, long, c.len.ensures, w.if-step-len.true)) refl)
      (let state = state_small c.args.m.now.recorded c.list-state-items.result.now c.loop-state.state-index c.list-state-items.ensures c.requires.states c.loop-state-test.true in
      let fx : FitsSigned w64 (get_or c.list-state-items.result.now c.loop-state.state-index (0, pos 0, pos 0)).1 = state.0 in let fy : FitsSigned w64 (get_or c.list-state-items.result.now c.loop-state.state-index (0, pos 0, pos 0)).2 = state.1 in simp to_z-of_z at w.in_ok-push.ensures) (ap (λ v. v.items) w.all-is) c.loop-state.invariant
  | else-step-len w ↦ rw w.all-is (put_past c.args.radius c.args.m.now c.args.all.now.items c.loop-state.all.items c.loop-state.state-index (0, pos 0, pos 0)
      (subst (λ (xs : List (ℕ × ℤ × ℤ)). c.loop-state.state-index < length xs) c.list-state-items.ensures c.loop-state-test.true)
      (subst (λ (xs : List (ℕ × ℤ × ℤ)). length c.loop-state.all.items ≤ (get_or xs c.loop-state.state-index (0, pos 0, pos 0)).0) c.list-state-items.ensures (let long = c.loop-state.all.ok.0 in omega (arith, long, c.len.ensures, w.if-step-len.false))) c.loop-state.invariant)
]
