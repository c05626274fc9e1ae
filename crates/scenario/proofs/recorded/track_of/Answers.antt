use Rattle.std.proofs.Common.{ℕ, ℤ, get_or, ◌∷◌, ◌++◌, List, subst, sym, ◌∙◌, ap, arith, codes, take_all}
use Rattle.spot_terms.specs.Lists.{Includes, Pairwise}
use Rattle.spot_claims.specs.Scenario.{IsRecorded, recorded_of}
use Rattle.scenario.specs.Has.{HasRecorded, later_states}
use Rattle.scenario.proofs.Facts.{one_child}
use Rattle.scenario.proofs.Members.{item_in, each_taken, pair_behind}
use Rattle.scenario.proofs.recorded.track_of.Goals as goal

pub returns-in_default-find_state-2 : goal.returns-in_default-find_state-2
returns-in_default-find_state-2 c = λ has.
    let e = get_or c.deref-state-items.result.now c.loop-state.state-index 0 in
    let P : List ℕ → Type 0 = λ l. Includes l e in
    c.in_default-find_state-2.ensures (has.states e (subst P (c.deref-state-items.ensures.value ∙ c.in_ok-states.ensures.found) (item_in c.deref-state-items.result.now c.loop-state.state-index 0 c.loop-state-test.true)))

pub loop-state-preserved : goal.loop-state-preserved
loop-state-preserved c =
    let at = c.in-Some-find_state-2.ensures in
    record {
      has = each_taken (λ n. HasRecorded c.args.tree.now n) c.deref-state-items.result.now c.loop-state.state-index 0 c.loop-state-test.true c.loop-state.invariant.has at.has;
      are = pair_behind (IsRecorded c.args.tree.now) c.in-Some.start c.deref-state-items.result.now c.loop-state.recorded.items c.push.new.self.items c.loop-state.state-index 0 c.in-Some-find_state-2.next c.loop-state-test.true c.in_ok-push.ensures.items c.loop-state.invariant.are at.is;
    }

pub returns : goal.returns
returns c =
    let P : List ℕ → Type 0 = λ l. Pairwise (IsRecorded c.args.tree.now) l c.loop-state.recorded.items in
    let Q : List (ℕ × ℤ × ℤ) → Type 0 = λ l. Pairwise (IsRecorded c.args.tree.now) (recorded_of c.args.tree.now c.args.e) l in
    let R : List ℕ → Type 0 = λ l. (n : ℕ) → Includes l n → HasRecorded c.args.tree.now n in
    let states = take_all c.loop-state.state-index c.deref-state-items.result.now (omega arith) ∙ (c.deref-state-items.ensures.value ∙ c.in_ok-states.ensures.found) in
    let start = one_child c.args.tree.now (codes "initialState") c.args.e c.in-Some.start (sym c.child.ensures.first ∙ c.in-Some.is) in
    record {
      has = subst R states c.loop-state.invariant.has;
      is = subst Q (sym c.from_vec.ensures) (subst P (ap (λ l. c.in-Some.start ∷ l) states ∙ ap (λ l. l ++ later_states c.args.tree.now c.args.e) (sym start)) c.loop-state.invariant.are);
    }
