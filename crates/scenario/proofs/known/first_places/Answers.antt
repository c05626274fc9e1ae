use Rattle.std.proofs.Common.{take, get_or, ◌+◌, sym, ◌∙◌, ap, subst, ℕ}
use Rattle.std.specs.BTreeMap.{get, BTreeMap}
use Rattle.std.specs.Ordering.{nat_cmp}
use Rattle.scenario.specs.Known.{least_of_places, HasFirsts}
use Rattle.scenario.proofs.Firsts.{firsts_skip, firsts_write, no_firsts}
use Rattle.scenario.proofs.known.first_places.Goals as goal
use Rattle.scenario.proofs.known.first_places.Goals.{in-Some+in_ok-insert, in_default}

pub loop-e-init : goal.loop-e-init
loop-e-init c = no_firsts c.args.tree.now c.new-firsts.result c.new-firsts.ensures.empty

pub loop-e-preserved : goal.loop-e-preserved
loop-e-preserved c = elim c.match-id_at.branch [
  | in-Some+in_ok-insert w ↦
      firsts_write c.args.tree.now c.args.elements.now c.loop-e.e-index w.in-Some.id w.least_place-first.result (get nat_cmp c.loop-e.firsts) (get nat_cmp c.match-id_at.firsts) c.loop-e-test.true c.loop-e.invariant
      (sym c.id_at.ensures ∙ w.in-Some.is)
      (w.least_place-first.ensures ∙ ap (λ o. least_of_places o (get_or c.args.elements.now c.loop-e.e-index 0)) (w.copied.ensures ∙ w.get.ensures.value))
      (λ q. ap (λ m. get nat_cmp m q) w.firsts-is ∙ w.in_ok-insert.ensures.updates.0 q)
  | in_default w ↦
      let P : BTreeMap ℕ ℕ → Type 0 = λ m. HasFirsts c.args.tree.now (take (c.loop-e.e-index + 1) c.args.elements.now) (get nat_cmp m) in
      subst P (sym w.firsts-is) (firsts_skip c.args.tree.now c.args.elements.now c.loop-e.e-index 0 (get nat_cmp c.loop-e.firsts) c.loop-e-test.true c.loop-e.invariant (sym c.id_at.ensures ∙ w.in_default.is))
]
