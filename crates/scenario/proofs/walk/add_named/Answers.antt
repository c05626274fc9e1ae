use Rattle.std.proofs.Common.{arith, length, get_or, ap, ◌∙◌}
use Rattle.std.proofs.lemmas.Grind.{common_steps}
use Rattle.scenario.proofs.Paths.{all_more, all_same}
use Rattle.scenario.proofs.walk.add_named.Goals as goal
use Rattle.scenario.proofs.walk.add_named.Goals.{then-eq+in_ok-push, else-eq}

pub loop-c-preserved : goal.loop-c-preserved
loop-c-preserved c = elim c.if-eq.branch [
  | then-eq+in_ok-push w ↦ record {
    found = grind (arith, common_steps);
    within = all_more (length c.args.tree.now) c.loop-c.found.items c.if-eq.found.items (get_or c.children-c-items.result.now c.loop-c.c-index 0) (ap (λ v. v.items) w.found-is ∙ w.in_ok-push.ensures.items) c.loop-c.invariant.within (c.children-c-items.ensures.within c.loop-c.c-index 0 c.loop-c-test.true);
  }
  | else-eq w ↦ record {
    found = grind (arith, common_steps);
    within = all_same (length c.args.tree.now) c.loop-c.found.items c.if-eq.found.items (ap (λ v. v.items) w.found-is) c.loop-c.invariant.within;
  }
]
