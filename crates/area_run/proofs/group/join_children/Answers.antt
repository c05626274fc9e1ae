use Rattle.std.proofs.Common.{◌≡◌, ◌∙◌, ◌+◌, ◌<◌, ◌++◌, ◌∷◌, [], List, arith, sym, subst, length, map, take}
use Rattle.std.proofs.lemmas.List.{take_all}
use Rattle.spot_terms.specs.BaseSets.{SetValue}
use Rattle.base_sets.specs.Values.{value_of}
use Rattle.base_sets.specs.declared.sets.BaseSet.{BaseSet}
use Rattle.area_run.specs.Strips.{AreAlongY, with_child}
use Rattle.area_run.proofs.Filling.{listed}
use Rattle.area_run.proofs.GroupSets.{along_more, one_more}
use Rattle.area_run.proofs.group.join_children.Goals as goal

pub join-requires-clause-near : goal.join-requires-clause-near
join-requires-clause-near c = (c.requires.sets (value_of c.set-item.result) (listed c.args.sets.now c.loop-set.set-index c.set-item.result c.loop-set-test.true c.set-item.is)).y

pub loop-set-preserved : goal.loop-set-preserved
loop-set-preserved c =
    let (ys, along, strip) = c.loop-set.invariant.strip in
    let j = c.join.ensures.joined in record {
      strip = (
        with_child j.child ys,
        subst (λ (z : List SetValue). AreAlongY c.args.plan.now c.args.b.now z (with_child j.child ys)) (sym (one_more c.args.sets.now c.loop-set.set-index c.set-item.result c.loop-set-test.true c.set-item.is))
            (along_more c.args.plan.now c.args.b.now c.requires.plan (map value_of (take c.loop-set.set-index c.args.sets.now)) ys (value_of c.set-item.result) j.child along j.is),
        j.joined ys strip,
      );
      kept = c.join.ensures.kept;
      fits = c.join.ensures.fits;
      room = c.join.ensures.room ∙ c.loop-set.invariant.room;
    }

pub returns-clause-strip : goal.returns-clause-strip
returns-clause-strip c =
    let (ys, along, strip) = c.loop-set.invariant.strip in
    (ys, subst (λ (z : List BaseSet). AreAlongY c.args.plan.now c.args.b.now (map value_of z) ys) (take_all c.loop-set.set-index c.args.sets.now (omega (arith, c.loop-set-test.false))) along, strip)
