use Rattle.std.proofs.Common.{rules, ◌≡◌, ◌∙◌, ◌+◌, ◌<◌, ◌≤◌, ℕ, List, arith, ap, refl, sym, subst, length, map, take, get_or}
use Rattle.std.proofs.lemmas.List.{take_all}
use Rattle.std.proofs.lemmas.Option.{slice_get-get_or}
use Rattle.base_sets.specs.Values.{value_of}
use Rattle.base_sets.specs.declared.sets.BaseSet.{BaseSet}
use Rattle.merge_sets.specs.Tables.{Table}
use Rattle.area_laws.specs.Filling.{IsFilledFrom}
use Rattle.area_laws.proofs.Pairs.{tables_fill}
use Rattle.area_run.specs.Plans.{course_of}
use Rattle.area_run.specs.Strips.{AreKept, IsEmptyStrip}
use Rattle.area_run.specs.declared.children.Children.{Children}
use Rattle.area_run.specs.declared.strip.Strip.{Strip}
use Rattle.area_run.proofs.Filling.{fill_none}
use Rattle.area_run.proofs.GroupSets.{AreSameFrom, alike_stretch, filled_up_to, same_anew, same_more, same_none, values_included}
use Rattle.area_run.proofs.fill.fill.Goals as goal
use Rattle.area_run.proofs.fill.fill.Goals.{else-not-is_same, then-not-is_same}

pub loop-i-init : goal.loop-i-init
loop-i-init c = record {
  step = c.requires.begun;
  most = refl;
  same = same_none c.args.sets.now;
  kept = c.start.ensures;
  empty = c.start-2.ensures.empty;
  room = c.start-2.ensures.room;
  filled = fill_none tables_fill c.args.plan.now c.args.b.now c.args.table.now c.requires.begun c.requires.empty;
}

pub fill_group-requires-clause-sets : goal.fill_group-requires-clause-sets
fill_group-requires-clause-sets c = λ set j. c.requires.sets set (values_included c.args.sets.now c.loop-i.from _ set j)

pub fill_group-requires-clause-alike : goal.fill_group-requires-clause-alike
fill_group-requires-clause-alike c = alike_stretch c.args.sets.now c.loop-i.from c.loop-i.i c.loop-i.invariant.same

pub loop-i-preserved : goal.loop-i-preserved
loop-i-preserved c = elim c.if-not-is_same.branch [
  | then-not-is_same w ↦ record {
    step = ap (λ (t : Table). t.step) w.table-is ∙ w.fill_group.ensures.step ∙ c.loop-i.invariant.step;
    most = ap (λ (t : Table). t.most) w.table-is ∙ w.fill_group.ensures.most ∙ c.loop-i.invariant.most;
    same = subst (λ (n : ℕ). AreSameFrom c.args.sets.now n (c.loop-i.i + 1)) (sym w.from-is) (same_anew c.args.sets.now c.loop-i.i);
    kept = subst (λ (z : Children). AreKept c.args.plan.now c.args.b.now z.kept.items) (sym w.children-is) w.fill_group.ensures.kept;
    empty = subst (λ (z : Strip). IsEmptyStrip c.args.plan.now c.args.b.now z.rows.items z.from z.to) (sym w.strip-is) w.fill_group.ensures.empty;
    room = ap (λ (z : Strip). length z.rows.items) w.strip-is ∙ w.fill_group.ensures.room ∙ c.loop-i.invariant.room;
    filled = λ j e.
        subst (λ (n : ℕ). IsFilledFrom (course_of c.args.plan.now) j (map value_of (take n c.args.sets.now)) c.if-not-is_same.table) (sym w.from-is)
        (subst (λ (t : Table). IsFilledFrom (course_of c.args.plan.now) j (map value_of (take c.loop-i.i c.args.sets.now)) t) (sym w.table-is)
        (filled_up_to c.args.plan.now c.args.b.now c.args.sets.now c.loop-i.from c.loop-i.i c.loop-i.table w.fill_group.new.table c.loop-i.invariant.same.order c.loop-i.invariant.filled w.fill_group.ensures.filled j e));
  }
  | else-not-is_same w ↦
      let order = c.loop-i.invariant.same.order in
      let within : c.loop-i.from < length c.args.sets.now = omega (arith, order, c.loop-i-test.true) in
      let alike : (get_or c.args.sets.now c.loop-i.from c.index-sets-from.result).x ≡ (get_or c.args.sets.now c.loop-i.i c.index-sets-i.result).x = search (rules, c.is_same.ensures, w.if-not-is_same.false) in
      record {
        step = ap (λ (t : Table). t.step) w.table-is ∙ c.loop-i.invariant.step;
        most = ap (λ (t : Table). t.most) w.table-is ∙ c.loop-i.invariant.most;
        same = subst (λ (n : ℕ). AreSameFrom c.args.sets.now n (c.loop-i.i + 1)) (sym w.from-is)
            (same_more c.args.sets.now c.loop-i.from c.loop-i.i (get_or c.args.sets.now c.loop-i.from c.index-sets-from.result) (get_or c.args.sets.now c.loop-i.i c.index-sets-i.result) c.loop-i.invariant.same
            (slice_get-get_or c.args.sets.now c.loop-i.from c.index-sets-from.result within) (slice_get-get_or c.args.sets.now c.loop-i.i c.index-sets-i.result c.loop-i-test.true) alike);
        kept = subst (λ (z : Children). AreKept c.args.plan.now c.args.b.now z.kept.items) (sym w.children-is) c.loop-i.invariant.kept;
        empty = subst (λ (z : Strip). IsEmptyStrip c.args.plan.now c.args.b.now z.rows.items z.from z.to) (sym w.strip-is) c.loop-i.invariant.empty;
        room = ap (λ (z : Strip). length z.rows.items) w.strip-is ∙ c.loop-i.invariant.room;
        filled = λ j e.
            subst (λ (n : ℕ). IsFilledFrom (course_of c.args.plan.now) j (map value_of (take n c.args.sets.now)) c.if-not-is_same.table) (sym w.from-is)
            (subst (λ (t : Table). IsFilledFrom (course_of c.args.plan.now) j (map value_of (take c.loop-i.from c.args.sets.now)) t) (sym w.table-is) (c.loop-i.invariant.filled j e));
      }
]

pub fill_group-requires-2-clause-sets : goal.fill_group-requires-2-clause-sets
fill_group-requires-2-clause-sets c = λ set j. c.requires.sets set (values_included c.args.sets.now c.loop-i.from _ set j)

pub fill_group-requires-2-clause-alike : goal.fill_group-requires-2-clause-alike
fill_group-requires-2-clause-alike c =
    let all : c.loop-i.i ≡ length c.args.sets.now = omega (arith, c.loop-i-test.false, c.loop-i.auto.i-end) in
    alike_stretch c.args.sets.now c.loop-i.from (length c.args.sets.now) (subst (λ (n : ℕ). AreSameFrom c.args.sets.now c.loop-i.from n) all c.loop-i.invariant.same)

pub returns-clause-filled : goal.returns-clause-filled
returns-clause-filled c = λ j e.
    let all : c.loop-i.i ≡ length c.args.sets.now = omega (arith, c.loop-i-test.false, c.loop-i.auto.i-end) in
    let order : c.loop-i.from ≤ length c.args.sets.now = let o = c.loop-i.invariant.same.order in omega (arith, o, all) in
    subst (λ (z : List BaseSet). IsFilledFrom (course_of c.args.plan.now) j (map value_of z) c.fill_group-2.new.table) (take_all (length c.args.sets.now) c.args.sets.now (omega arith))
    (filled_up_to c.args.plan.now c.args.b.now c.args.sets.now c.loop-i.from (length c.args.sets.now) c.loop-i.table c.fill_group-2.new.table order c.loop-i.invariant.filled c.fill_group-2.ensures.filled j e)
