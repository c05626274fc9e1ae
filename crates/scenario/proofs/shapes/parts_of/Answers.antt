use Rattle.std.proofs.Common.{arith, subst, get_or, ℕ, List, take, ◌+◌}
use Rattle.spot_terms.specs.Lists.{Includes}
use Rattle.spot_claims.specs.Tree.{all_named}
use Rattle.scenario.specs.Radii.{PartIs, name_of}
use Rattle.scenario.proofs.Members.{item_in}
use Rattle.scenario.proofs.Paths.{each_one}
use Rattle.scenario.proofs.Parts.{part_more, part_end, no_part, never_none, small_more, none_end}
use Rattle.scenario.proofs.shapes.parts_of.Goals as goal

pub part_at-requires-clause-has : goal.part_at-requires-clause-has
part_at-requires-clause-has c =
    let same = each_one c.args.tree.now c.name.result.now (name_of c.args.part) c.args.shape c.in_ok-elements.elements.items c.deref-e-items.result.now c.deref-e-items.ensures.value c.in_ok-elements.ensures.found c.name.ensures in
    let e = get_or c.deref-e-items.result.now c.loop-e.e-index 0 in
    let P : List ℕ → Type 0 = λ l. Includes l e in
    c.requires.has e (subst P same (item_in c.deref-e-items.result.now c.loop-e.e-index 0 c.loop-e-test.true))

pub loop-e-init : goal.loop-e-init
loop-e-init c = record { most = no_part (PartIs c.args.part c.args.tree.now); few = tt; none = λ e h. h }

pub loop-e-preserved : goal.loop-e-preserved
loop-e-preserved c = record {
  most = part_more c.args.part c.args.tree.now c.deref-e-items.result.now c.loop-e.e-index c.loop-e.most c.greater-most.result c.in_ok-part_at.field-0 c.loop-e-test.true c.loop-e.invariant.most c.in_ok-part_at.ensures.is c.greater-most.ensures;
  few = small_more c.loop-e.most c.greater-most.result c.in_ok-part_at.field-0 c.greater-most.ensures c.loop-e.invariant.few c.in_ok-part_at.ensures.small;
  none = never_none c.loop-e.most c.greater-most.result c.in_ok-part_at.field-0 ((e : ℕ) → Includes (take (c.loop-e.e-index + 1) c.deref-e-items.result.now) e → ⊥) c.greater-most.ensures;
}

pub returns-clause-is : goal.returns-clause-is
returns-clause-is c =
    let same = each_one c.args.tree.now c.name.result.now (name_of c.args.part) c.args.shape c.in_ok-elements.elements.items c.deref-e-items.result.now c.deref-e-items.ensures.value c.in_ok-elements.ensures.found c.name.ensures in
    part_end (PartIs c.args.part c.args.tree.now) c.deref-e-items.result.now (all_named c.args.tree.now (name_of c.args.part) c.args.shape) c.loop-e.e-index c.loop-e.most (omega arith) same c.loop-e.invariant.most

pub returns-clause-small : goal.returns-clause-small
returns-clause-small c = c.loop-e.invariant.few

pub returns-clause-none : goal.returns-clause-none
returns-clause-none c =
    let same = each_one c.args.tree.now c.name.result.now (name_of c.args.part) c.args.shape c.in_ok-elements.elements.items c.deref-e-items.result.now c.deref-e-items.ensures.value c.in_ok-elements.ensures.found c.name.ensures in
    none_end c.deref-e-items.result.now (all_named c.args.tree.now (name_of c.args.part) c.args.shape) c.loop-e.e-index c.loop-e.most (omega arith) same c.loop-e.invariant.none
