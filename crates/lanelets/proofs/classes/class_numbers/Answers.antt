use Rattle.std.proofs.Common.{length, ◌∙◌, sym, subst}
use Rattle.std.specs.List.{AllByRecursion}
use Rattle.lanelets.specs.Listing.{AreBelow}
use Rattle.lanelets.specs.Steps.{net_of}
use Rattle.lanelets.proofs.ClassLaws.{pairs_within, classes_written}
use Rattle.lanelets.proofs.PairLists.{net_many}
use Rattle.lanelets.proofs.classes.class_numbers.Goals as goal

pub settle-requires-clause-pairs : goal.settle-requires-clause-pairs
settle-requires-clause-pairs c = subst (λ pairs. AllByRecursion (AreBelow c.len-2.result) pairs) (sym c.deref.ensures.value)
    (pairs_within c.requires.kept.0 (net_of c.args.cells.now) (length c.args.cells.now) c.len-2.result c.in_ok-pairs.pairs.items (c.len-2.ensures.is ∙ sym (net_many c.args.cells.now)) (c.in_ok-pairs.ensures c.requires.kept.0 c.requires.kept.1))

pub returns : goal.returns
returns c = λ every k.
    let net = net_of c.args.cells.now in
    let many = net_many c.args.cells.now in
    classes_written every net c.args.lanes.now c.args.nearby.now c.len.result (length c.args.cells.now) c.in_ok-numbers.numbers.len c.in_ok-pairs.pairs.items c.deref.result.now c.in_ok-numbers.numbers.items c.deref_mut.result.now c.settle.new.numbers k
    c.deref.ensures.value c.deref_mut.ensures.value (c.len.ensures.is ∙ sym many) (sym many) c.in_ok-numbers.numbers.ok.0 (c.in_ok-pairs.ensures every k) c.in_ok-numbers.ensures c.in_ok-settle.ensures.made c.in_ok-settle.ensures.level c.settle.auto.numbers
