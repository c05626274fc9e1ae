use Rattle.std.proofs.Common.{◌≡◌, length, refl, arith, subst}
use Rattle.std.specs.Prelude.{slice_get, Some}
use Rattle.lanelets.specs.Listing.{AreRows}
use Rattle.lanelets.proofs.ClassLaws.{one_row}
use Rattle.lanelets.proofs.RowLists.{rows_next}
use Rattle.lanelets.proofs.classes.class_rows.Goals as goal

pub loop-n-preserved : goal.loop-n-preserved
loop-n-preserved c =
    rows_next (λ k x. slice_get c.args.numbers.now k ≡ Some x) c.loop-n.n-index _ c.loop-n.rows.items c.push.new.self.items c.in_ok-one_or_none.field-0 refl c.in_ok-push.ensures.items c.loop-n.invariant
    (one_row c.args.numbers.now c.in_ok-one_or_none.field-0 c.loop-n.n-index 0 c.loop-n-test.true c.in_ok-one_or_none.ensures)

pub returns : goal.returns
returns c =
    let all : c.loop-n.n-index ≡ length c.args.numbers.now = omega (arith, c.loop-n-test.false, c.loop-n.auto.n-index-end) in
    subst (λ n. AreRows (λ k x. slice_get c.args.numbers.now k ≡ Some x) n c.loop-n.rows.items) all c.loop-n.invariant
