use Rattle.std.proofs.Common.{arith}
use Rattle.participants.specs.Places.{no_place}
use Rattle.participants.proofs.Ranks.{block_begins, block_goes_on, counted_in, counted_out, CountedWithBlock}
use Rattle.participants.proofs.places.counted.Goals as goal
use Rattle.participants.proofs.places.counted.Goals.{then-at-eq0+in_ok-push, else-at-eq0, then-place-interval, else-place-interval}

pub loop-at-preserved : goal.loop-at-preserved
loop-at-preserved c =
    let block : CountedWithBlock c.args.places.now c.args.interval c.loop-at.at c.loop-at.count c.if-at-eq0.before.items = elim c.if-at-eq0.branch [
      | then-at-eq0+in_ok-push w ↦ rw (w.before-is) (block_begins c.args.places.now c.args.interval c.loop-at.at c.loop-at.count c.loop-at.before.items w.push.new.self.items (omega (arith, w.if-at-eq0.true)) w.in_ok-push.ensures.items c.loop-at.invariant)
      | else-at-eq0 w ↦ rw (w.before-is) (block_goes_on c.args.places.now c.args.interval c.loop-at.at c.loop-at.count c.loop-at.before.items (λ e. omega (arith, e, w.if-at-eq0.false)) c.loop-at.invariant)
    ] in
    elim c.if-place-interval.branch [
      | then-place-interval w ↦ rw (w.count-is) (counted_in c.args.places.now c.args.interval c.loop-at.at c.loop-at.count c.if-at-eq0.before.items no_place c.loop-at-test.true w.if-place-interval.true block)
      | else-place-interval w ↦ rw (w.count-is) (counted_out c.args.places.now c.args.interval c.loop-at.at c.loop-at.count c.if-at-eq0.before.items no_place c.loop-at-test.true (let t = w.if-place-interval.false in omega (arith, t)) block)
    ]
