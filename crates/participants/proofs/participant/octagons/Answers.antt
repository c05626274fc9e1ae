use Rattle.std.proofs.Common.{◌∙◌, ◌+◌, ◌<◌, ap, subst, sym, arith, add-one, refl, length-append}
use Rattle.spot_terms.specs.Reach.{interval_numbers}
use Rattle.spot_terms.proofs.ListLemmas.{all_append}
use Rattle.acc_occupancy.specs.Runs.{Run}
use Rattle.participants.specs.Predictions.{AreOctagons, IsSmall}
use Rattle.participants.proofs.Octagons.{octagons-none, octagons-more}
use Rattle.participants.proofs.participant.octagons.Goals as goal

pub loop-init : goal.loop-init
loop-init c = record { octagons = rw c.in_ok-items.ensures.items (octagons-none c.args.s.now c.args.h.k); run = c.open-run.ensures; small = rw c.in_ok-items.ensures.items tt; long = rw c.in_ok-items.ensures.items refl }

pub loop-preserved : goal.loop-preserved
loop-preserved c =
    let octagon = c.next.ensures.value ∙ ap (λ (r : Run). interval_numbers r.start r.ticks r.interval) c.loop.invariant.run in record {
      octagons = rw (c.in_ok-push.ensures.items, add-one) (octagons-more c.args.s.now c.args.h.k c.loop.counter c.loop.items.items c.next.result c.loop.invariant.octagons octagon);
      run = c.next.ensures.next ∙ ap (λ (r : Run). record r { interval = r.interval + 1 }) c.loop.invariant.run;
      small = rw c.in_ok-push.ensures.items (all_append IsSmall c.loop.items.items _ c.loop.invariant.small (c.next.ensures.small, tt));
      long = rw (c.in_ok-push.ensures.items, length-append) (ap (λ n. n + 1) c.loop.invariant.long);
    }

pub returns-clause-exact : goal.returns-clause-exact
returns-clause-exact c = rw c.from_vec.ensures (subst (λ n. AreOctagons c.args.s.now c.args.h.k n c.loop.items.items) (omega (arith, c.loop-test.false, c.loop.auto.counter-end)) c.loop.invariant.octagons)

pub returns-clause-small : goal.returns-clause-small
returns-clause-small c = rw c.from_vec.ensures (record { long = c.loop.invariant.long ∙ omega (arith, c.loop-test.false, c.loop.auto.counter-end); small = c.loop.invariant.small })

pub next-requires : goal.next-requires
next-requires c = subst (λ (r : Run). r.interval < 100) (sym c.loop.invariant.run) (omega (arith, c.loop-test.true, c.args.h.few_steps))
