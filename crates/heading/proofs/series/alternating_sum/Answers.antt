use Rattle.std.proofs.Common.{◌+◌, ◌*◌, ◌^◌, ◌≤◌, arith, sym, to_z, nat_abs}
use Rattle.std.proofs.lemmas.Int.{ints}
use Rattle.std.specs.Int.{w128}
use Rattle.heading.proofs.Bounds.{next_term, next_sum_even, next_sum_odd, sum_zero, term_zero, term_within, sum_small, product_small}
use Rattle.heading.proofs.series.alternating_sum.Goals as goal
use Rattle.heading.proofs.series.alternating_sum.Goals.{then-k-eq0, else-k-eq0}

pub loop-k-init : goal.loop-k-init
loop-k-init c = record { term = sym (term_zero _ _ _); sum = rw sum_zero (omega (arith, ints)) }

pub overflow_mul-term : goal.overflow_mul-term
overflow_mul-term c =
    let term = rw (← c.loop-k.invariant.term) at (term_within c.args.first c.args.odd c.args.square c.loop-k.k c.requires.first c.requires.square) in
    let product = product_small c.loop-k.term c.args.square term c.requires.square in
    record { fits = omega arith }

pub overflow_cast-sum-then-k-eq0 : goal.overflow_cast-sum-then-k-eq0
overflow_cast-sum-then-k-eq0 c =
    let next = next_term c.args.first c.args.odd c.args.square c.loop-k.k c.loop-k.term c.loop-k.invariant.term in
    let small = term_within c.args.first c.args.odd c.args.square (c.loop-k.k + 1) c.requires.first c.requires.square in
    rw next (omega (arith, ints))

pub overflow_cast-sum-else-k-eq0 : goal.overflow_cast-sum-else-k-eq0
overflow_cast-sum-else-k-eq0 c =
    let next = next_term c.args.first c.args.odd c.args.square c.loop-k.k c.loop-k.term c.loop-k.invariant.term in
    let small = term_within c.args.first c.args.odd c.args.square (c.loop-k.k + 1) c.requires.first c.requires.square in
    rw next (omega (arith, ints))

pub overflow_sub-sum : goal.overflow_sub-sum
overflow_sub-sum c =
    let next = next_term c.args.first c.args.odd c.args.square c.loop-k.k c.loop-k.term c.loop-k.invariant.term in
    let small = term_within c.args.first c.args.odd c.args.square (c.loop-k.k + 1) c.requires.first c.requires.square in
    let sum : nat_abs (to_z w128 c.loop-k.sum-bits) ≤ 36_750 * 10 ^ 18 = rw c.loop-k.invariant.sum (sum_small c.args.first c.args.odd c.args.square c.loop-k.k c.requires.first c.requires.square (omega arith)) in
    rw next (omega (arith, ints))

pub overflow_add-sum : goal.overflow_add-sum
overflow_add-sum c =
    let next = next_term c.args.first c.args.odd c.args.square c.loop-k.k c.loop-k.term c.loop-k.invariant.term in
    let small = term_within c.args.first c.args.odd c.args.square (c.loop-k.k + 1) c.requires.first c.requires.square in
    let sum : nat_abs (to_z w128 c.loop-k.sum-bits) ≤ 36_750 * 10 ^ 18 = rw c.loop-k.invariant.sum (sum_small c.args.first c.args.odd c.args.square c.loop-k.k c.requires.first c.requires.square (omega arith)) in
    rw next (omega (arith, ints))

pub loop-k-preserved : goal.loop-k-preserved
loop-k-preserved c =
    let next = next_term c.args.first c.args.odd c.args.square c.loop-k.k c.loop-k.term c.loop-k.invariant.term in
    let small = term_within c.args.first c.args.odd c.args.square (c.loop-k.k + 1) c.requires.first c.requires.square in
    let before = c.loop-k.invariant.sum in
    let sum : nat_abs (to_z w128 c.loop-k.sum-bits) ≤ 36_750 * 10 ^ 18 = rw c.loop-k.invariant.sum (sum_small c.args.first c.args.odd c.args.square c.loop-k.k c.requires.first c.requires.square (omega arith)) in
    record {
      term = next;
      sum = elim c.if-k-eq0.branch [
        | then-k-eq0 w ↦ let more = next_sum_even c.args.first c.args.odd c.args.square c.loop-k.k w.if-k-eq0.true in let is = rw next at w.sum-is in omega (arith, ints)
        | else-k-eq0 w ↦ let more = next_sum_odd c.args.first c.args.odd c.args.square c.loop-k.k w.if-k-eq0.false in let is = rw next at w.sum-is in omega (arith, ints)
      ];
    }
