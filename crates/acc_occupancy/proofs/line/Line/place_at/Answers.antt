use Rattle.std.proofs.Common.{◌≡◌, ℕ, ◌-◌, ◌*◌, ◌≤◌, ◌+ℤ◌, ◌*ℤ◌, ◌∙◌, sym, pos, arith, to_z, to_z-of_z, FitsSigned, w64}
use Rattle.std.specs.Prelude.{nat_abs}
use Rattle.std.proofs.lemmas.Int.{ints}
use Rattle.acc_occupancy.proofs.LineSizes.{product_within}
use Rattle.acc_occupancy.proofs.Rows.{place_rising, place_at_cap}
use Rattle.acc_occupancy.proofs.line.Line.place_at.Goals as goal

pub overflow_add-result-else-tick-rising : goal.overflow_add-result-else-tick-rising
overflow_add-result-else-tick-rising c =
    let left : ℕ = c.args.tick - c.rising-rising.result - 1 in
    let few : left ≤ 100_000 = omega arith in
    let small = c.capped.ensures.size in
    let bent = c.bend.ensures.size in
    let risen = c.risen-else-tick-rising.ensures.size in
    let way : nat_abs (pos left *ℤ c.capped.result) ≤ 100_000 * 2_000_000 = product_within left c.capped.result 100_000 2_000_000 few small in
    let ticks : to_z w64 left ≡ pos left = omega (arith, ints) in
    let capped_fits : FitsSigned w64 c.capped.result = omega (arith, ints) in
    rw ticks (simp to_z-of_z (omega (arith, ints)))

pub returns-then-tick-rising-clause-value : goal.returns-then-tick-rising-clause-value
returns-then-tick-rising-clause-value c =
    let small = c.risen.ensures.size in
    let fits : FitsSigned w64 c.risen.result = omega (arith, ints) in
    simp to_z-of_z (c.risen.ensures.value ∙ sym (place_rising c.args.self.now c.rising-rising.result c.args.tick c.requires.range c.rising-rising.ensures c.if-tick-rising.true))

pub returns-else-tick-rising-clause-value : goal.returns-else-tick-rising-clause-value
returns-else-tick-rising-clause-value c =
    let left : ℕ = c.args.tick - c.rising-rising.result - 1 in
    let few : left ≤ 100_000 = omega arith in
    let small = c.capped.ensures.size in
    let bent = c.bend.ensures.size in
    let risen = c.risen-else-tick-rising.ensures.size in
    let way : nat_abs (pos left *ℤ c.capped.result) ≤ 100_000 * 2_000_000 = product_within left c.capped.result 100_000 2_000_000 few small in
    let ticks : to_z w64 left ≡ pos left = omega (arith, ints) in
    let capped_fits : FitsSigned w64 c.capped.result = omega (arith, ints) in
    let bend_fits : FitsSigned w64 c.bend.result = omega (arith, ints) in
    let risen_fits : FitsSigned w64 c.risen-else-tick-rising.result = omega (arith, ints) in
    let way_fits : FitsSigned w64 (pos left *ℤ c.capped.result) = omega (arith, ints) in
    let sum_fits : FitsSigned w64 (c.risen-else-tick-rising.result +ℤ c.bend.result) = omega (arith, ints) in
    let all_fits : FitsSigned w64 (c.risen-else-tick-rising.result +ℤ c.bend.result +ℤ pos left *ℤ c.capped.result) = omega (arith, ints) in
    let value = place_at_cap c.args.self.now c.rising-rising.result c.args.tick c.requires.range c.rising-rising.ensures c.if-tick-rising.false in
    rw ticks (simp to_z-of_z (rw (c.risen-else-tick-rising.ensures.value, c.bend.ensures.value, c.capped.ensures.value) (sym value)))

pub returns-else-tick-rising-clause-size : goal.returns-else-tick-rising-clause-size
returns-else-tick-rising-clause-size c =
    let left : ℕ = c.args.tick - c.rising-rising.result - 1 in
    let few : left ≤ 100_000 = omega arith in
    let small = c.capped.ensures.size in
    let bent = c.bend.ensures.size in
    let risen = c.risen-else-tick-rising.ensures.size in
    let way : nat_abs (pos left *ℤ c.capped.result) ≤ 100_000 * 2_000_000 = product_within left c.capped.result 100_000 2_000_000 few small in
    let ticks : to_z w64 left ≡ pos left = omega (arith, ints) in
    let capped_fits : FitsSigned w64 c.capped.result = omega (arith, ints) in
    rw ticks (simp to_z-of_z (omega (arith, ints)))
