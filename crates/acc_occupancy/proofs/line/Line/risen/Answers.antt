use Rattle.std.proofs.Common.{◌≡◌, pos, arith, to_z, to_z-of_z, w64, refl}
use Rattle.std.proofs.lemmas.Int.{ints}
use Rattle.acc_occupancy.specs.Lines.{risen_place}
use Rattle.acc_occupancy.proofs.LineSizes.{half_read, risen_fits}
use Rattle.acc_occupancy.proofs.line.Line.risen.Goals as goal

pub overflow_mul-result : goal.overflow_mul-result
overflow_mul-result c =
    let f = risen_fits c.args.self.now c.args.ticks c.half.result _ c.requires.range c.requires.ticks (half_read c.args.self.now c.half.result c.requires.range c.half.ensures.value) refl in
    let speed = f.speed in
    let halved = f.halved in
    let steady = f.steady in
    let ticks : to_z w64 c.args.ticks ≡ pos c.args.ticks = omega (arith, ints) in
    rw ticks (simp to_z-of_z f.way)

pub overflow_add-result : goal.overflow_add-result
overflow_add-result c =
    let f = risen_fits c.args.self.now c.args.ticks c.half.result _ c.requires.range c.requires.ticks (half_read c.args.self.now c.half.result c.requires.range c.half.ensures.value) refl in
    let place = f.place in
    let speed = f.speed in
    let halved = f.halved in
    let steady = f.steady in
    let way = f.way in
    let ticks : to_z w64 c.args.ticks ≡ pos c.args.ticks = omega (arith, ints) in
    rw ticks (simp to_z-of_z f.first)

pub overflow_mul-result-2 : goal.overflow_mul-result-2
overflow_mul-result-2 c =
    let f = risen_fits c.args.self.now c.args.ticks c.half.result c.pairs.result c.requires.range c.requires.ticks (half_read c.args.self.now c.half.result c.requires.range c.half.ensures.value) c.pairs.ensures.value in
    let rise = f.rise in
    let paired = f.paired in
    simp to_z-of_z f.more

pub overflow_add-result-2 : goal.overflow_add-result-2
overflow_add-result-2 c =
    let f = risen_fits c.args.self.now c.args.ticks c.half.result c.pairs.result c.requires.range c.requires.ticks (half_read c.args.self.now c.half.result c.requires.range c.half.ensures.value) c.pairs.ensures.value in
    let place = f.place in
    let speed = f.speed in
    let rise = f.rise in
    let halved = f.halved in
    let paired = f.paired in
    let steady = f.steady in
    let way = f.way in
    let first = f.first in
    let more = f.more in
    let ticks : to_z w64 c.args.ticks ≡ pos c.args.ticks = omega (arith, ints) in
    rw ticks (simp to_z-of_z f.whole)

pub returns-clause-value : goal.returns-clause-value
unfolding risen_place
returns-clause-value c =
    let halved_is = half_read c.args.self.now c.half.result c.requires.range c.half.ensures.value in
    let f = risen_fits c.args.self.now c.args.ticks c.half.result c.pairs.result c.requires.range c.requires.ticks halved_is c.pairs.ensures.value in
    let place = f.place in
    let speed = f.speed in
    let rise = f.rise in
    let halved = f.halved in
    let paired = f.paired in
    let steady = f.steady in
    let way = f.way in
    let first = f.first in
    let more = f.more in
    let whole = f.whole in
    let ticks : to_z w64 c.args.ticks ≡ pos c.args.ticks = omega (arith, ints) in
    rw ticks (simp to_z-of_z (rw (halved_is, c.pairs.ensures.value) refl))

pub returns-clause-size : goal.returns-clause-size
returns-clause-size c =
    let f = risen_fits c.args.self.now c.args.ticks c.half.result c.pairs.result c.requires.range c.requires.ticks (half_read c.args.self.now c.half.result c.requires.range c.half.ensures.value) c.pairs.ensures.value in
    let place = f.place in
    let speed = f.speed in
    let rise = f.rise in
    let halved = f.halved in
    let paired = f.paired in
    let steady = f.steady in
    let way = f.way in
    let first = f.first in
    let more = f.more in
    let whole = f.whole in
    let ticks : to_z w64 c.args.ticks ≡ pos c.args.ticks = omega (arith, ints) in
    rw ticks (simp to_z-of_z f.size)
