use Rattle.std.proofs.Common.{◌≡◌, ℕ, ◌+◌, ◌*◌, ◌/◌, ◌≤◌, arith, to_z, w64, pos}
use Rattle.std.proofs.lemmas.Int.{ints}
use Rattle.propagate.proofs.ChildCode.{square_small, speed_small, cube_small, half_small}
use Rattle.propagate.proofs.numbers.growths_of.Goals as goal

pub overflow_mul-square : goal.overflow_mul-square
overflow_mul-square c = omega (arith, square_small c.args.k c.requires.ticks)

pub overflow_mul-result : goal.overflow_mul-result
overflow_mul-result c = omega (arith, speed_small c.args.k c.args.a c.requires.ticks c.requires.acceleration)

pub overflow_mul-result-2 : goal.overflow_mul-result-2
overflow_mul-result-2 c = omega (arith, cube_small c.args.k c.args.a c.requires.ticks c.requires.acceleration)

pub overflow_add-result : goal.overflow_add-result
overflow_add-result c = omega (arith, cube_small c.args.k c.args.a c.requires.ticks c.requires.acceleration, c.requires.ticks)

pub overflow_mul-result-3 : goal.overflow_mul-result-3
overflow_mul-result-3 c = omega (arith, half_small c.args.k c.args.a c.requires.ticks c.requires.acceleration)

pub overflow_add-result-2 : goal.overflow_add-result-2
overflow_add-result-2 c = omega (arith, half_small c.args.k c.args.a c.requires.ticks c.requires.acceleration, c.requires.ticks)

-- a growth in its type
read : (n : ℕ) → n ≤ 20_000_000 → to_z w64 n ≡ pos n
read n h = omega (arith, ints)

speed : (k a : ℕ) → k ≤ 1000 → a ≤ 20 → k * a ≤ 20_000_000
speed k a h g = omega (arith, speed_small k a h g)

place : (k a : ℕ) → k ≤ 1000 → a ≤ 20 → (k * k * a + k) / 2 ≤ 20_000_000
place k a h g = omega (arith, cube_small k a h g, h)

double : (k a : ℕ) → k ≤ 1000 → a ≤ 20 → a * ((k * k) / 2) + k ≤ 20_000_000
double k a h g = omega (arith, half_small k a h g, h)

pub returns : goal.returns
returns c = record {
  speed = read _ (speed c.args.k c.args.a c.requires.ticks c.requires.acceleration);
  place = read _ (place c.args.k c.args.a c.requires.ticks c.requires.acceleration);
  double = read _ (double c.args.k c.args.a c.requires.ticks c.requires.acceleration);
  small_speed = speed c.args.k c.args.a c.requires.ticks c.requires.acceleration;
  small_place = place c.args.k c.args.a c.requires.ticks c.requires.acceleration;
  small_double = double c.args.k c.args.a c.requires.ticks c.requires.acceleration;
}
