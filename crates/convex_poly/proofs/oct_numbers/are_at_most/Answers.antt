use Rattle.std.proofs.Common.{refl, ◌<◌, ◌<ℤ◌, get_or, length, pos, arith}
use Rattle.std.proofs.lemmas.Int.{ints}
use Rattle.convex_poly.proofs.Pairs.{at_most_from, at_most_at}
use Rattle.convex_poly.proofs.oct_numbers.are_at_most.Goals as goal

pub returns-then-place-numbers : goal.returns-then-place-numbers
returns-then-place-numbers c =
    let within : c.loop-i.i < length c.args.places.now = omega arith in
    let above : get_or c.args.numbers.now c.loop-i.i (pos 0) <ℤ get_or c.args.places.now c.loop-i.i (pos 0) = omega (arith, ints) in (
      λ never. cc,
      λ h. absurd (let at = at_most_at c.args.places.now c.args.numbers.now c.loop-i.i within h in omega (arith, ints)),
    )

pub returns : goal.returns
returns c = (
  λ t. at_most_from c.args.places.now c.args.numbers.now c.requires (λ k l. c.loop-i.invariant k (omega arith)),
  λ h. refl,
)
