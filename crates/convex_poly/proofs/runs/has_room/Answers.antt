use Rattle.std.proofs.Common.{◌≡◌, ◌-ℤ◌, ◌*ℤ◌, ◌≤ℤ◌, arith, subst, sym, refl}
use Rattle.std.proofs.lemmas.Int.{ints}
use Rattle.convex_poly.proofs.Wide.{times_of, offset_of, test_at_most}
use Rattle.convex_poly.proofs.runs.has_room.Goals as goal

pub returns : goal.returns
returns c =
    let e : c.times.result ≡ c.args.rise *ℤ (c.args.to -ℤ c.args.from) =
    times_of c.times.result c.args.rise c.offset.result c.args.rise (c.args.to -ℤ c.args.from) c.times.ensures.value c.ranges.rise (record { sfits = c.offset.type_inv }) refl (offset_of c.offset.result c.args.from c.args.to c.requires.from c.requires.to c.offset.ensures.value) in (
      (λ yes. let low : c.times.result ≤ℤ c.args.room = omega (arith, ints) in subst (λ z. z ≤ℤ c.args.room) e low),
      (λ h. test_at_most c.times.result c.args.room c.times.type_inv c.ranges.room.sfits (subst (λ z. z ≤ℤ c.args.room) (sym e) h)),
    )
