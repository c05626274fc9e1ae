use Rattle.std.proofs.Common.{◌≡◌, arith, sym, subst, to_z-of_z, FitsSigned, w64}
use Rattle.std.proofs.lemmas.Int.{ints}
use Rattle.std.specs.List.{AllByRecursion}
use Rattle.spot_terms.specs.Reach.{disc_numbers}
use Rattle.spot_terms.specs.Whole.{SizeAtMost}
use Rattle.participants.proofs.Octagons.{disc_small}
use Rattle.participants.proofs.prediction.octagon_of.Goals as goal

pub returns : goal.returns
returns c =
    let small_x = c.requires.x in
    let small_y = c.requires.y in
    let fits_x : FitsSigned w64 c.args.f.now.x = omega (arith, ints) in
    let fits_y : FitsSigned w64 c.args.f.now.y = omega (arith, ints) in
    let is : c.octagon_at.result.n ≡ disc_numbers (record { x = c.args.f.now.x; y = c.args.f.now.y }) c.args.f.now.enclosing = simp to_z-of_z at c.octagon_at.ensures.value in record {
      value = is;
      small = subst (AllByRecursion (SizeAtMost 100_000_000_000_000)) (sym is) (disc_small (record { x = c.args.f.now.x; y = c.args.f.now.y }) c.args.f.now.enclosing small_x small_y (let r = c.requires.enclosing in omega (arith, r)));
    }
