use Rattle.std.proofs.Common.{rules, ◌≡◌, ℕ, ℤ, pos, arith, refl, List, [], ◌∷◌}
use Rattle.std.proofs.lemmas.Int.{ints}
use Rattle.merge_sets.specs.Cells.{AreSound}
use Rattle.merge_sets.proofs.planes.zero_plane.Goals as goal

abbrev zeros : List ℤ
zeros = pos 0 ∷ pos 0 ∷ pos 0 ∷ pos 0 ∷ pos 0 ∷ pos 0 ∷ pos 0 ∷ pos 0 ∷ []

zeros_sound : (k : ℕ) → AreSound k zeros
zeros_sound k = record {
  eight = record {
    count = refl;
    range = record { n0 = omega arith; n1 = omega arith; n2 = omega arith; n3 = omega arith; n4 = omega arith; n5 = omega arith; n6 = omega arith; n7 = omega arith };
  };
  order = record {
    n0 = omega (arith, ints);
    n1 = omega (arith, ints);
    n2 = omega (arith, ints);
    n3 = omega (arith, ints);
    n4 = omega (arith, ints);
    n5 = omega (arith, ints);
    n6 = omega (arith, ints);
    n7 = omega (arith, ints);
    n04 = omega (arith, ints);
    n15 = omega (arith, ints);
    n26 = omega (arith, ints);
    n37 = omega (arith, ints);
  };
}

pub polygon_of-requires-clause-sound : goal.polygon_of-requires-clause-sound
polygon_of-requires-clause-sound c = zeros_sound c.args.k
