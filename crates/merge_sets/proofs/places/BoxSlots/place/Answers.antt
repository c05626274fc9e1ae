use Rattle.std.proofs.Common.{◌≡◌, ◌∙◌, ◌+◌, ◌*◌, ◌≤◌, ℕ, ℤ, ◌-ℤ◌, arith, ap, subst, sym, Fits, w64, to_z, of_z}
use Rattle.std.specs.Prelude.{nat_abs}
use Rattle.std.proofs.lemmas.Int.{ints}
use Rattle.spot_terms.specs.Whole.{Within}
use Rattle.merge_sets.proofs.places.BoxSlots.place.Goals as goal
use Rattle.spot_terms.proofs.Orders.{factor_order}

abbrev steps : ℤ → ℤ → ℕ
steps z first = nat_abs (to_z w64 (of_z w64 (to_z w64 (of_z w64 z) -ℤ to_z w64 (of_z w64 first))))

steps_read : (first last z : ℤ) → nat_abs first ≤ 400_000_000 → nat_abs last ≤ 400_000_000 → Within first last z → steps z first ≡ nat_abs (z -ℤ first)
steps_read first last z h k w = omega (arith, ints, w.low, w.high)

steps_few : (first last z : ℤ) → nat_abs first ≤ 400_000_000 → nat_abs last ≤ 400_000_000 → Within first last z → steps z first ≤ 800_000_000
steps_few first last z h k w = omega (arith, ints, w.low, w.high)

place_fits : (a b rows : ℕ) → a ≤ 800_000_000 → b ≤ 800_000_000 → rows ≤ 1_000_000_000 → Fits w64 (a * rows + b)
place_fits a b rows h k l = let g : a * rows ≤ 800_000_000 * rows = factor_order a 800_000_000 rows h in omega (arith, g)

pub overflow_add-result : goal.overflow_add-result
overflow_add-result c = place_fits (steps c.args.col c.args.self.now.first_col) (steps c.args.row c.args.self.now.first_row) c.args.self.now.rows
    (steps_few c.args.self.now.first_col c.args.self.now.last_col c.args.col c.requires.near.first_col c.requires.near.last_col c.requires.cell.0)
    (steps_few c.args.self.now.first_row c.args.self.now.last_row c.args.row c.requires.near.first_row c.requires.near.last_row c.requires.cell.1)
    c.requires.near.rows

pub returns : goal.returns
returns c =
    ap (λ (z : ℕ). z * c.args.self.now.rows + steps c.args.row c.args.self.now.first_row) (steps_read c.args.self.now.first_col c.args.self.now.last_col c.args.col c.requires.near.first_col c.requires.near.last_col c.requires.cell.0)
    ∙ ap (λ (z : ℕ). nat_abs (c.args.col -ℤ c.args.self.now.first_col) * c.args.self.now.rows + z) (steps_read c.args.self.now.first_row c.args.self.now.last_row c.args.row c.requires.near.first_row c.requires.near.last_row c.requires.cell.1)
