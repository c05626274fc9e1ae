use Rattle.std.proofs.Common.{◌≡◌, ◌≤◌, ℤ, pos, nat_abs, ◌+ℤ◌, ◌-ℤ◌, ◌*ℤ◌, arith, ap, to_z-of_z, FitsSigned, w64}
use Rattle.std.proofs.lemmas.Int.{ints}
use Rattle.spot_terms.specs.Grid.{slot, slot_high, slot_low}
use Rattle.spot_terms.specs.Whole.{Within}
use Rattle.carve.proofs.RowPlaces.{fits_wide, fits_place, low_near}
use Rattle.carve.proofs.among.columns_of.Goals as goal

near_fits : (x : ℤ) → nat_abs x ≤ 50_000_000_000_000 → FitsSigned w64 x
near_fits x h = omega (arith, ints, h)

next_fits : (x w : ℤ) → nat_abs x ≤ 50_000_000_000_000 → Within (pos 100_000) (pos 100_000_000) w → FitsSigned w64 (x +ℤ w)
next_fits x w h k = let low = k.low in let high = k.high in omega (arith, ints, h, low, high)

end_fits : (x w : ℤ) → nat_abs x ≤ 50_000_000_000_000 → Within (pos 100_000) (pos 100_000_000) w → FitsSigned w64 (x +ℤ w -ℤ pos 1)
end_fits x w h k = let low = k.low in let high = k.high in omega (arith, ints, h, low, high)

pub overflow_mul-result : goal.overflow_mul-result
overflow_mul-result c =
    let fits_w : FitsSigned w64 c.args.grid.now.w = fits_wide _ c.requires.grid.w in
    let fits_xlo : FitsSigned w64 c.args.b.now.xlo = fits_place _ c.requires.reach.xlo in
    let fits_xhi : FitsSigned w64 c.args.b.now.xhi = fits_place _ c.requires.reach.xhi in
    let fits_first : FitsSigned w64 c.col.result = record { sfits = c.col.type_inv } in
    let first : c.col.result ≡ slot c.args.grid.now.w c.args.b.now.xlo = simp to_z-of_z at c.col.ensures in
    let low : nat_abs (slot_low c.args.grid.now.w c.col.result) ≤ 50_000_000_000_000 = rw first (low_near c.args.grid.now.w c.args.b.now.xlo c.requires.grid.w c.requires.reach.xlo) in
    let fits_low : FitsSigned w64 (c.col.result *ℤ c.args.grid.now.w) = near_fits _ low in
    simp to_z-of_z fits_low

pub overflow_mul-result-2 : goal.overflow_mul-result-2
overflow_mul-result-2 c =
    let fits_w : FitsSigned w64 c.args.grid.now.w = fits_wide _ c.requires.grid.w in
    let fits_xlo : FitsSigned w64 c.args.b.now.xlo = fits_place _ c.requires.reach.xlo in
    let fits_xhi : FitsSigned w64 c.args.b.now.xhi = fits_place _ c.requires.reach.xhi in
    let fits_first : FitsSigned w64 c.col.result = record { sfits = c.col.type_inv } in
    let first : c.col.result ≡ slot c.args.grid.now.w c.args.b.now.xlo = simp to_z-of_z at c.col.ensures in
    let low : nat_abs (slot_low c.args.grid.now.w c.col.result) ≤ 50_000_000_000_000 = rw first (low_near c.args.grid.now.w c.args.b.now.xlo c.requires.grid.w c.requires.reach.xlo) in
    let fits_low : FitsSigned w64 (c.col.result *ℤ c.args.grid.now.w) = near_fits _ low in
    let fits_last : FitsSigned w64 c.col-2.result = record { sfits = c.col-2.type_inv } in
    let last : c.col-2.result ≡ slot c.args.grid.now.w c.args.b.now.xhi = simp to_z-of_z at c.col-2.ensures in
    let high : nat_abs (slot_low c.args.grid.now.w c.col-2.result) ≤ 50_000_000_000_000 = rw last (low_near c.args.grid.now.w c.args.b.now.xhi c.requires.grid.w c.requires.reach.xhi) in
    let fits_high : FitsSigned w64 (c.col-2.result *ℤ c.args.grid.now.w) = near_fits _ high in
    let fits_next : FitsSigned w64 (c.col-2.result *ℤ c.args.grid.now.w +ℤ c.args.grid.now.w) = next_fits _ _ high c.requires.grid.w in
    let fits_end : FitsSigned w64 (c.col-2.result *ℤ c.args.grid.now.w +ℤ c.args.grid.now.w -ℤ pos 1) = end_fits _ _ high c.requires.grid.w in
    simp to_z-of_z fits_high

pub overflow_add-result : goal.overflow_add-result
overflow_add-result c =
    let fits_w : FitsSigned w64 c.args.grid.now.w = fits_wide _ c.requires.grid.w in
    let fits_xlo : FitsSigned w64 c.args.b.now.xlo = fits_place _ c.requires.reach.xlo in
    let fits_xhi : FitsSigned w64 c.args.b.now.xhi = fits_place _ c.requires.reach.xhi in
    let fits_first : FitsSigned w64 c.col.result = record { sfits = c.col.type_inv } in
    let first : c.col.result ≡ slot c.args.grid.now.w c.args.b.now.xlo = simp to_z-of_z at c.col.ensures in
    let low : nat_abs (slot_low c.args.grid.now.w c.col.result) ≤ 50_000_000_000_000 = rw first (low_near c.args.grid.now.w c.args.b.now.xlo c.requires.grid.w c.requires.reach.xlo) in
    let fits_low : FitsSigned w64 (c.col.result *ℤ c.args.grid.now.w) = near_fits _ low in
    let fits_last : FitsSigned w64 c.col-2.result = record { sfits = c.col-2.type_inv } in
    let last : c.col-2.result ≡ slot c.args.grid.now.w c.args.b.now.xhi = simp to_z-of_z at c.col-2.ensures in
    let high : nat_abs (slot_low c.args.grid.now.w c.col-2.result) ≤ 50_000_000_000_000 = rw last (low_near c.args.grid.now.w c.args.b.now.xhi c.requires.grid.w c.requires.reach.xhi) in
    let fits_high : FitsSigned w64 (c.col-2.result *ℤ c.args.grid.now.w) = near_fits _ high in
    let fits_next : FitsSigned w64 (c.col-2.result *ℤ c.args.grid.now.w +ℤ c.args.grid.now.w) = next_fits _ _ high c.requires.grid.w in
    let fits_end : FitsSigned w64 (c.col-2.result *ℤ c.args.grid.now.w +ℤ c.args.grid.now.w -ℤ pos 1) = end_fits _ _ high c.requires.grid.w in
    simp to_z-of_z fits_next

pub overflow_sub-result : goal.overflow_sub-result
overflow_sub-result c =
    let fits_w : FitsSigned w64 c.args.grid.now.w = fits_wide _ c.requires.grid.w in
    let fits_xlo : FitsSigned w64 c.args.b.now.xlo = fits_place _ c.requires.reach.xlo in
    let fits_xhi : FitsSigned w64 c.args.b.now.xhi = fits_place _ c.requires.reach.xhi in
    let fits_first : FitsSigned w64 c.col.result = record { sfits = c.col.type_inv } in
    let first : c.col.result ≡ slot c.args.grid.now.w c.args.b.now.xlo = simp to_z-of_z at c.col.ensures in
    let low : nat_abs (slot_low c.args.grid.now.w c.col.result) ≤ 50_000_000_000_000 = rw first (low_near c.args.grid.now.w c.args.b.now.xlo c.requires.grid.w c.requires.reach.xlo) in
    let fits_low : FitsSigned w64 (c.col.result *ℤ c.args.grid.now.w) = near_fits _ low in
    let fits_last : FitsSigned w64 c.col-2.result = record { sfits = c.col-2.type_inv } in
    let last : c.col-2.result ≡ slot c.args.grid.now.w c.args.b.now.xhi = simp to_z-of_z at c.col-2.ensures in
    let high : nat_abs (slot_low c.args.grid.now.w c.col-2.result) ≤ 50_000_000_000_000 = rw last (low_near c.args.grid.now.w c.args.b.now.xhi c.requires.grid.w c.requires.reach.xhi) in
    let fits_high : FitsSigned w64 (c.col-2.result *ℤ c.args.grid.now.w) = near_fits _ high in
    let fits_next : FitsSigned w64 (c.col-2.result *ℤ c.args.grid.now.w +ℤ c.args.grid.now.w) = next_fits _ _ high c.requires.grid.w in
    let fits_end : FitsSigned w64 (c.col-2.result *ℤ c.args.grid.now.w +ℤ c.args.grid.now.w -ℤ pos 1) = end_fits _ _ high c.requires.grid.w in
    simp to_z-of_z fits_end

pub returns-clause-low : goal.returns-clause-low
returns-clause-low c =
    let fits_w : FitsSigned w64 c.args.grid.now.w = fits_wide _ c.requires.grid.w in
    let fits_xlo : FitsSigned w64 c.args.b.now.xlo = fits_place _ c.requires.reach.xlo in
    let fits_xhi : FitsSigned w64 c.args.b.now.xhi = fits_place _ c.requires.reach.xhi in
    let fits_first : FitsSigned w64 c.col.result = record { sfits = c.col.type_inv } in
    let first : c.col.result ≡ slot c.args.grid.now.w c.args.b.now.xlo = simp to_z-of_z at c.col.ensures in
    let low : nat_abs (slot_low c.args.grid.now.w c.col.result) ≤ 50_000_000_000_000 = rw first (low_near c.args.grid.now.w c.args.b.now.xlo c.requires.grid.w c.requires.reach.xlo) in
    let fits_low : FitsSigned w64 (c.col.result *ℤ c.args.grid.now.w) = near_fits _ low in
    simp to_z-of_z (ap (λ (z : ℤ). slot_low c.args.grid.now.w z) first)

pub returns-clause-high : goal.returns-clause-high
returns-clause-high c =
    let fits_w : FitsSigned w64 c.args.grid.now.w = fits_wide _ c.requires.grid.w in
    let fits_xlo : FitsSigned w64 c.args.b.now.xlo = fits_place _ c.requires.reach.xlo in
    let fits_xhi : FitsSigned w64 c.args.b.now.xhi = fits_place _ c.requires.reach.xhi in
    let fits_first : FitsSigned w64 c.col.result = record { sfits = c.col.type_inv } in
    let first : c.col.result ≡ slot c.args.grid.now.w c.args.b.now.xlo = simp to_z-of_z at c.col.ensures in
    let low : nat_abs (slot_low c.args.grid.now.w c.col.result) ≤ 50_000_000_000_000 = rw first (low_near c.args.grid.now.w c.args.b.now.xlo c.requires.grid.w c.requires.reach.xlo) in
    let fits_low : FitsSigned w64 (c.col.result *ℤ c.args.grid.now.w) = near_fits _ low in
    let fits_last : FitsSigned w64 c.col-2.result = record { sfits = c.col-2.type_inv } in
    let last : c.col-2.result ≡ slot c.args.grid.now.w c.args.b.now.xhi = simp to_z-of_z at c.col-2.ensures in
    let high : nat_abs (slot_low c.args.grid.now.w c.col-2.result) ≤ 50_000_000_000_000 = rw last (low_near c.args.grid.now.w c.args.b.now.xhi c.requires.grid.w c.requires.reach.xhi) in
    let fits_high : FitsSigned w64 (c.col-2.result *ℤ c.args.grid.now.w) = near_fits _ high in
    let fits_next : FitsSigned w64 (c.col-2.result *ℤ c.args.grid.now.w +ℤ c.args.grid.now.w) = next_fits _ _ high c.requires.grid.w in
    let fits_end : FitsSigned w64 (c.col-2.result *ℤ c.args.grid.now.w +ℤ c.args.grid.now.w -ℤ pos 1) = end_fits _ _ high c.requires.grid.w in
    simp to_z-of_z (ap (λ (z : ℤ). slot_high c.args.grid.now.w z) last)
