use Rattle.std.proofs.Common.{rules, nat_abs, ◌≤◌, ◌≡◌, ◌∙◌, ℕ, ℤ, pos, ◌+◌, ◌+ℤ◌, ◌-ℤ◌, ◌≤ℤ◌, arith, refl, sym, ap, subst, to_z, of_z, to_z-of_z, FitsSigned, w64, length, vec_capacity, sum_by}
use Rattle.std.proofs.lemmas.Int.{ints}
use Rattle.spot_terms.specs.Courses.{slots_met}
use Rattle.spot_terms.specs.Grid.{slot, slot_low, slot_high, AreFreeRuns, CoverTheRest, IsRemoved}
use Rattle.spot_terms.specs.Lists.{numbers_below}
use Rattle.spot_terms.specs.RowBoxes.{slots_shared}
use Rattle.spot_terms.specs.Whole.{Within}
use Rattle.base_sets.proofs.Slots.{slots_are}
use Rattle.carve.specs.Taking.{IsTaken, TakesBetween}
use Rattle.carve.proofs.RowPlaces.{alike, fits_wide, fits_place, low_near, next_near, columns_are, columns_counted, row_exact, row_covers}
use Rattle.carve.proofs.rows.row_runs.Goals as goal

in_order : (g row low high : ℤ) → Within (pos 100_000) (pos 100_000_000) g → low ≡ slot_low g row → high ≡ slot_high g row → low ≤ℤ high
in_order g row low high w a b = let k = w.low in omega (arith, ints)

pub row_ends-low-requires-clause-low : goal.row_ends-low-requires-clause-low
row_ends-low-requires-clause-low g c =
    let fits_row : FitsSigned w64 c.args.row = c.ranges.row in
    let fits_g : FitsSigned w64 c.args.grid.now.g = fits_wide _ c.requires.grid.g in
    let fits_w : FitsSigned w64 c.args.grid.now.w = fits_wide _ c.requires.grid.w in
    let fits_xlo : FitsSigned w64 c.args.b.now.xlo = fits_place _ c.requires.reach.xlo in
    let fits_xhi : FitsSigned w64 c.args.b.now.xhi = fits_place _ c.requires.reach.xhi in
    simp to_z-of_z c.requires.row.low

pub row_ends-low-requires-clause-height : goal.row_ends-low-requires-clause-height
row_ends-low-requires-clause-height g c =
    let fits_row : FitsSigned w64 c.args.row = c.ranges.row in
    let fits_g : FitsSigned w64 c.args.grid.now.g = fits_wide _ c.requires.grid.g in
    let fits_w : FitsSigned w64 c.args.grid.now.w = fits_wide _ c.requires.grid.w in
    let fits_xlo : FitsSigned w64 c.args.b.now.xlo = fits_place _ c.requires.reach.xlo in
    let fits_xhi : FitsSigned w64 c.args.b.now.xhi = fits_place _ c.requires.reach.xhi in
    simp to_z-of_z c.requires.grid.g

pub gather-requires-clause-step : goal.gather-requires-clause-step
gather-requires-clause-step g c =
    c.requires.step

pub gather-requires-clause-height : goal.gather-requires-clause-height
gather-requires-clause-height g c =
    let fits_row : FitsSigned w64 c.args.row = c.ranges.row in
    let fits_g : FitsSigned w64 c.args.grid.now.g = fits_wide _ c.requires.grid.g in
    let fits_w : FitsSigned w64 c.args.grid.now.w = fits_wide _ c.requires.grid.w in
    let fits_xlo : FitsSigned w64 c.args.b.now.xlo = fits_place _ c.requires.reach.xlo in
    let fits_xhi : FitsSigned w64 c.args.b.now.xhi = fits_place _ c.requires.reach.xhi in
    simp to_z-of_z c.requires.grid.g

pub gather-requires-clause-ordered : goal.gather-requires-clause-ordered
gather-requires-clause-ordered g c =
    let fits_row : FitsSigned w64 c.args.row = c.ranges.row in
    let fits_g : FitsSigned w64 c.args.grid.now.g = fits_wide _ c.requires.grid.g in
    let fits_w : FitsSigned w64 c.args.grid.now.w = fits_wide _ c.requires.grid.w in
    let fits_xlo : FitsSigned w64 c.args.b.now.xlo = fits_place _ c.requires.reach.xlo in
    let fits_xhi : FitsSigned w64 c.args.b.now.xhi = fits_place _ c.requires.reach.xhi in
    let read_low : to_z w64 (of_z w64 c.row_ends-low.result.0) ≡ c.row_ends-low.result.0 = search rules in
    let read_high : to_z w64 (of_z w64 c.row_ends-low.result.1) ≡ c.row_ends-low.result.1 = search rules in
    let low : c.row_ends-low.result.0 ≡ slot_low c.args.grid.now.g c.args.row = simp to_z-of_z at c.row_ends-low.ensures.low in
    let high : c.row_ends-low.result.1 ≡ slot_high c.args.grid.now.g c.args.row = simp to_z-of_z at c.row_ends-low.ensures.high in
    rw (read_low, read_high) (in_order c.args.grid.now.g c.args.row c.row_ends-low.result.0 c.row_ends-low.result.1 c.requires.grid.g low high)

pub gather-requires-clause-low_far : goal.gather-requires-clause-low_far
gather-requires-clause-low_far g c =
    let fits_row : FitsSigned w64 c.args.row = c.ranges.row in
    let fits_g : FitsSigned w64 c.args.grid.now.g = fits_wide _ c.requires.grid.g in
    let fits_w : FitsSigned w64 c.args.grid.now.w = fits_wide _ c.requires.grid.w in
    let fits_xlo : FitsSigned w64 c.args.b.now.xlo = fits_place _ c.requires.reach.xlo in
    let fits_xhi : FitsSigned w64 c.args.b.now.xhi = fits_place _ c.requires.reach.xhi in
    let read_low : to_z w64 (of_z w64 c.row_ends-low.result.0) ≡ c.row_ends-low.result.0 = search rules in
    let read_high : to_z w64 (of_z w64 c.row_ends-low.result.1) ≡ c.row_ends-low.result.1 = search rules in
    let low : c.row_ends-low.result.0 ≡ slot_low c.args.grid.now.g c.args.row = simp to_z-of_z at c.row_ends-low.ensures.low in
    let high : c.row_ends-low.result.1 ≡ slot_high c.args.grid.now.g c.args.row = simp to_z-of_z at c.row_ends-low.ensures.high in
    subst (λ (y : ℤ). nat_abs y ≤ g.O.Occupied.far c.args.o.now) (sym (read_low ∙ low)) c.requires.row.low_far

pub gather-requires-clause-high_far : goal.gather-requires-clause-high_far
gather-requires-clause-high_far g c =
    let fits_row : FitsSigned w64 c.args.row = c.ranges.row in
    let fits_g : FitsSigned w64 c.args.grid.now.g = fits_wide _ c.requires.grid.g in
    let fits_w : FitsSigned w64 c.args.grid.now.w = fits_wide _ c.requires.grid.w in
    let fits_xlo : FitsSigned w64 c.args.b.now.xlo = fits_place _ c.requires.reach.xlo in
    let fits_xhi : FitsSigned w64 c.args.b.now.xhi = fits_place _ c.requires.reach.xhi in
    let read_low : to_z w64 (of_z w64 c.row_ends-low.result.0) ≡ c.row_ends-low.result.0 = search rules in
    let read_high : to_z w64 (of_z w64 c.row_ends-low.result.1) ≡ c.row_ends-low.result.1 = search rules in
    let low : c.row_ends-low.result.0 ≡ slot_low c.args.grid.now.g c.args.row = simp to_z-of_z at c.row_ends-low.ensures.low in
    let high : c.row_ends-low.result.1 ≡ slot_high c.args.grid.now.g c.args.row = simp to_z-of_z at c.row_ends-low.ensures.high in
    subst (λ (y : ℤ). nat_abs y ≤ g.O.Occupied.far c.args.o.now) (sym (read_high ∙ high)) c.requires.row.high_far

pub gather-requires-clause-room : goal.gather-requires-clause-room
gather-requires-clause-room g c =
    let room : c.runs.inside.room ≡ c.args.runs.now.room = ap (λ r. r.room) c.runs.view_is in
    omega (arith, c.requires.room, c.runs.invariant.0, room)

pub find_free-requires-clause-spans : goal.find_free-requires-clause-spans
find_free-requires-clause-spans g c =
    rw c.deref.ensures.value c.gather.ensures.spans

pub find_free-requires-clause-room : goal.find_free-requires-clause-room
find_free-requires-clause-room g c =
    let room : c.runs.inside.room ≡ c.args.runs.now.room = ap (λ r. r.room) c.runs.view_is in
    omega (arith, room, c.requires.room, c.runs.invariant.1, c.gather.ensures.few, ap length c.deref.ensures.value)

pub invariant_of-runs : goal.invariant_of-runs
invariant_of-runs g c =
    (omega (arith, c.runs.invariant.0, c.gather.ensures.capacity), omega (arith, c.runs.invariant.1, c.find_free.ensures.capacity))

pub returns-clause-exact : goal.returns-clause-exact
returns-clause-exact g c =
    let fits_row : FitsSigned w64 c.args.row = c.ranges.row in
    let fits_g : FitsSigned w64 c.args.grid.now.g = fits_wide _ c.requires.grid.g in
    let read_low : to_z w64 (of_z w64 c.row_ends-low.result.0) ≡ c.row_ends-low.result.0 = search rules in
    let read_high : to_z w64 (of_z w64 c.row_ends-low.result.1) ≡ c.row_ends-low.result.1 = search rules in
    let low : c.row_ends-low.result.0 ≡ slot_low c.args.grid.now.g c.args.row = simp to_z-of_z at c.row_ends-low.ensures.low in
    let high : c.row_ends-low.result.1 ≡ slot_high c.args.grid.now.g c.args.row = simp to_z-of_z at c.row_ends-low.ensures.high in
    let exact : TakesBetween (g.O.Occupied.count c.args.o.now c.args.step) (g.O.Occupied.hits c.args.o.now c.args.step) (to_z w64 (of_z w64 c.row_ends-low.result.0)) (to_z w64 (of_z w64 c.row_ends-low.result.1)) c.gather.new.spans.items = c.gather.ensures.exact in
    row_exact (g.O.Occupied.count c.args.o.now c.args.step) (g.O.Occupied.hits c.args.o.now c.args.step) c.args.grid.now.g c.args.row _ _ c.gather.new.spans.items c.deref.result.now c.args.grid.now.w (slot c.args.grid.now.w c.args.b.now.xlo) (slot c.args.grid.now.w c.args.b.now.xhi) c.find_free.new.free.items
    (read_low ∙ low) (read_high ∙ high) exact c.deref.ensures.value c.find_free.ensures.exact

pub returns-clause-covers : goal.returns-clause-covers
returns-clause-covers g c =
    let fits_row : FitsSigned w64 c.args.row = c.ranges.row in
    let fits_g : FitsSigned w64 c.args.grid.now.g = fits_wide _ c.requires.grid.g in
    let read_low : to_z w64 (of_z w64 c.row_ends-low.result.0) ≡ c.row_ends-low.result.0 = search rules in
    let read_high : to_z w64 (of_z w64 c.row_ends-low.result.1) ≡ c.row_ends-low.result.1 = search rules in
    let low : c.row_ends-low.result.0 ≡ slot_low c.args.grid.now.g c.args.row = simp to_z-of_z at c.row_ends-low.ensures.low in
    let high : c.row_ends-low.result.1 ≡ slot_high c.args.grid.now.g c.args.row = simp to_z-of_z at c.row_ends-low.ensures.high in
    let exact : TakesBetween (g.O.Occupied.count c.args.o.now c.args.step) (g.O.Occupied.hits c.args.o.now c.args.step) (to_z w64 (of_z w64 c.row_ends-low.result.0)) (to_z w64 (of_z w64 c.row_ends-low.result.1)) c.gather.new.spans.items = c.gather.ensures.exact in
    row_covers (g.O.Occupied.count c.args.o.now c.args.step) (g.O.Occupied.hits c.args.o.now c.args.step) c.args.grid.now.g c.args.row _ _ c.gather.new.spans.items c.deref.result.now c.args.grid.now.w (slot c.args.grid.now.w c.args.b.now.xlo) (slot c.args.grid.now.w c.args.b.now.xhi) c.find_free.new.free.items
    (read_low ∙ low) (read_high ∙ high) exact c.deref.ensures.value c.find_free.ensures.covers

pub returns-clause-few : goal.returns-clause-few
returns-clause-few g c =
    let fits_row : FitsSigned w64 c.args.row = c.ranges.row in
    let fits_g : FitsSigned w64 c.args.grid.now.g = fits_wide _ c.requires.grid.g in
    let read_low : to_z w64 (of_z w64 c.row_ends-low.result.0) ≡ c.row_ends-low.result.0 = search rules in
    let read_high : to_z w64 (of_z w64 c.row_ends-low.result.1) ≡ c.row_ends-low.result.1 = search rules in
    let low : c.row_ends-low.result.0 ≡ slot_low c.args.grid.now.g c.args.row = simp to_z-of_z at c.row_ends-low.ensures.low in
    let high : c.row_ends-low.result.1 ≡ slot_high c.args.grid.now.g c.args.row = simp to_z-of_z at c.row_ends-low.ensures.high in
    let same_g : to_z w64 (of_z w64 c.args.grid.now.g) ≡ c.args.grid.now.g = to_z-of_z fits_g in
    let met = alike (g.O.Occupied.range c.args.o.now c.args.step) _ _ _ _ _ _ _ _ same_g (read_low ∙ low) (read_high ∙ high) c.gather.ensures.met in
    omega (arith, c.find_free.ensures.few, met, ap length c.deref.ensures.value)

pub returns-clause-room : goal.returns-clause-room
returns-clause-room g c =
    ap (λ r. r.room) c.runs.view_is
