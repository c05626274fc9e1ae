use Rattle.std.proofs.Common.{◌≡◌, ◌∙◌, ◌≤◌, ◌<◌, ◌+◌, ℕ, ℤ, ◌+ℤ◌, ◌<ℤ◌, pos, List, arith, refl, ap, sym, subst, length, to_z-of_z, FitsSigned, w64}
use Rattle.std.proofs.lemmas.Int.{ints}
use Rattle.spot_terms.specs.Courses.{slots_met}
use Rattle.spot_terms.specs.Grid.{slot, slot_high, slot_low, IsRemoved}
use Rattle.spot_terms.specs.RowBoxes.{runs_bound}
use Rattle.spot_terms.specs.Whole.{Within}
use Rattle.base_sets.specs.Values.{rect_of_box}
use Rattle.carve.specs.Taking.{IsTaken}
use Rattle.carve.proofs.AmongColumns.{cover_among, runs_among, taken_among}
use Rattle.carve.proofs.RowPlaces.{fits_wide, fits_place}
use Rattle.area_laws.proofs.Arguments.{row_near}
use Rattle.area_run.specs.Plans.{course_of}
use Rattle.area_run.specs.Rows.{AreRunsOf}
use Rattle.area_run.proofs.Listing.{no_rows, more_rows}
use Rattle.area_run.proofs.RowCodes.{runs_of, row_room, all_rows, low_is}
use Rattle.area_run.proofs.rows.list_rows.Goals as goal

pub gather-requires-clause-near : goal.gather-requires-clause-near
gather-requires-clause-near g c = λ row among.
    row_near (g.O.Occupied.far c.args.o.now) c.args.plan.now.grid.g c.args.b.now.ylo c.args.b.now.yhi row c.requires.plan.grid.g c.requires.near.ylo c.requires.near.yhi (omega (arith, c.requires.far)) among

pub loop-j-init : goal.loop-j-init
loop-j-init g c = record {
  rows = no_rows (course_of c.args.plan.now) c.args.step (g.O.Occupied.count c.args.o.now c.args.step) (g.O.Occupied.hits c.args.o.now c.args.step) (g.O.Occupied.range c.args.o.now c.args.step) c.clear.new.self.items c.clear-2.new.self.items c.clear.ensures.items c.clear-2.ensures.items;
  room = refl;
  capacity = let k = c.clear.ensures.capacity in omega (arith, k);
  ends_capacity = let k = c.clear-2.ensures.capacity in omega (arith, k);
}

positive : (w : ℤ) → Within (pos 100_000) (pos 100_000_000) w → pos 0 <ℤ w
positive w h = let k = h.low in omega (arith, ints, k)

within : (a b c d : ℕ) → a ≤ b + c → c ≤ d → a ≤ b + d
within a b c d h k = omega (arith, h, k)

pub row_runs-requires-clause-row : goal.row_runs-requires-clause-row
row_runs-requires-clause-row g c =
    let fits_g : FitsSigned w64 c.args.plan.now.grid.g = fits_wide _ c.requires.plan.grid.g in
    let fits_lo : FitsSigned w64 c.args.b.now.ylo = fits_place _ c.requires.reach.ylo in
    let fits_hi : FitsSigned w64 c.args.b.now.yhi = fits_place _ c.requires.reach.yhi in
    let count : c.slots_met-j-end.result ≡ slots_met c.args.plan.now.grid.g c.args.b.now.ylo c.args.b.now.yhi = simp to_z-of_z at c.slots_met-j-end.ensures.value in
    let inside : c.loop-j.j < slots_met c.args.plan.now.grid.g c.args.b.now.ylo c.args.b.now.yhi = omega (arith, c.loop-j-test.true, count) in
    omega (arith, inside, c.gather.ensures.count)

pub row_runs-requires-clause-room : goal.row_runs-requires-clause-room
row_runs-requires-clause-room g c =
    omega (arith, c.loop-j.invariant.room, c.gather.ensures.pieces, c.requires.room)

pub push_row-requires-clause-room : goal.push_row-requires-clause-room
push_row-requires-clause-room g c =
    let fits_g : FitsSigned w64 c.args.plan.now.grid.g = fits_wide _ c.requires.plan.grid.g in
    let fits_lo : FitsSigned w64 c.args.b.now.ylo = fits_place _ c.requires.reach.ylo in
    let fits_hi : FitsSigned w64 c.args.b.now.yhi = fits_place _ c.requires.reach.yhi in
    let count : c.slots_met-j-end.result ≡ slots_met c.args.plan.now.grid.g c.args.b.now.ylo c.args.b.now.yhi = simp to_z-of_z at c.slots_met-j-end.ensures.value in
    let inside : c.loop-j.j < slots_met c.args.plan.now.grid.g c.args.b.now.ylo c.args.b.now.yhi = omega (arith, c.loop-j-test.true, count) in
    let hits = g.O.Occupied.hits c.args.o.now c.args.step in
    let row : ℤ = slot c.args.plan.now.grid.g c.args.b.now.ylo +ℤ pos c.loop-j.j in
    let has = c.gather.ensures.taken c.loop-j.j (omega (arith, inside, c.gather.ensures.count)) in
    let few : length c.row_runs.new.runs.runs ≤ runs_bound c.args.plan.now.grid.w c.args.plan.now.grid.g (rect_of_box c.args.b.now) (g.O.Occupied.count c.args.o.now c.args.step) (g.O.Occupied.range c.args.o.now c.args.step) row =
    within _ _ _ _ (c.row_runs.ensures.few has.spans has.linked) has.taken.met in
    let are = runs_of c.args.plan.now c.args.step (g.O.Occupied.count c.args.o.now c.args.step) (g.O.Occupied.hits c.args.o.now c.args.step) (g.O.Occupied.range c.args.o.now c.args.step) c.args.b.now c.requires.exact c.requires.reach c.requires.near c.requires.plan.grid row c.row_runs.new.runs.runs
    (runs_among (IsRemoved (g.O.Occupied.count c.args.o.now c.args.step) hits c.args.plan.now.grid.g row) (IsTaken has.spans) c.args.plan.now.grid.w (slot c.args.plan.now.grid.w c.args.b.now.xlo) (slot c.args.plan.now.grid.w c.args.b.now.xhi) c.row_runs.new.runs.runs (positive _ c.requires.plan.grid.w)
    (taken_among (g.O.Occupied.count c.args.o.now c.args.step) hits (slot_low c.args.plan.now.grid.w (slot c.args.plan.now.grid.w c.args.b.now.xlo)) (slot_high c.args.plan.now.grid.w (slot c.args.plan.now.grid.w c.args.b.now.xhi)) c.args.plan.now.grid.g row has.spans has.taken.exact)
    (c.row_runs.ensures.exact has.spans has.linked))
    (cover_among (IsRemoved (g.O.Occupied.count c.args.o.now c.args.step) hits c.args.plan.now.grid.g row) (IsTaken has.spans) c.args.plan.now.grid.w (slot c.args.plan.now.grid.w c.args.b.now.xlo) (slot c.args.plan.now.grid.w c.args.b.now.xhi) c.row_runs.new.runs.runs (positive _ c.requires.plan.grid.w)
    (taken_among (g.O.Occupied.count c.args.o.now c.args.step) hits (slot_low c.args.plan.now.grid.w (slot c.args.plan.now.grid.w c.args.b.now.xlo)) (slot_high c.args.plan.now.grid.w (slot c.args.plan.now.grid.w c.args.b.now.xhi)) c.args.plan.now.grid.g row has.spans has.taken.exact)
    (c.row_runs.ensures.covers has.spans has.linked))
    few in
    let room = row_room c.args.plan.now c.args.step (g.O.Occupied.count c.args.o.now c.args.step) (g.O.Occupied.hits c.args.o.now c.args.step) (g.O.Occupied.range c.args.o.now c.args.step) c.args.b.now c.requires.exact c.requires.reach c.requires.near c.requires.plan.grid c.loop-j.free.items c.row_runs.new.runs.runs c.loop-j.ends.items c.loop-j.j _ row c.loop-j.invariant.rows refl are inside c.requires.boxes in
    let long : length c.list.result.now ≡ length c.row_runs.new.runs.runs = ap length c.list.ensures in
    omega (arith, room, long, c.loop-j.invariant.capacity)

pub push_row-requires-clause-row : goal.push_row-requires-clause-row
push_row-requires-clause-row g c =
    let fits_g : FitsSigned w64 c.args.plan.now.grid.g = fits_wide _ c.requires.plan.grid.g in
    let fits_lo : FitsSigned w64 c.args.b.now.ylo = fits_place _ c.requires.reach.ylo in
    let fits_hi : FitsSigned w64 c.args.b.now.yhi = fits_place _ c.requires.reach.yhi in
    let count : c.slots_met-j-end.result ≡ slots_met c.args.plan.now.grid.g c.args.b.now.ylo c.args.b.now.yhi = simp to_z-of_z at c.slots_met-j-end.ensures.value in
    let inside : c.loop-j.j < slots_met c.args.plan.now.grid.g c.args.b.now.ylo c.args.b.now.yhi = omega (arith, c.loop-j-test.true, count) in
    let counted = c.loop-j.invariant.rows.counted in
    omega (arith, inside, counted, c.requires.rows, c.loop-j.invariant.ends_capacity)

pub loop-j-preserved : goal.loop-j-preserved
loop-j-preserved g c =
    let fits_g : FitsSigned w64 c.args.plan.now.grid.g = fits_wide _ c.requires.plan.grid.g in
    let fits_lo : FitsSigned w64 c.args.b.now.ylo = fits_place _ c.requires.reach.ylo in
    let fits_hi : FitsSigned w64 c.args.b.now.yhi = fits_place _ c.requires.reach.yhi in
    let count : c.slots_met-j-end.result ≡ slots_met c.args.plan.now.grid.g c.args.b.now.ylo c.args.b.now.yhi = simp to_z-of_z at c.slots_met-j-end.ensures.value in
    let inside : c.loop-j.j < slots_met c.args.plan.now.grid.g c.args.b.now.ylo c.args.b.now.yhi = omega (arith, c.loop-j-test.true, count) in
    let hits = g.O.Occupied.hits c.args.o.now c.args.step in
    let row : ℤ = slot c.args.plan.now.grid.g c.args.b.now.ylo +ℤ pos c.loop-j.j in
    let has = c.gather.ensures.taken c.loop-j.j (omega (arith, inside, c.gather.ensures.count)) in
    let few : length c.row_runs.new.runs.runs ≤ runs_bound c.args.plan.now.grid.w c.args.plan.now.grid.g (rect_of_box c.args.b.now) (g.O.Occupied.count c.args.o.now c.args.step) (g.O.Occupied.range c.args.o.now c.args.step) row =
    within _ _ _ _ (c.row_runs.ensures.few has.spans has.linked) has.taken.met in
    let are = runs_of c.args.plan.now c.args.step (g.O.Occupied.count c.args.o.now c.args.step) (g.O.Occupied.hits c.args.o.now c.args.step) (g.O.Occupied.range c.args.o.now c.args.step) c.args.b.now c.requires.exact c.requires.reach c.requires.near c.requires.plan.grid row c.row_runs.new.runs.runs
    (runs_among (IsRemoved (g.O.Occupied.count c.args.o.now c.args.step) hits c.args.plan.now.grid.g row) (IsTaken has.spans) c.args.plan.now.grid.w (slot c.args.plan.now.grid.w c.args.b.now.xlo) (slot c.args.plan.now.grid.w c.args.b.now.xhi) c.row_runs.new.runs.runs (positive _ c.requires.plan.grid.w)
    (taken_among (g.O.Occupied.count c.args.o.now c.args.step) hits (slot_low c.args.plan.now.grid.w (slot c.args.plan.now.grid.w c.args.b.now.xlo)) (slot_high c.args.plan.now.grid.w (slot c.args.plan.now.grid.w c.args.b.now.xhi)) c.args.plan.now.grid.g row has.spans has.taken.exact)
    (c.row_runs.ensures.exact has.spans has.linked))
    (cover_among (IsRemoved (g.O.Occupied.count c.args.o.now c.args.step) hits c.args.plan.now.grid.g row) (IsTaken has.spans) c.args.plan.now.grid.w (slot c.args.plan.now.grid.w c.args.b.now.xlo) (slot c.args.plan.now.grid.w c.args.b.now.xhi) c.row_runs.new.runs.runs (positive _ c.requires.plan.grid.w)
    (taken_among (g.O.Occupied.count c.args.o.now c.args.step) hits (slot_low c.args.plan.now.grid.w (slot c.args.plan.now.grid.w c.args.b.now.xlo)) (slot_high c.args.plan.now.grid.w (slot c.args.plan.now.grid.w c.args.b.now.xhi)) c.args.plan.now.grid.g row has.spans has.taken.exact)
    (c.row_runs.ensures.covers has.spans has.linked))
    few in
    let at = ap (λ (z : ℤ). z +ℤ pos c.loop-j.j) (low_is c.args.plan.now c.args.step (g.O.Occupied.count c.args.o.now c.args.step) (g.O.Occupied.hits c.args.o.now c.args.step) (g.O.Occupied.range c.args.o.now c.args.step) c.args.b.now c.requires.exact c.requires.reach c.requires.near c.requires.plan.grid) in
    let here = subst (λ (zs : List (ℤ × ℤ)). AreRunsOf (course_of c.args.plan.now) c.args.step (g.O.Occupied.count c.args.o.now c.args.step) (g.O.Occupied.hits c.args.o.now c.args.step) (g.O.Occupied.range c.args.o.now c.args.step) row zs) (sym c.list.ensures) are in
    record {
      rows = more_rows (course_of c.args.plan.now) c.args.step (g.O.Occupied.count c.args.o.now c.args.step) (g.O.Occupied.hits c.args.o.now c.args.step) (g.O.Occupied.range c.args.o.now c.args.step) c.loop-j.free.items c.push_row.new.free.items c.list.result.now c.loop-j.ends.items c.push_row.new.ends.items c.loop-j.j row c.loop-j.invariant.rows at here c.push_row.ensures.free c.push_row.ensures.ends;
      room = c.row_runs.ensures.room ∙ c.loop-j.invariant.room;
      capacity = let k = c.push_row.ensures.capacity in omega (arith, k, c.loop-j.invariant.capacity);
      ends_capacity = let k = c.push_row.ensures.rows in omega (arith, k, c.loop-j.invariant.ends_capacity);
    }

pub returns-clause-listed : goal.returns-clause-listed
returns-clause-listed g c =
    let fits_g : FitsSigned w64 c.args.plan.now.grid.g = fits_wide _ c.requires.plan.grid.g in
    let fits_lo : FitsSigned w64 c.args.b.now.ylo = fits_place _ c.requires.reach.ylo in
    let fits_hi : FitsSigned w64 c.args.b.now.yhi = fits_place _ c.requires.reach.yhi in
    let count : c.slots_met-j-end.result ≡ slots_met c.args.plan.now.grid.g c.args.b.now.ylo c.args.b.now.yhi = simp to_z-of_z at c.slots_met-j-end.ensures.value in
    all_rows c.args.plan.now c.args.step (g.O.Occupied.count c.args.o.now c.args.step) (g.O.Occupied.hits c.args.o.now c.args.step) (g.O.Occupied.range c.args.o.now c.args.step) c.args.b.now c.requires.exact c.requires.reach c.requires.near c.requires.plan.grid c.loop-j.free.items c.loop-j.ends.items c.loop-j.j (let l = c.loop-j-test.false in let k = c.loop-j.auto.j-end in omega (arith, l, k, count)) c.loop-j.invariant.rows

pub returns-clause-room : goal.returns-clause-room
returns-clause-room g c =
    c.loop-j.invariant.room
