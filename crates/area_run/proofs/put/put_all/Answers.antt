use Rattle.std.proofs.Common.{◌≡◌, ◌∙◌, ◌≤◌, ◌<◌, ℕ, ℤ, ◌+ℤ◌, pos, arith, refl, ap, sym, subst, w64, to_z, to_z-of_z, FitsSigned}
use Rattle.std.specs.Prelude.{nat_abs}
use Rattle.std.proofs.lemmas.Int.{ints}
use Rattle.spot_terms.specs.Courses.{slots_met}
use Rattle.spot_terms.specs.Grid.{slot}
use Rattle.spot_terms.specs.Whole.{Within}
use Rattle.carve.proofs.RowPlaces.{fits_place, fits_wide}
use Rattle.area_run.specs.Stages.{Advances, HasRoom, HasSetsBefore}
use Rattle.spot_terms.proofs.Orders.{plus_zero}
use Rattle.area_run.proofs.Putting.{column_put, sets_before_at}
use Rattle.carve.proofs.RowNumbers.{read, number_back, number_fits}
use Rattle.area_run.proofs.RowCodes.{left_small, among_columns, behind_columns}
use Rattle.area_run.proofs.put.put_all.Goals as goal

pub loop-i-init : goal.loop-i-init
loop-i-init g c = record {
  advances = λ before filled sets. subst (λ (z : ℤ). Rattle.area_laws.specs.CellSets.AreSetsBefore (Rattle.area_run.specs.Plans.course_of c.args.at.now.plan) c.args.at.now.step before (g.O.Occupied.count c.args.at.now.o.now c.args.at.now.step) (g.O.Occupied.hits c.args.at.now.o.now c.args.at.now.step) z (slot c.args.at.now.plan.grid.g c.args.at.now.b.ylo) c.args.out.now.sets) (sym (plus_zero _)) sets;
  ticks = refl;
  planes = refl;
  room = refl;
}

pub overflow_add-first : goal.overflow_add-first
overflow_add-first g c =
    let fits_w : FitsSigned w64 c.args.at.now.plan.grid.w = fits_wide _ c.requires.stage.plan_is.grid.w in
    let fits_lo : FitsSigned w64 c.args.at.now.b.xlo = fits_place _ c.requires.stage.reach.xlo in
    let fits_hi : FitsSigned w64 c.args.at.now.b.xhi = fits_place _ c.requires.stage.reach.xhi in
    let first : c.col-first.result ≡ slot c.args.at.now.plan.grid.w c.args.at.now.b.xlo = simp to_z-of_z at c.col-first.ensures in
    let count : c.slots_met-count.result ≡ slots_met c.args.at.now.plan.grid.w c.args.at.now.b.xlo c.args.at.now.b.xhi = simp to_z-of_z at c.slots_met-count.ensures.value in
    let few = c.slots_met-count.ensures.few in
    let small : nat_abs c.col-first.result ≤ 400_000_000 = subst (λ (z : ℤ). nat_abs z ≤ 400_000_000) (sym first) (left_small c.args.at.now.plan c.args.at.now.step (g.O.Occupied.count c.args.at.now.o.now c.args.at.now.step) (g.O.Occupied.hits c.args.at.now.o.now c.args.at.now.step) (g.O.Occupied.range c.args.at.now.o.now c.args.at.now.step) c.args.at.now.b c.requires.stage.exact c.requires.stage.reach c.requires.stage.near c.requires.stage.plan_is.grid) in
    number_fits c.col-first.result c.loop-i.i small (omega (arith, c.loop-i-test.true, few))

pub put_column-requires-clause-col : goal.put_column-requires-clause-col
put_column-requires-clause-col g c =
    let fits_w : FitsSigned w64 c.args.at.now.plan.grid.w = fits_wide _ c.requires.stage.plan_is.grid.w in
    let fits_lo : FitsSigned w64 c.args.at.now.b.xlo = fits_place _ c.requires.stage.reach.xlo in
    let fits_hi : FitsSigned w64 c.args.at.now.b.xhi = fits_place _ c.requires.stage.reach.xhi in
    let first : c.col-first.result ≡ slot c.args.at.now.plan.grid.w c.args.at.now.b.xlo = simp to_z-of_z at c.col-first.ensures in
    let count : c.slots_met-count.result ≡ slots_met c.args.at.now.plan.grid.w c.args.at.now.b.xlo c.args.at.now.b.xhi = simp to_z-of_z at c.slots_met-count.ensures.value in
    let few = c.slots_met-count.ensures.few in
    let small : nat_abs c.col-first.result ≤ 400_000_000 = subst (λ (z : ℤ). nat_abs z ≤ 400_000_000) (sym first) (left_small c.args.at.now.plan c.args.at.now.step (g.O.Occupied.count c.args.at.now.o.now c.args.at.now.step) (g.O.Occupied.hits c.args.at.now.o.now c.args.at.now.step) (g.O.Occupied.range c.args.at.now.o.now c.args.at.now.step) c.args.at.now.b c.requires.stage.exact c.requires.stage.reach c.requires.stage.near c.requires.stage.plan_is.grid) in
    let inside : c.loop-i.i < slots_met c.args.at.now.plan.grid.w c.args.at.now.b.xlo c.args.at.now.b.xhi = omega (arith, c.loop-i-test.true, count) in
    let at : read (read c.col-first.result +ℤ to_z w64 c.loop-i.i) ≡ slot c.args.at.now.plan.grid.w c.args.at.now.b.xlo +ℤ pos c.loop-i.i =
    number_back c.col-first.result c.loop-i.i small (omega (arith, c.loop-i-test.true, few)) ∙ ap (λ (z : ℤ). z +ℤ pos c.loop-i.i) first in
    subst (λ (z : ℤ). Within (slot c.args.at.now.plan.grid.w c.args.at.now.b.xlo) (slot c.args.at.now.plan.grid.w c.args.at.now.b.xhi) z) (sym at) (among_columns c.args.at.now.plan c.args.at.now.step (g.O.Occupied.count c.args.at.now.o.now c.args.at.now.step) (g.O.Occupied.hits c.args.at.now.o.now c.args.at.now.step) (g.O.Occupied.range c.args.at.now.o.now c.args.at.now.step) c.args.at.now.b c.requires.stage.exact c.requires.stage.reach c.requires.stage.near c.requires.stage.plan_is.grid c.loop-i.i inside)

pub put_column-requires-clause-begun : goal.put_column-requires-clause-begun
put_column-requires-clause-begun g c =
    let fits_w : FitsSigned w64 c.args.at.now.plan.grid.w = fits_wide _ c.requires.stage.plan_is.grid.w in
    let fits_lo : FitsSigned w64 c.args.at.now.b.xlo = fits_place _ c.requires.stage.reach.xlo in
    let fits_hi : FitsSigned w64 c.args.at.now.b.xhi = fits_place _ c.requires.stage.reach.xhi in
    let first : c.col-first.result ≡ slot c.args.at.now.plan.grid.w c.args.at.now.b.xlo = simp to_z-of_z at c.col-first.ensures in
    let count : c.slots_met-count.result ≡ slots_met c.args.at.now.plan.grid.w c.args.at.now.b.xlo c.args.at.now.b.xhi = simp to_z-of_z at c.slots_met-count.ensures.value in
    let few = c.slots_met-count.ensures.few in
    let small : nat_abs c.col-first.result ≤ 400_000_000 = subst (λ (z : ℤ). nat_abs z ≤ 400_000_000) (sym first) (left_small c.args.at.now.plan c.args.at.now.step (g.O.Occupied.count c.args.at.now.o.now c.args.at.now.step) (g.O.Occupied.hits c.args.at.now.o.now c.args.at.now.step) (g.O.Occupied.range c.args.at.now.o.now c.args.at.now.step) c.args.at.now.b c.requires.stage.exact c.requires.stage.reach c.requires.stage.near c.requires.stage.plan_is.grid) in
    let inside : c.loop-i.i < slots_met c.args.at.now.plan.grid.w c.args.at.now.b.xlo c.args.at.now.b.xhi = omega (arith, c.loop-i-test.true, count) in
    let at : read (read c.col-first.result +ℤ to_z w64 c.loop-i.i) ≡ slot c.args.at.now.plan.grid.w c.args.at.now.b.xlo +ℤ pos c.loop-i.i =
    number_back c.col-first.result c.loop-i.i small (omega (arith, c.loop-i-test.true, few)) ∙ ap (λ (z : ℤ). z +ℤ pos c.loop-i.i) first in
    subst (λ (z : ℤ). HasSetsBefore c.args.at.now.plan c.args.at.now.step (g.O.Occupied.count c.args.at.now.o.now c.args.at.now.step) (g.O.Occupied.hits c.args.at.now.o.now c.args.at.now.step) (g.O.Occupied.range c.args.at.now.o.now c.args.at.now.step) c.args.table.now z (slot c.args.at.now.plan.grid.g c.args.at.now.b.ylo) c.loop-i.out.sets) (sym at)
    (sets_before_at c.args.at.now.plan c.args.at.now.step (g.O.Occupied.count c.args.at.now.o.now c.args.at.now.step) (g.O.Occupied.hits c.args.at.now.o.now c.args.at.now.step) (g.O.Occupied.range c.args.at.now.o.now c.args.at.now.step) c.args.table.now c.requires.stage.plan_is.grid (slot c.args.at.now.plan.grid.w c.args.at.now.b.xlo) (slot c.args.at.now.plan.grid.g c.args.at.now.b.ylo) _ (slot c.args.at.now.plan.grid.g c.args.at.now.b.ylo) c.args.out.now.sets c.loop-i.out.sets c.requires.begun c.loop-i.invariant.advances)

pub put_column-requires-clause-room : goal.put_column-requires-clause-room
put_column-requires-clause-room g c = subst (λ (n : ℕ). HasRoom c.args.at.now.plan c.args.at.now.step (g.O.Occupied.count c.args.at.now.o.now c.args.at.now.step) (g.O.Occupied.hits c.args.at.now.o.now c.args.at.now.step) (g.O.Occupied.range c.args.at.now.o.now c.args.at.now.step) n) (sym c.loop-i.invariant.room) c.requires.room

pub loop-i-preserved : goal.loop-i-preserved
loop-i-preserved g c =
    let fits_w : FitsSigned w64 c.args.at.now.plan.grid.w = fits_wide _ c.requires.stage.plan_is.grid.w in
    let fits_lo : FitsSigned w64 c.args.at.now.b.xlo = fits_place _ c.requires.stage.reach.xlo in
    let fits_hi : FitsSigned w64 c.args.at.now.b.xhi = fits_place _ c.requires.stage.reach.xhi in
    let first : c.col-first.result ≡ slot c.args.at.now.plan.grid.w c.args.at.now.b.xlo = simp to_z-of_z at c.col-first.ensures in
    let count : c.slots_met-count.result ≡ slots_met c.args.at.now.plan.grid.w c.args.at.now.b.xlo c.args.at.now.b.xhi = simp to_z-of_z at c.slots_met-count.ensures.value in
    let few = c.slots_met-count.ensures.few in
    let small : nat_abs c.col-first.result ≤ 400_000_000 = subst (λ (z : ℤ). nat_abs z ≤ 400_000_000) (sym first) (left_small c.args.at.now.plan c.args.at.now.step (g.O.Occupied.count c.args.at.now.o.now c.args.at.now.step) (g.O.Occupied.hits c.args.at.now.o.now c.args.at.now.step) (g.O.Occupied.range c.args.at.now.o.now c.args.at.now.step) c.args.at.now.b c.requires.stage.exact c.requires.stage.reach c.requires.stage.near c.requires.stage.plan_is.grid) in
    let inside : c.loop-i.i < slots_met c.args.at.now.plan.grid.w c.args.at.now.b.xlo c.args.at.now.b.xhi = omega (arith, c.loop-i-test.true, count) in
    let at : read (read c.col-first.result +ℤ to_z w64 c.loop-i.i) ≡ slot c.args.at.now.plan.grid.w c.args.at.now.b.xlo +ℤ pos c.loop-i.i =
    number_back c.col-first.result c.loop-i.i small (omega (arith, c.loop-i-test.true, few)) ∙ ap (λ (z : ℤ). z +ℤ pos c.loop-i.i) first in
    record {
      advances = column_put c.args.at.now.plan c.args.at.now.step (g.O.Occupied.count c.args.at.now.o.now c.args.at.now.step) (g.O.Occupied.hits c.args.at.now.o.now c.args.at.now.step) (g.O.Occupied.range c.args.at.now.o.now c.args.at.now.step) c.args.table.now c.requires.stage.plan_is.grid (read (read c.col-first.result +ℤ to_z w64 c.loop-i.i)) (slot c.args.at.now.plan.grid.w c.args.at.now.b.xlo) (slot c.args.at.now.plan.grid.g c.args.at.now.b.ylo) c.loop-i.i c.args.out.now.sets c.loop-i.out.sets c.put_column.new.out.sets at c.loop-i.invariant.advances c.put_column.ensures.advances;
      ticks = c.put_column.ensures.ticks ∙ c.loop-i.invariant.ticks;
      planes = c.put_column.ensures.planes ∙ c.loop-i.invariant.planes;
      room = c.put_column.ensures.room ∙ c.loop-i.invariant.room;
    }

pub returns-clause-advances : goal.returns-clause-advances
returns-clause-advances g c =
    let fits_w : FitsSigned w64 c.args.at.now.plan.grid.w = fits_wide _ c.requires.stage.plan_is.grid.w in
    let fits_lo : FitsSigned w64 c.args.at.now.b.xlo = fits_place _ c.requires.stage.reach.xlo in
    let fits_hi : FitsSigned w64 c.args.at.now.b.xhi = fits_place _ c.requires.stage.reach.xhi in
    let first : c.col-first.result ≡ slot c.args.at.now.plan.grid.w c.args.at.now.b.xlo = simp to_z-of_z at c.col-first.ensures in
    let count : c.slots_met-count.result ≡ slots_met c.args.at.now.plan.grid.w c.args.at.now.b.xlo c.args.at.now.b.xhi = simp to_z-of_z at c.slots_met-count.ensures.value in
    let few = c.slots_met-count.ensures.few in
    let small : nat_abs c.col-first.result ≤ 400_000_000 = subst (λ (z : ℤ). nat_abs z ≤ 400_000_000) (sym first) (left_small c.args.at.now.plan c.args.at.now.step (g.O.Occupied.count c.args.at.now.o.now c.args.at.now.step) (g.O.Occupied.hits c.args.at.now.o.now c.args.at.now.step) (g.O.Occupied.range c.args.at.now.o.now c.args.at.now.step) c.args.at.now.b c.requires.stage.exact c.requires.stage.reach c.requires.stage.near c.requires.stage.plan_is.grid) in
    let all : c.loop-i.i ≡ slots_met c.args.at.now.plan.grid.w c.args.at.now.b.xlo c.args.at.now.b.xhi = (let l = c.loop-i-test.false in let k = c.loop-i.auto.i-end in omega (arith, l, k, count)) in
    subst (λ (z : ℤ). Advances c.args.at.now.plan c.args.at.now.step (g.O.Occupied.count c.args.at.now.o.now c.args.at.now.step) (g.O.Occupied.hits c.args.at.now.o.now c.args.at.now.step) (g.O.Occupied.range c.args.at.now.o.now c.args.at.now.step) c.args.table.now (slot c.args.at.now.plan.grid.w c.args.at.now.b.xlo) (slot c.args.at.now.plan.grid.g c.args.at.now.b.ylo) c.args.out.now.sets z (slot c.args.at.now.plan.grid.g c.args.at.now.b.ylo) c.loop-i.out.sets) (ap (λ (n : ℕ). (slot c.args.at.now.plan.grid.w c.args.at.now.b.xlo) +ℤ pos n) all ∙ behind_columns c.args.at.now.plan c.args.at.now.step (g.O.Occupied.count c.args.at.now.o.now c.args.at.now.step) (g.O.Occupied.hits c.args.at.now.o.now c.args.at.now.step) (g.O.Occupied.range c.args.at.now.o.now c.args.at.now.step) c.args.at.now.b c.requires.stage.exact c.requires.stage.reach c.requires.stage.near c.requires.stage.plan_is.grid) c.loop-i.invariant.advances

pub put_column-requires-clause-ticks : goal.put_column-requires-clause-ticks
put_column-requires-clause-ticks g c = c.loop-i.invariant.ticks ∙ c.requires.ticks

pub put_column-requires-clause-planes : goal.put_column-requires-clause-planes
put_column-requires-clause-planes g c = omega (arith, c.requires.planes, c.loop-i.invariant.planes)
