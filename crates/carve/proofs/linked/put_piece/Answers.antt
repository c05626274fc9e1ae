use Rattle.std.proofs.Common.{◌≡◌, ◌∙◌, ◌≤◌, ◌+◌, ℕ, ℤ, pos, ◌+ℤ◌, ◌<ℤ◌, arith, refl, sym, ap, subst, w64, to_z, of_z, to_z-of_z, FitsSigned}
use Rattle.std.specs.Prelude.{nat_abs}
use Rattle.std.specs.Int.{int_max}
use Rattle.std.proofs.lemmas.Int.{ints}
use Rattle.spot_terms.specs.Grid.{slot}
use Rattle.spot_terms.specs.RowBoxes.{slots_shared}
use Rattle.spot_terms.specs.Whole.{Within}
use Rattle.base_sets.proofs.Slots.{slots_are}
use Rattle.carve.specs.Linked.{HasRow}
use Rattle.carve.specs.Ranges.{HitsAmong, IsRowNear}
use Rattle.carve.proofs.RowNumbers.{read, number_back}
use Rattle.carve.proofs.RowPlaces.{fits_wide, fits_place}
use Rattle.carve.proofs.Linking.{above_range, below_range, row_among, row_done, rows_begun, rows_earlier, rows_ended, rows_later}
use Rattle.carve.proofs.linked.put_piece.Goals as goal

positive : (g : ℤ) → Within (pos 100_000) (pos 100_000_000) g → pos 0 <ℤ g
positive g h = let k = h.low in omega (arith, ints)

pair_read : (a b c d : ℤ) (r : ℤ × ℤ) → a ≡ c → b ≡ d → (c, d) ≡ r → (a, b) ≡ r
pair_read a b c d r e f h = ap (λ (z : ℤ). (z, b)) e ∙ ap (λ (z : ℤ). (c, z)) f ∙ h

-- a row of the box has a small number
small : (first last : ℤ) (j : ℕ) → nat_abs first ≤ 400_000_000 → nat_abs last ≤ 400_000_000 → Within first last (first +ℤ pos j) → j ≤ 1_000_000_000
small first last j h k w = omega (arith, ints, h, k, w.high)

pub loop-j-init : goal.loop-j-init
loop-j-init g c =
    let hits = HitsAmong c.args.columns.now.first c.args.columns.now.last (g.O.Occupied.hits c.args.o.now c.args.step) in
    let range = g.O.Occupied.range c.args.o.now c.args.step in
    let fits_low : FitsSigned w64 c.args.low = c.ranges.low in
    let fits_g : FitsSigned w64 c.args.grid.now.g = fits_wide _ c.requires.grid.g in
    let wide : pos 0 <ℤ c.args.grid.now.g = positive _ c.requires.grid.g in
    let is : slot c.args.grid.now.g c.args.b.now.ylo +ℤ pos c.rows_before-before.result ≡ int_max (slot c.args.grid.now.g c.args.low) (slot c.args.grid.now.g c.args.b.now.ylo) = simp to_z-of_z at c.rows_before-before.ensures.value in
    record {
      rows = rows_begun hits range c.args.grid.now.g wide (slot c.args.grid.now.g c.args.b.now.ylo) c.args.heads.now c.args.links.now.items c.args.piece c.rows_before-before.result
          (λ i less. below_range hits range c.args.grid.now.g wide c.args.piece (slot c.args.grid.now.g c.args.b.now.ylo +ℤ pos i) (λ q h. g.met.O.Occupied.in_range c.args.o.now c.args.step c.args.piece q h.0)
          (subst (λ (s : ℤ × ℤ). (slot c.args.grid.now.g c.args.b.now.ylo +ℤ pos i) <ℤ slot c.args.grid.now.g s.0) c.requires.range
          (rows_earlier c.args.grid.now.g c.args.low c.args.high c.args.b.now.ylo c.args.b.now.yhi wide c.requires.order c.requires.reach.y c.rows_before-before.result is i less)))
          c.requires.taken;
      count = refl;
      from = omega arith;
      few = omega arith;
      capacity = omega arith;
    }

pub put_row-requires-clause-near : goal.put_row-requires-clause-near
put_row-requires-clause-near g c =
    let fits_low : FitsSigned w64 c.args.low = c.ranges.low in
    let fits_high : FitsSigned w64 c.args.high = c.ranges.high in
    let fits_g : FitsSigned w64 c.args.grid.now.g = fits_wide _ c.requires.grid.g in
    let fits_ylo : FitsSigned w64 c.args.b.now.ylo = fits_place _ c.requires.reach.ylo in
    let wide : pos 0 <ℤ c.args.grid.now.g = positive _ c.requires.grid.g in
    let is : slot c.args.grid.now.g c.args.b.now.ylo +ℤ pos c.rows_before-before.result ≡ int_max (slot c.args.grid.now.g c.args.low) (slot c.args.grid.now.g c.args.b.now.ylo) = simp to_z-of_z at c.rows_before-before.ensures.value in
    let met : c.rows_shared.result ≡ slots_shared c.args.grid.now.g (c.args.low, c.args.high) (c.args.b.now.ylo, c.args.b.now.yhi) = simp to_z-of_z at c.rows_shared.ensures.value in
    let first : c.row_of-first.result ≡ slot c.args.grid.now.g c.args.b.now.ylo = simp to_z-of_z at c.row_of-first.ensures.value in
    let slots = slots_are c.args.grid.now.g c.args.b.now.ylo c.args.b.now.yhi c.requires.grid.g c.requires.reach.y c.requires.reach.ylo c.requires.reach.yhi in
    let among = row_among c.args.grid.now.g c.args.low c.args.high c.args.b.now.ylo c.args.b.now.yhi wide c.requires.order c.requires.reach.y c.rows_before-before.result is c.loop-j.j c.loop-j.invariant.from (omega (arith, c.loop-j-test.true, met)) in
    let at = number_back c.row_of-first.result c.loop-j.j (subst (λ (z : ℤ). nat_abs z ≤ 400_000_000) (sym first) slots.low) (small _ _ c.loop-j.j slots.low slots.high among.0) ∙ ap (λ (z : ℤ). z +ℤ pos c.loop-j.j) first in
    let same : read c.args.grid.now.g ≡ c.args.grid.now.g = to_z-of_z fits_g in
    subst (λ (z : ℤ). IsRowNear (g.O.Occupied.far c.args.o.now) z (read (read c.row_of-first.result +ℤ to_z w64 c.loop-j.j))) (sym same)
    (subst (λ (r : ℤ). IsRowNear (g.O.Occupied.far c.args.o.now) c.args.grid.now.g r) (sym at) (c.requires.near (slot c.args.grid.now.g c.args.b.now.ylo +ℤ pos c.loop-j.j) among.0))

pub put_row-requires-clause-row : goal.put_row-requires-clause-row
put_row-requires-clause-row g c =
    let fits_low : FitsSigned w64 c.args.low = c.ranges.low in
    let fits_high : FitsSigned w64 c.args.high = c.ranges.high in
    let fits_g : FitsSigned w64 c.args.grid.now.g = fits_wide _ c.requires.grid.g in
    let wide : pos 0 <ℤ c.args.grid.now.g = positive _ c.requires.grid.g in
    let is : slot c.args.grid.now.g c.args.b.now.ylo +ℤ pos c.rows_before-before.result ≡ int_max (slot c.args.grid.now.g c.args.low) (slot c.args.grid.now.g c.args.b.now.ylo) = simp to_z-of_z at c.rows_before-before.ensures.value in
    let met : c.rows_shared.result ≡ slots_shared c.args.grid.now.g (c.args.low, c.args.high) (c.args.b.now.ylo, c.args.b.now.yhi) = simp to_z-of_z at c.rows_shared.ensures.value in
    let among = row_among c.args.grid.now.g c.args.low c.args.high c.args.b.now.ylo c.args.b.now.yhi wide c.requires.order c.requires.reach.y c.rows_before-before.result is c.loop-j.j c.loop-j.invariant.from (omega (arith, c.loop-j-test.true, met)) in
    let inside = among.1 in
    omega (arith, inside, c.loop-j.invariant.count, c.requires.count)

pub put_row-requires-clause-has : goal.put_row-requires-clause-has
put_row-requires-clause-has g c =
    let hits = HitsAmong c.args.columns.now.first c.args.columns.now.last (g.O.Occupied.hits c.args.o.now c.args.step) in
    let range = g.O.Occupied.range c.args.o.now c.args.step in
    let fits_low : FitsSigned w64 c.args.low = c.ranges.low in
    let fits_high : FitsSigned w64 c.args.high = c.ranges.high in
    let fits_g : FitsSigned w64 c.args.grid.now.g = fits_wide _ c.requires.grid.g in
    let fits_ylo : FitsSigned w64 c.args.b.now.ylo = fits_place _ c.requires.reach.ylo in
    let wide : pos 0 <ℤ c.args.grid.now.g = positive _ c.requires.grid.g in
    let is : slot c.args.grid.now.g c.args.b.now.ylo +ℤ pos c.rows_before-before.result ≡ int_max (slot c.args.grid.now.g c.args.low) (slot c.args.grid.now.g c.args.b.now.ylo) = simp to_z-of_z at c.rows_before-before.ensures.value in
    let met : c.rows_shared.result ≡ slots_shared c.args.grid.now.g (c.args.low, c.args.high) (c.args.b.now.ylo, c.args.b.now.yhi) = simp to_z-of_z at c.rows_shared.ensures.value in
    let first : c.row_of-first.result ≡ slot c.args.grid.now.g c.args.b.now.ylo = simp to_z-of_z at c.row_of-first.ensures.value in
    let slots = slots_are c.args.grid.now.g c.args.b.now.ylo c.args.b.now.yhi c.requires.grid.g c.requires.reach.y c.requires.reach.ylo c.requires.reach.yhi in
    let among = row_among c.args.grid.now.g c.args.low c.args.high c.args.b.now.ylo c.args.b.now.yhi wide c.requires.order c.requires.reach.y c.rows_before-before.result is c.loop-j.j c.loop-j.invariant.from (omega (arith, c.loop-j-test.true, met)) in
    let at = number_back c.row_of-first.result c.loop-j.j (subst (λ (z : ℤ). nat_abs z ≤ 400_000_000) (sym first) slots.low) (small _ _ c.loop-j.j slots.low slots.high among.0) ∙ ap (λ (z : ℤ). z +ℤ pos c.loop-j.j) first in
    let same : read c.args.grid.now.g ≡ c.args.grid.now.g = to_z-of_z fits_g in
    let inside = among.1 in
    let has : HasRow hits range c.args.grid.now.g c.loop-j.heads c.loop-j.links.items c.args.piece c.loop-j.j (slot c.args.grid.now.g c.args.b.now.ylo +ℤ pos c.loop-j.j) =
    c.loop-j.invariant.rows.left c.loop-j.j (omega (arith, inside, c.loop-j.invariant.count, c.requires.count)) (omega arith) in
    subst (λ (z : ℤ). HasRow hits range z c.loop-j.heads c.loop-j.links.items c.args.piece c.loop-j.j (read (read c.row_of-first.result +ℤ to_z w64 c.loop-j.j))) (sym same)
    (subst (λ (r : ℤ). HasRow hits range c.args.grid.now.g c.loop-j.heads c.loop-j.links.items c.args.piece c.loop-j.j r) (sym at) has)

pub put_row-requires-clause-room : goal.put_row-requires-clause-room
put_row-requires-clause-room g c =
    let fits_low : FitsSigned w64 c.args.low = c.ranges.low in
    let fits_high : FitsSigned w64 c.args.high = c.ranges.high in
    let fits_g : FitsSigned w64 c.args.grid.now.g = fits_wide _ c.requires.grid.g in
    let met : c.rows_shared.result ≡ slots_shared c.args.grid.now.g (c.args.low, c.args.high) (c.args.b.now.ylo, c.args.b.now.yhi) = simp to_z-of_z at c.rows_shared.ensures.value in
    omega (arith, met, c.loop-j-test.true, c.loop-j.invariant.few, c.loop-j.invariant.capacity, c.requires.room)

pub loop-j-preserved : goal.loop-j-preserved
loop-j-preserved g c =
    let hits = HitsAmong c.args.columns.now.first c.args.columns.now.last (g.O.Occupied.hits c.args.o.now c.args.step) in
    let range = g.O.Occupied.range c.args.o.now c.args.step in
    let fits_low : FitsSigned w64 c.args.low = c.ranges.low in
    let fits_high : FitsSigned w64 c.args.high = c.ranges.high in
    let fits_g : FitsSigned w64 c.args.grid.now.g = fits_wide _ c.requires.grid.g in
    let fits_ylo : FitsSigned w64 c.args.b.now.ylo = fits_place _ c.requires.reach.ylo in
    let wide : pos 0 <ℤ c.args.grid.now.g = positive _ c.requires.grid.g in
    let is : slot c.args.grid.now.g c.args.b.now.ylo +ℤ pos c.rows_before-before.result ≡ int_max (slot c.args.grid.now.g c.args.low) (slot c.args.grid.now.g c.args.b.now.ylo) = simp to_z-of_z at c.rows_before-before.ensures.value in
    let met : c.rows_shared.result ≡ slots_shared c.args.grid.now.g (c.args.low, c.args.high) (c.args.b.now.ylo, c.args.b.now.yhi) = simp to_z-of_z at c.rows_shared.ensures.value in
    let first : c.row_of-first.result ≡ slot c.args.grid.now.g c.args.b.now.ylo = simp to_z-of_z at c.row_of-first.ensures.value in
    let slots = slots_are c.args.grid.now.g c.args.b.now.ylo c.args.b.now.yhi c.requires.grid.g c.requires.reach.y c.requires.reach.ylo c.requires.reach.yhi in
    let among = row_among c.args.grid.now.g c.args.low c.args.high c.args.b.now.ylo c.args.b.now.yhi wide c.requires.order c.requires.reach.y c.rows_before-before.result is c.loop-j.j c.loop-j.invariant.from (omega (arith, c.loop-j-test.true, met)) in
    let at = number_back c.row_of-first.result c.loop-j.j (subst (λ (z : ℤ). nat_abs z ≤ 400_000_000) (sym first) slots.low) (small _ _ c.loop-j.j slots.low slots.high among.0) ∙ ap (λ (z : ℤ). z +ℤ pos c.loop-j.j) first in
    let same : read c.args.grid.now.g ≡ c.args.grid.now.g = to_z-of_z fits_g in
    let has : HasRow hits range c.args.grid.now.g c.put_row.new.heads c.put_row.new.links.items (c.args.piece + 1) c.loop-j.j (read (read c.row_of-first.result +ℤ to_z w64 c.loop-j.j)) =
    subst (λ (z : ℤ). HasRow hits range z c.put_row.new.heads c.put_row.new.links.items (c.args.piece + 1) c.loop-j.j (read (read c.row_of-first.result +ℤ to_z w64 c.loop-j.j))) same c.put_row.ensures.has in
    record {
      rows = row_done hits range c.args.grid.now.g wide (slot c.args.grid.now.g c.args.b.now.ylo) c.loop-j.heads c.put_row.new.heads c.loop-j.links.items c.put_row.new.links.items c.args.piece c.loop-j.j
          (read (read c.row_of-first.result +ℤ to_z w64 c.loop-j.j)) at c.put_row.ensures.count c.put_row.ensures.others has c.loop-j.invariant.rows;
      count = c.put_row.ensures.count ∙ c.loop-j.invariant.count;
      from = let k = c.loop-j.invariant.from in omega (arith, k);
      few = let k = c.put_row.ensures.few in omega (arith, k, c.loop-j.invariant.few);
      capacity = let k = c.put_row.ensures.capacity in omega (arith, k, c.loop-j.invariant.capacity);
    }

pub returns-clause-taken : goal.returns-clause-taken
returns-clause-taken g c =
    let hits = HitsAmong c.args.columns.now.first c.args.columns.now.last (g.O.Occupied.hits c.args.o.now c.args.step) in
    let range = g.O.Occupied.range c.args.o.now c.args.step in
    let fits_low : FitsSigned w64 c.args.low = c.ranges.low in
    let fits_high : FitsSigned w64 c.args.high = c.ranges.high in
    let fits_g : FitsSigned w64 c.args.grid.now.g = fits_wide _ c.requires.grid.g in
    let wide : pos 0 <ℤ c.args.grid.now.g = positive _ c.requires.grid.g in
    let is : slot c.args.grid.now.g c.args.b.now.ylo +ℤ pos c.rows_before-before.result ≡ int_max (slot c.args.grid.now.g c.args.low) (slot c.args.grid.now.g c.args.b.now.ylo) = simp to_z-of_z at c.rows_before-before.ensures.value in
    let met : c.rows_shared.result ≡ slots_shared c.args.grid.now.g (c.args.low, c.args.high) (c.args.b.now.ylo, c.args.b.now.yhi) = simp to_z-of_z at c.rows_shared.ensures.value in
    rows_ended hits range c.args.grid.now.g wide (slot c.args.grid.now.g c.args.b.now.ylo) c.loop-j.heads c.loop-j.links.items c.args.piece c.loop-j.j
    (λ i l later. above_range hits range c.args.grid.now.g wide c.args.piece (slot c.args.grid.now.g c.args.b.now.ylo +ℤ pos i) (λ q h. g.met.O.Occupied.in_range c.args.o.now c.args.step c.args.piece q h.0)
    (subst (λ (s : ℤ × ℤ). slot c.args.grid.now.g s.1 <ℤ (slot c.args.grid.now.g c.args.b.now.ylo +ℤ pos i)) c.requires.range
    (rows_later c.args.grid.now.g c.args.low c.args.high c.args.b.now.ylo c.args.b.now.yhi wide c.requires.order c.requires.reach.y c.rows_before-before.result is i
    (omega (arith, later, c.loop-j-test.false, met)) (omega (arith, l, c.loop-j.invariant.count, c.requires.count)))))
    c.loop-j.invariant.rows

pub returns-clause-few : goal.returns-clause-few
returns-clause-few g c =
    let fits_low : FitsSigned w64 c.args.low = c.ranges.low in
    let fits_high : FitsSigned w64 c.args.high = c.ranges.high in
    let fits_g : FitsSigned w64 c.args.grid.now.g = fits_wide _ c.requires.grid.g in
    let met : c.rows_shared.result ≡ slots_shared c.args.grid.now.g (c.args.low, c.args.high) (c.args.b.now.ylo, c.args.b.now.yhi) = simp to_z-of_z at c.rows_shared.ensures.value in
    let end = c.loop-j.auto.j-end (omega arith) in
    omega (arith, met, end, c.loop-j.invariant.few)

pub returns-clause-capacity : goal.returns-clause-capacity
returns-clause-capacity g c = c.loop-j.invariant.capacity

pub put_row-requires-clause-range : goal.put_row-requires-clause-range
put_row-requires-clause-range g c =
    let low : to_z w64 (of_z w64 c.args.low) ≡ c.args.low = to_z-of_z c.ranges.low in
    let high : to_z w64 (of_z w64 c.args.high) ≡ c.args.high = to_z-of_z c.ranges.high in
    pair_read _ _ _ _ _ low high c.requires.range
