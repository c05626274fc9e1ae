use Rattle.std.proofs.Common.{◌≡◌, ◌∙◌, ℕ, ◌*◌, ◌+◌, ◌≤◌, ap, refl, subst, to_z, of_z, w64, pos, negsuc, neg_ℤ, ◌-ℤ◌, ◌+ℤ◌, ◌*ℤ◌, ◌≤ℤ◌, ℤ, arith, FitsSigned}
use Rattle.std.specs.Prelude.{nat_abs}
use Rattle.std.proofs.lemmas.Int.{ints}
use Rattle.spot_terms.specs.Courses.{outer_box}
use Rattle.spot_terms.specs.Lists.{Includes}
use Rattle.spot_terms.specs.Ranges.{IsStart}
use Rattle.spot_terms.specs.Reach.{Normal, minus_one, reach_number}
use Rattle.spot_terms.specs.declared.plain.AccStart.{AccStart}
use Rattle.base_sets.specs.Values.{start_with}
use Rattle.base_sets.proofs.Axes.{axes, axis_reach, reach_axis, places_room, along_x, along_y, west, east, south, north}
use Rattle.base_sets.proofs.grid.outer_box.Goals as goal
use Rattle.base_sets.proofs.grid.outer_box.Goals.{After-reach_number-4}

most_ticks : (step k : ℕ) → step ≤ 100 → k ≤ 1000 → step * k ≤ 100_000
most_ticks step k h g = grind arith

small_at : (z : ℤ) (t : ℕ) → nat_abs z ≤ 20_000_000_000_000 + t * 900_001 → t ≤ 100_000 → nat_abs z ≤ 21_000_000_000_000
small_at z t h g = omega (arith, h, g)

turned : (z : ℤ) → nat_abs z ≤ 21_000_000_000_000 → to_z w64 (of_z w64 (pos 0 -ℤ to_z w64 (of_z w64 z))) ≡ neg_ℤ z
turned z h = omega (arith, ints)

read : (z : ℤ) → nat_abs z ≤ 21_000_000_000_000 → to_z w64 (of_z w64 z) ≡ z
read z h = omega (arith, ints)

-- the four numbers
record Numbers (s : AccStart) (t : ℕ) (w e p n : ℤ) : Type 0 where
  west : w ≡ neg_ℤ (reach_number s (minus_one, pos 0) t)
  east : e ≡ reach_number s (pos 1, pos 0) t
  south : p ≡ neg_ℤ (reach_number s (pos 0, minus_one) t)
  north : n ≡ reach_number s (pos 0, pos 1) t

small : (s : AccStart) (n : Normal) (step k : ℕ) → IsStart s → step ≤ 100 → k ≤ 1000 → Includes axes n → nat_abs (reach_number s n (step * k)) ≤ 21_000_000_000_000
small s n step k r h g i = small_at (reach_number s n (step * k)) (step * k) (reach_axis s n (step * k) r i) (most_ticks step k h g)

neg_fits : (r z : ℤ) → r ≡ z → nat_abs z ≤ 21_000_000_000_000 → FitsSigned w64 (pos 0 -ℤ to_z w64 (of_z w64 r))
neg_fits r z e h = omega (arith, ints)

pub overflow_sub-result : goal.overflow_sub-result
overflow_sub-result c = neg_fits c.reach_number.result _ c.reach_number.ensures.value (small c.start_without_body-start.result (minus_one, pos 0) c.args.step c.args.k c.start_without_body-start.ensures.range c.requires.step c.requires.ticks.1 west)

pub overflow_sub-result-2 : goal.overflow_sub-result-2
overflow_sub-result-2 c = neg_fits c.reach_number-3.result _ c.reach_number-3.ensures.value (small c.start_without_body-start.result (pos 0, minus_one) c.args.step c.args.k c.start_without_body-start.ensures.range c.requires.step c.requires.ticks.1 south)

start : (c : After-reach_number-4) → IsStart (start_with c.args.s.now c.args.e.now)
start c = subst IsStart c.start_without_body-start.ensures.value c.start_without_body-start.ensures.range

at_start : (c : After-reach_number-4) (n : Normal) (r : ℤ) → r ≡ reach_number c.start_without_body-start.result n (c.args.step * c.args.k) → r ≡ reach_number (start_with c.args.s.now c.args.e.now) n (c.args.step * c.args.k)
at_start c n r h = h ∙ ap (λ (z : AccStart). reach_number z n (c.args.step * c.args.k)) c.start_without_body-start.ensures.value

small_read : (c : After-reach_number-4) (n : Normal) (r : ℤ) → Includes axes n → r ≡ reach_number c.start_without_body-start.result n (c.args.step * c.args.k) → nat_abs r ≤ 21_000_000_000_000
small_read c n r i h = rw (at_start c n r h) (small (start_with c.args.s.now c.args.e.now) n c.args.step c.args.k (start c) c.requires.step c.requires.ticks.1 i)

numbers : (c : After-reach_number-4) → Numbers (start_with c.args.s.now c.args.e.now) (c.args.step * c.args.k) (to_z w64 (of_z w64 (pos 0 -ℤ to_z w64 (of_z w64 c.reach_number.result)))) (to_z w64 (of_z w64 c.reach_number-2.result)) (to_z w64 (of_z w64 (pos 0 -ℤ to_z w64 (of_z w64 c.reach_number-3.result)))) (to_z w64 (of_z w64 c.reach_number-4.result))
numbers c = record {
  west = turned c.reach_number.result (small_read c (minus_one, pos 0) c.reach_number.result west c.reach_number.ensures.value) ∙ ap neg_ℤ (at_start c (minus_one, pos 0) c.reach_number.result c.reach_number.ensures.value);
  east = read c.reach_number-2.result (small_read c (pos 1, pos 0) c.reach_number-2.result east c.reach_number-2.ensures.value) ∙ at_start c (pos 1, pos 0) c.reach_number-2.result c.reach_number-2.ensures.value;
  south = turned c.reach_number-3.result (small_read c (pos 0, minus_one) c.reach_number-3.result south c.reach_number-3.ensures.value) ∙ ap neg_ℤ (at_start c (pos 0, minus_one) c.reach_number-3.result c.reach_number-3.ensures.value);
  north = read c.reach_number-4.result (small_read c (pos 0, pos 1) c.reach_number-4.result north c.reach_number-4.ensures.value) ∙ at_start c (pos 0, pos 1) c.reach_number-4.result c.reach_number-4.ensures.value;
}

pub returns-clause-exact : goal.returns-clause-exact
unfolding outer_box
returns-clause-exact c = let n = numbers c in rw (n.west, n.east, n.south, n.north) refl

pub returns-clause-holds : goal.returns-clause-holds
returns-clause-holds c states st m e =
    let n = numbers c in
    let s : AccStart = start_with c.args.s.now c.args.e.now in
    let t : ℕ = c.args.step * c.args.k in record {
      x = record {
        low = low_x _ _ st.p.x st.p.y n.west (axis_reach s (minus_one, pos 0) t states st west m e);
        high = high_x _ _ st.p.x st.p.y n.east (axis_reach s (pos 1, pos 0) t states st east m e);
      };
      y = record {
        low = low_y _ _ st.p.x st.p.y n.south (axis_reach s (pos 0, minus_one) t states st south m e);
        high = high_y _ _ st.p.x st.p.y n.north (axis_reach s (pos 0, pos 1) t states st north m e);
      };
    }
  where
    low_x : (w r x y : ℤ) → w ≡ neg_ℤ r → (negsuc 0 *ℤ x +ℤ pos 0 *ℤ y) ≤ℤ r → w ≤ℤ x
    low_x w r x y e h = omega (arith, ints)

    high_x : (w r x y : ℤ) → w ≡ r → (pos 1 *ℤ x +ℤ pos 0 *ℤ y) ≤ℤ r → x ≤ℤ w
    high_x w r x y e h = omega (arith, ints)

    low_y : (w r x y : ℤ) → w ≡ neg_ℤ r → (pos 0 *ℤ x +ℤ negsuc 0 *ℤ y) ≤ℤ r → w ≤ℤ y
    low_y w r x y e h = omega (arith, ints)

    high_y : (w r x y : ℤ) → w ≡ r → (pos 0 *ℤ x +ℤ pos 1 *ℤ y) ≤ℤ r → y ≤ℤ w
    high_y w r x y e h = omega (arith, ints)

pub returns-clause-order : goal.returns-clause-order
returns-clause-order c f =
    let n = numbers c in
    let s : AccStart = start_with c.args.s.now c.args.e.now in
    let t : ℕ = c.args.step * c.args.k in record {
      x = between _ _ _ _ n.west n.east (places_room s (minus_one, pos 0) (pos 1, pos 0) t west east (along_x s (start c) f));
      y = between _ _ _ _ n.south n.north (places_room s (pos 0, minus_one) (pos 0, pos 1) t south north (along_y s (start c) f));
    }
  where
    between : (a b p q : ℤ) → a ≡ neg_ℤ p → b ≡ q → pos 0 ≤ℤ (p +ℤ q) → a ≤ℤ b
    between a b p q e f h = omega (arith, ints)

pub returns-clause-near : goal.returns-clause-near
returns-clause-near c = record {
  xlo = near c.reach_number.result (small_read c (minus_one, pos 0) c.reach_number.result west c.reach_number.ensures.value);
  xhi = rw (read c.reach_number-2.result (small_read c (pos 1, pos 0) c.reach_number-2.result east c.reach_number-2.ensures.value)) (small_read c (pos 1, pos 0) c.reach_number-2.result east c.reach_number-2.ensures.value);
  ylo = near c.reach_number-3.result (small_read c (pos 0, minus_one) c.reach_number-3.result south c.reach_number-3.ensures.value);
  yhi = rw (read c.reach_number-4.result (small_read c (pos 0, pos 1) c.reach_number-4.result north c.reach_number-4.ensures.value)) (small_read c (pos 0, pos 1) c.reach_number-4.result north c.reach_number-4.ensures.value);
}
  where
    near : (z : ℤ) → nat_abs z ≤ 21_000_000_000_000 → nat_abs (to_z w64 (of_z w64 (pos 0 -ℤ to_z w64 (of_z w64 z)))) ≤ 21_000_000_000_000
    near z h = omega (arith, ints)
