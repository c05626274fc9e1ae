-- What a strip asks where a child is joined, and what it has then.
use Rattle.std.proofs.Common.{◌≡◌, ◌∙◌, ◌⊎◌, inl, inr, ℕ, ◌+◌, ◌<◌, ◌≤◌, arith, refl, sym, ap, subst, List, length, take, Option, Some, to_z, of_z, w64, Fits, FitsSigned}
use Rattle.std.specs.Prelude.{nat_abs, slice_get, IfSome}
use Rattle.std.proofs.lemmas.Int.{ints}
use Rattle.std.proofs.lemmas.List.{length-take-le}
use lib.Dec.{T}
use lib.IntN.{ℤ, pos, negsuc, ◌+ℤ◌, ◌-ℤ◌}
use lib.Signed.{◌≤ℤ◌, ◌<ℤ◌, non_neg}
use Rattle.spot_terms.specs.BaseSets.{greatest_place, least_place}
use Rattle.spot_terms.specs.Courses.{slots_met}
use Rattle.spot_terms.specs.Hull.{IsCornerList}
use Rattle.spot_terms.specs.declared.plain.Pt.{Pt}
use Rattle.propagate.specs.Children.{IsChildIn}
use Rattle.spot_terms.specs.ClippedTo.{places, IsClippedAway}
use Rattle.spot_terms.specs.Grid.{slot, slot_low, slot_high}
use Rattle.spot_terms.specs.Whole.{Within}
use Rattle.spot_terms.proofs.ItemPlaces.{get_of_take}
use Rattle.round_out.specs.declared.frames.FrameNumbers.{FrameNumbers}
use Rattle.base_sets.specs.Values.{IsBox}
use Rattle.base_sets.specs.declared.grid.OuterBox.{OuterBox}
use Rattle.merge_sets.specs.Cells.{AreRows, IsNear}
use Rattle.merge_sets.specs.Strips.{JoinsParts}
use Rattle.merge_sets.proofs.RowLists.{rows_at}
use Rattle.area_run.specs.Plans.{IsPlan}
use Rattle.area_run.specs.Strips.{ArePartsIn, first_row, row_count}
use Rattle.area_run.specs.declared.children.ChildParts.{ChildParts}
use Rattle.area_run.specs.declared.plan.Plan.{Plan}
use Rattle.area_run.proofs.SlotCalls.{away_there, first_small, low_small, near_slot, place_is, place_low, place_within}

abbrev pub read : ℤ → ℤ
read z = to_z w64 (of_z w64 z)

pub small_read : (z : ℤ) → nat_abs z ≤ 400_000_000 → read z ≡ z
small_read z h = omega (arith, ints, h)

pub width_read : (w : ℤ) → Within (pos 100_000) (pos 100_000_000) w → read w ≡ w
width_read w h = omega (arith, ints, h.low, h.high)

-- how many slots lie between
abbrev pub steps : ℤ → ℤ → ℕ
steps f r = nat_abs (read (read f -ℤ read r))

steps_fit : (f r : ℤ) → nat_abs f ≤ 400_000_000 → nat_abs r ≤ 400_000_000 → FitsSigned w64 (read f -ℤ read r)
steps_fit f r h k = omega (arith, ints, h, k)

not_negative : (z : ℤ) → pos 0 ≤ℤ z → T (non_neg z)
not_negative (pos n) h = tt
not_negative (negsuc n) h = absurd (omega (arith, ints, h))

steps_low : (f r : ℤ) → nat_abs f ≤ 400_000_000 → nat_abs r ≤ 400_000_000 → r ≤ℤ f → pos 0 ≤ℤ read (read f -ℤ read r)
steps_low f r h k l = omega (arith, ints, h, k, l)

steps_few : (f r : ℤ) → nat_abs f ≤ 400_000_000 → nat_abs r ≤ 400_000_000 → Fits w64 (nat_abs (read (read f -ℤ read r)))
steps_few f r h k = omega (arith, ints, h, k)

steps_are : (f r : ℤ) → nat_abs f ≤ 400_000_000 → nat_abs r ≤ 400_000_000 → r ≤ℤ f → pos (steps f r) ≡ f -ℤ r
steps_are f r h k l = omega (arith, ints, h, k, l)

module _ (plan : Plan) (b : OuterBox) (is : IsPlan plan) (reach : IsBox b) (c : ChildParts) (parts : ArePartsIn plan b c) (row : ℤ) (row_is : row ≡ slot plan.grid.g b.ylo) where
  f_small : nat_abs c.first ≤ 400_000_000
  f_small = subst (λ (z : ℤ). nat_abs z ≤ 400_000_000) (sym parts.first_is) (first_small plan.grid.g b.ylo b.yhi plan.e.v c.y is.grid.g reach.ylo reach.yhi reach.y is.bounds.v parts.child parts.convex)

  r_small : nat_abs row ≤ 400_000_000
  r_small = subst (λ (z : ℤ). nat_abs z ≤ 400_000_000) (sym row_is) (low_small plan.grid.g b.ylo b.yhi plan.e.v c.y is.grid.g reach.ylo reach.yhi reach.y is.bounds.v parts.child parts.convex)

  ordered : row ≤ℤ c.first
  ordered = subst (λ (z : ℤ). z ≤ℤ c.first) (sym row_is) (subst (λ (z : ℤ). slot plan.grid.g b.ylo ≤ℤ z) (sym parts.first_is) (place_low plan.grid.g b.ylo b.yhi plan.e.v c.y is.grid.g reach.ylo reach.yhi reach.y is.bounds.v parts.child parts.convex))

  pub sub_fits : FitsSigned w64 (read c.first -ℤ read row)
  sub_fits = steps_fit c.first row f_small r_small

  pub cast_fits : T (non_neg (read (read c.first -ℤ read row))) × Fits w64 (nat_abs (read (read c.first -ℤ read row)))
  cast_fits = (not_negative (read (read c.first -ℤ read row)) (steps_low c.first row f_small r_small ordered), steps_few c.first row f_small r_small)

  at_first : pos (steps c.first row) ≡ slot plan.grid.g (least_place c.y) -ℤ slot plan.grid.g b.ylo
  at_first = steps_are c.first row f_small r_small ordered ∙ ap (λ (z : ℤ). z -ℤ row) parts.first_is ∙ ap (λ (z : ℤ). slot plan.grid.g (least_place c.y) -ℤ z) row_is

  pub at_is : c.first ≡ first_row plan b +ℤ pos (steps c.first row)
  at_is = parts.first_is ∙ place_is plan.grid.g b.ylo b.yhi plan.e.v c.y is.grid.g reach.ylo reach.yhi reach.y is.bounds.v parts.child parts.convex (steps c.first row) at_first

  pub within : steps c.first row + c.count ≤ row_count plan b
  within = subst (λ (n : ℕ). steps c.first row + n ≤ row_count plan b) (sym parts.count_is)
      (place_within plan.grid.g b.ylo b.yhi plan.e.v c.y is.grid.g reach.ylo reach.yhi reach.y is.bounds.v parts.child parts.convex (steps c.first row) at_first)

  pub known_asked : AreRows (length (take c.few c.known)) (read plan.grid.g) (read c.first) plan.k c.y (take c.few c.known)
  known_asked = rows_at (length (take c.few c.known)) (length (take c.few c.known)) plan.grid.g (read plan.grid.g) c.first (read c.first) plan.k c.y (take c.few c.known) refl (sym (width_read plan.grid.g is.grid.g)) (sym (small_read c.first f_small)) plain
    where
      long : length (take c.few c.known) ≡ c.few
      long = length-take-le c.few c.known (let f = parts.few in let e = parts.enough in omega (arith, f, e))

      plain : AreRows (length (take c.few c.known)) plan.grid.g c.first plan.k c.y (take c.few c.known)
      plain j l =
          let m : j < c.few = subst (λ (n : ℕ). j < n) long l in
          let (r, got, part, sound) = parts.known_are j m in
          (r, get_of_take c.known c.few j r m got, part, sound)

  pub first_asked : nat_abs (read c.first) ≤ 1_000_000_000
  first_asked = subst (λ (z : ℤ). nat_abs z ≤ 1_000_000_000) (sym (small_read c.first f_small)) (let h = f_small in omega (arith, h))

  pub near_asked : (j : ℕ) → j < c.count → IsNear (read plan.grid.g) (read c.first +ℤ pos j)
  near_asked j l = subst (λ (z : ℤ). IsNear z (read c.first +ℤ pos j)) (sym (width_read plan.grid.g is.grid.g)) (subst (λ (z : ℤ). IsNear plan.grid.g (z +ℤ pos j)) (sym (small_read c.first f_small ∙ parts.first_is))
      (near_slot plan.grid.g b.ylo b.yhi plan.e.v c.y is.grid.g reach.ylo reach.yhi reach.y is.bounds.v parts.child parts.convex j (subst (λ (n : ℕ). j < n) parts.count_is l)))

  pub joins_plain : (at : ℕ) (old new : List (Option FrameNumbers)) → JoinsParts at c.count (read plan.grid.g) (read c.first) plan.k c.y old new → JoinsParts at c.count plan.grid.g c.first plan.k c.y old new
  joins_plain at old new h = subst (λ (z : ℤ). JoinsParts at c.count z c.first plan.k c.y old new) (width_read plan.grid.g is.grid.g) (subst (λ (z : ℤ). JoinsParts at c.count (read plan.grid.g) z plan.k c.y old new) (small_read c.first f_small) h)

  pub away : (z : ℤ) → (z <ℤ c.first) ⊎ ((c.first +ℤ pos c.count) ≤ℤ z) → IsClippedAway (places (slot_low plan.grid.g z) (slot_high plan.grid.g z)) c.y
  away z o = away_there plan.grid.g b.ylo b.yhi plan.e.v c.y is.grid.g reach.ylo reach.yhi reach.y is.bounds.v parts.child parts.convex z
      (subst (λ (n : ℕ). (z <ℤ slot plan.grid.g (least_place c.y)) ⊎ ((slot plan.grid.g (least_place c.y) +ℤ pos n) ≤ℤ z)) parts.count_is
      (subst (λ (y : ℤ). (z <ℤ y) ⊎ ((y +ℤ pos c.count) ≤ℤ z)) parts.first_is o))

-- the first row of the box, as a call answers it
place_read : (z : ℤ) → nat_abs z ≤ 40_000_000_000_000 → read z ≡ z
place_read z h = omega (arith, ints, h)

pub row_plain : (plan : Plan) (b : OuterBox) → IsPlan plan → IsBox b → (r : ℤ) → r ≡ slot plan.grid.g (read b.ylo) → r ≡ slot plan.grid.g b.ylo
row_plain plan b is reach r e = e ∙ ap (λ (z : ℤ). slot plan.grid.g z) (place_read b.ylo reach.ylo)

-- ---- a child whose parts are made

module _ (plan : Plan) (b : OuterBox) (is : IsPlan plan) (reach : IsBox b) (y : List Pt) (child : IsChildIn b.ylo b.yhi plan.e.v y) (convex : IsCornerList y) (first : ℤ) (count few : ℕ)
    (first_is : first ≡ slot (read plan.grid.g) (least_place y)) (count_is : count ≡ slots_met (read plan.grid.g) (least_place y) (greatest_place y)) (few_is : few ≤ count) where
  first_plain : first ≡ slot plan.grid.g (least_place y)
  first_plain = first_is ∙ ap (λ (z : ℤ). slot z (least_place y)) (width_read plan.grid.g is.grid.g)

  count_plain : count ≡ slots_met plan.grid.g (least_place y) (greatest_place y)
  count_plain = count_is ∙ ap (λ (z : ℤ). slots_met z (least_place y) (greatest_place y)) (width_read plan.grid.g is.grid.g)

  small : nat_abs first ≤ 400_000_000
  small = subst (λ (z : ℤ). nat_abs z ≤ 400_000_000) (sym first_plain) (first_small plan.grid.g b.ylo b.yhi plan.e.v y is.grid.g reach.ylo reach.yhi reach.y is.bounds.v child convex)

  pub of_first : nat_abs (read first) ≤ 1_000_000_000
  of_first = subst (λ (z : ℤ). nat_abs z ≤ 1_000_000_000) (sym (small_read first small)) (let h = small in omega (arith, h))

  pub of_near : (j : ℕ) → j < few → IsNear (read plan.grid.g) (read first +ℤ pos j)
  of_near j l = subst (λ (z : ℤ). IsNear z (read first +ℤ pos j)) (sym (width_read plan.grid.g is.grid.g)) (subst (λ (z : ℤ). IsNear plan.grid.g (z +ℤ pos j)) (sym (small_read first small ∙ first_plain))
      (near_slot plan.grid.g b.ylo b.yhi plan.e.v y is.grid.g reach.ylo reach.yhi reach.y is.bounds.v child convex j (subst (λ (n : ℕ). j < n) count_plain (omega (arith, l, few_is)))))

  pub of_parts : (known : List (Option FrameNumbers)) → few ≤ 8 → length known ≡ 8 → AreRows few (read plan.grid.g) (read first) plan.k y known
      → ArePartsIn plan b (record { y = y; first = read first; count = count; few = few; known = known })
  of_parts known most long are = record {
    child = child;
    convex = convex;
    first_is = small_read first small ∙ first_plain;
    count_is = count_plain;
    few = most;
    enough = long;
    known_are = subst (λ (z : ℤ). AreRows few z (read first) plan.k y known) (width_read plan.grid.g is.grid.g) are;
  }
