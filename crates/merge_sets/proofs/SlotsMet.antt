-- The slots that a polygon meets, and all others.
use Rattle.std.proofs.Common.{◌≡◌, ◌∙◌, ◌⊎◌, ℕ, ◌+◌, ◌≤◌, ◌<◌, arith, ap, sym, refl, subst, List, [], ◌∷◌, map, inl, inr}
use Rattle.std.specs.Prelude.{nat_abs}
use Rattle.std.specs.List.{AllByRecursion}
use Rattle.std.specs.Int.{int_min, int_max}
use Rattle.std.proofs.lemmas.Int.{ints, clamps, by_lt_z}
use lib.IntN.{ℤ, pos, neg_ℤ, ◌+ℤ◌, ◌-ℤ◌, ◌*ℤ◌}
use lib.Signed.{◌≤ℤ◌, ◌<ℤ◌}
use Rattle.spot_terms.specs.BaseSets.{least_place, greatest_place}
use Rattle.spot_terms.specs.ClippedTo.{places, IsClippedAway}
use Rattle.spot_terms.specs.Courses.{slots_met}
use Rattle.spot_terms.specs.Grid.{slot, slot_low, slot_high}
use Rattle.spot_terms.specs.Hull.{IsCornerList}
use Rattle.spot_terms.specs.Lists.{Includes}
use Rattle.spot_terms.specs.Whole.{Within, least, greatest}
use Rattle.spot_terms.specs.declared.plain.Pt.{Pt}
use Rattle.spot_terms.proofs.ListLemmas.{all_included, all_of, includes_map}
use Rattle.spot_terms.proofs.Quotients.{product_le_at, next_product_gt_at}
use Rattle.spot_terms.proofs.Ring.{ring, var, ◌⊖◌, ◌⊗◌}
use Rattle.merge_sets.specs.Cells.{IsNear}
use Rattle.merge_sets.proofs.BoxCells.{counted_slots}
use Rattle.merge_sets.proofs.PartSlots.{none_outside}
use Rattle.merge_sets.proofs.PolyEnds.{places_order}
use Rattle.spot_terms.proofs.Orders.{at_most_trans, product_not_negative}
use Rattle.spot_terms.proofs.QuotientBounds.{next_product}
use Rattle.spot_terms.proofs.Slots.{slots_rise, some_width}

-- ---- least and greatest places

least_at_most : (a z : ℤ) (xs : List ℤ) → z ≤ℤ a → least z xs ≤ℤ a
least_at_most a z [] h = h
least_at_most a z (x ∷ xs) h = least_at_most a (int_min z x) xs (omega (arith, ints, clamps, h))

greatest_at_least : (a z : ℤ) (xs : List ℤ) → a ≤ℤ z → a ≤ℤ greatest z xs
greatest_at_least a z [] h = h
greatest_at_least a z (x ∷ xs) h = greatest_at_least a (int_max z x) xs (omega (arith, ints, clamps, h))

least_of : (z : ℤ) (xs : List ℤ) (x : ℤ) → Includes xs x → least z xs ≤ℤ x
least_of z [] x i = absurd i
least_of z (y ∷ xs) x (inl e) = least_at_most x (int_min z y) xs (subst (λ (u : ℤ). int_min z y ≤ℤ u) (sym e) (omega (arith, ints, clamps)))
least_of z (y ∷ xs) x (inr i) = least_of (int_min z y) xs x i

greatest_of : (z : ℤ) (xs : List ℤ) (x : ℤ) → Includes xs x → x ≤ℤ greatest z xs
greatest_of z [] x i = absurd i
greatest_of z (y ∷ xs) x (inl e) = greatest_at_least x (int_max z y) xs (subst (λ (u : ℤ). u ≤ℤ int_max z y) (sym e) (omega (arith, ints, clamps)))
greatest_of z (y ∷ xs) x (inr i) = greatest_of (int_max z y) xs x i

-- each place of a polygon is from the least to the greatest
pub all_between : (vs : List Pt) → AllByRecursion (λ v. Within (least_place vs) (greatest_place vs) v.x) vs
all_between [] = tt
all_between (v ∷ vs) = (
  record { low = least_at_most v.x v.x (map (λ d. d.x) vs) (omega (arith, ints)); high = greatest_at_least v.x v.x (map (λ d. d.x) vs) (omega (arith, ints)) },
  all_of (λ u. Within (least_place (v ∷ vs)) (greatest_place (v ∷ vs)) u.x) vs (λ u i. record {
    low = least_of v.x (map (λ d. d.x) vs) u.x (includes_map (λ d. d.x) vs u i);
    high = greatest_of v.x (map (λ d. d.x) vs) u.x (includes_map (λ d. d.x) vs u i);
  }),
)

least_above : (lo z : ℤ) (vs : List Pt) → lo ≤ℤ z → ((u : Pt) → Includes vs u → lo ≤ℤ u.x) → lo ≤ℤ least z (map (λ d. d.x) vs)
least_above lo z [] h each = h
least_above lo z (v ∷ vs) h each = least_above lo (int_min z v.x) vs (let first = each v (inl refl) in both lo z v.x h first) (λ u i. each u (inr i))
  where
    both : (lo z x : ℤ) → lo ≤ℤ z → lo ≤ℤ x → lo ≤ℤ int_min z x
    both lo z x h k = omega (arith, ints, clamps)

greatest_below : (hi z : ℤ) (vs : List Pt) → z ≤ℤ hi → ((u : Pt) → Includes vs u → u.x ≤ℤ hi) → greatest z (map (λ d. d.x) vs) ≤ℤ hi
greatest_below hi z [] h each = h
greatest_below hi z (v ∷ vs) h each = greatest_below hi (int_max z v.x) vs (let first = each v (inl refl) in both hi z v.x h first) (λ u i. each u (inr i))
  where
    both : (hi z x : ℤ) → z ≤ℤ hi → x ≤ℤ hi → int_max z x ≤ℤ hi
    both hi z x h k = omega (arith, ints, clamps)

-- the ends of a polygon between two places are between these
pub least_within : (lo hi : ℤ) (vs : List Pt) → IsCornerList vs → AllByRecursion (λ v. Within lo hi v.x) vs → lo ≤ℤ least_place vs
least_within lo hi [] convex all = absurd convex
least_within lo hi (v ∷ vs) convex all = least_above lo v.x vs all.0.low (λ u i. (all_included (λ w. Within lo hi w.x) vs u all.1 i).low)

pub greatest_within : (lo hi : ℤ) (vs : List Pt) → IsCornerList vs → AllByRecursion (λ v. Within lo hi v.x) vs → greatest_place vs ≤ℤ hi
greatest_within lo hi [] convex all = absurd convex
greatest_within lo hi (v ∷ vs) convex all = greatest_below hi v.x vs all.0.high (λ u i. (all_included (λ w. Within lo hi w.x) vs u all.1 i).high)

-- ---- slots that a polygon meets, and others

-- a slot before the first that a polygon meets, or after the last, has no part of it
pub none_there : (vs : List Pt) (width c : ℤ) → pos 0 <ℤ width → IsCornerList vs → (c <ℤ slot width (least_place vs)) ⊎ (slot width (greatest_place vs) <ℤ c)
    → IsClippedAway (places (slot_low width c) (slot_high width c)) vs
none_there vs width c some convex out = none_outside vs width (least_place vs) (greatest_place vs) c some convex (all_between vs) out

times_order : (c q width : ℤ) → pos 0 <ℤ width → c ≤ℤ q → (c *ℤ width) ≤ℤ (q *ℤ width)
times_order c q width some l =
    let p : pos 0 ≤ℤ ((q -ℤ c) *ℤ width) = product_not_negative (q -ℤ c) width (omega (arith, ints, l)) (omega (arith, ints, some)) in
    let e : (q -ℤ c) *ℤ width ≡ q *ℤ width -ℤ c *ℤ width = ring (q ∷ c ∷ width ∷ []) ((var 0 ⊖ var 1) ⊗ var 2) ((var 0 ⊗ var 2) ⊖ (var 1 ⊗ var 2)) refl in
    omega (arith, ints, p, e)

-- slots that meet places which aren't far off aren't far off
pub near_met : (width least greatest c : ℤ) → pos 0 <ℤ width → nat_abs least ≤ 40_000_000_000_000 → nat_abs greatest ≤ 40_000_000_000_000 → Within (slot width least) (slot width greatest) c → IsNear width c
near_met width least greatest c some h k w = record {
  low = under (c *ℤ width) (slot width greatest *ℤ width) greatest (times_order c (slot width greatest) width some w.high) (product_le_at greatest width (slot width greatest) some refl) k;
  high = over (c *ℤ width) (slot width least *ℤ width) least width (times_order (slot width least) c width some w.low)
      (subst (λ (z : ℤ). least <ℤ z) (next_product width (slot width least)) (next_product_gt_at least width (slot width least) some refl)) h;
}
  where
    under : (z y g : ℤ) → z ≤ℤ y → y ≤ℤ g → nat_abs g ≤ 40_000_000_000_000 → z ≤ℤ pos 40_000_000_000_000
    under z y g p q r = omega (arith, ints, p, q, r)

    over : (z y l width : ℤ) → y ≤ℤ z → l <ℤ (y +ℤ width) → nat_abs l ≤ 40_000_000_000_000 → neg_ℤ (pos 40_000_000_000_000) ≤ℤ (z +ℤ width -ℤ pos 1)
    over z y l width p q r = omega (arith, ints, p, q, r)

size_between : (lo hi z : ℤ) → nat_abs lo ≤ 40_000_000_000_000 → nat_abs hi ≤ 40_000_000_000_000 → lo ≤ℤ z → z ≤ℤ hi → nat_abs z ≤ 40_000_000_000_000
size_between lo hi z h k p q = omega (arith, ints, h, k, p, q)

-- a polygon between two places meets slots that these meet
pub record MeetsWithin (width lo hi : ℤ) (vs : List Pt) : Type 0 where
  pub some : pos 0 <ℤ width
  pub low : slot width lo ≤ℤ slot width (least_place vs)
  pub order : slot width (least_place vs) ≤ℤ slot width (greatest_place vs)
  pub high : slot width (greatest_place vs) ≤ℤ slot width hi
  pub near : (j : ℕ) → j < slots_met width (least_place vs) (greatest_place vs) → IsNear width (slot width (least_place vs) +ℤ pos j)

pub meets_within : (width lo hi : ℤ) (vs : List Pt) → Within (pos 100_000) (pos 100_000_000) width → nat_abs lo ≤ 40_000_000_000_000 → nat_abs hi ≤ 40_000_000_000_000 → IsCornerList vs → AllByRecursion (λ v. Within lo hi v.x) vs → MeetsWithin width lo hi vs
meets_within width lo hi vs w l h convex all =
    let some = some_width width w in
    let low = least_within lo hi vs convex all in
    let high = greatest_within lo hi vs convex all in
    let order = places_order vs in
    let least_size = size_between lo hi (least_place vs) l h low (at_most_trans (least_place vs) (greatest_place vs) hi order high) in
    let greatest_size = size_between lo hi (greatest_place vs) l h (at_most_trans lo (least_place vs) (greatest_place vs) low order) high in
    let slots = slots_rise width (least_place vs) (greatest_place vs) some order in
    record {
      some = some;
      low = slots_rise width lo (least_place vs) some low;
      order = slots;
      high = slots_rise width (greatest_place vs) hi some high;
      near = λ j less. near_met width (least_place vs) (greatest_place vs) (slot width (least_place vs) +ℤ pos j) some least_size greatest_size (counted_slots (slot width (least_place vs)) (slot width (greatest_place vs)) j slots less);
    }

-- a slot is one of those from the first to the last, or it is before or after them
pub slot_side : (left right c : ℤ) → Within left right c ⊎ ((c <ℤ left) ⊎ (right <ℤ c))
slot_side left right c = by_lt_z c left (λ l. inr (inl l)) (λ h. by_lt_z right c (λ l. inr (inr l)) (λ k. inl (record { low = h; high = k })))
