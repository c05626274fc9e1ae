-- Lengths that are lowered along edges from one number.
use Rattle.std.proofs.Common.{◌≡◌, ◌⊎◌, inl, inr, ℕ, zero, suc, ◌+◌, ◌≤◌, ◌<◌, arith, refl, sym, ap, ◌∙◌, subst, List, [], ◌∷◌, length}
use Rattle.std.specs.Prelude.{slice_get, slice_set, Some, None, Option, Result, Ok, Err, OnOk}
use Rattle.std.proofs.lemmas.Option.{same_Some}
use Rattle.spot_terms.specs.Cells.{Lane}
use Rattle.spot_terms.specs.Gaps.{IsGap}
use Rattle.spot_terms.specs.Lists.{Includes}
use Rattle.spot_terms.specs.declared.plain.Pt.{Pt}
use Rattle.spot_terms.proofs.Gaps.{gap_one}
use Rattle.lane_paths.specs.declared.shortest_lengths.ShortestLengths.{ShortestLengths}
use Rattle.lane_paths.specs.declared.shortest_lengths.Waypoint.{Waypoint}
use Rattle.lane_paths.specs.Edges.{Edge, HasAtMost, sum_of}
use Rattle.lane_paths.specs.Relaxations.{HasPlaces, IsDone, IsNotLesser, Relaxes, StepsTo, size_of}
use Rattle.spot_terms.proofs.ItemPlaces.{get_set_either}
use Rattle.spot_terms.proofs.Orders.{natural_trans}

-- ---- the sum of the lengths

-- a length that is made less makes the sum less
sum_set : (limit : ℕ) (lengths : List (Option ℕ)) (i n : ℕ) → i < length lengths → n ≤ limit → ((k : ℕ) → slice_get lengths i ≡ Some (Some k) → n < k)
    → sum_of limit (slice_set lengths i (Some n)) < sum_of limit lengths
sum_set limit [] i n h low above = absurd (omega arith)
sum_set limit (None ∷ lengths) zero n h low above = omega arith
sum_set limit (Some m ∷ lengths) zero n h low above = let l : n < m = above m refl in omega (arith, l)
sum_set limit (None ∷ lengths) (suc i) n h low above = let l : sum_of limit (slice_set lengths i (Some n)) < sum_of limit lengths = sum_set limit lengths i n (omega arith) low above in omega (arith, l)
sum_set limit (Some m ∷ lengths) (suc i) n h low above = let l : sum_of limit (slice_set lengths i (Some n)) < sum_of limit lengths = sum_set limit lengths i n (omega arith) low above in omega (arith, l)

-- ---- one after the other

-- what is at most one of two is at most the other
pub most_on : (lengths : List (Option ℕ)) (i k m : ℕ) → k ≤ m → HasAtMost lengths i k → HasAtMost lengths i m
most_on lengths i k m l h = (h.0, h.1, let t = h.2 in omega (arith, t, l))

-- a length that is kept
pub most_kept : (P : Edge → Type 0) (m i k : ℕ) (a b : ShortestLengths) → Relaxes P m a b → HasAtMost a.lengths i k → HasAtMost b.lengths i k
most_kept P m i k a b g h = most_on b.lengths i h.0 k h.2 (g.kept i h.0 h.1)

-- nothing was done, where no edge makes a length less
pub relaxes_settled : (P : Edge → Type 0) (m : ℕ) (s : ShortestLengths) → ((e : Edge) → P e → m + e.gap ≤ s.limit → HasAtMost s.lengths e.to (m + e.gap)) → Relaxes P m s s
relaxes_settled P m s settled = record {
  count_same = refl;
  limit_same = refl;
  many_same = refl;
  kept = λ i k h. (k, h, omega arith);
  made = λ i k h. inl h;
  settled = settled;
  noted = λ d k h. inl h;
  waits = λ x h. h;
  within = λ x h. inl h;
  smaller = omega arith;
}

-- nothing was done, where P holds of nothing
pub relaxes_none : (P : Edge → Type 0) (m : ℕ) (s : ShortestLengths) → ((e : Edge) → P e → ⊥) → Relaxes P m s s
relaxes_none P m s none = relaxes_settled P m s (λ e h low. absurd (none e h))

-- one after the other
pub relaxes_then : (P Q R : Edge → Type 0) (m : ℕ) (a b c : ShortestLengths) → Relaxes P m a b → Relaxes Q m b c → ((e : Edge) → P e → R e) → ((e : Edge) → Q e → R e) → ((e : Edge) → R e → P e ⊎ Q e) → Relaxes R m a c
relaxes_then P Q R m a b c g h first then back = record {
  count_same = h.count_same ∙ g.count_same;
  limit_same = h.limit_same ∙ g.limit_same;
  many_same = h.many_same ∙ g.many_same;
  kept = λ i k is. most_kept Q m i k b c h (g.kept i k is);
  made = λ i k is. elim (h.made i k is) [
    | inl j ↦ elim (g.made i k j) [ inl old ↦ inl old | inr (e, p, to, sum, low) ↦ inr (e, first e p, to, sum, low) ]
    | inr (e, q, to, sum, low) ↦ inr (e, then e q, to, sum, subst (λ (z : ℕ). k ≤ z) g.limit_same low)
  ];
  settled = λ e r low. elim (back e r) [
    | inl p ↦ most_kept Q m e.to (m + e.gap) b c h (g.settled e p low)
    | inr q ↦ h.settled e q (subst (λ (z : ℕ). m + e.gap ≤ z) (sym g.limit_same) low)
  ];
  noted = λ d k is. elim (h.noted d k (subst (λ (z : ℕ). slice_get c.lengths (z + d) ≡ Some (Some k)) (sym g.count_same) is)) [
    | inl j ↦ elim (g.noted d k (subst (λ (z : ℕ). slice_get b.lengths (z + d) ≡ Some (Some k)) g.count_same j)) [ inl old ↦ inl old | inr new ↦ inr (h.waits (k, d) new) ]
    | inr new ↦ inr new
  ];
  waits = λ x i. h.waits x (g.waits x i);
  within = λ x i. elim (h.within x i) [ inl j ↦ g.within x j | inr l ↦ inr (subst (λ (z : ℕ). x.1 < z) g.count_same l) ];
  smaller = let l = g.smaller in let k = h.smaller in natural_trans (size_of c) (size_of b) (size_of a) k l;
}

-- the same in other words
pub relaxes_as : (P Q : Edge → Type 0) (m : ℕ) (before after : ShortestLengths) → Relaxes P m before after → ((e : Edge) → P e → Q e) → ((e : Edge) → Q e → P e) → Relaxes Q m before after
relaxes_as P Q m before after g to back = record {
  count_same = g.count_same;
  limit_same = g.limit_same;
  many_same = g.many_same;
  kept = g.kept;
  made = λ i k is. elim (g.made i k is) [ inl old ↦ inl old | inr (e, p, end, sum, low) ↦ inr (e, to e p, end, sum, low) ];
  settled = λ e q low. g.settled e (back e q) low;
  noted = g.noted;
  waits = g.waits;
  within = g.within;
  smaller = g.smaller;
}

-- the places stay
pub places_on : (lanes : List Lane) (P : Edge → Type 0) (m : ℕ) (before after : ShortestLengths) → Relaxes P m before after → HasPlaces lanes before → HasPlaces lanes after
places_on lanes P m before after g h = record {
  count_is = g.count_same ∙ h.count_is;
  many = g.many_same ∙ h.many ∙ ap (λ (n : ℕ). n + n + 1) (sym g.count_same);
  within = λ x i. subst (λ (z : ℕ). x.1 < z) (sym g.count_same) (elim (g.within x i) [ inl j ↦ h.within x j | inr l ↦ l ]);
}

-- what holds on success, in other words
pub on_ok : {T E : Type 0} (r : Result T E) (P Q : Type 0) → (P → Q) → OnOk r P → OnOk r Q
on_ok (Ok x) P Q f h = f h
on_ok (Err e) P Q f h = h

-- ---- one step

-- where it is so by way of what is at most the gap, the length by way of x is no less than the one that there is
pub not_lesser : (s : ShortestLengths) (x : Waypoint) (to : ℕ) (points : List Pt) (n : ℕ) → ((g : ℕ) → IsGap x.shape points g → n ≤ g) → IsDone s (x.length + n) to → IsNotLesser s x to points
not_lesser s x to points n least (inl far) g gap low = absurd (let l = least g gap in omega (arith, l, far, low))
not_lesser s x to points n least (inr has) g gap low = let l = least g gap in most_on s.lengths to (x.length + n) (x.length + g) (omega (arith, l)) has

-- the step made no length less
pub step_none : (i j m : ℕ) (a b : List Pt) (s : ShortestLengths) → ((g : ℕ) → IsGap a b g → m + g ≤ s.limit → HasAtMost s.lengths j (m + g)) → Relaxes (StepsTo i j a b) m s s
step_none i j m a b s none = relaxes_settled (StepsTo i j a b) m s (λ e (from, to, gap) low. subst (λ (z : ℕ). HasAtMost s.lengths z (m + e.gap)) (sym to) (none e.gap gap low))

-- what is known of a step that made a length less
pub record IsStep (j n : ℕ) (before after : ShortestLengths) : Type 0 where
  pub count_is : after.count ≡ before.count
  pub limit_is : after.limit ≡ before.limit
  pub lengths_are : after.lengths ≡ slice_set before.lengths j (Some n)
  pub noted : (d : ℕ) → j ≡ before.count + d → Includes after.frontier (n, d)
  pub waits : (x : ℕ × ℕ) → Includes before.frontier x → Includes after.frontier x
  pub within : (x : ℕ × ℕ) → Includes after.frontier x → Includes before.frontier x ⊎ (x.1 < before.count)
  pub more : length after.frontier ≤ length before.frontier + 1

-- the step made a length less
pub step_less : (i j m n g : ℕ) (a b : List Pt) (before after : ShortestLengths) → IsStep j n before after → j < length before.lengths → IsGap a b g → n ≡ m + g → n ≤ before.limit
    → ((k : ℕ) → slice_get before.lengths j ≡ Some (Some k) → n < k) → Relaxes (StepsTo i j a b) m before after
step_less i j m n g a b before after s inside gap sum low above = record {
  count_same = s.count_is;
  limit_same = s.limit_is;
  many_same = ap length s.lengths_are ∙ length_set before.lengths j (Some n);
  kept = λ q k is. elim (either q) [
    | inl (same, new) ↦ (n, new, let l = above k (subst (λ (z : ℕ). slice_get before.lengths z ≡ Some (Some k)) same is) in omega (arith, l))
    | inr (other, old) ↦ (k, old ∙ is, omega arith)
  ];
  made = λ q k is. elim (either q) [
    | inl (same, new) ↦ inr (record { from = i; to = j; gap = g }, (refl, refl, gap), sym same, sym (number n k (sym new ∙ is)) ∙ sum, subst (λ (z : ℕ). z ≤ before.limit) (number n k (sym new ∙ is)) low)
    | inr (other, old) ↦ inl (sym old ∙ is)
  ];
  settled = λ e (from, to, e_gap) e_low. elim (either e.to) [
    | inl (same, new) ↦ (n, new, let one = gap_one a b e.gap g e_gap gap in omega (arith, one, sum))
    | inr (other, old) ↦ absurd (elim other [ inl l ↦ omega (arith, l, to) | inr l ↦ omega (arith, l, to) ])
  ];
  noted = λ d k is. elim (either (before.count + d)) [
    | inl (same, new) ↦ inr (subst (λ (z : ℕ). Includes after.frontier (z, d)) (number n k (sym new ∙ is)) (s.noted d (sym same)))
    | inr (other, old) ↦ inl (sym old ∙ is)
  ];
  waits = s.waits;
  within = s.within;
  smaller = less;
}
  where
    number : (x y : ℕ) → Some (Some x) ≡ Some (Some y) → x ≡ y
    number x y e = same_Some x y (same_Some (Some x) (Some y) e)

    either : (q : ℕ) → ((q ≡ j) × (slice_get after.lengths q ≡ Some (Some n))) ⊎ (((j < q) ⊎ (q < j)) × (slice_get after.lengths q ≡ slice_get before.lengths q))
    either q = subst (λ (z : List (Option ℕ)). ((q ≡ j) × (slice_get z q ≡ Some (Some n))) ⊎ (((j < q) ⊎ (q < j)) × (slice_get z q ≡ slice_get before.lengths q))) (sym s.lengths_are)
        (get_set_either before.lengths j q (Some n) inside)

    less : size_of after ≤ size_of before
    less =
        let l : sum_of before.limit (slice_set before.lengths j (Some n)) < sum_of before.limit before.lengths = sum_set before.limit before.lengths j n inside low above in
        let e : sum_of after.limit after.lengths ≡ sum_of before.limit (slice_set before.lengths j (Some n)) = ap (λ (z : ℕ). sum_of z after.lengths) s.limit_is ∙ ap (sum_of before.limit) s.lengths_are in
        let k = s.more in
        omega (arith, l, e, k)

    length_set : (xs : List (Option ℕ)) (q : ℕ) (x : Option ℕ) → length (slice_set xs q x) ≡ length xs
    length_set [] q x = refl
    length_set (y ∷ xs) zero x = refl
    length_set (y ∷ xs) (suc q) x = ap (λ (z : ℕ). suc z) (length_set xs q x)
