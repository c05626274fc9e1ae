-- The way that lies furthest to the right, of ways that are all on one side of a line.
use Rattle.std.proofs.Common.{◌≡◌, ℕ, zero, suc, ◌+◌, ◌≤◌, ◌<◌, arith, refl, sym, ap, ◌∙◌, subst, List, [], ◌∷◌, length, get_or, inl, inr}
use Rattle.std.proofs.lemmas.Int.{ints, by_lt_z}
use lib.IntN.{ℤ, pos, negsuc, ◌+ℤ◌, ◌-ℤ◌, ◌*ℤ◌}
use lib.Signed.{◌≤ℤ◌, ◌<ℤ◌}
use Rattle.spot_terms.specs.declared.plain.Pt.{Pt}
use Rattle.spot_terms.specs.Lists.{Includes}
use Rattle.spot_terms.proofs.Products.{square_not_negative}
use Rattle.spot_terms.proofs.Ring.{ring, Exp, var, num, ◌⊕◌, ◌⊖◌, ◌⊗◌}
use Rattle.convex_poly.specs.Pivots.{IsLeftwards, AreLeftwards, LeansTo}
use Rattle.convex_poly.specs.Vectors.{minus, turn_of, inner_product}
use Rattle.spot_terms.proofs.ListLemmas.{includes_at}
use Rattle.spot_terms.proofs.Orders.{below_or_here, equal_of_difference, negative_clash, not_positive_of_opposite, opposite_not_negative, opposite_of_negative, opposite_times, opposites_times, sum_not_negative, times_opposite, times_zero, zero_not_negative, zero_not_positive, zero_times, product_not_negative, factor_not_negative, positive_not_negative, product_positive, antisymmetric}
use Rattle.spot_terms.proofs.Places.{same_index, place_of}
use Rattle.convex_poly.proofs.Pivots.{turn_back, turn_ok}

abbrev turn_exp : Exp → Exp → Exp → Exp → Exp
turn_exp ax ay bx by = (ax ⊗ by) ⊖ (ay ⊗ bx)

abbrev along_exp : Exp → Exp → Exp → Exp → Exp
along_exp ax ay bx by = (ax ⊗ bx) ⊕ (ay ⊗ by)

four_turns : (v c r s : Pt) → turn_of v c *ℤ turn_of r s ≡ (turn_of v r *ℤ turn_of c s) +ℤ (turn_of v s *ℤ turn_of r c)
four_turns v c r s =
    ring (v.x ∷ v.y ∷ c.x ∷ c.y ∷ r.x ∷ r.y ∷ s.x ∷ s.y ∷ [])
    (turn_exp (var 0) (var 1) (var 2) (var 3) ⊗ turn_exp (var 4) (var 5) (var 6) (var 7))
    ((turn_exp (var 0) (var 1) (var 4) (var 5) ⊗ turn_exp (var 2) (var 3) (var 6) (var 7)) ⊕ (turn_exp (var 0) (var 1) (var 6) (var 7) ⊗ turn_exp (var 4) (var 5) (var 2) (var 3))) refl

-- the turn of two ways by what they make with a third
pub turn_by : (v c r : Pt) → inner_product v v *ℤ turn_of c r ≡ (inner_product v c *ℤ turn_of v r) -ℤ (turn_of v c *ℤ inner_product v r)
turn_by v c r =
    ring (v.x ∷ v.y ∷ c.x ∷ c.y ∷ r.x ∷ r.y ∷ [])
    (along_exp (var 0) (var 1) (var 0) (var 1) ⊗ turn_exp (var 2) (var 3) (var 4) (var 5))
    ((along_exp (var 0) (var 1) (var 2) (var 3) ⊗ turn_exp (var 0) (var 1) (var 4) (var 5)) ⊖ (turn_exp (var 0) (var 1) (var 2) (var 3) ⊗ along_exp (var 0) (var 1) (var 4) (var 5))) refl

pub along_by : (v c r : Pt) → inner_product v v *ℤ inner_product c r ≡ (inner_product v c *ℤ inner_product v r) +ℤ (turn_of v c *ℤ turn_of v r)
along_by v c r =
    ring (v.x ∷ v.y ∷ c.x ∷ c.y ∷ r.x ∷ r.y ∷ [])
    (along_exp (var 0) (var 1) (var 0) (var 1) ⊗ along_exp (var 2) (var 3) (var 4) (var 5))
    ((along_exp (var 0) (var 1) (var 2) (var 3) ⊗ along_exp (var 0) (var 1) (var 4) (var 5)) ⊕ (turn_exp (var 0) (var 1) (var 2) (var 3) ⊗ turn_exp (var 0) (var 1) (var 4) (var 5))) refl

-- a way with something left of it isn't 0
pub not_none : (v c : Pt) → IsLeftwards v c → pos 0 <ℤ inner_product v v
not_none v c l = by_lt_z (pos 0) (inner_product v v) (λ h. h) (λ h. absurd (elim l [
  | inl t ↦ zero_not_positive (turn_of v c) (turn_flat v c (flat v.x v.y h) (flat v.y v.x (turned (v.x *ℤ v.x) (v.y *ℤ v.y) h))) t
  | inr t ↦ zero_not_positive (inner_product v c) (along_flat v c (flat v.x v.y h) (flat v.y v.x (turned (v.x *ℤ v.x) (v.y *ℤ v.y) h))) t.1
]))
  where
    turned : (z w : ℤ) → (z +ℤ w) ≤ℤ pos 0 → (w +ℤ z) ≤ℤ pos 0
    turned z w h = omega (arith, ints)

    flat : (x y : ℤ) → ((x *ℤ x) +ℤ (y *ℤ y)) ≤ℤ pos 0 → x ≡ pos 0
    flat (pos zero) y h = refl
    flat (pos (suc n)) y h = absurd (omega (arith, ints, square_not_negative y, h))
    flat (negsuc n) y h = absurd (omega (arith, ints, square_not_negative y, h))

    none : (z w : ℤ) → (pos 0 *ℤ z) -ℤ (pos 0 *ℤ w) ≡ pos 0
    none z w = omega (arith, ints)

    none_sum : (z w : ℤ) → (pos 0 *ℤ z) +ℤ (pos 0 *ℤ w) ≡ pos 0
    none_sum z w = omega (arith, ints)

    turn_flat : (v c : Pt) → v.x ≡ pos 0 → v.y ≡ pos 0 → turn_of v c ≡ pos 0
    turn_flat v c e f = ap (λ z. (z *ℤ c.y) -ℤ (v.y *ℤ c.x)) e ∙ ap (λ z. (pos 0 *ℤ c.y) -ℤ (z *ℤ c.x)) f ∙ none c.y c.x

    along_flat : (v c : Pt) → v.x ≡ pos 0 → v.y ≡ pos 0 → inner_product v c ≡ pos 0
    along_flat v c e f = ap (λ z. (z *ℤ c.x) +ℤ (v.y *ℤ c.y)) e ∙ ap (λ z. (pos 0 *ℤ c.x) +ℤ (z *ℤ c.y)) f ∙ none_sum c.x c.y

-- r is right of c, so what isn't right of c isn't right of r
further_right : (v c r s : Pt) → IsLeftwards v c → IsLeftwards v r → IsLeftwards v s → turn_of c r <ℤ pos 0 → pos 0 ≤ℤ turn_of c s → pos 0 ≤ℤ turn_of r s
further_right v c r s (inl h) lr ls right keep =
    factor_not_negative (turn_of v c) (turn_of r s) h (subst (λ z. pos 0 ≤ℤ z) (sym (four_turns v c r s))
    (sum_not_negative (turn_of v r *ℤ turn_of c s) (turn_of v s *ℤ turn_of r c) (product_not_negative (turn_of v r) (turn_of c s) (turn_ok v r lr) keep)
    (product_not_negative (turn_of v s) (turn_of r c) (turn_ok v s ls) (flipped (turn_of c r) (turn_of r c) (turn_back c r) right))))
  where
    flipped : (z w : ℤ) → w ≡ pos 0 -ℤ z → z <ℤ pos 0 → pos 0 ≤ℤ w
    flipped z w e h = omega (arith, ints)
further_right v c r s (inr h) lr ls right keep =
    absurd (negative_clash (turn_of c r) right (factor_not_negative (inner_product v v) (turn_of c r) (not_none v c (inr h)) (subst (λ z. pos 0 ≤ℤ z) (sym (turn_by v c r))
    (apart (inner_product v c *ℤ turn_of v r) (turn_of v c) (inner_product v r) h.0 (product_not_negative (inner_product v c) (turn_of v r) (positive_not_negative (inner_product v c) h.1) (turn_ok v r lr))))))
  where
    lose : (p a : ℤ) → pos 0 ≤ℤ p → pos 0 ≤ℤ (p -ℤ (pos 0 *ℤ a))
    lose p a h = omega (arith, ints)

    apart : (p t a : ℤ) → t ≡ pos 0 → pos 0 ≤ℤ p → pos 0 ≤ℤ (p -ℤ (t *ℤ a))
    apart p t a e h = subst (λ z. pos 0 ≤ℤ (p -ℤ (z *ℤ a))) (sym e) (lose p a h)

-- ---- what isn't right of c is left of it, or in its direction

module _ (v c s : Pt) (lc : IsLeftwards v c) (ls : IsLeftwards v s) (flat : turn_of c s ≡ pos 0) (low : inner_product c s ≤ℤ pos 0) where
  -- of v: its turns and products with s by those with c
  turns_same : inner_product v c *ℤ turn_of v s ≡ turn_of v c *ℤ inner_product v s
  turns_same = both (inner_product v c *ℤ turn_of v s) (turn_of v c *ℤ inner_product v s) (inner_product v v) (turn_of c s) (turn_by v c s) flat
    where
      both : (p q k t : ℤ) → k *ℤ t ≡ p -ℤ q → t ≡ pos 0 → p ≡ q
      both p q k t e f = equal_of_difference p q (sym (times_zero k) ∙ ap (λ z. k *ℤ z) (sym f) ∙ e)

  -- the products are at most 0 together
  sum_low : ((inner_product v c *ℤ inner_product v s) +ℤ (turn_of v c *ℤ turn_of v s)) ≤ℤ pos 0
  sum_low = subst (λ z. z ≤ℤ pos 0) (along_by v c s) (lowered (inner_product v v) (inner_product c s) (not_none v c lc) low)
    where
      lowered : (k t : ℤ) → pos 0 <ℤ k → t ≤ℤ pos 0 → (k *ℤ t) ≤ℤ pos 0
      lowered k t h g = not_positive_of_opposite (k *ℤ t) (subst (λ z. pos 0 ≤ℤ z) (ring (k ∷ t ∷ []) (var 0 ⊗ (num (pos 0) ⊖ var 1)) (num (pos 0) ⊖ (var 0 ⊗ var 1)) refl) (product_not_negative k (pos 0 -ℤ t) (positive_not_negative k h) (opposite_not_negative t g)))

  above : (p q : ℤ) → pos 0 <ℤ p → pos 0 ≤ℤ q → (p +ℤ q) ≤ℤ pos 0 → ⊥
  above p q h k l = omega (arith, ints)

  above_other : (p q : ℤ) → pos 0 ≤ℤ p → pos 0 <ℤ q → (p +ℤ q) ≤ℤ pos 0 → ⊥
  above_other p q h k l = omega (arith, ints)

  none_left : (z w : ℤ) → z ≡ pos 0 → z *ℤ w ≡ pos 0
  none_left z w e = ap (λ u. u *ℤ w) e ∙ zero_times w

  none_right : (z w : ℤ) → w ≡ pos 0 → z *ℤ w ≡ pos 0
  none_right z w e = ap (λ u. z *ℤ u) e ∙ times_zero z

  same_zero : (p q : ℤ) → p ≡ q → pos 0 <ℤ p → q ≡ pos 0 → ⊥
  same_zero p q e h f = omega (arith, ints)

  against : IsLeftwards v c → IsLeftwards v s → ⊥
  against (inl tc) (inl ts) = by_lt_z (inner_product v c) (pos 0) (λ neg. both_neg neg) (λ ok. above_other (inner_product v c *ℤ inner_product v s) (turn_of v c *ℤ turn_of v s) (rest ok) (product_positive (turn_of v c) (turn_of v s) tc ts) sum_low)
    where
      -- inner_product v c and inner_product v s have one sign, since the turns have
      rest : pos 0 ≤ℤ inner_product v c → pos 0 ≤ℤ (inner_product v c *ℤ inner_product v s)
      rest ok = product_not_negative (inner_product v c) (inner_product v s) ok (factor_not_negative (turn_of v c) (inner_product v s) tc (subst (λ z. pos 0 ≤ℤ z) turns_same (product_not_negative (inner_product v c) (turn_of v s) ok (positive_not_negative (turn_of v s) ts))))

      both_neg : inner_product v c <ℤ pos 0 → ⊥
      both_neg neg =
          let s_neg : pos 0 ≤ℤ (pos 0 -ℤ inner_product v s) = factor_not_negative (turn_of v c) (pos 0 -ℤ inner_product v s) tc
          (subst (λ z. pos 0 ≤ℤ z) (opposite_times (inner_product v c) (turn_of v s) ∙ ap (λ z. pos 0 -ℤ z) turns_same ∙ sym (times_opposite (turn_of v c) (inner_product v s))) (product_not_negative (pos 0 -ℤ inner_product v c) (turn_of v s) (opposite_of_negative (inner_product v c) neg) (positive_not_negative (turn_of v s) ts))) in
          above_other (inner_product v c *ℤ inner_product v s) (turn_of v c *ℤ turn_of v s) (subst (λ z. pos 0 ≤ℤ z) (opposites_times (inner_product v c) (inner_product v s)) (product_not_negative (pos 0 -ℤ inner_product v c) (pos 0 -ℤ inner_product v s) (opposite_of_negative (inner_product v c) neg) s_neg)) (product_positive (turn_of v c) (turn_of v s) tc ts) sum_low
  against (inl tc) (inr hs) = same_zero (turn_of v c *ℤ inner_product v s) (inner_product v c *ℤ turn_of v s) (sym turns_same) (product_positive (turn_of v c) (inner_product v s) tc hs.1) (none_right (inner_product v c) (turn_of v s) hs.0)
  against (inr hc) (inl ts) = same_zero (inner_product v c *ℤ turn_of v s) (turn_of v c *ℤ inner_product v s) turns_same (product_positive (inner_product v c) (turn_of v s) hc.1 ts) (none_left (turn_of v c) (inner_product v s) hc.0)
  against (inr hc) (inr hs) = above (inner_product v c *ℤ inner_product v s) (turn_of v c *ℤ turn_of v s) (product_positive (inner_product v c) (inner_product v s) hc.1 hs.1) (zero_not_negative (turn_of v c *ℤ turn_of v s) (none_left (turn_of v c) (turn_of v s) hc.0)) sum_low

pub leans_on : (v c s : Pt) → IsLeftwards v c → IsLeftwards v s → pos 0 ≤ℤ turn_of c s → IsLeftwards c s
leans_on v c s lc ls h = by_lt_z (pos 0) (turn_of c s) (λ k. inl k)
    (λ k. let e : turn_of c s ≡ pos 0 = antisymmetric (turn_of c s) (pos 0) k h in inr (e, by_lt_z (pos 0) (inner_product c s) (λ l. l) (λ l. absurd (against v c s lc ls e l lc ls))))

-- ---- the loops

self_turn : (c : Pt) → pos 0 ≤ℤ turn_of c c
self_turn c = zero_not_negative (turn_of c c) (ring (c.x ∷ c.y ∷ []) (turn_exp (var 0) (var 1) (var 0) (var 1)) (num (pos 0)) refl)

-- the ways to p from the first i points of b
abbrev pub FirstWays : Pt → List Pt → ℕ → Pt → Type 0
FirstWays p b i s = (k : ℕ) × (d : Pt) × (k < i) × (s ≡ minus p (get_or b k d))

pub leans_none : (v from p : Pt) (b : List Pt) → IsLeftwards v from → LeansTo v from from (FirstWays p b 0)
leans_none v from p b l = record { leftwards = l; before = λ s ls h. h; others = λ s o. absurd (let k = o.2 in omega (arith, k)) }

-- one more way, which isn't right of the one so far
pub leans_keep : (v from to p : Pt) (b : List Pt) (i : ℕ) (d next : Pt) → i < length b → next ≡ minus p (get_or b i d) → LeansTo v from to (FirstWays p b i) → pos 0 ≤ℤ turn_of to next → LeansTo v from to (FirstWays p b (i + 1))
leans_keep v from to p b i d next inside is l h = record {
  leftwards = l.leftwards;
  before = l.before;
  others = λ s o. elim (below_or_here o.0 i o.2) [
    | inl low ↦ l.others s (o.0, o.1, low, o.3)
    | inr here ↦ subst (λ (z : Pt). pos 0 ≤ℤ turn_of to z) (is ∙ ap (minus p) (sym (same_index b i o.0 o.1 d (omega (arith, here, inside)) here)) ∙ sym o.3) h
  ];
}

-- one more way, which is right of it
pub leans_next : (v from to p : Pt) (b : List Pt) (i : ℕ) (d next : Pt) → i < length b → next ≡ minus p (get_or b i d) → AreLeftwards v p b → LeansTo v from to (FirstWays p b i) → turn_of to next <ℤ pos 0 → LeansTo v from next (FirstWays p b (i + 1))
leans_next v from to p b i d next inside is all l h = record {
  leftwards = here;
  before = λ s ls k. further_right v to next s l.leftwards here ls h (l.before s ls k);
  others = λ s o. elim (below_or_here o.0 i o.2) [
    | inl low ↦ further_right v to next s l.leftwards here (subst (IsLeftwards v) (sym o.3) (all (get_or b o.0 o.1) (includes_at b o.0 o.1 (omega (arith, low, inside))))) h (l.others s (o.0, o.1, low, o.3))
    | inr at ↦ subst (λ (z : Pt). pos 0 ≤ℤ turn_of next z) (is ∙ ap (minus p) (sym (same_index b i o.0 o.1 d (omega (arith, at, inside)) at)) ∙ sym o.3) (self_turn next)
  ];
}
  where
    here : IsLeftwards v next
    here = subst (IsLeftwards v) (sym is) (all (get_or b i d) (includes_at b i d inside))

pub leans_whole : (v from to p : Pt) (b : List Pt) (i : ℕ) → length b ≤ i → LeansTo v from to (FirstWays p b i) → LeansTo v from to (λ s. (q : Pt) × Includes b q × (s ≡ minus p q))
leans_whole v from to p b i h l = record {
  leftwards = l.leftwards;
  before = l.before;
  others = λ s o. let (k, m, e) = place_of b o.0 o.0 o.1 in l.others s (k, o.0, omega (arith, m, h), o.2 ∙ ap (minus p) (sym e));
}

-- to lies no further left than the ways to the first i points of a
pub record IsRightmost (v to : Pt) (a b : List Pt) (i : ℕ) : Type 0 where
  pub leftwards : IsLeftwards v to
  pub others : (k : ℕ) (d : Pt) (q : Pt) → k < i → Includes b q → pos 0 ≤ℤ turn_of to (minus (get_or a k d) q)

pub rightmost_none : (v to : Pt) (a b : List Pt) → IsLeftwards v to → IsRightmost v to a b 0
rightmost_none v to a b l = record { leftwards = l; others = λ k d q h. absurd (omega (arith, h)) }

pub rightmost_next : (v from to : Pt) (a b : List Pt) (i : ℕ) (d : Pt) → i < length a → ((p : Pt) → Includes a p → AreLeftwards v p b) → IsRightmost v from a b i → LeansTo v from to (λ s. (q : Pt) × Includes b q × (s ≡ minus (get_or a i d) q)) → IsRightmost v to a b (i + 1)
rightmost_next v from to a b i d inside all r l = record {
  leftwards = l.leftwards;
  others = λ k e q h j. elim (below_or_here k i h) [
    | inl low ↦ l.before (minus (get_or a k e) q) (all (get_or a k e) (includes_at a k e (omega (arith, low, inside))) q j) (r.others k e q low j)
    | inr here ↦ l.others (minus (get_or a k e) q) (q, j, ap (λ (z : Pt). minus z q) (same_index a i k e d (omega (arith, here, inside)) here))
  ];
}

pub rightmost_all : (v to : Pt) (a b : List Pt) (i : ℕ) → length a ≤ i → ((p : Pt) → Includes a p → AreLeftwards v p b) → IsRightmost v to a b i → (p : Pt) → Includes a p → AreLeftwards to p b
rightmost_all v to a b i h all r p j q m = let (k, l, e) = place_of a p p j in
    leans_on v to (minus p q) r.leftwards (all p j q m) (subst (λ (z : Pt). pos 0 ≤ℤ turn_of to (minus z q)) e (r.others k p q (omega (arith, l, h)) m))
