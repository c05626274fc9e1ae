-- The corner of a corner list that comes last, and the parts of the list up to it and from it.
use Rattle.std.proofs.Common.{◌≡◌, ℕ, zero, suc, ◌+◌, ◌-◌, ◌≤◌, ◌<◌, arith, refl, sym, ap, ◌∙◌, subst, List, [], ◌∷◌, length, get_or, inl, inr}
use Rattle.std.proofs.lemmas.Int.{by_lt_z}
use Rattle.std.specs.List.{AllByRecursion}
use Rattle.std.specs.Prelude.{nat_abs}
use lib.IntN.{ℤ, pos, ◌+ℤ◌, ◌-ℤ◌, ◌*ℤ◌}
use lib.Signed.{◌≤ℤ◌, ◌<ℤ◌}
use Rattle.spot_terms.specs.declared.plain.Pt.{Pt}
use Rattle.spot_terms.specs.Hull.{Before, IsCornerList}
use Rattle.spot_terms.proofs.ListLemmas.{includes_at}
use Rattle.spot_terms.proofs.Hulls.{hull_included}
use Rattle.spot_terms.proofs.Ring.{ring, Exp, var, ◌⊕◌, ◌⊖◌, ◌⊗◌}
use Rattle.spot_terms.proofs.Orders.{antisymmetric, below_of_difference, below_trans, sum_positive, product_not_negative, product_positive, difference_positive, below_or_at_least, positive_not_negative, zero_not_positive, below_not_equal}
use Rattle.convex_poly.specs.Chains.{key}
use Rattle.convex_poly.specs.Polygons.{IsPosition, IsSummand}
use Rattle.convex_poly.specs.Sums.{IsTop}
use Rattle.convex_poly.specs.Turns.{cross}
use Rattle.convex_poly.proofs.Chains.{positive_part}
use Rattle.convex_poly.proofs.CornerCounts.{IsAfter, after_all, fan_all}
use Rattle.convex_poly.proofs.Corners.{FanLeft, corner_fan, hull_edges_left}
use Rattle.convex_poly.proofs.Crosses.{cross_exp}
use Rattle.convex_poly.proofs.HullCorners.{before_key, far, key_before}
use Rattle.spot_terms.proofs.Places.{all_at, all_map, same_index}
use Rattle.spot_terms.proofs.OneHull.{cross_second, same_pt}

-- ---- turns at the first corner

fan_pairs : (o a : Pt) (bs : List Pt) → IsAfter o a → AllByRecursion (IsAfter o) bs → FanLeft o a bs → (i j : ℕ) (d : Pt) → i < j → j < length (a ∷ bs) → pos 0 <ℤ cross o (get_or (a ∷ bs) i d) (get_or (a ∷ bs) j d)
fan_pairs o a bs ha hb f zero zero d h l = absurd (omega arith)
fan_pairs o a bs ha hb f (suc i) zero d h l = absurd (omega arith)
fan_pairs o a bs ha hb f zero (suc j) d h l = all_at (λ b. pos 0 <ℤ cross o a b) bs j d (fan_all o a bs ha hb f) (omega arith)
fan_pairs o a [] ha hb f (suc i) (suc j) d h l = absurd (omega arith)
fan_pairs o a (b ∷ bs) ha hb f (suc i) (suc j) d h l = fan_pairs o b bs hb.0 hb.1 f.1 i j d (omega arith) (omega arith)

-- of three points after o that turn left, the key of the third is below that of the second where that is below the first
fall_sum : (kx ky ox oy ax ay bx by cx cy : ℤ) → (((kx *ℤ bx) +ℤ (ky *ℤ by)) -ℤ ((kx *ℤ cx) +ℤ (ky *ℤ cy))) *ℤ (((ax -ℤ ox) *ℤ (by -ℤ oy)) -ℤ ((ay -ℤ oy) *ℤ (bx -ℤ ox)))
    ≡ ((((bx -ℤ ox) *ℤ (cy -ℤ oy)) -ℤ ((by -ℤ oy) *ℤ (cx -ℤ ox))) *ℤ (((kx *ℤ ax) +ℤ (ky *ℤ ay)) -ℤ ((kx *ℤ bx) +ℤ (ky *ℤ by)))) +ℤ ((((bx -ℤ ax) *ℤ (cy -ℤ ay)) -ℤ ((by -ℤ ay) *ℤ (cx -ℤ ax))) *ℤ (((kx *ℤ bx) +ℤ (ky *ℤ by)) -ℤ ((kx *ℤ ox) +ℤ (ky *ℤ oy))))
fall_sum kx ky ox oy ax ay bx by cx cy =
    let K : Exp → Exp → Exp = λ x y. (var 0 ⊗ x) ⊕ (var 1 ⊗ y) in
    ring (kx ∷ ky ∷ ox ∷ oy ∷ ax ∷ ay ∷ bx ∷ by ∷ cx ∷ cy ∷ [])
    ((K (var 6) (var 7) ⊖ K (var 8) (var 9)) ⊗ cross_exp (var 2) (var 3) (var 4) (var 5) (var 6) (var 7))
    ((cross_exp (var 2) (var 3) (var 6) (var 7) (var 8) (var 9) ⊗ (K (var 4) (var 5) ⊖ K (var 6) (var 7))) ⊕ (cross_exp (var 4) (var 5) (var 6) (var 7) (var 8) (var 9) ⊗ (K (var 6) (var 7) ⊖ K (var 2) (var 3)))) refl

fall_on : (kx ky : ℤ) (o a b c : Pt) → key kx ky o <ℤ key kx ky b → key kx ky b <ℤ key kx ky a → pos 0 <ℤ cross o a b → pos 0 <ℤ cross o b c → pos 0 ≤ℤ cross a b c → key kx ky c <ℤ key kx ky b
fall_on kx ky o a b c ob ba oab obc abc =
    below_of_difference _ _ (positive_part (key kx ky b -ℤ key kx ky c) (cross o a b) oab
    (subst (λ z. pos 0 <ℤ z) (sym (fall_sum kx ky o.x o.y a.x a.y b.x b.y c.x c.y))
    (sum_positive _ _ (product_positive _ _ obc (difference_positive _ _ ba)) (product_not_negative _ _ abc (positive_not_negative _ (difference_positive _ _ ob))))))

module _ (vs : List Pt) (positions : AllByRecursion IsPosition vs) (convex : IsCornerList vs) where
  -- two corners turn left as seen from the first
  pub turns_at_first : (i j : ℕ) (d : Pt) → 0 < i → i < j → j < length vs → pos 0 <ℤ cross (get_or vs 0 d) (get_or vs i d) (get_or vs j d)
  turns_at_first = of vs positions convex
    where
      of : (vs : List Pt) → AllByRecursion IsPosition vs → IsCornerList vs → (i j : ℕ) (d : Pt) → 0 < i → i < j → j < length vs → pos 0 <ℤ cross (get_or vs 0 d) (get_or vs i d) (get_or vs j d)
      of [] p c i j d h k l = absurd (omega arith)
      of (o ∷ []) p c i j d h k l = absurd (omega arith)
      of (o ∷ a ∷ bs) p c zero j d h k l = absurd (omega arith)
      of (o ∷ a ∷ bs) p c (suc i) zero d h k l = absurd (omega arith)
      of (o ∷ a ∷ bs) p c (suc i) (suc j) d h k l =
          let after = after_all o (a ∷ bs) p.0 p.1 c.0 in
          fan_pairs o a bs after.0 after.1 (corner_fan o a bs c) i j d (omega arith) (omega arith)

  -- each corner is left of each edge, or on it
  pub left_of_edge : (i j k : ℕ) (d : Pt) → j ≡ i + 1 → j < length vs → k < length vs → pos 0 ≤ℤ cross (get_or vs i d) (get_or vs j d) (get_or vs k d)
  left_of_edge i j k d e hj hk = hull_edges_left vs (get_or vs k d) convex (hull_included vs (get_or vs k d) (includes_at vs k d hk)) i j d e hj

  pub first_before : (i : ℕ) (d : Pt) → 0 < i → i < length vs → Before (get_or vs 0 d) (get_or vs i d)
  first_before = of vs convex
    where
      of : (vs : List Pt) → IsCornerList vs → (i : ℕ) (d : Pt) → 0 < i → i < length vs → Before (get_or vs 0 d) (get_or vs i d)
      of [] c i d h l = absurd (omega arith)
      of (o ∷ rest) c zero d h l = absurd (omega arith)
      of (o ∷ rest) c (suc i) d h l = all_at (Before o) rest i d c.0 (omega arith)

  -- the key that rises in the order of points
  abbrev pub rank : ℕ → Pt → ℤ
  rank i d = key far (pos 1) (get_or vs i d)

  pub rank_up : (i j : ℕ) (d : Pt) → i < length vs → j < length vs → Before (get_or vs i d) (get_or vs j d) → rank i d <ℤ rank j d
  rank_up i j d hi hj b = before_key (get_or vs i d) (get_or vs j d) (all_at IsPosition vs i d positions hi) (all_at IsPosition vs j d positions hj) b

  -- ---- down from the top

  -- a fall of the key is followed by a fall
  fall_step : (h i j : ℕ) (d : Pt) → i ≡ h + 1 → j ≡ h + 2 → 0 < h → j < length vs → rank i d <ℤ rank h d → rank j d <ℤ rank i d
  fall_step h i j d hi hj h0 n f =
      fall_on far (pos 1) (get_or vs 0 d) (get_or vs h d) (get_or vs i d) (get_or vs j d)
      (rank_up 0 i d (omega arith) (omega arith) (first_before i d (omega arith) (omega arith))) f
      (turns_at_first h i d h0 (omega arith) (omega arith)) (turns_at_first i j d (omega arith) (omega arith) n)
      (left_of_edge h i j d hi (omega arith) n)

  falls_next : (k t m : ℕ) (d : Pt) → t ≡ k + m → 0 < k → rank (k + 1) d <ℤ rank k d → t + 1 < length vs → rank (t + 1) d <ℤ rank t d
  falls_next k t zero d e h f n = let k_is : k ≡ t = omega arith in subst (λ i. rank (i + 1) d <ℤ rank i d) k_is f
  falls_next k t (suc m) d e h f n =
      let t_is : t - 1 + 1 ≡ t = omega arith in
      fall_step (t - 1) t (t + 1) d (omega arith) (omega arith) (omega arith) n
      (subst (λ i. rank i d <ℤ rank (t - 1) d) t_is (falls_next k (t - 1) m d (omega arith) h f (omega arith)))

  falls_far : (k i j n : ℕ) (d : Pt) → j ≡ i + n + 1 → 0 < k → rank (k + 1) d <ℤ rank k d → k ≤ i → j < length vs → rank j d <ℤ rank i d
  falls_far k i j zero d e h f ki l =
      let j_is : i + 1 ≡ j = omega arith in
      subst (λ t. rank t d <ℤ rank i d) j_is (falls_next k i (i - k) d (omega arith) h f (omega arith))
  falls_far k i j (suc n) d e h f ki l =
      let j_is : j - 1 + 1 ≡ j = omega arith in
      below_trans _ _ _ (subst (λ t. rank t d <ℤ rank (j - 1) d) j_is (falls_next k (j - 1) (j - 1 - k) d (omega arith) h f (omega arith)))
      (falls_far k i (j - 1) n d (omega arith) h f ki (omega arith))

  falls : (k i j : ℕ) (d : Pt) → 0 < k → rank (k + 1) d <ℤ rank k d → k ≤ i → i < j → j < length vs → rank j d <ℤ rank i d
  falls k i j d h f ki ij n = falls_far k i j (j - i - 1) d (omega arith) h f ki n

  -- the corner after the top isn't later
  pub top_here : (k : ℕ) (d : Pt) → ((i j : ℕ) (e : Pt) → i < j → j ≤ k → Before (get_or vs i e) (get_or vs j e)) → k + 1 < length vs → (Before (get_or vs k d) (get_or vs (k + 1) d) → ⊥) → IsTop vs k
  top_here k d up n stays = record {
    within = omega arith;
    up = up;
    down = λ i j e ki ij l. key_before (get_or vs j e) (get_or vs i e) (all_at IsPosition vs j e positions l) (all_at IsPosition vs i e positions (omega arith)) (falls k i j e some (down e) ki ij l);
  }
    where
      later : (e : Pt) → Before (get_or vs k e) (get_or vs (k + 1) e) → ⊥
      later e b = stays (subst (λ (z : Pt). Before z (get_or vs (k + 1) d)) (same_index vs k k e d (omega arith) refl) (subst (λ (z : Pt). Before (get_or vs k e) z) (same_index vs (k + 1) (k + 1) e d n refl) b))

      some : 0 < k
      some = elim (below_or_at_least 0 k) [
        | inl above ↦ above
        | inr none ↦
            let k_is : 0 ≡ k = omega arith in
            absurd (later d (subst (λ t. Before (get_or vs t d) (get_or vs (t + 1) d)) k_is (first_before 1 d (omega arith) (omega arith))))
      ]

      differs : (a b c : Pt) → pos 0 <ℤ cross a b c → b ≡ c → ⊥
      differs a b c h e = zero_not_positive (cross a b c) (ap (λ (z : Pt). cross a z c) e ∙ cross_second a c) h

      -- of two different points one is before the other
      down : (e : Pt) → rank (k + 1) e <ℤ rank k e
      down e = by_lt_z (rank (k + 1) e) (rank k e) (λ less. less)
          (λ more. absurd (apart (get_or vs k e) (get_or vs (k + 1) e) (all_at IsPosition vs k e positions (omega arith)) (all_at IsPosition vs (k + 1) e positions n) more (later e) (differs (get_or vs 0 e) (get_or vs k e) (get_or vs (k + 1) e) (turns_at_first k (k + 1) e some (omega arith) n))))
        where
          apart : (p q : Pt) → IsPosition p → IsPosition q → key far (pos 1) p ≤ℤ key far (pos 1) q → (Before p q → ⊥) → (p ≡ q → ⊥) → ⊥
          apart p q hp hq le nb ne =
              by_lt_z (key far (pos 1) p) (key far (pos 1) q) (λ less. nb (key_before p q hp hq less))
              (λ ge. let same : key far (pos 1) p ≡ key far (pos 1) q = antisymmetric _ _ le ge in
              by_lt_z p.x q.x (λ less. nb (inl less))
              (λ back. by_lt_z q.x p.x (λ more. swapped p q (before_key q p hq hp (inl more)) same)
              (λ level. by_lt_z p.y q.y (λ less. nb (inr (antisymmetric _ _ level back, less)))
              (λ high. by_lt_z q.y p.y (λ above. swapped p q (before_key q p hq hp (inr (antisymmetric _ _ back level, above))) same)
              (λ even. ne (same_pt p q (antisymmetric _ _ level back) (antisymmetric _ _ even high)))))))
            where
              swapped : (p q : Pt) → key far (pos 1) q <ℤ key far (pos 1) p → key far (pos 1) p ≡ key far (pos 1) q → ⊥
              swapped p q h e = below_not_equal _ _ h (sym e)

-- the corner after the top is later
pub top_later : (vs : List Pt) (k : ℕ) (d : Pt) → ((i j : ℕ) (e : Pt) → i < j → j ≤ k → Before (get_or vs i e) (get_or vs j e)) → k + 1 < length vs → Before (get_or vs k d) (get_or vs (k + 1) d) → (i j : ℕ) (e : Pt) → i < j → j ≤ k + 1 → Before (get_or vs i e) (get_or vs j e)
top_later vs k d up n next i j e ij jk =
    elim (below_or_at_least j (k + 1)) [
      | inl low ↦ up i j e ij (omega arith)
      | inr high ↦ let j_is : k + 1 ≡ j = omega arith in subst (λ t. Before (get_or vs i e) (get_or vs t e)) j_is (last i (omega arith))
    ]
  where
    step : Before (get_or vs k e) (get_or vs (k + 1) e)
    step = subst (λ (z : Pt). Before z (get_or vs (k + 1) e)) (same_index vs k k d e (omega arith) refl) (subst (λ (z : Pt). Before (get_or vs k d) z) (same_index vs (k + 1) (k + 1) d e n refl) next)

    before_on : (p q r : Pt) → Before p q → Before q r → Before p r
    before_on p q r (inl a) (inl b) = inl (below_trans p.x q.x r.x a b)
    before_on p q r (inl a) (inr b) = inl (subst (λ z. p.x <ℤ z) b.0 a)
    before_on p q r (inr a) (inl b) = inl (subst (λ z. z <ℤ r.x) (sym a.0) b)
    before_on p q r (inr a) (inr b) = inr (a.0 ∙ b.0, below_trans p.y q.y r.y a.1 b.1)

    last : (i : ℕ) → i ≤ k → Before (get_or vs i e) (get_or vs (k + 1) e)
    last i h = elim (below_or_at_least i k) [
      | inl less ↦ before_on (get_or vs i e) (get_or vs k e) (get_or vs (k + 1) e) (up i k e less (omega arith)) step
      | inr same ↦ let i_is : k ≡ i = omega arith in subst (λ t. Before (get_or vs t e) (get_or vs (k + 1) e)) i_is step
    ]

-- summands are positions
pub summand_positions : (vs : List Pt) → AllByRecursion IsSummand vs → AllByRecursion IsPosition vs
summand_positions vs h = all_map IsSummand IsPosition (λ u s. record { x = wide u.x s.x; y = wide u.y s.y }) vs h
  where
    wide : (z : ℤ) → nat_abs z ≤ 20000000000000 → nat_abs z ≤ 40000000000000
    wide z h = omega arith
