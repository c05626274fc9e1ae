-- The two sides of a corner list: the corners up to the one that comes last, and those from it back to the first.
use Rattle.std.proofs.Common.{◌≡◌, ℕ, zero, suc, ◌+◌, ◌-◌, ◌≤◌, ◌<◌, arith, refl, sym, ap, ◌∙◌, subst, List, [], ◌∷◌, ◌++◌, length, get_or, take, drop, length-append, get_or-take, ◌⊎◌, inl, inr}
use Rattle.std.proofs.Math.ListN.{get_or-append}
use Rattle.std.proofs.lemmas.List.{get_or-append-add, get_or-drop, length-drop, length-take-le}
use Rattle.std.specs.List.{AllByRecursion}
use lib.IntN.{pos, ◌-ℤ◌}
use lib.Signed.{◌≤ℤ◌, ◌<ℤ◌}
use Rattle.spot_terms.specs.declared.plain.Pt.{Pt}
use Rattle.spot_terms.specs.Hull.{Before, IsCornerList}
use Rattle.spot_terms.specs.Lists.{Includes}
use Rattle.spot_terms.proofs.ListLemmas.{includes_at, includes_itself}
use Rattle.spot_terms.proofs.Ring.{ring, num, var, ◌⊖◌}
use Rattle.spot_terms.proofs.Orders.{asymmetric, opposite_negative, below_or_at_least}
use Rattle.convex_poly.specs.Chains.{key, HasMeetingEnds, Rising}
use Rattle.convex_poly.specs.Polygons.{IsPosition}
use Rattle.convex_poly.specs.Sums.{IsOver, IsPart, IsSide, IsTop}
use Rattle.convex_poly.specs.Turns.{cross}
use Rattle.convex_poly.proofs.Chains.{key_neg}
use Rattle.convex_poly.proofs.ChainSteps.{all_take}
use Rattle.convex_poly.proofs.Corners.{origin}
use Rattle.convex_poly.proofs.Crosses.{cross_exp}
use Rattle.convex_poly.proofs.HullCorners.{before_key, far}
use Rattle.spot_terms.proofs.Places.{all_at, all_by_index, place_of}
use Rattle.convex_poly.proofs.Tops.{first_before, left_of_edge, rank_up, turns_at_first}

-- ---- turns the other way round
turn_middle : (a b c : Pt) → pos 0 <ℤ cross a c b → cross a b c ≤ℤ pos 0
turn_middle a b c h = subst (λ z. z ≤ℤ pos 0) (sym (swap a b c)) (opposite_negative _ h)
  where
    swap : (a b c : Pt) → cross a b c ≡ pos 0 -ℤ cross a c b
    swap a b c = ring (a.x ∷ a.y ∷ b.x ∷ b.y ∷ c.x ∷ c.y ∷ []) (cross_exp (var 0) (var 1) (var 2) (var 3) (var 4) (var 5)) (num (pos 0) ⊖ cross_exp (var 0) (var 1) (var 4) (var 5) (var 2) (var 3)) refl

turn_back : (a b c : Pt) → pos 0 <ℤ cross c b a → cross a b c ≤ℤ pos 0
turn_back a b c h = subst (λ z. z ≤ℤ pos 0) (sym (swap a b c)) (opposite_negative _ h)
  where
    swap : (a b c : Pt) → cross a b c ≡ pos 0 -ℤ cross c b a
    swap a b c = ring (a.x ∷ a.y ∷ b.x ∷ b.y ∷ c.x ∷ c.y ∷ []) (cross_exp (var 0) (var 1) (var 2) (var 3) (var 4) (var 5)) (num (pos 0) ⊖ cross_exp (var 4) (var 5) (var 2) (var 3) (var 0) (var 1)) refl

clash : (p q : Pt) → IsPosition p → IsPosition q → Before p q → Before q p → ⊥
clash p q hp hq a b = asymmetric _ _ (before_key p q hp hq a) (before_key q p hq hp b)

-- ---- the two parts

-- one point each of one, or at least two each
pub record AreSingle (vs there back : List Pt) : Type 0 where
  pub all_one : length vs ≡ 1
  pub there_one : length there ≡ 1
  pub back_one : length back ≡ 1

pub record AreMany (vs there back : List Pt) : Type 0 where
  pub there_two : 2 ≤ length there
  pub back_two : 2 ≤ length back
  pub all : length there + length back ≡ length vs + 2

pub record AreParts (vs there back : List Pt) : Type 0 where
  pub part_there : IsPart far (pos 1) vs there
  pub part_back : IsPart (pos 0 -ℤ far) (pos 0 -ℤ pos 1) vs back
  pub meet : HasMeetingEnds there back
  pub sizes : AreSingle vs there back ⊎ AreMany vs there back

module _ (vs : List Pt) (positions : AllByRecursion IsPosition vs) (convex : IsCornerList vs) (k : ℕ) (top : IsTop vs k) where
  up : (i j : ℕ) (d : Pt) → i < length vs → j < length vs → Before (get_or vs i d) (get_or vs j d) → key far (pos 1) (get_or vs i d) <ℤ key far (pos 1) (get_or vs j d)
  up i j d hi hj b = rank_up vs positions convex i j d hi hj b

  down : (i j : ℕ) (d : Pt) → i < length vs → j < length vs → Before (get_or vs j d) (get_or vs i d) → key (pos 0 -ℤ far) (pos 0 -ℤ pos 1) (get_or vs i d) <ℤ key (pos 0 -ℤ far) (pos 0 -ℤ pos 1) (get_or vs j d)
  down i j d hi hj b = key_neg far (pos 1) (get_or vs j d) (get_or vs i d) (up j i d hj hi b)

  -- ---- the part there

  there_size : length (take (k + 1) vs) ≡ k + 1
  there_size = length-take-le (k + 1) vs (omega (arith, top.within))

  there_at : (i : ℕ) (d : Pt) → i < k + 1 → get_or (take (k + 1) vs) i d ≡ get_or vs i d
  there_at i d h = get_or-take (k + 1) vs i d h

  there_side : IsSide far (pos 1) (take (k + 1) vs)
  there_side = record {
    rises = λ i j d ij l.
        let w : k < length vs = top.within in
        rw (there_at i d (omega (arith, there_size)), there_at j d (omega (arith, there_size)))
        (up i j d (omega (arith, there_size)) (omega (arith, there_size)) (top.up i j d ij (omega (arith, there_size))));
    turns = λ i j m d hj hm l.
        let w : k < length vs = top.within in
        rw (there_at i d (omega (arith, there_size)), there_at j d (omega (arith, there_size)), there_at m d (omega (arith, there_size)))
        (left_of_edge vs positions convex i j m d hj (omega (arith, there_size)) (omega (arith, there_size)));
  }

  there_others : (q : Pt) (i : ℕ) (d : Pt) → Includes vs q → i + 1 ≡ length (take (k + 1) vs) → Includes (take (k + 1) vs) q ⊎ IsOver far (pos 1) (get_or (take (k + 1) vs) 0 d) (get_or (take (k + 1) vs) i d) q
  there_others q i d has e = let (m, l, is) = place_of vs q d has in by m l is
    where
      i_is : i ≡ k
      i_is = omega (arith, there_size, e)

      by : (m : ℕ) → m < length vs → get_or vs m d ≡ q → Includes (take (k + 1) vs) q ⊎ IsOver far (pos 1) (get_or (take (k + 1) vs) 0 d) (get_or (take (k + 1) vs) i d) q
      by m l is = elim (below_or_at_least m (k + 1)) [
        | inl low ↦ inl (subst (Includes (take (k + 1) vs)) (there_at m d low ∙ is) (includes_at (take (k + 1) vs) m d (omega (arith, there_size, low))))
        | inr high ↦ inr (
            rw (there_at 0 d (omega arith), there_at i d (omega (arith, i_is)), i_is, ← is)
            (let back : Before (get_or vs m d) (get_or vs k d) = top.down k m d (omega arith) (omega (arith, high)) l in
            record {
              after = up 0 m d (omega (arith, l)) l (first_before vs positions convex m d (omega (arith, high)) l);
              before = up m k d l top.within back;
              left = turn_middle (get_or vs 0 d) (get_or vs m d) (get_or vs k d) (turns_at_first vs positions convex k m d (some m high l) (omega (arith, high)) l);
            }))
      ]
        where
          some : (m : ℕ) → k + 1 ≤ m → m < length vs → 0 < k
          some m high l = elim (below_or_at_least 0 k) [
            | inl above ↦ above
            | inr none ↦
                let k_is : k ≡ 0 = omega arith in
                absurd (clash (get_or vs 0 d) (get_or vs m d) (all_at IsPosition vs 0 d positions (omega (arith, l))) (all_at IsPosition vs m d positions l)
                (first_before vs positions convex m d (omega (arith, high)) l)
                (subst (λ t. Before (get_or vs m d) (get_or vs t d)) k_is (top.down k m d (omega arith) (omega (arith, high)) l)))
          ]

  there_part : IsPart far (pos 1) vs (take (k + 1) vs)
  there_part = record { side = there_side; inside = all_take (Includes vs) (k + 1) vs (includes_itself vs); others = there_others }

  -- ---- the part back

  -- of more corners than one: r is the corners from the top, and the first one again
  module _ (r : List Pt) (k0 : 0 < k) (size : length r + k ≡ length vs + 1) (low_at : (i j : ℕ) (d : Pt) → j ≡ k + i → j < length vs → get_or r i d ≡ get_or vs j d) (end_at : (i : ℕ) (d : Pt) → k + i ≡ length vs → get_or r i d ≡ get_or vs 0 d) where
    back_rises : Rising (pos 0 -ℤ far) (pos 0 -ℤ pos 1) r
    back_rises i j d ij l =
        elim (below_or_at_least (k + j) (length vs)) [
          | inl low ↦
              rw (low_at i (k + i) d refl (omega arith), low_at j (k + j) d refl low)
              (down (k + i) (k + j) d (omega arith) low (top.down (k + i) (k + j) d (omega arith) (omega arith) low))
          | inr high ↦
              rw (low_at i (k + i) d refl (omega (arith, size)), end_at j d (omega (arith, size)))
              (down (k + i) 0 d (omega (arith, size)) (omega (arith, size)) (first_before vs positions convex (k + i) d (omega arith) (omega (arith, size))))
        ]

    back_turns : (i j m : ℕ) (d : Pt) → j ≡ i + 1 → m ≡ i + 2 → m < length r → pos 0 ≤ℤ cross (get_or r i d) (get_or r j d) (get_or r m d)
    back_turns i j m d hj hm l =
        elim (below_or_at_least (k + m) (length vs)) [
          | inl low ↦
              rw (low_at i (k + i) d refl (omega arith), low_at j (k + j) d refl (omega arith), low_at m (k + m) d refl low)
              (left_of_edge vs positions convex (k + i) (k + j) (k + m) d (omega arith) (omega arith) low)
          | inr high ↦
              rw (low_at i (k + i) d refl (omega (arith, size)), low_at j (k + j) d refl (omega (arith, size)), end_at m d (omega (arith, size)))
              (left_of_edge vs positions convex (k + i) (k + j) 0 d (omega arith) (omega (arith, size)) (omega (arith, size)))
        ]

    back_inside : AllByRecursion (Includes vs) r
    back_inside = all_by_index (Includes vs) r (λ i d l.
        elim (below_or_at_least (k + i) (length vs)) [
          | inl low ↦ subst (Includes vs) (sym (low_at i (k + i) d refl low)) (includes_at vs (k + i) d low)
          | inr high ↦ subst (Includes vs) (sym (end_at i d (omega (arith, size)))) (includes_at vs 0 d (omega (arith, size)))
        ])

    back_others : (q : Pt) (i : ℕ) (d : Pt) → Includes vs q → i + 1 ≡ length r → Includes r q ⊎ IsOver (pos 0 -ℤ far) (pos 0 -ℤ pos 1) (get_or r 0 d) (get_or r i d) q
    back_others q i d has e = let (m, l, is) = place_of vs q d has in by m l is
      where
        by : (m : ℕ) → m < length vs → get_or vs m d ≡ q → Includes r q ⊎ IsOver (pos 0 -ℤ far) (pos 0 -ℤ pos 1) (get_or r 0 d) (get_or r i d) q
        by zero l is = inl (subst (Includes r) (end_at i d (omega (arith, size)) ∙ is) (includes_at r i d (omega arith)))
        by (suc m) l is = elim (below_or_at_least (suc m) k) [
          | inr high ↦ inl (subst (Includes r) (low_at (suc m - k) (suc m) d (omega arith) l ∙ is) (includes_at r (suc m - k) d (omega (arith, size))))
          | inl low ↦ inr (
              rw (low_at 0 k d (omega arith) top.within, end_at i d (omega (arith, size)), ← is)
              (record {
                after = down k (suc m) d top.within l (top.up (suc m) k d low (omega arith));
                before = down (suc m) 0 d l (omega arith) (first_before vs positions convex (suc m) d (omega arith) l);
                left = turn_back (get_or vs k d) (get_or vs (suc m) d) (get_or vs 0 d) (turns_at_first vs positions convex (suc m) k d (omega arith) low top.within);
              }))
        ]

    back_of_many : IsPart (pos 0 -ℤ far) (pos 0 -ℤ pos 1) vs r
    back_of_many = record { side = record { rises = back_rises; turns = back_turns }; inside = back_inside; others = back_others }

    meets_of_many : HasMeetingEnds (take (k + 1) vs) r
    meets_of_many = record {
      foot = λ i d e. end_at i d (omega (arith, size)) ∙ sym (there_at 0 d (omega arith));
      top = λ i d e.
          let i_is : i ≡ k = omega (arith, there_size) in
          there_at i d (omega arith) ∙ ap (λ t. get_or vs t d) i_is ∙ sym (low_at 0 k d (omega arith) top.within);
    }

  one_of_none : k ≡ 0 → length vs ≡ 1
  one_of_none e =
      elim (below_or_at_least 1 (length vs)) [
        | inl many ↦ absurd (clash (get_or vs 0 origin) (get_or vs 1 origin) (all_at IsPosition vs 0 origin positions (omega arith)) (all_at IsPosition vs 1 origin positions many)
            (first_before vs positions convex 1 origin (omega arith) many)
            (top.down 0 1 origin (omega arith) (omega arith) many))
        | inr one ↦ omega (arith, top.within)
      ]

  back_of_one : length vs ≡ 1 → IsPart (pos 0 -ℤ far) (pos 0 -ℤ pos 1) vs vs
  back_of_one e = record {
    side = record { rises = λ i j d h l. absurd (omega arith); turns = λ i j m d hj hm l. absurd (omega arith) };
    inside = includes_itself vs;
    others = λ q i d has f. inl has;
  }

  meets_of_one : k ≡ 0 → length vs ≡ 1 → HasMeetingEnds (take (k + 1) vs) vs
  meets_of_one e f = record {
    foot = λ i d h. let i_is : i ≡ 0 = omega arith in ap (λ t. get_or vs t d) i_is ∙ sym (there_at 0 d (omega arith));
    top = λ i d h. let i_is : i ≡ 0 = omega (arith, there_size) in ap (λ t. get_or (take (k + 1) vs) t d) i_is ∙ there_at 0 d (omega arith);
  }

  -- what is true of the part there and the part back
  pub parts : (r : List Pt) → (k ≡ 0 → r ≡ vs) → (0 < k → r ≡ drop k vs ++ take 1 vs) → AreParts vs (take (k + 1) vs) r
  parts r one more =
      elim (below_or_at_least 0 k) [
        | inl many ↦
            let size = many_size many in
            let low = many_low many in
            let end = many_end many in
            record { part_there = there_part; part_back = back_of_many r many size low end; meet = meets_of_many r many size low end; sizes = inr (record { there_two = omega (arith, there_size); back_two = omega (arith, size, top.within); all = omega (arith, size, there_size) }) }
        | inr none ↦
            let e : k ≡ 0 = omega arith in
            let f = one_of_none e in
            record {
              part_there = there_part;
              part_back = subst (IsPart (pos 0 -ℤ far) (pos 0 -ℤ pos 1) vs) (sym (one e)) (back_of_one f);
              meet = subst (HasMeetingEnds (take (k + 1) vs)) (sym (one e)) (meets_of_one e f);
              sizes = inl (record { all_one = f; there_one = omega (arith, there_size); back_one = ap length (one e) ∙ f });
            }
      ]
    where
      many_size : 0 < k → length r + k ≡ length vs + 1
      many_size h =
          let w : 0 < length vs = omega (arith, top.within) in
          omega (arith, ap length (more h), length-append (drop k vs) (take 1 vs), length-drop k vs, length-take-le 1 vs (omega arith), top.within)

      many_low : 0 < k → (i j : ℕ) (d : Pt) → j ≡ k + i → j < length vs → get_or r i d ≡ get_or vs j d
      many_low h i j d e l =
          ap (λ (z : List Pt). get_or z i d) (more h) ∙ get_or-append (drop k vs) (take 1 vs) d i (omega (arith, length-drop k vs)) ∙ get_or-drop k vs i d ∙ ap (λ t. get_or vs t d) (sym e)

      many_end : 0 < k → (i : ℕ) (d : Pt) → k + i ≡ length vs → get_or r i d ≡ get_or vs 0 d
      many_end h i d e =
          let i_is : i ≡ length (drop k vs) + 0 = omega (arith, length-drop k vs) in
          ap (λ (z : List Pt). get_or z i d) (more h) ∙ ap (λ t. get_or (drop k vs ++ take 1 vs) t d) i_is ∙ get_or-append-add (drop k vs) (take 1 vs) 0 d ∙ get_or-take 1 vs 0 d (omega arith)
