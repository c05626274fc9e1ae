-- The way of the sums of two lists by rising keys, made by merging their edges by direction.
use Rattle.std.proofs.Common.{◌≡◌, ℕ, zero, suc, ◌+◌, ◌-◌, ◌≤◌, ◌<◌, arith, refl, sym, ap, ◌∙◌, subst, List, [], ◌∷◌, ◌++◌, length, get_or, map, length-append, ◌⊎◌, inl, inr}
use Rattle.std.proofs.Math.ListN.{get_or-append}
use Rattle.std.proofs.Math.Seq.{get_or-append_seam}
use Rattle.std.proofs.lemmas.Int.{ints, by_lt_z}
use Rattle.std.specs.List.{AllByRecursion}
use lib.IntN.{ℤ, pos, negsuc, ◌+ℤ◌, ◌-ℤ◌, ◌*ℤ◌}
use lib.Signed.{◌≤ℤ◌, ◌<ℤ◌}
use Rattle.spot_terms.specs.declared.plain.Pt.{Pt}
use Rattle.spot_terms.specs.Lists.{Includes}
use Rattle.spot_terms.specs.LanePolygons.{add_pt, sums}
use Rattle.spot_terms.proofs.ListLemmas.{all_of, includes_at, includes_back, includes_front, includes_flat_map, includes_map, all_append}
use Rattle.spot_terms.proofs.Members.{in_map, in_flat_map}
use Rattle.spot_terms.proofs.Ring.{ring, Exp, var, num, ◌⊕◌, ◌⊖◌, ◌⊗◌}
use Rattle.spot_terms.proofs.Orders.{below_trans, opposite_of_negative, sum_not_negative, sum_swap, product_not_negative, difference_positive, below_or_at_least, positive_not_negative}
use Rattle.convex_poly.specs.Chains.{key, Rising, Toward}
use Rattle.convex_poly.specs.Vectors.{minus, turn_of}
use Rattle.convex_poly.specs.Sums.{GoesFirst, IsSide, IsSumPath}
use Rattle.convex_poly.specs.Turns.{cross}
use Rattle.convex_poly.proofs.ChainSteps.{toward_more}
use Rattle.convex_poly.proofs.Crosses.{cross_exp}
use Rattle.spot_terms.proofs.Places.{place_of, same_index}
use Rattle.convex_poly.proofs.Sides.{middle_toward, toward_flat, toward_included}
use Rattle.spot_terms.proofs.OneHull.{same_pt}
use Rattle.convex_poly.proofs.Pivots.{turn_back}

pub add_swap : (p q : Pt) → add_pt p q ≡ add_pt q p
add_swap p q = same_pt (add_pt p q) (add_pt q p) (sum_swap p.x q.x) (sum_swap p.y q.y)

-- ---- sides

-- what lies over two points on the side of vs is on the side of vs
pub between_toward : (kx ky : ℤ) (vs : List Pt) (a b c : Pt) → Toward ky (pos 0 -ℤ kx) vs a → Toward ky (pos 0 -ℤ kx) vs c → key kx ky a <ℤ key kx ky b → key kx ky b <ℤ key kx ky c → cross a b c ≤ℤ pos 0 → Toward ky (pos 0 -ℤ kx) vs b
between_toward kx ky vs a b c ta tc ab bc turn =
    toward_flat ky (pos 0 -ℤ kx) (a ∷ c ∷ []) vs b (ta, (tc, tt)) (middle_toward kx ky (a ∷ c ∷ []) a b c (inl refl) (inr (inl refl)) ab bc turn)

-- ---- keys and turns of sums

key_sum : (kx ky : ℤ) (p q : Pt) → key kx ky (add_pt p q) ≡ key kx ky p +ℤ key kx ky q
key_sum kx ky p q = ring (kx ∷ ky ∷ p.x ∷ p.y ∷ q.x ∷ q.y ∷ []) ((var 0 ⊗ (var 2 ⊕ var 4)) ⊕ (var 1 ⊗ (var 3 ⊕ var 5))) (((var 0 ⊗ var 2) ⊕ (var 1 ⊗ var 3)) ⊕ ((var 0 ⊗ var 4) ⊕ (var 1 ⊗ var 5))) refl

pub key_add : (kx ky : ℤ) (p q r : Pt) → key kx ky p <ℤ key kx ky q → key kx ky (add_pt p r) <ℤ key kx ky (add_pt q r)
key_add kx ky p q r h = subst (λ z. z <ℤ key kx ky (add_pt q r)) (sym (key_sum kx ky p r)) (subst (λ z. (key kx ky p +ℤ key kx ky r) <ℤ z) (sym (key_sum kx ky q r)) (more _ _ _ h))
  where
    more : (z w u : ℤ) → z <ℤ w → (z +ℤ u) <ℤ (w +ℤ u)
    more z w u h = omega (arith, ints)

pub add_key : (kx ky : ℤ) (r p q : Pt) → key kx ky p <ℤ key kx ky q → key kx ky (add_pt r p) <ℤ key kx ky (add_pt r q)
add_key kx ky r p q h = subst (λ z. z <ℤ key kx ky (add_pt r q)) (sym (key_sum kx ky r p)) (subst (λ z. (key kx ky r +ℤ key kx ky p) <ℤ z) (sym (key_sum kx ky r q)) (more _ _ _ h))
  where
    more : (z w u : ℤ) → z <ℤ w → (u +ℤ z) <ℤ (u +ℤ w)
    more z w u h = omega (arith, ints)

-- the turn from one edge of a parallelogram to the next is that of their ways
cross_sums : (p m q s : Pt) → cross (add_pt p q) (add_pt m q) (add_pt m s) ≡ pos 0 -ℤ turn_of (minus s q) (minus m p)
cross_sums p m q s =
    ring (p.x ∷ p.y ∷ m.x ∷ m.y ∷ q.x ∷ q.y ∷ s.x ∷ s.y ∷ [])
    (cross_exp (var 0 ⊕ var 4) (var 1 ⊕ var 5) (var 2 ⊕ var 4) (var 3 ⊕ var 5) (var 2 ⊕ var 6) (var 3 ⊕ var 7))
    (num (pos 0) ⊖ (((var 6 ⊖ var 4) ⊗ (var 3 ⊖ var 1)) ⊖ ((var 7 ⊖ var 5) ⊗ (var 2 ⊖ var 0)))) refl

-- three ways with rising keys: the turns from the first to the second and on to the third
turn_sum : (kx ky : ℤ) (s q p m n : Pt) → turn_of (minus s q) (minus n m) *ℤ (key kx ky m -ℤ key kx ky p) ≡ (turn_of (minus s q) (minus m p) *ℤ (key kx ky n -ℤ key kx ky m)) +ℤ (cross p m n *ℤ (key kx ky s -ℤ key kx ky q))
turn_sum kx ky s q p m n =
    let K : Exp → Exp → Exp = λ x y. (var 0 ⊗ x) ⊕ (var 1 ⊗ y) in
    let T : Exp → Exp → Exp → Exp → Exp = λ ux uy vx vy. (ux ⊗ vy) ⊖ (uy ⊗ vx) in
    ring (kx ∷ ky ∷ s.x ∷ s.y ∷ q.x ∷ q.y ∷ p.x ∷ p.y ∷ m.x ∷ m.y ∷ n.x ∷ n.y ∷ [])
    (T (var 2 ⊖ var 4) (var 3 ⊖ var 5) (var 10 ⊖ var 8) (var 11 ⊖ var 9) ⊗ (K (var 8) (var 9) ⊖ K (var 6) (var 7)))
    ((T (var 2 ⊖ var 4) (var 3 ⊖ var 5) (var 8 ⊖ var 6) (var 9 ⊖ var 7) ⊗ (K (var 10) (var 11) ⊖ K (var 8) (var 9))) ⊕ (cross_exp (var 6) (var 7) (var 8) (var 9) (var 10) (var 11) ⊗ (K (var 2) (var 3) ⊖ K (var 4) (var 5)))) refl

not_below_part : (z w : ℤ) → pos 0 <ℤ w → pos 0 ≤ℤ (z *ℤ w) → pos 0 ≤ℤ z
not_below_part (pos n) w k h = omega (arith, ints)
not_below_part (negsuc n) (pos (suc m)) k h = absurd (omega (arith, ints))
not_below_part (negsuc n) (pos zero) k h = absurd (omega (arith, ints))
not_below_part (negsuc n) (negsuc m) k h = absurd (omega (arith, ints))

-- a way that is not left of an edge is not left of the next one
turn_on : (kx ky : ℤ) (s q p m n : Pt) → key kx ky q <ℤ key kx ky s → key kx ky p <ℤ key kx ky m → key kx ky m <ℤ key kx ky n → pos 0 ≤ℤ turn_of (minus s q) (minus m p) → pos 0 ≤ℤ cross p m n → pos 0 ≤ℤ turn_of (minus s q) (minus n m)
turn_on kx ky s q p m n qs pm mn h turn =
    not_below_part _ (key kx ky m -ℤ key kx ky p) (difference_positive _ _ pm)
    (subst (λ z. pos 0 ≤ℤ z) (sym (turn_sum kx ky s q p m n))
    (sum_not_negative _ _ (product_not_negative _ _ h (positive_not_negative _ (difference_positive _ _ mn))) (product_not_negative _ _ turn (positive_not_negative _ (difference_positive _ _ qs)))))

-- two ways that are not left of a third, one after the other
turn_joined : (p m n s q : Pt) → pos 0 ≤ℤ turn_of (minus m p) (minus s q) → pos 0 ≤ℤ turn_of (minus n m) (minus s q) → pos 0 ≤ℤ turn_of (minus n p) (minus s q)
turn_joined p m n s q h k = subst (λ z. pos 0 ≤ℤ z) (joined p m n s q) (sum_not_negative _ _ h k)
  where
    joined : (p m n s q : Pt) → turn_of (minus m p) (minus s q) +ℤ turn_of (minus n m) (minus s q) ≡ turn_of (minus n p) (minus s q)
    joined p m n s q =
        let T : Exp → Exp → Exp → Exp → Exp = λ ux uy vx vy. (ux ⊗ vy) ⊖ (uy ⊗ vx) in
        ring (p.x ∷ p.y ∷ m.x ∷ m.y ∷ n.x ∷ n.y ∷ s.x ∷ s.y ∷ q.x ∷ q.y ∷ [])
        (T (var 2 ⊖ var 0) (var 3 ⊖ var 1) (var 6 ⊖ var 8) (var 7 ⊖ var 9) ⊕ T (var 4 ⊖ var 2) (var 5 ⊖ var 3) (var 6 ⊖ var 8) (var 7 ⊖ var 9))
        (T (var 4 ⊖ var 0) (var 5 ⊖ var 1) (var 6 ⊖ var 8) (var 7 ⊖ var 9)) refl

-- ---- one more point

-- with one more point of a higher key
rising_more : (kx ky : ℤ) (s : List Pt) (c : Pt) → Rising kx ky s → ((i : ℕ) (d : Pt) → i + 1 ≡ length s → key kx ky (get_or s i d) <ℤ key kx ky c) → Rising kx ky (s ++ c ∷ [])
rising_more kx ky s c rises end i j d ij jn =
    elim (below_or_at_least j (length s)) [
      | inl low ↦ rw (get_or-append s (c ∷ []) d i (omega arith), get_or-append s (c ∷ []) d j low) (rises i j d ij low)
      | inr high ↦
          let last : get_or (s ++ c ∷ []) j d ≡ c = last_is (omega (arith, size)) in
          rw (get_or-append s (c ∷ []) d i (omega (arith, size)), last) (to_end i (omega (arith, size)))
    ]
  where
    size : length (s ++ c ∷ []) ≡ length s + 1
    size = simp length-append (omega arith)

    last_is : j ≡ length s → get_or (s ++ c ∷ []) j d ≡ c
    last_is e = subst (λ n. get_or (s ++ c ∷ []) n d ≡ c) (sym e) (get_or-append_seam s c [] d)

    to_end : (m : ℕ) → m < length s → key kx ky (get_or s m d) <ℤ key kx ky c
    to_end m l =
        elim (below_or_at_least m (length s - 1)) [
          | inl inner ↦ below_trans _ _ _ (rises m (length s - 1) d inner (omega arith)) (end (length s - 1) d (omega arith))
          | inr top ↦ end m d (omega arith)
        ]

-- ---- the way so far

-- the way over the sums up to that of the points at i and j
pub record IsPathTo (kx ky : ℤ) (a b path : List Pt) (i j : ℕ) : Type 0 where
  pub rises : Rising kx ky path
  pub covers : (p q : ℕ) (d : Pt) → p ≤ i → q ≤ j → Toward ky (pos 0 -ℤ kx) path (add_pt (get_or a p d) (get_or b q d))
  pub a_next : (q m : ℕ) (d : Pt) → q < j → m ≡ i + 1 → m < length a → pos 0 ≤ℤ turn_of (minus (get_or b j d) (get_or b q d)) (minus (get_or a m d) (get_or a i d))
  pub b_next : (p m : ℕ) (d : Pt) → p < i → m ≡ j + 1 → m < length b → pos 0 ≤ℤ turn_of (minus (get_or a i d) (get_or a p d)) (minus (get_or b m d) (get_or b j d))

-- the same of any keys, with what holds of all
pub record IsPathSoFar (a b path : List Pt) (i j : ℕ) : Type 0 where
  pub a_in : i < length a
  pub b_in : j < length b
  pub size : length path ≡ i + j + 1
  pub inside : AllByRecursion (Includes (sums a b)) path
  pub first : (d : Pt) → get_or path 0 d ≡ add_pt (get_or a 0 d) (get_or b 0 d)
  pub last : (k : ℕ) (d : Pt) → k + 1 ≡ length path → get_or path k d ≡ add_pt (get_or a i d) (get_or b j d)
  pub to : (kx ky : ℤ) → IsSide kx ky a → IsSide kx ky b → IsPathTo kx ky a b path i j

-- the same with the two lists in the other order
path_swapped : (kx ky : ℤ) (a b path : List Pt) (i j : ℕ) → IsPathTo kx ky a b path i j → IsPathTo kx ky b a path j i
path_swapped kx ky a b path i j h = record {
  rises = h.rises;
  covers = λ p q d hp hq. subst (Toward ky (pos 0 -ℤ kx) path) (add_swap (get_or a q d) (get_or b p d)) (h.covers q p d hq hp);
  a_next = h.b_next;
  b_next = h.a_next;
}

-- the way along the next edge of a, where that of b is not further to the right
module _ (kx ky : ℤ) (a b path : List Pt) (i j m : ℕ) (sa : IsSide kx ky a) (sb : IsSide kx ky b) (last : (k : ℕ) (d : Pt) → k + 1 ≡ length path → get_or path k d ≡ add_pt (get_or a i d) (get_or b j d)) (h : IsPathTo kx ky a b path i j) (next : m ≡ i + 1) (inside : m < length a) (j_in : j < length b)
    (right : (n : ℕ) (d : Pt) → n ≡ j + 1 → n < length b → pos 0 ≤ℤ turn_of (minus (get_or a m d) (get_or a i d)) (minus (get_or b n d) (get_or b j d))) (new : Pt) (is : (d : Pt) → new ≡ add_pt (get_or a m d) (get_or b j d)) where
  -- the edge leads to a higher key
  edge : (d : Pt) → key kx ky (get_or a i d) <ℤ key kx ky (get_or a m d)
  edge d = sa.rises i m d (omega arith) inside

  along_rises : Rising kx ky (path ++ new ∷ [])
  along_rises = rising_more kx ky path new h.rises (λ k d e.
      subst (λ (z : Pt). key kx ky z <ℤ key kx ky new) (sym (last k d e))
      (subst (λ (z : Pt). key kx ky (add_pt (get_or a i d) (get_or b j d)) <ℤ key kx ky z) (sym (is d)) (key_add kx ky (get_or a i d) (get_or a m d) (get_or b j d) (edge d))))

  old : (u : Pt) → Toward ky (pos 0 -ℤ kx) path u → Toward ky (pos 0 -ℤ kx) (path ++ new ∷ []) u
  old u t = toward_more ky (pos 0 -ℤ kx) path (path ++ new ∷ []) u (all_of (Includes (path ++ new ∷ [])) path (λ v k. includes_front path (new ∷ []) v k)) t

  here : (d : Pt) → Toward ky (pos 0 -ℤ kx) (path ++ new ∷ []) (add_pt (get_or a m d) (get_or b j d))
  here d = toward_included ky (pos 0 -ℤ kx) (path ++ new ∷ []) (add_pt (get_or a m d) (get_or b j d)) (includes_back path (new ∷ []) (add_pt (get_or a m d) (get_or b j d)) (inl (sym (is d))))

  below : (z : ℤ) → pos 0 ≤ℤ z → (pos 0 -ℤ z) ≤ℤ pos 0
  below z h = omega (arith, ints)

  -- the sums over the new edge
  over : (q : ℕ) (d : Pt) → q < j → Toward ky (pos 0 -ℤ kx) (path ++ new ∷ []) (add_pt (get_or a m d) (get_or b q d))
  over q d l =
      between_toward kx ky (path ++ new ∷ []) (add_pt (get_or a i d) (get_or b q d)) (add_pt (get_or a m d) (get_or b q d)) (add_pt (get_or a m d) (get_or b j d))
      (old (add_pt (get_or a i d) (get_or b q d)) (h.covers i q d (omega arith) (omega arith))) (here d)
      (key_add kx ky (get_or a i d) (get_or a m d) (get_or b q d) (edge d))
      (add_key kx ky (get_or a m d) (get_or b q d) (get_or b j d) (sb.rises q j d l j_in))
      (subst (λ z. z ≤ℤ pos 0) (sym (cross_sums (get_or a i d) (get_or a m d) (get_or b q d) (get_or b j d))) (below _ (h.a_next q m d l next inside)))

  along_covers : (p q : ℕ) (d : Pt) → p ≤ m → q ≤ j → Toward ky (pos 0 -ℤ kx) (path ++ new ∷ []) (add_pt (get_or a p d) (get_or b q d))
  along_covers p q d hp hq =
      elim (below_or_at_least p m) [
        | inl low ↦ old (add_pt (get_or a p d) (get_or b q d)) (h.covers p q d (omega arith) hq)
        | inr same ↦
            let p_is : m ≡ p = omega arith in
            subst (λ n. Toward ky (pos 0 -ℤ kx) (path ++ new ∷ []) (add_pt (get_or a n d) (get_or b q d))) p_is (at_m same)
      ]
    where
      at_m : m ≤ p → Toward ky (pos 0 -ℤ kx) (path ++ new ∷ []) (add_pt (get_or a m d) (get_or b q d))
      at_m same =
          elim (below_or_at_least q j) [
            | inl less ↦ over q d less
            | inr at_end ↦
                let q_is : j ≡ q = omega arith in
                subst (λ n. Toward ky (pos 0 -ℤ kx) (path ++ new ∷ []) (add_pt (get_or a m d) (get_or b n d))) q_is (here d)
          ]

  a_on : (q n : ℕ) (d : Pt) → q < j → n ≡ m + 1 → n < length a → pos 0 ≤ℤ turn_of (minus (get_or b j d) (get_or b q d)) (minus (get_or a n d) (get_or a m d))
  a_on q n d l e k =
      turn_on kx ky (get_or b j d) (get_or b q d) (get_or a i d) (get_or a m d) (get_or a n d)
      (sb.rises q j d l j_in) (edge d) (sa.rises m n d (omega arith) k) (h.a_next q m d l next inside) (sa.turns i m n d next (omega arith) k)

  b_on : (p n : ℕ) (d : Pt) → p < m → n ≡ j + 1 → n < length b → pos 0 ≤ℤ turn_of (minus (get_or a m d) (get_or a p d)) (minus (get_or b n d) (get_or b j d))
  b_on p n d l e k =
      elim (below_or_at_least p i) [
        | inl low ↦ turn_joined (get_or a p d) (get_or a i d) (get_or a m d) (get_or b n d) (get_or b j d) (h.b_next p n d low e k) (right n d e k)
        | inr same ↦
            let p_is : i ≡ p = omega arith in
            subst (λ t. pos 0 ≤ℤ turn_of (minus (get_or a m d) (get_or a t d)) (minus (get_or b n d) (get_or b j d))) p_is (right n d e k)
      ]

  path_along : IsPathTo kx ky a b (path ++ new ∷ []) m j
  path_along = record { rises = along_rises; covers = along_covers; a_next = a_on; b_next = b_on }

-- ---- the steps of the code

pub sums_have : (a b : List Pt) (p q : Pt) → Includes a p → Includes b q → Includes (sums a b) (add_pt p q)
sums_have a b p q h k = includes_flat_map (λ u. map (add_pt u) b) a p (add_pt p q) h (includes_map (add_pt p) b q k)

module _ (a b path : List Pt) (i j : ℕ) (h : IsPathSoFar a b path i j) (new d : Pt) where
  first_more : (e : Pt) → get_or (path ++ new ∷ []) 0 e ≡ add_pt (get_or a 0 e) (get_or b 0 e)
  first_more e = get_or-append path (new ∷ []) e 0 (omega (arith, h.size)) ∙ h.first e

  size_more : length (path ++ new ∷ []) ≡ length path + 1
  size_more = simp length-append (omega arith)

  last_more : (k : ℕ) (e : Pt) → k + 1 ≡ length (path ++ new ∷ []) → get_or (path ++ new ∷ []) k e ≡ new
  last_more k e l =
      let k_is : length path ≡ k = omega (arith, size_more) in
      subst (λ n. get_or (path ++ new ∷ []) n e ≡ new) k_is (get_or-append_seam path new [] e)

  -- the sum is the same, whatever stands for a read past the end
  sum_is : (m n : ℕ) → m < length a → n < length b → new ≡ add_pt (get_or a m d) (get_or b n d) → (e : Pt) → new ≡ add_pt (get_or a m e) (get_or b n e)
  sum_is m n hm hn is e = is ∙ ap (λ (z : Pt). add_pt z (get_or b n d)) (same_index a m m d e hm refl) ∙ ap (λ (z : Pt). add_pt (get_or a m e) z) (same_index b n n d e hn refl)

  inside_more : (m n : ℕ) → m < length a → n < length b → new ≡ add_pt (get_or a m d) (get_or b n d) → AllByRecursion (Includes (sums a b)) (path ++ new ∷ [])
  inside_more m n hm hn is = all_append (Includes (sums a b)) path (new ∷ []) h.inside
      (subst (Includes (sums a b)) (sym is) (sums_have a b (get_or a m d) (get_or b n d) (includes_at a m d hm) (includes_at b n d hn)), tt)

  -- along an edge of a
  so_far_first : GoesFirst a b i j → new ≡ add_pt (get_or a (i + 1) d) (get_or b j d) → IsPathSoFar a b (path ++ new ∷ []) (i + 1) j
  so_far_first goes is =
      let same = sum_is (i + 1) j goes.more h.b_in is in
      record {
        a_in = goes.more;
        b_in = h.b_in;
        size = omega (arith, size_more, h.size);
        inside = inside_more (i + 1) j goes.more h.b_in is;
        first = first_more;
        last = λ k e l. last_more k e l ∙ same e;
        to = λ kx ky sa sb. path_along kx ky a b path i j (i + 1) sa sb h.last (h.to kx ky sa sb) refl goes.more h.b_in (λ n e f l. goes.right (i + 1) n e refl f l) new same;
      }

  -- along an edge of b
  so_far_second : (GoesFirst a b i j → ⊥) → (i + 1 < length a) ⊎ (j + 1 < length b) → new ≡ add_pt (get_or a i d) (get_or b (j + 1) d) → IsPathSoFar a b (path ++ new ∷ []) i (j + 1)
  so_far_second stays some is =
      let same = sum_is i (j + 1) h.a_in more is in
      record {
        a_in = h.a_in;
        b_in = more;
        size = omega (arith, size_more, h.size);
        inside = inside_more i (j + 1) h.a_in more is;
        first = first_more;
        last = λ k e l. last_more k e l ∙ same e;
        to = λ kx ky sa sb. path_swapped kx ky b a (path ++ new ∷ []) (j + 1) i
            (path_along kx ky b a path j i (j + 1) sb sa (λ k e l. h.last k e l ∙ add_swap (get_or a i e) (get_or b j e)) (path_swapped kx ky a b path i j (h.to kx ky sa sb)) refl more h.a_in left new
            (λ e. same e ∙ add_swap (get_or a i e) (get_or b (j + 1) e)));
      }
    where
      more : j + 1 < length b
      more = elim (below_or_at_least (j + 1) (length b)) [
        | inl less ↦ less
        | inr end ↦ elim some [
          | inl a_more ↦ absurd (stays (record { more = a_more; right = λ m n e hm hn l. absurd (omega arith) }))
          | inr b_more ↦ b_more
        ]
      ]

      turned : (m n : ℕ) (e : Pt) → m ≡ i + 1 → m < length a → n ≡ j + 1 → pos 0 ≤ℤ turn_of (minus (get_or b n e) (get_or b j e)) (minus (get_or a m e) (get_or a i e))
      turned m n e hm l hn =
          by_lt_z (turn_of (minus (get_or a m e) (get_or a i e)) (minus (get_or b n e) (get_or b j e))) (pos 0)
          (λ right. subst (λ z. pos 0 ≤ℤ z) (sym (turn_back (minus (get_or a m e) (get_or a i e)) (minus (get_or b n e) (get_or b j e)))) (opposite_of_negative _ right))
          (λ left. absurd (stays (record {
            more = omega (arith, l, hm);
            right = λ p q c hp hq lq.
                let n_in : n < length b = omega (arith, more, hn) in
                rw (same_index a m p c e (omega (arith, l, hm, hp)) (omega (arith, hm, hp)), same_index a i i c e h.a_in refl, same_index b n q c e lq (omega (arith, hn, hq)), same_index b j j c e h.b_in refl) left;
          })))

      left : (n : ℕ) (e : Pt) → n ≡ i + 1 → n < length a → pos 0 ≤ℤ turn_of (minus (get_or b (j + 1) e) (get_or b j e)) (minus (get_or a n e) (get_or a i e))
      left n e f l = turned n (j + 1) e f l refl

-- the step of the loop
pub so_far_step : (a b path whole : List Pt) (i j m n : ℕ) (new d : Pt) → IsPathSoFar a b path i j → whole ≡ path ++ new ∷ [] → new ≡ add_pt (get_or a m d) (get_or b n d) → (GoesFirst a b i j × (m ≡ i + 1) × (n ≡ j)) ⊎ ((GoesFirst a b i j → ⊥) × ((i + 1 < length a) ⊎ (j + 1 < length b)) × (m ≡ i) × (n ≡ j + 1)) → IsPathSoFar a b whole m n
so_far_step a b path whole i j m n new d h e is (inl s) =
    subst (λ z. IsPathSoFar a b z m n) (sym e) (subst (λ t. IsPathSoFar a b (path ++ new ∷ []) t n) (sym s.1) (subst (λ t. IsPathSoFar a b (path ++ new ∷ []) (i + 1) t) (sym s.2)
    (so_far_first a b path i j h new d s.0 (is ∙ ap (λ t. add_pt (get_or a t d) (get_or b n d)) s.1 ∙ ap (λ t. add_pt (get_or a (i + 1) d) (get_or b t d)) s.2))))
so_far_step a b path whole i j m n new d h e is (inr s) =
    subst (λ z. IsPathSoFar a b z m n) (sym e) (subst (λ t. IsPathSoFar a b (path ++ new ∷ []) t n) (sym s.2) (subst (λ t. IsPathSoFar a b (path ++ new ∷ []) i t) (sym s.3)
    (so_far_second a b path i j h new d s.0 s.1 (is ∙ ap (λ t. add_pt (get_or a t d) (get_or b n d)) s.2 ∙ ap (λ t. add_pt (get_or a i d) (get_or b t d)) s.3))))

-- what the code tests
pub goes_of : (a b : List Pt) (i j : ℕ) (r : ℤ) (u v d : Pt) → i + 1 < length a → j + 1 < length b → u ≡ minus (get_or a (i + 1) d) (get_or a i d) → v ≡ minus (get_or b (j + 1) d) (get_or b j d) → r ≡ turn_of u v → (pos 0 ≤ℤ r → GoesFirst a b i j) × (GoesFirst a b i j → pos 0 ≤ℤ r)
goes_of a b i j r u v d ha hb eu ev er =
    let e : r ≡ turn_of (minus (get_or a (i + 1) d) (get_or a i d)) (minus (get_or b (j + 1) d) (get_or b j d)) = er ∙ ap (λ (z : Pt). turn_of z v) eu ∙ ap (λ (z : Pt). turn_of (minus (get_or a (i + 1) d) (get_or a i d)) z) ev in (
      (λ sign. record {
        more = ha;
        right = λ m n c hm hn l.
            rw (same_index a (i + 1) m c d (omega (arith, hm, ha)) hm, same_index a i i c d (omega (arith, ha)) refl, same_index b (j + 1) n c d l hn, same_index b j j c d (omega (arith, hb)) refl, ← e) sign;
      }),
      (λ goes. subst (λ z. pos 0 ≤ℤ z) (sym e) (goes.right (i + 1) (j + 1) d refl refl hb)),
    )

-- the whole way
pub so_far_whole : (a b path : List Pt) (i j : ℕ) → IsPathSoFar a b path i j → length a ≤ i + 1 → length b ≤ j + 1 → IsSumPath a b path
so_far_whole a b path i j h ha hb = record {
  size = omega (arith, h.size, h.a_in, h.b_in);
  inside = h.inside;
  ends = record {
    first = h.first;
    last = λ m n k d hm hn hk.
        let m_is : i ≡ m = omega (arith, h.a_in) in
        let n_is : j ≡ n = omega (arith, h.b_in) in
        h.last k d hk ∙ ap (λ t. add_pt (get_or a t d) (get_or b j d)) m_is ∙ ap (λ t. add_pt (get_or a m d) (get_or b t d)) n_is;
  };
  rises = λ kx ky sa sb. (h.to kx ky sa sb).rises;
  side = λ kx ky sa sb. all_of (Toward ky (pos 0 -ℤ kx) path) (sums a b) (λ u k. covered kx ky (h.to kx ky sa sb) u k);
}
  where
    covered : (kx ky : ℤ) → IsPathTo kx ky a b path i j → (u : Pt) → Includes (sums a b) u → Toward ky (pos 0 -ℤ kx) path u
    covered kx ky t u k =
        let (p, hp, k1) = in_flat_map (λ (z : Pt). map (add_pt z) b) a u k in
        let (q, hq, e) = in_map (add_pt p) b u k1 in
        let (m, lm, em) = place_of a p u hp in
        let (n, ln, en) = place_of b q u hq in
        subst (Toward ky (pos 0 -ℤ kx) path) (ap (λ (z : Pt). add_pt z (get_or b n u)) em ∙ ap (λ (z : Pt). add_pt p z) en ∙ sym e) (t.covers m n u (omega (arith, lm, ha)) (omega (arith, ln, hb)))

-- the first sum alone
pub so_far_none : (a b path : List Pt) (d : Pt) → 0 < length a → 0 < length b → path ≡ add_pt (get_or a 0 d) (get_or b 0 d) ∷ [] → IsPathSoFar a b path 0 0
so_far_none a b path d ha hb is =
    let P : List Pt → Type 0 = λ z. IsPathSoFar a b z 0 0 in
    subst P (sym is) (record {
      a_in = ha;
      b_in = hb;
      size = refl;
      inside = (sums_have a b (get_or a 0 d) (get_or b 0 d) (includes_at a 0 d ha) (includes_at b 0 d hb), tt);
      first = here;
      last = λ k e l. let k_is : 0 ≡ k = omega arith in subst (λ n. get_or (add_pt (get_or a 0 d) (get_or b 0 d) ∷ []) n e ≡ add_pt (get_or a 0 e) (get_or b 0 e)) k_is (here e);
      to = λ kx ky sa sb. record {
        rises = λ m n e mn l. absurd (omega arith);
        covers = λ p q e hp hq.
            let p_is : 0 ≡ p = omega arith in
            let q_is : 0 ≡ q = omega arith in
            subst (λ t. Toward ky (pos 0 -ℤ kx) (add_pt (get_or a 0 d) (get_or b 0 d) ∷ []) (add_pt (get_or a t e) (get_or b q e))) p_is
            (subst (λ t. Toward ky (pos 0 -ℤ kx) (add_pt (get_or a 0 d) (get_or b 0 d) ∷ []) (add_pt (get_or a 0 e) (get_or b t e))) q_is
            (toward_included ky (pos 0 -ℤ kx) (add_pt (get_or a 0 d) (get_or b 0 d) ∷ []) (add_pt (get_or a 0 e) (get_or b 0 e)) (inl (sym (here e)))));
        a_next = λ q m e l f k. absurd (omega arith);
        b_next = λ p m e l f k. absurd (omega arith);
      };
    })
  where
    here : (e : Pt) → add_pt (get_or a 0 d) (get_or b 0 d) ≡ add_pt (get_or a 0 e) (get_or b 0 e)
    here e = ap (λ (z : Pt). add_pt z (get_or b 0 d)) (same_index a 0 0 d e ha refl) ∙ ap (λ (z : Pt). add_pt (get_or a 0 e) z) (same_index b 0 0 d e hb refl)
