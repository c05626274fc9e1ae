-- Chains of points whose keys rise and which turn left, and what lies on their side.
use Rattle.std.proofs.Common.{◌≡◌, ℕ, zero, suc, ◌+◌, ◌-◌, ◌≤◌, ◌<◌, arith, refl, sym, ap, ◌∙◌, subst, List, [], ◌∷◌, ◌++◌, length, get_or, length-append, inl, inr}
use Rattle.std.proofs.Math.ListN.{get_or-append}
use Rattle.std.proofs.Math.Seq.{get_or-append_seam}
use Rattle.std.proofs.lemmas.Int.{ints}
use lib.IntN.{ℤ, pos, negsuc, ◌+ℤ◌, ◌-ℤ◌, ◌*ℤ◌}
use lib.Signed.{◌≤ℤ◌, ◌<ℤ◌}
use Rattle.spot_terms.specs.declared.plain.Pt.{Pt}
use Rattle.convex_poly.specs.Turns.{cross, TurnsLeft}
use Rattle.convex_poly.specs.Chains.{key, Rising}
use Rattle.spot_terms.proofs.Ring.{ring, Exp, var, num, ◌⊕◌, ◌⊖◌, ◌⊗◌}
use Rattle.spot_terms.proofs.Orders.{below_trans, difference_not_negative, difference_positive, positive_not_negative, product_positive, sum_of_positives, weaken, zero_not_negative, product_not_negative, below_or_at_least, opposite_twice}
use Rattle.spot_terms.proofs.OneHull.{cross_first, cross_second}
use Rattle.convex_poly.proofs.Crosses.{cross_exp, cross_turn}

-- ---- turns along a chain

pub positive_part : (z w : ℤ) → pos 0 <ℤ w → pos 0 <ℤ (z *ℤ w) → pos 0 <ℤ z
positive_part (pos zero) w k h = absurd (omega (arith, ints))
positive_part (pos (suc n)) w k h = omega (arith, ints)
positive_part (negsuc n) (pos m) k h = absurd (omega (arith, ints))
positive_part (negsuc n) (negsuc m) k h = absurd (omega (arith, ints))

-- of four points, the turns at the second and the third give that of the first, second and fourth
slopes : (kx ky ax ay bx by cx cy ex ey : ℤ) → (((bx -ℤ ax) *ℤ (ey -ℤ ay)) -ℤ ((by -ℤ ay) *ℤ (ex -ℤ ax))) *ℤ (((kx *ℤ cx) +ℤ (ky *ℤ cy)) -ℤ ((kx *ℤ bx) +ℤ (ky *ℤ by))) ≡ ((((bx -ℤ ax) *ℤ (cy -ℤ ay)) -ℤ ((by -ℤ ay) *ℤ (cx -ℤ ax))) *ℤ (((kx *ℤ ex) +ℤ (ky *ℤ ey)) -ℤ ((kx *ℤ bx) +ℤ (ky *ℤ by)))) +ℤ ((((cx -ℤ bx) *ℤ (ey -ℤ by)) -ℤ ((cy -ℤ by) *ℤ (ex -ℤ bx))) *ℤ (((kx *ℤ bx) +ℤ (ky *ℤ by)) -ℤ ((kx *ℤ ax) +ℤ (ky *ℤ ay))))
slopes kx ky ax ay bx by cx cy ex ey =
    let K : Exp → Exp → Exp = λ x y. (var 0 ⊗ x) ⊕ (var 1 ⊗ y) in
    ring (kx ∷ ky ∷ ax ∷ ay ∷ bx ∷ by ∷ cx ∷ cy ∷ ex ∷ ey ∷ [])
    (cross_exp (var 2) (var 3) (var 4) (var 5) (var 8) (var 9) ⊗ (K (var 6) (var 7) ⊖ K (var 4) (var 5)))
    ((cross_exp (var 2) (var 3) (var 4) (var 5) (var 6) (var 7) ⊗ (K (var 8) (var 9) ⊖ K (var 4) (var 5))) ⊕ (cross_exp (var 4) (var 5) (var 6) (var 7) (var 8) (var 9) ⊗ (K (var 4) (var 5) ⊖ K (var 2) (var 3)))) refl

-- a, b, c and b, c, e turn left, so a, b, e do
pub turns_on : (kx ky : ℤ) (a b c e : Pt) → key kx ky a <ℤ key kx ky b → key kx ky b <ℤ key kx ky c → key kx ky c <ℤ key kx ky e → pos 0 <ℤ cross a b c → pos 0 <ℤ cross b c e → pos 0 <ℤ cross a b e
turns_on kx ky a b c e ab bc ce abc bce =
    positive_part (cross a b e) (key kx ky c -ℤ key kx ky b) (difference_positive _ _ bc)
    (subst (λ z. pos 0 <ℤ z) (sym (slopes kx ky a.x a.y b.x b.y c.x c.y e.x e.y))
    (sum_of_positives _ _
    (product_positive _ _ abc (difference_positive _ _ (below_trans _ _ _ bc ce)))
    (product_positive _ _ bce (difference_positive _ _ ab))))

-- and b, c, e with a before: a, c, e turn left
slopes_end : (kx ky ax ay bx by cx cy ex ey : ℤ) → (((cx -ℤ ax) *ℤ (ey -ℤ ay)) -ℤ ((cy -ℤ ay) *ℤ (ex -ℤ ax))) *ℤ (((kx *ℤ cx) +ℤ (ky *ℤ cy)) -ℤ ((kx *ℤ bx) +ℤ (ky *ℤ by))) ≡ ((((bx -ℤ ax) *ℤ (cy -ℤ ay)) -ℤ ((by -ℤ ay) *ℤ (cx -ℤ ax))) *ℤ (((kx *ℤ ex) +ℤ (ky *ℤ ey)) -ℤ ((kx *ℤ cx) +ℤ (ky *ℤ cy)))) +ℤ ((((cx -ℤ bx) *ℤ (ey -ℤ by)) -ℤ ((cy -ℤ by) *ℤ (ex -ℤ bx))) *ℤ (((kx *ℤ cx) +ℤ (ky *ℤ cy)) -ℤ ((kx *ℤ ax) +ℤ (ky *ℤ ay))))
slopes_end kx ky ax ay bx by cx cy ex ey =
    let K : Exp → Exp → Exp = λ x y. (var 0 ⊗ x) ⊕ (var 1 ⊗ y) in
    ring (kx ∷ ky ∷ ax ∷ ay ∷ bx ∷ by ∷ cx ∷ cy ∷ ex ∷ ey ∷ [])
    (cross_exp (var 2) (var 3) (var 6) (var 7) (var 8) (var 9) ⊗ (K (var 6) (var 7) ⊖ K (var 4) (var 5)))
    ((cross_exp (var 2) (var 3) (var 4) (var 5) (var 6) (var 7) ⊗ (K (var 8) (var 9) ⊖ K (var 6) (var 7))) ⊕ (cross_exp (var 4) (var 5) (var 6) (var 7) (var 8) (var 9) ⊗ (K (var 6) (var 7) ⊖ K (var 2) (var 3)))) refl

pub turns_end : (kx ky : ℤ) (a b c e : Pt) → key kx ky a <ℤ key kx ky b → key kx ky b <ℤ key kx ky c → key kx ky c <ℤ key kx ky e → pos 0 <ℤ cross a b c → pos 0 <ℤ cross b c e → pos 0 <ℤ cross a c e
turns_end kx ky a b c e ab bc ce abc bce =
    positive_part (cross a c e) (key kx ky c -ℤ key kx ky b) (difference_positive _ _ bc)
    (subst (λ z. pos 0 <ℤ z) (sym (slopes_end kx ky a.x a.y b.x b.y c.x c.y e.x e.y))
    (sum_of_positives _ _
    (product_positive _ _ abc (difference_positive _ _ ce))
    (product_positive _ _ bce (difference_positive _ _ (below_trans _ _ _ ab bc)))))

-- ---- a pair of each of two chains from the first point to the last
mixed_turns : (kx ky ox oy zx zy ax ay bx by ux uy : ℤ) → (((bx -ℤ ax) *ℤ (uy -ℤ ay)) -ℤ ((by -ℤ ay) *ℤ (ux -ℤ ax))) *ℤ (((kx *ℤ zx) +ℤ (ky *ℤ zy)) -ℤ ((kx *ℤ ox) +ℤ (ky *ℤ oy)))
    ≡ (((((bx -ℤ ax) *ℤ (zy -ℤ ay)) -ℤ ((by -ℤ ay) *ℤ (zx -ℤ ax))) *ℤ (((kx *ℤ ux) +ℤ (ky *ℤ uy)) -ℤ ((kx *ℤ ox) +ℤ (ky *ℤ oy)))) +ℤ ((((bx -ℤ ax) *ℤ (oy -ℤ ay)) -ℤ ((by -ℤ ay) *ℤ (ox -ℤ ax))) *ℤ (((kx *ℤ zx) +ℤ (ky *ℤ zy)) -ℤ ((kx *ℤ ux) +ℤ (ky *ℤ uy))))) +ℤ ((((zx -ℤ ox) *ℤ (uy -ℤ oy)) -ℤ ((zy -ℤ oy) *ℤ (ux -ℤ ox))) *ℤ (((kx *ℤ bx) +ℤ (ky *ℤ by)) -ℤ ((kx *ℤ ax) +ℤ (ky *ℤ ay))))
mixed_turns kx ky ox oy zx zy ax ay bx by ux uy =
    let K : Exp → Exp → Exp = λ x y. (var 0 ⊗ x) ⊕ (var 1 ⊗ y) in
    ring (kx ∷ ky ∷ ox ∷ oy ∷ zx ∷ zy ∷ ax ∷ ay ∷ bx ∷ by ∷ ux ∷ uy ∷ [])
    (cross_exp (var 6) (var 7) (var 8) (var 9) (var 10) (var 11) ⊗ (K (var 4) (var 5) ⊖ K (var 2) (var 3)))
    (((cross_exp (var 6) (var 7) (var 8) (var 9) (var 4) (var 5) ⊗ (K (var 10) (var 11) ⊖ K (var 2) (var 3))) ⊕ (cross_exp (var 6) (var 7) (var 8) (var 9) (var 2) (var 3) ⊗ (K (var 4) (var 5) ⊖ K (var 10) (var 11)))) ⊕ (cross_exp (var 2) (var 3) (var 4) (var 5) (var 10) (var 11) ⊗ (K (var 8) (var 9) ⊖ K (var 6) (var 7)))) refl

-- a and b follow each other on one side of the way from o to z, u is on the other side, so a, b, u turn left
pub turns_across : (kx ky : ℤ) (o z a b u : Pt) → key kx ky o <ℤ key kx ky z → key kx ky a <ℤ key kx ky b → key kx ky o ≤ℤ key kx ky u → key kx ky u ≤ℤ key kx ky z → pos 0 ≤ℤ cross a b z → pos 0 ≤ℤ cross a b o → pos 0 <ℤ cross o z u → pos 0 <ℤ cross a b u
turns_across kx ky o z a b u oz ab ou uz abz abo ozu =
    positive_part (cross a b u) (key kx ky z -ℤ key kx ky o) (difference_positive _ _ oz)
    (subst (λ t. pos 0 <ℤ t) (sym (mixed_turns kx ky o.x o.y z.x z.y a.x a.y b.x b.y u.x u.y))
    (last_above _ _ _
    (product_not_negative _ _ abz (difference_not_negative _ _ ou))
    (product_not_negative _ _ abo (difference_not_negative _ _ uz))
    (product_positive _ _ ozu (difference_positive _ _ ab))))
  where
    last_above : (z w t : ℤ) → pos 0 ≤ℤ z → pos 0 ≤ℤ w → pos 0 <ℤ t → pos 0 <ℤ ((z +ℤ w) +ℤ t)
    last_above z w t h k g = omega (arith, ints)

-- ---- two chains, one there and one back, make a convex list
-- vs is the chain there and, after it, the inner points of the chain back
pub record Loop (kx ky : ℤ) (there back vs : List Pt) : Type 0 where
  pub there_two : 2 ≤ length there
  pub back_two : 2 ≤ length back
  pub there_turns : TurnsLeft there
  pub back_turns : TurnsLeft back
  pub there_rises : Rising kx ky there
  pub back_rises : Rising (pos 0 -ℤ kx) (pos 0 -ℤ ky) back
  pub first : (i : ℕ) (d : Pt) → i + 1 ≡ length back → get_or back i d ≡ get_or there 0 d
  pub last : (i : ℕ) (d : Pt) → i + 1 ≡ length there → get_or there i d ≡ get_or back 0 d
  pub size : length vs + 2 ≡ length there + length back
  pub low_at : (k : ℕ) (d : Pt) → k < length there → get_or vs k d ≡ get_or there k d
  pub high_at : (k j : ℕ) (d : Pt) → j ≡ length there + k → k + 2 < length back → get_or vs j d ≡ get_or back (k + 1) d

pub lt_turn : (a b c : Pt) → pos 0 <ℤ cross a b c → pos 0 <ℤ cross b c a
lt_turn a b c h = subst (λ z. pos 0 <ℤ z) (cross_turn a b c) h

module _ (kx ky : ℤ) (s : List Pt) (turns : TurnsLeft s) where
  -- a pair of a chain has the ends on the left
  pair_end : (i j e : ℕ) (d : Pt) → i < j → j ≤ e → e < length s → pos 0 ≤ℤ cross (get_or s i d) (get_or s j d) (get_or s e d)
  pair_end i j e d h l n =
      elim (below_or_at_least j e) [
        | inl less ↦ positive_not_negative _ (turns i j e d h less n)
        | inr same ↦ subst (λ m. pos 0 ≤ℤ cross (get_or s i d) (get_or s j d) (get_or s m d)) (omega arith) (zero_not_negative _ (cross_second (get_or s i d) (get_or s j d)))
      ]

  pair_start : (i j : ℕ) (d : Pt) → i < j → j < length s → pos 0 ≤ℤ cross (get_or s i d) (get_or s j d) (get_or s 0 d)
  pair_start zero j d h n = zero_not_negative _ (cross_first (get_or s 0 d) (get_or s j d))
  pair_start (suc i) j d h n = positive_not_negative _ (lt_turn (get_or s 0 d) (get_or s (suc i) d) (get_or s j d) (turns 0 (suc i) j d (omega arith) h n))

pub neg_key : (kx ky : ℤ) (p q : Pt) → key (pos 0 -ℤ kx) (pos 0 -ℤ ky) p <ℤ key (pos 0 -ℤ kx) (pos 0 -ℤ ky) q → key kx ky q <ℤ key kx ky p
neg_key kx ky p q h = turned _ _ (subst (λ z. z <ℤ (pos 0 -ℤ key kx ky q)) (minus p) (subst (λ z. key (pos 0 -ℤ kx) (pos 0 -ℤ ky) p <ℤ z) (minus q) h))
  where
    minus : (p : Pt) → key (pos 0 -ℤ kx) (pos 0 -ℤ ky) p ≡ pos 0 -ℤ key kx ky p
    minus p = ring (kx ∷ ky ∷ p.x ∷ p.y ∷ []) (((num (pos 0) ⊖ var 0) ⊗ var 2) ⊕ ((num (pos 0) ⊖ var 1) ⊗ var 3)) (num (pos 0) ⊖ ((var 0 ⊗ var 2) ⊕ (var 1 ⊗ var 3))) refl

    turned : (z w : ℤ) → (pos 0 -ℤ z) <ℤ (pos 0 -ℤ w) → w <ℤ z
    turned z w h = omega (arith, ints)

pub key_neg : (kx ky : ℤ) (p q : Pt) → key kx ky p <ℤ key kx ky q → key (pos 0 -ℤ kx) (pos 0 -ℤ ky) q <ℤ key (pos 0 -ℤ kx) (pos 0 -ℤ ky) p
key_neg kx ky p q h = subst (λ z. z <ℤ key (pos 0 -ℤ kx) (pos 0 -ℤ ky) p) (sym (minus q)) (subst (λ z. (pos 0 -ℤ key kx ky q) <ℤ z) (sym (minus p)) (turned _ _ h))
  where
    minus : (p : Pt) → key (pos 0 -ℤ kx) (pos 0 -ℤ ky) p ≡ pos 0 -ℤ key kx ky p
    minus p = ring (kx ∷ ky ∷ p.x ∷ p.y ∷ []) (((num (pos 0) ⊖ var 0) ⊗ var 2) ⊕ ((num (pos 0) ⊖ var 1) ⊗ var 3)) (num (pos 0) ⊖ ((var 0 ⊗ var 2) ⊕ (var 1 ⊗ var 3))) refl

    turned : (z w : ℤ) → z <ℤ w → (pos 0 -ℤ w) <ℤ (pos 0 -ℤ z)
    turned z w h = omega (arith, ints)

-- two of one chain, then an inner point of the other chain
across : (kx ky : ℤ) (s r : List Pt) (d : Pt) → TurnsLeft s → TurnsLeft r → Rising kx ky s → Rising (pos 0 -ℤ kx) (pos 0 -ℤ ky) r → 2 ≤ length s → (n m : ℕ) → n + 1 ≡ length s → m + 1 ≡ length r → get_or s n d ≡ get_or r 0 d → get_or r m d ≡ get_or s 0 d → (i j k : ℕ) → i < j → j < length s → 0 < k → k < m → pos 0 <ℤ cross (get_or s i d) (get_or s j d) (get_or r k d)
across kx ky s r d ts tr rs rr two n m hn hm top foot i j k ij jn k0 km =
    turns_across kx ky (get_or s 0 d) (get_or s n d) (get_or s i d) (get_or s j d) (get_or r k d)
    (rs 0 n d (omega arith) (omega arith))
    (rs i j d ij jn)
    (weaken _ _ (subst (λ z. key kx ky z <ℤ key kx ky (get_or r k d)) foot (neg_key kx ky _ _ (rr k m d km (omega arith)))))
    (weaken _ _ (subst (λ z. key kx ky (get_or r k d) <ℤ key kx ky z) (sym top) (neg_key kx ky _ _ (rr 0 k d k0 (omega arith)))))
    (pair_end kx ky s ts i j n d ij (omega arith) (omega arith))
    (pair_start kx ky s ts i j d ij jn)
    (subst (λ z. pos 0 <ℤ cross (get_or s 0 d) z (get_or r k d)) (sym top)
    (subst (λ z. pos 0 <ℤ cross z (get_or r 0 d) (get_or r k d)) foot
    (lt_turn (get_or r k d) (get_or r m d) (get_or r 0 d) (lt_turn (get_or r 0 d) (get_or r k d) (get_or r m d) (tr 0 k m d k0 km (omega arith))))))

-- the list there and back turns left throughout
module _ (kx ky : ℤ) (there back vs : List Pt) (l : Loop kx ky there back vs) (d : Pt) where
  top : get_or there (length there - 1) d ≡ get_or back 0 d
  top = l.last (length there - 1) d (omega (arith, l.there_two))

  foot : get_or back (length back - 1) d ≡ get_or there 0 d
  foot = l.first (length back - 1) d (omega (arith, l.back_two))

  -- two there, one back
  two_there : (i j k : ℕ) → i < j → j < length there → 0 < k → k + 1 < length back → pos 0 <ℤ cross (get_or there i d) (get_or there j d) (get_or back k d)
  two_there i j k ij jn k0 km =
      across kx ky there back d l.there_turns l.back_turns l.there_rises l.back_rises l.there_two (length there - 1) (length back - 1) (omega (arith, l.there_two)) (omega (arith, l.back_two)) top foot i j k ij jn k0 (omega (arith, l.back_two))

  -- one inside there, two back
  two_back : (i j k : ℕ) → 0 < i → i + 1 < length there → j < k → k < length back → pos 0 <ℤ cross (get_or there i d) (get_or back j d) (get_or back k d)
  two_back i j k i0 im jk kn =
      lt_turn (get_or back k d) (get_or there i d) (get_or back j d)
      (lt_turn (get_or back j d) (get_or back k d) (get_or there i d)
      (across (pos 0 -ℤ kx) (pos 0 -ℤ ky) back there d l.back_turns l.there_turns l.back_rises rises_again l.back_two (length back - 1) (length there - 1) (omega (arith, l.back_two)) (omega (arith, l.there_two)) foot top j k i jk kn i0 (omega (arith, l.there_two))))
    where
      rises_again : Rising (pos 0 -ℤ (pos 0 -ℤ kx)) (pos 0 -ℤ (pos 0 -ℤ ky)) there
      rises_again = subst (λ z. Rising z (pos 0 -ℤ (pos 0 -ℤ ky)) there) (sym (opposite_twice kx)) (subst (λ z. Rising kx z there) (sym (opposite_twice ky)) l.there_rises)

  -- one there, two of the inner points back
  one_two : (i j k : ℕ) → i < length there → 0 < j → j < k → k + 1 < length back → pos 0 <ℤ cross (get_or there i d) (get_or back j d) (get_or back k d)
  one_two zero j k h j0 jk kn =
      subst (λ z. pos 0 <ℤ cross z (get_or back j d) (get_or back k d)) foot
      (lt_turn (get_or back k d) (get_or back (length back - 1) d) (get_or back j d)
      (lt_turn (get_or back j d) (get_or back k d) (get_or back (length back - 1) d) (l.back_turns j k (length back - 1) d jk (omega (arith, l.back_two)) (omega (arith, l.back_two)))))
  one_two (suc i) j k h j0 jk kn =
      elim (below_or_at_least (suc (suc i)) (length there)) [
        | inl inner ↦ two_back (suc i) j k (omega arith) (omega arith) jk (omega arith)
        | inr at_end ↦ subst (λ z. pos 0 <ℤ cross z (get_or back j d) (get_or back k d)) (sym (ap (λ n. get_or there n d) (end_is at_end) ∙ top)) (l.back_turns 0 j k d j0 jk (omega arith))
      ]
    where
      end_is : length there ≤ suc (suc i) → suc i ≡ length there - 1
      end_is e = omega (arith, h)

  by_kind : (i j k : ℕ) → i < j → j < k → k < length vs → pos 0 <ℤ cross (get_or vs i d) (get_or vs j d) (get_or vs k d)
  by_kind i j k ij jk kn =
      elim (below_or_at_least k (length there)) [
        | inl low_k ↦ rw (l.low_at i d (omega arith), l.low_at j d (omega arith), l.low_at k d low_k) (l.there_turns i j k d ij jk low_k)
        | inr high_k ↦
            let ek = l.high_at (k - length there) k d (omega arith) (omega (arith, l.size)) in
            elim (below_or_at_least j (length there)) [
              | inl low_j ↦ rw (l.low_at i d (omega arith), l.low_at j d low_j, ek) (two_there i j (k - length there + 1) ij low_j (omega arith) (omega (arith, l.size)))
              | inr high_j ↦
                  let ej = l.high_at (j - length there) j d (omega arith) (omega (arith, l.size)) in
                  elim (below_or_at_least i (length there)) [
                    | inl low_i ↦ rw (l.low_at i d low_i, ej, ek) (one_two i (j - length there + 1) (k - length there + 1) low_i (omega arith) (omega arith) (omega (arith, l.size)))
                    | inr high_i ↦
                        let ei = l.high_at (i - length there) i d (omega arith) (omega (arith, l.size)) in
                        rw (ei, ej, ek) (l.back_turns (i - length there + 1) (j - length there + 1) (k - length there + 1) d (omega arith) (omega arith) (omega (arith, l.size)))
                  ]
            ]
      ]

pub loop_turns : (kx ky : ℤ) (there back vs : List Pt) → Loop kx ky there back vs → TurnsLeft vs
loop_turns kx ky there back vs l i j k d ij jk kn = by_kind kx ky there back vs l d i j k ij jk kn

-- ---- one more point
-- the turn at the last point of a chain is a turn at each
pub push_turns : (kx ky : ℤ) (s : List Pt) (c : Pt) → TurnsLeft s → Rising kx ky (s ++ c ∷ []) → ((i j : ℕ) (d : Pt) → j ≡ i + 1 → j + 1 ≡ length s → pos 0 <ℤ cross (get_or s i d) (get_or s j d) c) → TurnsLeft (s ++ c ∷ [])
push_turns kx ky s c turns rises end i j k d ij jk kn =
    let size : length (s ++ c ∷ []) ≡ length s + 1 = simp length-append (omega arith) in
    elim (below_or_at_least k (length s)) [
      | inl old ↦ rw (get_or-append s (c ∷ []) d i (omega arith), get_or-append s (c ∷ []) d j (omega arith), get_or-append s (c ∷ []) d k old) (turns i j k d ij jk old)
      | inr new ↦
          let last : get_or (s ++ c ∷ []) k d ≡ c = last_is (omega (arith, size)) in
          rw (get_or-append s (c ∷ []) d i (omega (arith, size)), get_or-append s (c ∷ []) d j (omega (arith, size)), last) (to_end i j ij (omega (arith, size)))
    ]
  where
    last_is : k ≡ length s → get_or (s ++ c ∷ []) k d ≡ c
    last_is e = subst (λ n. get_or (s ++ c ∷ []) n d ≡ c) (sym e) (get_or-append_seam s c [] d)

    lifted : (m n : ℕ) → m < n → n < length s → key kx ky (get_or s m d) <ℤ key kx ky (get_or s n d)
    lifted m n h l =
        let size : length (s ++ c ∷ []) ≡ length s + 1 = simp length-append (omega arith) in
        subst (λ z. key kx ky (get_or s m d) <ℤ key kx ky z) (get_or-append s (c ∷ []) d n l)
        (subst (λ z. key kx ky z <ℤ key kx ky (get_or (s ++ c ∷ []) n d)) (get_or-append s (c ∷ []) d m (omega arith)) (rises m n d h (omega (arith, size))))

    to_new : (m : ℕ) → m < length s → key kx ky (get_or s m d) <ℤ key kx ky c
    to_new m l =
        let size : length (s ++ c ∷ []) ≡ length s + 1 = simp length-append (omega arith) in
        subst (λ z. key kx ky (get_or s m d) <ℤ key kx ky z) (get_or-append_seam s c [] d)
        (subst (λ z. key kx ky z <ℤ key kx ky (get_or (s ++ c ∷ []) (length s) d)) (get_or-append s (c ∷ []) d m l) (rises m (length s) d l (omega (arith, size))))

    from_last : (m n : ℕ) → m < n → n + 1 ≡ length s → pos 0 <ℤ cross (get_or s m d) (get_or s n d) c
    from_last m n h e =
        elim (below_or_at_least (m + 1) n) [
          | inl far ↦ turns_end kx ky (get_or s m d) (get_or s (n - 1) d) (get_or s n d) c (lifted m (n - 1) (omega arith) (omega arith)) (lifted (n - 1) n (omega arith) (omega arith)) (to_new n (omega arith))
              (turns m (n - 1) n d (omega arith) (omega arith) (omega arith)) (end (n - 1) n d (omega arith) e)
          | inr next ↦ end m n d (omega arith) e
        ]

    to_end : (m n : ℕ) → m < n → n < length s → pos 0 <ℤ cross (get_or s m d) (get_or s n d) c
    to_end m n h l =
        elim (below_or_at_least n (length s - 1)) [
          | inl inner ↦ turns_on kx ky (get_or s m d) (get_or s n d) (get_or s (length s - 1) d) c (lifted m n h l) (lifted n (length s - 1) inner (omega arith)) (to_new (length s - 1) (omega arith))
              (turns m n (length s - 1) d h inner (omega arith)) (from_last n (length s - 1) inner (omega arith))
          | inr top ↦ from_last m n h (omega arith)
        ]
