-- Two hulls have a common fraction point exactly where 0 is in the hull of their differences.
use Rattle.std.proofs.Common.{◌≡◌, ℕ, ◌*◌, ◌≤◌, ◌<◌, arith, refl, sym, ap, ◌∙◌, subst, List, [], ◌∷◌, ◌++◌, length, ◌⊎◌, inl, inr}
use Rattle.std.proofs.lemmas.Int.{ints}
use lib.IntN.{ℤ, pos, ◌-ℤ◌, ◌*ℤ◌}
use lib.Signed.{◌<ℤ◌}
use Rattle.spot_terms.specs.declared.plain.Pt.{Pt}
use Rattle.spot_terms.specs.Lists.{Includes}
use Rattle.spot_terms.specs.Hull.{FractionPt, InHullAt}
use Rattle.spot_terms.proofs.ListLemmas.{includes_front, includes_back, includes_either}
use Rattle.spot_terms.proofs.Hulls.{hull_mix_at, mix_hull_at}
use Rattle.spot_terms.proofs.Mixes.{mix_to, positive_times}
use Rattle.spot_terms.proofs.Ring.{ring, var, num, ◌⊖◌, ◌⊗◌}
use Rattle.spot_terms.proofs.Orders.{equal_of_difference, factor_zero}
use Rattle.convex_poly.specs.Pivots.{AreDisjoint, each_minus, differences, IsLeftwards, AreLeftwards}
use Rattle.convex_poly.specs.Vectors.{minus}
use Rattle.convex_poly.proofs.Ways.{Meets0}
use Rattle.convex_poly.proofs.Pivots.{pivot_apart, pivot_or_meets}
use Rattle.convex_poly.proofs.Differences.{to_differences, from_differences}

-- a common fraction point
pub record Common (a b : List Pt) : Type 0 where
  pub p : FractionPt
  pub whole : 1 ≤ p.d
  pub in_a : InHullAt a p
  pub in_b : InHullAt b p

pub meets_common : (a b : List Pt) → Meets0 (differences a b) → Common a b
meets_common a b z =
    let r = from_differences a b z.n (pos 0) (pos 0) z.mix in
    let e : r.px ≡ r.qx = equal_of_difference r.px r.qx r.x in
    let f : r.py ≡ r.qy = equal_of_difference r.py r.qy r.y in
    record {
      p = record { x = r.px; y = r.py; d = z.n };
      whole = omega (arith, z.some);
      in_a = mix_hull_at a (record { x = r.px; y = r.py; d = z.n }) (record { n = z.n; X = r.px; Y = r.py; some = z.some; mix = r.in_p; x = refl; y = refl });
      in_b = mix_hull_at b (record { x = r.px; y = r.py; d = z.n }) (record { n = z.n; X = r.px; Y = r.py; some = z.some; mix = mix_to b z.n z.n _ _ _ _ refl (sym e) (sym f) r.in_q; x = refl; y = refl });
    }

meet_line : (S T p d X P : ℤ) → pos 0 <ℤ d → S *ℤ p ≡ d *ℤ X → T *ℤ p ≡ d *ℤ P → (T *ℤ X) -ℤ (S *ℤ P) ≡ pos 0
meet_line S T p d X P h e f =
    factor_zero d ((T *ℤ X) -ℤ (S *ℤ P)) h
    (ring (S ∷ T ∷ d ∷ X ∷ P ∷ []) (var 2 ⊗ ((var 1 ⊗ var 3) ⊖ (var 0 ⊗ var 4))) ((var 1 ⊗ (var 2 ⊗ var 3)) ⊖ (var 0 ⊗ (var 2 ⊗ var 4))) refl
    ∙ ap (λ z. (T *ℤ z) -ℤ (S *ℤ (d *ℤ P))) (sym e) ∙ ap (λ z. (T *ℤ (S *ℤ p)) -ℤ (S *ℤ z)) (sym f)
    ∙ ring (S ∷ T ∷ p ∷ []) ((var 1 ⊗ (var 0 ⊗ var 2)) ⊖ (var 0 ⊗ (var 1 ⊗ var 2))) (num (pos 0)) refl)

pub common_meets : (a b : List Pt) → Common a b → Meets0 (differences a b)
common_meets a b c =
    let m = hull_mix_at a c.p c.in_a in
    let n = hull_mix_at b c.p c.in_b in
    record {
      n = m.n * n.n;
      some = positive_times m.n n.n m.some n.some;
      mix = mix_to (differences a b) (m.n * n.n) (m.n * n.n) _ _ _ _ refl
          (meet_line (pos m.n) (pos n.n) c.p.x (pos c.p.d) m.X n.X (above c.p.d c.whole) m.x n.x)
          (meet_line (pos m.n) (pos n.n) c.p.y (pos c.p.d) m.Y n.Y (above c.p.d c.whole) m.y n.y)
          (to_differences a b m.n n.n m.X m.Y n.X n.Y m.mix n.mix);
    }
  where
    above : (n : ℕ) → 1 ≤ n → pos 0 <ℤ pos n
    above n h = omega (arith, ints)

-- ---- differences and their members

each_included : (p q : Pt) (b : List Pt) → Includes b q → Includes (each_minus p b) (minus p q)
each_included p q [] i = absurd i
each_included p q (r ∷ b) (inl e) = inl (ap (minus p) e)
each_included p q (r ∷ b) (inr i) = inr (each_included p q b i)

pub difference_included : (a b : List Pt) (p q : Pt) → Includes a p → Includes b q → Includes (differences a b) (minus p q)
difference_included [] b p q i j = absurd i
difference_included (r ∷ a) b p q (inl e) j = includes_front (each_minus r b) (differences a b) (minus p q) (subst (λ (z : Pt). Includes (each_minus r b) (minus z q)) (sym e) (each_included r q b j))
difference_included (r ∷ a) b p q (inr i) j = includes_back (each_minus r b) (differences a b) (minus p q) (difference_included a b p q i j)

each_holds : (P : Pt → Type 0) (p : Pt) (b : List Pt) → ((q : Pt) → Includes b q → P (minus p q)) → (u : Pt) → Includes (each_minus p b) u → P u
each_holds P p [] h u i = absurd i
each_holds P p (q ∷ b) h u (inl e) = subst P (sym e) (h q (inl refl))
each_holds P p (q ∷ b) h u (inr i) = each_holds P p b (λ r j. h r (inr j)) u i

-- what holds of the difference of each two points holds of each difference
pub differences_hold : (P : Pt → Type 0) (a b : List Pt) → ((p q : Pt) → Includes a p → Includes b q → P (minus p q)) → (u : Pt) → Includes (differences a b) u → P u
differences_hold P [] b h u i = absurd i
differences_hold P (p ∷ a) b h u i = elim (includes_either (each_minus p b) (differences a b) u i) [
  | inl j ↦ each_holds P p b (λ q k. h p q (inl refl) k) u j
  | inr j ↦ differences_hold P a b (λ r q k l. h r q (inr k) l) u j
]

-- ---- a pivot tells that the two are disjoint

pub leftwards_disjoint : (a b : List Pt) (v : Pt) → ((p : Pt) → Includes a p → AreLeftwards v p b) → AreDisjoint a b
leftwards_disjoint a b v h p whole i j = pivot_apart (differences a b) v (differences_hold (IsLeftwards v) a b (λ r q k l. h r k q l)) (common_meets a b (record { p = p; whole = whole; in_a = i; in_b = j }))

-- where the two are disjoint, there is a pivot
pub disjoint_pivot : (a b : List Pt) → 0 < length a → 0 < length b → AreDisjoint a b → (v : Pt) × ((p : Pt) → Includes a p → AreLeftwards v p b)
disjoint_pivot [] b h k d = absurd (omega arith)
disjoint_pivot (p ∷ a) [] h k d = absurd (omega arith)
disjoint_pivot (p ∷ a) (q ∷ b) h k d = elim (pivot_or_meets (minus p q) (each_minus p b ++ differences a (q ∷ b))) [
  | inl v ↦ (v.0, λ r i s j. v.1.all (minus r s) (difference_included (p ∷ a) (q ∷ b) r s i j))
  | inr m ↦ absurd (let c = meets_common (p ∷ a) (q ∷ b) m in d c.p c.whole c.in_a c.in_b)
]

-- two lists are disjoint, or 0 is in the hull of their differences
pub disjoint_or_meets : (a b : List Pt) → 0 < length a → 0 < length b → AreDisjoint a b ⊎ Meets0 (differences a b)
disjoint_or_meets [] b h k = absurd (omega arith)
disjoint_or_meets (p ∷ a) [] h k = absurd (omega arith)
disjoint_or_meets (p ∷ a) (q ∷ b) h k = elim (pivot_or_meets (minus p q) (each_minus p b ++ differences a (q ∷ b))) [
  | inl v ↦ inl (leftwards_disjoint (p ∷ a) (q ∷ b) v.0 (λ r i s j. v.1.all (minus r s) (difference_included (p ∷ a) (q ∷ b) r s i j)))
  | inr m ↦ inr m
]
