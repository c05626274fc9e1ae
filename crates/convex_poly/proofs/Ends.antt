-- The corners of the hull of two points.
use Rattle.std.proofs.Common.{◌≡◌, ◌⊎◌, refl, sym, inl, inr, [], ◌∷◌}
use Rattle.std.proofs.lemmas.Int.{by_lt_z}
use lib.IntN.{ℤ}
use lib.Signed.{◌<ℤ◌}
use Rattle.spot_terms.specs.declared.plain.Pt.{Pt}
use Rattle.spot_terms.specs.Hull.{Before, IsHullOf}
use Rattle.spot_terms.specs.Lists.{Includes}
use Rattle.spot_terms.proofs.Hulls.{hull_included}
use Rattle.spot_terms.proofs.OneHull.{same_pt}
use Rattle.spot_terms.proofs.Orders.{antisymmetric}

-- two corners, the first of which comes before the other
pub two_corners : (a b : Pt) → Before a b → (p q : Pt) → (p ≡ a) ⊎ (p ≡ b) → (q ≡ a) ⊎ (q ≡ b) → ((a ≡ p) ⊎ (a ≡ q)) → ((b ≡ p) ⊎ (b ≡ q)) → IsHullOf (p ∷ q ∷ []) (a ∷ b ∷ [])
two_corners a b h p q is_p is_q a_is b_is = record {
  ordered = ((h, tt), ((inl refl, (inr (inl refl), tt)), ((inr (inl refl), (inl refl, tt)), tt)));
  among = (among a a_is, (among b b_is, tt));
  covers = (hull_included (a ∷ b ∷ []) p (corner p is_p), (hull_included (a ∷ b ∷ []) q (corner q is_q), tt));
}
  where
    among : (c : Pt) → (c ≡ p) ⊎ (c ≡ q) → Includes (p ∷ q ∷ []) c
    among c (inl e) = inl e
    among c (inr e) = inr (inl e)

    corner : (c : Pt) → (c ≡ a) ⊎ (c ≡ b) → Includes (a ∷ b ∷ []) c
    corner c (inl e) = inl e
    corner c (inr e) = inr (inl e)

pin : (z w : ℤ) → (z <ℤ w → ⊥) → (w <ℤ z → ⊥) → z ≡ w
pin z w h k = by_lt_z z w (λ l. absurd (h l)) (λ not_less. by_lt_z w z (λ l. absurd (k l)) (λ not_more. antisymmetric z w not_more not_less))

-- of two points neither comes before the other
pub same_point : (p q : Pt) → (Before p q → ⊥) → (Before q p → ⊥) → q ≡ p
same_point p q h k =
    let level : q.x ≡ p.x = pin q.x p.x (λ l. k (inl l)) (λ l. h (inl l)) in
    same_pt q p level (pin q.y p.y (λ l. k (inr (level, l))) (λ l. h (inr (sym level, l))))

pub one_corner : (p q : Pt) → q ≡ p → IsHullOf (p ∷ q ∷ []) (p ∷ [])
one_corner p q e = record {
  ordered = (tt, ((inl refl, tt), tt));
  among = (inl refl, tt);
  covers = (hull_included (p ∷ []) p (inl refl), (hull_included (p ∷ []) q (inl e), tt));
}
