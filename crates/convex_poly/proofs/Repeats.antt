-- A list in order, without its repeats.
use Rattle.std.proofs.Common.{◌≡◌, ℕ, ◌+◌, ◌-◌, ◌≤◌, ◌<◌, arith, refl, sym, ap, ◌∙◌, subst, List, [], ◌∷◌, ◌++◌, length, get_or, length-append, inl, inr}
use Rattle.std.proofs.Math.ListN.{get_or-append}
use Rattle.std.proofs.Math.Seq.{get_or-append_seam}
use Rattle.std.proofs.lemmas.Int.{by_lt_z}
use Rattle.std.specs.List.{AllByRecursion}
use lib.Signed.{◌<ℤ◌}
use Rattle.spot_terms.specs.declared.plain.Pt.{Pt}
use Rattle.spot_terms.specs.Lists.{Includes}
use Rattle.spot_terms.specs.Hull.{Before}
use Rattle.convex_poly.specs.Chains.{IsInOrder, IsOrdered}
use Rattle.spot_terms.proofs.ListLemmas.{includes_at, includes_back, includes_front, all_append}
use Rattle.spot_terms.proofs.Orders.{antisymmetric, at_most_below, below_or_here, below_or_at_least}
use Rattle.spot_terms.proofs.Places.{same_index, all_by_index}
use Rattle.spot_terms.proofs.OneHull.{same_pt}

-- the points are in order
abbrev pub AreInOrder : List Pt → Type 0
AreInOrder s = (i j : ℕ) (d : Pt) → i < j → j < length s → IsInOrder (get_or s i d) (get_or s j d)

-- kept is what stands of the first i points
pub record IsKept (points kept : List Pt) (i : ℕ) : Type 0 where
  pub few : length kept ≤ i
  pub ordered : IsOrdered kept
  pub among : AllByRecursion (Includes points) kept
  pub early : (k : ℕ) (d : Pt) → k < length kept → (j : ℕ) × (j < i) × (get_or points j d ≡ get_or kept k d)
  pub all : (k : ℕ) (d : Pt) → k < i → Includes kept (get_or points k d)

pub kept_none : (points : List Pt) → IsKept points [] 0
kept_none points = record {
  few = omega arith;
  ordered = λ i j d a b. absurd (omega arith);
  among = tt;
  early = λ k d h. absurd (omega arith);
  all = λ k d h. absurd (omega arith);
}

-- in order and not one point is before
strict : (a b : Pt) → IsInOrder a b → (a ≡ b → ⊥) → Before a b
strict a b h n =
    by_lt_z a.x b.x (λ less. inl less)
    (λ back. let e : a.x ≡ b.x = antisymmetric a.x b.x h.by_x back in
    by_lt_z a.y b.y (λ less. inr (e, less)) (λ high. absurd (n (same_pt a b e (antisymmetric a.y b.y (h.by_y e) high)))))

later : (a b c : Pt) → IsInOrder a b → Before b c → Before a c
later a b c h (inl k) = inl (at_most_below a.x b.x c.x h.by_x k)
later a b c h (inr k) = by_lt_z a.x b.x (λ less. inl (subst (λ z. a.x <ℤ z) k.0 less)) (λ back. let e : a.x ≡ b.x = antisymmetric a.x b.x h.by_x back in inr (e ∙ k.0, at_most_below a.y b.y c.y (h.by_y e) k.1))

-- one more point that is not the one before it
pub kept_push : (points kept new : List Pt) (i : ℕ) (e : Pt) → i < length points → AreInOrder points → IsKept points kept i → ((0 < i) → get_or points (i - 1) e ≡ get_or points i e → ⊥) → new ≡ kept ++ get_or points i e ∷ [] → IsKept points new (i + 1)
kept_push points kept new i e inside in_order h differs is = subst (λ z. IsKept points z (i + 1)) (sym is) (record {
  few = omega (arith, size, h.few);
  ordered = λ a b d ab bn. elim (below_or_at_least b (length kept)) [
    | inl low ↦ subst (λ z. Before z (get_or (kept ++ next ∷ []) b d)) (sym (get_or-append kept (next ∷ []) d a (omega arith)))
        (subst (λ z. Before (get_or kept a d) z) (sym (get_or-append kept (next ∷ []) d b low)) (h.ordered a b d ab low))
    | inr high ↦ subst (λ z. Before z (get_or (kept ++ next ∷ []) b d)) (sym (get_or-append kept (next ∷ []) d a (omega (arith, size))))
        (subst (λ z. Before (get_or kept a d) z) (sym (last_at b d (omega (arith, size, high, bn)))) (before_next a d (omega (arith, size))))
  ];
  among = all_append (Includes points) kept (next ∷ []) h.among (includes_at points i e inside, tt);
  early = λ k d l. elim (below_or_at_least k (length kept)) [
    | inl low ↦ let (j, m, f) = h.early k d low in (j, omega (arith, m), f ∙ sym (get_or-append kept (next ∷ []) d k low))
    | inr high ↦ (i, omega arith, same_index points i i d e inside refl ∙ sym (last_at k d (omega (arith, size, high, l))))
  ];
  all = λ k d l. elim (below_or_here k i l) [
    | inl low ↦ includes_front kept (next ∷ []) (get_or points k d) (h.all k d low)
    | inr here ↦ includes_back kept (next ∷ []) (get_or points k d) (inl (same_index points i k d e (omega (arith, here, inside)) here))
  ];
})
  where
    next : Pt
    next = get_or points i e

    size : length (kept ++ get_or points i e ∷ []) ≡ length kept + 1
    size = simp length-append (omega arith)

    last_at : (k : ℕ) (d : Pt) → k ≡ length kept → get_or (kept ++ get_or points i e ∷ []) k d ≡ get_or points i e
    last_at k d g = ap (λ n. get_or (kept ++ get_or points i e ∷ []) n d) g ∙ get_or-append_seam kept (get_or points i e) [] d

    before_next : (a : ℕ) (d : Pt) → a < length kept → Before (get_or kept a d) (get_or points i e)
    before_next a d l =
        let (j, m, f) = h.early a d l in
        let some : 0 < i = omega (arith, m) in
        let step : Before (get_or points (i - 1) e) (get_or points i e) = strict (get_or points (i - 1) e) (get_or points i e) (in_order (i - 1) i e (omega (arith, some)) inside) (differs some) in
        subst (λ z. Before z (get_or points i e)) (same_index points j j e d (omega (arith, m, inside)) refl ∙ f)
        (elim (below_or_at_least j (i - 1)) [
          | inl less ↦ later (get_or points j e) (get_or points (i - 1) e) (get_or points i e) (in_order j (i - 1) e less (omega (arith, inside))) step
          | inr at ↦ subst (λ n. Before (get_or points n e) (get_or points i e)) (omega (arith, at, m)) step
        ])

-- one more point that is the one before it
pub kept_skip : (points kept : List Pt) (i : ℕ) (e : Pt) → i < length points → IsKept points kept i → 0 < i → get_or points (i - 1) e ≡ get_or points i e → IsKept points kept (i + 1)
kept_skip points kept i e inside h some same = record {
  few = omega (arith, h.few);
  ordered = h.ordered;
  among = h.among;
  early = λ k d l. let (j, m, f) = h.early k d l in (j, omega (arith, m), f);
  all = λ k d l. elim (below_or_here k i l) [
    | inl low ↦ h.all k d low
    | inr here ↦ subst (Includes kept) (same ∙ sym (same_index points i k d e (omega (arith, here, inside)) here)) (h.all (i - 1) e (omega (arith, some)))
  ];
}

pub kept_all : (points kept : List Pt) (i : ℕ) → length points ≤ i → IsKept points kept i → AllByRecursion (Includes kept) points
kept_all points kept i h k = all_by_index (Includes kept) points (λ j d l. k.all j d (omega (arith, h, l)))
