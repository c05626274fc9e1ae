-- The two sides of all sums of two corner lists, and the corners of their hull.
use Rattle.std.proofs.Common.{◌≡◌, ◌+◌, ◌-◌, ◌≤◌, ◌<◌, arith, refl, sym, ap, ◌∙◌, subst, List, [], ◌∷◌, ◌++◌, length, get_or, map, length-append, length-take, ◌⊎◌, inl, inr}
use Rattle.std.proofs.lemmas.Int.{ints}
use Rattle.std.proofs.lemmas.List.{length-drop}
use Rattle.std.specs.List.{AllByRecursion}
use Rattle.std.specs.Prelude.{nat_abs}
use lib.IntN.{ℤ, pos, ◌+ℤ◌, ◌-ℤ◌}
use lib.Signed.{◌≤ℤ◌}
use Rattle.spot_terms.specs.declared.plain.Pt.{Pt}
use Rattle.spot_terms.specs.Hull.{IsHullOf}
use Rattle.spot_terms.specs.LanePolygons.{add_pt, sums}
use Rattle.spot_terms.specs.Lists.{Includes}
use Rattle.spot_terms.proofs.ListLemmas.{all_included, all_of, includes_at}
use Rattle.spot_terms.proofs.Members.{in_map, in_flat_map}
use Rattle.spot_terms.proofs.Ring.{ring, var, ◌⊕◌}
use Rattle.convex_poly.specs.Chains.{between_ends, HasMeetingEnds, IsChain, Rising, Toward}
use Rattle.convex_poly.specs.Polygons.{IsPolygon, IsPosition, IsSummand}
use Rattle.convex_poly.specs.Sums.{IsOver, IsPart, IsSumPath, IsSumSide}
use Rattle.convex_poly.specs.Turns.{cross}
use Rattle.convex_poly.proofs.Corners.{origin}
use Rattle.convex_poly.proofs.Crosses.{cross_exp}
use Rattle.convex_poly.proofs.HullCorners.{far, hull_of_sides, one_point, single, two_of}
use Rattle.convex_poly.proofs.Merges.{add_key, between_toward, key_add, sums_have}
use Rattle.convex_poly.proofs.PolygonParts.{AreMany, AreParts, AreSingle}
use Rattle.convex_poly.proofs.Sides.{toward_flat}

cross_moved : (p q s w : Pt) → cross (add_pt p w) (add_pt q w) (add_pt s w) ≡ cross p q s
cross_moved p q s w =
    ring (p.x ∷ p.y ∷ q.x ∷ q.y ∷ s.x ∷ s.y ∷ w.x ∷ w.y ∷ [])
    (cross_exp (var 0 ⊕ var 6) (var 1 ⊕ var 7) (var 2 ⊕ var 6) (var 3 ⊕ var 7) (var 4 ⊕ var 6) (var 5 ⊕ var 7))
    (cross_exp (var 0) (var 1) (var 2) (var 3) (var 4) (var 5)) refl

moved_cross : (w p q s : Pt) → cross (add_pt w p) (add_pt w q) (add_pt w s) ≡ cross p q s
moved_cross w p q s =
    ring (p.x ∷ p.y ∷ q.x ∷ q.y ∷ s.x ∷ s.y ∷ w.x ∷ w.y ∷ [])
    (cross_exp (var 6 ⊕ var 0) (var 7 ⊕ var 1) (var 6 ⊕ var 2) (var 7 ⊕ var 3) (var 6 ⊕ var 4) (var 7 ⊕ var 5))
    (cross_exp (var 0) (var 1) (var 2) (var 3) (var 4) (var 5)) refl

-- ---- what is on the side of the sums of two parts

module _ (kx ky : ℤ) (us vs a b path : List Pt) (pa : IsPart kx ky us a) (pb : IsPart kx ky vs b) (a_some : 0 < length a) (b_some : 0 < length b) (h : IsSumPath a b path) where
  on_side : (u w : Pt) → Includes a u → Includes b w → Toward ky (pos 0 -ℤ kx) path (add_pt u w)
  on_side u w hu hw = all_included (Toward ky (pos 0 -ℤ kx) path) (sums a b) (add_pt u w) (h.side kx ky pa.side pb.side) (sums_have a b u w hu hw)

  first_in : (c : List Pt) → 0 < length c → Includes c (get_or c 0 origin)
  first_in c l = includes_at c 0 origin l

  last_in : (c : List Pt) → 0 < length c → Includes c (get_or c (length c - 1) origin)
  last_in c l = includes_at c (length c - 1) origin (omega arith)

  first_over : (u w : Pt) → Includes us u → Includes b w → Toward ky (pos 0 -ℤ kx) path (add_pt u w)
  first_over u w hu hw = by (pa.others u (length a - 1) origin hu (omega arith))
    where
      by : Includes a u ⊎ IsOver kx ky (get_or a 0 origin) (get_or a (length a - 1) origin) u → Toward ky (pos 0 -ℤ kx) path (add_pt u w)
      by (inl i) = on_side u w i hw
      by (inr o) =
          between_toward kx ky path (add_pt (get_or a 0 origin) w) (add_pt u w) (add_pt (get_or a (length a - 1) origin) w)
          (on_side (get_or a 0 origin) w (first_in a a_some) hw) (on_side (get_or a (length a - 1) origin) w (last_in a a_some) hw)
          (key_add kx ky (get_or a 0 origin) u w o.after) (key_add kx ky u (get_or a (length a - 1) origin) w o.before)
          (subst (λ z. z ≤ℤ pos 0) (sym (cross_moved (get_or a 0 origin) u (get_or a (length a - 1) origin) w)) o.left)

  both_over : (u w : Pt) → Includes us u → Includes vs w → Toward ky (pos 0 -ℤ kx) path (add_pt u w)
  both_over u w hu hw = by (pb.others w (length b - 1) origin hw (omega arith))
    where
      by : Includes b w ⊎ IsOver kx ky (get_or b 0 origin) (get_or b (length b - 1) origin) w → Toward ky (pos 0 -ℤ kx) path (add_pt u w)
      by (inl i) = first_over u w hu i
      by (inr o) =
          between_toward kx ky path (add_pt u (get_or b 0 origin)) (add_pt u w) (add_pt u (get_or b (length b - 1) origin))
          (first_over u (get_or b 0 origin) hu (first_in b b_some)) (first_over u (get_or b (length b - 1) origin) hu (last_in b b_some))
          (add_key kx ky u (get_or b 0 origin) w o.after) (add_key kx ky u w (get_or b (length b - 1) origin) o.before)
          (subst (λ z. z ≤ℤ pos 0) (sym (moved_cross u (get_or b 0 origin) w (get_or b (length b - 1) origin))) o.left)

  all_over : (s : Pt) → Includes (sums us vs) s → Toward ky (pos 0 -ℤ kx) path s
  all_over s i =
      let (u, hu, j) = in_flat_map (λ (z : Pt). map (add_pt z) vs) us s i in
      let (w, hw, e) = in_map (add_pt u) vs s j in
      subst (Toward ky (pos 0 -ℤ kx) path) (sym e) (both_over u w hu hw)

  sums_wider : (s : Pt) → Includes (sums a b) s → Includes (sums us vs) s
  sums_wider s i =
      let (u, hu, j) = in_flat_map (λ (z : Pt). map (add_pt z) b) a s i in
      let (w, hw, e) = in_map (add_pt u) b s j in
      subst (Includes (sums us vs)) (sym e) (sums_have us vs u w (all_included (Includes us) a u pa.inside hu) (all_included (Includes vs) b w pb.inside hw))

  -- the chain of the way of the sums is a side of all sums
  pub sum_side : (chain : List Pt) → IsChain kx ky path chain → length chain ≤ length path → IsSumSide kx ky us vs a b chain
  sum_side chain c few = record {
    of = record {
      turns = c.turns;
      rises = c.rises;
      inside = all_of (Includes (sums us vs)) chain (λ s i. sums_wider s (all_included (Includes (sums a b)) path s h.inside (all_included (Includes path) chain s c.inside i)));
      side = all_of (Toward ky (pos 0 -ℤ kx) chain) (sums us vs) (λ s i. toward_flat ky (pos 0 -ℤ kx) path chain s c.side (all_over s i));
    };
    some = c.ends.some (omega (arith, h.size));
    two = λ l. two_of kx ky path chain (omega (arith, h.size)) (h.rises kx ky pa.side pb.side) c;
    few = omega (arith, h.size);
    ends = record {
      first = λ d. c.ends.first d (omega (arith, h.size)) ∙ h.ends.first d;
      last = λ i j k d hi hj hk. c.ends.last k (length path - 1) d hk (omega (arith, h.size)) ∙ h.ends.last i j (length path - 1) d hi hj (omega (arith, h.size));
    };
  }

-- ---- both sides

near_sum : (z w : ℤ) → nat_abs z ≤ 20000000000000 → nat_abs w ≤ 20000000000000 → nat_abs (z +ℤ w) ≤ 40000000000000
near_sum z w h k = omega (arith, ints, h, k)

sums_positions : (us vs : List Pt) → AllByRecursion IsSummand us → AllByRecursion IsSummand vs → AllByRecursion IsPosition (sums us vs)
sums_positions us vs h k = all_of IsPosition (sums us vs) (λ s i.
    let (u, hu, j) = in_flat_map (λ (z : Pt). map (add_pt z) vs) us s i in
    let (w, hw, e) = in_map (add_pt u) vs s j in
    let nu = all_included IsSummand us u h hu in
    let nw = all_included IsSummand vs w k hw in
    subst IsPosition (sym e) (record { x = near_sum u.x w.x nu.x nw.x; y = near_sum u.y w.y nu.y nw.y }))

-- what at most 20 corners of the hull of all sums are
pub polygon_of_sums : (us vs corners : List Pt) → AllByRecursion IsSummand us → AllByRecursion IsSummand vs → IsHullOf (sums us vs) corners → length corners ≤ 20 → IsPolygon corners
polygon_of_sums us vs corners hu hv h few = record {
  convex = h.ordered;
  few = few;
  positions = all_of IsPosition corners (λ c i. all_included IsPosition (sums us vs) c (sums_positions us vs hu hv) (all_included (Includes (sums us vs)) corners c h.among i));
}

between_size : (s : List Pt) → length (between_ends s) ≤ length s - 2
between_size s = simp length-take (omega (arith, length-drop 1 s))

module _ (us vs a1 b1 a2 b2 there back : List Pt) (pa : AreParts us a1 a2) (pb : AreParts vs b1 b2) (t : IsSumSide far (pos 1) us vs a1 b1 there) (k : IsSumSide (pos 0 -ℤ far) (pos 0 -ℤ pos 1) us vs a2 b2 back) where
  whole : length (there ++ between_ends back) ≡ length there + length (between_ends back)
  whole = simp length-append refl

  -- how many corners there are at most
  pub few_sum_corners : length (there ++ between_ends back) ≤ length us + length vs
  few_sum_corners = by pa.sizes pb.sizes
    where
      by : AreSingle us a1 a2 ⊎ AreMany us a1 a2 → AreSingle vs b1 b2 ⊎ AreMany vs b1 b2 → length (there ++ between_ends back) ≤ length us + length vs
      by (inl m) (inl n) = omega (arith, whole, between_size back, t.few, k.few, m.all_one, m.there_one, m.back_one, n.all_one, n.there_one, n.back_one)
      by (inl m) (inr n) = omega (arith, whole, between_size back, t.few, k.few, m.all_one, m.there_one, m.back_one, n.there_two, n.back_two, n.all)
      by (inr m) (inl n) = omega (arith, whole, between_size back, t.few, k.few, m.there_two, m.back_two, m.all, n.all_one, n.there_one, n.back_one)
      by (inr m) (inr n) = omega (arith, whole, between_size back, t.few, k.few, m.there_two, m.back_two, m.all, n.there_two, n.back_two, n.all)

  meet : 0 < length a1 → 0 < length b1 → 0 < length a2 → 0 < length b2 → HasMeetingEnds there back
  meet h1 g1 h2 g2 = record {
    foot = λ i d e. k.ends.last (length a2 - 1) (length b2 - 1) i d (omega arith) (omega arith) e
        ∙ ap (λ (z : Pt). add_pt z (get_or b2 (length b2 - 1) d)) (pa.meet.foot (length a2 - 1) d (omega arith)) ∙ ap (λ (z : Pt). add_pt (get_or a1 0 d) z) (pb.meet.foot (length b2 - 1) d (omega arith)) ∙ sym (t.ends.first d);
    top = λ i d e. t.ends.last (length a1 - 1) (length b1 - 1) i d (omega arith) (omega arith) e
        ∙ ap (λ (z : Pt). add_pt z (get_or b1 (length b1 - 1) d)) (pa.meet.top (length a1 - 1) d (omega arith)) ∙ ap (λ (z : Pt). add_pt (get_or a2 0 d) z) (pb.meet.top (length b1 - 1) d (omega arith)) ∙ sym (k.ends.first d);
  }

  of_many : AllByRecursion IsPosition (sums us vs) → 2 ≤ length there → 2 ≤ length back → HasMeetingEnds there back → IsHullOf (sums us vs) (there ++ between_ends back)
  of_many positions ht hb m = hull_of_sides (sums us vs) there back positions t.of k.of ht hb m

  of_one : length us ≡ 1 → length vs ≡ 1 → IsHullOf (sums us vs) (there ++ between_ends back)
  of_one hu hv = go us vs hu hv t.of.inside t.of.rises k.of.inside k.of.rises
    where
      go : (us vs : List Pt) → length us ≡ 1 → length vs ≡ 1 → AllByRecursion (Includes (sums us vs)) there → Rising far (pos 1) there → AllByRecursion (Includes (sums us vs)) back → Rising (pos 0 -ℤ far) (pos 0 -ℤ pos 1) back → IsHullOf (sums us vs) (there ++ between_ends back)
      go [] vs h g it rt ib rb = absurd (omega arith)
      go (p ∷ q ∷ us) vs h g it rt ib rb = absurd (omega arith)
      go (p ∷ []) [] h g it rt ib rb = absurd (omega arith)
      go (p ∷ []) (q ∷ r ∷ vs) h g it rt ib rb = absurd (omega arith)
      go (p ∷ []) (q ∷ []) h g it rt ib rb =
          let e : there ≡ add_pt p q ∷ [] = single (add_pt p q) there far (pos 1) t.some it rt in
          let f : back ≡ add_pt p q ∷ [] = single (add_pt p q) back (pos 0 -ℤ far) (pos 0 -ℤ pos 1) k.some ib rb in
          subst (λ z. IsHullOf (add_pt p q ∷ []) (z ++ between_ends back)) (sym e) (subst (λ z. IsHullOf (add_pt p q ∷ []) ((add_pt p q ∷ []) ++ between_ends z)) (sym f) (one_point (add_pt p q)))

  -- the corners of the hull of all sums
  pub hull_of_sum_sides : AllByRecursion IsSummand us → AllByRecursion IsSummand vs → IsHullOf (sums us vs) (there ++ between_ends back)
  hull_of_sum_sides hu hv = by pa.sizes pb.sizes
    where
      positions : AllByRecursion IsPosition (sums us vs)
      positions = sums_positions us vs hu hv

      by : AreSingle us a1 a2 ⊎ AreMany us a1 a2 → AreSingle vs b1 b2 ⊎ AreMany vs b1 b2 → IsHullOf (sums us vs) (there ++ between_ends back)
      by (inl m) (inl n) = of_one m.all_one n.all_one
      by (inl m) (inr n) = of_many positions (t.two (omega (arith, m.there_one, n.there_two))) (k.two (omega (arith, m.back_one, n.back_two))) (meet (omega (arith, m.there_one)) (omega (arith, n.there_two)) (omega (arith, m.back_one)) (omega (arith, n.back_two)))
      by (inr m) (inl n) = of_many positions (t.two (omega (arith, n.there_one, m.there_two))) (k.two (omega (arith, n.back_one, m.back_two))) (meet (omega (arith, m.there_two)) (omega (arith, n.there_one)) (omega (arith, m.back_two)) (omega (arith, n.back_one)))
      by (inr m) (inr n) = of_many positions (t.two (omega (arith, n.there_two, m.there_two))) (k.two (omega (arith, n.back_two, m.back_two))) (meet (omega (arith, m.there_two)) (omega (arith, n.there_two)) (omega (arith, m.back_two)) (omega (arith, n.back_two)))

-- ---- hulls of summands

pub hull_summands : (points corners : List Pt) → AllByRecursion IsSummand points → IsHullOf points corners → AllByRecursion IsSummand corners
hull_summands points corners h u = all_of IsSummand corners (λ c i. all_included IsSummand points c h (all_included (Includes points) corners c u.among i))
