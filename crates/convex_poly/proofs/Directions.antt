-- A corner list whose edges have their directions among n ways has at most n corners.
use Rattle.std.proofs.Common.{◌≡◌, suc, ◌≤◌, arith, refl, sym, ap, ◌∙◌, subst, List, [], ◌∷◌, length, inl, inr}
use Rattle.std.proofs.lemmas.Int.{ints}
use Rattle.std.specs.List.{AllByRecursion}
use lib.IntN.{ℤ, pos, ◌+ℤ◌, ◌-ℤ◌, ◌*ℤ◌}
use lib.Signed.{◌<ℤ◌}
use Rattle.spot_terms.specs.declared.plain.Pt.{Pt}
use Rattle.spot_terms.specs.Hull.{edges, edges_to, IsCornerList}
use Rattle.spot_terms.specs.Lists.{Includes, Pairwise}
use Rattle.spot_terms.proofs.ListLemmas.{includes_itself}
use Rattle.spot_terms.proofs.Orders.{factor_zero, product_positive}
use Rattle.convex_poly.specs.Vectors.{turn_of, inner_product}
use Rattle.convex_poly.specs.Polygons.{IsPosition}
use Rattle.convex_poly.proofs.Chains.{positive_part}
use Rattle.convex_poly.proofs.CornerCounts.{IsDistinct, corners_distinct, distinct_few}
use Rattle.convex_poly.proofs.Edges.{way_of, HasWayOf, one_way_one_start, edges-length}
use Rattle.convex_poly.proofs.Leans.{turn_by, along_by, not_none}
use Rattle.spot_terms.proofs.Ring.{turn}

-- u points where w points
pub record PointsAlong (u w : Pt) : Type 0 where
  pub level : turn_of w u ≡ pos 0
  pub ahead : pos 0 <ℤ inner_product w u

-- two ways that point along one have one direction
same_direction : (w : Pt) (e f : Pt × Pt) → PointsAlong (way_of e) w → PointsAlong (way_of f) w → HasWayOf e f
same_direction w e f h k = record {
  level = factor_zero (inner_product w w) (turn_of (way_of e) (way_of f)) (not_none w (way_of e) (inr (h.level, h.ahead)))
      (turn_by w (way_of e) (way_of f) ∙ ap (λ z. (inner_product w (way_of e) *ℤ z) -ℤ (turn_of w (way_of e) *ℤ inner_product w (way_of f))) k.level
      ∙ ap (λ z. (inner_product w (way_of e) *ℤ pos 0) -ℤ (z *ℤ inner_product w (way_of f))) h.level ∙ both_none (inner_product w (way_of e)) (inner_product w (way_of f)));
  ahead = positive_part (inner_product (way_of e) (way_of f)) (inner_product w w) (not_none w (way_of e) (inr (h.level, h.ahead)))
      (subst (λ z. pos 0 <ℤ z) (turn (inner_product w w) (inner_product (way_of e) (way_of f)))
      (subst (λ z. pos 0 <ℤ z) (sym (along_by w (way_of e) (way_of f)
      ∙ ap (λ z. (inner_product w (way_of e) *ℤ inner_product w (way_of f)) +ℤ (z *ℤ turn_of w (way_of f))) h.level ∙ last_none (inner_product w (way_of e) *ℤ inner_product w (way_of f)) (turn_of w (way_of f))))
      (product_positive (inner_product w (way_of e)) (inner_product w (way_of f)) h.ahead k.ahead)));
}
  where
    both_none : (a b : ℤ) → (a *ℤ pos 0) -ℤ (pos 0 *ℤ b) ≡ pos 0
    both_none a b = omega (arith, ints)

    last_none : (p t : ℤ) → p +ℤ (pos 0 *ℤ t) ≡ p
    last_none p t = omega (arith, ints)

-- ---- the starts of the edges differ

abbrev DistinctStarts : List (Pt × Pt) → Type 0
DistinctStarts [] = Unit {0}
DistinctStarts (e ∷ es) = AllByRecursion (λ f. e.0 ≡ f.0 → ⊥) es × DistinctStarts es

starts_apart : (a first : Pt) (vs : List Pt) → AllByRecursion (λ v. a ≡ v → ⊥) vs → AllByRecursion (λ (f : Pt × Pt). a ≡ f.0 → ⊥) (edges_to first vs)
starts_apart a first [] h = tt
starts_apart a first (b ∷ []) h = (h.0, tt)
starts_apart a first (b ∷ c ∷ vs) h = (h.0, starts_apart a first (c ∷ vs) h.1)

starts_distinct : (first : Pt) (vs : List Pt) → IsDistinct vs → DistinctStarts (edges_to first vs)
starts_distinct first [] d = tt
starts_distinct first (a ∷ []) d = (tt, tt)
starts_distinct first (a ∷ b ∷ vs) d = (starts_apart a first (b ∷ vs) d.0, starts_distinct first (b ∷ vs) d.1)

-- ---- a way for each edge

abbrev Along : List (Pt × Pt) → List Pt → Type 0
Along es ws = Pairwise (λ e w. PointsAlong (way_of e) w) es ws

record Chosen (es : List (Pt × Pt)) (ways : List Pt) : Type 0 where
  chosen : List Pt
  among : AllByRecursion (Includes ways) chosen
  fit : Along es chosen

choose : (es : List (Pt × Pt)) (ways : List Pt) → ((e : Pt × Pt) → Includes es e → (w : Pt) × Includes ways w × PointsAlong (way_of e) w) → Chosen es ways
choose [] ways h = record { chosen = []; among = tt; fit = tt }
choose (e ∷ es) ways h =
    let c = choose es ways (λ f i. h f (inr i)) in
    let w = h e (inl refl) in
    record { chosen = w.0 ∷ c.chosen; among = (w.1, c.among); fit = (w.2, c.fit) }

same_length : (es : List (Pt × Pt)) (ws : List Pt) → Along es ws → length es ≡ length ws
same_length [] [] h = refl
same_length [] (w ∷ ws) h = absurd h
same_length (e ∷ es) [] h = absurd h
same_length (e ∷ es) (w ∷ ws) h = ap (λ n. suc n) (same_length es ws h.1)

module _ (vs : List Pt) (corners : IsCornerList vs) where
  ways_apart : (e : Pt × Pt) (w : Pt) (es : List (Pt × Pt)) (ws : List Pt) → Includes (edges vs) e → AllByRecursion (Includes (edges vs)) es → PointsAlong (way_of e) w → Along es ws → AllByRecursion (λ f. e.0 ≡ f.0 → ⊥) es → AllByRecursion (λ y. w ≡ y → ⊥) ws
  ways_apart e w [] [] i js h k d = tt
  ways_apart e w [] (y ∷ ws) i js h k d = absurd k
  ways_apart e w (f ∷ es) [] i js h k d = absurd k
  ways_apart e w (f ∷ es) (y ∷ ws) i js h k d =
      ((λ same. d.0 (sym (one_way_one_start vs corners e f i js.0 (same_direction w e f h (subst (PointsAlong (way_of f)) (sym same) k.0))))), ways_apart e w es ws i js.1 h k.1 d.1)

  ways_distinct : (es : List (Pt × Pt)) (ws : List Pt) → AllByRecursion (Includes (edges vs)) es → Along es ws → DistinctStarts es → IsDistinct ws
  ways_distinct [] [] js k d = tt
  ways_distinct [] (y ∷ ws) js k d = absurd k
  ways_distinct (e ∷ es) [] js k d = absurd k
  ways_distinct (e ∷ es) (w ∷ ws) js k d = (ways_apart e w es ws js.0 js.1 k.0 k.1 d.0, ways_distinct es ws js.1 k.1 d.1)

starts_of : (vs : List Pt) → IsDistinct vs → DistinctStarts (edges vs)
starts_of [] d = tt
starts_of (a ∷ vs) d = starts_distinct a (a ∷ vs) d

-- at most as many corners as directions
pub few_directions : (vs ways : List Pt) → AllByRecursion IsPosition vs → IsCornerList vs → ((e : Pt × Pt) → Includes (edges vs) e → (w : Pt) × Includes ways w × PointsAlong (way_of e) w) → length vs ≤ length ways
few_directions vs ways p corners h =
    let c = choose (edges vs) ways h in
    let distinct = ways_distinct vs corners (edges vs) c.chosen (includes_itself (edges vs)) c.fit (starts_of vs (corners_distinct vs p corners)) in
    let few : length c.chosen ≤ length ways = distinct_few c.chosen ways distinct c.among in
    omega (arith, few, same_length (edges vs) c.chosen c.fit, edges-length vs)
