-- A point is in the hull of the corners of a polygon exactly where it is left of each edge.
use Rattle.std.proofs.Common.{◌≡◌, ℕ, zero, suc, ◌+◌, ◌-◌, ◌≤◌, ◌<◌, arith, refl, sym, ap, ◌∙◌, subst, List, [], ◌∷◌, length, get_or, ◌⊎◌, inl, inr}
use Rattle.std.specs.List.{AllByRecursion}
use Rattle.std.proofs.lemmas.Int.{ints, by_lt_z}
use lib.IntN.{ℤ, pos, negsuc, ◌+ℤ◌, ◌-ℤ◌, ◌*ℤ◌, neg_ℤ}
use lib.Signed.{◌≤ℤ◌, ◌<ℤ◌}
use Rattle.spot_terms.specs.declared.plain.Pt.{Pt}
use Rattle.spot_terms.specs.Lists.{Includes}
use Rattle.spot_terms.specs.Hull.{InHull, whole_pt, Before, IsLeftOf, edges_to, IsCornerList}
use Rattle.spot_terms.proofs.ListLemmas.{all_included, all_later, includes_itself}
use Rattle.spot_terms.proofs.Products.{square_not_negative}
use Rattle.spot_terms.proofs.Ring.{ring, var, num}
use Rattle.spot_terms.proofs.Mixes.{Affine}
use Rattle.spot_terms.proofs.Hulls.{mix_hull, hull_not_below, hull_subset, hull_first}
use Rattle.spot_terms.proofs.Orders.{difference_positive, irreflexive, natural_of, opposite_not_negative, positive_not_negative, square_positive, sum_not_negative, sum_positive, zero_by_signs, zero_not_negative}
use Rattle.convex_poly.specs.Turns.{cross, inner, EdgesLeft, ClosingLeft, IsOn}
use Rattle.convex_poly.proofs.Crosses.{inner_exp, cross_affine, inner_affine, cross_turn, cross_swap, cross_parts, cross_weighs_x, cross_weighs_y, inner_weighs_x, inner_weighs_y, inner_parts}
use Rattle.spot_terms.proofs.Places.{all_map, same_index, compare3}
use Rattle.spot_terms.proofs.OneHull.{cross_first, cross_second, same_pt}

-- ---- a triangle

triangle_by : (a b c q : Pt) (A B C : ℕ) → cross b c q ≡ pos A → cross c a q ≡ pos B → cross a b q ≡ pos C → pos 0 <ℤ cross a b c → InHull (a ∷ b ∷ c ∷ []) q
triangle_by a b c q A B C ha hb hc s =
    let all : pos (A + (B + (C + 0))) ≡ (pos A +ℤ pos B) +ℤ pos C = omega (arith, ints) in
    let sum : (pos A +ℤ pos B) +ℤ pos C ≡ cross a b c =
    ap (λ z. (z +ℤ pos B) +ℤ pos C) (sym ha) ∙ ap (λ z. (cross b c q +ℤ z) +ℤ pos C) (sym hb) ∙ ap (λ z. (cross b c q +ℤ cross c a q) +ℤ z) (sym hc) ∙ cross_parts a b c q in
    let e : pos 0 <ℤ pos (A + (B + (C + 0))) = subst (λ z. pos 0 <ℤ z) (sym (all ∙ sum)) s in
    mix_hull (a ∷ b ∷ c ∷ []) q (A + (B + (C + 0))) (omega (arith, ints, e)) (record {
      weights = A ∷ B ∷ C ∷ [];
      at_w = refl;
      at_x = sym (ap (λ z. z *ℤ q.x) (all ∙ sum ∙ sym (cross_parts a b c q)) ∙ cross_weighs_x a b c q ∙ ap (λ z. (z *ℤ a.x) +ℤ ((cross c a q *ℤ b.x) +ℤ ((cross a b q *ℤ c.x) +ℤ pos 0))) ha ∙ ap (λ z. (pos A *ℤ a.x) +ℤ ((z *ℤ b.x) +ℤ ((cross a b q *ℤ c.x) +ℤ pos 0))) hb ∙ ap (λ z. (pos A *ℤ a.x) +ℤ ((pos B *ℤ b.x) +ℤ ((z *ℤ c.x) +ℤ pos 0))) hc);
      at_y = sym (ap (λ z. z *ℤ q.y) (all ∙ sum ∙ sym (cross_parts a b c q)) ∙ cross_weighs_y a b c q ∙ ap (λ z. (z *ℤ a.y) +ℤ ((cross c a q *ℤ b.y) +ℤ ((cross a b q *ℤ c.y) +ℤ pos 0))) ha ∙ ap (λ z. (pos A *ℤ a.y) +ℤ ((z *ℤ b.y) +ℤ ((cross a b q *ℤ c.y) +ℤ pos 0))) hb ∙ ap (λ z. (pos A *ℤ a.y) +ℤ ((pos B *ℤ b.y) +ℤ ((z *ℤ c.y) +ℤ pos 0))) hc);
    })

pub triangle : (a b c q : Pt) → pos 0 <ℤ cross a b c → pos 0 ≤ℤ cross b c q → pos 0 ≤ℤ cross c a q → pos 0 ≤ℤ cross a b q → InHull (a ∷ b ∷ c ∷ []) q
triangle a b c q s ha hb hc =
    let A = natural_of (cross b c q) ha in
    let B = natural_of (cross c a q) hb in
    let C = natural_of (cross a b q) hc in
    triangle_by a b c q A.0 B.0 C.0 A.1 B.1 C.1 s

-- ---- the fan of triangles from the first corner

-- q is left of each edge of the way a, bs
abbrev pub ChainLeft : Pt → Pt → List Pt → Type 0
ChainLeft q a [] = Unit {0}
ChainLeft q a (b ∷ bs) = (pos 0 ≤ℤ cross a b q) × ChainLeft q b bs

-- o and each edge of the way a, bs turn left
abbrev pub FanLeft : Pt → Pt → List Pt → Type 0
FanLeft o a [] = Unit {0}
FanLeft o a (b ∷ bs) = (pos 0 <ℤ cross o a b) × FanLeft o b bs

abbrev pub last_of : Pt → List Pt → Pt
last_of a [] = a
last_of a (b ∷ bs) = last_of b bs

from_swap : (a b q : Pt) → cross a b q ≤ℤ pos 0 → pos 0 ≤ℤ cross b a q
from_swap a b q h = let e = cross_swap b a q in rw e (opposite_not_negative (cross a b q) h)

-- q is left of the way o, a, b, rest and back to o, whose edges turn left as seen from o
pub fan : (o a b : Pt) (rest : List Pt) (q : Pt) → pos 0 ≤ℤ cross o a q → ChainLeft q a (b ∷ rest) → pos 0 ≤ℤ cross (last_of b rest) o q → FanLeft o a (b ∷ rest) → InHull (o ∷ a ∷ b ∷ rest) q
fan o a b [] q start chain end turns =
    triangle o a b q turns.0 chain.0 end start
fan o a b (c ∷ rest) q start chain end turns =
    by_lt_z (cross o b q) (pos 0)
    (λ less. hull_subset (o ∷ a ∷ b ∷ []) (o ∷ a ∷ b ∷ c ∷ rest) (whole_pt q)
    (inl refl, (inr (inl refl), (inr (inr (inl refl)), tt)))
    (triangle o a b q turns.0 chain.0 (from_swap o b q (omega (arith, ints))) start))
    (λ more. hull_subset (o ∷ b ∷ c ∷ rest) (o ∷ a ∷ b ∷ c ∷ rest) (whole_pt q)
    (inl refl, all_later o (b ∷ c ∷ rest) (a ∷ b ∷ c ∷ rest) (all_later a (b ∷ c ∷ rest) (b ∷ c ∷ rest) (includes_itself (b ∷ c ∷ rest))))
    (fan o b c rest q more chain.1 end turns.1))

-- ---- by index, as the code walks

chain_from_edges : (q a : Pt) (bs : List Pt) → EdgesLeft (a ∷ bs) q → ChainLeft q a bs
chain_from_edges q a [] e = tt
chain_from_edges q a (b ∷ bs) e =
    (e 0 1 a (omega arith) (omega arith), chain_from_edges q b bs (λ i j d m h. e (suc i) (suc j) d (omega arith) (omega arith)))

-- c is an end of the edge, or left of it
abbrev pub IsBeside : Pt → Pt × Pt → Type 0
IsBeside c e = (c ≡ e.0) ⊎ (c ≡ e.1) ⊎ IsLeftOf e.0 e.1 c

not_before : (o : Pt) → Before o o → ⊥
not_before o (inl h) = irreflexive o.x h
not_before o (inr h) = irreflexive o.y h.1

-- the first corner is left of each edge that it is no end of
fan_from : (o first a : Pt) (bs : List Pt) → Before o a → AllByRecursion (Before o) bs → AllByRecursion (λ e. IsBeside o e) (edges_to first (a ∷ bs)) → FanLeft o a bs
fan_from o first a [] h all l = tt
fan_from o first a (b ∷ bs) h all l = (
  elim l.0 [
    | inl e ↦ absurd (not_before o (subst (Before o) (sym e) h))
    | inr m ↦ elim m [
      | inl e ↦ absurd (not_before o (subst (Before o) (sym e) all.0))
      | inr g ↦ subst (λ z. pos 0 <ℤ z) (sym (cross_turn o a b)) g
    ]
  ],
  fan_from o first b bs all.0 all.1 l.1,
)

pub corner_fan : (o a : Pt) (bs : List Pt) → IsCornerList (o ∷ a ∷ bs) → FanLeft o a bs
corner_fan o a bs t = fan_from o o a bs t.0.0 t.0.1
    (all_map (λ f. AllByRecursion (λ c. IsBeside c f) (o ∷ a ∷ bs)) (IsBeside o) (λ f g. g.0) (edges_to o (a ∷ bs)) t.1.1)

last_is : (a : Pt) (bs : List Pt) (d : Pt) → get_or (a ∷ bs) (length bs) d ≡ last_of a bs
last_is a [] d = refl
last_is a (b ∷ bs) d = last_is b bs d

-- left of each edge of at least three corners is in the hull
pub left_in_hull : (vs : List Pt) (q : Pt) → 3 ≤ length vs → IsCornerList vs → EdgesLeft vs q → ClosingLeft vs q → InHull vs q
left_in_hull [] q h t e c = absurd (omega arith)
left_in_hull (o ∷ []) q h t e c = absurd (omega arith)
left_in_hull (o ∷ a ∷ []) q h t e c = absurd (omega arith)
left_in_hull (o ∷ a ∷ b ∷ rest) q h t e c =
    fan o a b rest q (e 0 1 o (omega arith) (omega arith)) (chain_from_edges q a (b ∷ rest) (λ i j d m l. e (suc i) (suc j) d (omega arith) (omega arith)))
    (subst (λ z. pos 0 ≤ℤ cross z o q) (last_is b rest o) (c (suc (suc (length rest))) o (omega arith)))
    (corner_fan o a (b ∷ rest) t)

-- ---- what a corner list says of its edges

beside_left : (c : Pt) (e : Pt × Pt) → IsBeside c e → pos 0 ≤ℤ cross e.0 e.1 c
beside_left c e (inl h) = subst (λ z. pos 0 ≤ℤ cross e.0 e.1 z) (sym h) (zero_not_negative _ (cross_first e.0 e.1))
beside_left c e (inr (inl h)) = subst (λ z. pos 0 ≤ℤ cross e.0 e.1 z) (sym h) (zero_not_negative _ (cross_second e.0 e.1))
beside_left c e (inr (inr h)) = positive_not_negative (cross e.0 e.1 c) h

edge_at : (first : Pt) (vs : List Pt) (i : ℕ) (d : Pt) → suc i < length vs → Includes (edges_to first vs) (get_or vs i d, get_or vs (suc i) d)
edge_at first [] i d h = absurd (omega arith)
edge_at first (a ∷ []) i d h = absurd (omega arith)
edge_at first (a ∷ b ∷ vs) zero d h = inl refl
edge_at first (a ∷ b ∷ vs) (suc i) d h = inr (edge_at first (b ∷ vs) i d (omega arith))

closing_at : (first : Pt) (vs : List Pt) (i : ℕ) (d : Pt) → suc i ≡ length vs → Includes (edges_to first vs) (get_or vs i d, first)
closing_at first [] i d h = absurd (omega arith)
closing_at first (a ∷ []) zero d h = inl refl
closing_at first (a ∷ []) (suc i) d h = absurd (omega arith)
closing_at first (a ∷ b ∷ vs) zero d h = absurd (omega arith)
closing_at first (a ∷ b ∷ vs) (suc i) d h = inr (closing_at first (b ∷ vs) i d (omega arith))

-- each corner is left of each edge, or on it
pub edge_left : (a : Pt) (rest : List Pt) → IsCornerList (a ∷ rest) → (e : Pt × Pt) → Includes (edges_to a (a ∷ rest)) e → AllByRecursion (λ c. pos 0 ≤ℤ cross e.0 e.1 c) (a ∷ rest)
edge_left a rest h e i = all_map (λ c. IsBeside c e) (λ c. pos 0 ≤ℤ cross e.0 e.1 c) (λ c g. beside_left c e g) (a ∷ rest)
    (all_included (λ e. AllByRecursion (λ c. IsBeside c e) (a ∷ rest)) (edges_to a (a ∷ rest)) e h.1 i)

pub hull_edges_left : (vs : List Pt) (q : Pt) → IsCornerList vs → InHull vs q → EdgesLeft vs q
hull_edges_left [] q t h i j d same l = absurd t
hull_edges_left (a ∷ rest) q t h i j d same l =
    let e : j ≡ suc i = omega arith in
    rw e (hull_not_below (cross (get_or (a ∷ rest) i d) (get_or (a ∷ rest) (suc i) d)) (cross_affine (get_or (a ∷ rest) i d) (get_or (a ∷ rest) (suc i) d)) (a ∷ rest) q
    (edge_left a rest t (get_or (a ∷ rest) i d, get_or (a ∷ rest) (suc i) d) (edge_at a (a ∷ rest) i d (omega arith))) h)

pub hull_closing_left : (vs : List Pt) (q : Pt) → IsCornerList vs → InHull vs q → ClosingLeft vs q
hull_closing_left [] q t h i d l = absurd t
hull_closing_left (a ∷ rest) q t h i d l =
    hull_not_below (cross (get_or (a ∷ rest) i d) a) (cross_affine (get_or (a ∷ rest) i d) a) (a ∷ rest) q
    (edge_left a rest t (get_or (a ∷ rest) i d, a) (closing_at a (a ∷ rest) i d (omega arith))) h

-- ---- one and two corners

-- the squared distance of two points, one before the other
apart : (a b : Pt) → Before a b → pos 0 <ℤ (((b.x -ℤ a.x) *ℤ (b.x -ℤ a.x)) +ℤ ((b.y -ℤ a.y) *ℤ (b.y -ℤ a.y)))
apart a b (inl h) = sum_positive ((b.x -ℤ a.x) *ℤ (b.x -ℤ a.x)) ((b.y -ℤ a.y) *ℤ (b.y -ℤ a.y)) (square_positive (b.x -ℤ a.x) (difference_positive a.x b.x h)) (square_not_negative (b.y -ℤ a.y))
apart a b (inr h) = sum_positive ((b.x -ℤ a.x) *ℤ (b.x -ℤ a.x)) ((b.y -ℤ a.y) *ℤ (b.y -ℤ a.y)) (square_not_negative (b.x -ℤ a.x)) (square_positive (b.y -ℤ a.y) (difference_positive a.y b.y h.1))
  where
    sum_positive : (z w : ℤ) → pos 0 ≤ℤ z → pos 0 <ℤ w → pos 0 <ℤ (z +ℤ w)
    sum_positive z w h k = omega (arith, ints)

on_by : (a b q : Pt) (A B : ℕ) → inner b a q ≡ pos A → inner a b q ≡ pos B → cross a b q ≡ pos 0 → pos 0 <ℤ (inner b a q +ℤ inner a b q) → InHull (a ∷ b ∷ []) q
on_by a b q A B ha hb straight far =
    let all : pos (A + (B + 0)) ≡ inner b a q +ℤ inner a b q = all_is (inner b a q) (inner a b q) ha hb in
    mix_hull (a ∷ b ∷ []) q (A + (B + 0)) (let e : pos 0 <ℤ pos (A + (B + 0)) = subst (λ z. pos 0 <ℤ z) (sym all) far in omega (arith, ints, e)) (record {
      weights = A ∷ B ∷ [];
      at_w = refl;
      at_x = sym (ap (λ z. z *ℤ q.x) all ∙ inner_weighs_x a b q ∙ minus_none ((inner b a q *ℤ a.x) +ℤ ((inner a b q *ℤ b.x) +ℤ pos 0)) (b.y -ℤ a.y) (cross a b q) straight
          ∙ ap (λ z. (z *ℤ a.x) +ℤ ((inner a b q *ℤ b.x) +ℤ pos 0)) ha ∙ ap (λ z. (pos A *ℤ a.x) +ℤ ((z *ℤ b.x) +ℤ pos 0)) hb);
      at_y = sym (ap (λ z. z *ℤ q.y) all ∙ inner_weighs_y a b q ∙ plus_none ((inner b a q *ℤ a.y) +ℤ ((inner a b q *ℤ b.y) +ℤ pos 0)) (b.x -ℤ a.x) (cross a b q) straight
          ∙ ap (λ z. (z *ℤ a.y) +ℤ ((inner a b q *ℤ b.y) +ℤ pos 0)) ha ∙ ap (λ z. (pos A *ℤ a.y) +ℤ ((z *ℤ b.y) +ℤ pos 0)) hb);
    })
  where
    all_is : (z w : ℤ) → z ≡ pos A → w ≡ pos B → pos (A + (B + 0)) ≡ z +ℤ w
    all_is z w h k = omega (arith, ints)

    minus_none : (m z w : ℤ) → w ≡ pos 0 → m -ℤ (z *ℤ w) ≡ m
    minus_none m z w h = rw h (omega (arith, ints))

    plus_none : (m z w : ℤ) → w ≡ pos 0 → m +ℤ (z *ℤ w) ≡ m
    plus_none m z w h = rw h (omega (arith, ints))

pub on_in_hull : (a b q : Pt) → Before a b → IsOn a b q → InHull (a ∷ b ∷ []) q
on_in_hull a b q h on =
    let A = natural_of (inner b a q) on.from_b in
    let B = natural_of (inner a b q) on.from_a in
    on_by a b q A.0 B.0 A.1 B.1 on.straight (subst (λ z. pos 0 <ℤ z) (sym (inner_parts a b q)) (apart a b h))

-- ---- the loop over the edges
pub edge_step : (vs : List Pt) (q e : Pt) (i : ℕ) (r : ℤ) → ((m n : ℕ) (d : Pt) → n ≡ m + 1 → n < i → pos 0 ≤ℤ cross (get_or vs m d) (get_or vs n d) q) → 1 ≤ i → i < length vs → r ≡ cross (get_or vs (i - 1) e) (get_or vs i e) q → pos 0 ≤ℤ r → (m n : ℕ) (d : Pt) → n ≡ m + 1 → n < i + 1 → pos 0 ≤ℤ cross (get_or vs m d) (get_or vs n d) q
edge_step vs q e i r below low high is sign m n d next h =
    compare3 n i
    (λ less. below m n d next less)
    (λ same.
    let f : get_or vs m d ≡ get_or vs (i - 1) e = same_index vs (i - 1) m d e (omega arith) (omega arith) in
    let g : get_or vs n d ≡ get_or vs i e = same_index vs i n d e (omega arith) same in
    rw (f, g, ← is) sign)
    (λ more. absurd (omega arith))

pub closing_step : (vs : List Pt) (q e : Pt) (r : ℤ) → 0 < length vs → r ≡ cross (get_or vs (length vs - 1) e) (get_or vs 0 e) q → pos 0 ≤ℤ r → ClosingLeft vs q
closing_step vs q e r some is sign i d last =
    let f : get_or vs i d ≡ get_or vs (length vs - 1) e = same_index vs (length vs - 1) i d e (omega arith) (omega arith) in
    let g : get_or vs 0 d ≡ get_or vs 0 e = same_index vs 0 0 d e some refl in
    rw (f, g, ← is) sign

pub closing_back : (vs : List Pt) (q e : Pt) (r : ℤ) → 0 < length vs → r ≡ cross (get_or vs (length vs - 1) e) (get_or vs 0 e) q → ClosingLeft vs q → pos 0 ≤ℤ r
closing_back vs q e r some is all = rw is (all (length vs - 1) e (omega arith))

-- ---- the three kinds of corner lists

less_x : (a : Pt) → Affine (λ p. p.x -ℤ a.x)
less_x a = record { at_x = pos 1; at_y = pos 0; rest = neg_ℤ a.x; is = λ p. omega (arith, ints) }

more_x : (a : Pt) → Affine (λ p. a.x -ℤ p.x)
more_x a = record { at_x = negsuc 0; at_y = pos 0; rest = a.x; is = λ p. omega (arith, ints) }

less_y : (a : Pt) → Affine (λ p. p.y -ℤ a.y)
less_y a = record { at_x = pos 0; at_y = pos 1; rest = neg_ℤ a.y; is = λ p. omega (arith, ints) }

more_y : (a : Pt) → Affine (λ p. a.y -ℤ p.y)
more_y a = record { at_x = pos 0; at_y = negsuc 0; rest = a.y; is = λ p. omega (arith, ints) }

itself_zero : (z : ℤ) → pos 0 ≤ℤ (z -ℤ z)
itself_zero z = omega (arith, ints)

between : (z w : ℤ) → pos 0 ≤ℤ (z -ℤ w) → pos 0 ≤ℤ (w -ℤ z) → w ≡ z
between z w h k = omega (arith, ints)

pub one_corner : (a q : Pt) → InHull (a ∷ []) q → a ≡ q
one_corner a q h =
    same_pt a q
    (between q.x a.x (hull_not_below _ (less_x a) (a ∷ []) q (itself_zero a.x, tt) h) (hull_not_below _ (more_x a) (a ∷ []) q (itself_zero a.x, tt) h))
    (between q.y a.y (hull_not_below _ (less_y a) (a ∷ []) q (itself_zero a.y, tt) h) (hull_not_below _ (more_y a) (a ∷ []) q (itself_zero a.y, tt) h))

pub one_corner_back : (a q : Pt) → a ≡ q → InHull (a ∷ []) q
one_corner_back a q e = subst (InHull (a ∷ [])) e (hull_first a [])

pub two_corners : (a b q : Pt) → InHull (a ∷ b ∷ []) q → IsOn a b q
two_corners a b q h = record {
  straight = zero_by_signs (cross a b q)
      (hull_not_below _ (cross_affine a b) (a ∷ b ∷ []) q (zero_not_negative _ (cross_first a b), (zero_not_negative _ (cross_second a b), tt)) h)
      (subst (λ z. pos 0 ≤ℤ z) (cross_swap b a q) (hull_not_below _ (cross_affine b a) (a ∷ b ∷ []) q (zero_not_negative _ (cross_second b a), (zero_not_negative _ (cross_first b a), tt)) h));
  from_a = hull_not_below _ (inner_affine a b) (a ∷ b ∷ []) q (zero_not_negative _ (inner_first a b), (squares a b, tt)) h;
  from_b = hull_not_below _ (inner_affine b a) (a ∷ b ∷ []) q (squares b a, (zero_not_negative _ (inner_first b a), tt)) h;
}
  where
    inner_first : (a b : Pt) → inner a b a ≡ pos 0
    inner_first a b = ring (a.x ∷ a.y ∷ b.x ∷ b.y ∷ []) (inner_exp (var 0) (var 1) (var 2) (var 3) (var 0) (var 1)) (num (pos 0)) refl

    squares : (a b : Pt) → pos 0 ≤ℤ inner a b b
    squares a b = sum_not_negative ((b.x -ℤ a.x) *ℤ (b.x -ℤ a.x)) ((b.y -ℤ a.y) *ℤ (b.y -ℤ a.y)) (square_not_negative (b.x -ℤ a.x)) (square_not_negative (b.y -ℤ a.y))

abbrev pub origin : Pt
origin = record { x = pos 0; y = pos 0 }

pub inside_one : (vs : List Pt) (q e : Pt) → 1 ≤ length vs → length vs < 2 → (get_or vs 0 e ≡ q → InHull vs q) × (InHull vs q → get_or vs 0 e ≡ q)
inside_one [] q e h k = absurd (omega arith)
inside_one (a ∷ []) q e h k = (one_corner_back a q, one_corner a q)
inside_one (a ∷ b ∷ vs) q e h k = absurd (omega arith)

pub inside_two : (vs : List Pt) (q e : Pt) → IsCornerList vs → 2 ≤ length vs → length vs < 3 → (IsOn (get_or vs 0 e) (get_or vs 1 e) q → InHull vs q) × (InHull vs q → IsOn (get_or vs 0 e) (get_or vs 1 e) q)
inside_two [] q e c h k = absurd (omega arith)
inside_two (a ∷ []) q e c h k = absurd (omega arith)
inside_two (a ∷ b ∷ []) q e c h k =
    (on_in_hull a b q c.0.0, two_corners a b q)
inside_two (a ∷ b ∷ d ∷ vs) q e c h k = absurd (omega arith)

pub inside_many : (vs : List Pt) (q : Pt) → IsCornerList vs → 3 ≤ length vs → (EdgesLeft vs q × ClosingLeft vs q → InHull vs q) × (InHull vs q → EdgesLeft vs q × ClosingLeft vs q)
inside_many vs q c h =
    ((λ s. left_in_hull vs q h c s.0 s.1), (λ i. (hull_edges_left vs q c i, hull_closing_left vs q c i)))
