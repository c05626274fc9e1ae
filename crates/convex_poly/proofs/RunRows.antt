-- Rows of a polygon: what the span to start with and the edges say together.
use Rattle.std.proofs.Common.{◌≡◌, ℕ, ◌+◌, ◌-◌, ◌≤◌, ◌<◌, arith, refl, sym, ap, subst, List, [], ◌∷◌, length, get_or, inl, inr}
use Rattle.std.specs.Prelude.{nat_abs, Option}
use Rattle.std.specs.List.{AllByRecursion}
use Rattle.std.proofs.lemmas.Int.{ints, by_lt_z}
use lib.IntN.{ℤ, pos, ◌-ℤ◌, ◌*ℤ◌, neg_ℤ}
use lib.Signed.{◌≤ℤ◌}
use Rattle.spot_terms.specs.declared.plain.Pt.{Pt}
use Rattle.spot_terms.specs.Whole.{Within}
use Rattle.spot_terms.specs.Hull.{InHull, Before}
use Rattle.spot_terms.proofs.Hulls.{hull_x_at_most, hull_x_at_least, hull_y_at_most, hull_y_at_least}
use Rattle.convex_poly.specs.Polygons.{IsPolygon, IsPosition}
use Rattle.convex_poly.specs.Turns.{cross, IsOn}
use Rattle.convex_poly.specs.Runs.{IsSpanOf, IsRun, IsSpan, IsInRows, AreLeft, IsBetween, IsBoxed, IsPlace, IsStart, pt}
use Rattle.convex_poly.proofs.Crosses.{cross_swap}
use Rattle.convex_poly.proofs.Corners.{one_corner, one_corner_back, on_in_hull, left_in_hull, hull_edges_left, hull_closing_left}
use Rattle.spot_terms.proofs.Places.{all_map, same_index}
use Rattle.spot_terms.proofs.Ring.{ring, var, ◌⊖◌, ◌⊗◌}
use Rattle.spot_terms.proofs.Orders.{antisymmetric, below_or_at_least, difference_across, difference_not_negative, equal_at_least, equal_at_most, reflexive, sum_not_negative, weaken, zero_by_signs, product_not_negative}
use Rattle.convex_poly.proofs.RunSteps.{IsNarrowed, run_same}
use Rattle.spot_terms.proofs.OneHull.{same_pt}

-- ---- one and two corners

pub before_x : (a b : Pt) → Before a b → a.x ≤ℤ b.x
before_x a b (inl h) = weaken a.x b.x h
before_x a b (inr h) = equal_at_most a.x b.x h.0

two_between : (a b q : Pt) → InHull (a ∷ b ∷ []) q → IsBetween a.y b.y q.y
two_between a b q h = by_lt_z a.y b.y
    (λ up. inl (record { low = hull_y_at_least a.y (a ∷ b ∷ []) q (reflexive a.y, (weaken a.y b.y up, tt)) h; high = hull_y_at_most b.y (a ∷ b ∷ []) q (weaken a.y b.y up, (reflexive b.y, tt)) h }))
    (λ down. inr (record { low = hull_y_at_least b.y (a ∷ b ∷ []) q (down, (reflexive b.y, tt)) h; high = hull_y_at_most a.y (a ∷ b ∷ []) q (reflexive a.y, (down, tt)) h }))

two_within : (a b q : Pt) → Before a b → InHull (a ∷ b ∷ []) q → Within a.x b.x q.x
two_within a b q o h = record { low = hull_x_at_least a.x (a ∷ b ∷ []) q (reflexive a.x, (before_x a b o, tt)) h; high = hull_x_at_most b.x (a ∷ b ∷ []) q (before_x a b o, (reflexive b.x, tt)) h }

-- products of numbers of one sign
same_sign : (s t y : ℤ) → IsBetween s t y → pos 0 ≤ℤ ((t -ℤ s) *ℤ (y -ℤ s))
same_sign s t y (inl w) = product_not_negative (t -ℤ s) (y -ℤ s) (difference_across s y t w.low w.high) (difference_not_negative s y w.low)
same_sign s t y (inr w) = subst (λ z. pos 0 ≤ℤ z) (flip s t y) (product_not_negative (s -ℤ t) (s -ℤ y) (difference_across t y s w.low w.high) (difference_not_negative y s w.high))
  where
    flip : (s t y : ℤ) → (s -ℤ t) *ℤ (s -ℤ y) ≡ (t -ℤ s) *ℤ (y -ℤ s)
    flip s t y = ring (s ∷ t ∷ y ∷ []) ((var 0 ⊖ var 1) ⊗ (var 0 ⊖ var 2)) ((var 1 ⊖ var 0) ⊗ (var 2 ⊖ var 0)) refl

between_turned : (s t y : ℤ) → IsBetween s t y → IsBetween t s y
between_turned s t y (inl w) = inr w
between_turned s t y (inr w) = inl w

on_of_box : (a b q : Pt) → Within a.x b.x q.x → IsBetween a.y b.y q.y → pos 0 ≤ℤ cross a b q → pos 0 ≤ℤ cross b a q → IsOn a b q
on_of_box a b q wide tall left back = record {
  straight = zero_by_signs (cross a b q) left (subst (λ z. pos 0 ≤ℤ z) (cross_swap b a q) back);
  from_a = sum_not_negative ((b.x -ℤ a.x) *ℤ (q.x -ℤ a.x)) ((b.y -ℤ a.y) *ℤ (q.y -ℤ a.y)) (same_sign a.x b.x q.x (inl wide)) (same_sign a.y b.y q.y tall);
  from_b = sum_not_negative ((a.x -ℤ b.x) *ℤ (q.x -ℤ b.x)) ((a.y -ℤ b.y) *ℤ (q.y -ℤ b.y)) (same_sign b.x a.x q.x (inr wide)) (same_sign b.y a.y q.y (between_turned a.y b.y q.y tall));
}

one_of_box : (a : Pt) (x y : ℤ) → Within a.x a.x x → IsBetween a.y a.y y → InHull (a ∷ []) (pt x y)
one_of_box a x y wide tall = one_corner_back a (pt x y) (same_pt a (pt x y) (antisymmetric a.x x wide.low wide.high) (level tall))
  where
    level : IsBetween a.y a.y y → a.y ≡ y
    level (inl w) = antisymmetric a.y y w.low w.high
    level (inr w) = antisymmetric a.y y w.low w.high

one_box : (a : Pt) (x y : ℤ) → InHull (a ∷ []) (pt x y) → Within a.x a.x x × IsBetween a.y a.y y
one_box a x y h =
    let e : a ≡ pt x y = one_corner a (pt x y) h in
    (record { low = equal_at_most a.x x (ap (λ (p : Pt). p.x) e); high = equal_at_least a.x x (ap (λ (p : Pt). p.x) e) }, inl (record { low = equal_at_most a.y y (ap (λ (p : Pt). p.y) e); high = equal_at_least a.y y (ap (λ (p : Pt). p.y) e) }))

-- ---- the span to start with

limit : ℤ
limit = pos 40000000000000

place_of_sizes : (x : ℤ) → nat_abs x ≤ 40000000000000 → IsPlace x
place_of_sizes x h = record { low = omega (arith, ints); high = omega (arith, ints) }

pub size_of_place : (x : ℤ) → IsPlace x → nat_abs x ≤ 40000000000000
size_of_place x w = let l = w.low in let h = w.high in omega (arith, ints)

hull_place : (vs : List Pt) (q : Pt) → AllByRecursion IsPosition vs → InHull vs q → IsPlace q.x
hull_place vs q h i = record {
  low = hull_x_at_least (neg_ℤ (pos 40000000000000)) vs q (all_map IsPosition (λ u. neg_ℤ (pos 40000000000000) ≤ℤ u.x) (λ u p. (place_of_sizes u.x p.x).low) vs h) i;
  high = hull_x_at_most (pos 40000000000000) vs q (all_map IsPosition (λ u. u.x ≤ℤ pos 40000000000000) (λ u p. (place_of_sizes u.x p.x).high) vs h) i;
}

pub rows_start : (vs : List Pt) (y0 y1 x : ℤ) → IsPolygon vs → IsInRows vs y0 y1 x → IsStart vs y0 y1 x
rows_start [] y0 y1 x p i = absurd p.convex
rows_start (a ∷ []) y0 y1 x p i = let f = one_box a x y0 i.0 in let s = one_box a x y1 i.1 in (f.0, f.1, s.1)
rows_start (a ∷ b ∷ []) y0 y1 x p i = (two_within a b (pt x y0) p.convex.0.0 i.0, two_between a b (pt x y0) i.0, two_between a b (pt x y1) i.1)
rows_start (a ∷ b ∷ c ∷ vs) y0 y1 x p i = hull_place (a ∷ b ∷ c ∷ vs) (pt x y0) p.positions i.0

pub start_place : (vs : List Pt) (y0 y1 x : ℤ) → IsPolygon vs → IsStart vs y0 y1 x → IsPlace x
start_place [] y0 y1 x p s = s
start_place (a ∷ []) y0 y1 x p s = inside a.x a.x x (place_of_sizes a.x p.positions.0.x) (place_of_sizes a.x p.positions.0.x) s.0
  where
    inside : (a b x : ℤ) → IsPlace a → IsPlace b → Within a b x → IsPlace x
    inside a b x h k w = let l = h.low in let u = k.high in let m = w.low in let n = w.high in record { low = omega (arith, ints); high = omega (arith, ints) }
start_place (a ∷ b ∷ []) y0 y1 x p s = inside a.x b.x x (place_of_sizes a.x p.positions.0.x) (place_of_sizes b.x p.positions.1.0.x) s.0
  where
    inside : (a b x : ℤ) → IsPlace a → IsPlace b → Within a b x → IsPlace x
    inside a b x h k w = let l = h.low in let u = k.high in let m = w.low in let n = w.high in record { low = omega (arith, ints); high = omega (arith, ints) }
start_place (a ∷ b ∷ c ∷ vs) y0 y1 x p s = s

pub box_run : (a b : Pt) (y0 y1 : ℤ) → a.x ≤ℤ b.x → IsBetween a.y b.y y0 → IsBetween a.y b.y y1 → IsSpanOf (IsBoxed a b y0 y1) (a.x, b.x)
box_run a b y0 y1 o h k = record { ordered = o; exact = λ x. ((λ p. p.0), (λ w. (w, h, k))) }

pub corner_some : (vs : List Pt) → IsPolygon vs → 0 < length vs
corner_some [] p = absurd p.convex
corner_some (a ∷ vs) p = omega arith

pub corner_order : (vs : List Pt) (d : Pt) → IsPolygon vs → 2 ≤ length vs → (get_or vs 0 d).x ≤ℤ (get_or vs 1 d).x
corner_order [] d p l = absurd p.convex
corner_order (a ∷ []) d p l = absurd (omega arith)
corner_order (a ∷ b ∷ vs) d p l = before_x a b p.convex.0.0

pub start_one : (vs : List Pt) (y0 y1 : ℤ) (d : Pt) (r : Option (ℤ × ℤ)) → 1 ≤ length vs → length vs < 2 → IsRun (IsBoxed (get_or vs 0 d) (get_or vs 0 d) y0 y1) r → IsRun (IsStart vs y0 y1) r
start_one [] y0 y1 d r l u h = absurd (omega arith)
start_one (a ∷ []) y0 y1 d r l u h = h
start_one (a ∷ b ∷ vs) y0 y1 d r l u h = absurd (omega arith)

pub start_two : (vs : List Pt) (y0 y1 : ℤ) (d : Pt) (r : Option (ℤ × ℤ)) → 2 ≤ length vs → length vs < 3 → IsRun (IsBoxed (get_or vs 0 d) (get_or vs 1 d) y0 y1) r → IsRun (IsStart vs y0 y1) r
start_two [] y0 y1 d r l u h = absurd (omega arith)
start_two (a ∷ []) y0 y1 d r l u h = absurd (omega arith)
start_two (a ∷ b ∷ []) y0 y1 d r l u h = h
start_two (a ∷ b ∷ c ∷ vs) y0 y1 d r l u h = absurd (omega arith)

pub start_many : (vs : List Pt) (y0 y1 : ℤ) → 3 ≤ length vs → IsSpanOf (IsStart vs y0 y1) (neg_ℤ (pos 40000000000000), pos 40000000000000)
start_many [] y0 y1 l = absurd (omega arith)
start_many (a ∷ []) y0 y1 l = absurd (omega arith)
start_many (a ∷ b ∷ []) y0 y1 l = absurd (omega arith)
start_many (a ∷ b ∷ c ∷ vs) y0 y1 l = record { ordered = omega (arith, ints); exact = λ x. ((λ p. p), (λ w. w)) }

-- ---- rows and edges

-- both rows are left of the edges below the i-th
abbrev pub RowsLeft : List Pt → ℤ → ℤ → ℕ → ℤ → Type 0
RowsLeft vs y0 y1 i x = (m n : ℕ) (d : Pt) → n ≡ m + 1 → n < i → AreLeft (get_or vs m d) (get_or vs n d) y0 y1 x

-- both rows are left of the edge from the last corner to the first
abbrev pub RowsClosed : List Pt → ℤ → ℤ → ℤ → Type 0
RowsClosed vs y0 y1 x = (m : ℕ) (d : Pt) → m + 1 ≡ length vs → AreLeft (get_or vs m d) (get_or vs 0 d) y0 y1 x

abbrev pub IsSoFar : List Pt → ℤ → ℤ → ℕ → ℤ → Type 0
IsSoFar vs y0 y1 i x = IsStart vs y0 y1 x × RowsLeft vs y0 y1 i x

pub rows_so_far : (vs : List Pt) (y0 y1 x : ℤ) (i : ℕ) → IsPolygon vs → i ≤ length vs → IsInRows vs y0 y1 x → IsSoFar vs y0 y1 i x
rows_so_far vs y0 y1 x i p l h = (rows_start vs y0 y1 x p h, (λ m n d e k. (hull_edges_left vs (pt x y0) p.convex h.0 m n d e (omega (arith, k, l)), hull_edges_left vs (pt x y1) p.convex h.1 m n d e (omega (arith, k, l)))))

pub rows_closed : (vs : List Pt) (y0 y1 x : ℤ) → IsPolygon vs → IsInRows vs y0 y1 x → RowsClosed vs y0 y1 x
rows_closed vs y0 y1 x p h m d e = (hull_closing_left vs (pt x y0) p.convex h.0 m d e, hull_closing_left vs (pt x y1) p.convex h.1 m d e)

pub rows_back : (vs : List Pt) (y0 y1 x : ℤ) (i : ℕ) → IsPolygon vs → length vs ≤ i → IsSoFar vs y0 y1 i x → RowsClosed vs y0 y1 x → IsInRows vs y0 y1 x
rows_back [] y0 y1 x i p l s c = absurd p.convex
rows_back (a ∷ []) y0 y1 x i p l s c = (one_of_box a x y0 s.0.0 s.0.1, one_of_box a x y1 s.0.0 s.0.2)
rows_back (a ∷ b ∷ []) y0 y1 x i p l s c =
    let there = s.1 0 1 a (omega arith) (omega (arith, l)) in
    let back = c 1 a (omega arith) in
    (on_in_hull a b (pt x y0) p.convex.0.0 (on_of_box a b (pt x y0) s.0.0 s.0.1 there.0 back.0), on_in_hull a b (pt x y1) p.convex.0.0 (on_of_box a b (pt x y1) s.0.0 s.0.2 there.1 back.1))
rows_back (a ∷ b ∷ e ∷ vs) y0 y1 x i p l s c = (
  left_in_hull (a ∷ b ∷ e ∷ vs) (pt x y0) (omega arith) p.convex (λ m n d f k. (s.1 m n d f (omega (arith, k, l))).0) (λ m d f. (c m d f).0),
  left_in_hull (a ∷ b ∷ e ∷ vs) (pt x y1) (omega arith) p.convex (λ m n d f k. (s.1 m n d f (omega (arith, k, l))).1) (λ m d f. (c m d f).1),
)

-- ---- the loop

pub no_edges : (vs : List Pt) (y0 y1 : ℤ) (span : ℤ × ℤ) → IsSpanOf (IsStart vs y0 y1) span → IsSpanOf (IsSoFar vs y0 y1 1) span
no_edges vs y0 y1 span h = record { ordered = h.ordered; exact = λ x. ((λ s. (h.exact x).0 s.0), (λ w. ((h.exact x).1 w, λ m n d e l. absurd (omega (arith, e, l))))) }

-- the ends of a span of places
pub span_of : (vs : List Pt) (y0 y1 : ℤ) (i : ℕ) (span : ℤ × ℤ) → IsPolygon vs → IsSpanOf (IsSoFar vs y0 y1 i) span → IsSpan span
span_of vs y0 y1 i span p h = record {
  ordered = h.ordered;
  first = size_of_place span.0 (start_place vs y0 y1 span.0 p ((h.exact span.0).1 (record { low = reflexive span.0; high = h.ordered })).0);
  last = size_of_place span.1 (start_place vs y0 y1 span.1 p ((h.exact span.1).1 (record { low = h.ordered; high = reflexive span.1 })).0);
}

one_more : (vs : List Pt) (y0 y1 x : ℤ) (i : ℕ) (d : Pt) → 1 ≤ i → i < length vs → RowsLeft vs y0 y1 i x → AreLeft (get_or vs (i - 1) d) (get_or vs i d) y0 y1 x → RowsLeft vs y0 y1 (i + 1) x
one_more vs y0 y1 x i d some inside h here m n e f l = elim (below_or_at_least n i) [
  | inl low ↦ h m n e f low
  | inr high ↦ subst (λ (z : Pt). AreLeft z (get_or vs n e) y0 y1 x) (sym (same_index vs (i - 1) m e d (omega (arith, f, l, inside)) (omega (arith, f, l, high))))
      (subst (λ (z : Pt). AreLeft (get_or vs (i - 1) d) z y0 y1 x) (sym (same_index vs i n e d (omega (arith, l, inside)) (omega (arith, l, high)))) here)
]

pub edge_more : (vs : List Pt) (y0 y1 : ℤ) (i : ℕ) (d : Pt) (span new : ℤ × ℤ) → 1 ≤ i → i < length vs → IsSpanOf (IsSoFar vs y0 y1 i) span → IsSpanOf (IsNarrowed span.0 span.1 (get_or vs (i - 1) d) (get_or vs i d) y0 y1) new → IsSpanOf (IsSoFar vs y0 y1 (i + 1)) new
edge_more vs y0 y1 i d span new some inside h k = record {
  ordered = k.ordered;
  exact = λ x. (
    (λ s. (k.exact x).0 ((h.exact x).0 (s.0, (λ m n e f l. s.1 m n e f (omega (arith, l)))), s.1 (i - 1) i d (omega (arith, some)) (omega arith))),
    (λ w. let t = (k.exact x).1 w in let u = (h.exact x).1 t.0 in (u.0, one_more vs y0 y1 x i d some inside u.1 t.1)),
  );
}

pub edge_none : (vs : List Pt) (y0 y1 : ℤ) (i : ℕ) (d : Pt) (span : ℤ × ℤ) → IsPolygon vs → 1 ≤ i → i < length vs → IsSpanOf (IsSoFar vs y0 y1 i) span → ((x : ℤ) → IsNarrowed span.0 span.1 (get_or vs (i - 1) d) (get_or vs i d) y0 y1 x → ⊥) → (x : ℤ) → IsInRows vs y0 y1 x → ⊥
edge_none vs y0 y1 i d span p some inside h k x r =
    let s = rows_so_far vs y0 y1 x (i + 1) p (omega (arith, inside)) r in
    k x ((h.exact x).0 (s.0, (λ m n e f l. s.1 m n e f (omega (arith, l)))), s.1 (i - 1) i d (omega (arith, some)) (omega arith))

closed_at : (vs : List Pt) (y0 y1 x : ℤ) (d : Pt) → 0 < length vs → AreLeft (get_or vs (length vs - 1) d) (get_or vs 0 d) y0 y1 x → RowsClosed vs y0 y1 x
closed_at vs y0 y1 x d some h m e f = subst (λ (z : Pt). AreLeft z (get_or vs 0 e) y0 y1 x) (sym (same_index vs (length vs - 1) m e d (omega (arith, f)) (omega (arith, f))))
    (subst (λ (z : Pt). AreLeft (get_or vs (length vs - 1) d) z y0 y1 x) (same_index vs 0 0 d e some refl) h)

pub closing_run : (vs : List Pt) (y0 y1 : ℤ) (i : ℕ) (d : Pt) (span : ℤ × ℤ) (r : Option (ℤ × ℤ)) → IsPolygon vs → 0 < length vs → length vs ≤ i → i ≤ length vs → IsSpanOf (IsSoFar vs y0 y1 i) span → IsRun (IsNarrowed span.0 span.1 (get_or vs (length vs - 1) d) (get_or vs 0 d) y0 y1) r → IsRun (IsInRows vs y0 y1) r
closing_run vs y0 y1 i d span r p some l u h k =
    run_same (IsNarrowed span.0 span.1 (get_or vs (length vs - 1) d) (get_or vs 0 d) y0 y1) (IsInRows vs y0 y1) r
    (λ x n. rows_back vs y0 y1 x i p l ((h.exact x).1 n.0) (closed_at vs y0 y1 x d some n.1))
    (λ x s. ((h.exact x).0 (rows_so_far vs y0 y1 x i p u s), rows_closed vs y0 y1 x p s (length vs - 1) d (omega (arith, some))))
    k
