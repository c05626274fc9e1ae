-- The spans of the corners, corner by corner.
use Rattle.std.proofs.Common.{◌≡◌, ◌∙◌, ℕ, ◌+◌, ◌<◌, ◌≤◌, arith, ap, sym, List, length, get_or}
use Rattle.std.specs.Int.{int_max, int_min}
use Rattle.std.proofs.lemmas.Int.{ints, clamps}
use lib.IntN.{ℤ, pos, neg_ℤ, ◌+ℤ◌, ◌*ℤ◌}
use Rattle.spot_terms.specs.declared.plain.Pt.{Pt}
use Rattle.spot_terms.specs.Hull.{dot}
use Rattle.spot_terms.proofs.Products.{products}
use Rattle.convex_poly.proofs.Supports.{IsGreatestUpTo, first_reached, next_reached, whole_support}
use Rattle.propagate.specs.declared.ways.Span.{Span}
use Rattle.propagate.specs.declared.ways.Ways.{Ways}
use Rattle.propagate.specs.Ways.{IsSpan, AreWays}
use Rattle.spot_terms.proofs.Orders.{greater_itself}

-- ---- one normal

-- the least and the greatest value of the first i corners, which corners have
pub record IsSpanUpTo (vs : List Pt) (nx ny : ℤ) (i : ℕ) (s : Span) : Type 0 where
  pub least : IsGreatestUpTo vs (neg_ℤ nx) (neg_ℤ ny) i (neg_ℤ s.least)
  pub greatest : IsGreatestUpTo vs nx ny i s.greatest

negated : (nx ny : ℤ) (p : Pt) (r : ℤ) → r ≡ dot nx ny p → neg_ℤ r ≡ dot (neg_ℤ nx) (neg_ℤ ny) p
negated nx ny p r e = omega (arith, ints, products)

negated_least : (l r m : ℤ) → m ≡ int_min l r → neg_ℤ m ≡ int_max (neg_ℤ l) (neg_ℤ r)
negated_least l r m e = omega (arith, ints, clamps)

first_greatest : (vs : List Pt) (nx ny g : ℤ) (d : Pt) → 0 < length vs → g ≡ dot nx ny (get_or vs 0 d) → IsGreatestUpTo vs nx ny 1 g
first_greatest vs nx ny g d h e = next_reached vs nx ny 0 d g g g h (first_reached vs nx ny g d h e) e (sym (greater_itself g))

pub first_span : (vs : List Pt) (nx ny : ℤ) (d : Pt) (s : Span) (r : ℤ) → 0 < length vs → r ≡ dot nx ny (get_or vs 0 d) → s.least ≡ r → s.greatest ≡ r → IsSpanUpTo vs nx ny 1 s
first_span vs nx ny d s r h e l g = record {
  least = first_greatest vs (neg_ℤ nx) (neg_ℤ ny) (neg_ℤ s.least) d h (ap neg_ℤ l ∙ negated nx ny (get_or vs 0 d) r e);
  greatest = first_greatest vs nx ny s.greatest d h (g ∙ e);
}

pub next_span : (vs : List Pt) (nx ny : ℤ) (i : ℕ) (d : Pt) (s t : Span) (r : ℤ) → i < length vs → IsSpanUpTo vs nx ny i s → r ≡ dot nx ny (get_or vs i d) → t.least ≡ int_min s.least r → t.greatest ≡ int_max s.greatest r → IsSpanUpTo vs nx ny (i + 1) t
next_span vs nx ny i d s t r h u e l g = record {
  least = next_reached vs (neg_ℤ nx) (neg_ℤ ny) i d (neg_ℤ s.least) (neg_ℤ r) (neg_ℤ t.least) h u.least (negated nx ny (get_or vs i d) r e) (negated_least s.least r t.least l);
  greatest = next_reached vs nx ny i d s.greatest r t.greatest h u.greatest e g;
}

pub whole_span : (vs : List Pt) (nx ny : ℤ) (i : ℕ) (s : Span) → length vs ≤ i → IsSpanUpTo vs nx ny i s → IsSpan vs nx ny s
whole_span vs nx ny i s h u = record {
  least = whole_support vs (neg_ℤ nx) (neg_ℤ ny) i (neg_ℤ s.least) h u.least;
  greatest = whole_support vs nx ny i s.greatest h u.greatest;
}

-- ---- all of them

pub record AreWaysUpTo (k : ℤ) (vs : List Pt) (i : ℕ) (w : Ways) : Type 0 where
  pub speed : IsSpanUpTo vs (pos 0) (pos 1) i w.speed
  pub place : IsSpanUpTo vs (pos 1) (pos 0) i w.place
  pub next : IsSpanUpTo vs (pos 1) k i w.next
  pub both : IsSpanUpTo vs (pos 2) k i w.both

pub whole_ways : (k : ℤ) (vs : List Pt) (i : ℕ) (w : Ways) → length vs ≤ i → AreWaysUpTo k vs i w → AreWays k vs w
whole_ways k vs i w h u = record {
  speed = whole_span vs (pos 0) (pos 1) i w.speed h u.speed;
  place = whole_span vs (pos 1) (pos 0) i w.place h u.place;
  next = whole_span vs (pos 1) k i w.next h u.next;
  both = whole_span vs (pos 2) k i w.both h u.both;
}

-- the values of a corner
pub speed_of : (p : Pt) → p.y ≡ dot (pos 0) (pos 1) p
speed_of p = omega (arith, ints)

pub place_of : (p : Pt) → p.x ≡ dot (pos 1) (pos 0) p
place_of p = omega (arith, ints)

pub next_of : (k z : ℤ) (p : Pt) → z ≡ p.x +ℤ k *ℤ p.y → z ≡ dot (pos 1) k p
next_of k z p e = omega (arith, ints)

pub both_of : (k z : ℤ) (p : Pt) → z ≡ p.x +ℤ k *ℤ p.y → p.x +ℤ z ≡ dot (pos 2) k p
both_of k z p e = omega (arith, ints)

-- ---- corner by corner: a corner's values, the next place z among them

pub first_ways : (k : ℤ) (vs : List Pt) (d : Pt) (z sum : ℤ) (s p n b : Span) → 0 < length vs → z ≡ (get_or vs 0 d).x +ℤ k *ℤ (get_or vs 0 d).y → sum ≡ (get_or vs 0 d).x +ℤ z
    → s.least ≡ (get_or vs 0 d).y → s.greatest ≡ (get_or vs 0 d).y → p.least ≡ (get_or vs 0 d).x → p.greatest ≡ (get_or vs 0 d).x
    → n.least ≡ z → n.greatest ≡ z → b.least ≡ sum → b.greatest ≡ sum → AreWaysUpTo k vs 1 (record { speed = s; place = p; next = n; both = b })
first_ways k vs d z sum s p n b some e f sl sg pl pg nl ng bl bg = record {
  speed = first_span vs (pos 0) (pos 1) d s (get_or vs 0 d).y some (speed_of (get_or vs 0 d)) sl sg;
  place = first_span vs (pos 1) (pos 0) d p (get_or vs 0 d).x some (place_of (get_or vs 0 d)) pl pg;
  next = first_span vs (pos 1) k d n z some (next_of k z (get_or vs 0 d) e) nl ng;
  both = first_span vs (pos 2) k d b sum some (f ∙ both_of k z (get_or vs 0 d) e) bl bg;
}

pub next_ways : (k : ℤ) (vs : List Pt) (i : ℕ) (d : Pt) (z sum : ℤ) (w : Ways) (s p n b : Span) → i < length vs → AreWaysUpTo k vs i w → z ≡ (get_or vs i d).x +ℤ k *ℤ (get_or vs i d).y → sum ≡ (get_or vs i d).x +ℤ z
    → s.least ≡ int_min w.speed.least (get_or vs i d).y → s.greatest ≡ int_max w.speed.greatest (get_or vs i d).y
    → p.least ≡ int_min w.place.least (get_or vs i d).x → p.greatest ≡ int_max w.place.greatest (get_or vs i d).x
    → n.least ≡ int_min w.next.least z → n.greatest ≡ int_max w.next.greatest z
    → b.least ≡ int_min w.both.least sum → b.greatest ≡ int_max w.both.greatest sum → AreWaysUpTo k vs (i + 1) (record { speed = s; place = p; next = n; both = b })
next_ways k vs i d z sum w s p n b below h e f sl sg pl pg nl ng bl bg = record {
  speed = next_span vs (pos 0) (pos 1) i d w.speed s (get_or vs i d).y below h.speed (speed_of (get_or vs i d)) sl sg;
  place = next_span vs (pos 1) (pos 0) i d w.place p (get_or vs i d).x below h.place (place_of (get_or vs i d)) pl pg;
  next = next_span vs (pos 1) k i d w.next n z below h.next (next_of k z (get_or vs i d) e) nl ng;
  both = next_span vs (pos 2) k i d w.both b sum below h.both (f ∙ both_of k z (get_or vs i d) e) bl bg;
}
