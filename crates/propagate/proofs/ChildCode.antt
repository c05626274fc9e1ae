-- Child numbers as the code computes them.
use Rattle.std.proofs.Common.{◌≡◌, ℕ, ◌*◌, ◌/◌, ◌<◌, ◌≤◌, arith, subst, List, [], ◌∷◌, to_z, of_z, w64, FitsSigned}
use Rattle.std.specs.Prelude.{nat_abs}
use Rattle.std.specs.List.{AllByRecursion}
use Rattle.std.proofs.lemmas.Int.{ints}
use lib.IntN.{ℤ, pos, negsuc, neg_ℤ, ◌+ℤ◌, ◌-ℤ◌, ◌*ℤ◌}
use Rattle.spot_terms.specs.declared.plain.Pt.{Pt}
use Rattle.spot_terms.specs.Hull.{IsSupport}
use Rattle.spot_terms.specs.Whole.{Within}
use Rattle.spot_terms.proofs.ListLemmas.{all_included}
use Rattle.convex_poly.proofs.Wide.{product_within}
use Rattle.propagate.specs.Children.{IsStepPoint}
use Rattle.propagate.specs.Growing.{AreGrowths}
use Rattle.propagate.specs.Ways.{IsSpan, AreWays}
use Rattle.propagate.specs.declared.numbers.Growths.{Growths}
use Rattle.propagate.specs.declared.ways.Span.{Span}
use Rattle.propagate.specs.declared.ways.Ways.{Ways}
use Rattle.propagate.proofs.NumberLists.{AreChildNumbers}
use Rattle.spot_terms.proofs.Orders.{product_order}

-- ---- numbers in range, as the code reads them

pub ticks_read : (k : ℤ) → Within (pos 1) (pos 1000) k → to_z w64 (of_z w64 k) ≡ k
ticks_read k h = omega (arith, ints, h.low, h.high)

pub slow_read : (a : ℤ) → Within (pos 1) (pos 20) a → to_z w64 (of_z w64 a) ≡ a
slow_read a h = omega (arith, ints, h.low, h.high)

pub size_of : (m : ℕ) (z : ℤ) → Within (pos 1) (pos m) z → nat_abs z ≤ m
size_of m z h = omega (arith, ints, h.low, h.high)

pub some_of : (m : ℕ) (z : ℤ) → Within (pos 1) (pos m) z → 0 < nat_abs z
some_of m z h = omega (arith, ints, h.low)

pub natural : (m : ℕ) (z : ℤ) → Within (pos 1) (pos m) z → z ≡ pos (nat_abs z)
natural m z h = omega (arith, ints, h.low)

-- ---- growths

pub square_small : (k : ℕ) → k ≤ 1000 → k * k ≤ 1_000_000
square_small k h = omega (arith, product_order k k 1000 1000 h h)

pub speed_small : (k a : ℕ) → k ≤ 1000 → a ≤ 20 → k * a ≤ 20_000
speed_small k a h g = omega (arith, product_order k a 1000 20 h g)

pub cube_small : (k a : ℕ) → k ≤ 1000 → a ≤ 20 → k * k * a ≤ 20_000_000
cube_small k a h g = omega (arith, product_order (k * k) a 1_000_000 20 (square_small k h) g)

pub half_small : (k a : ℕ) → k ≤ 1000 → a ≤ 20 → a * (k * k / 2) ≤ 10_000_000
half_small k a h g = omega (arith, product_order a (k * k / 2) 20 500_000 g (omega (arith, square_small k h)))

-- ---- the ends of spans are small

pub record IsSmall (s : Span) : Type 0 where
  pub least : nat_abs s.least ≤ 1_000_000_000_000_000_000
  pub greatest : nat_abs s.greatest ≤ 1_000_000_000_000_000_000

support_small : (vs : List Pt) (nx ny h : ℤ) → nat_abs nx ≤ 2000 → nat_abs ny ≤ 2000 → AllByRecursion IsStepPoint vs → IsSupport vs nx ny h → nat_abs h ≤ 1_000_000_000_000_000_000
support_small vs nx ny h x y near s =
    let (c, i, e) = s.reached in
    let p = all_included IsStepPoint vs c near i in
    add (nx *ℤ c.x) (ny *ℤ c.y) h (omega (arith, product_within nx c.x 2000 30_000_000_000_000 x p.x)) (omega (arith, product_within ny c.y 2000 900_000 y p.y)) e
  where
    add : (p q h : ℤ) → nat_abs p ≤ 60_000_000_000_000_000 → nat_abs q ≤ 1_800_000_000 → p +ℤ q ≡ h → nat_abs h ≤ 1_000_000_000_000_000_000
    add p q h a b e = omega (arith, ints)

small_span : (vs : List Pt) (nx ny : ℤ) (s : Span) → nat_abs nx ≤ 2000 → nat_abs ny ≤ 2000 → AllByRecursion IsStepPoint vs → IsSpan vs nx ny s → IsSmall s
small_span vs nx ny s x y near h = record {
  least = turned s.least (support_small vs (neg_ℤ nx) (neg_ℤ ny) (neg_ℤ s.least) (size nx 2000 x) (size ny 2000 y) near h.least);
  greatest = support_small vs nx ny s.greatest x y near h.greatest;
}
  where
    size : (z : ℤ) (m : ℕ) → nat_abs z ≤ m → nat_abs (neg_ℤ z) ≤ m
    size z m h = omega (arith, ints)

    turned : (z : ℤ) → nat_abs (neg_ℤ z) ≤ 1_000_000_000_000_000_000 → nat_abs z ≤ 1_000_000_000_000_000_000
    turned z h = omega (arith, ints)

pub record AreSmallWays (w : Ways) : Type 0 where
  pub speed : IsSmall w.speed
  pub place : IsSmall w.place
  pub next : IsSmall w.next
  pub both : IsSmall w.both

pub small_ways : (k : ℕ) (vs : List Pt) (w : Ways) → k ≤ 1000 → AllByRecursion IsStepPoint vs → AreWays (pos k) vs w → AreSmallWays w
small_ways k vs w few near h = record {
  speed = small_span vs (pos 0) (pos 1) w.speed (omega arith) (omega arith) near h.speed;
  place = small_span vs (pos 1) (pos 0) w.place (omega arith) (omega arith) near h.place;
  next = small_span vs (pos 1) (pos k) w.next (omega arith) (omega (arith, few)) near h.next;
  both = small_span vs (pos 2) (pos k) w.both (omega arith) (omega (arith, few)) near h.both;
}

-- ---- the end of a span and a growth

abbrev pub above : ℤ → ℤ → ℤ
above s g = to_z w64 (of_z w64 (to_z w64 (of_z w64 s) +ℤ to_z w64 (of_z w64 g)))

abbrev pub below_by : ℤ → ℤ → ℤ
below_by s g = to_z w64 (of_z w64 (to_z w64 (of_z w64 g) -ℤ to_z w64 (of_z w64 s)))

pub above_fits : (s g : ℤ) (n : ℕ) → nat_abs s ≤ 1_000_000_000_000_000_000 → g ≡ pos n → n ≤ 20_000_000 → FitsSigned w64 (to_z w64 (of_z w64 s) +ℤ to_z w64 (of_z w64 g))
above_fits s g n h e l = omega (arith, ints)

pub below_fits : (s g : ℤ) (n : ℕ) → nat_abs s ≤ 1_000_000_000_000_000_000 → g ≡ pos n → n ≤ 20_000_000 → FitsSigned w64 (to_z w64 (of_z w64 g) -ℤ to_z w64 (of_z w64 s))
below_fits s g n h e l = omega (arith, ints)

above_number : (vs : List Pt) (x y y' s g : ℤ) (n : ℕ) → IsSupport vs x y s → y ≡ y' → nat_abs s ≤ 1_000_000_000_000_000_000 → g ≡ pos n → n ≤ 20_000_000 → IsSupport vs x y' (above s g -ℤ pos n)
above_number vs x y y' s g n h e small f l = subst (λ z. IsSupport vs x y' z) (same s g n small f l) (subst (λ z. IsSupport vs x z s) e h)
  where
    same : (s g : ℤ) (n : ℕ) → nat_abs s ≤ 1_000_000_000_000_000_000 → g ≡ pos n → n ≤ 20_000_000 → s ≡ above s g -ℤ pos n
    same s g n h e l = omega (arith, ints)

below_number : (vs : List Pt) (x y y' s g : ℤ) (n : ℕ) → IsSupport vs x y (neg_ℤ s) → y ≡ y' → nat_abs s ≤ 1_000_000_000_000_000_000 → g ≡ pos n → n ≤ 20_000_000 → IsSupport vs x y' (below_by s g -ℤ pos n)
below_number vs x y y' s g n h e small f l = subst (λ z. IsSupport vs x y' z) (same s g n small f l) (subst (λ z. IsSupport vs x z (neg_ℤ s)) e h)
  where
    same : (s g : ℤ) (n : ℕ) → nat_abs s ≤ 1_000_000_000_000_000_000 → g ≡ pos n → n ≤ 20_000_000 → neg_ℤ s ≡ below_by s g -ℤ pos n
    same s g n h e l = omega (arith, ints)

-- ---- the eight of them

abbrev pub listed : Ways → Growths → List ℤ
listed w g =
    above w.speed.greatest g.speed ∷ above w.next.greatest g.place ∷ above w.both.greatest g.double ∷ above w.place.greatest g.place
    ∷ below_by w.speed.least g.speed ∷ below_by w.next.least g.place ∷ below_by w.both.least g.double ∷ below_by w.place.least g.place ∷ []

pub listed_are : (a k : ℕ) (vs : List Pt) (w : Ways) (g : Growths) → k ≤ 1000 → AllByRecursion IsStepPoint vs → AreWays (pos k) vs w → AreGrowths a k g → AreChildNumbers a k vs (listed w g)
listed_are a k vs w g few near h r =
    let s = small_ways k vs w few near h in (
      above_number vs (pos 0) (pos 1) _ w.speed.greatest g.speed _ h.speed.greatest (omega (arith, ints)) s.speed.greatest r.speed r.small_speed,
      (
        above_number vs (pos 1) (pos k) _ w.next.greatest g.place _ h.next.greatest (omega (arith, ints)) s.next.greatest r.place r.small_place,
        (
          above_number vs (pos 2) (pos k) _ w.both.greatest g.double _ h.both.greatest (omega (arith, ints)) s.both.greatest r.double r.small_double,
          (
            above_number vs (pos 1) (pos 0) _ w.place.greatest g.place _ h.place.greatest (omega (arith, ints)) s.place.greatest r.place r.small_place,
            (
              below_number vs (pos 0) (negsuc 0) _ w.speed.least g.speed _ h.speed.least (omega (arith, ints)) s.speed.least r.speed r.small_speed,
              (
                below_number vs (negsuc 0) (neg_ℤ (pos k)) _ w.next.least g.place _ h.next.least (omega (arith, ints)) s.next.least r.place r.small_place,
                (
                  below_number vs (negsuc 1) (neg_ℤ (pos k)) _ w.both.least g.double _ h.both.least (omega (arith, ints)) s.both.least r.double r.small_double,
                  (below_number vs (negsuc 0) (pos 0) _ w.place.least g.place _ h.place.least (omega (arith, ints)) s.place.least r.place r.small_place, tt),
                ),
              ),
            ),
          ),
        ),
      ),
    )
