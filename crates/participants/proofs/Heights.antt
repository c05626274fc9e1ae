-- The least and the greatest y of corners, and the numbers of octagons.
use Rattle.std.proofs.Common.{◌≡◌, ℕ, zero, suc, ◌≤◌, List, [], ◌∷◌, map, get_or, refl, sym, ap, subst, arith, inl, inr, ℤ, pos, neg_ℤ, Option, None, Some, nat_abs, ◌-ℤ◌, ◌≤ℤ◌, FitsSigned, w64, fold}
use Rattle.std.specs.Int.{int_max, int_min}
use Rattle.std.specs.List.{AllByRecursion}
use Rattle.std.proofs.lemmas.Int.{ints, clamps}
use Rattle.spot_terms.specs.Frames.{number}
use Rattle.spot_terms.specs.Lists.{Includes}
use Rattle.spot_terms.specs.Pieces.{Piece, y_range, lowest, highest}
use Rattle.spot_terms.specs.Whole.{SizeAtMost}
use Rattle.spot_terms.specs.declared.plain.Pt.{Pt}
use Rattle.convex_poly.specs.Boxes.{IsBoxOf, IsLowest, IsHighest}
use Rattle.convex_poly.specs.declared.boxes.BoundingBox.{BoundingBox}
use Rattle.convex_poly.specs.declared.oct_numbers.OctNumbers.{OctNumbers}
use Rattle.carve.specs.Ranges.{IsRange}
use Rattle.participants.specs.Pieces.{IsOutlined}
use Rattle.spot_terms.proofs.Unique.{some_injective}

-- ---- corners

abbrev pub ys_of : List Pt → List ℤ
ys_of ps = map (λ p. p.y) ps

-- what isn't above the first of some numbers, nor above any other, isn't above the least
least_above : (n a : ℤ) (ps : List Pt) → n ≤ℤ a → ((p : Pt) → Includes ps p → n ≤ℤ p.y) → n ≤ℤ fold int_min a (ys_of ps)
least_above n a [] h all = h
least_above n a (p ∷ ps) h all = least_above n (int_min a p.y) ps (let k = all p (inl refl) in omega (arith, ints, clamps, h, k)) (λ q i. all q (inr i))

greatest_below : (n a : ℤ) (ps : List Pt) → a ≤ℤ n → ((p : Pt) → Includes ps p → p.y ≤ℤ n) → fold int_max a (ys_of ps) ≤ℤ n
greatest_below n a [] h all = h
greatest_below n a (p ∷ ps) h all = greatest_below n (int_max a p.y) ps (let k = all p (inl refl) in omega (arith, ints, clamps, h, k)) (λ q i. all q (inr i))

-- the least isn't above the first, nor above any other
least_first : (a : ℤ) (ps : List Pt) → fold int_min a (ys_of ps) ≤ℤ a
least_first a [] = omega (arith, ints)
least_first a (p ∷ ps) = let k = least_first (int_min a p.y) ps in omega (arith, ints, clamps, k)

least_each : (a : ℤ) (ps : List Pt) (q : Pt) → Includes ps q → fold int_min a (ys_of ps) ≤ℤ q.y
least_each a [] q i = absurd i
least_each a (p ∷ ps) q (inl e) = let k = least_first (int_min a p.y) ps in let y : q.y ≡ p.y = ap (λ (r : Pt). r.y) e in omega (arith, ints, clamps, k, y)
least_each a (p ∷ ps) q (inr i) = least_each (int_min a p.y) ps q i

greatest_first : (a : ℤ) (ps : List Pt) → a ≤ℤ fold int_max a (ys_of ps)
greatest_first a [] = omega (arith, ints)
greatest_first a (p ∷ ps) = let k = greatest_first (int_max a p.y) ps in omega (arith, ints, clamps, k)

greatest_each : (a : ℤ) (ps : List Pt) (q : Pt) → Includes ps q → q.y ≤ℤ fold int_max a (ys_of ps)
greatest_each a [] q i = absurd i
greatest_each a (p ∷ ps) q (inl e) = let k = greatest_first (int_max a p.y) ps in let y : q.y ≡ p.y = ap (λ (r : Pt). r.y) e in omega (arith, ints, clamps, k, y)
greatest_each a (p ∷ ps) q (inr i) = greatest_each (int_max a p.y) ps q i

lowest_is : (ps : List Pt) (n : ℤ) → IsLowest (λ p. p.y) ps n → n ≡ lowest ps
lowest_is [] n l = absurd l.one.1
lowest_is (p ∷ ps) n l =
    let above : n ≤ℤ fold int_min p.y (ys_of ps) = least_above n p.y ps (l.each p (inl refl)) (λ q i. l.each q (inr i)) in
    let below : fold int_min p.y (ys_of ps) ≤ℤ l.one.0.y = reached p ps l.one.0 l.one.1 in
    let e : l.one.0.y ≡ n = l.one.2 in
    omega (arith, ints, above, below, e)
  where
    reached : (p : Pt) (ps : List Pt) (q : Pt) → Includes (p ∷ ps) q → fold int_min p.y (ys_of ps) ≤ℤ q.y
    reached p ps q (inl e) = let k = least_first p.y ps in let y : q.y ≡ p.y = ap (λ (r : Pt). r.y) e in omega (arith, ints, k, y)
    reached p ps q (inr i) = least_each p.y ps q i

highest_is : (ps : List Pt) (n : ℤ) → IsHighest (λ p. p.y) ps n → n ≡ highest ps
highest_is [] n l = absurd l.one.1
highest_is (p ∷ ps) n l =
    let below : fold int_max p.y (ys_of ps) ≤ℤ n = greatest_below n p.y ps (l.each p (inl refl)) (λ q i. l.each q (inr i)) in
    let above : l.one.0.y ≤ℤ fold int_max p.y (ys_of ps) = reached p ps l.one.0 l.one.1 in
    let e : l.one.0.y ≡ n = l.one.2 in
    omega (arith, ints, above, below, e)
  where
    reached : (p : Pt) (ps : List Pt) (q : Pt) → Includes (p ∷ ps) q → q.y ≤ℤ fold int_max p.y (ys_of ps)
    reached p ps q (inl e) = let k = greatest_first p.y ps in let y : q.y ≡ p.y = ap (λ (r : Pt). r.y) e in omega (arith, ints, k, y)
    reached p ps q (inr i) = greatest_each p.y ps q i

-- the sides of the box are the least and the greatest y
pub box_low : (ps : List Pt) (box : BoundingBox) → IsBoxOf ps box → box.low.y ≡ lowest ps
box_low ps box b = lowest_is ps box.low.y b.bottom

pub box_high : (ps : List Pt) (box : BoundingBox) → IsBoxOf ps box → box.high.y ≡ highest ps
box_high ps box b = highest_is ps box.high.y b.top

-- ---- numbers of octagons

pub near_at : (ns : List ℤ) (i : ℕ) → AllByRecursion (SizeAtMost 100_000_000_000_000) ns → nat_abs (get_or ns i (pos 0)) ≤ 100_000_000_000_000
near_at [] i h = omega arith
near_at (n ∷ ns) zero h = h.0
near_at (n ∷ ns) (suc i) h = near_at ns i h.1

pub fits_near : (z : ℤ) → nat_abs z ≤ 100_000_000_000_000 → FitsSigned w64 z
fits_near z h = omega (arith, ints)

pub fits_minus : (z : ℤ) → nat_abs z ≤ 100_000_000_000_000 → FitsSigned w64 (pos 0 -ℤ z)
fits_minus z h = omega (arith, ints)

pub two : (f : ℤ → ℤ → ℤ) (a b x y : ℤ) → a ≡ b → x ≡ y → f a x ≡ f b y
two f a b x y e g = cc

pub pair : (P : ℤ × ℤ → Type 0) (a b x y : ℤ) → a ≡ b → x ≡ y → P (a, x) → P (b, y)
pair P a b x y e g h = subst (λ (u : ℤ). P (u, y)) e (subst (λ (v : ℤ). P (a, v)) g h)

-- ---- the range of a piece, by the box round the polygon that its octagon is cut with

pub span_by_box : (o : OctNumbers) (given : Option BoundingBox) (box : BoundingBox) (span : Option (ℤ × ℤ)) → given ≡ Some box
    → IsRange (int_max (neg_ℤ (number o.n 6)) box.low.y, int_min (number o.n 2) box.high.y) span → (piece : Piece) → IsOutlined piece o given → IsRange (y_range piece) span
span_by_box o None box span e r piece is = absurd (none_some box e)
  where
    none_some : (box : BoundingBox) → None ≡ Some box → ⊥
    none_some box e = cc
span_by_box o (Some given) box span e r piece (corners, is, b) =
    let same : given ≡ box = some_injective given box e in
    let of : IsBoxOf corners box = subst (λ (x : BoundingBox). IsBoxOf corners x) same b in
    subst (λ (x : Piece). IsRange (y_range x) span) (sym is)
    (pair (λ (r : ℤ × ℤ). IsRange r span) _ _ _ _ (ap (int_max (neg_ℤ (number o.n 6))) (box_low corners box of)) (ap (int_min (number o.n 2)) (box_high corners box of)) r)
