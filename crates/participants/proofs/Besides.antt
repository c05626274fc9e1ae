-- Pieces that are left or right of places.
use Rattle.std.proofs.Common.{◌≡◌, ℕ, ◌+◌, List, [], ◌∷◌, arith, subst, sym, ℤ, neg_ℤ, ◌≤ℤ◌, ◌<ℤ◌, Option, None, Some, inl, inr}
use Rattle.std.specs.List.{AllByRecursion}
use Rattle.std.specs.Prelude.{slice_get}
use Rattle.std.proofs.lemmas.Int.{ints}
use Rattle.spot_terms.specs.Frames.{number}
use Rattle.spot_terms.specs.Pieces.{Piece, octagon, cut_octagon, InPiece, Hits}
use Rattle.spot_terms.specs.Reach.{InOctagon}
use Rattle.spot_terms.specs.Whole.{Within}
use Rattle.spot_terms.specs.declared.plain.Pt.{Pt}
use Rattle.spot_terms.proofs.Hulls.{hull_x_at_least, hull_x_at_most}
use Rattle.spot_terms.proofs.Orders.{below_or_here}
use Rattle.spot_terms.proofs.ListLemmas.{all_of}
use Rattle.spot_terms.proofs.Unique.{some_injective, some_one}
use Rattle.convex_poly.specs.Boxes.{IsBoxOf, IsHighest, IsLowest}
use Rattle.convex_poly.specs.declared.boxes.BoundingBox.{BoundingBox}
use Rattle.convex_poly.specs.declared.oct_numbers.OctNumbers.{OctNumbers}
use Rattle.carve.specs.Ranges.{AreBeside}
use Rattle.participants.specs.Pieces.{IsBeside, HasOutline, IsOutlined}

-- ---- octagons

east : (ns : List ℤ) (q : Pt) → InOctagon ns q → q.x ≤ℤ number ns 0
east [] q h = absurd h
east (a ∷ ns) q h = let k = h.0 in omega (arith, ints)

west : (ns : List ℤ) (q : Pt) → InOctagon ns q → neg_ℤ (number ns 4) ≤ℤ q.x
west [] q h = absurd h
west (a ∷ []) q h = absurd h.1
west (a ∷ b ∷ []) q h = absurd h.1.1
west (a ∷ b ∷ c ∷ []) q h = absurd h.1.1.1
west (a ∷ b ∷ c ∷ d ∷ []) q h = absurd h.1.1.1.1
west (a ∷ b ∷ c ∷ d ∷ e ∷ ns) q h = let k = h.1.1.1.1.0 in omega (arith, ints)

pub octagon_left : (ns : List ℤ) (left right : ℤ) → number ns 0 <ℤ left → IsBeside (octagon ns) left right
octagon_left ns left right h q k w = let e = east ns q k in let l = w.low in omega (arith, ints, h, e, l)

pub octagon_right : (ns : List ℤ) (left right : ℤ) → right <ℤ neg_ℤ (number ns 4) → IsBeside (octagon ns) left right
octagon_right ns left right h q k w = let e = west ns q k in let l = w.high in omega (arith, ints, h, e, l)

-- ---- corners

-- the corners of a box's polygon are no further left or right than the box
not_left : (corners : List Pt) (n : ℤ) → IsLowest (λ p. p.x) corners n → AllByRecursion (λ c. n ≤ℤ c.x) corners
not_left corners n l = all_of (λ (c : Pt). n ≤ℤ c.x) corners l.each

not_right : (corners : List Pt) (n : ℤ) → IsHighest (λ p. p.x) corners n → AllByRecursion (λ c. c.x ≤ℤ n) corners
not_right corners n l = all_of (λ (c : Pt). c.x ≤ℤ n) corners l.each

pub box_left : (ns : List ℤ) (corners : List Pt) (box : BoundingBox) (left right : ℤ) → IsBoxOf corners box → box.high.x <ℤ left → IsBeside (cut_octagon ns corners) left right
box_left ns corners box left right b h q k w = let e = hull_x_at_most box.high.x corners q (not_right corners box.high.x b.right) k.1 in let l = w.low in omega (arith, ints, e, l, h)

pub box_right : (ns : List ℤ) (corners : List Pt) (box : BoundingBox) (left right : ℤ) → IsBoxOf corners box → right <ℤ box.low.x → IsBeside (cut_octagon ns corners) left right
box_right ns corners box left right b h q k w = let e = hull_x_at_least box.low.x corners q (not_left corners box.low.x b.left) k.1 in let l = w.high in omega (arith, ints, e, l, h)

pub octagon_cut : (ns : List ℤ) (corners : List Pt) (left right : ℤ) → IsBeside (octagon ns) left right → IsBeside (cut_octagon ns corners) left right
octagon_cut ns corners left right h q k w = h q k.0 w

-- ---- what tells of a piece

pub cut_by_box : (o : OctNumbers) (given : Option BoundingBox) (box : BoundingBox) (left right : ℤ) → given ≡ Some box
    → ((numbers : List ℤ) (corners : List Pt) → IsBoxOf corners box → IsBeside (cut_octagon numbers corners) left right)
    → (piece : Piece) → IsOutlined piece o given → IsBeside piece left right
cut_by_box o None box left right e f piece is = absurd (none_some box e)
  where
    none_some : (box : BoundingBox) → None ≡ Some box → ⊥
    none_some box e = cc
cut_by_box o (Some given) box left right e f piece (corners, is, b) =
    subst (λ (x : Piece). IsBeside x left right) (sym is) (f o.n corners (subst (λ (x : BoundingBox). IsBoxOf corners x) (some_injective given box e) b))

pub cut_by_octagon : (o : OctNumbers) (given : Option BoundingBox) (left right : ℤ) → IsBeside (octagon o.n) left right → (piece : Piece) → IsOutlined piece o given → IsBeside piece left right
cut_by_octagon o None left right h piece is = subst (λ (x : Piece). IsBeside x left right) (sym is) h
cut_by_octagon o (Some given) left right h piece (corners, is, b) = subst (λ (x : Piece). IsBeside x left right) (sym is) (octagon_cut o.n corners left right h)

-- ---- pieces by number

piece_beside : (pieces : List Piece) (p : ℕ) (piece : Piece) (left right : ℤ) → slice_get pieces p ≡ Some piece → IsBeside piece left right → (q : Pt) → Hits pieces p q → Within left right q.x → ⊥
piece_beside pieces p piece left right e h q (other, f, inside) w = h q (subst (λ (z : Piece). InPiece z q) (some_one (slice_get pieces p) other piece f e) inside) w

pub none_beside : (Hits : ℕ → Pt → Type 0) (left right : ℤ) (from : ℕ) → AreBeside Hits left right from from
none_beside Hits left right from p q a b = absurd (omega (arith, a, b))

pub more_beside : (Hits : ℕ → Pt → Type 0) (left right : ℤ) (from n : ℕ) → ((q : Pt) → Hits n q → Within left right q.x → ⊥) → AreBeside Hits left right from n → AreBeside Hits left right from (n + 1)
more_beside Hits left right from n one before p q a b = elim (below_or_here p n (omega (arith, b))) [
  | inl less ↦ before p q a less
  | inr here ↦ subst (λ (z : ℕ). Hits z q → Within left right q.x → ⊥) (sym here) (one q)
]

pub outline_beside : (pieces : List Piece) (p : ℕ) (o : OctNumbers) (bounds : Option BoundingBox) (left right : ℤ) → HasOutline pieces p o bounds
    → ((piece : Piece) → IsOutlined piece o bounds → IsBeside piece left right) → (q : Pt) → Hits pieces p q → Within left right q.x → ⊥
outline_beside pieces p o bounds left right (piece, e, is) f = piece_beside pieces p piece left right e (f piece is)
