-- Edges of a corner list: their ends are corners, and no two of them point the same way.
use Rattle.std.proofs.Common.{◌≡◌, suc, arith, refl, ap, ◌∙◌, List, [], ◌∷◌, length, ◌⊎◌, inl, inr}
use Rattle.std.proofs.lemmas.Int.{ints, by_lt_z}
use Rattle.std.specs.List.{AllByRecursion}
use lib.IntN.{ℤ, pos, ◌+ℤ◌, ◌-ℤ◌, ◌*ℤ◌}
use lib.Signed.{◌≤ℤ◌, ◌<ℤ◌}
use Rattle.spot_terms.specs.declared.plain.Pt.{Pt}
use Rattle.spot_terms.specs.Hull.{edges, edges_to, IsCornerList}
use Rattle.spot_terms.specs.Lists.{Includes}
use Rattle.spot_terms.proofs.ListLemmas.{all_included}
use Rattle.spot_terms.proofs.Products.{square_not_negative}
use Rattle.spot_terms.proofs.Ring.{ring, Exp, var, num, ◌⊕◌, ◌⊖◌, ◌⊗◌}
use Rattle.spot_terms.proofs.Orders.{sum_not_negative, zero_not_positive, zero_times, product_not_negative, product_positive, antisymmetric}
use Rattle.convex_poly.specs.Vectors.{minus, turn_of, inner_product}
use Rattle.convex_poly.specs.Turns.{cross}
use Rattle.convex_poly.proofs.Corners.{IsBeside, edge_left}
use Rattle.convex_poly.proofs.Crosses.{cross_exp}

-- as many edges as corners
edges_to-length : (first : Pt) (vs : List Pt) → length (edges_to first vs) ≡ length vs
edges_to-length first [] = refl
edges_to-length first (a ∷ []) = refl
edges_to-length first (a ∷ b ∷ vs) = ap (λ n. suc n) (edges_to-length first (b ∷ vs))

pub edges-length : (vs : List Pt) → length (edges vs) ≡ length vs
edges-length [] = refl
edges-length (a ∷ vs) = edges_to-length a (a ∷ vs)

-- the way of an edge
abbrev pub way_of : Pt × Pt → Pt
way_of e = minus e.1 e.0

-- the two ways have one direction
pub record HasWayOf (e f : Pt × Pt) : Type 0 where
  pub level : turn_of (way_of e) (way_of f) ≡ pos 0
  pub ahead : pos 0 <ℤ inner_product (way_of e) (way_of f)

start_in : (first : Pt) (vs : List Pt) (e : Pt × Pt) → Includes (edges_to first vs) e → Includes vs e.0
start_in first [] e i = absurd i
start_in first (a ∷ []) e (inl h) = inl (ap (λ (f : Pt × Pt). f.0) h)
start_in first (a ∷ []) e (inr i) = absurd i
start_in first (a ∷ b ∷ vs) e (inl h) = inl (ap (λ (f : Pt × Pt). f.0) h)
start_in first (a ∷ b ∷ vs) e (inr i) = inr (start_in first (b ∷ vs) e i)

end_in : (first : Pt) (vs : List Pt) (e : Pt × Pt) → Includes (edges_to first vs) e → Includes vs e.1 ⊎ (e.1 ≡ first)
end_in first [] e i = absurd i
end_in first (a ∷ []) e (inl h) = inr (ap (λ (f : Pt × Pt). f.1) h)
end_in first (a ∷ []) e (inr i) = absurd i
end_in first (a ∷ b ∷ vs) e (inl h) = inl (inr (inl (ap (λ (f : Pt × Pt). f.1) h)))
end_in first (a ∷ b ∷ vs) e (inr i) = elim (end_in first (b ∷ vs) e i) [ inl j ↦ inl (inr j) | inr h ↦ inr h ]

-- both ends of an edge are corners
pub edge_start : (vs : List Pt) (e : Pt × Pt) → Includes (edges vs) e → Includes vs e.0
edge_start [] e i = absurd i
edge_start (a ∷ vs) e i = start_in a (a ∷ vs) e i

pub edge_end : (vs : List Pt) (e : Pt × Pt) → Includes (edges vs) e → Includes vs e.1
edge_end [] e i = absurd i
edge_end (a ∷ vs) e i = elim (end_in a (a ∷ vs) e i) [ inl j ↦ j | inr h ↦ inl h ]

-- each corner is an end of each edge, or left of it
pub beside : (vs : List Pt) → IsCornerList vs → (e : Pt × Pt) → Includes (edges vs) e → (c : Pt) → Includes vs c → IsBeside c e
beside [] h e i c j = absurd h
beside (a ∷ vs) h e i c j = all_included (λ c. IsBeside c e) (a ∷ vs) c (all_included (λ e. AllByRecursion (λ c. IsBeside c e) (a ∷ vs)) (edges_to a (a ∷ vs)) e h.1 i) j

pub left_of : (vs : List Pt) → IsCornerList vs → (e : Pt × Pt) → Includes (edges vs) e → (c : Pt) → Includes vs c → pos 0 ≤ℤ cross e.0 e.1 c
left_of [] h e i c j = absurd h
left_of (a ∷ vs) h e i c j = all_included (λ c. pos 0 ≤ℤ cross e.0 e.1 c) (a ∷ vs) c (edge_left a vs h e i) j

abbrev along_exp : Exp → Exp → Exp → Exp → Exp
along_exp ax ay bx by = (ax ⊗ bx) ⊕ (ay ⊗ by)

-- the two areas between two edges
areas : (a b c d : Pt) → inner_product (minus b a) (minus b a) *ℤ cross c d a ≡ (pos 0 -ℤ (inner_product (minus b a) (minus d c) *ℤ cross a b c)) -ℤ (turn_of (minus b a) (minus d c) *ℤ inner_product (minus b a) (minus a c))
areas a b c d =
    let ux : Exp = var 2 ⊖ var 0 in
    let uy : Exp = var 3 ⊖ var 1 in
    let wx : Exp = var 6 ⊖ var 4 in
    let wy : Exp = var 7 ⊖ var 5 in
    ring (a.x ∷ a.y ∷ b.x ∷ b.y ∷ c.x ∷ c.y ∷ d.x ∷ d.y ∷ [])
    (along_exp ux uy ux uy ⊗ cross_exp (var 4) (var 5) (var 6) (var 7) (var 0) (var 1))
    ((num (pos 0) ⊖ (along_exp ux uy wx wy ⊗ cross_exp (var 0) (var 1) (var 2) (var 3) (var 4) (var 5))) ⊖ (((ux ⊗ wy) ⊖ (uy ⊗ wx)) ⊗ along_exp ux uy (var 0 ⊖ var 4) (var 1 ⊖ var 5))) refl

next_area : (a b c d : Pt) → cross a b d ≡ cross a b c +ℤ turn_of (minus b a) (minus d c)
next_area a b c d =
    ring (a.x ∷ a.y ∷ b.x ∷ b.y ∷ c.x ∷ c.y ∷ d.x ∷ d.y ∷ [])
    (cross_exp (var 0) (var 1) (var 2) (var 3) (var 6) (var 7))
    (cross_exp (var 0) (var 1) (var 2) (var 3) (var 4) (var 5) ⊕ (((var 2 ⊖ var 0) ⊗ (var 7 ⊖ var 5)) ⊖ ((var 3 ⊖ var 1) ⊗ (var 6 ⊖ var 4)))) refl

module _ (a b c d : Pt) (way : HasWayOf (a, b) (c, d)) (first : pos 0 ≤ℤ cross a b c) (second : pos 0 ≤ℤ cross c d a) where
  flat : cross a b c ≡ pos 0
  flat = by_lt_z (pos 0) (cross a b c)
      (λ up. absurd (clash (inner_product (minus b a) (minus b a) *ℤ cross c d a) (inner_product (minus b a) (minus d c) *ℤ cross a b c) (turn_of (minus b a) (minus d c) *ℤ inner_product (minus b a) (minus a c))
      (areas a b c d) (product_not_negative (inner_product (minus b a) (minus b a)) (cross c d a) squares second) (product_positive (inner_product (minus b a) (minus d c)) (cross a b c) way.ahead up)
      (ap (λ z. z *ℤ inner_product (minus b a) (minus a c)) way.level ∙ zero_times (inner_product (minus b a) (minus a c)))))
      (λ down. antisymmetric (cross a b c) (pos 0) down first)
    where
      squares : pos 0 ≤ℤ inner_product (minus b a) (minus b a)
      squares = sum_not_negative ((b.x -ℤ a.x) *ℤ (b.x -ℤ a.x)) ((b.y -ℤ a.y) *ℤ (b.y -ℤ a.y)) (square_not_negative (b.x -ℤ a.x)) (square_not_negative (b.y -ℤ a.y))

      clash : (p q r : ℤ) → p ≡ (pos 0 -ℤ q) -ℤ r → pos 0 ≤ℤ p → pos 0 <ℤ q → r ≡ pos 0 → ⊥
      clash p q r e h k f = omega (arith, ints)

  flat_end : cross a b d ≡ pos 0
  flat_end = next_area a b c d ∙ ap (λ z. z +ℤ turn_of (minus b a) (minus d c)) flat ∙ ap (λ z. pos 0 +ℤ z) way.level ∙ zero_sum
    where
      zero_sum : pos 0 +ℤ pos 0 ≡ pos 0
      zero_sum = omega (arith, ints)

  -- an end of the first edge, where a point has no area with it
  is_end : (p : Pt) → cross a b p ≡ pos 0 → IsBeside p (a, b) → (p ≡ a) ⊎ (p ≡ b)
  is_end p e (inl h) = inl h
  is_end p e (inr (inl h)) = inr h
  is_end p e (inr (inr h)) = absurd (zero_not_positive (cross a b p) e h)

  -- the second edge neither turns back nor stands still
  not_back : c ≡ b → (d ≡ a) ⊎ (d ≡ b) → ⊥
  not_back e (inl f) = back (inner_product (minus b a) (minus b a)) (inner_product (minus b a) (minus d c)) (ap (λ (z : Pt). inner_product (minus b a) (minus z c)) f ∙ ap (λ (z : Pt). inner_product (minus b a) (minus a z)) e ∙ turned) squares way.ahead
    where
      turned : inner_product (minus b a) (minus a b) ≡ pos 0 -ℤ inner_product (minus b a) (minus b a)
      turned = ring (a.x ∷ a.y ∷ b.x ∷ b.y ∷ []) (along_exp (var 2 ⊖ var 0) (var 3 ⊖ var 1) (var 0 ⊖ var 2) (var 1 ⊖ var 3)) (num (pos 0) ⊖ along_exp (var 2 ⊖ var 0) (var 3 ⊖ var 1) (var 2 ⊖ var 0) (var 3 ⊖ var 1)) refl

      squares : pos 0 ≤ℤ inner_product (minus b a) (minus b a)
      squares = sum_not_negative ((b.x -ℤ a.x) *ℤ (b.x -ℤ a.x)) ((b.y -ℤ a.y) *ℤ (b.y -ℤ a.y)) (square_not_negative (b.x -ℤ a.x)) (square_not_negative (b.y -ℤ a.y))

      back : (s p : ℤ) → p ≡ pos 0 -ℤ s → pos 0 ≤ℤ s → pos 0 <ℤ p → ⊥
      back s p e h k = omega (arith, ints)
  not_back e (inr f) = zero_not_positive (inner_product (minus b a) (minus d c)) (ap (λ (z : Pt). inner_product (minus b a) (minus z c)) f ∙ ap (λ (z : Pt). inner_product (minus b a) (minus b z)) e ∙ still) way.ahead
    where
      still : inner_product (minus b a) (minus b b) ≡ pos 0
      still = ring (a.x ∷ a.y ∷ b.x ∷ b.y ∷ []) (along_exp (var 2 ⊖ var 0) (var 3 ⊖ var 1) (var 2 ⊖ var 2) (var 3 ⊖ var 3)) (num (pos 0)) refl

  same_start : IsBeside c (a, b) → IsBeside d (a, b) → c ≡ a
  same_start h k = elim (is_end c flat h) [ inl e ↦ e | inr e ↦ absurd (not_back e (is_end d flat_end k)) ]

-- two edges of one direction start at one corner
pub one_way_one_start : (vs : List Pt) → IsCornerList vs → (e f : Pt × Pt) → Includes (edges vs) e → Includes (edges vs) f → HasWayOf e f → f.0 ≡ e.0
one_way_one_start vs h e f i j way =
    same_start e.0 e.1 f.0 f.1 way
    (left_of vs h e i f.0 (edge_start vs f j)) (left_of vs h f j e.0 (edge_start vs e i))
    (beside vs h e i f.0 (edge_start vs f j)) (beside vs h e i f.1 (edge_end vs f j))
