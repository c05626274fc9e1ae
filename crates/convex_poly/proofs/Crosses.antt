-- Identities of turns and inner products, and what they weigh.
use Rattle.std.proofs.Common.{◌≡◌, refl, [], ◌∷◌}
use lib.IntN.{pos, ◌+ℤ◌, ◌-ℤ◌, ◌*ℤ◌}
use Rattle.spot_terms.specs.declared.plain.Pt.{Pt}
use Rattle.spot_terms.proofs.Ring.{ring, Exp, var, num, ◌⊕◌, ◌⊖◌, ◌⊗◌}
use Rattle.spot_terms.proofs.Mixes.{Affine}
use Rattle.convex_poly.specs.Turns.{cross, inner}

-- the cross product of three points, as an expression of their coordinates
abbrev pub cross_exp : Exp → Exp → Exp → Exp → Exp → Exp → Exp
cross_exp ax ay bx by cx cy = ((bx ⊖ ax) ⊗ (cy ⊖ ay)) ⊖ ((by ⊖ ay) ⊗ (cx ⊖ ax))

abbrev pub cross_affine : (a b : Pt) → Affine (cross a b)
cross_affine a b = record {
  at_x = a.y -ℤ b.y;
  at_y = b.x -ℤ a.x;
  rest = ((b.y -ℤ a.y) *ℤ a.x) -ℤ ((b.x -ℤ a.x) *ℤ a.y);
  is = λ p. ring (a.x ∷ a.y ∷ b.x ∷ b.y ∷ p.x ∷ p.y ∷ [])
      (cross_exp (var 0) (var 1) (var 2) (var 3) (var 4) (var 5))
      ((((var 1 ⊖ var 3) ⊗ var 4) ⊕ ((var 2 ⊖ var 0) ⊗ var 5)) ⊕ (((var 3 ⊖ var 1) ⊗ var 0) ⊖ ((var 2 ⊖ var 0) ⊗ var 1))) refl;
}

pub cross_turn : (a b c : Pt) → cross a b c ≡ cross b c a
cross_turn a b c =
    ring (a.x ∷ a.y ∷ b.x ∷ b.y ∷ c.x ∷ c.y ∷ [])
    (cross_exp (var 0) (var 1) (var 2) (var 3) (var 4) (var 5))
    (cross_exp (var 2) (var 3) (var 4) (var 5) (var 0) (var 1)) refl

pub cross_swap : (a b c : Pt) → cross a b c ≡ pos 0 -ℤ cross b a c
cross_swap a b c =
    ring (a.x ∷ a.y ∷ b.x ∷ b.y ∷ c.x ∷ c.y ∷ [])
    (cross_exp (var 0) (var 1) (var 2) (var 3) (var 4) (var 5))
    (num (pos 0) ⊖ cross_exp (var 2) (var 3) (var 0) (var 1) (var 4) (var 5)) refl

-- the three parts of a triangle make up the whole
pub cross_parts : (a b c q : Pt) → (cross b c q +ℤ cross c a q) +ℤ cross a b q ≡ cross a b c
cross_parts a b c q =
    ring (a.x ∷ a.y ∷ b.x ∷ b.y ∷ c.x ∷ c.y ∷ q.x ∷ q.y ∷ [])
    ((cross_exp (var 2) (var 3) (var 4) (var 5) (var 6) (var 7) ⊕ cross_exp (var 4) (var 5) (var 0) (var 1) (var 6) (var 7)) ⊕ cross_exp (var 0) (var 1) (var 2) (var 3) (var 6) (var 7))
    (cross_exp (var 0) (var 1) (var 2) (var 3) (var 4) (var 5)) refl

-- and weigh the corners
pub cross_weighs_x : (a b c q : Pt) → ((cross b c q +ℤ cross c a q) +ℤ cross a b q) *ℤ q.x ≡ (cross b c q *ℤ a.x) +ℤ ((cross c a q *ℤ b.x) +ℤ ((cross a b q *ℤ c.x) +ℤ pos 0))
cross_weighs_x a b c q =
    let A : Exp = cross_exp (var 2) (var 3) (var 4) (var 5) (var 6) (var 7) in
    let B : Exp = cross_exp (var 4) (var 5) (var 0) (var 1) (var 6) (var 7) in
    let C : Exp = cross_exp (var 0) (var 1) (var 2) (var 3) (var 6) (var 7) in
    ring (a.x ∷ a.y ∷ b.x ∷ b.y ∷ c.x ∷ c.y ∷ q.x ∷ q.y ∷ [])
    (((A ⊕ B) ⊕ C) ⊗ var 6) ((A ⊗ var 0) ⊕ ((B ⊗ var 2) ⊕ ((C ⊗ var 4) ⊕ num (pos 0)))) refl

pub cross_weighs_y : (a b c q : Pt) → ((cross b c q +ℤ cross c a q) +ℤ cross a b q) *ℤ q.y ≡ (cross b c q *ℤ a.y) +ℤ ((cross c a q *ℤ b.y) +ℤ ((cross a b q *ℤ c.y) +ℤ pos 0))
cross_weighs_y a b c q =
    let A : Exp = cross_exp (var 2) (var 3) (var 4) (var 5) (var 6) (var 7) in
    let B : Exp = cross_exp (var 4) (var 5) (var 0) (var 1) (var 6) (var 7) in
    let C : Exp = cross_exp (var 0) (var 1) (var 2) (var 3) (var 6) (var 7) in
    ring (a.x ∷ a.y ∷ b.x ∷ b.y ∷ c.x ∷ c.y ∷ q.x ∷ q.y ∷ [])
    (((A ⊕ B) ⊕ C) ⊗ var 7) ((A ⊗ var 1) ⊕ ((B ⊗ var 3) ⊕ ((C ⊗ var 5) ⊕ num (pos 0)))) refl

-- ---- inner products
abbrev pub inner_exp : Exp → Exp → Exp → Exp → Exp → Exp → Exp
inner_exp ax ay bx by cx cy = ((bx ⊖ ax) ⊗ (cx ⊖ ax)) ⊕ ((by ⊖ ay) ⊗ (cy ⊖ ay))

abbrev pub inner_affine : (a b : Pt) → Affine (inner a b)
inner_affine a b = record {
  at_x = b.x -ℤ a.x;
  at_y = b.y -ℤ a.y;
  rest = ((a.x -ℤ b.x) *ℤ a.x) +ℤ ((a.y -ℤ b.y) *ℤ a.y);
  is = λ p. ring (a.x ∷ a.y ∷ b.x ∷ b.y ∷ p.x ∷ p.y ∷ [])
      (inner_exp (var 0) (var 1) (var 2) (var 3) (var 4) (var 5))
      ((((var 2 ⊖ var 0) ⊗ var 4) ⊕ ((var 3 ⊖ var 1) ⊗ var 5)) ⊕ (((var 0 ⊖ var 2) ⊗ var 0) ⊕ ((var 1 ⊖ var 3) ⊗ var 1))) refl;
}

pub inner_weighs_x : (a b q : Pt) → (inner b a q +ℤ inner a b q) *ℤ q.x ≡ ((inner b a q *ℤ a.x) +ℤ ((inner a b q *ℤ b.x) +ℤ pos 0)) -ℤ ((b.y -ℤ a.y) *ℤ cross a b q)
inner_weighs_x a b q =
    let A : Exp = inner_exp (var 2) (var 3) (var 0) (var 1) (var 4) (var 5) in
    let B : Exp = inner_exp (var 0) (var 1) (var 2) (var 3) (var 4) (var 5) in
    ring (a.x ∷ a.y ∷ b.x ∷ b.y ∷ q.x ∷ q.y ∷ [])
    ((A ⊕ B) ⊗ var 4) (((A ⊗ var 0) ⊕ ((B ⊗ var 2) ⊕ num (pos 0))) ⊖ ((var 3 ⊖ var 1) ⊗ cross_exp (var 0) (var 1) (var 2) (var 3) (var 4) (var 5))) refl

pub inner_weighs_y : (a b q : Pt) → (inner b a q +ℤ inner a b q) *ℤ q.y ≡ ((inner b a q *ℤ a.y) +ℤ ((inner a b q *ℤ b.y) +ℤ pos 0)) +ℤ ((b.x -ℤ a.x) *ℤ cross a b q)
inner_weighs_y a b q =
    let A : Exp = inner_exp (var 2) (var 3) (var 0) (var 1) (var 4) (var 5) in
    let B : Exp = inner_exp (var 0) (var 1) (var 2) (var 3) (var 4) (var 5) in
    ring (a.x ∷ a.y ∷ b.x ∷ b.y ∷ q.x ∷ q.y ∷ [])
    ((A ⊕ B) ⊗ var 5) (((A ⊗ var 1) ⊕ ((B ⊗ var 3) ⊕ num (pos 0))) ⊕ ((var 2 ⊖ var 0) ⊗ cross_exp (var 0) (var 1) (var 2) (var 3) (var 4) (var 5))) refl

pub inner_parts : (a b q : Pt) → inner b a q +ℤ inner a b q ≡ ((b.x -ℤ a.x) *ℤ (b.x -ℤ a.x)) +ℤ ((b.y -ℤ a.y) *ℤ (b.y -ℤ a.y))
inner_parts a b q =
    let A : Exp = inner_exp (var 2) (var 3) (var 0) (var 1) (var 4) (var 5) in
    let B : Exp = inner_exp (var 0) (var 1) (var 2) (var 3) (var 4) (var 5) in
    ring (a.x ∷ a.y ∷ b.x ∷ b.y ∷ q.x ∷ q.y ∷ [])
    (A ⊕ B) (((var 2 ⊖ var 0) ⊗ (var 2 ⊖ var 0)) ⊕ ((var 3 ⊖ var 1) ⊗ (var 3 ⊖ var 1))) refl
