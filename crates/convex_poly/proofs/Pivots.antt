-- 0 is outside of a hull exactly where one of the points is a pivot.
use Rattle.std.proofs.Common.{◌≡◌, ℕ, zero, suc, ◌+◌, ◌<◌, arith, refl, sym, ap, ◌∙◌, subst, List, [], ◌∷◌, ◌⊎◌, inl, inr}
use Rattle.std.proofs.lemmas.Int.{ints, by_lt_z}
use lib.IntN.{ℤ, pos, negsuc, ◌+ℤ◌, ◌-ℤ◌, ◌*ℤ◌}
use lib.Signed.{◌≤ℤ◌, ◌<ℤ◌}
use Rattle.spot_terms.specs.declared.plain.Pt.{Pt}
use Rattle.spot_terms.specs.Lists.{Includes}
use Rattle.spot_terms.proofs.Mixes.{total}
use Rattle.convex_poly.specs.Pivots.{IsLeftwards, IsPivot}
use Rattle.convex_poly.specs.Vectors.{turn_of, inner_product}
use Rattle.spot_terms.proofs.Ring.{ring, var, num, ◌⊕◌, ◌⊖◌, ◌⊗◌}
use Rattle.spot_terms.proofs.Mixes.{mix_more, mix_to, mix_included}
use Rattle.convex_poly.proofs.Ways.{Meets0, Rel, turns_rel, flat_rel, meets_of, zero_part, rel_line}
use Rattle.spot_terms.proofs.Products.{square_not_negative}
use Rattle.spot_terms.specs.Hull.{weighted}
use Rattle.spot_terms.proofs.Orders.{opposite_not_negative, opposite_of_negative, sum_not_negative, zero_not_negative, zero_not_positive, is_zero, positive_not_negative, times_not_negative, antisymmetric, sum_swap}

-- ---- with a pivot, 0 is outside

-- the weighted sums of the turns and of the inner products with p
turn_weighted : (p : Pt) (ws : List ℕ) (vs : List Pt) → weighted (turn_of p) ws vs ≡ (p.x *ℤ weighted (λ v. v.y) ws vs) -ℤ (p.y *ℤ weighted (λ v. v.x) ws vs)
turn_weighted p [] vs = omega (arith, ints)
turn_weighted p (w ∷ ws) [] = omega (arith, ints)
turn_weighted p (w ∷ ws) (v ∷ vs) =
    ap (λ z. (pos w *ℤ turn_of p v) +ℤ z) (turn_weighted p ws vs)
    ∙ ring (pos w ∷ p.x ∷ p.y ∷ v.x ∷ v.y ∷ weighted (λ v. v.x) ws vs ∷ weighted (λ v. v.y) ws vs ∷ [])
    ((var 0 ⊗ ((var 1 ⊗ var 4) ⊖ (var 2 ⊗ var 3))) ⊕ ((var 1 ⊗ var 6) ⊖ (var 2 ⊗ var 5)))
    ((var 1 ⊗ ((var 0 ⊗ var 4) ⊕ var 6)) ⊖ (var 2 ⊗ ((var 0 ⊗ var 3) ⊕ var 5))) refl

along_weighted : (p : Pt) (ws : List ℕ) (vs : List Pt) → weighted (inner_product p) ws vs ≡ (p.x *ℤ weighted (λ v. v.x) ws vs) +ℤ (p.y *ℤ weighted (λ v. v.y) ws vs)
along_weighted p [] vs = omega (arith, ints)
along_weighted p (w ∷ ws) [] = omega (arith, ints)
along_weighted p (w ∷ ws) (v ∷ vs) =
    ap (λ z. (pos w *ℤ inner_product p v) +ℤ z) (along_weighted p ws vs)
    ∙ ring (pos w ∷ p.x ∷ p.y ∷ v.x ∷ v.y ∷ weighted (λ v. v.x) ws vs ∷ weighted (λ v. v.y) ws vs ∷ [])
    ((var 0 ⊗ ((var 1 ⊗ var 3) ⊕ (var 2 ⊗ var 4))) ⊕ ((var 1 ⊗ var 5) ⊕ (var 2 ⊗ var 6)))
    ((var 1 ⊗ ((var 0 ⊗ var 3) ⊕ var 5)) ⊕ (var 2 ⊗ ((var 0 ⊗ var 4) ⊕ var 6))) refl

-- turns not below 0; where they sum to 0, the inner products sum to more than 0, unless all weights are 0
record Leaning (p : Pt) (ws : List ℕ) (vs : List Pt) : Type 0 where
  turns : pos 0 ≤ℤ weighted (turn_of p) ws vs
  rises : weighted (turn_of p) ws vs ≡ pos 0 → (0 < total ws vs → pos 0 <ℤ weighted (inner_product p) ws vs) × (pos 0 ≤ℤ weighted (inner_product p) ws vs)

pub turn_ok : (p r : Pt) → IsLeftwards p r → pos 0 ≤ℤ turn_of p r
turn_ok p r (inl h) = positive_not_negative (turn_of p r) h
turn_ok p r (inr h) = zero_not_negative (turn_of p r) h.0

lean : (p : Pt) (ws : List ℕ) (vs : List Pt) → ((r : Pt) → Includes vs r → IsLeftwards p r) → Leaning p ws vs
lean p [] vs all = record { turns = omega (arith, ints); rises = λ e. (λ h. absurd (omega (arith, h)), omega (arith, ints)) }
lean p (w ∷ ws) [] all = record { turns = omega (arith, ints); rises = λ e. (λ h. absurd (omega (arith, h)), omega (arith, ints)) }
lean p (w ∷ ws) (v ∷ vs) all = let k = lean p ws vs (λ r i. all r (inr i)) in let here = all v (inl refl) in record {
  turns = sum_not_negative _ _ (times_not_negative w (turn_of p v) (turn_ok p v here)) k.turns;
  rises = λ e. go w (turn_of p v) (inner_product p v) (weighted (turn_of p) ws vs) (weighted (inner_product p) ws vs) (total ws vs) here k.turns k.rises e;
}
  where
    go : (w : ℕ) (t a T A : ℤ) (n : ℕ) → (pos 0 <ℤ t) ⊎ ((t ≡ pos 0) × (pos 0 <ℤ a)) → pos 0 ≤ℤ T → (T ≡ pos 0 → (0 < n → pos 0 <ℤ A) × (pos 0 ≤ℤ A)) → (pos w *ℤ t) +ℤ T ≡ pos 0
        → (0 < w + n → pos 0 <ℤ ((pos w *ℤ a) +ℤ A)) × (pos 0 ≤ℤ ((pos w *ℤ a) +ℤ A))
    go zero t a T A n here hT k e = let z : T ≡ pos 0 = omega (arith, ints) in
        (λ h. let g : pos 0 <ℤ A = (k z).0 (omega (arith, h)) in omega (arith, ints, g), let g : pos 0 ≤ℤ A = (k z).1 in omega (arith, ints, g))
    go (suc w) (pos zero) (pos (suc a)) T A n here hT k e = let z : T ≡ pos 0 = omega (arith, ints) in let g : pos 0 ≤ℤ A = (k z).1 in
        (λ h. omega (arith, ints, g), omega (arith, ints, g))
    go (suc w) (pos zero) (pos zero) T A n here hT k e = absurd (elim here [ inl h ↦ omega (arith, ints, h) | inr h ↦ omega (arith, ints, h.1) ])
    go (suc w) (pos zero) (negsuc a) T A n here hT k e = absurd (elim here [ inl h ↦ omega (arith, ints, h) | inr h ↦ omega (arith, ints, h.1) ])
    go (suc w) (pos (suc t)) a T A n here hT k e = absurd (omega (arith, ints))
    go (suc w) (negsuc t) a T A n here hT k e = absurd (elim here [ inl h ↦ omega (arith, ints, h) | inr h ↦ omega (arith, ints, h.0) ])

pub pivot_apart : (vs : List Pt) (p : Pt) → ((r : Pt) → Includes vs r → IsLeftwards p r) → Meets0 vs → ⊥
pivot_apart vs p all m =
    let k = lean p m.mix.weights vs all in
    let e : weighted (turn_of p) m.mix.weights vs ≡ pos 0 = turn_weighted p m.mix.weights vs ∙ ap (λ z. (p.x *ℤ z) -ℤ (p.y *ℤ weighted (λ v. v.x) m.mix.weights vs)) m.mix.at_y ∙ ap (λ z. (p.x *ℤ pos 0) -ℤ (p.y *ℤ z)) m.mix.at_x ∙ none (p.x) (p.y) in
    let f : weighted (inner_product p) m.mix.weights vs ≡ pos 0 = along_weighted p m.mix.weights vs ∙ ap (λ z. (p.x *ℤ z) +ℤ (p.y *ℤ weighted (λ v. v.y) m.mix.weights vs)) m.mix.at_x ∙ ap (λ z. (p.x *ℤ pos 0) +ℤ (p.y *ℤ z)) m.mix.at_y ∙ some (p.x) (p.y) in
    zero_not_positive (weighted (inner_product p) m.mix.weights vs) f ((k.rises e).0 (positive (total m.mix.weights vs) m.n m.mix.at_w m.some))
  where
    none : (x y : ℤ) → (x *ℤ pos 0) -ℤ (y *ℤ pos 0) ≡ pos 0
    none x y = omega (arith, ints)

    some : (x y : ℤ) → (x *ℤ pos 0) +ℤ (y *ℤ pos 0) ≡ pos 0
    some x y = omega (arith, ints)

    positive : (s n : ℕ) → s ≡ n → 0 < n → 0 < s
    positive s n e h = omega arith

-- ---- without one, 0 is inside

-- two points that point against each other
against : (vs : List Pt) (p r : Pt) → Includes vs p → Includes vs r → turn_of p r ≡ pos 0 → inner_product p r ≤ℤ pos 0 → Meets0 vs
against vs p r ip ir z h =
    elim (is_zero (inner_product p p)) [
      | inl o ↦ record { n = 1; some = omega arith; mix = mix_to vs _ _ _ _ _ _ refl (zero_part p.x p.y o) (zero_part p.y p.x (sum_swap (p.y *ℤ p.y) (p.x *ℤ p.x) ∙ o)) (mix_included vs p ip) }
      | inr nz ↦ go nz
    ]
  where
    flipped : Rel p r r (pos 0 -ℤ inner_product p r) (pos 0 -ℤ (pos 0 -ℤ inner_product p p)) (pos 0 -ℤ pos 0)
    flipped = let e = flat_rel p r r z in record { x = rel_line (inner_product p r) (pos 0 -ℤ inner_product p p) (pos 0) p.x r.x r.x e.x; y = rel_line (inner_product p r) (pos 0 -ℤ inner_product p p) (pos 0) p.y r.y r.y e.y }

    signs : (s t : ℤ) → s ≤ℤ pos 0 → pos 0 ≤ℤ t → (t ≡ pos 0 → ⊥) → pos 0 <ℤ (((pos 0 -ℤ s) +ℤ (pos 0 -ℤ (pos 0 -ℤ t))) +ℤ (pos 0 -ℤ pos 0))
    signs s t h k nz = by_lt_z (pos 0) t (λ g. omega (arith, ints)) (λ g. absurd (nz (omega (arith, ints))))

    twice : (s : ℤ) → pos 0 ≤ℤ s → pos 0 ≤ℤ (pos 0 -ℤ (pos 0 -ℤ s))
    twice s h = omega (arith, ints)

    go : (inner_product p p ≡ pos 0 → ⊥) → Meets0 vs
    go nz = let k : pos 0 ≤ℤ inner_product p p = sum_not_negative (p.x *ℤ p.x) (p.y *ℤ p.y) (square_not_negative p.x) (square_not_negative p.y) in
        meets_of vs p r r (pos 0 -ℤ inner_product p r) (pos 0 -ℤ (pos 0 -ℤ inner_product p p)) (pos 0 -ℤ pos 0) ip ir ir flipped (opposite_not_negative (inner_product p r) h) (twice (inner_product p p) k) (omega (arith, ints)) (signs (inner_product p r) (inner_product p p) h k nz)

pub turn_back : (p r : Pt) → turn_of r p ≡ pos 0 -ℤ turn_of p r
turn_back p r = ring (p.x ∷ p.y ∷ r.x ∷ r.y ∷ []) ((var 2 ⊗ var 1) ⊖ (var 3 ⊗ var 0)) (num (pos 0) ⊖ ((var 0 ⊗ var 3) ⊖ (var 1 ⊗ var 2))) refl

-- s is left of p, r is right of p, and s is right of r
round : (vs : List Pt) (p r s : Pt) → Includes vs p → Includes vs r → Includes vs s → turn_of p r <ℤ pos 0 → turn_of r s <ℤ pos 0 → pos 0 ≤ℤ turn_of p s → Meets0 vs
round vs p r s ip ir is1 h k m =
    let e = turns_rel p r s in
    meets_of vs p r s (pos 0 -ℤ turn_of r s) (pos 0 -ℤ turn_of s p) (pos 0 -ℤ turn_of p r) ip ir is1
    (record { x = rel_line (turn_of r s) (turn_of s p) (turn_of p r) p.x r.x s.x e.x; y = rel_line (turn_of r s) (turn_of s p) (turn_of p r) p.y r.y s.y e.y })
    (opposite_of_negative (turn_of r s) k) (subst (λ z. pos 0 ≤ℤ (pos 0 -ℤ z)) (sym (turn_back p s)) (twice (turn_of p s) m)) (opposite_of_negative (turn_of p r) h)
    (subst (λ z. pos 0 <ℤ (((pos 0 -ℤ turn_of r s) +ℤ (pos 0 -ℤ z)) +ℤ (pos 0 -ℤ turn_of p r))) (sym (turn_back p s)) (sum (turn_of r s) (turn_of p s) (turn_of p r) k m h))
  where
    twice : (s : ℤ) → pos 0 ≤ℤ s → pos 0 ≤ℤ (pos 0 -ℤ (pos 0 -ℤ s))
    twice s h = omega (arith, ints)

    sum : (a b c : ℤ) → a <ℤ pos 0 → pos 0 ≤ℤ b → c <ℤ pos 0 → pos 0 <ℤ (((pos 0 -ℤ a) +ℤ (pos 0 -ℤ (pos 0 -ℤ b))) +ℤ (pos 0 -ℤ c))
    sum a b c h k m = omega (arith, ints)

-- where r is: leftwards of p, against it, or right of it
record NotLeft (p r : Pt) : Type 0 where
  way : (turn_of p r <ℤ pos 0) ⊎ ((turn_of p r ≡ pos 0) × (inner_product p r ≤ℤ pos 0))

place : (p r : Pt) → IsLeftwards p r ⊎ NotLeft p r
place p r =
    by_lt_z (pos 0) (turn_of p r) (λ h. inl (inl h))
    (λ h. by_lt_z (turn_of p r) (pos 0) (λ k. inr (record { way = inl k }))
    (λ k. let e : turn_of p r ≡ pos 0 = antisymmetric (turn_of p r) (pos 0) h k in
    by_lt_z (pos 0) (inner_product p r) (λ m. inl (inr (e, m))) (λ m. inr (record { way = inr (e, m) }))))

-- all of the list are leftwards of r, or one isn't
scan : (r : Pt) (vs : List Pt) → ((s : Pt) → Includes vs s → IsLeftwards r s) ⊎ ((s : Pt) × (Includes vs s × NotLeft r s))
scan r [] = inl (λ s i. absurd i)
scan r (v ∷ vs) = elim (place r v) [
  | inr n ↦ inr (v, (inl refl, n))
  | inl h ↦ elim (scan r vs) [
    | inr k ↦ inr (k.0, (inr k.1.0, k.1.1))
    | inl all ↦ inl (λ s i. elim i [ inl e ↦ subst (IsLeftwards r) (sym e) h | inr j ↦ all s j ])
  ]
]

-- r leans on itself, unless it is 0
self : (vs : List Pt) (r : Pt) → Includes vs r → IsLeftwards r r ⊎ Meets0 vs
self vs r i = elim (place r r) [
  | inl h ↦ inl h
  | inr n ↦ elim n.way [
    | inl h ↦ absurd (clash (turn_of r r) (ring (r.x ∷ r.y ∷ []) ((var 0 ⊗ var 1) ⊖ (var 1 ⊗ var 0)) (num (pos 0)) refl) h)
    | inr h ↦ inr (against vs r r i i h.0 h.1)
  ]
]
  where
    clash : (z : ℤ) → z ≡ pos 0 → z <ℤ pos 0 → ⊥
    clash z e h = omega (arith, ints)

pub pivot_or_meets : (v : Pt) (vs : List Pt) → ((p : Pt) × IsPivot (v ∷ vs) p) ⊎ Meets0 (v ∷ vs)
pivot_or_meets v [] = elim (self (v ∷ []) v (inl refl)) [
  | inl h ↦ inl (v, record { one = inl refl; all = λ r i. elim i [ inl e ↦ subst (IsLeftwards v) (sym e) h | inr j ↦ absurd j ] })
  | inr m ↦ inr m
]
pivot_or_meets r (v ∷ vs) = elim (pivot_or_meets v vs) [
  | inr m ↦ inr (record { n = m.n; some = m.some; mix = mix_more r (v ∷ vs) _ _ _ m.mix })
  | inl k ↦ elim (place k.0 r) [
    | inl h ↦ inl (k.0, record { one = inr k.1.one; all = λ s i. elim i [ inl e ↦ subst (IsLeftwards k.0) (sym e) h | inr j ↦ k.1.all s j ] })
    | inr n ↦ elim n.way [
      | inr h ↦ inr (against (r ∷ v ∷ vs) k.0 r (inr k.1.one) (inl refl) h.0 h.1)
      | inl h ↦ elim (scan r (v ∷ vs)) [
        | inl all ↦ elim (self (r ∷ v ∷ vs) r (inl refl)) [
          | inl g ↦ inl (r, record { one = inl refl; all = λ s i. elim i [ inl e ↦ subst (IsLeftwards r) (sym e) g | inr j ↦ all s j ] })
          | inr m ↦ inr m
        ]
        | inr s ↦ elim s.1.1.way [
          | inl g ↦ inr (round (r ∷ v ∷ vs) k.0 r s.0 (inr k.1.one) (inl refl) (inr s.1.0) h g (turn_ok k.0 s.0 (k.1.all s.0 s.1.0)))
          | inr g ↦ inr (against (r ∷ v ∷ vs) r s.0 (inl refl) (inr s.1.0) g.0 g.1)
        ]
      ]
    ]
  ]
]
