-- The list of all differences, one more at a time.
use Rattle.std.proofs.Common.{◌≡◌, ◌∙◌, ℕ, ◌+◌, ◌*◌, ◌≤◌, ◌<◌, arith, refl, sym, ap, List, [], ◌∷◌, ◌++◌, take, length, slice_index_or, mul-le-mul}
use Rattle.std.proofs.lemmas.List.{append-nil, append_assoc, length-append, length-take-le, take_more, take_all}
use Rattle.spot_terms.specs.declared.plain.Pt.{Pt}
use Rattle.spot_terms.proofs.Orders.{natural_weaken, factor_order}
use Rattle.convex_poly.specs.Pivots.{each_minus, differences}
use Rattle.convex_poly.specs.Vectors.{minus}

-- ---- one point against a list

-- joined lists and lengths
each-append : (p : Pt) (us vs : List Pt) → each_minus p (us ++ vs) ≡ each_minus p us ++ each_minus p vs
each-append p [] vs = refl
each-append p (u ∷ us) vs = ap (λ (z : List Pt). minus p u ∷ z) (each-append p us vs)

length-each : (p : Pt) (b : List Pt) → length (each_minus p b) ≡ length b
length-each p [] = refl
length-each p (q ∷ b) = omega (arith, length-each p b)

-- one more way
pub each_more : (old before now : List Pt) (p : Pt) (b : List Pt) (i : ℕ) (d way : Pt) → i < length b → before ≡ old ++ each_minus p (take i b) → way ≡ minus p (slice_index_or b i d) → now ≡ before ++ way ∷ [] → now ≡ old ++ each_minus p (take (i + 1) b)
each_more old before now p b i d way h e f g =
    let more : each_minus p (take (i + 1) b) ≡ each_minus p (take i b) ++ minus p (slice_index_or b i d) ∷ [] = ap (each_minus p) (take_more b i d h) ∙ each-append p (take i b) (slice_index_or b i d ∷ []) in
    g ∙ ap (λ (z : List Pt). z ++ way ∷ []) e ∙ ap (λ (z : Pt). (old ++ each_minus p (take i b)) ++ z ∷ []) f
    ∙ append_assoc old (each_minus p (take i b)) (minus p (slice_index_or b i d) ∷ []) ∙ ap (λ (z : List Pt). old ++ z) (sym more)

-- room for one more
pub each_room : (old now : List Pt) (p : Pt) (b : List Pt) (i room : ℕ) → i < length b → now ≡ old ++ each_minus p (take i b) → length old + length b ≤ room → length now < room
each_room old now p b i room h e k =
    let so_far : length now ≡ length old + i = ap length e ∙ length-append old (each_minus p (take i b)) ∙ ap (λ (n : ℕ). length old + n) (length-each p (take i b) ∙ length-take-le i b (natural_weaken i (length b) h)) in
    omega (arith, so_far, h, k)

-- ---- a list against a list

-- joined lists and lengths
differences-append : (us vs qs : List Pt) → differences (us ++ vs) qs ≡ differences us qs ++ differences vs qs
differences-append [] vs qs = refl
differences-append (u ∷ us) vs qs = ap (λ (z : List Pt). each_minus u qs ++ z) (differences-append us vs qs) ∙ sym (append_assoc (each_minus u qs) (differences us qs) (differences vs qs))

length-differences : (a b : List Pt) → length (differences a b) ≡ length a * length b
length-differences [] b = omega arith
length-differences (p ∷ a) b = length-append (each_minus p b) (differences a b) ∙ omega (arith, length-each p b, length-differences a b)

-- the vectors of one more point
pub differences_more : (before now : List Pt) (a b : List Pt) (i : ℕ) (d : Pt) → i < length a → before ≡ differences (take i a) b → now ≡ before ++ each_minus (slice_index_or a i d) b → now ≡ differences (take (i + 1) a) b
differences_more before now a b i d h e f =
    f ∙ ap (λ (z : List Pt). z ++ each_minus (slice_index_or a i d) b) e
    ∙ ap (λ (z : List Pt). differences (take i a) b ++ z) (sym (append-nil (each_minus (slice_index_or a i d) b)))
    ∙ sym (differences-append (take i a) (slice_index_or a i d ∷ []) b) ∙ ap (λ (z : List Pt). differences z b) (sym (take_more a i d h))

-- room for those of one more point
pub differences_room : (now a b : List Pt) (i room : ℕ) → i < length a → length a * length b ≤ room → now ≡ differences (take i a) b → length now + length b ≤ room
differences_room now a b i room h few e =
    let so_far : length now ≡ i * length b = ap length e ∙ length-differences (take i a) b ∙ ap (λ (n : ℕ). n * length b) (length-take-le i a (natural_weaken i (length a) h)) in
    let all : (i + 1) * length b ≤ length a * length b = factor_order (i + 1) (length a) (length b) (omega (arith, h)) in
    omega (arith, so_far, all, few)

-- some vectors from some points to some points
pub differences_some : (a b : List Pt) → 0 < length a → 0 < length b → 0 < length (differences a b)
differences_some a b h k =
    let all : 1 * 1 ≤ length a * length b = mul-le-mul h k in
    omega (arith, all, length-differences a b)

-- past the last place all are in
pub differences_all : (now a b : List Pt) (i : ℕ) → length a ≤ i → now ≡ differences (take i a) b → now ≡ differences a b
differences_all now a b i h e = e ∙ ap (λ (z : List Pt). differences z b) (take_all i a h)
