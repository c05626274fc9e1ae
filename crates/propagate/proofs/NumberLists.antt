-- Child numbers as a relation: each without its growth is a support.
use Rattle.std.proofs.Common.{◌≡◌, ℕ, ◌+◌, ◌*◌, ◌/◌, arith, refl, sym, subst, List, [], ◌∷◌}
use Rattle.std.specs.Prelude.{nat_abs}
use Rattle.std.proofs.lemmas.Int.{ints}
use lib.IntN.{ℤ, pos, neg_ℤ, ◌+ℤ◌, ◌-ℤ◌, ◌*ℤ◌}
use Rattle.spot_terms.specs.declared.plain.Pt.{Pt}
use Rattle.spot_terms.specs.ChildNumbers as numbers
use Rattle.spot_terms.specs.ChildNumbers.{support, sheared}
use Rattle.spot_terms.specs.Hull.{IsSupport}
use Rattle.spot_terms.specs.Lists.{Pairwise}
use Rattle.spot_terms.specs.Reach.{Normal, minus_one}
use Rattle.spot_terms.proofs.Supports.{supports_are}
use Rattle.spot_terms.proofs.Orders.{plus_minus}

-- the growths of a step of k ticks with accelerations of at most a in size: of a speed, of a position or the way of
-- (1, -k), and of the way of (2, -k)
abbrev pub speed_growth : ℕ → ℕ → ℕ
speed_growth a k = k * a

abbrev pub place_growth : ℕ → ℕ → ℕ
place_growth a k = (k * k * a + k) / 2

abbrev pub double_growth : ℕ → ℕ → ℕ
double_growth a k = a * ((k * k) / 2) + k

-- the frame normals with their growths
abbrev pub normal_growths : ℕ → ℕ → List (Normal × ℕ)
normal_growths a k =
    ((pos 0, pos 1), speed_growth a k) ∷ ((pos 1, pos 0), place_growth a k) ∷ ((pos 2, neg_ℤ (pos k)), double_growth a k) ∷ ((pos 1, neg_ℤ (pos k)), place_growth a k)
    ∷ ((pos 0, minus_one), speed_growth a k) ∷ ((minus_one, pos 0), place_growth a k) ∷ ((neg_ℤ (pos 2), pos k), double_growth a k) ∷ ((minus_one, pos k), place_growth a k) ∷ []

-- h is the support of the corners along (n1, k·n1 + n2), and the growth along n
abbrev pub IsChildNumber : ℕ → List Pt → Normal × ℕ → ℤ → Type 0
IsChildNumber k corners n h = IsSupport corners n.0.0 (pos k *ℤ n.0.0 +ℤ n.0.1) (h -ℤ pos n.1)

-- the eight child numbers
abbrev pub AreChildNumbers : ℕ → ℕ → List Pt → List ℤ → Type 0
AreChildNumbers a k corners numbers = Pairwise (IsChildNumber k corners) (normal_growths a k) numbers

-- those of the definition
pub child_numbers-are : (a : ℤ) (k : ℕ) (u : Pt) (vs : List Pt) → AreChildNumbers (nat_abs a) k (u ∷ vs) (numbers.child_numbers a k (u ∷ vs))
child_numbers-are a k u vs = (
  each (pos 0, pos 1) (k * nat_abs a),
  (
    each (pos 1, pos 0) _,
    (
      each (pos 2, neg_ℤ (pos k)) _,
      (
        each (pos 1, neg_ℤ (pos k)) _,
        (
          each (pos 0, minus_one) (k * nat_abs a),
          (
            each (minus_one, pos 0) _,
            (
              each (neg_ℤ (pos 2), pos k) _,
              (each (minus_one, pos k) _, tt),
            ),
          ),
        ),
      ),
    ),
  ),
)
  where
    each : (n : Normal) (g : ℕ) → IsSupport (u ∷ vs) n.0 (pos k *ℤ n.0 +ℤ n.1) (support (sheared k n) (u ∷ vs) +ℤ pos g -ℤ pos g)
    each n g = subst (λ z. IsSupport (u ∷ vs) n.0 (pos k *ℤ n.0 +ℤ n.1) z) (sym (plus_minus (support (sheared k n) (u ∷ vs)) (pos g))) (supports_are.greatest (sheared k n) u vs)

-- eight child numbers are those of the definition
pub numbers_are : (a : ℤ) (k : ℕ) (vs : List Pt) (f0 f1 f2 f3 f4 f5 f6 f7 : ℤ) → AreChildNumbers (nat_abs a) k vs (f0 ∷ f1 ∷ f2 ∷ f3 ∷ f4 ∷ f5 ∷ f6 ∷ f7 ∷ []) → (f0 ∷ f1 ∷ f2 ∷ f3 ∷ f4 ∷ f5 ∷ f6 ∷ f7 ∷ []) ≡ numbers.child_numbers a k vs
numbers_are a k vs f0 f1 f2 f3 f4 f5 f6 f7 (h0, (h1, (h2, (h3, (h4, (h5, (h6, (h7, last)))))))) =
    let e0 = value (pos 0, pos 1) f0 (k * nat_abs a) h0 in
    let e1 = value (pos 1, pos 0) f1 (place_growth (nat_abs a) k) h1 in
    let e2 = value (pos 2, neg_ℤ (pos k)) f2 (double_growth (nat_abs a) k) h2 in
    let e3 = value (pos 1, neg_ℤ (pos k)) f3 (place_growth (nat_abs a) k) h3 in
    let e4 = value (pos 0, minus_one) f4 (k * nat_abs a) h4 in
    let e5 = value (minus_one, pos 0) f5 (place_growth (nat_abs a) k) h5 in
    let e6 = value (neg_ℤ (pos 2), pos k) f6 (double_growth (nat_abs a) k) h6 in
    let e7 = value (minus_one, pos k) f7 (place_growth (nat_abs a) k) h7 in
    rw (e0, e1, e2, e3, e4, e5, e6, e7) refl
  where
    plus : (f s g : ℤ) → f -ℤ g ≡ s → f ≡ s +ℤ g
    plus f s g e = omega (arith, ints)

    value : (n : Normal) (f : ℤ) (g : ℕ) → IsChildNumber k vs (n, g) f → f ≡ support (sheared k n) vs +ℤ pos g
    value n f g h = plus f (support (sheared k n) vs) (pos g) (sym (supports_are.one (sheared k n) vs (f -ℤ pos g) h))
