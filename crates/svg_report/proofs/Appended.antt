-- Texts that are appended one after another.
use Rattle.std.proofs.Common.{◌≡◌, ◌∙◌, ◌<◌, ◌≤◌, ◌+◌, ℕ, zero, suc, ℤ, List, [], ◌∷◌, ◌++◌, take, get_or, length, ap, sym, refl, arith, append_assoc, to_z, of_z, w64, pos, neg_ℤ, ◌+ℤ◌, ◌-ℤ◌}
use Rattle.std.specs.Prelude.{nat_abs}
use Rattle.std.proofs.lemmas.Int.{ints}
use Rattle.std.proofs.lemmas.List.{take_more}
use Rattle.spot_terms.specs.Drawings.{point_text, points_text}
use Rattle.spot_terms.specs.Report.{whole}
use Rattle.spot_terms.specs.declared.plain.Pt.{Pt}

-- a text behind what is there
pub next : {new old a : List ℕ} (b : List ℕ) → new ≡ old ++ b → old ≡ a → new ≡ a ++ b
next b e f = e ∙ ap (λ (t : List ℕ). t ++ b) f

-- a number behind it, of which another name is known
pub next_number : {new old a : List ℕ} (z : ℤ) {y : ℤ} → new ≡ old ++ whole y → y ≡ z → old ≡ a → new ≡ a ++ whole z
next_number {old = old} z e same f = next (whole z) (e ∙ ap (λ (x : ℤ). old ++ whole x) same) f

-- a near number, as it is read
pub plain : (z : ℤ) → nat_abs z ≤ 100_000_000_000_000 → to_z w64 (of_z w64 z) ≡ z
plain z h = omega (arith, ints)

-- what is made of near numbers, of which another name is read
pub turned : (y : ℤ) {r : ℤ} → nat_abs y ≤ 100_000_000_000_000 → r ≡ neg_ℤ (to_z w64 (of_z w64 y)) → r ≡ neg_ℤ y
turned y near e = e ∙ ap neg_ℤ (plain y near)

pub counted : (lo hi : ℤ) {r : ℤ} → nat_abs lo ≤ 100_000_000_000_000 → nat_abs hi ≤ 100_000_000_000_000 → r ≡ to_z w64 (of_z w64 hi) -ℤ to_z w64 (of_z w64 lo) +ℤ pos 1 → r ≡ hi -ℤ lo +ℤ pos 1
counted lo hi low high e =
    e ∙ ap (λ (z : ℤ). z -ℤ to_z w64 (of_z w64 lo) +ℤ pos 1) (plain hi high) ∙ ap (λ (z : ℤ). hi -ℤ z +ℤ pos 1) (plain lo low)

pub plain_size : (z : ℤ) → nat_abs z ≤ 40_000_000_000_000 → nat_abs (to_z w64 (of_z w64 z)) ≤ 100_000_000_000_000
plain_size z h = omega (arith, ints)

-- ---- the corners of a polygon

three : (x y z w : List ℕ) → x ++ ((y ++ z) ++ w) ≡ (((x ++ y) ++ z) ++ w)
three x y z w = sym (append_assoc x (y ++ z) w) ∙ ap (λ (t : List ℕ). t ++ w) (sym (append_assoc x y z))

point_more : (ps : List Pt) (p : Pt) → 0 < length ps → points_text (ps ++ p ∷ []) ≡ (points_text ps ++ 32 ∷ []) ++ point_text p
point_more [] p h = absurd (omega (arith, h))
point_more (a ∷ []) p h = refl
point_more (a ∷ b ∷ ps) p h = ap (λ (t : List ℕ). (point_text a ++ 32 ∷ []) ++ t) (point_more (b ∷ ps) p (omega arith)) ∙ three (point_text a ++ 32 ∷ []) (points_text (b ∷ ps)) (32 ∷ []) (point_text p)

some_taken : (ps : List Pt) (i : ℕ) → 0 < i → i < length ps → 0 < length (take i ps)
some_taken [] i h k = absurd (omega (arith, k))
some_taken (p ∷ ps) zero h k = absurd (omega (arith, h))
some_taken (p ∷ ps) (suc i) h k = omega arith

-- one corner more
pub point_next : (old line blanked new : List ℕ) (ps : List Pt) (i : ℕ) (d : Pt) → 0 < i → i < length ps → line ≡ old ++ points_text (take i ps) → blanked ≡ line ++ 32 ∷ [] → new ≡ blanked ++ point_text (get_or ps i d)
    → new ≡ old ++ points_text (take (i + 1) ps)
point_next old line blanked new ps i d h k e f g =
    g ∙ (ap (λ (t : List ℕ). t ++ point_text (get_or ps i d)) (f ∙ ap (λ (t : List ℕ). t ++ 32 ∷ []) e)
    ∙ (sym (three old (points_text (take i ps)) (32 ∷ []) (point_text (get_or ps i d)))
    ∙ (ap (λ (t : List ℕ). old ++ t) (sym (point_more (take i ps) (get_or ps i d) (some_taken ps i h k)))
    ∙ ap (λ (qs : List Pt). old ++ points_text qs) (sym (take_more ps i d k)))))
