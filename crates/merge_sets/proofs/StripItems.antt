-- Strips, slot by slot.
use Rattle.std.proofs.Common.{◌≡◌, ◌∙◌, ◌⊎◌, ℕ, zero, suc, ◌+◌, ◌≤◌, ◌<◌, arith, ap, sym, refl, subst, List, [], ◌∷◌, inl, inr, length}
use Rattle.std.specs.Prelude.{Option, Some, None, IfSome, option_map, slice_get, slice_set}
use Rattle.std.proofs.lemmas.Option.{none-some, same_Some}
use lib.IntN.{ℤ, pos, ◌+ℤ◌}
use Rattle.spot_terms.specs.declared.plain.Pt.{Pt}
use Rattle.spot_terms.proofs.ItemPlaces.{get_set_either}
use Rattle.round_out.specs.declared.frames.FrameNumbers.{FrameNumbers}
use Rattle.merge_sets.specs.Cells.{AreEight, AreRows, AreSound, IsPartNumbers}
use Rattle.merge_sets.specs.Strips.{AreSoundRows, IsForgotten, JoinsParts, row_joined}
use Rattle.merge_sets.proofs.ColumnLists.{sound_greater}

length_set : {X : Type 0} (xs : List X) (q : ℕ) (x : X) → length (slice_set xs q x) ≡ length xs
length_set [] q x = refl
length_set (y ∷ xs) zero x = refl
length_set (y ∷ xs) (suc q) x = ap suc (length_set xs q x)

abbrev pub numbers_in : Option FrameNumbers → Option (List ℤ)
numbers_in r = option_map (λ f. f.n) r

-- ---- joined numbers make frames

sound_joined : (k : ℕ) (r part s : Option FrameNumbers) → numbers_in s ≡ row_joined r part → IfSome r (λ f. AreSound k f.n) → IfSome part (λ f. AreSound k f.n) → IfSome s (λ f. AreSound k f.n)
sound_joined k r part None e h g = tt
sound_joined k None None (Some f) e h g = absurd (none-some f.n (sym e))
sound_joined k (Some r) None (Some f) e h g = subst (AreSound k) (sym (same_Some f.n r.n e)) h
sound_joined k None (Some p) (Some f) e h g = subst (AreSound k) (sym (same_Some f.n p.n e)) g
sound_joined k (Some r) (Some p) (Some f) e h g = subst (AreSound k) (sym (same_Some f.n _ e)) (sound_greater k r.n p.n h g)

pub sound_item : (k : ℕ) (rows : List (Option FrameNumbers)) (j : ℕ) (r : Option FrameNumbers) → AreSoundRows k rows → slice_get rows j ≡ Some r → IfSome r (λ f. AreSound k f.n)
sound_item k rows j None h got = tt
sound_item k rows j (Some f) h got = h j f got

pub eight_item : (k : ℕ) (r : Option FrameNumbers) → IfSome r (λ f. AreSound k f.n) → IfSome r (λ f. AreEight f.n)
eight_item k None h = tt
eight_item k (Some f) h = h.eight

-- ---- parts that are joined

pub parts_none : (at : ℕ) (width first : ℤ) (k : ℕ) (p : List Pt) (old : List (Option FrameNumbers)) → AreSoundRows k old → JoinsParts at 0 width first k p old old
parts_none at width first k p old sound = record {
  count = refl;
  inside = λ j r l got. absurd (omega (arith, l));
  outside = λ i o. refl;
  sound = sound;
}

pub parts_more : (at n : ℕ) (width first : ℤ) (k : ℕ) (p : List Pt) (old now : List (Option FrameNumbers)) (r part s : Option FrameNumbers) → JoinsParts at n width first k p old now
    → slice_get now (at + n) ≡ Some r → IsPartNumbers width (first +ℤ pos n) k p part → IfSome part (λ f. AreSound k f.n) → numbers_in s ≡ row_joined r part → at + n < length now
    → JoinsParts at (n + 1) width first k p old (slice_set now (at + n) s)
parts_more at n width first k p old now r part s h g is sound e within = record {
  count = length_set now (at + n) s ∙ h.count;
  inside = λ j q l o. elim (get_set_either now (at + n) (at + j) s within) [
    | inl (same, here) ↦
        let j_is : j ≡ n = omega (arith, same) in
        let q_is : q ≡ r = same_Some q r (sym o ∙ ap (slice_get old) same ∙ sym (h.outside (at + n) (inr (omega arith))) ∙ g) in
        (s, here, (part, subst (λ (z : ℕ). IsPartNumbers width (first +ℤ pos z) k p part) (sym j_is) is, e ∙ ap (λ (z : Option FrameNumbers). row_joined z part) (sym q_is)))
    | inr (apart, there) ↦ let (t, got, more) = h.inside j q (less j l apart) o in (t, there ∙ got, more)
  ];
  outside = λ i o. elim (get_set_either now (at + n) i s within) [
    | inl (same, here) ↦ absurd (clash i o same)
    | inr (apart, there) ↦ there ∙ h.outside i (further i o)
  ];
  sound = λ i f got. elim (get_set_either now (at + n) i s within) [
    | inl (same, here) ↦ subst (λ (z : Option FrameNumbers). IfSome z (λ y. AreSound k y.n)) (same_Some s (Some f) (sym here ∙ got)) (sound_joined k r part s e (sound_item k now (at + n) r h.sound g) sound)
    | inr (apart, there) ↦ h.sound i f (sym there ∙ got)
  ];
}
  where
    less : (j : ℕ) → j < n + 1 → (at + n < at + j) ⊎ (at + j < at + n) → j < n
    less j l (inl a) = absurd (omega (arith, l, a))
    less j l (inr a) = omega (arith, a)

    clash : (i : ℕ) → (i < at) ⊎ (at + (n + 1) ≤ i) → i ≡ at + n → ⊥
    clash i (inl a) e = omega (arith, a, e)
    clash i (inr a) e = omega (arith, a, e)

    further : (i : ℕ) → (i < at) ⊎ (at + (n + 1) ≤ i) → (i < at) ⊎ (at + n ≤ i)
    further i (inl a) = inl a
    further i (inr a) = inr (omega (arith, a))

-- a part that is known
pub known_part : (m : ℕ) (width first : ℤ) (k : ℕ) (p : List Pt) (known : List (Option FrameNumbers)) (j : ℕ) (r : Option FrameNumbers) → AreRows m width first k p known → j < m → slice_get known j ≡ Some r
    → IsPartNumbers width (first +ℤ pos j) k p r × IfSome r (λ f. AreSound k f.n)
known_part m width first k p known j r are l got = let (q, found, part, sound) = are j l in
    let same : q ≡ r = same_Some q r (sym found ∙ got) in
    (subst (λ (z : Option FrameNumbers). IsPartNumbers width (first +ℤ pos j) k p z) same part, subst (λ (z : Option FrameNumbers). IfSome z (λ f. AreSound k f.n)) same sound)

-- ---- items that are taken out

pub forgotten_none : (from : ℕ) (old : List (Option FrameNumbers)) → IsForgotten from from old old
forgotten_none from old = record { count = refl; inside = λ j r a b got. absurd (omega (arith, a, b)); outside = λ j o. refl }

pub forgotten_more : (from n : ℕ) (old now : List (Option FrameNumbers)) → IsForgotten from n old now → from ≤ n → n < length now → IsForgotten from (n + 1) old (slice_set now n None)
forgotten_more from n old now h order within = record {
  count = length_set now n None ∙ h.count;
  inside = λ j r a b got. elim (get_set_either now n j None within) [
    | inl (same, here) ↦ sym (same_Some None r (sym here ∙ got))
    | inr (apart, there) ↦ h.inside j r a (less j b apart) (sym there ∙ got)
  ];
  outside = λ j o. elim (get_set_either now n j None within) [
    | inl (same, here) ↦ absurd (clash j o same)
    | inr (apart, there) ↦ there ∙ h.outside j (further j o)
  ];
}
  where
    less : (j : ℕ) → j < n + 1 → (n < j) ⊎ (j < n) → j < n
    less j l (inl a) = absurd (omega (arith, l, a))
    less j l (inr a) = a

    clash : (j : ℕ) → (j < from) ⊎ (n + 1 ≤ j) → j ≡ n → ⊥
    clash j (inl a) e = omega (arith, a, e, order)
    clash j (inr a) e = omega (arith, a, e)

    further : (j : ℕ) → (j < from) ⊎ (n + 1 ≤ j) → (j < from) ⊎ (n ≤ j)
    further j (inl a) = inl a
    further j (inr a) = inr (omega (arith, a))
