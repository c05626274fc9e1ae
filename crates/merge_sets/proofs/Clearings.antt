-- Cells that are emptied one after another.
use Rattle.std.proofs.Common.{◌≡◌, ◌∙◌, ◌⊎◌, ℕ, zero, suc, ◌+◌, ◌≤◌, ◌<◌, arith, ap, sym, refl, subst, List, [], ◌∷◌, length, inl, inr, false}
use Rattle.std.specs.Prelude.{Some, slice_get, slice_set}
use Rattle.std.proofs.lemmas.Option.{none-some, same_Some}
use Rattle.merge_sets.specs.Cells.{IsCleared}
use Rattle.merge_sets.specs.declared.cells.Cell.{Cell}
use Rattle.spot_terms.proofs.ItemPlaces.{get_set_either}

pub cleared_none : (old : List Cell) → IsCleared 0 old old
cleared_none old = record { count = refl; first = λ i c l got. absurd (omega (arith, l)); past = λ i h. refl }

pub cleared_more : (n : ℕ) (old now : List Cell) (d : Cell) → IsCleared n old now → n < length now → d.taken ≡ false → IsCleared (n + 1) old (slice_set now n d)
cleared_more n old now d s within empty = record {
  count = length_set now n d ∙ s.count;
  first = λ i c l got. elim (get_set_either now n i d within) [
    | inl here ↦ subst (λ (z : Cell). z.taken ≡ false) (same_Some d c (sym here.1 ∙ got)) empty
    | inr there ↦ s.first i c (less i l there.0) (sym there.1 ∙ got)
  ];
  past = λ i h. elim (get_set_either now n i d within) [
    | inl here ↦ absurd (let e = here.0 in omega (arith, h, e))
    | inr there ↦ there.1 ∙ s.past i (omega (arith, h))
  ];
}
  where
    length_set : (xs : List Cell) (q : ℕ) (x : Cell) → length (slice_set xs q x) ≡ length xs
    length_set [] q x = refl
    length_set (y ∷ xs) zero x = refl
    length_set (y ∷ xs) (suc q) x = ap suc (length_set xs q x)

    less : (i : ℕ) → i < n + 1 → (n < i) ⊎ (i < n) → i < n
    less i l (inl a) = absurd (omega (arith, l, a))
    less i l (inr a) = a
