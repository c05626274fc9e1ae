-- Lists of lengths, as they are made to begin with.
use Rattle.std.proofs.Common.{◌≡◌, inl, inr, ℕ, ◌+◌, arith, refl, sym, ◌∙◌, subst, List, [], ◌∷◌, ◌++◌, length, length-append}
use Rattle.std.specs.Prelude.{slice_get, Some, None, Option}
use Rattle.std.proofs.lemmas.Option.{none-some, same_Some}
use Rattle.lane_paths.specs.Edges.{AreFirst, AreNone}
use Rattle.spot_terms.proofs.ItemPlaces.{get_last, get_either}

-- an empty list has no length
pub none_there : (i m : ℕ) → slice_get {X = Option ℕ} [] i ≡ Some (Some m) → ⊥
none_there i m e = none-some (Some m) e

-- of no items
pub none_none : (lengths : List (Option ℕ)) → lengths ≡ [] → AreNone 0 lengths
none_none lengths e = subst (λ (z : List (Option ℕ)). AreNone 0 z) (sym e) (record { count = refl; none = λ i m g. none_there i m g })

-- of one more item
pub none_more : (n : ℕ) (lengths after : List (Option ℕ)) → AreNone n lengths → after ≡ lengths ++ None ∷ [] → AreNone (n + 1) after
none_more n lengths after k e = subst (λ (z : List (Option ℕ)). AreNone (n + 1) z) (sym e) (record {
  count = let c = k.count in let l : length (lengths ++ None ∷ []) ≡ length lengths + 1 = length-append lengths (None ∷ []) in omega (arith, c, l);
  none = λ i m g. elim (get_either lengths i None (Some m) g) [ inl h ↦ k.none i m h | inr (last, is) ↦ none-some m (sym is) ];
})

-- after them the start
pub first_last : (n : ℕ) (lengths after : List (Option ℕ)) → AreNone (n + n) lengths → after ≡ lengths ++ Some 0 ∷ [] → AreFirst n after
first_last n lengths after k e = subst (λ (z : List (Option ℕ)). AreFirst n z) (sym e) (record {
  count = let c = k.count in let l : length (lengths ++ Some 0 ∷ []) ≡ length lengths + 1 = length-append lengths (Some 0 ∷ []) in omega (arith, c, l);
  only = λ i m g. elim (get_either lengths i (Some 0) (Some m) g) [
    | inl h ↦ absurd (k.none i m h)
    | inr (last, is) ↦ (last ∙ k.count, same_Some m 0 is)
  ];
  start = get_last lengths (n + n) (Some 0) (sym k.count);
})
