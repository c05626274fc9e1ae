-- Tests joined by "or", and whether a number is in a list.
use Rattle.std.proofs.Common.{◌≡◌, ◌⊎◌, inl, inr, ℕ, Bool, true, false, ◌||◌, ◌==◌, List, [], ◌∷◌, refl, sym}
use Rattle.std.proofs.lemmas.Bool.{eqb-true, eq-eqb}
use Rattle.std.specs.List.{list_any}
use Rattle.std.specs.Prelude.{◌↔◌}
use Rattle.spot_terms.specs.Lists.{Includes}

pub or_later : (b x y : Bool) → (x ≡ true → y ≡ true) → (b || x) ≡ true → (b || y) ≡ true
or_later true x y f h = refl
or_later false x y f h = f h

pub or_second : (b x : Bool) → x ≡ true → (b || x) ≡ true
or_second true x h = refl
or_second false x h = h

pub or_first : (b x : Bool) → b ≡ true → (b || x) ≡ true
or_first true x h = refl
or_first false x h = cc

pub either : (a b : Bool) → (a || b) ≡ true → (a ≡ true) ⊎ (b ≡ true)
either true b h = inl refl
either false b h = inr h

pub any_includes : (xs : List ℕ) (n : ℕ) → ((list_any (λ i. i == n) xs ≡ true) ↔ Includes xs n)
any_includes [] n = ((λ t. cc), (λ i. absurd i))
any_includes (x ∷ xs) n = (
  (λ t. elim (either (x == n) (list_any (λ i. i == n) xs) t) [ inl e ↦ inl (sym (eqb-true x n e)) | inr r ↦ inr ((any_includes xs n).0 r) ]),
  (λ i. elim i [ inl e ↦ or_first (x == n) (list_any (λ i. i == n) xs) (eq-eqb x n (sym e)) | inr r ↦ or_second (x == n) (list_any (λ i. i == n) xs) ((any_includes xs n).1 r) ]),
)
