-- Rows one by one, turned round, and what a list gathers.
use Rattle.std.proofs.Common.{◌≡◌, ◌∙◌, ◌⊎◌, inl, inr, ℕ, ◌+◌, ◌<◌, List, [], ◌∷◌, ◌++◌, sym, subst, arith}
use Rattle.std.proofs.lemmas.List.{length_push}
use Rattle.std.specs.Prelude.{◌↔◌}
use Rattle.std.specs.List.{AllByRecursion}
use Rattle.spot_terms.specs.Lists.{Includes}
use Rattle.spot_terms.proofs.ListLemmas.{all_of, includes_back, includes_either, includes_front}
use Rattle.lanelets.specs.Listing.{AreBelow, AreColumns, AreLists, AreRows, Gathers, IsRowWith}
use Rattle.lanelets.proofs.NumberLists.{lists_as}
use Rattle.lanelets.proofs.Places.{get_pushed, place_of_item}
use Rattle.spot_terms.proofs.ItemPlaces.{item_at}

pub rows_next : (R : ℕ → ℕ → Type 0) (n m : ℕ) (rows after : List (List ℕ)) (row : List ℕ) → m ≡ n + 1 → after ≡ rows ++ row ∷ [] → AreRows R n rows → ((x : ℕ) → (Includes row x ↔ R n x)) → AreRows R m after
rows_next R n m rows after row e is a h = subst (AreRows R m) (sym is) (record {
  many = length_push rows row ∙ omega (arith, e, a.many);
  each = λ k one g x. elim (get_pushed rows row one k g) [
    | inl old ↦ a.each k one old x
    | inr new ↦ subst (λ (xs : List ℕ). Includes xs x ↔ R k x) (sym new.1) (subst (λ (i : ℕ). Includes row x ↔ R i x) (sym (new.0 ∙ a.many)) (h x))
  ];
})

pub rows_within : (R : ℕ → ℕ → Type 0) (n count : ℕ) (rows : List (List ℕ)) → AreRows R n rows → ((k x : ℕ) → R k x → x < count) → AllByRecursion (AreBelow count) rows
rows_within R n count rows a h = all_of (AreBelow count) rows (λ row i. let (k, g) = place_of_item rows row i in all_of (λ x. x < count) row (λ x j. h k x ((a.each k row g x).0 j)))

pub lists_of : (R : ℕ → ℕ → Type 0) (n count : ℕ) (rows columns : List (List ℕ)) → AreRows R n rows → ((k x : ℕ) → R k x → k < n) → AreColumns rows count columns → AreLists (λ x k. R k x) count columns
lists_of R n count rows columns a h turned = record {
  many = turned.many;
  each = λ x column g. lists_as (IsRowWith rows x) (λ k. R k x) column (λ k p. (a.each k p.0 p.1 x).0 p.2)
      (λ k r. let low : k < n = h k x r in let many = a.many in let (row, at) = item_at rows k (omega (arith, low, many)) in (row, at, (a.each k row at x).1 r)) (turned.each x column g);
}

-- ---- gathering

pub gathers_more : (P Q : ℕ → Type 0) (a b c : List ℕ) → Gathers P a b → Gathers Q b c → Gathers (λ x. P x ⊎ Q x) a c
gathers_more P Q a b c h k x = (
  (λ i. elim ((k x).0 i) [ inl j ↦ elim ((h x).0 j) [ inl old ↦ inl old | inr p ↦ inr (inl p) ] | inr q ↦ inr (inr q) ]),
  (λ s. elim s [ inl old ↦ (k x).1 (inl ((h x).1 (inl old))) | inr t ↦ elim t [ inl p ↦ (k x).1 (inl ((h x).1 (inr p))) | inr q ↦ (k x).1 (inr q) ] ]),
)

pub gathers_list : (a b list : List ℕ) → b ≡ a ++ list → Gathers (Includes list) a b
gathers_list a b list e = subst (Gathers (Includes list) a) (sym e) (λ x. (includes_either a list x, λ s. elim s [ inl i ↦ includes_front a list x i | inr j ↦ includes_back a list x j ]))

pub gathers_as : (P Q : ℕ → Type 0) (a b : List ℕ) → ((x : ℕ) → P x → Q x) → ((x : ℕ) → Q x → P x) → Gathers P a b → Gathers Q a b
gathers_as P Q a b to from h x = (
  (λ i. elim ((h x).0 i) [ inl old ↦ inl old | inr p ↦ inr (to x p) ]),
  (λ s. elim s [ inl old ↦ (h x).1 (inl old) | inr q ↦ (h x).1 (inr (from x q)) ]),
)

pub gathered : (P : ℕ → Type 0) (a b : List ℕ) (x : ℕ) → a ≡ [] → Gathers P a b → (Includes b x ↔ P x)
gathered P a b x e h = let g : Gathers P [] b = subst (λ (xs : List ℕ). Gathers P xs b) e h in ((λ i. elim ((g x).0 i) [ inl none ↦ absurd none | inr p ↦ p ]), (λ p. (g x).1 (inr p)))

pub both_ways : (A B C : Type 0) → (A ↔ B) → (B ↔ C) → (A ↔ C)
both_ways A B C f g = ((λ a. g.0 (f.0 a)), (λ c. f.1 (g.1 c)))
