-- A list that turns left throughout and begins with the point before all others is a corner list.
use Rattle.std.proofs.Common.{◌≡◌, ℕ, suc, ◌<◌, arith, refl, sym, ap, subst, List, [], ◌∷◌, length, get_or, inl, inr}
use Rattle.std.specs.List.{AllByRecursion}
use Rattle.spot_terms.specs.declared.plain.Pt.{Pt}
use Rattle.spot_terms.specs.Hull.{Before, edges_to, IsCornerList}
use Rattle.convex_poly.specs.Turns.{TurnsLeft}
use Rattle.convex_poly.proofs.Corners.{IsBeside}
use Rattle.spot_terms.proofs.Places.{same_index, all_by_index, compare3}
use Rattle.convex_poly.proofs.Chains.{lt_turn}

-- the first point is before each other one
abbrev pub StartsFirst : List Pt → Type 0
StartsFirst vs = (k : ℕ) (d : Pt) → 0 < k → k < length vs → Before (get_or vs 0 d) (get_or vs k d)

-- what holds of each edge to the next point, and of the edge to the first
all_edges : (P : Pt × Pt → Type 0) (first : Pt) (vs : List Pt) → ((i : ℕ) (d : Pt) → suc i < length vs → P (get_or vs i d, get_or vs (suc i) d)) → ((i : ℕ) (d : Pt) → suc i ≡ length vs → P (get_or vs i d, first)) → AllByRecursion P (edges_to first vs)
all_edges P first [] h k = tt
all_edges P first (a ∷ []) h k = (k 0 a (omega arith), tt)
all_edges P first (a ∷ b ∷ vs) h k =
    (h 0 a (omega arith), all_edges P first (b ∷ vs) (λ i d l. h (suc i) d (omega arith)) (λ i d e. k (suc i) d (omega arith)))

beside_next : (vs : List Pt) → TurnsLeft vs → (i : ℕ) (d : Pt) → suc i < length vs → (k : ℕ) (e : Pt) → k < length vs → IsBeside (get_or vs k e) (get_or vs i d, get_or vs (suc i) d)
beside_next vs t i d h k e l =
    subst (λ z. IsBeside z (get_or vs i d, get_or vs (suc i) d)) (same_index vs k k d e l refl)
    (compare3 k i
    (λ less. inr (inr (lt_turn (get_or vs k d) (get_or vs i d) (get_or vs (suc i) d) (t k i (suc i) d less (omega arith) h))))
    (λ same. inl (ap (λ n. get_or vs n d) same))
    (λ more. compare3 k (suc i)
    (λ less. absurd (omega arith))
    (λ same. inr (inl (ap (λ n. get_or vs n d) same)))
    (λ far. inr (inr (t i (suc i) k d (omega arith) far l)))))

beside_closing : (vs : List Pt) → TurnsLeft vs → (i : ℕ) (d : Pt) → suc i ≡ length vs → (k : ℕ) (e : Pt) → k < length vs → IsBeside (get_or vs k e) (get_or vs i d, get_or vs 0 d)
beside_closing vs t i d h k e l =
    subst (λ z. IsBeside z (get_or vs i d, get_or vs 0 d)) (same_index vs k k d e l refl)
    (compare3 k i
    (λ less. compare3 0 k
    (λ between. inr (inr (lt_turn (get_or vs k d) (get_or vs i d) (get_or vs 0 d) (lt_turn (get_or vs 0 d) (get_or vs k d) (get_or vs i d) (t 0 k i d between less (omega arith))))))
    (λ same. inr (inl (ap (λ n. get_or vs n d) (sym same))))
    (λ never. absurd (omega arith)))
    (λ same. inl (ap (λ n. get_or vs n d) same))
    (λ more. absurd (omega arith)))

pub corner_list_of : (vs : List Pt) → 0 < length vs → StartsFirst vs → TurnsLeft vs → IsCornerList vs
corner_list_of [] h s t = absurd (omega arith)
corner_list_of (a ∷ rest) h s t = (
  all_by_index (Before a) rest (λ k d l. s (suc k) d (omega arith) (omega arith)),
  all_edges (λ e. AllByRecursion (λ c. IsBeside c e) (a ∷ rest)) a (a ∷ rest)
      (λ i d l. all_by_index (λ c. IsBeside c (get_or (a ∷ rest) i d, get_or (a ∷ rest) (suc i) d)) (a ∷ rest) (λ k e m. beside_next (a ∷ rest) t i d l k e m))
      (λ i d l. all_by_index (λ c. IsBeside c (get_or (a ∷ rest) i d, a)) (a ∷ rest) (λ k e m. beside_closing (a ∷ rest) t i d l k e m)),
)
