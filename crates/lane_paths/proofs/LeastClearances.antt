-- Steps of the loops that find the least clearance.
use Rattle.std.proofs.Common.{◌≡◌, ℕ, ◌+◌, ◌*◌, ◌≤◌, ◌<◌, min, arith, refl, sym, subst, List, [], ◌∷◌, take, drop, length, slice_index_or, ◌⊎◌, inl, inr}
use Rattle.std.proofs.lemmas.Int.{ints}
use Rattle.std.proofs.lemmas.List.{take-append-drop, take_more, take_all}
use Rattle.std.specs.List.{AllByRecursion}
use Rattle.std.specs.Prelude.{nat_abs}
use lib.IntN.{ℤ, pos, ◌+ℤ◌, ◌*ℤ◌}
use lib.Signed.{◌≤ℤ◌}
use Rattle.convex_poly.specs.Vectors.{inner_product, IsShort}
use Rattle.convex_poly.proofs.Wide.{product_within}
use Rattle.spot_terms.specs.declared.plain.Pt.{Pt}
use Rattle.spot_terms.specs.Lists.{Includes}
use Rattle.spot_terms.proofs.ListLemmas.{all_of, includes_at, includes_front, includes_back, includes_either, includes_taken}
use Rattle.spot_terms.proofs.Orders.{natural_weaken, reflexive, below_or_at_least}
use Rattle.lane_paths.specs.Clearances.{StaysOff, IsClearance, IsLeastSize, IsLesserClearance, IsLeastClearance, ReachesTo}
use Rattle.lane_paths.proofs.ClearanceLaws.{off_down, off_first, off_swap, clearance_first}

-- ---- one way against the others

-- of no vectors it is the number itself
pub lesser_none : (least : ℕ) (u : Pt) → IsLesserClearance least u [] least
lesser_none least u = record { at_most = omega arith; all = λ v i. absurd i; one = inl refl }

-- the first i + 1 vectors have the first i and the one at place i
one_more : (u : Pt) (vectors : List Pt) (i : ℕ) (d : Pt) → i < length vectors → Includes (take i vectors) u ⊎ (u ≡ slice_index_or vectors i d) → Includes (take (i + 1) vectors) u
one_more u vectors i d h j = subst (λ (l : List Pt). Includes l u) (sym (take_more vectors i d h)) (elim j [
  | inl front ↦ includes_front (take i vectors) (slice_index_or vectors i d ∷ []) u front
  | inr e ↦ includes_back (take i vectors) (slice_index_or vectors i d ∷ []) u (inl e)
])

-- where the way stays off as far as the number, it is the number itself
pub lesser_same : (least : ℕ) (u v : Pt) → StaysOff u v least → IsLesserClearance least u (v ∷ []) least
lesser_same least u v o = record { at_most = omega arith; all = λ z i. only z i; one = inl refl }
  where
    only : (z : Pt) → Includes (v ∷ []) z → StaysOff u z least
    only z (inl e) = subst (λ (y : Pt). StaysOff u y least) (sym e) o
    only z (inr i) = absurd i

-- the lesser of the number and the clearance
pub lesser_clearance_is : (least : ℕ) (u v : Pt) (w now : ℕ) → IsClearance u v w → now ≡ min least w → IsLesserClearance least u (v ∷ []) now
lesser_clearance_is least u v w now s is = elim (below_or_at_least least w) [
  | inl l ↦ subst (λ (n : ℕ). IsLesserClearance least u (v ∷ []) n) (first least w now l is) (lesser_same least u v (off_down u v w least s.holds (natural_weaken least w l)))
  | inr g ↦ subst (λ (n : ℕ). IsLesserClearance least u (v ∷ []) n) (second least w now g is) (record { at_most = g; all = λ z i. only z i; one = inr (v, inl refl, s) })
]
  where
    first : (a b m : ℕ) → a < b → m ≡ min a b → a ≡ m
    first a b m l e = grind arith

    second : (a b m : ℕ) → b ≤ a → m ≡ min a b → b ≡ m
    second a b m l e = grind arith

    only : (z : Pt) → Includes (v ∷ []) z → StaysOff u z w
    only z (inl e) = subst (λ (y : Pt). StaysOff u y w) (sym e) s.holds
    only z (inr i) = absurd i

-- one more way, against which the least so far was held
pub lesser_then : (least : ℕ) (u : Pt) (vectors : List Pt) (i : ℕ) (d : Pt) (before now : ℕ) → i < length vectors → IsLesserClearance least u (take i vectors) before → IsLesserClearance before u (slice_index_or vectors i d ∷ []) now → IsLesserClearance least u (take (i + 1) vectors) now
lesser_then least u vectors i d before now h k s = record {
  at_most = let l = k.at_most in let m = s.at_most in omega (arith, l, m);
  all = λ v j. elim (includes_taken vectors i d v h j) [
    | inl front ↦ off_down u v before now (k.all v front) s.at_most
    | inr e ↦ s.all v (inl e)
  ];
  one = elim s.one [
    | inl e ↦ subst (λ (n : ℕ). (n ≡ least) ⊎ ((v : Pt) × Includes (take (i + 1) vectors) v × IsClearance u v n)) (sym e) (elim k.one [
      | inl f ↦ inl f
      | inr f ↦ inr (f.0, one_more f.0 vectors i d h (inl f.1), f.2)
    ])
    | inr f ↦ inr (f.0, one_more f.0 vectors i d h (here f.0 f.1), f.2)
  ];
}
  where
    here : (v : Pt) → Includes (slice_index_or vectors i d ∷ []) v → Includes (take i vectors) v ⊎ (v ≡ slice_index_or vectors i d)
    here v (inl e) = inr e
    here v (inr j) = absurd j

-- past the last place all are looked at
pub lesser_all : (least : ℕ) (u : Pt) (vectors : List Pt) (i w : ℕ) → length vectors ≤ i → IsLesserClearance least u (take i vectors) w → IsLesserClearance least u vectors w
lesser_all least u vectors i w h k = subst (λ (l : List Pt). IsLesserClearance least u l w) (take_all i vectors h) k

-- ---- the least squared distance of one way

-- what reaches so far reaches less far
pub reached_down : (w n : ℕ) (v : Pt) → n ≤ w → ReachesTo w v → ReachesTo n v
reached_down w n v h k = plain w n (inner_product v v) h k
  where
    plain : (w n : ℕ) (z : ℤ) → n ≤ w → pos w ≤ℤ z → pos n ≤ℤ z
    plain w n z h k = omega (arith, ints)

-- w is the squared distance of one of the vectors from 0, and at most that of the first i
pub record IsLeastSizeSoFar (vectors : List Pt) (i w : ℕ) : Type 0 where
  pub each : (v : Pt) → Includes (take i vectors) v → ReachesTo w v
  pub one : (v : Pt) × Includes vectors v × (pos w ≡ inner_product v v)

-- at first it is that of the first
pub size_none : (vectors : List Pt) (d : Pt) (w : ℕ) → 0 < length vectors → pos w ≡ inner_product (slice_index_or vectors 0 d) (slice_index_or vectors 0 d) → IsLeastSizeSoFar vectors 0 w
size_none vectors d w h e = record { each = λ v i. absurd i; one = (slice_index_or vectors 0 d, includes_at vectors 0 d h, e) }

-- the lesser of the least so far and that of the next
pub size_more : (vectors : List Pt) (i : ℕ) (d : Pt) (before w now : ℕ) → i < length vectors → IsLeastSizeSoFar vectors i before → pos w ≡ inner_product (slice_index_or vectors i d) (slice_index_or vectors i d) → now ≡ min before w → IsLeastSizeSoFar vectors (i + 1) now
size_more vectors i d before w now h k e is = let m = min_of before w now is in record {
  each = λ v j. elim (includes_taken vectors i d v h j) [
    | inl front ↦ reached_down before now v m.0 (k.each v front)
    | inr same ↦ subst (ReachesTo now) (sym same) (reached_down w now (slice_index_or vectors i d) m.1 (equal (inner_product (slice_index_or vectors i d) (slice_index_or vectors i d)) w e))
  ];
  one = elim m.2 [
    | inl old ↦ subst (λ (n : ℕ). (v : Pt) × Includes vectors v × (pos n ≡ inner_product v v)) (sym old) k.one
    | inr new ↦ subst (λ (n : ℕ). (v : Pt) × Includes vectors v × (pos n ≡ inner_product v v)) (sym new) (slice_index_or vectors i d, includes_at vectors i d h, e)
  ];
}
  where
    equal : (z : ℤ) (w : ℕ) → pos w ≡ z → pos w ≤ℤ z
    equal z w e = omega (arith, ints)

    min_of : (a b m : ℕ) → m ≡ min a b → (m ≤ a) × (m ≤ b) × ((m ≡ a) ⊎ (m ≡ b))
    min_of a b m e = grind arith

-- past the last place it is that of all
pub size_all : (vectors : List Pt) (i w : ℕ) → length vectors ≤ i → IsLeastSizeSoFar vectors i w → IsLeastSize vectors w
size_all vectors i w h k = record { each = λ v j. k.each v (subst (λ (l : List Pt). Includes l v) (sym (take_all i vectors h)) j); one = k.one }

-- ---- all vectors against each other

-- w is the clearance of two of the vectors, none is nearer, and no two come nearer of which one is among the first i
pub record IsLeastSoFar (vectors : List Pt) (i w : ℕ) : Type 0 where
  pub reached : (v : Pt) → Includes vectors v → ReachesTo w v
  pub all : (u v : Pt) → Includes (take i vectors) u → Includes vectors v → StaysOff u v w
  pub one : (u v : Pt) × Includes vectors u × Includes vectors v × IsClearance u v w

-- at first it is the least squared distance of a way from 0
pub least_none : (vectors : List Pt) (w : ℕ) → IsLeastSize vectors w → IsLeastSoFar vectors 0 w
least_none vectors w s = record {
  reached = s.each;
  all = λ u v i j. absurd i;
  one = let (v, i, e) = s.one in (v, v, i, i, clearance_first v v w e (reflexive (inner_product v v)));
}

-- a way is among the first i, or among the others
front_or_rest : (vectors : List Pt) (i : ℕ) (v : Pt) → Includes vectors v → Includes (take i vectors) v ⊎ Includes (drop i vectors) v
front_or_rest vectors i v j = includes_either (take i vectors) (drop i vectors) v (subst (λ (l : List Pt). Includes l v) (sym (take-append-drop i vectors)) j)

-- the others are vectors
rest_included : (vectors : List Pt) (i : ℕ) (v : Pt) → Includes (drop i vectors) v → Includes vectors v
rest_included vectors i v j = subst (λ (l : List Pt). Includes l v) (take-append-drop i vectors) (includes_back (take i vectors) (drop i vectors) v j)

-- so they reach as far
pub rest_reached : (vectors : List Pt) (i w : ℕ) → ((v : Pt) → Includes vectors v → ReachesTo w v) → AllByRecursion (ReachesTo w) (drop i vectors)
rest_reached vectors i w h = all_of (ReachesTo w) (drop i vectors) (λ v j. h v (rest_included vectors i v j))

-- the way at place i against the later ones: against the earlier ones it was looked at before
pub least_more : (vectors : List Pt) (i : ℕ) (d : Pt) (before now : ℕ) → i < length vectors → IsLeastSoFar vectors i before → IsLesserClearance before (slice_index_or vectors i d) (drop (i + 1) vectors) now → IsLeastSoFar vectors (i + 1) now
least_more vectors i d before now h k s = record {
  reached = λ v j. reached_down before now v s.at_most (k.reached v j);
  all = λ u v p q. elim (includes_taken vectors i d u h p) [
    | inl front ↦ off_down u v before now (k.all u v front q) s.at_most
    | inr e ↦ subst (λ (z : Pt). StaysOff z v now) (sym e) (here v (front_or_rest vectors (i + 1) v q))
  ];
  one = elim s.one [
    | inl e ↦ subst (λ (n : ℕ). (u v : Pt) × Includes vectors u × Includes vectors v × IsClearance u v n) (sym e) k.one
    | inr f ↦ (slice_index_or vectors i d, f.0, includes_at vectors i d h, rest_included vectors (i + 1) f.0 f.1, f.2)
  ];
}
  where
    at_itself : StaysOff (slice_index_or vectors i d) (slice_index_or vectors i d) before
    at_itself = off_first (slice_index_or vectors i d) (slice_index_or vectors i d) before (k.reached (slice_index_or vectors i d) (includes_at vectors i d h)) (reflexive (inner_product (slice_index_or vectors i d) (slice_index_or vectors i d)))

    here : (v : Pt) → Includes (take (i + 1) vectors) v ⊎ Includes (drop (i + 1) vectors) v → StaysOff (slice_index_or vectors i d) v now
    here v (inl front) = elim (includes_taken vectors i d v h front) [
      | inl j ↦ off_swap v (slice_index_or vectors i d) now (off_down v (slice_index_or vectors i d) before now (k.all v (slice_index_or vectors i d) j (includes_at vectors i d h)) s.at_most)
      | inr e ↦ subst (λ (z : Pt). StaysOff (slice_index_or vectors i d) z now) (sym e) (off_down (slice_index_or vectors i d) (slice_index_or vectors i d) before now at_itself s.at_most)
    ]
    here v (inr rest) = s.all v rest

-- past the last place all are looked at
pub least_all : (vectors : List Pt) (i w : ℕ) → length vectors ≤ i → IsLeastSoFar vectors i w → IsLeastClearance vectors w
least_all vectors i w h k = record { all = λ u v p q. k.all u v (subst (λ (l : List Pt). Includes l u) (sym (take_all i vectors h)) p) q; one = k.one }

-- ---- sizes

-- what a small way reaches to
pub small_reach : (v : Pt) (n : ℕ) → IsShort v → ReachesTo n v → n ≤ 2_000_000_000_000_000_000
small_reach v n h k = plain n (v.x *ℤ v.x) (v.y *ℤ v.y) (product_within v.x v.x 1_000_000_000 1_000_000_000 h.x h.x) (product_within v.y v.y 1_000_000_000 1_000_000_000 h.y h.y) k
  where
    plain : (n : ℕ) (s t : ℤ) → nat_abs s ≤ 1_000_000_000 * 1_000_000_000 → nat_abs t ≤ 1_000_000_000 * 1_000_000_000 → pos n ≤ℤ (s +ℤ t) → n ≤ 2_000_000_000_000_000_000
    plain n s t h k l = omega (arith, ints)
