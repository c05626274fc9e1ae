-- The interval that a cell is reached in first, from its label and the reach lengths at the ends of the intervals.
use Rattle.std.proofs.Common.{◌≡◌, ◌∙◌, inl, inr, ℕ, zero, suc, ◌+◌, ◌*◌, ◌≤◌, ◌<◌, refl, ap, sym, arith, add-one, List, [], ◌∷◌, ◌++◌, length, map, get_or, mul-le-mul, nat_abs}
use Rattle.std.proofs.lemmas.List.{length-map, map-append}
use Rattle.std.proofs.lemmas.Option.{slice_get_read, get_or_from_slice_get}
use Rattle.std.specs.List.Sorted.{IsNonDecreasingBy}
use Rattle.std.specs.Prelude.{Option, Some, None, slice_get}
use Rattle.spot_terms.specs.Bodies.{IsLeast}
use Rattle.spot_terms.specs.Cells.{Lane, cells}
use Rattle.spot_terms.specs.LanePolygons.{reach_of, IsFirst, IsReachedIn, IsReached}
use Rattle.spot_terms.specs.Lists.{numbers_from, numbers_below}
use Rattle.spot_terms.specs.declared.plain.AccStart.{AccStart}
use Rattle.spot_terms.proofs.ListLemmas.{below-from, numbers_from_length}
use Rattle.spot_terms.proofs.Orders.{below_or_at_least}
use Rattle.spot_terms.proofs.Places.{same_index}
use Rattle.lane_paths.specs.Labels.{AreLabels, label_at}
use Rattle.lane_occupancy.specs.Reaches.{ends_at, IsWithin}
use Rattle.lane_occupancy.proofs.Paces.{reach_length_le}
use Rattle.spot_terms.proofs.Unique.{some_one}
use Rattle.spot_terms.proofs.ItemPlaces.{got_below}

-- ---- the first of some ends

-- the first ends are below the label
module _ (labels : List (Option ℕ)) (ends : List ℕ) (c label first : ℕ) (label_is : Some label ≡ label_at labels c) (below : (i d : ℕ) → i < first → get_or ends i d < label) where
  not_below : (i : ℕ) → IsWithin labels ends c i → first ≤ i
  not_below i w = elim (below_or_at_least i first) [
    | inr h ↦ h
    | inl h ↦ absurd (let same = some_one (label_at labels c) w.label label w.label_is (sym label_is) in let read = get_or_from_slice_get ends i w.end 0 w.end_is in let less = below i 0 h in omega (arith, same, read, less, w.low))
  ]

  pub first_within : first < length ends → ((i d : ℕ) → first ≤ i → i < length ends → label ≤ get_or ends i d) → IsLeast (IsWithin labels ends c) first
  first_within h above = record {
    holds = record {
      label = label;
      end = get_or ends first 0;
      label_is = sym label_is;
      end_is = slice_get_read ends (length ends) first (get_or ends first 0) refl h (same_index ends first first 0 (get_or ends first 0) h refl);
      low = above first 0 (omega arith) h;
    };
    least = not_below;
  }

  pub none_within : length ends ≤ first → (i : ℕ) → IsWithin labels ends c i → ⊥
  none_within h i w = let low = not_below i w in let high = got_below ends i w.end w.end_is in omega (arith, h, low, high)

-- ---- the ends of the intervals

from_at : (f : ℕ → ℕ) (m n i : ℕ) → i < n → slice_get (map f (numbers_from m n)) i ≡ Some (f (m + i))
from_at f m zero i h = absurd (omega (arith, h))
from_at f m (suc n) zero h = ap (λ k. Some (f k)) (let e : m ≡ m + 0 = omega arith in e)
from_at f m (suc n) (suc i) h = from_at f (m + 1) n i (omega (arith, h)) ∙ ap (λ k. Some (f k)) (let e : m + 1 + i ≡ m + suc i = omega arith in e)

next : (f : ℕ → ℕ) (n : ℕ) → map f (numbers_below (suc n)) ≡ map f (numbers_below n) ++ f n ∷ []
unfolding numbers_below
next f n = map-append f (numbers_below n) (n ∷ [])

-- one more end
pub next_end : (f : ℕ → ℕ) (n m e : ℕ) (was now : List ℕ) → m ≡ n + 1 → e ≡ f n → was ≡ map f (numbers_below n) → now ≡ was ++ e ∷ [] → now ≡ map f (numbers_below m)
next_end f n m e was now em ee ew en = rw (em, add-one, next f n) (en ∙ rw (ew, ee) refl)

pub no_ends : (s : AccStart) (speed k : ℕ) → ends_at s speed k 0 ≡ []
unfolding numbers_below
no_ends s speed k = refl

module _ (s : AccStart) (speed k steps : ℕ) where
  pub ends_length : length (ends_at s speed k steps) ≡ steps
  ends_length = length-map (numbers_below steps) (λ i. reach_of s speed ((i + 1) * k)) ∙ ap length (below-from steps) ∙ numbers_from_length 0 steps

  end_at : (i : ℕ) → i < steps → slice_get (ends_at s speed k steps) i ≡ Some (reach_of s speed ((i + 1) * k))
  end_at i h = ap (λ ns. slice_get (map (λ i. reach_of s speed ((i + 1) * k)) ns) i) (below-from steps) ∙ from_at (λ i. reach_of s speed ((i + 1) * k)) 0 steps i h ∙ ap (λ n. Some (reach_of s speed ((n + 1) * k))) (let e : 0 + i ≡ i = omega arith in e)

  reach_le : (i j : ℕ) → i ≤ j → reach_of s speed (i * k) ≤ reach_of s speed (j * k)
  reach_le i j h = reach_length_le speed (nat_abs s.a) (nat_abs s.v) (i * k) (j * k) (mul-le-mul h (let r : k ≤ k = omega arith in r))

  pub ends_rise : IsNonDecreasingBy (λ end. end) (ends_at s speed k steps)
  ends_rise i j d h l =
      let few = ends_length in
      let low = get_or_from_slice_get (ends_at s speed k steps) i (reach_of s speed ((i + 1) * k)) d (end_at i (omega (arith, h, l, few))) in
      let high = get_or_from_slice_get (ends_at s speed k steps) j (reach_of s speed ((j + 1) * k)) d (end_at j (omega (arith, l, few))) in
      rw (low, high) (reach_le (i + 1) (j + 1) (omega (arith, h)))

-- ---- cells

module _ (lanes : List Lane) (s : AccStart) (speed k steps : ℕ) (labels : List (Option ℕ)) (are : AreLabels lanes s.p (reach_of s speed (steps * k)) labels) where
  within_at : (c label i : ℕ) → label_at labels c ≡ Some label → i < steps → label ≤ reach_of s speed ((i + 1) * k) → IsWithin labels (ends_at s speed k steps) c i
  within_at c label i e h l = record { label = label; end = reach_of s speed ((i + 1) * k); label_is = e; end_is = end_at s speed k steps i h; low = l }

  -- the first interval that the code finds
  pub reached_in : (c i : ℕ) → IsLeast (IsWithin labels (ends_at s speed k steps) c) i → IsReachedIn lanes s speed k steps c i × (i < steps)
  reached_in c i h =
      let w = h.holds in
      let low : i < steps = (let l = got_below (ends_at s speed k steps) i w.end w.end_is in let few = ends_length s speed k steps in omega (arith, l, few)) in
      let end : w.end ≡ reach_of s speed ((i + 1) * k) = some_one (slice_get (ends_at s speed k steps) i) w.end (reach_of s speed ((i + 1) * k)) w.end_is (end_at s speed k steps i low) in
      let first : IsFirst s speed k w.label i = record {
        holds = rw end at w.low;
        least = λ q l. elim (below_or_at_least q i) [ inr m ↦ m | inl m ↦ h.least q (within_at c w.label q w.label_is (omega (arith, m, low)) l) ];
      } in
      ((w.label, (are.some c w.label w.label_is).0, first), low)

  -- and where it finds none there is none
  pub never_reached : (c : ℕ) → ((i : ℕ) → IsWithin labels (ends_at s speed k steps) c i → ⊥) → IsReached lanes s speed k steps c → ⊥
  never_reached c none r = go (label_at labels c) refl
    where
      label : ℕ
      label = r.1.0

      low : label ≤ reach_of s speed ((r.0 + 1) * k)
      low = r.1.2.holds

      go : (o : Option ℕ) → label_at labels c ≡ o → ⊥
      go None at = let above = are.none c at label r.1.1.holds in let most = reach_le s speed k steps (r.0 + 1) steps (omega (arith, r.2)) in omega (arith, above, low, most)
      go (Some n) at = let least = (are.some c n at).0.least label r.1.1.holds in none r.0 (within_at c n r.0 at r.2 (omega (arith, least, low)))
