-- Runs that begin one after another, parted by where they begin.
use Rattle.std.proofs.Common.{◌≡◌, ◌∙◌, ℕ, zero, suc, ◌+◌, ◌-◌, ◌/◌, ◌<◌, ◌≤◌, arith, refl, sym, ap, subst, inl, inr, ◌⊎◌, List, [], ◌∷◌, ◌++◌, length, take, drop, get_or, Some, w64, to_z, of_z}
use Rattle.std.specs.Prelude.{slice_get, nat_abs}
use Rattle.std.specs.List.{AllByRecursion}
use Rattle.std.proofs.lemmas.Int.{ints}
use Rattle.std.proofs.lemmas.List.{take-append-drop}
use Rattle.std.proofs.lemmas.Option.{same_Some, slice_get-get_or}
use lib.IntN.{ℤ, pos, ◌+ℤ◌, ◌*ℤ◌}
use lib.Signed.{◌≤ℤ◌, ◌<ℤ◌}
use Rattle.convex_poly.proofs.Wide.{small_back}
use Rattle.spot_terms.specs.Grid.{slot_low}
use Rattle.spot_terms.specs.Whole.{Within}
use Rattle.spot_terms.proofs.Places.{compare3}
use Rattle.spot_terms.proofs.Ring.{spread_left}
use Rattle.area_run.specs.Columns.{BeginInTurn, IsPartedAt, IsColumnOf}
use Rattle.spot_terms.proofs.Orders.{below_trans}

at_most_less : (a b c : ℤ) → a ≤ℤ b → b <ℤ c → a ≤ℤ c
at_most_less a b c h k = omega (arith, ints, h, k)

module _ (runs : List (ℤ × ℤ)) (x : ℤ) (m : ℕ) (d : ℤ × ℤ) (turn : BeginInTurn runs) (inside : m < length runs) where
  here : (i : ℕ) (r : ℤ × ℤ) → i ≡ m → slice_get runs i ≡ Some r → get_or runs m d ≡ r
  here i r e f = same_Some _ _ (sym (slice_get-get_or runs m d inside) ∙ ap (slice_get runs) (sym e) ∙ f)

  -- where run m begins before x, so do all up to it
  pub up_to : (get_or runs m d).0 <ℤ x → (i : ℕ) (r : ℤ × ℤ) → i < m + 1 → slice_get runs i ≡ Some r → r.0 <ℤ x
  up_to h i r k e = compare3 i m
      (λ less. below_trans r.0 (get_or runs m d).0 x (turn i m r (get_or runs m d) less e (slice_get-get_or runs m d inside)) h)
      (λ same. subst (λ (z : ℤ × ℤ). z.0 <ℤ x) (here i r same e) h)
      (λ more. absurd (omega (arith, k, more)))

  -- and where it doesn't, none from it on does
  pub from_on : x ≤ℤ (get_or runs m d).0 → (i : ℕ) (r : ℤ × ℤ) → m ≤ i → slice_get runs i ≡ Some r → x ≤ℤ r.0
  from_on h i r k e = compare3 i m
      (λ less. absurd (omega (arith, k, less)))
      (λ same. subst (λ (z : ℤ × ℤ). x ≤ℤ z.0) (here i r same e) h)
      (λ more. at_most_less x (get_or runs m d).0 r.0 h (turn m i (get_or runs m d) r more (slice_get-get_or runs m d inside) e))

-- ---- fronts and rests

all_front : (P : ℤ × ℤ → Type 0) (runs : List (ℤ × ℤ)) (n : ℕ) → ((i : ℕ) (r : ℤ × ℤ) → i < n → slice_get runs i ≡ Some r → P r) → AllByRecursion P (take n runs)
all_front P [] zero f = tt
all_front P [] (suc n) f = tt
all_front P (r ∷ runs) zero f = tt
all_front P (r ∷ runs) (suc n) f = (f 0 r (omega arith) refl, all_front P runs n (λ i s h e. f (suc i) s (omega (arith, h)) e))

all_rest : (P : ℤ × ℤ → Type 0) (runs : List (ℤ × ℤ)) (n : ℕ) → ((i : ℕ) (r : ℤ × ℤ) → n ≤ i → slice_get runs i ≡ Some r → P r) → AllByRecursion P (drop n runs)
all_rest P [] zero f = tt
all_rest P [] (suc n) f = tt
all_rest P (r ∷ runs) zero f = (f 0 r (omega arith) refl, all_rest P runs 0 (λ i s h e. f (suc i) s (omega arith) e))
all_rest P (r ∷ runs) (suc n) f = all_rest P runs n (λ i s h e. f (suc i) s (omega (arith, h)) e)

get_rest : (runs : List (ℤ × ℤ)) (n i : ℕ) → slice_get (drop n runs) i ≡ slice_get runs (n + i)
get_rest [] zero i = refl
get_rest [] (suc n) i = refl
get_rest (r ∷ runs) zero i = let e : i ≡ 0 + i = omega arith in ap (slice_get (r ∷ runs)) e
get_rest (r ∷ runs) (suc n) i = let e : suc (n + i) ≡ suc n + i = omega arith in get_rest runs n i ∙ ap (slice_get (r ∷ runs)) e

-- ---- the runs of a column

module _ (w col low high : ℤ) (runs : List (ℤ × ℤ)) (from to : ℕ) (wide : pos 0 <ℤ w) (is_low : low ≡ slot_low w col) (is_high : high ≡ slot_low w (col +ℤ pos 1))
    (a : IsPartedAt low runs from) (b : IsPartedAt high runs to) where
  low_first : low <ℤ high
  low_first = let s = spread_left col (pos 1) w in rw (is_low, is_high) (omega (arith, ints, wide, s))

  crossed : (r : ℤ × ℤ) → r.0 <ℤ low → high ≤ℤ r.0 → ⊥
  crossed r h k = let l = low_first in absurd (omega (arith, ints, h, k, l))

  pub in_order : from ≤ to
  in_order = go (cases to from)
    where
      cases : (m n : ℕ) → (n ≤ m) ⊎ (m < n)
      cases m n = grind arith

      go : (from ≤ to) ⊎ (to < from) → from ≤ to
      go (inl h) = h
      go (inr h) = let d : ℤ × ℤ = (pos 0, pos 0) in
          let inside : to < length runs = omega (arith, h, a.within) in
          let at = slice_get-get_or runs to d inside in
          absurd (crossed (get_or runs to d) (a.before to (get_or runs to d) h at) (b.behind to (get_or runs to d) (omega arith) at))

  pub is_column : IsColumnOf w col runs (take (to - from) (drop from runs))
  is_column = record {
    before = take from runs;
    behind = drop (to - from) (drop from runs);
    all = sym (ap (λ (z : List (ℤ × ℤ)). take from runs ++ z) (take-append-drop (to - from) (drop from runs)) ∙ take-append-drop from runs);
    left = subst (λ (z : ℤ). AllByRecursion (λ r. r.0 <ℤ z) (take from runs)) is_low (all_front (λ r. r.0 <ℤ low) runs from a.before);
    from = subst (λ (z : ℤ). AllByRecursion (λ r. z ≤ℤ r.0) (take (to - from) (drop from runs))) is_low
        (all_front (λ r. low ≤ℤ r.0) (drop from runs) (to - from) (λ i r h e. a.behind (from + i) r (omega arith) (sym (get_rest runs from i) ∙ e)));
    to = subst (λ (z : ℤ). AllByRecursion (λ r. r.0 <ℤ z) (take (to - from) (drop from runs))) is_high
        (all_front (λ r. r.0 <ℤ high) (drop from runs) (to - from) (λ i r h e. b.before (from + i) r (omega (arith, h)) (sym (get_rest runs from i) ∙ e)));
    right = subst (λ (z : ℤ). AllByRecursion (λ r. z ≤ℤ r.0) (drop (to - from) (drop from runs))) is_high
        (all_rest (λ r. high ≤ℤ r.0) (drop from runs) (to - from) (λ i r h e. let o = in_order in b.behind (from + i) r (omega (arith, h, o)) (sym (get_rest runs from i) ∙ e)));
  }

-- ---- the middle

pub half : (low high : ℕ) → low < high → low + (high - low) / 2 < high
half low high h = omega (arith, h)

-- ---- the borders of a column, as the code computes them

abbrev pub read : ℤ → ℤ
read z = to_z w64 (of_z w64 z)

small : (z : ℤ) → nat_abs z ≤ 100_000_000_000_000 → read z ≡ z
small z h = small_back z (omega (arith, h))

pub low_border : (w col : ℤ) → Within (pos 100_000) (pos 100_000_000) w → nat_abs col ≤ 50_000_000_000_000 → nat_abs (slot_low w col) ≤ 50_000_000_000_000 → read (read col *ℤ read w) ≡ slot_low w col
low_border w col wide near low =
    let a : read col ≡ col = small col (omega (arith, near)) in
    let b : read w ≡ w = small w (omega (arith, ints, wide.low, wide.high)) in
    ap (λ (z : ℤ). read (z *ℤ read w)) a ∙ ap (λ (z : ℤ). read (col *ℤ z)) b ∙ small (col *ℤ w) (omega (arith, low))

pub high_border : (w col : ℤ) → Within (pos 100_000) (pos 100_000_000) w → nat_abs col ≤ 50_000_000_000_000 → nat_abs (slot_low w (col +ℤ pos 1)) ≤ 50_000_000_000_000 → read (read (read col +ℤ pos 1) *ℤ read w) ≡ slot_low w (col +ℤ pos 1)
high_border w col wide near high =
    let a : read col ≡ col = small col (omega (arith, near)) in
    let next : nat_abs (col +ℤ pos 1) ≤ 100_000_000_000_000 = omega (arith, ints, near) in
    let b : read w ≡ w = small w (omega (arith, ints, wide.low, wide.high)) in
    ap (λ (z : ℤ). read (read (z +ℤ pos 1) *ℤ read w)) a ∙ ap (λ (z : ℤ). read (z *ℤ read w)) (small (col +ℤ pos 1) next) ∙ ap (λ (z : ℤ). read ((col +ℤ pos 1) *ℤ z)) b ∙ small ((col +ℤ pos 1) *ℤ w) (omega (arith, high))
