-- The items of a list that pass a test, by their rank.
use Rattle.std.proofs.Common.{◌≡◌, ◌∙◌, ℕ, zero, suc, ◌+◌, ◌*◌, ◌%◌, ◌-◌, ◌<◌, ◌≤◌, inl, inr, ◌⊎◌, List, [], ◌∷◌, ◌++◌, filter, length, take, get_or, Bool, true, false, Some, refl, sym, ap, subst, arith, cond, leb, leb-true, leb-false, length-append}
use Rattle.std.specs.Prelude.{nat_le, slice_get, slice_index_or}
use Rattle.std.specs.List.Sorted.{IsNonDecreasingBy, IsPartitionPoint}
use Rattle.std.proofs.lemmas.Bool.Decides.{nat_tests}
use Rattle.std.proofs.lemmas.List.{take_all}
use Rattle.std.proofs.lemmas.List.Filters.{length-filter_more}
use Rattle.std.proofs.lemmas.List.Sorted.{IsNonDecreasingBy-from_default}
use Rattle.spot_terms.proofs.Orders.{below_or_here}
use Rattle.spot_terms.proofs.Places.{same_index}
use Rattle.participants.specs.Places.{places_in, count_before, IsCounted, AreCounted, no_interval, PlaceTable}
use Rattle.participants.specs.declared.places.Interval.{Interval}
use Rattle.participants.specs.declared.places.Place.{Place}
use Rattle.spot_terms.proofs.ListLemmas.{filter_short}

-- an item that passes stands at the rank of as many as pass before it
pub rank_found : {X : Type 0} (test : X → Bool) (xs : List X) (i r : ℕ) (x : X) → i < length xs → x ≡ get_or xs i x → test x ≡ true → length (filter test (take i xs)) ≡ r → slice_get (filter test xs) r ≡ Some x
rank_found test [] i r x h e t n = absurd (omega (arith, h))
rank_found test (y ∷ xs) zero r x h e t n = first (test y) r (filter test xs) (subst (λ z. test z ≡ true) e t) n
  where
    first : (b : Bool) (r : ℕ) (ys : List _) → b ≡ true → 0 ≡ r → slice_get (cond b (y ∷ ys) ys) r ≡ Some x
    first true zero ys s n = ap Some (sym e)
    first true (suc r) ys s n = absurd (omega (arith, n))
    first false r ys s n = cc
rank_found test (y ∷ xs) (suc i) r x h e t n = later (test y) r (filter test (take i xs)) (filter test xs) n (λ s m. rank_found test xs i s x (omega (arith, h)) e t m)
  where
    later : (b : Bool) (r : ℕ) (zs ys : List _) → length (cond b (y ∷ zs) zs) ≡ r → ((s : ℕ) → length zs ≡ s → slice_get ys s ≡ Some x) → slice_get (cond b (y ∷ ys) ys) r ≡ Some x
    later true zero zs ys n f = absurd (omega (arith, n))
    later true (suc r) zs ys n f = f r (omega (arith, n))
    later false r zs ys n f = f r n

front_or : {X : Type 0} (xs ys : List X) (j : ℕ) (d : X) → j < length xs → slice_index_or (xs ++ ys) j d ≡ slice_index_or xs j d
front_or [] ys j d h = absurd (omega (arith, h))
front_or (x ∷ xs) ys zero d h = refl
front_or (x ∷ xs) ys (suc j) d h = front_or xs ys j d (omega (arith, h))

last_or : {X : Type 0} (xs : List X) (x : X) (j : ℕ) (d : X) → j ≡ length xs → slice_index_or (xs ++ x ∷ []) j d ≡ x
last_or [] x zero d h = refl
last_or [] x (suc j) d h = absurd (omega (arith, h))
last_or (y ∷ xs) x zero d h = absurd (omega (arith, h))
last_or (y ∷ xs) x (suc j) d h = last_or xs x j d (omega (arith, h))

-- ---- numbers that rise

keeps_less : {X : Type 0} (b : Bool) (x : X) (ys zs : List X) → length ys ≤ length zs → length (cond b (x ∷ ys) ys) ≤ length (cond b (x ∷ zs) zs)
keeps_less true x ys zs h = omega (arith, h)
keeps_less false x ys zs h = h

-- a longer front has no fewer items that pass
front_grows : {X : Type 0} (test : X → Bool) (xs : List X) (i j : ℕ) → i ≤ j → length (filter test (take i xs)) ≤ length (filter test (take j xs))
front_grows test [] zero j h = omega arith
front_grows test [] (suc i) j h = omega arith
front_grows test (x ∷ xs) zero j h = omega arith
front_grows test (x ∷ xs) (suc i) zero h = absurd (omega (arith, h))
front_grows test (x ∷ xs) (suc i) (suc j) h = keeps_less (test x) x (filter test (take i xs)) (filter test (take j xs)) (front_grows test xs i j (omega (arith, h)))

module _ (numbers : List ℕ) (most p : ℕ) (some : 0 < length numbers) (first : slice_index_or numbers 0 0 ≤ most) (within : p ≤ length numbers)
    (point : IsPartitionPoint (λ n. leb n most ≡ true) (λ n. leb n most ≡ false) numbers p) where
  -- the first number isn't above the bound, so that there is a last such
  pub not_none : 0 < p
  not_none = positive p (λ e. let above = leb-false (slice_index_or numbers 0 0) most (point.1 0 0 (omega (arith, e)) some) in omega (arith, above, first))
    where
      positive : (p : ℕ) → (p ≡ 0 → ⊥) → 0 < p
      positive zero f = absurd (f refl)
      positive (suc p) f = omega arith

  pub last_within : p - 1 < length numbers
  last_within = let n = not_none in omega (arith, n, within)

  pub last_below : slice_index_or numbers (p - 1) 0 ≤ most
  last_below = let n = not_none in leb-true (slice_index_or numbers (p - 1) 0) most (point.0 (p - 1) 0 (omega arith) (omega (arith, n)))

  pub next_above : p - 1 + 1 < length numbers → most < slice_index_or numbers (p - 1 + 1) 0
  next_above h = let n = not_none in leb-false (slice_index_or numbers (p - 1 + 1) 0) most (point.1 (p - 1 + 1) 0 (omega (arith, n)) h)

-- ---- the places of an interval

module _ (places : List Place) (interval : ℕ) where
  early_true : (first : ℕ) → first ≤ interval → nat_le first interval ≡ true
  early_true first h = grind (arith, nat_tests)

  late_false : (first : ℕ) → interval < first → nat_le first interval ≡ false
  late_false first h = grind (arith, nat_tests)

  -- one more place, which the interval has
  pub one_in : (i : ℕ) (d : Place) → i < length places → (get_or places i d).first ≤ interval → length (places_in interval (take (i + 1) places)) ≡ length (places_in interval (take i places)) + 1
  one_in i d h early = length-filter_more (λ (y : Place). nat_le y.first interval) places i d h
      ∙ ap (λ (b : Bool). length (places_in interval (take i places)) + cond b 1 0) (early_true (get_or places i d).first early)

  -- one more place, which it doesn't have
  pub one_out : (i : ℕ) (d : Place) → i < length places → interval < (get_or places i d).first → length (places_in interval (take (i + 1) places)) ≡ length (places_in interval (take i places))
  one_out i d h late = length-filter_more (λ (y : Place). nat_le y.first interval) places i d h
      ∙ (ap (λ (b : Bool). length (places_in interval (take i places)) + cond b 1 0) (late_false (get_or places i d).first late)
      ∙ (let z : length (places_in interval (take i places)) + 0 ≡ length (places_in interval (take i places)) = omega arith in z))

  pub place_got : (i r : ℕ) (x : Place) → i < length places → x ≡ get_or places i x → x.first ≤ interval → length (places_in interval (take i places)) ≡ r → slice_get (places_in interval places) r ≡ Some x
  place_got i r x h e early n = rank_found (λ (y : Place). nat_le y.first interval) places i r x h e (early_true x.first early) n

  -- the rank is passed at the end
  pub none_left : (i left rank : ℕ) → length places ≤ i → length (places_in interval (take i places)) + left ≡ rank → rank < length (places_in interval places) → ⊥
  none_left i left rank past n below = let e : length (places_in interval (take i places)) ≡ length (places_in interval places) = ap (λ (xs : List Place). length (places_in interval xs)) (take_all i places past) in omega (arith, e, n, below)

  -- ---- counts before blocks

  -- the places up to the i-th are counted, and each block that begins before it has its number
  pub record CountedSoFar (i count : ℕ) (before : List ℕ) : Type 0 where
    pub count_is : count ≡ count_before places interval i
    pub few : count ≤ i
    pub all : i ≤ length before * 16
    pub needed : length before * 16 < i + 16
    pub before_is : (b : ℕ) → b < length before → slice_index_or before b 0 ≡ count_before places interval (b * 16)

  -- the same with the block that the i-th place is of
  pub record CountedWithBlock (i count : ℕ) (before : List ℕ) : Type 0 where
    pub count_is : count ≡ count_before places interval i
    pub few : count ≤ i
    pub all : i < length before * 16
    pub needed : length before * 16 ≤ i + 16
    pub before_is : (b : ℕ) → b < length before → slice_index_or before b 0 ≡ count_before places interval (b * 16)

  pub none_counted : (before : List ℕ) → before ≡ [] → CountedSoFar 0 0 before
  none_counted before e = subst (λ (ns : List ℕ). CountedSoFar 0 0 ns) (sym e) (record { count_is = refl; few = omega arith; all = omega arith; needed = omega arith; before_is = λ b h. absurd (omega (arith, h)) })

  pub block_begins : (i count : ℕ) (before more : List ℕ) → i % 16 ≡ 0 → more ≡ before ++ count ∷ [] → CountedSoFar i count before → CountedWithBlock i count more
  block_begins i count before more e m c =
      let at : i ≡ length before * 16 = (let a = c.all in let n = c.needed in omega (arith, e, a, n)) in
      let long : length (before ++ count ∷ []) ≡ length before + 1 = length-append before (count ∷ []) in
      subst (λ (ns : List ℕ). CountedWithBlock i count ns) (sym m) (record {
        count_is = c.count_is;
        few = c.few;
        all = omega (arith, at, long);
        needed = omega (arith, at, long);
        before_is = λ b less. elim (below_or_here b (length before) (omega (arith, long, less))) [
          | inl early ↦ front_or before (count ∷ []) b 0 early ∙ c.before_is b early
          | inr here ↦ last_or before count b 0 here ∙ (c.count_is ∙ ap (count_before places interval) (at ∙ ap (λ (n : ℕ). n * 16) (sym here)))
        ];
      })

  pub block_goes_on : (i count : ℕ) (before : List ℕ) → (i % 16 ≡ 0 → ⊥) → CountedSoFar i count before → CountedWithBlock i count before
  block_goes_on i count before e c = record {
    count_is = c.count_is;
    few = c.few;
    all = not_at (i % 16) refl e;
    needed = (let n = c.needed in omega (arith, n));
    before_is = c.before_is;
  }
    where
      not_at : (r : ℕ) → r ≡ i % 16 → (i % 16 ≡ 0 → ⊥) → i < length before * 16
      not_at zero q f = absurd (f (sym q))
      not_at (suc r) q f = let a = c.all in omega (arith, q, a)

  pub counted_out : (i count : ℕ) (before : List ℕ) (d : Place) → i < length places → interval < (get_or places i d).first → CountedWithBlock i count before → CountedSoFar (i + 1) count before
  counted_out i count before d h late c = record {
    count_is = c.count_is ∙ sym (one_out i d h late);
    few = (let f = c.few in omega (arith, f));
    all = (let a = c.all in omega (arith, a));
    needed = (let n = c.needed in omega (arith, n));
    before_is = c.before_is;
  }

  pub counted_in : (i count : ℕ) (before : List ℕ) (d : Place) → i < length places → (get_or places i d).first ≤ interval → CountedWithBlock i count before → CountedSoFar (i + 1) (count + 1) before
  counted_in i count before d h early c = record {
    count_is = (let m = one_in i d h early in let n = c.count_is in omega (arith, m, n));
    few = (let f = c.few in omega (arith, f));
    all = (let a = c.all in omega (arith, a));
    needed = (let n = c.needed in omega (arith, n));
    before_is = c.before_is;
  }

  pub all_counted : (counted : Interval) → CountedSoFar (length places) counted.count counted.before → IsCounted places interval counted
  all_counted counted c = record {
    count = c.count_is ∙ ap (λ (xs : List Place). length (places_in interval xs)) (take_all (length places) places (omega arith));
    all = c.all;
    needed = c.needed;
    before = c.before_is;
  }

  pub count_small : length (places_in interval places) ≤ length places
  count_small = filter_short (λ (y : Place). nat_le y.first interval) places

  -- ---- the block of a rank

  module _ (counted : Interval) (is : IsCounted places interval counted) where
    pub counts_rise : IsNonDecreasingBy (λ (n : ℕ). n) counted.before
    counts_rise = IsNonDecreasingBy-from_default (λ (n : ℕ). n) counted.before 0 (λ i j h less.
        let a = is.before i (omega (arith, h, less)) in
        let b = is.before j less in
        let grows : count_before places interval (i * 16) ≤ count_before places interval (j * 16) = front_grows (λ (y : Place). nat_le y.first interval) places (i * 16) (j * 16) (omega (arith, h)) in
        omega (arith, a, b, grows))

    module _ (rank : ℕ) (below : rank < length (places_in interval places)) where
      pub some_counts : 0 < length counted.before
      some_counts = let a = is.all in let s = count_small in omega (arith, a, s, below)

      pub first_count : slice_index_or counted.before 0 0 ≤ rank
      first_count = let a : slice_index_or counted.before 0 0 ≡ 0 = is.before 0 some_counts in omega (arith, a)

      -- the block ends behind the place of the rank
      pub block_holds : (block to : ℕ) → block < length counted.before → (block + 1 < length counted.before → rank < slice_index_or counted.before (block + 1) 0)
          → to ≤ length places → (to ≡ block * 16 + 16) ⊎ (length places ≤ to) → rank < count_before places interval to
      block_holds block to inside next short (inr end) = subst (λ (xs : List Place). rank < length (places_in interval xs)) (sym (take_all to places end)) below
      block_holds block to inside next short (inl is_to) = elim (below_or_here (block + 1) (length counted.before) (omega (arith, inside))) [
        | inl early ↦ (let n = next early in let b = is.before (block + 1) early in let e : to ≡ (block + 1) * 16 = omega (arith, is_to) in
            subst (λ (i : ℕ). rank < count_before places interval i) (sym e) (omega (arith, n, b)))
        | inr here ↦ (let a = is.all in subst (λ (xs : List Place). rank < length (places_in interval xs)) (sym (take_all to places (omega (arith, a, here, is_to)))) below)
      ]

-- ---- all intervals

-- an interval of the table is counted
pub one_of_counted : (places : List Place) (intervals : List Interval) (table : PlaceTable) (interval : ℕ) (counted : Interval) → (record { places = places; intervals = length intervals }) ≡ table
    → interval < table.intervals → counted ≡ get_or intervals interval counted → AreCounted places intervals → IsCounted places interval counted
one_of_counted places intervals table interval counted view below is are =
    let inside : interval < length intervals = subst (λ (t : PlaceTable). interval < t.intervals) (sym view) below in
    subst (λ (k : Interval). IsCounted places interval k) (sym (is ∙ same_index intervals interval interval counted no_interval inside refl)) (are.each interval inside)

pub no_counts : (places : List Place) (intervals : List Interval) → intervals ≡ [] → AreCounted places intervals
no_counts places intervals e = subst (λ (ms : List Interval). AreCounted places ms) (sym e) (record { each = λ m h. absurd (omega (arith, h)) })

pub one_more_counted : (places : List Place) (intervals more : List Interval) (interval : ℕ) (counted : Interval) → interval ≡ length intervals → more ≡ intervals ++ counted ∷ [] → IsCounted places interval counted → AreCounted places intervals → AreCounted places more
one_more_counted places intervals more interval counted e f m are = subst (λ (ms : List Interval). AreCounted places ms) (sym f) (record {
  each = λ j less. elim (below_or_here j (length intervals) (let n : length (intervals ++ counted ∷ []) ≡ length intervals + 1 = length-append intervals (counted ∷ []) in omega (arith, n, less))) [
    | inl before ↦ subst (λ (k : Interval). IsCounted places j k) (sym (front_or intervals (counted ∷ []) j no_interval before)) (are.each j before)
    | inr here ↦ subst (λ (k : Interval). IsCounted places j k) (sym (last_or intervals counted j no_interval here)) (subst (λ (n : ℕ). IsCounted places n counted) (e ∙ sym here) m)
  ];
})
