-- The free runs of the rows of a box, listed one row behind the other.
use Rattle.std.proofs.Common.{◌≡◌, ◌∙◌, ℕ, zero, suc, ◌+◌, ◌-◌, ◌<◌, ◌≤◌, arith, refl, sym, ap, subst, List, [], ◌∷◌, ◌++◌, length, length-append, take, drop, Some}
use Rattle.std.specs.Prelude.{slice_get, nat_abs}
use Rattle.std.proofs.lemmas.Int.{ints}
use Rattle.std.proofs.lemmas.Option.{slice_get_within, same_Some}
use lib.IntN.{ℤ, pos, ◌+ℤ◌, ◌-ℤ◌}
use Rattle.spot_terms.specs.Courses.{Course, box_at}
use Rattle.spot_terms.specs.Grid.{slot}
use Rattle.spot_terms.specs.RowBoxes.{runs_bound}
use Rattle.spot_terms.specs.declared.plain.Pt.{Pt}
use Rattle.spot_terms.proofs.ItemPlaces.{get_front, get_last}
use Rattle.spot_terms.proofs.Places.{compare3}
use Rattle.carve.specs.RowSums.{sum_rows}
use Rattle.merge_sets.proofs.BoxCells.{reached, steps_below}
use Rattle.area_laws.specs.Rooms.{HasFewRuns, AreFewRuns}
use Rattle.area_run.specs.Rows.{AreRunsOf, AreRowsIn, AreAllRowsIn}
use Rattle.spot_terms.proofs.Orders.{plus_zero}

-- ---- sums over rows

shift : (a : ℤ) (n : ℕ) → (a +ℤ pos 1) +ℤ pos n ≡ a +ℤ pos (suc n)
shift a n = omega (arith, ints)

pub sum_last : (f : ℤ → ℕ) (a : ℤ) (n : ℕ) → sum_rows f a (suc n) ≡ sum_rows f a n + f (a +ℤ pos n)
sum_last f a zero = let e : f a ≡ f (a +ℤ pos 0) = ap f (sym (plus_zero a)) in omega (arith, e)
sum_last f a (suc n) =
    let e : sum_rows f (a +ℤ pos 1) (suc n) ≡ sum_rows f (a +ℤ pos 1) n + f ((a +ℤ pos 1) +ℤ pos n) = sum_last f (a +ℤ pos 1) n in
    let q : f ((a +ℤ pos 1) +ℤ pos n) ≡ f (a +ℤ pos (suc n)) = ap f (shift a n) in
    let r : sum_rows f a (suc (suc n)) ≡ f a + sum_rows f (a +ℤ pos 1) (suc n) = refl in
    let s : sum_rows f a (suc n) ≡ f a + sum_rows f (a +ℤ pos 1) n = refl in
    omega (arith, e, q, r, s)

pub sum_rises : (f : ℤ → ℕ) (a : ℤ) (m n : ℕ) → m ≤ n → sum_rows f a m ≤ sum_rows f a n
sum_rises f a zero n h = omega arith
sum_rises f a (suc m) zero h = absurd (omega (arith, h))
sum_rises f a (suc m) (suc n) h = let r = sum_rises f (a +ℤ pos 1) m n (omega (arith, h)) in omega (arith, r)

-- ---- parts of lists

front : {X : Type 0} (xs ys : List X) (from n : ℕ) → from + n ≤ length xs → take n (drop from (xs ++ ys)) ≡ take n (drop from xs)
front [] ys zero zero h = refl
front [] ys zero (suc n) h = absurd (omega (arith, h))
front [] ys (suc from) n h = absurd (omega (arith, h))
front (x ∷ xs) ys zero zero h = refl
front (x ∷ xs) ys zero (suc n) h = ap (λ zs. x ∷ zs) (front xs ys zero n (omega (arith, h)))
front (x ∷ xs) ys (suc from) n h = front xs ys from n (omega (arith, h))

whole : {X : Type 0} (xs : List X) → take (length xs) xs ≡ xs
whole [] = refl
whole (x ∷ xs) = ap (λ zs. x ∷ zs) (whole xs)

behind : {X : Type 0} (xs ys : List X) → take (length ys) (drop (length xs) (xs ++ ys)) ≡ ys
behind [] ys = whole ys
behind (x ∷ xs) ys = behind xs ys

past : (n m : ℕ) → (n + m) - n ≡ m
past n m = omega arith

-- ---- row by row

module _ (course : Course) (i : ℕ) (count : ℕ) (Hits : ℕ → Pt → Type 0) (range : ℕ → ℤ × ℤ) where
  abbrev pub bound : ℤ → ℕ
  bound = runs_bound course.w course.g (box_at course i) count range

  abbrev pub first : ℤ
  first = slot course.g (box_at course i).ylo

  pub no_rows : (free : List (ℤ × ℤ)) (ends : List (ℕ × ℕ)) → free ≡ [] → ends ≡ [] → AreRowsIn course i count Hits range free ends 0
  no_rows free ends e f = record {
    counted = ap length f;
    each = λ j h. absurd (omega (arith, h));
    few = let z : length free ≡ 0 = ap length e in omega (arith, z);
  }

  last_part : (free more runs : List (ℤ × ℤ)) → more ≡ free ++ runs → take ((length free + length runs) - length free) (drop (length free) more) ≡ runs
  last_part free more runs e =
      ap (λ (n : ℕ). take n (drop (length free) more)) (past (length free) (length runs)) ∙ ap (λ (zs : List (ℤ × ℤ)). take (length runs) (drop (length free) zs)) e ∙ behind free runs

  front_part : (free more runs : List (ℤ × ℤ)) (from to : ℕ) → more ≡ free ++ runs → from ≤ to → to ≤ length free → take (to - from) (drop from more) ≡ take (to - from) (drop from free)
  front_part free more runs from to e h k = ap (λ (zs : List (ℤ × ℤ)). take (to - from) (drop from zs)) e ∙ front free runs from (to - from) (omega (arith, h, k))

  longer_by : (free more runs : List (ℤ × ℤ)) → more ≡ free ++ runs → length more ≡ length free + length runs
  longer_by free more runs e = ap length e ∙ length-append free runs

  -- row j has its runs in the list
  abbrev pub HasRow : List (ℤ × ℤ) → List (ℕ × ℕ) → ℕ → Type 0
  HasRow free ends j = (from to : ℕ) × (slice_get ends j ≡ Some (from, to)) × (from ≤ to) × (to ≤ length free) × AreRunsOf course i count Hits range (first +ℤ pos j) (take (to - from) (drop from free))

  pub more_rows : (free more runs : List (ℤ × ℤ)) (ends longer : List (ℕ × ℕ)) (n : ℕ) (row : ℤ) → AreRowsIn course i count Hits range free ends n → row ≡ first +ℤ pos n → AreRunsOf course i count Hits range row runs
      → more ≡ free ++ runs → longer ≡ ends ++ (length free, length free + length runs) ∷ [] → AreRowsIn course i count Hits range more longer (n + 1)
  more_rows free more runs ends longer n row h at runs_are e f = record {
    counted = let l : length longer ≡ length ends + 1 = ap length f ∙ length-append ends ((length free, length free + length runs) ∷ []) in let k = h.counted in omega (arith, l, k);
    each = λ j l. compare3 j n (λ less. before j less) (λ same. here j same) (λ later. absurd (omega (arith, l, later)));
    few = let l = longer_by free more runs e in let s = sum_last bound first n in let k = h.few in let b : length runs ≤ bound (first +ℤ pos n) = subst (λ (z : ℤ). length runs ≤ bound z) at runs_are.few in
        let step : sum_rows bound first (n + 1) ≡ sum_rows bound first (suc n) = (let q : n + 1 ≡ suc n = omega arith in ap (sum_rows bound first) q) in
        omega (arith, l, s, k, b, step);
  }
    where
      before : (j : ℕ) → j < n → HasRow more longer j
      before j less = go (h.each j less)
        where
          go : HasRow free ends j → HasRow more longer j
          go (from, to, got, order, inside, are) = (
            from,
            to,
            ap (λ (zs : List (ℕ × ℕ)). slice_get zs j) f ∙ get_front ends ((length free, length free + length runs) ∷ []) j (let k = h.counted in omega (arith, less, k)) ∙ got,
            order,
            (let l = longer_by free more runs e in omega (arith, inside, l)),
            subst (λ (zs : List (ℤ × ℤ)). AreRunsOf course i count Hits range (first +ℤ pos j) zs) (sym (front_part free more runs from to e order inside)) are,
          )

      here : (j : ℕ) → j ≡ n → HasRow more longer j
      here j same = (
        length free,
        length free + length runs,
        ap (λ (zs : List (ℕ × ℕ)). slice_get zs j) f ∙ get_last ends j (length free, length free + length runs) (let k = h.counted in omega (arith, same, k)),
        omega arith,
        (let l = longer_by free more runs e in omega (arith, l)),
        subst (λ (zs : List (ℤ × ℤ)). AreRunsOf course i count Hits range (first +ℤ pos j) zs) (sym (last_part free more runs e))
            (subst (λ (z : ℤ). AreRunsOf course i count Hits range z runs) (at ∙ ap (λ (m : ℕ). first +ℤ pos m) (sym same)) runs_are),
      )

  -- there is room for a row more
  pub room_for_row : (free runs : List (ℤ × ℤ)) (ends : List (ℕ × ℕ)) (n all room : ℕ) (row : ℤ) → AreRowsIn course i count Hits range free ends n → row ≡ first +ℤ pos n → length runs ≤ bound row → n < all
      → sum_rows bound first all ≤ room → length free + length runs ≤ room
  room_for_row free runs ends n all room row h at few l r =
      let s = sum_last bound first n in
      let up = sum_rises bound first (suc n) all (omega (arith, l)) in
      let k = h.few in
      let b : length runs ≤ bound (first +ℤ pos n) = subst (λ (z : ℤ). length runs ≤ bound z) at few in
      omega (arith, s, up, k, b, r)

  -- each row of the box has few runs
  pub few_runs : (free : List (ℤ × ℤ)) (ends : List (ℕ × ℕ)) → AreAllRowsIn course i count Hits range free ends → HasFewRuns course i count Hits range
  few_runs free ends all row among =
      let j : ℕ = nat_abs (row -ℤ first) in
      let at : row ≡ first +ℤ pos j = reached first row among.low in
      let found = all.each j (steps_below first (slot course.g (box_at course i).yhi) row among) in
      go j at found
    where
      go : (j : ℕ) → row ≡ first +ℤ pos j → HasRow free ends j → (runs : List (ℤ × ℤ)) × AreFewRuns course i count Hits range row runs
      go j at (from, to, got, order, inside, are) =
          let here = subst (λ (z : ℤ). AreRunsOf course i count Hits range z (take (to - from) (drop from free))) (sym at) are in
          (take (to - from) (drop from free), record { free = here.free; few = here.few })

  -- the row that stands at a place of the list
  pub record IsRowAt (free : List (ℤ × ℤ)) (j : ℕ) (p : ℕ × ℕ) : Type 0 where
    pub order : p.0 ≤ p.1
    pub inside : p.1 ≤ length free
    pub are : AreRunsOf course i count Hits range (first +ℤ pos j) (take (p.1 - p.0) (drop p.0 free))

  pub row_at : (free : List (ℤ × ℤ)) (ends : List (ℕ × ℕ)) (j : ℕ) (p : ℕ × ℕ) → AreAllRowsIn course i count Hits range free ends → slice_get ends j ≡ Some p → IsRowAt free j p
  row_at free ends j p all e = go (all.each j (let l = slice_get_within ends j p e in let k = all.counted in omega (arith, l, k)))
    where
      go : HasRow free ends j → IsRowAt free j p
      go (from, to, got, order, inside, are) =
          subst (IsRowAt free j) (same_Some (from, to) p (sym got ∙ e)) (record { order = order; inside = inside; are = are })
