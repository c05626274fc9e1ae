-- The steps of finding runs.
use Rattle.std.proofs.Common.{◌≡◌, ℕ, ◌+◌, ◌-◌, ◌<◌, ◌≤◌, arith, refl, sym, ap, List, [], ◌∷◌, ◌++◌, ◌⊎◌, inl, inr, ◌∙◌, ℤ, pos, ◌+ℤ◌, ◌-ℤ◌, ◌*ℤ◌, ◌≤ℤ◌, ◌<ℤ◌, length, length-append, below_more, subst}
use Rattle.std.proofs.lemmas.Int.{ints, by_lt_z}
use Rattle.std.specs.List.{AllByRecursion}
use Rattle.spot_terms.specs.Lists.{Includes}
use Rattle.spot_terms.specs.Whole.{Within}
use Rattle.spot_terms.proofs.Ring.{spread_left}
use Rattle.spot_terms.proofs.Quotients.{below_factor}
use Rattle.spot_terms.specs.Grid.{slot_low, slot_high, IsFreeRun, AreInTurn, AreFreeRuns, IsFreeRunOf, CoverTheRest}
use Rattle.carve.specs.Taking.{AreRunsBefore, MayBegin, AreSpans, IsTaken, IsBorder, IsEndOfRun, IsPast, AreFew, AreFoundBefore, span_at}
use Rattle.carve.specs.declared.runs.Span.{Span}
use Rattle.carve.proofs.Sweeps.{none_yet, over, found}
use Rattle.spot_terms.proofs.Orders.{plus_zero, reflexive, below_equal_or_above}

low_zero : (w first : ℤ) → slot_low w (first +ℤ pos 0) ≤ℤ slot_low w first
low_zero w first = subst (λ (z : ℤ). slot_low w z ≤ℤ slot_low w first) (sym (plus_zero first)) (reflexive (slot_low w first))

pub low_le : (w a b : ℤ) → pos 0 <ℤ w → a ≤ℤ b → slot_low w a ≤ℤ slot_low w b
low_le w a b wide h = by_lt_z (slot_low w b) (slot_low w a) (λ less. absurd (let k : b <ℤ a = below_factor b a w wide less in omega (arith, ints))) (λ le. le)

low_next : (w c : ℤ) → slot_low w (c +ℤ pos 1) ≡ slot_high w c +ℤ pos 1
low_next w c = omega (arith, ints, spread_left c (pos 1) w)

before_past : (x at to last : ℤ) → at ≤ℤ x → x ≤ℤ (to -ℤ pos 1) → (at ≡ to) ⊎ (to ≤ℤ (last +ℤ pos 1)) → x ≤ℤ last
before_past x at to last a b (inl e) = absurd (omega (arith, ints))
before_past x at to last a b (inr h) = omega (arith, ints)

more_columns : (w first at b col : ℤ) (n : ℕ) → pos 0 <ℤ w → slot_low w (first +ℤ pos n) ≤ℤ at → at <ℤ b → b ≡ slot_low w (col +ℤ pos 1) → slot_low w (first +ℤ pos (n + 1)) ≤ℤ b
more_columns w first at b col n wide a less is =
    let k : (first +ℤ pos n) <ℤ (col +ℤ pos 1) = below_factor (first +ℤ pos n) (col +ℤ pos 1) w wide (omega (arith, ints)) in
    subst (λ (z : ℤ). slot_low w (first +ℤ pos (n + 1)) ≤ℤ z) (sym is) (low_le w (first +ℤ pos (n + 1)) (col +ℤ pos 1) wide (omega (arith, ints)))

few_columns : (w first at last : ℤ) (n columns : ℕ) → pos 0 <ℤ w → slot_low w (first +ℤ pos n) ≤ℤ at → at <ℤ slot_low w (last +ℤ pos 1) → pos columns ≡ last -ℤ first +ℤ pos 1 → n < columns
few_columns w first at last n columns wide a less count =
    let k : (first +ℤ pos n) <ℤ (last +ℤ pos 1) = below_factor (first +ℤ pos n) (last +ℤ pos 1) w wide (omega (arith, ints)) in
    omega (arith, ints)

module _ (spans : List Span) (w first end : ℤ) (wide : pos 0 <ℤ w) (are : AreSpans spans) where
  pub nothing_found : slot_low w first ≤ℤ end → AreFoundBefore spans w first end (slot_low w first) 0 []
  nothing_found h = record {
    runs_are = none_yet (IsTaken spans) w first wide;
    begins = inr (inr (first, refl));
    passed = λ j less. absurd (omega arith);
    few = record { columns = 0; passed = low_zero w first; few = inl (omega arith) };
    within = h;
    index = omega arith;
  }

  pub found_over : (at to : ℤ) (i : ℕ) (runs : List (ℤ × ℤ)) → at <ℤ end → i < length spans → (span_at spans i).first ≤ℤ at → IsPast at (span_at spans i).last end to
      → AreFoundBefore spans w first end at i runs → AreFoundBefore spans w first end to (i + 1) runs
  found_over at to i runs before listed begun past h = by_lt_z at to
      (λ more. record {
        runs_are = over (IsTaken spans) w first wide at to runs more taken h.runs_are;
        begins = inr (inl (taken (to -ℤ pos 1) (record { low = omega (arith, ints); high = omega (arith, ints) })));
        passed = passed_more;
        few = few_more h.few;
        within = past.within;
        index = omega arith;
      })
      (λ rest. let same : at ≡ to = let k = past.from in omega (arith, ints) in record {
        runs_are = subst (λ (z : ℤ). AreRunsBefore (IsTaken spans) w first z runs) same h.runs_are;
        begins = subst (λ (z : ℤ). IsTaken spans z ⊎ MayBegin (IsTaken spans) w z) same h.begins;
        passed = passed_more;
        few = few_more h.few;
        within = past.within;
        index = omega arith;
      })
    where
      taken : (x : ℤ) → Within at (to -ℤ pos 1) x → IsTaken spans x
      taken x k = record { j = i; listed = listed; first = omega (arith, ints, k.low); last = before_past x at to (span_at spans i).last k.low k.high past.all }

      passed_more : (j : ℕ) → j < i + 1 → to <ℤ end → (span_at spans j).last <ℤ to
      passed_more = below_more (λ (j : ℕ). to <ℤ end → (span_at spans j).last <ℤ to) i
          (λ j less e. let k = h.passed j less before in let f = past.from in omega (arith, ints)) past.past

      few_more : AreFew spans w first at i (length runs) → AreFew spans w first to (i + 1) (length runs)
      few_more f = record { columns = f.columns; passed = let a = f.passed in let b = past.from in omega (arith, ints); few = inl (counted f.columns f.few) }
        where
          counted : (n : ℕ) → (length runs ≤ i + n) ⊎ ((length runs ≤ i + n + 1) × (i < length spans) × ((span_at spans i).first ≤ℤ at)) → length runs ≤ i + 1 + n
          counted n (inl a) = omega arith
          counted n (inr a) = omega (arith, a.0)

  pub found_run : (at to : ℤ) (i : ℕ) (runs : List (ℤ × ℤ)) → at <ℤ end → (i < length spans → at <ℤ (span_at spans i).first) → IsEndOfRun spans i w at end to
      → (last : ℤ) → end ≡ slot_low w (last +ℤ pos 1) → AreFoundBefore spans w first end at i runs → AreFoundBefore spans w first end to i (runs ++ (at, to -ℤ pos 1) ∷ [])
  found_run at to i runs before ahead ends last is h = record {
    runs_are = found (IsTaken spans) w first wide at to ends.is_border.col runs ends.is_border.low less high free behind begins h.runs_are;
    begins = begins_next behind;
    passed = λ j below e. let k = h.passed j below before in let m = less in omega (arith, ints);
    few = rw length-append (few_more h.few.columns h.few.passed h.few.few ends.is);
    within = ends.before_end;
    index = h.index;
  }
    where
      col : ℤ
      col = ends.is_border.col

      less : at <ℤ to
      less = elim ends.is [
        | inl e ↦ (let b = ends.is_border.high in omega (arith, ints))
        | inr (inl e) ↦ omega (arith, ints)
        | inr (inr e) ↦ (let b = ahead e.0 in let f = e.1 in omega (arith, ints))
      ]

      at_border : ends.border ≡ slot_high w ends.is_border.col +ℤ pos 1
      at_border = ends.is_border.is ∙ low_next w ends.is_border.col

      high : to ≤ℤ (slot_high w ends.is_border.col +ℤ pos 1)
      high = let e = at_border in let b = ends.before_border in omega (arith, ints)

      border_within : ends.border ≤ℤ end
      border_within =
          let k : ends.is_border.col <ℤ (last +ℤ pos 1) = below_factor ends.is_border.col (last +ℤ pos 1) w wide (let l = ends.is_border.low in omega (arith, ints)) in
          let m : slot_low w (ends.is_border.col +ℤ pos 1) ≤ℤ slot_low w (last +ℤ pos 1) = low_le w (ends.is_border.col +ℤ pos 1) (last +ℤ pos 1) wide (omega (arith, ints)) in
          let e = ends.is_border.is in omega (arith, ints)

      behind : (to ≡ slot_high w ends.is_border.col +ℤ pos 1) ⊎ IsTaken spans to
      behind = elim ends.is [
        | inl e ↦ inl (e ∙ at_border)
        | inr (inl e) ↦ inl (let b = border_within in let c = ends.before_border in let d = at_border in omega (arith, ints))
        | inr (inr e) ↦ inr (record { j = i; listed = e.0; first = (let f = e.1 in omega (arith, ints)); last = (let f = e.1 in let m = are.some i e.0 in omega (arith, ints)) })
      ]

      begins_next : (to ≡ slot_high w ends.is_border.col +ℤ pos 1) ⊎ IsTaken spans to → IsTaken spans to ⊎ MayBegin (IsTaken spans) w to
      begins_next (inl e) = inr (inr (ends.is_border.col +ℤ pos 1, e ∙ sym (low_next w ends.is_border.col)))
      begins_next (inr t) = inl t

      few_more : (n : ℕ) → slot_low w (first +ℤ pos n) ≤ℤ at → (length runs ≤ i + n) ⊎ ((length runs ≤ i + n + 1) × (i < length spans) × ((span_at spans i).first ≤ℤ at))
          → (to ≡ ends.border) ⊎ (to ≡ end) ⊎ ((i < length spans) × (to ≡ (span_at spans i).first)) → AreFew spans w first to i (length runs + 1)
      few_more n p (inr a) e = absurd (let k = ahead a.1 in let b = a.2 in omega (arith, ints))
      few_more n p (inl a) (inl e) = record { columns = n + 1; passed = more_columns w first at to ends.is_border.col n wide p less (e ∙ ends.is_border.is); few = inl (omega arith) }
      few_more n p (inl a) (inr (inl e)) = record { columns = n + 1; passed = more_columns w first at to ends.is_border.col n wide p less (at_end e ∙ ends.is_border.is); few = inl (omega arith) }
        where
          at_end : to ≡ end → to ≡ ends.border
          at_end e = let b = border_within in let c = ends.before_border in omega (arith, ints)
      few_more n p (inl a) (inr (inr e)) = record { columns = n; passed = (let l = less in omega (arith, ints)); few = inr (omega arith, e.0, (let f = e.1 in omega (arith, ints))) }

      -- nothing of the run is taken
      free : (x : ℤ) → Within at (to -ℤ pos 1) x → IsTaken spans x → ⊥
      free x k t = elim (below_equal_or_above t.j i) [
        | inl below ↦ (let e = h.passed t.j below before in let l = t.last in let m = k.low in omega (arith, ints))
        | inr (inl same) ↦ (let f : (span_at spans i).first ≤ℤ x = subst (λ (j : ℕ). (span_at spans j).first ≤ℤ x) same t.first in
            let b = ends.before_span (omega (arith, t.listed)) in let m = k.high in omega (arith, ints))
        | inr (inr above) ↦ (let f = are.sorted i t.j above t.listed in let g = t.first in
            let b = ends.before_span (omega (arith, t.listed)) in let m = k.high in omega (arith, ints))
      ]

      not_taken : IsTaken spans at → ⊥
      not_taken t = free at (record { low = omega (arith, ints); high = omega (arith, ints, less) }) t

      begins : MayBegin (IsTaken spans) w at
      begins = elim h.begins [ inl t ↦ absurd (not_taken t) | inr b ↦ b ]

  pub ends_later : (at to : ℤ) (i : ℕ) → at <ℤ end → (i < length spans → at <ℤ (span_at spans i).first) → IsEndOfRun spans i w at end to → at <ℤ to
  ends_later at to i before ahead ends = elim ends.is [
    | inl e ↦ (let b = ends.is_border.high in omega (arith, ints))
    | inr (inl e) ↦ omega (arith, ints)
    | inr (inr e) ↦ (let b = ahead e.0 in let f = e.1 in omega (arith, ints))
  ]

  pub found_all : (at last : ℤ) (i : ℕ) (runs : List (ℤ × ℤ)) → end ≤ℤ at → end ≡ slot_low w (last +ℤ pos 1) → AreFoundBefore spans w first end at i runs → AreFreeRuns (IsTaken spans) w first last runs
  found_all at last i runs past is h = record {
    ordered = h.runs_are.ordered;
    each = λ run k. let (col, f, a, b) = h.runs_are.each run k in record {
      col = col;
      among = record {
        low = (let k : first <ℤ (col +ℤ pos 1) = below_factor first (col +ℤ pos 1) w wide (let e = low_next w col in let g = f.some in let l = f.high in omega (arith, ints)) in omega (arith, ints));
        high = (let k : col <ℤ (last +ℤ pos 1) = below_factor col (last +ℤ pos 1) w wide (let g = f.some in let l = f.low in let m = h.within in omega (arith, ints)) in omega (arith, ints));
      };
      free_run = f;
    };
    all = λ col lo hi k f. h.runs_are.all col lo hi f
        (let l = low_le w first col wide k.low in let m = f.low in omega (arith, ints))
        (let l : slot_low w (col +ℤ pos 1) ≤ℤ slot_low w (last +ℤ pos 1) = low_le w (col +ℤ pos 1) (last +ℤ pos 1) wide (let m = k.high in omega (arith, ints)) in let e = low_next w col in let a = f.some in let b = f.high in omega (arith, ints));
  }

  pub found_covers : (at last : ℤ) (i : ℕ) (runs : List (ℤ × ℤ)) → end ≤ℤ at → end ≡ slot_low w (last +ℤ pos 1) → AreFoundBefore spans w first end at i runs → CoverTheRest (IsTaken spans) w first last runs
  found_covers at last i runs past is h = λ x a b. h.runs_are.covers x a (let e = low_next w last in omega (arith, ints))

  pub has_room : (at last : ℤ) (i columns : ℕ) (runs : List (ℤ × ℤ)) → at <ℤ end → (i < length spans → at <ℤ (span_at spans i).first) → end ≡ slot_low w (last +ℤ pos 1)
      → pos columns ≡ last -ℤ first +ℤ pos 1 → AreFoundBefore spans w first end at i runs → length runs < columns + length spans
  has_room at last i columns runs before ahead is count h =
      let f = h.few in
      let n : f.columns < columns = few_columns w first at last f.columns columns wide f.passed (subst (λ (z : ℤ). at <ℤ z) is before) count in
      counted f.columns n f.few
    where
      counted : (n : ℕ) → n < columns → (length runs ≤ i + n) ⊎ ((length runs ≤ i + n + 1) × (i < length spans) × ((span_at spans i).first ≤ℤ at)) → length runs < columns + length spans
      counted n less (inl a) = omega (arith, h.index)
      counted n less (inr a) = absurd (let k = ahead a.1 in omega (arith, ints, a.2))

  -- at the end: a run more than spans for each column at most
  pub found_few : (at last : ℤ) (i columns : ℕ) (runs : List (ℤ × ℤ)) → end ≡ slot_low w (last +ℤ pos 1) → pos columns ≡ last -ℤ first +ℤ pos 1
      → AreFoundBefore spans w first end at i runs → length runs ≤ columns + length spans
  found_few at last i columns runs is count h = let f = h.few in counted f.columns (passed_columns f.columns f.passed) f.few
    where
      passed_columns : (n : ℕ) → slot_low w (first +ℤ pos n) ≤ℤ at → n ≤ columns
      passed_columns n p =
          let e = low_next w (last +ℤ pos 1) in
          let m = h.within in
          let k : (first +ℤ pos n) <ℤ (last +ℤ pos 1 +ℤ pos 1) = below_factor (first +ℤ pos n) (last +ℤ pos 1 +ℤ pos 1) w wide (omega (arith, ints)) in
          omega (arith, ints)

      counted : (n : ℕ) → n ≤ columns → (length runs ≤ i + n) ⊎ ((length runs ≤ i + n + 1) × (i < length spans) × ((span_at spans i).first ≤ℤ at)) → length runs ≤ columns + length spans
      counted n less (inl a) = omega (arith, h.index)
      counted n less (inr a) = omega (arith, a.0, a.1)
