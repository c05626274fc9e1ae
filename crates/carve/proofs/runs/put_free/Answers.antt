use Rattle.std.proofs.Common.{rules, to_z, of_z, ◌≡◌, ◌∙◌, ◌⊎◌, inl, inr, ℕ, ◌<◌, ◌≤◌, arith, to_z-of_z, FitsSigned, w64, ℤ, pos, ◌+ℤ◌, ◌-ℤ◌, ◌+◌, ◌-◌, ◌*ℤ◌, ◌≤ℤ◌, ◌<ℤ◌, nat_abs, length, List, [], subst, sym, refl, int_lt, ◌++◌, ◌∷◌, true, false}
use Rattle.std.proofs.lemmas.Int.{ints, clamps, by_lt_z}
use Rattle.spot_terms.specs.Whole.{Within}
use Rattle.spot_terms.specs.Grid.{slot_low, AreFreeRuns}
use Rattle.carve.specs.Taking.{AreFoundBefore, AreSpans, IsPast, IsEndOfRun, IsTaken, span_at}
use Rattle.carve.specs.declared.runs.Span.{Span}
use Rattle.carve.proofs.Founds.{nothing_found, found_over, found_run, found_all, found_covers, found_few, ends_later, has_room, low_le}
use Rattle.carve.proofs.runs.put_free.Goals as goal
use Rattle.carve.proofs.runs.put_free.Goals.{else-i-spans-via-then-i-spans+else-spans-i, else-i-spans-via-else-i-spans}
use Rattle.spot_terms.proofs.Orders.{below_of_true, above_of_false}

above : (a b : ℤ) → int_lt a b ≡ false → b ≤ℤ a
above a b h = search rules

columns_of : (first last : ℤ) → first ≤ℤ last → (n : ℕ) × (pos n ≡ last -ℤ first +ℤ pos 1)
columns_of first last h = (nat_abs (last -ℤ first +ℤ pos 1), omega (arith, ints))

start : (spans : List Span) (w first last end at : ℤ) (runs : List (ℤ × ℤ)) → pos 0 <ℤ w → AreSpans spans → first ≤ℤ last → end ≡ slot_low w (last +ℤ pos 1) → at ≡ slot_low w first → runs ≡ [] → AreFoundBefore spans w first end at 0 runs
start spans w first last end at runs wide are ordered is_end is_at none =
    subst (λ (z : ℤ). AreFoundBefore spans w first end z 0 runs) (sym is_at)
    (subst (λ (r : List (ℤ × ℤ)). AreFoundBefore spans w first end (slot_low w first) 0 r) (sym none)
    (nothing_found spans w first end wide are (let k = low_le w first (last +ℤ pos 1) wide (omega (arith, ints)) in omega (arith, ints))))

pub loop-at-init : goal.loop-at-init
loop-at-init c =
    let fits_w : FitsSigned w64 c.args.w = c.ranges.w in
    let fits_first : FitsSigned w64 c.args.first = c.ranges.first in
    let fits_last : FitsSigned w64 c.args.last = c.ranges.last in
    let fits_end : FitsSigned w64 c.border_before-end.result = record { sfits = c.border_before-end.type_inv } in
    let fits_at : FitsSigned w64 c.border_before-at.result = record { sfits = c.border_before-at.type_inv } in
    let fits_next : FitsSigned w64 (c.args.last +ℤ pos 1) = omega (arith, ints, c.requires.last) in
    let is_end : c.border_before-end.result ≡ slot_low c.args.w (c.args.last +ℤ pos 1) = simp to_z-of_z at c.border_before-end.ensures in
    let is_at : c.border_before-at.result ≡ slot_low c.args.w c.args.first = simp to_z-of_z at c.border_before-at.ensures in
    simp to_z-of_z (record {
      found = start c.args.spans.now c.args.w c.args.first c.args.last c.border_before-end.result c.border_before-at.result c.args.free.now.items (omega (arith, ints, c.requires.wide.low)) c.requires.spans c.requires.ordered is_end is_at c.requires.empty;
      capacity = omega arith;
    })

pub past-at-requires-clause-end : goal.past-at-requires-clause-end
past-at-requires-clause-end c =
    let fits_w : FitsSigned w64 c.args.w = c.ranges.w in
    let fits_first : FitsSigned w64 c.args.first = c.ranges.first in
    let fits_last : FitsSigned w64 c.args.last = c.ranges.last in
    let fits_end : FitsSigned w64 c.border_before-end.result = record { sfits = c.border_before-end.type_inv } in
    let fits_next : FitsSigned w64 (c.args.last +ℤ pos 1) = omega (arith, ints, c.requires.last) in
    let is_end : c.border_before-end.result ≡ slot_low c.args.w (c.args.last +ℤ pos 1) = simp to_z-of_z at c.border_before-end.ensures in
    let near = c.requires.end_near in
    simp to_z-of_z (omega (arith, ints))

nearer : (at to end : ℤ) (i n : ℕ) → at <ℤ to → to ≤ℤ end → nat_abs (end -ℤ to) + (n - i) < nat_abs (end -ℤ at) + (n - i)
nearer at to end i n later within = omega (arith, ints)

fewer : (at to end : ℤ) (i n : ℕ) → at ≤ℤ to → to ≤ℤ end → i < n → nat_abs (end -ℤ to) + (n - (i + 1)) < nat_abs (end -ℤ at) + (n - i)
fewer at to end i n later within listed = omega (arith, ints)

pub loop-at-smaller-then-spans-i : goal.loop-at-smaller-then-spans-i
loop-at-smaller-then-spans-i c =
    let fits_w : FitsSigned w64 c.args.w = c.ranges.w in
    let fits_first : FitsSigned w64 c.args.first = c.ranges.first in
    let fits_last : FitsSigned w64 c.args.last = c.ranges.last in
    let fits_end : FitsSigned w64 c.border_before-end.result = record { sfits = c.border_before-end.type_inv } in
    let fits_next : FitsSigned w64 (c.args.last +ℤ pos 1) = omega (arith, ints, c.requires.last) in
    let is_end : c.border_before-end.result ≡ slot_low c.args.w (c.args.last +ℤ pos 1) = simp to_z-of_z at c.border_before-end.ensures in
    let wide : pos 0 <ℤ c.args.w = omega (arith, ints, c.requires.wide.low) in
    let found : AreFoundBefore c.args.spans.now c.args.w c.args.first c.border_before-end.result (to_z w64 c.loop-at.at-bits) c.loop-at.i c.loop-at.free.items = simp to_z-of_z at c.loop-at.invariant.found in
    let before : to_z w64 c.loop-at.at-bits <ℤ c.border_before-end.result = below_of_true _ _ (simp to_z-of_z at c.loop-at-test.true) in
    let fits_past : FitsSigned w64 c.past-at.result = record { sfits = c.past-at.type_inv } in
    let begun : (span_at c.args.spans.now c.loop-at.i).first ≤ℤ to_z w64 c.loop-at.at-bits = search (rules, c.if-spans-i.true) in
    let past : IsPast (to_z w64 c.loop-at.at-bits) (span_at c.args.spans.now c.loop-at.i).last c.border_before-end.result c.past-at.result = search (rules, c.past-at.ensures) in
    simp to_z-of_z (fewer (to_z w64 c.loop-at.at-bits) c.past-at.result c.border_before-end.result c.loop-at.i (length c.args.spans.now) past.from past.within c.if-i-spans.true)

pub loop-at-preserved-then-spans-i : goal.loop-at-preserved-then-spans-i
loop-at-preserved-then-spans-i c =
    let fits_w : FitsSigned w64 c.args.w = c.ranges.w in
    let fits_first : FitsSigned w64 c.args.first = c.ranges.first in
    let fits_last : FitsSigned w64 c.args.last = c.ranges.last in
    let fits_end : FitsSigned w64 c.border_before-end.result = record { sfits = c.border_before-end.type_inv } in
    let fits_next : FitsSigned w64 (c.args.last +ℤ pos 1) = omega (arith, ints, c.requires.last) in
    let is_end : c.border_before-end.result ≡ slot_low c.args.w (c.args.last +ℤ pos 1) = simp to_z-of_z at c.border_before-end.ensures in
    let wide : pos 0 <ℤ c.args.w = omega (arith, ints, c.requires.wide.low) in
    let found : AreFoundBefore c.args.spans.now c.args.w c.args.first c.border_before-end.result (to_z w64 c.loop-at.at-bits) c.loop-at.i c.loop-at.free.items = simp to_z-of_z at c.loop-at.invariant.found in
    let before : to_z w64 c.loop-at.at-bits <ℤ c.border_before-end.result = below_of_true _ _ (simp to_z-of_z at c.loop-at-test.true) in
    let fits_past : FitsSigned w64 c.past-at.result = record { sfits = c.past-at.type_inv } in
    let begun : (span_at c.args.spans.now c.loop-at.i).first ≤ℤ to_z w64 c.loop-at.at-bits = search (rules, c.if-spans-i.true) in
    let past : IsPast (to_z w64 c.loop-at.at-bits) (span_at c.args.spans.now c.loop-at.i).last c.border_before-end.result c.past-at.result = search (rules, c.past-at.ensures) in
    simp to_z-of_z (record {
      found = found_over c.args.spans.now c.args.w c.args.first c.border_before-end.result wide c.requires.spans (to_z w64 c.loop-at.at-bits) c.past-at.result c.loop-at.i c.loop-at.free.items before c.if-i-spans.true begun past found;
      capacity = c.loop-at.invariant.capacity;
    })

between : (first_low at to end end_low : ℤ) → nat_abs first_low ≤ 50_000_000_000_000 → nat_abs end_low ≤ 50_000_000_000_000 → end ≡ end_low → first_low ≤ℤ at → at <ℤ to → to ≤ℤ end → nat_abs to ≤ 50_000_000_000_000
between first_low at to end end_low a b is from later within = omega (arith, ints)

pub push_run-requires-clause-to : goal.push_run-requires-clause-to
push_run-requires-clause-to c =
    let fits_w : FitsSigned w64 c.args.w = c.ranges.w in
    let fits_first : FitsSigned w64 c.args.first = c.ranges.first in
    let fits_last : FitsSigned w64 c.args.last = c.ranges.last in
    let fits_end : FitsSigned w64 c.border_before-end.result = record { sfits = c.border_before-end.type_inv } in
    let fits_next : FitsSigned w64 (c.args.last +ℤ pos 1) = omega (arith, ints, c.requires.last) in
    let is_end : c.border_before-end.result ≡ slot_low c.args.w (c.args.last +ℤ pos 1) = simp to_z-of_z at c.border_before-end.ensures in
    let wide : pos 0 <ℤ c.args.w = omega (arith, ints, c.requires.wide.low) in
    let found : AreFoundBefore c.args.spans.now c.args.w c.args.first c.border_before-end.result (to_z w64 c.loop-at.at-bits) c.loop-at.i c.loop-at.free.items = simp to_z-of_z at c.loop-at.invariant.found in
    let before : to_z w64 c.loop-at.at-bits <ℤ c.border_before-end.result = below_of_true _ _ (simp to_z-of_z at c.loop-at-test.true) in
    let fits_run : FitsSigned w64 c.end_of_run-next.result = record { sfits = c.end_of_run-next.type_inv } in
    let ends : IsEndOfRun c.args.spans.now c.loop-at.i c.args.w (to_z w64 c.loop-at.at-bits) c.border_before-end.result c.end_of_run-next.result = search (rules, c.end_of_run-next.ensures) in
    let ahead : c.loop-at.i < length c.args.spans.now → to_z w64 c.loop-at.at-bits <ℤ (span_at c.args.spans.now c.loop-at.i).first = λ listed. elim c.else-i-spans.branch [
      | else-i-spans-via-then-i-spans+else-spans-i w ↦ above_of_false (span_at c.args.spans.now c.loop-at.i).first (to_z w64 c.loop-at.at-bits) (search (rules, w.if-spans-i.false))
      | else-i-spans-via-else-i-spans w ↦ absurd (omega (arith, w.if-i-spans.false))
    ] in
    let later : to_z w64 c.loop-at.at-bits <ℤ c.end_of_run-next.result = ends_later c.args.spans.now c.args.w c.args.first c.border_before-end.result wide c.requires.spans (to_z w64 c.loop-at.at-bits) c.end_of_run-next.result c.loop-at.i before ahead ends in
    simp to_z-of_z (between (slot_low c.args.w c.args.first) (to_z w64 c.loop-at.at-bits) c.end_of_run-next.result c.border_before-end.result (slot_low c.args.w (c.args.last +ℤ pos 1)) c.requires.first_near c.requires.end_near is_end found.runs_are.from later ends.before_end)

pub push_run-requires-clause-room : goal.push_run-requires-clause-room
push_run-requires-clause-room c =
    let fits_w : FitsSigned w64 c.args.w = c.ranges.w in
    let fits_first : FitsSigned w64 c.args.first = c.ranges.first in
    let fits_last : FitsSigned w64 c.args.last = c.ranges.last in
    let fits_end : FitsSigned w64 c.border_before-end.result = record { sfits = c.border_before-end.type_inv } in
    let fits_next : FitsSigned w64 (c.args.last +ℤ pos 1) = omega (arith, ints, c.requires.last) in
    let is_end : c.border_before-end.result ≡ slot_low c.args.w (c.args.last +ℤ pos 1) = simp to_z-of_z at c.border_before-end.ensures in
    let wide : pos 0 <ℤ c.args.w = omega (arith, ints, c.requires.wide.low) in
    let found : AreFoundBefore c.args.spans.now c.args.w c.args.first c.border_before-end.result (to_z w64 c.loop-at.at-bits) c.loop-at.i c.loop-at.free.items = simp to_z-of_z at c.loop-at.invariant.found in
    let before : to_z w64 c.loop-at.at-bits <ℤ c.border_before-end.result = below_of_true _ _ (simp to_z-of_z at c.loop-at-test.true) in
    let ahead : c.loop-at.i < length c.args.spans.now → to_z w64 c.loop-at.at-bits <ℤ (span_at c.args.spans.now c.loop-at.i).first = λ listed. elim c.else-i-spans.branch [
      | else-i-spans-via-then-i-spans+else-spans-i w ↦ above_of_false (span_at c.args.spans.now c.loop-at.i).first (to_z w64 c.loop-at.at-bits) (search (rules, w.if-spans-i.false))
      | else-i-spans-via-else-i-spans w ↦ absurd (omega (arith, w.if-i-spans.false))
    ] in
    let columns = columns_of c.args.first c.args.last c.requires.ordered in
    let room = c.requires.room columns.0 columns.1 in
    let few = has_room c.args.spans.now c.args.w c.args.first c.border_before-end.result wide c.requires.spans (to_z w64 c.loop-at.at-bits) c.args.last c.loop-at.i columns.0 c.loop-at.free.items before ahead is_end columns.1 found in
    omega (arith, c.loop-at.invariant.capacity)

pub loop-at-smaller : goal.loop-at-smaller
loop-at-smaller c =
    let fits_w : FitsSigned w64 c.args.w = c.ranges.w in
    let fits_first : FitsSigned w64 c.args.first = c.ranges.first in
    let fits_last : FitsSigned w64 c.args.last = c.ranges.last in
    let fits_end : FitsSigned w64 c.border_before-end.result = record { sfits = c.border_before-end.type_inv } in
    let fits_next : FitsSigned w64 (c.args.last +ℤ pos 1) = omega (arith, ints, c.requires.last) in
    let is_end : c.border_before-end.result ≡ slot_low c.args.w (c.args.last +ℤ pos 1) = simp to_z-of_z at c.border_before-end.ensures in
    let wide : pos 0 <ℤ c.args.w = omega (arith, ints, c.requires.wide.low) in
    let found : AreFoundBefore c.args.spans.now c.args.w c.args.first c.border_before-end.result (to_z w64 c.loop-at.at-bits) c.loop-at.i c.loop-at.free.items = simp to_z-of_z at c.loop-at.invariant.found in
    let before : to_z w64 c.loop-at.at-bits <ℤ c.border_before-end.result = below_of_true _ _ (simp to_z-of_z at c.loop-at-test.true) in
    let fits_run : FitsSigned w64 c.end_of_run-next.result = record { sfits = c.end_of_run-next.type_inv } in
    let ends : IsEndOfRun c.args.spans.now c.loop-at.i c.args.w (to_z w64 c.loop-at.at-bits) c.border_before-end.result c.end_of_run-next.result = search (rules, c.end_of_run-next.ensures) in
    let ahead : c.loop-at.i < length c.args.spans.now → to_z w64 c.loop-at.at-bits <ℤ (span_at c.args.spans.now c.loop-at.i).first = λ listed. elim c.else-i-spans.branch [
      | else-i-spans-via-then-i-spans+else-spans-i w ↦ above_of_false (span_at c.args.spans.now c.loop-at.i).first (to_z w64 c.loop-at.at-bits) (search (rules, w.if-spans-i.false))
      | else-i-spans-via-else-i-spans w ↦ absurd (omega (arith, w.if-i-spans.false))
    ] in
    let later : to_z w64 c.loop-at.at-bits <ℤ c.end_of_run-next.result = ends_later c.args.spans.now c.args.w c.args.first c.border_before-end.result wide c.requires.spans (to_z w64 c.loop-at.at-bits) c.end_of_run-next.result c.loop-at.i before ahead ends in
    simp to_z-of_z (nearer (to_z w64 c.loop-at.at-bits) c.end_of_run-next.result c.border_before-end.result c.loop-at.i (length c.args.spans.now) later ends.before_end)

pub loop-at-preserved : goal.loop-at-preserved
loop-at-preserved c =
    let fits_w : FitsSigned w64 c.args.w = c.ranges.w in
    let fits_first : FitsSigned w64 c.args.first = c.ranges.first in
    let fits_last : FitsSigned w64 c.args.last = c.ranges.last in
    let fits_end : FitsSigned w64 c.border_before-end.result = record { sfits = c.border_before-end.type_inv } in
    let fits_next : FitsSigned w64 (c.args.last +ℤ pos 1) = omega (arith, ints, c.requires.last) in
    let is_end : c.border_before-end.result ≡ slot_low c.args.w (c.args.last +ℤ pos 1) = simp to_z-of_z at c.border_before-end.ensures in
    let wide : pos 0 <ℤ c.args.w = omega (arith, ints, c.requires.wide.low) in
    let found : AreFoundBefore c.args.spans.now c.args.w c.args.first c.border_before-end.result (to_z w64 c.loop-at.at-bits) c.loop-at.i c.loop-at.free.items = simp to_z-of_z at c.loop-at.invariant.found in
    let before : to_z w64 c.loop-at.at-bits <ℤ c.border_before-end.result = below_of_true _ _ (simp to_z-of_z at c.loop-at-test.true) in
    let fits_run : FitsSigned w64 c.end_of_run-next.result = record { sfits = c.end_of_run-next.type_inv } in
    let ends : IsEndOfRun c.args.spans.now c.loop-at.i c.args.w (to_z w64 c.loop-at.at-bits) c.border_before-end.result c.end_of_run-next.result = search (rules, c.end_of_run-next.ensures) in
    let ahead : c.loop-at.i < length c.args.spans.now → to_z w64 c.loop-at.at-bits <ℤ (span_at c.args.spans.now c.loop-at.i).first = λ listed. elim c.else-i-spans.branch [
      | else-i-spans-via-then-i-spans+else-spans-i w ↦ above_of_false (span_at c.args.spans.now c.loop-at.i).first (to_z w64 c.loop-at.at-bits) (search (rules, w.if-spans-i.false))
      | else-i-spans-via-else-i-spans w ↦ absurd (omega (arith, w.if-i-spans.false))
    ] in
    let items : c.push_run.new.free.items ≡ c.loop-at.free.items ++ (to_z w64 c.loop-at.at-bits, c.end_of_run-next.result -ℤ pos 1) ∷ [] = simp to_z-of_z at c.push_run.ensures.items in
    simp to_z-of_z (record {
      found = subst (λ (r : List (ℤ × ℤ)). AreFoundBefore c.args.spans.now c.args.w c.args.first c.border_before-end.result c.end_of_run-next.result c.loop-at.i r) (sym items) (found_run c.args.spans.now c.args.w c.args.first c.border_before-end.result wide c.requires.spans (to_z w64 c.loop-at.at-bits) c.end_of_run-next.result c.loop-at.i c.loop-at.free.items before ahead ends c.args.last is_end found);
      capacity = omega (arith, c.loop-at.invariant.capacity, c.push_run.ensures.capacity);
    })

pub returns-clause-runs : goal.returns-clause-runs
returns-clause-runs c =
    let fits_w : FitsSigned w64 c.args.w = c.ranges.w in
    let fits_first : FitsSigned w64 c.args.first = c.ranges.first in
    let fits_last : FitsSigned w64 c.args.last = c.ranges.last in
    let fits_end : FitsSigned w64 c.border_before-end.result = record { sfits = c.border_before-end.type_inv } in
    let fits_next : FitsSigned w64 (c.args.last +ℤ pos 1) = omega (arith, ints, c.requires.last) in
    let is_end : c.border_before-end.result ≡ slot_low c.args.w (c.args.last +ℤ pos 1) = simp to_z-of_z at c.border_before-end.ensures in
    let wide : pos 0 <ℤ c.args.w = omega (arith, ints, c.requires.wide.low) in
    let found : AreFoundBefore c.args.spans.now c.args.w c.args.first c.border_before-end.result (to_z w64 c.loop-at.at-bits) c.loop-at.i c.loop-at.free.items = simp to_z-of_z at c.loop-at.invariant.found in
    let past : c.border_before-end.result ≤ℤ to_z w64 c.loop-at.at-bits = above _ _ (simp to_z-of_z at c.loop-at-test.false) in
    found_all c.args.spans.now c.args.w c.args.first c.border_before-end.result wide c.requires.spans (to_z w64 c.loop-at.at-bits) c.args.last c.loop-at.i c.loop-at.free.items past is_end found

pub returns-clause-covers : goal.returns-clause-covers
returns-clause-covers c =
    let fits_w : FitsSigned w64 c.args.w = c.ranges.w in
    let fits_first : FitsSigned w64 c.args.first = c.ranges.first in
    let fits_last : FitsSigned w64 c.args.last = c.ranges.last in
    let fits_end : FitsSigned w64 c.border_before-end.result = record { sfits = c.border_before-end.type_inv } in
    let fits_next : FitsSigned w64 (c.args.last +ℤ pos 1) = omega (arith, ints, c.requires.last) in
    let is_end : c.border_before-end.result ≡ slot_low c.args.w (c.args.last +ℤ pos 1) = simp to_z-of_z at c.border_before-end.ensures in
    let wide : pos 0 <ℤ c.args.w = omega (arith, ints, c.requires.wide.low) in
    let found : AreFoundBefore c.args.spans.now c.args.w c.args.first c.border_before-end.result (to_z w64 c.loop-at.at-bits) c.loop-at.i c.loop-at.free.items = simp to_z-of_z at c.loop-at.invariant.found in
    let past : c.border_before-end.result ≤ℤ to_z w64 c.loop-at.at-bits = above _ _ (simp to_z-of_z at c.loop-at-test.false) in
    found_covers c.args.spans.now c.args.w c.args.first c.border_before-end.result wide c.requires.spans (to_z w64 c.loop-at.at-bits) c.args.last c.loop-at.i c.loop-at.free.items past is_end found

pub returns-clause-few : goal.returns-clause-few
returns-clause-few c = λ columns e.
    let fits_w : FitsSigned w64 c.args.w = c.ranges.w in
    let fits_first : FitsSigned w64 c.args.first = c.ranges.first in
    let fits_last : FitsSigned w64 c.args.last = c.ranges.last in
    let fits_end : FitsSigned w64 c.border_before-end.result = record { sfits = c.border_before-end.type_inv } in
    let fits_next : FitsSigned w64 (c.args.last +ℤ pos 1) = omega (arith, ints, c.requires.last) in
    let is_end : c.border_before-end.result ≡ slot_low c.args.w (c.args.last +ℤ pos 1) = simp to_z-of_z at c.border_before-end.ensures in
    let wide : pos 0 <ℤ c.args.w = omega (arith, ints, c.requires.wide.low) in
    let found : AreFoundBefore c.args.spans.now c.args.w c.args.first c.border_before-end.result (to_z w64 c.loop-at.at-bits) c.loop-at.i c.loop-at.free.items = simp to_z-of_z at c.loop-at.invariant.found in
    let count : pos columns ≡ c.args.last -ℤ c.args.first +ℤ pos 1 = e in
    found_few c.args.spans.now c.args.w c.args.first c.border_before-end.result wide c.requires.spans (to_z w64 c.loop-at.at-bits) c.args.last c.loop-at.i columns c.loop-at.free.items is_end count found
