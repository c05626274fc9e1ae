use Rattle.std.proofs.Common.{◌≡◌, ◌∙◌, ◌<◌, ◌≤◌, ◌+◌, sym, ap, subst, arith, length, refl, take, ℕ, ℤ, List, FitsSigned, w64, to_z, of_z, to_z-of_z}
use Rattle.std.specs.Prelude.{slice_index_or}
use Rattle.std.proofs.lemmas.List.{take_all}
use Rattle.spot_terms.specs.Pieces.{range_of}
use Rattle.convex_poly.specs.declared.oct_numbers.OctNumbers.{OctNumbers}
use Rattle.carve.specs.Ranges.{IsRange}
use Rattle.carve.proofs.BoxSums.{rows_of, no_rows, more_rows}
use Rattle.participants.specs.Pieces.{no_octagon, pieces_at, HasOutline}
use Rattle.participants.specs.Places.{no_place, nobody, places_in, IsKept}
use Rattle.participants.specs.Predictions.{Occupancies}
use Rattle.participants.specs.declared.participant.Participant.{Participant}
use Rattle.participants.specs.declared.places.Place.{Place}
use Rattle.participants.proofs.FoundPieces.{count_is, fixed_range, range_found, ranked_among, ranked_found}
use Rattle.participants.proofs.Ranks.{one_in, one_out}
use Rattle.participants.proofs.prediction.PredictionOccupied.rows.Goals as goal
use Rattle.participants.proofs.prediction.PredictionOccupied.rows.Goals.{then-place-interval, else-place-interval}

pub loop-f-init : goal.loop-f-init
loop-f-init c = record {
  sum = no_rows _ (c.args.b.now.ylo, c.args.b.now.yhi) (range_of (pieces_at c.args.self.now c.args.step));
  few = omega arith;
}

pub loop-f-preserved : goal.loop-f-preserved
loop-f-preserved c =
    let kept : IsKept c.args.self.now c.self.inside.places = subst (λ (o : Occupancies). IsKept o c.self.inside.places) c.self.view_is c.self.invariant in
    let items : c.deref-f-items.result.now ≡ c.args.self.now.fixed = c.deref-f-items.ensures.value ∙ ap (λ (o : Occupancies). o.fixed) c.self.view_is in
    let range : IsRange (range_of (pieces_at c.args.self.now c.args.step) c.loop-f.f-index) c.span_of.result =
    fixed_range c.args.self.now c.self.inside.places kept c.args.step c.loop-f.f-index c.deref-f-items.result.now _ c.span_of.result items c.loop-f-test.true c.span_of.ensures.piece in
    record {
      sum = more_rows _ (c.args.b.now.ylo, c.args.b.now.yhi) (range_of (pieces_at c.args.self.now c.args.step)) c.loop-f.f-index (c.loop-f.f-index + 1) c.loop-f.rows (c.loop-f.rows + c.rows_met-rows.result) refl c.loop-f.invariant.sum
          (ap (λ (n : ℕ). c.loop-f.rows + n) (c.rows_met-rows.ensures.value (range_of (pieces_at c.args.self.now c.args.step) c.loop-f.f-index) range));
      few = omega (arith, c.rows_met-rows.ensures.few, c.loop-f.invariant.few);
    }

pub octagon_in-octagon-requires-clause-who : goal.octagon_in-octagon-requires-clause-who
octagon_in-octagon-requires-clause-who c =
    let kept : IsKept c.args.self.now c.self.inside.places = subst (λ (o : Occupancies). IsKept o c.self.inside.places) c.self.view_is c.self.invariant in
    let people : c.deref.result.now ≡ c.args.self.now.participants = c.deref.ensures.value ∙ ap (λ (o : Occupancies). o.participants) c.self.view_is in
    let items : c.list-place-items.result.now ≡ c.self.inside.places.places = c.list-place-items.ensures in
    let less : c.loop-place.place-index < length c.self.inside.places.places = subst (λ (xs : List Place). c.loop-place.place-index < length xs) items c.loop-place-test.true in
    let early : (slice_index_or c.self.inside.places.places c.loop-place.place-index no_place).first ≤ c.interval_of-interval.result = subst (λ (xs : List Place). (slice_index_or xs c.loop-place.place-index no_place).first ≤ c.interval_of-interval.result) items c.if-place-interval.true in
    subst (λ (xs : List Participant). (slice_index_or c.list-place-items.result.now c.loop-place.place-index no_place).who < length xs) (sym people)
    (subst (λ (xs : List Place). (slice_index_or xs c.loop-place.place-index no_place).who < length c.args.self.now.participants) (sym items)
    (ranked_among c.args.self.now c.self.inside.places kept c.args.step c.interval_of-interval.result c.loop-place.place-index c.interval_of-interval.ensures less early))

pub octagon_in-octagon-requires-clause-interval : goal.octagon_in-octagon-requires-clause-interval
octagon_in-octagon-requires-clause-interval c =
    let kept : IsKept c.args.self.now c.self.inside.places = subst (λ (o : Occupancies). IsKept o c.self.inside.places) c.self.view_is c.self.invariant in
    let people : c.deref.result.now ≡ c.args.self.now.participants = c.deref.ensures.value ∙ ap (λ (o : Occupancies). o.participants) c.self.view_is in
    let items : c.list-place-items.result.now ≡ c.self.inside.places.places = c.list-place-items.ensures in
    let less : c.loop-place.place-index < length c.self.inside.places.places = subst (λ (xs : List Place). c.loop-place.place-index < length xs) items c.loop-place-test.true in
    let early : (slice_index_or c.self.inside.places.places c.loop-place.place-index no_place).first ≤ c.interval_of-interval.result = subst (λ (xs : List Place). (slice_index_or xs c.loop-place.place-index no_place).first ≤ c.interval_of-interval.result) items c.if-place-interval.true in
    let at = ranked_found c.args.self.now c.self.inside.places kept c.args.step c.interval_of-interval.result c.loop-place.place-index c.requires.step c.interval_of-interval.ensures less early in
    subst (λ (xs : List Participant). c.interval_of-interval.result < length (slice_index_or xs (slice_index_or c.list-place-items.result.now c.loop-place.place-index no_place).who nobody).octs) (sym people)
    (subst (λ (xs : List Place). c.interval_of-interval.result < length (slice_index_or c.args.self.now.participants (slice_index_or xs c.loop-place.place-index no_place).who nobody).octs) (sym items) at.long)

pub loop-place-preserved : goal.loop-place-preserved
loop-place-preserved c =
    let kept : IsKept c.args.self.now c.self.inside.places = subst (λ (o : Occupancies). IsKept o c.self.inside.places) c.self.view_is c.self.invariant in
    let items : c.list-place-items.result.now ≡ c.self.inside.places.places = c.list-place-items.ensures in
    let less : c.loop-place.place-index < length c.self.inside.places.places = subst (λ (xs : List Place). c.loop-place.place-index < length xs) items c.loop-place-test.true in
    elim c.if-place-interval.branch [
      | then-place-interval w ↦
          let people : w.deref.result.now ≡ c.args.self.now.participants = w.deref.ensures.value ∙ ap (λ (o : Occupancies). o.participants) c.self.view_is in
          let early : (slice_index_or c.self.inside.places.places c.loop-place.place-index no_place).first ≤ c.interval_of-interval.result = subst (λ (xs : List Place). (slice_index_or xs c.loop-place.place-index no_place).first ≤ c.interval_of-interval.result) items w.if-place-interval.true in
          let at = ranked_found c.args.self.now c.self.inside.places kept c.args.step c.interval_of-interval.result c.loop-place.place-index c.requires.step c.interval_of-interval.ensures less early in
          let octagon : w.octagon_in-octagon.result.now ≡ slice_index_or (slice_index_or c.args.self.now.participants (slice_index_or c.self.inside.places.places c.loop-place.place-index no_place).who nobody).octs c.interval_of-interval.result no_octagon =
          subst (λ (xs : List Place). w.octagon_in-octagon.result.now ≡ slice_index_or (slice_index_or c.args.self.now.participants (slice_index_or xs c.loop-place.place-index no_place).who nobody).octs c.interval_of-interval.result no_octagon) items
          (subst (λ (xs : List Participant). w.octagon_in-octagon.result.now ≡ slice_index_or (slice_index_or xs (slice_index_or c.list-place-items.result.now c.loop-place.place-index no_place).who nobody).octs c.interval_of-interval.result no_octagon) people w.octagon_in-octagon.ensures) in
          let n : ℕ = length c.args.self.now.fixed + length (places_in c.interval_of-interval.result (take c.loop-place.place-index c.self.inside.places.places)) in
          let outline : HasOutline (pieces_at c.args.self.now c.args.step) n w.octagon_in-octagon.result.now (slice_index_or c.list-place-items.result.now c.loop-place.place-index no_place).bounds =
          subst (λ (x : OctNumbers). HasOutline (pieces_at c.args.self.now c.args.step) n x (slice_index_or c.list-place-items.result.now c.loop-place.place-index no_place).bounds) (sym octagon)
          (subst (λ (xs : List Place). HasOutline (pieces_at c.args.self.now c.args.step) n (slice_index_or (slice_index_or c.args.self.now.participants (slice_index_or c.self.inside.places.places c.loop-place.place-index no_place).who nobody).octs c.interval_of-interval.result no_octagon) (slice_index_or xs c.loop-place.place-index no_place).bounds) (sym items) at.outline) in
          let range : IsRange (range_of (pieces_at c.args.self.now c.args.step) n) w.span_of-then-place-interval.result = range_found (pieces_at c.args.self.now c.args.step) n w.octagon_in-octagon.result.now (slice_index_or c.list-place-items.result.now c.loop-place.place-index no_place).bounds w.span_of-then-place-interval.result outline w.span_of-then-place-interval.ensures.piece in
          let one = one_in c.self.inside.places.places c.interval_of-interval.result c.loop-place.place-index no_place less early in
          record {
            sum = more_rows _ (c.args.b.now.ylo, c.args.b.now.yhi) (range_of (pieces_at c.args.self.now c.args.step)) n _ c.loop-place.rows c.if-place-interval.rows (omega (arith, one)) c.loop-place.invariant.sum
                (w.rows-is ∙ ap (λ (m : ℕ). c.loop-place.rows + m) (w.rows_met-rows-then-place-interval.ensures.value (range_of (pieces_at c.args.self.now c.args.step) n) range));
            few = omega (arith, w.rows-is, w.rows_met-rows-then-place-interval.ensures.few, c.loop-place.invariant.few);
          }
      | else-place-interval w ↦
          let late : c.interval_of-interval.result < (slice_index_or c.list-place-items.result.now c.loop-place.place-index no_place).first = omega (arith, w.if-place-interval.false) in
          let same = one_out c.self.inside.places.places c.interval_of-interval.result c.loop-place.place-index no_place less (subst (λ (xs : List Place). c.interval_of-interval.result < (slice_index_or xs c.loop-place.place-index no_place).first) items late) in
          record {
            sum = w.rows-is ∙ (c.loop-place.invariant.sum ∙ ap (λ (m : ℕ). rows_of (to_z w64 (of_z w64 c.args.g)) (c.args.b.now.ylo, c.args.b.now.yhi) (range_of (pieces_at c.args.self.now c.args.step)) (length c.args.self.now.fixed + m)) (sym same));
            few = omega (arith, w.rows-is, c.loop-place.invariant.few);
          }
    ]

pub returns-clause-sum : goal.returns-clause-sum
returns-clause-sum c =
    let kept : IsKept c.args.self.now c.self.inside.places = subst (λ (o : Occupancies). IsKept o c.self.inside.places) c.self.view_is c.self.invariant in
    let f : FitsSigned w64 c.args.g = c.ranges.g in
    let items : c.list-place-items.result.now ≡ c.self.inside.places.places = c.list-place-items.ensures in
    let past : length c.self.inside.places.places ≤ c.loop-place.place-index = subst (λ (xs : List Place). length xs ≤ c.loop-place.place-index) items (omega (arith, c.loop-place-test.false)) in
    let whole : take c.loop-place.place-index c.self.inside.places.places ≡ c.self.inside.places.places = take_all c.loop-place.place-index c.self.inside.places.places past in
    let count : length c.args.self.now.fixed + length (places_in c.interval_of-interval.result (take c.loop-place.place-index c.self.inside.places.places)) ≡ length (pieces_at c.args.self.now c.args.step) =
    ap (λ (xs : List Place). length c.args.self.now.fixed + length (places_in c.interval_of-interval.result xs)) whole ∙ count_is c.args.self.now c.self.inside.places kept c.args.step c.interval_of-interval.result c.interval_of-interval.ensures in
    let sum : c.loop-place.rows ≡ rows_of c.args.g (c.args.b.now.ylo, c.args.b.now.yhi) (range_of (pieces_at c.args.self.now c.args.step)) (length c.args.self.now.fixed + length (places_in c.interval_of-interval.result (take c.loop-place.place-index c.self.inside.places.places))) =
    subst (λ (z : ℤ). c.loop-place.rows ≡ rows_of z (c.args.b.now.ylo, c.args.b.now.yhi) (range_of (pieces_at c.args.self.now c.args.step)) (length c.args.self.now.fixed + length (places_in c.interval_of-interval.result (take c.loop-place.place-index c.self.inside.places.places)))) (to_z-of_z f) c.loop-place.invariant.sum in
    subst (λ (m : ℕ). c.loop-place.rows ≡ rows_of c.args.g (c.args.b.now.ylo, c.args.b.now.yhi) (range_of (pieces_at c.args.self.now c.args.step)) m) count sum
