-- The lane polygons of a prediction are the pairs of its scenario.
use Rattle.std.proofs.Common.{◌≡◌, inl, inr, ◌+◌, List, [], ◌∷◌, Bool, true, false, ℕ, length, map, refl, sym, ap, ◌∙◌}
use Rattle.std.specs.Prelude.{sum_by}
use Rattle.std.proofs.lemmas.List.{length-map}
use Rattle.std.proofs.lemmas.List.Sums.{sum_by-cons}
use Rattle.spot_terms.specs.Cells.{Lane}
use Rattle.spot_terms.specs.LanePolygons.{LanePolygon}
use Rattle.spot_terms.specs.Lists.{Pairwise}
use Rattle.spot_terms.specs.Participants.{starting, ReachesCells, PairsSumTo, HasPairs}
use Rattle.spot_terms.specs.declared.scenario.Mover.{Mover}
use Rattle.spot_terms.specs.declared.scenario.Scenario.{Scenario}
use Rattle.lane_occupancy.specs.Polygons.{polygon_of}
use Rattle.participants.specs.Predictions.{IsParticipant, Occupancies, IsPrediction}
use Rattle.participants.specs.declared.participant.Participant.{Participant}

abbrev pub polygons_of : Participant → ℕ
polygons_of p = length p.polys

module _ (lanes : List Lane) (k steps : ℕ) where
  -- a participant reaches as many cells as it has polygons
  reaches : (m : Mover) (p : Participant) (b : Bool) → p.lane ≡ b → IsParticipant lanes k steps m p → ReachesCells lanes k steps m (polygons_of p)
  reaches m p true e h =
      let are = h.polygons e in
      inl (h.lane.0 e, (p.start, p.speed, map (λ (x : LanePolygon). x.cell) (map polygon_of p.polys), h.start, are.cells_are, sym (length-map (map polygon_of p.polys) (λ (x : LanePolygon). x.cell) ∙ length-map p.polys polygon_of)))
  reaches m p false e h = inr (λ follows. (let t : p.lane ≡ true = h.lane.1 follows in cc), ap length (h.free e))

  pairs : (ms : List Mover) (ps : List Participant) → Pairwise (IsParticipant lanes k steps) ms ps → PairsSumTo lanes k steps ms (sum_by polygons_of ps)
  pairs [] [] h = refl
  pairs [] (p ∷ ps) h = absurd h
  pairs (m ∷ ms) [] h = absurd h
  pairs (m ∷ ms) (p ∷ ps) h = (polygons_of p, sum_by polygons_of ps, reaches m p p.lane refl h.0, pairs ms ps h.1, sum_by-cons polygons_of p ps)

pub pairs_of : (s : Scenario) (steps : ℕ) (o : Occupancies) → IsPrediction s steps o → HasPairs s steps (sum_by polygons_of o.participants)
pairs_of s steps o is = pairs s.lanelets.entries s.step steps (starting s.movers) o.participants is.participants
