-- The pieces of a prediction are those of its scenario.
use Rattle.std.proofs.Common.{◌≡◌, ◌∙◌, ℕ, zero, suc, ◌+◌, ◌-◌, ◌<◌, ◌≤◌, inl, inr, List, [], ◌∷◌, ◌++◌, map, length, Bool, true, false, Some, None, refl, sym, ap, subst, arith, ℤ}
use Rattle.std.specs.Prelude.{◌==◌, flat_map, slice_index_or, if◌then◌else◌}
use Rattle.std.proofs.lemmas.List.{length-map}
use Rattle.spot_terms.specs.Cells.{Lane}
use Rattle.spot_terms.specs.LanePolygons.{LanePolygon}
use Rattle.spot_terms.specs.Lists.{Pairwise, numbers_from}
use Rattle.spot_terms.specs.OccupiedPieces as terms
use Rattle.spot_terms.specs.OccupiedPieces.{Occupant, IsOccupant, HasPolygons, pieces_in, pieces_of, predicted_pieces}
use Rattle.spot_terms.specs.Participants.{starting, ReachesCells}
use Rattle.spot_terms.specs.Pieces.{Piece, octagon}
use Rattle.spot_terms.specs.Reach.{interval_numbers}
use Rattle.spot_terms.specs.declared.scenario.Fixed.{Fixed}
use Rattle.spot_terms.specs.declared.scenario.Mover.{Mover}
use Rattle.spot_terms.specs.declared.scenario.Scenario.{Scenario}
use Rattle.spot_terms.proofs.ListLemmas.{pairwise_map, pairwise_length, below-from, numbers_from_length, filter_short}
use Rattle.convex_poly.specs.declared.oct_numbers.OctNumbers.{OctNumbers}
use Rattle.lane_occupancy.specs.Polygons.{polygon_of}
use Rattle.participants.specs.Predictions.{IsParticipant, IsFixedOctagon, IsPrediction, AreOctagons, Occupancies}
use Rattle.participants.specs.Pieces.{no_octagon, octagon_at, lane_polygons, participant_pieces, fixed_piece, pieces_at, HasPieces}
use Rattle.participants.specs.declared.participant.Participant.{Participant}
use Rattle.participants.proofs.OneNumber.{reached_one}

-- ---- octagons by interval

same_at : (octs : List OctNumbers) (ns : List ℕ) (f : ℕ → List ℤ) (i : ℕ) → map (λ o. o.n) octs ≡ map f ns → i < length ns → (slice_index_or octs i no_octagon).n ≡ f (slice_index_or ns i 0)
same_at [] [] f i e h = absurd (omega (arith, h))
same_at [] (n ∷ ns) f i e h = cc
same_at (o ∷ octs) [] f i e h = cc
same_at (o ∷ octs) (n ∷ ns) f zero e h = cc
same_at (o ∷ octs) (n ∷ ns) f (suc i) e h = same_at octs ns f i (cc) (omega (arith, h))

from_at : (count n i : ℕ) → i < count → slice_index_or (numbers_from n count) i 0 ≡ n + i
from_at zero n i h = absurd (omega (arith, h))
from_at (suc count) n zero h = omega arith
from_at (suc count) n (suc i) h = from_at count (n + 1) i (omega (arith, h)) ∙ (let e : n + 1 + i ≡ n + suc i = omega arith in e)

octagon_is : (p : Participant) (k steps i : ℕ) → AreOctagons p.start k steps p.octs → i < steps → octagon_at p i ≡ interval_numbers p.start k i
octagon_is p k steps i e h =
    let f : map (λ (o : OctNumbers). o.n) p.octs ≡ map (interval_numbers p.start k) (numbers_from 0 steps) =
    subst (λ (ns : List ℕ). map (λ (o : OctNumbers). o.n) p.octs ≡ map (interval_numbers p.start k) ns) (below-from steps) e in
    same_at p.octs (numbers_from 0 steps) (interval_numbers p.start k) i f (subst (λ (n : ℕ). i < n) (sym (numbers_from_length 0 steps)) h)
    ∙ ap (interval_numbers p.start k) (from_at steps 0 i h ∙ (let z : 0 + i ≡ i = omega arith in z))

-- ---- occupants

occupant_of : Participant → Occupant
occupant_of p = record { start = p.start; polygons = lane_polygons p }

both_same : (a b c d : List Piece) → a ≡ b → c ≡ d → a ++ c ≡ b ++ d
both_same a b c d e f = cc

module _ (lanes : List Lane) (k steps : ℕ) where
  occupied_by : (m : Mover) (p : Participant) (b : Bool) → p.lane ≡ b → IsParticipant lanes k steps m p → HasPolygons lanes k steps m p.start p.speed (if b then Some (map polygon_of p.polys) else None)
  occupied_by m p true e h = (h.lane.0 e, h.polygons e)
  occupied_by m p false e h = λ f. let t : p.lane ≡ true = h.lane.1 f in cc

  occupies : (m : Mover) (p : Participant) → IsParticipant lanes k steps m p → IsOccupant lanes k steps m (occupant_of p)
  unfolding occupant_of
  occupies m p h = record { speed = p.speed; start = h.start; polygons = occupied_by m p p.lane refl h }

  all_occupy : (ms : List Mover) (ps : List Participant) → Pairwise (IsParticipant lanes k steps) ms ps → Pairwise (IsOccupant lanes k steps) ms (map occupant_of ps)
  all_occupy [] [] h = tt
  all_occupy [] (p ∷ ps) h = absurd h
  all_occupy (m ∷ ms) [] h = absurd h
  all_occupy (m ∷ ms) (p ∷ ps) h = (occupies m p h.0, all_occupy ms ps h.1)

  one_same : (p : Participant) (i : ℕ) → octagon_at p i ≡ interval_numbers p.start k i → participant_pieces i p ≡ pieces_of k i (occupant_of p)
  unfolding occupant_of
  one_same p i e = ap (λ (ns : List ℤ). pieces_in ns i (lane_polygons p)) e

  pieces_same : (ms : List Mover) (ps : List Participant) (i : ℕ) → i < steps → Pairwise (IsParticipant lanes k steps) ms ps → flat_map (participant_pieces i) ps ≡ flat_map (pieces_of k i) (map occupant_of ps)
  pieces_same [] [] i b h = refl
  pieces_same [] (p ∷ ps) i b h = absurd h
  pieces_same (m ∷ ms) [] i b h = absurd h
  pieces_same (m ∷ ms) (p ∷ ps) i b h =
      both_same (participant_pieces i p) (pieces_of k i (occupant_of p)) (flat_map (participant_pieces i) ps) (flat_map (pieces_of k i) (map occupant_of ps))
      (one_same p i (octagon_is p k steps i h.0.octagons b)) (pieces_same ms ps i b h.1)

  -- as many polygons as cells that are reached
  reached_by : (m : Mover) (p : Participant) (b : Bool) (count : ℕ) → p.lane ≡ b → IsParticipant lanes k steps m p → ReachesCells lanes k steps m count → length p.polys ≡ count
  reached_by m p true count e h (inl (f, (s, speed, reached, start, l, n))) =
      let same : map (λ (x : LanePolygon). x.cell) (map polygon_of p.polys) ≡ reached = reached_one lanes k steps m p.start s p.speed speed (map (λ (x : LanePolygon). x.cell) (map polygon_of p.polys)) reached h.start start (h.polygons e).cells_are l in
      sym (length-map p.polys polygon_of) ∙ (sym (length-map (map polygon_of p.polys) (λ (x : LanePolygon). x.cell)) ∙ (ap length same ∙ sym n))
  reached_by m p true count e h (inr (f, n)) = absurd (f (h.lane.0 e))
  reached_by m p false count e h (inl (f, r)) = let t : p.lane ≡ true = h.lane.1 f in cc
  reached_by m p false count e h (inr (f, n)) = ap length (h.free e) ∙ sym n

  pub polygons_count : (m : Mover) (p : Participant) (count : ℕ) → IsParticipant lanes k steps m p → ReachesCells lanes k steps m count → length p.polys ≡ count
  polygons_count m p count h r = reached_by m p p.lane count refl h r

-- ---- the pieces are the scenario's

fixed_same : (f : Fixed) (o : ℕ × OctNumbers) → IsFixedOctagon f o → terms.fixed_piece f ≡ fixed_piece o
fixed_same f o h = ap octagon (sym h.1)

pub has_pieces : (s : Scenario) (steps : ℕ) (o : Occupancies) → 1 ≤ steps → IsPrediction s steps o → HasPieces s steps o
unfolding pieces_at predicted_pieces
has_pieces s steps o some h = record {
  occupants = map occupant_of o.participants;
  occupants_are = all_occupy s.lanelets.entries s.step steps (starting s.movers) o.participants h.participants;
  pieces = λ i le. both_same _ _ _ _ (sym (pairwise_map IsFixedOctagon terms.fixed_piece fixed_piece s.fixed o.fixed fixed_same h.fixed))
      (pieces_same s.lanelets.entries s.step steps (starting s.movers) o.participants (i - 1) (omega (arith, some, le)) h.participants);
}

-- ---- how many participants there are

-- no more than dynamic obstacles
pub participants_few : {Y : Type 0} (R : Mover → Y → Type 0) (ms : List Mover) (ys : List Y) → Pairwise R (starting ms) ys → length ys ≤ length ms
participants_few R ms ys h = let a = pairwise_length R (starting ms) ys h in let b = filter_short (λ (m : Mover). m.time == 0) ms in omega (arith, a, b)
