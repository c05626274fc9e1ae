-- Places that are appended, with the pieces that they are of.
use Rattle.std.proofs.Common.{◌≡◌, ◌∙◌, ℕ, ◌+◌, ◌<◌, ◌≤◌, List, [], ◌∷◌, ◌++◌, map, filter, length, take, get_or, Bool, true, false, Some, None, refl, sym, ap, subst, arith, append_assoc, append-nil, ℤ}
use Rattle.std.specs.Prelude.{flat_map, slice_index_or, nat_le, if◌then◌else◌}
use Rattle.std.proofs.lemmas.Bool.Decides.{nat_tests}
use Rattle.std.proofs.lemmas.List.{map-append, take_all, take_more}
use Rattle.std.proofs.lemmas.List.Elements.{filter-append}
use Rattle.spot_terms.specs.LanePolygons.{LanePolygon}
use Rattle.spot_terms.specs.Lists.{Pairwise}
use Rattle.spot_terms.specs.OccupiedPieces.{pieces_in}
use Rattle.spot_terms.specs.Pieces.{Piece, octagon, cut_octagon}
use Rattle.spot_terms.proofs.ListLemmas.{pairwise_push}
use Rattle.spot_terms.proofs.Places.{same_index}
use Rattle.convex_poly.specs.Boxes.{IsBoxOf}
use Rattle.convex_poly.specs.declared.boxes.BoundingBox.{BoundingBox}
use Rattle.lane_occupancy.specs.Polygons.{polygon_of}
use Rattle.lane_occupancy.specs.declared.polygons.LanePoly.{LanePoly}
use Rattle.participants.specs.Pieces.{octagon_at, participant_pieces, cut_pieces}
use Rattle.participants.specs.Places.{piece_at, places_in, IsPlaceOf, nobody, no_polygon}
use Rattle.participants.specs.declared.participant.Participant.{Participant}
use Rattle.participants.specs.declared.places.Place.{Place}
use Rattle.spot_terms.proofs.Orders.{true_not_false}

-- ---- the pieces of one participant

by_lane : (p : Participant) (i : ℕ) (b : Bool) → p.lane ≡ b → participant_pieces i p ≡ pieces_in (octagon_at p i) i (if b then Some (map polygon_of p.polys) else None)
by_lane p i b e = ap (λ (t : Bool). pieces_in (octagon_at p i) i (if t then Some (map polygon_of p.polys) else None)) e

free_pieces : (p : Participant) (i : ℕ) → p.lane ≡ false → participant_pieces i p ≡ octagon (octagon_at p i) ∷ []
free_pieces p i e = by_lane p i false e

pub lane_pieces : (p : Participant) (i : ℕ) → p.lane ≡ true → participant_pieces i p ≡ cut_pieces (octagon_at p i) i (map polygon_of p.polys)
lane_pieces p i e = by_lane p i true e

piece_by : (p : Participant) (i w : ℕ) (b : Bool) → p.lane ≡ b → piece_at i w p ≡ (if b then cut_octagon (octagon_at p i) (slice_index_or p.polys w no_polygon).poly else octagon (octagon_at p i))
piece_by p i w b e = ap (λ (t : Bool). if t then cut_octagon (octagon_at p i) (slice_index_or p.polys w no_polygon).poly else octagon (octagon_at p i)) e

pub free_piece : (p : Participant) (i w : ℕ) → p.lane ≡ false → piece_at i w p ≡ octagon (octagon_at p i)
free_piece p i w e = piece_by p i w false e

pub lane_piece : (p : Participant) (i w : ℕ) → p.lane ≡ true → piece_at i w p ≡ cut_octagon (octagon_at p i) (slice_index_or p.polys w no_polygon).poly
lane_piece p i w e = piece_by p i w true e

-- ---- one more polygon

cut_longer : (ns : List ℤ) (i : ℕ) (polys : List LanePoly) (x : LanePoly) → cut_pieces ns i (map polygon_of (polys ++ x ∷ [])) ≡ cut_pieces ns i (map polygon_of polys) ++ cut_pieces ns i (polygon_of x ∷ [])
cut_longer ns i polys x =
    ap (λ (xs : List LanePolygon). map (λ (x : LanePolygon). cut_octagon ns x.corners) (filter (λ (x : LanePolygon). nat_le x.first i) xs)) (map-append polygon_of polys (x ∷ []))
    ∙ (ap (map (λ (x : LanePolygon). cut_octagon ns x.corners)) (filter-append (λ (x : LanePolygon). nat_le x.first i) (map polygon_of polys) (polygon_of x ∷ []))
    ∙ map-append (λ (x : LanePolygon). cut_octagon ns x.corners) (filter (λ (x : LanePolygon). nat_le x.first i) (map polygon_of polys)) (filter (λ (x : LanePolygon). nat_le x.first i) (polygon_of x ∷ [])))

cut_in : (ns : List ℤ) (i : ℕ) (x : LanePoly) → nat_le x.first i ≡ true → cut_pieces ns i (polygon_of x ∷ []) ≡ cut_octagon ns x.poly ∷ []
cut_in ns i x t = rw t refl

cut_out : (ns : List ℤ) (i : ℕ) (x : LanePoly) → nat_le x.first i ≡ false → cut_pieces ns i (polygon_of x ∷ []) ≡ []
cut_out ns i x t = rw t refl

taken : (polys : List LanePoly) (w : ℕ) (x : LanePoly) → w < length polys → x ≡ get_or polys w x → take (w + 1) polys ≡ take w polys ++ x ∷ []
taken polys w x h e = take_more polys w x h ∙ ap (λ (y : LanePoly). take w polys ++ y ∷ []) (sym e)

-- ---- one more place

place_in : (i : ℕ) (places : List Place) (x : Place) → nat_le x.first i ≡ true → places_in i (places ++ x ∷ []) ≡ places_in i places ++ x ∷ []
place_in i places x t = filter-append (λ (y : Place). nat_le y.first i) places (x ∷ []) ∙ rw t refl

place_out : (i : ℕ) (places : List Place) (x : Place) → nat_le x.first i ≡ false → places_in i (places ++ x ∷ []) ≡ places_in i places
place_out i places x t = filter-append (λ (y : Place). nat_le y.first i) places (x ∷ []) ∙ rw t (append-nil (places_in i places))

-- the places that came to the old ones are those of the pieces
abbrev pub Follows : List Participant → ℕ → List Place → List Place → List Piece → Type 0
Follows participants interval old new pieces = (before : List Piece) → Pairwise (IsPlaceOf participants interval) (places_in interval old) before → Pairwise (IsPlaceOf participants interval) (places_in interval new) (before ++ pieces)

-- the pieces of the first w lane polygons
abbrev pub pieces_before : Participant → ℕ → ℕ → List Piece
pieces_before p interval w = cut_pieces (octagon_at p interval) interval (map polygon_of (take w p.polys))

zero_early : (i : ℕ) → nat_le 0 i ≡ true
zero_early i = grind (arith, nat_tests)

module _ (participants : List Participant) (who : ℕ) (among : who < length participants) (interval : ℕ) where
  -- the place of a participant that is free
  pub put_free : (old new : List Place) → (slice_index_or participants who nobody).lane ≡ false → new ≡ old ++ record { who = who; which = 0; first = 0; bounds = None } ∷ []
      → Follows participants interval old new (participant_pieces interval (slice_index_or participants who nobody))
  put_free old new free e before are =
      let place : Place = record { who = who; which = 0; first = 0; bounds = None } in
      rw (e, free_pieces (slice_index_or participants who nobody) interval free, place_in interval old (record { who = who; which = 0; first = 0; bounds = None }) (zero_early interval))
      (pairwise_push (IsPlaceOf participants interval) (places_in interval old) before (record { who = who; which = 0; first = 0; bounds = None }) (octagon (octagon_at (slice_index_or participants who nobody) interval)) are
      (record { among = among; which = λ t. absurd (true_not_false _ t free); is = sym (free_piece (slice_index_or participants who nobody) interval 0 free); outline = refl }))

  pub none_before : (old : List Place) → Follows participants interval old old (pieces_before (slice_index_or participants who nobody) interval 0)
  none_before old before are = subst (λ (ps : List Piece). Pairwise (IsPlaceOf participants interval) (places_in interval old) ps) (sym (append-nil before)) are

  -- the place of one more lane polygon
  pub put_polygon : (b : Bool) (old now new : List Place) (w : ℕ) (x : LanePoly) (box : BoundingBox) → IsBoxOf x.poly box → nat_le x.first interval ≡ b → (slice_index_or participants who nobody).lane ≡ true → w < length (slice_index_or participants who nobody).polys
      → x ≡ get_or (slice_index_or participants who nobody).polys w x → new ≡ now ++ record { who = who; which = w; first = x.first; bounds = Some box } ∷ []
      → Follows participants interval old now (pieces_before (slice_index_or participants who nobody) interval w) → Follows participants interval old new (pieces_before (slice_index_or participants who nobody) interval (w + 1))
  put_polygon true old now new w x box h t lane less item e follows before are =
      let ns : List ℤ = octagon_at (slice_index_or participants who nobody) interval in
      let place : Place = record { who = who; which = w; first = x.first; bounds = Some box } in
      let longer : pieces_before (slice_index_or participants who nobody) interval (w + 1) ≡ pieces_before (slice_index_or participants who nobody) interval w ++ cut_octagon (octagon_at (slice_index_or participants who nobody) interval) x.poly ∷ [] =
      ap (λ (xs : List LanePoly). cut_pieces (octagon_at (slice_index_or participants who nobody) interval) interval (map polygon_of xs)) (taken (slice_index_or participants who nobody).polys w x less item)
      ∙ (cut_longer (octagon_at (slice_index_or participants who nobody) interval) interval (take w (slice_index_or participants who nobody).polys) x
      ∙ ap (λ (ps : List Piece). pieces_before (slice_index_or participants who nobody) interval w ++ ps) (cut_in (octagon_at (slice_index_or participants who nobody) interval) interval x t)) in
      subst (λ (ps : List Piece). Pairwise (IsPlaceOf participants interval) (places_in interval new) (before ++ ps)) (sym longer)
      (subst (λ (ps : List Piece). Pairwise (IsPlaceOf participants interval) (places_in interval new) ps) (append_assoc before (pieces_before (slice_index_or participants who nobody) interval w) (cut_octagon (octagon_at (slice_index_or participants who nobody) interval) x.poly ∷ []))
      (subst (λ (ps : List Place). Pairwise (IsPlaceOf participants interval) ps ((before ++ pieces_before (slice_index_or participants who nobody) interval w) ++ cut_octagon (octagon_at (slice_index_or participants who nobody) interval) x.poly ∷ []))
      (sym (ap (places_in interval) e ∙ place_in interval now (record { who = who; which = w; first = x.first; bounds = Some box }) t))
      (pairwise_push (IsPlaceOf participants interval) (places_in interval now) (before ++ pieces_before (slice_index_or participants who nobody) interval w)
      (record { who = who; which = w; first = x.first; bounds = Some box }) (cut_octagon (octagon_at (slice_index_or participants who nobody) interval) x.poly) (follows before are)
      (record {
        among = among;
        which = λ l. less;
        is = ap (λ (y : LanePoly). cut_octagon (octagon_at (slice_index_or participants who nobody) interval) y.poly) (item ∙ same_index (slice_index_or participants who nobody).polys w w x no_polygon less refl)
            ∙ sym (lane_piece (slice_index_or participants who nobody) interval w lane);
        outline = (x.poly, refl, h);
      }))))
  put_polygon false old now new w x box h t lane less item e follows before are =
      let longer : pieces_before (slice_index_or participants who nobody) interval (w + 1) ≡ pieces_before (slice_index_or participants who nobody) interval w =
      ap (λ (xs : List LanePoly). cut_pieces (octagon_at (slice_index_or participants who nobody) interval) interval (map polygon_of xs)) (taken (slice_index_or participants who nobody).polys w x less item)
      ∙ (cut_longer (octagon_at (slice_index_or participants who nobody) interval) interval (take w (slice_index_or participants who nobody).polys) x
      ∙ (ap (λ (ps : List Piece). pieces_before (slice_index_or participants who nobody) interval w ++ ps) (cut_out (octagon_at (slice_index_or participants who nobody) interval) interval x t)
      ∙ append-nil (pieces_before (slice_index_or participants who nobody) interval w))) in
      subst (λ (ps : List Piece). Pairwise (IsPlaceOf participants interval) (places_in interval new) (before ++ ps)) (sym longer)
      (subst (λ (ps : List Place). Pairwise (IsPlaceOf participants interval) ps (before ++ pieces_before (slice_index_or participants who nobody) interval w))
      (sym (ap (places_in interval) e ∙ place_out interval now (record { who = who; which = w; first = x.first; bounds = Some box }) t))
      (follows before are))

  -- the places of all lane polygons are those of the participant
  pub polygons_put : (old new : List Place) (w : ℕ) → (slice_index_or participants who nobody).lane ≡ true → length (slice_index_or participants who nobody).polys ≤ w
      → Follows participants interval old new (pieces_before (slice_index_or participants who nobody) interval w) → Follows participants interval old new (participant_pieces interval (slice_index_or participants who nobody))
  polygons_put old new w lane past follows before are = subst (λ (ps : List Piece). Pairwise (IsPlaceOf participants interval) (places_in interval new) (before ++ ps))
      (ap (λ (xs : List LanePoly). cut_pieces (octagon_at (slice_index_or participants who nobody) interval) interval (map polygon_of xs)) (take_all w (slice_index_or participants who nobody).polys past) ∙ sym (lane_pieces (slice_index_or participants who nobody) interval lane)) (follows before are)

-- one more participant
pub places_longer : (participants : List Participant) (interval who : ℕ) (old new : List Place) → who < length participants
    → ((before : List Piece) → Pairwise (IsPlaceOf participants interval) (places_in interval old) before → Pairwise (IsPlaceOf participants interval) (places_in interval new) (before ++ participant_pieces interval (slice_index_or participants who nobody)))
    → Pairwise (IsPlaceOf participants interval) (places_in interval old) (flat_map (participant_pieces interval) (take who participants))
    → Pairwise (IsPlaceOf participants interval) (places_in interval new) (flat_map (participant_pieces interval) (take (who + 1) participants))
places_longer participants interval who old new h follows are =
    let longer : flat_map (participant_pieces interval) (take (who + 1) participants) ≡ flat_map (participant_pieces interval) (take who participants) ++ participant_pieces interval (slice_index_or participants who nobody) =
    ap (flat_map (participant_pieces interval)) (take_more participants who nobody h) ∙ flat_longer (participant_pieces interval) (take who participants) (slice_index_or participants who nobody) in
    subst (λ (ps : List Piece). Pairwise (IsPlaceOf participants interval) (places_in interval new) ps) (sym longer) (follows (flat_map (participant_pieces interval) (take who participants)) are)
  where
    flat_longer : {X Y : Type 0} (f : X → List Y) (xs : List X) (x : X) → flat_map f (xs ++ x ∷ []) ≡ flat_map f xs ++ f x
    flat_longer f [] x = append-nil (f x)
    flat_longer f (y ∷ xs) x = ap (λ zs. f y ++ zs) (flat_longer f xs x) ∙ sym (append_assoc (f y) (flat_map f xs) (f x))
