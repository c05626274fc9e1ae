-- Where a piece of a prediction is found.
use Rattle.std.proofs.Common.{◌≡◌, ◌∙◌, ℕ, zero, suc, ◌+◌, ◌-◌, ◌<◌, ◌≤◌, List, [], ◌∷◌, ◌++◌, map, length, get_or, take, true, Option, None, Some, ℤ, refl, sym, ap, subst, arith, length-append}
use Rattle.std.specs.Prelude.{flat_map, slice_get, slice_index_or}
use Rattle.std.proofs.lemmas.List.{length-map}
use Rattle.std.proofs.lemmas.Option.{slice_get-get_or, slice_get-map}
use Rattle.spot_terms.specs.Lists.{Pairwise}
use Rattle.spot_terms.specs.Pieces.{Piece, octagon, range_of, y_range}
use Rattle.spot_terms.proofs.ItemPlaces.{get_front}
use Rattle.spot_terms.proofs.ListLemmas.{pairwise_length}
use Rattle.spot_terms.proofs.Places.{all_at, same_index}
use Rattle.spot_terms.proofs.Unique.{some_injective}
use Rattle.convex_poly.specs.declared.boxes.BoundingBox.{BoundingBox}
use Rattle.convex_poly.specs.declared.oct_numbers.OctNumbers.{OctNumbers}
use Rattle.carve.specs.Ranges.{IsRange}
use Rattle.participants.specs.Pieces.{fixed_piece, no_octagon, participant_pieces, pieces_at, HasOutline, IsOutlined}
use Rattle.participants.specs.Places.{piece_at, places_in, no_place, nobody, IsKept, IsPlaceOf, PlaceTable}
use Rattle.participants.specs.Predictions.{IsSmall, IsSmallIn, Occupancies}
use Rattle.participants.specs.declared.participant.Participant.{Participant}
use Rattle.participants.specs.declared.places.Place.{Place}
use Rattle.participants.proofs.Ranks.{count_small, place_got}

in_back : {X : Type 0} (xs ys : List X) (i : ℕ) → slice_get (xs ++ ys) (length xs + i) ≡ slice_get ys i
in_back [] ys i = ap (slice_get ys) (let z : 0 + i ≡ i = omega arith in z)
in_back (x ∷ xs) ys i = ap (slice_get (x ∷ (xs ++ ys))) (let z : length (x ∷ xs) + i ≡ suc (length xs + i) = omega arith in z) ∙ in_back xs ys i

-- the partner of an item
partner_at : {X Y : Type 0} (R : X → Y → Type 0) (xs : List X) (ys : List Y) (i : ℕ) (x : X) → slice_get xs i ≡ Some x → Pairwise R xs ys → (y : Y) × (slice_get ys i ≡ Some y) × R x y
partner_at R [] ys i x e p = cc
partner_at R (z ∷ xs) [] i x e p = absurd p
partner_at R (z ∷ xs) (y ∷ ys) zero x e p = (y, refl, subst (λ v. R v y) (some_injective z x e) p.0)
partner_at R (z ∷ xs) (y ∷ ys) (suc i) x e p = partner_at R xs ys i x e p.1

-- the range of a piece that is found
pub range_is : (pieces : List Piece) (p : ℕ) (piece : Piece) → slice_get pieces p ≡ Some piece → y_range piece ≡ range_of pieces p
range_is pieces p piece e = rw (range_of, e) refl

pub range_found : (pieces : List Piece) (p : ℕ) (o : OctNumbers) (bounds : Option BoundingBox) (span : Option (ℤ × ℤ)) → HasOutline pieces p o bounds
    → ((piece : Piece) → IsOutlined piece o bounds → IsRange (y_range piece) span) → IsRange (range_of pieces p) span
range_found pieces p o bounds span (piece, e, is) f = subst (λ (r : ℤ × ℤ). IsRange r span) (range_is pieces p piece e) (f piece is)

module _ (o : Occupancies) (table : PlaceTable) (kept : IsKept o table) where
  pub interval_less : (i interval : ℕ) → i ≤ o.steps → interval ≡ i - 1 → interval < table.intervals
  interval_less i interval h e = let s = kept.some in let t = kept.intervals in omega (arith, s, h, e, t)

  -- how many pieces a step has
  pub count_is : (i interval : ℕ) → interval ≡ i - 1 → length o.fixed + length (places_in interval table.places) ≡ length (pieces_at o i)
  unfolding pieces_at
  count_is i interval e =
      let long : length (places_in (i - 1) table.places) ≡ length (flat_map (participant_pieces (i - 1)) o.participants) =
      pairwise_length (IsPlaceOf o.participants (i - 1)) (places_in (i - 1) table.places) (flat_map (participant_pieces (i - 1)) o.participants) (kept.places (i - 1)) in
      let front = length-map o.fixed fixed_piece in
      let both : length (map fixed_piece o.fixed ++ flat_map (participant_pieces (i - 1)) o.participants) ≡ length (map fixed_piece o.fixed) + length (flat_map (participant_pieces (i - 1)) o.participants) = length-append (map fixed_piece o.fixed) (flat_map (participant_pieces (i - 1)) o.participants) in
      ap (λ (m : ℕ). length o.fixed + length (places_in m table.places)) e ∙ omega (arith, long, front, both)

  pub few_pieces : (interval : ℕ) → length o.fixed + length (places_in interval table.places) ≤ 1_073_745_920
  few_pieces interval = let a = kept.few in let b = count_small table.places interval in let c = kept.few_places in omega (arith, a, b, c)

  -- one of the static obstacles
  pub fixed_found : (i p : ℕ) (f : ℕ × OctNumbers) → p < length o.fixed → f ≡ get_or o.fixed p f → slice_get (pieces_at o i) p ≡ Some (octagon f.1.n)
  unfolding pieces_at
  fixed_found i p f h e =
      get_front (map fixed_piece o.fixed) (flat_map (participant_pieces (i - 1)) o.participants) p (subst (λ (n : ℕ). p < n) (sym (length-map o.fixed fixed_piece)) h)
      ∙ (slice_get-map fixed_piece o.fixed p ∙ (rw (slice_get-get_or o.fixed p f h, sym e) refl))

  pub fixed_small : (p : ℕ) (f : ℕ × OctNumbers) → p < length o.fixed → f ≡ get_or o.fixed p f → IsSmall f.1
  fixed_small p f h e = subst (λ (g : ℕ × OctNumbers). IsSmall g.1) (sym e) (all_at (λ (g : ℕ × OctNumbers). IsSmall g.1) o.fixed p f kept.fixed h)

  -- a piece of a participant, by its place
  pub record IsAt (i p interval : ℕ) (place : Place) (person : Participant) : Type 0 where
    pub which : person.lane ≡ true → place.which < length person.polys
    pub long : interval < length person.octs
    pub small : IsSmall (slice_index_or person.octs interval no_octagon)
    pub is : slice_get (pieces_at o i) p ≡ Some (piece_at interval place.which person)
    pub outline : HasOutline (pieces_at o i) p (slice_index_or person.octs interval no_octagon) place.bounds

  behind : (i p : ℕ) (piece : Piece) → length o.fixed ≤ p → slice_get (flat_map (participant_pieces (i - 1)) o.participants) (p - length o.fixed) ≡ Some piece → slice_get (pieces_at o i) p ≡ Some piece
  unfolding pieces_at
  behind i p piece le e =
      let q : p ≡ length (map fixed_piece o.fixed) + (p - length o.fixed) = (let l = length-map o.fixed fixed_piece in omega (arith, l, le)) in
      subst (λ (n : ℕ). slice_get (map fixed_piece o.fixed ++ flat_map (participant_pieces (i - 1)) o.participants) n ≡ Some piece) (sym q)
      (in_back (map fixed_piece o.fixed) (flat_map (participant_pieces (i - 1)) o.participants) (p - length o.fixed) ∙ e)

  piece_of : (i p : ℕ) (place : Place) → length o.fixed ≤ p → slice_get (places_in (i - 1) table.places) (p - length o.fixed) ≡ Some place
      → (piece : Piece) × (slice_get (pieces_at o i) p ≡ Some piece) × IsPlaceOf o.participants (i - 1) place piece
  piece_of i p place le e =
      let (piece, f, is) = partner_at (IsPlaceOf o.participants (i - 1)) (places_in (i - 1) table.places) (flat_map (participant_pieces (i - 1)) o.participants) (p - length o.fixed) place e (kept.places (i - 1)) in
      (piece, behind i p piece le f, is)

  at_place : (i p : ℕ) (place : Place) (piece : Piece) → i ≤ o.steps → slice_get (pieces_at o i) p ≡ Some piece → IsPlaceOf o.participants (i - 1) place piece → IsAt i p (i - 1) place (slice_index_or o.participants place.who nobody)
  at_place i p place piece h e is =
      let small : IsSmallIn o.steps (slice_index_or o.participants place.who nobody) = all_at (IsSmallIn o.steps) o.participants place.who nobody kept.participants is.among in
      let long : i - 1 < length (slice_index_or o.participants place.who nobody).octs = (let l = small.octagons.long in let s = kept.some in omega (arith, l, s, h)) in record {
        which = is.which;
        long = long;
        small = all_at IsSmall (slice_index_or o.participants place.who nobody).octs (i - 1) no_octagon small.octagons.small long;
        is = e ∙ ap Some is.is;
        outline = (piece, e, is.outline);
      }

  -- the participant of the place of a rank is there
  pub rank_below : (i p interval fixed : ℕ) → interval ≡ i - 1 → fixed ≡ length o.fixed → fixed ≤ p → p < length (pieces_at o i) → p - fixed < length (places_in interval table.places)
  rank_below i p interval fixed e f le below = let n = count_is i interval e in omega (arith, n, f, le, below)

  pub among_found : (i p interval fixed : ℕ) (place : Place) → interval ≡ i - 1 → fixed ≡ length o.fixed → fixed ≤ p → slice_get (places_in interval table.places) (p - fixed) ≡ Some place → place.who < length o.participants
  among_found i p interval fixed place e f le g = (piece_of i p place (subst (λ (n : ℕ). n ≤ p) f le) (moved i p interval fixed place e f g)).2.among
    where
      moved : (i p interval fixed : ℕ) (place : Place) → interval ≡ i - 1 → fixed ≡ length o.fixed → slice_get (places_in interval table.places) (p - fixed) ≡ Some place → slice_get (places_in (i - 1) table.places) (p - length o.fixed) ≡ Some place
      moved i p interval fixed place e f g = subst (λ (m : ℕ). slice_get (places_in m table.places) (p - length o.fixed) ≡ Some place) e (subst (λ (n : ℕ). slice_get (places_in interval table.places) (p - n) ≡ Some place) f g)

  -- and its piece is this one
  pub person_found : (i p interval fixed : ℕ) (place : Place) (person : Participant) → i ≤ o.steps → interval ≡ i - 1 → fixed ≡ length o.fixed → fixed ≤ p → slice_get (places_in interval table.places) (p - fixed) ≡ Some place
      → person ≡ get_or o.participants place.who person → IsAt i p interval place person
  person_found i p interval fixed place person h e f le g is =
      let (piece, k, at) = piece_of i p place (subst (λ (n : ℕ). n ≤ p) f le)
      (subst (λ (m : ℕ). slice_get (places_in m table.places) (p - length o.fixed) ≡ Some place) e (subst (λ (n : ℕ). slice_get (places_in interval table.places) (p - n) ≡ Some place) f g)) in
      subst (λ (x : Participant). IsAt i p interval place x) (sym (is ∙ same_index o.participants place.who place.who person nobody at.among refl))
      (subst (λ (m : ℕ). IsAt i p m place (slice_index_or o.participants place.who nobody)) (sym e) (at_place i p place piece h k at))

  -- the place of a rank, and its participant
  pub place_found : (i p interval fixed : ℕ) (place : Place) → i ≤ o.steps → interval ≡ i - 1 → fixed ≡ length o.fixed → fixed ≤ p → slice_get (places_in interval table.places) (p - fixed) ≡ Some place
      → IsAt i p interval place (slice_index_or o.participants place.who nobody)
  place_found i p interval fixed place h e f le g =
      let (piece, k, at) = piece_of i p place (subst (λ (n : ℕ). n ≤ p) f le)
      (subst (λ (m : ℕ). slice_get (places_in m table.places) (p - length o.fixed) ≡ Some place) e (subst (λ (n : ℕ). slice_get (places_in interval table.places) (p - n) ≡ Some place) f g)) in
      subst (λ (m : ℕ). IsAt i p m place (slice_index_or o.participants place.who nobody)) (sym e) (at_place i p place piece h k at)

  -- the place that stands at j among all, where the interval has it: it has as many before it as its rank
  rank_of : (i interval j : ℕ) → j < length table.places → (slice_index_or table.places j no_place).first ≤ interval
      → slice_get (places_in interval table.places) (length o.fixed + length (places_in interval (take j table.places)) - length o.fixed) ≡ Some (slice_index_or table.places j no_place)
  rank_of i interval j less early =
      let n : ℕ = length (places_in interval (take j table.places)) in
      let got : slice_get (places_in interval table.places) n ≡ Some (slice_index_or table.places j no_place) =
      place_got table.places interval j n (slice_index_or table.places j no_place) less (same_index table.places j j no_place (slice_index_or table.places j no_place) less refl) early refl in
      let same : n ≡ length o.fixed + n - length o.fixed = omega arith in
      subst (λ (r : ℕ). slice_get (places_in interval table.places) r ≡ Some (slice_index_or table.places j no_place)) same got

  pub ranked_among : (i interval j : ℕ) → interval ≡ i - 1 → j < length table.places → (slice_index_or table.places j no_place).first ≤ interval → (slice_index_or table.places j no_place).who < length o.participants
  ranked_among i interval j e less early =
      let from : length o.fixed ≤ length o.fixed + length (places_in interval (take j table.places)) = omega arith in
      among_found i (length o.fixed + length (places_in interval (take j table.places))) interval (length o.fixed) (slice_index_or table.places j no_place) e refl from (rank_of i interval j less early)

  pub ranked_found : (i interval j : ℕ) → i ≤ o.steps → interval ≡ i - 1 → j < length table.places → (slice_index_or table.places j no_place).first ≤ interval
      → IsAt i (length o.fixed + length (places_in interval (take j table.places))) interval (slice_index_or table.places j no_place) (slice_index_or o.participants (slice_index_or table.places j no_place).who nobody)
  ranked_found i interval j h e less early =
      let from : length o.fixed ≤ length o.fixed + length (places_in interval (take j table.places)) = omega arith in
      place_found i (length o.fixed + length (places_in interval (take j table.places))) interval (length o.fixed) (slice_index_or table.places j no_place) h e refl from (rank_of i interval j less early)

  -- the range of one of the static obstacles
  pub fixed_range : (i p : ℕ) (items : List (ℕ × OctNumbers)) (d : ℕ × OctNumbers) (span : Option (ℤ × ℤ)) → items ≡ o.fixed → p < length items
      → ((piece : Piece) → IsOutlined piece (slice_index_or items p d).1 None → IsRange (y_range piece) span) → IsRange (range_of (pieces_at o i) p) span
  fixed_range i p items d span e less f =
      let inside : p < length o.fixed = subst (λ (xs : List (ℕ × OctNumbers)). p < length xs) e less in
      let is : slice_index_or items p d ≡ get_or o.fixed p (slice_index_or items p d) =
      subst (λ (xs : List (ℕ × OctNumbers)). slice_index_or items p d ≡ get_or xs p (slice_index_or items p d)) e (same_index items p p d (slice_index_or items p d) less refl) in
      subst (λ (r : ℤ × ℤ). IsRange r span) (range_is (pieces_at o i) p (octagon (slice_index_or items p d).1.n) (fixed_found i p (slice_index_or items p d) inside is)) (f (octagon (slice_index_or items p d).1.n) refl)
