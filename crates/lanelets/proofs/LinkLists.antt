-- Positions of lanelets by their ids, and which follow which.
use Rattle.std.proofs.Common.{◌≡◌, ◌∙◌, ◌⊎◌, inl, inr, ℕ, ◌<◌, Bool, true, false, ◌==◌, ◌||◌, List, [], ◌∷◌, ◌++◌, length, get_or, sym, ap, subst, arith, nat_eq}
use Rattle.std.proofs.lemmas.Bool.{cases_lt, cases_eq, eqb-true, eq-eqb}
use Rattle.std.proofs.lemmas.Cmp.{nat_eq_equiv}
use Rattle.std.proofs.lemmas.List.{length-map}
use Rattle.std.proofs.lemmas.List.Quantifiers.{position-Some}
use Rattle.std.proofs.lemmas.Map.Entries.{hash_map_get_place}
use Rattle.std.proofs.lemmas.Map.Keys.{apart_from_distinct}
use Rattle.std.proofs.lemmas.Option.{get_or_from_slice_get, slice_get-map}
use Rattle.std.specs.HashMap.{HashMap, IsUnique, get_by, get}
use Rattle.std.specs.List.{AllByRecursion, list_any, position, IsDistinct}
use Rattle.std.specs.Map.{keys_of}
use Rattle.std.specs.Option.{is_some, option_map}
use Rattle.std.specs.Prelude.{◌↔◌, Some, None, slice_get}
use Rattle.spot_terms.specs.Cells.{Lane}
use Rattle.spot_terms.specs.Lists.{Includes, Pairwise}
use Rattle.spot_terms.specs.declared.scenario.RawLane.{RawLane}
use Rattle.spot_terms.proofs.ListLemmas.{all_included, includes_back, includes_either, includes_front}
use Rattle.lanelets.specs.Listing.{AreBelow, AreColumns}
use Rattle.lanelets.specs.Links.{IsPlaceOf, ArePlaces, AreSuccessors, IsFollowed}
use Rattle.lanelets.proofs.Disjunctions.{either, or_first, or_later, or_second}
use Rattle.lanelets.proofs.Places.{same_at, partner_at, same_lengths}
use Rattle.spot_terms.proofs.ItemPlaces.{got_below, item_at}
use Rattle.spot_terms.proofs.Orders.{true_not_false}

-- ---- the position of an id

key_at : (lanes : List Lane) (f : ℕ) (l : Lane) (d : ℕ) → slice_get lanes f ≡ Some l → get_or (keys_of lanes) f d ≡ l.0
key_at lanes f l d h = get_or_from_slice_get (keys_of lanes) f l.0 d (slice_get-map (λ (e : Lane). e.0) lanes f ∙ ap (option_map (λ (e : Lane). e.0)) h)

pub place_some : (lanes : List Lane) (id p : ℕ) → position (nat_eq id) (keys_of lanes) ≡ Some p → IsDistinct nat_eq (keys_of lanes) → IsPlaceOf lanes id (Some p)
place_some lanes id p h unique =
    let at = position-Some (nat_eq id) (keys_of lanes) p 0 h in
    let many : length (keys_of lanes) ≡ length lanes = length-map lanes (λ (e : Lane). e.0) in
    let there : id ≡ get_or (keys_of lanes) p 0 = eqb-true id (get_or (keys_of lanes) p 0) at.1 in
    let low = at.0 in (
      omega (arith, low, many),
      λ f l g.
          let key : get_or (keys_of lanes) f 0 ≡ l.0 = key_at lanes f l 0 g in
          let within : f < length lanes = got_below lanes f l g in (
            (λ e. elim (cases_eq f p) [
              | inl same ↦ same
              | inr other ↦ elim (cases_lt f p) [
                | inl before ↦ absurd (true_not_false (nat_eq id (get_or (keys_of lanes) f 0)) (eq-eqb id (get_or (keys_of lanes) f 0) (e ∙ sym key)) (at.2 f before))
                | inr after ↦ absurd (true_not_false (nat_eq (get_or (keys_of lanes) p 0) (get_or (keys_of lanes) f 0)) (eq-eqb (get_or (keys_of lanes) p 0) (get_or (keys_of lanes) f 0) (sym there ∙ e ∙ sym key))
                    (apart_from_distinct nat_eq (keys_of lanes) p f 0 unique (omega (arith, other, after)) (omega (arith, within, many))))
              ]
            ]),
            (λ e. there ∙ ap (λ k. get_or (keys_of lanes) k 0) (sym e) ∙ key),
          ),
    )

pub place_none : {S : Type 0} (m : HashMap ℕ RawLane S) (id : ℕ) → IsUnique nat_eq m → is_some (get_by (nat_eq id) m) ≡ false → IsPlaceOf m.entries id None
place_none m id unique h f l g e =
    let found : get nat_eq m l.0 ≡ Some l.1 = hash_map_get_place nat_eq_equiv m f l.0 l.1 unique g in
    let same : get_by (nat_eq id) m ≡ Some l.1 = ap (λ k. get nat_eq m k) e ∙ found in
    let some : is_some (get_by (nat_eq id) m) ≡ true = ap (λ o. is_some o) same in
    cc

-- ---- the positions of ids

any_front : (t : ℕ → Bool) (xs : List ℕ) (y : ℕ) → list_any t xs ≡ true → list_any t (xs ++ y ∷ []) ≡ true
any_front t [] y h = cc
any_front t (x ∷ xs) y h = or_later (t x) (list_any t xs) (list_any t (xs ++ y ∷ [])) (λ k. any_front t xs y k) h

any_back : (t : ℕ → Bool) (xs : List ℕ) (y : ℕ) → t y ≡ true → list_any t (xs ++ y ∷ []) ≡ true
any_back t [] y h = or_first (t y) false h
any_back t (x ∷ xs) y h = or_second (t x) (list_any t (xs ++ y ∷ [])) (any_back t xs y h)

any_either : (t : ℕ → Bool) (xs : List ℕ) (y : ℕ) → list_any t (xs ++ y ∷ []) ≡ true → (list_any t xs ≡ true) ⊎ (t y ≡ true)
any_either t [] y h = elim (either (t y) false h) [ inl e ↦ inr e | inr e ↦ inl e ]
any_either t (x ∷ xs) y h = elim (either (t x) (list_any t (xs ++ y ∷ [])) h) [
  | inl e ↦ inl (or_first (t x) (list_any t xs) e)
  | inr e ↦ elim (any_either t xs y e) [ inl k ↦ inl (or_second (t x) (list_any t xs) k) | inr k ↦ inr k ]
]

pub places_none : (lanes : List Lane) → ArePlaces lanes [] []
places_none lanes = record { within = tt; each = λ f l h. (λ i. absurd i, λ e. cc) }

all_push : (n : ℕ) (xs : List ℕ) (y : ℕ) → AreBelow n xs → y < n → AreBelow n (xs ++ y ∷ [])
all_push n [] y a h = (h, tt)
all_push n (x ∷ xs) y a h = (a.0, all_push n xs y a.1 h)

pub places_next : (lanes : List Lane) (ids places : List ℕ) (id p : ℕ) → ArePlaces lanes ids places → IsPlaceOf lanes id (Some p) → ArePlaces lanes (ids ++ id ∷ []) (places ++ p ∷ [])
places_next lanes ids places id p a h = record {
  within = all_push (length lanes) places p a.within h.0;
  each = λ f l g. let test : ℕ → Bool = λ i. i == l.0 in (
    (λ i. elim (includes_either places (p ∷ []) f i) [
      | inl j ↦ any_front test ids id ((a.each f l g).0 j)
      | inr j ↦ elim j [ inl e ↦ any_back test ids id (eq-eqb id l.0 ((h.1 f l g).1 e)) | inr k ↦ absurd k ]
    ]),
    (λ t. elim (any_either test ids id t) [
      | inl k ↦ includes_front places (p ∷ []) f ((a.each f l g).1 k)
      | inr k ↦ includes_back places (p ∷ []) f (inl ((h.1 f l g).0 (eqb-true id l.0 k)))
    ]),
  );
}

pub places_skip : (lanes : List Lane) (ids places : List ℕ) (id : ℕ) → ArePlaces lanes ids places → IsPlaceOf lanes id None → ArePlaces lanes (ids ++ id ∷ []) places
places_skip lanes ids places id a h = record {
  within = a.within;
  each = λ f l g. let test : ℕ → Bool = λ i. i == l.0 in (
    (λ i. any_front test ids id ((a.each f l g).0 i)),
    (λ t. elim (any_either test ids id t) [
      | inl k ↦ (a.each f l g).1 k
      | inr k ↦ absurd (h f l g (eqb-true id l.0 k))
    ]),
  );
}

-- ---- rows

-- the rows that hold the places of the ids that P lists
abbrev pub ArePlacesOf : (Lane → List ℕ) → List Lane → Lane → List ℕ → Type 0
ArePlacesOf P every l row = ArePlaces every (P l) row

pub places_within : (P : Lane → List ℕ) (every lanes : List Lane) (rows : List (List ℕ)) → Pairwise (ArePlacesOf P every) lanes rows → AllByRecursion (AreBelow (length every)) rows
places_within P every [] [] p = tt
places_within P every [] (row ∷ rows) p = absurd p
places_within P every (l ∷ lanes) [] p = absurd p
places_within P every (l ∷ lanes) (row ∷ rows) p = (p.0.within, places_within P every lanes rows p.1)

pub successors_within : (every lanes : List Lane) (rows : List (List ℕ)) → Pairwise (λ (l : Lane) row. ArePlaces every l.1.successors row) lanes rows → AllByRecursion (AreBelow (length every)) rows
successors_within every lanes rows p = places_within (λ l. l.1.successors) every lanes rows p

-- P lists the lanelet at f for that at e, or Q that at e for that at f
abbrev pub AreNamed : (Lane → List ℕ) → (Lane → List ℕ) → List Lane → ℕ → ℕ → Type 0
AreNamed P Q lanes e f = (l m : Lane) × (slice_get lanes e ≡ Some l) × (slice_get lanes f ≡ Some m) × ((list_any (λ i. i == m.0) (P l) || list_any (λ i. i == l.0) (Q m)) ≡ true)

-- those that Q lists for a lanelet, and those for which P lists it
pub named_row : (P Q : Lane → List ℕ) (lanes : List Lane) (rows columns : List (List ℕ)) (f : ℕ) (m : Lane) (before listing : List ℕ)
    → slice_get lanes f ≡ Some m → Pairwise (ArePlacesOf P lanes) lanes rows → AreColumns rows (length lanes) columns → ArePlaces lanes (Q m) before → slice_get columns f ≡ Some listing
    → (e : ℕ) → (Includes (before ++ listing) e ↔ AreNamed P Q lanes e f)
named_row P Q lanes rows columns f m before listing at all turned places here e = (to, from)
  where
    many : length rows ≡ length lanes
    many = same_lengths (ArePlacesOf P lanes) lanes rows all

    to : Includes (before ++ listing) e → AreNamed P Q lanes e f
    to i = elim (includes_either before listing e i) [
      | inl j ↦ (let (l, h) = item_at lanes e (all_included (λ x. x < length lanes) before e places.within j) in
          (l, m, h, at, or_second (list_any (λ i. i == m.0) (P l)) (list_any (λ i. i == l.0) (Q m)) ((places.each e l h).0 j)))
      | inr j ↦ (let (row, was, k) = (turned.each f listing here).each e j in
          let low : e < length rows = got_below rows e row was in
          let (l, h) = item_at lanes e (omega (arith, low, many)) in
          let p : ArePlaces lanes (P l) row = partner_at (ArePlacesOf P lanes) lanes rows e l row all h was in
          (l, m, h, at, or_first (list_any (λ i. i == m.0) (P l)) (list_any (λ i. i == l.0) (Q m)) ((p.each f m at).0 k)))
    ]

    from : AreNamed P Q lanes e f → Includes (before ++ listing) e
    from (l, n, h, g, t) =
        let same : n ≡ m = same_at lanes f n m g at in
        let t' : (list_any (λ i. i == m.0) (P l) || list_any (λ i. i == l.0) (Q m)) ≡ true = subst (λ (k : Lane). (list_any (λ i. i == k.0) (P l) || list_any (λ i. i == l.0) (Q k)) ≡ true) same t in
        elim (either (list_any (λ i. i == m.0) (P l)) (list_any (λ i. i == l.0) (Q m)) t') [
          | inl k ↦ (let low : e < length lanes = got_below lanes e l h in
              let (row, was) = item_at rows e (omega (arith, low, many)) in
              let p : ArePlaces lanes (P l) row = partner_at (ArePlacesOf P lanes) lanes rows e l row all h was in
              includes_back before listing e ((turned.each f listing here).all e (row, was, (p.each f m at).1 k)))
          | inr k ↦ includes_front before listing e ((places.each e l h).1 k)
        ]

-- the predecessors of a lanelet, and those that list it
pub source_row : (lanes : List Lane) (successors columns : List (List ℕ)) (f : ℕ) (m : Lane) (before listing : List ℕ)
    → slice_get lanes f ≡ Some m → AreSuccessors lanes successors → AreColumns successors (length lanes) columns → ArePlaces lanes m.1.predecessors before → slice_get columns f ≡ Some listing
    → (e : ℕ) → (Includes (before ++ listing) e ↔ IsFollowed lanes e f)
source_row lanes successors columns f m before listing at rows turned places here e =
    named_row (λ l. l.1.successors) (λ l. l.1.predecessors) lanes successors columns f m before listing at rows turned places here e

-- the positions that follow and are followed are those of lanelets
pub followed_low : (lanes : List Lane) (e f : ℕ) → IsFollowed lanes e f → e < length lanes
followed_low lanes e f h = got_below lanes e h.0 h.2

pub follower_within : (lanes : List Lane) (f e : ℕ) → IsFollowed lanes e f → f < length lanes
follower_within lanes f e h = got_below lanes f h.1 h.3
