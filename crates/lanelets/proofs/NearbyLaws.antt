-- What is listed near a lanelet.
use Rattle.std.proofs.Common.{◌≡◌, ◌∙◌, ℕ, ◌+◌, ◌%◌, ◌<◌, List, length, sym, ap, subst, arith}
use Rattle.std.proofs.lemmas.Nat.{mod_below}
use Rattle.std.proofs.lemmas.Option.{same_Some}
use Rattle.std.specs.Prelude.{◌↔◌, Some, None, slice_get, slice_index_or}
use Rattle.spot_terms.specs.Cells.{Lane, NetCell}
use Rattle.spot_terms.specs.Lists.{Pairwise}
use Rattle.spot_terms.specs.declared.network.Origin.TheVariants.{Part, Bridge}
use Rattle.spot_terms.proofs.ListLemmas.{all_of}
use Rattle.lanelets.specs.declared.cell.Placed.{Placed}
use Rattle.lanelets.specs.declared.kept.KeptLane.{KeptLane}
use Rattle.lanelets.specs.declared.nearby.Nearby.{Nearby}
use Rattle.lanelets.specs.Kept.{IsKept}
use Rattle.lanelets.specs.Listing.{AreBelow}
use Rattle.lanelets.specs.Nearby.{AreKept, HasPieceNumber, IsNearby, IsPieceNumber}
use Rattle.lanelets.specs.Steps.{net_of, HasOrigin}
use Rattle.lanelets.proofs.PairLists.{net_many}
use Rattle.lanelets.proofs.Places.{same_at, same_lengths}
use Rattle.lanelets.proofs.StepLists.{item_low, lanes_low, origin_is, no_part}
use Rattle.spot_terms.proofs.ItemPlaces.{got_below}

-- a cell of a piece is a cell, and the number of the piece is below that of the cells
pub piece_low : (cells : List Placed) (lists : List (List ℕ)) (c k : ℕ) → HasPieceNumber lists (net_of cells) c k → c < length cells
piece_low cells lists c k h = item_low cells c h.4 h.5

pub number_low : (cells : List Placed) (lists : List (List ℕ)) (c k : ℕ) → HasPieceNumber lists (net_of cells) c k → k < length cells
number_low cells lists c k h =
    let low = item_low cells c h.4 h.5 in
    let many = net_many cells in
    let some : 0 < length (net_of cells) = omega (arith, low, many) in
    let under : k < length (net_of cells) = subst (λ (z : ℕ). z < length (net_of cells)) (sym h.7.2) (mod_below _ (length (net_of cells)) some) in
    omega (arith, under, many)

module _ (lanes : List Lane) (net : List NetCell) (kept : List KeptLane) (nearby : Nearby) (k : AreKept lanes net kept nearby) where
  -- there is a list of neighbours for each lanelet
  pub neighbours_reach : (e : ℕ) → e < length kept → e < length nearby.neighbours.items
  neighbours_reach e low = let many = same_lengths IsKept lanes kept k.each in let as_many = k.near.neighbours.many in omega (arith, low, many, as_many)

  -- and one of its cells
  pub parts_reach : (e : ℕ) → e < length kept → e < length nearby.parts.items
  parts_reach e low = let many = same_lengths IsKept lanes kept k.each in let as_many = k.near.parts.many in omega (arith, low, many, as_many)

  -- and one for each number of a piece
  pub pieces_reach : (n : ℕ) → n < length net → n < length nearby.pieces.items
  pieces_reach n low = let as_many = k.near.pieces.many in omega (arith, low, as_many)

  -- neighbours are lanelets
  pub neighbours_below : (e : ℕ) (row : List ℕ) → slice_get nearby.neighbours.items e ≡ Some row → AreBelow (length kept) row
  neighbours_below e row h = all_of (λ x. x < length kept) row (λ x i.
      let (l, m, at, other, t) = (k.near.neighbours.each e row h).each x i in
      let low = got_below lanes x m other in
      let many = same_lengths IsKept lanes kept k.each in omega (arith, low, many))

-- what is listed as cells are cells
pub parts_below : (lanes : List Lane) (cells : List Placed) (kept : List KeptLane) (nearby : Nearby) → AreKept lanes (net_of cells) kept nearby → (f : ℕ) (list : List ℕ) → slice_get nearby.parts.items f ≡ Some list → AreBelow (length cells) list
parts_below lanes cells kept nearby k f list h = all_of (λ x. x < length cells) list (λ x i. lanes_low cells x f ((k.near.parts.each f list h).each x i))

-- the cells of a piece are cells
pub pieces_below : (lanes : List Lane) (cells : List Placed) (kept : List KeptLane) (nearby : Nearby) → AreKept lanes (net_of cells) kept nearby → (n : ℕ) (list : List ℕ) → slice_get nearby.pieces.items n ≡ Some list → AreBelow (length cells) list
pieces_below lanes cells kept nearby k n list h = all_of (λ x. x < length cells) list (λ x i. piece_low cells nearby.parts.items x n ((k.near.pieces.each n list h).each x i))

-- one piece has one number
number_one : (lists : List (List ℕ)) (n e piece k j : ℕ) → IsPieceNumber lists n e piece k → IsPieceNumber lists n e piece j → k ≡ j
number_one lists n e piece k j g h = g.2 ∙ ap (λ (z : List ℕ). (slice_index_or z 0 0 + piece) % n) (same_at lists e g.0 h.0 g.1 h.1) ∙ sym h.2

same_part : (e piece part parts f q i n : ℕ) → Part e piece part parts ≡ Part f q i n → (e ≡ f) × (piece ≡ q)
same_part e piece part parts f q i n h = (cc, cc)

-- the number of the piece of a cell
pub part_number : (lists : List (List ℕ)) (net : List NetCell) (c e piece part parts k : ℕ) → HasOrigin net c (Part e piece part parts) → IsPieceNumber lists (length net) e piece k → (j : ℕ) → (Some k ≡ Some j) ↔ HasPieceNumber lists net c j
part_number lists net c e piece part parts k o number j = (
  (λ same. (e, piece, part, parts, o.0, o.1, o.2, subst (λ (z : ℕ). IsPieceNumber lists (length net) e piece z) (same_Some k j same) number)),
  (λ h.
      let p = same_part h.0 h.1 h.2 h.3 e piece part parts (sym h.6 ∙ origin_is net c h.4 (Part e piece part parts) h.5 o) in
      ap (λ (z : ℕ). Some z) (number_one lists (length net) e piece k j number (subst (λ (z : ℕ). IsPieceNumber lists (length net) z piece j) p.0 (subst (λ (z : ℕ). IsPieceNumber lists (length net) h.0 z j) p.1 h.7)))),
)

-- a bridge is a part of no piece
pub bridge_number : (lists : List (List ℕ)) (net : List NetCell) (c e f : ℕ) → HasOrigin net c (Bridge e f) → (j : ℕ) → (None ≡ Some j) ↔ HasPieceNumber lists net c j
bridge_number lists net c e f o j = ((λ h. cc), (λ h. absurd (no_part e f h.0 h.1 h.2 h.3 (sym (origin_is net c h.4 (Bridge e f) h.5 o) ∙ h.6))))

-- as the code has them
pub kept_near : (lanes : List Lane) (cells : List Placed) (kept looked : List KeptLane) (nearby : Nearby) → looked ≡ kept → Pairwise IsKept lanes kept → IsNearby lanes (net_of cells) nearby → AreKept lanes (net_of cells) looked nearby
kept_near lanes cells kept looked nearby e p n = record { each = subst (Pairwise IsKept lanes) (sym e) p; near = n }
