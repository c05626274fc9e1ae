-- How many cells pieces and lanelets have.
use Rattle.std.proofs.Common.{◌≡◌, ◌∙◌, ℕ, zero, suc, ◌+◌, ◌≤◌, List, length, drop, refl, ap, arith, length-append}
use Rattle.std.proofs.lemmas.List.{length-map, length_push}
use Rattle.std.specs.Prelude.{Some, slice_get}
use Rattle.spot_terms.specs.Cells.{Pair, Lane, part_count, part_cell, cells_of_piece, cells_from, lane_cells, bridges_from, cells}
use Rattle.spot_terms.specs.Lists.{numbers_below}
use Rattle.spot_terms.specs.declared.scenario.RawLane.{RawLane}
use Rattle.spot_terms.specs.Ranges.{lane_size, lanes_size}
use Rattle.lanelets.specs.Pieces.{IsPieceAt}
use Rattle.lanelets.specs.declared.piece.Piece.{Piece}
use Rattle.lanelets.proofs.LaneCells.{pieces_step, pieces_end, lanes_step, lanes_end}
use Rattle.lanelets.proofs.Places.{drop_at}

length_below : (n : ℕ) → length (numbers_below n) ≡ n
unfolding numbers_below
length_below zero = refl
length_below (suc n) = length_push (numbers_below n) n ∙ omega (arith, length_below n)

piece_count : (lane q : ℕ) (l l' r r' : Pair) → length (cells_of_piece lane q l l' r r') ≡ part_count l l' r r'
piece_count lane q l l' r r' = length-map (numbers_below (part_count l l' r r')) (part_cell lane q l l' r r' (part_count l l' r r')) ∙ length_below (part_count l l' r r')

-- the count goes on by the parts of a piece
pub piece_counted : (lane q : ℕ) (raw : RawLane) (p : Piece) (n k m total : ℕ) → IsPieceAt raw q p → k ≡ part_count p.left p.left_end p.right p.right_end → m ≡ n + k
    → n + length (cells_from lane q (drop q raw.left) (drop q raw.right)) ≡ total → m + length (cells_from lane (q + 1) (drop (q + 1) raw.left) (drop (q + 1) raw.right)) ≡ total
piece_counted lane q raw p n k m total is e f was =
    let step = pieces_step lane q (q + 1) raw.left raw.right p.left p.left_end p.right p.right_end refl is.left is.left_end is.right is.right_end in
    let both : length (cells_from lane q (drop q raw.left) (drop q raw.right)) ≡ length (cells_of_piece lane q p.left p.left_end p.right p.right_end) + length (cells_from lane (q + 1) (drop (q + 1) raw.left) (drop (q + 1) raw.right)) =
    ap length step ∙ length-append (cells_of_piece lane q p.left p.left_end p.right p.right_end) (cells_from lane (q + 1) (drop (q + 1) raw.left) (drop (q + 1) raw.right)) in
    let here = piece_count lane q p.left p.left_end p.right p.right_end in
    omega (arith, both, here, e, f, was)

pub pieces_counted : (lane q : ℕ) (raw : RawLane) (n total : ℕ) → length raw.left ≡ q + 1 → n + length (cells_from lane q (drop q raw.left) (drop q raw.right)) ≡ total → n ≡ total
pieces_counted lane q raw n total e was = let none : length (cells_from lane q (drop q raw.left) (drop q raw.right)) ≡ 0 = ap length (pieces_end lane q raw.left (drop q raw.right) e) in omega (arith, none, was)

-- and by those of a lanelet
pub lane_counted : (lanes : List Lane) (e n k m total : ℕ) (l : Lane) → slice_get lanes e ≡ Some l → k ≡ length (cells_from e 0 l.1.left l.1.right) → m ≡ n + k
    → n + length (lane_cells e (drop e lanes)) ≡ total → m + length (lane_cells (e + 1) (drop (e + 1) lanes)) ≡ total
lane_counted lanes e n k m total l h is f was =
    let both : length (lane_cells e (drop e lanes)) ≡ length (cells_from e 0 l.1.left l.1.right) + length (lane_cells (e + 1) (drop (e + 1) lanes)) =
    ap length (lanes_step e (e + 1) lanes l refl h) ∙ length-append (cells_from e 0 l.1.left l.1.right) (lane_cells (e + 1) (drop (e + 1) lanes)) in
    omega (arith, both, is, f, was)

pub lanes_counted : (lanes : List Lane) (e n total : ℕ) → length lanes ≤ e → n + length (lane_cells e (drop e lanes)) ≡ total → n ≡ total
lanes_counted lanes e n total h was = let none : length (lane_cells e (drop e lanes)) ≡ 0 = ap length (lanes_end e lanes h) in omega (arith, none, was)

-- the sizes of the lanelets from one on
pub size_next : (lanes : List Lane) (e : ℕ) (l : Lane) → slice_get lanes e ≡ Some l → lanes_size (drop e lanes) ≡ lane_size l.1 + lanes_size (drop (e + 1) lanes)
size_next lanes e l h = ap lanes_size (drop_at lanes e (e + 1) l refl h)

pub all_counted : (lanes : List Lane) (n m : ℕ) → n ≡ length (lane_cells 0 lanes) → m ≡ length (bridges_from lanes 0 lanes) → n + m ≡ length (cells lanes)
unfolding cells
all_counted lanes n m e f = let both = length-append (lane_cells 0 lanes) (bridges_from lanes 0 lanes) in omega (arith, e, f, both)
