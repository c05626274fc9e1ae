use Rattle.std.proofs.Common.{◌≡◌, ℕ, List, length, ap, sym, ◌∙◌, subst}
use Rattle.std.specs.List.{AllByRecursion}
use Rattle.lanelets.specs.declared.cell.Placed.{Placed}
use Rattle.lanelets.specs.Listing.{AreLists}
use Rattle.lanelets.specs.Nearby.{HasPieceNumber}
use Rattle.lanelets.specs.Steps.{net_of, IsInside, IsOfLane}
use Rattle.lanelets.proofs.PairLists.{net_many}
use Rattle.lanelets.proofs.nearby.nearby_of.Goals as goal

pub pieces_of-requires : goal.pieces_of-requires
pieces_of-requires c =
    let many : length c.deref.result.now ≡ length c.args.lanes.now.entries = ap length c.deref.ensures.value ∙ c.in_ok-parts.ensures.many ∙ c.lane_count.ensures.is in
    subst (λ (n : ℕ). AllByRecursion (λ (p : Placed). IsInside n p.origin) c.args.cells.now) (sym many) c.requires.inside

pub returns : goal.returns
returns c =
    let net = net_of c.args.cells.now in
    record {
      neighbours = c.in_ok-neighbours.ensures;
      parts = subst (λ (n : ℕ). AreLists (λ e i. IsOfLane net i e) n c.in_ok-parts.parts.items) c.lane_count.ensures.is c.in_ok-parts.ensures;
      pieces = subst (λ (lists : List (List ℕ)). AreLists (λ k i. HasPieceNumber lists net i k) (length net) c.in_ok-pieces.pieces.items) c.deref.ensures.value
          (subst (λ (n : ℕ). AreLists (λ k i. HasPieceNumber c.deref.result.now net i k) n c.in_ok-pieces.pieces.items) (sym (net_many c.args.cells.now)) c.in_ok-pieces.ensures);
    }
