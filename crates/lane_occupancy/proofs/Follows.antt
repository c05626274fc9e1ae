-- A lane motion stands at each tick in a cell whose label the reach length has got to.
use Rattle.std.proofs.Common.{◌≡◌, ℕ, zero, suc, ◌+◌, ◌≤◌, arith, refl, sym, subst, List, [], ◌∷◌, ℤ}
use Rattle.std.proofs.lemmas.Option.{same_Some, none-some}
use Rattle.std.specs.Prelude.{nat_abs, slice_get, Some}
use Rattle.spot_terms.specs.Cells.{Lane}
use Rattle.spot_terms.specs.Hull.{whole_pt}
use Rattle.spot_terms.specs.LaneMotions.{Trip, RoadState, planar_part, StartsSlow, InCell, Drives, IsLaneMotion}
use Rattle.spot_terms.specs.LanePolygons.{reach_length}
use Rattle.spot_terms.specs.Motions.{State, Starts, InBox}
use Rattle.spot_terms.specs.Routes.{IsRoute, IsLabel}
use Rattle.spot_terms.specs.declared.plain.Pt.{Pt}
use Rattle.spot_terms.specs.declared.plain.VBox.{VBox}
use Rattle.spot_terms.proofs.Hulls.{hull_first}
use Rattle.lane_occupancy.proofs.Lengths.{no_way}
use Rattle.lane_occupancy.proofs.Paces.{pieces, bounds_pieces}
use Rattle.lane_occupancy.proofs.Unrefuted.{Unrefuted, stable}
use Rattle.lane_occupancy.proofs.Ways.{Stands, drives_to}

-- a cell that holds q, and a route to it from p of length at most n, which can't be refuted
pub record StandsAt (lanes : List Lane) (p : Pt) (n : ℕ) (q : Pt) : Type 0 where
  pub cell : ℕ
  pub in_cell : InCell lanes cell (whole_pt q)
  pub route : Unrefuted ((m : ℕ) × IsRoute lanes p cell m × (m ≤ n))

-- the road state of a planar state
road_state : (road : List RoadState) (k : ℕ) (t : State) → slice_get (planar_part road) k ≡ Some t → (r : RoadState) × (slice_get road k ≡ Some r) × (r.0 ≡ t)
road_state [] k t h = absurd (none-some t h)
road_state (s ∷ road) zero t h = (s, refl, same_Some s.0 t h)
road_state (s ∷ road) (suc k) t h = road_state road k t h

module _ (lanes : List Lane) where
  -- what stands after a drive from p stands there after a route from p
  from_start : (p : Pt) (c n m : ℕ) (q : Pt) → n ≤ m → InCell lanes c (whole_pt p) → Stands lanes c n p q → StandsAt lanes p m q
  from_start p c n m q low i w = record {
    cell = w.cell;
    in_cell = w.in_cell;
    route = λ refuse. w.reaches (p ∷ []) (whole_pt p) 0 (omega arith) (hull_first p []) (no_way (whole_pt p)) (λ g. refuse (
      g.length,
      record {
        first = c;
        legs = g.legs;
        portals = g.portals;
        last = g.last;
        starts = (i.0, i.1, i.3);
        leads = g.leads;
        crosses = g.crosses;
        last_is = g.last_is;
        length = g.sums;
      },
      le g.length g.within,
    ));
  }
    where
      le : (l : ℕ) → l ≤ 0 + n → l ≤ m
      le l h = omega arith

  -- k ticks after a start at p with a speed of at most s0
  after_ticks : (p : Pt) (s0 a v c k : ℕ) (b : VBox) (road : List RoadState) (trips : List Trip) (t : RoadState)
      → Starts (λ s. (s.p ≡ p) × InBox b s.v) (planar_part road) → StartsSlow s0 road → InCell lanes c (whole_pt p) → Drives lanes a v c road trips → slice_get road k ≡ Some t
      → StandsAt lanes p (reach_length s0 a v k) t.0.p
  after_ticks p s0 a v c k b [] trips t st slow i d at = absurd st
  after_ticks p s0 a v c k b (s ∷ road) trips t st slow i d at =
      let first : InCell lanes c (whole_pt s.0.p) = subst (λ x. InCell lanes c (whole_pt x)) (sym st.0) i in
      from_start p c (pieces k trips) (reach_length s0 a v k) t.0.p (bounds_pieces s0 a v k lanes c (s ∷ road) trips d slow) i
      (subst (λ x. Stands lanes c (pieces k trips) x t.0.p) st.0 (drives_to lanes a v c s road trips k t d first at))

  -- a lane motion stands at each tick in a cell that a route within the reach length leads to
  pub stands_at : (p : Pt) (b : VBox) (a v : ℤ) (s0 : ℕ) (states : List State) (k : ℕ) (t : State)
      → IsLaneMotion lanes p b a v s0 states → slice_get states k ≡ Some t → StandsAt lanes p (reach_length s0 (nat_abs a) (nat_abs v) k) t.p
  stands_at p b a v s0 states k t m at =
      let (r, r_at, r_is) = road_state m.road k t (subst (λ (x : List State). slice_get x k ≡ Some t) m.states_are at) in
      subst (λ (x : State). StandsAt lanes p (reach_length s0 (nat_abs a) (nat_abs v) k) x.p) r_is
      (after_ticks p s0 (nat_abs a) (nat_abs v) m.start_cell k b m.road m.trips r
      (subst (λ (x : List State). Starts (λ s. (s.p ≡ p) × InBox b s.v) x) m.states_are m.planar.start) m.slow m.in_start m.drives r_at)

-- the label of the cell is at most the bound
pub label_reached : (lanes : List Lane) (p q : Pt) (m n : ℕ) (w : StandsAt lanes p m q) → IsLabel lanes p w.cell n → n ≤ m
label_reached lanes p q m n w l = stable n m (λ f. w.route (λ r. f (le r.0 (l.least r.0 r.1) r.2)))
  where
    le : (x : ℕ) → n ≤ x → x ≤ m → n ≤ m
    le x g h = omega arith
