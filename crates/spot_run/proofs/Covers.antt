-- The lines of a report with traffic cover each admissible motion of each participant.
use Rattle.std.proofs.Common.{◌≡◌, ◌∙◌, Some, inl, inr, ℕ, zero, suc, add-zero, zero-add, ◌+◌, ◌==◌, ◌<◌, ◌^◌, true, false, cond, List, [], ◌∷◌, ◌++◌, map, refl, sym, ap, subst, arith, ℤ}
use Rattle.std.specs.List.{flat_map}
use Rattle.std.specs.Prelude.{slice_get}
use Rattle.spot_terms.specs.Ids.{HaveUniqueIds}
use Rattle.spot_terms.specs.Lists.{Includes, Pairwise, numbers_from}
use Rattle.spot_terms.specs.Cells.{Lane}
use Rattle.spot_terms.specs.Bodies.{InDisc}
use Rattle.spot_terms.specs.LanePolygons.{LanePolygon}
use Rattle.spot_terms.specs.Motions.{State, InBox}
use Rattle.spot_terms.specs.Ranges.{IsMoverInRange, IsFixedInRange}
use Rattle.spot_terms.specs.Reach.{interval_numbers, disc_numbers}
use Rattle.spot_terms.specs.Report.{Line, mover_line, late_line, fixed_line, lane_line, occ_line}
use Rattle.spot_terms.specs.Participants.{starting}
use Rattle.spot_terms.specs.declared.lines.Mode.{Mode}
use Rattle.spot_terms.specs.declared.plain.Pt.{Pt}
use Rattle.spot_terms.specs.declared.command.Command.{Command}
use Rattle.spot_terms.specs.declared.scenario.Mover.{Mover}
use Rattle.spot_terms.specs.declared.scenario.Fixed.{Fixed}
use Rattle.spot_terms.specs.declared.scenario.Scenario.{Scenario}
use Rattle.spot_terms.proofs.ListLemmas.{below-from, includes_front, includes_back, includes_map, includes_flat_map, includes_filter, all_included, partner}
use Rattle.spot_terms.proofs.Members.{in_map}
use Rattle.heading.proofs.Boxes.{box_holds}
use Rattle.convex_poly.specs.declared.oct_numbers.OctNumbers.{OctNumbers}
use Rattle.round_out.proofs.Discs.{disc_in_octagon}
use Rattle.acc_occupancy.proofs.Bodies.{holds_bodies}
use Rattle.lane_occupancy.specs.Polygons.{polygon_of}
use Rattle.spot_claims.specs.ParticipantClaims.{pt, IsMoverLine, IsAdmissible, InPrintedLane, HoldsTick, IsCovered, CoversParticipants}
use Rattle.participants.specs.declared.participant.Participant.{Participant}
use Rattle.participants.specs.Predictions.{IsParticipant, HoldsMotions, IsFixedOctagon, Occupancies, IsPrediction}
use Rattle.spot_run.specs.Writes.{IsPredicted}
use Rattle.spot_run.specs.Lines.{line_of, obstacle_lines, octagon_line, octagon_lines, occupancy_lines, polygon_line, lane_lines, traffic_lines, report_lines}
use Rattle.spot_run.proofs.Alone.{AreOthers, mover_alone, octagon_alone, fixed_alone}
use Rattle.spot_terms.proofs.Orders.{zero_true}

-- ---- where lines stand

abbrev pub Partners : List Lane → ℕ → ℕ → List Mover → List Participant → Type 0
Partners lanes k steps ms ps = Pairwise (IsParticipant lanes k steps) (starting ms) ps

-- the line of each participant is among the obstacles'
mover_listed : (lanes : List Lane) (k steps : ℕ) (ms : List Mover) (ps : List Participant) (p : Participant) → Partners lanes k steps ms ps → Includes ps p → Includes (obstacle_lines ms ps) (mover_line (line_of p))
mover_listed lanes k steps [] [] p pairs i = i
mover_listed lanes k steps [] (q ∷ ps) p pairs i = pairs
mover_listed lanes k steps (m ∷ ms) [] p pairs i = absurd i
mover_listed lanes k steps (m ∷ ms) (q ∷ ps) p pairs i =
    let later : Partners lanes k steps ms ps → Includes ps p → Includes (obstacle_lines ms ps) (mover_line (line_of p)) = mover_listed lanes k steps ms ps p in
    let same : Partners lanes k steps ms (q ∷ ps) → Includes (q ∷ ps) p → Includes (obstacle_lines ms (q ∷ ps)) (mover_line (line_of p)) = mover_listed lanes k steps ms (q ∷ ps) p in
    (elim (m.time == 0) as (λ t. Pairwise (IsParticipant lanes k steps) (cond t (m ∷ starting ms) (starting ms)) (q ∷ ps) → Includes (q ∷ ps) p
    → Includes (cond t (mover_line (line_of q) ∷ obstacle_lines ms ps) (late_line m.id m.time ∷ obstacle_lines ms (q ∷ ps))) (mover_line (line_of p))) [
      | true ↦ λ pairs i. elim i as (λ _. Includes (mover_line (line_of q) ∷ obstacle_lines ms ps) (mover_line (line_of p))) [
        | inl e ↦ inl (ap (λ (x : Participant). mover_line (line_of x)) e)
        | inr j ↦ inr (later pairs.1 j)
      ]
      | false ↦ λ pairs i. inr (same pairs i)
    ]) pairs i

-- the octagon of interval i is among a participant's lines
octagon_listed : (id from count i : ℕ) (f : ℕ → List ℤ) (os : List OctNumbers) → map (λ (o : OctNumbers). o.n) os ≡ map f (numbers_from from count) → i < count → Includes (octagon_lines id from os) (occ_line id (from + i) (f (from + i)))
octagon_listed id from zero i f os e h = absurd (omega (arith, h))
octagon_listed id from (suc count) i f [] e h = cc
octagon_listed id from (suc count) zero f (o ∷ os) e h = let first : o.n ≡ f from = cc in rw add-zero (inl (rw first refl))
octagon_listed id from (suc count) (suc i) f (o ∷ os) e h =
    let rest : map (λ (x : OctNumbers). x.n) os ≡ map f (numbers_from (from + 1) count) = cc in
    let same : from + 1 + i ≡ from + suc i = omega arith in
    inr (rw same at (octagon_listed id (from + 1) count i f os rest (omega (arith, h))))

in_front : (mode : Mode) (k steps : ℕ) (ms : List Mover) (o : Occupancies) (more : List Line) (l : Line) → Includes (traffic_lines ms o) l → Includes (report_lines mode k steps ms o more) l
in_front mode k steps ms o more l i = inr (inr (includes_front (traffic_lines ms o) more l i))

-- each part of the traffic is among the lines of a report
module _ (mode : Mode) (k steps : ℕ) (ms : List Mover) (o : Occupancies) (more : List Line) (l : Line) where
  obstacle_stands : Includes (obstacle_lines ms o.participants) l → Includes (report_lines mode k steps ms o more) l
  obstacle_stands i = in_front mode k steps ms o more l (includes_front (obstacle_lines ms o.participants ++ map octagon_line o.fixed ++ flat_map lane_lines o.participants) (flat_map occupancy_lines o.participants) l
      (includes_front (obstacle_lines ms o.participants ++ map octagon_line o.fixed) (flat_map lane_lines o.participants) l (includes_front (obstacle_lines ms o.participants) (map octagon_line o.fixed) l i)))

  octagon_stands : Includes (map octagon_line o.fixed) l → Includes (report_lines mode k steps ms o more) l
  octagon_stands i = in_front mode k steps ms o more l (includes_front (obstacle_lines ms o.participants ++ map octagon_line o.fixed ++ flat_map lane_lines o.participants) (flat_map occupancy_lines o.participants) l
      (includes_front (obstacle_lines ms o.participants ++ map octagon_line o.fixed) (flat_map lane_lines o.participants) l (includes_back (obstacle_lines ms o.participants) (map octagon_line o.fixed) l i)))

  polygon_stands : Includes (flat_map lane_lines o.participants) l → Includes (report_lines mode k steps ms o more) l
  polygon_stands i = in_front mode k steps ms o more l (includes_front (obstacle_lines ms o.participants ++ map octagon_line o.fixed ++ flat_map lane_lines o.participants) (flat_map occupancy_lines o.participants) l
      (includes_back (obstacle_lines ms o.participants ++ map octagon_line o.fixed) (flat_map lane_lines o.participants) l i))

  occupancy_stands : Includes (flat_map occupancy_lines o.participants) l → Includes (report_lines mode k steps ms o more) l
  occupancy_stands i = in_front mode k steps ms o more l (includes_back (obstacle_lines ms o.participants ++ map octagon_line o.fixed ++ flat_map lane_lines o.participants) (flat_map occupancy_lines o.participants) l i)

-- ---- the claim

pub same_pt : (p : Pt) (x y : ℤ) → p.x ≡ x → p.y ≡ y → p ≡ pt x y
same_pt p x y e f = let same : ◌≡◌ {A = Pt} (record { x = p.x; y = p.y }) (record { x = x; y = y }) = simp (e, f) in same

-- the printed line of a participant is that of its obstacle
pub is_mover_line : (lanes : List Lane) (k steps : ℕ) (m : Mover) (p : Participant) → IsMoverInRange m → IsParticipant lanes k steps m p → IsMoverLine m (line_of p)
is_mover_line lanes k steps m p range is = record {
  id = is.id;
  p = same_pt p.start.p m.x m.y is.start.x is.start.y;
  r = is.start.r;
  type = is.start.type;
  type_is = is.start.type_is;
  a = is.start.a;
  v = is.start.v;
  s = is.start.speed_is;
  b = λ vx vy h. subst (λ b. InBox b (pt vx vy)) (sym is.start.b) (box_holds m.speed m.angle vx vy range.speed range.angle h);
}

-- a participant that follows lanes is in a lane polygon that is printed for it
in_lane : (mode : Mode) (more : List Line) (s : Scenario) (c : Command) (o : Occupancies) (m : Mover) (p : Participant) → IsParticipant s.lanelets.entries s.step c.steps m p → Includes o.participants p → HoldsMotions s.lanelets.entries s.step c.steps p
    → (states : List State) → IsAdmissible s m (line_of p) states → (t : ℕ) (state : State) → slice_get states t ≡ Some state → (interval : ℕ) → HoldsTick s.step c.steps interval t → (q : Pt) → InDisc p.start.r state.p q
    → p.lane ≡ true → InPrintedLane (report_lines mode s.step c.steps s.movers o more) p.id interval q
in_lane mode more s c o m p is i motions states admissible t state at interval holds q disc lane =
    let (x, listed, early, inside) = motions lane states t interval state q (admissible.1 (is.lane.0 lane)) at holds.high holds.printed disc in
    let (y, j, same) = in_map polygon_of p.polys x listed in record {
      cell = x.cell;
      first = x.first;
      corners = x.corners;
      printed = polygon_stands mode s.step c.steps s.movers o more _
          (includes_flat_map lane_lines o.participants p _ i (subst (λ (z : LanePolygon). Includes (lane_lines p) (lane_line p.id z.cell z.first z.corners)) (sym same) (includes_map (polygon_line p.id) p.polys y j)));
      early = early;
      inside = inside;
    }

covered : (mode : Mode) (more : List Line) (others : AreOthers more) (s : Scenario) (c : Command) (o : Occupancies) (m : Mover) (p : Participant) (interval : ℕ) → IsPrediction s c.steps o → HaveUniqueIds s → IsParticipant s.lanelets.entries s.step c.steps m p → Includes o.participants p → HoldsMotions s.lanelets.entries s.step c.steps p
    → interval < c.steps → IsCovered s c (report_lines mode s.step c.steps s.movers o more) m (line_of p) interval
covered mode more others s c o m p interval whole ids is i motions less = record {
  numbers = interval_numbers p.start s.step interval;
  printed = record {
    listed = occupancy_stands mode s.step c.steps s.movers o more _
        (includes_flat_map occupancy_lines o.participants p _ i (rw zero-add at (octagon_listed p.id 0 c.steps interval (interval_numbers p.start s.step) p.octs (is.octagons ∙ ap (map (interval_numbers p.start s.step)) (below-from c.steps)) less)));
    alone = λ numbers listed. octagon_alone mode more others s c.steps o whole ids m p interval numbers is i listed;
  };
  holds = λ states admissible t state at holds q disc. record {
    octagon = holds_bodies p.start s.step interval is.range states t state q admissible.0 at holds.low holds.high disc;
    lane = in_lane mode more s c o m p is i motions states admissible t state at interval holds q disc;
  };
}

-- the lines of a report with traffic claim of it what they should
pub traffic_covers : (mode : Mode) (more : List Line) (others : AreOthers more) (s : Scenario) (c : Command) (o : Occupancies) → HaveUniqueIds s → IsPredicted s c.steps o → CoversParticipants s c (report_lines mode s.step c.steps s.movers o more)
traffic_covers mode more others s c o ids predicted =
    let lanes = s.lanelets.entries in
    let is = predicted.is in record {
      movers = λ m i zero.
          let (p, j, one) = partner (IsParticipant lanes s.step c.steps) (starting s.movers) o.participants m is.participants (includes_filter (λ (x : Mover). x.time == 0) s.movers m (zero_true m.time zero) i) in record {
            line = line_of p;
            printed = obstacle_stands mode s.step c.steps s.movers o more _ (mover_listed lanes s.step c.steps s.movers o.participants p is.participants j);
            alone = λ other listed same. mover_alone mode more others s c.steps o is ids p other j listed same;
            line_is = is_mover_line lanes s.step c.steps m p (all_included IsMoverInRange s.movers m s.in_range.each_mover i) one;
            covered = λ interval less. covered mode more others s c o m p interval is ids one j (all_included (HoldsMotions lanes s.step c.steps) o.participants p predicted.holds j) less;
          };
      fixed = λ f i.
          let (n, j, one) = partner IsFixedOctagon s.fixed o.fixed f is.fixed i in record {
            numbers = disc_numbers (pt f.x f.y) f.enclosing;
            printed = octagon_stands mode s.step c.steps s.movers o more _ (subst (Includes (map octagon_line o.fixed)) (octagon_is f n one) (includes_map octagon_line o.fixed n j));
            alone = λ numbers listed. fixed_alone mode more others s c.steps o is ids f numbers i listed;
            holds = λ q disc. disc_in_octagon (pt f.x f.y) q f.enclosing (small f (all_included IsFixedInRange s.fixed f s.in_range.each_fixed i)) disc;
          };
    }
  where
    small : (f : Fixed) → IsFixedInRange f → f.enclosing < 2 ^ 63
    small f h = omega (arith, h.enclosing)

    octagon_is : (f : Fixed) (n : ℕ × OctNumbers) → IsFixedOctagon f n → octagon_line n ≡ fixed_line f.id (disc_numbers (pt f.x f.y) f.enclosing)
    octagon_is f n h = rw (h.0, h.1) refl
