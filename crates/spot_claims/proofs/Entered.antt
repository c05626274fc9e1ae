-- A motion that is at a piece of the prediction has entered what is printed.
use Rattle.std.proofs.Common.{◌≡◌, ◌∙◌, inl, inr, ℕ, zero, suc, ◌-◌, ◌*◌, ◌<◌, ◌≤◌, refl, sym, ap, subst, arith, List, [], ◌∷◌, ◌++◌, map, filter, Bool, true, false, cond, Option, Some, None}
use Rattle.std.specs.Prelude.{slice_get, nat_le, ◌==◌}
use Rattle.std.specs.List.{flat_map}
use Rattle.std.proofs.lemmas.Bool.Decides.{nat_tests}
use Rattle.spot_terms.specs.LanePolygons.{LanePolygon, AreLanePolygons}
use Rattle.spot_terms.specs.Lists.{Includes, Pairwise, numbers_below}
use Rattle.spot_terms.specs.OccupiedPieces.{Occupant, HasPolygons, IsOccupant, pieces_in, pieces_of, fixed_piece, AreOccupants, predicted_pieces, discs, recorded_pieces}
use Rattle.spot_terms.specs.Participants.{starting}
use Rattle.spot_terms.specs.Pieces.{Piece, cut_octagon, disc, InPiece}
use Rattle.spot_terms.specs.Reach.{InOctagon, interval_numbers, disc_numbers}
use Rattle.spot_terms.specs.Report.{Line, mover_line, occ_line}
use Rattle.spot_terms.specs.Tasks.{PredictsTraffic}
use Rattle.spot_terms.specs.declared.command.Command.{Command}
use Rattle.spot_terms.specs.declared.lines.MoverLine.{MoverLine}
use Rattle.spot_terms.specs.declared.plain.AccStart.{AccStart}
use Rattle.spot_terms.specs.declared.plain.Disc.{Disc}
use Rattle.spot_terms.specs.declared.plain.Pt.{Pt}
use Rattle.spot_terms.specs.declared.scenario.Fixed.{Fixed}
use Rattle.spot_terms.specs.declared.scenario.Mover.{Mover}
use Rattle.spot_terms.specs.declared.scenario.Scenario.{Scenario}
use Rattle.spot_terms.proofs.ListLemmas.{includes_front, includes_back, includes_either, includes_map, includes_flat_map, includes_below}
use Rattle.spot_terms.proofs.Members.{in_map, in_flat_map}
use Rattle.spot_claims.specs.EgoClaims.{IsOccupied}
use Rattle.spot_claims.specs.ParticipantClaims.{HoldsTick, InOccupancy}
use Rattle.spot_claims.specs.Problems.{ego_radius}
use Rattle.spot_claims.specs.ReportOf.{start_of, IsExactMover, IsObstacleLine, movers_in, ArePolygonsOf, polygon_line, polygon_lines, occ_lines, fixed_of, IsTraffic}
use Rattle.spot_claims.specs.Entered.{StruckIsEntered, StruckIsCollided}
use Rattle.spot_claims.proofs.OneReport.{traffic_pieces, replay_pieces}
use Rattle.spot_terms.proofs.OneStart.{start_one, speed_one}
use Rattle.spot_terms.proofs.OneLabel.{polygons_one}
use Rattle.spot_claims.proofs.ExactStart.{exact_start}
use Rattle.spot_terms.proofs.Orders.{zero_of_true, factor_order}
use Rattle.spot_terms.proofs.ItemPlaces.{got_included}

-- ---- lists

passes_by : {X : Type 0} (p : X → Bool) (y : X) (ys : List X) (x : X) (b : Bool) → (Includes (filter p ys) x → Includes ys x × (p x ≡ true)) → p y ≡ b → Includes (cond b (y ∷ filter p ys) (filter p ys)) x → Includes (y ∷ ys) x × (p x ≡ true)
passes_by p y ys x true rest e (inl s) = (inl s, ap p s ∙ e)
passes_by p y ys x true rest e (inr h) = let k = rest h in (inr k.0, k.1)
passes_by p y ys x false rest e h = let k = rest h in (inr k.0, k.1)

pub passes : {X : Type 0} (p : X → Bool) (xs : List X) (x : X) → Includes (filter p xs) x → Includes xs x × (p x ≡ true)
passes p [] x h = absurd h
passes p (y ∷ ys) x h = passes_by p y ys x (p y) (passes p ys x) refl h

-- an item has its partner in a list in step, seen from the second list
pub from_second : {X Y : Type 0} (R : X → Y → Type 0) (xs : List X) (ys : List Y) (y : Y) → Pairwise R xs ys → Includes ys y → (x : X) × Includes xs x × R x y
from_second R [] [] y p i = absurd i
from_second R [] (z ∷ ys) y p i = absurd p
from_second R (x ∷ xs) [] y p i = absurd i
from_second R (x ∷ xs) (z ∷ ys) y p (inl e) = (x, inl refl, subst (R x) (sym e) p.0)
from_second R (x ∷ xs) (z ∷ ys) y p (inr i) = let (w, j, r) = from_second R xs ys y p.1 i in (w, inr j, r)

at_most : (a b : ℕ) → nat_le a b ≡ true → a ≤ b
at_most a b h = grind (arith, nat_tests)

-- ---- the lines of a participant

module _ (s : Scenario) (c : Command) where
  Found : List Line → Mover → Type 0
  Found lines m = (v : MoverLine) × IsExactMover s m v × Includes lines (mover_line v) × Includes (movers_in lines) v

  here : (x : Mover) (line : Line) (ls : List Line) → IsObstacleLine s x line → x.time ≡ 0 → Found (line ∷ ls) x
  unfolding Found
  here x line ls (inl (h, (v, f, a))) t = (v, a, inl (sym f), subst (λ (l : Line). Includes (movers_in (l ∷ ls)) v) (sym f) (inl refl))
  here x line ls (inr h) t = let a = h.0 in absurd (omega (arith, a, t))

  there : (x m : Mover) (line : Line) (ls : List Line) → IsObstacleLine s x line → Found ls m → Found (line ∷ ls) m
  unfolding Found
  there x m line ls (inl (h, (w, f, b))) (v, a, i, j) = (v, a, inr i, subst (λ (l : Line). Includes (movers_in (l ∷ ls)) v) (sym f) (inr j))
  there x m line ls (inr (h, f)) (v, a, i, j) = (v, a, inr i, subst (λ (l : Line). Includes (movers_in (l ∷ ls)) v) (sym f) j)

  found : (ms : List Mover) (ls : List Line) (m : Mover) → Pairwise (IsObstacleLine s) ms ls → Includes ms m → m.time ≡ 0 → Found ls m
  found [] ls m p i t = absurd i
  found (x ∷ ms) [] m p i t = absurd p
  found (x ∷ ms) (line ∷ ls) m p (inl e) t = subst (λ (z : Mover). Found (line ∷ ls) z) (sym e) (here x line ls p.0 (sym (ap (λ (z : Mover). z.time) e) ∙ t))
  found (x ∷ ms) (line ∷ ls) m p (inr i) t = there x m line ls p.0 (found ms ls m p.1 i t)

  HasLanes : List MoverLine → List (List LanePolygon) → MoverLine → Type 0
  HasLanes vs ps v = (p : List LanePolygon) × ArePolygonsOf s c v p × ((x : LanePolygon) → Includes p x → Includes (polygon_lines vs ps) (polygon_line v.id x))

  lanes_here : (w : MoverLine) (vs : List MoverLine) (p : List LanePolygon) (ps : List (List LanePolygon)) → ArePolygonsOf s c w p → HasLanes (w ∷ vs) (p ∷ ps) w
  unfolding HasLanes
  lanes_here w vs p ps h = (p, h, λ x i. includes_front (map (polygon_line w.id) p) (polygon_lines vs ps) (polygon_line w.id x) (includes_map (polygon_line w.id) p x i))

  lanes_there : (w v : MoverLine) (vs : List MoverLine) (p : List LanePolygon) (ps : List (List LanePolygon)) → HasLanes vs ps v → HasLanes (w ∷ vs) (p ∷ ps) v
  unfolding HasLanes
  lanes_there w v vs p ps (q, h, f) = (q, h, λ x i. includes_back (map (polygon_line w.id) p) (polygon_lines vs ps) (polygon_line v.id x) (f x i))

  lanes_of : (vs : List MoverLine) (ps : List (List LanePolygon)) (v : MoverLine) → Pairwise (ArePolygonsOf s c) vs ps → Includes vs v → HasLanes vs ps v
  lanes_of [] ps v p i = absurd i
  lanes_of (w ∷ vs) [] v p i = absurd p
  lanes_of (w ∷ vs) (q ∷ ps) v p (inl e) = subst (λ (z : MoverLine). HasLanes (w ∷ vs) (q ∷ ps) z) (sym e) (lanes_here w vs q ps p.0)
  lanes_of (w ∷ vs) (q ∷ ps) v p (inr i) = lanes_there w v vs q ps (lanes_of vs ps v p.1 i)

-- ---- a piece of the prediction is printed

module _ (s : Scenario) (c : Command) (traffic lines : List Line) (tr : IsTraffic s c traffic) (all : (line : Line) → Includes traffic line → Includes lines line) where
  abbrev movers : List MoverLine
  movers = movers_in tr.obstacles

  abbrev fixeds : List Line
  fixeds = map fixed_of s.fixed

  abbrev lanes : List Line
  lanes = polygon_lines movers tr.polygons

  abbrev occupied : List Line
  occupied = flat_map (occ_lines s c) movers

  abbrev lines_of : List Line
  lines_of = tr.obstacles ++ fixeds ++ lanes ++ occupied

  printed : (line : Line) → Includes lines_of line → Includes lines line
  printed line i = all line (subst (λ (l : List Line). Includes l line) (sym tr.lines_are) i)

  abbrev standing : List Line
  standing = tr.obstacles ++ fixeds

  -- obstacles, lanes: what stands before the occupancies
  before_occupied : (line : Line) → Includes (standing ++ lanes) line → Includes lines line
  before_occupied line i = printed line (includes_front (standing ++ lanes) occupied line i)

  before_lanes : (line : Line) → Includes standing line → Includes lines line
  before_lanes line i = before_occupied line (includes_front standing lanes line i)

  of_fixed : (f : Fixed) (latest t : ℕ) (q : Pt) → Includes s.fixed f → InPiece (fixed_piece f) q → IsOccupied s c lines latest t q
  of_fixed f latest t q i h = inl (record {
    obstacle = f;
    listed = i;
    numbers = disc_numbers (record { x = f.x; y = f.y }) f.enclosing;
    printed = before_lanes (fixed_of f) (includes_back tr.obstacles fixeds (fixed_of f) (includes_map fixed_of s.fixed f i));
    inside = h;
  })

  occ_of : MoverLine → ℕ → Line
  occ_of v j = occ_line v.id j (interval_numbers (start_of v) s.step j)

  occ_printed : (v : MoverLine) (j : ℕ) → j < c.steps → Includes movers v → Includes lines (occ_of v j)
  unfolding occ_of
  occ_printed v j h i = printed (occ_of v j) (includes_back (standing ++ lanes) occupied (occ_of v j)
      (includes_flat_map (occ_lines s c) movers v (occ_of v j) i (includes_map (occ_of v) (numbers_below c.steps) j (includes_below c.steps j h))))

  lane_printed : (line : Line) → Includes lanes line → Includes lines line
  lane_printed line i = before_occupied line (includes_back standing lanes line i)

  mover_printed : (v : MoverLine) → Includes tr.obstacles (mover_line v) → Includes lines (mover_line v)
  mover_printed v i = before_lanes (mover_line v) (includes_front tr.obstacles fixeds (mover_line v) i)

  has_lanes : (v : MoverLine) → Includes (movers_in tr.obstacles) v → (p : List LanePolygon) × ArePolygonsOf s c v p × ((x : LanePolygon) → Includes p x → Includes (polygon_lines (movers_in tr.obstacles) tr.polygons) (polygon_line v.id x))
  unfolding HasLanes
  has_lanes v i = lanes_of s c (movers_in tr.obstacles) tr.polygons v tr.polygons_are i

  in_print : (v : MoverLine) (m : Mover) (o : Occupant) (j : ℕ) (q : Pt) (piece : Piece) (ps : Option (List LanePolygon)) → IsExactMover s m v → Includes (movers_in tr.obstacles) v → j < c.steps
      → (h : IsOccupant s.lanelets.entries s.step c.steps m o) → HasPolygons s.lanelets.entries s.step c.steps m o.start h.speed ps
      → Includes (pieces_in (interval_numbers o.start s.step j) j ps) piece → InPiece piece q → InOccupancy lines v j (interval_numbers (start_of v) s.step j) q
  unfolding occ_of
  in_print v m o j q piece None a i less h hp (inl e) inside =
      let start : start_of v ≡ o.start = start_one m (start_of v) o.start v.s h.speed (exact_start s m v a) h.start in
      let oct : InOctagon (interval_numbers o.start s.step j) q = subst (λ (z : Piece). InPiece z q) e inside in
      record {
        octagon = subst (λ (z : AccStart). InOctagon (interval_numbers z s.step j) q) (sym start) oct;
        lane = λ l. absurd (hp (a.lane.0 l));
      }
  in_print v m o j q piece None a i less h hp (inr k) inside = absurd k
  in_print v m o j q piece (Some ps) a i less h hp k inside =
      let start : start_of v ≡ o.start = start_one m (start_of v) o.start v.s h.speed (exact_start s m v a) h.start in
      let speed : v.s ≡ h.speed = speed_one m (start_of v) o.start v.s h.speed (exact_start s m v a) h.start in
      let (x, at, e) = in_map (λ (x : LanePolygon). cut_octagon (interval_numbers o.start s.step j) x.corners) (filter (λ (x : LanePolygon). nat_le x.first j) ps) piece k in
      let (listed, early) = passes (λ (x : LanePolygon). nat_le x.first j) ps x at in
      let both : InPiece (cut_octagon (interval_numbers o.start s.step j) x.corners) q = subst (λ (z : Piece). InPiece z q) e inside in
      let (p, ho, shown) = has_lanes v i in
      let mine : AreLanePolygons s.lanelets.entries (start_of v) v.s s.step c.steps p = ho.lane (a.lane.1 hp.0) in
      let moved : AreLanePolygons s.lanelets.entries o.start v.s s.step c.steps p = subst (λ (z : AccStart). AreLanePolygons s.lanelets.entries z v.s s.step c.steps p) start mine in
      let same : p ≡ ps = polygons_one s.lanelets.entries o.start h.speed s.step c.steps p ps (subst (λ (z : ℕ). AreLanePolygons s.lanelets.entries o.start z s.step c.steps p) speed moved) hp.1 in
      record {
        octagon = subst (λ (z : AccStart). InOctagon (interval_numbers z s.step j) q) (sym start) both.0;
        lane = λ l. record {
          cell = x.cell;
          first = x.first;
          corners = x.corners;
          printed = lane_printed (polygon_line v.id x) (shown x (subst (λ (z : List LanePolygon). Includes z x) (sym same) listed));
          early = at_most x.first j early;
          inside = both.1;
        };
      }

  of_mover : (m : Mover) (o : Occupant) (j latest t : ℕ) (q : Pt) (piece : Piece) → Includes (starting s.movers) m → IsOccupant s.lanelets.entries s.step c.steps m o → j ≤ latest → HoldsTick s.step c.steps j t
      → Includes (pieces_of s.step j o) piece → InPiece piece q → IsOccupied s c lines latest t q
  unfolding Found occ_of
  of_mover m o j latest t q piece i h le holds k inside =
      let (among, at_start) = passes (λ (x : Mover). x.time == 0) s.movers m i in
      let (v, a, shown, listed) = found s c s.movers tr.obstacles m tr.obstacles_are among (zero_of_true m.time at_start) in
      inr (record {
        mover = m;
        listed = among;
        starts = zero_of_true m.time at_start;
        line = v;
        line_is = a.line_is;
        printed = mover_printed v shown;
        interval = j;
        early = le;
        holds = holds;
        numbers = interval_numbers (start_of v) s.step j;
        octagon = occ_printed v j holds.printed listed;
        inside = in_print v m o j q piece o.polygons a listed holds.printed h h.polygons k inside;
      })

  at_piece : (occupants : List Occupant) (i latest t : ℕ) (q : Pt) (piece : Piece) → AreOccupants s c.steps occupants → i - 1 ≤ latest → HoldsTick s.step c.steps (i - 1) t
      → Includes (predicted_pieces s occupants i) piece → InPiece piece q → IsOccupied s c lines latest t q
  unfolding predicted_pieces
  at_piece occupants i latest t q piece are le holds k inside = elim (includes_either (map fixed_piece s.fixed) (flat_map (pieces_of s.step (i - 1)) occupants) piece k) [
    | inl j ↦ let (f, at, e) = in_map fixed_piece s.fixed piece j in of_fixed f latest t q at (subst (λ (z : Piece). InPiece z q) e inside)
    | inr j ↦ let (o, at, within) = in_flat_map (pieces_of s.step (i - 1)) occupants piece j in
        let (m, from, h) = from_second (IsOccupant s.lanelets.entries s.step c.steps) (starting s.movers) occupants o are at in
        of_mover m o (i - 1) latest t q piece from h le holds within inside
  ]

-- ---- the interval before a step holds its tick

holds_tick : (k n j : ℕ) → 1 ≤ n → j ≤ n → HoldsTick k n (j - 1) (j * k)
holds_tick k n zero some le = record { printed = omega (arith, some); low = omega arith; high = omega arith }
holds_tick k n (suc j) some le =
    let e : suc j - 1 ≡ j = omega arith in
    record { printed = omega (arith, le); low = rw e (omega arith); high = rw e (omega arith) }

pub struck_is_entered : StruckIsEntered
struck_is_entered s c course traffic lines pieces i states area some le ticks tr all are (j, p, state, at, got, less, (piece, found, inside)) =
    let (occupants, known, same) = traffic_pieces s c pieces (subst PredictsTraffic (sym area) tt) are in
    let listed : Includes (pieces j) piece = got_included (pieces j) p piece found in
    let within : Includes (predicted_pieces s occupants j) piece = subst (λ (z : List Piece). Includes z piece) (same j (omega (arith, at, le))) listed in record {
      tick = j * s.step;
      state = state;
      early = factor_order j i s.step at;
      at = subst (λ z. slice_get states (j * z) ≡ Some state) ticks got;
      occupied = at_piece s c traffic lines tr all occupants j (i - 1) (j * s.step) state.p piece known (omega (arith, at)) (holds_tick s.step c.steps j some (omega (arith, at, le))) within inside;
    }

pub struck_is_collided : StruckIsCollided
struck_is_collided s c course pieces i states replay le ticks are (j, p, state, at, got, less, (piece, found, inside)) =
    let listed : Includes (pieces j) piece = got_included (pieces j) p piece found in
    let within : Includes (recorded_pieces s (ego_radius c) j) piece = subst (λ (z : List Piece). Includes z piece) (replay_pieces s c pieces replay are j (omega (arith, at, le))) listed in
    let (d, k, e) = in_map (λ (d : Disc). disc d.p d.r) (discs s (ego_radius c) j) piece within in
    record {
      step = j;
      state = state;
      early = at;
      at = subst (λ z. slice_get states (j * z) ≡ Some state) ticks got;
      disc = d;
      recorded = k;
      inside = subst (λ (z : Piece). InPiece z state.p) e inside;
    }
