-- A run whose lists hold each motion, or strike it, gives a report that covers the ego.
use Rattle.std.proofs.Common.{◌≡◌, ◌⊎◌, inl, inr, ℕ, zero, suc, ◌+◌, ◌*◌, ◌<◌, ◌≤◌, refl, sym, subst, arith, List, [], ◌∷◌, ◌++◌, map, length, Option, Some, None, get_or}
use Rattle.std.specs.Prelude.{slice_get}
use Rattle.std.specs.List.{flat_map}
use Rattle.std.proofs.lemmas.Option.{slice_get_within, slice_get-get_or}
use Rattle.spot_terms.specs.Avoidance.{HoldsOrStrikes, IsHeldBy, IsStruckBy}
use Rattle.spot_terms.specs.BaseSets.{SetValue}
use Rattle.spot_terms.specs.Courses.{Course, IsMotionOf}
use Rattle.spot_terms.specs.LanePolygons.{LanePolygon}
use Rattle.spot_terms.specs.Lists.{Includes, numbers_below}
use Rattle.spot_terms.specs.Motions.{State}
use Rattle.spot_terms.specs.OccupiedPieces.{discs}
use Rattle.spot_terms.specs.declared.lines.Mode.TheVariants as mode
use Rattle.spot_terms.specs.Pieces.{Piece, Hits}
use Rattle.spot_terms.specs.Reach.{interval_numbers}
use Rattle.spot_terms.specs.Report.{Line, head_line, time_line, occ_line, ego_line, disc_line, set_line, count_line, last_line}
use Rattle.spot_terms.specs.StepLists.{Follow, AreStepLists}
use Rattle.spot_terms.specs.declared.command.Command.{Command}
use Rattle.spot_terms.specs.declared.command.Task.{Task}
use Rattle.spot_terms.specs.declared.command.Task.TheVariants.{Area, Replay}
use Rattle.spot_terms.specs.declared.lines.End.{End}
use Rattle.spot_terms.specs.declared.lines.End.TheVariants.{Open, Empty}
use Rattle.spot_terms.specs.declared.lines.MoverLine.{MoverLine}
use Rattle.spot_terms.specs.declared.plain.Disc.{Disc}
use Rattle.spot_terms.specs.declared.plain.Pt.{Pt}
use Rattle.spot_terms.specs.declared.scenario.Mover.{Mover}
use Rattle.spot_terms.specs.declared.scenario.Problem.{Problem}
use Rattle.spot_terms.specs.declared.scenario.Scenario.{Scenario}
use Rattle.spot_terms.proofs.ListLemmas.{includes_front, includes_back, includes_either, includes_map}
use Rattle.spot_terms.proofs.Members.{in_map, in_flat_map}
use Rattle.spot_claims.specs.AreaCovers.{Avoids, HasVelocities, AreaCovers, ReplayCovers}
use Rattle.spot_claims.specs.AreaOf.{IsRun, step_lines, lines_from, area_lines}
use Rattle.spot_claims.specs.EgoClaims.{CoversEgo, IsStruck, IsStruckIn, HasEntered, HasCollided}
use Rattle.spot_claims.specs.Problems.{course_of, ego_of, ego_radius}
use Rattle.spot_claims.specs.ReportOf.{IsTraffic, IsObstacleLine, start_of, movers_in, polygon_line, polygon_lines, occ_lines, fixed_of}
use Rattle.spot_claims.proofs.Entered.{struck_is_entered, struck_is_collided, from_second}

-- ---- the lists of a run

module _ (course : Course) (count : ℕ → ℕ) (At : ℕ → ℕ → Pt → Type 0) (n : ℕ) where
  -- a step has its list, or an earlier one has no sets
  at_step : (i : ℕ) (sets : List SetValue) (later : List (List SetValue)) (end : End) → Follow course count At n i sets later end → (j : ℕ) → i + j ≤ n
      → ((x : List SetValue) × (slice_get (sets ∷ later) j ≡ Some x)) ⊎ ((e : ℕ) × (e < j) × (slice_get (sets ∷ later) e ≡ Some []))
  at_step i sets later end f zero le = inl (sets, refl)
  at_step i [] later end f (suc j) le = inr (0, omega arith, refl)
  at_step i (b ∷ sets) [] end f (suc j) le = absurd (let e = f.0 in omega (arith, e, le))
  at_step i (b ∷ sets) (next ∷ later) end f (suc j) le = elim (at_step (suc i) next later end f.2 j (omega (arith, le))) [
    | inl (x, e) ↦ inl (x, e)
    | inr (e, l, g) ↦ inr (suc e, omega (arith, l), g)
  ]

  same_empty : (i j : ℕ) → Empty i ≡ Empty j → i ≡ j
  same_empty i j e = cc

  -- where the run ends empty, the list of that step has no sets
  at_end : (i : ℕ) (sets : List SetValue) (later : List (List SetValue)) (k : ℕ) → Follow course count At n i sets later (Empty k) → (m : ℕ) × (i + m ≡ k) × (slice_get (sets ∷ later) m ≡ Some [])
  at_end i [] later k f = (0, (let e = same_empty k i f.1 in omega (arith, e)), refl)
  at_end i (b ∷ sets) [] k f = absurd (let e : Empty k ≡ Open = f.1 in cc)
  at_end i (b ∷ sets) (next ∷ later) k f =
      let (m, e, g) = at_end (suc i) next later k f.2 in
      (suc m, omega (arith, e), g)

  struck_later : (i j : ℕ) (states : List State) → i ≤ j → IsStruckBy course count At i states → IsStruckBy course count At j states
  struck_later i j states le (a, p, state, at, got, less, inside) = (a, p, state, omega (arith, at, le), got, less, inside)

  -- a state that is there, at an earlier tick
  earlier : (states : List State) (a b : ℕ) (state : State) → slice_get states b ≡ Some state → a ≤ b → (s : State) × (slice_get states a ≡ Some s)
  earlier states a b state e le = (get_or states a state, slice_get-get_or states a state (let l = slice_get_within states b state e in omega (arith, l, le)))

  times_le : (a b k : ℕ) → a < b → a * k ≤ b * k
  times_le a b k h = grind arith

  pub AllAvoid : List (List SetValue) → Type 0
  AllAvoid lists = (i : ℕ) (sets : List SetValue) → slice_get lists i ≡ Some sets → HoldsOrStrikes course count At i sets

  -- at a list without sets each motion is struck
  none_held : (lists : List (List SetValue)) → AllAvoid lists → (e : ℕ) (states : List State) (state : State) → slice_get lists e ≡ Some [] → IsMotionOf course states → slice_get states (e * course.k) ≡ Some state
      → IsStruckBy course count At e states
  unfolding AllAvoid
  none_held lists avoids e states state g motion got = elim (avoids e [] g states state motion got) [ inl (b, i, h) ↦ absurd i | inr struck ↦ struck ]

  -- a motion that goes on to step i is held by a set of its list, or is struck by then
  pub held_or_struck : (lists : List (List SetValue)) (end : End) → AreStepLists course count At n lists end → AllAvoid lists → (i : ℕ) (states : List State) (state : State) → i ≤ n → IsMotionOf course states
      → slice_get states (i * course.k) ≡ Some state → ((sets : List SetValue) × (slice_get lists i ≡ Some sets) × IsHeldBy sets state) ⊎ IsStruckBy course count At i states
  unfolding AllAvoid
  held_or_struck [] end are avoids i states state le motion got = absurd are
  held_or_struck (first ∷ later) end are avoids i states state le motion got = elim (at_step 0 first later end are.1 i (omega (arith, le))) [
    | inl (sets, g) ↦ elim (avoids i sets g states state motion got) [ inl held ↦ inl (sets, g, held) | inr struck ↦ inr struck ]
    | inr (e, before, g) ↦ let (s, reached) = earlier states (e * course.k) (i * course.k) state got (times_le e i course.k before) in
        inr (struck_later e i states (omega (arith, before)) (none_held (first ∷ later) avoids e states s g motion reached))
  ]

  -- where the run ends empty at step i, each motion is struck by then
  pub all_struck : (lists : List (List SetValue)) (i : ℕ) → AreStepLists course count At n lists (Empty i) → AllAvoid lists → (states : List State) (state : State) → IsMotionOf course states
      → slice_get states (i * course.k) ≡ Some state → IsStruckBy course count At i states
  unfolding AllAvoid
  all_struck [] i are avoids states state motion got = absurd are
  all_struck (first ∷ later) i are avoids states state motion got =
      let (m, e, g) = at_end 0 first later i are.1 in
      let same : m ≡ i = omega (arith, e) in
      none_held (first ∷ later) avoids i states state (subst (λ (x : ℕ). slice_get (first ∷ later) x ≡ Some []) same g) motion got

-- ---- the lines of a run

in_list : {X : Type 0} (xs : List X) (x : X) → Includes (x ∷ xs) x
in_list xs x = inl refl

-- each set of a list is printed for its step
set_printed : (recorded : ℕ → List Disc) (i : ℕ) (lists : List (List SetValue)) (j : ℕ) (sets : List SetValue) (b : SetValue) → slice_get lists j ≡ Some sets → Includes sets b → Includes (lines_from recorded i lists) (set_line (i + j) b)
set_printed recorded i [] j sets b e h = absurd (none (slice_get [] j) sets e refl)
  where
    none : (o : Option (List SetValue)) (sets : List SetValue) → slice_get [] j ≡ Some sets → o ≡ None → ⊥
    none o sets e f = cc
set_printed recorded i (first ∷ lists) zero sets b e h =
    let same : first ≡ sets = one first sets e in
    let shown : Includes (map (set_line i) first) (set_line i b) = includes_map (set_line i) first b (subst (λ (x : List SetValue). Includes x b) (sym same) h) in
    let placed : Includes (step_lines i (recorded i) first) (set_line i b) = includes_front (map (λ (d : Disc). disc_line i d.id d.p d.r) (recorded i) ++ map (set_line i) first) (count_line i (length first) ∷ []) (set_line i b)
    (includes_back (map (λ (d : Disc). disc_line i d.id d.p d.r) (recorded i)) (map (set_line i) first) (set_line i b) shown) in
    let all : Includes (lines_from recorded i (first ∷ lists)) (set_line i b) = includes_front (step_lines i (recorded i) first) (lines_from recorded (i + 1) lists) (set_line i b) placed in
    let q : i ≡ i + zero = omega arith in
    subst (λ (x : ℕ). Includes (lines_from recorded i (first ∷ lists)) (set_line x b)) q all
  where
    one : (x y : List SetValue) → Some x ≡ Some y → x ≡ y
    one x y e = cc
set_printed recorded i (first ∷ lists) (suc j) sets b e h =
    let later : Includes (lines_from recorded (i + 1) lists) (set_line (i + 1 + j) b) = set_printed recorded (i + 1) lists j sets b e h in
    let q : i + 1 + j ≡ i + suc j = omega arith in
    subst (λ (x : ℕ). Includes (lines_from recorded i (first ∷ lists)) (set_line x b)) q (includes_back (step_lines i (recorded i) first) (lines_from recorded (i + 1) lists) (set_line (i + 1 + j) b) later)

-- ---- the last line is no other

end_in : Line → Option End
end_in (last_line e) = Some e
end_in line = None

IsOther : Line → Type 0
IsOther line = end_in line ≡ None

AreOther : List Line → Type 0
AreOther lines = (line : Line) → Includes lines line → IsOther line

both_other : (xs ys : List Line) → AreOther xs → AreOther ys → AreOther (xs ++ ys)
unfolding AreOther
both_other xs ys f g line i = elim (includes_either xs ys line i) [ inl j ↦ f line j | inr j ↦ g line j ]

obstacle_other : (s : Scenario) (m : Mover) (line : Line) → IsObstacleLine s m line → IsOther line
unfolding IsOther end_in
obstacle_other s m line (inl (t, (v, e, h))) = rw e refl
obstacle_other s m line (inr (t, e)) = rw e refl

map_other : {X : Type 0} (f : X → Line) → ((x : X) → IsOther (f x)) → (xs : List X) → AreOther (map f xs)
unfolding AreOther
map_other f h xs line i = let (x, j, e) = in_map f xs line i in subst IsOther (sym e) (h x)

polygons_other : (vs : List MoverLine) (ps : List (List LanePolygon)) → AreOther (polygon_lines vs ps)
unfolding AreOther IsOther end_in
polygons_other [] ps line i = absurd i
polygons_other (v ∷ vs) [] line i = absurd i
polygons_other (v ∷ vs) (p ∷ ps) line i = elim (includes_either (map (polygon_line v.id) p) (polygon_lines vs ps) line i) [
  | inl j ↦ map_other (polygon_line v.id) (λ x. refl) p line j
  | inr j ↦ polygons_other vs ps line j
]

occupied_other : (s : Scenario) (c : Command) (vs : List MoverLine) → AreOther (flat_map (occ_lines s c) vs)
unfolding AreOther IsOther end_in
occupied_other s c vs line i =
    let (v, j, k) = in_flat_map (occ_lines s c) vs line i in
    map_other (λ (n : ℕ). occ_line v.id n (interval_numbers (start_of v) s.step n)) (λ n. refl) (numbers_below c.steps) line k

traffic_other : (s : Scenario) (c : Command) (traffic : List Line) → IsTraffic s c traffic → AreOther traffic
unfolding AreOther IsOther end_in
traffic_other s c traffic t line i =
    let k : Includes (t.obstacles ++ map fixed_of s.fixed ++ polygon_lines (movers_in t.obstacles) t.polygons ++ flat_map (occ_lines s c) (movers_in t.obstacles)) line = subst (λ (l : List Line). Includes l line) t.lines_are i in
    both_other (t.obstacles ++ map fixed_of s.fixed ++ polygon_lines (movers_in t.obstacles) t.polygons) (flat_map (occ_lines s c) (movers_in t.obstacles))
    (both_other (t.obstacles ++ map fixed_of s.fixed) (polygon_lines (movers_in t.obstacles) t.polygons)
    (both_other t.obstacles (map fixed_of s.fixed) (λ l j. let (m, at, h) = from_second (IsObstacleLine s) s.movers t.obstacles l t.obstacles_are j in obstacle_other s m l h) (map_other fixed_of (λ f. refl) s.fixed))
    (polygons_other (movers_in t.obstacles) t.polygons))
    (occupied_other s c (movers_in t.obstacles)) line k

steps_other : (recorded : ℕ → List Disc) (i : ℕ) (lists : List (List SetValue)) → AreOther (lines_from recorded i lists)
unfolding AreOther IsOther end_in
steps_other recorded i [] line h = absurd h
steps_other recorded i (sets ∷ lists) line h = elim (includes_either (step_lines i (recorded i) sets) (lines_from recorded (i + 1) lists) line h) [
  | inl j ↦ elim (includes_either (map (λ (d : Disc). disc_line i d.id d.p d.r) (recorded i) ++ map (set_line i) sets) (count_line i (length sets) ∷ []) line j) [
    | inl k ↦ elim (includes_either (map (λ (d : Disc). disc_line i d.id d.p d.r) (recorded i)) (map (set_line i) sets) line k) [
      | inl l ↦ map_other (λ (d : Disc). disc_line i d.id d.p d.r) (λ d. refl) (recorded i) line l
      | inr l ↦ map_other (set_line i) (λ b. refl) sets line l
    ]
    | inr k ↦ counted line k
  ]
  | inr j ↦ steps_other recorded (i + 1) lists line j
]
  where
    counted : (line : Line) → Includes (count_line i (length sets) ∷ []) line → end_in line ≡ None
    counted line (inl e) = rw e refl
    counted line (inr h) = absurd h

-- the end that is told behind other lines
told : (xs : List Line) (end e : End) → AreOther xs → Includes (xs ++ last_line end ∷ []) (last_line e) → e ≡ end
unfolding AreOther IsOther end_in
told xs end e other i = elim (includes_either xs (last_line end ∷ []) (last_line e) i) [
  | inl j ↦ absurd (let f : Some e ≡ None = other (last_line e) j in cc)
  | inr (inl f) ↦ (let g : last_line e ≡ last_line end = f in cc)
  | inr (inr j) ↦ absurd j
]

-- ---- the lines of the ego and of the steps

ego_covered : (s : Scenario) (c : Command) (problem : Problem) (pieces : ℕ → List Piece) (lists : List (List SetValue)) (end : End) (recorded : ℕ → List Disc) (lines : List Line)
    → IsRun s c problem pieces lists end → HasVelocities problem → Avoids s c problem pieces lists
    → ((line : Line) → Includes (area_lines problem (course_of s c problem) recorded lists end) line → Includes lines line)
    → ((e : End) → Includes lines (last_line e) → e ≡ end)
    → ((i : ℕ) (states : List State) → i ≤ c.steps → IsStruckBy (course_of s c problem) (λ j. length (pieces j)) (λ j. Hits (pieces j)) i states → IsStruck s c lines i states)
    → ((i : ℕ) → AreStepLists (course_of s c problem) (λ j. length (pieces j)) (λ j. Hits (pieces j)) c.steps lists (Empty i) → i ≤ c.steps)
    → CoversEgo s c lines
unfolding AllAvoid
ego_covered s c problem pieces lists end recorded lines run velocities avoids printed ends struck within =
    let course : Course = course_of s c problem in record {
      ego = ego_of problem course;
      printed = printed (ego_line (ego_of problem course)) (inl refl);
      line = record { problem = problem; chosen = run.chosen; id = refl; p = refl; a = refl; v = refl; w = refl; g = refl; b = velocities };
      held = λ states motion i state le got free. elim (held_or_struck course (λ j. length (pieces j)) (λ j. Hits (pieces j)) c.steps lists end run.lists_are avoids i states state le motion got) [
        | inl (sets, g, (b, at, holds)) ↦ record {
          base = b;
          printed = printed (set_line i b) (inr (includes_front (lines_from recorded 0 lists) (last_line end ∷ []) (set_line i b)
              (subst (λ (x : ℕ). Includes (lines_from recorded 0 lists) (set_line x b)) (let q : 0 + i ≡ i = omega arith in q) (set_printed recorded 0 lists i sets b g at))));
          holds = holds;
        }
        | inr by ↦ absurd (free (struck i states le by))
      ];
      struck = λ i told states motion state got.
          let same : Empty i ≡ end = ends (Empty i) told in
          let are : AreStepLists course (λ j. length (pieces j)) (λ j. Hits (pieces j)) c.steps lists (Empty i) = subst (λ (x : End). AreStepLists course (λ j. length (pieces j)) (λ j. Hits (pieces j)) c.steps lists x) (sym same) run.lists_are in
          struck i states (within i are) (all_struck course (λ j. length (pieces j)) (λ j. Hits (pieces j)) c.steps lists i are avoids states state motion got);
    }

-- an empty end comes at a step of the run
module _ (course : Course) (count : ℕ → ℕ) (At : ℕ → ℕ → Pt → Type 0) (n : ℕ) where
  follow_within : (i : ℕ) (sets : List SetValue) (later : List (List SetValue)) (k : ℕ) → i ≤ n → Follow course count At n i sets later (Empty k) → k ≤ n
  follow_within i [] later k le f = let e = same_empty course count At n k i f.1 in omega (arith, e, le)
  follow_within i (b ∷ sets) [] k le f = absurd (let e : Empty k ≡ Open = f.1 in cc)
  follow_within i (b ∷ sets) (next ∷ later) k le f = follow_within (suc i) next later k (let l = f.0 in omega (arith, l)) f.2

  pub ends_within : (lists : List (List SetValue)) (k : ℕ) → AreStepLists course count At n lists (Empty k) → k ≤ n
  ends_within [] k are = absurd are
  ends_within (first ∷ later) k are = follow_within 0 first later k (omega arith) are.1

-- ---- the two reports

entered : (s : Scenario) (c : Command) (lines : List Line) (i : ℕ) (states : List State) → c.task ≡ Area → HasEntered s c lines i states → IsStruck s c lines i states
entered s c lines i states e h = subst (λ (task : Task). IsStruckIn task s c lines i states) (sym e) h

collided : (s : Scenario) (c : Command) (lines : List Line) (i : ℕ) (states : List State) → c.task ≡ Replay → HasCollided s c i states → IsStruck s c lines i states
collided s c lines i states e h = subst (λ (task : Task). IsStruckIn task s c lines i states) (sym e) h

pub area_covers : AreaCovers
unfolding AreOther IsOther end_in
area_covers s c lines end r area some velocities avoids =
    let course : Course = course_of s c r.problem in
    let back : List Line = area_lines r.problem course (λ i. []) r.lists end in
    let front : List Line = ego_line (ego_of r.problem course) ∷ lines_from (λ i. []) 0 r.lists in
    let from_back : (line : Line) → Includes (area_lines r.problem (course_of s c r.problem) (λ i. []) r.lists end) line → Includes lines line = λ line i.
    subst (λ (l : List Line). Includes l line) (sym r.lines_are) (inr (inr (includes_back r.traffic (area_lines r.problem (course_of s c r.problem) (λ i. []) r.lists end) line i))) in
    let from_traffic : (line : Line) → Includes r.traffic line → Includes lines line = λ line i.
    subst (λ (l : List Line). Includes l line) (sym r.lines_are) (inr (inr (includes_front r.traffic (area_lines r.problem (course_of s c r.problem) (λ i. []) r.lists end) line i))) in
    ego_covered s c r.problem r.pieces r.lists end (λ i. []) lines r.run velocities avoids from_back
    (λ e i. ends_area e (subst (λ (l : List Line). Includes l (last_line e)) r.lines_are i))
    (λ i states le by. entered s c lines i states area (struck_is_entered s c (course_of s c r.problem) r.traffic lines r.pieces i states area some le refl r.traffic_is from_traffic r.run.pieces_are by))
    (λ i are. ends_within (course_of s c r.problem) (λ j. length (r.pieces j)) (λ j. Hits (r.pieces j)) c.steps r.lists i are)
  where
    ends_area : (e : End) → Includes (head_line mode.Area ∷ time_line s.step c.steps ∷ r.traffic ++ area_lines r.problem (course_of s c r.problem) (λ i. []) r.lists end) (last_line e) → e ≡ end
    ends_area e (inl f) = absurd (let g : last_line e ≡ head_line mode.Area = f in cc)
    ends_area e (inr (inl f)) = absurd (let g : last_line e ≡ time_line s.step c.steps = f in cc)
    ends_area e (inr (inr i)) = elim (includes_either r.traffic (area_lines r.problem (course_of s c r.problem) (λ i. []) r.lists end) (last_line e) i) [
      | inl j ↦ absurd (let f : Some e ≡ None = traffic_other s c r.traffic r.traffic_is (last_line e) j in cc)
      | inr (inl f) ↦ absurd (let g : last_line e ≡ ego_line (ego_of r.problem (course_of s c r.problem)) = f in cc)
      | inr (inr j) ↦ told (lines_from (λ i. []) 0 r.lists) end e (steps_other (λ i. []) 0 r.lists) j
    ]

pub replay_covers : ReplayCovers
unfolding AreOther IsOther end_in
replay_covers s c lines end r replay velocities avoids =
    let from_back : (line : Line) → Includes (area_lines r.problem (course_of s c r.problem) (discs s (ego_radius c)) r.lists end) line → Includes lines line = λ line i.
    subst (λ (l : List Line). Includes l line) (sym r.lines_are) (inr (inr i)) in
    ego_covered s c r.problem r.pieces r.lists end (discs s (ego_radius c)) lines r.run velocities avoids from_back
    (λ e i. ends_replay e (subst (λ (l : List Line). Includes l (last_line e)) r.lines_are i))
    (λ i states le by. collided s c lines i states replay (struck_is_collided s c (course_of s c r.problem) r.pieces i states replay le refl r.run.pieces_are by))
    (λ i are. ends_within (course_of s c r.problem) (λ j. length (r.pieces j)) (λ j. Hits (r.pieces j)) c.steps r.lists i are)
  where
    ends_replay : (e : End) → Includes (head_line mode.Replay ∷ time_line s.step c.steps ∷ area_lines r.problem (course_of s c r.problem) (discs s (ego_radius c)) r.lists end) (last_line e) → e ≡ end
    ends_replay e (inl f) = absurd (let g : last_line e ≡ head_line mode.Replay = f in cc)
    ends_replay e (inr (inl f)) = absurd (let g : last_line e ≡ time_line s.step c.steps = f in cc)
    ends_replay e (inr (inr (inl f))) = absurd (let g : last_line e ≡ ego_line (ego_of r.problem (course_of s c r.problem)) = f in cc)
    ends_replay e (inr (inr (inr j))) = told (lines_from (discs s (ego_radius c)) 0 r.lists) end e (steps_other (discs s (ego_radius c)) 0 r.lists) j
