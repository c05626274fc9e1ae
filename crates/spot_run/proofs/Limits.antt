-- When a run is refused, or passes a limit.
use Rattle.std.proofs.Common.{◌≡◌, ◌∙◌, ◌⊎◌, inl, inr, ℕ, ◌<◌, ◌≤◌, List, map, length, Option, Some, None, refl, sym, ap, subst, arith}
use Rattle.std.specs.Prelude.{slice_get}
use Rattle.spot_terms.specs.Cells.{Lane, cells}
use Rattle.spot_terms.specs.Courses.{Course, box_at}
use Rattle.spot_terms.specs.Limits.{IsTooWide, AreNarrowBelow, IsFirstWide, HasNetwork}
use Rattle.spot_terms.specs.Lists.{Pairwise}
use Rattle.spot_terms.specs.OccupiedPieces.{Occupant, IsOccupant, AreOccupants, predicted_pieces, recorded_pieces}
use Rattle.spot_terms.specs.Participants.{starting, PairsSumTo, HasPairs}
use Rattle.spot_terms.specs.Pieces.{Piece, range_of, disc}
use Rattle.spot_terms.specs.RowBoxes.{IsTooWideAt, IsNarrow, IsAreaTooWide, row_boxes_in, row_boxes}
use Rattle.spot_terms.specs.Statuses.{IsDone}
use Rattle.spot_terms.specs.Tasks.{PredictsTraffic}
use Rattle.spot_terms.specs.declared.command.Command.{Command}
use Rattle.spot_terms.specs.declared.command.Task.{Task}
use Rattle.spot_terms.specs.declared.command.Task.TheVariants.{Replay}
use Rattle.spot_terms.specs.declared.limits.TheConstants.{MOST_CELLS, MOST_LANE_POLYGONS, MOST_ROW_BOXES}
use Rattle.spot_terms.specs.declared.plain.Disc.{Disc}
use Rattle.spot_terms.specs.declared.scenario.Problem.{Problem}
use Rattle.spot_terms.specs.declared.scenario.Scenario.{Scenario}
use Rattle.spot_terms.specs.declared.status.Code.{Code}
use Rattle.spot_terms.specs.declared.status.Code.TheVariants.{NoProblem, LateProblem, EgoTooFast}
use Rattle.spot_terms.specs.declared.status.Which.{Which}
use Rattle.spot_terms.specs.declared.status.Which.TheVariants.{TooManyCells, LaneTooWide, TooManyLanePolygons, AreaTooWide, TooManyBoxes}
use Rattle.spot_terms.specs.declared.status.Status.{Status}
use Rattle.spot_terms.specs.declared.status.Status.TheVariants.{Open, Empty, Refused, Limit, WriteFault, Memory}
use Rattle.spot_terms.proofs.ItemPlaces.{got_below}
use Rattle.spot_terms.proofs.Orders.{below_or_at_least}
use Rattle.spot_terms.proofs.Unique.{some_one}
use Rattle.spot_claims.specs.Answers.{IsOutside, HasNoProblem, HasLateProblem, HasFastProblem, HasManyCells, HasWideLane, HasManyPairs, HasWideArea, HasManyBoxes}
use Rattle.spot_claims.specs.AreaOf.{ArePieces, HasTooManyBoxesOver}
use Rattle.spot_claims.specs.Outcomes.{PassesAll}
use Rattle.spot_claims.specs.Problems.{ego_radius, chosen, IsChosen, IsSlowEnough, course_of, PassesProblem}
use Rattle.spot_claims.specs.Stages.{IsWithinTraffic, PassesToNetwork, PassesToArea}
use Rattle.spot_claims.proofs.OneReport.{traffic_pieces, pieces_of_traffic, replay_pieces, traffic_same, replay_same}
use Rattle.participants.proofs.OneNumber.{pairs_are_one}
use Rattle.spot_run.specs.Tells.{HasSomePieces, Tells}
use Rattle.spot_run.proofs.Runs.{AreAlike, discs_same}

-- ---- one lanelet is the first that is too wide

before_first : (lanes : List Lane) (e f : ℕ) (l : Lane) → AreNarrowBelow lanes f → slice_get lanes e ≡ Some l → IsTooWide l.1 → f ≤ e
before_first lanes e f l narrow at wide = elim (below_or_at_least e f) [
  | inl below ↦ absurd (narrow e l below at wide)
  | inr not ↦ not
]

first_is_one : (lanes : List Lane) (a b : ℕ) → IsFirstWide lanes (Some a) → IsFirstWide lanes (Some b) → a ≡ b
first_is_one lanes a b (e, l, at, is, wide, narrow) (f, m, there, also, broad, thin) =
    let low : f ≤ e = before_first lanes e f l thin at wide in
    let high : e ≤ f = before_first lanes f e m narrow there broad in
    let same : e ≡ f = omega (arith, low, high) in
    let one : l ≡ m = some_one (slice_get lanes f) l m (subst (λ (i : ℕ). slice_get lanes i ≡ Some l) same at) there in
    is ∙ ap (λ (x : Lane). x.0) one ∙ sym also

none_wide : (lanes : List Lane) (id : ℕ) → HasNetwork lanes → IsFirstWide lanes (Some id) → ⊥
none_wide lanes id network (e, l, at, is, wide, narrow) = network.narrow e l (got_below lanes e l at) at wide

too_many : (n m k : ℕ) → n ≤ k → m ≡ n → k < m → ⊥
too_many n m k a b c = omega (arith, a, b, c)

-- ---- the same of another scenario of the bytes

turned : (s t : Scenario) → AreAlike s t → AreAlike t s
turned s t h = record { step = sym h.step; movers = sym h.movers; fixed = sym h.fixed; problems = sym h.problems; lanes = sym h.lanes }

-- what is said of pairs is said of the other scenario of the bytes
pairs_carried : (s t : Scenario) (steps n : ℕ) → AreAlike t s → HasPairs t steps n → HasPairs s steps n
pairs_carried s t steps n same h =
    subst (λ ls. PairsSumTo ls s.step steps (starting s.movers) n) same.lanes
    (subst (λ k. PairsSumTo t.lanelets.entries k steps (starting s.movers) n) same.step (subst (λ ms. PairsSumTo t.lanelets.entries t.step steps (starting ms) n) same.movers h))

task_either : (task : Task) → PredictsTraffic task ⊎ (task ≡ Replay)
task_either Replay = inr refl
task_either task = inl tt

pub pieces_replay : (s : Scenario) (c : Command) (pieces : ℕ → List Piece) → c.task ≡ Replay → ((i : ℕ) → i ≤ c.steps → pieces i ≡ recorded_pieces s (ego_radius c) i) → ArePieces s c pieces
pieces_replay s c pieces e h = rw e h

occupants_same : (s t : Scenario) (steps : ℕ) (occupants : List Occupant) → AreAlike t s → AreOccupants t steps occupants → AreOccupants s steps occupants
occupants_same s t steps occupants same h =
    subst (λ ms. Pairwise (IsOccupant s.lanelets.entries s.step steps) (starting ms) occupants) same.movers
    (subst (λ ls. Pairwise (IsOccupant ls s.step steps) (starting t.movers) occupants) same.lanes (subst (λ (k : ℕ). Pairwise (IsOccupant t.lanelets.entries k steps) (starting t.movers) occupants) same.step h))

predicted_same : (s t : Scenario) (occupants : List Occupant) (i : ℕ) → AreAlike t s → predicted_pieces t occupants i ≡ predicted_pieces s occupants i
unfolding predicted_pieces
predicted_same s t occupants i same = rw (same.fixed, same.step) refl

course_same : (s t : Scenario) (c : Command) (p : Problem) → AreAlike t s → course_of t c p ≡ course_of s c p
course_same s t c p same = rw same.step refl

module _ (s t : Scenario) (c : Command) (same : AreAlike t s) where
  is_chosen : (p : Problem) → IsChosen t c p → IsChosen s c p
  is_chosen p h = subst (λ ps. chosen c.problem ps ≡ Some p) same.problems h

  passes_carried : PassesToNetwork t c → PassesToNetwork s c
  passes_carried h = record { problem = λ finds. let (p, is, zero, slow) = h.problem finds in (p, is_chosen p is, zero, slow) }

  traffic_carried : IsWithinTraffic t c → IsWithinTraffic s c
  traffic_carried h = record { network = subst HasNetwork same.lanes h.network; pairs = λ n pairs. h.pairs n (pairs_carried t s c.steps n (turned t s same) pairs) }

  area_carried : (p : Problem) → PassesToArea t c p → PassesToArea s c p
  area_carried p h = record { finds = h.finds; passing = passes_carried h.passing; chosen = is_chosen p h.chosen; traffic = λ predicts. traffic_carried (h.traffic predicts) }

  pieces_carried : (pieces : ℕ → List Piece) → ArePieces t c pieces → ArePieces s c pieces
  pieces_carried pieces h =
      elim (task_either c.task) [
        | inl predicts ↦ predicted_over pieces predicts h
        | inr task ↦ recorded_over pieces task h
      ]
    where
      predicted_over : (pieces : ℕ → List Piece) → PredictsTraffic c.task → ArePieces t c pieces → ArePieces s c pieces
      predicted_over pieces predicts h =
          let (occupants, are, is) = traffic_pieces t c pieces predicts h in
          pieces_of_traffic s c pieces occupants predicts (occupants_same s t c.steps occupants same are) (λ i within. is i within ∙ predicted_same s t occupants i same)

      recorded_over : (pieces : ℕ → List Piece) → c.task ≡ Replay → ArePieces t c pieces → ArePieces s c pieces
      recorded_over pieces task h = pieces_replay s c pieces task (λ i within. replay_pieces t c pieces task h i within ∙ ap (λ (ds : List Disc). map (λ d. disc d.p d.r) ds) (discs_same t s (ego_radius c) i same))

  pub no_problem_carried : HasNoProblem t c → HasNoProblem s c
  no_problem_carried h = record { finds = h.finds; none = subst (λ ps. chosen c.problem ps ≡ None) same.problems h.none }

  pub late_carried : (place : ℕ) → HasLateProblem place t c → HasLateProblem place s c
  late_carried place h = record { finds = h.finds; problem = h.problem; chosen = is_chosen h.problem h.chosen; late = h.late; place_is = h.place_is }

  pub fast_carried : (place : ℕ) → HasFastProblem place t c → HasFastProblem place s c
  fast_carried place h = record { finds = h.finds; problem = h.problem; chosen = is_chosen h.problem h.chosen; at_start = h.at_start; fast = h.fast; place_is = h.place_is }

  pub cells_carried : (count : ℕ) → HasManyCells count t c → HasManyCells count s c
  cells_carried count h = record { passing = passes_carried h.passing; predicts = h.predicts; count_is = h.count_is ∙ ap (λ ls. length (cells ls)) same.lanes; many = h.many }

  pub wide_carried : (id : ℕ) → HasWideLane id t c → HasWideLane id s c
  wide_carried id h = record { passing = passes_carried h.passing; predicts = h.predicts; few = subst (λ ls. length (cells ls) ≤ MOST_CELLS) same.lanes h.few; first = subst (λ ls. IsFirstWide ls (Some id)) same.lanes h.first }

  pub many_pairs_carried : (count : ℕ) → HasManyPairs count t c → HasManyPairs count s c
  many_pairs_carried count h = record { passing = passes_carried h.passing; predicts = h.predicts; network = subst HasNetwork same.lanes h.network; count_is = pairs_carried s t c.steps count same h.count_is; many = h.many }

  pub wide_area_carried : (step count : ℕ) → HasWideArea step count t c → HasWideArea step count s c
  wide_area_carried step count h = record { problem = h.problem; passing = area_carried h.problem h.passing; wide = subst (λ (course : Course). IsAreaTooWide course c.steps step count) (course_same s t c h.problem same) h.wide }

  pub boxes_carried : (step count : ℕ) → HasManyBoxes step count t c → HasManyBoxes step count s c
  boxes_carried step count h = record {
    problem = h.problem;
    passing = area_carried h.problem h.passing;
    pieces = h.pieces;
    pieces_are = pieces_carried h.pieces h.pieces_are;
    narrow = subst (λ (course : Course). IsNarrow course c.steps) (course_same s t c h.problem same) h.narrow;
    many = subst (λ (course : Course). HasTooManyBoxesOver course c.steps h.pieces step count) (course_same s t c h.problem same) h.many;
  }

-- ---- two causes can't be

module _ (s : Scenario) (c : Command) where
  no_problem_passes : HasNoProblem s c → PassesProblem s c → ⊥
  no_problem_passes x h = let (p, is, zero, slow) = h x.finds in let none = x.none in cc

  late_passes : (place : ℕ) → HasLateProblem place s c → PassesProblem s c → ⊥
  late_passes place x h =
      let (p, is, zero, slow) = h x.finds in
      let one : x.problem ≡ p = some_one (chosen c.problem s.problems) x.problem p x.chosen is in
      let late : 0 < p.time = subst (λ (q : Problem). 0 < q.time) one x.late in omega (arith, late, zero)

  fast_passes : (place : ℕ) → HasFastProblem place s c → PassesProblem s c → ⊥
  fast_passes place x h =
      let (p, is, zero, slow) = h x.finds in
      let one : x.problem ≡ p = some_one (chosen c.problem s.problems) x.problem p x.chosen is in
      x.fast (subst (λ (q : Problem). IsSlowEnough c q) (sym one) slow)

  none_some : (p : Problem) → HasNoProblem s c → IsChosen s c p → ⊥
  none_some p x is = let none = x.none in cc

  late_fast : (place other : ℕ) → HasLateProblem place s c → HasFastProblem other s c → ⊥
  late_fast place other x y =
      let one : x.problem ≡ y.problem = some_one (chosen c.problem s.problems) x.problem y.problem x.chosen y.chosen in
      let late : 0 < y.problem.time = subst (λ (q : Problem). 0 < q.time) one x.late in
      let zero = y.at_start in omega (arith, late, zero)

  late_one : (place other : ℕ) → HasLateProblem place s c → HasLateProblem other s c → place ≡ other
  late_one place other x y = x.place_is ∙ ap (λ (q : Problem). q.place) (some_one (chosen c.problem s.problems) x.problem y.problem x.chosen y.chosen) ∙ sym y.place_is

  fast_one : (place other : ℕ) → HasFastProblem place s c → HasFastProblem other s c → place ≡ other
  fast_one place other x y = x.place_is ∙ ap (λ (q : Problem). q.place) (some_one (chosen c.problem s.problems) x.problem y.problem x.chosen y.chosen) ∙ sym y.place_is

  cells_few : (count : ℕ) → HasManyCells count s c → length (cells s.lanelets.entries) ≤ MOST_CELLS → ⊥
  cells_few count x few = too_many (length (cells s.lanelets.entries)) count MOST_CELLS few x.count_is x.many

  pairs_few : (count : ℕ) → HasManyPairs count s c → IsWithinTraffic s c → ⊥
  pairs_few count x h = too_many count count MOST_LANE_POLYGONS (h.pairs count x.count_is) refl x.many

  wide_narrow : (step count : ℕ) (p : Problem) → HasWideArea step count s c → IsChosen s c p → IsNarrow (course_of s c p) c.steps → ⊥
  wide_narrow step count p x is narrow =
      let one : x.problem ≡ p = some_one (chosen c.problem s.problems) x.problem p x.passing.chosen is in
      let wide = subst (λ (q : Problem). IsAreaTooWide (course_of s c q) c.steps step count) one x.wide in narrow step count wide.within wide.wide

  wide_within : (step count : ℕ) → HasWideArea step count s c → HasSomePieces s c → PassesAll s c → ⊥
  wide_within step count x (pieces, are) h = wide_narrow step count x.problem x x.passing.chosen (h.within.area x.passing.finds x.problem pieces x.passing.chosen are).narrow

  boxes_within : (step count : ℕ) → HasManyBoxes step count s c → PassesAll s c → ⊥
  boxes_within step count x h =
      let few = (h.within.area x.passing.finds x.problem x.pieces x.passing.chosen x.pieces_are).few step x.many.within in
      more count (row_boxes (course_of s c x.problem) (λ i. length (x.pieces i)) (λ i. range_of (x.pieces i)) step) x.many.boxes_are x.many.many few
    where
      more : (boxes n : ℕ) → boxes ≡ n → MOST_ROW_BOXES < boxes → n ≤ MOST_ROW_BOXES → ⊥
      more boxes n e many few = omega (arith, e, many, few)

  order_one : (i j : ℕ) → (i < j → ⊥) → (j < i → ⊥) → i ≡ j
  order_one i j a b = elim (below_or_at_least i j) [ inl h ↦ absurd (a h) | inr h ↦ elim (below_or_at_least j i) [ inl k ↦ absurd (b k) | inr k ↦ omega (arith, h, k) ] ]

  width_one : (course : Course) (i n m : ℕ) → IsTooWideAt course i n → IsTooWideAt course i m → n ≡ m
  width_one course i n m (inl a) (inl b) = a.1 ∙ sym b.1
  width_one course i n m (inl a) (inr b) = absurd (let x = a.0 in let y = b.0 in omega (arith, x, y))
  width_one course i n m (inr a) (inl b) = absurd (let x = a.0 in let y = b.0 in omega (arith, x, y))
  width_one course i n m (inr a) (inr b) = a.2 ∙ sym b.2

  wide_one : (step other count number : ℕ) → HasWideArea step count s c → HasWideArea other number s c → (step ≡ other) × (count ≡ number)
  wide_one step other count number x y =
      let one : x.problem ≡ y.problem = some_one (chosen c.problem s.problems) x.problem y.problem x.passing.chosen y.passing.chosen in
      let wide = subst (λ (q : Problem). IsAreaTooWide (course_of s c q) c.steps step count) one x.wide in
      let same : step ≡ other = order_one step other (λ less. y.wide.least step count less wide.wide) (λ less. wide.least other number less y.wide.wide) in
      (same, width_one (course_of s c y.problem) other count number (subst (λ (i : ℕ). IsTooWideAt (course_of s c y.problem) i count) same wide.wide) y.wide.wide)

  pieces_one : (ps qs : ℕ → List Piece) → ArePieces s c ps → ArePieces s c qs → (i : ℕ) → i ≤ c.steps → ps i ≡ qs i
  pieces_one ps qs h k i within = elim (task_either c.task) [
    | inl predicts ↦ traffic_same s c ps qs predicts h k i within
    | inr task ↦ replay_same s c ps qs task h k i within
  ]

  boxes_one : (step other count number : ℕ) → HasManyBoxes step count s c → HasManyBoxes other number s c → (step ≡ other) × (count ≡ number)
  boxes_one step other count number x y =
      let one : x.problem ≡ y.problem = some_one (chosen c.problem s.problems) x.problem y.problem x.passing.chosen y.passing.chosen in
      let many = subst (λ (q : Problem). HasTooManyBoxesOver (course_of s c q) c.steps x.pieces step count) one x.many in
      let course = course_of s c y.problem in
      let boxes : (i : ℕ) → i ≤ c.steps → over course x.pieces i ≡ over course y.pieces i
      = λ i within. ap (λ (ps : List Piece). row_boxes_in course.w course.g (box_at course i) (length ps) (range_of ps)) (pieces_one x.pieces y.pieces x.pieces_are y.pieces_are i within) in
      let same : step ≡ other = order_one step other
      (λ less. more (boxes step many.within) many.boxes_are many.many (y.many.least step less))
      (λ less. more (sym (boxes other y.many.within)) y.many.boxes_are y.many.many (many.least other less)) in
      (same, many.boxes_are ∙ ap (over course x.pieces) same ∙ boxes other y.many.within ∙ sym y.many.boxes_are)
    where
      over : Course → (ℕ → List Piece) → ℕ → ℕ
      over course pieces i = row_boxes_in course.w course.g (box_at course i) (length (pieces i)) (range_of (pieces i))

      more : {n m boxes : ℕ} → n ≡ m → boxes ≡ n → MOST_ROW_BOXES < boxes → m ≤ MOST_ROW_BOXES → ⊥
      more e f many few = omega (arith, e, f, many, few)

-- ---- what comes where there is a cause

same_place : (code : Code) (a b : ℕ) → a ≡ b → Refused code a ≡ Refused code b
same_place code a b e = ap (λ (p : ℕ). Refused code p) e

same_step : (which : Which) (a b n m : ℕ) → a ≡ b → n ≡ m → Limit which a n ≡ Limit which b m
same_step which a b n m e f = cc

same_limit : (which : Which) (step a b : ℕ) → step ≡ 0 → a ≡ b → Limit which step a ≡ Limit which 0 b
same_limit which step a b e f = cc

-- the whole output is written, or a call of the sink failed
abbrev pub IsWrittenOut : Status → Type 0
IsWrittenOut status = IsDone status ⊎ (status ≡ WriteFault)

module _ (s : Scenario) (c : Command) (before after : Option (List ℕ)) where
  pub no_problem_comes : (status : Status) → HasNoProblem s c → Tells s c before after status → (status ≡ Refused NoProblem 0) ⊎ IsOutside status
  no_problem_comes Open x y = absurd (no_problem_passes s c x y.passes.passing.problem)
  no_problem_comes (Empty i) x y = absurd (no_problem_passes s c x y.passes.passing.problem)
  no_problem_comes WriteFault x y = absurd (no_problem_passes s c x y.passes.passing.problem)
  no_problem_comes Memory x y = inr (inl refl)
  no_problem_comes (Refused NoProblem p) x y = inl (same_place NoProblem p 0 y.0)
  no_problem_comes (Refused LateProblem p) x y = absurd (none_some s c y.problem x y.chosen)
  no_problem_comes (Refused EgoTooFast p) x y = absurd (none_some s c y.problem x y.chosen)
  no_problem_comes (Limit TooManyCells i n) x y = absurd (no_problem_passes s c x y.1.passing.problem)
  no_problem_comes (Limit LaneTooWide i n) x y = absurd (no_problem_passes s c x y.1.passing.problem)
  no_problem_comes (Limit TooManyLanePolygons i n) x y = absurd (no_problem_passes s c x y.1.passing.problem)
  no_problem_comes (Limit AreaTooWide i n) x y = absurd (no_problem_passes s c x y.0.passing.passing.problem)
  no_problem_comes (Limit TooManyBoxes i n) x y = absurd (no_problem_passes s c x y.passing.passing.problem)
  no_problem_comes status x y = absurd y

  pub late_comes : (status : Status) (place : ℕ) → HasLateProblem place s c → Tells s c before after status → (status ≡ Refused LateProblem place) ⊎ IsOutside status
  late_comes Open place x y = absurd (late_passes s c place x y.passes.passing.problem)
  late_comes (Empty i) place x y = absurd (late_passes s c place x y.passes.passing.problem)
  late_comes WriteFault place x y = absurd (late_passes s c place x y.passes.passing.problem)
  late_comes Memory place x y = inr (inl refl)
  late_comes (Refused NoProblem p) place x y = absurd (none_some s c x.problem y.1 x.chosen)
  late_comes (Refused LateProblem p) place x y = inl (same_place LateProblem p place (late_one s c p place y x))
  late_comes (Refused EgoTooFast p) place x y = absurd (late_fast s c place p x y)
  late_comes (Limit TooManyCells i n) place x y = absurd (late_passes s c place x y.1.passing.problem)
  late_comes (Limit LaneTooWide i n) place x y = absurd (late_passes s c place x y.1.passing.problem)
  late_comes (Limit TooManyLanePolygons i n) place x y = absurd (late_passes s c place x y.1.passing.problem)
  late_comes (Limit AreaTooWide i n) place x y = absurd (late_passes s c place x y.0.passing.passing.problem)
  late_comes (Limit TooManyBoxes i n) place x y = absurd (late_passes s c place x y.passing.passing.problem)
  late_comes status place x y = absurd y

  pub fast_comes : (status : Status) (place : ℕ) → HasFastProblem place s c → Tells s c before after status → (status ≡ Refused EgoTooFast place) ⊎ IsOutside status
  fast_comes Open place x y = absurd (fast_passes s c place x y.passes.passing.problem)
  fast_comes (Empty i) place x y = absurd (fast_passes s c place x y.passes.passing.problem)
  fast_comes WriteFault place x y = absurd (fast_passes s c place x y.passes.passing.problem)
  fast_comes Memory place x y = inr (inl refl)
  fast_comes (Refused NoProblem p) place x y = absurd (none_some s c x.problem y.1 x.chosen)
  fast_comes (Refused LateProblem p) place x y = absurd (late_fast s c p place y x)
  fast_comes (Refused EgoTooFast p) place x y = inl (same_place EgoTooFast p place (fast_one s c p place y x))
  fast_comes (Limit TooManyCells i n) place x y = absurd (fast_passes s c place x y.1.passing.problem)
  fast_comes (Limit LaneTooWide i n) place x y = absurd (fast_passes s c place x y.1.passing.problem)
  fast_comes (Limit TooManyLanePolygons i n) place x y = absurd (fast_passes s c place x y.1.passing.problem)
  fast_comes (Limit AreaTooWide i n) place x y = absurd (fast_passes s c place x y.0.passing.passing.problem)
  fast_comes (Limit TooManyBoxes i n) place x y = absurd (fast_passes s c place x y.passing.passing.problem)
  fast_comes status place x y = absurd y

  pub cells_comes : (status : Status) (count : ℕ) → HasManyCells count s c → Tells s c before after status → (status ≡ Limit TooManyCells 0 count) ⊎ IsOutside status
  cells_comes Open count x y = absurd (cells_few s c count x (y.passes.within.traffic x.predicts).network.few)
  cells_comes (Empty i) count x y = absurd (cells_few s c count x (y.passes.within.traffic x.predicts).network.few)
  cells_comes WriteFault count x y = absurd (cells_few s c count x (y.passes.within.traffic x.predicts).network.few)
  cells_comes Memory count x y = inr (inl refl)
  cells_comes (Refused NoProblem p) count x y = absurd (no_problem_passes s c y.1 x.passing.problem)
  cells_comes (Refused LateProblem p) count x y = absurd (late_passes s c p y x.passing.problem)
  cells_comes (Refused EgoTooFast p) count x y = absurd (fast_passes s c p y x.passing.problem)
  cells_comes (Limit TooManyCells i n) count x y = inl (same_limit TooManyCells i n count y.0 (y.1.count_is ∙ sym x.count_is))
  cells_comes (Limit LaneTooWide i n) count x y = absurd (cells_few s c count x y.1.few)
  cells_comes (Limit TooManyLanePolygons i n) count x y = absurd (cells_few s c count x y.1.network.few)
  cells_comes (Limit AreaTooWide i n) count x y = absurd (cells_few s c count x (y.0.passing.traffic x.predicts).network.few)
  cells_comes (Limit TooManyBoxes i n) count x y = absurd (cells_few s c count x (y.passing.traffic x.predicts).network.few)
  cells_comes status count x y = absurd y

  pub wide_comes : (status : Status) (id : ℕ) → HasWideLane id s c → Tells s c before after status → (status ≡ Limit LaneTooWide 0 id) ⊎ IsOutside status
  wide_comes Open id x y = absurd (none_wide s.lanelets.entries id (y.passes.within.traffic x.predicts).network x.first)
  wide_comes (Empty i) id x y = absurd (none_wide s.lanelets.entries id (y.passes.within.traffic x.predicts).network x.first)
  wide_comes WriteFault id x y = absurd (none_wide s.lanelets.entries id (y.passes.within.traffic x.predicts).network x.first)
  wide_comes Memory id x y = inr (inl refl)
  wide_comes (Refused NoProblem p) id x y = absurd (no_problem_passes s c y.1 x.passing.problem)
  wide_comes (Refused LateProblem p) id x y = absurd (late_passes s c p y x.passing.problem)
  wide_comes (Refused EgoTooFast p) id x y = absurd (fast_passes s c p y x.passing.problem)
  wide_comes (Limit TooManyCells i n) id x y = absurd (cells_few s c n y.1 x.few)
  wide_comes (Limit LaneTooWide i n) id x y = inl (same_limit LaneTooWide i n id y.0 (first_is_one s.lanelets.entries n id y.1.first x.first))
  wide_comes (Limit TooManyLanePolygons i n) id x y = absurd (none_wide s.lanelets.entries id y.1.network x.first)
  wide_comes (Limit AreaTooWide i n) id x y = absurd (none_wide s.lanelets.entries id (y.0.passing.traffic x.predicts).network x.first)
  wide_comes (Limit TooManyBoxes i n) id x y = absurd (none_wide s.lanelets.entries id (y.passing.traffic x.predicts).network x.first)
  wide_comes status id x y = absurd y

  pub pairs_comes : (status : Status) (count : ℕ) → HasManyPairs count s c → Tells s c before after status → (status ≡ Limit TooManyLanePolygons 0 count) ⊎ IsOutside status
  pairs_comes Open count x y = absurd (pairs_few s c count x (y.passes.within.traffic x.predicts))
  pairs_comes (Empty i) count x y = absurd (pairs_few s c count x (y.passes.within.traffic x.predicts))
  pairs_comes WriteFault count x y = absurd (pairs_few s c count x (y.passes.within.traffic x.predicts))
  pairs_comes Memory count x y = inr (inl refl)
  pairs_comes (Refused NoProblem p) count x y = absurd (no_problem_passes s c y.1 x.passing.problem)
  pairs_comes (Refused LateProblem p) count x y = absurd (late_passes s c p y x.passing.problem)
  pairs_comes (Refused EgoTooFast p) count x y = absurd (fast_passes s c p y x.passing.problem)
  pairs_comes (Limit TooManyCells i n) count x y = absurd (cells_few s c n y.1 x.network.few)
  pairs_comes (Limit LaneTooWide i n) count x y = absurd (none_wide s.lanelets.entries n x.network y.1.first)
  pairs_comes (Limit TooManyLanePolygons i n) count x y = inl (same_limit TooManyLanePolygons i n count y.0 (pairs_are_one s.lanelets.entries s.step c.steps (starting s.movers) n count y.1.count_is x.count_is))
  pairs_comes (Limit AreaTooWide i n) count x y = absurd (pairs_few s c count x (y.0.passing.traffic x.predicts))
  pairs_comes (Limit TooManyBoxes i n) count x y = absurd (pairs_few s c count x (y.passing.traffic x.predicts))
  pairs_comes status count x y = absurd y

  pub wide_area_comes : (status : Status) (step : ℕ) (count : ℕ) → HasWideArea step count s c → Tells s c before after status → (status ≡ Limit AreaTooWide step count) ⊎ IsOutside status
  wide_area_comes Open step count x y = absurd (wide_within s c step count x (y.pieces x.passing.finds) y.passes)
  wide_area_comes (Empty i) step count x y = absurd (wide_within s c step count x (y.pieces x.passing.finds) y.passes)
  wide_area_comes WriteFault step count x y = absurd (wide_within s c step count x (y.pieces x.passing.finds) y.passes)
  wide_area_comes Memory step count x y = inr (inl refl)
  wide_area_comes (Refused NoProblem p) step count x y = absurd (no_problem_passes s c y.1 x.passing.passing.problem)
  wide_area_comes (Refused LateProblem p) step count x y = absurd (late_passes s c p y x.passing.passing.problem)
  wide_area_comes (Refused EgoTooFast p) step count x y = absurd (fast_passes s c p y x.passing.passing.problem)
  wide_area_comes (Limit TooManyCells i n) step count x y = absurd (cells_few s c n y.1 (x.passing.traffic y.1.predicts).network.few)
  wide_area_comes (Limit LaneTooWide i n) step count x y = absurd (none_wide s.lanelets.entries n (x.passing.traffic y.1.predicts).network y.1.first)
  wide_area_comes (Limit TooManyLanePolygons i n) step count x y = absurd (pairs_few s c n y.1 (x.passing.traffic y.1.predicts))
  wide_area_comes (Limit AreaTooWide i n) step count x y = inl (let both = wide_one s c i step n count y.0 x in same_step AreaTooWide i step n count both.0 both.1)
  wide_area_comes (Limit TooManyBoxes i n) step count x y = absurd (wide_narrow s c step count y.problem x y.passing.chosen y.narrow)
  wide_area_comes status step count x y = absurd y

  pub boxes_comes : (status : Status) (step : ℕ) (count : ℕ) → HasManyBoxes step count s c → Tells s c before after status → (status ≡ Limit TooManyBoxes step count) ⊎ IsOutside status
  boxes_comes Open step count x y = absurd (boxes_within s c step count x y.passes)
  boxes_comes (Empty i) step count x y = absurd (boxes_within s c step count x y.passes)
  boxes_comes WriteFault step count x y = absurd (boxes_within s c step count x y.passes)
  boxes_comes Memory step count x y = inr (inl refl)
  boxes_comes (Refused NoProblem p) step count x y = absurd (no_problem_passes s c y.1 x.passing.passing.problem)
  boxes_comes (Refused LateProblem p) step count x y = absurd (late_passes s c p y x.passing.passing.problem)
  boxes_comes (Refused EgoTooFast p) step count x y = absurd (fast_passes s c p y x.passing.passing.problem)
  boxes_comes (Limit TooManyCells i n) step count x y = absurd (cells_few s c n y.1 (x.passing.traffic y.1.predicts).network.few)
  boxes_comes (Limit LaneTooWide i n) step count x y = absurd (none_wide s.lanelets.entries n (x.passing.traffic y.1.predicts).network y.1.first)
  boxes_comes (Limit TooManyLanePolygons i n) step count x y = absurd (pairs_few s c n y.1 (x.passing.traffic y.1.predicts))
  boxes_comes (Limit AreaTooWide i n) step count x y = absurd (wide_narrow s c i n x.problem y.0 x.passing.chosen x.narrow)
  boxes_comes (Limit TooManyBoxes i n) step count x y = inl (let both = boxes_one s c i step n count y x in same_step TooManyBoxes i step n count both.0 both.1)
  boxes_comes status step count x y = absurd y

  -- where all stages are passed, the output is written, or memory is wanted
  pub passes_done : (status : Status) → PassesAll s c → Tells s c before after status → IsWrittenOut status ⊎ (status ≡ Memory)
  passes_done Open h y = inl (inl tt)
  passes_done (Empty i) h y = inl (inl tt)
  passes_done WriteFault h y = inl (inr refl)
  passes_done Memory h y = inr refl
  passes_done (Refused NoProblem p) h y = absurd (no_problem_passes s c y.1 h.passing.problem)
  passes_done (Refused LateProblem p) h y = absurd (late_passes s c p y h.passing.problem)
  passes_done (Refused EgoTooFast p) h y = absurd (fast_passes s c p y h.passing.problem)
  passes_done (Limit TooManyCells i n) h y = absurd (cells_few s c n y.1 (h.within.traffic y.1.predicts).network.few)
  passes_done (Limit LaneTooWide i n) h y = absurd (none_wide s.lanelets.entries n (h.within.traffic y.1.predicts).network y.1.first)
  passes_done (Limit TooManyLanePolygons i n) h y = absurd (pairs_few s c n y.1 (h.within.traffic y.1.predicts))
  passes_done (Limit AreaTooWide i n) h y = absurd (wide_within s c i n y.0 y.1 h)
  passes_done (Limit TooManyBoxes i n) h y = absurd (boxes_within s c i n y h)
  passes_done status h y = absurd y
