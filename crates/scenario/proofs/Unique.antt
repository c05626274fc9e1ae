-- A tree has one scenario at most.
use Rattle.std.proofs.Common.{◌≡◌, ◌∙◌, ℕ, ◌*◌, ℤ, pos, List, [], ◌∷◌, Some, refl, sym, subst, arith, codes}
use Rattle.spot_terms.specs.Lists.{Pairwise}
use Rattle.spot_terms.specs.Decimal.{Reads}
use Rattle.spot_terms.specs.Whole.{IsRootCeiling}
use Rattle.spot_terms.specs.Bodies.{IsGreatest}
use Rattle.spot_terms.specs.declared.scenario.RawLane.{RawLane}
use Rattle.spot_terms.specs.declared.scenario.Mover.{Mover}
use Rattle.spot_terms.specs.declared.scenario.Fixed.{Fixed}
use Rattle.spot_terms.specs.declared.scenario.Problem.{Problem}
use Rattle.spot_terms.specs.declared.scenario.Scenario.{Scenario}
use Rattle.spot_claims.specs.Tree.{Element, first_named, text_at}
use Rattle.spot_claims.specs.Paths.{at_path, dynamics, lanelets, problems, statics}
use Rattle.spot_claims.specs.Radii.{Holds, HasRadii}
use Rattle.spot_claims.specs.Scenario.{HoldsExact, HoldsPosition, IsPair, IsLane, IsRecorded, IsMover, IsFixed, IsProblem, IsScenario}
use Rattle.spot_terms.proofs.Orders.{pos_injective, natural_antisymmetric}
use Rattle.spot_terms.proofs.Unique.{some_one, some_injective}
use Rattle.spot_decimal.proofs.Signs.{reads_once}

-- ---- numbers and lists

-- a relation that determines its second item
abbrev pub Determines : {A B : Type 0} → (A → B → Type 0) → Type 0
Determines {A = A} {B = B} R = (a : A) (x y : B) → R a x → R a y → x ≡ y

cons_same : {B : Type 0} (x y : B) (xs ys : List B) → x ≡ y → xs ≡ ys → x ∷ xs ≡ y ∷ ys
cons_same x y xs ys e f = cc

pub pairwise_one : {A B : Type 0} (R : A → B → Type 0) → Determines R → (ds : List A) (xs ys : List B) → Pairwise R ds xs → Pairwise R ds ys → xs ≡ ys
pairwise_one R one [] [] [] p q = refl
pairwise_one R one [] [] (y ∷ ys) p q = absurd q
pairwise_one R one [] (x ∷ xs) ys p q = absurd p
pairwise_one R one (d ∷ ds) [] ys p q = absurd p
pairwise_one R one (d ∷ ds) (x ∷ xs) [] p q = absurd q
pairwise_one R one (d ∷ ds) (x ∷ xs) (y ∷ ys) p q = cons_same x y xs ys (one d x y p.0 q.0) (pairwise_one R one ds xs ys p.1 q.1)

pub greatest_one : (P : ℕ → Type 0) (r q : ℕ) → IsGreatest P r → IsGreatest P q → r ≡ q
greatest_one P r q a b = natural_antisymmetric r q (b.greatest r a.holds) (a.greatest q b.holds)

pub root_one : (n r q : ℕ) → IsRootCeiling n r → IsRootCeiling n q → r ≡ q
root_one n r q a b = natural_antisymmetric r q (a.least q b.enough) (b.least r a.enough)

-- ---- the parts of a tree

pub holds_one : (tree : List Element) (e : ℕ) (name : List ℕ) (places : ℕ) (r q : ℤ) → Holds tree e name places r → Holds tree e name places q → r ≡ q
holds_one tree e name places r q a b =
    let same : a.0 ≡ b.0 = some_one (first_named tree name e) a.0 b.0 a.1 b.1 in
    let P : ℕ → Type 0 = λ n. Reads places (text_at tree n) r in
    reads_once places (text_at tree b.0) r q (subst P same a.2) b.2

pub exact_one : (tree : List Element) (e : ℕ) (name : List ℕ) (places : ℕ) (r q : ℤ) → HoldsExact tree e name places r → HoldsExact tree e name places q → r ≡ q
exact_one tree e name places r q a b =
    let same : a.0 ≡ b.0 = some_one (first_named tree name e) a.0 b.0 a.1 b.1 in
    let P : ℕ → Type 0 = λ n. Holds tree n (codes "exact") places r in
    holds_one tree b.0 (codes "exact") places r q (subst P same a.2) b.2

pub time_one : (tree : List Element) (e n m : ℕ) → HoldsExact tree e (codes "time") 0 (pos n) → HoldsExact tree e (codes "time") 0 (pos m) → n ≡ m
time_one tree e n m a b = pos_injective n m (exact_one tree e (codes "time") 0 (pos n) (pos m) a b)

-- the point of a position is one element
point_one : (tree : List Element) (e : ℕ) (x y z w : ℤ) (a : HoldsPosition tree e x y) (b : HoldsPosition tree e z w) → a.1 ≡ b.1
point_one tree e x y z w a b =
    let same : a.0 ≡ b.0 = some_one (first_named tree (codes "position") e) a.0 b.0 a.2 b.2 in
    let P : ℕ → Type 0 = λ n. first_named tree (codes "point") n ≡ Some a.1 in
    some_one (first_named tree (codes "point") b.0) a.1 b.1 (subst P same a.3) b.3

pub position_one : (tree : List Element) (e : ℕ) (x y z w : ℤ) → HoldsPosition tree e x y → HoldsPosition tree e z w → (x ≡ z) × (y ≡ w)
position_one tree e x y z w a b =
    let same : a.1 ≡ b.1 = point_one tree e x y z w a b in
    let P : ℕ → Type 0 = λ n. Holds tree n (codes "x") 6 x in
    let Q : ℕ → Type 0 = λ n. Holds tree n (codes "y") 6 y in
    (holds_one tree b.1 (codes "x") 6 x z (subst P same a.4) b.4, holds_one tree b.1 (codes "y") 6 y w (subst Q same a.5) b.5)

pub radii_one : (tree : List Element) (s t a b c d : ℕ) → s ≡ t → HasRadii tree s a b → HasRadii tree t c d → (a ≡ c) × (b ≡ d)
radii_one tree s t a b c d same h k =
    let P : ℕ → Type 0 = λ n. HasRadii tree n a b in
    let g : HasRadii tree t a b = subst P same h in
    (greatest_one _ a c g.enclosing_is k.enclosing_is, greatest_one _ b d g.inscribed_is k.inscribed_is)

pair_same : {A B : Type 0} (p q : A × B) → p.0 ≡ q.0 → p.1 ≡ q.1 → p ≡ q
pair_same {A = A} {B = B} p q e f = let same : ◌≡◌ {A = A × B} (p.0, p.1) (q.0, q.1) = simp (e, f) in same

triple_same : {A B C : Type 0} (p q : A × B × C) → p.0 ≡ q.0 → p.1 ≡ q.1 → p.2 ≡ q.2 → p ≡ q
triple_same {A = A} {B = B} {C = C} p q e f g = let same : ◌≡◌ {A = A × B × C} (p.0, p.1, p.2) (q.0, q.1, q.2) = simp (e, f, g) in same

pub pair_one : (tree : List Element) → Determines (IsPair tree)
pair_one tree e p q a b = pair_same p q (holds_one tree e (codes "x") 6 p.0 q.0 a.0 b.0) (holds_one tree e (codes "y") 6 p.1 q.1 a.1 b.1)

pub recorded_one : (tree : List Element) → Determines (IsRecorded tree)
recorded_one tree e p q a b =
    let at : (p.1 ≡ q.1) × (p.2 ≡ q.2) = position_one tree e p.1 p.2 q.1 q.2 a.1 b.1 in
    triple_same p q (time_one tree e p.0 q.0 a.0 b.0) at.0 at.1

-- ---- the things at the paths

same_lane : (l m : RawLane) → l.left ≡ m.left → l.right ≡ m.right → l.successors ≡ m.successors → l.predecessors ≡ m.predecessors → l.sides ≡ m.sides → l ≡ m
same_lane l m e0 e1 e2 e3 e4 =
    let same : ◌≡◌ {A = RawLane} (record { left = l.left; right = l.right; successors = l.successors; predecessors = l.predecessors; sides = l.sides }) (record { left = m.left; right = m.right; successors = m.successors; predecessors = m.predecessors; sides = m.sides }) = simp (e0, e1, e2, e3, e4) in same

pub lane_one : (tree : List Element) → Determines (IsLane tree)
lane_one tree e l m a b =
    pair_same l m (some_injective _ _ (sym a.id ∙ b.id))
    (same_lane l.1 m.1 (pairwise_one (IsPair tree) (pair_one tree) _ _ _ a.left b.left) (pairwise_one (IsPair tree) (pair_one tree) _ _ _ a.right b.right)
    (a.successors ∙ sym b.successors) (a.predecessors ∙ sym b.predecessors) (a.sides ∙ sym b.sides))

same_mover : (m n : Mover) → m.id ≡ n.id → m.place ≡ n.place → m.kind ≡ n.kind → m.enclosing ≡ n.enclosing → m.inscribed ≡ n.inscribed → m.time ≡ n.time → m.x ≡ n.x → m.y ≡ n.y → m.speed ≡ n.speed → m.angle ≡ n.angle → m.recorded ≡ n.recorded → m ≡ n
same_mover m n e0 e1 e2 e3 e4 e5 e6 e7 e8 e9 ea =
    let same : ◌≡◌ {A = Mover} (record { id = m.id; place = m.place; kind = m.kind; enclosing = m.enclosing; inscribed = m.inscribed; time = m.time; x = m.x; y = m.y; speed = m.speed; angle = m.angle; recorded = m.recorded }) (record { id = n.id; place = n.place; kind = n.kind; enclosing = n.enclosing; inscribed = n.inscribed; time = n.time; x = n.x; y = n.y; speed = n.speed; angle = n.angle; recorded = n.recorded }) = simp (e0, e1, e2, e3, e4, e5, e6, e7, e8, e9, ea) in same

-- where an obstacle or a problem starts, and how
record Starts (tree : List Element) (s : ℕ) (x y speed angle : ℤ) (time : ℕ) : Type 0 where
  position : HoldsPosition tree s x y
  speed_is : HoldsExact tree s (codes "velocity") 3 speed
  angle_is : HoldsExact tree s (codes "orientation") 6 angle
  time_is : HoldsExact tree s (codes "time") 0 (pos time)

record SameStart (x y speed angle : ℤ) (time : ℕ) (z w quick turned : ℤ) (then : ℕ) : Type 0 where
  x_same : x ≡ z
  y_same : y ≡ w
  speed_same : speed ≡ quick
  angle_same : angle ≡ turned
  time_same : time ≡ then

start_one : (tree : List Element) (s t : ℕ) (x y speed angle : ℤ) (time : ℕ) (z w quick turned : ℤ) (then : ℕ) → s ≡ t → Starts tree s x y speed angle time → Starts tree t z w quick turned then
    → SameStart x y speed angle time z w quick turned then
start_one tree s t x y speed angle time z w quick turned then same h k =
    let P : ℕ → Type 0 = λ n. Starts tree n x y speed angle time in
    let g : Starts tree t x y speed angle time = subst P same h in
    let place : (x ≡ z) × (y ≡ w) = position_one tree t x y z w g.position k.position in
    record {
      x_same = place.0;
      y_same = place.1;
      speed_same = exact_one tree t (codes "velocity") 3 speed quick g.speed_is k.speed_is;
      angle_same = exact_one tree t (codes "orientation") 6 angle turned g.angle_is k.angle_is;
      time_same = time_one tree t time then g.time_is k.time_is;
    }

pub mover_one : (tree : List Element) → Determines (IsMover tree)
mover_one tree e m n a b =
    let shapes : (m.enclosing ≡ n.enclosing) × (m.inscribed ≡ n.inscribed) = radii_one tree a.shape.0 b.shape.0 m.enclosing m.inscribed n.enclosing n.inscribed (some_one (first_named tree (codes "shape") e) _ _ a.shape.1 b.shape.1) a.shape.2 b.shape.2 in
    let from : Starts tree a.start.0 m.x m.y m.speed m.angle m.time = record { position = a.start.2; speed_is = a.start.3; angle_is = a.start.4; time_is = a.start.5 } in
    let other : Starts tree b.start.0 n.x n.y n.speed n.angle n.time = record { position = b.start.2; speed_is = b.start.3; angle_is = b.start.4; time_is = b.start.5 } in
    let starts : SameStart m.x m.y m.speed m.angle m.time n.x n.y n.speed n.angle n.time = start_one tree a.start.0 b.start.0 m.x m.y m.speed m.angle m.time n.x n.y n.speed n.angle n.time (some_one (first_named tree (codes "initialState") e) _ _ a.start.1 b.start.1) from other in
    same_mover m n (some_injective _ _ (sym a.id ∙ b.id)) (a.place ∙ sym b.place) (a.kind ∙ sym b.kind) shapes.0 shapes.1 starts.time_same starts.x_same starts.y_same starts.speed_same starts.angle_same
    (pairwise_one (IsRecorded tree) (recorded_one tree) _ _ _ a.recorded b.recorded)

same_fixed : (f g : Fixed) → f.id ≡ g.id → f.place ≡ g.place → f.enclosing ≡ g.enclosing → f.inscribed ≡ g.inscribed → f.x ≡ g.x → f.y ≡ g.y → f ≡ g
same_fixed f g e0 e1 e2 e3 e4 e5 =
    let same : ◌≡◌ {A = Fixed} (record { id = f.id; place = f.place; enclosing = f.enclosing; inscribed = f.inscribed; x = f.x; y = f.y }) (record { id = g.id; place = g.place; enclosing = g.enclosing; inscribed = g.inscribed; x = g.x; y = g.y }) = simp (e0, e1, e2, e3, e4, e5) in same

pub fixed_one : (tree : List Element) → Determines (IsFixed tree)
fixed_one tree e f g a b =
    let shapes : (f.enclosing ≡ g.enclosing) × (f.inscribed ≡ g.inscribed) = radii_one tree a.shape.0 b.shape.0 f.enclosing f.inscribed g.enclosing g.inscribed (some_one (first_named tree (codes "shape") e) _ _ a.shape.1 b.shape.1) a.shape.2 b.shape.2 in
    let same : a.start.0 ≡ b.start.0 = some_one (first_named tree (codes "initialState") e) _ _ a.start.1 b.start.1 in
    let P : ℕ → Type 0 = λ s. HoldsPosition tree s f.x f.y in
    let places : (f.x ≡ g.x) × (f.y ≡ g.y) = position_one tree b.start.0 f.x f.y g.x g.y (subst P same a.start.2) b.start.2 in
    same_fixed f g (some_injective _ _ (sym a.id ∙ b.id)) (a.place ∙ sym b.place) shapes.0 shapes.1 places.0 places.1

same_problem : (p q : Problem) → p.id ≡ q.id → p.place ≡ q.place → p.time ≡ q.time → p.x ≡ q.x → p.y ≡ q.y → p.speed ≡ q.speed → p.angle ≡ q.angle → p ≡ q
same_problem p q e0 e1 e2 e3 e4 e5 e6 =
    let same : ◌≡◌ {A = Problem} (record { id = p.id; place = p.place; time = p.time; x = p.x; y = p.y; speed = p.speed; angle = p.angle }) (record { id = q.id; place = q.place; time = q.time; x = q.x; y = q.y; speed = q.speed; angle = q.angle }) = simp (e0, e1, e2, e3, e4, e5, e6) in same

pub problem_one : (tree : List Element) → Determines (IsProblem tree)
problem_one tree e p q a b =
    let from : Starts tree a.start.0 p.x p.y p.speed p.angle p.time = record { position = a.start.2; speed_is = a.start.3; angle_is = a.start.4; time_is = a.start.5 } in
    let other : Starts tree b.start.0 q.x q.y q.speed q.angle q.time = record { position = b.start.2; speed_is = b.start.3; angle_is = b.start.4; time_is = b.start.5 } in
    let starts : SameStart p.x p.y p.speed p.angle p.time q.x q.y q.speed q.angle q.time = start_one tree a.start.0 b.start.0 p.x p.y p.speed p.angle p.time q.x q.y q.speed q.angle q.time (some_one (first_named tree (codes "initialState") e) _ _ a.start.1 b.start.1) from other in
    same_problem p q (some_injective _ _ (sym a.id ∙ b.id)) (a.place ∙ sym b.place) starts.time_same starts.x_same starts.y_same starts.speed_same starts.angle_same

-- ---- the scenario

step_same : (n m : ℕ) → pos (1000 * n) ≡ pos (1000 * m) → n ≡ m
step_same n m e = let same : 1000 * n ≡ 1000 * m = pos_injective (1000 * n) (1000 * m) e in omega arith

pub scenario_is_one : (tree : List Element) (s t : Scenario) → IsScenario tree s → IsScenario tree t
    → (s.step ≡ t.step) × (s.movers ≡ t.movers) × (s.fixed ≡ t.fixed) × (s.problems ≡ t.problems) × (s.lanelets.entries ≡ t.lanelets.entries)
scenario_is_one tree s t a b = (
  step_same s.step t.step (reads_once 6 _ _ _ a.step b.step),
  pairwise_one (IsMover tree) (mover_one tree) (at_path tree dynamics) s.movers t.movers a.movers b.movers,
  pairwise_one (IsFixed tree) (fixed_one tree) (at_path tree statics) s.fixed t.fixed a.fixed b.fixed,
  pairwise_one (IsProblem tree) (problem_one tree) (at_path tree problems) s.problems t.problems a.problems b.problems,
  pairwise_one (IsLane tree) (lane_one tree) (at_path tree lanelets) s.lanelets.entries t.lanelets.entries a.lanelets b.lanelets,
)
