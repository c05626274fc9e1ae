-- What an accepted tree has at the elements that are read.
use Rattle.std.proofs.Common.{◌≡◌, ◌∙◌, ◌⊎◌, inl, inr, ℕ, ◌<◌, ◌≤◌, List, [], ◌∷◌, ◌++◌, get_or, Option, Some, None, Bool, true, false, refl, sym, ap, subst, arith, codes, IsTrue, is_none, lit<, append-nil, not, ◌==◌, ◌||◌, ◌&&◌, nat_lt}
use Rattle.std.specs.List.{list_all, filter_map, count_by}
use Rattle.spot_terms.proofs.Members.{in_flat_map}
use Rattle.spot_terms.proofs.ListLemmas.{includes_front, includes_flat_map}
use Rattle.spot_terms.specs.Lists.{Includes, At}
use Rattle.spot_terms.specs.declared.status.Code.TheVariants.{Missing, UncertainPosition, UncertainValue}
use Rattle.spot_claims.specs.Tree.{Element, all_named, first_named, text_at}
use Rattle.spot_claims.specs.Paths.{Path, first_child, each_child, walk, at_path, id_at, lanelets, statics, dynamics, problems}
use Rattle.spot_claims.specs.Profile as profile
use Rattle.spot_claims.specs.Profile.{Number, Check, Line, IsAccepted, FailsAt, code_of, bad_id, bad_number, out_of_range, lacks_a_child, lacks_each_child, lacks, lacks_one, lacks_all, is_bad_number, IsUneven, step_size_text, bad_step_size, uneven_step_size, IsTooLarge, IsOutside, root_line, position, position_point, coordinate, angle, speed, step_number, shape_coordinate, size, states, moving_starts, obstacles, recorded, position_line, position_point_line, position_number_line, point_count, bound_count, duplicate_id, is_second, too_many, at_paths, same_id, to_first, to_each, shape, rectangle, polygon, corner, rectangle_center, circle_center}
use Rattle.scenario.specs.Has.{IsGood, HasNumber, HasPoint, HasExact, HasPosition, HasStart, HasRecorded, HasCenter, HasCircle, HasRectangle, HasCorners, HasShape, HasFixed, HasMover, HasProblem, HasPoints, HasLane}
use Rattle.scenario.proofs.Paths.{walk_append}
use Rattle.spot_claims.specs.Scenario.{bound_points}
use Rattle.std.proofs.lemmas.Bool.Decides.{nat_tests}
use Rattle.scenario.proofs.Firsts.{second_at}
use Rattle.scenario.proofs.Members.{any_in, item_in, in_last, in_filter_map}

-- ---- no check fails

-- the lines by their numbers
line_in : (k : ℕ) → k < 24 → Includes profile.profile (get_or profile.profile k root_line)
line_in k h = item_in profile.profile k root_line h

no_fail : (tree : List Element) → IsAccepted tree → (row : Line) (s w : Path) (e j : ℕ) (check : Check) → Includes profile.profile row → Includes row.starts s → Includes row.ways w → Includes (walk tree w (at_path tree s)) e → At row.checks j check → FailsAt tree e check → ⊥
no_fail tree ok row s w e j check listed start way leads at fails = ok e j (code_of check) (record {
  row = row;
  listed = listed;
  read = record { start = s; is_start = start; way = w; is_way = way; leads = leads };
  check = check;
  at = at;
  fails = fails;
  code_is = refl;
})

false_of : (b : Bool) → (b ≡ true → ⊥) → b ≡ false
false_of true h = absurd (h refl)
false_of false h = refl

there : (o : Option ℕ) → (is_none o ≡ true → ⊥) → (c : ℕ) × (o ≡ Some c)
there None h = absurd (h refl)
there (Some c) h = (c, refl)

-- a child that isn't missing
child_of : (tree : List Element) (e : ℕ) (names : List (List ℕ)) (name : List ℕ) → (lacks_one tree e names ≡ true → ⊥) → Includes names name → (c : ℕ) × (first_named tree name e ≡ Some c)
child_of tree e names name h listed = there (first_named tree name e) (λ none. h (any_in (lacks tree e) names name listed none))

all_one : (p : List ℕ → Bool) (name : List ℕ) → p name ≡ true → list_all p (name ∷ []) ≡ true
all_one p name e = rw e refl

only_child : (tree : List Element) (e : ℕ) (name : List ℕ) → (lacks_all tree e (name ∷ []) ≡ true → ⊥) → (c : ℕ) × (first_named tree name e ≡ Some c)
only_child tree e name h = there (first_named tree name e) (λ none. h (all_one (lacks tree e) name none))

-- ---- along paths

some_in : {X Y : Type 0} (f : X → Option Y) (x : X) (xs : List X) (y : Y) → f x ≡ Some y → Includes (filter_map f (x ∷ xs)) y
some_in f x xs y e = rw e (inl refl)

rest_in : {X Y : Type 0} (f : X → Option Y) (x : X) (xs : List X) (y : Y) (o : Option Y) → f x ≡ o → Includes (filter_map f xs) y → Includes (filter_map f (x ∷ xs)) y
rest_in f x xs y None e h = rw e h
rest_in f x xs y (Some z) e h = rw e (inr h)

pub through_first : {X Y : Type 0} (f : X → Option Y) (xs : List X) (x : X) (y : Y) → Includes xs x → f x ≡ Some y → Includes (filter_map f xs) y
through_first f [] x y h e = absurd h
through_first f (z ∷ xs) x y (inl s) e = some_in f z xs y (ap f (sym s) ∙ e)
through_first f (z ∷ xs) x y (inr h) e = rest_in f z xs y (f z) refl (through_first f xs x y h e)

-- what a first child and each child of it lead to from a list, they lead to from one of the list
pub from_one : (tree : List Element) (name each : List ℕ) (es : List ℕ) (c : ℕ) → Includes (walk tree (first_child name ∷ each_child each ∷ []) es) c → (e : ℕ) × Includes es e × Includes (walk tree (first_child name ∷ each_child each ∷ []) (e ∷ [])) c
from_one tree name each es c h =
    let b = in_flat_map (all_named tree each) (filter_map (first_named tree name) es) c h in
    let e = in_filter_map (first_named tree name) es b.0 b.1 in
    (e.0, e.1, includes_flat_map (all_named tree each) (filter_map (first_named tree name) (e.0 ∷ [])) b.0 c (through_first (first_named tree name) (e.0 ∷ []) e.0 b.0 (inl refl) e.2) b.2)

one_more : (tree : List Element) (s w : Path) (e : ℕ) (name : List ℕ) (c : ℕ) → Includes (walk tree w (at_path tree s)) e → first_named tree name e ≡ Some c → Includes (walk tree (to_first w name) (at_path tree s)) c
one_more tree s w e name c here is =
    let P : List ℕ → Type 0 = λ es. Includes es c in
    subst P (sym (walk_append tree w (first_child name ∷ []) (at_path tree s))) (through_first (first_named tree name) (walk tree w (at_path tree s)) e c here is)

-- ---- numbers

number_good : (tree : List Element) → IsAccepted tree → (row : Line) (s w : Path) (c : ℕ) (n : Number) → Includes profile.profile row → Includes row.starts s → Includes row.ways w → Includes (walk tree w (at_path tree s)) c
    → At row.checks 0 bad_number → At row.checks 1 (out_of_range n) → IsGood n (text_at tree c)
number_good tree ok row s w c n listed start way leads at0 at1 = record {
  good = false_of (is_bad_number (text_at tree c)) (no_fail tree ok row s w c 0 bad_number listed start way leads at0);
  fits = no_fail tree ok row s w c 1 (out_of_range n) listed start way leads at1;
}

-- a point at the end of a way, whose coordinates stand at the ends of two more
point_has : (tree : List Element) → IsAccepted tree → (row numbers : Line) (s w : Path) (e : ℕ) (n : Number) → Includes profile.profile row → Includes row.starts s → Includes row.ways w → Includes (walk tree w (at_path tree s)) e
    → At row.checks 0 (lacks_a_child (codes "x" ∷ codes "y" ∷ [])) → Includes profile.profile numbers → Includes numbers.starts s → Includes numbers.ways (to_first w (codes "x")) → Includes numbers.ways (to_first w (codes "y"))
    → At numbers.checks 0 bad_number → At numbers.checks 1 (out_of_range n) → HasPoint tree e n
point_has tree ok row numbers s w e n listed start way leads at also starts x_way y_way at0 at1 =
    let lack = no_fail tree ok row s w e 0 (lacks_a_child (codes "x" ∷ codes "y" ∷ [])) listed start way leads at in
    let x = child_of tree e (codes "x" ∷ codes "y" ∷ []) (codes "x") lack (inl refl) in
    let y = child_of tree e (codes "x" ∷ codes "y" ∷ []) (codes "y") lack (inr (inl refl)) in
    record {
      x = record { child = x.0; child_is = x.1; good = number_good tree ok numbers s (to_first w (codes "x")) x.0 n also starts x_way (one_more tree s w e (codes "x") x.0 leads x.1) at0 at1 };
      y = record { child = y.0; child_is = y.1; good = number_good tree ok numbers s (to_first w (codes "y")) y.0 n also starts y_way (one_more tree s w e (codes "y") y.0 leads y.1) at0 at1 };
    }

-- ---- states

has_position : (tree : List Element) → IsAccepted tree → (s : Path) (e p : ℕ) → Includes states s → Includes (at_path tree s) e → first_named tree (codes "position") e ≡ Some p → HasPosition tree e
has_position tree ok s e p start here is =
    let p_in = through_first (first_named tree (codes "position")) (at_path tree s) e p here is in
    let q = only_child tree p (codes "point") (no_fail tree ok position_line s position p 0 (lacks_each_child UncertainPosition (codes "point" ∷ [])) (line_in 12 (lit< tt)) start (inl refl) p_in refl) in
    let q_in = through_first (first_named tree (codes "point")) (walk tree position (at_path tree s)) p q.0 p_in q.1 in
    record {
      position = p;
      position_is = is;
      point = q.0;
      point_is = q.1;
      has = point_has tree ok position_point_line position_number_line s position_point q.0 coordinate (line_in 13 (lit< tt)) start (inl refl) q_in refl (line_in 18 (lit< tt)) start (inl refl) (inr (inl refl)) refl refl;
    }

has_exact : (tree : List Element) → IsAccepted tree → (values numbers : Line) (s : Path) (e : ℕ) (name : List ℕ) (v : ℕ) (n : Number) → Includes (at_path tree s) e → first_named tree name e ≡ Some v
    → Includes profile.profile values → Includes values.starts s → Includes values.ways (to_first [] name) → At values.checks 0 (lacks_each_child UncertainValue (codes "exact" ∷ []))
    → Includes profile.profile numbers → Includes numbers.starts s → Includes numbers.ways (to_first (to_first [] name) (codes "exact")) → At numbers.checks 0 bad_number → At numbers.checks 1 (out_of_range n) → HasExact tree e name n
has_exact tree ok values numbers s e name v n here is listed start way at also starts ways at0 at1 =
    let v_in = through_first (first_named tree name) (at_path tree s) e v here is in
    let x = only_child tree v (codes "exact") (no_fail tree ok values s (to_first [] name) v 0 (lacks_each_child UncertainValue (codes "exact" ∷ [])) listed start way v_in at) in
    let x_in = through_first (first_named tree (codes "exact")) (walk tree (to_first [] name) (at_path tree s)) v x.0 v_in x.1 in
    record { child = v; child_is = is; exact = record { child = x.0; child_is = x.1; good = number_good tree ok numbers s (to_first (to_first [] name) (codes "exact")) x.0 n also starts ways x_in at0 at1 } }

abbrev StartNames : List (List ℕ)
StartNames = codes "position" ∷ codes "orientation" ∷ codes "velocity" ∷ codes "time" ∷ []

pub has_start : (tree : List Element) → IsAccepted tree → (s : Path) (e : ℕ) → Includes moving_starts s → Includes (at_path tree s) e → HasStart tree e
has_start tree ok s e start here =
    let lack = no_fail tree ok profile.moving_start_line s [] e 0 (lacks_a_child StartNames) (line_in 10 (lit< tt)) start (inl refl) here refl in
    let p = child_of tree e StartNames (codes "position") lack (inl refl) in
    let o = child_of tree e StartNames (codes "orientation") lack (inr (inl refl)) in
    let v = child_of tree e StartNames (codes "velocity") lack (inr (inr (inl refl))) in
    let t = child_of tree e StartNames (codes "time") lack (inr (inr (inr (inl refl)))) in
    record {
      position = has_position tree ok s e p.0 (inr (includes_front moving_starts (recorded ∷ []) s start)) here p.1;
      orientation = has_exact tree ok profile.value_line profile.orientation_line s e (codes "orientation") o.0 angle here o.1 (line_in 14 (lit< tt)) start (inl refl) refl (line_in 21 (lit< tt)) start (inl refl) refl refl;
      velocity = has_exact tree ok profile.value_line profile.velocity_line s e (codes "velocity") v.0 speed here v.1 (line_in 14 (lit< tt)) start (inr (inl refl)) refl (line_in 22 (lit< tt)) start (inl refl) refl refl;
      time = has_exact tree ok profile.value_line profile.time_line s e (codes "time") t.0 step_number here t.1 (line_in 14 (lit< tt)) start (inr (inr (inl refl))) refl (line_in 23 (lit< tt)) (includes_front moving_starts (recorded ∷ []) s start) (inl refl) refl refl;
    }

pub has_recorded : (tree : List Element) → IsAccepted tree → (e : ℕ) → Includes (at_path tree recorded) e → HasRecorded tree e
has_recorded tree ok e here =
    let lack = no_fail tree ok profile.recorded_line recorded [] e 0 (lacks_a_child (codes "position" ∷ codes "time" ∷ [])) (line_in 11 (lit< tt)) (inl refl) (inl refl) here refl in
    let p = child_of tree e (codes "position" ∷ codes "time" ∷ []) (codes "position") lack (inl refl) in
    let t = child_of tree e (codes "position" ∷ codes "time" ∷ []) (codes "time") lack (inr (inl refl)) in
    record {
      position = has_position tree ok recorded e p.0 (inr (in_last moving_starts recorded)) here p.1;
      time = has_exact tree ok profile.recorded_time_line profile.time_line recorded e (codes "time") t.0 step_number here t.1 (line_in 15 (lit< tt)) (inl refl) (inl refl) refl (line_in 23 (lit< tt)) (in_last moving_starts recorded) (inl refl) refl refl;
    }

pub has_fixed_start : (tree : List Element) → IsAccepted tree → (o e : ℕ) → Includes (at_path tree statics) o → first_named tree (codes "initialState") o ≡ Some e → HasPosition tree e
has_fixed_start tree ok o e here is =
    let e_in = through_first (first_named tree (codes "initialState")) (at_path tree statics) o e here is in
    let p = child_of tree e (codes "position" ∷ []) (codes "position") (no_fail tree ok profile.fixed_start_line statics (to_first [] (codes "initialState")) e 0 (lacks_a_child (codes "position" ∷ [])) (line_in 9 (lit< tt)) (inl refl) (inl refl) e_in refl) (inl refl) in
    has_position tree ok (to_first statics (codes "initialState")) e p.0 (inl refl) e_in p.1

-- ---- shapes

has_center : (tree : List Element) → IsAccepted tree → (s part center : Path) (e : ℕ) → center ≡ to_first part (codes "center") → Includes obstacles s → Includes profile.shape_point_line.ways center → Includes profile.shape_number_line.ways (to_first center (codes "x")) → Includes profile.shape_number_line.ways (to_first center (codes "y"))
    → Includes (walk tree part (at_path tree s)) e → HasCenter tree e
has_center tree ok s part center e same start way x_way y_way here = λ c is.
    let P : Path → Type 0 = λ w. Includes (walk tree w (at_path tree s)) c in
    point_has tree ok profile.shape_point_line profile.shape_number_line s center c shape_coordinate (line_in 8 (lit< tt)) start way (subst P (sym same) (one_more tree s part e (codes "center") c here is)) refl (line_in 19 (lit< tt)) start x_way y_way refl refl

size_has : (tree : List Element) → IsAccepted tree → (s part : Path) (e c : ℕ) (name : List ℕ) → Includes obstacles s → Includes profile.size_line.ways (to_first part name) → Includes (walk tree part (at_path tree s)) e → first_named tree name e ≡ Some c → HasNumber tree e name size
size_has tree ok s part e c name start way here is = record { child = c; child_is = is; good = number_good tree ok profile.size_line s (to_first part name) c size (line_in 20 (lit< tt)) start way (one_more tree s part e name c here is) refl refl }

has_circle : (tree : List Element) → IsAccepted tree → (s : Path) (e : ℕ) → Includes obstacles s → Includes (walk tree profile.circle (at_path tree s)) e → HasCircle tree e
has_circle tree ok s e start here =
    let r = child_of tree e (codes "radius" ∷ []) (codes "radius") (no_fail tree ok profile.circle_line s profile.circle e 0 (lacks_a_child (codes "radius" ∷ [])) (line_in 6 (lit< tt)) start (inl refl) here refl) (inl refl) in
    record {
      radius = size_has tree ok s profile.circle e r.0 (codes "radius") start (inr (inr (inl refl))) here r.1;
      center = has_center tree ok s profile.circle circle_center e refl start (inr (inr (inl refl))) (inr (inr (inr (inr (inl refl))))) (inr (inr (inr (inr (inr (inl refl)))))) here;
    }

has_rectangle : (tree : List Element) → IsAccepted tree → (s : Path) (e : ℕ) → Includes obstacles s → Includes (walk tree rectangle (at_path tree s)) e → HasRectangle tree e
has_rectangle tree ok s e start here =
    let lack = no_fail tree ok profile.rectangle_line s rectangle e 0 (lacks_a_child (codes "length" ∷ codes "width" ∷ [])) (line_in 5 (lit< tt)) start (inl refl) here refl in
    let l = child_of tree e (codes "length" ∷ codes "width" ∷ []) (codes "length") lack (inl refl) in
    let w = child_of tree e (codes "length" ∷ codes "width" ∷ []) (codes "width") lack (inr (inl refl)) in
    record {
      length = size_has tree ok s rectangle e l.0 (codes "length") start (inl refl) here l.1;
      width = size_has tree ok s rectangle e w.0 (codes "width") start (inr (inl refl)) here w.1;
      center = has_center tree ok s rectangle rectangle_center e refl start (inr (inl refl)) (inr (inr (inl refl))) (inr (inr (inr (inl refl)))) here;
    }

has_corners : (tree : List Element) → IsAccepted tree → (s : Path) (e : ℕ) → Includes obstacles s → Includes (walk tree polygon (at_path tree s)) e → HasCorners tree (all_named tree (codes "point") e)
has_corners tree ok s e start here = λ n listed.
    point_has tree ok profile.shape_point_line profile.shape_number_line s corner n shape_coordinate (line_in 8 (lit< tt)) start (inl refl) (includes_flat_map (all_named tree (codes "point")) (walk tree polygon (at_path tree s)) e n here listed) refl (line_in 19 (lit< tt)) start (inl refl) (inr (inl refl)) refl refl

pub has_shape : (tree : List Element) → IsAccepted tree → (s : Path) (o e : ℕ) → Includes obstacles s → Includes (at_path tree s) o → first_named tree (codes "shape") o ≡ Some e → HasShape tree e
has_shape tree ok s o e start here is =
    let e_in = through_first (first_named tree (codes "shape")) (at_path tree s) o e here is in
    record {
      circles = λ p listed. has_circle tree ok s p start (includes_flat_map (all_named tree (codes "circle")) (walk tree shape (at_path tree s)) e p e_in listed);
      rectangles = λ p listed. has_rectangle tree ok s p start (includes_flat_map (all_named tree (codes "rectangle")) (walk tree shape (at_path tree s)) e p e_in listed);
      polygons = λ p listed. has_corners tree ok s p start (includes_flat_map (all_named tree (codes "polygon")) (walk tree shape (at_path tree s)) e p e_in listed);
      some = false_of (lacks_all tree e (codes "rectangle" ∷ codes "circle" ∷ codes "polygon" ∷ [])) (no_fail tree ok profile.shape_line s shape e 0 (lacks_each_child Missing (codes "rectangle" ∷ codes "circle" ∷ codes "polygon" ∷ [])) (line_in 4 (lit< tt)) start (inl refl) e_in refl);
    }

-- ---- obstacles and problems

has_id : (tree : List Element) → IsAccepted tree → (row : Line) (s : Path) (e : ℕ) → Includes profile.profile row → Includes row.starts s → Includes row.ways [] → Includes (at_path tree s) e → At row.checks 0 bad_id → (i : ℕ) × (id_at tree e ≡ Some i)
has_id tree ok row s e listed start way here at = there (id_at tree e) (no_fail tree ok row s [] e 0 bad_id listed start way here at)

-- an obstacle has an id, a shape and an initial state
pub record HasObstacle (tree : List Element) (e : ℕ) : Type 0 where
  pub id : ℕ
  pub id_is : id_at tree e ≡ Some id
  pub shape : ℕ
  pub shape_is : first_named tree (codes "shape") e ≡ Some shape
  pub start : ℕ
  pub start_is : first_named tree (codes "initialState") e ≡ Some start

pub has_obstacle : (tree : List Element) → IsAccepted tree → (s : Path) (e : ℕ) → Includes obstacles s → Includes (at_path tree s) e → HasObstacle tree e
has_obstacle tree ok s e start here =
    let i = has_id tree ok profile.obstacle_line s e (line_in 3 (lit< tt)) start (inl refl) here refl in
    let lack = no_fail tree ok profile.obstacle_line s [] e 3 (lacks_a_child (codes "shape" ∷ codes "initialState" ∷ [])) (line_in 3 (lit< tt)) start (inl refl) here refl in
    let a = child_of tree e (codes "shape" ∷ codes "initialState" ∷ []) (codes "shape") lack (inl refl) in
    let b = child_of tree e (codes "shape" ∷ codes "initialState" ∷ []) (codes "initialState") lack (inr (inl refl)) in
    record { id = i.0; id_is = i.1; shape = a.0; shape_is = a.1; start = b.0; start_is = b.1 }

pub has_problem : (tree : List Element) → IsAccepted tree → (e : ℕ) → Includes (at_path tree problems) e → HasProblem tree e
has_problem tree ok e here =
    let i = has_id tree ok profile.problem_line problems e (line_in 16 (lit< tt)) (inl refl) (inl refl) here refl in
    let lack = no_fail tree ok profile.problem_line problems [] e 2 (lacks_a_child (codes "initialState" ∷ [])) (line_in 16 (lit< tt)) (inl refl) (inl refl) here refl in
    let b = child_of tree e (codes "initialState" ∷ []) (codes "initialState") lack (inl refl) in
    record {
      id = i.0;
      id_is = i.1;
      start = b.0;
      start_is = b.1;
      start_has = has_start tree ok (to_first problems (codes "initialState")) b.0 (inr (inl refl)) (through_first (first_named tree (codes "initialState")) (at_path tree problems) e b.0 here b.1);
    }

pub has_fixed : (tree : List Element) → IsAccepted tree → (e : ℕ) → Includes (at_path tree statics) e → HasFixed tree e
has_fixed tree ok e here =
    let h = has_obstacle tree ok statics e (inl refl) here in
    record {
      id = h.id;
      id_is = h.id_is;
      shape = h.shape;
      shape_is = h.shape_is;
      shape_has = has_shape tree ok statics e h.shape (inl refl) here h.shape_is;
      start = h.start;
      start_is = h.start_is;
      start_has = has_fixed_start tree ok e h.start here h.start_is;
    }

of_first : (tree : List Element) (name : List ℕ) (e : ℕ) (o : Option ℕ) (n : ℕ) (step : List ℕ) → first_named tree name e ≡ o → Includes (walk tree (first_child name ∷ each_child step ∷ []) (e ∷ [])) n → (t : ℕ) × (first_named tree name e ≡ Some t) × Includes (all_named tree step t) n
of_first tree name e None n step is h = absurd (no_step tree name e n step is h)
  where
    no_step : (tree : List Element) (name : List ℕ) (e n : ℕ) (step : List ℕ) → first_named tree name e ≡ None → Includes (walk tree (first_child name ∷ each_child step ∷ []) (e ∷ [])) n → ⊥
    no_step tree name e n step is h = rw is at h
of_first tree name e (Some t) n step is h = (t, is, one_list (all_named tree step t) n (rw is at h))
  where
    one_list : (xs : List ℕ) (n : ℕ) → Includes (xs ++ []) n → Includes xs n
    one_list xs n h = let P : List ℕ → Type 0 = λ l. Includes l n in subst P (append-nil xs) h

pub has_mover : (tree : List Element) → IsAccepted tree → (e : ℕ) → Includes (at_path tree dynamics) e → HasMover tree e
has_mover tree ok e here =
    let h = has_obstacle tree ok dynamics e (inr (inl refl)) here in
    record {
      id = h.id;
      id_is = h.id_is;
      shape = h.shape;
      shape_is = h.shape_is;
      shape_has = has_shape tree ok dynamics e h.shape (inr (inl refl)) here h.shape_is;
      start = h.start;
      start_is = h.start_is;
      start_has = has_start tree ok (to_first dynamics (codes "initialState")) h.start (inl refl) (through_first (first_named tree (codes "initialState")) (at_path tree dynamics) e h.start here h.start_is);
      states = λ n listed.
          let t = of_first tree (codes "trajectory") e (first_named tree (codes "trajectory") e) n (codes "state") refl listed in
          has_recorded tree ok n (includes_flat_map (all_named tree (codes "state")) (walk tree (first_child (codes "trajectory") ∷ []) (at_path tree dynamics)) t.0 n (through_first (first_named tree (codes "trajectory")) (at_path tree dynamics) e t.0 here t.1) t.2);
    }

-- ---- lanelets

bounds_good : (a b : ℕ) → ((not (a == b) || nat_lt a 2) ≡ false) → (a ≡ b) × (2 ≤ a)
bounds_good a b h = (grind (arith, nat_tests), grind (arith, nat_tests))

bound_has : (tree : List Element) → IsAccepted tree → (e : ℕ) (bound : List ℕ) → Includes (at_path tree lanelets) e → Includes profile.bound_point_line.ways (first_child bound ∷ each_child (codes "point") ∷ [])
    → Includes profile.bound_number_line.ways (first_child bound ∷ each_child (codes "point") ∷ first_child (codes "x") ∷ []) → Includes profile.bound_number_line.ways (first_child bound ∷ each_child (codes "point") ∷ first_child (codes "y") ∷ []) → HasPoints tree (bound_points tree bound e)
bound_has tree ok e bound here way x_way y_way = λ n listed.
    let t = of_first tree bound e (first_named tree bound e) n (codes "point") refl listed in
    point_has tree ok profile.bound_point_line profile.bound_number_line lanelets (first_child bound ∷ each_child (codes "point") ∷ []) n coordinate (line_in 2 (lit< tt)) (inl refl) way
    (includes_flat_map (all_named tree (codes "point")) (walk tree (first_child bound ∷ []) (at_path tree lanelets)) t.0 n (through_first (first_named tree bound) (at_path tree lanelets) e t.0 here t.1) t.2)
    refl (line_in 17 (lit< tt)) (inl refl) x_way y_way refl refl

pub has_lane : (tree : List Element) → IsAccepted tree → (e : ℕ) → Includes (at_path tree lanelets) e → HasLane tree e
has_lane tree ok e here =
    let i = has_id tree ok profile.lanelet_line lanelets e (line_in 1 (lit< tt)) (inl refl) (inl refl) here refl in
    let good = bounds_good (point_count tree (codes "leftBound") e) (point_count tree (codes "rightBound") e) (false_of (not (point_count tree (codes "leftBound") e == point_count tree (codes "rightBound") e) || nat_lt (point_count tree (codes "leftBound") e) 2) (no_fail tree ok profile.lanelet_line lanelets [] e 3 bound_count (line_in 1 (lit< tt)) (inl refl) (inl refl) here refl)) in
    record {
      id = i.0;
      id_is = i.1;
      left = bound_has tree ok e (codes "leftBound") here (inl refl) (inl refl) (inr (inl refl));
      right = bound_has tree ok e (codes "rightBound") here (inr (inl refl)) (inr (inr (inl refl))) (inr (inr (inr (inl refl))));
      even = good.0;
      some = good.1;
    }

-- no lanelet before another has its id
pub not_again : (tree : List Element) → IsAccepted tree → (d e i : ℕ) → Includes (at_path tree lanelets) d → Includes (at_path tree lanelets) e → d < e → id_at tree e ≡ Some i → id_at tree d ≡ Some i → ⊥
not_again tree ok d e i before here less has had =
    no_fail tree ok profile.lanelet_line lanelets [] e 1 (duplicate_id (lanelets ∷ [])) (line_in 1 (lit< tt)) (inl refl) (inl refl) here refl
    (any_in (λ x. nat_lt x e && same_id (id_at tree x) (id_at tree e)) (at_paths tree (lanelets ∷ [])) d (includes_front (at_path tree lanelets) [] d before) (second_at tree d e i has had less))

-- ---- ids that are unique

-- where a group of elements must have unique ids, none has the id of one before it
none_second : (tree : List Element) → IsAccepted tree → (row : Line) → Includes profile.profile row → Includes row.ways [] → At row.checks 1 (duplicate_id row.starts)
    → (e : ℕ) → Includes (at_paths tree row.starts) e → is_second tree (at_paths tree row.starts) e ≡ true → ⊥
none_second tree ok row listed way at e here = let from = in_flat_map (at_path tree) row.starts e here in no_fail tree ok row from.0 [] e 1 (duplicate_id row.starts) listed from.1 way from.2 at

pub no_second_lanelet : (tree : List Element) → IsAccepted tree → (e : ℕ) → Includes (at_paths tree (lanelets ∷ [])) e → is_second tree (at_paths tree (lanelets ∷ [])) e ≡ true → ⊥
no_second_lanelet tree ok = none_second tree ok profile.lanelet_line (line_in 1 (lit< tt)) (inl refl) refl

pub no_second_obstacle : (tree : List Element) → IsAccepted tree → (e : ℕ) → Includes (at_paths tree obstacles) e → is_second tree (at_paths tree obstacles) e ≡ true → ⊥
no_second_obstacle tree ok = none_second tree ok profile.obstacle_line (line_in 3 (lit< tt)) (inl refl) refl

pub no_second_problem : (tree : List Element) → IsAccepted tree → (e : ℕ) → Includes (at_paths tree (problems ∷ [])) e → is_second tree (at_paths tree (problems ∷ [])) e ≡ true → ⊥
no_second_problem tree ok = none_second tree ok profile.problem_line (line_in 16 (lit< tt)) (inl refl) refl

-- ---- the step

pub step_good : (tree : List Element) → IsAccepted tree → (IsTrue (is_bad_number (step_size_text tree)) ⊎ IsUneven (step_size_text tree)) → ⊥
step_good tree ok (inl bad) = no_fail tree ok root_line [] [] 0 3 bad_step_size (line_in 0 (lit< tt)) (inl refl) (inl refl) (inl refl) refl bad
step_good tree ok (inr uneven) = no_fail tree ok root_line [] [] 0 5 uneven_step_size (line_in 0 (lit< tt)) (inl refl) (inl refl) (inl refl) refl uneven

-- ---- how many obstacles

pub not_too_many : (tree : List Element) → IsAccepted tree → (s : Path) (e : ℕ) → Includes obstacles s → Includes (at_path tree s) e → count_by (λ d. nat_lt d e) (at_paths tree obstacles) ≡ 4096 → ⊥
not_too_many tree ok s e start here = no_fail tree ok profile.obstacle_line s [] e 2 (too_many obstacles 4096) (line_in 3 (lit< tt)) start (inl refl) here refl
