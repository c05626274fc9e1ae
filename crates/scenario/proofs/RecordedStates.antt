-- No check fails at recorded states that have all that is read of them.
use Rattle.std.proofs.Common.{◌≡◌, ◌∙◌, inl, inr, ℕ, zero, suc, List, [], ◌∷◌, length, map, Option, Some, Bool, true, false, refl, sym, subst, arith, codes}
use Rattle.std.proofs.lemmas.List.{length-map}
use Rattle.std.specs.List.{AllByRecursion}
use Rattle.spot_terms.proofs.ListLemmas.{all_included, includes_map}
use Rattle.spot_terms.specs.Lists.{Includes, At}
use Rattle.spot_terms.specs.declared.status.Code.TheVariants.{UncertainPosition, UncertainValue}
use Rattle.spot_claims.specs.Tree.{Element, first_named, text_at}
use Rattle.spot_claims.specs.Paths.{Path, first_child, walk, at_path, take_step}
use Rattle.spot_claims.specs.Profile.{Check, Line, FailsAt, Number, lacks_a_child, lacks_each_child, lacks_one, lacks_all, profile, position, position_point, time, to_first, recorded, recorded_line, position_line, position_point_line, recorded_time_line, position_number_line, time_line, coordinate, step_number}
use Rattle.scenario.specs.Fault.{NoneRecordedFails}
use Rattle.scenario.specs.Has.{IsGood, HasNumber, HasPoint, HasRecorded, AllRecorded}
use Rattle.scenario.specs.Table.{line_of, path_of}
use Rattle.scenario.specs.declared.table.Line as table
use Rattle.scenario.proofs.Faults.{no_fault}
use Rattle.scenario.proofs.Members.{in_filter_map}

-- ---- along steps to first children

same_some : (o : Option ℕ) (a b : ℕ) → o ≡ Some a → o ≡ Some b → a ≡ b
same_some o a b e f = let s : Some a ≡ Some b = sym e ∙ f in cc

pub along : (tree : List Element) (name : List ℕ) (es : List ℕ) (P Q : ℕ → Type 0) → ((e : ℕ) → Includes es e → P e) → ((e c : ℕ) → P e → first_named tree name e ≡ Some c → Q c) → (c : ℕ) → Includes (take_step tree (first_child name) es) c → Q c
along tree name es P Q p q c h = let f = in_filter_map (first_named tree name) es c h in q f.0 c (p f.0 f.1) f.2

-- a position that is a point
record HasPlace (tree : List Element) (p : ℕ) : Type 0 where
  point : ℕ
  point_is : first_named tree (codes "point") p ≡ Some point
  has : HasPoint tree point coordinate

to_place : (tree : List Element) (e c : ℕ) → HasRecorded tree e → first_named tree (codes "position") e ≡ Some c → HasPlace tree c
to_place tree e c h is =
    let p = h.position in
    let P : ℕ → Type 0 = λ x. HasPlace tree x in
    subst P (same_some (first_named tree (codes "position") e) p.position c p.position_is is) (record { point = p.point; point_is = p.point_is; has = p.has })

to_point : (tree : List Element) (p c : ℕ) → HasPlace tree p → first_named tree (codes "point") p ≡ Some c → HasPoint tree c coordinate
to_point tree p c h is = let P : ℕ → Type 0 = λ x. HasPoint tree x coordinate in subst P (same_some (first_named tree (codes "point") p) h.point c h.point_is is) h.has

pub to_number : (tree : List Element) (name : List ℕ) (n : Number) (e c : ℕ) → HasNumber tree e name n → first_named tree name e ≡ Some c → IsGood n (text_at tree c)
to_number tree name n e c h is = let P : ℕ → Type 0 = λ x. IsGood n (text_at tree x) in subst P (same_some (first_named tree name e) h.child c h.child_is is) h.good

to_time : (tree : List Element) (e c : ℕ) → HasRecorded tree e → first_named tree (codes "time") e ≡ Some c → HasNumber tree c (codes "exact") step_number
to_time tree e c h is =
    let t = h.time in
    let P : ℕ → Type 0 = λ x. HasNumber tree x (codes "exact") step_number in
    subst P (same_some (first_named tree (codes "time") e) t.child c t.child_is is) t.exact

places_are : (tree : List Element) → AllRecorded tree → (c : ℕ) → Includes (walk tree position (at_path tree recorded)) c → HasPlace tree c
places_are tree has = along tree (codes "position") (at_path tree recorded) (λ e. HasRecorded tree e) (λ c. HasPlace tree c) has (to_place tree)

points_are : (tree : List Element) → AllRecorded tree → (c : ℕ) → Includes (walk tree position_point (at_path tree recorded)) c → HasPoint tree c coordinate
points_are tree has = along tree (codes "point") (walk tree position (at_path tree recorded)) (λ c. HasPlace tree c) (λ c. HasPoint tree c coordinate) (places_are tree has) (to_point tree)

xs_are : (tree : List Element) → AllRecorded tree → (c : ℕ) → Includes (walk tree (to_first position_point (codes "x")) (at_path tree recorded)) c → IsGood coordinate (text_at tree c)
xs_are tree has = along tree (codes "x") (walk tree position_point (at_path tree recorded)) (λ c. HasPoint tree c coordinate) (λ c. IsGood coordinate (text_at tree c)) (points_are tree has) (λ e c h is. to_number tree (codes "x") coordinate e c h.x is)

ys_are : (tree : List Element) → AllRecorded tree → (c : ℕ) → Includes (walk tree (to_first position_point (codes "y")) (at_path tree recorded)) c → IsGood coordinate (text_at tree c)
ys_are tree has = along tree (codes "y") (walk tree position_point (at_path tree recorded)) (λ c. HasPoint tree c coordinate) (λ c. IsGood coordinate (text_at tree c)) (points_are tree has) (λ e c h is. to_number tree (codes "y") coordinate e c h.y is)

times_are : (tree : List Element) → AllRecorded tree → (c : ℕ) → Includes (walk tree time (at_path tree recorded)) c → HasNumber tree c (codes "exact") step_number
times_are tree has = along tree (codes "time") (at_path tree recorded) (λ e. HasRecorded tree e) (λ c. HasNumber tree c (codes "exact") step_number) has (to_time tree)

steps_are : (tree : List Element) → AllRecorded tree → (c : ℕ) → Includes (walk tree (to_first time (codes "exact")) (at_path tree recorded)) c → IsGood step_number (text_at tree c)
steps_are tree has = along tree (codes "exact") (walk tree time (at_path tree recorded)) (λ c. HasNumber tree c (codes "exact") step_number) (λ c. IsGood step_number (text_at tree c)) (times_are tree has) (to_number tree (codes "exact") step_number)

-- ---- the checks

pub one_check : (tree : List Element) (e : ℕ) (k : Check) → (FailsAt tree e k → ⊥) → (j : ℕ) (check : Check) → At (k ∷ []) j check → FailsAt tree e check → ⊥
one_check tree e k none zero check at fails = let P : Check → Type 0 = λ c. FailsAt tree e c in none (subst P at fails)
one_check tree e k none (suc j) check at fails = absurd at

one_there : (tree : List Element) (e c : ℕ) (name : List ℕ) → first_named tree name e ≡ Some c → lacks_all tree e (name ∷ []) ≡ false
one_there tree e c name is = rw is refl

pub both_there : (tree : List Element) (e c d : ℕ) (name other : List ℕ) → first_named tree name e ≡ Some c → first_named tree other e ≡ Some d → lacks_one tree e (name ∷ other ∷ []) ≡ false
both_there tree e c d name other is also = rw (is, also) refl

pub not_true : (b : Bool) → b ≡ false → b ≡ true → ⊥
not_true b e f = cc

-- no check of the line fails behind this start
abbrev pub Fine : List Element → Line → Path → Type 0
Fine tree row s = (w : Path) (e j : ℕ) (check : Check) → Includes row.ways w → Includes (walk tree w (at_path tree s)) e → At row.checks j check → FailsAt tree e check → ⊥

here_is : (tree : List Element) (v w : Path) (e : ℕ) → w ≡ v → Includes (walk tree w (at_path tree recorded)) e → Includes (walk tree v (at_path tree recorded)) e
here_is tree v w e s h = let P : Path → Type 0 = λ u. Includes (walk tree u (at_path tree recorded)) e in subst P s h

state_fine : (tree : List Element) → AllRecorded tree → Fine tree recorded_line recorded
state_fine tree has w e j check (inl s) h =
    let k = has e (here_is tree [] w e s h) in
    let p = k.position in
    let t = k.time in
    one_check tree e (lacks_a_child (codes "position" ∷ codes "time" ∷ [])) (not_true (lacks_one tree e (codes "position" ∷ codes "time" ∷ [])) (both_there tree e p.position t.child (codes "position") (codes "time") p.position_is t.child_is)) j check
state_fine tree has w e j check (inr n) h = absurd n

position_fine : (tree : List Element) → AllRecorded tree → Fine tree position_line recorded
position_fine tree has w e j check (inl s) h =
    let k = places_are tree has e (here_is tree position w e s h) in
    one_check tree e (lacks_each_child UncertainPosition (codes "point" ∷ [])) (not_true (lacks_all tree e (codes "point" ∷ [])) (one_there tree e k.point (codes "point") k.point_is)) j check
position_fine tree has w e j check (inr n) h = absurd n

point_fine : (tree : List Element) → AllRecorded tree → Fine tree position_point_line recorded
point_fine tree has w e j check (inl s) h =
    let k = points_are tree has e (here_is tree position_point w e s h) in
    let x = k.x in
    let y = k.y in
    one_check tree e (lacks_a_child (codes "x" ∷ codes "y" ∷ [])) (not_true (lacks_one tree e (codes "x" ∷ codes "y" ∷ [])) (both_there tree e x.child y.child (codes "x") (codes "y") x.child_is y.child_is)) j check
point_fine tree has w e j check (inr n) h = absurd n

time_fine : (tree : List Element) → AllRecorded tree → Fine tree recorded_time_line recorded
time_fine tree has w e j check (inl s) h =
    let k = times_are tree has e (here_is tree time w e s h) in
    one_check tree e (lacks_each_child UncertainValue (codes "exact" ∷ [])) (not_true (lacks_all tree e (codes "exact" ∷ [])) (one_there tree e k.child (codes "exact") k.child_is)) j check
time_fine tree has w e j check (inr n) h = absurd n

coordinate_fine : (tree : List Element) → AllRecorded tree → Fine tree position_number_line recorded
coordinate_fine tree has w e j check (inl s) h = no_fault tree e coordinate (xs_are tree has e (here_is tree (to_first position_point (codes "x")) w e s h)) j check
coordinate_fine tree has w e j check (inr (inl s)) h = no_fault tree e coordinate (ys_are tree has e (here_is tree (to_first position_point (codes "y")) w e s h)) j check
coordinate_fine tree has w e j check (inr (inr n)) h = absurd n

step_fine : (tree : List Element) → AllRecorded tree → Fine tree time_line recorded
step_fine tree has w e j check (inl s) h = no_fault tree e step_number (steps_are tree has e (here_is tree (to_first time (codes "exact")) w e s h)) j check
step_fine tree has w e j check (inr n) h = absurd n

-- ---- all lines

-- the path to recorded states alone has three steps
rows_fine : (tree : List Element) → AllRecorded tree → AllByRecursion (λ row. AllByRecursion (λ s. length s ≡ 3 → Fine tree row s) row.starts) profile
rows_fine tree has = (
  ((λ h. absurd (omega (arith, h))), tt),
  (
    ((λ h. absurd (omega (arith, h))), tt),
    (
      ((λ h. absurd (omega (arith, h))), tt),
      (
        ((λ h. absurd (omega (arith, h))), ((λ h. absurd (omega (arith, h))), tt)),
        (
          ((λ h. absurd (omega (arith, h))), ((λ h. absurd (omega (arith, h))), tt)),
          (
            ((λ h. absurd (omega (arith, h))), ((λ h. absurd (omega (arith, h))), tt)),
            (
              ((λ h. absurd (omega (arith, h))), ((λ h. absurd (omega (arith, h))), tt)),
              (
                ((λ h. absurd (omega (arith, h))), ((λ h. absurd (omega (arith, h))), tt)),
                (
                  ((λ h. absurd (omega (arith, h))), ((λ h. absurd (omega (arith, h))), tt)),
                  (
                    ((λ h. absurd (omega (arith, h))), tt),
                    (
                      ((λ h. absurd (omega (arith, h))), ((λ h. absurd (omega (arith, h))), tt)),
                      (
                        ((λ h. state_fine tree has), tt),
                        (
                          ((λ h. absurd (omega (arith, h))), ((λ h. absurd (omega (arith, h))), ((λ h. absurd (omega (arith, h))), ((λ h. position_fine tree has), tt)))),
                          (
                            ((λ h. absurd (omega (arith, h))), ((λ h. absurd (omega (arith, h))), ((λ h. absurd (omega (arith, h))), ((λ h. point_fine tree has), tt)))),
                            (
                              ((λ h. absurd (omega (arith, h))), ((λ h. absurd (omega (arith, h))), tt)),
                              (
                                ((λ h. time_fine tree has), tt),
                                (
                                  ((λ h. absurd (omega (arith, h))), tt),
                                  (
                                    ((λ h. absurd (omega (arith, h))), tt),
                                    (
                                      ((λ h. absurd (omega (arith, h))), ((λ h. absurd (omega (arith, h))), ((λ h. absurd (omega (arith, h))), ((λ h. coordinate_fine tree has), tt)))),
                                      (
                                        ((λ h. absurd (omega (arith, h))), ((λ h. absurd (omega (arith, h))), tt)),
                                        (
                                          ((λ h. absurd (omega (arith, h))), ((λ h. absurd (omega (arith, h))), tt)),
                                          (
                                            ((λ h. absurd (omega (arith, h))), ((λ h. absurd (omega (arith, h))), tt)),
                                            (
                                              ((λ h. absurd (omega (arith, h))), ((λ h. absurd (omega (arith, h))), tt)),
                                              (
                                                ((λ h. absurd (omega (arith, h))), ((λ h. absurd (omega (arith, h))), ((λ h. step_fine tree has), tt))),
                                                tt,
                                              ),
                                            ),
                                          ),
                                        ),
                                      ),
                                    ),
                                  ),
                                ),
                              ),
                            ),
                          ),
                        ),
                      ),
                    ),
                  ),
                ),
              ),
            ),
          ),
        ),
      ),
    ),
  ),
)

row_fine : (tree : List Element) → AllRecorded tree → (row : Line) (s : Path) → Includes profile row → Includes row.starts s → length s ≡ 3 → Fine tree row s
row_fine tree has row s listed start = all_included (λ p. length p ≡ 3 → Fine tree row p) row.starts s (all_included (λ r. AllByRecursion (λ p. length p ≡ 3 → Fine tree r p) r.starts) profile row (rows_fine tree has) listed) start

pub none_fails : (tree : List Element) (lines : List table.Line) (line : table.Line) → map line_of lines ≡ profile → Includes lines line → AllRecorded tree → NoneRecordedFails tree line
none_fails tree lines line is listed has = λ start start_in three e j code m.
    let elements = m.holds in
    let one = elements.holds in
    let P : List Line → Type 0 = λ rows. Includes rows (line_of line) in
    let row_in : Includes profile (line_of line) = subst P is (includes_map line_of lines line listed) in
    let len : length (path_of start) ≡ 3 = length-map _ _ ∙ three in
    row_fine tree has (line_of line) (path_of start) row_in (includes_map path_of line.starts.now start start_in) len (path_of m.item) elements.item j one.check (includes_map path_of line.ways.now m.item m.listed) elements.listed one.at one.fails
