-- No check fails at points of lanelets that are all there.
use Rattle.std.proofs.Common.{◌≡◌, ◌<◌, ◌∙◌, inl, inr, ℕ, List, [], ◌∷◌, length, map, false, sym, subst, arith, codes}
use Rattle.std.proofs.lemmas.List.{length-map}
use Rattle.std.specs.List.{AllByRecursion}
use Rattle.spot_terms.proofs.ListLemmas.{all_included, includes_map}
use Rattle.spot_terms.specs.Lists.{Includes}
use Rattle.spot_claims.specs.Tree.{Element, text_at}
use Rattle.spot_claims.specs.Paths.{Path, first_child, each_child, walk, at_path, lanelets}
use Rattle.spot_claims.specs.Profile.{Line, lacks_a_child, lacks_one, profile, to_first, coordinate, bound_point_line, bound_number_line}
use Rattle.spot_claims.specs.Scenario.{bound_points}
use Rattle.scenario.specs.Fault.{NoPointFails}
use Rattle.scenario.specs.Has.{IsGood, HasPoint, HasPoints, HasBounds, AllBounds}
use Rattle.scenario.specs.Table.{line_of, path_of}
use Rattle.scenario.specs.declared.table.Line as table
use Rattle.scenario.proofs.Accepts.{from_one}
use Rattle.scenario.proofs.Faults.{no_fault}
use Rattle.scenario.proofs.RecordedStates.{along, to_number, one_check, both_there, not_true, Fine}

-- ---- along the ways to points and numbers

abbrev to_points : List ℕ → Path
to_points bound = first_child bound ∷ each_child (codes "point") ∷ []

points_are : (tree : List Element) → AllBounds tree → (bound : List ℕ) → ((e : ℕ) → HasBounds tree e → HasPoints tree (bound_points tree bound e)) → (c : ℕ) → Includes (walk tree (to_points bound) (at_path tree lanelets)) c → HasPoint tree c coordinate
points_are tree has bound of c h = let one = from_one tree bound (codes "point") (at_path tree lanelets) c h in of one.0 (has one.0 one.1) c one.2

left_are : (tree : List Element) → AllBounds tree → (c : ℕ) → Includes (walk tree (to_points (codes "leftBound")) (at_path tree lanelets)) c → HasPoint tree c coordinate
left_are tree has = points_are tree has (codes "leftBound") (λ e b. b.left)

right_are : (tree : List Element) → AllBounds tree → (c : ℕ) → Includes (walk tree (to_points (codes "rightBound")) (at_path tree lanelets)) c → HasPoint tree c coordinate
right_are tree has = points_are tree has (codes "rightBound") (λ e b. b.right)

abbrev ArePoints : List Element → Path → Type 0
ArePoints tree way = (c : ℕ) → Includes (walk tree way (at_path tree lanelets)) c → HasPoint tree c coordinate

abbrev AreGood : List Element → Path → Type 0
AreGood tree way = (c : ℕ) → Includes (walk tree way (at_path tree lanelets)) c → IsGood coordinate (text_at tree c)

xs_are : (tree : List Element) (bound : List ℕ) → ArePoints tree (to_points bound) → AreGood tree (to_first (to_points bound) (codes "x"))
xs_are tree bound points = along tree (codes "x") (walk tree (to_points bound) (at_path tree lanelets)) (λ c. HasPoint tree c coordinate) (λ c. IsGood coordinate (text_at tree c)) points (λ e c h is. to_number tree (codes "x") coordinate e c h.x is)

ys_are : (tree : List Element) (bound : List ℕ) → ArePoints tree (to_points bound) → AreGood tree (to_first (to_points bound) (codes "y"))
ys_are tree bound points = along tree (codes "y") (walk tree (to_points bound) (at_path tree lanelets)) (λ c. HasPoint tree c coordinate) (λ c. IsGood coordinate (text_at tree c)) points (λ e c h is. to_number tree (codes "y") coordinate e c h.y is)

-- ---- the checks

-- what holds at the ends of a way holds at those of an equal one
here_is : (tree : List Element) (v w : Path) (e : ℕ) → w ≡ v → Includes (walk tree w (at_path tree lanelets)) e → Includes (walk tree v (at_path tree lanelets)) e
here_is tree v w e s h = let P : Path → Type 0 = λ u. Includes (walk tree u (at_path tree lanelets)) e in subst P s h

has_both : (tree : List Element) (e : ℕ) → HasPoint tree e coordinate → lacks_one tree e (codes "x" ∷ codes "y" ∷ []) ≡ false
has_both tree e k = let x = k.x in let y = k.y in both_there tree e x.child y.child (codes "x") (codes "y") x.child_is y.child_is

lanelet_points_fine : (tree : List Element) → AllBounds tree → Fine tree bound_point_line lanelets
lanelet_points_fine tree has w e j check (inl s) h = one_check tree e (lacks_a_child (codes "x" ∷ codes "y" ∷ [])) (not_true (lacks_one tree e (codes "x" ∷ codes "y" ∷ [])) (has_both tree e (left_are tree has e (here_is tree (to_points (codes "leftBound")) w e s h)))) j check
lanelet_points_fine tree has w e j check (inr (inl s)) h = one_check tree e (lacks_a_child (codes "x" ∷ codes "y" ∷ [])) (not_true (lacks_one tree e (codes "x" ∷ codes "y" ∷ [])) (has_both tree e (right_are tree has e (here_is tree (to_points (codes "rightBound")) w e s h)))) j check
lanelet_points_fine tree has w e j check (inr (inr n)) h = absurd n

lanelet_numbers_fine : (tree : List Element) → AllBounds tree → Fine tree bound_number_line lanelets
lanelet_numbers_fine tree has w e j check (inl s) h = no_fault tree e coordinate (xs_are tree (codes "leftBound") (left_are tree has) e (here_is tree (to_first (to_points (codes "leftBound")) (codes "x")) w e s h)) j check
lanelet_numbers_fine tree has w e j check (inr (inl s)) h = no_fault tree e coordinate (ys_are tree (codes "leftBound") (left_are tree has) e (here_is tree (to_first (to_points (codes "leftBound")) (codes "y")) w e s h)) j check
lanelet_numbers_fine tree has w e j check (inr (inr (inl s))) h = no_fault tree e coordinate (xs_are tree (codes "rightBound") (right_are tree has) e (here_is tree (to_first (to_points (codes "rightBound")) (codes "x")) w e s h)) j check
lanelet_numbers_fine tree has w e j check (inr (inr (inr (inl s)))) h = no_fault tree e coordinate (ys_are tree (codes "rightBound") (right_are tree has) e (here_is tree (to_first (to_points (codes "rightBound")) (codes "y")) w e s h)) j check
lanelet_numbers_fine tree has w e j check (inr (inr (inr (inr n)))) h = absurd n

-- ---- all lines

-- no check of the line fails
abbrev LineFine : List Element → Line → Type 0
LineFine tree row = (s : Path) → Includes row.starts s → Fine tree row s

from_lanelets : (tree : List Element) (row : Line) (s : Path) → Fine tree row lanelets → Includes (lanelets ∷ []) s → Fine tree row s
from_lanelets tree row s fine (inl e) = let P : Path → Type 0 = λ p. Fine tree row p in subst P (sym e) fine
from_lanelets tree row s fine (inr n) = absurd n

point_fine : (tree : List Element) → AllBounds tree → LineFine tree bound_point_line
point_fine tree has = λ s start. from_lanelets tree bound_point_line s (lanelet_points_fine tree has) start

number_fine : (tree : List Element) → AllBounds tree → LineFine tree bound_number_line
number_fine tree has = λ s start. from_lanelets tree bound_number_line s (lanelet_numbers_fine tree has) start

-- the lines of the points of lanelets alone have one start and several ways
rows_fine : (tree : List Element) → AllBounds tree → AllByRecursion (λ row. length row.starts ≡ 1 → 1 < length row.ways → LineFine tree row) profile
rows_fine tree has = (
  (λ one several. absurd (omega (arith, one, several))),
  (
    (λ one several. absurd (omega (arith, one, several))),
    (
      (λ one several. point_fine tree has),
      (
        (λ one several. absurd (omega (arith, one, several))),
        (
          (λ one several. absurd (omega (arith, one, several))),
          (
            (λ one several. absurd (omega (arith, one, several))),
            (
              (λ one several. absurd (omega (arith, one, several))),
              (
                (λ one several. absurd (omega (arith, one, several))),
                (
                  (λ one several. absurd (omega (arith, one, several))),
                  (
                    (λ one several. absurd (omega (arith, one, several))),
                    (
                      (λ one several. absurd (omega (arith, one, several))),
                      (
                        (λ one several. absurd (omega (arith, one, several))),
                        (
                          (λ one several. absurd (omega (arith, one, several))),
                          (
                            (λ one several. absurd (omega (arith, one, several))),
                            (
                              (λ one several. absurd (omega (arith, one, several))),
                              (
                                (λ one several. absurd (omega (arith, one, several))),
                                (
                                  (λ one several. absurd (omega (arith, one, several))),
                                  (
                                    (λ one several. number_fine tree has),
                                    (
                                      (λ one several. absurd (omega (arith, one, several))),
                                      (
                                        (λ one several. absurd (omega (arith, one, several))),
                                        (
                                          (λ one several. absurd (omega (arith, one, several))),
                                          (
                                            (λ one several. absurd (omega (arith, one, several))),
                                            (
                                              (λ one several. absurd (omega (arith, one, several))),
                                              (
                                                (λ one several. absurd (omega (arith, one, several))),
                                                tt,
                                              ),
                                            ),
                                          ),
                                        ),
                                      ),
                                    ),
                                  ),
                                ),
                              ),
                            ),
                          ),
                        ),
                      ),
                    ),
                  ),
                ),
              ),
            ),
          ),
        ),
      ),
    ),
  ),
)

row_fine : (tree : List Element) → AllBounds tree → (row : Line) → Includes profile row → length row.starts ≡ 1 → 1 < length row.ways → LineFine tree row
row_fine tree has row listed = all_included (λ r. length r.starts ≡ 1 → 1 < length r.ways → LineFine tree r) profile row (rows_fine tree has) listed

pub no_point_fails : (tree : List Element) (lines : List table.Line) (line : table.Line) → map line_of lines ≡ profile → Includes lines line → AllBounds tree → NoPointFails tree line
no_point_fails tree lines line is listed has = λ one several e j code m.
    let ways = m.holds in
    let elements = ways.holds in
    let check = elements.holds in
    let P : List Line → Type 0 = λ rows. Includes rows (line_of line) in
    let row_in : Includes profile (line_of line) = subst P is (includes_map line_of lines line listed) in
    let starts_one : length (line_of line).starts ≡ 1 = length-map _ _ ∙ one in
    let ways_several : 1 < length (line_of line).ways = let k : length (line_of line).ways ≡ length line.ways.now = length-map _ _ in omega (arith, k, several) in
    row_fine tree has (line_of line) row_in starts_one ways_several (path_of m.item) (includes_map path_of line.starts.now m.item m.listed) (path_of ways.item) elements.item j check.check (includes_map path_of line.ways.now ways.item ways.listed) elements.listed check.at check.fails
