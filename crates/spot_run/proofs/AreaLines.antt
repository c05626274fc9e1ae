-- The lines of an area: they are of no obstacle, and fit the program's types.
use Rattle.std.proofs.Common.{inl, inr, ℕ, ◌+◌, ◌<◌, ◌≤◌, ◌^◌, List, [], ◌∷◌, ◌++◌, map, length, sym, subst, arith, ℤ, pos, nat_abs, FitsSigned, w64}
use Rattle.std.proofs.lemmas.Int.{ints}
use Rattle.spot_terms.specs.BaseSets.{SetValue}
use Rattle.spot_terms.specs.Courses.{Course}
use Rattle.spot_terms.specs.EgoMotions.{FitsBound}
use Rattle.spot_terms.specs.Report.{Line, EgoValue, ego_line, set_line, count_line, last_line, FitsLine, FitsEnd, IsReport}
use Rattle.spot_terms.specs.StepLists.{AreStepLists}
use Rattle.spot_terms.specs.Whole.{Within}
use Rattle.spot_terms.specs.declared.lines.End.{End}
use Rattle.spot_terms.specs.declared.lines.End.TheVariants as end
use Rattle.spot_terms.specs.declared.plain.Disc.{Disc}
use Rattle.spot_terms.specs.declared.plain.Pt.{Pt}
use Rattle.spot_terms.proofs.ListLemmas.{includes_either, all_append}
use Rattle.spot_terms.proofs.Members.{in_map}
use Rattle.base_sets.specs.Values.{AreBounds, AreTicks, IsEgoStart, IsGrid, course_with}
use Rattle.text_report.specs.Values.{ego_value}
use Rattle.text_report.specs.declared.ego_line.EgoLine.{EgoLine}
use Rattle.spot_claims.specs.AreaOf.{step_lines, lines_from, AreListsSoFar}
use Rattle.spot_claims.proofs.AreaCovers.{ends_within}
use Rattle.area_report.specs.Areas.{AreShort}
use Rattle.area_report.proofs.FitsSteps.{IsCourse, DiscsFit, so_far_fit, lists_so_far}
use Rattle.spot_run.proofs.Alone.{IsOther, AreOthers}

-- ---- of no obstacle

others_append : (xs ys : List Line) → AreOthers xs → AreOthers ys → AreOthers (xs ++ ys)
others_append xs ys h k l i = elim (includes_either xs ys l i) [ inl j ↦ h l j | inr j ↦ k l j ]

other_alone : (line : Line) → IsOther line → AreOthers (line ∷ [])
other_alone line h l (inl e) = subst IsOther (sym e) h
other_alone line h l (inr i) = absurd i

set_others : (i : ℕ) (sets : List SetValue) → AreOthers (map (set_line i) sets)
set_others i sets l j = let (b, k, e) = in_map (set_line i) sets l j in subst IsOther (sym e) tt

step_others : (i : ℕ) (sets : List SetValue) → AreOthers (step_lines i [] sets)
step_others i sets = others_append (map (set_line i) sets) (count_line i (length sets) ∷ []) (set_others i sets) (other_alone (count_line i (length sets)) tt)

steps_others : (i : ℕ) (lists : List (List SetValue)) → AreOthers (lines_from (λ j. []) i lists)
steps_others i [] l j = absurd j
steps_others i (sets ∷ lists) l j = others_append (step_lines i [] sets) (lines_from (λ j. []) (i + 1) lists) (step_others i sets) (steps_others (i + 1) lists) l j

-- the ego, the steps and the end
pub area_others : (e : EgoValue) (lists : List (List SetValue)) (ends : End) → AreOthers (ego_line e ∷ lines_from (λ j. []) 0 lists ++ last_line ends ∷ [])
area_others e lists ends l (inl same) = subst IsOther (sym same) tt
area_others e lists ends l (inr i) = others_append (lines_from (λ j. []) 0 lists) (last_line ends ∷ []) (steps_others 0 lists) (other_alone (last_line ends) tt) l i

-- ---- the ego fits

within_fits : (lo hi : ℕ) (z : ℤ) → hi ≤ 100_000_000 → Within (pos lo) (pos hi) z → FitsSigned w64 z
within_fits lo hi z most h = omega (arith, ints, most, h.low, h.high)

size_fits : (m : ℕ) (z : ℤ) → m ≤ 20_000_000_000_000 → nat_abs z ≤ m → FitsSigned w64 z
size_fits m z most h = omega (arith, ints, most, h)

pub ego_fits : (e : EgoLine) → e.problem ≤ 4_294_967_295 → IsEgoStart e.s → AreBounds e.e → IsGrid e.grid → FitsLine (ego_line (ego_value e))
ego_fits e id start bounds grid = (
  omega (arith, id),
  within_fits 1 20 e.e.a (omega arith) bounds.a,
  within_fits 0 900_000 e.e.v (omega arith) bounds.v,
  within_fits 100_000 100_000_000 e.grid.w (omega arith) grid.w,
  within_fits 100_000 100_000_000 e.grid.g (omega arith) grid.g,
  (size_fits 20_000_000_000_000 e.s.p.x (omega arith) start.x, size_fits 20_000_000_000_000 e.s.p.y (omega arith) start.y),
  (
    size_fits 900_000 e.s.b.xlo (omega arith) start.box.xlo,
    size_fits 900_000 e.s.b.xhi (omega arith) start.box.xhi,
    size_fits 900_000 e.s.b.ylo (omega arith) start.box.ylo,
    size_fits 900_000 e.s.b.yhi (omega arith) start.box.yhi,
  ),
)

pub is_course : (e : EgoLine) (k : ℕ) → IsEgoStart e.s → AreBounds e.e → IsGrid e.grid → AreTicks k → FitsBound e.s.b e.e.v → IsCourse (course_with e.s e.e e.grid k)
is_course e k start bounds grid ticks fits = record {
  start = record { x = start.x; y = start.y; box = start.box; a = bounds.a; v = bounds.v; r = omega arith };
  fits = fits;
  some = ticks.0;
  few = ticks.1;
  wide = grid.w;
  high = grid.g;
}

-- ---- the steps and the end fit

short_number : (i n : ℕ) → i ≤ n → n ≤ 100 → i < 2 ^ 64
short_number i n h k = omega (arith, h, k)

module _ (course : Course) (is : IsCourse course) (count : ℕ → ℕ) (Hits : ℕ → ℕ → Pt → Type 0) (n : ℕ) (few : n ≤ 100) where
  end_fits : (lists : List (List SetValue)) (ends : End) → AreStepLists course count Hits n lists ends → FitsEnd ends
  end_fits lists end.Done are = tt
  end_fits lists end.Open are = tt
  end_fits lists (end.Empty i) are = short_number i n (ends_within course count Hits n lists i are) few

  module _ (recorded : ℕ → List Disc) (discs : DiscsFit recorded n) where
    pub begun_fits : (e : EgoValue) (lists : List (List SetValue)) → FitsLine (ego_line e) → AreListsSoFar course count Hits n lists → AreShort lists → IsReport (ego_line e ∷ lines_from recorded 0 lists)
    begun_fits e lists ego are short = (ego, so_far_fit course is count Hits recorded n discs few lists are short)

    pub all_fits : (e : EgoValue) (lists : List (List SetValue)) (ends : End) → FitsLine (ego_line e) → AreStepLists course count Hits n lists ends → AreShort lists
        → IsReport (ego_line e ∷ lines_from recorded 0 lists ++ last_line ends ∷ [])
    all_fits e lists ends ego are short =
        (ego, all_append FitsLine (lines_from recorded 0 lists) (last_line ends ∷ []) (so_far_fit course is count Hits recorded n discs few lists (lists_so_far course is count Hits n lists ends are) short) (end_fits lists ends are, tt))
