-- The lists of the steps, one after another, and their texts.
use Rattle.std.proofs.Common.{◌≡◌, ◌∙◌, inl, inr, ℕ, zero, suc, ◌+◌, ◌<◌, ◌≤◌, ◌^◌, List, [], ◌∷◌, ◌++◌, map, length, drop, get_or, Some, Result, Ok, Err, refl, sym, ap, ap₂, subst, arith, append-nil, append_assoc}
use Rattle.std.specs.Result.{IsErr}
use Rattle.std.specs.Prelude.{slice_get}
use Rattle.std.proofs.lemmas.List.{drop_all, length-map}
use Rattle.std.proofs.lemmas.Simd.{map-map}
use Rattle.base_sets.specs.Values.{value_of}
use Rattle.base_sets.specs.declared.sets.BaseSet.{BaseSet}
use Rattle.spot_terms.specs.Avoidance.{HoldsOrStrikes}
use Rattle.spot_terms.specs.BaseSets.{SetValue}
use Rattle.spot_terms.specs.Courses.{Course}
use Rattle.spot_terms.specs.Report.{Line, set_line, count_line, last_line, line_text, report_text}
use Rattle.spot_terms.specs.StepLists.{IsNextList, IsFirstList, Follow, AreStepLists}
use Rattle.spot_terms.specs.declared.lines.End.{End}
use Rattle.spot_terms.specs.declared.plain.Disc.{Disc}
use Rattle.spot_terms.specs.declared.plain.Pt.{Pt}
use Rattle.spot_terms.proofs.ItemPlaces.{get_either}
use Rattle.spot_terms.proofs.ListLemmas.{all_append}
use Rattle.spot_io.specs.Writes.{WritesText}
use Rattle.spot_io.specs.declared.traits.Sink.{Ghosts as Sink}
use Rattle.spot_io.proofs.Writing.{WritesUpTo, done, errs_as, text_is, one_after_other, fault_first, takes_second}
use Rattle.spot_claims.specs.AreaOf.{step_lines, lines_from, FollowSoFar, AreListsSoFar}
use Rattle.area_report.specs.Areas.{disc_lines, GoesOn, IsEnd, AreShort, text_so_far, whole_text, IsStepsText, AllHold, WritesSteps}
use Rattle.text_report.proofs.ReportLines.{item, report_text-cons, report_text-one, report_text-append}

-- ---- texts

module _ (recorded : ℕ → List Disc) where
  -- the lines of a step
  abbrev pub lines_at : ℕ → List SetValue → List Line
  lines_at i sets = step_lines i (recorded i) sets

  one_more : (i k : ℕ) (earlier : List (List SetValue)) (sets : List SetValue) → k ≡ i + length earlier → lines_from recorded i (earlier ++ sets ∷ []) ≡ lines_from recorded i earlier ++ lines_at k sets
  one_more i k [] sets e =
      let same : k ≡ i = omega (arith, e) in
      append-nil (lines_at i sets) ∙ ap (λ (j : ℕ). lines_at j sets) (sym same)
  one_more i k (s ∷ earlier) sets e =
      ap (λ (ls : List Line). lines_at i s ++ ls) (one_more (i + 1) k earlier sets (omega (arith, e)))
      ∙ sym (append_assoc (lines_at i s) (lines_from recorded (i + 1) earlier) (lines_at k sets))

  pub text_more : (at : ℕ) (earlier : List (List SetValue)) (sets : List SetValue) → at ≡ length earlier → text_so_far recorded earlier ++ report_text (lines_at at sets) ≡ text_so_far recorded (earlier ++ sets ∷ [])
  text_more at earlier sets e =
      sym (report_text-append (lines_from recorded 0 earlier) (lines_at at sets)) ∙ ap report_text (sym (one_more 0 at earlier sets (omega (arith, e))))

  pub text_whole : (lists : List (List SetValue)) (end : End) → text_so_far recorded lists ++ line_text (last_line end) ≡ whole_text recorded lists end
  text_whole lists end = sym (report_text-append (lines_from recorded 0 lists) (last_line end ∷ []) ∙ ap (λ (x : List ℕ). text_so_far recorded lists ++ x) (report_text-one (last_line end)))

  pub text_first : (sets : List SetValue) → report_text (lines_at 0 sets) ≡ text_so_far recorded (sets ∷ [])
  text_first sets = ap report_text (sym (append-nil (lines_at 0 sets)))

-- the lines of the discs of a step, and of its sets
pub text_parts : (i : ℕ) (discs : List Disc) (sets : List SetValue) → report_text (step_lines i discs sets) ≡ report_text (disc_lines i discs) ++ report_text (step_lines i [] sets)
text_parts i discs sets =
    ap report_text (append_assoc (disc_lines i discs) (map (set_line i) sets) (count_line i (length sets) ∷ []))
    ∙ report_text-append (disc_lines i discs) (step_lines i [] sets)

-- the lines of sets, and their number
abbrev pub set_lines : ℕ → ℕ → List BaseSet → List Line
set_lines i n sets = map (λ b. set_line i (value_of b)) sets ++ count_line i n ∷ []

pub step_text : (i : ℕ) (sets : List BaseSet) → report_text (set_lines i (length sets) sets) ≡ report_text (step_lines i [] (map value_of sets))
step_text i sets = ap report_text (ap₂ (λ (ls : List Line) (k : ℕ). ls ++ count_line i k ∷ []) (sym (map-map (set_line i) value_of sets)) (sym (length-map sets value_of)))

pub next_set : (i n j : ℕ) (sets : List BaseSet) (b : BaseSet) → j < length sets → b ≡ get_or sets j b
    → report_text (set_lines i n (drop j sets)) ≡ line_text (set_line i (value_of b)) ++ report_text (set_lines i n (drop (j + 1) sets))
next_set i n j sets b less is = ap (λ (bs : List BaseSet). report_text (set_lines i n bs)) (item sets j b less is) ∙ report_text-cons (set_line i (value_of b)) (set_lines i n (drop (j + 1) sets))

pub count_left : (i n j : ℕ) (sets : List BaseSet) → length sets ≤ j → report_text (set_lines i n (drop j sets)) ≡ line_text (count_line i n)
count_left i n j sets h = ap (λ (bs : List BaseSet). report_text (set_lines i n bs)) (drop_all j sets h) ∙ report_text-one (count_line i n)

-- where all sets are written, the count is left
pub up_to_count : {K : Type 0} {sink : Sink K} {a b : K} {all : List ℕ} (i j : ℕ) (sets : List BaseSet) → length sets ≤ j → WritesUpTo sink a b all (report_text (set_lines i (length sets) (drop j sets))) → WritesUpTo sink a b all (line_text (count_line i (length sets)))
up_to_count {sink = sink} {a = a} {b = b} {all = all} i j sets h v = subst (λ (r : List ℕ). WritesUpTo sink a b all r) (count_left i (length sets) j sets h) v

pub room_is : {K : Type 0} (sink : Sink K) (a : K) (i : ℕ) (sets : List BaseSet) → sink.takes a (length (report_text (step_lines i [] (map value_of sets)))) → sink.takes a (length (report_text (set_lines i (length sets) sets)))
room_is sink a i sets h = subst (λ (x : List ℕ). sink.takes a (length x)) (sym (step_text i sets)) h

-- ---- lists

abbrev pub IsShort : List SetValue → Type 0
IsShort sets = length sets < 2 ^ 64

-- one list more
pub longer : (at : ℕ) (earlier : List (List SetValue)) (sets : List SetValue) → at ≡ length earlier → suc at ≡ length (earlier ++ sets ∷ [])
longer at [] sets e = ap suc e
longer zero (s ∷ earlier) sets e = cc
longer (suc at) (s ∷ earlier) sets e = ap suc (longer at earlier sets (omega (arith, e)))

more_short : (earlier : List (List SetValue)) (sets next : List SetValue) → AreShort (earlier ++ sets ∷ []) → IsShort next → AreShort ((earlier ++ sets ∷ []) ++ next ∷ [])
more_short earlier sets next all short = all_append IsShort (earlier ++ sets ∷ []) (next ∷ []) all (short, tt)

module _ (course : Course) (count : ℕ → ℕ) (Hits : ℕ → ℕ → Pt → Type 0) (n : ℕ) where
  follow_more : (i k : ℕ) (sets : List SetValue) (earlier : List (List SetValue)) (b : SetValue) (bs next : List SetValue) → k ≡ i + suc (length earlier) → FollowSoFar course count Hits n i sets (earlier ++ (b ∷ bs) ∷ [])
      → k < n → IsNextList course (suc k) (b ∷ bs) (count (suc k)) (Hits (suc k)) next → FollowSoFar course count Hits n i sets ((earlier ++ (b ∷ bs) ∷ []) ++ next ∷ [])
  follow_more i k [] [] b bs next e f less is = absurd f
  follow_more i k [] (s ∷ earlier) b bs next e f less is = absurd f
  follow_more i k (c ∷ sets) [] b bs next e f less is =
      let same : k ≡ suc i = omega (arith, e) in
      (f.0, f.1, (omega (arith, same, less), subst (λ (j : ℕ). IsNextList course (suc j) (b ∷ bs) (count (suc j)) (Hits (suc j)) next) same is, tt))
  follow_more i k (c ∷ sets) (s ∷ earlier) b bs next e f less is = (f.0, f.1, follow_more (suc i) k s earlier b bs next (omega (arith, e)) f.2 less is)

  pub so_far_more : (at : ℕ) (earlier : List (List SetValue)) (b : SetValue) (bs next : List SetValue) → at ≡ length earlier → AreListsSoFar course count Hits n (earlier ++ (b ∷ bs) ∷ [])
      → at < n → IsNextList course (suc at) (b ∷ bs) (count (suc at)) (Hits (suc at)) next → AreListsSoFar course count Hits n ((earlier ++ (b ∷ bs) ∷ []) ++ next ∷ [])
  so_far_more at [] b bs next e (first, f) less is =
      (first, (omega (arith, e, less), subst (λ (j : ℕ). IsNextList course (suc j) (b ∷ bs) (count (suc j)) (Hits (suc j)) next) e is, tt))
  so_far_more at (s ∷ earlier) b bs next e (first, f) less is = (first, follow_more 0 at s earlier b bs next (omega (arith, e)) f less is)

  ends : (k i : ℕ) (last : List SetValue) (end : End) → k ≡ i → i ≤ n → IsEnd k last end → (GoesOn k n last → ⊥) → Follow course count Hits n i last [] end
  ends k i [] end e h is stops = (refl, subst (λ (j : ℕ). IsEnd j [] end) e is)
  ends k i (b ∷ bs) end e h is stops = (high i (λ less. stops (omega (arith, e, less))) h, is)
    where
      high : (j : ℕ) → (j < n → ⊥) → j ≤ n → j ≡ n
      high j not low = omega (arith, not, low)

  follow_ends : (i k : ℕ) (sets : List SetValue) (earlier : List (List SetValue)) (last : List SetValue) (end : End) → k ≡ i + suc (length earlier) → FollowSoFar course count Hits n i sets (earlier ++ last ∷ [])
      → IsEnd k last end → (GoesOn k n last → ⊥) → Follow course count Hits n i sets (earlier ++ last ∷ []) end
  follow_ends i k [] [] last end e f is stops = absurd f
  follow_ends i k [] (s ∷ earlier) last end e f is stops = absurd f
  follow_ends i k (c ∷ sets) [] last end e f is stops =
      let less = f.0 in
      (f.0, f.1, ends k (suc i) last end (omega (arith, e)) (omega (arith, less)) is stops)
  follow_ends i k (c ∷ sets) (s ∷ earlier) last end e f is stops = (f.0, f.1, follow_ends (suc i) k s earlier last end (omega (arith, e)) f.2 is stops)

  pub all_lists : (at : ℕ) (earlier : List (List SetValue)) (last : List SetValue) (end : End) → at ≡ length earlier → AreListsSoFar course count Hits n (earlier ++ last ∷ [])
      → IsEnd at last end → (GoesOn at n last → ⊥) → AreStepLists course count Hits n (earlier ++ last ∷ []) end
  all_lists at [] last end e (first, f) is stops = (first, ends at 0 last end e (omega arith) is stops)
  all_lists at (s ∷ earlier) last end e (first, f) is stops = (first, follow_ends 0 at s earlier last end (omega (arith, e)) f is stops)

  hold_more : (at : ℕ) (lists : List (List SetValue)) (next : List SetValue) → at ≡ length lists → AllHold course count Hits n lists → HoldsOrStrikes course count Hits at next → AllHold course count Hits n (lists ++ next ∷ [])
  hold_more at lists next e all here i sets is = elim (get_either lists i next sets is) [
    | inl before ↦ all i sets before
    | inr (last, same) ↦ subst (λ (j : ℕ). HoldsOrStrikes course count Hits j sets) (e ∙ sym last) (subst (HoldsOrStrikes course count Hits at) (sym same) here)
  ]

  none_hold : AllHold course count Hits n []
  none_hold i sets is = none i is
    where
      none : (i : ℕ) → slice_get [] i ≡ Some sets → HoldsOrStrikes course count Hits i sets
      none zero e = cc
      none (suc i) e = cc

  -- ---- what is written

  module _ (recorded : ℕ → List Disc) {K : Type 0} (sink : Sink K) where
    -- the steps up to the one at which the run stands are written
    pub record IsSoFar (old now : K) (at : ℕ) (sets : List SetValue) : Type 0 where
      pub earlier : List (List SetValue)
      pub long : at ≡ length earlier
      pub are : AreListsSoFar course count Hits n (earlier ++ sets ∷ [])
      pub short : AreShort (earlier ++ sets ∷ [])
      pub hold : AllHold course count Hits n (earlier ++ sets ∷ [])
      pub writes : WritesText {T = Unit {0}} {E = Unit {0}} sink old now (text_so_far recorded (earlier ++ sets ∷ [])) (Ok tt)

    abbrev pub HasRoom : K → Type 0
    HasRoom old = (text : List ℕ) → IsStepsText recorded course count Hits n text → sink.takes old (length text)

    -- ---- the first step

    so_far_first : (sets : List SetValue) → IsFirstList course count Hits sets → AreListsSoFar course count Hits n (sets ∷ [])
    so_far_first sets is = (is, tt)

    pub takes_first : (old : K) (sets : List SetValue) → IsFirstList course count Hits sets → IsShort sets → HasRoom old → sink.takes old (length (report_text (lines_at recorded 0 sets)))
    takes_first old sets is short room = subst (λ (x : List ℕ). sink.takes old (length x)) (sym (text_first recorded sets)) (room (text_so_far recorded (sets ∷ [])) (inr (sets ∷ [], so_far_first sets is, (short, tt), refl)))

    pub first_written : {T E : Type 0} {old now : K} {x : T} (sets : List SetValue) → IsFirstList course count Hits sets → IsShort sets → HoldsOrStrikes course count Hits 0 sets → WritesText {E = E} sink old now (report_text (lines_at recorded 0 sets)) (Ok x) → IsSoFar old now 0 sets
    first_written sets is short holds w = record {
      earlier = [];
      long = refl;
      are = so_far_first sets is;
      short = (short, tt);
      hold = hold_more 0 [] sets refl none_hold holds;
      writes = errs_as (done (text_is (text_first recorded sets) w));
    }

    fault_of : {T E : Type 0} {old new : K} {text : List ℕ} (at : ℕ) (sets : List SetValue) (result : Result T E) → IsStepsText recorded course count Hits n text → IsErr result → WritesText sink old new text result → WritesSteps recorded course count Hits n sink old new at sets result
    fault_of at sets (Ok x) is err w = cc
    fault_of {text = text} at sets (Err e) is err w = record { ok = tt; err = (text, is, w.err); cause = w.cause }

    fault_as : {T U E : Type 0} {old new : K} {text : List ℕ} {e : E} (result : Result T E) → WritesText {T = U} sink old new text (Err e) → IsErr result → WritesText sink old new text result
    fault_as {text = text} result w err = text_is (append-nil text) (fault_first [] result w err)

    pub fault_first_step : {T U E : Type 0} {old new : K} {e : E} (at : ℕ) (sets here : List SetValue) (result : Result T E) → IsFirstList course count Hits sets → IsShort sets → WritesText {T = U} sink old new (report_text (lines_at recorded 0 sets)) (Err e) → IsErr result
        → WritesSteps recorded course count Hits n sink old new at here result
    fault_first_step at sets here result is short w err = fault_of at here result (inr (sets ∷ [], so_far_first sets is, (short, tt), refl)) err (text_is (text_first recorded sets) (fault_as result w err))

    -- ---- a further step

    further : (old now : K) (at : ℕ) (sets next : List SetValue) → (v : IsSoFar old now at sets) → GoesOn at n sets → IsNextList course (suc at) sets (count (suc at)) (Hits (suc at)) next → AreListsSoFar course count Hits n ((v.earlier ++ sets ∷ []) ++ next ∷ [])
    further old now at [] next v goes is = absurd goes
    further old now at (b ∷ bs) next v goes is = so_far_more at v.earlier b bs next v.long v.are goes is

    pub takes_further : (old now : K) (at : ℕ) (sets next : List SetValue) → IsSoFar old now at sets → GoesOn at n sets → IsNextList course (suc at) sets (count (suc at)) (Hits (suc at)) next → IsShort next → HasRoom old → sink.takes now (length (report_text (lines_at recorded (suc at) next)))
    takes_further old now at sets next v goes is short room =
        let lists = v.earlier ++ sets ∷ [] in
        let same : text_so_far recorded lists ++ report_text (lines_at recorded (suc at) next) ≡ text_so_far recorded (lists ++ next ∷ []) = text_more recorded (suc at) lists next (longer at v.earlier sets v.long) in
        takes_second (report_text (lines_at recorded (suc at) next)) v.writes (subst (λ (x : List ℕ). sink.takes old (length x)) (sym same) (room (text_so_far recorded (lists ++ next ∷ [])) (inr (lists ++ next ∷ [], further old now at sets next v goes is, more_short v.earlier sets next v.short short, refl))))

    pub further_written : {T E : Type 0} {x : T} (old now new : K) (at : ℕ) (sets next : List SetValue) → IsSoFar old now at sets → GoesOn at n sets → IsNextList course (suc at) sets (count (suc at)) (Hits (suc at)) next
        → IsShort next → HoldsOrStrikes course count Hits (suc at) next → WritesText {E = E} sink now new (report_text (lines_at recorded (suc at) next)) (Ok x) → IsSoFar old new (suc at) next
    further_written old now new at sets next v goes is short holds w =
        let lists = v.earlier ++ sets ∷ [] in
        let long : suc at ≡ length lists = longer at v.earlier sets v.long in record {
          earlier = lists;
          long = long;
          are = further old now at sets next v goes is;
          short = more_short v.earlier sets next v.short short;
          hold = hold_more (suc at) lists next long v.hold holds;
          writes = text_is (text_more recorded (suc at) lists next long) (one_after_other v.writes (errs_as (done w)));
        }

    pub fault_further : {T U E : Type 0} {e : E} (old now new : K) (at to : ℕ) (sets next here : List SetValue) (result : Result T E) → IsSoFar old now at sets → GoesOn at n sets → IsNextList course (suc at) sets (count (suc at)) (Hits (suc at)) next
        → IsShort next → WritesText {T = U} sink now new (report_text (lines_at recorded (suc at) next)) (Err e) → IsErr result → WritesSteps recorded course count Hits n sink old new to here result
    fault_further old now new at to sets next here result v goes is short w err =
        let lists = v.earlier ++ sets ∷ [] in
        let long : suc at ≡ length lists = longer at v.earlier sets v.long in
        fault_of to here result (inr (lists ++ next ∷ [], further old now at sets next v goes is, more_short v.earlier sets next v.short short, refl)) err
        (text_is (text_more recorded (suc at) lists next long) (one_after_other (errs_as v.writes) (fault_as result w err)))

    -- ---- the end

    whole : (old now : K) (at : ℕ) (sets : List SetValue) (end : End) → (v : IsSoFar old now at sets) → (GoesOn at n sets → ⊥) → IsEnd at sets end → AreStepLists course count Hits n (v.earlier ++ sets ∷ []) end
    whole old now at sets end v stops is = all_lists at v.earlier sets end v.long v.are is stops

    pub takes_end : (old now : K) (at : ℕ) (sets : List SetValue) (end : End) → IsSoFar old now at sets → (GoesOn at n sets → ⊥) → IsEnd at sets end → HasRoom old → sink.takes now (length (line_text (last_line end)))
    takes_end old now at sets end v stops is room =
        let lists = v.earlier ++ sets ∷ [] in
        takes_second (line_text (last_line end)) v.writes (subst (λ (x : List ℕ). sink.takes old (length x)) (sym (text_whole recorded lists end)) (room (whole_text recorded lists end) (inl (lists, end, whole old now at sets end v stops is, v.short, refl))))

    ended : {T E : Type 0} (old new : K) (at : ℕ) (sets : List SetValue) (lists : List (List SetValue)) (end : End) (result : Result T E) → AreStepLists course count Hits n lists end → AreShort lists → AllHold course count Hits n lists → IsEnd at sets end
        → WritesText sink old new (whole_text recorded lists end) result → WritesSteps recorded course count Hits n sink old new at sets result
    ended old new at sets lists end (Ok x) are short hold is w = record {
      ok = record { lists = lists; end = end; lists_are = are; short = short; hold = hold; end_is = is; appends = w.ok };
      err = tt;
      cause = w.cause;
    }
    ended old new at sets lists end (Err e) are short hold is w = record { ok = tt; err = (whole_text recorded lists end, inl (lists, end, are, short, refl), w.err); cause = w.cause }

    pub end_written : {T E : Type 0} (old now new : K) (at : ℕ) (sets : List SetValue) (end : End) (result : Result T E) → IsSoFar old now at sets → (GoesOn at n sets → ⊥) → IsEnd at sets end
        → WritesText sink now new (line_text (last_line end)) result → WritesSteps recorded course count Hits n sink old new at sets result
    end_written old now new at sets end result v stops is w =
        let lists = v.earlier ++ sets ∷ [] in
        ended old new at sets lists end result (whole old now at sets end v stops is) v.short v.hold is (text_is (text_whole recorded lists end) (one_after_other (errs_as v.writes) w))
