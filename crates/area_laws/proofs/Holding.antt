-- By induction over the steps: a motion is held, or was at a piece.
use Rattle.std.proofs.Common.{◌≡◌, ℕ, ◌+◌, ◌*◌, ◌≤◌, arith, refl, sym, subst, List, [], ◌∷◌, inl, inr, Some, ℤ, pos, ◌<ℤ◌}
use Rattle.std.specs.Prelude.{slice_get}
use Rattle.std.proofs.lemmas.Int.{by_lt_z}
use Rattle.spot_terms.specs.Avoidance.{IsStruckBy, HoldsOrStrikes}
use Rattle.spot_terms.specs.BaseSets.{SetValue}
use Rattle.spot_terms.specs.Courses.{Course, IsMotionOf}
use Rattle.spot_terms.specs.EgoMotions.{EgoTick, EgoSpeedAtMost}
use Rattle.spot_terms.specs.Frames.{at}
use Rattle.spot_terms.specs.Grid.{slot, slot_low, slot_high}
use Rattle.spot_terms.specs.Hull.{InHull}
use Rattle.spot_terms.specs.Lists.{Includes}
use Rattle.spot_terms.specs.Motions.{State, InBox}
use Rattle.spot_terms.specs.StepLists.{IsFirstList, first_set, segment}
use Rattle.spot_terms.specs.Whole.{Within}
use Rattle.spot_terms.specs.declared.plain.Pt.{Pt}
use Rattle.spot_terms.proofs.HullLaws.{hull_laws}
use Rattle.spot_terms.proofs.ItemPlaces.{got_below, item_at}
use Rattle.spot_terms.proofs.Steps.{bound_at, start_at}
use Rattle.base_sets.proofs.Passes.{passes_x, passes_y}
use Rattle.area_laws.specs.Holding.{AreUpright}
use Rattle.area_laws.specs.Leading.{IsPlaceRemoved, LeadsOn}
use Rattle.base_sets.proofs.Boxes.{stays_in_box}
use Rattle.spot_terms.proofs.Orders.{below_true, at_least_false, equal_between}
use Rattle.spot_terms.proofs.Slots.{slot_holds}

-- ---- motions by their ticks

-- a motion that goes on to a tick was somewhere at each earlier one
earlier : {S : Type 0} (states : List S) (m n : ℕ) (t : S) → slice_get states (m + n) ≡ Some t → (s : S) × (slice_get states m ≡ Some s)
earlier states m n t e = let below = got_below states (m + n) t e in item_at states m (omega (arith, below))

-- a speed of a segment
in_segment : (p lo hi v : ℤ) → Within lo hi v → InHull (segment p lo hi) (at p v)
in_segment p lo hi v w = by_lt_z lo hi
    (λ less. rw (below_true lo hi less) (hull_laws.upright (at p lo ∷ at p hi ∷ []) p lo v hi w.low w.high (hull_laws.member (at p lo ∷ at p hi ∷ []) (at p lo) (inl refl)) (hull_laws.member (at p lo ∷ at p hi ∷ []) (at p hi) (inr (inl refl)))))
    (λ not. rw (at_least_false lo hi not) (subst (λ (z : ℤ). InHull (at p lo ∷ []) (at p z)) (equal_between lo v hi w.low w.high not) (hull_laws.member (at p lo ∷ []) (at p lo) (inl refl))))

-- ---- the steps

-- up to step n
module _ (course : Course) (n : ℕ) (count : ℕ → ℕ) (Hits Inside : ℕ → ℕ → Pt → Type 0) (high : pos 0 <ℤ course.g) (upright : AreUpright n count Hits Inside) where
  -- where a place is removed, a motion that is there is at a piece
  removed_strikes : (i : ℕ) (states : List State) (state : State) → i ≤ n → slice_get states (i * course.k) ≡ Some state → IsPlaceRemoved course (count i) (Hits i) state.p → IsStruckBy course count Inside i states
  removed_strikes i states state l e (p, below, low, top) =
      let k = slot_holds course.g state.p.y high in
      (i, p, state, omega arith, e, below, upright i p state.p.x (slot_low course.g (slot course.g state.p.y)) state.p.y (slot_high course.g (slot course.g state.p.y)) l below k.low k.high low top)

  -- the first list holds the start, or it is removed
  pub first_step : (sets : List SetValue) → IsFirstList course count Hits sets → HoldsOrStrikes course count Inside 0 sets
  first_step sets (inr (gone, none)) states state motion e =
      let start = start_at (λ s. (s.p ≡ course.p) × InBox course.b s.v) states state motion.start (subst (λ (j : ℕ). slice_get states j ≡ Some state) (omega arith) e) in
      inr (removed_strikes 0 states state (omega arith) e (subst (λ (p : Pt). IsPlaceRemoved course (count 0) (Hits 0) p) (sym start.0) gone))
  first_step sets (inl (left, one)) states state motion e =
      let start = start_at (λ s. (s.p ≡ course.p) × InBox course.b s.v) states state motion.start (subst (λ (j : ℕ). slice_get states j ≡ Some state) (omega arith) e) in
      inl (
        first_set course,
        subst (λ (l : List SetValue). Includes l (first_set course)) (sym one) (inl refl),
        record {
          x = subst (λ (p : Pt). InHull (segment course.p.x course.b.xlo course.b.xhi) (at p.x state.v.x)) (sym start.0) (in_segment course.p.x course.b.xlo course.b.xhi state.v.x start.1.x);
          y = subst (λ (p : Pt). InHull (segment course.p.y course.b.ylo course.b.yhi) (at p.y state.v.y)) (sym start.0) (in_segment course.p.y course.b.ylo course.b.yhi state.v.y start.1.y);
        },
      )

  -- a step from what holds
  pub next_step : (i : ℕ) (before after : List SetValue) → i + 1 ≤ n → HoldsOrStrikes course count Inside i before
      → LeadsOn course (count (i + 1)) (Hits (i + 1)) (i + 1) before after → HoldsOrStrikes course count Inside (i + 1) after
  next_step i before after l h leads states state motion e =
      let there : slice_get states (i * course.k + course.k) ≡ Some state = subst (λ (j : ℕ). slice_get states j ≡ Some state) (omega arith) e in
      let (s, was) = earlier states (i * course.k) course.k state there in
      elim (h states s motion was) [
        | inl held ↦ elim (leads held.0 s state held.1 held.2 (record {
          next = record {
            x = passes_x course.a course.v states (i * course.k) course.k s state motion.ticks was there;
            y = passes_y course.a course.v states (i * course.k) course.k s state motion.ticks was there;
            slow = bound_at (EgoTick course.a) (EgoSpeedAtMost course.v) states ((i + 1) * course.k) state motion.ticks e;
          };
          in_box = stays_in_box course (i + 1) states state motion e;
        })) [
          | inl gone ↦ inr (removed_strikes (i + 1) states state l e gone)
          | inr held ↦ inl held
        ]
        | inr struck ↦ inr (struck.0, struck.1, struck.2, omega (arith, struck.3), struck.4, struck.5, struck.6)
      ]

-- where no set is left, each motion was at a piece
pub none_left : (course : Course) (count : ℕ → ℕ) (Inside : ℕ → ℕ → Pt → Type 0) (i : ℕ) → HoldsOrStrikes course count Inside i [] → (states : List State) (state : State) → IsMotionOf course states
    → slice_get states (i * course.k) ≡ Some state → IsStruckBy course count Inside i states
none_left course count Inside i h states state motion e = elim (h states state motion e) [ inl held ↦ absurd held.1 | inr struck ↦ struck ]
