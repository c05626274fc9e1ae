-- What a run says, from what its parts say.
use Rattle.std.proofs.Common.{◌≡◌, ◌∙◌, inl, inr, ℕ, ◌*◌, ◌-◌, ◌≤◌, List, ◌∷◌, ◌++◌, length, Option, Some, None, refl, sym, ap, subst}
use Rattle.std.specs.Prelude.{IfSome, IfNone, slice_get}
use Rattle.std.specs.Io.KnownBytes.{Appends}
use Rattle.std.proofs.lemmas.List.{append_cancel_left}
use Rattle.spot_terms.specs.LaneMotions.{IsLaneMotion}
use Rattle.spot_terms.specs.Lists.{Includes}
use Rattle.spot_terms.specs.Motions.{State}
use Rattle.spot_terms.specs.OccupiedPieces.{discs}
use Rattle.spot_terms.specs.Participants.{FollowsLanes}
use Rattle.spot_terms.specs.Ranges.{IsCommandInRange}
use Rattle.spot_terms.specs.Report.{Line, EgoValue, head_line, time_line}
use Rattle.spot_terms.specs.Statuses.{IsDone}
use Rattle.spot_terms.specs.Tasks.{ReadsInput}
use Rattle.spot_terms.specs.declared.command.Command.{Command}
use Rattle.spot_terms.specs.declared.command.Task.{Task}
use Rattle.spot_terms.specs.declared.command.Task.TheVariants.{Predict, Area, Replay, Draw, Sample}
use Rattle.spot_terms.specs.declared.limits.TheConstants.{MOST_BYTES}
use Rattle.spot_terms.specs.declared.lines.Mode.{Mode}
use Rattle.spot_terms.specs.declared.lines.Mode.TheVariants as mode
use Rattle.spot_terms.specs.declared.lines.MoverLine.{MoverLine}
use Rattle.spot_terms.specs.declared.plain.Disc.{Disc}
use Rattle.spot_terms.specs.declared.scenario.Mover.{Mover}
use Rattle.spot_terms.specs.declared.scenario.Scenario.{Scenario}
use Rattle.spot_terms.specs.declared.status.Status.{Status}
use Rattle.spot_terms.specs.declared.status.Status.TheVariants.{Open, Empty, WriteFault}
use Rattle.spot_terms.proofs.Unique.{some_injective}
use Rattle.spot_tree.proofs.Readings.{one_tree}
use Rattle.scenario.proofs.Unique.{scenario_is_one}
use Rattle.spot_claims.specs.EgoClaims.{IsEgoLine, IsOccupied, HasEntered, HasCollided, IsStruck, IsStruckIn, CoversEgo}
use Rattle.spot_claims.specs.Headline.{BeginsWith, ClaimsOf, Claims, Headline}
use Rattle.spot_claims.specs.Outcomes.{MayBeInput, PassesAll, TakesOutput, WritesOutput}
use Rattle.spot_claims.specs.Outputs.{IsOutputSoFar, IsWritten}
use Rattle.spot_claims.specs.ParticipantClaims.{HoldsTick, IsAdmissible, IsCovered, CoversMover, CoversParticipants}
use Rattle.spot_claims.specs.Problems.{ego_radius, chosen}
use Rattle.spot_claims.specs.Runs.{Run, WriteFails}
use Rattle.spot_claims.specs.Scenario.{IsScenario, IsScenarioOf}
use Rattle.spot_claims.specs.Stages.{AreForReading, IsInputOf, IsInput}
use Rattle.spot_claims.specs.Tight.{IsTight}
use Rattle.spot_run.specs.Loads.{IsReadWhole}
use Rattle.spot_run.specs.Tells.{TakesFor, HasWritten, Tells}
use Rattle.spot_run.proofs.Tight.{output_tight}

-- ---- words that are for a command

-- the words stand for this command and no other
pub record IsForCommand (run : Run) (c : Command) : Type 0 where
  pub stands : run.Stands c
  pub only : (d : Command) → run.Stands d → d ≡ c
  pub range : IsCommandInRange c

pub read_some : (W : Command → Type 0) (o : Option Command) (c : Command) → o ≡ Some c → IfSome o (λ d. W d) → W c
read_some W o c e h = subst (λ (x : Option Command). IfSome x (λ d. W d)) e h

-- from what reading the words says
pub for_command : (run : Run) (o : Option Command) (c : Command) → o ≡ Some c → IfSome o (λ d. run.Stands d) → IfSome o (λ c. (d : Command) → run.Stands d → d ≡ c) → IfSome o (λ d. IsCommandInRange d)
    → IsForCommand run c
for_command run o c e stands only range = record {
  stands = read_some run.Stands o c e stands;
  only = read_some (λ (x : Command). (d : Command) → run.Stands d → d ≡ x) o c e only;
  range = read_some IsCommandInRange o c e range;
}

pub read_none : (X : Type 0) (o : Option Command) → o ≡ None → IfNone o X → X
read_none X o e h = subst (λ (x : Option Command). IfNone x X) e h

pub only_sample : (task : Task) → (ReadsInput task → ⊥) → task ≡ Sample
only_sample Sample none = refl
only_sample task none = absurd (none tt)

task_input : (task : Task) (c : Command) (told : Option (List ℕ)) (bytes : List ℕ) → ReadsInput task → IsInputOf task c told bytes → (told ≡ Some bytes) × (length bytes ≤ MOST_BYTES)
task_input Sample c told bytes reads h = absurd reads
task_input task c told bytes reads h = h

input_task : (task : Task) (c : Command) (told : Option (List ℕ)) (bytes : List ℕ) → ReadsInput task → told ≡ Some bytes → length bytes ≤ MOST_BYTES → IsInputOf task c told bytes
input_task Sample c told bytes reads e few = absurd reads
input_task task c told bytes reads e few = (e, few)

may_task : (task : Task) (c : Command) (told : Option (List ℕ)) (bytes : List ℕ) → ReadsInput task → ((all : List ℕ) → told ≡ Some all → bytes ≡ all) → MayBeInput task c told bytes
may_task Sample c told bytes reads same = absurd reads
may_task task c None bytes reads same = tt
may_task task c (Some all) bytes reads same = same all refl

module _ (c : Command) (reads : ReadsInput c.task) where
  pub input_of : (told : Option (List ℕ)) (bytes : List ℕ) → IsInput c told bytes → (told ≡ Some bytes) × (length bytes ≤ MOST_BYTES)
  input_of told bytes h = task_input c.task c told bytes reads h

  pub is_input : (told : Option (List ℕ)) (bytes : List ℕ) → told ≡ Some bytes → length bytes ≤ MOST_BYTES → IsInput c told bytes
  is_input told bytes e few = input_task c.task c told bytes reads e few

pub for_reading : (run : Run) (c : Command) → IsForCommand run c → ReadsInput c.task → AreForReading run
for_reading run c h reads = (c, h.stands, reads)

-- ---- what was appended

pub appended : (before after : Option (List ℕ)) (old added : List ℕ) → before ≡ Some old → Appends before after added → (new : List ℕ) × (after ≡ Some new) × (new ≡ old ++ added)
appended None after old added e h = cc
appended (Some xs) None old added e h = absurd h
appended (Some xs) (Some ys) old added e h = let same : xs ≡ old = cc in (ys, refl, h ∙ ap (λ (x : List ℕ). x ++ added) same)

pub same_bytes : (o : Option (List ℕ)) (a b : List ℕ) → o ≡ Some a → o ≡ Some b → a ≡ b
same_bytes o a b e f = some_injective a b (sym e ∙ f)

same_text : (before after : Option (List ℕ)) (old text added : List ℕ) → before ≡ Some old → after ≡ Some (old ++ text) → Appends before after added → text ≡ added
same_text before after old text added before_is after_is h =
    let (new, is, grown) = appended before after old added before_is h in
    append_cancel_left old text added (some_injective (old ++ text) new (sym after_is ∙ is) ∙ grown)

-- ---- bytes have one scenario, but for how its lanelets are kept

pub record AreAlike (s t : Scenario) : Type 0 where
  pub step : s.step ≡ t.step
  pub movers : s.movers ≡ t.movers
  pub fixed : s.fixed ≡ t.fixed
  pub problems : s.problems ≡ t.problems
  pub lanes : s.lanelets.entries ≡ t.lanelets.entries

pub alike : (bytes : List ℕ) (s t : Scenario) → IsScenarioOf bytes s → IsScenarioOf bytes t → AreAlike s t
alike bytes s t (tree, tree_is, is) (other, other_is, also) =
    let both = scenario_is_one other s t (subst (λ x. IsScenario x s) (one_tree bytes tree other tree_is other_is) is) also in
    record { step = both.0; movers = both.1; fixed = both.2; problems = both.3; lanes = both.4 }

-- ---- a run that loaded a scenario

-- the scenario that was loaded, and what was written
pub record HasLoaded (run : Run) (c : Command) (s : Scenario) : Type 0 where
  pub for : IsForCommand run c
  pub reads : ReadsInput c.task
  pub told : (bytes : List ℕ) → run.told ≡ Some bytes → IsReadWhole bytes run.left × IsScenarioOf bytes s
  pub tells : Tells s c run.before run.after run.status
  pub cause : run.status ≡ WriteFault → WriteFails run

-- ---- the headline

covered : (s t : Scenario) (c : Command) (lines : List Line) (m : Mover) → AreAlike s t → CoversMover s c lines m → CoversMover t c lines m
covered s t c lines m same h = record {
  line = h.line;
  printed = h.printed;
  alone = h.alone;
  line_is = h.line_is;
  covered = λ i less.
      let all : IsCovered s c lines m h.line i = h.covered i less in record {
        numbers = all.numbers;
        printed = all.printed;
        holds = λ states admissible n state at holds q disc. all.holds states (admitted h.line states admissible) n state at (subst (λ k. HoldsTick k c.steps i n) (sym same.step) holds) q disc;
      };
}
  where
    admitted : (line : MoverLine) (states : List State) → IsAdmissible t m line states → IsAdmissible s m line states
    admitted line states admissible = (admissible.0, λ follows. subst (λ ls. IsLaneMotion ls line.p line.b line.a line.v line.s states) (sym same.lanes) (admissible.1 (subst (λ ls. FollowsLanes ls m) same.lanes follows)))

carried : (s t : Scenario) (c : Command) (lines : List Line) → AreAlike s t → CoversParticipants s c lines → CoversParticipants t c lines
carried s t c lines same h = record {
  movers = λ m i zero. covered s t c lines m same (h.movers m (subst (λ ms. Includes ms m) (sym same.movers) i) zero);
  fixed = λ f i. h.fixed f (subst (λ fs. Includes fs f) (sym same.fixed) i);
}

ego_line_carried : (s t : Scenario) (c : Command) → AreAlike s t → (e : EgoValue) → IsEgoLine s c e → IsEgoLine t c e
ego_line_carried s t c same e h = record {
  problem = h.problem;
  chosen = subst (λ ps. chosen c.problem ps ≡ Some h.problem) same.problems h.chosen;
  id = h.id;
  p = h.p;
  a = h.a;
  v = h.v;
  w = h.w;
  g = h.g;
  b = h.b;
}

entered_carried : (s t : Scenario) (c : Command) (lines : List Line) (i : ℕ) (states : List State) → AreAlike s t → HasEntered s c lines i states → HasEntered t c lines i states
entered_carried s t c lines i states same h = record {
  tick = h.tick;
  state = h.state;
  early = subst (λ (k : ℕ). h.tick ≤ i * k) same.step h.early;
  at = h.at;
  occupied = elim h.occupied as (λ _. IsOccupied t c lines (i - 1) h.tick h.state.p) [
    | inl f ↦ inl (record { obstacle = f.obstacle; listed = subst (λ fs. Includes fs f.obstacle) same.fixed f.listed; numbers = f.numbers; printed = f.printed; inside = f.inside })
    | inr p ↦ inr (record {
      mover = p.mover;
      listed = subst (λ ms. Includes ms p.mover) same.movers p.listed;
      starts = p.starts;
      line = p.line;
      line_is = p.line_is;
      printed = p.printed;
      interval = p.interval;
      early = p.early;
      holds = subst (λ k. HoldsTick k c.steps p.interval h.tick) same.step p.holds;
      numbers = p.numbers;
      octagon = p.octagon;
      inside = p.inside;
    })
  ];
}

-- the discs of recorded traffic are those of the other scenario of the bytes
pub discs_same : (s t : Scenario) (radius i : ℕ) → AreAlike s t → discs s radius i ≡ discs t radius i
unfolding discs
discs_same s t radius i same = rw (same.fixed, same.movers) refl

collided_carried : (s t : Scenario) (c : Command) (i : ℕ) (states : List State) → AreAlike s t → HasCollided s c i states → HasCollided t c i states
collided_carried s t c i states same h = record {
  step = h.step;
  state = h.state;
  early = h.early;
  at = subst (λ (k : ℕ). slice_get states (h.step * k) ≡ Some h.state) same.step h.at;
  disc = h.disc;
  recorded = subst (λ (ds : List Disc). Includes ds h.disc) (discs_same s t (ego_radius c) h.step same) h.recorded;
  inside = h.inside;
}

-- who is struck is so in the other scenario
IsCarried : Scenario → Scenario → Command → List Line → Type 0
IsCarried s t c lines = (i : ℕ) (states : List State) → IsStruck s c lines i states → IsStruck t c lines i states

entered_over : (s t : Scenario) (c : Command) (lines : List Line) → AreAlike s t → c.task ≡ Area → IsCarried s t c lines
unfolding IsCarried
entered_over s t c lines same task = λ i states struck.
    subst (λ (x : Task). IsStruckIn x t c lines i states) (sym task) (entered_carried s t c lines i states same (subst (λ (x : Task). IsStruckIn x s c lines i states) task struck))

collided_over : (s t : Scenario) (c : Command) (lines : List Line) → AreAlike s t → c.task ≡ Replay → IsCarried s t c lines
unfolding IsCarried
collided_over s t c lines same task = λ i states struck.
    subst (λ (x : Task). IsStruckIn x t c lines i states) (sym task) (collided_carried s t c i states same (subst (λ (x : Task). IsStruckIn x s c lines i states) task struck))

ego_carried : (s t : Scenario) (c : Command) (lines : List Line) → AreAlike s t → IsCarried s t c lines → CoversEgo s c lines → CoversEgo t c lines
unfolding IsCarried
ego_carried s t c lines same over h = record {
  ego = h.ego;
  printed = h.printed;
  line = ego_line_carried s t c same h.ego h.line;
  held = λ states is i state within at free. h.held states is i state within (back i state states at) (λ struck. free (over i states struck));
  struck = λ i last states is state at. over i states (h.struck i last states is state (back i state states at));
}
  where
    back : (i : ℕ) (state : State) (states : List State) → slice_get states (i * t.step) ≡ Some state → slice_get states (i * s.step) ≡ Some state
    back i state states at = subst (λ (k : ℕ). slice_get states (i * k) ≡ Some state) (sym same.step) at

begins : (s t : Scenario) (c : Command) (mode : Mode) (lines : List Line) → AreAlike s t → BeginsWith mode s c lines → BeginsWith mode t c lines
begins s t c mode lines same h = record { rest = h.rest; lines_are = h.lines_are ∙ ap (λ (k : ℕ). head_line mode ∷ time_line k c.steps ∷ h.rest) same.step }

-- what the lines claim of a scenario they claim of another one of the bytes
claims_carried : (task : Task) (s t : Scenario) (c : Command) (lines : List Line) → c.task ≡ task → AreAlike s t → ClaimsOf task s c lines → ClaimsOf task t c lines
claims_carried Predict s t c lines is same h = (begins s t c mode.Predict lines same h.0, carried s t c lines same h.1)
claims_carried Area s t c lines is same h = (begins s t c mode.Area lines same h.0, carried s t c lines same h.1, ego_carried s t c lines same (entered_over s t c lines same is) h.2)
claims_carried Replay s t c lines is same h = (begins s t c mode.Replay lines same h.0, ego_carried s t c lines same (collided_over s t c lines same is) h.1)
claims_carried Draw s t c lines is same h = tt
claims_carried Sample s t c lines is same h = tt

pub done_written : (s : Scenario) (c : Command) (before after : Option (List ℕ)) (status : Status) → IsDone status → Tells s c before after status → HasWritten s c before after status
done_written s c before after Open done h = h
done_written s c before after (Empty i) done h = h
done_written s c before after status done h = absurd done

pub headline : (run : Run) (c : Command) (s : Scenario) → HasLoaded run c s → Headline run
headline run c s h = λ t d text lines r fits same.
    let one : d ≡ c = h.for.only d r.stands in
    let w = done_written s c run.before run.after run.status r.done h.tells in
    let mine : Claims s c lines = w.claims r.done lines (sym (same_text run.before run.after r.old text w.front r.before_is r.after_is w.appends) ∙ same) in
    let both : AreAlike s t = alike r.bytes s t (h.told r.bytes r.told_is).1 r.scenario_is in
    subst (λ (x : Command). Claims t x lines) (sym one) (claims_carried c.task s t c lines refl both mine)

-- ---- the output

pub written_of : (s : Scenario) (c : Command) (before after : Option (List ℕ)) (status : Status) → IsWritten status → Tells s c before after status → HasWritten s c before after status
written_of s c before after Open written h = h
written_of s c before after (Empty i) written h = h
written_of s c before after WriteFault written h = h
written_of s c before after status written h = absurd written

pub output : (run : Run) (c : Command) (s : Scenario) → HasLoaded run c s → WritesOutput run
output run c s h = λ d old stands told before_is written.
    let (bytes, told_is) = told (subst (λ (x : Command). ReadsInput x.task) (sym (h.for.only d stands)) h.reads) in
    let w = written_of s c run.before run.after run.status written h.tells in
    let (new, after_is, grown) = appended run.before run.after old w.front before_is w.appends in (
      new,
      after_is,
      record {
        command = c;
        stands = h.for.stands;
        bytes = bytes;
        input = is_input c h.reads run.told bytes told_is (h.told bytes told_is).0.0;
        scenario = s;
        scenario_is = (h.told bytes told_is).1;
        within = w.passes.within;
        text = w.text;
        output = w.output;
        front = w.front;
        back = w.back;
        text_is = w.text_is;
        appended = grown;
        whole = w.whole;
      },
    )

-- ---- and it is tight

pub tight : (run : Run) (c : Command) (s : Scenario) → HasLoaded run c s → IsTight run
tight run c s h = λ d old stands told before_is done.
    let (bytes, told_is) = told (subst (λ (x : Command). ReadsInput x.task) (sym (h.for.only d stands)) h.reads) in
    let w = done_written s c run.before run.after run.status done h.tells in
    let whole = w.whole done in
    let (new, after_is, grown) = appended run.before run.after old w.front before_is w.appends in (
      new,
      after_is,
      record {
        command = c;
        stands = h.for.stands;
        bytes = bytes;
        input = is_input c h.reads run.told bytes told_is (h.told bytes told_is).0.0;
        scenario = s;
        scenario_is = (h.told bytes told_is).1;
        text = w.front;
        appended = grown;
        tight = output_tight s c h.for.range w.passes w.front whole.ends whole.output;
      },
    )

-- ---- the room in the sink

pub room : (run : Run) (can : ℕ → Type 0) (s : Scenario) (c : Command) (bytes : List ℕ) → TakesOutput run.Stands run.told can → IsForCommand run c → ReadsInput c.task → ((b : List ℕ) → run.told ≡ Some b → IsScenarioOf b s)
    → IsScenarioOf bytes s → TakesFor s c can
room run can s c bytes takes for reads known of = λ text passes output. go run.told refl text passes output
  where
    may : (told : Option (List ℕ)) → run.told ≡ told → (b : List ℕ) × IsScenarioOf b s × ((all : List ℕ) → run.told ≡ Some all → b ≡ all)
    may None e = (bytes, of, λ all is. let none : None ≡ Some all = sym e ∙ is in cc)
    may (Some known_bytes) e = (known_bytes, known known_bytes e, λ all is. some_injective known_bytes all (sym e ∙ is))

    go : (told : Option (List ℕ)) → run.told ≡ told → (text : List ℕ) → PassesAll s c → IsOutputSoFar s c text → can (length text)
    go told e text passes output =
        let (b, scenario, same) = may told e in
        takes c b s text for.stands (may_task c.task c run.told b reads same) scenario passes output
