-- The lines of obstacles, one by one.
use Rattle.std.proofs.Common.{◌≡◌, ◌≢◌, ◌∙◌, ℕ, suc, ◌+◌, ◌==◌, ◌<◌, ◌≤◌, true, false, List, [], ◌∷◌, ◌++◌, drop, get_or, length, refl, sym, ap}
use Rattle.std.proofs.lemmas.List.{drop_all}
use Rattle.spot_terms.specs.Report.{mover_line, late_line, line_text, report_text}
use Rattle.spot_terms.specs.Participants.{starting}
use Rattle.spot_terms.specs.declared.lines.MoverLine.{MoverLine}
use Rattle.spot_terms.specs.declared.scenario.Mover.{Mover}
use Rattle.participants.specs.declared.participant.Participant.{Participant}
use Rattle.spot_run.specs.Lines.{line_of, obstacle_lines}
use Rattle.text_report.proofs.ReportLines.{report_text-cons, report_text-nil, item}
use Rattle.spot_terms.proofs.Orders.{zero_true, not_zero_false}

mover_next : (m : Mover) (ms : List Mover) (p : Participant) (ps : List Participant) → m.time ≡ 0 → report_text (obstacle_lines (m ∷ ms) (p ∷ ps)) ≡ line_text (mover_line (line_of p)) ++ report_text (obstacle_lines ms ps)
mover_next m ms p ps h = let t : (m.time == 0) ≡ true = zero_true m.time h in rw t (report_text-cons (mover_line (line_of p)) (obstacle_lines ms ps))

late_next : (m : Mover) (ms : List Mover) (ps : List Participant) → m.time ≢ 0 → report_text (obstacle_lines (m ∷ ms) ps) ≡ line_text (late_line m.id m.time) ++ report_text (obstacle_lines ms ps)
late_next m ms [] h = report_text-cons (late_line m.id m.time) (obstacle_lines ms [])
late_next m ms (p ∷ ps) h = let t : (m.time == 0) ≡ false = not_zero_false m.time h in rw t (report_text-cons (late_line m.id m.time) (obstacle_lines ms (p ∷ ps)))

-- an obstacle that starts at time 0, and its participant
pub next_mover : (ms : List Mover) (ps : List Participant) (i j : ℕ) (m : Mover) (p : Participant) (l : MoverLine) → i < length ms → m ≡ get_or ms i m → m.time ≡ 0 → j < length ps → p ≡ get_or ps j p → l ≡ line_of p
    → report_text (obstacle_lines (drop i ms) (drop j ps)) ≡ line_text (mover_line l) ++ report_text (obstacle_lines (drop (i + 1) ms) (drop (j + 1) ps))
next_mover ms ps i j m p l h e z k f same = rw (item ms i m h e, item ps j p k f) (mover_next m (drop (i + 1) ms) p (drop (j + 1) ps) z ∙ ap (λ (x : MoverLine). line_text (mover_line x) ++ report_text (obstacle_lines (drop (i + 1) ms) (drop (j + 1) ps))) (sym same))

-- an obstacle that doesn't
pub next_late : (ms : List Mover) (ps : List Participant) (i : ℕ) (m : Mover) → i < length ms → m ≡ get_or ms i m → m.time ≢ 0
    → report_text (obstacle_lines (drop i ms) ps) ≡ line_text (late_line m.id m.time) ++ report_text (obstacle_lines (drop (i + 1) ms) ps)
next_late ms ps i m h e z = rw (item ms i m h e) (late_next m (drop (i + 1) ms) ps z)

pub none_left : (ms : List Mover) (ps : List Participant) (i : ℕ) → length ms ≤ i → report_text (obstacle_lines (drop i ms) ps) ≡ []
none_left ms ps i h = rw (drop_all i ms h) report_text-nil

-- how many start
starts_next : (m : Mover) (ms : List Mover) → m.time ≡ 0 → length (starting (m ∷ ms)) ≡ suc (length (starting ms))
starts_next m ms z = let t : (m.time == 0) ≡ true = zero_true m.time z in rw t refl

late_starts : (m : Mover) (ms : List Mover) → m.time ≢ 0 → length (starting (m ∷ ms)) ≡ length (starting ms)
late_starts m ms z = let t : (m.time == 0) ≡ false = not_zero_false m.time z in rw t refl

pub starting_mover : (ms : List Mover) (i : ℕ) (m : Mover) → i < length ms → m ≡ get_or ms i m → m.time ≡ 0 → length (starting (drop i ms)) ≡ suc (length (starting (drop (i + 1) ms)))
starting_mover ms i m h e z = rw (item ms i m h e) (starts_next m (drop (i + 1) ms) z)

pub starting_late : (ms : List Mover) (i : ℕ) (m : Mover) → i < length ms → m ≡ get_or ms i m → m.time ≢ 0 → length (starting (drop i ms)) ≡ length (starting (drop (i + 1) ms))
starting_late ms i m h e z = rw (item ms i m h e) (late_starts m (drop (i + 1) ms) z)
