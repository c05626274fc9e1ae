use Rattle.std.proofs.Common.{◌<◌, ◌∙◌, ℕ, List, [], ◌∷◌, ◌++◌, get_or, length, take, sym, ap, subst, arith}
use Rattle.std.proofs.lemmas.List.{take_more, take_all}
use Rattle.std.proofs.lemmas.Option.{slice_get-get_or}
use Rattle.spot_terms.proofs.Places.{all_at}
use Rattle.lanelets.specs.Levels.{Lowers}
use Rattle.lanelets.proofs.LevelLaws.{lowers_none, lowers_less, lowers_same}
use Rattle.lanelets.proofs.levels.lower_row.Goals as goal
use Rattle.lanelets.proofs.levels.lower_row.Goals.{then-n-numbers+in_ok-push, else-n-numbers}

pub loop-d-init : goal.loop-d-init
loop-d-init c = lowers_none c.args.n c.args.numbers.now c.args.noted.now.items

pub loop-d-preserved : goal.loop-d-preserved
loop-d-preserved c =
    let old = c.loop-d.numbers in
    let d : ℕ = get_or c.args.row.now c.loop-d.d-index 0 in
    let row : List ℕ = take c.loop-d.d-index c.args.row.now in
    let more = take_more c.args.row.now c.loop-d.d-index 0 c.loop-d-test.true in
    let many = c.loop-d.auto.numbers in
    let low = all_at (λ x. x < length c.args.numbers.now) c.args.row.now c.loop-d.d-index 0 c.requires c.loop-d-test.true in
    let at = slice_get-get_or old d 0 (omega (arith, low, many)) in
    let next : Lowers (row ++ d ∷ []) c.args.n c.args.numbers.now c.args.noted.now.items c.if-n-numbers.numbers c.if-n-numbers.noted.items = elim c.if-n-numbers.branch [
      | then-n-numbers+in_ok-push w ↦ lowers_less row c.args.n d (get_or old d 0) c.args.numbers.now c.args.noted.now.items old c.loop-d.noted.items c.if-n-numbers.numbers c.if-n-numbers.noted.items c.loop-d.invariant at w.if-n-numbers.true w.numbers-is
          (ap (λ v. v.items) w.noted-is ∙ w.in_ok-push.ensures.items)
      | else-n-numbers w ↦ subst (λ (z : List ℕ). Lowers (row ++ d ∷ []) c.args.n c.args.numbers.now c.args.noted.now.items z c.if-n-numbers.noted.items) (sym w.numbers-is)
          (subst (λ (z : List ℕ). Lowers (row ++ d ∷ []) c.args.n c.args.numbers.now c.args.noted.now.items old z) (sym (ap (λ v. v.items) w.noted-is))
          (lowers_same row c.args.n d (get_or old d 0) c.args.numbers.now c.args.noted.now.items old c.loop-d.noted.items c.loop-d.invariant at w.if-n-numbers.false))
    ] in
    subst (λ (z : List ℕ). Lowers z c.args.n c.args.numbers.now c.args.noted.now.items c.if-n-numbers.numbers c.if-n-numbers.noted.items) (sym more) next

pub returns : goal.returns
returns c =
    let all = take_all c.loop-d.d-index c.args.row.now c.loop-d-test.false in
    subst (λ (z : List ℕ). Lowers z c.args.n c.args.numbers.now c.args.noted.now.items c.loop-d.numbers c.loop-d.noted.items) all c.loop-d.invariant
