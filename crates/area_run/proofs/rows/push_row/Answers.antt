use Rattle.std.proofs.Common.{rules, ◌≡◌, ◌∙◌, ◌++◌, ◌∷◌, [], ℤ, pos, List, arith, ap, sym, take, get_or}
use Rattle.std.proofs.lemmas.List.{take_more, append-nil, append_assoc}
use Rattle.area_run.proofs.rows.push_row.Goals as goal

pub loop-run-init : goal.loop-run-init
loop-run-init c = record { items = sym (append-nil c.args.free.now.items); capacity = omega arith }

pub loop-run-preserved : goal.loop-run-preserved
loop-run-preserved c =
    let run : ℤ × ℤ = get_or c.args.runs.now c.loop-run.run-index (pos 0, pos 0) in
    let pushed : c.push.new.self.items ≡ c.loop-run.free.items ++ run ∷ [] = search (rules, c.push.ensures.items, c.is_err.ensures.value, c.if-is_err.false) in
    let more = take_more c.args.runs.now c.loop-run.run-index (pos 0, pos 0) c.loop-run-test.true in
    record {
      items = pushed ∙ ap (λ (zs : List (ℤ × ℤ)). zs ++ run ∷ []) c.loop-run.invariant.items ∙ append_assoc c.args.free.now.items (take c.loop-run.run-index c.args.runs.now) (run ∷ []) ∙ ap (λ (zs : List (ℤ × ℤ)). c.args.free.now.items ++ zs) (sym more);
      capacity = omega (arith, c.loop-run.invariant.capacity, c.push.ensures.capacity);
    }
