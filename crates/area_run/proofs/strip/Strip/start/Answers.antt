use Rattle.std.proofs.Common.{rules, ◌≡◌, ◌∙◌, ap, sym, subst, length, List, Option}
use Rattle.std.proofs.lemmas.List.{with_items_is}
use Rattle.round_out.specs.declared.frames.FrameNumbers.{FrameNumbers}
use Rattle.merge_sets.specs.Strips.{IsForgotten}
use Rattle.area_run.specs.Strips.{IsEmptyStrip}
use Rattle.area_run.proofs.Strips.{started}
use Rattle.area_run.proofs.strip.Strip.start.Goals as goal

pub returns-clause-empty : goal.returns-clause-empty
returns-clause-empty c =
    let long : c.len-count.result ≡ length c.args.self.now.rows.items = search (rules, c.len-count.ensures) in
    subst (λ (z : List (Option FrameNumbers)). IsEmptyStrip c.args.plan.now c.args.b.now z 0 0) (sym (with_items_is c.args.self.now.rows c.forget.new.rows (c.forget.ensures.count ∙ c.deref_mut.ensures.len)))
    (started c.args.plan.now c.args.b.now c.args.self.now.rows.items c.forget.new.rows c.len-count.result c.requires.room long (subst (λ (z : List (Option FrameNumbers)). IsForgotten 0 c.len-count.result z c.forget.new.rows) c.deref_mut.ensures.value c.forget.ensures))
