use Rattle.std.proofs.Common.{◌≡◌, ◌∙◌, ap, sym, subst, length, List, Option}
use Rattle.std.proofs.lemmas.List.{with_items_is}
use Rattle.round_out.specs.declared.frames.FrameNumbers.{FrameNumbers}
use Rattle.merge_sets.specs.Strips.{IsForgotten}
use Rattle.area_run.specs.Strips.{IsEmptyStrip}
use Rattle.area_run.proofs.Strips.{cleared}
use Rattle.area_run.proofs.strip.Strip.clear.Goals as goal

pub returns-clause-empty : goal.returns-clause-empty
returns-clause-empty c =
    subst (λ (z : List (Option FrameNumbers)). IsEmptyStrip c.args.plan.now c.args.b.now z 0 0) (sym (with_items_is c.args.self.now.rows c.forget.new.rows (c.forget.ensures.count ∙ c.deref_mut.ensures.len)))
    (cleared c.args.plan.now c.args.b.now c.args.self.now.rows.items c.forget.new.rows c.args.self.now.from c.args.self.now.to c.requires.fits (subst (λ (z : List (Option FrameNumbers)). IsForgotten c.args.self.now.from c.args.self.now.to z c.forget.new.rows) c.deref_mut.ensures.value c.forget.ensures))
