use Rattle.std.proofs.Common.{◌≡◌, ◌∙◌, ap, sym, subst, Option, Some}
use Rattle.std.proofs.lemmas.Option.{slice_get-get_or}
use Rattle.area_run.specs.Strips.{IsKeptOf}
use Rattle.area_run.specs.declared.children.Kept.{Kept}
use Rattle.area_run.proofs.KeptChildren.{got_set, kept_in, kept_set}
use Rattle.area_run.proofs.children.Children.join.Goals as goal

pub keep-requires-clause-kept : goal.keep-requires-clause-kept
keep-requires-clause-kept c = kept_in c.args.plan.now c.args.b.now c.args.self.now.kept.items c.place-at.result c.index_mut.result.now c.requires.kept
    (slice_get-get_or c.args.self.now.kept.items c.place-at.result _ c.place-at.ensures ∙ ap (λ (z : Option Kept). Some z) (sym c.index_mut.ensures.value))

pub join_kept-requires-clause-kept : goal.join_kept-requires-clause-kept
join_kept-requires-clause-kept c = (c.args.set.now.y, subst (λ (z : Option Kept). IsKeptOf c.args.plan.now c.args.b.now c.args.set.now.y z) (sym (c.index.ensures ∙ got_set c.args.self.now.kept.items c.place-at.result c.keep.new.kept _ c.place-at.ensures)) c.keep.ensures)

pub returns-clause-joined : goal.returns-clause-joined
returns-clause-joined c = c.join_kept.ensures.joined c.args.set.now.y (subst (λ (z : Option Kept). IsKeptOf c.args.plan.now c.args.b.now c.args.set.now.y z) (sym (c.index.ensures ∙ got_set c.args.self.now.kept.items c.place-at.result c.keep.new.kept _ c.place-at.ensures)) c.keep.ensures)

pub returns-clause-kept : goal.returns-clause-kept
returns-clause-kept c = kept_set c.args.plan.now c.args.b.now c.args.self.now.kept.items c.place-at.result c.args.set.now.y c.keep.new.kept c.place-at.ensures c.requires.kept c.keep.ensures
