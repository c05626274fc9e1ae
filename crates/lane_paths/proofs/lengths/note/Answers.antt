use Rattle.std.proofs.Common.{◌∙◌, ap, inl, not, refl, [], ◌∷◌}
use Rattle.std.specs.Prelude.{None}
use Rattle.spot_terms.proofs.ListLemmas.{includes_back, includes_front}
use Rattle.lane_paths.proofs.ReachedLists.{is_noted}
use Rattle.lane_paths.proofs.lengths.note.Goals as goal

pub returns-in_ok-push-clause-kept : goal.returns-in_ok-push-clause-kept
returns-in_ok-push-clause-kept c = rw c.in_ok-push.ensures.items (λ i k. includes_front c.args.reached.now.items (c.args.number ∷ []) i k)

pub returns-in_ok-push-clause-here : goal.returns-in_ok-push-clause-here
returns-in_ok-push-clause-here c = rw c.in_ok-push.ensures.items (includes_back c.args.reached.now.items (c.args.number ∷ []) c.args.number (inl refl))

pub returns-else-is_none-clause-here : goal.returns-else-is_none-clause-here
returns-else-is_none-clause-here c = is_noted c.args.lengths.now c.args.reached.now.items c.args.number None c.requires.within (c.is_none.ensures ∙ ap not c.if-is_none.false) c.requires.noted
