use Rattle.std.proofs.Common.{inl, refl, [], ◌∷◌}
use Rattle.spot_terms.proofs.ListLemmas.{includes_back, includes_front}
use Rattle.lane_paths.proofs.lengths.add_below.Goals as goal

pub returns-in_ok-push-clause-kept : goal.returns-in_ok-push-clause-kept
returns-in_ok-push-clause-kept c = rw c.in_ok-push.ensures.items (λ i k. includes_front c.args.cells.now.items (c.args.number ∷ []) i k)

pub returns-in_ok-push-clause-here : goal.returns-in_ok-push-clause-here
returns-in_ok-push-clause-here c = λ low. rw c.in_ok-push.ensures.items (includes_back c.args.cells.now.items (c.args.number ∷ []) c.args.number (inl refl))
