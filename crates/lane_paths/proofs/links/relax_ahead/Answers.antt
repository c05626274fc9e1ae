use Rattle.std.proofs.Common.{[], ◌<◌, length}
use Rattle.spot_terms.specs.Cells.{cells}
use Rattle.spot_terms.specs.Network.{IsAhead}
use Rattle.spot_terms.proofs.Places.{all_at}
use Rattle.lane_paths.specs.Waypoints.{LinksToEntries}
use Rattle.lane_paths.proofs.LinkLaws.{no_entries, entries_more, entries_all}
use Rattle.lane_paths.proofs.RelaxLaws.{relaxes_none}
use Rattle.lane_paths.proofs.links.relax_ahead.Goals as goal

pub loop-d-init : goal.loop-d-init
loop-d-init c = (c.requires.places, λ p i d w all. relaxes_none (LinksToEntries c.args.net.now p i d []) c.args.from.now.length c.args.search.now (no_entries c.args.net.now p i d))

pub relax_to-requires-clause-places : goal.relax_to-requires-clause-places
relax_to-requires-clause-places c = c.loop-d.invariant.0

pub relax_to-requires-clause-within : goal.relax_to-requires-clause-within
relax_to-requires-clause-within c = all_at (λ d. d < length (cells c.args.net.now)) c.args.ahead.now c.loop-d.d-index 0 c.requires.within c.loop-d-test.true

pub loop-d-preserved : goal.loop-d-preserved
loop-d-preserved c = (
  c.in_ok-relax_to.ensures.places,
  λ p i d w all.
      entries_more c.args.net.now p i d c.loop-d.d-index c.args.from.now.length c.args.ahead.now c.args.search.now c.loop-d.search c.relax_to.new.search c.loop-d-test.true (c.loop-d.invariant.1 p i d w all)
      (c.in_ok-relax_to.ensures.relaxes p i d w (all_at (IsAhead c.args.net.now (cells c.args.net.now) d) c.args.ahead.now c.loop-d.d-index 0 all c.loop-d-test.true)),
)

pub returns-clause-relaxes : goal.returns-clause-relaxes
returns-clause-relaxes c = λ p i d w all. entries_all c.args.net.now p i d c.loop-d.d-index c.args.from.now.length c.args.ahead.now c.args.search.now c.loop-d.search c.loop-d-test.false (c.loop-d.invariant.1 p i d w all)
