use Rattle.std.proofs.Common.{get_or, length}
use Rattle.std.proofs.lemmas.Option.{slice_get-get_or}
use Rattle.lanelets.specs.Listing.{AreBelow}
use Rattle.lanelets.proofs.LevelLaws.{noted_rest, noted_within, on_from}
use Rattle.lanelets.proofs.Places.{all_got}
use Rattle.lanelets.proofs.levels.lower_next.Goals as goal

pub returns-clause-noted : goal.returns-clause-noted
returns-clause-noted c =
    let many = length c.args.numbers.now in
    noted_within c.list_at.result.now (get_or c.args.numbers.now c.in-Some.c 0) many c.args.numbers.now c.pop.new.self.items c.lower_row.new.numbers c.lower_row.new.noted.items c.in_ok-lower_row.ensures
    (all_got (AreBelow many) c.args.pairs.now c.in-Some.c c.list_at.result.now c.requires.pairs c.list_at.ensures)
    (noted_rest many c.in-Some.c c.args.noted.now.items c.pop.new.self.items c.in-Some.ensures.items c.requires.noted).0

pub returns-clause-under_way : goal.returns-clause-under_way
returns-clause-under_way c = λ first i u.
    let low = (noted_rest (length c.args.numbers.now) c.in-Some.c c.args.noted.now.items c.pop.new.self.items c.in-Some.ensures.items c.requires.noted).1 in
    on_from c.args.pairs.now first i c.in-Some.c (get_or c.args.numbers.now c.in-Some.c 0) c.list_at.result.now c.args.numbers.now c.args.noted.now.items c.pop.new.self.items c.lower_row.new.numbers c.lower_row.new.noted.items
    c.list_at.ensures (slice_get-get_or c.args.numbers.now c.in-Some.c 0 low) c.in-Some.ensures.items c.in_ok-lower_row.ensures u
