use Rattle.std.proofs.Common.{◌∙◌, ◌<◌, ◌≤◌, ℕ, refl, arith}
use Rattle.std.specs.Prelude.{pos}
use Rattle.lane_paths.specs.Relaxations.{size_of}
use Rattle.lane_paths.proofs.ShortestLengthLaws.{taken, taken_within, taken_places, taken_less, passed_over, gone_on, places_same}
use Rattle.spot_terms.proofs.Orders.{true_not_false}
use Rattle.lane_paths.proofs.links.relax_next.Goals as goal

pub returns-in_default-clause-places : goal.returns-in_default-clause-places
returns-in_default-clause-places c = places_same c.args.net.now c.args.search.now _ refl refl c.in_default.ensures.same c.requires.places

pub returns-in_default-clause-none : goal.returns-in_default-clause-none
returns-in_default-clause-none c = λ e. c.in_default.ensures.same ∙ c.in_default.ensures.none

pub is_current-requires-clause-within : goal.is_current-requires-clause-within
is_current-requires-clause-within c = taken_within c.args.net.now c.in-Some.so_far c.in-Some.d c.args.search.now _ c.requires.places (taken c.in-Some.so_far c.in-Some.d c.args.search.now c.pop.new.self c.in-Some.ensures.some)

pub returns-then-not-is_current-clause-places : goal.returns-then-not-is_current-clause-places
returns-then-not-is_current-clause-places c = taken_places c.args.net.now c.in-Some.so_far c.in-Some.d c.args.search.now _ c.requires.places (taken c.in-Some.so_far c.in-Some.d c.args.search.now c.pop.new.self c.in-Some.ensures.some)

pub returns-then-not-is_current-clause-less : goal.returns-then-not-is_current-clause-less
returns-then-not-is_current-clause-less c = λ e. taken_less c.in-Some.so_far c.in-Some.d c.args.search.now _ (taken c.in-Some.so_far c.in-Some.d c.args.search.now c.pop.new.self c.in-Some.ensures.some)

pub returns-then-not-is_current-clause-under_way : goal.returns-then-not-is_current-clause-under_way
returns-then-not-is_current-clause-under_way c = λ p first. passed_over c.args.net.now p first c.in-Some.so_far c.in-Some.d c.args.search.now _ (taken c.in-Some.so_far c.in-Some.d c.args.search.now c.pop.new.self c.in-Some.ensures.some)
    (λ at. true_not_false c.is_current.result (c.is_current.ensures.1 at) c.if-not-is_current.true)

pub relax_entry-requires-clause-places : goal.relax_entry-requires-clause-places
relax_entry-requires-clause-places c = taken_places c.args.net.now c.in-Some.so_far c.in-Some.d c.args.search.now _ c.requires.places (taken c.in-Some.so_far c.in-Some.d c.args.search.now c.pop.new.self c.in-Some.ensures.some)

pub relax_entry-requires-clause-within : goal.relax_entry-requires-clause-within
relax_entry-requires-clause-within c =
    let low = taken_within c.args.net.now c.in-Some.so_far c.in-Some.d c.args.search.now _ c.requires.places (taken c.in-Some.so_far c.in-Some.d c.args.search.now c.pop.new.self c.in-Some.ensures.some) in
    let n = c.requires.places.count_is in
    omega (arith, low, n)

pub returns-clause-limit : goal.returns-clause-limit
returns-clause-limit c = (c.in_ok-relax_entry.ensures.relaxes (record { x = pos 0; y = pos 0 })).limit_same

pub returns-clause-less : goal.returns-clause-less
returns-clause-less c = λ e.
    let l = taken_less c.in-Some.so_far c.in-Some.d c.args.search.now _ (taken c.in-Some.so_far c.in-Some.d c.args.search.now c.pop.new.self c.in-Some.ensures.some) in
    let k = (c.in_ok-relax_entry.ensures.relaxes (record { x = pos 0; y = pos 0 })).smaller in
    below (size_of c.relax_entry.new.search) _ (size_of c.args.search.now) k l
  where
    below : (a b d : ℕ) → a ≤ b → b < d → a < d
    below a b d h g = omega arith

pub returns-clause-under_way : goal.returns-clause-under_way
returns-clause-under_way c = λ p first.
    gone_on c.args.net.now p first c.in-Some.so_far c.in-Some.d c.args.search.now _ c.relax_entry.new.search c.requires.places (taken c.in-Some.so_far c.in-Some.d c.args.search.now c.pop.new.self c.in-Some.ensures.some) (c.is_current.ensures.0 c.if-not-is_current.false) (c.in_ok-relax_entry.ensures.relaxes p)
