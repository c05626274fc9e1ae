use Rattle.std.proofs.Common.{rules, ◌≡◌, ◌∙◌, ◌↔◌, ◌<◌, ◌≤◌, ◌+◌, ℕ, ℤ, pos, ◌≤ℤ◌, arith, refl, sym, ap, subst, length, List, [], ◌∷◌, ◌++◌, Option, Some, None, get_or, vec_capacity}
use Rattle.std.specs.Prelude.{slice_get}
use Rattle.std.proofs.lemmas.Option.{slice_get-get_or}
use Rattle.carve.specs.Linked.{AreLinked, AreSome}
use Rattle.carve.specs.Taking.{AreSpans, IsTaken, span_at, nowhere}
use Rattle.carve.specs.declared.linked.Link.{Link}
use Rattle.carve.specs.declared.runs.Span.{Span}
use Rattle.carve.proofs.Gathers.{sorted_exact, some_sorted, in_order}
use Rattle.carve.proofs.Linking.{all_read, linked_below, linked_one, none_of, read_less, read_more, read_room}
use Rattle.carve.proofs.linked.list_spans.Goals as goal

abbrev no_link : Link
no_link = record { span = nowhere; next = None }

pub loop-at-init : goal.loop-at-init
loop-at-init c = record {
  rest = (c.requires.linked.0, c.requires.linked.1, subst (λ (items : List Span). AreLinked c.args.links.now c.args.from (items ++ c.requires.linked.0)) (sym c.clear.ensures.items) c.requires.linked.1);
  capacity = omega (arith, c.clear.ensures.capacity);
}

pub bounds-links-i : goal.bounds-links-i
bounds-links-i c = linked_below c.args.links.now c.loop-at.at c.loop-at.invariant.rest.0 c.in-Some.i c.loop-at.invariant.rest.1 c.in-Some.is

pub offset_bounds-links-i : goal.offset_bounds-links-i
offset_bounds-links-i c =
    let below = linked_below c.args.links.now c.loop-at.at c.loop-at.invariant.rest.0 c.in-Some.i c.loop-at.invariant.rest.1 c.in-Some.is in
    search (rules, below)

got : (links : List Link) (at : Option ℕ) (i : ℕ) (rest : List Span) → AreLinked links at rest → at ≡ Some i → slice_get links i ≡ Some (get_or links i no_link)
got links at i rest h e = slice_get-get_or links i no_link (linked_below links at rest i h e)

pub push_span-requires : goal.push_span-requires
push_span-requires c =
    let rest = c.loop-at.invariant.rest in
    let below = read_room c.args.links.now c.loop-at.at c.args.from c.in-Some.i c.loop-at.spans.items rest.0 (get_or c.args.links.now c.in-Some.i no_link) c.in-Some.is
    (got c.args.links.now c.loop-at.at c.in-Some.i rest.0 rest.1 c.in-Some.is) rest.1 rest.2 c.requires.linked.0 (vec_capacity c.args.spans.now) c.requires.linked.1 c.requires.linked.3 in
    record { room = omega (arith, below, c.loop-at.invariant.capacity) }

pub loop-at-smaller : goal.loop-at-smaller
loop-at-smaller c =
    let rest = c.loop-at.invariant.rest in
    read_less c.args.links.now c.loop-at.at c.args.from c.in-Some.i c.loop-at.spans.items rest.0 (get_or c.args.links.now c.in-Some.i no_link) c.in-Some.is
    (got c.args.links.now c.loop-at.at c.in-Some.i rest.0 rest.1 c.in-Some.is) rest.1 rest.2

pub loop-at-preserved : goal.loop-at-preserved
loop-at-preserved c =
    let rest = c.loop-at.invariant.rest in
    record {
      rest = read_more c.args.links.now c.loop-at.at c.args.from c.in-Some.i c.loop-at.spans.items rest.0 (get_or c.args.links.now c.in-Some.i no_link) c.in-Some.is
          (got c.args.links.now c.loop-at.at c.in-Some.i rest.0 rest.1 c.in-Some.is) rest.1 rest.2 c.push_span.new.spans.items c.push_span.ensures.items;
      capacity = omega (arith, c.loop-at.invariant.capacity, c.push_span.ensures.capacity);
    }

pub returns-clause-spans : goal.returns-clause-spans
returns-clause-spans c =
    let rest = c.loop-at.invariant.rest in
    let all = all_read c.args.links.now c.loop-at.at c.args.from c.loop-at.spans.items rest.0 (none_of c.loop-at.at c.in_default.not-Some) rest.1 rest.2 in
    let same = linked_one c.args.links.now c.requires.linked.0 c.loop-at.spans.items c.args.from c.requires.linked.1 all in
    some_sorted c.loop-at.spans.items c.sort_unstable.new.self.items (subst (λ (zs : List Span). AreSome zs) same c.requires.linked.2) c.sort_unstable.ensures.permutation
    (λ k m. in_order (span_at c.sort_unstable.new.self.items (k + 1)) (span_at c.sort_unstable.new.self.items k) (c.sort_unstable.ensures.sorted k nowhere (omega arith) m))

pub returns-clause-same : goal.returns-clause-same
returns-clause-same c = λ all h x.
    let rest = c.loop-at.invariant.rest in
    let read = all_read c.args.links.now c.loop-at.at c.args.from c.loop-at.spans.items rest.0 (none_of c.loop-at.at c.in_default.not-Some) rest.1 rest.2 in
    let same = linked_one c.args.links.now c.loop-at.spans.items all c.args.from read h in
    subst (λ (zs : List Span). IsTaken zs x ↔ IsTaken c.sort_unstable.new.self.items x) same (sorted_exact c.loop-at.spans.items c.sort_unstable.new.self.items c.sort_unstable.ensures.permutation x)

pub returns-clause-count : goal.returns-clause-count
returns-clause-count c = λ all h.
    let rest = c.loop-at.invariant.rest in
    let read = all_read c.args.links.now c.loop-at.at c.args.from c.loop-at.spans.items rest.0 (none_of c.loop-at.at c.in_default.not-Some) rest.1 rest.2 in
    let same = linked_one c.args.links.now c.loop-at.spans.items all c.args.from read h in
    let long : length c.loop-at.spans.items ≡ length all = ap length same in
    omega (arith, long, c.sort_unstable.ensures.len)

pub returns-clause-capacity : goal.returns-clause-capacity
returns-clause-capacity c = omega (arith, c.loop-at.invariant.capacity, c.sort_unstable.ensures.capacity)
