use Rattle.std.proofs.Common.{rules, ◌≡◌, ◌∙◌, refl, sym, Bool, true, false}
use Rattle.std.specs.Prelude.{not}
use Rattle.std.proofs.lemmas.Bool.Decides.{Decides-int_eq}
use Rattle.std.proofs.lemmas.Slice.Eq.{slice_eq-Decides}
use Rattle.merge_sets.proofs.planes.set_plane.Goals as goal

-- what isn't unequal is equal
yes : (b : Bool) → not b ≡ false → b ≡ true
yes true h = refl
yes false h = cc

pub returns-else-ne-clause-numbers : goal.returns-else-ne-clause-numbers
returns-else-ne-clause-numbers c = (slice_eq-Decides Decides-int_eq c.args.plane.now.numbers.n c.args.numbers.now.n _ refl).0 (yes _ (sym c.ne.ensures ∙ c.if-ne.false))
