use Rattle.std.proofs.Common.{◌∙◌, ap, sym}
use Rattle.std.specs.Prelude.{Some}
use Rattle.lanelets.proofs.Places.{read_at}
use Rattle.lanelets.proofs.numbers.list_at.Goals as goal

pub returns : goal.returns
returns c = read_at c.args.lists.now c.args.k c.index-lists-k.result c.requires c.index-lists-k.is ∙ ap (λ l. Some l) (sym c.list.ensures)
