use Rattle.std.proofs.Common.{◌∙◌, sym, ap}
use Rattle.std.specs.Option.{option_copied}
use Rattle.row_showing.proofs.Successive.{no_way}
use Rattle.row_showing.proofs.several.way_at.Goals as goal

pub returns-in-None : goal.returns-in-None
returns-in-None c = c.requires ∙ sym (no_way c.args.show.now c.in-Each.ways c.args.before c.in-Each.is (sym c.get.ensures.value ∙ ap option_copied c.in-None.is))
