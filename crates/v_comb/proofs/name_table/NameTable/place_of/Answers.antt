use Rattle.std.proofs.Common.{◌∙◌}
use Rattle.v_comb.proofs.Tables.{place-keys}
use Rattle.v_comb.proofs.name_table.NameTable.place_of.Goals as goal

pub returns : goal.returns
returns c = rw (← c.self.view_is) (c.get_index_of.ensures.index ∙ place-keys c.args.name.now c.self.inside.names.keys)
