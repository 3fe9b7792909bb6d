use Rattle.std.proofs.Common.{◌∙◌}
use Rattle.v_comb.proofs.Tables.{has-keys}
use Rattle.v_comb.proofs.name_table.NameTable.has.Goals as goal

pub returns : goal.returns
returns c = rw (← c.self.view_is) (c.contains.ensures ∙ has-keys c.args.name.now c.self.inside.names.keys)
