use Rattle.std.proofs.Common.{is_some, ap, ◌∙◌}
use Rattle.elab_wires.specs.IndexLaws.{key-there}
use Rattle.elab_wires.proofs.writers.PortWriters.has.Goals as goal

pub returns : goal.returns
returns c = rw (← c.self.view_is) (c.is_some.ensures ∙ ap is_some c.first.ensures ∙ key-there c.self.inside.into c.args.name.now)
