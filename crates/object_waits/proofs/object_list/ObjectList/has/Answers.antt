use Rattle.std.proofs.Common.{ap, ◌∙◌}
use Rattle.vf_base.specs.Lists.{has}
use Rattle.object_waits.proofs.Firsts.{has-keys}
use Rattle.object_waits.proofs.object_list.ObjectList.has.Goals as goal

pub returns : goal.returns
returns c = c.contains.ensures ∙ (has-keys c.args.object.0 c.self.inside.objects.keys ∙ ap (λ l. has l c.args.object.0) c.self.view_is)
