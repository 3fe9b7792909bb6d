-- What own writes reach is unread.
use Rattle.std.proofs.Common.{sym, ◌∙◌}
use Rattle.vf_base.specs.Base.{object_number}
use Rattle.lockstep_filter.proofs.objects.is_reached_net.Goals as goal

pub returns : goal.returns
returns g c = λ yes. c.requires.unread (object_number c.args.object) (sym c.contains.ensures ∙ yes) (sym c.is_net_of.ensures ∙ c.if-not-is_net_of.false)
