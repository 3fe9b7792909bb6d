use Rattle.std.proofs.Common.{ap, sym, ◌∙◌}
use Rattle.v_names.specs.FaultLaws.{first_of}
use Rattle.v_names.specs.Readings.{group_faults}
use Rattle.name_checks.specs.Noted.{noted_is}
use Rattle.item_checks.proofs.groups.note_group.Goals as goal

pub returns : goal.returns
returns c here inside are = c.note_if_some.ensures ∙ ap (first_of c.args.first.now) (c.apart-group.ensures here inside are).inside_is ∙ sym (noted_is c.args.first.now (group_faults here inside))
