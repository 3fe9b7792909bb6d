use Rattle.std.proofs.Common.{is_none, ap, sym, ◌∙◌}
use Rattle.v_names.proofs.PlaceLaws.{unknown-number}
use Rattle.v_names.proofs.constant_place.is_unknown.Goals as goal

pub returns-in-None : goal.returns-in-None
returns-in-None c = ap is_none (sym c.in-None.is ∙ c.as_number.ensures) ∙ unknown-number c.args.value

pub returns-in-Some : goal.returns-in-Some
returns-in-Some c = ap is_none (sym c.in-Some.is ∙ c.as_number.ensures) ∙ unknown-number c.args.value
