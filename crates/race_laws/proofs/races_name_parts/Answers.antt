-- The law is proved in `Races`.
use Rattle.race_laws.proofs.Races.{races_name_parts}
use Rattle.race_laws.proofs.races_name_parts.Goals as goal

pub returns : goal.returns
returns c = races_name_parts c.grades.ensures
