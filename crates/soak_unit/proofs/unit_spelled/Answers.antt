-- The law is proved in `Spelled`.
use Rattle.soak_unit.proofs.Spelled.{texts-spell}
use Rattle.soak_unit.proofs.unit_spelled.Goals as goal

pub returns : goal.returns
returns c = texts-spell
