-- The laws are proved in `Writes`.
use Rattle.race_laws.proofs.Writes.{writes_stay, next_writes}
use Rattle.race_laws.proofs.writes_stay.Goals as goal

pub returns-clause-stay : goal.returns-clause-stay
returns-clause-stay c = writes_stay

pub returns-clause-next : goal.returns-clause-next
returns-clause-next c = next_writes
