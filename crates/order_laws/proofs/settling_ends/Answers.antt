-- The laws are proved in `SlotsEnd` and `FirstOrder.SlotMoves`.
use Rattle.order_laws.proofs.SlotsEnd.{settling_ends}
use Rattle.order_laws.proofs.FirstOrder.SlotMoves.{first_events}
use Rattle.order_laws.proofs.settling_ends.Goals as goal

pub returns-clause-settle : goal.returns-clause-settle
returns-clause-settle c = settling_ends

pub returns-clause-first : goal.returns-clause-first
returns-clause-first c = first_events
