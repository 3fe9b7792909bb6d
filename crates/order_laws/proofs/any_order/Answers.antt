-- The laws are proved in `AnyOrder`.
use Rattle.order_laws.proofs.AnyOrder.{phases_stay_free, any_order}
use Rattle.order_laws.proofs.any_order.Goals as goal

pub returns-clause-stays : goal.returns-clause-stays
returns-clause-stays c = phases_stay_free

pub returns-clause-first : goal.returns-clause-first
returns-clause-first c = any_order
