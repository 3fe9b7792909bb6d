-- The law is proved in `FirstOrder.ReportLines`.
use Rattle.order_laws.proofs.FirstOrder.ReportLines.{orders_exist}
use Rattle.order_laws.proofs.orders_exist.Goals as goal

pub returns : goal.returns
returns c = orders_exist
