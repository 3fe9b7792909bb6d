-- The law is proved in `FirstOrder.ReportLines`.
use Rattle.order_laws.proofs.FirstOrder.ReportLines.{nothing_before}
use Rattle.order_laws.proofs.nothing_before.Goals as goal

pub returns : goal.returns
returns c = nothing_before
