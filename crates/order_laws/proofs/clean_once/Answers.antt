-- The law is proved in `Projection`.
use Rattle.order_laws.proofs.Projection.{clean_nets_change_once}
use Rattle.order_laws.proofs.clean_once.Goals as goal

pub returns : goal.returns
returns c = clean_nets_change_once
