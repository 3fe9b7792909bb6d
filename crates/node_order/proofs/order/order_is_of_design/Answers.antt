use Rattle.node_order.specs.OrderLaws.{nodes-give-design}
use Rattle.node_order.proofs.order.order_is_of_design.Goals as goal

pub returns : goal.returns
returns c = nodes-give-design
