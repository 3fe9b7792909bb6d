-- The law is proved in `NodeRests`.
use Rattle.order_laws.proofs.NodeRests.{rest_on_inputs}
use Rattle.order_laws.proofs.nodes_rest.Goals as goal

pub returns : goal.returns
returns c = λ machine number node one other rules at fit fits agree. (rest_on_inputs machine rules).rests number node one other at fit fits agree
