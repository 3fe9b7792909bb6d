use Rattle.net_state.specs.HeldLaws.{least-event, least-there}
use Rattle.net_state.proofs.state.NetState.least_node.Goals as goal

pub returns-clause-least : goal.returns-clause-least
returns-clause-least c = least-event c.least_marked.result c.args.self.now.objects.settle.marks.items c.least_marked.ensures.least

pub returns-clause-there : goal.returns-clause-there
returns-clause-there c = least-there c.least_marked.result c.args.self.now.objects.settle.marks.items c.least_marked.ensures.least
