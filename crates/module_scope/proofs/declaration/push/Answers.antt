use Rattle.module_scope.proofs.Grouping.{adds-one}
use Rattle.module_scope.proofs.declaration.push.Goals as goal

pub returns-clause-grouped : goal.returns-clause-grouped
returns-clause-grouped c = adds-one c.args.declaration c.args.list.now.items c.push.new.self.items c.in_ok-push.ensures.items
