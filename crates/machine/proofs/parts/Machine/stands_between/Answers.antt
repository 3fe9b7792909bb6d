use Rattle.machine.proofs.PutLaws.{stands-between}
use Rattle.machine.proofs.parts.Machine.stands_between.Goals as goal

pub processes_may_stand-requires : goal.processes_may_stand-requires
processes_may_stand-requires c = c.requires.standing.table

pub returns : goal.returns
returns c = stands-between c.args.self.now c.requires.standing c.requires.between c.processes_may_stand.ensures
