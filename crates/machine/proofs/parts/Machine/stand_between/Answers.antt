use Rattle.std.proofs.Common.{refl}
use Rattle.machine.proofs.PutLaws.{between-stands}
use Rattle.machine.proofs.parts.Machine.stand_between.Goals as goal

pub returns-clause-standing : goal.returns-clause-standing
returns-clause-standing c = between-stands c.args.self.now _ c.requires.cleared c.requires.state c.requires.notes refl refl refl refl refl refl
