use Rattle.std.proofs.Common.{rules, refl}
use Rattle.event_causes.specs.CauseLaws.{AreCausesOf-phase}
use Rattle.event_causes.proofs.causes.Causes.begin_phase.Goals as goal

pub returns-clause-causes : goal.returns-clause-causes
returns-clause-causes c = λ machine earlier had. AreCausesOf-phase machine earlier c.args.self.now _ had refl refl (search rules) refl refl refl
