-- A claimed race is looked for in the phase.
use Rattle.std.proofs.Common.{refl}
use Rattle.cert_runs.proofs.Looking.{looks-at}
use Rattle.cert_runs.proofs.search.Search.look.Goals as goal

pub returns-in-Samples : goal.returns-in-Samples
returns-in-Samples c = looks-at c.args.replaying.now c.args.self.now _ _ c.in-Samples.is refl (λ machine replay h. refl)

pub returns-in_ok-found-in-Conflict : goal.returns-in_ok-found-in-Conflict
returns-in_ok-found-in-Conflict c = looks-at c.args.replaying.now c.args.self.now _ _ c.in-Conflict.is refl c.in_ok-found-in-Conflict.ensures

pub returns-in-Nothing : goal.returns-in-Nothing
returns-in-Nothing c = looks-at c.args.replaying.now c.args.self.now _ _ c.in-Nothing.is refl (λ machine replay h. refl)
