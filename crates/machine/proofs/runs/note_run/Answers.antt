-- Where it wasn't kept where the process stood, nothing is to be noted.
use Rattle.std.proofs.Common.{◌≡◌, ◌∙◌, sym}
use Rattle.std.specs.Prelude.{Option, None, Some}
use Rattle.process_code.specs.declared.state.ProcState.{ProcState}
use Rattle.machine.proofs.runs.note_run.Goals as goal

pub returns-in-None : goal.returns-in-None
returns-in-None c = λ machine before phase notes stands values step numbered.
    absurd (let none : ◌≡◌ {A = Option ProcState} None (Some stands.stands) = sym c.in-None.is ∙ stands.found_is in cc)
