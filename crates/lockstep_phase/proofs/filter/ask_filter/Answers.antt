-- The filter is asked where the fault goes.
use Rattle.std.proofs.Common.{refl}
use Rattle.lockstep_phase.proofs.filter.ask_filter.Goals as goal

pub returns-then-not-goes : goal.returns-then-not-goes
returns-then-not-goes g c = record { same = refl; before = λ goes. goes; free = λ goes. let no : ⊥ = cc in absurd no }

pub returns : goal.returns
returns g c = record { same = refl; before = λ free. c.if-not-goes.false; free = c.is_free-free.ensures }
