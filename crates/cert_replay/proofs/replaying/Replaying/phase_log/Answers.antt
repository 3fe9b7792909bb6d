-- The last log is that of the replay's phase.
use Rattle.std.proofs.Common.{◌-◌, List, length, get_or, ap, sym, subst, ◌∙◌, arith}
use Rattle.causal_monitor.specs.Phases.{PhaseOfSlot, IsLogOf}
use Rattle.cert_replay.proofs.Turning.{some-logged, last-logged}
use Rattle.cert_replay.proofs.replaying.Replaying.phase_log.Goals as goal

pub overflow_sub-result : goal.overflow_sub-result
overflow_sub-result c = omega (arith, some-logged c.args.self.now c.requires, ap length c.as_slice-phases.ensures)

pub bounds-phases-phases : goal.bounds-phases-phases
bounds-phases-phases c = omega (arith, some-logged c.args.self.now c.requires, ap length c.as_slice-phases.ensures)

pub returns-clause-log : goal.returns-clause-log
returns-clause-log c = λ machine replay h.
    last-logged machine replay c.args.self.now c.index-phases-phases.result h
    (c.index-phases-phases.is ∙ ap (λ (l : List PhaseOfSlot). get_or l (length l - 1) c.index-phases-phases.result) c.as_slice-phases.ensures)

pub returns-clause-named : goal.returns-clause-named
returns-clause-named c = λ machine replay h.
    subst (IsLogOf machine.design)
    (sym (last-logged machine replay c.args.self.now c.index-phases-phases.result h
    (c.index-phases-phases.is ∙ ap (λ (l : List PhaseOfSlot). get_or l (length l - 1) c.index-phases-phases.result) c.as_slice-phases.ensures))) h.names
