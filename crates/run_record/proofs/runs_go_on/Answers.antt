-- The laws are proved in `Noted`.
use Rattle.run_record.proofs.Noted.{events-note-nothing, phases-note-nothing, slots-begin-notes, slots-end-notes}
use Rattle.run_record.proofs.runs_go_on.Goals as goal

pub returns-clause-events : goal.returns-clause-events
returns-clause-events c =
    events-note-nothing (record { steps = c.own_runs.ensures.steps; runs = c.own_runs.ensures.runs; ready = c.own_runs.ensures.ready; time = c.own_runs.ensures.time; leads = c.present_runs_lead.ensures })

pub returns-clause-phases : goal.returns-clause-phases
returns-clause-phases c =
    phases-note-nothing (record { steps = c.own_runs.ensures.steps; runs = c.own_runs.ensures.runs; ready = c.own_runs.ensures.ready; time = c.own_runs.ensures.time; leads = c.present_runs_lead.ensures })

pub returns-clause-begin : goal.returns-clause-begin
returns-clause-begin c = slots-begin-notes

pub returns-clause-end : goal.returns-clause-end
returns-clause-end c =
    slots-end-notes (record { steps = c.own_runs.ensures.steps; runs = c.own_runs.ensures.runs; ready = c.own_runs.ensures.ready; time = c.own_runs.ensures.time; leads = c.present_runs_lead.ensures })
