-- The phase begins with the accesses that the processes' waits hold.
use Rattle.std.proofs.Common.{◌∙◌, ◌++◌, map, sym, ap}
use Rattle.causal_monitor.specs.Notes.{noted_access}
use Rattle.process_table.specs.Arranged.{table_of}
use Rattle.machine_events.specs.Turns.{held_in}
use Rattle.machine_events.proofs.phases.begin_phase.Goals as goal

pub returns : goal.returns
returns c = λ machine first before kind begins log recorded turn time held.
    c.in_ok-begin_phase.ensures machine first before kind begins log recorded turn (time ∙ sym c.time.ensures)
    (ap (map noted_access) c.deref.ensures.value ∙ c.in_ok-note_held.ensures.accesses ∙ ap (λ xs. map noted_access xs ++ held_in (table_of c.args.table.now)) c.clear.ensures.accesses ∙ held)
