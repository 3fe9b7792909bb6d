-- What the queue holds and what the processes wait for are so at each place.
use Rattle.std.proofs.Common.{sym, subst}
use Rattle.v_design.specs.PlainDesigns.{design_of}
use Rattle.v_design.specs.States.{ProcessState}
use Rattle.event_queue.specs.Queues.{WakesAfter}
use Rattle.process_table.specs.Puts.{MayStand}
use Rattle.process_table.proofs.Changed.{holding-at, after-at, waits-at}
use Rattle.process_table.proofs.TableCalls.{process-row}
use Rattle.process_table.proofs.table.ProcessTable.processes_may_stand.Goals as goal

pub returns : goal.returns
returns c number =
    let t = c.args.self.now in
    let design = design_of t.design.now in
    subst (λ (process : ProcessState). MayStand design t.time number process) (sym (process-row design t.time t.rows.items t.index t.ready t.lanes t.queue c.requires number))
    (record {
      waits = waits-at design t.time t.rows.items t.index t.ready t.lanes t.queue c.requires number;
      after = (
        subst (WakesAfter t.time) (holding-at design t.time t.rows.items t.index t.ready t.lanes t.queue c.requires number)
            (after-at design t.time t.rows.items t.index t.ready t.lanes t.queue c.requires number).0,
        (after-at design t.time t.rows.items t.index t.ready t.lanes t.queue c.requires number).1,
      );
    })
