-- Each number of the list is that of a process.
use Rattle.std.proofs.Common.{◌<◌, length, ℕ}
use Rattle.vf_base.specs.Base.{process_number}
use Rattle.event_queue.proofs.Places.{AllHold-at}
use Rattle.event_queue.proofs.processes.free_each.Goals as goal

pub hold-requires : goal.hold-requires
hold-requires c =
    let Below : ℕ → Type 0 = λ n. (n < length c.loop-process.processes) in
    AllHold-at Below process_number c.args.freed.now c.loop-process.process-index (record { 0 = 0 })
    (rw c.loop-process.auto.processes c.requires) c.loop-process-test.true
