-- What both came back with.
use Rattle.std.proofs.Common.{subst, rules}
use Rattle.std.specs.Prelude.{IfOk}
use Rattle.fault_shards.specs.Shards.{representatives_of}
use Rattle.shard_crew.specs.Crews.{CrewRose}
use Rattle.shard_rounds.specs.Rounds.{RunsOn}
use contract.Lifetimes.{Lfts}
use denote.Param.{param}
use denote.Param.Send.{IsSend, IsSync, param_send, arg_send, recorded_send, struct_send, shr_send, mut_send, mut_slice_send}
use Rattle.std.proofs.Crossing as std
use Rattle.vf_base.proofs.steps.Steps.TheSendSync as steps_crosses
use Rattle.shard_crew.proofs.shard_claims.worker.Worker.TheSendSync as worker_crosses
use Rattle.shard_crew.proofs.shard_turns.backups.BackupSeat.TheSendSync as seat_crosses
use Rattle.shard_crew.proofs.Crossing.{option_send, round_sync}
use Rattle.shard_rounds.proofs.step.go_round.Given.{Over}
use Rattle.shard_rounds.proofs.step.go_round.Lts.{arg-0-1}
use Rattle.shard_rounds.proofs.step.go_round.Goals as goal

captured_send : (g : Over) (κs : Lfts 20) → IsSend (param 0 g.row.N) → IsSync (param 0 g.row.N) → IsSync (param 1 g.row.R) → IsSync (param 2 g.row.G) → IsSend (param 3 g.row.L) →
    IsSend (arg-0-1 g.row.N g.row.R g.row.G g.row.L g.N.laws g.R.laws g.G.laws g.L.laws g.N.World g.N.World-dict g.R.Threads g.R.Threads-dict g.G.Gate g.G.Gate-dict
    g.L.Ledger g.L.Ledger-dict κs)
captured_send g κs sn yn yr yg sl = search (arg_send, recorded_send, struct_send, shr_send, mut_send, mut_slice_send, option_send, round_sync, worker_crosses.the_send, seat_crosses.the_send, steps_crosses.the_send, std.sync, std.Vec-send) depth 20

pub join_mut-a-requires-send-F : goal.join_mut-a-requires-send-F
join_mut-a-requires-send-F g c κs _ =
    param_send 1 _ (captured_send g κs c.type_bounds.send-N c.type_bounds.sync-N c.type_bounds.sync-R c.type_bounds.sync-G c.type_bounds.send-L)

pub returns-clause-next : goal.returns-clause-next
returns-clause-next g c =
    let went : RunsOn g.N.World.design g.N.World.plan c.args.ahead.now.run.gone c.ahead-1.given.0.run c.in_ok-next.next = search rules in
    subst (λ n. RunsOn g.N.World.design g.N.World.plan n c.ahead-1.given.0.run c.in_ok-next.next) c.requires.run.0 went

pub returns-clause-ticks : goal.returns-clause-ticks
returns-clause-ticks g c =
    let rose : IfOk c.join_mut-a.result.0 (λ after. CrewRose g.N.World.design g.N.World.plan (representatives_of c.args.round.now.shards.now) c.args.round.now.window.now.before
    c.args.round.now.window.now.through c.args.workers.now.items c.workers-1.given.0.items after c.args.steps.now c.steps-1.given.0) = search rules in
    subst (λ r. IfOk r (λ after. CrewRose g.N.World.design g.N.World.plan (representatives_of c.args.round.now.shards.now) c.args.round.now.window.now.before c.args.round.now.window.now.through
    c.args.workers.now.items c.workers-1.given.0.items after c.args.steps.now c.steps-1.given.0)) c.in_ok-backup.was rose
