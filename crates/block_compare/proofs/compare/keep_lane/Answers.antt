-- No process, or the one.
use Rattle.std.proofs.Common.{◌≡◌, ◌<◌, ◌∷◌, [], true, sym, ap, subst, ◌∙◌}
use Rattle.std.specs.Prelude.{IfOk, Option}
use Rattle.vf_base.specs.Base.{process_number}
use Rattle.vf_base.specs.Lists.{has}
use Rattle.vf_base.specs.declared.ids.ProcId.{ProcId}
use Rattle.moment_shown.specs.lockstep_compare.Among.{AreWritesKeptAmong}
use Rattle.moment_shown.specs.lockstep_exchange.Putting.{lane_numbers}
use Rattle.block_compare.proofs.Same.{all-so}
use Rattle.block_compare.proofs.Kept.{none-kept}
use Rattle.block_compare.proofs.compare.keep_lane.Goals as goal

pub returns-in_default : goal.returns-in_default
returns-in_default g c = λ yes.
    subst (λ (l : Option ProcId). AreWritesKeptAmong (g.G.Processes.writes c.args.good.now) (g.F.Processes.writes c.args.faulty.now) (lane_numbers l) c.args.own.now c.args.own.now)
    (sym c.in_default.is) (none-kept (g.G.Processes.writes c.args.good.now) (g.F.Processes.writes c.args.faulty.now) c.args.own.now)

pub keep_all_writes-requires-clause-good : goal.keep_all_writes-requires-clause-good
keep_all_writes-requires-clause-good g c =
    all-so (λ process. process < g.G.Processes.count c.args.good.now) (process_number c.in-Some.process ∷ [])
    (λ process there. c.requires.good process (ap (λ (l : Option ProcId). has (lane_numbers l) process) c.in-Some.is ∙ there))

pub keep_all_writes-requires-clause-faulty : goal.keep_all_writes-requires-clause-faulty
keep_all_writes-requires-clause-faulty g c =
    all-so (λ process. process < g.F.Processes.count c.args.faulty.now) (process_number c.in-Some.process ∷ [])
    (λ process there. c.requires.faulty process (ap (λ (l : Option ProcId). has (lane_numbers l) process) c.in-Some.is ∙ there))

pub returns : goal.returns
returns g c =
    subst
    (λ (l : Option ProcId).
    IfOk c.keep_all_writes.result
    (λ goes.
    goes ≡ true →
    AreWritesKeptAmong (g.G.Processes.writes c.args.good.now) (g.F.Processes.writes c.args.faulty.now) (lane_numbers l) c.args.own.now c.keep_all_writes.new.own)) (sym c.in-Some.is)
    c.keep_all_writes.ensures
