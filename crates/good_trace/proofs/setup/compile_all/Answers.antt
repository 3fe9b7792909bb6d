use Rattle.std.proofs.Common.{◌+◌, sym, subst, take}
use Rattle.std.proofs.lemmas.List.{take_all}
use Rattle.good_trace.specs.Setups.{AreCompiled}
use Rattle.good_trace.proofs.Growing.{AreCompiled-more}
use Rattle.good_trace.proofs.setup.compile_all.Goals as goal

pub processes-preserved : goal.processes-preserved
processes-preserved c =
    subst (AreCompiled (take (c.processes.process-index + 1) c.args.processes.now)) (sym c.in_ok-push.ensures.items)
    (AreCompiled-more c.args.processes.now c.processes.process-index c.process-item.result c.processes.codes.items c.in_ok-code.code c.processes-test.true c.process-item.is c.processes.invariant
    c.in_ok-code.ensures)

pub returns : goal.returns
returns c = subst (λ l. AreCompiled l c.processes.codes.items) (take_all c.processes.process-index c.args.processes.now c.processes-test.false) c.processes.invariant
