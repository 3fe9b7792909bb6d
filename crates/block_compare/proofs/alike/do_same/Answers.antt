-- One process more does the same.
use Rattle.std.proofs.Common.{◌∙◌}
use Rattle.vf_base.specs.Base.{process_number}
use Rattle.vf_base.specs.declared.ids.ProcId.{ProcId}
use Rattle.runner_writes.specs.block_events.Runners.{state_of}
use Rattle.block_compare.specs.Comparing.{DoesSame}
use Rattle.block_compare.proofs.Same.{all-taken, one-more, one-there}
use Rattle.block_compare.proofs.alike.do_same.Goals as goal

abbrev none : ProcId
none = record { 0 = 0 }

pub does_same-requires-clause-there : goal.does_same-requires-clause-there
does_same-requires-clause-there c = c.requires.there _ (one-there process_number c.args.processes.now c.processes.place none c.processes-test.true)

pub processes-preserved : goal.processes-preserved
processes-preserved c = λ state shown.
    one-more process_number (DoesSame state (state_of c.args.runner.now)) c.args.processes.now c.processes.place none c.processes-test.true (c.processes.invariant state shown)
    (c.does_same.ensures c.if-not-does_same.false state shown)

pub returns : goal.returns
returns c = λ yes state shown process there.
    c.processes.invariant state shown process (all-taken process_number c.args.processes.now c.processes.place process c.processes-test.false ∙ there)
