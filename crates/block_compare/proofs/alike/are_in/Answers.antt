-- One process more is in one of them.
use Rattle.std.proofs.Common.{◌≡◌, map, true, ◌||◌, sym, ◌∙◌}
use Rattle.vf_base.specs.Base.{process_number}
use Rattle.vf_base.specs.Lists.{has}
use Rattle.vf_base.specs.declared.ids.ProcId.{ProcId}
use Rattle.block_compare.proofs.Same.{all-taken, one-more}
use Rattle.block_compare.proofs.alike.are_in.Goals as goal

abbrev none : ProcId
none = record { 0 = 0 }

pub processes-preserved : goal.processes-preserved
processes-preserved c =
    one-more process_number (λ process. (has (map process_number c.args.one.now) process || has (map process_number c.args.other.now) process) ≡ true) c.args.some.now c.processes.place none
    c.processes-test.true c.processes.invariant (sym c.is_in.ensures ∙ c.if-not-is_in.false)

pub returns : goal.returns
returns c = λ yes process there. c.processes.invariant process (all-taken process_number c.args.some.now c.processes.place process c.processes-test.false ∙ there)
