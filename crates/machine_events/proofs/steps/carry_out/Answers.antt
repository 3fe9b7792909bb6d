-- A step that touches an object is finished by that; any other tells its wait.
use Rattle.std.proofs.Common.{None, length, ap, subst}
use Rattle.std.specs.Prelude.{Option, IfSome}
use Rattle.vf_base.specs.Base.{process_number}
use Rattle.net_state.specs.States.{values_in}
use Rattle.process_table.specs.declared.deed.Act.{Act}
use Rattle.process_table.specs.Deeds.{read_by, written_by}
use Rattle.machine_events.specs.There.{TouchesBelow}
use Rattle.machine_events.proofs.Finished.{finish-quiet}
use Rattle.machine_events.proofs.steps.carry_out.Goals as goal

pub carry_out_act-requires-clause-there : goal.carry_out_act-requires-clause-there
carry_out_act-requires-clause-there c = subst (λ (o : Option Act). IfSome o (TouchesBelow (length (values_in c.args.nets.now)))) c.in-Some.is c.requires.there

pub returns-in_ok-tell_wait-in-None : goal.returns-in_ok-tell_wait-in-None
returns-in_ok-tell_wait-in-None c =
    finish-quiet (process_number c.args.process) c.args.stepped.now c.args.nets.now c.args.table.now c.tell_wait.new.told None (ap written_by c.in-None.is)
    (ap read_by c.in-None.is) c.in_ok-tell_wait-in-None.ensures.tells
    c.in_ok-tell_wait-in-None.ensures.fits c.requires.kept
