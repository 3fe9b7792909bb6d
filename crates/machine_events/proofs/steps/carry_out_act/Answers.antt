-- A step that writes is finished by its write; one that reads is finished.
use Rattle.std.proofs.Common.{◌<◌, ◌∙◌, Some, length, sym, ap, subst}
use Rattle.vf_base.specs.Base.{object_number, process_number}
use Rattle.v_design.specs.Plain.{update_of}
use Rattle.net_state.specs.States.{values_in}
use Rattle.v_design.specs.Designs.{FlatDesign}
use Rattle.process_table.specs.Deeds.{read_by, written_by}
use Rattle.machine_events.specs.There.{TouchesBelow}
use Rattle.machine_events.proofs.Finished.{finish-write, finish-quiet}
use Rattle.machine_events.proofs.steps.carry_out_act.Goals as goal

pub write_update-requires-clause-object : goal.write_update-requires-clause-object
write_update-requires-clause-object c = subst (TouchesBelow (length (values_in c.args.nets.now))) c.in-Write.is c.requires.there

pub tell_read-requires-clause-object : goal.tell_read-requires-clause-object
tell_read-requires-clause-object c =
    subst (λ n. object_number c.in-Read.object < n) (c.requires.values ∙ ap (λ (d : FlatDesign). length d.objects) (sym c.requires.design))
    (subst (TouchesBelow (length (values_in c.args.nets.now))) c.in-Read.is c.requires.there)

pub returns-in_ok-write_update-in-Write : goal.returns-in_ok-write_update-in-Write
returns-in_ok-write_update-in-Write c =
    finish-write (process_number c.args.process) c.args.stepped.now (update_of c.in-Write.update) c.args.nets.now c.write_update.new.nets c.args.table.now c.write_update.new.table
    c.write_update.new.told
    (ap written_by (c.requires.act ∙ ap Some c.in-Write.is)) c.in_ok-write_update-in-Write.ensures

pub returns-in_ok-tell_read-in-Read : goal.returns-in_ok-tell_read-in-Read
returns-in_ok-tell_read-in-Read c =
    finish-quiet (process_number c.args.process) c.args.stepped.now c.args.nets.now c.args.table.now c.tell_read.new.told (Some (object_number c.in-Read.object))
    (ap written_by (c.requires.act ∙ ap Some c.in-Read.is)) (ap read_by (c.requires.act ∙ ap Some c.in-Read.is)) c.in_ok-tell_read-in-Read.ensures.tells
    c.in_ok-tell_read-in-Read.ensures.fits c.requires.kept
