-- A step of a process is finished: what it writes is written, and what it does is told (IEEE 1364-2001, clauses 5 and 9).
use Rattle.std.proofs.Common.{◌≡◌, ℕ, List, [], ◌++◌, map, refl, sym, ap, subst, ◌∙◌}
use Rattle.std.specs.Prelude.{Option, Some, None}
use Rattle.vf_base.specs.Base.{object_number, process_number}
use Rattle.v_design.specs.Designs.{Machine}
use Rattle.v_design.specs.Assignments.{ValueUpdate}
use Rattle.v_design.specs.Processes.{Action, ReadsObject, WritesObject, AppendsUpdate, TouchesNothing}
use Rattle.v_design.specs.States.{State, Step, write_of, step_of}
use Rattle.v_design.specs.Accesses.{ObjectAccess, action_accesses, waiting_entries, await_accesses}
use Rattle.net_state.specs.declared.state.NetState.{NetState}
use Rattle.process_table.specs.declared.table.ProcessTable.{ProcessTable}
use Rattle.process_table.specs.declared.deed.Stepped.{Stepped}
use Rattle.process_table.specs.Deeds.{read_of, read_by, written_by}
use Rattle.process_table.specs.Tables.{process_in}
use Rattle.process_table.specs.Arranged.{IsKept, table_of}
use Rattle.machine_laws.specs.StepTells.{TellsStep, gone_on, write-step-after, write-step-told, quiet-step-after, quiet-step-told}
use Rattle.machine_events.specs.declared.told.Told.{Told}
use Rattle.machine_events.specs.Parts.{FitsDesign, AreBothOf, WritesUpdate}
use Rattle.machine_events.specs.StepDeeds.{read_accesses, entry_accesses, TellsQuiet, IsStepped, CarriesOut}

-- the values, the nodes and the processes are those in the midst of the step
amid : (machine : Machine) (state : State) (process : ℕ) (stepped : Stepped) (nets : NetState) (table : ProcessTable) → IsStepped machine state process stepped nets table →
    AreBothOf machine (gone_on machine process state) nets table
amid machine state process stepped nets table is =
    record { machine_is = is.machine_is; nets_are = record { values = is.nets_are.values; nodes = is.nets_are.nodes }; table_is = is.step.after }

-- a step that writes
pub finish-write : (process : ℕ) (stepped : Stepped) (update : ValueUpdate) (nets_old nets_new : NetState) (table_old table_new : ProcessTable) (told : Told) → written_by stepped.act ≡ Some update →
    WritesUpdate update process stepped.line nets_old nets_new table_old table_new told → CarriesOut process stepped nets_old nets_new table_old table_new told
finish-write process stepped update nets_old nets_new table_old table_new told says wrote = record {
  kept = wrote.kept;
  fits = wrote.fits;
  happens = λ machine state is.
      let write : write_of (step_of machine state process).action ≡ Some update = sym is.step.write ∙ says in
      let mid = amid machine state process stepped nets_old table_old is in
      record {
        both = subst (λ s. AreBothOf machine s nets_new table_new) (sym (write-step-after machine state process update write)) (wrote.both machine (gone_on machine process state) mid);
        tells = write-step-told machine state process stepped.line update _ _ _ is.ready is.step.line write (wrote.tells machine (gone_on machine process state) mid);
      };
}

read-accesses : (machine : Machine) (process line : ℕ) (action : Action) (state : State) → write_of action ≡ None →
    read_accesses process line (read_of action) ≡ action_accesses machine process line action state
read-accesses machine process line (ReadsObject object) state e = refl
read-accesses machine process line (WritesObject update) state e = cc
read-accesses machine process line (AppendsUpdate delay update) state e = refl
read-accesses machine process line TouchesNothing state e = refl

told-nothing : (machine : Machine) (state : State) (process line : ℕ) (accesses : List ObjectAccess) (told : Told) → told.changed.items ≡ [] → told.ended.items ≡ [] →
    TellsStep machine state (Step process) line accesses [] [] →
    TellsStep machine state (Step process) line accesses (map object_number told.changed.items) (map process_number told.ended.items)
told-nothing machine state process line accesses told changed ended is =
    subst (λ l. TellsStep machine state (Step process) line accesses l (map process_number told.ended.items)) (sym (ap (map object_number) changed))
    (subst (λ l. TellsStep machine state (Step process) line accesses [] l) (sym (ap (map process_number) ended)) is)

-- a step that writes nothing
pub finish-quiet : (process : ℕ) (stepped : Stepped) (nets : NetState) (table : ProcessTable) (told : Told) (read : Option ℕ) → written_by stepped.act ≡ None → read_by stepped.act ≡ read →
    TellsQuiet process stepped.line read (waiting_entries (process_in (table_of table) process).activity) told → FitsDesign (table_of table).design told → IsKept table →
    CarriesOut process stepped nets nets table table told
finish-quiet process stepped nets table told read says reads tells fits kept = record {
  kept = kept;
  fits = fits;
  happens = λ machine state is.
      let write : write_of (step_of machine state process).action ≡ None = sym is.step.write ∙ says in
      record {
        both = subst (λ s. AreBothOf machine s nets table) (sym (quiet-step-after machine state process write)) (amid machine state process stepped nets table is);
        tells = told-nothing machine state process stepped.line _ told tells.changed tells.ended
            (quiet-step-told machine state process stepped.line _ is.ready is.step.line write
            (tells.accesses
            ∙ (λ i. read_accesses process stepped.line ((sym reads ∙ is.step.read) i) ++ entry_accesses process stepped.line (is.step.entries i))
            ∙ ap (λ l. l ++ await_accesses process stepped.line (step_of machine state process).next) (read-accesses machine process stepped.line (step_of machine state process).action state write)));
      };
}
