use Rattle.std.proofs.Common.{ap, ◌∙◌, map}
use Rattle.std.specs.Prelude.{ℕ, List}
use Rattle.vf_base.specs.Base.{process_number}
use Rattle.v_design.specs.Plain.{due_of}
use Rattle.v_design.specs.States.{LaterUpdate}
use Rattle.v_design.specs.declared.plan.Due.{Due}
use Rattle.copy_state.specs.Entries.{without_entry}
use Rattle.copy_state.specs.Kept.{CopyKept, updates_of}
use Rattle.copy_state.specs.EntryLaws.{without-each}
use Rattle.copy_state.proofs.copy.FaultCopy.drop_updates.Goals as goal

pub returns : goal.returns
returns c =
    let updates = ap updates_of c.take_out.ensures ∙ without-each (λ (process : ℕ) (own : List Due). map due_of own) (process_number c.args.process) c.self.inside.updates in
    ap (λ (l : List (ℕ × List LaterUpdate)). record (record {
      fault = c.self.inside.fault.0;
      values = c.self.inside.values;
      states = c.self.inside.states;
      updates = updates_of c.self.inside.updates;
    }) { updates = l }) updates
    ∙ ap (λ (k : CopyKept). record k { updates = without_entry (process_number c.args.process) k.updates }) c.self.view_is
