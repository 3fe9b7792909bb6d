use Rattle.std.proofs.Common.{ap, ◌∙◌, map}
use Rattle.std.specs.Prelude.{ℕ, List}
use Rattle.vf_base.specs.Base.{process_number}
use Rattle.v_design.specs.Plain.{due_of}
use Rattle.v_design.specs.States.{LaterUpdate}
use Rattle.v_design.specs.declared.plan.Due.{Due}
use Rattle.copy_state.specs.Entries.{with_entry}
use Rattle.copy_state.specs.Kept.{CopyKept, updates_of}
use Rattle.copy_state.specs.EntryLaws.{with-each}
use Rattle.copy_state.proofs.copy.FaultCopy.hold_updates.Goals as goal

pub returns-clause-ok : goal.returns-clause-ok
returns-clause-ok c =
    let updates =
    ap updates_of c.in_ok-put.ensures.ok
    ∙ with-each (λ (process : ℕ) (own : List Due). map due_of own) (process_number c.args.process) c.from_vec.result c.self.inside.updates
    ∙ ap (λ (l : List Due). with_entry (process_number c.args.process) (map due_of l) (updates_of c.self.inside.updates)) c.from_vec.ensures in
    ap
    (λ (l : List (ℕ × List LaterUpdate)). record (record { fault = c.self.inside.fault.0; values = c.self.inside.values; states = c.self.inside.states; updates = updates_of c.self.inside.updates })
    { updates = l })
    updates
    ∙ ap (λ (k : CopyKept). record k { updates = with_entry (process_number c.args.process) (map due_of c.args.own.items) k.updates }) c.self.view_is
