use Rattle.std.proofs.Common.{ap, sym, ◌∙◌, map}
use Rattle.std.specs.Prelude.{ℕ, List}
use Rattle.vf_base.specs.Base.{process_number}
use Rattle.v_design.specs.Plain.{due_of}
use Rattle.v_design.specs.declared.plan.Due.{Due}
use Rattle.copy_state.specs.Entries.{first_from}
use Rattle.copy_state.specs.Kept.{CopyKept}
use Rattle.copy_state.specs.EntryLaws.{first-each}
use Rattle.copy_state.proofs.copy.FaultCopy.next_updates.Goals as goal

pub returns : goal.returns
returns c =
    c.next.ensures ∙ sym (first-each (λ (process : ℕ) (own : List Due). map due_of own) (process_number c.args.from) c.self.inside.updates)
    ∙ ap (λ (k : CopyKept). first_from (process_number c.args.from) k.updates) c.self.view_is
