use Rattle.std.proofs.Common.{ap, sym, ◌∙◌, map}
use Rattle.std.specs.Prelude.{ℕ, List, Some, option_map}
use Rattle.vf_base.specs.Base.{process_number}
use Rattle.v_design.specs.Plain.{due_of}
use Rattle.v_design.specs.declared.plan.Due.{Due}
use Rattle.copy_laws.specs.Differences.{own_of}
use Rattle.copy_state.specs.Kept.{CopyKept}
use Rattle.copy_state.specs.EntryLaws.{own-each}
use Rattle.copy_state.proofs.copy.FaultCopy.updates.Goals as goal

pub returns-in-None : goal.returns-in-None
returns-in-None c =
    ap (option_map (map due_of)) c.in-None.ensures
    ∙ sym (own-each (λ (process : ℕ) (own : List Due). map due_of own) (process_number c.args.process) c.self.inside.updates)
    ∙ ap (λ (k : CopyKept). own_of k.updates (process_number c.args.process)) c.self.view_is

pub returns-in-Some : goal.returns-in-Some
returns-in-Some c =
    ap (λ (l : List Due). Some (map due_of l)) c.as_slice.ensures
    ∙ ap (option_map (map due_of)) c.in-Some.ensures
    ∙ sym (own-each (λ (process : ℕ) (own : List Due). map due_of own) (process_number c.args.process) c.self.inside.updates)
    ∙ ap (λ (k : CopyKept). own_of k.updates (process_number c.args.process)) c.self.view_is
