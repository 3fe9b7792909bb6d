use Rattle.std.proofs.Common.{map, subst}
use Rattle.std.specs.Prelude.{ℕ, List}
use Rattle.v_design.specs.Plain.{due_of}
use Rattle.v_design.specs.declared.plan.Due.{Due}
use Rattle.copy_laws.specs.Differences.{Ascend}
use Rattle.copy_state.specs.Kept.{CopyKept}
use Rattle.copy_state.specs.EntryLaws.{ascend-each}
use Rattle.copy_state.proofs.copy.FaultCopy.ascending.Goals as goal

pub returns-clause-updates : goal.returns-clause-updates
returns-clause-updates c =
    subst (λ (k : CopyKept). Ascend k.updates) c.self.view_is
    (ascend-each (λ (process : ℕ) (own : List Due). map due_of own) c.self.inside.updates c.ascending-3.ensures)
