-- Told accesses and causes.
use Rattle.std.proofs.Common.{◌≡◌, ℕ, Bool, false, List, [], ◌∷◌, map, sym, subst, ◌∙◌}
use Rattle.vf_base.specs.Lists.{AllHold}
use Rattle.v_design.specs.Designs.{good_machine}
use Rattle.v_design.specs.Accesses.{AccessAct, ObjectAccess}
use Rattle.v_design.specs.PhaseLogs.{log_of}
use Rattle.block_filter.specs.Blocks.{all_accesses}
use Rattle.block_told.specs.Tells.{Seen, access_seen, noted_seen, TellsBlock}
use Rattle.block_changes.specs.Changes.{CausesAreTold}
use Rattle.own_told.specs.Told.{ToldPassesNone, CausesAgree}

all-seen : (test : ℕ → AccessAct → Bool) (accesses : List ObjectAccess) → AllHold (λ (seen : Seen). test seen.object seen.act ≡ false) (map access_seen accesses) →
    AllHold (λ (access : ObjectAccess). test access.object access.act ≡ false) accesses
all-seen test [] all = tt
all-seen test (access ∷ accesses) all = (all.0, all-seen test accesses all.1)

pub told_passes_none : ToldPassesNone
told_passes_none test machine begins events told tells none =
    all-seen test (all_accesses (log_of machine begins events)) (subst (AllHold (λ (seen : Seen). test seen.object seen.act ≡ false)) tells.accesses none)

pub causes_agree : CausesAreTold → CausesAgree
causes_agree causes design fault good faulty ones others told tells alike = record {
  steps = λ process. causes.steps (good_machine design) good ones process ∙ sym (alike.processes process) ∙ sym (tells.steps process);
  lanes = λ process. causes.lanes (good_machine design) good ones process ∙ sym (alike.lanes process) ∙ sym (tells.lanes process);
}
