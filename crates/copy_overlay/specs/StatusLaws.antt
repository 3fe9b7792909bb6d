-- How a run goes on beside the good machine's (runs by IEEE 1364-2001, clause 9).
use Rattle.std.proofs.Common.{◌≡◌, ◌≢◌, ℕ, ◌+◌, List, [], ◌∷◌, ◌++◌, refl, ap, sym, subst, ◌∙◌}
use Rattle.std.specs.Prelude.{Some, None}
use Rattle.std.proofs.lemmas.List.{append_assoc, length-append}
use Rattle.v_design.specs.Designs.{FlatProcess}
use Rattle.v_design.specs.Processes.{Activity}
use Rattle.v_design.specs.OwnSteps.{StepSeen, ProcessRun}
use Rattle.copy_laws.specs.SharedRuns.{AreStepsFrom, IsRunFrom, RunsGoAlike, activity_after}
use Rattle.copy_laws.specs.OwnRuns.{OwnRunsCount}
use Rattle.copy_overlay.specs.Statuses.{IsFollowing, AllCount, gone_on}

-- the beginning of some steps
first-steps : (source : FlatProcess) (time : ℕ) (activity : Activity) (steps : List StepSeen) (seen : StepSeen) (rest : List StepSeen) →
    AreStepsFrom source time activity (steps ++ seen ∷ rest) → AreStepsFrom source time activity (steps ++ seen ∷ [])
first-steps source time activity [] seen [] are = are
first-steps source time activity [] seen (next ∷ rest) are = are.0
first-steps source time activity (one ∷ []) seen rest are = (are.0, are.1, first-steps source time (activity_after one) [] seen rest are.2)
first-steps source time activity (one ∷ two ∷ steps) seen rest are = (are.0, are.1, first-steps source time (activity_after one) (two ∷ steps) seen rest are.2)

-- a run that begins as the good machine's follows it
pub follows-begin : (good : ProcessRun) → IsFollowing good (record { begins = good.begins; steps = [] }) 0
follows-begin good = record { begins = refl; later = good.steps; steps = refl; count_is = refl }

-- a step of a following run is the good machine's next one, but for the value that it reads
pub next-step : (source : FlatProcess) (time : ℕ) (good run : ProcessRun) (count : ℕ) (seen other : StepSeen) (rest : List StepSeen) (follows : IsFollowing good run count) →
    RunsGoAlike → IsRunFrom source time good → follows.later ≡ other ∷ rest → AreStepsFrom source time run.begins (run.steps ++ seen ∷ []) → seen.step ≡ other.step
next-step source time good run count seen other rest follows alike is_run next steps =
    let whole : AreStepsFrom source time run.begins (run.steps ++ other ∷ rest) =
    subst (λ (l : List StepSeen). AreStepsFrom source time run.begins (run.steps ++ l)) next
    (subst (λ (l : List StepSeen). AreStepsFrom source time run.begins l) follows.steps (subst (λ (a : Activity). AreStepsFrom source time a good.steps) follows.begins is_run)) in
    alike source time run.begins run.steps seen other steps (first-steps source time run.begins run.steps other rest whole)

same-seen : (seen other : StepSeen) → seen.step ≡ other.step → seen.read ≡ other.read → seen ≡ other
same-seen seen other step read = λ i. record { step = step i; read = read i }

-- where it reads what that one read it follows on
pub follows-on : (source : FlatProcess) (time : ℕ) (good run : ProcessRun) (count : ℕ) (seen other : StepSeen) (rest : List StepSeen) (follows : IsFollowing good run count) →
    RunsGoAlike → IsRunFrom source time good → follows.later ≡ other ∷ rest → AreStepsFrom source time run.begins (run.steps ++ seen ∷ []) → seen.read ≡ other.read →
    IsFollowing good (gone_on run (seen ∷ [])) (count + 1)
follows-on source time good run count seen other rest follows alike is_run next steps read =
    let same = same-seen seen other (next-step source time good run count seen other rest follows alike is_run next steps) read in
    record {
      begins = follows.begins;
      later = rest;
      steps =
          follows.steps ∙ ap (λ (l : List StepSeen). run.steps ++ l) (next ∙ ap (λ (s : StepSeen). s ∷ rest) (sym same))
          ∙ sym (append_assoc run.steps (seen ∷ []) rest);
      count_is = length-append run.steps (seen ∷ []) ∙ ap (λ n. n + 1) follows.count_is;
    }

-- and where it doesn't all its steps count
pub follows-no_more : (good run : ProcessRun) (count : ℕ) (seen other : StepSeen) (rest : List StepSeen) (follows : IsFollowing good run count) →
    OwnRunsCount → follows.later ≡ other ∷ rest → seen.read ≢ other.read → AllCount (Some good) (gone_on run (seen ∷ []))
follows-no_more good run count seen other rest follows counts next read more own counted =
    counts.steps good (gone_on (gone_on run (seen ∷ [])) more) own run.steps rest more other seen (follows.steps ∙ ap (λ (l : List StepSeen). run.steps ++ l) next)
    (append_assoc run.steps (seen ∷ []) more) (λ same. read (ap (λ (s : StepSeen). s.read) (sym same))) counted

-- a run of a number of which the good machine has none, and one that begins otherwise
pub alone-counts : (run : ProcessRun) → OwnRunsCount → AllCount None run
alone-counts run counts more own counted = counts.alone (gone_on run more) own counted

pub begun-counts : (good run : ProcessRun) → OwnRunsCount → good.begins ≢ run.begins → AllCount (Some good) run
begun-counts good run counts differ more own counted = counts.begins good (gone_on run more) own differ counted
