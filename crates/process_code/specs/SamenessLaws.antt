-- At one point a process does one thing (nothing of the language).
use Rattle.std.proofs.Common.{◌≡◌, ℕ, List, [], ◌∷◌, Option, refl, sym, ap, subst, ◌∙◌, get_or}
use Rattle.vf_base.specs.Base.{SourcePlace}
use Rattle.four_value.specs.Values.{LogicValue}
use Rattle.v_design.specs.Assignments.{ValueUpdate}
use Rattle.v_design.specs.Processes.{Task}
use Rattle.v_design.specs.Processes as activities
use Rattle.process_code.specs.Rests.{Part, tasks_of}
use Rattle.process_code.specs.Points.{Point, updates_left, tasks_at, wait_place, wait_entries, activity_at, activity_by}
use Rattle.process_code.specs.StepLaws.{updates_left-none}
use Rattle.process_code.specs.Sameness.{IsSameAssignment, StandsWith, IsSameAt, IsSamePoint}
use Rattle.process_code.specs.declared.state.Stage.{Stage}
use Rattle.process_code.specs.declared.state.Stage.TheVariants.{Ready, Waiting, Asleep, Postponed, Done}

-- the tasks of equal updates before equal tasks
updates_left-same : (updates : List (Option ValueUpdate)) (one other : Point) (tasks : List Task) → IsSameAssignment updates one other →
    updates_left one.place one.delay updates tasks ≡ updates_left other.place other.delay updates tasks
updates_left-same [] one other tasks h = updates_left-none one.place one.delay tasks ∙ sym (updates_left-none other.place other.delay tasks)
updates_left-same (update ∷ updates) one other tasks h =
    ap (λ place. updates_left place one.delay (update ∷ updates) tasks) h.0 ∙ ap (λ delay. updates_left other.place delay (update ∷ updates) tasks) h.1

tasks_at-same : (rests : List (List Part)) (one other : Point) → StandsWith one other → tasks_at rests one ≡ tasks_at rests other
tasks_at-same rests one other h =
    updates_left-same one.updates one other (tasks_of one.counts (get_or rests one.position [])) h.4
    ∙ ap (λ updates. updates_left other.place other.delay updates (tasks_of one.counts (get_or rests one.position []))) h.3
    ∙ ap (λ counts. updates_left other.place other.delay other.updates (tasks_of counts (get_or rests one.position []))) h.1
    ∙ ap (λ position. updates_left other.place other.delay other.updates (tasks_of other.counts (get_or rests position []))) h.0

activity_by-same : (rests : List (List Part)) (one other : Point) (stage : Stage) → IsSameAt stage one other → activity_by rests one stage ≡ activity_by rests other stage
activity_by-same rests one other Ready h = let t = tasks_at-same rests one other h in ap (λ tasks. activities.Ready tasks one.operands) t ∙ ap (activities.Ready (tasks_at rests other)) h.2
activity_by-same rests one other (Waiting at) h = ap (activities.Waiting (wait_place (get_or rests at [])) (wait_entries (get_or rests at []))) (tasks_at-same rests one other h)
activity_by-same rests one other (Asleep time) h = ap (activities.Asleep time) (tasks_at-same rests one other h)
activity_by-same rests one other Postponed h = ap activities.Postponed (tasks_at-same rests one other h)
activity_by-same rests one other Done h = refl

-- at one point a process does one thing
pub activity-same : (rests : List (List Part)) (one other : Point) → IsSamePoint one other → activity_at rests one ≡ activity_at rests other
activity-same rests one other h = ap (activity_by rests one) h.0 ∙ activity_by-same rests one other other.stage h.1

-- of a process that is done nothing else matters
pub same-done : (one other : Point) → one.stage ≡ other.stage → one.stage ≡ Done → IsSamePoint one other
same-done one other e done = (e, subst (λ (stage : Stage). IsSameAt stage one other) (sym (sym e ∙ done)) tt)

same-live : (stage : Stage) (one other : Point) → (stage ≡ Done → ⊥) → (StandsWith one other → IsSameAt stage one other) × (IsSameAt stage one other → StandsWith one other)
same-live Ready one other live = (λ h. h, λ h. h)
same-live (Waiting at) one other live = (λ h. h, λ h. h)
same-live (Asleep time) one other live = (λ h. h, λ h. h)
same-live Postponed one other live = (λ h. h, λ h. h)
same-live Done one other live = absurd (live refl)

-- any other has to stand with the other one
pub same-standing : (one other : Point) → one.stage ≡ other.stage → (one.stage ≡ Done → ⊥) → StandsWith one other → IsSamePoint one other
same-standing one other e live h = (e, (same-live other.stage one other (λ done. live (e ∙ done))).0 h)

pub standing-same : (one other : Point) → (one.stage ≡ Done → ⊥) → IsSamePoint one other → StandsWith one other
standing-same one other live h = (same-live other.stage one other (λ done. live (h.0 ∙ done))).1 h.1
