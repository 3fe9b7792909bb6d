-- Whether a process stands at one point twice (nothing of the language).
use Rattle.std.specs.Prelude.{◌≡◌, ℕ, List, [], ◌∷◌, Option}
use Rattle.vf_base.specs.Base.{SourcePlace}
use Rattle.v_design.specs.Assignments.{ValueUpdate}
use Rattle.process_code.specs.Points.{Point}
use Rattle.process_code.specs.declared.state.Stage.{Stage}
use Rattle.process_code.specs.declared.state.Stage.TheVariants.{Ready, Waiting, Asleep, Postponed, Done}

-- where updates are left, they are those of one assignment
abbrev pub IsSameAssignment : List (Option ValueUpdate) → Point → Point → Type 0
IsSameAssignment [] one other = Unit {0}
IsSameAssignment (update ∷ updates) one other = (one.place ≡ other.place) × (one.delay ≡ other.delay)

-- they stand at one position, with the same left: where no update is left, the place and the delay say nothing
abbrev pub StandsWith : Point → Point → Type 0
StandsWith one other =
    (one.position ≡ other.position) × (one.counts ≡ other.counts) × (one.operands ≡ other.operands) × (one.updates ≡ other.updates) × IsSameAssignment one.updates one other

-- one point: of a process that is done, nothing else matters
abbrev pub IsSameAt : Stage → Point → Point → Type 0
IsSameAt Done one other = Unit {0}
IsSameAt Ready one other = StandsWith one other
IsSameAt (Waiting at) one other = StandsWith one other
IsSameAt (Asleep time) one other = StandsWith one other
IsSameAt Postponed one other = StandsWith one other

abbrev pub IsSamePoint : Point → Point → Type 0
IsSamePoint one other = (one.stage ≡ other.stage) × IsSameAt other.stage one other
