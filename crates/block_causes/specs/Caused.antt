-- Stretches of a phase that have the causes of their events: from a moment at which no node has work on (causes by IEEE 1364-2001, clause 5).
use Rattle.std.specs.Prelude.{◌≡◌, ◌⊎◌, false, List, ◌∷◌, ◌++◌, None, IsTrue}
use Rattle.vf_base.specs.Lists.{AllHold}
use Rattle.v_design.specs.Designs.{Machine}
use Rattle.v_design.specs.States.{State, Event, Step, LaneStep, Evaluation, NetUpdate, process_at, is_ready}
use Rattle.v_design.specs.Runs.{work_of, happened, all_possible}
use Rattle.v_design.specs.WellFormed.{KeepsRules}
use Rattle.v_design.specs.Laws.{BeginsPhase}
use Rattle.v_design.specs.PhaseLogs.{noted_events}
use Rattle.block_filter.specs.Blocks.{HasCause, HasCauseIfNode, AllLaterHold}

-- some events of a phase, behind earlier ones after which no node has work
pub record IsFromRest (machine : Machine) (begins : State) (before events : List Event) : Type 0 where
  pub rules : KeepsRules machine.design
  pub asked : BeginsPhase machine begins
  pub possible : IsTrue (all_possible machine begins (before ++ events))
  pub rests : work_of 0 (happened machine begins before).nodes ≡ None

-- an event behind a first one that has its cause with it: a further step of the first one's process or lane, a step of a process that wasn't ready at the beginning, or a node event
abbrev pub IsFollowing : State → Event → Event → Type 0
IsFollowing state first (Step process) = (first ≡ Step process) ⊎ (is_ready (process_at state process).activity ≡ false)
IsFollowing state first (LaneStep process) = first ≡ LaneStep process
IsFollowing state first (Evaluation node) = Unit {0}
IsFollowing state first (NetUpdate node) = Unit {0}

-- The laws

-- each node event of such a stretch has its cause there
abbrev pub StretchesAreCaused : Type 0
StretchesAreCaused =
    (machine : Machine) (begins : State) (before events : List Event) → IsFromRest machine begins before events →
    AllHold HasCauseIfNode (noted_events machine (happened machine begins before) events)

-- and each event behind the first one has, where it follows that one
abbrev pub BlocksAreCaused : Type 0
BlocksAreCaused =
    (machine : Machine) (begins : State) (before : List Event) (first : Event) (events : List Event) → IsFromRest machine begins before (first ∷ events) →
    AllHold (IsFollowing (happened machine begins before) first) events → AllLaterHold HasCause (noted_events machine (happened machine begins before) (first ∷ events))
