-- Processes that become ready where they stand (processes by IEEE 1364-2001, clause 9; waits by clause 9.7).
use Rattle.std.proofs.Common.{◌≡◌, ℕ, List, [], ◌∷◌, Bool, true, false, cond, ◌&&◌, ◌||◌, refl, sym, ap, subst, ◌∙◌}
use Rattle.four_value.specs.Values.{LogicValue}
use Rattle.v_design.specs.Designs.{FlatDesign, Machine}
use Rattle.v_design.specs.Processes.{Activity}
use Rattle.v_design.specs.Processes as activities
use Rattle.v_design.specs.States.{State, Event, after, process_at, is_ready, resumed, awake_at}
use Rattle.v_design.specs.Accesses.{is_waiting}
use Rattle.v_design.specs.PhaseLogs.{is_step_of}
use Rattle.copy_laws.specs.QuietPhases.{ends_its_wait}
use Rattle.process_code.specs.Codes.{rests_in_code}
use Rattle.process_code.specs.Rests.{Part}
use Rattle.process_code.specs.Points.{Point, point_of, activity_at, activity_by, activity_of}
use Rattle.process_code.specs.Reached.{StopsWith}
use Rattle.process_code.specs.StatesOf.{IsStateOf}
use Rattle.process_code.specs.declared.state.ProcState.{ProcState}
use Rattle.process_code.specs.declared.state.Stage.{Stage}
use Rattle.process_code.specs.declared.state.Stage.TheVariants.{Ready, Waiting, Asleep, Postponed, Done}
use Rattle.good_trace.specs.RunsKept.{Stands}
use Rattle.block_changes.specs.Changes.{ends_wait_of, steps_process}
use Rattle.block_states.specs.Leaving.{wait_ended}
use Rattle.block_states.proofs.Woken.{stays-so}
use Rattle.moment_parts.specs.Within.{IsReadied, IsWokenIf}
use Rattle.moment_parts.specs.Turned.{at_postponed, at_end_of_sleep}

-- A wait that ends

or-neither : (a b : Bool) → (a || b) ≡ false → (a ≡ false) × (b ≡ false)
or-neither true b e = cc
or-neither false b e = (refl, e)

and-left : (a b : Bool) → (a && b) ≡ true → a ≡ true
and-left true b e = refl
and-left false b e = cc

-- a process that takes no step in some events, and whose wait one of them ends, waits at first
pub waits-there : (machine : Machine) (state : State) (events : List Event) (p : ℕ) → steps_process events p ≡ false → ends_wait_of machine state events p ≡ true →
    is_waiting (process_at state p).activity ≡ true
waits-there machine state [] p none ends = cc
waits-there machine state (event ∷ events) p none ends = go (ends_its_wait machine state event p) refl ends (waits-there machine (after machine state event) events p parts.1)
  where
    parts : (is_step_of p event ≡ false) × (steps_process events p ≡ false)
    parts = or-neither (is_step_of p event) (steps_process events p) none

    go : (b : Bool) → ends_its_wait machine state event p ≡ b → (b || ends_wait_of machine (after machine state event) events p) ≡ true →
        (ends_wait_of machine (after machine state event) events p ≡ true → is_waiting (process_at (after machine state event) p).activity ≡ true) → is_waiting (process_at state p).activity ≡ true
    go true e f rest = and-left (is_waiting (process_at state p).activity) (is_ready (process_at (after machine state event) p).activity) e
    go false e f rest =
        let same : (process_at (after machine state event) p).activity ≡ (process_at state p).activity =
        stays-so machine state (event ∷ []) p (ap (λ b. b || false) parts.0) (ap (λ b. b || false) e) in
        sym (ap is_waiting same) ∙ rest f

-- Where it stands then

waiting-ready : (rests : List (List Part)) (old new : Point) (stage : Stage) → old.stage ≡ stage → StopsWith rests stage old.operands → new ≡ record old { stage = Ready } →
    is_waiting (activity_by rests old stage) ≡ true → activity_at rests new ≡ wait_ended (activity_by rests old stage)
waiting-ready rests old new Ready at stops is waits = cc
waiting-ready rests old new (Waiting place) at stops is waits =
    ap (activity_at rests) is ∙ ap (λ (o : List LogicValue). activity_at rests (record old { stage = Ready; operands = o })) stops.0
waiting-ready rests old new (Asleep time) at stops is waits = cc
waiting-ready rests old new Postponed at stops is waits = cc
waiting-ready rests old new Done at stops is waits = cc

-- a process that waited and is made ready stands where its wait has ended
pub readied-stands : (design : FlatDesign) (p : ℕ) (activity : Activity) (old new : ProcState) → Stands design p activity old → is_waiting activity ≡ true → IsReadied old new →
    Stands design p (wait_ended activity) new
readied-stands design p activity old new stands waits readied = record {
  state_of = λ code at. readied.state_of code (stands.state_of code at);
  does = λ code at.
      let does : activity_of code old ≡ activity = stands.does code at in
      waiting-ready (rests_in_code code) (point_of old) (point_of new) old.stage refl (stands.state_of code at).reached.stops readied.point (ap is_waiting does ∙ waits)
      ∙ ap wait_ended does;
}

-- a postponed process that is made ready, and one that isn't postponed
postponed-ready : (rests : List (List Part)) (old new : Point) (stage : Stage) → old.stage ≡ stage → StopsWith rests stage old.operands → new ≡ record old { stage = Ready } →
    at_postponed stage ≡ true → activity_at rests new ≡ resumed (activity_by rests old stage)
postponed-ready rests old new Ready at stops is e = cc
postponed-ready rests old new (Waiting place) at stops is e = cc
postponed-ready rests old new (Asleep time) at stops is e = cc
postponed-ready rests old new Postponed at stops is e = ap (activity_at rests) is ∙ ap (λ (o : List LogicValue). activity_at rests (record old { stage = Ready; operands = o })) stops
postponed-ready rests old new Done at stops is e = cc

postponed-not : (rests : List (List Part)) (old : Point) (stage : Stage) → at_postponed stage ≡ false → activity_by rests old stage ≡ resumed (activity_by rests old stage)
postponed-not rests old Ready e = refl
postponed-not rests old (Waiting place) e = refl
postponed-not rests old (Asleep time) e = refl
postponed-not rests old Postponed e = cc
postponed-not rests old Done e = refl

pub resumed-stands : (design : FlatDesign) (p : ℕ) (activity : Activity) (old new : ProcState) → Stands design p activity old → IsWokenIf (at_postponed old.stage) old new →
    Stands design p (resumed activity) new
resumed-stands design p activity old new stands woken = go (at_postponed old.stage) refl woken
  where
    go : (b : Bool) → at_postponed old.stage ≡ b → IsWokenIf b old new → Stands design p (resumed activity) new
    go true e readied = record {
      state_of = λ code at. readied.state_of code (stands.state_of code at);
      does = λ code at.
          postponed-ready (rests_in_code code) (point_of old) (point_of new) old.stage refl (stands.state_of code at).reached.stops readied.point e ∙ ap resumed (stands.does code at);
    }
    go false e same = record {
      state_of = λ code at. subst (IsStateOf code) (sym same) (stands.state_of code at);
      does = λ code at.
          ap (activity_of code) same ∙ postponed-not (rests_in_code code) (point_of old) old.stage e ∙ ap resumed (stands.does code at);
    }

-- the same of one that sleeps
slept-ready : (rests : List (List Part)) (now : ℕ) (old new : Point) (stage : Stage) → old.stage ≡ stage → StopsWith rests stage old.operands → new ≡ record old { stage = Ready } →
    at_end_of_sleep now stage ≡ true → activity_at rests new ≡ awake_at now (activity_by rests old stage)
slept-ready rests now old new Ready at stops is e = cc
slept-ready rests now old new (Waiting place) at stops is e = cc
slept-ready rests now old new (Asleep time) at stops is e =
    ap (activity_at rests) is ∙ ap (λ (o : List LogicValue). activity_at rests (record old { stage = Ready; operands = o })) stops
    ∙ sym (ap (λ b. cond b (activity_at rests (record old { stage = Ready; operands = [] })) (activity_by rests old (Asleep time))) e)
slept-ready rests now old new Postponed at stops is e = cc
slept-ready rests now old new Done at stops is e = cc

slept-not : (rests : List (List Part)) (now : ℕ) (old : Point) (stage : Stage) → at_end_of_sleep now stage ≡ false → activity_by rests old stage ≡ awake_at now (activity_by rests old stage)
slept-not rests now old Ready e = refl
slept-not rests now old (Waiting place) e = refl
slept-not rests now old (Asleep time) e =
    sym (ap (λ b. cond b (activity_at rests (record old { stage = Ready; operands = [] })) (activity_by rests old (Asleep time))) e)
slept-not rests now old Postponed e = refl
slept-not rests now old Done e = refl

pub awake-stands : (design : FlatDesign) (p now : ℕ) (activity : Activity) (old new : ProcState) → Stands design p activity old → IsWokenIf (at_end_of_sleep now old.stage) old new →
    Stands design p (awake_at now activity) new
awake-stands design p now activity old new stands woken = go (at_end_of_sleep now old.stage) refl woken
  where
    go : (b : Bool) → at_end_of_sleep now old.stage ≡ b → IsWokenIf b old new → Stands design p (awake_at now activity) new
    go true e readied = record {
      state_of = λ code at. readied.state_of code (stands.state_of code at);
      does = λ code at.
          slept-ready (rests_in_code code) now (point_of old) (point_of new) old.stage refl (stands.state_of code at).reached.stops readied.point e ∙ ap (awake_at now) (stands.does code at);
    }
    go false e same = record {
      state_of = λ code at. subst (IsStateOf code) (sym same) (stands.state_of code at);
      does = λ code at.
          ap (activity_of code) same ∙ slept-not (rests_in_code code) now (point_of old) old.stage e ∙ ap (awake_at now) (stands.does code at);
    }
