-- A machine in its first run: the slots that it ran are fine, and the others are ahead (slots by IEEE 1364-2001, clause 5).
use Rattle.std.proofs.Common.{◌≡◌, ℕ, ◌+◌, ◌<◌, ◌≤◌, List, Bool, true, false, refl, sym, ap, subst, ◌∙◌, arith}
use Rattle.std.specs.Prelude.{Option, Some, None, nat_le}
use Rattle.std.specs.Option.{option_map}
use Rattle.std.proofs.lemmas.Bool.{le-leb, lt-leb}
use Rattle.vf_base.specs.Base.{reported_pair}
use Rattle.four_value.specs.Values.{LogicValue}
use Rattle.v_design.specs.Designs.{Machine}
use Rattle.v_design.specs.States.{State, start}
use Rattle.v_design.specs.Runs.{only_if, first_run}
use Rattle.v_design.specs.Grades as plain
use Rattle.v_design.specs.WellFormed.{KeepsRules}
use Rattle.order_laws.specs.FirstRuns.{FirstRunsGoOn}
use Rattle.machine_laws.specs.SlotLoop.{slot_from}
use Rattle.causal_monitor.specs.declared.slot.Turn.{Turn}
use Rattle.causal_monitor.specs.declared.slot.SlotLog.{SlotLog}
use Rattle.grade_laws.specs.Ahead.{IsAhead, Shows, ahead-start, ahead-fine, ahead-race, ahead-hyper, ahead-since, ahead-rises, ahead-never, ahead-over, ahead-later}
use Rattle.machine.specs.Standing.{IsStanding, RunsSlot, machine_kept, state_kept, begins_next, begun_within, outcome_of, next-is-following}
use Rattle.machine.specs.declared.end.SlotEnd.{SlotEnd}
use Rattle.machine.specs.declared.parts.Machine.{Machine as Simulated}
use Rattle.vf_base.specs.declared.finding.Pair.{Pair}
use Rattle.fault_grade.specs.declared.stop.Stop.{Stop}
use Rattle.fault_grade.specs.declared.stop.Stop.TheVariants.{Race, Loop}
use Rattle.fault_grade.specs.Stops.{stop_view, StopsSo}

-- What stands

-- a machine ran the slots of its first run up to a time, all fine; to whatever end, the others are ahead
pub record GoesOn (now : ℕ) (m : Simulated) : Type 0 where
  pub standing : IsStanding m
  pub rules : KeepsRules (machine_kept m).design
  pub ahead : (end : ℕ) → now ≤ end → IsAhead (machine_kept m) end now (begun_within end (begins_next m)) (state_kept m).values

-- a machine stands in its first run at some time up to this one
abbrev pub IsReached : ℕ → Simulated → Type 0
IsReached until m = (now : ℕ) × (now ≤ until) × GoesOn now m

-- the time of the slot that comes next, if there is one
abbrev pub next_of : Simulated → Option ℕ
next_of m = option_map (λ (begins : State). begins.time) (begins_next m)

-- the first run of a machine to each end from a time on stops first so
abbrev pub StopsFirst : Machine → ℕ → Stop → Type 0
StopsFirst machine time stop = (end : ℕ) → time ≤ end → plain.first_stop machine (first_run machine end) ≡ Some (stop_view stop)

-- the next slot of a machine, at a time, was run: it is fine and the machine goes on from it, or it stops the run
pub record RunsOn (time : ℕ) (old : Simulated) (stop : Option Stop) (new : Simulated) : Type 0 where
  pub same_machine : machine_kept new ≡ machine_kept old
  pub goes_on : stop ≡ None → (now : ℕ) → GoesOn now old → GoesOn time new
  pub rises : stop ≡ None → (now later : ℕ) → GoesOn now old → next_of new ≡ Some later → time < later
  pub stops : (found : Stop) → stop ≡ Some found → (now : ℕ) → GoesOn now old → ((stop_view found).time ≡ time) × StopsFirst (machine_kept old) time found

-- a machine ran all slots of its first run up to a time: all are fine and it goes on, or one of them stopped the run
abbrev pub Advanced : ℕ → Simulated → Option Stop → Simulated → Type 0
Advanced until old None new =
    (machine_kept new ≡ machine_kept old) × IsReached until new × ((end : ℕ) → until ≤ end → Shows (machine_kept old) end until (state_kept new).values)
    × (plain.first_stop (machine_kept old) (first_run (machine_kept old) until) ≡ None)
Advanced until old (Some stop) new = ((stop_view stop).time ≤ until) × StopsFirst (machine_kept old) until stop

-- The start

pub within-some : (end : ℕ) (begins : State) → begins.time ≤ end → begun_within end (Some begins) ≡ Some begins
within-some end begins h = ap (λ b. only_if b begins) (le-leb begins.time end h)

within-later : (end : ℕ) (begins : State) → end < begins.time → begun_within end (Some begins) ≡ None
within-later end begins h = ap (λ b. only_if b begins) (lt-leb begins.time end h)

-- a machine at its start
pub goes-from-start : FirstRunsGoOn → (m : Simulated) → KeepsRules (machine_kept m).design → IsStanding m → begins_next m ≡ Some (start (machine_kept m)) → GoesOn 0 m
goes-from-start law m rules standing begins = record {
  standing = standing;
  rules = rules;
  ahead = λ end h.
      subst (λ (next : Option State). IsAhead (machine_kept m) end 0 next (state_kept m).values)
      (sym (ap (begun_within end) begins ∙ within-some end (start (machine_kept m)) h)) (ahead-start (machine_kept m) end (state_kept m).values law rules);
}

-- A slot

-- what is ahead begins with the slot that is next
ahead-here : (now end : ℕ) (m : Simulated) (begins : State) → GoesOn now m → begins_next m ≡ Some begins → now ≤ end → begins.time ≤ end →
    IsAhead (machine_kept m) end now (Some begins) (state_kept m).values
ahead-here now end m begins goes is h k =
    subst (λ (next : Option State). IsAhead (machine_kept m) end now next (state_kept m).values) (ap (begun_within end) is ∙ within-some end begins k) (goes.ahead end h)

pub since-now : (now : ℕ) (m : Simulated) (begins : State) → GoesOn now m → begins_next m ≡ Some begins → now ≤ begins.time
since-now now m begins goes is =
    ahead-since (machine_kept m) (now + begins.time) now begins (state_kept m).values (ahead-here now (now + begins.time) m begins goes is (omega arith) (omega arith))

-- a slot that is fine
goes-on : (now : ℕ) (old new : Simulated) (begins : State) (first : Turn) (end : SlotEnd) (log : SlotLog) → GoesOn now old → begins_next old ≡ Some begins → machine_kept new ≡ machine_kept old →
    RunsSlot (machine_kept old) begins first end new log →
    outcome_of end ≡ plain.Fine → IsStanding new → GoesOn begins.time new
goes-on now old new begins first end log goes is same runs fine standing = record {
  standing = standing;
  rules = subst (λ (machine : Machine). KeepsRules machine.design) (sym same) goes.rules;
  ahead = λ until h.
      let early : now ≤ begins.time = since-now now old begins goes is in
      subst (λ (machine : Machine). IsAhead machine until begins.time (begun_within until (begins_next new)) (state_kept new).values) (sym same)
      (subst (λ (values : List LogicValue). IsAhead (machine_kept old) until begins.time (begun_within until (begins_next new)) values) (sym (ap (λ (s : State). s.values) runs.state))
      (ahead-fine (machine_kept old) until now begins (state_kept old).values (begun_within until (begins_next new)) (ahead-here now until old begins goes is (omega (arith, early, h)) h)
      (sym runs.outcome ∙ fine)
      (next-is-following (machine_kept old) until (slot_from (machine_kept old) begins) ∙ sym (ap (begun_within until) runs.next))));
}

-- the slot after it is later
rises-on : (now later : ℕ) (old new : Simulated) (begins : State) (first : Turn) (end : SlotEnd) (log : SlotLog) → GoesOn now old → begins_next old ≡ Some begins →
    RunsSlot (machine_kept old) begins first end new log → next_of new ≡ Some later → begins.time < later
rises-on now later old new begins first end log goes is runs e = go (begins_next new) refl e
  where
    some-is : (one other : ℕ) → Some one ≡ Some other → one ≡ other
    some-is one other f = cc

    go : (next : Option State) → begins_next new ≡ next → option_map (λ (s : State). s.time) next ≡ Some later → begins.time < later
    go None n f = cc
    go (Some state) n f =
        let early : now ≤ begins.time = since-now now old begins goes is in
        subst (λ t. begins.time < t) (some-is state.time later f)
        (ahead-rises (machine_kept old) (begins.time + state.time) now begins state (state_kept old).values
        (ahead-here now (begins.time + state.time) old begins goes is (omega (arith, early)) (omega arith))
        (next-is-following (machine_kept old) (begins.time + state.time) (slot_from (machine_kept old) begins) ∙ ap (begun_within (begins.time + state.time)) (sym runs.next ∙ n)
        ∙ within-some (begins.time + state.time) state (omega arith)))

-- a slot with a race
races-here : FirstRunsGoOn → (now : ℕ) (m : Simulated) (begins : State) (pair : Pair) → GoesOn now m → begins_next m ≡ Some begins →
    plain.slot_outcome (machine_kept m) (slot_from (machine_kept m) begins) ≡ plain.Race (reported_pair pair) →
    (pair.time ≡ begins.time) × StopsFirst (machine_kept m) begins.time (Race pair)
races-here law now m begins pair goes is outcome = (at begins.time (omega arith), λ end h. found end h ∙ (λ i. Some (record { time = sym (at end h) i; outcome = plain.Race (reported_pair pair) })))
  where
    found : (end : ℕ) → begins.time ≤ end → plain.first_stop (machine_kept m) (first_run (machine_kept m) end) ≡ Some (record { time = begins.time; outcome = plain.Race (reported_pair pair) })
    found end h =
        let early : now ≤ begins.time = since-now now m begins goes is in
        ahead-race (machine_kept m) end now begins (state_kept m).values (reported_pair pair) (ahead-here now end m begins goes is (omega (arith, early, h)) h) outcome

    at : (end : ℕ) → begins.time ≤ end → pair.time ≡ begins.time
    at end h = law.race_time (machine_kept m) end (record { time = begins.time; outcome = plain.Race (reported_pair pair) }) (reported_pair pair) goes.rules (found end h) refl

-- a slot that is hyperactive
loops-here : (now : ℕ) (m : Simulated) (begins : State) → GoesOn now m → begins_next m ≡ Some begins → plain.slot_outcome (machine_kept m) (slot_from (machine_kept m) begins) ≡ plain.Hyper →
    StopsFirst (machine_kept m) begins.time (Loop begins.time)
loops-here now m begins goes is outcome end h =
    let early : now ≤ begins.time = since-now now m begins goes is in
    ahead-hyper (machine_kept m) end now begins (state_kept m).values (ahead-here now end m begins goes is (omega (arith, early, h)) h) outcome

-- a slot that stops the run
stops-here : FirstRunsGoOn → (now time : ℕ) (old : Simulated) (begins : State) (end : SlotEnd) (stop : Stop) → GoesOn now old → begins_next old ≡ Some begins → begins.time ≡ time →
    outcome_of end ≡ plain.slot_outcome (machine_kept old) (slot_from (machine_kept old) begins) → StopsSo time end (Some stop) →
    ((stop_view stop).time ≡ time) × StopsFirst (machine_kept old) time stop
stops-here law now time old begins end (Race pair) goes is at outcome so =
    let here = races-here law now old begins pair goes is (sym outcome ∙ so) in (here.0 ∙ at, subst (λ t. StopsFirst (machine_kept old) t (Race pair)) at here.1)
stops-here law now time old begins end (Loop found) goes is at outcome so = (
  so.1,
  subst (λ t. StopsFirst (machine_kept old) time (Loop t)) (at ∙ sym so.1) (subst (λ t. StopsFirst (machine_kept old) t (Loop begins.time)) at
      (loops-here now old begins goes is (sym outcome ∙ so.0))),
)

-- the next slot was run
pub runs-on : FirstRunsGoOn → (time : ℕ) (old new : Simulated) (begins : State) (first : Turn) (end : SlotEnd) (stop : Option Stop) (log : SlotLog) → begins_next old ≡ Some begins →
    begins.time ≡ time → machine_kept new ≡ machine_kept old →
    RunsSlot (machine_kept old) begins first end new log → IsStanding new → StopsSo time end stop → RunsOn time old stop new
runs-on law time old new begins first end None log is at same runs standing so = record {
  same_machine = same;
  goes_on = λ none now goes. subst (λ t. GoesOn t new) at (goes-on now old new begins first end log goes is same runs so standing);
  rises = λ none now later goes e. subst (λ t. t < later) at (rises-on now later old new begins first end log goes is runs e);
  stops = λ found e. cc;
}
runs-on law time old new begins first end (Some stop) log is at same runs standing so = record {
  same_machine = same;
  goes_on = λ none. cc;
  rises = λ none. cc;
  stops = λ found e now goes. subst (λ (s : Stop). ((stop_view s).time ≡ time) × StopsFirst (machine_kept old) time s) (some-is stop found e)
      (stops-here law now time old begins end stop goes is at runs.outcome so);
}
  where
    some-is : (one other : Stop) → Some one ≡ Some other → one ≡ other
    some-is one other f = cc

-- Between slots

-- no slot up to a time is left
abbrev pub IsPast : ℕ → Simulated → Type 0
IsPast until m = (later : ℕ) → next_of m ≡ Some later → until < later

past-next : (until : ℕ) (m : Simulated) (begins : State) → IsPast until m → begins_next m ≡ Some begins → until < begins.time
past-next until m begins past is = past begins.time (ap (option_map (λ (s : State). s.time)) is)

pub none-within : (until : ℕ) (m : Simulated) → IsPast until m → begun_within until (begins_next m) ≡ None
none-within until m past = go (begins_next m) refl
  where
    go : (next : Option State) → begins_next m ≡ next → begun_within until next ≡ None
    go None e = refl
    go (Some begins) e = within-later until begins (past-next until m begins past e)

-- a machine that ran all slots up to a time
pub advanced : (until now : ℕ) (old new : Simulated) → machine_kept new ≡ machine_kept old → GoesOn now new → now ≤ until → IsPast until new → Advanced until old None new
advanced until now old new same goes h past = (
  same,
  (now, h, goes),
  λ end k. subst (λ (machine : Machine). Shows machine end until (state_kept new).values) same (shows end k),
  subst (λ (machine : Machine). plain.first_stop machine (first_run machine until) ≡ None) same never,
)
  where
    shows-by : (end : ℕ) → until ≤ end → (next : Option State) → begins_next new ≡ next → IsAhead (machine_kept new) end now (begun_within end next) (state_kept new).values →
        Shows (machine_kept new) end until (state_kept new).values
    shows-by end k None e a = ahead-over (machine_kept new) end now until (state_kept new).values a h
    shows-by end k (Some begins) e a = by-time (nat_le begins.time end) a
      where
        by-time : (b : Bool) → IsAhead (machine_kept new) end now (only_if b begins) (state_kept new).values → Shows (machine_kept new) end until (state_kept new).values
        by-time true a = ahead-later (machine_kept new) end now until begins (state_kept new).values a h (past-next until new begins past e)
        by-time false a = ahead-over (machine_kept new) end now until (state_kept new).values a h

    shows : (end : ℕ) → until ≤ end → Shows (machine_kept new) end until (state_kept new).values
    shows end k = shows-by end k (begins_next new) refl (goes.ahead end (omega (arith, h, k)))

    never : plain.first_stop (machine_kept new) (first_run (machine_kept new) until) ≡ None
    never =
        ahead-never (machine_kept new) until now (state_kept new).values
        (subst (λ (next : Option State). IsAhead (machine_kept new) until now next (state_kept new).values) (none-within until new past) (goes.ahead until h))
