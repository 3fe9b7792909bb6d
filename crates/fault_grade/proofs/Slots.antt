-- The slot that is next, and how the time that is left falls.
use Rattle.std.proofs.Common.{◌≡◌, ℕ, ◌+◌, ◌-◌, ◌<◌, ◌≤◌, refl, sym, subst, ◌∙◌, arith}
use Rattle.std.specs.Prelude.{Option, Some, None}
use Rattle.std.specs.Option.{option_map}
use Rattle.v_design.specs.Designs.{Machine}
use Rattle.v_design.specs.States.{State}
use Rattle.machine.specs.Standing.{machine_kept, begins_next}
use Rattle.machine.specs.declared.parts.Machine.{Machine as Simulated}
use Rattle.fault_grade.specs.declared.stop.Stop.{Stop}
use Rattle.fault_grade.specs.Beside.{some-is}
use Rattle.fault_grade.specs.Reached.{IsReached, next_of, IsPast, StopsFirst, RunsOn, Advanced, advanced}

-- the state in which the next slot begins
pub next-is : (m : Simulated) (time : ℕ) → next_of m ≡ Some time → (begins : State) × (begins_next m ≡ Some begins) × (begins.time ≡ time)
next-is m time e = go (begins_next m) refl e
  where
    go : (next : Option State) → begins_next m ≡ next → option_map (λ (s : State). s.time) next ≡ Some time → (begins : State) × (begins_next m ≡ Some begins) × (begins.time ≡ time)
    go None n f = cc
    go (Some begins) n f = (begins, n, some-is begins.time time f)

-- how much time is left up to a time
abbrev pub time_left : ℕ → Option ℕ → ℕ
time_left until None = 0
time_left until (Some time) = until + 1 - time

pub left-falls : (until time : ℕ) (next : Option ℕ) → time ≤ until → ((later : ℕ) → next ≡ Some later → time < later) → time_left until next < time_left until (Some time)
left-falls until time None h rises = omega (arith, h)
left-falls until time (Some later) h rises = let r : time < later = rises later refl in omega (arith, h, r)

-- no slot is next up to a time
pub past-none : (until : ℕ) (m : Simulated) → next_of m ≡ None → IsPast until m
past-none until m e later f = none-some (sym e ∙ f)
  where
    none-some : None ≡ Some later → until < later
    none-some g = cc

pub past-later : (until time : ℕ) (m : Simulated) → next_of m ≡ Some time → until < time → IsPast until m
past-later until time m e h later f = subst (λ t. until < t) (some-is time later (sym e ∙ f)) h

-- a machine that ran its slots so far and has none left up to a time
pub passed : (until : ℕ) (first m : Simulated) → machine_kept m ≡ machine_kept first → IsReached until m → IsPast until m → Advanced until first None m
passed until first m same reached past = advanced until reached.0 first m same reached.2 reached.1 past

-- a machine whose next slot, at a time, stops its run
pub stopped : (until time : ℕ) (first old new : Simulated) (stop : Stop) → machine_kept old ≡ machine_kept first → IsReached until old → time ≤ until → RunsOn time old (Some stop) new →
    Advanced until first (Some stop) new
stopped until time first old new stop same reached h runs =
    let s = runs.stops stop refl reached.0 reached.2 in (
      subst (λ t. t ≤ until) (sym s.0) h,
      subst (λ (machine : Machine). StopsFirst machine until stop) same (λ end k. s.1 end (omega (arith, h, k))),
    )
