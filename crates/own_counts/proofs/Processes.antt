-- What a step more makes of the runs of a process and of their ticks.
use Rattle.std.proofs.Common.{◌≡◌, ℕ, suc, ◌+◌, ◌≤◌, Bool, true, false, List, [], ◌∷◌, ◌++◌, length, refl, sym, ap, subst, ◌∙◌, inl, inr, arith}
use Rattle.std.specs.Prelude.{Option, slice_get}
use Rattle.std.specs.List.{sum}
use Rattle.std.proofs.lemmas.Bool.{true≢false}
use Rattle.std.proofs.lemmas.List.{append_assoc, length-append}
use Rattle.v_design.specs.Processes.{Activity}
use Rattle.v_design.specs.OwnSteps.{CountsOwn, ProcessRun, StepSeen}
use Rattle.v_design.specs.States.{is_any}
use Rattle.copy_laws.specs.OwnRuns.{grow, grown, is_going, last_goes_on}
use Rattle.copy_overlay.specs.Statuses.{AllCount, gone_on}
use Rattle.own_counts.specs.Counts.{EachTicks, OwnLast, ProcessTicks, TicksOwn, behind_first, first_of, last_steps, last_tick}
use Rattle.own_counts.proofs.Runs.{sum-append, sum-cons}

-- One run

-- it counts as own when it goes on, too
all-on : (good : Option ProcessRun) (run : ProcessRun) (step : StepSeen) → AllCount good run → AllCount good (gone_on run (step ∷ []))
all-on good run step all more own counts =
    all (step ∷ more) own
    (subst (λ (l : List StepSeen). CountsOwn (good, record { begins = run.begins; steps = l }) own) (append_assoc run.steps (step ∷ []) more) counts)
    ∙ sym (ap length (append_assoc run.steps (step ∷ []) more))

ticks-on : (good : Option ProcessRun) (run : ProcessRun) (step : StepSeen) (tick : ℕ) → TicksOwn good run tick → TicksOwn good (gone_on run (step ∷ [])) tick
ticks-on good run step tick (inl none) = inl none
ticks-on good run step tick (inr own) =
    let long = length-append run.steps (step ∷ []) in
    let low = own.1 in
    inr (all-on good run step own.0, omega (arith, long, low))

tick-within : (good : Option ProcessRun) (run : ProcessRun) (tick : ℕ) → TicksOwn good run tick → tick ≤ length run.steps
tick-within good run tick (inl none) = omega (arith, none)
tick-within good run tick (inr own) = own.1

-- Runs

grown-some : (going : Bool) (run : ProcessRun) (step : Activity × StepSeen) → is_any (grown going run step) ≡ true
grown-some true run step = refl
grown-some false run step = refl

grow-some : (runs : List ProcessRun) (step : Activity × StepSeen) → is_any (grow runs step) ≡ true
grow-some [] step = refl
grow-some (run ∷ []) step = grown-some (is_going run.steps) run step
grow-some (run ∷ next ∷ runs) step = refl

own-rest : (good : List ProcessRun) (run : ProcessRun) (runs : List ProcessRun) → is_any runs ≡ true → OwnLast good (run ∷ runs) → OwnLast (behind_first good) runs
own-rest good run [] some own = absurd (true≢false (sym some))
own-rest good run (next ∷ runs) some own = own

steps-rest : (run : ProcessRun) (runs : List ProcessRun) → is_any runs ≡ true → last_steps (run ∷ runs) ≡ last_steps runs
steps-rest run [] some = absurd (true≢false (sym some))
steps-rest run (next ∷ runs) some = refl

-- a run that goes on, without a tick
on-one : (going : Bool) (good : List ProcessRun) (run : ProcessRun) (step : Activity × StepSeen) (tick : ℕ) → going ≡ true → TicksOwn (first_of good) run tick →
    EachTicks good (grown going run step) (tick ∷ [])
on-one true good run step tick e ticks = (ticks-on (first_of good) run step.1 tick ticks, tt)
on-one false good run step tick e ticks = absurd (true≢false (sym e))

goes-on : (good runs : List ProcessRun) (step : Activity × StepSeen) (ticks : List ℕ) → last_goes_on runs ≡ true → EachTicks good runs ticks → EachTicks good (grow runs step) ticks
goes-on good [] step ticks on each = absurd (true≢false (sym on))
goes-on good (run ∷ []) step [] on each = absurd each
goes-on good (run ∷ []) step (tick ∷ []) on each = on-one (is_going run.steps) good run step tick on each.0
goes-on good (run ∷ []) step (tick ∷ more ∷ ticks) on each = absurd each.1
goes-on good (run ∷ next ∷ runs) step [] on each = absurd each
goes-on good (run ∷ next ∷ runs) step (tick ∷ ticks) on each = (each.0, goes-on (behind_first good) (next ∷ runs) step ticks on each.1)

-- a new one
new-one : (going : Bool) (good : List ProcessRun) (run : ProcessRun) (step : Activity × StepSeen) (tick : ℕ) → going ≡ false → TicksOwn (first_of good) run tick →
    EachTicks good (grown going run step) (tick ∷ 0 ∷ [])
new-one true good run step tick e ticks = absurd (true≢false e)
new-one false good run step tick e ticks = (ticks, (inl refl, tt))

is-new : (good runs : List ProcessRun) (step : Activity × StepSeen) (ticks : List ℕ) → last_goes_on runs ≡ false → EachTicks good runs ticks → EachTicks good (grow runs step) (ticks ++ 0 ∷ [])
is-new good [] step [] on each = (inl refl, tt)
is-new good [] step (tick ∷ ticks) on each = absurd each
is-new good (run ∷ []) step [] on each = absurd each
is-new good (run ∷ []) step (tick ∷ []) on each = new-one (is_going run.steps) good run step tick on each.0
is-new good (run ∷ []) step (tick ∷ more ∷ ticks) on each = absurd each.1
is-new good (run ∷ next ∷ runs) step [] on each = absurd each
is-new good (run ∷ next ∷ runs) step (tick ∷ ticks) on each = (each.0, is-new (behind_first good) (next ∷ runs) step ticks on each.1)

last-new : (ticks : List ℕ) → last_tick (ticks ++ 0 ∷ []) ≡ 0
last-new [] = refl
last-new (tick ∷ []) = refl
last-new (tick ∷ next ∷ ticks) = last-new (next ∷ ticks)

-- Ticks

-- other ticks, so many more
record TicksMore (good runs : List ProcessRun) (old : List ℕ) (more : ℕ) : Type 0 where
  new : List ℕ
  each : EachTicks good runs new
  total : sum new ≡ sum old + more

sum-one : (x : ℕ) → sum (x ∷ []) ≡ x
sum-one x = sum-cons x [] ∙ (let none : sum [] ≡ 0 = refl in omega (arith, none))

-- a step of a run that counts as own ticks
own-one : (going : Bool) (good : List ProcessRun) (run : ProcessRun) (step : Activity × StepSeen) (tick : ℕ) → OwnLast good (grown going run step) → TicksOwn (first_of good) run tick →
    TicksMore good (grown going run step) (tick ∷ []) 1
own-one true good run step tick own ticks =
    let low = tick-within (first_of good) run tick ticks in
    let long = length-append run.steps (step.1 ∷ []) in
    let old = sum-one tick in
    let one = sum-one (tick + 1) in
    record { new = (tick + 1) ∷ []; each = (inr (own, omega (arith, low, long)), tt); total = omega (arith, old, one) }
own-one false good run step tick own ticks =
    let old = sum-one tick in
    let two = sum-cons tick (1 ∷ []) in
    let one = sum-one 1 in
    record { new = tick ∷ 1 ∷ []; each = (ticks, (inr (own, omega arith), tt)); total = omega (arith, old, two, one) }

own-more : (good runs : List ProcessRun) (step : Activity × StepSeen) (ticks : List ℕ) → OwnLast good (grow runs step) → EachTicks good runs ticks → TicksMore good (grow runs step) ticks 1
own-more good [] step [] own each =
    let one = sum-one 1 in
    let none : sum [] ≡ 0 = refl in
    record { new = 1 ∷ []; each = (inr (own, omega arith), tt); total = omega (arith, one, none) }
own-more good [] step (tick ∷ ticks) own each = absurd each
own-more good (run ∷ []) step [] own each = absurd each
own-more good (run ∷ []) step (tick ∷ []) own each = own-one (is_going run.steps) good run step tick own each.0
own-more good (run ∷ []) step (tick ∷ more ∷ ticks) own each = absurd each.1
own-more good (run ∷ next ∷ runs) step [] own each = absurd each
own-more good (run ∷ next ∷ runs) step (tick ∷ ticks) own each =
    let rest = own-more (behind_first good) (next ∷ runs) step ticks (own-rest good run (grow (next ∷ runs) step) (grow-some (next ∷ runs) step) own) each.1 in
    let total = rest.total in
    let old = sum-cons tick ticks in
    let new = sum-cons tick rest.new in
    record { new = tick ∷ rest.new; each = (each.0, rest.each); total = omega (arith, total, old, new) }

-- a run that was followed turns own
turned-one : (going : Bool) (good : List ProcessRun) (run : ProcessRun) (step : Activity × StepSeen) (tick : ℕ) → tick ≡ 0 → going ≡ true → OwnLast good (grown going run step) →
    TicksMore good (grown going run step) (tick ∷ []) (last_steps (grown going run step))
turned-one true good run step tick none e own =
    let old = sum-one tick in
    let all = sum-one (length (run.steps ++ step.1 ∷ [])) in
    record { new = length (run.steps ++ step.1 ∷ []) ∷ []; each = (inr (own, omega arith), tt); total = omega (arith, none, old, all) }
turned-one false good run step tick none e own = absurd (true≢false (sym e))

turns : (good runs : List ProcessRun) (step : Activity × StepSeen) (ticks : List ℕ) → last_tick ticks ≡ 0 → last_goes_on runs ≡ true → OwnLast good (grow runs step) → EachTicks good runs ticks →
    TicksMore good (grow runs step) ticks (last_steps (grow runs step))
turns good [] step ticks none on own each = absurd (true≢false (sym on))
turns good (run ∷ []) step [] none on own each = absurd each
turns good (run ∷ []) step (tick ∷ []) none on own each = turned-one (is_going run.steps) good run step tick none on own
turns good (run ∷ []) step (tick ∷ more ∷ ticks) none on own each = absurd each.1
turns good (run ∷ next ∷ runs) step [] none on own each = absurd each
turns good (run ∷ next ∷ runs) step (tick ∷ []) none on own each = absurd each.1
turns good (run ∷ next ∷ runs) step (tick ∷ more ∷ ticks) none on own each =
    let rest = turns (behind_first good) (next ∷ runs) step (more ∷ ticks) none on (own-rest good run (grow (next ∷ runs) step) (grow-some (next ∷ runs) step) own) each.1 in
    let total = rest.total in
    let old = sum-cons tick (more ∷ ticks) in
    let new = sum-cons tick rest.new in
    let same = steps-rest run (grow (next ∷ runs) step) (grow-some (next ∷ runs) step) in
    record { new = tick ∷ rest.new; each = (each.0, rest.each); total = omega (arith, total, old, new, same) }

-- A process

pub part-on : (good runs : List ProcessRun) (step : Activity × StepSeen) (follows : Bool) (ticked : ℕ) → last_goes_on runs ≡ true → ProcessTicks good runs follows ticked →
    ProcessTicks good (grow runs step) follows ticked
part-on good runs step follows ticked on part = record { ticks = part.ticks; each = goes-on good runs step part.ticks on part.each; last = part.last; total = part.total }

pub part-new : (good runs : List ProcessRun) (step : Activity × StepSeen) (answer follows : Bool) (ticked : ℕ) → last_goes_on runs ≡ false → ProcessTicks good runs follows ticked →
    ProcessTicks good (grow runs step) answer ticked
part-new good runs step answer follows ticked on part =
    let sums = sum-append part.ticks (0 ∷ []) in
    let zero_is = sum-one 0 in
    let total = part.total in
    record { ticks = part.ticks ++ 0 ∷ []; each = is-new good runs step part.ticks on part.each; last = λ e. last-new part.ticks; total = omega (arith, sums, zero_is, total) }

pub part-own : (good runs : List ProcessRun) (step : Activity × StepSeen) (follows : Bool) (ticked : ℕ) → OwnLast good (grow runs step) → ProcessTicks good runs follows ticked →
    ProcessTicks good (grow runs step) false (ticked + 1)
part-own good runs step follows ticked own part =
    let more = own-more good runs step part.ticks own part.each in
    let sums = more.total in
    let total = part.total in
    record { ticks = more.new; each = more.each; last = λ e. absurd (true≢false (sym e)); total = omega (arith, sums, total) }

pub part-turns : (good runs : List ProcessRun) (step : Activity × StepSeen) (follows : Bool) (ticked : ℕ) → follows ≡ true → last_goes_on runs ≡ true → OwnLast good (grow runs step) →
    ProcessTicks good runs follows ticked → ProcessTicks good (grow runs step) false (ticked + last_steps (grow runs step))
part-turns good runs step follows ticked followed on own part =
    let more = turns good runs step part.ticks (part.last followed) on own part.each in
    let sums = more.total in
    let total = part.total in
    record { ticks = more.new; each = more.each; last = λ e. absurd (true≢false (sym e)); total = omega (arith, sums, total) }

-- the last run of its number
get-behind : (good : List ProcessRun) (n : ℕ) → slice_get (behind_first good) n ≡ slice_get good (suc n)
get-behind [] n = refl
get-behind (run ∷ good) n = refl

get-first : (good : List ProcessRun) → slice_get good 0 ≡ first_of good
get-first [] = refl
get-first (run ∷ good) = refl

own-cons : (good : List ProcessRun) (first : ProcessRun) (runs : List ProcessRun) → is_any runs ≡ true → OwnLast (behind_first good) runs → OwnLast good (first ∷ runs)
own-cons good first [] some own = absurd (true≢false (sym some))
own-cons good first (next ∷ runs) some own = own

push-some : (before : List ProcessRun) (run : ProcessRun) → is_any (before ++ run ∷ []) ≡ true
push-some [] run = refl
push-some (first ∷ before) run = refl

pub own-last : (good before : List ProcessRun) (run : ProcessRun) → AllCount (slice_get good (length before)) run → OwnLast good (before ++ run ∷ [])
own-last good [] run all = subst (λ (g : Option ProcessRun). AllCount g run) (get-first good) all
own-last good (first ∷ before) run all =
    own-cons good first (before ++ run ∷ []) (push-some before run)
    (own-last (behind_first good) before run (subst (λ (g : Option ProcessRun). AllCount g run) (sym (get-behind good (length before))) all))
