-- Processes of which nothing is left to do before a time, and the turn that their state leads to.
use Rattle.std.proofs.Common.{◌≡◌, ℕ, zero, suc, ◌<◌, ◌≤◌, List, [], ◌∷◌, min, Bool, true, false, ◌||◌, refl, sym, ap, ◌∙◌, arith}
use Rattle.std.specs.Prelude.{Option, Some, None, slice_get, nat_le}
use Rattle.std.proofs.lemmas.Bool.{leb-true, le-leb, lt-leb}
use Rattle.v_design.specs.States.{State, ProcessState, LaterUpdate, TimeTurn, process_at, found_or, idle_process}
use Rattle.v_design.specs.States.{is_postponed, is_due, some_in, least_of, wake_time, due_time, next_time_of, time_turn_at, turn_by, turn_of}
use Rattle.v_design.specs.Runs.{turn_in_slot}
use Rattle.copy_laws.specs.Turns.{ComesAfter, SleepsPast}

pub or-neither : (a b : Bool) → (a || b) ≡ false → (a ≡ false) × (b ≡ false)
or-neither true b e = cc
or-neither false true e = cc
or-neither false false e = (refl, refl)

-- Tests of all processes

pub none-passes : (test : ProcessState → Bool) (xs : List ProcessState) → test idle_process ≡ false → some_in test xs ≡ false → (n : ℕ) → test (found_or idle_process (slice_get xs n)) ≡ false
none-passes test [] idle e n = idle
none-passes test (x ∷ xs) idle e zero = (or-neither (test x) (some_in test xs) e).0
none-passes test (x ∷ xs) idle e (suc n) = none-passes test xs idle (or-neither (test x) (some_in test xs) e).1 n

pub all-fail : (test : ProcessState → Bool) (xs : List ProcessState) → ((n : ℕ) → test (found_or idle_process (slice_get xs n)) ≡ false) → some_in test xs ≡ false
all-fail test [] h = refl
all-fail test (x ∷ xs) h = λ i. h 0 i || all-fail test xs (λ n. h (suc n)) i

-- A turn within the slot

-- no process is postponed or has an update that is due by a time
pub record NoneTurns (now : ℕ) (state : State) : Type 0 where
  pub not_postponed : (process : ℕ) → is_postponed (process_at state process).activity ≡ false
  pub none_due : (process : ℕ) → some_in (is_due now) (process_at state process).later ≡ false

pub none-turns : (state : State) → turn_in_slot (turn_of state) ≡ None → NoneTurns state.time state
none-turns state e =
    go (some_in (λ (p : ProcessState). is_postponed p.activity) state.processes) (some_in (λ (p : ProcessState). some_in (is_due state.time) p.later) state.processes) refl refl e
  where
    go : (postponed due : Bool) → some_in (λ (p : ProcessState). is_postponed p.activity) state.processes ≡ postponed →
        some_in (λ (p : ProcessState). some_in (is_due state.time) p.later) state.processes ≡ due → turn_in_slot (turn_by postponed due (next_time_of state.processes)) ≡ None →
        NoneTurns state.time state
    go true due p q f = cc
    go false true p q f = cc
    go false false p q f = record {
      not_postponed = none-passes (λ (s : ProcessState). is_postponed s.activity) state.processes refl p;
      none_due = none-passes (λ (s : ProcessState). some_in (is_due state.time) s.later) state.processes refl q;
    }

-- so the turn is that to the next time
pub turn-next : (state : State) → NoneTurns state.time state → turn_of state ≡ time_turn_at (next_time_of state.processes)
turn-next state n =
    λ i. turn_by (all-fail (λ (p : ProcessState). is_postponed p.activity) state.processes n.not_postponed i)
    (all-fail (λ (p : ProcessState). some_in (is_due state.time) p.later) state.processes n.none_due i) (next_time_of state.processes)

pub turn-outside : (state : State) → NoneTurns state.time state → turn_in_slot (turn_of state) ≡ None
turn-outside state n = ap turn_in_slot (turn-next state n) ∙ go (next_time_of state.processes)
  where
    go : (next : Option ℕ) → turn_in_slot (time_turn_at next) ≡ None
    go None = refl
    go (Some time) = refl

-- an update that isn't due by a time isn't due by an earlier one
pub none-earlier : (earlier now : ℕ) (later : List LaterUpdate) → earlier ≤ now → some_in (is_due now) later ≡ false → some_in (is_due earlier) later ≡ false
none-earlier earlier now [] low e = refl
none-earlier earlier now (update ∷ later) low e =
    let parts = or-neither (is_due now update) (some_in (is_due now) later) e in
    λ i. not-due (nat_le update.time earlier) refl parts.0 i || none-earlier earlier now later low parts.1 i
  where
    not-due : (b : Bool) → nat_le update.time earlier ≡ b → nat_le update.time now ≡ false → b ≡ false
    not-due false e f = refl
    not-due true e f =
        let by : update.time ≤ earlier = leb-true update.time earlier e in
        let also : nat_le update.time now ≡ true = le-leb update.time now (omega (arith, by, low)) in
        sym also ∙ f

-- Times

pub least-after : (time : ℕ) (a b : Option ℕ) → ComesAfter time a → ComesAfter time b → ComesAfter time (least_of a b)
least-after time None b h k = k
least-after time (Some x) None h k = h
least-after time (Some x) (Some y) h k = let f : time < min x y = omega (arith, h, k) in f

pub after-parts : (time : ℕ) (a b : Option ℕ) → ComesAfter time (least_of a b) → ComesAfter time a × ComesAfter time b
after-parts time None b h = (tt, h)
after-parts time (Some x) None h = (h, tt)
after-parts time (Some x) (Some y) h = (omega (arith, h), omega (arith, h))

pub next-after : (time : ℕ) (xs : List ProcessState) → ((n : ℕ) → SleepsPast (TimeTurn time) (found_or idle_process (slice_get xs n))) → ComesAfter time (next_time_of xs)
next-after time [] h = tt
next-after time (x ∷ xs) h =
    least-after time (least_of (wake_time x.activity) (due_time x.later)) (next_time_of xs) (least-after time (wake_time x.activity) (due_time x.later) (h 0).0 (h 0).1)
    (next-after time xs (λ n. h (suc n)))

pub each-after : (time : ℕ) (xs : List ProcessState) → ComesAfter time (next_time_of xs) → (n : ℕ) → SleepsPast (TimeTurn time) (found_or idle_process (slice_get xs n))
each-after time [] h n = (tt, tt)
each-after time (x ∷ xs) h zero =
    after-parts time (wake_time x.activity) (due_time x.later) (after-parts time (least_of (wake_time x.activity) (due_time x.later)) (next_time_of xs) h).0
each-after time (x ∷ xs) h (suc n) = each-after time xs (after-parts time (least_of (wake_time x.activity) (due_time x.later)) (next_time_of xs) h).1 n

pub after-lower : (low time : ℕ) (other : Option ℕ) → low ≤ time → ComesAfter time other → ComesAfter low other
after-lower low time None h k = tt
after-lower low time (Some t) h k = let k' : time < t = k in let f : low < t = omega (arith, h, k') in f

-- what is due after a time isn't due by it
pub after-due : (time : ℕ) (later : List LaterUpdate) → ComesAfter time (due_time later) → some_in (is_due time) later ≡ false
after-due time [] h = refl
after-due time (update ∷ later) h =
    let parts = after-parts time (Some update.time) (due_time later) h in
    λ i. lt-leb update.time time parts.0 i || after-due time later parts.1 i
