-- What of pending updates rests on the times alone at which they are due.
use Rattle.std.proofs.Common.{◌≡◌, ℕ, ◌+◌, List, [], ◌∷◌, ◌++◌, map, length, Bool, true, false, not, ◌||◌, refl, sym, ap, ◌∙◌, arith, length-append}
use Rattle.std.specs.Prelude.{Option, Some, None, filter, cond, nat_le}
use Rattle.v_design.specs.Assignments.{ValueUpdate}
use Rattle.v_design.specs.States.{ProcessState, LaterUpdate, TurnKind, PostponedTurn, UpdatesTurn, TimeTurn, is_any, is_due, some_in, least_of, due_time, resumed, awake_at}
use Rattle.copy_laws.proofs.Parts.{length-mapped}
use Rattle.lockstep_laws.specs.Lockstep.{due_times, DiffersInWrites}
use Rattle.lockstep_laws.specs.Turning.{turned_process}

-- whether some update is due
some-due : (now : ℕ) (later : List LaterUpdate) → some_in (is_due now) later ≡ some_in (λ time. nat_le time now) (due_times later)
some-due now [] = refl
some-due now (update ∷ later) = ap (λ b. nat_le update.time now || b) (some-due now later)

pub due-alike : (now : ℕ) (own good : List LaterUpdate) → due_times own ≡ due_times good → some_in (is_due now) own ≡ some_in (is_due now) good
due-alike now own good e = some-due now own ∙ ap (some_in (λ time. nat_le time now)) e ∙ sym (some-due now good)

-- when the first one is due
abbrev least_time : List ℕ → Option ℕ
least_time [] = None
least_time (time ∷ times) = least_of (Some time) (least_time times)

least-due : (later : List LaterUpdate) → due_time later ≡ least_time (due_times later)
least-due [] = refl
least-due (update ∷ later) = ap (least_of (Some update.time)) (least-due later)

pub first-alike : (own good : List LaterUpdate) → due_times own ≡ due_times good → due_time own ≡ due_time good
first-alike own good e = least-due own ∙ ap least_time e ∙ sym (least-due good)

-- those that pass a test of their times
filter-times : (test : ℕ → Bool) (later : List LaterUpdate) → due_times (filter (λ (update : LaterUpdate). test update.time) later) ≡ filter test (due_times later)
filter-times test [] = refl
filter-times test (update ∷ later) = go (test update.time) (filter-times test later)
  where
    go : (b : Bool) → due_times (filter (λ (u : LaterUpdate). test u.time) later) ≡ filter test (due_times later) →
        due_times (cond b (update ∷ filter (λ (u : LaterUpdate). test u.time) later) (filter (λ (u : LaterUpdate). test u.time) later))
        ≡ cond b (update.time ∷ filter test (due_times later)) (filter test (due_times later))
    go true rest = ap (λ times. update.time ∷ times) rest
    go false rest = rest

pub filter-alike : (test : ℕ → Bool) (own good : List LaterUpdate) → due_times own ≡ due_times good →
    due_times (filter (λ (update : LaterUpdate). test update.time) own) ≡ due_times (filter (λ (update : LaterUpdate). test update.time) good)
filter-alike test own good e = filter-times test own ∙ ap (filter test) e ∙ sym (filter-times test good)

pub count-alike : (own good : List LaterUpdate) → due_times own ≡ due_times good → length own ≡ length good
count-alike own good e = sym (length-mapped (λ (later : LaterUpdate). later.time) own) ∙ ap length e ∙ length-mapped (λ (later : LaterUpdate). later.time) good

-- lanes to which as many updates come
pub lane-alike : (own good : List ValueUpdate) (more other : List LaterUpdate) → length own ≡ length good → length more ≡ length other →
    length (own ++ map (λ (later : LaterUpdate). later.update) more) ≡ length (good ++ map (λ (later : LaterUpdate). later.update) other)
lane-alike own good more other e f =
    let a : length (own ++ map (λ (later : LaterUpdate). later.update) more) ≡ length own + length (map (λ (later : LaterUpdate). later.update) more) =
    length-append own (map (λ (later : LaterUpdate). later.update) more) in
    let b : length (good ++ map (λ (later : LaterUpdate). later.update) other) ≡ length good + length (map (λ (later : LaterUpdate). later.update) other) =
    length-append good (map (λ (later : LaterUpdate). later.update) other) in
    let c : length (map (λ (later : LaterUpdate). later.update) more) ≡ length more = length-mapped (λ (later : LaterUpdate). later.update) more in
    let d : length (map (λ (later : LaterUpdate). later.update) other) ≡ length other = length-mapped (λ (later : LaterUpdate). later.update) other in
    omega (arith, a, b, c, d, e, f)

-- whether there is one
pub any-alike : (own good : List ValueUpdate) → length own ≡ length good → is_any own ≡ is_any good
any-alike [] [] e = refl
any-alike [] (g ∷ good) e = absurd (omega (arith, e))
any-alike (o ∷ own) [] e = absurd (omega (arith, e))
any-alike (o ∷ own) (g ∷ good) e = refl

-- Processes

pub same-writes : (process : ProcessState) → DiffersInWrites process process
same-writes process = record { activity = refl; due = refl; lane = refl }

-- a turn leaves processes that differ in what their updates write alone so
pub turned-alike : (now : ℕ) (turn : TurnKind) (good own : ProcessState) → DiffersInWrites good own → DiffersInWrites (turned_process now turn good) (turned_process now turn own)
turned-alike now PostponedTurn good own h = record { activity = ap resumed h.activity; due = h.due; lane = h.lane }
turned-alike now UpdatesTurn good own h = record {
  activity = h.activity;
  due = filter-alike (λ time. not (nat_le time now)) own.later good.later h.due;
  lane = lane-alike own.lane good.lane (filter (is_due now) own.later) (filter (is_due now) good.later) h.lane
      (count-alike (filter (is_due now) own.later) (filter (is_due now) good.later) (filter-alike (λ time. nat_le time now) own.later good.later h.due));
}
turned-alike now (TimeTurn time) good own h = record { activity = ap (awake_at time) h.activity; due = h.due; lane = h.lane }
