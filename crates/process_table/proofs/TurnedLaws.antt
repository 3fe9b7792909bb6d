-- A table after a turn (IEEE 1364-2001, clauses 5.3 and 5.4).
use Rattle.std.proofs.Common.{◌≡◌, ℕ, zero, suc, ◌+◌, ◌<◌, ◌≤◌, Bool, true, false, not, List, [], ◌∷◌, ◌++◌, length, map, Option, Some, None, refl, sym, ap, ◌∙◌, subst, arith, append-nil}
use Rattle.std.proofs.Common.{cond}
use Rattle.std.specs.Prelude.{slice_get, filter, nat_le, ◌||◌, if◌then◌else◌}
use Rattle.std.proofs.lemmas.List.{length-map}
use Rattle.std.proofs.lemmas.Bool.{leb-false}
use Rattle.vf_base.specs.Lists.{AllHold, change_at, zip_with}
use Rattle.v_design.specs.Assignments.{ValueUpdate}
use Rattle.v_design.specs.Trees.{Entry}
use Rattle.v_design.specs.Designs.{FlatDesign, Machine}
use Rattle.v_design.specs.Processes as does
use Rattle.v_design.specs.Processes.{Activity}
use Rattle.v_design.specs.Runs.{turned_by}
use Rattle.v_design.specs.States as state
use Rattle.v_design.specs.States.{State, ProcessState, LaterUpdate, TurnKind, PostponedTurn, UpdatesTurn, TimeTurn, turned, turn_of, turn_by, time_turn_at, some_in, has_event, is_ready, is_any}
use Rattle.v_design.specs.States.{is_due, due_time, least_of, found_or, idle_process}
use Rattle.event_queue.specs.declared.held.Holding.{Holding}
use Rattle.event_queue.specs.declared.held.Holding.TheVariants as held
use Rattle.event_queue.specs.Queues.{HeldProcess, TurnRegion, holding_of, is_postponed, wakes_by, wake_time, ComesAfter, WakesAfter, next_time, next_turn, next_region, region_of, held_after}
use Rattle.event_queue.specs.Queues.{held_after_turn, free_if, without_due, numbers_where, number_if, lanes_from, lane_if, updates_due}
use Rattle.process_table.specs.declared.row.Row.{Row}
use Rattle.process_table.specs.Tables.{IsTableOf}
use Rattle.process_table.specs.Waited.{IsWaitable, WaitsAreWaitable, activity_entries, body_of}
use Rattle.process_table.specs.Rows.{RowState, row_states, row_text, IsGoodRow, made_ready, readied, with_lane}
use Rattle.process_table.specs.Arranged.{with_held, processes_of, row_ready, row_busy, row_holding, row_activity, IsTable}
use Rattle.process_table.specs.Turned.{each_changed, lanes_put, row_after, time_after}
use Rattle.process_table.proofs.Numbers.{numbers-below}
use Rattle.process_table.proofs.Steps.{waitable-readied, readied-free}
use Rattle.process_table.proofs.TableCalls.{turn-table, long}

-- One element after another, by numbers

-- numbers and lanes that begin at the next number
numbers-next : {A : Type 0} (test : A → Bool) (n : ℕ) (xs : List A) → numbers_where test (suc n) xs ≡ map suc (numbers_where test n xs)
numbers-next test n [] = refl
numbers-next test n (x ∷ xs) =
    (let e : suc n + 1 ≡ suc (n + 1) = omega arith in ap (λ m. number_if (test x) (suc n) (numbers_where test m xs)) e)
    ∙ ap (number_if (test x) (suc n)) (numbers-next test (n + 1) xs) ∙ go (test x)
  where
    go : (b : Bool) → number_if b (suc n) (map suc (numbers_where test (n + 1) xs)) ≡ map suc (number_if b n (numbers_where test (n + 1) xs))
    go true = refl
    go false = refl

abbrev next_lane : ℕ × List ValueUpdate → ℕ × List ValueUpdate
next_lane lane = (suc lane.0, lane.1)

lanes-next : {A : Type 0} (lane : A → List ValueUpdate) (n : ℕ) (xs : List A) → lanes_from lane (suc n) xs ≡ map next_lane (lanes_from lane n xs)
lanes-next lane n [] = refl
lanes-next lane n (x ∷ xs) =
    (let e : suc n + 1 ≡ suc (n + 1) = omega arith in ap (λ m. lane_if (suc n) (lane x) (lanes_from lane m xs)) e)
    ∙ ap (lane_if (suc n) (lane x)) (lanes-next lane (n + 1) xs) ∙ go (lane x)
  where
    go : (us : List ValueUpdate) → lane_if (suc n) us (map next_lane (lanes_from lane (n + 1) xs)) ≡ map next_lane (lane_if n us (lanes_from lane (n + 1) xs))
    go [] = refl
    go (u ∷ us) = refl

-- what comes after the first element changes alone
changed-next : {A : Type 0} (change : A → A) (numbers : List ℕ) (x : A) (xs : List A) → each_changed change (map suc numbers) (x ∷ xs) ≡ x ∷ each_changed change numbers xs
changed-next change [] x xs = refl
changed-next change (n ∷ numbers) x xs = changed-next change numbers x (change_at xs n change)

put-next : (lanes : List (ℕ × List ValueUpdate)) (x : RowState) (xs : List RowState) → lanes_put (map next_lane lanes) (x ∷ xs) ≡ x ∷ lanes_put lanes xs
put-next [] x xs = refl
put-next (lane ∷ lanes) x xs = put-next lanes x (change_at xs lane.0 (with_lane lane.1))

-- the elements are changed whose partners pass a test
pub changed-where : {A B : Type 0} (change : A → A) (test : B → Bool) (xs : List A) (ys : List B) → length ys ≡ length xs →
    each_changed change (numbers_where test 0 ys) xs ≡ zip_with (λ x y. cond (test y) (change x) x) xs ys
changed-where change test [] [] e = refl
changed-where change test [] (y ∷ ys) e = absurd (omega (arith, e))
changed-where change test (x ∷ xs) [] e = absurd (omega (arith, e))
changed-where change test (x ∷ xs) (y ∷ ys) e =
    (let one : 0 + 1 ≡ suc 0 = omega arith in ap (λ n. each_changed change (number_if (test y) 0 (numbers_where test n ys)) (x ∷ xs)) one)
    ∙ ap (λ ns. each_changed change (number_if (test y) 0 ns) (x ∷ xs)) (numbers-next test 0 ys)
    ∙ go (test y) (numbers_where test 0 ys)
    ∙ ap (λ zs. cond (test y) (change x) x ∷ zs) (changed-where change test xs ys (omega (arith, e)))
  where
    go : (b : Bool) (ns : List ℕ) → each_changed change (number_if b 0 (map suc ns)) (x ∷ xs) ≡ cond b (change x) x ∷ each_changed change ns xs
    go true ns = changed-next change ns (change x) xs
    go false ns = changed-next change ns x xs

-- the rows get lanes whose partners have updates
pub put-where : {B : Type 0} (lane : B → List ValueUpdate) (xs : List RowState) (ys : List B) → length ys ≡ length xs →
    lanes_put (lanes_from lane 0 ys) xs ≡ zip_with (λ x y. cond (is_any (lane y)) (with_lane (lane y) x) x) xs ys
put-where lane [] [] e = refl
put-where lane [] (y ∷ ys) e = absurd (omega (arith, e))
put-where lane (x ∷ xs) [] e = absurd (omega (arith, e))
put-where lane (x ∷ xs) (y ∷ ys) e =
    (let one : 0 + 1 ≡ suc 0 = omega arith in ap (λ n. lanes_put (lane_if 0 (lane y) (lanes_from lane n ys)) (x ∷ xs)) one)
    ∙ ap (λ ls. lanes_put (lane_if 0 (lane y) ls) (x ∷ xs)) (lanes-next lane 0 ys)
    ∙ go (lane y) (lanes_from lane 0 ys)
    ∙ ap (λ zs. cond (is_any (lane y)) (with_lane (lane y) x) x ∷ zs) (put-where lane xs ys (omega (arith, e)))
  where
    go : (us : List ValueUpdate) (ls : List (ℕ × List ValueUpdate)) → lanes_put (lane_if 0 us (map next_lane ls)) (x ∷ xs) ≡ cond (is_any us) (with_lane us x) x ∷ lanes_put ls xs
    go [] ls = put-next ls x xs
    go (u ∷ us) ls = put-next ls (with_lane (u ∷ us) x) xs

-- the numbers of lanes
pub lane-numbers : {B : Type 0} (lane : B → List ValueUpdate) (n : ℕ) (ys : List B) → map (λ (l : ℕ × List ValueUpdate). l.0) (lanes_from lane n ys) ≡ numbers_where (λ y. is_any (lane y)) n ys
lane-numbers lane n [] = refl
lane-numbers lane n (y ∷ ys) = go (lane y) ∙ ap (number_if (is_any (lane y)) n) (lane-numbers lane (n + 1) ys)
  where
    go : (us : List ValueUpdate) → map (λ (l : ℕ × List ValueUpdate). l.0) (lane_if n us (lanes_from lane (n + 1) ys)) ≡ number_if (is_any us) n
        (map (λ (l : ℕ × List ValueUpdate). l.0) (lanes_from lane (n + 1) ys))
    go [] = refl
    go (u ∷ us) = refl

-- Pairs

pairs-alike : {C : Type 0} (Q : RowState → Type 0) (f g : RowState → HeldProcess → C) → ((s : RowState) (h : HeldProcess) → h.holding ≡ row_holding s → Q s → f s h ≡ g s h) →
    (states : List RowState) (queue : List HeldProcess) →
    map (λ (h : HeldProcess). h.holding) queue ≡ map row_holding states → AllHold Q states → zip_with f states queue ≡ zip_with g states queue
pairs-alike Q f g same [] queue e q = refl
pairs-alike Q f g same (s ∷ states) [] e q = refl
pairs-alike Q f g same (s ∷ states) (h ∷ queue) e q = ap (λ y. y ∷ zip_with f states queue) (same s h (cc) q.0) ∙ ap (λ ys. g s h ∷ ys) (pairs-alike Q f g same states queue (cc) q.1)

map-pairs : {A B C D : Type 0} (g : C → D) (f : A → B → C) (xs : List A) (ys : List B) → map g (zip_with f xs ys) ≡ zip_with (λ x y. g (f x y)) xs ys
map-pairs g f [] ys = refl
map-pairs g f (x ∷ xs) [] = refl
map-pairs g f (x ∷ xs) (y ∷ ys) = ap (λ zs. g (f x y) ∷ zs) (map-pairs g f xs ys)

pairs-map : {A B C D : Type 0} (f : B → C → D) (g : A → B) (xs : List A) (ys : List C) → zip_with f (map g xs) ys ≡ zip_with (λ x y. f (g x) y) xs ys
pairs-map f g [] ys = refl
pairs-map f g (x ∷ xs) [] = refl
pairs-map f g (x ∷ xs) (y ∷ ys) = ap (λ zs. f (g x) y ∷ zs) (pairs-map f g xs ys)

pairs-both : {A B C D E : Type 0} (k : C → D → E) (f : A → B → C) (g : B → D) (xs : List A) (ys : List B) → zip_with k (zip_with f xs ys) (map g ys) ≡ zip_with (λ x y. k (f x y) (g y)) xs ys
pairs-both k f g [] ys = refl
pairs-both k f g (x ∷ xs) [] = refl
pairs-both k f g (x ∷ xs) (y ∷ ys) = ap (λ zs. k (f x y) (g y) ∷ zs) (pairs-both k f g xs ys)

map-second : {A B C : Type 0} (g : B → C) (xs : List A) (ys : List B) → length ys ≡ length xs → map g ys ≡ zip_with (λ x y. g y) xs ys
map-second g [] [] e = refl
map-second g [] (y ∷ ys) e = absurd (omega (arith, e))
map-second g (x ∷ xs) [] e = absurd (omega (arith, e))
map-second g (x ∷ xs) (y ∷ ys) e = ap (λ zs. g y ∷ zs) (map-second g xs ys (omega (arith, e)))

map-first : {A B C : Type 0} (g : A → C) (xs : List A) (ys : List B) → length ys ≡ length xs → map g xs ≡ zip_with (λ x y. g x) xs ys
map-first g [] [] e = refl
map-first g [] (y ∷ ys) e = absurd (omega (arith, e))
map-first g (x ∷ xs) [] e = absurd (omega (arith, e))
map-first g (x ∷ xs) (y ∷ ys) e = ap (λ zs. g x ∷ zs) (map-first g xs ys (omega (arith, e)))

-- any row
abbrev Any : RowState → Type 0
Any s = Unit {0}

all-any : (states : List RowState) → AllHold (λ (s : RowState). Unit {0}) states
all-any [] = tt
all-any (s ∷ states) = (tt, all-any states)

-- One process after a turn

-- what is held of it
abbrev pub held_turned : ℕ → TurnKind → HeldProcess → HeldProcess
held_turned now PostponedTurn h = free_if (is_postponed h.holding) h
held_turned now UpdatesTurn h = without_due now h
held_turned now (TimeTurn time) h = free_if (wakes_by time h.holding) h

-- the process itself
abbrev pub process_turned : ℕ → TurnKind → ProcessState → ProcessState
process_turned now PostponedTurn process = record process { activity = state.resumed process.activity }
process_turned now UpdatesTurn process = record process {
  later = filter (λ later. not (is_due now later)) process.later;
  lane = process.lane ++ map (λ (later : LaterUpdate). later.update) (filter (is_due now) process.later);
}
process_turned now (TimeTurn time) process = record process { activity = state.awake_at time process.activity }

-- a process that is held becomes ready
held-ready : (b : Bool) (a : Activity) → (holding_of a ≡ held.Free → b ≡ false) → b ≡ true → is_ready (readied a) ≡ true
held-ready b (does.Ready tasks operands) free e = refl
held-ready b (does.Waiting place entries tasks) free e = refl
held-ready b (does.Asleep time tasks) free e = refl
held-ready b (does.Postponed tasks) free e = refl
held-ready b does.Done free e = absurd (let no : b ≡ false = free refl in cc)

-- whether the row is ready
ready-if : (b : Bool) (s : RowState) → (holding_of s.activity ≡ held.Free → b ≡ false) → cond b true (row_ready s) ≡ row_ready (cond b (made_ready s) s)
ready-if true s free = sym (held-ready true s.activity free refl)
ready-if false s free = refl

-- how it is held
held-if : (b : Bool) (s : RowState) (h : HeldProcess) → h.holding ≡ row_holding s → (free_if b h).holding ≡ row_holding (cond b (made_ready s) s)
held-if true s h e = readied-free s.activity
held-if false s h e = e

-- the entries for which it may wait
waits-if : (P : Entry → Type 0) (b : Bool) (s : RowState) → AllHold P (activity_entries s.activity) → AllHold P (activity_entries (cond b (made_ready s) s).activity)
waits-if P true s h = waitable-readied P s.activity h
waits-if P false s h = h

-- a lane makes no process ready, and holds none
lane-same : {C : Type 0} (see : Activity → C) (us : List ValueUpdate) (s : RowState) → see s.activity ≡ see (cond (is_any us) (with_lane us s) s).activity
lane-same see [] s = refl
lane-same see (u ∷ us) s = refl

-- who is made ready keeps the lane
kept-lane : (b : Bool) (s : RowState) → row_busy s ≡ row_busy (cond b (made_ready s) s)
kept-lane true s = refl
kept-lane false s = refl

lane-busy : (us : List ValueUpdate) (s : RowState) → cond (is_any us) true (row_busy s) ≡ row_busy (cond (is_any us) (with_lane us s) s)
lane-busy [] s = refl
lane-busy (u ∷ us) s = refl

-- it is the process after the turn
postponed-same : (a : Activity) (later : List LaterUpdate) (lane : List ValueUpdate) (holding : Holding) → holding ≡ holding_of a →
    with_held (cond (is_postponed holding) (made_ready (record { activity = a; lane = lane })) (record { activity = a; lane = lane }))
    (free_if (is_postponed holding) (record { holding = holding; later = later }))
    ≡ record { activity = state.resumed a; later = later; lane = lane }
postponed-same a later lane holding e =
    ap (λ (hd : Holding). with_held (cond (is_postponed hd) (made_ready (record { activity = a; lane = lane })) (record { activity = a; lane = lane }))
    (free_if (is_postponed hd) (record { holding = hd; later = later }))) e ∙ go a
  where
    go : (a : Activity) → with_held (cond (is_postponed (holding_of a)) (made_ready (record { activity = a; lane = lane })) (record { activity = a; lane = lane }))
        (free_if (is_postponed (holding_of a)) (record { holding = holding_of a; later = later }))
        ≡ record { activity = state.resumed a; later = later; lane = lane }
    go (does.Ready tasks operands) = refl
    go (does.Waiting place entries tasks) = refl
    go (does.Asleep time tasks) = refl
    go (does.Postponed tasks) = refl
    go does.Done = refl

awake-same : (now : ℕ) (a : Activity) (later : List LaterUpdate) (lane : List ValueUpdate) (holding : Holding) → holding ≡ holding_of a →
    with_held (cond (wakes_by now holding) (made_ready (record { activity = a; lane = lane })) (record { activity = a; lane = lane }))
    (free_if (wakes_by now holding) (record { holding = holding; later = later }))
    ≡ record { activity = state.awake_at now a; later = later; lane = lane }
awake-same now a later lane holding e =
    ap (λ (hd : Holding). with_held (cond (wakes_by now hd) (made_ready (record { activity = a; lane = lane })) (record { activity = a; lane = lane }))
    (free_if (wakes_by now hd) (record { holding = hd; later = later }))) e ∙ go a
  where
    by_test : (b : Bool) (time : ℕ) (tasks : List does.Task) →
        with_held (cond b (made_ready (record { activity = does.Asleep time tasks; lane = lane })) (record { activity = does.Asleep time tasks; lane = lane }))
        (free_if b (record { holding = held.Asleep time; later = later }))
        ≡ record { activity = (if b then does.Ready tasks [] else does.Asleep time tasks); later = later; lane = lane }
    by_test true time tasks = refl
    by_test false time tasks = refl

    go : (a : Activity) → with_held (cond (wakes_by now (holding_of a)) (made_ready (record { activity = a; lane = lane })) (record { activity = a; lane = lane }))
        (free_if (wakes_by now (holding_of a)) (record { holding = holding_of a; later = later }))
        ≡ record { activity = state.awake_at now a; later = later; lane = lane }
    go (does.Ready tasks operands) = refl
    go (does.Waiting place entries tasks) = refl
    go (does.Asleep time tasks) = by_test (nat_le time now) time tasks
    go (does.Postponed tasks) = refl
    go does.Done = refl

updates-same : (us : List ValueUpdate) (s : RowState) (h : HeldProcess) → s.lane ≡ [] → with_held
    (cond (is_any us) (with_lane us s) s) h ≡ record { activity = s.activity; later = h.later; lane = s.lane ++ us }
updates-same [] s h empty = ap (λ l. record { activity = s.activity; later = h.later; lane = l }) (sym (append-nil s.lane))
updates-same (u ∷ us) s h empty = ap (λ l. record { activity = s.activity; later = h.later; lane = l ++ (u ∷ us) }) (sym empty)

pub process-same : (now : ℕ) (kind : TurnKind) (s : RowState) (h : HeldProcess) → h.holding ≡ row_holding s → s.lane ≡ [] →
    with_held (row_after now kind s h) (held_turned now kind h) ≡ process_turned now kind (with_held s h)
process-same now PostponedTurn s h e empty = postponed-same s.activity h.later s.lane h.holding e
process-same now UpdatesTurn s h e empty = updates-same (updates_due now h.later) s (without_due now h) empty
process-same now (TimeTurn time) s h e empty = awake-same time s.activity h.later s.lane h.holding e

-- The next time is the least

-- a time that is there isn't less than another
abbrev AtLeast : ℕ → Option ℕ → Type 0
AtLeast least None = Unit {0}
AtLeast least (Some time) = least ≤ time

least-both : (least : ℕ) (one other : Option ℕ) → AtLeast least (least_of one other) → AtLeast least one × AtLeast least other
least-both least None other h = (tt, h)
least-both least (Some time) None h = (h, tt)
least-both least (Some time) (Some other) h = (omega (arith, h), omega (arith, h))

least-due : (least : ℕ) (later : List LaterUpdate) → AtLeast least (due_time later) → AllHold (λ (l : LaterUpdate). least ≤ l.time) later
least-due least [] h = tt
least-due least (l ∷ later) h = let both = least-both least (Some l.time) (due_time later) h in (both.0, least-due least later both.1)

-- a sleeper that isn't woken wakes later
wakes-later : (time : ℕ) (holding : Holding) (later : List LaterUpdate) → AtLeast time (wake_time holding) →
    WakesAfter time (free_if (wakes_by time holding) (record { holding = holding; later = later })).holding
wakes-later time held.Free later h = tt
wakes-later time (held.Asleep wake) later h = go (nat_le wake time) refl
  where
    go : (b : Bool) → nat_le wake time ≡ b → WakesAfter time (free_if b (record { holding = held.Asleep wake; later = later })).holding
    go true e = tt
    go false e = leb-false wake time e
wakes-later time held.Postponed later h = tt

later-same : (P : List LaterUpdate → Type 0) (b : Bool) (h : HeldProcess) → P h.later → P (free_if b h).later
later-same P true h p = p
later-same P false h p = p

time-after : (time : ℕ) (queue : List HeldProcess) → AtLeast time (next_time queue) → AllHold (ComesAfter time) (map (λ (h : HeldProcess). free_if (wakes_by time h.holding) h) queue)
time-after time [] h = tt
time-after time (x ∷ queue) h =
    let both = least-both time (least_of (wake_time x.holding) (due_time x.later)) (next_time queue) h in
    let own = least-both time (wake_time x.holding) (due_time x.later) both.0 in (
      (wakes-later time x.holding x.later own.0, later-same (AllHold (λ (l : LaterUpdate). time ≤ l.time)) (wakes_by time x.holding) x (least-due time x.later own.1)),
      time-after time queue both.1,
    )

postponed-after : (time : ℕ) (queue : List HeldProcess) → AllHold (ComesAfter time) queue → AllHold (ComesAfter time) (map (λ (h : HeldProcess). free_if (is_postponed h.holding) h) queue)
postponed-after time [] h = tt
postponed-after time (x ∷ queue) h = (one (is_postponed x.holding), postponed-after time queue h.1)
  where
    one : (b : Bool) → ComesAfter time (free_if b x)
    one true = (tt, h.0.1)
    one false = h.0

left-later : (time : ℕ) (test : LaterUpdate → Bool) (later : List LaterUpdate) → AllHold (λ (l : LaterUpdate). time ≤ l.time) later → AllHold (λ (l : LaterUpdate). time ≤ l.time) (filter test later)
left-later time test [] h = tt
left-later time test (l ∷ later) h = go (test l) (left-later time test later h.1)
  where
    go : (b : Bool) → AllHold (λ (l : LaterUpdate). time ≤ l.time) (filter test later) → AllHold (λ (l : LaterUpdate). time ≤ l.time) (cond b (l ∷ filter test later) (filter test later))
    go true rest = (h.0, rest)
    go false rest = rest

updates-after : (time : ℕ) (queue : List HeldProcess) → AllHold (ComesAfter time) queue → AllHold (ComesAfter time) (map (without_due time) queue)
updates-after time [] h = tt
updates-after time (x ∷ queue) h = ((h.0.0, left-later time (λ later. not (is_due time later)) x.later h.0.1), updates-after time queue h.1)

-- the time of a turn to another time
turn-time : (postponed due : Bool) (next : Option ℕ) (time : ℕ) → turn_by postponed due next ≡ Some (TimeTurn time) → next ≡ Some time
turn-time true due next time e = absurd (cc)
turn-time false true next time e = absurd (cc)
turn-time false false None time e = absurd (cc)
turn-time false false (Some other) time e = (let same : other ≡ time = cc in ap Some same)

comes-after : (time : ℕ) (kind : TurnKind) (queue : List HeldProcess) → next_turn time queue ≡ Some kind → AllHold (ComesAfter time) queue →
    AllHold (ComesAfter (time_after time kind)) (map (held_turned time kind) queue)
comes-after time PostponedTurn queue next h = postponed-after time queue h
comes-after time UpdatesTurn queue next h = updates-after time queue h
comes-after time (TimeTurn later) queue next h =
    time-after later queue
    (subst (AtLeast later) (sym (turn-time (some_in (λ (h : HeldProcess). is_postponed h.holding) queue) (some_in (λ (h : HeldProcess). some_in (is_due time) h.later) queue)
    (next_time queue) later next)) (omega arith))

-- What the queue holds after it
queue-after : (time : ℕ) (kind : TurnKind) (queue : List HeldProcess) → next_turn time queue ≡ Some kind → held_after time queue ≡ map (held_turned time kind) queue
queue-after time kind queue next = ap (λ turn. held_after_turn time turn queue) next ∙ go kind
  where
    go : (kind : TurnKind) → held_after_turn time (Some kind) queue ≡ map (held_turned time kind) queue
    go PostponedTurn = refl
    go UpdatesTurn = refl
    go (TimeTurn later) = refl

-- a turn that activates something is there, and one that activates nothing isn't
pub region-kind : (time : ℕ) (turn : Option TurnKind) (queue : List HeldProcess) (region : TurnRegion) → Some region ≡ region_of time turn queue → (kind : TurnKind) × (turn ≡ Some kind)
region-kind time None queue region e = absurd (cc)
region-kind time (Some kind) queue region e = (kind, refl)

pub region-none : (time : ℕ) (turn : Option TurnKind) (queue : List HeldProcess) → None ≡ region_of time turn queue → turn ≡ None
region-none time None queue e = refl
region-none time (Some PostponedTurn) queue e = absurd (cc)
region-none time (Some UpdatesTurn) queue e = absurd (cc)
region-none time (Some (TimeTurn later)) queue e = absurd (cc)

-- the numbers of what it activates
pub region-below : (time : ℕ) (turn : Option TurnKind) (queue : List HeldProcess) (region : TurnRegion) → Some region ≡ region_of time turn queue →
    AllHold (λ number. number < length queue) region.processes × AllHold (λ number. number < length queue) (map (λ (l : ℕ × List ValueUpdate). l.0) region.lanes)
region-below time None queue region e = absurd (cc)
region-below time (Some PostponedTurn) queue region e =
    let same : record { time = time; processes = numbers_where (λ (h : HeldProcess). is_postponed h.holding) 0 queue; lanes = [] } ≡ region = cc in
    subst (λ (r : TurnRegion). AllHold (λ number. number < length queue) r.processes × AllHold (λ number. number < length queue) (map (λ (l : ℕ × List ValueUpdate). l.0) r.lanes)) same
    (numbers-below (λ (h : HeldProcess). is_postponed h.holding) 0 (length queue) queue (omega arith), tt)
region-below time (Some UpdatesTurn) queue region e =
    let same : record { time = time; processes = []; lanes = lanes_from (λ (h : HeldProcess). updates_due time h.later) 0 queue } ≡ region = cc in
    subst (λ (r : TurnRegion). AllHold (λ number. number < length queue) r.processes × AllHold (λ number. number < length queue) (map (λ (l : ℕ × List ValueUpdate). l.0) r.lanes)) same (
      tt,
      subst (AllHold (λ number. number < length queue)) (sym (lane-numbers (λ (h : HeldProcess). updates_due time h.later) 0 queue))
          (numbers-below (λ (h : HeldProcess). is_any (updates_due time h.later)) 0 (length queue) queue (omega arith)),
    )
region-below time (Some (TimeTurn later)) queue region e =
    let same : record { time = later; processes = numbers_where (λ (h : HeldProcess). wakes_by later h.holding) 0 queue; lanes = [] } ≡ region = cc in
    subst (λ (r : TurnRegion). AllHold (λ number. number < length queue) r.processes × AllHold (λ number. number < length queue) (map (λ (l : ℕ × List ValueUpdate). l.0) r.lanes)) same
    (numbers-below (λ (h : HeldProcess). wakes_by later h.holding) 0 (length queue) queue (omega arith), tt)

-- What a turn does to the rows, the sets and the present time, all told

-- a row for each that is held, as it is held
record IsPaired (states : List RowState) (queue : List HeldProcess) : Type 0 where
  as_long : length queue ≡ length states
  holdings : map (λ (h : HeldProcess). h.holding) queue ≡ map row_holding states

twice : {A B C : Type 0} (f : B → C) (g : A → B) (xs : List A) → map f (map g xs) ≡ map (λ x. f (g x)) xs
twice f g [] = refl
twice f g (x ∷ xs) = ap (λ ys. f (g x) ∷ ys) (twice f g xs)

time-told : (time : ℕ) (kind : TurnKind) (queue : List HeldProcess) (region : TurnRegion) → Some region ≡ region_of time (Some kind) queue → region.time ≡ time_after time kind
time-told time PostponedTurn queue region e = cc
time-told time UpdatesTurn queue region e = cc
time-told time (TimeTurn later) queue region e = cc

states-told : (time : ℕ) (kind : TurnKind) (states : List RowState) (queue : List HeldProcess) (region : TurnRegion) → length queue ≡ length states → Some region ≡ region_of time (Some kind) queue →
    lanes_put region.lanes (each_changed made_ready region.processes states) ≡ zip_with (row_after time kind) states queue
states-told time PostponedTurn states queue region long e =
    let same : region ≡ record { time = time; processes = numbers_where (λ (h : HeldProcess). is_postponed h.holding) 0 queue; lanes = [] } = cc in
    ap (λ (r : TurnRegion). lanes_put r.lanes (each_changed made_ready r.processes states)) same ∙ changed-where made_ready (λ (h : HeldProcess). is_postponed h.holding) states queue long
states-told time UpdatesTurn states queue region long e =
    let same : region ≡ record { time = time; processes = []; lanes = lanes_from (λ (h : HeldProcess). updates_due time h.later) 0 queue } = cc in
    ap (λ (r : TurnRegion). lanes_put r.lanes (each_changed made_ready r.processes states)) same ∙ put-where (λ (h : HeldProcess). updates_due time h.later) states queue long
states-told time (TimeTurn later) states queue region long e =
    let same : region ≡ record { time = later; processes = numbers_where (λ (h : HeldProcess). wakes_by later h.holding) 0 queue; lanes = [] } = cc in
    ap (λ (r : TurnRegion). lanes_put r.lanes (each_changed made_ready r.processes states)) same ∙ changed-where made_ready (λ (h : HeldProcess). wakes_by later h.holding) states queue long

-- the set of the processes that are ready, where a test of how they are held makes them so
readied-set : (test : Holding → Bool) (states : List RowState) (queue : List HeldProcess) → test held.Free ≡ false → IsPaired states queue →
    each_changed (λ (member : Bool). true) (numbers_where (λ (h : HeldProcess). test h.holding) 0 queue) (map row_ready states) ≡ map row_ready
    (zip_with (λ (s : RowState) (h : HeldProcess). cond (test h.holding) (made_ready s) s) states queue)
readied-set test states queue free paired =
    changed-where (λ (member : Bool). true) (λ (h : HeldProcess). test h.holding) (map row_ready states) queue (paired.as_long ∙ sym (length-map states row_ready))
    ∙ pairs-map (λ (b : Bool) (h : HeldProcess). cond (test h.holding) true b) row_ready states queue
    ∙ pairs-alike Any (λ (s : RowState) (h : HeldProcess). cond (test h.holding) true (row_ready s)) (λ (s : RowState) (h : HeldProcess). row_ready (cond (test h.holding) (made_ready s) s))
    (λ s h e any. ready-if (test h.holding) s (λ is_free. ap test (e ∙ is_free) ∙ free)) states queue paired.holdings (all-any states)
    ∙ sym (map-pairs row_ready (λ (s : RowState) (h : HeldProcess). cond (test h.holding) (made_ready s) s) states queue)

kept-set : {C : Type 0} (see : RowState → C) (after : RowState → HeldProcess → RowState) → ((s : RowState) (h : HeldProcess) → see s ≡ see (after s h)) →
    (states : List RowState) (queue : List HeldProcess) → IsPaired states queue →
    map see states ≡ map see (zip_with after states queue)
kept-set see after same states queue paired =
    map-first see states queue paired.as_long
    ∙ pairs-alike Any (λ (s : RowState) (h : HeldProcess). see s) (λ (s : RowState) (h : HeldProcess). see (after s h)) (λ s h e any. same s h) states queue paired.holdings (all-any states)
    ∙ sym (map-pairs see after states queue)

ready-told : (time : ℕ) (kind : TurnKind) (states : List RowState) (queue : List HeldProcess) (region : TurnRegion) → IsPaired states queue → Some region ≡ region_of time (Some kind) queue →
    each_changed (λ (member : Bool). true) region.processes (map row_ready states) ≡ map row_ready (zip_with (row_after time kind) states queue)
ready-told time PostponedTurn states queue region paired e =
    let same : region.processes ≡ numbers_where (λ (h : HeldProcess). is_postponed h.holding) 0 queue = cc in
    ap (λ ns. each_changed (λ (member : Bool). true) ns (map row_ready states)) same ∙ readied-set is_postponed states queue refl paired
ready-told time UpdatesTurn states queue region paired e =
    let same : region.processes ≡ [] = cc in
    ap (λ ns. each_changed (λ (member : Bool). true) ns (map row_ready states)) same
    ∙ kept-set row_ready (row_after time UpdatesTurn) (λ s h. lane-same is_ready (updates_due time h.later) s) states queue paired
ready-told time (TimeTurn later) states queue region paired e =
    let same : region.processes ≡ numbers_where (λ (h : HeldProcess). wakes_by later h.holding) 0 queue = cc in
    ap (λ ns. each_changed (λ (member : Bool). true) ns (map row_ready states)) same ∙ readied-set (wakes_by later) states queue refl paired

lanes-told : (time : ℕ) (kind : TurnKind) (states : List RowState) (queue : List HeldProcess) (region : TurnRegion) → IsPaired states queue → Some region ≡ region_of time (Some kind) queue →
    each_changed (λ (member : Bool). true) (map (λ (l : ℕ × List ValueUpdate). l.0) region.lanes) (map row_busy states) ≡ map row_busy (zip_with (row_after time kind) states queue)
lanes-told time PostponedTurn states queue region paired e =
    let same : region.lanes ≡ [] = cc in
    ap (λ (ls : List (ℕ × List ValueUpdate)). each_changed (λ (member : Bool). true) (map (λ (l : ℕ × List ValueUpdate). l.0) ls) (map row_busy states)) same
    ∙ kept-set row_busy (row_after time PostponedTurn) (λ s h. kept-lane (is_postponed h.holding) s) states queue paired
lanes-told time UpdatesTurn states queue region paired e =
    let same : region.lanes ≡ lanes_from (λ (h : HeldProcess). updates_due time h.later) 0 queue = cc in
    ap (λ (ls : List (ℕ × List ValueUpdate)). each_changed (λ (member : Bool). true) (map (λ (l : ℕ × List ValueUpdate). l.0) ls) (map row_busy states)) same
    ∙ ap (λ ns. each_changed (λ (member : Bool). true) ns (map row_busy states)) (lane-numbers (λ (h : HeldProcess). updates_due time h.later) 0 queue)
    ∙ changed-where (λ (member : Bool). true) (λ (h : HeldProcess). is_any (updates_due time h.later)) (map row_busy states) queue (paired.as_long ∙ sym (length-map states row_busy))
    ∙ pairs-map (λ (b : Bool) (h : HeldProcess). cond (is_any (updates_due time h.later)) true b) row_busy states queue
    ∙ pairs-alike Any (λ (s : RowState) (h : HeldProcess). cond (is_any (updates_due time h.later)) true (row_busy s)) (λ (s : RowState) (h : HeldProcess). row_busy (row_after time UpdatesTurn s h))
    (λ s h e any. lane-busy (updates_due time h.later) s) states queue paired.holdings (all-any states)
    ∙ sym (map-pairs row_busy (row_after time UpdatesTurn) states queue)
lanes-told time (TimeTurn later) states queue region paired e =
    let same : region.lanes ≡ [] = cc in
    ap (λ (ls : List (ℕ × List ValueUpdate)). each_changed (λ (member : Bool). true) (map (λ (l : ℕ × List ValueUpdate). l.0) ls) (map row_busy states)) same
    ∙ kept-set row_busy (row_after time (TimeTurn later)) (λ s h. kept-lane (wakes_by later h.holding) s) states queue paired

-- how each is held
holding-same : (time : ℕ) (kind : TurnKind) (s : RowState) (h : HeldProcess) → h.holding ≡ row_holding s → (held_turned time kind h).holding ≡ row_holding (row_after time kind s h)
holding-same time PostponedTurn s h e = held-if (is_postponed h.holding) s h e
holding-same time UpdatesTurn s h e = e ∙ lane-same holding_of (updates_due time h.later) s
holding-same time (TimeTurn later) s h e = held-if (wakes_by later h.holding) s h e

holdings-told : (time : ℕ) (kind : TurnKind) (states : List RowState) (queue : List HeldProcess) → IsPaired states queue →
    map (λ (h : HeldProcess). h.holding) (map (held_turned time kind) queue) ≡ map row_holding (zip_with (row_after time kind) states queue)
holdings-told time kind states queue paired =
    twice (λ (h : HeldProcess). h.holding) (held_turned time kind) queue
    ∙ map-second (λ (h : HeldProcess). (held_turned time kind h).holding) states queue paired.as_long
    ∙ pairs-alike Any (λ (s : RowState) (h : HeldProcess). (held_turned time kind h).holding) (λ (s : RowState) (h : HeldProcess). row_holding (row_after time kind s h))
    (λ s h e any. holding-same time kind s h e) states queue
    paired.holdings (all-any states)
    ∙ sym (map-pairs row_holding (row_after time kind) states queue)

-- the entries for which each may wait
waits-one : (P : Entry → Type 0) (time : ℕ) (kind : TurnKind) (s : RowState) (h : HeldProcess) → AllHold P (activity_entries s.activity) →
    AllHold P (activity_entries (row_after time kind s h).activity)
waits-one P time PostponedTurn s h waits = waits-if P (is_postponed h.holding) s waits
waits-one P time UpdatesTurn s h waits = subst (λ (es : List Entry). AllHold P es) (lane-same activity_entries (updates_due time h.later) s) waits
waits-one P time (TimeTurn later) s h waits = waits-if P (wakes_by later h.holding) s waits

waits-told : (P : ℕ → Entry → Type 0) (time : ℕ) (kind : TurnKind) (states : List RowState) (queue : List HeldProcess) → length queue ≡ length states →
    ((n : ℕ) → AllHold (P n) (activity_entries (found_or does.Done (slice_get (map row_activity states) n)))) →
    (n : ℕ) → AllHold (P n) (activity_entries (found_or does.Done (slice_get (map row_activity (zip_with (row_after time kind) states queue)) n)))
waits-told P time kind [] queue long h n = h n
waits-told P time kind (s ∷ states) [] long h n = absurd (omega (arith, long))
waits-told P time kind (s ∷ states) (x ∷ queue) long h zero = waits-one (P 0) time kind s x (h 0)
waits-told P time kind (s ∷ states) (x ∷ queue) long h (suc n) = waits-told (λ m. P (suc m)) time kind states queue (omega (arith, long)) (λ m. h (suc m)) n

-- no lane has an update where no process has an event
empty-lane : (us : List ValueUpdate) → is_any us ≡ false → us ≡ []
empty-lane [] e = refl
empty-lane (u ∷ us) e = absurd (cc)

neither : (b c : Bool) → (b || c) ≡ false → (b ≡ false) × (c ≡ false)
neither true c e = absurd (cc)
neither false c e = (refl, e)

pub quiet-lanes : (states : List RowState) (queue : List HeldProcess) → length queue ≡ length states → some_in has_event (processes_of states queue) ≡ false →
    AllHold (λ (s : RowState). s.lane ≡ []) states
quiet-lanes [] queue long e = tt
quiet-lanes (s ∷ states) [] long e = absurd (omega (arith, long))
quiet-lanes (s ∷ states) (h ∷ queue) long e =
    let parts = neither (has_event (with_held s h)) (some_in has_event (processes_of states queue)) e in
    (empty-lane s.lane (neither (is_ready s.activity) (is_any s.lane) parts.0).1, quiet-lanes states queue (omega (arith, long)) parts.1)

-- the processes after it
processes-told : (time : ℕ) (kind : TurnKind) (states : List RowState) (queue : List HeldProcess) → IsPaired states queue → AllHold (λ (s : RowState). s.lane ≡ []) states →
    processes_of (zip_with (row_after time kind) states queue) (map (held_turned time kind) queue) ≡ map (process_turned time kind) (processes_of states queue)
processes-told time kind states queue paired empty =
    pairs-both with_held (row_after time kind) (held_turned time kind) states queue
    ∙ pairs-alike (λ (s : RowState). s.lane ≡ []) (λ (s : RowState) (h : HeldProcess). with_held (row_after time kind s h) (held_turned time kind h))
    (λ (s : RowState) (h : HeldProcess). process_turned time kind (with_held s h))
    (λ s h e lane. process-same time kind s h e lane) states queue paired.holdings empty
    ∙ sym (map-pairs (process_turned time kind) with_held states queue)

-- the state after it
state-told : (kind : TurnKind) (now : State) → ((turned kind now).time ≡ time_after now.time kind) × ((turned kind now).processes ≡ map (process_turned now.time kind) now.processes)
state-told PostponedTurn now = (refl, refl)
state-told UpdatesTurn now = (refl, refl)
state-told (TimeTurn later) now = (refl, refl)

-- The table after a turn

module _ (design : FlatDesign) (time : ℕ) (rows : List Row) (waiters : List (List ℕ)) (ready lanes : List Bool) (queue : List HeldProcess)
    (table : IsTable design time rows waiters ready lanes queue) where
  paired : IsPaired (row_states rows) queue
  paired = record { as_long = long design time rows waiters ready lanes queue table; holdings = table.holdings }

  -- its parts agree
  pub turned-table : (region : TurnRegion) (rows2 : List Row) (ready1 lanes1 : List Bool) (queue1 : List HeldProcess) → Some region ≡ next_region time queue → map row_text rows2 ≡ map row_text rows →
      (AllHold IsGoodRow rows → AllHold IsGoodRow rows2) → row_states rows2 ≡ lanes_put region.lanes (each_changed made_ready region.processes (row_states rows)) →
      ready1 ≡ each_changed (λ (member : Bool). true) region.processes ready → lanes1 ≡ each_changed (λ (member : Bool). true) (map (λ (l : ℕ × List ValueUpdate). l.0) region.lanes) lanes →
      queue1 ≡ held_after time queue → IsTable design region.time rows2 waiters ready1 lanes1 queue1
  turned-table region rows2 ready1 lanes1 queue1 is texts good states ready_is lanes_is queue_is =
      let some = region-kind time (next_turn time queue) queue region is in
      let kind = some.0 in
      let told : Some region ≡ region_of time (Some kind) queue = is ∙ ap (λ turn. region_of time turn queue) some.1 in
      let after : row_states rows2 ≡ zip_with (row_after time kind) (row_states rows) queue = states ∙ states-told time kind (row_states rows) queue region paired.as_long told in
      let held_is : queue1 ≡ map (held_turned time kind) queue = queue_is ∙ queue-after time kind queue some.1 in
      let later : region.time ≡ time_after time kind = time-told time kind queue region told in
      record {
        texts = texts ∙ table.texts;
        good = good table.good;
        index = table.index;
        ready = ready_is ∙ ap (each_changed (λ (member : Bool). true) region.processes) table.ready ∙ ready-told time kind (row_states rows) queue region paired told ∙ ap (map row_ready) (sym after);
        lanes =
            lanes_is ∙ ap (each_changed (λ (member : Bool). true) (map (λ (l : ℕ × List ValueUpdate). l.0) region.lanes)) table.lanes ∙ lanes-told time kind (row_states rows) queue region paired told
            ∙ ap (map row_busy) (sym after);
        holdings = ap (map (λ (h : HeldProcess). h.holding)) held_is ∙ holdings-told time kind (row_states rows) queue paired ∙ ap (map row_holding) (sym after);
        after = subst (λ t. AllHold (ComesAfter t) queue1) (sym later) (subst (AllHold (ComesAfter (time_after time kind))) (sym held_is) (comes-after time kind queue some.1 table.after));
        waits =
            subst (λ (ss : List RowState). WaitsAreWaitable design (map row_activity ss)) (sym after)
            (waits-told (λ n. IsWaitable design (body_of design n)) time kind (row_states rows) queue paired.as_long table.waits);
      }

  -- it stands for the state after the turn
  pub turned-state : (region : TurnRegion) (rows2 : List Row) (queue1 : List HeldProcess) → Some region ≡ next_region time queue →
      row_states rows2 ≡ lanes_put region.lanes (each_changed made_ready region.processes (row_states rows)) → queue1 ≡ held_after time queue →
      some_in has_event (processes_of (row_states rows) queue) ≡ false →
      (machine : Machine) (now : State) → IsTableOf machine now (record { design = design; time = time; processes = processes_of (row_states rows) queue }) →
      IsTableOf machine (turned_by (turn_of now) now) (record { design = design; time = region.time; processes = processes_of (row_states rows2) queue1 })
  turned-state region rows2 queue1 is states queue_is quiet machine now of =
      let some = region-kind time (next_turn time queue) queue region is in
      let kind = some.0 in
      let told : Some region ≡ region_of time (Some kind) queue = is ∙ ap (λ turn. region_of time turn queue) some.1 in
      let turn : turn_of now ≡ Some kind = sym (turn-table design time rows waiters ready lanes queue table machine now of) ∙ some.1 in
      let after : row_states rows2 ≡ zip_with (row_after time kind) (row_states rows) queue = states ∙ states-told time kind (row_states rows) queue region paired.as_long told in
      let held_is : queue1 ≡ map (held_turned time kind) queue = queue_is ∙ queue-after time kind queue some.1 in
      let both = state-told kind now in
      subst (λ (t : Option TurnKind). IsTableOf machine (turned_by t now) (record { design = design; time = region.time; processes = processes_of (row_states rows2) queue1 })) (sym turn)
      (record {
        design = of.design;
        time = time-told time kind queue region told ∙ ap (λ t. time_after t kind) of.time ∙ sym both.0;
        processes =
            ap (λ (ss : List RowState). processes_of ss queue1) after ∙ ap (processes_of (zip_with (row_after time kind) (row_states rows) queue)) held_is
            ∙ processes-told time kind (row_states rows) queue paired (quiet-lanes (row_states rows) queue paired.as_long quiet)
            ∙ ap (λ t. map (process_turned t kind) (processes_of (row_states rows) queue)) of.time
            ∙ ap (map (process_turned now.time kind)) of.processes ∙ sym both.1;
      })

  -- where there is no turn nothing changes
  pub unturned-queue : (queue1 : List HeldProcess) → None ≡ next_region time queue → queue1 ≡ held_after time queue → queue1 ≡ queue
  unturned-queue queue1 none queue_is = queue_is ∙ ap (λ turn. held_after_turn time turn queue) (region-none time (next_turn time queue) queue none)

  pub unturned-state : None ≡ next_region time queue → (machine : Machine) (now : State) →
      IsTableOf machine now (record { design = design; time = time; processes = processes_of (row_states rows) queue }) → turn_of now ≡ None
  unturned-state none machine now of = sym (turn-table design time rows waiters ready lanes queue table machine now of) ∙ region-none time (next_turn time queue) queue none
