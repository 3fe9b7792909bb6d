-- The next turn of what is held, by the tests of one time.
use Rattle.std.proofs.Common.{◌≡◌, ℕ, ◌<◌, ◌≤◌, Bool, true, false, not, ◌||◌, List, [], ◌∷◌, map, filter, Option, Some, None, refl, sym, ◌∙◌, ap, arith, cond, subst, ⊎_elim}
use Rattle.std.proofs.lemmas.Bool.{eq-eqb, ne_eqb, or_parts, or_left, or_right, le-leb, lt-leb, cases_eq}
use Rattle.vf_base.specs.Lists.{AllHold}
use Rattle.v_design.specs.Assignments.{ValueUpdate}
use Rattle.v_design.specs.States.{LaterUpdate, some_in, is_due, turn_by, TurnKind, PostponedTurn, UpdatesTurn, TimeTurn, due_time, least_of}
use Rattle.event_queue.specs.declared.held.Holding.{Holding}
use Rattle.event_queue.specs.declared.held.Holding.TheVariants.{Free, Asleep, Postponed}
use Rattle.event_queue.specs.Queues.{HeldProcess, ComesAfter, HoldsNothing, TurnRegion, is_postponed, wakes_by, wake_time, next_time, next_turn, updates_due, without_due, released, free_if}
use Rattle.event_queue.specs.Queues.{numbers_where, lanes_from, region_of, next_region, held_after_turn, held_after}
use Rattle.event_queue.specs.Arranged.{wakes_at, is_at, updates_at, without_at, lane_of, processes_where, TakesPostponed, TakesLanes}
use Rattle.event_queue.proofs.Arrangements.{numbers-processes}
use Rattle.vf_base.specs.declared.ids.ProcId.{ProcId}
use Rattle.vf_base.specs.Base.{process_number}
use Rattle.v_design.specs.declared.plan.Update.{Update}
use Rattle.event_queue.proofs.Numbers.{AllHold-weaker, numbers_where-same, lanes_from-same, map-same}
use Rattle.event_queue.proofs.NextTimes.{IsLeast, IsLeast-next_time, comes_at}

-- a test of a list, where two tests agree
pub some_in-same : {A : Type 0} (p q : A → Bool) (xs : List A) → AllHold (λ x. p x ≡ q x) xs → some_in p xs ≡ some_in q xs
some_in-same p q [] h = refl
some_in-same p q (x ∷ xs) h = ap (λ b. b || some_in p xs) h.0 ∙ ap (λ b. q x || b) (some_in-same p q xs h.1)

-- filters that agree
pub filter-same : {A : Type 0} (p q : A → Bool) (xs : List A) → AllHold (λ x. p x ≡ q x) xs → filter p xs ≡ filter q xs
filter-same p q [] h = refl
filter-same p q (x ∷ xs) h = ap (λ b. cond b (x ∷ filter p xs) (filter p xs)) h.0 ∙ ap (λ ys. cond (q x) (x ∷ ys) ys) (filter-same p q xs h.1)

-- Updates that aren't due before now are due by now just where they are due at it
due-now : (now : ℕ) (l : LaterUpdate) → now ≤ l.time → is_due now l ≡ is_at now l
due-now now l after =
    ⊎_elim (λ e. le-leb l.time now (omega arith) ∙ sym (eq-eqb l.time now e)) (λ ne. let more : now < l.time = omega arith in lt-leb l.time now more ∙ sym (ne_eqb l.time now ne)) (cases_eq l.time now)

-- of each update of a list
dues-now : (now : ℕ) (later : List LaterUpdate) → AllHold (λ (l : LaterUpdate). now ≤ l.time) later → AllHold (λ l. is_due now l ≡ is_at now l) later
dues-now now later h = AllHold-weaker (λ (l : LaterUpdate). now ≤ l.time) (λ l. is_due now l ≡ is_at now l) later (due-now now) h

module _ (now : ℕ) (held : List HeldProcess) (after : AllHold (ComesAfter now) held) where
  -- whether an update is due
  pub due-some_in : some_in (λ (h : HeldProcess). some_in (is_due now) h.later) held ≡ some_in (λ (h : HeldProcess). some_in (is_at now) h.later) held
  due-some_in = some_in-same _ _ held (AllHold-weaker (ComesAfter now) _ held (λ h a. some_in-same (is_due now) (is_at now) h.later (dues-now now h.later a.1)) after)

  -- the lanes of the updates that are due
  pub due-lanes : lanes_from (λ (h : HeldProcess). updates_due now h.later) 0 held ≡ lanes_from (updates_at now) 0 held
  due-lanes =
      lanes_from-same _ (updates_at now) 0 held
      (AllHold-weaker (ComesAfter now) _ held (λ h a. ap (map (λ (l : LaterUpdate). l.update)) (filter-same (is_due now) (is_at now) h.later (dues-now now h.later a.1))) after)

  -- what is left of the updates
  pub due-left : map (without_due now) held ≡ map (without_at now) held
  due-left =
      map-same (without_due now) (without_at now) held
      (AllHold-weaker (ComesAfter now) _ held
      (λ h a.
      let with : List LaterUpdate → HeldProcess = λ later. record { holding = h.holding; later = later } in
      ap with (filter-same (λ l. not (is_due now l)) (λ l. not (is_at now l)) h.later (AllHold-weaker (λ l. is_due now l ≡ is_at now l) _ h.later (λ l e. ap not e) (dues-now now h.later a.1))))
      after)

-- No process wakes before the least time

-- where nothing comes before a time a process wakes by it just where it wakes at it
waking-now : (time : ℕ) (holding : Holding) → ((t : ℕ) → wakes_at t holding ≡ true → time ≤ t) → wakes_by time holding ≡ wakes_at time holding
waking-now time Free h = refl
waking-now time (Asleep wake) h =
    let from : time ≤ wake = h wake (eq-eqb wake wake refl) in
    ⊎_elim (λ e. le-leb wake time (omega arith) ∙ sym (eq-eqb wake time e)) (λ ne. let more : time < wake = omega arith in lt-leb wake time more ∙ sym (ne_eqb wake time ne)) (cases_eq wake time)
waking-now time Postponed h = refl

-- of each process
wakings-now : (time : ℕ) (held : List HeldProcess) → ((t : ℕ) → some_in (comes_at t) held ≡ true → time ≤ t)
    → AllHold (λ (h : HeldProcess). wakes_by time h.holding ≡ wakes_at time h.holding) held
wakings-now time [] h = tt
wakings-now time (x ∷ held) h = (
  waking-now time x.holding (λ t e. h t (or_left (comes_at t x) (some_in (comes_at t) held) (or_left (wakes_at t x.holding) (some_in (is_at t) x.later) e))),
  wakings-now time held (λ t e. h t (or_right (comes_at t x) (some_in (comes_at t) held) e)),
)

module _ (time : ℕ) (held : List HeldProcess) (next : next_time held ≡ Some time) where
  -- no process wakes earlier
  least : AllHold (λ (h : HeldProcess). wakes_by time h.holding ≡ wakes_at time h.holding) held
  least =
      let Least : Option ℕ → Type 0 = IsLeast (λ t. some_in (comes_at t) held) in
      let m : Least (Some time) = subst Least next (IsLeast-next_time held) in
      wakings-now time held m.1

  -- the processes that wake
  pub waking-numbers : numbers_where (λ (h : HeldProcess). wakes_by time h.holding) 0 held ≡ numbers_where (λ (h : HeldProcess). wakes_at time h.holding) 0 held
  waking-numbers = numbers_where-same _ _ 0 held least

  -- what is left of the sleepers
  pub waking-left : released (wakes_by time) held ≡ released (wakes_at time) held
  waking-left =
      map-same _ _ held (AllHold-weaker (λ (h : HeldProcess). wakes_by time h.holding ≡ wakes_at time h.holding) _ held (λ h e. ap (λ b. free_if b h) e) least)

-- Nothing is held where no turn comes

-- a least time that is missing
least_of-None : (a b : Option ℕ) → least_of a b ≡ None → (a ≡ None) × (b ≡ None)
least_of-None None b e = (refl, e)
least_of-None (Some a) None e = cc
least_of-None (Some a) (Some b) e = cc

-- no update, where none is due at any time
due_time-None : (later : List LaterUpdate) → due_time later ≡ None → later ≡ []
due_time-None [] e = refl
due_time-None (l ∷ later) e = let parts = least_of-None (Some l.time) (due_time later) e in absurd (some≢none (l.time) parts.0)
  where
    some≢none : (n : ℕ) → Some n ≡ None → ⊥
    some≢none n e = cc

-- a process that isn't held
free-holding : (holding : Holding) → is_postponed holding ≡ false → wake_time holding ≡ None → holding ≡ Free
free-holding Free p w = refl
free-holding (Asleep time) p w = cc
free-holding Postponed p w = cc

-- each process, where none is postponed and there is no later time
pub nothing-from : (held : List HeldProcess) → some_in (λ (h : HeldProcess). is_postponed h.holding) held ≡ false → next_time held ≡ None → AllHold HoldsNothing held
nothing-from [] p n = tt
nothing-from (h ∷ held) p n =
    let ps = or_parts (is_postponed h.holding) (some_in (λ (h : HeldProcess). is_postponed h.holding) held) p in
    let ts = least_of-None (least_of (wake_time h.holding) (due_time h.later)) (next_time held) n in
    let own = least_of-None (wake_time h.holding) (due_time h.later) ts.0 in
    ((free-holding h.holding ps.0 own.0, due_time-None h.later own.1), nothing-from held ps.1 ts.1)

-- where nothing is held none is postponed
pub nothing-postponed : (held : List HeldProcess) → AllHold HoldsNothing held → some_in (λ (h : HeldProcess). is_postponed h.holding) held ≡ false
nothing-postponed [] n = refl
nothing-postponed (h ∷ held) n = ap (λ hd. is_postponed hd || some_in (λ (h : HeldProcess). is_postponed h.holding) held) n.0.0 ∙ nothing-postponed held n.1

-- no update is there
pub nothing-due : (now : ℕ) (held : List HeldProcess) → AllHold HoldsNothing held → some_in (λ (h : HeldProcess). some_in (is_due now) h.later) held ≡ false
nothing-due now [] n = refl
nothing-due now (h ∷ held) n = ap (λ later. some_in (is_due now) later || some_in (λ (h : HeldProcess). some_in (is_due now) h.later) held) n.0.1 ∙ nothing-due now held n.1

-- and there is no later time
pub nothing-next : (held : List HeldProcess) → AllHold HoldsNothing held → next_time held ≡ None
nothing-next [] n = refl
nothing-next (h ∷ held) n =
    ap (λ hd. least_of (least_of (wake_time hd) (due_time h.later)) (next_time held)) n.0.0
    ∙ (ap (λ later. least_of (due_time later) (next_time held)) n.0.1 ∙ nothing-next held n.1)

-- so there is no turn
pub nothing-region : (now : ℕ) (held : List HeldProcess) → AllHold HoldsNothing held → next_region now held ≡ None
nothing-region now held n =
    let turn : next_turn now held ≡ None =
    ap (λ b. turn_by b (some_in (λ (h : HeldProcess). some_in (is_due now) h.later) held) (next_time held)) (nothing-postponed held n)
    ∙ (ap (λ b. turn_by false b (next_time held)) (nothing-due now held n) ∙ ap (turn_by false false) (nothing-next held n)) in
    ap (λ t. region_of now t held) turn

-- The next turn in each case

-- what a turn activates, and what is left
abbrev pub IsTurn : ℕ → List HeldProcess → Option TurnRegion → List HeldProcess → Type 0
IsTurn now old region new = (region ≡ next_region now old) × (new ≡ held_after now old)

-- from the turn
turn-from : (now : ℕ) (old : List HeldProcess) (turn : Option TurnKind) (region : Option TurnRegion) (new : List HeldProcess) → next_turn now old ≡ turn
    → region ≡ region_of now turn old → new ≡ held_after_turn now turn old → IsTurn now old region new
turn-from now old turn region new t r n = (r ∙ ap (λ k. region_of now k old) (sym t), n ∙ ap (λ k. held_after_turn now k old) (sym t))

-- the postponed processes
pub turn-postponed : (now : ℕ) (old new : List HeldProcess) (processes : List ProcId) → TakesPostponed old (Some processes) new
    → IsTurn now old (Some (record { time = now; processes = map process_number processes; lanes = [] })) new
turn-postponed now old new processes taken =
    let with : List ℕ → Option TurnRegion = λ ns. Some (record { time = now; processes = ns; lanes = [] }) in
    turn-from now old (Some PostponedTurn) _ new
    (ap (λ b. turn_by b (some_in (λ (h : HeldProcess). some_in (is_due now) h.later) old) (next_time old)) taken.0)
    (ap with (ap (map process_number) taken.1 ∙ numbers-processes (numbers_where (λ (h : HeldProcess). is_postponed h.holding) 0 old))) taken.2

module _ (now : ℕ) (old mid : List HeldProcess) (after : AllHold (ComesAfter now) old) (none : TakesPostponed old None mid) where
  -- the turn without postponed processes
  turn-others : (due : Bool) → some_in (λ (h : HeldProcess). some_in (is_at now) h.later) mid ≡ due → next_turn now old ≡ turn_by false due (next_time old)
  turn-others due e =
      ap (λ b. turn_by b (some_in (λ (h : HeldProcess). some_in (is_due now) h.later) old) (next_time old)) none.0
      ∙ ap (λ b. turn_by false b (next_time old)) (due-some_in now old after ∙ (ap (some_in (λ (h : HeldProcess). some_in (is_at now) h.later)) (sym none.1) ∙ e))

  -- the updates that are due
  pub turn-updates : (new : List HeldProcess) (lanes : List (ProcId × List Update)) → TakesLanes now mid (Some lanes) new
      → IsTurn now old (Some (record { time = now; processes = []; lanes = map lane_of lanes })) new
  turn-updates new lanes taken =
      let with : List (ℕ × List ValueUpdate) → Option TurnRegion = λ ls. Some (record { time = now; processes = []; lanes = ls }) in
      turn-from now old (Some UpdatesTurn) _ new (turn-others true taken.0)
      (ap with (taken.1 ∙ (ap (lanes_from (updates_at now) 0) none.1 ∙ sym (due-lanes now old after))))
      (taken.2 ∙ (ap (map (without_at now)) none.1 ∙ sym (due-left now old after)))

  -- a later time
  pub turn-time : (left new : List HeldProcess) (time : ℕ) (processes : List ProcId) → TakesLanes now mid None left → Some time ≡ next_time left
      → processes ≡ processes_where (wakes_at time) left → new ≡ released (wakes_at time) left
      → IsTurn now old (Some (record { time = time; processes = map process_number processes; lanes = [] })) new
  turn-time left new time processes nothing next taken rest =
      let same : left ≡ old = nothing.1 ∙ none.1 in
      let later : next_time old ≡ Some time = ap next_time (sym same) ∙ sym next in
      let with : List ℕ → Option TurnRegion = λ ns. Some (record { time = time; processes = ns; lanes = [] }) in
      turn-from now old (Some (TimeTurn time)) _ new (turn-others false nothing.0 ∙ ap (turn_by false false) later)
      (ap with (ap (map process_number) taken ∙ (numbers-processes (numbers_where (λ (h : HeldProcess). wakes_at time h.holding) 0 left)
      ∙ (ap (numbers_where (λ (h : HeldProcess). wakes_at time h.holding) 0) same ∙ sym (waking-numbers time old later)))))
      (rest ∙ (ap (released (wakes_at time)) same ∙ sym (waking-left time old later)))

  -- no turn
  pub turn-none : (left : List HeldProcess) → TakesLanes now mid None left → None ≡ next_time left → IsTurn now old None left
  turn-none left nothing next =
      let same : left ≡ old = nothing.1 ∙ none.1 in
      turn-from now old None None left (turn-others false nothing.0 ∙ ap (turn_by false false) (ap next_time (sym same) ∙ sym next)) refl same

  -- then nothing is held
  pub turn-nothing : (left : List HeldProcess) → TakesLanes now mid None left → None ≡ next_time left → AllHold HoldsNothing old
  turn-nothing left nothing next = nothing-from old none.0 (ap next_time (sym (nothing.1 ∙ none.1)) ∙ sym next)

-- where there is a turn something is held
pub turn-some : (now : ℕ) (old new : List HeldProcess) (region : TurnRegion) → IsTurn now old (Some region) new → AllHold HoldsNothing old → ⊥
turn-some now old new region is nothing = some≢none (is.0 ∙ nothing-region now old nothing)
  where
    some≢none : Some region ≡ None → ⊥
    some≢none e = cc
