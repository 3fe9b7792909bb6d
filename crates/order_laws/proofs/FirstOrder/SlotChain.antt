-- From a slot of the first order to the next one: where the slot isn't hyperactive it goes to its end, and the next slot begins later, as the laws ask.
use Rattle.std.proofs.Common.{◌≡◌, ℕ, suc, ◌<◌, ◌≤◌, List, [], ◌∷◌, ◌++◌, Bool, true, false, not, ◌&&◌, refl, sym, ap, subst, ◌∙◌, arith}
use Rattle.std.specs.Prelude.{Option, Some, None, is_some, min, nat_le, slice_get}
use Rattle.std.proofs.lemmas.Bool.{leb-false, leb-true, lt-leb}
use Rattle.v_design.specs.Designs.{Machine}
use Rattle.v_design.specs.Processes.{Activity, Ready, Waiting, Asleep, Postponed, Done}
use Rattle.v_design.specs.States.{State, ProcessState, LaterUpdate, Event, TurnKind, PostponedTurn, UpdatesTurn, TimeTurn, after, possible, found_or, idle_process, some_in, is_due, least_of}
use Rattle.v_design.specs.States.{wake_time, due_time, next_time_of, turn_by, is_quiescent, turn_of, turned, time_turn}
use Rattle.v_design.specs.Runs.{Move, Happens, Turns, only_if, turn_within, moved, replayed, ends_by, Leads, IsPhase, happened, all_possible, turn_in_slot, counted_steps, most_steps, first_moves}
use Rattle.v_design.specs.Runs.{FirstSlot, slot_end, is_hyper, next_slot_at, next_slot}
use Rattle.v_design.specs.WellFormed.{KeepsRules}
use Rattle.v_design.specs.Laws.{BeginsPhase}
use Rattle.order_laws.proofs.PathLaws.{or-neither}
use Rattle.order_laws.proofs.PhasesGoOn.{next_phase_begins}
use Rattle.order_laws.proofs.RunsEndAlike.{some_eq, happened-more, possible-more, then-some, only-some, turn-some}
use Rattle.order_laws.proofs.SlotsEnd.{slots_end}
use Rattle.order_laws.proofs.FirstOrder.Awake.{Later, AwakeLater, later-turned}
use Rattle.order_laws.proofs.FirstOrder.SlotMoves.{MayAll, slot_may}

-- The next time is later than now

abbrev Above : ℕ → Option ℕ → Type 0
Above now found = (time : ℕ) → found ≡ Some time → now < time

least-above : (now : ℕ) (one other : Option ℕ) → Above now one → Above now other → Above now (least_of one other)
least-above now None other a b time e = b time e
least-above now (Some t) None a b time e = a time e
least-above now (Some t) (Some u) a b time e =
    let x : now < t = a t refl in
    let y : now < u = b u refl in
    let m : min t u ≡ time = some_eq (min t u) time e in
    omega (arith, x, y, m)

wake-above : (now : ℕ) (activity : Activity) → Later now activity → Above now (wake_time activity)
wake-above now (Ready tasks operands) h time e = cc
wake-above now (Waiting place entries tasks) h time e = cc
wake-above now (Asleep t tasks) h time e = subst (λ n. now < n) (some_eq t time e) h
wake-above now (Postponed tasks) h time e = cc
wake-above now Done h time e = cc

due-above : (now : ℕ) (later : List LaterUpdate) → some_in (is_due now) later ≡ false → Above now (due_time later)
due-above now [] h time e = cc
due-above now (first ∷ later) h time e =
    let p = or-neither (is_due now first) (some_in (is_due now) later) h in
    least-above now (Some first.time) (due_time later) (λ t f. subst (λ n. now < n) (some_eq first.time t f) (leb-false first.time now p.0)) (due-above now later p.1) time e

next-above : (now : ℕ) (xs : List ProcessState) → ((number : ℕ) → Later now (found_or idle_process (slice_get xs number)).activity) →
    some_in (λ (p : ProcessState). some_in (is_due now) p.later) xs ≡ false → Above now (next_time_of xs)
next-above now [] h d time e = cc
next-above now (x ∷ xs) h d time e =
    let p = or-neither (some_in (is_due now) x.later) (some_in (λ (p : ProcessState). some_in (is_due now) p.later) xs) d in
    least-above now (least_of (wake_time x.activity) (due_time x.later)) (next_time_of xs)
    (least-above now (wake_time x.activity) (due_time x.later) (wake-above now x.activity (h 0)) (due-above now x.later p.0)) (next-above now xs (λ n. h (suc n)) p.1) time e

time-parts : (a b : Bool) (next : Option ℕ) (later : ℕ) → turn_by a b next ≡ Some (TimeTurn later) → (b ≡ false) × (next ≡ Some later)
time-parts true b next later e = cc
time-parts false true next later e = cc
time-parts false false None later e = cc
time-parts false false (Some t) later e = (refl, ap time_of e)
  where
    time_of : Option TurnKind → Option ℕ
    time_of None = None
    time_of (Some PostponedTurn) = None
    time_of (Some UpdatesTurn) = None
    time_of (Some (TimeTurn n)) = Some n

later-time : (state : State) (later : ℕ) → AwakeLater state → turn_of state ≡ Some (TimeTurn later) → state.time < later
later-time state later h e =
    let p = time-parts _ _ (next_time_of state.processes) later e in
    next-above state.time state.processes h p.0 later p.1

-- The last phase of some moves

-- a phase that begins as the laws ask ends in this state
pub record PhaseEnd (machine : Machine) (state : State) : Type 0 where
  pub begins : State
  pub events : List Event
  pub as_asked : BeginsPhase machine begins
  pub legal : IsPhase machine begins events
  pub ends : state ≡ happened machine begins events

last_phase : (machine : Machine) (time : ℕ) (final : State) → KeepsRules machine.design → is_quiescent final ≡ true → (moves : List Move) (begins : State) (events : List Event) (state : State) →
    state ≡ happened machine begins events → BeginsPhase machine begins → all_possible machine begins events ≡ true → Leads machine time state moves final → PhaseEnd machine final
last_phase machine time final rules quiet [] begins events state at b p leads =
    let here : final ≡ happened machine begins events = sym (some_eq state final leads) ∙ at in
    record { begins = begins; events = events; as_asked = b; legal = record { each_possible = p; ends = ap is_quiescent (sym here) ∙ quiet }; ends = here }
last_phase machine time final rules quiet (Happens event ∷ moves) begins events state at b p leads =
    let t = then-some (moved machine time state (Happens event)) (λ next. replayed machine time next moves) final leads in
    let o = only-some (possible state event) (after machine state event) t.0 t.1 in
    last_phase machine time final rules quiet moves begins (events ++ event ∷ []) t.0 (sym o.1 ∙ ap (λ s. after machine s event) at ∙ sym (happened-more machine begins events event)) b
    (possible-more machine begins events event p (ap (λ s. possible s event) (sym at) ∙ o.0)) t.2
last_phase machine time final rules quiet (Turns ∷ moves) begins events state at b p leads =
    let t = then-some (moved machine time state Turns) (λ next. replayed machine time next moves) final leads in
    let k = turn-some time state (turn_of state) t.0 t.1 in
    let phase : IsPhase machine begins events = record { each_possible = p; ends = ap is_quiescent (sym at) ∙ k.2 } in
    last_phase machine time final rules quiet moves t.0 [] t.0 refl (subst (λ u. BeginsPhase machine u) (ap (turned k.0) (sym at) ∙ k.3) (next_phase_begins machine begins events k.0 rules b phase))
    refl t.2

-- A slot that isn't hyperactive

-- a slot begins as the laws ask
pub record Begins (machine : Machine) (state : State) : Type 0 where
  pub phase : BeginsPhase machine state
  pub awake : AwakeLater state

-- the slot of the first order that a state begins
abbrev pub slot_from : Machine → State → FirstSlot
slot_from machine state = record { begins = state; moves = first_moves machine state }

-- its end
abbrev pub end_from : Machine → State → State
end_from machine state = slot_end machine (slot_from machine state)

-- it goes to its end
pub record Closes (machine : Machine) (state : State) : Type 0 where
  pub quiet : is_quiescent (end_from machine state) ≡ true
  pub turn : turn_in_slot (turn_of (end_from machine state)) ≡ None
  pub awake : AwakeLater (end_from machine state)
  pub last : PhaseEnd machine (end_from machine state)

pub slot_moves_may : (machine : Machine) (time : ℕ) (state : State) → MayAll machine time state (first_moves machine state)
slot_moves_may machine time state = slot_may machine time _ _ state

pub same_time : (machine : Machine) (state : State) → (end_from machine state).time ≡ state.time
same_time machine state = (slot_moves_may machine 0 state).same_time

few-steps : (slot : FirstSlot) → is_hyper slot ≡ false → counted_steps slot.moves ≤ most_steps
few-steps slot h = let b : counted_steps slot.moves < suc most_steps = leb-false (suc most_steps) (counted_steps slot.moves) h in omega (arith, b)

pub closes : (machine : Machine) (state : State) → KeepsRules machine.design → Begins machine state → is_hyper (slot_from machine state) ≡ false → Closes machine state
closes machine state rules b calm =
    let e = slots_end machine state rules b.phase (few-steps (slot_from machine state) calm) in
    let m = slot_moves_may machine state.time state in
    record {
      quiet = e.0;
      turn = e.1;
      awake = m.later b.awake;
      last = last_phase machine state.time (end_from machine state) rules e.0 (first_moves machine state) state [] state refl b.phase refl m.leads;
    }

-- The slot after it

-- the next slot: its turn leads to a later time, and it begins as the laws ask
pub record NextSlot (machine : Machine) (time : ℕ) (state next : State) : Type 0 where
  pub later : ℕ
  pub calm : is_hyper (slot_from machine state) ≡ false
  pub turn : turn_of (end_from machine state) ≡ Some (TimeTurn later)
  pub is_next : time_turn later (end_from machine state) ≡ next
  pub within : later ≤ time
  pub rises : state.time < next.time
  pub begins : Begins machine next

turn-next : (time : ℕ) (state next : State) (turn : Option TurnKind) → next_slot_at time state turn ≡ Some next →
    (later : ℕ) × (turn ≡ Some (TimeTurn later)) × (nat_le later time ≡ true) × (time_turn later state ≡ next)
turn-next time state next None e = cc
turn-next time state next (Some PostponedTurn) e = cc
turn-next time state next (Some UpdatesTurn) e = cc
turn-next time state next (Some (TimeTurn later)) e = let o = only-some (nat_le later time) (time_turn later state) next e in (later, refl, o.0, o.1)

pub next_begins : (machine : Machine) (time : ℕ) (state next : State) → KeepsRules machine.design → Begins machine state → next_slot machine time (slot_from machine state) ≡ Some next →
    NextSlot machine time state next
next_begins machine time state next rules b e = go (is_hyper (slot_from machine state)) refl e
  where
    end : State
    end = end_from machine state

    go : (hyper : Bool) → is_hyper (slot_from machine state) ≡ hyper → elim hyper [ true ↦ None | false ↦ next_slot_at time (end_from machine state) (turn_of (end_from machine state)) ] ≡ Some
        next → NextSlot machine time state next
    go true h f = cc
    go false h f =
        let c = closes machine state rules b h in
        let t = turn-next time (end_from machine state) next (turn_of (end_from machine state)) f in
        let rising : state.time < t.0 = subst (λ n. n < t.0) (same_time machine state) (later-time (end_from machine state) t.0 c.awake t.1) in
        record {
          later = t.0;
          calm = h;
          turn = t.1;
          is_next = t.3;
          within = leb-true t.0 time t.2;
          rises = subst (λ (s : State). state.time < s.time) t.3 rising;
          begins = subst (λ s. Begins machine s) t.3
              (record {
                phase = subst (λ s. BeginsPhase machine (time_turn t.0 s)) (sym c.last.ends) (next_phase_begins machine c.last.begins c.last.events (TimeTurn t.0) rules c.last.as_asked c.last.legal);
                awake = later-turned (TimeTurn t.0) (end_from machine state) c.awake;
              });
        }

-- the end of a slot after which no turn is taken up to a time
no-more : (time : ℕ) (state : State) (turn : Option TurnKind) → is_quiescent state ≡ true → turn_in_slot turn ≡ None → next_slot_at time state turn ≡ None →
    (is_quiescent state && not (is_some (turn_within time state turn))) ≡ true
no-more time state None q t e = λ i. q i && true
no-more time state (Some PostponedTurn) q t e = cc
no-more time state (Some UpdatesTurn) q t e = cc
no-more time state (Some (TimeTurn later)) q t e = go (nat_le later time) e
  where
    go : (b : Bool) → only_if b (time_turn later state) ≡ None → (is_quiescent state && not (is_some (only_if (is_quiescent state && b) (time_turn later state)))) ≡ true
    go true f = cc
    go false f = λ i. q i && not (is_some (only_if (q i && false) (time_turn later state)))

pub last_ends : (machine : Machine) (time : ℕ) (state : State) → Closes machine state → next_slot_at time (end_from machine state) (turn_of (end_from machine state)) ≡ None →
    ends_by time (end_from machine state) ≡ true
last_ends machine time state c e = no-more time (end_from machine state) (turn_of (end_from machine state)) c.quiet c.turn e

-- no turn to a time before the next slot's
no-turn-before : (time : ℕ) (state : State) (turn : Option TurnKind) → ((later : ℕ) → turn ≡ Some (TimeTurn later) → time < later) → next_slot_at time state turn ≡ None
no-turn-before time state None h = refl
no-turn-before time state (Some PostponedTurn) h = refl
no-turn-before time state (Some UpdatesTurn) h = refl
no-turn-before time state (Some (TimeTurn later)) h = ap (λ b. only_if b (time_turn later state)) (lt-leb later time (h later refl))

pub ends_before : (machine : Machine) (time : ℕ) (state : State) → Closes machine state → ((later : ℕ) → turn_of (end_from machine state) ≡ Some (TimeTurn later) → time < later) →
    ends_by time (end_from machine state) ≡ true
ends_before machine time state c h = last_ends machine time state c (no-turn-before time (end_from machine state) (turn_of (end_from machine state)) h)

-- a slot ends by its own time
pub ends_own : (machine : Machine) (state : State) → Closes machine state → ends_by state.time (end_from machine state) ≡ true
ends_own machine state c = ends_before machine state.time state c (λ later e. subst (λ n. n < later) (same_time machine state) (later-time (end_from machine state) later c.awake e))
