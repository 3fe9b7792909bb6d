-- A legal run, cut where it takes its first turn past a time, is legal to that time; so what a strobe sees of it is what it sees of the first run.
use Rattle.std.proofs.Common.{◌≡◌, ℕ, ◌+◌, ◌<◌, ◌≤◌, List, [], ◌∷◌, ◌++◌, Bool, true, false, not, ◌&&◌, refl, sym, ap, subst, ◌∙◌, arith}
use Rattle.std.specs.Prelude.{Option, Some, None, is_some}
use Rattle.std.proofs.lemmas.Bool.{leb-false, lt-leb}
use Rattle.v_design.specs.Designs.{Machine}
use Rattle.v_design.specs.States.{State, Event, TurnKind, PostponedTurn, UpdatesTurn, TimeTurn, after, possible, start, is_quiescent, turn_of, turned}
use Rattle.v_design.specs.Runs.{Move, Happens, Turns, then_state, only_if, stays_within, turn_within, moved, replayed, ends_by, Leads, IsLegal, first_run, made, turned_by}
use Rattle.v_design.specs.Grades.{cut, values_after, state_after_slots, Stop, first_stop}
use Rattle.v_design.specs.WellFormed.{KeepsRules}
use Rattle.order_laws.specs.EveryRun.{StopsLater, RunsShowAlike, FirstRunsShow, ClearRunsExist}
use Rattle.order_laws.proofs.RunsEndAlike.{NoConflicts, some_eq, and-both, then-some, only-some, turn-some, runs_end_alike}
use Rattle.order_laws.proofs.FirstOrder.FineSlots.{first_begins}
use Rattle.order_laws.proofs.FirstOrder.RunsUpTo.{StopsAfter, up_to}

-- A run ends by each earlier time

stays-earlier : (time until : ℕ) (turn : TurnKind) → time ≤ until → stays_within until turn ≡ false → stays_within time turn ≡ false
stays-earlier time until PostponedTurn h e = cc
stays-earlier time until UpdatesTurn h e = cc
stays-earlier time until (TimeTurn later) h e = let l : until < later = leb-false later until e in lt-leb later time (omega (arith, l, h))

no-some : (time until : ℕ) (state : State) (turn : Option TurnKind) → time ≤ until → is_quiescent state ≡ true → not (is_some (turn_within until state turn)) ≡ true →
    (is_quiescent state && not (is_some (turn_within time state turn))) ≡ true
no-some time until state None h q e = λ i. q i && true
no-some time until state (Some turn) h q e =
    λ i. q i && not (is_some (only_if (q i && stays-earlier time until turn h (stays (stays_within until turn)
    (sym (ap (λ b. not (is_some (only_if (b && stays_within until turn) (turned turn state)))) q) ∙ e)) i) (turned turn state)))
  where
    stays : (b : Bool) → not (is_some (only_if (true && b) (turned turn state))) ≡ true → b ≡ false
    stays true f = cc
    stays false f = refl

ends-earlier : (time until : ℕ) (state : State) → time ≤ until → ends_by until state ≡ true → ends_by time state ≡ true
ends-earlier time until state h e =
    let b = and-both (is_quiescent state) (not (is_some (turn_within until state (turn_of state)))) e in
    no-some time until state (turn_of state) h b.0 b.1

-- The cut

-- the state of a run after all its slots up to a time, where it takes a turn
abbrev by_turn : Machine → ℕ → State → List Move → Option TurnKind → State
by_turn machine time state moves found = elim found [
  | None ↦ state
  | Some turn ↦ elim (stays_within time turn) [ true ↦ state_after_slots machine time (turned turn state) moves | false ↦ state ]
]

abbrev by_stay : Machine → ℕ → State → List Move → TurnKind → Bool → State
by_stay machine time state moves turn stays = elim stays [ true ↦ state_after_slots machine time (turned turn state) moves | false ↦ state ]

-- a run to a time that ends in a state
abbrev pub RunsTo : Machine → ℕ → State → State → Type 0
RunsTo machine time from to = (moves : List Move) × Leads machine time from moves to × (ends_by time to ≡ true)

cut_run : (machine : Machine) (time until : ℕ) (final : State) → time ≤ until → ends_by until final ≡ true → (moves : List Move) (state : State) → Leads machine until state moves final →
    RunsTo machine time state (state_after_slots machine time state moves)
cut_run machine time until final h ends [] state leads = ([], refl, ends-earlier time until state h (ap (ends_by until) (some_eq state final leads) ∙ ends))
cut_run machine time until final h ends (Happens event ∷ moves) state leads =
    let t = then-some (moved machine until state (Happens event)) (λ next. replayed machine until next moves) final leads in
    let o = only-some (possible state event) (after machine state event) t.0 t.1 in
    let r = cut_run machine time until final h ends moves (after machine state event) (subst (λ s. Leads machine until s moves final) (sym o.1) t.2) in
    (Happens event ∷ r.0, ap (λ b. then_state (only_if b (after machine state event)) (λ next. replayed machine time next r.0)) o.0 ∙ r.1, r.2)
cut_run machine time until final h ends (Turns ∷ moves) state leads =
    let t = then-some (moved machine until state Turns) (λ next. replayed machine until next moves) final leads in
    let k = turn-some until state (turn_of state) t.0 t.1 in
    subst (λ s. RunsTo machine time state s) (sym (ap (by_turn machine time state moves) k.1))
    (go k.0 k.1 k.2 (cut_run machine time until final h ends moves (turned k.0 state) (subst (λ s. Leads machine until s moves final) (sym k.3) t.2)) (stays_within time k.0) refl)
  where
    go : (turn : TurnKind) → turn_of state ≡ Some turn → is_quiescent state ≡ true → RunsTo machine time (turned turn state) (state_after_slots machine time (turned turn state) moves) →
        (stays : Bool) → stays_within time turn ≡ stays →
        RunsTo machine time state (by_stay machine time state moves turn stays)
    go turn t q r true s = (
      Turns ∷ r.0,
      ap (λ o. then_state o (λ next. replayed machine time next r.0)) (ap (turn_within time state) t ∙ (λ i. only_if (q i && s i) (turned turn state))) ∙ r.1,
      r.2,
    )
    go turn t q r false s = ([], refl, ap (λ o. is_quiescent state && not (is_some (turn_within time state o))) t ∙ (λ i. q i && not (is_some (only_if (q i && s i) (turned turn state)))))

-- What the strobes see

after-earlier : (time until : ℕ) (stop : Option Stop) → time ≤ until → StopsAfter until stop → StopsAfter time stop
after-earlier time until None h s = tt
after-earlier time until (Some stop) h s = omega (arith, h, s)

-- after all slots up to a time each legal run has the values of the first run, where that doesn't stop up to the time at which the run ends
pub values_same : (machine : Machine) (time until end : ℕ) → KeepsRules machine.design → time ≤ until → until ≤ end → StopsAfter until (first_stop machine (first_run machine end)) →
    (moves : List Move) (final : State) → IsLegal machine until moves final →
    (state_after_slots machine time (start machine) moves).values ≡ values_after machine [] (first_run machine end) time
values_same machine time until end rules h k s moves final legal =
    let b = first_begins machine rules in
    let short : time ≤ end = omega (arith, h, k) in
    let u = up_to machine time end rules short (end + 1) (start machine) b (omega arith) (omega arith) (after-earlier time until (first_stop machine (first_run machine end)) h s) [] in
    let r = cut_run machine time until final h legal.ends moves (start machine) legal.leads in
    ap (λ (t : State). t.values) (runs_end_alike machine time (start machine) u.moves r.0 u.final (state_after_slots machine time (start machine) moves) rules b.phase u.leads u.ends
    (u.free None) r.1 r.2) ∙ u.same_values

-- The phases of a run that is cut so

-- a run to a time without conflict, from amid a phase
abbrev ClearTo : Machine → ℕ → Option TurnKind → State → List Event → State → State → Type 0
ClearTo machine time turn begins events from to = (moves : List Move) × Leads machine time from moves to × (ends_by time to ≡ true) × NoConflicts machine (cut machine turn begins events from moves)

cut_clear : (machine : Machine) (time until : ℕ) (final : State) → time ≤ until → ends_by until final ≡ true →
    (moves : List Move) (turn : Option TurnKind) (begins : State) (events : List Event) (state : State) → Leads machine until state moves final →
    NoConflicts machine (cut machine turn begins events state moves) → ClearTo machine time turn begins events state (state_after_slots machine time state moves)
cut_clear machine time until final h ends [] turn begins events state leads free = ([], refl, ends-earlier time until state h (ap (ends_by until) (some_eq state final leads) ∙ ends), free)
cut_clear machine time until final h ends (Happens event ∷ moves) turn begins events state leads free =
    let t = then-some (moved machine until state (Happens event)) (λ next. replayed machine until next moves) final leads in
    let o = only-some (possible state event) (after machine state event) t.0 t.1 in
    let r = cut_clear machine time until final h ends moves turn begins (events ++ event ∷ []) (after machine state event) (subst (λ s. Leads machine until s moves final) (sym o.1) t.2) free in
    (Happens event ∷ r.0, ap (λ b. then_state (only_if b (after machine state event)) (λ next. replayed machine time next r.0)) o.0 ∙ r.1, r.2, r.3)
cut_clear machine time until final h ends (Turns ∷ moves) turn begins events state leads free =
    let t = then-some (moved machine until state Turns) (λ next. replayed machine until next moves) final leads in
    let k = turn-some until state (turn_of state) t.0 t.1 in
    let made-is : made machine state Turns ≡ turned k.0 state = ap (λ o. turned_by o state) k.1 in
    subst (λ s. ClearTo machine time turn begins events state s) (sym (ap (by_turn machine time state moves) k.1))
    (go k.0 k.1 k.2 made-is
    (cut_clear machine time until final h ends moves (turn_of state) (turned k.0 state) [] (turned k.0 state) (subst (λ s. Leads machine until s moves final) (sym k.3) t.2)
    (subst (λ s. NoConflicts machine (cut machine (turn_of state) s [] s moves)) made-is free.1)) (stays_within time k.0) refl)
  where
    go : (kind : TurnKind) → turn_of state ≡ Some kind → is_quiescent state ≡ true → made machine state Turns ≡ turned kind state →
        ClearTo machine time (turn_of state) (turned kind state) [] (turned kind state) (state_after_slots machine time (turned kind state) moves) → (stays : Bool) → stays_within time kind ≡ stays →
        ClearTo machine time turn begins events state (by_stay machine time state moves kind stays)
    go kind t q m r true s = (
      Turns ∷ r.0,
      ap (λ o. then_state o (λ next. replayed machine time next r.0)) (ap (turn_within time state) t ∙ (λ i. only_if (q i && s i) (turned kind state))) ∙ r.1,
      r.2,
      (free.0, subst (λ u. NoConflicts machine (cut machine (turn_of state) u [] u r.0)) (sym m) r.3),
    )
    go kind t q m r false s =
        ([], refl, ap (λ o. is_quiescent state && not (is_some (turn_within time state o))) t ∙ (λ i. q i && not (is_some (only_if (q i && s i) (turned kind state)))), (free.0, tt))

pub runs_show_alike : RunsShowAlike
runs_show_alike machine time until one other one_end other_end rules h legal clear legal' =
    let b = first_begins machine rules in
    let c = cut_clear machine time until one_end h legal.ends one None (start machine) [] (start machine) legal.leads clear in
    let r = cut_run machine time until other_end h legal'.ends other (start machine) legal'.leads in
    runs_end_alike machine time (start machine) c.0 r.0 (state_after_slots machine time (start machine) one) (state_after_slots machine time (start machine) other) rules b.phase c.1 c.2 c.3 r.1 r.2

later-stop : (time : ℕ) (stop : Option Stop) → StopsLater time stop → StopsAfter time stop
later-stop time None s = tt
later-stop time (Some stop) s = s

pub first_runs_show : FirstRunsShow
first_runs_show machine time until end rules h k s moves final legal =
    values_same machine time until end rules h k (later-stop until (first_stop machine (first_run machine end)) s) moves final legal

pub clear_runs_exist : ClearRunsExist
clear_runs_exist machine until end rules h s =
    let b = first_begins machine rules in
    let u = up_to machine until end rules h (end + 1) (start machine) b (omega arith) (omega arith) (later-stop until (first_stop machine (first_run machine end)) s) [] in
    (u.moves, u.final, record { leads = u.leads; ends = u.ends }, u.free None)
