-- Two legal runs to a time from one state end alike, where no phase of the first has a conflict.
use Rattle.std.proofs.Common.{◌≡◌, ℕ, List, [], ◌∷◌, ◌++◌, Bool, true, false, not, ◌&&◌, refl, sym, ap, subst, ◌∙◌, ◌⊎◌, inl, inr}
use Rattle.std.specs.Prelude.{Option, Some, None, is_some}
use Rattle.vf_base.specs.Lists.{AllHold}
use Rattle.v_design.specs.Designs.{Machine}
use Rattle.v_design.specs.States.{State, Event, TurnKind, after, possible, found_or, is_quiescent, turn_of, turned}
use Rattle.v_design.specs.Runs.{Move, Happens, Turns, then_state, only_if, stays_within, turn_within, moved, replayed, ends_by, Leads, happened, all_possible, IsPhase, made, turned_by}
use Rattle.v_design.specs.Grades.{Phase, cut}
use Rattle.v_design.specs.WellFormed.{KeepsRules}
use Rattle.v_design.specs.Laws.{BeginsPhase, HasNoConflict, RunsEndAlike}
use Rattle.order_laws.proofs.PathLaws.{true-false}
use Rattle.order_laws.proofs.PhasesGoOn.{next_phase_begins}
use Rattle.order_laws.proofs.Projection.{end_same}

pub some_eq : {A : Type 0} (x y : A) → Some x ≡ Some y → x ≡ y
some_eq x y e = ap (found_or x) e

pub and-both : (b c : Bool) → (b && c) ≡ true → (b ≡ true) × (c ≡ true)
and-both true c e = (refl, e)
and-both false c e = cc

-- One event more

pub happened-more : (machine : Machine) (state : State) (events : List Event) (event : Event) → happened machine state (events ++ event ∷ []) ≡ after machine (happened machine state events) event
happened-more machine state [] event = refl
happened-more machine state (first ∷ events) event = happened-more machine (after machine state first) events event

pub possible-more : (machine : Machine) (state : State) (events : List Event) (event : Event) → all_possible machine state events ≡ true → possible (happened machine state events) event ≡ true →
    all_possible machine state (events ++ event ∷ []) ≡ true
possible-more machine state [] event a p = λ i. p i && true
possible-more machine state (first ∷ events) event a p =
    let both : (possible state first ≡ true) × (all_possible machine (after machine state first) events ≡ true) =
    and-both (possible state first) (all_possible machine (after machine state first) events) a in
    λ i. both.0 i && possible-more machine (after machine state first) events event both.1 p i

-- Moves that may be made

pub then-some : {A B : Type 0} (found : Option A) (next : A → Option B) (b : B) → then_state found next ≡ Some b → (a : A) × (found ≡ Some a) × (next a ≡ Some b)
then-some None next b e = cc
then-some (Some a) next b e = (a, refl, e)

pub only-some : {A : Type 0} (b : Bool) (x y : A) → only_if b x ≡ Some y → (b ≡ true) × (x ≡ y)
only-some true x y e = (refl, some_eq x y e)
only-some false x y e = cc

-- a turn that may be taken
pub turn-some : (time : ℕ) (state : State) (turn : Option TurnKind) (next : State) → turn_within time state turn ≡ Some next →
    (kind : TurnKind) × (turn ≡ Some kind) × (is_quiescent state ≡ true) × (turned kind state ≡ next)
turn-some time state None next e = cc
turn-some time state (Some kind) next e =
    let o = only-some (is_quiescent state && stays_within time kind) (turned kind state) next e in
    (kind, refl, (and-both (is_quiescent state) (stays_within time kind) o.0).0, o.1)

-- A run's first phase, and how it goes on: by a turn, or not at all
abbrev Onward : Machine → ℕ → State → State → Type 0
Onward machine time end final = ((next : State) × (rest : List Move) × (turn_within time end (turn_of end) ≡ Some next) × Leads machine time next rest final) ⊎ (final ≡ end)

abbrev Split : Machine → ℕ → State → State → Type 0
Split machine time begins final = (events : List Event) × IsPhase machine begins events × Onward machine time (happened machine begins events) final

split : (machine : Machine) (time : ℕ) (begins : State) (events : List Event) (state : State) (moves : List Move) (final : State) → state ≡ happened machine begins events →
    all_possible machine begins events ≡ true →
    Leads machine time state moves final → ends_by time final ≡ true → Split machine time begins final
split machine time begins events state [] final at p leads ends =
    let here : final ≡ happened machine begins events = sym (some_eq state final leads) ∙ at in (
      events,
      record { each_possible = p; ends = ap is_quiescent (sym here) ∙ (and-both (is_quiescent final) (not (is_some (turn_within time final (turn_of final)))) ends).0 },
      inr here,
    )
split machine time begins events state (Happens event ∷ moves) final at p leads ends =
    let t = then-some (moved machine time state (Happens event)) (λ next. replayed machine time next moves) final leads in
    let o = only-some (possible state event) (after machine state event) t.0 t.1 in
    split machine time begins (events ++ event ∷ []) t.0 moves final
    (sym o.1 ∙ ap (λ s. after machine s event) at ∙ sym (happened-more machine begins events event))
    (possible-more machine begins events event p (ap (λ s. possible s event) (sym at) ∙ o.0)) t.2 ends
split machine time begins events state (Turns ∷ moves) final at p leads ends =
    let t = then-some (moved machine time state Turns) (λ next. replayed machine time next moves) final leads in
    let k = turn-some time state (turn_of state) t.0 t.1 in (
      events,
      record { each_possible = p; ends = ap is_quiescent (sym at) ∙ k.2 },
      inl (t.0, moves, subst (λ s. turn_within time s (turn_of s) ≡ Some t.0) at t.1, t.2),
    )

pub no-turn : (time : ℕ) (final next : State) → ends_by time final ≡ true → turn_within time final (turn_of final) ≡ Some next → ⊥
no-turn time final next ends e =
    true-false (is_some (turn_within time final (turn_of final))) (ap is_some e)
    (not-true (is_some (turn_within time final (turn_of final))) (and-both (is_quiescent final) (not (is_some (turn_within time final (turn_of final)))) ends).1)
  where
    not-true : (b : Bool) → not b ≡ true → b ≡ false
    not-true true f = cc
    not-true false f = refl

abbrev pub NoConflicts : Machine → List Phase → Type 0
NoConflicts machine phases = AllHold (λ (phase : Phase). HasNoConflict machine phase.begins phase.events) phases

-- phase by phase
alike : (machine : Machine) (time : ℕ) (final other_final : State) → KeepsRules machine.design → ends_by time final ≡ true → ends_by time other_final ≡ true →
    (moves : List Move) (turn : Option TurnKind) (begins : State) (events : List Event) (state : State) → state ≡ happened machine begins events → BeginsPhase machine begins →
    all_possible machine begins events ≡ true →
    Leads machine time state moves final → NoConflicts machine (cut machine turn begins events state moves) → (other : List Move) → Leads machine time begins other other_final → other_final ≡ final
alike machine time final other_final rules ends ends' [] turn begins events state at b p leads free other leads' =
    let here : final ≡ happened machine begins events = sym (some_eq state final leads) ∙ at in
    let phase : IsPhase machine begins events =
    record { each_possible = p; ends = ap is_quiescent (sym here) ∙ (and-both (is_quiescent final) (not (is_some (turn_within time final (turn_of final)))) ends).0 } in
    let s = split machine time begins [] begins other other_final refl refl leads' ends' in
    let same : happened machine begins s.0 ≡ happened machine begins events =
    end_same machine begins events s.0 (record { rules = rules; begins = b; first_legal = phase; no_conflict = free.0; legal = s.1 }) in
    elim s.2 [
      | inl on ↦ absurd (no-turn time final on.0 ends (subst (λ t. turn_within time t (turn_of t) ≡ Some on.0) (same ∙ sym here) on.2))
      | inr done ↦ done ∙ same ∙ sym here
    ]
alike machine time final other_final rules ends ends' (Happens event ∷ moves) turn begins events state at b p leads free other leads' =
    let t = then-some (moved machine time state (Happens event)) (λ next. replayed machine time next moves) final leads in
    let o = only-some (possible state event) (after machine state event) t.0 t.1 in
    alike machine time final other_final rules ends ends' moves turn begins (events ++ event ∷ []) (after machine state event)
    (ap (λ s. after machine s event) at ∙ sym (happened-more machine begins events event)) b
    (possible-more machine begins events event p (ap (λ s. possible s event) (sym at) ∙ o.0))
    (subst (λ s. Leads machine time s moves final) (sym o.1) t.2) free other leads'
alike machine time final other_final rules ends ends' (Turns ∷ moves) turn begins events state at b p leads free other leads' =
    let t = then-some (moved machine time state Turns) (λ next. replayed machine time next moves) final leads in
    let k = turn-some time state (turn_of state) t.0 t.1 in
    let phase : IsPhase machine begins events = record { each_possible = p; ends = ap is_quiescent (sym at) ∙ k.2 } in
    let s = split machine time begins [] begins other other_final refl refl leads' ends' in
    let same : happened machine begins s.0 ≡ happened machine begins events =
    end_same machine begins events s.0 (record { rules = rules; begins = b; first_legal = phase; no_conflict = free.0; legal = s.1 }) in
    let next : made machine state Turns ≡ t.0 = ap (λ o. turned_by o state) k.1 ∙ k.3 in
    elim s.2 [
      | inr done ↦ absurd (no-turn time other_final t.0 ends' (subst (λ u. turn_within time u (turn_of u) ≡ Some t.0) (at ∙ sym same ∙ sym done) t.1))
      | inl on ↦
          (let one : on.0 ≡ t.0 = some_eq on.0 t.0 (sym on.2 ∙ ap (λ u. turn_within time u (turn_of u)) (same ∙ sym at) ∙ t.1) in
          alike machine time final other_final rules ends ends' moves (turn_of state) (made machine state Turns) [] (made machine state Turns) refl
          (subst (λ u. BeginsPhase machine u) (ap (turned k.0) (sym at) ∙ k.3 ∙ sym next) (next_phase_begins machine begins events k.0 rules b phase)) refl
          (subst (λ u. Leads machine time u moves final) (sym next) t.2) free.1 on.1 (subst (λ u. Leads machine time u on.1 other_final) (one ∙ sym next) on.3))
    ]

pub runs_end_alike : RunsEndAlike
runs_end_alike machine time begins moves other final other_final rules b leads ends free leads' ends' =
    alike machine time final other_final rules ends ends' moves None begins [] begins refl b refl leads free other leads'
