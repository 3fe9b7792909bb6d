-- A phase of a replay ends, and a turn begins the next one (IEEE 1364-2001, clause 5).
use Rattle.std.proofs.Common.{◌≡◌, ℕ, suc, ◌+◌, ◌-◌, ◌<◌, ◌≤◌, List, [], ◌∷◌, ◌++◌, length, get_or, Bool, true, false, not, ◌&&◌, ◌||◌, ◌⊎◌, inl, inr, refl, sym, ap, subst, ◌∙◌, arith, ◌^◌}
use Rattle.std.specs.Prelude.{Option, Some, None, is_some, nat_eq, nat_le, nat_lt}
use Rattle.std.specs.Option.{option_map}
use Rattle.std.proofs.lemmas.Bool.{eq-eqb, ne_eqb, le-leb, lt-ltb, le-ltb}
use Rattle.std.proofs.lemmas.Bool.Decides.{leb_tells}
use Rattle.vf_base.specs.Base.{reported_pair}
use Rattle.v_design.specs.PlainDesigns.{design_of}
use Rattle.v_design.specs.Designs.{Machine}
use Rattle.v_design.specs.States.{State, ProcessState, Event, TurnKind, PostponedTurn, UpdatesTurn, TimeTurn, is_quiescent, is_ready, is_any, turn_of, turned, some_in, has_event}
use Rattle.v_design.specs.Runs.{Turns as TurnMove, work_of, only_if, turn_in_slot, turned_by, turn_within, ends_by}
use Rattle.v_design.specs.Grades.{Phase, race_of}
use Rattle.v_design.specs.Logs.{PhaseAccess}
use Rattle.v_design.specs.PhaseLogs.{phase_race, log_of}
use Rattle.vf_base.specs.Lists.{first_place}
use Rattle.causal_monitor.specs.Phases.{PhaseOfSlot, IsLogOf}
use Rattle.causal_monitor.specs.declared.slot.Turn.{Turn}
use Rattle.causal_monitor.specs.declared.slot.Turn.TheVariants.{Start}
use Rattle.machine_laws.specs.SlotLoop.{RacesGoOn, TurnsWake, or_race}
use Rattle.slot_record.specs.Records.{object_count}
use Rattle.slot_record.specs.SlotLogs.{turn_before, logged_phases, logged_phase_of}
use Rattle.slot_record.specs.SlotRecords.{BeginsPhase, RecordedSlot, IsEmptyLog}
use Rattle.slot_record.specs.SlotRecords as slot
use Rattle.net_state.specs.States.{nodes_in}
use Rattle.process_table.specs.Tables.{IsTableOf}
use Rattle.process_table.specs.Arranged.{IsKept, table_of}
use Rattle.machine_events.specs.Parts.{AreBothOf}
use Rattle.machine_events.specs.Turns.{held_in, TellsTurn, time_in}
use Rattle.machine_events.specs.PartLaws.{turned-nets, held-is}
use Rattle.race_laws.specs.Writes.{WritesStay}
use Rattle.cert_laws.specs.Replays.{Replay, turned_on, phase_on, slot_on}
use Rattle.cert_replay.specs.declared.replaying.Replaying.{Replaying}
use Rattle.cert_replay.specs.Kept.{Keeps, HasEnded, IsReplaying, IsAtPhaseEnd, ArePhasesFew, SameRun, GoesOn, EndsIf, EndsPhase, Turns, claims_race, present_phase}
use Rattle.cert_replay.specs.Deeds.{TellsQuiet, Starts, IsStarting, BeginsSlot}
use Rattle.cert_replay.proofs.Words.{quiet-is, quiet-processes}
use Rattle.cert_replay.proofs.Going.{same-run, same-twice, writes-now}

-- Whether no event is possible

pub and-false : (b : Bool) → (b && false) ≡ false
and-false true = refl
and-false false = refl

pub or-true : (b : Bool) → (b || true) ≡ true
or-true true = refl
or-true false = refl

-- what the nets and the processes tell is so of the present state
pub quiet-told : (old new : Replaying) (quiet : Bool) (work : Option Event) (lane ready : Option ℕ) → work_of 0 (nodes_in old.nets) ≡ work →
    first_place (λ (p : ProcessState). is_any p.lane) (table_of old.table).processes ≡ lane → first_place (λ (p : ProcessState). is_ready p.activity) (table_of old.table).processes ≡ ready →
    quiet ≡ (not (is_some ready || is_some lane) && not (is_some work)) → SameRun old new →
    ((machine : Machine) (replay : Replay) → Keeps machine replay old → Keeps machine replay new) → TellsQuiet quiet old new
quiet-told old new quiet work lane ready works lanes readies is same stays = record {
  same = same;
  quiet_is = λ machine replay k.
      let nodes = ap (work_of 0) (sym (ap (λ (s : State). s.nodes) k.now_is ∙ sym k.amid.both.nets_are.nodes)) in
      let processes = k.amid.both.table_is.processes ∙ ap (λ (s : State). s.processes) (sym k.now_is) in
      is
      ∙ (λ i. not (is_some (sym readies i) || is_some (sym lanes i)) && not (is_some (sym works i)))
      ∙ (λ i. not (is_some (first_place (λ (p : ProcessState). is_ready p.activity) (processes i)) || is_some (first_place (λ (p : ProcessState). is_any p.lane) (processes i)))
      && not (is_some (nodes i)))
      ∙ sym (quiet-is replay.now);
  stays = stays;
}

-- The end of a phase

some-map : {A B : Type 0} (f : A → B) (o : Option A) → is_some (option_map f o) ≡ is_some o
some-map f None = refl
some-map f (Some x) = refl

none-of : {A : Type 0} (o : Option A) → is_some o ≡ false → o ≡ None
none-of None e = refl
none-of (Some x) e = cc

-- the log of the phase names objects of the graph's design
pub log-named : (r : Replaying) → IsReplaying r → IsLogOf (design_of r.graph.now.design.now) r.record.phase.log.log
log-named r is = subst (λ d. IsLogOf d r.record.phase.log.log) (sym is.keeps.graph_is) is.keeps.amid.recorded.present.names

-- some event is possible
pub ends-not : (old new : Replaying) (quiet : Bool) → quiet ≡ false → TellsQuiet quiet old new → EndsPhase false old new
ends-not old new quiet busy tells = record {
  same = tells.same;
  ends = λ machine replay k.
      ap (λ b. b && (old.race || not (is_some (phase_race machine replay.begins replay.events)))) (sym (tells.quiet_is machine replay k) ∙ busy);
}

-- where no event is possible no step comes first
ended-few : (ended steps : ℕ) (state : State) → is_quiescent state ≡ true → ArePhasesFew ended steps state → ended ≤ steps
ended-few ended steps state quiet (inl h) = h
ended-few ended steps state quiet (inr h) = absurd (let no : true ≡ false = sym h.1.0 ∙ quiet-processes state quiet in cc)

length-more : {A : Type 0} (xs : List A) (x : A) → length (xs ++ x ∷ []) ≡ length xs + 1
length-more [] x = refl
length-more (y ∷ xs) x = let z : length xs + 1 + 1 ≡ length (y ∷ xs) + 1 = omega arith in ap suc (length-more xs x) ∙ (let w : suc (length xs + 1) ≡ length (y ∷ xs) + 1 = omega arith in w)

module _ (law : RacesGoOn) (stay : WritesStay) (machine : Machine) (replay : Replay) (old mid new : Replaying) (k : Keeps machine replay mid) (quiet : is_quiescent replay.now ≡ true)
    (claim : claims_race mid ≡ claims_race old)
    (phase : slot.EndsPhase (design_of mid.graph.now.design.now) mid.record new.record mid.log new.log) (is : new ≡ record mid { «record» = new.record; log = new.log }) where
  abbrev all : List Phase
  all = k.before ++ present_phase k.turn replay ∷ []

  recorded : RecordedSlot machine k.first all new.record new.log
  recorded = phase machine k.first k.before (present_phase k.turn replay) (sym k.graph_is) k.amid.recorded

  abbrev race : Option (PhaseAccess × PhaseAccess)
  race = phase_race machine replay.begins replay.events

  -- where no race is claimed, the race that is kept is that of the phase
  race-is : old.race ≡ false → is_some new.record.race ≡ is_some race
  race-is none =
      sym (some-map reported_pair new.record.race)
      ∙ ap is_some (recorded.race_is ∙ law machine k.before (present_phase k.turn replay)
      ∙ ap (λ o. or_race o (option_map (race_of replay.begins.time (length k.before + 1)) race)) (k.clear (claim ∙ none)))
      ∙ some-map (race_of replay.begins.time (length k.before + 1)) race

  ended : (old.race ≡ false → is_some new.record.race ≡ false) → HasEnded machine replay new
  ended clear = subst (HasEnded machine replay) (sym is) (record {
    first = k.first;
    before = all;
    earlier = k.before;
    turn = k.turn;
    last = refl;
    names = subst (IsLogOf machine.design) k.amid.recorded.present.log k.amid.recorded.present.names;
    recorded = recorded;
    both = subst (λ s. AreBothOf machine s mid.nets mid.table) (sym k.now_is) k.amid.both;
    arranged = k.amid.arranged;
    quiescent = quiet;
    number_is = k.number_is ∙ sym (length-more k.before (present_phase k.turn replay));
    steps_is = k.steps_is;
    graph_is = k.graph_is;
    writes = writes-now stay machine replay mid k;
    most = k.most;
    few =
        (let count : length (k.before ++ present_phase k.turn replay ∷ []) ≡ length k.before + 1 = length-more k.before (present_phase k.turn replay) in
        let few : length k.before ≤ replay.steps = ended-few (length k.before) replay.steps replay.now quiet k.few in omega (arith, count, few));
    clear = λ none. sym recorded.race_is ∙ ap (option_map reported_pair) (none-of new.record.race (clear (sym claim ∙ none)));
  })

  pub ends-so : (ended : Bool) → ended ≡ (old.race || not (is_some new.record.race)) → EndsIf ended machine replay old new
  ends-so passes e = go old.race (is_some new.record.race) refl refl passes e
    where
      go : (r f : Bool) → old.race ≡ r → is_some new.record.race ≡ f → (passes : Bool) → passes ≡ (r || not f) → EndsIf passes machine replay old new
      go true f claimed found true e = (λ i. quiet i && (claimed i || not (is_some race)), ended (λ none. absurd (let no : true ≡ false = sym claimed ∙ none in cc)))
      go true f claimed found false e = cc
      go false true claimed found true e = cc
      go false true claimed found false e = (λ i. quiet i && (claimed i || not ((sym (race-is claimed) ∙ found) i)))
      go false false claimed found true e = (λ i. quiet i && (claimed i || not ((sym (race-is claimed) ∙ found) i)), ended (λ none. found))
      go false false claimed found false e = cc

-- the phase is logged, and may end or not
pub ends-told : RacesGoOn → WritesStay → (old mid new : Replaying) (quiet ended : Bool) → quiet ≡ true → TellsQuiet quiet old mid →
    slot.EndsPhase (design_of mid.graph.now.design.now) mid.record new.record mid.log new.log →
    new ≡ record mid { «record» = new.record; log = new.log } → SameRun mid new → ended ≡ (mid.race || not (is_some new.record.race)) → EndsPhase ended old new
ends-told law stay old mid new quiet ended calm tells phase is same e = record {
  same = same-twice old mid new tells.same same;
  ends = λ machine replay k.
      ends-so law stay machine replay old mid new (tells.stays machine replay k) (sym (tells.quiet_is machine replay k) ∙ calm) tells.same.race phase is ended
      (e ∙ ap (λ b. b || not (is_some new.record.race)) tells.same.race);
}

-- Turns

-- the next phase has a number
pub next-number : (r : Replaying) (is : IsAtPhaseEnd r) → r.record.number + 1 < 2 ^ 32
next-number r is =
    let h = is.ended in
    let numbered : r.record.number ≡ length h.before = h.recorded.numbered in
    let few : length h.before ≤ is.replay.steps + 1 = h.few in
    let steps : is.replay.steps ≡ r.steps = h.steps_is in
    let most : r.steps ≤ 100000 = h.most in
    omega (arith, numbered, few, steps, most)

-- what a turn asks
pub turn-quiet : (r : Replaying) (is : IsAtPhaseEnd r) → some_in has_event (table_of r.table).processes ≡ false
turn-quiet r is = ap (some_in has_event) is.ended.both.table_is.processes ∙ quiet-processes is.replay.now is.ended.quiescent

-- a turn within the slot begins the phase of a number
phase-begun : WritesStay → TurnsWake → (machine : Machine) (replay : Replay) (old new : Replaying) (h : HasEnded machine replay old) (kind : TurnKind) (turn : Turn) (number : ℕ) →
    turn_of replay.now ≡ Some kind → turn_in_slot (Some kind) ≡ Some TurnMove → ((first : Turn) → turn ≡ turn_before first (Some kind)) → number ≡ replay.number + 1 → (turned kind replay.now).time ≡ replay.now.time →
    ((machine : Machine) (state : State) → IsTableOf machine state (table_of old.table) → IsTableOf machine (turned_by (turn_of state) state) (table_of new.table)) → IsKept new.table →
    BeginsPhase turn (table_of new.table).time (held_in (table_of new.table)) old.record new.record →
    new ≡ record old { table = new.table; «record» = new.record; told = new.told } → Keeps machine (turned_on kind number replay.steps replay) new
phase-begun stay wake machine replay old new h kind turn number found within before is time turns kept begins same =
    let next : State = turned kind replay.now in
    let table : IsTableOf machine next (table_of new.table) = subst (λ o. IsTableOf machine (turned_by o replay.now) (table_of new.table)) found (turns machine replay.now h.both.table_is) in
    let made : Replaying = record old { table = new.table; «record» = new.record; told = new.told } in
    subst (Keeps machine (turned_on kind number replay.steps replay)) (sym same) (record {
      first = h.first;
      before = h.before;
      turn = Some kind;
      amid = record {
        both = record { machine_is = h.both.machine_is; nets_are = turned-nets kind old.nets replay.now h.both.nets_are; table_is = table };
        arranged = kept;
        recorded = begins machine h.first h.before (Some kind) next old.log h.recorded (before h.first) (sym table.time) (held-is machine next (table_of new.table) table);
      };
      now_is = refl;
      number_is = is ∙ ap (λ n. n + 1) h.number_is;
      steps_is = h.steps_is;
      graph_is = h.graph_is;
      writes = stay.after_turn machine.design replay.now kind h.writes;
      most = h.most;
      few = inr (h.few, wake replay.now kind h.quiescent found within);
      clear = h.clear;
    })

-- the phase that a turn within the slot begins is the one that is asked for
pub phase-goes : WritesStay → TurnsWake → (old new : Replaying) (turn : Turn) (number : ℕ) →
    ((machine : Machine) (state : State) → IsTableOf machine state (table_of old.table) → TellsTurn (Some turn) (turn_of state)) →
    number ≡ old.record.number + 1 →
    ((machine : Machine) (state : State) → IsTableOf machine state (table_of old.table) → IsTableOf machine (turned_by (turn_of state) state) (table_of new.table)) → IsKept new.table →
    BeginsPhase turn (table_of new.table).time (held_in (table_of new.table)) old.record new.record →
    new ≡ record old { table = new.table; «record» = new.record; told = new.told } → SameRun old new → Turns (λ replay. phase_on (turn_of replay.now) number replay) true old new
phase-goes stay wake old new turn number told is turns kept begins same run = record {
  same = run;
  goes_on = λ machine replay h. go machine replay h (turn_of replay.now) refl (told machine replay.now h.both.table_is) (is ∙ ap (λ n. n + 1) (h.recorded.numbered ∙ sym h.number_is));
}
  where
    go : (machine : Machine) (replay : Replay) (h : HasEnded machine replay old) (found : Option TurnKind) → turn_of replay.now ≡ found → TellsTurn (Some turn) found → number ≡ replay.number + 1 →
        GoesOn machine (phase_on found number replay) true new
    go machine replay h None f tells e = absurd tells
    go machine replay h (Some PostponedTurn) f tells e = (
      turned_on PostponedTurn number replay.steps replay,
      ap (λ b. only_if b (turned_on PostponedTurn number replay.steps replay)) (eq-eqb number (replay.number + 1) e),
      phase-begun stay wake machine replay old new h PostponedTurn turn number f refl tells.1 e refl turns kept begins same,
    )
    go machine replay h (Some UpdatesTurn) f tells e = (
      turned_on UpdatesTurn number replay.steps replay,
      ap (λ b. only_if b (turned_on UpdatesTurn number replay.steps replay)) (eq-eqb number (replay.number + 1) e),
      phase-begun stay wake machine replay old new h UpdatesTurn turn number f refl tells.1 e refl turns kept begins same,
    )
    go machine replay h (Some (TimeTurn time)) f tells e = let no : None ≡ Some TurnMove = tells.0 in cc

-- no turn within the slot comes, or the next phase has another number
pub phase-none : (old : Replaying) (number : ℕ) → ((machine : Machine) (state : State) → IsTableOf machine state (table_of old.table) → TellsTurn None (turn_of state)) →
    Turns (λ replay. phase_on (turn_of replay.now) number replay) false old old
phase-none old number told = record {
  same = same-run old;
  goes_on = λ machine replay h. go replay (turn_of replay.now) (told machine replay.now h.both.table_is);
}
  where
    go : (replay : Replay) (found : Option TurnKind) → turn_in_slot found ≡ None → phase_on found number replay ≡ None
    go replay None e = refl
    go replay (Some PostponedTurn) e = cc
    go replay (Some UpdatesTurn) e = cc
    go replay (Some (TimeTurn time)) e = refl

pub phase-other : (old : Replaying) (number : ℕ) → (number ≡ old.record.number + 1 → ⊥) → Turns (λ replay. phase_on (turn_of replay.now) number replay) false old old
phase-other old number other = record {
  same = same-run old;
  goes_on = λ machine replay h. go replay (turn_of replay.now) (ne_eqb number (replay.number + 1) (λ e. other (e ∙ ap (λ n. n + 1) (h.number_is ∙ sym h.recorded.numbered))));
}
  where
    go : (replay : Replay) (found : Option TurnKind) → nat_eq number (replay.number + 1) ≡ false → phase_on found number replay ≡ None
    go replay None e = refl
    go replay (Some PostponedTurn) e = ap (λ b. only_if b (turned_on PostponedTurn number replay.steps replay)) e
    go replay (Some UpdatesTurn) e = ap (λ b. only_if b (turned_on UpdatesTurn number replay.steps replay)) e
    go replay (Some (TimeTurn time)) e = refl

-- Slots

-- a slot begins, with its first phase
pub slot-begun : (old mid new : Replaying) (turn : Turn) → slot.BeginsSlot old.record mid.record → IsEmptyLog mid.log → mid ≡ record old { «record» = mid.record; log = mid.log } →
    BeginsPhase turn (table_of mid.table).time (held_in (table_of mid.table)) mid.record new.record →
    new ≡ record mid { «record» = new.record; told = new.told; steps = 0 } → BeginsSlot old new
slot-begun old mid new turn begins empty before phase after = record {
  same = subst (SameRun old) (sym after) (subst (λ m. SameRun old (record m { «record» = new.record; told = new.told; steps = 0 })) (sym before) (record { race = refl; bound = refl }));
  begins = λ machine begun moves s.
      let parts : Replaying = record old { «record» = mid.record; log = mid.log } in
      let recorded = begins machine turn s.earlier mid.log s.causes empty in
      subst (Keeps machine (record { begins = begun; events = []; now = begun; number = 1; steps = 0; moves = moves }))
      (sym (after ∙ ap (λ (m : Replaying). record m { «record» = new.record; told = new.told; steps = 0 }) before))
      (record {
        first = turn;
        before = [];
        turn = None;
        amid = record {
          both = s.both;
          arranged = s.arranged;
          recorded = phase machine turn [] None begun mid.log recorded refl
              (sym (ap (λ (m : Replaying). (table_of m.table).time) before ∙ s.both.table_is.time))
              (ap (λ (m : Replaying). held_in (table_of m.table)) before ∙ held-is machine begun (table_of old.table) s.both.table_is);
        };
        now_is = refl;
        number_is = refl;
        steps_is = refl;
        graph_is = s.graph_is;
        writes = s.writes;
        most = omega arith;
        few = inl (omega arith);
        clear = λ none. refl;
      });
}

-- there is room for as many objects as the design has
pub slot-room : (old mid : Replaying) → IsStarting old → slot.BeginsSlot old.record mid.record → IsEmptyLog mid.log → object_count mid.record.phase ≡ length (table_of old.table).design.objects
slot-room old mid is begins empty =
    (begins is.machine Start is.starts.earlier mid.log is.starts.causes empty).causes.objects ∙ ap (λ d. length d.objects) (sym is.starts.both.table_is.design)

-- where a turn leads to a later time, a slot may begin with the state then
pub slot-starts : WritesStay → (machine : Machine) (replay : Replay) (old mid : Replaying) (later : ℕ) → HasEnded machine replay old → turn_of replay.now ≡ Some (TimeTurn later) →
    ((machine : Machine) (state : State) → IsTableOf machine state (table_of old.table) → IsTableOf machine (turned_by (turn_of state) state) (table_of mid.table)) → IsKept mid.table →
    mid ≡ record old { table = mid.table } → Starts machine (turned (TimeTurn later) replay.now) mid
slot-starts stay machine replay old mid later h found turns kept same =
    let table : IsTableOf machine (turned (TimeTurn later) replay.now) (table_of mid.table) =
    subst (λ o. IsTableOf machine (turned_by o replay.now) (table_of mid.table)) found (turns machine replay.now h.both.table_is) in
    subst (Starts machine (turned (TimeTurn later) replay.now)) (sym same) (record {
      both = record { machine_is = h.both.machine_is; nets_are = turned-nets (TimeTurn later) old.nets replay.now h.both.nets_are; table_is = table };
      arranged = kept;
      earlier = h.recorded.earlier;
      causes = h.recorded.causes;
      graph_is = h.graph_is;
      writes = stay.after_turn machine.design replay.now (TimeTurn later) h.writes;
    })

-- the time of the turn that comes
time-turn : (found : Option TurnKind) (later : ℕ) → Some later ≡ time_in found → found ≡ Some (TimeTurn later)
time-turn None later e = cc
time-turn (Some PostponedTurn) later e = cc
time-turn (Some UpdatesTurn) later e = cc
time-turn (Some (TimeTurn time)) later e = let same : time ≡ later = cc in ap (λ t. Some (TimeTurn t)) same

pub later-turn : (r : Replaying) (later : ℕ) → ((machine : Machine) (state : State) → IsTableOf machine state (table_of r.table) → Some later ≡ time_in (turn_of state)) →
    (machine : Machine) (replay : Replay) → HasEnded machine replay r → turn_of replay.now ≡ Some (TimeTurn later)
later-turn r later told machine replay h = time-turn (turn_of replay.now) later (told machine replay.now h.both.table_is)

pub slot-starting : WritesStay → (old mid : Replaying) (later : ℕ) (is : IsAtPhaseEnd old) → ((machine : Machine) (state : State) → IsTableOf machine state (table_of old.table) →
    Some later ≡ time_in (turn_of state)) →
    ((machine : Machine) (state : State) → IsTableOf machine state (table_of old.table) → IsTableOf machine (turned_by (turn_of state) state) (table_of mid.table)) →
    IsKept mid.table →
    mid ≡ record old { table = mid.table } → IsStarting mid
slot-starting stay old mid later is told turns kept same = record {
  machine = is.machine;
  begins = turned (TimeTurn later) is.replay.now;
  starts = slot-starts stay is.machine is.replay old mid later is.ended (later-turn old later told is.machine is.replay is.ended) turns kept same;
}

-- the slot that the turn begins is the one that is asked for
pub slot-goes : WritesStay → (old mid new : Replaying) (later time : ℕ) → ((machine : Machine) (state : State) → IsTableOf machine state (table_of old.table) → Some later ≡ time_in (turn_of state)) →
    later ≡ time → later ≤ old.bound →
    ((machine : Machine) (state : State) → IsTableOf machine state (table_of old.table) → IsTableOf machine (turned_by (turn_of state) state) (table_of mid.table)) → IsKept mid.table →
    mid ≡ record old { table = mid.table } → SameRun old mid → BeginsSlot mid new → Turns (λ replay. slot_on old.bound (turn_of replay.now) time replay) true old new
slot-goes stay old mid new later time told is low turns kept same run begins = record {
  same = same-twice old mid new run begins.same;
  goes_on = λ machine replay h.
      let found = later-turn old later told machine replay h in (
        turned_on (TimeTurn later) 1 0 replay,
        ap (λ o. slot_on old.bound o time replay) found
            ∙ (λ i. only_if (eq-eqb later time is i && le-leb later old.bound low i) (turned_on (TimeTurn later) 1 0 replay)),
        begins.begins machine (turned (TimeTurn later) replay.now) (replay.moves ++ TurnMove ∷ []) (slot-starts stay machine replay old mid later h found turns kept same),
      );
}

-- no later slot comes, or it is at another time, or past the bound
pub slot-none : (old : Replaying) (time : ℕ) → ((machine : Machine) (state : State) → IsTableOf machine state (table_of old.table) → None ≡ time_in (turn_of state)) →
    Turns (λ replay. slot_on old.bound (turn_of replay.now) time replay) false old old
slot-none old time told = record {
  same = same-run old;
  goes_on = λ machine replay h. go replay (turn_of replay.now) (told machine replay.now h.both.table_is);
}
  where
    go : (replay : Replay) (found : Option TurnKind) → None ≡ time_in found → slot_on old.bound found time replay ≡ None
    go replay None e = refl
    go replay (Some PostponedTurn) e = refl
    go replay (Some UpdatesTurn) e = refl
    go replay (Some (TimeTurn later)) e = cc

pub slot-other : (old : Replaying) (later time : ℕ) → ((machine : Machine) (state : State) → IsTableOf machine state (table_of old.table) → Some later ≡ time_in (turn_of state)) →
    (nat_eq later time && nat_le later old.bound) ≡ false → Turns (λ replay. slot_on old.bound (turn_of replay.now) time replay) false old old
slot-other old later time told none = record {
  same = same-run old;
  goes_on = λ machine replay h.
      ap (λ o. slot_on old.bound o time replay) (later-turn old later told machine replay h) ∙ ap (λ b. only_if b (turned_on (TimeTurn later) 1 0 replay)) none;
}

-- The end of the run

-- a further turn within the slot
pub through-turn : (r : Replaying) (turn : Turn) → ((machine : Machine) (state : State) → IsTableOf machine state (table_of r.table) → TellsTurn (Some turn) (turn_of state)) →
    (machine : Machine) (replay : Replay) → HasEnded machine replay r → false ≡ ends_by r.bound replay.now
through-turn r turn told machine replay h = go (turn_of replay.now) (told machine replay.now h.both.table_is)
  where
    go : (found : Option TurnKind) → TellsTurn (Some turn) found → false ≡ (is_quiescent replay.now && not (is_some (turn_within r.bound replay.now found)))
    go None tells = absurd tells
    go (Some PostponedTurn) tells = sym (λ i. h.quiescent i && not (is_some (only_if (h.quiescent i && true) (turned PostponedTurn replay.now))))
    go (Some UpdatesTurn) tells = sym (λ i. h.quiescent i && not (is_some (only_if (h.quiescent i && true) (turned UpdatesTurn replay.now))))
    go (Some (TimeTurn time)) tells = let no : None ≡ Some TurnMove = tells.0 in cc

-- none at all
pub through-none : (r : Replaying) → ((machine : Machine) (state : State) → IsTableOf machine state (table_of r.table) → TellsTurn None (turn_of state)) →
    ((machine : Machine) (state : State) → IsTableOf machine state (table_of r.table) → None ≡ time_in (turn_of state)) →
    (machine : Machine) (replay : Replay) → HasEnded machine replay r → true ≡ ends_by r.bound replay.now
through-none r told timed machine replay h = go (turn_of replay.now) (told machine replay.now h.both.table_is) (timed machine replay.now h.both.table_is)
  where
    go : (found : Option TurnKind) → turn_in_slot found ≡ None → None ≡ time_in found → true ≡ (is_quiescent replay.now && not (is_some (turn_within r.bound replay.now found)))
    go None tells e = sym (λ i. h.quiescent i && true)
    go (Some PostponedTurn) tells e = cc
    go (Some UpdatesTurn) tells e = cc
    go (Some (TimeTurn time)) tells e = cc

-- one to a later time
pub through-later : (r : Replaying) (later : ℕ) → ((machine : Machine) (state : State) → IsTableOf machine state (table_of r.table) → Some later ≡ time_in (turn_of state)) →
    (machine : Machine) (replay : Replay) → HasEnded machine replay r → nat_lt r.bound later ≡ ends_by r.bound replay.now
through-later r later told machine replay h =
    past later r.bound ∙ sym (ap (λ o. is_quiescent replay.now && not (is_some (turn_within r.bound replay.now o))) (later-turn r later told machine replay h)
    ∙ (λ i. h.quiescent i && not (is_some (only_if (h.quiescent i && nat_le later r.bound) (turned (TimeTurn later) replay.now))))
    ∙ kept (nat_le later r.bound))
  where
    kept : (b : Bool) → not (is_some (only_if b (turned (TimeTurn later) replay.now))) ≡ not b
    kept true = refl
    kept false = refl

    past : (a b : ℕ) → nat_lt b a ≡ not (nat_le a b)
    past a b = go (leb_tells a b)
      where
        go : ((nat_le a b ≡ true) × (a ≤ b)) ⊎ ((nat_le a b ≡ false) × (b < a)) → nat_lt b a ≡ not (nat_le a b)
        go (inl t) = le-ltb b a t.1 ∙ sym (ap not t.0)
        go (inr t) = lt-ltb b a t.1 ∙ sym (ap not t.0)

-- The log of the phase that ended

logged-last : (machine : Machine) (number : ℕ) (earlier : List Phase) (phase : Phase) →
    logged_phases machine number (earlier ++ phase ∷ []) ≡ logged_phases machine number earlier ++ logged_phase_of machine (length earlier + number) phase ∷ []
logged-last machine number [] phase = let z : number ≡ 0 + number = omega arith in ap (λ n. logged_phase_of machine n phase ∷ []) z
logged-last machine number (one ∷ earlier) phase =
    ap (λ l. logged_phase_of machine number one ∷ l) (logged-last machine (number + 1) earlier phase)
    ∙ (let z : length earlier + (number + 1) ≡ length (one ∷ earlier) + number = omega arith in
    ap (λ n. logged_phase_of machine number one ∷ (logged_phases machine (number + 1) earlier ++ logged_phase_of machine n phase ∷ [])) z)

-- what is logged so far, the replay's phase as the last
logged-so : (machine : Machine) (replay : Replay) (r : Replaying) (h : HasEnded machine replay r) →
    r.log.phases ≡ logged_phases machine 1 h.earlier ++ logged_phase_of machine (length h.earlier + 1) (present_phase h.turn replay) ∷ []
logged-so machine replay r h = h.recorded.logged.phases_are ∙ ap (logged_phases machine 1) h.last ∙ logged-last machine 1 h.earlier (present_phase h.turn replay)

-- some phase is logged
pub some-logged : (r : Replaying) → IsAtPhaseEnd r → 0 < length r.log.phases
some-logged r is = subst (λ l. 0 < length l) (sym (logged-so is.machine is.replay r is.ended)) (some (logged_phases is.machine 1 is.ended.earlier) _)
  where
    some : (xs : List PhaseOfSlot) (x : PhaseOfSlot) → 0 < length (xs ++ x ∷ [])
    some xs x = omega (arith, length-more xs x)

-- the last one is the replay's phase
pub last-logged : (machine : Machine) (replay : Replay) (r : Replaying) (found : PhaseOfSlot) → HasEnded machine replay r → found ≡ get_or r.log.phases (length r.log.phases - 1) found →
    found.log ≡ log_of machine replay.begins replay.events
last-logged machine replay r found h is =
    let x : PhaseOfSlot = logged_phase_of machine (length h.earlier + 1) (present_phase h.turn replay) in
    let xs = logged_phases machine 1 h.earlier in
    ap (λ (p : PhaseOfSlot). p.log) (is ∙ ap (λ l. get_or l (length l - 1) found) (logged-so machine replay r h)
    ∙ ap (λ n. get_or (xs ++ x ∷ []) n found) (let z : length (xs ++ x ∷ []) - 1 ≡ length xs = omega (arith, length-more xs x) in z)
    ∙ here xs x found)
  where
    here : (xs : List PhaseOfSlot) (x d : PhaseOfSlot) → get_or (xs ++ x ∷ []) (length xs) d ≡ x
    here [] x d = refl
    here (y ∷ xs) x d = here xs x d
