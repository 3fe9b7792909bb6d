-- A block of its own that a fault takes beside the good machine's: it is run, compared and noted, and the runner goes back.
use Rattle.std.proofs.Common.{◌≡◌, ℕ, zero, suc, ◌+◌, ◌-◌, ◌^◌, ◌<◌, ◌≤◌, List, [], ◌∷◌, ◌++◌, drop, length, map, Bool, true, false, ◌||◌, refl, sym, ap, subst, ◌∙◌, arith}
use Rattle.std.specs.Prelude.{Some, None, sum_by}
use Rattle.std.proofs.lemmas.List.{length-append}
use Rattle.vf_base.specs.Base.{object_number}
use Rattle.vf_base.specs.Lists.{has}
use Rattle.vf_base.specs.declared.ids.ObjectId.{ObjectId}
use Rattle.v_design.specs.Designs.{FlatDesign, Machine, StuckAt, TestPlan, good_machine, faulty_machine, width_in}
use Rattle.v_design.specs.PhaseLogs.{is_lane_of}
use Rattle.v_design.specs.States.{State, Event, process_at, some_in}
use Rattle.v_design.specs.Grades.{phases}
use Rattle.v_design.specs.OwnSteps.{ProcessRun}
use Rattle.v_design.specs.Runs.{happened, work_of}
use Rattle.v_design.specs.WellFormed.{KeepsRules}
use Rattle.slot_steps.specs.Rises.{RisesWithin}
use Rattle.machine_events.specs.Steps.{raised_by}
use Rattle.machine_laws.specs.SlotLoop.{Moment, ComesTo, after_events, first_lane, steps_of}
use Rattle.copy_laws.specs.Moves.{ChangesOnly}
use Rattle.copy_laws.specs.OwnRuns.{EventsTakeNoTime}
use Rattle.race_laws.specs.Writes.{WritesAreOf, WritesStay}
use Rattle.trace_window.specs.Moments.{window_events}
use Rattle.faulty_block.specs.block_events.declared.runner.Runner.{Runner}
use Rattle.faulty_block.specs.block_events.Runners.{machine_of, state_of}
use Rattle.block_told.specs.declared.told.BlockTold.{BlockTold}
use Rattle.block_told.specs.Tells.{TellsBlock}
use Rattle.block_filter.specs.Blocks.{BlockPair}
use Rattle.block_filter.specs.Likes.{AreWider}
use Rattle.own_told.specs.Told.{ActAlike, CausesAgree}
use Rattle.lockstep_steps.specs.window_places.Passing.{events_before}
use Rattle.lockstep_steps.specs.window_places.Windows.{IsAtMoment}
use Rattle.good_moment.specs.moment_laws.Places.{IsShownAt}
use Rattle.good_moment.specs.moment_laws.Shown.{MomentKept, is_lane}
use Rattle.lockstep_laws.specs.Blocks.{ChangesAddUp, with_all_nodes}
use Rattle.lockstep_laws.specs.Lockstep.{AreInLockstep, LockstepIsBeside}
use Rattle.lockstep_laws.specs.Phases.{IsInPhase, PhasesFit}
use Rattle.lockstep_laws.specs.Slots.{KeepsNothingSame}
use Rattle.faulty_block.specs.lockstep_compare.Compared.{ComparisonsTell, IsKeptBehind}
use Rattle.faulty_block.specs.lockstep_copy.Kept.{kept_by}
use Rattle.faulty_block.specs.lockstep_copy.declared.own.LockstepCopy.{LockstepCopy}
use Rattle.faulty_block.specs.lockstep_room.declared.counts.Counts.{Counts}
use Rattle.lockstep_steps.specs.lockstep_slots.Kept.{kept_within}
use Rattle.lockstep_steps.specs.lockstep_slots.Pairs.{unlike_pair}
use Rattle.lockstep_steps.specs.lockstep_slots.Places.{Place, state_there, behind_events}
use Rattle.lockstep_steps.specs.lockstep_slots.Standing.{BlocksDiffer}
use Rattle.lockstep_steps.specs.lockstep_notes.Beside.{BeginAlike, IsGoodBlock, TakesIn}
use Rattle.lockstep_steps.specs.lockstep_notes.Notes.{NotesTell, marks_of}
use Rattle.lockstep_steps.specs.Going.{IsGoing}
use Rattle.lockstep_steps.specs.Laws.{StepsGoOn}
use Rattle.lockstep_steps.proofs.Events.{behind-state, place-behind}
use Rattle.race_notes.specs.Notes.{NotesKept}
use Rattle.faulty_block.proofs.block_compare.Same.{each-of, or-both}
use Rattle.run_ends.specs.RunEnds.{enders_in}
use Rattle.own_slots.specs.Slots.{OwnSoFar}
use Rattle.good_runs.specs.declared.tried.TriedStep.{TriedStep}
use Rattle.run_numbers.specs.declared.numbers.RunApart.{RunApart}
use Rattle.faulty_block.specs.block_runner.Beside.{TellsBeside}
use Rattle.faulty_block.specs.block_runner.declared.goods.GoodPhase.{GoodPhase}
use Rattle.faulty_block.specs.block_runner.Ends.{TicksTried}
use Rattle.faulty_block.specs.Runs.{MayRun, RanBlock, StepsWithin}
use Rattle.faulty_block.proofs.Differs.{is-back, kept-behind}
use Rattle.lockstep_block.specs.Beside.{ComparesBeside, MayCompareBeside, acts_beside, parts_beside}
use Rattle.lockstep_block.specs.Blocks.{TriedInSlot}
use Rattle.lockstep_block.specs.Own.{MayRunOwn, TookOwn}
use Rattle.lockstep_block.specs.Runs.{IsGoodPhase, NotesEnded}
use Rattle.lockstep_block.proofs.GoodWrites.{good-writes, lane-steps}
use Rattle.lockstep_block.proofs.OwnRuns.{RunLaws, goods, numbers, phase-beside, so-far-behind, tells-goods, tried-behind}
use Rattle.lockstep_block.proofs.Passed.{wide-at}

pub record BlockLaws : Type 0 where
  pub compares : ComparisonsTell
  pub adds : ChangesAddUp
  pub causes : CausesAgree
  pub steps : StepsGoOn

neither : (b c : Bool) → (b || c) ≡ false → (b ≡ false) × (c ≡ false)
neither true c e = cc
neither false true e = cc
neither false false e = (refl, refl)

second-true : (b c : Bool) → c ≡ true → (b || c) ≡ true
second-true true c e = refl
second-true false c e = e

pub in-phase : (machine : Machine) (at : Moment) → ComesTo machine at → IsInPhase machine at.state
in-phase machine at comes = record { begins = at.phase_begins; events = at.events; asked = comes.phase_asked; is = comes.happened_so_far }

-- a machine is the good one again
pub good-again : (design : FlatDesign) (fault : StuckAt) (first middle last : Machine) → first ≡ good_machine design → middle ≡ faulty_machine first.design fault →
    last ≡ record middle { fault = None } → last ≡ first
good-again design fault first middle last first_is middle_is last_is =
    last_is ∙ ap (λ (m : Machine). record m { fault = None }) middle_is ∙ ap (λ (m : Machine). good_machine m.design) first_is ∙ sym first_is

-- so many of some steps are taken
pub spent : (taken spare : ℕ) → taken ≤ spare → taken + (spare - taken) ≡ spare
spent taken spare few = omega arith

counted : (taken steps all less spare : ℕ) → steps ≡ all → steps ≡ taken → taken + less ≡ spare → all + less ≡ spare
counted taken steps all less spare count is spared = omega arith

raised-most : (count before : ℕ) → raised_by count before ≤ before + count
raised-most zero before = omega arith
raised-most (suc count) before = let rest : raised_by count before ≤ before + count = raised-most count before in omega (arith, rest)

-- a counter ticked no more than steps were kept
pub ticks-told : (old new : List TriedStep) (before now : ℕ) → TicksTried old new before now → RisesWithin (length old) (length new) before now
ticks-told old new before now of =
    let more = drop (length old) new in
    let most = raised-most (length more) before in
    let ticks = of.ticks in
    let all : length new ≡ length old + length more = ap length of.more ∙ length-append old more in
    omega (arith, most, ticks, all)

-- the moment behind a block
moment-behind : (design : FlatDesign) (plan : TestPlan) (place : Place) (block rest : List Event) (before behind : MomentKept) → IsShownAt design plan place before →
    IsShownAt design plan (behind_events block rest place) behind → behind.before ≡ before.before → behind.slot ≡ before.slot → behind.moment ≡ before.moment + length block
moment-behind design plan place block rest before behind first later from slot =
    let here = first.moment_is in
    let there : behind.moment ≡ length (window_events design plan before.before (before.before + before.slot)) + events_before (behind_events block rest place) =
    later.moment_is ∙ (λ i. length (window_events design plan (from i) (from i + slot i)) + events_before (behind_events block rest place)) in
    let all = length-append place.passed block in
    omega (arith, here, there, all)

module _ {design : FlatDesign} {plan : TestPlan} {fault : StuckAt} {from until : ℕ} {runner : Runner} {before behind : MomentKept} {counts : Counts} {notes : NotesKept} {own : LockstepCopy}
    {spare : ℕ} {tried : List TriedStep} {apart : List RunApart} (of : MayRunOwn design plan fault from until runner before behind counts notes own spare tried apart) where
  pub same-design : (machine_of runner).design ≡ design
  same-design = ap (λ (m : Machine). m.design) of.beside.runs.machine_is

  moment-is : behind.moment ≡ before.moment + length of.block
  moment-is = moment-behind design plan of.place of.block of.rest before behind of.beside.before_at of.beside.behind_at of.beside.same.before of.beside.same.slot

  -- the states behind the blocks may be compared
  pub may-compare : PhasesFit → (machine : Machine) → machine ≡ faulty_machine (machine_of runner).design fault → MayCompareBeside design machine behind
  may-compare fit machine same =
      let told = of.beside.told in
      let states = of.beside.behind_at.shows.counts.states in
      record {
        design_is = ap (λ (m : Machine). m.design) same ∙ same-design;
        good = state_there (good_machine design) (behind_events of.block of.rest of.place);
        shown = of.beside.behind_at.shows;
        wide = wide-at fit design of.beside.behind_at.in_order.rules (behind_events of.block of.rest of.place) of.beside.runs.asked;
        acted = λ process there.
            let low : process < length behind.states = each-of (λ (p : ℕ). p < length behind.states) behind.acted told.processes_there process there in omega (arith, low, states);
        lane = λ process there. let low = told.lane_there process there in omega (arith, low, states);
      }

  -- the good machine's block beside
  good-block : (first end : ℕ) (written : List ObjectId) (shows : State → Type 0) → first ≡ before.moment → end ≡ behind.moment → map object_number written ≡ behind.changed →
      shows (state_there (good_machine design) (behind_events of.block of.rest of.place)) → IsGoodBlock design plan from until first end written shows of.place of.block of.rest
  good-block first end written shows first_is end_is are shown = record {
    at = subst (λ m. IsAtMoment design plan from until m of.place) (sym first_is) of.goes.going.at;
    left = of.beside.parts;
    end_is = end_is ∙ moment-is ∙ ap (λ m. m + length of.block) (sym first_is);
    writes = λ object e. ap (λ l. has l object) are ∙ of.beside.told.changed object ∙ e;
    shown = subst shows (place-behind (good_machine design) of.place of.block of.rest) shown;
  }

  module _ (fit : PhasesFit) (side : LockstepIsBeside) where
    -- the processes that act in the good machine's block have its first lane among them
    pub lane-acts : (process : ℕ) → first_lane (state_of runner) ≡ Some process → acts_beside behind process ≡ true
    lane-acts process is =
        let good = state_there (good_machine design) of.place in
        let stepped : some_in (is_lane_of process) of.block ≡ true =
        lane-steps (good_machine design) good process of.block of.goes.going.stands.between.nodes (ap first_lane (sym of.beside.runs.state_is) ∙ is) of.beside.whole.some of.beside.whole.first in
        second-true (has behind.acted process) (is_lane behind.lane process) (of.beside.told.lane process ∙ stepped)

    -- the runner becomes the faulty machine, and runs its block
    unfoldable pub may-run : WritesStay → MayRun (acts_beside behind) own runner
    may-run law =
        let g = of.goes.going in
        let lockstep = g.stands.lockstep in
        let good_is = of.beside.runs.state_is in
        let time : of.goes.at.state.time ≡ of.slot.begins.time = sym lockstep.lockstep.time ∙ lockstep.good_comes.same_time in
        record {
          rules = subst KeepsRules (sym same-design) g.stands.good_slot.rules;
          put = record {
            faulty = of.goes.at.state;
            wide = λ object low.
                (fit (faulty_machine design fault) of.goes.at.state g.stands.good_slot.rules (in-phase (faulty_machine design fault) of.goes.at lockstep.own_comes)).widths object
                ∙ ap (λ (d : FlatDesign). width_in d object) (sym same-design);
            makes = record {
              lockstep = subst (λ (s : State). AreInLockstep (kept_within (kept_by own) s) s of.goes.at.state) (sym good_is) lockstep.lockstep;
              nothing_same = subst (λ (s : State). KeepsNothingSame (kept_within (kept_by own) s) s) (sym good_is) g.stands.nothing_same;
            };
          };
          rests =
              ap (work_of 0)
              (sym (side (kept_within (kept_by own) (state_there (good_machine design) of.place)) (state_there (good_machine design) of.place) of.goes.at.state lockstep.lockstep).beside.nodes)
              ∙ g.stands.between.nodes;
          writes = subst (λ (d : FlatDesign). WritesAreOf d of.goes.at.state) (sym same-design) g.writes;
          good_writes =
              subst (WritesAreOf (machine_of runner).design) (sym good_is)
              (subst (λ (d : FlatDesign). WritesAreOf d (state_there (good_machine design) of.place)) (sym same-design)
              (good-writes law design plan of.slot of.place before of.beside.before_at g.stands.place_is lockstep.good_comes));
          time = subst (λ t. t ≤ 2 ^ 63) (sym time) of.early;
          lane = lane-acts;
        }

    -- the block that it took
    pub ran-beside : WritesStay → (taken : ℕ) (ran-runner : Runner) (told : BlockTold) (runs : ℕ → List ProcessRun) (numbers : ℕ → ℕ) (phase : ℕ) (ended : List ℕ) (more : List TriedStep) →
        ((run : MayRun (acts_beside behind) own runner) →
        RanBlock (faulty_machine (machine_of runner).design fault) (acts_beside behind) run.put.faulty (state_of runner) runs numbers phase taken ran-runner told ended more) →
        RanBlock (faulty_machine design fault) (acts_beside behind) of.goes.at.state (state_of runner) runs numbers phase taken ran-runner told ended more
    unfolding may-run
    ran-beside writes taken ran-runner told runs numbers phase ended more ran =
        subst (λ (m : Machine). RanBlock (faulty_machine m.design fault) (acts_beside behind) of.goes.at.state (state_of runner) runs numbers phase taken ran-runner told ended more)
        of.beside.runs.machine_is (ran (may-run writes))

    -- or the events of a block that was given up
    pub within-beside : WritesStay → (runs : ℕ → List ProcessRun) (numbers : ℕ → ℕ) (phase : ℕ) (more : List TriedStep) →
        ((run : MayRun (acts_beside behind) own runner) → StepsWithin (faulty_machine (machine_of runner).design fault) run.put.faulty runs numbers phase spare more) →
        StepsWithin (faulty_machine design fault) of.goes.at.state runs numbers phase spare more
    unfolding may-run
    within-beside writes runs numbers phase more within =
        subst (λ (m : Machine). StepsWithin (faulty_machine m.design fault) of.goes.at.state runs numbers phase spare more) of.beside.runs.machine_is (within (may-run writes))

    -- whatever the answer, the kept steps are own steps of the slot
    pub tried-there : WritesStay → (run_laws : RunLaws) (kept : GoodPhase) (tried_new : List TriedStep) (before_ticks now : ℕ) → TicksTried tried tried_new before_ticks now →
        IsGoodPhase design of.place before apart kept →
        ((run : MayRun (acts_beside behind) own runner) (runs : ℕ → List ProcessRun) (numbers : ℕ → ℕ) → TellsBeside (machine_of runner) (state_of runner) runs numbers kept →
        StepsWithin (faulty_machine (machine_of runner).design fault) run.put.faulty runs numbers kept.phase spare (drop (length tried) tried_new)) →
        TriedInSlot design fault of.slot of.begins tried_new
    tried-there writes run_laws kept tried_new before_ticks now ticks is within =
        let steps = within-beside writes (goods of run_laws) (numbers of run_laws) kept.phase (drop (length tried) tried_new)
        (λ run. within run (goods of run_laws) (numbers of run_laws) (tells-goods of run_laws kept is)) in
        subst (TriedInSlot design fault of.slot of.begins) (sym ticks.more)
        (tried-behind of run_laws kept steps.events (drop (length tried) tried_new) is steps.in_order steps.few steps.keeps)

  module _ (laws : BlockLaws) (run_laws : RunLaws) (taken : ℕ) (ran-runner : Runner) (told : BlockTold) (kept_phase : GoodPhase) (ended : List ℕ) (more : List TriedStep)
      (ran : RanBlock (faulty_machine design fault) (acts_beside behind) of.goes.at.state (state_of runner) (goods of run_laws) (numbers of run_laws) kept_phase.phase taken ran-runner told ended more)
      (new : LockstepCopy)
      (compared : ComparesBeside (state_there (good_machine design) (behind_events of.block of.rest of.place)) (state_of ran-runner) behind told own new) where
    good-changes : ChangesOnly (with_all_nodes (parts_beside behind told)) (state_there (good_machine design) of.place)
        (happened (good_machine design) (state_there (good_machine design) of.place) of.block)
    good-changes =
        laws.adds.wider _ (with_all_nodes (parts_beside behind told)) (state_there (good_machine design) of.place)
        (happened (good_machine design) (state_there (good_machine design) of.place) of.block) of.beside.told.changes_only
        (λ object none. (neither (has behind.changed object) (has (map object_number told.changed.items) object) none).0) (λ number none. none) (λ process none. none)

    own-changes : ChangesOnly (with_all_nodes (parts_beside behind told)) of.goes.at.state (happened (faulty_machine design fault) of.goes.at.state ran.events)
    own-changes =
        laws.adds.wider _ (with_all_nodes (parts_beside behind told)) of.goes.at.state (happened (faulty_machine design fault) of.goes.at.state ran.events) ran.tells.changes
        (λ object none. (neither (has behind.changed object) (has (map object_number told.changed.items) object) none).1) (λ number none. none)
        (λ process none. or-both (compared.acts.acted process) (compared.acts.lanes process) ∙ none)

    -- what is kept is told of the faulty machine's own state
    kept : IsKeptBehind (parts_beside behind told) (state_there (good_machine design) (behind_events of.block of.rest of.place))
        (happened (faulty_machine design fault) of.goes.at.state ran.events) (kept_by own) (kept_by new)
    kept =
        kept-behind (parts_beside behind told) (state_there (good_machine design) (behind_events of.block of.rest of.place))
        (happened (faulty_machine design fault) of.goes.at.state ran.events) (state_of ran-runner) (kept_by own) (kept_by new) ran.rest ran.processes compared.kept

    differ : BlocksDiffer design fault (parts_beside behind told) (state_there (good_machine design) of.place) of.goes.at.state of.block ran.events (kept_by own) (kept_by new)
    differ =
        laws.compares design fault (parts_beside behind told) (state_there (good_machine design) of.place) of.goes.at.state of.block ran.events (kept_by own) (kept_by new) good-changes
        own-changes of.goes.going.stands.nothing_same
        (subst (λ (s : State). IsKeptBehind (parts_beside behind told) s (happened (faulty_machine design fault) of.goes.at.state ran.events) (kept_by own) (kept_by new))
        (place-behind (good_machine design) of.place of.block of.rest) kept)

    acts : ActAlike design (state_there (good_machine design) of.place) of.block told
    acts = record {
      processes = λ process. compared.acts.acted process ∙ of.beside.told.acted process;
      lanes = λ process. compared.acts.lanes process ∙ of.beside.told.lane process;
    }

    -- behind the blocks both machines stand in lockstep, by what was noted
    pub noted-goes : (later : NotesKept) (less first end : ℕ) (written : List ObjectId) (shows : State → Type 0) → first ≡ before.moment → end ≡ behind.moment →
        map object_number written ≡ behind.changed → shows (state_there (good_machine design) (behind_events of.block of.rest of.place)) → taken + less ≡ spare →
        AreWider (marks_of design notes) (marks_of design later) →
        ((place : Place) (at : Moment) (ones more others : List Event) → IsGoodBlock design plan from until first end written shows place ones more →
        TellsBlock (faulty_machine design fault) at.state others told → ActAlike design (state_there (good_machine design) place) ones told →
        TakesIn design fault (marks_of design later) (state_there (good_machine design) place) at.state ones others) →
        ((place : Place) (at : Moment) (pairs : List BlockPair) (ones more others : List Event) → NotesTell design plan fault from until first place at pairs notes →
        IsGoodBlock design plan from until first end written shows place ones more → TellsBlock (faulty_machine design fault) at.state others told → BeginAlike ones others →
        NotesTell design plan fault from until end (behind_events ones more place) (after_events (faulty_machine design fault) others at) (pairs ++ unlike_pair ones others ∷ []) later) →
        IsGoing design plan fault of.slot of.begins from until behind.moment (behind_events of.block of.rest of.place) (after_events (faulty_machine design fault) ran.events of.goes.at)
        (of.goes.pairs ++ unlike_pair of.block ran.events ∷ []) later (kept_by new) less
    noted-goes later less first end written shows first_is end_is are shown spared wider takes tells =
        let beside = good-block first end written shows first_is end_is are shown in
        subst
        (λ m. IsGoing design plan fault of.slot of.begins from until m (behind_events of.block of.rest of.place) (after_events (faulty_machine design fault) ran.events of.goes.at)
        (of.goes.pairs ++ unlike_pair of.block ran.events ∷ []) later (kept_by new) less) (sym moment-is)
        (laws.steps.runs design plan fault of.slot of.begins from until before.moment of.place of.goes.at of.goes.pairs notes later (kept_by own) (kept_by new) spare less
        (parts_beside behind told) of.block of.rest ran.events of.goes.going of.beside.parts of.beside.whole ran.block differ wider
        (takes of.place of.goes.at of.block of.rest ran.events beside ran.tells acts)
        (laws.causes design fault (state_there (good_machine design) of.place) of.goes.at.state of.block ran.events told ran.tells acts)
        (subst
        (λ m. NotesTell design plan fault from until m (behind_events of.block of.rest of.place) (after_events (faulty_machine design fault) ran.events of.goes.at)
        (of.goes.pairs ++ unlike_pair of.block ran.events ∷ []) later) (end_is ∙ moment-is)
        (tells of.place of.goes.at of.goes.pairs of.block of.rest ran.events
        (subst (λ m. NotesTell design plan fault from until m of.place of.goes.at of.goes.pairs notes) (sym first_is) of.goes.going.noted) beside ran.tells
        (laws.steps.begin_alike design plan fault of.slot of.begins from until before.moment of.place of.goes.at of.goes.pairs notes (kept_by own) spare of.block ran.events of.goes.going
        of.beside.whole ran.block)))
        (counted taken told.steps _ less spare ran.tells.count ran.steps_are spared))

    -- so the fault goes there, and its runner may become the good machine before the block
    pub goes-there : PhasesFit → LockstepIsBeside → EventsTakeNoTime → (later : NotesKept) (less : ℕ) (tried_new : List TriedStep) (apart_new : List RunApart) (good_ended : List ℕ) →
        IsGoodPhase design of.place before apart kept_phase → tried ++ more ≡ tried_new → good_ended ≡ enders_in (good_machine design) (state_there (good_machine design) of.place) of.block →
        NotesEnded apart apart_new ended good_ended →
        IsGoing design plan fault of.slot of.begins from until behind.moment (behind_events of.block of.rest of.place) (after_events (faulty_machine design fault) ran.events of.goes.at)
        (of.goes.pairs ++ unlike_pair of.block ran.events ∷ []) later (kept_by new) less →
        TookOwn design plan fault from until runner before behind counts notes own spare tried apart of ran-runner before behind told later new less tried_new apart_new
    goes-there fit side times later less tried_new apart_new good_ended is joined good_is noted going =
        let good = state_there (good_machine design) of.place in
        let next = state_there (good_machine design) (behind_events of.block of.rest of.place) in
        let next_is : next ≡ happened (good_machine design) good of.block = place-behind (good_machine design) of.place of.block of.rest in
        let later_own = happened (faulty_machine design fault) of.goes.at.state ran.events in
        let here : (after_events (faulty_machine design fault) ran.events of.goes.at).state ≡ later_own = behind-state (faulty_machine design fault) ran.events of.goes.at in
        record {
          goes = record {
            at = after_events (faulty_machine design fault) ran.events of.goes.at;
            pairs = of.goes.pairs ++ unlike_pair of.block ran.events ∷ [];
            going = going;
            so_far = subst (OwnSoFar (good_machine design) (faulty_machine design fault) (phases (good_machine design) of.slot) (after_events (faulty_machine design fault) ran.events of.goes.at)) joined
                (so-far-behind of run_laws kept_phase ran.events more is ran.keeps);
            beside = phase-beside of run_laws ran.events ran.block ended good_ended ran.ended_are good_is apart_new noted;
          };
          back = record {
            design_is = ap (λ (m : Machine). m.design) ran.machine_is;
            good = good;
            shown = of.beside.before_at.shows;
            wide = wide-at fit design of.beside.behind_at.in_order.rules of.place of.beside.runs.asked;
            may = of.beside.runs.may;
            back =
                is-back side (parts_beside behind told) own new good next of.goes.at.state later_own (state_of ran-runner) of.goes.going.stands.lockstep.lockstep
                (record {
                  lockstep = subst (λ (s : State). AreInLockstep (kept_within (kept_by new) next) next s) here going.stands.lockstep.lockstep;
                  nothing_same = going.stands.nothing_same;
                })
                (subst (λ (s : State). ChangesOnly (with_all_nodes (parts_beside behind told)) good s) (sym next_is) good-changes) own-changes kept
                of.beside.before_at.between.nodes of.beside.behind_at.between.nodes (ap (λ (s : State). s.time) next_is ∙ times (good_machine design) good of.block) ran.rest ran.count
                (λ process none.
                ran.others process none (or-both (compared.acts.acted process) (compared.acts.lanes process) ∙ none) ∙ ap (λ (s : State). process_at s process) of.beside.runs.state_is);
          };
          good_is = sym of.beside.runs.state_is;
        }
