-- A runner follows the good machine over a block.
use Rattle.std.proofs.Common.{◌≡◌, ℕ, ◌++◌, List, length, map, refl, sym, ap, subst, ◌∙◌}
use Rattle.std.specs.Prelude.{Option}
use Rattle.std.specs.Option.{option_map}
use Rattle.vf_base.specs.Base.{process_number}
use Rattle.vf_base.specs.declared.ids.ProcId.{ProcId}
use Rattle.v_design.specs.Designs.{FlatDesign, FlatNode, Machine, TestPlan, good_machine, width_in}
use Rattle.v_design.specs.Laws.{BeginsPhase}
use Rattle.v_design.specs.States.{State, Event, idle_node, process_at}
use Rattle.v_design.specs.Runs.{happened}
use Rattle.v_design.specs.WellFormed.{KeepsRules}
use Rattle.process_code.specs.declared.code.Code.{Code}
use Rattle.process_table.specs.Puts.{MayStand}
use Rattle.run_ends.specs.RunEnds.{AreCodesOf}
use Rattle.copy_laws.specs.Moves.{ChangesOnly}
use Rattle.copy_laws.specs.OwnRuns.{EventsTakeNoTime}
use Rattle.lockstep_laws.specs.Phases.{PhasesFit}
use Rattle.faulty_block.specs.block_events.declared.runner.Runner.{Runner}
use Rattle.faulty_block.specs.block_events.Runners.{machine_of, state_of}
use Rattle.good_moment.specs.moment_laws.Shown.{MomentKept, parts_told}
use Rattle.faulty_block.specs.lockstep_exchange.Exchange.{AreWide}
use Rattle.faulty_block.specs.lockstep_room.Rooms.{MayFollow, MayStandAt, MayStandSo, parts_listed}
use Rattle.lockstep_steps.specs.lockstep_slots.Places.{Place, state_there, behind_events}
use Rattle.lockstep_steps.proofs.Events.{place-behind}
use Rattle.moments_stand.specs.Standing.{AllMayStand, MomentsStand}
use Rattle.lockstep_block.specs.Rooms.{IsBesideBlock, MayStandThere}
use Rattle.faulty_block.proofs.Rests.{idle-nodes, rests-node}
use Rattle.lockstep_block.proofs.Showing.{listed-changes}

pub record PassLaws : Type 0 where
  pub times : EventsTakeNoTime
  pub fit : PhasesFit
  pub moments : MomentsStand

-- each value at a place is as wide as its object
pub wide-at : PhasesFit → (design : FlatDesign) → KeepsRules design → (place : Place) → BeginsPhase (good_machine design) place.phase.begins → AreWide design (state_there (good_machine design) place)
wide-at fit design rules place asked object low =
    (fit (good_machine design) (state_there (good_machine design) place) rules (record { begins = place.phase.begins; events = place.passed; asked = asked; is = refl })).widths object

-- a runner may come into the state that a moment shows
unfoldable pub may-stand-at : PhasesFit → (design other : FlatDesign) → other ≡ design → (plan : TestPlan) → KeepsRules design → (codes : List Code) → AreCodesOf design codes → (time : ℕ)
    (good : MomentKept) (shows : State → Type 0) (of : MayStandThere design plan time good) → shows (state_there (good_machine design) of.place) → MayStandAt other shows time
may-stand-at fit design other same plan rules codes are time good shows of shown =
    let state = state_there (good_machine design) of.place in
    let state_is = of.shown.shows in
    record {
      good = state;
      shown = shown;
      codes = codes;
      codes_are = subst (λ (d : FlatDesign). AreCodesOf d codes) (sym same) are;
      value_count = sym (ap length state_is.values) ∙ state_is.counts.values ∙ ap (λ (d : FlatDesign). length d.objects) (sym same);
      process_count = state_is.process_count ∙ ap (λ (d : FlatDesign). length d.processes) (sym same);
      nodes =
          idle-nodes design.nodes state.nodes state_is.node_count (rests-node state of.shown.between.nodes)
          ∙ ap (λ (d : FlatDesign). map (λ (node : FlatNode). idle_node) d.nodes) (sym same);
      time_is = of.time_is;
      wide = subst (λ (d : FlatDesign). AreWide d state) (sym same) (wide-at fit design rules of.place of.asked);
      may = λ process.
          subst (λ (d : FlatDesign). MayStand d time process (process_at state process)) (sym same)
          (subst (λ t. MayStand design t process (process_at state process)) of.time_is (of.may process));
    }

module _ (laws : PassLaws) (design : FlatDesign) (plan : TestPlan) (rules : KeepsRules design) (place : Place) (block rest : List Event) (runner : Runner) (before behind : MomentKept)
    (of : IsBesideBlock design plan place block rest runner before behind) where
  pub behind-is : state_there (good_machine design) (behind_events block rest place) ≡ happened (good_machine design) (state_there (good_machine design) place) block
  behind-is = place-behind (good_machine design) place block rest

  pub behind-may : AllMayStand design (state_there (good_machine design) (behind_events block rest place))
  behind-may = subst (AllMayStand design) (sym behind-is) (laws.moments.events (good_machine design) (state_there (good_machine design) place) block rules of.runs.may)

  pub behind-time : (state_there (good_machine design) (behind_events block rest place)).time ≡ (state_of runner).time
  behind-time =
      ap (λ (s : State). s.time) behind-is ∙ laws.times (good_machine design) (state_there (good_machine design) place) block ∙ sym (ap (λ (s : State). s.time) of.runs.state_is)

  -- the state behind the block is shown, and the runner may come into it
  unfoldable pub may-stand : (codes : List Code) → AreCodesOf design codes → (shows : State → Type 0) → shows (state_there (good_machine design) (behind_events block rest place)) →
      MayStandSo (machine_of runner).design shows (state_of runner)
  may-stand codes are shows shown =
      let same : (machine_of runner).design ≡ design = ap (λ (m : Machine). m.design) of.runs.machine_is in
      let later = of.behind_at.shows in
      let first = of.before_at.shows in
      record {
        good = state_there (good_machine design) (behind_events block rest place);
        shown = shown;
        codes = codes;
        codes_are = subst (λ (d : FlatDesign). AreCodesOf d codes) (sym same) are;
        value_count =
            sym (ap length later.values) ∙ later.counts.values ∙ sym first.counts.values ∙ ap length first.values ∙ sym (ap (λ (s : State). length s.values) of.runs.state_is);
        process_count = later.process_count ∙ sym first.process_count ∙ sym (ap (λ (s : State). length s.processes) of.runs.state_is);
        time_is = behind-time;
        wide = λ object low.
            (laws.fit (good_machine design) (state_there (good_machine design) (behind_events block rest place)) rules
            (record { begins = place.phase.begins; events = place.passed ++ block; asked = of.runs.asked; is = refl })).widths object
            ∙ ap (λ (d : FlatDesign). width_in d object) (sym same);
        may = λ process.
            subst (λ (d : FlatDesign). MayStand d (state_of runner).time process (process_at (state_there (good_machine design) (behind_events block rest place)) process)) (sym same)
            (subst (λ time. MayStand design time process (process_at (state_there (good_machine design) (behind_events block rest place)) process)) behind-time (behind-may process));
      }

  unfoldable pub may-follow : (codes : List Code) → AreCodesOf design codes → (shows : State → Type 0) → shows (state_there (good_machine design) (behind_events block rest place)) →
      (objects processes : List ℕ) (lane : Option ProcId) → objects ≡ behind.changed → processes ≡ behind.acted → option_map process_number lane ≡ behind.lane →
      MayFollow (machine_of runner).design shows objects processes lane (state_of runner)
  unfolding may-stand
  may-follow codes are shows shown objects processes lane changed acted stepped = record {
    stands = may-stand codes are shows shown;
    changes =
        subst (λ (s : State). ChangesOnly (parts_listed objects processes lane) s (state_there (good_machine design) (behind_events block rest place))) (sym of.runs.state_is)
        (listed-changes behind objects processes lane (state_there (good_machine design) place) (state_there (good_machine design) (behind_events block rest place)) changed acted stepped
        (subst (λ (s : State). ChangesOnly (parts_told behind) (state_there (good_machine design) place) s) (sym behind-is) of.told.changes_only) of.before_at.between.nodes
        of.behind_at.between.nodes);
  }
