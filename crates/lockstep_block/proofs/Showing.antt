-- What is shown of a moment is what the moment has, and what a block that was passed has changed.
use Rattle.std.proofs.Common.{◌≡◌, ℕ, ◌<◌, List, [], get_or, length, map, Bool, true, ◌||◌, sym, ap, subst, ◌∙◌, nat_eq, refl, inl, inr}
use Rattle.std.specs.Prelude.{IfSome, slice_get, Option, Some, None}
use Rattle.std.specs.Option.{option_map}
use Rattle.vf_base.specs.Base.{object_number, process_number}
use Rattle.vf_base.specs.Lists.{has}
use Rattle.v_design.specs.Assignments.{ValueUpdate}
use Rattle.v_design.specs.Designs.{FlatDesign, Machine}
use Rattle.v_design.specs.PlainDesigns.{design_of}
use Rattle.v_design.specs.States.{State, LaterUpdate, process_at}
use Rattle.four_value.specs.Values.{LogicValue}
use Rattle.process_code.specs.declared.code.Code.{Code}
use Rattle.process_code.specs.declared.state.ProcState.{ProcState}
use Rattle.run_ends.specs.RunEnds.{AreCodesOf}
use Rattle.good_trace.specs.RunsKept.{Stands}
use Rattle.copy_laws.specs.Moves.{Parts, ChangesOnly}
use Rattle.faulty_block.specs.block_events.declared.runner.Runner.{Runner}
use Rattle.faulty_block.specs.block_events.Runners.{machine_of, state_of}
use Rattle.block_told.specs.declared.told.BlockTold.{BlockTold}
use Rattle.block_told.specs.Tells as told_block
use Rattle.good_moment.specs.moment_laws.Shown.{MomentKept, ShowsState, is_lane, parts_told}
use Rattle.faulty_block.specs.lockstep_compare.Compared.{IsKeptBehind}
use Rattle.faulty_block.specs.lockstep_copy.Kept.{kept_by}
use Rattle.faulty_block.specs.lockstep_copy.declared.own.LockstepCopy.{LockstepCopy}
use Rattle.faulty_block.specs.lockstep_exchange.Exchange.{AreWide}
use Rattle.faulty_block.specs.lockstep_room.declared.counts.Counts.{Counts}
use Rattle.faulty_block.specs.lockstep_room.Rooms.{AreCounts, parts_listed}
use Rattle.faulty_block.specs.lockstep_exchange.Putting.{lane_numbers}
use Rattle.faulty_block.proofs.lockstep_room.Standing.{some-code}
use Rattle.moments_stand.specs.Standing.{AllMayStand}
use Rattle.faulty_block.specs.moment_shown.declared.shown.ShownBlock.{ShownBlock}
use Rattle.faulty_block.specs.moment_shown.declared.shown.ShownMoment.{ShownMoment}
use Rattle.faulty_block.specs.moment_shown.Shown.{Shows, ShowsParts}
use Rattle.faulty_block.specs.block_compare.Comparing.{Compares, HaveCodes, MayCompare, parts_both}
use Rattle.faulty_block.specs.Back.{IsBackBut, MayPutBack}
use Rattle.faulty_block.specs.Runs.{MayRun, RanBlock, acts_in}
use Rattle.faulty_block.specs.block_runner.Beside.{TellsBeside}
use Rattle.faulty_block.specs.block_runner.declared.goods.GoodPhase.{GoodPhase}
use Rattle.v_design.specs.OwnSteps.{ProcessRun}
use Rattle.good_runs.specs.declared.tried.TriedStep.{TriedStep}
use Rattle.lockstep_block.specs.Beside.{ComparesBeside, MayCompareBeside, MayPutBackTo, acts_beside, parts_beside}
use Rattle.std.proofs.lemmas.Bool.{cases_eq, eq-eqb, ne_eqb}
use Rattle.graph_order.specs.ListLaws.{or-false}
use Rattle.vf_base.specs.declared.ids.ProcId.{ProcId}
use Rattle.machine_laws.specs.SlotLoop.{NoNodeWorks}
use Rattle.faulty_block.proofs.block_compare.Same.{or-both}
use Rattle.faulty_block.proofs.Rests.{rests-node}

eq-swapped : (one other : ℕ) → nat_eq one other ≡ nat_eq other one
eq-swapped one other = elim (cases_eq one other) [
  | inl same ↦ eq-eqb one other same ∙ sym (eq-eqb other one (sym same))
  | inr differ ↦ ne_eqb one other differ ∙ sym (ne_eqb other one (λ e. differ (sym e)))
]

-- the process whose lane took a step
pub lane-same : (lane : Option ProcId) (kept : Option ℕ) (process : ℕ) → option_map process_number lane ≡ kept → has (lane_numbers lane) process ≡ is_lane kept process
lane-same None None process e = refl
lane-same None (Some own) process e = cc
lane-same (Some p) None process e = cc
lane-same (Some p) (Some own) process e =
    let is : process_number p ≡ own = cc in or-false (nat_eq (process_number p) process) ∙ ap (λ n. nat_eq n process) is ∙ eq-swapped own process

-- as a told block has it
pub lane-told : (lane : Option ProcId) (process : ℕ) → told_block.is_lane lane process ≡ has (lane_numbers lane) process
lane-told None process = refl
lane-told (Some own) process = eq-swapped process (process_number own) ∙ sym (or-false (nat_eq (process_number own) process))

-- a block that was passed has changed what it tells alone, and no node behind it has work
pub listed-changes : (kept : MomentKept) (objects processes : List ℕ) (lane : Option ProcId) (before later : State) → objects ≡ kept.changed → processes ≡ kept.acted →
    option_map process_number lane ≡ kept.lane → ChangesOnly (parts_told kept) before later → NoNodeWorks before → NoNodeWorks later →
    ChangesOnly (parts_listed objects processes lane) before later
listed-changes kept objects processes lane before later changed acted stepped changes rests ends = record {
  value_count = changes.value_count;
  node_count = changes.node_count;
  process_count = changes.process_count;
  values = λ object none. changes.values object (ap (λ l. has l object) (sym changed) ∙ none);
  nodes = λ number none. rests-node later ends number ∙ sym (rests-node before rests number);
  processes = λ process none.
      changes.processes process (or-both (ap (λ (l : List ℕ). has l process) (sym acted)) (sym (lane-same lane kept.lane process stepped)) ∙ none);
}

-- parts that a moment has show the state that it shows
pub shows-parts : (design other : FlatDesign) (kept : MomentKept) (values : List LogicValue) (states : List ProcState) (later : List (List LaterUpdate)) (lanes : List (List ValueUpdate)) →
    design ≡ other → values ≡ kept.values → states ≡ kept.states → later ≡ kept.later → lanes ≡ kept.lanes → (state : State) → ShowsState design state kept →
    ShowsParts other values states later lanes state
shows-parts design other kept values states later lanes same values_are states_are later_are lanes_are state shows = record {
  values_are = values_are ∙ shows.values;
  state_count = ap length states_are ∙ shows.counts.states ∙ sym shows.process_count;
  later_count = ap length later_are ∙ shows.counts.later ∙ sym shows.process_count;
  lane_count = ap length lanes_are ∙ shows.counts.lanes ∙ sym shows.process_count;
  stands = λ process own there.
      subst (λ (d : FlatDesign). Stands d process (process_at state process).activity own) same
      (shows.stands process own (sym (ap (λ (l : List ProcState). slice_get l process) states_are) ∙ there));
  later_are = λ process. ap (λ (l : List (List LaterUpdate)). get_or l process []) later_are ∙ shows.later process;
  lanes_are = λ process. ap (λ (l : List (List ValueUpdate)). get_or l process []) lanes_are ∙ shows.lanes process;
}

module _ (behind : MomentKept) (block : ShownBlock) (changed : map object_number block.changed.now ≡ behind.changed) (acted : map process_number block.acted.now ≡ behind.acted)
    (lane : option_map process_number block.lane ≡ behind.lane) where
  pub parts-same : (told : BlockTold) → parts_both block told ≡ parts_beside behind told
  parts-same told = λ i. record {
    objects = λ object. has (changed i) object || has (map object_number told.changed.items) object;
    nodes = λ number. true;
    processes = λ process. has (acted i) process || lane-same block.lane behind.lane process lane i;
  }

  pub acts-same : acts_in block ≡ acts_beside behind
  acts-same = λ i. λ process. has (acted i) process || lane-same block.lane behind.lane process lane i

  -- what a runner may do beside a moment's block it may do beside the block that is shown
  unfoldable pub may-run-shown : (own : LockstepCopy) (runner : Runner) → MayRun (acts_beside behind) own runner → MayRun (acts_in block) own runner
  may-run-shown own runner of = record {
    rules = of.rules;
    put = of.put;
    rests = of.rests;
    writes = of.writes;
    good_writes = of.good_writes;
    time = of.time;
    lane = λ process is. ap (λ (acts : ℕ → Bool). acts process) acts-same ∙ of.lane process is;
  }

  pub ran-shown : (machine : Machine) (own : LockstepCopy) (runner ran : Runner) (goods : GoodPhase) (phase : ℕ) (told : BlockTold) (ended : List ℕ) (more : List TriedStep) (found : Option ℕ) →
      IfSome found (λ taken. (of : MayRun (acts_in block) own runner) (runs : ℕ → List ProcessRun) (numbers : ℕ → ℕ) → TellsBeside (machine_of runner) (state_of runner) runs numbers goods →
      RanBlock machine (acts_in block) of.put.faulty (state_of runner) runs numbers phase taken ran told ended more) →
      IfSome found (λ taken. (of : MayRun (acts_beside behind) own runner) (runs : ℕ → List ProcessRun) (numbers : ℕ → ℕ) → TellsBeside (machine_of runner) (state_of runner) runs numbers goods →
      RanBlock machine (acts_beside behind) of.put.faulty (state_of runner) runs numbers phase taken ran told ended more)
  unfolding may-run-shown
  ran-shown machine own runner ran goods phase told ended more None is = tt
  ran-shown machine own runner ran goods phase told ended more (Some taken) is = λ of runs numbers tells.
      subst (λ (acts : ℕ → Bool). RanBlock machine acts of.put.faulty (state_of runner) runs numbers phase taken ran told ended more) acts-same (is (may-run-shown own runner of) runs numbers tells)

  pub may-compare-shown : (design : FlatDesign) (machine : Machine) (counts : Counts) (good : ShownMoment) (codes : List Code) → design_of good.design.now ≡ design →
      ((state : State) → ShowsState design state behind → Shows good state) → AreCodesOf design codes → AreCounts design counts → MayCompareBeside design machine behind →
      MayCompare machine good block counts
  may-compare-shown design machine counts good codes is shows are counts_are of =
      let same : design ≡ machine.design = sym of.design_is in
      record {
        beside = record {
          design_is = is ∙ same;
          codes = subst HaveCodes same (λ process low. some-code design codes process are low);
          state = of.good;
          shown = shows of.good of.shown;
          value_count = sym (ap (λ (l : List LogicValue). length l) of.shown.values) ∙ of.shown.counts.values ∙ ap (λ (d : FlatDesign). length d.objects) same;
          process_count = of.shown.process_count ∙ ap (λ (d : FlatDesign). length d.processes) same;
          wide = subst (λ (d : FlatDesign). AreWide d of.good) same of.wide;
        };
        counts_are = subst (λ (d : FlatDesign). AreCounts d counts) same counts_are;
        acted = λ process there.
            subst (λ (d : FlatDesign). process < length d.processes) same (of.acted process (sym (ap (λ (l : List ℕ). has l process) acted) ∙ there));
        lane = λ process there.
            subst (λ (d : FlatDesign). process < length d.processes) same (of.lane process (sym (lane-same block.lane behind.lane process lane) ∙ there));
      }

  pub compares-beside : (told : BlockTold) (good faulty : State) (old new : LockstepCopy) → Compares good faulty block told old new → ComparesBeside good faulty behind told old new
  compares-beside told good faulty old new of = record {
    acts = record {
      acted = λ process. of.acts.acted process ∙ ap (λ (l : List ℕ). has l process) acted;
      lanes = λ process. lane-told told.lane process ∙ of.acts.lanes process ∙ lane-same block.lane behind.lane process lane;
    };
    kept = subst (λ (parts : Parts). IsKeptBehind parts good faulty (kept_by old) (kept_by new)) (parts-same told) of.kept;
  }

  unfoldable pub may-put-back-shown : (design : FlatDesign) (runner : Runner) (before : MomentKept) (told : BlockTold) (own : LockstepCopy) (good : ShownMoment) (codes : List Code) →
      design_of good.design.now ≡ design → ((state : State) → ShowsState design state before → Shows good state) → AreCodesOf design codes →
      MayPutBackTo design runner before behind told own → MayPutBack runner good block told own
  may-put-back-shown design runner before told own good codes is shows are of =
      let same : design ≡ (machine_of runner).design = sym of.design_is in
      record {
        design_is = is ∙ same;
        codes = codes;
        codes_are = subst (λ (d : FlatDesign). AreCodesOf d codes) same are;
        good = of.good;
        shown = shows of.good of.shown;
        wide = subst (λ (d : FlatDesign). AreWide d of.good) same of.wide;
        may = subst (λ (d : FlatDesign). AllMayStand d of.good) same of.may;
        back = subst (λ (parts : Parts). IsBackBut parts own of.good (state_of runner)) (sym (parts-same told)) of.back;
      }
