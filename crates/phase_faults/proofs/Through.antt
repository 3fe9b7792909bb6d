-- Faults through a phase, from its beginning to the filter's answer.
use Rattle.std.proofs.Common.{◌≡◌, ℕ, ◌<◌, ◌≤◌, List, length, get_or, sym, ap, subst, ◌∙◌, arith}
use Rattle.std.specs.Prelude.{Some}
use Rattle.std.proofs.lemmas.Option.{slice_get-get_or}
use Rattle.std.specs.List.{AllZip, sum_by}
use Rattle.vf_base.specs.Lists.{AllHold}
use Rattle.v_design.specs.Designs.{FlatDesign, TestPlan}
use Rattle.v_design.specs.Plain.{fault_of, site_of}
use Rattle.slot_laws.specs.block_events.declared.runner.Runner.{Runner}
use Rattle.slot_laws.specs.copy_skip.Limits.{SiteIsThere}
use Rattle.slot_laws.specs.lockstep_block.Blocks.{TriedInSlot}
use Rattle.slot_laws.specs.lockstep_block.declared.room.FaultInSlot.{FaultInSlot}
use Rattle.slot_laws.specs.lockstep_filter.Phases.{IsPhaseNoted}
use Rattle.slot_laws.specs.lockstep_places.Places.{PlacesTold}
use Rattle.slot_laws.specs.lockstep_room.declared.counts.Counts.{Counts}
use Rattle.slot_laws.specs.lockstep_room.Rooms.{AreCounts}
use Rattle.slot_laws.specs.lockstep_slots.Places.{Place}
use Rattle.slot_laws.specs.lockstep_steps.Laws.{StepsGoOn}
use Rattle.slot_laws.specs.moment_laws.Shown.{MomentKept}
use Rattle.slot_steps.specs.Rises.{RisesWithin}
use Rattle.window_blocks.specs.Kept.{AreBlocksOf, BlocksKept}
use Rattle.slot_laws.specs.Slots.{IsRoomIn, PhaseEndsAt, SlotGoesOn, SlotMayGoOn, further}
use Rattle.slot_laws.proofs.Further.{further-all}
use Rattle.slot_laws.proofs.Going.{are-processes, are-there, clean, noted, tried-there}
use Rattle.slot_laws.proofs.Phases.{come-through}
use Rattle.slot_laws.proofs.Rooms.{time-stays}
use Rattle.slot_laws.proofs.Stops.{ends-there, phase-end, phase-there}
use Rattle.phase_faults.specs.Beside.{AsksFilter, ComesThroughPhase, FaultsMayGo, HasComeBeside, HasSite, HaveGoneOn}
use Rattle.phase_faults.specs.Beside.{IsAheadIf, IsRoomSomewhere, IsThereIf, LooksAhead, MayGoOnIf, PhaseGoesOnIf, ticked_of}
use Rattle.phase_faults.specs.declared.beside.FaultBeside.{FaultBeside}
use Rattle.phase_faults.proofs.Lists.{hold-map, sum-same, zip-holds, zip-join}

-- where the phase ends in which the room is
module _ (told : PlacesTold) (design : FlatDesign) (plan : TestPlan) (from until : ℕ) (runner : Runner) (before behind : MomentKept) (blocks : BlocksKept) (begin : blocks.before ≡ from)
    (end : blocks.through ≡ until) (are : AreBlocksOf design plan blocks) where
  pub end-there : (number : ℕ) (place : Place) → IsRoomIn design plan from until number place runner before behind → before.phase < length blocks.ends
  end-there number place room = phase-there told design plan from until number place runner before behind room blocks.ends (ends-there design plan from until blocks begin end are)

  pub ends-at : (ends : List ℕ) (at phase : ℕ) → ends ≡ blocks.ends → phase ≡ before.phase → at ≡ get_or ends phase 0 → (number : ℕ) (place : Place) →
      IsRoomIn design plan from until number place runner before behind → PhaseEndsAt before.moment place at
  ends-at ends at phase same here found number place room =
      phase-end told design plan from until number place runner before behind room blocks.ends at (ends-there design plan from until blocks begin end are)
      (slice_get-get_or blocks.ends before.phase 0 (end-there number place room) ∙ ap Some (sym (found ∙ (λ i. get_or (same i) (here i) 0))))

-- looking ahead and the filter take no process steps
pub ticks-through : (design : FlatDesign) (plan : TestPlan) (from until : ℕ) (moments : List ℕ) (moment end : ℕ) (faults looked gone asked : List FaultBeside) (one other : ℕ) →
    AllZip (LooksAhead design plan from until moments moment end) faults looked → AllZip (AsksFilter design plan from until end) gone asked →
    RisesWithin (sum_by ticked_of looked) (sum_by ticked_of gone) one other → RisesWithin (sum_by ticked_of faults) (sum_by ticked_of asked) one other
ticks-through design plan from until moments moment end faults looked gone asked one other looks asks rises =
    let first : sum_by ticked_of looked ≡ sum_by ticked_of faults =
    sum-same ticked_of (LooksAhead design plan from until moments moment end) (λ old new is. ap ticked_of is.same) faults looked looks in
    let last : sum_by ticked_of asked ≡ sum_by ticked_of gone = sum-same ticked_of (AsksFilter design plan from until end) (λ old new is. ap ticked_of is.same) gone asked asks in
    omega (arith, first, last, rises)

module _ (design : FlatDesign) (plan : TestPlan) (from until : ℕ) (moments : List ℕ) (end : ℕ) (runner : Runner) (before behind : MomentKept) where
  -- what is kept of a fault that may go on is there
  there-one : (each : FaultBeside) → MayGoOnIf design plan from until runner before behind each → IsThereIf design each
  there-one each go = λ goes.
      let may = go goes in
      record {
        objects =
            are-there design plan (fault_of each.fault) may.slot may.begins from until before.moment may.place before each.one.notes each.one.own each.one.spare each.one.tried.items
            each.one.apart.items may.on.room.at.before_at
            may.on.goes;
        processes =
            are-processes design plan (fault_of each.fault) may.slot may.begins from until before.moment may.place before each.one.notes each.one.own each.one.spare each.one.tried.items
            each.one.apart.items may.on.room.at.before_at
            may.on.goes;
      }

  pub all-there : (faults : List FaultBeside) → AllHold (MayGoOnIf design plan from until runner before behind) faults → AllHold (IsThereIf design) faults
  all-there = hold-map (MayGoOnIf design plan from until runner before behind) (IsThereIf design) there-one

  -- faults of which it was looked ahead may go on in the phase
  module _ (ends : (number : ℕ) (place : Place) → IsRoomIn design plan from until number place runner before behind → PhaseEndsAt before.moment place end) where
    looked-one : (old new : FaultBeside) → MayGoOnIf design plan from until runner before behind old → LooksAhead design plan from until moments before.moment end old new →
        PhaseGoesOnIf design plan from until end runner before behind new
    looked-one old new go looks = λ goes.
        let may =
        subst (λ (e : FaultBeside). SlotMayGoOn design plan (fault_of e.fault) from until runner before behind e.one.notes e.one.own e.one.spare e.one.tried.items e.one.apart.items) (sym looks.same)
        (go (sym (ap (λ (e : FaultBeside). e.goes) looks.same) ∙ goes)) in
        record { may = may; ends = ends may.number may.place may.on.room }

    pub may-begin : (time : ℕ) (counts : Counts) (faults faults_new : List FaultBeside) → IsRoomSomewhere design plan from until runner before behind → before.time ≡ time →
        AreCounts design counts → AllHold (HasSite design) faults → AllHold (MayGoOnIf design plan from until runner before behind) faults →
        AllZip (LooksAhead design plan from until moments before.moment end) faults faults_new →
        FaultsMayGo design plan from until time moments end runner before behind counts faults_new
    may-begin time counts faults faults_new at now counted sites go looks = record {
      at = at;
      ends = ends at.number at.place at.room;
      time_is = now;
      counts_are = counted;
      sites =
          zip-holds (LooksAhead design plan from until moments before.moment end) (HasSite design) (HasSite design)
          (λ old new site looks_one. subst (λ (e : FaultBeside). SiteIsThere design (site_of e.fault.site)) (sym looks_one.same) site) faults faults_new sites looks;
      go =
          zip-holds (LooksAhead design plan from until moments before.moment end) (MayGoOnIf design plan from until runner before behind)
          (PhaseGoesOnIf design plan from until end runner before behind) looked-one faults faults_new go looks;
      ahead =
          zip-holds (LooksAhead design plan from until moments before.moment end) (MayGoOnIf design plan from until runner before behind)
          (λ (each : FaultBeside). IsAheadIf design plan from until moments before.moment end each) (λ old new go_one looks_one. looks_one.ahead) faults faults_new go looks;
    }

    -- The end

    module _ (next_runner : Runner) (next later : MomentKept) (steps : StepsGoOn) (past : end ≤ next.moment) where
      -- it has come on from where it was before it looked ahead
      since-first : (old each new : FaultBeside) → LooksAhead design plan from until moments before.moment end old each →
          HasComeBeside design plan from until moments end runner before behind next_runner next later each new →
          HasComeBeside design plan from until moments end runner before behind next_runner next later old new
      since-first old each new looks has =
          let same =
          subst (λ (e : FaultBeside). HasComeBeside design plan from until moments end runner before behind next_runner next later e new) looks.same has in
          record {
            stays = record { fault = same.stays.fault; before = same.stays.before; rest = same.stays.rest; left = same.stays.left };
            come = same.come;
            most = same.most;
            ahead = same.ahead;
          }

      through-one : (old each new : FaultBeside) → HasComeBeside design plan from until moments end runner before behind next_runner next later old each →
          AsksFilter design plan from until end each new → ComesThroughPhase design plan from until runner before behind next_runner next later old new
      through-one old each new has asks =
          let one : new.one ≡ each.one = ap (λ (e : FaultBeside). e.one) asks.same in
          let fault : new.fault ≡ each.fault = ap (λ (e : FaultBeside). e.fault) asks.same in
          record {
            stays = record {
              fault = fault ∙ has.stays.fault;
              before = λ goes. has.stays.before (asks.before goes);
              rest = λ goes.
                  let rest = has.stays.rest (asks.before goes) in
                  record {
                    fault = ap (λ (o : FaultInSlot). o.own.copy.fault) one ∙ rest.fault;
                    states = ap (λ (o : FaultInSlot). o.own.copy.states) one ∙ rest.states;
                  };
              left = λ gone. ap (λ (o : FaultInSlot). o.tried.items) one ∙ has.stays.left gone;
            };
            through = λ goes number slot begins place on.
                let there = ends number place on.room in
                let come = has.come (asks.before goes) number slot begins place on there in
                let within = come.within in
                let at = come.moment_is in
                let same : next.moment ≡ end = omega (arith, within, at, there, past) in
                let last =
                subst
                (λ (o : FaultInSlot). SlotGoesOn design plan (fault_of old.fault) slot begins from until number (further (length place.left) place) next_runner next later o.notes o.own
                o.spare o.tried.items
                o.apart.items)
                (sym one)
                (come-through design plan (fault_of old.fault) slot begins from until number place before.moment end next_runner next later each.one.notes each.one.own each.one.spare
                each.one.tried.items each.one.apart.items come there
                past) in
                let all = further-all place in
                let told =
                noted design plan (fault_of old.fault) slot begins from until number (further (length place.left) place) next_runner next later new.one.notes new.one.own new.one.spare
                new.one.tried.items new.one.apart.items last all in
                let free =
                asks.free goes (fault_of old.fault) (further (length place.left) place) last.goes.at last.goes.pairs
                (subst
                (λ m. IsPhaseNoted design plan (fault_of old.fault) from until m (further (length place.left) place) last.goes.at last.goes.pairs new.one.notes) same told) in
                record {
                  on = last;
                  clean =
                      clean design plan (fault_of old.fault) slot begins from until number (further (length place.left) place) next_runner next later new.one.notes new.one.own new.one.spare
                      new.one.tried.items new.one.apart.items last
                      steps all free;
                };
            most = λ goes number slot begins place on.
                subst (λ (o : FaultInSlot). TriedInSlot design (fault_of old.fault) slot begins o.tried.items) (sym one)
                (has.most goes number slot begins place on (ends number place on.room)
                (tried-there design plan (fault_of old.fault) slot begins from until number place runner before behind old.one.notes old.one.own old.one.spare old.one.tried.items
                old.one.apart.items on));
          }

      pub all-through : (counts counts_new : Counts) (faults looked gone asked : List FaultBeside) → AllZip (LooksAhead design plan from until moments before.moment end) faults looked →
          HaveGoneOn design plan from until moments end runner before behind counts looked next_runner next later counts_new gone → AllZip (AsksFilter design plan from until end) gone asked →
          AllZip (ComesThroughPhase design plan from until runner before behind next_runner next later) faults asked
      all-through counts counts_new faults looked gone asked looks on asks =
          zip-join (HasComeBeside design plan from until moments end runner before behind next_runner next later) (AsksFilter design plan from until end)
          (ComesThroughPhase design plan from until runner before behind next_runner next later) through-one faults gone asked
          (zip-join (LooksAhead design plan from until moments before.moment end) (HasComeBeside design plan from until moments end runner before behind next_runner next later)
          (HasComeBeside design plan from until moments end runner before behind next_runner next later) since-first faults looked gone looks on.each)
          asks

      -- the room is at the phase's end, at the same time
      pub room-through : (counts counts_new : Counts) (looked gone : List FaultBeside) →
          HaveGoneOn design plan from until moments end runner before behind counts looked next_runner next later counts_new gone → (number : ℕ) (place : Place) →
          IsRoomIn design plan from until number place runner before behind → IsRoomIn design plan from until number (further (length place.left) place) next_runner next later
      room-through counts counts_new looked gone on number place room =
          let there = ends number place room in
          let come = on.room number place room there in
          let within = come.within in
          let at = come.moment_is in
          let all : come.count ≡ length place.left = omega (arith, within, at, there, past) in
          subst (λ n. IsRoomIn design plan from until number (further n place) next_runner next later) all come.room

      pub time-through : (counts counts_new : Counts) (looked gone : List FaultBeside) →
          HaveGoneOn design plan from until moments end runner before behind counts looked next_runner next later counts_new gone → IsRoomSomewhere design plan from until runner before behind →
          next.time ≡ before.time
      time-through counts counts_new looked gone on at =
          let come = on.room at.number at.place at.room (ends at.number at.place at.room) in
          time-stays design plan come.count at.place before next at.room.at.before_at come.room.at.before_at
