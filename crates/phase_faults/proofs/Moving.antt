-- Room and faults move over a stretch that leaves alone what is kept, and over a block.
use Rattle.std.proofs.Common.{◌≡◌, ℕ, ◌+◌, ◌-◌, ◌<◌, ◌≤◌, ◌++◌, List, length, true, refl, sym, ap, subst, ◌∙◌, inl, inr, arith}
use Rattle.std.specs.List.{AllZip, fold}
use Rattle.std.proofs.lemmas.Bool.{cases_lt}
use Rattle.std.proofs.lemmas.List.{length-append}
use Rattle.vf_base.specs.Lists.{AllHold}
use Rattle.v_design.specs.Designs.{FlatDesign, TestPlan, good_machine}
use Rattle.v_design.specs.Plain.{fault_of, site_of}
use Rattle.v_design.specs.Runs.{FirstSlot}
use Rattle.v_design.specs.States.{State}
use Rattle.between_slots.specs.Between.{window_phases}
use Rattle.slot_laws.specs.block_events.declared.runner.Runner.{Runner}
use Rattle.slot_laws.specs.lockstep_block.Rooms.{CanFollow, IsRunnerAt}
use Rattle.slot_laws.specs.lockstep_places.Limits.{LimitsTell}
use Rattle.slot_laws.specs.lockstep_places.Places.{PlacesTold}
use Rattle.slot_laws.specs.lockstep_room.declared.counts.Counts.{Counts}
use Rattle.slot_laws.specs.lockstep_room.Rooms.{AreCounts}
use Rattle.slot_laws.specs.lockstep_slots.Places.{Place, behind_events}
use Rattle.slot_laws.specs.lockstep_steps.Laws.{StepsGoOn}
use Rattle.slot_laws.specs.moment_laws.Passing.{PassesBlock}
use Rattle.slot_laws.specs.moment_laws.Places.{IsShownAt}
use Rattle.slot_laws.specs.moment_laws.Shown.{MomentKept}
use Rattle.phase_blocks.specs.Blocks.{BlocksJoin, IsBetweenRuns, PhasesEndBetweenRuns}
use Rattle.phase_order.specs.Order.{PhasesFollow}
use Rattle.trace_window.specs.Moments.{window_events}
use Rattle.window_blocks.specs.Blocks.{AreBlockMoments}
use Rattle.slot_laws.specs.Slots.{GoesOverBlock, HasComeOn, IsRoomIn, IsStop, PhaseEndsAt, SlotGoesOn, StopsAt, further}
use Rattle.slot_laws.proofs.Further.{block-within}
use Rattle.slot_laws.specs.beside_phases.Laws.{OwnStepsGoOn}
use Rattle.slot_laws.specs.lockstep_block.Blocks.{TriedInSlot}
use Rattle.slot_laws.proofs.Going.{passes-on}
use Rattle.slot_laws.proofs.Own.{further-block, goes-further, may-run-own, moments-same}
use Rattle.slot_laws.proofs.Rooms.{follows-at, goes-over}
use Rattle.slot_laws.proofs.Stops.{stop-at}
use Rattle.phase_faults.specs.Beside.{FaultsMayGo, HasComeBeside, HaveGoneOn, IsAhead, IsAheadIf, PhaseGoesOnIf, StaysBeside, TakesOwn, sooner_of}
use Rattle.phase_faults.specs.declared.beside.FaultBeside.{FaultBeside}
use Rattle.phase_faults.proofs.Lists.{hold-both, hold-map, zip-same, zip-with}
use Rattle.phase_faults.proofs.Sooner.{fold-least, fold-stop}
use Rattle.next_touches.proofs.Untouched.{left-within}

-- the laws of the crates below
pub record PhaseLaws : Type 0 where
  pub told : PlacesTold
  pub follow : PhasesFollow
  pub rest : PhasesEndBetweenRuns
  pub joins : BlocksJoin
  pub steps : StepsGoOn
  pub limits : LimitsTell
  pub owns : OwnStepsGoOn

pub phase-laws : PlacesTold → PhasesFollow → PhasesEndBetweenRuns → BlocksJoin → StepsGoOn → LimitsTell → OwnStepsGoOn → PhaseLaws
phase-laws told follow rest joins steps limits owns = record { told = told; follow = follow; rest = rest; joins = joins; steps = steps; limits = limits; owns = owns }

pub stays-same : (each : FaultBeside) → StaysBeside each each
stays-same each = record { fault = refl; before = λ goes. goes; rest = λ goes. record { fault = refl; states = refl }; left = λ gone. refl }

-- a stop that is ahead is ahead from a later moment on, up to itself
pub ahead-later : (design : FlatDesign) (plan : TestPlan) (from until : ℕ) (moments : List ℕ) (moment later end : ℕ) (each : FaultBeside) → moment ≤ later → later ≤ each.until →
    IsAhead design plan from until moments moment end each → IsAhead design plan from until moments later end each
ahead-later design plan from until moments moment later end each low high ahead = record {
  stop = record { low = high; high = ahead.stop.high; begins = λ more less. ahead.stop.begins (omega (arith, low, more)) less };
  alone = left-within design (site_of each.fault.site) each.one.own.copy (window_events design plan from until) moment each.until later each.until low (omega arith) ahead.alone;
}

module _ (laws : PhaseLaws) (design : FlatDesign) (plan : TestPlan) (from until : ℕ) (moments : List ℕ) (end : ℕ) (runner : Runner) (before behind : MomentKept) (next_runner : Runner)
    (next later : MomentKept) where
  -- a fault moves with the room up to its stop
  moves-one : (each : FaultBeside) → next.moment ≤ each.until → IsAhead design plan from until moments before.moment end each → (number : ℕ) (slot : FirstSlot) (begins : State) (place : Place) →
      SlotGoesOn design plan (fault_of each.fault) slot begins from until number place runner before behind each.one.notes each.one.own each.one.spare each.one.tried.items
      each.one.apart.items → (count : ℕ) →
      next.moment ≡ before.moment + count → StopsAt design place before.moment next.moment count → IsRoomIn design plan from until number (further count place) next_runner next later →
      HasComeOn design plan (fault_of each.fault) slot begins from until number place before.moment next_runner next later each.one.notes each.one.own each.one.spare each.one.tried.items
      each.one.apart.items
  moves-one each low ahead number slot begins place on count moment stops room = record {
    count = count;
    within = stops.within;
    moment_is = moment;
    on =
        passes-on design plan (fault_of each.fault) slot begins from until number place runner before behind each.one.notes each.one.own each.one.spare each.one.tried.items
        each.one.apart.items on laws.steps laws.owns laws.limits count
        next_runner next later room moment stops
        (left-within design (site_of each.fault.site) each.one.own.copy (window_events design plan from until) before.moment each.until before.moment next.moment (omega arith) low
        ahead.alone);
  }

  -- a stretch
  module _ (time : ℕ) (counts counts_new : Counts) (faults : List FaultBeside) (may : FaultsMayGo design plan from until time moments end runner before behind counts faults)
      (are : AreBlockMoments (good_machine design) (window_phases design plan from until) moments) where
    pub over-stretch : (target : ℕ) → IsStop moments before.moment end target → AllHold (λ (each : FaultBeside). each.goes ≡ true → target ≤ each.until) faults →
        ((number : ℕ) (place : Place) (count : ℕ) → IsRoomIn design plan from until number place runner before behind → StopsAt design place before.moment target count →
        IsRoomIn design plan from until number (further count place) next_runner next later) → next.moment ≡ target → counts_new ≡ counts →
        HaveGoneOn design plan from until moments end runner before behind counts faults next_runner next later counts_new faults
    over-stretch target stop least pass at same =
        let count : ℕ = target - before.moment in
        let low = stop.low in
        let moment : next.moment ≡ before.moment + count = at ∙ (let sum : target ≡ before.moment + (target - before.moment) = omega (arith, low) in sum) in
        record {
          room = λ number place room ends.
              let stops = stop-at laws.told design plan from until number place runner before behind room laws.follow laws.rest moments end target are ends stop in
              record { count = count; within = stops.within; moment_is = moment; room = pass number place count room stops };
          counts_is = same;
          each =
              zip-same (HasComeBeside design plan from until moments end runner before behind next_runner next later)
              (λ (each : FaultBeside). IsAheadIf design plan from until moments before.moment end each × (each.goes ≡ true → target ≤ each.until))
              (λ each holds. record {
                stays = stays-same each;
                come = λ goes number slot begins place on ends.
                    let stops = stop-at laws.told design plan from until number place runner before behind on.room laws.follow laws.rest moments end target are ends stop in
                    moves-one each (subst (λ m. m ≤ each.until) (sym at) (holds.1 goes)) (holds.0 goes) number slot begins place on count moment
                    (subst (λ m. StopsAt design place before.moment m count) (sym at) stops) (pass number place count on.room stops);
                most = λ goes number slot begins place on ends low. low;
                ahead = λ goes.
                    ahead-later design plan from until moments before.moment next.moment end each (subst (λ m. before.moment ≤ m) (sym at) low)
                    (subst (λ m. m ≤ each.until) (sym at) (holds.1 goes)) (holds.0 goes);
              })
              faults
              (hold-both (λ (each : FaultBeside). IsAheadIf design plan from until moments before.moment end each) (λ (each : FaultBeside). each.goes ≡ true → target ≤ each.until) faults
              may.ahead least);
        }

    -- up to the least stop of the faults
    pub least-stop : (target : ℕ) → target ≡ fold sooner_of end faults → before.moment ≤ end → IsStop moments before.moment end target
    least-stop target is low =
        subst (IsStop moments before.moment end) (sym is)
        (fold-stop moments before.moment end end faults (record { low = low; high = omega arith; begins = λ more less. absurd (omega (arith, less)) })
        (hold-map (λ (each : FaultBeside). IsAheadIf design plan from until moments before.moment end each) (λ (each : FaultBeside). each.goes ≡ true → IsStop moments before.moment end each.until)
        (λ each ahead goes. (ahead goes).stop) faults may.ahead))

    pub over-least : (target : ℕ) → target ≡ fold sooner_of end faults → before.moment ≤ end →
        ((number : ℕ) (place : Place) (count : ℕ) → IsRoomIn design plan from until number place runner before behind → StopsAt design place before.moment target count →
        IsRoomIn design plan from until number (further count place) next_runner next later) → next.moment ≡ target → counts_new ≡ counts →
        HaveGoneOn design plan from until moments end runner before behind counts faults next_runner next later counts_new faults
    over-least target is low pass at same =
        over-stretch target (least-stop target is low)
        (subst (λ n. AllHold (λ (each : FaultBeside). each.goes ≡ true → n ≤ each.until) faults) (sym is) (fold-least end faults)) pass at same

-- A block: the later moment went ahead, the faults took theirs, and runner and earlier moment followed

pub record BlockIsTaken (design : FlatDesign) (plan : TestPlan) (runner : Runner) (before behind : MomentKept) (later : MomentKept) (waiting next_runner : Runner) (next : MomentKept) : Type 0 where
  pub ahead : (place : Place) → IsShownAt design plan place behind → 0 < length place.left → PassesBlock design plan place behind later
  pub waits : (place : Place) → IsShownAt design plan place before → IsRunnerAt design place runner → IsRunnerAt design place waiting
  pub follows : (of : CanFollow design plan waiting later) → IsRunnerAt design (behind_events of.block of.rest of.place) next_runner
  pub passes : (place : Place) → IsShownAt design plan place before → 0 < length place.left → PassesBlock design plan place before next

module _ (laws : PhaseLaws) (design : FlatDesign) (plan : TestPlan) (from until : ℕ) (moments : List ℕ) (end : ℕ) (runner : Runner) (before behind later : MomentKept) (waiting next_runner : Runner)
    (next : MomentKept) (taken : BlockIsTaken design plan runner before behind later waiting next_runner next) where
  -- the room went over it
  over : (number : ℕ) (place : Place) (room : IsRoomIn design plan from until number place runner before behind) (some : 0 < length place.left) →
      (goes : GoesOverBlock design plan from until number place before.moment next_runner next later)
      × ((goes.block ≡ (taken.ahead place room.at.behind_at some).block) × (goes.rest ≡ (taken.ahead place room.at.behind_at some).rest))
  unfolding follows-at goes-over
  over number place room some =
      let ahead = taken.ahead place room.at.behind_at some in
      let runs = taken.waits place room.at.before_at room.at.runs in (
        goes-over design plan from until number place runner before behind later room ahead next_runner next
            (taken.follows (follows-at design plan from until number place runner before behind later room ahead waiting runs)) (taken.passes place room.at.before_at some),
        (refl, refl),
      )

  left-some : (place : Place) → PhaseEndsAt before.moment place end → before.moment < end → 0 < length place.left
  left-some place ends more = omega (arith, ends, more)

  -- behind it the room is that much further
  room-over : (number : ℕ) (place : Place) (goes : GoesOverBlock design plan from until number place before.moment next_runner next later) →
      IsRoomIn design plan from until number (further (length goes.block) place) next_runner next later
  room-over number place goes =
      subst (λ (p : Place). IsRoomIn design plan from until number p next_runner next later) (sym (further-block place goes.block goes.rest goes.parts)) goes.room

  block-low : (number : ℕ) (place : Place) (goes : GoesOverBlock design plan from until number place before.moment next_runner next later) → length goes.block ≤ length place.left
  block-low number place goes =
      let all : length place.left ≡ length (goes.block ++ goes.rest) = ap length goes.parts in
      let long = length-append goes.block goes.rest in
      omega (arith, all, long)

  -- the later moment was at the new one's
  moments-meet : (number : ℕ) (place : Place) (goes : GoesOverBlock design plan from until number place before.moment next_runner next later) → later.moment ≡ next.moment
  moments-meet number place goes =
      moments-same design plan (behind_events goes.block goes.rest place) next later goes.room.at.before_at goes.room.at.behind_at goes.room.at.same.before goes.room.at.same.slot

  -- its end is a moment between runs
  stops-behind : (number : ℕ) (place : Place) (room : IsRoomIn design plan from until number place runner before behind)
      (goes : GoesOverBlock design plan from until number place before.moment next_runner next later) → StopsAt design place before.moment next.moment (length goes.block)
  stops-behind number place room goes = record {
    until_is = goes.moment_is;
    within = block-low number place goes;
    between =
        subst (IsBetweenRuns (good_machine design) place.phase.begins) (sym (ap (λ (p : Place). p.passed) (further-block place goes.block goes.rest goes.parts)))
        ((laws.joins (good_machine design) place.phase.begins place.passed goes.block room.at.before_at.between).0 goes.whole.ends);
  }

  module _ (are : AreBlockMoments (good_machine design) (window_phases design plan from until) moments) (more : before.moment < end) where
    -- a stop that is ahead isn't before it
    behind-stop : (each : FaultBeside) → before.moment < each.until → IsAhead design plan from until moments before.moment end each → (number : ℕ) (place : Place)
        (room : IsRoomIn design plan from until number place runner before behind) → PhaseEndsAt before.moment place end →
        (goes : GoesOverBlock design plan from until number place before.moment next_runner next later) → next.moment ≤ each.until
    behind-stop each late ahead number place room ends goes =
        let stops = stop-at laws.told design plan from until number place runner before behind room laws.follow laws.rest moments end each.until are ends ahead.stop in
        let low : length goes.block ≤ each.until - before.moment =
        block-within laws.joins (good_machine design) place goes.block goes.rest (each.until - before.moment) goes.parts goes.whole (omega (arith, late)) room.at.before_at.between
        stops.between in
        let moment = goes.moment_is in
        omega (arith, low, moment, late)

    -- a fault whose stop is ahead moves with the room
    late-one : (each : FaultBeside) → before.moment < each.until → IsAhead design plan from until moments before.moment end each → (number : ℕ) (slot : FirstSlot) (begins : State)
        (place : Place) → SlotGoesOn design plan (fault_of each.fault) slot begins from until number place runner before behind each.one.notes each.one.own each.one.spare
        each.one.tried.items each.one.apart.items →
        PhaseEndsAt before.moment place end →
        HasComeOn design plan (fault_of each.fault) slot begins from until number place before.moment next_runner next later each.one.notes each.one.own each.one.spare each.one.tried.items
        each.one.apart.items
    late-one each late ahead number slot begins place on ends =
        let goes = (over number place on.room (left-some place ends more)).0 in
        moves-one laws design plan from until moments end runner before behind next_runner next later each (behind-stop each late ahead number place on.room ends goes) ahead number slot begins
        place on (length goes.block) goes.moment_is (stops-behind number place on.room goes) (room-over number place goes)

    -- and one that took a block of its own is behind that
    own-one : (counts : Counts) (old new : FaultBeside) → TakesOwn design plan from until moments end runner before later counts old new → AreCounts design counts →
        old.until ≤ before.moment → new.goes ≡ true → (number : ℕ) (slot : FirstSlot) (begins : State) (place : Place) →
        SlotGoesOn design plan (fault_of old.fault) slot begins from until number place runner before behind old.one.notes old.one.own old.one.spare old.one.tried.items old.one.apart.items
        → PhaseEndsAt before.moment place end →
        HasComeOn design plan (fault_of old.fault) slot begins from until number place before.moment next_runner next later new.one.notes new.one.own new.one.spare new.one.tried.items
        new.one.apart.items
    unfolding may-run-own
    own-one counts old new takes counted now goes number slot begins place on ends =
        let some = left-some place ends more in
        let ahead = taken.ahead place on.room.at.behind_at some in
        let all = over number place on.room some in
        let gone =
        goes-further design plan (fault_of old.fault) slot begins from until number place runner before behind later old.one.notes old.one.own old.one.spare old.one.tried.items
        old.one.apart.items on ahead next_runner next new.one.notes
        new.one.own new.one.spare new.one.tried.items new.one.apart.items all.0 all.1.0 all.1.1
        (takes.took now goes
        (may-run-own design plan (fault_of old.fault) slot begins from until number place runner before behind later old.one.notes old.one.own old.one.spare old.one.tried.items
        old.one.apart.items on ahead counts counted)) in
        record { count = gone.count; within = gone.within; moment_is = gone.moment_is; on = gone.on }

    -- of the process steps of which its slot has no fewer
    own-most : (counts : Counts) (old new : FaultBeside) → TakesOwn design plan from until moments end runner before later counts old new → AreCounts design counts →
        old.until ≤ before.moment → old.goes ≡ true → (number : ℕ) (slot : FirstSlot) (begins : State) (place : Place) →
        SlotGoesOn design plan (fault_of old.fault) slot begins from until number place runner before behind old.one.notes old.one.own old.one.spare old.one.tried.items old.one.apart.items →
        PhaseEndsAt before.moment place end → TriedInSlot design (fault_of old.fault) slot begins new.one.tried.items
    unfolding may-run-own
    own-most counts old new takes counted now goes number slot begins place on ends =
        let ahead = taken.ahead place on.room.at.behind_at (left-some place ends more) in
        takes.most now goes
        (may-run-own design plan (fault_of old.fault) slot begins from until number place runner before behind later old.one.notes old.one.own old.one.spare old.one.tried.items
        old.one.apart.items on ahead counts
        counted)

    module _ (time : ℕ) (counts counts_new : Counts) (faults faults_new : List FaultBeside) (may : FaultsMayGo design plan from until time moments end runner before behind counts faults) where
      moved-one : (old new : FaultBeside) → PhaseGoesOnIf design plan from until end runner before behind old × IsAheadIf design plan from until moments before.moment end old →
          TakesOwn design plan from until moments end runner before later counts old new →
          HasComeBeside design plan from until moments end runner before behind next_runner next later old new
      moved-one old new holds takes = record {
        stays = takes.stays;
        come = λ goes number slot begins place on ends. elim (cases_lt before.moment old.until) [
          | inl late ↦
              subst
              (λ (e : FaultBeside). HasComeOn design plan (fault_of old.fault) slot begins from until number place before.moment next_runner next later e.one.notes e.one.own e.one.spare
              e.one.tried.items e.one.apart.items)
              (sym (takes.late late)) (late-one old late (holds.1 (takes.stays.before goes)) number slot begins place on ends)
          | inr now ↦ own-one counts old new takes may.counts_are now goes number slot begins place on ends
        ];
        most = λ goes number slot begins place on ends low. elim (cases_lt before.moment old.until) [
          | inl late ↦ subst (λ (e : FaultBeside). TriedInSlot design (fault_of old.fault) slot begins e.one.tried.items) (sym (takes.late late)) low
          | inr now ↦ own-most counts old new takes may.counts_are now goes number slot begins place on ends
        ];
        ahead = λ goes.
            let on = holds.0 (takes.stays.before goes) in
            let all = (over on.may.number on.may.place on.may.on.room (left-some on.may.place on.ends more)).0 in
            elim (cases_lt before.moment old.until) [
              | inl late ↦
                  let here = holds.1 (takes.stays.before goes) in
                  let low : before.moment ≤ next.moment = (let at = all.moment_is in omega (arith, at)) in
                  subst (λ (e : FaultBeside). IsAhead design plan from until moments next.moment end e) (sym (takes.late late))
                  (ahead-later design plan from until moments before.moment next.moment end old low
                  (behind-stop old late here on.may.number on.may.place on.may.on.room on.ends all) here)
              | inr now ↦
                  subst (λ m. IsAhead design plan from until moments m end new) (moments-meet on.may.number on.may.place all) (takes.ahead now goes)
            ];
      }

      pub over-block : counts_new ≡ counts → AllZip (TakesOwn design plan from until moments end runner before later counts) faults faults_new →
          HaveGoneOn design plan from until moments end runner before behind counts faults next_runner next later counts_new faults_new
      over-block same zip = record {
        room = λ number place room ends.
            let goes = (over number place room (left-some place ends more)).0 in
            record { count = length goes.block; within = block-low number place goes; moment_is = goes.moment_is; room = room-over number place goes };
        counts_is = same;
        each =
            zip-with (TakesOwn design plan from until moments end runner before later counts)
            (λ (each : FaultBeside). PhaseGoesOnIf design plan from until end runner before behind each × IsAheadIf design plan from until moments before.moment end each)
            (HasComeBeside design plan from until moments end runner before behind next_runner next later) moved-one faults faults_new
            (hold-both (λ (each : FaultBeside). PhaseGoesOnIf design plan from until end runner before behind each)
            (λ (each : FaultBeside). IsAheadIf design plan from until moments before.moment end each) faults may.go may.ahead)
            zip;
      }

      pub block-more : before.moment < next.moment
      block-more =
          let goes = (over may.at.number may.at.place may.at.room (left-some may.at.place may.ends more)).0 in
          let at = goes.moment_is in
          let some = goes.whole.some in
          omega (arith, at, some)

-- where the later moment has gone ahead it isn't behind the phase's end
pub ahead-low : (design : FlatDesign) (plan : TestPlan) (from until number end : ℕ) (place : Place) (runner : Runner) (before behind later : MomentKept) →
    IsRoomIn design plan from until number place runner before behind → PhaseEndsAt before.moment place end → PassesBlock design plan place behind later → later.moment ≤ end
ahead-low design plan from until number end place runner before behind later room ends ahead =
    let same = moments-same design plan place before behind room.at.before_at room.at.behind_at room.at.same.before room.at.same.slot in
    let all : length place.left ≡ length (ahead.block ++ ahead.rest) = ap length ahead.parts in
    let long = length-append ahead.block ahead.rest in
    let moved = ahead.moment in
    omega (arith, same, all, long, moved, ends)
