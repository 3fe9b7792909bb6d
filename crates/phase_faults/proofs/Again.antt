-- Room and faults that have gone on in a phase may go on again.
use Rattle.std.proofs.Common.{◌≡◌, ℕ, ◌+◌, ◌-◌, List, length, drop, true, refl, sym, subst, ◌∙◌, inl, inr, arith}
use Rattle.std.proofs.lemmas.Bool.{cases_Bool, false_from_ne_true, false≢true}
use Rattle.std.proofs.lemmas.List.{length-drop}
use Rattle.v_design.specs.Designs.{FlatDesign, TestPlan}
use Rattle.v_design.specs.Plain.{fault_of, site_of}
use Rattle.v_design.specs.declared.plan.Fault.{Fault}
use Rattle.slot_laws.specs.block_events.declared.runner.Runner.{Runner}
use Rattle.slot_laws.specs.lockstep_block.Blocks.{TriedInSlot}
use Rattle.slot_laws.specs.copy_skip.Limits.{SiteIsThere}
use Rattle.slot_laws.specs.lockstep_room.declared.counts.Counts.{Counts}
use Rattle.slot_laws.specs.lockstep_room.Rooms.{AreCounts}
use Rattle.slot_laws.specs.lockstep_slots.Places.{Place}
use Rattle.slot_laws.specs.moment_laws.Shown.{MomentKept}
use Rattle.slot_laws.specs.Slots.{HasComeOn, IsRoomIn, PhaseEndsAt, SlotGoesOn, further}
use Rattle.slot_laws.proofs.Further.{further-more, further-none}
use Rattle.slot_laws.proofs.Phases.{come-ends, come-first, come-more}
use Rattle.slot_laws.proofs.Rooms.{time-stays}
use Rattle.phase_faults.specs.Beside.{FaultsMayGo, HasComeBeside, HasSite, HaveGoneOn, IsAheadIf, PhaseGoesOnIf, RoomHasCome, StaysBeside}
use Rattle.phase_faults.specs.declared.beside.FaultBeside.{FaultBeside}
use Rattle.phase_faults.proofs.Lists.{zip-holds, zip-join, zip-same}
use Rattle.phase_faults.proofs.Moving.{stays-same}

stays-joined : (old each new : FaultBeside) → StaysBeside old each → StaysBeside each new → StaysBeside old new
stays-joined old each new one two = record {
  fault = two.fault ∙ one.fault;
  before = λ goes. one.before (two.before goes);
  rest = λ goes.
      let first = one.rest (two.before goes) in
      let rest = two.rest goes in
      record { fault = rest.fault ∙ first.fault; states = rest.states ∙ first.states };
  left = λ gone. two.left (false_from_ne_true each.goes (λ goes. false≢true (sym gone ∙ one.before goes))) ∙ one.left gone;
}

-- where the room has come the phase ends as before
room-ends : (design : FlatDesign) (plan : TestPlan) (from until number : ℕ) (place : Place) (moment end : ℕ) (runner : Runner) (before behind : MomentKept)
    (come : RoomHasCome design plan from until number place moment runner before behind) → PhaseEndsAt moment place end → PhaseEndsAt before.moment (further come.count place) end
room-ends design plan from until number place moment end runner before behind come ends =
    let long : length (drop come.count place.left) ≡ length place.left - come.count = length-drop come.count place.left in
    let within = come.within in
    let at = come.moment_is in
    omega (arith, long, within, at, ends)

module _ (design : FlatDesign) (plan : TestPlan) (from until : ℕ) (moments : List ℕ) (end : ℕ) (runner : Runner) (before behind : MomentKept) (counts : Counts) (faults : List FaultBeside) where
  -- nowhere yet
  pub gone-nowhere : (time : ℕ) → FaultsMayGo design plan from until time moments end runner before behind counts faults →
      HaveGoneOn design plan from until moments end runner before behind counts faults runner before behind counts faults
  gone-nowhere time may = record {
    room = λ number place room ends. record {
      count = 0;
      within = omega arith;
      moment_is = omega arith;
      room = subst (λ (p : Place). IsRoomIn design plan from until number p runner before behind) (sym (further-none place)) room;
    };
    counts_is = refl;
    each =
        zip-same (HasComeBeside design plan from until moments end runner before behind runner before behind)
        (λ (each : FaultBeside). IsAheadIf design plan from until moments before.moment end each)
        (λ each ahead. record {
          stays = stays-same each;
          come = λ goes number slot begins place on ends.
              come-first design plan (fault_of each.fault) slot begins from until number place runner before behind each.one.notes each.one.own each.one.spare each.one.tried.items
              each.one.apart.items on;
          most = λ goes number slot begins place on ends low. low;
          ahead = ahead;
        })
        faults may.ahead;
  }

  module _ (next_runner : Runner) (next later : MomentKept) (counts_new : Counts) (faults_new : List FaultBeside)
      (gone : HaveGoneOn design plan from until moments end runner before behind counts faults next_runner next later counts_new faults_new) where
    -- a fault that still goes may go on from where it has come
    go-again : (old new : FaultBeside) → PhaseGoesOnIf design plan from until end runner before behind old →
        HasComeBeside design plan from until moments end runner before behind next_runner next later old new → PhaseGoesOnIf design plan from until end next_runner next later new
    go-again old new go has = λ goes.
        let on = go (has.stays.before goes) in
        let may = on.may in
        let come = has.come goes may.number may.slot may.begins may.place may.on on.ends in
        record {
          may = record {
            number = may.number;
            slot = may.slot;
            begins = may.begins;
            place = further come.count may.place;
            on =
                subst
                (λ (f : Fault). SlotGoesOn design plan (fault_of f) may.slot may.begins from until may.number (further come.count may.place) next_runner next later new.one.notes new.one.own
                new.one.spare new.one.tried.items new.one.apart.items) (sym has.stays.fault) come.on;
          };
          ends =
              come-ends design plan (fault_of old.fault) may.slot may.begins from until may.number may.place before.moment end next_runner next later new.one.notes new.one.own new.one.spare
              new.one.tried.items new.one.apart.items come
              on.ends;
        }

    pub may-again : (time : ℕ) → FaultsMayGo design plan from until time moments end runner before behind counts faults →
        FaultsMayGo design plan from until time moments end next_runner next later counts_new faults_new
    may-again time may =
        let come = gone.room may.at.number may.at.place may.at.room may.ends in
        record {
          at = record { number = may.at.number; place = further come.count may.at.place; room = come.room };
          ends = room-ends design plan from until may.at.number may.at.place before.moment end next_runner next later come may.ends;
          time_is = time-stays design plan come.count may.at.place before next may.at.room.at.before_at come.room.at.before_at ∙ may.time_is;
          counts_are = subst (AreCounts design) (sym gone.counts_is) may.counts_are;
          sites =
              zip-holds (HasComeBeside design plan from until moments end runner before behind next_runner next later) (HasSite design) (HasSite design)
              (λ old new site has. subst (λ (f : Fault). SiteIsThere design (site_of f.site)) (sym has.stays.fault) site) faults faults_new may.sites gone.each;
          go =
              zip-holds (HasComeBeside design plan from until moments end runner before behind next_runner next later) (PhaseGoesOnIf design plan from until end runner before behind)
              (PhaseGoesOnIf design plan from until end next_runner next later) go-again faults faults_new may.go gone.each;
          ahead =
              zip-holds (HasComeBeside design plan from until moments end runner before behind next_runner next later)
              (λ (each : FaultBeside). IsAheadIf design plan from until moments before.moment end each) (λ (each : FaultBeside). IsAheadIf design plan from until moments next.moment end each)
              (λ old new ahead has. has.ahead) faults faults_new may.ahead gone.each;
        }

    -- and on from there
    module _ (last_runner : Runner) (last last_behind : MomentKept) (counts_last : Counts) (faults_last : List FaultBeside)
        (on : HaveGoneOn design plan from until moments end next_runner next later counts_new faults_new last_runner last last_behind counts_last faults_last) where
      joined-one : (old each new : FaultBeside) → HasComeBeside design plan from until moments end runner before behind next_runner next later old each →
          HasComeBeside design plan from until moments end next_runner next later last_runner last last_behind each new →
          HasComeBeside design plan from until moments end runner before behind last_runner last last_behind old new
      joined-one old each new one two = record {
        stays = stays-joined old each new one.stays two.stays;
        come = λ goes number slot begins place goes_on ends.
            let come = one.come (two.stays.before goes) number slot begins place goes_on ends in
            let further_on =
            two.come goes number slot begins (further come.count place)
            (subst
            (λ (f : Fault). SlotGoesOn design plan (fault_of f) slot begins from until number (further come.count place) next_runner next later each.one.notes each.one.own each.one.spare
            each.one.tried.items each.one.apart.items)
            (sym one.stays.fault) come.on)
            (come-ends design plan (fault_of old.fault) slot begins from until number place before.moment end next_runner next later each.one.notes each.one.own each.one.spare
            each.one.tried.items each.one.apart.items come ends) in
            come-more design plan (fault_of old.fault) slot begins from until number place before.moment next_runner next later each.one.notes each.one.own each.one.spare
            each.one.tried.items each.one.apart.items last_runner last
            last_behind new.one.notes new.one.own new.one.spare new.one.tried.items new.one.apart.items come
            (subst
            (λ (f : Fault). HasComeOn design plan (fault_of f) slot begins from until number (further come.count place) next.moment last_runner last last_behind new.one.notes new.one.own
            new.one.spare new.one.tried.items new.one.apart.items) one.stays.fault further_on);
        most = λ goes number slot begins place goes_on ends low.
            let so_far = one.most goes number slot begins place goes_on ends low in
            elim (cases_Bool each.goes) [
              | inl there ↦
                  let come = one.come there number slot begins place goes_on ends in
                  subst (λ (f : Fault). TriedInSlot design (fault_of f) slot begins new.one.tried.items) one.stays.fault
                  (two.most there number slot begins (further come.count place)
                  (subst
                  (λ (f : Fault). SlotGoesOn design plan (fault_of f) slot begins from until number (further come.count place) next_runner next later each.one.notes each.one.own each.one.spare
                  each.one.tried.items each.one.apart.items) (sym one.stays.fault) come.on)
                  (come-ends design plan (fault_of old.fault) slot begins from until number place before.moment end next_runner next later each.one.notes each.one.own each.one.spare
                  each.one.tried.items each.one.apart.items
                  come ends)
                  (subst (λ (f : Fault). TriedInSlot design (fault_of f) slot begins each.one.tried.items) (sym one.stays.fault) so_far))
              | inr stopped ↦ subst (TriedInSlot design (fault_of old.fault) slot begins) (sym (two.stays.left stopped)) so_far
            ];
        ahead = two.ahead;
      }

      pub gone-further : HaveGoneOn design plan from until moments end runner before behind counts faults last_runner last last_behind counts_last faults_last
      gone-further = record {
        room = λ number place room ends.
            let come = gone.room number place room ends in
            let again = on.room number (further come.count place) come.room (room-ends design plan from until number place before.moment end next_runner next later come ends) in
            let low = come.within in
            let more = again.within in
            let long : length (drop come.count place.left) ≡ length place.left - come.count = length-drop come.count place.left in
            let at = come.moment_is in
            let moved = again.moment_is in
            record {
              count = come.count + again.count;
              within = omega (arith, low, more, long);
              moment_is = omega (arith, at, moved);
              room =
                  subst (λ (p : Place). IsRoomIn design plan from until number p last_runner last last_behind) (further-more come.count again.count place low) again.room;
            };
        counts_is = on.counts_is ∙ gone.counts_is;
        each =
            zip-join (HasComeBeside design plan from until moments end runner before behind next_runner next later)
            (HasComeBeside design plan from until moments end next_runner next later last_runner last last_behind)
            (HasComeBeside design plan from until moments end runner before behind last_runner last last_behind) joined-one faults faults_new faults_last gone.each on.each;
      }
