-- A room waits before a block while faults take blocks of their own.
use Rattle.std.proofs.Common.{◌≡◌, ℕ, ◌<◌, ◌≤◌, List, refl, sym, ap, subst, ◌∙◌}
use Rattle.v_design.specs.Designs.{FlatDesign, StuckAt, TestPlan}
use Rattle.v_design.specs.Plain.{fault_of}
use Rattle.slot_laws.specs.block_events.declared.runner.Runner.{Runner}
use Rattle.slot_laws.specs.lockstep_block.Blocks.{FaultGoes}
use Rattle.slot_laws.specs.lockstep_block.Own.{MayRunOwn}
use Rattle.slot_laws.specs.lockstep_block.Rooms.{IsRunnerAt, MayStandThere}
use Rattle.slot_laws.specs.lockstep_copy.declared.own.LockstepCopy.{LockstepCopy}
use Rattle.slot_laws.specs.lockstep_room.declared.counts.Counts.{Counts}
use Rattle.slot_laws.specs.lockstep_room.Rooms.{AreCounts}
use Rattle.slot_laws.specs.lockstep_slots.Places.{Place, behind_events}
use Rattle.slot_laws.specs.moment_laws.Passing.{TellsPassed}
use Rattle.slot_laws.specs.moment_laws.Places.{IsShownAt}
use Rattle.slot_laws.specs.moment_laws.Shown.{MomentKept}
use Rattle.race_notes.specs.Notes.{NotesKept}
use Rattle.phase_faults.specs.Beside.{IsAheadIf, RoomWaits, TakesOwn}
use Rattle.phase_faults.specs.declared.beside.FaultBeside.{FaultBeside}
use Rattle.good_runs.specs.declared.tried.TriedStep.{TriedStep}
use Rattle.run_numbers.specs.declared.numbers.RunApart.{RunApart}

-- where its runner is at a place, a runner may come to stand there
unfoldable pub may-stand-at : (design : FlatDesign) (plan : TestPlan) (time : ℕ) (place : Place) (runner : Runner) (before : MomentKept) → IsShownAt design plan place before → before.time ≡ time →
    IsRunnerAt design place runner → MayStandThere design plan time before
may-stand-at design plan time place runner before shown now runs = record {
  place = place;
  shown = shown;
  asked = runs.asked;
  time_is = sym shown.shows.time ∙ now;
  may = runs.may;
}

pub waits-first : (design : FlatDesign) (plan : TestPlan) (time : ℕ) (runner : Runner) (before behind : MomentKept) (counts : Counts) →
    RoomWaits design plan time runner before behind counts runner before behind counts
waits-first design plan time runner before behind counts = record { before_is = refl; behind_is = refl; counts_is = refl; runs = λ place shown now runs. runs }

module _ (design : FlatDesign) (plan : TestPlan) (time : ℕ) (runner : Runner) (before behind : MomentKept) (counts : Counts) (waiting : Runner) (before_now behind_now : MomentKept)
    (counts_now : Counts) (waits : RoomWaits design plan time runner before behind counts waiting before_now behind_now counts_now) where
  pub waits-joined : (last : Runner) (before_last behind_last : MomentKept) (counts_last : Counts) →
      RoomWaits design plan time waiting before_now behind_now counts_now last before_last behind_last counts_last →
      RoomWaits design plan time runner before behind counts last before_last behind_last counts_last
  waits-joined last before_last behind_last counts_last more = record {
    before_is = more.before_is ∙ waits.before_is;
    behind_is = more.behind_is ∙ waits.behind_is;
    counts_is = more.counts_is ∙ waits.counts_is;
    runs = λ place shown now runs.
        more.runs place (subst (IsShownAt design plan place) (sym waits.before_is) shown) (ap (λ (m : MomentKept). m.time) waits.before_is ∙ now) (waits.runs place shown now runs);
  }

  module _ (from until : ℕ) (now : before.time ≡ time) where
    -- a fault may still take a block of its own
    unfoldable pub own-again : (fault : StuckAt) (notes : NotesKept) (own : LockstepCopy) (spare : ℕ) (tried : List TriedStep) (apart : List RunApart) → MayRunOwn design plan fault from
        until runner before behind counts notes own spare tried apart →
        MayRunOwn design plan fault from until waiting before_now behind_now counts_now notes own spare tried apart
    own-again fault notes own spare tried apart of = record {
      slot = of.slot;
      begins = of.begins;
      place = of.place;
      block = of.block;
      rest = of.rest;
      counts_are = subst (AreCounts design) (sym waits.counts_is) of.counts_are;
      beside = record {
        runs = waits.runs of.place of.beside.before_at now of.beside.runs;
        before_at = subst (IsShownAt design plan of.place) (sym waits.before_is) of.beside.before_at;
        parts = of.beside.parts;
        whole = of.beside.whole;
        behind_at = subst (IsShownAt design plan (behind_events of.block of.rest of.place)) (sym waits.behind_is) of.beside.behind_at;
        told = subst (TellsPassed design of.place of.block) (sym waits.behind_is) of.beside.told;
        same = record {
          before = ap (λ (m : MomentKept). m.before) waits.behind_is ∙ of.beside.same.before ∙ sym (ap (λ (m : MomentKept). m.before) waits.before_is);
          through = ap (λ (m : MomentKept). m.through) waits.behind_is ∙ of.beside.same.through ∙ sym (ap (λ (m : MomentKept). m.through) waits.before_is);
          slot = ap (λ (m : MomentKept). m.slot) waits.behind_is ∙ of.beside.same.slot ∙ sym (ap (λ (m : MomentKept). m.slot) waits.before_is);
        };
      };
      goes = subst (λ (m : MomentKept). FaultGoes design plan fault of.slot of.begins from until m.moment of.place notes own spare tried apart) (sym waits.before_is) of.goes;
      early = of.early;
      within = record {
        before_is = ap (λ (m : MomentKept). m.before) waits.before_is ∙ of.within.before_is;
        through_is = ap (λ (m : MomentKept). m.through) waits.before_is ∙ of.within.through_is;
      };
    }

    -- what one did since is what it did from the first on
    pub takes-first : (moments : List ℕ) (end : ℕ) (old new : FaultBeside) → TakesOwn design plan from until moments end waiting before_now behind_now counts_now old new →
        TakesOwn design plan from until moments end runner before behind counts old new
    unfolding own-again
    takes-first moments end old new takes = record {
      stays = takes.stays;
      late = λ late. takes.late (subst (λ (m : MomentKept). m.moment < old.until) (sym waits.before_is) late);
      took = λ here goes of.
          subst
          (λ (m : MomentKept). FaultGoes design plan (fault_of old.fault) of.slot of.begins from until m.moment (behind_events of.block of.rest of.place) new.one.notes new.one.own
          new.one.spare new.one.tried.items new.one.apart.items)
          waits.behind_is
          (takes.took (subst (λ (m : MomentKept). old.until ≤ m.moment) (sym waits.before_is) here) goes (own-again (fault_of old.fault) old.one.notes old.one.own old.one.spare
          old.one.tried.items old.one.apart.items of));
      most = λ here goes of.
          takes.most (subst (λ (m : MomentKept). old.until ≤ m.moment) (sym waits.before_is) here) goes
          (own-again (fault_of old.fault) old.one.notes old.one.own old.one.spare old.one.tried.items old.one.apart.items of);
      ahead = λ here.
          subst (λ (m : MomentKept). IsAheadIf design plan from until moments m.moment end new) waits.behind_is
          (takes.ahead (subst (λ (m : MomentKept). old.until ≤ m.moment) (sym waits.before_is) here));
    }
