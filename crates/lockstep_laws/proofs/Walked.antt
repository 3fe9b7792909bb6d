-- Both machines in lockstep from moment to moment of a slot of each.
use Rattle.std.proofs.Common.{◌≡◌, List, [], ◌∷◌, refl, sym, subst, ◌∙◌}
use Rattle.v_design.specs.Designs.{FlatDesign, Machine, StuckAt, good_machine, faulty_machine}
use Rattle.v_design.specs.States.{State, Event}
use Rattle.v_design.specs.Runs.{happened}
use Rattle.machine_laws.specs.SlotLoop.{Moment, ComesTo, SlotsBegin, StretchesGoOn, TurnsGoOn, QuietSlotsEnd, after_event, after_events}
use Rattle.copy_laws.specs.Moves.{Within}
use Rattle.lockstep_laws.specs.Phases.{IsInPhase}
use Rattle.lockstep_laws.specs.Lockstep.{AreInLockstep, LockstepHolds}
use Rattle.lockstep_laws.specs.Turning.{turned_within, LockstepTurns}
use Rattle.lockstep_laws.specs.Passing.{LockstepPasses}
use Rattle.lockstep_laws.specs.Blocks.{LockstepRests}
use Rattle.lockstep_laws.specs.Slots.{LockstepEnds}
use Rattle.lockstep_laws.specs.Moments.{LockstepGoesOn}

-- the laws on which this stands
pub record WalkLaws : Type 0 where
  pub holds : LockstepHolds
  pub turns : LockstepTurns
  pub passes : LockstepPasses
  pub rests : LockstepRests
  pub ends : LockstepEnds
  pub begin : SlotsBegin
  pub stretch : StretchesGoOn
  pub turn : TurnsGoOn
  pub quiet : QuietSlotsEnd

in-phase : (machine : Machine) (at : Moment) → ComesTo machine at → IsInPhase machine at.state
in-phase machine at comes = record { begins = at.phase_begins; events = at.events; asked = comes.phase_asked; is = comes.happened_so_far }

state-after : (machine : Machine) (events : List Event) (at : Moment) → (after_events machine events at).state ≡ happened machine at.state events
state-after machine [] at = refl
state-after machine (event ∷ events) at = state-after machine events (after_event machine event at)

-- lockstep of the states behind some events is lockstep at the moments there
behind : (design : FlatDesign) (fault : StuckAt) (d : Within) (good own : Moment) (good_events own_events : List Event) →
    AreInLockstep d (happened (good_machine design) good.state good_events) (happened (faulty_machine design fault) own.state own_events) →
    AreInLockstep d (after_events (good_machine design) good_events good).state (after_events (faulty_machine design fault) own_events own).state
behind design fault d good own good_events own_events l =
    subst (λ (x : State). AreInLockstep d x (after_events (faulty_machine design fault) own_events own).state) (sym (state-after (good_machine design) good_events good))
    (subst (AreInLockstep d (happened (good_machine design) good.state good_events)) (sym (state-after (faulty_machine design fault) own_events own)) l)

pub lockstep_goes_on : WalkLaws → LockstepGoesOn
lockstep_goes_on laws = record {
  begins = λ design fault d good own good_asked own_asked l. record {
    good_comes = laws.begin (good_machine design) good good_asked;
    own_comes = laws.begin (faulty_machine design fault) own own_asked;
    lockstep = l;
  };
  passes = λ design fault d good own events rules s first free room.
      let p = laws.passes design fault d good.state own.state events rules s.lockstep (in-phase (good_machine design) good s.good_comes)
      (in-phase (faulty_machine design fault) own s.own_comes) first free in (
        p,
        record {
          good_comes = laws.stretch (good_machine design) good events rules s.good_comes first room.good_room;
          own_comes = laws.stretch (faulty_machine design fault) own events rules s.own_comes p.first room.own_room;
          lockstep = behind design fault d good own events events p.lockstep;
        },
      );
  blocks = λ design fault parts good own good_events own_events old new rules s good_first own_first room g f good_rests own_rests anew. record {
    good_comes = laws.stretch (good_machine design) good good_events rules s.good_comes good_first room.good_room;
    own_comes = laws.stretch (faulty_machine design fault) own own_events rules s.own_comes own_first room.own_room;
    lockstep = behind design fault new good own good_events own_events
        (laws.rests design fault parts good.state own.state good_events own_events old new s.lockstep g f good_rests own_rests anew);
  };
  turns = λ design fault d good own turn rules s good_few own_few idle e inside.
      let t = laws.turns d good.state own.state s.lockstep in (
        record {
          good_comes = laws.turn (good_machine design) good turn rules s.good_comes good_few idle e inside;
          own_comes = laws.turn (faulty_machine design fault) own turn rules s.own_comes own_few (t.idle idle) (t.turn ∙ e) inside;
          lockstep = t.behind turn;
        },
        laws.holds design fault (turned_within good.state.time turn d) _ _ (t.behind turn),
      );
  ends = λ design fault d good own s good_few own_few idle none. (
    laws.quiet (good_machine design) good s.good_comes good_few idle none,
    laws.ends design fault d good.state own s.lockstep s.own_comes own_few idle none,
  );
}
