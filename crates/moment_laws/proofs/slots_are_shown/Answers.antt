-- What the window tells of the state before a slot.
use Rattle.between_slots.proofs.Resting.{LoopLaws}
use Rattle.moment_laws.proofs.Arrived.{Rested, rested, arrived, slot-there}
use Rattle.moment_laws.proofs.slots_are_shown.Goals as goal

pub returns : goal.returns
returns c =
    let laws : LoopLaws = record {
      begin = c.slot_goes_on.ensures.begin;
      event = c.stretches_go_on.ensures.event;
      turn = c.slot_goes_on.ensures.turn;
      ends = c.slots.ensures;
      phases = c.nets.ensures.begin;
      runs = c.first_run_goes_on.ensures;
    } in
    record {
      there = slot-there;
      shown = λ design plan before through number slot states woken kept rules within here few rests puts.
          let rest : Rested design plan before number slot = rested laws design plan before number slot rules here few in
          arrived c.places_are_told.ensures c.places_in_windows.ensures c.phases_follow.ensures.phases design plan before through number slot states woken kept within here rest.ordered rest.begun rests
          puts;
    }
