-- The turn is the state's.
use Rattle.std.proofs.Common.{◌∙◌, Some, refl, sym, ap, subst}
use Rattle.causal_monitor.specs.declared.slot.Turn.TheVariants.{Zero, Updates}
use Rattle.v_design.specs.Runs.{turn_in_slot}
use Rattle.process_table.specs.declared.deed.TableTurn.{TableTurn}
use Rattle.process_table.specs.Deeds.{turn_kind}
use Rattle.machine_events.specs.Turns.{TellsTurn}
use Rattle.machine_events.proofs.phases.slot_turn.Goals as goal

pub returns-in-Some-Postponed : goal.returns-in-Some-Postponed
returns-in-Some-Postponed c = λ machine state of.
    subst (TellsTurn (Some Zero)) (ap (λ (t : TableTurn). Some (turn_kind t)) (sym c.in-Some-Postponed.field-0-is) ∙ c.in-Some-Postponed.ensures machine state of) (refl, λ first. refl)

pub returns-in-Some-Updates : goal.returns-in-Some-Updates
returns-in-Some-Updates c = λ machine state of.
    subst (TellsTurn (Some Updates)) (ap (λ (t : TableTurn). Some (turn_kind t)) (sym c.in-Some-Updates.field-0-is) ∙ c.in-Some-Updates.ensures machine state of) (refl, λ first. refl)

pub returns-in-Some-Time : goal.returns-in-Some-Time
returns-in-Some-Time c = λ machine state of. sym (ap turn_in_slot (ap (λ (t : TableTurn). Some (turn_kind t)) (sym c.in-Some-Time.field-0-is) ∙ c.in-Some-Time.ensures machine state of))

pub returns-in-None : goal.returns-in-None
returns-in-None c = λ machine state of. sym (ap turn_in_slot (c.in-None.ensures machine state of))
