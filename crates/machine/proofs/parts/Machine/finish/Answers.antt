-- The last phase is logged, and the machine stands between two slots.
use Rattle.std.proofs.Common.{◌≡◌, ◌∙◌, Bool, true, false, refl, ap}
use Rattle.causal_monitor.specs.declared.slot.Turn.TheVariants.{Time}
use Rattle.machine.specs.Standing.{first_turn}
use Rattle.machine.specs.Phases.{outcome_told, stage_after}
use Rattle.machine.proofs.TurnsOn.{log-named}
use Rattle.machine.proofs.Endings.{slot-run, slot-stands}
use Rattle.machine.proofs.parts.Machine.finish.Goals as goal

pub end_phase-requires : goal.end_phase-requires
end_phase-requires c = log-named c.args.self.now c.args.log.now (record { first = c.requires.first; at = c.requires.ends.at; is = c.requires.ends.is })

-- after a slot the next one begins at a later time
later-after : (hyper : Bool) → first_turn (stage_after hyper) ≡ Time
later-after true = refl
later-after false = refl

pub returns : goal.returns
returns c = record {
  machine_is = refl;
  notes_are = refl;
  turn_is = ap first_turn c.stage_after-self.ensures ∙ later-after c.args.hyper;
  runs = λ machine first begins ends.
      slot-run c.runs_go_on.ensures.end machine first begins c.args.hyper c.end_of.result c.args.self.now _ c.args.log.now c.end_phase.new.log _ ends c.in_ok-end_phase.ensures
      (c.end_of.ensures ∙ ap (outcome_told c.args.hyper) c.race.ensures) refl
      c.stage_after-self.ensures refl refl refl c.time-log.ensures refl refl;
  standing = λ machine first begins within ends.
      slot-stands c.slot_ends.ensures.next c.runs_go_on.ensures.end c.first_run_goes_on.ensures machine first begins c.args.hyper c.args.self.now _ c.args.log.now c.end_phase.new.log within ends
      c.in_ok-end_phase.ensures refl refl refl c.stage_after-self.ensures refl refl;
}
