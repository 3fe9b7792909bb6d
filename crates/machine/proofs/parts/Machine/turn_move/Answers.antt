-- A turn is made, or nothing is left.
use Rattle.std.proofs.Common.{refl}
use Rattle.machine.specs.Standing.{machine_kept, state_kept}
use Rattle.machine.proofs.Made.{nothing-made, turn-made}
use Rattle.machine.proofs.parts.Machine.turn_move.Goals as goal

pub turn_phase-requires-clause-turn : goal.turn_phase-requires-clause-turn
turn_phase-requires-clause-turn c = c.in-Some.ensures (machine_kept c.args.self.now) (state_kept c.args.self.now) (record { design = c.requires.moving.is.parts.design; time = refl; processes = refl })

pub returns-in_ok-turn_phase-in-Some : goal.returns-in_ok-turn_phase-in-Some
returns-in_ok-turn_phase-in-Some c = λ guide now. turn-made guide now c.args.self.now _ c.args.log.now _ c.in_ok-turn_phase-in-Some.ensures

pub returns-in-None : goal.returns-in-None
returns-in-None c = λ guide now. nothing-made guide now c.args.self.now c.args.log.now (record {
  idle = c.requires.idle;
  no_turn = c.in-None.ensures (machine_kept c.args.self.now) (state_kept c.args.self.now) (record { design = c.requires.moving.is.parts.design; time = refl; processes = refl });
})
