-- The slot begins.
use Rattle.std.proofs.Common.{refl, arith}
use Rattle.cert_replay.proofs.Turning.{slot-begun, slot-room}
use Rattle.cert_replay.proofs.replaying.Replaying.begin_slot.Goals as goal

pub begin_phase-requires-clause-kept : goal.begin_phase-requires-clause-kept
begin_phase-requires-clause-kept c = c.requires.starts.arranged

pub begin_phase-requires-clause-room : goal.begin_phase-requires-clause-room
begin_phase-requires-clause-room c =
    slot-room c.args.self.now (record c.args.self.now { «record» = c.begin_slot.new.self; log = c.begin_slot.new.log }) c.requires c.in_ok-begin_slot.ensures.begins c.in_ok-begin_slot.ensures.empty

pub begin_phase-requires-clause-number : goal.begin_phase-requires-clause-number
begin_phase-requires-clause-number c = omega (arith, c.in_ok-begin_slot.ensures.number)

pub returns : goal.returns
returns c =
    slot-begun c.args.self.now (record c.args.self.now { «record» = c.begin_slot.new.self; log = c.begin_slot.new.log }) _ c.args.turn c.in_ok-begin_slot.ensures.begins
    c.in_ok-begin_slot.ensures.empty refl
    c.in_ok-begin_phase.ensures refl
