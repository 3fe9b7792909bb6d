-- The process steps of a slot, each of which a counter of steps counts once (steps by IEEE 1364-2001, clause 9; slots by clause 5).
pub use Rattle.machine_events.specs.Steps.{raised_by, event_steps, raised-sum, step_of, steps-cons, steps-join, steps-few, process_steps, phase_steps, steps_so_far}
