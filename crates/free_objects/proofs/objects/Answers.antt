-- The laws are proved in `Sole`, `NetWrites` and `MetAccesses`.
use Rattle.free_objects.proofs.Sole.{unwritten_objects_are_free, sole_events_are_free, sole_runs_are_free, unread_nets_are_free, later_reads_are_free}
use Rattle.free_objects.proofs.NetWrites.{written_nets_are_free}
use Rattle.free_objects.proofs.MetAccesses.{met_reads_are_free}
use Rattle.free_objects.proofs.objects.Goals as goal

pub returns-clause-unwritten : goal.returns-clause-unwritten
returns-clause-unwritten c = unwritten_objects_are_free

pub returns-clause-event : goal.returns-clause-event
returns-clause-event c = sole_events_are_free

pub returns-clause-run : goal.returns-clause-run
returns-clause-run c = sole_runs_are_free

pub returns-clause-unread : goal.returns-clause-unread
returns-clause-unread c = unread_nets_are_free

pub returns-clause-written : goal.returns-clause-written
returns-clause-written c = written_nets_are_free

pub returns-clause-later : goal.returns-clause-later
returns-clause-later c = later_reads_are_free

pub returns-clause-met : goal.returns-clause-met
returns-clause-met c = met_reads_are_free
