use Rattle.std.proofs.Common.{◌≡◌, ◌≤◌, ◌-◌}
use Rattle.verdict_words.specs.Seats.{view, IsSeatOf, claims_of}
use Rattle.outside_tests.proofs.tests.boards.draw_all.Given as goal

abbrev pub invariant-claims : goal.invariant-claims
invariant-claims g l = record { own : IsSeatOf l.board l.seat; share : (view l.seat).share ≡ (view l.initial.seat).share; calls : (view l.seat).calls ≤ claims_of l.board }

abbrev pub decreases-claims : goal.decreases-claims
decreases-claims g l = claims_of l.board - (view l.seat).calls
