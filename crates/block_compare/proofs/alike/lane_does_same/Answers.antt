-- There is none, or the one does.
use Rattle.std.proofs.Common.{subst}
use Rattle.runner_writes.specs.block_events.Runners.{state_of}
use Rattle.block_compare.specs.Comparing.{DoesSame}
use Rattle.block_compare.proofs.Same.{lane-none, lane-only, lane-there}
use Rattle.block_compare.proofs.alike.lane_does_same.Goals as goal

pub does_same-requires-clause-there : goal.does_same-requires-clause-there
does_same-requires-clause-there c = c.requires.there _ (lane-there c.args.lane c.in-Some.process c.in-Some.is)

pub returns-in_default : goal.returns-in_default
returns-in_default c = λ yes state shown process there. absurd (lane-none c.args.lane process c.in_default.is there)

pub returns : goal.returns
returns c = λ yes state shown process there.
    subst (DoesSame state (state_of c.args.runner.now)) (lane-only c.args.lane c.in-Some.process c.in-Some.is process there) (c.does_same.ensures yes state shown)
