-- The laws are proved in `Growth`.
use Rattle.block_filter.proofs.Growth.{alike_events_go_alike, alike_stretches_go_alike, blocks_go_on, blocks_widen}
use Rattle.block_filter.proofs.blocks.Goals as goal

pub returns-clause-event : goal.returns-clause-event
returns-clause-event c = alike_events_go_alike

pub returns-clause-stretch : goal.returns-clause-stretch
returns-clause-stretch c = alike_stretches_go_alike

pub returns-clause-more : goal.returns-clause-more
returns-clause-more c = blocks_go_on

pub returns-clause-wider : goal.returns-clause-wider
returns-clause-wider c = blocks_widen
