-- The first order, slot by slot, beside all legal runs.
pub mod Awake
pub mod SlotMoves
pub mod SlotChain
pub mod FineSlots
pub mod FirstRuns
pub mod Cuts
pub mod RunsUpTo
pub mod RunSamples
pub mod FoundSlots
pub mod NamedRaces
pub mod GradesHold
pub mod ReportLines
pub mod FollowingSlots
