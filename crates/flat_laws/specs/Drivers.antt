-- Drivers: which node writes which bits of which object, and in which order the nodes stand.
pub mod Ranks
pub mod OneDriver
pub mod Pieces
pub mod Held
pub mod Driven
pub mod GateOutputs
pub mod Places
pub mod Assigned
pub mod AssignedParts
pub mod AssignedNodes
pub mod Variables
pub mod Runs
