pub mod Queues
pub mod Arranged
pub mod Regions
pub mod TurnLaws
pub mod ChangeLaws
