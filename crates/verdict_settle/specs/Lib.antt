pub mod Settling
pub mod Harvests
pub mod HarvestLaws
