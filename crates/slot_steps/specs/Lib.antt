pub mod Laws
pub mod Rises
