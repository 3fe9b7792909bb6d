-- Names and constants: scopes, parameters and their rounds, names of a hierarchy.
pub mod Declared
pub mod Placed
pub mod Spelled
pub mod OnceDeclared
pub mod Once
pub mod Consistent
pub mod Rounds
pub mod Valued
pub mod Faultless
pub mod Settled
pub mod Leaves
pub mod NamedUnits
