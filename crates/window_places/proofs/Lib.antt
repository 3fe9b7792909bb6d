mod Placed
mod Told
mod PassedOn
