mod Alone
mod Settled
mod Told
mod Passed
