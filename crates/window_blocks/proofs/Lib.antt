mod Greatest
mod Listed
mod Told
mod Keeping
