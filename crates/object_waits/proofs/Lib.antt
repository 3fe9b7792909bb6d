mod Firsts
mod Runs
mod Texts
