mod Among
mod Compared
