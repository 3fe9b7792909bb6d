-- The entries of a list as they are kept (nothing of the language).
use Rattle.std.specs.Prelude.{ℕ, List, map}
use Rattle.copy_state.specs.declared.entry.Entry.{Entry}

-- what is kept, with its number
abbrev pub entry_of : {T : Type 0} → Entry T → ℕ × T
entry_of own = (own.number, own.kept)

abbrev pub numbers_of : {T : Type 0} → List (Entry T) → List ℕ
numbers_of {T} entries = map (λ (own : Entry T). own.number) entries
