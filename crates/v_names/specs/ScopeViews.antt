-- What names mean in the code, as plain data.
use Rattle.std.specs.Prelude.{ℕ, List, map}
use Rattle.std.specs.Borrow.{Bor}
use Rattle.v_names.specs.declared.entry.Entry.{Entry}
use Rattle.v_names.specs.declared.entry.Entry.TheVariants as entries
use Rattle.v_names.specs.declared.scope.Scope.TheInside.{Inside}
use Rattle.v_names.specs.Scopes.{ScopeEntry, ParameterEntry, RefusedParameter, WaitingParameter, NetEntry, RegEntry, MemoryEntry, GateEntry, InstanceEntry, Scope}

abbrev pub entry_of : Entry → ScopeEntry
entry_of (entries.Param value signed) = ParameterEntry value signed
entry_of entries.RefusedParam = RefusedParameter
entry_of entries.WaitingParam = WaitingParameter
entry_of (entries.Net ranged high low signed) = NetEntry (record { ranged = ranged; high = high; low = low }) signed
entry_of (entries.Reg ranged high low signed) = RegEntry (record { ranged = ranged; high = high; low = low }) signed
entry_of (entries.Memory ranged high low first last signed) = MemoryEntry (record { ranged = ranged; high = high; low = low }) first last signed
entry_of entries.Gate = GateEntry
entry_of entries.Instance = InstanceEntry

-- the names of a list of keys and entries
abbrev pub names_listed : List (Bor (List ℕ) × Entry) → Scope
names_listed pairs = map (λ (p : Bor (List ℕ) × Entry). record { name = p.0.now; entry = entry_of p.1 }) pairs

-- the names of the code's scope, in order
abbrev pub scope_names : Inside → Scope
scope_names inside = names_listed inside.entries.entries
