-- The accesses that a table tells of its waits (IEEE 1364-2001, clauses 5 and 9.7).
use Rattle.std.specs.Prelude.{◌≡◌, ℕ, ◌<◌, Bool, List, ◌++◌, length, map, Some, None}
use Rattle.std.specs.List.{All}
use Rattle.vf_base.specs.Base.{object_number}
use Rattle.vf_base.specs.declared.ids.ProcId.{ProcId}
use Rattle.vf_base.specs.declared.finding.AccessKind.{AccessKind}
use Rattle.four_value.specs.Values.{IsWidth}
use Rattle.vf_base.specs.Lists.{AllHold, has}
use Rattle.v_design.specs.Trees.{Entry}
use Rattle.v_design.specs.Designs.{FlatDesign}
use Rattle.v_design.specs.Paths.{net_pieces}
use Rattle.v_design.specs.Processes.{Activity}
use Rattle.v_design.specs.States.{some_entry}
use Rattle.v_design.specs.Accesses.{waiting_entries, waiting_line, ended_of}
use Rattle.v_design.specs.declared.tree.WaitEntry.{WaitEntry}
use Rattle.causal_monitor.specs.Notes.{IsNoted, IsHeld, noted_access}
use Rattle.causal_monitor.specs.declared.noted.Noted.{Noted}
use Rattle.value_change.specs.Changes.{ObjectChange, matches_one}

-- some accesses are ones that an event of a design may have, of objects of the design
pub record AreNoted (design : FlatDesign) (accesses : List Noted) : Type 0 where
  pub noted : AllHold IsNoted accesses
  pub objects : All (λ noted. object_number noted.access.object < length design.objects) accesses

-- some accesses are entries that a phase of a design may hold from its start, of objects of the design
pub record AreHeld (design : FlatDesign) (accesses : List Noted) : Type 0 where
  pub held : AllHold IsHeld accesses
  pub objects : All (λ noted. object_number noted.access.object < length design.objects) accesses

-- an entry looks at some bits of an object of a design
pub record IsEntryIn (design : FlatDesign) (entry : Entry) : Type 0 where
  pub there : entry.object < length design.objects
  pub width : IsWidth entry.width

-- the access of an entry of a process's wait, in a line
abbrev pub noted_entry : AccessKind → ProcId → ℕ → WaitEntry → Noted
noted_entry kind process line entry =
    record {
      access = record { kind = kind; object = entry.object; process = process; line = line };
      old = None;
      new = None;
      entry = Some (record { low = entry.low; width = entry.width; edge = entry.edge });
    }

-- whether an entry is on a net piece of a design
abbrev pub is_on_net : FlatDesign → WaitEntry → Bool
is_on_net design entry = has (net_pieces design) (object_number entry.object)

-- whether some changes end the wait of a process that does this, and the accesses of the wait put behind others, if they do
pub record EndsWait (changes : List ObjectChange) (process : ℕ) (activity : Activity) (told : Bool) (before after : List Noted) : Type 0 where
  pub told_is : told ≡ some_entry (matches_one changes) (waiting_entries activity)
  pub accesses : map noted_access after ≡ map noted_access before ++ ended_of (some_entry (matches_one changes) (waiting_entries activity)) (matches_one changes) process (waiting_line activity)
      (waiting_entries activity)
  pub noted : (design : FlatDesign) → AllHold (IsEntryIn design) (waiting_entries activity) → AreNoted design before → AreNoted design after
