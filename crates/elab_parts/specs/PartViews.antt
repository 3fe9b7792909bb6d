-- Parts of the code as plain parts.
use Rattle.std.specs.Prelude.{ℕ, List, ◌++◌, map, replicate, option_map, Option, Some, None}
use Rattle.vf_base.specs.Base.{source_place}
use Rattle.v_design.specs.Expressions.{up_from}
use Rattle.v_tree.specs.Views.{statement_of}
use Rattle.v_names.specs.Scopes as scopes
use Rattle.v_elab.specs.Parts as plain
use Rattle.v_width.specs.SizedViews.{sized_of, all_sized_of}
use Rattle.elab_parts.specs.declared.range.DeclaredRange.{DeclaredRange}
use Rattle.elab_parts.specs.declared.bits.DrivenBits.{DrivenBits}
use Rattle.elab_parts.specs.declared.signal.Joining.{Joining}
use Rattle.elab_parts.specs.declared.signal.Signal.{Signal}
use Rattle.elab_parts.specs.declared.signal.WalkedMemory.{WalkedMemory}
use Rattle.elab_parts.specs.declared.part.Drive.{Drive}
use Rattle.elab_parts.specs.declared.part.ValueIn.{ValueIn}
use Rattle.elab_parts.specs.declared.part.WalkedProcess.{WalkedProcess}
use Rattle.elab_parts.specs.declared.part.Part.{Part}
use Rattle.elab_parts.specs.declared.part.Part.TheVariants as parts

abbrev pub range_of : DeclaredRange → scopes.DeclaredRange
range_of r = record { ranged = r.ranged; high = r.high; low = r.low }

abbrev pub joining_of : Joining → plain.Joining
joining_of j = record { into = j.into; direction = j.direction; place = source_place j.place }

abbrev pub signal_of : Signal → plain.Signal
signal_of s = record {
  name = s.name;
  is_reg = s.is_reg;
  range = range_of s.range;
  first = s.first;
  place = source_place s.place;
  depth = s.depth;
  joined = option_map joining_of s.joined;
}

abbrev pub memory_of : WalkedMemory → plain.WalkedMemory
memory_of m = record { name = m.name; range = range_of m.range; first = m.first; last = m.last; place = source_place m.place }

-- the places of the bits of a select
abbrev pub places_of : DrivenBits → List (Option ℕ)
places_of b = replicate b.outside_below None ++ (map Some (up_from b.low b.width) ++ replicate b.outside_above None)

abbrev pub drive_of : Drive → plain.Drive
drive_of d = record { signal = d.signal; places = places_of d.bits; place = source_place d.place }

abbrev pub drives_of : List Drive → List plain.Drive
drives_of drives = map drive_of drives

abbrev pub value_of : ValueIn → plain.ValueIn
value_of v = record { path = v.path.value; value = sized_of v.value }

abbrev pub process_of : WalkedProcess → plain.WalkedProcess
process_of p = record {
  always = p.always;
  place = source_place p.place;
  path = p.path.value;
  scope = p.scope.value;
  body = statement_of p.body.now;
  targets = p.targets;
}

abbrev pub part_of : Part → plain.Part
part_of (parts.Signal signal) = plain.SignalPart (signal_of signal)
part_of (parts.Memory memory) = plain.MemoryPart (memory_of memory)
part_of (parts.Assign drives value) = plain.AssignPart (drives_of drives) (value_of value)
part_of (parts.Gate name kind drives path terminals) = plain.GatePart name kind (drives_of drives) path.value (all_sized_of terminals.items)
part_of (parts.Process process) = plain.ProcessPart (process_of process)
part_of parts.Instance = plain.InstancePart

-- the parts of a walk
abbrev pub parts_of : List Part → List plain.Part
parts_of parts = map part_of parts
