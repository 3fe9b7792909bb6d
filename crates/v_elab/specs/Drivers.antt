-- Which names are one object, who drives it, and into which pieces a net is cut (IEEE 1364-2001, clause 3.7 and clause 6.1; that a net has one driver for each bit, and that names that are joined
-- are one object, is own).
use Rattle.std.specs.Prelude.{ℕ, zero, suc, ◌+◌, Bool, true, false, not, ◌&&◌, ◌||◌, List, [], ◌∷◌, ◌++◌, map, filter, flat_map, length, Option, Some, None, nat_eq, nat_le}
use Rattle.std.specs.List.{list_all, list_any}
use Rattle.vf_base.specs.Base.{SourcePlace}
use Rattle.vf_base.specs.Lists.{map_numbered, joined}
use Rattle.v_design.specs.Expressions.{up_from}
use Rattle.four_value.specs.declared.operator.GateKind.{GateKind}
use Rattle.v_tree.specs.declared.item.Direction.{Direction}
use Rattle.v_tree.specs.declared.item.Direction.TheVariants.{Input, Output}
use Rattle.v_tree.specs.Trees.{Identifier, NamedPlace, same_name, has_name}
use Rattle.v_elab.specs.Refusals.{Refusal, TwoDrivers}
use Rattle.v_names.specs.Scopes.{looked_up, is_reg, range_width}
use Rattle.v_names.specs.SizedTrees.{SizedExpressions}
use Rattle.v_names.specs.Readings.{is_empty}
use Rattle.v_comb.specs.CombinationalForm.{assigned_names, names_read}
use Rattle.v_width.specs.Targets.{whole_places}
use Rattle.v_ports.specs.Pieces.{DrivenRun, SecondDriver, second_driver}
use Rattle.v_elab.specs.Parts.{Joining, Signal, Drive, ValueIn, WalkedProcess, Part, SignalPart, AssignPart, GatePart, ProcessPart, refusal_or}
use Rattle.v_elab.specs.Connections.{most_depth}
use Rattle.v_elab.specs.Statements.{block_body}

-- Joined names

abbrev pub signals_of : List Part → List Signal
signals_of [] = []
signals_of (SignalPart signal ∷ parts) = signal ∷ signals_of parts
signals_of (_ ∷ parts) = signals_of parts

abbrev pub signal_if : Bool → Signal → Option Signal → Option Signal
signal_if true signal other = Some signal
signal_if false signal other = other

abbrev pub signal_named : List Signal → Identifier → Option Signal
signal_named [] name = None
signal_named (signal ∷ signals) name = signal_if (same_name signal.name name) signal (signal_named signals name)

abbrev pub joined_into : Option Signal → Option Joining
joined_into None = None
joined_into (Some signal) = signal.joined

abbrev pub up_or : (Identifier → Identifier) → Identifier → Option Joining → Identifier
up_or up name None = name
up_or up name (Some joining) = up joining.into

-- the name that a name is at last joined into; each step goes one level up
abbrev pub outermost_within : ℕ → List Signal → Identifier → Identifier
outermost_within zero signals name = name
outermost_within (suc levels) signals name = up_or (outermost_within levels signals) name (joined_into (signal_named signals name))

abbrev pub outermost : List Signal → Identifier → Identifier
outermost signals name = outermost_within most_depth signals name

abbrev pub is_unjoined : Signal → Bool
is_unjoined signal = by_joining signal.joined
  where
    by_joining : Option Joining → Bool
    by_joining None = true
    by_joining (Some joining) = false

-- Which blocks are nodes

abbrev pub target_signals : WalkedProcess → List Identifier → List Identifier
target_signals process targets = map (λ name. process.path ++ name) targets

-- the variables that a process assigns, by their hierarchical names
abbrev pub variables_assigned : WalkedProcess → List Identifier
variables_assigned process =
    target_signals process (filter (λ name. is_reg (looked_up process.scope name)) (map (λ (n : NamedPlace). n.name) (assigned_names process.body)))

abbrev pub bits_within : List (Option ℕ) → List ℕ
bits_within [] = []
bits_within (None ∷ places) = bits_within places
bits_within (Some bit ∷ places) = bit ∷ bits_within places

-- whether a drive has some bit in the range
abbrev pub drives_some : Drive → Bool
drives_some drive = not (is_empty (bits_within drive.places))

-- the signals of which a bit is driven; what stands outside the range drives nothing
abbrev pub drive_signals : List Drive → List Identifier
drive_signals drives = map (λ (d : Drive). d.signal) (filter drives_some drives)

-- the signals that a part writes
abbrev pub signals_written : Part → List Identifier
signals_written (AssignPart drives value) = drive_signals drives
signals_written (GatePart name kind drives path terminals) = drive_signals drives
signals_written (ProcessPart process) = variables_assigned process
signals_written _ = []

-- whether a part writes the object that an outermost name is
abbrev pub writes_object : List Signal → Identifier → Part → Bool
writes_object signals object part = list_any (λ name. same_name (outermost signals name) object) (signals_written part)

-- whether a part other than that of a number writes an object
abbrev pub other_writes : List Signal → ℕ → Identifier → ℕ → List Part → Bool
other_writes signals number object n [] = false
other_writes signals number object n (part ∷ parts) = (not (nat_eq n number) && writes_object signals object part) || other_writes signals number object (n + 1) parts

abbrev pub is_output : Direction → Bool
is_output Input = false
is_output Output = true

abbrev pub joins_output : Identifier → Option Joining → Bool
joins_output name None = false
joins_output name (Some joining) = is_output joining.direction && same_name joining.into name

-- whether a signal is what an output port is joined into
abbrev pub port_writes : List Signal → Identifier → Bool
port_writes signals name = list_any (λ (s : Signal). joins_output name s.joined) signals

-- a target that no other part and no port writes
abbrev pub is_own_target : List Part → ℕ → Identifier → Bool
is_own_target parts number name =
    let signals = signals_of parts in
    not (port_writes signals name) && not (other_writes signals number (outermost signals name) 0 parts)

-- the names that a block reads and doesn't assign
abbrev pub names_only_read : WalkedProcess → List Identifier → List Identifier
names_only_read process targets = filter (λ name. not (has_name targets name)) (names_read (block_body process.body))

-- whether a block reads one of its targets by another name that is joined into the same object
abbrev pub reads_by_other_name : List Signal → WalkedProcess → List Identifier → Bool
reads_by_other_name signals process targets =
    let objects = map (outermost signals) (target_signals process targets) in
    list_any (λ name. has_name objects (outermost signals name)) (target_signals process (names_only_read process targets))

-- Nodes and processes

-- what a node computes: a value, a gate, or a block's statement
pub data NodeFunction : Type 0 where
  AssignFunction : (value : ValueIn) → NodeFunction
  GateFunction : (kind : GateKind) (path : Identifier) (terminals : SizedExpressions) → NodeFunction
  BlockFunction : (process : WalkedProcess) → NodeFunction

pub record WalkedNode : Type 0 where
  pub name : Identifier
  pub drives : List Drive
  pub function : NodeFunction

-- what the parts do, in the order of the walk
pub data Behaviour : Type 0 where
  IsNode : (node : WalkedNode) → Behaviour
  IsProcess : (process : WalkedProcess) → Behaviour

abbrev pub place_of_first : SourcePlace → List NamedPlace → SourcePlace
place_of_first default [] = default
place_of_first default (n ∷ rest) = n.place

-- where a name is first assigned
abbrev pub assigned_place : WalkedProcess → Identifier → SourcePlace
assigned_place process name = place_of_first process.place (filter (λ (n : NamedPlace). same_name n.name name) (assigned_names process.body))

abbrev pub signal_width : Option Signal → ℕ
signal_width None = 0
signal_width (Some signal) = range_width signal.range

-- a block drives each of its targets whole
abbrev pub block_drive : List Signal → WalkedProcess → Identifier → Drive
block_drive signals process name =
    record { signal = process.path ++ name; places = whole_places (signal_width (signal_named signals (process.path ++ name))); place = assigned_place process name }

abbrev pub block_or_process : List Signal → WalkedProcess → Bool → List Identifier → Behaviour
block_or_process signals process true targets = IsNode (record { name = []; drives = map (block_drive signals process) targets; function = BlockFunction process })
block_or_process signals process false targets = IsProcess process

-- a block is a node where by itself it has the form, nothing else writes its targets, and it doesn't read them by other names
abbrev pub process_behaviour : List Part → ℕ → WalkedProcess → Option (List Identifier) → Behaviour
process_behaviour parts number process None = IsProcess process
process_behaviour parts number process (Some targets) =
    let signals = signals_of parts in
    block_or_process signals process (list_all (is_own_target parts number) (target_signals process targets) && not (reads_by_other_name signals process targets)) targets

abbrev pub part_behaviour : List Part → ℕ → Part → List Behaviour
part_behaviour parts number (AssignPart drives value) = IsNode (record { name = []; drives = drives; function = AssignFunction value }) ∷ []
part_behaviour parts number (GatePart name kind drives path terminals) = IsNode (record { name = name; drives = drives; function = GateFunction kind path terminals }) ∷ []
part_behaviour parts number (ProcessPart process) = process_behaviour parts number process process.targets ∷ []
part_behaviour parts number _ = []

abbrev pub behaviours_of : List Part → List Behaviour
behaviours_of parts = joined (map_numbered (part_behaviour parts) 0 parts)

abbrev pub nodes_of : List Behaviour → List WalkedNode
nodes_of [] = []
nodes_of (IsNode node ∷ rest) = node ∷ nodes_of rest
nodes_of (IsProcess process ∷ rest) = nodes_of rest

abbrev pub processes_of : List Behaviour → List WalkedProcess
processes_of [] = []
processes_of (IsNode node ∷ rest) = processes_of rest
processes_of (IsProcess process ∷ rest) = process ∷ processes_of rest

-- Variables that drive

abbrev pub block_signals : WalkedNode → List Identifier
block_signals node = by_function node.function
  where
    by_function : NodeFunction → List Identifier
    by_function (AssignFunction value) = []
    by_function (GateFunction kind path terminals) = []
    by_function (BlockFunction process) = drive_signals node.drives

-- a variable that isn't a block's target drives the whole of its object
abbrev pub is_driving : List WalkedNode → Signal → Bool
is_driving nodes signal = signal.is_reg && not (has_name (flat_map block_signals nodes) signal.name)

abbrev pub insert_here : Bool → Signal → Signal → List Signal → List Signal → List Signal
insert_here true signal other others inserted = signal ∷ other ∷ others
insert_here false signal other others inserted = other ∷ inserted

-- a signal put before those that stand deeper, or as deep
abbrev pub insert_by_depth : Signal → List Signal → List Signal
insert_by_depth signal [] = signal ∷ []
insert_by_depth signal (other ∷ others) = insert_here (nat_le signal.depth other.depth) signal other others (insert_by_depth signal others)

-- by depth, at equal depth in the order of the walk
abbrev pub by_depth : List Signal → List Signal
by_depth [] = []
by_depth (signal ∷ signals) = insert_by_depth signal (by_depth signals)

-- the variables that drive an object, the first driver first
abbrev pub driving_variables : List Signal → List WalkedNode → Identifier → List Signal
driving_variables signals nodes object = by_depth (filter (λ (s : Signal). is_driving nodes s && same_name (outermost signals s.name) object) signals)

-- Drives of an object

-- a select that a node drives, with the node's number in the walk, the place of the select's least bit in the node's value, and the places of its bits
pub record ObjectDrive : Type 0 where
  pub node : ℕ
  pub offset : ℕ
  pub places : List (Option ℕ)
  pub place : SourcePlace

abbrev pub drive_if : Bool → ObjectDrive → List ObjectDrive → List ObjectDrive
drive_if true drive rest = drive ∷ rest
drive_if false drive rest = rest

abbrev pub drives_width : List Drive → ℕ
drives_width [] = 0
drives_width (drive ∷ rest) = length drive.places + drives_width rest

-- the drives of a node that are of an object: the rightmost select has the least significant bits of the value
abbrev pub node_drives : List Signal → Identifier → ℕ → List Drive → List ObjectDrive
node_drives signals object number [] = []
node_drives signals object number (drive ∷ rest) =
    drive_if (same_name (outermost signals drive.signal) object)
    (record { node = number; offset = drives_width rest; places = drive.places; place = drive.place }) (node_drives signals object number rest)

-- the drives of an object, in the order of the walk
abbrev pub drives_from : List Signal → Identifier → ℕ → List WalkedNode → List ObjectDrive
drives_from signals object number [] = []
drives_from signals object number (node ∷ nodes) = node_drives signals object number node.drives ++ drives_from signals object (number + 1) nodes

abbrev pub object_drives : List Signal → List WalkedNode → Identifier → List ObjectDrive
object_drives signals nodes object = drives_from signals object 0 nodes

abbrev pub run_of : ObjectDrive → DrivenRun
run_of drive = record { bits = bits_within drive.places; place = drive.place }

-- Two drivers

-- the bits that are taken by a variable that drives
abbrev pub taken_bits : ℕ → List Signal → List ℕ
taken_bits width [] = []
taken_bits width (driving ∷ rest) = up_from 0 width

abbrev pub join_place : Signal → SourcePlace
join_place signal = by_joining signal.joined
  where
    by_joining : Option Joining → SourcePlace
    by_joining None = signal.place
    by_joining (Some joining) = joining.place

abbrev pub refusal_of : Option SecondDriver → Option Refusal
refusal_of None = None
refusal_of (Some second) = Some (TwoDrivers second.place second.bit)

-- a second variable that drives is refused where its port is connected
abbrev pub second_variable : List Signal → Option Refusal
second_variable [] = None
second_variable (first ∷ []) = None
second_variable (first ∷ second ∷ rest) = Some (TwoDrivers (join_place second) 0)

abbrev pub signal_two_drivers : List Signal → List WalkedNode → Signal → Option Refusal
signal_two_drivers signals nodes signal =
    let driving = driving_variables signals nodes signal.name in
    refusal_or (second_variable driving) (refusal_of (second_driver (taken_bits (range_width signal.range) driving) (map run_of (object_drives signals nodes signal.name))))

abbrev pub first_two_drivers : List Signal → List WalkedNode → List Signal → Option Refusal
first_two_drivers signals nodes [] = None
first_two_drivers signals nodes (signal ∷ rest) = refusal_or (signal_two_drivers signals nodes signal) (first_two_drivers signals nodes rest)

-- two drivers of the first object of the walk that has them
abbrev pub two_drivers : List Signal → List WalkedNode → Option Refusal
two_drivers signals nodes = first_two_drivers signals nodes (filter is_unjoined signals)
