-- Combinational form of an `always` block, over names (IEEE 1364-2001, clause 9.7.5 for `@*`, clause 9.2.1 for blocking assignments; that such a block is a node is own).
use Rattle.std.specs.Prelude.{Bool, true, false, not, ◌&&◌, ◌||◌, List, [], ◌∷◌, ◌++◌, map, filter, flat_map, Option, Some, None, is_none, option_and_then}
use Rattle.std.specs.List.{list_all}
use Rattle.v_tree.specs.Trees.{Identifier, SourceExpression, SourceIndex, NoIndex, SourceSelect, SourceTarget, selects_of, SourceStatement, NullStatement, BlockStatement, IfStatement}
use Rattle.v_tree.specs.Trees.{IfElseStatement, CaseStatement, ForStatement, WhileStatement, RepeatStatement, ForeverStatement, WaitStatement, EventStatement, DelayStatement, BlockingStatement}
use Rattle.v_tree.specs.Trees.{NonblockingStatement, IgnoredTask, FinishTask, SourceStatements, no_source_statements, more_source_statements, SourceCaseItems, no_source_items, labelled, otherwise}
use Rattle.v_tree.specs.Trees.{NamedPlace, names_in, names_in_index, names_in_parts, has_name}

-- what a block waits for: all that it reads, or some names
pub data BlockWaits : Type 0 where
  Star : BlockWaits
  NamesWaited : (names : List Identifier) → BlockWaits

-- a node with the names that it writes and those that it reads, or a process
pub data BlockForm : Type 0 where
  NetForm : (targets reads : List Identifier) → BlockForm
  ProcessForm : BlockForm

-- each name at its first occurrence alone
abbrev pub fresh_name : Bool → Identifier → List Identifier → List Identifier
fresh_name true name rest = rest
fresh_name false name rest = name ∷ rest

abbrev pub each_once : List Identifier → List Identifier → List Identifier
each_once seen [] = []
each_once seen (name ∷ names) = fresh_name (has_name seen name) name (each_once (name ∷ seen) names)

-- What a statement writes and reads

abbrev pub target_names : SourceTarget → List NamedPlace
target_names target = map (λ (s : SourceSelect). record { name = s.name; place = s.place }) (selects_of target)

-- the names in the brackets of a target
abbrev pub target_index_names : SourceTarget → List Identifier
target_index_names target = flat_map (λ (s : SourceSelect). names_in_index s.index) (selects_of target)

abbrev mutual
  -- the names that a statement assigns, in text order
  pub assigned_names : SourceStatement → List NamedPlace
  assigned_names (NullStatement place) = []
  assigned_names (BlockStatement place statements) = all_assigned_names statements
  assigned_names (IfStatement place condition first) = assigned_names first
  assigned_names (IfElseStatement place condition first second) = assigned_names first ++ assigned_names second
  assigned_names (CaseStatement place kind value items) = items_assigned_names items
  assigned_names (ForStatement place first_target first condition next_target next body) = target_names first_target ++ (target_names next_target ++ assigned_names body)
  assigned_names (WhileStatement place condition body) = assigned_names body
  assigned_names (RepeatStatement place count body) = assigned_names body
  assigned_names (ForeverStatement place body) = assigned_names body
  assigned_names (WaitStatement place condition body) = assigned_names body
  assigned_names (EventStatement place waits body) = assigned_names body
  assigned_names (DelayStatement place delay body) = assigned_names body
  assigned_names (BlockingStatement place target delay value) = target_names target
  assigned_names (NonblockingStatement place target delay value) = target_names target
  assigned_names (IgnoredTask place) = []
  assigned_names (FinishTask place) = []

  pub all_assigned_names : SourceStatements → List NamedPlace
  all_assigned_names no_source_statements = []
  all_assigned_names (more_source_statements first rest) = assigned_names first ++ all_assigned_names rest

  pub items_assigned_names : SourceCaseItems → List NamedPlace
  items_assigned_names no_source_items = []
  items_assigned_names (labelled labels statement rest) = assigned_names statement ++ items_assigned_names rest
  items_assigned_names (otherwise statement rest) = assigned_names statement ++ items_assigned_names rest

abbrev pub labels_names : SourceCaseItems → List Identifier
labels_names no_source_items = []
labels_names (labelled labels statement rest) = names_in_parts labels ++ labels_names rest
labels_names (otherwise statement rest) = labels_names rest

abbrev mutual
  -- the names that a statement of combinational form reads, in text order
  pub names_read : SourceStatement → List Identifier
  names_read (BlockStatement place statements) = all_names_read statements
  names_read (IfStatement place condition first) = names_in condition ++ names_read first
  names_read (IfElseStatement place condition first second) = names_in condition ++ (names_read first ++ names_read second)
  names_read (CaseStatement place kind value items) = names_in value ++ items_names_read items
  names_read (BlockingStatement place target delay value) = target_index_names target ++ names_in value
  names_read _ = []

  pub all_names_read : SourceStatements → List Identifier
  all_names_read no_source_statements = []
  all_names_read (more_source_statements first rest) = names_read first ++ all_names_read rest

  pub items_names_read : SourceCaseItems → List Identifier
  items_names_read no_source_items = []
  items_names_read (labelled labels statement rest) = names_in_parts labels ++ (names_read statement ++ items_names_read rest)
  items_names_read (otherwise statement rest) = names_read statement ++ items_names_read rest

-- Paths

-- of the names that are targets each is among those that are assigned
abbrev pub reads_assigned : List Identifier → List Identifier → List Identifier → Bool
reads_assigned targets assigned names = list_all (λ name. not (has_name targets name) || has_name assigned name) names

abbrev pub is_whole_select : SourceSelect → Bool
is_whole_select select = is_whole select.index
  where
    is_whole : SourceIndex → Bool
    is_whole NoIndex = true
    is_whole _ = false

-- the names that a target assigns whole
abbrev pub whole_names : SourceTarget → List Identifier
whole_names target = map (λ (s : SourceSelect). s.name) (filter is_whole_select (selects_of target))

-- the names that a target assigns in part
abbrev pub part_names : SourceTarget → List Identifier
part_names target = map (λ (s : SourceSelect). s.name) (filter (λ s. not (is_whole_select s)) (selects_of target))

-- the names that have to be assigned whole before an assignment, where they are targets: those that it reads and those that it assigns in part
abbrev pub names_needed : SourceTarget → SourceExpression → List Identifier
names_needed target value = target_index_names target ++ (names_in value ++ part_names target)

abbrev pub assigned_where : Bool → Option (List Identifier) → Option (List Identifier)
assigned_where true assigned = assigned
assigned_where false assigned = None

-- what is assigned on both of two paths
abbrev pub on_both_paths : Option (List Identifier) → Option (List Identifier) → Option (List Identifier)
on_both_paths None other = None
on_both_paths (Some one) None = None
on_both_paths (Some one) (Some other) = Some (filter (has_name other) one)

-- the path of a case on which no label matches: none where there is a default
abbrev pub unmatched_path : List Identifier → SourceCaseItems → Option (List Identifier) → Option (List Identifier)
unmatched_path assigned no_source_items paths = on_both_paths (Some assigned) paths
unmatched_path assigned (labelled labels statement rest) paths = unmatched_path assigned rest paths
unmatched_path assigned (otherwise statement rest) paths = paths

abbrev pub path_with : Option (List Identifier) → Option (Option (List Identifier)) → Option (Option (List Identifier))
path_with path None = Some path
path_with path (Some other) = Some (on_both_paths path other)

abbrev pub paths_or : List Identifier → Option (Option (List Identifier)) → Option (List Identifier)
paths_or assigned None = Some assigned
paths_or assigned (Some path) = path

abbrev mutual
  -- the targets that are assigned whole on every path through a statement, given those assigned before it; none where one is read or assigned in part before that, or the statement has another form
  pub assigned_after : List Identifier → List Identifier → SourceStatement → Option (List Identifier)
  assigned_after targets assigned (NullStatement place) = Some assigned
  assigned_after targets assigned (IgnoredTask place) = Some assigned
  assigned_after targets assigned (BlockStatement place statements) = all_assigned_after targets assigned statements
  assigned_after targets assigned (IfStatement place condition first) =
      assigned_where (reads_assigned targets assigned (names_in condition)) (on_both_paths (Some assigned) (assigned_after targets assigned first))
  assigned_after targets assigned (IfElseStatement place condition first second) =
      assigned_where (reads_assigned targets assigned (names_in condition)) (on_both_paths (assigned_after targets assigned first) (assigned_after targets assigned second))
  assigned_after targets assigned (CaseStatement place kind value items) =
      assigned_where (reads_assigned targets assigned (names_in value ++ labels_names items))
      (unmatched_path assigned items (paths_or assigned (items_assigned_after targets assigned items)))
  assigned_after targets assigned (BlockingStatement place target delay value) =
      assigned_where (is_none delay && reads_assigned targets assigned (names_needed target value)) (Some (whole_names target ++ assigned))
  assigned_after targets assigned _ = None

  pub all_assigned_after : List Identifier → List Identifier → SourceStatements → Option (List Identifier)
  all_assigned_after targets assigned no_source_statements = Some assigned
  all_assigned_after targets assigned (more_source_statements first rest) = option_and_then (λ now. all_assigned_after targets now rest) (assigned_after targets assigned first)

  -- what all items of a case assign; none where there is no item
  pub items_assigned_after : List Identifier → List Identifier → SourceCaseItems → Option (Option (List Identifier))
  items_assigned_after targets assigned no_source_items = None
  items_assigned_after targets assigned (labelled labels statement rest) = path_with (assigned_after targets assigned statement) (items_assigned_after targets assigned rest)
  items_assigned_after targets assigned (otherwise statement rest) = path_with (assigned_after targets assigned statement) (items_assigned_after targets assigned rest)

-- Form

abbrev pub waits_for : BlockWaits → List Identifier → Bool
waits_for Star reads = true
waits_for (NamesWaited names) reads = list_all (has_name names) reads

abbrev pub all_assigned : List Identifier → Option (List Identifier) → Bool
all_assigned targets None = false
all_assigned targets (Some assigned) = list_all (has_name assigned) targets

abbrev pub form_if : Bool → List Identifier → List Identifier → BlockForm
form_if true targets reads = NetForm targets reads
form_if false targets reads = ProcessForm

-- the form of a statement under an event control: every target is assigned whole on every path, and each name that is read and isn't a target is waited for
abbrev pub block_form : SourceStatement → BlockWaits → BlockForm
block_form body waits =
    let targets = each_once [] (map (λ (n : NamedPlace). n.name) (assigned_names body)) in
    let reads = each_once targets (names_read body) in
    form_if (all_assigned targets (assigned_after targets [] body) && waits_for waits reads) targets reads
