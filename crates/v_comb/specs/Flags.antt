-- What is assigned on every path, as a flag for each target (nothing of the language).
use Rattle.std.specs.Prelude.{ℕ, Bool, true, false, ◌&&◌, ◌||◌, List, [], ◌∷◌, ◌++◌, replicate, length, Option, Some, None, is_none, option_and_then, get_or, slice_set, fold}
use Rattle.std.specs.List.{list_all}
use Rattle.v_tree.specs.Trees.{Identifier, SourceStatement, NullStatement, BlockStatement, IfStatement, IfElseStatement, CaseStatement, BlockingStatement, IgnoredTask, SourceStatements}
use Rattle.v_tree.specs.Trees.{no_source_statements, more_source_statements, SourceCaseItems, no_source_items, labelled, otherwise, names_in}
use Rattle.v_comb.specs.CombinationalForm.{names_needed, labels_names, whole_names}
use Rattle.v_comb.specs.NameTables.{place_of_name}

-- whether the name at a place is flagged; one that is no target needs no flag
abbrev pub flag_at : List Bool → Option ℕ → Bool
flag_at flags None = true
flag_at flags (Some place) = get_or flags place false

-- whether each of some names that is a target is flagged
abbrev pub all_flagged : List Identifier → List Bool → List Identifier → Bool
all_flagged targets flags names = list_all (λ name. flag_at flags (place_of_name targets name)) names

-- the flags with one more
abbrev pub flag_set : List Bool → Option ℕ → List Bool
flag_set flags None = flags
flag_set flags (Some place) = slice_set flags place true

abbrev pub flag_name : List Identifier → List Bool → Identifier → List Bool
flag_name targets flags name = flag_set flags (place_of_name targets name)

-- the flags with those of some names
abbrev pub flag_names : List Identifier → List Bool → List Identifier → List Bool
flag_names targets flags names = fold (flag_name targets) flags names

-- the flags that stand in both of two lists; none stands beyond the end of the second
abbrev pub flags_met : List Bool → List Bool → List Bool
flags_met [] other = []
flags_met (one ∷ flags) [] = false ∷ flags_met flags []
flags_met (one ∷ flags) (two ∷ other) = (one && two) ∷ flags_met flags other

abbrev pub flags_where : Bool → Option (List Bool) → Option (List Bool)
flags_where true flags = flags
flags_where false flags = None

abbrev pub flags_on_both : Option (List Bool) → Option (List Bool) → Option (List Bool)
flags_on_both None other = None
flags_on_both (Some one) None = None
flags_on_both (Some one) (Some other) = Some (flags_met one other)

-- whether a case has a default
abbrev pub has_default : SourceCaseItems → Bool
has_default no_source_items = false
has_default (labelled labels statement rest) = has_default rest
has_default (otherwise statement rest) = true

-- what is flagged on the path on which no label matches; where there is a default there is none such, and all is flagged
abbrev pub unmatched_flags : Bool → List Bool → List Bool
unmatched_flags true flags = replicate (length flags) true
unmatched_flags false flags = flags

abbrev mutual
  -- the flags on every path through a statement; none where it isn't of combinational form
  pub flags_after : List Identifier → List Bool → SourceStatement → Option (List Bool)
  flags_after targets flags (NullStatement place) = Some flags
  flags_after targets flags (IgnoredTask place) = Some flags
  flags_after targets flags (BlockStatement place statements) = all_flags_after targets flags statements
  flags_after targets flags (IfStatement place condition first) =
      flags_where (all_flagged targets flags (names_in condition)) (flags_on_both (Some flags) (flags_after targets flags first))
  flags_after targets flags (IfElseStatement place condition first second) =
      flags_where (all_flagged targets flags (names_in condition)) (flags_on_both (flags_after targets flags first) (flags_after targets flags second))
  flags_after targets flags (CaseStatement place kind value items) =
      flags_where (all_flagged targets flags (names_in value ++ labels_names items)) (items_flags_after targets flags (unmatched_flags (has_default items) flags) items)
  flags_after targets flags (BlockingStatement place target delay value) =
      flags_where (is_none delay && all_flagged targets flags (names_needed target value)) (Some (flag_names targets flags (whole_names target)))
  flags_after targets flags _ = None

  pub all_flags_after : List Identifier → List Bool → SourceStatements → Option (List Bool)
  all_flags_after targets flags no_source_statements = Some flags
  all_flags_after targets flags (more_source_statements first rest) = option_and_then (λ now. all_flags_after targets now rest) (flags_after targets flags first)

  -- the flags on some paths and on those through the items of a case
  pub items_flags_after : List Identifier → List Bool → List Bool → SourceCaseItems → Option (List Bool)
  items_flags_after targets flags met no_source_items = Some met
  items_flags_after targets flags met (labelled labels statement rest) = option_and_then (λ after. items_flags_after targets flags (flags_met met after) rest) (flags_after targets flags statement)
  items_flags_after targets flags met (otherwise statement rest) = option_and_then (λ after. items_flags_after targets flags (flags_met met after) rest) (flags_after targets flags statement)

-- whether there are flags, and all are set
abbrev pub all_set : Option (List Bool) → Bool
all_set None = false
all_set (Some flags) = list_all (λ flag. flag) flags
