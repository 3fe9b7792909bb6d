-- The flags of targets are those that are assigned.
use Rattle.std.proofs.Common.{◌≡◌, ℕ, zero, suc, ◌+◌, ◌-◌, ◌<◌, ◌≤◌, Bool, true, false, cond, not, ◌&&◌, ◌||◌, List, [], ◌∷◌, ◌++◌, map, filter, length, replicate, get_or, set, Option, Some, None}
use Rattle.std.proofs.Common.{option_map, option_and_then, is_none, refl, sym, ap, ap₂, ◌∙◌, arith, fold, add-one}
use Rattle.std.specs.List.{list_all, slice_set}
use Rattle.v_tree.specs.Trees.{Identifier, same_name, has_name, SourceStatement, NullStatement, BlockStatement, IfStatement, IfElseStatement, CaseStatement, ForStatement, WhileStatement}
use Rattle.v_tree.specs.Trees.{RepeatStatement, ForeverStatement, WaitStatement, EventStatement, DelayStatement, BlockingStatement, NonblockingStatement, IgnoredTask, FinishTask, SourceStatements}
use Rattle.v_tree.specs.Trees.{no_source_statements, more_source_statements, SourceCaseItems, no_source_items, labelled, otherwise, names_in}
use Rattle.v_comb.specs.CombinationalForm.{reads_assigned, assigned_where, on_both_paths, unmatched_path, path_with, paths_or, assigned_after, all_assigned_after, items_assigned_after, all_assigned}
use Rattle.v_comb.specs.CombinationalForm.{names_needed, whole_names, labels_names}
use Rattle.v_comb.specs.NameTables.{place_of_name}
use Rattle.v_comb.specs.Flags.{flag_at, all_flagged, flag_set, flag_name, flag_names, flags_met, flags_where, flags_on_both, has_default, unmatched_flags, flags_after, all_flags_after}
use Rattle.v_comb.specs.Flags.{items_flags_after, all_set}
use Rattle.v_comb.proofs.Tables.{same-equal, equal-same, same-tests, same-turned}
use Rattle.std.proofs.lemmas.Bool.{or_parts}

-- the flags of what is assigned
abbrev pub flags_of : List Identifier → List Identifier → List Bool
flags_of targets assigned = map (has_name assigned) targets

-- Names that stand once

-- no name of a list stands in it again
abbrev pub AreApart : List Identifier → Type 0
AreApart [] = Unit {0}
AreApart (name ∷ names) = (has_name names name ≡ false) × AreApart names

-- Reads

later-flag : (flag : Bool) (flags : List Bool) (place : Option ℕ) → flag_at (flag ∷ flags) (option_map (λ p. p + 1) place) ≡ flag_at flags place
later-flag flag flags None = refl
later-flag flag flags (Some p) = rw add-one refl

read-by : (assigned targets : List Identifier) (target name : Identifier) (b : Bool) → same_name target name ≡ b
    → flag_at (flags_of targets assigned) (place_of_name targets name) ≡ (not (has_name targets name) || has_name assigned name)
    → flag_at (has_name assigned target ∷ flags_of targets assigned) (cond b (Some 0) (option_map (λ p. p + 1) (place_of_name targets name))) ≡
    (not (b || has_name targets name) || has_name assigned name)
read-by assigned targets target name true e more = ap (has_name assigned) (same-equal target name e)
read-by assigned targets target name false e more = later-flag (has_name assigned target) (flags_of targets assigned) (place_of_name targets name) ∙ more

-- a name needs no flag, or has it, where it is no target or is assigned
pub read-flag : (assigned targets : List Identifier) (name : Identifier) → flag_at (flags_of targets assigned) (place_of_name targets name) ≡ (not (has_name targets name) || has_name assigned name)
read-flag assigned [] name = refl
read-flag assigned (target ∷ targets) name = read-by assigned targets target name (same_name target name) refl (read-flag assigned targets name)

pub reads-flags : (assigned targets names : List Identifier) → all_flagged targets (flags_of targets assigned) names ≡ reads_assigned targets assigned names
reads-flags assigned targets [] = refl
reads-flags assigned targets (name ∷ names) = ap₂ (λ x y. x && y) (read-flag assigned targets name) (reads-flags assigned targets names)

-- Writes

same-maps : {A : Type 0} (f g : Identifier → A) (xs : List Identifier) → ((x : Identifier) → f x ≡ g x) → map f xs ≡ map g xs
same-maps f g [] e = refl
same-maps f g (x ∷ xs) e = ap₂ (λ y ys. y ∷ ys) (e x) (same-maps f g xs e)

or-false : (b c : Bool) → b ≡ false → (b || c) ≡ c
or-false true c e = cc
or-false false c e = refl

or-true : (b c : Bool) → b ≡ true → (b || c) ≡ true
or-true true c e = refl
or-true false c e = cc

untouched : (name : Identifier) (assigned targets : List Identifier) → has_name targets name ≡ false → flags_of targets (name ∷ assigned) ≡ flags_of targets assigned
untouched name assigned [] e = refl
untouched name assigned (target ∷ targets) e =
    let parts = or_parts (same_name target name) (has_name targets name) e in
    ap₂ (λ y ys. y ∷ ys) (or-false (same_name name target) (has_name assigned target) (same-turned name target ∙ parts.0)) (untouched name assigned targets parts.1)

later-set : (flag : Bool) (flags : List Bool) (place : Option ℕ) → flag_set (flag ∷ flags) (option_map (λ p. p + 1) place) ≡ flag ∷ flag_set flags place
later-set flag flags None = refl
later-set flag flags (Some p) = rw add-one refl

write-by : (name target : Identifier) (assigned targets : List Identifier) (b : Bool) → same_name target name ≡ b → has_name targets target ≡ false
    → flags_of targets (name ∷ assigned) ≡ flag_set (flags_of targets assigned) (place_of_name targets name)
    → flags_of (target ∷ targets) (name ∷ assigned) ≡ flag_set (has_name assigned target ∷ flags_of targets assigned) (cond b (Some 0) (option_map (λ p. p + 1) (place_of_name targets name)))
write-by name target assigned targets true e apart more =
    ap₂ (λ y ys. y ∷ ys) (or-true (same_name name target) (has_name assigned target) (same-turned name target ∙ e))
    (untouched name assigned targets (ap (has_name targets) (sym (same-equal target name e)) ∙ apart))
write-by name target assigned targets false e apart more =
    ap₂ (λ y ys. y ∷ ys) (or-false (same_name name target) (has_name assigned target) (same-turned name target ∙ e)) more
    ∙ sym (later-set (has_name assigned target) (flags_of targets assigned) (place_of_name targets name))

write-flag : (name : Identifier) (assigned targets : List Identifier) → AreApart targets → flags_of targets (name ∷ assigned) ≡ flag_set (flags_of targets assigned) (place_of_name targets name)
write-flag name assigned [] apart = refl
write-flag name assigned (target ∷ targets) apart = write-by name target assigned targets (same_name target name) refl apart.0 (write-flag name assigned targets apart.1)

pub has-append : (one other : List Identifier) (name : Identifier) → has_name (one ++ other) name ≡ (has_name one name || has_name other name)
has-append [] other name = refl
has-append (x ∷ one) other name = ap (λ b. same_name x name || b) (has-append one other name) ∙ or-grouped (same_name x name) (has_name one name) (has_name other name)
  where
    or-grouped : (x y z : Bool) → (x || (y || z)) ≡ ((x || y) || z)
    or-grouped true y z = refl
    or-grouped false y z = refl

or-turned : (x y z : Bool) → (x || (y || z)) ≡ (y || (x || z))
or-turned true true z = refl
or-turned true false z = refl
or-turned false y z = refl

moved-front : (name : Identifier) (names assigned : List Identifier) (x : Identifier) → has_name (names ++ (name ∷ assigned)) x ≡ has_name (name ∷ (names ++ assigned)) x
moved-front name names assigned x =
    has-append names (name ∷ assigned) x ∙ or-turned (has_name names x) (same_name name x) (has_name assigned x)
    ∙ ap (λ b. same_name name x || b) (sym (has-append names assigned x))

pub write-flags : (names assigned targets : List Identifier) → AreApart targets → flag_names targets (flags_of targets assigned) names ≡ flags_of targets (names ++ assigned)
write-flags [] assigned targets apart = refl
write-flags (name ∷ names) assigned targets apart =
    ap (λ flags. flag_names targets flags names) (sym (write-flag name assigned targets apart))
    ∙ (write-flags names (name ∷ assigned) targets apart ∙ same-maps (has_name (names ++ (name ∷ assigned))) (has_name (name ∷ (names ++ assigned))) targets (moved-front name names assigned))

-- Two paths

kept-by : (x name : Identifier) (names other : List Identifier) (b c : Bool) → has_name other x ≡ b → same_name x name ≡ c
    → has_name (filter (has_name other) names) name ≡ (has_name names name && has_name other name)
    → has_name (filter (has_name other) (x ∷ names)) name ≡ ((c || has_name names name) && has_name other name)
kept-by x name names other true true e s more =
    let there : has_name other name ≡ true = ap (has_name other) (sym (same-equal x name s)) ∙ e in
    rw (e, there, s) refl
kept-by x name names other true false e s more = rw (e, s) more
kept-by x name names other false true e s more =
    let there : has_name other name ≡ false = ap (has_name other) (sym (same-equal x name s)) ∙ e in
    rw e (more ∙ rw there (and-none (has_name names name)))
  where
    and-none : (b : Bool) → (b && false) ≡ false
    and-none true = refl
    and-none false = refl
kept-by x name names other false false e s more = rw e more

kept-both : (one other : List Identifier) (name : Identifier) → has_name (filter (has_name other) one) name ≡ (has_name one name && has_name other name)
kept-both [] other name = refl
kept-both (x ∷ one) other name = kept-by x name one other (has_name other x) (same_name x name) refl refl (kept-both one other name)

met-maps : (f g : Identifier → Bool) (xs : List Identifier) → flags_met (map f xs) (map g xs) ≡ map (λ x. f x && g x) xs
met-maps f g [] = refl
met-maps f g (x ∷ xs) = ap (λ rest. (f x && g x) ∷ rest) (met-maps f g xs)

met-flags : (targets one other : List Identifier) → flags_of targets (filter (has_name other) one) ≡ flags_met (flags_of targets one) (flags_of targets other)
met-flags targets one other =
    same-maps (has_name (filter (has_name other) one)) (λ name. has_name one name && has_name other name) targets (kept-both one other)
    ∙ sym (met-maps (has_name one) (has_name other) targets)

both-flags : (targets : List Identifier) (one other : Option (List Identifier)) → flags_on_both (option_map (flags_of targets) one) (option_map (flags_of targets) other) ≡ option_map
    (flags_of targets) (on_both_paths one other)
both-flags targets None other = refl
both-flags targets (Some one) None = refl
both-flags targets (Some one) (Some other) = ap (λ (flags : List Bool). Some flags) (sym (met-flags targets one other))

where-flags : (targets : List Identifier) (b c : Bool) (flags : Option (List Bool)) (assigned : Option (List Identifier)) → b ≡ c → flags ≡ option_map (flags_of targets) assigned
    → flags_where b flags ≡ option_map (flags_of targets) (assigned_where c assigned)
where-flags targets true true flags assigned e s = s
where-flags targets true false flags assigned e s = cc
where-flags targets false true flags assigned e s = cc
where-flags targets false false flags assigned e s = refl

-- Cases

met-grouped : (one two three : List Bool) → flags_met (flags_met one two) three ≡ flags_met one (flags_met two three)
met-grouped [] two three = refl
met-grouped (x ∷ one) [] [] = ap (λ rest. false ∷ rest) (met-grouped one [] [])
met-grouped (x ∷ one) [] (z ∷ three) = ap (λ rest. false ∷ rest) (met-grouped one [] three)
met-grouped (x ∷ one) (y ∷ two) [] = ap₂ (λ b rest. b ∷ rest) (and-none x) (met-grouped one two [])
  where
    and-none : (b : Bool) → false ≡ (b && false)
    and-none true = refl
    and-none false = refl
met-grouped (x ∷ one) (y ∷ two) (z ∷ three) = ap₂ (λ b rest. b ∷ rest) (and-grouped x y z) (met-grouped one two three)
  where
    and-grouped : (x y z : Bool) → ((x && y) && z) ≡ (x && (y && z))
    and-grouped true y z = refl
    and-grouped false y z = refl

met-same : (flags : List Bool) → flags_met flags flags ≡ flags
met-same [] = refl
met-same (flag ∷ flags) = ap₂ (λ b rest. b ∷ rest) (and-same flag) (met-same flags)
  where
    and-same : (b : Bool) → (b && b) ≡ b
    and-same true = refl
    and-same false = refl

met-all : (f g : Identifier → Bool) (xs : List Identifier) → flags_met (replicate (length (map f xs)) true) (map g xs) ≡ map g xs
met-all f g [] = refl
met-all f g (x ∷ xs) = ap (λ rest. g x ∷ rest) (met-all f g xs)

-- flags that are met with those of the paths through some items
abbrev met_paths : List Identifier → List Bool → Option (Option (List Identifier)) → Option (List Bool)
met_paths targets met None = Some met
met_paths targets met (Some None) = None
met_paths targets met (Some (Some path)) = Some (flags_met met (flags_of targets path))

one-path : (targets : List Identifier) (met : List Bool) (rest : List Bool → Option (List Bool)) (path : Option (List Identifier)) (paths : Option (Option (List Identifier)))
    → ((now : List Bool) → rest now ≡ met_paths targets now paths)
    → option_and_then (λ after. rest (flags_met met after)) (option_map (flags_of targets) path) ≡ met_paths targets met (path_with path paths)
one-path targets met rest None None more = refl
one-path targets met rest None (Some paths) more = refl
one-path targets met rest (Some one) None more = more (flags_met met (flags_of targets one))
one-path targets met rest (Some one) (Some None) more = more (flags_met met (flags_of targets one))
one-path targets met rest (Some one) (Some (Some other)) more =
    more (flags_met met (flags_of targets one))
    ∙ ap (λ (flags : List Bool). Some flags) (met-grouped met (flags_of targets one) (flags_of targets other) ∙ ap (flags_met met) (sym (met-flags targets one other)))

unmatched-is : (assigned : List Identifier) (items : SourceCaseItems) (paths : Option (List Identifier)) →
    unmatched_path assigned items paths ≡ cond (has_default items) paths (on_both_paths (Some assigned) paths)
unmatched-is assigned no_source_items paths = refl
unmatched-is assigned (labelled labels statement rest) paths = unmatched-is assigned rest paths
unmatched-is assigned (otherwise statement rest) paths = refl

pathless : (path : Option (List Identifier)) (paths : Option (Option (List Identifier))) → path_with path paths ≡ None → ⊥
pathless path None e = cc
pathless path (Some other) e = cc

itemless : (targets assigned : List Identifier) (items : SourceCaseItems) → items_assigned_after targets assigned items ≡ None → has_default items ≡ false
itemless targets assigned no_source_items e = refl
itemless targets assigned (labelled labels statement rest) e = absurd (pathless (assigned_after targets assigned statement) (items_assigned_after targets assigned rest) e)
itemless targets assigned (otherwise statement rest) e = absurd (pathless (assigned_after targets assigned statement) (items_assigned_after targets assigned rest) e)

case-by : (targets assigned : List Identifier) (default : Bool) (paths : Option (Option (List Identifier))) → (paths ≡ None → default ≡ false)
    → met_paths targets (unmatched_flags default (flags_of targets assigned)) paths ≡ option_map (flags_of targets)
    (cond default (paths_or assigned paths) (on_both_paths (Some assigned) (paths_or assigned paths)))
case-by targets assigned true None some = cc (some refl)
case-by targets assigned false None some = ap (λ (flags : List Bool). Some flags) (sym (met-flags targets assigned assigned ∙ met-same (flags_of targets assigned)))
case-by targets assigned true (Some None) some = refl
case-by targets assigned false (Some None) some = refl
case-by targets assigned true (Some (Some path)) some = ap (λ (flags : List Bool). Some flags) (met-all (has_name assigned) (has_name path) targets)
case-by targets assigned false (Some (Some path)) some = ap (λ (flags : List Bool). Some flags) (sym (met-flags targets assigned path))

next-flags : (targets : List Identifier) (rest : List Bool → Option (List Bool)) (after : Option (List Identifier)) (then : List Identifier → Option (List Identifier))
    → ((now : List Identifier) → rest (flags_of targets now) ≡ option_map (flags_of targets) (then now))
    → option_and_then rest (option_map (flags_of targets) after) ≡ option_map (flags_of targets) (option_and_then then after)
next-flags targets rest None then more = refl
next-flags targets rest (Some now) then more = more now

mutual
  pub flags-agree : (targets assigned : List Identifier) (statement : SourceStatement) → AreApart targets →
      flags_after targets (flags_of targets assigned) statement ≡ option_map (flags_of targets) (assigned_after targets assigned statement)
  flags-agree targets assigned (NullStatement place) apart = refl
  flags-agree targets assigned (IgnoredTask place) apart = refl
  flags-agree targets assigned (BlockStatement place statements) apart = all-flags-agree targets assigned statements apart
  flags-agree targets assigned (IfStatement place condition first) apart =
      where-flags targets (all_flagged targets (flags_of targets assigned) (names_in condition)) (reads_assigned targets assigned (names_in condition)) _
      (on_both_paths (Some assigned) (assigned_after targets assigned first)) (reads-flags assigned targets (names_in condition))
      (ap (flags_on_both (Some (flags_of targets assigned))) (flags-agree targets assigned first apart) ∙ both-flags targets (Some assigned) (assigned_after targets assigned first))
  flags-agree targets assigned (IfElseStatement place condition first second) apart =
      where-flags targets (all_flagged targets (flags_of targets assigned) (names_in condition)) (reads_assigned targets assigned (names_in condition)) _
      (on_both_paths (assigned_after targets assigned first) (assigned_after targets assigned second)) (reads-flags assigned targets (names_in condition))
      (ap₂ flags_on_both (flags-agree targets assigned first apart) (flags-agree targets assigned second apart)
      ∙ both-flags targets (assigned_after targets assigned first) (assigned_after targets assigned second))
  flags-agree targets assigned (CaseStatement place kind value items) apart =
      where-flags targets (all_flagged targets (flags_of targets assigned) (names_in value ++ labels_names items)) (reads_assigned targets assigned (names_in value ++ labels_names items)) _
      (unmatched_path assigned items (paths_or assigned (items_assigned_after targets assigned items))) (reads-flags assigned targets (names_in value ++ labels_names items))
      (items-flags-agree targets assigned (unmatched_flags (has_default items) (flags_of targets assigned)) items apart
      ∙ case-by targets assigned (has_default items) (items_assigned_after targets assigned items) (itemless targets assigned items)
      ∙ ap (option_map (flags_of targets)) (sym (unmatched-is assigned items (paths_or assigned (items_assigned_after targets assigned items)))))
  flags-agree targets assigned (BlockingStatement place target delay value) apart =
      where-flags targets (is_none delay && all_flagged targets (flags_of targets assigned) (names_needed target value))
      (is_none delay && reads_assigned targets assigned (names_needed target value)) _ (Some (whole_names target ++ assigned))
      (ap (λ b. is_none delay && b) (reads-flags assigned targets (names_needed target value)))
      (ap (λ (flags : List Bool). Some flags) (write-flags (whole_names target) assigned targets apart))
  flags-agree targets assigned (ForStatement place first_target first condition next_target next body) apart = refl
  flags-agree targets assigned (WhileStatement place condition body) apart = refl
  flags-agree targets assigned (RepeatStatement place count body) apart = refl
  flags-agree targets assigned (ForeverStatement place body) apart = refl
  flags-agree targets assigned (WaitStatement place condition body) apart = refl
  flags-agree targets assigned (EventStatement place waits body) apart = refl
  flags-agree targets assigned (DelayStatement place delay body) apart = refl
  flags-agree targets assigned (NonblockingStatement place target delay value) apart = refl
  flags-agree targets assigned (FinishTask place) apart = refl

  pub all-flags-agree : (targets assigned : List Identifier) (statements : SourceStatements) → AreApart targets →
      all_flags_after targets (flags_of targets assigned) statements ≡ option_map (flags_of targets) (all_assigned_after targets assigned statements)
  all-flags-agree targets assigned no_source_statements apart = refl
  all-flags-agree targets assigned (more_source_statements first rest) apart =
      ap (option_and_then (λ now. all_flags_after targets now rest)) (flags-agree targets assigned first apart)
      ∙ next-flags targets (λ now. all_flags_after targets now rest) (assigned_after targets assigned first) (λ now. all_assigned_after targets now rest)
      (λ now. all-flags-agree targets now rest apart)

  pub items-flags-agree : (targets assigned : List Identifier) (met : List Bool) (items : SourceCaseItems) → AreApart targets →
      items_flags_after targets (flags_of targets assigned) met items ≡ met_paths targets met (items_assigned_after targets assigned items)
  items-flags-agree targets assigned met no_source_items apart = refl
  items-flags-agree targets assigned met (labelled labels statement rest) apart =
      ap (option_and_then (λ after. items_flags_after targets (flags_of targets assigned) (flags_met met after) rest)) (flags-agree targets assigned statement apart)
      ∙ one-path targets met (λ now. items_flags_after targets (flags_of targets assigned) now rest) (assigned_after targets assigned statement) (items_assigned_after targets assigned rest)
      (λ now. items-flags-agree targets assigned now rest apart)
  items-flags-agree targets assigned met (otherwise statement rest) apart =
      ap (option_and_then (λ after. items_flags_after targets (flags_of targets assigned) (flags_met met after) rest)) (flags-agree targets assigned statement apart)
      ∙ one-path targets met (λ now. items_flags_after targets (flags_of targets assigned) now rest) (assigned_after targets assigned statement) (items_assigned_after targets assigned rest)
      (λ now. items-flags-agree targets assigned now rest apart)

-- The end

all-mapped : (f : Identifier → Bool) (xs : List Identifier) → list_all (λ flag. flag) (map f xs) ≡ list_all f xs
all-mapped f [] = refl
all-mapped f (x ∷ xs) = ap (λ b. f x && b) (all-mapped f xs)

end-flags : (targets : List Identifier) (assigned : Option (List Identifier)) → all_set (option_map (flags_of targets) assigned) ≡ all_assigned targets assigned
end-flags targets None = refl
end-flags targets (Some assigned) = all-mapped (has_name assigned) targets

no-flags : (targets : List Identifier) → replicate (length targets) false ≡ flags_of targets []
no-flags [] = refl
no-flags (target ∷ targets) = ap (λ rest. false ∷ rest) (no-flags targets)

-- the flags at the end say whether all targets are assigned
pub flags-are-assigned : (targets : List Identifier) (statement : SourceStatement) → AreApart targets
    → all_set (flags_after targets (replicate (length targets) false) statement) ≡ all_assigned targets (assigned_after targets [] statement)
flags-are-assigned targets statement apart =
    ap (λ flags. all_set (flags_after targets flags statement)) (no-flags targets)
    ∙ (ap all_set (flags-agree targets [] statement apart) ∙ end-flags targets (assigned_after targets [] statement))
