-- The good samples with a fault's own in their stead, both lists walked side by side (nothing of the language).
use Rattle.std.specs.Prelude.{◌≡◌, List, [], ◌∷◌, None, nat_eq, if◌then◌else◌}
use Rattle.vf_base.specs.Lists.{AllHold}
use Rattle.v_design.specs.Grades.{Sample}
use Rattle.kept_samples.specs.declared.kept.Kept.{Kept}
use Rattle.dict_text.specs.Texts.{Entry, patched}
use Rattle.dict_text.specs.Dictionaries.{entry_kept}

-- the first of those that differ where it is of the good sample's time, else the good sample
abbrev pub sample_beside : Sample → List Sample → Sample
sample_beside good [] = good
sample_beside good (own ∷ differs) = if nat_eq own.time good.time then own else good

-- those that are left behind it
abbrev pub left_beside : Sample → List Sample → List Sample
left_beside good [] = []
left_beside good (own ∷ differs) = if nat_eq own.time good.time then differs else own ∷ differs

-- the good samples, with those that differ in their stead
abbrev pub merged : List Sample → List Sample → List Sample
merged [] differs = []
merged (good ∷ more) differs = sample_beside good differs ∷ merged more (left_beside good differs)

-- of a fault without an end, walking side by side finds what looking each time up finds
abbrev pub Merges : List Sample → Entry → Type 0
Merges good entry = entry.end ≡ None → merged good entry.differs ≡ patched good entry.differs

abbrev pub AllMerge : List Sample → List Kept → Type 0
AllMerge good entries = AllHold (λ (kept : Kept). Merges good (entry_kept kept)) entries
