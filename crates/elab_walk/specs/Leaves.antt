-- What a step of the walk leaves.
use Rattle.std.specs.Prelude.{◌≡◌, ℕ, List, ◌++◌, Result, Ok, Err}
use Rattle.v_tree.specs.Trees.{SourceItem}
use Rattle.v_elab.specs.Refusals.{Refusal, then_go}
use Rattle.v_elab.specs.Parts as plain
use Rattle.v_elab.specs.Walk.{Here, checked_item, added}
use Rattle.elab_parts.specs.PartViews.{parts_of}
use Rattle.elab_walk.specs.WalkFaults.{IsWalkFault}
use Rattle.elab_walk.specs.CountViews.{AreCounts}
use Rattle.elab_walk.specs.declared.fault.WalkFault.{WalkFault}
use Rattle.elab_walk.specs.declared.walked.Walked.{Walked}

-- the plain parts that were put behind each other so far
abbrev pub parts_in : Walked → List plain.Part
parts_in walked = parts_of walked.parts.items

-- the counts are those of some parts and of more, and none is too many
pub record IsWithin (before more : List plain.Part) (old new : Walked) : Type 0 where
  pub few : added before more ≡ Ok (before ++ more)
  pub kept : parts_in new ≡ parts_in old
  pub counted : AreCounts (before ++ more) new.counts

-- whether more parts behind some are too many
abbrev pub IsCounted : {A : Type 0} → List plain.Part → List plain.Part → Result A WalkFault → Walked → Walked → Type 0
IsCounted before more (Ok done) old new = IsWithin before more old new
IsCounted before more (Err fault) old new = IsWalkFault (added before more) fault

-- the parts that are wanted are those before and some more, which are put behind the others
pub record Grows (before : List plain.Part) (wanted : Result (List plain.Part) Refusal) (old new : Walked) : Type 0 where
  pub more : List plain.Part
  pub wanted_are : wanted ≡ Ok (before ++ more)
  pub pushed : parts_in new ≡ parts_in old ++ more
  pub counted : AreCounts (before ++ more) new.counts

-- a step whose counts so far are those of some parts goes on behind these as it is wanted, or tells why not
abbrev pub Leaves : {A : Type 0} → List plain.Part → Result (List plain.Part) Refusal → Result A WalkFault → Walked → Walked → Type 0
Leaves before wanted (Ok done) old new = Grows before wanted old new
Leaves before wanted (Err fault) old new = IsWalkFault wanted fault

-- what an item that is no instance gives behind some parts
abbrev pub plain_item : Here → ℕ → SourceItem → List plain.Part → Result (List plain.Part) Refusal
plain_item here gates item before = then_go (checked_item here gates item) (added before)
