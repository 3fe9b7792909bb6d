-- Changes in the order of their objects (nothing of the language).
use Rattle.std.specs.Prelude.{◌≡◌, ℕ, suc, ◌<◌, ◌≤◌, true, false, List, [], ◌∷◌, length, get_or, nat_lt, cond}
use Rattle.vf_base.specs.Base.{object_number}
use Rattle.four_value.specs.Values.{same_value}
use Rattle.vf_base.specs.Lists.{AllHold}
use Rattle.value_change.specs.declared.change.Change.{Change}
use Rattle.value_change.specs.Changes.{ObjectChange}

-- changes stand in the order of their objects
abbrev pub AreInOrder : List ObjectChange → Type 0
AreInOrder [] = Unit {0}
AreInOrder (change ∷ changes) = AllHold (λ (later : ObjectChange). change.object ≤ later.object) changes × AreInOrder changes

-- one change more, before those of later objects
abbrev pub put_in_order : ObjectChange → List ObjectChange → List ObjectChange
put_in_order change [] = change ∷ []
put_in_order change (first ∷ rest) = cond (nat_lt change.object first.object) (change ∷ first ∷ rest) (first ∷ put_in_order change rest)

-- the same, where the change is one
abbrev pub with_change : ObjectChange → List ObjectChange → List ObjectChange
with_change change changes = elim (same_value change.old change.new) [ true ↦ changes | false ↦ put_in_order change changes ]

-- the place of an object's change among others: from there on stand those of later objects, and right before it none
pub record IsPlaceFor (object place : ℕ) (changes : List Change) : Type 0 where
  pub within : place ≤ length changes
  pub later : (k : ℕ) (d : Change) → place ≤ k → k < length changes → object < object_number (get_or changes k d).object
  pub before : (k : ℕ) (d : Change) → suc k ≡ place → object_number (get_or changes k d).object ≤ object
