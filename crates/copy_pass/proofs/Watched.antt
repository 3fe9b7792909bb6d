-- Watched bits of objects of which a copy keeps no value (nothing of the language).
use Rattle.std.proofs.Common.{◌≡◌, ℕ, ◌+◌, ◌<◌, ◌≤◌, List, [], ◌∷◌, ◌++◌, length, map, take, get_or, sym, subst, arith}
use Rattle.std.specs.Prelude.{None}
use Rattle.std.proofs.lemmas.List.{take_all, take_more}
use Rattle.four_value.specs.Values.{LogicValue}
use Rattle.vf_base.specs.Base.{WatchedBit, object_number, watched_bit}
use Rattle.vf_base.specs.Lists.{AllHold}
use Rattle.vf_base.specs.declared.ids.WatchBit.{WatchBit}
use Rattle.copy_laws.specs.Differences.{own_of}

-- none of some watched bits is of an object with an own value
abbrev pub NoneDiffers : List (ℕ × LogicValue) → List WatchBit → Type 0
NoneDiffers values watched = AllHold (λ (w : WatchBit). own_of values (object_number w.object) ≡ None) watched

differs-push : (values : List (ℕ × LogicValue)) (watched : List WatchBit) (w : WatchBit) → NoneDiffers values watched → own_of values (object_number w.object) ≡ None →
    NoneDiffers values (watched ++ w ∷ [])
differs-push values [] w none here = (here, tt)
differs-push values (first ∷ watched) w none here = (none.0, differs-push values watched w none.1 here)

-- one more
pub differs-more : (values : List (ℕ × LogicValue)) (watched : List WatchBit) (place : ℕ) (d : WatchBit) → place < length watched → NoneDiffers values (take place watched) →
    own_of values (object_number (get_or watched place d).object) ≡ None → NoneDiffers values (take (place + 1) watched)
differs-more values watched place d low none here =
    subst (NoneDiffers values) (sym (take_more watched place d low)) (differs-push values (take place watched) (get_or watched place d) none here)

-- all
pub differs-all : (values : List (ℕ × LogicValue)) (watched : List WatchBit) (place : ℕ) → length watched ≤ place → NoneDiffers values (take place watched) →
    AllHold (λ (w : WatchedBit). own_of values w.object ≡ None) (map watched_bit watched)
differs-all values watched place past none = go watched (subst (NoneDiffers values) (take_all place watched past) none)
  where
    go : (bits : List WatchBit) → NoneDiffers values bits → AllHold (λ (w : WatchedBit). own_of values w.object ≡ None) (map watched_bit bits)
    go [] all = tt
    go (w ∷ bits) all = (all.0, go bits all.1)
