-- The values of changes, put one after another.
use Rattle.std.proofs.Common.{◌≡◌, ℕ, ◌+◌, ◌<◌, List, [], ◌∷◌, ◌++◌, map, length, get_or, set, take, refl, sym, ap, ◌∙◌, append-nil, append_assoc}
use Rattle.std.proofs.lemmas.List.{take_more, map_push}
use Rattle.vf_base.specs.Base.{object_number}
use Rattle.vf_base.specs.declared.ids.ObjectId.{ObjectId}
use Rattle.four_value.specs.Values.{LogicValue}
use Rattle.trace_window.specs.declared.change.Change.{Change}
use Rattle.trace_window.specs.Writes.{written_of}
use Rattle.moment_parts.specs.Within.{put_all}
use Rattle.moment_parts.proofs.Lists.{put_all-push}

-- so many of some changes are put
pub record IsPutSoFar (count : ℕ) (changes : List Change) (old new : List LogicValue) (listed more : List ObjectId) : Type 0 where
  pub values : new ≡ put_all (map written_of (take count changes)) old
  pub objects : map object_number more ≡ map object_number listed ++ map (λ (change : Change). object_number change.object) (take count changes)

pub put-none : (changes : List Change) (values : List LogicValue) (listed : List ObjectId) → IsPutSoFar 0 changes values values listed listed
put-none changes values listed = record { values = refl; objects = sym (append-nil (map object_number listed)) }

-- one more
pub put-more : (count : ℕ) (changes : List Change) (change : Change) (old new : List LogicValue) (listed more : List ObjectId) → count < length changes → change ≡ get_or changes count change →
    IsPutSoFar count changes old new listed more →
    (values : List LogicValue) (objects : List ObjectId) → values ≡ set new (object_number change.object) change.value → objects ≡ more ++ change.object ∷ [] →
    IsPutSoFar (count + 1) changes old values listed objects
put-more count changes change old new listed more low is so_far values objects put pushed = record {
  values =
      put ∙ ap (λ v. set v (object_number change.object) change.value) so_far.values
      ∙ sym (put_all-push (map written_of (take count changes)) (written_of change) old)
      ∙ ap (λ w. put_all w old) (sym (map_push written_of (take count changes) change) ∙ ap (map written_of) (sym taken));
  objects =
      ap (map object_number) pushed ∙ map_push object_number more change.object
      ∙ ap (λ l. l ++ object_number change.object ∷ []) so_far.objects
      ∙ append_assoc (map object_number listed) (map own (take count changes)) (object_number change.object ∷ [])
      ∙ ap (λ l. map object_number listed ++ l) (sym (map_push own (take count changes) change) ∙ ap (map own) (sym taken));
}
  where
    own : Change → ℕ
    own c = object_number c.object

    taken : take (count + 1) changes ≡ take count changes ++ change ∷ []
    taken = take_more changes count change low ∙ ap (λ c. take count changes ++ c ∷ []) (sym is)
