-- What changes of several objects reach, one after another.
use Rattle.std.proofs.Common.{◌≡◌, ℕ, ◌+◌, ◌<◌, Bool, true, false, List, [], ◌∷◌, ◌++◌, map, take, length, get_or, refl, ap, sym, ◌∙◌}
use Rattle.std.specs.Prelude.{◌||◌}
use Rattle.std.specs.List.{list_any}
use Rattle.std.proofs.lemmas.List.{map_more}
use Rattle.std.proofs.lemmas.List.Folds.{list_any-append}
use Rattle.vf_base.specs.declared.ids.ObjectId.{ObjectId}
use Rattle.vf_base.specs.Base.{object_number}
use Rattle.v_design.specs.PlainDesigns.{design_of}
use Rattle.graph_order.specs.ListLaws.{or-false}
use Rattle.reach_search.specs.Reach.{reaches, ReachKept, is_reached, ReachesToo, ReachesAllToo}

-- no object
pub ReachesAllToo-none : (kept : ReachKept) → ReachesAllToo [] kept kept
ReachesAllToo-none kept = record { design_is = refl; reached = λ other. sym (or-false (is_reached kept other)) }

or_more : (a b c : Bool) → ((a || b) || c) ≡ (a || (b || (c || false)))
or_more true b c = refl
or_more false true c = refl
or_more false false c = sym (or-false c)

-- one more
ReachesAllToo-more : (objects : List ℕ) (object : ℕ) (old between new : ReachKept) → ReachesAllToo objects old between → ReachesToo object between new → ReachesAllToo (objects ++ object ∷ []) old new
ReachesAllToo-more objects object old between new had more = record {
  design_is = more.design_is ∙ had.design_is;
  reached = λ other.
      more.reached other
      ∙ ap (λ d. is_reached between other || reaches (design_of d) object other) had.design_is
      ∙ ap (λ b. b || reaches (design_of old.design) object other) (had.reached other)
      ∙ or_more (is_reached old other) (list_any (λ from. reaches (design_of old.design) from other) objects) (reaches (design_of old.design) object other)
      ∙ ap (λ b. is_reached old other || b) (sym (list_any-append (λ from. reaches (design_of old.design) from other) objects (object ∷ [])));
}

-- one more of a list
pub ReachesAllToo-stepped : (objects : List ObjectId) (i : ℕ) (d : ObjectId) (old between new : ReachKept) → i < length objects →
    ReachesAllToo (map object_number (take i objects)) old between → ReachesToo (object_number (get_or objects i d)) between new →
    ReachesAllToo (map object_number (take (i + 1) objects)) old new
ReachesAllToo-stepped objects i d old between new low had more =
    rw (map_more object_number objects i d low) (ReachesAllToo-more (map object_number (take i objects)) (object_number (get_or objects i d)) old between new had more)
