-- The form of a block that waits for some names.
use Rattle.std.proofs.Common.{◌≡◌, Bool, true, false, ◌&&◌, List, [], map, refl}
use Rattle.std.specs.List.{list_all}
use Rattle.v_tree.specs.Trees.{Identifier, NamedPlace, SourceStatement, has_name}
use Rattle.v_comb.specs.CombinationalForm.{Star, NamesWaited, form_if, block_form, each_once, assigned_names, names_read, all_assigned, assigned_after}
use Rattle.elab_items.specs.Forms.{waiting_form}

form-by : (assigned : Bool) (targets reads names : List Identifier) → form_if (assigned && list_all (has_name names) reads) targets reads ≡ waiting_form names
    (form_if (assigned && true) targets reads)
form-by true targets reads names = refl
form-by false targets reads names = refl

pub form-waiting : (body : SourceStatement) (names : List Identifier) → block_form body (NamesWaited names) ≡ waiting_form names (block_form body Star)
form-waiting body names =
    let targets : List Identifier = each_once [] (map (λ (n : NamedPlace). n.name) (assigned_names body)) in
    form-by (all_assigned targets (assigned_after targets [] body)) targets (each_once targets (names_read body)) names
