-- The parts of a name at the place where it is declared first, and no parts elsewhere.
use Rattle.std.proofs.Common.{◌≡◌, Bool, true, false, List, [], ◌∷◌, filter, flat_map, cond, refl, sym, ap, ◌∙◌, append-nil}
use Rattle.vf_base.specs.Base.{SourcePlace}
use Rattle.v_tree.specs.Trees.{Identifier, same_name}
use Rattle.v_names.specs.Faults.{same_place}
use Rattle.v_names.specs.Scopes.{looked_up}
use Rattle.v_names.specs.Names.{Declaration, of_name}
use Rattle.v_elab.specs.Parts.{Part}
use Rattle.v_elab.specs.Walk.{Here, part_by_entry}
use Rattle.elab_items.proofs.Names.{equal-name}

-- the parts of those declarations that stand at a place
abbrev pub parts_at : Here → SourcePlace → List Declaration → List Part
parts_at h place ds = flat_map (λ (own : Declaration). part_by_entry h own (looked_up h.scope own.name)) (filter (λ (own : Declaration). same_place own.place place) ds)

pub own-elsewhere : (h : Here) (place : SourcePlace) (own : Declaration) → same_place own.place place ≡ false → parts_at h place (own ∷ []) ≡ []
own-elsewhere h place own e = ap (λ b. flat_map (λ (d : Declaration). part_by_entry h d (looked_up h.scope d.name)) (cond b (own ∷ []) [])) e

pub own-here : (h : Here) (place : SourcePlace) (own : Declaration) → same_place own.place place ≡ true → parts_at h place (own ∷ []) ≡ part_by_entry h own (looked_up h.scope own.name)
own-here h place own e =
    ap (λ b. flat_map (λ (d : Declaration). part_by_entry h d (looked_up h.scope d.name)) (cond b (own ∷ []) [])) e ∙ append-nil (part_by_entry h own (looked_up h.scope own.name))

-- the one declaration of a name has that name
pub only-name : (name : Identifier) (ds : List Declaration) (own : Declaration) → of_name name ds ≡ own ∷ [] → own.name ≡ name
only-name name [] own e = absurd (cc)
only-name name (d ∷ ds) own e = step (same_name d.name name) refl (λ h. only-name name ds own h)
  where
    step : (b : Bool) → same_name d.name name ≡ b → (of_name name ds ≡ own ∷ [] → own.name ≡ name) → own.name ≡ name
    step true s rest =
        let first : d ∷ of_name name ds ≡ own ∷ [] = sym (ap (λ c. cond c (d ∷ of_name name ds) (of_name name ds)) s) ∙ e in
        let same : d ≡ own = cc in
        sym (ap (λ (x : Declaration). x.name) same) ∙ equal-name d.name name s
    step false s rest = rest (sym (ap (λ c. cond c (d ∷ of_name name ds) (of_name name ds)) s) ∙ e)
