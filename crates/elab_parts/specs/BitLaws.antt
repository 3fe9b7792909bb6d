-- The bits of the run that a select drives.
use Rattle.std.proofs.Common.{◌≡◌, ℕ, zero, suc, ◌+◌, Bool, true, false, not, List, [], ◌∷◌, ◌++◌, map, replicate, Option, Some, None, refl, sym, ap, ◌∙◌, append-nil, arith}
use Rattle.v_design.specs.Expressions.{up_from}
use Rattle.v_names.specs.Readings.{is_empty}
use Rattle.v_elab.specs.Drivers.{bits_within, drives_some}
use Rattle.elab_parts.specs.PartViews.{places_of, drive_of}
use Rattle.elab_parts.specs.declared.bits.DrivenBits.{DrivenBits}
use Rattle.elab_parts.specs.declared.part.Drive.{Drive}

outside : (n : ℕ) (places : List (Option ℕ)) → bits_within (replicate n None ++ places) ≡ bits_within places
outside zero places = refl
outside (suc n) places = outside n places

inside : (bits : List ℕ) (places : List (Option ℕ)) → bits_within (map Some bits ++ places) ≡ bits ++ bits_within places
inside [] places = refl
inside (bit ∷ bits) places = ap (λ rest. bit ∷ rest) (inside bits places)

pub bits-driven : (b : DrivenBits) → bits_within (places_of b) ≡ up_from b.low b.width
bits-driven b =
    outside b.outside_below (map Some (up_from b.low b.width) ++ replicate b.outside_above None)
    ∙ inside (up_from b.low b.width) (replicate b.outside_above None)
    ∙ ap (λ rest. up_from b.low b.width ++ rest) (ap bits_within (sym (append-nil (replicate b.outside_above None))) ∙ outside b.outside_above [])
    ∙ append-nil (up_from b.low b.width)

none-of : (start width : ℕ) → width ≡ 0 → not (is_empty (up_from start width)) ≡ false
none-of start zero e = refl
none-of start (suc width) e = absurd (omega arith)

some-of : (start width : ℕ) → (width ≡ 0 → ⊥) → not (is_empty (up_from start width)) ≡ true
some-of start zero e = absurd (e refl)
some-of start (suc width) e = refl

pub drives-none : (d : Drive) → d.bits.width ≡ 0 → drives_some (drive_of d) ≡ false
drives-none d e = ap (λ bits. not (is_empty bits)) (bits-driven d.bits) ∙ none-of d.bits.low d.bits.width e

pub drives-bits : (d : Drive) → (d.bits.width ≡ 0 → ⊥) → drives_some (drive_of d) ≡ true
drives-bits d e = ap (λ bits. not (is_empty bits)) (bits-driven d.bits) ∙ some-of d.bits.low d.bits.width e
