-- The parts of an access's text.
use Rattle.std.proofs.Common.{◌≡◌, ℕ, List, [], ◌∷◌, ◌++◌, false, append_assoc, sym, ◌∙◌}
use Rattle.std.specs.Fmt.{decimal}
use Rattle.std.specs.Str.{bytes_eq}
use Rattle.std.proofs.lemmas.Bool.{false_from_ne_true}
use Rattle.std.proofs.lemmas.Slice.Eq.{bytes_eq-Decides}
use Rattle.vf_base.specs.Base.{ReportedAccess}
use Rattle.v_design.specs.Designs.{FlatDesign}
use Rattle.grade_report.specs.Objects.{object_text}
use Rattle.grade_report.specs.Report.{kind_text, counted, access_text}
use Rattle.claimed_race.specs.Tails.{tail_text}

-- the text of an access is its head, its object and its tail
parts-as : (kind object process line : List ℕ) →
    ((((kind ++ 32 ∷ []) ++ object) ++ 32 ∷ 112 ∷ process) ++ 32 ∷ 108 ∷ line) ≡ (kind ++ 32 ∷ []) ++ (object ++ (((32 ∷ 112 ∷ process) ++ 32 ∷ 108 ∷ []) ++ line))
parts-as kind object process line = simp append_assoc

access-parts : (design : FlatDesign) (access : ReportedAccess) →
    access_text design access ≡ (kind_text access.kind ++ 32 ∷ []) ++ (object_text design access.object ++ tail_text access.process access.line)
unfolding counted
access-parts design access = parts-as (kind_text access.kind) (object_text design access.object) (decimal access.process) (decimal access.line)

-- a text that has no such parts is that of no access
pub prints-not : (design : FlatDesign) (access : ReportedAccess) (text : List ℕ) →
    ((object : List ℕ) → text ≡ (kind_text access.kind ++ 32 ∷ []) ++ (object ++ tail_text access.process access.line) → ⊥) → false ≡ bytes_eq (access_text design access) text
prints-not design access text none =
    sym (false_from_ne_true (bytes_eq (access_text design access) text)
    (λ e. none (object_text design access.object) (sym ((bytes_eq-Decides (access_text design access) text).0 e) ∙ access-parts design access)))
