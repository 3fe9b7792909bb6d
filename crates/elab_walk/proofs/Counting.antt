-- Counts of parts that stand behind others.
use Rattle.std.proofs.Common.{◌≡◌, ℕ, zero, suc, ◌+◌, ◌-◌, ◌<◌, ◌≤◌, List, [], ◌∷◌, ◌++◌, take, drop, get_or, length, refl, sym, ap, subst, ◌∙◌, append_assoc, arith}
use Rattle.std.proofs.Math.Seq.{drop-append_seam}
use Rattle.std.proofs.lemmas.List.{take_more, take_all, map_push, length-map, length-append, length-drop}
use Rattle.v_elab.specs.Parts as plain
use Rattle.elab_parts.specs.PartViews.{part_of, parts_of}
use Rattle.elab_parts.specs.declared.part.Part.{Part}
use Rattle.elab_walk.specs.CountViews.{AreCounts}
use Rattle.elab_walk.specs.declared.counts.Counts.{Counts}

-- one part more
pub parts-taken : (parts : List Part) (i : ℕ) (part : Part) → i < length parts → part ≡ get_or parts i part → parts_of (take (i + 1) parts) ≡ parts_of (take i parts) ++ part_of part ∷ []
parts-taken parts i part below at = ap parts_of (take_more parts i part below) ∙ (map_push part_of (take i parts) (get_or parts i part) ∙ ap (λ p. parts_of (take i parts) ++ part_of p ∷ []) (sym at))

pub counted-more : (before : List plain.Part) (parts : List Part) (i : ℕ) (part : Part) (counts : Counts) → i < length parts → part ≡ get_or parts i part →
    AreCounts ((before ++ parts_of (take i parts)) ++ part_of part ∷ []) counts → AreCounts (before ++ parts_of (take (i + 1) parts)) counts
counted-more before parts i part counts below at counted =
    subst (λ (all : List plain.Part). AreCounts all counts) (append_assoc before (parts_of (take i parts)) (part_of part ∷ [])
    ∙ ap (λ (ps : List plain.Part). before ++ ps) (sym (parts-taken parts i part below at))) counted

-- the parts behind those that stand in front
drop-parts : (parts : List Part) (n : ℕ) → drop n (parts_of parts) ≡ parts_of (drop n parts)
drop-parts [] zero = refl
drop-parts [] (suc n) = refl
drop-parts (p ∷ parts) zero = refl
drop-parts (p ∷ parts) (suc n) = drop-parts parts n

pub front-within : (front more : List plain.Part) (parts : List Part) → parts_of parts ≡ front ++ more → length front ≤ length parts
front-within front more parts e = omega (arith, length-map parts part_of, ap length e, length-append front more)

rest-whole : (parts : List Part) (n : ℕ) → take (length parts - n) (drop n parts) ≡ drop n parts
rest-whole parts n = take_all (length parts - n) (drop n parts) (omega (arith, length-drop n parts))

pub counted-behind : (before front more : List plain.Part) (parts slice : List Part) (from : ℕ) (counts : Counts) → slice ≡ parts → parts_of parts ≡ front ++ more → from ≡ length front
    → AreCounts (before ++ parts_of (take (length slice - from) (drop from slice))) counts → AreCounts (before ++ more) counts
counted-behind before front more parts slice from counts same pushed at counted =
    subst (λ (ps : List plain.Part). AreCounts (before ++ ps) counts)
    (ap parts_of (rest-whole slice from) ∙ ap (λ (ps : List Part). parts_of (drop from ps)) same ∙ ap (λ (n : ℕ). parts_of (drop n parts)) at ∙ sym (drop-parts parts (length front))
    ∙ ap (drop (length front)) pushed ∙ drop-append_seam front more) counted
