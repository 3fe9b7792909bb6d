-- The first listed faults of their classes.
use Rattle.std.proofs.Common.{◌≡◌, ℕ, zero, suc, ◌-◌, ◌<◌, ◌≤◌, List, [], ◌∷◌, length, take, get_or, map, Contains, arith, sym, ap, subst, ◌∙◌, ⊎_elim, refl, length-take-le}
use Rattle.std.proofs.lemmas.List.{length-map}
use Rattle.std.specs.Prelude.{Some, slice_get}
use Rattle.std.proofs.lemmas.Bool.{cases_lt}
use Rattle.std.proofs.lemmas.Option.{same_Some, slice_get_within, get_or_from_slice_get}
use Rattle.vf_base.specs.Base.{fault_number}
use Rattle.vf_base.specs.declared.ids.FaultId.{FaultId}
use Rattle.v_design.specs.Designs.{FlatDesign, StuckAt}
use Rattle.v_design.specs.Plain.{fault_of}
use Rattle.v_design.specs.declared.plan.Fault.{Fault}
use Rattle.fault_list.specs.Listed.{stuck}
use Rattle.v_design.specs.Sites.{AreOneClass, same_fault, joined_by}
use Rattle.fault_list.specs.Classes.{AreClasses}
use Rattle.fault_shards.specs.Representatives.{IsRepresentative, AreRepresentatives, StandForThemselves}

pub element-at : {A : Type 0} (xs : List A) (k : ℕ) → k < length xs → (x : A) × (slice_get xs k ≡ Some x)
element-at [] k h = absurd (omega (arith, h))
element-at (x ∷ xs) zero h = (x, refl)
element-at (x ∷ xs) (suc k) h = element-at xs k (omega (arith, h))

slice_get-take : {A : Type 0} (n : ℕ) (xs : List A) (k : ℕ) → k < n → slice_get (take n xs) k ≡ slice_get xs k
slice_get-take zero xs k h = absurd (omega (arith, h))
slice_get-take (suc n) [] k h = refl
slice_get-take (suc n) (x ∷ xs) zero h = refl
slice_get-take (suc n) (x ∷ xs) (suc k) h = slice_get-take n xs k (omega (arith, h))

-- each listed fault has a place
places-enough : (design : FlatDesign) (faults : List StuckAt) (places : List ℕ) → AreClasses design faults places → length faults ≤ length places
places-enough design faults places classes =
    ⊎_elim (λ (some : 0 < length faults).
    let last = element-at faults (length faults - 1) (omega (arith, some)) in
    let c = classes (length faults - 1) last.0 last.1 in
    let within : length faults - 1 < length places = slice_get_within places (length faults - 1) c.0 c.1 in
    omega (arith, within, some))
    (λ (none : length faults ≤ 0). omega (arith, none)) (cases_lt 0 (length faults))

-- places past the last fault say nothing
pub classes-taken : (design : FlatDesign) (faults : List StuckAt) (places : List ℕ) (count : ℕ) → count ≡ length faults → AreClasses design faults places → AreClasses design faults (take count places)
classes-taken design faults places count same classes number fault at =
    let c = classes number fault at in
    let below : number < length faults = slice_get_within faults number fault at in
    (c.0, slice_get-take count places number (omega (arith, below, same)) ∙ c.1, c.2, c.3)

-- the place of a fault's class is of a listed fault
pub place-within : (design : FlatDesign) (faults : List StuckAt) (places : List ℕ) → length places ≡ length faults → AreClasses design faults places → (k : ℕ) → k < length places →
    get_or places k 0 < length places
place-within design faults places same classes k below =
    let f = element-at faults k (omega (arith, below, same)) in
    let c = classes k f.0 f.1 in
    let is : get_or places k 0 ≡ c.0 = get_or_from_slice_get places k c.0 0 c.1 in
    let least : c.0 ≤ k = c.2 in
    omega (arith, below, is, least)

-- the faults that stand for themselves are the representatives
pub own-represent : (design : FlatDesign) (faults : List StuckAt) (standing own : List ℕ) → length standing ≡ length faults → AreClasses design faults standing → StandForThemselves standing own →
    AreRepresentatives design faults own
own-represent design faults standing own same classes h = record { ascend = h.ascend; each = λ number. (there number, back number) }
  where
    there : (number : ℕ) → Contains own number → IsRepresentative design faults number
    there number c =
        let itself : slice_get standing number ≡ Some number = (h.each number).0 c in
        let within : number < length standing = slice_get_within standing number number itself in
        let f = element-at faults number (omega (arith, within, same)) in
        let class = classes number f.0 f.1 in
        let place : class.0 ≡ number = same_Some class.0 number (sym class.1 ∙ itself) in
        record { fault = f.0; listed = f.1; least = λ earlier other lt at alike. class.3.least earlier other (omega (arith, lt, place)) at alike }

    back : (number : ℕ) → IsRepresentative design faults number → Contains own number
    back number r =
        let class = classes number r.fault r.listed in
        let up : class.0 ≤ number = class.2 in
        let place : class.0 ≡ number = ⊎_elim (λ (lt : class.0 < number). absurd (r.least class.0 class.3.first lt class.3.stands class.3.alike)) (λ (ge : number ≤ class.0). omega (arith, up, ge))
        (cases_lt class.0 number) in
        (h.each number).1 (class.1 ∙ ap (λ (n : ℕ). Some n) place)

-- what is of one class with a second, which is of one class with a third, is so with the third
pub class-chain : (design : FlatDesign) (one other last : StuckAt) → AreOneClass design one other → AreOneClass design other last → AreOneClass design one last
class-chain design one other last (same_fault fault) more = more
class-chain design one other last (joined_by first next end pair chain) more = joined_by first next last pair (class-chain design next end last chain more)

-- the place of a fault's class is that of a representative
pub place-represents : (design : FlatDesign) (faults : List StuckAt) (places : List ℕ) → AreClasses design faults places → (number : ℕ) (fault : StuckAt) (place : ℕ) →
    slice_get faults number ≡ Some fault → slice_get places number ≡ Some place →
    (r : IsRepresentative design faults place) × AreOneClass design r.fault fault
place-represents design faults places classes number fault place at stands =
    let c = classes number fault at in
    let same : c.0 ≡ place = same_Some c.0 place (sym c.1 ∙ stands) in
    let P : ℕ → Type 0 = λ (p : ℕ). (r : IsRepresentative design faults p) × AreOneClass design r.fault fault in
    let here : P c.0 = (
      record {
        fault = c.3.first;
        listed = c.3.stands;
        least = λ earlier other lt there alike.
            c.3.least earlier other lt there (class-chain design other c.3.first fault alike c.3.alike);
      },
      c.3.alike,
    ) in
    subst P same here

-- The code's lists

-- what the lists of some shards are
pub record IsCut (design : FlatDesign) (faults : List StuckAt) (standing own : List ℕ) : Type 0 where
  pub representatives : AreRepresentatives design faults own
  pub classes : AreClasses design faults standing
  pub counted : length standing ≡ length faults

-- so many places as there are faults
pub standing-count : (design : FlatDesign) (faults : List Fault) (places : List ℕ) (standing : List FaultId) → AreClasses design (stuck faults) places →
    map fault_number standing ≡ take (length faults) places → length standing ≡ length faults
standing-count design faults places standing classes taken =
    let enough : length (stuck faults) ≤ length places = places-enough design (stuck faults) places classes in
    let size : length (stuck faults) ≡ length faults = length-map faults fault_of in
    sym (length-map standing fault_number) ∙ ap length taken ∙ length-take-le (length faults) places (omega (arith, enough, size))

pub cut-made : (design : FlatDesign) (faults : List Fault) (places : List ℕ) (standing seen own : List FaultId) → AreClasses design (stuck faults) places →
    map fault_number standing ≡ take (length faults) places → seen ≡ standing →
    StandForThemselves (map fault_number seen) (map fault_number own) → IsCut design (stuck faults) (map fault_number standing) (map fault_number own)
cut-made design faults places standing seen own classes taken same own_stand =
    let size : length (stuck faults) ≡ length faults = length-map faults fault_of in
    let counted : length (map fault_number standing) ≡ length (stuck faults) = length-map standing fault_number ∙ standing-count design faults places standing classes taken ∙ sym size in
    let P : List ℕ → Type 0 = λ (l : List ℕ). AreClasses design (stuck faults) l in
    let stand : P (map fault_number standing) = subst P (sym taken) (classes-taken design (stuck faults) places (length faults) (sym size) classes) in
    let Q : List FaultId → Type 0 = λ (l : List FaultId). StandForThemselves (map fault_number l) (map fault_number own) in
    let itself : Q standing = subst Q same own_stand in
    record { representatives = own-represent design (stuck faults) (map fault_number standing) (map fault_number own) counted stand itself; classes = stand; counted = counted }

-- each place is of a listed fault
pub cut-within : (design : FlatDesign) (faults : List StuckAt) (standing : List FaultId) (own : List ℕ) → IsCut design faults (map fault_number standing) own → (k : ℕ) → k < length standing →
    get_or (map fault_number standing) k 0 < length standing
cut-within design faults standing own cut k below =
    let size : length (map fault_number standing) ≡ length standing = length-map standing fault_number in
    let place : get_or (map fault_number standing) k 0 < length (map fault_number standing) =
    place-within design faults (map fault_number standing) cut.counted cut.classes k (omega (arith, below, size)) in
    omega (arith, place, size)
