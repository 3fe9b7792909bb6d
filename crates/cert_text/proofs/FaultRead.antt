-- The line of a fault, as it is read.
use Rattle.std.proofs.Common.{◌≡◌, ℕ, zero, suc, ◌≤◌, ◌<◌, ◌&&◌, List, [], ◌∷◌, Bool, true, false, Some, None, length, refl, sym, ◌∙◌, ap, arith, lit<}
use Rattle.std.specs.Prelude.{slice_get, is_some}
use Rattle.std.specs.List.{list_any, slice_split, AllByRecursion}
use Rattle.std.specs.Fmt.{decimal}
use Rattle.std.specs.Str.{bytes_eq}
use Rattle.std.proofs.lemmas.Bool.{and_from, or_left, or_right, cond-true, lt-ltb, ne_eqb}
use Rattle.std.proofs.lemmas.Option.{none-some, same_Some}
use Rattle.std.proofs.lemmas.Slice.Eq.{bytes_eq-Decides}
use Rattle.std.proofs.lemmas.List.Splits.{slice_split_at, slice_split_none}
use Rattle.std.proofs.lemmas.List.Elements.{All-from_recursion}
use Rattle.vf_base.specs.Base.{ReportedAccess, ReportedPair}
use Rattle.vf_base.specs.declared.finding.Side.{Side}
use Rattle.vf_base.specs.declared.finding.Side.TheVariants.{Good, Faulty}
use Rattle.vf_base.specs.declared.finding.AccessKind.{AccessKind}
use Rattle.vf_base.specs.declared.finding.AccessKind.TheVariants.{Read, Write, Await, Ended, Held, Settle}
use Rattle.vf_base.specs.Lists.{AllHold}
use Rattle.v_design.specs.Designs.{FlatObject, FlatDesign, StuckAt, FaultSite}
use Rattle.v_design.specs.Sites.{site_name}
use Rattle.v_design.specs.Grades.{Detected, Possible, Undetected, FaultGrade, Judged, Raced, Looped}
use Rattle.v_design.specs.WellFormed.{KeepsRules}
use Rattle.fault_list.specs.Spelled.{site_spelled}
use Rattle.grade_report.specs.Objects.{text_by_kind, text_if, object_text}
use Rattle.grade_report.specs.Report.{kind_text, access_text}
use Rattle.cert_laws.specs.Claims.{Claim, Races, is_dot, most_short, most_long, number_within, both_of, moment_by, moment_of, is_kind, is_object, is_below, spaced, access_of, side_of}
use Rattle.cert_laws.specs.Claims.{race_by, race_of_side, timed, claim_by, value_of_word, named_site, fault_by, claims_by, line_claims, claim_of}
use Rattle.cert_laws.specs.Written.{claim_as}
use Rattle.cert_text.specs.Readable.{IsAccessOf, IsGradeOf}
use Rattle.cert_text.specs.Fits.{PairFits, GradeFits}
use Rattle.cert_text.proofs.Numbers.{number-spelled}
use Rattle.cert_text.proofs.Digits.{decimal-all}
use Rattle.cert_text.proofs.Worded.{in_words, parts-words}
use Rattle.cert_text.proofs.CertWords.{long-spelled}
use Rattle.cert_text.proofs.FaultWords.{side_word, moment_word, claim_words, value_word, fault_words, access-text, fault-are}

same-text : (word : List ℕ) → bytes_eq word word ≡ true
same-text word = (bytes_eq-Decides word word).1 refl

-- a number of 32 bits
short-spelled : (number : ℕ) → number ≤ most_short → number_within most_short (decimal number) ≡ Some number
short-spelled number h = number-spelled most_short number (lit< tt) h

-- A moment

no-dot : (bytes : List ℕ) → AllHold (λ (b : ℕ). is_dot b ≡ false) bytes → AllByRecursion (λ b. is_dot b ≡ false) bytes
no-dot [] h = tt
no-dot (b ∷ bs) h = (h.0, no-dot bs h.1)

decimal-no_dot : (n : ℕ) → AllByRecursion (λ b. is_dot b ≡ false) (decimal n)
decimal-no_dot n = no-dot (decimal n) (decimal-all (λ (b : ℕ). is_dot b ≡ false) (λ b high. ne_eqb b 46 (λ e. omega arith)) n)

moment-parts : (time phase : ℕ) → slice_split is_dot (moment_word time phase) ≡ decimal time ∷ decimal phase ∷ []
moment-parts time phase =
    slice_split_at is_dot (decimal time) 46 (decimal phase) (All-from_recursion (λ b. is_dot b ≡ false) (decimal time) (decimal-no_dot time)) refl
    ∙ ap (λ l. decimal time ∷ l) (slice_split_none is_dot (decimal phase) (All-from_recursion (λ b. is_dot b ≡ false) (decimal phase) (decimal-no_dot phase)))

moment-read : (time phase : ℕ) → time ≤ most_long → phase ≤ most_short → moment_of (moment_word time phase) ≡ Some (time, phase)
moment-read time phase few less =
    ap moment_by (moment-parts time phase)
    ∙ (ap (λ t. both_of t (number_within most_short (decimal phase))) (long-spelled time few) ∙ ap (both_of (Some time)) (short-spelled phase less))

-- An access

kind-read : (kind : AccessKind) → is_kind (kind_text kind) ≡ true
kind-read Read = refl
kind-read Write = refl
kind-read Await = refl
kind-read Ended = refl
kind-read Held = refl
kind-read Settle = refl

any-there : {A : Type 0} (test : A → Bool) (xs : List A) (place : ℕ) (x : A) → slice_get xs place ≡ Some x → test x ≡ true → list_any test xs ≡ true
any-there test [] place x there is = absurd (none-some x there)
any-there test (y ∷ ys) zero x there is = or_left (test y) (list_any test ys) (ap test (same_Some y x there) ∙ is)
any-there test (y ∷ ys) (suc place) x there is = or_right (test y) (list_any test ys) (any-there test ys place x there is)

found-at : {A : Type 0} (xs : List A) (place : ℕ) → place < length xs → (x : A) × (slice_get xs place ≡ Some x)
found-at [] place h = absurd (omega arith)
found-at (x ∷ xs) zero h = (x, refl)
found-at (x ∷ xs) (suc place) h = found-at xs place (omega arith)

object-read : (design : FlatDesign) (object : ℕ) → object < length design.objects → is_object design (object_text design object) ≡ true
object-read design object h =
    let found = found-at design.objects object h in
    let text : object_text design object ≡ text_by_kind design found.0 found.0.kind = ap (text_if design) found.1 in
    any-there (λ (o : FlatObject). bytes_eq (object_text design object) (text_by_kind design o o.kind)) design.objects object found.0 found.1
    (ap (bytes_eq (object_text design object)) (sym text) ∙ same-text (object_text design object))

access-read : (design : FlatDesign) (access : ReportedAccess) → KeepsRules design → IsAccessOf design access → access.line ≤ most_short →
    access_of design (kind_text access.kind) (object_text design access.object) (112 ∷ decimal access.process) (108 ∷ decimal access.line) ≡ Some (access_text design access)
access-read design access k h line_fits =
    let words = spaced (kind_text access.kind) (spaced (object_text design access.object) (spaced (112 ∷ decimal access.process) (108 ∷ decimal access.line))) in
    let few : access.process ≤ most_short = omega (arith, h.process, k.few_processes) in
    let below : is_below (length design.processes) (number_within most_short (decimal access.process)) ≡ true =
    ap (is_below (length design.processes)) (short-spelled access.process few) ∙ lt-ltb access.process (length design.processes) h.process in
    let some : is_some (number_within most_short (decimal access.line)) ≡ true = ap is_some (short-spelled access.line line_fits) in
    cond-true (is_kind (kind_text access.kind) && is_object design (object_text design access.object)
    && is_below (length design.processes) (number_within most_short (decimal access.process)) && is_some (number_within most_short (decimal access.line))) (Some words) None
    (and_from (is_kind (kind_text access.kind) && is_object design (object_text design access.object) && is_below (length design.processes) (number_within most_short (decimal access.process)))
    (is_some (number_within most_short (decimal access.line)))
    (and_from (is_kind (kind_text access.kind) && is_object design (object_text design access.object)) (is_below (length design.processes) (number_within most_short (decimal access.process)))
    (and_from (is_kind (kind_text access.kind)) (is_object design (object_text design access.object)) (kind-read access.kind) (object-read design access.object h.object)) below) some)
    ∙ ap Some (sym (access-text design access))

-- A claim

side-read : (side : Side) → side_of (side_word side) ≡ Some side
side-read Good = refl
side-read Faulty = refl

race-read : (design : FlatDesign) (side : Side) (pair : ReportedPair) → KeepsRules design → IsGradeOf design (Raced side pair) → PairFits pair →
    claim_by design (claim_words design (Raced side pair)) ≡ Some (Races side pair.time pair.phase (access_text design pair.first) (access_text design pair.second))
race-read design side pair k of h =
    let first = access_of design (kind_text pair.first.kind) (object_text design pair.first.object) (112 ∷ decimal pair.first.process) (108 ∷ decimal pair.first.line) in
    let second = access_of design (kind_text pair.second.kind) (object_text design pair.second.object) (112 ∷ decimal pair.second.process) (108 ∷ decimal pair.second.line) in
    ap (λ s. race_of_side s (moment_of (moment_word pair.time pair.phase)) first second) (side-read side)
    ∙ (ap (λ m. race_by side m first second) (moment-read pair.time pair.phase h.time h.phase)
    ∙ (ap (λ a. race_by side (Some (pair.time, pair.phase)) a second) (access-read design pair.first k of.0 h.first)
    ∙ ap (race_by side (Some (pair.time, pair.phase)) (Some (access_text design pair.first))) (access-read design pair.second k of.1 h.second)))

claim-read : (design : FlatDesign) (line : FaultGrade) → KeepsRules design → IsGradeOf design line → GradeFits line → claim_by design (claim_words design line) ≡ claim_as design line
claim-read design (Judged (Detected time)) k of h = ap (timed Detected) (long-spelled time h)
claim-read design (Judged (Possible time)) k of h = ap (timed Possible) (long-spelled time h)
claim-read design (Judged Undetected) k of h = refl
claim-read design (Raced side pair) k of h = race-read design side pair k of h
claim-read design (Looped time) k of h = refl

value-read : (value : Bool) → value_of_word (value_word value) ≡ Some value
value-read true = refl
value-read false = refl

site-read : (design : FlatDesign) (site : FaultSite) → site_spelled design (site_name design site) ≡ Some site →
    named_site design (site_name design site) (site_spelled design (site_name design site)) ≡ Some site
site-read design site spelled =
    ap (named_site design (site_name design site)) spelled
    ∙ cond-true (bytes_eq (site_name design site) (site_name design site)) (Some site) None (same-text (site_name design site))

-- the line of a fault is read as that fault with its claim
pub fault-read : (design : FlatDesign) (fault : StuckAt) (line : FaultGrade) (claim : Claim) → KeepsRules design → site_spelled design (site_name design fault.site) ≡ Some fault.site →
    IsGradeOf design line → GradeFits line → claim_as design line ≡ Some claim → claim_of design (in_words (fault_words design fault line)) ≡ Some (fault, claim)
fault-read design fault line claim k spelled of h as_claim =
    ap (line_claims design) (parts-words (site_name design fault.site) (value_word fault.value ∷ claim_words design line) (fault-are design fault line k))
    ∙ (ap (λ s. claims_by (fault_by s (value_of_word (value_word fault.value))) (claim_by design (claim_words design line))) (site-read design fault.site spelled)
    ∙ (ap (λ v. claims_by (fault_by (Some fault.site) v) (claim_by design (claim_words design line))) (value-read fault.value)
    ∙ ap (claims_by (Some fault)) (claim-read design line k of h ∙ as_claim)))
