-- The line of a fault as words.
use Rattle.std.proofs.Common.{◌≡◌, ℕ, ◌<◌, List, [], ◌∷◌, ◌++◌, Bool, true, false, length, codes, refl, ◌∙◌, ap, append_assoc, arith}
use Rattle.std.specs.Fmt.{decimal}
use Rattle.vf_base.specs.Base.{ReportedAccess}
use Rattle.vf_base.specs.declared.finding.Side.{Side}
use Rattle.vf_base.specs.declared.finding.Side.TheVariants.{Good, Faulty}
use Rattle.vf_base.specs.declared.finding.AccessKind.{AccessKind}
use Rattle.vf_base.specs.declared.finding.AccessKind.TheVariants.{Read, Write, Await, Ended, Held, Settle}
use Rattle.v_design.specs.Designs.{FlatDesign, StuckAt}
use Rattle.v_design.specs.Sites.{site_name}
use Rattle.v_design.specs.Grades.{Detected, Possible, Undetected, FaultGrade, Judged, Raced, Looped}
use Rattle.v_design.specs.WellFormed.{ends_word, IsOneWord, KeepsRules}
use Rattle.grade_report.specs.Objects.{object_text}
use Rattle.grade_report.specs.Report.{kind_text, counted, access_text, side_text, held_text, grade_text, fault_line}
use Rattle.cert_laws.specs.Claims.{spaced}
use Rattle.cert_text.proofs.Digits.{decimal-word, closed-word, word-append, object_text-word, site-word}
use Rattle.cert_text.proofs.Worded.{in_words, AreWords, ended}

-- the words of an access
abbrev pub access_words : FlatDesign → ReportedAccess → List (List ℕ)
access_words design access = kind_text access.kind ∷ object_text design access.object ∷ (112 ∷ decimal access.process) ∷ (108 ∷ decimal access.line) ∷ []

abbrev pub side_word : Side → List ℕ
side_word Good = codes "good"
side_word Faulty = codes "faulty"

-- a time and a phase
abbrev pub moment_word : ℕ → ℕ → List ℕ
moment_word time phase = decimal time ++ 46 ∷ decimal phase

-- the words of a grade
abbrev pub claim_words : FlatDesign → FaultGrade → List (List ℕ)
claim_words design (Judged (Detected time)) = codes "detected" ∷ decimal time ∷ []
claim_words design (Judged (Possible time)) = codes "possible" ∷ decimal time ∷ []
claim_words design (Judged Undetected) = codes "undetected" ∷ []
claim_words design (Raced side pair) = codes "race" ∷ side_word side ∷ moment_word pair.time pair.phase ∷ (access_words design pair.first ++ access_words design pair.second)
claim_words design (Looped time) = codes "hyper" ∷ decimal time ∷ []

abbrev pub value_word : Bool → List ℕ
value_word false = codes "sa0"
value_word true = codes "sa1"

-- the words of the line of a fault
abbrev pub fault_words : FlatDesign → StuckAt → FaultGrade → List (List ℕ)
fault_words design fault line = site_name design fault.site ∷ value_word fault.value ∷ claim_words design line

-- As they are written

-- an access
access-as : (k o p l : List ℕ) → ((((k ++ 32 ∷ []) ++ o) ++ 32 ∷ 112 ∷ p) ++ 32 ∷ 108 ∷ l) ≡ spaced k (spaced o (spaced (112 ∷ p) (108 ∷ l)))
access-as k o p l = simp append_assoc

pub access-text : (design : FlatDesign) (access : ReportedAccess) → access_text design access ≡ in_words (access_words design access)
unfolding counted
access-text design access = access-as (kind_text access.kind) (object_text design access.object) (decimal access.process) (decimal access.line)

-- two accesses behind a side and a moment
race-as : (s t n a b : List ℕ) → ((((((s ++ 32 ∷ t) ++ 46 ∷ n) ++ 32 ∷ []) ++ a) ++ 32 ∷ []) ++ b) ≡ spaced s (spaced (t ++ 46 ∷ n) (spaced a b))
race-as s t n a b =
    append_assoc ((((s ++ 32 ∷ t) ++ 46 ∷ n) ++ 32 ∷ []) ++ a) (32 ∷ []) b
    ∙ (ap (λ l. l ++ 32 ∷ b) (append_assoc ((s ++ 32 ∷ t) ++ 46 ∷ n) (32 ∷ []) a)
    ∙ (ap (λ l. (l ++ 32 ∷ a) ++ 32 ∷ b) (append_assoc s (32 ∷ t) (46 ∷ n))
    ∙ (ap (λ l. l ++ 32 ∷ b) (append_assoc s (32 ∷ (t ++ 46 ∷ n)) (32 ∷ a))
    ∙ (append_assoc s (32 ∷ ((t ++ 46 ∷ n) ++ 32 ∷ a)) (32 ∷ b) ∙ ap (spaced s) (append_assoc (t ++ 46 ∷ n) (32 ∷ a) (32 ∷ b))))))

four-behind : (k o p l rest : List ℕ) → spaced k (spaced o (spaced p l)) ++ rest ≡ spaced k (spaced o (spaced p (l ++ rest)))
four-behind k o p l rest =
    append_assoc k (32 ∷ spaced o (spaced p l)) rest
    ∙ ap (spaced k) (append_assoc o (32 ∷ spaced p l) rest ∙ ap (spaced o) (append_assoc p (32 ∷ l) rest))

accesses-as : (design : FlatDesign) (first second : ReportedAccess) →
    spaced (access_text design first) (access_text design second) ≡ in_words (access_words design first ++ access_words design second)
accesses-as design first second =
    ap (λ a. spaced a (access_text design second)) (access-text design first)
    ∙ (ap (spaced (in_words (access_words design first))) (access-text design second)
    ∙ four-behind (kind_text first.kind) (object_text design first.object) (112 ∷ decimal first.process) (108 ∷ decimal first.line) (32 ∷ in_words (access_words design second)))

side-as : (side : Side) (rest : List ℕ) → spaced (side_text side) rest ≡ 32 ∷ spaced (codes "race") (spaced (side_word side) rest)
side-as Good rest = refl
side-as Faulty rest = refl

grade-as : (design : FlatDesign) (line : FaultGrade) → grade_text design line ≡ 32 ∷ in_words (claim_words design line)
unfolding counted
grade-as design (Judged (Detected time)) = refl
grade-as design (Judged (Possible time)) = refl
grade-as design (Judged Undetected) = refl
grade-as design (Raced side pair) =
    race-as (side_text side) (decimal pair.time) (decimal pair.phase) (access_text design pair.first) (access_text design pair.second)
    ∙ (ap (λ l. spaced (side_text side) (spaced (moment_word pair.time pair.phase) l)) (accesses-as design pair.first pair.second)
    ∙ side-as side (spaced (moment_word pair.time pair.phase) (in_words (access_words design pair.first ++ access_words design pair.second))))
grade-as design (Looped time) = refl

held-as : (value : Bool) → held_text value ≡ 32 ∷ value_word value
held-as true = refl
held-as false = refl

words-more : (site value : List ℕ) (words : List (List ℕ)) → 0 < length words → (site ++ 32 ∷ value) ++ 32 ∷ in_words words ≡ in_words (site ∷ value ∷ words)
words-more site value [] some = absurd (omega arith)
words-more site value (word ∷ words) some = append_assoc site (32 ∷ value) (32 ∷ in_words (word ∷ words))

words-some : (design : FlatDesign) (line : FaultGrade) → 0 < length (claim_words design line)
words-some design (Judged (Detected time)) = omega arith
words-some design (Judged (Possible time)) = omega arith
words-some design (Judged Undetected) = omega arith
words-some design (Raced side pair) = omega arith
words-some design (Looped time) = omega arith

-- the line of a fault
pub fault-text : (design : FlatDesign) (fault : StuckAt) (line : FaultGrade) → fault_line design fault line ≡ ended (fault_words design fault line)
unfolding fault_line
fault-text design fault line =
    ap (λ h. ((site_name design fault.site ++ h) ++ grade_text design line) ++ 10 ∷ []) (held-as fault.value)
    ∙ (ap (λ g. ((site_name design fault.site ++ 32 ∷ value_word fault.value) ++ g) ++ 10 ∷ []) (grade-as design line)
    ∙ ap (λ l. l ++ 10 ∷ []) (words-more (site_name design fault.site) (value_word fault.value) (claim_words design line) (words-some design line)))

pub kind-is_word : (kind : AccessKind) → IsOneWord (kind_text kind)
kind-is_word Read = closed-word (codes "read") refl
kind-is_word Write = closed-word (codes "write") refl
kind-is_word Await = closed-word (codes "await") refl
kind-is_word Ended = closed-word (codes "ended") refl
kind-is_word Held = closed-word (codes "held") refl
kind-is_word Settle = closed-word (codes "settle") refl

side-is_word : (side : Side) → IsOneWord (side_word side)
side-is_word Good = closed-word (codes "good") refl
side-is_word Faulty = closed-word (codes "faulty") refl

value-is_word : (value : Bool) → IsOneWord (value_word value)
value-is_word true = closed-word (codes "sa1") refl
value-is_word false = closed-word (codes "sa0") refl

pub lettered-word : (letter n : ℕ) → ends_word letter ≡ false → IsOneWord (letter ∷ decimal n)
lettered-word letter n h = (h, decimal-word n)

moment-is_word : (time phase : ℕ) → IsOneWord (moment_word time phase)
moment-is_word time phase = word-append (decimal time) (46 ∷ decimal phase) (decimal-word time) (refl, decimal-word phase)

pub access-are : (design : FlatDesign) (access : ReportedAccess) → KeepsRules design → AreWords (access_words design access)
access-are design access k =
    (kind-is_word access.kind, (object_text-word design access.object k.words, (lettered-word 112 access.process refl, (lettered-word 108 access.line refl, tt))))

words-append : (one other : List (List ℕ)) → AreWords one → AreWords other → AreWords (one ++ other)
words-append [] other h k = k
words-append (word ∷ words) other h k = (h.0, words-append words other h.1 k)

claim-are : (design : FlatDesign) (line : FaultGrade) → KeepsRules design → AreWords (claim_words design line)
claim-are design (Judged (Detected time)) k = (closed-word (codes "detected") refl, (decimal-word time, tt))
claim-are design (Judged (Possible time)) k = (closed-word (codes "possible") refl, (decimal-word time, tt))
claim-are design (Judged Undetected) k = (closed-word (codes "undetected") refl, tt)
claim-are design (Raced side pair) k = (
  closed-word (codes "race") refl,
  (
    side-is_word side,
    (
      moment-is_word pair.time pair.phase,
      words-append (access_words design pair.first) (access_words design pair.second) (access-are design pair.first k) (access-are design pair.second k),
    ),
  ),
)
claim-are design (Looped time) k = (closed-word (codes "hyper") refl, (decimal-word time, tt))

-- they are words
pub fault-are : (design : FlatDesign) (fault : StuckAt) (line : FaultGrade) → KeepsRules design → AreWords (fault_words design fault line)
fault-are design fault line k = (site-word design fault.site k.words, (value-is_word fault.value, claim-are design line k))
