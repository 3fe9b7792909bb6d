-- A line that is read as a fault with a claim is the line of that fault with each end that claims it.
use Rattle.std.proofs.Common.{◌≡◌, ℕ, List, [], ◌∷◌, ◌++◌, length, Bool, true, false, ◌&&◌, Option, Some, None, codes, refl, sym, ap, ◌∙◌, append_assoc, cond}
use Rattle.std.specs.Prelude.{is_some}
use Rattle.std.specs.List.{slice_split, join_with_byte}
use Rattle.std.specs.Fmt.{decimal}
use Rattle.std.specs.Str.{bytes_eq}
use Rattle.std.proofs.lemmas.Option.{cond_some}
use Rattle.std.proofs.lemmas.Slice.Eq.{bytes_eq-Decides}
use Rattle.std.proofs.lemmas.List.Splits.{join_with_byte-slice_split}
use Rattle.vf_base.specs.declared.finding.Side.{Side}
use Rattle.vf_base.specs.declared.finding.Side.TheVariants.{Good, Faulty}
use Rattle.v_design.specs.Designs.{FlatDesign, FaultSite, StuckAt}
use Rattle.v_design.specs.Sites.{site_name}
use Rattle.v_design.specs.Grades.{Verdict, Detected, Possible, Undetected, FaultGrade, Judged, Raced, Looped}
use Rattle.grade_report.specs.Report.{counted, access_text, side_text, verdict_text, held_text, grade_text, fault_line}
use Rattle.fault_list.specs.Spelled.{site_spelled}
use Rattle.cert_laws.specs.Claims.{Claim, Says, Races, parts_of, number_within, most_long, most_short, both_of, is_dot, moment_by, moment_of, spaced}
use Rattle.cert_laws.specs.Claims.{access_of, is_kind, is_object, is_below, lettered}
use Rattle.cert_laws.specs.Claims.{side_of, race_of_side, timed, claim_by, value_of_word, named_site, fault_by, claims_by, line_claims, claim_of}
use Rattle.cert_laws.specs.Written.{claim_as}
use Rattle.cert_text.proofs.Numbers.{number-is}

same-bytes : (one other : List ℕ) → bytes_eq one other ≡ true → one ≡ other
same-bytes one other e = (bytes_eq-Decides one other).0 e

-- The parts of a claim

-- a time and a phase
abbrev moment_text : ℕ × ℕ → List ℕ
moment_text moment = decimal moment.0 ++ 46 ∷ decimal moment.1

both-parts : (time phase : List ℕ) (moment : ℕ × ℕ) (one other : Option ℕ) → number_within most_long time ≡ one → number_within most_short phase ≡ other → both_of one other ≡ Some moment →
    time ++ 46 ∷ phase ≡ moment_text moment
both-parts time phase moment None other a b e = cc
both-parts time phase moment (Some t) None a b e = cc
both-parts time phase moment (Some t) (Some p) a b e =
    let one : time ≡ decimal t = (number-is most_long time t a).text in
    let other : phase ≡ decimal p = (number-is most_short phase p b).text in
    let is : (t, p) ≡ moment = cc in
    (λ i. one i ++ 46 ∷ other i) ∙ ap moment_text is

moment-parts : (parts : List (List ℕ)) (moment : ℕ × ℕ) → moment_by parts ≡ Some moment → join_with_byte 46 parts ≡ moment_text moment
moment-parts [] moment e = cc
moment-parts (a ∷ []) moment e = cc
moment-parts (a ∷ b ∷ []) moment e = both-parts a b moment (number_within most_long a) (number_within most_short b) refl refl e
moment-parts (a ∷ b ∷ c ∷ more) moment e = cc

moment-is : (word : List ℕ) (moment : ℕ × ℕ) → moment_of word ≡ Some moment → word ≡ moment_text moment
moment-is word moment e = sym (join_with_byte-slice_split 46 word) ∙ moment-parts (slice_split is_dot word) moment e

-- the word of a side, behind a blank and `race`
side-is : (word : List ℕ) (side : Side) → side_of word ≡ Some side → 32 ∷ spaced (codes "race") word ≡ side_text side
side-is word side e = good (bytes_eq word (codes "good")) refl e
  where
    faulty : (b : Bool) → bytes_eq word (codes "faulty") ≡ b → cond b (Some Faulty) None ≡ Some side → 32 ∷ spaced (codes "race") word ≡ side_text side
    faulty true t e = let is : Faulty ≡ side = cc in ap (λ w. 32 ∷ spaced (codes "race") w) (same-bytes word (codes "faulty") t) ∙ ap side_text is
    faulty false t e = cc

    good : (b : Bool) → bytes_eq word (codes "good") ≡ b → cond b (Some Good) (cond (bytes_eq word (codes "faulty")) (Some Faulty) None) ≡ Some side →
        32 ∷ spaced (codes "race") word ≡ side_text side
    good true t e = let is : Good ≡ side = cc in ap (λ w. 32 ∷ spaced (codes "race") w) (same-bytes word (codes "good") t) ∙ ap side_text is
    good false t e = faulty (bytes_eq word (codes "faulty")) refl e

-- the words of an access
access-is : (design : FlatDesign) (k o p l text : List ℕ) → access_of design k o p l ≡ Some text → spaced k (spaced o (spaced p l)) ≡ text
access-is design k o p l text e =
    (cond_some (is_kind k && is_object design o && is_below (length design.processes) (lettered 112 most_short p) && is_some (lettered 108 most_short l)) (spaced k (spaced o (spaced p l))) text e).1

-- The claim

-- what stands behind the value of a fault whose line claims this
abbrev claim_text : Claim → List ℕ
claim_text (Says verdict) = verdict_text verdict
claim_text (Races side time phase first second) = spaced (side_text side) (spaced (moment_text (time, phase)) (spaced first second))

timed-is : (verdict : ℕ → Verdict) (word : List ℕ) (claim : Claim) (found : Option ℕ) → number_within most_long word ≡ found → timed verdict found ≡ Some claim →
    (time : ℕ) × (word ≡ decimal time) × (claim ≡ Says (verdict time))
timed-is verdict word claim None a e = cc
timed-is verdict word claim (Some time) a e = let is : Says (verdict time) ≡ claim = cc in (time, (number-is most_long word time a).text, sym is)

-- four words and those behind them
four-behind : (k o p l rest : List ℕ) → spaced k (spaced o (spaced p l)) ++ rest ≡ spaced k (spaced o (spaced p (l ++ rest)))
four-behind k o p l rest =
    append_assoc k (32 ∷ spaced o (spaced p l)) rest
    ∙ ap (spaced k) (append_assoc o (32 ∷ spaced p l) rest ∙ ap (spaced o) (append_assoc p (32 ∷ l) rest))

race-parts : (word moment first second : List ℕ) (claim : Claim) (side : Option Side) (at : Option (ℕ × ℕ)) (one other : Option (List ℕ)) →
    ((s : Side) → side ≡ Some s → 32 ∷ spaced (codes "race") word ≡ side_text s) → ((m : ℕ × ℕ) → at ≡ Some m → moment ≡ moment_text m) →
    ((text : List ℕ) → one ≡ Some text → first ≡ text) → ((text : List ℕ) → other ≡ Some text → second ≡ text) → race_of_side side at one other ≡ Some claim →
    spaced (32 ∷ spaced (codes "race") word) (spaced moment (spaced first second)) ≡ claim_text claim
race-parts word moment first second claim None at one other a b c d e = cc
race-parts word moment first second claim (Some s) None one other a b c d e = cc
race-parts word moment first second claim (Some s) (Some m) None other a b c d e = cc
race-parts word moment first second claim (Some s) (Some m) (Some x) None a b c d e = cc
race-parts word moment first second claim (Some s) (Some m) (Some x) (Some y) a b c d e =
    let is : Races s m.0 m.1 x y ≡ claim = cc in
    (λ i. spaced (a s refl i) (spaced (b m refl i) (spaced (c x refl i) (d y refl i)))) ∙ ap claim_text is

race-is : (design : FlatDesign) (word moment k o p l k' o' p' l' : List ℕ) (claim : Claim) →
    race_of_side (side_of word) (moment_of moment) (access_of design k o p l) (access_of design k' o' p' l') ≡ Some claim →
    32 ∷ spaced (codes "race") (spaced word (spaced moment (spaced k (spaced o (spaced p (spaced l (spaced k' (spaced o' (spaced p' l'))))))))) ≡ claim_text claim
race-is design word moment k o p l k' o' p' l' claim e =
    let rest = spaced k' (spaced o' (spaced p' l')) in
    let behind = spaced moment (spaced k (spaced o (spaced p (spaced l rest)))) in
    sym (append_assoc (32 ∷ codes "race") (32 ∷ word) (32 ∷ behind))
    ∙ (ap (λ t. spaced (32 ∷ spaced (codes "race") word) (spaced moment t)) (sym (four-behind k o p l (32 ∷ rest)))
    ∙ race-parts word moment (spaced k (spaced o (spaced p l))) rest claim (side_of word) (moment_of moment) (access_of design k o p l) (access_of design k' o' p' l')
    (λ s f. side-is word s f) (λ m f. moment-is moment m f) (λ text f. access-is design k o p l text f) (λ text f. access-is design k' o' p' l' text f) e)

one-is : (word : List ℕ) (claim : Claim) (b : Bool) → bytes_eq word (codes "undetected") ≡ b → cond b (Some (Says Undetected)) None ≡ Some claim → 32 ∷ word ≡ claim_text claim
one-is word claim true t e = let is : Says Undetected ≡ claim = cc in ap (λ w. 32 ∷ w) (same-bytes word (codes "undetected") t) ∙ ap claim_text is
one-is word claim false t e = cc

two-is : (design : FlatDesign) (word time : List ℕ) (claim : Claim) → claim_by design (word ∷ time ∷ []) ≡ Some claim → 32 ∷ spaced word time ≡ claim_text claim
unfolding counted
two-is design word time claim e = detected (bytes_eq word (codes "detected")) refl e
  where
    possible : (b : Bool) → bytes_eq word (codes "possible") ≡ b → cond b (timed Possible (number_within most_long time)) None ≡ Some claim → 32 ∷ spaced word time ≡ claim_text claim
    possible true t e =
        let is = timed-is Possible time claim (number_within most_long time) refl e in
        (λ i. 32 ∷ spaced (same-bytes word (codes "possible") t i) (is.1 i)) ∙ ap claim_text (sym is.2)
    possible false t e = cc

    detected : (b : Bool) → bytes_eq word (codes "detected") ≡ b →
        cond b (timed Detected (number_within most_long time)) (cond (bytes_eq word (codes "possible")) (timed Possible (number_within most_long time)) None) ≡ Some claim →
        32 ∷ spaced word time ≡ claim_text claim
    detected true t e =
        let is = timed-is Detected time claim (number_within most_long time) refl e in
        (λ i. 32 ∷ spaced (same-bytes word (codes "detected") t i) (is.1 i)) ∙ ap claim_text (sym is.2)
    detected false t e = possible (bytes_eq word (codes "possible")) refl e

eleven-is : (design : FlatDesign) (race word moment k o p l k' o' p' l' : List ℕ) (claim : Claim) (b : Bool) → bytes_eq race (codes "race") ≡ b →
    cond b (race_of_side (side_of word) (moment_of moment) (access_of design k o p l) (access_of design k' o' p' l')) None ≡ Some claim →
    32 ∷ spaced race (spaced word (spaced moment (spaced k (spaced o (spaced p (spaced l (spaced k' (spaced o' (spaced p' l'))))))))) ≡ claim_text claim
eleven-is design race word moment k o p l k' o' p' l' claim true t e =
    ap (λ r. 32 ∷ spaced r (spaced word (spaced moment (spaced k (spaced o (spaced p (spaced l (spaced k' (spaced o' (spaced p' l')))))))))) (same-bytes race (codes "race") t)
    ∙ race-is design word moment k o p l k' o' p' l' claim e
eleven-is design race word moment k o p l k' o' p' l' claim false t e = cc

-- words that claim something, behind a blank
words-are : (design : FlatDesign) (words : List (List ℕ)) (claim : Claim) → claim_by design words ≡ Some claim → 32 ∷ join_with_byte 32 words ≡ claim_text claim
words-are design [] claim e = cc
words-are design (a ∷ []) claim e = one-is a claim (bytes_eq a (codes "undetected")) refl e
words-are design (a ∷ b ∷ []) claim e = two-is design a b claim e
words-are design (a ∷ b ∷ c ∷ []) claim e = cc
words-are design (a ∷ b ∷ c ∷ d ∷ []) claim e = cc
words-are design (a ∷ b ∷ c ∷ d ∷ f ∷ []) claim e = cc
words-are design (a ∷ b ∷ c ∷ d ∷ f ∷ g ∷ []) claim e = cc
words-are design (a ∷ b ∷ c ∷ d ∷ f ∷ g ∷ h ∷ []) claim e = cc
words-are design (a ∷ b ∷ c ∷ d ∷ f ∷ g ∷ h ∷ i ∷ []) claim e = cc
words-are design (a ∷ b ∷ c ∷ d ∷ f ∷ g ∷ h ∷ i ∷ j ∷ []) claim e = cc
words-are design (a ∷ b ∷ c ∷ d ∷ f ∷ g ∷ h ∷ i ∷ j ∷ k ∷ []) claim e = cc
words-are design (a ∷ b ∷ c ∷ d ∷ f ∷ g ∷ h ∷ i ∷ j ∷ k ∷ l ∷ []) claim e = eleven-is design a b c d f g h i j k l claim (bytes_eq a (codes "race")) refl e
words-are design (a ∷ b ∷ c ∷ d ∷ f ∷ g ∷ h ∷ i ∷ j ∷ k ∷ l ∷ m ∷ more) claim e = cc

-- an end that claims this is printed so
race-text : (s t n a b : List ℕ) → ((((((s ++ 32 ∷ t) ++ 46 ∷ n) ++ 32 ∷ []) ++ a) ++ 32 ∷ []) ++ b) ≡ spaced s (spaced (t ++ 46 ∷ n) (spaced a b))
race-text s t n a b =
    append_assoc ((((s ++ 32 ∷ t) ++ 46 ∷ n) ++ 32 ∷ []) ++ a) (32 ∷ []) b
    ∙ (ap (λ l. l ++ 32 ∷ b) (append_assoc ((s ++ 32 ∷ t) ++ 46 ∷ n) (32 ∷ []) a)
    ∙ (ap (λ l. (l ++ 32 ∷ a) ++ 32 ∷ b) (append_assoc s (32 ∷ t) (46 ∷ n))
    ∙ (ap (λ l. l ++ 32 ∷ b) (append_assoc s (32 ∷ (t ++ 46 ∷ n)) (32 ∷ a))
    ∙ (append_assoc s (32 ∷ ((t ++ 46 ∷ n) ++ 32 ∷ a)) (32 ∷ b) ∙ ap (spaced s) (append_assoc (t ++ 46 ∷ n) (32 ∷ a) (32 ∷ b))))))

grade-is : (design : FlatDesign) (grade : FaultGrade) (claim : Claim) → claim_as design grade ≡ Some claim → grade_text design grade ≡ claim_text claim
unfolding counted
grade-is design (Judged verdict) claim e = let is : Says verdict ≡ claim = cc in ap claim_text is
grade-is design (Raced side pair) claim e =
    let is : Races side pair.time pair.phase (access_text design pair.first) (access_text design pair.second) ≡ claim = cc in
    race-text (side_text side) (decimal pair.time) (decimal pair.phase) (access_text design pair.first) (access_text design pair.second) ∙ ap claim_text is
grade-is design (Looped time) claim e = cc

-- The fault

value-is : (word : List ℕ) (value : Bool) → value_of_word word ≡ Some value → 32 ∷ word ≡ held_text value
value-is word value e = zero_held (bytes_eq word (codes "sa0")) refl e
  where
    one_held : (b : Bool) → bytes_eq word (codes "sa1") ≡ b → cond b (Some true) None ≡ Some value → 32 ∷ word ≡ held_text value
    one_held true t e = let is : true ≡ value = cc in ap (λ w. 32 ∷ w) (same-bytes word (codes "sa1") t) ∙ ap held_text is
    one_held false t e = cc

    zero_held : (b : Bool) → bytes_eq word (codes "sa0") ≡ b → cond b (Some false) (cond (bytes_eq word (codes "sa1")) (Some true) None) ≡ Some value → 32 ∷ word ≡ held_text value
    zero_held true t e = let is : false ≡ value = cc in ap (λ w. 32 ∷ w) (same-bytes word (codes "sa0") t) ∙ ap held_text is
    zero_held false t e = one_held (bytes_eq word (codes "sa1")) refl e

named-is : (design : FlatDesign) (word : List ℕ) (site : FaultSite) (found : Option FaultSite) → named_site design word found ≡ Some site → word ≡ site_name design site
named-is design word site None e = cc
named-is design word site (Some other) e =
    let is = cond_some (bytes_eq word (site_name design other)) other site e in
    same-bytes word (site_name design other) is.0 ∙ ap (site_name design) is.1

fault-is : (site : Option FaultSite) (value : Option Bool) (fault : StuckAt) → fault_by site value ≡ Some fault → (site ≡ Some fault.site) × (value ≡ Some fault.value)
fault-is None value fault e = cc
fault-is (Some site) None fault e = cc
fault-is (Some site) (Some value) fault e =
    let is : ◌≡◌ {A = StuckAt} (record { site = site; value = value }) fault = cc in
    (ap (λ (f : StuckAt). Some f.site) is, ap (λ (f : StuckAt). Some f.value) is)

claims-are : (found : Option StuckAt) (said : Option Claim) (fault : StuckAt) (claim : Claim) → claims_by found said ≡ Some (fault, claim) → (found ≡ Some fault) × (said ≡ Some claim)
claims-are None said fault claim e = cc
claims-are (Some one) None fault claim e = cc
claims-are (Some one) (Some other) fault claim e =
    let is : ◌≡◌ {A = StuckAt × Claim} (one, other) (fault, claim) = cc in
    (ap (λ (c : StuckAt × Claim). Some c.0) is, ap (λ (c : StuckAt × Claim). Some c.1) is)

-- The line

-- words behind two others
two-before : (site value : List ℕ) (words : List (List ℕ)) (text : List ℕ) → 32 ∷ join_with_byte 32 words ≡ text → ¬ (words ≡ []) →
    join_with_byte 32 (site ∷ value ∷ words) ≡ (site ++ 32 ∷ value) ++ text
two-before site value [] text e some = absurd (some refl)
two-before site value (word ∷ words) text e some =
    sym (append_assoc site (32 ∷ value) (32 ∷ join_with_byte 32 (word ∷ words))) ∙ ap (λ t. (site ++ 32 ∷ value) ++ t) e

some-words : (design : FlatDesign) (words : List (List ℕ)) (claim : Claim) → claim_by design words ≡ Some claim → ¬ (words ≡ [])
some-words design words claim e = λ none. let z : claim_by design [] ≡ Some claim = ap (claim_by design) (sym none) ∙ e in cc

parts-printed : (design : FlatDesign) (parts : List (List ℕ)) (fault : StuckAt) (claim : Claim) (grade : FaultGrade) → line_claims design parts ≡ Some (fault, claim) →
    claim_as design grade ≡ Some claim → fault_line design fault grade ≡ join_with_byte 32 parts ++ 10 ∷ []
unfolding fault_line
parts-printed design [] fault claim grade e g = cc
parts-printed design (site ∷ []) fault claim grade e g = cc
parts-printed design (site ∷ value ∷ words) fault claim grade e g =
    let both = claims-are (fault_by (named_site design site (site_spelled design site)) (value_of_word value)) (claim_by design words) fault claim e in
    let held = fault-is (named_site design site (site_spelled design site)) (value_of_word value) fault both.0 in
    let name : site ≡ site_name design fault.site = named-is design site fault.site (site_spelled design site) held.0 in
    let stuck : 32 ∷ value ≡ held_text fault.value = value-is value fault.value held.1 in
    let text : 32 ∷ join_with_byte 32 words ≡ grade_text design grade = words-are design words claim both.1 ∙ sym (grade-is design grade claim g) in
    ap (λ t. t ++ 10 ∷ [])
    ((λ i. (sym name i ++ sym stuck i) ++ grade_text design grade)
    ∙ sym (two-before site value words (grade_text design grade) text (some-words design words claim both.1)))

-- the line that is read
pub line-printed : (design : FlatDesign) (line : List ℕ) (fault : StuckAt) (claim : Claim) (grade : FaultGrade) → claim_of design line ≡ Some (fault, claim) →
    claim_as design grade ≡ Some claim → fault_line design fault grade ≡ line ++ 10 ∷ []
line-printed design line fault claim grade e g =
    parts-printed design (parts_of line) fault claim grade e g ∙ ap (λ l. l ++ 10 ∷ []) (join_with_byte-slice_split 32 line)
