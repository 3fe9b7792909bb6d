-- The numbers of a form are within their limits.
use Rattle.std.proofs.Common.{◌≡◌, ℕ, ◌≤◌, ◌&&◌, List, [], ◌∷◌, Bool, true, false, Option, Some, None, refl, sym, subst}
use Rattle.std.specs.Prelude.{IfSome, option_map, codes, if◌then◌else◌}
use Rattle.std.specs.Str.{bytes_eq}
use Rattle.v_elab.specs.declared.Mode.{Mode}
use Rattle.v_elab.specs.declared.Mode.TheVariants.{Usual, Strict}
use Rattle.vf_words.specs.NumberLaws.{number-is}
use Rattle.vf_words.specs.Words.{Source, Form, Check, Faults, Dict, Diagnose, Audit, Pick, Fits, is_word, source_of, workers_of, place_of, seed_of, size_of, design_form_if, is_plan_form}
use Rattle.vf_words.specs.Words.{dictionary_form_if, grade_form, certify_form, certificate_form, last_form_if, soak_form, three_words, plan_words, last_words, form_of}
use Rattle.vf_words.specs.declared.words.Form.{Form as FormWords}
use Rattle.vf_words.specs.Forms.{plain_form}

-- so many workers as a word says
workers-keep : (word : List ℕ) (workers : ℕ) → workers_of word ≡ Some workers → (1 ≤ workers) × (workers ≤ 64)
workers-keep word workers e = let is = number-is 1 64 word workers e in (is.low, is.high)

-- the place of a fault that a word says
place-keeps : (word : List ℕ) (place : ℕ) → place_of word ≡ Some place → (1 ≤ place) × (place ≤ 65536)
place-keeps word place e = let is = number-is 1 65536 word place e in (is.low, is.high)

size-keeps : (word : List ℕ) (size : ℕ) → size_of word ≡ Some size → (1 ≤ size) × (size ≤ 4000)
size-keeps word size e = let is = number-is 1 4000 word size e in (is.low, is.high)

if-keeps : (b : Bool) (some other : Option Form) → IfSome some Fits → IfSome other Fits → IfSome (if b then some else other) Fits
if-keeps true some other h k = h
if-keeps false some other h k = k

-- `check` and `faults`
three-keep : (form : List ℕ) (source : Option Source) → IfSome (design_form_if form source) Fits
three-keep form None = tt
three-keep form (Some source) =
    if-keeps (bytes_eq form (codes "check")) (Some (Check source)) (if bytes_eq form (codes "faults") then Some (Faults source) else None) tt
    (if-keeps (bytes_eq form (codes "faults")) (Some (Faults source)) None tt tt)

-- `dict` and `pick`
plan-keep : (form plan : List ℕ) (source : Option Source) → IfSome (dictionary_form_if form source plan) Fits
plan-keep form plan None = tt
plan-keep form plan (Some source) =
    if-keeps (is_word plan) (if bytes_eq form (codes "dict") then Some (Dict source plan) else if bytes_eq form (codes "pick") then Some (Pick source plan) else None) None
    (if-keeps (bytes_eq form (codes "dict")) (Some (Dict source plan)) (if bytes_eq form (codes "pick") then Some (Pick source plan) else None) tt
    (if-keeps (bytes_eq form (codes "pick")) (Some (Pick source plan)) None tt tt)) tt

-- `grade`
grade-keeps : (source : Source) (plan : List ℕ) (workers : Option ℕ) → ((n : ℕ) → workers ≡ Some n → (1 ≤ n) × (n ≤ 64)) → IfSome (grade_form source plan workers) Fits
grade-keeps source plan None keep = tt
grade-keeps source plan (Some workers) keep = keep workers refl

-- `certify`
certify-keeps : (source : Source) (plan : List ℕ) (fault : Option ℕ) → ((n : ℕ) → fault ≡ Some n → (1 ≤ n) × (n ≤ 65536)) → IfSome (certify_form source plan fault) Fits
certify-keeps source plan None keep = tt
certify-keeps source plan (Some fault) keep = keep fault refl

-- `certify` and `audit`
certificate-keeps : (form : List ℕ) (source : Source) (plan last : List ℕ) → IfSome (certificate_form form source plan last) Fits
certificate-keeps form source plan last =
    if-keeps (bytes_eq form (codes "certify")) (certify_form source plan (place_of last)) (if bytes_eq form (codes "audit") then Some (Audit source plan last) else None)
    (certify-keeps source plan (place_of last) (place-keeps last))
    (if-keeps (bytes_eq form (codes "audit")) (Some (Audit source plan last)) None tt tt)

-- the forms with a last word
last-keep : (form plan last : List ℕ) (source : Option Source) → IfSome (last_form_if form source plan last) Fits
last-keep form plan last None = tt
last-keep form plan last (Some source) =
    if-keeps (is_word plan && is_word last)
    (if bytes_eq form (codes "grade") then grade_form source plan (workers_of last)
    else if bytes_eq form (codes "diagnose") then Some (Diagnose source plan last) else certificate_form form source plan last) None
    (if-keeps (bytes_eq form (codes "grade")) (grade_form source plan (workers_of last))
    (if bytes_eq form (codes "diagnose") then Some (Diagnose source plan last) else certificate_form form source plan last)
    (grade-keeps source plan (workers_of last) (workers-keep last))
    (if-keeps (bytes_eq form (codes "diagnose")) (Some (Diagnose source plan last)) (certificate_form form source plan last) tt (certificate-keeps form source plan last))) tt

-- `soak`
soak-keeps : (number size workers : Option ℕ) → ((n : ℕ) → size ≡ Some n → (1 ≤ n) × (n ≤ 4000)) → ((n : ℕ) → workers ≡ Some n → (1 ≤ n) × (n ≤ 64)) → IfSome (soak_form number size workers) Fits
soak-keeps None size workers keep kept = tt
soak-keeps (Some number) None workers keep kept = tt
soak-keeps (Some number) (Some size) None keep kept = tt
soak-keeps (Some number) (Some size) (Some workers) keep kept = (keep size refl, kept workers refl)

pub form-keeps : (words : List (List ℕ)) → IfSome (form_of words) Fits
form-keeps [] = tt
form-keeps (a ∷ []) = tt
form-keeps (a ∷ b ∷ []) = tt
form-keeps (form ∷ design ∷ top ∷ []) = three-keep form (source_of design top Usual)
form-keeps (form ∷ first ∷ second ∷ third ∷ []) =
    if-keeps (bytes_eq form (codes "soak")) (soak_form (seed_of first) (size_of second) (workers_of third))
    (if is_plan_form form then plan_words form first second third Usual else if bytes_eq third (codes "strict") then three_words form first second Strict else None)
    (soak-keeps (seed_of first) (size_of second) (workers_of third) (size-keeps second) (workers-keep third))
    (if-keeps (is_plan_form form) (plan_words form first second third Usual) (if bytes_eq third (codes "strict") then three_words form first second Strict else None)
    (plan-keep form second (source_of first third Usual))
    (if-keeps (bytes_eq third (codes "strict")) (three_words form first second Strict) None (three-keep form (source_of first second Strict)) tt))
form-keeps (form ∷ design ∷ plan ∷ top ∷ last ∷ []) =
    if-keeps (is_plan_form form) (if bytes_eq last (codes "strict") then plan_words form design plan top Strict else None) (last_words form design plan top last Usual)
    (if-keeps (bytes_eq last (codes "strict")) (plan_words form design plan top Strict) None (plan-keep form plan (source_of design top Strict)) tt)
    (last-keep form plan last (source_of design top Usual))
form-keeps (form ∷ design ∷ plan ∷ top ∷ last ∷ mode ∷ []) =
    if-keeps (bytes_eq mode (codes "strict")) (last_words form design plan top last Strict) None (last-keep form plan last (source_of design top Strict)) tt
form-keeps (a ∷ b ∷ c ∷ d ∷ e ∷ f ∷ g ∷ rest) = tt

-- the same of the form that the code has
pub plain-keeps : (form : Option FormWords) (plain : Option Form) → option_map plain_form form ≡ plain → IfSome plain Fits → IfSome form (λ f. Fits (plain_form f))
plain-keeps form plain e h = own form (subst (λ o. IfSome o Fits) (sym e) h)
  where
    own : (form : Option FormWords) → IfSome (option_map plain_form form) Fits → IfSome form (λ f. Fits (plain_form f))
    own None h = tt
    own (Some f) h = h
