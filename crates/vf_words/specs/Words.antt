-- The words of the command line (the forms are this program's own).
use Rattle.std.specs.Prelude.{ℕ, ◌≤◌, List, [], ◌∷◌, Bool, true, false, ◌&&◌, ◌||◌, Option, Some, None, codes, map, String, if◌then◌else◌}
use Rattle.std.specs.Str.{bytes_eq}
use Rattle.std.specs.String.{string_bytes}
use Rattle.std.specs.declared.alloc.Global.{Global}
use Rattle.v_elab.specs.declared.Mode.{Mode}
use Rattle.v_elab.specs.declared.Mode.TheVariants.{Usual, Strict}
use Rattle.vf_words.specs.Number.{number_between}

-- a design: its file, the name of its top module, and whether its blocks may be nodes
pub record Source : Type 0 where
  pub design : List ℕ
  pub top : List ℕ
  pub mode : Mode

-- what the program is asked for: the report on the faults of a plan's file, by so many workers; how large a design is; the faults that can be listed;
-- the totals of a design of this size that is drawn from a number, by so many workers; the dictionary of the faults of a plan's file; those of its faults that fit
-- what a response's file says was observed; the certificate of the fault at a place, from 1, of a plan's list; whether each line of a certificate's file is followed; and
-- the strobes of a plan's file that are enough
pub data Form : Type 0 where
  Grade : (source : Source) (plan : List ℕ) (workers : ℕ) → Form
  Check : (source : Source) → Form
  Faults : (source : Source) → Form
  Soak : (number size workers : ℕ) → Form
  Dict : (source : Source) (plan : List ℕ) → Form
  Diagnose : (source : Source) (plan response : List ℕ) → Form
  Certify : (source : Source) (plan : List ℕ) (fault : ℕ) → Form
  Audit : (source : Source) (plan cert : List ℕ) → Form
  Pick : (source : Source) (plan : List ℕ) → Form

-- so many workers as a word says: 1 to 64
abbrev pub workers_of : List ℕ → Option ℕ
workers_of word = number_between 1 64 word

-- the place of a listed fault that a word says: 1 to 65536
abbrev pub place_of : List ℕ → Option ℕ
place_of word = number_between 1 65536 word

-- the number that a generated design is drawn from: any of 32 bits
abbrev pub seed_of : List ℕ → Option ℕ
seed_of word = number_between 0 4294967295 word

-- how many registers a generated design has: 1 to 4000
abbrev pub size_of : List ℕ → Option ℕ
size_of word = number_between 1 4000 word

-- a word that has bytes
abbrev pub is_word : List ℕ → Bool
is_word [] = false
is_word (b ∷ bs) = true

-- the design of these words, where both have bytes
abbrev pub source_of : List ℕ → List ℕ → Mode → Option Source
source_of design top mode = if is_word design && is_word top then Some (record { design = design; top = top; mode = mode }) else None

-- the form over a design alone that the word names
abbrev pub design_form : List ℕ → Source → Option Form
design_form form source = if bytes_eq form (codes "check") then Some (Check source) else if bytes_eq form (codes "faults") then Some (Faults source) else None

-- whether the word names a form over a design and a plan with no word behind the top's name
abbrev pub is_plan_form : List ℕ → Bool
is_plan_form form = bytes_eq form (codes "dict") || bytes_eq form (codes "pick")

-- the form over the dictionary of a design and a plan that the word names, where the plan's word has bytes
abbrev pub dictionary_form : List ℕ → Source → List ℕ → Option Form
dictionary_form form source plan = if is_word plan
    then (if bytes_eq form (codes "dict") then Some (Dict source plan) else if bytes_eq form (codes "pick") then Some (Pick source plan) else None) else None

-- the report on a design and a plan by so many workers
abbrev pub grade_form : Source → List ℕ → Option ℕ → Option Form
grade_form source plan None = None
grade_form source plan (Some workers) = Some (Grade source plan workers)

-- the certificate of the fault at a place of a plan's list
abbrev pub certify_form : Source → List ℕ → Option ℕ → Option Form
certify_form source plan None = None
certify_form source plan (Some fault) = Some (Certify source plan fault)

-- the form of certificates that the word names: the last word is the place of a fault, or a certificate's file
abbrev pub certificate_form : List ℕ → Source → List ℕ → List ℕ → Option Form
certificate_form form source plan last =
    if bytes_eq form (codes "certify") then certify_form source plan (place_of last) else if bytes_eq form (codes "audit") then Some (Audit source plan last) else None

-- the form over a design, a plan and a last word, where both words have bytes: the number of workers of a report, the response of a diagnosis, or a word of certificates
abbrev pub last_form : List ℕ → Source → List ℕ → List ℕ → Option Form
last_form form source plan last = if is_word plan && is_word last
    then (if bytes_eq form (codes "grade") then grade_form source plan (workers_of last)
    else if bytes_eq form (codes "diagnose") then Some (Diagnose source plan last) else certificate_form form source plan last)
    else None

abbrev pub design_form_if : List ℕ → Option Source → Option Form
design_form_if form None = None
design_form_if form (Some source) = design_form form source

abbrev pub dictionary_form_if : List ℕ → Option Source → List ℕ → Option Form
dictionary_form_if form None plan = None
dictionary_form_if form (Some source) plan = dictionary_form form source plan

abbrev pub last_form_if : List ℕ → Option Source → List ℕ → List ℕ → Option Form
last_form_if form None plan last = None
last_form_if form (Some source) plan last = last_form form source plan last

-- `check DESIGN TOP` and `faults DESIGN TOP`
abbrev pub three_words : List ℕ → List ℕ → List ℕ → Mode → Option Form
three_words form design top mode = design_form_if form (source_of design top mode)

-- `dict DESIGN PLAN TOP` and `pick DESIGN PLAN TOP`
abbrev pub plan_words : List ℕ → List ℕ → List ℕ → List ℕ → Mode → Option Form
plan_words form design plan top mode = dictionary_form_if form (source_of design top mode) plan

-- `grade DESIGN PLAN TOP WORKERS`, `diagnose DESIGN PLAN TOP RESPONSE`, `certify DESIGN PLAN TOP FAULT` and `audit DESIGN PLAN TOP CERT`
abbrev pub last_words : List ℕ → List ℕ → List ℕ → List ℕ → List ℕ → Mode → Option Form
last_words form design plan top last mode = last_form_if form (source_of design top mode) plan last

-- `soak NUMBER SIZE WORKERS`, where each is a number within its limits
abbrev pub soak_form : Option ℕ → Option ℕ → Option ℕ → Option Form
soak_form None size workers = None
soak_form (Some number) None workers = None
soak_form (Some number) (Some size) None = None
soak_form (Some number) (Some size) (Some workers) = Some (Soak number size workers)

-- `soak` with its three numbers; a form over a design and a plan; or three words of another form and `strict`
abbrev pub four_words : List ℕ → List ℕ → List ℕ → List ℕ → Option Form
four_words form first second third = if bytes_eq form (codes "soak") then soak_form (seed_of first) (size_of second) (workers_of third)
    else if is_plan_form form then plan_words form first second third Usual
    else if bytes_eq third (codes "strict") then three_words form first second Strict else None

-- four words of a form over a design and a plan and `strict`; or a form with a last word
abbrev pub five_words : List ℕ → List ℕ → List ℕ → List ℕ → List ℕ → Option Form
five_words form design plan top last = if is_plan_form form
    then (if bytes_eq last (codes "strict") then plan_words form design plan top Strict else None) else last_words form design plan top last Usual

-- the form of the words, if they are of one; `strict` may stand behind each but `soak`. The first word tells how many follow, so `strict` is the name of a top
-- module, a response's or a certificate's file or a mode by its place alone
abbrev pub form_of : List (List ℕ) → Option Form
form_of [] = None
form_of (a ∷ []) = None
form_of (a ∷ b ∷ []) = None
form_of (form ∷ design ∷ top ∷ []) = three_words form design top Usual
form_of (form ∷ first ∷ second ∷ third ∷ []) = four_words form first second third
form_of (form ∷ design ∷ plan ∷ top ∷ last ∷ []) = five_words form design plan top last
form_of (form ∷ design ∷ plan ∷ top ∷ last ∷ mode ∷ []) = if bytes_eq mode (codes "strict") then last_words form design plan top last Strict else None
form_of (a ∷ b ∷ c ∷ d ∷ e ∷ f ∷ g ∷ rest) = None

-- the words as bytes
abbrev pub bytes_of : List (String Global) → List (List ℕ)
bytes_of words = map string_bytes words

-- what the numbers of a form keep: 1 to 64 workers, a generated design of 1 to 4000 registers, and the place of one of 65536 faults
abbrev pub Fits : Form → Type 0
Fits (Grade source plan workers) = (1 ≤ workers) × (workers ≤ 64)
Fits (Check source) = Unit {0}
Fits (Faults source) = Unit {0}
Fits (Soak number size workers) = ((1 ≤ size) × (size ≤ 4000)) × ((1 ≤ workers) × (workers ≤ 64))
Fits (Dict source plan) = Unit {0}
Fits (Diagnose source plan response) = Unit {0}
Fits (Certify source plan fault) = (1 ≤ fault) × (fault ≤ 65536)
Fits (Audit source plan cert) = Unit {0}
Fits (Pick source plan) = Unit {0}
