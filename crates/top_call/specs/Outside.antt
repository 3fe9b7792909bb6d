-- What is said of the outside (nothing of the language).
use Rattle.std.specs.Prelude.{◌≡◌, ◌≢◌, ℕ, ◌+◌, ◌<◌, ◌≤◌, List, [], length, take, Option, Some, None}
use Rattle.vf_base.specs.Counts.{raised, Rose}
use Rattle.vf_base.specs.Shelf.{Files}
use Rattle.vf_base.specs.Sink.{Gains}
use Rattle.vf_base.specs.declared.shelf.Shelf.{Ghosts}
use Rattle.v_scan.specs.declared.fault.ScanFault.TheVariants as scans
use Rattle.v_parse.specs.declared.fault.ParseFault.TheVariants as parses
use Rattle.v_design.specs.Designs.{FlatDesign, TestPlan}
use Rattle.vf_status.specs.elaborate.declared.fault.ElabFault.TheVariants as elabs
use Rattle.plan_read.specs.declared.fault.PlanFault.TheVariants as plans
use Rattle.response_text.specs.declared.fault.ResponseFault.TheVariants as responses
use Rattle.dict_text.specs.Dictionaries.{most_room}
use Rattle.vf_words.specs.Words.{Form, Grade, Check, Faults, Soak, Dict, Diagnose, Certify, Audit, Pick}
use Rattle.vf_status.specs.declared.status.Which.{Which}
use Rattle.vf_status.specs.declared.status.Which.TheVariants as whiches
use Rattle.vf_status.specs.declared.status.Refusal.{Refusal}
use Rattle.vf_status.specs.declared.status.Refusal.TheVariants as refusals
use Rattle.vf_status.specs.declared.status.Status.{Status}
use Rattle.vf_status.specs.declared.status.Status.TheVariants.{Done, Refused, Usage, ReadFault, WriteFault, NoMemory, GoodLoop, TooLong}
use Rattle.top_call.specs.declared.purpose.Purpose.TheVariants.{Dictionary, Certificate}
use Rattle.top_call.specs.Answers.{Answer, Outputs, status_of, HoldDesign, HoldPlan, IsAnswer, IsTheAnswer, Stands}

-- a fact about what is told, where it is told
abbrev pub IfTold : {X : Type 0} → Option X → (X → Type 0) → Type 0
IfTold None P = Unit {0}
IfTold (Some x) P = P x

-- the counts of a shelf
pub record ShelfCounts : Type 0 where
  pub faults : ℕ
  pub reads : ℕ
  pub long_answers : ℕ

abbrev pub counts_of : {S : Type 0} → Ghosts S → S → ShelfCounts
counts_of told shelf = record { faults = told.faults shelf; reads = told.reads shelf; long_answers = told.long_answers shelf }

-- the count of reads after the file of the form was read
abbrev pub reads_to : Which → ℕ → ℕ
reads_to whiches.Design reads = raised reads
reads_to whiches.Plan reads = raised (raised reads)
reads_to whiches.Response reads = raised (raised (raised reads))
reads_to whiches.Cert reads = raised (raised (raised reads))

-- how many files a form names
abbrev pub files_of : Form → ℕ
files_of (Grade source plan workers) = 2
files_of (Check source) = 1
files_of (Faults source) = 1
files_of (Soak number size workers) = 0
files_of (Dict source plan) = 2
files_of (Diagnose source plan response) = 3
files_of (Certify source plan fault) = 2
files_of (Audit source plan cert) = 3
files_of (Pick source plan) = 2

-- how many files the words name, which may be of no form
abbrev pub files_named : Option Form → ℕ
files_named None = 0
files_named (Some form) = files_of form

-- the files over which a form is answered, where they are told: `soak` reads none, so it is answered over none whatever is told
abbrev pub files_for : Form → Option Files → Option Files
files_for (Grade source plan workers) held = held
files_for (Check source) held = held
files_for (Faults source) held = held
files_for (Soak number size workers) held = Some []
files_for (Dict source plan) held = held
files_for (Diagnose source plan response) held = held
files_for (Certify source plan fault) held = held
files_for (Audit source plan cert) held = held
files_for (Pick source plan) held = held

-- a form names a response
abbrev pub NamesResponse : Form → Type 0
NamesResponse (Grade source plan workers) = ⊥
NamesResponse (Check source) = ⊥
NamesResponse (Faults source) = ⊥
NamesResponse (Soak number size workers) = ⊥
NamesResponse (Dict source plan) = ⊥
NamesResponse (Diagnose source plan response) = Unit {0}
NamesResponse (Certify source plan fault) = ⊥
NamesResponse (Audit source plan cert) = ⊥
NamesResponse (Pick source plan) = ⊥

-- a form names a certificate
abbrev pub NamesCert : Form → Type 0
NamesCert (Grade source plan workers) = ⊥
NamesCert (Check source) = ⊥
NamesCert (Faults source) = ⊥
NamesCert (Soak number size workers) = ⊥
NamesCert (Dict source plan) = ⊥
NamesCert (Diagnose source plan response) = ⊥
NamesCert (Certify source plan fault) = ⊥
NamesCert (Audit source plan cert) = Unit {0}
NamesCert (Pick source plan) = ⊥

-- a form names a file of this place: the first is the design, the second the plan
abbrev pub Names : Form → Which → Type 0
Names form whiches.Design = 0 < files_of form
Names form whiches.Plan = 1 < files_of form
Names form whiches.Response = NamesResponse form
Names form whiches.Cert = NamesCert form

-- a form makes a dictionary
abbrev pub MakesDictionary : Form → Type 0
MakesDictionary (Grade source plan workers) = ⊥
MakesDictionary (Check source) = ⊥
MakesDictionary (Faults source) = ⊥
MakesDictionary (Soak number size workers) = ⊥
MakesDictionary (Dict source plan) = Unit {0}
MakesDictionary (Diagnose source plan response) = Unit {0}
MakesDictionary (Certify source plan fault) = ⊥
MakesDictionary (Audit source plan cert) = ⊥
MakesDictionary (Pick source plan) = Unit {0}

-- a form names the place of a listed fault
abbrev pub NamesFault : Form → ℕ → Type 0
NamesFault (Grade source plan workers) place = ⊥
NamesFault (Check source) place = ⊥
NamesFault (Faults source) place = ⊥
NamesFault (Soak number size workers) place = ⊥
NamesFault (Dict source plan) place = ⊥
NamesFault (Diagnose source plan response) place = ⊥
NamesFault (Certify source plan fault) place = place ≡ fault
NamesFault (Audit source plan cert) place = ⊥
NamesFault (Pick source plan) place = ⊥

-- a form runs the good machine; an audit follows the runs that a certificate tells
abbrev pub RunsGood : Form → Type 0
RunsGood (Grade source plan workers) = Unit {0}
RunsGood (Check source) = ⊥
RunsGood (Faults source) = ⊥
RunsGood (Soak number size workers) = Unit {0}
RunsGood (Dict source plan) = Unit {0}
RunsGood (Diagnose source plan response) = Unit {0}
RunsGood (Certify source plan fault) = Unit {0}
RunsGood (Audit source plan cert) = ⊥
RunsGood (Pick source plan) = Unit {0}

-- the file whose text is refused; a dictionary is too large by its plan, and that lists the faults
abbrev pub refused_file : Refusal → Which
refused_file (refusals.Scan fault) = whiches.Design
refused_file (refusals.Parse fault) = whiches.Design
refused_file (refusals.Elab fault) = whiches.Design
refused_file (refusals.Plan fault) = whiches.Plan
refused_file (refusals.Response fault) = whiches.Response
refused_file (refusals.TooLarge room) = whiches.Plan
refused_file (refusals.NoFault place) = whiches.Plan

-- the reason is one of the text: a length and want of memory have statuses of their own; and a dictionary is too large only over the most room
abbrev pub IsReason : Refusal → Type 0
IsReason (refusals.Scan fault) = (fault ≢ scans.TooLong) × (fault ≢ scans.NoMemory)
IsReason (refusals.Parse fault) = fault ≢ parses.NoMemory
IsReason (refusals.Elab fault) = fault ≢ elabs.NoMemory
IsReason (refusals.Plan fault) = (fault ≢ plans.TooLong) × (fault ≢ plans.NoMemory)
IsReason (refusals.Response fault) = (fault ≢ responses.TooLong) × (fault ≢ responses.NoMemory)
IsReason (refusals.TooLarge room) = most_room < room
IsReason (refusals.NoFault place) = Unit {0}

-- the reasons for which a form can be refused: those of the texts that it names, the room of a dictionary only where it makes one, and that no fault of a place is
-- listed only where it names that very place
abbrev pub CanRefuse : Form → Refusal → Type 0
CanRefuse form (refusals.Scan fault) = Names form whiches.Design
CanRefuse form (refusals.Parse fault) = Names form whiches.Design
CanRefuse form (refusals.Elab fault) = Names form whiches.Design
CanRefuse form (refusals.Plan fault) = Names form whiches.Plan
CanRefuse form (refusals.Response fault) = Names form whiches.Response
CanRefuse form (refusals.TooLarge room) = MakesDictionary form
CanRefuse form (refusals.NoFault place) = NamesFault form place

-- the statuses with which a form can end: a file's only where it names that file, a refusal only for a reason that it can have, a loop only where it runs the good
-- machine
abbrev pub CanEnd : Form → Status → Type 0
CanEnd form Done = Unit {0}
CanEnd form (Refused why) = CanRefuse form why × IsReason why
CanEnd form Usage = ⊥
CanEnd form (ReadFault which) = Names form which
CanEnd form WriteFault = Unit {0}
CanEnd form NoMemory = Unit {0}
CanEnd form (GoodLoop time) = RunsGood form
CanEnd form (TooLong which) = Names form which

-- the files hold the design that the form names, and its text says one
abbrev pub HoldItsDesign : Form → Files → Type 0
HoldItsDesign (Grade source plan workers) files = (design : FlatDesign) × HoldDesign files source design
HoldItsDesign (Check source) files = (design : FlatDesign) × HoldDesign files source design
HoldItsDesign (Faults source) files = (design : FlatDesign) × HoldDesign files source design
HoldItsDesign (Soak number size workers) files = ⊥
HoldItsDesign (Dict source plan) files = (design : FlatDesign) × HoldDesign files source design
HoldItsDesign (Diagnose source plan response) files = (design : FlatDesign) × HoldDesign files source design
HoldItsDesign (Certify source plan fault) files = (design : FlatDesign) × HoldDesign files source design
HoldItsDesign (Audit source plan cert) files = (design : FlatDesign) × HoldDesign files source design
HoldItsDesign (Pick source plan) files = (design : FlatDesign) × HoldDesign files source design

-- the files hold the design and the plan over it that the form names before a response or a certificate, and the dictionary, if there is one, isn't too large
abbrev pub HoldItsPlan : Form → Files → Type 0
HoldItsPlan (Grade source plan workers) files = ⊥
HoldItsPlan (Check source) files = ⊥
HoldItsPlan (Faults source) files = ⊥
HoldItsPlan (Soak number size workers) files = ⊥
HoldItsPlan (Dict source plan) files = ⊥
HoldItsPlan (Diagnose source plan response) files = (design : FlatDesign) × (test : TestPlan) × HoldDesign files source design × HoldPlan files plan Dictionary design test
HoldItsPlan (Certify source plan fault) files = ⊥
HoldItsPlan (Audit source plan cert) files = (design : FlatDesign) × (test : TestPlan) × HoldDesign files source design × HoldPlan files plan Certificate design test
HoldItsPlan (Pick source plan) files = ⊥

-- nothing decides before the file of this place is read: the design comes first, the plan where the design is there and is read, and the response or the certificate
-- where the plan is there too and is read, and its dictionary, if there is one, isn't too large
abbrev pub ComesTo : Form → Files → Which → Type 0
ComesTo form files whiches.Design = Unit {0}
ComesTo form files whiches.Plan = HoldItsDesign form files
ComesTo form files whiches.Response = HoldItsPlan form files
ComesTo form files whiches.Cert = HoldItsPlan form files

-- the shelf's fault count rose at the read of the file of this place, and nothing had decided before
pub record ReadFailed (form : Form) (held : Option Files) (which : Which) (old new : ShelfCounts) : Type 0 where
  pub faults : Rose old.faults new.faults
  pub reads : new.reads ≡ reads_to which old.reads
  pub due : IfTold held (λ files. ComesTo form files which)

-- the shelf tells nothing, and answered that the file of this place is too long
pub record ToldLong (held : Option Files) (which : Which) (old new : ShelfCounts) : Type 0 where
  pub untold : held ≡ None
  pub long : Rose old.long_answers new.long_answers
  pub reads : new.reads ≡ reads_to which old.reads

-- the answer is that to the form over the files, where they are told
abbrev pub Answers : Option Form → Option Files → Answer → Type 0
Answers None held answer = ⊥
Answers (Some form) held answer = IfTold (files_for form held) (λ files. IsAnswer form files answer)

-- the text is the output of the form over the files, which has no other, and what it says holds in every order
pub record IsOutput (form : Form) (files : Files) (text : List ℕ) : Type 0 where
  pub answers : IsTheAnswer form files (Outputs text)
  pub every_order : Stands form files text

-- a part of the text from its front was put
abbrev pub PutsSome : Option (List ℕ) → List ℕ → Option (List ℕ) → Type 0
PutsSome old text new = (n : ℕ) × (n < length text) × Gains old (take n text) new

-- so many bytes from the front of the text were put, a byte at least by each call but one that failed, and by no more calls than the text has bytes
pub record PutsInFew (old : Option (List ℕ)) (text : List ℕ) (new : Option (List ℕ)) (before after : ℕ) : Type 0 where
  pub taken : ℕ
  pub within : taken ≤ length text
  pub gained : Gains old (take taken text) new
  pub calls : after ≤ before + taken + 1
  pub few : after ≤ before + length text

-- what putting a text answers
abbrev pub PutGives : Option (List ℕ) → List ℕ → Option (List ℕ) → ℕ → ℕ → Status → Type 0
PutGives old text new before after Done = Gains old text new
PutGives old text new before after (Refused why) = ⊥
PutGives old text new before after Usage = ⊥
PutGives old text new before after (ReadFault which) = ⊥
PutGives old text new before after WriteFault = PutsSome old text new × Rose before after
PutGives old text new before after NoMemory = PutsSome old text new
PutGives old text new before after (GoodLoop time) = ⊥
PutGives old text new before after (TooLong which) = ⊥

-- an answer after which nothing was put
abbrev pub PutsNothing : Status → Type 0
PutsNothing Done = ⊥
PutsNothing (Refused why) = Unit {0}
PutsNothing Usage = Unit {0}
PutsNothing (ReadFault which) = Unit {0}
PutsNothing WriteFault = ⊥
PutsNothing NoMemory = ⊥
PutsNothing (GoodLoop time) = Unit {0}
PutsNothing (TooLong which) = Unit {0}

-- the status is that of the answer, unless memory is wanting, a read failed before anything else had decided, or a put of the output failed
pub data Keeps (form : Form) (files : Files) (answer : Answer) (old new : ShelfCounts) (sink_old sink_new : ℕ) (status : Status) : Type 0 where
  as_answered : status ≡ status_of answer → Keeps form files answer old new sink_old sink_new status
  no_memory : status ≡ NoMemory → Keeps form files answer old new sink_old sink_new status
  no_read : (which : Which) → status ≡ ReadFault which → ReadFailed form (Some files) which old new → Keeps form files answer old new sink_old sink_new status
  no_put : status ≡ WriteFault → status_of answer ≡ Done → Rose sink_old sink_new → Keeps form files answer old new sink_old sink_new status

-- how a form ends that has what it needs: it is done, unless memory is wanting, a read failed before anything else had decided, or a put of the output failed
abbrev pub EndsDone : Form → Files → ShelfCounts → ShelfCounts → ℕ → ℕ → Status → Type 0
EndsDone form files old new sink_old sink_new Done = Unit {0}
EndsDone form files old new sink_old sink_new (Refused why) = ⊥
EndsDone form files old new sink_old sink_new Usage = ⊥
EndsDone form files old new sink_old sink_new (ReadFault which) = ReadFailed form (Some files) which old new
EndsDone form files old new sink_old sink_new WriteFault = Rose sink_old sink_new
EndsDone form files old new sink_old sink_new NoMemory = Unit {0}
EndsDone form files old new sink_old sink_new (GoodLoop time) = ⊥
EndsDone form files old new sink_old sink_new (TooLong which) = ⊥
