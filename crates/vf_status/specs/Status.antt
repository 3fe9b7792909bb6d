-- The number and the line of a status (the format is this program's own).
use Rattle.std.specs.Prelude.{ℕ, List, [], ◌++◌, codes}
use Rattle.std.specs.Fmt.{decimal}
use Rattle.vf_base.specs.declared.ids.Place.{Place}
use Rattle.v_scan.specs.declared.fault.ScanFault.{ScanFault}
use Rattle.v_scan.specs.declared.fault.ScanFault.TheVariants as scans
use Rattle.v_parse.specs.declared.fault.ParseFault.{ParseFault}
use Rattle.v_parse.specs.declared.fault.ParseFault.TheVariants as parses
use Rattle.v_elab.specs.declared.What.{What}
use Rattle.v_elab.specs.declared.What.TheVariants.{Objects, Nodes, Processes, Instances, Inputs}
use Rattle.elaborate.specs.declared.fault.ElabFault.{ElabFault}
use Rattle.elaborate.specs.declared.fault.ElabFault.TheVariants as elabs
use Rattle.plan_read.specs.declared.fault.PlanFault.{PlanFault}
use Rattle.plan_read.specs.declared.fault.PlanFault.TheVariants as plans
use Rattle.response_text.specs.declared.fault.ResponseFault.{ResponseFault}
use Rattle.response_text.specs.declared.fault.ResponseFault.TheVariants as responses
use Rattle.vf_status.specs.declared.status.Which.{Which}
use Rattle.vf_status.specs.declared.status.Which.TheVariants.{Design, Plan, Response, Cert}
use Rattle.vf_status.specs.declared.status.Refusal.{Refusal}
use Rattle.vf_status.specs.declared.status.Refusal.TheVariants as refusals
use Rattle.vf_status.specs.declared.status.Status.{Status}
use Rattle.vf_status.specs.declared.status.Status.TheVariants.{Done, Refused, Usage, ReadFault, WriteFault, NoMemory, GoodLoop, TooLong}

-- the number with which the program ends
abbrev pub number_of : Status → ℕ
number_of Done = 0
number_of (Refused why) = 1
number_of Usage = 2
number_of (ReadFault which) = 3
number_of WriteFault = 4
number_of NoMemory = 5
number_of (GoodLoop time) = 6
number_of (TooLong which) = 7

-- the word of a file
abbrev pub file_word : Which → List ℕ
file_word Design = codes "design"
file_word Plan = codes "plan"
file_word Response = codes "response"
file_word Cert = codes "certificate"

-- a place, as it is printed
abbrev pub place_text : Place → List ℕ
place_text place = decimal place.line ++ codes ":" ++ decimal place.column

-- a place of the design, and what is wrong there
abbrev pub at_place : Place → List ℕ → List ℕ
at_place place words = codes "vfault: design " ++ place_text place ++ words

-- the line of a text without tokens
abbrev pub scan_text : ScanFault → List ℕ
scan_text (scans.BadByte place) = at_place place (codes ": bad byte")
scan_text (scans.BadNumber place) = at_place place (codes ": bad number")
scan_text (scans.Unclosed place) = at_place place (codes ": not closed")
scan_text scans.TooLong = []
scan_text scans.NoMemory = []

-- the line of tokens that spell no unit
abbrev pub parse_text : ParseFault → List ℕ
parse_text (parses.Unexpected place) = at_place place (codes ": unexpected")
parse_text (parses.Unsupported place) = at_place place (codes ": not in the profile")
parse_text (parses.TooDeep place) = at_place place (codes ": too deep")
parse_text parses.NoMemory = []

-- the word of what there are too many of
abbrev pub what_word : What → List ℕ
what_word Objects = codes "objects"
what_word Nodes = codes "nodes"
what_word Processes = codes "processes"
what_word Instances = codes "instances"
what_word Inputs = codes "inputs"

-- the line of a unit without a design
abbrev pub elab_text : ElabFault → List ℕ
elab_text (elabs.Unknown place) = at_place place (codes ": unknown name")
elab_text (elabs.Twice place) = at_place place (codes ": declared twice")
elab_text (elabs.NotConstant place) = at_place place (codes ": not a constant")
elab_text (elabs.TooWide place) = at_place place (codes ": bad width")
elab_text (elabs.PortMismatch place) = at_place place (codes ": bad connection")
elab_text (elabs.WrongKind place) = at_place place (codes ": wrong kind of name")
elab_text (elabs.TooDeep place) = at_place place (codes ": too deep")
elab_text (elabs.TwoDrivers place bit) = at_place place (codes ": two drivers of bit ") ++ decimal bit
elab_text elabs.NoTop = codes "vfault: design: no module of that name"
elab_text (elabs.TooMany what number) = codes "vfault: design: too many " ++ what_word what ++ codes " (" ++ decimal number ++ codes ")"
elab_text (elabs.Loop place) = at_place place (codes ": loop")
elab_text elabs.NoMemory = []

-- a line of a file, and what is wrong with it
abbrev pub numbered_text : Which → ℕ → List ℕ → List ℕ
numbered_text which line words = codes "vfault: " ++ file_word which ++ codes " " ++ decimal line ++ words

-- the line of a plan's fault
abbrev pub plan_text : PlanFault → List ℕ
plan_text (plans.BadLine line) = numbered_text Plan line (codes ": bad line")
plan_text (plans.UnknownSite line) = numbered_text Plan line (codes ": unknown name")
plan_text (plans.TooMany line) = numbered_text Plan line (codes ": too many")
plan_text plans.TooLong = []
plan_text plans.NoMemory = []

-- the line of a response's fault
abbrev pub response_text : ResponseFault → List ℕ
response_text (responses.BadLine line) = numbered_text Response line (codes ": bad line")
response_text responses.TooLong = []
response_text responses.NoMemory = []

-- the line of a dictionary that is too large
abbrev pub too_large_text : ℕ → List ℕ
too_large_text room = codes "vfault: the dictionary is too large (" ++ decimal room ++ codes ")"

-- the line of a place at which the plan lists no fault
abbrev pub no_fault_text : ℕ → List ℕ
no_fault_text place = codes "vfault: no fault " ++ decimal place

-- the line of a refusal
abbrev pub refusal_text : Refusal → List ℕ
refusal_text (refusals.Scan fault) = scan_text fault
refusal_text (refusals.Parse fault) = parse_text fault
refusal_text (refusals.Elab fault) = elab_text fault
refusal_text (refusals.Plan fault) = plan_text fault
refusal_text (refusals.Response fault) = response_text fault
refusal_text (refusals.TooLarge room) = too_large_text room
refusal_text (refusals.NoFault place) = no_fault_text place

-- the line of words that are of no form: all forms
abbrev pub usage_text : List ℕ
usage_text =
    codes "vfault: usage: grade DESIGN PLAN TOP WORKERS [strict] | check DESIGN TOP [strict] | faults DESIGN TOP [strict] | soak NUMBER SIZE WORKERS"
    ++ codes " | dict DESIGN PLAN TOP [strict] | diagnose DESIGN PLAN TOP RESPONSE [strict]"
    ++ codes " | certify DESIGN PLAN TOP FAULT [strict] | audit DESIGN PLAN TOP CERT [strict] | pick DESIGN PLAN TOP [strict]"

-- the line that tells a status, without its end; there is none where all went well
abbrev pub status_text : Status → List ℕ
status_text Done = []
status_text (Refused why) = refusal_text why
status_text Usage = usage_text
status_text (ReadFault which) = codes "vfault: cannot read the " ++ file_word which
status_text WriteFault = codes "vfault: cannot write"
status_text NoMemory = codes "vfault: out of memory"
status_text (GoodLoop time) = codes "vfault: the good machine loops at time " ++ decimal time
status_text (TooLong which) = codes "vfault: the " ++ file_word which ++ codes " is too long"
