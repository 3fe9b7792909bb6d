-- What the code's lines and claims stand for (nothing of the language).
use Rattle.std.specs.Prelude.{ℕ, List, [], ◌∷◌, Option, Some, None, nat_eq}
use Rattle.std.specs.List.{slice_split}
use Rattle.std.specs.Borrow.{Bor}
use Rattle.std.specs.Fmt.{decimal}
use Rattle.vf_base.specs.Base.{process_number}
use Rattle.v_design.specs.Grades as plain_grade
use Rattle.v_design.specs.Designs.{StuckAt}
use Rattle.v_design.specs.Plain.{fault_of}
use Rattle.v_design.specs.declared.plan.Fault.{Fault}
use Rattle.grade_report.specs.Report.{kind_text}
use Rattle.cert_laws.specs.Claims as plain_claim
use Rattle.cert_laws.specs.Claims.{spaced}
use Rattle.cert_laws.specs.Replays as plain_run
use Rattle.cert_laws.specs.Valid as plain_line
use Rattle.cert_text.specs.declared.line.RunLine.{RunLine}
use Rattle.cert_text.specs.declared.line.RunLine.TheVariants.{Slot, Phase, Steps, Updates}
use Rattle.cert_text.specs.declared.line.CertLine.{CertLine}
use Rattle.cert_text.specs.declared.line.CertLine.TheVariants.{Good, Faulty, Run, End}
use Rattle.cert_text.specs.declared.access.ClaimedAccess.{ClaimedAccess}
use Rattle.cert_text.specs.declared.claim.Claim.{Claim}
use Rattle.cert_text.specs.declared.claim.Claim.TheVariants.{Detected, Possible, Undetected, Race}

-- the parts, between single separators, of what stands behind one, if there is one
abbrev pub split_behind : ℕ → Option (Bor (List ℕ)) → List (List ℕ)
split_behind separator None = []
split_behind separator (Some rest) = slice_split (λ byte. nat_eq byte separator) rest.now

-- a line of a run
abbrev pub run_line_said : RunLine → plain_run.RunLine
run_line_said (Slot time) = plain_run.SlotAt time
run_line_said (Phase number) = plain_run.PhaseNumber number
run_line_said (Steps process count) = plain_run.StepsOf process count
run_line_said (Updates process count) = plain_run.UpdatesOf process count

-- a line of a certificate
abbrev pub cert_line_plain : CertLine → plain_line.CertLine
cert_line_plain Good = plain_line.GoodBegins
cert_line_plain Faulty = plain_line.FaultyBegins
cert_line_plain (Run line) = plain_line.Runs (run_line_said line)
cert_line_plain End = plain_line.Closes

-- a line of a certificate, or a line of no form
abbrev pub cert_line_said : Option CertLine → plain_line.CertLine
cert_line_said None = plain_line.Formless
cert_line_said (Some line) = cert_line_plain line

-- the text of an access: its kind, its object, its process behind `p` (112) and its line behind `l` (108)
abbrev pub access_said : ClaimedAccess → List ℕ
access_said access =
    spaced (kind_text access.kind) (spaced access.object.now (spaced (112 ∷ decimal (process_number access.process)) (108 ∷ decimal access.line)))

-- a claim
abbrev pub claim_said : Claim → plain_claim.Claim
claim_said (Detected time) = plain_claim.Says (plain_grade.Detected time)
claim_said (Possible time) = plain_claim.Says (plain_grade.Possible time)
claim_said Undetected = plain_claim.Says plain_grade.Undetected
claim_said (Race race) = plain_claim.Races race.side race.time race.phase (access_said race.first) (access_said race.second)

-- a fault with a claim
abbrev pub claimed_said : Fault × Claim → StuckAt × plain_claim.Claim
claimed_said claimed = (fault_of claimed.0, claim_said claimed.1)
