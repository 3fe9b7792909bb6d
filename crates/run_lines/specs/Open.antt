-- A line that is still open, and the lines behind it (the format is this program's own; events by IEEE 1364-2001, clause 5).
use Rattle.std.specs.Prelude.{◌≡◌, ℕ, ◌+◌, true, false, List, [], ◌∷◌, ◌++◌, map, Option, Some, None, nat_eq}
use Rattle.std.proofs.Common.{refl, sym, ap, ◌∙◌, append_assoc}
use Rattle.vf_base.specs.Lists.{AllHold, joined}
use Rattle.v_design.specs.States.{Event, Step, LaneStep, Evaluation, NetUpdate}
use Rattle.v_design.specs.Runs.{only_if}
use Rattle.cert_laws.specs.Replays.{RunLine, SlotAt, PhaseNumber, StepsOf, UpdatesOf}
use Rattle.cert_laws.specs.Written.{with_step, with_update, run_line_text}
use Rattle.cert_text.specs.Fits.{RunFits}
use Rattle.cert_text.specs.declared.line.RunLine.{RunLine as Line}
use Rattle.cert_text.specs.declared.line.RunLine.TheVariants.{Slot, Phase, Steps, Updates}

-- the text of some lines
abbrev pub lines_text : List RunLine → List ℕ
lines_text lines = joined (map run_line_text lines)

pub text-append : (xs ys : List RunLine) → lines_text (xs ++ ys) ≡ lines_text xs ++ lines_text ys
text-append [] ys = refl
text-append (x ∷ xs) ys = ap (λ l. run_line_text x ++ l) (text-append xs ys) ∙ sym (append_assoc (run_line_text x) (lines_text xs) (lines_text ys))

-- the numbers of all lines fit where those of both parts do
pub fits-append : (xs ys : List RunLine) → AllHold RunFits xs → AllHold RunFits ys → AllHold RunFits (xs ++ ys)
fits-append [] ys h k = k
fits-append (x ∷ xs) ys h k = (h.0, fits-append xs ys h.1 k)

-- an event before some lines
abbrev pub with_event : Event → List RunLine → List RunLine
with_event (Step process) lines = with_step process lines
with_event (LaneStep process) lines = with_update process lines
with_event (Evaluation node) lines = lines
with_event (NetUpdate node) lines = lines

-- some events before some lines
abbrev pub with_events : List Event → List RunLine → List RunLine
with_events [] lines = lines
with_events (event ∷ events) lines = with_event event (with_events events lines)

-- so many steps of a process before some lines
abbrev pub with_steps : ℕ → ℕ → List RunLine → List RunLine
with_steps process count [] = StepsOf process count ∷ []
with_steps process count (StepsOf other more ∷ lines) =
    elim (nat_eq other process) [ true ↦ StepsOf process (more + count) ∷ lines | false ↦ StepsOf process count ∷ StepsOf other more ∷ lines ]
with_steps process count (UpdatesOf other more ∷ lines) = StepsOf process count ∷ UpdatesOf other more ∷ lines
with_steps process count (SlotAt time ∷ lines) = StepsOf process count ∷ SlotAt time ∷ lines
with_steps process count (PhaseNumber number ∷ lines) = StepsOf process count ∷ PhaseNumber number ∷ lines

-- so many updates of a process before some lines
abbrev pub with_updates : ℕ → ℕ → List RunLine → List RunLine
with_updates process count [] = UpdatesOf process count ∷ []
with_updates process count (UpdatesOf other more ∷ lines) =
    elim (nat_eq other process) [ true ↦ UpdatesOf process (more + count) ∷ lines | false ↦ UpdatesOf process count ∷ UpdatesOf other more ∷ lines ]
with_updates process count (StepsOf other more ∷ lines) = UpdatesOf process count ∷ StepsOf other more ∷ lines
with_updates process count (SlotAt time ∷ lines) = UpdatesOf process count ∷ SlotAt time ∷ lines
with_updates process count (PhaseNumber number ∷ lines) = UpdatesOf process count ∷ PhaseNumber number ∷ lines

-- an open line before some lines
abbrev pub onto : RunLine → List RunLine → List RunLine
onto (SlotAt time) lines = SlotAt time ∷ lines
onto (PhaseNumber number) lines = PhaseNumber number ∷ lines
onto (StepsOf process count) lines = with_steps process count lines
onto (UpdatesOf process count) lines = with_updates process count lines

-- an open line with one more step of a process, where it is one of its steps
abbrev pub step_more : ℕ → RunLine → Option RunLine
step_more process (StepsOf other count) = only_if (nat_eq other process) (StepsOf process (count + 1))
step_more process (SlotAt time) = None
step_more process (PhaseNumber number) = None
step_more process (UpdatesOf other count) = None

-- the same of updates
abbrev pub update_more : ℕ → RunLine → Option RunLine
update_more process (UpdatesOf other count) = only_if (nat_eq other process) (UpdatesOf process (count + 1))
update_more process (SlotAt time) = None
update_more process (PhaseNumber number) = None
update_more process (StepsOf other count) = None

-- how many steps or updates a line has
abbrev pub count_in : Line → ℕ
count_in (Slot time) = 0
count_in (Phase number) = 0
count_in (Steps process count) = count
count_in (Updates process count) = count

-- the open line goes on, or it was written, so that its numbers fit, and the next one is open
abbrev pub IsAfter : List ℕ → RunLine → Option RunLine → RunLine → List ℕ → RunLine → Type 0
IsAfter old last None next new line = (new ≡ old ++ run_line_text last) × (line ≡ next) × RunFits last
IsAfter old last (Some longer) next new line = (new ≡ old) × (line ≡ longer)

-- from a text and the line that is open behind it to others, by what comes before any lines
abbrev pub GoesOn : List ℕ → RunLine → (List RunLine → List RunLine) → List ℕ → RunLine → Type 0
GoesOn old last before new line =
    (lines : List RunLine) → (new ++ lines_text (onto line lines) ≡ old ++ lines_text (onto last (before lines)))
    × (AllHold RunFits (onto line lines) → AllHold RunFits (onto last (before lines)))
