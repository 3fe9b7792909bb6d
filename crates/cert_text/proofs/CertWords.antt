-- The lines of a certificate as words.
use Rattle.std.proofs.Common.{◌≡◌, ℕ, ◌≤◌, List, [], ◌∷◌, ◌++◌, Some, map, codes, refl, ◌∙◌, ap, lit<}
use Rattle.std.specs.Fmt.{decimal}
use Rattle.vf_base.specs.Lists.{AllHold, joined}
use Rattle.cert_laws.specs.Claims.{number_within, most_long}
use Rattle.cert_laws.specs.Replays.{RunLine, SlotAt, PhaseNumber, StepsOf, UpdatesOf}
use Rattle.cert_laws.specs.Valid.{CertLine, GoodBegins, FaultyBegins, Runs, Closes, Formless, slot_line, phase_line, counted_line, line_by, line_of, lines_said}
use Rattle.cert_laws.specs.Written.{cert_line_text}
use Rattle.cert_text.specs.Fits.{RunFits, LineFits}
use Rattle.cert_text.proofs.Numbers.{number-spelled}
use Rattle.cert_text.proofs.Digits.{decimal-word, closed-word}
use Rattle.cert_text.proofs.Worded.{in_words, AreWords, ended, parts-words}

-- the words of a line of a run
abbrev pub run_words : RunLine → List (List ℕ)
run_words (SlotAt time) = codes "slot" ∷ decimal time ∷ []
run_words (PhaseNumber number) = codes "phase" ∷ decimal number ∷ []
run_words (StepsOf process count) = codes "p" ∷ decimal process ∷ decimal count ∷ []
run_words (UpdatesOf process count) = codes "u" ∷ decimal process ∷ decimal count ∷ []

-- the words of a line
abbrev pub cert_words : CertLine → List (List ℕ)
cert_words GoodBegins = codes "good" ∷ []
cert_words FaultyBegins = codes "faulty" ∷ []
cert_words (Runs line) = run_words line
cert_words Closes = codes "end" ∷ []
cert_words Formless = []

-- As they are written

run-text : (line : RunLine) → cert_line_text (Runs line) ≡ ended (run_words line)
run-text (SlotAt time) = refl
run-text (PhaseNumber number) = refl
run-text (StepsOf process count) = refl
run-text (UpdatesOf process count) = refl

line-text : (line : CertLine) → LineFits line → cert_line_text line ≡ ended (cert_words line)
line-text GoodBegins h = refl
line-text FaultyBegins h = refl
line-text (Runs line) h = run-text line
line-text Closes h = refl
line-text Formless h = absurd h

-- all of them
pub joined-text : (lines : List CertLine) → AllHold LineFits lines → joined (map cert_line_text lines) ≡ joined (map ended (map cert_words lines))
joined-text [] h = refl
joined-text (line ∷ lines) h = ap (λ l. l ++ joined (map cert_line_text lines)) (line-text line h.0) ∙ ap (λ l. ended (cert_words line) ++ l) (joined-text lines h.1)

run-are : (line : RunLine) → AreWords (run_words line)
run-are (SlotAt time) = (closed-word (codes "slot") refl, (decimal-word time, tt))
run-are (PhaseNumber number) = (closed-word (codes "phase") refl, (decimal-word number, tt))
run-are (StepsOf process count) = (closed-word (codes "p") refl, (decimal-word process, (decimal-word count, tt)))
run-are (UpdatesOf process count) = (closed-word (codes "u") refl, (decimal-word process, (decimal-word count, tt)))

line-are : (line : CertLine) → AreWords (cert_words line)
line-are GoodBegins = (closed-word (codes "good") refl, tt)
line-are FaultyBegins = (closed-word (codes "faulty") refl, tt)
line-are (Runs line) = run-are line
line-are Closes = (closed-word (codes "end") refl, tt)
line-are Formless = tt

pub lines-are : (lines : List CertLine) → AllHold AreWords (map cert_words lines)
lines-are [] = tt
lines-are (line ∷ lines) = (line-are line, lines-are lines)

-- As they are read

-- a number of 64 bits
pub long-spelled : (number : ℕ) → number ≤ most_long → number_within most_long (decimal number) ≡ Some number
long-spelled number h = number-spelled most_long number (lit< tt) h

counted-said : (line : ℕ → ℕ → RunLine) (process count : ℕ) → process ≤ most_long → count ≤ most_long →
    counted_line line (number_within most_long (decimal process)) (number_within most_long (decimal count)) ≡ Runs (line process count)
counted-said line process count few less =
    ap (λ p. counted_line line p (number_within most_long (decimal count))) (long-spelled process few) ∙ ap (counted_line line (Some process)) (long-spelled count less)

run-said : (line : RunLine) → RunFits line → line_of (in_words (run_words line)) ≡ Runs line
run-said (SlotAt time) h = ap line_by (parts-words (codes "slot") (decimal time ∷ []) (run-are (SlotAt time))) ∙ ap slot_line (long-spelled time h)
run-said (PhaseNumber number) h = ap line_by (parts-words (codes "phase") (decimal number ∷ []) (run-are (PhaseNumber number))) ∙ ap phase_line (long-spelled number h)
run-said (StepsOf process count) h =
    ap line_by (parts-words (codes "p") (decimal process ∷ decimal count ∷ []) (run-are (StepsOf process count))) ∙ counted-said StepsOf process count h.0 h.1
run-said (UpdatesOf process count) h =
    ap line_by (parts-words (codes "u") (decimal process ∷ decimal count ∷ []) (run-are (UpdatesOf process count))) ∙ counted-said UpdatesOf process count h.0 h.1

line-said : (line : CertLine) → LineFits line → line_of (in_words (cert_words line)) ≡ line
line-said GoodBegins h = ap line_by (parts-words (codes "good") [] (line-are GoodBegins))
line-said FaultyBegins h = ap line_by (parts-words (codes "faulty") [] (line-are FaultyBegins))
line-said (Runs line) h = run-said line h
line-said Closes h = ap line_by (parts-words (codes "end") [] (line-are Closes))
line-said Formless h = absurd h

-- all of them
pub lines-read : (lines : List CertLine) → AllHold LineFits lines → lines_said (map in_words (map cert_words lines)) ≡ lines
lines-read [] h = refl
lines-read (line ∷ lines) h =
    ap (λ l. l ∷ lines_said (map in_words (map cert_words lines))) (line-said line h.0) ∙ ap (λ l. line ∷ l) (lines-read lines h.1)
