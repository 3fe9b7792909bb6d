-- The response that a text spells, or its first line at fault (the format is this program's own).
use Rattle.std.specs.Prelude.{ℕ, ◌+◌, List, [], ◌∷◌, ◌++◌, length, Option, Some, None, Result, Ok, Err, nat_eq, if◌then◌else◌}
use Rattle.std.specs.Fmt.{decimal}
use Rattle.four_value.specs.declared.logic.Bit.{Bit}
use Rattle.four_value.specs.declared.logic.Bit.TheVariants.{Zero, One, X}
use Rattle.v_design.specs.Designs.{TestPlan}
use Rattle.v_design.specs.Grades.{Sample}
use Rattle.text_lines.specs.Text.{lines_of}
use Rattle.response_text.specs.declared.limits.TheConstants.{MAX_RESPONSE_BYTES}

-- Bits

-- 0 and 1 are observed, and `-` (45) is not: it is read as x
abbrev pub observed_bit : ℕ → Option Bit
observed_bit b = if nat_eq b 48 then Some Zero else if nat_eq b 49 then Some One else if nat_eq b 45 then Some X else None

-- a bit before others, if they are there
abbrev pub bits_and : Option Bit → Option (List Bit) → Option (List Bit)
bits_and None rest = None
bits_and (Some bit) None = None
bits_and (Some bit) (Some bits) = Some (bit ∷ bits)

-- the bits that some bytes spell, if each of them spells one
abbrev pub observed_bits : List ℕ → Option (List Bit)
observed_bits [] = Some []
observed_bits (b ∷ bs) = bits_and (observed_bit b) (observed_bits bs)

-- Lines

-- what stands behind these bytes, where a line begins with them
abbrev pub behind : List ℕ → List ℕ → Option (List ℕ)
behind [] line = Some line
behind (b ∷ bytes) [] = None
behind (b ∷ bytes) (c ∷ line) = if nat_eq b c then behind bytes line else None

-- the sample of a strobe, if there are so many bits
abbrev pub sample_if : ℕ → ℕ → Option (List Bit) → Option Sample
sample_if strobe width None = None
sample_if strobe width (Some bits) = if nat_eq (length bits) width then Some (record { time = strobe; bits = bits }) else None

-- the bits that a text spells, if it is there
abbrev pub bits_if : Option (List ℕ) → Option (List Bit)
bits_if None = None
bits_if (Some text) = observed_bits text

-- the sample that a line spells at a strobe: its time in decimal, one space, and one byte for each watched bit
abbrev pub sample_on : ℕ → ℕ → List ℕ → Option Sample
sample_on width strobe line = sample_if strobe width (bits_if (behind (decimal strobe ++ 32 ∷ []) line))

-- Texts

-- a line's sample before those of later lines, or the first line at fault
abbrev pub with_sample : Option Sample → ℕ → Result (List Sample) ℕ → Result (List Sample) ℕ
with_sample None number rest = Err number
with_sample (Some sample) number (Ok samples) = Ok (sample ∷ samples)
with_sample (Some sample) number (Err later) = Err later

-- the samples that lines spell, one for each strobe, or the number of the first line at fault, counted from this number on: one that isn't its strobe's, one too many, or
-- the one after the last where strobes are missing
abbrev pub samples_on : ℕ → ℕ → List ℕ → List (List ℕ) → Result (List Sample) ℕ
samples_on width number [] [] = Ok []
samples_on width number [] (line ∷ lines) = Err number
samples_on width number (strobe ∷ strobes) [] = Err number
samples_on width number (strobe ∷ strobes) (line ∷ lines) = with_sample (sample_on width strobe line) number (samples_on width (number + 1) strobes lines)

-- the most bytes of a response
abbrev pub most_bytes : ℕ
most_bytes = MAX_RESPONSE_BYTES

-- what a text means: one sample for each strobe in order, or its first line at fault
abbrev pub response_of : TestPlan → List ℕ → Result (List Sample) ℕ
response_of plan text = samples_on (length plan.watched) 1 plan.strobes (lines_of text)
