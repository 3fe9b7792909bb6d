-- The lines of a text, the words of a line, and the numbers that digits spell (the format is this program's own).
use Rattle.std.specs.Prelude.{ℕ, ◌+◌, ◌*◌, ◌-◌, List, [], ◌∷◌, Bool, true, false, ◌&&◌, ◌||◌, ◌==◌, nat_le, nat_lt, Option, Some, None, filter, length, take, slice_index, if◌then◌else◌}
use Rattle.std.specs.List.{slice_split}

-- Bytes

-- the line feed
abbrev pub is_line_feed : ℕ → Bool
is_line_feed b = b == 10

-- space or tab
abbrev pub is_space : ℕ → Bool
is_space b = b == 32 || b == 9

-- the mark of a comment
abbrev pub is_hash : ℕ → Bool
is_hash b = b == 35

-- a decimal digit
abbrev pub is_digit : ℕ → Bool
is_digit b = nat_le 48 b && nat_le b 57

-- Lines

-- a line without the carriage return at its end
abbrev pub without_return : List ℕ → List ℕ
without_return line = if nat_lt 0 (length line) && slice_index line (length line - 1) == 13 then take (length line - 1) line else line

-- a piece, where it has bytes
abbrev pub kept : List ℕ → List (List ℕ)
kept [] = []
kept (b ∷ bs) = (b ∷ bs) ∷ []

-- the pieces that line feeds end, and what stands after the last one if it has bytes
abbrev pub lines_of_pieces : List (List ℕ) → List (List ℕ)
lines_of_pieces [] = []
lines_of_pieces (last ∷ []) = kept last
lines_of_pieces (line ∷ next ∷ more) = without_return line ∷ lines_of_pieces (next ∷ more)

-- the lines of a text: a carriage return before a line feed is dropped, and bytes after the last line feed are a line too
abbrev pub lines_of : List ℕ → List (List ℕ)
lines_of text = lines_of_pieces (slice_split is_line_feed text)

-- Words

-- what stands before a line's comment
abbrev pub before_comment : List ℕ → List ℕ
before_comment [] = []
before_comment (b ∷ bs) = if is_hash b then [] else b ∷ before_comment bs

-- whether a piece has bytes
abbrev pub is_word : List ℕ → Bool
is_word [] = false
is_word (b ∷ bs) = true

-- the words of a line
abbrev pub words_of : List ℕ → List (List ℕ)
words_of line = filter is_word (slice_split is_space (before_comment line))

-- Numbers

-- the number that digits spell after those of another number
abbrev pub number_after : ℕ → List ℕ → Option ℕ
number_after n [] = Some n
number_after n (b ∷ bs) = if is_digit b then number_after (n * 10 + (b - 48)) bs else None
