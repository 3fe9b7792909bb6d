-- What `parse` says of tokens that are no unit: the place at which they stop being one, and whether they stop at something that is left out of the
-- language (IEEE 1364-2001, annexes A and B).
use Rattle.std.specs.Prelude.{◌≡◌, ℕ, Bool, true, false, ◌+◌, List, [], ◌∷◌, ◌++◌, ◌⊎◌}
use Rattle.vf_base.specs.Base.{SourcePlace, source_place}
use Rattle.v_tree.specs.Tokens.{SourceToken}
use Rattle.v_readers.specs.declared.class.Class.TheVariants.{RefusedWord, SystemName, FinishTask, Bang}
use Rattle.v_readers.specs.Classes.{class_of, token_of}
use Rattle.v_readers.specs.Reading.{place_of}
use Rattle.v_parse.specs.declared.fault.ParseFault.{ParseFault}
use Rattle.v_parse.specs.declared.fault.ParseFault.TheVariants.{Unexpected, Unsupported, TooDeep, NoMemory}
use Rattle.v_parse.specs.Verdict.{Begins, IsFirstWrong, IsFirstDeep}

-- the place behind the last token, or the beginning of a text without tokens
abbrev pub end_place : List SourceToken → SourcePlace
end_place [] = record { line = 1; column = 1 }
end_place (token ∷ []) = record { line = token.place.line; column = token.place.column + 1 }
end_place (token ∷ next ∷ rest) = end_place (next ∷ rest)

-- the place of the first of the tokens that are left, or that behind all
abbrev pub place_at : List SourceToken → List SourceToken → SourcePlace
place_at tokens [] = end_place tokens
place_at tokens (token ∷ rest) = place_of token

-- A statement could stand behind these tokens: `$finish` could, with which a statement begins. It stands nowhere else but in the parentheses of a
-- system task, where any token may stand.
abbrev pub StatementStands : List SourceToken → SourcePlace → Type 0
StatementStands front place = Begins (front ++ token_of FinishTask place ∷ [])

-- An operand could stand behind these tokens: `!` could, with which an operand begins, and which stands nowhere else but there.
abbrev pub OperandStands : List SourceToken → SourcePlace → Type 0
OperandStands front place = Begins (front ++ token_of Bang place ∷ [])

-- The token, which is wrong behind this front, is left out of the language: a word that is refused, or a system name where a statement or an
-- operand could stand.
abbrev pub IsLeftOut : List SourceToken → SourceToken → Type 0
IsLeftOut front token =
    (class_of token.kind ≡ RefusedWord) ⊎ ((class_of token.kind ≡ SystemName) × (StatementStands front (place_of token) ⊎ OperandStands front (place_of token)))

-- the first of the tokens that are left is left out of the language
abbrev pub StopsAtLeftOut : List SourceToken → List SourceToken → Type 0
StopsAtLeftOut front [] = ⊥
StopsAtLeftOut front (token ∷ rest) = IsLeftOut front token

-- The fault is that of the tokens: they stop being a unit with so many levels below its outermost ones at its place, for its reason.
abbrev pub IsFault : ℕ → List SourceToken → ParseFault → Type 0
IsFault levels tokens (Unexpected place) =
    (rest : List SourceToken) × (stop : IsFirstWrong levels tokens rest) × (source_place place ≡ place_at tokens rest) × (StopsAtLeftOut stop.front rest → ⊥)
IsFault levels tokens (Unsupported place) =
    (rest : List SourceToken) × (stop : IsFirstWrong levels tokens rest) × (source_place place ≡ place_at tokens rest) × StopsAtLeftOut stop.front rest
IsFault levels tokens (TooDeep place) = (rest : List SourceToken) × IsFirstDeep levels tokens rest × (source_place place ≡ place_at tokens rest)
IsFault levels tokens NoMemory = Unit {0}

-- a test tells whether something holds
abbrev pub Decides : Bool → Type 0 → Type 0
Decides true fact = fact
Decides false fact = fact → ⊥
