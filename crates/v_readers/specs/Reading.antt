-- Reading from left to right: a value and the tokens after it, or where and why reading stops.
use Rattle.std.specs.Prelude.{ℕ, zero, suc, Bool, false, List, [], ◌∷◌, length, Option, Some, None, Result, Ok, Err, nat_lt, if◌then◌else◌}
use Rattle.vf_base.specs.Base.{SourcePlace, source_place}
use Rattle.four_value.specs.Values.{LogicValue}
use Rattle.v_tree.specs.declared.token.NumberForm.{NumberForm}
use Rattle.v_tree.specs.declared.token.NumberForm.TheVariants.{Plain}
use Rattle.v_tree.specs.declared.token.TokenKind.{TokenKind}
use Rattle.v_tree.specs.declared.token.TokenKind.TheVariants as kinds
use Rattle.v_tree.specs.Tokens.{SourceToken}
use Rattle.v_tree.specs.Trees.{Identifier}
use Rattle.v_readers.specs.declared.class.Class.{Class}
use Rattle.v_readers.specs.declared.class.Class.TheVariants as classes
use Rattle.v_readers.specs.Classes.{class_of, same_class}

-- why reading stops: no text goes on so, or only one that is too deep
pub data Why : Type 0 where
  Wrong Deep : Why

-- the tokens from the one at which reading stops
pub record Stopped : Type 0 where
  pub why : Why
  pub rest : List SourceToken

abbrev pub Reading : Type 0 → Type 0
Reading A = Result (A × List SourceToken) Stopped

abbrev pub Reader : Type 0 → Type 0
Reader A = List SourceToken → Reading A

-- what comes of the value and the rest
abbrev pub followed : {A B : Type 0} → Reading A → (A → Reader B) → Reading B
followed (Ok x) next = next x.0 x.1
followed (Err stop) next = Err stop

infixl 10 ◌>>=◌
abbrev pub ◌>>=◌ : {A B : Type 0} → Reader A → (A → Reader B) → Reader B
◌>>=◌ first next tokens = followed (first tokens) next

abbrev pub give : {A : Type 0} → A → Reader A
give x tokens = Ok (x, tokens)

abbrev pub wrong : {A : Type 0} → Reader A
wrong tokens = Err (record { why = Wrong; rest = tokens })

abbrev pub deep : {A : Type 0} → Reader A
deep tokens = Err (record { why = Deep; rest = tokens })

-- the place of a token
abbrev pub place_of : SourceToken → SourcePlace
place_of token = source_place token.place

-- the class of the next token
abbrev pub next_class : List SourceToken → Option Class
next_class [] = None
next_class (token ∷ rest) = Some (class_of token.kind)

-- whether the next token is of this class
abbrev pub is_class : Class → Option Class → Bool
is_class class None = false
is_class class (Some other) = same_class class other

-- goes on by the class of the next token
abbrev pub by_class : {A : Type 0} → (Option Class → Reader A) → Reader A
by_class choice tokens = choice (next_class tokens) tokens

-- passes a token of this class, and gives it
abbrev pub pass : Class → Reader SourceToken
pass class [] = wrong []
pass class (token ∷ rest) = if same_class class (class_of token.kind) then give token rest else wrong (token ∷ rest)

-- passes a token of this class, and gives its place
abbrev pub expect : Class → Reader SourcePlace
expect class = pass class >>= λ token. give (place_of token)

-- passes the next token, and gives it
abbrev pub next : Reader SourceToken
next [] = wrong []
next (token ∷ rest) = give token rest

-- passes the next token, and gives its place
abbrev pub step : Reader SourcePlace
step = next >>= λ token. give (place_of token)

-- goes on where a level is left below the height of what stands on the left
abbrev pub ready : (low levels : ℕ) → Reader (Unit {0})
ready low levels tokens = if nat_lt low levels then give tt tokens else deep tokens

-- passes the next token to go one level down, where low is the height of what stands on its left there
abbrev pub down : (low levels : ℕ) → Reader SourcePlace
down low levels = ready low levels >>= λ level. step

-- the bytes of a name
abbrev pub name_in : TokenKind → Identifier
name_in (kinds.Word name) = name
name_in _ = []

-- passes a name, and gives it with its place
abbrev pub name : Reader (Identifier × SourcePlace)
name = pass classes.Name >>= λ token. give (name_in token.kind, place_of token)

-- a number's value and how it is written
abbrev pub number_in : TokenKind → LogicValue × NumberForm
number_in (kinds.Number value form) = (value, form)
number_in _ = ([], Plain)

-- passes a number, and gives its value, how it is written, and its place
abbrev pub number : Reader ((LogicValue × NumberForm) × SourcePlace)
number = pass classes.Number >>= λ token. give (number_in token.kind, place_of token)

-- the end of the tokens
abbrev pub end : Reader (Unit {0})
end [] = give tt []
end (token ∷ rest) = wrong (token ∷ rest)

-- one more turn, if this one took a token, or the end
abbrev pub turned : {S : Type 0} → (S → Reader S) → S → List SourceToken → Option S → Reader S
turned again s tokens None rest = give s rest
turned again s tokens (Some t) rest = if nat_lt (length rest) (length tokens) then again t rest else wrong rest

unfoldable pub turns : {S : Type 0} → ℕ → (S → Reader (Option S)) → S → Reader S
turns zero turn s tokens = wrong tokens
turns (suc n) turn s tokens = followed (turn s tokens) (turned (turns n turn) s tokens)

-- turns until one gives None
unfoldable pub repeat : {S : Type 0} → (S → Reader (Option S)) → S → Reader S
repeat turn s tokens = turns (suc (length tokens)) turn s tokens
