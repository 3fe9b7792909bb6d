-- What a token is without what it carries (IEEE 1364-2001, clauses 2.1 to 2.7 and annex B).
use Rattle.std.specs.Prelude.{◌≡◌, ℕ, Bool, true, false, List, [], ◌∷◌, Option, Some, None, if◌then◌else◌, codes}
use Rattle.std.specs.List.{list_any}
use Rattle.std.specs.Str.{bytes_eq}
use denote.Enum.Bare.{sameb}
use Rattle.vf_base.specs.Base.{SourcePlace}
use Rattle.four_value.specs.Values.{LogicValue}
use Rattle.four_value.specs.declared.logic.Bit.TheVariants.{Zero}
use Rattle.v_tree.specs.declared.token.TokenKind.{TokenKind}
use Rattle.v_tree.specs.declared.token.TokenKind.TheVariants as kinds
use Rattle.v_tree.specs.declared.token.NumberForm.{NumberForm}
use Rattle.v_tree.specs.declared.token.NumberForm.TheVariants.{Plain}
use Rattle.v_tree.specs.declared.token.Mark.{Mark}
use Rattle.v_tree.specs.declared.token.Mark.TheVariants as marks
use Rattle.v_tree.specs.Tokens.{SourceToken}
use Rattle.v_readers.specs.declared.class.Class.{Class}
use Rattle.v_readers.specs.declared.class.Class.TheVariants as classes
use Rattle.v_readers.specs.contracts.class.Class.{the_type}

-- whether two classes are the same
abbrev pub same_class : Class → Class → Bool
same_class a b = sameb the_type a b

-- Words

-- the words of the grammar
abbrev pub grammar_words : List (List ℕ × Class)
grammar_words =
    (codes "module", classes.Module) ∷ (codes "endmodule", classes.EndModule) ∷ (codes "parameter", classes.Parameter) ∷
    (codes "localparam", classes.LocalParameter) ∷ (codes "input", classes.Input) ∷ (codes "output", classes.Output) ∷
    (codes "wire", classes.Wire) ∷ (codes "reg", classes.Reg) ∷ (codes "integer", classes.Integer) ∷
    (codes "signed", classes.Signed) ∷ (codes "assign", classes.AssignWord) ∷ (codes "and", classes.AndWord) ∷
    (codes "nand", classes.NandWord) ∷ (codes "or", classes.OrWord) ∷ (codes "nor", classes.NorWord) ∷
    (codes "xor", classes.XorWord) ∷ (codes "xnor", classes.XnorWord) ∷ (codes "buf", classes.BufWord) ∷
    (codes "not", classes.NotWord) ∷ (codes "initial", classes.Initial) ∷ (codes "always", classes.Always) ∷
    (codes "begin", classes.Begin) ∷ (codes "end", classes.End) ∷ (codes "if", classes.If) ∷ (codes "else", classes.Else) ∷
    (codes "case", classes.Case) ∷ (codes "casez", classes.CaseZ) ∷ (codes "casex", classes.CaseX) ∷
    (codes "endcase", classes.EndCase) ∷ (codes "default", classes.Default) ∷ (codes "for", classes.For) ∷
    (codes "while", classes.While) ∷ (codes "repeat", classes.Repeat) ∷ (codes "forever", classes.Forever) ∷
    (codes "wait", classes.Wait) ∷ (codes "posedge", classes.PosEdge) ∷ (codes "negedge", classes.NegEdge) ∷ []

-- the words that no text here may have
abbrev pub refused_words : List (List ℕ)
refused_words =
    codes "automatic" ∷ codes "bufif0" ∷ codes "bufif1" ∷ codes "cell" ∷ codes "cmos" ∷ codes "config" ∷ codes "deassign" ∷
    codes "defparam" ∷ codes "design" ∷ codes "disable" ∷ codes "edge" ∷ codes "endconfig" ∷ codes "endfunction" ∷
    codes "endgenerate" ∷ codes "endprimitive" ∷ codes "endspecify" ∷ codes "endtable" ∷ codes "endtask" ∷ codes "event" ∷
    codes "force" ∷ codes "fork" ∷ codes "function" ∷ codes "generate" ∷ codes "genvar" ∷ codes "highz0" ∷ codes "highz1" ∷
    codes "ifnone" ∷ codes "incdir" ∷ codes "include" ∷ codes "inout" ∷ codes "instance" ∷ codes "join" ∷ codes "large" ∷
    codes "liblist" ∷ codes "library" ∷ codes "macromodule" ∷ codes "medium" ∷ codes "nmos" ∷ codes "noshowcancelled" ∷
    codes "notif0" ∷ codes "notif1" ∷ codes "pmos" ∷ codes "primitive" ∷ codes "pull0" ∷ codes "pull1" ∷ codes "pulldown" ∷
    codes "pullup" ∷ codes "pulsestyle_ondetect" ∷ codes "pulsestyle_onevent" ∷ codes "rcmos" ∷ codes "real" ∷ codes "realtime" ∷
    codes "release" ∷ codes "rnmos" ∷ codes "rpmos" ∷ codes "rtran" ∷ codes "rtranif0" ∷ codes "rtranif1" ∷ codes "scalared" ∷
    codes "showcancelled" ∷ codes "small" ∷ codes "specify" ∷ codes "specparam" ∷ codes "strong0" ∷ codes "strong1" ∷
    codes "supply0" ∷ codes "supply1" ∷ codes "table" ∷ codes "task" ∷ codes "time" ∷ codes "tran" ∷ codes "tranif0" ∷
    codes "tranif1" ∷ codes "tri" ∷ codes "tri0" ∷ codes "tri1" ∷ codes "triand" ∷ codes "trior" ∷ codes "trireg" ∷
    codes "unsigned" ∷ codes "use" ∷ codes "vectored" ∷ codes "wand" ∷ codes "weak0" ∷ codes "weak1" ∷ codes "wor" ∷ []

-- the system tasks that are read and do nothing
abbrev pub ignored_tasks : List (List ℕ)
ignored_tasks = codes "$display" ∷ codes "$write" ∷ codes "$monitor" ∷ codes "$strobe" ∷ codes "$dumpfile" ∷ codes "$dumpvars" ∷ []

-- the system tasks that end their process
abbrev pub finish_tasks : List (List ℕ)
finish_tasks = codes "$finish" ∷ codes "$stop" ∷ []

-- the class of the first of some words that the bytes are
abbrev pub class_among : List (List ℕ × Class) → List ℕ → Option Class
class_among [] bytes = None
class_among (word ∷ words) bytes = if bytes_eq bytes word.0 then Some word.1 else class_among words bytes

-- the word of the grammar that the bytes are
unfoldable pub grammar_class : List ℕ → Option Class
grammar_class word = class_among grammar_words word

unfoldable pub is_refused_word : List ℕ → Bool
is_refused_word word = list_any (bytes_eq word) refused_words

-- a word that is none of the grammar's
abbrev pub other_class : Bool → Class
other_class true = classes.RefusedWord
other_class false = classes.Name

abbrev pub class_or : Option Class → Class → Class
class_or (Some class) other = class
class_or None other = other

-- what a name or a word is
unfoldable pub word_class : List ℕ → Class
word_class word = class_or (grammar_class word) (other_class (is_refused_word word))

-- what a system name is
unfoldable pub system_class : List ℕ → Class
system_class name =
    if list_any (bytes_eq name) ignored_tasks then classes.IgnoredTask
    else (if list_any (bytes_eq name) finish_tasks then classes.FinishTask else classes.SystemName)

-- Classes of tokens

abbrev pub class_of_mark : Mark → Class
class_of_mark marks.CaseEqual = classes.CaseEqual
class_of_mark marks.CaseNotEqual = classes.CaseNotEqual
class_of_mark marks.ArithmeticShiftLeft = classes.ArithmeticShiftLeft
class_of_mark marks.ArithmeticShiftRight = classes.ArithmeticShiftRight
class_of_mark marks.LogicalAnd = classes.LogicalAnd
class_of_mark marks.LogicalOr = classes.LogicalOr
class_of_mark marks.Equal = classes.Equal
class_of_mark marks.NotEqual = classes.NotEqual
class_of_mark marks.LessEqual = classes.LessEqual
class_of_mark marks.GreaterEqual = classes.GreaterEqual
class_of_mark marks.ShiftLeft = classes.ShiftLeft
class_of_mark marks.ShiftRight = classes.ShiftRight
class_of_mark marks.Nand = classes.Nand
class_of_mark marks.Nor = classes.Nor
class_of_mark marks.TildeCaret = classes.TildeCaret
class_of_mark marks.CaretTilde = classes.CaretTilde
class_of_mark marks.Plus = classes.Plus
class_of_mark marks.Minus = classes.Minus
class_of_mark marks.Star = classes.Star
class_of_mark marks.Slash = classes.Slash
class_of_mark marks.Percent = classes.Percent
class_of_mark marks.Bang = classes.Bang
class_of_mark marks.Tilde = classes.Tilde
class_of_mark marks.And = classes.And
class_of_mark marks.Or = classes.Or
class_of_mark marks.Caret = classes.Caret
class_of_mark marks.Less = classes.Less
class_of_mark marks.Greater = classes.Greater
class_of_mark marks.Assign = classes.Assign
class_of_mark marks.Question = classes.Question
class_of_mark marks.Colon = classes.Colon
class_of_mark marks.Semicolon = classes.Semicolon
class_of_mark marks.Comma = classes.Comma
class_of_mark marks.Dot = classes.Dot
class_of_mark marks.LeftParen = classes.LeftParen
class_of_mark marks.RightParen = classes.RightParen
class_of_mark marks.LeftBracket = classes.LeftBracket
class_of_mark marks.RightBracket = classes.RightBracket
class_of_mark marks.LeftBrace = classes.LeftBrace
class_of_mark marks.RightBrace = classes.RightBrace
class_of_mark marks.Hash = classes.Hash
class_of_mark marks.At = classes.At

-- what a token of this kind is
abbrev pub class_of : TokenKind → Class
class_of (kinds.Word word) = word_class word
class_of (kinds.System name) = system_class name
class_of (kinds.Number value form) = classes.Number
class_of (kinds.Mark mark) = class_of_mark mark
class_of kinds.Str = classes.Str

-- a kind of this class; a mark and a word of the grammar have no other
abbrev pub kind_of : Class → TokenKind
kind_of classes.CaseEqual = kinds.Mark marks.CaseEqual
kind_of classes.CaseNotEqual = kinds.Mark marks.CaseNotEqual
kind_of classes.ArithmeticShiftLeft = kinds.Mark marks.ArithmeticShiftLeft
kind_of classes.ArithmeticShiftRight = kinds.Mark marks.ArithmeticShiftRight
kind_of classes.LogicalAnd = kinds.Mark marks.LogicalAnd
kind_of classes.LogicalOr = kinds.Mark marks.LogicalOr
kind_of classes.Equal = kinds.Mark marks.Equal
kind_of classes.NotEqual = kinds.Mark marks.NotEqual
kind_of classes.LessEqual = kinds.Mark marks.LessEqual
kind_of classes.GreaterEqual = kinds.Mark marks.GreaterEqual
kind_of classes.ShiftLeft = kinds.Mark marks.ShiftLeft
kind_of classes.ShiftRight = kinds.Mark marks.ShiftRight
kind_of classes.Nand = kinds.Mark marks.Nand
kind_of classes.Nor = kinds.Mark marks.Nor
kind_of classes.TildeCaret = kinds.Mark marks.TildeCaret
kind_of classes.CaretTilde = kinds.Mark marks.CaretTilde
kind_of classes.Plus = kinds.Mark marks.Plus
kind_of classes.Minus = kinds.Mark marks.Minus
kind_of classes.Star = kinds.Mark marks.Star
kind_of classes.Slash = kinds.Mark marks.Slash
kind_of classes.Percent = kinds.Mark marks.Percent
kind_of classes.Bang = kinds.Mark marks.Bang
kind_of classes.Tilde = kinds.Mark marks.Tilde
kind_of classes.And = kinds.Mark marks.And
kind_of classes.Or = kinds.Mark marks.Or
kind_of classes.Caret = kinds.Mark marks.Caret
kind_of classes.Less = kinds.Mark marks.Less
kind_of classes.Greater = kinds.Mark marks.Greater
kind_of classes.Assign = kinds.Mark marks.Assign
kind_of classes.Question = kinds.Mark marks.Question
kind_of classes.Colon = kinds.Mark marks.Colon
kind_of classes.Semicolon = kinds.Mark marks.Semicolon
kind_of classes.Comma = kinds.Mark marks.Comma
kind_of classes.Dot = kinds.Mark marks.Dot
kind_of classes.LeftParen = kinds.Mark marks.LeftParen
kind_of classes.RightParen = kinds.Mark marks.RightParen
kind_of classes.LeftBracket = kinds.Mark marks.LeftBracket
kind_of classes.RightBracket = kinds.Mark marks.RightBracket
kind_of classes.LeftBrace = kinds.Mark marks.LeftBrace
kind_of classes.RightBrace = kinds.Mark marks.RightBrace
kind_of classes.Hash = kinds.Mark marks.Hash
kind_of classes.At = kinds.Mark marks.At
kind_of classes.Module = kinds.Word (codes "module")
kind_of classes.EndModule = kinds.Word (codes "endmodule")
kind_of classes.Parameter = kinds.Word (codes "parameter")
kind_of classes.LocalParameter = kinds.Word (codes "localparam")
kind_of classes.Input = kinds.Word (codes "input")
kind_of classes.Output = kinds.Word (codes "output")
kind_of classes.Wire = kinds.Word (codes "wire")
kind_of classes.Reg = kinds.Word (codes "reg")
kind_of classes.Integer = kinds.Word (codes "integer")
kind_of classes.Signed = kinds.Word (codes "signed")
kind_of classes.AssignWord = kinds.Word (codes "assign")
kind_of classes.AndWord = kinds.Word (codes "and")
kind_of classes.NandWord = kinds.Word (codes "nand")
kind_of classes.OrWord = kinds.Word (codes "or")
kind_of classes.NorWord = kinds.Word (codes "nor")
kind_of classes.XorWord = kinds.Word (codes "xor")
kind_of classes.XnorWord = kinds.Word (codes "xnor")
kind_of classes.BufWord = kinds.Word (codes "buf")
kind_of classes.NotWord = kinds.Word (codes "not")
kind_of classes.Initial = kinds.Word (codes "initial")
kind_of classes.Always = kinds.Word (codes "always")
kind_of classes.Begin = kinds.Word (codes "begin")
kind_of classes.End = kinds.Word (codes "end")
kind_of classes.If = kinds.Word (codes "if")
kind_of classes.Else = kinds.Word (codes "else")
kind_of classes.Case = kinds.Word (codes "case")
kind_of classes.CaseZ = kinds.Word (codes "casez")
kind_of classes.CaseX = kinds.Word (codes "casex")
kind_of classes.EndCase = kinds.Word (codes "endcase")
kind_of classes.Default = kinds.Word (codes "default")
kind_of classes.For = kinds.Word (codes "for")
kind_of classes.While = kinds.Word (codes "while")
kind_of classes.Repeat = kinds.Word (codes "repeat")
kind_of classes.Forever = kinds.Word (codes "forever")
kind_of classes.Wait = kinds.Word (codes "wait")
kind_of classes.PosEdge = kinds.Word (codes "posedge")
kind_of classes.NegEdge = kinds.Word (codes "negedge")
kind_of classes.Name = kinds.Word (codes "a")
kind_of classes.Number = kinds.Number (Zero ∷ []) Plain
kind_of classes.Str = kinds.Str
kind_of classes.IgnoredTask = kinds.System (codes "$display")
kind_of classes.FinishTask = kinds.System (codes "$finish")
kind_of classes.SystemName = kinds.System (codes "$time")
kind_of classes.RefusedWord = kinds.Word (codes "fork")

-- whether all tokens of a class are of one kind
abbrev pub is_fixed : Class → Bool
is_fixed classes.Name = false
is_fixed classes.Number = false
is_fixed classes.IgnoredTask = false
is_fixed classes.FinishTask = false
is_fixed classes.SystemName = false
is_fixed classes.RefusedWord = false
is_fixed _ = true

-- Tokens

abbrev pub token_at : TokenKind → SourcePlace → SourceToken
token_at kind place = record { kind = kind; place = record { line = place.line; column = place.column } }

-- the token of a mark or a word of the grammar
abbrev pub token_of : Class → SourcePlace → SourceToken
token_of class place = token_at (kind_of class) place

-- the token of a name
abbrev pub name_token : List ℕ → SourcePlace → SourceToken
name_token name place = token_at (kinds.Word name) place

-- the token of a number
abbrev pub number_token : LogicValue → NumberForm → SourcePlace → SourceToken
number_token value form place = token_at (kinds.Number value form) place

-- whether bytes are a name: a word that is none of the language's
abbrev pub IsName : List ℕ → Type 0
IsName bytes = word_class bytes ≡ classes.Name
