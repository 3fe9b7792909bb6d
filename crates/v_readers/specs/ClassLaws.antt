-- A class and its kinds of tokens.
use Rattle.std.proofs.Common.{◌≡◌, ℕ, Bool, true, false, List, [], ◌∷◌, Option, Some, None, refl, sym, ◌∙◌, ap, ◌⊎◌, inl, inr, if◌then◌else◌}
use Rattle.std.specs.List.{list_any}
use Rattle.std.specs.Str.{bytes_eq}
use denote.Enum.Bare.{same_true, true_same}
use Rattle.std.proofs.lemmas.Slice.Eq.{bytes_eq-Decides}
use Rattle.four_value.specs.declared.logic.Bit.TheVariants.{Zero}
use Rattle.v_tree.specs.declared.token.NumberForm.TheVariants.{Plain}
use Rattle.v_tree.specs.declared.token.TokenKind.{TokenKind}
use Rattle.v_tree.specs.declared.token.TokenKind.TheVariants as kinds
use Rattle.v_tree.specs.declared.token.Mark.{Mark}
use Rattle.v_tree.specs.declared.token.Mark.TheVariants as marks
use Rattle.v_readers.specs.declared.class.Class.{Class}
use Rattle.v_readers.specs.declared.class.Class.TheVariants as classes
use Rattle.v_readers.specs.contracts.class.Class.{the_type}
use Rattle.v_readers.specs.Classes.{same_class, grammar_words, ignored_tasks, finish_tasks, class_among, grammar_class, is_refused_word, other_class, class_or, word_class, system_class}
use Rattle.v_readers.specs.Classes.{class_of_mark, class_of, kind_of, is_fixed}
use Rattle.v_readers.specs.Reading.{name_in, number_in}

-- two classes that are the same are equal, and the other way round
pub same_class-true : (a b : Class) → same_class a b ≡ true → a ≡ b
same_class-true a b h = same_true the_type tt a b h

pub same_class-same : (a : Class) → same_class a a ≡ true
same_class-same a = true_same the_type a a refl

-- the kind that stands for a class is of it
pub class_of-kind_of : (class : Class) → class_of (kind_of class) ≡ class
unfolding word_class system_class grammar_class is_refused_word
class_of-kind_of classes.CaseEqual = refl
class_of-kind_of classes.CaseNotEqual = refl
class_of-kind_of classes.ArithmeticShiftLeft = refl
class_of-kind_of classes.ArithmeticShiftRight = refl
class_of-kind_of classes.LogicalAnd = refl
class_of-kind_of classes.LogicalOr = refl
class_of-kind_of classes.Equal = refl
class_of-kind_of classes.NotEqual = refl
class_of-kind_of classes.LessEqual = refl
class_of-kind_of classes.GreaterEqual = refl
class_of-kind_of classes.ShiftLeft = refl
class_of-kind_of classes.ShiftRight = refl
class_of-kind_of classes.Nand = refl
class_of-kind_of classes.Nor = refl
class_of-kind_of classes.TildeCaret = refl
class_of-kind_of classes.CaretTilde = refl
class_of-kind_of classes.Plus = refl
class_of-kind_of classes.Minus = refl
class_of-kind_of classes.Star = refl
class_of-kind_of classes.Slash = refl
class_of-kind_of classes.Percent = refl
class_of-kind_of classes.Bang = refl
class_of-kind_of classes.Tilde = refl
class_of-kind_of classes.And = refl
class_of-kind_of classes.Or = refl
class_of-kind_of classes.Caret = refl
class_of-kind_of classes.Less = refl
class_of-kind_of classes.Greater = refl
class_of-kind_of classes.Assign = refl
class_of-kind_of classes.Question = refl
class_of-kind_of classes.Colon = refl
class_of-kind_of classes.Semicolon = refl
class_of-kind_of classes.Comma = refl
class_of-kind_of classes.Dot = refl
class_of-kind_of classes.LeftParen = refl
class_of-kind_of classes.RightParen = refl
class_of-kind_of classes.LeftBracket = refl
class_of-kind_of classes.RightBracket = refl
class_of-kind_of classes.LeftBrace = refl
class_of-kind_of classes.RightBrace = refl
class_of-kind_of classes.Hash = refl
class_of-kind_of classes.At = refl
class_of-kind_of classes.Module = refl
class_of-kind_of classes.EndModule = refl
class_of-kind_of classes.Parameter = refl
class_of-kind_of classes.LocalParameter = refl
class_of-kind_of classes.Input = refl
class_of-kind_of classes.Output = refl
class_of-kind_of classes.Wire = refl
class_of-kind_of classes.Reg = refl
class_of-kind_of classes.Integer = refl
class_of-kind_of classes.Signed = refl
class_of-kind_of classes.AssignWord = refl
class_of-kind_of classes.AndWord = refl
class_of-kind_of classes.NandWord = refl
class_of-kind_of classes.OrWord = refl
class_of-kind_of classes.NorWord = refl
class_of-kind_of classes.XorWord = refl
class_of-kind_of classes.XnorWord = refl
class_of-kind_of classes.BufWord = refl
class_of-kind_of classes.NotWord = refl
class_of-kind_of classes.Initial = refl
class_of-kind_of classes.Always = refl
class_of-kind_of classes.Begin = refl
class_of-kind_of classes.End = refl
class_of-kind_of classes.If = refl
class_of-kind_of classes.Else = refl
class_of-kind_of classes.Case = refl
class_of-kind_of classes.CaseZ = refl
class_of-kind_of classes.CaseX = refl
class_of-kind_of classes.EndCase = refl
class_of-kind_of classes.Default = refl
class_of-kind_of classes.For = refl
class_of-kind_of classes.While = refl
class_of-kind_of classes.Repeat = refl
class_of-kind_of classes.Forever = refl
class_of-kind_of classes.Wait = refl
class_of-kind_of classes.PosEdge = refl
class_of-kind_of classes.NegEdge = refl
class_of-kind_of classes.Name = refl
class_of-kind_of classes.Number = refl
class_of-kind_of classes.Str = refl
class_of-kind_of classes.IgnoredTask = refl
class_of-kind_of classes.FinishTask = refl
class_of-kind_of classes.SystemName = refl
class_of-kind_of classes.RefusedWord = refl

-- whether each of some words is the kind of its class
abbrev kinds_agree : List (List ℕ × Class) → Type 0
kinds_agree [] = Unit {0}
kinds_agree (word ∷ words) = (kinds.Word word.0 ≡ kind_of word.1) × kinds_agree words

some_class : (a b : Class) → ◌≡◌ {A = Option Class} (Some a) (Some b) → a ≡ b
some_class a b e = cc

-- a class among some words is that of one of them
among-word : (words : List (List ℕ × Class)) → kinds_agree words → (bytes : List ℕ) (class : Class) → class_among words bytes ≡ Some class → kinds.Word bytes ≡ kind_of class
among-word [] all bytes class e = absurd (let p : ◌≡◌ {A = Option Class} None (Some class) = e in cc)
among-word (word ∷ words) all bytes class e = at (bytes_eq bytes word.0) refl e (among-word words all.1 bytes class)
  where
    at : (b : Bool) → bytes_eq bytes word.0 ≡ b → (if b then Some word.1 else class_among words bytes) ≡ Some class
        → (class_among words bytes ≡ Some class → kinds.Word bytes ≡ kind_of class) → kinds.Word bytes ≡ kind_of class
    at true h e later =
        let same : bytes ≡ word.0 = (bytes_eq-Decides bytes word.0).0 h in
        let is : word.1 ≡ class = some_class word.1 class e in
        ap kinds.Word same ∙ all.0 ∙ ap kind_of is
    at false h e later = later e

grammar_words-agree : kinds_agree grammar_words
grammar_words-agree = (
  refl,
  (
    refl,
    (
      refl,
      (
        refl,
        (
          refl,
          (
            refl,
            (
              refl,
              (
                refl,
                (
                  refl,
                  (
                    refl,
                    (
                      refl,
                      (
                        refl,
                        (
                          refl,
                          (
                            refl,
                            (
                              refl,
                              (
                                refl,
                                (
                                  refl,
                                  (
                                    refl,
                                    (
                                      refl,
                                      (
                                        refl,
                                        (
                                          refl,
                                          (
                                            refl,
                                            (
                                              refl,
                                              (refl, (refl, (refl, (refl, (refl, (refl, (refl, (refl, (refl, (refl, (refl, (refl, (refl, (refl, tt)))))))))))))),
                                            ),
                                          ),
                                        ),
                                      ),
                                    ),
                                  ),
                                ),
                              ),
                            ),
                          ),
                        ),
                      ),
                    ),
                  ),
                ),
              ),
            ),
          ),
        ),
      ),
    ),
  ),
)

-- a mark is the only kind of its class
kind_of-class_of_mark : (mark : Mark) → kinds.Mark mark ≡ kind_of (class_of_mark mark)
kind_of-class_of_mark marks.CaseEqual = refl
kind_of-class_of_mark marks.CaseNotEqual = refl
kind_of-class_of_mark marks.ArithmeticShiftLeft = refl
kind_of-class_of_mark marks.ArithmeticShiftRight = refl
kind_of-class_of_mark marks.LogicalAnd = refl
kind_of-class_of_mark marks.LogicalOr = refl
kind_of-class_of_mark marks.Equal = refl
kind_of-class_of_mark marks.NotEqual = refl
kind_of-class_of_mark marks.LessEqual = refl
kind_of-class_of_mark marks.GreaterEqual = refl
kind_of-class_of_mark marks.ShiftLeft = refl
kind_of-class_of_mark marks.ShiftRight = refl
kind_of-class_of_mark marks.Nand = refl
kind_of-class_of_mark marks.Nor = refl
kind_of-class_of_mark marks.TildeCaret = refl
kind_of-class_of_mark marks.CaretTilde = refl
kind_of-class_of_mark marks.Plus = refl
kind_of-class_of_mark marks.Minus = refl
kind_of-class_of_mark marks.Star = refl
kind_of-class_of_mark marks.Slash = refl
kind_of-class_of_mark marks.Percent = refl
kind_of-class_of_mark marks.Bang = refl
kind_of-class_of_mark marks.Tilde = refl
kind_of-class_of_mark marks.And = refl
kind_of-class_of_mark marks.Or = refl
kind_of-class_of_mark marks.Caret = refl
kind_of-class_of_mark marks.Less = refl
kind_of-class_of_mark marks.Greater = refl
kind_of-class_of_mark marks.Assign = refl
kind_of-class_of_mark marks.Question = refl
kind_of-class_of_mark marks.Colon = refl
kind_of-class_of_mark marks.Semicolon = refl
kind_of-class_of_mark marks.Comma = refl
kind_of-class_of_mark marks.Dot = refl
kind_of-class_of_mark marks.LeftParen = refl
kind_of-class_of_mark marks.RightParen = refl
kind_of-class_of_mark marks.LeftBracket = refl
kind_of-class_of_mark marks.RightBracket = refl
kind_of-class_of_mark marks.LeftBrace = refl
kind_of-class_of_mark marks.RightBrace = refl
kind_of-class_of_mark marks.Hash = refl
kind_of-class_of_mark marks.At = refl

is_fixed-mark : (mark : Mark) → is_fixed (class_of_mark mark) ≡ true
is_fixed-mark marks.CaseEqual = refl
is_fixed-mark marks.CaseNotEqual = refl
is_fixed-mark marks.ArithmeticShiftLeft = refl
is_fixed-mark marks.ArithmeticShiftRight = refl
is_fixed-mark marks.LogicalAnd = refl
is_fixed-mark marks.LogicalOr = refl
is_fixed-mark marks.Equal = refl
is_fixed-mark marks.NotEqual = refl
is_fixed-mark marks.LessEqual = refl
is_fixed-mark marks.GreaterEqual = refl
is_fixed-mark marks.ShiftLeft = refl
is_fixed-mark marks.ShiftRight = refl
is_fixed-mark marks.Nand = refl
is_fixed-mark marks.Nor = refl
is_fixed-mark marks.TildeCaret = refl
is_fixed-mark marks.CaretTilde = refl
is_fixed-mark marks.Plus = refl
is_fixed-mark marks.Minus = refl
is_fixed-mark marks.Star = refl
is_fixed-mark marks.Slash = refl
is_fixed-mark marks.Percent = refl
is_fixed-mark marks.Bang = refl
is_fixed-mark marks.Tilde = refl
is_fixed-mark marks.And = refl
is_fixed-mark marks.Or = refl
is_fixed-mark marks.Caret = refl
is_fixed-mark marks.Less = refl
is_fixed-mark marks.Greater = refl
is_fixed-mark marks.Assign = refl
is_fixed-mark marks.Question = refl
is_fixed-mark marks.Colon = refl
is_fixed-mark marks.Semicolon = refl
is_fixed-mark marks.Comma = refl
is_fixed-mark marks.Dot = refl
is_fixed-mark marks.LeftParen = refl
is_fixed-mark marks.RightParen = refl
is_fixed-mark marks.LeftBracket = refl
is_fixed-mark marks.RightBracket = refl
is_fixed-mark marks.LeftBrace = refl
is_fixed-mark marks.RightBrace = refl
is_fixed-mark marks.Hash = refl
is_fixed-mark marks.At = refl

-- a word that is none of the grammar's has no class with one kind
not_fixed-other : (b : Bool) → is_fixed (other_class b) ≡ false
not_fixed-other true = refl
not_fixed-other false = refl

kind_of-word : (bytes : List ℕ) → is_fixed (word_class bytes) ≡ true → kinds.Word bytes ≡ kind_of (word_class bytes)
unfolding word_class grammar_class
kind_of-word bytes h = at (class_among grammar_words bytes) refl h
  where
    at : (o : Option Class) → class_among grammar_words bytes ≡ o → is_fixed (class_or o (other_class (is_refused_word bytes))) ≡ true →
        kinds.Word bytes ≡ kind_of (class_or o (other_class (is_refused_word bytes)))
    at None e h = absurd (let p : false ≡ true = sym (not_fixed-other (is_refused_word bytes)) ∙ h in cc)
    at (Some class) e h = among-word grammar_words grammar_words-agree bytes class e

-- a system name has no class with one kind, and no name's or number's
abbrev IsSystem : Class → Type 0
IsSystem class = (class ≡ classes.IgnoredTask) ⊎ ((class ≡ classes.FinishTask) ⊎ (class ≡ classes.SystemName))

system_class-system : (name : List ℕ) → IsSystem (system_class name)
unfolding system_class
system_class-system name = at (list_any (bytes_eq name) ignored_tasks) (list_any (bytes_eq name) finish_tasks)
  where
    at : (b c : Bool) → IsSystem (if b then classes.IgnoredTask else (if c then classes.FinishTask else classes.SystemName))
    at true c = inl refl
    at false true = inr (inl refl)
    at false false = inr (inr refl)

not_fixed-system : (class : Class) → IsSystem class → is_fixed class ≡ false
not_fixed-system class (inl e) = ap is_fixed e
not_fixed-system class (inr (inl e)) = ap is_fixed e
not_fixed-system class (inr (inr e)) = ap is_fixed e

-- a kind of a class with one kind is that one
pub kind_of-class_of : (kind : TokenKind) → is_fixed (class_of kind) ≡ true → kind ≡ kind_of (class_of kind)
kind_of-class_of (kinds.Word bytes) h = kind_of-word bytes h
kind_of-class_of (kinds.System name) h = absurd (let p : false ≡ true = sym (not_fixed-system (system_class name) (system_class-system name)) ∙ h in cc)
kind_of-class_of (kinds.Number value form) h = absurd (let p : false ≡ true = h in cc)
kind_of-class_of (kinds.Mark mark) h = kind_of-class_of_mark mark
kind_of-class_of kinds.Str h = refl

-- Names and numbers

-- a token of the class of names is a name
pub name-kind : (kind : TokenKind) → class_of kind ≡ classes.Name → kind ≡ kinds.Word (name_in kind)
name-kind (kinds.Word bytes) e = refl
name-kind (kinds.System name) e = absurd (at (system_class name) (system_class-system name) e)
  where
    at : (class : Class) → IsSystem class → class ≡ classes.Name → ⊥
    at class (inl e) h = let p : classes.IgnoredTask ≡ classes.Name = sym e ∙ h in cc
    at class (inr (inl e)) h = let p : classes.FinishTask ≡ classes.Name = sym e ∙ h in cc
    at class (inr (inr e)) h = let p : classes.SystemName ≡ classes.Name = sym e ∙ h in cc
name-kind (kinds.Number value form) e = absurd (let p : classes.Number ≡ classes.Name = e in cc)
name-kind (kinds.Mark mark) e = absurd (let p : true ≡ false = sym (is_fixed-mark mark) ∙ ap is_fixed e in cc)
name-kind kinds.Str e = absurd (let p : classes.Str ≡ classes.Name = e in cc)

word-number : (bytes : List ℕ) → word_class bytes ≡ classes.Number → ⊥
unfolding word_class grammar_class
word-number bytes h = at (class_among grammar_words bytes) refl h
  where
    other : (b : Bool) → other_class b ≡ classes.Number → ⊥
    other true h = let p : classes.RefusedWord ≡ classes.Number = h in cc
    other false h = let p : classes.Name ≡ classes.Number = h in cc

    at : (o : Option Class) → class_among grammar_words bytes ≡ o → class_or o (other_class (is_refused_word bytes)) ≡ classes.Number → ⊥
    at None e h = other (is_refused_word bytes) h
    at (Some class) e h = let p : kinds.Word bytes ≡ kinds.Number (Zero ∷ []) Plain = among-word grammar_words grammar_words-agree bytes class e ∙ ap kind_of h in cc

-- a token of the class of numbers is a number
pub number-kind : (kind : TokenKind) → class_of kind ≡ classes.Number → kind ≡ kinds.Number (number_in kind).0 (number_in kind).1
number-kind (kinds.Word bytes) e = absurd (word-number bytes e)
number-kind (kinds.System name) e = absurd (at (system_class name) (system_class-system name) e)
  where
    at : (class : Class) → IsSystem class → class ≡ classes.Number → ⊥
    at class (inl e) h = let p : classes.IgnoredTask ≡ classes.Number = sym e ∙ h in cc
    at class (inr (inl e)) h = let p : classes.FinishTask ≡ classes.Number = sym e ∙ h in cc
    at class (inr (inr e)) h = let p : classes.SystemName ≡ classes.Number = sym e ∙ h in cc
number-kind (kinds.Number value form) e = refl
number-kind (kinds.Mark mark) e = absurd (let p : true ≡ false = sym (is_fixed-mark mark) ∙ ap is_fixed e in cc)
number-kind kinds.Str e = absurd (let p : classes.Str ≡ classes.Number = e in cc)
