-- The pieces of each line, and the item that its tokens spell (IEEE 1364-2001, clause 2 and annex A).
use Rattle.std.proofs.Common.{◌≡◌, ℕ, ◌<◌, ◌^◌, true, false, List, [], ◌∷◌, ◌++◌, refl, ap, subst, arith, inl, inr}
use Rattle.std.specs.Prelude.{◌==◌, codes}
use Rattle.std.proofs.lemmas.Bool.{false≢true}
use Rattle.std.specs.Fmt.{decimal}
use Rattle.std.proofs.lemmas.Fmt.{decimal_digit}
use Rattle.vf_base.specs.Base.{source_place}
use Rattle.vf_base.specs.declared.ids.Place.{Place}
use Rattle.four_value.specs.Values.{bits_of}
use Rattle.v_tree.specs.declared.token.TokenKind.TheVariants as words
use Rattle.v_tree.specs.Tokens.{SourceToken}
use Rattle.v_tree.specs.declared.token.Mark.TheVariants.{Assign, Tilde, Hash, Semicolon, LeftParen, RightParen, Comma, At, LessEqual}
use Rattle.v_readers.specs.declared.class.Class.TheVariants as classes
use Rattle.v_readers.specs.Classes.{token_of, IsName}
use Rattle.v_scan.specs.Bytes.{is_blank, is_letter, goes_in_name}
use Rattle.v_scan.specs.Texts.{Piece, spelled, ArePieces, IsPiece, tokens_from}
use Rattle.v_parse.specs.Spelling.{SpellsItem, gate_word, has_one_input}
use Rattle.soak_text.specs.declared.draws.Kind.{Kind}
use Rattle.soak_text.specs.declared.draws.Kind.TheVariants.{And, Nand, Or, Nor, Xor, Xnor}
use Rattle.soak_text.specs.declared.draws.Stage.{Stage}
use Rattle.soak_text.specs.Soak.{kind_text}
use Rattle.soak_tree.specs.SoakUnits.{clock_name, register_name, wire_name, gate_name, gate_kind, variable_item, clock_item, wire_item, gate_item, clocked_item}
use Rattle.soak_tree.specs.Stages.{IsStage}
use Rattle.soak_tree.proofs.Digits.{decimal-in-name}
use Rattle.soak_unit.proofs.Named.{clock-named, register-named, wire-named, gate-named}
use Rattle.soak_unit.proofs.Scanned.{space, line_end, named, marked, digits, name-stands, assign-stands, tilde-stands, hash-stands, semicolon-stands, open-stands, close-stands}
use Rattle.soak_unit.proofs.Scanned.{comma-stands, at-stands, less_equal-stands, first-stands, five-stands}

-- a name with a number behind its letter, where a byte that goes in no name follows
pub numbered-stands : (b n c : ℕ) (rest : List ℕ) → is_blank b ≡ false → (b == 47) ≡ false → (b == 96) ≡ false → is_letter b ≡ true → n < 4000 → goes_in_name c ≡ false →
    IsPiece false (named (b ∷ decimal n)) (c ∷ rest)
numbered-stands b n c rest no_blank no_slash no_tick letter low stops = name-stands false b (decimal n) (c ∷ rest) no_blank no_slash no_tick letter (decimal-in-name n (omega (arith, low))) stops

-- Variables

abbrev pub variable_pieces : List ℕ → ℕ → List Piece
variable_pieces name first = named (codes "reg") ∷ space ∷ named name ∷ space ∷ marked Assign ∷ space ∷ digits (decimal first) (bits_of 32 first) ∷ marked Semicolon ∷ line_end ∷ []

variable-stands : (name : List ℕ) (first : ℕ) (rest : List ℕ) → ((rest : List ℕ) → IsPiece false (named name) (32 ∷ rest)) → first < 2 → ArePieces false (variable_pieces name first) rest
variable-stands name first rest stands low = (
  name-stands false 114 (codes "eg") _ refl refl refl refl refl refl,
  (
    refl,
    (
      stands _,
      (
        refl,
        (
          assign-stands false _,
          (
            refl,
            (
              first-stands false first _ low,
              (semicolon-stands false _, (refl, tt)),
            ),
          ),
        ),
      ),
    ),
  ),
)

pub variable-spells : (name : List ℕ) (first : ℕ) (place : Place) → IsName name → SpellsItem (variable_item name first place) (tokens_from place (variable_pieces name first))
variable-spells name first place is = (_, [], [], _, refl, refl, (_, [], (is, _, (_, _, refl, refl), refl), refl, refl), refl)

pub register-stands : (stage : Stage) (rest : List ℕ) → IsStage stage → ArePieces false (variable_pieces (register_name stage.number) stage.first) rest
register-stands stage rest is =
    variable-stands (register_name stage.number) stage.first rest (λ rest. numbered-stands 114 stage.number 32 rest refl refl refl refl is.number refl) is.first

pub clock_reg-stands : (rest : List ℕ) → ArePieces false (variable_pieces clock_name 0) rest
clock_reg-stands rest = variable-stands clock_name 0 rest (λ rest. name-stands false 99 (codes "lk") (32 ∷ rest) refl refl refl refl refl refl) (omega arith)

pub clock_reg-spelled : spelled (variable_pieces clock_name 0) ≡ codes "reg clk = 0;\n"
clock_reg-spelled = ap (λ ds. codes "reg clk = " ++ ds ++ codes ";\n") (decimal_digit 0 (omega arith))

-- The clock

abbrev pub clock_pieces : List Piece
clock_pieces =
    named (codes "always") ∷ space ∷ marked Hash ∷ digits (codes "5") (bits_of 32 5) ∷ space ∷ named clock_name ∷ space ∷ marked Assign ∷ space ∷ marked Tilde ∷ named clock_name ∷ marked Semicolon
    ∷ line_end ∷ []

pub clock-stands : (rest : List ℕ) → ArePieces false clock_pieces rest
clock-stands rest = (
  name-stands false 97 (codes "lways") _ refl refl refl refl refl refl,
  (
    refl,
    (
      hash-stands false _,
      (
        five-stands false _,
        (
          refl,
          (
            name-stands false 99 (codes "lk") _ refl refl refl refl refl refl,
            (
              refl,
              (
                assign-stands false _,
                (
                  refl,
                  (
                    tilde-stands false _,
                    (name-stands false 99 (codes "lk") _ refl refl refl refl refl refl, (semicolon-stands false _, (refl, tt))),
                  ),
                ),
              ),
            ),
          ),
        ),
      ),
    ),
  ),
)

pub clock-spells : (place : Place) → SpellsItem (clock_item place) (tokens_from place clock_pieces)
clock-spells place = (
  _,
  (
    _,
    _,
    inl refl,
    (
      refl,
      _,
      _,
      _,
      [],
      _,
      (clock-named, [], refl, refl),
      refl,
      (omega arith, classes.Tilde, refl, _, (clock-named, [], refl, refl), refl),
      refl,
    ),
    refl,
  ),
  refl,
)

-- Wires

abbrev pub wire_pieces : Stage → List Piece
wire_pieces stage = named (codes "wire") ∷ space ∷ named (wire_name stage.number) ∷ marked Semicolon ∷ line_end ∷ []

pub wire-stands : (stage : Stage) (rest : List ℕ) → IsStage stage → ArePieces false (wire_pieces stage) rest
wire-stands stage rest is =
    (name-stands false 119 (codes "ire") _ refl refl refl refl refl refl, (refl, (numbered-stands 119 stage.number 59 _ refl refl refl refl is.number refl, (semicolon-stands false _, (refl, tt)))))

pub wire-spells : (stage : Stage) (place : Place) → IsStage stage → SpellsItem (wire_item stage place) (tokens_from place (wire_pieces stage))
wire-spells stage place is = (_, [], [], _, refl, refl, (_, [], (wire-named stage.number (omega (arith, is.number)), [], refl, refl), refl, refl), refl)

-- Gates

abbrev pub gate_pieces : Stage → List Piece
gate_pieces stage =
    named (kind_text stage.kind) ∷ space ∷ named (gate_name stage.number) ∷ marked LeftParen ∷ named (wire_name stage.number) ∷ marked Comma ∷ space
    ∷ named (register_name stage.left) ∷ marked Comma ∷ space ∷ named (register_name stage.right) ∷ marked RightParen ∷ marked Semicolon ∷ line_end ∷ []

kind-stands : (kind : Kind) (rest : List ℕ) → IsPiece false (named (kind_text kind)) (32 ∷ rest)
kind-stands And rest = name-stands false 97 (codes "nd") (32 ∷ rest) refl refl refl refl refl refl
kind-stands Nand rest = name-stands false 110 (codes "and") (32 ∷ rest) refl refl refl refl refl refl
kind-stands Or rest = name-stands false 111 (codes "r") (32 ∷ rest) refl refl refl refl refl refl
kind-stands Nor rest = name-stands false 110 (codes "or") (32 ∷ rest) refl refl refl refl refl refl
kind-stands Xor rest = name-stands false 120 (codes "or") (32 ∷ rest) refl refl refl refl refl refl
kind-stands Xnor rest = name-stands false 120 (codes "nor") (32 ∷ rest) refl refl refl refl refl refl

pub gate-stands : (stage : Stage) (rest : List ℕ) → IsStage stage → ArePieces false (gate_pieces stage) rest
gate-stands stage rest is = (
  kind-stands stage.kind _,
  (
    refl,
    (
      numbered-stands 103 stage.number 40 _ refl refl refl refl is.number refl,
      (
        open-stands false 119 _,
        (
          numbered-stands 119 stage.number 44 _ refl refl refl refl is.number refl,
          (
            comma-stands false 32 _,
            (
              refl,
              (
                numbered-stands 114 stage.left 44 _ refl refl refl refl is.left refl,
                (
                  comma-stands false 32 _,
                  (
                    refl,
                    (numbered-stands 114 stage.right 41 _ refl refl refl refl is.right refl, (close-stands false 59 _, (semicolon-stands false _, (refl, tt)))),
                  ),
                ),
              ),
            ),
          ),
        ),
      ),
    ),
  ),
)

no-single : (kind : Kind) (count : ℕ) → has_one_input (gate_kind kind) ≡ true → count ≡ 1
no-single And count e = absurd (false≢true e)
no-single Nand count e = absurd (false≢true e)
no-single Or count e = absurd (false≢true e)
no-single Nor count e = absurd (false≢true e)
no-single Xor count e = absurd (false≢true e)
no-single Xnor count e = absurd (false≢true e)

word-is : (kind : Kind) (place : Place) → token_of (gate_word (gate_kind kind)) (source_place place) ≡ record { kind = words.Word (kind_text kind); place = place }
word-is And place = refl
word-is Nand place = refl
word-is Or place = refl
word-is Nor place = refl
word-is Xor place = refl
word-is Xnor place = refl

abbrev behind_first : List SourceToken → List SourceToken
behind_first [] = []
behind_first (t ∷ ts) = ts

pub gate-spells : (stage : Stage) (place : Place) → IsStage stage → SpellsItem (gate_item stage place) (tokens_from place (gate_pieces stage))
gate-spells stage place is =
    let low = λ (n : ℕ) (h : n < 4000). let big : n < 2 ^ 64 = omega (arith, h) in big in
    subst (λ t. SpellsItem (gate_item stage place) (t ∷ behind_first (tokens_from place (gate_pieces stage)))) (word-is stage.kind place) (
      _,
      [],
      [],
      _,
      refl,
      refl,
      (
        _,
        [],
        (
          no-single stage.kind 2,
          _,
          _,
          _,
          _,
          _,
          _,
          (gate-named stage.number (low stage.number is.number), refl),
          (wire-named stage.number (low stage.number is.number), [], refl, refl),
          (_, _, (register-named stage.left (low stage.left is.left), [], refl, refl), (_, _, [], (register-named stage.right (low stage.right is.right), [], refl, refl), refl, refl), refl),
          refl,
        ),
        refl,
        refl,
      ),
      refl,
    )

-- Processes

abbrev pub clocked_pieces : Stage → List Piece
clocked_pieces stage =
    named (codes "always") ∷ space ∷ marked At ∷ marked LeftParen ∷ named (codes "posedge") ∷ space ∷ named clock_name ∷ marked RightParen ∷ space
    ∷ named (register_name stage.number) ∷ space ∷ marked LessEqual ∷ space ∷ named (wire_name stage.number) ∷ marked Semicolon ∷ line_end ∷ []

pub clocked-stands : (stage : Stage) (rest : List ℕ) → IsStage stage → ArePieces false (clocked_pieces stage) rest
clocked-stands stage rest is = (
  name-stands false 97 (codes "lways") _ refl refl refl refl refl refl,
  (
    refl,
    (
      at-stands false 40 _,
      (
        open-stands false 112 _,
        (
          name-stands false 112 (codes "osedge") _ refl refl refl refl refl refl,
          (
            refl,
            (
              name-stands false 99 (codes "lk") _ refl refl refl refl refl refl,
              (
                close-stands false 32 _,
                (
                  refl,
                  (
                    numbered-stands 114 stage.number 32 _ refl refl refl refl is.number refl,
                    (
                      refl,
                      (
                        less_equal-stands false _,
                        (
                          refl,
                          (numbered-stands 119 stage.number 59 _ refl refl refl refl is.number refl, (semicolon-stands false _, (refl, tt))),
                        ),
                      ),
                    ),
                  ),
                ),
              ),
            ),
          ),
        ),
      ),
    ),
  ),
)

pub clocked-spells : (stage : Stage) (place : Place) → IsStage stage → SpellsItem (clocked_item stage place) (tokens_from place (clocked_pieces stage))
clocked-spells stage place is =
    let low : stage.number < 2 ^ 64 = omega (arith, is.number) in (
      _,
      (
        _,
        _,
        inr (_, _, _, (_, [], (_, _, (_, refl), (clock-named, [], refl, refl), refl), refl, refl), refl),
        (refl, _, _, _, [], _, (register-named stage.number low, [], refl, refl), refl, (wire-named stage.number low, [], refl, refl), refl),
        refl,
      ),
      refl,
    )
