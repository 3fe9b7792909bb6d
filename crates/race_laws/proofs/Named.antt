-- A body writes objects that it names, and what it names is of the design.
use Rattle.std.proofs.Common.{◌≡◌, ℕ, zero, suc, ◌<◌, Bool, true, false, ◌&&◌, List, [], ◌∷◌, ◌++◌, map, length, refl, arith}
use Rattle.std.specs.Prelude.{Option, Some, None, slice_get}
use Rattle.vf_base.specs.Lists.{AllHold}
use Rattle.v_design.specs.Trees.{Piece, Target, WholeTarget, BitTarget, PartTarget, WordTarget, Statement, Null, Block, If, Case, For, While, Repeat, Forever, Delay, EventControl, Wait}
use Rattle.v_design.specs.Trees.{Blocking, Nonblocking, Finish, Statements, no_statements, more_statements, CaseItems, no_items, more_items}
use Rattle.v_design.specs.Expressions.{memory_pieces}
use Rattle.v_design.specs.Designs.{FlatObject, FlatProcess, FlatDesign, Machine}
use Rattle.v_design.specs.States.{found_or}
use Rattle.v_design.specs.Reads.{target_objects, targets_objects, written_objects, all_written, items_written, named_in, named_in_parts, named_in_target}
use Rattle.v_design.specs.Reads.{named_in_targets, named_by, named_by_all, named_by_items}
use Rattle.v_design.specs.WellFormed.{width_is, has_width, have_widths, IsProcessOf, KeepsRules}
use Rattle.race_laws.proofs.Lists.{left, right, at_place}
use Rattle.race_laws.proofs.Writers.{Clear, clear-append, BodiesClear}

-- the objects of all pieces pass a test
abbrev ArePieces : (ℕ → Type 0) → List Piece → Type 0
ArePieces P pieces = AllHold (λ (piece : Piece). P piece.object) pieces

words-named : (P : ℕ → Type 0) (width : ℕ) (words : List ℕ) → ArePieces P (map (λ word. record { object = word; width = width }) words) → Clear P words
words-named P width [] h = tt
words-named P width (word ∷ words) h = (h.0, words-named P width words h.1)

target-named : (P : ℕ → Type 0) (target : Target) → ArePieces P (named_in_target target) → Clear P (target_objects target)
target-named P (WholeTarget variable) h = (h.0, tt)
target-named P (BitTarget variable index) h = (h.0, tt)
target-named P (PartTarget variable from to) h = (h.0, tt)
target-named P (WordTarget memory index) h = words-named P memory.width memory.words (left (λ piece. P piece.object) (memory_pieces memory) (named_in index) h)

targets-named : (P : ℕ → Type 0) (targets : List Target) → ArePieces P (named_in_targets targets) → Clear P (targets_objects targets)
targets-named P [] h = tt
targets-named P (target ∷ targets) h =
    clear-append P (target_objects target) (targets_objects targets) (target-named P target (left (λ piece. P piece.object) (named_in_target target) (named_in_targets targets) h))
    (targets-named P targets (right (λ piece. P piece.object) (named_in_target target) (named_in_targets targets) h))

-- the pieces before and after
abbrev before : (P : ℕ → Type 0) (xs ys : List Piece) → ArePieces P (xs ++ ys) → ArePieces P xs
before P xs ys h = left (λ piece. P piece.object) xs ys h

abbrev behind : (P : ℕ → Type 0) (xs ys : List Piece) → ArePieces P (xs ++ ys) → ArePieces P ys
behind P xs ys h = right (λ piece. P piece.object) xs ys h

mutual
  statement-named : (P : ℕ → Type 0) (s : Statement) → ArePieces P (named_by s) → Clear P (written_objects s)
  statement-named P Null h = tt
  statement-named P (Block statements) h = statements-named P statements h
  statement-named P (If place condition first second) h =
      let both = behind P (named_in condition) (named_by first ++ named_by second) h in
      clear-append P (written_objects first) (written_objects second) (statement-named P first (before P (named_by first) (named_by second) both))
      (statement-named P second (behind P (named_by first) (named_by second) both))
  statement-named P (Case place kind value items default) h =
      let both = behind P (named_in value) (named_by_items items ++ named_by default) h in
      clear-append P (items_written items) (written_objects default) (items-named P items (before P (named_by_items items) (named_by default) both))
      (statement-named P default (behind P (named_by_items items) (named_by default) both))
  statement-named P (For place first_targets first condition next_targets next body) h =
      let tail = behind P (named_in condition) (named_in_targets next_targets ++ (named_in next ++ named_by body))
      (behind P (named_in first) _ (behind P (named_in_targets first_targets) _ h)) in
      clear-append P (targets_objects first_targets) (targets_objects next_targets ++ written_objects body) (targets-named P first_targets (before P (named_in_targets first_targets) _ h))
      (clear-append P (targets_objects next_targets) (written_objects body) (targets-named P next_targets (before P (named_in_targets next_targets) _ tail))
      (statement-named P body (behind P (named_in next) (named_by body) (behind P (named_in_targets next_targets) (named_in next ++ named_by body) tail))))
  statement-named P (While place condition body) h = statement-named P body (behind P (named_in condition) (named_by body) h)
  statement-named P (Repeat place count body) h = statement-named P body (behind P (named_in count) (named_by body) h)
  statement-named P (Forever place body) h = statement-named P body h
  statement-named P (Delay place delay body) h = statement-named P body h
  statement-named P (EventControl place entries body) h = statement-named P body h
  statement-named P (Wait place condition body) h = statement-named P body (behind P (named_in condition) (named_by body) h)
  statement-named P (Blocking place targets delay value) h = targets-named P targets (before P (named_in_targets targets) (named_in value) h)
  statement-named P (Nonblocking place targets delay value) h = targets-named P targets (before P (named_in_targets targets) (named_in value) h)
  statement-named P (Finish place) h = tt

  statements-named : (P : ℕ → Type 0) (statements : Statements) → ArePieces P (named_by_all statements) → Clear P (all_written statements)
  statements-named P no_statements h = tt
  statements-named P (more_statements first rest) h =
      clear-append P (written_objects first) (all_written rest) (statement-named P first (before P (named_by first) (named_by_all rest) h))
      (statements-named P rest (behind P (named_by first) (named_by_all rest) h))

  items-named : (P : ℕ → Type 0) (items : CaseItems) → ArePieces P (named_by_items items) → Clear P (items_written items)
  items-named P no_items h = tt
  items-named P (more_items labels statement rest) h =
      let both = behind P (named_in_parts labels) (named_by statement ++ named_by_items rest) h in
      clear-append P (written_objects statement) (items_written rest) (statement-named P statement (before P (named_by statement) (named_by_items rest) both))
      (items-named P rest (behind P (named_by statement) (named_by_items rest) both))

-- What is named is there

pub and-parts : (a b : Bool) → (a && b) ≡ true → (a ≡ true) × (b ≡ true)
and-parts true b e = (refl, e)
and-parts false b e = cc

width-below : (width : ℕ) (objects : List FlatObject) (n : ℕ) → width_is width (slice_get objects n) ≡ true → n < length objects
width-below width [] n e = cc
width-below width (object ∷ objects) zero e = omega arith
width-below width (object ∷ objects) (suc n) e = omega (arith, width-below width objects n e)

-- an object of the design
abbrev pub IsObject : FlatDesign → ℕ → Type 0
IsObject design object = object < length design.objects

pieces-below : (design : FlatDesign) (pieces : List Piece) → have_widths design pieces ≡ true → ArePieces (IsObject design) pieces
pieces-below design [] e = tt
pieces-below design (piece ∷ pieces) e =
    let parts = and-parts (has_width design piece) (have_widths design pieces) e in (width-below piece.width design.objects piece.object parts.0, pieces-below design pieces parts.1)

-- the bodies write objects of the design
pub body-below : (design : FlatDesign) → KeepsRules design → (number : ℕ) (process : FlatProcess) → slice_get design.processes number ≡ Some process →
    Clear (IsObject design) (written_objects process.body)
body-below design rules number process e =
    statement-named (IsObject design) process.body (pieces-below design (named_by process.body) (at_place (IsProcessOf design) design.processes rules.processes number process e).names)

pub bodies-below : (machine : Machine) → KeepsRules machine.design → BodiesClear (IsObject machine.design) machine
bodies-below machine rules number = go (slice_get machine.design.processes number) refl
  where
    go : (found : Option FlatProcess) → slice_get machine.design.processes number ≡ found →
        Clear (IsObject machine.design) (written_objects (found_or (record { always = false; body = Null; place = record { line = 0; column = 0 } }) found).body)
    go None e = tt
    go (Some process) e = body-below machine.design rules number process e
