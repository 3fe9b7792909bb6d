-- What is kept of a reading, from what is kept of those of its parts.
use Rattle.std.proofs.Common.{◌≡◌, ℕ, max, cond, Bool, true, false, ◌&&◌, List, [], ◌∷◌, ◌++◌, Option, Some, None, option_map, sym, ap, ap₂, subst, ◌∙◌}
use Rattle.std.proofs.lemmas.List.{append-nil}
use Rattle.vf_base.specs.Base.{SourcePlace}
use Rattle.four_value.specs.declared.operator.UnaryOperator.{UnaryOperator}
use Rattle.four_value.specs.declared.operator.BinaryOperator.{BinaryOperator}
use Rattle.v_tree.specs.Trees.{Identifier}
use Rattle.v_design.specs.Sized.{span, UnarySizing, OperandWithWhole, OperandAlone, unary_sizing, BinarySizing, binary_sizing}
use Rattle.v_names.specs.declared.size.Size.{Size as CodeSize}
use Rattle.v_names.specs.Faults.{BadWidth, Fault, fault_at}
use Rattle.v_names.specs.Scopes.{DeclaredRange, ScopeEntry, NetEntry, RegEntry}
use Rattle.v_names.specs.Readings.{Size, Reading, wrong_reading, name_reading, bit_reading, part_if, one_bit, size_or_bit, alone_faults, tree_at, tree_alone, tree_in, sized_if, sized_reading}
use Rattle.v_names.specs.Readings.{refused_reading, unary_reading, binary_reading, choice_reading}
use Rattle.v_names.specs.SizedTrees.{SizedExpression, SizedName, SizedBit, SizedPart, SizedUnary, SizedBinary, SizedChoice}
use Rattle.v_names.specs.SizeViews.{size_of}
use Rattle.v_width.specs.declared.faults.Faults.{Faults}
use Rattle.v_width.specs.Sizes.{tree_in_context}
use Rattle.v_width.specs.Summaries.{AreFaults}
use Rattle.v_width.specs.declared.expression.SizedExpr.{SizedExpr}
use Rattle.v_width.specs.Resized.{operand_with_whole, left_with_whole, right_with_whole, tree_if, with_size}
use Rattle.v_width.specs.SizedViews.{sized_of}
use Rattle.expr_sizes.specs.declared.reading.ExprReading.{ExprReading}
use Rattle.expr_sizes.specs.ExprReadings.{IsTree, IsReading}

-- Trees at a size

at-size : (at : ℕ → Bool → SizedExpression) (tree : SizedExpr) (z : CodeSize) (size : Size) → IsTree at tree → size_of z ≡ size → with_size (sized_of tree) z.width z.signed ≡ at size.width size.signed
at-size at tree z size t e = t z.width z.signed ∙ ap (λ (q : Size). at q.width q.signed) e

pub at-group : (reading : Reading) (read : ExprReading) (size : Option Size) (z : CodeSize) (result : SizedExpression) → IsReading reading read → size_of z ≡ size_or_bit size
    → result ≡ with_size (sized_of read.tree) z.width z.signed → result ≡ tree_at reading size
at-group reading read size z result h e r = r ∙ at-size reading.tree read.tree z (size_or_bit size) h.tree_is e

pub at-own : (reading : Reading) (read : ExprReading) (z : CodeSize) (result : SizedExpression) → IsReading reading read → size_of z ≡ size_or_bit (option_map size_of read.size)
    → result ≡ with_size (sized_of read.tree) z.width z.signed → result ≡ tree_alone reading
at-own reading read z result h e r = at-group reading read reading.size z result h (e ∙ ap size_or_bit h.size_is) r

pub at-width : (reading : Reading) (read : ExprReading) (width more : ℕ) (z : CodeSize) (result : SizedExpression) → IsReading reading read → size_of z ≡ size_or_bit (option_map size_of read.size)
    → more ≡ max width z.width → result ≡ with_size (sized_of read.tree) more z.signed → result ≡ tree_in width reading
at-width reading read width more z result h e m r =
    r ∙ h.tree_is more z.signed ∙ ap (λ n. reading.tree n z.signed) m ∙ ap (λ (q : Size). reading.tree (max width q.width) q.signed) (e ∙ ap size_or_bit h.size_is)

pub at-context : (reading : Reading) (read : ExprReading) (width more : ℕ) (signed sign : Bool) (z : CodeSize) (result : SizedExpression) → IsReading reading read
    → size_of z ≡ size_or_bit (option_map size_of read.size) → more ≡ max width z.width → sign ≡ (z.signed && signed) → result ≡ with_size (sized_of read.tree) more sign
    → result ≡ tree_in_context reading width signed
at-context reading read width more signed sign z result h e m s r =
    r ∙ h.tree_is more sign ∙ ap₂ reading.tree m s ∙ ap (λ (q : Size). reading.tree (max width q.width) (q.signed && signed)) (e ∙ ap size_or_bit h.size_is)

-- Sizes that are looked at

pub sized-some : (test : Bool) (place : SourcePlace) (own : Size) (complete : Bool) (faults : List Fault) (at : ℕ → Bool → SizedExpression) (read : ExprReading) (z : CodeSize) → read.size ≡ Some z
    → option_map size_of read.size ≡ cond test (Some own) None → AreFaults [] faults read.faults → IsTree at read.tree → IsReading (sized_if test place own complete faults at) read
sized-some true place own complete faults at read z s e h t = record { size_is = e; faults_are = h; tree_is = t }
sized-some false place own complete faults at read z s e h t =
    let x : Some (size_of z) ≡ None = sym (ap (option_map size_of) s) ∙ e in absurd (let y : ⊥ = cc in y)

pub sized-none : (test : Bool) (place : SourcePlace) (own : Size) (complete : Bool) (faults : List Fault) (at : ℕ → Bool → SizedExpression) (size : Option CodeSize) (read : ExprReading) → size ≡ None
    → option_map size_of size ≡ cond test (Some own) None → IsReading (refused_reading (fault_at place BadWidth ∷ []) faults) read → IsReading (sized_if test place own complete faults at) read
sized-none true place own complete faults at size read s e h =
    let x : None ≡ Some own = sym (ap (option_map size_of) s) ∙ e in absurd (let y : ⊥ = cc in y)
sized-none false place own complete faults at size read s e h = h

-- Operators

unary-at : (operator : UnaryOperator) (sizing : UnarySizing) (t : SizedExpression) (w0 : ℕ) (s0 : Bool) (w : ℕ) (s : Bool) → unary_sizing operator ≡ sizing
    → with_size (SizedUnary w0 s0 operator t) w s ≡ SizedUnary w s operator (tree_if (operand_with_whole sizing) (with_size t w s) t)
unary-at operator sizing t w0 s0 w s e = ap (λ z. SizedUnary w s operator (tree_if (operand_with_whole z) (with_size t w s) t)) e

-- an operand that has the size of the whole
pub unary-whole : (operator : UnaryOperator) (a : Reading) (operand : SizedExpr) (read : ExprReading) (w0 : ℕ) (s0 : Bool) → unary_sizing operator ≡ OperandWithWhole
    → option_map size_of read.size ≡ a.size → AreFaults a.here a.inside read.faults → IsTree a.tree operand → sized_of read.tree ≡ SizedUnary w0 s0 operator (sized_of operand)
    → IsReading (unary_reading (unary_sizing operator) operator a) read
unary-whole operator a operand read w0 s0 e z f t r =
    let P : UnarySizing → Type 0 = λ q. IsReading (unary_reading q operator a) read in
    subst P (sym e)
    (record {
      size_is = z;
      faults_are = f;
      tree_is = λ w s. ap (λ u. with_size u w s) r ∙ unary-at operator OperandWithWhole (sized_of operand) w0 s0 w s e ∙ ap (SizedUnary w s operator) (t w s);
    })

-- one that is sized alone
pub unary-alone : (operator : UnaryOperator) (a : Reading) (operand : SizedExpression) (read : ExprReading) (w0 : ℕ) (s0 : Bool) → unary_sizing operator ≡ OperandAlone
    → option_map size_of read.size ≡ one_bit → AreFaults [] (alone_faults a) read.faults → operand ≡ tree_alone a → sized_of read.tree ≡ SizedUnary w0 s0 operator operand
    → IsReading (unary_reading (unary_sizing operator) operator a) read
unary-alone operator a operand read w0 s0 e z f t r =
    let P : UnarySizing → Type 0 = λ q. IsReading (unary_reading q operator a) read in
    subst P (sym e)
    (record {
      size_is = z;
      faults_are = f;
      tree_is = λ w s. ap (λ u. with_size u w s) r ∙ unary-at operator OperandAlone operand w0 s0 w s e ∙ ap (SizedUnary w s operator) t;
    })

-- an operator over two trees at a size
abbrev pub binary_at : BinarySizing → BinaryOperator → SizedExpression → SizedExpression → ℕ → Bool → SizedExpression
binary_at sizing operator l r w s = SizedBinary w s operator (tree_if (left_with_whole sizing) (with_size l w s) l) (tree_if (right_with_whole sizing) (with_size r w s) r)

-- two operands
pub binary-read : (operator : BinaryOperator) (sizing : BinarySizing) (a b : Reading) (l r : SizedExpression) (read : ExprReading) (w0 : ℕ) (s0 : Bool) → binary_sizing operator ≡ sizing
    → option_map size_of read.size ≡ (binary_reading sizing operator a b).size → AreFaults (binary_reading sizing operator a b).here (binary_reading sizing operator a b).inside read.faults
    → ((w : ℕ) (s : Bool) → binary_at sizing operator l r w s ≡ (binary_reading sizing operator a b).tree w s) → sized_of read.tree ≡ SizedBinary w0 s0 operator l r
    → IsReading (binary_reading (binary_sizing operator) operator a b) read
binary-read operator sizing a b l r read w0 s0 e z f t q =
    let P : BinarySizing → Type 0 = λ x. IsReading (binary_reading x operator a b) read in
    subst P (sym e)
    (record { size_is = z; faults_are = f; tree_is = λ w s. ap (λ u. with_size u w s) q ∙ ap (λ x. binary_at x operator l r w s) e ∙ t w s })

-- a fault of the left operand stands together with it
pub left-faults : (here inside : List Fault) (faults : Faults) → AreFaults (here ++ []) inside faults → AreFaults here inside faults
left-faults here inside faults h = let P : List Fault → Type 0 = λ l. AreFaults l inside faults in subst P (append-nil here) h

-- a choice
pub choice-read : (c a b : Reading) (condition : SizedExpression) (first second : SizedExpr) (read : ExprReading) (w0 : ℕ) (s0 : Bool) → option_map size_of read.size ≡ (choice_reading c a b).size
    → AreFaults (a.here ++ b.here) (alone_faults c ++ (a.inside ++ b.inside)) read.faults → condition ≡ tree_alone c → IsTree a.tree first → IsTree b.tree second
    → sized_of read.tree ≡ SizedChoice w0 s0 condition (sized_of first) (sized_of second) → IsReading (choice_reading c a b) read
choice-read c a b condition first second read w0 s0 z f k t u q = record {
  size_is = z;
  faults_are = f;
  tree_is = λ w s. ap (λ x. with_size x w s) q ∙ ap (λ x. SizedChoice w s x (with_size (sized_of first) w s) (with_size (sized_of second) w s)) k
      ∙ ap₂ (SizedChoice w s (tree_alone c)) (t w s) (u w s);
}

-- Facts about equal values

pub same-faults : (here inside : List Fault) (f g : Faults) → f ≡ g → AreFaults here inside g → AreFaults here inside f
same-faults here inside f g e h = let P : Faults → Type 0 = λ x. AreFaults here inside x in subst P (sym e) h

pub same-width : (place : SourcePlace) (width other : ℕ) (signed complete : Bool) (faults : List Fault) (at : ℕ → Bool → SizedExpression) (read : ExprReading) → width ≡ other
    → IsReading (sized_reading place width signed complete faults at) read → IsReading (sized_reading place other signed complete faults at) read
same-width place width other signed complete faults at read e h = let P : ℕ → Type 0 = λ n. IsReading (sized_reading place n signed complete faults at) read in subst P e h

-- Names

pub bit-ranged : (ranged : Bool) (place : SourcePlace) (name : Identifier) (at : Reading) (read : ExprReading) → ranged ≡ true → option_map size_of read.size ≡ one_bit →
    AreFaults [] (alone_faults at) read.faults
    → ((w : ℕ) (s : Bool) → with_size (sized_of read.tree) w s ≡ SizedBit w s name (tree_alone at)) → IsReading (bit_reading ranged place name at) read
bit-ranged true place name at read e z f t = record { size_is = z; faults_are = f; tree_is = t }
bit-ranged false place name at read e z f t = absurd (let x : ⊥ = cc in x)

pub bit-scalar : (ranged : Bool) (place : SourcePlace) (name : Identifier) (at : Reading) (read : ExprReading) → ranged ≡ false → IsReading (wrong_reading place (alone_faults at)) read
    → IsReading (bit_reading ranged place name at) read
bit-scalar true place name at read e h = absurd (let x : ⊥ = cc in x)
bit-scalar false place name at read e h = h

pub part-alike : (alike : Bool) (place : SourcePlace) (name : Identifier) (faults : List Fault) (from to : ℕ) (read : ExprReading) → alike ≡ true
    → IsReading (sized_reading place (span from to) false true faults (λ w s. SizedPart w s name from to)) read → IsReading (part_if alike place name faults from to) read
part-alike true place name faults from to read e h = h
part-alike false place name faults from to read e h = absurd (let x : ⊥ = cc in x)

pub part-unlike : (alike : Bool) (place : SourcePlace) (name : Identifier) (faults : List Fault) (from to : ℕ) (read : ExprReading) → alike ≡ false → IsReading (wrong_reading place faults) read
    → IsReading (part_if alike place name faults from to) read
part-unlike true place name faults from to read e h = absurd (let x : ⊥ = cc in x)
part-unlike false place name faults from to read e h = h

pub net-read : (entry : Option ScopeEntry) (range : DeclaredRange) (signed : Bool) (place : SourcePlace) (name : Identifier) (width : ℕ) (read : ExprReading) → entry ≡ Some (NetEntry range signed)
    → width ≡ span range.high range.low → IsReading (sized_reading place width signed true [] (λ w s. SizedName w s name)) read → IsReading (name_reading entry place name) read
net-read entry range signed place name width read e s h =
    let P : Option ScopeEntry → Type 0 = λ x. IsReading (name_reading x place name) read in subst P (sym e) (same-width place width (span range.high range.low) signed true [] _ read s h)

pub reg-read : (entry : Option ScopeEntry) (range : DeclaredRange) (signed : Bool) (place : SourcePlace) (name : Identifier) (width : ℕ) (read : ExprReading) → entry ≡ Some (RegEntry range signed)
    → width ≡ span range.high range.low → IsReading (sized_reading place width signed true [] (λ w s. SizedName w s name)) read → IsReading (name_reading entry place name) read
reg-read entry range signed place name width read e s h =
    let P : Option ScopeEntry → Type 0 = λ x. IsReading (name_reading x place name) read in subst P (sym e) (same-width place width (span range.high range.low) signed true [] _ read s h)
