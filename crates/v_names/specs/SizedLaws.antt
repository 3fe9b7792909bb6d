-- Where an expression and all its parts have sizes, its tree is sized at each width and sign that it may have.
use Rattle.std.proofs.Common.{◌≡◌, ℕ, zero, suc, ◌+◌, ◌-◌, ◌*◌, max, ◌<◌, ◌≤◌, ◌⊎◌, inl, inr, Bool, true, false, ◌&&◌, List, [], ◌∷◌, ◌++◌, length, Option, Some, None, nat_le, refl, sym, ap, ap₂}
use Rattle.std.proofs.Common.{subst, ◌∙◌, arith}
use Rattle.std.proofs.lemmas.Bool.{leb-true}
use Rattle.std.proofs.lemmas.Bool.Decides.{leb_tells}
use Rattle.vf_base.specs.Base.{SourcePlace}
use Rattle.four_value.specs.Values.{LogicValue}
use Rattle.four_value.specs.declared.logic.Bit.TheVariants.{Zero}
use Rattle.four_value.specs.declared.operator.UnaryOperator.{UnaryOperator}
use Rattle.four_value.specs.declared.operator.BinaryOperator.{BinaryOperator}
use Rattle.v_design.specs.Assignments.{part_width}
use Rattle.v_design.specs.Expressions.{up_from, down_from, width_of, sign_of}
use Rattle.v_design.specs.Sized.{span, most_bits, pieces_width, own_width, own_width_of_parts, UnarySizing, OperandWithWhole, OperandAlone, unary_sizing, unary_width, BinarySizing, BothWithWhole}
use Rattle.v_design.specs.Sized.{LeftWithWhole, BothTogether, EachAlone, binary_sizing, binary_width, IsAlone, UnaryAgrees, BinaryAgrees, HasItsBits, HasItsWords, HasRoom, IsSized, AreSizedAlone}
use Rattle.v_design.specs.Trees.{Expression}
use Rattle.v_tree.specs.Trees.{Identifier, SourceExpression, Number, Selected, Parenthesised, Prefixed, Infixed, Chosen, Concatenated, Replicated, SourceIndex, NoIndex, IndexAt, IndexRange}
use Rattle.v_tree.specs.Trees.{SourceExpressions, no_parts, more_parts, place_of_expression}
use Rattle.v_names.specs.Faults.{Fault}
use Rattle.v_names.specs.Scopes.{DeclaredRange, ScopeEntry, ParameterEntry, RefusedParameter, WaitingParameter, NetEntry, RegEntry, MemoryEntry, GateEntry, InstanceEntry, Scope, looked_up}
use Rattle.v_names.specs.Scopes.{range_width}
use Rattle.v_names.specs.SizedTrees.{SizedExpression, SizedConstant, SizedExpressions, Holders, over_objects, all_over_objects}
use Rattle.v_names.specs.Readings.{Size, Reading, size_or_bit, larger_size, tree_at, tree_alone, alone_faults, sized_if, sized_reading, is_signed_number, bit_zero_reading, name_reading, bit_reading}
use Rattle.v_names.specs.Readings.{indexed_reading, runs_alike, part_if, part_between, part_reading, ranged_reading, unary_reading, binary_reading, choice_reading, PartsReading, width_with}
use Rattle.v_names.specs.Readings.{is_unsized_number, part_before, concatenation_reading, replication_reading, reading_of, select_reading, parts_reading, constant_reading, natural_constant}

-- What holds the names

-- the objects that hold a name hold its bits
abbrev pub IsHeld : Holders → Identifier → Option ScopeEntry → Type 0
IsHeld holders name (Some (NetEntry range signed)) = HasItsBits (holders.vector name) × (pieces_width (holders.vector name).pieces ≡ range_width range)
IsHeld holders name (Some (RegEntry range signed)) = HasItsBits (holders.vector name) × (pieces_width (holders.vector name).pieces ≡ range_width range)
IsHeld holders name (Some (MemoryEntry range first last signed)) = HasItsWords (holders.memory name) × ((holders.memory name).width ≡ range_width range)
IsHeld holders name _ = Unit {0}

abbrev mutual
  -- the names of an expression's tree are held
  pub AreHeld : Holders → Scope → SourceExpression → Type 0
  AreHeld holders scope (Number place form value) = Unit {0}
  AreHeld holders scope (Selected place name index) = IsHeld holders name (looked_up scope name) × AreHeldInIndex holders scope index
  AreHeld holders scope (Parenthesised place inner) = AreHeld holders scope inner
  AreHeld holders scope (Prefixed place operator operand) = AreHeld holders scope operand
  AreHeld holders scope (Infixed place operator left right) = AreHeld holders scope left × AreHeld holders scope right
  AreHeld holders scope (Chosen place condition first second) = AreHeld holders scope condition × AreHeld holders scope first × AreHeld holders scope second
  AreHeld holders scope (Concatenated place parts) = AreHeldInParts holders scope parts
  AreHeld holders scope (Replicated place count parts) = AreHeldInParts holders scope parts

  pub AreHeldInIndex : Holders → Scope → SourceIndex → Type 0
  AreHeldInIndex holders scope NoIndex = Unit {0}
  AreHeldInIndex holders scope (IndexAt index) = AreHeld holders scope index
  AreHeldInIndex holders scope (IndexRange from to) = Unit {0}

  pub AreHeldInParts : Holders → Scope → SourceExpressions → Type 0
  AreHeldInParts holders scope no_parts = Unit {0}
  AreHeldInParts holders scope (more_parts first rest) = AreHeld holders scope first × AreHeldInParts holders scope rest

-- What is sized

-- an expression has these sizes and this sign, and those of all its parts agree
pub record IsSizedTo (e : Expression) (own width : ℕ) (signed : Bool) : Type 0 where
  pub sized : IsSized e
  pub own_is : own_width e ≡ own
  pub width_is : width_of e ≡ width
  pub sign_is : sign_of e ≡ signed

-- a tree is sized at each width from its size on, and signed only where its size is
abbrev pub GivesSized : Holders → Size → (ℕ → Bool → SizedExpression) → Type 0
GivesSized holders size tree =
    (width : ℕ) (whole : Bool) → size.width ≤ width → width ≤ most_bits → (whole ≡ true → size.signed ≡ true) → IsSizedTo (over_objects holders (tree width whole)) size.width width whole

pub record HasSize (holders : Holders) (reading : Reading) : Type 0 where
  pub size : Size
  pub size_is : reading.size ≡ Some size
  pub some : 1 ≤ size.width
  pub most : size.width ≤ most_bits
  pub gives : GivesSized holders size reading.tree

-- a reading is sized where it is complete
abbrev pub IsSound : Holders → Reading → Type 0
IsSound holders reading = reading.complete ≡ true → HasSize holders reading

refused : {A : Type 0} → false ≡ true → A
refused e = absurd (let x : ⊥ = cc in x)

not_signed : (whole : Bool) → (whole ≡ true → false ≡ true) → whole ≡ false
not_signed true h = refused (h refl)
not_signed false h = refl

pub and-left : (a b : Bool) → (a && b) ≡ true → a ≡ true
and-left true b e = refl
and-left false b e = e

pub and-right : (a b : Bool) → (a && b) ≡ true → b ≡ true
and-right true b e = e
and-right false b e = refused e

-- Sizes that are looked at

sized-by : (holders : Holders) (test : Bool) (place : SourcePlace) (size : Size) (complete : Bool) (inside : List Fault) (tree : ℕ → Bool → SizedExpression)
    → (test ≡ true → complete ≡ true → HasSize holders (sized_if true place size complete inside tree)) → IsSound holders (sized_if test place size complete inside tree)
sized-by holders true place size complete inside tree h = h refl
sized-by holders false place size complete inside tree h = λ e. refused e

sized-sound : (holders : Holders) (place : SourcePlace) (width : ℕ) (signed complete : Bool) (inside : List Fault) (tree : ℕ → Bool → SizedExpression)
    → (complete ≡ true → 1 ≤ width → width ≤ most_bits → GivesSized holders (record { width = width; signed = signed }) tree) → IsSound holders (sized_reading place width signed complete inside tree)
sized-sound holders place width signed complete inside tree h =
    sized-by holders (nat_le 1 width && nat_le width most_bits) place (record { width = width; signed = signed }) complete inside tree
    (λ t c.
    let some : 1 ≤ width = leb-true 1 width (and-left (nat_le 1 width) (nat_le width most_bits) t) in
    let most : width ≤ most_bits = leb-true width most_bits (and-right (nat_le 1 width) (nat_le width most_bits) t) in
    record { size = record { width = width; signed = signed }; size_is = refl; some = some; most = most; gives = h c some most })

constant-gives : (holders : Holders) (value : LogicValue) (signed : Bool) → 1 ≤ length value →
    GivesSized holders (record { width = length value; signed = signed }) (λ width whole. SizedConstant width whole value)
constant-gives holders value signed some width whole below most sign = record { sized = (some, below, most); own_is = refl; width_is = refl; sign_is = refl }

bit_zero-sound : (holders : Holders) → IsSound holders bit_zero_reading
bit_zero-sound holders c =
    record { size = record { width = 1; signed = false }; size_is = refl; some = omega arith; most = omega arith; gives = constant-gives holders (Zero ∷ []) false (omega arith) }

-- Readings that are sized alone and in a group

pub alone-sized : (holders : Holders) (reading : Reading) (h : HasSize holders reading) → IsSizedTo (over_objects holders (tree_alone reading)) h.size.width h.size.width h.size.signed
alone-sized holders reading h =
    let P : Option Size → Type 0 = λ z. IsSizedTo (over_objects holders (reading.tree (size_or_bit z).width (size_or_bit z).signed)) h.size.width h.size.width h.size.signed in
    subst P (sym h.size_is) (h.gives h.size.width h.size.signed (omega arith) h.most (λ e. e))

is-alone : (e : Expression) (own : ℕ) (signed : Bool) → IsSizedTo e own own signed → IsAlone e
is-alone e own signed s = s.width_is ∙ sym s.own_is

-- Names

name-sound : (holders : Holders) (entry : Option ScopeEntry) (place : SourcePlace) (name : Identifier) → IsHeld holders name entry → IsSound holders (name_reading entry place name)
name-sound holders None place name h = λ e. refused e
name-sound holders (Some (ParameterEntry value signed)) place name h =
    sized-sound holders place (length value) signed true [] (λ width whole. SizedConstant width whole value) (λ c some most. constant-gives holders value signed some)
name-sound holders (Some RefusedParameter) place name h = bit_zero-sound holders
name-sound holders (Some WaitingParameter) place name h = bit_zero-sound holders
name-sound holders (Some (NetEntry range signed)) place name h =
    sized-sound holders place (range_width range) signed true [] _
    (λ c some most width whole below m sign.
    let e = h.1 in record { sized = ((omega (arith, e), omega (arith, e), m), h.0); own_is = e; width_is = refl; sign_is = refl })
name-sound holders (Some (RegEntry range signed)) place name h =
    sized-sound holders place (range_width range) signed true [] _
    (λ c some most width whole below m sign.
    let e = h.1 in record { sized = ((omega (arith, e), omega (arith, e), m), h.0); own_is = e; width_is = refl; sign_is = refl })
name-sound holders (Some (MemoryEntry range first last signed)) place name h = λ e. refused e
name-sound holders (Some GateEntry) place name h = λ e. refused e
name-sound holders (Some InstanceEntry) place name h = λ e. refused e

bit-sound : (holders : Holders) (ranged : Bool) (place : SourcePlace) (name : Identifier) (index : Reading) → HasItsBits (holders.vector name) → IsSound holders index →
    IsSound holders (bit_reading ranged place name index)
bit-sound holders true place name index bits h = λ c.
    let i = alone-sized holders index (h c) in
    record {
      size = record { width = 1; signed = false };
      size_is = refl;
      some = omega arith;
      most = omega arith;
      gives = λ width whole below most sign.
          record { sized = ((omega arith, below, most), not_signed whole sign, bits, is-alone _ _ _ i, i.sized); own_is = refl; width_is = refl; sign_is = refl };
    }
bit-sound holders false place name index bits h = λ e. refused e

indexed-sound : (holders : Holders) (entry : Option ScopeEntry) (place : SourcePlace) (name : Identifier) (index : Reading) → IsHeld holders name entry → IsSound holders index
    → IsSound holders (indexed_reading entry place name index)
indexed-sound holders None place name index held h = λ e. refused e
indexed-sound holders (Some (NetEntry range signed)) place name index held h = bit-sound holders range.ranged place name index held.0 h
indexed-sound holders (Some (RegEntry range signed)) place name index held h = bit-sound holders range.ranged place name index held.0 h
indexed-sound holders (Some (MemoryEntry range first last signed)) place name index held h =
    sized-sound holders place (range_width range) signed index.complete (alone_faults index) _
    (λ c some most width whole below m sign.
    let i = alone-sized holders index (h c) in
    let e = held.1 in
    record { sized = ((omega (arith, e), omega (arith, e), m), held.0, is-alone _ _ _ i, i.sized); own_is = e; width_is = refl; sign_is = refl })
indexed-sound holders (Some (ParameterEntry value signed)) place name index held h = λ e. refused e
indexed-sound holders (Some RefusedParameter) place name index held h = λ e. refused e
indexed-sound holders (Some WaitingParameter) place name index held h = λ e. refused e
indexed-sound holders (Some GateEntry) place name index held h = λ e. refused e
indexed-sound holders (Some InstanceEntry) place name index held h = λ e. refused e

-- Parts of vectors

up-long : (n start : ℕ) → length (up_from start n) ≡ n
up-long zero start = refl
up-long (suc n) start = ap (λ k. suc k) (up-long n (start + 1))

down-long : (n start : ℕ) → length (down_from start n) ≡ n
down-long zero start = refl
down-long (suc n) start = ap (λ k. suc k) (down-long n (start - 1))

leb-wrong : (a b : ℕ) → nat_le a b ≡ false → b ≤ a
leb-wrong a b e = by (leb_tells a b)
  where
    by : ((nat_le a b ≡ true) × (a ≤ b)) ⊎ ((nat_le a b ≡ false) × (b < a)) → b ≤ a
    by (inl t) = refused (sym e ∙ t.0)
    by (inr f) = let h = f.1 in omega (arith, h)

part-long : (from to : ℕ) → part_width from to ≡ span from to
part-long from to = by (nat_le to from) refl
  where
    by : (b : Bool) → nat_le to from ≡ b → part_width from to ≡ span from to
    by true e = let h : to ≤ from = leb-true to from e in let k : from - to + 1 ≡ span from to = omega arith in rw e (up-long (from - to + 1) to ∙ k)
    by false e = let h : from ≤ to = leb-wrong to from e in let k : to - from + 1 ≡ span from to = omega arith in rw e (down-long (to - from + 1) to ∙ k)

part-if-sound : (holders : Holders) (alike : Bool) (place : SourcePlace) (name : Identifier) (inside : List Fault) (from to : ℕ) → HasItsBits (holders.vector name) →
    IsSound holders (part_if alike place name inside from to)
part-if-sound holders true place name inside from to bits =
    sized-sound holders place (span from to) false true inside _
    (λ c some most width whole below m sign.
    let e = part-long from to in
    record { sized = ((omega (arith, e), omega (arith, e), m), not_signed whole sign, bits); own_is = e; width_is = refl; sign_is = refl })
part-if-sound holders false place name inside from to bits = λ e. refused e

part-between-sound : (holders : Holders) (range : DeclaredRange) (place : SourcePlace) (name : Identifier) (inside : List Fault) (from to : Option ℕ) → HasItsBits (holders.vector name)
    → IsSound holders (part_between range place name inside from to)
part-between-sound holders range place name inside None to bits = λ e. refused e
part-between-sound holders range place name inside (Some from) None bits = λ e. refused e
part-between-sound holders range place name inside (Some from) (Some to) bits = part-if-sound holders (runs_alike range from to) place name inside from to bits

part-sound : (holders : Holders) (ranged : Bool) (range : DeclaredRange) (place : SourcePlace) (name : Identifier) (inside : List Fault) (from to : Option ℕ) → HasItsBits (holders.vector name)
    → IsSound holders (part_reading ranged range place name inside from to)
part-sound holders true range place name inside from to bits = part-between-sound holders range place name inside from to bits
part-sound holders false range place name inside from to bits = λ e. refused e

ranged-sound : (holders : Holders) (entry : Option ScopeEntry) (place : SourcePlace) (name : Identifier) (inside : List Fault) (from to : Option ℕ) → IsHeld holders name entry
    → IsSound holders (ranged_reading entry place name inside from to)
ranged-sound holders None place name inside from to held = λ e. refused e
ranged-sound holders (Some (NetEntry range signed)) place name inside from to held = part-sound holders range.ranged range place name inside from to held.0
ranged-sound holders (Some (RegEntry range signed)) place name inside from to held = part-sound holders range.ranged range place name inside from to held.0
ranged-sound holders (Some (MemoryEntry range first last signed)) place name inside from to held = λ e. refused e
ranged-sound holders (Some (ParameterEntry value signed)) place name inside from to held = λ e. refused e
ranged-sound holders (Some RefusedParameter) place name inside from to held = λ e. refused e
ranged-sound holders (Some WaitingParameter) place name inside from to held = λ e. refused e
ranged-sound holders (Some GateEntry) place name inside from to held = λ e. refused e
ranged-sound holders (Some InstanceEntry) place name inside from to held = λ e. refused e

-- Operators

unary-sound : (holders : Holders) (sizing : UnarySizing) (operator : UnaryOperator) (a : Reading) → unary_sizing operator ≡ sizing → IsSound holders a →
    IsSound holders (unary_reading sizing operator a)
unary-sound holders OperandWithWhole operator a e h = λ c.
    let s = h c in
    record {
      size = s.size;
      size_is = s.size_is;
      some = s.some;
      most = s.most;
      gives = λ width whole below m sign.
          let t = s.gives width whole below m sign in
          let operand = over_objects holders (a.tree width whole) in
          let P : UnarySizing → Type 0 = λ z. HasRoom width (unary_width z (own_width operand)) × UnaryAgrees z width whole operand × IsSized operand in
          let own : unary_width (unary_sizing operator) (own_width operand) ≡ s.size.width = ap (λ z. unary_width z (own_width operand)) e ∙ t.own_is in
          let o = t.own_is in
          let l = s.some in
          record {
            sized = subst P (sym e) ((omega (arith, o, l), omega (arith, o), m), (t.width_is, t.sign_is), t.sized);
            own_is = own;
            width_is = refl;
            sign_is = refl;
          };
    }
unary-sound holders OperandAlone operator a e h = λ c.
    let t = alone-sized holders a (h c) in
    let operand = over_objects holders (tree_alone a) in
    record {
      size = record { width = 1; signed = false };
      size_is = refl;
      some = omega arith;
      most = omega arith;
      gives = λ width whole below m sign.
          let P : UnarySizing → Type 0 = λ z. HasRoom width (unary_width z (own_width operand)) × UnaryAgrees z width whole operand × IsSized operand in
          record {
            sized = subst P (sym e) ((omega arith, below, m), (not_signed whole sign, is-alone _ _ _ t), t.sized);
            own_is = ap (λ z. unary_width z (own_width operand)) e;
            width_is = refl;
            sign_is = refl;
          };
    }

-- the size of two readings that are sized together
larger-is : (holders : Holders) (a b : Reading) (s : HasSize holders a) (t : HasSize holders b)
    → larger_size a.size b.size ≡ Some (record { width = max s.size.width t.size.width; signed = s.size.signed && t.size.signed })
larger-is holders a b s t = ap₂ larger_size s.size_is t.size_is

-- the operands of an operator at a width and a sign
abbrev OperandsAgree : BinarySizing → BinaryOperator → ℕ → Bool → Expression → Expression → Type 0
OperandsAgree sizing operator width whole a b = HasRoom width (binary_width sizing (own_width a) (own_width b)) × BinaryAgrees sizing width whole a b × IsSized a × IsSized b

both-sound : (holders : Holders) (operator : BinaryOperator) (a b : Reading) → binary_sizing operator ≡ BothWithWhole → HasSize holders a → HasSize holders b →
    HasSize holders (binary_reading BothWithWhole operator a b)
both-sound holders operator a b e s t = record {
  size = record { width = max s.size.width t.size.width; signed = s.size.signed && t.size.signed };
  size_is = larger-is holders a b s t;
  some = let l = s.some in omega (arith, l);
  most = let l = s.most in let k = t.most in omega (arith, l, k);
  gives = λ width whole below m sign.
      let x = s.gives width whole (omega (arith, below)) m (λ w. and-left s.size.signed t.size.signed (sign w)) in
      let y = t.gives width whole (omega (arith, below)) m (λ w. and-right s.size.signed t.size.signed (sign w)) in
      let one = over_objects holders (a.tree width whole) in
      let two = over_objects holders (b.tree width whole) in
      let o = x.own_is in
      let p = y.own_is in
      let l = s.some in
      let own : max (own_width one) (own_width two) ≡ max s.size.width t.size.width = ap₂ max o p in
      let P : BinarySizing → Type 0 = λ z. OperandsAgree z operator width whole one two in
      record {
        sized = subst P (sym e) ((omega (arith, o, p, l), omega (arith, o, p, below), m), ((x.width_is, x.sign_is), (y.width_is, y.sign_is)), x.sized, y.sized);
        own_is = ap (λ z. binary_width z (own_width one) (own_width two)) e ∙ own;
        width_is = refl;
        sign_is = refl;
      };
}

left-sound : (holders : Holders) (operator : BinaryOperator) (a b : Reading) → binary_sizing operator ≡ LeftWithWhole → HasSize holders a → HasSize holders b →
    HasSize holders (binary_reading LeftWithWhole operator a b)
left-sound holders operator a b e s t = record {
  size = s.size;
  size_is = s.size_is;
  some = s.some;
  most = s.most;
  gives = λ width whole below m sign.
      let x = s.gives width whole below m sign in
      let y = alone-sized holders b t in
      let one = over_objects holders (a.tree width whole) in
      let two = over_objects holders (tree_alone b) in
      let o = x.own_is in
      let l = s.some in
      let P : BinarySizing → Type 0 = λ z. OperandsAgree z operator width whole one two in
      record {
        sized = subst P (sym e) ((omega (arith, o, l), omega (arith, o, below), m), ((x.width_is, x.sign_is), is-alone _ _ _ y), x.sized, y.sized);
        own_is = ap (λ z. binary_width z (own_width one) (own_width two)) e ∙ o;
        width_is = refl;
        sign_is = refl;
      };
}

together-sound : (holders : Holders) (operator : BinaryOperator) (a b : Reading) → binary_sizing operator ≡ BothTogether → HasSize holders a → HasSize holders b →
    HasSize holders (binary_reading BothTogether operator a b)
together-sound holders operator a b e s t =
    let z : Size = record { width = max s.size.width t.size.width; signed = s.size.signed && t.size.signed } in
    let group = larger-is holders a b s t in
    let k = s.most in
    let j = t.most in
    let most : z.width ≤ most_bits = omega (arith, k, j) in
    let one = over_objects holders (tree_at a (larger_size a.size b.size)) in
    let two = over_objects holders (tree_at b (larger_size a.size b.size)) in
    let A : Option Size → Type 0 = λ size. IsSizedTo (over_objects holders (tree_at a size)) s.size.width z.width z.signed in
    let B : Option Size → Type 0 = λ size. IsSizedTo (over_objects holders (tree_at b size)) t.size.width z.width z.signed in
    let x : IsSizedTo one s.size.width z.width z.signed = subst A (sym group) (s.gives z.width z.signed (omega arith) most (λ w. and-left s.size.signed t.size.signed w)) in
    let y : IsSizedTo two t.size.width z.width z.signed = subst B (sym group) (t.gives z.width z.signed (omega arith) most (λ w. and-right s.size.signed t.size.signed w)) in
    record {
      size = record { width = 1; signed = false };
      size_is = refl;
      some = omega arith;
      most = omega arith;
      gives = λ width whole below m sign.
          let P : BinarySizing → Type 0 = λ z. OperandsAgree z operator width whole one two in
          record {
            sized = subst P (sym e)
                ((omega arith, below, m), (not_signed whole sign, x.width_is ∙ sym (ap₂ max x.own_is y.own_is), y.width_is ∙ sym x.width_is, y.sign_is ∙ sym x.sign_is), x.sized, y.sized);
            own_is = ap (λ z. binary_width z (own_width one) (own_width two)) e;
            width_is = refl;
            sign_is = refl;
          };
    }

each-sound : (holders : Holders) (operator : BinaryOperator) (a b : Reading) → binary_sizing operator ≡ EachAlone → HasSize holders a → HasSize holders b →
    HasSize holders (binary_reading EachAlone operator a b)
each-sound holders operator a b e s t =
    let x = alone-sized holders a s in
    let y = alone-sized holders b t in
    let one = over_objects holders (tree_alone a) in
    let two = over_objects holders (tree_alone b) in
    record {
      size = record { width = 1; signed = false };
      size_is = refl;
      some = omega arith;
      most = omega arith;
      gives = λ width whole below m sign.
          let P : BinarySizing → Type 0 = λ z. OperandsAgree z operator width whole one two in
          record {
            sized = subst P (sym e) ((omega arith, below, m), (not_signed whole sign, is-alone _ _ _ x, is-alone _ _ _ y), x.sized, y.sized);
            own_is = ap (λ z. binary_width z (own_width one) (own_width two)) e;
            width_is = refl;
            sign_is = refl;
          };
    }

binary-sound : (holders : Holders) (sizing : BinarySizing) (operator : BinaryOperator) (a b : Reading) → binary_sizing operator ≡ sizing → IsSound holders a → IsSound holders b →
    IsSound holders (binary_reading sizing operator a b)
binary-sound holders BothWithWhole operator a b e h k = λ c. both-sound holders operator a b e (h (and-left a.complete b.complete c)) (k (and-right a.complete b.complete c))
binary-sound holders LeftWithWhole operator a b e h k = λ c. left-sound holders operator a b e (h (and-left a.complete b.complete c)) (k (and-right a.complete b.complete c))
binary-sound holders BothTogether operator a b e h k = λ c. together-sound holders operator a b e (h (and-left a.complete b.complete c)) (k (and-right a.complete b.complete c))
binary-sound holders EachAlone operator a b e h k = λ c. each-sound holders operator a b e (h (and-left a.complete b.complete c)) (k (and-right a.complete b.complete c))

choice-sized : (holders : Holders) (c a b : Reading) → HasSize holders c → HasSize holders a → HasSize holders b → HasSize holders (choice_reading c a b)
choice-sized holders c a b r s t = record {
  size = record { width = max s.size.width t.size.width; signed = s.size.signed && t.size.signed };
  size_is = larger-is holders a b s t;
  some = let l = s.some in omega (arith, l);
  most = let l = s.most in let k = t.most in omega (arith, l, k);
  gives = λ width whole below m sign.
      let x = s.gives width whole (omega (arith, below)) m (λ w. and-left s.size.signed t.size.signed (sign w)) in
      let y = t.gives width whole (omega (arith, below)) m (λ w. and-right s.size.signed t.size.signed (sign w)) in
      let z = alone-sized holders c r in
      let o = x.own_is in
      let p = y.own_is in
      let l = s.some in
      record {
        sized = ((omega (arith, o, p, l), omega (arith, o, p, below), m), is-alone _ _ _ z, (x.width_is, x.sign_is), (y.width_is, y.sign_is), z.sized, x.sized, y.sized);
        own_is = ap₂ max o p;
        width_is = refl;
        sign_is = refl;
      };
}

choice-sound : (holders : Holders) (c a b : Reading) → IsSound holders c → IsSound holders a → IsSound holders b → IsSound holders (choice_reading c a b)
choice-sound holders c a b g h k = λ all.
    let rest = and-right c.complete (a.complete && b.complete) all in
    choice-sized holders c a b (g (and-left c.complete (a.complete && b.complete) all)) (h (and-left a.complete b.complete rest)) (k (and-right a.complete b.complete rest))

-- Concatenations

-- the parts of a concatenation have this width together, and each is sized alone
record PartsSized (holders : Holders) (width : Option ℕ) (trees : SizedExpressions) : Type 0 where
  pub total : ℕ
  pub total_is : width ≡ Some total
  pub sized : AreSizedAlone (all_over_objects holders trees)
  pub own_is : own_width_of_parts (all_over_objects holders trees) ≡ total

abbrev PartsSound : Holders → PartsReading → Type 0
PartsSound holders read = read.complete ≡ true → PartsSized holders read.width read.trees

part-sized : (holders : Holders) (unsized : Bool) (place : SourcePlace) (reading : Reading) (rest : PartsReading) → IsSound holders reading → PartsSound holders rest →
    PartsSound holders (part_before unsized place reading rest)
part-sized holders true place reading rest h k = λ e. refused e
part-sized holders false place reading rest h k = λ c.
    let s = h (and-left reading.complete rest.complete c) in
    let t = k (and-right reading.complete rest.complete c) in
    let x = alone-sized holders reading s in
    record {
      total = s.size.width + t.total;
      total_is = ap₂ width_with s.size_is t.total_is;
      sized = (is-alone _ _ _ x, x.sized, t.sized);
      own_is = ap₂ (λ a b. a + b) x.own_is t.own_is;
    }

same_number : (a b : ℕ) → Some a ≡ Some b → a ≡ b
same_number a b e = cc

concatenation-sound : (holders : Holders) (place : SourcePlace) (width : Option ℕ) (complete : Bool) (inside : List Fault) (trees : SizedExpressions) →
    (complete ≡ true → PartsSized holders width trees)
    → IsSound holders (concatenation_reading place width complete inside trees)
concatenation-sound holders place None complete inside trees h = λ e. refused e
concatenation-sound holders place (Some total) complete inside trees h =
    sized-sound holders place total false complete inside _
    (λ c some most width whole below m sign.
    let p = h c in
    let own : own_width_of_parts (all_over_objects holders trees) ≡ total = p.own_is ∙ sym (same_number total p.total p.total_is) in
    record { sized = ((omega (arith, own), omega (arith, own), m), not_signed whole sign, p.sized); own_is = own; width_is = refl; sign_is = refl })

replication-sound : (holders : Holders) (place : SourcePlace) (count width : Option ℕ) (complete : Bool) (inside : List Fault) (trees : SizedExpressions) →
    (complete ≡ true → PartsSized holders width trees)
    → IsSound holders (replication_reading place count width complete inside trees)
replication-sound holders place None width complete inside trees h = λ e. refused e
replication-sound holders place (Some count) None complete inside trees h = λ e. refused e
replication-sound holders place (Some count) (Some total) complete inside trees h =
    sized-sound holders place (count * total) false complete inside _
    (λ c some most width whole below m sign.
    let p = h c in
    let parts = own_width_of_parts (all_over_objects holders trees) in
    let own : count * parts ≡ count * total = ap (λ n. count * n) (p.own_is ∙ sym (same_number total p.total p.total_is)) in
    let P : ℕ → Type 0 = λ n. HasRoom width n in
    record { sized = (subst P (sym own) (some, below, m), not_signed whole sign, p.sized); own_is = own; width_is = refl; sign_is = refl })

-- Expressions

mutual
  -- where an expression and all its parts have sizes, its tree is sized at each width and sign that it may have
  pub reading-sound : (holders : Holders) (scope : Scope) (e : SourceExpression) → AreHeld holders scope e → IsSound holders (reading_of scope e)
  reading-sound holders scope (Number place form value) held =
      sized-sound holders place (length value) (is_signed_number form value) true [] (λ width whole. SizedConstant width whole value)
      (λ c some most. constant-gives holders value (is_signed_number form value) some)
  reading-sound holders scope (Selected place name index) held = select-sound holders scope place name index held.0 held.1
  reading-sound holders scope (Parenthesised place inner) held = reading-sound holders scope inner held
  reading-sound holders scope (Prefixed place operator operand) held = unary-sound holders (unary_sizing operator) operator (reading_of scope operand) refl (reading-sound holders scope operand held)
  reading-sound holders scope (Infixed place operator left right) held =
      binary-sound holders (binary_sizing operator) operator (reading_of scope left) (reading_of scope right) refl (reading-sound holders scope left held.0) (reading-sound holders scope right held.1)
  reading-sound holders scope (Chosen place condition first second) held =
      choice-sound holders (reading_of scope condition) (reading_of scope first) (reading_of scope second) (reading-sound holders scope condition held.0) (reading-sound holders scope first held.1)
      (reading-sound holders scope second held.2)
  reading-sound holders scope (Concatenated place parts) held =
      let read = parts_reading scope parts in
      concatenation-sound holders place read.width read.complete read.inside read.trees (parts-sound holders scope parts held)
  reading-sound holders scope (Replicated place count parts) held =
      let read = parts_reading scope parts in
      let times = reading_of scope count in
      replication-sound holders place (natural_constant (constant_reading scope 0 count times)) read.width read.complete (read.inside ++ alone_faults times) read.trees
      (parts-sound holders scope parts held)

  select-sound : (holders : Holders) (scope : Scope) (place : SourcePlace) (name : Identifier) (index : SourceIndex) → IsHeld holders name (looked_up scope name) → AreHeldInIndex holders scope index
      → IsSound holders (select_reading scope place name index)
  select-sound holders scope place name NoIndex held rest = name-sound holders (looked_up scope name) place name held
  select-sound holders scope place name (IndexAt index) held rest = indexed-sound holders (looked_up scope name) place name (reading_of scope index) held (reading-sound holders scope index rest)
  select-sound holders scope place name (IndexRange from to) held rest =
      ranged-sound holders (looked_up scope name) place name (alone_faults (reading_of scope from) ++ alone_faults (reading_of scope to))
      (natural_constant (constant_reading scope 0 from (reading_of scope from))) (natural_constant (constant_reading scope 0 to (reading_of scope to))) held

  parts-sound : (holders : Holders) (scope : Scope) (parts : SourceExpressions) → AreHeldInParts holders scope parts → PartsSound holders (parts_reading scope parts)
  parts-sound holders scope no_parts held = λ c. record { total = 0; total_is = refl; sized = tt; own_is = refl }
  parts-sound holders scope (more_parts first rest) held =
      part-sized holders (is_unsized_number first) (place_of_expression first) (reading_of scope first) (parts_reading scope rest) (reading-sound holders scope first held.0)
      (parts-sound holders scope rest held.1)
