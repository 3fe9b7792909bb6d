-- A word spells nothing by a name with another stem (the forms of names are this program's own).
use Rattle.std.proofs.Common.{◌≡◌, ℕ, zero, suc, ◌+◌, ◌<◌, ◌≤◌, ◌^◌, ◌||◌, Bool, true, false, cond, List, [], ◌∷◌, ◌++◌, length, map, Option, Some, None, refl, ap, sym, ◌∙◌, subst, arith, find}
use Rattle.std.specs.Prelude.{nat_eq}
use Rattle.std.specs.Fmt.{decimal}
use Rattle.std.specs.Int.Digits.{digits_of}
use Rattle.std.specs.Option.{option_and_then, option_map}
use Rattle.std.specs.Str.{bytes_eq}
use Rattle.std.proofs.lemmas.Bool.{ne_eqb, false≢true, or_right}
use Rattle.std.proofs.lemmas.Fmt.{decimal-digits_of}
use Rattle.std.proofs.lemmas.Slice.Eq.{bytes_eq-Decides}
use Rattle.vf_base.specs.Lists.{has}
use Rattle.v_design.specs.Designs.{FlatObject, FlatNode, NameJoined, FlatDesign, FaultSite, GateTerminal}
use Rattle.v_design.specs.Expressions.{up_from}
use Rattle.v_design.specs.Sites.{index_of_bit, index_text, bit_name, terminal_name}
use Rattle.v_design.specs.Sized.{span}
use Rattle.fault_list.specs.Members.{In, here, there, up-in}
use Rattle.fault_list.specs.Spelled.{site_by_kind, bit_spelled, object_spelled, numbered_terminals, terminal_spelled, node_spelled, place_spelled, place_site, name_spelled}
use Rattle.plan_read.specs.Stems.{stem, front}

-- no place passes
find-none : (p : ℕ → Bool) (xs : List ℕ) → ((n : ℕ) → In n xs → p n ≡ false) → find p xs ≡ None
find-none p [] each = refl
find-none p (x ∷ xs) each = ap (λ b. cond b (Some x) (find p xs)) (each x (here xs)) ∙ find-none p xs (λ n h. each n (there x xs h))

-- texts with other parts differ
apart : (part : List ℕ → List ℕ) (text word : List ℕ) (is : List ℕ) → part text ≡ is → bytes_eq (part word) is ≡ false → bytes_eq text word ≡ false
apart part text word is same other =
    elim (bytes_eq text word) as (λ b. bytes_eq text word ≡ b → b ≡ false) [
      | true ↦ λ e.
          let one : text ≡ word = (bytes_eq-Decides text word).0 e in
          let parts : part word ≡ is = ap part (sym one) ∙ same in
          absurd (false≢true (sym other ∙ (bytes_eq-Decides (part word) is).1 parts))
      | false ↦ λ e. refl
    ] refl

-- an index changes no stem
stem-index : (name : List ℕ) (ranged : Bool) (index : ℕ) → stem (name ++ index_text ranged index) ≡ stem name
stem-index [] true index = refl
stem-index [] false index = refl
stem-index (b ∷ bs) ranged index = ap (λ l. cond (nat_eq b 91) [] (b ∷ l)) (stem-index bs ranged index)

-- a word that has another stem is no whole name
pub name-apart : (name word : List ℕ) → bytes_eq (stem word) (stem name) ≡ false → bytes_eq name word ≡ false
name-apart name word other = apart stem name word (stem name) refl other

-- it spells no bit of an object, and none of a joined name
pub bit-apart : (object : FlatObject) (word : List ℕ) → bytes_eq (stem word) (stem object.name) ≡ false → bit_spelled object word ≡ None
bit-apart object word other =
    find-none (λ bit. bytes_eq (bit_name (Some object) bit) word) (up_from 0 object.width)
    (λ bit h. apart stem (bit_name (Some object) bit) word (stem object.name) (stem-index object.name object.ranged (index_of_bit object.high object.low bit)) other)

pub place-apart : (name : NameJoined) (word : List ℕ) → bytes_eq (stem word) (stem name.name) ≡ false → place_spelled name word ≡ None
place-apart name word other =
    find-none (λ place. bytes_eq (name.name ++ index_text name.ranged (index_of_bit name.vector.high name.vector.low place)) word) (up_from 0 (span name.vector.high name.vector.low))
    (λ place h. apart stem (name.name ++ index_text name.ranged (index_of_bit name.vector.high name.vector.low place)) word (stem name.name)
    (stem-index name.name name.ranged (index_of_bit name.vector.high name.vector.low place)) other)

pub object-apart : (design : FlatDesign) (word : List ℕ) (number : ℕ) (object : FlatObject) → bytes_eq (stem word) (stem object.name) ≡ false → object_spelled design word number object ≡ None
object-apart design word number object other = ap (option_and_then (site_by_kind design object.kind number)) (bit-apart object word other)

pub joined-apart : (design : FlatDesign) (word : List ℕ) (number : ℕ) (name : NameJoined) → bytes_eq (stem word) (stem name.name) ≡ false → name_spelled design word number name ≡ None
joined-apart design word number name other = ap (option_and_then (place_site design name)) (place-apart name word other)

-- digits have no point
digits-plain : (digits : List ℕ) → has (map (λ d. 48 + d) digits) 46 ≡ false
digits-plain [] = refl
digits-plain (d ∷ ds) = ap (λ b. b || has (map (λ d. 48 + d) ds) 46) (ne_eqb (48 + d) 46 (λ e. absurd (omega arith))) ∙ digits-plain ds

decimal-plain : (n : ℕ) → 0 < n → n < 2 ^ 64 → has (decimal n) 46 ≡ false
decimal-plain n some low = ap (λ l. has l 46) (decimal-digits_of n some low) ∙ digits-plain (digits_of 10 n)

front-point : (name rest : List ℕ) → has rest 46 ≡ false → front (name ++ 46 ∷ rest) ≡ name
front-point [] rest plain = ap (λ b. cond b (46 ∷ front rest) []) plain
front-point (b ∷ bs) rest plain =
    ap (λ t. cond t (b ∷ front (bs ++ 46 ∷ rest)) []) (inside bs) ∙ ap (λ l. b ∷ l) (front-point bs rest plain)
  where
    inside : (xs : List ℕ) → has (xs ++ 46 ∷ rest) 46 ≡ true
    inside [] = refl
    inside (x ∷ xs) = or_right (nat_eq x 46) (has (xs ++ 46 ∷ rest) 46) (inside xs)

-- a word that has another name before its last point spells no terminal of a gate
pub node-apart : (word : List ℕ) (number : ℕ) (node : FlatNode) → bytes_eq (front word) node.name ≡ false → node_spelled word number node ≡ None
node-apart word number node other =
    ap (option_map (GateTerminal number))
    (find-none (λ terminal. bytes_eq (terminal_name (Some node) terminal) word) (up_from 1 (numbered_terminals node))
    (λ terminal h.
    let range = up-in 1 (numbered_terminals node) terminal h in
    let low : terminal < 2 ^ 64 = omega (arith, range.1) in
    apart front (terminal_name (Some node) terminal) word node.name (front-point node.name (decimal terminal) (decimal-plain terminal (omega (arith, range.0)) low)) other))
