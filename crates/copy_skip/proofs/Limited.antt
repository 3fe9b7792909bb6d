-- Numbers before a limit that pass no test.
use Rattle.std.proofs.Common.{◌≡◌, ℕ, suc, ◌-◌, ◌<◌, ◌≤◌, List, [], ◌∷◌, map, length, Bool, true, false, refl, sym, ap, subst, ◌∙◌, ◌⊎◌, inl, inr, arith}
use Rattle.std.specs.Prelude.{Option, Some, None, is_some, nat_eq, slice_get, option_map}
use Rattle.std.proofs.lemmas.Bool.{eqb-true, or_cases, cases_lt}
use Rattle.four_value.specs.Values.{LogicValue}
use Rattle.vf_base.specs.Base.{node_number, object_number}
use Rattle.vf_base.specs.Lists.{has}
use Rattle.vf_base.specs.declared.ids.NodeId.{NodeId}
use Rattle.vf_base.specs.declared.ids.ObjectId.{ObjectId}
use Rattle.v_design.specs.Designs.{FlatDesign}
use Rattle.net_graph.specs.ReaderLaws.{has-readers_of}
use Rattle.net_graph.specs.Tables.{readers_of, reads}
use Rattle.copy_laws.specs.Differences.{Ascend}
use Rattle.copy_state.specs.Entries.{first_from}
use Rattle.trace_window.specs.Moments.{Seen}
use Rattle.trace_window.specs.Touched.{IsFirstFrom}
use Rattle.copy_skip.specs.Entries.{next-kept, none-from, none-empty}
use Rattle.copy_skip.specs.Limits.{NoneBetween, NoneEvaluates, NoneReads, IsLeftAlone, AreLeftAlone}

-- none passes before a limit that isn't behind the first one that does
pub first-none : (test : ℕ → Bool) (count first limit result : ℕ) (next : Option ℕ) → IsFirstFrom test count first next → limit ≤ count → result ≤ limit →
    ((moment : ℕ) → next ≡ Some moment → result ≤ moment) → NoneBetween test first result
first-none test count first limit result None is within low early = λ number since before. is number since (omega (arith, within, low, before))
first-none test count first limit result (Some moment) is within low early = λ number since before. is.3 number since (let e : result ≤ moment = early moment refl in omega (arith, e, before))

-- nor before a lesser one
pub none-lower : (test : ℕ → Bool) (first limit lower : ℕ) → lower ≤ limit → NoneBetween test first limit → NoneBetween test first lower
none-lower test first limit lower low none = λ number since before. none number since (omega (arith, low, before))

-- Readers

-- so far none of some nodes is evaluated
abbrev pub NoneYet : List Seen → List NodeId → ℕ → ℕ → ℕ → Type 0
NoneYet events readers count first limit = (place : ℕ) (reader : NodeId) → place < count → slice_get readers place ≡ Some reader → NoneEvaluates events (node_number reader) first limit

some-node : (one other : NodeId) → Some one ≡ Some other → one ≡ other
some-node one other e = cc

-- one more of them
pub yet-more : (events : List Seen) (readers : List NodeId) (count first limit lower : ℕ) (reader : NodeId) → lower ≤ limit → slice_get readers count ≡ Some reader →
    NoneYet events readers count first limit → NoneEvaluates events (node_number reader) first lower → NoneYet events readers (suc count) first lower
yet-more events readers count first limit lower reader low here yet none place other before at = elim (cases_lt place count) [
  | inl less ↦ λ number since early. yet place other less at number since (omega (arith, low, early))
  | inr more ↦
      let same : count ≡ place = omega (arith, more, before) in
      subst (λ r. NoneEvaluates events (node_number r) first lower) (some-node reader other (sym here ∙ ap (slice_get readers) same ∙ at)) none
]

record HasPlace (readers : List NodeId) (number : ℕ) : Type 0 where
  place : ℕ
  reader : NodeId
  at : slice_get readers place ≡ Some reader
  low : place < length readers
  is : node_number reader ≡ number

has-place : (readers : List NodeId) (number : ℕ) → has (map node_number readers) number ≡ true → HasPlace readers number
has-place [] number e = cc
has-place (reader ∷ readers) number e = go (or_cases (nat_eq (node_number reader) number) (has (map node_number readers) number) e) (λ f. has-place readers number f)
  where
    go : (nat_eq (node_number reader) number ≡ true) ⊎ (has (map node_number readers) number ≡ true) → (has (map node_number readers) number ≡ true → HasPlace readers number) →
        HasPlace (reader ∷ readers) number
    go (inl f) rest = record { place = 0; reader = reader; at = refl; low = omega arith; is = eqb-true (node_number reader) number f }
    go (inr f) rest =
        let more = rest f in
        record { place = suc more.place; reader = more.reader; at = more.at; low = omega (arith, more.low); is = more.is }

-- all readers of an object
pub none-reads : (design : FlatDesign) (events : List Seen) (object : ℕ) (readers : List NodeId) (first limit : ℕ) → map node_number readers ≡ readers_of design object →
    NoneYet events readers (length readers) first limit → NoneReads design events object first limit
none-reads design events object readers first limit are yet number node here reads_it =
    let place = has-place readers number (ap (λ l. has l number) are ∙ has-readers_of design object number ∙ ap (reads object) here ∙ reads_it) in
    subst (λ n. NoneEvaluates events n first limit) place.is (yet place.place place.reader place.low place.at)

pub reads-lower : (design : FlatDesign) (events : List Seen) (object first limit lower : ℕ) → lower ≤ limit → IsLeftAlone design events object first limit → IsLeftAlone design events object first lower
reads-lower design events object first limit lower low alone = record {
  touches = λ number since before. alone.touches number since (omega (arith, low, before));
  reads = λ number node here reads moment since before. alone.reads number node here reads moment since (omega (arith, low, before));
}

-- Own values

-- one object more
pub alone-more : (design : FlatDesign) (events : List Seen) (values : List (ℕ × LogicValue)) (from next first limit lower : ℕ) → Ascend values → first_from from values ≡ Some next →
    lower ≤ limit → AreLeftAlone design events values from first limit → IsLeftAlone design events next first lower → AreLeftAlone design events values (suc next) first lower
alone-more design events values from next first limit lower up is low alone one object below own = elim (cases_lt object from) [
  | inl less ↦ reads-lower design events object first limit lower low (alone object less own)
  | inr more ↦ elim (cases_lt object next) [
    | inl less ↦ absurd (let no : true ≡ false = sym own ∙ ap is_some ((next-kept from next values up is).none object more less) in cc)
    | inr late ↦ let same : next ≡ object = omega (arith, late, below) in subst (λ o. IsLeftAlone design events o first lower) same one
  ]
]

-- all objects
pub alone-all : (design : FlatDesign) (events : List Seen) (values : List (ℕ × LogicValue)) (from below first limit : ℕ) → first_from from values ≡ None →
    AreLeftAlone design events values from first limit → AreLeftAlone design events values below first limit
alone-all design events values from below first limit none alone object low own = elim (cases_lt object from) [
  | inl less ↦ alone object less own
  | inr more ↦ absurd (let no : true ≡ false = sym own ∙ ap is_some (none-from from values none object more) in cc)
]

-- how many objects are left from the next one on
abbrev pub objects_left : ℕ → Option ObjectId → ℕ
objects_left count None = 0
objects_left count (Some object) = suc count - object_number object

-- a list of which no number is the first is empty
pub empty-by : {A B : Type 0} (number : B → ℕ) (found : Option B) (entries : List (ℕ × A)) → option_map number found ≡ first_from 0 entries → is_some found ≡ false → entries ≡ []
empty-by number None entries e none = none-empty entries (sym e)
empty-by number (Some x) entries e none = cc

-- fewer are left behind the next one
pub left-falls : (count : ℕ) (old : Option ObjectId) (object : ObjectId) (new : Option ObjectId) → old ≡ Some object → object_number object < count →
    ((later : ObjectId) → new ≡ Some later → object_number object < object_number later) → objects_left count new < objects_left count old
left-falls count old object new is low later = subst (λ o. objects_left count new < objects_left count o) (sym is) (go new later)
  where
    go : (next : Option ObjectId) → ((more : ObjectId) → next ≡ Some more → object_number object < object_number more) → objects_left count next < suc count - object_number object
    go None h = omega (arith, low)
    go (Some more) h = let less : object_number object < object_number more = h more refl in omega (arith, low, less)
