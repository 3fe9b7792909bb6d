-- Names that stand in an index, and what blocks read by other names.
use Rattle.std.proofs.Common.{◌≡◌, ℕ, zero, suc, ◌<◌, length, get_or, arith, Bor, Bool, true, false, not, ◌&&◌, ◌||◌, List, [], ◌∷◌, ◌++◌, map, filter, Option, is_some, refl}
use Rattle.std.proofs.Common.{sym, ap, ap₂, ◌∙◌}
use Rattle.std.specs.List.{list_all, list_any}
use Rattle.key_index.specs.Places.{keys_of, key_from}
use Rattle.v_tree.specs.Trees.{Identifier, has_name}
use Rattle.v_elab.specs.Parts.{Signal, WalkedProcess, Part}
use Rattle.v_elab.specs.Drivers.{signals_of, outermost, port_writes, other_writes, is_own_target, target_signals, reads_by_other_name}
use Rattle.v_comb.specs.CombinationalForm.{names_read}
use Rattle.v_elab.specs.Statements.{block_body}
use Rattle.elab_wires.specs.WrittenNames.{written_from, objects_written, has_other_writer}
use Rattle.elab_wires.specs.WrittenLaws.{other-written, port-written}
use Rattle.elab_wires.specs.IndexLaws.{key-there}
use Rattle.elab_parts.specs.PartViews.{parts_of}
use Rattle.elab_wires.specs.Wirings.{IsWiring, reads_other, is_block_node}
use Rattle.elab_wires.specs.declared.wiring.Wiring.{Wiring}

-- A target that nothing else writes

pub ported : (parts : List Part) (number : ℕ) (name : Identifier) → port_writes (signals_of parts) name ≡ true → false ≡ is_own_target parts number name
ported parts number name e = sym (ap (λ b. not b && not (other_writes (signals_of parts) number (outermost (signals_of parts) name) 0 parts)) e)

pub unported : (parts : List Part) (number : ℕ) (name : Identifier) (other : Bool) → port_writes (signals_of parts) name ≡ false
    → other ≡ has_other_writer (objects_written (signals_of parts) (written_from 0 parts)) number (outermost (signals_of parts) name) → not other ≡ is_own_target parts number name
unported parts number name other e w =
    ap not (w ∙ other-written (signals_of parts) number (outermost (signals_of parts) name) 0 parts)
    ∙ sym (ap (λ b. not b && not (other_writes (signals_of parts) number (outermost (signals_of parts) name) 0 parts)) e)

-- Names that are read

filtered : (b c : Bool) (signals : List Signal) (process : WalkedProcess) (targets objects : List Identifier) (name : Identifier) (rest : List Identifier)
    → has_name targets name ≡ b → has_name objects (outermost signals (process.path ++ name)) ≡ c
    → list_any (λ n. has_name objects (outermost signals n)) (target_signals process (filter (λ n. not (has_name targets n)) (name ∷ rest)))
    ≡ ((not b && c) || list_any (λ n. has_name objects (outermost signals n)) (target_signals process (filter (λ n. not (has_name targets n)) rest)))
filtered true c signals process targets objects name rest e f = rw e refl
filtered false c signals process targets objects name rest e f = rw (e, f) refl

pub others-read : (signals : List Signal) (process : WalkedProcess) (targets objects names : List Identifier)
    → list_any (λ n. has_name objects (outermost signals n)) (target_signals process (filter (λ n. not (has_name targets n)) names)) ≡ list_any (reads_other signals process targets objects) names
others-read signals process targets objects [] = refl
others-read signals process targets objects (name ∷ names) =
    filtered (has_name targets name) (has_name objects (outermost signals (process.path ++ name))) signals process targets objects name names refl refl
    ∙ ap (λ r. reads_other signals process targets objects name || r) (others-read signals process targets objects names)

pub by-other-name : (signals : List Signal) (process : WalkedProcess) (targets : List Identifier)
    → list_any (reads_other signals process targets (map (outermost signals) (target_signals process targets))) (names_read (block_body process.body)) ≡ reads_by_other_name signals process targets
by-other-name signals process targets = sym (others-read signals process targets (map (outermost signals) (target_signals process targets)) (names_read (block_body process.body)))

pub other-read : (signals : List Signal) (process : WalkedProcess) (targets objects : List Identifier) (name object : Identifier) (found : Option ℕ) (b : Bool) → has_name targets name ≡ false
    → object ≡ outermost signals (process.path ++ name) → found ≡ key_from objects object 0 → b ≡ is_some found → b ≡ reads_other signals process targets objects name
other-read signals process targets objects name object found b absent at e there =
    there ∙ ap is_some e ∙ key-there objects object ∙ ap (has_name objects) at
    ∙ sym (ap (λ t. not t && has_name objects (outermost signals (process.path ++ name))) absent)

-- The same by the tables of some parts

pub own-ported : (w : Wiring) (number : ℕ) (name : Identifier) (ported_here : Bool) → IsWiring w → ported_here ≡ has_name w.ports name → ported_here ≡ true →
    false ≡ is_own_target (parts_of w.parts.now) number name
own-ported w number name ported_here wired e holds =
    ported (parts_of w.parts.now) number name (sym (port-written (signals_of (parts_of w.parts.now)) name) ∙ ap (λ names. has_name names name) (sym wired.ports_are) ∙ sym e ∙ holds)

pub own-unported : (w : Wiring) (number : ℕ) (name object : Identifier) (ported_here other : Bool) → IsWiring w → ported_here ≡ has_name w.ports name → ported_here ≡ false →
    object ≡ outermost w.signals.now name
    → other ≡ has_other_writer w.writers number object → not other ≡ is_own_target (parts_of w.parts.now) number name
own-unported w number name object ported_here other wired e fails at o =
    unported (parts_of w.parts.now) number name other
    (sym (port-written (signals_of (parts_of w.parts.now)) name) ∙ ap (λ names. has_name names name) (sym wired.ports_are) ∙ sym e ∙ fails)
    (o ∙ ap₂ (λ (ws : List (Identifier × ℕ)) (n : Identifier). has_other_writer ws number n) wired.writers_are (at ∙ ap (λ ss. outermost ss name) wired.signals_are))

-- the names of all targets, and whether each is the block's own
all-by : (own other : Bool) → own ≡ false → false ≡ (own && not other)
all-by own other e = sym (ap (λ b. b && not other) e)

pub not-own : (parts : List Part) (number : ℕ) (process : WalkedProcess) (targets whole : List Identifier) (own : Bool) → whole ≡ target_signals process targets →
    own ≡ list_all (is_own_target parts number) whole → own ≡ false
    → false ≡ is_block_node parts number process targets
not-own parts number process targets whole own at e fails =
    all-by (list_all (is_own_target parts number) (target_signals process targets)) (reads_by_other_name (signals_of parts) process targets)
    (ap (list_all (is_own_target parts number)) (sym at) ∙ sym e ∙ fails)

pub all-own : (w : Wiring) (number : ℕ) (process : WalkedProcess) (targets whole : List Identifier) (own other : Bool) → IsWiring w → whole ≡ target_signals process targets
    → own ≡ list_all (is_own_target (parts_of w.parts.now) number) whole → own ≡ true → other ≡ reads_by_other_name w.signals.now process targets →
    not other ≡ is_block_node (parts_of w.parts.now) number process targets
all-own w number process targets whole own other wired at e holds o =
    ap not (o ∙ ap (λ ss. reads_by_other_name ss process targets) wired.signals_are)
    ∙ sym (ap (λ b. b && not (reads_by_other_name (signals_of (parts_of w.parts.now)) process targets)) (ap (list_all (is_own_target (parts_of w.parts.now) number)) (sym at) ∙ sym e ∙ holds))

-- a block's reads by other names, by the indexes of its targets and of their objects
pub read-names : (signals : List Signal) (process : WalkedProcess) (targets own objects names : List Identifier) (other : Bool) → own ≡ targets →
    objects ≡ map (outermost signals) (target_signals process targets)
    → names ≡ names_read (block_body process.body) → other ≡ list_any (reads_other signals process own objects) names → other ≡ reads_by_other_name signals process targets
read-names signals process targets own objects names other a b n o =
    o ∙ ap (list_any (reads_other signals process own objects)) n
    ∙ ap₂ (λ (x : List Identifier) (y : List Identifier). list_any (reads_other signals process x y) (names_read (block_body process.body))) a b
    ∙ by-other-name signals process targets

-- one of some names passes a test

or-true : (a b : Bool) → true ≡ b → true ≡ (a || b)
or-true true b e = refl
or-true false b e = e

pub any-here : (test : Identifier → Bool) (xs : List (Bor (List ℕ))) (i : ℕ) (d : Bor (List ℕ)) (b : Bool) → i < length xs → b ≡ test (get_or xs i d).now → b ≡ true → true ≡ list_any test (keys_of xs)
any-here test [] i d b low e holds = absurd (omega arith)
any-here test (x ∷ xs) zero d b low e holds = sym (ap (λ t. t || list_any test (keys_of xs)) (sym e ∙ holds))
any-here test (x ∷ xs) (suc i) d b low e holds = or-true (test x.now) (list_any test (keys_of xs)) (any-here test xs i d b (omega arith) e holds)
