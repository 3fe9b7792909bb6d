-- The outputs of nodes, one object more at a time.
use Rattle.std.proofs.Common.{◌≡◌, ℕ, zero, suc, ◌+◌, ◌<◌, ◌≤◌, Bool, false, List, [], ◌∷◌, ◌++◌, length, get_or, set, take, map, replicate, Some, None, option_map, refl, sym, ap, ap₂, ◌∙◌}
use Rattle.std.proofs.Common.{append-nil, arith, ◌⊎◌, inl, inr}
use Rattle.std.specs.Prelude.{Vec, nat_eq}
use Rattle.std.specs.declared.alloc.Global.{Global}
use Rattle.std.proofs.lemmas.Bool.{eq-eqb, ne_eqb}
use Rattle.std.proofs.lemmas.List.{map_push, map-set, get_or-map, length-map, length-take-le}
use Rattle.v_design.specs.Expressions.{up_from}
use Rattle.vf_base.specs.Lists.{map_numbered}
use Rattle.v_elab.specs.Objects as plain
use Rattle.v_elab.specs.Flat.{NodeOutput, output_if, output_of_object, outputs_of}
use Rattle.elab_wires.specs.Held.{outputs-more}
use Rattle.elab_wires.specs.Turns.{taken-more}
use Rattle.elab_objects.specs.ObjectViews.{driver_of, held_of, held_objects}
use Rattle.elab_objects.specs.declared.object.HeldObject.{HeldObject}
use Rattle.object_names.specs.OutputViews.{output_of, outputs_seen, output_lists, with_output}
use Rattle.object_names.specs.declared.outputs.NodeOutput as code

-- An output in the list of its node

other-list : (outputs : List NodeOutput) (output : NodeOutput) (test : Bool) → test ≡ false → outputs ++ output_if test output ≡ outputs
other-list outputs output test e = ap (λ t. outputs ++ output_if t output) e ∙ append-nil outputs

-- lists of other nodes stay as they are
pub put-past : (lists : List (List NodeOutput)) (n object : ℕ) (driver : plain.PieceDriver) → (driver.node < n) ⊎ (n + length lists ≤ driver.node) →
    map_numbered (λ number (outputs : List NodeOutput). outputs ++ output_of_object number object (Some driver)) n lists ≡ lists
put-past [] n object driver past = refl
put-past (outputs ∷ lists) n object driver past =
    ap₂ (λ l ls. l ∷ ls) (other-list outputs (record { object = object; place = driver.place }) (nat_eq driver.node n) (ne_eqb driver.node n (λ e. apart e past)))
    (put-past lists (n + 1) object driver (on past))
  where
    apart : driver.node ≡ n → (driver.node < n) ⊎ (n + length (outputs ∷ lists) ≤ driver.node) → ⊥
    apart e (inl before) = omega arith
    apart e (inr behind) = omega arith

    on : (driver.node < n) ⊎ (n + length (outputs ∷ lists) ≤ driver.node) → (driver.node < n + 1) ⊎ (n + 1 + length lists ≤ driver.node)
    on (inl before) = inl (omega arith)
    on (inr behind) = inr (omega arith)

put-at : (lists : List (List NodeOutput)) (n j object : ℕ) (driver : plain.PieceDriver) → driver.node ≡ n + j → j < length lists →
    map_numbered (λ number (outputs : List NodeOutput). outputs ++ output_of_object number object (Some driver)) n lists ≡ set lists j
    (get_or lists j [] ++ record { object = object; place = driver.place } ∷ [])
put-at [] n j object driver is low = absurd (omega arith)
put-at (outputs ∷ lists) n zero object driver is low =
    ap₂ (λ test ls. (outputs ++ output_if test (record { object = object; place = driver.place })) ∷ ls) (eq-eqb driver.node n (omega arith)) (put-past lists (n + 1) object driver (inl (omega arith)))
put-at (outputs ∷ lists) n (suc j) object driver is low =
    ap₂ (λ l ls. l ∷ ls) (other-list outputs (record { object = object; place = driver.place }) (nat_eq driver.node n) (ne_eqb driver.node n (λ e. omega arith)))
    (put-at lists (n + 1) j object driver (omega arith) (omega arith))

pub output-put : (lists : List (Vec code.NodeOutput Global)) (old new : Vec code.NodeOutput Global) (output : code.NodeOutput) (object : ℕ) (driver : plain.PieceDriver) →
    driver.node < length lists → old ≡ get_or lists driver.node old
    → new.items ≡ old.items ++ output ∷ [] → output_of output ≡ record { object = object; place = driver.place } →
    output_lists (set lists driver.node new) ≡ with_output object (Some driver) (output_lists lists)
output-put lists old new output object driver low is pushed same =
    let node = driver.node in
    let long : length (output_lists lists) ≡ length lists = length-map lists outputs_seen in
    map-set outputs_seen lists node new
    ∙ ap (set (output_lists lists) node)
    (ap (map output_of) pushed ∙ (map_push output_of old.items output ∙ ap₂ (λ (l : List NodeOutput) (o : NodeOutput). l ++ o ∷ [])
    (ap outputs_seen is ∙ sym (get_or-map outputs_seen lists node old [] low)) same))
    ∙ sym (put-at (output_lists lists) 0 node object driver (omega arith) (omega (arith, long, low)))

-- no driver, no output
pub put-nothing : (lists : List (List NodeOutput)) (n object : ℕ) → lists ≡ map_numbered (λ number (outputs : List NodeOutput). outputs ++ output_of_object number object None) n lists
put-nothing [] n object = refl
put-nothing (outputs ∷ lists) n object = ap₂ (λ l ls. l ∷ ls) (sym (append-nil outputs)) (put-nothing lists (n + 1) object)

-- One object more

-- without objects no node writes any
pub nothing-written : (n count : ℕ) → replicate count [] ≡ map (outputs_of []) (up_from n count)
nothing-written n zero = refl
nothing-written n (suc count) = ap (λ ls. [] ∷ ls) (nothing-written (n + 1) count)

numbered-over : (f g h : ℕ → List NodeOutput) (n count : ℕ) → ((k : ℕ) → h k ≡ f k ++ g k) →
    map_numbered (λ number (outputs : List NodeOutput). outputs ++ g number) n (map f (up_from n count)) ≡ map h (up_from n count)
numbered-over f g h n zero each = refl
numbered-over f g h n (suc count) each = ap₂ (λ l ls. l ∷ ls) (sym (each n)) (numbered-over f g h (n + 1) count each)

pub objects-turn : (xs : List HeldObject) (i : ℕ) (x : HeldObject) (count : ℕ) (old more : List (List NodeOutput)) → i < length xs → x ≡ get_or xs i x →
    old ≡ map (outputs_of (held_objects (take i xs))) (up_from 0 count)
    → more ≡ with_output i (option_map driver_of x.driver) old → more ≡ map (outputs_of (held_objects (take (i + 1) xs))) (up_from 0 count)
objects-turn xs i x count old more low is had put =
    let long : length (held_objects (take i xs)) ≡ i = length-map (take i xs) held_of ∙ length-take-le i xs (omega arith) in
    put ∙ ap (with_output i (option_map driver_of x.driver)) had
    ∙ numbered-over (outputs_of (held_objects (take i xs))) (λ number. output_of_object number i (option_map driver_of x.driver)) (outputs_of (held_objects (take (i + 1) xs))) 0 count
    (λ number.
    ap (λ os. outputs_of os number) (taken-more held_of xs i x low is)
    ∙ (outputs-more (held_objects (take i xs)) (held_of x) number ∙ ap (λ at. outputs_of (held_objects (take i xs)) number ++ output_of_object number at (option_map driver_of x.driver)) long))
