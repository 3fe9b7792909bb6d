-- The tree that is answered for an expression is sized.
use Rattle.std.proofs.Common.{◌≡◌, ℕ, max, ◌≤◌, Bool, true, ◌&&◌, Option, Some, Result, Ok, sym, ap, subst, arith}
use Rattle.v_design.specs.Sized.{most_bits, IsSized}
use Rattle.v_tree.specs.Trees.{SourceExpression}
use Rattle.v_names.specs.Scopes.{Scope}
use Rattle.v_names.specs.SizedTrees.{Holders, over_objects}
use Rattle.v_names.specs.Readings.{Size, size_or_bit, reading_of}
use Rattle.v_names.specs.Faults.{unless_faulty}
use Rattle.v_names.specs.CleanLaws.{none-alone, reading-clean}
use Rattle.v_names.specs.SizedLaws.{AreHeld, and-left, reading-sound}
use Rattle.v_width.specs.Sizes.{tree_in_context, sized_expression}

-- where an expression and all its parts have sizes, its tree in a context is sized over the objects that hold its names
pub in_context-sized : (holders : Holders) (scope : Scope) (e : SourceExpression) (width : ℕ) (signed : Bool) → AreHeld holders scope e → (reading_of scope e).complete ≡ true → width ≤ most_bits
    → IsSized (over_objects holders (tree_in_context (reading_of scope e) width signed))
in_context-sized holders scope e width signed held complete below =
    let reading = reading_of scope e in
    let h = reading-sound holders scope e held complete in
    let m = h.most in
    let P : Option Size → Type 0 = λ z. IsSized (over_objects holders (reading.tree (max width (size_or_bit z).width) ((size_or_bit z).signed && signed))) in
    subst P (sym h.size_is) (h.gives (max width h.size.width) (h.size.signed && signed) (omega arith) (omega (arith, m)) (λ s. and-left h.size.signed signed s)).sized

-- and it is the answer
pub in_context-answered : (scope : Scope) (e : SourceExpression) (width : ℕ) (signed : Bool) → (reading_of scope e).complete ≡ true
    → sized_expression scope e width signed ≡ Ok (tree_in_context (reading_of scope e) width signed)
in_context-answered scope e width signed complete =
    let reading = reading_of scope e in
    ap (λ faults. unless_faulty faults (tree_in_context reading width signed)) (none-alone reading (reading-clean scope e complete))
