-- A flag more is set where the index has waiters.
use Rattle.std.proofs.Common.{arith, ◌≡◌, ◌<◌, ◌≢◌, ℕ, List, [], ◌∷◌, Bool, false, not, length, map, refl, ap, ◌∙◌, below_more}
use Rattle.std.specs.Prelude.{nat_eq}
use Rattle.std.proofs.lemmas.List.{get_or-set_same, get_or-set_other, length-set, length-map}
use Rattle.std.proofs.lemmas.Bool.{ne_eqb}
use Rattle.vf_base.specs.declared.ids.ProcId.{ProcId}
use Rattle.vf_base.specs.Base.{process_number}
use Rattle.v_design.specs.Designs.{FlatDesign}
use Rattle.v_design.specs.States.{is_any}
use Rattle.v_design.specs.Plain.{object_of}
use Rattle.v_design.specs.PlainDesigns.{design_of}
use Rattle.wait_index.specs.Waits.{waiters_of}
use Rattle.lockstep_waits.specs.Awaited.{is_awaited}
use Rattle.lockstep_waits.proofs.Waiters.{any-waiter}
use Rattle.lockstep_waits.proofs.awaited.AwaitedObjects.new.Goals as goal

flag-is : (xs : List ProcId) → not (nat_eq (length xs) 0) ≡ is_any (map process_number xs)
flag-is [] = refl
flag-is (x ∷ xs) = ap not (ne_eqb (length (x ∷ xs)) 0 (λ e. absurd (omega (arith, e))))

pub objects-preserved : goal.objects-preserved
objects-preserved c =
    let design : FlatDesign = design_of c.args.design.now in
    let at : ℕ = c.objects.object in
    let flags : List Bool = c.objects.flags.items in
    let inside : at < length flags = omega (arith, ap length c.as_slice-count.ensures, c.objects.invariant.count) in
    let counted : at < length c.in_ok-index.index =
    omega (arith, ap length c.as_slice-count.ensures, length-map c.args.design.now.objects object_of, c.in_ok-index.ensures.objects) in
    let waiters : map process_number c.of.result.now ≡ waiters_of design at = c.of.ensures ∙ c.in_ok-index.ensures.listed at counted in
    let flag : not c.is_empty.result ≡ is_awaited design at = ap not c.is_empty.ensures ∙ flag-is c.of.result.now ∙ ap is_any waiters ∙ any-waiter design at in
    record {
      count = length-set flags at (not c.is_empty.result) ∙ c.objects.invariant.count;
      flagged =
          below_more _ _ (λ k h. let other : k ≢ at = omega arith in get_or-set_other flags at k (not c.is_empty.result) false other ∙ c.objects.invariant.flagged k h)
          (get_or-set_same flags at (not c.is_empty.result) false inside ∙ flag);
    }
