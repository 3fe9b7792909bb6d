-- Fault by fault.
use Rattle.std.proofs.Common.{◌≡◌, ℕ, ◌+◌, ◌<◌, ◌≤◌, List, length, map, get_or, ap, sym, subst, refl, arith}
use Rattle.std.proofs.lemmas.List.{length-map}
use Rattle.std.proofs.lemmas.Option.{slice_get_read}
use Rattle.vf_base.specs.Base.{fault_number}
use Rattle.vf_base.specs.declared.ids.FaultId.{FaultId}
use Rattle.fault_shards.proofs.Cutting.{number-at, first-below}
use Rattle.fault_shards.proofs.Listing.{ListedSoFar, listed-more, listed-grades}
use Rattle.fault_shards.proofs.shards.Shards.in_list_order.Goals as goal

pub index-requires : goal.index-requires
index-requires c =
    let standing = c.as_slice-standing.result.now in
    let P : List FaultId → Type 0 = λ (l : List FaultId). (k : ℕ) → k < length l → get_or (map fault_number l) k 0 < length l in
    let within : P c.as_slice-standing.result.now = subst P (sym c.as_slice-standing.ensures.value) c.args.self.now.within in
    let first : fault_number (get_or c.as_slice-standing.result.now c.faults.number (record { 0 = 0 })) < length c.as_slice-standing.result.now =
    first-below c.as_slice-standing.result.now c.faults.number (record { 0 = 0 }) c.faults-test.true within in
    let ends : c.in_ok-ends.ends.len ≡ length c.in_ok-ends.ends.items = c.in_ok-ends.ends.ok.0 in
    let counted : length c.in_ok-ends.ends.items ≡ length (map fault_number c.args.self.now.standing.items) = c.in_ok-ends.ensures.counted in
    let size : length (map fault_number c.args.self.now.standing.items) ≡ length c.args.self.now.standing.items = length-map c.args.self.now.standing.items fault_number in
    let seen : length c.as_slice-standing.result.now ≡ length c.args.self.now.standing.items = ap length c.as_slice-standing.ensures.value in
    omega (arith, first, ends, counted, size, seen)

pub faults-preserved : goal.faults-preserved
faults-preserved c =
    let P : List FaultId → Type 0 = λ (l : List FaultId). (k : ℕ) → k < length l → get_or (map fault_number l) k 0 < length l in
    let within : P c.as_slice-standing.result.now = subst P (sym c.as_slice-standing.ensures.value) c.args.self.now.within in
    let first : fault_number (get_or c.as_slice-standing.result.now c.faults.number (record { 0 = 0 })) < length c.as_slice-standing.result.now =
    first-below c.as_slice-standing.result.now c.faults.number (record { 0 = 0 }) c.faults-test.true within in
    let counted : length c.in_ok-ends.ends.items ≡ length (map fault_number c.args.self.now.standing.items) = c.in_ok-ends.ensures.counted in
    let size : length (map fault_number c.args.self.now.standing.items) ≡ length c.args.self.now.standing.items = length-map c.args.self.now.standing.items fault_number in
    let seen : length c.as_slice-standing.result.now ≡ length c.args.self.now.standing.items = ap length c.as_slice-standing.ensures.value in
    let low : fault_number (get_or c.as_slice-standing.result.now c.faults.number (record { 0 = 0 })) < length c.in_ok-ends.ends.items = omega (arith, first, counted, size, seen) in
    subst (ListedSoFar (map fault_number c.as_slice-standing.result.now) c.in_ok-ends.ends.items (c.faults.number + 1)) (sym c.in_ok-push.ensures.items)
    (listed-more (map fault_number c.as_slice-standing.result.now) c.in_ok-ends.ends.items c.faults.number c.faults.findings.items _
    (fault_number (get_or c.as_slice-standing.result.now c.faults.number (record { 0 = 0 }))) c.faults.invariant refl
    (number-at c.as_slice-standing.result.now c.faults.number (record { 0 = 0 }) c.faults-test.true)
    (slice_get_read c.in_ok-ends.ends.items (length c.in_ok-ends.ends.items) (fault_number (get_or c.as_slice-standing.result.now c.faults.number (record { 0 = 0 }))) c.index.result.now refl low
    c.index.ensures))

pub returns-clause-grades : goal.returns-clause-grades
returns-clause-grades c design plan rules cut found =
    let P : List FaultId → Type 0 = λ (l : List FaultId). ListedSoFar (map fault_number l) c.in_ok-ends.ends.items c.faults.number c.faults.findings.items in
    let so : P c.args.self.now.standing.items = subst P c.as_slice-standing.ensures.value c.faults.invariant in
    let size : length (map fault_number c.args.self.now.standing.items) ≡ length c.args.self.now.standing.items = length-map c.args.self.now.standing.items fault_number in
    let seen : length c.as_slice-standing.result.now ≡ length c.args.self.now.standing.items = ap length c.as_slice-standing.ensures.value in
    let past : length c.as_slice-standing.result.now ≤ c.faults.number = c.faults-test.false in
    let end : c.faults.number ≤ length c.as_slice-standing.result.now = c.faults.auto.number-end in
    listed-grades design plan (map fault_number c.args.self.now.standing.items) c.args.found.now c.in_ok-ends.ends.items
    (length (map fault_number c.args.self.now.standing.items)) c.faults.number c.faults.findings.items c.one_class.ensures rules
    cut.counted cut.classes found c.in_ok-ends.ensures (omega (arith, size, seen, past, end)) so
