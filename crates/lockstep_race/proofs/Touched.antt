-- A touch that is no write is a read.
use Rattle.std.proofs.Common.{◌≡◌, ℕ, List, [], ◌∷◌, Bool, true, false, ◌&&◌, ◌||◌, nat_eq, refl, sym, ap, ◌∙◌, inl, inr}
use Rattle.std.proofs.lemmas.Bool.{eqb-true}
use Rattle.v_design.specs.Accesses.{AccessAct, Reading, Writing, Awaiting, Ending, Holding, Settling, ObjectAccess, accesses_of}
use Rattle.copy_laws.specs.Filter.{IsIn}
use Rattle.trace_window.specs.Touched.{is_touching, touches, is_writing, writes}
use Rattle.lockstep_race.specs.Reads.{ReadsObject, TouchesTellReads}

later : (access : ObjectAccess) (accesses : List ObjectAccess) (object : ℕ) → ReadsObject accesses object → ReadsObject (access ∷ accesses) object
later access accesses object found = record { access = found.access; is_in = inr found.is_in; object_is = found.object_is; reads = found.reads }

here : (access : ObjectAccess) (accesses : List ObjectAccess) (object : ℕ) (b : Bool) → nat_eq access.object object ≡ b → access.act ≡ Reading →
    (b || touches object accesses) ≡ true → (touches object accesses ≡ true → ReadsObject accesses object) → ReadsObject (access ∷ accesses) object
here access accesses object true same reads touched rest = record { access = access; is_in = inl refl; object_is = eqb-true access.object object same; reads = reads }
here access accesses object false same reads touched rest = later access accesses object (rest touched)

either : (b c : Bool) → (b || c) ≡ true → (b || false) ≡ false → c ≡ true
either true c touched none = cc
either false c touched none = touched

neither : (b c : Bool) → (b || c) ≡ false → ((b || false) ≡ false) × (c ≡ false)
neither true c e = cc
neither false c e = (refl, e)

find-read : (object : ℕ) (accesses : List ObjectAccess) → touches object accesses ≡ true → writes object accesses ≡ false → ReadsObject accesses object
find-read object [] touched none = cc
find-read object (access ∷ accesses) touched none = go access.act refl touched none (λ more rest. find-read object accesses more rest)
  where
    go : (act : AccessAct) → access.act ≡ act → ((is_touching act && nat_eq access.object object) || touches object accesses) ≡ true →
        ((is_writing act && nat_eq access.object object) || writes object accesses) ≡ false →
        (touches object accesses ≡ true → writes object accesses ≡ false → ReadsObject accesses object) → ReadsObject (access ∷ accesses) object
    go Reading is touched none find = here access accesses object (nat_eq access.object object) refl is touched (λ more. find more none)
    go (Writing old new) is touched none find =
        let parts = neither (nat_eq access.object object) (writes object accesses) none in
        later access accesses object (find (either (nat_eq access.object object) (touches object accesses) touched parts.0) parts.1)
    go (Awaiting entry) is touched none find = later access accesses object (find touched none)
    go (Ending entry) is touched none find = later access accesses object (find touched none)
    go (Holding entry) is touched none find = later access accesses object (find touched none)
    go Settling is touched none find = later access accesses object (find touched none)

pub touches_tell_reads : TouchesTellReads
touches_tell_reads machine object seen touched none = find-read object (accesses_of machine 0 0 seen.before seen.event) touched none
