-- What a seat knows, word by word.
use Rattle.std.proofs.Common.{◌≡◌, ℕ, List, [], ◌∷◌, ◌++◌, ◌+◌, ◌<◌, length, take, get_or, refl, sym, ap, subst, ◌∙◌, ⊎_elim, inl, inr}
use Rattle.std.specs.Prelude.{◌⊎◌}
use Rattle.std.specs.List.{Contains}
use Rattle.std.proofs.lemmas.List.{map-append, take_more}
use Rattle.std.proofs.lemmas.List.Elements.{Contains-append_left, Contains-push, Contains-push_cases}
use Rattle.vf_base.specs.Base.{fault_number}
use Rattle.vf_base.specs.declared.finding.Finding.{Finding}
use Rattle.fault_shards.specs.Found.{found_faults}
use Rattle.verdict_words.specs.Views.{mark}
use Rattle.verdict_words.specs.Settled.{Told}
use Rattle.verdict_words.specs.declared.view.View.{View}
use Rattle.verdict_words.specs.declared.view.Mark.{Mark}
use Rattle.verdict_words.specs.declared.board.steps.Settled.{Settled}
use Rattle.verdict_words.specs.declared.board.steps.Settled.TheVariants.{Moved, Was}
use Rattle.verdict_settle.specs.Settling.{IsSeen, KeepsClaims, IsSettled, AreSettled}
use Rattle.verdict_settle.specs.HarvestLaws.{nothing-in}

-- Claims

settled-keeps : (fault : ℕ) (v w : View) → IsSettled fault v w → KeepsClaims v w
settled-keeps fault v w s = go s.1 s.2
  where
    go : (answer : Settled) → Told fault s.0 v answer w → KeepsClaims v w
    go Moved told = record { claimed = ap (λ (u : View). u.claimed) told; share = ap (λ (u : View). u.share) told; calls = ap (λ (u : View). u.calls) told; dry = ap (λ (u : View). u.dry) told }
    go (Was code) told = record {
      claimed = ap (λ (u : View). u.claimed) told.1;
      share = ap (λ (u : View). u.share) told.1;
      calls = ap (λ (u : View). u.calls) told.1;
      dry = ap (λ (u : View). u.dry) told.1;
    }

pub keeps-same : (v : View) → KeepsClaims v v
keeps-same v = record { claimed = refl; share = refl; calls = refl; dry = refl }

-- one word more
pub keeps-more : (fault : ℕ) (u v w : View) → KeepsClaims u v → IsSettled fault v w → KeepsClaims u w
keeps-more fault u v w one s =
    let other = settled-keeps fault v w s in
    record { claimed = other.claimed ∙ one.claimed; share = other.share ∙ one.share; calls = other.calls ∙ one.calls; dry = other.dry ∙ one.dry }

-- Words

-- the word is seen from then on
settled-seen : (fault : ℕ) (v w : View) → IsSettled fault v w → (code : ℕ) × (w.seen ≡ v.seen ++ mark fault code ∷ [])
settled-seen fault v w s = (s.0, go s.1 s.2)
  where
    go : (answer : Settled) → Told fault s.0 v answer w → w.seen ≡ v.seen ++ mark fault s.0 ∷ []
    go Moved told = ap (λ (u : View). u.seen) told
    go (Was code) told = ap (λ (u : View). u.seen) told.1

-- no other word is moved
settled-moved : (fault : ℕ) (v w : View) → IsSettled fault v w → (m : Mark) → Contains w.moved m → Contains v.moved m ⊎ (fault_number m.fault ≡ fault)
settled-moved fault v w s m c = go s.1 s.2
  where
    go : (answer : Settled) → Told fault s.0 v answer w → Contains v.moved m ⊎ (fault_number m.fault ≡ fault)
    go Moved told =
        ⊎_elim (λ before. inl before) (λ same. inr (sym (ap (λ (n : Mark). fault_number n.fault) same)))
        (Contains-push_cases v.moved (mark fault s.0) m (subst (λ l. Contains l m) (ap (λ (u : View). u.moved) told) c))
    go (Was code) told = inl (subst (λ l. Contains l m) (ap (λ (u : View). u.moved) told.1) c)

pub settles-none : (v : View) → AreSettled [] v v
settles-none v = record { seen = λ fault h. nothing-in fault h; still = λ m c. c; moved = λ m c. inl c }

-- one word more
pub settles-more : (faults : List ℕ) (fault : ℕ) (u v w : View) → AreSettled faults u v → IsSettled fault v w → AreSettled (faults ++ fault ∷ []) u w
settles-more faults fault u v w a s = record {
  seen = λ number here. ⊎_elim (λ earlier. let c = a.seen number earlier in (c.0, later (mark number c.0) c.1)) (λ same. subst (IsSeen w.seen) same this-seen)
      (Contains-push_cases faults fault number here);
  still = λ m c. later m (a.still m c);
  moved = λ m c. ⊎_elim (λ before. ⊎_elim (λ first. inl first) (λ of. inr (Contains-append_left faults (fault ∷ []) (fault_number m.fault) of)) (a.moved m before))
      (λ same. inr (subst (Contains (faults ++ fault ∷ [])) (sym same) (Contains-push faults fault))) (settled-moved fault v w s m c);
}
  where
    now : (code : ℕ) × (w.seen ≡ v.seen ++ mark fault code ∷ [])
    now = settled-seen fault v w s

    later : (m : Mark) → Contains v.seen m → Contains w.seen m
    later m c = subst (λ l. Contains l m) (sym now.1) (Contains-append_left v.seen (mark fault now.0 ∷ []) m c)

    this-seen : IsSeen w.seen fault
    this-seen = (now.0, subst (λ l. Contains l (mark fault now.0)) (sym now.1) (Contains-push v.seen (mark fault now.0)))

-- one finding more
pub found-more : (findings : List Finding) (i : ℕ) (d : Finding) → i < length findings →
    found_faults (take i findings) ++ fault_number (get_or findings i d).fault ∷ [] ≡ found_faults (take (i + 1) findings)
found-more findings i d low =
    sym (map-append (λ (f : Finding). fault_number f.fault) (take i findings) (get_or findings i d ∷ [])) ∙ ap found_faults (sym (take_more findings i d low))
