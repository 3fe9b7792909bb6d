-- Sample by sample.
use Rattle.std.proofs.Common.{◌≡◌, ℕ, ◌+◌, ◌<◌, ◌≤◌, List, [], ◌∷◌, ◌++◌, length, take, get_or, sym, ap, subst, ◌∙◌, arith}
use Rattle.std.specs.Prelude.{Some, slice_get}
use Rattle.std.proofs.lemmas.List.{take_more}
use Rattle.std.proofs.lemmas.Option.{same_Some, slice_get_read, slice_get_within}
use Rattle.vf_base.specs.Lists.{AllHold}
use Rattle.kept_samples.specs.declared.kept.Sample.{Sample}
use Rattle.window_strobes.proofs.rests.count_by.Goals as goal

all-more : (P : Sample → Type 0) (xs : List Sample) (x : Sample) → AllHold P xs → P x → AllHold P (xs ++ x ∷ [])
all-more P [] x all here = (here, tt)
all-more P (y ∷ xs) x all here = (all.0, all-more P xs x all.1 here)

by-more : (time : ℕ) (samples : List Sample) (place : ℕ) (sample : Sample) → place < length samples → sample ≡ get_or samples place sample →
    AllHold (λ (s : Sample). s.time ≤ time) (take place samples) → sample.time ≤ time → AllHold (λ (s : Sample). s.time ≤ time) (take (place + 1) samples)
by-more time samples place sample low read all here =
    subst (AllHold (λ (s : Sample). s.time ≤ time)) (sym (take_more samples place sample low ∙ ap (λ (s : Sample). take place samples ++ s ∷ []) (sym read)))
    (all-more (λ (s : Sample). s.time ≤ time) (take place samples) sample all here)

next-is : (samples : List Sample) (place : ℕ) (sample other : Sample) → place < length samples → sample ≡ get_or samples place sample → slice_get samples place ≡ Some other → sample ≡ other
next-is samples place sample other low read is = same_Some sample other (sym (slice_get_read samples (length samples) place sample refl low read) ∙ is)
  where
    refl : {A : Type 0} {x : A} → x ≡ x
    refl {A} {x} = λ i. x

pub returns-then-time-sample-clause-next : goal.returns-then-time-sample-clause-next
returns-then-time-sample-clause-next c = λ other is.
    let same = next-is c.args.samples.now c.samples.place c.index-samples-place.result other c.samples-test.true c.index-samples-place.is is in
    subst (λ (s : Sample). c.args.time < s.time) same c.if-time-sample.true

pub samples-preserved : goal.samples-preserved
samples-preserved c =
    by-more c.args.time c.args.samples.now c.samples.place c.index-samples-place.result c.samples-test.true c.index-samples-place.is c.samples.invariant c.if-time-sample.false

pub returns-clause-by : goal.returns-clause-by
returns-clause-by c =
    let all : c.samples.place ≡ length c.args.samples.now = omega (arith, c.samples-test.false, c.samples.auto.place-end) in
    subst (λ n. AllHold (λ (sample : Sample). sample.time ≤ c.args.time) (take n c.args.samples.now)) all c.samples.invariant

pub returns-clause-next : goal.returns-clause-next
returns-clause-next c = λ other is. (let low = slice_get_within c.args.samples.now (length c.args.samples.now) other is in absurd (omega (arith, low)))
