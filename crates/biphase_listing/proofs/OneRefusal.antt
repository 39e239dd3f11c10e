-- Bytes are refused as frames for one fault at most, after one list of samples.
use Rattle.std.proofs.Common.{◌≡◌, ℕ, List, refl, ap, sym, ◌∙◌, subst, arith, inl, inr}
use Rattle.std.proofs.lemmas.Bool.{cases_lt}
use Rattle.audio_packets.specs.declared.sample.Sample.{Sample}
use Rattle.biphase_listing.specs.Groups.{AreFrames}
use Rattle.biphase_listing.specs.Refusals.{IsBad, IsFault, IsRefused}
use Rattle.biphase_listing.specs.declared.fault.BiphaseFault.{BiphaseFault}
use Rattle.biphase_listing.specs.declared.fault.BiphaseFault.TheVariants.{Subframe, Long, Short}
use Rattle.biphase_listing.proofs.Streams.{same_samples}

one_bad : (bytes : List ℕ) (n m : ℕ) → IsBad bytes n → IsBad bytes m → n ≡ m
one_bad bytes n m a b = elim (cases_lt n m) [
  | inl less ↦ absurd (a.bad (b.first n less))
  | inr le ↦ elim (cases_lt m n) [
    | inl less ↦ absurd (b.bad (a.first m less))
    | inr other ↦ omega (arith, le, other)
  ]
]

one_fault : (bytes : List ℕ) (f g : BiphaseFault) → IsFault bytes f → IsFault bytes g → f ≡ g
one_fault bytes (Subframe n) (Subframe m) a b = ap Subframe (one_bad bytes n m a b)
one_fault bytes (Subframe n) Long a b = absurd (a.bad (b.good n a.few))
one_fault bytes (Subframe n) (Short p) a b = absurd (a.bad (b.good n (omega (arith, a.whole, b.length_is))))
one_fault bytes Long (Subframe n) a b = absurd (b.bad (a.good n b.few))
one_fault bytes Long Long a b = refl
one_fault bytes Long (Short p) a b = absurd (omega (arith, a.more, b.few))
one_fault bytes (Short p) (Subframe n) a b = absurd (b.bad (a.good n (omega (arith, b.whole, a.length_is))))
one_fault bytes (Short p) Long a b = absurd (omega (arith, a.few, b.more))
one_fault bytes (Short p) (Short q) a b = ap Short (a.length_is ∙ sym b.length_is)

one_list : (bytes : List ℕ) (us vs : List Sample) → AreFrames us bytes → AreFrames vs bytes → us ≡ vs
one_list bytes us vs a b = same_samples us vs a.carried b.carried (sym a.bytes_are ∙ b.bytes_are)

pub one_refusal : (bytes : List ℕ) (f g : BiphaseFault) (us vs : List Sample) → IsRefused bytes f us → IsRefused bytes g vs → (f ≡ g) × (us ≡ vs)
one_refusal bytes f g us vs a b =
    let fault = one_fault bytes f g a.faulty b.faulty in
    let again = subst (λ (x : BiphaseFault). IsRefused bytes x vs) (sym fault) b in
    (fault, one_list _ us vs a.frames again.frames)
