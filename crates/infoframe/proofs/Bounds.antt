-- What may be written, field by field.
use Rattle.std.proofs.Common.{◌≡◌, ℕ, suc, zero, ◌≤◌, true, ◌==◌, List, [], ◌∷◌, length, drop, replicate, refl, ap, arith, eqb-true}
use Rattle.std.specs.List.{list_all}
use Rattle.std.proofs.lemmas.Bool.{leb-true, ltb-true}
use Rattle.tmds_word.proofs.Below.{and-left, and-right}
use Rattle.infoframe.specs.Bytes.{AviBounds, AudioBounds}
use Rattle.infoframe.specs.Fields.{avi_table, avi_fits, audio_table, audio_fits}
use Rattle.infoframe.specs.Frames.{kind_of}
use Rattle.infoframe.specs.Written.{is_raw, fits}
use Rattle.infoframe.specs.declared.content.Avi.{Avi}
use Rattle.infoframe.specs.declared.content.AudioInfo.{AudioInfo}
use Rattle.infoframe.specs.declared.content.InfoKind.{InfoKind}
use Rattle.infoframe.specs.declared.content.InfoKind.TheVariants.{Raw as RawKind}
use Rattle.infoframe.specs.declared.content.Info.TheVariants.{Raw}

pub avi_bounds : (x : Avi) → avi_fits x ≡ true → AviBounds x
unfolding avi_fits avi_table
avi_bounds x h0 = grind (arith, and-right, ltb-true, and-left)

pub audio_bounds : (x : AudioInfo) → audio_fits x ≡ true → AudioBounds x
unfolding audio_fits audio_table
audio_bounds x h0 = grind (arith, and-right, ltb-true, and-left)

-- raw bytes that may be written
pub record RawBounds (kind version long : ℕ) (bytes : List ℕ) : Type 0 where
  pub type_code : 0x80 ≤ kind
  pub unknown : kind_of kind version ≡ RawKind
  pub few : long ≤ 27
  pub zeros : list_all (λ b. b == 0) (drop long bytes) ≡ true

raw_kind : (k : InfoKind) → is_raw k ≡ true → k ≡ RawKind
raw_kind k h = grind arith

pub raw_bounds : (kind version long : ℕ) (bytes : List ℕ) → fits (Raw kind version long bytes) ≡ true → RawBounds kind version long bytes
unfolding fits
raw_bounds kind version long bytes h = grind (arith, and-right, leb-true, and-left, raw_kind)

-- a list of zeros
pub zeros_of : (xs : List ℕ) → list_all (λ b. b == 0) xs ≡ true → xs ≡ replicate (length xs) 0
zeros_of [] h = refl
zeros_of (zero ∷ xs) h = ap (λ ys. 0 ∷ ys) (zeros_of xs h)
zeros_of (suc x ∷ xs) h = let e : suc x ≡ 0 = eqb-true (suc x) 0 (and-left _ _ h) in absurd (omega arith)
