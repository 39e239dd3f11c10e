-- What is answered after the frames that were listed: more, the end, or why there is none.
use Rattle.std.proofs.Common.{◌≡◌, ◌∙◌, inl, inr, ℕ, ◌+◌, ◌*◌, ◌<◌, ◌≤◌, List, [], ◌++◌, length, take, All, Option, Some, ap, sym, subst, append_assoc, length-append, take_at, arith}
use Rattle.std.specs.Prelude.{flat_map}
use Rattle.std.specs.Io.KnownBytes.{Appends, Consumes}
use Rattle.std.proofs.KnownBytes.{Appends-trans, Consumes-trans}
use Rattle.std.proofs.Math.Seq.{take-append-add}
use Rattle.std.proofs.lemmas.Bool.{cases_lt}
use Rattle.std.proofs.lemmas.List.Elements.{All-append}
use Rattle.std.proofs.lemmas.Grind.{flat_map-append}
use Rattle.audio_packets.specs.declared.sample.Sample.{Sample}
use Rattle.audio_out.specs.Blocks.{IsBlocksAfter}
use Rattle.audio_out.specs.Frames.{frame_bytes}
use Rattle.biphase_listing.specs.Groups.{IsCarried, IsSideAt, most_frames}
use Rattle.biphase_listing.specs.FrameText.{frames_text}
use Rattle.biphase_listing.specs.Refusals.{IsFault, IsRefused, frames_before}
use Rattle.biphase_listing.specs.Reading.{Adds, AreRead, HasListed, IsUnwritten, StopsAt}
use Rattle.biphase_listing.specs.declared.fault.BiphaseFault.{BiphaseFault}
use Rattle.biphase_listing.specs.declared.fault.BiphaseFault.TheVariants.{Subframe, Long, Short}
use Rattle.biphase_listing.specs.declared.frame_lines.FrameLines.{FrameLines}
use Rattle.biphase_listing.specs.declared.frame_lines.Stop.TheVariants.{End, Left, Right}
use Rattle.biphase_listing.proofs.Joining.{length-frames, text_append}
use Rattle.biphase_listing.proofs.Sides.{front_sides, left_side_at, no_left_at, no_right_at}

pub adds_length : (piece : List ℕ) (old new : FrameLines) (samples : List Sample) (rest : List ℕ) → Adds piece old new samples rest → length piece ≡ 16 * length samples + length rest
adds_length piece old new samples rest adds =
    ap length adds.bytes_are ∙ length-append (flat_map frame_bytes samples) rest ∙ ap (λ (n : ℕ). n + length rest) (length-frames samples)

pub adds_few : (piece : List ℕ) (old new : FrameLines) (samples : List Sample) (rest : List ℕ) → Adds piece old new samples rest
    → 16 * old.count + length piece ≤ 16 * most_frames + 1 → new.count ≤ most_frames
adds_few piece old new samples rest adds few = let l = adds_length piece old new samples rest adds in omega (arith, l, adds.count, few)

-- a piece was read after frames that were listed, and its lines are made
pub record Ahead (from left held holds : Option (List ℕ)) (new : FrameLines) (rest : List ℕ) : Type 0 where
  pub first : List Sample
  pub all : List Sample
  pub carried : All IsCarried all
  pub counted : new.count ≡ length all
  pub consumed : Consumes from left (flat_map frame_bytes all ++ rest)
  pub before : Appends held holds (frames_text first)
  pub text : frames_text all ≡ frames_text first ++ new.text
  pub stands : IsBlocksAfter new.blocks all

pub ahead : (from left now held holds : Option (List ℕ)) (old new : FrameLines) (piece : List ℕ) (samples : List Sample) (rest : List ℕ)
    → HasListed from left held holds old.blocks old.count → Consumes left now piece → Adds piece old new samples rest → Ahead from now held holds new rest
ahead from left now held holds old new piece samples rest has read adds = record {
  first = has.samples;
  all = has.samples ++ samples;
  carried = All-append IsCarried has.samples samples has.carried adds.carried;
  counted = let n = length-append has.samples samples in omega (arith, adds.count, has.counted, n);
  consumed = grind (arith, append_assoc, flat_map-append, Consumes-trans);
  before = has.written;
  text = text_append [] has.samples samples ∙ ap (λ (xs : List ℕ). frames_text has.samples ++ xs) (sym (adds.text has.samples has.stands));
  stands = adds.blocks has.samples has.stands;
}

-- its lines are written, or a part of them
pub written : (from left held holds now : Option (List ℕ)) (new : FrameLines) (rest : List ℕ) (a : Ahead from left held holds new rest) → Appends holds now new.text → Appends held now (frames_text a.all)
written from left held holds now new rest a then =
    subst (λ (xs : List ℕ). Appends held now xs) (sym a.text) (Appends-trans held holds now (frames_text a.first) new.text a.before then)

pub read_of : (from left held holds : Option (List ℕ)) (new : FrameLines) (rest : List ℕ) (a : Ahead from left held holds new rest) → new.count ≤ most_frames → AreRead a.all rest from left
read_of from left held holds new rest a few = record { carried = a.carried; few = omega (arith, a.counted, few); consumed = a.consumed }

-- how many bytes that is
pub read_size : (from left held holds : Option (List ℕ)) (new : FrameLines) (rest : List ℕ) (a : Ahead from left held holds new rest)
    → length (flat_map frame_bytes a.all ++ rest) ≡ 16 * new.count + length rest
read_size from left held holds new rest a =
    let n = length-append (flat_map frame_bytes a.all) rest in let m = length-frames a.all in omega (arith, n, m, a.counted)

pub unwritten : (from left held holds now : Option (List ℕ)) (new : FrameLines) (rest : List ℕ) (n : ℕ) → Ahead from left held holds new rest → new.count ≤ most_frames
    → n < length new.text → Appends holds now (take n new.text) → IsUnwritten from left held now
unwritten from left held holds now new rest n a few lt then =
    let l = ap length a.text ∙ length-append (frames_text a.first) new.text in
    record {
      samples = a.all;
      rest = rest;
      read = read_of from left held holds new rest a few;
      part = inl (
        length (frames_text a.first) + n,
        omega (arith, l, lt),
        subst (λ (xs : List ℕ). Appends held now xs) (sym (ap (take (length (frames_text a.first) + n)) a.text ∙ take-append-add (frames_text a.first) new.text n))
            (Appends-trans held holds now (frames_text a.first) (take n new.text) a.before then),
      );
    }

-- bytes that are known
known : (bytes : List ℕ) (left : Option (List ℕ)) (front : List ℕ) → Consumes (Some bytes) left front → (later : List ℕ) × (bytes ≡ front ++ later)
known bytes left front h = grind arith

refused : (bytes : List ℕ) (all : List Sample) (tail : List ℕ) (fault : BiphaseFault) → All IsCarried all → bytes ≡ flat_map frame_bytes all ++ tail → length all ≡ frames_before fault
    → IsFault bytes fault → IsRefused bytes fault all
refused bytes all tail fault carried is count faulty = record {
  faulty = faulty;
  count = count;
  frames = record {
    carried = carried;
    bytes_are = let n : length (flat_map frame_bytes all) ≡ 16 * frames_before fault = omega (arith, length-frames all, count) in
        ap (take (16 * frames_before fault)) is ∙ take_at (flat_map frame_bytes all) tail (16 * frames_before fault) n;
  };
}

pub bytes_split : (from left : Option (List ℕ)) (bytes : List ℕ) (all : List Sample) (rest : List ℕ) → from ≡ Some bytes → Consumes from left (flat_map frame_bytes all ++ rest)
    → (later : List ℕ) × (bytes ≡ flat_map frame_bytes all ++ (rest ++ later))
bytes_split from left bytes all rest is read =
    let k = known bytes left (flat_map frame_bytes all ++ rest) (subst (λ (f : Option (List ℕ)). Consumes f left (flat_map frame_bytes all ++ rest)) is read) in
    (k.0, k.1 ∙ append_assoc (flat_map frame_bytes all) rest k.0)

-- the first group after frames is no left side
pub bad_left : (bytes : List ℕ) (all : List Sample) (rest later : List ℕ) → All IsCarried all → bytes ≡ flat_map frame_bytes all ++ (rest ++ later) → length all < most_frames
    → StopsAt Left rest → IsRefused bytes (Subframe (2 * length all)) all
bad_left bytes all rest later carried is few stops =
    let l = ap length is ∙ length-append (flat_map frame_bytes all) (rest ++ later) in
    let r = length-append rest later in
    refused bytes all (rest ++ later) (Subframe (2 * length all)) carried is (omega arith) (record {
      whole = omega (arith, l, r, length-frames all, stops.0);
      few = omega (arith, few);
      bad = λ side. no_left_at all rest later stops.0 stops.1 (subst (λ (xs : List ℕ). IsSideAt xs (2 * length all)) is side);
      first = λ m lt. subst (λ (xs : List ℕ). IsSideAt xs m) (sym is) (front_sides all (rest ++ later) carried m lt);
    })

pub bad_right : (bytes : List ℕ) (all : List Sample) (rest later : List ℕ) → All IsCarried all → bytes ≡ flat_map frame_bytes all ++ (rest ++ later) → length all < most_frames
    → StopsAt Right rest → IsRefused bytes (Subframe (2 * length all + 1)) all
bad_right bytes all rest later carried is few stops =
    let l = ap length is ∙ length-append (flat_map frame_bytes all) (rest ++ later) in
    let r = length-append rest later in
    refused bytes all (rest ++ later) (Subframe (2 * length all + 1)) carried is (omega arith) (record {
      whole = omega (arith, l, r, length-frames all, stops.0);
      few = omega (arith, few);
      bad = λ side. no_right_at all rest later stops.0 stops.2 (subst (λ (xs : List ℕ). IsSideAt xs (2 * length all + 1)) is side);
      first = λ m lt.
          subst (λ (xs : List ℕ). IsSideAt xs m) (sym is)
          (elim (cases_lt m (2 * length all)) [
            | inl less ↦ front_sides all (rest ++ later) carried m less
            | inr more ↦
                let e : 2 * length all ≡ m = omega (arith, lt, more) in
                subst (λ (k : ℕ). IsSideAt (flat_map frame_bytes all ++ (rest ++ later)) k) e
                (left_side_at all rest later (omega (arith, stops.0)) stops.1)
          ]);
    })

pub too_long : (bytes : List ℕ) (all : List Sample) (rest later : List ℕ) → All IsCarried all → bytes ≡ flat_map frame_bytes all ++ (rest ++ later) → length all ≡ most_frames
    → 1 ≤ length rest → IsRefused bytes Long all
too_long bytes all rest later carried is most some =
    let l = ap length is ∙ length-append (flat_map frame_bytes all) (rest ++ later) in
    let r = length-append rest later in
    refused bytes all (rest ++ later) Long carried is most (record {
      more = omega (arith, l, r, length-frames all, most, some);
      good = λ m lt. subst (λ (xs : List ℕ). IsSideAt xs m) (sym is) (front_sides all (rest ++ later) carried m (omega (arith, lt, most)));
    })

pub too_short : (bytes : List ℕ) (all : List Sample) (rest : List ℕ) (p : ℕ) → All IsCarried all → bytes ≡ flat_map frame_bytes all ++ (rest ++ []) → p ≡ 16 * length all + length rest → p ≤ 16 * most_frames
    → (length rest ≡ 0 → ⊥) → StopsAt End rest → IsRefused bytes (Short p) all
too_short bytes all rest p carried is sized few some stops =
    let l = ap length is ∙ length-append (flat_map frame_bytes all) (rest ++ []) in
    let r = length-append rest [] in
    let n : p ≡ length bytes = omega (arith, l, r, length-frames all, sized) in
    refused bytes all (rest ++ []) (Short p) carried is (omega (arith, sized, stops.0)) (record {
      length_is = n;
      few = omega (arith, n, few);
      ragged = λ none. some (omega (arith, sized, stops.0, none));
      good = λ m lt.
          subst (λ (xs : List ℕ). IsSideAt xs m) (sym is)
          (elim (cases_lt m (2 * length all)) [
            | inl less ↦ front_sides all (rest ++ []) carried m less
            | inr more ↦
                let e : 2 * length all ≡ m = omega (arith, lt, more, sized, stops.0) in
                let long : 8 ≤ length rest = omega (arith, lt, more, sized, stops.0) in
                subst (λ (k : ℕ). IsSideAt (flat_map frame_bytes all ++ (rest ++ [])) k) e
                (left_side_at all rest [] long (stops.1 long))
          ]);
    })
