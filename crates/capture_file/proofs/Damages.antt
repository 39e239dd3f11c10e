-- A capture that is damaged from its header to its end.
use Rattle.std.proofs.Common.{◌≡◌, ℕ, ◌<◌, List, [], ◌++◌, length, refl, ap, ap₂, ◌∙◌, sym, arith, subst, inl, inr, append_assoc, append-nil}
use Rattle.std.specs.Prelude.{Option, Result, All, OnOk, IfErr, slice_index}
use Rattle.std.specs.Io.KnownBytes.{Appends, Keeps}
use Rattle.std.proofs.lemmas.List.Elements.{All-get_or}
use Rattle.std.proofs.lemmas.Option.{get_or_from_slice_get, slice_get_within}
use Rattle.capture_file.specs.Layout.{packed, blocks_below}
use Rattle.capture_file.specs.Captures.{counts_of, header_of, CanSay, IsHeader, HasRead, IsHeadless, IsFault, lane_blocks, block_size, place_at}
use Rattle.capture_file.specs.Damage.{damaged}
use Rattle.capture_file.specs.BlockDamage.{AllFitLanes, Halfway, IsDamagedFront, IsDamagedCapture, IsLateFault, IsDamageFault, SaysFault, SaysBad}
use Rattle.capture_file.specs.declared.damaging.Hit.{Hit}
use Rattle.capture_file.specs.declared.damaging.DamageError.{DamageError}
use Rattle.capture_file.specs.declared.damaging.DamageError.TheVariants.{Bad, Place, Read, Write}
use Rattle.capture_file.proofs.Heads.{same_heads}
use Rattle.capture_file.proofs.Standing.{size_of, none_below}
use Rattle.capture_file.proofs.Takings.{ended, no_block}
use Rattle.capture_file.proofs.Halfways.{lane_fits, damaged_all}

-- hits fit lanes of the same counts
pub fits_same : (counts other : List ℕ) (hits : List Hit) → ((c : ℕ) → c < 3 → slice_index counts c ≡ slice_index other c) → All (λ (h : Hit). h.lane < 3) hits → AllFitLanes counts hits → AllFitLanes other hits
fits_same counts other hits same lanes fit i hit at = grind (arith, get_or_from_slice_get, All-get_or, slice_get_within)

-- a header alone
pub halfway_head : (version : ℕ) (counts : List ℕ) (hits : List Hit) (before now : Option (List ℕ)) → CanSay version counts → Appends before now (header_of version counts)
    → Halfway version counts hits 0 (header_of version counts) before now
halfway_head version counts hits before now s wrote =
    let h = header_of version counts in
    let front : IsDamagedFront version counts hits 0 h h = record {
      blue = [];
      green = [];
      red = [];
      read = record {
        head = h;
        headed = record { version = version; said = s; head_is = refl };
        count_blue = omega arith;
        count_green = omega arith;
        count_red = omega arith;
        taken_is = sym (ap (λ xs. h ++ xs) (none_below (packed []) (packed []) (packed [])) ∙ append-nil h);
        place_is = omega (arith, size_of version counts s);
      };
      said = s;
      head_is = refl;
      out_is = λ u v w eu ev ew.
          sym (ap (λ xs. h ++ xs) (none_below (packed (damaged 0 hits ([] ++ u))) (packed (damaged 1 hits ([] ++ v))) (packed (damaged 2 hits ([] ++ w)))) ∙ append-nil h);
    } in
    record { out = h; front = front; wrote = wrote }

-- after the last block the whole capture was written damaged
pub halfway_done : (version : ℕ) (counts : List ℕ) (hits : List Hit) (j : ℕ) (taken : List ℕ) (before now : Option (List ℕ)) → All (λ (h : Hit). h.lane < 3) hits → AllFitLanes counts hits
    → block_size j counts ≡ 0 → Halfway version counts hits j taken before now → (whole : List ℕ) × IsDamagedCapture taken hits whole × Appends before now whole
halfway_done version counts hits j taken before now lanes fit none was =
    let head = header_of version counts in
    let h = was.front in
    let b = no_block counts j none in
    let e0 : length h.blue ≡ slice_index counts 0 = omega (arith, h.read.count_blue, b.0) in
    let e1 : length h.green ≡ slice_index counts 1 = omega (arith, h.read.count_green, b.1) in
    let e2 : length h.red ≡ slice_index counts 2 = omega (arith, h.read.count_red, b.2) in
    let f = damaged 0 hits h.blue in
    let g = damaged 1 hits h.green in
    let k = damaged 2 hits h.red in
    let l0 : length f ≡ slice_index counts 0 = damaged_all 0 hits h.blue (lane_fits counts hits 0 (length h.blue) fit e0) ∙ e0 in
    let l1 : length g ≡ slice_index counts 1 = damaged_all 1 hits h.green (lane_fits counts hits 1 (length h.green) fit e1) ∙ e1 in
    let l2 : length k ≡ slice_index counts 2 = damaged_all 2 hits h.red (lane_fits counts hits 2 (length h.red) fit e2) ∙ e2 in
    let below = blocks_below j (packed f) (packed g) (packed k) in
    let headed : IsHeader head counts = record { version = version; said = h.said; head_is = refl } in
    let own : HasRead counts j (length (head ++ below)) (head ++ below) f g k =
    record {
      head = head;
      headed = headed;
      count_blue = omega (arith, l0, b.0);
      count_green = omega (arith, l1, b.1);
      count_red = omega (arith, l2, b.2);
      taken_is = refl;
      place_is = refl;
    } in
    let new = (ended counts j (length (head ++ below)) (head ++ below) f g k own none).holds in
    let old = (ended counts j (place_at version counts j) taken h.blue h.green h.red h.read none).holds in
    let new_head = (same_heads new.head head (counts_of f g k) counts (lane_blocks f g k) below new.headed headed (sym new.bytes_are)).same in
    let same = same_heads old.head h.read.head (counts_of h.blue h.green h.red) counts (lane_blocks h.blue h.green h.red) (blocks_below j (packed h.blue) (packed h.green) (packed h.red)) old.headed h.read.headed (sym old.bytes_are ∙ h.read.taken_is) in
    let old_head : old.head ≡ head = same.same ∙ h.head_is in
    let whole : head ++ below ≡ old.head ++ lane_blocks f g k = new.bytes_are ∙ ap (λ xs. xs ++ lane_blocks f g k) (new_head ∙ sym old_head) in
    let x_is = append-nil h.blue in
    let y_is = append-nil h.green in
    let z_is = append-nil h.red in
    let written : head ++ blocks_below j (packed (damaged 0 hits (h.blue ++ []))) (packed (damaged 1 hits (h.green ++ []))) (packed (damaged 2 hits (h.red ++ []))) ≡ head ++ below =
    ap (λ r. head ++ blocks_below j (packed (damaged 0 hits r)) (packed (damaged 1 hits (h.green ++ []))) (packed (damaged 2 hits (h.red ++ [])))) x_is
    ∙ ap₂ (λ r s. head ++ blocks_below j (packed f) (packed (damaged 1 hits r)) (packed (damaged 2 hits s))) y_is z_is in (
      old.head ++ lane_blocks f g k,
      record {
        blue = h.blue;
        green = h.green;
        red = h.red;
        holds = old;
        fits = fits_same counts (counts_of h.blue h.green h.red) hits (λ c lt. sym (same.count c lt)) lanes fit;
        whole_is = refl;
      },
      subst (λ bs. Appends before now bs) (h.out_is [] [] [] (ap length x_is ∙ e0) (ap length y_is ∙ e1) (ap length z_is ∙ e2) ∙ written ∙ whole) was.wrote,
    )

-- a fault after the header
pub fault_late : (version : ℕ) (counts : List ℕ) (hits : List Hit) (bytes rest : List ℕ) (before now : Option (List ℕ)) (e : DamageError) → All (λ (h : Hit). h.lane < 3) hits → AllFitLanes counts hits
    → CanSay version counts → bytes ≡ header_of version counts ++ rest → SaysFault (λ fault. IsLateFault version counts hits rest (header_of version counts) before now fault) e
    → SaysBad (λ fault. IsDamageFault bytes hits before now fault) e
fault_late version counts hits bytes rest before now (Bad fault) lanes fit said is h =
    let head = header_of version counts in
    let headed : IsHeader head counts = record { version = version; said = said; head_is = refl } in (
      h.half.out,
      record {
        is = subst (λ bs. IsFault bs fault) (sym is) h.is;
        within = λ other others tail own e.
            fits_same counts others hits (same_heads head other counts others rest tail headed own (sym is ∙ e)).count lanes fit;
        out_is =
            let bytes_are = is ∙ ap (λ bs. head ++ bs) h.bytes_are ∙ sym (append_assoc head h.part h.rest) in
            inr (record { version = version; counts = counts; block = h.block; taken = head ++ h.part; rest = h.rest; bytes_are = bytes_are; front = h.half.front; stops = h.stops });
      },
      h.half.wrote,
    )
fault_late version counts hits bytes rest before now (Place i) lanes fit said is h = absurd h
fault_late version counts hits bytes rest before now Read lanes fit said is h = h
fault_late version counts hits bytes rest before now Write lanes fit said is h = h

pub nothing_written : (old new : Option (List ℕ)) → Keeps old new → Appends old new []
nothing_written old new h = grind (arith, append-nil)

-- a fault of bytes without a whole header
pub fault_early : (hits : List Hit) (bytes : List ℕ) (before now : Option (List ℕ)) (e : DamageError) → Keeps before now → SaysBad (λ fault. IsFault bytes fault × IsHeadless bytes) e
    → SaysBad (λ fault. IsDamageFault bytes hits before now fault) e
fault_early hits bytes before now (Bad fault) kept h = (
  [],
  record {
    is = h.0;
    within = λ head counts tail own e. absurd (h.1 head counts tail own e);
    out_is = inl (h.1, refl);
  },
  nothing_written before now kept,
)
fault_early hits bytes before now (Place i) kept h = h
fault_early hits bytes before now Read kept h = h
fault_early hits bytes before now Write kept h = h

pub keeps_self : (a : Option (List ℕ)) → Keeps a a
keeps_self a = grind arith

pub on_done : (p q : Type 0) (r : Result (Unit {0}) DamageError) → (p → q) → OnOk r p → OnOk r q
on_done p q r h k = grind arith

pub on_error : (p q : DamageError → Type 0) (r : Result (Unit {0}) DamageError) → ((e : DamageError) → p e → q e) → IfErr r p → IfErr r q
on_error p q r h k = grind arith
