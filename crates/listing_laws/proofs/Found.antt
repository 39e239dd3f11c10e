-- Where a control period ends in lines of one level.
use Rattle.std.proofs.Common.{◌≡◌, ℕ, zero, suc, ◌+◌, ◌/◌, ◌≤◌, Bool, List, [], ◌∷◌, ◌++◌, length, take, drop, replicate, Some, None, refl, sym, ap, subst, ◌∙◌, append_assoc, arith, inl, inr, ◌⊎◌}
use Rattle.std.proofs.lemmas.List.{length-take}
use Rattle.island_pack.specs.declared.packet.Packet.{Packet}
use Rattle.island_pack.specs.Kinds.{Kind, control_column, kind_at, EndsAt}
use Rattle.source_end.specs.declared.mode.Mode.{Mode}
use Rattle.source_end.specs.Raster.{level, Line, Part, guard_at, room, row_room, total, until, whole, laid, blank}
use Rattle.source_end.specs.Gathering.{size}
use Rattle.source_end.proofs.Gathered.{size_append}
use Rattle.source_end.proofs.RasterModes.{IsMode}
use Rattle.source_end.proofs.RasterSizes.{blank_fits}
use Rattle.listing_laws.proofs.Lines.{even_none, Begins, begins_more, begins_first, begins_until}
use Rattle.listing_laws.proofs.Mute.{Mute, mute_even, mute_append, mute_whole}
use Rattle.listing_laws.proofs.Starts.{kinds, kinds_append, Found, Where, blank_ends, row_ends, Leaves}

-- a line of this level, without a row or with one that has a pixel
abbrev pub IsLine : Bool → Line → Type 0
IsLine v line = (line ≡ blank v) ⊎ ((bytes : List ℕ) × (line ≡ record { vsync = v; row = Some bytes }) × (1 ≤ length bytes / 3))

abbrev pub AreLines : Bool → List Line → Type 0
AreLines v [] = Unit {0}
AreLines v (line ∷ lines) = IsLine v line × AreLines v lines

pub lines_append : (v : Bool) (xs ys : List Line) → AreLines v xs → AreLines v ys → AreLines v (xs ++ ys)
lines_append v [] ys h k = k
lines_append v (x ∷ xs) ys h k = (h.0, lines_append v xs ys h.1 k)

pub blank_lines : (v : Bool) (n : ℕ) → AreLines v (replicate n (blank v))
blank_lines v zero = tt
blank_lines v (suc n) = (inl refl, blank_lines v n)

abbrev here : Mode → Line → List Packet → List Part
here mode line ps = whole mode line (take (room mode line) ps) line.row

-- what one line has to show
record IsGood (mode : Mode) (v : Bool) (line : Line) (ps : List Packet) : Type 0 where
  pub begins : Begins (level mode.positive v) (here mode line ps)
  pub mute : Mute (level mode.positive v) (here mode line ps)
  pub ends : (rest : List Kind) (i : ℕ) → kind_at rest 0 ≡ control_column → EndsAt (kinds (here mode line ps) ++ rest) i → Where (level mode.positive v) (here mode line ps) rest i

leaves : (mode : Mode) (ps : List Packet) → Leaves mode (length (take (row_room mode) ps))
leaves mode ps some = let h = length-take (row_room mode) ps in omega (arith, h, some)

good_blank : (mode : Mode) → IsMode mode → (v : Bool) (ps : List Packet) → IsGood mode v (blank v) ps
good_blank mode ok v ps =
    let qs = take (room mode (blank v)) ps in
    record {
      begins = begins_until mode (blank v) qs (total mode.across) (omega (arith, ok.back_columns));
      mute = mute_whole mode (blank v) qs None;
      ends = λ rest i starts h. blank_ends mode (blank v) qs (total mode.across) (blank_fits mode ps) rest i starts h;
    }

good_row : (mode : Mode) → IsMode mode → (v : Bool) (bytes : List ℕ) → 1 ≤ length bytes / 3 → (ps : List Packet) → IsGood mode v (record { vsync = v; row = Some bytes }) ps
good_row mode ok v bytes some ps =
    let line : Line = record { vsync = v; row = Some bytes } in
    let qs = take (room mode line) ps in
    record {
      begins = begins_more (level mode.positive v) (until mode line qs (guard_at mode)) _ (begins_until mode line qs (guard_at mode) (omega (arith, ok.back_columns)));
      mute = mute_whole mode line qs (Some bytes);
      ends = λ rest i starts h. row_ends mode ok.back_columns line qs (leaves mode ps) bytes some rest i starts h;
    }

good : (mode : Mode) → IsMode mode → (v : Bool) (line : Line) → IsLine v line → (ps : List Packet) → IsGood mode v line ps
good mode ok v line (inl is) ps = subst (λ (l : Line). IsGood mode v l ps) (sym is) (good_blank mode ok v ps)
good mode ok v line (inr is) ps = subst (λ (l : Line). IsGood mode v l ps) (sym is.1) (good_row mode ok v is.0 is.2 ps)

pub starts_control : (b : Bool) (parts : List Part) (rest : List Kind) → Begins b parts → kind_at (kinds parts ++ rest) 0 ≡ control_column
unfolding kinds
starts_control b parts rest h = let f = begins_first b parts h in ap (λ (ps : List Part). kind_at (kinds ps ++ rest) 0) f.are

laid_starts : (mode : Mode) → IsMode mode → (v : Bool) (lines : List Line) → AreLines v lines → (ps : List Packet) (rest : List Kind) → kind_at rest 0 ≡ control_column → kind_at (kinds (laid mode lines ps) ++ rest) 0 ≡ control_column
unfolding laid kinds
laid_starts mode ok v [] are ps rest starts = starts
laid_starts mode ok v (line ∷ lines) are ps rest starts =
    starts_control (level mode.positive v) (laid mode (line ∷ lines) ps) rest
    (begins_more (level mode.positive v) (here mode line ps) (laid mode lines (drop (room mode line) ps)) ((good mode ok v line are.0 ps).begins))

pub laid_mute : (mode : Mode) → IsMode mode → (v : Bool) (lines : List Line) → AreLines v lines → (ps : List Packet) → Mute (level mode.positive v) (laid mode lines ps)
unfolding laid
laid_mute mode ok v [] are ps m ss rs s g was = mute_even (level mode.positive v) [] (even_none (level mode.positive v)) m ss rs s g was
laid_mute mode ok v (line ∷ lines) are ps m ss rs s g was =
    mute_append (level mode.positive v) (here mode line ps) (laid mode lines (drop (room mode line) ps)) ((good mode ok v line are.0 ps).mute) (laid_mute mode ok v lines are.1 (drop (room mode line) ps)) m ss rs s g was

-- found in a part before others
pub found_front : (b : Bool) (xs ys : List Part) (i : ℕ) → Found b xs i → Mute b ys → Found b (xs ++ ys) i
found_front b xs ys i h mute = record {
  front = h.front;
  mid = h.mid ++ ys;
  are = ap (λ (ps : List Part). ps ++ ys) h.are ∙ append_assoc h.front h.mid ys;
  place = h.place;
  begins = begins_more b h.mid ys h.begins;
  mute = mute_append b h.mid ys h.mute mute;
}

-- found in a part after others
pub found_after : (b : Bool) (xs ys : List Part) (i at : ℕ) → i ≡ size xs + at → Found b ys at → Found b (xs ++ ys) i
found_after b xs ys i at place h = record {
  front = xs ++ h.front;
  mid = h.mid;
  are = ap (λ (ps : List Part). xs ++ ps) h.are ∙ sym (append_assoc xs h.front h.mid);
  place = let s = size_append xs h.front in omega (arith, s, place, h.place);
  begins = h.begins;
  mute = h.mute;
}

after : (b : Bool) (xs ys : List Part) (rest : List Kind) (i : ℕ) (at : ℕ) → i ≡ size xs + at → Where b ys rest at → Where b (xs ++ ys) rest i
after b xs ys rest i at place (inl h) = inl (found_after b xs ys i at place h)
after b xs ys rest i at place (inr h) = inr (record { at = h.at; place = let s = size_append xs ys in omega (arith, s, place, h.place); ends = h.ends })

pub where_both : (b : Bool) (xs ys : List Part) (rest : List Kind) (i : ℕ) → Mute b ys → Where b xs (kinds ys ++ rest) i → ((at : ℕ) → EndsAt (kinds ys ++ rest) at → Where b ys rest at) → Where b (xs ++ ys) rest i
where_both b xs ys rest i mute (inl h) later = inl (found_front b xs ys i h mute)
where_both b xs ys rest i mute (inr h) later = after b xs ys rest i h.at h.place (later h.at h.ends)

pub lines_ends : (mode : Mode) → IsMode mode → (v : Bool) (lines : List Line) → AreLines v lines → (ps : List Packet) (rest : List Kind) (i : ℕ) → kind_at rest 0 ≡ control_column
    → EndsAt (kinds (laid mode lines ps) ++ rest) i → Where (level mode.positive v) (laid mode lines ps) rest i
unfolding laid kinds size
lines_ends mode ok v [] are ps rest i starts h = grind arith
lines_ends mode ok v (line ∷ lines) are ps rest i starts h =
    let b = level mode.positive v in
    let more = laid mode lines (drop (room mode line) ps) in
    let g = good mode ok v line are.0 ps in
    let is : kinds (here mode line ps ++ more) ++ rest ≡ kinds (here mode line ps) ++ (kinds more ++ rest) =
    ap (λ (ks : List Kind). ks ++ rest) (kinds_append (here mode line ps) more) ∙ append_assoc (kinds (here mode line ps)) (kinds more) rest in
    where_both b (here mode line ps) more rest i (laid_mute mode ok v lines are.1 (drop (room mode line) ps))
    (g.ends (kinds more ++ rest) i (laid_starts mode ok v lines are.1 (drop (room mode line) ps) rest starts) (subst (λ (ks : List Kind). EndsAt ks i) is h))
    (λ at k. lines_ends mode ok v lines are.1 (drop (room mode line) ps) rest at starts k)
