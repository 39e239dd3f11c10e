-- Columns that are given word by word carry what their words carry.
use Rattle.std.proofs.Common.{◌≡◌, ℕ, suc, zero, ◌<◌, Bool, List, [], ◌∷◌, map, refl, ap, ap₂, ◌∙◌, arith}
use Rattle.std.specs.Prelude.{slice_index}
use Rattle.std.proofs.lemmas.List.{length-map}
use Rattle.tmds_word.specs.Column.{column_of}
use Rattle.terc4.specs.Tables.{is_terc}
use Rattle.island_pack.specs.Nibbles.{nibble_of, nibbles_of, sync_values, header_bits, body_bits}
use Rattle.island_pack.specs.Packets.{Carries, AreTerc}
use Rattle.island_pack.specs.Spelling.{column_words}
use Rattle.island_pack.specs.declared.packet.Packet.{Packet}

word_at : (words : List ℕ) (lane : ℕ) → lane < 3 → slice_index (column_words (column_of words)) lane ≡ slice_index words lane
word_at words lane h = grind arith

nibbles_same : (block : List (List ℕ)) (lane : ℕ) → lane < 3 → nibbles_of (map column_words (map column_of block)) lane ≡ nibbles_of block lane
unfolding nibbles_of
nibbles_same [] lane lt = refl
nibbles_same (words ∷ block) lane lt = ap₂ (λ n (ns : List ℕ). nibble_of n ∷ ns) (word_at words lane lt) (nibbles_same block lane lt)

terc_same : (block : List (List ℕ)) (lane : ℕ) → lane < 3 → AreTerc block lane → AreTerc (map column_words (map column_of block)) lane
terc_same [] lane lt h k d within = absurd (omega arith)
terc_same (words ∷ block) lane lt h zero d within = ap is_terc (word_at words lane lt) ∙ h zero d (omega arith)
terc_same (words ∷ block) lane lt h (suc k) d within = terc_same block lane lt (λ i e less. h (suc i) e (omega arith)) k d (omega arith)

pub carries_columns : (p : Packet) (first : Bool) (block : List (List ℕ)) → Carries p first block → Carries p first (map column_words (map column_of block))
unfolding sync_values header_bits body_bits
carries_columns p first block h = grind (arith, nibbles_same, length-map, terc_same)
