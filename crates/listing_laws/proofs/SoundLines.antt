-- The lines of events that are no faults: all lines where nothing is one, and none of events that are faults alone.
use Rattle.std.proofs.Common.{arith, ◌≡◌, ℕ, ◌+◌, Bool, not, cond, ◌==◌, List, [], ◌∷◌, ◌++◌, map, refl, ap, ap₂, ◌∙◌, append_assoc}
use Rattle.std.specs.Prelude.{Option}
use Rattle.std.proofs.lemmas.List.{map-append}
use Rattle.tmds_word.specs.Column.{Column}
use Rattle.tmds_word.proofs.Below.{and-left, and-right}
use Rattle.terc4.specs.Tables.{is_control}
use Rattle.bch_block.specs.declared.Verdict.{Verdict}
use Rattle.link_laws.proofs.Computed.{not_true}
use Rattle.island_pack.specs.declared.packet.PacketVerdicts.{PacketVerdicts}
use Rattle.period_grammar.specs.Events.{Event, preamble, guard, symbols, all_at, event_of}
use Rattle.period_grammar.specs.Exact.{is_fault_event}
use Rattle.period_grammar.specs.Island.{if_so, block_fault, block_faults, packet_faults, wrong_guards}
use Rattle.period_grammar.specs.Heard.{other_word, other_words, words, if_not, code_fault, codes_of}
use Rattle.period_grammar.proofs.Hearings.{events_at}
use Rattle.link_laws.proofs.exact.Faultless.{Fine}
use Rattle.listing_writer.specs.Texts.{lines_of}
use Rattle.listing_laws.proofs.Text.{line_of}

abbrev pub sound_lines : List Event → List ℕ
sound_lines [] = []
sound_lines (t ∷ ts) = cond (is_fault_event t) [] (line_of t) ++ sound_lines ts

pub sound_append : (ts us : List Event) → sound_lines (ts ++ us) ≡ sound_lines ts ++ sound_lines us
sound_append [] us = refl
sound_append (t ∷ ts) us = grind (arith, line_of, append_assoc, sound_append ts us)

pub all_sound : (ts : List Event) → Fine ts → sound_lines ts ≡ lines_of ts
unfolding lines_of
all_sound [] h = refl
all_sound (t ∷ ts) h =
    ap₂ (λ (fault : Bool) (text : List ℕ). cond fault [] (line_of t) ++ text) (not_true (is_fault_event t) (and-left _ _ h)) (all_sound ts (and-right (not (is_fault_event t)) _ h))

-- ---- faults alone

abbrev pub IsSilent : List Event → Type 0
IsSilent ts = sound_lines ts ≡ []

pub silent_both : (ts us : List Event) → IsSilent ts → IsSilent us → IsSilent (ts ++ us)
silent_both ts us h g = sound_append ts us ∙ ap₂ (λ (a b : List ℕ). a ++ b) h g

silent_word : (lane j : ℕ) (sure : Bool) → IsSilent (other_word lane j sure)
silent_word lane j sure = grind arith

silent_column : (j : ℕ) (c : Column) → IsSilent (other_words j c)
unfolding other_words
silent_column j c =
    silent_both (other_word 0 j (is_control c.blue)) _ (silent_word 0 j (is_control c.blue))
    (silent_both (other_word 1 j (is_control c.green)) _ (silent_word 1 j (is_control c.green)) (silent_word 2 j (is_control c.red)))

pub silent_words : (j : ℕ) (cs : List Column) → IsSilent (map event_of (words j cs))
silent_words j [] = refl
silent_words j (c ∷ cs) =
    let rest = words (j + 1) cs in
    ap sound_lines (map-append event_of (all_at j (other_words j c)) rest ∙ ap (λ (ts : List Event). ts ++ map event_of rest) (events_at j (other_words j c)))
    ∙ silent_both (other_words j c) (map event_of rest) (silent_column j c) (silent_words (j + 1) cs)

pub silent_preamble : (sure : Bool) (b : ℕ) → IsSilent (if_not sure (preamble b))
silent_preamble sure b = grind arith

silent_guard : (wrong : Bool) (b : ℕ) → IsSilent (if_so wrong (guard b))
silent_guard wrong b = grind arith

pub silent_guards : (is : Column → Bool) (b : ℕ) (g h : Column) → IsSilent (wrong_guards is b g h)
silent_guards is b g h = silent_both (if_so (not (is g)) (guard b)) (if_so (not (is h)) (guard (b + 1))) (silent_guard (not (is g)) b) (silent_guard (not (is h)) (b + 1))

silent_code : (lane s : ℕ) (found : Option ℕ) → IsSilent (code_fault lane s found)
silent_code lane s found = grind arith

pub silent_codes : (s : ℕ) (cs : List Column) → IsSilent (codes_of s cs)
unfolding codes_of
silent_codes s cs = grind (arith, silent_both, silent_code)

silent_symbols : (some : Bool) (s n : ℕ) → IsSilent (if_so some (symbols s n))
silent_symbols some s n = grind arith

silent_block : (s b : ℕ) (v : Verdict) → IsSilent (block_fault s b v)
silent_block s b v = grind arith

silent_blocks : (s b : ℕ) (vs : List Verdict) → IsSilent (block_faults s b vs)
silent_blocks s b [] = refl
silent_blocks s b (v ∷ vs) = silent_both (block_fault s b v) (block_faults s (b + 1) vs) (silent_block s b v) (silent_blocks s (b + 1) vs)

pub silent_packet : (s : ℕ) (v : PacketVerdicts) → IsSilent (packet_faults s v)
silent_packet s v =
    silent_both (if_so (not (v.symbols == 0)) (symbols s v.symbols)) (block_faults s 0 v.blocks) (silent_symbols (not (v.symbols == 0)) s v.symbols) (silent_blocks s 0 v.blocks)
