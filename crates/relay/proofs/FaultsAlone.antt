-- Events that are faults alone.
use Rattle.std.proofs.Common.{arith, ◌≡◌, ℕ, ◌+◌, Bool, not, ◌==◌, List, [], ◌∷◌, ◌++◌, map, refl, ap, ap₂, ◌∙◌}
use Rattle.std.specs.Prelude.{Option}
use Rattle.std.proofs.lemmas.List.{map-append}
use Rattle.tmds_word.specs.Column.{Column}
use Rattle.bch_block.specs.declared.Verdict.{Verdict}
use Rattle.island_pack.specs.declared.packet.PacketVerdicts.{PacketVerdicts}
use Rattle.period_grammar.specs.Events.{Event, preamble, guard, symbols, all_at, event_of}
use Rattle.period_grammar.specs.Island.{if_so, block_fault, block_faults, packet_faults, wrong_guards}
use Rattle.period_grammar.specs.Heard.{if_not, other_word, other_words, words, code_fault, codes_of}
use Rattle.period_grammar.proofs.Hearings.{events_at}
use Rattle.relay.specs.Relayed.{Said, without_faults}
use Rattle.relay.proofs.Gaining.{faults_both}

abbrev pub AreFaults : List Event → Type 0
AreFaults ts = without_faults ts ≡ []

pub are_faults_both : (ts us : List Event) → AreFaults ts → AreFaults us → AreFaults (ts ++ us)
are_faults_both ts us h g = faults_both ts us ∙ ap₂ (λ (xs ys : List Said). xs ++ ys) h g

pub are_faults_before : (ts us : List Event) → AreFaults ts → without_faults (ts ++ us) ≡ without_faults us
are_faults_before ts us h = faults_both ts us ∙ ap (λ (xs : List Said). xs ++ without_faults us) h

pub are_faults_preamble : (p : Bool) (b : ℕ) → AreFaults (if_not p (preamble b))
unfolding without_faults
are_faults_preamble p b = grind arith

are_faults_guard : (p : Bool) (j : ℕ) → AreFaults (if_so p (guard j))
unfolding without_faults
are_faults_guard p j = grind arith

pub are_faults_guards : (is : Column → Bool) (b : ℕ) (g h : Column) → AreFaults (wrong_guards is b g h)
are_faults_guards is b g h = are_faults_both (if_so (not (is g)) (guard b)) (if_so (not (is h)) (guard (b + 1))) (are_faults_guard (not (is g)) b) (are_faults_guard (not (is h)) (b + 1))

are_faults_symbols : (p : Bool) (s n : ℕ) → AreFaults (if_so p (symbols s n))
unfolding without_faults
are_faults_symbols p s n = grind arith

are_faults_block : (s b : ℕ) (v : Verdict) → AreFaults (block_fault s b v)
unfolding without_faults
are_faults_block s b v = grind arith

are_faults_nothing : AreFaults []
unfolding without_faults
are_faults_nothing = refl

are_faults_blocks : (s b : ℕ) (vs : List Verdict) → AreFaults (block_faults s b vs)
are_faults_blocks s b [] = are_faults_nothing
are_faults_blocks s b (v ∷ vs) = are_faults_both (block_fault s b v) (block_faults s (b + 1) vs) (are_faults_block s b v) (are_faults_blocks s (b + 1) vs)

pub are_faults_packet : (s : ℕ) (v : PacketVerdicts) → AreFaults (packet_faults s v)
are_faults_packet s v = are_faults_both (if_so (not (v.symbols == 0)) (symbols s v.symbols)) (block_faults s 0 v.blocks) (are_faults_symbols (not (v.symbols == 0)) s v.symbols) (are_faults_blocks s 0 v.blocks)

are_faults_code : (lane s : ℕ) (o : Option ℕ) → AreFaults (code_fault lane s o)
unfolding without_faults
are_faults_code lane s o = grind arith

pub are_faults_codes : (s : ℕ) (cs : List Column) → AreFaults (codes_of s cs)
unfolding codes_of
are_faults_codes s cs = grind (arith, are_faults_both, are_faults_code)

are_faults_word : (lane j : ℕ) (p : Bool) → AreFaults (other_word lane j p)
unfolding without_faults
are_faults_word lane j p = grind arith

are_faults_column : (j : ℕ) (c : Column) → AreFaults (other_words j c)
unfolding other_words
are_faults_column j c = grind (arith, are_faults_both, are_faults_word)

pub are_faults_words : (j : ℕ) (cs : List Column) → AreFaults (map event_of (words j cs))
are_faults_words j [] = are_faults_nothing
are_faults_words j (c ∷ cs) =
    let here = all_at j (other_words j c) in
    let more = words (j + 1) cs in
    ap without_faults (map-append event_of here more)
    ∙ are_faults_both (map event_of here) (map event_of more) (ap without_faults (events_at j (other_words j c)) ∙ are_faults_column j c) (are_faults_words (j + 1) cs)
