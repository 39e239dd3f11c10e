-- A packet of a data island, whatever was received of the packets before it and of what follows it.
use Rattle.std.proofs.Common.{◌≡◌, ℕ, suc, zero, ◌+◌, ◌*◌, ◌≤◌, false, List, [], ◌∷◌, ◌++◌, length, ap, ap₂, sym, ◌∙◌, append_assoc, arith, length-append, zero-add}
use Rattle.std.proofs.lemmas.List.{append-nil}
use Rattle.tmds_word.specs.Column.{Column}
use Rattle.period_grammar.specs.Events.{all_at}
use Rattle.period_grammar.specs.Island.{parts, begins_close, with_packet, split, packet_events, in_packets, in_island}
use Rattle.period_grammar.specs.Heard.{island, opened, opening, in_gap, heard_so_far}
use Rattle.period_grammar.proofs.Joined.{split_packet}
use Rattle.period_grammar.proofs.Islands.{holds_not, split_none}
use Rattle.link_laws.proofs.Cutting.{AllControl, NoneControl}
use Rattle.link_laws.proofs.Local.{control_before, earlier_events, gap_after}

-- any 32 columns whose first two do not close an island, one after another
pub data ArePlaced : List (List Column) → List Column → Type 0 where
  none_placed : ArePlaced [] []
  one_placed : (p : List Column) (ps : List (List Column)) (cs : List Column) → length p ≡ 32 → begins_close p ≡ false → ArePlaced ps cs → ArePlaced (p ∷ ps) (p ++ cs)

split_nothing : (n : ℕ) → split n [] ≡ parts [] []
split_nothing n = split_none n [] (holds_not [] (omega arith))

split_placed : (ps : List (List Column)) (cs : List Column) → ArePlaced ps cs → (n : ℕ) → length cs ≤ n → split n cs ≡ parts ps []
split_placed _ _ none_placed n fuel = split_nothing n
split_placed _ _ (one_placed p ps cs e unshut h) zero fuel = absurd (let a = length-append p cs in omega arith)
split_placed _ _ (one_placed p ps cs e unshut h) (suc n) fuel =
    let a = length-append p cs in
    split_packet n p cs e unshut ∙ ap (with_packet p) (split_placed ps cs h n (omega arith))

placed_last : (ps : List (List Column)) (cs p : List Column) → ArePlaced ps cs → length p ≡ 32 → begins_close p ≡ false → ArePlaced (ps ++ p ∷ []) (cs ++ (p ++ []))
placed_last _ _ p none_placed e unshut = one_placed p [] [] e unshut none_placed
placed_last _ _ p (one_placed q ps cs f shut h) e unshut = grind (arith, append_assoc, one_placed, placed_last ps cs p h e unshut)

packets_last : (s k : ℕ) (ps : List (List Column)) (p : List Column) → in_packets s k (ps ++ p ∷ []) ≡ in_packets s k ps ++ all_at (s + 32 * length ps + 31) (packet_events (s + 32 * length ps) (k + length ps) p)
packets_last s k [] p = grind (arith, append-nil)
packets_last s k (q ∷ ps) p =
    let ih = packets_last (s + 32) (k + 1) ps p in
    let e : s + 32 + 32 * length ps ≡ s + 32 * length (q ∷ ps) = omega arith in
    let f : k + 1 + length ps ≡ k + length (q ∷ ps) = omega arith in
    ap (λ ts. all_at (s + 31) (packet_events s k q) ++ ts) (ih ∙ ap₂ (λ (x y : ℕ). in_packets (s + 32) (k + 1) ps ++ all_at (x + 31) (packet_events x y p)) e f)
    ∙ sym (append_assoc (all_at (s + 31) (packet_events s k q)) (in_packets (s + 32) (k + 1) ps) (all_at (s + 32 * length (q ∷ ps) + 31) (packet_events (s + 32 * length (q ∷ ps)) (k + length (q ∷ ps)) p)))

island_placed : (b : ℕ) (ps : List (List Column)) → in_island b (parts ps []) ≡ in_packets (b + 2) 0 ps
unfolding in_island
island_placed b ps = append-nil (in_packets (b + 2) 0 ps)

gap_placed : (b : ℕ) (control : List Column) (g h : Column) (ps : List (List Column)) (cs : List Column) → opened g h ≡ island → ArePlaced ps cs
    → in_gap b control (g ∷ (h ∷ cs)) ≡ all_at (b + 1) (opening b control g h island) ++ in_packets (b + 2) 0 ps
unfolding in_gap
gap_placed b control g h ps cs opens are = grind (arith, split_placed, island_placed)

-- what is reported to a packet's last column is what is reported before its first one, and then the packet
pub packet_anywhere : (earlier control : List Column) (g h : Column) (ps : List (List Column)) (cs p : List Column) → 1 ≤ length control → AllControl control → opened g h ≡ island
    → ArePlaced ps cs → length p ≡ 32 → begins_close p ≡ false → NoneControl (g ∷ (h ∷ cs)) → NoneControl (g ∷ (h ∷ (cs ++ (p ++ []))))
    → heard_so_far (earlier ++ (control ++ (g ∷ (h ∷ (cs ++ (p ++ []))))))
    ≡ heard_so_far (earlier ++ (control ++ (g ∷ (h ∷ cs))))
    ++ all_at (length earlier + length control + 2 + 32 * length ps + 31) (packet_events (length earlier + length control + 2 + 32 * length ps) (length ps) p)
packet_anywhere earlier control g h ps cs p one all opens are e unshut none more =
    let b = length earlier + length control in
    let k = control_before earlier control in
    let front = all_at (b + 1) (opening b k g h island) in
    let own = all_at (b + 2 + 32 * length ps + 31) (packet_events (b + 2 + 32 * length ps) (length ps) p) in
    gap_after earlier control g (h ∷ (cs ++ (p ++ []))) one all more
    ∙ ap (λ ts. earlier_events earlier control ++ ts)
    (gap_placed b k g h (ps ++ p ∷ []) (cs ++ (p ++ [])) opens (placed_last ps cs p are e unshut)
    ∙ ap (λ ts. front ++ ts) (packets_last (b + 2) 0 ps p ∙ ap (λ n. in_packets (b + 2) 0 ps ++ all_at (b + 2 + 32 * length ps + 31) (packet_events (b + 2 + 32 * length ps) n p)) (zero-add (length ps)))
    ∙ sym (append_assoc front (in_packets (b + 2) 0 ps) own))
    ∙ sym (append_assoc (earlier_events earlier control) (front ++ in_packets (b + 2) 0 ps) own)
    ∙ ap (λ ts. ts ++ own) (sym (gap_after earlier control g (h ∷ cs) one all none ∙ ap (λ ts. earlier_events earlier control ++ ts) (gap_placed b k g h ps cs opens are)))
