-- The words after a name that takes no operands, as `check`: none, or `--` alone.
use Rattle.clap.specs.Lexer.{long_of}
use Rattle.std.proofs.Common.{arith, ◌≡◌, ◌∙◌, ◌⊎◌, inl, inr, sym, ap, refl, subst, Bool, true, false, List, [], ◌∷◌, ◌++◌, codes, Option, Some, None, bytes_eq}
use Rattle.std.specs.Prelude.{unwrap_or}
use Rattle.std.specs.List.{flat_map, filter_map}
use Rattle.std.proofs.lemmas.Slice.Eq.{bytes_eq-Decides}
use Rattle.clap.specs.Walk.{idle, nothing_held, walked}
use Rattle.clap.specs.Faults.{turn_fault, walk_fault, defaults_fault, level_fault}
use Rattle.command_line.specs.Grammar.{Text, Piece, apart, joined, operand, piece_words, option_of, operand_of, rest_words, AreArranged}
use Rattle.command_line.proofs.Turns.{leaf, walk_at, other_turn, idle_turn, trailing_turn, unknown_turn, rest_turn}
use Rattle.command_line.proofs.Takings.{total, level_total, turn_reported, or_else_first}

unfoldable pub IsBare : List Text → Type 0
IsBare words = (words ≡ []) ⊎ (words ≡ codes "--" ∷ [])

bare_by : (name word : Text) (words : List Text) → total name [] (walk_at [] None idle 1 false) (word ∷ words) ≡ []
    → (dashes : Bool) → bytes_eq word (codes "--") ≡ dashes → (long : Option (Text × Option Text)) → long_of word ≡ long → IsBare (word ∷ words)
unfolding IsBare total
bare_by name word words h false d (Some p) e =
    absurd (unknown_turn name [] [] None idle 1 word p.0 p.1 d e refl (or_else_first (turn_fault (leaf name []) [] (walk_at [] None idle 1 false) word) _ h))
bare_by name word words h false d None e =
    let passes = or_else_first (turn_fault (leaf name []) [] (walk_at [] None idle 1 false) word) _ h in
    let t = idle_turn name [] [] None idle 1 word tt (other_turn name [] [] None idle 1 word (λ x. refl) d e passes) in
    absurd (cc (turn_reported name [] _ word words _ _ t h).0)
bare_by name word [] h true d long e = inr (ap (λ (w : Text). w ∷ []) ((bytes_eq-Decides word (codes "--")).0 d))
bare_by name word (next ∷ words) h true d long e =
    let h2 = subst (λ (w : Text). total name [] (walk_at [] None idle 1 false) (w ∷ next ∷ words) ≡ []) ((bytes_eq-Decides word (codes "--")).0 d) h in
    let reported = turn_reported name [] _ (codes "--") (next ∷ words) _ _ (rest_turn name [] [] None idle 1) h2 in
    absurd (cc (turn_reported name [] _ next words _ _ (trailing_turn name [] [] None idle 1 next) reported.1).0)

pub bare_reported : (name : Text) (words : List Text) → level_fault (leaf name []) [] nothing_held words false [] ≡ [] → IsBare words
unfolding IsBare
bare_reported name [] h = inl refl
bare_reported name (word ∷ words) h = bare_by name word words (sym (level_total name [] (word ∷ words)) ∙ h) (bytes_eq word (codes "--")) refl (long_of word) refl

no_pieces : (pieces : List Piece) (rest : Option (List Text)) → [] ≡ filter_map option_of pieces → [] ≡ filter_map operand_of pieces ++ unwrap_or rest [] → IsBare (flat_map piece_words pieces ++ rest_words rest)
unfolding IsBare
no_pieces [] None o p = inl refl
no_pieces [] (Some words) o p = inr (ap (λ (ws : List Text). codes "--" ∷ ws) (sym p))
no_pieces (apart n v ∷ pieces) rest o p = absurd (cc o)
no_pieces (joined n v ∷ pieces) rest o p = absurd (cc o)
no_pieces (operand w ∷ pieces) rest o p = absurd (cc p)

pub arranged_bare : (words : List Text) → AreArranged words [] [] → IsBare words
arranged_bare words a = subst IsBare (sym a.words_are) (no_pieces a.pieces a.rest a.options_are a.operands_are)

pub bare_passes : (name : Text) (words : List Text) → IsBare words → level_fault (leaf name []) [] nothing_held words false [] ≡ []
unfolding IsBare walk_fault walked defaults_fault
bare_passes name words h = grind (arith, leaf)
