-- Options and operands, as the grammar has them, are taken by `clap` and found.
use Rattle.std.proofs.Common.{◌≡◌, ◌∙◌, ◌⊎◌, inl, inr, sym, ap, refl, subst, Bool, true, false, List, [], ◌∷◌, ◌++◌, codes, Option, Some, None, append_assoc, append-nil}
use Rattle.std.specs.Prelude.{if◌then◌else◌, unwrap_or}
use Rattle.std.specs.Option.{option_map_or}
use Rattle.std.specs.List.{flat_map, filter_map, cons_option}
use Rattle.clap.specs.Kinds.{Kinds}
use Rattle.clap.specs.Walk.{Row, Rule, Walk, Waiting, idle, option, settled, settled_rows, used}
use Rattle.clap.specs.Faults.{settle_fault}
use Rattle.command_line.specs.Grammar.{Text, name_word, Piece, apart, joined, operand, piece_words, ArePlain, option_of, operand_of, rest_words, values_of, listed, IsGiven}
use Rattle.command_line.specs.Forms.{option_id, operand_id, all_values, AreFound}
use Rattle.command_line.specs.declared.options.OptionName.{OptionName}
use Rattle.command_line.proofs.GivenOptions.{values-append}
use Rattle.command_line.proofs.FoundRows.{option_built, is_itself, found_option, option_fits, operand_fits, given_reported}
use Rattle.command_line.proofs.Words.{plain_dashes, plain_long, plain_short, named_dashes, named_long, valued_dashes, valued_long}
use Rattle.command_line.proofs.Turns.{IsForm, holding, walk_at, Turn, plain_turn, place, waits_after, IsIdle, idle_after, value_turn, idle_turn, trailing_turn, waiting_turn, named_turn, valued_turn, rest_turn}
use Rattle.command_line.proofs.Takings.{total, last, end_fault, end_passes, or_else_both, turn_done, turn_last, settle_operand, settle_option, finds_operand, finds_option, Finds}

-- some operands, and no more than the command takes
pub record AreFew (many : Bool) (operands : List Text) : Type 0 where
  pub first : Text
  pub others : List Text
  pub operands_are : operands ≡ first ∷ others
  pub few : (many ≡ true) ⊎ (others ≡ [])

given_by : (operands : List Text) (o : Text) (os : List Text) → operands ≡ o ∷ os → option_map_or (λ p. p.1) (all_values operands) false ≡ true
given_by operands o os is = ap (λ (vs : List Text). option_map_or (λ p. p.1) (all_values vs) false) is

-- the walk ends well where some operand was found
ends : (name : Text) (c : List Rule) (many has : Bool) → IsForm c many has → (rows : List Row) (pending : Option (Text × List Text)) (options : List (OptionName × Text)) (operands : List Text)
    → settle_fault c false (holding rows pending) ≡ [] → AreFound (settled_rows c pending rows) options operands → AreFew many operands → end_fault name c (holding rows pending) ≡ []
ends name c many has f rows pending options operands settles found few =
    end_passes name c many has f (holding rows pending) settles
    (given_reported operand_id (settled_rows c pending rows) ∙ ap (λ (o : Option (List Text × Bool)). option_map_or (λ p. p.1) o false) found.operands_are
    ∙ given_by operands few.first few.others few.operands_are)

room_by : (many : Bool) (operands : List Text) (word : Text) (more : List Text) (o : Text) (os : List Text) → operands ++ word ∷ more ≡ o ∷ os → (many ≡ true) ⊎ (os ≡ []) → (many ≡ true) ⊎ (operands ≡ [])
room_by many operands word more o os is (inl e) = inl e
room_by many [] word more o os is (inr e) = inr refl
room_by many (x ∷ []) word more o os is (inr e) = absurd (cc (is, e))
room_by many (x ∷ y ∷ xs) word more o os is (inr e) = absurd (cc (is, e))

-- there is room for an operand that is one of few
room : (many : Bool) (operands : List Text) (word : Text) (more : List Text) → AreFew many (operands ++ word ∷ more) → (many ≡ true) ⊎ (operands ≡ [])
room many operands word more few = room_by many operands word more few.first few.others few.operands_are few.few

few_as : (many : Bool) (a b : List Text) → a ≡ b → AreFew many a → AreFew many b
few_as many a b e few = subst (AreFew many) e few

-- what is accepted, and found
unfoldable pub Accepts : Text → List Rule → Walk → List Text → List (OptionName × Text) → List Text → Type 0
Accepts name c w words options operands = (total name c w words ≡ []) × AreFound (settled c (last c w words).held).rows options operands

accepts_turn : (name : Text) (c : List Rule) (w : Walk) (word : Text) (words : List Text) (fault : Kinds) (after : Walk) (options : List (OptionName × Text)) (operands : List Text) → Turn name c w word fault after
    → fault ≡ [] → Accepts name c after words options operands → Accepts name c w (word ∷ words) options operands
unfolding Accepts
accepts_turn name c w word words fault after options operands t none a = (
  turn_done name c w word words fault after t none a.0,
  subst (λ (end : Walk). AreFound (settled c end.held).rows options operands) (sym (turn_last name c w word words fault after t)) a.1,
)

accepts_as : (name : Text) (c : List Rule) (w : Walk) (words : List Text) (o u : List (OptionName × Text)) (p q : List Text) → o ≡ u → p ≡ q → Accepts name c w words o p → Accepts name c w words u q
accepts_as name c w words o u p q e d a =
    subst (λ (y : List Text). Accepts name c w words u y) d (subst (λ (x : List (OptionName × Text)). Accepts name c w words x p) e a)

-- the operand of a place
operand_settles : (c : List Rule) (many has : Bool) → IsForm c many has → (rows : List Row) (options : List (OptionName × Text)) (operands : List Text) (word : Text) → AreFound rows options operands
    → (many ≡ true) ⊎ (operands ≡ []) → settle_fault c false (holding rows (Some (operand_id, word ∷ []))) ≡ []
operand_settles c many has f rows options operands word found place = settle_operand c many has f rows word ∙ operand_fits many rows options operands word found place

-- after `--`
rest_found : (name : Text) (c : List Rule) (many has : Bool) → IsForm c many has → (words : List Text) (rows : List Row) (pending : Option (Text × List Text)) (waiting : Waiting)
    (options : List (OptionName × Text)) (operands : List Text) → settle_fault c false (holding rows pending) ≡ [] → AreFound (settled_rows c pending rows) options operands → AreFew many (operands ++ words)
    → Accepts name c (walk_at rows pending waiting (place many operands) true) words options (operands ++ words)
unfolding Accepts total last Finds
rest_found name c many has f [] rows pending waiting options operands settles found few = (
  ends name c many has f rows pending options operands settles found (few_as many (operands ++ []) operands (append-nil operands) few),
  subst (λ (os : List Text). AreFound (settled_rows c pending rows) options os) (sym (append-nil operands)) found,
)
rest_found name c many has f (word ∷ words) rows pending waiting options operands settles found few =
    let there = room many operands word words few in
    let t = value_turn name c many has f rows pending waiting true operands word there (trailing_turn name c rows pending waiting (place many operands) word) in
    let fits = operand_settles c many has f (settled_rows c pending rows) options operands word found there in
    let after = rest_found name c many has f words (settled_rows c pending rows) (Some (operand_id, word ∷ [])) (waits_after many) options (operands ++ word ∷ []) fits
    (finds_operand c many has f (settled_rows c pending rows) options operands word found fits)
    (few_as many (operands ++ word ∷ words) ((operands ++ word ∷ []) ++ words) (sym (append_assoc operands (word ∷ []) words)) few) in
    accepts_turn name c _ word words _ _ options (operands ++ word ∷ words) t settles
    (accepts_as name c _ words options options ((operands ++ word ∷ []) ++ words) (operands ++ word ∷ words) refl (append_assoc operands (word ∷ []) words) after)

-- each option stands at most once
unfoldable pub Once : List (OptionName × Text) → Type 0
Once options = (name : OptionName) → (o : Option Text) × IsGiven name options o

alone : (xs : List Text) (v : Text) (vs : List Text) (o : Option Text) → xs ++ v ∷ vs ≡ listed o → xs ≡ []
alone [] v vs o h = refl
alone (x ∷ xs) v vs None h = absurd (cc h)
alone (x ∷ []) v vs (Some y) h = absurd (cc h)
alone (x ∷ z ∷ xs) v vs (Some y) h = absurd (cc h)

first_once : (options : List (OptionName × Text)) (name : OptionName) (v : Text) (more : List (OptionName × Text)) → Once (options ++ (name, v) ∷ more) → values_of name options ≡ []
unfolding Once
first_once options name v more once =
    let given = once name in
    let own : values_of name ((name, v) ∷ more) ≡ v ∷ values_of name more = ap (λ (b : Bool). cons_option (if b then Some v else None) (values_of name more)) (is_itself name) in
    alone (values_of name options) v (values_of name more) given.0
    (ap (λ (vs : List Text). values_of name options ++ vs) (sym own) ∙ sym (values-append name options ((name, v) ∷ more)) ∙ given.1)

-- before `--`
pub pieces_found : (name : Text) (c : List Rule) (many has : Bool) → IsForm c many has → (pieces : List Piece) (rest : Option (List Text)) (rows : List Row) (pending : Option (Text × List Text)) (waiting : Waiting)
    (options : List (OptionName × Text)) (operands : List Text) → IsIdle waiting → settle_fault c false (holding rows pending) ≡ [] → AreFound (settled_rows c pending rows) options operands
    → ArePlain pieces → ((has ≡ true) × ((n : OptionName) → Rattle.clap.specs.Walk.arg_by_long c (option_id n) ≡ Some (option_built n))) ⊎ (filter_map option_of pieces ≡ [])
    → Once (options ++ filter_map option_of pieces) → AreFew many (operands ++ (filter_map operand_of pieces ++ unwrap_or rest []))
    → Accepts name c (walk_at rows pending waiting (place many operands) false) (flat_map piece_words pieces ++ rest_words rest)
    (options ++ filter_map option_of pieces) (operands ++ (filter_map operand_of pieces ++ unwrap_or rest []))
unfolding Accepts total last Finds
pieces_found name c many has f [] None rows pending waiting options operands is settles found plain offers once few = (
  ends name c many has f rows pending options operands settles found (few_as many (operands ++ []) operands (append-nil operands) few),
  subst (λ (os : List (OptionName × Text)). AreFound (settled_rows c pending rows) os (operands ++ [])) (sym (append-nil options))
      (subst (λ (os : List Text). AreFound (settled_rows c pending rows) options os) (sym (append-nil operands)) found),
)
pieces_found name c many has f [] (Some words) rows pending waiting options operands is settles found plain offers once few =
    accepts_turn name c _ (codes "--") words _ _ (options ++ []) (operands ++ words) (rest_turn name c rows pending waiting (place many operands)) refl
    (accepts_as name c _ words options (options ++ []) (operands ++ words) (operands ++ words) (sym (append-nil options)) refl
    (rest_found name c many has f words rows pending waiting options operands settles found few))
pieces_found name c many has f (apart n v ∷ pieces) rest rows pending waiting options operands is settles found plain (inr none) once few = absurd (cc none)
pieces_found name c many has f (apart n v ∷ pieces) rest rows pending waiting options operands is settles found plain (inl offers) once few =
    let after = flat_map piece_words pieces ++ rest_words rest in
    let t = named_turn name c n rows pending waiting (place many operands) (name_word n) (named_dashes n) (named_long n) (offers.1 n) in
    let u = waiting_turn name c n (settled_rows c pending rows) (place many operands) v (f.by_id offers.0 n)
    (plain_turn name c (settled_rows c pending rows) (Some (option_id n, [])) (option (option_id n)) (place many operands) v (plain_dashes v plain.0) (plain_long v plain.0) (plain_short v plain.0)) in
    let fits = settle_option c many has f offers.0 n (settled_rows c pending rows) (v ∷ [])
    ∙ option_fits (settled_rows c pending rows) options operands n v found (first_once options n v (filter_map option_of pieces) once) in
    let next = pieces_found name c many has f pieces rest (settled_rows c pending rows) (Some (option_id n, v ∷ [])) idle (options ++ (n, v) ∷ []) operands tt fits
    (finds_option c many has f offers.0 n (settled_rows c pending rows) options operands v found fits) plain.1 (inl offers)
    (subst Once (sym (append_assoc options ((n, v) ∷ []) (filter_map option_of pieces))) once) few in
    accepts_turn name c _ (name_word n) (v ∷ after) _ _ (options ++ (n, v) ∷ filter_map option_of pieces) (operands ++ (filter_map operand_of pieces ++ unwrap_or rest [])) t settles
    (accepts_turn name c _ v after _ _ (options ++ (n, v) ∷ filter_map option_of pieces) (operands ++ (filter_map operand_of pieces ++ unwrap_or rest [])) u refl
    (accepts_as name c _ after _ (options ++ (n, v) ∷ filter_map option_of pieces) _ (operands ++ (filter_map operand_of pieces ++ unwrap_or rest [])) (append_assoc options ((n, v) ∷ []) (filter_map option_of pieces)) refl next))
pieces_found name c many has f (joined n v ∷ pieces) rest rows pending waiting options operands is settles found plain (inr none) once few = absurd (cc none)
pieces_found name c many has f (joined n v ∷ pieces) rest rows pending waiting options operands is settles found plain (inl offers) once few =
    let after = flat_map piece_words pieces ++ rest_words rest in
    let t = valued_turn name c n rows pending waiting (place many operands) (name_word n ++ codes "=" ++ v) v (valued_dashes n v) (valued_long n v) (offers.1 n) in
    let fits = option_fits (settled_rows c pending rows) options operands n v found (first_once options n v (filter_map option_of pieces) once) in
    let next = pieces_found name c many has f pieces rest (used (option_built n) (v ∷ []) (settled_rows c pending rows)) None idle (options ++ (n, v) ∷ []) operands tt refl
    (found_option (settled_rows c pending rows) options operands n v found fits) plain.1 (inl offers)
    (subst Once (sym (append_assoc options ((n, v) ∷ []) (filter_map option_of pieces))) once) few in
    accepts_turn name c _ (name_word n ++ codes "=" ++ v) after _ _ (options ++ (n, v) ∷ filter_map option_of pieces) (operands ++ (filter_map operand_of pieces ++ unwrap_or rest [])) t
    (or_else_both (settle_fault c false (holding rows pending)) _ settles fits)
    (accepts_as name c _ after _ (options ++ (n, v) ∷ filter_map option_of pieces) _ (operands ++ (filter_map operand_of pieces ++ unwrap_or rest [])) (append_assoc options ((n, v) ∷ []) (filter_map option_of pieces)) refl next)
pieces_found name c many has f (operand word ∷ pieces) rest rows pending waiting options operands is settles found plain offers once few =
    let after = flat_map piece_words pieces ++ rest_words rest in
    let more = filter_map operand_of pieces ++ unwrap_or rest [] in
    let there = room many operands word (filter_map operand_of pieces ++ unwrap_or rest []) few in
    let t = value_turn name c many has f rows pending waiting false operands word there (idle_turn name c rows pending waiting (place many operands) word is
    (plain_turn name c rows pending waiting (place many operands) word (plain_dashes word plain.0) (plain_long word plain.0) (plain_short word plain.0))) in
    let fits = operand_settles c many has f (settled_rows c pending rows) options operands word found there in
    let next = pieces_found name c many has f pieces rest (settled_rows c pending rows) (Some (operand_id, word ∷ [])) (waits_after many) options (operands ++ word ∷ []) (idle_after many) fits
    (finds_operand c many has f (settled_rows c pending rows) options operands word found fits) plain.1 offers once
    (few_as many (operands ++ word ∷ (filter_map operand_of pieces ++ unwrap_or rest [])) ((operands ++ word ∷ []) ++ (filter_map operand_of pieces ++ unwrap_or rest [])) (sym (append_assoc operands (word ∷ []) (filter_map operand_of pieces ++ unwrap_or rest []))) few) in
    accepts_turn name c _ word after _ _ (options ++ filter_map option_of pieces) (operands ++ word ∷ (filter_map operand_of pieces ++ unwrap_or rest [])) t settles
    (accepts_as name c _ after (options ++ filter_map option_of pieces) (options ++ filter_map option_of pieces) _ (operands ++ word ∷ (filter_map operand_of pieces ++ unwrap_or rest [])) refl (append_assoc operands (word ∷ []) (filter_map operand_of pieces ++ unwrap_or rest [])) next)
