-- The words that `clap` takes after a command's name are options and operands, and options and operands are taken.
use Rattle.std.proofs.Common.{arith, ◌≡◌, ◌∙◌, ◌⊎◌, inl, inr, sym, ap, refl, subst, Bool, true, false, not, List, [], ◌∷◌, ◌++◌, codes, Option, Some, None, bytes_eq, true≢false, append_assoc, append-nil, fold}
use Rattle.std.specs.Prelude.{if◌then◌else◌, option_map, unwrap_or}
use Rattle.std.specs.List.{flat_map, filter_map, list_all}
use Rattle.clap.specs.Kinds.{Kinds, or_else}
use Rattle.clap.specs.Walk.{Row, Rule, Held, Walk, Waiting, idle, option, settled, settled_rows, walked, finished, with_default, nothing_held, walk_from, is_empty, used, used_by_id, arg_by_long}
use Rattle.clap.specs.Takes.{is_given}
use Rattle.clap.specs.Faults.{use_fault, settle_fault, turn_fault, walk_fault, defaults_fault, check_fault, level_fault}
use Rattle.clap.specs.Lexer.{long_of}
use Rattle.clap.specs.declared.error.kind.ErrorKind.TheVariants as kind
use Rattle.clap.proofs.SimpleLemmas.{is_nil}
use Rattle.std.proofs.lemmas.Bool.{and_parts}
use Rattle.std.proofs.lemmas.Option.{none-some, same_Some}
use Rattle.std.proofs.lemmas.Slice.Eq.{bytes_eq-Decides}
use Rattle.std.specs.Option.{option_map_or}
use Rattle.command_line.specs.Grammar.{Text, name_word, Piece, apart, joined, operand, piece_words, option_of, operand_of, rest_words}
use Rattle.command_line.specs.Forms.{option_id, operand_id, AreFound}
use Rattle.command_line.specs.declared.options.OptionName.{OptionName}
use Rattle.command_line.specs.declared.options.OptionName.TheVariants.{Offset, Skew, Bits, Version}
use Rattle.command_line.proofs.FoundRows.{option_built, operand_built, found_option, found_operand, nothing_found}
use Rattle.command_line.proofs.Words.{long_text, long_reported}
use Rattle.command_line.proofs.Turns.{leaf, option_named, IsForm, holding, walk_at, Turn, rest_turn, other_turn, place, waits_after, IsIdle, idle_after, value_turn, value_room, idle_turn, trailing_turn, waiting_turn, named_turn, valued_turn, unknown_turn}

-- ---- the faults of all words, and where the walk ends

unfoldable pub end_fault : Text → List Rule → Held → Kinds
end_fault name c h = or_else (settle_fault c false h) (or_else (defaults_fault (settled c h).rows c) (check_fault (leaf name c) (finished c h) false))

unfoldable pub total : Text → List Rule → Walk → List Text → Kinds
total name c w [] = end_fault name c w.held
total name c w (word ∷ words) = or_else (turn_fault (leaf name c) [] w word) (total name c (walked c [] w word) words)

unfoldable pub last : List Rule → Walk → List Text → Walk
last c w words = fold (walked c []) w words

or_else_assoc : (a b d : Kinds) → or_else (or_else a b) d ≡ or_else a (or_else b d)
or_else_assoc a b d = grind arith

pub or_else_first : (a b : Kinds) → or_else a b ≡ [] → a ≡ []
or_else_first a b h = grind arith

pub or_else_second : (a b : Kinds) → or_else a b ≡ [] → b ≡ []
or_else_second a b h = grind arith

pub or_else_both : (a b : Kinds) → a ≡ [] → b ≡ [] → or_else a b ≡ []
or_else_both a b none h = ap (λ (x : Kinds). or_else x b) none ∙ h

walk_total : (name : Text) (c : List Rule) (w : Walk) (words : List Text)
    → or_else (walk_fault (leaf name c) [] w words) (end_fault name c (fold (walked c []) w words).held) ≡ total name c w words
unfolding walk_fault total
walk_total name c w [] = refl
walk_total name c w (word ∷ words) =
    or_else_assoc (turn_fault (leaf name c) [] w word) (walk_fault (leaf name c) [] (walked c [] w word) words) (end_fault name c (fold (walked c []) (walked c [] w word) words).held)
    ∙ ap (or_else (turn_fault (leaf name c) [] w word)) (walk_total name c (walked c [] w word) words)

-- the faults of a level with no subcommand
pub level_total : (name : Text) (c : List Rule) (words : List Text) → level_fault (leaf name c) [] nothing_held words false [] ≡ total name c (walk_from nothing_held) words
unfolding end_fault
level_total name c words = walk_total name c (walk_from nothing_held) words

-- one word, and then the others
pub turn_reported : (name : Text) (c : List Rule) (w : Walk) (word : Text) (words : List Text) (fault : Kinds) (after : Walk) → Turn name c w word fault after
    → total name c w (word ∷ words) ≡ [] → (fault ≡ []) × (total name c after words ≡ [])
unfolding total
turn_reported name c w word words fault after t h = grind (arith, or_else_first, leaf, or_else_second)

pub turn_done : (name : Text) (c : List Rule) (w : Walk) (word : Text) (words : List Text) (fault : Kinds) (after : Walk) → Turn name c w word fault after
    → fault ≡ [] → total name c after words ≡ [] → total name c w (word ∷ words) ≡ []
unfolding total
turn_done name c w word words fault after t none h =
    or_else_both (turn_fault (leaf name c) [] w word) (total name c (walked c [] w word) words) (t.fault_is ∙ none) (ap (λ (x : Walk). total name c x words) t.after_is ∙ h)

pub turn_last : (name : Text) (c : List Rule) (w : Walk) (word : Text) (words : List Text) (fault : Kinds) (after : Walk) → Turn name c w word fault after
    → last c w (word ∷ words) ≡ last c after words
unfolding last
turn_last name c w word words fault after t = ap (λ (x : Walk). fold (walked c []) x words) t.after_is

-- ---- the end of the words

no_default_faults : (c : List Rule) (rows : List Row) → list_all (λ a. is_empty a.defaults) c ≡ true → defaults_fault rows c ≡ []
unfolding defaults_fault
no_default_faults [] rows all = refl
no_default_faults (a ∷ c) rows all = grind (arith, and_parts, or_else_both, no_default_faults c)

no_defaults_join : (c : List Rule) (rows : List Row) → list_all (λ a. is_empty a.defaults) c ≡ true → fold with_default rows c ≡ rows
no_defaults_join [] rows all = refl
no_defaults_join (a ∷ c) rows all = grind (arith, and_parts, is_nil, no_defaults_join c)

-- the rows at the end are those of the walk
pub finished_rows : (c : List Rule) (many has : Bool) → IsForm c many has → (h : Held) → finished c h ≡ (settled c h).rows
finished_rows c many has f h = no_defaults_join c (settled c h).rows f.no_defaults

-- the last step passes where an operand is there
pub end_passes : (name : Text) (c : List Rule) (many has : Bool) → IsForm c many has → (h : Held) → settle_fault c false h ≡ [] → is_given operand_id (settled c h).rows ≡ true
    → end_fault name c h ≡ []
unfolding end_fault
end_passes name c many has f h settles there =
    or_else_both (settle_fault c false h) _ settles
    (or_else_both (defaults_fault (settled c h).rows c) (check_fault (leaf name c) (finished c h) false) (no_default_faults c (settled c h).rows f.no_defaults)
    (ap (λ (rows : List Row). check_fault (leaf name c) rows false) (finished_rows c many has f h)
    ∙ ap (λ (b : Bool). if b then kind.MissingRequiredArgument ∷ [] else []) (f.wants (settled c h).rows ∙ ap not there)))

-- ---- what is taken are options and operands

-- the words are these pieces and perhaps `--`, and what they give is found at the end of the walk
pub record Took (c : List Rule) (has : Bool) (words : List Text) (options : List (OptionName × Text)) (operands : List Text) (end : Walk) : Type 0 where
  pub pieces : List Piece
  pub rest : Option (List Text)
  pub words_are : words ≡ flat_map piece_words pieces ++ rest_words rest
  pub allowed : has ≡ false → filter_map option_of pieces ≡ []
  pub found : AreFound (settled c end.held).rows (options ++ filter_map option_of pieces) (operands ++ (filter_map operand_of pieces ++ unwrap_or rest []))

-- a walk that may go on finds these options and operands so far
unfoldable pub Finds : List Rule → List Row → Option (Text × List Text) → List (OptionName × Text) → List Text → Type 0
Finds c rows pending options operands = settle_fault c false (holding rows pending) ≡ [] → AreFound (settled_rows c pending rows) options operands

-- after `--`
RestTells : Text → List Rule → Bool → List Text → Type 0
RestTells name c many words =
    (rows : List Row) (pending : Option (Text × List Text)) (waiting : Waiting) (options : List (OptionName × Text)) (operands : List Text) → Finds c rows pending options operands
    → total name c (walk_at rows pending waiting (place many operands) true) words ≡ []
    → (settle_fault c false (holding rows pending) ≡ [])
    × AreFound (settled c (last c (walk_at rows pending waiting (place many operands) true) words).held).rows options (operands ++ words)

OpenTells : Text → List Rule → Bool → Bool → List Text → Type 0
OpenTells name c many has words =
    (rows : List Row) (pending : Option (Text × List Text)) (waiting : Waiting) (options : List (OptionName × Text)) (operands : List Text) → IsIdle waiting → Finds c rows pending options operands
    → total name c (walk_at rows pending waiting (place many operands) false) words ≡ []
    → Took c has words options operands (last c (walk_at rows pending waiting (place many operands) false) words)

-- where an option waits for its value
WaitTells : Text → List Rule → Bool → Bool → List Text → Type 0
WaitTells name c many has words =
    (option_name : OptionName) (rows : List Row) (options : List (OptionName × Text)) (operands : List Text) → has ≡ true → AreFound rows options operands
    → total name c (walk_at rows (Some (option_id option_name, [])) (option (option_id option_name)) (place many operands) false) words ≡ []
    → (v : Text) × (more : List Text) × (words ≡ v ∷ more)
    × Took c has more (options ++ (option_name, v) ∷ []) operands (last c (walk_at rows (Some (option_id option_name, [])) (option (option_id option_name)) (place many operands) false) words)

-- the settling of what waits, as its use
pub settle_operand : (c : List Rule) (many has : Bool) → IsForm c many has → (rows : List Row) (word : Text)
    → settle_fault c false (holding rows (Some (operand_id, word ∷ []))) ≡ use_fault false (operand_built many) (word ∷ []) rows
settle_operand c many has f rows word = ap (λ (o : Option Rule). option_map_or (λ a. use_fault false a (word ∷ []) rows) o []) f.operand_by_id

pub settled_operand : (c : List Rule) (many has : Bool) → IsForm c many has → (rows : List Row) (word : Text)
    → settled_rows c (Some (operand_id, word ∷ [])) rows ≡ used (operand_built many) (word ∷ []) rows
settled_operand c many has f rows word = ap (λ (o : Option Rule). used_by_id o (word ∷ []) rows) f.operand_by_id

pub settle_option : (c : List Rule) (many has : Bool) → IsForm c many has → has ≡ true → (name : OptionName) (rows : List Row) (values : List Text)
    → settle_fault c false (holding rows (Some (option_id name, values))) ≡ use_fault false (option_built name) values rows
settle_option c many has f offers name rows values = ap (λ (o : Option Rule). option_map_or (λ a. use_fault false a values rows) o []) (f.by_id offers name)

pub settled_option : (c : List Rule) (many has : Bool) → IsForm c many has → has ≡ true → (name : OptionName) (rows : List Row) (values : List Text)
    → settled_rows c (Some (option_id name, values)) rows ≡ used (option_built name) values rows
settled_option c many has f offers name rows values = ap (λ (o : Option Rule). used_by_id o values rows) (f.by_id offers name)

-- what an operand leaves
pub finds_operand : (c : List Rule) (many has : Bool) → IsForm c many has → (rows : List Row) (options : List (OptionName × Text)) (operands : List Text) (word : Text) → AreFound rows options operands
    → Finds c rows (Some (operand_id, word ∷ [])) options (operands ++ word ∷ [])
unfolding Finds
finds_operand c many has f rows options operands word found settles =
    subst (λ (rs : List Row). AreFound rs options (operands ++ word ∷ [])) (sym (settled_operand c many has f rows word))
    (found_operand many rows options operands word found (sym (settle_operand c many has f rows word) ∙ settles))

pub finds_option : (c : List Rule) (many has : Bool) → IsForm c many has → has ≡ true → (name : OptionName) (rows : List Row) (options : List (OptionName × Text)) (operands : List Text) (word : Text) → AreFound rows options operands
    → Finds c rows (Some (option_id name, word ∷ [])) (options ++ (name, word) ∷ []) operands
unfolding Finds
finds_option c many has f offers name rows options operands word found settles =
    subst (λ (rs : List Row). AreFound rs (options ++ (name, word) ∷ []) operands) (sym (settled_option c many has f offers name rows (word ∷ [])))
    (found_option rows options operands name word found (sym (settle_option c many has f offers name rows (word ∷ [])) ∙ settles))

-- ---- after `--`

rest_reported : (name : Text) (c : List Rule) (many has : Bool) → IsForm c many has → (words : List Text) → RestTells name c many words
unfolding RestTells Finds total end_fault last
rest_reported name c many has f [] rows pending waiting options operands finds h = grind (arith, or_else_first, holding, append-nil)
rest_reported name c many has f (word ∷ words) rows pending waiting options operands finds h =
    let t = trailing_turn name c rows pending waiting (place many operands) word in
    let first = turn_reported name c _ word words _ _ t h in
    let room = value_room name c many has f (holding rows pending) operands first.0 in
    let v = value_turn name c many has f rows pending waiting true operands word room t in
    let reported = turn_reported name c _ word words _ _ v h in
    let next = rest_reported name c many has f words (settled_rows c pending rows) (Some (operand_id, word ∷ [])) (waits_after many) options (operands ++ word ∷ [])
    (finds_operand c many has f (settled_rows c pending rows) options operands word (finds reported.0)) reported.1 in (
      reported.0,
      subst (λ (end : Walk). AreFound (settled c end.held).rows options (operands ++ word ∷ words)) (sym (turn_last name c _ word words _ _ v))
          (subst (λ (os : List Text). AreFound (settled c (last c (walk_at (settled_rows c pending rows) (Some (operand_id, word ∷ [])) (waits_after many) (place many (operands ++ word ∷ [])) true) words).held).rows options os)
          (append_assoc operands (word ∷ []) words) next.1),
    )

-- ---- before `--`

took_rest : (c : List Rule) (has : Bool) (words : List Text) (options : List (OptionName × Text)) (operands : List Text) (end : Walk)
    → AreFound (settled c end.held).rows options (operands ++ words) → Took c has (codes "--" ∷ words) options operands end
took_rest c has words options operands end found = record {
  pieces = [];
  rest = Some words;
  words_are = refl;
  allowed = λ no. refl;
  found = subst (λ (os : List (OptionName × Text)). AreFound (settled c end.held).rows os (operands ++ words)) (sym (append-nil options)) found;
}

took_apart : (c : List Rule) (has : Bool) (option_name : OptionName) (v : Text) (words : List Text) (options : List (OptionName × Text)) (operands : List Text) (end : Walk) → has ≡ true
    → Took c has words (options ++ (option_name, v) ∷ []) operands end → Took c has (name_word option_name ∷ v ∷ words) options operands end
took_apart c has option_name v words options operands end offers t = record {
  pieces = apart option_name v ∷ t.pieces;
  rest = t.rest;
  words_are = ap (λ (ws : List Text). name_word option_name ∷ v ∷ ws) t.words_are;
  allowed = λ no. absurd (true≢false (sym offers ∙ no));
  found = subst (λ (os : List (OptionName × Text)). AreFound (settled c end.held).rows os (operands ++ (filter_map operand_of t.pieces ++ unwrap_or t.rest [])))
      (append_assoc options ((option_name, v) ∷ []) (filter_map option_of t.pieces)) t.found;
}

took_joined : (c : List Rule) (has : Bool) (option_name : OptionName) (v : Text) (words : List Text) (options : List (OptionName × Text)) (operands : List Text) (end : Walk) → has ≡ true
    → Took c has words (options ++ (option_name, v) ∷ []) operands end → Took c has ((name_word option_name ++ codes "=" ++ v) ∷ words) options operands end
took_joined c has option_name v words options operands end offers t = record {
  pieces = joined option_name v ∷ t.pieces;
  rest = t.rest;
  words_are = ap (λ (ws : List Text). (name_word option_name ++ codes "=" ++ v) ∷ ws) t.words_are;
  allowed = λ no. absurd (true≢false (sym offers ∙ no));
  found = subst (λ (os : List (OptionName × Text)). AreFound (settled c end.held).rows os (operands ++ (filter_map operand_of t.pieces ++ unwrap_or t.rest [])))
      (append_assoc options ((option_name, v) ∷ []) (filter_map option_of t.pieces)) t.found;
}

took_operand : (c : List Rule) (has : Bool) (word : Text) (words : List Text) (options : List (OptionName × Text)) (operands : List Text) (end : Walk)
    → Took c has words options (operands ++ word ∷ []) end → Took c has (word ∷ words) options operands end
took_operand c has word words options operands end t = record {
  pieces = operand word ∷ t.pieces;
  rest = t.rest;
  words_are = ap (λ (ws : List Text). word ∷ ws) t.words_are;
  allowed = t.allowed;
  found = subst (λ (os : List Text). AreFound (settled c end.held).rows (options ++ filter_map option_of t.pieces) os)
      (append_assoc operands (word ∷ []) (filter_map operand_of t.pieces ++ unwrap_or t.rest [])) t.found;
}

-- an option that waits has no value yet
settle_waits : (c : List Rule) (many has : Bool) → IsForm c many has → has ≡ true → (option_name : OptionName) (rows : List Row)
    → settle_fault c false (holding rows (Some (option_id option_name, []))) ≡ [] → ⊥
settle_waits c many has f offers option_name rows h = let bad = sym h ∙ settle_option c many has f offers option_name rows [] in cc bad

named_by : (l : Text) (name : OptionName) (p q r s : Bool) → bytes_eq (codes "offset") l ≡ p → bytes_eq (codes "skew") l ≡ q → bytes_eq (codes "bits") l ≡ r → bytes_eq (codes "version") l ≡ s
    → option_named l ≡ Some name → l ≡ option_id name
named_by l name true q r s e1 e2 e3 e4 h = sym ((bytes_eq-Decides (codes "offset") l).0 e1) ∙ ap option_id (same_Some Offset name (rw e1 at h))
named_by l name false true r s e1 e2 e3 e4 h = sym ((bytes_eq-Decides (codes "skew") l).0 e2) ∙ ap option_id (same_Some Skew name (rw (e1, e2) at h))
named_by l name false false true s e1 e2 e3 e4 h = sym ((bytes_eq-Decides (codes "bits") l).0 e3) ∙ ap option_id (same_Some Bits name (rw (e1, e2, e3) at h))
named_by l name false false false true e1 e2 e3 e4 h = sym ((bytes_eq-Decides (codes "version") l).0 e4) ∙ ap option_id (same_Some Version name (rw (e1, e2, e3, e4) at h))
named_by l name false false false false e1 e2 e3 e4 h = absurd (none-some name (rw (e1, e2, e3, e4) at h))

-- a long name is one of an option, or the command has it not
Known : List Rule → Bool → Text → Type 0
Known c has l = (name : OptionName) × (l ≡ option_id name) × (has ≡ true) × (arg_by_long c (option_id name) ≡ Some (option_built name))

long_known : (c : List Rule) (many has : Bool) → IsForm c many has → (l : Text) → (arg_by_long c l ≡ None) ⊎ Known c has l
unfolding Known
long_known c many false f l = inl (f.by_long l)
long_known c many true f l = go (option_named l) refl
  where
    go : (o : Option OptionName) → option_named l ≡ o → (arg_by_long c l ≡ None) ⊎ Known c true l
    go None e = inl (f.by_long l ∙ ap (option_map option_built) e)
    go (Some name) e =
        let same = named_by l name _ _ _ _ refl refl refl refl e in
        inr (name, same, refl, ap (arg_by_long c) (sym same) ∙ f.by_long l ∙ ap (option_map option_built) e)

text_named : (name : OptionName) → long_text (option_id name) None ≡ name_word name
text_named name = grind arith

text_valued : (name : OptionName) (v : Text) → long_text (option_id name) (Some v) ≡ name_word name ++ codes "=" ++ v
text_valued name v = grind arith

-- a word of a long name
open_long : (name : Text) (c : List Rule) (many has : Bool) → IsForm c many has → (rows : List Row) (pending : Option (Text × List Text)) (waiting : Waiting) (options : List (OptionName × Text)) (operands : List Text)
    (word : Text) (words : List Text) → Finds c rows pending options operands
    → total name c (walk_at rows pending waiting (place many operands) false) (word ∷ words) ≡ []
    → OpenTells name c many has words → WaitTells name c many has words → bytes_eq word (codes "--") ≡ false
    → (l : Text) (v : Option Text) → long_of word ≡ Some (l, v) → (arg_by_long c l ≡ None) ⊎ Known c has l
    → Took c has (word ∷ words) options operands (last c (walk_at rows pending waiting (place many operands) false) (word ∷ words))
unfolding Known Finds OpenTells WaitTells total
open_long name c many has f rows pending waiting options operands word words finds h opens waits dashes l v is (inl unknown) =
    absurd (unknown_turn name c rows pending waiting (place many operands) word l v dashes is unknown (or_else_first (turn_fault (leaf name c) [] (walk_at rows pending waiting (place many operands) false) word) _ h))
open_long name c many has f rows pending waiting options operands word words finds h opens waits dashes l None is (inr k) =
    let here : long_of word ≡ Some (option_id k.0, None) = is ∙ ap (λ (t : Text). Some (t, None)) k.1 in
    let t = named_turn name c k.0 rows pending waiting (place many operands) word dashes here k.3 in
    let reported = turn_reported name c _ word words _ _ t h in
    let w = waits k.0 (settled_rows c pending rows) options operands k.2 (finds reported.0) reported.1 in
    let spelled : word ≡ name_word k.0 = long_reported word (option_id k.0) None here ∙ text_named k.0 in
    subst (λ (end : Walk). Took c has (word ∷ words) options operands end) (sym (turn_last name c _ word words _ _ t))
    (subst (λ (x : Text). Took c has (x ∷ words) options operands (last c (walk_at (settled_rows c pending rows) (Some (option_id k.0, [])) (option (option_id k.0)) (place many operands) false) words)) (sym spelled)
    (subst (λ (ws : List Text). Took c has (name_word k.0 ∷ ws) options operands (last c (walk_at (settled_rows c pending rows) (Some (option_id k.0, [])) (option (option_id k.0)) (place many operands) false) words)) (sym w.2)
    (took_apart c has k.0 w.0 w.1 options operands _ k.2 w.3)))
open_long name c many has f rows pending waiting options operands word words finds h opens waits dashes l (Some v) is (inr k) =
    let here : long_of word ≡ Some (option_id k.0, Some v) = is ∙ ap (λ (t : Text). Some (t, Some v)) k.1 in
    let t = valued_turn name c k.0 rows pending waiting (place many operands) word v dashes here k.3 in
    let reported = turn_reported name c _ word words _ _ t h in
    let settles = or_else_first (settle_fault c false (holding rows pending)) _ reported.0 in
    let fits = or_else_second (settle_fault c false (holding rows pending)) _ reported.0 in
    let next = opens (used (option_built k.0) (v ∷ []) (settled_rows c pending rows)) None idle (options ++ (k.0, v) ∷ []) operands tt
    (λ s. found_option (settled_rows c pending rows) options operands k.0 v (finds settles) fits) reported.1 in
    let spelled : word ≡ name_word k.0 ++ codes "=" ++ v = long_reported word (option_id k.0) (Some v) here ∙ text_valued k.0 v in
    subst (λ (end : Walk). Took c has (word ∷ words) options operands end) (sym (turn_last name c _ word words _ _ t))
    (subst (λ (x : Text). Took c has (x ∷ words) options operands (last c (walk_at (used (option_built k.0) (v ∷ []) (settled_rows c pending rows)) None idle (place many operands) false) words)) (sym spelled)
    (took_joined c has k.0 v words options operands _ k.2 next))

-- any other word
open_other : (name : Text) (c : List Rule) (many has : Bool) → IsForm c many has → (rows : List Row) (pending : Option (Text × List Text)) (waiting : Waiting) (options : List (OptionName × Text)) (operands : List Text)
    (word : Text) (words : List Text) → IsIdle waiting → Finds c rows pending options operands
    → total name c (walk_at rows pending waiting (place many operands) false) (word ∷ words) ≡ []
    → OpenTells name c many has words → bytes_eq word (codes "--") ≡ false → long_of word ≡ None
    → Took c has (word ∷ words) options operands (last c (walk_at rows pending waiting (place many operands) false) (word ∷ words))
unfolding Finds OpenTells total
open_other name c many has f rows pending waiting options operands word words is finds h opens dashes long =
    let passes = or_else_first (turn_fault (leaf name c) [] (walk_at rows pending waiting (place many operands) false) word) _ h in
    let t = idle_turn name c rows pending waiting (place many operands) word is (other_turn name c rows pending waiting (place many operands) word f.by_short dashes long passes) in
    let first = turn_reported name c _ word words _ _ t h in
    let room = value_room name c many has f (holding rows pending) operands first.0 in
    let v = value_turn name c many has f rows pending waiting false operands word room t in
    let reported = turn_reported name c _ word words _ _ v h in
    let next = opens (settled_rows c pending rows) (Some (operand_id, word ∷ [])) (waits_after many) options (operands ++ word ∷ []) (idle_after many)
    (finds_operand c many has f (settled_rows c pending rows) options operands word (finds reported.0)) reported.1 in
    subst (λ (end : Walk). Took c has (word ∷ words) options operands end) (sym (turn_last name c _ word words _ _ v)) (took_operand c has word words options operands _ next)

open_by : (name : Text) (c : List Rule) (many has : Bool) → IsForm c many has → (rows : List Row) (pending : Option (Text × List Text)) (waiting : Waiting) (options : List (OptionName × Text)) (operands : List Text)
    (word : Text) (words : List Text) → IsIdle waiting → Finds c rows pending options operands
    → total name c (walk_at rows pending waiting (place many operands) false) (word ∷ words) ≡ []
    → OpenTells name c many has words → WaitTells name c many has words
    → (dashes : Bool) → bytes_eq word (codes "--") ≡ dashes → (long : Option (Text × Option Text)) → long_of word ≡ long
    → Took c has (word ∷ words) options operands (last c (walk_at rows pending waiting (place many operands) false) (word ∷ words))
unfolding Finds RestTells
open_by name c many has f rows pending waiting options operands word words is finds h opens waits false d None e = open_other name c many has f rows pending waiting options operands word words is finds h opens d e
open_by name c many has f rows pending waiting options operands word words is finds h opens waits false d (Some p) e =
    open_long name c many has f rows pending waiting options operands word words finds h opens waits d p.0 p.1 e (long_known c many has f p.0)
open_by name c many has f rows pending waiting options operands word words is finds h opens waits true d long e =
    let same : codes "--" ≡ word = sym ((bytes_eq-Decides word (codes "--")).0 d) in
    let t = rest_turn name c rows pending waiting (place many operands) in
    let h2 = subst (λ (x : Text). total name c (walk_at rows pending waiting (place many operands) false) (x ∷ words) ≡ []) (sym same) h in
    let reported = turn_reported name c _ (codes "--") words _ _ t h2 in
    let next = rest_reported name c many has f words rows pending waiting options operands finds reported.1 in
    subst (λ (x : Text). Took c has (x ∷ words) options operands (last c (walk_at rows pending waiting (place many operands) false) (x ∷ words))) same
    (subst (λ (end : Walk). Took c has (codes "--" ∷ words) options operands end) (sym (turn_last name c _ (codes "--") words _ _ t)) (took_rest c has words options operands _ next.1))

-- the value of an option that waits
wait_by : (name : Text) (c : List Rule) (many has : Bool) → IsForm c many has → (option_name : OptionName) (rows : List Row) (options : List (OptionName × Text)) (operands : List Text)
    (word : Text) (words : List Text) → has ≡ true → AreFound rows options operands
    → total name c (walk_at rows (Some (option_id option_name, [])) (option (option_id option_name)) (place many operands) false) (word ∷ words) ≡ []
    → OpenTells name c many has words
    → (dashes : Bool) → bytes_eq word (codes "--") ≡ dashes → (long : Option (Text × Option Text)) → long_of word ≡ long
    → Took c has words (options ++ (option_name, word) ∷ []) operands (last c (walk_at rows (Some (option_id option_name, [])) (option (option_id option_name)) (place many operands) false) (word ∷ words))
unfolding Finds OpenTells RestTells Known total
wait_by name c many has f option_name rows options operands word words offers found h opens true d long e =
    let h2 = subst (λ (x : Text). total name c (walk_at rows (Some (option_id option_name, [])) (option (option_id option_name)) (place many operands) false) (x ∷ words) ≡ []) ((bytes_eq-Decides word (codes "--")).0 d) h in
    let reported = turn_reported name c _ (codes "--") words _ _ (rest_turn name c rows (Some (option_id option_name, [])) (option (option_id option_name)) (place many operands)) h2 in
    let next = rest_reported name c many has f words rows (Some (option_id option_name, [])) (option (option_id option_name)) options operands
    (λ s. absurd (settle_waits c many has f offers option_name rows s)) reported.1 in
    absurd (settle_waits c many has f offers option_name rows next.0)
wait_by name c many has f option_name rows options operands word words offers found h opens false d (Some p) e =
    let passes = or_else_first (turn_fault (leaf name c) [] (walk_at rows (Some (option_id option_name, [])) (option (option_id option_name)) (place many operands) false) word) _ h in
    absurd (wait_long p.0 p.1 e (long_known c many has f p.0) passes)
  where
    wait_long : (l : Text) (v : Option Text) → long_of word ≡ Some (l, v) → (arg_by_long c l ≡ None) ⊎ Known c has l
        → turn_fault (leaf name c) [] (walk_at rows (Some (option_id option_name, [])) (option (option_id option_name)) (place many operands) false) word ≡ [] → ⊥
    wait_long l v is (inl unknown) passes = unknown_turn name c rows (Some (option_id option_name, [])) (option (option_id option_name)) (place many operands) word l v d is unknown passes
    wait_long l None is (inr k) passes = grind (arith, named_turn, place, settle_waits)
    wait_long l (Some v) is (inr k) passes = grind (arith, valued_turn, place, settle_waits, or_else_first, holding)
wait_by name c many has f option_name rows options operands word words offers found h opens false d None e =
    let passes = or_else_first (turn_fault (leaf name c) [] (walk_at rows (Some (option_id option_name, [])) (option (option_id option_name)) (place many operands) false) word) _ h in
    let t = waiting_turn name c option_name rows (place many operands) word (f.by_id offers option_name)
    (other_turn name c rows (Some (option_id option_name, [])) (option (option_id option_name)) (place many operands) word f.by_short d e passes) in
    let reported = turn_reported name c _ word words _ _ t h in
    let next = opens rows (Some (option_id option_name, word ∷ [])) idle (options ++ (option_name, word) ∷ []) operands tt
    (finds_option c many has f offers option_name rows options operands word found) reported.1 in
    subst (λ (end : Walk). Took c has words (options ++ (option_name, word) ∷ []) operands end) (sym (turn_last name c _ word words _ _ t)) next

Tells : Text → List Rule → Bool → Bool → List Text → Type 0
Tells name c many has words = OpenTells name c many has words × WaitTells name c many has words

all_tell : (name : Text) (c : List Rule) (many has : Bool) → IsForm c many has → (words : List Text) → Tells name c many has words
unfolding Tells OpenTells WaitTells Finds total end_fault last
all_tell name c many has f [] = (
  λ rows pending waiting options operands is finds h.
      let settles = or_else_first (settle_fault c false (holding rows pending)) _ h in
      record {
        pieces = [];
        rest = None;
        words_are = refl;
        allowed = λ no. refl;
        found = subst (λ (os : List (OptionName × Text)). AreFound (settled_rows c pending rows) os (operands ++ [])) (sym (append-nil options))
            (subst (λ (os : List Text). AreFound (settled_rows c pending rows) options os) (sym (append-nil operands)) (finds settles));
      },
  λ option_name rows options operands offers found h. absurd (settle_waits c many has f offers option_name rows (or_else_first (settle_fault c false (holding rows (Some (option_id option_name, [])))) _ h)),
)
all_tell name c many has f (word ∷ words) =
    let t = all_tell name c many has f words in (
      λ rows pending waiting options operands is finds h.
          open_by name c many has f rows pending waiting options operands word words is finds h t.0 t.1 (bytes_eq word (codes "--")) refl (long_of word) refl,
      λ option_name rows options operands offers found h.
          (word, words, refl, wait_by name c many has f option_name rows options operands word words offers found h t.0 (bytes_eq word (codes "--")) refl (long_of word) refl),
    )

-- what a command takes are options and operands, and these are found
pub taken : (name : Text) (c : List Rule) (many has : Bool) → IsForm c many has → (words : List Text) → total name c (walk_from nothing_held) words ≡ []
    → Took c has words [] [] (last c (walk_from nothing_held) words)
unfolding Tells OpenTells Finds
taken name c true has f words h = (all_tell name c true has f words).0 [] None idle [] [] tt (λ s. nothing_found) h
taken name c false has f words h = (all_tell name c false has f words).0 [] None idle [] [] tt (λ s. nothing_found) h
