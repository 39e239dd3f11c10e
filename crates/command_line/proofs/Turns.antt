-- What one word does to a walk over the words after a command's name.
use Rattle.clap.specs.Lexer.{long_of, short_of}
use Rattle.std.proofs.Common.{arith, ◌≡◌, ◌∙◌, ◌⊎◌, sym, ap, refl, Bool, true, false, ◌&&◌, ◌||◌, not, ℕ, List, [], ◌∷◌, ◌++◌, codes, Option, Some, None, bytes_eq}
use Rattle.std.specs.Prelude.{if◌then◌else◌, option_map}
use Rattle.std.specs.Option.{option_map_or}
use Rattle.std.specs.List.{list_all, list_any}
use Rattle.clap.specs.Kinds.{Kinds, or_else}
use Rattle.clap.specs.Walk.{Row, Rule, Held, Walk, Waiting, idle, option, positional, Step, value, used, settled, settled_rows, walked, to_positional, after_step, after_flag, plain_word, long_or_other, long_met, short_or_plain, arg_by_long, arg_by_short, arg_by_id, arg_by_index, is_empty, bundle_met, pushed, trailing}
use Rattle.clap.specs.Takes.{is_given}
use Rattle.clap.specs.Faults.{use_fault, settle_fault, turn_fault, step_fault, flag_word_fault, long_fault, bundle_fault, flags_fault}
use Rattle.clap.specs.Simple.{Shape}
use Rattle.command_line.specs.Grammar.{Text}
use Rattle.command_line.specs.Forms.{option_id, operand_id}
use Rattle.command_line.specs.declared.options.OptionName.{OptionName}
use Rattle.command_line.specs.declared.options.OptionName.TheVariants.{Offset, Skew, Bits, Version}
use Rattle.command_line.proofs.FoundRows.{same_id, option_built, operand_built}

-- ---- a command

-- a built command of no subcommands, with these arguments
abbrev pub leaf : Text → List Rule → Shape
leaf name c = record {
  name = name;
  aliases = [];
  rules = c;
  is_plain = true;
  is_leaf = true;
  no_binary_name = true;
  disable_help_flag = true;
  disable_help_subcommand = true;
  disable_version_flag = true;
  propagate_version = false;
  has_version = false;
  has_long_version = false;
  args_override_self = false;
  arg_required_else_help = false;
  subcommand_required = false;
  subcommand_negates_reqs = false;
  is_built = true;
}

-- the option of a name without dashes
abbrev pub option_named : Text → Option OptionName
option_named name =
    if bytes_eq (codes "offset") name then Some Offset
    else if bytes_eq (codes "skew") name then Some Skew
    else if bytes_eq (codes "bits") name then Some Bits
    else if bytes_eq (codes "version") name then Some Version
    else None

-- the arguments are one operand, or several, and perhaps the four options
pub record IsForm (c : List Rule) (many has_options : Bool) : Type 0 where
  pub by_long : (name : Text) → arg_by_long c name ≡ option_map option_built (if has_options then option_named name else None)
  pub by_short : (x : ℕ) → arg_by_short c x ≡ None
  pub by_id : has_options ≡ true → (name : OptionName) → arg_by_id c (option_id name) ≡ Some (option_built name)
  pub operand_by_id : arg_by_id c operand_id ≡ Some (operand_built many)
  pub first : arg_by_index c 1 ≡ Some (operand_built many)
  pub second : many ≡ false → arg_by_index c 2 ≡ None
  pub no_defaults : list_all (λ a. is_empty a.defaults) c ≡ true
  pub wants : (rows : List Row) → list_any (λ a. a.required && not (is_given a.id rows)) c ≡ not (is_given operand_id rows)

-- ---- where a walk stands

abbrev pub holding : List Row → Option (Text × List Text) → Held
holding rows pending = record { rows = rows; pending = pending; skip = 0 }

abbrev pub walk_at : List Row → Option (Text × List Text) → Waiting → ℕ → Bool → Walk
walk_at rows pending waiting position past =
    record { held = holding rows pending; waiting = waiting; position = position; is_trailing = past; stopped = None }

-- what a word does: its fault, and where the walk stands after it
pub record Turn (name : Text) (c : List Rule) (w : Walk) (word : Text) (fault : Kinds) (after : Walk) : Type 0 where
  pub fault_is : turn_fault (leaf name c) [] w word ≡ fault
  pub after_is : walked c [] w word ≡ after

-- `--`
pub rest_turn : (name : Text) (c : List Rule) (rows : List Row) (pending : Option (Text × List Text)) (waiting : Waiting) (position : ℕ)
    → Turn name c (walk_at rows pending waiting position false) (codes "--") [] (walk_at rows pending waiting position true)
unfolding walked
rest_turn name c rows pending waiting position = grind arith

-- ---- a word of a long name

abbrev met_by : List Rule → Waiting → Text → Held → ℕ → Bool → Option (Text × Option Text) → Held × Step
met_by c waiting word h position rest long = if rest then (h, trailing position) else long_or_other c waiting word long h

abbrev fault_by : Text → List Rule → Waiting → Text → Held → ℕ → Bool → Option (Text × Option Text) → Kinds
fault_by name c waiting word h position rest long =
    let met = met_by c waiting word h position rest long in
    or_else (if rest then [] else flag_word_fault c false long word h) (step_fault (leaf name c) position met.0 met.1)

abbrev after_by : List Rule → Waiting → Text → List Row → Option (Text × List Text) → ℕ → Bool → Option (Text × Option Text) → Walk
after_by c waiting word rows pending position rest long =
    let met = met_by c waiting word (holding rows pending) position rest long in
    after_step c word (walk_at rows pending waiting position false) met.0 met.1

-- the turn of a word, by what it looks like
word_turn : (name : Text) (c : List Rule) (rows : List Row) (pending : Option (Text × List Text)) (waiting : Waiting) (position : ℕ) (word : Text)
    → Turn name c (walk_at rows pending waiting position false) word (fault_by name c waiting word (holding rows pending) position (bytes_eq word (codes "--")) (long_of word))
    (after_by c waiting word rows pending position (bytes_eq word (codes "--")) (long_of word))
unfolding walked
word_turn name c rows pending waiting position word = grind arith

pub turn_as : (name : Text) (c : List Rule) (w : Walk) (word : Text) (a b : Kinds) (x y : Walk) → a ≡ b → x ≡ y → Turn name c w word a x → Turn name c w word b y
turn_as name c w word a b x y e f t = record { fault_is = t.fault_is ∙ e; after_is = t.after_is ∙ f }

-- a long name that the command has
pub long_turn : (name : Text) (c : List Rule) (rows : List Row) (pending : Option (Text × List Text)) (waiting : Waiting) (position : ℕ) (word long : Text) (v : Option Text) (o : Option Rule)
    → bytes_eq word (codes "--") ≡ false → long_of word ≡ Some (long, v) → arg_by_long c long ≡ o
    → Turn name c (walk_at rows pending waiting position false) word
    (or_else (long_fault c false o v (holding rows pending))
    (step_fault (leaf name c) position (after_flag c waiting word (long_met c o v (holding rows pending)).0 (long_met c o v (holding rows pending)).1).0
    (after_flag c waiting word (long_met c o v (holding rows pending)).0 (long_met c o v (holding rows pending)).1).1))
    (after_step c word (walk_at rows pending waiting position false) (after_flag c waiting word (long_met c o v (holding rows pending)).0 (long_met c o v (holding rows pending)).1).0
    (after_flag c waiting word (long_met c o v (holding rows pending)).0 (long_met c o v (holding rows pending)).1).1)
long_turn name c rows pending waiting position word long v o dashes is has =
    turn_as name c (walk_at rows pending waiting position false) word _ _ _ _
    ((λ i. fault_by name c waiting word (holding rows pending) position (dashes i) (is i))
    ∙ ap (λ (r : Option Rule). or_else (long_fault c false r v (holding rows pending))
    (step_fault (leaf name c) position (after_flag c waiting word (long_met c r v (holding rows pending)).0 (long_met c r v (holding rows pending)).1).0
    (after_flag c waiting word (long_met c r v (holding rows pending)).0 (long_met c r v (holding rows pending)).1).1)) has)
    ((λ i. after_by c waiting word rows pending position (dashes i) (is i))
    ∙ ap (λ (r : Option Rule). after_step c word (walk_at rows pending waiting position false) (after_flag c waiting word (long_met c r v (holding rows pending)).0 (long_met c r v (holding rows pending)).1).0
    (after_flag c waiting word (long_met c r v (holding rows pending)).0 (long_met c r v (holding rows pending)).1).1) has)
    (word_turn name c rows pending waiting position word)

-- ---- a word of no long name

-- the turn of a word that is taken as it stands
abbrev pub plain_fault : Text → List Rule → Waiting → Text → Held → ℕ → Kinds
plain_fault name c waiting word h position = step_fault (leaf name c) position (plain_word c waiting word h).0 (plain_word c waiting word h).1

abbrev pub plain_after : List Rule → Waiting → Text → List Row → Option (Text × List Text) → ℕ → Walk
plain_after c waiting word rows pending position =
    after_step c word (walk_at rows pending waiting position false) (plain_word c waiting word (holding rows pending)).0 (plain_word c waiting word (holding rows pending)).1

pub plain_turn : (name : Text) (c : List Rule) (rows : List Row) (pending : Option (Text × List Text)) (waiting : Waiting) (position : ℕ) (word : Text)
    → bytes_eq word (codes "--") ≡ false → long_of word ≡ None → short_of word ≡ None
    → Turn name c (walk_at rows pending waiting position false) word (plain_fault name c waiting word (holding rows pending) position) (plain_after c waiting word rows pending position)
plain_turn name c rows pending waiting position word dashes long short =
    turn_as name c (walk_at rows pending waiting position false) word _ _ _ _
    ((λ i. fault_by name c waiting word (holding rows pending) position (dashes i) (long i))
    ∙ ap (λ (o : Option Text). or_else (option_map_or (λ flags. bundle_fault c false flags (holding rows pending)) o [])
    (step_fault (leaf name c) position (short_or_plain c waiting word o (holding rows pending)).0 (short_or_plain c waiting word o (holding rows pending)).1)) short)
    ((λ i. after_by c waiting word rows pending position (dashes i) (long i))
    ∙ ap (λ (o : Option Text). after_step c word (walk_at rows pending waiting position false) (short_or_plain c waiting word o (holding rows pending)).0 (short_or_plain c waiting word o (holding rows pending)).1) short)
    (word_turn name c rows pending waiting position word)

flags_turn : (name : Text) (c : List Rule) (rows : List Row) (pending : Option (Text × List Text)) (waiting : Waiting) (position : ℕ) (word flags : Text)
    → ((x : ℕ) → arg_by_short c x ≡ None) → turn_fault (leaf name c) [] (walk_at rows pending waiting position false) word ≡ []
    → Turn name c (walk_at rows pending waiting position false) word
    (or_else (bundle_fault c false flags (holding rows pending))
    (step_fault (leaf name c) position (short_or_plain c waiting word (Some flags) (holding rows pending)).0 (short_or_plain c waiting word (Some flags) (holding rows pending)).1))
    (after_step c word (walk_at rows pending waiting position false) (short_or_plain c waiting word (Some flags) (holding rows pending)).0 (short_or_plain c waiting word (Some flags) (holding rows pending)).1)
    → Turn name c (walk_at rows pending waiting position false) word (plain_fault name c waiting word (holding rows pending) position) (plain_after c waiting word rows pending position)
unfolding flags_fault bundle_met
flags_turn name c rows pending waiting position word [] none passes t = t
flags_turn name c rows pending waiting position word (f ∷ fs) none passes t = grind (arith, turn_as)

-- a word of no long name, and not `--`, is taken as it stands where it is taken
pub other_turn : (name : Text) (c : List Rule) (rows : List Row) (pending : Option (Text × List Text)) (waiting : Waiting) (position : ℕ) (word : Text)
    → ((x : ℕ) → arg_by_short c x ≡ None) → bytes_eq word (codes "--") ≡ false → long_of word ≡ None
    → turn_fault (leaf name c) [] (walk_at rows pending waiting position false) word ≡ []
    → Turn name c (walk_at rows pending waiting position false) word (plain_fault name c waiting word (holding rows pending) position) (plain_after c waiting word rows pending position)
other_turn name c rows pending waiting position word none dashes long passes = grind (arith, plain_turn, flags_turn, turn_as, word_turn)

-- ---- operands

or_false : (b : Bool) → (b || false) ≡ b
or_false b = grind arith

pub or_else_nil : (a : Kinds) → or_else a [] ≡ a
or_else_nil a = grind arith

-- where the next operand goes
abbrev pub place : Bool → List Text → ℕ
place true operands = 1
place false [] = 1
place false (o ∷ os) = 2

-- what waits after an operand
abbrev pub waits_after : Bool → Waiting
waits_after true = positional
waits_after false = idle

abbrev pub IsIdle : Waiting → Type 0
IsIdle idle = Unit {0}
IsIdle (option id) = ⊥
IsIdle positional = Unit {0}

pub idle_after : (many : Bool) → IsIdle (waits_after many)
idle_after many = grind arith

held_after : (b : Bool) (word : Text) (c : List Rule) (rows : List Row) (pending : Option (Text × List Text))
    → pushed operand_id word (if b && false then holding rows pending else settled c (holding rows pending)) ≡ holding (settled_rows c pending rows) (Some (operand_id, word ∷ []))
held_after b word c rows pending = grind arith

fault_after : (b : Bool) (a : Kinds) → (if b && false then [] else a) ≡ a
fault_after b a = grind arith

-- an operand that has a place
abbrev pub value_fault : Text → List Rule → ℕ → Held → Kinds
value_fault name c position h = step_fault (leaf name c) position h value

abbrev pub value_walk : List Rule → Text → List Row → Option (Text × List Text) → Waiting → ℕ → Bool → Walk
value_walk c word rows pending waiting position past = to_positional c (arg_by_index c position) word (walk_at rows pending waiting position past) (holding rows pending)

-- the same, after these operands
pub value_turn : (name : Text) (c : List Rule) (many has : Bool) (f : IsForm c many has) (rows : List Row) (pending : Option (Text × List Text)) (waiting : Waiting) (past : Bool) (operands : List Text) (word : Text)
    → (many ≡ true) ⊎ (operands ≡ [])
    → Turn name c (walk_at rows pending waiting (place many operands) past) word (value_fault name c (place many operands) (holding rows pending)) (value_walk c word rows pending waiting (place many operands) past)
    → Turn name c (walk_at rows pending waiting (place many operands) past) word (settle_fault c false (holding rows pending))
    (walk_at (settled_rows c pending rows) (Some (operand_id, word ∷ [])) (waits_after many) (place many (operands ++ word ∷ [])) past)
value_turn name c many has f rows pending waiting past operands word h k = grind (arith, turn_as, fault_after, operand_built, held_after, or_false)

-- an operand that is taken has a place
pub value_room : (name : Text) (c : List Rule) (many has : Bool) (f : IsForm c many has) (h : Held) (operands : List Text) → value_fault name c (place many operands) h ≡ []
    → (many ≡ true) ⊎ (operands ≡ [])
value_room name c many has f h operands k = grind arith

-- a word that is taken as it stands, where no option waits
pub idle_turn : (name : Text) (c : List Rule) (rows : List Row) (pending : Option (Text × List Text)) (waiting : Waiting) (position : ℕ) (word : Text) → IsIdle waiting
    → Turn name c (walk_at rows pending waiting position false) word (plain_fault name c waiting word (holding rows pending) position) (plain_after c waiting word rows pending position)
    → Turn name c (walk_at rows pending waiting position false) word (value_fault name c position (holding rows pending)) (value_walk c word rows pending waiting position false)
idle_turn name c rows pending waiting position word h k = grind arith

-- a word after `--`
pub trailing_turn : (name : Text) (c : List Rule) (rows : List Row) (pending : Option (Text × List Text)) (waiting : Waiting) (position : ℕ) (word : Text)
    → Turn name c (walk_at rows pending waiting position true) word (value_fault name c position (holding rows pending)) (value_walk c word rows pending waiting position true)
unfolding walked
trailing_turn name c rows pending waiting position word = record { fault_is = refl; after_is = refl }

-- the value of the option that waits
pub waiting_turn : (name : Text) (c : List Rule) (option_name : OptionName) (rows : List Row) (position : ℕ) (word : Text) → arg_by_id c (option_id option_name) ≡ Some (option_built option_name)
    → Turn name c (walk_at rows (Some (option_id option_name, [])) (option (option_id option_name)) position false) word
    (plain_fault name c (option (option_id option_name)) word (holding rows (Some (option_id option_name, []))) position)
    (plain_after c (option (option_id option_name)) word rows (Some (option_id option_name, [])) position)
    → Turn name c (walk_at rows (Some (option_id option_name, [])) (option (option_id option_name)) position false) word []
    (walk_at rows (Some (option_id option_name, word ∷ [])) idle position false)
waiting_turn name c option_name rows position word known t = grind (arith, turn_as, same_id)

-- `--name`
pub named_turn : (name : Text) (c : List Rule) (option_name : OptionName) (rows : List Row) (pending : Option (Text × List Text)) (waiting : Waiting) (position : ℕ) (word : Text)
    → bytes_eq word (codes "--") ≡ false → long_of word ≡ Some (option_id option_name, None) → arg_by_long c (option_id option_name) ≡ Some (option_built option_name)
    → Turn name c (walk_at rows pending waiting position false) word (settle_fault c false (holding rows pending))
    (walk_at (settled_rows c pending rows) (Some (option_id option_name, [])) (option (option_id option_name)) position false)
named_turn name c option_name rows pending waiting position word dashes is known =
    turn_as name c (walk_at rows pending waiting position false) word _ _ _ _ (or_else_nil (settle_fault c false (holding rows pending))) refl
    (long_turn name c rows pending waiting position word (option_id option_name) None (Some (option_built option_name)) dashes is known)

-- `--name=VALUE`
pub valued_turn : (name : Text) (c : List Rule) (option_name : OptionName) (rows : List Row) (pending : Option (Text × List Text)) (waiting : Waiting) (position : ℕ) (word v : Text)
    → bytes_eq word (codes "--") ≡ false → long_of word ≡ Some (option_id option_name, Some v) → arg_by_long c (option_id option_name) ≡ Some (option_built option_name)
    → Turn name c (walk_at rows pending waiting position false) word
    (or_else (settle_fault c false (holding rows pending)) (use_fault false (option_built option_name) (v ∷ []) (settled_rows c pending rows)))
    (walk_at (used (option_built option_name) (v ∷ []) (settled_rows c pending rows)) None idle position false)
valued_turn name c option_name rows pending waiting position word v dashes is known =
    turn_as name c (walk_at rows pending waiting position false) word _ _ _ _ (or_else_nil _) refl
    (long_turn name c rows pending waiting position word (option_id option_name) (Some v) (Some (option_built option_name)) dashes is known)

-- no other long name is taken
pub unknown_turn : (name : Text) (c : List Rule) (rows : List Row) (pending : Option (Text × List Text)) (waiting : Waiting) (position : ℕ) (word long : Text) (v : Option Text)
    → bytes_eq word (codes "--") ≡ false → long_of word ≡ Some (long, v) → arg_by_long c long ≡ None
    → turn_fault (leaf name c) [] (walk_at rows pending waiting position false) word ≡ [] → ⊥
unknown_turn name c rows pending waiting position word long v dashes is unknown h =
    let t = long_turn name c rows pending waiting position word long v None dashes is unknown in
    let bad = sym h ∙ t.fault_is in cc bad
