-- The commands of the program, as `clap` has them when they are built, and how it arrives at one.
use Rattle.std.proofs.Common.{arith, ◌≡◌, ◌∙◌, sym, ap, ap₂, refl, Bool, true, false, ◌||◌, not, List, [], ◌∷◌, ◌++◌, codes, Some, None, bytes_eq, true≢false, append_assoc, append-nil, fold, is_some}
use Rattle.std.specs.Prelude.{if◌then◌else◌, option_map}
use Rattle.clap.specs.Kinds.{Kinds, or_else}
use Rattle.clap.specs.Walk.{Rule, Walk, Names, settled, walked, finished, nothing_held, walk_from, walk, rows_after, arg_by_long, arg_by_id}
use Rattle.clap.specs.Takes.{is_given}
use Rattle.clap.specs.Faults.{fault_of, level_fault, entered_fault, walk_fault, settle_fault, defaults_fault, check_fault}
use Rattle.clap.specs.Simple.{App, built, entered, names_of, subcommand_of}
use Rattle.clap.proofs.FaultLemmas.{stopped_fault}
use Rattle.command_line.specs.Grammar.{Text}
use Rattle.command_line.specs.Forms.{option_id, operand_id, vabgrot}
use Rattle.command_line.specs.declared.options.OptionName.{OptionName}
use Rattle.command_line.specs.declared.options.OptionName.TheVariants.{Offset, Skew, Bits, Version}
use Rattle.command_line.proofs.FoundRows.{option_built, operand_built}
use Rattle.command_line.proofs.Turns.{leaf, IsForm, or_else_nil}

-- ---- the arguments

abbrev pub make_rules : List Rule
make_rules = operand_built false ∷ option_built Offset ∷ option_built Skew ∷ option_built Bits ∷ option_built Version ∷ []

abbrev pub single_rules : List Rule
single_rules = operand_built false ∷ []

abbrev pub several_rules : List Rule
several_rules = operand_built true ∷ []

or_false : (b : Bool) → (b || false) ≡ b
or_false b = grind arith

long_by : (a b c d : Bool)
    → (if a || false then Some (option_built Offset) else (if b || false then Some (option_built Skew) else (if c || false then Some (option_built Bits) else (if d || false then Some (option_built Version) else None))))
    ≡ option_map option_built (if a then Some Offset else if b then Some Skew else if c then Some Bits else if d then Some Version else None)
long_by a b c d = grind arith

make_by_id : (name : OptionName) → arg_by_id make_rules (option_id name) ≡ Some (option_built name)
make_by_id name = grind arith

pub make_form : IsForm make_rules false true
make_form = record {
  by_long = λ name. long_by (bytes_eq (codes "offset") name) (bytes_eq (codes "skew") name) (bytes_eq (codes "bits") name) (bytes_eq (codes "version") name);
  by_short = λ x. refl;
  by_id = λ offers name. make_by_id name;
  operand_by_id = refl;
  first = refl;
  second = λ one. refl;
  no_defaults = refl;
  wants = λ rows. or_false (not (is_given operand_id rows));
}

pub single_form : IsForm single_rules false false
single_form = record {
  by_long = λ name. refl;
  by_short = λ x. refl;
  by_id = λ offers name. absurd (true≢false (sym offers));
  operand_by_id = refl;
  first = refl;
  second = λ one. refl;
  no_defaults = refl;
  wants = λ rows. or_false (not (is_given operand_id rows));
}

pub several_form : IsForm several_rules true false
several_form = record {
  by_long = λ name. refl;
  by_short = λ x. refl;
  by_id = λ offers name. absurd (true≢false (sym offers));
  operand_by_id = refl;
  first = refl;
  second = λ one. absurd (true≢false one);
  no_defaults = refl;
  wants = λ rows. or_false (not (is_given operand_id rows));
}

pub make_long : (name : OptionName) → arg_by_long make_rules (option_id name) ≡ Some (option_built name)
make_long name = grind arith

-- ---- the commands

pub data Sub : Type 0 where
  to_make : Sub
  to_recover : Sub
  to_check : Sub
  to_damage : Sub
  to_slip : Sub
  to_read : Sub
  to_relay : Sub
  to_sample : Sub

abbrev pub sub_name : Sub → Text
sub_name to_make = codes "make"
sub_name to_recover = codes "recover"
sub_name to_check = codes "check"
sub_name to_damage = codes "damage"
sub_name to_slip = codes "slip"
sub_name to_read = codes "read"
sub_name to_relay = codes "relay"
sub_name to_sample = codes "sample"

abbrev pub sub_rules : Sub → List Rule
sub_rules to_make = make_rules
sub_rules to_recover = several_rules
sub_rules to_check = []
sub_rules to_damage = several_rules
sub_rules to_slip = single_rules
sub_rules to_read = single_rules
sub_rules to_relay = []
sub_rules to_sample = single_rules

abbrev pub whole : App
whole = built vabgrot

abbrev pub names : Names
names = names_of whole

-- a walk that has met a command keeps the words after it
stop_grows : (c : List Rule) (ns : Names) (w : Walk) (name : Text) (ws words : List Text)
    → fold (walked c ns) (record w { stopped = Some (name, ws) }) words ≡ record w { stopped = Some (name, ws ++ words) }
unfolding walked
stop_grows c ns w name ws [] = ap (λ (vs : List Text). record w { stopped = Some (name, vs) }) (sym (append-nil ws))
stop_grows c ns w name ws (word ∷ words) =
    stop_grows c ns w name (ws ++ word ∷ []) words ∙ ap (λ (vs : List Text). record w { stopped = Some (name, vs) }) (append_assoc ws (word ∷ []) words)

abbrev pub start : Walk
start = walk_from nothing_held

abbrev at_stop : Text → List Text → Walk
at_stop name words = record start { stopped = Some (name, words) }

first_word : (s : Sub) → walked [] names start (sub_name s) ≡ at_stop (sub_name s) []
unfolding walked
first_word s = grind arith

walk_is : (s : Sub) (after : List Text) → walk whole.top.rules names nothing_held (sub_name s ∷ after) ≡ at_stop (sub_name s) after
walk_is s after = ap (λ (w : Walk). fold (walked [] names) w after) (first_word s) ∙ stop_grows [] names start (sub_name s) [] after

walk_passes : (s : Sub) (after : List Text) → walk_fault whole.top names start (sub_name s ∷ after) ≡ []
unfolding walk_fault
walk_passes s after = grind (arith, first_word, stopped_fault)

abbrev fault_by : Walk → Kinds → Kinds
fault_by w k =
    or_else k (or_else (entered_fault whole w.stopped)
    (or_else (settle_fault [] false w.held) (or_else (defaults_fault (settled [] w.held).rows []) (check_fault whole.top (finished [] w.held) (is_some (entered whole w.stopped))))))

fault_is : (s : Sub) (after : List Text) → fault_by (at_stop (sub_name s) after) [] ≡ level_fault (leaf (sub_name s) (sub_rules s)) [] nothing_held after false []
unfolding defaults_fault
fault_is s after = grind (arith, or_else_nil, leaf)

-- the faults of a command are those of its own words
pub sub_fault : (s : Sub) (after : List Text) → fault_of vabgrot (sub_name s ∷ after) ≡ level_fault (leaf (sub_name s) (sub_rules s)) [] nothing_held after false []
sub_fault s after = ap₂ fault_by (walk_is s after) (walk_passes s after) ∙ fault_is s after

-- and so its matches
pub sub_rows : (s : Sub) (after : List Text) → subcommand_of vabgrot (sub_name s ∷ after) ≡ Some (sub_name s, rows_after (sub_rules s) [] after)
sub_rows s after = grind (arith, walk_is)
