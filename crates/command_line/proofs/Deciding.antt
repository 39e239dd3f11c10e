-- Words are taken by `clap`, and read as a command, exactly where the grammar has them.
use Rattle.std.proofs.Common.{◌≡◌, ◌∙◌, ◌⊎◌, inl, inr, sym, ap, refl, subst, arith, Bool, true, false, ◌==◌, ℕ, ◌+◌, ◌<◌, List, [], ◌∷◌, ◌++◌, length, codes, Option, Some, None, true≢false}
use Rattle.std.specs.Prelude.{if◌then◌else◌, unwrap_or, MatchOption, IfOk, Result, Ok, Err}
use Rattle.outside_io.specs.declared.NoMemory.{NoMemory}
use Rattle.std.specs.List.{flat_map, filter_map, cons_option, list_all}
use Rattle.std.specs.Str.Parse.{starts_with_minus}
use Rattle.std.proofs.lemmas.Option.{same_Some}
use Rattle.std.proofs.lemmas.Grind.{common_steps}
use Rattle.std.proofs.lemmas.Bool.{and_parts}
use Rattle.clap.specs.Walk.{Row, idle, nothing_held, walk_from, walked, rows_after, arg_by_long}
use Rattle.clap.specs.Faults.{fault_of, level_fault}
use Rattle.clap.specs.Simple.{subcommand_of}
use Rattle.command_line.specs.Numbers.{number_of, is_digit, IsNumber, digit_text}
use Rattle.command_line.specs.Damages.{AreDamages}
use Rattle.command_line.specs.Grammar.{Text, Piece, apart, joined, operand, piece_words, ArePlain, option_of, operand_of, rest_words, is_same, values_of, listed, AreArranged}
use Rattle.command_line.specs.Commands.{IsOffset, AreSkews, IsLimit, IsVersion, IsTap, Means, IsCommand}
use Rattle.command_line.specs.Forms.{option_id, vabgrot, AreFound, Judges}
use Rattle.command_line.specs.declared.options.OptionName.{OptionName}
use Rattle.command_line.specs.declared.options.OptionName.TheVariants.{Offset, Skew, Bits, Version}
use Rattle.command_line.specs.declared.damage.DamageWord.{DamageWord}
use Rattle.command_line.specs.declared.tap.TapWords.{TapWords}
use Rattle.command_line.specs.declared.command.Command.{Command}
use Rattle.command_line.specs.declared.command.Command.TheVariants.{MakeLink, MakeContent, MakeDvi, RecoverLink, RecoverContent, RecoverTrack, RecoverRelock, RecoverContentRelock, RecoverBiphase, RecoverDvi, Check, Damage, Slip, ReadBiphase, Relay, Sample}
use Rattle.command_line.proofs.Triples.{digits_are}
use Rattle.command_line.proofs.FoundRows.{option_built, is_itself, nothing_found}
use Rattle.command_line.proofs.Turns.{IsForm, leaf, walk_at, place}
use Rattle.command_line.proofs.Takings.{last, level_total, finished_rows, taken}
use Rattle.command_line.proofs.Accepting.{AreFew, Once, Accepts, pieces_found}
use Rattle.command_line.proofs.Programs.{make_form, single_form, several_form, make_long, Sub, to_make, to_recover, to_check, to_damage, to_slip, to_read, to_relay, to_sample, sub_name, sub_rules, sub_fault, sub_rows}
use Rattle.command_line.proofs.Names.{named_words}
use Rattle.command_line.proofs.Checking.{IsBare, bare_reported, arranged_bare, bare_passes}

-- ---- what is taken

-- a command's name, options and operands, with what is found of them
pub record Accepted (words : List Text) : Type 0 where
  pub name : Text
  pub after : List Text
  pub rows : List Row
  pub pieces : List Piece
  pub rest : Option (List Text)
  pub words_are : words ≡ name ∷ after
  pub rows_are : subcommand_of vabgrot words ≡ Some (name, rows)
  pub after_are : after ≡ flat_map piece_words pieces ++ rest_words rest
  pub allowed : (name ≡ codes "make") ⊎ (filter_map option_of pieces ≡ [])
  pub found : AreFound rows (filter_map option_of pieces) (filter_map operand_of pieces ++ unwrap_or rest [])

form_taken : (s : Sub) (after : List Text) (many has : Bool) → IsForm (sub_rules s) many has → (has ≡ true → sub_name s ≡ codes "make")
    → fault_of vabgrot (sub_name s ∷ after) ≡ [] → Accepted (sub_name s ∷ after)
unfolding last
form_taken s after many has f named h =
    let faults = sym (level_total (sub_name s) (sub_rules s) after) ∙ sym (sub_fault s after) ∙ h in
    let took = taken (sub_name s) (sub_rules s) many has f after faults in
    record {
      name = sub_name s;
      after = after;
      rows = rows_after (sub_rules s) [] after;
      pieces = took.pieces;
      rest = took.rest;
      words_are = refl;
      rows_are = sub_rows s after;
      after_are = took.words_are;
      allowed = allows has refl took.allowed;
      found = subst (λ (rows : List Row). AreFound rows (filter_map option_of took.pieces) (filter_map operand_of took.pieces ++ unwrap_or took.rest []))
          (sym (finished_rows (sub_rules s) many has f (last (sub_rules s) (walk_from nothing_held) after).held)) took.found;
    }
  where
    allows : {P : Type 0} (b : Bool) → has ≡ b → (has ≡ false → P) → (sub_name s ≡ codes "make") ⊎ P
    allows true e forbids = inl (named e)
    allows false e forbids = inr (forbids e)

-- a name that takes no operands and no options
bare_taken : (name : Text) (after : List Text) → ((words : List Text) → subcommand_of vabgrot (name ∷ words) ≡ Some (name, rows_after [] [] words)) → IsBare after → Accepted (name ∷ after)
unfolding IsBare walked
bare_taken name after found is = go after is
  where
    bare : (rest : Option (List Text)) (words : List Text) → words ≡ rest_words rest → [] ≡ unwrap_or rest [] → rows_after [] [] words ≡ [] → Accepted (name ∷ words)
    bare rest words e none rows = record {
      name = name;
      after = words;
      rows = rows_after [] [] words;
      pieces = [];
      rest = rest;
      words_are = refl;
      rows_are = found words;
      after_are = e;
      allowed = inr refl;
      found = subst (λ (os : List Text). AreFound (rows_after [] [] words) [] os) none (subst (λ (rs : List Row). AreFound rs [] []) (sym rows) nothing_found);
    }

    go : (words : List Text) → (words ≡ []) ⊎ (words ≡ codes "--" ∷ []) → Accepted (name ∷ words)
    go words (inl e) = subst (λ (ws : List Text). Accepted (name ∷ ws)) (sym e) (bare None [] refl refl refl)
    go words (inr e) = subst (λ (ws : List Text). Accepted (name ∷ ws)) (sym e) (bare (Some []) (codes "--" ∷ []) refl refl refl)

sub_taken : (s : Sub) (after : List Text) → fault_of vabgrot (sub_name s ∷ after) ≡ [] → Accepted (sub_name s ∷ after)
sub_taken to_make after h = form_taken to_make after false true make_form (λ e. refl) h
sub_taken to_recover after h = form_taken to_recover after true false several_form (λ e. absurd (true≢false (sym e))) h
sub_taken to_check after h = bare_taken (codes "check") after (sub_rows to_check) (bare_reported (codes "check") after (sym (sub_fault to_check after) ∙ h))
sub_taken to_damage after h = form_taken to_damage after true false several_form (λ e. absurd (true≢false (sym e))) h
sub_taken to_slip after h = form_taken to_slip after false false single_form (λ e. absurd (true≢false (sym e))) h
sub_taken to_read after h = form_taken to_read after false false single_form (λ e. absurd (true≢false (sym e))) h
sub_taken to_relay after h = bare_taken (codes "relay") after (sub_rows to_relay) (bare_reported (codes "relay") after (sym (sub_fault to_relay after) ∙ h))
sub_taken to_sample after h = form_taken to_sample after false false single_form (λ e. absurd (true≢false (sym e))) h

pub accepted : (words : List Text) → fault_of vabgrot words ≡ [] → Accepted words
accepted words h =
    let n = named_words words h in
    subst Accepted (sym n.words_are) (sub_taken n.sub n.after (subst (λ (ws : List Text). fault_of vabgrot ws ≡ []) n.words_are h))

-- ---- what the grammar has is taken

-- the words of a command are taken, and its options and operands are found
IsTaken : Sub → List Text → List (OptionName × Text) → List Text → Type 0
IsTaken s after options operands = (fault_of vabgrot (sub_name s ∷ after) ≡ []) × AreFound (rows_after (sub_rules s) [] after) options operands

form_found : (s : Sub) (after : List Text) (options : List (OptionName × Text)) (operands : List Text) (many has : Bool) → IsForm (sub_rules s) many has → AreArranged after options operands
    → ((has ≡ true) × ((n : OptionName) → arg_by_long (sub_rules s) (option_id n) ≡ Some (option_built n))) ⊎ (options ≡ []) → Once options → AreFew many operands
    → Accepts (sub_name s) (sub_rules s) (walk_from nothing_held) after options operands → IsTaken s after options operands
unfolding IsTaken Accepts last
form_found s after options operands many has f a offers once few accepts = grind (arith, sub_fault, level_total, sub_name, sub_rules, finished_rows, last)

accepts_by : (s : Sub) (after : List Text) (options : List (OptionName × Text)) (operands : List Text) (many has : Bool) → IsForm (sub_rules s) many has → AreArranged after options operands
    → ((has ≡ true) × ((n : OptionName) → arg_by_long (sub_rules s) (option_id n) ≡ Some (option_built n))) ⊎ (options ≡ []) → Once options → AreFew many operands
    → Accepts (sub_name s) (sub_rules s) (walk_at [] None idle (place many []) false) after options operands
accepts_by s after options operands many has f a offers once few =
    subst (λ (ws : List Text). Accepts (sub_name s) (sub_rules s) (walk_at [] None idle (place many []) false) ws options operands) (sym a.words_are)
    (subst (λ (os : List (OptionName × Text)). Accepts (sub_name s) (sub_rules s) (walk_at [] None idle (place many []) false) (flat_map piece_words a.pieces ++ rest_words a.rest) os operands) (sym a.options_are)
    (subst (λ (os : List Text). Accepts (sub_name s) (sub_rules s) (walk_at [] None idle (place many []) false) (flat_map piece_words a.pieces ++ rest_words a.rest) (filter_map option_of a.pieces) os) (sym a.operands_are)
    (pieces_found (sub_name s) (sub_rules s) many has f a.pieces a.rest [] None idle [] [] tt refl nothing_found a.plain (offered offers)
    (subst Once a.options_are once) (subst (AreFew many) a.operands_are few))))
  where
    offered : ((has ≡ true) × ((n : OptionName) → arg_by_long (sub_rules s) (option_id n) ≡ Some (option_built n))) ⊎ (options ≡ [])
        → ((has ≡ true) × ((n : OptionName) → arg_by_long (sub_rules s) (option_id n) ≡ Some (option_built n))) ⊎ (filter_map option_of a.pieces ≡ [])
    offered (inl o) = inl o
    offered (inr e) = inr (sym a.options_are ∙ e)

no_options_once : (options : List (OptionName × Text)) → options ≡ [] → Once options
unfolding Once
no_options_once options e = λ name. (None, ap (values_of name) e)

tap_once : (options : List (OptionName × Text)) (tap : TapWords) → IsTap options tap → Once options
unfolding Once
tap_once options tap is Offset = (is.offset_text, is.offset_given)
tap_once options tap is Skew = (is.skew_text, is.skew_given)
tap_once options tap is Bits = (is.bits_text, is.bits_given)
tap_once options tap is Version = (is.version_text, is.version_given)

one_operand : (operands : List Text) (o : Text) → operands ≡ o ∷ [] → AreFew false operands
one_operand operands o e = record { first = o; others = []; operands_are = e; few = inr refl }

front_operand : (operands : List Text) (o : Text) (os : List Text) → operands ≡ o ∷ os → AreFew true operands
front_operand operands o os e = record { first = o; others = os; operands_are = e; few = inl refl }

some_operands : (operands : List Text) → 0 < length operands → AreFew true operands
some_operands [] some = absurd (omega (arith, some))
some_operands (o ∷ os) some = record { first = o; others = os; operands_are = refl; few = inl refl }

make_found : (after : List Text) (options : List (OptionName × Text)) (operands : List Text) (o : Text) (tap : TapWords) → AreArranged after options operands → operands ≡ o ∷ [] → IsTap options tap → IsTaken to_make after options operands
make_found after options operands o tap a one is =
    let few = one_operand operands o one in
    form_found to_make after options operands false true make_form a (inl (refl, make_long)) (tap_once options tap is) few
    (accepts_by to_make after options operands false true make_form a (inl (refl, make_long)) (tap_once options tap is) few)

-- operands and no options
operands_found : (s : Sub) (many : Bool) (after : List Text) (options : List (OptionName × Text)) (operands : List Text) → IsForm (sub_rules s) many false → AreArranged after options operands → AreFew many operands
    → options ≡ [] → IsTaken s after options operands
operands_found s true after options operands f a few none =
    form_found s after options operands true false f a (inr none) (no_options_once options none) few
    (accepts_by s after options operands true false f a (inr none) (no_options_once options none) few)
operands_found s false after options operands f a few none =
    form_found s after options operands false false f a (inr none) (no_options_once options none) few
    (accepts_by s after options operands false false f a (inr none) (no_options_once options none) few)

-- neither operands nor options
bare_found : (name : Text) (after : List Text) (options : List (OptionName × Text)) (operands : List Text)
    → ((words : List Text) → fault_of vabgrot (name ∷ words) ≡ level_fault (leaf name []) [] nothing_held words false [])
    → AreArranged after options operands → operands ≡ [] → options ≡ [] → (fault_of vabgrot (name ∷ after) ≡ []) × AreFound (rows_after [] [] after) options operands
unfolding IsBare walked
bare_found name after options operands fault a bare none =
    let plain = subst (λ (os : List (OptionName × Text)). AreArranged after os []) none (subst (λ (os : List Text). AreArranged after options os) bare a) in
    let is = arranged_bare after plain in (
      fault after ∙ bare_passes name after is,
      subst (λ (os : List (OptionName × Text)). AreFound (rows_after [] [] after) os operands) (sym none)
          (subst (λ (os : List Text). AreFound (rows_after [] [] after) [] os) (sym bare) (subst (λ (rs : List Row). AreFound rs [] []) (sym (rows after is)) nothing_found)),
    )
  where
    rows : (words : List Text) → (words ≡ []) ⊎ (words ≡ codes "--" ∷ []) → rows_after [] [] words ≡ []
    rows words (inl e) = ap (rows_after [] []) e
    rows words (inr e) = ap (rows_after [] []) e

check_found : (after : List Text) (options : List (OptionName × Text)) (operands : List Text) → AreArranged after options operands → operands ≡ [] → options ≡ [] → IsTaken to_check after options operands
unfolding IsTaken
check_found after options operands a bare none = bare_found (codes "check") after options operands (sub_fault to_check) a bare none

relay_found : (after : List Text) (options : List (OptionName × Text)) (operands : List Text) → AreArranged after options operands → operands ≡ [] → options ≡ [] → IsTaken to_relay after options operands
unfolding IsTaken
relay_found after options operands a bare none = bare_found (codes "relay") after options operands (sub_fault to_relay) a bare none

-- the words of a command are taken
pub record Reads (words : List Text) (name : Text) (options : List (OptionName × Text)) (operands : List Text) : Type 0 where
  pub rows : List Row
  pub passes : fault_of vabgrot words ≡ []
  pub rows_are : subcommand_of vabgrot words ≡ Some (name, rows)
  pub found : AreFound rows options operands
  pub allowed : (name ≡ codes "make") ⊎ (options ≡ [])

reads : (s : Sub) (words : List Text) (name : Text) (after : List Text) (options : List (OptionName × Text)) (operands : List Text) → words ≡ name ∷ after → name ≡ sub_name s → IsTaken s after options operands
    → (name ≡ codes "make") ⊎ (options ≡ []) → Reads words name options operands
unfolding IsTaken
reads s words name after options operands words_are is t allowed = grind (arith, sub_name, sub_rules, sub_rows)

reads_by : (words : List Text) (name : Text) (after : List Text) (options : List (OptionName × Text)) (operands : List Text) (c : Command) → words ≡ name ∷ after → AreArranged after options operands
    → Means c name options operands → Reads words name options operands
reads_by words name after options operands (MakeLink tap) is a m =
    reads to_make words name after options operands is m.0 (make_found after options operands (codes "link") tap a m.1 m.2) (inl m.0)
reads_by words name after options operands (MakeContent tap) is a m =
    reads to_make words name after options operands is m.0 (make_found after options operands (codes "content") tap a m.1 m.2) (inl m.0)
reads_by words name after options operands (MakeDvi tap) is a m =
    reads to_make words name after options operands is m.0 (make_found after options operands (codes "dvi") tap a m.1 m.2) (inl m.0)
reads_by words name after options operands RecoverLink is a m =
    reads to_recover words name after options operands is m.0 (operands_found to_recover true after options operands several_form a (front_operand operands (codes "link") [] m.1) m.2) (inr m.2)
reads_by words name after options operands RecoverContent is a m =
    reads to_recover words name after options operands is m.0 (operands_found to_recover true after options operands several_form a (front_operand operands (codes "content") [] m.1) m.2) (inr m.2)
reads_by words name after options operands RecoverTrack is a m =
    reads to_recover words name after options operands is m.0 (operands_found to_recover true after options operands several_form a (front_operand operands (codes "track") [] m.1) m.2) (inr m.2)
reads_by words name after options operands RecoverRelock is a m =
    reads to_recover words name after options operands is m.0 (operands_found to_recover true after options operands several_form a (front_operand operands (codes "relock") [] m.1) m.2) (inr m.2)
reads_by words name after options operands RecoverContentRelock is a m =
    reads to_recover words name after options operands is m.0 (operands_found to_recover true after options operands several_form a (front_operand operands (codes "content") (codes "relock" ∷ []) m.1) m.2) (inr m.2)
reads_by words name after options operands (RecoverBiphase k) is a m =
    reads to_recover words name after options operands is m.0 (operands_found to_recover true after options operands several_form a (front_operand operands (codes "biphase") (digit_text k ∷ []) m.1.0) m.2) (inr m.2)
reads_by words name after options operands RecoverDvi is a m =
    reads to_recover words name after options operands is m.0 (operands_found to_recover true after options operands several_form a (front_operand operands (codes "dvi") [] m.1) m.2) (inr m.2)
reads_by words name after options operands Check is a m =
    reads to_check words name after options operands is m.0 (check_found after options operands a m.1 m.2) (inr m.2)
reads_by words name after options operands (Damage damages) is a m =
    reads to_damage words name after options operands is m.0 (operands_found to_damage true after options operands several_form a (some_operands operands m.1.1) m.2) (inr m.2)
reads_by words name after options operands (Slip slip) is a m =
    reads to_slip words name after options operands is m.0 (operands_found to_slip false after options operands single_form a (one_operand operands m.1.0 m.1.1) m.2) (inr m.2)
reads_by words name after options operands ReadBiphase is a m =
    reads to_read words name after options operands is m.0 (operands_found to_read false after options operands single_form a (one_operand operands (codes "biphase") m.1) m.2) (inr m.2)
reads_by words name after options operands Relay is a m =
    reads to_relay words name after options operands is m.0 (relay_found after options operands a m.1 m.2) (inr m.2)
reads_by words name after options operands (Sample n) is a m =
    reads to_sample words name after options operands is m.0 (operands_found to_sample false after options operands single_form a (one_operand operands m.1.0 m.1.1) m.2) (inr m.2)

pub command_reads : (words : List Text) (c : Command) (k : IsCommand words c) → Reads words k.name k.options k.operands
command_reads words c k = reads_by words k.name k.after k.options k.operands c k.words_are k.arranged k.means

-- ---- values that are read begin with no `-`

ValuesPlain : List (OptionName × Text) → Type 0
ValuesPlain [] = Unit {0}
ValuesPlain (o ∷ os) = (starts_with_minus o.1 ≡ false) × ValuesPlain os

TextsPlain : List Text → Type 0
TextsPlain [] = Unit {0}
TextsPlain (t ∷ ts) = (starts_with_minus t ≡ false) × TextsPlain ts

digit_plain : (x : ℕ) → is_digit x ≡ true → (x == 45) ≡ false
digit_plain x h = grind (arith, common_steps)

digits_plain : (t second third : Text) (n : ℕ) → number_of t ≡ Some n → starts_with_minus (t ++ codes "," ++ second ++ codes "," ++ third) ≡ false
digits_plain [] second third n h = refl
digits_plain (x ∷ xs) second third n h = digit_plain x (and_parts (is_digit x) (list_all is_digit xs) (digits_are (x ∷ xs) n h)).0

number_plain : (most : ℕ) (t : Text) (n : ℕ) → IsNumber most t n → starts_with_minus t ≡ false
number_plain most [] n is = refl
number_plain most (x ∷ xs) n is = digit_plain x (and_parts (is_digit x) (list_all is_digit xs) (digits_are (x ∷ xs) n is.digits)).0

digit_first_plain : (n : ℕ) (rest : Text) → starts_with_minus ((48 + n) ∷ rest) ≡ false
digit_first_plain n rest = grind (arith, common_steps)

damages_plain : (ts : List Text) (damages : List DamageWord) → AreDamages ts damages → TextsPlain ts
unfolding TextsPlain
damages_plain [] [] are = tt
damages_plain [] (d ∷ ds) are = tt
damages_plain (t ∷ ts) [] are = absurd are
damages_plain (t ∷ ts) (d ∷ ds) are = grind (arith, digit_first_plain, damages_plain ts ds)

offset_plain : (o : Option Text) (n : ℕ) → IsOffset o n → TextsPlain (listed o)
unfolding TextsPlain
offset_plain None n is = tt
offset_plain (Some t) n is = (number_plain 4294967295 t n is, tt)

skews_plain : (o : Option Text) (n : List ℕ) → AreSkews o n → TextsPlain (listed o)
unfolding TextsPlain
skews_plain o n h = grind (arith, digits_plain)

limit_plain : (o : Option Text) (n : Option ℕ) → IsLimit o n → TextsPlain (listed o)
unfolding TextsPlain
limit_plain None n is = tt
limit_plain (Some t) n is = (number_plain 4294967295 t is.0 is.1, tt)

version_plain : (o : Option Text) (n : ℕ) → IsVersion o n → TextsPlain (listed o)
unfolding TextsPlain
version_plain None n is = tt
version_plain (Some t) n is = (number_plain 2 t n is.0, tt)

each_plain : (options : List (OptionName × Text)) → ((name : OptionName) → TextsPlain (values_of name options)) → ValuesPlain options
unfolding ValuesPlain TextsPlain
each_plain [] h = tt
each_plain (o ∷ os) h =
    let own : values_of o.0 (o ∷ os) ≡ o.1 ∷ values_of o.0 os = ap (λ (b : Bool). cons_option (if b then Some o.1 else None) (values_of o.0 os)) (is_itself o.0) in
    let here = subst TextsPlain own (h o.0) in
    (here.0, each_plain os (λ name. drop_one (is_same name o.0) (values_of name os) (h name)))
  where
    drop_one : (b : Bool) (vs : List Text) → TextsPlain (cons_option (if b then Some o.1 else None) vs) → TextsPlain vs
    drop_one true vs h = h.1
    drop_one false vs h = h

tap_plain : (options : List (OptionName × Text)) (tap : TapWords) → IsTap options tap → ValuesPlain options
tap_plain options tap is = each_plain options by
  where
    by : (name : OptionName) → TextsPlain (values_of name options)
    by Offset = subst TextsPlain (sym is.offset_given) (offset_plain is.offset_text tap.offset is.offset)
    by Skew = subst TextsPlain (sym is.skew_given) (skews_plain is.skew_text tap.skews is.skews)
    by Bits = subst TextsPlain (sym is.bits_given) (limit_plain is.bits_text tap.bits is.bits)
    by Version = subst TextsPlain (sym is.version_given) (version_plain is.version_text tap.version is.version)

no_values_plain : (options : List (OptionName × Text)) → options ≡ [] → ValuesPlain options
unfolding ValuesPlain
no_values_plain options e = subst ValuesPlain (sym e) tt

one_text_plain : (operands : List Text) (t : Text) → operands ≡ t ∷ [] → starts_with_minus t ≡ false → TextsPlain operands
unfolding TextsPlain
one_text_plain operands t e plain = subst TextsPlain (sym e) (plain, tt)

means_plain : (c : Command) (name : Text) (options : List (OptionName × Text)) (operands : List Text) → Means c name options operands → ValuesPlain options × TextsPlain operands
unfolding TextsPlain
means_plain (MakeLink tap) name options operands m = (tap_plain options tap m.2, one_text_plain operands (codes "link") m.1 refl)
means_plain (MakeContent tap) name options operands m = (tap_plain options tap m.2, one_text_plain operands (codes "content") m.1 refl)
means_plain (MakeDvi tap) name options operands m = (tap_plain options tap m.2, one_text_plain operands (codes "dvi") m.1 refl)
means_plain RecoverLink name options operands m = (no_values_plain options m.2, one_text_plain operands (codes "link") m.1 refl)
means_plain RecoverContent name options operands m = (no_values_plain options m.2, one_text_plain operands (codes "content") m.1 refl)
means_plain RecoverTrack name options operands m = (no_values_plain options m.2, one_text_plain operands (codes "track") m.1 refl)
means_plain RecoverRelock name options operands m = (no_values_plain options m.2, one_text_plain operands (codes "relock") m.1 refl)
means_plain RecoverContentRelock name options operands m = (no_values_plain options m.2, subst TextsPlain (sym m.1) (refl, (refl, tt)))
means_plain (RecoverBiphase k) name options operands m = (no_values_plain options m.2, subst TextsPlain (sym m.1.0) (refl, (digit_first_plain k [], tt)))
means_plain RecoverDvi name options operands m = (no_values_plain options m.2, one_text_plain operands (codes "dvi") m.1 refl)
means_plain Check name options operands m = (no_values_plain options m.2, subst TextsPlain (sym m.1) tt)
means_plain (Damage damages) name options operands m = (no_values_plain options m.2, damages_plain operands damages m.1.0)
means_plain (Slip slip) name options operands m = grind (arith, no_values_plain, one_text_plain, digit_first_plain)
means_plain ReadBiphase name options operands m = (no_values_plain options m.2, one_text_plain operands (codes "biphase") m.1 refl)
means_plain Relay name options operands m = (no_values_plain options m.2, subst TextsPlain (sym m.1) tt)
means_plain (Sample n) name options operands m = (no_values_plain options m.2, one_text_plain operands m.1.0 m.1.1 (number_plain 20 m.1.0 n m.1.2))

texts_front : (xs ys : List Text) → TextsPlain (xs ++ ys) → TextsPlain xs
unfolding TextsPlain
texts_front [] ys h = tt
texts_front (x ∷ xs) ys h = (h.0, texts_front xs ys h.1)

pieces_plain : (pieces : List Piece) → ValuesPlain (filter_map option_of pieces) → TextsPlain (filter_map operand_of pieces) → ArePlain pieces
unfolding ValuesPlain TextsPlain
pieces_plain [] v t = tt
pieces_plain (apart n x ∷ pieces) v t = (v.0, pieces_plain pieces v.1 t)
pieces_plain (joined n x ∷ pieces) v t = (v.0, pieces_plain pieces v.1 t)
pieces_plain (operand w ∷ pieces) v t = (t.0, pieces_plain pieces v t.1)

-- ---- the answer

pub judged : (words : List Text) (a : Accepted words) (r : Option Command) → Judges a.name a.rows r
    → MatchOption r ((c : Command) → IsCommand words c → ⊥) (λ c. IsCommand words c)
judged words a (Some c) j =
    let m = j (filter_map option_of a.pieces) (filter_map operand_of a.pieces ++ unwrap_or a.rest []) a.found a.allowed in
    grind (arith, means_plain, pieces_plain, texts_front)
judged words a None j = λ c k.
    let r = command_reads words c k in
    grind (arith, same_Some)

-- words that are refused are no command
pub refused : (words : List Text) (c : Command) → IsCommand words c → (fault_of vabgrot words ≡ [] → ⊥) → ⊥
refused words c k faults = faults (command_reads words c k).passes

pub answered : (words : List Text) (a : Accepted words) (r : Result (Option Command) NoMemory) → IfOk r (Judges a.name a.rows)
    → IfOk r (λ answer. MatchOption answer ((c : Command) → IsCommand words c → ⊥) (λ c. IsCommand words c))
answered words a (Ok r) j = judged words a r j
answered words a (Err e) j = tt
