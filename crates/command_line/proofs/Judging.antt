-- The command that is read of what `clap` found.
use Rattle.std.proofs.Common.{◌≡◌, ◌∙◌, ◌⊎◌, inl, inr, sym, ap, refl, subst, true, false, List, [], codes, Option, Some, None, Result, Ok, Err, IfOk, Bor, Box, box_value, map, option_map, unwrap_or, bytes_eq}
use Rattle.std.specs.Prelude.{MatchOption}
use Rattle.std.proofs.lemmas.Option.{none-some, same_Some}
use Rattle.clap.specs.Walk.{Row, rows_of}
use Rattle.clap.specs.Matches.{found_of, subcommand_name_of, raw_values, matched_of}
use Rattle.clap.specs.Simple.{App, HasMatchesOf, subcommand_rows, subcommand_rows_of, subcommand_of, is_simple}
use Rattle.clap.specs.Faults.{fault_of, is_simple_and_free}
use Rattle.clap.specs.declared.parser.matches.ArgMatches.{ArgMatches}
use Rattle.clap.specs.declared.parser.matches.ArgMatches.TheViews.{out-ArgMatches}
use Rattle.clap.specs.declared.parser.matches.Found.{Found}
use Rattle.clap.proofs.WalkLemmas.{raw_values-rows}
use Rattle.outside_io.specs.declared.NoMemory.{NoMemory}
use Rattle.command_line.specs.Grammar.{Text, texts}
use Rattle.command_line.specs.Commands.{Means}
use Rattle.command_line.specs.Forms.{operand_id, vabgrot, AreFound, HasOperands, Judges, IsParsed}
use Rattle.command_line.specs.declared.options.OptionName.{OptionName}
use Rattle.command_line.specs.declared.command.Command.{Command}
use Rattle.command_line.proofs.Meanings.{apart}
use Rattle.command_line.proofs.FoundRows.{operand_values}

-- the answer is the command of a name, options and operands
abbrev pub Judge : Option Command → Text → List (OptionName × Text) → List Text → Type 0
Judge r name options operands = MatchOption r ((c : Command) → Means c name options operands → ⊥) (λ c. Means c name options operands)

pub judge_as : (r : Option Command) (n m : Text) (o u : List (OptionName × Text)) (p q : List Text) → n ≡ m → o ≡ u → p ≡ q → Judge r n o p → Judge r m u q
judge_as r n m o u p q e f g j =
    subst (λ (x : List Text). Judge r m u x) g (subst (λ (x : List (OptionName × Text)). Judge r m x p) f (subst (λ (x : Text). Judge r x o p) e j))

none_but : (name : Text) (options : List (OptionName × Text)) → (name ≡ codes "make" → ⊥) → (name ≡ codes "make") ⊎ (options ≡ []) → [] ≡ options
none_but name options other (inl e) = absurd (other e)
none_but name options other (inr e) = sym e

-- a command that has no options
pub plain_judged : (r : Option Command) (name n : Text) (rows : List Row) (p : List Text) → n ≡ name → (name ≡ codes "make" → ⊥) → HasOperands rows p → Judge r n [] p → Judges name rows r
plain_judged r name n rows p is other finds j = λ options operands f allowed. judge_as r n name [] options p operands is (none_but name options other allowed) (finds options operands f) j

pub plain_answered : (r : Result (Option Command) NoMemory) (name n : Text) (rows : List Row) (p : List Text) → n ≡ name → (name ≡ codes "make" → ⊥) → HasOperands rows p → IfOk r (λ a. Judge a n [] p) → IfOk r (Judges name rows)
plain_answered (Ok a) name n rows p is other finds j = plain_judged a name n rows p is other finds j
plain_answered (Err e) name n rows p is other finds j = tt

pub not_make : (name other : Text) → name ≡ other → bytes_eq (codes "make") other ≡ false → name ≡ codes "make" → ⊥
not_make name other is differ e = apart (codes "make") other differ (sym e ∙ is)

pub make_judged : (r : Option Command) (name : Text) (rows : List Row) (p : List Text) → name ≡ codes "make" → HasOperands rows p
    → ((options : List (OptionName × Text)) (found : List Text) → AreFound rows options found → Judge r (codes "make") options p) → Judges name rows r
make_judged r name rows p is finds j = λ options operands f allowed. judge_as r (codes "make") name options options p operands (sym is) refl (finds options operands f) (j options operands f)

-- ---- what a parse gives

module _ {Z : Type 0} where
  name_met : (o : Option (Box Rattle.clap.specs.declared.parser.matches.SubCommand.SubCommand Z))
      → option_map (λ b. (Rattle.clap.specs.declared.parser.matches.ArgMatches.TheViews.out-SubCommand (box_value b)).name.now) o ≡ option_map (λ p. p.0) (subcommand_rows o)
  name_met None = refl
  name_met (Some b) = refl

pub entered_is : (m : ArgMatches) (r : Option (Bor Text × Bor ArgMatches)) (x : Bor Text × Bor ArgMatches) (name : Text) (rows : List Row) → r ≡ Some x
    → option_map (λ p. p.0.now) r ≡ subcommand_name_of m → option_map (λ p. rows_of (found_of p.1.now)) r ≡ option_map (λ p. p.1) (subcommand_rows (out-ArgMatches m).subcommand)
    → subcommand_rows_of m ≡ Some (name, rows) → (x.0.now ≡ name) × (rows_of (found_of x.1.now) ≡ rows)
entered_is m r x name rows is names_are rows_are met = (
  same_Some x.0.now name (ap (option_map (λ (p : Bor Text × Bor ArgMatches). p.0.now)) (sym is) ∙ names_are ∙ name_met (out-ArgMatches m).subcommand ∙ ap (option_map (λ (p : Text × List Row). p.0)) met),
  same_Some (rows_of (found_of x.1.now)) rows (ap (option_map (λ (p : Bor Text × Bor ArgMatches). rows_of (found_of p.1.now))) (sym is) ∙ rows_are ∙ ap (option_map (λ (p : Text × List Row). p.1)) met),
)

pub not_entered : (m : ArgMatches) (r : Option (Bor Text × Bor ArgMatches)) (name : Text) (rows : List Row) → r ≡ None
    → option_map (λ p. rows_of (found_of p.1.now)) r ≡ option_map (λ p. p.1) (subcommand_rows (out-ArgMatches m).subcommand)
    → subcommand_rows_of m ≡ Some (name, rows) → ⊥
not_entered m r name rows is rows_are met =
    none-some rows (ap (option_map (λ (p : Bor Text × Bor ArgMatches). rows_of (found_of p.1.now))) (sym is) ∙ rows_are ∙ ap (option_map (λ (p : Text × List Row). p.1)) met)

simple_and_free : is_simple_and_free vabgrot ≡ true
simple_and_free = refl

simple : is_simple vabgrot ≡ true
simple = refl

pub parsed_ok : (a : App) (words : List Text) (m : ArgMatches) → a ≡ vabgrot → (is_simple_and_free a ≡ true → fault_of a words ≡ []) → HasMatchesOf a words m → IsParsed words (Some (subcommand_rows_of m))
parsed_ok a words m is faults matches = (
  ap (λ (x : App). fault_of x words) (sym is) ∙ faults (ap is_simple_and_free is ∙ simple_and_free),
  (matches (ap is_simple is ∙ simple)).1 ∙ ap (λ (x : App). subcommand_of x words) is,
)

-- the operands that are found
pub texts_found : (found : Found) (r : Option (Bor (List (Bor Text)))) → option_map (λ s. map (λ v. v.now) s.now) r ≡ option_map raw_values (matched_of found operand_id)
    → (options : List (OptionName × Text)) (operands : List Text) → AreFound (rows_of found) options operands → unwrap_or (option_map (λ s. texts s.now) r) [] ≡ operands
texts_found found r raw = λ options operands f. ap (λ (o : Option (List Text)). unwrap_or o []) (raw ∙ raw_values-rows found operand_id) ∙ operand_values (rows_of found) options operands f
