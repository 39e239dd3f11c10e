-- What a command's name, options and operands ask for.
use Rattle.std.proofs.Common.{◌≡◌, ◌∙◌, sym, ap, refl, subst, arith, ℕ, ◌<◌, ◌≤◌, List, [], ◌∷◌, length, get_or, Some, None, Bor, true≢false, false}
use Rattle.std.specs.Prelude.{codes}
use Rattle.std.specs.Str.{bytes_eq}
use Rattle.std.proofs.lemmas.Slice.Eq.{bytes_eq-Decides}
use Rattle.std.proofs.lemmas.Option.{none-some}
use Rattle.command_line.specs.Parsing.{within, digit_within, slip_of}
use Rattle.command_line.specs.Slips.{IsSlip}
use Rattle.command_line.specs.Grammar.{Text, texts}
use Rattle.command_line.specs.Commands.{IsTap, Means}
use Rattle.command_line.specs.declared.options.OptionName.{OptionName}
use Rattle.command_line.specs.declared.tap.TapWords.{TapWords}
use Rattle.command_line.specs.declared.command.Command.{Command}
use Rattle.command_line.specs.declared.command.Command.TheVariants.{MakeLink, MakeContent, MakeDvi, RecoverLink, RecoverContent, RecoverTrack, RecoverRelock, RecoverContentRelock, RecoverBiphase, RecoverDvi, Check, Damage, Slip, ReadBiphase, Relay, Sample}
use Rattle.command_line.proofs.Triples.{number_found}
use Rattle.command_line.proofs.SlipTexts.{digit_found, slip_found}

-- texts that a test distinguishes
pub apart : (a b : Text) → bytes_eq a b ≡ false → a ≡ b → ⊥
apart a b differ e = true≢false (sym ((bytes_eq-Decides a b).1 e) ∙ differ)

-- one operand
pub one_text : (operands : List (Bor Text)) (d : Bor Text) → 1 ≤ length operands → length operands < 2 → texts operands ≡ (get_or operands 0 d).now ∷ []
one_text [] d some one = absurd (omega arith)
one_text (x ∷ []) d some one = refl
one_text (x ∷ y ∷ rest) d some one = absurd (omega arith)

-- the name of a command
pub name_of : Command → Text
name_of (MakeLink tap) = codes "make"
name_of (MakeContent tap) = codes "make"
name_of (MakeDvi tap) = codes "make"
name_of RecoverLink = codes "recover"
name_of RecoverContent = codes "recover"
name_of RecoverTrack = codes "recover"
name_of RecoverRelock = codes "recover"
name_of RecoverContentRelock = codes "recover"
name_of (RecoverBiphase k) = codes "recover"
name_of RecoverDvi = codes "recover"
name_of Check = codes "check"
name_of (Damage damages) = codes "damage"
name_of (Slip slip) = codes "slip"
name_of ReadBiphase = codes "read"
name_of Relay = codes "relay"
name_of (Sample n) = codes "sample"

-- the words of a command begin with its name
pub named : (c : Command) (name : Text) (options : List (OptionName × Text)) (operands : List Text) → Means c name options operands → name ≡ name_of c
unfolding name_of
named c name options operands h = grind arith

-- a command of another name
abbrev other_name : (c : Command) (name : Text) (options : List (OptionName × Text)) (operands : List Text) → bytes_eq name (name_of c) ≡ false → Means c name options operands → ⊥
other_name c name options operands differ m = apart name (name_of c) differ (named c name options operands m)

-- no tap, no `make`
pub no_tap : (options : List (OptionName × Text)) (operands : List Text) → ((tap : TapWords) → IsTap options tap → ⊥) → (c : Command) → Means c (codes "make") options operands → ⊥
unfolding name_of
no_tap options operands none (MakeLink tap) m = none tap m.2
no_tap options operands none (MakeContent tap) m = none tap m.2
no_tap options operands none (MakeDvi tap) m = none tap m.2
no_tap options operands none c m = other_name c (codes "make") options operands refl m

-- the first text, and the second
unfoldable pub head_of : List Text → Text
head_of [] = []
head_of (t ∷ ts) = t

second_of : List Text → Text
second_of [] = []
second_of (t ∷ ts) = head_of ts

pub same_head : (a b : Text) (us vs : List Text) → a ∷ us ≡ b ∷ vs → a ≡ b
unfolding head_of
same_head a b us vs e = ap head_of e

pub same_second : (a b c d : Text) (us vs : List Text) → a ∷ c ∷ us ≡ b ∷ d ∷ vs → c ≡ d
unfolding second_of head_of
same_second a b c d us vs e = ap second_of e

-- no number of frames, no `sample`
pub no_sample : (operands : List Text) (t : Text) → operands ≡ t ∷ [] → ((n : ℕ) → within 20 t ≡ Some n → 2 ≤ n → ⊥)
    → (c : Command) → Means c (codes "sample") [] operands → ⊥
unfolding name_of
no_sample operands t h k l m = grind (arith, same_head, number_found)

-- no word of a slip, no `slip`
pub no_slip : (operands : List Text) (t : Text) → operands ≡ t ∷ [] → slip_of t ≡ None → (c : Command) → Means c (codes "slip") [] operands → ⊥
unfolding name_of
no_slip operands t is none (Slip slip) m =
    let same : m.1.0 ≡ t = same_head m.1.0 t [] [] (sym m.1.1 ∙ is) in
    none-some slip (sym none ∙ slip_found t slip (subst (λ (u : Text). IsSlip u slip) same m.1.2))
no_slip operands t is none c m = other_name c (codes "slip") [] operands refl m

-- no digit of a pair, no `recover` of two operands
pub no_pair : (kind t : Text) → (kind ≡ codes "content" → ⊥) → digit_within 0 3 t ≡ None → (c : Command) → Means c (codes "recover") [] (kind ∷ t ∷ []) → ⊥
unfolding name_of
no_pair kind t h k l m = grind (arith, same_head, same_second, none-some, digit_found)
