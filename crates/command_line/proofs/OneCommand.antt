-- Words name one command at most.
use Rattle.std.proofs.Common.{◌≡◌, ◌⊎◌, false, bytes_eq, ◌∙◌, sym, ap, ap₂, refl, subst, arith, ℕ, List, [], ◌∷◌, Option, Some, None}
use Rattle.std.specs.Prelude.{codes, if◌then◌else◌}
use Rattle.std.proofs.lemmas.Option.{none-some, same_Some}
use Rattle.command_line.specs.Numbers.{IsNumber}
use Rattle.command_line.specs.Slips.{IsSlip}
use Rattle.command_line.specs.Damages.{IsDamage, AreDamages}
use Rattle.command_line.specs.Grammar.{Text, values_of, listed}
use Rattle.command_line.specs.Forms.{AreFound, one_value}
use Rattle.clap.specs.Walk.{Row}
use Rattle.command_line.specs.Commands.{AreSkews, IsLimit, IsVersion, IsTap, Means, IsCommand}
use Rattle.command_line.specs.declared.options.OptionName.{OptionName}
use Rattle.command_line.specs.declared.tap.TapWords.{TapWords}
use Rattle.command_line.specs.declared.damage.DamageWord.{DamageWord}
use Rattle.command_line.specs.declared.slip.SlipWord.{SlipWord}
use Rattle.command_line.specs.declared.command.Command.{Command}
use Rattle.command_line.specs.declared.command.Command.TheVariants.{MakeLink, MakeContent, MakeDvi, RecoverLink, RecoverContent, RecoverTrack, RecoverRelock, RecoverContentRelock, RecoverBiphase, RecoverDvi, Check, Damage, Slip, ReadBiphase, Relay, Sample}
use Rattle.command_line.proofs.Triples.{number_found, three_found}
use Rattle.command_line.proofs.DamageTexts.{damage_found}
use Rattle.command_line.proofs.SlipTexts.{digit_found, slip_found}
use Rattle.command_line.proofs.Taps.{same_text}
use Rattle.command_line.proofs.Meanings.{apart, head_of, same_head, same_second}
use Rattle.command_line.proofs.Deciding.{command_reads}

-- a text has one number at most
pub number_once : (most : ℕ) (text : Text) (m n : ℕ) → IsNumber most text m → IsNumber most text n → m ≡ n
number_once most text m n a b = same_Some m n (sym (number_found most text m a) ∙ number_found most text n b)

skews_once : (text : Option Text) (m n : List ℕ) → AreSkews text m → AreSkews text n → m ≡ n
skews_once (Some text) m n a b =
    a.4 ∙ same_Some (a.0 ∷ a.1 ∷ a.2 ∷ []) (b.0 ∷ b.1 ∷ b.2 ∷ []) (sym (three_found 4095 text a.0 a.1 a.2 a.3) ∙ three_found 4095 text b.0 b.1 b.2 b.3) ∙ sym b.4
skews_once None m n a b = a ∙ sym b

limit_once : (text : Option Text) (m n : Option ℕ) → IsLimit text m → IsLimit text n → m ≡ n
limit_once text m n h k = grind (arith, number_once)

version_once : (text : Option Text) (m n : ℕ) → IsVersion text m → IsVersion text n → m ≡ n
version_once text m n h k = grind (arith, number_once)

-- options ask for one tap at most
pub tap_once : (options : List (OptionName × Text)) (t u : TapWords) → IsTap options t → IsTap options u → t ≡ u
tap_once options t u a b = grind (arith, same_text, version_once, skews_once, limit_once, number_once)

damage_once : (text : Text) (m n : DamageWord) → IsDamage text m → IsDamage text n → m ≡ n
damage_once text m n a b = same_Some m n (sym (damage_found text m a) ∙ damage_found text n b)

-- words are the words of one list of damages at most
pub damages_once : (words : List Text) (m n : List DamageWord) → AreDamages words m → AreDamages words n → m ≡ n
damages_once [] [] [] a b = refl
damages_once [] [] (y ∷ ys) a b = absurd b
damages_once [] (x ∷ xs) n a b = absurd a
damages_once (w ∷ ws) [] n a b = absurd a
damages_once (w ∷ ws) (x ∷ xs) [] a b = absurd b
damages_once (w ∷ ws) (x ∷ xs) (y ∷ ys) a b = ap₂ (λ (z : DamageWord) (zs : List DamageWord). z ∷ zs) (damage_once w x y a.0 b.0) (damages_once ws xs ys a.1 b.1)

slip_once : (text : Text) (m n : SlipWord) → IsSlip text m → IsSlip text n → m ≡ n
slip_once text m n a b = same_Some m n (sym (slip_found text m a) ∙ slip_found text n b)

-- the place of a command among the forms
form : Command → ℕ
form (MakeLink tap) = 0
form (MakeContent tap) = 1
form (MakeDvi tap) = 2
form RecoverLink = 3
form RecoverContent = 4
form RecoverTrack = 5
form RecoverRelock = 6
form (RecoverBiphase k) = 7
form RecoverDvi = 8
form Check = 9
form (Damage damages) = 10
form (Slip slip) = 11
form ReadBiphase = 12
form Relay = 13
form (Sample n) = 14
form RecoverContentRelock = 15

-- and the place that a name and operands give
abbrev make_form_of : Text → ℕ
make_form_of first = if bytes_eq first (codes "link") then 0 else if bytes_eq first (codes "content") then 1 else 2

abbrev content_form_of : List Text → ℕ
content_form_of (first ∷ second ∷ more) = 15
content_form_of _ = 4

abbrev recover_form_of : Text → List Text → ℕ
recover_form_of first operands =
    if bytes_eq first (codes "link") then 3
    else if bytes_eq first (codes "content") then content_form_of operands
    else if bytes_eq first (codes "track") then 5
    else if bytes_eq first (codes "relock") then 6
    else if bytes_eq first (codes "biphase") then 7
    else 8

abbrev form_of : Text → List Text → ℕ
form_of name operands =
    if bytes_eq name (codes "make") then make_form_of (head_of operands)
    else if bytes_eq name (codes "recover") then recover_form_of (head_of operands) operands
    else if bytes_eq name (codes "check") then 9
    else if bytes_eq name (codes "damage") then 10
    else if bytes_eq name (codes "slip") then 11
    else if bytes_eq name (codes "read") then 12
    else if bytes_eq name (codes "relay") then 13
    else 14

by_name : (name other : Text) (operands : List Text) (n : ℕ) → name ≡ other → form_of other operands ≡ n → form_of name operands ≡ n
by_name name other operands n is e = ap (λ (t : Text). form_of t operands) is ∙ e

by_kind : (name other : Text) (operands others : List Text) (n : ℕ) → name ≡ other → operands ≡ others → form_of other others ≡ n → form_of name operands ≡ n
by_kind name other operands others n is are e = ap₂ form_of is are ∙ e

-- a name, options and operands ask for one command of a form at most
form_once : (name : Text) (options : List (OptionName × Text)) (operands : List Text) (c d : Command) → form c ≡ form d → Means c name options operands → Means d name options operands → c ≡ d
unfolding form
form_once name options operands (MakeLink t) (MakeLink u) e a b = ap MakeLink (tap_once options t u a.2 b.2)
form_once name options operands (MakeContent t) (MakeContent u) e a b = ap MakeContent (tap_once options t u a.2 b.2)
form_once name options operands (MakeDvi t) (MakeDvi u) e a b = ap MakeDvi (tap_once options t u a.2 b.2)
form_once name options operands RecoverLink RecoverLink e a b = refl
form_once name options operands RecoverContent RecoverContent e a b = refl
form_once name options operands RecoverTrack RecoverTrack e a b = refl
form_once name options operands RecoverRelock RecoverRelock e a b = refl
form_once name options operands RecoverContentRelock RecoverContentRelock e a b = refl
form_once name options operands (RecoverBiphase k) (RecoverBiphase l) e a b = grind (arith, same_second, same_Some, digit_found)
form_once name options operands RecoverDvi RecoverDvi e a b = refl
form_once name options operands Check Check e a b = refl
form_once name options operands (Damage ds) (Damage es) e a b = ap Damage (damages_once operands ds es a.1.0 b.1.0)
form_once name options operands (Slip s) (Slip t) e a b =
    ap Slip (slip_once a.1.0 s t a.1.2 (subst (λ (x : Text). IsSlip x t) (same_head b.1.0 a.1.0 [] [] (sym b.1.1 ∙ a.1.1)) b.1.2))
form_once name options operands ReadBiphase ReadBiphase e a b = refl
form_once name options operands Relay Relay e a b = refl
form_once name options operands (Sample n) (Sample m) e a b =
    ap Sample (number_once 20 a.1.0 n m a.1.2 (subst (λ (x : Text). IsNumber 20 x m) (same_head b.1.0 a.1.0 [] [] (sym b.1.1 ∙ a.1.1)) b.1.2))
form_once name options operands c d e a b = absurd (omega (arith, e))

-- what a name and operands ask for has the place that they give
form_is : (c : Command) (name : Text) (options : List (OptionName × Text)) (operands : List Text) → Means c name options operands → form_of name operands ≡ form c
unfolding form head_of
form_is c name options operands m = grind (arith, by_kind, by_name)

-- a name, options and operands ask for one command at most
pub means_once : (name : Text) (options : List (OptionName × Text)) (operands : List Text) (c d : Command) → Means c name options operands → Means d name options operands → c ≡ d
means_once name options operands c d a b = form_once name options operands c d (sym (form_is c name options operands a) ∙ form_is d name options operands b) a b

-- ---- words name one command at most

same_value : (a b : Option Text) → one_value a ≡ one_value b → listed a ≡ listed b
same_value a b h = grind (arith, none-some, same_Some)

-- options that give each name the same values ask for the same
AreSame : List (OptionName × Text) → List (OptionName × Text) → Type 0
AreSame o u = (name : OptionName) → values_of name o ≡ values_of name u

found_same : (rows : List Row) (o u : List (OptionName × Text)) (p q : List Text) → AreFound rows o p → AreFound rows u q → AreSame o u × (p ≡ q)
unfolding AreSame
found_same rows o u p q f g = grind (arith, same_value, none-some, same_Some)

no_options : (name other : Text) (u : List (OptionName × Text)) → bytes_eq (codes "make") other ≡ false → name ≡ other → (name ≡ codes "make") ⊎ (u ≡ []) → u ≡ []
no_options name other u h k l = grind (arith, apart)

means_as : (c : Command) (name : Text) (o u : List (OptionName × Text)) (operands : List Text) → AreSame o u → (name ≡ codes "make") ⊎ (u ≡ []) → Means c name o operands → Means c name u operands
unfolding AreSame
means_as c name o u operands h k l = grind (arith, no_options)

pub command_once : (words : List Text) (c d : Command) → IsCommand words c → IsCommand words d → c ≡ d
command_once words c d a b =
    let r = command_reads words c a in
    let s = command_reads words d b in
    let same : (b.name, s.rows) ≡ (a.name, r.rows) = same_Some (b.name, s.rows) (a.name, r.rows) (sym s.rows_are ∙ r.rows_are) in
    let found = subst (λ (rows : List Row). AreFound rows b.options b.operands) (ap (λ (p : Text × List Row). p.1) same) s.found in
    let both = found_same r.rows b.options a.options b.operands a.operands found r.found in
    let named = subst (λ (n : Text). Means d n b.options b.operands) (ap (λ (p : Text × List Row). p.0) same) b.means in
    let operands_are = subst (λ (os : List Text). Means d a.name b.options os) both.1 named in
    means_once a.name a.options a.operands c d a.means (means_as d a.name b.options a.options a.operands both.0 r.allowed operands_are)
