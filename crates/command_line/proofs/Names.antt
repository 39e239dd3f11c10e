-- Words that `clap` takes begin with the name of a command.
use Rattle.std.proofs.Common.{arith, ◌≡◌, sym, ap, refl, subst, Bool, true, false, ◌||◌, List, [], ◌∷◌, codes, Option, Some, None, bytes_eq}
use Rattle.std.specs.Prelude.{if◌then◌else◌, option_map}
use Rattle.std.specs.Option.{option_map_or}
use Rattle.std.proofs.lemmas.Slice.Eq.{bytes_eq-Decides}
use Rattle.clap.specs.Lexer.{short_of}
use Rattle.clap.specs.Kinds.{Kinds, or_else}
use Rattle.clap.specs.Walk.{Held, Step, idle, trailing, walked, nothing_held, subcommand_met, long_or_other, short_or_plain, bundle_met}
use Rattle.clap.specs.Faults.{fault_of, walk_fault, step_fault, flag_word_fault, bundle_fault, flags_fault, defaults_fault}
use Rattle.clap.specs.declared.error.kind.ErrorKind.{ErrorKind}
use Rattle.clap.specs.declared.error.kind.ErrorKind.TheVariants as kind
use Rattle.command_line.specs.Grammar.{Text}
use Rattle.command_line.specs.Forms.{vabgrot}
use Rattle.command_line.proofs.Takings.{or_else_first}
use Rattle.command_line.proofs.Programs.{Sub, to_make, to_recover, to_check, to_damage, to_slip, to_read, to_relay, to_sample, sub_name, whole, names, start}

no_kind : (k : ErrorKind) (ks : Kinds) → k ∷ ks ≡ [] → ⊥
no_kind k ks h = cc h

-- the fault of a first word, by what it looks like

abbrev look_fault : Text → Bool → Option (Text × Option Text) → Kinds
look_fault word dashes long =
    let step : Held × Step = if dashes then (nothing_held, trailing 1) else long_or_other [] idle word long nothing_held in
    or_else (if dashes then [] else flag_word_fault [] false long word nothing_held) (step_fault whole.top 1 step.0 step.1)

abbrev flag_fault : Text → Option Text → Kinds
flag_fault word short =
    let step = short_or_plain [] idle word short nothing_held in
    or_else (option_map_or (λ fl. bundle_fault [] false fl nothing_held) short []) (step_fault whole.top 1 step.0 step.1)

flags_fail : (word : Text) (short : Option Text) → flag_fault word short ≡ [] → ⊥
unfolding flags_fault bundle_met
flags_fail word None h = cc h
flags_fail word (Some []) h = cc h
flags_fail word (Some (f ∷ fs)) h = grind arith

look_fails : (word : Text) (long : Option (Text × Option Text)) → look_fault word false long ≡ [] → ⊥
look_fails word (Some p) h = cc h
look_fails word None h = flags_fail word (short_of word) h

-- `--` names no command
dashes_fail : (words : List Text) → fault_of vabgrot (codes "--" ∷ words) ≡ [] → ⊥
unfolding walk_fault walked defaults_fault
dashes_fail [] h = no_kind kind.MissingSubcommand [] h
dashes_fail (x ∷ xs) h = no_kind kind.UnknownArgument (kind.InvalidSubcommand ∷ []) h

-- a word that names no command
no_name_fails : (word : Text) (words : List Text) (dashes : Bool) → bytes_eq word (codes "--") ≡ dashes → subcommand_met names idle word ≡ None → fault_of vabgrot (word ∷ words) ≡ [] → ⊥
unfolding walk_fault
no_name_fails word words true d met h = dashes_fail words (subst (λ (w : Text). fault_of vabgrot (w ∷ words) ≡ []) ((bytes_eq-Decides word (codes "--")).0 d) h)
no_name_fails word words false d met h = grind (arith, whole, names, start, or_else_first, look_fails)

abbrev met_by : Bool → Bool → Bool → Bool → Bool → Bool → Bool → Bool → Option (Text × List Text)
met_by a b c d e f g h =
    if a || false then Some (codes "make", []) else (if b || false then Some (codes "recover", []) else (if c || false then Some (codes "check", []) else (if d || false then Some (codes "damage", []) else (if e || false then Some (codes "slip", []) else (if f || false then Some (codes "read", []) else (if g || false then Some (codes "relay", []) else (if h || false then Some (codes "sample", []) else None)))))))

-- the command that words begin with
pub record Names (words : List Text) : Type 0 where
  pub sub : Sub
  pub after : List Text
  pub words_are : words ≡ sub_name sub ∷ after

name_by : (word : Text) (words : List Text) (a b c d e f g h : Bool)
    → bytes_eq (codes "make") word ≡ a → bytes_eq (codes "recover") word ≡ b → bytes_eq (codes "check") word ≡ c
    → bytes_eq (codes "damage") word ≡ d → bytes_eq (codes "slip") word ≡ e → bytes_eq (codes "read") word ≡ f
    → bytes_eq (codes "relay") word ≡ g → bytes_eq (codes "sample") word ≡ h → fault_of vabgrot (word ∷ words) ≡ [] → Names (word ∷ words)
name_by word words true b c d e f g h p q r s t u v x faults =
    record { sub = to_make; after = words; words_are = ap (λ (w : Text). w ∷ words) (sym ((bytes_eq-Decides (codes "make") word).0 p)) }
name_by word words false true c d e f g h p q r s t u v x faults =
    record { sub = to_recover; after = words; words_are = ap (λ (w : Text). w ∷ words) (sym ((bytes_eq-Decides (codes "recover") word).0 q)) }
name_by word words false false true d e f g h p q r s t u v x faults =
    record { sub = to_check; after = words; words_are = ap (λ (w : Text). w ∷ words) (sym ((bytes_eq-Decides (codes "check") word).0 r)) }
name_by word words false false false true e f g h p q r s t u v x faults =
    record { sub = to_damage; after = words; words_are = ap (λ (w : Text). w ∷ words) (sym ((bytes_eq-Decides (codes "damage") word).0 s)) }
name_by word words false false false false true f g h p q r s t u v x faults =
    record { sub = to_slip; after = words; words_are = ap (λ (w : Text). w ∷ words) (sym ((bytes_eq-Decides (codes "slip") word).0 t)) }
name_by word words false false false false false true g h p q r s t u v x faults =
    record { sub = to_read; after = words; words_are = ap (λ (w : Text). w ∷ words) (sym ((bytes_eq-Decides (codes "read") word).0 u)) }
name_by word words false false false false false false true h p q r s t u v x faults =
    record { sub = to_relay; after = words; words_are = ap (λ (w : Text). w ∷ words) (sym ((bytes_eq-Decides (codes "relay") word).0 v)) }
name_by word words false false false false false false false true p q r s t u v x faults =
    record { sub = to_sample; after = words; words_are = ap (λ (w : Text). w ∷ words) (sym ((bytes_eq-Decides (codes "sample") word).0 x)) }
name_by word words false false false false false false false false p q r s t u v x faults =
    let none : subcommand_met names idle word ≡ None = λ i. option_map (λ (l : Text × List Text). l.0) (met_by (p i) (q i) (r i) (s i) (t i) (u i) (v i) (x i)) in
    absurd (no_name_fails word words (bytes_eq word (codes "--")) refl none faults)

pub named_words : (words : List Text) → fault_of vabgrot words ≡ [] → Names words
unfolding walk_fault defaults_fault
named_words [] h = absurd (no_kind kind.MissingSubcommand [] h)
named_words (word ∷ words) h = name_by word words _ _ _ _ _ _ _ _ refl refl refl refl refl refl refl refl h
