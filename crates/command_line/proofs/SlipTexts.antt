-- The word of a slip: what is read is what it says.
use Rattle.std.proofs.Common.{◌≡◌, ◌∙◌, ap, refl, arith, ℕ, ◌+◌, ◌≤◌, List, [], ◌∷◌, ◌++◌, append_assoc}
use Rattle.std.specs.Prelude.{Option, Some, None, codes}
use Rattle.std.proofs.lemmas.Bool.{and_parts}
use Rattle.std.proofs.lemmas.Grind.{common_steps}
use Rattle.std.proofs.lemmas.Option.{none-some, same_Some, cond_some}
use Rattle.command_line.specs.declared.slip.SlipWord.{SlipWord}
use Rattle.command_line.specs.Numbers.{digit_text}
use Rattle.command_line.specs.Slips.{IsSlip}
use Rattle.command_line.specs.Parsing.{within, mark_split, digit_within, slip_by, slip_after, slip_parted, slip_of}
use Rattle.command_line.proofs.Triples.{number_reported, number_found, digits_are, split_parts, split_found, colon}
use Rattle.command_line.proofs.DamageTexts.{lane_reported, lane_found, lane_digit}

-- the digit

-- what is read is the number of the digit
pub digit_reported : (least most : ℕ) (text : List ℕ) (n : ℕ) → digit_within least most text ≡ Some n → (text ≡ digit_text n) × (least ≤ n) × (n ≤ most)
unfolding digit_within
digit_reported least most text n h = grind (arith, none-some, cond_some, and_parts, common_steps)

-- the number of a digit is read
pub digit_found : (least most n : ℕ) → least ≤ n → n ≤ most → digit_within least most (digit_text n) ≡ Some n
unfolding digit_within
digit_found least most n some few = grind (arith, common_steps)

-- the slip

slip_after_reported : (text first rest : List ℕ) (slip : SlipWord) (o : Option (List ℕ × List ℕ)) → text ≡ first ++ 58 ∷ rest → mark_split 58 rest ≡ o → slip_after first o ≡ Some slip → IsSlip text slip
slip_after_reported text first rest slip None is e h = absurd (none-some slip h)
slip_after_reported text first rest slip (Some parts) is e h = grind (arith, split_parts, lane_reported, digit_reported, same_Some, append_assoc, number_reported, none-some)

slip_parted_reported : (text : List ℕ) (slip : SlipWord) (o : Option (List ℕ × List ℕ)) → mark_split 58 text ≡ o → slip_parted o ≡ Some slip → IsSlip text slip
slip_parted_reported text slip None e h = absurd (none-some slip h)
slip_parted_reported text slip (Some parts) e h = slip_after_reported text parts.0 parts.1 slip (mark_split 58 parts.1) (split_parts 58 text parts e) refl h

-- what is read is the slip that a word gives
pub slip_reported : (text : List ℕ) (slip : SlipWord) → slip_of text ≡ Some slip → IsSlip text slip
unfolding slip_of
slip_reported text slip h = slip_parted_reported text slip (mark_split 58 text) refl h

text_in_order : (lane : ℕ) (place digit : List ℕ) → (48 + lane) ∷ codes ":" ++ place ++ codes ":" ++ digit ≡ ((48 + lane) ∷ []) ++ 58 ∷ (place ++ 58 ∷ digit)
text_in_order lane place digit = ap (λ (t : List ℕ). (48 + lane) ∷ 58 ∷ t) (append_assoc place (codes ":") digit)

-- the slip that a word gives is read
pub slip_found : (text : List ℕ) (slip : SlipWord) → IsSlip text slip → slip_of text ≡ Some slip
unfolding slip_of
slip_found text slip is =
    ap (λ (t : List ℕ). slip_parted (mark_split 58 t)) (is.text_is ∙ text_in_order slip.lane is.place_text (digit_text slip.bits))
    ∙ ap slip_parted (split_found 58 ((48 + slip.lane) ∷ []) (is.place_text ++ 58 ∷ digit_text slip.bits) colon (lane_digit slip.lane is.lane))
    ∙ ap (slip_after ((48 + slip.lane) ∷ [])) (split_found 58 is.place_text (digit_text slip.bits) colon (digits_are is.place_text slip.place is.place.digits))
    ∙ ap (λ (o : Option ℕ). slip_by o (within 4294967295 is.place_text) (digit_within 1 9 (digit_text slip.bits))) (lane_found slip.lane is.lane)
    ∙ ap (λ (o : Option ℕ). slip_by (Some slip.lane) o (digit_within 1 9 (digit_text slip.bits))) (number_found 4294967295 is.place_text slip.place is.place)
    ∙ ap (λ (o : Option ℕ). slip_by (Some slip.lane) (Some slip.place) o) (digit_found 1 9 slip.bits is.some is.few)
