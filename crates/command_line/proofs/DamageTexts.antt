-- The words of damages: what is read is what they says.
use Rattle.std.proofs.Common.{◌≡◌, ◌∙◌, sym, ap, refl, subst, arith, ℕ, zero, suc, ◌+◌, ◌*◌, ◌<◌, Bool, true, List, [], ◌∷◌, ◌++◌, length, get_or, take, map, append_assoc}
use Rattle.std.specs.Borrow.{Bor}
use Rattle.std.specs.Prelude.{Option, Some, None, Result, Ok, codes, nat_eq, if◌then◌else◌}
use Rattle.std.specs.List.{list_all}
use Rattle.std.proofs.lemmas.Grind.{common_steps}
use Rattle.std.proofs.lemmas.List.{length-map, get_or-map, map_more}
use Rattle.std.proofs.lemmas.Option.{none-some, same_Some, cond_some}
use Rattle.std.proofs.lemmas.Slice.Eq.{bytes_eq-Decides}
use Rattle.hex.specs.Hex.{decode_of}
use Rattle.hex.specs.declared.error.FromHexError.{FromHexError}
use Rattle.command_line.specs.declared.damage.DamageWord.{DamageWord}
use Rattle.command_line.specs.Numbers.{is_digit}
use Rattle.command_line.specs.Damages.{IsDamage, AreDamages}
use Rattle.command_line.specs.Parsing.{within, mark_split, lane_of, character_by, character_of, damage_by, damage_after, damage_parted, damage_of}
use Rattle.command_line.proofs.Triples.{number_reported, number_found, digits_are, split_parts, split_found, colon}

-- the lane

pub lane_reported : (text : List ℕ) (lane : ℕ) → lane_of text ≡ Some lane → (text ≡ (48 + lane) ∷ []) × (lane < 3)
lane_reported text lane h = grind (arith, same_Some, bytes_eq-Decides, none-some)

pub lane_found : (lane : ℕ) → lane < 3 → lane_of ((48 + lane) ∷ []) ≡ Some lane
lane_found lane h = grind arith

pub lane_digit : (lane : ℕ) → lane < 3 → list_all is_digit ((48 + lane) ∷ []) ≡ true
lane_digit lane h = grind arith

-- the character

then_some : {A : Type 0} (b : Bool) (o : Option A) (x : A) → (if b then o else None) ≡ Some x → (b ≡ true) × (o ≡ Some x)
then_some b o x h = grind (arith, none-some)

character_by_reported : (r : Result (List ℕ) FromHexError) (value : ℕ) → character_by r ≡ Some value
    → (high low : ℕ) × (r ≡ Ok (high ∷ low ∷ [])) × (value ≡ 256 * high + low) × (value < 1024)
character_by_reported r value h = grind (arith, none-some, cond_some, common_steps)

same_count : (n m : ℕ) → nat_eq n m ≡ true → n ≡ m
same_count n m h = grind (arith, common_steps)

character_found : (digits : List ℕ) (high low value : ℕ) → length digits ≡ 3 → decode_of (codes "0" ++ digits) ≡ Ok (high ∷ low ∷ []) → value ≡ 256 * high + low → value < 1024
    → character_of digits ≡ Some value
unfolding character_of
character_found digits high low value three decoded is small = grind (arith, common_steps)

-- the damage

-- the three parts of a damage that is read
damage_by_reported : (lane place value : Option ℕ) (damage : DamageWord) → damage_by lane place value ≡ Some damage → (lane ≡ Some damage.lane) × (place ≡ Some damage.place) × (value ≡ Some damage.value)
damage_by_reported lane place value damage h = grind (arith, same_Some, none-some)

damage_after_reported : (text first rest : List ℕ) (damage : DamageWord) (o : Option (List ℕ × List ℕ)) → text ≡ first ++ 58 ∷ rest → mark_split 58 rest ≡ o → damage_after first o ≡ Some damage → IsDamage text damage
unfolding character_of
damage_after_reported text first rest damage None is e h = absurd (none-some damage h)
damage_after_reported text first rest damage (Some parts) is e h =
    let d = damage_by_reported _ _ _ damage h in
    grind (arith, split_parts, lane_reported, append_assoc, number_reported, then_some, character_by_reported, same_count)

damage_parted_reported : (text : List ℕ) (damage : DamageWord) (o : Option (List ℕ × List ℕ)) → mark_split 58 text ≡ o → damage_parted o ≡ Some damage → IsDamage text damage
damage_parted_reported text damage None e h = absurd (none-some damage h)
damage_parted_reported text damage (Some parts) e h = damage_after_reported text parts.0 parts.1 damage (mark_split 58 parts.1) (split_parts 58 text parts e) refl h

-- what is read is the damage that a word gives
pub damage_reported : (text : List ℕ) (damage : DamageWord) → damage_of text ≡ Some damage → IsDamage text damage
unfolding damage_of
damage_reported text damage h = damage_parted_reported text damage (mark_split 58 text) refl h

text_in_order : (lane : ℕ) (place digits : List ℕ) → (48 + lane) ∷ codes ":" ++ place ++ codes ":" ++ digits ≡ ((48 + lane) ∷ []) ++ 58 ∷ (place ++ 58 ∷ digits)
text_in_order lane place digits = ap (λ (t : List ℕ). (48 + lane) ∷ 58 ∷ t) (append_assoc place (codes ":") digits)

-- the damage that a word gives is read
pub damage_found : (text : List ℕ) (damage : DamageWord) → IsDamage text damage → damage_of text ≡ Some damage
unfolding damage_of
damage_found text damage is =
    ap (λ (t : List ℕ). damage_parted (mark_split 58 t)) (is.text_is ∙ text_in_order damage.lane is.place_text is.digits)
    ∙ ap damage_parted (split_found 58 ((48 + damage.lane) ∷ []) (is.place_text ++ 58 ∷ is.digits) colon (lane_digit damage.lane is.lane))
    ∙ ap (damage_after ((48 + damage.lane) ∷ [])) (split_found 58 is.place_text is.digits colon (digits_are is.place_text damage.place is.place.digits))
    ∙ ap (λ (o : Option ℕ). damage_by o (within 4294967295 is.place_text) (character_of is.digits)) (lane_found damage.lane is.lane)
    ∙ ap (λ (o : Option ℕ). damage_by (Some damage.lane) o (character_of is.digits)) (number_found 4294967295 is.place_text damage.place is.place)
    ∙ ap (λ (o : Option ℕ). damage_by (Some damage.lane) (Some damage.place) o) (character_found is.digits is.high is.low damage.value is.three is.value_is is.value is.character)

-- one word after another

damage_at : (texts : List (List ℕ)) (damages : List DamageWord) (i : ℕ) (d : List ℕ) → AreDamages texts damages → i < length texts → (damage : DamageWord) × IsDamage (get_or texts i d) damage
damage_at [] damages i d are lt = absurd (omega (arith, lt))
damage_at (text ∷ texts) [] i d are lt = absurd are
damage_at (text ∷ texts) (damage ∷ damages) zero d are lt = (damage, are.0)
damage_at (text ∷ texts) (damage ∷ damages) (suc i) d are lt = damage_at texts damages i d are.1 (omega (arith, lt))

damages_end : (texts : List (List ℕ)) (damages : List DamageWord) (text : List ℕ) (damage : DamageWord) → AreDamages texts damages → IsDamage text damage → AreDamages (texts ++ text ∷ []) (damages ++ damage ∷ [])
damages_end [] [] text damage are is = (is, tt)
damages_end [] (h ∷ hs) text damage are is = absurd are
damages_end (t ∷ ts) [] text damage are is = absurd are
damages_end (t ∷ ts) (h ∷ hs) text damage are is = (are.0, damages_end ts hs text damage are.1 is)

-- the word of a loop is that of a damage
pub damage_there : (words : List (Bor (List ℕ))) (i : ℕ) (d : Bor (List ℕ)) → ((damages : List DamageWord) × AreDamages (map (λ (w : Bor (List ℕ)). w.now) words) damages) → i < length words → damage_of (get_or words i d).now ≡ None → ⊥
damage_there words i d damages lt none =
    let there = damage_at (map (λ (w : Bor (List ℕ)). w.now) words) damages.0 i [] damages.1 (subst (λ (n : ℕ). i < n) (sym (length-map words (λ (w : Bor (List ℕ)). w.now))) lt) in
    let is : IsDamage (get_or words i d).now there.0 = subst (λ (t : List ℕ). IsDamage t there.0) (get_or-map (λ (w : Bor (List ℕ)). w.now) words i d [] lt) there.1 in
    none-some there.0 (sym none ∙ damage_found (get_or words i d).now there.0 is)

-- the damages of one more word
pub damages_more : (words : List (Bor (List ℕ))) (i : ℕ) (d : Bor (List ℕ)) (damages : List DamageWord) (damage : DamageWord) → AreDamages (map (λ (w : Bor (List ℕ)). w.now) (take i words)) damages → i < length words
    → damage_of (get_or words i d).now ≡ Some damage → AreDamages (map (λ (w : Bor (List ℕ)). w.now) (take (i + 1) words)) (damages ++ damage ∷ [])
damages_more words i d damages damage are lt read =
    subst (λ (ts : List (List ℕ)). AreDamages ts (damages ++ damage ∷ [])) (sym (map_more (λ (w : Bor (List ℕ)). w.now) words i d lt))
    (damages_end (map (λ (w : Bor (List ℕ)). w.now) (take i words)) damages (get_or words i d).now damage are (damage_reported (get_or words i d).now damage read))
