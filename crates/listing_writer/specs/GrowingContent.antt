-- How a content listing and its count of faults grow by the lines of events: what the laws of a lister say.
use Rattle.std.proofs.Common.{◌≡◌, ◌∙◌, ℕ, ◌+◌, List, [], ◌∷◌, ◌++◌, Option, ap, sym, subst, append_assoc, append-nil, arith}
use Rattle.std.specs.Io.KnownBytes.{Appends}
use Rattle.std.proofs.lemmas.List.Sums.{sum_by-append}
use Rattle.std.proofs.lemmas.Grind.{flat_map-append}
use Rattle.std.proofs.KnownBytes.{Appends-nil, Appends-trans}
use Rattle.period_grammar.specs.Events.{Event}
use Rattle.listing_writer.specs.Texts.{counted}
use Rattle.listing_writer.specs.ContentText.{text_of, fault_line_count, lines_at, lines_after}
use Rattle.listing_writer.specs.ContentAdded.{Recalls}
use Rattle.listing_writer.specs.ContentTaken.{Lists}
use Rattle.listing_writer.specs.declared.content_state.ContentState.{ContentState}

pub text_append : (xs ys : List (List ℕ)) → text_of (xs ++ ys) ≡ text_of xs ++ text_of ys
unfolding text_of
text_append xs ys = flat_map-append _ xs ys

pub fault_count_append : (xs ys : List (List ℕ)) → fault_line_count (xs ++ ys) ≡ fault_line_count xs + fault_line_count ys
unfolding fault_line_count
fault_count_append xs ys = sum_by-append _ xs ys

pub counted_twice : (x a b : ℕ) → counted (counted x a) b ≡ counted x (a + b)
counted_twice x a b = omega arith

pub lines_after_append : (reported h k : List Event) → lines_after reported (h ++ k) ≡ lines_after reported h ++ lines_after (reported ++ h) k
unfolding lines_after
lines_after_append reported [] k = ap (λ (t : List Event). lines_after t k) (sym (append-nil reported))
lines_after_append reported (event ∷ h) k =
    ap (λ (lines : List (List ℕ)). lines_at reported event ++ lines) (lines_after_append (reported ++ event ∷ []) h k)
    ∙ ap (λ (t : List Event). lines_at reported event ++ (lines_after (reported ++ event ∷ []) h ++ lines_after t k)) (append_assoc reported (event ∷ []) h)
    ∙ sym (append_assoc (lines_at reported event) (lines_after (reported ++ event ∷ []) h) (lines_after (reported ++ event ∷ h) k))

pub lists_none : (past : ContentState) (faults : ℕ) (held : Option (List ℕ)) (reported : List Event) → Recalls past reported → Lists reported [] past faults faults held held
unfolding lines_after text_of fault_line_count
lists_none past faults held reported recalls = record {
  recalls = subst (λ (t : List Event). Recalls past t) (sym (append-nil reported)) recalls;
  faults = omega arith;
  written = Appends-nil held;
}

pub lists_both : (x y z : ContentState) (before between after : ℕ) (a b c : Option (List ℕ)) (h k : List Event)
    → ((reported : List Event) → Recalls x reported → Lists reported h y before between a b)
    → ((reported : List Event) → Recalls y reported → Lists reported k z between after b c)
    → (reported : List Event) → Recalls x reported → Lists reported (h ++ k) z before after a c
lists_both x y z before between after a b c h k first then reported recalls =
    let one = first reported recalls in
    let two = then (reported ++ h) one.recalls in
    let lines = lines_after_append reported h k in
    record {
      recalls = subst (λ (t : List Event). Recalls z t) (append_assoc reported h k) two.recalls;
      faults =
          two.faults ∙ ap (λ (n : ℕ). counted n (fault_line_count (lines_after (reported ++ h) k))) one.faults
          ∙ counted_twice before (fault_line_count (lines_after reported h)) (fault_line_count (lines_after (reported ++ h) k))
          ∙ ap (λ (n : ℕ). counted before n) (sym (ap fault_line_count lines ∙ fault_count_append (lines_after reported h) (lines_after (reported ++ h) k)));
      written =
          subst (λ (text : List ℕ). Appends a c text) (sym (ap text_of lines ∙ text_append (lines_after reported h) (lines_after (reported ++ h) k)))
          (Appends-trans a b c (text_of (lines_after reported h)) (text_of (lines_after (reported ++ h) k)) one.written two.written);
    }
