-- The lines of counts that are put one after another.
use Rattle.std.proofs.Common.{◌≡◌, ◌∙◌, ℕ, List, [], ◌∷◌, ◌++◌, ap, sym, append-nil, append_assoc}
use Rattle.listing_writer.specs.ContentText.{text_of}
use Rattle.listing_writer.specs.GrowingContent.{text_append}

-- a name, a space, digits and a line feed
pub line_put : (old name digits named spaced counted done : List ℕ) (put : List ℕ) → named ≡ old ++ name → spaced ≡ named ++ 32 ∷ [] → counted ≡ spaced ++ put → put ≡ digits → done ≡ counted ++ 10 ∷ []
    → done ≡ old ++ text_of ((name ++ 32 ∷ digits) ∷ [])
unfolding text_of
line_put old name digits named spaced counted done put a b c d e =
    e ∙ ap (λ (t : List ℕ). t ++ 10 ∷ []) (c ∙ ap (λ (t : List ℕ). spaced ++ t) d ∙ ap (λ (t : List ℕ). t ++ digits) (b ∙ ap (λ (t : List ℕ). t ++ 32 ∷ []) a))
    ∙ simp (append_assoc, append-nil {A = ℕ})

-- one line more
pub text_more : (lines : List (List ℕ)) (line old new : List ℕ) → new ≡ old ++ text_of (line ∷ []) → old ≡ text_of lines → new ≡ text_of (lines ++ line ∷ [])
text_more lines line old new put was = put ∙ ap (λ (text : List ℕ). text ++ text_of (line ∷ [])) was ∙ sym (text_append lines (line ∷ []))

-- no line
pub no_text : (text : List ℕ) → text ≡ [] → text ≡ text_of []
unfolding text_of
no_text text none = none
