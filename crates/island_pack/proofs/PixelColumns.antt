-- Pixels after pixels: whatever was coded before, there are columns that code the next ones.
use Rattle.std.proofs.Common.{ℕ, List, [], ◌∷◌, ◌++◌, refl, sym, subst, arith, append_assoc, append-nil, map}
use Rattle.std.proofs.lemmas.List.{map-append}
use Rattle.tmds_word.specs.Column.{Column}
use Rattle.tmds_code.specs.Coding.{Coded, coded_word}
use Rattle.tmds_code.specs.Lanes.{IsLane, disparity_of}
use Rattle.tmds_code.proofs.Lanes.{lane_more}
use Rattle.island_pack.specs.Periods.{Pixel}
use Rattle.island_pack.specs.Spelling.{SpellsPixels}

-- one lane with one pixel more
lane_with : (f : Pixel → ℕ) (h : Column → ℕ) (past : List Pixel) (sent : List Column) (p : Pixel) (own : Column)
    → IsLane (map f past) (map h sent) → Coded (disparity_of (map h sent)) (f p) (h own) → IsLane (map f (past ++ p ∷ [])) (map h (sent ++ own ∷ []))
lane_with f h past sent p own lane coded =
    subst (λ (ws : List ℕ). IsLane (map f (past ++ p ∷ [])) ws) (sym (map-append h sent (own ∷ [])))
    (subst (λ (bs : List ℕ). IsLane bs (map h sent ++ h own ∷ [])) (sym (map-append f past (p ∷ []))) (lane_more (map f past) (map h sent) (f p) (h own) lane coded))

-- the column of the next pixel
next_column : List Column → Pixel → Column
next_column sent p = record {
  blue = coded_word (disparity_of (map (λ (c : Column). c.blue) sent)) p.blue;
  green = coded_word (disparity_of (map (λ (c : Column). c.green) sent)) p.green;
  red = coded_word (disparity_of (map (λ (c : Column). c.red) sent)) p.red;
}

pixel_more : (past : List Pixel) (sent : List Column) (p : Pixel) → SpellsPixels past sent → SpellsPixels (past ++ p ∷ []) (sent ++ next_column sent p ∷ [])
unfolding next_column
pixel_more past sent p h = record {
  blue = lane_with (λ (q : Pixel). q.blue) (λ (c : Column). c.blue) past sent p (next_column sent p) h.blue refl;
  green = lane_with (λ (q : Pixel). q.green) (λ (c : Column). c.green) past sent p (next_column sent p) h.green refl;
  red = lane_with (λ (q : Pixel). q.red) (λ (c : Column). c.red) past sent p (next_column sent p) h.red refl;
}

no_lane : IsLane [] []
no_lane = record { same_length = refl; coded = λ j lt. absurd (omega arith) }

pub no_pixels : SpellsPixels [] []
no_pixels = record { blue = no_lane; green = no_lane; red = no_lane }

pub pixels_go_on : (past : List Pixel) (sent : List Column) (pixels : List Pixel) → SpellsPixels past sent → (columns : List Column) × SpellsPixels (past ++ pixels) (sent ++ columns)
pixels_go_on past sent [] h = ([], subst (λ (ps : List Pixel). SpellsPixels ps (sent ++ [])) (sym (append-nil past)) (subst (λ (cs : List Column). SpellsPixels past cs) (sym (append-nil sent)) h))
pixels_go_on past sent (p ∷ pixels) h =
    let own = next_column sent p in
    let all = pixels_go_on (past ++ p ∷ []) (sent ++ own ∷ []) pixels (pixel_more past sent p h) in
    (own ∷ all.0, subst (λ (ps : List Pixel). SpellsPixels ps (sent ++ own ∷ all.0)) (append_assoc past (p ∷ []) pixels) (subst (λ (cs : List Column). SpellsPixels ((past ++ p ∷ []) ++ pixels) cs) (append_assoc sent (own ∷ []) all.0) all.1))
