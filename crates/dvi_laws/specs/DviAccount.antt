-- The account of a stream without guard bands: what one who knows the periods writes of the received columns.
use Rattle.std.specs.Prelude.{ℕ, zero, suc, ◌+◌, ◌-◌, cond, List, [], ◌∷◌, ◌++◌, length, take, drop, nat_lt}
use Rattle.tmds_word.specs.Column.{Column}
use Rattle.island_pack.specs.Periods.{Period, control, video, island, Pixel, pixels_of}
use Rattle.period_grammar.specs.Heard.{codes_of}
use Rattle.period_grammar.specs.Events.{Event, line, cut}
use Rattle.link_laws.specs.Account.{control_row, pixel_bytes}
use Rattle.source_end.specs.DviPeriods.{dvi_columns}

-- the line, and then on each lane the first word that is not coded as it should be, of pixels from column b on
unfoldable pub dvi_video_row : ℕ → List Pixel → List Column → List Column → List Event
dvi_video_row b pixels ss rs = line (pixel_bytes pixels ss rs) ∷ codes_of b rs

-- a video period from column b on, of which m columns were received: its row is reported at the column after it
unfoldable pub dvi_video_reported : ℕ → ℕ → List Pixel → List Column → List Column → List Event
dvi_video_reported b zero pixels ss rs = []
dvi_video_reported b (suc i) pixels ss rs = cond (nat_lt (length pixels) (suc i)) (dvi_video_row b pixels ss rs) (cut b ∷ [])

unfoldable pub dvi_row : ℕ → ℕ → Period → List Column → List Column → List Event
dvi_row j m (control runs) ss rs = control_row j (take m rs)
dvi_row j m (video bytes) ss rs = dvi_video_reported j m (pixels_of bytes) ss rs
dvi_row j m (island x) ss rs = []

-- periods from column j on, of which m columns were received
unfoldable pub dvi_account_from : ℕ → ℕ → List Period → List Column → List Column → List Event
dvi_account_from j m [] ss rs = []
dvi_account_from j m (p ∷ ps) ss rs =
    dvi_row j m p (take (dvi_columns p) ss) (take (dvi_columns p) rs)
    ++ dvi_account_from (j + dvi_columns p) (m - dvi_columns p) ps (drop (dvi_columns p) ss) (drop (dvi_columns p) rs)

-- m columns from column a of a control period on, counted from there
unfoldable pub dvi_account_at : Period → ℕ → ℕ → List Period → List Column → List Column → List Event
dvi_account_at p a m ps ss rs =
    control_row 0 (take m (drop a (take (dvi_columns p) rs)))
    ++ dvi_account_from (dvi_columns p - a) (m - (dvi_columns p - a)) ps (drop (dvi_columns p) ss) (drop (dvi_columns p) rs)

-- m columns from column a on, which lies in a control period; ss were sent and rs received
unfoldable pub dvi_account : List Period → List Column → List Column → ℕ → ℕ → List Event
dvi_account [] ss rs a m = []
dvi_account (p ∷ ps) ss rs a m =
    cond (nat_lt a (dvi_columns p))
    (dvi_account_at p a m ps ss rs)
    (dvi_account ps (drop (dvi_columns p) ss) (drop (dvi_columns p) rs) (a - dvi_columns p) m)
