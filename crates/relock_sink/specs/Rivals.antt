-- When the alignment in use is refuted: a guard band is received whole at other edges, and by the alignment in use a control period
-- ends there after which no period opens. After each control period a video data period or a data island begins with a guard band
-- of two columns (HDMI 1.4, section 5.2); that an alignment is let go where none does is this project's own rule.
use Rattle.std.specs.Prelude.{ℕ, ◌+◌, ◌-◌, ◌/◌, ◌<◌, max, min, Bool, true, ◌≡◌, ◌&&◌, ◌||◌, nat_le}
use Rattle.tmds_word.specs.Column.{Column}
use Rattle.terc4.specs.Columns.{video_words, island_words}
use Rattle.lane_deskew.specs.Triples.{IsTriple}
use Rattle.link_sink.specs.Sinks.{Fed}
use Rattle.relock_sink.specs.Bands.{OfThree, AreUnopened, AtEdges, FromColumn}
use Rattle.relock_sink.specs.Relocks.{IsFirstSo}

-- whether two columns are the guard band of a period, each character as it is sent
unfoldable pub is_guard_band : Column → Column → Bool
is_guard_band g h = (nat_le 3 (video_words g) && nat_le 3 (video_words h)) || (nat_le 3 (island_words g) && nat_le 3 (island_words h))

-- lanes are first aligned at edges at which a period opens
abbrev pub IsConfirmed : Fed → (p q r : ℕ) → Type 0
IsConfirmed fed p q r = IsFirstSo true fed p q r

-- edges later than those of the alignment in use, at which a guard band is received whole
pub record IsLaterBand (fed : Fed) (p q r d e f : ℕ) : Type 0 where
  pub own : IsConfirmed fed p q r
  pub triple : IsTriple fed.blue fed.green fed.red d e f
  pub blue_later : p < d
  pub green_later : q < e
  pub red_later : r < f
  pub band : AtEdges is_guard_band true fed d e f

-- between any two lanes the edges of two alignments are as far apart
abbrev pub HaveSameSkew : ℕ → ℕ → ℕ → ℕ → ℕ → ℕ → Type 0
HaveSameSkew p q r d e f = (d + q ≡ e + p) × (d + r ≡ f + p)

-- the second of three numbers in their order
abbrev pub middle : ℕ → ℕ → ℕ → ℕ
middle a b c = max (min a b) (min (max a b) c)

-- how many columns of the alignment at the first edges there are before the others: they are as many on one lane at least, and on
-- the other two no more on one, no fewer on the other
abbrev pub columns_before : ℕ → ℕ → ℕ → ℕ → ℕ → ℕ → ℕ
columns_before p q r d e f = middle ((d - p) / 10) ((e - q) / 10) ((f - r) / 10)

-- later edges of another skew, at which a guard band is received whole; and something is so of three columns by the alignment
-- in use, in whose midst they lie: of the last one before them, and of two more
pub record IsRival (P : OfThree) (fed : Fed) (p q r d e f : ℕ) : Type 0 where
  pub later : IsLaterBand fed p q r d e f
  pub other_skew : HaveSameSkew p q r d e f → ⊥
  pub period : FromColumn P fed p q r (11 + columns_before p q r d e f)

-- the alignment at the first edges is refuted by the other edges: by it a control period ends there, and no period opens after it
abbrev pub IsRefuted : Fed → (p q r d e f : ℕ) → Type 0
IsRefuted fed p q r d e f = IsRival AreUnopened fed p q r d e f
