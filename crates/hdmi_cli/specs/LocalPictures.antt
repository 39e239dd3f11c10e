-- Which lines of pixels `recover content` lists of a capture of which anything may have been received after the alignment.
use Rattle.std.specs.Prelude.{◌≡◌, ◌+◌, ◌/◌, ◌<◌, ◌≤◌, ℕ, true, List, ◌∷◌, ◌++◌, length, take, drop, codes, Option}
use Rattle.std.specs.List.{filter}
use Rattle.std.specs.Io.KnownBytes.{Appends}
use Rattle.tmds_word.specs.Column.{Column}
use Rattle.island_pack.specs.Conforming.{is_video_period}
use Rattle.island_pack.specs.Periods.{Period, video, pixels_of, period_columns, columns_of}
use Rattle.period_grammar.specs.Heard.{heard}
use Rattle.frame_build.specs.Group.{line_at}
use Rattle.link_laws.specs.Account.{pixel_bytes}
use Rattle.link_laws.specs.Local.{part_at, StandsAlone}
use Rattle.listing_writer.specs.ContentText.{row_lines, frame_events, content_lines, text_of}
use Rattle.listing_laws.specs.ListingLaws.{tells_picture}
use Rattle.hdmi_cli.specs.Headline.{TappedStream, aligned_of, IsFirstOf}
use Rattle.hdmi_cli.specs.Local.{reported_to}

-- the bytes of a line's pixels at column j: each as sent where its word was received as sent, else the one that the received word has
abbrev pub pixels_at : TappedStream → List ℕ → ℕ → List ℕ
pixels_at t bytes j = pixel_bytes (pixels_of bytes) (drop 2 (part_at j (video bytes) t.sent)) (drop 2 (part_at j (video bytes) t.received))

-- of the lines of rows and frames those of a line of pixels at column j come after those of what is reported before its second
-- column: where a change of VSYNC was heard before, its row, and its number in its frame where it is not as wide as the first one
pub record HasPicture (t : TappedStream) (a j : ℕ) (bytes : List ℕ) (aligned : List Column) : Type 0 where
  pub more : List (List ℕ)
  pub pictures :
      let pixels = pixels_at t bytes j in
      filter tells_picture (content_lines (heard aligned))
      ≡ filter tells_picture (content_lines (reported_to a j aligned))
      ++ (row_lines pixels (line_at (frame_events (reported_to a j aligned)) (length pixels / 3)) ++ more)

-- the output grew by the content listing of what is heard of the columns that are aligned at three edges, and each line of pixels that
-- stands alone is listed so
pub record ArePicturesFrom (t : TappedStream) (d e f a : ℕ) (old new : Option (List ℕ)) : Type 0 where
  pub columns : aligned_of t d e f ≡ take (length (aligned_of t d e f)) (drop a t.received)
  pub written : Appends old new (text_of (content_lines (heard (aligned_of t d e f))) ++ codes "end\n")
  pub pictures :
      (front : List Period) (bytes : List ℕ) (back : List Period) → t.periods ≡ front ++ (video bytes ∷ back) → is_video_period bytes ≡ true
      → StandsAlone t.received (video bytes) t.sent (columns_of front) → a + 12 ≤ columns_of front
      → columns_of front + period_columns (video bytes) < a + length (aligned_of t d e f)
      → HasPicture t a (columns_of front) bytes (aligned_of t d e f)

abbrev pub ArePicturesBy : TappedStream → ℕ → Option (List ℕ) → Option (List ℕ) → Type 0
ArePicturesBy t until old new = (d e f : ℕ) × IsFirstOf t d e f × ((a : ℕ) × (a + 12 ≤ until) × ArePicturesFrom t d e f a old new)
