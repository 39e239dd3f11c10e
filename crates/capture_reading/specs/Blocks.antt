-- The whole blocks of a capture that stand before a place, or that were read: the bits that each lane has in them.
use Rattle.std.specs.Prelude.{◌≡◌, ◌⊎◌, ◌<◌, ℕ, ◌+◌, List, [], ◌++◌, length}
use Rattle.capture_file.specs.Captures.{BeginsCapture, HasRead, IsHeadless, StopsIn, block_size}
use Rattle.link_sink.specs.Pieces.{no_bits}
use Rattle.link_sink.specs.Sinks.{Fed}

-- the header and the blocks below j have these bits
abbrev pub HasBlocks : List ℕ → ℕ → List ℕ → Fed → Type 0
HasBlocks counts j taken fed = HasRead counts j (length taken) taken fed.blue fed.green fed.red

-- the whole blocks of bytes before the place at which they stop being the beginning of a capture: none, where no header is
-- whole
abbrev pub AreBefore : List ℕ → ℕ → Fed → Type 0
AreBefore bytes place fed =
    (IsHeadless bytes × (fed ≡ no_bits))
    ⊎ ((taken rest counts : List ℕ) × (j : ℕ) × (bytes ≡ taken ++ rest) × HasBlocks counts j taken fed × StopsIn counts j taken place)

-- some capture begins with the bytes that were read, and these are their whole blocks, where the next was not read whole
abbrev pub AreRead : List ℕ → Fed → Type 0
AreRead read fed =
    BeginsCapture read
    × ((IsHeadless read × (fed ≡ no_bits))
    ⊎ ((taken part counts : List ℕ) × (j : ℕ) × (read ≡ taken ++ part) × HasBlocks counts j taken fed × ((length part < block_size j counts) ⊎ (part ≡ []))))

-- one block more was read
pub record AreNext (before after : Fed) (read : List ℕ) : Type 0 where
  pub counts : List ℕ
  pub j : ℕ
  pub taken : List ℕ
  pub block : List ℕ
  pub read_is : read ≡ taken ++ block
  pub had : HasBlocks counts j taken before
  pub has : HasBlocks counts (j + 1) read after
