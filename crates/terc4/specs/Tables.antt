-- The characters that stand for no pixel: control words, TERC4 words and guard words.
-- Each is a number whose bit 0 is q[0], the bit that is sent first.
use Rattle.std.specs.Prelude.{ℕ, Bool, false, List, [], ◌∷◌, ◌==◌, ◌||◌, Option, position}

-- the control words, by the two bits D1 D0 that they carry (DVI 1.0, section 3.2.2; HDMI 1.4, section 5.4.2)
unfoldable pub control_words : List ℕ
control_words = 0x354 ∷ 0x0ab ∷ 0x154 ∷ 0x2ab ∷ []

-- the TERC4 words, by the four bits D3 D2 D1 D0 that they carry (HDMI 1.4, section 5.4.3)
unfoldable pub terc_words : List ℕ
terc_words =
    0x29c ∷ 0x263 ∷ 0x2e4 ∷ 0x2e2 ∷ 0x171 ∷ 0x11e ∷ 0x18e ∷ 0x13c ∷
    0x2cc ∷ 0x139 ∷ 0x19c ∷ 0x2c6 ∷ 0x28e ∷ 0x271 ∷ 0x163 ∷ 0x2c3 ∷ []

-- the guard words before a video period, on lanes 0, 1 and 2 (HDMI 1.4, section 5.2.2.1)
unfoldable pub video_guard : List ℕ
video_guard = 0x2cc ∷ 0x133 ∷ 0x2cc ∷ []

-- the guard word before and after a data island, on lanes 1 and 2 (HDMI 1.4, section 5.2.3.3)
unfoldable pub island_guard : ℕ
island_guard = 0x133

-- the value that a word has in a table: the least place at which it stands
unfoldable pub value_in : List ℕ → ℕ → Option ℕ
value_in words w = position (λ x. x == w) words

-- whether a word stands in a table
unfoldable pub is_in : List ℕ → ℕ → Bool
is_in [] w = false
is_in (x ∷ xs) w = (x == w) || is_in xs w

-- whether a word is one of the four control words
unfoldable pub is_control : ℕ → Bool
is_control w = is_in control_words w

-- whether a word is one of the sixteen TERC4 words
unfoldable pub is_terc : ℕ → Bool
is_terc w = is_in terc_words w

-- whether a word is a guard word of some lane
unfoldable pub is_guard : ℕ → Bool
is_guard w = is_in (island_guard ∷ video_guard) w
