-- The fields of the InfoFrames whose layout is known, by their bits: CTA-861, sections 6.4 (AVI), 6.5 (source product
-- description) and 6.6 (audio); HDMI 1.4, section 8.2. PB1 is the first byte of a payload.
use Rattle.std.specs.Prelude.{ℕ, ◌+◌, ◌-◌, ◌*◌, ◌/◌, ◌%◌, ◌^◌, Bool, ◌&&◌, List, [], ◌∷◌, take, drop, nat_lt}
use Rattle.infoframe.specs.declared.content.Avi.{Avi}
use Rattle.infoframe.specs.declared.content.AudioInfo.{AudioInfo}
use Rattle.infoframe.specs.declared.content.Spd.{Spd}

-- the number that bytes say, the first byte lowest
unfoldable pub number_of : List ℕ → ℕ
number_of [] = 0
number_of (b ∷ bs) = b + 256 * number_of bs

-- the number that bits say, from bit `first` to bit `last` of PB(byte); bit 8 is bit 0 of the byte after it
unfoldable pub field : List ℕ → ℕ → ℕ → ℕ → ℕ
field payload byte first last = number_of (drop (byte - 1) payload) / 2 ^ first % 2 ^ (last + 1 - first)

-- each field of an AVI InfoFrame: its byte, its first and its last bit
unfoldable pub avi_table : (ℕ → ℕ → ℕ → ℕ) → Avi
avi_table at = record {
  s = at 1 0 1;
  b = at 1 2 3;
  a = at 1 4 4;
  y = at 1 5 6;
  r = at 2 0 3;
  m = at 2 4 5;
  c = at 2 6 7;
  sc = at 3 0 1;
  q = at 3 2 3;
  ec = at 3 4 6;
  itc = at 3 7 7;
  vic = at 4 0 6;
  pr = at 5 0 3;
  bars = at 6 0 15 ∷ at 8 0 15 ∷ at 10 0 15 ∷ at 12 0 15 ∷ [];
}

-- the bits of an AVI InfoFrame that have no field
unfoldable pub avi_reserved : (ℕ → ℕ → ℕ → ℕ) → List ℕ
avi_reserved at = at 1 7 7 ∷ at 4 7 7 ∷ at 5 4 7 ∷ []

-- each field of an audio InfoFrame: its byte, its first and its last bit
unfoldable pub audio_table : (ℕ → ℕ → ℕ → ℕ) → AudioInfo
audio_table at = record {
  cc = at 1 0 2;
  ct = at 1 4 7;
  ss = at 2 0 1;
  sf = at 2 2 4;
  ca = at 4 0 7;
  lsv = at 5 3 6;
  dm = at 5 7 7;
}

-- the bits of an audio InfoFrame that have no field
unfoldable pub audio_reserved : (ℕ → ℕ → ℕ → ℕ) → List ℕ
audio_reserved at =
    at 1 3 3 ∷ at 2 5 7 ∷ at 3 0 7 ∷ at 5 0 2 ∷ at 6 0 7 ∷ at 7 0 7 ∷ at 8 0 7 ∷ at 9 0 7 ∷ at 10 0 7 ∷ []

unfoldable pub avi_of : List ℕ → Avi
avi_of payload = avi_table (field payload)

unfoldable pub audio_of : List ℕ → AudioInfo
audio_of payload = audio_table (field payload)

-- the vendor's name is PB1 to PB8, the product's PB9 to PB24, and the kind of source PB25
unfoldable pub spd_of : List ℕ → Spd
spd_of payload = record { vendor = take 8 payload; product = take 16 (drop 8 payload); kind = field payload 25 0 7 }

-- a number of so many bits is below this
abbrev pub limit : ℕ → ℕ → ℕ → ℕ
limit byte first last = 2 ^ (last + 1 - first)

-- whether each field fits its bits; the four bars have all the bits of their type
unfoldable pub avi_fits : Avi → Bool
avi_fits x =
    let most = avi_table limit in
    nat_lt x.s most.s && (nat_lt x.b most.b && (nat_lt x.a most.a && (nat_lt x.y most.y
    && (nat_lt x.r most.r && (nat_lt x.m most.m && (nat_lt x.c most.c
    && (nat_lt x.sc most.sc && (nat_lt x.q most.q && (nat_lt x.ec most.ec && (nat_lt x.itc most.itc
    && (nat_lt x.vic most.vic && nat_lt x.pr most.pr)))))))))))

-- whether each field fits its bits; the channel allocation has all the bits of its type
unfoldable pub audio_fits : AudioInfo → Bool
audio_fits x =
    let most = audio_table limit in
    nat_lt x.cc most.cc && (nat_lt x.ct most.ct && (nat_lt x.ss most.ss && (nat_lt x.sf most.sf
    && (nat_lt x.lsv most.lsv && nat_lt x.dm most.dm))))
