-- What vectors of sixteen bytes say, lane by lane.
use Rattle.std.specs.Prelude.{ℕ, ◌≡◌, ◌+◌, ◌-◌, ◌%◌, ◌/◌, ◌<◌, ◌^◌, ◌==◌, List, length, nat_lt, if◌then◌else◌, slice_index, Bool}
use Rattle.std.proofs.Common.{zero, suc, [], ◌∷◌}
use Rattle.std.specs.Int.Bits.{bit_xor, bit_and}

-- sixteen lanes, each of which has the value of its place
pub record HasLanes (v : List ℕ) (f : ℕ → ℕ) : Type 0 where
  pub long : length v ≡ 16
  pub each : (k : ℕ) → k < 16 → slice_index v k ≡ f k

-- the low eight bits of a character, as the upper bit says
abbrev pub turned : ℕ → ℕ → ℕ
turned l h = bit_xor l (if nat_lt 1 h then 255 else 0)

abbrev pub chained : ℕ → ℕ
chained x = bit_xor x ((x + x) % 256)

-- the byte of a character, as the vectors compute it
abbrev pub lane_byte : ℕ → ℕ → ℕ
lane_byte l h = bit_xor (chained (turned l h)) (bit_and ((bit_and h 1 + 255) % 256) 254)

-- the sum of the first lanes, up to one
abbrev pub sum_to : ℕ → List ℕ → ℕ
sum_to k [] = 0
sum_to zero (x ∷ xs) = x
sum_to (suc k) (x ∷ xs) = x + sum_to k xs

-- the ones of four bits, and sixteen times their turns
abbrev pub nibble_counts : List ℕ
nibble_counts = 0 ∷ 17 ∷ 33 ∷ 18 ∷ 33 ∷ 50 ∷ 34 ∷ 19 ∷ 17 ∷ 34 ∷ 50 ∷ 35 ∷ 18 ∷ 35 ∷ 19 ∷ 4 ∷ []

-- the same of the low eight bits of a character, but for the turn in their middle
abbrev pub lane_counts : ℕ → ℕ
lane_counts l = (slice_index nibble_counts (bit_and l 15) + slice_index nibble_counts (l / 2 ^ 4)) % 256

-- the ones of the whole character, by these counts
abbrev pub sum_of : ℕ → ℕ → ℕ
sum_of counts h = ((bit_and counts 15 + bit_and h 1) % 256 + (2 ^ 8 - (if nat_lt 1 h then 255 else 0))) % 2 ^ 8

abbrev pub lane_sum : ℕ → ℕ → ℕ
lane_sum l h = sum_of (lane_counts l) h

-- a number whose top bit says whether the character is rightly coded, where the disparity before it is negative, or null
abbrev pub right_by : ℕ → ℕ → ℕ → Bool → Bool → ℕ
right_by l h counts negative null =
    let many = ((counts + bit_and (chained (turned l h)) 16) % 256 + 64) % 256 in
    let u = (bit_and counts 15 + (2 ^ 8 - 4)) % 2 ^ 8 in
    let minus = if negative then 255 else 0 in
    let some = if null then 0 else 255 in
    let signed = bit_and ((bit_xor u minus + (2 ^ 8 - minus)) % 2 ^ 8) some in
    let e = bit_and (bit_xor h (h / 2 ^ 1)) 1 in
    bit_and ((signed + (2 ^ 8 - e)) % 2 ^ 8) (bit_xor many 255)

-- the same, where half the disparity before it is this one, counted from -128
abbrev pub right_of : ℕ → ℕ → ℕ → ℕ → ℕ
right_of l h counts b = right_by l h counts (nat_lt b 128) (b == 128)

abbrev pub lane_right : ℕ → ℕ → ℕ → ℕ
lane_right l h b = right_of l h (lane_counts l) b

abbrev pub fives : List ℕ
fives = 0 ∷ 251 ∷ 246 ∷ 241 ∷ 236 ∷ 231 ∷ 226 ∷ 221 ∷ 216 ∷ 211 ∷ 206 ∷ 201 ∷ 196 ∷ 191 ∷ 186 ∷ 181 ∷ []

-- half the disparity before a lane's character, counted from -128
abbrev pub half_before : ℕ → ℕ → ℕ → ℕ → ℕ
half_before carry five sum own = ((carry + five) % 256 + (sum + (2 ^ 8 - own)) % 2 ^ 8) % 256
