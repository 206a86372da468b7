-- What a level, a whole number of tenths of a dBm, stands for in nanowatts.
use Rattle.std.specs.Prelude.{◌≡◌, ℕ, ◌+◌, ◌-◌, ◌*◌, ◌/◌, ◌%◌, ◌^◌, ◌<◌, ◌≤◌, min, cond, List, [], ◌∷◌, ℤ, pos, negsuc, ◌+ℤ◌, ◌*ℤ◌, ◌≤ℤ◌, ◌<ℤ◌, int_lt, slice_index, unsigned_abs}
use Rattle.levels.specs.declared.Level.{Level}

-- n is the largest number whose power p is at most x
pub record Root (p x n : ℕ) : Type 0 where
  pub within : n ^ p ≤ x
  pub past : x < (n + 1) ^ p

-- The p mantissas of one decade of power: entry r is the largest m with m^p ≤ 10^(9p + r), the first ten digits of 10^(r/p).
abbrev pub LargestMantissas : ℕ → List ℕ → Type 0
LargestMantissas p table = (r : ℕ) → r < p → Root p (10 ^ (9 * p + r)) (slice_index table r)

-- the mantissas for tenths of a decibel, 100 to the decade, written out
abbrev pub written_mantissas : List ℕ
written_mantissas =
    1000000000 ∷ 1023292992 ∷ 1047128548 ∷ 1071519305 ∷ 1096478196 ∷ 1122018454 ∷ 1148153621 ∷ 1174897554 ∷ 1202264434 ∷ 1230268770 ∷
    1258925411 ∷ 1288249551 ∷ 1318256738 ∷ 1348962882 ∷ 1380384264 ∷ 1412537544 ∷ 1445439770 ∷ 1479108388 ∷ 1513561248 ∷ 1548816618 ∷
    1584893192 ∷ 1621810097 ∷ 1659586907 ∷ 1698243652 ∷ 1737800828 ∷ 1778279410 ∷ 1819700858 ∷ 1862087136 ∷ 1905460717 ∷ 1949844599 ∷
    1995262314 ∷ 2041737944 ∷ 2089296130 ∷ 2137962089 ∷ 2187761623 ∷ 2238721138 ∷ 2290867652 ∷ 2344228815 ∷ 2398832919 ∷ 2454708915 ∷
    2511886431 ∷ 2570395782 ∷ 2630267991 ∷ 2691534803 ∷ 2754228703 ∷ 2818382931 ∷ 2884031503 ∷ 2951209226 ∷ 3019951720 ∷ 3090295432 ∷
    3162277660 ∷ 3235936569 ∷ 3311311214 ∷ 3388441561 ∷ 3467368504 ∷ 3548133892 ∷ 3630780547 ∷ 3715352290 ∷ 3801893963 ∷ 3890451449 ∷
    3981071705 ∷ 4073802778 ∷ 4168693834 ∷ 4265795188 ∷ 4365158322 ∷ 4466835921 ∷ 4570881896 ∷ 4677351412 ∷ 4786300923 ∷ 4897788193 ∷
    5011872336 ∷ 5128613839 ∷ 5248074602 ∷ 5370317963 ∷ 5495408738 ∷ 5623413251 ∷ 5754399373 ∷ 5888436553 ∷ 6025595860 ∷ 6165950018 ∷
    6309573444 ∷ 6456542290 ∷ 6606934480 ∷ 6760829753 ∷ 6918309709 ∷ 7079457843 ∷ 7244359600 ∷ 7413102413 ∷ 7585775750 ∷ 7762471166 ∷
    7943282347 ∷ 8128305161 ∷ 8317637711 ∷ 8511380382 ∷ 8709635899 ∷ 8912509381 ∷ 9120108393 ∷ 9332543007 ∷ 9549925860 ∷ 9772372209 ∷
    []

-- the same under a name that stays shut, so that other crates' goals carry the name and not the numbers
unfoldable pub mantissas : List ℕ
mantissas = written_mantissas

-- The power at i steps above one nanowatt, p steps to the decade: of the ten digits of the step's mantissa, those from one nanowatt up.
unfoldable pub scaled : ℕ → List ℕ → ℕ → ℕ
scaled p table i = slice_index table (i % p) / 10 ^ (9 - i / p)

-- how many tenths a level of d tenths, -600 or more, stands above -600, which is one nanowatt
abbrev pub steps : ℤ → ℕ
steps d = unsigned_abs (d +ℤ pos 600)

-- the power in nanowatts of the level of d tenths: nothing below -600, and above 399 what it is at 399
unfoldable pub W : ℤ → ℕ
W d = cond (int_lt d (negsuc 599)) 0 (scaled 100 mantissas (min (steps d) 999))

-- the level of so many decibels and tenths
abbrev pub level_of : ℤ → ℤ → Level
level_of decibels tenths = record { tenths = pos 10 *ℤ decibels +ℤ tenths }

-- the power of a level in whole nanowatts
abbrev pub power : Level → ℕ
power l = W l.tenths

-- from -60 dBm to 39.9 dBm
pub record InRange (l : Level) : Type 0 where
  pub from : negsuc 599 ≤ℤ l.tenths
  pub to : l.tenths ≤ℤ pos 399

-- n nanowatts are the power of the level, whichever it is. In the range n^100 ≤ 10^(600 + d) < (n + 1)^100, and n is the only such number.
pub record LargestWholeNanowatts (l : Level) (n : ℕ) : Type 0 where
  pub largest : InRange l → Root 100 (10 ^ steps l.tenths) n
  pub no_other : InRange l → (m : ℕ) → Root 100 (10 ^ steps l.tenths) m → m ≡ n
  pub none_below : l.tenths <ℤ negsuc 599 → n ≡ 0
  pub top_above : pos 399 <ℤ l.tenths → n ≡ W (pos 399)

-- With d = 100 q + r and 0 ≤ r < 100, n is entry r times 10^q, divided by 1000 and rounded down once.
-- As q may be as low as -6, both 10^q and 1000 stand here times 10^6.
abbrev pub MantissaTimesPowerOfTen : Level → ℕ → Type 0
MantissaTimesPowerOfTen l n =
    InRange l → (q : ℤ) (r : ℕ) → r < 100 → l.tenths ≡ pos 100 *ℤ q +ℤ pos r → n ≡ slice_index mantissas r * 10 ^ unsigned_abs (q +ℤ pos 6) / 10 ^ 9

-- no higher level has less than n nanowatts, and no lower one more
pub record RisesWithLevel (l : Level) (n : ℕ) : Type 0 where
  pub higher : (other : Level) → l.tenths ≤ℤ other.tenths → n ≤ power other
  pub lower : (other : Level) → other.tenths ≤ℤ l.tenths → power other ≤ n
