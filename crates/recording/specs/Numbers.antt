-- A number: groups of seven bits, lowest group first, the top bit set on all bytes but the last.
use Rattle.std.specs.Prelude.{◌≡◌, ℕ, zero, suc, ◌+◌, ◌-◌, ◌*◌, ◌/◌, ◌%◌, ◌^◌, ◌<◌, ◌≤◌, cond, List, [], ◌∷◌, ◌++◌, length, Ok, Err, Result, ◌==◌, nat_le, nat_lt}
use Rattle.std.specs.List.{AllByRecursion}
use Rattle.faults.specs.declared.NumberFault.{NumberFault}
use Rattle.recording.specs.declared.parsed.Parsed.{Parsed}
use Rattle.faults.specs.Faults.{truncated_number, malformed_number}
use Rattle.recording.specs.Exactly.{Exactly}

-- the shortest form of n, in at most k groups
abbrev pub shortest_in : ℕ → ℕ → List ℕ
shortest_in zero n = []
shortest_in (suc k) n = cond (nat_lt n 128) (n ∷ []) ((n % 128 + 128) ∷ shortest_in k (n / 128))

-- the shortest form of a number below 2 ^ 32 has at most five groups
abbrev pub shortest : ℕ → List ℕ
shortest n = shortest_in 5 n

-- a form of a number: the top bit is set on all bytes but the last
abbrev pub Form : List ℕ → Type 0
Form [] = ⊥
Form (b ∷ []) = b < 128
Form (b ∷ c ∷ bytes) = (128 ≤ b) × (b < 256) × Form (c ∷ bytes)

-- what its groups of seven bits come to, lowest group first
abbrev pub worth : List ℕ → ℕ
worth [] = 0
worth (b ∷ bytes) = b % 128 + 128 * worth bytes

-- the form of n than which none is shorter
pub record IsShortest (n : ℕ) (form : List ℕ) : Type 0 where
  pub is_form : Form form
  pub comes_to : worth form ≡ n
  pub five_bytes : length form ≤ 5
  pub none_shorter : (other : List ℕ) → Form other → worth other ≡ n → length form ≤ length other
  pub no_other : (other : List ℕ) → Form other → worth other ≡ n → length other ≡ length form → other ≡ form

abbrev pub ShortestNumber : Type 0
ShortestNumber = (n : ℕ) → n < 2 ^ 32 → IsShortest n (shortest n)

-- the bytes begin with the shortest form of n, and the rest follows it
abbrev pub BeginsWith : ℕ → List ℕ → List ℕ → Type 0
BeginsWith n rest bytes = (n < 2 ^ 32) × (bytes ≡ shortest n ++ rest)

-- the bytes end inside a number: fewer than five are left, and all have the top bit set
abbrev pub CutNumber : List ℕ → Type 0
CutNumber bytes = (length bytes < 5) × AllByRecursion (λ b. 128 ≤ b) bytes

-- every other case: over five bytes, over 4,294,967,295, or not in the shortest form
abbrev pub IllFormedNumber : List ℕ → Type 0
IllFormedNumber bytes = (CutNumber bytes → ⊥) × ((n : ℕ) (rest : List ℕ) → BeginsWith n rest bytes → ⊥)

-- what is read at the front of some bytes: a number and the bytes after it, or a fault
pub data NumberRead : Type 0 where
  got : ℕ → List ℕ → NumberRead
  fails : NumberFault → NumberRead

abbrev pub number_read : Result (Parsed ℕ) NumberFault → NumberRead
number_read (Ok n) = got n.value n.rest.now
number_read (Err fault) = fails fault

-- the lowest group, and the number that the groups above it hold
abbrev pub joined_number : ℕ → ℕ → ℕ → Result ℕ NumberFault
joined_number place low high =
    cond (high == 0) (Err (malformed_number place))
    (cond (nat_le (high * 128 + low) 4294967295) (Ok (high * 128 + low)) (Err (malformed_number place)))

abbrev pub with_rest : List ℕ → Result ℕ NumberFault → NumberRead
with_rest rest (Ok n) = got n rest
with_rest rest (Err fault) = fails fault

abbrev pub join : ℕ → ℕ → NumberRead → NumberRead
join place low (got high rest) = with_rest rest (joined_number place low high)
join place low (fails fault) = fails fault

-- the number of at most k groups at the front of the bytes
abbrev pub groups : ℕ → ℕ → List ℕ → NumberRead
groups place zero bytes = fails (malformed_number place)
groups place (suc k) [] = fails (truncated_number place)
groups place (suc k) (b ∷ bytes) = cond (nat_lt b 128) (got b bytes) (join place (b - 128) (groups place k bytes))

-- the number at the front of the bytes, which lie in the record at the place
abbrev pub number_at : ℕ → List ℕ → NumberRead
number_at place bytes = groups place 5 bytes

-- each answer exactly where its condition on the bytes holds
pub record ReadExactly (place : ℕ) (bytes : List ℕ) (r : NumberRead) : Type 0 where
  pub read_where_shortest : (n : ℕ) (rest : List ℕ) → Exactly (r ≡ got n rest) (BeginsWith n rest bytes)
  pub cut_number : Exactly (r ≡ fails (truncated_number place)) (CutNumber bytes)
  pub no_number : Exactly (r ≡ fails (malformed_number place)) (IllFormedNumber bytes)

-- a number that is written in its shortest form is read back, whatever follows it
abbrev pub ReadsBack : ℕ → Type 0
ReadsBack place = (n : ℕ) (rest : List ℕ) → n < 2 ^ 32 → number_at place (shortest n ++ rest) ≡ got n rest
