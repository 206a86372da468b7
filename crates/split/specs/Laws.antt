-- What holds of the grants of every split, over the wants and the room.
use Rattle.std.specs.Prelude.{◌≡◌, ℕ, ◌+◌, ◌*◌, ◌/◌, ◌%◌, ◌<◌, ◌≤◌, List, slice_index}
use Rattle.split.specs.Shares.{sum_of}

module _ (wants : List ℕ) (room : ℕ) (grants : List ℕ) where
  -- the wants do not fit the room
  abbrev pub Short : Type 0
  Short = room < sum_of wants

  -- wants that fit are granted whole
  abbrev pub WholeWhereTheyFit : Type 0
  WholeWhereTheyFit = sum_of wants ≤ room → grants ≡ wants

  -- else the room is spent, to the last nanowatt
  abbrev pub RoomSpentExactly : Type 0
  RoomSpentExactly = Short → sum_of grants ≡ room

  -- no claim is granted more than it wants
  abbrev pub NoMoreThanWanted : Type 0
  NoMoreThanWanted = (k : ℕ) → slice_index grants k ≤ slice_index wants k

  -- a grant is less than one nanowatt from the exact share, want × room ÷ (sum of wants), on either side
  abbrev pub WithinOneNanowatt : Type 0
  WithinOneNanowatt = Short → (k : ℕ) →
      (slice_index wants k * room < (slice_index grants k + 1) * sum_of wants) × (slice_index grants k * sum_of wants < slice_index wants k * room + sum_of wants)

  -- the division of the claim at k left a remainder
  abbrev pub Rounded : ℕ → Type 0
  Rounded k = 0 < slice_index wants k * room % sum_of wants

  -- the claim at k got one of the nanowatts left over
  abbrev pub GotOneMore : ℕ → Type 0
  GotOneMore k = slice_index wants k * room / sum_of wants < slice_index grants k

  -- what is left over goes only to claims with a remainder, and no such claim goes without while a later one gets
  abbrev pub LeftoversInOrder : Type 0
  LeftoversInOrder = Short →
      ((k : ℕ) → GotOneMore k → Rounded k) × ((j k : ℕ) → j < k → Rounded j → GotOneMore k → GotOneMore j)
