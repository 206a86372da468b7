-- How a room is split among wants.
use Rattle.std.specs.Prelude.{ℕ, ◌+◌, ◌-◌, ◌*◌, ◌/◌, ◌%◌, Bool, cond, ◌&&◌, List, [], ◌∷◌, map, nat_le, nat_lt}
use Rattle.std.specs.List.{list_all}

-- what a list of numbers adds up to
abbrev pub sum_of : List ℕ → ℕ
sum_of [] = 0
sum_of (n ∷ ns) = n + sum_of ns

-- each want's share of the room, want × room ÷ (sum of wants), rounded down
abbrev pub rounded_down : (room sum : ℕ) → List ℕ → List ℕ
rounded_down room sum wants = map (λ w. w * room / sum) wants

-- one nanowatt, where the division left a remainder and something is left over
abbrev pub extra : (remainder leftover : ℕ) → ℕ
extra remainder leftover = cond (nat_lt 0 remainder && nat_lt 0 leftover) 1 0

-- each want's share, with what is left over going one nanowatt each, in order, to shares that were rounded
abbrev pub with_leftovers : (room sum leftover : ℕ) → List ℕ → List ℕ
with_leftovers room sum leftover [] = []
with_leftovers room sum leftover (w ∷ ws) =
    let one : ℕ = extra (w * room % sum) leftover in
    (w * room / sum + one) ∷ with_leftovers room sum (leftover - one) ws

-- the grants: the wants where they fit, else their shares of the room
abbrev pub split_of : (wants : List ℕ) (room : ℕ) → List ℕ
split_of wants room =
    cond (nat_le (sum_of wants) room) wants
    (with_leftovers room (sum_of wants) (room - sum_of (rounded_down room (sum_of wants) wants)) wants)

-- no want is above the largest power, 33 dBm
abbrev pub all_within : List ℕ → Bool
all_within wants = list_all (λ w. nat_le w 1995262314) wants

-- each claim with its grant
abbrev pub with_grants : {C : Type 0} → (C → ℕ → C) → List C → List ℕ → List C
with_grants given [] ns = []
with_grants given (c ∷ cs) [] = c ∷ cs
with_grants given (c ∷ cs) (n ∷ ns) = given c n ∷ with_grants given cs ns
