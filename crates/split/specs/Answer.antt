-- What a split answers, and the claims after it.
use Rattle.std.specs.Prelude.{ℕ, Bool, cond, ◌&&◌, List, map, length, Ok, Err, Result, nat_le}
use Rattle.refusals.specs.declared.Refusal.{Refusal}
use Rattle.refusals.specs.declared.Refusal.TheVariants.{OutOfRange}
use Rattle.split.specs.Shares.{all_within, split_of, with_grants}

-- at most eight claims, and neither the room nor a want above the largest power
abbrev pub allowed : (wants : List ℕ) (room : ℕ) → Bool
allowed wants room = nat_le (length wants) 8 && (nat_le room 1995262314 && all_within wants)

abbrev pub answer : (wants : List ℕ) (room : ℕ) → Result (Unit {0}) Refusal
answer wants room = cond (allowed wants room) (Ok tt) (Err OutOfRange)

-- each claim with its grant, or the claims as they were where the split is refused
abbrev pub after : {C : Type 0} (asks : C → ℕ) (given : C → ℕ → C) → List C → (room : ℕ) → List C
after asks given cs room =
    cond (allowed (map asks cs) room) (with_grants given cs (split_of (map asks cs) room)) cs
