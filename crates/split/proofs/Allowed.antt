-- What is within the limits, and what a split that is allowed answers.
use Rattle.std.proofs.Common.{◌≡◌, ℕ, ◌+◌, ◌*◌, ◌/◌, ◌^◌, ◌<◌, ◌≤◌, true, leb, List, [], ◌∷◌, map, length, sym, refl, ap, ◌∙◌, arith}
use Rattle.std.proofs.lemmas.Bool.{leb-true, le-leb, and_parts}
use Rattle.std.proofs.lemmas.List.{length-map}
use Rattle.std.proofs.lemmas.List.Folds.{list_all-map}
use Rattle.std.proofs.lemmas.List.Sums.{AllPass-from_list_all, sum_by-cons, sum_by-le}
use Rattle.std.proofs.lemmas.Nat.{mul-le}
use Rattle.std.proofs.lemmas.Simd.{map-map}
use Rattle.std.specs.List.{sum_by, list_all, All}
use Rattle.split.specs.Shares.{sum_of, rounded_down, all_within}
use Rattle.split.specs.Answer.{allowed}
use Rattle.split.proofs.Exact.{floors_room}

-- what claims want together, as a sum over the claims
pub sum_of_wants : {C : Type 0} (asks : C → ℕ) (cs : List C) → sum_by asks cs ≡ sum_of (map asks cs)
sum_of_wants asks [] = refl
sum_of_wants asks (c ∷ cs) = sum_by-cons asks c cs ∙ ap (λ (n : ℕ). asks c + n) (sum_of_wants asks cs)

-- the shares, rounded down, as a sum over the claims
pub sum_of_floors : {C : Type 0} (asks : C → ℕ) (room total : ℕ) (cs : List C) → sum_by (λ c. asks c * room / total) cs ≡ sum_of (rounded_down room total (map asks cs))
sum_of_floors asks room total cs = sum_of_wants (λ c. asks c * room / total) cs ∙ ap sum_of (sym (map-map (λ w. w * room / total) asks cs))

pub floors_within : {C : Type 0} (asks : C → ℕ) (room total : ℕ) (cs : List C) → total ≡ sum_by asks cs → room < total → sum_by (λ c. asks c * room / total) cs ≤ room
floors_within asks room total cs e h = omega (arith, sum_of_floors asks room total cs, floors_room room total (map asks cs) (e ∙ sum_of_wants asks cs) h)

-- no claim wants more than the largest power
pub each_within : {C : Type 0} (asks : C → ℕ) (cs : List C) → all_within (map asks cs) ≡ true → All (λ c. asks c ≤ 1995262314) cs
each_within asks cs h k d i = leb-true _ _ (AllPass-from_list_all (λ c. leb (asks c) 1995262314) cs (sym (list_all-map _ asks cs) ∙ h) k d i)

pub scaled_bound : (w room : ℕ) → w ≤ 1995262314 → room ≤ 1995262314 → w * room < 2 ^ 62
scaled_bound w room h k = omega (arith, mul-le w room 1995262314 1995262314 h k)

-- the limits, tested on the claims themselves
pub allowed_claims : {C : Type 0} (asks : C → ℕ) (cs : List C) (room : ℕ) → length cs ≤ 8 → room ≤ 1995262314 → allowed (map asks cs) room ≡ list_all (λ c. leb (asks c) 1995262314) cs
allowed_claims asks cs room few low = rw (length-map cs asks, le-leb _ _ few, le-leb _ _ low) (list_all-map _ asks cs)

pub allowed_parts : (ws : List ℕ) (room : ℕ) → allowed ws room ≡ true → (length ws ≤ 8) × (room ≤ 1995262314) × (all_within ws ≡ true)
allowed_parts ws room h =
    let few = and_parts (leb (length ws) 8) _ h in
    let rest = and_parts (leb room 1995262314) (all_within ws) few.1 in
    (leb-true (length ws) 8 few.0, leb-true room 1995262314 rest.0, rest.1)

pub total_fits : {C : Type 0} (asks : C → ℕ) (cs : List C) (room : ℕ) → allowed (map asks cs) room ≡ true → sum_by asks cs < 2 ^ 64
total_fits asks cs room h =
    let parts = allowed_parts (map asks cs) room h in
    omega (arith, parts.0, length-map cs asks, sum_by-le asks 1995262314 cs (each_within asks cs parts.2))
