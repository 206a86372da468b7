-- The numbers that refusals answer with, and numbers that are refused.
use Rattle.std.specs.Prelude.{◌≡◌, ℕ, ◌<◌, ◌≤◌, Result, MatchResult}
use Rattle.refusals.specs.declared.Refusal.{Refusal}
use Rattle.refusals.specs.declared.Refusal.TheVariants.{NoSuchCell, OutOfRange, CellNotSet, NotPrimary, Busy, GivenAlready, PercentagesAbove100, NoSuchSubframe, NoMoreSubframes}

abbrev pub number_of : Refusal → ℕ
number_of NoSuchCell = 1
number_of OutOfRange = 2
number_of CellNotSet = 3
number_of NotPrimary = 4
number_of Busy = 5
number_of GivenAlready = 6
number_of PercentagesAbove100 = 7
number_of NoSuchSubframe = 8
number_of NoMoreSubframes = 9

-- the answer to the number n: the case that has that number; where n is not from first to last, out of range
abbrev pub StandsFor : {A : Type 0} → (A → ℕ) → (first last n : ℕ) → Result A Refusal → Type 0
StandsFor number first last n r = MatchResult r (λ x. number x ≡ n) (λ e. (e ≡ OutOfRange) × (first ≤ n → last < n))
