-- The total and what each group is guaranteed of it.
use Rattle.std.specs.Prelude.{ℕ, ◌+◌, ◌*◌, ◌/◌, ◌||◌, [], ◌∷◌, Ok, Err, Option, Result, nat_lt}
use Rattle.refusals.specs.declared.Refusal.{Refusal}
use Rattle.refusals.specs.declared.Refusal.TheVariants.{OutOfRange, PercentagesAbove100}
use Rattle.refusals.specs.First.{when, first_that_holds}
use Rattle.sharing.specs.declared.budget.Budget.{Budget}
use Rattle.sharing.specs.declared.groups.Shares.{Shares}

-- a percentage of the total, rounded down
abbrev pub guarantee_of : (total percentage : ℕ) → ℕ
guarantee_of total percentage = total * percentage / 100

-- a total of at most 33 dBm, percentages of at most 100 each, and of at most 100 together
abbrev pub shares_refusal : (total master secondary : ℕ) → Option Refusal
shares_refusal total master secondary = first_that_holds (
    when (nat_lt 1995262314 total || (nat_lt 100 master || nat_lt 100 secondary)) OutOfRange ∷
    when (nat_lt 100 (master + secondary)) PercentagesAbove100 ∷
    [])

abbrev pub shares_of : (total master secondary : ℕ) → Shares
shares_of total master secondary = record {
  total = total;
  guarantees = record { master = guarantee_of total master; secondary = guarantee_of total secondary };
}

-- the amounts of a budget, or why there is none
abbrev pub amounts : Result Budget Refusal → Result Shares Refusal
amounts (Ok b) = Ok b.shares
amounts (Err e) = Err e
