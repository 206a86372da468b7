-- The total, and the percentages of it that the groups are guaranteed.
use Rattle.std.specs.Prelude.{◌≡◌, ◌+◌, ◌≤◌, Result, IfOk, List, [], ◌∷◌, pos, negsuc, ◌≤ℤ◌, nat_lt, Option}
use Rattle.levels.specs.Levels.{level_of}
use Rattle.refusals.specs.declared.Refusal.TheVariants.{OutOfRange, PercentagesAbove100}
use Rattle.refusals.specs.First.{when, first_that_holds, refused_or}
use Rattle.refusals.specs.declared.Refusal.{Refusal}
use Rattle.cells.specs.Ranges.{outside}
use Rattle.states.specs.declared.shares.PowerShares.{PowerShares}
use Rattle.states.specs.declared.shares.RawShares.{RawShares}

-- a total of -40 to 33 dBm, percentages of at most 100 each, and of at most 100 together
abbrev pub share_conditions : RawShares → List (Option Refusal)
share_conditions r =
    when (outside (negsuc 399) (pos 330) r.total) OutOfRange ∷
    when (nat_lt 100 r.master) OutOfRange ∷
    when (nat_lt 100 r.secondary) OutOfRange ∷
    when (nat_lt 100 (r.master + r.secondary)) PercentagesAbove100 ∷
    []

abbrev pub shares_from : RawShares → PowerShares
shares_from r = record { total = level_of (pos 0) r.total; master = r.master; secondary = r.secondary }

-- shares as a call would bring them
abbrev pub raw_shares_of : PowerShares → RawShares
raw_shares_of h = record { total = h.total.tenths; master = h.master; secondary = h.secondary }

-- what the shares of every terminal keep to: at most 33 dBm, at most 100 percent together
abbrev pub SharesKept : PowerShares → Type 0
SharesKept h = (h.total.tenths ≤ℤ pos 330) × (h.master + h.secondary ≤ 100)

-- what a call brings is refused, or answered as shares of the same numbers that keep to this
pub record SharesChecked (raw : RawShares) (r : Result PowerShares Refusal) : Type 0 where
  pub answers : r ≡ refused_or (first_that_holds (share_conditions raw)) (shares_from raw)
  pub reads_back : IfOk r (λ h. raw_shares_of h ≡ raw)
  pub kept : IfOk r SharesKept
