-- The verdict on one subframe: who is met, who is rightly cut, and the limit on both. `ranks` are the ranks once they are served, and `made` the grants that were made before.
use Rattle.std.specs.Prelude.{◌≡◌, ℕ, ◌+◌, ◌<◌, ◌≤◌, min, Bool, ◌||◌, ◌⊎◌, ◌↔◌, List, ◌∷◌, ◌++◌, nat_le}
use Rattle.sharing.specs.declared.groups.Group.{Group}
use Rattle.sharing.specs.declared.groups.Group.TheVariants.{Master, Secondary}
use Rattle.sharing.specs.declared.groups.PerGroup.{PerGroup}
use Rattle.sharing.specs.declared.ranks.Rank.{Rank}
use Rattle.sharing.specs.Groups.{rival, at_group}
use Rattle.sharing.specs.Ranks.{wanted_by, ahead_of, whole_want, whole_grant, grants_of}
use Rattle.sharing.specs.Sharing.{rival_claim, room_at}

-- a want fits where it is at most the guarantee, or where it and the rival claim are at most the total together
abbrev pub Fits : (total guarantee want claim : ℕ) → Type 0
Fits total guarantee want claim = (want ≤ guarantee) ⊎ (want + claim ≤ total)

-- the same, as a test
abbrev pub fits_test : (total guarantee want claim : ℕ) → Bool
fits_test total guarantee want claim = nat_le want guarantee || nat_le (want + claim) total

-- grants already made that are within the reserves (all of them, where none were made)
abbrev pub MadeWithin : (reserves made : PerGroup ℕ) → Type 0
MadeWithin reserves made = (X : Group) → at_group X made ≤ at_group X reserves

module _ (total : ℕ) (guarantees reserves made : PerGroup ℕ) (ranks : List Rank) where
  -- a group gets all that it wants exactly where its want fits
  abbrev pub ExactFit : Type 0
  ExactFit = (X : Group) →
      (whole_grant made X ranks ≡ whole_want made X ranks) ↔ Fits total (at_group X guarantees) (whole_want made X ranks) (rival_claim reserves made X ranks)

  -- a group that falls short gets at least its guarantee
  abbrev pub GuaranteedShare : Type 0
  GuaranteedShare = (X : Group) → whole_grant made X ranks < whole_want made X ranks → at_group X guarantees ≤ whole_grant made X ranks

  -- no group gets more than it wants
  abbrev pub NoMoreThanWanted : Type 0
  NoMoreThanWanted = (X : Group) → whole_grant made X ranks ≤ whole_want made X ranks

  -- both together get at most the total
  abbrev pub WithinTotal : Type 0
  WithinTotal = whole_grant made Master ranks + whole_grant made Secondary ranks ≤ total

  -- at every rank the room is the total, less what the own group has, less the larger of what the rival has and of its reserve;
  -- a want that fits is granted whole, any other gets the room exactly
  abbrev pub RoomAtEveryRank : Type 0
  RoomAtEveryRank = (before after : List Rank) (r : Rank) → ranks ≡ before ++ (r ∷ after) →
      (r.room ≡ room_at total reserves (grants_of made before) r.group) × (r.granted ≡ min r.want r.room)

-- what ranks ahead: nothing of a group that wants nothing, else all that the rival wants before the group's last want above 0
pub record RanksAhead (X : Group) (rs : List Rank) : Type 0 where
  pub wants_nothing : wanted_by X rs ≡ 0 → ahead_of X rs ≡ 0
  pub before_the_lowest : (before after : List Rank) (r : Rank) → rs ≡ before ++ (r ∷ after) →
      r.group ≡ X → 0 < r.want → wanted_by X after ≡ 0 → ahead_of X rs ≡ wanted_by (rival X) before
