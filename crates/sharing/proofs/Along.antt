-- What holds of the master group along a sharing.
use Rattle.std.proofs.Common.{ℕ, ◌+◌, ◌<◌, ◌≤◌, min, max, List, [], ◌∷◌, arith}
use Rattle.std.proofs.lemmas.Bool.Decides.{nat_tests}
use Rattle.sharing.specs.declared.groups.Group.{Group}
use Rattle.sharing.specs.declared.groups.Group.TheVariants.{Master, Secondary}
use Rattle.sharing.specs.declared.groups.PerGroup.{PerGroup}
use Rattle.sharing.specs.declared.ranks.Rank.{Rank}
use Rattle.sharing.specs.Groups.{more_for}
use Rattle.sharing.specs.Ranks.{wanted_by, granted_to, ahead_of}
use Rattle.sharing.specs.Sharing.{room_at, served}

-- the rank with another group
abbrev pub of_group : Rank → Group → Rank
of_group r Z = record { class = r.class; group = Z; want = r.want; room = r.room; granted = r.granted }

-- what holds whichever group a rank is of
pub by_group : (r : Rank) (S : Rank → Type 0) → S (of_group r Master) → S (of_group r Secondary) → S r
by_group r S m s = elim r.group as (λ Z. S (of_group r Z)) [ Master ↦ m | Secondary ↦ s ]

-- the grants so far, with what is held in reserve, are within the total
abbrev pub Within : (P : ℕ) (held so_far : PerGroup ℕ) → Type 0
Within P held so_far = max so_far.master held.master + max so_far.secondary held.secondary ≤ P

module _ (P : ℕ) (held : PerGroup ℕ) where
  -- what each group is granted from here on
  abbrev pub gets : Group → PerGroup ℕ → List Rank → ℕ
  gets X g rs = granted_to X (served P held g rs)

  -- the grants so far after a rank
  abbrev pub then : PerGroup ℕ → Group → ℕ → PerGroup ℕ
  then g X w = more_for X (min w (room_at P held g X)) g

  pub gets_most : (g : PerGroup ℕ) (rs : List Rank) → gets Master g rs ≤ wanted_by Master rs
  gets_most g [] = omega arith
  gets_most g (r ∷ rs) = by_group r (λ q. gets Master g (q ∷ rs) ≤ wanted_by Master (q ∷ rs))
      (omega (arith, gets_most (then g Master r.want) rs))
      (omega (arith, gets_most (then g Secondary r.want) rs))

  pub kept : (g : PerGroup ℕ) (rs : List Rank) → Within P held g →
      max (g.master + gets Master g rs) held.master + max (g.secondary + gets Secondary g rs) held.secondary ≤ P
  kept g [] h = omega arith
  kept g (r ∷ rs) h = by_group r (λ q. max (g.master + gets Master g (q ∷ rs)) held.master + max (g.secondary + gets Secondary g (q ∷ rs)) held.secondary ≤ P)
      (omega (arith, kept (then g Master r.want) rs (omega arith)))
      (omega (arith, kept (then g Secondary r.want) rs (omega arith)))

  -- grants within the total stay within it, whatever the reserves
  pub limited : (g : PerGroup ℕ) (rs : List Rank) → g.master + g.secondary ≤ P → (g.master + gets Master g rs) + (g.secondary + gets Secondary g rs) ≤ P
  limited g [] h = omega arith
  limited g (r ∷ rs) h = by_group r (λ q. (g.master + gets Master g (q ∷ rs)) + (g.secondary + gets Secondary g (q ∷ rs)) ≤ P)
      (omega (arith, limited (then g Master r.want) rs (omega arith)))
      (omega (arith, limited (then g Secondary r.want) rs (omega arith)))

  -- the group ends with its want, or with its reserve at least
  pub floor : (g : PerGroup ℕ) (rs : List Rank) → Within P held g → min held.master (g.master + wanted_by Master rs) ≤ g.master + gets Master g rs
  floor g [] h = omega arith
  floor g (r ∷ rs) h = by_group r (λ q. min held.master (g.master + wanted_by Master (q ∷ rs)) ≤ g.master + gets Master g (q ∷ rs))
      (omega (arith, floor (then g Master r.want) rs (omega arith)))
      (omega (arith, floor (then g Secondary r.want) rs (omega arith)))

  -- once the rival has all but K, the group ends with at most K
  pub ceiling : (K : ℕ) (g : PerGroup ℕ) (rs : List Rank) → g.master ≤ K → P ≤ K + g.secondary → g.master + gets Master g rs ≤ K
  ceiling K g [] own rest = omega arith
  ceiling K g (r ∷ rs) own rest = by_group r (λ q. g.master + gets Master g (q ∷ rs) ≤ K)
      (omega (arith, ceiling K (then g Master r.want) rs (omega arith) (omega arith)))
      (omega (arith, ceiling K (then g Secondary r.want) rs (omega arith) (omega arith)))

  -- a want that fits beside the rival's claim is met
  abbrev Fit : PerGroup ℕ → List Rank → Type 0
  Fit g rs = (0 < wanted_by Master rs → g.master + wanted_by Master rs + max held.secondary (g.secondary + ahead_of Master rs) ≤ P) → wanted_by Master rs ≤ gets Master g rs

  pub fit : (g : PerGroup ℕ) (rs : List Rank) → Fit g rs
  fit g [] = λ h. omega arith
  fit g (r ∷ rs) = by_group r (λ q. Fit g (q ∷ rs))
      (λ h. let ih = fit (then g Master r.want) rs in grind (arith, nat_tests))
      (λ h. let ih = fit (then g Secondary r.want) rs in grind (arith, nat_tests))

  -- a want above the reserve that is met fits beside the rival's wants ahead of it
  abbrev Clear : PerGroup ℕ → List Rank → Type 0
  Clear g rs = held.master < g.master + wanted_by Master rs → wanted_by Master rs ≤ gets Master g rs → 0 < wanted_by Master rs →
      g.master + wanted_by Master rs + (g.secondary + ahead_of Master rs) ≤ P

  pub clear : (g : PerGroup ℕ) (rs : List Rank) → Within P held g → Clear g rs
  clear g [] h = λ above all some. omega arith
  clear g (r ∷ rs) h = by_group r (λ q. Clear g (q ∷ rs))
      (λ above all some.
      let ih = clear (then g Master r.want) rs in
      let most = gets_most (then g Master r.want) rs in
      grind (arith, nat_tests))
      (λ above all some.
      let ih = clear (then g Secondary r.want) rs in
      let cap = ceiling (max g.master held.master) (then g Secondary r.want) rs in
      grind (arith, nat_tests))
