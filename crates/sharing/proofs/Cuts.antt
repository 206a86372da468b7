-- The room at each rank, told by what stands before and after it.
use Rattle.std.proofs.Common.{◌≡◌, ℕ, ◌+◌, ◌≤◌, min, List, [], ◌∷◌, ◌++◌, refl, ap, ◌∙◌, subst, arith}
use Rattle.sharing.specs.declared.groups.Group.{Group}
use Rattle.sharing.specs.declared.groups.Group.TheVariants.{Master, Secondary}
use Rattle.sharing.specs.declared.groups.PerGroup.{PerGroup}
use Rattle.sharing.specs.declared.ranks.Rank.{Rank}
use Rattle.sharing.specs.Groups.{rival, at_group, more_for}
use Rattle.sharing.specs.Ranks.{served_in, wanted_by, whole_grant, grants_of}
use Rattle.sharing.specs.Sharing.{reserves_by, room_at, served}
use Rattle.sharing.specs.Verdict.{MadeWithin, RoomAtEveryRank}
use Rattle.sharing.specs.Remainder.{remainder_at, StandardRemainder}
use Rattle.sharing.proofs.Steps.{counts, same_amounts}
use Rattle.sharing.proofs.Along.{by_group, Within, then}
use Rattle.sharing.proofs.Judged.{served_wanted}

-- no list with an element is empty
no_cut : (before after : List Rank) (q : Rank) → [] ≡ before ++ (q ∷ after) → ⊥
no_cut [] after q e = cc
no_cut (b ∷ before) after q e = cc

-- nothing granted yet
grants_none : (g : PerGroup ℕ) → grants_of g [] ≡ g
grants_none g = same_amounts (grants_of g []) g (elim [ Master ↦ omega arith | Secondary ↦ omega arith ])

-- the grants so far, with one rank more in front
grants_more : (g : PerGroup ℕ) (b : Rank) (bs : List Rank) → grants_of (more_for b.group b.granted g) bs ≡ grants_of g (b ∷ bs)
grants_more g b bs = same_amounts _ (grants_of g (b ∷ bs)) (elim [
  | Master ↦ omega (arith, counts Master b.group b.granted g)
  | Secondary ↦ omega (arith, counts Secondary b.group b.granted g)
])

module _ (P : ℕ) (R : PerGroup ℕ) where
  -- what holds of a rank that is served from the grants g, with the ranks after it, holds at every rank
  pub at_each : (S : PerGroup ℕ → Rank → List Rank → Type 0) (I : PerGroup ℕ → List Rank → Type 0) →
      ((g : PerGroup ℕ) (r : Rank) (rs : List Rank) → I g (r ∷ rs) → S g (served_in r (room_at P R g r.group)) (served P R (then P R g r.group r.want) rs)) →
      ((g : PerGroup ℕ) (r : Rank) (rs : List Rank) → I g (r ∷ rs) → I (then P R g r.group r.want) rs) →
      (g : PerGroup ℕ) (rs before after : List Rank) (q : Rank) → I g rs → served P R g rs ≡ before ++ (q ∷ after) → S (grants_of g before) q after
  at_each S I here more g [] before after q i e = absurd (no_cut before after q e)
  at_each S I here more g (r ∷ rs) [] after q i e =
      let head : served_in r (room_at P R g r.group) ≡ q = cc in
      let tail : served P R (then P R g r.group r.want) rs ≡ after = cc in
      rw (grants_none g) (subst (λ (x : Rank). S g x after) head (subst (λ (xs : List Rank). S g (served_in r (room_at P R g r.group)) xs) tail (here g r rs i)))
  at_each S I here more g (r ∷ rs) (b ∷ before) after q i e =
      let head : served_in r (room_at P R g r.group) ≡ b = cc in
      let tail : served P R (then P R g r.group r.want) rs ≡ before ++ (q ∷ after) = cc in
      let far = grants_more g (served_in r (room_at P R g r.group)) before ∙ ap (λ (x : Rank). grants_of g (x ∷ before)) head in
      subst (λ (p : PerGroup ℕ). S p q after) far (at_each S I here more (then P R g r.group r.want) rs before after q (more g r rs i) tail)

  pub room_at_every_rank : (G made : PerGroup ℕ) (rs : List Rank) → RoomAtEveryRank P G R made (served P R made rs)
  room_at_every_rank G made rs before after q e =
      at_each (λ g r later. (r.room ≡ room_at P R g r.group) × (r.granted ≡ min r.want r.room)) (λ g rs. Unit {0})
      (λ g r rs i. (refl, refl)) (λ g r rs i. tt) made rs before after q tt e

-- what a group has and will still want comes as far into its guarantee as its reserve does, so it was not cut below that
abbrev Uncut : (G R g : PerGroup ℕ) → List Rank → Group → Type 0
Uncut G R g rs X = min (at_group X G) (at_group X g + wanted_by X rs) ≡ at_group X R

module _ (P : ℕ) (G R : PerGroup ℕ) where
  abbrev Sound : PerGroup ℕ → List Rank → Type 0
  Sound g rs = Within P R g × Uncut G R g rs Master × Uncut G R g rs Secondary

  sound_more : (g : PerGroup ℕ) (r : Rank) (rs : List Rank) → Sound g (r ∷ rs) → Sound (then P R g r.group r.want) rs
  sound_more g r rs = by_group r (λ q. Sound g (q ∷ rs) → Sound (then P R g q.group q.want) rs)
      (λ i. (omega arith, omega arith, omega arith))
      (λ i. (omega arith, omega arith, omega arith))

  remainder_here : (g : PerGroup ℕ) (r : Rank) (rs : List Rank) → Sound g (r ∷ rs) →
      room_at P R g r.group ≡ remainder_at P G (at_group r.group g) (at_group (rival r.group) g) r.group rs
  remainder_here g r rs = by_group r (λ q. Sound g (q ∷ rs) → room_at P R g q.group ≡ remainder_at P G (at_group q.group g) (at_group (rival q.group) g) q.group rs)
      (λ i. omega arith)
      (λ i. omega arith)

-- the grants so far of a group
grants_at : (X : Group) (made : PerGroup ℕ) (rs : List Rank) → at_group X (grants_of made rs) ≡ whole_grant made X rs
grants_at Master made rs = refl
grants_at Secondary made rs = refl

pub standard_remainder : (P : ℕ) (G made : PerGroup ℕ) (rs : List Rank) → G.master + G.secondary ≤ P → MadeWithin (reserves_by min G made rs) made →
    StandardRemainder P G made (served P (reserves_by min G made rs) made rs)
standard_remainder P G made rs sum within before after q e =
    let R : PerGroup ℕ = reserves_by min G made rs in
    let m = within Master in
    let s = within Secondary in
    let at = at_each P R
    (λ g r later. r.room ≡ remainder_at P G (at_group r.group g) (at_group (rival r.group) g) r.group later) (Sound P G R)
    (λ g r rs i. rw (served_wanted P R (rival r.group) (then P R g r.group r.want) rs) (remainder_here P G R g r rs i))
    (sound_more P G R) made rs before after q (omega arith, omega arith, omega arith) e in
    rw (grants_at q.group made before, grants_at (rival q.group) made before) at at
