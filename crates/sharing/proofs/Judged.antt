-- The verdict on a sharing: of the master group, and of the secondary group by the same with the groups exchanged.
use Rattle.std.proofs.Common.{◌≡◌, ℕ, ◌+◌, ◌<◌, ◌≤◌, min, max, ◌↔◌, List, [], ◌∷◌, refl, ap, inl, inr, arith}
use Rattle.std.proofs.lemmas.Bool.Decides.{leb_tells}
use Rattle.sharing.specs.declared.groups.Group.{Group}
use Rattle.sharing.specs.declared.groups.Group.TheVariants.{Master, Secondary}
use Rattle.sharing.specs.declared.groups.PerGroup.{PerGroup}
use Rattle.sharing.specs.declared.ranks.Rank.{Rank}
use Rattle.sharing.specs.Groups.{rival, at_group, if_group}
use Rattle.sharing.specs.Ranks.{wanted_by, ahead_of, whole_want}
use Rattle.sharing.specs.Sharing.{rival_claim, room_at, served}
use Rattle.sharing.specs.Verdict.{Fits, MadeWithin, ExactFit, GuaranteedShare, NoMoreThanWanted, WithinTotal}
use Rattle.sharing.proofs.Along.{of_group, by_group, gets, then, gets_most, kept, limited, floor, fit, clear}

-- serving the ranks changes no want
module _ (P : ℕ) (R : PerGroup ℕ) where
  pub served_wanted : (X : Group) (g : PerGroup ℕ) (rs : List Rank) → wanted_by X (served P R g rs) ≡ wanted_by X rs
  served_wanted X g [] = refl
  served_wanted X g (r ∷ rs) = ap (λ (n : ℕ). if_group X r.group r.want + n) (served_wanted X (then P R g r.group r.want) rs)

  served_ahead : (X : Group) (g : PerGroup ℕ) (rs : List Rank) → ahead_of X (served P R g rs) ≡ ahead_of X rs
  served_ahead X g [] = refl
  served_ahead X g (r ∷ rs) =
      let far = then P R g r.group r.want in
      rw (served_wanted X far rs, served_ahead X far rs) refl

-- a reserve within its bounds
abbrev pub Bounded : (guaranteed wish held : ℕ) → Type 0
Bounded guaranteed wish held = (min guaranteed wish ≤ held) × (held ≤ guaranteed)

record Fair (P guaranteed wish claim got : ℕ) : Type 0 where
  exact : (got ≡ wish) ↔ Fits P guaranteed wish claim
  sure : got < wish → guaranteed ≤ got
  most : got ≤ wish

fair_master : (P : ℕ) (G R made : PerGroup ℕ) (rs : List Rank) → G.master + G.secondary ≤ P →
    Bounded G.master (made.master + wanted_by Master rs) R.master → R.secondary ≤ G.secondary →
    made.master ≤ R.master → made.secondary ≤ R.secondary →
    Fair P G.master (made.master + wanted_by Master rs) (max R.secondary (made.secondary + ahead_of Master rs)) (made.master + gets P R Master made rs)
fair_master P G R made rs sum held rest own other =
    let most = gets_most P R made rs in
    let low = floor P R made rs (omega arith) in
    let within = kept P R made rs (omega arith) in
    let fits = fit P R made rs in
    let clears = clear P R made rs (omega arith) in
    record {
      exact = (
        (λ e. elim (leb_tells (made.master + wanted_by Master rs) G.master) [
          | inl a ↦ inl a.1
          | inr b ↦ inr (omega (arith, clears (omega arith) (omega arith) (omega arith)))
        ]),
        (elim [ inl a ↦ omega arith | inr b ↦ omega (arith, fits (λ _. omega arith)) ]),
      );
      sure = λ short. omega arith;
      most = omega arith;
    }

-- the groups exchanged
abbrev turned : PerGroup ℕ → PerGroup ℕ
turned p = record { master = p.secondary; secondary = p.master }

abbrev swapped : List Rank → List Rank
swapped [] = []
swapped (r ∷ rs) = of_group r (rival r.group) ∷ swapped rs

gets_swapped : (P : ℕ) (R g : PerGroup ℕ) (rs : List Rank) → gets P R Secondary g rs ≡ gets P (turned R) Master (turned g) (swapped rs)
gets_swapped P R g [] = refl
gets_swapped P R g (r ∷ rs) = by_group r (λ q. gets P R Secondary g (q ∷ rs) ≡ gets P (turned R) Master (turned g) (swapped (q ∷ rs)))
    (ap (λ (n : ℕ). 0 + n) (gets_swapped P R (then P R g Master r.want) rs))
    (ap (λ (n : ℕ). min r.want (room_at P R g Secondary) + n) (gets_swapped P R (then P R g Secondary r.want) rs))

wanted_swapped : (rs : List Rank) → wanted_by Secondary rs ≡ wanted_by Master (swapped rs)
wanted_swapped [] = refl
wanted_swapped (r ∷ rs) = by_group r (λ q. wanted_by Secondary (q ∷ rs) ≡ wanted_by Master (swapped (q ∷ rs)))
    (ap (λ (n : ℕ). 0 + n) (wanted_swapped rs))
    (ap (λ (n : ℕ). r.want + n) (wanted_swapped rs))

ahead_swapped : (rs : List Rank) → ahead_of Secondary rs ≡ ahead_of Master (swapped rs)
ahead_swapped [] = refl
ahead_swapped (r ∷ rs) = by_group r (λ q. ahead_of Secondary (q ∷ rs) ≡ ahead_of Master (swapped (q ∷ rs)))
    (rw (wanted_swapped rs, ahead_swapped rs) refl)
    (rw (wanted_swapped rs, ahead_swapped rs) refl)

module _ (P : ℕ) (G R made : PerGroup ℕ) (rs : List Rank) where
  -- the verdict on one group, over the wants before the sharing
  fair : G.master + G.secondary ≤ P → ((X : Group) → Bounded (at_group X G) (whole_want made X rs) (at_group X R)) → MadeWithin R made →
      (X : Group) → Fair P (at_group X G) (whole_want made X rs) (rival_claim R made X rs) (at_group X made + gets P R X made rs)
  fair sum held within Master = fair_master P G R made rs sum (held Master) (held Secondary).1 (within Master) (within Secondary)
  fair sum held within Secondary =
      rw (gets_swapped P R made rs, wanted_swapped rs, ahead_swapped rs)
      (fair_master P (turned G) (turned R) (turned made) (swapped rs) (omega arith) (rw (wanted_swapped rs) at (held Secondary)) (held Master).1 (within Secondary) (within Master))

  pub exact_fit : G.master + G.secondary ≤ P → ((X : Group) → Bounded (at_group X G) (whole_want made X rs) (at_group X R)) → MadeWithin R made → ExactFit P G R made (served P R made rs)
  exact_fit sum held within X = rw (served_wanted P R X made rs, served_ahead P R X made rs) (fair sum held within X).exact

  pub guaranteed_share : G.master + G.secondary ≤ P → ((X : Group) → Bounded (at_group X G) (whole_want made X rs) (at_group X R)) → MadeWithin R made → GuaranteedShare P G R made (served P R made rs)
  guaranteed_share sum held within X = rw (served_wanted P R X made rs) (fair sum held within X).sure

  pub no_more : NoMoreThanWanted P G R made (served P R made rs)
  no_more Master = rw (served_wanted P R Master made rs) (omega (arith, gets_most P R made rs))
  no_more Secondary = rw (served_wanted P R Secondary made rs) (omega (arith, gets_swapped P R made rs, wanted_swapped rs, gets_most P (turned R) (turned made) (swapped rs)))

  pub within_total : made.master + made.secondary ≤ P → WithinTotal P G R made (served P R made rs)
  within_total h = limited P R made rs h
