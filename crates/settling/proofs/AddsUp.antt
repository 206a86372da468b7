-- The powers of the cells of a settled subframe add up to those of the groups.
use Rattle.std.proofs.Common.{IfSome, ◌≡◌, ℕ, zero, suc, ◌+◌, ◌≤◌, false, not, List, [], ◌∷◌, map, get_or, Some, None, Option, refl, ap, ◌∙◌, arith}
use Rattle.std.specs.List.{AllByRecursion}
use Rattle.sharing.specs.declared.groups.Group.{Group}
use Rattle.sharing.specs.declared.groups.Group.TheVariants.{Master, Secondary}
use Rattle.sharing.specs.declared.groups.PerGroup.{PerGroup}
use Rattle.sharing.specs.declared.groups.Shares.{Shares}
use Rattle.sharing.specs.declared.ranks.Class.{Class}
use Rattle.sharing.specs.declared.ranks.Class.TheVariants.{Acknowledgement, ControlInformation, DataOnly, Sounding}
use Rattle.sharing.specs.declared.ranks.Rank.{Rank}
use Rattle.sharing.specs.Groups.{if_group}
use Rattle.sharing.specs.Ranks.{class_number, rank_of, granted_to}
use Rattle.sharing.specs.Sharing.{served, reserves_by}
use Rattle.sharing.proofs.Along.{then}
use Rattle.refusals.proofs.Answered.{not_held}
use Rattle.cells.specs.declared.cell.Cell.{Cell}
use Rattle.cells.specs.declared.settings.Settings.{Settings}
use Rattle.cells.specs.declared.powers.Powers.{Powers}
use Rattle.cells.specs.declared.wants.ControlWant.{ControlWant}
use Rattle.cells.specs.declared.wants.DataWant.{DataWant}
use Rattle.cells.specs.declared.wants.SoundingWant.{SoundingWant}
use Rattle.cells.specs.declared.wants.CellWants.{CellWants}
use Rattle.cells.specs.declared.wants.Want.TheVariants.{Control as ControlCase, Data as DataCase}
use Rattle.cells.specs.Every.{all_wanted, Pairwise}
use Rattle.cells.specs.Powers.{wanted_with}
use Rattle.cells.specs.Promises.{WithinMaximum}
use Rattle.cells.specs.WantRanges.{is_class, WantInRange, WantsInRange}
use Rattle.settling.specs.declared.classes.CellDemand.{CellDemand}
use Rattle.settling.specs.declared.grants.ClassGrants.{ClassGrants}
use Rattle.settling.specs.Classes.{class_of_control, class_of_data, class_of_sounding, no_wants, no_powers, demand_at}
use Rattle.settling.specs.Grants.{granted_at, grants_in}
use Rattle.settling.specs.Outcomes.{none_made, ranks_of, served_ranks, outcome_of}
use Rattle.settling.specs.AddUp.{CellsAddUp, Settleable}
use Rattle.settling.proofs.Bounds.{small_in_range}
use Rattle.settling.proofs.Adding.{OfControl, OfData, OfSounding, Fine, wanted_adds_up, granted_adds_up}

-- where there is no want there is no power
abbrev Silent : CellWants → Powers → Type 0
Silent w p =
    (class_of_control w.control ≡ None → p.control ≡ 0)
    × (class_of_data w.«data» ≡ None → p.«data» ≡ 0)
    × (class_of_sounding w.sounding ≡ None → p.sounding ≡ 0)

silent_with : (o : Option Settings) (k : Cell) (w : CellWants) → Silent w (wanted_with o k w)
silent_with None k w = ((λ e. refl), (λ e. refl), (λ e. refl))
silent_with (Some s) k w = (control w.control, of_data w.«data», sounding w.sounding)
  where
    control : (x : Option ControlWant) → class_of_control x ≡ None → (wanted_with (Some s) k (record { control = x; «data» = w.«data»; sounding = w.sounding })).control ≡ 0
    control None e = refl
    control (Some x) e = absurd cc

    of_data : (x : Option DataWant) → class_of_data x ≡ None → (wanted_with (Some s) k (record { control = w.control; «data» = x; sounding = w.sounding })).«data» ≡ 0
    of_data None e = refl
    of_data (Some x) e = absurd cc

    sounding : (x : Option SoundingWant) → class_of_sounding x ≡ None → (wanted_with (Some s) k (record { control = w.control; «data» = w.«data»; sounding = x })).sounding ≡ 0
    sounding None e = refl
    sounding (Some x) e = absurd cc

nothing_asked : (w : CellWants) → Silent w no_powers
nothing_asked w = ((λ e. refl), (λ e. refl), (λ e. refl))

silent_at : (cs : List Cell) (ws : List CellWants) (k : ℕ) → Silent (get_or ws k no_wants) (get_or (all_wanted cs ws) k no_powers)
unfolding all_wanted
silent_at [] ws k = nothing_asked (get_or ws k no_wants)
silent_at (c ∷ cs) [] k = nothing_asked (get_or [] k no_wants)
silent_at (c ∷ cs) (w ∷ ws) zero = silent_with c.settings c w
silent_at (c ∷ cs) (w ∷ ws) (suc k) = silent_at cs ws k

-- the classes of wants in range
control_class : (c : Class) → not (is_class 1 2 (class_number c)) ≡ false → OfControl (Some c)
control_class Acknowledgement h = tt
control_class ControlInformation h = tt
control_class DataOnly h = absurd cc
control_class Sounding h = absurd cc

data_class : (c : Class) → not (is_class 1 3 (class_number c)) ≡ false → OfData (Some c)
data_class Acknowledgement h = tt
data_class ControlInformation h = tt
data_class DataOnly h = tt
data_class Sounding h = absurd cc

control_ok : (x : Option ControlWant) → IfSome x (λ w. WantInRange (ControlCase w)) → OfControl (class_of_control x)
control_ok None h = tt
control_ok (Some w) h = control_class w.class (not_held _ _ h.0)

data_ok : (x : Option DataWant) → IfSome x (λ w. WantInRange (DataCase w)) → OfData (class_of_data x)
data_ok None h = tt
data_ok (Some w) h = data_class w.class (not_held _ _ h.0)

sounding_ok : (x : Option SoundingWant) → OfSounding (class_of_sounding x)
sounding_ok None = tt
sounding_ok (Some w) = tt

in_range_at : (ws : List CellWants) → AllByRecursion WantsInRange ws → (k : ℕ) → WantsInRange (get_or ws k no_wants)
in_range_at [] h k = record { of_control = tt; of_data = tt; of_sounding = tt }
in_range_at (w ∷ ws) h zero = h.0
in_range_at (w ∷ ws) h (suc k) = in_range_at ws h.1 k

-- each rank is granted at most its want, and at most the total
abbrev want_at : List Rank → ℕ → ℕ
want_at rs k = (get_or rs k (rank_of Acknowledgement Master 0)).want

module _ (P : ℕ) (R : PerGroup ℕ) where
  grant_at : (g : PerGroup ℕ) (rs : List Rank) (k : ℕ) → (granted_at (served P R g rs) k ≤ want_at rs k) × (granted_at (served P R g rs) k ≤ P)
  grant_at g [] k = (omega arith, omega arith)
  grant_at g (r ∷ rs) zero = (omega arith, omega arith)
  grant_at g (r ∷ rs) (suc k) = grant_at (then P R g r.group r.want) rs k

  served_groups : (g : PerGroup ℕ) (rs : List Rank) → map (λ (r : Rank). r.group) (served P R g rs) ≡ map (λ (r : Rank). r.group) rs
  served_groups g [] = refl
  served_groups g (r ∷ rs) = ap (λ (xs : List Group). r.group ∷ xs) (served_groups (then P R g r.group r.want) rs)

-- eight ranks of groups that take turns: a group's grants are those of every other rank
abbrev Turns : List Rank → Type 0
Turns rs = map (λ (r : Rank). r.group) rs ≡ (Master ∷ Secondary ∷ Master ∷ Secondary ∷ Master ∷ Secondary ∷ Master ∷ Secondary ∷ [])

abbrev all_of : ClassGrants → ℕ
all_of g = g.first + g.second + g.third + g.fourth

first_is : (Y : Group) (r : Rank) (rs : List Rank) (gs : List Group) (X : Group) → map (λ (q : Rank). q.group) (r ∷ rs) ≡ (Y ∷ gs) →
    (granted_to X (r ∷ rs) ≡ if_group X Y r.granted + granted_to X rs) × (map (λ (q : Rank). q.group) rs ≡ gs)
first_is Y r rs gs X e =
    let head : r.group ≡ Y = cc in
    let tail : map (λ (q : Rank). q.group) rs ≡ gs = cc in
    (ap (λ (Z : Group). if_group X Z r.granted + granted_to X rs) head, tail)

no_turns : (gs : List Group) (Y : Group) → ◌≡◌ {A = List Group} [] (Y ∷ gs) → ⊥
no_turns gs Y e = cc

grants_taken : (X : Group) (rs : List Rank) → Turns rs → granted_to X rs ≡ all_of (grants_in X rs)
grants_taken X [] e = absurd (no_turns _ _ e)
grants_taken X (a ∷ []) e = absurd (no_turns _ _ (first_is Master a [] _ X e).1)
grants_taken X (a ∷ b ∷ []) e = absurd (no_turns _ _ (first_is Secondary b [] _ X (first_is Master a (b ∷ []) _ X e).1).1)
grants_taken X (a ∷ b ∷ c ∷ []) e = absurd cc
grants_taken X (a ∷ b ∷ c ∷ d ∷ []) e = absurd cc
grants_taken X (a ∷ b ∷ c ∷ d ∷ f ∷ []) e = absurd cc
grants_taken X (a ∷ b ∷ c ∷ d ∷ f ∷ g ∷ []) e = absurd cc
grants_taken X (a ∷ b ∷ c ∷ d ∷ f ∷ g ∷ h ∷ []) e = absurd cc
grants_taken X (a ∷ b ∷ c ∷ d ∷ f ∷ g ∷ h ∷ i ∷ j ∷ rs) e = absurd cc
grants_taken X (a ∷ b ∷ c ∷ d ∷ f ∷ g ∷ h ∷ i ∷ []) e =
    let s1 = first_is Master a (b ∷ c ∷ d ∷ f ∷ g ∷ h ∷ i ∷ []) _ X e in
    let s2 = first_is Secondary b (c ∷ d ∷ f ∷ g ∷ h ∷ i ∷ []) _ X s1.1 in
    let s3 = first_is Master c (d ∷ f ∷ g ∷ h ∷ i ∷ []) _ X s2.1 in
    let s4 = first_is Secondary d (f ∷ g ∷ h ∷ i ∷ []) _ X s3.1 in
    let s5 = first_is Master f (g ∷ h ∷ i ∷ []) _ X s4.1 in
    let s6 = first_is Secondary g (h ∷ i ∷ []) _ X s5.1 in
    let s7 = first_is Master h (i ∷ []) _ X s6.1 in
    let s8 = first_is Secondary i [] _ X s7.1 in
    s1.0 ∙ by X (granted_to X (b ∷ c ∷ d ∷ f ∷ g ∷ h ∷ i ∷ [])) (granted_to X (c ∷ d ∷ f ∷ g ∷ h ∷ i ∷ [])) (granted_to X (d ∷ f ∷ g ∷ h ∷ i ∷ [])) (granted_to X (f ∷ g ∷ h ∷ i ∷ []))
    (granted_to X (g ∷ h ∷ i ∷ [])) (granted_to X (h ∷ i ∷ [])) (granted_to X (i ∷ [])) s2.0 s3.0 s4.0 s5.0 s6.0 s7.0 s8.0
  where
    by : (Y : Group) (n2 n3 n4 n5 n6 n7 n8 : ℕ) →
        n2 ≡ if_group Y Secondary b.granted + n3 → n3 ≡ if_group Y Master c.granted + n4 → n4 ≡ if_group Y Secondary d.granted + n5 → n5 ≡ if_group Y Master f.granted + n6 →
        n6 ≡ if_group Y Secondary g.granted + n7 → n7 ≡ if_group Y Master h.granted + n8 → n8 ≡ if_group Y Secondary i.granted + 0 →
        if_group Y Master a.granted + n2 ≡ all_of (grants_in Y (a ∷ b ∷ c ∷ d ∷ f ∷ g ∷ h ∷ i ∷ []))
    by Master n2 n3 n4 n5 n6 n7 n8 e2 e3 e4 e5 e6 e7 e8 = omega arith
    by Secondary n2 n3 n4 n5 n6 n7 n8 e2 e3 e4 e5 e6 e7 e8 = omega arith

module _ (rule : ℕ → ℕ → ℕ) (b : Shares) (cs : List Cell) (ws : List CellWants) (within : Pairwise WithinMaximum cs (all_wanted cs ws)) (ok : Settleable b cs ws) where
  fine_at : (k : ℕ) → Fine (demand_at ws (all_wanted cs ws) k)
  fine_at k =
      let s = silent_at cs ws k in
      let r = in_range_at ws ok.of_wants k in
      let m = small_in_range cs (all_wanted cs ws) ok.of_cells within k in
      record {
        no_control = s.0;
        no_data = s.1;
        no_sounding = s.2;
        of_control = control_ok (get_or ws k no_wants).control r.of_control;
        of_data = data_ok (get_or ws k no_wants).«data» r.of_data;
        of_sounding = sounding_ok (get_or ws k no_wants).sounding;
        small_data = omega (arith, m.0);
        small_sounding = m.1;
      }

  abbrev R : PerGroup ℕ
  R = reserves_by rule b.guarantees none_made (ranks_of cs ws)

  turns : Turns (served_ranks rule b cs ws)
  unfolding served_ranks ranks_of
  turns = served_groups b.total R none_made (ranks_of cs ws)

  at : (k : ℕ) → (granted_at (served_ranks rule b cs ws) k ≤ want_at (ranks_of cs ws) k) × (granted_at (served_ranks rule b cs ws) k ≤ b.total)
  unfolding served_ranks
  at k = grant_at b.total R none_made (ranks_of cs ws) k

  abbrev D : ℕ → CellDemand
  D k = demand_at ws (all_wanted cs ws) k

  pub cells_add_up : CellsAddUp (outcome_of rule b cs ws)
  unfolding outcome_of ranks_of
  cells_add_up =
      let rs = served_ranks rule b cs ws in
      let gm = grants_in Master rs in
      let gs = grants_in Secondary rs in
      let one = ok.alone.first_class in
      let two = ok.alone.second_class in
      let total = ok.of_total in
      let wm = wanted_adds_up (D 0) (D 1) (D 2) (D 3) gm (fine_at 0) (fine_at 1) (fine_at 2) (fine_at 3) in
      let ws' = wanted_adds_up (D 4) (D 5) (D 6) (D 7) gs (fine_at 4) (fine_at 5) (fine_at 6) (fine_at 7) in
      let sm = granted_adds_up (D 0) (D 1) (D 2) (D 3) gm (fine_at 0) (fine_at 1) (fine_at 2) (fine_at 3)
      (at 0).0 (at 2).0 (at 4).0 (at 6).0 (omega (arith, (at 4).1, total)) (omega (arith, (at 6).1, total)) (one Master) (two Master) in
      let ss = granted_adds_up (D 4) (D 5) (D 6) (D 7) gs (fine_at 4) (fine_at 5) (fine_at 6) (fine_at 7)
      (at 1).0 (at 3).0 (at 5).0 (at 7).0 (omega (arith, (at 5).1, total)) (omega (arith, (at 7).1, total)) (one Secondary) (two Secondary) in
      let tm = grants_taken Master rs turns in
      let ts = grants_taken Secondary rs turns in
      record {
        adds_wanted = elim [ Master ↦ omega (arith, wm) | Secondary ↦ omega (arith, ws') ];
        adds_granted = elim [ Master ↦ omega (arith, sm, tm) | Secondary ↦ omega (arith, ss, ts) ];
      }
