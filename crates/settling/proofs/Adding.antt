-- One group: what its four cells want and are granted adds up to its classes.
use Rattle.std.proofs.Common.{◌≡◌, ℕ, ◌+◌, ◌*◌, ◌<◌, ◌≤◌, true, List, [], ◌∷◌, map, length, get_or, Some, None, Option, refl, ap, ◌∙◌, ⊎_elim, add-mul, arith}
use Rattle.std.proofs.lemmas.Bool.{cases_lt, cond-true, le-leb}
use Rattle.sharing.specs.declared.ranks.Class.{Class}
use Rattle.sharing.specs.declared.ranks.Class.TheVariants.{Acknowledgement, ControlInformation, DataOnly, Sounding}
use Rattle.split.specs.Shares.{sum_of, split_of}
use Rattle.split.specs.Answer.{allowed}
use Rattle.split.proofs.Exact.{spent, capped, split_whole, split_length}
use Rattle.settling.specs.declared.classes.CellDemand.{CellDemand}
use Rattle.settling.specs.declared.grants.ClassGrants.{ClassGrants}
use Rattle.settling.specs.Classes.{if_class, class_of_control, class_of_data, class_of_sounding, in_class, class_want}
use Rattle.settling.proofs.Bounds.{if_class_most}
use Rattle.settling.specs.Grants.{data_claim_of, sounding_claim_of, split_grants, grant_for, four_powers}
use Rattle.settling.specs.AddUp.{cell_wanted, cell_granted, no_cell_powers, over_four}

-- a power counts in exactly one class, and where there is no want there is no power
pub in_one_class : (o : Option Class) (n : ℕ) → (o ≡ None → n ≡ 0) →
    if_class Acknowledgement o n + if_class ControlInformation o n + if_class DataOnly o n + if_class Sounding o n ≡ n
in_one_class None n h = omega (arith, h refl)
in_one_class (Some Acknowledgement) n h = omega arith
in_one_class (Some ControlInformation) n h = omega arith
in_one_class (Some DataOnly) n h = omega arith
in_one_class (Some Sounding) n h = omega arith

-- a control want is of class 1 or 2
abbrev pub OfControl : Option Class → Type 0
OfControl None = Unit {0}
OfControl (Some Acknowledgement) = Unit {0}
OfControl (Some ControlInformation) = Unit {0}
OfControl (Some DataOnly) = ⊥
OfControl (Some Sounding) = ⊥

-- a data want is of class 1 to 3
abbrev pub OfData : Option Class → Type 0
OfData None = Unit {0}
OfData (Some Acknowledgement) = Unit {0}
OfData (Some ControlInformation) = Unit {0}
OfData (Some DataOnly) = Unit {0}
OfData (Some Sounding) = ⊥

-- a sounding want is of class 4
abbrev pub OfSounding : Option Class → Type 0
OfSounding None = Unit {0}
OfSounding (Some Acknowledgement) = ⊥
OfSounding (Some ControlInformation) = ⊥
OfSounding (Some DataOnly) = ⊥
OfSounding (Some Sounding) = Unit {0}

-- what a want of control, and of data with the share x, is granted
control_granted : (o : Option Class) (g : ClassGrants) → OfControl o → grant_for o g 0 ≡ if_class Acknowledgement o g.first + if_class ControlInformation o g.second
control_granted None g h = refl
control_granted (Some Acknowledgement) g h = omega arith
control_granted (Some ControlInformation) g h = omega arith
control_granted (Some DataOnly) g h = absurd h
control_granted (Some Sounding) g h = absurd h

data_granted : (o : Option Class) (g : ClassGrants) (x n : ℕ) → OfData o → x ≤ if_class DataOnly o n → grant_for o g x ≡ if_class Acknowledgement o g.first + if_class ControlInformation o g.second + x
data_granted None g x n h k = omega arith
data_granted (Some Acknowledgement) g x n h k = omega arith
data_granted (Some ControlInformation) g x n h k = omega arith
data_granted (Some DataOnly) g x n h k = omega arith
data_granted (Some Sounding) g x n h k = absurd h

-- the classes in which control, data and sounding have nothing
control_only : (o : Option Class) (n : ℕ) → OfControl o → (if_class DataOnly o n ≡ 0) × (if_class Sounding o n ≡ 0)
control_only None n h = (refl, refl)
control_only (Some Acknowledgement) n h = (refl, refl)
control_only (Some ControlInformation) n h = (refl, refl)
control_only (Some DataOnly) n h = absurd h
control_only (Some Sounding) n h = absurd h

data_only : (o : Option Class) (n : ℕ) → OfData o → if_class Sounding o n ≡ 0
data_only None n h = refl
data_only (Some Acknowledgement) n h = refl
data_only (Some ControlInformation) n h = refl
data_only (Some DataOnly) n h = refl
data_only (Some Sounding) n h = absurd h

sounding_only : (o : Option Class) (n : ℕ) → OfSounding o → (if_class Acknowledgement o n ≡ 0) × (if_class ControlInformation o n ≡ 0) × (if_class DataOnly o n ≡ 0)
sounding_only None n h = (refl, refl, refl)
sounding_only (Some Acknowledgement) n h = absurd h
sounding_only (Some ControlInformation) n h = absurd h
sounding_only (Some DataOnly) n h = absurd h
sounding_only (Some Sounding) n h = (refl, refl, refl)

-- a grant goes to a want of its class, or there is none: what is counted once is n, and what is not counted is nothing
counted : (c : Class) (o : Option Class) (n : ℕ) → if_class c o n ≡ if_class c o 1 * n
counted c None n = omega arith
counted Acknowledgement (Some Acknowledgement) n = omega arith
counted Acknowledgement (Some ControlInformation) n = omega arith
counted Acknowledgement (Some DataOnly) n = omega arith
counted Acknowledgement (Some Sounding) n = omega arith
counted ControlInformation (Some Acknowledgement) n = omega arith
counted ControlInformation (Some ControlInformation) n = omega arith
counted ControlInformation (Some DataOnly) n = omega arith
counted ControlInformation (Some Sounding) n = omega arith
counted DataOnly (Some Acknowledgement) n = omega arith
counted DataOnly (Some ControlInformation) n = omega arith
counted DataOnly (Some DataOnly) n = omega arith
counted DataOnly (Some Sounding) n = omega arith
counted Sounding (Some Acknowledgement) n = omega arith
counted Sounding (Some ControlInformation) n = omega arith
counted Sounding (Some DataOnly) n = omega arith
counted Sounding (Some Sounding) n = omega arith

-- the split of a grant that is at most what is wanted spends it
module _ (ws : List ℕ) (room : ℕ) (ok : allowed ws room ≡ true) where
  is_split : split_grants ws room ≡ split_of ws room
  is_split = cond-true (allowed ws room) _ _ ok

  pub split_spends : room ≤ sum_of ws → sum_of (split_grants ws room) ≡ room
  split_spends h = ap sum_of is_split ∙ ⊎_elim
      (λ (k : room < sum_of ws). spent ws room (split_of ws room) refl k)
      (λ (k : sum_of ws ≤ room). ap sum_of (split_whole ws room k) ∙ omega arith)
      (cases_lt room (sum_of ws))

  pub split_capped : (k : ℕ) → get_or (split_grants ws room) k 0 ≤ get_or ws k 0
  split_capped k = rw is_split (capped ws room (split_of ws room) refl k)

  pub split_many : length (split_grants ws room) ≡ length ws
  split_many = ap length is_split ∙ split_length ws room

pub sum_four : (xs : List ℕ) → length xs ≡ 4 → sum_of xs ≡ get_or xs 0 0 + get_or xs 1 0 + get_or xs 2 0 + get_or xs 3 0
sum_four [] h = absurd (omega arith)
sum_four (a ∷ []) h = absurd (omega arith)
sum_four (a ∷ b ∷ []) h = absurd (omega arith)
sum_four (a ∷ b ∷ c ∷ []) h = absurd (omega arith)
sum_four (a ∷ b ∷ c ∷ e ∷ []) h = omega arith
sum_four (a ∷ b ∷ c ∷ e ∷ x ∷ xs) h = absurd (omega arith)

pub four_allowed : (a b c e room : ℕ) → a ≤ 1995262314 → b ≤ 1995262314 → c ≤ 1995262314 → e ≤ 1995262314 → room ≤ 1995262314 → allowed (a ∷ b ∷ c ∷ e ∷ []) room ≡ true
four_allowed a b c e room ha hb hc he hr =
    rw (le-leb room 1995262314 hr, le-leb a 1995262314 ha, le-leb b 1995262314 hb, le-leb c 1995262314 hc, le-leb e 1995262314 he) refl

-- what is known of a cell's demand: no want, no power; the classes of its wants; and powers of at most 33 dBm
pub record Fine (d : CellDemand) : Type 0 where
  pub no_control : class_of_control d.wants.control ≡ None → d.powers.control ≡ 0
  pub no_data : class_of_data d.wants.«data» ≡ None → d.powers.«data» ≡ 0
  pub no_sounding : class_of_sounding d.wants.sounding ≡ None → d.powers.sounding ≡ 0
  pub of_control : OfControl (class_of_control d.wants.control)
  pub of_data : OfData (class_of_data d.wants.«data»)
  pub of_sounding : OfSounding (class_of_sounding d.wants.sounding)
  pub small_data : d.powers.«data» ≤ 1995262314
  pub small_sounding : d.powers.sounding ≤ 1995262314

-- all that a cell wants, over the four classes
pub all_classes : (d : CellDemand) → Fine d →
    in_class Acknowledgement d + in_class ControlInformation d + in_class DataOnly d + in_class Sounding d ≡ d.powers.control + d.powers.«data» + d.powers.sounding
all_classes d f =
    omega (
      arith,
      in_one_class (class_of_control d.wants.control) d.powers.control f.no_control,
      in_one_class (class_of_data d.wants.«data») d.powers.«data» f.no_data,
      in_one_class (class_of_sounding d.wants.sounding) d.powers.sounding f.no_sounding,
    )

-- what a cell wants in class 3 is its data claim, and in class 4 its sounding claim
claims_are : (d : CellDemand) → Fine d → (in_class DataOnly d ≡ data_claim_of d) × (in_class Sounding d ≡ sounding_claim_of d)
claims_are d f =
    let c = control_only (class_of_control d.wants.control) d.powers.control f.of_control in
    let e = data_only (class_of_data d.wants.«data») d.powers.«data» f.of_data in
    let s = sounding_only (class_of_sounding d.wants.sounding) d.powers.sounding f.of_sounding in
    (omega (arith, c.0, s.2), omega (arith, c.1, e))

claims_small : (d : CellDemand) → Fine d → (data_claim_of d ≤ 1995262314) × (sounding_claim_of d ≤ 1995262314)
claims_small d f = (
  omega (arith, if_class_most DataOnly (class_of_data d.wants.«data») d.powers.«data», f.small_data),
  omega (arith, if_class_most Sounding (class_of_sounding d.wants.sounding) d.powers.sounding, f.small_sounding),
)

-- the wants of a class other than sounding, each taken as n
abbrev pub taken : Class → CellDemand → ℕ → ℕ
taken c d n = if_class c (class_of_control d.wants.control) n + if_class c (class_of_data d.wants.«data») n

-- what a cell is granted, by its classes and its shares
granted_is : (d : CellDemand) (g : ClassGrants) (x y : ℕ) → Fine d → x ≤ data_claim_of d →
    grant_for (class_of_control d.wants.control) g 0 + grant_for (class_of_data d.wants.«data») g x + y
    ≡ taken Acknowledgement d g.first + taken ControlInformation d g.second + x + y
granted_is d g x y f h =
    omega (
      arith,
      control_granted (class_of_control d.wants.control) g f.of_control,
      data_granted (class_of_data d.wants.«data») g x d.powers.«data» f.of_data h,
    )

-- a class of which a cell has no want asks nothing of it
taken_none : (c : Class) (d : CellDemand) → Fine d → (if_class c (class_of_sounding d.wants.sounding) d.powers.sounding ≡ 0) → taken c d 1 ≡ 0 → in_class c d ≡ 0
taken_none c d f s h =
    let p : if_class c (class_of_control d.wants.control) 1 ≡ 0 = omega arith in
    let q : if_class c (class_of_data d.wants.«data») 1 ≡ 0 = omega arith in
    let a : if_class c (class_of_control d.wants.control) d.powers.control ≡ 0 = counted c (class_of_control d.wants.control) d.powers.control ∙ ap (λ (n : ℕ). n * d.powers.control) p ∙ omega arith in
    let b : if_class c (class_of_data d.wants.«data») d.powers.«data» ≡ 0 = counted c (class_of_data d.wants.«data») d.powers.«data» ∙ ap (λ (n : ℕ). n * d.powers.«data») q ∙ omega arith in
    omega (arith, a, b, s)

taken_is : (c : Class) (d : CellDemand) (n : ℕ) → taken c d n ≡ taken c d 1 * n
taken_is c d n =
    omega (
      arith,
      counted c (class_of_control d.wants.control) n,
      counted c (class_of_data d.wants.«data») n,
      add-mul (if_class c (class_of_control d.wants.control) 1) (if_class c (class_of_data d.wants.«data») 1) n,
    )

-- four cells with at most one want of a class among them take its grant once, where the grant is at most what they want
module _ (c : Class) (a b d e : CellDemand) (silent : (k : CellDemand) → Fine k → if_class c (class_of_sounding k.wants.sounding) k.powers.sounding ≡ 0)
    (fa : Fine a) (fb : Fine b) (fd : Fine d) (fe : Fine e) (alone : taken c a 1 + taken c b 1 + taken c d 1 + taken c e 1 ≤ 1) where
  pub taken_once : (n : ℕ) → n ≤ class_want c (a ∷ b ∷ d ∷ e ∷ []) → taken c a n + taken c b n + taken c d n + taken c e n ≡ n
  taken_once n h = ⊎_elim
      (λ (k : taken c a 1 + taken c b 1 + taken c d 1 + taken c e 1 < 1).
      let na = taken_none c a fa (silent a fa) (omega arith) in
      let nb = taken_none c b fb (silent b fb) (omega arith) in
      let nd = taken_none c d fd (silent d fd) (omega arith) in
      let ne = taken_none c e fe (silent e fe) (omega arith) in
      let z : n ≡ 0 = omega arith in
      let none : taken c a 1 + taken c b 1 + taken c d 1 + taken c e 1 ≡ 0 = omega arith in
      sum n ∙ ap (λ (m : ℕ). m * n) none ∙ omega arith)
      (λ (k : 1 ≤ taken c a 1 + taken c b 1 + taken c d 1 + taken c e 1).
      let one : taken c a 1 + taken c b 1 + taken c d 1 + taken c e 1 ≡ 1 = omega arith in
      sum n ∙ ap (λ (m : ℕ). m * n) one ∙ omega arith)
      (cases_lt (taken c a 1 + taken c b 1 + taken c d 1 + taken c e 1) 1)
    where
      sum : (n : ℕ) → taken c a n + taken c b n + taken c d n + taken c e n ≡ (taken c a 1 + taken c b 1 + taken c d 1 + taken c e 1) * n
      sum n =
          omega (
            arith,
            taken_is c a n,
            taken_is c b n,
            taken_is c d n,
            taken_is c e n,
            add-mul (taken c a 1 + taken c b 1 + taken c d 1) (taken c e 1) n,
            add-mul (taken c a 1 + taken c b 1) (taken c d 1) n,
            add-mul (taken c a 1) (taken c b 1) n,
          )

silent_first : (k : CellDemand) → Fine k → if_class Acknowledgement (class_of_sounding k.wants.sounding) k.powers.sounding ≡ 0
silent_first k f = (sounding_only (class_of_sounding k.wants.sounding) k.powers.sounding f.of_sounding).0

silent_second : (k : CellDemand) → Fine k → if_class ControlInformation (class_of_sounding k.wants.sounding) k.powers.sounding ≡ 0
silent_second k f = (sounding_only (class_of_sounding k.wants.sounding) k.powers.sounding f.of_sounding).1

-- the cells of a group, and its grants by class, each at most what the group wants in the class
module _ (a b d e : CellDemand) (g : ClassGrants) (fa : Fine a) (fb : Fine b) (fd : Fine d) (fe : Fine e) where
  abbrev ds : List CellDemand
  ds = a ∷ b ∷ d ∷ e ∷ []

  abbrev xs : List ℕ
  xs = split_grants (map data_claim_of ds) g.third

  abbrev ys : List ℕ
  ys = split_grants (map sounding_claim_of ds) g.fourth

  pub wanted_adds_up : over_four cell_wanted no_cell_powers (four_powers ds g) 0
      ≡ class_want Acknowledgement ds + class_want ControlInformation ds + class_want DataOnly ds + class_want Sounding ds
  wanted_adds_up = omega (arith, all_classes a fa, all_classes b fb, all_classes d fd, all_classes e fe)

  pub granted_adds_up : g.first ≤ class_want Acknowledgement ds → g.second ≤ class_want ControlInformation ds → g.third ≤ class_want DataOnly ds → g.fourth ≤ class_want Sounding ds →
      g.third ≤ 1995262314 → g.fourth ≤ 1995262314 →
      taken Acknowledgement a 1 + taken Acknowledgement b 1 + taken Acknowledgement d 1 + taken Acknowledgement e 1 ≤ 1 →
      taken ControlInformation a 1 + taken ControlInformation b 1 + taken ControlInformation d 1 + taken ControlInformation e 1 ≤ 1 →
      over_four cell_granted no_cell_powers (four_powers ds g) 0 ≡ g.first + g.second + g.third + g.fourth
  granted_adds_up h1 h2 h3 h4 r3 r4 one two =
      let ca = claims_are a fa in let cb = claims_are b fb in let cd = claims_are d fd in let ce = claims_are e fe in
      let sa = claims_small a fa in let sb = claims_small b fb in let sd = claims_small d fd in let se = claims_small e fe in
      let ok3 = four_allowed (data_claim_of a) (data_claim_of b) (data_claim_of d) (data_claim_of e) g.third sa.0 sb.0 sd.0 se.0 r3 in
      let ok4 = four_allowed (sounding_claim_of a) (sounding_claim_of b) (sounding_claim_of d) (sounding_claim_of e) g.fourth sa.1 sb.1 sd.1 se.1 r4 in
      let spent3 = split_spends (map data_claim_of ds) g.third ok3 (omega arith) in
      let spent4 = split_spends (map sounding_claim_of ds) g.fourth ok4 (omega arith) in
      let sum3 = sum_four xs (split_many (map data_claim_of ds) g.third ok3) in
      let sum4 = sum_four ys (split_many (map sounding_claim_of ds) g.fourth ok4) in
      let cap = split_capped (map data_claim_of ds) g.third ok3 in
      omega (
        arith,
        spent3,
        spent4,
        sum3,
        sum4,
        taken_once Acknowledgement a b d e silent_first fa fb fd fe one g.first h1,
        taken_once ControlInformation a b d e silent_second fa fb fd fe two g.second h2,
        granted_is a g (get_or xs 0 0) (get_or ys 0 0) fa (cap 0),
        granted_is b g (get_or xs 1 0) (get_or ys 1 0) fb (cap 1),
        granted_is d g (get_or xs 2 0) (get_or ys 2 0) fd (cap 2),
        granted_is e g (get_or xs 3 0) (get_or ys 3 0) fe (cap 3),
      )
