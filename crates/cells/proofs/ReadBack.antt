-- What was accepted has the numbers that the call brought.
use Rattle.std.proofs.Common.{◌≡◌, ℕ, ◌≤◌, Bool, true, false, cond, not, eqb, ltb, List, [], ◌∷◌, ℤ, pos, nat_abs, IfOk, Some, None, Option, Result, sym, refl, ap, ◌∙◌, subst, arith}
use Rattle.std.proofs.lemmas.Int.{ints}
use Rattle.std.proofs.lemmas.Bool.Decides.{nat_tests}
use Rattle.std.proofs.lemmas.Option.{none-some}
use Rattle.std.specs.Option.{option_or}
use Rattle.refusals.specs.declared.Refusal.TheVariants.{OutOfRange}
use Rattle.refusals.specs.declared.Refusal.{Refusal}
use Rattle.refusals.specs.First.{when, first_that_holds, refused_or, NoneHolds}
use Rattle.levels.specs.Levels.{level_of}
use Rattle.levels.specs.declared.Level.{Level}
use Rattle.sharing.specs.Ranks.{class_number}
use Rattle.cells.specs.declared.settings.LoopKind.{LoopKind}
use Rattle.cells.specs.declared.settings.LoopKind.TheVariants.{Accumulating, Absolute}
use Rattle.cells.specs.declared.settings.Settings.{Settings}
use Rattle.cells.specs.declared.settings.RawSettings.{RawSettings}
use Rattle.cells.specs.declared.wants.RawWant.{RawWant}
use Rattle.cells.specs.declared.wants.Want.{Want}
use Rattle.cells.specs.declared.wants.Want.TheVariants.{Control, Data, Sounding}
use Rattle.cells.specs.Numbers.{loop_kind_number, loop_kind_of, format_number, format_of, class_of}
use Rattle.cells.specs.Ranges.{settings_conditions, settings_of, raw_settings_of}
use Rattle.cells.specs.WantRanges.{is_class, control_size_fits, control_conditions, data_conditions, sounding_conditions, control_of, data_of, sounding_of, want_conditions, want_of, raw_want_of}
use Rattle.refusals.proofs.Answered.{not_held}
use Rattle.cells.proofs.Bounds.{none_holds, settings_bounds, low_end, high_end, at_most}

-- each case is that of its number
pub loop_kind_case : (k : LoopKind) → loop_kind_of (loop_kind_number k) ≡ k
loop_kind_case Accumulating = refl
loop_kind_case Absolute = refl

pub loop_kind_at : (k : LoopKind) (n : ℕ) → loop_kind_number k ≡ n → k ≡ loop_kind_of n
loop_kind_at k n e = sym (loop_kind_case k) ∙ ap loop_kind_of e

loop_kind_back : (n : ℕ) → n ≤ 1 → loop_kind_number (loop_kind_of n) ≡ n
loop_kind_back n h = grind (arith, nat_tests)

class_back : (n : ℕ) → 1 ≤ n → n ≤ 4 → class_number (class_of n) ≡ n
class_back n h k = grind (arith, nat_tests)

format_back : (n : ℕ) → 1 ≤ n → n ≤ 3 → format_number (format_of n) ≡ n
format_back n h k = grind (arith, nat_tests)

class_least : (first last n : ℕ) → when (not (is_class first last n)) OutOfRange ≡ None → first ≤ n
class_least first last n h = let e = not_held (not (is_class first last n)) OutOfRange h in grind (arith, nat_tests)

class_most : (first last n : ℕ) → when (not (is_class first last n)) OutOfRange ≡ None → n ≤ last
class_most first last n h = let e = not_held (not (is_class first last n)) OutOfRange h in grind (arith, nat_tests)

format_least : (f n : ℕ) → when (not (control_size_fits f n)) OutOfRange ≡ None → 1 ≤ f
format_least f n h = let e = not_held (not (control_size_fits f n)) OutOfRange h in grind (arith, nat_tests)

format_most : (f n : ℕ) → when (not (control_size_fits f n)) OutOfRange ≡ None → f ≤ 3
format_most f n h = let e = not_held (not (control_size_fits f n)) OutOfRange h in grind (arith, nat_tests)

tenths_back : (m : ℤ) → (level_of (pos 0) m).tenths ≡ m
tenths_back m = omega (arith, ints)

pub settings_back : (r : RawSettings) → NoneHolds (settings_conditions r) → raw_settings_of (settings_of r) ≡ r
settings_back r h =
    let kind = loop_kind_back r.loop_kind (settings_bounds r h).kind in
    let most = tenths_back r.maximum in
    λ i. record { loop_kind = kind i; maximum = most i; data_base = r.data_base; path_factor = r.path_factor; control_base = r.control_base }

pub settings_same : (r : RawSettings) (k : LoopKind) (l : Level) (d c : ℤ) → k ≡ loop_kind_of r.loop_kind → l ≡ level_of (pos 0) r.maximum → d ≡ r.data_base → c ≡ r.control_base → ◌≡◌ {A = Settings} (record { loop_kind = k; maximum = l; data_base = d; path_factor = r.path_factor; control_base = c }) (settings_of r)
settings_same r k l d c p q s t = cc

control_back : (r : RawWant) → r.kind ≡ 1 → NoneHolds (control_conditions r) → raw_want_of (Control (control_of r)) ≡ r
control_back r is h =
    let kind = sym is in
    let class = class_back r.class (class_least 1 2 r.class h.0) (omega (arith, class_most 1 2 r.class h.0)) in
    let format = format_back r.format (format_least r.format r.size h.1.0) (format_most r.format r.size h.1.0) in
    λ i. record { kind = kind i; class = class i; size = r.size; format = format i; offset = r.offset }

data_back : (r : RawWant) → r.kind ≡ 2 → NoneHolds (data_conditions r) → raw_want_of (Data (data_of r)) ≡ r
data_back r is h =
    let kind = sym is in
    let class = class_back r.class (class_least 1 3 r.class h.0) (omega (arith, class_most 1 3 r.class h.0)) in
    let format : 0 ≡ r.format = omega (arith, at_most r.format 0 h.1.1.0) in
    let offset : pos 0 ≡ r.offset = omega (arith, ints, low_end (pos 0) (pos 0) r.offset h.1.1.1.0, high_end (pos 0) (pos 0) r.offset h.1.1.1.0) in
    λ i. record { kind = kind i; class = class i; size = r.size; format = format i; offset = offset i }

sounding_back : (r : RawWant) → r.kind ≡ 3 → NoneHolds (sounding_conditions r) → raw_want_of (Sounding (sounding_of r)) ≡ r
sounding_back r is h =
    let kind = sym is in
    let class : 4 ≡ r.class = omega (arith, class_least 4 4 r.class h.0, class_most 4 4 r.class h.0) in
    let format : 0 ≡ r.format = omega (arith, at_most r.format 0 h.1.1.0) in
    let offset : pos (nat_abs r.offset) ≡ r.offset = omega (arith, ints, low_end (pos 0) (pos 15) r.offset h.1.1.1.0) in
    λ i. record { kind = kind i; class = class i; size = r.size; format = format i; offset = offset i }

-- a want of the first kind that its number is, where a, b and c tell whether it is 1, 2 or 3
by_kind : (a b c : Bool) (r : RawWant) (xs ys zs ds : List (Option Refusal)) (u v w : Want) →
    (a ≡ true → NoneHolds xs → raw_want_of u ≡ r) → (b ≡ true → NoneHolds ys → raw_want_of v ≡ r) → (c ≡ true → NoneHolds zs → raw_want_of w ≡ r) → (NoneHolds ds → ⊥) →
    NoneHolds (cond a xs (cond b ys (cond c zs ds))) → raw_want_of (cond a u (cond b v w)) ≡ r
by_kind true b c r xs ys zs ds u v w f g h i none = f refl none
by_kind false true c r xs ys zs ds u v w f g h i none = g refl none
by_kind false false true r xs ys zs ds u v w f g h i none = h refl none
by_kind false false false r xs ys zs ds u v w f g h i none = absurd (i none)

number_is : (n k : ℕ) → eqb n k ≡ true → n ≡ k
number_is n k e = grind (arith, nat_tests)

pub want_back : (r : RawWant) → NoneHolds (want_conditions r) → raw_want_of (want_of r) ≡ r
want_back r =
    by_kind (eqb r.kind 1) (eqb r.kind 2) (eqb r.kind 3) r (control_conditions r) (data_conditions r) (sounding_conditions r) (when true OutOfRange ∷ [])
    (Control (control_of r)) (Data (data_of r)) (Sounding (sounding_of r))
    (λ e. control_back r (number_is r.kind 1 e)) (λ e. data_back r (number_is r.kind 2 e)) (λ e. sounding_back r (number_is r.kind 3 e))
    (λ none. absurd (none-some OutOfRange (sym none.0)))

-- of an answer that refuses where a condition holds, what is accepted reads back, and is in range
pub reads_back : {R T : Type 0} (conditions : R → List (Option Refusal)) (raw : T → R) (r : R) (x : T) (answer : Result T Refusal) →
    answer ≡ refused_or (first_that_holds (conditions r)) x → (NoneHolds (conditions r) → raw x ≡ r) →
    IfOk answer (λ y. raw y ≡ r) × IfOk answer (λ y. NoneHolds (conditions (raw y)))
reads_back conditions raw r x answer is back = subst (λ a. IfOk a (λ y. raw y ≡ r) × IfOk a (λ y. NoneHolds (conditions (raw y)))) (sym is) (of (first_that_holds (conditions r)) (λ e. none_holds (conditions r) e))
  where
    of : (o : Option Refusal) → (o ≡ None → NoneHolds (conditions r)) → IfOk (refused_or o x) (λ y. raw y ≡ r) × IfOk (refused_or o x) (λ y. NoneHolds (conditions (raw y)))
    of (Some e) none = (tt, tt)
    of None none = (back (none refl), subst (λ s. NoneHolds (conditions s)) (sym (back (none refl))) (none refl))

-- a kind has a number of at most 1
one_at_most : (k : LoopKind) (n : ℕ) → loop_kind_number k ≡ n → ltb 1 n ≡ false
one_at_most Accumulating n is = ap (ltb 1) (sym is)
one_at_most Absolute n is = ap (ltb 1) (sym is)

-- the kind was told, and none of the other conditions holds
pub nothing_refused : (r : RawSettings) (k : LoopKind) (cs : List (Option Refusal)) → loop_kind_number k ≡ r.loop_kind → when (ltb 1 r.loop_kind) OutOfRange ∷ cs ≡ settings_conditions r → first_that_holds cs ≡ None → first_that_holds (settings_conditions r) ≡ None
nothing_refused r k cs is all none =
    ap first_that_holds (sym all) ∙ ap (λ (b : Bool). option_or (when b OutOfRange) (first_that_holds cs)) (one_at_most k r.loop_kind is) ∙ none
