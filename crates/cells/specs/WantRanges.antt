-- Which wants a call may bring, and what they then stand for.
use Rattle.std.specs.Prelude.{◌≡◌, Result, IfOk, ℕ, ◌%◌, Bool, true, cond, not, ◌&&◌, ◌||◌, List, [], ◌∷◌, ℤ, pos, negsuc, IfSome, ◌==◌, nat_le, nat_lt, unsigned_abs, Option}
use Rattle.refusals.specs.declared.Refusal.TheVariants.{OutOfRange}
use Rattle.refusals.specs.declared.Refusal.{Refusal}
use Rattle.refusals.specs.First.{when, first_that_holds, refused_or, NoneHolds}
use Rattle.sharing.specs.Ranks.{class_number}
use Rattle.cells.specs.declared.wants.ControlWant.{ControlWant}
use Rattle.cells.specs.declared.wants.DataWant.{DataWant}
use Rattle.cells.specs.declared.wants.SoundingWant.{SoundingWant}
use Rattle.cells.specs.declared.wants.RawWant.{RawWant}
use Rattle.cells.specs.declared.wants.CellWants.{CellWants}
use Rattle.cells.specs.declared.wants.Want.{Want}
use Rattle.cells.specs.declared.wants.Want.TheVariants.{Control, Data, Sounding}
use Rattle.cells.specs.Numbers.{format_number, format_of, class_of}
use Rattle.cells.specs.Kinds.{kind_number, kind_of, class_of_want}
use Rattle.cells.specs.Ranges.{outside}

-- one of the classes from the first to the last
abbrev pub is_class : (first last n : ℕ) → Bool
is_class first last n = nat_le first n && nat_le n last

-- format 1 has no size, format 2 a size of 0 to 13, format 3 one of 1 to 11, and there is no other
abbrev pub control_size_fits : (f n : ℕ) → Bool
control_size_fits f n = (f == 1 && n == 0) || ((f == 2 && nat_le n 13) || (f == 3 && (nat_le 1 n && nat_le n 11)))

-- 4 to 96 blocks, in multiples of 4
abbrev pub is_sounding_size : ℕ → Bool
is_sounding_size n = nat_le 4 n && (nat_le n 96 && n % 4 == 0)

-- control: class 1 or 2, a size by its format, an offset of -2 to 6 dB
abbrev pub control_conditions : RawWant → List (Option Refusal)
control_conditions r =
    when (not (is_class 1 2 r.class)) OutOfRange ∷
    when (not (control_size_fits r.format r.size)) OutOfRange ∷
    when (outside (negsuc 1) (pos 6) r.offset) OutOfRange ∷
    []

-- data: class 1 to 3, 1 to 110 blocks, no format, no offset
abbrev pub data_conditions : RawWant → List (Option Refusal)
data_conditions r =
    when (not (is_class 1 3 r.class)) OutOfRange ∷
    when (nat_lt r.size 1 || nat_lt 110 r.size) OutOfRange ∷
    when (nat_lt 0 r.format) OutOfRange ∷
    when (outside (pos 0) (pos 0) r.offset) OutOfRange ∷
    []

-- sounding: class 4, its number of blocks, no format, an offset index of 0 to 15
abbrev pub sounding_conditions : RawWant → List (Option Refusal)
sounding_conditions r =
    when (not (is_class 4 4 r.class)) OutOfRange ∷
    when (not (is_sounding_size r.size)) OutOfRange ∷
    when (nat_lt 0 r.format) OutOfRange ∷
    when (outside (pos 0) (pos 15) r.offset) OutOfRange ∷
    []

-- the conditions of its kind; a kind that is none of the three is out of range
abbrev pub want_conditions : RawWant → List (Option Refusal)
want_conditions r =
    cond (r.kind == 1) (control_conditions r)
    (cond (r.kind == 2) (data_conditions r)
    (cond (r.kind == 3) (sounding_conditions r) (when true OutOfRange ∷ [])))

abbrev pub control_of : RawWant → ControlWant
control_of r = record { class = class_of r.class; offset = r.offset; format = format_of r.format; size = r.size }

abbrev pub data_of : RawWant → DataWant
data_of r = record { class = class_of r.class; blocks = r.size }

abbrev pub sounding_of : RawWant → SoundingWant
sounding_of r = record { blocks = r.size; offset = unsigned_abs r.offset }

abbrev pub want_of : RawWant → Want
want_of r = cond (r.kind == 1) (Control (control_of r)) (cond (r.kind == 2) (Data (data_of r)) (Sounding (sounding_of r)))

abbrev pub size_of : Want → ℕ
size_of (Control w) = w.size
size_of (Data w) = w.blocks
size_of (Sounding w) = w.blocks

abbrev pub format_field : Want → ℕ
format_field (Control w) = format_number w.format
format_field (Data w) = 0
format_field (Sounding w) = 0

abbrev pub offset_field : Want → ℤ
offset_field (Control w) = w.offset
offset_field (Data w) = pos 0
offset_field (Sounding w) = pos w.offset

-- a want as a call would bring it, its kind, class and format by their numbers
abbrev pub raw_want_of : Want → RawWant
raw_want_of w = record {
  kind = kind_number (kind_of w);
  class = class_number (class_of_want w);
  size = size_of w;
  format = format_field w;
  offset = offset_field w;
}

-- a want that no call is refused for
abbrev pub WantInRange : Want → Type 0
WantInRange w = NoneHolds (want_conditions (raw_want_of w))

-- a want that a call brings is refused, or answered as the want of the same numbers, which are in range
pub record WantChecked (raw : RawWant) (r : Result Want Refusal) : Type 0 where
  pub answers : r ≡ refused_or (first_that_holds (want_conditions raw)) (want_of raw)
  pub reads_back : IfOk r (λ w. raw_want_of w ≡ raw)
  pub in_range : IfOk r WantInRange

pub record WantsInRange (w : CellWants) : Type 0 where
  pub of_control : IfSome w.control (λ x. WantInRange (Control x))
  pub of_data : IfSome w.«data» (λ x. WantInRange (Data x))
  pub of_sounding : IfSome w.sounding (λ x. WantInRange (Sounding x))
