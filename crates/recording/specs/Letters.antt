-- Which kind a letter stands for.
use Rattle.std.specs.Prelude.{◌≡◌, ℕ, Result, IfErr}
use Rattle.std.specs.Result.{result_ok}
use Rattle.recording.specs.declared.kinds.RecordKind.{RecordKind}
use Rattle.recording.specs.declared.kinds.UnknownLetter.{UnknownLetter}
use Rattle.recording.specs.Kinds.{kind_with, KindOfLetter}

-- the kind that has the letter, exactly where one has it, and else the letter
pub record Decodes (letter : ℕ) (r : Result RecordKind UnknownLetter) : Type 0 where
  pub kind_of_letter : result_ok r ≡ kind_with letter
  pub exactly : KindOfLetter letter (result_ok r)
  pub unknown_letter : IfErr r (λ unknown. unknown.0 ≡ letter)
