use Rattle.std.proofs.Common.{pos, ◌+ℤ◌, ap, arith}
use Rattle.std.proofs.lemmas.Int.{ints}
use Rattle.levels.specs.declared.Level.{Level}
use Rattle.levels.specs.Levels.{level_of}
use Rattle.cells.specs.Powers.{data_level}
use Rattle.cells.proofs.Sums.{same_level}
use Rattle.cells.proofs.powers.DataValues.level_above.Goals as goal

pub returns : goal.returns
returns c = same_level c.of.result (level_of (pos 0) ((data_level c.args.self).tenths +ℤ c.args.tenths)) (omega (arith, ints, c.from.ensures, c.from-2.ensures, c.from-3.ensures, c.from-4.ensures, ap (λ (l : Level). l.tenths) c.of.ensures))
