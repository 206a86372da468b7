-- Levels that are made from equal sums.
use Rattle.std.proofs.Common.{◌≡◌}
use Rattle.levels.specs.declared.Level.{Level}

pub same_level : (l m : Level) → l.tenths ≡ m.tenths → l ≡ m
same_level l m e = λ i. record { tenths = e i }
