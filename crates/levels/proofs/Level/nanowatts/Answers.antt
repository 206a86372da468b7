-- Each way answers the level's power, and what is proved of that power holds of the answer.
use Rattle.std.proofs.Common.{◌≡◌, negsuc, ◌≤ℤ◌, ◌<ℤ◌, sym, ap, ◌∙◌, arith}
use Rattle.std.proofs.lemmas.Int.{ints}
use Rattle.levels.specs.Levels.{mantissas, scaled, power, LargestWholeNanowatts, MantissaTimesPowerOfTen, RisesWithLevel}
use Rattle.levels.proofs.Rule.{W_below, W_from, most, of_the_power, largest_whole_nanowatts, mantissa_times_power_of_ten, rises_with_level}
use Rattle.levels.proofs.Level.nanowatts.Goals as goal

pub returns-then-tenths-lt-LOWEST : goal.returns-then-tenths-lt-LOWEST
returns-then-tenths-lt-LOWEST c =
    let l = c.args.self in
    let low : c.args.self.tenths <ℤ negsuc 599 = omega (arith, ints) in
    let is : 0 ≡ power c.args.self = sym (W_below c.args.self.tenths low) in
    record {
      value = is;
      largest_whole_nanowatts = of_the_power LargestWholeNanowatts largest_whole_nanowatts l 0 is;
      mantissa_times_power_of_ten = of_the_power MantissaTimesPowerOfTen mantissa_times_power_of_ten l 0 is;
      rises_with_level = of_the_power RisesWithLevel rises_with_level l 0 is;
      most = omega arith;
    }

pub returns : goal.returns
returns c =
    let l = c.args.self in
    let n = c.at_step.result in
    let from : negsuc 599 ≤ℤ c.args.self.tenths = omega (arith, ints) in
    let is : c.at_step.result ≡ power c.args.self =
    c.at_step.ensures ∙ ap (scaled 100 mantissas) (omega (arith, ints)) ∙ sym (W_from c.args.self.tenths from)
    in
    record {
      value = is;
      largest_whole_nanowatts = of_the_power LargestWholeNanowatts largest_whole_nanowatts l n is;
      mantissa_times_power_of_ten = of_the_power MantissaTimesPowerOfTen mantissa_times_power_of_ten l n is;
      rises_with_level = of_the_power RisesWithLevel rises_with_level l n is;
      most = omega (arith, most c.args.self.tenths);
    }
