use Rattle.std.proofs.Common.{◌≡◌, ℕ, List, sym, subst}
use Rattle.levels.specs.Levels.{LargestMantissas, mantissas}
use Rattle.levels.proofs.Rule.{largest_mantissas}
use Rattle.levels.proofs.mantissas.Goals as goal

pub returns : goal.returns
unfolding mantissas
returns c =
    let is : c.written_table.result ≡ mantissas = c.written_table.ensures in
    record { table = is; largest_mantissas = subst (λ (t : List ℕ). LargestMantissas 100 t) (sym is) largest_mantissas }
