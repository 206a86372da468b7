use Rattle.std.proofs.Common.{sym, refl, subst}
use Rattle.std.specs.List.{AllByRecursion}
use Rattle.levels.specs.Levels.{W, scaled, mantissas}
use Rattle.figures.specs.Figures.{Right, bench_list}
use Rattle.figures.proofs.worked_figures.Goals as goal

all_right : AllByRecursion Right bench_list
unfolding W scaled mantissas
all_right = (refl, (refl, (refl, (refl, (refl, (refl, (refl, (refl, (refl, (refl, (refl, tt)))))))))))

pub returns-clause-worked_figures : goal.returns-clause-worked_figures
returns-clause-worked_figures c = subst (AllByRecursion Right) (sym c.written_list.ensures) all_right
