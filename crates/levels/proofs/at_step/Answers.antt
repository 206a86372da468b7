use Rattle.std.proofs.Common.{ℕ, ◌-◌, ◌/◌, ◌%◌, ◌<◌, get_or, sym, ap, ◌∙◌, subst, lit<}
use Rattle.levels.specs.Levels.{scaled, mantissas, written_mantissas}
use Rattle.levels.proofs.Roots.{pow_above}
use Rattle.levels.proofs.at_step.Goals as goal

pub nonzero_div-result : goal.nonzero_div-result
nonzero_div-result c = subst (λ (x : ℕ). 0 < x) (sym c.pow.ensures) (pow_above 10 (9 - c.args.step / 100) (lit< tt))

pub returns : goal.returns
unfolding scaled mantissas
returns c =
    ap (λ (m : ℕ). m / c.pow.result) c.mantissa_at.ensures
    ∙ ap (λ (x : ℕ). get_or written_mantissas (c.args.step % 100) 0 / x) c.pow.ensures
