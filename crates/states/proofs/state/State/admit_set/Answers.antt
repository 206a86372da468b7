use Rattle.std.proofs.Common.{ℕ, [], ◌++◌}
use Rattle.cells.specs.declared.settings.Settings.{Settings}
use Rattle.cells.specs.Ranges.{settings_conditions, settings_of}
use Rattle.states.specs.Numbers.{cell_conditions}
use Rattle.states.specs.Admission.{refuses_busy}
use Rattle.states.proofs.Chains.{passed, stopped}
use Rattle.states.proofs.state.State.admit_set.Goals as goal

pub returns-in_err-settings-clause-answers : goal.returns-in_err-settings-clause-answers
returns-in_err-settings-clause-answers c =
    let cs = settings_conditions c.args.settings in
    let y : ℕ × Settings = (c.args.cell, settings_of c.args.settings) in
    passed (refuses_busy c.args.self.now) (cell_conditions c.args.cell ++ cs) _ _ _ y c.in_ok-check_idle.ensures
    (passed (cell_conditions c.args.cell) cs _ _ _ y c.in_ok-cell.ensures
    (stopped cs [] _ _ _ y c.in_err-settings.ensures.answers c.from_residual-in_err-settings.ensures.1))
