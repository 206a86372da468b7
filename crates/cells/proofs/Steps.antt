-- The rule of the loops holds of what they move to.
use Rattle.std.proofs.Common.{IfSome, ◌≡◌, ℕ, ◌<◌, ◌≤◌, cond, ℤ, pos, ◌+ℤ◌, ◌<ℤ◌, Some, None, Option, sym, refl, ap, ◌∙◌, subst, arith}
use Rattle.std.specs.Int.{saturate_to_bits}
use Rattle.std.proofs.lemmas.Int.{ints}
use Rattle.std.proofs.lemmas.Bool.Decides.{nat_tests}
use Rattle.levels.specs.Levels.{power}
use Rattle.cells.specs.declared.settings.LoopKind.{LoopKind}
use Rattle.cells.specs.declared.settings.LoopKind.TheVariants.{Accumulating, Absolute}
use Rattle.cells.specs.declared.settings.Settings.{Settings}
use Rattle.cells.specs.declared.commands.TpcCommand.{TpcCommand}
use Rattle.cells.specs.declared.wants.CellWants.{CellWants}
use Rattle.cells.specs.declared.cell.Cell.{Cell}
use Rattle.cells.specs.Cells.{InLimits}
use Rattle.cells.specs.Commands.{step_of, due}
use Rattle.cells.specs.Powers.{data_values, control_values, raw_data, raw_control}
use Rattle.cells.specs.Loops.{ignored, with_step, commanded, moved_loop, moved_with, moved}
use Rattle.cells.specs.LoopRule.{TakesStep, MovesByCommands}
use Rattle.cells.proofs.Limits.{plain_sum, step_low, step_high}

module _ (v by sum : ℤ) (raw most : ℕ) where
  raised : sum ≡ v +ℤ by → pos 0 <ℤ by → raw < most → cond (ignored by raw most) v sum ≡ v +ℤ by
  raised is h k = grind (arith, ints, nat_tests)

  held_at_maximum : pos 0 <ℤ by → most ≤ raw → cond (ignored by raw most) v sum ≡ v
  held_at_maximum h k = grind (arith, ints, nat_tests)

  lowered : sum ≡ v +ℤ by → by <ℤ pos 0 → 100 < raw → cond (ignored by raw most) v sum ≡ v +ℤ by
  lowered is h k = grind (arith, ints, nat_tests)

  held_at_least : by <ℤ pos 0 → raw ≤ 100 → cond (ignored by raw most) v sum ≡ v
  held_at_least h k = grind (arith, ints, nat_tests)

  kept : sum ≡ v +ℤ by → by ≡ pos 0 → cond (ignored by raw most) v sum ≡ v
  kept is h = grind (arith, ints, nat_tests)

takes_step : (v : ℤ) (code : TpcCommand) (raw most : ℕ) → InLimits v → TakesStep raw most (step_of Accumulating code) v (with_step v (step_of Accumulating code) raw most)
takes_step v code raw most h =
    let by = step_of Accumulating code in
    let lowest = step_low code in
    let highest = step_high code in
    let is = plain_sum v by h (omega (arith, ints)) (omega (arith, ints)) in
    let sum = saturate_to_bits 15 (v +ℤ by) in
    record {
      raised = raised v by sum raw most is;
      held_at_maximum = held_at_maximum v by sum raw most;
      lowered = lowered v by sum raw most is;
      held_at_least = held_at_least v by sum raw most;
      kept = kept v by sum raw most is;
    }

-- a loop with the command that is due, and where there is none
stands : (kind : LoopKind) (v : ℤ) (o : Option TpcCommand) (raw most : ℕ) → o ≡ None → moved_loop kind v o raw most ≡ v
stands kind v o raw most e = ap (λ (x : Option TpcCommand). moved_loop kind v x raw most) e

after : (kind : LoopKind) (v : ℤ) (o : Option TpcCommand) (raw most : ℕ) (code : TpcCommand) → o ≡ Some code → moved_loop kind v o raw most ≡ commanded kind v code raw most
after kind v o raw most code e = ap (λ (x : Option TpcCommand). moved_loop kind v x raw most) e

replaced : (kind : LoopKind) (v : ℤ) (o : Option TpcCommand) (raw most : ℕ) (code : TpcCommand) → o ≡ Some code → kind ≡ Absolute → moved_loop kind v o raw most ≡ step_of Absolute code
replaced kind v o raw most code e a = after kind v o raw most code e ∙ ap (λ (x : LoopKind). commanded x v code raw most) a

steps : (kind : LoopKind) (v : ℤ) (o : Option TpcCommand) (raw most : ℕ) (code : TpcCommand) → o ≡ Some code → kind ≡ Accumulating → InLimits v → TakesStep raw most (step_of Accumulating code) v (moved_loop kind v o raw most)
steps kind v o raw most code e a h =
    subst (TakesStep raw most (step_of Accumulating code) v) (sym (after kind v o raw most code e ∙ ap (λ (x : LoopKind). commanded x v code raw most) a)) (takes_step v code raw most h)

rule_of : (s : Settings) (k : Cell) (w : CellWants) (n : ℕ) → MovesByCommands s k w n (moved_with (Some s) k w n)
rule_of s k w n =
    let of_data = due k.data_commands n in
    let of_control = due k.control_commands n in
    let raw-f = raw_data (data_values s k) w.«data» in
    let raw-g = raw_control (control_values s k) w.control in
    let most = power s.maximum in
    record {
      data_stands = stands s.loop_kind k.data_loop of_data raw-f most;
      data_replaced = replaced s.loop_kind k.data_loop of_data raw-f most;
      data_steps = steps s.loop_kind k.data_loop of_data raw-f most;
      control_stands = stands Accumulating k.control_loop of_control raw-g most;
      control_steps = λ code e h. steps Accumulating k.control_loop of_control raw-g most code e refl h;
    }

rule_with : (o : Option Settings) (k : Cell) (w : CellWants) (n : ℕ) → IfSome o (λ s. MovesByCommands s k w n (moved_with o k w n))
rule_with None k w n = tt
rule_with (Some s) k w n = rule_of s k w n

pub moves_by_commands : (k : Cell) (w : CellWants) (n : ℕ) (after : Cell) → after ≡ moved k w n → IfSome k.settings (λ s. MovesByCommands s k w n after)
moves_by_commands k w n after is = subst (λ (x : Cell). IfSome k.settings (λ s. MovesByCommands s k w n x)) (sym is) (rule_with k.settings k w n)
