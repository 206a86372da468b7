use Rattle.std.proofs.Common.{◌≡◌, pos, None, Ok, sym, ap, ◌∙◌, arith, w16, w32, w64, to_z, of_z, rules}
use Rattle.std.proofs.lemmas.Int.{ints}
use Rattle.refusals.specs.First.{first_that_holds, refused_or}
use Rattle.levels.specs.Levels.{level_of}
use Rattle.cells.specs.Ranges.{settings_conditions, settings_of, raw_settings_of}
use Rattle.cells.proofs.Bounds.{none_holds, settings_bounds}
use Rattle.cells.proofs.ReadBack.{loop_kind_at, nothing_refused, reads_back, settings_back, settings_same}
use Rattle.cells.proofs.settings.SettingsTryFromRawSettings.try_from.Goals as goal

pub returns : goal.returns
returns c =
    let r = c.args.raw in
    let passed : first_that_holds c.conditions.result ≡ None = search rules in
    let kind = c.in_ok-loop_kind.ensures in
    let accepted = nothing_refused r c.in_ok-loop_kind.loop_kind c.conditions.result kind c.conditions.ensures passed in
    let bounds = settings_bounds r (none_holds (settings_conditions r) accepted) in
    let tenths : to_z w32 (of_z w32 (to_z w64 (of_z w64 c.args.raw.maximum))) ≡ c.args.raw.maximum = omega (arith, ints) in
    let same = settings_same r c.in_ok-loop_kind.loop_kind c.from_tenths.result
    (to_z w16 (of_z w16 (to_z w64 (of_z w64 c.args.raw.data_base))))
    (to_z w16 (of_z w16 (to_z w64 (of_z w64 c.args.raw.control_base))))
    (loop_kind_at c.in_ok-loop_kind.loop_kind r.loop_kind kind) (c.from_tenths.ensures ∙ ap (level_of (pos 0)) tenths) (omega (arith, ints)) (omega (arith, ints)) in
    let answers = ap Ok same ∙ sym (ap (λ o. refused_or o (settings_of c.args.raw)) accepted) in
    let back = reads_back settings_conditions raw_settings_of r (settings_of r) _ answers (settings_back r) in
    record { answers = answers; reads_back = back.0; in_range = back.1 }
