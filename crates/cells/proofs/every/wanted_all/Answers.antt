use Rattle.std.proofs.Common.{◌≡◌, ℕ, sym, refl, subst, arith, rules}
use Rattle.cells.specs.declared.powers.Powers.{Powers}
use Rattle.cells.specs.Promises.{WithinMaximum}
use Rattle.cells.specs.Every.{all_wanted, wanted_at, Pairwise}
use Rattle.cells.proofs.InTurn.{no_powers, made_at, wanted_each, all_within}
use Rattle.cells.proofs.every.wanted_all.Goals as goal

pub returns : goal.returns
returns c =
    let is : c.from_fn.result ≡ all_wanted c.args.cells.now c.args.wants.now =
    wanted_each c.from_fn.result c.args.cells.now c.args.wants.now (omega (arith, c.from_fn.ensures.items.long, c.told-cells)) (omega (arith, c.told-cells, c.told-wants))
    (λ i h. made_at _ _ (λ (j : ℕ) (y : Powers). y ≡ wanted_at c.args.cells.now c.args.wants.now j) c.from_fn.result no_powers (λ j y q k. (search rules, search rules)) 8 0 _ refl c.from_fn.ensures.items.each i i (omega arith) (omega (arith, c.told-cells)))
    in
    record {
      value = is;
      within_maximum = subst (Pairwise WithinMaximum c.args.cells.now) (sym is) (all_within c.args.cells.now c.args.wants.now (omega (arith, c.told-cells, c.told-wants)));
    }
