-- Figures worked out on the bench, and what it is for one to be right.
use Rattle.std.specs.Prelude.{◌≡◌, List, [], ◌∷◌, pos, negsuc}
use Rattle.levels.specs.Levels.{level_of, power}
use Rattle.split.specs.Shares.{split_of}
use Rattle.sharing.specs.Guarantees.{guarantee_of}
use Rattle.figures.specs.declared.Figure.{Figure}
use Rattle.figures.specs.declared.Figure.TheVariants.{Power, Guarantee, Split}

-- the rules give this figure, by the same definitions that the contracts of the code use
abbrev pub Right : Figure → Type 0
Right (Power d n) = power (level_of (pos 0) d) ≡ n
Right (Guarantee d p n) = guarantee_of (power (level_of (pos 0) d)) p ≡ n
Right (Split ws n gs) = split_of ws n ≡ gs

abbrev pub bench_list : List Figure
bench_list =
    Power (negsuc 600) 0 ∷
    Power (negsuc 599) 1 ∷
    Power (negsuc 399) 100 ∷
    Power (negsuc 0) 977237 ∷
    Power (pos 0) 1000000 ∷
    Power (pos 1) 1023292 ∷
    Power (pos 230) 199526231 ∷
    Power (pos 399) 9772372209 ∷
    Guarantee (pos 230) 30 59857869 ∷
    Split (5 ∷ 5 ∷ 5 ∷ []) 10 (4 ∷ 3 ∷ 3 ∷ []) ∷
    Split (0 ∷ 7 ∷ 8 ∷ []) 10 (0 ∷ 5 ∷ 5 ∷ []) ∷
    []
