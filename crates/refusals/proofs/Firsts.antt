-- The first condition that holds, told by what stands before it.
use Rattle.std.proofs.Common.{◌≡◌, ℕ, List, [], ◌∷◌, ◌++◌, Some, None, Option, refl, ap, ◌∙◌, arith}
use Rattle.refusals.specs.declared.Refusal.{Refusal}
use Rattle.refusals.specs.First.{first_that_holds, NoneHolds, FirstGives, FirstThatHolds}

gives : (e : Refusal) (cs : List (Option Refusal)) → first_that_holds cs ≡ Some e → FirstGives e cs
gives e [] h = let z : ◌≡◌ {A = ℕ} 0 1 = cc in absurd (omega arith)
gives e (Some r ∷ cs) h = let same : r ≡ e = cc in record { before = []; after = cs; listed = ap (λ (x : Refusal). Some x ∷ cs) same; none_before = tt }
gives e (None ∷ cs) h =
    let rest = gives e cs h in
    record { before = None ∷ rest.before; after = rest.after; listed = ap (λ (xs : List (Option Refusal)). None ∷ xs) rest.listed; none_before = (refl, rest.none_before) }

nothing : (cs : List (Option Refusal)) → first_that_holds cs ≡ None → NoneHolds cs
nothing [] h = tt
nothing (Some r ∷ cs) h = let z : ◌≡◌ {A = ℕ} 0 1 = cc in absurd (omega arith)
nothing (None ∷ cs) h = (refl, nothing cs h)

past : (before cs : List (Option Refusal)) → NoneHolds before → first_that_holds (before ++ cs) ≡ first_that_holds cs
past [] cs h = refl
past (c ∷ before) cs h = rw h.0 (past before cs h.1)

given : (e : Refusal) (cs : List (Option Refusal)) → FirstGives e cs → first_that_holds cs ≡ Some e
given e cs g = ap first_that_holds g.listed ∙ past g.before (Some e ∷ g.after) g.none_before

passes : (cs : List (Option Refusal)) → NoneHolds cs → first_that_holds cs ≡ None
passes [] h = refl
passes (c ∷ cs) h = rw h.0 (passes cs h.1)

pub first_stands : (cs : List (Option Refusal)) → FirstThatHolds cs (first_that_holds cs)
first_stands cs = record { gives = λ e h. gives e cs h; given = λ e g. given e cs g; nothing = nothing cs; passes = passes cs }

-- an answer that is the first that holds carries the whole law
pub answers : (cs : List (Option Refusal)) (r : Option Refusal) → r ≡ first_that_holds cs → FirstThatHolds cs r
answers cs r e = rw e (first_stands cs)
