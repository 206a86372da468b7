-- What ranks ahead, and amounts by group.
use Rattle.std.proofs.Common.{◌≡◌, ℕ, ◌+◌, ◌<◌, ◌≤◌, cond, ltb, List, [], ◌∷◌, ◌++◌, refl, ap, ◌∙◌, arith}
use Rattle.std.proofs.lemmas.Bool.Decides.{nat_tests}
use Rattle.sharing.specs.declared.groups.Group.{Group}
use Rattle.sharing.specs.declared.groups.Group.TheVariants.{Master, Secondary}
use Rattle.sharing.specs.declared.groups.PerGroup.{PerGroup}
use Rattle.sharing.specs.declared.ranks.Rank.{Rank}
use Rattle.sharing.specs.Groups.{rival, at_group, more_for, if_group}
use Rattle.sharing.specs.Ranks.{wanted_by, ahead_of}
use Rattle.sharing.specs.Verdict.{RanksAhead}

-- nothing ranks ahead of a group that wants nothing
pub none_ahead : (X : Group) (rs : List Rank) → wanted_by X rs ≡ 0 → ahead_of X rs ≡ 0
none_ahead X [] h = refl
none_ahead X (r ∷ rs) h = grind (arith, nat_tests)

-- what ranks ahead is at most what the rival wants
pub ahead_most : (X : Group) (rs : List Rank) → ahead_of X rs ≤ wanted_by (rival X) rs
ahead_most X [] = omega arith
ahead_most X (r ∷ rs) = let ih = ahead_most X rs in grind (arith, nat_tests)

-- what a search that has passed some ranks knows of the whole
abbrev pub Searched : (X : Group) (whole : List Rank) (passed found : ℕ) → List Rank → Type 0
Searched X whole passed found rs = ahead_of X whole ≡ cond (ltb 0 (wanted_by X rs)) (passed + ahead_of X rs) found

pub searched_none : (X : Group) (rs : List Rank) → Searched X rs 0 0 rs
searched_none X rs = let z = none_ahead X rs in grind (arith, nat_tests)

-- a grant counts for its group and no other
pub counts : (X Z : Group) (n : ℕ) (so_far : PerGroup ℕ) → at_group X (more_for Z n so_far) ≡ at_group X so_far + if_group X Z n
counts Master Master n so_far = refl
counts Master Secondary n so_far = omega arith
counts Secondary Master n so_far = omega arith
counts Secondary Secondary n so_far = refl

-- amounts that are equal for each group are equal
pub same_amounts : (p q : PerGroup ℕ) → ((X : Group) → at_group X p ≡ at_group X q) → p ≡ q
same_amounts p q h = pair p.master p.secondary q.master q.secondary (h Master) (h Secondary)
  where
    pair : (a b c d : ℕ) → a ≡ c → b ≡ d → ◌≡◌ {A = PerGroup ℕ} (record { master = a; secondary = b }) (record { master = c; secondary = d })
    pair a b c d e f = rw (e, f)

-- what ranks ahead of the lowest want above 0
own_is : (X Z : Group) (n : ℕ) → Z ≡ X → if_group X Z n ≡ n
own_is X Z n e = rw e (own X n)
  where
    own : (Y : Group) (k : ℕ) → if_group Y Y k ≡ k
    own Master k = refl
    own Secondary k = refl

wants_some : (X : Group) (before after : List Rank) (r : Rank) → r.group ≡ X → 0 < r.want → 0 < wanted_by X (before ++ (r ∷ after))
wants_some X [] after r e h = omega (arith, own_is X r.group r.want e)
wants_some X (b ∷ before) after r e h = omega (arith, wants_some X before after r e h)

before_lowest : (X : Group) (before after : List Rank) (r : Rank) → r.group ≡ X → 0 < r.want → wanted_by X after ≡ 0 → ahead_of X (before ++ (r ∷ after)) ≡ wanted_by (rival X) before
before_lowest X [] after r e h z = grind (arith, nat_tests)
before_lowest X (b ∷ before) after r e h z =
    let ih = before_lowest X before after r e h z in
    let more = wants_some X before after r e h in
    grind (arith, nat_tests)

pub ranks_ahead : (rs : List Rank) (X : Group) → RanksAhead X rs
ranks_ahead rs X = record {
  wants_nothing = none_ahead X rs;
  before_the_lowest = λ before after r cut e h z. ap (ahead_of X) cut ∙ before_lowest X before after r e h z;
}
