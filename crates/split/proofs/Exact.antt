-- The laws of a split.
use Rattle.std.proofs.Common.{◌≡◌, ℕ, zero, suc, ◌+◌, ◌-◌, ◌*◌, ◌/◌, ◌%◌, ◌<◌, ◌≤◌, min, leb, List, [], ◌∷◌, length, get_or, sym, refl, ap, ◌∙◌, ⊎_elim, mul-le-mul_right, mod-lt, mul_comm, add-mul, lt_of_mul-lt-mul_right, mul-le-mul_left, div-add-mod', le_of_mul-le-mul_right, arith}
use Rattle.std.proofs.lemmas.Bool.{cases_lt, le-leb, lt-leb, cond-true, cond-false}
use Rattle.std.proofs.lemmas.Bool.Decides.{nat_tests}
use Rattle.split.specs.Shares.{sum_of, rounded_down, extra, with_leftovers, split_of}
use Rattle.split.specs.Laws.{RoomSpentExactly, NoMoreThanWanted, WithinOneNanowatt, LeftoversInOrder}

-- how many of the wants have a share that is rounded
abbrev roundings : ℕ → ℕ → List ℕ → ℕ
roundings room total [] = 0
roundings room total (w ∷ ws) = min 1 (w * room % total) + roundings room total ws

pub extra_min : (r over : ℕ) → extra r over ≡ min 1 (min r over)
extra_min r over = grind (arith, nat_tests)

-- what the divisions leave, together
abbrev rests : ℕ → ℕ → List ℕ → ℕ
rests room total [] = 0
rests room total (w ∷ ws) = w * room % total + rests room total ws

balance : (room total : ℕ) (ws : List ℕ) → sum_of ws * room ≡ sum_of (rounded_down room total ws) * total + rests room total ws
balance room total [] = omega arith
balance room total (w ∷ ws) =
    omega (arith, balance room total ws, add-mul w (sum_of ws) room, add-mul (w * room / total) (sum_of (rounded_down room total ws)) total, div-add-mod' (w * room) total)

rest_bound : (r total : ℕ) → r < total → r ≤ min 1 r * total
rest_bound r total h =
    ⊎_elim
    (λ (z : r < 1). let e : min 1 r ≡ 0 = omega arith in rw e (omega arith))
    (λ (p : 1 ≤ r). let e : min 1 r ≡ 1 = omega arith in rw e (omega arith))
    (cases_lt r 1)

rests_bound : (room total : ℕ) (ws : List ℕ) → 0 < total → rests room total ws ≤ roundings room total ws * total
rests_bound room total [] pos = omega arith
rests_bound room total (w ∷ ws) pos =
    omega (arith, rests_bound room total ws pos, rest_bound (w * room % total) total (mod-lt (w * room) pos), add-mul (min 1 (w * room % total)) (roundings room total ws) total)

-- the shares do not pass the room
pub floors_below : (room : ℕ) (ws : List ℕ) → room < sum_of ws → sum_of (rounded_down room (sum_of ws) ws) ≤ room
floors_below room ws h =
    let pos : 0 < sum_of ws = omega arith in
    let scaled : sum_of (rounded_down room (sum_of ws) ws) * sum_of ws ≤ room * sum_of ws = omega (arith, balance room (sum_of ws) ws, mul_comm room (sum_of ws)) in
    le_of_mul-le-mul_right scaled pos

pub floors_room : (room total : ℕ) (ws : List ℕ) → total ≡ sum_of ws → room < total → sum_of (rounded_down room total ws) ≤ room
floors_room room total ws e h = rw e (floors_below room ws (omega arith))

few_left : (room : ℕ) (ws : List ℕ) → room < sum_of ws → room ≤ sum_of (rounded_down room (sum_of ws) ws) + roundings room (sum_of ws) ws
few_left room ws h =
    let pos : 0 < sum_of ws = omega arith in
    let scaled : room * sum_of ws ≤ (sum_of (rounded_down room (sum_of ws) ws) + roundings room (sum_of ws) ws) * sum_of ws =
    omega (arith, balance room (sum_of ws) ws, rests_bound room (sum_of ws) ws pos, mul_comm room (sum_of ws), add-mul (sum_of (rounded_down room (sum_of ws) ws)) (roundings room (sum_of ws) ws) (sum_of ws)) in
    le_of_mul-le-mul_right scaled pos

leftovers_sum : (room total over : ℕ) (ws : List ℕ) → over ≤ roundings room total ws → sum_of (with_leftovers room total over ws) ≡ sum_of (rounded_down room total ws) + over
leftovers_sum room total over [] h = omega arith
leftovers_sum room total over (w ∷ ws) h =
    let e = extra_min (w * room % total) over in
    let less : over - extra (w * room % total) over ≤ roundings room total ws = omega arith in
    omega (arith, leftovers_sum room total (over - extra (w * room % total) over) ws less)

share_le : (w room total : ℕ) → room < total → w * room / total + min 1 (w * room % total) ≤ w
share_le w room total h =
    let pos : 0 < total = omega arith in
    let whole : w * room ≤ w * total = mul-le-mul_left w (omega arith) in
    ⊎_elim
    (λ (z : w * room % total < 1).
    let scaled : w * room / total * total ≤ w * total = omega (arith, div-add-mod' (w * room) total) in
    let bound : w * room / total ≤ w = le_of_mul-le-mul_right scaled pos in
    omega arith)
    (λ (p : 1 ≤ w * room % total).
    let scaled : w * room / total * total < w * total = omega (arith, div-add-mod' (w * room) total) in
    let bound : w * room / total < w = lt_of_mul-lt-mul_right total scaled in
    omega arith)
    (cases_lt (w * room % total) 1)

leftovers_capped : (room total over : ℕ) (ws : List ℕ) → room < total → (k : ℕ) → get_or (with_leftovers room total over ws) k 0 ≤ get_or ws k 0
leftovers_capped room total over [] h k = omega arith
leftovers_capped room total over (w ∷ ws) h zero = omega (arith, extra_min (w * room % total) over, share_le w room total h)
leftovers_capped room total over (w ∷ ws) h (suc k) = leftovers_capped room total (over - extra (w * room % total) over) ws h k

leftovers_under : (room total over : ℕ) (ws : List ℕ) → 0 < total → (k : ℕ) → get_or (with_leftovers room total over ws) k 0 * total < get_or ws k 0 * room + total
leftovers_under room total over [] pos k = omega arith
leftovers_under room total over (w ∷ ws) pos zero =
    let r = w * room % total in
    let e = extra r over in
    let near : e * total < r + total =
    ⊎_elim
    (λ (z : e < 1). let n : e ≡ 0 = omega arith in rw n (omega arith))
    (λ (p : 1 ≤ e). let n : e ≡ 1 = omega (arith, extra_min r over) in rw n (omega (arith, extra_min r over)))
    (cases_lt e 1) in
    omega (arith, near, add-mul (w * room / total) e total, div-add-mod' (w * room) total)
leftovers_under room total over (w ∷ ws) pos (suc k) = leftovers_under room total (over - extra (w * room % total) over) ws pos k

leftovers_above : (room total over : ℕ) (ws : List ℕ) → 0 < total → (k : ℕ) → get_or ws k 0 * room < (get_or (with_leftovers room total over ws) k 0 + 1) * total
leftovers_above room total over [] pos k = omega arith
leftovers_above room total over (w ∷ ws) pos zero =
    let q = w * room / total in
    let e = extra (w * room % total) over in
    let wider : (q + 1) * total ≤ (q + e + 1) * total = mul-le-mul_right total (omega arith) in
    omega (arith, wider, add-mul q 1 total, div-add-mod' (w * room) total, mod-lt (w * room) pos)
leftovers_above room total over (w ∷ ws) pos (suc k) = leftovers_above room total (over - extra (w * room % total) over) ws pos k

-- the claim at k got one more than its share rounded down
abbrev Topped : (room total : ℕ) (ws xs : List ℕ) → ℕ → Type 0
Topped room total ws xs k = get_or ws k 0 * room / total < get_or xs k 0

-- it had a remainder
leftovers_rounded : (room total over : ℕ) (ws : List ℕ) (k : ℕ) → Topped room total ws (with_leftovers room total over ws) k → 0 < get_or ws k 0 * room % total
leftovers_rounded room total over [] k h = absurd (omega arith)
leftovers_rounded room total over (w ∷ ws) zero h = omega (arith, extra_min (w * room % total) over)
leftovers_rounded room total over (w ∷ ws) (suc k) h = leftovers_rounded room total (over - extra (w * room % total) over) ws k h

-- there was something left over for it
leftovers_some : (room total over : ℕ) (ws : List ℕ) (k : ℕ) → Topped room total ws (with_leftovers room total over ws) k → 0 < over
leftovers_some room total over [] k h = absurd (omega arith)
leftovers_some room total over (w ∷ ws) zero h = omega (arith, extra_min (w * room % total) over)
leftovers_some room total over (w ∷ ws) (suc k) h = omega (arith, leftovers_some room total (over - extra (w * room % total) over) ws k h)

leftovers_ordered : (room total over : ℕ) (ws : List ℕ) (j k : ℕ) → j < k → 0 < get_or ws j 0 * room % total →
    Topped room total ws (with_leftovers room total over ws) k → Topped room total ws (with_leftovers room total over ws) j
leftovers_ordered room total over [] j k lt r h = absurd (omega arith)
leftovers_ordered room total over (w ∷ ws) j zero lt r h = absurd (omega arith)
leftovers_ordered room total over (w ∷ ws) zero (suc k) lt r h =
    omega (arith, extra_min (w * room % total) over, leftovers_some room total (over - extra (w * room % total) over) ws k h)
leftovers_ordered room total over (w ∷ ws) (suc j) (suc k) lt r h =
    leftovers_ordered room total (over - extra (w * room % total) over) ws j k (omega arith) r h

leftovers_length : (room total over : ℕ) (ws : List ℕ) → length (with_leftovers room total over ws) ≡ length ws
leftovers_length room total over [] = refl
leftovers_length room total over (w ∷ ws) = ap suc (leftovers_length room total (over - extra (w * room % total) over) ws)

pub split_whole : (wants : List ℕ) (room : ℕ) → sum_of wants ≤ room → split_of wants room ≡ wants
split_whole wants room h = cond-true (leb (sum_of wants) room) _ _ (le-leb (sum_of wants) room h)

pub split_shares : (wants : List ℕ) (room : ℕ) → room < sum_of wants → split_of wants room ≡ with_leftovers room (sum_of wants) (room - sum_of (rounded_down room (sum_of wants) wants)) wants
split_shares wants room h = cond-false (leb (sum_of wants) room) _ _ (lt-leb (sum_of wants) room h)

-- the shares as the code reaches them
pub split_from : (wants : List ℕ) (room total floor over : ℕ) → total ≡ sum_of wants → room < total → floor ≡ sum_of (rounded_down room total wants) → over ≡ room - floor → with_leftovers room total over wants ≡ split_of wants room
split_from wants room total floor over t h f o = rw (o, f, t) (sym (split_shares wants room (omega arith)))

pub split_length : (wants : List ℕ) (room : ℕ) → length (split_of wants room) ≡ length wants
split_length wants room =
    ⊎_elim
    (λ (h : room < sum_of wants). ap length (split_shares wants room h) ∙ leftovers_length room (sum_of wants) _ wants)
    (λ (h : sum_of wants ≤ room). ap length (split_whole wants room h))
    (cases_lt room (sum_of wants))

-- the laws, at the grants as the claims hold them
module _ (wants : List ℕ) (room : ℕ) (xs : List ℕ) (is : xs ≡ split_of wants room) where
  abbrev over : ℕ
  over = room - sum_of (rounded_down room (sum_of wants) wants)

  shared : room < sum_of wants → xs ≡ with_leftovers room (sum_of wants) over wants
  shared h = is ∙ split_shares wants room h

  pub spent : RoomSpentExactly wants room xs
  spent h = rw (shared h) (leftovers_sum room (sum_of wants) over wants (omega (arith, few_left room wants h)) ∙ omega (arith, floors_below room wants h))

  pub capped : NoMoreThanWanted wants room xs
  capped k = ⊎_elim
      (λ (h : room < sum_of wants). rw (shared h) (leftovers_capped room (sum_of wants) over wants h k))
      (λ (h : sum_of wants ≤ room). rw (is ∙ split_whole wants room h) (omega arith))
      (cases_lt room (sum_of wants))

  pub near : WithinOneNanowatt wants room xs
  near h k = rw (shared h) (leftovers_above room (sum_of wants) over wants (omega arith) k, leftovers_under room (sum_of wants) over wants (omega arith) k)

  pub ordered : LeftoversInOrder wants room xs
  ordered h = rw (shared h) (leftovers_rounded room (sum_of wants) over wants, leftovers_ordered room (sum_of wants) over wants)
