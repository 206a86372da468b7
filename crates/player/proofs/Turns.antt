-- A recording played turn by turn.
use Rattle.std.proofs.Common.{◌≡◌, ℕ, zero, suc, ◌+◌, ◌<◌, ◌≤◌, Bool, true, false, cond, List, [], ◌++◌, length, Some, None, Ok, Err, Option, Result, sym, refl, ap, ◌∙◌, subst, append_assoc, append-nil, arith}
use Rattle.faults.specs.declared.RecordFault.{RecordFault}
use Rattle.lines.specs.declared.line.Line.{Line}
use Rattle.recording.specs.Contents.{Content}
use Rattle.recording.specs.declared.records.Record.{Record}
use Rattle.recording.specs.Records.{body_read}
use Rattle.recording.specs.Reading.{next_answer, next_offset, Forward, NextExactly}
use Rattle.states.specs.declared.state.State.{State}
use Rattle.states.specs.States.{fresh, is_open}
use Rattle.player.specs.Played.{InPlace, item_lines, item_played, item_ends, lines_from, lines_of}

-- what the reader hands out is in place
pub in_place : (bytes : List ℕ) (at : ℕ) (o p : Bool) (read : Result Content RecordFault) (after : ℕ) → o ≡ p → NextExactly bytes at o (Some read) after → InPlace p read
in_place bytes at o p (Ok c) after e x = subst (λ (q : Bool). InPlace q (Ok c)) e ((x.read_where_it_stands c).only refl).1
in_place bytes at o p (Err fault) after e x = tt

-- the lines so far, and what is left to play
pub record ToPlay {V : Type 0} (reserve : V → ℕ → ℕ → ℕ) (bytes : List ℕ) (all : List Line) (w : State × V) (at : ℕ) (done : List Line) : Type 0 where
  pub left : ℕ
  pub enough : length bytes < left + at
  pub is : done ++ lines_from reserve left w bytes at ≡ all

module _ {V : Type 0} (reserve : V → ℕ → ℕ → ℕ) (bytes : List ℕ) (all : List Line) (w : State × V) (at : ℕ) (done : List Line) where
  -- one turn, as the lines are defined
  turn : (k : ℕ) → at ≤ length bytes → length bytes < k + at → done ++ lines_from reserve k w bytes at ≡ all → (read : Result Content RecordFault) → Some read ≡ next_answer bytes at (is_open w.0.subframe) →
      (m : ℕ) × (k ≡ suc m) × (done ++ (item_lines reserve at w read ++ cond (item_ends read) [] (lines_from reserve m (item_played reserve w read) bytes (next_offset bytes at))) ≡ all)
  turn zero within enough is read e = absurd (omega arith)
  turn (suc m) within enough is read e = (
    m,
    refl,
    subst (λ (x : Option (Result Content RecordFault)).
        done ++ (elim x [ None ↦ [] | Some r ↦ item_lines reserve at w r ++ cond (item_ends r) [] (lines_from reserve m (item_played reserve w r) bytes (next_offset bytes at)) ]) ≡ all) (sym e) is,
  )

  module _ (h : ToPlay reserve bytes all w at done) (within : at ≤ length bytes) (read : Result Content RecordFault) (e : Some read ≡ next_answer bytes at (is_open w.0.subframe)) where
    here : (m : ℕ) × (h.left ≡ suc m) × (done ++ (item_lines reserve at w read ++ cond (item_ends read) [] (lines_from reserve m (item_played reserve w read) bytes (next_offset bytes at))) ≡ all)
    here = turn h.left within h.enough h.is read e

    pub goes_on : item_ends read ≡ false → (after : ℕ) → after ≡ next_offset bytes at → at < after → (now : State × V) → now ≡ item_played reserve w read → (more : List Line) → more ≡ done ++ item_lines reserve at w read →
        ToPlay reserve bytes all now after more
    goes_on on after moved forth now left more shown =
        let m = here.0 in
        let rest = lines_from reserve m (item_played reserve w read) bytes (next_offset bytes at) in
        let goes : done ++ (item_lines reserve at w read ++ rest) ≡ all = subst (λ (b : Bool). done ++ (item_lines reserve at w read ++ cond b [] rest) ≡ all) on here.2 in
        record {
          left = m;
          enough = omega (arith, h.enough, here.1);
          is = rw (shown, left, moved) (append_assoc done (item_lines reserve at w read) rest ∙ goes);
        }

    pub ends_here : item_ends read ≡ true → (more : List Line) → more ≡ done ++ item_lines reserve at w read → more ≡ all
    ends_here off more shown =
        let rest = lines_from reserve here.0 (item_played reserve w read) bytes (next_offset bytes at) in
        let goes : done ++ (item_lines reserve at w read ++ []) ≡ all = subst (λ (b : Bool). done ++ (item_lines reserve at w read ++ cond b [] rest) ≡ all) off here.2 in
        shown ∙ (ap (λ (l : List Line). done ++ l) (sym (append-nil (item_lines reserve at w read))) ∙ goes)

  -- nothing is left to read
  nothing : (k : ℕ) → at ≤ length bytes → length bytes < k + at → done ++ lines_from reserve k w bytes at ≡ all → None ≡ next_answer bytes at (is_open w.0.subframe) → done ≡ all
  nothing zero within enough is e = absurd (omega arith)
  nothing (suc m) within enough is e =
      sym (append-nil done) ∙ subst (λ (x : Option (Result Content RecordFault)).
      done ++ (elim x [ None ↦ [] | Some r ↦ item_lines reserve at w r ++ cond (item_ends r) [] (lines_from reserve m (item_played reserve w r) bytes (next_offset bytes at)) ]) ≡ all) (sym e) is

  pub at_its_end : ToPlay reserve bytes all w at done → at ≤ length bytes → None ≡ next_answer bytes at (is_open w.0.subframe) → done ≡ all
  at_its_end h within e = nothing h.left within h.enough h.is e

-- nothing is played yet
pub starts : {V : Type 0} (reserve : V → ℕ → ℕ → ℕ) (bytes : List ℕ) (s : State) (v : V) (at : ℕ) (done : List Line) → s ≡ fresh → at ≡ 0 → done ≡ [] → ToPlay reserve bytes (lines_of reserve v bytes) (s, v) at done
starts reserve bytes s v at done p q r = record { left = length bytes + 1; enough = omega arith; is = rw (p, q, r) refl }

-- what the reader read, of the recording and of the terminal
pub read_here : (bs bytes : List ℕ) (at : ℕ) (o p : Bool) (x : Option (Result Content RecordFault)) → bs ≡ bytes → o ≡ p → x ≡ next_answer bs at o → x ≡ next_answer bytes at p
read_here bs bytes at o p x e f is = is ∙ (ap (λ (l : List ℕ). next_answer l at o) e ∙ ap (next_answer bytes at) f)

pub forth : (item : Result Record RecordFault) (at after n : ℕ) → Forward (Some item) at after n → item_ends (body_read item) ≡ false → (at < after) × (after ≤ n)
forth (Ok r) at after n f on = (f.0, f.1)
forth (Err fault) at after n f on = (f.1 on, f.2)
