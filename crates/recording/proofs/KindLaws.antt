-- A kind is known by its letter.
use Rattle.std.proofs.Common.{◌≡◌, ℕ, Some, None, Option, sym, refl, ap, ◌∙◌, ⊎_elim}
use Rattle.std.proofs.lemmas.Bool.{eq-eqb, ne_eqb, cases_eq, cond-true, cond-false}
use Rattle.recording.specs.declared.kinds.RecordKind.{RecordKind}
use Rattle.recording.specs.declared.kinds.RecordKind.TheVariants.{Set, Shares, Loss, Command, Open, Want, Settle, Drop, Note}
use Rattle.recording.specs.Kinds.{letter_of, numbers_of, if_letter, kind_with}

pub by_letter : (kind : RecordKind) → kind_with (letter_of kind) ≡ Some kind
by_letter Set = refl
by_letter Shares = refl
by_letter Loss = refl
by_letter Command = refl
by_letter Open = refl
by_letter Want = refl
by_letter Settle = refl
by_letter Drop = refl
by_letter Note = refl

module _ (letter : ℕ) (kind : RecordKind) where
  not_none : None ≡ Some kind → letter ≡ letter_of kind
  not_none e = cc

  one_kind : (first : RecordKind) (others : Option RecordKind) → (others ≡ Some kind → letter ≡ letter_of kind) → if_letter letter first others ≡ Some kind → letter ≡ letter_of kind
  one_kind first others later e =
      ⊎_elim
      (λ is. let f = sym (cond-true _ _ _ (eq-eqb letter (letter_of first) is)) ∙ e in let same : first ≡ kind = cc in is ∙ ap letter_of same)
      (λ other. later (sym (cond-false _ _ _ (ne_eqb letter (letter_of first) other)) ∙ e))
      (cases_eq letter (letter_of first))

  pub letter_is : kind_with letter ≡ Some kind → letter ≡ letter_of kind
  letter_is =
      one_kind Set _ (one_kind Shares _ (one_kind Loss _ (one_kind Command _ (one_kind Open _
      (one_kind Want _ (one_kind Settle _ (one_kind Drop _ (one_kind Note _ not_none))))))))

pub no_kind : (letter : ℕ) → ((kind : RecordKind) → letter ≡ letter_of kind → ⊥) → (found : Option RecordKind) → kind_with letter ≡ found → found ≡ None
no_kind letter unknown None e = refl
no_kind letter unknown (Some kind) e = absurd (unknown kind (letter_is letter kind e))

-- only a note has no numbers
pub only_note : (kind : RecordKind) → numbers_of kind ≡ None → kind ≡ Note
only_note Set e = cc
only_note Shares e = cc
only_note Loss e = cc
only_note Command e = cc
only_note Open e = cc
only_note Want e = cc
only_note Settle e = cc
only_note Drop e = cc
only_note Note e = refl
