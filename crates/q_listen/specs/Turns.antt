-- What a life that listens hears: moments and messages.
use Rattle.std.specs.Prelude.{◌≡◌, ◌⊎◌, [], ◌∷◌, List, Option, ℕ}
use Rattle.q_host.specs.View.{View}
use Rattle.q_listen.specs.Courses.{GaveUp, IsCourse, Start}
use Rattle.q_listen.specs.Stories.{Story, with_moment, with_told}
use Rattle.q_listen.specs.Told.{mails_told}
use Rattle.q_listen.specs.declared.hearing.Life.{Life}
use Rattle.q_listen.specs.declared.listened.ListenError.{ListenError}
use Rattle.q_model.specs.declared.entry.Entry.{Entry}
use Rattle.q_smtpd.specs.Places.{Mail}

-- of each start of which the life stands so
abbrev pub ForCourse : {H : Type 0} → (H → View) → Option (List ℕ) → View → Life → (Start H → Story → Type 0) → Type 0
ForCourse {H} view clock u life says = (o : Start H) → (s : Story) → IsCourse view o clock u life s → says o s

-- ---- a moment

-- A moment more was given, and was told where it is the first or past those before it.
pub record HeardMoment {H : Type 0} (view : H → View) (o : Start H) (clock : Option (List ℕ)) (v : View) (life : Life) (s : Story)
    : Type 0 where
  pub moment : ℕ
  pub entries_told : List Entry
  pub no_mail : mails_told entries_told ≡ []
  pub course : IsCourse view o clock v life (with_moment entries_told moment s)

-- A moment more was given, and its turn was given up.
pub record StoppedMoment {H : Type 0} (view : H → View) (o : Start H) (clock : Option (List ℕ)) (v : View) (error : ListenError) (s : Story)
    : Type 0 where
  pub moment : ℕ
  pub entries_told : List Entry
  pub no_mail : mails_told entries_told ≡ []
  pub gave_up : GaveUp view o clock v error (with_moment entries_told moment s)

abbrev pub HearsMoment : {H : Type 0} → (H → View) → Option (List ℕ) → Option (List ℕ) → View → View → Life → Life → Type 0
HearsMoment view old new u v life next =
    ForCourse view old u life (λ o s. HeardMoment view o new v next s)

abbrev pub StopsMoment : {H : Type 0} → (H → View) → Option (List ℕ) → Option (List ℕ) → View → View → Life → ListenError → Type 0
StopsMoment view old new u v life error =
    ForCourse view old u life (λ o s. StoppedMoment view o new v error s)

-- ---- a message

-- It was told.
pub record TookMail {H : Type 0} (view : H → View) (o : Start H) (clock : Option (List ℕ)) (v : View) (mail : Mail) (life : Life) (s : Story)
    : Type 0 where
  pub entries_told : List Entry
  pub mail_is : mails_told entries_told ≡ mail ∷ []
  pub course : IsCourse view o clock v life (with_told entries_told s)

-- Its turn was given up: its line was told whole, or not.
pub record StoppedMail {H : Type 0} (view : H → View) (o : Start H) (clock : Option (List ℕ)) (v : View) (mail : Mail) (error : ListenError) (s : Story)
    : Type 0 where
  pub entries_told : List Entry
  pub mail_is : (mails_told entries_told ≡ []) ⊎ (mails_told entries_told ≡ mail ∷ [])
  pub gave_up : GaveUp view o clock v error (with_told entries_told s)

abbrev pub TakesMail : {H : Type 0} → (H → View) → View → View → Mail → Life → Life → Type 0
TakesMail view u v mail life next = (clock : Option (List ℕ))
    → ForCourse view clock u life (λ o s. TookMail view o clock v mail next s)

abbrev pub StopsMail : {H : Type 0} → (H → View) → View → View → Mail → Life → ListenError → Type 0
StopsMail view u v mail life error = (clock : Option (List ℕ))
    → ForCourse view clock u life (λ o s. StoppedMail view o clock v mail error s)
