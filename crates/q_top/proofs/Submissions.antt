-- A message that is handed in, by its content.
use Rattle.std.proofs.Common.{◌≡◌, ◌<◌, ◌≤◌, ◌⊎◌, ap, arith, inl, inr, List, None, Option, refl, Some, subst, ℕ}
use Rattle.std.specs.Prelude.{IfSome, length}
use Rattle.q_host.specs.View.{View}
use Rattle.q_host.proofs.Stays.{stays_here}
use Rattle.q_stream.specs.Clocks.{AddsMoment}
use Rattle.q_input.specs.Inputs.{HasRead, IsUnread}
use Rattle.q_input.specs.declared.error.InputError.{InputError}
use Rattle.q_input.specs.declared.error.InputError.TheVariants as errors
use Rattle.q_top.specs.Contents.{most_content}
use Rattle.q_top.specs.Courses.{Moments, Texts}
use Rattle.q_top.specs.Lives.{HasNoContent, letter_of, RefusesContent, Submits, SubmitsAt, SubmitsNow}
use Rattle.q_top.specs.Statuses.{content_status}
use Rattle.q_top.specs.declared.status.Status.{Status}
use Rattle.q_model.specs.Values.{Receiver}

module _ (sender : Option (List ℕ)) (to : List Receiver) (texts : Texts) (moments : Moments) where
  -- there is none
  pub no_content : (u : View) (error : InputError) → IsUnread most_content texts.before error → Submits sender to texts moments u u (content_status error)
  no_content u errors.TooLong none = record {
    long = both texts.before (λ bytes long. record { names = inl refl; stays = stays_here u });
    run = too_long texts.before none;
    some = inl (record { names = inl refl; stays = stays_here u });
  }
    where
      both : (t : Option (List ℕ)) → ((bytes : List ℕ) → most_content < length bytes → RefusesContent u u (content_status errors.TooLong)) → IfSome t (λ bytes. most_content < length bytes → RefusesContent u u (content_status errors.TooLong))
      both None f = tt
      both (Some bytes) f = f bytes

      too_long : (t : Option (List ℕ)) → IfSome t (λ bytes. most_content < length bytes)
          → IfSome t (λ bytes. length bytes ≤ most_content → HasNoContent u u (content_status errors.TooLong) ⊎ SubmitsNow (letter_of sender to bytes) moments u u (content_status errors.TooLong))
      too_long None long = tt
      too_long (Some bytes) long = λ few. absurd (omega (arith, long, few))
  no_content u errors.Source none = record { long = any_long texts.before; run = any_run texts.before; some = inl (record { names = inr (inl refl); stays = stays_here u }) }
    where
      any_long : (t : Option (List ℕ)) → IfSome t (λ bytes. most_content < length bytes → RefusesContent u u (content_status errors.Source))
      any_long None = tt
      any_long (Some bytes) = λ long. record { names = inr (inl refl); stays = stays_here u }

      any_run : (t : Option (List ℕ)) → IfSome t (λ bytes. length bytes ≤ most_content → HasNoContent u u (content_status errors.Source) ⊎ SubmitsNow (letter_of sender to bytes) moments u u (content_status errors.Source))
      any_run None = tt
      any_run (Some bytes) = λ few. inl (record { names = inl refl; stays = stays_here u })
  no_content u errors.NoMemory none = record { long = any_long texts.before; run = any_run texts.before; some = inl (record { names = inr (inr refl); stays = stays_here u }) }
    where
      any_long : (t : Option (List ℕ)) → IfSome t (λ bytes. most_content < length bytes → RefusesContent u u (content_status errors.NoMemory))
      any_long None = tt
      any_long (Some bytes) = λ long. record { names = inr (inr refl); stays = stays_here u }

      any_run : (t : Option (List ℕ)) → IfSome t (λ bytes. length bytes ≤ most_content → HasNoContent u u (content_status errors.NoMemory) ⊎ SubmitsNow (letter_of sender to bytes) moments u u (content_status errors.NoMemory))
      any_run None = tt
      any_run (Some bytes) = λ few. inl (record { names = inr refl; stays = stays_here u })

  -- there is one
  pub with_content : (content : List ℕ) (moment : ℕ) (u v : View) (s : Status) → HasRead most_content texts.before content → AddsMoment moments.before moments.after moment
      → SubmitsAt moment (letter_of sender to content) u v s → Submits sender to texts moments u v s
  with_content content moment u v s read given submits = record {
    long = not_long texts.before read.all;
    run = run_it texts.before read.all;
    some = inr (record { content = content; few = read.few; all = read.all; submits = record { moment = moment; given = given; submits = submits } });
  }
    where
      not_long : (t : Option (List ℕ)) → IfSome t (λ bytes. content ≡ bytes) → IfSome t (λ bytes. most_content < length bytes → RefusesContent u v s)
      not_long None is = tt
      not_long (Some bytes) is = λ long. let same : length content ≡ length bytes = ap length is in absurd (omega (arith, long, read.few, same))

      run_it : (t : Option (List ℕ)) → IfSome t (λ bytes. content ≡ bytes) → IfSome t (λ bytes. length bytes ≤ most_content → HasNoContent u v s ⊎ SubmitsNow (letter_of sender to bytes) moments u v s)
      run_it None is = tt
      run_it (Some bytes) is = λ few. inr (record { moment = moment; given = given; submits = subst (λ (x : List ℕ). SubmitsAt moment (letter_of sender to x) u v s) is submits })
