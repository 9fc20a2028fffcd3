-- Worked acts of queue tools: what is done and told on books.
use Rattle.q_model.proofs.RowWords.{id, lines, one_to}
use Rattle.q_model.specs.Book.{Book, ids_at}
use Rattle.q_model.specs.Ids.{bounce_of}
use Rattle.q_model.specs.IdTexts.{decimals, hex}
use Rattle.q_model.specs.Logs.{with_failure}
use Rattle.q_model.specs.Message.{Message, pending}
use Rattle.q_model.specs.Places.{place_eq}
use Rattle.q_model.specs.ToolSteps.{after_steps, fails, given_up, may_steps, moves}
use Rattle.q_super.specs.Deeds.{all_deeds, deeds_of, flush_deeds, lines_in, steps_in}
use Rattle.std.proofs.Common.{refl}
use Rattle.std.specs.Prelude.{[], codes, None, true, ◌∷◌, ◌≡◌}
use Rattle.q_model.specs.declared.rows.Mark.TheVariants as marks
use Rattle.q_model.specs.declared.rows.Place.TheVariants as places
use Rattle.q_super.specs.declared.acts.Act.TheVariants as acts

-- a message in deferred
abbrev late : Book
late = record { generation = 1; messages = one_to 1 marks.Unmarked (places.Deferred 1300) ∷ []; damaged = [] }

-- it is given up: taken to active, and then its recipient fails
expires : (steps_in (deeds_of acts.Expire (id 1) late) ≡ moves (id 1) places.Active ∷ fails (id 1) 0 ∷ [])
    × (lines_in (deeds_of acts.Expire (id 1) late) ≡ lines (codes "expire 00000001-00000001" ∷ []))
    × (may_steps late (steps_in (deeds_of acts.Expire (id 1) late)) ≡ true)
unfolding hex decimals
expires = (refl, refl, refl)

-- all that waits is held back
holds : (lines_in (all_deeds acts.Hold late) ≡ lines (codes "hold 00000001-00000001" ∷ []))
    × (ids_at (place_eq places.Hold) (after_steps late (steps_in (all_deeds acts.Hold late))) ≡ id 1 ∷ [])
unfolding hex decimals
holds = (refl, refl)

-- an id that stands nowhere, or not on hold, isn't released
releases_none : (deeds_of acts.Release (id 9) late ≡ []) × (deeds_of acts.Release (id 1) late ≡ [])
releases_none = (refl, refl)

-- two recipients of one message fail in order
abbrev to_two : Message
to_two = record (one_to 2 marks.Unmarked places.Hold) {
  recipients = record { address = codes "b@y.example"; original = None; mark = marks.Unmarked }
      ∷ record { address = codes "c@Z.example"; original = None; mark = marks.Unmarked } ∷ [];
}

-- of these four files one is of a bounce, and one is damaged
abbrev waiting : Book
waiting = record {
  generation = 1;
  messages = record to_two { place = places.Deferred 1200 } ∷ record (one_to 3 marks.Unmarked (places.Deferred 1100)) { id = bounce_of (id 3) } ∷ one_to 4 marks.Unmarked places.Incoming ∷ [];
  damaged = record { id = id 1; place = places.Incoming } ∷ [];
}

expires_two : steps_in (deeds_of acts.Expire (id 2) waiting) ≡ moves (id 2) places.Active ∷ fails (id 2) 0 ∷ fails (id 2) 1 ∷ []
expires_two = refl

-- after the first of them the other is still pending
still_pending : pending (with_failure (given_up 0) to_two) ≡ 1 ∷ []
still_pending = refl

-- a damaged file isn't given up, and is held back
damaged_too : (deeds_of acts.Expire (id 1) waiting ≡ []) × (lines_in (deeds_of acts.Hold (id 1) waiting) ≡ lines (codes "hold 00000001-00000001" ∷ []))
unfolding hex decimals
damaged_too = (refl, refl)

-- incoming comes before deferred, and there what is due first
holds_in_order : (lines_in (all_deeds acts.Hold waiting) ≡ lines (codes "hold 00000001-00000001" ∷ codes "hold 00000001-00000004" ∷ codes "hold 00000001-00000003b" ∷ codes "hold 00000001-00000002" ∷ []))
    × (may_steps waiting (steps_in (all_deeds acts.Hold waiting)) ≡ true)
unfolding hex decimals
holds_in_order = (refl, refl)

-- only deferred messages for the domain are flushed, which is written in any case
flushes : (lines_in (flush_deeds (codes "z.eXample") waiting) ≡ lines (codes "flush 00000001-00000002" ∷ []))
    × (lines_in (flush_deeds (codes "y.example") waiting) ≡ lines (codes "flush 00000001-00000003b" ∷ codes "flush 00000001-00000002" ∷ []))
    × (flush_deeds (codes "x.example") waiting ≡ [])
unfolding hex decimals
flushes = (refl, refl, refl)
