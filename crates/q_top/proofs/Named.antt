-- What statuses name.
use Rattle.std.proofs.Common.{◌≡◌, ℕ, ap, false, inl, inr, List, None, refl, Some, subst, true}
use Rattle.std.specs.Prelude.{Err, IfErr, IfSome, Ok, Option, Result}
use Rattle.q_conf.specs.Confs.{IsFaultOfSome}
use Rattle.q_conf.specs.declared.error.ConfError.{ConfError}
use Rattle.q_conf.specs.declared.error.ConfError.TheVariants as conf_errors
use Rattle.q_conf.specs.declared.error.ConfFile.TheVariants as conf
use Rattle.q_input.specs.IdLines.{IsRefusedList}
use Rattle.q_input.specs.Inputs.{HasRead, IsUnread}
use Rattle.q_input.specs.declared.error.IdsError.{IdsError}
use Rattle.q_input.specs.declared.error.IdsError.TheVariants as ids_errors
use Rattle.q_input.specs.declared.error.InputError.{InputError}
use Rattle.q_input.specs.declared.error.InputError.TheVariants as input_errors
use Rattle.q_model.specs.declared.limits.Bound.{Bound}
use Rattle.q_model.specs.declared.limits.Bound.TheVariants as bounds
use Rattle.q_model.specs.Values.{Receiver}
use Rattle.q_replay.specs.Listings.{listing_of}
use Rattle.q_replay.specs.Named.{BlamesList, IsDeliveryRefusal, IsLetterRefusal, IsNamed as IsReplayNamed}
use Rattle.q_listen.specs.Refusals.{IsListenRefusal}
use Rattle.q_listen.specs.declared.listened.ListenError.{ListenError}
use Rattle.q_listen.specs.declared.listened.ListenError.TheVariants as listen_errors
use Rattle.q_listen.specs.declared.listened.Listened.{Listened}
use Rattle.q_listen.specs.declared.listened.Listened.TheVariants as listenings
use Rattle.q_replay.specs.declared.deliveries.Delivered.{Delivered}
use Rattle.q_replay.specs.declared.deliveries.Delivered.TheVariants as deliveries
use Rattle.q_replay.specs.declared.error.ReplayError.{ReplayError}
use Rattle.q_replay.specs.declared.error.ReplayError.TheVariants as errors
use Rattle.q_top.specs.Contents.{most_content}
use Rattle.q_top.specs.Named.{AsksToList, HasTooMuch, IsNamed, IsTooMuch}
use Rattle.q_top.specs.Qmgr.{words_status}
use Rattle.q_top.specs.Statuses.{conf_status, content_status, delivery_status, ids_status, names_fault, listen_status, replay_status, status_of}
use Rattle.q_top.specs.Tools.{is_listed, names_some}
use Rattle.q_top.specs.declared.work.Work.{Work}
use Rattle.q_top.specs.declared.work.Work.TheVariants.{Listed, Ready}
use Rattle.q_top.specs.declared.status.InputFile.TheVariants.{Events, Ids, Parameters, Table, Trace}
use Rattle.q_top.specs.declared.status.Status.{Status}
use Rattle.q_top.specs.declared.status.Status.TheVariants as status
use Rattle.q_words.specs.declared.error.WordsError.{WordsError}
use Rattle.q_words.specs.declared.error.WordsError.TheVariants as words_errors
use Rattle.q_words.specs.declared.request.Request.{Request}
use Rattle.q_words.specs.declared.request.Request.TheVariants.{Audit, Drain, Listen, Replay, Show, Submit, Tool}

-- ---- a line of conf

pub conf_named : (Asks : Request → Type 0) (text : Option (List ℕ)) (error : ConfError) → IsFaultOfSome error → IsNamed Asks text (conf_status error)
conf_named Asks text conf_errors.Disk h = tt
conf_named Asks text conf_errors.NoMemory h = tt
conf_named Asks text (conf_errors.BadLine conf.Parameters line) h = h
conf_named Asks text (conf_errors.BadLine conf.Table line) h = h

-- ---- a list

-- a limit but that of generations is passed by the text
passed : (bound : Bound) (text : Option (List ℕ)) → (bound ≡ bounds.Generation → ⊥) → IfSome text (λ bytes. BlamesList (listing_of bytes) (errors.Limit bound)) → HasTooMuch text bound
passed bound None other h = tt
passed bound (Some bytes) other (inl is) = absurd (other is)
passed bound (Some bytes) other (inr too_much) = too_much

list_passes : (bound : Bound) (text : Option (List ℕ)) → (bound ≡ bounds.Generation → ⊥) → IfSome text (λ bytes. BlamesList (listing_of bytes) (errors.Limit bound)) → IsTooMuch (λ r. r ≡ Replay) text bound
list_passes bound text other h = inl (refl, passed bound text other h)

list_named : (text : Option (List ℕ)) (error : ReplayError) → IsReplayNamed error → IfSome text (λ bytes. BlamesList (listing_of bytes) error) → IsNamed (λ r. r ≡ Replay) text (replay_status error)
list_named text errors.Disk h line = tt
list_named text errors.Tell h line = tt
list_named text errors.Source h line = tt
list_named text errors.NoMemory h line = tt
list_named text (errors.BadEvent n) h line = (refl, line)
list_named text (errors.Limit bounds.Content) h line = inl (list_passes bounds.Content text (λ is. cc) line)
list_named text (errors.Limit bounds.Recipients) h line = list_passes bounds.Recipients text (λ is. cc) line
list_named text (errors.Limit bounds.Generation) h line = h
list_named text (errors.Limit bounds.Serial) h line = inl (list_passes bounds.Serial text (λ is. cc) line)
list_named text (errors.Limit bounds.Input) h line = inl (list_passes bounds.Input text (λ is. cc) line)
list_named text (errors.Limit bounds.Deliveries) h line = absurd h
list_named text (errors.Damaged area name) h line = h
list_named text (errors.Unreadable area name) h line = tt

pub replayed_named : (text : Option (List ℕ)) (r : Result (Unit {0}) ReplayError) → IfErr r IsReplayNamed → IfErr r (λ error. IfSome text (λ bytes. BlamesList (listing_of bytes) error)) → IsNamed (λ x. x ≡ Replay) text (status_of r)
replayed_named text (Ok done) h line = tt
replayed_named text (Err error) h line = list_named text error h line

-- ---- a letter

module _ (sender : Option (List ℕ)) (to : List Receiver) where
  letter_named : (content : List ℕ) (error : ReplayError) → IsLetterRefusal to content error → IsNamed (λ r. r ≡ Submit sender to) (Some content) (replay_status error)
  letter_named content errors.Disk h = tt
  letter_named content errors.Tell h = tt
  letter_named content errors.Source h = absurd h
  letter_named content errors.NoMemory h = tt
  letter_named content (errors.BadEvent line) h = absurd h
  letter_named content (errors.Limit bounds.Content) h = inl (inr (sender, to, refl, h))
  letter_named content (errors.Limit bounds.Recipients) h = inr (sender, to, refl, h)
  letter_named content (errors.Limit bounds.Generation) h = h
  letter_named content (errors.Limit bounds.Serial) h = inl (inr (sender, to, refl, tt))
  letter_named content (errors.Limit bounds.Input) h = absurd h
  letter_named content (errors.Limit bounds.Deliveries) h = absurd h
  letter_named content (errors.Damaged area name) h = h
  letter_named content (errors.Unreadable area name) h = tt

  pub submitted_named : (content : List ℕ) (r : Result (Unit {0}) ReplayError) → IfErr r (IsLetterRefusal to content) → IsNamed (λ x. x ≡ Submit sender to) (Some content) (status_of r)
  submitted_named content (Ok done) h = tt
  submitted_named content (Err error) h = letter_named content error h

  pub content_named : (text : Option (List ℕ)) (error : InputError) → IsUnread most_content text error → IsNamed (λ r. r ≡ Submit sender to) text (content_status error)
  content_named text input_errors.TooLong h = inl (inr (sender, to, refl, h))
  content_named text input_errors.Source h = tt
  content_named text input_errors.NoMemory h = tt

module _ (Asks : Request → Type 0) where
  -- what is too much of the content is so whether the source tells it or not
  untold : (content : List ℕ) (bound : Bound) → IsTooMuch Asks (Some content) bound → IsTooMuch Asks None bound
  untold content bound (inl list) = inl (list.0, tt)
  untold content bounds.Content (inr (sender, to, asks, h)) = inr (sender, to, asks, tt)
  untold content bounds.Recipients (inr (sender, to, asks, h)) = inr (sender, to, asks, h)
  untold content bounds.Serial (inr (sender, to, asks, h)) = inr (sender, to, asks, tt)
  untold content bounds.Generation (inr (sender, to, asks, h)) = absurd h
  untold content bounds.Input (inr (sender, to, asks, h)) = absurd h
  untold content bounds.Deliveries (inr (sender, to, asks, h)) = absurd h

  untold_named : (content : List ℕ) (s : Status) → IsNamed Asks (Some content) s → IsNamed Asks None s
  untold_named content (status.BadInput Events line) h = (h.0, tt)
  untold_named content (status.BadInput Ids line) h = (h.0, tt)
  untold_named content (status.BadInput Trace line) h = (h.0, (h.1.0, tt))
  untold_named content (status.BadInput Parameters line) h = h
  untold_named content (status.BadInput Table line) h = h
  untold_named content (status.Damaged area name) h = h
  untold_named content (status.Limit bounds.Content) (inl h) = inl (untold content bounds.Content h)
  untold_named content (status.Limit bounds.Content) (inr long) = inr (long.0, tt)
  untold_named content (status.Limit bounds.Recipients) h = untold content bounds.Recipients h
  untold_named content (status.Limit bounds.Generation) h = h
  untold_named content (status.Limit bounds.Serial) (inl h) = inl (untold content bounds.Serial h)
  untold_named content (status.Limit bounds.Serial) (inr listens) = inr listens
  untold_named content (status.Limit bounds.Input) (inl h) = inl (untold content bounds.Input h)
  untold_named content (status.Limit bounds.Input) (inr h) = inr (h.0, (h.1.0, tt))
  untold_named content (status.Limit bounds.Deliveries) h = h
  untold_named content (status.Unreadable area name) h = tt
  untold_named content status.Done h = tt
  untold_named content status.Usage h = tt
  untold_named content status.Disk h = tt
  untold_named content status.Tell h = tt
  untold_named content status.Source h = tt
  untold_named content status.NoMemory h = tt
  untold_named content status.Door h = tt
  untold_named content (status.Unfinished n) h = tt
  untold_named content status.Absent h = h

  -- what a content that was read has too much of, the source has
  pub of_source : (text : Option (List ℕ)) (content : List ℕ) (s : Status) → HasRead most_content text content → IsNamed Asks (Some content) s → IsNamed Asks text s
  of_source None content s read h = untold_named content s h
  of_source (Some bytes) content s read h = subst (λ (x : List ℕ). IsNamed Asks (Some x) s) read.all h

-- ---- a list of ids

pub listed_some : (w : Work) → is_listed w ≡ true → names_some w ≡ true
listed_some (Ready task) h = absurd cc
listed_some (Listed act) h = refl

pub ids_named : (Asks : Request → Type 0) (text : Option (List ℕ)) (error : IdsError) → AsksToList Asks → IsRefusedList text error → IsNamed Asks text (ids_status error)
ids_named Asks text (ids_errors.BadLine line) asks h = (asks, h)
ids_named Asks text ids_errors.TooLong asks h = inr (asks, h)
ids_named Asks text ids_errors.Source asks h = tt
ids_named Asks text ids_errors.NoMemory asks h = tt

-- ---- a delivery

module _ (rests : ℕ) (text : Option (List ℕ)) where
  delivery_named : (error : ReplayError) → IsDeliveryRefusal error → IsNamed (λ r. r ≡ Drain rests) text (replay_status error)
  delivery_named errors.Disk h = tt
  delivery_named errors.Tell h = tt
  delivery_named errors.Source h = absurd h
  delivery_named errors.NoMemory h = tt
  delivery_named (errors.BadEvent line) h = absurd h
  delivery_named (errors.Limit bounds.Content) h = absurd h
  delivery_named (errors.Limit bounds.Recipients) h = absurd h
  delivery_named (errors.Limit bounds.Generation) h = h
  delivery_named (errors.Limit bounds.Serial) h = absurd h
  delivery_named (errors.Limit bounds.Input) h = absurd h
  delivery_named (errors.Limit bounds.Deliveries) h = (rests, refl)
  delivery_named (errors.Damaged area name) h = h
  delivery_named (errors.Unreadable area name) h = tt

  pub delivered_named : (r : Result Delivered ReplayError) → IfErr r IsDeliveryRefusal → IsNamed (λ x. x ≡ Drain rests) text (delivery_status r)
  delivered_named (Ok deliveries.All) h = tt
  delivered_named (Ok (deliveries.Unfinished n)) h = tt
  delivered_named (Err error) h = delivery_named error h

-- ---- mail by SMTP

module _ (port count rests : ℕ) (text : Option (List ℕ)) where
  abbrev here : Request → Type 0
  here r = r ≡ Listen port count rests

  listening_named : (error : ListenError) → IsListenRefusal error → IsNamed here text (listen_status (Err error))
  listening_named listen_errors.Disk h = tt
  listening_named listen_errors.Tell h = tt
  listening_named listen_errors.Door h = tt
  listening_named listen_errors.NoMemory h = tt
  listening_named (listen_errors.Limit bounds.Content) h = absurd h
  listening_named (listen_errors.Limit bounds.Recipients) h = absurd h
  listening_named (listen_errors.Limit bounds.Generation) h = h
  listening_named (listen_errors.Limit bounds.Serial) h = inr (port, count, rests, refl)
  listening_named (listen_errors.Limit bounds.Input) h = absurd h
  listening_named (listen_errors.Limit bounds.Deliveries) h = absurd h
  listening_named (listen_errors.Damaged area name) h = h
  listening_named (listen_errors.Unreadable area name) h = tt

  pub listened_named : (r : Result Listened ListenError) → IfErr r IsListenRefusal → IsNamed here text (listen_status r)
  listened_named (Ok listenings.All) h = tt
  listened_named (Ok (listenings.Unfinished n)) h = tt
  listened_named (Err error) h = listening_named error h

-- ---- other commands

pub unnamed : (Asks : Request → Type 0) (text : Option (List ℕ)) (s : Status) → names_fault s ≡ false → IsNamed Asks text s
unnamed Asks text (status.BadInput file line) h = absurd cc
unnamed Asks text (status.Damaged area name) h = absurd cc
unnamed Asks text (status.Limit bound) h = absurd cc
unnamed Asks text (status.Unreadable area name) h = absurd cc
unnamed Asks text status.Done h = tt
unnamed Asks text status.Usage h = tt
unnamed Asks text status.Disk h = tt
unnamed Asks text status.Tell h = tt
unnamed Asks text status.Source h = tt
unnamed Asks text status.NoMemory h = tt
unnamed Asks text status.Door h = tt
unnamed Asks text (status.Unfinished n) h = tt
unnamed Asks text status.Absent h = absurd cc

pub words_named : (Asks : Request → Type 0) (text : Option (List ℕ)) (error : WordsError) → IsNamed Asks text (words_status error)
words_named Asks text words_errors.NoMemory = tt
words_named Asks text words_errors.NoCommand = tt
words_named Asks text (words_errors.Refused why) = tt
words_named Asks text words_errors.NoAddress = tt
words_named Asks text words_errors.NoQueue = tt
words_named Asks text words_errors.NoTarget = tt
words_named Asks text words_errors.NoChosen = tt
words_named Asks text words_errors.NoId = tt
words_named Asks text words_errors.NoRoute = tt
words_named Asks text words_errors.NoDomain = tt

-- where the one asks for a command, the other does
module _ (P Q : Request → Type 0) (f : (r : Request) → P r → Q r) (text : Option (List ℕ)) where
  too_much : (bound : Bound) → IsTooMuch P text bound → IsTooMuch Q text bound
  too_much bound (inl (asks, h)) = inl (f Replay asks, h)
  too_much bound (inr (sender, to, asks, h)) = inr (sender, to, f (Submit sender to) asks, h)

  lists_too : AsksToList P → AsksToList Q
  lists_too (tool, is, asks) = (tool, is, f (Tool tool) asks)

  pub asked_too : (s : Status) → IsNamed P text s → IsNamed Q text s
  asked_too (status.BadInput Events line) h = (f Replay h.0, h.1)
  asked_too (status.BadInput Ids line) (asks, h) = (lists_too asks, h)
  asked_too (status.BadInput Trace line) h = (f Audit h.0, h.1)
  asked_too (status.BadInput Parameters line) h = h
  asked_too (status.BadInput Table line) h = h
  asked_too (status.Damaged area name) h = h
  asked_too (status.Limit bounds.Content) (inl h) = inl (too_much bounds.Content h)
  asked_too (status.Limit bounds.Content) (inr (asks, long)) = inr (lists_too asks, long)
  asked_too (status.Limit bounds.Recipients) h = too_much bounds.Recipients h
  asked_too (status.Limit bounds.Generation) h = h
  asked_too (status.Limit bounds.Serial) (inl h) = inl (too_much bounds.Serial h)
  asked_too (status.Limit bounds.Serial) (inr (port, count, rests, asks)) = inr (port, count, rests, f (Listen port count rests) asks)
  asked_too (status.Limit bounds.Input) (inl h) = inl (too_much bounds.Input h)
  asked_too (status.Limit bounds.Input) (inr h) = inr (f Audit h.0, h.1)
  asked_too (status.Limit bounds.Deliveries) h = (h.0, f (Drain h.0) h.1)
  asked_too (status.Unreadable area name) h = tt
  asked_too status.Done h = tt
  asked_too status.Usage h = tt
  asked_too status.Disk h = tt
  asked_too status.Tell h = tt
  asked_too status.Source h = tt
  asked_too status.NoMemory h = tt
  asked_too status.Door h = tt
  asked_too (status.Unfinished n) h = tt
  asked_too status.Absent (inl (tool, some, asks)) = inl (tool, some, f (Tool tool) asks)
  asked_too status.Absent (inr (id, asks)) = inr (id, f (Show id) asks)

-- ---- rests

-- a drain that is left unfinished is so behind this many
pub left_unfinished : (r : Result Delivered ReplayError) (n : ℕ) → delivery_status r ≡ status.Unfinished n → r ≡ Ok (deliveries.Unfinished n)
left_unfinished (Ok deliveries.All) n is = absurd cc
left_unfinished (Ok (deliveries.Unfinished rests)) n is = let same : rests ≡ n = cc in ap (λ (k : ℕ). Ok (deliveries.Unfinished k)) same
left_unfinished (Err errors.Disk) n is = absurd cc
left_unfinished (Err errors.Tell) n is = absurd cc
left_unfinished (Err errors.Source) n is = absurd cc
left_unfinished (Err errors.NoMemory) n is = absurd cc
left_unfinished (Err (errors.BadEvent line)) n is = absurd cc
left_unfinished (Err (errors.Limit bound)) n is = absurd cc
left_unfinished (Err (errors.Damaged area name)) n is = absurd cc
left_unfinished (Err (errors.Unreadable area name)) n is = absurd cc

-- so is what listens
pub left_listening : (r : Result Listened ListenError) (n : ℕ) → listen_status r ≡ status.Unfinished n → r ≡ Ok (listenings.Unfinished n)
left_listening (Ok listenings.All) n is = absurd cc
left_listening (Ok (listenings.Unfinished rests)) n is = let same : rests ≡ n = cc in ap (λ (k : ℕ). Ok (listenings.Unfinished k)) same
left_listening (Err listen_errors.Disk) n is = absurd cc
left_listening (Err listen_errors.Tell) n is = absurd cc
left_listening (Err listen_errors.Door) n is = absurd cc
left_listening (Err listen_errors.NoMemory) n is = absurd cc
left_listening (Err (listen_errors.Limit bound)) n is = absurd cc
left_listening (Err (listen_errors.Damaged area name)) n is = absurd cc
left_listening (Err (listen_errors.Unreadable area name)) n is = absurd cc
