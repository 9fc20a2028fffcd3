-- Commands that look at one message, or at the whole spool.
use Rattle.std.proofs.Common.{◌≡◌, false, inr, List, Option, refl, true, ℕ}
use Rattle.std.specs.Prelude.{Bool, Err, IfOk, Ok, Result}
use Rattle.q_books.specs.HostStands.{HostStands}
use Rattle.q_check.specs.Worst.{IsFoundOfSome}
use Rattle.q_check.specs.declared.found.Found.{Found}
use Rattle.q_check.specs.declared.found.Found.TheVariants as founds
use Rattle.q_conf.specs.declared.error.ConfFile.TheVariants as conf
use Rattle.q_host.specs.Faults.{Faults}
use Rattle.q_host.specs.View.{View}
use Rattle.q_host.specs.declared.error.HostError.{HostError}
use Rattle.q_host.specs.declared.error.HostError.TheVariants as faults
use Rattle.q_model.specs.Book.{Book}
use Rattle.q_model.specs.declared.id.Id.{Id}
use Rattle.q_replay.specs.Spools.{OnlyLooks}
use Rattle.q_telling.specs.Telling.{OnlyTells, TellingCause}
use Rattle.q_top.proofs.Serving.{told_looks}
use Rattle.q_top.specs.Causes.{HasHostCause}
use Rattle.q_top.specs.Named.{IsNamed}
use Rattle.q_top.specs.Statuses.{check_status, is_unreadable, show_status}
use Rattle.q_words.specs.declared.request.Request.{Request}
use Rattle.q_words.specs.declared.request.Request.TheVariants.{Show}

pub only_looks : (b : Book) (u v : View) → HostStands u b → OnlyTells u v → OnlyLooks b u v
only_looks b u v h only = told_looks only.text b u v h only.told

-- ---- one message

pub show_readable : (r : Result Bool HostError) → is_unreadable (show_status r) ≡ false
show_readable (Ok true) = refl
show_readable (Ok false) = refl
show_readable (Err faults.Disk) = refl
show_readable (Err faults.Tell) = refl
show_readable (Err faults.NoMemory) = refl

pub show_cause : (before after : Faults) (r : Result Bool HostError) → TellingCause before after r → HasHostCause before after (show_status r)
show_cause before after (Ok true) h = record { disk = λ is. absurd cc; tell = λ is. absurd cc }
show_cause before after (Ok false) h = record { disk = λ is. absurd cc; tell = λ is. absurd cc }
show_cause before after (Err faults.Disk) h = record { disk = λ is. h.disk refl; tell = λ is. absurd cc }
show_cause before after (Err faults.Tell) h = record { disk = λ is. absurd cc; tell = λ is. h.tell refl }
show_cause before after (Err faults.NoMemory) h = record { disk = λ is. absurd cc; tell = λ is. absurd cc }

pub show_named : (Asks : Request → Type 0) (text : Option (List ℕ)) (id : Id) → Asks (Show id) → (r : Result Bool HostError) → IsNamed Asks text (show_status r)
show_named Asks text id asks (Ok true) = tt
show_named Asks text id asks (Ok false) = inr (id, asks)
show_named Asks text id asks (Err faults.Disk) = tt
show_named Asks text id asks (Err faults.Tell) = tt
show_named Asks text id asks (Err faults.NoMemory) = tt

-- ---- the whole spool

pub check_readable : (r : Result Found HostError) → is_unreadable (check_status r) ≡ false
check_readable (Ok founds.Nothing) = refl
check_readable (Ok (founds.BadConf file line)) = refl
check_readable (Ok (founds.Damaged area name)) = refl
check_readable (Err faults.Disk) = refl
check_readable (Err faults.Tell) = refl
check_readable (Err faults.NoMemory) = refl

pub check_cause : (before after : Faults) (r : Result Found HostError) → TellingCause before after r → HasHostCause before after (check_status r)
check_cause before after (Ok founds.Nothing) h = record { disk = λ is. absurd cc; tell = λ is. absurd cc }
check_cause before after (Ok (founds.BadConf file line)) h = record { disk = λ is. absurd cc; tell = λ is. absurd cc }
check_cause before after (Ok (founds.Damaged area name)) h = record { disk = λ is. absurd cc; tell = λ is. absurd cc }
check_cause before after (Err faults.Disk) h = record { disk = λ is. h.disk refl; tell = λ is. absurd cc }
check_cause before after (Err faults.Tell) h = record { disk = λ is. absurd cc; tell = λ is. h.tell refl }
check_cause before after (Err faults.NoMemory) h = record { disk = λ is. absurd cc; tell = λ is. absurd cc }

pub check_named : (Asks : Request → Type 0) (text : Option (List ℕ)) (r : Result Found HostError) → IfOk r IsFoundOfSome → IsNamed Asks text (check_status r)
check_named Asks text (Ok founds.Nothing) h = tt
check_named Asks text (Ok (founds.BadConf conf.Parameters line)) h = h
check_named Asks text (Ok (founds.BadConf conf.Table line)) h = h
check_named Asks text (Ok (founds.Damaged area name)) h = h
check_named Asks text (Err faults.Disk) h = tt
check_named Asks text (Err faults.Tell) h = tt
check_named Asks text (Err faults.NoMemory) h = tt
