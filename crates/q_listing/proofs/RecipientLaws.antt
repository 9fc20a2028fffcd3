-- The pending recipients of a message, told one behind another.
use Rattle.std.proofs.Common.{◌≡◌, ◌∙◌, ◌+◌, ◌∷◌, [], List, Option, None, Some, ℕ, ap, arith, length, length-append, subst, sym}
use Rattle.std.proofs.Math.Path.{fun_ext}
use Rattle.std.specs.Option.{IfSome, IsSomeAnd}
use Rattle.std.specs.Prelude.{flat_map}
use Rattle.q_host.specs.View.{View}
use Rattle.q_model.specs.FilesStand.{file_message}
use Rattle.q_model.specs.declared.outcome.Note.{Note}
use Rattle.q_model.specs.Message.{Message, pending}
use Rattle.q_model.specs.QueueFile.{queue_file}
use Rattle.q_model.specs.SpoolFiles.{Files}
use Rattle.q_model.specs.Values.{Spot, Taken}
use Rattle.q_model.proofs.QueueFileLaws.{queue_file_again}
use Rattle.q_pending.specs.declared.pending.Pending.{Pending}
use Rattle.q_pending.specs.Readings.{GivesPending, IsFileOfMessage, IsPendingAhead}
use Rattle.q_telling.specs.Telling.{TellsFront, TellsMore}
use Rattle.q_telling.proofs.TellingLaws.{front_on, tells_on}
use Rattle.q_walk.specs.declared.walk.Found.{Found}
use Rattle.q_walk.specs.Walks.{IsFound}
use Rattle.q_listing.specs.Listings.{coded_line, last_code, line_by, recipient_lines}
use Rattle.q_listing.proofs.ToldLaws.{IsToldTo, all_done, told_all, told_more, told_stops}

-- where the file of a message stands, a queue file stands
pub no_file : (f : Files) (m : Message) (s : Spot) (P : List ℕ → Type 0) → IsFileOfMessage f m s
    → IfSome (f s.area s.name) (λ file. (queue_file file ≡ None) × P file) → ⊥
no_file f m s P is h =
    let bytes = is.stands.bytes in
    let file = file_message m in
    let reads = is.stands.reads in
    let there : f s.area s.name ≡ Some bytes = ap (λ (x : Spot). f x.area x.name) is.spot ∙ is.stands.there in
    let none = (subst (λ (o : Option (List ℕ)). IfSome o (λ x. (queue_file x ≡ None) × P x)) there h).0 in
    let some : queue_file bytes ≡ Some file = ap queue_file reads.written ∙ queue_file_again file reads.marks reads.lawful reads.agree in
    absurd cc

-- the positions that are told, counted
abbrev pub Counts : ℕ → List ℕ → Type 0
Counts n done = n ≡ length done

-- the recipients of a message are told up to where the reader stands
abbrev pub AreToldTo : (ℕ → Option ℕ) → Files → Message → List ℕ → Pending → ℕ → View → View → Type 0
AreToldTo code f m positions p n u v = IsToldTo (line_by code m) positions (IsPendingAhead f m p) (Counts n) u v

module _ (code : ℕ → Option ℕ) (m : Message) (positions : List ℕ) (n : ℕ) (p q : Pending) (u v w : View)
    (s : AreToldTo code u.files m positions p n u v) (quiet : TellsMore [] v w) where
  here : IsPendingAhead v.files m p s.rest
  here = subst (λ (f : Files). IsPendingAhead f m p s.rest) (sym s.told.files) s.ahead

  -- the reader gives none
  pub recipients_end : ((ps : List ℕ) → IsPendingAhead v.files m p ps → GivesPending v.files m q ps None)
      → (n ≡ length positions) × TellsMore (flat_map (line_by code m) positions) u w
  recipients_end next =
      let none = next s.rest here in (
        s.counted ∙ ap length (all_done (line_by code m) positions (IsPendingAhead u.files m p) (Counts n) u v w s quiet none),
        told_all (line_by code m) positions (IsPendingAhead u.files m p) (Counts n) u v w s quiet none,
      )

  module _ (z : View) (taken : Taken) (next : (ps : List ℕ) → IsPendingAhead v.files m p ps → GivesPending v.files m q ps (Some taken)) where
    same_line : coded_line (code taken.position) taken.address ≡ line_by code m (next s.rest here).0
    same_line =
        let given = next s.rest here in
        ap (λ (k : ℕ). coded_line (code k) taken.address) given.3.position ∙ ap (λ (a : List ℕ). coded_line (code given.0) a) given.3.address

    -- the next one is told
    pub recipients_more : TellsMore (coded_line (code taken.position) taken.address) w z → AreToldTo code u.files m positions q (n + 1) u z
    recipients_more told =
        let given = next s.rest here in
        told_more (line_by code m) positions (IsPendingAhead u.files m p) (Counts n) u v w s quiet
        (IsPendingAhead u.files m q) (Counts (n + 1)) z given.0 given.1 given.2
        (subst (λ (t : List ℕ). TellsMore t w z) same_line told)
        (subst (λ (f : Files). IsPendingAhead f m q given.1) s.told.files given.4)
        (λ count. omega (arith, count, length-append s.done (given.0 ∷ [])))

    -- the next one is told in part
    pub recipients_stop : TellsFront (coded_line (code taken.position) taken.address) w z → TellsFront (flat_map (line_by code m) positions) u z
    recipients_stop part =
        let given = next s.rest here in
        told_stops (line_by code m) positions (IsPendingAhead u.files m p) (Counts n) u v w s quiet z given.0 given.1 given.2
        (subst (λ (t : List ℕ). TellsFront t w z) same_line part)

-- the lines by the codes of the notes
pub same_recipients : (code : ℕ → Option ℕ) (notes : List Note) (m : Message) → ((q : ℕ) → code q ≡ last_code notes q)
    → flat_map (line_by code m) (pending m) ≡ recipient_lines notes m
same_recipients code notes m same = ap (λ (k : ℕ → Option ℕ). flat_map (line_by k m) (pending m)) (fun_ext same)

-- a message that was found, while the files are the same
pub found_still : (f h : Files) (m : Message) (found : Found) → h ≡ f → IsFound f m found → IsFound h m found
found_still f h m found same is = subst (λ (k : Files). IsFound k m found) (sym same) is

-- the reader that there is
pub reader_ahead : (f h : Files) (m : Message) (o : Option Pending) (p : Pending) → o ≡ Some p → h ≡ f
    → IsSomeAnd o (λ r. IsPendingAhead f m r (pending m)) → IsPendingAhead h m p (pending m)
reader_ahead f h m o p is same ahead = subst (λ (k : Files). IsPendingAhead k m p (pending m)) (sym same)
    (subst (λ (x : Option Pending). IsSomeAnd x (λ r. IsPendingAhead f m r (pending m))) is ahead)

pub reader_missing : (f : Files) (m : Message) (o : Option Pending) → o ≡ None → IsSomeAnd o (λ r. IsPendingAhead f m r (pending m)) → ⊥
reader_missing f m o is ahead = subst (λ (x : Option Pending). IsSomeAnd x (λ r. IsPendingAhead f m r (pending m))) is ahead

module _ (code : ℕ → Option ℕ) (notes : List Note) (m : Message) (u w z : View) (quiet : TellsMore [] u w) (same : (q : ℕ) → code q ≡ last_code notes q) where
  -- all that the reader gave is told
  pub recipients_told : (n : ℕ) → (n ≡ length (pending m)) × TellsMore (flat_map (line_by code m) (pending m)) w z
      → (n ≡ length (pending m)) × TellsMore (recipient_lines notes m) u z
  recipients_told n told = (
    told.0,
    subst (λ (t : List ℕ). TellsMore t u z) (same_recipients code notes m same)
        (tells_on [] (flat_map (line_by code m) (pending m)) u w z quiet told.1),
  )

  pub recipients_front : TellsFront (flat_map (line_by code m) (pending m)) w z → TellsFront (recipient_lines notes m) u z
  recipients_front part = subst (λ (t : List ℕ). TellsFront t u z) (same_recipients code notes m same)
      (front_on [] (flat_map (line_by code m) (pending m)) u w z quiet part)
