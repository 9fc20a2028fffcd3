-- Queue files: what the bytes of one say. The records stand in this order, with nothing behind them. There
-- are two versions: in the second a record with the original address stands before that of each recipient.
use Rattle.std.specs.Int.{w64, from_be_bytes}
use Rattle.std.specs.Option.{option_and_then, option_map_or}
use Rattle.std.specs.Prelude.{◌&&◌, ◌==◌, ◌||◌, [], Bool, bytes_eq, drop, if◌then◌else◌, length, List, nat_le, None, not, Option, Some, suc, true, zero, ℕ, ◌∷◌}
use Rattle.q_model.specs.Lists.{has_none}
use Rattle.q_model.specs.Records.{number, read_record}
use Rattle.q_model.specs.Texts.{is_address}

pub record FileRecipient : Type 0 where
  pub address : List ℕ
  pub original : Option (List ℕ)
  pub marked : Bool

-- a message as its file says it; the null sender is None
pub record FileMessage : Type 0 where
  pub version : ℕ
  pub sender : Option (List ℕ)
  pub arrival : ℕ
  pub content : List ℕ
  pub recipients : List FileRecipient

infixl 10 ◌>>=◌
abbrev pub ◌>>=◌ : {A B : Type 0} → Option A → (A → Option B) → Option B
o >>= f = option_and_then f o

-- what a file says of itself: its version, the number of recipients, and the length of the content
pub record Counts : Type 0 where
  pub version : ℕ
  pub recipients : ℕ
  pub content : ℕ

-- the version of new files
abbrev pub new_version : ℕ
new_version = 2

-- the version is the first, in which nothing stands of original addresses
abbrev pub is_first : ℕ → Bool
is_first version = version == 1

-- how many bytes of content a file of a version may have
abbrev pub content_limit : ℕ → ℕ
content_limit version = if is_first version then 20000000 else 40000000

-- one of the two versions
abbrev pub is_version : ℕ → Bool
is_version version = (version == 1) || (version == 2)

-- a known version, 1 to 50,000 recipients, and no more content than the version allows
abbrev pub within_limits : Counts → Bool
within_limits c = is_version c.version && nat_le 1 c.recipients && nat_le c.recipients 50000
    && nat_le c.content (content_limit c.version)

abbrev pub counts_in : List ℕ → Counts
counts_in body =
    record { version = number body; recipients = number (drop 4 body); content = number (drop 8 body) }

-- `C`: the version and the counts
abbrev pub counts_of : List ℕ → Option Counts
counts_of body = if (length body == 12) && within_limits (counts_in body) then Some (counts_in body) else None

-- `T`: the arrival in eight bytes
abbrev pub arrival_of : List ℕ → Option ℕ
arrival_of body =
    if (length body == 8) && nat_le (from_be_bytes w64 body) 999990000000 then Some (from_be_bytes w64 body) else None

-- `S`: an address, or nothing for the null sender
abbrev pub sender_of : List ℕ → Option (Option (List ℕ))
sender_of [] = Some None
sender_of (b ∷ bytes) = if is_address (b ∷ bytes) then Some (Some (b ∷ bytes)) else None

-- `O`: the original address, or nothing where it is the address itself
abbrev pub original_of : List ℕ → Option (Option (List ℕ))
original_of body = sender_of body

-- it is another one than the address
abbrev pub is_other : List ℕ → Option (List ℕ) → Bool
is_other address original = option_map_or (λ a. not (bytes_eq a address)) original true

-- `R`: the mark byte and an address, which isn't the original one that stood before it; the mark is set
-- where the byte is `D`
abbrev pub recipient_of : Option (List ℕ) → List ℕ → Option FileRecipient
recipient_of original [] = None
recipient_of original (mark ∷ address) = if is_address address && is_other address original
    then Some (record { address = address; original = original; marked = mark == 68 }) else None

-- the original address at the front, and the bytes behind it; a file of the first version has no such record
abbrev pub take_original : ℕ → List ℕ → Option (Option (List ℕ) × List ℕ)
take_original version bytes =
    if is_first version then Some (None, bytes) else read_record 79 original_of bytes

-- the recipient at the front, and the bytes behind it
abbrev pub take_recipient : ℕ → List ℕ → Option (FileRecipient × List ℕ)
take_recipient version bytes = do
  o ← take_original version bytes
  read_record 82 (recipient_of o.0) o.1

-- so many recipients, and the bytes behind them
abbrev pub recipients_at : ℕ → ℕ → List ℕ → Option (List FileRecipient × List ℕ)
recipients_at version zero bytes = Some ([], bytes)
recipients_at version (suc n) bytes = do
  r ← take_recipient version bytes
  others ← recipients_at version n r.1
  Some (r.0 ∷ others.0, others.1)

-- `N` and `E`: a body of this length
abbrev pub body_of : ℕ → List ℕ → Option (List ℕ)
body_of n body = if length body == n then Some body else None

-- the message of a queue file; None where the bytes are none
unfoldable pub queue_file : List ℕ → Option FileMessage
queue_file bytes = do
  c ← read_record 67 counts_of bytes
  t ← read_record 84 arrival_of c.1
  s ← read_record 83 sender_of t.1
  r ← recipients_at c.0.version c.0.recipients s.1
  n ← read_record 78 (body_of c.0.content) r.1
  e ← read_record 69 (body_of 0) n.1
  if has_none e.1 then Some (record { version = c.0.version; sender = s.0; arrival = t.0; content = n.0; recipients = r.0 }) else None
