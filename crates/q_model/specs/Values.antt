-- Structs that hold short texts, as contracts see them. Each is said beside its Rust type.
use Rattle.std.specs.Prelude.{List, Option, ℕ}
use Rattle.q_model.specs.declared.id.Id.{Id}
use Rattle.q_model.specs.declared.rows.Health.{Health}
use Rattle.q_model.specs.declared.spot.Area.{Area}

-- a transport, by its number in the table, and a next hop
pub record Site : Type 0 where
  pub transport : ℕ
  pub hop : List ℕ

-- a recipient's address, and the one that the sender wrote before that was mapped to it, where that is
-- another
pub record Receiver : Type 0 where
  pub address : List ℕ
  pub original : Option (List ℕ)

-- a file's place: an area and a name
pub record Spot : Type 0 where
  pub area : Area
  pub name : List ℕ

-- the number of an id's last delivery to a site
pub record Served : Type 0 where
  pub id : Id
  pub site : Site
  pub last : ℕ

-- a window, the feedback so far, the failed cohorts, whether the site is dead, and the moment up to
-- which it rests, where it does
pub record SiteRecord : Type 0 where
  pub site : Site
  pub window : ℕ
  pub success : ℕ
  pub failure : ℕ
  pub cohorts : ℕ
  pub health : Health
  pub rest : Option ℕ

-- a sender, or the null sender, and an arrival
pub record Head : Type 0 where
  pub sender : Option (List ℕ)
  pub arrival : ℕ

-- the numbers of a queue file, and the offsets of its first recipient and of its content
pub record FileHead : Type 0 where
  pub version : ℕ
  pub head : Head
  pub recipients : ℕ
  pub marked : ℕ
  pub first_at : ℕ
  pub content_at : ℕ
  pub content_len : ℕ

-- a recipient that was read, and the offset of its mark byte
pub record Taken : Type 0 where
  pub position : ℕ
  pub mark_at : ℕ
  pub address : List ℕ

-- recipients that were read, and the room for them
pub record Batch : Type 0 where
  pub items : List Taken
  pub room : ℕ
