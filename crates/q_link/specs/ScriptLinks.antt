-- What reads and writes make of a link that follows a script.
use Rattle.std.specs.Prelude.{◌≡◌, ◌==◌, ◌-◌, ◌^◌, ◌⊎◌, [], Bool, false, if◌then◌else◌, length, List, None, Option, option_and_then, option_map, Some, take, true, ℕ}
use Rattle.q_link.specs.declared.link.Got.{Got}
use Rattle.q_link.specs.declared.link.Got.TheVariants as got
use Rattle.q_link.specs.declared.link.Put.{Put}
use Rattle.q_link.specs.declared.link.Put.TheVariants as put
use Rattle.q_link.specs.declared.link_wait.LinkWait.{LinkWait}
use Rattle.q_link.specs.declared.link_wait.LinkWait.TheVariants as link_waits
use Rattle.q_link.specs.Reads.{with_not_yet, with_received, with_sent}
use Rattle.q_link.specs.Records.{counted}
use Rattle.q_link.specs.Scripts.{Script, script_waits, steps_after, writes_after}
use Rattle.q_link.specs.declared.usage.Usage.TheVariants.{Open}
use Rattle.q_link.specs.Usages.{usage_called, usage_closed}
use Rattle.q_link.specs.Views.{ForRead, ForWrite, NoWait, View, Wait}

-- the rest of a link's script, and what is known of the link
pub record ScriptLink : Type 0 where
  pub script : Script
  pub view : View

-- for what a link waits, by how it is kept
abbrev pub wait_of : LinkWait → Wait
wait_of link_waits.No = NoWait
wait_of link_waits.ForRead = ForRead
wait_of link_waits.ForWrite = ForWrite

-- a link after a rest
abbrev pub rested : ScriptLink → ScriptLink
rested link = record link { view = record link.view { wait = NoWait } }

-- what is told, while anything is
abbrev pub told_while : {T : Type 0} → Bool → T → Option T
told_while tells t = if tells then Some t else None

-- what is known of a link that was just opened, and follows this script
abbrev pub new_view : Script → List ℕ → ℕ → Bool → View
new_view script hop rests tells = record {
  faults = 0;
  wait = NoWait;
  ended = false;
  usage = Open;
  waits_left = script_waits script;
  told = told_while tells
      (record { hop = hop; received = []; sent = []; not_yets = 0; rests_before = rests });
}

-- One more is told; where the number would pass its last value, nothing is told any more.
abbrev pub told_more : {T : Type 0} → (T → ℕ) → (T → T) → Option T → Option T
told_more number change told =
    option_and_then (λ t. if number t == (2 ^ 64 - 1) then None else Some (change t)) told

-- bytes came
abbrev pub receives : List ℕ → View → View
receives bytes v = record v { wait = NoWait; usage = usage_called v.usage; told = option_map (with_received bytes) v.told }

-- bytes went
abbrev pub sends : List ℕ → View → View
sends bytes v = record v { wait = NoWait; usage = usage_called v.usage; told = option_map (with_sent bytes) v.told }

-- nothing came or went yet
abbrev pub waits : Wait → View → View
waits wait v = record v {
  wait = wait;
  usage = usage_called v.usage;
  told = told_more (λ t. t.not_yets) with_not_yet v.told;
}

-- the end was reached
abbrev pub ends : View → View
ends v = record v { wait = NoWait; ended = true; usage = usage_closed v.usage }

-- the link failed
abbrev pub fails : View → View
fails v = record v { faults = counted v.faults 1; wait = NoWait; usage = usage_closed v.usage }

-- nothing is told any more
abbrev pub tells_no_more : View → View
tells_no_more v = record v { told = None }

-- what is known after a read with this answer
abbrev pub after_answer : Got → List ℕ → View → View
after_answer (got.Took n) buf v = receives (take n buf) v
after_answer got.NotYet buf v = waits ForRead v
after_answer got.End buf v = ends v
after_answer got.Failed buf v = fails v

-- a link with this rest of its script, of which this is known besides
abbrev pub following : Script → View → ScriptLink
following script v =
    record { script = script; view = record v { waits_left = script_waits script } }

-- a link after a read with this answer
abbrev pub after_read : Got → List ℕ → ScriptLink → ScriptLink
after_read answer buf link = following
    (record link.script { steps = steps_after link.script.steps (length buf) })
    (after_answer answer buf link.view)

-- a link after a write that changed what is known so
abbrev pub after_write : (View → View) → ScriptLink → ScriptLink
after_write change link = following
    (record link.script { writes = writes_after link.script.writes })
    (change link.view)

-- What was sent is told, or nothing any more.
abbrev pub IsSent : List ℕ → View → View → Type 0
IsSent bytes old new = (new ≡ sends bytes old) ⊎ (new ≡ tells_no_more (sends bytes old))

-- what a write with this answer makes of a link
abbrev pub IsWritten : Put → List ℕ → ScriptLink → ScriptLink → Type 0
IsWritten (put.Gave n) bytes old new =
    (new ≡ after_write (sends bytes) old)
    ⊎ (new ≡ after_write (λ v. tells_no_more (sends bytes v)) old)
IsWritten put.NotYet bytes old new = new ≡ after_write (waits ForWrite) old
IsWritten put.Failed bytes old new = new ≡ after_write fails old
