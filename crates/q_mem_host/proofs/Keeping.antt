-- The data keep up with the record.
use Rattle.std.proofs.Common.{◌≡◌, ℕ, List, [], ◌∷◌, ◌++◌, Option, Some, sym, ◌∙◌, ap, subst}
use Rattle.q_model.specs.declared.spot.Area.{Area}
use Rattle.q_host.specs.Files.{Placed, put}
use Rattle.q_mem_host.specs.declared.rot.Rot.{Rot}
use Rattle.q_mem_host.specs.Kept.{Kept, fallen}
use Rattle.q_mem_host.specs.Event.{Event, HostState, host_state_after, host_state_of, tell, crash}
use Rattle.q_mem_host.specs.Record.{history}
use Rattle.q_mem_host.specs.declared.record.Call.{Call}
use Rattle.std.specs.Option.{option_map}
use Rattle.q_mem_host.proofs.Sound.{crash_again}
use Rattle.q_mem_host.specs.Data.{table}
use Rattle.q_mem_host.specs.Data.{KeepsUp}
use Rattle.q_mem_host.specs.Order.{InOrder}
use Rattle.q_mem_host.specs.declared.placed_files.PlacedFile.{PlacedFile}
use Rattle.q_mem_host.proofs.History.{state_more}
use Rattle.q_mem_host.proofs.Order.{none_in_order}

-- nothing was done
pub keeps_start : (es : List PlacedFile) (told : List ℕ) (h : List Event) → es ≡ [] → told ≡ [] → h ≡ [] → KeepsUp es told h
unfolding host_state_of
keeps_start es told h no_files none_told nothing = record {
  order = subst (λ (l : List PlacedFile). InOrder l) (sym no_files) none_in_order;
  disk = ap (λ (l : List PlacedFile). table l) no_files ∙ sym (ap (λ (l : List Event). (host_state_of l).disk) nothing);
  told = none_told ∙ sym (ap (λ (l : List Event). (host_state_of l).told) nothing);
}

-- one event more
pub keeps_more : (es : List PlacedFile) (told : List ℕ) (h h' : List Event) (e : Event) → h' ≡ h ++ e ∷ [] → InOrder es → table es ≡ (host_state_after e (host_state_of h)).disk → told ≡ (host_state_after e (host_state_of h)).told → KeepsUp es told h'
keeps_more es told h h' e is order disk bytes = record {
  order = order;
  disk = disk ∙ sym (ap (λ (l : List Event). (host_state_of l).disk) is ∙ ap (λ (s : HostState). s.disk) (state_more h e));
  told = bytes ∙ sym (ap (λ (l : List Event). (host_state_of l).told) is ∙ ap (λ (s : HostState). s.told) (state_more h e));
}

-- one call noted, by which the files change so
pub keeps_by : (es es2 : List PlacedFile) (told : List ℕ) (calls calls1 : List Call) (crashed : Option Rot) (g : List Event) (e : Event) (change : Placed Kept → Placed Kept)
    → KeepsUp es told (history calls crashed) → calls1 ≡ calls → table es2 ≡ change (table es) → InOrder es2 → g ≡ history calls1 crashed ++ e ∷ []
    → ((s : HostState) → host_state_after e s ≡ record { disk = change s.disk; told = s.told }) → KeepsUp es2 told g
keeps_by es es2 told calls calls1 crashed g e change up same now order noted effect =
    let h : List Event = history calls crashed in
    keeps_more es2 told h g e (noted ∙ ap (λ (l : List Call). history l crashed ++ e ∷ []) same) order (now ∙ ap change up.disk ∙ sym (ap (λ (s : HostState). s.disk) (effect (host_state_of h))))
    (up.told ∙ sym (ap (λ (s : HostState). s.told) (effect (host_state_of h))))

-- a file put there, which is this one
pub put_kept : (es es1 es2 : List PlacedFile) (a : Area) (n : List ℕ) (k k' : Kept) → table es2 ≡ put (table es1) a n (Some k) → es1 ≡ es → k ≡ k' → table es2 ≡ put (table es) a n (Some k')
put_kept es es1 es2 a n k k' now same is = now ∙ ap (λ (l : List PlacedFile). put (table l) a n (Some k)) same ∙ ap (λ (x : Kept). put (table es) a n (Some x)) is

-- a call that tells noted
pub keeps_told : (es : List PlacedFile) (told told2 bytes : List ℕ) (calls calls1 : List Call) (crashed : Option Rot) (g : List Event)
    → KeepsUp es told (history calls crashed) → calls1 ≡ calls → told2 ≡ told ++ bytes → g ≡ history calls1 crashed ++ tell bytes ∷ [] → KeepsUp es told2 g
keeps_told es told told2 bytes calls calls1 crashed g up same now noted =
    keeps_more es told2 (history calls crashed) g (tell bytes) (noted ∙ ap (λ (l : List Call). history l crashed ++ tell bytes ∷ []) same) up.order up.disk (now ∙ ap (λ (l : List ℕ). l ++ bytes) up.told)

-- after a crash that isn't noted yet
pub keeps_fallen : (es es2 : List PlacedFile) (told : List ℕ) (h h' : List Event) (rot : Rot) → KeepsUp es told h → table es2 ≡ (λ a n. option_map (fallen rot) (table es a n)) → InOrder es2 → h' ≡ h ++ crash rot ∷ [] → KeepsUp es2 told h'
keeps_fallen es es2 told h h' rot up now order more = keeps_more es2 told h h' (crash rot) more order (now ∙ ap {B = Placed Kept} (λ (t : Placed Kept). λ a n. option_map (fallen rot) (t a n)) up.disk) up.told

-- the state after a crash, and that after another one
pub state_fallen : (g h h' : List Event) (rot : Rot) → g ≡ h → h' ≡ h ++ crash rot ∷ [] → host_state_of h' ≡ host_state_after (crash rot) (host_state_of g)
state_fallen g h h' rot same more = ap (λ (l : List Event). host_state_of l) (more ∙ ap (λ (l : List Event). l ++ crash rot ∷ []) (sym same)) ∙ state_more g (crash rot)

pub state_fallen_twice : (g h h0 : List Event) (first rot : Rot) → g ≡ h → h ≡ h0 ++ crash first ∷ [] → host_state_of h ≡ host_state_after (crash rot) (host_state_of g)
state_fallen_twice g h h0 first rot same was =
    ap (λ (l : List Event). host_state_of l) was ∙ state_more h0 (crash first) ∙ sym (crash_again (host_state_of h0) first rot)
    ∙ ap (λ (s : HostState). host_state_after (crash rot) s) (sym (ap (λ (l : List Event). host_state_of l) (same ∙ was) ∙ state_more h0 (crash first)))
