-- How telling what a file of conf says ends.
use Rattle.std.proofs.Common.{◌≡◌, ◌<◌, ◌+◌, ◌∙◌, ◌++◌, ◌∷◌, [], add-one, ap, append-nil, codes, Err, flat_map, get_or, inr, length, List, Ok, Result, sym, take, ℕ}
use Rattle.std.proofs.Math.Seq.{take-suc}
use Rattle.std.proofs.lemmas.Grind.{flat_map-append}
use Rattle.std.proofs.lemmas.List.Concat.{flat_map-cons}
use Rattle.q_conf.specs.Confs.{conf_bytes}
use Rattle.q_conf.specs.declared.error.ConfFile.{ConfFile}
use Rattle.q_conf_texts.specs.Params.{params_text}
use Rattle.q_conf_texts.specs.Routes.{routes_text}
use Rattle.q_conf_texts.specs.Tellings.{line_or, look_error, params_bytes, params_said, routes_said, table_bytes, TellsSaid}
use Rattle.q_host.specs.declared.error.HostError.{HostError}
use Rattle.q_host.specs.declared.error.HostError.TheVariants as faults
use Rattle.q_host.specs.View.{View}
use Rattle.q_model.specs.Settings.{Settings}
use Rattle.q_params.specs.ParameterFile.{settings_of_file}
use Rattle.q_transport.specs.Contents.{Contents}
use Rattle.q_telling.specs.Telling.{TellsFront, TellsMore}
use Rattle.q_telling.proofs.TellingLaws.{front_on, tells_on}

-- what is said of the bytes that were read, and told, is what the parameter file says
pub params_from : (u : View) (name bytes read again text told : List ℕ) (s : Settings) → name ≡ codes "params" → bytes ≡ conf_bytes u.files name → read ≡ bytes → Ok s ≡ settings_of_file read
    → again ≡ bytes → text ≡ params_text again → told ≡ text → (params_said (params_bytes u) ≡ Ok s) × (told ≡ params_text (params_bytes u))
params_from u name bytes read again text told s named is reads said repeats makes tells =
    let same = is ∙ ap (conf_bytes u.files) named in
    (ap params_said (sym (reads ∙ same)) ∙ ap line_or (sym said), tells ∙ makes ∙ ap params_text (repeats ∙ same))

-- and the same of the table
pub routes_from : (u : View) (addresses : List (List ℕ)) (name bytes read again text told : List ℕ) (d : Contents) → name ≡ codes "transport" → bytes ≡ conf_bytes u.files name → read ≡ bytes → routes_said read ≡ Ok d
    → again ≡ bytes → text ≡ routes_text d again addresses → told ≡ text → (routes_said (table_bytes u) ≡ Ok d) × (told ≡ routes_text d (table_bytes u) addresses)
routes_from u addresses name bytes read again text told d named is reads said repeats makes tells =
    let same = is ∙ ap (conf_bytes u.files) named in
    (ap routes_said (sym (reads ∙ same)) ∙ said, tells ∙ makes ∙ ap (λ (x : List ℕ). routes_text d x addresses) (repeats ∙ same))

-- one text more
pub next_text : {X : Type 0} (f : X → List ℕ) (xs : List X) (i : ℕ) (d : X) (text new : List ℕ) → i < length xs → text ≡ flat_map f (take i xs) → new ≡ text ++ f (get_or xs i d) → new ≡ flat_map f (take (i + 1) xs)
next_text f xs i d text new below so is =
    let x = get_or xs i d in
    let one : flat_map f (x ∷ []) ≡ f x = flat_map-cons f x [] ∙ append-nil (f x) in
    is ∙ ap (λ (t : List ℕ). t ++ f x) so ∙ ap (λ (t : List ℕ). flat_map f (take i xs) ++ t) (sym one) ∙ sym (flat_map-append f (take i xs) (x ∷ []))
    ∙ ap (flat_map f) (sym (take-suc xs i d below)) ∙ ap (λ n. flat_map f (take n xs)) (sym (add-one i))

module _ {A : Type 0} (file : ConfFile) (said : Result A ℕ) (text : A → List ℕ) (u v w : View) (a : A) (is : said ≡ Ok a) (none : TellsMore [] u v) where
  -- all was told
  pub all_told : TellsMore (text a) v w → TellsSaid file said text u w (Ok tt)
  all_told all = (a, is, tells_on [] (text a) u v w none all)

  -- the host failed while the text was told
  pub front_told : (e : HostError) → TellsFront (text a) v w → TellsSaid file said text u w (Err (look_error e))
  front_told faults.Disk front = inr (a, is, front_on [] (text a) u v w none front)
  front_told faults.Tell front = inr (a, is, front_on [] (text a) u v w none front)
  front_told faults.NoMemory front = inr (a, is, front_on [] (text a) u v w none front)
