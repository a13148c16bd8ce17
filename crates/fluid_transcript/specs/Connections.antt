-- The steps of a connection: `send`, `collect` and `close`.
use Rattle.std.specs.Prelude.{ℕ, List, [], ◌∷◌, ◌++◌, map, fold, slice_get, Option, Some, None}
use Rattle.std.specs.List.{filter_map}
use Rattle.std.specs.Option.{option_or, option_to_list}
use Rattle.std.specs.FinMap.{get}
use Rattle.fluid_types.specs.declared.entries.Raw.{Raw}
use Rattle.fluid_types.specs.Ledger.{Ledger, order}
use Rattle.fluid_rules.specs.Rules.{ledger}
use Rattle.fluid_rules.specs.declared.limits.Limits.{Limits}
use Rattle.fluid_store.specs.Held.{Held}
use Rattle.fluid_voice.specs.declared.states.VoiceState.{VoiceState}
use Rattle.fluid_voice.specs.declared.states.VoiceState.TheVariants.{Fresh, Used}
use Rattle.fluid_voice.specs.declared.actions.Act.{Act}
use Rattle.fluid_voice.specs.declared.actions.Act.TheVariants as act
use Rattle.fluid_voice.specs.States as states
use Rattle.fluid_voice.specs.Heard.{acts_of}
use Rattle.fluid_voice.specs.Ends.{Found, Outcome, outcome, held_behind}
use Rattle.fluid_voice.specs.Ends.Outcome.{ends, clashes}
use Rattle.fluid_voice.specs.Replies.{replies_to, state_after}
use Rattle.fluid_voice.specs.Feed as feed
use Rattle.fluid_transcript.specs.World.{Document, Name, connection, container, roamer, used_up, World, ledger_of, raws_added, Effect, says}
use Rattle.fluid_transcript.specs.Lines.{reply_line, clash_line, closed_line}

-- where the connection of a name stands; a new name's is a fresh one
abbrev pub voice_named : Option Name → VoiceState
voice_named None = Fresh
voice_named (Some (connection voice)) = voice
voice_named (Some (container c)) = Used
voice_named (Some (roamer k)) = Used
voice_named (Some used_up) = Used

abbrev pub voice_of : World → List ℕ → VoiceState
voice_of w c = voice_named (get w.names c)

-- ---- send

-- what was done of the acts of a text so far: the raw entries that were added, what is held, where the connection stands, and
-- what was written
pub record Hearing : Type 0 where
  pub entries : List Raw
  pub store : Held
  pub voice : VoiceState
  pub lines : List (List ℕ)

-- what the next act finds, where these documents are open: the ledger and the store that those before it leave
abbrev pub found_by : Limits → (opened : List (List ℕ)) → Document → Hearing → Found
found_by limits opened d h = record { opened = opened; limits = limits; ledger = ledger (d.raws ++ h.entries); held = h.store }

-- behind an act that found this and came out so; of a clash nothing comes but its line
abbrev pub behind_act : (c : List ℕ) → Found → Act → Hearing → Outcome → Hearing
behind_act c f act h (clashes id kept new) = record h { lines = h.lines ++ clash_line c id ∷ [] }
behind_act c f act h (ends end) = record {
  entries = h.entries ++ raws_added f.ledger act (ends end);
  store = held_behind h.store act;
  voice = state_after h.voice act end;
  lines = h.lines ++ map (reply_line c) (replies_to h.voice act end);
}

abbrev pub act_done : (c : List ℕ) → Found → Act → Hearing → Hearing
act_done c f act h = behind_act c f act h (outcome f act)

abbrev pub hear_act : Limits → (opened : List (List ℕ)) → (c : List ℕ) → Document → Hearing → Act → Hearing
hear_act limits opened c d h act = act_done c (found_by limits opened d h) act h

-- acts one after another
abbrev pub hear : Limits → (opened : List (List ℕ)) → (c : List ℕ) → Document → Hearing → List Act → Hearing
hear limits opened c d h acts = fold (hear_act limits opened c d) h acts

-- a connection hears something: none of it is done yet
abbrev pub hearing : World → List ℕ → Hearing
hearing w c = record { entries = []; store = w.store; voice = voice_of w c; lines = [] }

abbrev pub acts_for : World → List ℕ → List ℕ → List Act
acts_for w c text = acts_of (voice_of w c) text w.moment

abbrev pub effect_of : List ℕ → Hearing → Effect
effect_of c h = record { entries = h.entries; checkpoints = []; store = h.store; name = Some (c, connection h.voice); lines = h.lines }

-- a connection hears a text
abbrev pub sent : Limits → World → Document → (c text : List ℕ) → Effect
sent limits w d c text = effect_of c (hear limits w.opened c d (hearing w c) (acts_for w c text))

-- the document that an act connects to
abbrev pub connects : Act → Option (List ℕ)
connects (act.Connect name write scopes detail moment) = Some name
connects act = None

-- a text reaches the document that it connects to, or else that of its connection
abbrev pub sent_to : World → (c text : List ℕ) → Option (List ℕ)
sent_to w c text = option_or (slice_get (filter_map connects (acts_for w c text)) 0) (states.document_name (voice_of w c))

-- ---- collect

-- the connection is given the messages from its next one to the last; one without a document is given none
abbrev pub delivered : World → Ledger → (c : List ℕ) → VoiceState → Effect
delivered w l c voice =
    record (says w (map (reply_line c) (feed.collected (order l) voice))) { name = Some (c, connection (feed.collected_state (order l) voice)) }

abbrev pub collected : World → Document → (c : List ℕ) → Effect
collected w d c = delivered w (ledger_of d) c (voice_of w c)

-- ---- close

-- a connection leaves: by a leave where it writes
abbrev pub closed : World → (c : List ℕ) → Effect
closed w c = record (says w (closed_line c ∷ [])) { entries = option_to_list (states.leave_of w.moment (voice_of w c)); name = Some (c, used_up) }
