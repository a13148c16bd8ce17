-- A connection, as its own crate sees it.
use Rattle.std.specs.Prelude.{◌≡◌, ◌<◌, ◌≤◌, ℕ, true, List, length, Option, Some, None, IfSome, refl}
use Rattle.std.specs.Coded.{Coded, code_by, coded×, coded_ℕ, coded_list, coded_option}
use Rattle.fluid_turn.specs.declared.view.Numbered.{Numbered}
use Rattle.fluid_types.specs.Forms.{largest}
use Rattle.fluid_opening.specs.declared.shelf.ShelfStep.{ShelfStep}
use Rattle.fluid_opening.specs.contracts.shelf.ShelfStep as shelf_steps
use Rattle.fluid_service.specs.Visiting.{Visiting}
use Rattle.fluid_service.specs.Keys.{Serving, AKey}
use Rattle.fluid_service.specs.Codes.{numbered_code, serving_code, visiting_code}
use Rattle.fluid_voice.specs.declared.states.VoiceState.{VoiceState}
use Rattle.fluid_voice.specs.contracts.states.VoiceState as states
use Rattle.fluid_voice.specs.States.{document_name, is_connected, next_number}
use Rattle.fluid_talk.specs.Talking.{Knowing, Talking, number_behind_last}
use Rattle.fluid_connection.specs.Knowing.{no_pass, knowing, keyed}

-- where it stands, its key, the visit of the last document that it reached, and the visit that was handed to it
pub record Talked : Type 0 where
  pub voice : VoiceState
  pub key : AKey
  pub visit : Option Visiting
  pub handed : Option Visiting

abbrev pub pass_of : Option Visiting → Knowing
pass_of None = no_pass
pass_of (Some visit) = knowing visit.door.name visit.pass

-- what is known of it
abbrev pub talking : Talked → Talking
talking t = record { voice = t.voice; pass = pass_of t.visit; handed = pass_of t.handed; key = keyed t.key }

-- its key is one of this service
abbrev pub belongs : Talked → Serving → Type 0
belongs t service = t.key.turn ≡ service

abbrev pub visited : Visiting → Knowing
visited visit = knowing visit.door.name visit.pass

-- what always holds of it: one that is connected has a visit of its document. The number of the message that is delivered next isn't
-- 0 then, and not above the one behind the last message
pub record IsTalk (t : Talked) : Type 0 where
  pub named : is_connected t.voice ≡ true → (pass_of t.visit).name ≡ document_name t.voice
  pub first : is_connected t.voice ≡ true → 0 < next_number t.voice
  pub next : is_connected t.voice ≡ true → (pass_of t.visit).told ≡ true → next_number t.voice ≤ number_behind_last (pass_of t.visit).seen
  pub few : is_connected t.voice ≡ true → length (pass_of t.visit).seen ≤ largest

-- one that noted how many steps its document had has delivered all that its pass has seen
abbrev pub IsDelivered : Talking → Type 0
IsDelivered t = t.pass.told ≡ true → next_number t.voice ≡ number_behind_last t.pass.seen

abbrev pub HasDelivered : Talked → Option ℕ → Type 0
HasDelivered t settled = IfSome settled (λ steps. IsDelivered (talking t))

-- only its visit is another one, or knows more
pub record StaysBut (old new : Talked) : Type 0 where
  pub voice : new.voice ≡ old.voice
  pub key : new.key ≡ old.key
  pub handed : new.handed ≡ old.handed

-- ---- as a tuple of its parts, for the proofs that tell values apart

abbrev pub key_code : Coded AKey
key_code =
    code_by (Serving × (ℕ × (List (Numbered ShelfStep) × List ShelfStep)))
    (coded× serving_code (coded× coded_ℕ (coded× (coded_list (numbered_code shelf_steps.the_row.coded)) (coded_list shelf_steps.the_row.coded))))
    (λ k. (k.turn, (k.number, (k.seen, k.mine))))
    (λ p. record { turn = p.0; number = p.1.0; seen = p.1.1.0; mine = p.1.1.1 })
    (λ _. refl)

abbrev pub talked_code : Coded Talked
talked_code =
    code_by (VoiceState × (AKey × (Option Visiting × Option Visiting)))
    (coded× states.the_row.coded (coded× key_code (coded× (coded_option visiting_code) (coded_option visiting_code))))
    (λ t. (t.voice, (t.key, (t.visit, t.handed))))
    (λ p. record { voice = p.0; key = p.1.0; visit = p.1.1.0; handed = p.1.1.1 })
    (λ _. refl)
