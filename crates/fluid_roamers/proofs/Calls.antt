-- What calls leave of the parts of a past.
use Rattle.std.proofs.Common.{◌≡◌, ◌⊎◌, ℕ, ◌+◌, Bool, true, false, ◌&&◌, if◌then◌else◌, List, [], ◌∷◌, ◌++◌, drop, reverse, refl, sym, ap, subst, ◌∙◌}
use Rattle.std.specs.Prelude.{fold}
use Rattle.std.proofs.lemmas.List.{reverse-append, reverse-reverse}
use Rattle.fluid_types.specs.declared.messages.Message.{Message}
use Rattle.fluid_edits.specs.declared.edit.Edit.{Edit}
use Rattle.fluid_runtime.specs.App.{after_message, is_op}
use Rattle.fluid_loader.specs.Container.{AContainer, taken_by, behind}
use Rattle.fluid_outbox.specs.Past.{Call, Past, Heard, edits, ids, current, heard_to, given, sent, has_left, acknowledged}
use Rattle.fluid_outbox.specs.Kept.{AnOutbox, Stands, StandsFor, past_of}
use Rattle.fluid_roamers.specs.Taking.{acks, hears, without}
use Rattle.fluid_roamers.proofs.Outboxes.{no_acks_of, heard_acks, settled_on}

-- ---- lists of calls

-- a past as a list of calls, oldest first
pub calls_of : (o : AnOutbox) (past : Past) → Stands o past → StandsFor o (reverse past)
calls_of o past is = subst (Stands o) (sym (reverse-reverse past)) is

-- with one call more
pub call_more : (o : AnOutbox) (past : Past) (call : Call) → StandsFor o (reverse past ++ call ∷ []) → Stands o (call ∷ past)
call_more o past call is = subst (Stands o) (reverse-append (reverse past) (call ∷ []) ∙ ap (λ calls. call ∷ calls) (reverse-reverse past)) is

pub past_is : (past : Past) → past_of (reverse past) ≡ past
past_is past = reverse-reverse past

-- ---- messages that were heard

pub hears_edits : (past : Past) (ms : List Message) → edits (hears past ms) ≡ edits past
unfolding edits
hears_edits past [] = refl
hears_edits past (m ∷ ms) = hears_edits (Heard m ∷ past) ms

pub hears_ids : (past : Past) (ms : List Message) → ids (hears past ms) ≡ ids past
unfolding ids
hears_ids past [] = refl
hears_ids past (m ∷ ms) = hears_ids (Heard m ∷ past) ms

pub hears_current : (past : Past) (ms : List Message) → current (hears past ms) ≡ current past
unfolding current
hears_current past [] = refl
hears_current past (m ∷ ms) = hears_current (Heard m ∷ past) ms

pub hears_sent : (past : Past) (ms : List Message) (id : List ℕ) → sent (hears past ms) id ≡ sent past id
unfolding sent given
hears_sent past [] id = refl
hears_sent past (m ∷ ms) id = hears_sent (Heard m ∷ past) ms id

-- the number of the last one is that of a container that took them in
pub hears_number : (past : Past) (own : List ℕ) (c : AContainer) (ms : List Message) → heard_to past ≡ c.number → heard_to (hears past ms) ≡ (behind own c ms).number
unfolding heard_to
hears_number past own c [] is = is
hears_number past own c (m ∷ ms) is = hears_number (Heard m ∷ past) own (taken_by own c m) ms refl

pub behind_channels : (own : List ℕ) (c : AContainer) (ms : List Message) → (behind own c ms).channels ≡ fold after_message c.channels ms
behind_channels own c [] = refl
behind_channels own c (m ∷ ms) = behind_channels own (taken_by own c m) ms

-- ---- an outbox that awaits nothing

abbrev pub IsSettled : Past → List ℕ → Type 0
IsSettled past id = (sent past id ≡ 0) ⊎ (has_left past id ≡ true)

-- no message acknowledges anything
pub quiet_acknowledged : (past : Past) (ms : List Message) → ((id : List ℕ) → IsSettled past id) → acknowledged (hears past ms) ≡ acknowledged past
quiet_acknowledged past [] settled = refl
quiet_acknowledged past (m ∷ ms) settled =
    quiet_acknowledged (Heard m ∷ past) ms (λ id. settled_on past m id (settled id)) ∙ heard_acks past m false (no_acks_of past m settled)

pub quiet_settled : (past : Past) (ms : List Message) → ((id : List ℕ) → IsSettled past id) → (id : List ℕ) → IsSettled (hears past ms) id
quiet_settled past [] settled id = settled id
quiet_settled past (m ∷ ms) settled id = quiet_settled (Heard m ∷ past) ms (λ i. settled_on past m i (settled i)) id

-- where nothing is laid over nothing goes
pub without_none : (past : Past) (ms : List Message) → ◌≡◌ {A = List Edit} (without past ms []) []
without_none past [] = refl
without_none past (m ∷ ms) = by (acks past m && is_op m) (without_none (Heard m ∷ past) ms)
  where
    by : (b : Bool) → ◌≡◌ {A = List Edit} (without (Heard m ∷ past) ms []) [] → ◌≡◌ {A = List Edit} (without (Heard m ∷ past) ms (if b then drop 1 [] else [])) []
    by true later = later
    by false later = later
