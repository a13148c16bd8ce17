use Rattle.std.proofs.Common.{refl}
use Rattle.json.specs.Print.{escape_byte}
use Rattle.fluid_types.specs.Ledger.{order, seq}
use Rattle.fluid_types.specs.Texts.{name_of}
use Rattle.fluid_rules.specs.Past as past
use Rattle.fluid_rules.specs.Rules.{past_of, is_joined, last_number, is_nacked, reference, scopes, heard, joined, minimum, last_minimum, lifted, unsettled, message, nack, submission_verdict, verdict, ledger}
use Rattle.fluid_rules.specs.Examples.{OneJoin, FirstMessage, TwoJoins, TwoWriters, BelowMinimum, AfterRefusal, WholeStory, WithoutScope, Noops, WhatIsLifted, WhatTheLastSays, WhenHeard}

pub one_join : OneJoin
unfolding past.membership past.tail past.last_number past.is_nacked past.latest_taken past.reference_from past.heard past.put_id past.ever_joined past.joined past.entered_at past.minimum past.reference order seq past_of is_joined last_number is_nacked reference scopes heard joined minimum last_minimum lifted unsettled message nack submission_verdict verdict ledger name_of
one_join = refl

pub first_message : FirstMessage
unfolding past.membership past.tail past.last_number past.is_nacked past.latest_taken past.reference_from past.heard past.put_id past.ever_joined past.joined past.entered_at past.minimum past.reference order seq past_of is_joined last_number is_nacked reference scopes heard joined minimum last_minimum lifted unsettled message nack submission_verdict verdict ledger name_of escape_byte
first_message = refl

pub two_joins : TwoJoins
unfolding past.membership past.tail past.last_number past.is_nacked past.latest_taken past.reference_from past.heard past.put_id past.ever_joined past.joined past.entered_at past.minimum past.reference order seq past_of is_joined last_number is_nacked reference scopes heard joined minimum last_minimum lifted unsettled message nack submission_verdict verdict ledger name_of
two_joins = refl

pub two_writers : TwoWriters
unfolding past.membership past.tail past.last_number past.is_nacked past.latest_taken past.reference_from past.heard past.put_id past.ever_joined past.joined past.entered_at past.minimum past.reference order seq past_of is_joined last_number is_nacked reference scopes heard joined minimum last_minimum lifted unsettled message nack submission_verdict verdict ledger name_of
two_writers = refl

pub below_minimum : BelowMinimum
unfolding past.membership past.tail past.last_number past.is_nacked past.latest_taken past.reference_from past.heard past.put_id past.ever_joined past.joined past.entered_at past.minimum past.reference order seq past_of is_joined last_number is_nacked reference scopes heard joined minimum last_minimum lifted unsettled message nack submission_verdict verdict ledger name_of
below_minimum = refl

pub after_refusal : AfterRefusal
unfolding past.membership past.tail past.last_number past.is_nacked past.latest_taken past.reference_from past.heard past.put_id past.ever_joined past.joined past.entered_at past.minimum past.reference order seq past_of is_joined last_number is_nacked reference scopes heard joined minimum last_minimum lifted unsettled message nack submission_verdict verdict ledger name_of
after_refusal = refl

pub whole_story : WholeStory
unfolding past.membership past.tail past.last_number past.is_nacked past.latest_taken past.reference_from past.heard past.put_id past.ever_joined past.joined past.entered_at past.minimum past.reference order seq past_of is_joined last_number is_nacked reference scopes heard joined minimum last_minimum lifted unsettled message nack submission_verdict verdict ledger name_of
whole_story = refl

pub without_scope : WithoutScope
unfolding past.membership past.tail past.last_number past.is_nacked past.latest_taken past.reference_from past.heard past.put_id past.ever_joined past.joined past.entered_at past.minimum past.reference order seq past_of is_joined last_number is_nacked reference scopes heard joined minimum last_minimum lifted unsettled message nack submission_verdict verdict ledger name_of
without_scope = refl

pub noops : Noops
unfolding past.membership past.tail past.last_number past.is_nacked past.latest_taken past.reference_from past.heard past.put_id past.ever_joined past.joined past.entered_at past.minimum past.reference order seq past_of is_joined last_number is_nacked reference scopes heard joined minimum last_minimum lifted unsettled message nack submission_verdict verdict ledger name_of
noops = refl

pub what_is_lifted : WhatIsLifted
unfolding past.membership past.tail past.last_number past.is_nacked past.latest_taken past.reference_from past.heard past.put_id past.ever_joined past.joined past.entered_at past.minimum past.reference order seq past_of is_joined last_number is_nacked reference scopes heard joined minimum last_minimum lifted unsettled message nack submission_verdict verdict ledger name_of
what_is_lifted = record { of_a = refl; by_b = refl; by_a = refl; by_a_alone = refl; held_back = refl }

pub what_the_last_says : WhatTheLastSays
unfolding past.membership past.tail past.last_number past.is_nacked past.latest_taken past.reference_from past.heard past.put_id past.ever_joined past.joined past.entered_at past.minimum past.reference order seq past_of is_joined last_number is_nacked reference scopes heard joined minimum last_minimum lifted unsettled message nack submission_verdict verdict ledger name_of
what_the_last_says = record { at_first = refl; of_message = refl; behind_it = refl; still = refl }

pub when_heard : WhenHeard
unfolding past.membership past.tail past.last_number past.is_nacked past.latest_taken past.reference_from past.heard past.put_id past.ever_joined past.joined past.entered_at past.minimum past.reference order seq past_of is_joined last_number is_nacked reference scopes heard joined minimum last_minimum lifted unsettled message nack submission_verdict verdict ledger name_of
when_heard = record { by_join = refl; again = refl; by_refused = refl; by_absorbed = refl; repeated = refl; another = refl }
