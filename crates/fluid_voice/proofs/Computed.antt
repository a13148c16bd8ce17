-- The worked examples, computed.
use Rattle.std.proofs.Common.{refl, ap}
use Rattle.std.specs.FinMap.{get-empty}
use Rattle.std.specs.Fmt.{digits}
use Rattle.fluid_types.specs.Ledger.{order, seq}
use Rattle.fluid_rules.specs.Past as past
use Rattle.fluid_rules.specs.Rules.{past_of, is_joined, joined, minimum, unsettled, message, verdict}
use Rattle.fluid_rules.specs.Counted.{counted}
use Rattle.fluid_table.specs.Table.{byte_order}
use Rattle.fluid_codec.specs.declared.replies.Reply.TheVariants.{Object}
use Rattle.fluid_voice.specs.declared.ends.ActEnd.TheVariants.{Given}
use Rattle.fluid_voice.specs.Ends.{range_asked}
use Rattle.fluid_voice.specs.Ends.Outcome.{ends}
use Rattle.fluid_voice.specs.Examples.{Ranges, LongRanges, AtLimits, Slices, TwoAcks, Objects}

pub ranges : Ranges
unfolding range_asked
ranges = (refl, refl, refl, refl, refl, refl, refl)

pub long_ranges : LongRanges
unfolding range_asked
long_ranges = (refl, refl)

pub at_limits : AtLimits
unfolding digits past.membership past.tail past.put_id past.ever_joined past.joined past.entered_at past.minimum past.reference past.latest_taken past.reference_from past.is_nacked order seq past_of is_joined joined minimum unsettled message verdict counted
at_limits = (refl, refl, refl, refl, refl)

pub slices : Slices
unfolding range_asked
slices one two three = (refl, refl, refl)

pub two_acks : TwoAcks
two_acks = (refl, refl, refl, refl)

pub objects : Objects
objects = ((λ limits l id. ap (λ bytes. ends (Given (Object id bytes))) (get-empty byte_order id)), refl, refl, refl)
