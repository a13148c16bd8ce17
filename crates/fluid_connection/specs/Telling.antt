-- What is said to entries, and how often each verdict was given.
use Rattle.std.specs.Prelude.{◌≡◌, ◌<◌, ◌+◌, ◌^◌, ◌-◌, Bool, true, false, List, [], ◌++◌, Option, None, Some, Result, Ok, Err}
use Rattle.fluid_turn.specs.Entries.{IsPrefix}
use Rattle.fluid_codec.specs.declared.replies.Reply.{Reply}
use Rattle.fluid_voice.specs.declared.actions.Act.{Act}
use Rattle.fluid_voice.specs.declared.ends.ActEnd.{ActEnd}
use Rattle.fluid_voice.specs.declared.ends.ActEnd.TheVariants.{FullNow}
use Rattle.fluid_voice.specs.Replies.{entered_verdict, is_sequenced, is_dropped, is_nacked, one_where, count_of}
use Rattle.fluid_talk.specs.Counting.{is_absorbed}
use Rattle.fluid_json.specs.declared.memory.NoMemory.{NoMemory}
use Rattle.fluid_ends.specs.declared.fault.TalkFault.{TalkFault}
use Rattle.fluid_ends.specs.declared.fault.TalkFault.TheVariants as talk
use Rattle.fluid_connection.specs.declared.telling.Counts.{Counts}
use Rattle.fluid_connection.specs.declared.telling.Answered.{Answered}

-- ---- counts

abbrev pub no_counts : Counts
no_counts = record { sequenced = 0; dropped = 0; nacked = 0; absorbed = 0 }

-- none of them is the last number of its type
pub record HasRoom (c : Counts) : Type 0 where
  pub sequenced : c.sequenced < 2 ^ 64 - 1
  pub dropped : c.dropped < 2 ^ 64 - 1
  pub nacked : c.nacked < 2 ^ 64 - 1
  pub absorbed : c.absorbed < 2 ^ 64 - 1

abbrev pub with_end : Counts → ActEnd → Counts
with_end c end = record {
  sequenced = c.sequenced + one_where is_sequenced (entered_verdict end);
  dropped = c.dropped + one_where is_dropped (entered_verdict end);
  nacked = c.nacked + one_where is_nacked (entered_verdict end);
  absorbed = c.absorbed + one_where is_absorbed (entered_verdict end);
}

-- those of ends behind others
abbrev pub with_ends : Counts → List (Act × ActEnd) → Counts
with_ends c done = record {
  sequenced = c.sequenced + count_of is_sequenced done;
  dropped = c.dropped + count_of is_dropped done;
  nacked = c.nacked + count_of is_nacked done;
  absorbed = c.absorbed + count_of is_absorbed done;
}

-- ---- full documents

abbrev pub is_full_end : ActEnd → Bool
is_full_end FullNow = true
is_full_end end = false

-- it was found full before, or by this end
abbrev pub full_behind : Bool → ActEnd → Bool
full_behind true end = true
full_behind false end = is_full_end end

-- ---- replies

-- a prefix of these was said behind others
pub record TellsPrefix (all old new : List Reply) : Type 0 where
  pub prefix : List Reply
  pub begins : IsPrefix prefix all
  pub said : new ≡ old ++ prefix

-- what was said to one act alone, of which nothing is counted: all of it, or nothing for want of memory
abbrev pub SaysOne : Result (List Reply) NoMemory → Answered → Option TalkFault → Type 0
SaysOne (Ok replies) told fault = (told.replies.items ≡ replies) × ((told.counts ≡ no_counts) × (fault ≡ None))
SaysOne (Err refused) told fault = (told.replies.items ≡ []) × ((told.counts ≡ no_counts) × (fault ≡ Some talk.NoMemory))
