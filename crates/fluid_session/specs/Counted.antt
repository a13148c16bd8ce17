-- The numbers of a report.
use Rattle.std.specs.Prelude.{ℕ, ◌+◌, ◌-◌, ◌^◌, min, if◌then◌else◌}
use Rattle.fluid_voice.specs.Replies.{has_front_nack}
use Rattle.fluid_talk.specs.declared.heard.Heard.{Heard}
use Rattle.fluid_session.specs.declared.tally.Tally.{Tally}

-- a number of 64 bits stands still at its end
abbrev pub capped : ℕ → ℕ → ℕ
capped a b = min (a + b) (2 ^ 64 - 1)

abbrev pub plus : Tally → Tally → Tally
plus a b = record {
  sequenced = capped a.sequenced b.sequenced;
  dropped = capped a.dropped b.dropped;
  nacked = capped a.nacked b.nacked;
  absorbed = capped a.absorbed b.absorbed;
  unread = capped a.unread b.unread;
}

abbrev pub nothing : Tally
nothing = record { sequenced = 0; dropped = 0; nacked = 0; absorbed = 0; unread = 0 }

-- those of one text: it is unread where a front's nack is among its replies
abbrev pub counts_of : Heard → Tally
counts_of h = record {
  sequenced = h.sequenced;
  dropped = h.dropped;
  nacked = h.nacked;
  absorbed = h.absorbed;
  unread = if has_front_nack h.replies then 1 else 0;
}
