-- When each joined client was heard last. A checkpoint has the moments in a list of its own, beside the rows.
use Rattle.std.specs.Prelude.{ℕ, List, map, fold}
use Rattle.std.specs.FinMap.{entries, from_entries}
use Rattle.fluid_clients.specs.declared.table.Row.{Row}
use Rattle.fluid_clients.specs.Table.{Rows, Parts, change_row}
use Rattle.fluid_quorum.specs.declared.state.ScribeState.{ScribeState}
use Rattle.fluid_checkpoint.specs.declared.state.State.{State}

-- ids, each with a moment
abbrev pub Moments : Type 0
Moments = List (List ℕ × ℕ)

-- the moments of these rows, in byte order of their ids
abbrev pub moments_of : Rows → Moments
moments_of rows = map (λ entry. (entry.0, entry.1.heard)) (entries rows)

-- the rows without their moments
abbrev pub unheard : Row → Row
unheard row = record row { heard = 0 }

abbrev pub without_moments : Rows → Rows
without_moments rows = from_entries (map (λ entry. (entry.0, unheard entry.1)) (entries rows))

-- each moment is written down in the row of its client; one of nobody joined counts for nothing
unfoldable pub with_moments : Rows → Moments → Rows
with_moments rows moments = fold (λ rows moment. change_row moment.0 (λ row. record row { heard = moment.1 }) rows) rows moments

-- the state of a sequencer and a scribe
abbrev pub state_of : (entered counted : ℕ) → Parts → ScribeState → State
state_of entered counted sequencer scribe = record {
  entered = entered;
  counted = counted;
  sequencer = sequencer;
  scribe = scribe;
  heard = moments_of sequencer.rows;
}
