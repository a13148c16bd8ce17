-- What a lane and a store of objects tell a container: the document that the records of the lane's log spell, and what the store holds.
use Rattle.std.specs.Prelude.{ℕ, Bool, true, false, List, take, Option, Some, None}
use Rattle.std.specs.List.{filter_map}
use Rattle.std.specs.Result.{result_ok}
use Rattle.fluid_types.specs.Ledger.{Ledger, order}
use Rattle.fluid_types.specs.Records.{raw_spelled}
use Rattle.fluid_types.specs.declared.entries.Raw.{Raw}
use Rattle.fluid_rules.specs.Rules as rules
use Rattle.fluid_log.specs.Keeping.{Content}
use Rattle.fluid_store.specs.Held.{Held}
use Rattle.fluid_store.specs.Storing.{Storing}
use Rattle.fluid_lane.specs.Standing.{Standing}
use Rattle.fluid_loader.specs.Link.{Document}

-- the raw entries that records spell
abbrev pub raws_in : List (List ℕ) → List Raw
raws_in records = filter_map (λ bytes. result_ok (raw_spelled bytes)) records

-- the ledger of the first so many records of a log
abbrev pub ledger_in : ℕ → List (List ℕ) → Ledger
ledger_in count log = rules.ledger (raws_in (take count log))

-- the entries that the lane has entered, and the objects that are held
abbrev pub document_in : Standing → Content → Held → Document
document_in s content held =
    let l = ledger_in s.entries.entered content.log in
    record { order = order l; held = held; ledger = Some l; limit = s.limits.entries }

abbrev pub told_in : Standing → Option Content → Option Held → Option Document
told_in s None held = None
told_in s (Some content) None = None
told_in s (Some content) (Some held) = Some (document_in s content held)

-- nothing is told of a lane that may stand for no list
abbrev pub told_by : Bool → Standing → Storing → Option Document
told_by false s store = None
told_by true s store = told_in s s.keeping.content store.content
