-- What holds of the definitions.
use Rattle.std.specs.Prelude.{◌≡◌, ℕ, ◌-◌, ◌^◌, ◌<◌, ◌≤◌, ℤ, unsigned_abs, List, [], ◌++◌, length, codes, Ok}
use Rattle.std.specs.List.{All}
use Rattle.std.specs.Fmt.{signed_decimal}
use Rattle.fluid_json.specs.Tree.{text, object, no_members, member}
use Rattle.fluid_json.specs.Printed.{printed}
use Rattle.fluid_counter.specs.Counter.{Shared, StandsFor, HasRoom, greatest_size, replay}
use Rattle.fluid_counter.specs.Content.{content, IsStorable, answer}

-- a replay may stop and go on
abbrev pub IsReplayedOn : Type 0
IsReplayedOn = (total : ℤ) (earlier later : List ℤ) → replay total (earlier ++ later) ≡ replay (replay total earlier) later

-- the content is JSON as it is printed: an object whose one member is the total's decimal text
abbrev pub IsPrinted : Type 0
IsPrinted = (total : ℤ) → unsigned_abs total ≤ greatest_size → content total ≡ printed (object (member (codes "value") (text (signed_decimal total)) no_members))

-- what is written of a counter is read back, where its total lies within plus or minus 2^120
abbrev pub IsReadBack : Type 0
IsReadBack = (total : ℤ) → IsStorable total → answer (content total) ≡ Ok (record { acknowledged = total; pending = [] })

-- only what is written of such a counter is read, and nothing of it is pending
abbrev pub IsOnlyContent : Type 0
IsOnlyContent = (blob : List ℕ) (shared : Shared) → answer blob ≡ Ok shared → (blob ≡ content shared.acknowledged) × (shared.pending ≡ []) × IsStorable shared.acknowledged

-- an amount as an operation of the protocol has it
abbrev pub IsIncrement : ℤ → Type 0
IsIncrement amount = unsigned_abs amount ≤ 2 ^ 53 - 1

-- behind a total that was read, a counter that has taken fewer than 2^64 such amounts, pending ones among them, has room for one more
abbrev pub IsRoomy : Type 0
IsRoomy =
    (total : ℤ) (amounts : List ℤ) (shared : Shared) (amount : ℤ) → IsStorable total → StandsFor total amounts shared → length (amounts ++ shared.pending) < 2 ^ 64
    → All IsIncrement (amounts ++ shared.pending) → IsIncrement amount → HasRoom shared amount
