-- The acts of a workload.
use Rattle.std.specs.Prelude.{ℕ, zero, suc, ◌+◌, ◌-ℤ◌, pos, ◌%◌, ◌==◌, nat_lt, List, [], ◌∷◌, ◌++◌, if◌then◌else◌}
use Rattle.fluid_gen.specs.Drawing.{draw, number_in, state_after}
use Rattle.fluid_gen.specs.declared.act.Act.{Act}
use Rattle.fluid_gen.specs.declared.act.Act.TheVariants.{Begin, Join, Collect, Noop, Again, Gap, Set, Delete, Increment, Round, Finish}

-- so many clients from this one on join; before the next one does, each collects and submits a noop
abbrev pub joins : (client count : ℕ) → List Act
joins client zero = []
joins client (suc count) = Join client ∷ Collect client ∷ Noop client ∷ joins (client + 1) count

-- what a client does in a turn, and how many draws decided it
pub record Choice : Type 0 where
  pub client : ℕ
  pub act : Act
  pub draws : ℕ

-- a client's edit, by the second draw: in two of four cases it sets one of 50 keys to a number below 1,000, in one it deletes
-- such a key, and in one it adds to the counter a number from -1,000 to 1,000
abbrev pub edit : (client x : ℕ) → Choice
edit client x =
    if nat_lt (draw 2 4 x) 2 then record { client = client; act = Set client (draw 3 50 x) (draw 4 1000 x); draws = 4 }
    else (if draw 2 4 x == 2 then record { client = client; act = Delete client (draw 3 50 x); draws = 3 }
    else record { client = client; act = Increment client (pos (draw 3 2001 x) -ℤ pos 1000); draws = 3 })

-- the first draw says which client it is. In each tenth turn it submits again, in the 99th of each hundred it leaves a gap, and
-- else it edits
abbrev pub choice : (clients turn x : ℕ) → Choice
choice clients turn x = let client = draw 1 clients x in
    if turn % 10 == 0 then record { client = client; act = Again client; draws = 1 }
    else (if turn % 100 == 99 then record { client = client; act = Gap client; draws = 1 } else edit client x)

-- the draw behind those, which leaves the state y, says whether the client collects then
abbrev pub collects : (client y : ℕ) → List Act
collects client y = if number_in y 2 == 0 then Collect client ∷ [] else []

-- each thousandth turn ends with a round
abbrev pub rounds : (turn : ℕ) → List Act
rounds turn = if turn % 1000 == 0 then Round ∷ [] else []

-- so many turns from this one on, drawn from a state
abbrev pub turns : (clients turn count x : ℕ) → List Act
turns clients turn zero x = []
turns clients turn (suc count) x = let c = choice clients turn x in let y = state_after (suc c.draws) x in
    c.act ∷ (collects c.client y ++ (rounds turn ++ turns clients (turn + 1) count y))

-- the acts of a workload: it begins, the clients join, so many ops are submitted, and it finishes
abbrev pub acts : (number clients ops : ℕ) → List Act
acts number clients ops = Begin ∷ (joins 0 clients ++ (turns clients 1 ops number ++ Finish ∷ []))
