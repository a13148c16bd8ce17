-- The turn's rule, over the words ticket, serving and count, the slot of the value, and the views of all seats.
use Rattle.std.specs.Prelude.{◌≡◌, ◌⊎◌, ℕ, ◌+◌, ◌<◌, ◌≤◌, Option, Some, None, List, [], ◌∷◌, length}
use mathlib.Core.Option.{some}
use lib.ListN.{get_elem?}
use Rattle.atomic_table.specs.Table.{State}
use Rattle.atomic_table.specs.Seated.{TableId}
use Rattle.fluid_turn.specs.declared.view.Numbered.{Numbered}
use Rattle.fluid_turn.specs.declared.view.View.{View}
use Rattle.fluid_turn.specs.declared.view.Stage.{Stage}
use Rattle.fluid_turn.specs.declared.view.Stage.TheVariants.{Opening, Idle, Waiting, Holding}
use Rattle.fluid_turn.specs.Entries.{IsPrefix, IsSigned, of_nobody, entries, made_by}
use Rattle.fluid_turn.specs.Seats.{Stood}

-- What the slots hold: each a place for a value, empty or not, or out with a seat
abbrev pub Homes : Type 0 → Type 0
Homes T = List (mathlib.Core.Option.Option (Option T))

-- the ticket that a seat has out. Who makes the turn has the first
abbrev pub ticket_of : Stage → Option ℕ
ticket_of Opening = Some 0
ticket_of Idle = None
ticket_of (Waiting n) = Some n
ticket_of (Holding n) = Some n

abbrev pub tickets : Stage → ℕ
tickets Opening = 1
tickets Idle = 0
tickets (Waiting n) = 1
tickets (Holding n) = 1

-- the seat has the turn
abbrev pub InHand : Stage → Type 0
InHand Opening = Unit {0}
InHand Idle = ⊥
InHand (Waiting n) = ⊥
InHand (Holding n) = Unit {0}

module _ {E : Type 0} where
  -- the tickets out, of all views
  abbrev pub tickets_out : List (View E) → ℕ
  tickets_out [] = 0
  tickets_out (v ∷ vs) = tickets v.stage + tickets_out vs

  -- the seat of this number has this ticket out
  abbrev pub HasTicket : List (View E) → ℕ → ℕ → Type 0
  HasTicket views by n = (v : View E) × (get_elem? views by ≡ some v) × (ticket_of v.stage ≡ Some n)

  -- each of the lists is a prefix
  abbrev pub EachPrefix : List (List (Numbered E)) → List (Numbered E) → Type 0
  EachPrefix [] l = Unit {0}
  EachPrefix (x ∷ xs) l = IsPrefix x l × EachPrefix xs l

module _ {T E : Type 0} (stands : T → List E → Type 0) (began : List E) where
  -- What a seat's stage says. A ticket out is at least the one that is served. Who has the turn has the served one and
  -- the whole list; who makes the turn finds the slot empty, and the list is the one with which it begins
  abbrev pub Knows : ℕ → ℕ → Homes T → List (Numbered E) → List (Numbered E) → Stage → Type 0
  Knows ticket serving homes log all Opening =
      (serving ≡ 0) × (0 < ticket) × (get_elem? homes 0 ≡ some (some None)) × (log ≡ of_nobody began)
  Knows ticket serving homes log all Idle = Unit {0}
  Knows ticket serving homes log all (Waiting n) = (serving ≤ n) × (n < ticket)
  Knows ticket serving homes log all (Holding n) = (n ≡ serving) × (serving < ticket) × (all ≡ log)

  -- What a seat has seen and was told of is how the list began. Its own entries are all that bear its number, and it
  -- has seen them
  pub record Fits (ticket serving : ℕ) (homes : Homes T) (log : List (Numbered E)) (by : ℕ) (v : View E) : Type 0 where
    pub saw : IsPrefix v.seen log
    pub told : EachPrefix v.told log
    pub own : v.mine ≡ made_by by log
    pub own_seen : v.mine ≡ made_by by v.seen
    pub knows : Knows ticket serving homes log v.all v.stage

  -- the value is at home and stands for the list, or a seat has it
  abbrev pub Placed : Homes T → List (Numbered E) → List (View E) → Type 0
  Placed homes log views =
      ((x : T) × (get_elem? homes 0 ≡ some (some (Some x))) × stands x (entries log))
      ⊎ ((by : ℕ) × (v : View E) × (get_elem? views by ≡ some v) × InHand v.stage)

  -- The words are how many tickets were drawn, which one is served, and how many entries the list has. The others, by
  -- which waiters sleep and are woken, mean nothing
  pub record Kept (s : State (Option T) (View E)) : Type 0 where
    pub ticket : ℕ
    pub serving : ℕ
    pub log : List (Numbered E)
    pub bays : List ℕ
    pub words : s.words ≡ ticket ∷ serving ∷ length log ∷ bays
    -- as many tickets were drawn as were served and are out, and those out differ
    pub counted : serving + tickets_out s.views ≡ ticket
    pub apart : (i j n : ℕ) → HasTicket s.views i n → HasTicket s.views j n → i ≡ j
    pub stood : Stood stands log
    pub placed : Placed s.homes log s.views
    pub fits : (by : ℕ) (v : View E) → get_elem? s.views by ≡ some v → Fits ticket serving s.homes log by v
    -- the turn began with an entry, or it bears the number of one seat, where seats that have ended count as well
    pub signed : IsSigned began (length s.views) log

-- the table has the three words, the 66 by which waiters are woken, and the one slot
abbrev pub IsTurnTable : TableId → Type 0
IsTurnTable id = (id.words ≡ 69) × (id.slots ≡ 1)

-- a seat of the turn's table
abbrev pub IsAtTable : TableId → TableId → Type 0
IsAtTable table seat = IsTurnTable table × (seat ≡ table)
