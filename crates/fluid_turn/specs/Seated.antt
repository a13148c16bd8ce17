-- What a seat's view says of it, between its turns and in its turn.
use Rattle.std.specs.Prelude.{◌≡◌, ◌<◌, ℕ, Option, None, List, [], ◌∷◌}
use Rattle.atomic_table.specs.Table.{Me}
use Rattle.fluid_turn.specs.declared.view.View.{View}
use Rattle.fluid_turn.specs.declared.view.Stage.TheVariants.{Idle, Holding}
use Rattle.fluid_turn.specs.Entries.{IsPrefix, made_by}
use Rattle.fluid_turn.specs.Seats.{Turning, Known, InTurn, IsHistory}

abbrev pub known_of : {E F : Type 0} → Turning E F → ℕ → View E → Known E F
known_of turn number v = record { turn = turn; number = number; seen = v.seen; mine = v.mine }

abbrev pub in_turn_of : {E F : Type 0} → Turning E F → ℕ → View E → InTurn E F
in_turn_of turn number v = record { seat = known_of turn number v; list = v.all }

module _ {T E : Type 0} (stands : T → List E → Type 0) (began : List E) where
  -- a seat between its turns
  pub record IsSeated (number : ℕ) (m : Me (Option T) (View E)) : Type 0 where
    pub between : m.0.stage ≡ Idle
    pub empty : m.1 ≡ []
    pub own : m.0.mine ≡ made_by number m.0.seen
    pub history : IsHistory stands began m.0.seen

  -- a seat in its turn, with the slot of the value
  pub record IsHolding (number ticket : ℕ) (m : Me (Option T) (View E)) : Type 0 where
    pub holds : m.0.stage ≡ Holding ticket
    pub below : ticket < 18446744073709551615
    pub slot : m.1 ≡ (0, None) ∷ []
    pub own : m.0.mine ≡ made_by number m.0.seen
    pub history : IsHistory stands began m.0.seen
    pub saw : IsPrefix m.0.seen m.0.all
