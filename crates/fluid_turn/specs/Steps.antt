-- What each step on the table tells the seat that makes it. A seat is its view with the slots that it has taken: m before the
-- step, and w after it. n is the number that the word had; where it is stored, the number stored.
use Rattle.std.specs.Prelude.{◌≡◌, ◌≢◌, ℕ, Option, Some, None, List, [], ◌∷◌, ◌++◌, map}
use Rattle.atomic_table.specs.Table.{Me, Step}
use Rattle.fluid_turn.specs.declared.view.Numbered.{Numbered}
use Rattle.fluid_turn.specs.declared.view.View.{View}
use Rattle.fluid_turn.specs.declared.view.Stage.TheVariants.{Opening, Idle, Waiting, Holding}
use Rattle.fluid_turn.specs.Entries.{IsPrefix, by_seat, of_nobody, entries, made_by}
use Rattle.fluid_turn.specs.Seats.{IsHistory}
use Rattle.fluid_turn.specs.Rule.{EachPrefix}

module _ {E : Type 0} where
  -- the view of the seat that makes the turn
  abbrev pub opening_view : View E
  opening_view = record { seen = []; mine = []; stage = Opening; all = []; told = [] }

  -- a seat with no ticket and no entries, which has seen this list
  abbrev pub newcomer : List (Numbered E) → View E
  newcomer l = record { seen = l; mine = []; stage = Idle; all = []; told = [] }

  abbrev pub waiting : ℕ → View E → View E
  waiting n v = record v { stage = Waiting n }

  -- the seat with the ticket that was drawn, where one was
  abbrev pub drawing : {T : Type 0} → Option ℕ → Me (Option T) (View E) → Me (Option T) (View E)
  drawing (Some n) m = (waiting n m.0, m.1)
  drawing None m = m

  abbrev pub holding : ℕ → List (Numbered E) → View E → View E
  holding n l v = record v { stage = Holding n; all = l }

  abbrev pub idle : View E → View E
  idle v = record v { stage = Idle; all = [] }

  -- the seat has seen this list
  abbrev pub noting : List (Numbered E) → View E → View E
  noting l v = record v { seen = l; told = [] }

  -- the seat of this number, in its turn, has entered these
  abbrev pub adding : ℕ → List E → View E → View E
  adding number es v =
      let list = v.all ++ map (by_seat number) es in record v { seen = list; mine = v.mine ++ es; all = list }

  -- the seat was told what another has seen
  abbrev pub told_of : View E → View E → View E
  told_of v other = record v { told = other.seen ∷ v.told }

  -- What a note teaches the seat of this number: its own entries are those of the list that bear it, and in its turn the list is
  -- the whole one
  abbrev pub IsNews : ℕ → View E → List (Numbered E) → Type 0
  IsNews number v l =
      IsPrefix v.seen l × EachPrefix v.told l
      × (v.mine ≡ made_by number l)
      × ((n : ℕ) → v.stage ≡ Holding n → l ≡ v.all)

module _ {T E : Type 0} where
  -- the seat has the value and the whole list, which begins with what it had seen
  abbrev pub HasValue : (T → List E → Type 0) → ℕ → View E → Me (Option T) (View E) → Type 0
  HasValue stands ticket v w =
      (x : T) × (l : List (Numbered E)) × (w ≡ (holding ticket l v, (0, Some x) ∷ [])) × stands x (entries l) × IsPrefix v.seen l

  -- the seat has noted the turn's list
  abbrev pub HasNews : (T → List E → Type 0) → List E → ℕ → Me (Option T) (View E) → Me (Option T) (View E) → Type 0
  HasNews stands began number m w =
      (l : List (Numbered E)) × (w ≡ (noting l m.0, m.1)) × IsNews number m.0 l × IsHistory stands began l

  -- the seat is new
  abbrev pub HasArrived : (T → List E → Type 0) → List E → Me (Option T) (View E) → Type 0
  HasArrived stands began w = (l : List (Numbered E)) × (w ≡ (newcomer l, [])) × IsHistory stands began l

  -- the seat that makes the turn has seen the list with which it begins, and has the slot, which is empty
  abbrev pub HasBegun : List E → Me (Option T) (View E) → Type 0
  HasBegun began w = w ≡ (holding 0 (of_nobody began) (newcomer (of_nobody began)), (0, None) ∷ [])

  -- what a step tells of a value and its list follows from what the rule keeps of them
  abbrev pub Follows : (T → List E → Type 0) → (T → List E → Type 0) → Type 0
  Follows kept tells = (x : T) (l : List E) → kept x l → tells x l

module _ {T E : Type 0} where
  -- the ticket n is the seat's, where the word was still that number
  abbrev pub drew : Step (Option T) → Me (Option T) (View E) → ℕ → Me (Option T) (View E) → Type 0
  drew st m n w = (n ≡ st.first → w ≡ (waiting n m.0, m.1)) × (n ≢ st.first → w ≡ m)

  -- where its ticket is served, the seat has the value, and the list for which it stands
  abbrev pub looked : (T → List E → Type 0) → Step (Option T) → Me (Option T) (View E) → ℕ → Me (Option T) (View E) → Type 0
  looked stands st m n w =
      (m.0.stage ≡ Waiting n → HasValue stands n m.0 w)
      × ((t : ℕ) → m.0.stage ≡ Waiting t → n ≢ t → w ≡ m)

  -- the seat has seen the list, which begins with all that it had seen and was told of
  abbrev pub noticed : (T → List E → Type 0) → List E → ℕ → Step (Option T) → Me (Option T) (View E) → ℕ → Me (Option T) (View E) → Type 0
  noticed stands began number st m n w = HasNews stands began number m w

  abbrev pub added : ℕ → List E → Step (Option T) → Me (Option T) (View E) → ℕ → Me (Option T) (View E) → Type 0
  added number es st m n w = w ≡ (adding number es m.0, m.1)

  abbrev pub passed : Step (Option T) → Me (Option T) (View E) → ℕ → Me (Option T) (View E) → Type 0
  passed st m n w = w ≡ (idle m.0, [])

  -- the seat is as it was
  abbrev pub rang : Step (Option T) → Me (Option T) (View E) → ℕ → Me (Option T) (View E) → Type 0
  rang st m n w = w ≡ m

  -- the seat's own entries are those that bear its number
  abbrev pub recalled : ℕ → Step (Option T) → Me (Option T) (View E) → ℕ → Me (Option T) (View E) → Type 0
  recalled number st m n w = (w ≡ m) × (m.0.mine ≡ made_by number m.0.seen)

  abbrev pub arrived : (T → List E → Type 0) → List E → Step (Option T) → Me (Option T) (View E) → ℕ → Me (Option T) (View E) → Type 0
  arrived stands began st m n w = HasArrived stands began w

  abbrev pub started : List E → Step (Option T) → Me (Option T) (View E) → ℕ → Me (Option T) (View E) → Type 0
  started began st m n w = HasBegun began w
