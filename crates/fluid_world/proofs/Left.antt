-- The store behind the last container.
use Rattle.std.proofs.Common.{◌≡◌, ℕ, ◌+◌, Bool, true, false, if◌then◌else◌, List, [], ◌∷◌, ◌++◌, Some, None, refl, sym, subst}
use Rattle.std.specs.FinMap.{insert}
use Rattle.fluid_rules.specs.declared.limits.Limits.{Limits}
use Rattle.fluid_voice.specs.declared.refusals.ConnectRefusal.TheVariants.{TooManyDocuments}
use Rattle.fluid_voice.specs.Ends.{is_beyond}
use Rattle.fluid_transcript.specs.World.{World, document, is_open, with_entries, farewells, says, does}
use Rattle.fluid_transcript.specs.Lines.{turned_away_line}
use Rattle.fluid_transcript.specs.Transcript.{readied, at_line, end_effect, loaded_last}
use Rattle.fluid_holding.specs.Holding.{HoldsOwn}

-- a load leaves the store
readied_store : (w : World) (name : List ℕ) → (readied w name).store ≡ w.store
readied_store w name = by (is_open w name)
  where
    by : (b : Bool)
        → (if b then w else (record w {
          documents = insert w.documents name (with_entries (farewells w.moment (document w name)) (document w name));
          opened = w.opened ++ name ∷ [];
        })).store ≡ w.store
    by true = refl
    by false = refl

pub last_store : (limits : Limits) (w : World) (name : List ℕ) → HoldsOwn w.store → HoldsOwn (loaded_last limits w name).world.store
last_store limits w name owned = by (is_beyond w.opened name)
  where
    by : (b : Bool) → HoldsOwn (if b then does (says (at_line w) (turned_away_line name TooManyDocuments ∷ [])) None (at_line w)
        else does (end_effect limits (readied (at_line w) name) name) (Some name) (readied (at_line w) name)).world.store
    by true = owned
    by false = subst HoldsOwn (sym (readied_store (at_line w) name)) owned

-- and it is a line later
readied_moment : (w : World) (name : List ℕ) → (readied w name).moment ≡ w.moment
readied_moment w name = by (is_open w name)
  where
    by : (b : Bool)
        → (if b then w else (record w {
          documents = insert w.documents name (with_entries (farewells w.moment (document w name)) (document w name));
          opened = w.opened ++ name ∷ [];
        })).moment ≡ w.moment
    by true = refl
    by false = refl

pub last_moment : (limits : Limits) (w : World) (name : List ℕ) → (loaded_last limits w name).world.moment ≡ w.moment + 1
last_moment limits w name = by (is_beyond w.opened name)
  where
    by : (b : Bool) → (if b then does (says (at_line w) (turned_away_line name TooManyDocuments ∷ [])) None (at_line w)
        else does (end_effect limits (readied (at_line w) name) name) (Some name) (readied (at_line w) name)).world.moment ≡ w.moment + 1
    by true = refl
    by false = readied_moment (at_line w) name
