-- Objects that are put without a clash are held.
use Rattle.std.proofs.Common.{◌≡◌, ℕ, Bool, true, false, cond, List, [], ◌∷◌, Option, Some, None, bytes_eq, refl, ap, ◌∙◌}
use Rattle.std.specs.FinMap.{get, insert}
use Rattle.std.proofs.lemmas.Slice.Eq.{bytes_eq-Decides}
use Rattle.fluid_table.proofs.Places.{get_inserted}
use Rattle.fluid_store.specs.Held.{Held, Keeps}
use Rattle.fluid_store.specs.Keeping.{Holds}
use Rattle.fluid_store.specs.Putting.{Putting, behind, put_first, putting}
use Rattle.fluid_store.specs.declared.listing.StoredObject.{StoredObject}
use Rattle.fluid_transcript.proofs.Fitting.{putting_keeps}

inserted : (held : Held) (id bytes : List ℕ) → get (insert held id bytes) id ≡ Some bytes
inserted held id bytes = get_inserted held id bytes id ∙ ap (λ b. cond b (Some bytes) (get held id)) ((bytes_eq-Decides id id).1 refl)

module _ (held : Held) (o : StoredObject) (os : List StoredObject) (later : Putting) (keeps : Keeps (insert held o.id o.bytes) later.held) (rest : later.clash ≡ None → Holds later.held os) where
  abbrev stopped : List ℕ → Putting
  stopped kept = record { held = held; put = []; clash = Some (record { id = o.id; kept = kept; bytes = o.bytes }) }

  all : later.clash ≡ None → Holds later.held (o ∷ os)
  all none = (keeps o.id o.bytes (inserted held o.id o.bytes), rest none)

  by_kept : (b : Bool) (kept : List ℕ) → (cond b (behind o later) (stopped kept)).clash ≡ None → Holds (cond b (behind o later) (stopped kept)).held (o ∷ os)
  by_kept true kept none = all none
  by_kept false kept none = absurd (cc)

  first_holds : (found : Option (List ℕ)) → (put_first held o found later).clash ≡ None → Holds (put_first held o found later).held (o ∷ os)
  first_holds None none = all none
  first_holds (Some kept) none = by_kept (bytes_eq kept o.bytes) kept none

pub putting_holds : (held : Held) (os : List StoredObject) → (putting held os).clash ≡ None → Holds (putting held os).held os
putting_holds held [] none = tt
putting_holds held (o ∷ os) none =
    first_holds held o os (putting (insert held o.id o.bytes) os) (putting_keeps (insert held o.id o.bytes) os) (putting_holds (insert held o.id o.bytes) os) (get held o.id) none
