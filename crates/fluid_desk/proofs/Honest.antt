-- How a step may end over a desk that stands for a world.
use Rattle.std.proofs.Common.{◌≡◌, ℕ, ◌+◌, ◌≤◌, arith, Bool, true, false, cond, List, [], length, Option, Some, bytes_eq, refl, sym, ap, subst, ◌∙◌, length-append}
use Rattle.std.specs.Option.{option_map_or}
use Rattle.std.proofs.lemmas.Bool.{leb-true}
use Rattle.std.proofs.lemmas.List.{length-map}
use Rattle.std.proofs.lemmas.Slice.Eq.{bytes_eq-Decides}
use Rattle.fluid_table.proofs.Places.{get_own}
use Rattle.fluid_types.specs.declared.entries.Raw.{Raw}
use Rattle.fluid_types.specs.Ledger.{raws}
use Rattle.fluid_rules.specs.Rules.{ledger as ledger_by_rules}
use Rattle.fluid_rules.specs.declared.limits.Limits.{Limits}
use Rattle.fluid_rules.proofs.Legal.{ledger-raws}
use Rattle.fluid_types.specs.Forms.{largest}
use Rattle.fluid_lane.specs.declared.fault.LaneFault.TheVariants as lane
use Rattle.fluid_lane.specs.Standing.{Standing, is_worn}
use Rattle.fluid_lanes.specs.Opened.{Opened, with_lane}
use Rattle.fluid_transcript.specs.World.{Document, World, Effect, document, grown, changed}
use Rattle.fluid_desk.specs.declared.stop.Stop.{Stop}
use Rattle.fluid_desk.specs.declared.stop.Stop.TheVariants.{KeeperFault, StoreFault, BadStored, NoMemory}
use Rattle.fluid_desk.specs.declared.stop.StoredFault.TheVariants.{Lane, Delta, Object}
use Rattle.fluid_desk.specs.Stands.{IsLaneOf}
use Rattle.fluid_desk.specs.Stopping.{IsHonest, steps_on, steps_in, MayStop}
use Rattle.fluid_desk.proofs.Laned.{says as lane_of}
use Rattle.fluid_desk.proofs.Desks.{document_at}

-- ---- on a lane

-- the entries of a document, each with its verdict, are as many
pub length_ledger : (rs : List Raw) → length (ledger_by_rules rs) ≡ length rs
unfolding raws
length_ledger rs = sym (length-map (ledger_by_rules rs) (λ entry. entry.0)) ∙ ap length (ledger-raws rs)

-- so may it with more steps
pub honest_more : (n m : ℕ) (stop : Stop) → n ≤ m → IsHonest n stop → IsHonest m stop
honest_more n m (KeeperFault note) le h = tt
honest_more n m (StoreFault note) le h = tt
honest_more n m (BadStored (Delta number)) le h = absurd h
honest_more n m (BadStored (Object fault)) le h = absurd h
honest_more n m (BadStored (Lane lane.Worn)) le h = omega (arith, le, h)
honest_more n m (BadStored (Lane (lane.LogFailed note))) le h = absurd h
honest_more n m (BadStored (Lane (lane.Full entries))) le h = absurd h
honest_more n m (BadStored (Lane (lane.BadRecord place))) le h = absurd h
honest_more n m (BadStored (Lane (lane.NoCheckpoint asked stored))) le h = absurd h
honest_more n m (BadStored (Lane lane.CheckpointsFull)) le h = absurd h
honest_more n m (BadStored (Lane lane.TooManyClients)) le h = absurd h
honest_more n m (BadStored (Lane (lane.DeltaFailed note))) le h = absurd h
honest_more n m (BadStored (Lane lane.NoMemory)) le h = absurd h
honest_more n m (BadStored (Lane (lane.BadCheckpoint number fault))) le h = absurd h
honest_more n m (BadStored (Lane (lane.TooLarge bytes))) le h = absurd h
honest_more n m NoMemory le h = tt

-- a worn lane has come to the end
pub worn_steps : (limits : Limits) (s : Standing) (d : Document) → IsLaneOf limits s d → is_worn s ≡ true → largest ≤ steps_on d s + 1
worn_steps limits s d of worn =
    omega (arith, leb-true largest (s.entries.entered + s.sides) worn, (lane_of limits s d of).entered, length_ledger d.raws)

pub grown_steps : (e : Effect) (d : Document) (s : Standing) → steps_on d s ≤ steps_on (grown e d) s
grown_steps e d s = omega (arith, length-append d.raws e.entries)

-- and stays as it was
pub worn_same : (limits : Limits) (old new : Standing) (d : Document) → IsLaneOf limits old d → (is_worn old ≡ true) × (new ≡ old) → largest ≤ steps_on d new + 1
worn_same limits old new d of is = subst (λ s. largest ≤ steps_on d s + 1) (sym is.1) (worn_steps limits old d of is.0)

pub worn_grown : (limits : Limits) (old new : Standing) (e : Effect) (d : Document) → IsLaneOf limits old d → (is_worn old ≡ true) × (new ≡ old) → largest ≤ steps_on (grown e d) new + 1
worn_grown limits old new e d of is = omega (arith, worn_same limits old new d of is, grown_steps e d new)

-- ---- on a desk

-- want of memory is no matter of a document
pub may_want : (w : World) (o : Opened) (stop : Stop) → stop ≡ NoMemory → MayStop w o stop
may_want w o stop is = ([], subst (IsHonest (steps_in w o [])) (sym is) tt)

-- a lane that was lent
pub may_lent : (w : World) (o : Opened) (name : List ℕ) (s : Standing) (stop : Stop) → IsHonest (steps_on (document w name) s) stop → MayStop w (with_lane o name s) stop
may_lent w o name s stop h =
    (name, subst (λ (l : Option Standing). IsHonest (length (document w name).raws + option_map_or (λ (s : Standing). s.sides) l 0) stop) (sym (get_own o.lanes name s)) h)

-- its document is the grown one then
pub grown_there : (w : World) (name : List ℕ) (e : Effect) → document (changed e (Some name) w) name ≡ grown e (document w name)
grown_there w name e = document_at w.documents name (grown e (document w name)) name ∙ ap (λ b. cond b (grown e (document w name)) (document w name)) ((bytes_eq-Decides name name).1 refl)

pub may_act : (w : World) (o : Opened) (name : List ℕ) (s : Standing) (e : Effect) (stop : Stop) → IsHonest (steps_on (grown e (document w name)) s) stop → MayStop (changed e (Some name) w) (with_lane o name s) stop
may_act w o name s e stop h = may_lent (changed e (Some name) w) o name s stop (subst (λ (d : Document). IsHonest (steps_on d s) stop) (sym (grown_there w name e)) h)

-- a document that grows
pub may_more : (w : World) (o : Opened) (e : Effect) (name : List ℕ) (stop : Stop) → MayStop w o stop → MayStop (changed e (Some name) w) o stop
may_more w o e name stop (q, h) =
    (q, honest_more (steps_in w o q) (steps_in (changed e (Some name) w) o q) stop (more (bytes_eq q name) refl) h)
  where
    at : (b : Bool) → bytes_eq q name ≡ b → document (changed e (Some name) w) q ≡ cond b (grown e (document w name)) (document w q)
    at b is = document_at w.documents name (grown e (document w name)) q ∙ ap (λ b. cond b (grown e (document w name)) (document w q)) is

    more : (b : Bool) → bytes_eq q name ≡ b → steps_in w o q ≤ steps_in (changed e (Some name) w) o q
    more true is =
        omega (arith, ap (λ (d : Document). length d.raws) (at true is), ap (λ q. length (document w q).raws) ((bytes_eq-Decides q name).0 is), length-append (document w name).raws e.entries)
    more false is = omega (arith, ap (λ (d : Document). length d.raws) (at false is))
