-- A restart over a keeper that is kept for the lane's ledger comes back to what the lane had, and refuses nothing.
use Rattle.std.proofs.Common.{◌≡◌, ℕ, ◌<◌, false, List, Some, Result, Ok, Err, sym, ap, ◌∙◌, arith, inl, inr, refl}
use Rattle.std.specs.FinMap.{keys}
use Rattle.fluid_io.specs.Causes.{Tells}
use Rattle.fluid_log.specs.Keeping.{Content, Keeping, HasLengths, IsSized}
use Rattle.fluid_types.specs.Ledger.{Ledger}
use Rattle.fluid_lane.proofs.Flushing.{kept_for}
use Rattle.fluid_deltas.proofs.Telling.{tells_both}
use Rattle.fluid_document.specs.declared.fault.LoadFault.{LoadFault}
use Rattle.fluid_document.specs.declared.fault.LoadFault.TheVariants as loading
use Rattle.fluid_document.specs.Entries.{Entries, entries_of}
use Rattle.fluid_document.specs.Loading.{loaded}
use Rattle.fluid_document.specs.Kept.{IsKept}
use Rattle.fluid_document.specs.Laws.{CheckpointIsLoaded}
use Rattle.fluid_lane.specs.declared.fault.LaneFault.{LaneFault}
use Rattle.fluid_lane.specs.declared.fault.LaneFault.TheVariants.{BadRecord, BadCheckpoint}
use Rattle.fluid_lane.specs.declared.steps.Step.{Step}
use Rattle.fluid_lane.specs.Steps.{ledger}
use Rattle.fluid_lane.specs.Standing.{Standing, IsTold, LaneStands}
use Rattle.fluid_lane.specs.Restarts.{RefusesRestart, IsNotBad}

pub same_ok : (e f : Entries) (r : Result Entries LoadFault) → r ≡ Ok e → r ≡ Ok f → e ≡ f
same_ok e f r a b = cc

pub never_err : (e : Entries) (fault : LoadFault) (r : Result Entries LoadFault) → r ≡ Ok e → r ≡ Err fault → ⊥
never_err e fault r a b = cc

-- of a keeper that is kept for a ledger its entries are read
kept_loads : CheckpointIsLoaded → (k : Keeping) (l : Ledger) (number : ℕ) → IsSized k → number < k.checkpoints → Tells k.content (IsKept false l) → Tells k.content (λ c. loaded c (Some number) ≡ Ok (entries_of l))
kept_loads law k l number sized lt kept =
    tells_both k.content (HasLengths k) (IsKept false l) (λ c. loaded c (Some number) ≡ Ok (entries_of l)) (λ c lengths is. law l c number is (omega (arith, lt, lengths.checkpoints))) sized kept

-- what was read is what the lane had
pub restart_same : CheckpointIsLoaded → (s : Standing) (l : List Step) (number : ℕ) (e : Entries) → IsSized s.keeping → s.owed ≡ false → number < s.keeping.checkpoints → LaneStands s l → Tells s.keeping.content (λ content. loaded content (Some number) ≡ Ok e)
    → Tells s.keeping.content (λ _. e ≡ entries_of (ledger l))
restart_same law s l number e sized level lt stands loads =
    tells_both s.keeping.content (λ c. loaded c (Some number) ≡ Ok e) (λ c. loaded c (Some number) ≡ Ok (entries_of (ledger l))) (λ _. e ≡ entries_of (ledger l)) (λ c is known. same_ok e (entries_of (ledger l)) (loaded c (Some number)) is known)
    loads (kept_loads law s.keeping (ledger l) number sized lt (kept_for s s l refl level stands))

never_bad : (old e : Entries) (number : ℕ) (c : Content) (fault : LaneFault) → old ≡ e → loaded c (Some number) ≡ Ok e → RefusesRestart number old c fault → IsNotBad fault
never_bad old e number c (BadRecord place) said loads refuses = never_err e (loading.BadRecord place) (loaded c (Some number)) loads refuses
never_bad old e number c (BadCheckpoint bad fault) said loads (inl err) = never_err e (loading.BadCheckpoint bad fault) (loaded c (Some number)) loads err
never_bad old e number c (BadCheckpoint bad fault) said loads (inr has) = has.others (ap (λ f. keys f.state.sequencer.rows) (same_ok has.entries e (loaded c (Some number)) has.is loads ∙ sym said))
never_bad old e number c other said loads refuses = tt

pub restart_never : CheckpointIsLoaded → (s : Standing) (l : List Step) (number : ℕ) (fault : LaneFault) → IsSized s.keeping → s.owed ≡ false → number < s.keeping.checkpoints → LaneStands s l
    → Tells s.keeping.content (λ content. RefusesRestart number s.entries content fault) → Tells s.keeping.content (λ _. IsNotBad fault)
restart_never law s l number fault sized level lt stands refuses =
    tells_both s.keeping.content (λ c. IsTold s l c × RefusesRestart number s.entries c fault) (λ c. loaded c (Some number) ≡ Ok (entries_of (ledger l))) (λ _. IsNotBad fault)
    (λ c both loads. never_bad s.entries (entries_of (ledger l)) number c fault both.0.stands.entries loads both.1)
    (tells_both s.keeping.content (IsTold s l) (λ c. RefusesRestart number s.entries c fault) _ (λ c told bad. (told, bad)) stands.told refuses) (kept_loads law s.keeping (ledger l) number sized lt (kept_for s s l refl level stands))
