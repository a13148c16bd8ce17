-- Where a reading begins.
use Rattle.std.proofs.Common.{◌≡◌, ◌⊎◌, ◌-◌, ◌<◌, ◌≤◌, ℕ, false, List, [], ◌++◌, length, take, drop, arith, ◌∙◌, All, Option, Some, None, Result, Ok, Err, refl, sym, ap, subst, ⊎_elim, rules, length-append}
use Rattle.std.specs.Prelude.{codes}
use Rattle.std.proofs.lemmas.Bool.{lt-leb}
use Rattle.std.proofs.Math.Seq.{take-append_seam}
use Rattle.fluid_io.specs.Causes.{Tells}
use Rattle.fluid_log.specs.Keeping.{Content}
use Rattle.fluid_deltas.proofs.Telling.{tells_from, tells_both}
use Rattle.fluid_checkpoint.specs.declared.state.State.{State as Checkpoint}
use Rattle.fluid_checkpoint.specs.declared.state.Form.{Form}
use Rattle.fluid_checkpoint.specs.declared.state.Form.TheVariants.{Two}
use Rattle.fluid_checkpoint.specs.declared.fault.CheckpointFault.TheVariants.{BadField}
use Rattle.fluid_readback.specs.Quorums.{QuorumsAreReadBack}
use Rattle.fluid_checkpoint.specs.Reading.{answer}
use Rattle.fluid_types.proofs.Ledgers.{order-append, seq-le_length}
use Rattle.fluid_document.specs.declared.fault.LoadFault.{LoadFault}
use Rattle.fluid_document.specs.declared.fault.LoadFault.TheVariants.{NoMemory, BadCheckpoint}
use Rattle.fluid_document.specs.Entries.{Entries, InMemory, nothing_entered, entries_of}
use Rattle.fluid_types.specs.declared.messages.Message.{Message}
use Rattle.fluid_types.specs.Ledger.{Ledger, order, seq}
use Rattle.fluid_types.specs.Order.{AreFirst}
use Rattle.fluid_deltas.specs.Pushed.{IsKeepable, ArePartOf}
use Rattle.fluid_scribe.proofs.Sequenced.{legal-sequenced, sequenced-numbered}
use Rattle.fluid_document.specs.Kept.{IsKept}
use Rattle.fluid_document.specs.Taking.{StandsAt, IsResumed}
use Rattle.fluid_document.proofs.Foldings.{entered-entries_of}
use Rattle.fluid_document.proofs.Orders.{order-keepable, seq-length}
use Rattle.fluid_document.proofs.Saying.{says_before, says_two, entries_back, sequence-entries_of}
use Rattle.fluid_document.proofs.Reloading.{nothing-entries_of, begun_two}
use Rattle.fluid_document.specs.Loading.{entries_in, entered_in, begun_from, begun, log_folded, folded_behind, loaded, SaysAs, IsSaid, IsBadAs, IsLoaded, HasRead, ReadsBehind}

pub begun_nothing : (content : Content) (f : Entries) → f ≡ nothing_entered → begun content None ≡ Ok f
unfolding begun
begun_nothing content f is = ap Ok (sym is)

-- a checkpoint that doesn't say anything is refused as it is read
pub begun_refused : (content : Content) (number : ℕ) (fault : LoadFault) → SaysAs content number (Err fault) → IsBadAs (begun content (Some number)) fault
unfolding begun
begun_refused content number (BadCheckpoint bad fault) is = rw (is.1.kept, is.1.said) (ap (λ n. Err (BadCheckpoint n fault)) (sym is.0))
begun_refused content number fault is = search rules

-- one of more entries than there are records is refused
pub begun_long : (content : Content) (number : ℕ) (form : Form) (fault : LoadFault) → IsSaid content number (Ok form) → length content.log < entered_in form
    → (fault ≡ NoMemory) ⊎ (fault ≡ BadCheckpoint number (BadField (codes "entered"))) → IsBadAs (begun content (Some number)) fault
unfolding begun
begun_long content number form fault is long answer =
    ⊎_elim (λ (none : fault ≡ NoMemory). rw none tt)
    (λ (bad : fault ≡ BadCheckpoint number (BadField (codes "entered"))). rw (bad, is.kept, is.said, lt-leb (entered_in form) (length content.log) long) refl)
    answer

-- one with a state begins with it
pub begun_with : {A : Type 0} (view : A → Entries) (result : Result A LoadFault) (content : Content) (number deltas : ℕ) (s : Checkpoint) → IsSaid content number (Ok (Two s)) → s.entered ≤ length content.log → deltas ≡ length content.deltas
    → IsLoaded view result (begun_from number deltas s) → IsLoaded view result (begun content (Some number))
begun_with view result content number deltas s is within same loaded =
    subst (IsLoaded view result) (ap (λ n. begun_from number n s) same ∙ sym (begun_two content number s is within)) loaded

-- all records behind the beginning were read
pub reads_behind : (told : Option Content) (from : Option ℕ) (f : Entries) (records mid_records before mid now : ℕ) → mid_records ≡ records → mid ≡ before
    → HasRead (mid_records - f.entered) mid now → Tells told (λ content. begun content from ≡ Ok f) → Tells told (ReadsBehind from records before now)
reads_behind told from f records mid_records before mid now same none reads begun_is =
    tells_from told (λ content. begun content from ≡ Ok f) (ReadsBehind from records before now)
    (λ content is. record { beginning = f; is = is; count = rw (sym same, sym none) reads }) begun_is

-- a fault of the records behind it is one of the whole
pub bad_behind : (told : Option Content) (from : Option ℕ) (f : Entries) (fault : LoadFault) → Tells told (λ content. begun content from ≡ Ok f) → Tells told (λ content. IsBadAs (log_folded f (drop f.entered content.log)) fault)
    → Tells told (λ content. IsBadAs (loaded content from) fault)
bad_behind told from f fault begun_is folded =
    tells_both told (λ content. begun content from ≡ Ok f) (λ content. IsBadAs (log_folded f (drop f.entered content.log)) fault) (λ content. IsBadAs (loaded content from) fault)
    (λ content is bad. subst (λ r. IsBadAs (folded_behind content.log r) fault) (sym is) bad) begun_is folded

-- ---- a keeper that is kept

-- behind the first entries, whose messages are all among the deltas and not in memory
stands_first : (l before behind : Ledger) (m : InMemory) (content : Content) → l ≡ before ++ behind → m.entries ≡ entries_of before → m.messages.before ≡ seq before → m.messages.held ≡ []
    → (AreFirst (order l) → All IsKeepable (order l) → ArePartOf m.messages (order l)) → seq before ≤ length content.deltas → IsKept false l content → StandsAt l m m.entries.entered content
stands_first l before behind m content splits entries number held part reached kept =
    let place : m.entries.entered ≡ length before = ap (λ e. e.entered) entries ∙ entered-entries_of before in
    let first : before ≡ take m.entries.entered l = sym (ap (λ n. take n l) place ∙ ap (take (length before)) splits ∙ take-append_seam before behind) in
    let keepable = order-keepable l kept.legal kept.loggable kept.few in
    record {
      kept = kept;
      stand = record { part = part (sequenced-numbered (order l) 0 0 (legal-sequenced l kept.legal)) keepable; deltas = kept.deltas; reached = omega (arith, number, reached) };
      entries = entries ∙ ap entries_of first;
      count = omega (arith, number, ap length held, ap seq first);
    }

-- the state of a checkpoint is that of the first entries
pub begins_with : QuorumsAreReadBack → (l : Ledger) (content : Content) (number : ℕ) (s : Checkpoint) (m : InMemory) → IsSaid content number (Ok (Two s)) → IsResumed s m → IsKept false l content → StandsAt l m m.entries.entered content
begins_with back l content number s m said resumed kept =
    let says = says_before back l content number said.text said.kept kept in
    let is = says_two _ _ _ says s said.said in
    let at = ap (λ (c : Checkpoint). c.sequencer.sequence) is ∙ sequence-entries_of says.before in
    let more : seq says.before ≤ length (order l) =
    omega (arith, seq-length says.before, ap (λ x. length (order x)) says.splits, ap length (order-append says.before says.behind), length-append (order says.before) (order says.behind)) in
    stands_first l says.before says.behind m content says.splits (resumed.entries ∙ ap entries_in is ∙ entries_back says.before says.legal (omega (arith, says.few, seq-le_length says.before))) (resumed.before ∙ at) resumed.held
    (resumed.part (order l) (omega (arith, at, more))) says.reached kept

seq-none : seq [] ≡ 0
unfolding seq order
seq-none = refl

-- behind no entries nothing is in memory
pub begins_kept : (l : Ledger) (m : InMemory) (content : Content) → m.entries ≡ nothing_entered → m.messages.before ≡ 0 → m.messages.held ≡ []
    → ((order : List Message) → AreFirst order → All IsKeepable order → ArePartOf m.messages order) → IsKept false l content → StandsAt l m m.entries.entered content
begins_kept l m content none before held part kept =
    stands_first l [] l m content refl (none ∙ nothing-entries_of) (before ∙ sym seq-none) held (part (order l)) (omega (arith, seq-none)) kept

pub entered-entries_in : (s : Checkpoint) → (entries_in s).entered ≡ s.entered
unfolding entries_in
entered-entries_in s = refl
