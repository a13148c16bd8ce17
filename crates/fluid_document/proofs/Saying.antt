-- What the text of a checkpoint says of what the entries made.
use Rattle.std.proofs.Common.{◌≡◌, ◌⊎◌, ◌-◌, ◌^◌, ◌≤◌, ℕ, min, false, List, ◌++◌, length, arith, ◌∙◌, All, Some, Result, Ok, Err, inl, inr, ap, subst, ⊎_elim, le-leb, length-append, slice_get}
use Rattle.std.specs.Prelude.{IfOk}
use Rattle.fluid_json.specs.declared.memory.NoMemory.{NoMemory}
use Rattle.std.proofs.Math.Seq.{take-append_seam, drop-append_seam}
use Rattle.std.proofs.lemmas.List.Elements.{All-take, All-drop}
use Rattle.fluid_types.specs.Ledger.{Ledger, seq}
use Rattle.fluid_types.proofs.Ledgers.{seq-le_length}
use Rattle.fluid_rules.specs.Rules.{IsLegal}
use Rattle.fluid_rules.proofs.Legal.{legal-first}
use Rattle.fluid_clients.specs.Table.{Parts}
use Rattle.fluid_quorum.specs.declared.state.ScribeState.{ScribeState}
use Rattle.fluid_ticket.specs.State as ticket
use Rattle.fluid_ticket.specs.State.{within_order}
use Rattle.fluid_ticket.specs.Ledger as tickets
use Rattle.fluid_ticket.proofs.Within.{sound-within, sound-legal, low-legal}
use Rattle.fluid_ticket.proofs.Ledgers.{sequence-state_of}
use Rattle.fluid_scribe.specs.Within.{within as scribe_within}
use Rattle.fluid_scribe.proofs.Within.{kept_within}
use Rattle.fluid_core.specs.Entering.{State, sequencer_of, within, state_of}
use Rattle.fluid_log.specs.Keeping.{Content}
use Rattle.fluid_checkpoint.specs.declared.fault.CheckpointFault.{CheckpointFault}
use Rattle.fluid_checkpoint.specs.declared.state.State.{State as Checkpoint}
use Rattle.fluid_checkpoint.specs.declared.state.Form.{Form}
use Rattle.fluid_checkpoint.specs.declared.state.Form.TheVariants.{One, Two}
use Rattle.fluid_checkpoint.specs.Heard.{Moments, moments_of}
use Rattle.fluid_checkpoint.specs.Text.{state_printed}
use Rattle.fluid_checkpoint.specs.Laws.{IsWritten}
use Rattle.fluid_checkpoint.proofs.Back.{read_back, first_read}
use Rattle.fluid_readback.specs.Quorums.{QuorumsAreReadBack}
use Rattle.fluid_checkpoint.specs.Reading.{answer}
use Rattle.fluid_types.specs.Forms.{largest}
use Rattle.fluid_document.specs.Entries.{Entries, entries_of}
use Rattle.fluid_document.specs.Kept.{IsLoggable, checkpoint_state, checkpoint_text, IsPrinted, IsOfFirst, IsCheckpointOf, IsKept}
use Rattle.fluid_document.specs.Loading.{entries_in, begun_from}
use Rattle.fluid_document.proofs.InForm.{in_form}
use Rattle.fluid_document.proofs.Foldings.{entered-entries_of}
use Rattle.fluid_document.proofs.Orders.{all-there}

-- ---- printing

-- what is handed to be printed is what a checkpoint keeps
pub state_is : (e : Entries) (p : Parts) (scribe : ScribeState) (heard : Moments) → sequencer_of p ≡ e.state.sequencer → scribe ≡ e.state.scribe → heard ≡ moments_of p.rows
    → ◌≡◌ {A = Checkpoint} (record { entered = e.entered; counted = e.counted; sequencer = p; scribe = scribe; heard = heard }) (checkpoint_state e)
state_is e p scribe heard sequencer_is scribe_is heard_is =
    let at : p ≡ (checkpoint_state e).sequencer = ap (λ (t : ticket.State). record { sequence = t.sequence; minimum = t.last_minimum; rows = t.rows }) sequencer_is in
    λ i. record { entered = e.entered; counted = e.counted; sequencer = at i; scribe = scribe_is i; heard = (heard_is ∙ ap (λ (q : Parts). moments_of q.rows) at) i }

pub printed_ok : (r : Result (List ℕ) NoMemory) (e : Entries) (s : Checkpoint) → s ≡ checkpoint_state e → IfOk r (λ bytes. bytes ≡ state_printed s) → IfOk r (λ _. IsWritten s) → IfOk r (IsPrinted e)
unfolding checkpoint_text
printed_ok (Ok bytes) e s same text written = record { text = text ∙ ap state_printed same; written = subst IsWritten same written }
printed_ok (Err fault) e s same text written = tt

-- ---- reading

-- the state of a ledger's checkpoint is what the ledger's entries made
pub entries_back : (l : Ledger) → IsLegal l → seq l ≤ 2 ^ 53 - 1 → entries_in (checkpoint_state (entries_of l)) ≡ entries_of l
unfolding entries_in entries_of state_of
entries_back l legal few =
    let sequencer : within_order (tickets.state_of l) ≡ tickets.state_of l = sound-within (tickets.state_of l) (sound-legal l legal few) (low-legal l legal) in
    let scribe : scribe_within (within_order (tickets.state_of l)).sequence (state_of l).scribe ≡ (state_of l).scribe =
    ap (λ (s : ticket.State). scribe_within s.sequence (state_of l).scribe) sequencer ∙ ap (λ n. scribe_within n (state_of l).scribe) (sequence-state_of l) ∙ kept_within (seq l) l legal (omega arith) in
    λ i. record {
      state = record { sequencer = sequencer i; scribe = scribe i };
      entered = (entries_of l).entered;
      counted = (entries_of l).counted;
    }

pub sequence-entries_of : (l : Ledger) → (entries_of l).state.sequencer.sequence ≡ seq l
unfolding entries_of state_of
sequence-entries_of l = sequence-state_of l

pub begun_kept : (number deltas : ℕ) (l : Ledger) → IsLegal l → length l ≤ largest → seq l ≤ deltas → begun_from number deltas (checkpoint_state (entries_of l)) ≡ Ok (entries_of l)
begun_kept number deltas l legal few reached =
    let low = seq-le_length l in
    rw (le-leb (entries_of l).state.sequencer.sequence (min (entries_of l).entered deltas) (omega (arith, sequence-entries_of l, entered-entries_of l, low, reached))) (ap Ok (entries_back l legal (omega (arith, low, few))))

-- ---- a checkpoint of a keeper that is kept

pub first_part : {X : Type 0} (P : X → Type 0) (xs ys : List X) → All P (xs ++ ys) → All P xs
first_part P xs ys all = subst (All P) (take-append_seam xs ys) (All-take P (length xs) (xs ++ ys) all)

pub last_part : {X : Type 0} (P : X → Type 0) (xs ys : List X) → All P (xs ++ ys) → All P ys
last_part P xs ys all = subst (All P) (drop-append_seam xs ys) (All-drop P (length xs) (xs ++ ys) all)

-- it says what the entries of a first part of the ledger made, or how many there are of them
pub record SaysBefore (l : Ledger) (deltas : ℕ) (said : Result Form CheckpointFault) : Type 0 where
  pub before : Ledger
  pub behind : Ledger
  pub splits : l ≡ before ++ behind
  pub legal : IsLegal before
  pub few : length before ≤ largest
  pub reached : seq before ≤ deltas
  pub says : (said ≡ Ok (Two (checkpoint_state (entries_of before)))) ⊎ (said ≡ Ok (One (length before)))

-- a text that says a state is of these entries
pub says_two : (l : Ledger) (deltas : ℕ) (said : Result Form CheckpointFault) (says : SaysBefore l deltas said) (s : Checkpoint) → said ≡ Ok (Two s) → s ≡ checkpoint_state (entries_of says.before)
says_two l deltas said says s is =
    ⊎_elim (λ (two : said ≡ Ok (Two (checkpoint_state (entries_of says.before)))). cc) (λ (one : said ≡ Ok (One (length says.before))). absurd (cc)) says.says

pub says_printed : QuorumsAreReadBack → (l : Ledger) → IsLegal l → All IsLoggable l → length l ≤ largest → (text : List ℕ) → IsPrinted (entries_of l) text → answer text ≡ Ok (Two (checkpoint_state (entries_of l)))
unfolding checkpoint_text
says_printed back l legal loggable few text printed = ap answer printed.text ∙ read_back (checkpoint_state (entries_of l)) (in_form back l legal loggable few printed.written.blobs) printed.written

pub says_before : QuorumsAreReadBack → (l : Ledger) (content : Content) (number : ℕ) (text : List ℕ) → slice_get content.checkpoints number ≡ Some text → IsKept false l content → SaysBefore l (length content.deltas) (answer text)
says_before back l content number text at kept =
    let is = all-there (IsCheckpointOf l (length content.deltas)) content.checkpoints number text at kept.checkpoints in
    let legal = legal-first is.before is.behind (subst IsLegal is.splits kept.legal) in
    let loggable = first_part IsLoggable is.before is.behind (subst (All IsLoggable) is.splits kept.loggable) in
    let few : length is.before ≤ largest = omega (arith, kept.few, ap length is.splits, length-append is.before is.behind) in
    record {
      before = is.before;
      behind = is.behind;
      splits = is.splits;
      legal = legal;
      few = few;
      reached = is.reached;
      says = ⊎_elim
          (λ (printed : IsPrinted (entries_of is.before) text). inl (says_printed back is.before legal loggable few text printed))
          (λ (first : IsOfFirst (entries_of is.before) text).
          inr (ap answer first.text ∙ first_read (checkpoint_state (entries_of is.before)) (in_form back is.before legal loggable few first.blobs) first.utf8 ∙ ap (λ n. Ok (One n)) (entered-entries_of is.before)))
          is.text;
    }

-- ---- what goes on from a state

pub resumed_entries : (s : Checkpoint) (state : State) → state ≡ within (record { sequencer = sequencer_of s.sequencer; scribe = s.scribe })
    → ◌≡◌ {A = Entries} (record { state = state; entered = s.entered; counted = s.counted }) (entries_in s)
unfolding entries_in
resumed_entries s state is = λ i. record { state = is i; entered = s.entered; counted = s.counted }
