-- Each step names its own alone, and only three put objects.
use Rattle.std.proofs.Common.{◌≡◌, ℕ, nat_le, nat_lt, Bool, true, false, cond, if◌then◌else◌, List, [], ◌∷◌, length, Option, Some, None, Result, Ok, Err, bytes_eq, refl, ap, ◌∙◌}
use Rattle.std.specs.FinMap.{FinMap, get, insert}
use Rattle.fluid_table.specs.Table.{byte_order}
use Rattle.fluid_table.proofs.Places.{get_inserted}
use Rattle.fluid_json.specs.declared.fault.JsonFault.{JsonFault}
use Rattle.fluid_edits.specs.declared.edit.Edit.{Edit as AnEdit}
use Rattle.fluid_rules.specs.declared.limits.Limits.{Limits}
use Rattle.fluid_runtime.specs.Refused.{answer}
use Rattle.fluid_runtime.specs.declared.fault.EditFault.{EditFault}
use Rattle.fluid_json.specs.Tree.{Tree}
use Rattle.fluid_types.specs.Ledger.{Ledger, order}
use Rattle.fluid_types.specs.declared.entries.Raw.{Raw}
use Rattle.fluid_types.specs.declared.entries.Raw.TheVariants.{Leave}
use Rattle.fluid_voice.specs.declared.refusals.ConnectRefusal.{ConnectRefusal}
use Rattle.fluid_scribe.specs.Jobs.{job}
use Rattle.fluid_scribe.specs.declared.job.Job.{Job}
use Rattle.fluid_store.specs.Putting.{Putting, Clashing, putting}
use Rattle.fluid_store.specs.Listed.{objects}
use Rattle.fluid_runtime.specs.AppTree.{app_tree}
use Rattle.fluid_lane.specs.Laws.{first_silent_in}
use Rattle.fluid_steps.specs.declared.steps.Step.{Step}
use Rattle.fluid_steps.specs.declared.steps.Step.TheVariants.{Send, Collect, Close, Scribe, Checkpoint, Restart, Reopen, Sweep, Count, Tasks, Load, Pump, Edit, Beat, Summarize, Show, Roam, Say, Lose, Back, Acked}
use Rattle.fluid_transcript.specs.World.{Document, Container, Roamer, Name, World, ledger_of, with_name, Effect, says}
use Rattle.fluid_versions.specs.Versions.{is_found}
use Rattle.fluid_transcript.specs.Documents.{scribed_by, reported, objects_for, checkpoint_of, swept_by}
use Rattle.fluid_transcript.specs.Containers.{id_of, channels, visible, joining, join_refusal, edited_by, summarized_by}
use Rattle.fluid_transcript.specs.Roamers.{roamed_by, laid_over, said_by, left, back_by}
use Rattle.fluid_transcript.specs.Lines.{stored_line, full_line, large_line}
use Rattle.fluid_transcript.specs.Steps.{container_of, roamer_of, shown_of, on_container, on_roamer, edit_effect, say_effect, effect, beyond}
use Rattle.fluid_beside.specs.Beside.{own_name, IsOther, PutsNone}

-- ---- names

-- another name stands for what it stood for
put : (names : FinMap byte_order Name) (own : List ℕ) (n : Name) (q : List ℕ) → bytes_eq q own ≡ false → get (insert names own n) q ≡ get names q
put names own n q other = get_inserted names own n q ∙ ap (λ b. cond b (Some n) (get names q)) other

module _ (limits : Limits) (w : World) (names : FinMap byte_order Name) (q : List ℕ) where
  abbrev Named : Effect → Type 0
  Named e = get (with_name e.name names) q ≡ get names q

  on : (p : List ℕ) (o : Option Container) (does : Container → Effect) → ((k : Container) → Named (does k)) → Named (on_container w o does)
  on p None does h = refl
  on p (Some k) does h = h k

  roaming : (o : Option Roamer) (does : Roamer → Effect) → ((k : Roamer) → Named (does k)) → Named (on_roamer w o does)
  roaming None does h = refl
  roaming (Some k) does h = h k

  roams : (d : Document) (r name : List ℕ) (refusal : Option ConnectRefusal) → bytes_eq q r ≡ false → Named (roamed_by w d r name refusal)
  roams d r name None other = put names r _ q other
  roams d r name (Some refusal) other = put names r _ q other

  lays : (l : Ledger) (r : List ℕ) (k : Roamer) (edit : AnEdit) (contents : Tree) (is_lost : Bool) → bytes_eq q r ≡ false → Named (laid_over limits w l r k edit contents is_lost)
  lays l r k edit contents true other = put names r _ q other
  lays l r k edit contents false other = put names r _ q other

  says_by : (l : Ledger) (r : List ℕ) (k : Roamer) (edit : AnEdit) (a : Result Tree EditFault) → bytes_eq q r ≡ false → Named (said_by limits w l r k edit a)
  says_by l r k edit (Err fault) other = refl
  says_by l r k edit (Ok contents) other = lays l r k edit contents k.is_lost other

  says_so : (d : Document) (r : List ℕ) (op : Result AnEdit JsonFault) (k : Roamer) → bytes_eq q r ≡ false → Named (say_effect limits w d r op k)
  says_so d r (Err fault) k other = refl
  says_so d r (Ok edit) k other = says_by (ledger_of d) r k edit (answer (visible (ledger_of d) k.client) edit) other

  backs : (d : Document) (r : List ℕ) (k : Roamer) (leave : Raw) (refusal : Option ConnectRefusal) → bytes_eq q r ≡ false → Named (back_by limits w d r k leave refusal)
  backs d r k leave None other = put names r _ q other
  backs d r k leave (Some refusal) other = refl

  edits_by : (d : Document) (p : List ℕ) (k : Container) (edit : AnEdit) (a : Result Tree EditFault) → bytes_eq q p ≡ false → Named (edited_by limits w (ledger_of d) p k edit a)
  edits_by d p k edit (Err fault) other = refl
  edits_by d p k edit (Ok contents) other = put names p _ q other

  edits : (d : Document) (p : List ℕ) (op : Result AnEdit JsonFault) (k : Container) → bytes_eq q p ≡ false → Named (edit_effect limits w d p op k)
  edits d p (Err fault) k other = refl
  edits d p (Ok edit) k other = edits_by d p k edit (answer (visible (ledger_of d) k) edit) other

  summarizes : (d : Document) (p : List ℕ) (k : Container) (put_so : Putting) (clash : Option Clashing) → bytes_eq q p ≡ false → Named (summarized_by limits w (ledger_of d) p k put_so clash)
  summarizes d p k put_so (Some clash) other = refl
  summarizes d p k put_so None other = put names p _ q other

  reports : (l : Ledger) (name : List ℕ) (j : Job) (found : Bool) (p : Putting) (clash : Option Clashing) → Named (reported w l name j found p clash)
  reports l name j found p None = refl
  reports l name j found p (Some clash) = refl

  scribes : (l : Ledger) (name : List ℕ) (j : Option Job) → Named (scribed_by w l name j)
  scribes l name None = refl
  scribes l name (Some j) = reports l name j (is_found w.store j) (putting w.store (objects_for l (is_found w.store j) j)) _

  checkpoints : (d : Document) (name : List ℕ) (full large : Bool)
      → Named (if full then says w (full_line name ∷ []) else (if large then says w (large_line name (length (checkpoint_of (ledger_of d))) ∷ [])
      else record (says w (stored_line name (length d.checkpoints) (length d.raws) ∷ [])) { checkpoints = length d.raws ∷ [] }))
  checkpoints d name true large = refl
  checkpoints d name false true = refl
  checkpoints d name false false = refl

  sweeps : (name : List ℕ) (silent : Option (List ℕ)) → Named (swept_by w name silent)
  sweeps name None = refl
  sweeps name (Some id) = refl

  pub named : (d : Document) (step : Step) → IsOther (own_name step) q → Named (effect limits w d step)
  named d (Send c text) other = put names c _ q other
  named d (Collect c) other = put names c _ q other
  named d (Close c) other = put names c _ q other
  named d (Scribe name) other = scribes (ledger_of d) name (job (order (ledger_of d)))
  named d (Checkpoint name) other = checkpoints d name (nat_le limits.checkpoints (length d.checkpoints)) (nat_lt limits.bytes (length (checkpoint_of (ledger_of d))))
  named d (Restart name checkpoint) other = refl
  named d (Reopen name) other = refl
  named d (Sweep name silence) other = sweeps name (first_silent_in w.moment silence (ledger_of d))
  named d (Count name) other = refl
  named d (Tasks name) other = refl
  named d (Load p name pick) other = put names p _ q other
  named d (Pump p) other = on p (container_of w p) _ (λ k. put names p _ q other)
  named d (Edit p op) other = on p (container_of w p) _ (λ k. edits d p op k other)
  named d (Beat p) other = on p (container_of w p) _ (λ k. put names p _ q other)
  named d (Summarize p) other = on p (container_of w p) _ (λ k. summarizes d p k (putting w.store (objects (app_tree (channels (ledger_of d) k)))) _ other)
  named d (Show p) other = on p (shown_of w p) _ (λ k. refl)
  named d (Roam r name) other = roams d r name (join_refusal (joining limits w (ledger_of d))) other
  named d (Say r op) other = roaming (roamer_of w r) _ (λ k. says_so d r op k other)
  named d (Lose r) other = roaming (roamer_of w r) _ (λ k. put names r _ q other)
  named d (Back r) other = roaming (roamer_of w r) _ (λ k. backs (left w d k) r k (Leave (id_of k.client) w.moment) (join_refusal (joining limits w (ledger_of (left w d k)))) other)
  named d (Acked r) other = roaming (roamer_of w r) _ (λ k. put names r _ q other)

  pub named_beyond : (name : List ℕ) (step : Step) → IsOther (own_name step) q → Named (beyond limits w name step)
  named_beyond name (Send c text) other = put names c _ q other
  named_beyond name (Collect c) other = refl
  named_beyond name (Close c) other = refl
  named_beyond name (Scribe other_name) other = refl
  named_beyond name (Checkpoint other_name) other = refl
  named_beyond name (Restart other_name checkpoint) other = refl
  named_beyond name (Reopen other_name) other = refl
  named_beyond name (Sweep other_name silence) other = refl
  named_beyond name (Count other_name) other = refl
  named_beyond name (Tasks other_name) other = refl
  named_beyond name (Load p other_name pick) other = put names p _ q other
  named_beyond name (Pump p) other = refl
  named_beyond name (Edit p op) other = refl
  named_beyond name (Beat p) other = refl
  named_beyond name (Summarize p) other = refl
  named_beyond name (Show p) other = refl
  named_beyond name (Roam r other_name) other = put names r _ q other
  named_beyond name (Say r op) other = refl
  named_beyond name (Lose r) other = refl
  named_beyond name (Back r) other = refl
  named_beyond name (Acked r) other = refl

-- ---- the store

module _ (limits : Limits) (w : World) where
  abbrev Keeps : Effect → Type 0
  Keeps e = e.store ≡ w.store

  keeps_on : (o : Option Container) (does : Container → Effect) → ((k : Container) → Keeps (does k)) → Keeps (on_container w o does)
  keeps_on None does h = refl
  keeps_on (Some k) does h = h k

  keeps_roaming : (o : Option Roamer) (does : Roamer → Effect) → ((k : Roamer) → Keeps (does k)) → Keeps (on_roamer w o does)
  keeps_roaming None does h = refl
  keeps_roaming (Some k) does h = h k

  keeps_roams : (d : Document) (r name : List ℕ) (refusal : Option ConnectRefusal) → Keeps (roamed_by w d r name refusal)
  keeps_roams d r name None = refl
  keeps_roams d r name (Some refusal) = refl

  keeps_lays : (l : Ledger) (r : List ℕ) (k : Roamer) (edit : AnEdit) (contents : Tree) (is_lost : Bool) → Keeps (laid_over limits w l r k edit contents is_lost)
  keeps_lays l r k edit contents true = refl
  keeps_lays l r k edit contents false = refl

  keeps_says_by : (l : Ledger) (r : List ℕ) (k : Roamer) (edit : AnEdit) (a : Result Tree EditFault) → Keeps (said_by limits w l r k edit a)
  keeps_says_by l r k edit (Err fault) = refl
  keeps_says_by l r k edit (Ok contents) = keeps_lays l r k edit contents k.is_lost

  keeps_says : (d : Document) (r : List ℕ) (op : Result AnEdit JsonFault) (k : Roamer) → Keeps (say_effect limits w d r op k)
  keeps_says d r (Err fault) k = refl
  keeps_says d r (Ok edit) k = keeps_says_by (ledger_of d) r k edit (answer (visible (ledger_of d) k.client) edit)

  keeps_backs : (d : Document) (r : List ℕ) (k : Roamer) (leave : Raw) (refusal : Option ConnectRefusal) → Keeps (back_by limits w d r k leave refusal)
  keeps_backs d r k leave None = refl
  keeps_backs d r k leave (Some refusal) = refl

  keeps_edits_by : (d : Document) (p : List ℕ) (k : Container) (edit : AnEdit) (a : Result Tree EditFault) → Keeps (edited_by limits w (ledger_of d) p k edit a)
  keeps_edits_by d p k edit (Err fault) = refl
  keeps_edits_by d p k edit (Ok contents) = refl

  keeps_edits : (d : Document) (p : List ℕ) (op : Result AnEdit JsonFault) (k : Container) → Keeps (edit_effect limits w d p op k)
  keeps_edits d p (Err fault) k = refl
  keeps_edits d p (Ok edit) k = keeps_edits_by d p k edit (answer (visible (ledger_of d) k) edit)

  keeps_checkpoints : (d : Document) (name : List ℕ) (full large : Bool)
      → Keeps (if full then says w (full_line name ∷ []) else (if large then says w (large_line name (length (checkpoint_of (ledger_of d))) ∷ [])
      else record (says w (stored_line name (length d.checkpoints) (length d.raws) ∷ [])) { checkpoints = length d.raws ∷ [] }))
  keeps_checkpoints d name true large = refl
  keeps_checkpoints d name false true = refl
  keeps_checkpoints d name false false = refl

  keeps_sweeps : (name : List ℕ) (silent : Option (List ℕ)) → Keeps (swept_by w name silent)
  keeps_sweeps name None = refl
  keeps_sweeps name (Some id) = refl

  pub keeps : (d : Document) (step : Step) → PutsNone step → Keeps (effect limits w d step)
  keeps d (Send c text) none = absurd none
  keeps d (Collect c) none = refl
  keeps d (Close c) none = refl
  keeps d (Scribe name) none = absurd none
  keeps d (Checkpoint name) none = keeps_checkpoints d name (nat_le limits.checkpoints (length d.checkpoints)) (nat_lt limits.bytes (length (checkpoint_of (ledger_of d))))
  keeps d (Restart name checkpoint) none = refl
  keeps d (Reopen name) none = refl
  keeps d (Sweep name silence) none = keeps_sweeps name (first_silent_in w.moment silence (ledger_of d))
  keeps d (Count name) none = refl
  keeps d (Tasks name) none = refl
  keeps d (Load p name pick) none = refl
  keeps d (Pump p) none = keeps_on (container_of w p) _ (λ k. refl)
  keeps d (Edit p op) none = keeps_on (container_of w p) _ (λ k. keeps_edits d p op k)
  keeps d (Beat p) none = keeps_on (container_of w p) _ (λ k. refl)
  keeps d (Summarize p) none = absurd none
  keeps d (Show p) none = keeps_on (shown_of w p) _ (λ k. refl)
  keeps d (Roam r name) none = keeps_roams d r name (join_refusal (joining limits w (ledger_of d)))
  keeps d (Say r op) none = keeps_roaming (roamer_of w r) _ (λ k. keeps_says d r op k)
  keeps d (Lose r) none = keeps_roaming (roamer_of w r) _ (λ k. refl)
  keeps d (Back r) none = keeps_roaming (roamer_of w r) _ (λ k. keeps_backs (left w d k) r k (Leave (id_of k.client) w.moment) (join_refusal (joining limits w (ledger_of (left w d k)))))
  keeps d (Acked r) none = keeps_roaming (roamer_of w r) _ (λ k. refl)

  pub keeps_beyond : (name : List ℕ) (step : Step) → PutsNone step → Keeps (beyond limits w name step)
  keeps_beyond name (Send c text) none = absurd none
  keeps_beyond name (Collect c) none = refl
  keeps_beyond name (Close c) none = refl
  keeps_beyond name (Scribe other_name) none = absurd none
  keeps_beyond name (Checkpoint other_name) none = refl
  keeps_beyond name (Restart other_name checkpoint) none = refl
  keeps_beyond name (Reopen other_name) none = refl
  keeps_beyond name (Sweep other_name silence) none = refl
  keeps_beyond name (Count other_name) none = refl
  keeps_beyond name (Tasks other_name) none = refl
  keeps_beyond name (Load p other_name pick) none = refl
  keeps_beyond name (Pump p) none = refl
  keeps_beyond name (Edit p op) none = refl
  keeps_beyond name (Beat p) none = refl
  keeps_beyond name (Summarize p) none = absurd none
  keeps_beyond name (Show p) none = refl
  keeps_beyond name (Roam r other_name) none = refl
  keeps_beyond name (Say r op) none = refl
  keeps_beyond name (Lose r) none = refl
  keeps_beyond name (Back r) none = refl
  keeps_beyond name (Acked r) none = refl
