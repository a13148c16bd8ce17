-- A store that holds each object under its own id goes on doing so.
use Rattle.std.proofs.Common.{◌≡◌, ℕ, ◌==◌, Bool, true, false, cond, if◌then◌else◌, List, [], ◌∷◌, ◌++◌, length, fold, Option, Some, None, Result, Ok, Err, bytes_eq, refl, sym, ap, ◌∙◌}
use Rattle.std.specs.Prelude.{nat_le, nat_lt}
use Rattle.std.specs.List.{AllByRecursion}
use Rattle.std.specs.Option.{option_map_or}
use Rattle.std.specs.FinMap.{get, insert}
use Rattle.std.specs.FinMap.Entries.{by_order, put}
use Rattle.std.specs.declared.cmp.Ordering.{Ordering}
use Rattle.std.specs.declared.cmp.Ordering.TheVariants.{Less, Equal, Greater}
use Rattle.std.proofs.lemmas.Slice.Eq.{bytes_eq-Decides}
use Rattle.sha1.specs.Sha1.{sha1}
use Rattle.fluid_json.specs.Tree.{Tree}
use Rattle.fluid_json.specs.declared.fault.JsonFault.{JsonFault}
use Rattle.fluid_table.specs.Table.{byte_order}
use Rattle.fluid_table.proofs.Places.{get_inserted}
use Rattle.fluid_tree.specs.Object.{object_bytes}
use Rattle.fluid_tree.specs.Summary.{Summary, blob, tree, handle, Children, no_children, child}
use Rattle.fluid_types.specs.Ledger.{Ledger, order}
use Rattle.fluid_types.specs.Blobs.{blobs}
use Rattle.fluid_rules.specs.declared.limits.Limits.{Limits}
use Rattle.fluid_scribe.specs.Jobs.{job}
use Rattle.fluid_scribe.specs.declared.job.Job.{Job}
use Rattle.fluid_edits.specs.declared.edit.Edit.{Edit as AnEdit}
use Rattle.fluid_runtime.specs.AppTree.{app_tree}
use Rattle.fluid_runtime.specs.Refused.{answer}
use Rattle.fluid_runtime.specs.declared.fault.EditFault.{EditFault}
use Rattle.fluid_store.specs.Held.{Held}
use Rattle.fluid_store.specs.Listed.{Keyed, object_of, in_key_order, joined, keyed, objects, own_bytes}
use Rattle.fluid_store.specs.Putting.{Putting, Clashing, behind, put_first, putting}
use Rattle.fluid_store.specs.declared.listing.StoredObject.{StoredObject}
use Rattle.fluid_steps.specs.Grammar.{step_spelled}
use Rattle.fluid_steps.specs.declared.steps.Step.{Step}
use Rattle.fluid_steps.specs.declared.steps.Step.TheVariants.{Send, Collect, Close, Scribe, Checkpoint, Restart, Reopen, Sweep, Count, Tasks, Load, Pump, Edit, Beat, Summarize, Show, Roam, Say, Lose, Back, Acked}
use Rattle.fluid_steps.specs.declared.refusal.LineWhy.{LineWhy}
use Rattle.fluid_voice.specs.Ends.{Found, Outcome, outcome, held_behind, held_with, is_beyond}
use Rattle.fluid_voice.specs.Ends.Outcome.{ends, clashes}
use Rattle.fluid_voice.specs.declared.actions.Act.{Act}
use Rattle.fluid_voice.specs.declared.actions.Act.TheVariants as act
use Rattle.fluid_lane.specs.Laws.{first_silent_in}
use Rattle.fluid_types.specs.declared.entries.Raw.{Raw}
use Rattle.fluid_types.specs.declared.entries.Raw.TheVariants.{Leave}
use Rattle.fluid_voice.specs.declared.refusals.ConnectRefusal.{ConnectRefusal}
use Rattle.fluid_transcript.specs.World.{Document, Container, Roamer, World, new_document, document, with_entries, farewells, is_open, ledger_of, Effect, says, does}
use Rattle.fluid_transcript.specs.Lines.{full_line, large_line, stored_line}
use Rattle.fluid_transcript.specs.Connections.{Hearing, hear, hearing, behind_act, found_by, hear_act, acts_for}
use Rattle.fluid_versions.specs.Versions.{version_tree, is_found}
use Rattle.fluid_transcript.specs.Documents.{version_objects, objects_for, reported, scribed_by, stored, checkpointed, checkpoint_of, swept_by}
use Rattle.fluid_transcript.specs.Containers.{channels, id_of, visible, joining, join_refusal, pumped, edited_by, beaten, summarized_by, summarized, showing}
use Rattle.fluid_transcript.specs.Roamers.{roamed_by, laid_over, said_by, lost, left, back_by, came_back, acked}
use Rattle.fluid_transcript.specs.Steps.{about, container_of, roamer_of, shown_of, on_container, on_roamer, edit_effect, say_effect, effect, beyond}
use Rattle.fluid_transcript.specs.Transcript.{readied, done_in, done_on, done, at_line, done_as}
use Rattle.fluid_holding.specs.Holding.{HoldsOwn}
use Rattle.fluid_holding.specs.Laws.{OwnedStaysOwned}

-- ---- objects that are put

-- each has its own id
abbrev pub Own : List StoredObject → Type 0
Own os = AllByRecursion (λ (o : StoredObject). o.id ≡ sha1 o.bytes) os

some_same : (a b : List ℕ) → ◌≡◌ {A = Option (List ℕ)} (Some a) (Some b) → a ≡ b
some_same a b same = cc

inserted_own : (held : Held) (id bytes : List ℕ) → id ≡ sha1 bytes → HoldsOwn held → HoldsOwn (insert held id bytes)
inserted_own held id bytes own holds other kept there = by (bytes_eq other id) refl (sym (get_inserted held id bytes other) ∙ there)
  where
    by : (b : Bool) → bytes_eq other id ≡ b → cond b (Some bytes) (get held other) ≡ Some kept → other ≡ sha1 kept
    by true is h = (bytes_eq-Decides other id).0 is ∙ own ∙ ap sha1 (some_same bytes kept h)
    by false is h = holds other kept h

pub putting_own : (held : Held) (os : List StoredObject) → HoldsOwn held → Own os → HoldsOwn (putting held os).held
putting_own held [] holds own = holds
putting_own held (o ∷ os) holds own = by (get held o.id) (putting_own (insert held o.id o.bytes) os (inserted_own held o.id o.bytes own.0 holds) own.1)
  where
    same_or : (b : Bool) (kept : List ℕ) (later : Putting) → HoldsOwn later.held
        → HoldsOwn (cond b (behind o later) (record { held = held; put = []; clash = Some (record { id = o.id; kept = kept; bytes = o.bytes }) })).held
    same_or true kept later all = all
    same_or false kept later all = holds

    by : (found : Option (List ℕ)) → HoldsOwn (putting (insert held o.id o.bytes) os).held → HoldsOwn (put_first held o found (putting (insert held o.id o.bytes) os)).held
    by None all = all
    by (Some kept) all = same_or (bytes_eq kept o.bytes) kept (putting (insert held o.id o.bytes) os) all

-- ---- the objects of a tree

-- what holds of each object of lists of them holds of each where they stand in order, one behind the other
module _ (P : StoredObject → Type 0) where
  abbrev Each : List StoredObject → Type 0
  Each os = AllByRecursion P os

  abbrev EachKeyed : Keyed → Type 0
  EachKeyed ks = AllByRecursion (λ one. AllByRecursion P one.1) ks

  pub each_append : (xs ys : List StoredObject) → Each xs → Each ys → Each (xs ++ ys)
  each_append [] ys all more = more
  each_append (x ∷ xs) ys all more = (all.0, each_append xs ys all.1 more)

  put_each : (key : List ℕ) (os : List StoredObject) (ks : Keyed) → Each os → EachKeyed ks → EachKeyed (put byte_order key os ks)
  put_each key os [] own all = (own, tt)
  put_each key os (k ∷ ks) own all = by (byte_order key k.0) (put_each key os ks own all.1)
    where
      by : (o : Ordering) → EachKeyed (put byte_order key os ks) → EachKeyed (by_order o ((key, os) ∷ k ∷ ks) ((k.0, os) ∷ ks) (k ∷ put byte_order key os ks))
      by Less later = (own, all)
      by Equal later = (own, all.1)
      by Greater later = (all.0, later)

  sorted_each : (sorted ks : Keyed) → EachKeyed sorted → EachKeyed ks → EachKeyed (fold (λ sorted one. put byte_order one.0 one.1 sorted) sorted ks)
  sorted_each sorted [] before all = before
  sorted_each sorted (k ∷ ks) before all = sorted_each (put byte_order k.0 k.1 sorted) ks (put_each k.0 k.1 sorted all.0 before) all.1

  joined_each : (ks : Keyed) → EachKeyed ks → Each (joined ks)
  joined_each [] all = tt
  joined_each (k ∷ ks) all = each_append k.1 (joined ks) all.0 (joined_each ks all.1)

  pub in_order_each : (ks : Keyed) → EachKeyed ks → Each (joined (in_key_order ks))
  in_order_each ks all = joined_each (in_key_order ks) (sorted_each [] ks tt all)

abbrev IsOwn : StoredObject → Type 0
IsOwn o = o.id ≡ sha1 o.bytes

mutual
  unfolding objects keyed

  pub objects_own : (s : Summary) → Own (objects s)
  objects_own (blob content) = (refl, tt)
  objects_own (tree nodes) =
      each_append IsOwn (joined (in_key_order (keyed nodes))) (object_of (own_bytes (tree nodes)) ∷ []) (in_order_each IsOwn (keyed nodes) (keyed_own nodes)) (refl, tt)
  objects_own (handle path) = tt

  keyed_own : (nodes : Children) → EachKeyed IsOwn (keyed nodes)
  keyed_own no_children = tt
  keyed_own (child name node nodes) = (objects_own node, keyed_own nodes)

-- ---- a text that is heard

behind_own : (held : Held) (a : Act) → HoldsOwn held → HoldsOwn (held_behind held a)
behind_own held (act.Say reply) holds = holds
behind_own held (act.Connect name write scopes detail moment) holds = holds
behind_own held (act.Enter raw) holds = holds
behind_own held (act.Deltas from to) holds = holds
behind_own held (act.Summary asked) holds = holds
behind_own held (act.GetObject id) holds = holds
behind_own held (act.PutObject bytes) holds = by (get held (sha1 bytes))
  where
    by : (found : Option (List ℕ)) → HoldsOwn (held_with held bytes found)
    by None = inserted_own held (sha1 bytes) bytes refl holds
    by (Some kept) = holds

act_own : (c : List ℕ) (f : Found) (a : Act) (h : Hearing) (o : Outcome) → HoldsOwn h.store → HoldsOwn (behind_act c f a h o).store
act_own c f a h (ends end) holds = behind_own h.store a holds
act_own c f a h (clashes id kept bytes) holds = holds

hear_own : (limits : Limits) (opened : List (List ℕ)) (c : List ℕ) (d : Document) (h : Hearing) (acts : List Act) → HoldsOwn h.store → HoldsOwn (hear limits opened c d h acts).store
hear_own limits opened c d h [] holds = holds
hear_own limits opened c d h (a ∷ acts) holds =
    hear_own limits opened c d (hear_act limits opened c d h a) acts (act_own c (found_by limits opened d h) a h (outcome (found_by limits opened d h) a) holds)

-- ---- a step

either : (b : Bool) (e f : Effect) → HoldsOwn e.store → HoldsOwn f.store → HoldsOwn (if b then e else f).store
either true e f one other = one
either false e f one other = other

on_own : (w : World) (o : Option Container) (f : Container → Effect) → HoldsOwn w.store → ((k : Container) → HoldsOwn (f k).store) → HoldsOwn (on_container w o f).store
on_own w None f holds each = holds
on_own w (Some k) f holds each = each k

roams_own : (w : World) (o : Option Roamer) (f : Roamer → Effect) → HoldsOwn w.store → ((k : Roamer) → HoldsOwn (f k).store) → HoldsOwn (on_roamer w o f).store
roams_own w None f holds each = holds
roams_own w (Some k) f holds each = each k

version_own : (l : Ledger) (j : Job) (app : List ℕ) → Own (version_objects l j app)
version_own l j app = each_append IsOwn (objects j.protocol) (object_of (object_bytes (version_tree app (blobs (order l) j.reference))) ∷ []) (objects_own j.protocol) (refl, tt)

app_own : (l : Ledger) (j : Job) (o : Option (List ℕ)) → Own (option_map_or (version_objects l j) o [])
app_own l j None = tt
app_own l j (Some app) = version_own l j app

for_own : (l : Ledger) (j : Job) (found : Bool) → Own (objects_for l found j)
for_own l j true = app_own l j j.app
for_own l j false = tt

module _ (limits : Limits) (w : World) (holds : HoldsOwn w.store) where
  reported_own : (l : Ledger) (d : List ℕ) (j : Job) (found : Bool) (p : Putting) (clash : Option Clashing) → HoldsOwn p.held → HoldsOwn (reported w l d j found p clash).store
  reported_own l d j found p None own = own
  reported_own l d j found p (Some clash) own = own

  scribe_own : (l : Ledger) (d : List ℕ) (o : Option Job) → HoldsOwn (scribed_by w l d o).store
  scribe_own l d None = holds
  scribe_own l d (Some j) =
      let found = is_found w.store j in
      let p = putting w.store (objects_for l found j) in
      reported_own l d j found p p.clash (putting_own w.store (objects_for l found j) holds (for_own l j found))

  sweep_own : (name : List ℕ) (o : Option (List ℕ)) → HoldsOwn (swept_by w name o).store
  sweep_own name None = holds
  sweep_own name (Some id) = holds

  checkpoint_own : (d : Document) (name : List ℕ) → HoldsOwn (checkpointed limits w d name).store
  checkpoint_own d name =
      let bytes = length (checkpoint_of (ledger_of d)) in
      either (nat_le limits.checkpoints (length d.checkpoints)) (says w (full_line name ∷ [])) (stored limits w d name bytes) holds
      (either (nat_lt limits.bytes bytes) (says w (large_line name bytes ∷ []))
      (record (says w (stored_line name (length d.checkpoints) (length d.raws) ∷ [])) { checkpoints = length d.raws ∷ [] }) holds holds)

  answered_own : (l : Ledger) (p : List ℕ) (k : Container) (edit : AnEdit) (r : Result Tree EditFault) → HoldsOwn (edited_by limits w l p k edit r).store
  answered_own l p k edit (Ok contents) = holds
  answered_own l p k edit (Err fault) = holds

  edit_own : (d : Document) (p : List ℕ) (op : Result AnEdit JsonFault) (k : Container) → HoldsOwn (edit_effect limits w d p op k).store
  edit_own d p (Ok edit) k = answered_own (ledger_of d) p k edit (answer (visible (ledger_of d) k) edit)
  edit_own d p (Err fault) k = holds

  proposed_own : (l : Ledger) (p : List ℕ) (k : Container) (put : Putting) (clash : Option Clashing) → HoldsOwn put.held → HoldsOwn (summarized_by limits w l p k put clash).store
  proposed_own l p k put None own = own
  proposed_own l p k put (Some clash) own = own

  summarize_own : (d : Document) (p : List ℕ) (k : Container) → HoldsOwn (summarized limits w d p k).store
  summarize_own d p k =
      let os = objects (app_tree (channels (ledger_of d) k)) in
      proposed_own (ledger_of d) p k (putting w.store os) (putting w.store os).clash (putting_own w.store os holds (objects_own (app_tree (channels (ledger_of d) k))))

  roam_own : (d : Document) (r name : List ℕ) (refusal : Option ConnectRefusal) → HoldsOwn (roamed_by w d r name refusal).store
  roam_own d r name None = holds
  roam_own d r name (Some refusal) = holds

  lay_own : (l : Ledger) (r : List ℕ) (k : Roamer) (edit : AnEdit) (contents : Tree) (is_lost : Bool) → HoldsOwn (laid_over limits w l r k edit contents is_lost).store
  lay_own l r k edit contents true = holds
  lay_own l r k edit contents false = holds

  said_own : (l : Ledger) (r : List ℕ) (k : Roamer) (edit : AnEdit) (a : Result Tree EditFault) → HoldsOwn (said_by limits w l r k edit a).store
  said_own l r k edit (Ok contents) = lay_own l r k edit contents k.is_lost
  said_own l r k edit (Err fault) = holds

  say_own : (d : Document) (r : List ℕ) (op : Result AnEdit JsonFault) (k : Roamer) → HoldsOwn (say_effect limits w d r op k).store
  say_own d r (Ok edit) k = said_own (ledger_of d) r k edit (answer (visible (ledger_of d) k.client) edit)
  say_own d r (Err fault) k = holds

  back_own : (d : Document) (r : List ℕ) (k : Roamer) (leave : Raw) (refusal : Option ConnectRefusal) → HoldsOwn (back_by limits w d r k leave refusal).store
  back_own d r k leave None = holds
  back_own d r k leave (Some refusal) = holds

  effect_own : (d : Document) (step : Step) → HoldsOwn (effect limits w d step).store
  effect_own d (Send c text) = hear_own limits w.opened c d (hearing w c) (acts_for w c text) holds
  effect_own d (Collect c) = holds
  effect_own d (Close c) = holds
  effect_own d (Scribe name) = scribe_own (ledger_of d) name (job (order (ledger_of d)))
  effect_own d (Checkpoint name) = checkpoint_own d name
  effect_own d (Restart name checkpoint) = holds
  effect_own d (Reopen name) = holds
  effect_own d (Sweep name silence) = sweep_own name (first_silent_in w.moment silence (ledger_of d))
  effect_own d (Count name) = holds
  effect_own d (Tasks name) = holds
  effect_own d (Load p name pick) = holds
  effect_own d (Pump p) = on_own w (container_of w p) (pumped w d p) holds (λ k. holds)
  effect_own d (Edit p op) = on_own w (container_of w p) (edit_effect limits w d p op) holds (edit_own d p op)
  effect_own d (Beat p) = on_own w (container_of w p) (beaten limits w d p) holds (λ k. holds)
  effect_own d (Summarize p) = on_own w (container_of w p) (summarized limits w d p) holds (summarize_own d p)
  effect_own d (Show p) = on_own w (shown_of w p) (showing w d p) holds (λ k. holds)
  effect_own d (Roam r name) = roam_own d r name (join_refusal (joining limits w (ledger_of d)))
  effect_own d (Say r op) = roams_own w (roamer_of w r) (say_effect limits w d r op) holds (say_own d r op)
  effect_own d (Lose r) = roams_own w (roamer_of w r) (lost w r) holds (λ k. holds)
  effect_own d (Back r) =
      roams_own w (roamer_of w r) (came_back limits w d r) holds (λ k. back_own (left w d k) r k (Leave (id_of k.client) w.moment) (join_refusal (joining limits w (ledger_of (left w d k)))))
  effect_own d (Acked r) = roams_own w (roamer_of w r) (acked w d r) holds (λ k. holds)

  beyond_own : (name : List ℕ) (step : Step) → HoldsOwn (beyond limits w name step).store
  beyond_own name (Send c text) = hear_own limits w.opened c new_document (hearing w c) (acts_for w c text) holds
  beyond_own name (Collect c) = holds
  beyond_own name (Close c) = holds
  beyond_own name (Scribe other) = holds
  beyond_own name (Checkpoint other) = holds
  beyond_own name (Restart other checkpoint) = holds
  beyond_own name (Reopen other) = holds
  beyond_own name (Sweep other silence) = holds
  beyond_own name (Count other) = holds
  beyond_own name (Tasks other) = holds
  beyond_own name (Load p other pick) = holds
  beyond_own name (Pump p) = holds
  beyond_own name (Edit p op) = holds
  beyond_own name (Beat p) = holds
  beyond_own name (Summarize p) = holds
  beyond_own name (Show p) = holds
  beyond_own name (Roam r other) = holds
  beyond_own name (Say r op) = holds
  beyond_own name (Lose r) = holds
  beyond_own name (Back r) = holds
  beyond_own name (Acked r) = holds

-- ---- a line

readied_own : (w : World) (name : List ℕ) → HoldsOwn w.store → HoldsOwn (readied w name).store
readied_own w name holds = by (is_open w name)
  where
    by : (b : Bool)
        → HoldsOwn (if b then w else record w { documents = insert w.documents name (with_entries (farewells w.moment (document w name)) (document w name)); opened = w.opened ++ name ∷ [] }).store
    by true = holds
    by false = holds

pub step_own : (limits : Limits) (w : World) (step : Step) → HoldsOwn w.store → HoldsOwn (done limits w step).world.store
step_own limits w step holds = by (about w step)
  where
    within : (name : List ℕ) (b : Bool) → HoldsOwn (if b then does (beyond limits w name step) None w else done_in limits (readied w name) name step).world.store
    within name true = beyond_own limits w holds name step
    within name false = effect_own limits (readied w name) (readied_own w name holds) (document (readied w name) name) step

    by : (o : Option (List ℕ)) → HoldsOwn (done_on limits w o step).world.store
    by None = effect_own limits w holds new_document step
    by (Some name) = within name (is_beyond w.opened name)

pub owned_stays_owned : OwnedStaysOwned
owned_stays_owned limits w line holds = by (length line == 0)
  where
    spelled : (r : Result Step LineWhy) → HoldsOwn (done_as limits (at_line w) r).world.store
    spelled (Ok step) = step_own limits (at_line w) step holds
    spelled (Err why) = holds

    by : (b : Bool) → HoldsOwn (if b then record { world = at_line w; lines = [] } else done_as limits (at_line w) (step_spelled line)).world.store
    by true = holds
    by false = spelled (step_spelled line)
