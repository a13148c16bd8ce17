-- What a lane stands for, behind each thing that may happen to it.
use Rattle.std.proofs.Common.{◌≡◌, ◌⊎◌, ℕ, ◌+◌, ◌<◌, ◌≤◌, arith, Bool, true, false, List, [], ◌∷◌, ◌++◌, length, take, is_some, Option, Some, None, inl, inr, refl, sym, ap, subst, ◌∙◌, append-nil, length-append}
use Rattle.std.specs.Option.{option_map, option_or}
use Rattle.std.proofs.lemmas.Bool.{false≢true}
use Rattle.fluid_io.specs.Causes.{Tells}
use Rattle.fluid_io.specs.declared.faults.FaultNote.{FaultNote}
use Rattle.fluid_types.specs.Fits.{Fits}
use Rattle.fluid_types.specs.declared.entries.Raw.{Raw}
use Rattle.fluid_types.specs.declared.messages.Message.{Message}
use Rattle.fluid_types.specs.Printed.{raw_printed}
use Rattle.fluid_types.specs.Ledger.{Ledger, order, messages_of}
use Rattle.fluid_types.proofs.Ledgers.{order-push}
use Rattle.fluid_rules.specs.Rules.{verdict, IsLegal}
use Rattle.fluid_log.specs.Keeping.{Content, Keeping}
use Rattle.fluid_log.specs.Calls.{KeepsSame, add_record, keep_records, add_checkpoint, with_record, cut_to, with_checkpoint}
use Rattle.fluid_deltas.specs.Pushed.{Pushed, StandFor}
use Rattle.fluid_deltas.specs.Flushes.{put_behind, with_deltas, PutsPrefix, AreAll}
use Rattle.fluid_deltas.proofs.Standing.{same_stand}
use Rattle.fluid_deltas.proofs.Telling.{tells_from, tells_both, tells_becomes}
use Rattle.fluid_log.proofs.Sameness.{same_itself}
use Rattle.fluid_core.specs.Entering.{verdict_in}
use Rattle.fluid_core.proofs.Entered.{verdict-state_of}
use Rattle.fluid_types.specs.Forms.{largest}
use Rattle.fluid_document.specs.Entries.{Entries, taken_up, entries_of}
use Rattle.fluid_document.specs.Entry.{PutsSome, IsTorn}
use Rattle.fluid_document.specs.Kept.{IsLoggable, IsKept, IsPrinted}
use Rattle.fluid_document.proofs.Keeps.{kept_whole, kept_owed, kept_cut, kept_torn, kept_entered, kept_more}
use Rattle.fluid_document.proofs.Foldings.{taken-entries_of, state-entries_of, entered-entries_of}
use Rattle.fluid_lane.specs.declared.steps.Side.TheVariants.{Failed, Stored, Restarted}
use Rattle.fluid_lane.specs.declared.steps.Step.{Step}
use Rattle.fluid_lane.specs.declared.steps.Step.TheVariants.{Entered, Aside}
use Rattle.fluid_lane.specs.Steps.{ledger, last_side, stored, asides, AreNoted}
use Rattle.fluid_lane.specs.Standing.{Standing, IsFor, IsTold, IsLeftFor, LaneStands, Goes}
use Rattle.fluid_lane.specs.Calls.{IsBeside}
use Rattle.fluid_lane.proofs.Listed.{ledger-append, stored-append, last-append, length-parts, noted_more, noted-append}
use Rattle.fluid_lane.proofs.Named.{taken-entered}
use Rattle.fluid_lane.proofs.Storing.{kept_stored}

-- ---- told or not

pub told_too : {A : Type 0} (one other : Option A) (P : Type 0) → is_some other ≡ is_some one → Tells one (λ _. P) → Tells other (λ _. P)
told_too one None P same p = tt
told_too None (Some b) P same p = absurd (false≢true (sym same))
told_too (Some a) (Some b) P same p = p

pub told_map : {A : Type 0} (change : A → A) (o : Option A) → is_some (option_map change o) ≡ is_some o
told_map change None = refl
told_map change (Some a) = refl

pub twice : {A : Type 0} (f g : A → A) (o : Option A) → option_map g (option_map f o) ≡ option_map (λ a. g (f a)) o
twice f g None = refl
twice f g (Some a) = refl

-- what follows from what a content was, and from what holds of it behind a change
pub told_changed : (told new : Option Content) (change : Content → Content) (P Q R : Content → Type 0) → new ≡ option_map change told → ((c : Content) → P c → Q (change c) → R (change c)) → Tells told P → Tells new Q → Tells new R
told_changed None new change P Q R same each p q = rw same tt
told_changed (Some c) new change P Q R same each p q = rw same (each c p (rw same at q))

-- ---- from one value to another

pub goes_from : (s r t : Standing) (more : List Step) → s ≡ r → Goes s t more → Goes r t more
goes_from s r t more same goes = subst (λ u. Goes u t more) same goes

pub goes_to : (s t u : Standing) (more : List Step) → u ≡ t → Goes s t more → Goes s u more
goes_to s t u more same goes = subst (λ v. Goes s v more) (sym same) goes

-- what a call leaves beside the list, and the list
pub beside_of : (s r t : Standing) (more : List Step) → Goes s t more → s ≡ r → IsBeside r t more
beside_of s r t more goes same =
    subst (λ u. IsBeside u t more) same (record { limits = goes.limits; opened = goes.opened; told = goes.told; later = goes.later; entered = goes.entered; sides = goes.sides; last = goes.last })

goes_of : (s t : Standing) (more : List Step) → IsBeside s t more → ((l : List Step) → LaneStands s l → LaneStands t (l ++ more)) → Goes s t more
goes_of s t more beside list =
    record { limits = beside.limits; opened = beside.opened; told = beside.told; later = beside.later; entered = beside.entered; sides = beside.sides; last = beside.last; list = list }

pub nothing_less : (s : Standing) (l : List Step) → LaneStands s (l ++ []) → LaneStands s l
nothing_less s l stands = subst (LaneStands s) (append-nil l) stands

-- behind a call that added no step
beside_on : (s t u : Standing) (more : List Step) → Goes s t [] → IsBeside t u more → IsBeside s u more
beside_on s t u more first then = record {
  limits = then.limits ∙ first.limits;
  opened = then.opened ∙ first.opened;
  told = then.told ∙ first.told;
  later = omega (arith, first.later, then.later);
  entered = omega (arith, first.entered, then.entered);
  sides = omega (arith, first.sides, then.sides);
  last = then.last ∙ ap (option_or (last_side more)) first.last;
}

pub goes_on : (s t u : Standing) (more : List Step) → Goes s t [] → Goes t u more → Goes s u more
goes_on s t u more first then = goes_of s u more (beside_on s t u more first (beside_of t t u more then refl)) (λ l stands. then.list l (nothing_less t l (first.list l stands)))

-- ---- a list with more steps

-- what the lane said of a ledger over its keeper it says still
abbrev pub StillFor : (s t : Standing) → Type 0
StillFor s t = (l : Ledger) → Tells s.keeping.content (IsFor s.owed s.entries s.messages l) → Tells t.keeping.content (IsFor t.owed t.entries t.messages l)

-- who owes a cut still has a side step
abbrev pub StillOwes : (s t : Standing) → Type 0
StillOwes s t = (s.owed ≡ true → 0 < s.sides) → t.owed ≡ true → 0 < t.sides

pub owes_nothing : (s t : Standing) → t.owed ≡ false → StillOwes s t
owes_nothing s t owed was on = absurd (false≢true (sym owed ∙ on))

-- where memory and keeper say of the ledger with the steps' entries what they said of the ledger
list_on : (s t : Standing) (more l : List Step) → IsBeside s t more → AreNoted t.keeping.faults more → t.keeping.checkpoints ≡ s.keeping.checkpoints + stored more → StillOwes s t
    → (Tells s.keeping.content (IsFor s.owed s.entries s.messages (ledger l)) → Tells t.keeping.content (IsFor t.owed t.entries t.messages (ledger l ++ ledger more))) → LaneStands s l → LaneStands t (l ++ more)
list_on s t more l beside noted points owes still stands = record {
  number = omega (arith, beside.entered, beside.sides, stands.number, length-append l more, length-parts more);
  last = beside.last ∙ ap (option_or (last_side more)) stands.last ∙ sym (last-append l more);
  noted = noted-append t.keeping.faults l more (noted_more s.keeping.faults t.keeping.faults l beside.later stands.noted) noted;
  owes = owes stands.owes;
  told = tells_both t.keeping.content (IsFor t.owed t.entries t.messages (ledger l ++ ledger more)) (λ _. s.keeping.checkpoints ≡ s.opened + stored l) (IsTold t (l ++ more))
      (λ c is count. record { stands = rw (ledger-append l more) is; checkpoints = omega (arith, points, count, beside.opened, stored-append l more) })
      (still (tells_from s.keeping.content _ _ (λ c told. told.stands) stands.told))
      (told_too s.keeping.content t.keeping.content _ beside.told (tells_from s.keeping.content _ _ (λ c told. told.checkpoints) stands.told));
}

-- ---- an entry is entered

-- the verdict by what the ledger's entries made is that of the ledger
said_by : (e : Entries) (l : Ledger) (raw : Raw) → e ≡ entries_of l → IsLegal l → verdict_in e.state raw ≡ verdict l raw
said_by e l raw is legal = ap (λ f. verdict_in f.state raw) is ∙ ap (λ s. verdict_in s raw) (state-entries_of l) ∙ verdict-state_of l raw legal

-- the keeper with the record is kept for the ledger with the entry
pub kept_next : (e : Entries) (d : Pushed) (l : Ledger) (raw : Raw) (c : Content) → IsFor false e d l c → IsLoggable (raw, verdict_in e.state raw) → e.entered < largest → IsKept false (l ++ (raw, verdict_in e.state raw) ∷ []) (add_record (raw_printed raw) c)
kept_next e d l raw c is loggable few =
    kept_entered l raw _ c is.kept (said_by e l raw is.entries is.kept.legal) loggable (omega (arith, few, ap (λ f. f.entered) is.entries, entered-entries_of l))

-- what memory and keeper say of the ledger with the entry
pub for_entered : (s t : Standing) (ms : List Message) (raw : Raw) (l : Ledger) → KeepsSame (with_record (raw_printed raw) (with_deltas ms s.keeping)) t.keeping → t.entries ≡ taken_up s.entries raw → s.owed ≡ false → t.owed ≡ false
    → IsLoggable (raw, verdict_in s.entries.state raw) → s.entries.entered < largest
    → ((o : List Message) → Tells s.keeping.content (StandFor s.messages o) → Tells t.keeping.content (StandFor t.messages (o ++ messages_of (verdict_in s.entries.state raw))))
    → Tells s.keeping.content (IsFor s.owed s.entries s.messages l) → Tells t.keeping.content (IsFor t.owed t.entries t.messages (l ++ (raw, verdict_in s.entries.state raw) ∷ []))
for_entered s t ms raw l same entries level owed loggable few stands is =
    let v = verdict_in s.entries.state raw in
    let grown : Ledger = l ++ (raw, v) ∷ [] in
    told_changed s.keeping.content t.keeping.content (λ c. add_record (raw_printed raw) (put_behind ms c)) (IsFor s.owed s.entries s.messages l) (StandFor t.messages (order l ++ messages_of v)) (IsFor t.owed t.entries t.messages grown)
    (same.content ∙ twice (put_behind ms) (add_record (raw_printed raw)) s.keeping.content)
    (λ c one stand.
    let whole : StandFor t.messages (order grown) (add_record (raw_printed raw) (put_behind ms c)) = rw (order-push l (raw, v)) stand in
    record {
      kept = rw owed (kept_more false grown ms (add_record (raw_printed raw) c) whole.stand.deltas (kept_next s.entries s.messages l raw c (rw level at one) loggable few));
      entries = entries ∙ ap (λ e. taken_up e raw) one.entries ∙ taken-entries_of l raw one.kept.legal ∙ ap (λ w. entries_of (l ++ (raw, w) ∷ [])) (sym (said_by s.entries l raw one.entries one.kept.legal));
      messages = whole;
    })
    is (stands (order l) (tells_from s.keeping.content _ _ (λ c one. one.messages) is))

pub enters : (s t : Standing) (ms : List Message) (raw : Raw) → KeepsSame (with_record (raw_printed raw) (with_deltas ms s.keeping)) t.keeping → s.keeping.faults ≤ t.keeping.faults → t.entries ≡ taken_up s.entries raw → s.owed ≡ false → t.owed ≡ false
    → IsLoggable (raw, verdict_in s.entries.state raw) → s.entries.entered < largest → t.sides ≡ s.sides → t.last ≡ s.last → t.opened ≡ s.opened → t.limits ≡ s.limits
    → ((o : List Message) → Tells s.keeping.content (StandFor s.messages o) → Tells t.keeping.content (StandFor t.messages (o ++ messages_of (verdict_in s.entries.state raw))))
    → Goes s t (Entered raw (verdict_in s.entries.state raw) ∷ [])
enters s t ms raw same faults entries level owed loggable few sides last opened limits stands =
    let more : List Step = Entered raw (verdict_in s.entries.state raw) ∷ [] in
    let told = ap is_some same.content ∙ told_map (add_record (raw_printed raw)) (option_map (put_behind ms) s.keeping.content) ∙ told_map (put_behind ms) s.keeping.content in
    let entered : t.entries.entered ≡ s.entries.entered + 1 = ap (λ e. e.entered) entries ∙ taken-entered s.entries raw in
    let beside : IsBeside s t more = record { limits = limits; opened = opened; told = told; later = faults; entered = omega (arith, entered); sides = omega (arith, sides); last = last } in
    goes_of s t more beside (λ l. list_on s t more l beside tt (omega (arith, same.checkpoints)) (owes_nothing s t owed) (for_entered s t ms raw (ledger l) same entries level owed loggable few stands))

-- ---- how a call ends: with no step, or with the note of a failed call

pub record Ends (s t : Standing) (more : List Step) : Type 0 where
  pub sides : t.sides ≡ s.sides + asides more
  pub last : t.last ≡ option_or (last_side more) s.last
  pub noted : AreNoted t.keeping.faults more
  pub none : ledger more ≡ []
  pub unstored : stored more ≡ 0

pub quietly : (s t : Standing) → t.sides ≡ s.sides → t.last ≡ s.last → Ends s t []
quietly s t sides last = record { sides = omega (arith, sides); last = last; noted = tt; none = refl; unstored = refl }

-- by an answer that adds none
pub quietly_by : (s t : Standing) (more : List Step) → [] ≡ more → t.sides ≡ s.sides → t.last ≡ s.last → Ends s t more
quietly_by s t more none sides last = subst (Ends s t) none (quietly s t sides last)

pub failed : (s t : Standing) (note : FaultNote) → t.sides ≡ s.sides + 1 → t.last ≡ Some (Failed note) → note.after ≡ t.keeping.faults → Ends s t (Aside (Failed note) ∷ [])
failed s t note sides last noted = record { sides = sides; last = last; noted = (omega (arith, noted), tt); none = refl; unstored = refl }

pub owes_still : (s t : Standing) (more : List Step) → Ends s t more → t.owed ≡ s.owed → StillOwes s t
owes_still s t more end owed was on = omega (arith, end.sides, was (sym owed ∙ on))

pub ends : (s t : Standing) (more : List Step) → Ends s t more → is_some t.keeping.content ≡ is_some s.keeping.content → t.keeping.checkpoints ≡ s.keeping.checkpoints → s.keeping.faults ≤ t.keeping.faults → t.entries.entered ≡ s.entries.entered
    → t.opened ≡ s.opened → t.limits ≡ s.limits → StillOwes s t → StillFor s t → Goes s t more
ends s t more end told points faults entered opened limits owes still =
    let beside : IsBeside s t more = record { limits = limits; opened = opened; told = told; later = faults; entered = omega (arith, entered, ap length end.none); sides = end.sides; last = end.last } in
    goes_of s t more beside (λ l. list_on s t more l beside end.noted (omega (arith, points, end.unstored)) owes (λ is. rw (end.none, append-nil) (still (ledger l) is)))

-- the keeper keeps the same
pub goes_same : (s t : Standing) (more : List Step) → Ends s t more → KeepsSame s.keeping t.keeping → s.keeping.faults ≤ t.keeping.faults → t.entries ≡ s.entries → t.messages ≡ s.messages → t.owed ≡ s.owed → t.opened ≡ s.opened → t.limits ≡ s.limits → Goes s t more
goes_same s t more end same faults entries messages owed opened limits =
    ends s t more end (ap is_some same.content) same.checkpoints faults (ap (λ e. e.entered) entries) opened limits (owes_still s t more end owed) (λ l is. rw (same.content, entries, messages, owed) is)

pub goes_nowhere : (s : Standing) → Goes s s []
goes_nowhere s = goes_same s s [] (quietly s s refl refl) (same_itself s.keeping) (omega arith) refl refl refl refl refl

-- its log was cut to the entered entries
pub goes_cut : (s t : Standing) (more : List Step) (n : ℕ) → Ends s t more → n ≡ s.entries.entered → KeepsSame (cut_to n s.keeping) t.keeping → s.keeping.faults ≤ t.keeping.faults → t.entries ≡ s.entries → t.messages ≡ s.messages → t.owed ≡ false
    → t.opened ≡ s.opened → t.limits ≡ s.limits → Goes s t more
goes_cut s t more n end count same faults entries messages owed opened limits =
    ends s t more end (ap is_some same.content ∙ told_map (keep_records n) s.keeping.content) same.checkpoints faults (ap (λ e. e.entered) entries) opened limits (owes_nothing s t owed)
    (λ l is. rw (same.content, entries, messages, owed)
    (tells_becomes s.keeping.content (keep_records n) (IsFor s.owed s.entries s.messages l) (IsFor false s.entries s.messages l)
    (λ c one. record {
      kept = kept_cut s.owed n l c (count ∙ ap (λ e. e.entered) one.entries ∙ entered-entries_of l) one.kept;
      entries = one.entries;
      messages = same_stand s.messages s.messages (order l) c (keep_records n c) refl refl refl one.messages;
    }) is))

-- what stands for an order over the keeper before stands for it over the one behind
abbrev pub StillStand : (s t : Standing) → Type 0
StillStand s t = (o : List Message) → Tells s.keeping.content (StandFor s.messages o) → Tells t.keeping.content (StandFor t.messages o)

-- messages were put among its deltas, behind what else became of it
pub goes_put : (s t : Standing) (more : List Step) (ms : List Message) (other : Content → Content) → Ends s t more → t.keeping.content ≡ option_map (λ c. put_behind ms (other c)) s.keeping.content → t.keeping.checkpoints ≡ s.keeping.checkpoints
    → s.keeping.faults ≤ t.keeping.faults → t.entries ≡ s.entries → t.opened ≡ s.opened → t.limits ≡ s.limits → StillOwes s t → StillStand s t → ((l : Ledger) (c : Content) → IsKept s.owed l c → IsKept t.owed l (other c)) → Goes s t more
goes_put s t more ms other end content points faults entries opened limits owes still kept =
    ends s t more end (ap is_some content ∙ told_map (λ c. put_behind ms (other c)) s.keeping.content) points faults (ap (λ e. e.entered) entries) opened limits owes
    (λ l is. told_changed s.keeping.content t.keeping.content (λ c. put_behind ms (other c)) (IsFor s.owed s.entries s.messages l) (StandFor t.messages (order l)) (IsFor t.owed t.entries t.messages l) content
    (λ c one stand. record { kept = kept_more t.owed l ms (other c) stand.stand.deltas (kept l c one.kept); entries = entries ∙ one.entries; messages = stand }) is
    (still (order l) (tells_from s.keeping.content _ _ (λ c one. one.messages) is)))

-- what stands for the order and no message more
pub still_nothing : (s t : Standing) → ((o : List Message) → Tells s.keeping.content (StandFor s.messages o) → Tells t.keeping.content (StandFor t.messages (o ++ []))) → StillStand s t
still_nothing s t still o is = rw append-nil at (still o is)

-- a prefix of them is some of them
pub prefix_some : (ms : List Message) (old new : Keeping) → PutsPrefix ms old new → PutsSome ms old new
prefix_some ms old new prefix = record { count = prefix.count; kept = prefix.puts.kept }

-- some messages were put to make room, and nothing else happened
pub goes_some : (s t : Standing) (more : List Step) (ms : List Message) → Ends s t more → PutsSome ms s.keeping t.keeping → s.keeping.faults ≤ t.keeping.faults → t.entries ≡ s.entries → t.owed ≡ s.owed → t.opened ≡ s.opened → t.limits ≡ s.limits
    → ((o : List Message) → Tells s.keeping.content (StandFor s.messages o) → Tells t.keeping.content (StandFor t.messages (o ++ []))) → Goes s t more
goes_some s t more ms end puts faults entries owed opened limits still =
    goes_put s t more (take puts.count ms) (λ c. c) end puts.kept.content puts.kept.checkpoints faults entries opened limits (owes_still s t more end owed) (still_nothing s t still) (λ l c kept. rw owed kept)

-- an append failed behind them: from now on a cut is owed
pub goes_broken : (s t : Standing) (more : List Step) (ms : List Message) (raw : Raw) → Ends s t more → 0 < asides more → Fits raw → IsTorn (raw_printed raw) (with_deltas ms s.keeping) t.keeping → s.keeping.faults ≤ t.keeping.faults → t.entries ≡ s.entries → s.owed ≡ false → t.owed ≡ true
    → t.opened ≡ s.opened → t.limits ≡ s.limits → ((o : List Message) → Tells s.keeping.content (StandFor s.messages o) → Tells t.keeping.content (StandFor t.messages (o ++ []))) → Goes s t more
goes_broken s t more ms raw end some fits torn faults entries level owed opened limits still = by torn.left
  where
    by : KeepsSame (with_deltas ms s.keeping) t.keeping ⊎ KeepsSame (with_record (raw_printed raw) (with_deltas ms s.keeping)) t.keeping → Goes s t more
    by (inl same) =
        goes_put s t more ms (λ c. c) end same.content same.checkpoints faults entries opened limits (λ was on. omega (arith, end.sides, some)) (still_nothing s t still) (λ l c kept. rw owed (kept_owed s.owed l c kept))
    by (inr same) =
        goes_put s t more ms (add_record (raw_printed raw)) end (same.content ∙ twice (put_behind ms) (add_record (raw_printed raw)) s.keeping.content) same.checkpoints faults entries opened limits (λ was on. omega (arith, end.sides, some))
        (still_nothing s t still) (λ l c kept. rw owed (kept_torn l raw c (rw level at kept) fits torn.is_text))

-- ---- side steps

pub stored_beside : (s r t : Standing) (number : ℕ) (text : List ℕ) → KeepsSame (with_checkpoint text s.keeping) t.keeping → s.keeping.faults ≤ t.keeping.faults → t.entries ≡ s.entries → t.sides ≡ s.sides + 1 → t.last ≡ Some (Stored number) → t.opened ≡ s.opened
    → t.limits ≡ s.limits → s ≡ r → IsBeside r t (Aside (Stored number) ∷ [])
stored_beside s r t number text same faults entries sides last opened limits is =
    subst (λ u. IsBeside u t (Aside (Stored number) ∷ [])) is (record {
      limits = limits;
      opened = opened;
      told = ap is_some same.content ∙ told_map (add_checkpoint text) s.keeping.content;
      later = faults;
      entered = omega (arith, ap (λ e. e.entered) entries);
      sides = sides;
      last = last;
    })

-- a checkpoint was stored
pub stored_list : (s t : Standing) (number : ℕ) (text : List ℕ) (l : List Step) → IsBeside s t (Aside (Stored number) ∷ []) → IsPrinted s.entries text → KeepsSame (with_checkpoint text s.keeping) t.keeping → t.entries ≡ s.entries → t.messages ≡ s.messages
    → t.owed ≡ s.owed → Tells s.keeping.content (AreAll (order (ledger l))) → LaneStands s l → LaneStands t (l ++ Aside (Stored number) ∷ [])
stored_list s t number text l beside printed same entries messages owed all stands =
    list_on s t (Aside (Stored number) ∷ []) l beside (tt, tt) (omega (arith, same.checkpoints)) (λ was on. omega (arith, beside.sides)) (λ is. rw (append-nil, same.content, entries, messages, owed) (by s.keeping.content all is)) stands
  where
    by : (o : Option Content) → Tells o (AreAll (order (ledger l))) → Tells o (IsFor s.owed s.entries s.messages (ledger l)) → Tells (option_map (add_checkpoint text) o) (IsFor s.owed s.entries s.messages (ledger l))
    by None all is = tt
    by (Some c) all is = record {
      kept = kept_stored s.owed (ledger l) c text (subst (λ e. IsPrinted e text) is.entries printed) all is.kept;
      entries = is.entries;
      messages = same_stand s.messages s.messages (order (ledger l)) c (add_checkpoint text c) refl refl refl is.messages;
    }

-- what is read to restart is put in place of what was in memory, and it is the same
pub goes_restarted : (s r t : Standing) (number : ℕ) → Goes s r [] → t.keeping ≡ r.keeping → t.entries.entered ≡ r.entries.entered → t.owed ≡ r.owed → t.sides ≡ r.sides + 1 → t.last ≡ Some (Restarted number) → t.opened ≡ r.opened → t.limits ≡ r.limits
    → ((l : List Step) → LaneStands s l → Tells r.keeping.content (λ _. t.entries ≡ entries_of (ledger l))) → ((l : List Step) → LaneStands s l → Tells r.keeping.content (StandFor t.messages (order (ledger l))))
    → Goes s t (Aside (Restarted number) ∷ [])
goes_restarted s r t number goes keeping entered owed sides last opened limits entries messages =
    let more : List Step = Aside (Restarted number) ∷ [] in
    let faults = ap (λ k. k.faults) keeping in
    let beside : IsBeside r t more = record { limits = limits; opened = opened; told = ap (λ k. is_some k.content) keeping; later = omega (arith, faults); entered = omega (arith, entered); sides = sides; last = last } in
    goes_of s t more (beside_on s r t more goes beside)
    (λ l stands. list_on r t more l beside (tt, tt) (omega (arith, ap (λ k. k.checkpoints) keeping)) (λ was on. omega (arith, sides))
    (λ is. rw (append-nil, keeping, owed)
    (tells_both r.keeping.content (λ c. IsFor r.owed r.entries r.messages (ledger l) c × (t.entries ≡ entries_of (ledger l))) (StandFor t.messages (order (ledger l))) (IsFor r.owed t.entries t.messages (ledger l))
    (λ c both stand. record { kept = both.0.kept; entries = both.1; messages = stand })
    (tells_both r.keeping.content _ _ _ (λ c one same. (one, same)) is (entries l stands)) (messages l stands)))
    (nothing_less r l (goes.list l stands)))

-- ---- what the keeper is left as

left_by : (s : Standing) (l : List Step) (c : Content) (owed : Bool) → s.entries.entered + s.sides ≤ largest → LaneStands s l → IsTold s l c → s.owed ≡ owed → IsLeftFor owed (ledger l) c
left_by s l c false few stands told is = subst (λ o. IsKept o (ledger l) c) is told.stands.kept
left_by s l c true few stands told is =
    kept_whole (ledger l) c (subst (λ o. IsKept o (ledger l) c) is told.stands.kept) (omega (arith, few, stands.owes is, ap (λ e. e.entered) told.stands.entries, entered-entries_of (ledger l)))

pub left_for : (s : Standing) (l : List Step) → s.entries.entered + s.sides ≤ largest → LaneStands s l → Tells s.keeping.content (IsLeftFor s.owed (ledger l))
left_for s l few stands = tells_from s.keeping.content (IsTold s l) (IsLeftFor s.owed (ledger l)) (λ c told. left_by s l c s.owed few stands told refl) stands.told
