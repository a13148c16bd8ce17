-- What was taken up of a keeper's log so far, and with one record more.
use Rattle.std.proofs.Common.{◌≡◌, ◌⊎◌, ℕ, suc, ◌+◌, ◌-◌, ◌^◌, ◌<◌, ◌≤◌, nat_le, if◌then◌else◌, false, List, [], ◌∷◌, ◌++◌, length, drop, drop-cons, map, slice_get, Option, Some, None, Ok, Err, refl, sym, ap, ◌∙◌, append_assoc, append-nil, length-append, arith, rules, le-leb}
use Rattle.std.specs.Option.{option_map}
use Rattle.std.proofs.lemmas.Bool.{lt-leb}
use Rattle.std.proofs.lemmas.Option.{slice_get_within, get_or_from_slice_get, slice_get-get_or}
use Rattle.std.proofs.lemmas.List.{drop_all, map-append}
use Rattle.fluid_io.specs.Causes.{Tells}
use Rattle.fluid_types.specs.declared.entries.Raw.{Raw}
use Rattle.fluid_types.specs.declared.messages.Message.{Message}
use Rattle.fluid_types.specs.Printed.{message_printed}
use Rattle.fluid_types.specs.Ledger.{Ledger}
use Rattle.fluid_log.specs.Keeping.{Content, Keeping, HasLengths}
use Rattle.fluid_log.specs.Calls.{KeepsSame}
use Rattle.fluid_log.proofs.Sameness.{same_itself}
use Rattle.fluid_deltas.specs.Pushed.{StandIn}
use Rattle.fluid_deltas.specs.Flushes.{put_behind}
use Rattle.fluid_deltas.proofs.Telling.{tells_each, tells_both, tells_along}
use Rattle.fluid_document.specs.declared.fault.LoadFault.{LoadFault}
use Rattle.fluid_document.specs.declared.fault.LoadFault.TheVariants.{LogFailed, DeltaFailed, NoMemory, BadRecord, BadCheckpoint, Worn}
use Rattle.fluid_types.specs.Forms.{largest}
use Rattle.fluid_document.specs.Entries.{Entries, InMemory, taken_up}
use Rattle.fluid_document.specs.Kept.{IsKept}
use Rattle.fluid_document.specs.Loading.{record_in, with_record, log_folded, IsRecord, DecodesAs, IsBadAs, IsLoadFault, HasRead, PutsDeltas}
use Rattle.fluid_document.specs.Puts.{PutsFirst, PutsEarly, PutsFew}
use Rattle.fluid_document.specs.Taking.{StandOn, IsTaken, IsLeft, StandsAt, IsOutside}
use Rattle.fluid_document.proofs.Keeps.{tells_over}
use Rattle.fluid_document.proofs.Takes.{takes_entry, leaves_entry}

-- ---- deltas that were put

with_nothing : (content : Option Content) → content ≡ option_map (put_behind []) content
with_nothing None = refl
with_nothing (Some c) = ap (λ texts. Some (record { log = c.log; deltas = texts; checkpoints = c.checkpoints })) (sym (append-nil c.deltas))

pub puts_none : (old new : Keeping) → KeepsSame old new → PutsDeltas old new
puts_none old new same = record {
  messages = [];
  kept = record { content = same.content ∙ with_nothing old.content; records = same.records; deltas = omega (arith, same.deltas); checkpoints = same.checkpoints };
}

with_both : (xs ys : List Message) (content : Option Content) → option_map (put_behind ys) (option_map (put_behind xs) content) ≡ option_map (put_behind (xs ++ ys)) content
with_both xs ys None = refl
with_both xs ys (Some c) =
    ap (λ texts. Some (record { log = c.log; deltas = texts; checkpoints = c.checkpoints }))
    (append_assoc c.deltas (map message_printed xs) (map message_printed ys) ∙ ap (λ texts. c.deltas ++ texts) (sym (map-append message_printed xs ys)))

pub puts_both : (old mid new : Keeping) → PutsDeltas old mid → PutsDeltas mid new → PutsDeltas old new
puts_both old mid new first second = record {
  messages = first.messages ++ second.messages;
  kept = record {
    content = second.kept.content ∙ ap (option_map (put_behind second.messages)) first.kept.content ∙ with_both first.messages second.messages old.content;
    records = second.kept.records ∙ first.kept.records;
    deltas = omega (arith, first.kept.deltas, second.kept.deltas, length-append first.messages second.messages);
    checkpoints = second.kept.checkpoints ∙ first.kept.checkpoints;
  };
}

-- the fold of the log from the first place on is that of what is taken up to this place, from there on
abbrev pub FoldsOn : Entries → Entries → ℕ → Content → Type 0
FoldsOn first now place content = log_folded first (drop first.entered content.log) ≡ log_folded now (drop place content.log)

pub record HasFolded (old new : Keeping) (first now : InMemory) (place : ℕ) : Type 0 where
  pub later : old.faults ≤ new.faults
  pub puts : PutsDeltas old new
  pub entered : now.entries.entered ≡ place
  pub within : first.entries.entered ≤ place
  pub reads : HasRead (place - first.entries.entered) old.reads new.reads
  pub folds : Tells old.content (FoldsOn first.entries now.entries place)
  pub reached : now.messages.before ≤ new.deltas
  pub early : PutsFirst now.messages.before old new
  pub lacked : PutsFew place old new
  pub stands : (l : Ledger) → Tells old.content (StandsAt l first first.entries.entered) → Tells new.content (StandsAt l now place)

pub has_folded_nothing : (k : Keeping) (m : InMemory) → m.messages.before ≤ k.deltas → HasFolded k k m m m.entries.entered
has_folded_nothing k m reached = record {
  later = omega arith;
  puts = puts_none k k (same_itself k);
  entered = refl;
  within = omega arith;
  reads = λ few. omega arith;
  folds = tells_each k.content (FoldsOn m.entries m.entries m.entries.entered) (λ c. refl);
  reached = reached;
  early = omega (arith, reached);
  lacked = omega arith;
  stands = λ l stands. stands;
}

-- ---- one record

-- the fold goes on with the record in this place
goes_on : (first now : Entries) (place : ℕ) (c : Content) (text : List ℕ) → now.entered ≡ place → FoldsOn first now place c → slice_get c.log place ≡ Some text
    → log_folded first (drop first.entered c.log) ≡ (if nat_le largest place then Err Worn else with_record place (record_in text) (λ raw. log_folded (taken_up now raw) (drop (place + 1) c.log)))
unfolding log_folded
goes_on first now place c text at so_far kept =
    let next : suc place ≡ place + 1 = omega arith in
    let behind : drop place c.log ≡ text ∷ drop (place + 1) c.log =
    drop-cons c.log place text (slice_get_within c.log place text kept) ∙ ap (λ x. x ∷ drop (suc place) c.log) (get_or_from_slice_get c.log place text text kept) ∙ ap (λ from. text ∷ drop from c.log) next in
    so_far ∙ ap (log_folded now) behind ∙ rw at refl

nothing_left : (first now : Entries) (place : ℕ) (c : Content) → length c.log ≤ place → FoldsOn first now place c → log_folded first (drop first.entered c.log) ≡ Ok now
unfolding log_folded
nothing_left first now place c le so_far = so_far ∙ ap (log_folded now) (drop_all place c.log le)

-- ---- all that is known

taken-entered : (e : Entries) (raw : Raw) → (taken_up e raw).entered ≡ e.entered + 1
unfolding taken_up
taken-entered e raw = refl

-- a fault of a later call is one of the whole
pub cause_behind : (records mid_records before mid now : ℕ) (fault : LoadFault) → mid_records ≡ records → before ≤ mid → IsLoadFault mid_records mid now fault → IsLoadFault records before now fault
cause_behind records mid_records before mid now (LogFailed note) same le is = record { first = omega (arith, le, is.first); last = is.last; rose = is.rose }
cause_behind records mid_records before mid now (DeltaFailed note) same le is = (record { first = omega (arith, le, is.0.first); last = is.0.last; rose = is.0.rose }, omega (arith, same, is.1))
cause_behind records mid_records before mid now NoMemory same le is = tt
cause_behind records mid_records before mid now (BadRecord place) same le is = tt
cause_behind records mid_records before mid now (BadCheckpoint number fault) same le is = tt
cause_behind records mid_records before mid now Worn same le is = omega (arith, same, is)

read_one : (n before mid now m : ℕ) → m ≡ n + 1 → HasRead n before mid → HasRead 1 mid now → before + m < 2 ^ 64 → now ≡ before + m
read_one n before mid now m is first next bound =
    let here : mid ≡ before + n = first (omega (arith, is, bound)) in
    omega (arith, here, is, next (omega (arith, here, is, bound)))

bad_as : (first now : Entries) (place : ℕ) (c d : Content) (fault : LoadFault) → now.entered ≡ place → place < largest → FoldsOn first now place c → d.log ≡ c.log → DecodesAs d place (Err fault)
    → IsBadAs (log_folded first (drop first.entered c.log)) fault
bad_as first now place c d (BadRecord bad) at few so_far same is =
    goes_on first now place c is.1.text at so_far (rw same at is.1.kept) ∙ rw (lt-leb largest place few, is.1.decodes) (ap (λ n. Err (BadRecord n)) (sym is.0))
bad_as first now place c d fault at few so_far same is = search rules

module _ (old mid : Keeping) (first now : InMemory) (place : ℕ) (has : HasFolded old mid first now place) where
  pub has_folded_more : (new : Keeping) (next : InMemory) → place < largest → place < old.records → Tells mid.content (HasLengths mid) → mid.faults ≤ new.faults → HasRead 1 mid.reads new.reads → PutsDeltas mid new → next.messages.before ≤ new.deltas
      → PutsEarly now.messages.before next.messages.before mid new → PutsFew place mid new → IsTaken place mid new now next → HasFolded old new first next (place + 1)
  has_folded_more new next few lt sized later reads puts reached early lacked taken = record {
    later = omega (arith, has.later, later);
    puts = puts_both old mid new has.puts puts;
    entered = ap (λ e. e.entered) taken.entries ∙ taken-entered now.entries taken.raw ∙ ap (λ n. n + 1) has.entered;
    within = omega (arith, has.within);
    reads = λ bound. read_one (place - first.entries.entered) old.reads mid.reads new.reads (place + 1 - first.entries.entered) (omega (arith, has.within)) has.reads reads bound;
    folds = tells_over old mid has.puts (FoldsOn first.entries now.entries place) (λ c. IsRecord c place (Some taken.raw)) (FoldsOn first.entries next.entries (place + 1))
        (λ c so_far one. rw taken.entries (goes_on first.entries now.entries place c one.text has.entered so_far one.kept ∙ rw (lt-leb largest place few, one.decodes) refl)) has.folds taken.is;
    reached = reached;
    early = omega (arith, has.early, early.0, early.1);
    lacked = omega (arith, has.early, has.lacked, lacked);
    stands = λ l stands. takes_entry l place mid new now next (omega (arith, lt, has.puts.kept.records)) sized puts taken (has.stands l stands);
  }

  pub has_folded_bad : (fault : LoadFault) → place < largest → Tells mid.content (λ c. DecodesAs c place (Err fault)) → Tells old.content (λ c. IsBadAs (log_folded first.entries (drop first.entries.entered c.log)) fault)
  has_folded_bad fault few is =
      tells_over old mid has.puts (FoldsOn first.entries now.entries place) (λ c. DecodesAs c place (Err fault)) _
      (λ c so_far one. bad_as first.entries now.entries place c (put_behind has.puts.messages c) fault has.entered few so_far refl one) has.folds is

  pub has_folded_left : (new : Keeping) (next : InMemory) (fault : LoadFault) → place < old.records → Tells mid.content (HasLengths mid) → PutsDeltas mid new → KeepsSame mid new ⊎ IsLeft place mid new now next fault → (l : Ledger)
      → Tells old.content (StandsAt l first first.entries.entered) → Tells new.content (IsKept false l)
  has_folded_left new next fault lt sized puts left l stands = leaves_entry l place mid new now next fault (omega (arith, lt, has.puts.kept.records)) sized puts left (has.stands l stands)

  pub has_folded_worn : largest ≤ place → place < old.records → Tells old.content (HasLengths old) → Tells old.content (λ c. log_folded first.entries (drop first.entries.entered c.log) ≡ Err Worn)
  has_folded_worn full lt sized =
      tells_both old.content (FoldsOn first.entries now.entries place) (HasLengths old) _ (λ c so_far lengths.
      goes_on first.entries now.entries place c _ has.entered so_far (slice_get-get_or c.log place [] (omega (arith, lt, lengths.records))) ∙ rw (le-leb largest place full) refl) has.folds sized

  pub has_folded_all : old.records ≤ place → Tells old.content (HasLengths old) → Tells old.content (λ c. log_folded first.entries (drop first.entries.entered c.log) ≡ Ok now.entries)
  has_folded_all le sized =
      tells_both old.content (FoldsOn first.entries now.entries place) (HasLengths old) _ (λ c so_far lengths. nothing_left first.entries now.entries place c (omega (arith, le, lengths.records)) so_far) has.folds sized

-- ---- one record that isn't taken up

pub decodes_outside : (place : ℕ) (told : Option Content) (fault : LoadFault) → IsOutside fault → Tells told (λ c. DecodesAs c place (Err fault))
decodes_outside place told (LogFailed note) is = tells_each told _ (λ c. tt)
decodes_outside place told (DeltaFailed note) is = tells_each told _ (λ c. tt)
decodes_outside place told NoMemory is = tells_each told _ (λ c. tt)
decodes_outside place told fault is = search rules

pub left_behind : (place : ℕ) (old mid new : Keeping) (before now : InMemory) (raw : Raw) (fault : LoadFault) → KeepsSame old mid → Tells old.content (λ c. DecodesAs c place (Ok raw)) → StandOn {A = Unit {0}} mid new before now raw (Err fault)
    → IsLeft place old new before now fault
left_behind place old mid new before now raw fault same is stands = record {
  raw = raw;
  is = is;
  stands = λ order next told. stands order next (tells_along old.content mid.content (StandIn before.messages order) (sym same.content) told);
}
