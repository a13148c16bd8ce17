-- What the acts of a workload leave between its beginning and its end.
use Rattle.std.proofs.Common.{◌≡◌, ℕ, zero, suc, ◌+◌, ◌*◌, ◌-ℤ◌, ◌%◌, ◌==◌, ◌≤◌, arith, Bool, true, false, cond, if◌then◌else◌, not, ◌&&◌, List, [], ◌∷◌, ◌++◌, length, fold, All, Option, Some, None, IfSome, option_map, option_and_then, bytes_eq, refl, sym, ap, subst, ◌∙◌, length-append, take_all}
use Rattle.std.specs.Prelude.{⊤, nat_lt, nat_le, pos}
use Rattle.std.specs.Option.{option_to_list}
use Rattle.std.specs.FinMap.{get, insert}
use Rattle.std.proofs.lemmas.List.{take-append-le}
use Rattle.std.proofs.lemmas.List.Elements.{All-take}
use Rattle.fluid_json.specs.Tree.{Tree, null, whole}
use Rattle.fluid_table.proofs.Places.{get_inserted}
use Rattle.fluid_tree.specs.Laws.{IsIdReadBack}
use Rattle.fluid_types.specs.Forms.{largest}
use Rattle.fluid_types.specs.Ledger.{Ledger}
use Rattle.fluid_types.specs.declared.entries.Raw.{Raw}
use Rattle.fluid_types.specs.declared.entries.Submission.{Submission}
use Rattle.fluid_types.specs.declared.entries.Offered.{Offered}
use Rattle.fluid_types.specs.declared.entries.Offered.TheVariants.{Op, Noop as Nothing}
use Rattle.fluid_rules.specs.Rules.{kind_of, ledger, entries_behind}
use Rattle.fluid_rules.specs.Scribe.{is_summarize}
use Rattle.fluid_rules.specs.ScribeLaws.{AcksGrow, AnswersSayWhatIsMeant, PendingIsLeast, OrdersAreAnsweredInTurn}
use Rattle.fluid_rules.specs.declared.limits.Limits.{Limits}
use Rattle.fluid_document.specs.Kept.{IsLoggable}
use Rattle.fluid_edits.specs.declared.edit.Edit.TheVariants as edit
use Rattle.fluid_edits.specs.Forms.{contents_of}
use Rattle.fluid_gen.specs.Acts.{joins, Choice, edit as edit_of, choice, collects, rounds, turns}
use Rattle.fluid_gen.specs.Drawing.{draw, number_in, state_after}
use Rattle.fluid_gen.specs.declared.act.Act.{Act}
use Rattle.fluid_gen.specs.declared.act.Act.TheVariants.{Begin, Join, Collect, Noop, Again, Gap, Set, Delete, Increment, Round, Finish}
use Rattle.fluid_orders.specs.Laws.{OrdersAreTold}
use Rattle.fluid_store.specs.Held.{Keeps}
use Rattle.fluid_store.specs.Laws.{GoesOnStanding}
use Rattle.fluid_loader.specs.Laws.{IsReplayBehind, StayBased, IsHonestVersion}
use Rattle.fluid_loader.specs.Submitting.{numbered}
use Rattle.fluid_steps.specs.declared.steps.Step.{Step}
use Rattle.fluid_steps.specs.declared.steps.Step.TheVariants as step
use Rattle.fluid_transcript.specs.World.{World, document}
use Rattle.fluid_transcript.specs.Connections.{voice_of}
use Rattle.fluid_transcript.specs.Sound.{ledger_in}
use Rattle.fluid_transcript.proofs.Begins.{ledger_more}
use Rattle.fluid_workload.specs.Working.{Workload, work, m, n, p, q, named, last_number, key_of, connecting, id_at, last_collected, work_ledger, within, first_noop, op, op_behind_gap, last_again, submits, newest, stepped, behind_deed, behind_saying, behind_act, behind_acts}
use Rattle.fluid_turns.specs.Leaving.{SubmissionsLeaveAll}
use Rattle.fluid_alike.specs.Alike.{IsReadable}
use Rattle.fluid_alike.proofs.Mild.{joins_in, subject, joins_of, IsMildStep}
use Rattle.fluid_alike.proofs.Doing.{IsHonestIn}
use Rattle.fluid_alike.proofs.Fresh.{IsPlacedBelow, placed_more}
use Rattle.fluid_alike.proofs.Apart.{client_is_not_q}
use Rattle.fluid_alike.proofs.Deeds.{Stands, Leads, mild_leads, summarize_leads, scribe_leads, entry_leads}

-- ---- what holds between two acts

-- what a client submitted asks for no summary
abbrev pub IsModest : Submission → Type 0
IsModest s = is_summarize (kind_of s.kind) ≡ false

-- with so many entries at most, and so many joins among them
pub record Holds (entries joins : ℕ) (w : Workload) : Type 0 where
  pub stands : Stands w.world
  pub free : get w.world.names q ≡ None
  pub entries_few : length (document w.world work).raws ≤ entries
  pub joins_few : joins_in (document w.world work).raws ≤ joins
  pub placed : All (IsPlacedBelow (length (document w.world work).raws)) (document w.world work).raws
  pub honest : IsReadable w.world → IsHonestIn w.world
  pub sent : (c : List ℕ) → IfSome (get w.sent c) IsModest

-- ---- what can be read behind a deed could be before

first_entries : (l more : Ledger) → All IsLoggable (l ++ more) → All IsLoggable l
first_entries l more all = subst (All IsLoggable) (take-append-le (length l) l more (omega arith) ∙ take_all (length l) l (omega arith)) (All-take IsLoggable (length l) (l ++ more) all)

pub readable_before : (old new : World) (more : List Raw) → (document new work).raws ≡ (document old work).raws ++ more → Keeps old.store new.store → IsReadable new → IsReadable old
readable_before old new more is keeps readable =
    let on : ledger_in new work ≡ ledger_in old work ++ entries_behind (ledger_in old work) more = ap ledger is ∙ ledger_more (document old work).raws more in
    record {
      entries = first_entries (ledger_in old work) (entries_behind (ledger_in old work) more) (subst (All IsLoggable) on readable.entries);
      few = omega (arith, readable.few, ap length on, length-append (ledger_in old work) (entries_behind (ledger_in old work) more));
      short = λ id bytes has. readable.short id bytes (keeps id bytes has);
    }

-- ---- a deed

joins_more : (xs ys : List Raw) → joins_in (xs ++ ys) ≡ joins_in xs + joins_in ys
joins_more [] ys = omega arith
joins_more (x ∷ xs) ys = omega (arith, joins_more xs ys)

-- the workload behind a deed that leads, whatever is kept of what was sent
leads_on : (entries joins more : ℕ) (c : List ℕ) (w new : Workload) → Holds entries joins w → bytes_eq q c ≡ false → Leads c more w.world new.world → ((c : List ℕ) → IfSome (get new.sent c) IsModest) → Holds (entries + 1) (joins + more) new
leads_on entries joins more c w new was other leads sent =
    let goes = leads.goes in
    let old = (document w.world work).raws in
    record {
      stands = leads.stands;
      free = goes.names q other ∙ was.free;
      entries_few = omega (arith, was.entries_few, goes.few, ap length goes.is, length-append old goes.more);
      joins_few = omega (arith, was.joins_few, goes.joining, ap joins_in goes.is, joins_more old goes.more);
      placed = subst (λ raws. All (IsPlacedBelow (length raws)) raws) (sym goes.is) (placed_more (length old) old goes.more refl goes.few was.placed goes.placed);
      honest = λ readable. let before = readable_before w.world new.world goes.more goes.is goes.keeps readable in goes.honest before (was.honest before);
      sent = sent;
    }

-- fewer are no more
pub weaker : (entries joins e j : ℕ) (w : Workload) → entries ≤ e → joins ≤ j → Holds entries joins w → Holds e j w
weaker entries joins e j w le lj was = record {
  stands = was.stands;
  free = was.free;
  entries_few = omega (arith, was.entries_few, le);
  joins_few = omega (arith, was.joins_few, lj);
  placed = was.placed;
  honest = was.honest;
  sent = was.sent;
}

-- a mild step
pub mild_on : (standing : GoesOnStanding) (grow : AcksGrow) (limits : Limits) (entries joins : ℕ) (w : Workload) (s : Step) → Holds entries joins w → IsMildStep s → bytes_eq q (subject s) ≡ false
    → Holds (entries + 1) (joins + joins_of s) (stepped limits w s)
mild_on standing grow limits entries joins w s was mild other =
    leads_on entries joins (joins_of s) (subject s) w (stepped limits w s) was other (mild_leads standing grow limits w.world s was.stands mild) was.sent

module _ (standing : GoesOnStanding) (grow : AcksGrow) (replays : IsReplayBehind) (based : StayBased) (back : IsIdReadBack) (told : OrdersAreTold) (says : AnswersSayWhatIsMeant) (least : PendingIsLeast) (turn : OrdersAreAnsweredInTurn)
    (versions : IsHonestVersion) (leave : SubmissionsLeaveAll) (limits : Limits) where
  -- ---- what a client has

  kept_modest : (b : Bool) (w : Workload) (c : List ℕ) (s : Submission) → IsModest s → ((c : List ℕ) → IfSome (get w.sent c) IsModest) → (o : List ℕ) → IfSome (get (if b then insert w.sent c s else w.sent) o) IsModest
  kept_modest true w c s modest was o = subst (λ x. IfSome x IsModest) (sym (get_inserted w.sent c s o)) (by (bytes_eq o c))
    where
      by : (b : Bool) → IfSome (cond b (Some s) (get w.sent o)) IsModest
      by true = modest
      by false = was o
  kept_modest false w c s modest was o = was o

  not_of : (b : Bool) → b ≡ false → not b ≡ true
  not_of true h = absurd (cc)
  not_of false h = refl

  submits_on : (entries joins : ℕ) (w : Workload) (client : ℕ) (id : List ℕ) (s : Submission) → Holds entries joins w → id_at (voice_of w.world (named client)) ≡ Some id → IsModest s → Holds (entries + 1) joins (behind_deed limits w (submits client id s))
  submits_on entries joins w client id s was writes modest =
      let new = behind_deed limits w (submits client id s) in
      weaker (entries + 1) (joins + 0) (entries + 1) joins new (omega arith) (omega arith)
      (leads_on entries joins 0 (named client) w new was (client_is_not_q client)
      (entry_leads standing grow limits w.world client id s (not_of (is_summarize (kind_of s.kind)) modest) leave was.stands writes)
      (kept_modest _ w (named client) s modest was.sent))

  -- what it has to submit asks for no summary
  abbrev Modestly : (Workload → (client : ℕ) → (id : List ℕ) → Option Submission) → Workload → Type 0
  Modestly has w = (client : ℕ) (id : List ℕ) → IfSome (has w client id) IsModest

  saying_on : (entries joins : ℕ) (w : Workload) (client : ℕ) (has : Workload → (client : ℕ) → (id : List ℕ) → Option Submission) → Holds entries joins w → Modestly has w → Holds (entries + 1) joins (behind_saying limits w client has)
  saying_on entries joins w client has was modest = by_id (id_at (voice_of w.world (named client))) refl
    where
      by_has : (id : List ℕ) → id_at (voice_of w.world (named client)) ≡ Some id → (o : Option Submission) → IfSome o IsModest → Holds (entries + 1) joins (fold (behind_deed limits) w (option_to_list (option_map (submits client id) o)))
      by_has id writes None is = weaker entries joins (entries + 1) joins w (omega arith) (omega arith) was
      by_has id writes (Some s) is = submits_on entries joins w client id s was writes is

      by_id : (o : Option (List ℕ)) → id_at (voice_of w.world (named client)) ≡ o → Holds (entries + 1) joins (fold (behind_deed limits) w (option_to_list (option_and_then (λ id. option_map (submits client id) (has w client id)) o)))
      by_id None is = weaker entries joins (entries + 1) joins w (omega arith) (omega arith) was
      by_id (Some id) is = by_has id is (has w client id) (modest client id)

  within_modest : (number reference : ℕ) (kind : Offered) (contents : Tree) → is_summarize (kind_of kind) ≡ false → IfSome (within number reference kind contents) IsModest
  within_modest number reference kind contents is = by (nat_le number largest && nat_le reference largest)
    where
      by : (b : Bool) → IfSome (if b then Some (numbered number reference kind contents) else None) IsModest
      by true = is
      by false = tt

  -- ---- an act

  -- how many entries it may bring, and how many joins
  abbrev most_entries : Act → ℕ
  most_entries Round = 5
  most_entries act = 1

  abbrev most_joins : Act → ℕ
  most_joins (Join client) = 1
  most_joins act = 0

  -- it stands neither at the beginning nor at the end
  abbrev IsMiddle : Act → Type 0
  IsMiddle Begin = ⊥
  IsMiddle Finish = ⊥
  IsMiddle act = ⊤

  summarize_on : (entries joins : ℕ) (w : Workload) → Holds entries joins w → Holds (entries + 1) (joins + 0) (stepped limits w (step.Summarize p))
  summarize_on entries joins w was = leads_on entries joins 0 p w (stepped limits w (step.Summarize p)) was refl (summarize_leads standing grow replays based back told limits w.world was.stands) was.sent

  scribe_on : (entries joins : ℕ) (w : Workload) → Holds entries joins w → Holds (entries + 1) (joins + 0) (stepped limits w (step.Scribe work))
  scribe_on entries joins w was = leads_on entries joins 0 [] w (stepped limits w (step.Scribe work)) was refl (scribe_leads standing grow says least turn versions limits w.world was.stands) was.sent

  round_on : (entries joins : ℕ) (w : Workload) → Holds entries joins w → Holds (entries + 5) (joins + 0) (behind_act limits w Round)
  round_on entries joins w was =
      let w1 = stepped limits w (step.Pump p) in
      let w2 = stepped limits w1 (step.Summarize p) in
      let w3 = stepped limits w2 (step.Scribe work) in
      let w4 = stepped limits w3 (step.Checkpoint work) in
      let w5 = stepped limits w4 (step.Restart work (newest w4.world)) in
      let one = mild_on standing grow limits entries joins w (step.Pump p) was tt refl in
      let two = summarize_on (entries + 1) (joins + 0) w1 one in
      let three = scribe_on (entries + 1 + 1) (joins + 0 + 0) w2 two in
      let four = mild_on standing grow limits (entries + 1 + 1 + 1) (joins + 0 + 0 + 0) w3 (step.Checkpoint work) three tt refl in
      let five = mild_on standing grow limits (entries + 1 + 1 + 1 + 1) (joins + 0 + 0 + 0 + 0) w4 (step.Restart work (newest w4.world)) four tt refl in
      weaker (entries + 1 + 1 + 1 + 1 + 1) (joins + 0 + 0 + 0 + 0 + 0) (entries + 5) (joins + 0) w5 (omega arith) (omega arith) five

  said_on : (entries joins : ℕ) (w : Workload) (client : ℕ) (has : Workload → (client : ℕ) → (id : List ℕ) → Option Submission) → Holds entries joins w → Modestly has w → Holds (entries + 1) (joins + 0) (behind_saying limits w client has)
  said_on entries joins w client has was modest =
      weaker (entries + 1) joins (entries + 1) (joins + 0) (behind_saying limits w client has) (omega arith) (omega arith) (saying_on entries joins w client has was modest)

  act_on : (act : Act) → IsMiddle act → (entries joins : ℕ) (w : Workload) → Holds entries joins w → Holds (entries + most_entries act) (joins + most_joins act) (behind_act limits w act)
  act_on Begin is entries joins w was = absurd is
  act_on (Join client) is entries joins w was = mild_on standing grow limits entries joins w (step.Send (named client) connecting) was refl (client_is_not_q client)
  act_on (Collect client) is entries joins w was = mild_on standing grow limits entries joins w (step.Collect (named client)) was tt (client_is_not_q client)
  act_on (Noop client) is entries joins w was = said_on entries joins w client first_noop was (λ client id. within_modest 1 (last_collected w.world client) Nothing null refl)
  act_on (Again client) is entries joins w was = said_on entries joins w client last_again was (λ client id. was.sent (named client))
  act_on (Gap client) is entries joins w was =
      said_on entries joins w client op_behind_gap was (λ client id. within_modest (last_number (work_ledger w) id + 2) (last_collected w.world client) Op null refl)
  act_on (Set client key value) is entries joins w was =
      said_on entries joins w client (op (edit.Set m (key_of key) (whole (pos value)))) was
      (λ client id. within_modest (last_number (work_ledger w) id + 1) (last_collected w.world client) Op (contents_of (edit.Set m (key_of key) (whole (pos value)))) refl)
  act_on (Delete client key) is entries joins w was =
      said_on entries joins w client (op (edit.Delete m (key_of key))) was
      (λ client id. within_modest (last_number (work_ledger w) id + 1) (last_collected w.world client) Op (contents_of (edit.Delete m (key_of key))) refl)
  act_on (Increment client amount) is entries joins w was =
      said_on entries joins w client (op (edit.Increment n amount)) was
      (λ client id. within_modest (last_number (work_ledger w) id + 1) (last_collected w.world client) Op (contents_of (edit.Increment n amount)) refl)
  act_on Round is entries joins w was = round_on entries joins w was
  act_on Finish is entries joins w was = absurd is

  -- ---- acts

  abbrev all_entries : List Act → ℕ
  all_entries [] = 0
  all_entries (act ∷ acts) = most_entries act + all_entries acts

  abbrev all_joins : List Act → ℕ
  all_joins [] = 0
  all_joins (act ∷ acts) = most_joins act + all_joins acts

  abbrev AreMiddle : List Act → Type 0
  AreMiddle [] = Unit {0}
  AreMiddle (act ∷ acts) = IsMiddle act × AreMiddle acts

  pub acts_on : (acts : List Act) → AreMiddle acts → (entries joins : ℕ) (w : Workload) → Holds entries joins w → Holds (entries + all_entries acts) (joins + all_joins acts) (behind_acts limits w acts)
  acts_on [] are entries joins w was = weaker entries joins (entries + 0) (joins + 0) w (omega arith) (omega arith) was
  acts_on (act ∷ acts) are entries joins w was =
      weaker (entries + most_entries act + all_entries acts) (joins + most_joins act + all_joins acts) (entries + all_entries (act ∷ acts)) (joins + all_joins (act ∷ acts)) (behind_acts limits w (act ∷ acts)) (omega arith) (omega arith)
      (acts_on acts are.1 (entries + most_entries act) (joins + most_joins act) (behind_act limits w act) (act_on act are.0 entries joins w was))

  -- ---- the acts of the generator

  -- acts between the beginning and the end that bring no more than this
  record Brings (entries joins : ℕ) (acts : List Act) : Type 0 where
    are : AreMiddle acts
    entries_few : all_entries acts ≤ entries
    joins_few : all_joins acts ≤ joins

  brings_more : (a b c d : ℕ) (xs ys : List Act) → Brings a b xs → Brings c d ys → Brings (a + c) (b + d) (xs ++ ys)
  brings_more a b c d [] ys one other = record { are = other.are; entries_few = omega (arith, other.entries_few); joins_few = omega (arith, other.joins_few) }
  brings_more a b c d (x ∷ xs) ys one other =
      let rest = brings_more (all_entries xs) (all_joins xs) c d xs ys (record { are = one.are.1; entries_few = omega arith; joins_few = omega arith }) other in
      record { are = (one.are.0, rest.are); entries_few = omega (arith, one.entries_few, rest.entries_few); joins_few = omega (arith, one.joins_few, rest.joins_few) }

  joins_bring : (client count : ℕ) → Brings (3 * count) count (joins client count)
  joins_bring client zero = record { are = tt; entries_few = omega arith; joins_few = omega arith }
  joins_bring client (suc count) =
      let rest = joins_bring (client + 1) count in
      record { are = (tt, (tt, (tt, rest.are))); entries_few = omega (arith, rest.entries_few); joins_few = omega (arith, rest.joins_few) }

  -- what a client does in a turn
  record IsTurn (act : Act) : Type 0 where
    is : IsMiddle act
    entries_are : most_entries act ≤ 1
    joins_are : most_joins act ≤ 0

  abbrev edit_by : (client x : ℕ) (b c : Bool) → Choice
  edit_by client x b c =
      if b then record { client = client; act = Set client (draw 3 50 x) (draw 4 1000 x); draws = 4 }
      else (if c then record { client = client; act = Delete client (draw 3 50 x); draws = 3 } else record { client = client; act = Increment client (pos (draw 3 2001 x) -ℤ pos 1000); draws = 3 })

  edit_turn : (client x : ℕ) (b c : Bool) → IsTurn (edit_by client x b c).act
  edit_turn client x true c = record { is = tt; entries_are = omega arith; joins_are = omega arith }
  edit_turn client x false true = record { is = tt; entries_are = omega arith; joins_are = omega arith }
  edit_turn client x false false = record { is = tt; entries_are = omega arith; joins_are = omega arith }

  abbrev choice_by : (client x : ℕ) (b c : Bool) → Choice
  choice_by client x b c =
      if b then record { client = client; act = Again client; draws = 1 } else (if c then record { client = client; act = Gap client; draws = 1 } else edit_of client x)

  choice_turn_by : (client x : ℕ) (b c : Bool) → IsTurn (choice_by client x b c).act
  choice_turn_by client x true c = record { is = tt; entries_are = omega arith; joins_are = omega arith }
  choice_turn_by client x false true = record { is = tt; entries_are = omega arith; joins_are = omega arith }
  choice_turn_by client x false false = edit_turn client x (nat_lt (draw 2 4 x) 2) (draw 2 4 x == 2)

  choice_turn : (clients turn x : ℕ) → IsTurn (choice clients turn x).act
  choice_turn clients turn x = choice_turn_by (draw 1 clients x) x (turn % 10 == 0) (turn % 100 == 99)

  collects_bring : (client y : ℕ) → Brings 1 0 (collects client y)
  collects_bring client y = by (number_in y 2 == 0)
    where
      by : (b : Bool) → Brings 1 0 (if b then Collect client ∷ [] else [])
      by true = record { are = (tt, tt); entries_few = omega arith; joins_few = omega arith }
      by false = record { are = tt; entries_few = omega arith; joins_few = omega arith }

  rounds_bring : (turn : ℕ) → Brings 5 0 (rounds turn)
  rounds_bring turn = by (turn % 1000 == 0)
    where
      by : (b : Bool) → Brings 5 0 (if b then Round ∷ [] else [])
      by true = record { are = (tt, tt); entries_few = omega arith; joins_few = omega arith }
      by false = record { are = tt; entries_few = omega arith; joins_few = omega arith }

  turns_bring : (clients turn count x : ℕ) → Brings (7 * count) 0 (turns clients turn count x)
  turns_bring clients turn zero x = record { are = tt; entries_few = omega arith; joins_few = omega arith }
  turns_bring clients turn (suc count) x =
      let c = choice clients turn x in
      let y = state_after (suc c.draws) x in
      let own = choice_turn clients turn x in
      let more = brings_more 1 0 (5 + 7 * count) 0 (collects c.client y) (rounds turn ++ turns clients (turn + 1) count y) (collects_bring c.client y)
      (brings_more 5 0 (7 * count) 0 (rounds turn) (turns clients (turn + 1) count y) (rounds_bring turn) (turns_bring clients (turn + 1) count y)) in
      record { are = (own.is, more.are); entries_few = omega (arith, own.entries_are, more.entries_few); joins_few = omega (arith, own.joins_are, more.joins_few) }

  -- all between the beginning and the end
  pub middle_on : (number clients ops entries joined : ℕ) (w : Workload) → Holds entries joined w
      → Holds (entries + (3 * clients + 7 * ops)) (joined + clients) (behind_acts limits w (joins 0 clients ++ turns clients 1 ops number))
  middle_on number clients ops entries joined w was =
      let brings = brings_more (3 * clients) clients (7 * ops) 0 (joins 0 clients) (turns clients 1 ops number) (joins_bring 0 clients) (turns_bring clients 1 ops number) in
      let acts = joins 0 clients ++ turns clients 1 ops number in
      weaker (entries + all_entries acts) (joined + all_joins acts) (entries + (3 * clients + 7 * ops)) (joined + clients) (behind_acts limits w acts) (omega (arith, brings.entries_few)) (omega (arith, brings.joins_few))
      (acts_on acts brings.are entries joined w was)
