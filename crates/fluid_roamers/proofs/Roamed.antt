-- What calls on a roamer leave of it.
use Rattle.std.proofs.Common.{◌≡◌, inl, inr, ℕ, zero, suc, ◌+◌, ◌-◌, ◌<◌, ◌≤◌, arith, Bool, true, false, not, if◌then◌else◌, List, [], ◌∷◌, ◌++◌, length, map, get_or, reverse, Option, Some, None, is_some, option_map, Result, Ok, Err, refl, sym, ap, subst, ◌∙◌}
use Rattle.std.specs.Prelude.{IfOk, OnOk, nat_lt}
use Rattle.std.specs.FinMap.{get}
use Rattle.std.specs.List.{AllByRecursion}
use Rattle.std.proofs.lemmas.List.{length-map}
use Rattle.std.proofs.lemmas.Bool.{ltb-true}
use Rattle.fluid_outbox.specs.declared.line.Line.{Line}
use Rattle.fluid_json.specs.declared.memory.NoMemory.{NoMemory as NoRoom}
use Rattle.fluid_json.specs.Tree.{Tree, null}
use Rattle.fluid_json.specs.Unless.{IsUnless}
use Rattle.fluid_types.specs.declared.entries.Raw.{Raw}
use Rattle.fluid_types.specs.declared.entries.Raw.TheVariants.{Submit}
use Rattle.fluid_types.specs.declared.entries.Submission.{Submission}
use Rattle.fluid_types.specs.declared.messages.Message.{Message}
use Rattle.fluid_types.specs.Forms.{largest}
use Rattle.fluid_rules.specs.Past.{has_id}
use Rattle.fluid_edits.specs.declared.edit.Edit.{Edit}
use Rattle.fluid_edits.specs.Forms.{address_of, contents_of}
use Rattle.fluid_edits.specs.Replay.{kind_of}
use Rattle.fluid_runtime.specs.App.{AnApp, after_message, left, visible}
use Rattle.fluid_runtime.specs.Refused.{answer, refusal, unless_refused}
use Rattle.fluid_runtime.specs.declared.fault.EditFault.{EditFault}
use Rattle.fluid_runtime.specs.declared.fault.EditFault.TheVariants as edits_refused
use Rattle.fluid_outbox.specs.Past.{Past, Given, Call, Pushed, Joined, Gave, Heard, Lost, acknowledged, edits, ids, current, next, op_with, sent}
use Rattle.fluid_outbox.specs.Kept.{AnOutbox, Stands, StandsFor, past_of, with_edit, to_send, to_send_under}
use Rattle.fluid_outbox.proofs.Sending.{some_is}
use Rattle.fluid_containers.specs.Stepping.{IsShort}
use Rattle.fluid_roamers.specs.Taking.{IsSendable, IsShortOp, TakesIn, LaidOver, LaysOver, Gives, GivesOne, acks}
use Rattle.fluid_roamers.specs.declared.roamer.Roamer.{Roamer}
use Rattle.fluid_roamers.proofs.Calls.{calls_of, call_more, past_is}
use Rattle.fluid_roamers.proofs.Taken.{rises}
use Rattle.fluid_roamers.proofs.Keeping.{kept_pushed}

-- whatever is answered
pub always : {A B : Type 0} (P : Type 0) (r : Result A B) → P → OnOk r P
always P (Ok a) p = p
always P (Err b) p = tt

pub on_both : {A B : Type 0} (P Q R : Type 0) (r : Result A B) → (P → Q → R) → OnOk r P → OnOk r Q → OnOk r R
on_both P Q R (Ok a) f p q = f p q
on_both P Q R (Err b) f p q = tt

-- ---- a new client

current_lost : (past : Past) → current (Lost ∷ past) ≡ None
unfolding current
current_lost past = refl

ids_lost : (past : Past) → ids (Lost ∷ past) ≡ ids past
unfolding ids
ids_lost past = refl

abbrev LosesBy : AnOutbox → AnOutbox → Type 0
LosesBy old mid = (calls : List Call) → StandsFor old calls → StandsFor mid (calls ++ Lost ∷ [])

abbrev JoinsBy : List ℕ → AnOutbox → AnOutbox → Type 0
JoinsBy own mid new = (calls : List Call) → StandsFor mid calls → has_id own (ids (past_of calls)) ≡ false → StandsFor new (calls ++ Joined own ∷ [])

pub lost_by : (old mid : AnOutbox) (past : Past) → LosesBy old mid → Stands old past → Stands mid (Lost ∷ past)
lost_by old mid past loses stands = call_more mid past Lost (loses (reverse past) (calls_of old past stands))

pub joined_by : (old mid new : AnOutbox) (own client : List ℕ) (past : Past) → LosesBy old mid → JoinsBy own mid new → own ≡ client → Stands old past → has_id client (ids past) ≡ false → Stands new (Joined client ∷ Lost ∷ past)
joined_by old mid new own client past loses joins same stands fresh =
    let mid_stands = lost_by old mid past loses stands in
    subst (λ id. Stands new (Joined id ∷ Lost ∷ past)) same
    (call_more new (Lost ∷ past) (Joined own)
    (joins (reverse (Lost ∷ past)) (calls_of mid (Lost ∷ past) mid_stands)
    (ap (λ p. has_id own (ids p)) (past_is (Lost ∷ past)) ∙ ap (has_id own) (ids_lost past) ∙ ap (λ id. has_id id (ids past)) same ∙ fresh)))

-- ---- a message

pub takes_one : (past : Past) (m : Message) (own : Bool) (result : Result (Unit {0}) NoRoom) (old : Roamer) (outbox : AnOutbox) (app : AnApp) → Stands old.outbox past → Stands outbox (Heard m ∷ past)
    → own ≡ nat_lt old.outbox.acknowledged outbox.acknowledged → OnOk result (app.channels ≡ after_message old.app.channels m) → OnOk result (app.pending ≡ left own m old.app.pending)
    → OnOk result (TakesIn past (m ∷ []) old (record old { app = app; outbox = outbox }))
takes_one past m own result old outbox app before after own_is channels pending =
    on_both (app.channels ≡ after_message old.app.channels m) (app.pending ≡ left own m old.app.pending) (TakesIn past (m ∷ []) old (record old { app = app; outbox = outbox })) result
    (λ ch es. record {
      same = record { document = refl; client = refl; edits = refl };
      outbox = after;
      channels = ch;
      pending = es ∙ ap (λ b. left b m old.app.pending) own_acks;
    }) channels pending
  where
    own_acks : own ≡ acks past m
    own_acks = own_is ∙ ap (λ n. nat_lt n outbox.acknowledged) before.counted ∙ ap (nat_lt (acknowledged past)) after.counted ∙ rises past m

-- ---- an edit

-- why it isn't laid over
pub laid_err : (past : Past) (old new : Roamer) (edit : Edit) (fault : EditFault) → IsUnless {T = Tree} edits_refused.NoMemory (Err fault) (answer (visible old.app) edit) → new ≡ old → LaysOver past old edit new (Err fault)
laid_err past old new edit edits_refused.NoMemory why same = tt
laid_err past old new edit edits_refused.NoChannel why same = elim why [ inl is ↦ absurd (cc) | inr is ↦ record { why = sym is; same = same } ]
laid_err past old new edit edits_refused.WrongKind why same = elim why [ inl is ↦ absurd (cc) | inr is ↦ record { why = sym is; same = same } ]
laid_err past old new edit edits_refused.OutOfRange why same = elim why [ inl is ↦ absurd (cc) | inr is ↦ record { why = sym is; same = same } ]
laid_err past old new edit edits_refused.Exists why same = elim why [ inl is ↦ absurd (cc) | inr is ↦ record { why = sym is; same = same } ]

-- the contents that are answered are the edit's
answered_by : (edit : Edit) (o : Option EditFault) (contents : Tree) → Ok contents ≡ unless_refused edit o → contents ≡ contents_of edit
answered_by edit None contents is = cc
answered_by edit (Some fault) contents is = absurd (cc)

pub answered : (app : AnApp) (edit : Edit) (contents : Tree) → IsUnless edits_refused.NoMemory (Ok contents) (answer (visible app) edit) → contents ≡ contents_of edit
answered app edit contents why = elim why [ inl is ↦ absurd (cc) | inr is ↦ answered_by edit (refusal edit (option_map kind_of (get (visible app) (address_of edit)))) contents is ]

allowed_by : (app : AnApp) (edit : Edit) (contents : Tree) → IsUnless edits_refused.NoMemory (Ok contents) (answer (visible app) edit) → answer (visible app) edit ≡ Ok (contents_of edit)
allowed_by app edit contents why = elim why [ inl is ↦ absurd (cc) | inr is ↦ sym is ∙ ap (λ c. Ok c) (answered_by edit (refusal edit (option_map kind_of (get (visible app) (address_of edit)))) contents is) ]

pub laid_ok : (past : Past) (old : Roamer) (edit : Edit) (app : AnApp) (outbox : AnOutbox) (contents : Tree) (number n : ℕ) → IsUnless edits_refused.NoMemory (Ok contents) (answer (visible old.app) edit)
    → app ≡ record old.app { pending = old.app.pending ++ edit ∷ [] } → number ≡ length (edits past) → n ≡ number + 1 → Stands outbox (Pushed contents ∷ past) → LaidOver past old edit (record old { app = app; outbox = outbox; edits = n }) number
laid_ok past old edit app outbox contents number n why app_is number_is n_is stands = record {
  allowed = allowed_by old.app edit contents why;
  number_is = number_is;
  edits = n_is;
  document = refl;
  client = refl;
  app = app_is;
  outbox = subst (λ c. Stands outbox (Pushed c ∷ past)) (answered old.app edit contents why) stands;
}

-- ---- what is sent

abbrev submission_of : Option Given → Option Submission
submission_of o = option_map (λ (g : Given). g.submission) o

none_of : (o : Option Given) → None ≡ submission_of o → o ≡ None
none_of None is = refl
none_of (Some g) is = absurd (cc)

some_of : (o : Option Given) (s : Submission) → Some s ≡ submission_of o → (g : Given) × ((o ≡ Some g) × (s ≡ g.submission))
some_of None s is = absurd (cc)
some_of (Some g) s is = (g, (refl, cc))

pub gives_none : (past : Past) (moment reference : ℕ) (h : Roamer) (outbox : AnOutbox) → reference ≡ h.outbox.heard_to → None ≡ submission_of (next past reference) → outbox ≡ h.outbox → Gives past moment h (record h { outbox = outbox }) None
gives_none past moment reference h outbox at given same = (ap (next past) (sym at) ∙ none_of (next past reference) given, ap (λ o. record h { outbox = o }) same)

pub gives_some : (past : Past) (moment reference : ℕ) (h : Roamer) (outbox : AnOutbox) (s : Submission) (raw : Raw) → reference ≡ h.outbox.heard_to → Some s ≡ submission_of (next past reference)
    → ((g : Given) → next past reference ≡ Some g → Stands outbox (Gave g ∷ past)) → raw ≡ Submit h.client s moment → GivesOne past moment h (record h { outbox = outbox }) raw
gives_some past moment reference h outbox s raw at given stands is =
    let g = some_of (next past reference) s given in
    record {
      given = g.0;
      next_is = ap (next past) (sym at) ∙ g.1.0;
      raw_is = is ∙ ap (λ x. Submit h.client x moment) g.1.1;
      same = record { document = refl; client = refl; edits = refl };
      app = refl;
      outbox = stands g.0 g.1.0;
    }

-- what is given is the contents of an edit
nth_short : (es : List Edit) (i : ℕ) → i < length es → AllByRecursion IsShort es → (e : Edit) × (IsShort e × (get_or (map contents_of es) i null ≡ contents_of e))
nth_short [] i lt each = absurd (omega (arith, lt))
nth_short (e ∷ es) zero lt each = (e, (each.0, refl))
nth_short (e ∷ es) (suc i) lt each = nth_short es i (omega (arith, lt)) each.1

abbrev given_if : AnOutbox → (reference : ℕ) → Line → Bool → Option Submission
given_if o reference line b = if b then Some (op_with (line.sent + 1) reference (get_or o.pending (line.sent - line.acknowledged) null)) else None

placed_short : (o : AnOutbox) (kept : IsSendable o) (reference : ℕ) (s : Submission) → reference ≤ largest → (line : Line) (b : Bool) → nat_lt (line.sent - line.acknowledged) (length o.pending) ≡ b
    → Some s ≡ given_if o reference line (nat_lt (line.sent - line.acknowledged) (length o.pending)) → IsShortOp s
placed_short o kept reference s within line true lt is =
    let e = nth_short kept.said (line.sent - line.acknowledged) (omega (arith, ltb-true (line.sent - line.acknowledged) (length o.pending) lt, ap length kept.are, length-map kept.said contents_of)) kept.short in
    let first : s ≡ op_with (line.sent + 1) reference (get_or o.pending (line.sent - line.acknowledged) null) = some_is _ _ (is ∙ ap (given_if o reference line) lt) in
    let op : s ≡ op_with (line.sent + 1) reference (contents_of e.0) =
    first ∙ ap (λ es. op_with (line.sent + 1) reference (get_or es (line.sent - line.acknowledged) null)) kept.are ∙ ap (op_with (line.sent + 1) reference) e.1.1 in
    record {
      reference = reference;
      within = within;
      edit = e.0;
      short = e.1.0;
      is = op ∙ ap (λ n. op_with n reference (contents_of e.0)) (sym (ap (λ (x : Submission). x.client_number) op));
    }
placed_short o kept reference s within line false isnt is = let none : Some s ≡ None = is ∙ ap (given_if o reference line) isnt in absurd (cc)

under_short : (o : AnOutbox) (kept : IsSendable o) (reference : ℕ) (s : Submission) → reference ≤ largest → (line : Option Line) → Some s ≡ to_send_under o reference line → IsShortOp s
under_short o kept reference s within None is = absurd (cc)
under_short o kept reference s within (Some line) is = placed_short o kept reference s within line (nat_lt (line.sent - line.acknowledged) (length o.pending)) refl is

sent_short : (o : AnOutbox) (kept : IsSendable o) (reference : ℕ) (s : Submission) → reference ≤ largest → (awaited : Option Line) → Some s ≡ (if is_some awaited then None else to_send_under o reference o.current) → IsShortOp s
sent_short o kept reference s within None is = under_short o kept reference s within o.current is
sent_short o kept reference s within (Some line) is = absurd (cc)

pub short_op : (o : AnOutbox) (kept : IsSendable o) (reference : ℕ) (s : Submission) → reference ≤ largest → Some s ≡ to_send o reference → IsShortOp s
short_op o kept reference s within given = sent_short o kept reference s within o.awaited given

-- ---- as the calls are handed on

pub is_next : (o : AnOutbox) (past : Past) (reference : ℕ) (given : Option Submission) → ((calls : List Call) → StandsFor o calls → given ≡ submission_of (next (past_of calls) reference)) → Stands o past → given ≡ submission_of (next past reference)
is_next o past reference given is stands = is (reverse past) (calls_of o past stands) ∙ ap (λ p. submission_of (next p reference)) (past_is past)

pub gave_by : (old new : AnOutbox) (past : Past) (reference : ℕ) → ((calls : List Call) (g : Given) → StandsFor old calls → next (past_of calls) reference ≡ Some g → StandsFor new (calls ++ Gave g ∷ [])) → Stands old past
    → (g : Given) → next past reference ≡ Some g → Stands new (Gave g ∷ past)
gave_by old new past reference is stands g given =
    call_more new past (Gave g) (is (reverse past) g (calls_of old past stands) (ap (λ p. next p reference) (past_is past) ∙ given))

pub heard_by : (old new : AnOutbox) (m : Message) (past : Past) → ((calls : List Call) → StandsFor old calls → StandsFor new (calls ++ Heard m ∷ [])) → Stands old past → Stands new (Heard m ∷ past)
heard_by old new m past is stands = call_more new past (Heard m) (is (reverse past) (calls_of old past stands))

pub pushed_by : (old new : AnOutbox) (contents : Tree) (past : Past) → ((calls : List Call) → StandsFor old calls → StandsFor new (calls ++ Pushed contents ∷ [])) → Stands old past → Stands new (Pushed contents ∷ past)
pushed_by old new contents past is stands = call_more new past (Pushed contents) (is (reverse past) (calls_of old past stands))

pub numbered_by : (o : AnOutbox) (past : Past) (number : ℕ) → ((calls : List Call) → StandsFor o calls → number ≡ length (edits (past_of calls))) → Stands o past → number ≡ length (edits past)
numbered_by o past number is stands = is (reverse past) (calls_of o past stands) ∙ ap (λ p. length (edits p)) (past_is past)

pub none_mapped : {R : Type 0} (f : R → List ℕ) (r : Option R) → not (is_some r) ≡ not (is_some (option_map f r))
none_mapped f None = refl
none_mapped f (Some r) = refl

pub lost_if_none : {R : Type 0} (f : R → List ℕ) (r : Option R) (o : AnOutbox) (past : Past) → ((calls : List Call) → StandsFor o calls → option_map f r ≡ current (past_of calls)) → Stands o past → not (is_some r) ≡ not (is_some (current past))
lost_if_none f r o past is stands = none_mapped f r ∙ ap (λ x. not (is_some x)) (is (reverse past) (calls_of o past stands) ∙ ap current (past_is past))

pub kept_laid : (old new : AnOutbox) (app : AnApp) (edit : Edit) (contents : Tree) (kept : IsSendable old) → IsShort edit → IsUnless edits_refused.NoMemory (Ok contents) (answer (visible app) edit) → new ≡ with_edit old contents → IsSendable new
kept_laid old new app edit contents kept short why is = kept_pushed old new edit contents kept short (answered app edit contents why) is

pub gives_if : (past : Past) (moment : ℕ) (old new : Roamer) (own : List ℕ) (s : Submission) (result : Result (Option Raw) NoRoom) → IfOk result (λ raw. raw ≡ Some (Submit own s moment)) → ((raw : Raw) → raw ≡ Submit own s moment → GivesOne past moment old new raw)
    → IfOk result (Gives past moment old new)
gives_if past moment old new own s (Err refused) is gives = tt
gives_if past moment old new own s (Ok raw) is gives = subst (Gives past moment old new) (sym is) (gives (Submit own s moment) refl)
