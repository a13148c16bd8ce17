-- Which answers a call has, by the list of steps for which its lane stands, from what the lane's gate says.
use Rattle.std.proofs.Common.{◌≡◌, ℕ, ◌+◌, ◌<◌, ◌≤◌, true, false, Bool, ◌&&◌, List, [], ◌∷◌, length, map, is_some, Option, Some, None, Result, Ok, Err, ◌⊎◌, inl, inr, refl, sym, ap, subst, ◌∙◌, arith}
use Rattle.std.specs.Prelude.{nat_le, IfOk, IfErr, IfSome, OnOk}
use Rattle.std.proofs.lemmas.Bool.{false≢true}
use Rattle.std.proofs.lemmas.Option.{none-some, same_Some}
use Rattle.fluid_io.specs.Causes.{Rose, Tells}
use Rattle.fluid_io.specs.declared.faults.FaultNote.{FaultNote}
use Rattle.fluid_json.specs.Tree.{Tree}
use Rattle.fluid_types.specs.Names.{entry_name}
use Rattle.fluid_types.specs.Ledger.{order}
use Rattle.fluid_types.specs.Printed.{message_printed}
use Rattle.fluid_types.specs.declared.entries.Raw.{Raw}
use Rattle.fluid_types.specs.declared.entries.Raw.TheVariants.{Join, Leave}
use Rattle.fluid_types.specs.declared.entries.Scopes.{Scopes}
use Rattle.fluid_types.specs.declared.messages.Message.{Message}
use Rattle.fluid_types.specs.declared.verdicts.Verdict.{Verdict}
use Rattle.fluid_types.specs.declared.verdicts.Verdict.TheVariants.{Sequenced}
use Rattle.fluid_rules.specs.Rules.{verdict, IsLegal}
use Rattle.fluid_rules.specs.Past.{is_sequenced}
use Rattle.fluid_rules.specs.Counted.{is_counted, has_too_many_clients}
use Rattle.fluid_scribe.specs.declared.job.Job.{Job}
use Rattle.fluid_core.specs.Entering.{verdict_in, job_of}
use Rattle.fluid_types.specs.Forms.{largest}
use Rattle.fluid_document.specs.Entries.{entries_of}
use Rattle.fluid_document.specs.Kept.{checkpoint_text}
use Rattle.fluid_document.proofs.Onwards.{verdict-number}
use Rattle.fluid_lane.proofs.Safe.{not_worn}
use Rattle.fluid_lane.specs.declared.fault.LaneFault.{LaneFault}
use Rattle.fluid_lane.specs.declared.fault.LaneFault.TheVariants.{LogFailed, Full, BadRecord, NoCheckpoint, CheckpointsFull, TooManyClients, DeltaFailed, NoMemory, BadCheckpoint, TooLarge, Worn}
use Rattle.fluid_lane.specs.declared.steps.Step.{Step}
use Rattle.fluid_lane.specs.Faults.{IsCausedBy, IsLogFailed, IsOutside, IsReadFault}
use Rattle.fluid_lane.specs.declared.steps.Side.{Side}
use Rattle.fluid_lane.specs.declared.steps.Step.TheVariants.{Entered, Aside}
use Rattle.fluid_lane.specs.Steps.{ledger, steps, last_side, asides}
use Rattle.std.specs.Option.{option_or}
use Rattle.fluid_lane.specs.Standing.{Standing, LaneStands, IsTold, is_worn}
use Rattle.fluid_lane.specs.Refusals.{IsCause, IsGated, first_refusal, is_full, is_full_for, has_too_many, has_checkpoints, has_no_checkpoint}
use Rattle.fluid_lane.specs.Calls as lanes
use Rattle.fluid_lane.specs.Calls.{Stores, StoreKept}
use Rattle.fluid_lane.specs.Restarts as restarts
use Rattle.fluid_lane.specs.Sweeps.{first_silent, SweepsBy, IsSwept}
use Rattle.fluid_lane.specs.Laws.{LaneSays, SaysOf}
use Rattle.fluid_doors.specs.declared.bench.Terms.{Terms}
use Rattle.fluid_doors.specs.Terms.{terms_of}
use Rattle.fluid_doors.specs.Answers.{is_worn_behind, IsNotWorn, WornBy, IsFailure, IsRuled, Answers}
use Rattle.fluid_doors.specs.Entering.{IsSubmitFault, IsJoinFault, HasNumbers, Submits, Reports, Joins, IsJoined, IsJoinOf, with_id, id_in, is_full_at, is_full_by, has_too_many_at, Sweeps, SweepsFirst, IsWorn, IsLeaveAt, left_id, with_left, verdict_left}
use Rattle.fluid_doors.specs.Storing.{IsCheckpointFault, IsRestartFault, Checkpoints, Restarts, IsStoreFault, IsStored, stored_in, has_checkpoints_at, has_none_at}
use Rattle.fluid_doors.specs.Scribing.{IsJobOf}
use Rattle.fluid_doors.specs.Laws.{NewIsKept}

-- ---- the list

pub worn_same : (s : Standing) (l : List Step) → LaneStands s l → is_worn s ≡ is_worn_behind l
worn_same s l stands = ap (nat_le largest) stands.number

-- a keeper that tells its content tells this
pub told_is : {A : Type 0} (o : Option A) (Q : Type 0) → is_some o ≡ true → Tells o (λ _. Q) → Q
told_is None Q is tells = absurd (false≢true is)
told_is (Some a) Q is tells = tells

-- ---- faults

pub outside_not_worn : (f : LaneFault) → IsOutside f → IsNotWorn f
outside_not_worn (LogFailed note) may = tt
outside_not_worn (Full n) may = tt
outside_not_worn (BadRecord n) may = tt
outside_not_worn (NoCheckpoint a s) may = tt
outside_not_worn CheckpointsFull may = tt
outside_not_worn TooManyClients may = tt
outside_not_worn (DeltaFailed note) may = tt
outside_not_worn NoMemory may = tt
outside_not_worn (BadCheckpoint n f) may = tt
outside_not_worn (TooLarge n) may = tt
outside_not_worn Worn may = may

log_not_worn : (f : LaneFault) → IsLogFailed f → IsNotWorn f
log_not_worn (LogFailed note) may = tt
log_not_worn (Full n) may = tt
log_not_worn (BadRecord n) may = tt
log_not_worn (NoCheckpoint a s) may = tt
log_not_worn CheckpointsFull may = tt
log_not_worn TooManyClients may = tt
log_not_worn (DeltaFailed note) may = tt
log_not_worn NoMemory may = tt
log_not_worn (BadCheckpoint n f) may = tt
log_not_worn (TooLarge n) may = tt
log_not_worn Worn may = may

-- no rule refuses as worn
abbrev AreNotWorn : List (Bool × LaneFault) → Type 0
AreNotWorn [] = Unit {0}
AreNotWorn (rule ∷ rules) = IsNotWorn rule.1 × AreNotWorn rules

refusal_not_worn : (rules : List (Bool × LaneFault)) (refusal : LaneFault) → AreNotWorn rules → first_refusal rules ≡ Some refusal → IsNotWorn refusal
refusal_not_worn [] refusal none is = absurd (none-some _ is)
refusal_not_worn ((true, fault) ∷ rules) refusal none is = subst IsNotWorn (same_Some _ _ is) none.0
refusal_not_worn ((false, fault) ∷ rules) refusal none is = refusal_not_worn rules refusal none.1 is

cause_not_worn : (old new : Standing) (rules : List (Bool × LaneFault)) (may : LaneFault → Type 0) (fault : LaneFault) → AreNotWorn rules → ((f : LaneFault) → may f → IsNotWorn f) → IsCause old new may (first_refusal rules) fault → IsNotWorn fault
cause_not_worn old new rules may fault none each cause = by (first_refusal rules) refl cause
  where
    by : (o : Option LaneFault) → first_refusal rules ≡ o → IsCause old new may o fault → IsNotWorn fault
    by None is is_may = each fault is_may
    by (Some refusal) is refused = elim refused [
      | inl same ↦ subst IsNotWorn (sym same) (refusal_not_worn rules refusal none is)
      | inr cut ↦ log_not_worn fault cut.0
    ]

if_err : {A : Type 0} (result : Result A LaneFault) (P Q : LaneFault → Type 0) → ((f : LaneFault) → P f → Q f) → IfErr result P → IfErr result Q
if_err (Ok a) P Q from p = tt
if_err (Err fault) P Q from p = from fault p

pub if_ok : {A E : Type 0} (result : Result A E) (P Q : A → Type 0) → ((a : A) → P a → Q a) → IfOk result P → IfOk result Q
if_ok (Ok a) P Q from p = from a p
if_ok (Err fault) P Q from p = tt

-- ---- faults over any keeper

-- the keeper failed at the log
log_any : (P : LaneFault → Type 0) → ((note : FaultNote) → Rose note.before note.after → P (LogFailed note)) → (before now : ℕ) (f : LaneFault) → IsLogFailed f → IsCausedBy before now f → P f
log_any P has before now (LogFailed note) may cause = has note cause.rose
log_any P has before now (Full n) may cause = absurd may
log_any P has before now (BadRecord n) may cause = absurd may
log_any P has before now (NoCheckpoint a b) may cause = absurd may
log_any P has before now CheckpointsFull may cause = absurd may
log_any P has before now TooManyClients may cause = absurd may
log_any P has before now (DeltaFailed note) may cause = absurd may
log_any P has before now NoMemory may cause = absurd may
log_any P has before now (BadCheckpoint n f) may cause = absurd may
log_any P has before now (TooLarge n) may cause = absurd may
log_any P has before now Worn may cause = absurd may

pub failure : (before now : ℕ) (f : LaneFault) → IsOutside f → IsCausedBy before now f → IsFailure f
failure before now (LogFailed note) may cause = cause.rose
failure before now (Full n) may cause = absurd may
failure before now (BadRecord n) may cause = absurd may
failure before now (NoCheckpoint a b) may cause = absurd may
failure before now CheckpointsFull may cause = absurd may
failure before now TooManyClients may cause = absurd may
failure before now (DeltaFailed note) may cause = cause.rose
failure before now NoMemory may cause = tt
failure before now (BadCheckpoint n f) may cause = absurd may
failure before now (TooLarge n) may cause = absurd may
failure before now Worn may cause = absurd may

submit_fault : (t : Terms) (raw : Raw) (before now : ℕ) (f : LaneFault) → IsOutside f → IsCausedBy before now f → IsSubmitFault t raw f
submit_fault t raw before now (LogFailed note) may cause = cause.rose
submit_fault t raw before now (Full n) may cause = absurd may
submit_fault t raw before now (BadRecord n) may cause = absurd may
submit_fault t raw before now (NoCheckpoint a b) may cause = absurd may
submit_fault t raw before now CheckpointsFull may cause = absurd may
submit_fault t raw before now TooManyClients may cause = absurd may
submit_fault t raw before now (DeltaFailed note) may cause = cause.rose
submit_fault t raw before now NoMemory may cause = tt
submit_fault t raw before now (BadCheckpoint n f) may cause = absurd may
submit_fault t raw before now (TooLarge n) may cause = absurd may
submit_fault t raw before now Worn may cause = absurd may

join_fault : (t : Terms) (before now : ℕ) (f : LaneFault) → IsOutside f → IsCausedBy before now f → IsJoinFault t f
join_fault t before now (LogFailed note) may cause = cause.rose
join_fault t before now (Full n) may cause = absurd may
join_fault t before now (BadRecord n) may cause = absurd may
join_fault t before now (NoCheckpoint a b) may cause = absurd may
join_fault t before now CheckpointsFull may cause = absurd may
join_fault t before now TooManyClients may cause = absurd may
join_fault t before now (DeltaFailed note) may cause = cause.rose
join_fault t before now NoMemory may cause = tt
join_fault t before now (BadCheckpoint n f) may cause = absurd may
join_fault t before now (TooLarge n) may cause = absurd may
join_fault t before now Worn may cause = absurd may

checkpoint_fault : (s : Standing) (before now : ℕ) (f : LaneFault) → lanes.IsStoreFault s f → IsCausedBy before now f → IsCheckpointFault (terms_of s) f
checkpoint_fault s before now (LogFailed note) may cause = cause.rose
checkpoint_fault s before now (Full n) may cause = absurd may
checkpoint_fault s before now (BadRecord n) may cause = absurd may
checkpoint_fault s before now (NoCheckpoint a b) may cause = absurd may
checkpoint_fault s before now CheckpointsFull may cause = absurd may
checkpoint_fault s before now TooManyClients may cause = absurd may
checkpoint_fault s before now (DeltaFailed note) may cause = cause.rose
checkpoint_fault s before now NoMemory may cause = tt
checkpoint_fault s before now (BadCheckpoint n f) may cause = absurd may
checkpoint_fault s before now (TooLarge n) may cause = may.1
checkpoint_fault s before now Worn may cause = absurd may

restart_fault : (number before now : ℕ) (f : LaneFault) → IsReadFault f → IsCausedBy before now f → IsRestartFault number f
restart_fault number before now (LogFailed note) may cause = cause.rose
restart_fault number before now (Full n) may cause = absurd may
restart_fault number before now (BadRecord n) may cause = tt
restart_fault number before now (NoCheckpoint a b) may cause = absurd may
restart_fault number before now CheckpointsFull may cause = absurd may
restart_fault number before now TooManyClients may cause = absurd may
restart_fault number before now (DeltaFailed note) may cause = cause.rose
restart_fault number before now NoMemory may cause = tt
restart_fault number before now (BadCheckpoint n f) may cause = tt
restart_fault number before now (TooLarge n) may cause = absurd may
restart_fault number before now Worn may cause = absurd may

-- a rule that refuses has a fault of the call
abbrev pub AreNamed : (LaneFault → Type 0) → List (Bool × LaneFault) → Type 0
AreNamed faults [] = Unit {0}
AreNamed faults (rule ∷ rules) = (rule.0 ≡ true → faults rule.1) × AreNamed faults rules

refusal_named : (faults : LaneFault → Type 0) (rules : List (Bool × LaneFault)) (refusal : LaneFault) → AreNamed faults rules → first_refusal rules ≡ Some refusal → faults refusal
refusal_named faults [] refusal are is = absurd (none-some _ is)
refusal_named faults ((true, fault) ∷ rules) refusal are is = subst faults (same_Some _ _ is) (are.0 refl)
refusal_named faults ((false, fault) ∷ rules) refusal are is = refusal_named faults rules refusal are.1 is

-- the faults of a call: they have those of its rules, those that may come, and that the log failed
pub record Names (before now : ℕ) (faults may : LaneFault → Type 0) (rules : List (Bool × LaneFault)) : Type 0 where
  pub rules_are : AreNamed faults rules
  pub each : (f : LaneFault) → may f → IsCausedBy before now f → faults f
  pub log : (note : FaultNote) → Rose note.before note.after → faults (LogFailed note)

cause_named : (old new : Standing) (rules : List (Bool × LaneFault)) (may faults : LaneFault → Type 0) (fault : LaneFault) → Names old.keeping.faults new.keeping.faults faults may rules
    → IsCause old new may (first_refusal rules) fault → IsCausedBy old.keeping.faults new.keeping.faults fault → faults fault
cause_named old new rules may faults fault names cause caused = by (first_refusal rules) refl cause
  where
    by : (o : Option LaneFault) → first_refusal rules ≡ o → IsCause old new may o fault → faults fault
    by None is is_may = names.each fault is_may caused
    by (Some refusal) is refused = elim refused [
      | inl same ↦ subst faults (sym same) (refusal_named faults rules refusal names.rules_are is)
      | inr cut ↦ log_any faults names.log old.keeping.faults new.keeping.faults fault cut.0 caused
    ]

both_err : {A : Type 0} (result : Result A LaneFault) (P Q R : LaneFault → Type 0) → ((f : LaneFault) → P f → Q f → R f) → IfErr result P → IfErr result Q → IfErr result R
both_err (Ok a) P Q R from p q = tt
both_err (Err fault) P Q R from p q = from fault p q

counted_too : (a b : Bool) → (a && b) ≡ true → b ≡ true
counted_too true b is = is
counted_too false b is = absurd (false≢true is)

nat_le-le : (a b : ℕ) → nat_le a b ≡ true → a ≤ b
nat_le-le a b is = grind arith

-- ---- the gate

pub worn_by : {A : Type 0} (old new : Standing) (l : List Step) (rules : List (Bool × LaneFault)) (may : LaneFault → Type 0) (result : Result A LaneFault) → AreNotWorn rules → ((f : LaneFault) → may f → IsNotWorn f) → LaneStands old l → IsGated old new rules may result
    → WornBy (is_worn_behind l) result
worn_by old new l rules may result none each stands gate = by (is_worn_behind l) refl
  where
    by : (b : Bool) → is_worn_behind l ≡ b → WornBy b result
    by true is = (gate.worn (worn_same old l stands ∙ is)).0
    by false is = if_err result _ _ (λ f cause. cause_not_worn old new rules may f none each cause) (gate.refuses (worn_same old l stands ∙ is))

-- the steps are the entered ones and the others
steps_length : (l : List Step) → length (ledger l) + asides l ≡ length l
steps_length [] = refl
steps_length (Entered raw verdict ∷ l) = let rest = steps_length l in omega (arith, rest)
steps_length (Aside side ∷ l) = let rest = steps_length l in omega (arith, rest)

-- a cut is owed only behind a side step
owed_behind : (s : Standing) (l : List Step) → LaneStands s l → SaysOf s (ledger l) → s.owed ≡ true → 0 < asides l
owed_behind s l stands says owed = let some = stands.owes owed in let all = stands.number in let entered = says.entered in let steps = steps_length l in omega (arith, some, all, entered, steps)

ruled : {A : Type 0} (old new : Standing) (asides : ℕ) (o : Option LaneFault) (may may_be : LaneFault → Type 0) (result : Result A LaneFault) → (old.owed ≡ true → 0 < asides) → ((f : LaneFault) → may f → may_be f) → OnOk result (o ≡ None) → IfErr result (IsCause old new may o)
    → IsRuled may_be asides o result
ruled old new asides None may may_be (Ok a) owes each passes caused = tt
ruled old new asides None may may_be (Err fault) owes each passes caused = each fault caused
ruled old new asides (Some refusal) may may_be (Ok a) owes each passes caused = absurd (none-some _ (sym passes))
ruled old new asides (Some refusal) may may_be (Err fault) owes each passes caused = elim caused [
  | inl same ↦ inl same
  | inr cut ↦ inr (cut.0, owes cut.1.was_owed)
]

no_refusal : {A : Type 0} (old : Standing) (o : Option LaneFault) (result : Result A LaneFault) → OnOk result ((is_worn old ≡ false) × (o ≡ None)) → OnOk result (o ≡ None)
no_refusal old o (Ok a) passes = passes.1
no_refusal old o (Err fault) passes = tt

pub answers : {A : Type 0} (old new : Standing) (l : List Step) (rules said : List (Bool × LaneFault)) (may may_be faults : LaneFault → Type 0) (right : A → Type 0) (result : Result A LaneFault)
    → LaneSays → LaneStands old l → AreNotWorn rules → ((f : LaneFault) → may f → IsNotWorn f) → Names old.keeping.faults new.keeping.faults faults may rules → IsGated old new rules may result
    → IfErr result (IsCausedBy old.keeping.faults new.keeping.faults) → (is_some old.keeping.content ≡ true → SaysOf old (ledger l) → (first_refusal rules ≡ first_refusal said) × ((((f : LaneFault) → may f → may_be f)) × IfOk result right))
    → Answers (terms_of old) faults said may_be right result l
answers old new l rules said may may_be faults right result law stands none each names gate caused told = record {
  worn = worn_by old new l rules may result none each stands gate;
  named = λ fresh. both_err result _ _ _ (λ f cause by. cause_named old new rules may faults f names cause by) (gate.refuses (worn_same old l stands ∙ fresh)) caused;
  told = λ is.
      let says = told_is old.keeping.content (SaysOf old (ledger l)) is (law old l stands) in
      let t = told is says in record {
        legal = says.legal;
        ruled = λ fresh. subst (λ o. IsRuled may_be (asides l) o result) t.0 (ruled old new (asides l) (first_refusal rules) may may_be result (owed_behind old l stands says) t.1.0 (no_refusal old (first_refusal rules) result gate.passes) (gate.refuses (worn_same old l stands ∙ fresh)));
        is_right = t.1.1;
      };
}

-- ---- submissions, reports, joins

pub submits : (old new : Standing) (raw : Raw) (result : Result Verdict LaneFault) (l : List Step) → LaneSays → IsGated old new (is_full_for old raw ∷ []) IsOutside result → IfErr result (IsCausedBy old.keeping.faults new.keeping.faults) → IfOk result (λ v. v ≡ verdict_in old.entries.state raw) → LaneStands old l → Submits (terms_of old) raw result l
submits old new raw result l law gate caused said stands =
    answers old new l (is_full_for old raw ∷ []) (is_full_by (terms_of old) l raw ∷ []) IsOutside IsOutside (IsSubmitFault (terms_of old) raw) _ result law stands (tt, tt) outside_not_worn
    (record { rules_are = ((λ is. (refl, counted_too _ _ is)), tt); each = submit_fault (terms_of old) raw old.keeping.faults new.keeping.faults; log = λ note rose. rose }) gate caused
    (λ is says. (
      ap (λ n. first_refusal ((nat_le old.limits.entries n && is_counted raw, Full old.limits.entries) ∷ [])) says.counted,
      ((λ f may. may), if_ok result _ _ (λ v is_v. is_v ∙ says.verdict raw) said),
    ))

pub reports : (old new : Standing) (raw : Raw) (result : Result Verdict LaneFault) (l : List Step) → LaneSays → IsGated old new [] IsOutside result → IfErr result (IsCausedBy old.keeping.faults new.keeping.faults) → IfOk result (λ v. v ≡ verdict_in old.entries.state raw) → LaneStands old l → Reports (terms_of old) raw result l
reports old new raw result l law gate caused said stands =
    answers old new l [] [] IsOutside IsOutside IsFailure _ result law stands tt outside_not_worn (record { rules_are = tt; each = failure old.keeping.faults new.keeping.faults; log = λ note rose. rose }) gate caused
    (λ is says. (refl, ((λ f may. may), if_ok result _ _ (λ v is_v. is_v ∙ says.verdict raw) said)))

-- the same gate for the answer with the id alone
with_id_worn : (b : Bool) (result : Result (Raw × Message) LaneFault) → WornBy b result → WornBy b (with_id result)
with_id_worn true (Ok a) worn = ap with_id worn
with_id_worn true (Err fault) worn = ap with_id worn
with_id_worn false (Ok (raw, message)) worn = tt
with_id_worn false (Err fault) worn = worn

with_id_ruled : (may : LaneFault → Type 0) (asides : ℕ) (o : Option LaneFault) (result : Result (Raw × Message) LaneFault) → IsRuled may asides o result → IsRuled may asides o (with_id result)
with_id_ruled may asides None (Ok (raw, message)) is = tt
with_id_ruled may asides None (Err fault) is = is
with_id_ruled may asides (Some refusal) (Ok (raw, message)) is = is
with_id_ruled may asides (Some refusal) (Err fault) is = is

joined_right : (old : Standing) (scopes : Scopes) (detail : Tree) (moment : ℕ) (result : Result (Raw × Message) LaneFault) (l : List Step) → SaysOf old (ledger l) → IfOk result (λ r. r.0 ≡ Join (entry_name old.entries.entered) scopes detail moment) → IfOk result (λ r. Sequenced r.1 ≡ verdict_in old.entries.state r.0)
    → IfOk (with_id result) (IsJoined scopes detail moment l)
joined_right old scopes detail moment (Ok (raw, message)) l says is said =
    (ap id_in is ∙ ap entry_name says.entered, said ∙ says.verdict raw ∙ ap (verdict (ledger l)) (is ∙ ap (λ id. Join id scopes detail moment) (sym (ap id_in is))))
joined_right old scopes detail moment (Err fault) l says is said = tt

with_id_fault : (P : LaneFault → Type 0) (result : Result (Raw × Message) LaneFault) → IfErr result P → IfErr (with_id result) P
with_id_fault P (Ok (raw, message)) p = tt
with_id_fault P (Err fault) p = p

no_worn : {A : Type 0} (old : Standing) (o : Option LaneFault) (result : Result A LaneFault) → OnOk result ((is_worn old ≡ false) × (o ≡ None)) → OnOk result (is_worn old ≡ false)
no_worn old o (Ok a) passes = passes.0
no_worn old o (Err fault) passes = tt

-- a lane that isn't worn has room for one number more
joined_numbers : (old : Standing) (scopes : Scopes) (detail : Tree) (moment : ℕ) (result : Result (Raw × Message) LaneFault) → old.entries.state.sequencer.sequence ≤ old.entries.entered → OnOk result (is_worn old ≡ false)
    → IfOk result (λ r. r.0 ≡ Join (entry_name old.entries.entered) scopes detail moment) → IfOk result (λ r. Sequenced r.1 ≡ verdict_in old.entries.state r.0) → IfOk (with_id result) HasNumbers
joined_numbers old scopes detail moment (Ok (raw, message)) few fresh is said =
    let low = not_worn old.entries.entered old.sides fresh in
    let next = verdict-number old.entries.state raw message (sym said) in record {
      entry = (old.entries.entered, (omega (arith, low), ap id_in is));
      message = (omega (arith, next), omega (arith, next, few, low));
    }
joined_numbers old scopes detail moment (Err fault) few fresh is said = tt

pub joins : (old new : Standing) (scopes : Scopes) (detail : Tree) (moment : ℕ) (result : Result (Raw × Message) LaneFault) (l : List Step) → LaneSays → IsGated old new (is_full old ∷ has_too_many old ∷ []) IsOutside result
    → IfErr result (IsCausedBy old.keeping.faults new.keeping.faults) → IfOk result (λ r. r.0 ≡ Join (entry_name old.entries.entered) scopes detail moment) → IfOk result (λ r. Sequenced r.1 ≡ verdict_in old.entries.state r.0) → old.entries.state.sequencer.sequence ≤ old.entries.entered
    → (SaysOf old (ledger l) → has_too_many old ≡ (has_too_many_clients old.limits.clients (ledger l) (Join (entry_name (length (ledger l))) scopes detail moment), TooManyClients)) → LaneStands old l → Joins (terms_of old) scopes detail moment (with_id result) l
joins old new scopes detail moment result l law gate caused raw said few many stands =
    let a = answers old new l (is_full old ∷ has_too_many old ∷ []) (is_full_at (terms_of old) l ∷ has_too_many_at (terms_of old) l ∷ []) IsOutside IsOutside (IsJoinFault (terms_of old)) (λ r. Unit {0}) result law stands (tt, (tt, tt)) outside_not_worn
    (record { rules_are = ((λ _. refl), ((λ _. tt), tt)); each = join_fault (terms_of old) old.keeping.faults new.keeping.faults; log = λ note rose. rose }) gate caused
    (λ is says. (
      ap (λ n. first_refusal ((nat_le old.limits.entries n, Full old.limits.entries) ∷ has_too_many old ∷ [])) says.counted
          ∙ ap (λ n. first_refusal (is_full_at (terms_of old) l ∷ (nat_le old.limits.clients n, TooManyClients) ∷ [])) says.count,
      ((λ f may. may), if_ok result _ _ (λ r e. tt) raw),
    )) in record {
      answers = record {
        worn = with_id_worn (is_worn_behind l) result a.worn;
        named = λ fresh. with_id_fault (IsJoinFault (terms_of old)) result (a.named fresh);
        told = λ is.
            let t = a.told is in
            let says = told_is old.keeping.content (SaysOf old (ledger l)) is (law old l stands) in record {
              legal = t.legal;
              ruled = λ fresh. with_id_ruled IsOutside (asides l) _ result (t.ruled fresh);
              is_right = joined_right old scopes detail moment result l says raw said;
            };
      };
      numbered = joined_numbers old scopes detail moment result few (no_worn old (first_refusal (is_full old ∷ has_too_many old ∷ [])) result gate.passes) raw said;
      limited = λ is.
          let says = told_is old.keeping.content (SaysOf old (ledger l)) is (law old l stands) in
          ap (λ (rule : Bool × LaneFault). rule.0) (sym (many says)) ∙ ap (nat_le old.limits.clients) says.count;
    }

pub is_join : (scopes : Scopes) (detail : Tree) (moment : ℕ) (id : List ℕ) (result : Result (Raw × Message) LaneFault) → IfOk result (λ r. r.0 ≡ Join id scopes detail moment) → IfOk result (IsJoinOf scopes detail moment)
is_join scopes detail moment id (Ok (raw, message)) is = is ∙ ap (λ i. Join i scopes detail moment) (sym (ap id_in is))
is_join scopes detail moment id (Err fault) is = tt

-- ---- the job

pub job_is : (s : Standing) (given : Option Job) (l : List Step) → LaneSays → given ≡ job_of s.entries.state → LaneStands s l → IsJobOf (terms_of s) given l
job_is s given l law is stands = record {
  told = λ told. let says = told_is s.keeping.content (SaysOf s (ledger l)) told (law s l stands) in (says.legal, is ∙ says.job);
}

-- ---- checkpoints, restarts

store_not_worn : (s : Standing) (f : LaneFault) → lanes.IsStoreFault s f → IsNotWorn f
store_not_worn s (LogFailed note) may = tt
store_not_worn s (Full n) may = tt
store_not_worn s (BadRecord n) may = tt
store_not_worn s (NoCheckpoint a b) may = tt
store_not_worn s CheckpointsFull may = tt
store_not_worn s TooManyClients may = tt
store_not_worn s (DeltaFailed note) may = tt
store_not_worn s NoMemory may = tt
store_not_worn s (BadCheckpoint n f) may = tt
store_not_worn s (TooLarge n) may = tt
store_not_worn s Worn may = may

-- a fault of a checkpoint, with what the keeper tells of one of the log: the text was short enough, or a cut was owed
abbrev StoreFails : Standing → LaneFault → Type 0
StoreFails s (LogFailed note) = (length (checkpoint_text s.entries) ≤ s.limits.bytes) ⊎ (s.owed ≡ true)
StoreFails s (Full n) = lanes.IsStoreFault s (Full n)
StoreFails s (BadRecord n) = lanes.IsStoreFault s (BadRecord n)
StoreFails s (NoCheckpoint a b) = lanes.IsStoreFault s (NoCheckpoint a b)
StoreFails s CheckpointsFull = lanes.IsStoreFault s CheckpointsFull
StoreFails s TooManyClients = lanes.IsStoreFault s TooManyClients
StoreFails s (DeltaFailed note) = lanes.IsStoreFault s (DeltaFailed note)
StoreFails s NoMemory = lanes.IsStoreFault s NoMemory
StoreFails s (BadCheckpoint n f) = lanes.IsStoreFault s (BadCheckpoint n f)
StoreFails s (TooLarge n) = lanes.IsStoreFault s (TooLarge n)
StoreFails s Worn = lanes.IsStoreFault s Worn

store_fails : (old new : Standing) (f : LaneFault) → lanes.IsStoreFault old f → StoreKept {A = ℕ} old new (Err f) → StoreFails old f
store_fails old new (LogFailed note) may kept = elim kept [
  | inl cut ↦ inr cut.was_owed
  | inr short ↦ inl short.0
]
store_fails old new (Full n) may kept = may
store_fails old new (BadRecord n) may kept = may
store_fails old new (NoCheckpoint a b) may kept = may
store_fails old new CheckpointsFull may kept = may
store_fails old new TooManyClients may kept = may
store_fails old new (DeltaFailed note) may kept = may
store_fails old new NoMemory may kept = may
store_fails old new (BadCheckpoint n f) may kept = may
store_fails old new (TooLarge n) may kept = may
store_fails old new Worn may kept = may

store_failed : (s : Standing) (f : LaneFault) → StoreFails s f → lanes.IsStoreFault s f
store_failed s (LogFailed note) may = tt
store_failed s (Full n) may = may
store_failed s (BadRecord n) may = may
store_failed s (NoCheckpoint a b) may = may
store_failed s CheckpointsFull may = may
store_failed s TooManyClients may = may
store_failed s (DeltaFailed note) may = may
store_failed s NoMemory may = may
store_failed s (BadCheckpoint n f) may = may
store_failed s (TooLarge n) may = may
store_failed s Worn may = may

store_cause : (old new : Standing) (o : Option LaneFault) (f : LaneFault) → StoreKept {A = ℕ} old new (Err f) → IsCause old new (lanes.IsStoreFault old) o f → IsCause old new (StoreFails old) o f
store_cause old new None f kept may = store_fails old new f may kept
store_cause old new (Some refusal) f kept cause = cause

store_causes : (old new : Standing) (o : Option LaneFault) (result : Result ℕ LaneFault) → StoreKept old new result → IfErr result (IsCause old new (lanes.IsStoreFault old) o) → IfErr result (IsCause old new (StoreFails old) o)
store_causes old new o (Ok n) kept may = tt
store_causes old new o (Err f) kept may = store_cause old new o f kept may

store_gate : (old new : Standing) (rules : List (Bool × LaneFault)) (result : Result ℕ LaneFault) → StoreKept old new result → IsGated old new rules (lanes.IsStoreFault old) result → IsGated old new rules (StoreFails old) result
store_gate old new rules result kept gate = record {
  worn = gate.worn;
  passes = gate.passes;
  refuses = λ fresh. store_causes old new (first_refusal rules) result kept (gate.refuses fresh);
  unasked = gate.unasked;
  unread = gate.unread;
}

store_fault : (s : Standing) (l : List Step) → s.entries ≡ entries_of (ledger l) → (s.owed ≡ true → 0 < asides l) → (f : LaneFault) → StoreFails s f → IsStoreFault (terms_of s) l f
store_fault s l is owes (LogFailed note) may = elim may [
  | inl short ↦ inl (subst (λ n. n ≤ s.limits.bytes) (ap (λ e. length (checkpoint_text e)) is) short)
  | inr owed ↦ inr (owes owed)
]
store_fault s l is owes (Full n) may = may
store_fault s l is owes (BadRecord n) may = may
store_fault s l is owes (NoCheckpoint a b) may = may
store_fault s l is owes CheckpointsFull may = may
store_fault s l is owes TooManyClients may = may
store_fault s l is owes (DeltaFailed note) may = tt
store_fault s l is owes NoMemory may = tt
store_fault s l is owes (BadCheckpoint n f) may = may
store_fault s l is owes (TooLarge n) may = (may.0 ∙ ap (λ e. length (checkpoint_text e)) is, may.1)
store_fault s l is owes Worn may = may

pub told_stands : (s : Standing) (l : List Step) → LaneStands s l → is_some s.keeping.content ≡ true → (s.entries ≡ entries_of (ledger l)) × (s.keeping.checkpoints ≡ stored_in (terms_of s) l)
told_stands s l stands is = told_is s.keeping.content _ is (by s.keeping.content stands.told)
  where
    by : (o : Option _) → Tells o (IsTold s l) → Tells o (λ _. (s.entries ≡ entries_of (ledger l)) × (s.keeping.checkpoints ≡ stored_in (terms_of s) l))
    by None t = tt
    by (Some c) t = (t.stands.entries, t.checkpoints)

pub checkpoints : (old new : Standing) (result : Result ℕ LaneFault) (l : List Step) → LaneSays → IsGated old new (has_checkpoints old ∷ []) (lanes.IsStoreFault old) result → Stores old new result → LaneStands old l → Checkpoints (terms_of old) result l
checkpoints old new result l law gate stores stands =
    answers old new l (has_checkpoints old ∷ []) (has_checkpoints_at (terms_of old) l ∷ []) (StoreFails old) (IsStoreFault (terms_of old) l) (IsCheckpointFault (terms_of old)) (IsStored (terms_of old) l) result law stands (tt, tt) (λ f may. store_not_worn old f (store_failed old f may))
    (record { rules_are = ((λ _. tt), tt); each = λ f may. checkpoint_fault old old.keeping.faults new.keeping.faults f (store_failed old f may); log = λ note rose. rose }) (store_gate old new (has_checkpoints old ∷ []) result stores.kept gate) stores.cause
    (λ is says.
    let t = told_stands old l stands is in (
      ap (λ n. first_refusal ((nat_le old.limits.checkpoints n, CheckpointsFull) ∷ [])) t.1,
      (store_fault old l t.0 (owed_behind old l stands says), if_ok result _ _ (λ k s. (s.next ∙ t.1, subst (λ n. n ≤ old.limits.bytes) (ap (λ e. length (checkpoint_text e)) t.0) s.short)) stores.stored),
    ))

read_not_worn : (f : LaneFault) → IsReadFault f → IsNotWorn f
read_not_worn (LogFailed note) may = tt
read_not_worn (Full n) may = tt
read_not_worn (BadRecord n) may = tt
read_not_worn (NoCheckpoint a s) may = tt
read_not_worn CheckpointsFull may = tt
read_not_worn TooManyClients may = tt
read_not_worn (DeltaFailed note) may = tt
read_not_worn NoMemory may = tt
read_not_worn (BadCheckpoint n f) may = tt
read_not_worn (TooLarge n) may = tt
read_not_worn Worn may = may

-- over a kept keeper nothing that is read is refused
read_outside : (f : LaneFault) → restarts.IsNotBad f → IsReadFault f → IsOutside f
read_outside (LogFailed note) good may = tt
read_outside (Full n) good may = may
read_outside (BadRecord n) good may = good
read_outside (NoCheckpoint a s) good may = may
read_outside CheckpointsFull good may = may
read_outside TooManyClients good may = may
read_outside (DeltaFailed note) good may = tt
read_outside NoMemory good may = tt
read_outside (BadCheckpoint n f) good may = good
read_outside (TooLarge n) good may = may
read_outside Worn good may = may

restart_ruled : (asides : ℕ) (o : Option LaneFault) (result : Result (Unit {0}) LaneFault) → IfErr result restarts.IsNotBad → IsRuled IsReadFault asides o result → IsRuled IsOutside asides o result
restart_ruled asides None (Ok a) good is = tt
restart_ruled asides None (Err fault) good is = read_outside fault good is
restart_ruled asides (Some refusal) (Ok a) good is = is
restart_ruled asides (Some refusal) (Err fault) good is = is

pub restarts_say : (old new : Standing) (number : ℕ) (result : Result (Unit {0}) LaneFault) (l : List Step) → LaneSays → IsGated old new (has_no_checkpoint old number ∷ []) IsReadFault result → IfErr result (IsCausedBy old.keeping.faults new.keeping.faults) → Tells old.keeping.content (λ _. IfErr result restarts.IsNotBad) → LaneStands old l
    → Restarts (terms_of old) number result l
restarts_say old new number result l law gate caused never stands =
    let a = answers old new l (has_no_checkpoint old number ∷ []) (has_none_at (terms_of old) l number ∷ []) IsReadFault IsReadFault (IsRestartFault number) (λ _. Unit {0}) result law stands (tt, tt) read_not_worn
    (record { rules_are = ((λ is. (refl, nat_le-le _ _ is)), tt); each = restart_fault number old.keeping.faults new.keeping.faults; log = λ note rose. rose }) gate caused
    (λ is says. (
      ap (λ n. first_refusal ((nat_le n number, NoCheckpoint number n) ∷ [])) (told_stands old l stands is).1,
      ((λ f may. may), done result),
    )) in record {
      worn = a.worn;
      named = a.named;
      told = λ is.
          let t = a.told is in record {
            legal = t.legal;
            ruled = λ fresh. restart_ruled (asides l) _ result (told_is old.keeping.content _ is never) (t.ruled fresh);
            is_right = done result;
          };
    }
  where
    done : (r : Result (Unit {0}) LaneFault) → IfOk r (λ _. Unit {0})
    done (Ok a) = tt
    done (Err fault) = tt

-- ---- sweeps

pub is_leave : (old new : Standing) (moment : ℕ) (first : Option (List ℕ)) (result : Result (Option (Raw × Message)) LaneFault) → SweepsBy moment first old new result → IfOk result (IsLeaveAt moment)
is_leave old new moment None result by = subst (λ r. IfOk r (IsLeaveAt moment)) (sym by.0) tt
is_leave old new moment (Some id) (Ok None) by = tt
is_leave old new moment (Some id) (Ok (Some (raw, message))) by = by.gives.0 ∙ ap (λ i. Leave i moment) (sym (ap left_id by.gives.0))
is_leave old new moment (Some id) (Err fault) by = tt

left_worn : (b : Bool) (result : Result (Option (Raw × Message)) LaneFault) → WornBy b result → WornBy b (with_left result)
left_worn true result worn = ap with_left worn
left_worn false (Ok None) worn = tt
left_worn false (Ok (Some (raw, message))) worn = tt
left_worn false (Err fault) worn = worn

left_fault : (P : LaneFault → Type 0) (result : Result (Option (Raw × Message)) LaneFault) → IfErr result P → IfErr (with_left result) P
left_fault P (Ok None) p = tt
left_fault P (Ok (Some (raw, message))) p = tt
left_fault P (Err fault) p = p

-- worn only where the list is so long
only_worn : {A : Type 0} (b : Bool) (result : Result A LaneFault) → WornBy b result → IfErr result (λ fault. IsWorn fault → b ≡ true)
only_worn true (Ok a) worn = tt
only_worn true (Err fault) worn = λ _. refl
only_worn false (Ok a) worn = tt
only_worn false (Err (LogFailed note)) worn = λ w. absurd w
only_worn false (Err (Full n)) worn = λ w. absurd w
only_worn false (Err (BadRecord n)) worn = λ w. absurd w
only_worn false (Err (NoCheckpoint a s)) worn = λ w. absurd w
only_worn false (Err CheckpointsFull) worn = λ w. absurd w
only_worn false (Err TooManyClients) worn = λ w. absurd w
only_worn false (Err (DeltaFailed note)) worn = λ w. absurd w
only_worn false (Err NoMemory) worn = λ w. absurd w
only_worn false (Err (BadCheckpoint n f)) worn = λ w. absurd w
only_worn false (Err (TooLarge n)) worn = λ w. absurd w
only_worn false (Err Worn) worn = absurd worn

swept_right : (old : Standing) (moment : ℕ) (id : List ℕ) (result : Result (Option (Raw × Message)) LaneFault) (l : List Step) → SaysOf old (ledger l) → IfOk result (IsSwept (Leave id moment) old.entries.state)
    → IfOk (with_left result) (λ given. (given ≡ Some id) × (verdict_left result ≡ verdict (ledger l) (Leave id moment)))
swept_right old moment id (Ok None) l says is = absurd is
swept_right old moment id (Ok (Some (raw, message))) l says is = (ap Some (ap left_id is.0), is.1 ∙ says.verdict (Leave id moment))
swept_right old moment id (Err fault) l says is = tt

left_sequenced : (result : Result (Option (Raw × Message)) LaneFault) → IfOk (with_left result) (λ given. IfSome given (λ _. is_sequenced (verdict_left result) ≡ true))
left_sequenced (Ok None) = tt
left_sequenced (Ok (Some (raw, message))) = refl
left_sequenced (Err fault) = tt

sweep_faults : (old new : Standing) (result : Result (Option (Raw × Message)) LaneFault) → IfErr result (IsCause old new IsOutside None) → IfErr result IsOutside
sweep_faults old new (Ok a) is = tt
sweep_faults old new (Err fault) is = is

pub sweeps : (old new : Standing) (moment silence : ℕ) (result : Result (Option (Raw × Message)) LaneFault) (l : List Step) → LaneSays → SweepsBy moment (first_silent moment silence old.entries.state.sequencer.rows) old new result → LaneStands old l
    → Sweeps (terms_of old) moment silence (verdict_left result) (with_left result) l
sweeps old new moment silence result l law by stands = record {
  worn = worn (first_silent moment silence old.entries.state.sequencer.rows) by;
  named = named (first_silent moment silence old.entries.state.sequencer.rows) by;
  sequenced = left_sequenced result;
  told = λ is.
      let says = told_is old.keeping.content (SaysOf old (ledger l)) is (law old l stands) in record {
        legal = says.legal;
        first = subst (λ o. SweepsFirst moment o (verdict_left result) (with_left result) l) (says.silent moment silence) (first says (first_silent moment silence old.entries.state.sequencer.rows) by);
      };
}
  where
    worn : (o : Option (List ℕ)) → SweepsBy moment o old new result → IfErr (with_left result) (λ fault. IsWorn fault → is_worn_behind l ≡ true)
    worn None is = subst (λ r. IfErr (with_left r) (λ fault. IsWorn fault → is_worn_behind l ≡ true)) (sym is.0) tt
    worn (Some id) is = left_fault _ result (only_worn (is_worn_behind l) result (worn_by old new l [] IsOutside result tt outside_not_worn stands is.gate))

    named : (o : Option (List ℕ)) → SweepsBy moment o old new result → is_worn_behind l ≡ false → IfErr (with_left result) IsFailure
    named None is fresh = subst (λ r. IfErr (with_left r) IsFailure) (sym is.0) tt
    named (Some id) is fresh =
        left_fault IsFailure result (both_err result _ _ _ (λ f may cause. failure old.keeping.faults new.keeping.faults f may cause) (sweep_faults old new result (is.gate.refuses (worn_same old l stands ∙ fresh))) is.enters.cause)

    first : SaysOf old (ledger l) → (o : Option (List ℕ)) → SweepsBy moment o old new result → SweepsFirst moment o (verdict_left result) (with_left result) l
    first says None is = ap with_left is.0
    first says (Some id) is = record {
      worn = left_worn (is_worn_behind l) result (worn_by old new l [] IsOutside result tt outside_not_worn stands is.gate);
      faults = λ fresh. left_fault IsOutside result (sweep_faults old new result (is.gate.refuses (worn_same old l stands ∙ fresh)));
      swept = swept_right old moment id result l says is.gives;
    }

-- ---- passes

-- what a pass has seen, for which a lane with these terms stood
pub legal_seen : (s : Standing) (l : List Step) (t : Terms) → LaneSays → LaneStands s l → terms_of s ≡ t → t.told ≡ true → IsLegal (ledger l)
legal_seen s l t law stands same told = (told_is s.keeping.content (SaysOf s (ledger l)) (ap (λ x. x.told) same ∙ told) (law s l stands)).legal

-- a list without side steps is that of its ledger
pub no_sides : (l : List Step) → last_side l ≡ None → l ≡ steps (ledger l)
no_sides [] none = refl
no_sides (Entered raw verdict ∷ l) none = ap (λ k. Entered raw verdict ∷ k) (no_sides l none)
no_sides (Aside side ∷ l) none = absurd (by (last_side l) none)
  where
    by : (o : Option Side) → option_or o (Some side) ≡ None → ⊥
    by None is = none-some _ (sym is)
    by (Some other) is = none-some _ (sym is)

none : map message_printed (order []) ≡ []
unfolding order
none = refl

pub new_is_kept : NewIsKept
new_is_kept = record {
  legal = tt;
  few = omega arith;
  loggable = λ k entry low. absurd (omega (arith, low));
  log = record { behind = []; splits = refl; level = λ _. refl; torn = tt };
  deltas = record { rest = []; first = none; texts = λ k text low. absurd (omega (arith, low)) };
  checkpoints = λ k text low. absurd (omega (arith, low));
}
