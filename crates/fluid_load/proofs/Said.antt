-- A workload behind what a client submits.
use Rattle.std.proofs.Common.{◌≡◌, ℕ, ◌+◌, ◌*◌, ◌≤◌, ◌<◌, ◌^◌, arith, Bool, true, false, List, [], ◌∷◌, ◌++◌, length, Option, Some, None, Result, Ok, Err, bytes_eq, refl, sym, ap, subst, ◌∙◌, append-nil, length-append}
use Rattle.std.specs.Prelude.{if◌then◌else◌, ◌-◌, fold, is_some, option_map, option_and_then, IfOk, OnOk, OnErr}
use Rattle.std.specs.Option.{option_to_list}
use Rattle.std.specs.List.{list_any}
use Rattle.std.specs.FinMap.{get, insert}
use Rattle.fluid_table.specs.Table.{Values}
use Rattle.fluid_json.specs.declared.memory.NoMemory.{NoMemory as WantsMemory}
use Rattle.fluid_types.specs.declared.entries.Raw.{Raw}
use Rattle.fluid_types.specs.declared.entries.Raw.TheVariants.{Submit}
use Rattle.fluid_types.specs.declared.entries.Submission.{Submission}
use Rattle.fluid_types.specs.declared.verdicts.Verdict.{Verdict}
use Rattle.fluid_rules.specs.Rules.{verdict, ledger}
use Rattle.fluid_rules.specs.declared.limits.Limits.{Limits}
use Rattle.fluid_types.specs.Forms.{largest}
use Rattle.fluid_log.specs.Keeping.{Keeping}
use Rattle.fluid_log.specs.Shelving.{keeper_under}
use Rattle.fluid_lane.specs.Standing.{Standing}
use Rattle.fluid_lanes.specs.Opened.{Opened}
use Rattle.fluid_store.specs.Storing.{Storing}
use Rattle.fluid_steps.specs.declared.refusal.LineWhy.{LineWhy}
use Rattle.fluid_voice.specs.declared.states.VoiceState.{VoiceState}
use Rattle.fluid_voice.specs.declared.states.VoiceState.TheVariants.{Fresh, Reading, Writing, Used}
use Rattle.fluid_voice.specs.declared.ends.ActEnd.{ActEnd}
use Rattle.fluid_voice.specs.declared.ends.ActEnd.TheVariants.{Entered, FullNow}
use Rattle.fluid_voice.specs.Ends.{entry_end}
use Rattle.fluid_voice.specs.States.{next_number}
use Rattle.fluid_transcript.specs.World.{Name, connection, container, roamer, used_up, Document, World, document, is_open, ledger_of, grown}
use Rattle.fluid_transcript.specs.Containers.{is_taken}
use Rattle.fluid_transcript.specs.Connections.{voice_named, voice_of}
use Rattle.fluid_transcript.specs.Sound.{ledger_in}
use Rattle.fluid_transcript.proofs.Begins.{ledger_more}
use Rattle.fluid_transcript.proofs.Sounds.{document_own}
use Rattle.fluid_desk.specs.declared.stop.Stop.{Stop}
use Rattle.fluid_desk.specs.declared.stop.Stop.TheVariants.{NoMemory}
use Rattle.fluid_desk.specs.Stands.{IsDocument, DeskStands}
use Rattle.fluid_desk.specs.Stopping.{HasRun, RunsOn}
use Rattle.fluid_desk.proofs.Laned.{is_told}
use Rattle.fluid_holding.specs.Holding.{HoldsOwn}
use Rattle.fluid_holding.specs.Laws.{OthersLeave}
use Rattle.fluid_containers.specs.Ending.{RunsLinking}
use Rattle.fluid_world.specs.declared.named.Named.{Named}
use Rattle.fluid_world.specs.declared.named.Named.TheVariants as a
use Rattle.fluid_world.specs.Naming.{AreBounded, connection_refusal}
use Rattle.fluid_world.specs.Standing.{IsNamed, WorldStands}
use Rattle.fluid_world.proofs.Linked.{on_links}
use Rattle.fluid_world.proofs.Stepped.{bounded_more, voice_there}
use Rattle.fluid_workload.specs.Working.{Workload, Deed, submits, work, named, id_at, work_ledger, behind_entry, behind_deed, behind_saying, takes}
use Rattle.fluid_turns.specs.Entering.{IsVerdictOn, EntersDesk}
use Rattle.fluid_turns.specs.Leaving.{LeavesAll}
use Rattle.fluid_turns.specs.Saying.{writer_for, Writes, IsWriter, has_for}
use Rattle.fluid_turns.specs.Tallying.{IsTally, tally_with}
use Rattle.fluid_turns.specs.declared.saying.Saying.{Saying}
use Rattle.fluid_turns.specs.declared.writer.Writer.{Writer}
use Rattle.fluid_turns.proofs.Lanes.{heard_so, entry_is}
use Rattle.fluid_turns.proofs.Leaving.{submissions_leave_all}
use Rattle.fluid_turns.proofs.Tallied.{tally_grows}
use Rattle.fluid_load.specs.Standing.{AtWork, WorkGoes, GrowsBy, WearsBy, ActsOn, Next, LeadsTo, Works, noted}
use Rattle.fluid_load.specs.Acting.{said, entered}
use Rattle.fluid_load.specs.Saying.{ForWriter, SaysAs, EntersAs}
use Rattle.fluid_load.proofs.Parts.{Ended, stop_wears, grows_not, short_wears, on_short, on_none}
use Rattle.fluid_load.proofs.Grown.{entry_grows}
use Rattle.fluid_load.proofs.Submitted.{submitted_stands}

-- ---- who submits

pub none_of : (o : Option LineWhy) → is_some o ≡ false → o ≡ None
none_of None is = refl
none_of (Some why) is = absurd (cc)

-- a name that is no connection's writes to no document
no_writer : (w : World) (n : Option Named) (m : Option Name) → IsNamed w n m → is_some (connection_refusal n) ≡ true → id_at (voice_named m) ≡ None
no_writer w None None is refused = refl
no_writer w None (Some m) is refused = absurd is
no_writer w (Some (a.Connection v)) m is refused = absurd (cc)
no_writer w (Some (a.Container h)) None is refused = absurd is
no_writer w (Some (a.Container h)) (Some (connection s)) is refused = absurd is
no_writer w (Some (a.Container h)) (Some (container k)) is refused = refl
no_writer w (Some (a.Container h)) (Some (roamer k)) is refused = absurd is
no_writer w (Some (a.Container h)) (Some used_up) is refused = absurd is
no_writer w (Some (a.Roamer h)) None is refused = absurd is
no_writer w (Some (a.Roamer h)) (Some (connection s)) is refused = absurd is
no_writer w (Some (a.Roamer h)) (Some (container k)) is refused = absurd is
no_writer w (Some (a.Roamer h)) (Some (roamer k)) is refused = refl
no_writer w (Some (a.Roamer h)) (Some used_up) is refused = absurd is
no_writer w (Some a.Used) None is refused = absurd is
no_writer w (Some a.Used) (Some (connection s)) is refused = absurd is
no_writer w (Some a.Used) (Some (container k)) is refused = absurd is
no_writer w (Some a.Used) (Some (roamer k)) is refused = absurd is
no_writer w (Some a.Used) (Some used_up) is refused = refl

pub no_writer_named : (w : World) (client : ℕ) (names : Values Named) (name : List ℕ) → name ≡ named client → is_some (connection_refusal (get names name)) ≡ true
    → IsNamed w (get names (named client)) (get w.names (named client)) → IsWriter w client None
no_writer_named w client names name at refused is = no_writer w (get names (named client)) (get w.names (named client)) is (subst (λ n. is_some (connection_refusal (get names n)) ≡ true) at refused)

is_writer : (w : World) (client : ℕ) (v : VoiceState) → voice_of w (named client) ≡ v → IsWriter w client (writer_for (named client) work v)
is_writer w client Fresh is = ap id_at is
is_writer w client (Reading own next) is = ap id_at is
is_writer w client (Writing own id next) is = by (bytes_eq own work) refl
  where
    by : (b : Bool) → bytes_eq own work ≡ b → IsWriter w client (if b then Some (record { name = named client; id = id; collected = next - 1 }) else None)
    by true same = record {
      name = refl;
      id = ap id_at is ∙ ap (λ b. if b then Some id else None) same;
      collected = ap (λ v. next_number v - 1) (sym is);
    }
    by false other = ap id_at is ∙ ap (λ b. if b then Some id else None) other
is_writer w client Used is = ap id_at is

pub is_writer_ok : (w : World) (client : ℕ) (name document : List ℕ) (v : VoiceState) (r : Result (Option Writer) WantsMemory) → name ≡ named client → document ≡ work → voice_of w (named client) ≡ v
    → IfOk r (λ writer. writer ≡ writer_for name document v) → IfOk r (IsWriter w client)
is_writer_ok w client name document v (Ok writer) at on is made =
    subst (IsWriter w client) (sym (made ∙ ap (λ n. writer_for n document v) at ∙ ap (λ d. writer_for (named client) d v) on)) (is_writer w client v is)
is_writer_ok w client name document v (Err wants) at on is made = tt

pub voice_is : (w : World) (client : ℕ) (names : Values Named) (name : List ℕ) (v : VoiceState) → name ≡ named client → get names name ≡ Some (a.Connection v)
    → IsNamed w (get names (named client)) (get w.names (named client)) → voice_of w (named client) ≡ v
voice_is w client names name v at there is = ap voice_named (voice_there w (get names (named client)) (get w.names (named client)) v (subst (λ n. get names n ≡ Some (a.Connection v)) at there) is)

-- ---- what it submits

module _ (limits : Limits) (w : Workload) (client : ℕ) (has : Workload → (client : ℕ) → (id : List ℕ) → Option Submission) where
  abbrev through : List Deed → Workload
  through deeds = fold (behind_deed limits) w deeds

  abbrev with_id : Option (List ℕ) → List Deed
  with_id o = option_to_list (option_and_then (λ id. option_map (submits client id) (has w client id)) o)

  nobody : id_at (voice_of w.world (named client)) ≡ None → behind_saying limits w client has ≡ w
  nobody is = ap (λ o. through (with_id o)) is

  somebody : (id : List ℕ) (o : Option Submission) → id_at (voice_of w.world (named client)) ≡ Some id → has w client id ≡ o → behind_saying limits w client has ≡ through (option_to_list (option_map (submits client id) o))
  somebody id o is given = ap (λ o. through (with_id o)) is ∙ ap (λ o. through (option_to_list (option_map (submits client id) o))) given

-- ---- parts for a client

-- a client that doesn't write submits nothing
pub nobody_works : (client : ℕ) (saying : Saying) (a : AtWork) → ((w : Workload) → WorkGoes a w → IsWriter w.world client None) → Works 1 (said client saying) a a (Ok tt)
nobody_works client saying a none = record {
  on = on_none 1 a;
  leads = λ w good goes. subst (λ v. WorkGoes a v) (sym (nobody a.lanes.limits w client (has_for saying) (none w goes))) goes;
  wears = λ w first steps good goes run.
      subst (λ (v : Workload). GrowsBy 1 w.world v.world) (sym (nobody a.lanes.limits w client (has_for saying) (none w goes))) (grows_not 1 w.world);
}

pub somebody_works : (client : ℕ) (saying : Saying) (document : List ℕ) (writer : Writer) (a b : AtWork) (r : Ended) → document ≡ work → ((w : Workload) → WorkGoes a w → IsWriter w.world client (Some writer))
    → SaysAs document writer saying a b r → Works 1 (said client saying) a b r
somebody_works client saying document writer a b r at its says = record {
  on = says.on;
  leads = λ w good goes. says.leads w client good goes at (its w goes);
  wears = λ w first steps good goes run. says.wears w client first steps good goes at (its w goes) run;
}

pub short_for : (document : List ℕ) (writer : Writer) (next : (client : ℕ) → Next) (a b : AtWork) → b ≡ a → ForWriter document writer next a b (Err NoMemory)
short_for document writer next a b same = subst (λ c. ForWriter document writer next a c (Err NoMemory)) (sym same) (record { on = on_short 1 a; leads = λ w client good goes at is. tt; wears = λ w client first steps good goes at is run. short_wears (steps + 2 * 1) w.world })

-- what is known of what it has to submit
abbrev Gives : (document : List ℕ) → Writer → Saying → AtWork → Option Submission → Type 0
Gives document writer saying a given = (w : Workload) (client : ℕ) → WorkGoes a w → document ≡ work → IsWriter w.world client (Some writer) → given ≡ has_for saying w client writer.id

pub nothing_says : (document : List ℕ) (writer : Writer) (saying : Saying) (a b : AtWork) → b ≡ a → Gives document writer saying a None → SaysAs document writer saying a b (Ok tt)
nothing_says document writer saying a b same gives = subst (λ c. SaysAs document writer saying a c (Ok tt)) (sym same) (record {
  on = on_none 1 a;
  leads = λ w client good goes at is.
      subst (λ v. WorkGoes a v) (sym (somebody a.lanes.limits w client (has_for saying) writer.id None is.id (sym (gives w client goes at is)))) goes;
  wears = λ w client first steps good goes at is run.
      subst (λ (v : Workload). GrowsBy 1 w.world v.world) (sym (somebody a.lanes.limits w client (has_for saying) writer.id None is.id (sym (gives w client goes at is)))) (grows_not 1 w.world);
})

pub enters_says : (document : List ℕ) (writer : Writer) (saying : Saying) (s : Submission) (a b d : AtWork) (r : Ended) → b ≡ a → Gives document writer saying a (Some s) → EntersAs document writer s b d r → SaysAs document writer saying a d r
enters_says document writer saying s a b d r same gives enters = by (subst (λ c. EntersAs document writer s c d r) same enters)
  where
    by : EntersAs document writer s a d r → SaysAs document writer saying a d r
    by enters = record {
      on = enters.on;
      leads = λ w client good goes at is.
          subst (λ v. LeadsTo v d r) (sym (somebody a.lanes.limits w client (has_for saying) writer.id (Some s) is.id (sym (gives w client goes at is)))) (enters.leads w client good goes at is);
      wears = λ w client first steps good goes at is run.
          subst (λ (v : Workload). WearsBy steps 1 w.world v.world r) (sym (somebody a.lanes.limits w client (has_for saying) writer.id (Some s) is.id (sym (gives w client goes at is))))
          (enters.wears w client first steps good goes at is run);
    }

-- ---- an entry

few_entries : (limits : Limits) (lane : Option Standing) (k : Keeping) (x : Bool) (d : Document) → x ≡ true → IsDocument limits lane k x d → length (ledger_of d) ≤ largest
few_entries limits None k true d opened is = absurd is
few_entries limits (Some lane) k true d opened of = omega (arith, (is_told limits lane d of).stands.kept.few, ap length of.entries)
few_entries limits lane k false d opened is = absurd (cc)

few_now : (o : Opened) (w : World) → DeskStands o w → is_open w work ≡ true → length (ledger_in w work) ≤ largest
few_now o w desk opened = few_entries o.limits (get o.lanes work) (keeper_under desk.held work) (is_open w work) (document w work) opened (desk.documents work)

module _ (limits : Limits) (w : World) (client : ℕ) (raw : Raw) where
  -- the document behind it
  ledger_so : (out : ActEnd) → entry_end limits (ledger_in w work) raw ≡ out → ledger_in (behind_entry limits w client raw) work ≡ ledger_of (grown (heard_so limits w client raw out) (document w work))
  ledger_so out is =
      ap (λ v. ledger_in v work) (entry_is limits w client raw out is)
      ∙ ap ledger_of (document_own w.documents work (grown (heard_so limits w client raw out) (document w work)))

  ledger_same : entry_end limits (ledger_in w work) raw ≡ FullNow → ledger_in (behind_entry limits w client raw) work ≡ ledger_in w work
  ledger_same is = ledger_so FullNow is ∙ ap ledger (append-nil (document w work).raws)

  ledger_with : (v : Verdict) → entry_end limits (ledger_in w work) raw ≡ Entered v → v ≡ verdict (ledger_in w work) raw → ledger_in (behind_entry limits w client raw) work ≡ ledger_in w work ++ (raw, v) ∷ []
  ledger_with v is own =
      ledger_so (Entered v) is ∙ ledger_more (document w work).raws (raw ∷ []) ∙ ap (λ v. ledger_in w work ++ (raw, v) ∷ []) (sym own)

-- what an entry on the lane leaves of all else
module _ (raw : Raw) (old mid : AtWork) (rest : mid ≡ record old { lanes = mid.lanes }) (limits_are : mid.lanes.limits ≡ old.lanes.limits) where
  on_entered : (r : Ended) → ((first steps : ℕ) → HasRun first steps old.lanes → RunsOn first (steps + 1) mid.lanes r) → ActsOn 1 old mid r
  on_entered r runs = record {
    limits = limits_are;
    good = ap (λ (s : AtWork). s.good) rest;
    counts = omega (arith, ap (λ (s : AtWork). s.store.faults) rest);
    runs = λ first steps run.
        subst (λ (now : Storing). RunsLinking first (steps + 1) old.store now mid.lanes r) (sym (ap (λ (s : AtWork). s.store) rest)) (on_links first (steps + 1) old.store old.store mid.lanes r (runs first steps run));
    numbers = counted r;
  }
    where
      counted : (r : Ended) → OnOk r ((n : ℕ) → AreBounded n old.names → AreBounded (n + 1) mid.names)
      counted (Ok done) = λ n few. bounded_more n (n + 1) mid.names (omega arith) (λ q named there. few q named (ap (λ (s : AtWork). get s.names q) (sym rest) ∙ there))
      counted (Err stop) = tt

  module _ (others : OthersLeave) (w : Workload) (client : ℕ) (id : List ℕ) (s : Submission) (goes : WorkGoes old w) (writes : id_at (voice_of w.world (named client)) ≡ Some id)
      (desk : DeskStands mid.lanes (behind_entry old.lanes.limits w.world client (Submit id s 0))) where
    abbrev l : Limits
    l = old.lanes.limits

    abbrev now : World
    now = behind_entry l w.world client (Submit id s 0)

    left : LeavesAll w.world now
    left = submissions_leave_all l w.world client id s 0 goes.stands.stands.sound writes

    stands_now : WorldStands mid.lanes mid.store mid.names now
    stands_now =
        subst (λ (x : AtWork). WorldStands mid.lanes x.store x.names now) (sym rest)
        (submitted_stands submissions_leave_all others l old.lanes mid.lanes old.store old.names w.world client id s goes.stands.stands writes desk)

    open_now : is_open now work ≡ true
    open_now = ap (λ opened. list_any (bytes_eq work) opened) left.opened ∙ goes.open_is

    -- the workload behind it, where it is taken and where it isn't
    abbrev behind : Bool → Workload
    behind taken = record { world = now; sent = if taken then insert w.sent (named client) s else w.sent }

    -- with an entry at this moment
    abbrev entered_at : ℕ → Workload
    entered_at moment = record {
      world = behind_entry l w.world client (Submit id s moment);
      sent = if takes (entry_end l (work_ledger w) (Submit id s moment)) then insert w.sent (named client) s else w.sent;
    }

    entered_is : (out : ActEnd) → entry_end l (work_ledger w) (Submit id s 0) ≡ out → entered client id s l w ≡ behind (takes out)
    entered_is out is = ap entered_at goes.stands.moment ∙ ap (λ o. behind (takes o)) is

    goes_behind : (x : AtWork) (taken : Bool) → x.lanes ≡ mid.lanes → x.store ≡ mid.store → x.names ≡ mid.names → x.sent ≡ (if taken then insert w.sent (named client) s else w.sent)
        → IsTally (ledger_in now work) x.tally → WorkGoes x (behind taken)
    goes_behind x taken lanes store names sent tally = record {
      stands = record {
        stands = subst (λ o. WorldStands o x.store x.names now) (sym lanes) (subst (λ k. WorldStands mid.lanes k x.names now) (sym store) (subst (λ n. WorldStands mid.lanes mid.store n now) (sym names) stands_now));
        moment = left.moment ∙ goes.stands.moment;
        owned = subst HoldsOwn (sym left.store) goes.stands.owned;
        sent = sent;
        tally = tally;
      };
      open_is = open_now;
    }

    -- a full document takes nothing
    pub full_goes : IsVerdictOn l (work_ledger w) (Submit id s 0) None → WorkGoes mid (entered client id s l w)
    full_goes full =
        subst (WorkGoes mid) (sym (entered_is FullNow full))
        (goes_behind mid false refl refl refl (ap (λ (x : AtWork). x.sent) rest ∙ goes.stands.sent)
        (subst (λ t. IsTally (ledger_in now work) t) (sym (ap (λ (x : AtWork). x.tally) rest)) (subst (λ m. IsTally m old.tally) (sym (ledger_same l w.world client (Submit id s 0) full)) goes.stands.tally)))

    -- a verdict is counted
    few_behind : (v : Verdict) → IsVerdictOn l (work_ledger w) (Submit id s 0) (Some v) → length (work_ledger w) + 1 < 2 ^ 64
    few_behind v is =
        omega (arith, few_now mid.lanes now desk open_now, ap length (ledger_with l w.world client (Submit id s 0) v is.0 is.1), length-append (work_ledger w) ((Submit id s 0, v) ∷ []))

    pub noted_goes : (name : List ℕ) (v : Verdict) → name ≡ named client → IsVerdictOn l (work_ledger w) (Submit id s 0) (Some v) → WorkGoes (noted name s v mid) (entered client id s l w)
    noted_goes name v at is =
        subst (WorkGoes (noted name s v mid)) (sym (entered_is (Entered v) is.0))
        (goes_behind (noted name s v mid) (is_taken v) refl refl refl
        (ap (λ n. if is_taken v then insert mid.sent n s else mid.sent) at ∙ ap (λ sent. if is_taken v then insert sent (named client) s else sent) (ap (λ (x : AtWork). x.sent) rest ∙ goes.stands.sent))
        (subst (λ m. IsTally m (tally_with v mid.tally)) (sym (ledger_with l w.world client (Submit id s 0) v is.0 is.1))
        (subst (λ t. IsTally (work_ledger w ++ (Submit id s 0, v) ∷ []) (tally_with v t)) (sym (ap (λ (x : AtWork). x.tally) rest))
        (tally_grows (work_ledger w) (Submit id s 0) v old.tally (few_behind v is) goes.stands.tally))))

-- ---- an entry and its note

-- what an entry on the lane owes, over a world
abbrev pub Entering : (document : List ℕ) → Raw → AtWork → AtWork → Result (Option Verdict) Stop → Type 0
Entering document raw old mid r = (w : World) (client : ℕ) → DeskStands old.lanes w → is_open w work ≡ true → document ≡ work → EntersDesk old.lanes.limits w client raw mid.lanes r

module _ (others : OthersLeave) (document : List ℕ) (writer : Writer) (s : Submission) (raw : Raw) (raw_is : raw ≡ Submit writer.id s 0) (old mid : AtWork) (rest : mid ≡ record old { lanes = mid.lanes }) (limits_are : mid.lanes.limits ≡ old.lanes.limits) where
  entering_own : (r : Result (Option Verdict) Stop) → Entering document raw old mid r → Entering document (Submit writer.id s 0) old mid r
  entering_own r enters = subst (λ x. Entering document x old mid r) raw_is enters

  pub stops_entering : (stop : Stop) → ((first steps : ℕ) → HasRun first steps old.lanes → RunsOn {A = Option Verdict} first (steps + 1) mid.lanes (Err stop)) → Entering document raw old mid (Err stop) → EntersAs document writer s old mid (Err stop)
  stops_entering stop runs enters = record {
    on = on_entered raw old mid rest limits_are (Err stop) runs;
    leads = λ w client good goes at is. tt;
    wears = λ w client first steps good goes at is run.
        stop_wears steps 1 w.world w.world mid.lanes stop (grows_not 1 w.world) (runs first steps run).few (enters w.world client goes.stands.stands.desk goes.open_is at);
  }

  -- one entry at most
  entry_wears : (w : Workload) (client : ℕ) → GrowsBy 1 w.world (entered client writer.id s old.lanes.limits w).world
  entry_wears w client = entry_grows old.lanes.limits w.world client (Submit writer.id s w.world.moment)

  pub full_enters : ((first steps : ℕ) → HasRun first steps old.lanes → RunsOn {A = Option Verdict} first (steps + 1) mid.lanes (Ok None)) → Entering document raw old mid (Ok None) → EntersAs document writer s old mid (Ok tt)
  full_enters runs enters = record {
    on = on_entered raw old mid rest limits_are (Ok tt) runs;
    leads = λ w client good goes at is.
        let e = entering_own (Ok None) enters w.world client goes.stands.stands.desk goes.open_is at in
        full_goes raw old mid rest limits_are others w client writer.id s goes is.id e.stands e.verdict_is;
    wears = λ w client first steps good goes at is run. entry_wears w client;
  }

  -- what the note of a verdict leaves
  abbrev pub Same : AtWork → Type 0
  Same new = (new.lanes ≡ mid.lanes) × ((new.store ≡ mid.store) × ((new.names ≡ mid.names) × (new.good ≡ mid.good)))

  on_noted : (new : AtWork) (r : Ended) → Same new → ActsOn 1 old mid (Ok tt) → OnErr r (r ≡ Err NoMemory) → ActsOn 1 old new r
  on_noted new r same on short = record {
    limits = ap (λ (o : Opened). o.limits) same.0 ∙ on.limits;
    good = same.1.1.1 ∙ on.good;
    counts = omega (arith, on.counts, ap (λ (k : Storing). k.faults) same.1.0);
    runs = λ first steps run. by first (steps + 1) r (subst (λ o. HasRun first (steps + 1) o) (sym same.0) (on.runs first steps run)) short;
    numbers = counted r;
  }
    where
      by : (first steps : ℕ) (r : Ended) → HasRun first steps new.lanes → OnErr r (r ≡ Err NoMemory) → RunsLinking first steps old.store new.store new.lanes r
      by first steps (Ok done) run short = run
      by first steps (Err stop) run short = subst (λ (e : Ended). RunsLinking first steps old.store new.store new.lanes e) (sym short) (record { shelves = run.shelves; few = run.few; ends = tt })

      counted : (r : Ended) → OnOk r ((n : ℕ) → AreBounded n old.names → AreBounded (n + 1) new.names)
      counted (Ok done) = λ n few q named there. on.numbers n few q named (ap (λ (t : Values Named). get t q) (sym same.1.1.0) ∙ there)
      counted (Err stop) = tt

  pub noted_enters : (v : Verdict) (new : AtWork) (r : Ended) → ((first steps : ℕ) → HasRun first steps old.lanes → RunsOn {A = Option Verdict} first (steps + 1) mid.lanes (Ok (Some v))) → Entering document raw old mid (Ok (Some v))
      → OnOk r (new ≡ noted writer.name s v mid) → Same new → OnErr r (r ≡ Err NoMemory) → EntersAs document writer s old new r
  noted_enters v new r runs enters notes same short = record {
    on = on_noted new r same (on_entered raw old mid rest limits_are (Ok tt) runs) short;
    leads = λ w client good goes at is. by w client goes at is r notes short;
    wears = λ w client first steps good goes at is run. worn w client steps r short;
  }
    where
      worn : (w : Workload) (client steps : ℕ) (r : Ended) → OnErr r (r ≡ Err NoMemory) → WearsBy steps 1 w.world (entered client writer.id s old.lanes.limits w).world r
      worn w client steps (Ok done) short = entry_wears w client
      worn w client steps (Err stop) short =
          subst (λ (e : Ended). WearsBy steps 1 w.world (entered client writer.id s old.lanes.limits w).world e) (sym short) (short_wears (steps + 2 * 1) w.world)

      by : (w : Workload) (client : ℕ) → WorkGoes old w → document ≡ work → Writes w.world client writer → (r : Ended) → OnOk r (new ≡ noted writer.name s v mid) → OnErr r (r ≡ Err NoMemory)
          → LeadsTo (entered client writer.id s old.lanes.limits w) new r
      by w client goes at is (Ok done) notes short =
          let e = entering_own (Ok (Some v)) enters w.world client goes.stands.stands.desk goes.open_is at in
          subst (λ x. WorkGoes x (entered client writer.id s old.lanes.limits w)) (sym notes)
          (noted_goes raw old mid rest limits_are others w client writer.id s goes is.id e.stands writer.name v is.name e.verdict_is)
      by w client goes at is (Err stop) notes short = tt

-- ---- a note

apart : false ≡ true → ⊥
apart same = cc

module _ (v : Verdict) (old mid : AtWork) (counted : mid ≡ record old { tally = tally_with v old.tally }) where
  abbrev pub AllSame : AtWork → Type 0
  AllSame new = (new.lanes ≡ old.lanes) × ((new.store ≡ old.store) × ((new.names ≡ old.names) × (new.good ≡ old.good)))

  pub counted_same : AllSame mid
  counted_same = (ap (λ (s : AtWork). s.lanes) counted, (ap (λ (s : AtWork). s.store) counted, (ap (λ (s : AtWork). s.names) counted, ap (λ (s : AtWork). s.good) counted)))

  pub kept_same : (new : AtWork) → new ≡ record mid { sent = new.sent } → AllSame new
  kept_same new rest = (
    ap (λ (s : AtWork). s.lanes) rest ∙ counted_same.0,
    (ap (λ (s : AtWork). s.store) rest ∙ counted_same.1.0, (ap (λ (s : AtWork). s.names) rest ∙ counted_same.1.1.0, ap (λ (s : AtWork). s.good) rest ∙ counted_same.1.1.1)),
  )

  pub noted_untaken : (name : List ℕ) (s : Submission) (taken : Bool) → taken ≡ is_taken v → taken ≡ false → mid ≡ noted name s v old
  noted_untaken name s true is no_take = absurd (apart (sym no_take))
  noted_untaken name s false is no_take = counted ∙ ap (λ b. record old { tally = tally_with v old.tally; sent = if b then insert old.sent name s else old.sent }) is

  pub noted_taken : (name : List ℕ) (s : Submission) (new : AtWork) (taken : Bool) → taken ≡ is_taken v → taken ≡ true → new ≡ record mid { sent = new.sent } → new.sent ≡ insert mid.sent name s → new ≡ noted name s v old
  noted_taken name s new false is take rest kept = absurd (apart take)
  noted_taken name s new true is take rest kept =
      rest ∙ ap (λ sent. record mid { sent = sent }) kept ∙ ap (λ (m : AtWork). record m { sent = insert m.sent name s }) counted
      ∙ ap (λ b. record old { tally = tally_with v old.tally; sent = if b then insert old.sent name s else old.sent }) is
