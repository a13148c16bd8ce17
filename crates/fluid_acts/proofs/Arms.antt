-- Acts that enter nothing, and what each arm leaves of the side that it doesn't ask.
use Rattle.std.proofs.Common.{◌≡◌, inl, ℕ, Bool, true, false, List, [], Option, Some, None, Result, Ok, Err, IfOk, IfErr, option_map, find, reverse, bytes_eq, refl, sym, ap, subst, ◌∙◌, arith}
use Rattle.std.specs.Prelude.{IfSome}
use Rattle.std.specs.List.{last_or}
use Rattle.fluid_json.specs.Tree.{Tree}
use Rattle.fluid_types.specs.declared.entries.Scopes.{Scopes}
use Rattle.fluid_types.specs.Ledger.{order}
use Rattle.fluid_types.specs.declared.messages.Message.{Message}
use Rattle.fluid_codec.specs.declared.events.Asked.{Asked}
use Rattle.fluid_codec.specs.declared.events.Asked.TheVariants.{Latest, Handle}
use Rattle.fluid_codec.specs.declared.replies.Reply.{Reply}
use Rattle.fluid_codec.specs.declared.replies.Reply.TheVariants.{Summary}
use Rattle.fluid_store.specs.Held.{Held}
use Rattle.fluid_store.specs.Storing.{Storing}
use Rattle.fluid_store.specs.declared.fault.StoreFault.{StoreFault}
use Rattle.fluid_store.specs.declared.fault.StoreFault.TheVariants as store
use Rattle.fluid_lane.specs.declared.steps.Step.{Step}
use Rattle.fluid_lane.specs.Steps.{ledger}
use Rattle.fluid_lane.specs.Standing.{Standing}
use Rattle.fluid_lane.specs.Laws.{LaneSays}
use Rattle.fluid_tree.specs.declared.id.SummaryRef.{SummaryRef}
use Rattle.fluid_rules.specs.Scribe.{acks}
use Rattle.fluid_voice.specs.declared.actions.Act.{Act}
use Rattle.fluid_voice.specs.declared.actions.Act.TheVariants as act
use Rattle.fluid_voice.specs.declared.ends.ActEnd.{ActEnd}
use Rattle.fluid_voice.specs.declared.ends.ActEnd.TheVariants.{Said, Told, Given}
use Rattle.fluid_voice.specs.Ends.{outcome, held_behind, summary_asked, summary_among}
use Rattle.fluid_voice.specs.Suits.{Suits, IsAsked}
use Rattle.fluid_voice.specs.Ends.Outcome.{ends}
use Rattle.fluid_ends.specs.declared.fault.TalkFault.{TalkFault}
use Rattle.fluid_ends.specs.declared.fault.TalkFault.TheVariants.{Door, Lane, Delta, Store, NoMemory}
use Rattle.fluid_acts.specs.AtLane.{OnLane}
use Rattle.fluid_acts.specs.AtStore.{HoldsBy, OnStore}
use Rattle.fluid_acts.specs.Doing.{FindsTold, IsEndOf, IsTalkCause, found_in}
use Rattle.fluid_acts.specs.Parts.{IsLaneFault, FindsLane, DoesOnLane, IsStoreFault, DoesOnStore}
use Rattle.fluid_acts.proofs.Entering.{said}
use Rattle.fluid_acts.proofs.Reading.{goes_nowhere}

true_is : true ≡ false → ⊥
true_is same = cc

-- ---- acts that leave the lane as it is

-- who reads is told the last number
pub told_last : LaneSays → (name : List ℕ) (scopes : Scopes) (detail : Tree) (moment : ℕ) (s : Standing)
    → DoesOnLane (act.Connect name false scopes detail moment) s s (Ok (Told s.entries.state.sequencer.sequence))
told_last law name scopes detail moment s = record {
  lane = record {
    added = [];
    adds = refl;
    goes = goes_nowhere s;
    entries = refl;
    owes = λ entering. absurd (true_is (sym entering));
    level = λ reads. refl;
    range = tt;
    checkpoints = record { count = refl; texts = refl };
    ends = refl;
    worn = λ worn entering. absurd (true_is (sym entering));
    limited = λ unworn limited. absurd (true_is (sym limited));
    untouched = λ none. refl;
  };
  end = λ l held finds. ap (λ n. ends (Told n)) (sym (said law s l finds).seq);
  suits = tt;
  cause = tt;
}

pub reads_connect : LaneSays → (write : Bool) → write ≡ false → (number : ℕ) (name : List ℕ) (scopes : Scopes) (detail : Tree) (moment : ℕ) (s : Standing)
    → number ≡ s.entries.state.sequencer.sequence → DoesOnLane (act.Connect name write scopes detail moment) s s (Ok (Told number))
reads_connect law true reads number name scopes detail moment s is = absurd (true_is reads)
reads_connect law false reads number name scopes detail moment s is = subst (λ n. DoesOnLane (act.Connect name false scopes detail moment) s s (Ok (Told n))) (sym is) (told_last law name scopes detail moment s)

-- who writes joins with a copy of the detail
pub writes_connect : (write : Bool) → write ≡ true → (own detail : Tree) → own ≡ detail → (name : List ℕ) (scopes : Scopes) (moment : ℕ) (old new : Standing) (result : Result ActEnd TalkFault)
    → DoesOnLane (act.Connect name true scopes own moment) old new result → DoesOnLane (act.Connect name write scopes detail moment) old new result
writes_connect true writes own detail same name scopes moment old new result does = subst (λ d. DoesOnLane (act.Connect name true scopes d moment) old new result) same does
writes_connect false writes own detail same name scopes moment old new result does = absurd (true_is (sym writes))

-- memory was wanting before the lane was asked
pub memory_wanting : (name : List ℕ) (write : Bool) (scopes : Scopes) (detail : Tree) (moment : ℕ) (s : Standing) → DoesOnLane (act.Connect name write scopes detail moment) s s (Err NoMemory)
memory_wanting name write scopes detail moment s = record {
  lane = record {
    added = [];
    adds = refl;
    goes = goes_nowhere s;
    entries = refl;
    owes = λ entering. tt;
    level = λ reads. refl;
    range = tt;
    checkpoints = tt;
    ends = tt;
    worn = λ worn entering. record { answer = inl refl; same = refl };
    limited = λ unworn limited. record { fails = tt; unasked = λ level. refl };
    untouched = λ none. refl;
  };
  end = λ l held finds. tt;
  suits = tt;
  cause = tt;
}

-- ---- the store stays

pub content_stays : (old : Option Held) → old ≡ option_map (λ held. held) old
content_stays None = refl
content_stays (Some held) = refl

module _ (a : Act) (s : Storing) (stays : s.content ≡ option_map (λ held. held_behind held a) s.content) where
  store_stays : (fault : StoreFault) → HoldsBy a s s (Err (Store fault))
  store_stays (store.StoreFailed note) = inl refl
  store_stays (store.Clash id kept new) = refl
  store_stays (store.Missing id) = refl
  store_stays (store.BadObject id place) = refl
  store_stays (store.Tree fault) = refl
  store_stays (store.NoPath path) = refl
  store_stays store.NoMemory = refl

  holds_on : (result : Result ActEnd TalkFault) → HoldsBy a s s result
  holds_on (Ok end) = stays
  holds_on (Err (Door fault)) = refl
  holds_on (Err (Lane fault)) = refl
  holds_on (Err (Delta fault)) = refl
  holds_on (Err (Store fault)) = store_stays fault
  holds_on (Err NoMemory) = refl

  pub store_unasked : (result : Result ActEnd TalkFault) → OnStore a s s result
  store_unasked result = record { holds = holds_on result; later = omega arith; untouched = λ none. refl }

-- ---- causes

pub lane_cause : (a : Act) (old new : Standing) (before now : Storing) (result : Result ActEnd TalkFault) → IfErr result (IsLaneFault a old new) → IfErr result (IsTalkCause a old new before now)
lane_cause a old new before now (Ok end) cause = tt
lane_cause a old new before now (Err (Door fault)) cause = absurd cause
lane_cause a old new before now (Err (Lane fault)) cause = cause
lane_cause a old new before now (Err (Delta fault)) cause = cause
lane_cause a old new before now (Err (Store fault)) cause = absurd cause
lane_cause a old new before now (Err NoMemory) cause = tt

pub store_cause : (a : Act) (old new : Standing) (before now : Storing) (result : Result ActEnd TalkFault) → IfErr result (IsStoreFault a before now) → IfErr result (IsTalkCause a old new before now)
store_cause a old new before now (Ok end) cause = tt
store_cause a old new before now (Err (Door fault)) cause = absurd cause
store_cause a old new before now (Err (Lane fault)) cause = absurd cause
store_cause a old new before now (Err (Delta fault)) cause = absurd cause
store_cause a old new before now (Err (Store fault)) cause = cause
store_cause a old new before now (Err NoMemory) cause = tt

-- ---- the lane stays

-- an act of the store adds nothing to the lane
pub get_steps : (id : List ℕ) (old new : Storing) (result : Result ActEnd TalkFault) → IfErr result (IsStoreFault (act.GetObject id) old new) → (s : Standing) → OnLane (act.GetObject id) s s result
get_steps id old new (Ok end) cause s = record {
  added = [];
  adds = refl;
  goes = goes_nowhere s;
  entries = refl;
  owes = λ entering. absurd (true_is (sym entering));
  level = λ reads. refl;
  range = tt;
  checkpoints = record { count = refl; texts = refl };
  ends = tt;
  worn = λ worn entering. absurd (true_is (sym entering));
  limited = λ unworn limited. absurd (true_is (sym limited));
  untouched = λ none. refl;
}
get_steps id old new (Err (Door fault)) cause s = absurd cause
get_steps id old new (Err (Lane fault)) cause s = absurd cause
get_steps id old new (Err (Delta fault)) cause s = absurd cause
get_steps id old new (Err (Store fault)) cause s = record {
  added = [];
  adds = refl;
  goes = goes_nowhere s;
  entries = refl;
  owes = λ entering. absurd (true_is (sym entering));
  level = λ reads. refl;
  range = tt;
  checkpoints = tt;
  ends = tt;
  worn = λ worn entering. absurd (true_is (sym entering));
  limited = λ unworn limited. absurd (true_is (sym limited));
  untouched = λ none. refl;
}
get_steps id old new (Err NoMemory) cause s = record {
  added = [];
  adds = refl;
  goes = goes_nowhere s;
  entries = refl;
  owes = λ entering. absurd (true_is (sym entering));
  level = λ reads. refl;
  range = tt;
  checkpoints = tt;
  ends = tt;
  worn = λ worn entering. absurd (true_is (sym entering));
  limited = λ unworn limited. absurd (true_is (sym limited));
  untouched = λ none. refl;
}

pub put_steps : (bytes : List ℕ) (old new : Storing) (result : Result ActEnd TalkFault) → IfErr result (IsStoreFault (act.PutObject bytes) old new) → (s : Standing) → OnLane (act.PutObject bytes) s s result
put_steps bytes old new (Ok end) cause s = record {
  added = [];
  adds = refl;
  goes = goes_nowhere s;
  entries = refl;
  owes = λ entering. absurd (true_is (sym entering));
  level = λ reads. refl;
  range = tt;
  checkpoints = record { count = refl; texts = refl };
  ends = tt;
  worn = λ worn entering. absurd (true_is (sym entering));
  limited = λ unworn limited. absurd (true_is (sym limited));
  untouched = λ none. refl;
}
put_steps bytes old new (Err (Door fault)) cause s = absurd cause
put_steps bytes old new (Err (Lane fault)) cause s = absurd cause
put_steps bytes old new (Err (Delta fault)) cause s = absurd cause
put_steps bytes old new (Err (Store fault)) cause s = record {
  added = [];
  adds = refl;
  goes = goes_nowhere s;
  entries = refl;
  owes = λ entering. absurd (true_is (sym entering));
  level = λ reads. refl;
  range = tt;
  checkpoints = tt;
  ends = tt;
  worn = λ worn entering. absurd (true_is (sym entering));
  limited = λ unworn limited. absurd (true_is (sym limited));
  untouched = λ none. refl;
}
put_steps bytes old new (Err NoMemory) cause s = record {
  added = [];
  adds = refl;
  goes = goes_nowhere s;
  entries = refl;
  owes = λ entering. absurd (true_is (sym entering));
  level = λ reads. refl;
  range = tt;
  checkpoints = tt;
  ends = tt;
  worn = λ worn entering. absurd (true_is (sym entering));
  limited = λ unworn limited. absurd (true_is (sym limited));
  untouched = λ none. refl;
}

-- ---- summaries

of_latest : (ack : Option SummaryRef) → IfSome {T = List ℕ × ℕ} (option_map (λ (a : SummaryRef). (a.handle, a.number)) ack) (λ pair. IsAsked Latest pair.0)
of_latest None = tt
of_latest (Some ack) = tt

of_handle : (handle : List ℕ) (number : Option ℕ) → IfSome {T = List ℕ × ℕ} (option_map (λ (n : ℕ). (handle, n)) number) (λ pair. IsAsked (Handle handle) pair.0)
of_handle handle None = tt
of_handle handle (Some n) = refl

-- an answer to a handle is given under it
among_asked : (asked : Asked) (known : List SummaryRef) → IfSome (summary_among known asked) (λ pair. IsAsked asked pair.0)
among_asked Latest known = of_latest (last_or None known)
among_asked (Handle handle) known = of_handle handle (option_map (λ (ack : SummaryRef). ack.number) (find (λ ack. bytes_eq ack.handle handle) (reverse known)))

pub summary_given : LaneSays → (asked : Asked) (found : Option (List ℕ × ℕ)) (s : Standing)
    → ((messages : List Message) → s.entries.state.scribe.acks ≡ acks messages → found ≡ summary_asked messages asked) → found ≡ summary_among s.entries.state.scribe.acks asked
    → DoesOnLane (act.Summary asked) s s (Ok (Given (Summary found)))
summary_given law asked found s by among = record {
  lane = record {
    added = [];
    adds = refl;
    goes = goes_nowhere s;
    entries = refl;
    owes = λ entering. absurd (true_is (sym entering));
    level = λ reads. refl;
    range = tt;
    checkpoints = record { count = refl; texts = refl };
    ends = ap (λ f. Given (Summary f)) among;
    worn = λ worn entering. absurd (true_is (sym entering));
    limited = λ unworn limited. absurd (true_is (sym limited));
    untouched = λ none. refl;
  };
  end = λ l held finds. ap (λ f. ends (Given (Summary f))) (sym (by (order (ledger l)) (said law s l finds).acks));
  suits = subst (λ f. IfSome f (λ pair. IsAsked asked pair.0)) (sym among) (among_asked asked s.entries.state.scribe.acks);
  cause = tt;
}

-- ---- all of an act

pub record Does (a : Act) (old new : Standing) (before now : Storing) (result : Result ActEnd TalkFault) : Type 0 where
  pub lane : OnLane a old new result
  pub store : OnStore a before now result
  pub end : (l : List Step) (held : Held) → FindsTold a old l before held → IsEndOf (outcome (found_in old.limits (ledger l) held) a) result
  pub suits : IfOk result (Suits a)
  pub cause : IfErr result (IsTalkCause a old new before now)

pub of_same : (a b : Act) (old new : Standing) (before now : Storing) (result : Result ActEnd TalkFault) → a ≡ b → Does b old new before now result → Does a old new before now result
of_same a b old new before now result same does = subst (λ x. Does x old new before now result) (sym same) does

-- an act of the lane leaves the store
pub by_lane : (a : Act) (old new : Standing) (s : Storing) (result : Result ActEnd TalkFault) → s.content ≡ option_map (λ held. held_behind held a) s.content
    → ((l : List Step) (held : Held) → FindsTold a old l s held → FindsLane old l) → DoesOnLane a old new result → Does a old new s s result
by_lane a old new s result stays finds does = record {
  lane = does.lane;
  store = store_unasked a s stays result;
  end = λ l held told. does.end l held (finds l held told);
  suits = does.suits;
  cause = lane_cause a old new s s result does.cause;
}

-- an act of the store leaves the lane
pub by_store : (a : Act) (s : Standing) (old new : Storing) (result : Result ActEnd TalkFault) → OnLane a s s result
    → ((l : List Step) (held : Held) → FindsTold a s l old held → old.content ≡ Some held) → DoesOnStore a old new result → Does a s s old new result
by_store a s old new result lane finds does = record {
  lane = lane;
  store = does.store;
  end = λ l held told. does.end s.limits (ledger l) held (finds l held told);
  suits = does.suits;
  cause = store_cause a s s old new result does.cause;
}

-- who is only answered leaves both
pub says : (reply : Reply) (s : Standing) (storing : Storing) → Does (act.Say reply) s s storing storing (Ok Said)
says reply s storing = record {
  lane = record {
    added = [];
    adds = refl;
    goes = goes_nowhere s;
    entries = refl;
    owes = λ entering. absurd (true_is (sym entering));
    level = λ reads. refl;
    range = tt;
    checkpoints = record { count = refl; texts = refl };
    ends = tt;
    worn = λ worn entering. absurd (true_is (sym entering));
    limited = λ unworn limited. absurd (true_is (sym limited));
    untouched = λ none. refl;
  };
  store = store_unasked (act.Say reply) storing (content_stays storing.content) (Ok Said);
  end = λ l held told. refl;
  suits = refl;
  cause = tt;
}
