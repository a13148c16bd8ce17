-- A connection that hears a text, on a desk.
use Rattle.std.proofs.Common.{◌≡◌, ℕ, ◌+◌, ◌<◌, ◌≤◌, drop, get_or, Bool, true, false, not, ◌&&◌, if◌then◌else◌, List, [], ◌∷◌, ◌++◌, length, All, Option, Some, None, is_some, Result, Ok, Err, refl, sym, ap, subst, ◌∙◌, append-nil}
use Rattle.std.specs.Prelude.{nat_le, slice_get}
use Rattle.std.specs.List.{filter_map, cons_option}
use Rattle.std.specs.Option.{option_or}
use Rattle.std.specs.FinMap.{get}
use Rattle.std.proofs.lemmas.List.{drop_more, drop_all}
use Rattle.std.proofs.lemmas.List.Elements.{All-nil, All-cons, All-head, All-tail, All-same}
use Rattle.fluid_table.proofs.Places.{get_own}
use Rattle.fluid_json.specs.Tree.{Tree}
use Rattle.fluid_types.specs.declared.entries.Scopes.{Scopes}
use Rattle.fluid_rules.specs.declared.limits.Limits.{Limits}
use Rattle.fluid_store.specs.Storing.{Storing}
use Rattle.fluid_types.specs.Forms.{Read}
use Rattle.fluid_codec.specs.declared.replies.Reply.{Reply}
use Rattle.fluid_codec.specs.Events.{event_spelled}
use Rattle.fluid_codec.specs.declared.events.Event.{Event}
use Rattle.fluid_codec.specs.declared.events.Event.TheVariants as event
use Rattle.fluid_voice.specs.Refusals.{refused}
use Rattle.fluid_voice.specs.declared.refusals.ConnectRefusal.TheVariants.{ReadMissing}
use Rattle.fluid_lane.specs.Standing.{Standing}
use Rattle.fluid_lanes.specs.Opened.{Opened, with_lane}
use Rattle.fluid_lanes.specs.Using.{Uses, IsOneTooMany}
use Rattle.fluid_voice.specs.declared.states.VoiceState.{VoiceState}
use Rattle.fluid_voice.specs.declared.states.VoiceState.TheVariants.{Fresh, Reading, Writing, Used}
use Rattle.fluid_voice.specs.declared.actions.Act.{Act}
use Rattle.fluid_voice.specs.declared.actions.Act.TheVariants as act
use Rattle.fluid_voice.specs.States as states
use Rattle.fluid_voice.specs.Ends.{is_beyond}
use Rattle.fluid_voice.specs.Heard.{acts_of, read_acts, refuses}
use Rattle.fluid_voice.proofs.Each.{each}
use Rattle.fluid_steps.specs.declared.steps.Step.TheVariants as step
use Rattle.fluid_transcript.specs.World.{Document, World, new_document, document, is_open, Effect, grown, changed, with_entries, does, connection}
use Rattle.fluid_transcript.specs.Connections.{Hearing, hear, connects, voice_of, effect_of, sent, sent_to}
use Rattle.fluid_transcript.specs.Sound.{IsSoundVoice}
use Rattle.fluid_transcript.specs.Transcript.{readied, done_on, done}
use Rattle.fluid_desk.specs.declared.stop.Stop.{Stop}
use Rattle.fluid_desk.specs.Stands.{IsLaneOf, DeskStands, StoreStands}
use Rattle.fluid_desk.specs.Stopping.{MayStop}
use Rattle.fluid_desk.specs.Acting.{IsUnready}
use Rattle.fluid_desk.proofs.Desks.{acts as acts_desk, stays_desk}
use Rattle.fluid_desk.proofs.Opening.{opened_world, uses, too_many}
use Rattle.fluid_desk.proofs.Honest.{may_want, may_act}
use Rattle.fluid_desk.proofs.Doing.{readied_moment, lane_of_desk, done_within, done_beyond, may_unready}
use Rattle.fluid_callers.specs.Reaching.{connected_to, reached, IsWithin, IsNowhere}
use Rattle.fluid_callers.specs.Hearing.{HasHeard, HearsBy, HasSaid, SaysBy}
use Rattle.fluid_callers.specs.Calling.{CallDoesWith}
use Rattle.fluid_callers.proofs.Apart.{kept_all}

-- ---- which documents acts reach

two_at_once : {A : Type 0} (b : Bool) → b ≡ true → b ≡ false → A
two_at_once b h k = cc

none_some : (name : List ℕ) → ◌≡◌ {A = Option (List ℕ)} None (Some name) → ⊥
none_some name same = cc

same_some : (a b : List ℕ) → ◌≡◌ {A = Option (List ℕ)} (Some a) (Some b) → a ≡ b
same_some a b same = cc

-- what a fresh one hears is answered at once, or one connect
fresh_acts : (P : List Act → Type 0) (text : List ℕ) (moment : ℕ) → ((reply : Reply) → P (act.Say reply ∷ []))
    → ((name : List ℕ) (write : Bool) (scopes : Scopes) (client : Tree) → P (act.Connect name write scopes client moment ∷ [])) → P (acts_of Fresh text moment)
unfolding acts_of
fresh_acts P text moment says to = of_read (event_spelled text)
  where
    connecting : (missing : Bool) (name : List ℕ) (write : Bool) (scopes : Scopes) (client : Tree)
        → P (if missing then refuses ReadMissing else act.Connect name write scopes client moment ∷ [])
    connecting true name write scopes client = says (refused ReadMissing)
    connecting false name write scopes client = to name write scopes client

    of_read : (read : Read Event) → P (read_acts Fresh moment read)
    of_read (Ok (event.Connect name write scopes client)) = connecting (not scopes.read) name (write && scopes.write) scopes client
    of_read (Ok (event.SubmitOp id submissions)) = says _
    of_read (Ok (event.GetDeltas from to)) = says _
    of_read (Ok (event.GetSummary asked)) = says _
    of_read (Ok (event.GetObject id)) = says _
    of_read (Ok (event.PutObject bytes)) = says _
    of_read (Err fault) = says _

-- one that has left hears nothing
used_acts : (text : List ℕ) (moment : ℕ) → acts_of Used text moment ≡ []
unfolding acts_of
used_acts text moment = refl

-- a connected one isn't connected again
no_connect : (s : VoiceState) (text : List ℕ) (moment : ℕ) → states.is_connected s ≡ true → All (λ a. connects a ≡ None) (acts_of s text moment)
no_connect s text moment connected = each (λ a. connects a ≡ None) s text moment (record {
  nack = λ rule. refl;
  refusal = λ refusal. refl;
  connect = λ name write scopes client spelled not_yet. two_at_once _ connected not_yet;
  submit = λ id submissions spelled k d lt. refl;
  deltas = λ from to. refl;
  summary = λ asked. refl;
  get = λ id. refl;
  put = λ bytes. refl;
})

none_connects : (acts : List Act) → All (λ a. connects a ≡ None) acts → filter_map connects acts ≡ []
none_connects [] none = refl
none_connects (a ∷ acts) none =
    ap (λ o. cons_option o (filter_map connects acts)) (All-head (λ a. connects a ≡ None) a acts none) ∙ none_connects acts (All-tail (λ a. connects a ≡ None) a acts none)

own_document : (s : VoiceState) (text : List ℕ) (moment : ℕ) → states.is_connected s ≡ true → reached (acts_of s text moment) s ≡ states.document_name s
own_document s text moment connected =
    ap (λ names. option_or (slice_get names 0) (states.document_name s)) (none_connects (acts_of s text moment) (no_connect s text moment connected))

within_none : (opened : List (List ℕ)) (a : Act) → connects a ≡ None → IsWithin opened a
within_none opened (act.Say reply) none = tt
within_none opened (act.Connect name write scopes detail moment) none = absurd (none_some name (sym none))
within_none opened (act.Enter raw) none = tt
within_none opened (act.Deltas from to) none = tt
within_none opened (act.Summary asked) none = tt
within_none opened (act.GetObject id) none = tt
within_none opened (act.PutObject bytes) none = tt

all_within : (opened : List (List ℕ)) (acts : List Act) → All (λ a. connects a ≡ None) acts → All (IsWithin opened) acts
all_within opened [] none = All-nil (IsWithin opened)
all_within opened (a ∷ acts) none =
    All-cons (IsWithin opened) a acts (within_none opened a (All-head (λ a. connects a ≡ None) a acts none)) (all_within opened acts (All-tail (λ a. connects a ≡ None) a acts none))

-- the acts of a text that reaches an open document are within the limit
pub reaches_within : (opened : List (List ℕ)) (s : VoiceState) (text : List ℕ) (moment : ℕ) (name : List ℕ) → reached (acts_of s text moment) s ≡ Some name → is_beyond opened name ≡ false
    → All (IsWithin opened) (acts_of s text moment)
reaches_within opened Fresh text moment name to within =
    fresh_acts (λ acts. reached acts Fresh ≡ Some name → All (IsWithin opened) acts) text moment (λ reply none. absurd (none_some name none))
    (λ own write scopes client same. All-cons (IsWithin opened) (act.Connect own write scopes client moment) [] (ap (is_beyond opened) (same_some own name same) ∙ within) (All-nil (IsWithin opened))) to
reaches_within opened (Reading own next) text moment name to within = all_within opened (acts_of (Reading own next) text moment) (no_connect (Reading own next) text moment refl)
reaches_within opened (Writing own id next) text moment name to within = all_within opened (acts_of (Writing own id next) text moment) (no_connect (Writing own id next) text moment refl)
reaches_within opened Used text moment name to within = All-same (IsWithin opened) (acts_of Used text moment) [] (used_acts text moment) (All-nil (IsWithin opened))

-- those of one that reaches none reach none
pub reaches_none : (w : World) (s : VoiceState) (text : List ℕ) (moment : ℕ) → IsSoundVoice w s → reached (acts_of s text moment) s ≡ None → All (IsNowhere w.opened) (acts_of s text moment)
reaches_none w Fresh text moment sound to =
    fresh_acts (λ acts. reached acts Fresh ≡ None → All (IsNowhere w.opened) acts) text moment (λ reply none. All-cons (IsNowhere w.opened) (act.Say reply) [] tt (All-nil (IsNowhere w.opened)))
    (λ own write scopes client same. absurd (none_some own (sym same))) to
reaches_none w (Reading own next) text moment sound to = absurd (none_some own (sym to ∙ own_document (Reading own next) text moment refl))
reaches_none w (Writing own id next) text moment sound to = absurd (none_some own (sym to ∙ own_document (Writing own id next) text moment refl))
reaches_none w Used text moment sound to = absurd sound

not_beyond : (opened : List (List ℕ)) (w : World) (name : List ℕ) → is_open w name ≡ true → is_beyond w.opened name ≡ false
not_beyond opened w name is = ap (λ b. not b && nat_le 1024 (length w.opened)) is

-- and so do those of one that reaches a document that is one too many
pub reaches_beyond : (w : World) (s : VoiceState) (text : List ℕ) (moment : ℕ) (name : List ℕ) → IsSoundVoice w s → reached (acts_of s text moment) s ≡ Some name → is_beyond w.opened name ≡ true
    → All (IsNowhere w.opened) (acts_of s text moment)
reaches_beyond w Fresh text moment name sound to beyond =
    fresh_acts (λ acts. reached acts Fresh ≡ Some name → All (IsNowhere w.opened) acts) text moment (λ reply none. absurd (none_some name none))
    (λ own write scopes client same. All-cons (IsNowhere w.opened) (act.Connect own write scopes client moment) [] (ap (is_beyond w.opened) (same_some own name same) ∙ beyond) (All-nil (IsNowhere w.opened))) to
reaches_beyond w (Reading own next) text moment name sound to beyond =
    let same = same_some own name (sym (own_document (Reading own next) text moment refl) ∙ to) in
    two_at_once (is_beyond w.opened name) beyond (not_beyond w.opened w name (ap (is_open w) (sym same) ∙ sound.open_is))
reaches_beyond w (Writing own id next) text moment name sound to beyond =
    let same = same_some own name (sym (own_document (Writing own id next) text moment refl) ∙ to) in
    two_at_once (is_beyond w.opened name) beyond (not_beyond w.opened w name (ap (is_open w) (sym same) ∙ sound.0.open_is))
reaches_beyond w Used text moment name sound to beyond = absurd sound

-- ---- the step

-- what a connection hears from where it stands
abbrev sent_as : Limits → World → Document → (c text : List ℕ) → VoiceState → Effect
sent_as limits w d c text s = effect_of c (hear limits w.opened c d (record { entries = []; store = w.store; voice = s; lines = [] }) (acts_of s text w.moment))

sent_is : (limits : Limits) (w : World) (d : Document) (c text : List ℕ) (s : VoiceState) → voice_of w c ≡ s → sent limits w d c text ≡ sent_as limits w d c text s
sent_is limits w d c text s is = ap (sent_as limits w d c text) is

sent_to_is : (w : World) (c text : List ℕ) (s : VoiceState) → voice_of w c ≡ s → sent_to w c text ≡ reached (acts_of s text w.moment) s
sent_to_is w c text s is = ap (λ v. reached (acts_of v text w.moment) v) is

readied_names : (w : World) (name : List ℕ) (c : List ℕ) → voice_of (readied w name) c ≡ voice_of w c
readied_names w name c = by (is_open w name)
  where
    by : (b : Bool) → voice_of (if b then w else opened_world w name) c ≡ voice_of w c
    by true = refl
    by false = refl

readied_store : (w : World) (name : List ℕ) → (readied w name).store ≡ w.store
readied_store w name = by (is_open w name)
  where
    by : (b : Bool) → (if b then w else opened_world w name).store ≡ w.store
    by true = refl
    by false = refl

-- what a step writes for a connection whose document isn't open
pub says_nowhere : (limits : Limits) (o : Opened) (w : World) (d : Document) (c text : List ℕ) (s after : VoiceState) (store : Storing) (result : Result (List ℕ) Stop) → DeskStands o w → StoreStands store w
    → SaysBy (hear limits w.opened c d (record { entries = []; store = w.store; voice = s; lines = [] }) (acts_of s text w.moment)) after result
    → (hear limits w.opened c d (record { entries = []; store = w.store; voice = s; lines = [] }) (acts_of s text w.moment)).store ≡ w.store
    → CallDoesWith (does (sent_as limits w d c text s) None w) c o store after result
says_nowhere limits o w d c text s after store (Err stop) desk held says kept = may_want (changed (sent_as limits w d c text s) None w) o stop says
says_nowhere limits o w d c text s after store (Ok bytes) desk held says kept = record {
  called = record {
    stands = stays_desk o w (sent_as limits w d c text s) desk;
    name = get_own w.names c _ ∙ ap (λ v. Some (connection v)) (sym says.voice_is);
    says = says.says;
  };
  held = held ∙ ap Some (sym kept);
}

-- the world's table, by whether the text reaches a document
abbrev nothing_heard : World → VoiceState → Hearing
nothing_heard w s = record { entries = []; store = w.store; voice = s; lines = [] }

pub sends_nowhere : (o : Opened) (w : World) (c text : List ℕ) (moment : ℕ) (s after : VoiceState) (acts : List Act) (store : Storing) (result : Result (List ℕ) Stop) → DeskStands o w → StoreStands store w → IsSoundVoice w s
    → voice_of w c ≡ s → w.moment ≡ moment → acts ≡ acts_of s text moment → reached acts s ≡ None
    → ((limits : Limits) (opened : List (List ℕ)) (d : Document) (h : Hearing) → All (IsNowhere opened) acts → HasSaid h s [] → SaysBy (hear limits opened c d h acts) after result)
    → CallDoesWith (done o.limits w (step.Send c text)) c o store after result
sends_nowhere o w c text moment s after acts store result desk held sound is at acts_are to says =
    let same : acts ≡ acts_of s text w.moment = acts_are ∙ ap (acts_of s text) (sym at) in
    let reaches : reached (acts_of s text w.moment) s ≡ None = ap (λ a. reached a s) (sym same) ∙ to in
    let nowhere = reaches_none w s text w.moment sound reaches in
    let table : done o.limits w (step.Send c text) ≡ does (sent_as o.limits w new_document c text s) None w =
    ap (λ b. done_on o.limits w b (step.Send c text)) (sent_to_is w c text s is ∙ reaches) ∙ ap (λ e. does e None w) (sent_is o.limits w new_document c text s is) in
    subst (λ t. CallDoesWith t c o store after result) (sym table)
    (says_nowhere o.limits o w new_document c text s after store result desk held
    (subst (λ a. SaysBy (hear o.limits w.opened c new_document (nothing_heard w s) a) after result) same
    (says o.limits w.opened new_document (nothing_heard w s) (subst (All (IsNowhere w.opened)) (sym same) nowhere) (record { voice_is = refl; says = refl })))
    (kept_all o.limits w.opened c new_document (nothing_heard w s) (acts_of s text w.moment) nowhere))

pub sends_beyond : (old new : Opened) (w : World) (c name text : List ℕ) (moment count : ℕ) (s after : VoiceState) (acts : List Act) (store : Storing) (result : Result (List ℕ) Stop) → DeskStands old w → StoreStands store w → IsSoundVoice w s
    → voice_of w c ≡ s → w.moment ≡ moment → acts ≡ acts_of s text moment → reached acts s ≡ Some name → IsOneTooMany name old new count
    → ((limits : Limits) (opened : List (List ℕ)) (d : Document) (h : Hearing) → All (IsNowhere opened) acts → HasSaid h s [] → SaysBy (hear limits opened c d h acts) after result)
    → CallDoesWith (done old.limits w (step.Send c text)) c new store after result
sends_beyond old new w c name text moment count s after acts store result desk held sound is at acts_are to many says =
    let same : acts ≡ acts_of s text w.moment = acts_are ∙ ap (acts_of s text) (sym at) in
    let reaches : reached (acts_of s text w.moment) s ≡ Some name = ap (λ a. reached a s) (sym same) ∙ to in
    let beyond = too_many old new w name count desk many in
    let nowhere = reaches_beyond w s text w.moment name sound reaches beyond.0 in
    let table : done old.limits w (step.Send c text) ≡ does (sent_as old.limits w new_document c text s) None w =
    done_beyond old.limits w name (step.Send c text) (sent_to_is w c text s is ∙ reaches) beyond.0 ∙ ap (λ e. does e None w) (sent_is old.limits w new_document c text s is) in
    subst (λ t. CallDoesWith t c new store after result) (sym table)
    (says_nowhere old.limits new w new_document c text s after store result beyond.1 held
    (subst (λ a. SaysBy (hear old.limits w.opened c new_document (nothing_heard w s) a) after result) same
    (says old.limits w.opened new_document (nothing_heard w s) (subst (All (IsNowhere w.opened)) (sym same) nowhere) (record { voice_is = refl; says = refl })))
    (kept_all old.limits w.opened c new_document (nothing_heard w s) (acts_of s text w.moment) nowhere))

-- what was heard on the lane of an open document is what the world's table says
heard_desk : (limits : Limits) (o : Opened) (v : World) (c name text : List ℕ) (s after : VoiceState) (one other : Standing) (store : Storing) (result : Result (List ℕ) Stop) → DeskStands o v → is_open v name ≡ true → get o.lanes name ≡ Some one
    → o.limits ≡ limits → HearsBy limits (document v name) (hear limits v.opened c (document v name) (nothing_heard v s) (acts_of s text v.moment)) other store after result
    → CallDoesWith (does (sent_as limits v (document v name) c text s) (Some name) v) c (with_lane o name other) store after result
heard_desk limits o v c name text s after one other store (Err stop) desk opened there limits_are heard = may_act v o name other (sent_as limits v (document v name) c text s) stop heard
heard_desk limits o v c name text s after one other store (Ok bytes) desk opened there limits_are heard =
    let d = document v name in
    let e = sent_as limits v d c text s in
    record {
      called = record {
        stands = acts_desk o v name other e desk (ap is_some there) opened
            (subst (λ l. IsLaneOf l other (grown e d)) (sym limits_are)
            (subst (λ checkpoints. IsLaneOf limits other (record { raws = d.raws ++ e.entries; checkpoints = checkpoints })) (sym (append-nil d.checkpoints)) heard.stands));
        name = get_own v.names c _ ∙ ap (λ k. Some (connection k)) (sym heard.voice_is);
        says = heard.says;
      };
      held = heard.held;
    }

pub sends_on : (old mid : Opened) (w : World) (c name text : List ℕ) (moment : ℕ) (s after : VoiceState) (acts : List Act) (one other : Standing) (before now : Storing) (result : Result (List ℕ) Stop) → DeskStands old w → StoreStands before w
    → voice_of w c ≡ s → w.moment ≡ moment → acts ≡ acts_of s text moment → reached acts s ≡ Some name → Uses {A = Unit {0}} name moment old mid (Ok tt) → mid.limits ≡ old.limits → get mid.lanes name ≡ Some one
    → ((limits : Limits) (opened : List (List ℕ)) (d : Document) (h : Hearing) → All (IsWithin opened) acts → HasHeard limits d h one before s [] → HearsBy limits d (hear limits opened c d h acts) other now after result)
    → CallDoesWith (done old.limits w (step.Send c text)) c (with_lane mid name other) now after result
sends_on old mid w c name text moment s after acts one other before now result desk held is at acts_are to used limits there hears =
    let same : acts ≡ acts_of s text w.moment = acts_are ∙ ap (acts_of s text) (sym at) in
    let reaches : reached (acts_of s text w.moment) s ≡ Some name = ap (λ a. reached a s) (sym same) ∙ to in
    let ready = uses old mid w name moment desk at used in
    let v = readied w name in
    let own = lane_of_desk mid v name one ready.stands there in
    let d = document v name in
    let acts_now : acts ≡ acts_of s text v.moment = same ∙ ap (acts_of s text) (sym (readied_moment w name)) in
    let within : All (IsWithin v.opened) (acts_of s text w.moment) = reaches_within v.opened s text w.moment name reaches (not_beyond v.opened v name own.0) in
    let lane_is : IsLaneOf old.limits one (with_entries [] d) =
    subst (λ raws. IsLaneOf old.limits one (record { raws = raws; checkpoints = d.checkpoints })) (sym (append-nil d.raws)) (subst (λ l. IsLaneOf l one d) limits own.1) in
    let table : done old.limits w (step.Send c text) ≡ does (sent_as old.limits v d c text s) (Some name) v =
    done_within old.limits w name (step.Send c text) (sent_to_is w c text s is ∙ reaches) ready.within
    ∙ ap (λ e. does e (Some name) v) (sent_is old.limits v d c text s (readied_names w name c ∙ is)) in
    subst (λ t. CallDoesWith t c (with_lane mid name other) now after result) (sym table)
    (heard_desk old.limits mid v c name text s after one other now result ready.stands own.0 there limits
    (subst (λ a. HearsBy old.limits d (hear old.limits v.opened c d (nothing_heard v s) a) other now after result) acts_now
    (hears old.limits v.opened d (nothing_heard v s) (subst (All (IsWithin v.opened)) (sym same) within)
    (record { stands = lane_is; held = held ∙ ap Some (sym (readied_store w name)); voice_is = refl; says = refl }))))

-- its document wasn't opened
pub unsent : (limits : Limits) (o : Opened) (w : World) (c name text : List ℕ) (moment : ℕ) (s : VoiceState) (acts : List Act) (stop : Stop) → voice_of w c ≡ s → w.moment ≡ moment → acts ≡ acts_of s text moment
    → reached acts s ≡ Some name → IsUnready w name o stop → MayStop (done limits w (step.Send c text)).world o stop
unsent limits o w c name text moment s acts stop is at acts_are to unready =
    let same : acts ≡ acts_of s text w.moment = acts_are ∙ ap (acts_of s text) (sym at) in
    may_unready limits w name o (step.Send c text) stop (sent_to_is w c text s is ∙ (ap (λ a. reached a s) (sym same) ∙ to)) unready

-- ---- the first connect among acts

pub not_connect : (a : Act) → ((name : List ℕ) (write : Bool) (scopes : Scopes) (detail : Tree) (moment : ℕ) → a ≡ act.Connect name write scopes detail moment → ⊥) → connects a ≡ None
not_connect (act.Say reply) other = refl
not_connect (act.Connect name write scopes detail moment) other = absurd (other name write scopes detail moment refl)
not_connect (act.Enter raw) other = refl
not_connect (act.Deltas from to) other = refl
not_connect (act.Summary asked) other = refl
not_connect (act.GetObject id) other = refl
not_connect (act.PutObject bytes) other = refl

-- one that doesn't connect is passed by
pub passed_act : (acts : List Act) (i : ℕ) (a : Act) → i < length acts → a ≡ get_or acts i a → connects a ≡ None → connected_to (drop i acts) ≡ connected_to acts → connected_to (drop (i + 1) acts) ≡ connected_to acts
passed_act acts i a below is none so_far =
    sym (ap connected_to (drop_more acts i a below ∙ ap (λ x. x ∷ drop (i + 1) acts) (sym is)) ∙ ap (λ o. slice_get (cons_option o (filter_map connects (drop (i + 1) acts))) 0) none) ∙ so_far

pub found_act : (acts : List Act) (i : ℕ) (a : Act) (name : List ℕ) → i < length acts → a ≡ get_or acts i a → connects a ≡ Some name → connected_to (drop i acts) ≡ connected_to acts → Some name ≡ connected_to acts
found_act acts i a name below is named so_far =
    sym (ap connected_to (drop_more acts i a below ∙ ap (λ x. x ∷ drop (i + 1) acts) (sym is)) ∙ ap (λ o. slice_get (cons_option o (filter_map connects (drop (i + 1) acts))) 0) named) ∙ so_far

pub no_act : (acts : List Act) (i : ℕ) → length acts ≤ i → connected_to (drop i acts) ≡ connected_to acts → None ≡ connected_to acts
no_act acts i le so_far = sym (ap connected_to (drop_all i acts le)) ∙ so_far
