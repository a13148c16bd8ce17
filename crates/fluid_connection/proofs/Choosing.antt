-- What a text of one that is connected asks for.
use Rattle.std.proofs.Common.{◌≡◌, ◌≤◌, inl, inr, ℕ, Bool, not, true, false, List, [], ◌∷◌, All, Ok, Err, is_ok, bytes_eq, if◌then◌else◌, refl, sym, ◌∙◌, subst}
use Rattle.std.proofs.lemmas.List.Elements.{All-head, All-tail}
use Rattle.fluid_types.specs.Forms.{Read, largest}
use Rattle.fluid_types.specs.declared.entries.Submission.{Submission}
use Rattle.fluid_types.specs.declared.entries.Raw.TheVariants.{Join, Leave, Submit, Report}
use Rattle.fluid_tree.specs.Reading.{object_read}
use Rattle.fluid_codec.specs.Events.{event_spelled}
use Rattle.fluid_codec.specs.declared.events.Event.{Event}
use Rattle.fluid_codec.specs.declared.events.Event.TheVariants as event
use Rattle.fluid_voice.specs.declared.states.VoiceState.{VoiceState}
use Rattle.fluid_voice.specs.declared.states.VoiceState.TheVariants.{Fresh, Reading, Writing, Used}
use Rattle.fluid_voice.specs.declared.actions.Act.{Act}
use Rattle.fluid_voice.specs.declared.actions.Act.TheVariants as act
use Rattle.fluid_voice.specs.States.{is_connected}
use Rattle.fluid_voice.specs.Fitting.{IsFitting}
use Rattle.fluid_voice.specs.Heard.{submission_acts, read_acts, acts_of}
use Rattle.fluid_connection.specs.Running.{AreSubmissions}
use Rattle.fluid_connection.specs.Hearing.{IsQuestion, AreSubmitActs, AreAskedAtOnce, ConnectedAsk, AreSole, AreAskedApart, OthersAsk, begin_with_entry}

-- ---- the law

one : (a : Act) → IsQuestion a → AreAskedAtOnce (a ∷ [])
one a is = inr (a, (refl, is))

submissions : (moment : ℕ) (id : List ℕ) (l : List Submission) → AreSubmitActs (submission_acts moment id l)
submissions moment id [] = tt
submissions moment id (s ∷ l) = (tt, submissions moment id l)

chosen : (b : Bool) (first second : List Act) → AreAskedAtOnce first → AreAskedAtOnce second → AreAskedAtOnce (if b then first else second)
chosen true first second one other = one
chosen false first second one other = other

event_asked : (s : VoiceState) (moment : ℕ) → is_connected s ≡ true → (r : Read Event) → AreAskedAtOnce (read_acts s moment r)
event_asked Fresh moment is r = absurd (never is)
  where
    never : false ≡ true → ⊥
    never same = cc
event_asked Used moment is r = absurd (never is)
  where
    never : false ≡ true → ⊥
    never same = cc
event_asked (Reading name next) moment is (Err fault) = one _ tt
event_asked (Writing name id next) moment is (Err fault) = one _ tt
event_asked (Reading name next) moment is (Ok (event.Connect to write scopes client)) = one _ tt
event_asked (Writing name id next) moment is (Ok (event.Connect to write scopes client)) = one _ tt
event_asked (Reading name next) moment is (Ok (event.SubmitOp own l)) = one _ tt
event_asked (Writing name id next) moment is (Ok (event.SubmitOp own l)) = chosen (bytes_eq own id) _ _ (inl (submissions moment own l)) (one _ tt)
event_asked (Reading name next) moment is (Ok (event.GetDeltas from to)) = one _ tt
event_asked (Writing name id next) moment is (Ok (event.GetDeltas from to)) = one _ tt
event_asked (Reading name next) moment is (Ok (event.GetSummary asked)) = one _ tt
event_asked (Writing name id next) moment is (Ok (event.GetSummary asked)) = one _ tt
event_asked (Reading name next) moment is (Ok (event.GetObject id)) = one _ tt
event_asked (Writing name own next) moment is (Ok (event.GetObject id)) = one _ tt
event_asked (Reading name next) moment is (Ok (event.PutObject bytes)) = chosen (is_ok (object_read bytes)) _ _ (one _ tt) (one _ tt)
event_asked (Writing name id next) moment is (Ok (event.PutObject bytes)) = chosen (is_ok (object_read bytes)) _ _ (one _ tt) (one _ tt)

pub connected_ask : ConnectedAsk
unfolding acts_of
connected_ask Fresh text moment is = absurd (never is)
  where
    never : false ≡ true → ⊥
    never same = cc
connected_ask Used text moment is = absurd (never is)
  where
    never : false ≡ true → ⊥
    never same = cc
connected_ask (Reading name next) text moment is = event_asked (Reading name next) moment refl (event_spelled text)
connected_ask (Writing name id next) text moment is = event_asked (Writing name id next) moment refl (event_spelled text)

-- ---- one that isn't connected

one_of : (b : Bool) (moment : ℕ) (a other : Act) → AreAskedApart (a ∷ []) → AreAskedApart (other ∷ []) → AreAskedApart (if b then a ∷ [] else other ∷ [])
one_of true moment a other first second = first
one_of false moment a other first second = second

event_apart : (s : VoiceState) (moment : ℕ) → is_connected s ≡ false → moment ≤ largest → (r : Read Event) → AreAskedApart (read_acts s moment r)
event_apart (Reading name next) moment off early r = absurd (never off)
  where
    never : true ≡ false → ⊥
    never same = cc
event_apart (Writing name id next) moment off early r = absurd (never off)
  where
    never : true ≡ false → ⊥
    never same = cc
event_apart Fresh moment off early (Err fault) = tt
event_apart Used moment off early (Err fault) = tt
event_apart Fresh moment off early (Ok (event.Connect to write scopes client)) = one_of (not scopes.read) moment _ _ tt early
event_apart Used moment off early (Ok (event.Connect to write scopes client)) = one_of (not scopes.read) moment _ _ tt early
event_apart Fresh moment off early (Ok (event.SubmitOp own l)) = tt
event_apart Used moment off early (Ok (event.SubmitOp own l)) = tt
event_apart Fresh moment off early (Ok (event.GetDeltas from to)) = tt
event_apart Used moment off early (Ok (event.GetDeltas from to)) = tt
event_apart Fresh moment off early (Ok (event.GetSummary asked)) = tt
event_apart Used moment off early (Ok (event.GetSummary asked)) = tt
event_apart Fresh moment off early (Ok (event.GetObject id)) = tt
event_apart Used moment off early (Ok (event.GetObject id)) = tt
event_apart Fresh moment off early (Ok (event.PutObject bytes)) = tt
event_apart Used moment off early (Ok (event.PutObject bytes)) = tt

pub others_ask : OthersAsk
unfolding acts_of
others_ask Fresh text moment off early = event_apart Fresh moment refl early (event_spelled text)
others_ask (Reading name next) text moment off early = absurd (never off)
  where
    never : true ≡ false → ⊥
    never same = cc
others_ask (Writing name id next) text moment off early = absurd (never off)
  where
    never : true ≡ false → ⊥
    never same = cc
others_ask Used text moment off early = tt

pub not_two : (a b : Act) (acts : List Act) → AreAskedApart (a ∷ b ∷ acts) → ⊥
not_two (act.Say reply) b acts is = is
not_two (act.Connect name write scopes detail moment) b acts is = is
not_two (act.Enter raw) b acts is = is
not_two (act.Deltas from to) b acts is = is
not_two (act.Summary asked) b acts is = is
not_two (act.GetObject id) b acts is = is
not_two (act.PutObject bytes) b acts is = is

-- ---- the choice

fitting : (acts : List Act) → AreSubmitActs acts → All IsFitting acts → AreSubmissions acts
fitting [] subs fit = tt
fitting (act.Enter (Submit id submission moment) ∷ acts) subs fit =
    ((All-head IsFitting _ _ fit).1, fitting acts subs.1 (All-tail IsFitting _ _ fit))
fitting (act.Enter (Join id scopes detail moment) ∷ acts) subs fit = absurd subs.0
fitting (act.Enter (Leave id moment) ∷ acts) subs fit = absurd subs.0
fitting (act.Enter (Report summary found moment) ∷ acts) subs fit = absurd subs.0
fitting (act.Say reply ∷ acts) subs fit = absurd subs.0
fitting (act.Connect name write scopes detail moment ∷ acts) subs fit = absurd subs.0
fitting (act.Deltas from to ∷ acts) subs fit = absurd subs.0
fitting (act.Summary asked ∷ acts) subs fit = absurd subs.0
fitting (act.GetObject id ∷ acts) subs fit = absurd subs.0
fitting (act.PutObject bytes ∷ acts) subs fit = absurd subs.0

no_entry : (a : Act) → IsQuestion a → begin_with_entry (a ∷ []) ≡ true → ⊥
no_entry (act.Enter raw) is begins = is
no_entry (act.Connect name write scopes detail moment) is begins = is
no_entry (act.Say reply) is begins = cc
no_entry (act.Deltas from to) is begins = cc
no_entry (act.Summary asked) is begins = cc
no_entry (act.GetObject id) is begins = cc
no_entry (act.PutObject bytes) is begins = cc

pub entries_chosen : (acts : List Act) → begin_with_entry acts ≡ true → AreAskedAtOnce acts → All IsFitting acts → AreSubmissions acts
entries_chosen acts begins (inl subs) fit = fitting acts subs fit
entries_chosen acts begins (inr (a, (is, asks))) fit = absurd (no_entry a asks (subst (λ l. begin_with_entry l ≡ true) is begins))

entry_first : (acts : List Act) → AreSubmitActs acts → begin_with_entry acts ≡ false → ⊥
entry_first [] subs begins = cc
entry_first (act.Enter raw ∷ acts) subs begins = cc
entry_first (act.Say reply ∷ acts) subs begins = subs.0
entry_first (act.Connect name write scopes detail moment ∷ acts) subs begins = subs.0
entry_first (act.Deltas from to ∷ acts) subs begins = subs.0
entry_first (act.Summary asked ∷ acts) subs begins = subs.0
entry_first (act.GetObject id ∷ acts) subs begins = subs.0
entry_first (act.PutObject bytes ∷ acts) subs begins = subs.0

pub question_chosen : (acts : List Act) → begin_with_entry acts ≡ false → AreAskedAtOnce acts → (a : Act) × ((acts ≡ a ∷ []) × IsQuestion a)
question_chosen acts begins (inl subs) = absurd (entry_first acts subs begins)
question_chosen acts begins (inr asks) = asks

pub question_sole : (acts : List Act) → begin_with_entry acts ≡ false → AreAskedAtOnce acts → AreSole acts
question_sole acts begins asked =
    let q = question_chosen acts begins asked in
    subst AreSole (sym q.1.0) tt

pub question_some : (acts : List Act) (a : Act) → begin_with_entry acts ≡ false → AreAskedAtOnce acts → acts ≡ a ∷ [] → IsQuestion a
question_some acts a begins asked same =
    let q = question_chosen acts begins asked in
    subst IsQuestion (head_same q.0 a (sym q.1.0 ∙ same)) q.1.1
  where
    head_same : (x y : Act) → x ∷ [] ≡ y ∷ [] → x ≡ y
    head_same x y same = cc
