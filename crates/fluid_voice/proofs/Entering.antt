-- What of a text is entered.
use Rattle.std.proofs.Common.{◌≡◌, ◌∙◌, ℕ, Bool, true, false, List, [], ◌∷◌, ◌++◌, map, Option, Some, None, Ok, Err, if◌then◌else◌, is_ok, not, bytes_eq, refl, sym, ap}
use Rattle.std.proofs.lemmas.Slice.Eq.{bytes_eq-Decides}
use Rattle.fluid_types.specs.Forms.{Read}
use Rattle.fluid_types.specs.declared.entries.Submission.{Submission}
use Rattle.fluid_types.specs.declared.entries.Raw.{Raw}
use Rattle.fluid_types.specs.declared.entries.Raw.TheVariants.{Submit}
use Rattle.fluid_types.specs.declared.nacks.NackRule.TheVariants.{ForeignClient}
use Rattle.fluid_tree.specs.Reading.{object_read}
use Rattle.fluid_codec.specs.Events.{event_spelled}
use Rattle.fluid_codec.specs.declared.events.Event.{Event}
use Rattle.fluid_codec.specs.declared.events.Event.TheVariants as event
use Rattle.fluid_voice.specs.declared.states.VoiceState.{VoiceState}
use Rattle.fluid_voice.specs.declared.states.VoiceState.TheVariants.{Fresh, Reading, Writing, Used}
use Rattle.fluid_voice.specs.declared.actions.Act.{Act}
use Rattle.fluid_voice.specs.States.{client_id, is_connected}
use Rattle.fluid_voice.specs.Heard.{nacks, submission_acts, submit_acts, asks, event_acts, read_acts, acts_of, entry_of, entries_in, submitted_under}
use Rattle.fluid_voice.specs.Laws.{WritersEnter}

-- of either of two lists
either : (b : Bool) (xs ys : List Act) (raws : List Raw) → entries_in xs ≡ raws → entries_in ys ≡ raws → entries_in (if b then xs else ys) ≡ raws
either true xs ys raws h k = h
either false xs ys raws h k = k

-- as many as there are submissions
each_entered : (moment : ℕ) (id : List ℕ) (submissions : List Submission) → entries_in (submission_acts moment id submissions) ≡ map (λ s. Submit id s moment) submissions
each_entered moment id [] = refl
each_entered moment id (s ∷ ss) = ap (λ raws. Submit id s moment ∷ raws) (each_entered moment id ss)

-- what is entered of an event under an id, and nothing without one
abbrev under : Option (List ℕ) → ℕ → Read Event → List Raw
under None moment read = []
under (Some id) moment read = map (λ s. Submit id s moment) (submitted_under id read)

by_id : (s : VoiceState) (moment : ℕ) (id own : List ℕ) (submissions : List Submission) (b : Bool) → (b ≡ true → id ≡ own)
    → entries_in (if b then submission_acts moment id submissions else nacks s ForeignClient) ≡ map (λ sub. Submit own sub moment) (if b then submissions else [])
by_id s moment id own submissions true h =
    each_entered moment id submissions ∙ ap (λ name. map (λ sub. Submit name sub moment) submissions) (h refl)
by_id s moment id own submissions false h = refl

of_submit : (s : VoiceState) (moment : ℕ) (id : List ℕ) (submissions : List Submission)
    → entries_in (submit_acts s moment id submissions) ≡ under (client_id s) moment (Ok (event.SubmitOp id submissions))
of_submit Fresh moment id submissions = refl
of_submit (Reading name next) moment id submissions = refl
of_submit (Writing name own next) moment id submissions = by_id (Writing name own next) moment id own submissions (bytes_eq id own) (bytes_eq-Decides id own).0
of_submit Used moment id submissions = refl

-- an event that submits nothing
of_other : (id : Option (List ℕ)) (moment : ℕ) (read : Read Event) → ((own : List ℕ) → submitted_under own read ≡ []) → [] ≡ under id moment read
of_other None moment read h = refl
of_other (Some own) moment read h = ap (map (λ s. Submit own s moment)) (sym (h own))

of_question : (s : VoiceState) (moment : ℕ) (question : Act) (read : Read Event) → entry_of question ≡ [] → ((own : List ℕ) → submitted_under own read ≡ [])
    → entries_in (asks s question) ≡ under (client_id s) moment read
of_question s moment question read none h =
    either (is_connected s) (question ∷ []) _ [] (ap (λ raws. raws ++ []) none) refl ∙ of_other (client_id s) moment read h

of_event : (s : VoiceState) (moment : ℕ) (e : Event) → entries_in (event_acts s moment e) ≡ under (client_id s) moment (Ok e)
of_event s moment (event.Connect name write scopes client) =
    either (is_connected s) _ _ [] refl (either (not scopes.read) _ _ [] refl refl) ∙ of_other (client_id s) moment _ (λ own. refl)
of_event s moment (event.SubmitOp id submissions) = of_submit s moment id submissions
of_event s moment (event.GetDeltas from to) = of_question s moment _ _ refl (λ own. refl)
of_event s moment (event.GetSummary asked) = of_question s moment _ _ refl (λ own. refl)
of_event s moment (event.GetObject id) = of_question s moment _ _ refl (λ own. refl)
of_event s moment (event.PutObject bytes) =
    either (not (is_connected s)) _ _ [] refl (either (is_ok (object_read bytes)) _ _ [] refl refl) ∙ of_other (client_id s) moment _ (λ own. refl)

of_read : (s : VoiceState) (moment : ℕ) (read : Read Event) → entries_in (read_acts s moment read) ≡ under (client_id s) moment read
of_read s moment (Ok e) = of_event s moment e
of_read s moment (Err fault) = of_other (client_id s) moment (Err fault) (λ own. refl)

pub writers_enter : WritersEnter
unfolding acts_of
writers_enter Fresh text moment = of_read Fresh moment (event_spelled text)
writers_enter (Reading name next) text moment = of_read (Reading name next) moment (event_spelled text)
writers_enter (Writing name id next) text moment = of_read (Writing name id next) moment (event_spelled text)
writers_enter Used text moment = refl
