-- What is sent of what was collected and answered.
use Rattle.std.proofs.Common.{◌≡◌, List, [], ◌∷◌, ◌++◌, Result, Ok, Err, refl, sym, ap, subst, ◌∙◌, append_assoc, append-nil}
use Rattle.fluid_turn.specs.Entries.{IsPrefix}
use Rattle.fluid_turn.proofs.Lists.{prefix_refl}
use Rattle.fluid_codec.specs.declared.replies.Reply.{Reply}
use Rattle.fluid_lines.specs.declared.wire.WireFault.{WireFault}
use Rattle.fluid_voice.specs.Feed.{fed, brought}
use Rattle.fluid_session.specs.Sending.{IsSent}
use Rattle.fluid_session.specs.Events.{Event, Stand, AreWhole, AreEvents, behind}
use Rattle.fluid_session.specs.Events.Event.{brings, hears}
use Rattle.fluid_session.specs.Outcome.{collected_in, fed_in, owed_in, answered_in, SendsInOrder, MayBreakLast}

fed-append : (a b : List Reply) → fed (a ++ b) ≡ fed a ++ fed b
fed-append [] b = refl
fed-append (reply ∷ a) b = ap (λ l. brought reply ++ l) (fed-append a b) ∙ sym (append_assoc (brought reply) (fed a) (fed b))

pub sent_prefix : (result : Result (Unit {0}) WireFault) (sent replies : List Reply) → IsSent result sent replies → IsPrefix sent replies
sent_prefix (Ok done) sent replies same = subst (λ l. IsPrefix l replies) (sym same) (prefix_refl replies)
sent_prefix (Err fault) sent replies prefix = prefix

pub sent_whole : (result : Result (Unit {0}) WireFault) (sent replies : List Reply) → result ≡ Ok tt → IsSent result sent replies → sent ≡ replies
sent_whole result sent replies well is = subst (λ r. IsSent r sent replies) well is

fed_prefix : (a b : List Reply) → IsPrefix a b → IsPrefix (fed a) (fed b)
fed_prefix a b (rest, is) = (fed rest, ap fed is ∙ fed-append a rest)

pub prefix_behind : {X : Type 0} (a b c : List X) → IsPrefix b c → IsPrefix (a ++ b) (a ++ c)
prefix_behind a b c (rest, is) = (rest, ap (λ l. a ++ l) is ∙ sym (append_assoc a b rest))

pub prefix_last : {X : Type 0} (a b : List X) → IsPrefix a b → IsPrefix (a ++ []) (b ++ [])
prefix_last a b (rest, is) = (rest, append-nil b ∙ is ∙ ap (λ l. l ++ rest) (sym (append-nil a)))

all_fed : (es : List Event) (s t : Stand) → AreEvents s es t → AreWhole es → fed_in es ≡ collected_in es
all_fed [] s t same whole = refl
all_fed (brings c ∷ es) s t (begins, (is, more)) (well, rest) =
    ap (λ l. fed l ++ fed_in es) (sent_whole c.sending c.sent c.given well is.is_sent) ∙ ap (λ l. fed c.given ++ l) (all_fed es (behind (brings c) s) t more rest)
all_fed (hears r ∷ es) s t (begins, (is, more)) (well, rest) = all_fed es (behind (hears r) s) t more rest

all_answered : (es : List Event) (s t : Stand) → AreEvents s es t → AreWhole es → answered_in es ≡ owed_in es
all_answered [] s t same whole = refl
all_answered (brings c ∷ es) s t (begins, (is, more)) (well, rest) = all_answered es (behind (brings c) s) t more rest
all_answered (hears r ∷ es) s t (begins, (is, more)) (well, rest) =
    ap (λ l. l ++ answered_in es) (sent_whole r.sending r.sent r.heard.replies well.0 is.is_sent) ∙ ap (λ l. r.heard.replies ++ l) (all_answered es (behind (hears r) s) t more rest)

feed_prefix : (es : List Event) (s t : Stand) → AreEvents s es t → MayBreakLast es → IsPrefix (fed_in es) (collected_in es)
feed_prefix [] s t same may = prefix_refl []
feed_prefix (brings c ∷ []) s t (begins, (is, more)) may = prefix_last (fed c.sent) (fed c.given) (fed_prefix c.sent c.given (sent_prefix c.sending c.sent c.given is.is_sent))
feed_prefix (hears r ∷ []) s t (begins, (is, more)) may = prefix_refl []
feed_prefix (brings c ∷ e ∷ es) s t (begins, (is, more)) (well, rest) =
    subst (λ l. IsPrefix (fed l ++ fed_in (e ∷ es)) (collected_in (brings c ∷ e ∷ es))) (sym (sent_whole c.sending c.sent c.given well is.is_sent))
    (prefix_behind (fed c.given) (fed_in (e ∷ es)) (collected_in (e ∷ es)) (feed_prefix (e ∷ es) (behind (brings c) s) t more rest))
feed_prefix (hears r ∷ e ∷ es) s t (begins, (is, more)) (well, rest) = feed_prefix (e ∷ es) (behind (hears r) s) t more rest

answers_prefix : (es : List Event) (s t : Stand) → AreEvents s es t → MayBreakLast es → IsPrefix (answered_in es) (owed_in es)
answers_prefix [] s t same may = prefix_refl []
answers_prefix (brings c ∷ []) s t (begins, (is, more)) may = prefix_refl []
answers_prefix (hears r ∷ []) s t (begins, (is, more)) may = prefix_last r.sent r.heard.replies (sent_prefix r.sending r.sent r.heard.replies is.is_sent)
answers_prefix (brings c ∷ e ∷ es) s t (begins, (is, more)) (well, rest) = answers_prefix (e ∷ es) (behind (brings c) s) t more rest
answers_prefix (hears r ∷ e ∷ es) s t (begins, (is, more)) (well, rest) =
    subst (λ l. IsPrefix (l ++ answered_in (e ∷ es)) (owed_in (hears r ∷ e ∷ es))) (sym (sent_whole r.sending r.sent r.heard.replies well.0 is.is_sent))
    (prefix_behind r.heard.replies (answered_in (e ∷ es)) (owed_in (e ∷ es)) (answers_prefix (e ∷ es) (behind (hears r) s) t more rest))

pub sends_in_order : (es : List Event) (s t : Stand) → AreEvents s es t → MayBreakLast es → SendsInOrder es
sends_in_order es s t are may = record {
  feed = feed_prefix es s t are may;
  answers = answers_prefix es s t are may;
  all_fed = all_fed es s t are;
  all_answered = all_answered es s t are;
}
