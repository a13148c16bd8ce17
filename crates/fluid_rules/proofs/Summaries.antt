-- The laws of the scribe.
use Rattle.std.proofs.Common.{◌≡◌, ℕ, Bool, true, false, not, ◌&&◌, ◌||◌, if◌then◌else◌, List, [], ◌∷◌, ◌++◌, refl, sym, ◌∙◌, ap, append_assoc, append-nil}
use Rattle.std.specs.Prelude.{filter, option_to_list}
use Rattle.std.specs.List.{list_any}
use Rattle.std.proofs.lemmas.List.Folds.{list_any-append}
use Rattle.std.proofs.lemmas.List.Elements.{filter-append}
use Rattle.fluid_types.specs.declared.messages.Kind.{Kind}
use Rattle.fluid_types.specs.declared.messages.Kind.TheVariants.{Op, Noop, Propose, Reject, Summarize, Join, Leave, SummaryAck, SummaryNack}
use Rattle.fluid_types.specs.declared.messages.Message.{Message}
use Rattle.fluid_rules.specs.Scribe.{is_summarize, answers, answered_by, unless_answered, unanswered, ack_of, acks_behind, acks}
use Rattle.fluid_types.specs.Texts.{name_of}
use Rattle.fluid_tree.specs.Laws.{IsIdReadBack}
use Rattle.fluid_rules.specs.ScribeLaws.{unanswered_by, UnansweredGrows, AcksGrow, AreAnsweredBehind, UnansweredByNone, SaysWhatIsMeant}

-- ---- one message more

-- a summarize that some messages may have answered, with one message behind these
one_kept : (summarize before last : Bool) (x : Message) (test : Message → Bool) → test x ≡ not last →
    (if summarize && not (before || (last || false)) then x ∷ [] else []) ≡ filter test (if summarize && not before then x ∷ [] else [])
one_kept false before last x test h = refl
one_kept true true last x test h = refl
one_kept true false true x test h = rw h refl
one_kept true false false x test h = rw h refl

answered_later : (x m : Message) (behind : List Message) → unless_answered (behind ++ m ∷ []) x ≡ unanswered_by m (unless_answered behind x)
answered_later x m behind =
    rw (list_any-append (answers x.number) behind (m ∷ []))
    (one_kept (is_summarize x.kind) (list_any (answers x.number) behind) (answers x.number m) x (λ s. not (answers s.number m)) refl)

pub unanswered-push : UnansweredGrows
unfolding unanswered
unanswered-push [] m = append-nil (unless_answered [] m)
unanswered-push (x ∷ order) m =
    ap (λ first. first ++ unanswered (order ++ m ∷ [])) (answered_later x m order)
    ∙ ap (λ rest. unanswered_by m (unless_answered order x) ++ rest) (unanswered-push order m)
    ∙ sym (append_assoc (unanswered_by m (unless_answered order x)) (unanswered_by m (unanswered order)) (unless_answered [] m))
    ∙ ap (λ kept. kept ++ unless_answered [] m) (sym (filter-append (λ s. not (answers s.number m)) (unless_answered order x) (unanswered order)))

acks_behind-push : (before order : List Message) (m : Message) →
    acks_behind before (order ++ m ∷ []) ≡ acks_behind before order ++ option_to_list (ack_of (before ++ order) m)
unfolding acks_behind
acks_behind-push before [] m =
    append-nil (option_to_list (ack_of before m)) ∙ ap (λ o. option_to_list (ack_of o m)) (sym (append-nil before))
acks_behind-push before (x ∷ order) m =
    ap (λ rest. option_to_list (ack_of before x) ++ rest)
    (acks_behind-push (before ++ x ∷ []) order m
    ∙ ap (λ o. acks_behind (before ++ x ∷ []) order ++ option_to_list (ack_of o m)) (append_assoc before (x ∷ []) order))
    ∙ sym (append_assoc (option_to_list (ack_of before x)) (acks_behind (before ++ x ∷ []) order) (option_to_list (ack_of (before ++ x ∷ order) m)))

pub acks-push : AcksGrow
unfolding acks
acks-push order m = acks_behind-push [] order m

-- ---- no answer stands before its summarize

-- no summarize answers anything
no_answer : (kind : Kind) (m : Message) → m.kind ≡ kind → is_summarize kind ≡ true → answers m.number m ≡ false
unfolding answered_by
no_answer Op m is h = absurd (cc)
no_answer Noop m is h = absurd (cc)
no_answer Propose m is h = absurd (cc)
no_answer Reject m is h = absurd (cc)
no_answer Summarize m is h = rw is refl
no_answer Join m is h = absurd (cc)
no_answer Leave m is h = absurd (cc)
no_answer SummaryAck m is h = absurd (cc)
no_answer SummaryNack m is h = absurd (cc)

-- a summarize is unanswered where no message of the whole order answers it
one_by_none : (summarize : Bool) (m : Message) (before behind : List Message) → is_summarize m.kind ≡ summarize →
    (is_summarize m.kind ≡ true → list_any (answers m.number) before ≡ false) →
    (if summarize && not (list_any (answers m.number) behind) then m ∷ [] else [])
    ≡ filter (λ s. is_summarize s.kind && not (list_any (answers s.number) (before ++ m ∷ behind))) (m ∷ [])
one_by_none false m before behind is none = rw is refl
one_by_none true m before behind is none =
    rw (is, list_any-append (answers m.number) before (m ∷ behind), none is, no_answer m.kind m refl is) refl

by_none_behind : (before order : List Message) → AreAnsweredBehind before order →
    unanswered order ≡ filter (λ m. is_summarize m.kind && not (list_any (answers m.number) (before ++ order))) order
unfolding unanswered
by_none_behind before [] behind = refl
by_none_behind before (m ∷ order) behind =
    ap (λ rest. unless_answered order m ++ rest)
    (by_none_behind (before ++ m ∷ []) order behind.1
    ∙ ap (λ all. filter (λ s. is_summarize s.kind && not (list_any (answers s.number) all)) order) (append_assoc before (m ∷ []) order))
    ∙ ap (λ first. first ++ filter (λ s. is_summarize s.kind && not (list_any (answers s.number) (before ++ m ∷ order))) order)
    (one_by_none (is_summarize m.kind) m before order refl behind.0)
    ∙ sym (filter-append (λ s. is_summarize s.kind && not (list_any (answers s.number) (before ++ m ∷ order))) (m ∷ []) order)

pub unanswered-by_none : UnansweredByNone
unanswered-by_none order behind = by_none_behind [] order behind

-- ---- what answers say

pub says_what_is_meant : IsIdReadBack → (summary : ℕ) → SaysWhatIsMeant summary
unfolding name_of
says_what_is_meant read_back summary = record {
  named = λ handle. refl;
  handled = λ handle size bytes. read_back handle size bytes;
  refused = λ rule. refl;
}
