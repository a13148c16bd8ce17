-- A container that began with nothing asks for an honest summary.
use Rattle.std.proofs.Common.{◌≡◌, ℕ, ◌+◌, ◌≤◌, arith, Bool, true, false, if◌then◌else◌, List, [], ◌∷◌, ◌++◌, length, drop, take, All, Option, Some, None, option_to_list, refl, sym, ap, ap₂, subst, ◌∙◌, append-nil, length-append}
use Rattle.std.specs.Prelude.{option_and_then}
use Rattle.std.specs.FinMap.{get}
use Rattle.std.proofs.lemmas.List.Elements.{All-nil, All-cons, All-take}
use Rattle.hex.specs.Hex.{IsBytes}
use Rattle.fluid_json.specs.Tree.{Tree}
use Rattle.fluid_types.specs.Contents.{body}
use Rattle.fluid_types.specs.Texts.{name_of}
use Rattle.fluid_types.specs.Ledger.{Ledger, order, seq, messages_of}
use Rattle.fluid_types.proofs.Ledgers.{order-push}
use Rattle.fluid_types.specs.declared.entries.Raw.{Raw}
use Rattle.fluid_types.specs.declared.entries.Raw.TheVariants.{Submit}
use Rattle.fluid_types.specs.declared.entries.Submission.{Submission}
use Rattle.fluid_types.specs.declared.entries.Offered.TheVariants.{Summarize}
use Rattle.fluid_types.specs.declared.messages.Message.{Message}
use Rattle.fluid_types.specs.declared.verdicts.Verdict.{Verdict}
use Rattle.fluid_types.specs.declared.verdicts.Verdict.TheVariants.{Sequenced, Nacked, Dropped, Absorbed}
use Rattle.fluid_tree.specs.Laws.{IsIdReadBack}
use Rattle.fluid_readback.specs.Quorums.{IsReadAsItself}
use Rattle.fluid_rules.specs.Past.{count_of}
use Rattle.fluid_rules.specs.Rules.{message, unsettled, verdict, ledger}
use Rattle.fluid_rules.specs.Scribe.{proposing, proposed_by, reference_of, is_ack}
use Rattle.fluid_rules.specs.ScribeLaws.{AcksGrow}
use Rattle.fluid_rules.specs.Counted.{is_full}
use Rattle.fluid_rules.specs.declared.answers.Proposed.{Proposed}
use Rattle.fluid_rules.specs.declared.limits.Limits.{Limits}
use Rattle.fluid_rules.proofs.Legal.{ledger-push, ledger-legal}
use Rattle.fluid_rules.proofs.Verdicts.{some_message, verdict-is_message}
use Rattle.fluid_edits.specs.Replay.{Channels, no_channels, replay}
use Rattle.fluid_runtime.specs.AppTree.{app_tree}
use Rattle.fluid_orders.specs.Laws.{OrdersAreTold}
use Rattle.fluid_store.specs.Laws.{GoesOnStanding}
use Rattle.fluid_store.specs.Listed.{own_bytes, objects}
use Rattle.fluid_store.specs.Putting.{Putting, Clashing, putting}
use Rattle.fluid_store.specs.Standing.{Stands}
use Rattle.fluid_store.specs.declared.listing.StoredObject.{StoredObject}
use Rattle.fluid_store.proofs.Sized.{id_size}
use Rattle.fluid_loader.specs.Laws.{replayed, AreNamed, IsReplayBehind, StayBased}
use Rattle.fluid_loader.specs.Submitting.{summarize_tree, head_text, numbered}
use Rattle.fluid_steps.specs.declared.steps.Step.TheVariants as step
use Rattle.fluid_voice.specs.declared.ends.ActEnd.TheVariants.{Entered, FullNow}
use Rattle.fluid_transcript.specs.World.{Container, container, World, document, is_open, changed}
use Rattle.fluid_transcript.specs.Sound.{ledger_in}
use Rattle.fluid_transcript.specs.Containers.{channels, app_id, head, last, id_of, entry_of, submitted_as, summarized, summarized_by}
use Rattle.fluid_transcript.specs.Steps.{refusal, refusal_as_container, about, effect, container_in, on_container}
use Rattle.fluid_transcript.proofs.Fitting.{putting_keeps}
use Rattle.fluid_workload.specs.Working.{work, p, behind_step}
use Rattle.fluid_alike.specs.Alike.{IsReadable}
use Rattle.fluid_alike.proofs.Digest.{sha1_bytes}
use Rattle.fluid_alike.proofs.Put.{putting_holds}
use Rattle.fluid_alike.proofs.Honest.{AllHonest, IsProposed, IsAckHonest, replayed_on, kept_honest, one_more, no_ack}
use Rattle.fluid_alike.proofs.Mild.{joins_in, IsNamedJoin}
use Rattle.fluid_alike.proofs.Stood.{replay_named, app_stands}
use Rattle.fluid_alike.proofs.Doing.{IsHonestIn, Goes, step_done, effect_goes}

-- ---- what the contents of a summarize ask for

some_same : {A : Type 0} (a b : A) → Some a ≡ Some b → a ≡ b
some_same a b same = cc

asks_for : IsIdReadBack → (app : List ℕ) → length app ≡ 20 → IsBytes app → (head : Option (List ℕ)) (n : ℕ) → proposing (body (summarize_tree app head n)) ≡ Some (record { app = app; head = head_text head })
unfolding name_of body
asks_for back app size bytes head n = rw (back app size bytes) refl

-- ---- the message of a summarize

record SaysSummarize (m : Message) (s : Submission) : Type 0 where
  acks : is_ack m.kind ≡ false
  reference : m.reference ≡ s.reference
  contents : m.contents ≡ s.contents

says_summarize : (l : Ledger) (id : List ℕ) (number reference : ℕ) (contents : Tree) (moment : ℕ) (m : Message) → message l (Submit id (numbered number reference Summarize contents) moment) ≡ Some m
    → SaysSummarize m (numbered number reference Summarize contents)
unfolding message unsettled
says_summarize l id number reference contents moment m is = rw (sym (some_message _ m is)) (record { acks = refl; reference = refl; contents = refl })

-- ---- a container that began with nothing

-- it is one of the document, and began with nothing
pub record IsFirst (k : Container) : Type 0 where
  pub document : k.document ≡ work
  pub from : k.from ≡ no_channels
  pub base : k.base ≡ 0

pub first_channels : (l : Ledger) (k : Container) → IsFirst k → channels l k ≡ replayed (order l) k.number
first_channels l k is = ap₂ (λ f b. replay f (drop b (take k.number (order l)))) is.from is.base

module _ (standing : GoesOnStanding) (grow : AcksGrow) (replays : IsReplayBehind) (based : StayBased) (back : IsIdReadBack) (told : OrdersAreTold) where
  module _ (w : World) (k : Container) (is : IsFirst k) (fits : k.number ≤ seq (ledger_in w work)) where
    abbrev l : Ledger
    l = ledger_in w work

    abbrev own : Channels
    own = channels l k

    abbrev os : List StoredObject
    os = objects (app_tree own)

    abbrev put : Putting
    put = putting w.store os

    abbrev contents : Tree
    contents = summarize_tree (app_id own) (head l k) k.number

    abbrev raw : Raw
    raw = entry_of w l k Summarize contents

    in_order : k.number ≤ length (order l)
    unfolding seq
    in_order = fits

    -- the tree of its channels stands where no object clashed
    stands : IsReadable w → put.clash ≡ None → Stands put.held (app_id own) (app_tree own)
    stands readable none =
        app_stands put.held own
        (subst AreNamed (sym (first_channels l k is))
        (replay_named replays based w.store (take k.number (order l)) (All-take IsReadAsItself k.number (order l) (told l (ledger-legal (document w work).raws) readable.few readable.entries).read_back)))
        (putting_holds w.store os none)

    asked : IsReadable w → put.clash ≡ None → (m : Message) → message l raw ≡ Some m → IsProposed put.held (order l ++ m ∷ []) m
    unfolding proposed_by
    asked readable none m says kind =
        let said = says_summarize l (id_of k) (last l k + 1) k.number contents w.moment m says in
        let at : reference_of m ≡ k.number = ap count_of said.reference in
        record {
          within = omega (arith, at, in_order, length-append (order l) (m ∷ []));
          stands = λ a asks.
              let asks_own : Some (record { app = app_id own; head = head_text (head l k) }) ≡ Some a =
              sym (asks_for back (app_id own) (id_size (own_bytes (app_tree own))) (sha1_bytes (own_bytes (app_tree own))) (head l k) k.number) ∙ ap (λ c. proposing (body c)) (sym said.contents) ∙ asks in
              let same : app_id own ≡ a.app = ap (λ (x : Proposed). x.app) (some_same (record { app = app_id own; head = head_text (head l k) }) a asks_own) in
              let behind : own ≡ replayed (order l ++ m ∷ []) (reference_of m) =
              first_channels l k is ∙ replayed_on (order l) (m ∷ []) k.number in_order ∙ ap (replayed (order l ++ m ∷ [])) (sym at) in (
                ap length (sym same) ∙ id_size (own_bytes (app_tree own)),
                subst (λ c. Stands put.held a.app (app_tree c)) behind (subst (λ i. Stands put.held i (app_tree own)) same (stands readable none)),
              );
        }

    asked_verdict : IsReadable w → IsHonestIn w → put.clash ≡ None → (v : Verdict) → verdict l raw ≡ v → AllHonest put.held (order l ++ messages_of v)
    asked_verdict readable was none (Sequenced m) at =
        let says = verdict-is_message l raw m at in
        let said = says_summarize l (id_of k) (last l k + 1) k.number contents w.moment m says in
        one_more standing grow w.store put.held (putting_keeps w.store os) (order l) m was (asked readable none m says)
        (subst (λ o. All (IsAckHonest put.held (order l ++ m ∷ [])) (option_to_list o)) (sym (no_ack (order l) m said.acks)) (All-nil (IsAckHonest put.held (order l ++ m ∷ []))))
    asked_verdict readable was none (Nacked nack) at = subst (AllHonest put.held) (sym (append-nil (order l))) (kept_honest standing w.store put.held (putting_keeps w.store os) (order l) was)
    asked_verdict readable was none Dropped at = subst (AllHonest put.held) (sym (append-nil (order l))) (kept_honest standing w.store put.held (putting_keeps w.store os) (order l) was)
    asked_verdict readable was none Absorbed at = subst (AllHonest put.held) (sym (append-nil (order l))) (kept_honest standing w.store put.held (putting_keeps w.store os) (order l) was)

    nothing_more : IsHonestIn w → AllHonest put.held (order (ledger ((document w work).raws ++ [])))
    nothing_more was = subst (λ rs. AllHonest put.held (order (ledger rs))) (sym (append-nil (document w work).raws)) (kept_honest standing w.store put.held (putting_keeps w.store os) (order l) was)

    -- by whether the document is full
    abbrev entered_by : Bool → List Raw
    entered_by full = (submitted_as l raw (if full then FullNow else Entered (verdict l raw))).entries

    abbrev Placed : Raw → Type 0
    Placed = IsNamedJoin (length (document w work).raws)

    entered_few : (full : Bool) → (length (entered_by full) ≤ 1) × ((joins_in (entered_by full) ≤ 0) × All Placed (entered_by full))
    entered_few true = (omega arith, (omega arith, All-nil Placed))
    entered_few false = (omega arith, (omega arith, All-cons Placed raw [] tt (All-nil Placed)))

    entered_honest : (full : Bool) → IsReadable w → IsHonestIn w → put.clash ≡ None → AllHonest put.held (order (ledger ((document w work).raws ++ entered_by full)))
    entered_honest true readable was none = nothing_more was
    entered_honest false readable was none =
        subst (λ l. AllHonest put.held (order l)) (sym (ledger-push (document w work).raws raw))
        (subst (AllHonest put.held) (sym (order-push l (raw, verdict l raw))) (asked_verdict readable was none (verdict l raw) refl))

    by_clash : (limits : Limits) (clash : Option Clashing) → put.clash ≡ clash → Goes p 0 w (changed (summarized_by limits w l p k put clash) (Some work) w)
    by_clash limits None none =
        let few = entered_few (is_full limits.entries l raw) in
        effect_goes p 0 w (summarized_by limits w l p k put None) few.0 few.1.0 few.1.1 refl (putting_keeps w.store os) (λ readable was. entered_honest (is_full limits.entries l raw) readable was none)
    by_clash limits (Some clash) is = effect_goes p 0 w (summarized_by limits w l p k put (Some clash)) (omega arith) (omega arith) (All-nil Placed) tt (putting_keeps w.store os) (λ readable was. nothing_more was)

    -- its step
    pub summarize_goes : (limits : Limits) → is_open w work ≡ true → get w.names p ≡ Some (container k) → Goes p 0 w (behind_step limits w (step.Summarize p))
    summarize_goes limits open_is there =
        let ok : refusal w (step.Summarize p) ≡ None = ap refusal_as_container there in
        let at : about w (step.Summarize p) ≡ Some work = ap (λ o. option_and_then (λ k. Some k.document) (container_in o)) there ∙ ap Some is.document in
        let does : effect limits w (document w work) (step.Summarize p) ≡ summarized limits w (document w work) p k = ap (λ o. on_container w (container_in o) (summarized limits w (document w work) p)) there in
        subst (Goes p 0 w) (sym (step_done limits w (step.Summarize p) open_is ok at ∙ ap (λ e. changed e (Some work) w) does)) (by_clash limits put.clash refl)
