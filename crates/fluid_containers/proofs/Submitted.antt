-- A submission of a container, on the lane of its document: it is the world's, with what becomes of the container.
use Rattle.std.proofs.Common.{◌≡◌, inl, inr, ℕ, ◌+◌, true, false, List, [], ◌∷◌, ◌++◌, Option, Some, None, Result, Ok, Err, if◌then◌else◌, refl, sym, ap, subst, ◌∙◌, append-nil}
use Rattle.fluid_json.specs.Tree.{Tree}
use Rattle.fluid_types.specs.declared.entries.Raw.{Raw}
use Rattle.fluid_types.specs.declared.entries.Raw.TheVariants.{Submit}
use Rattle.fluid_types.specs.declared.entries.Offered.{Offered}
use Rattle.fluid_types.specs.declared.entries.Submission.{Submission}
use Rattle.fluid_types.specs.declared.nacks.Nack.{Nack}
use Rattle.fluid_types.specs.declared.nacks.NackRule.{NackRule}
use Rattle.fluid_types.specs.declared.verdicts.Verdict.{Verdict}
use Rattle.fluid_types.specs.declared.verdicts.Verdict.TheVariants as verdicts
use Rattle.fluid_rules.specs.Rules.{verdict, ledger as ledger_by_rules}
use Rattle.fluid_rules.specs.Counted.{is_full}
use Rattle.fluid_rules.specs.declared.limits.Limits.{Limits}
use Rattle.fluid_rules.proofs.Legal.{legal-push, ledger-legal, ledger-push}
use Rattle.fluid_store.specs.Held.{Held}
use Rattle.fluid_store.specs.Storing.{Storing}
use Rattle.fluid_lane.specs.Standing.{Standing}
use Rattle.fluid_loader.specs.Link as link
use Rattle.fluid_loader.specs.Link.{Linked, BothTell, Enters, IsFull, given, with_entry}
use Rattle.fluid_loader.specs.declared.link.Given.{Given}
use Rattle.fluid_loader.specs.declared.link.Given.TheVariants.{Taken, Nacked}
use Rattle.fluid_loader.specs.declared.link.LinkFault.{LinkFault}
use Rattle.fluid_loader.specs.declared.link.LinkFault.TheVariants as faults
use Rattle.fluid_loader.specs.declared.fault.LoadFault.{LoadFault}
use Rattle.fluid_loader.specs.declared.fault.LoadFault.TheVariants as loads
use Rattle.fluid_loader.specs.Calls as calls
use Rattle.fluid_loader.specs.Calls.{counted, or_refused}
use Rattle.fluid_loader.specs.Container.{AContainer}
use Rattle.fluid_loader.specs.Submitting.{numbered}
use Rattle.fluid_voice.specs.declared.ends.ActEnd.TheVariants.{Entered, FullNow}
use Rattle.fluid_voice.specs.Ends.{entry_end}
use Rattle.fluid_transcript.specs.World.{World, Document, Container, ledger_of}
use Rattle.fluid_transcript.specs.Containers.{id_of, last, entry_of, refusal_in, submitted_as, submitting}
use Rattle.fluid_holding.specs.Holding.{IsContainerOf}
use Rattle.fluid_holding.specs.Laws.{Stands, SubmittedAs, SubmitsAsDefined}
use Rattle.fluid_desk.specs.Stands.{IsLaneOf}
use Rattle.fluid_door_link.specs.Coursing.{IsAlong}
use Rattle.fluid_door_link.specs.Telling.{told_by}
use Rattle.fluid_containers.proofs.Lanes.{told_as, with_raws, both_told, unchanged, entered}

-- ---- answers

taken_nacked : (nack : Nack) → ◌≡◌ {A = Given} Taken (Nacked nack) → ⊥
taken_nacked nack same = cc

same_nack : (a b : Nack) → ◌≡◌ {A = Given} (Nacked a) (Nacked b) → a ≡ b
same_nack a b same = cc

ok_err : (fault : LoadFault) → ◌≡◌ {A = Result (Unit {0}) LoadFault} (Ok tt) (Err fault) → ⊥
ok_err fault same = cc

same_refused : (a b : Nack) → ◌≡◌ {A = Result (Unit {0}) LoadFault} (Err (loads.Refused a)) (Err (loads.Refused b)) → a ≡ b
same_refused a b same = cc

-- it was taken
pub given_taken : (before after : ℕ) (g : Result Given LinkFault) → Ok tt ≡ or_refused before after g → g ≡ Ok Taken
given_taken before after (Ok Taken) is = refl
given_taken before after (Ok (Nacked nack)) is = absurd (ok_err (loads.Refused nack) is)
given_taken before after (Err fault) is = absurd (ok_err (calls.failure before after fault) is)

not_refused : (before after : ℕ) (nack : Nack) (fault : LinkFault) → ◌≡◌ {A = Result (Unit {0}) LoadFault} (Err (loads.Refused nack)) (Err (calls.failure before after fault)) → ⊥
not_refused before after nack faults.Failed is = cc
not_refused before after nack (faults.Clash id kept bytes) is = cc
not_refused before after nack faults.NoMemory is = cc

refused_taken : (nack : Nack) → ◌≡◌ {A = Result (Unit {0}) LoadFault} (Err (loads.Refused nack)) (Ok tt) → ⊥
refused_taken nack same = cc

-- or nacked
pub given_nacked : (before after : ℕ) (nack : Nack) (g : Result Given LinkFault) → Err (loads.Refused nack) ≡ or_refused before after g → g ≡ Ok (Nacked nack)
given_nacked before after nack (Ok Taken) is = absurd (refused_taken nack is)
given_nacked before after nack (Ok (Nacked other)) is = ap (λ n. Ok (Nacked n)) (sym (same_refused nack other is))
given_nacked before after nack (Err fault) is = absurd (not_refused before after nack fault is)

-- what a submission leaves, with the rule by which it was refused, if it was: the world's, and the container is then this one
pub record Sent (limits : Limits) (w : World) (d : Document) (new : Standing) (now : Storing) (held : Held) (k : Container) (own : List ℕ) (kind : Offered) (contents : Tree) (refused : Option NackRule) (left : AContainer) : Type 0 where
  pub entries : List Raw
  pub is : submitting limits w (ledger_of d) k kind contents ≡ record { entries = entries; refused = refused }
  pub stands : IsLaneOf limits new (with_raws d entries)
  pub held_now : now.content ≡ Some held
  pub container : IsContainerOf (ledger_of (with_raws d entries)) own left k
  pub document : link.Document
  pub tells : told_by true new now ≡ Some document
  pub same_held : document.held ≡ held

-- ---- the entry

module _ (limits : Limits) (w : World) (old : Standing) (d : Document) (of : IsLaneOf limits old d) (store : Storing) (new : Standing) (now : Storing) (along : IsAlong true old store (record { lane = new; store = now; stop = None }))
    (held : Held) (k : Container) (c : AContainer) (own : List ℕ) (is : IsContainerOf (ledger_of d) own c k) (stands : Stands (ledger_of d) k) (law : SubmitsAsDefined) (kind : Offered) (contents : Tree) where
  abbrev IsSent : Option NackRule → AContainer → Type 0
  IsSent refused left = Sent limits w d new now held k own kind contents refused left

  abbrev submission : Submission
  submission = numbered (c.last + 1) c.number kind contents

  abbrev raw : Raw
  raw = Submit own submission w.moment

  -- the entry is the world's
  raw_is : raw ≡ entry_of w (ledger_of d) k kind contents
  raw_is =
      ap (λ id. Submit id submission w.moment) is.client_is
      ∙ ap (λ n. Submit (id_of k) (numbered (n + 1) c.number kind contents) w.moment) is.last_is
      ∙ ap (λ n. Submit (id_of k) (numbered (last (ledger_of d) k + 1) n kind contents) w.moment) is.number

  submitting_is : submitting limits w (ledger_of d) k kind contents ≡ submitted_as (ledger_of d) raw (entry_end limits (ledger_of d) raw)
  submitting_is = ap (λ r. submitted_as (ledger_of d) r (entry_end limits (ledger_of d) r)) (sym raw_is)

  entered_as : (said : Verdict) → is_full limits.entries (ledger_of d) raw ≡ false → said ≡ verdict (ledger_of d) raw → entry_end limits (ledger_of d) raw ≡ Entered said
  entered_as said free is_verdict = ap (λ b. if b then FullNow else Entered (verdict (ledger_of d) raw)) free ∙ ap Entered (sym is_verdict)

  full_as : is_full limits.entries (ledger_of d) raw ≡ true → entry_end limits (ledger_of d) raw ≡ FullNow
  full_as full = ap (λ b. if b then FullNow else Entered (verdict (ledger_of d) raw)) full

  -- its ledger then
  ledger_then : (said : Verdict) → said ≡ verdict (ledger_of d) raw → ledger_of (with_raws d (raw ∷ [])) ≡ ledger_of d ++ (raw, said) ∷ []
  ledger_then said is_verdict = ledger-push d.raws raw ∙ ap (λ v. ledger_of d ++ (raw, v) ∷ []) (sym is_verdict)

  counted_as : (said : Verdict) → said ≡ verdict (ledger_of d) raw → SubmittedAs (ledger_of (with_raws d (raw ∷ []))) own c k said
  counted_as said is_verdict =
      subst (λ l. SubmittedAs l own c k said) (sym (ledger_then said is_verdict))
      (law (ledger_of d) own c k submission w.moment said (legal-push (ledger_of d) (raw, said) (ledger-legal d.raws) is_verdict) stands refl refl is)

  -- an entry with a verdict
  sent_as : (said : Verdict) (refused : Option NackRule) (left : AContainer) → is_full limits.entries (ledger_of d) raw ≡ false → said ≡ verdict (ledger_of d) raw → IsLaneOf limits new (with_raws d (raw ∷ []))
      → now.content ≡ Some held → refusal_in (Entered said) ≡ refused → IsContainerOf (ledger_of (with_raws d (raw ∷ []))) own left k → (e : link.Document) → told_by true new now ≡ Some e → e.held ≡ held → IsSent refused left
  sent_as said refused left free is_verdict of_new holds refusal container e there same = record {
    entries = raw ∷ [];
    is =
        submitting_is ∙ ap (submitted_as (ledger_of d) raw) (entered_as said free is_verdict)
        ∙ ap (λ r. record { entries = raw ∷ []; refused = r }) refusal;
    stands = of_new;
    held_now = holds;
    container = container;
    document = e;
    tells = there;
    same_held = same;
  }

  taken_by : (said : Verdict) → Taken ≡ given said → SubmittedAs (ledger_of (with_raws d (raw ∷ []))) own c k said → (refusal_in (Entered said) ≡ None) × IsContainerOf (ledger_of (with_raws d (raw ∷ []))) own (counted c) k
  taken_by (verdicts.Sequenced m) g is_so = (refl, is_so)
  taken_by (verdicts.Nacked nack) g is_so = absurd (taken_nacked nack g)
  taken_by verdicts.Dropped g is_so = absurd is_so
  taken_by verdicts.Absorbed g is_so = (refl, is_so)

  nacked_by : (nack : Nack) (said : Verdict) → Nacked nack ≡ given said → SubmittedAs (ledger_of (with_raws d (raw ∷ []))) own c k said
      → (refusal_in (Entered said) ≡ Some nack.rule) × IsContainerOf (ledger_of (with_raws d (raw ∷ []))) own c k
  nacked_by nack (verdicts.Sequenced m) g is_so = absurd (taken_nacked nack (sym g))
  nacked_by nack (verdicts.Nacked other) g is_so = (ap (λ (n : Nack). Some n.rule) (sym (same_nack nack other g)), is_so)
  nacked_by nack verdicts.Dropped g is_so = absurd is_so
  nacked_by nack verdicts.Absorbed g is_so = absurd (taken_nacked nack (sym g))

  taken_of : (e : link.Document) → told_by true new now ≡ Some e → Enters raw Taken (told_as limits d held) e → IsSent None (counted c)
  taken_of e there (inl (free, (said, (g, added)))) =
      let done = entered limits old d of store new now along held raw said (there ∙ ap Some added) in
      let by_given = taken_by said g (counted_as said done.1.0) in
      sent_as said None (counted c) free done.1.0 done.1.1 done.0 by_given.0 by_given.1 e there (ap (λ (x : link.Document). x.held) added)
  taken_of e there (inr (full, (none, same))) = absurd none

  nacked_of : (nack : Nack) (e : link.Document) → told_by true new now ≡ Some e → Enters raw (Nacked nack) (told_as limits d held) e → IsSent (Some nack.rule) c
  nacked_of nack e there (inl (free, (said, (g, added)))) =
      let done = entered limits old d of store new now along held raw said (there ∙ ap Some added) in
      let by_given = nacked_by nack said g (counted_as said done.1.0) in
      sent_as said (Some nack.rule) c free done.1.0 done.1.1 done.0 by_given.0 by_given.1 e there (ap (λ (x : link.Document). x.held) added)
  nacked_of nack e there (inr (full, (rule, same))) =
      let done = unchanged limits old d of store new now along held (there ∙ ap Some same) in
      record {
        entries = [];
        is = submitting_is ∙ ap (submitted_as (ledger_of d) raw) (full_as full) ∙ ap (λ r. record { entries = []; refused = Some r }) (sym rule);
        stands = done.1;
        held_now = done.0;
        container = subst (λ raws. IsContainerOf (ledger_by_rules raws) own c k) (sym (append-nil d.raws)) is;
        document = e;
        tells = there;
        same_held = ap (λ (x : link.Document). x.held) same;
      }

  -- a submission over a link that tells the document
  module _ (linked after : Linked) (client : linked.client ≡ own) (moment : linked.moment ≡ w.moment) (told : linked.told ≡ Some (told_as limits d held)) (told_now : after.told ≡ told_by true new now) where
    raw_there : link.entry_of linked submission ≡ raw
    raw_there = ap (λ id. Submit id submission linked.moment) client ∙ ap (λ m. Submit own submission m) moment

    enters_there : (answer : Given) → BothTell (Enters (link.entry_of linked submission) answer) linked.told after.told → (e : link.Document) × ((told_by true new now ≡ Some e) × Enters raw answer (told_as limits d held) e)
    enters_there answer both =
        let found = both_told (Enters (link.entry_of linked submission) answer) (told_as limits d held) linked.told after.told told both in
        (found.0, (sym told_now ∙ found.1.0, subst (λ r. Enters r answer (told_as limits d held) found.0) raw_there found.1.1))

    says_taken : (g : Result Given LinkFault) → g ≡ Ok Taken → link.SubmitSays submission linked after g → BothTell (Enters (link.entry_of linked submission) Taken) linked.told after.told
    says_taken g same says = (subst (link.SubmitSays submission linked after) same says).1

    says_nacked : (nack : Nack) (g : Result Given LinkFault) → g ≡ Ok (Nacked nack) → link.SubmitSays submission linked after g → BothTell (Enters (link.entry_of linked submission) (Nacked nack)) linked.told after.told
    says_nacked nack g same says = (subst (link.SubmitSays submission linked after) same says).1.1

    pub sent_taken : calls.Submits submission linked after (Ok tt) → IsSent None (counted c)
    sent_taken submits =
        let found = enters_there Taken (says_taken submits.given (given_taken linked.faults after.faults submits.given submits.answer) submits.submitted.says) in
        taken_of found.0 found.1.0 found.1.1

    pub sent_nacked : (nack : Nack) → calls.Submits submission linked after (Err (loads.Refused nack)) → IsSent (Some nack.rule) c
    sent_nacked nack submits =
        let found = enters_there (Nacked nack) (says_nacked nack submits.given (given_nacked linked.faults after.faults nack submits.given submits.answer) submits.submitted.says) in
        nacked_of nack found.0 found.1.0 found.1.1
