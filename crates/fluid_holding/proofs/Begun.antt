-- A container that is loaded behind its client's join.
use Rattle.std.proofs.Common.{◌≡◌, inl, ℕ, zero, suc, ◌+◌, ◌≤◌, arith, Bool, true, false, cond, if◌then◌else◌, List, [], ◌∷◌, ◌++◌, length, take, drop, Option, Some, None, IfSome, Result, Ok, Err, refl, sym, ap, subst, ◌∙◌, bytes_eq, option_map, length-drop}
use Rattle.std.specs.Prelude.{is_some}
use Rattle.std.specs.List.{last_or}
use Rattle.std.specs.Option.{option_or}
use Rattle.std.proofs.lemmas.List.{take_all}
use Rattle.std.proofs.lemmas.Slice.Eq.{bytes_eq-Decides}
use Rattle.fluid_types.specs.Ledger.{Ledger, order, seq}
use Rattle.fluid_types.specs.Names.{entry_name}
use Rattle.fluid_types.specs.Order.{AreNumberedFrom}
use Rattle.fluid_types.specs.declared.messages.Message.{Message}
use Rattle.fluid_types.specs.declared.verdicts.Verdict.TheVariants.{Sequenced}
use Rattle.fluid_tree.specs.declared.id.SummaryRef.{SummaryRef}
use Rattle.fluid_rules.specs.Rules.{IsLegal, client, minimum, verdict}
use Rattle.fluid_types.proofs.Ledgers.{seq-push}
use Rattle.fluid_types.specs.declared.entries.Raw.TheVariants.{Join}
use Rattle.fluid_json.specs.Tree.{null}
use Rattle.fluid_edits.specs.declared.edit.Edit.{Edit}
use Rattle.fluid_rules.specs.Past.{client_behind}
use Rattle.fluid_rules.specs.Scribe.{handling, is_ack, number_of}
use Rattle.fluid_rules.specs.ScribeLaws.{OrdersAreAnsweredInTurn, summary_acks}
use Rattle.fluid_rules.specs.declared.limits.Limits.{Limits}
use Rattle.fluid_rules.proofs.Legal.{ledger-legal, ledger-push}
use Rattle.fluid_rules.proofs.Growth.{minimum-bounded}
use Rattle.fluid_rules.proofs.Pushed.{client-push}
use Rattle.fluid_scribe.proofs.Sequenced.{sequenced-numbered, legal-sequenced}
use Rattle.fluid_edits.specs.Replay.{replay}
use Rattle.fluid_loader.specs.Calls.{begun_in, begun_of, begun_picked, or_bad}
use Rattle.fluid_loader.specs.Container.{AContainer, behind, begun, empty, taken_by}
use Rattle.fluid_loader.specs.Laws.{IsReplayBehind}
use Rattle.fluid_loader.specs.Link.{picked}
use Rattle.fluid_loader.specs.Link as link
use Rattle.fluid_loader.specs.Version.{AVersion, version_at}
use Rattle.fluid_loader.specs.declared.link.Pick.{Pick}
use Rattle.fluid_loader.specs.declared.link.Pick.TheVariants.{Empty, Latest, Handle}
use Rattle.fluid_loader.proofs.Orders.{drop_numbered, behind_number}
use Rattle.fluid_transcript.specs.World.{Container, Document, World, ledger_of, with_entries}
use Rattle.fluid_transcript.specs.Containers.{all_scopes, last, head, loading, loading_by, join_for, joining, join_refusal, begun_at, begun_from, begun_with}
use Rattle.fluid_transcript.specs.Containers.{begun as begun_there}
use Rattle.fluid_transcript.specs.Laws.{NothingWasTaken}
use Rattle.fluid_transcript.specs.Sound.{IsAcknowledged}
use Rattle.fluid_transcript.proofs.Acks.{acknowledged_below, handle_acknowledged, head_since, last_acknowledged}
use Rattle.fluid_transcript.proofs.Fitting.{length_ledger}
use Rattle.fluid_holding.specs.Holding.{IsWithin}
use Rattle.fluid_holding.specs.Laws.{IsLoaded, LoadsAs, LoadsAsDefined, joined_in}
use Rattle.fluid_holding.proofs.Caught.{last_behind, pending_behind, seq_is}

-- ---- the head

-- a head is that of the last summaryAck, where it names one, and there is none where there is no summaryAck
abbrev Heads : Option Message → Option (List ℕ) → Type 0
Heads None head = head ≡ None
Heads (Some m) head = (handle : List ℕ) → handling m.contents ≡ Some handle → head ≡ Some handle

head_by : (own : List ℕ) (ms : List Message) (o : Option Message) (c : AContainer) → Heads o c.head → Heads (last_or o (summary_acks ms)) (behind own c ms).head
head_by own [] o c h = h
head_by own (m ∷ ms) o c h = by (λ o c h. head_by own ms o c h) (is_ack m.kind) refl
  where
    by : ((o : Option Message) (c : AContainer) → Heads o c.head → Heads (last_or o (summary_acks ms)) (behind own c ms).head) → (b : Bool) → is_ack m.kind ≡ b → Heads (last_or o (cond b (m ∷ summary_acks ms) (summary_acks ms))) (behind own (taken_by own c m) ms).head
    by again true is = again (Some m) (taken_by own c m) (λ handle said. ap (λ b. option_or (if b then handling m.contents else None) c.head) is ∙ ap (λ o. option_or o c.head) said)
    by again false is = again o (taken_by own c m) (subst (Heads o) (sym (ap (λ b. option_or (if b then handling m.contents else None) c.head) is)) h)

heads_is : (o : Option Message) (mine : Option (List ℕ)) (theirs : Option (List ℕ)) → Heads o mine → option_map Some theirs ≡ option_map (λ (m : Message). handling m.contents) o → mine ≡ theirs
heads_is None mine None h is = h
heads_is None mine (Some handle) h is = absurd (cc)
heads_is (Some m) mine None h is = absurd (cc)
heads_is (Some m) mine (Some handle) h is = let said : handling m.contents ≡ Some handle = cc in h handle said

-- ---- a summary that is picked

picked_acknowledged : (pick : Pick) (ms : List Message) (s : SummaryRef) → picked pick ms ≡ Some s → IsAcknowledged ms s.number
picked_acknowledged Empty ms s h = absurd (cc)
picked_acknowledged Latest ms s h = last_acknowledged ms s h
picked_acknowledged (Handle handle) ms s h = by (number_of ms handle) refl h
  where
    by : (o : Option ℕ) → number_of ms handle ≡ o → option_map (λ number. record { handle = handle; number = number }) o ≡ Some s → IsAcknowledged ms s.number
    by None is h = absurd (cc)
    by (Some number) is h = let same : number ≡ s.number = cc in handle_acknowledged ms handle s.number (is ∙ ap Some same)

-- ---- behind the join

module _ (turn : OrdersAreAnsweredInTurn) (behind_law : IsReplayBehind) (nothing : NothingWasTaken) (limits : Limits) (w : World) (d : Document) (name : List ℕ) (pick : Pick) (join : Message)
    (enters : join_refusal (joining limits w (ledger_of d)) ≡ None) (joins : verdict (ledger_of d) (join_for w (ledger_of d)) ≡ Sequenced join) where
  abbrev l : Ledger
  l = ledger_of (joined_in w d)

  abbrev own : List ℕ
  own = entry_name (length d.raws)

  legal : IsLegal l
  legal = ledger-legal (joined_in w d).raws

  -- the join stands behind the entries before it
  pushed : l ≡ ledger_of d ++ (join_for w (ledger_of d), Sequenced join) ∷ []
  pushed = ledger-push d.raws (join_for w (ledger_of d)) ∙ ap (λ v. ledger_of d ++ (join_for w (ledger_of d), v) ∷ []) joins

  all_taken : take (seq l) (order l) ≡ order l
  all_taken = take_all (seq l) (order l) (omega (arith, seq_is l))

  -- what is said of the client then
  said_so : (c : List ℕ) → bytes_eq c own ≡ true → IfSome (client_behind (Join c all_scopes null w.moment, Sequenced join) (seq (ledger_of d)) (minimum (ledger_of d)) own (client (ledger_of d) own)) (IsWithin 0 (seq l))
  said_so c is =
      subst
      (λ b. IfSome (if b then Some (record { last = 0; reference = minimum (ledger_of d); nacked = false; scopes = all_scopes; heard = w.moment }) else client (ledger_of d) own) (IsWithin 0 (seq l)))
      (sym is) (record { last_within = omega arith; reference_within = omega (arith, minimum-bounded (ledger_of d) (ledger-legal d.raws), grown) })
    where
      grown : seq (ledger_of d) ≤ seq l
      grown = omega (arith, ap seq pushed, seq-push (ledger_of d) (join_for w (ledger_of d), Sequenced join))

  known : IfSome (client l own) (IsWithin 0 (seq l))
  known =
      subst (λ m. IfSome (client m own) (IsWithin 0 (seq l))) (sym pushed)
      (subst (λ o. IfSome o (IsWithin 0 (seq l))) (sym (client-push (ledger_of d) (join_for w (ledger_of d), Sequenced join) own))
      (said_so (entry_name (length (ledger_of d))) ((bytes_eq-Decides (entry_name (length (ledger_of d))) own).1 (ap entry_name (length_ledger d.raws)))))

  loads_at : loading limits w d name pick ≡ begun_at w.store name (length d.raws) l pick
  loads_at = ap (loading_by w d name pick) enters

  module _ (first : AContainer) (number_is : IsAcknowledged (order l) first.number) (none_pending : first.pending ≡ []) (none_last : first.last ≡ 0) (none_head : first.head ≡ None)
      (is : loading limits w d name pick ≡ begun_there name (length d.raws) l first.channels first.number) where
    abbrev now : Container
    now = record { document = name; entries = length d.raws; from = first.channels; base = first.number; number = seq l; pending = [] }

    abbrev ms : List Message
    ms = drop first.number (order l)

    abbrev c : AContainer
    c = behind own first ms

    within : first.number ≤ length (order l)
    within = acknowledged_below (order l) first.number (legal-sequenced l legal) number_is

    c_number : c.number ≡ seq l
    c_number =
        let numbered = drop_numbered 1 first.number (order l) (sequenced-numbered (order l) 0 0 (legal-sequenced l legal)) in
        let next : 1 + first.number ≡ suc first.number = omega arith in
        omega (arith, behind_number own ms first first.number refl (subst (λ n. AreNumberedFrom n ms) next numbered), length-drop first.number (order l), within, seq_is l)

    c_last : c.last ≡ last l now
    c_last = last_behind own first ms ∙ none_last ∙ sym (subst (λ refusal. last (ledger_of (with_entries (if is_some refusal then [] else join_for w (ledger_of d) ∷ []) d)) now ≡ 0) enters (nothing limits w d name pick now is))

    c_head : c.head ≡ head l now
    c_head =
        heads_is (last_or None (summary_acks ms)) c.head (head l now) (head_by own ms None first none_head)
        (head_since turn l (seq l) first.number legal (subst (λ all. IsAcknowledged all first.number) (sym all_taken) number_is)
        ∙ ap (λ all. option_map (λ (m : Message). handling m.contents) (last_or None (summary_acks (drop first.number all)))) all_taken)

    c_pending : c.pending ≡ []
    c_pending = pending_behind own first ms ∙ ap (drop _) none_pending ∙ none_of _
      where
        none_of : (n : ℕ) → ◌≡◌ {A = List Edit} (drop n []) []
        none_of zero = refl
        none_of (suc n) = refl

    is_loaded : IsLoaded l own first (loading limits w d name pick)
    is_loaded = record {
      now = now;
      is = is;
      held = record {
        client_is = refl;
        number = c_number;
        channels_are = behind_law own first ms ∙ ap (λ all. replay first.channels (drop first.number all)) (sym all_taken);
        pending = c_pending;
        last_is = c_last;
        head_is = c_head;
        known = subst (λ n. IfSome (client l own) (IsWithin n c.number)) (sym (last_behind own first ms ∙ none_last)) (subst (λ n. IfSome (client l own) (IsWithin 0 n)) (sym c_number) known);
      };
    }

  by_version : (s : SummaryRef) → IsAcknowledged (order l) s.number → (version : Result AVersion (List ℕ)) → loading limits w d name pick ≡ begun_with name (length d.raws) l s.number version
      → LoadsAs l own (loading limits w d name pick) (or_bad (begun_of s.number version))
  by_version s there (Ok v) is = is_loaded (begun v.channels v.quorum s.number v.base) there refl refl refl is
  by_version s there (Err path) is = is

  by_summary : (o : Option SummaryRef) → ((s : SummaryRef) → o ≡ Some s → IsAcknowledged (order l) s.number) → loading limits w d name pick ≡ begun_from w.store name (length d.raws) l o
      → LoadsAs l own (loading limits w d name pick) (begun_picked w.store o)
  by_summary None there is = is
  by_summary (Some s) there is = by_version s (there s refl) (version_at w.store s) is

  by_pick : (p : Pick) → loading limits w d name pick ≡ begun_at w.store name (length d.raws) l p → (document : link.Document) → document.order ≡ order l → document.held ≡ w.store
      → LoadsAs l own (loading limits w d name pick) (begun_in p document)
  by_pick Empty is document orders holds = is_loaded empty (inl refl) refl refl refl is
  by_pick Latest is document orders holds =
      subst (λ held. LoadsAs l own (loading limits w d name pick) (begun_picked held (picked Latest document.order))) (sym holds)
      (subst (λ ms. LoadsAs l own (loading limits w d name pick) (begun_picked w.store (picked Latest ms))) (sym orders)
      (by_summary (picked Latest (order l)) (picked_acknowledged Latest (order l)) is))
  by_pick (Handle handle) is document orders holds =
      subst (λ held. LoadsAs l own (loading limits w d name pick) (begun_picked held (picked (Handle handle) document.order))) (sym holds)
      (subst (λ ms. LoadsAs l own (loading limits w d name pick) (begun_picked w.store (picked (Handle handle) ms))) (sym orders)
      (by_summary (picked (Handle handle) (order l)) (picked_acknowledged (Handle handle) (order l)) is))

pub loads_as_defined : OrdersAreAnsweredInTurn → IsReplayBehind → NothingWasTaken → LoadsAsDefined
loads_as_defined turn behind_law nothing limits w d name pick document join enters joins orders holds =
    by_pick turn behind_law nothing limits w d name pick join enters joins pick (loads_at turn behind_law nothing limits w d name pick join enters joins) document orders holds
