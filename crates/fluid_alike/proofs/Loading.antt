-- A container that is loaded from the last summary has all channels of the document.
use Rattle.std.proofs.Common.{◌≡◌, ◌⊎◌, inl, inr, ℕ, ◌<◌, ◌^◌, arith, Bool, true, false, if◌then◌else◌, not, ◌&&◌, List, [], ◌∷◌, ◌++◌, length, All, Option, Some, None, is_some, option_to_list, Result, Ok, Err, refl, sym, ap, subst, ◌∙◌, append-nil}
use Rattle.std.specs.List.{last_or}
use Rattle.std.proofs.lemmas.Bool.{lt-leb}
use Rattle.std.proofs.lemmas.List.Elements.{All-head, All-tail}
use Rattle.fluid_types.specs.Names.{entry_name}
use Rattle.fluid_types.specs.Ledger.{Ledger, order}
use Rattle.fluid_types.proofs.Ledgers.{order-push}
use Rattle.fluid_types.specs.declared.entries.Raw.{Raw}
use Rattle.fluid_types.specs.declared.messages.Message.{Message}
use Rattle.fluid_types.specs.declared.verdicts.Verdict.{Verdict}
use Rattle.fluid_types.specs.declared.verdicts.Verdict.TheVariants.{Sequenced, Dropped}
use Rattle.fluid_tree.specs.declared.id.SummaryRef.{SummaryRef}
use Rattle.fluid_rules.specs.Rules.{is_joined, joined, message, unsettled, sequenced, verdict}
use Rattle.fluid_rules.specs.Scribe.{acks, last_ack}
use Rattle.fluid_rules.specs.ScribeLaws.{AcksGrow}
use Rattle.fluid_rules.specs.Counted.{counted, is_full, has_too_many_clients}
use Rattle.fluid_rules.specs.declared.limits.Limits.{Limits}
use Rattle.fluid_rules.proofs.Counted.{counted-le_length}
use Rattle.fluid_rules.proofs.Legal.{ledger-push}
use Rattle.fluid_rules.proofs.Verdicts.{verdict-is_message}
use Rattle.fluid_edits.specs.Replay.{no_channels, replay}
use Rattle.fluid_store.specs.Held.{Held}
use Rattle.fluid_loader.specs.Calls.{begun_in, begun_of, or_bad, begun_picked}
use Rattle.fluid_loader.specs.Container.{AContainer, empty, begun as loaded_from}
use Rattle.fluid_loader.specs.Laws.{IsHonestPick, IsHonestRead, IsWholeReplay}
use Rattle.fluid_loader.specs.Link as link
use Rattle.fluid_loader.specs.Link.{IsOrder, IsDocument, picked}
use Rattle.fluid_loader.specs.Version.{AVersion, version_at}
use Rattle.fluid_loader.specs.declared.link.Pick.{Pick}
use Rattle.fluid_loader.specs.declared.link.Pick.TheVariants.{Empty, Latest, Handle}
use Rattle.fluid_voice.specs.declared.ends.ActEnd.{ActEnd}
use Rattle.fluid_voice.specs.declared.ends.ActEnd.TheVariants.{FullNow, TooMany}
use Rattle.fluid_voice.specs.Ends.{joined_by}
use Rattle.fluid_transcript.specs.World.{Document, Container, World, ledger_of}
use Rattle.fluid_transcript.specs.Containers.{Loading, loaded, channels, join_for, joining, join_refusal, begun_with, begun_from, begun_at, loading_by, loading}
use Rattle.fluid_transcript.specs.Transcript.{last_pick}
use Rattle.fluid_transcript.proofs.Fitting.{length_ledger}
use Rattle.fluid_holding.specs.Laws.{LoadsAs, LoadsAsDefined, joined_in}
use Rattle.fluid_workload.specs.Working.{work}
use Rattle.fluid_alike.proofs.Honest.{IsAckHonest, no_ack}
use Rattle.fluid_alike.proofs.Plain.{plain_message}
use Rattle.fluid_alike.proofs.Mild.{joins_in}
use Rattle.fluid_alike.proofs.Fresh.{IsPlacedBelow, joined_few, next_is_new}

-- ---- a join that isn't refused

-- there is room for one client more, and its id is new
pub record HasPlace (limits : Limits) (raws : List Raw) : Type 0 where
  pub entries : length raws < limits.entries
  pub few : length raws < 2 ^ 64
  pub clients : joins_in raws < limits.clients
  pub placed : All (IsPlacedBelow (length raws)) raws

module _ (limits : Limits) (w : World) (d : Document) (room : HasPlace limits d.raws) where
  abbrev l : Ledger
  l = ledger_of d

  abbrev join : Raw
  join = join_for w l

  not_full : is_full limits.entries l join ≡ false
  not_full = lt-leb limits.entries (counted l) (omega (arith, room.entries, counted-le_length l, length_ledger d.raws))

  not_many : has_too_many_clients limits.clients l join ≡ false
  not_many = ap (λ b. not (is_joined l (entry_name (length l))) && b) (lt-leb limits.clients (length (joined l)) (omega (arith, room.clients, joined_few d.raws))) ∙ and_no (not (is_joined l (entry_name (length l))))
    where
      and_no : (b : Bool) → (b && false) ≡ false
      and_no true = refl
      and_no false = refl

  is_new : is_joined l (entry_name (length l)) ≡ false
  is_new = ap (λ n. is_joined l (entry_name n)) (length_ledger d.raws) ∙ next_is_new d.raws room.few room.placed

  -- it is sequenced
  record IsSequenced : Type 0 where
    its : Message
    is : verdict l join ≡ Sequenced its

  sequenced_so : IsSequenced
  unfolding verdict message unsettled
  sequenced_so = record { its = _; is = ap (λ b. if b then Dropped else sequenced (message l join)) is_new }

  abbrev by_verdict : Verdict → ActEnd
  by_verdict v = joined_by (entry_name (length l)) v

  pub enters : join_refusal (joining limits w l) ≡ None
  enters =
      ap (λ b. join_refusal (if b then FullNow else if has_too_many_clients limits.clients l join then TooMany else by_verdict (verdict l join))) not_full
      ∙ ap (λ b. join_refusal (if b then TooMany else by_verdict (verdict l join))) not_many
      ∙ ap (λ v. join_refusal (by_verdict v)) sequenced_so.is

  -- the ledger behind it
  abbrev behind : Ledger
  behind = ledger_of (joined_in w d)

  order_behind : order behind ≡ order l ++ sequenced_so.its ∷ []
  order_behind = ap order (ledger-push d.raws join ∙ ap (λ v. l ++ (join, v) ∷ []) sequenced_so.is) ∙ order-push l (join, Sequenced sequenced_so.its)

  acks_behind : AcksGrow → acks (order behind) ≡ acks (order l)
  acks_behind grow =
      ap acks order_behind ∙ grow (order l) sequenced_so.its
      ∙ ap (λ o. acks (order l) ++ option_to_list o) (no_ack (order l) sequenced_so.its (plain_message l join sequenced_so.its refl (verdict-is_message l join sequenced_so.its sequenced_so.is)).acks)
      ∙ append-nil (acks (order l))

-- ---- what is loaded is a container of the document

some_loaded : (a b : Container) → loaded a ≡ loaded b → a ≡ b
some_loaded a b same = cc

with_document : (name : List ℕ) (entries : ℕ) (l : Ledger) (base : ℕ) (r : Result AVersion (List ℕ)) (k : Container) → begun_with name entries l base r ≡ loaded k → k.document ≡ name
with_document name entries l base (Ok version) k is = sym (ap (λ (k : Container). k.document) (some_loaded _ k is))
with_document name entries l base (Err path) k is = absurd (cc)

from_document : (held : Held) (name : List ℕ) (entries : ℕ) (l : Ledger) (o : Option SummaryRef) (k : Container) → begun_from held name entries l o ≡ loaded k → k.document ≡ name
from_document held name entries l None k is = absurd (cc)
from_document held name entries l (Some s) k is = with_document name entries l s.number (version_at held s) k is

at_document : (held : Held) (name : List ℕ) (entries : ℕ) (l : Ledger) (pick : Pick) (k : Container) → begun_at held name entries l pick ≡ loaded k → k.document ≡ name
at_document held name entries l Empty k is = sym (ap (λ (k : Container). k.document) (some_loaded _ k is))
at_document held name entries l Latest k is = from_document held name entries l (picked Latest (order l)) k is
at_document held name entries l (Handle handle) k is = from_document held name entries l (picked (Handle handle) (order l)) k is

-- ---- from the last summary

last_of : (P : SummaryRef → Type 0) (o : Option SummaryRef) (xs : List SummaryRef) (s : SummaryRef) → last_or o xs ≡ Some s → ((x : SummaryRef) → o ≡ Some x → P x) → All P xs → P s
last_of P o [] s is first all = first s is
last_of P o (x ∷ xs) s is first all = last_of P (Some x) xs s is (λ y same. subst P (let it : x ≡ y = cc in it) (All-head P x xs all)) (All-tail P x xs all)

-- a container whose channels are the replay of all messages
pub record IsWhole (l : Ledger) (load : Loading) : Type 0 where
  pub now : Container
  pub is : load ≡ loaded now
  pub document : now.document ≡ work
  pub channels_are : channels l now ≡ replay no_channels (order l)

module _ (grow : AcksGrow) (loads : LoadsAsDefined) (reads : IsHonestRead) (whole : IsWholeReplay) (limits : Limits) (w : World) (d : Document) (room : HasPlace limits d.raws) where
  abbrev now : Ledger
  now = behind limits w d room

  abbrev told : link.Document
  told = record { order = order now; held = w.store; ledger = None; limit = 0 }

  module _ (in_order : IsOrder (order now)) (doc : IsDocument told) (honest : All (IsAckHonest w.store (order now)) (acks (order now))) where
    last_honest : (s : SummaryRef) → last_ack (order now) ≡ Some s → IsAckHonest w.store (order now) s
    last_honest s is = last_of (IsAckHonest w.store (order now)) None (acks (order now)) s is (λ x none. absurd (cc)) honest

    pick_honest : (pick : Pick) → (pick ≡ Latest) ⊎ (pick ≡ Empty) → IsHonestPick pick told
    pick_honest pick (inl latest) s is = (last_honest s (sym (ap (λ p. picked p (order now)) latest) ∙ is)).honest
    pick_honest pick (inr nothing) s is = absurd (let no : None ≡ Some s = sym (ap (λ p. picked p (order now)) nothing) ∙ is in cc)

    -- how it begins
    record IsBegun (pick : Pick) : Type 0 where
      kind : (pick ≡ Latest) ⊎ (pick ≡ Empty)
      first : AContainer
      is : begun_in pick told ≡ Ok first

    begins : IsBegun (last_pick d)
    begins = by (last_ack (order (ledger_of d))) refl
      where
        by : (o : Option SummaryRef) → last_ack (order (ledger_of d)) ≡ o → IsBegun (if is_some o then Latest else Empty)
        by None is = record { kind = inr refl; first = empty; is = refl }
        by (Some s) is =
            let last : last_ack (order now) ≡ Some s = ap (last_or None) (acks_behind limits w d room grow) ∙ is in
            let own = last_honest s last in
            let read = reads told s doc own.within own.honest in
            record { kind = inl refl; first = loaded_from read.0.channels read.0.quorum s.number read.0.base; is = ap (begun_picked w.store) last ∙ ap (λ r. or_bad (begun_of s.number r)) read.1 }

    pub loaded_whole : IsWhole now (loading limits w d work (last_pick d))
    loaded_whole =
        let load = subst (LoadsAs now (entry_name (length d.raws)) (loading limits w d work (last_pick d))) begins.is
        (loads limits w d work (last_pick d) told (sequenced_so limits w d room).its (enters limits w d room) (sequenced_so limits w d room).is refl refl) in
        let all = whole (entry_name (length d.raws)) told (last_pick d) begins.first in_order (pick_honest (last_pick d) begins.kind) begins.is in
        record {
          now = load.now;
          is = load.is;
          document =
              at_document w.store work (length d.raws) now (last_pick d) load.now
              (sym (ap (loading_by w d work (last_pick d)) (enters limits w d room)) ∙ load.is);
          channels_are = sym load.held.channels_are ∙ all.channels;
        }
