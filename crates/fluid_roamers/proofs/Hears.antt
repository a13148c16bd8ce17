-- A roamer that takes in all messages of its document's order is the world's that has heard all.
use Rattle.std.proofs.Common.{◌≡◌, ℕ, ◌+◌, ◌-◌, ◌≤◌, arith, if◌then◌else◌, List, [], length, drop, refl, sym, ap, subst, ◌∙◌, length-drop}
use Rattle.std.specs.Prelude.{fold}
use Rattle.std.proofs.lemmas.List.{length-map, drop-map, drop_at}
use Rattle.fluid_json.specs.Tree.{Tree}
use Rattle.fluid_types.specs.Ledger.{Ledger, order, seq}
use Rattle.fluid_types.specs.declared.messages.Message.{Message}
use Rattle.fluid_rules.specs.Past.{has_id}
use Rattle.fluid_rules.specs.Rules.{IsLegal}
use Rattle.fluid_edits.specs.declared.edit.Edit.{Edit}
use Rattle.fluid_edits.specs.Forms.{contents_of}
use Rattle.fluid_runtime.specs.App.{after_message}
use Rattle.fluid_loader.specs.Container.{behind}
use Rattle.fluid_outbox.specs.Past.{Past, edits, heard_to, acknowledged}
use Rattle.fluid_transcript.specs.World.{Roamer as ARoamer}
use Rattle.fluid_transcript.specs.Containers.{id_of, caught_up}
use Rattle.fluid_transcript.specs.Roamers.{heard_all}
use Rattle.fluid_holding.specs.Holding.{IsContainerOf}
use Rattle.fluid_holding.specs.Laws.{Stands, TakesInAsDefined}
use Rattle.fluid_roamers.specs.Ahead.{IsBeside, own_in}
use Rattle.fluid_roamers.specs.Roaming.{IsRoaming, IsSending}
use Rattle.fluid_roamers.specs.Taking.{hears, TakesIn}
use Rattle.fluid_roamers.specs.declared.roamer.Roamer.{Roamer}
use Rattle.fluid_roamers.proofs.Calls.{hears_edits, hears_ids, hears_current, hears_sent, hears_number, behind_channels}
use Rattle.fluid_roamers.proofs.Outboxes.{awaits, has_heard, heard_beside, drop_whole, drop_drop_more}

module _ (law : TakesInAsDefined) (l : Ledger) (legal : IsLegal l) (h new : Roamer) (k : ARoamer) (rest : List Edit) (is : IsRoaming l h k rest) (stands : Stands l k.client)
    (takes : TakesIn is.past (drop h.outbox.heard_to (order l)) h new) where
  abbrev c : List ℕ
  c = id_of k.client

  abbrev ms : List Message
  ms = drop k.client.number (order l)

  -- those behind its number
  from_number : h.outbox.heard_to ≡ k.client.number
  from_number = is.outbox.heard ∙ is.heard

  all_taken : TakesIn is.past ms h new
  all_taken = subst (λ n. TakesIn is.past (drop n (order l)) h new) from_number takes

  abbrev past : Past
  past = hears is.past ms

  abbrev n : ℕ
  n = own_in c ms

  caught : IsContainerOf l h.client (behind h.client is.held ms) (caught_up l k.client)
  caught = law l h.client is.held k.client legal stands is.container

  beside : IsBeside l past c (seq l) is.before (is.own + n)
  beside = heard_beside l is.past c k.client.number is.before is.own is.beside

  gone : new.app.pending ≡ drop n k.client.pending
  gone = all_taken.pending ∙ (has_heard is.past c is.before is.own ms h.app.pending (awaits l is.past c k.client.number is.before is.own is.beside)).rest ∙ ap (drop n) is.pending

  acked : acknowledged past ≡ k.stood + n
  acked = omega (arith, beside.acknowledged_are, is.beside.acknowledged_are, is.stood)

  -- as many edits as there are
  said : k.stood + length k.client.pending ≡ length (edits is.past)
  said = omega (arith, ap (λ (xs : List Tree). length xs) is.contents, length-map k.client.pending contents_of, length-drop k.stood (edits is.past), is.outbox.few, is.stood)

  within : n ≤ length k.client.pending
  within = omega (arith, all_taken.outbox.few, acked, said, ap (λ (xs : List Tree). length xs) (hears_edits is.past ms))

  -- where it isn't lost
  sends_then : IsSending l is.past k is.own rest → IsSending l past (heard_all l k) (is.own + n) rest
  sends_then s = record {
    out = [];
    are = ap (drop n) s.are ∙ drop_at s.out rest n (sym all_out);
    sent_are = omega (arith, hears_sent is.past ms c, s.stand);
    stand = ap (λ xs. is.own + n + own_in c xs) (drop_whole l) ∙ omega (arith, hears_sent is.past ms c, s.stand, none);
    last_is = s.last_is ∙ sym (hears_sent is.past ms c);
  }
    where
      all_out : n ≡ length s.out
      all_out = omega (arith, s.stand, s.sent_are)

      none : own_in c [] ≡ 0
      none = refl

  pub hears_all : IsRoaming l new (heard_all l k) rest
  hears_all = record {
    document = all_taken.same.document ∙ is.document;
    held = behind h.client is.held ms;
    container = subst (λ own. IsContainerOf l own (behind h.client is.held ms) (caught_up l k.client)) (sym all_taken.same.client) caught;
    channels = all_taken.channels ∙ ap (λ ch. fold after_message ch ms) is.channels ∙ sym (behind_channels h.client is.held ms);
    pending = gone;
    edits_are = all_taken.same.edits ∙ is.edits_are ∙ omega (arith, within, length-drop n k.client.pending);
    past = past;
    outbox = all_taken.outbox;
    stood = acked;
    contents = ap (drop (k.stood + n)) (hears_edits is.past ms) ∙ sym (drop_drop_more k.stood n (edits is.past)) ∙ ap (drop n) is.contents ∙ drop-map contents_of n k.client.pending;
    heard = hears_number is.past h.client is.held ms (is.heard ∙ sym is.container.number) ∙ caught.number;
    before = is.before;
    own = is.own + n;
    beside = beside;
    used = λ id there. is.used id (ap (has_id id) (sym (hears_ids is.past ms)) ∙ there);
    now = hears_current is.past ms ∙ is.now;
    sends = λ there. sends_then (is.sends there);
  }
