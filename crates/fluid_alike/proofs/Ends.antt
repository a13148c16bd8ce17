-- Behind the last act both containers have the same state.
use Rattle.std.proofs.Common.{◌≡◌, ℕ, ◌+◌, ◌*◌, ◌<◌, arith, false, cond, if◌then◌else◌, List, [], ◌∷◌, ◌++◌, length, drop, take, fold, All, Some, is_some, bytes_eq, refl, sym, ap, ap₂, subst, ◌∙◌, append-nil, append_assoc, take_all, codes}
use Rattle.std.specs.Prelude.{option_and_then}
use Rattle.std.specs.FinMap.{FinMap, get, insert}
use Rattle.std.proofs.lemmas.List.Sums.{fold-append}
use Rattle.std.proofs.lemmas.Slice.Eq.{bytes_eq-Decides}
use Rattle.fluid_table.specs.Table.{byte_order}
use Rattle.fluid_table.proofs.Places.{get_inserted}
use Rattle.fluid_tree.specs.Laws.{IsIdReadBack}
use Rattle.hex.specs.Hex.{encode_lower}
use Rattle.fluid_types.specs.Ledger.{Ledger, order, seq}
use Rattle.fluid_rules.specs.Rules.{ledger}
use Rattle.fluid_rules.specs.Scribe.{acks}
use Rattle.fluid_rules.specs.ScribeLaws.{AcksGrow, AnswersSayWhatIsMeant, PendingIsLeast, OrdersAreAnsweredInTurn}
use Rattle.fluid_rules.specs.declared.limits.Limits.{Limits}
use Rattle.fluid_rules.proofs.Legal.{ledger-legal}
use Rattle.fluid_edits.specs.Replay.{no_channels, replay}
use Rattle.fluid_gen.specs.Acts.{joins, turns}
use Rattle.fluid_gen.specs.declared.act.Act.TheVariants as gen
use Rattle.fluid_orders.specs.Laws.{OrdersAreTold}
use Rattle.fluid_store.specs.Held.{Held}
use Rattle.fluid_store.specs.Laws.{GoesOnStanding}
use Rattle.fluid_loader.specs.Laws.{IsReplayBehind, StayBased, IsHonestVersion, IsHonestRead, IsWholeReplay}
use Rattle.fluid_loader.specs.Link.{IsOrder}
use Rattle.fluid_steps.specs.declared.steps.Step.{Step}
use Rattle.fluid_steps.specs.declared.steps.Step.TheVariants as step
use Rattle.fluid_transcript.specs.World.{Document, Container, Name, container, World, first_world, document, ledger_of, Effect, changed}
use Rattle.fluid_transcript.specs.Sound.{ledger_in}
use Rattle.fluid_transcript.specs.Containers.{channels, app_id, join_for, loading, load, name_for, caught_up, pumped}
use Rattle.fluid_transcript.specs.Steps.{refusal_as_new, refusal_as_container, container_in, on_container}
use Rattle.fluid_transcript.specs.Transcript.{last_pick, written}
use Rattle.fluid_voice.specs.Replies.{is_dropped, is_nacked}
use Rattle.fluid_transcript.proofs.Fitting.{length_ledger}
use Rattle.fluid_transcript.proofs.Sounds.{document_inserted}
use Rattle.fluid_holding.specs.Laws.{LoadsAsDefined, joined_in}
use Rattle.fluid_workload.specs.Working.{Workload, work, p, q, work_ledger, begun, behind_step, behind_act, behind_acts}
use Rattle.fluid_workload.specs.Summary.{count, is_absorbed, counted, sameness, channels_of, state, summary, behind_all, LoadsSame}
use Rattle.fluid_turns.specs.Leaving.{SubmissionsLeaveAll}
use Rattle.fluid_alike.specs.Alike.{IsReadable, HasRoom, EndsWith, WorkloadsEndSame}
use Rattle.fluid_alike.proofs.Honest.{IsAckHonest}
use Rattle.fluid_alike.proofs.Doing.{Goes, step_done, mild_step}
use Rattle.fluid_alike.proofs.Loading.{HasPlace, enters, IsWhole, loaded_whole}
use Rattle.fluid_alike.proofs.Deeds.{Stands, step_stands}
use Rattle.fluid_alike.proofs.Acts.{Holds, readable_before, middle_on}
use Rattle.fluid_alike.proofs.Begins.{begun_holds}

-- the channels of a container, by its name
container_channels : (w : World) (name : List ℕ) (k : Container) → get w.names name ≡ Some (container k) → k.document ≡ work → channels_of w (get w.names name) ≡ channels (ledger_in w work) k
container_channels w name k there at = ap (channels_of w) there ∙ ap (λ name. channels (ledger_in w name) k) at

-- what is entered of a document behind an effect on it
document_behind : (w : World) (e : Effect) → (document (changed e (Some work) w) work).raws ≡ (document w work).raws ++ e.entries
document_behind w e =
    ap (λ (d : Document). d.raws)
    (document_inserted w.documents work (record { raws = (document w work).raws ++ e.entries; checkpoints = (document w work).checkpoints ++ e.checkpoints }) work
    ∙ ap (λ b. cond b (record { raws = (document w work).raws ++ e.entries; checkpoints = (document w work).checkpoints ++ e.checkpoints }) (document w work)) ((bytes_eq-Decides work work).1 refl))

own_name : (w : World) (name : List ℕ) (n : Name) → get (insert w.names name n) name ≡ Some n
own_name w name n = get_inserted w.names name n name ∙ ap (λ b. cond b (Some n) (get w.names name)) ((bytes_eq-Decides name name).1 refl)

-- ---- the first container pumps at the end

module _ (limits : Limits) (w : World) (was : Stands w) where
  abbrev k : Container
  k = was.first.now

  abbrev l : Ledger
  l = ledger_in w work

  abbrev pumps : Step
  pumps = step.Pump p

  abbrev after : World
  after = behind_step limits w pumps

  after_is : after ≡ changed (pumped w (document w work) p k) (Some work) w
  after_is =
      step_done limits w pumps was.open_is (ap refusal_as_container was.first.there) (ap (λ o. option_and_then (λ k. Some k.document) (container_in o)) was.first.there ∙ ap Some was.first.is.document)
      ∙ ap (λ o. changed (on_container w (container_in o) (pumped w (document w work) p)) (Some work) w) was.first.there

  same_ledger : ledger_in after work ≡ l
  same_ledger = ap (λ w. ledger_in w work) after_is ∙ ap ledger (document_behind w (pumped w (document w work) p k) ∙ append-nil (document w work).raws)

  pumped_there : get after.names p ≡ Some (container (caught_up l k))
  pumped_there = ap (λ (w : World). get w.names p) after_is ∙ own_name w p (container (caught_up l k))

  other_there : (name : List ℕ) → bytes_eq name p ≡ false → get after.names name ≡ get w.names name
  other_there name other =
      ap (λ (w : World). get w.names name) after_is ∙ get_inserted w.names p (container (caught_up l k)) name ∙ ap (λ b. cond b (Some (container (caught_up l k))) (get w.names name)) other

  all_channels : channels l (caught_up l k) ≡ replay no_channels (order l)
  unfolding seq
  all_channels =
      ap₂ (λ f b. replay f (drop b (take (seq l) (order l)))) was.first.is.from was.first.is.base
      ∙ ap (replay no_channels) (take_all (seq l) (order l) (omega arith))

  pub first_state : channels_of after (get after.names p) ≡ replay no_channels (order l)
  first_state =
      container_channels after p (caught_up l k) pumped_there was.first.is.document ∙ ap (λ m. channels m (caught_up l k)) same_ledger ∙ all_channels

  pub last_state : (name : List ℕ) (k : Container) → bytes_eq name p ≡ false → get w.names name ≡ Some (container k) → k.document ≡ work → channels_of after (get after.names name) ≡ channels l k
  last_state name k other there at = container_channels after name k (other_there name other ∙ there) at ∙ ap (λ m. channels m k) same_ledger

-- ---- the last line

written_more : (ls : List (List ℕ)) (x : List ℕ) → written (ls ++ x ∷ []) ≡ written ls ++ written (x ∷ [])
written_more [] x = refl
written_more (l ∷ ls) x = ap (λ t. (l ++ 10 ∷ []) ++ t) (written_more ls x) ∙ sym (append_assoc (l ++ 10 ∷ []) (written ls) (written (x ∷ [])))

abbrev six_of : Ledger → List ℕ → List (List ℕ)
six_of l p =
    counted (codes "messages") (seq l)
    ∷ counted (codes "dropped") (count is_dropped l)
    ∷ counted (codes "absorbed") (count is_absorbed l)
    ∷ counted (codes "nacked") (count is_nacked l)
    ∷ counted (codes "summaries") (length (acks (order l)))
    ∷ (codes "state " ++ encode_lower p)
    ∷ []

same_line : (w : Workload) → state w p ≡ state w q → EndsWith (codes "loaded same" ++ 10 ∷ []) (written (summary w))
same_line w same =
    let six = six_of (work_ledger w) (state w p) in
    let last = codes "loaded " ++ sameness (state w p) (state w q) in
    let says : last ≡ codes "loaded same" = ap (λ b. codes "loaded " ++ (if b then codes "same" else codes "different")) ((bytes_eq-Decides (state w p) (state w q)).1 same) in
    (written six, written_more six last ∙ ap (λ t. written six ++ t) (append-nil (last ++ 10 ∷ []) ∙ ap (λ line. line ++ 10 ∷ []) says))

module _ (standing : GoesOnStanding) (grow : AcksGrow) (replays : IsReplayBehind) (based : StayBased) (back : IsIdReadBack) (told : OrdersAreTold) (says : AnswersSayWhatIsMeant) (least : PendingIsLeast) (turn : OrdersAreAnsweredInTurn)
    (versions : IsHonestVersion) (leave : SubmissionsLeaveAll) (loads : LoadsAsDefined) (reads : IsHonestRead) (whole : IsWholeReplay) where
  -- ---- the last act

  module _ (limits : Limits) (entries joined : ℕ) (w : Workload) (was : Holds entries joined w) (few : entries < limits.entries) (clients : joined < limits.clients) where
    abbrev d : Document
    d = document w.world work

    abbrev load_step : Step
    load_step = step.Load q work (last_pick d)

    abbrev mid : World
    mid = behind_step limits w.world load_step

    abbrev end : World
    end = behind_step limits mid (step.Pump p)

    mid_is : mid ≡ changed (load limits w.world d q work (last_pick d)) (Some work) w.world
    mid_is = step_done limits w.world load_step was.stands.open_is (ap refusal_as_new was.free) refl

    goes : Goes q 1 w.world mid
    goes = mild_step standing grow limits w.world load_step was.stands.sound was.stands.open_is tt

    mid_stands : Stands mid
    mid_stands = step_stands limits w.world load_step was.stands

    module _ (readable : IsReadable mid) where
      before : IsReadable w.world
      before = readable_before w.world mid goes.more goes.is goes.keeps readable

      room : HasPlace limits d.raws
      room = record {
        entries = omega (arith, was.entries_few, few);
        few = omega (arith, before.few, length_ledger d.raws);
        clients = omega (arith, was.joins_few, clients);
        placed = was.placed;
      }

      -- the join is entered
      mid_raws : (document mid work).raws ≡ d.raws ++ join_for w.world (ledger_of d) ∷ []
      mid_raws =
          ap (λ w. (document w work).raws) mid_is ∙ document_behind w.world (load limits w.world d q work (last_pick d))
          ∙ ap (λ o. d.raws ++ (if is_some o then [] else join_for w.world (ledger_of d) ∷ [])) (enters limits w.world d room)

      mid_ledger : ledger_in mid work ≡ ledger_of (joined_in w.world d)
      mid_ledger = ap ledger mid_raws

      in_order : IsOrder (order (ledger_of (joined_in w.world d)))
      in_order = subst (λ l. IsOrder (order l)) mid_ledger (told (ledger_in mid work) (ledger-legal (document mid work).raws) readable.few readable.entries)

      honest : All (IsAckHonest w.world.store (order (ledger_of (joined_in w.world d)))) (acks (order (ledger_of (joined_in w.world d))))
      honest =
          let all = goes.honest before (was.honest before) in
          let same : mid.store ≡ w.world.store = ap (λ (w : World). w.store) mid_is in
          subst (λ l. All (IsAckHonest w.world.store (order l)) (acks (order l))) mid_ledger (subst (λ held. All (IsAckHonest held (order (ledger_in mid work))) (acks (order (ledger_in mid work)))) same all.acked)

      last : IsWhole (ledger_of (joined_in w.world d)) (loading limits w.world d work (last_pick d))
      last =
          loaded_whole grow loads reads whole limits w.world d room in_order (record { in_order = in_order; of_ledger = tt; short = before.short }) honest

      last_there : get mid.names q ≡ Some (container last.now)
      last_there =
          ap (λ (w : World). get w.names q) mid_is ∙ own_name w.world q (name_for (loading limits w.world d work (last_pick d))) ∙ ap (λ l. Some (name_for l)) last.is

      same_channels : channels_of end (get end.names p) ≡ channels_of end (get end.names q)
      same_channels =
          first_state limits mid mid_stands
          ∙ ap (λ l. replay no_channels (order l)) mid_ledger ∙ sym last.channels_are ∙ ap (λ l. channels l last.now) (sym mid_ledger)
          ∙ sym (last_state limits mid mid_stands q last.now refl last_there last.document)

    end_readable : IsReadable end → IsReadable mid
    end_readable readable =
        let more = mild_step standing grow limits mid (step.Pump p) mid_stands.sound mid_stands.open_is tt in
        readable_before mid end more.more more.is more.keeps readable

    finished_same : IsReadable (behind_act limits w gen.Finish).world → state (behind_act limits w gen.Finish) p ≡ state (behind_act limits w gen.Finish) q
    finished_same readable = ap app_id (same_channels (end_readable readable))

  -- ---- a whole workload

  load_same : (limits : Limits) (documents : FinMap byte_order Document) (held : Held) (number clients ops : ℕ) → HasRoom limits clients ops → (document (first_world documents held) work).raws ≡ []
      → IsReadable (behind_all limits (first_world documents held) number clients ops).world → LoadsSame limits (first_world documents held) number clients ops
  load_same limits documents held number clients ops room at_first readable =
      let w = begun (first_world documents held) in
      let first = behind_act limits w gen.Begin in
      let middle = joins 0 clients ++ turns clients 1 ops number in
      let mid = behind_acts limits first middle in
      let begins : Holds 4 1 first = begun_holds standing grow limits documents held at_first (omega (arith, room.for_entries)) (omega (arith, room.for_clients)) in
      let goes : Holds (4 + (3 * clients + 7 * ops)) (1 + clients) mid = middle_on standing grow replays based back told says least turn versions leave limits number clients ops 4 1 first begins in
      let all : behind_all limits (first_world documents held) number clients ops ≡ behind_act limits mid gen.Finish =
      ap (fold (behind_act limits) first) (sym (append_assoc (joins 0 clients) (turns clients 1 ops number) (gen.Finish ∷ []))) ∙ fold-append (behind_act limits) first middle (gen.Finish ∷ []) in
      subst (λ w. state w p ≡ state w q) (sym all)
      (finished_same limits (4 + (3 * clients + 7 * ops)) (1 + clients) mid goes (omega (arith, room.for_entries)) (omega (arith, room.for_clients)) (subst (λ (w : Workload). IsReadable w.world) all readable))

  pub workloads_end_same : WorkloadsEndSame
  workloads_end_same limits documents held number clients ops room at_first readable =
      let states = load_same limits documents held number clients ops room at_first readable in
      record { states = states; last_line = same_line (behind_all limits (first_world documents held) number clients ops) states }
