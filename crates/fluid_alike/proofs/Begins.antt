-- What the first act of a workload leaves.
use Rattle.std.proofs.Common.{◌≡◌, ℕ, ◌+◌, ◌≤◌, arith, cond, if◌then◌else◌, List, [], ◌∷◌, ◌++◌, map, length, All, Some, None, IfSome, is_some, refl, sym, ap, subst, ◌∙◌}
use Rattle.std.specs.Prelude.{Ok}
use Rattle.std.specs.FinMap.{FinMap, get, get-empty}
use Rattle.std.proofs.lemmas.List.Elements.{All-nil}
use Rattle.std.proofs.lemmas.Slice.Eq.{bytes_eq-Decides}
use Rattle.fluid_table.specs.Table.{byte_order}
use Rattle.fluid_table.proofs.Places.{get_inserted}
use Rattle.fluid_types.specs.Ledger.{order}
use Rattle.fluid_types.specs.declared.entries.Raw.TheVariants.{Leave}
use Rattle.fluid_rules.specs.Rules.{joined, ledger}
use Rattle.fluid_rules.specs.Scribe.{acks, acks_behind}
use Rattle.fluid_rules.specs.ScribeLaws.{AcksGrow}
use Rattle.fluid_rules.specs.declared.limits.Limits.{Limits}
use Rattle.fluid_edits.specs.declared.edit.Edit.TheVariants as edit
use Rattle.fluid_edits.specs.declared.edit.ChannelKind.TheVariants.{Map, Counter}
use Rattle.fluid_store.specs.Held.{Held}
use Rattle.fluid_store.specs.Laws.{GoesOnStanding}
use Rattle.fluid_loader.specs.declared.link.Pick.TheVariants.{Empty}
use Rattle.fluid_gen.specs.declared.act.Act.TheVariants as gen
use Rattle.fluid_steps.specs.declared.steps.Step.{Step}
use Rattle.fluid_steps.specs.declared.steps.Step.TheVariants as step
use Rattle.fluid_transcript.specs.World.{Document, Container, container, World, first_world, document, is_open, ledger_of, farewells, with_entries, Effect, changed}
use Rattle.fluid_transcript.specs.Containers.{loading_by, loading, load, name_for, loaded}
use Rattle.fluid_transcript.specs.Steps.{refusal, refusal_as_new}
use Rattle.fluid_transcript.specs.Transcript.{readied, done}
use Rattle.fluid_transcript.specs.Sound.{IsSound}
use Rattle.fluid_transcript.proofs.Sounds.{document_inserted}
use Rattle.fluid_transcript.proofs.Stepping.{done_leaves, first_is_sound, readied_open}
use Rattle.fluid_workload.specs.Working.{work, m, n, p, q, begun, stepped, behind_step, behind_act}
use Rattle.fluid_alike.proofs.Honest.{AllHonest, IsProposed, IsAckHonest}
use Rattle.fluid_alike.proofs.Plain.{raws_plain}
use Rattle.fluid_alike.proofs.Mild.{joins_in, IsMild, mild_effect}
use Rattle.fluid_alike.proofs.Doing.{Goes, effect_goes}
use Rattle.fluid_alike.proofs.Fresh.{IsPlacedBelow, joined_few, placed_more}
use Rattle.fluid_alike.proofs.Asking.{IsFirst}
use Rattle.fluid_alike.proofs.Loading.{HasPlace, enters}
use Rattle.fluid_alike.proofs.Deeds.{Stands}
use Rattle.fluid_alike.proofs.Acts.{IsModest, Holds, weaker, readable_before, mild_on}

no_items : {X : Type 0} (xs : List X) → length xs ≤ 0 → xs ≡ []
no_items [] few = refl
no_items (x ∷ xs) few = absurd (omega (arith, few))

-- nothing is asked for, and nothing acknowledged
none_honest : (held : Held) → AllHonest held []
unfolding acks acks_behind
none_honest held = record { proposed = All-nil (IsProposed held []); acked = All-nil (IsAckHonest held []) }

no_order : order (ledger []) ≡ []
unfolding order ledger
no_order = refl

nobody_leaves : (moment : ℕ) (d : Document) → d.raws ≡ [] → farewells moment d ≡ []
nobody_leaves moment d is =
    ap (λ ids. map (λ id. Leave id moment) ids)
    (no_items (joined (ledger_of d)) (omega (arith, joined_few d.raws, ap joins_in is)))

module _ (standing : GoesOnStanding) (grow : AcksGrow) (limits : Limits) (documents : FinMap byte_order Document) (held : Held) (at_first : (document (first_world documents held) work).raws ≡ []) (entries : 10 ≤ limits.entries) (clients : 2 ≤ limits.clients) where
  abbrev w : World
  w = first_world documents held

  -- the document is open, and has no entry yet
  abbrev r : World
  r = readied w work

  abbrev d : Document
  d = document r work

  none_yet : d.raws ≡ []
  none_yet =
      let own = with_entries (farewells w.moment (document w work)) (document w work) in
      let is : d ≡ own = document_inserted w.documents work own work ∙ ap (λ b. cond b own (document w work)) ((bytes_eq-Decides work work).1 refl) in
      ap (λ (d : Document). d.raws) is ∙ ap (λ rs. rs ++ farewells w.moment (document w work)) at_first ∙ nobody_leaves w.moment (document w work) at_first

  room : HasPlace limits d.raws
  room = record {
    entries = omega (arith, entries, ap length none_yet);
    few = omega (arith, ap length none_yet);
    clients = omega (arith, clients, ap joins_in none_yet);
    placed = subst (λ rs. All (IsPlacedBelow (length rs)) rs) (sym none_yet) (All-nil (IsPlacedBelow 0));
  }

  abbrev loads : Step
  loads = step.Load p work Empty

  abbrev e : Effect
  e = load limits r d p work Empty

  abbrev new : World
  new = behind_step limits w loads

  ok : refusal w loads ≡ None
  ok = ap refusal_as_new (get-empty byte_order p)

  new_is : new ≡ changed e (Some work) r
  new_is = ap (λ o. if is_some o then w else (done limits w loads).world) ok

  mild : IsMild p 1 (length d.raws) e
  mild = mild_effect limits loads tt r d

  goes : Goes p 1 r new
  goes = subst (Goes p 1 r) (sym new_is) (effect_goes p 1 r e mild.few mild.joining mild.placed mild.name (λ id bytes has. has) (λ readable was. raws_plain standing grow r.store d.raws e.entries mild.plain was))

  -- the container that is loaded
  record IsBegun : Type 0 where
    its : Container
    is : loading limits r d work Empty ≡ loaded its
    first : IsFirst its

  begun_so : IsBegun
  begun_so = record { its = _; is = ap (λ o. loading_by r d work Empty o) (enters limits r d room); first = record { document = refl; from = refl; base = refl } }

  first_named : get new.names p ≡ Some (container begun_so.its)
  first_named =
      ap (λ (w : World). get w.names p) new_is ∙ get_inserted r.names p (name_for (loading limits r d work Empty)) p
      ∙ ap (λ b. cond b (Some (name_for (loading limits r d work Empty))) (get r.names p)) ((bytes_eq-Decides p p).1 refl) ∙ ap (λ l. Some (name_for l)) begun_so.is

  stands : Stands new
  stands =
      let leaves = (done_leaves limits w (first_is_sound documents held) loads ok).leaves in
      let same : new ≡ (done limits w loads).world = ap (λ o. if is_some o then w else (done limits w loads).world) ok in
      record {
        sound = subst IsSound (sym same) leaves.sound;
        open_is = ap (λ v. is_open v work) new_is ∙ readied_open w work;
        first = record { now = begun_so.its; there = first_named; is = begun_so.first };
      }

  loaded_first : Holds 1 1 (stepped limits (begun w) loads)
  loaded_first = record {
    stands = stands;
    free = goes.names q refl ∙ get-empty byte_order q;
    entries_few = omega (arith, goes.few, ap length goes.is, ap (λ rs. length (rs ++ goes.more)) none_yet);
    joins_few = omega (arith, goes.joining, ap joins_in goes.is, ap (λ rs. joins_in (rs ++ goes.more)) none_yet);
    placed = subst (λ raws. All (IsPlacedBelow (length raws)) raws) (sym goes.is) (placed_more (length d.raws) d.raws goes.more refl goes.few room.placed goes.placed);
    honest = λ readable. goes.honest (readable_before r new goes.more goes.is goes.keeps readable) (subst (λ rs. AllHonest r.store (order (ledger rs))) (sym none_yet) (subst (AllHonest r.store) (sym no_order) (none_honest r.store)));
    sent = λ c. subst (λ o. IfSome o IsModest) (sym (get-empty byte_order c)) tt;
  }

  -- the whole act
  pub begun_holds : Holds 4 1 (behind_act limits (begun w) gen.Begin)
  begun_holds =
      let w1 = stepped limits (begun w) loads in
      let map_step = step.Edit p (Ok (edit.Attach m Map)) in
      let counter_step = step.Edit p (Ok (edit.Attach n Counter)) in
      let w2 = stepped limits w1 map_step in
      let w3 = stepped limits w2 counter_step in
      let w4 = stepped limits w3 (step.Pump p) in
      let two = mild_on standing grow limits 1 1 w1 map_step loaded_first tt refl in
      let three = mild_on standing grow limits (1 + 1) (1 + 0) w2 counter_step two tt refl in
      let four = mild_on standing grow limits (1 + 1 + 1) (1 + 0 + 0) w3 (step.Pump p) three tt refl in
      weaker (1 + 1 + 1 + 1) (1 + 0 + 0 + 0) 4 1 w4 (omega arith) (omega arith) four
