-- A roamer that comes back, on the lane of its document.
use Rattle.std.proofs.Common.{◌≡◌, inl, inr, ℕ, ◌+◌, ◌<◌, ◌≤◌, arith, Bool, true, false, if◌then◌else◌, List, [], ◌∷◌, ◌++◌, length, drop, Option, Some, None, is_some, bytes_eq, Result, Ok, Err, refl, sym, ap, subst, ◌∙◌, append_assoc, append-nil, length-append}
use Rattle.std.specs.Prelude.{All}
use Rattle.std.proofs.lemmas.List.Elements.{All-cons, All-nil}
use Rattle.fluid_types.specs.Ledger.{Ledger, order, seq}
use Rattle.fluid_types.specs.Names.{entry_name}
use Rattle.fluid_types.proofs.Ledgers.{seq-push}
use Rattle.fluid_types.specs.declared.entries.Raw.{Raw}
use Rattle.fluid_types.specs.declared.entries.Raw.TheVariants.{Leave}
use Rattle.fluid_types.specs.declared.nacks.NackRule.{NackRule}
use Rattle.fluid_types.specs.declared.verdicts.Verdict.TheVariants.{Sequenced}
use Rattle.fluid_rules.specs.Past.{Entry}
use Rattle.fluid_rules.specs.Rules.{IsLegal, verdict, client, minimum, ledger as ledger_by_rules}
use Rattle.fluid_rules.specs.declared.limits.Limits.{Limits}
use Rattle.fluid_rules.proofs.Legal.{ledger-legal, ledger-push}
use Rattle.fluid_rules.proofs.Pushed.{client-push}
use Rattle.fluid_lane.specs.Standing.{Standing}
use Rattle.fluid_outbox.specs.Past.{Past, ids}
use Rattle.fluid_rules.specs.Past.{has_id}
use Rattle.fluid_outbox.specs.Kept.{Stands as OutboxStands}
use Rattle.fluid_transcript.specs.World.{World, Document, Roamer as ARoamer, Effect, grown, ledger_of, with_entries, says}
use Rattle.fluid_transcript.specs.Lines as lines
use Rattle.fluid_transcript.specs.Containers.{id_of, join_for, joining, join_refusal, joined_for, line_for}
use Rattle.fluid_transcript.specs.Roamers as steps
use Rattle.fluid_transcript.specs.Roamers.{heard_all, with_join, behind_join, left, sends_again, stands_again}
use Rattle.fluid_voice.specs.declared.refusals.ConnectRefusal.{ConnectRefusal}
use Rattle.fluid_holding.specs.Holding.{is_made_by}
use Rattle.fluid_holding.specs.Laws.{Stands, TakesInAsDefined, LoadsAsDefined, OthersLeave}
use Rattle.fluid_desk.specs.declared.stop.Stop.{Stop}
use Rattle.fluid_desk.specs.Acting.{IsLine}
use Rattle.fluid_desk.specs.Stands.{IsLaneOf}
use Rattle.fluid_desk.specs.Stopping.{IsHonest, steps_on}
use Rattle.fluid_desk.proofs.Honest.{honest_more, length_ledger}
use Rattle.fluid_containers.specs.Joining.{HasJoined, joined_to}
use Rattle.fluid_roamers.specs.Behind.{IsBehindLeave, IsBack, ComesBack}
use Rattle.fluid_roamers.specs.Roaming.{IsRoaming, IsRoamerIn}
use Rattle.fluid_roamers.specs.Sending.{HasSent, SendsAll}
use Rattle.fluid_roamers.specs.Stepping.{LaneSteps}
use Rattle.fluid_roamers.specs.Taking.{HearsLane, TakesIn, TakesClient}
use Rattle.fluid_roamers.specs.declared.roamer.Roamer.{Roamer}
use Rattle.fluid_roamers.proofs.Entries.{here, left_gone}
use Rattle.fluid_roamers.proofs.Hears.{hears_all}
use Rattle.fluid_roamers.proofs.Outboxes.{other_way}
use Rattle.fluid_roamers.proofs.Roaming.{others_leave, turns_back, never_used, names_differ, as_client, IsNewIn}
use Rattle.fluid_roamers.proofs.Acts.{wants_line}
use Rattle.fluid_roamers.proofs.Begun.{new_client}

-- ---- behind the leave

module _ (others : OthersLeave) (w : World) (d : Document) (h : Roamer) (k : ARoamer) (is : IsRoamerIn (ledger_of d) h k) (stands : Stands (ledger_of d) k.client) where
  abbrev c : List ℕ
  c = id_of k.client

  abbrev d1 : Document
  d1 = left w d k

  leave_pushed : ledger_of d1 ≡ ledger_of d ++ (Leave c w.moment, verdict (ledger_of d) (Leave c w.moment)) ∷ []
  leave_pushed = ledger-push d.raws (Leave c w.moment)

  pub left_roams : IsRoamerIn (ledger_of d1) h k
  left_roams =
      subst (λ l. IsRoamerIn l h k) (sym leave_pushed)
      (others_leave others (ledger_of d) ((Leave c w.moment, verdict (ledger_of d) (Leave c w.moment)) ∷ []) h k [] (subst IsLegal leave_pushed (ledger-legal d1.raws)) stands
      (All-cons (λ (e : Entry). is_made_by c e.0 ≡ false) (Leave c w.moment, verdict (ledger_of d) (Leave c w.moment)) [] refl (All-nil (λ (e : Entry). is_made_by c e.0 ≡ false))) is)

  pub left_here : here (ledger_of d1) c ≡ false
  left_here = ap (λ l. here l c) leave_pushed ∙ left_gone c (ledger_of d) w.moment

  pub left_later : k.client.entries < length d1.raws
  left_later = omega (arith, stands.entries, length_ledger d.raws, length-append d.raws (Leave c w.moment ∷ []))

  pub left_stands : Stands (ledger_of d1) k.client
  left_stands = record {
    entries = omega (arith, left_later, length_ledger d1.raws);
    base = stands.base;
    number = omega (arith, stands.number, ap seq leave_pushed, seq-push (ledger_of d) (Leave c w.moment, verdict (ledger_of d) (Leave c w.moment)));
  }

-- ---- behind the join

module _ (others : OthersLeave) (takes_law : TakesInAsDefined) (loads_law : LoadsAsDefined) (limits : Limits) (w : World) (d : Document) (h : Roamer) (k : ARoamer) (before : IsBehindLeave (ledger_of d) (length d.raws) h k)
    (own : List ℕ) (joined : HasJoined limits w d own) where
  abbrev l : Ledger
  l = behind_join w d

  abbrev join : Raw
  join = join_for w (ledger_of d)

  pushed : l ≡ ledger_of d ++ (join, Sequenced joined.message) ∷ []
  pushed = ledger-push d.raws join ∙ ap (λ v. ledger_of d ++ (join, v) ∷ []) joined.sequenced

  apart : bytes_eq (entry_name (length (ledger_of d))) (id_of k.client) ≡ false
  apart = other_way (id_of k.client) (entry_name (length (ledger_of d))) (names_differ (length (ledger_of d)) k.client.entries (omega (arith, before.fits, length_ledger d.raws)) (omega (arith, before.later, length_ledger d.raws)))

  pub joined_roams : IsRoamerIn l h k
  joined_roams =
      subst (λ m. IsRoamerIn m h k) (sym pushed)
      (others_leave others (ledger_of d) ((join, Sequenced joined.message) ∷ []) h k [] (subst IsLegal pushed (ledger-legal (with_join w d).raws)) before.stands
      (All-cons (λ (e : Entry). is_made_by (id_of k.client) e.0 ≡ false) (join, Sequenced joined.message) [] apart (All-nil (λ (e : Entry). is_made_by (id_of k.client) e.0 ≡ false))) before.roams)

  joined_here : here l (id_of k.client) ≡ false
  joined_here = ap (λ m. here m (id_of k.client)) pushed ∙ ap is_some (client-push (ledger_of d) (join, Sequenced joined.message) (id_of k.client)) ∙ by (bytes_eq (entry_name (length (ledger_of d))) (id_of k.client)) apart
    where
      by : (b : Bool) → b ≡ false → is_some (if b then Some (record { last = 0; reference = minimum (ledger_of d); nacked = false; scopes = record { read = true; write = true; summary = true }; heard = w.moment }) else client (ledger_of d) (id_of k.client)) ≡ false
      by true is = absurd (cc)
      by false is = before.gone

  joined_stands : Stands l k.client
  joined_stands = record {
    entries = omega (arith, before.stands.entries, ap length pushed, length-append (ledger_of d) ((join, Sequenced joined.message) ∷ []));
    base = before.stands.base;
    number = omega (arith, before.stands.number, ap seq pushed, seq-push (ledger_of d) (join, Sequenced joined.message));
  }

  joined_is : joined_for limits w d ≡ join ∷ []
  joined_is = ap (λ o. if is_some o then [] else join ∷ []) joined.taken

  -- ---- it heard all

  module _ (lane : Standing) (first : Roamer) (hears : HearsLane limits (joined_to limits w d) joined_roams.past lane h first) where
    pub lane_then : IsLaneOf limits lane (with_join w d)
    lane_then =
        subst (λ cs. IsLaneOf limits lane (record { raws = d.raws ++ join ∷ []; checkpoints = cs })) (append-nil d.checkpoints)
        (subst (λ raws. IsLaneOf limits lane (record { raws = d.raws ++ raws; checkpoints = d.checkpoints ++ [] })) joined_is hears.stands)

    pub heard_roams : IsRoamerIn l first (heard_all l k)
    heard_roams =
        hears_all takes_law l (ledger-legal (with_join w d).raws) h first k [] joined_roams joined_stands
        (subst (λ raws. TakesIn joined_roams.past (drop h.outbox.heard_to (order (ledger_by_rules (d.raws ++ raws)))) h first) joined_is hears.takes)

    abbrev again : ARoamer
    again = as_client (heard_all l k) (length d.raws)

    new_in : IsNewIn l again.client
    new_in = new_client loads_law limits w d k.client.document joined.message joined.taken joined.sequenced again.client refl

    pub unused : has_id own (ids heard_roams.past) ≡ false
    unused = ap (λ id. has_id id (ids heard_roams.past)) joined.client_is
        ∙ never_used l first (heard_all l k) (length d.raws) heard_roams refl joined_here before.later before.fits new_in

    module _ (second : Roamer) (turned : TakesClient heard_roams.past own first second) where
      pub again_roams : IsRoaming l second again again.client.pending
      again_roams = turns_back l first (heard_all l k) (length d.raws) heard_roams refl joined_here before.later before.fits new_in second (subst (λ id. TakesClient heard_roams.past id first second) joined.client_is turned)

      pub again_stands : Stands l again.client
      again_stands = record {
        entries = omega (arith, ap length pushed, length-append (ledger_of d) ((join, Sequenced joined.message) ∷ []), length_ledger d.raws);
        base = omega (arith, before.stands.base, joined_stands.number);
        number = omega arith;
      }

      pub is_back : (r : List ℕ) (last : Standing) (third : Roamer) (rule : Option NackRule) (line : List ℕ) → HasSent limits w (with_join w d) again again.client.pending last third rule
          → line ≡ line_for r (lines.back_line r own (seq l)) rule → IsBack limits w d k r last third line
      is_back r last third rule line sent said = record {
        stands = sent.stands;
        roams = subst (λ x. IsRoamerIn (ledger_of (with_entries (sends_again limits w d k).entries (with_join w d))) third (record again { is_lost = is_some x })) (sym sent.refused) sent.roams;
        says = said ∙ ap (λ id. line_for r (lines.back_line r id (seq l)) rule) joined.client_is ∙ ap (line_for r (lines.back_line r (entry_name (length d.raws)) (seq l))) (sym sent.refused);
      }

      abbrev back_so : Document
      back_so = with_entries (sends_again limits w d k).entries (with_join w d)

      pub comes_back : (r : List ℕ) (last : Standing) (third : Roamer) (rule : Option NackRule) (result : Result (List ℕ) Stop) → HasSent limits w (with_join w d) again again.client.pending last third rule
          → IsLine (line_for r (lines.back_line r own (seq l)) rule) result → ComesBack limits w d k r last third result
      comes_back r last third rule (Ok line) sent said = is_back r last third rule line sent said
      comes_back r last third rule (Err stop) sent said = wants_line (steps_on back_so last) stop said

      -- as what the roamer itself says
      pub back_says : (r : List ℕ) (last : Standing) (third : Roamer) (number : ℕ) (result : Result (List ℕ) Stop) → HasSent limits w (with_join w d) again again.client.pending last third None → number ≡ second.outbox.heard_to
          → IsLine (lines.back_line r third.client number) result → ComesBack limits w d k r last third result
      back_says r last third number result sent number_is said =
          comes_back r last third None result sent
          (subst (λ id. IsLine (lines.back_line r id (seq l)) result) (sent.roams.container.client_is ∙ sym joined.client_is)
          (subst (λ n. IsLine (lines.back_line r third.client n) result) (number_is ∙ again_roams.outbox.heard ∙ again_roams.heard) said))

  -- ---- by what the calls did

  module _ (lane : Standing) (first second : Roamer) (hears : (past : Past) → OutboxStands h.outbox past → HearsLane limits (joined_to limits w d) past lane h first)
      (turns : (past : Past) → OutboxStands first.outbox past → has_id own (ids past) ≡ false → TakesClient past own first second) where
    abbrev heard_now : HearsLane limits (joined_to limits w d) joined_roams.past lane h first
    heard_now = hears joined_roams.past joined_roams.outbox

    turned_now : TakesClient (heard_roams lane first heard_now).past own first second
    turned_now = turns (heard_roams lane first heard_now).past (heard_roams lane first heard_now).outbox (unused lane first heard_now)

    abbrev now : ARoamer
    now = as_client (heard_all l k) (length d.raws)

    -- what sending did, where it was asked to
    abbrev Sends : Standing → Roamer → Result (Option NackRule) Stop → Type 0
    Sends last third result = IsLaneOf limits lane (with_join w d) → Stands l now.client → IsRoaming l second now now.client.pending → SendsAll limits w (with_join w d) now now.client.pending last third result

    sent : (last : Standing) (third : Roamer) (result : Result (Option NackRule) Stop) → Sends last third result → SendsAll limits w (with_join w d) now now.client.pending last third result
    sent last third result sends =
        sends (lane_then lane first heard_now) (again_stands lane first heard_now second turned_now) (again_roams lane first heard_now second turned_now)

    pub back_stopped : (r : List ℕ) (last : Standing) (third : Roamer) (stop : Stop) → Sends last third (Err stop) → ComesBack limits w d k r last third (Err stop)
    back_stopped r last third stop sends = sent last third (Err stop) sends

    pub back_told : (r : List ℕ) (last : Standing) (third : Roamer) (number : ℕ) (result : Result (List ℕ) Stop) → Sends last third (Ok None) → number ≡ second.outbox.heard_to → IsLine (lines.back_line r third.client number) result
        → ComesBack limits w d k r last third result
    back_told r last third number result sends number_is said = back_says lane first heard_now second turned_now r last third number result (sent last third (Ok None) sends) number_is said

    pub back_nacked : (r : List ℕ) (last : Standing) (third : Roamer) (rule : NackRule) (result : Result (List ℕ) Stop) → Sends last third (Ok (Some rule)) → IsLine (lines.refused_line r rule) result → ComesBack limits w d k r last third result
    back_nacked r last third rule result sends said = comes_back lane first heard_now second turned_now r last third (Some rule) result (sent last third (Ok (Some rule)) sends) said

  -- what hindered it to hear all is no matter of the step
  pub back_unheard : (lane : Standing) (stop : Stop) → ((past : Past) → OutboxStands h.outbox past → IsHonest (steps_on (joined_to limits w d) lane) stop) → IsHonest (steps_on (with_entries (sends_again limits w d k).entries (with_join w d)) lane) stop
  back_unheard lane stop honest =
      honest_more (steps_on (with_join w d) lane) (steps_on (with_entries (sends_again limits w d k).entries (with_join w d)) lane) stop
      (omega (arith, length-append (with_join w d).raws (sends_again limits w d k).entries))
      (subst (λ raws. IsHonest (steps_on (record { raws = d.raws ++ raws; checkpoints = d.checkpoints ++ [] }) lane) stop) joined_is (honest joined_roams.past joined_roams.outbox))

-- ---- the step

module _ (others : OthersLeave) (limits : Limits) (w : World) (d : Document) (r : List ℕ) (k : ARoamer) (h : Roamer) (is : IsRoamerIn (ledger_of d) h k) (stands : Stands (ledger_of d) k.client) where
  abbrev leave : Raw
  leave = Leave (id_of k.client) w.moment

  back_is : (refusal : Option ConnectRefusal) → join_refusal (joining limits w (ledger_of (left w d k))) ≡ refusal → steps.came_back limits w d r k ≡ steps.back_by limits w (left w d k) r k leave refusal
  back_is refusal said = ap (steps.back_by limits w (left w d k) r k leave) said

  -- the join is refused
  pub back_refused : (refusal : ConnectRefusal) (lane : Standing) (result : Result (List ℕ) Stop) → join_refusal (joining limits w (ledger_of (left w d k))) ≡ Some refusal → IsLaneOf limits lane (joined_to limits w (left w d k))
      → IsLine (lines.turned_away_line r refusal) result → LaneSteps limits (steps.came_back limits w d r k) d k r lane h result
  back_refused refusal lane result refused of line = subst (λ e. LaneSteps limits e d k r lane h result) (sym (back_is (Some refusal) refused)) (by result line)
    where
      of_left : IsLaneOf limits lane (record { raws = d.raws ++ leave ∷ []; checkpoints = d.checkpoints ++ [] })
      of_left =
          subst (λ raws. IsLaneOf limits lane (record { raws = raws; checkpoints = d.checkpoints ++ [] })) (append-nil (d.raws ++ leave ∷ []))
          (subst (λ more. IsLaneOf limits lane (record { raws = (d.raws ++ leave ∷ []) ++ more; checkpoints = d.checkpoints ++ [] }))
          (ap (λ o. if is_some o then [] else join_for w (ledger_of (left w d k)) ∷ []) refused) of)

      by : (a : Result (List ℕ) Stop) → IsLine (lines.turned_away_line r refusal) a → LaneSteps limits (steps.back_by limits w (left w d k) r k leave (Some refusal)) d k r lane h a
      by (Ok text) line = record {
        stands = of_left;
        now = k;
        name = inr (refl, refl);
        same = refl;
        roams = left_roams others w d h k is stands;
        says = ap (λ t. t ∷ []) (sym line);
      }
      by (Err stop) line = wants_line (steps_on (grown (steps.back_by limits w (left w d k) r k leave (Some refusal)) d) lane) stop line

  -- it joined, and is back
  module _ (new : Roamer) (lane : Standing) (taken : join_refusal (joining limits w (ledger_of (left w d k))) ≡ None) where
    abbrev behind_leave : Document
    behind_leave = left w d k

    abbrev back_effect : Effect
    back_effect = steps.back_by limits w behind_leave r k leave None

    entries_are : d.raws ++ back_effect.entries ≡ ((d.raws ++ leave ∷ []) ++ join_for w (ledger_of behind_leave) ∷ []) ++ (sends_again limits w behind_leave k).entries
    entries_are =
        sym (append_assoc (d.raws ++ leave ∷ []) (join_for w (ledger_of behind_leave) ∷ []) (sends_again limits w behind_leave k).entries ∙ append_assoc d.raws (leave ∷ []) (join_for w (ledger_of behind_leave) ∷ (sends_again limits w behind_leave k).entries))

    steps_are : steps_on (with_entries (sends_again limits w behind_leave k).entries (with_join w behind_leave)) lane ≤ steps_on (grown back_effect d) lane
    steps_are = omega (arith, ap length entries_are)

    back_by : (a : Result (List ℕ) Stop) → ComesBack limits w behind_leave k r lane new a → LaneSteps limits back_effect d k r lane new a
    back_by (Ok line) did = record {
      stands = subst (λ raws. IsLaneOf limits lane (record { raws = raws; checkpoints = d.checkpoints ++ [] })) (sym entries_are)
          (subst (λ cs. IsLaneOf limits lane (record { raws = ((d.raws ++ leave ∷ []) ++ join_for w (ledger_of behind_leave) ∷ []) ++ (sends_again limits w behind_leave k).entries; checkpoints = cs })) (sym (append-nil d.checkpoints)) did.stands);
      now = stands_again limits w behind_leave k;
      name = inl refl;
      same = refl;
      roams = subst (λ raws. IsRoamerIn (ledger_by_rules raws) new (stands_again limits w behind_leave k)) (sym entries_are) did.roams;
      says = ap (λ t. t ∷ []) (sym did.says);
    }
    back_by (Err stop) did = honest_more (steps_on (with_entries (sends_again limits w behind_leave k).entries (with_join w behind_leave)) lane) (steps_on (grown back_effect d) lane) stop steps_are did

    pub back_steps : (result : Result (List ℕ) Stop) → ComesBack limits w behind_leave k r lane new result → LaneSteps limits (steps.came_back limits w d r k) d k r lane new result
    back_steps result did = subst (λ x. LaneSteps limits x d k r lane new result) (sym (back_is None taken)) (back_by result did)

-- what hindered it to join is no matter of the step, whose leave stands
pub left_honest : (limits : Limits) (w : World) (d : Document) (r : List ℕ) (k : ARoamer) (lane : Standing) (stop : Stop) → IsHonest (steps_on (left w d k) lane) stop → IsHonest (steps_on (grown (steps.came_back limits w d r k) d) lane) stop
left_honest limits w d r k lane stop honest = by (join_refusal (joining limits w (ledger_of (left w d k))))
  where
    by : (refusal : Option ConnectRefusal) → IsHonest (steps_on (grown (steps.back_by limits w (left w d k) r k (Leave (id_of k.client) w.moment) refusal) d) lane) stop
    by (Some refusal) = honest
    by None =
        honest_more (steps_on (left w d k) lane) (steps_on (grown (steps.back_by limits w (left w d k) r k (Leave (id_of k.client) w.moment) None) d) lane) stop
        (omega (arith, length-append d.raws (Leave (id_of k.client) w.moment ∷ []), length-append d.raws (steps.back_by limits w (left w d k) r k (Leave (id_of k.client) w.moment) None).entries)) honest
