-- The numbers of a lane are those of its document.
use Rattle.std.proofs.Common.{◌≡◌, ℕ, true, false, List, length, Option, Some, None, refl, sym, ap, subst, ◌∙◌}
use Rattle.std.specs.Prelude.{is_some, option_map, unwrap_or}
use Rattle.std.specs.FinMap.{get}
use Rattle.fluid_types.specs.Ledger.{Ledger}
use Rattle.fluid_rules.specs.Past.{Client}
use Rattle.fluid_rules.specs.Rules.{client}
use Rattle.fluid_clients.specs.declared.table.Row.{Row}
use Rattle.fluid_ticket.proofs.Ledgers.{rowed, get-state_of}
use Rattle.fluid_core.specs.Entering.{state_of}
use Rattle.fluid_document.specs.Entries.{Entries, entries_of}
use Rattle.fluid_lane.specs.Standing.{Standing}
use Rattle.fluid_lanes.specs.Opened.{Opened}
use Rattle.fluid_log.specs.Keeping.{Keeping}
use Rattle.fluid_log.specs.Shelving.{keeper_under}
use Rattle.fluid_transcript.specs.World.{Document, World, document, is_open, ledger_of}
use Rattle.fluid_transcript.proofs.Fitting.{length_ledger}
use Rattle.fluid_rules.specs.declared.limits.Limits.{Limits}
use Rattle.fluid_desk.specs.Stands.{IsLaneOf, IsDocument, DeskStands}
use Rattle.fluid_desk.proofs.Laned.{says as lane_of, is_told}
use Rattle.fluid_workload.specs.Working.{last_number}
use Rattle.fluid_turns.specs.declared.figures.Figures.{Figures}
use Rattle.fluid_turns.specs.Figuring.{AreFigures, ReadsOff, last_in}

-- a document of a desk that isn't open has no lane
no_lane : (limits : Limits) (k : Keeping) (d : Document) → IsDocument limits None k true d → (A : Type 0) → A
no_lane limits k d is A = absurd is

pub never_shut : (A : Type 0) (o : Opened) (w : World) (name : List ℕ) → DeskStands o w → is_open w name ≡ true → is_some (get o.lanes name) ≡ false → A
never_shut A o w name desk opened shut = by (get o.lanes name) refl
  where
    by : (lane : Option Standing) → get o.lanes name ≡ lane → A
    by None there =
        no_lane o.limits (keeper_under desk.held name) (document w name)
        (subst (λ b. IsDocument o.limits None (keeper_under desk.held name) b (document w name)) opened
        (subst (λ l. IsDocument o.limits l (keeper_under desk.held name) (is_open w name) (document w name)) there (desk.documents name))) A
    by (Some lane) there = let is : true ≡ false = sym (ap is_some there) ∙ shut in absurd (cc)

rows_are : (l : Ledger) (id : List ℕ) → get (entries_of l).state.sequencer.rows id ≡ option_map rowed (client l id)
unfolding state_of entries_of
rows_are l id = get-state_of l id

module _ (limits : Limits) (s : Standing) (d : Document) (of : IsLaneOf limits s d) where
  pub are_figures : (f : Figures) → ReadsOff s f → AreFigures f d
  are_figures f reads =
      let l = lane_of limits s d of in
      record {
        entries = reads.entries ∙ l.entered ∙ length_ledger d.raws;
        sequence = reads.sequence ∙ l.seq;
        checkpoints = reads.checkpoints ∙ of.checkpoints;
        summaries = reads.summaries ∙ ap length l.acks;
      }

  row_last : (o : Option Row) (said : Option Client) (rowed : Client → Row) → ((c : Client) → (rowed c).last ≡ c.last) → o ≡ option_map rowed said
      → last_in o ≡ unwrap_or (option_map (λ (c : Client). c.last) said) 0
  row_last o None rowed same is = ap last_in is
  row_last o (Some c) rowed same is = ap last_in is ∙ same c

  pub number_is : (id : List ℕ) → last_in (get s.entries.state.sequencer.rows id) ≡ last_number (ledger_of d) id
  number_is id =
      row_last (get s.entries.state.sequencer.rows id) (client (ledger_of d) id) rowed (λ c. refl)
      (ap (λ (e : Entries). get e.state.sequencer.rows id) (is_told limits s d of).stands.entries ∙ ap (λ l. get (entries_of l).state.sequencer.rows id) of.entries ∙ rows_are (ledger_of d) id)
