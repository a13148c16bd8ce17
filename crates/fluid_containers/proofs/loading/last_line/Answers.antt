use Rattle.std.proofs.Common.{ap, subst, ◌∙◌}
use Rattle.fluid_transcript.specs.Lines as lines
use Rattle.fluid_desk.specs.Acting.{IsLine}
use Rattle.fluid_containers.specs.Loading.{Becomes}
use Rattle.fluid_runtime.specs.Shown.{shown}
use Rattle.fluid_loader.specs.Calls.{shown_channels}
use Rattle.fluid_containers.proofs.Ends.{line_wants, told_wants}
use Rattle.fluid_containers.proofs.Loads.{held_end, turned_end, none_end, bad_end}
use Rattle.fluid_containers.proofs.loading.last_line.Goals as goal

pub returns-in-Held-clause-says : goal.returns-in-Held-clause-says
returns-in-Held-clause-says c = λ l held load becomes.
    subst (λ t. IsLine t c.shown.result) (ap (λ n. lines.shown_line n c.in-Held.holder.container.number (shown (shown_channels c.in-Held.holder.container))) c.as_str-name.ensures.bytes ∙ held_end l held c.args.document.now c.args.document.now c.in-Held.holder load (subst (Becomes l held load) c.in-Held.is becomes)) c.shown.ensures

pub returns-in-Held-clause-memory : goal.returns-in-Held-clause-memory
returns-in-Held-clause-memory c = line_wants _ c.shown.result c.shown.ensures

pub returns-in-TurnedAway-clause-says : goal.returns-in-TurnedAway-clause-says
returns-in-TurnedAway-clause-says c = λ l held load becomes.
    subst (λ t. IsLine t c.line_or_stop.result) (ap (λ n. lines.turned_away_line n c.in-TurnedAway.refusal) c.as_str-name.ensures.bytes ∙ turned_end l held c.args.document.now c.args.document.now c.in-TurnedAway.refusal load (subst (Becomes l held load) c.in-TurnedAway.is becomes)) (c.line_or_stop.ensures _ c.turned_away_line.ensures)

pub returns-in-TurnedAway-clause-memory : goal.returns-in-TurnedAway-clause-memory
returns-in-TurnedAway-clause-memory c = told_wants c.turned_away_line.result c.line_or_stop.result c.line_or_stop.ensures

pub returns-in-NoSummary-clause-says : goal.returns-in-NoSummary-clause-says
returns-in-NoSummary-clause-says c = λ l held load becomes.
    subst (λ t. IsLine t c.line_or_stop-in-NoSummary.result) (ap lines.no_summary_line c.as_str-name.ensures.bytes ∙ none_end l held c.args.document.now c.args.document.now load (subst (Becomes l held load) c.in-NoSummary.is becomes)) (c.line_or_stop-in-NoSummary.ensures _ c.no_summary_line.ensures)

pub returns-in-NoSummary-clause-memory : goal.returns-in-NoSummary-clause-memory
returns-in-NoSummary-clause-memory c = told_wants c.no_summary_line.result c.line_or_stop-in-NoSummary.result c.line_or_stop-in-NoSummary.ensures

pub returns-in-BadSummary-clause-says : goal.returns-in-BadSummary-clause-says
returns-in-BadSummary-clause-says c = λ l held load becomes.
    subst (λ t. IsLine t c.line_or_stop-in-BadSummary.result) (ap (λ n. lines.bad_summary_line n c.as_str.result.now) c.as_str-name.ensures.bytes ∙ ap (lines.bad_summary_line c.args.document.now) c.as_str.ensures ∙ bad_end l held c.args.document.now c.args.document.now c.in-BadSummary.path load (subst (Becomes l held load) c.in-BadSummary.is becomes)) (c.line_or_stop-in-BadSummary.ensures _ c.bad_summary_line.ensures)

pub returns-in-BadSummary-clause-memory : goal.returns-in-BadSummary-clause-memory
returns-in-BadSummary-clause-memory c = told_wants c.bad_summary_line.result c.line_or_stop-in-BadSummary.result c.line_or_stop-in-BadSummary.ensures
