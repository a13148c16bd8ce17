use Rattle.std.proofs.Common.{◌≡◌, ap, subst, ◌∙◌}
use Rattle.std.specs.Prelude.{IfOk}
use Rattle.fluid_transcript.specs.Lines as lines
use Rattle.fluid_containers.specs.Loading.{Becomes}
use Rattle.fluid_containers.proofs.Loads.{held_line, turned_line, none_line, bad_line}
use Rattle.fluid_containers.proofs.loading.load_line.Goals as goal

pub returns-in-Held : goal.returns-in-Held
returns-in-Held c = λ l held load becomes.
    subst (λ t. IfOk c.loaded_line.result (λ line. line ≡ t)) (ap (lines.loaded_line c.args.name.now c.args.document.now) c.seq.ensures ∙ held_line l held c.args.name.now c.args.document.now c.in-Held.holder load (subst (Becomes l held load) c.in-Held.is becomes)) c.loaded_line.ensures

pub returns-in-TurnedAway : goal.returns-in-TurnedAway
returns-in-TurnedAway c = λ l held load becomes.
    subst (λ t. IfOk c.turned_away_line.result (λ line. line ≡ t)) (ap (λ n. lines.turned_away_line n c.in-TurnedAway.refusal) c.as_str-own.ensures.bytes ∙ turned_line l held c.args.name.now c.args.document.now c.in-TurnedAway.refusal load (subst (Becomes l held load) c.in-TurnedAway.is becomes)) c.turned_away_line.ensures

pub returns-in-NoSummary : goal.returns-in-NoSummary
returns-in-NoSummary c = λ l held load becomes.
    subst (λ t. IfOk c.no_summary_line.result (λ line. line ≡ t)) (ap lines.no_summary_line c.as_str-own.ensures.bytes ∙ none_line l held c.args.name.now c.args.document.now load (subst (Becomes l held load) c.in-NoSummary.is becomes)) c.no_summary_line.ensures

pub returns-in-BadSummary : goal.returns-in-BadSummary
returns-in-BadSummary c = λ l held load becomes.
    subst (λ t. IfOk c.bad_summary_line.result (λ line. line ≡ t)) (ap (λ n. lines.bad_summary_line n c.as_str.result.now) c.as_str-own.ensures.bytes ∙ ap (lines.bad_summary_line c.args.name.now) c.as_str.ensures ∙ bad_line l held c.args.name.now c.args.document.now c.in-BadSummary.path load (subst (Becomes l held load) c.in-BadSummary.is becomes)) c.bad_summary_line.ensures
