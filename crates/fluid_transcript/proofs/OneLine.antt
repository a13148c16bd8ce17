-- A line of a script over a document that is open, in equations.
use Rattle.std.proofs.Common.{◌≡◌, ℕ, ◌+◌, ◌==◌, Bool, true, false, if◌then◌else◌, List, [], ◌∷◌, ◌++◌, length, Some, Ok, refl, ap, ap₂, ◌∙◌}
use Rattle.std.specs.Prelude.{unwrap_or}
use Rattle.std.specs.FinMap.{FinMap, insert, empty, get-empty}
use Rattle.fluid_table.specs.Table.{byte_order}
use Rattle.fluid_table.proofs.Places.{get_own, insert_again}
use Rattle.fluid_types.specs.declared.entries.Raw.{Raw}
use Rattle.fluid_rules.specs.declared.limits.Limits.{Limits}
use Rattle.fluid_steps.specs.Grammar.{step_spelled}
use Rattle.fluid_steps.specs.declared.steps.Step.{Step}
use Rattle.fluid_voice.specs.Ends.{is_beyond}
use Rattle.fluid_transcript.specs.World.{Document, Name, World, new_document, document, is_open, farewells, with_entries, Effect, Told, with_name, grown, does}
use Rattle.fluid_transcript.specs.Steps.{about, effect}
use Rattle.fluid_transcript.specs.Examples.{d}
use Rattle.fluid_transcript.specs.ScriptExamples.{at_first, with_one}
use Rattle.fluid_transcript.specs.Transcript.{readied, done_in, at_line, taken, behind, lines_of}

-- what a line does by a step on its document
told_by : (limits : Limits) (w : World) (line name : List ℕ) (step : Step) → (length line == 0) ≡ false → step_spelled line ≡ Ok step → about (at_line w) step ≡ Some name
    → is_beyond w.opened name ≡ false → taken limits w line ≡ done_in limits (readied (at_line w) name) name step
told_by limits w line name step full spelled reached within =
    rw (full, spelled) (rw reached (rw within refl))

by_effect : (limits : Limits) (w : World) (name : List ℕ) (step : Step) (d : Document) (e : Effect) → document w name ≡ d → effect limits w d step ≡ e
    → done_in limits w name step ≡ record { world = record w { documents = insert w.documents name (grown e d); store = e.store; names = with_name e.name w.names }; lines = e.lines }
by_effect limits w name step d e is does_it =
    ap (λ doc. does (effect limits w doc step) (Some name) w) is ∙ ap (λ f. does f (Some name) w) does_it
    ∙ ap (λ doc. record { world = record w { documents = insert w.documents name (grown e doc); store = e.store; names = with_name e.name w.names }; lines = e.lines }) is

-- a document that is open stays as it is
pub on_open : (limits : Limits) (w : World) (line name : List ℕ) (step : Step) (d : Document) (e : Effect) → (length line == 0) ≡ false → step_spelled line ≡ Ok step
    → about (at_line w) step ≡ Some name → is_beyond w.opened name ≡ false → is_open w name ≡ true → document w name ≡ d → effect limits (at_line w) d step ≡ e
    → taken limits w line ≡ record { world = record w { documents = insert w.documents name (grown e d); store = e.store; names = with_name e.name w.names; moment = w.moment + 1 }; lines = e.lines }
on_open limits w line name step d e full spelled reached within opened is does_it =
    told_by limits w line name step full spelled reached within
    ∙ ap (λ (b : Bool). done_in limits (if b then at_line w else (record w {
      documents = insert w.documents name (with_entries (farewells (w.moment + 1) (document w name)) (document w name));
      opened = w.opened ++ name ∷ [];
      moment = w.moment + 1;
    })) name step) opened
    ∙ by_effect limits (at_line w) name step d e is does_it

-- one that wasn't open is readied
pub on_new : (limits : Limits) (w : World) (line name : List ℕ) (step : Step) (d : Document) (e : Effect) (r : World) → (length line == 0) ≡ false → step_spelled line ≡ Ok step
    → about (at_line w) step ≡ Some name → is_beyond w.opened name ≡ false → readied (at_line w) name ≡ r → document r name ≡ d → effect limits r d step ≡ e
    → taken limits w line ≡ record { world = record r { documents = insert r.documents name (grown e d); store = e.store; names = with_name e.name r.names }; lines = e.lines }
on_new limits w line name step d e r full spelled reached within ready is does_it =
    told_by limits w line name step full spelled reached within
    ∙ ap (λ v. done_in limits v name step) ready
    ∙ by_effect limits r name step d e is does_it

-- one line, and the others from the world behind it
pub and_then : (limits : Limits) (w v : World) (line : List ℕ) (lines said others : List (List ℕ)) → taken limits w line ≡ record { world = v; lines = said } → lines_of limits v lines ≡ others
    → lines_of limits w (line ∷ lines) ≡ said ++ others
and_then limits w v line lines said others is later =
    ap (λ (t : Told). t.lines ++ lines_of limits t.world lines) is ∙ ap (λ more. said ++ more) later

pub and_behind : (limits : Limits) (w v last : World) (line : List ℕ) (lines said : List (List ℕ)) → taken limits w line ≡ record { world = v; lines = said } → behind limits v lines ≡ last
    → behind limits w (line ∷ lines) ≡ last
and_behind limits w v last line lines said is later = ap (λ (t : Told). behind limits t.world lines) is ∙ later

-- ---- over one document that is open, with nothing held

pub on_one : (limits : Limits) (moment : ℕ) (raws : List Raw) (names : FinMap byte_order Name) (line : List ℕ) (step : Step) (e : Effect) → (length line == 0) ≡ false → step_spelled line ≡ Ok step
    → about (at_line (with_one moment raws names)) step ≡ Some d → effect limits (at_line (with_one moment raws names)) (record { raws = raws; checkpoints = [] }) step ≡ e
    → e.checkpoints ≡ [] → e.store ≡ empty
    → taken limits (with_one moment raws names) line ≡ record { world = with_one (moment + 1) (raws ++ e.entries) (with_name e.name names); lines = e.lines }
on_one limits moment raws names line step e full spelled reached does_it none nothing =
    on_open limits (with_one moment raws names) line d step (record { raws = raws; checkpoints = [] }) e full spelled reached refl refl
    (ap (λ o. unwrap_or o new_document) (get_own empty d (record { raws = raws; checkpoints = [] }))) does_it
    ∙ ap (λ documents. record { world = record { documents = documents; opened = d ∷ []; store = e.store; names = with_name e.name names; moment = moment + 1 }; lines = e.lines })
    (insert_again empty d (record { raws = raws; checkpoints = [] }) (record { raws = raws ++ e.entries; checkpoints = e.checkpoints }))
    ∙ ap₂ (λ checkpoints store. record { world = record { documents = insert empty d (record { raws = raws ++ e.entries; checkpoints = checkpoints }); opened = d ∷ []; store = store; names = with_name e.name names; moment = moment + 1 }; lines = e.lines }) none nothing

-- at first no document is open
first_ready : (moment : ℕ) → farewells moment new_document ≡ [] → readied (record at_first { moment = moment }) d ≡ with_one moment [] empty
first_ready moment none =
    ap (λ doc. record { documents = insert empty d (with_entries (farewells moment doc) doc); opened = d ∷ []; store = empty; names = empty; moment = moment })
    (ap (λ o. unwrap_or o new_document) (get-empty byte_order d))
    ∙ ap (λ raws. with_one moment raws empty) none

pub on_first : (limits : Limits) (line : List ℕ) (step : Step) (e : Effect) → (length line == 0) ≡ false → step_spelled line ≡ Ok step → about (at_line at_first) step ≡ Some d
    → farewells 1 new_document ≡ [] → effect limits (with_one 1 [] empty) new_document step ≡ e → e.checkpoints ≡ [] → e.store ≡ empty
    → taken limits at_first line ≡ record { world = with_one 1 e.entries (with_name e.name empty); lines = e.lines }
on_first limits line step e full spelled reached nobody does_it none nothing =
    on_new limits at_first line d step new_document e (with_one 1 [] empty) full spelled reached refl (first_ready 1 nobody)
    (ap (λ o. unwrap_or o new_document) (get_own empty d new_document)) does_it
    ∙ ap (λ documents. record { world = record { documents = documents; opened = d ∷ []; store = e.store; names = with_name e.name empty; moment = 1 }; lines = e.lines })
    (insert_again empty d new_document (record { raws = e.entries; checkpoints = e.checkpoints }))
    ∙ ap₂ (λ checkpoints store. record { world = record { documents = insert empty d (record { raws = e.entries; checkpoints = checkpoints }); opened = d ∷ []; store = store; names = with_name e.name empty; moment = 1 }; lines = e.lines }) none nothing
