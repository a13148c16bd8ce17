-- An edit that a roamer says: its number, and whether it is sent.
use Rattle.std.proofs.Common.{◌≡◌, ℕ, arith, Bool, true, false, not, List, [], ◌∷◌, length, is_some, refl, ap, ◌∙◌, length-drop}
use Rattle.std.proofs.lemmas.List.{length-map}
use Rattle.fluid_edits.specs.declared.edit.Edit.{Edit}
use Rattle.fluid_edits.specs.Forms.{contents_of}
use Rattle.fluid_types.specs.Ledger.{Ledger}
use Rattle.fluid_outbox.specs.Past.{current, edits}
use Rattle.fluid_transcript.specs.World.{Roamer as ARoamer}
use Rattle.fluid_transcript.specs.Containers.{id_of}
use Rattle.fluid_transcript.specs.Roamers as steps
use Rattle.fluid_holding.specs.Laws.{Stands}
use Rattle.fluid_roamers.specs.Roaming.{IsRoaming, current_of}
use Rattle.fluid_roamers.specs.declared.roamer.Roamer.{Roamer}

-- as many edits were pushed as were said
pub said_so_far : (l : Ledger) (h : Roamer) (k : ARoamer) (rest : List Edit) (is : IsRoaming l h k rest) → length (edits is.past) ≡ steps.edits k
said_so_far l h k rest is =
    omega (arith, length-drop k.stood (edits is.past), ap (λ xs. length xs) is.contents, length-map k.client.pending contents_of, is.outbox.few, is.stood)

current_lost : (b : Bool) (id : List ℕ) → not (is_some (current_of b id)) ≡ b
current_lost true id = refl
current_lost false id = refl

-- it is lost where no id is current
pub lost_known : (l : Ledger) (h : Roamer) (k : ARoamer) (rest : List Edit) (is : IsRoaming l h k rest) (b : Bool) → b ≡ not (is_some (current is.past)) → b ≡ k.is_lost
lost_known l h k rest is b known = known ∙ ap (λ o. not (is_some o)) is.now ∙ current_lost k.is_lost (id_of k.client)

-- an edit more changes nothing of where its client stands
pub stands_with : (l : Ledger) (k : ARoamer) (edit : Edit) → Stands l k.client → Stands l (steps.with_edit k edit).client
stands_with l k edit is = record { entries = is.entries; base = is.base; number = is.number }

-- one edit waits, so something is sent
pub one_waits : (edit : Edit) → ◌≡◌ {A = List Edit} (edit ∷ []) [] → ⊥
one_waits edit is = cc
